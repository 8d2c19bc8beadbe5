-- That a direct call is the line of its frame: a line's bytes are held and change nothing but the unfinished line, and
-- its line feed does what the call does. Assumes nothing.
use Prim.Native.Nat.{ℕ, zero, suc, ◌/◌, ◌%◌, ◌^◌, ◌<◌}
use native.Mathlib.Nat.{mod-lt}
use native.Mathlib.Omega.{arith}
use mathlib.Core.Path.{◌≡◌, refl, sym, ap, ap₂, subst, ◌∙◌}
use mathlib.Core.Logic.{◌≢◌}
use mathlib.Core.List.{List, [], ◌∷◌, ◌++◌, append_assoc, append-nil}
use lib.ListN.{length}
use Rattle.std.specs.Prelude.{Err, Ok}
use Rattle.rules.specs.declared.Session.{Session}
use Rattle.rules.specs.declared.Fields.{Fields}
use Rattle.rules.specs.declared.Frame.TheVariants.{Grant, Release, Read, Write}
use Rattle.rules.specs.Field.{Field}
use Rattle.rules.specs.Limits.{frame_fields, frame_digits, line_feed, kind_grant, kind_release, kind_read, kind_write}
use Rattle.rules.specs.Grant.{grant}
use Rattle.rules.specs.Release.{release, Pool}
use Rattle.rules.specs.Hex.{digit, digits, digits_zero, digits_suc, written, written_nil, written_cons}
use Rattle.rules.specs.Frames.{Asked, fields, frame, with_zero, frame_of_line, answer_line, line_of}
use Rattle.rules.specs.Feed.{State, no_bytes, emptied, act_line, finish, hold, after, run, run_nil}
use Rattle.rules.specs.Watcher.{act, watcher, outcome}
use Rattle.rules.specs.Calls.{as_line}
use Rattle.rules.proofs.Put.{Each}
use Rattle.rules.proofs.Hex.{length_written}
use Rattle.rules.proofs.Frames.{fields_written, line_asks, frame_grant, frame_release, frame_read, frame_write}
use Rattle.rules.proofs.Frames.{with_zero_is, line_whole}
use Rattle.rules.proofs.Feed.{SameNumbers, Quiet, run_append, run_numbers, run_quiet}
use Rattle.rules.proofs.Calls.{grant_as_frame, release_as_frame, access_as_frame}
use Rattle.promises.specs.Direct.{told_as, DirectCalls}
use Rattle.promises.proofs.Lines.{digit_no_feed, Spells, spells_none, spells_more, spells_asks}
use Rattle.promises.proofs.Replay.{run_feed, run_byte}

-- ---- a line's bytes

-- none of them is a line feed
abbrev NoFeed : List ℕ → Type 0
NoFeed = Each (λ b. b ≢ line_feed)

no_feed_cons : (b : ℕ) (line : List ℕ) → b ≢ line_feed → NoFeed line → NoFeed (b ∷ line)
no_feed_cons b line first rest zero below = first
no_feed_cons b line first rest (suc k) below = rest k (omega arith)

no_feed_append : (xs ys : List ℕ) → NoFeed xs → NoFeed ys → NoFeed (xs ++ ys)
no_feed_append [] ys first second = second
no_feed_append (x ∷ xs) ys first second =
    no_feed_cons x (xs ++ ys) (first zero (omega arith))
    (no_feed_append xs ys (λ k below. first (suc k) (omega arith)) second)

no_feed_digits : (k n : ℕ) → NoFeed (digits k n)
no_feed_digits zero n = subst NoFeed (sym (digits_zero n)) (λ k below. absurd (omega arith))
no_feed_digits (suc k) n =
    subst NoFeed (sym (digits_suc k n))
    (no_feed_cons (digit (n / 16 ^ k % 16)) (digits k n)
    (digit_no_feed (n / 16 ^ k % 16) (mod-lt (n / 16 ^ k) (omega arith))) (no_feed_digits k n))

no_feed_written : {A : Type 0} (fields : List (Field A)) (a : A) → NoFeed (written fields a)
no_feed_written [] a = subst NoFeed (sym (written_nil a)) (λ k below. absurd (omega arith))
no_feed_written (f ∷ fields) a =
    subst NoFeed (sym (written_cons f fields a))
    (no_feed_append (digits f.width (f.number a)) (written fields a)
    (no_feed_digits f.width (f.number a)) (no_feed_written fields a))

-- the session stands for them
spells_run : (line bytes : List ℕ) (st : State Pool) → NoFeed line → Spells st.session bytes
    → Spells (run watcher st line).state.session (bytes ++ line)
unfolding hold
spells_run [] bytes st none· spells =
    subst (λ r. Spells r.state.session (bytes ++ [])) (sym (run_nil watcher st))
    (subst (Spells st.session) (sym (append-nil bytes)) spells)
spells_run (b ∷ line) bytes st none· spells =
    subst (λ r. Spells r.state.session (bytes ++ (b ∷ line))) (sym (run_byte st b line (none· zero (omega arith))))
    (subst (Spells (run watcher (hold st b).state line).state.session) (append_assoc bytes (b ∷ []) line)
    (spells_run line (bytes ++ (b ∷ [])) (hold st b).state (λ k below. none· (suc k) (omega arith))
    (spells_more spells b)))

-- ---- a line

-- what a frame does goes by R and Q alone, and an emptied session by the four numbers
act_same : (session other : Session) (shadow table : List ℕ) (k : Asked) → SameNumbers session other
    → act other shadow table k ≡ act session shadow table k
unfolding act
act_same session other shadow table (Ok (Grant s)) same = ap (λ R. grant R shadow table s) same.redzone
act_same session other shadow table (Ok (Release a)) same =
    ap₂ (λ R Q. release R Q shadow table a) same.redzone same.quarantine
act_same session other shadow table (Ok (Read a n)) same = refl
act_same session other shadow table (Ok (Write a n)) same = refl
act_same session other shadow table (Err refusal) same = refl

emptied_same : (session other : Session) → SameNumbers session other → emptied other ≡ emptied session
unfolding emptied
emptied_same session other same =
    ap₂ (λ S n. record {
      granules = S;
      rows = n;
      redzone = other.redzone;
      quarantine = other.quarantine;
      unfinished =
          0;
      line = no_bytes;
    })
    same.granules same.rows
    ∙ ap₂ (λ R Q. record {
      granules = session.granules;
      rows = session.rows;
      redzone = R;
      quarantine = Q;
      unfinished =
          0;
      line = no_bytes;
    })
    same.redzone same.quarantine

-- a line with no line feed in it, and then a line feed: what its frame does
line_runs : (st : State Pool) (line : List ℕ) (k : Asked) → st.session ≡ emptied st.session
    → NoFeed line → frame_of_line (length line) line ≡ k
    → run watcher st (line ++ (line_feed ∷ []))
    ≡ told_as st (as_line (act st.session st.pool.shadow st.pool.table k))
unfolding finish act_line emptied
line_runs st line k none· no_feed asks_k =
    let mid : State Pool = (run watcher st line).state in
    let quiet : Quiet watcher st (run watcher st line) = run_quiet watcher st line no_feed in
    let same : SameNumbers st.session mid.session = run_numbers watcher st line in
    let empty_line : Spells st.session [] =
    subst (λ s. Spells s []) (sym none·) (spells_none (emptied st.session) refl refl) in
    let spells : Spells mid.session line = spells_run line [] st no_feed empty_line in
    let asked_is : frame_of_line mid.session.unfinished mid.session.line ≡ k =
    sym (spells_asks spells) ∙ asks_k in
    let session_is : emptied mid.session ≡ st.session =
    emptied_same st.session mid.session same ∙ sym none· in
    let acted_is : act_line watcher mid ≡ outcome (act st.session st.pool.shadow st.pool.table k) =
    ap (λ frame. outcome (act mid.session mid.pool.shadow mid.pool.table frame)) asked_is
    ∙ ap (λ pool. outcome (act mid.session pool.shadow pool.table k)) quiet.pool
    ∙ ap outcome (act_same st.session mid.session st.pool.shadow st.pool.table k same) in
    run_append watcher st line (line_feed ∷ [])
    ∙ ap (λ report. after report (run watcher mid (line_feed ∷ []))) quiet.report
    ∙ run_feed mid []
    ∙ ap (after (finish watcher mid).report) (run_nil watcher (finish watcher mid).state)
    ∙ ap (λ report. record { state = (finish watcher mid).state; report = report })
    (append-nil (finish watcher mid).report)
    ∙ ap₂ (λ session done. record {
      state = record { session = session; pool = done.pool };
      report = answer_line
          done.answer;
    })
    session_is acted_is

-- the line of a frame of 32-bit numbers asks that frame
frame_runs : (st : State Pool) (kind A B : ℕ) → st.session ≡ emptied st.session
    → kind < 16 ^ 2 → A < 16 ^ 8 → B < 16 ^ 8
    → run watcher st (line_of (fields kind A B))
    ≡ told_as st (as_line (act st.session st.pool.shadow st.pool.table (frame (fields kind A B))))
unfolding line_of
frame_runs st kind A B none· in2 in8 in8' =
    let said : Fields = fields kind A B in
    let line : List ℕ = written frame_fields said in
    line_runs st line (frame said) none· (no_feed_written frame_fields said)
    (ap (λ n. frame_of_line n line) (length_written frame_fields said)
    ∙ line_asks frame_digits line said (line_whole line ∙ fields_written kind A B in2 in8 in8'))

-- ---- the calls

pub direct_calls : DirectCalls
unfolding with_zero act
direct_calls = record {
  grant = λ st idle s fits.
      frame_runs st kind_grant s 0 idle.none_unfinished (omega arith) fits (omega arith)
      ∙ ap (told_as st)
      (ap (λ f. as_line (act st.session st.pool.shadow st.pool.table f))
      (frame_grant s 0 ∙ with_zero_is (Grant s))
      ∙ sym (grant_as_frame st.session st.pool.shadow st.pool.table s idle.fits));
  release = λ st idle a fits.
      frame_runs st kind_release a 0 idle.none_unfinished (omega arith) fits (omega arith)
      ∙ ap (told_as st)
      (ap (λ f. as_line (act st.session st.pool.shadow st.pool.table f))
      (frame_release a 0 ∙ with_zero_is (Release a))
      ∙ sym (release_as_frame st.session st.pool.shadow st.pool.table a idle.fits));
  read = λ st idle a n fits fits'.
      frame_runs st kind_read a n idle.none_unfinished (omega arith) fits fits'
      ∙ ap (told_as st)
      (ap (λ f. as_line (act st.session st.pool.shadow st.pool.table f))
      (frame_read a n)
      ∙ sym (access_as_frame st.session st.pool.shadow st.pool.table a n idle.fits));
  write = λ st idle a n fits fits'.
      frame_runs st kind_write a n idle.none_unfinished (omega arith) fits fits'
      ∙ ap (told_as st)
      (ap (λ f. as_line (act st.session st.pool.shadow st.pool.table f))
      (frame_write a n)
      ∙ sym (access_as_frame st.session st.pool.shadow st.pool.table a n idle.fits));
}
