-- A piece, byte by byte: what is left to run after some bytes is what was to run, less what is done. Assumes nothing.
use Prim.Native.Nat.{ℕ, suc, ◌+◌, ◌-◌, ◌≤◌, ◌<◌, zero-le}
use native.Mathlib.Nat.{sub-zero}
use native.Mathlib.Numerals.{add-one}
use native.Mathlib.Omega.{arith}
use mathlib.Core.Path.{◌≡◌, refl, sym, ap, subst, ◌∙◌}
use mathlib.Core.Logic.{◌≢◌}
use mathlib.Core.List.{List, [], ◌∷◌, ◌++◌, append_assoc, append-nil}
use lib.ListN.{length, get_or, take, drop, length-append, length-drop, drop_of_length-le}
use lib.Seq.{length-take-le, drop-cons}
use borrow.Author.Tests.{ne_eqb, lt-ltb, le-ltb}
use Rattle.std.specs.Prelude.{Ok}
use Rattle.rules.specs.declared.Session.{Session}
use Rattle.rules.specs.declared.Fed.{Fed}
use Rattle.rules.specs.Limits.{line_feed, answer_bytes}
use Rattle.rules.specs.Answers.{call_status}
use Rattle.rules.specs.Put.{put}
use Rattle.rules.specs.Release.{Pool}
use Rattle.rules.specs.Feed.{State, Ran, lengthened, finish, hold, step, after, run, run_nil, run_cons, taken}
use Rattle.rules.specs.Feed.{taken_nil, taken_byte, taken_answered, taken_stops}
use Rattle.rules.specs.Watcher.{state_of, watcher}
use Rattle.rules.specs.Calls.{FedWith, fed_with, LentState}
use Rattle.rules.proofs.Put.{put_nothing, length_put, put_lent, put_behind}
use Rattle.rules.proofs.Feed.{step_line_feed, step_byte, finish_report}
use Rattle.rules.proofs.Watcher.{step_lengths}
use Rattle.rules.proofs.Calls.{step_lent}
use Rattle.trace.specs.Feed.{fed, fed_of}

-- ---- the bytes that are taken of a text, run

abbrev running : State Pool → List ℕ → ℕ → Ran Pool
running st text room = run watcher st (take (taken text room) text)

running_byte : (st : State Pool) (b : ℕ) (text : List ℕ) (room : ℕ) → b ≢ line_feed
    → running st (b ∷ text) room ≡ running (hold st b).state text room
unfolding hold
running_byte st b text room other =
    ap (λ n. run watcher st (take n (b ∷ text))) (taken_byte b text room (ne_eqb b line_feed other))
    ∙ run_cons watcher st b (take (taken text room) text)
    ∙ ap (λ r. after r.report (run watcher r.state (take (taken text room) text))) (step_byte watcher st b other)

running_line : (st : State Pool) (text : List ℕ) (room : ℕ) → answer_bytes ≤ room
    → running st (line_feed ∷ text) room ≡ after (finish watcher st).report
    (running (finish watcher st).state text (room - answer_bytes))
running_line st text room enough =
    let n : ℕ = taken text (room - answer_bytes) in
    ap (λ k. run watcher st (take k (line_feed ∷ text))) (taken_answered text room (le-ltb room answer_bytes enough))
    ∙ run_cons watcher st line_feed (take n text)
    ∙ ap (λ r. after r.report (run watcher r.state (take n text))) (step_line_feed watcher st)

running_none : (st : State Pool) (text : List ℕ) (room : ℕ) → taken text room ≡ 0 → running st text room
    ≡ record { state = st; report = [] }
running_none st text room none = ap (λ n. run watcher st (take n text)) none ∙ run_nil watcher st

-- ---- the loop

-- `i` bytes of the piece are taken and `w` are written, from a start with this room
pub record Feeding (start : State Pool) (piece room_before : List ℕ) (st : State Pool) (room : List ℕ)
    (i w : ℕ) : Type 0 where
  pub lent : LentState st
  pub shadow_length : length st.pool.shadow ≡ length start.pool.shadow
  pub table_length : length st.pool.table ≡ length start.pool.table
  pub report : List ℕ
  pub wrote : length report ≡ w
  pub most : w ≤ length room_before
  pub room_is : room ≡ put room_before 0 report
  pub taken_is : taken piece (length room_before) ≡ i + taken (drop i piece) (length room_before - w)
  pub ran_is : running start piece (length room_before)
      ≡ after report (running st (drop i piece) (length room_before - w))

pub feeding_start : (start : State Pool) (piece room : List ℕ) → LentState start
    → Feeding start piece room start room 0 0
feeding_start start piece room lent = record {
  lent = lent;
  shadow_length = refl;
  table_length = refl;
  report = [];
  wrote = refl;
  most = zero-le;
  room_is = sym (put_nothing room 0);
  taken_is = ap (taken piece) (sym (sub-zero (length room))) ∙ omega arith;
  ran_is = ap (running start piece) (sym (sub-zero (length room)));
}

module _ {start : State Pool} {piece room_before : List ℕ} {st : State Pool} {room : List ℕ} {i w : ℕ}
    (f : Feeding start piece room_before st room i w) where
  pub feeding_room : length room ≡ length room_before
  feeding_room = ap length f.room_is ∙ length_put room_before 0 f.report (omega (arith, f.wrote, f.most))

  -- the next byte, and the rest
  next_is : (b : ℕ) → i < length piece → get_or piece i 0 ≡ b → drop i piece ≡ b ∷ drop (i + 1) piece
  next_is b below e =
      drop-cons piece i 0 below ∙ ap (λ c. c ∷ drop (suc i) piece) e ∙ ap (λ k. b ∷ drop k piece) (sym (add-one i))

  abbrev left : ℕ
  left = length room_before - w

  -- a byte that is no line feed is held
  pub feeding_byte : i < length piece → get_or piece i 0 ≢ line_feed → (session : Session) → session
      ≡ lengthened st.session (get_or piece i 0)
      → Feeding start piece room_before (state_of session st.pool.shadow st.pool.table) room (i + 1) w
  unfolding hold
  feeding_byte below other session is_longer =
      let b : ℕ = get_or piece i 0 in
      let rest : List ℕ = drop (i + 1) piece in
      let next : drop i piece ≡ b ∷ rest = next_is b below refl in
      let held : (hold st b).state ≡ state_of session st.pool.shadow st.pool.table =
      ap (λ s. state_of s st.pool.shadow st.pool.table) (sym is_longer) in
      record {
        lent = subst LentState held (subst (λ r. LentState r.state) (step_byte watcher st b other)
            (step_lent st b f.lent));
        shadow_length = f.shadow_length;
        table_length = f.table_length;
        report = f.report;
        wrote = f.wrote;
        most = f.most;
        room_is = f.room_is;
        taken_is =
            let one : taken (drop i piece) left ≡ suc (taken rest left) =
            ap (λ l. taken l left) next ∙ taken_byte b rest left (ne_eqb b line_feed other) in
            f.taken_is ∙ omega arith;
        ran_is =
            f.ran_is
            ∙ ap (λ l. after f.report (running st l left)) next
            ∙ ap (after f.report) (running_byte st b rest left other)
            ∙ ap (λ s. after f.report (running s rest left)) held;
      }

  -- a line feed is answered in the next 13 bytes, lent and back
  pub feeding_part : answer_bytes ≤ length room - w → length (take (w + answer_bytes - w) (drop w room)) ≡ answer_bytes
  feeding_part enough =
      length-take-le (w + answer_bytes - w) (drop w room) (omega (arith, length-drop w room)) ∙ omega arith

  pub feeding_line : i < length piece → get_or piece i 0 ≡ line_feed → answer_bytes ≤ left → (ran : Ran Pool) → ran
      ≡ finish watcher st
      → Feeding start piece room_before ran.state
      (take w room ++ (ran.report ++ drop (w + answer_bytes - w) (drop w room))) (i + 1) (w + answer_bytes)
  feeding_line below is_feed enough ran is_finish =
      let rest : List ℕ = drop (i + 1) piece in
      let next : drop i piece ≡ line_feed ∷ rest = next_is line_feed below is_feed in
      let bytes : length ran.report ≡ answer_bytes =
      ap (λ r. length r.report) is_finish ∙ finish_report watcher st in
      let is_step : ran ≡ step watcher st line_feed = is_finish ∙ sym (step_line_feed watcher st) in
      let room_left : length room_before - (w + answer_bytes) ≡ left - answer_bytes = omega arith in
      record {
        lent = subst (λ r. LentState r.state) (sym is_step) (step_lent st line_feed f.lent);
        shadow_length =
            ap (λ r. length r.state.pool.shadow) is_step ∙ (step_lengths st line_feed).0 ∙ f.shadow_length;
        table_length =
            ap (λ r. length r.state.pool.table) is_step ∙ (step_lengths st line_feed).1 ∙ f.table_length;
        report = f.report ++ ran.report;
        wrote = length-append f.report ran.report ∙ omega (arith, f.wrote);
        most = omega (arith, f.most);
        room_is =
            put_lent room w (w + answer_bytes - w) ran.report (omega arith)
            ∙ ap (λ l. put l w ran.report) f.room_is
            ∙ ap (λ n. put (put room_before 0 f.report) n ran.report) (sym f.wrote)
            ∙ put_behind room_before f.report ran.report;
        taken_is =
            let one : taken (drop i piece) left ≡ suc (taken rest (left - answer_bytes)) =
            ap (λ l. taken l left) next ∙ taken_answered rest left (le-ltb left answer_bytes enough) in
            let same : taken rest (length room_before - (w + answer_bytes)) ≡ taken rest (left - answer_bytes) =
            ap (taken rest) room_left in
            f.taken_is ∙ omega arith;
        ran_is =
            f.ran_is
            ∙ ap (λ l. after f.report (running st l left)) next
            ∙ ap (after f.report) (running_line st rest left enough)
            ∙ ap (λ r. after f.report (after r.report (running r.state rest (left - answer_bytes))))
            (sym is_finish)
            ∙ ap (λ n. after f.report (after ran.report (running ran.state rest n))) (sym room_left)
            ∙ ap (λ l. record {
              state = (running ran.state rest (length room_before - (w + answer_bytes))).state;
              report = l;
            })
            (sym (append_assoc f.report ran.report
            (running ran.state rest (length room_before - (w + answer_bytes))).report));
      }

  -- what a feed hands back here
  abbrev given : ℕ → Fed
  given done = record { session = st.session; status = done; taken = i; wrote = w }

  stops : (done : ℕ) → done ≡ call_status (Ok (Ok 0)) → taken (drop i piece) left ≡ 0
      → fed (given done) st.pool.shadow st.pool.table room ≡ fed_of start piece room_before
  stops done is_done none =
      let n : ℕ = taken piece (length room_before) in
      let all : n ≡ i = f.taken_is ∙ omega arith in
      let ran : running start piece (length room_before) ≡ record { state = st; report = f.report } =
      f.ran_is
      ∙ ap (after f.report) (running_none st (drop i piece) left none)
      ∙ ap (λ l. record { state = st; report = l }) (append-nil f.report) in
      let handed : ℕ → ℕ → ℕ → FedWith Pool =
      λ a b c. fed (record { session = st.session; status = a; taken = b; wrote = c }) st.pool.shadow
      st.pool.table (put room_before 0 f.report) in
      ap (fed (given done) st.pool.shadow st.pool.table) f.room_is
      ∙ ap (λ a. handed a i w) is_done
      ∙ ap (λ b. handed (call_status (Ok (Ok 0))) b w) (sym all)
      ∙ ap (handed (call_status (Ok (Ok 0))) n) (sym f.wrote)
      ∙ ap (λ r. fed_with r n room_before) (sym ran)

  -- the piece ends
  pub feeding_end : (done : ℕ) → done ≡ call_status (Ok (Ok 0)) → length piece ≤ i
      → fed (given done) st.pool.shadow st.pool.table room ≡ fed_of start piece room_before
  feeding_end done is_done past =
      stops done is_done (ap (λ l. taken l left) (drop_of_length-le piece {i = i} past) ∙ taken_nil left)

  -- a line feed, and no room for its answer
  pub feeding_full : (done : ℕ) → done ≡ call_status (Ok (Ok 0))
      → i < length piece → get_or piece i 0 ≡ line_feed → left < answer_bytes
      → fed (given done) st.pool.shadow st.pool.table room ≡ fed_of start piece room_before
  feeding_full done is_done below is_feed full =
      stops done is_done
      (ap (λ l. taken l left) (next_is line_feed below is_feed)
      ∙ taken_stops (drop (i + 1) piece) left (lt-ltb left answer_bytes full))
