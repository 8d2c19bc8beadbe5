-- The laws of a text, whatever engine acts on its lines: an unfinished line is never acted on, `run` over an appended
-- text, 13 bytes for each line feed, and how far a piece is taken. Assumes nothing.
use Prim.Native.Nat.{ℕ, zero, suc, ◌+◌, ◌-◌, ◌*◌, ◌≤◌, ◌<◌, zero-le}
use native.Mathlib.Decide.{ℕ_discrete}
use native.Mathlib.Omega.{arith}
use mathlib.Core.Path.{◌≡◌, refl, sym, ap, ap₂, subst, ◌∙◌}
use mathlib.Core.Logic.{◌≢◌}
use mathlib.Core.Bool.{true, false}
use mathlib.Core.List.{List, [], ◌∷◌, ◌++◌, append_assoc}
use lib.ListN.{length, get_or, set, take, length-append}
use lib.Dec.{eqb}
use borrow.Author.Tests.{ne_eqb, lt-ltb, le-ltb}
use Rattle.rules.specs.declared.Session.{Session}
use Rattle.rules.specs.Limits.{frame_digits, too_long, line_feed, answer_bytes}
use Rattle.rules.specs.Feed.{Engine, with_line, emptied, lengthened, State, Ran, act_line, finish, hold, step}
use Rattle.rules.specs.Feed.{after, run, run_nil, run_cons, taken, taken_nil, taken_byte, taken_answered}
use Rattle.rules.specs.Feed.{taken_stops}
use Rattle.rules.proofs.Tests.{by_order, if_false, if_true}
use Rattle.rules.proofs.Frames.{length_answer}

-- ---- the session

-- a session's S, rows, R and Q are kept
pub record SameNumbers (session other : Session) : Type 0 where
  pub granules : other.granules ≡ session.granules
  pub rows : other.rows ≡ session.rows
  pub redzone : other.redzone ≡ session.redzone
  pub quarantine : other.quarantine ≡ session.quarantine

-- with any unfinished line
same_numbers : (session : Session) (n : ℕ) (line : List ℕ) → SameNumbers session (with_line session n line)
same_numbers session n line = record { granules = refl; rows = refl; redzone = refl; quarantine = refl }

-- the unfinished line keeps its first 18 bytes
pub lengthened_short : (session : Session) (b : ℕ) → session.unfinished < frame_digits
    → lengthened session b ≡ with_line session (session.unfinished + 1) (set session.line session.unfinished b)
unfolding lengthened
lengthened_short session b short = if_true _ _ (lt-ltb session.unfinished frame_digits short)

-- and 19 stands for 19 or more
pub lengthened_long : (session : Session) (b : ℕ) → frame_digits ≤ session.unfinished
    → lengthened session b ≡ with_line session too_long session.line
unfolding lengthened
lengthened_long session b long = if_false _ _ (le-ltb session.unfinished frame_digits long)

pub lengthened_numbers : (session : Session) (b : ℕ) → SameNumbers session (lengthened session b)
lengthened_numbers session b =
    by_order session.unfinished frame_digits
    (λ short. subst (SameNumbers session) (sym (lengthened_short session b short)) (same_numbers session _ _))
    (λ long. subst (SameNumbers session) (sym (lengthened_long session b long)) (same_numbers session _ _))

-- ---- one byte

-- any other byte than a line feed is not acted on: it only lengthens the unfinished line
abbrev pub held : {P : Type 0} → State P → ℕ → Ran P
held st b = record { state = record { session = lengthened st.session b; pool = st.pool }; report = [] }

pub hold_keeps : {P : Type 0} (st : State P) (b : ℕ) → hold st b ≡ held st b
unfolding hold
hold_keeps st b = refl

module _ {P : Type 0} (engine : Engine P) where
  pub step_line_feed : (st : State P) → step engine st line_feed ≡ finish engine st
  unfolding step
  step_line_feed st = refl

  pub step_byte : (st : State P) (b : ℕ) → b ≢ line_feed → step engine st b ≡ hold st b
  unfolding step
  step_byte st b other = if_false _ _ (ne_eqb b line_feed other)

  -- by what a byte is
  pub by_byte {ℓ} : (st : State P) (b : ℕ) (Q : Ran P → Type ℓ) → (b ≡ line_feed → Q (finish engine st))
      → (b ≢ line_feed → Q (hold st b))
      → Q (step engine st b)
  by_byte st b Q feed other =
      elim (ℕ_discrete b line_feed) [
        | yes e ↦ subst (λ c. Q (step engine st c)) (sym e) (subst Q (sym (step_line_feed st)) (feed e))
        | no e ↦ subst Q (sym (step_byte st b e)) (other e)
      ]

  -- a line answered, refused or not, empties the unfinished line
  pub finish_empties : (st : State P) → (finish engine st).state.session ≡ emptied st.session
  unfolding finish
  finish_empties st = refl

  -- each line feed gives one answer of 13 bytes
  pub finish_report : (st : State P) → length (finish engine st).report ≡ answer_bytes
  unfolding finish
  finish_report st = length_answer (act_line engine st).answer

  pub step_numbers : (st : State P) (b : ℕ) → SameNumbers st.session (step engine st b).state.session
  unfolding finish hold emptied
  step_numbers st b =
      by_byte st b (λ r. SameNumbers st.session r.state.session)
      (λ e. same_numbers st.session _ _)
      (λ e. lengthened_numbers st.session b)

  -- ---- a text

  -- what each byte keeps, a text keeps
  pub run_has {ℓ} : (Q : State P → Type ℓ) → ((st : State P) (b : ℕ) → Q st → Q (step engine st b).state)
      → (st : State P) (text : List ℕ) → Q st → Q (run engine st text).state
  run_has Q keeps st [] q = subst (λ r. Q r.state) (sym (run_nil engine st)) q
  run_has Q keeps st (b ∷ text) q =
      subst (λ r. Q r.state) (sym (run_cons engine st b text))
      (run_has Q keeps (step engine st b).state text (keeps st b q))

  after_after : (r q : List ℕ) (ran : Ran P) → after r (after q ran) ≡ after (r ++ q) ran
  after_after r q ran = ap (λ l. record { state = ran.state; report = l }) (sym (append_assoc r q ran.report))

  -- a text in two parts: the second goes on from the state that the first leaves, and the reports are joined
  pub run_append : (st : State P) (text more : List ℕ)
      → run engine st (text ++ more) ≡ after (run engine st text).report (run engine (run engine st text).state more)
  run_append st [] more = ap (λ r. after r.report (run engine r.state more)) (sym (run_nil engine st))
  run_append st (b ∷ text) more =
      let first : Ran P = step engine st b in
      let rest : Ran P = run engine first.state text in
      run_cons engine st b (text ++ more)
      ∙ ap (after first.report) (run_append first.state text more)
      ∙ after_after first.report rest.report (run engine rest.state more)
      ∙ ap (λ r. after r.report (run engine r.state more)) (sym (run_cons engine st b text))

  pub run_numbers : (st : State P) (text : List ℕ) → SameNumbers st.session (run engine st text).state.session
  run_numbers st text =
      run_has (λ other. SameNumbers st.session other.session)
      (λ other b same.
      let more : SameNumbers other.session (step engine other b).state.session = step_numbers other b in
      record {
        granules = more.granules ∙ same.granules;
        rows = more.rows ∙ same.rows;
        redzone = more.redzone ∙ same.redzone;
        quarantine = more.quarantine ∙ same.quarantine;
      })
      st text (same_numbers st.session _ _)

  -- an unfinished line is never acted on: a text with no line feed leaves the pool as it was, and reports nothing
  pub record Quiet (st : State P) (ran : Ran P) : Type 0 where
    pub pool : ran.state.pool ≡ st.pool
    pub report : ran.report ≡ []

  pub run_quiet : (st : State P) (text : List ℕ) → ((k : ℕ) → k < length text → get_or text k 0 ≢ line_feed)
      → Quiet st (run engine st text)
  run_quiet st [] none· = subst (Quiet st) (sym (run_nil engine st)) (record { pool = refl; report = refl })
  run_quiet st (b ∷ text) none· =
      let first : Ran P = step engine st b in
      let is_held : first ≡ held st b = step_byte st b (none· zero (omega arith)) ∙ hold_keeps st b in
      let rest : Quiet first.state (run engine first.state text) =
      run_quiet first.state text (λ k below. none· (suc k) (omega arith)) in
      subst (Quiet st) (sym (run_cons engine st b text))
      (record {
        pool = rest.pool ∙ ap (λ r. r.state.pool) is_held;
        report = ap₂ (λ a c. a ++ c) (ap (λ r. r.report) is_held) rest.report;
      })

-- ---- line feeds

-- how many line feeds a text has
unfoldable pub line_feeds : List ℕ → ℕ
line_feeds [] = 0
line_feeds (b ∷ text) = elim (eqb b line_feed) [ true ↦ suc (line_feeds text) | false ↦ line_feeds text ]

pub line_feeds_feed : (text : List ℕ) → line_feeds (line_feed ∷ text) ≡ suc (line_feeds text)
unfolding line_feeds
line_feeds_feed text = refl

pub line_feeds_byte : (b : ℕ) (text : List ℕ) → b ≢ line_feed → line_feeds (b ∷ text) ≡ line_feeds text
unfolding line_feeds
line_feeds_byte b text other = rw (ne_eqb b line_feed other, line_feeds)

-- by what the first byte of a text is
pub by_first {ℓ} : (b : ℕ) (P : ℕ → Type ℓ) → P line_feed → (b ≢ line_feed → P b) → P b
by_first b P feed other = elim (ℕ_discrete b line_feed) [ yes e ↦ subst P (sym e) feed | no e ↦ other e ]

-- 13 bytes of report for each
pub run_report : {P : Type 0} (engine : Engine P) (st : State P) (text : List ℕ)
    → length (run engine st text).report ≡ answer_bytes * line_feeds text
unfolding line_feeds
run_report engine st [] = ap (λ r. length r.report) (run_nil engine st)
run_report {P} engine st (b ∷ text) =
    let first : Ran P = step engine st b in
    let rest : length (run engine first.state text).report ≡ answer_bytes * line_feeds text =
    run_report engine first.state text in
    ap (λ r. length r.report) (run_cons engine st b text)
    ∙ length-append first.report (run engine first.state text).report
    ∙ elim (ℕ_discrete b line_feed) [
      | yes e ↦
          (let here : length first.report ≡ answer_bytes =
          ap (λ c. length (step engine st c).report) e
          ∙ ap (λ r. length r.report) (step_line_feed engine st)
          ∙ finish_report engine st in
          let count : line_feeds (b ∷ text) ≡ suc (line_feeds text) =
          ap (λ c. line_feeds (c ∷ text)) e ∙ line_feeds_feed text in
          omega arith)
      | no e ↦
          (let here : length first.report
          ≡ 0 = ap (λ r. length r.report) (step_byte engine st b e ∙ hold_keeps st b) in
          let count : line_feeds (b ∷ text) ≡ line_feeds text = line_feeds_byte b text e in
          omega arith)
    ]

-- ---- how far a piece is taken

-- by what stands first in a piece and the room that is left
by_taken {ℓ} : (b : ℕ) (piece : List ℕ) (room : ℕ) (P : ℕ → ℕ → Type ℓ)
    → (room < answer_bytes → P line_feed 0)
    → (answer_bytes ≤ room → P line_feed (suc (taken piece (room - answer_bytes))))
    → (b ≢ line_feed → P b (suc (taken piece room))) → P b (taken (b ∷ piece) room)
by_taken b piece room P full left other =
    by_first b (λ c. P c (taken (c ∷ piece) room))
    (by_order room answer_bytes
    (λ less. subst (P line_feed) (sym (taken_stops piece room (lt-ltb room answer_bytes less))) (full less))
    (λ more. subst (P line_feed) (sym (taken_answered piece room (le-ltb room answer_bytes more))) (left more)))
    (λ e. subst (P b) (sym (taken_byte b piece room (ne_eqb b line_feed e))) (other e))

pub taken_most : (piece : List ℕ) (room : ℕ) → taken piece room ≤ length piece
taken_most [] room = omega (arith, taken_nil room)
taken_most (b ∷ piece) room =
    by_taken b piece room (λ c n. n ≤ suc (length piece))
    (λ full. zero-le)
    (λ left. omega (arith, taken_most piece (room - answer_bytes)))
    (λ other. omega (arith, taken_most piece room))

-- the answers to what is taken fit the room
pub taken_fits : (piece : List ℕ) (room : ℕ) → answer_bytes * line_feeds (take (taken piece room) piece) ≤ room
unfolding line_feeds
taken_fits [] room = subst (λ n. answer_bytes * line_feeds (take n []) ≤ room) (sym (taken_nil room)) zero-le
taken_fits (b ∷ piece) room =
    by_taken b piece room (λ c n. answer_bytes * line_feeds (take n (c ∷ piece)) ≤ room)
    (λ full. zero-le)
    (λ left. omega (
      arith,
      taken_fits piece (room - answer_bytes),
      line_feeds_feed
          (take (taken piece (room - answer_bytes)) piece),
    ))
    (λ other. omega (arith, taken_fits piece room, line_feeds_byte b (take (taken piece room) piece) other))

-- what is not taken begins with a line feed, for whose answer fewer than 13 bytes are left
pub record Stopped (piece : List ℕ) (room n : ℕ) : Type 0 where
  pub next : get_or piece n 0 ≡ line_feed
  pub left : room < answer_bytes * line_feeds (take n piece) + answer_bytes

pub taken_less : (piece : List ℕ) (room : ℕ) → taken piece room < length piece → Stopped piece room (taken piece room)
unfolding line_feeds
taken_less [] room = λ less. absurd (omega arith)
taken_less (b ∷ piece) room =
    by_taken b piece room (λ c n. n < suc (length piece) → Stopped (c ∷ piece) room n)
    (λ full less. record { next = refl; left = full })
    (λ left less.
    let s : Stopped piece (room - answer_bytes) (taken piece (room - answer_bytes)) =
    taken_less piece (room - answer_bytes) (omega arith) in
    record {
      next = s.next;
      left = omega
          (arith, s.left, line_feeds_feed (take (taken piece (room - answer_bytes)) piece));
    })
    (λ other less.
    let s : Stopped piece room (taken piece room) = taken_less piece room (omega arith) in
    record { next = s.next; left = omega (arith, s.left, line_feeds_byte b (take (taken piece room) piece) other) })

-- room for every answer takes the whole piece
pub taken_all : (piece : List ℕ) (room : ℕ) → answer_bytes * line_feeds piece ≤ room → taken piece room ≡ length piece
taken_all [] room = λ enough. taken_nil room
taken_all (b ∷ piece) room =
    by_taken b piece room (λ c n. answer_bytes * line_feeds (c ∷ piece) ≤ room → n ≡ suc (length piece))
    (λ full enough. absurd (omega (arith, line_feeds_feed piece)))
    (λ left enough. ap suc (taken_all piece (room - answer_bytes) (omega (arith, line_feeds_feed piece))))
    (λ other enough. ap suc (taken_all piece room (omega (arith, line_feeds_byte b piece other))))

-- with room for one answer, nobody is stuck
pub taken_some : (piece : List ℕ) (room : ℕ) → 0 < length piece → answer_bytes ≤ room → 0 < taken piece room
taken_some [] room some· enough = absurd (omega arith)
taken_some (b ∷ piece) room some· enough =
    by_taken b piece room (λ c n. 0 < n) (λ full. absurd (omega arith)) (λ left. omega arith) (λ other. omega arith)
