-- A text, whatever engine acts on its lines: the unfinished line; one byte, `step`; a text, `run`; and how far a piece
-- is taken.
use Rattle.std.specs.Prelude.{ℕ, suc, ◌+◌, ◌-◌, ◌≡◌, refl, Bool, true, false, List, [], ◌∷◌, ◌++◌, set, replicate, eqb}
use Rattle.std.specs.Prelude.{ltb}
use Rattle.rules.specs.declared.Session.{Session}
use Rattle.rules.specs.Answers.{Answer}
use Rattle.rules.specs.Limits.{frame_digits, too_long, line_feed, answer_bytes}
use Rattle.rules.specs.Frames.{Asked, frame_of_line, answer_line}

-- ---- the unfinished line

-- the session with another unfinished line
abbrev pub with_line : Session → ℕ → List ℕ → Session
with_line session n line = record {
  granules = session.granules;
  rows = session.rows;
  redzone = session.redzone;
  quarantine = session.quarantine;
  unfinished = n;
  line = line;
}

-- the empty line: unused places are zero
abbrev pub no_bytes : List ℕ
no_bytes = replicate frame_digits 0

unfoldable pub emptied : Session → Session
emptied session = with_line session 0 no_bytes

-- the unfinished line with one byte more: its first 18 bytes are kept, and 19 stands for 19 or more
unfoldable pub lengthened : Session → ℕ → Session
lengthened session b =
    elim (ltb session.unfinished frame_digits) [
      | true ↦ with_line session (session.unfinished + 1) (set session.line session.unfinished b)
      | false ↦ with_line session too_long session.line
    ]

-- ---- engines

-- what a line does: its answer, and the pool after it
pub record Outcome (P : Type 0) : Type 0 where
  pub answer : Answer
  pub pool : P

-- an engine acts on frames, over pools of one kind: whether a pool is lent in the lengths of a session of so many
-- granules and rows, and what a frame does to it
pub record Engine (P : Type 0) : Type 0 where
  pub lent : ℕ → ℕ → P → Bool
  pub act : Session → P → Asked → Outcome P

-- a state: the session with its unfinished line, and the pool
pub record State (P : Type 0) : Type 0 where
  pub session : Session
  pub pool : P

-- the state after some text, and what the text added to the report
pub record Ran (P : Type 0) : Type 0 where
  pub state : State P
  pub report : List ℕ

-- ---- one byte

-- what the finished line does
unfoldable pub act_line : {P : Type 0} → Engine P → State P → Outcome P
act_line engine st = engine.act st.session st.pool (frame_of_line st.session.unfinished st.session.line)

-- a line feed gives one answer, and a line answered, refused or not, empties the unfinished line
unfoldable pub finish : {P : Type 0} → Engine P → State P → Ran P
finish {P} engine st =
    let done : Outcome P = act_line engine st in
    record {
      state = record { session = emptied st.session; pool = done.pool };
      report = answer_line
          done.answer;
    }

-- any other byte is not acted on
unfoldable pub hold : {P : Type 0} → State P → ℕ → Ran P
hold st b = record { state = record { session = lengthened st.session b; pool = st.pool }; report = [] }

-- one byte
unfoldable pub step : {P : Type 0} → Engine P → State P → ℕ → Ran P
step engine st b = elim (eqb b line_feed) [ true ↦ finish engine st | false ↦ hold st b ]

-- ---- a text

-- what comes after adds to the report
abbrev pub after : {P : Type 0} → List ℕ → Ran P → Ran P
after report ran = record { state = ran.state; report = report ++ ran.report }

-- a text, byte by byte
unfoldable pub run : {P : Type 0} → Engine P → State P → List ℕ → Ran P
run engine st [] = record { state = st; report = [] }
run {P} engine st (b ∷ text) =
    let first : Ran P = step engine st b in
    after first.report (run engine first.state text)

pub run_nil : {P : Type 0} (engine : Engine P) (st : State P) → run engine st [] ≡ record { state = st; report = [] }
unfolding run
run_nil engine st = refl

pub run_cons : {P : Type 0} (engine : Engine P) (st : State P) (b : ℕ) (text : List ℕ)
    → run engine st (b ∷ text) ≡ after (step engine st b).report (run engine (step engine st b).state text)
unfolding run
run_cons engine st b text = refl

-- how many bytes of a piece are taken: all, or those before a line feed that fewer than 13 bytes of room are left for
unfoldable pub taken : List ℕ → ℕ → ℕ
taken [] room = 0
taken (b ∷ piece) room =
    elim (eqb b line_feed) [
      | true ↦ elim (ltb room answer_bytes) [ true ↦ 0 | false ↦ suc (taken piece (room - answer_bytes)) ]
      | false ↦ suc (taken piece room)
    ]

pub taken_nil : (room : ℕ) → taken [] room ≡ 0
unfolding taken
taken_nil room = refl

-- a byte that is no line feed is taken
pub taken_byte : (b : ℕ) (piece : List ℕ) (room : ℕ) → eqb b line_feed ≡ false → taken (b ∷ piece) room
    ≡ suc (taken piece room)
unfolding taken
taken_byte b piece room e = rw (e, taken)

-- a line feed is taken with its answer's room, and not without
pub taken_answered : (piece : List ℕ) (room : ℕ) → ltb room answer_bytes ≡ false → taken (line_feed ∷ piece) room
    ≡ suc (taken piece (room - answer_bytes))
unfolding taken
taken_answered piece room e = rw (e, taken)

pub taken_stops : (piece : List ℕ) (room : ℕ) → ltb room answer_bytes ≡ true → taken (line_feed ∷ piece) room ≡ 0
unfolding taken
taken_stops piece room e = rw (e, taken)
