-- Demand 3, cutting: a chain of feed calls over one text, each with a piece and a room of any length, whatever engine
-- acts on the lines.
use Rattle.std.specs.Prelude.{ℕ, ◌≤◌, ◌<◌, ◌≡◌, true, List, [], ◌∷◌, ◌++◌, length, take, drop}
use Rattle.rules.specs.declared.Session.{Session}
use Rattle.rules.specs.Limits.{answer_bytes}
use Rattle.rules.specs.Feed.{Engine, State, Ran, after, run}
use Rattle.rules.specs.Calls.{FedWith, fits_session, feed_by}
use Rattle.promises.specs.Rows.{◌∈◌}

-- one call: how many bytes of what is left it is offered, and the room that it is lent, whatever is in it
pub record Call : Type 0 where
  pub offered : ℕ
  pub room : List ℕ

-- what a chain comes to: the last state, the reports joined, and what is left of the text
pub record Chained (P : Type 0) : Type 0 where
  pub ran : Ran P
  pub left : List ℕ

-- what a call hands back that is offered some of a text
abbrev pub fed_on : {P : Type 0} → Engine P → State P → List ℕ → Call → FedWith P
fed_on engine st text call = feed_by engine st.session st.pool (take call.offered text) call.room

-- and of that the state, and the bytes written: the first part of its room
abbrev pub ran_on : {P : Type 0} → FedWith P → Ran P
ran_on fed = record {
  state = record { session = fed.given.session; pool = fed.pool };
  report = take fed.given.wrote fed.room;
}

-- each call is handed the session and the pool as the last one left them, and a piece that begins where the last one
-- stopped taking
unfoldable pub chain : {P : Type 0} → Engine P → State P → List ℕ → List Call → Chained P
chain engine st text [] = record { ran = record { state = st; report = [] }; left = text }
chain {P} engine st text (call ∷ calls) =
    let fed : FedWith P = fed_on engine st text call in
    let rest : Chained P = chain engine (ran_on fed).state (drop fed.given.taken text) calls in
    record { ran = after (ran_on fed).report rest.ran; left = rest.left }

-- a chain of calls that has taken the whole text: joined report, pool and session are those of the rules over the whole
-- text, from any state, a forged one too
abbrev pub Cutting : {P : Type 0} → Engine P → Type 0
Cutting {P} engine = (st : State P) (text : List ℕ) (calls : List Call)
    → (chain engine st text calls).left ≡ [] → (chain engine st text calls).ran ≡ run engine st text

-- one that stops early: its joined report is the first part of that report, and what it took is the first part of the
-- text
pub record Early {P : Type 0} (engine : Engine P) (st : State P) (text : List ℕ) (calls : List Call) : Type 0 where
  pub taken : List ℕ
  pub text_is : text ≡ taken ++ (chain engine st text calls).left
  pub ran_is : (chain engine st text calls).ran ≡ run engine st taken
  pub rest : List ℕ
  pub report_is : (run engine st text).report ≡ (chain engine st text calls).ran.report ++ rest

abbrev pub StopsEarly : {P : Type 0} → Engine P → Type 0
StopsEarly {P} engine = (st : State P) (text : List ℕ) (calls : List Call) → Early engine st text calls

-- and nobody can be stuck: with 13 bytes of room and a piece that is not empty a call takes at least one byte, and what
-- it hands back fits what it was lent again
pub record GoesOn {P : Type 0} (engine : Engine P) : Type 0 where
  pub takes : (session : Session) (pool : P) (piece room : List ℕ) → fits_session engine session pool ≡ true
      → 0 < length piece → answer_bytes ≤ length room → 0 < (feed_by engine session pool piece room).given.taken
  pub fits : (session : Session) (pool : P) (piece room : List ℕ) → fits_session engine session pool ≡ true
      → fits_session engine (feed_by engine session pool piece room).given.session
      (feed_by engine session pool piece room).pool ≡ true

-- so a chain of such calls, as many as the text has bytes, takes it whole
abbrev pub Finishes : {P : Type 0} → Engine P → Type 0
Finishes {P} engine =
    (st : State P) (text : List ℕ) (calls : List Call) → fits_session engine st.session st.pool ≡ true
    → ((call : Call) → call ∈ calls → (0 < call.offered) × (answer_bytes ≤ length call.room))
    → length text ≤ length calls
    → (chain engine st text calls).left ≡ []

-- answers up to a line depend on the lines up to it alone: whatever comes after, the report begins as it did
abbrev pub SoFar : {P : Type 0} → Engine P → Type 0
SoFar {P} engine = (st : State P) (text more : List ℕ)
    → (rest : List ℕ) × ((run engine st (text ++ more)).report ≡ (run engine st text).report ++ rest)
