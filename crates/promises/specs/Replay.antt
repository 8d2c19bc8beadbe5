-- A replay: a text from a beginning, its lines with their answers, and what they granted and released.
use Rattle.std.specs.Prelude.{ℕ, ◌≡◌, true, List, ◌∷◌, ◌++◌, length}
use Rattle.rules.specs.declared.Session.{Session}
use Rattle.rules.specs.Release.{Pool}
use Rattle.rules.specs.Feed.{State, Ran, emptied, run}
use Rattle.rules.specs.Watcher.{watcher, state_of}
use Rattle.rules.specs.Calls.{OpenedWith, fits_lent, open_with}
use Rattle.promises.specs.History.{lines, Exchange, exchanges, Block, History, nothing_yet, heard_all, latest}
use Rattle.promises.specs.History.{held}
use Rattle.promises.specs.Agreement.{AgreesWith}

-- ---- a beginning

-- a session that fits its buffers, and no line unfinished
pub record Idle (st : State Pool) : Type 0 where
  pub fits : fits_lent st.session st.pool.shadow st.pool.table ≡ true
  pub none_unfinished : st.session ≡ emptied st.session

-- a state that a replay can begin with, and the history that it begins with: it is idle, and its shadow and table agree
-- with that history
pub record Begins (st : State Pool) (h : History) : Type 0 where
  pub idle : Idle st
  pub agrees : AgreesWith st.session.granules st.session.redzone st.session.quarantine h st.pool.shadow
      st.pool.table

-- ---- a replay

-- a beginning, and a text
pub record Replay : Type 0 where
  pub begun : State Pool
  pub earlier : History
  pub begins : Begins begun earlier
  pub text : List ℕ

-- its S, row count, R and Q
abbrev pub session : Replay → Session
session r = r.begun.session

-- the state and the report after the text
unfoldable pub ran : Replay → Ran Pool
ran r = run watcher r.begun r.text

-- the text's lines with their answers
unfoldable pub log : Replay → List Exchange
log r = exchanges r.text (ran r).report

-- x is one of them, and these are those before it
pub record Line (r : Replay) (before : List Exchange) (x : Exchange) : Type 0 where
  pub after : List Exchange
  pub is : log r ≡ before ++ (x ∷ after)

-- what was granted and released up to that line
unfoldable pub history : Replay → List Exchange → History
history r before = heard_all r.earlier before

-- what that line meets: the blocks that are live, those in quarantine, and both together, that are held
abbrev pub live_at : Replay → List Exchange → List Block
live_at r before = (history r before).live

abbrev pub quarantine_at : Replay → List Exchange → List Block
quarantine_at r before = latest (session r).redzone (session r).quarantine (history r before).released

abbrev pub held_at : Replay → List Exchange → List Block
held_at r before = held (session r).redzone (session r).quarantine (history r before)

-- what was granted and released when the whole text has run
abbrev pub happened : Replay → History
happened r = history r (log r)

-- every line has its answer, and no answer is without its line
pub record AnsweredIn (r : Replay) : Type 0 where
  pub lines_answered : length (log r) ≡ length (lines r.text)
  pub answers_heard : length (log r) ≡ length (lines (ran r).report)

abbrev pub EveryLine : Type 0
EveryLine = (r : Replay) → AnsweredIn r

-- ---- ways to begin

-- an opening that is accepted, of any buffers
pub record Opening : Type 0 where
  pub shadow : List ℕ
  pub table : List ℕ
  pub redzone : ℕ
  pub quarantine : ℕ
  pub accepted : (open_with shadow table redzone quarantine).given.status ≡ 0

unfoldable pub opened : Opening → State Pool
opened o =
    let with· : OpenedWith = open_with o.shadow o.table o.redzone o.quarantine in
    state_of with·.given.session with·.shadow with·.table

-- an opening is a beginning, with nothing granted and nothing released yet: so what is promised of replays holds from
-- it
abbrev pub Openings : Type 0
Openings = (o : Opening) → Begins (opened o) nothing_yet

-- and so is what a text leaves, where its last line is finished, with all that happened
abbrev pub BeginsAgain : Type 0
BeginsAgain =
    (r : Replay) → (ran r).state.session ≡ emptied (ran r).state.session → Begins (ran r).state (happened r)

-- the same text from the same opening always gives the same report, whatever was in the buffers that were lent
abbrev pub SameReport : Type 0
SameReport = (o p : Opening) → length o.shadow ≡ length p.shadow → length o.table ≡ length p.table
    → o.redzone ≡ p.redzone → o.quarantine ≡ p.quarantine → (text : List ℕ)
    → run watcher (opened o) text ≡ run watcher (opened p) text
