-- From a program's calls to demand 3, in one statement. Cut the trace anywhere, lend any room: report, shadow, table
-- and session are those of the rules over the whole text; a read or write is reported exactly when it touches a byte in
-- no block granted and not yet released; held blocks stay a redzone apart; nothing in quarantine is granted again. All
-- is said of what the program has in its hands: its text, the bytes that its feeds wrote, its session, shadow and
-- table.
use Rattle.std.specs.Prelude.{ℕ, ◌≡◌, true, false, List, [], ◌∷◌, ◌++◌, length}
use Rattle.std.specs.Prelude.{Some}
use Rattle.rules.specs.Release.{Pool}
use Rattle.rules.specs.Feed.{State, run}
use Rattle.rules.specs.Watcher.{watcher}
use Rattle.promises.specs.History.{lines, Exchange, exchanges, Block, has_byte, status_of, Granted, events, History}
use Rattle.promises.specs.History.{nothing_yet, heard_all, latest}
use Rattle.promises.specs.Rows.{◌∈◌}
use Rattle.promises.specs.Agreement.{SeparatedIn, QuarantinedIn}
use Rattle.promises.specs.Accesses.{Touches, ReportedBy, First}
use Rattle.joined.specs.Program.{Program}

-- what the opening left
abbrev pub begun : Program → State Pool
begun p = record { session = p.opened.session; pool = p.pool }

-- the lines of a text with their answers in what was written
abbrev pub log : Program → List ℕ → List Exchange
log p taken = exchanges taken p.end.ran.report

-- what some of the lines granted and released, and what is in quarantine after them
abbrev pub happened : List Exchange → History
happened = heard_all nothing_yet

abbrev pub in_quarantine : Program → List Exchange → List Block
in_quarantine p before =
    latest p.opened.session.redzone p.opened.session.quarantine (happened before).released

pub record Upheld (p : Program) : Type 0 where
  -- the bytes that its feeds took are the first of its text, and all of it where none is left
  pub taken : List ℕ
  pub of_the_text : p.text ≡ taken ++ p.end.left
  pub whole : p.end.left ≡ [] → taken ≡ p.text
  -- report, shadow, table and session are those of the rules over them
  pub ran_is : p.end.ran ≡ run watcher (begun p) taken
  -- every line has its answer
  pub every_line : length (log p taken) ≡ length (lines taken)
  -- reported exactly when, with the first such byte
  pub reported : (before after : List Exchange) (x : Exchange) → log p taken ≡ before ++ (x ∷ after)
      → (a n : ℕ) → Touches x a n → ReportedBy (happened before).live a n x
  pub first_bad_byte : (before after : List Exchange) (x : Exchange) → log p taken ≡ before ++ (x ∷ after)
      → (a n : ℕ) → Touches x a n → status_of x ≡ Some 9 → First (happened before).live a n x
  -- a redzone apart, and from both ends
  pub a_redzone_apart :
      SeparatedIn p.opened.session.granules p.opened.session.redzone p.end.ran.state.pool.table
  -- what is in quarantine, and that no byte of it is granted again
  pub quarantined :
      QuarantinedIn p.opened.session.redzone p.end.ran.state.pool.table (in_quarantine p (log p taken))
  pub not_granted_again : (before after : List Exchange) (x : Exchange) → log p taken ≡ before ++ (x ∷ after)
      → (y : Block) → Granted y ∈ events x → (z : Block) → z ∈ in_quarantine p before
      → (b : ℕ) → has_byte y b ≡ true → has_byte z b ≡ false

-- of every program
abbrev pub Upholds : Type 0
Upholds = (p : Program) → Upheld p
