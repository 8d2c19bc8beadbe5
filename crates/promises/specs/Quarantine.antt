-- Demand 3: held blocks stay a redzone apart, and what is in quarantine is not granted again.
use Rattle.std.specs.Prelude.{ℕ, ◌+◌, ◌-◌, ◌≤◌, ◌<◌, ◌≡◌, ◌≢◌, true, false, List, [], ◌∷◌, ◌++◌, length, take}
use Rattle.std.specs.Prelude.{Some, None}
use Rattle.rules.specs.Limits.{empty}
use Rattle.rules.specs.Table.{state, row_of}
use Rattle.rules.specs.Grant.{grant}
use Rattle.rules.specs.Release.{in_quarantine, weight}
use Rattle.promises.specs.History.{Exchange, status_of, value_of, Block, has_byte, seeks, Granted, events}
use Rattle.promises.specs.History.{weigh, latest}
use Rattle.promises.specs.Rows.{◌∈◌}
use Rattle.promises.specs.Agreement.{SeparatedIn, QuarantinedIn}
use Rattle.promises.specs.Replay.{Replay, session, ran, log, Line, quarantine_at, happened}

-- ---- held blocks stay a redzone apart

abbrev pub Separation : Type 0
Separation = (r : Replay) → SeparatedIn (session r).granules (session r).redzone (ran r).state.pool.table

-- ---- the quarantine

-- a run of the first of the blocks, whose weights sum to at most Q, and no longer one does
pub record LongestRun (R Q : ℕ) (blocks some_first : List Block) : Type 0 where
  pub first : some_first ≡ take (length some_first) blocks
  pub light : weigh R some_first ≤ Q
  pub longest : (n : ℕ) → length some_first < n → n ≤ length blocks → Q < weigh R (take n blocks)

-- after every line the quarantined blocks are the longest run of latest releases whose weights sum to at most Q
pub record Quarantine : Type 0 where
  pub longest : (R Q : ℕ) (released : List Block) → LongestRun R Q released (latest R Q released)
  pub only : (R Q : ℕ) (released first second : List Block)
      → LongestRun R Q released first → LongestRun R Q released second → first ≡ second
  pub quarantined : (r : Replay)
      → QuarantinedIn (session r).redzone (ran r).state.pool.table (quarantine_at r (log r))

-- no byte of a released block is granted again while it is in that run
abbrev pub NotAgain : Type 0
NotAgain = (r : Replay) (before : List Exchange) (x : Exchange) → Line r before x
    → (y : Block) → Granted y ∈ events x → (z : Block) → z ∈ quarantine_at r before
    → (b : ℕ) → has_byte y b ≡ true → has_byte z b ≡ false

-- a block heavier than Q leaves at once: where it is the latest release, nothing is quarantined
abbrev pub Heavier : Type 0
Heavier = (r : Replay) (y : Block) (earlier : List Block) → (happened r).released ≡ y ∷ earlier
    → (session r).quarantine < weight (session r).redzone y.size → in_quarantine (ran r).state.pool.table ≡ 0

-- a grant never evicts: of any buffers, every row that is not empty stands as it did
abbrev pub NeverEvicts : Type 0
NeverEvicts = (R : ℕ) (shadow table : List ℕ) (s j : ℕ) → state table j ≢ empty
    → row_of (grant R shadow table s).table j ≡ row_of table j

-- a line that is done and seeks a block alone is answered how many left by it: those that were in quarantine and the
-- one released, less those that are
abbrev pub Evicted : Type 0
Evicted = (r : Replay) (before : List Exchange) (x : Exchange) → Line r before x
    → (a : ℕ) → seeks x ≡ record { room = None; block = Some a } → status_of x ≡ Some 0
    → value_of x ≡ Some (length (quarantine_at r before) + 1 - length (quarantine_at r (before ++ (x ∷ []))))
