-- When shadow and table agree with a history: the rows and the shadow have their shape, held blocks stay a redzone
-- apart, and the rows are the history's blocks. So it is with every beginning, and so after every text.
use Rattle.std.specs.Prelude.{ℕ, ◌-◌, ◌≤◌, ◌<◌, ◌≡◌, ◌≢◌, ◌↔◌, ◌⊎◌, true, false, List, ◌++◌, length}
use Rattle.std.proofs.Math.Option.{some}
use Rattle.std.proofs.Math.ListN.{get_elem?}
use Rattle.rules.specs.Limits.{empty, live, quarantined}
use Rattle.rules.specs.Table.{rows, size, state, turn, row_of, zero_row}
use Rattle.rules.specs.Release.{in_quarantine, weights}
use Rattle.promises.specs.History.{Block, has_byte, History, weigh, latest}
use Rattle.promises.specs.Rows.{◌∈◌, Apart, Inside, Distinct, HeldRow, block_of, RowOf, in_use, drawn}

-- a row is empty, live or quarantined; an empty row is all zeros, a held one has at least one byte, a live one has turn
-- 0, and the quarantined ones have the turns from 1 on, each once; no two held blocks share a byte; and the shadow is
-- what the table draws
pub record ShapedAs (S : ℕ) (shadow table : List ℕ) : Type 0 where
  pub states : (i : ℕ) → i < rows table
      → (state table i ≡ empty) ⊎ ((state table i ≡ live) ⊎ (state table i ≡ quarantined))
  pub zeros : (i : ℕ) → i < rows table → state table i ≡ empty → row_of table i ≡ zero_row
  pub sized : (i : ℕ) → HeldRow table i → 0 < size table i
  pub live_turn : (i : ℕ) → i < rows table → state table i ≡ live → turn table i ≡ 0
  pub turns : (i : ℕ) → i < rows table → state table i ≡ quarantined
      → (0 < turn table i) × (turn table i ≤ in_quarantine table)
  pub every_turn : (t : ℕ) → 0 < t → t ≤ in_quarantine table
      → (i : ℕ) × (i < rows table) × (state table i ≡ quarantined) × (turn table i ≡ t)
  pub once : (i j : ℕ) → i < rows table → j < rows table
      → state table i ≡ quarantined → state table j ≡ quarantined → turn table i ≡ turn table j → i ≡ j
  pub no_overlap : (i j : ℕ) → HeldRow table i → HeldRow table j → i ≢ j
      → (b : ℕ) → has_byte (block_of table i) b ≡ true → has_byte (block_of table j) b ≡ false
  pub shadow_is : shadow ≡ drawn table S 0

-- held blocks are a redzone apart: of any two rows, and of each row and both ends of the arena
pub record SeparatedIn (S R : ℕ) (table : List ℕ) : Type 0 where
  pub apart : (i j : ℕ) → HeldRow table i → HeldRow table j → i ≢ j → Apart R (block_of table i) (block_of table j)
  pub inside : (i : ℕ) → HeldRow table i → Inside S R (block_of table i)

-- the live rows are the live blocks, each listed once, the quarantined rows those in quarantine, and as many blocks are
-- held as rows are in use; so no row is empty exactly when as many blocks are held as there are rows
pub record RowsAre (table : List ℕ) (live_blocks quarantine : List Block) : Type 0 where
  pub live_rows : (x : Block) → (x ∈ live_blocks) ↔ RowOf table live x
  pub live_once : Distinct live_blocks
  pub quarantined_rows : (x : Block) → (x ∈ quarantine) ↔ RowOf table quarantined x
  pub count : length (live_blocks ++ quarantine) ≡ in_use table
  pub full : (length (live_blocks ++ quarantine) ≡ rows table) ↔ ((i : ℕ) → i < rows table → state table i ≢ empty)

-- the quarantined rows are as many as the blocks and weigh as much, and the latest release has the highest turn
pub record QuarantinedIn (R : ℕ) (table : List ℕ) (blocks : List Block) : Type 0 where
  pub count : in_quarantine table ≡ length blocks
  pub weighed : weights R table ≡ weigh R blocks
  pub order : (i : ℕ) → i < rows table → state table i ≡ quarantined
      → (0 < turn table i) × (turn table i ≤ length blocks)
      × (get_elem? blocks (length blocks - turn table i) ≡ some (block_of table i))

-- all of it, of an arena of S granules with the redzone R: live are the blocks granted and not yet released, and in
-- quarantine is the longest run of latest releases that weigh at most Q
pub record AgreesWith (S R Q : ℕ) (h : History) (shadow table : List ℕ) : Type 0 where
  pub shaped : ShapedAs S shadow table
  pub separated : SeparatedIn S R table
  pub rows_are : RowsAre table h.live (latest R Q h.released)
  pub quarantined : QuarantinedIn R table (latest R Q h.released)
