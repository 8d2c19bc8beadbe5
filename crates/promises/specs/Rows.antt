-- The blocks that the table holds, how far apart blocks are, and the shadow that a table draws.
use Rattle.std.specs.Prelude.{ℕ, zero, suc, ◌+◌, ◌-◌, ◌*◌, ◌≤◌, ◌<◌, ◌≡◌, ◌≢◌, ◌⊎◌, Bool, true, false, ◌&&◌, ◌||◌}
use Rattle.std.specs.Prelude.{get_or, eqb, leb, ltb}
use Rattle.std.specs.Prelude.{Some, None}
use mathlib.Core.List.{List, [], ◌∷◌, Memᴰ}
use Rattle.rules.specs.Limits.{granule, redzone_byte, released_byte, live, quarantined}
use Rattle.rules.specs.Lowest.{lowest, total}
use Rattle.rules.specs.Table.{rows, start, size, state, is_empty, is_quarantined}
use Rattle.rules.specs.Grant.{granules, granted}
use Rattle.promises.specs.History.{Block}

-- ---- blocks

-- x is one of those in the list
infix 50 ◌∈◌
abbrev pub ◌∈◌ {ℓ} : {A : Type ℓ} → A → List A → Type ℓ
x ∈ list = Memᴰ x list

-- the first byte past a block's granules
unfoldable pub past : Block → ℕ
past x = x.address + granule * granules x.size

-- at least R granules lie between the two
abbrev pub Apart : ℕ → Block → Block → Type 0
Apart R x y = (past x + granule * R ≤ y.address) ⊎ (past y + granule * R ≤ x.address)

-- at least R granules lie between the block and both ends of an arena of S granules
pub record Inside (S R : ℕ) (x : Block) : Type 0 where
  pub low : granule * R ≤ x.address
  pub high : past x + granule * R ≤ granule * S

-- x keeps R granules from both ends and from every one of the blocks
pub record Free (S R : ℕ) (blocks : List Block) (x : Block) : Type 0 where
  pub inside : Inside S R x
  pub apart : (y : Block) → y ∈ blocks → Apart R x y

-- one of the blocks starts at address a
abbrev pub Starts : List Block → ℕ → Type 0
Starts blocks a = (y : Block) × (y ∈ blocks) × (y.address ≡ a)

-- no two of the blocks start at one address
unfoldable pub Distinct : List Block → Type 0
Distinct [] = Unit {0}
Distinct (x ∷ blocks) = ((y : Block) → y ∈ blocks → y.address ≢ x.address) × Distinct blocks

-- ---- rows

-- row i holds a block: it is live or quarantined
pub record HeldRow (table : List ℕ) (i : ℕ) : Type 0 where
  pub below : i < rows table
  pub has : (state table i ≡ live) ⊎ (state table i ≡ quarantined)

-- the block of row i
abbrev pub block_of : List ℕ → ℕ → Block
block_of table i = record { address = granule * start table i; size = size table i }

-- one of the rows in a state has that block
abbrev pub RowOf : List ℕ → ℕ → Block → Type 0
RowOf table wanted x = (i : ℕ) × (i < rows table) × (state table i ≡ wanted) × (block_of table i ≡ x)

-- the rows that are not empty
unfoldable pub use_of : List ℕ → ℕ → ℕ
use_of table i = elim (is_empty table i) [ true ↦ 0 | false ↦ 1 ]

unfoldable pub in_use : List ℕ → ℕ
in_use table = total (use_of table) (rows table)

-- ---- the shadow that a table draws

-- granule g is one of row i's, and the row is live or quarantined
unfoldable pub covers : List ℕ → ℕ → ℕ → Bool
covers table g i =
    (eqb (state table i) live || eqb (state table i) quarantined)
    && leb (start table i) g && ltb g (start table i + granules (size table i))

-- fd in the granules of a quarantined row, in those of a live row what its grant painted
unfoldable pub painted : List ℕ → ℕ → ℕ → ℕ
painted table g i =
    elim (is_quarantined table i) [
      | true ↦ released_byte
      | false ↦ get_or (granted (size table i)) (g - start table i) 0
    ]

-- and fa everywhere else
unfoldable pub drawn_byte : List ℕ → ℕ → ℕ
drawn_byte table g = elim (lowest (covers table g) (rows table) 0) [ None ↦ redzone_byte | Some i ↦ painted table g i ]

-- the n shadow bytes from granule g on
unfoldable pub drawn : List ℕ → ℕ → ℕ → List ℕ
drawn table zero g = []
drawn table (suc n) g = drawn_byte table g ∷ drawn table n (suc g)
