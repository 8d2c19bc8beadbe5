-- The table: rows of numbers, start granule, size in bytes, state and turn. A table is any list of numbers, scribbled
-- ones too.
use Rattle.std.specs.Prelude.{ℕ, zero, suc, ◌+◌, ◌-◌, ◌*◌, ◌/◌, ◌≡◌, refl, Bool, List, [], ◌∷◌, length, get_or, set}
use Rattle.std.specs.Prelude.{eqb}
use Rattle.rules.specs.declared.Row.{Row}
use Rattle.rules.specs.Limits.{start_column, size_column, state_column, turn_column, row_numbers}
use Rattle.rules.specs.Limits.{empty, quarantined}
use Rattle.rules.specs.Put.{put}

-- how many rows a table has
unfoldable pub rows : List ℕ → ℕ
rows table = length table / row_numbers

-- the k-th number of row i
unfoldable pub column : ℕ → List ℕ → ℕ → ℕ
column k table i = get_or table (row_numbers * i + k) 0

abbrev pub start : List ℕ → ℕ → ℕ
start = column start_column

abbrev pub size : List ℕ → ℕ → ℕ
size = column size_column

abbrev pub state : List ℕ → ℕ → ℕ
state = column state_column

abbrev pub turn : List ℕ → ℕ → ℕ
turn = column turn_column

-- the table with another k-th number of row i
unfoldable pub set_number : ℕ → List ℕ → ℕ → ℕ → List ℕ
set_number k table i v = set table (row_numbers * i + k) v

-- ---- a row, whole

-- its numbers, in the columns' order
abbrev pub numbers : Row → List ℕ
numbers row = row.start ∷ row.size ∷ row.state ∷ row.turn ∷ []

-- row i
abbrev pub row_of : List ℕ → ℕ → Row
row_of table i = record { start = start table i; size = size table i; state = state table i; turn = turn table i }

-- the row of an empty table, and of a block that was evicted
abbrev pub zero_row : Row
zero_row = record { start = 0; size = 0; state = empty; turn = 0 }

-- the table with another row i
unfoldable pub put_row : List ℕ → ℕ → Row → List ℕ
put_row table i row = put table (row_numbers * i) (numbers row)

-- a row is empty, live or quarantined by its state alone; a state above 2 is neither empty nor held
abbrev pub is_empty : List ℕ → ℕ → Bool
is_empty table i = eqb (state table i) empty

abbrev pub is_quarantined : List ℕ → ℕ → Bool
is_quarantined table i = eqb (state table i) quarantined

-- the first n rows' turns, each above 0 lessened by one
unfoldable pub lessened : List ℕ → ℕ → List ℕ
lessened table zero = table
lessened table (suc n) = set_number turn_column (lessened table n) n (turn table n - 1)

-- ---- the equations

pub lessened_zero : (table : List ℕ) → lessened table zero ≡ table
unfolding lessened
lessened_zero table = refl

pub lessened_suc : (table : List ℕ) (n : ℕ)
    → lessened table (suc n) ≡ set_number turn_column (lessened table n) n (turn table n - 1)
unfolding lessened
lessened_suc table n = refl
