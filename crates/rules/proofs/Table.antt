-- The laws of the table: a number that is set and a row that is put are read back, every other column and every other
-- row stands as it did, and lessening touches turns alone. Each holds for whatever columns there are. Assumes nothing.
use Prim.Native.Nat.{ℕ, zero, suc, ◌+◌, ◌-◌, ◌*◌, ◌/◌, ◌≤◌, ◌<◌}
use native.Mathlib.Omega.{arith}
use mathlib.Core.Path.{◌≡◌, refl, sym, ap, ◌∙◌}
use mathlib.Core.Logic.{◌≢◌}
use mathlib.Core.List.{List}
use lib.ListN.{length, get_or, replicate, length-set}
use lib.Seq.{get_or-set_same, get_or-set_other}
use Rattle.rules.specs.declared.Row.{Row}
use Rattle.rules.specs.Limits.{start_column, size_column, state_column, turn_column, row_numbers}
use Rattle.rules.specs.Table.{rows, column, turn, set_number, numbers, row_of, zero_row, put_row}
use Rattle.rules.specs.Table.{lessened, lessened_zero, lessened_suc}
use Rattle.rules.proofs.Tests.{by_order}
use Rattle.rules.proofs.Put.{length_put, put_in, put_before, put_after}

-- the numbers of a row lie in the table
pub in_table : (table : List ℕ) (i : ℕ) → i < rows table → row_numbers * i + row_numbers ≤ length table
unfolding rows
in_table table i below = omega arith

-- a table of n rows
pub rows_of : (table : List ℕ) (n : ℕ) → length table ≡ row_numbers * n → rows table ≡ n
unfolding rows
rows_of table n e = omega arith

-- tables of one length have as many rows
pub rows_same : (table other : List ℕ) → length table ≡ length other → rows table ≡ rows other
unfolding rows
rows_same table other e = ap (λ n. n / row_numbers) e

pub below_same : (table other : List ℕ) (i : ℕ) → length other ≡ length table → i < rows table → i < rows other
below_same table other i e below = omega (arith, rows_same other table e)

-- ---- a number that is set

module _ (k : ℕ) (table : List ℕ) (i v : ℕ) where
  pub length_set_number : length (set_number k table i v) ≡ length table
  unfolding set_number
  length_set_number = length-set table (row_numbers * i + k) v

  pub column_set_number : k < row_numbers → i < rows table → column k (set_number k table i v) i ≡ v
  unfolding set_number column
  column_set_number in_row below =
      let room : row_numbers * i + row_numbers ≤ length table = in_table table i below in
      get_or-set_same table (row_numbers * i + k) v 0 (omega arith)

  -- another column
  pub column_set_number_other : (l j : ℕ) → k < row_numbers → l < row_numbers → l ≢ k
      → column l (set_number k table i v) j ≡ column l table j
  unfolding set_number column
  column_set_number_other l j in_row other_in_row other =
      get_or-set_other table (row_numbers * i + k) (row_numbers * j + l) v 0 (omega arith)

  -- another row
  pub column_set_number_elsewhere : (l j : ℕ) → k < row_numbers → l < row_numbers → j ≢ i
      → column l (set_number k table i v) j ≡ column l table j
  unfolding set_number column
  column_set_number_elsewhere l j in_row other_in_row other =
      get_or-set_other table (row_numbers * i + k) (row_numbers * j + l) v 0 (omega arith)

-- ---- a row that is put

-- the record has as many numbers as a row
pub length_numbers : (row : Row) → length (numbers row) ≡ row_numbers
length_numbers row = refl

module _ (table : List ℕ) (i : ℕ) (row : Row) (below : i < rows table) where
  pub length_put_row : length (put_row table i row) ≡ length table
  unfolding put_row
  length_put_row = length_put table (row_numbers * i) (numbers row) (in_table table i below)

  pub column_put_row : (k : ℕ) → k < row_numbers → column k (put_row table i row) i ≡ get_or (numbers row) k 0
  unfolding put_row column
  column_put_row k in_row =
      let room : row_numbers * i + row_numbers ≤ length table = in_table table i below in
      put_in table (row_numbers * i) (numbers row) k 0 (omega arith) in_row

  -- another row
  pub column_put_row_other : (k j : ℕ) → k < row_numbers → j ≢ i → column k (put_row table i row) j ≡ column k table j
  unfolding put_row column
  column_put_row_other k j in_row other =
      let room : row_numbers * i + row_numbers ≤ length table = in_table table i below in
      by_order j i
      (λ less. put_before table (row_numbers * i) (numbers row) (row_numbers * j + k) 0 (omega arith) (omega arith))
      (λ more. put_after table (row_numbers * i) (numbers row) (row_numbers * j + k) 0 (omega arith) (omega arith))

-- the zero row's numbers
pub zero_row_zero : (k : ℕ) → get_or (numbers zero_row) k 0 ≡ 0
zero_row_zero = zeros row_numbers
  where
    zeros : (n k : ℕ) → get_or (replicate {A = ℕ} n 0) k 0 ≡ 0
    zeros zero k = refl
    zeros (suc n) zero = refl
    zeros (suc n) (suc k) = zeros n k

-- ---- a row, whole

-- a row by its numbers
abbrev row_by : (ℕ → ℕ) → Row
row_by f = record { start = f start_column; size = f size_column; state = f state_column; turn = f turn_column }

same_by : (f g : ℕ → ℕ) → ((k : ℕ) → k < row_numbers → f k ≡ g k) → row_by f ≡ row_by g
same_by f g same =
    rw (
      same start_column (omega arith),
      same size_column (omega arith),
      same state_column (omega arith),
      same turn_column (omega arith),
    ) refl

pub same_row : (table other : List ℕ) (i : ℕ) → ((k : ℕ) → k < row_numbers → column k table i ≡ column k other i)
    → row_of table i ≡ row_of other i
same_row table other i same = same_by (λ k. column k table i) (λ k. column k other i) same

-- of zeros
pub row_of_zeros : (table : List ℕ) (i : ℕ) → ((k : ℕ) → k < row_numbers → column k table i ≡ 0)
    → row_of table i ≡ zero_row
row_of_zeros table i zeros = same_by (λ k. column k table i) (λ _. 0) zeros

-- and its numbers are the columns
pub numbers_of_row : (table : List ℕ) (i k : ℕ) → k < row_numbers → column k table i
    ≡ get_or (numbers (row_of table i)) k 0
numbers_of_row table i zero in_row = refl
numbers_of_row table i (suc zero) in_row = refl
numbers_of_row table i (suc (suc zero)) in_row = refl
numbers_of_row table i (suc (suc (suc zero))) in_row = refl
numbers_of_row table i (suc (suc (suc (suc k)))) in_row = absurd (omega arith)

pub zeros_of_row : (table : List ℕ) (i : ℕ) → row_of table i ≡ zero_row → (k : ℕ) → k < row_numbers → column k table i
    ≡ 0
zeros_of_row table i is_zero k in_row =
    numbers_of_row table i k in_row ∙ ap (λ row. get_or (numbers row) k 0) is_zero ∙ zero_row_zero k

-- the one that was put
pub row_of_put_row : (table : List ℕ) (i : ℕ) (row : Row) → i < rows table → row_of (put_row table i row) i ≡ row
row_of_put_row table i row below =
    same_by (λ k. column k (put_row table i row) i) (λ k. get_or (numbers row) k 0) (column_put_row table i row below)

-- ---- lessening

pub length_lessened : (table : List ℕ) (n : ℕ) → length (lessened table n) ≡ length table
length_lessened table zero = ap length (lessened_zero table)
length_lessened table (suc n) =
    ap length (lessened_suc table n)
    ∙ length_set_number turn_column (lessened table n) n (turn table n - 1)
    ∙ length_lessened table n

-- no number but a turn is touched
pub column_lessened : (table : List ℕ) (n k i : ℕ) → k < row_numbers → k ≢ turn_column
    → column k (lessened table n) i ≡ column k table i
column_lessened table zero k i in_row other = ap (λ t. column k t i) (lessened_zero table)
column_lessened table (suc n) k i in_row other =
    ap (λ t. column k t i) (lessened_suc table n)
    ∙ column_set_number_other turn_column (lessened table n) n (turn table n - 1) k i (omega arith) in_row other
    ∙ column_lessened table n k i in_row other

-- the turn of row n alone is set
turn_set_elsewhere : (table : List ℕ) (n i : ℕ) → i ≢ n
    → turn (set_number turn_column (lessened table n) n (turn table n - 1)) i ≡ turn (lessened table n) i
turn_set_elsewhere table n i other =
    column_set_number_elsewhere turn_column (lessened table n) n (turn table n - 1) turn_column i (omega arith)
    (omega arith) other

-- the turns from row n on are as they were
pub turn_kept : (table : List ℕ) (n i : ℕ) → n ≤ i → turn (lessened table n) i ≡ turn table i
turn_kept table zero i from = ap (λ t. turn t i) (lessened_zero table)
turn_kept table (suc n) i from =
    ap (λ t. turn t i) (lessened_suc table n)
    ∙ turn_set_elsewhere table n i (omega arith)
    ∙ turn_kept table n i (omega arith)

-- the turns below row n are lessened
pub turn_lessened : (table : List ℕ) (n i : ℕ) → n ≤ rows table → i < n → turn (lessened table n) i ≡ turn table i - 1
turn_lessened table zero i in_rows below = absurd (omega arith)
turn_lessened table (suc n) i in_rows below =
    let same : rows (lessened table n) ≡ rows table = rows_same (lessened table n) table (length_lessened table n) in
    ap (λ t. turn t i) (lessened_suc table n)
    ∙ by_order i n
    (λ less.
    turn_set_elsewhere table n i (omega arith)
    ∙ turn_lessened table n i (omega arith) less)
    (λ more.
    let last : i ≡ n = omega arith in
    ap (turn (set_number turn_column (lessened table n) n (turn table n - 1))) last
    ∙ column_set_number turn_column (lessened table n) n (turn table n - 1) (omega arith) (omega arith)
    ∙ ap (λ j. turn table j - 1) (sym last))
