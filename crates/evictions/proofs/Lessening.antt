-- The turns lessened row by row, and the oldest of the rows so far. Assumes nothing.
use Prim.Native.Nat.{ℕ, ◌+◌, ◌-◌, ◌<◌}
use native.Mathlib.Nat.{le_refl}
use native.Mathlib.Numerals.{add-one}
use mathlib.Core.Path.{◌≡◌, sym, ap, ◌∙◌}
use mathlib.Core.List.{List}
use Rattle.std.specs.Prelude.{None}
use Rattle.rules.specs.Limits.{turn_column}
use Rattle.rules.specs.Table.{rows, turn, set_number, lessened, lessened_zero, lessened_suc}
use Rattle.rules.specs.Release.{oldest, oldest_zero}
use Rattle.rules.proofs.Table.{length_lessened, turn_kept}
use Rattle.rules.proofs.Release.{oldest_lessened}
use Rattle.blocks.proofs.Survey.{rows_are}

module _ (table : List ℕ) where
  pub lessened_none : lessened table 0 ≡ table
  lessened_none = lessened_zero table

  pub oldest_none : oldest table 0 ≡ None
  oldest_none = oldest_zero table

  -- row n's turn, lessened, is set
  pub lessened_next : (n v : ℕ) → v ≡ turn (lessened table n) n - 1
      → set_number turn_column (lessened table n) n v ≡ lessened table (n + 1)
  lessened_next n v less =
      ap (set_number turn_column (lessened table n) n) (less ∙ ap (λ t. t - 1) (turn_kept table n n (le_refl n)))
      ∙ sym (lessened_suc table n)
      ∙ ap (lessened table) (sym (add-one n))

  -- which leaves the oldest of the rows before it
  pub oldest_same : (n : ℕ) → n < rows table → oldest (lessened table (n + 1)) n ≡ oldest (lessened table n) n
  oldest_same n below = ap (λ t. oldest (lessened table t) n) (add-one n) ∙ sym (oldest_lessened table n below)

pub ruleset lessening = (lessened_none, oldest_none, lessened_next, oldest_same, length_lessened, rows_are)
