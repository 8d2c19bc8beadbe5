-- What the functions that put a row into the quarantine leave, and what they ask.
use Rattle.std.specs.Prelude.{ℕ, ◌<◌, ◌≡◌, true, false, List, Option, Some, None, ltb}
use Rattle.rules.specs.Limits.{live}
use Rattle.rules.specs.Table.{rows, state, turn}
use Rattle.rules.specs.Release.{in_quarantine, weights, Pool, quarantine_row}
use Rattle.blocks.specs.declared.rows.Seen.{Seen}
use Rattle.blocks.specs.Survey.{TableLent}
use Rattle.evictions.specs.declared.Held.{Held}
use Rattle.evictions.specs.Evictions.{Next, Weighed}

-- of a quarantined row i and another, the one that leaves first: the lower turn, on equal turns the lower row
unfoldable pub first_to_leave : List ℕ → ℕ → Option ℕ → Option ℕ
first_to_leave table i None = Some i
first_to_leave table i (Some k) =
    elim (ltb (turn table i) (turn table k)) [
      | true ↦ Some i
      | false ↦ elim (ltb (turn table k)
          (turn table i)) [ true ↦ Some k | false ↦ elim (ltb i k) [ true ↦ Some i | false ↦ Some k ] ]
    ]

-- both are rows of the table
pub record BothIn (table : List ℕ) (i : ℕ) (other : Option ℕ) : Type 0 where
  pub below : i < rows table
  pub other_below : (k : ℕ) → other ≡ Some k → k < rows table

-- row i is live, and `seen` is what one pass found
pub record Entering (R : ℕ) (table : List ℕ) (i : ℕ) (seen : Seen) : Type 0 where
  pub lent : TableLent R table
  pub below : i < rows table
  pub is_live : state table i ≡ live
  pub count_is : seen.count ≡ in_quarantine table
  pub weight_is : seen.weight ≡ weights R table
  pub oldest_is : Next table seen.oldest

-- row i is quarantined
pub record Entered (R : ℕ) (before : Pool) (i : ℕ) (after : Pool) (held : Held) : Type 0 where
  pub pool_after : after ≡ quarantine_row before i
  pub weighed : Weighed R after.table held
