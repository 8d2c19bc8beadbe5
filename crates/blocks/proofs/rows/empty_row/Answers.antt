-- `blocks::rows::empty_row` meets its contract: what a `find` over the rows finds is the lowest. Assumes nothing.
use Prim.Native.Nat.{ℕ, ◌≤◌, ◌<◌}
use native.Mathlib.Omega.{arith}
use mathlib.Core.Path.{◌≡◌, sym}
use mathlib.Core.Bool.{Bool, true, false}
use Rattle.std.proofs.Common.{rules, tests}
use Rattle.std.proofs.lemmas.Iterator.{first_from_Range}
use Rattle.std.specs.Prelude.{Option, Some, None, MatchOption}
use Rattle.rules.specs.Lowest.{lowest}
use Rattle.rules.specs.Table.{rows, is_empty}
use Rattle.rules.specs.Grant.{empty_row}
use Rattle.rules.proofs.Lowest.{lowest_is, lowest_no}
use Rattle.blocks.proofs.rows.empty_row.Goals as goal

lowest_by : (test : ℕ → Bool) (n : ℕ) (first : Option ℕ)
    → MatchOption first ((k : ℕ) → 0 ≤ k → k < n → test k ≡ false)
    (λ i. (0 ≤ i) × (i < n) × (test i ≡ true) × ((k : ℕ) → 0 ≤ k → k < i → test k ≡ false)) → first ≡ lowest test n 0
lowest_by test n None none = sym (lowest_no test n 0 (λ j from below. none j from (omega arith)))
lowest_by test n (Some i) at =
    let below : i < n = at.1 in
    sym (lowest_is test n 0 i (record { from = at.0; below = omega arith; passes = at.2; first = at.3 }))

pub returns : goal.returns
unfolding empty_row rows
returns c =
    let table = c.args.table.now in
    lowest_by (is_empty table) (rows table) c.find.result
    (first_from_Range _ _ _ _ (λ i. is_empty table i ≡ true) (λ i. is_empty table i ≡ false) c.find.ensures.ran
    (λ x q k. grind (arith, tests))
    (λ x q k. (search rules, grind (arith, tests))))
