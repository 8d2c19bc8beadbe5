use Prim.Native.Nat.{ℕ, ◌+◌}
use native.Mathlib.Omega.{arith}
use mathlib.Core.Path.{◌≡◌, sym, ap, ap₂, ◌∙◌}
use Rattle.rules.specs.Limits.{state_column, turn_column, quarantined, released_byte}
use Rattle.rules.specs.Put.{fill}
use Rattle.rules.specs.Table.{rows, set_number}
use Rattle.rules.specs.Grant.{granules}
use Rattle.rules.specs.Release.{in_quarantine, weight, weights, oldest, paint_row, quarantine_row}
use Rattle.evictions.specs.Evictions.{pool}
use Rattle.quarantine.specs.Quarantine.{first_to_leave}
use Rattle.quarantine.proofs.Entering.{entered_weights, entered_oldest}
use Rattle.quarantine.proofs.quarantine_row.Goals as goal

pub returns : goal.returns
unfolding paint_row quarantine_row
returns c =
    let pre = c.requires in
    let R = c.args.redzone in
    let table = c.args.table.now in
    let row = c.args.row in
    let paint = λ (from : ℕ) (size : ℕ). fill c.args.shadow.now from (granules size) released_byte in
    let painted = c.row.ensures ∙ ap₂ paint c.number-start.ensures c.number-size.ensures in
    let entered : c.set_number-2.new.table
    ≡ set_number turn_column (set_number state_column table row quarantined) row (in_quarantine table + 1) =
    c.set_number-2.ensures ∙ ap₂ (λ t n. set_number turn_column t row (n + 1)) c.set_number.ensures pre.count_is in
    record {
      pool_after = ap₂ pool painted entered;
      weighed = record {
        lent = record { most = omega (arith, pre.lent.most); near = pre.lent.near };
        weight_is =
            ap₂ (λ a b. a + b) pre.weight_is (c.weight_of.ensures ∙ ap (weight R) c.number-size.ensures)
            ∙ sym (ap (weights R) entered ∙ entered_weights R table row pre.below pre.is_live);
        oldest_is =
            c.first_to_leave.ensures
            ∙ ap₂ (λ t o. first_to_leave t row o) entered pre.oldest_is
            ∙ entered_oldest R table row pre.below pre.is_live
            ∙ ap (λ t. oldest t (rows t)) (sym entered);
      };
    }
