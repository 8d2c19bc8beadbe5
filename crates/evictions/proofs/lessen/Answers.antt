use native.Mathlib.Omega.{arith}
use Rattle.rules.specs.Table.{rows}
use Rattle.evictions.proofs.Lessening.{lessened_next, oldest_same}
use Rattle.evictions.proofs.lessen.Goals as goal

pub oldest_with-oldest-requires : goal.oldest_with-oldest-requires
unfolding rows
oldest_with-oldest-requires c =
    let next = lessened_next c.args.table.now c.loop-row.row c.saturating_sub-turn.result cc in
    let same = oldest_same c.args.table.now c.loop-row.row (omega arith) in
    record { below = omega arith; before = cc }
