use Prim.Native.Nat.{◌+◌}
use native.Mathlib.Omega.{arith}
use mathlib.Core.Path.{sym, ap, ◌∙◌}
use Rattle.rules.specs.Table.{rows}
use Rattle.rules.specs.Release.{in_quarantine, settle}
use Rattle.rules.proofs.Release.{evict_oldest_count}
use Rattle.evictions.specs.Evictions.{pool}
use Rattle.evictions.proofs.Settling.{later, rest_next, rest_most}
use Rattle.evictions.proofs.settle.Goals as goal

pub overflow_add-evicted : goal.overflow_add-evicted
unfolding rows
overflow_add-evicted c = omega (arith, rest_most _ _ _ _ _ c.loop-held.invariant.rest (omega arith))

pub loop-held-smaller : goal.loop-held-smaller
loop-held-smaller c =
    omega (
      arith,
      evict_oldest_count c.args.redzone c.args.quarantine (pool c.loop-held.shadow c.loop-held.table) (omega arith),
      ap (λ p. in_quarantine p.table) c.evict_oldest-held.ensures.pool_after,
    )

pub loop-held-preserved : goal.loop-held-preserved
loop-held-preserved c = record {
  weighed = c.evict_oldest-held.ensures.weighed;
  rest =
      rest_next _ _ _ _ _ c.loop-held.invariant.rest (omega arith)
      ∙ ap (λ p. later (c.loop-held.evicted + 1) (settle c.args.redzone c.args.quarantine p))
      (sym c.evict_oldest-held.ensures.pool_after);
}
