-- `evictions::settle` meets its contract. The invariant: the weights and the row to evict next are known, and what is
-- left to do is what was to do, less what is done. The measure is the number of quarantined rows. Assumes nothing.
use mathlib.Core.Path.{◌≡◌}
use Rattle.rules.specs.Release.{in_quarantine, settle}
use Rattle.evictions.specs.Evictions.{pool, Weighed}
use Rattle.evictions.proofs.Settling.{later}
use Rattle.evictions.proofs.settle.Given as goal

abbrev pub invariant-loop-held : goal.invariant-loop-held
invariant-loop-held l = record {
  weighed : Weighed l.redzone l.table l.held;
  rest : settle l.redzone l.quarantine (pool l.initial.shadow l.initial.table)
      ≡ later l.evicted (settle l.redzone l.quarantine (pool l.shadow l.table));
}

abbrev pub decreases-loop-held : goal.decreases-loop-held
decreases-loop-held l = in_quarantine l.table
