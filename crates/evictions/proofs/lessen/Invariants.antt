-- `evictions::lessen` meets its contract. The invariant: the turns of the rows before `row` are lessened, and `oldest`
-- is the oldest of them. Assumes nothing.
use mathlib.Core.Path.{◌≡◌}
use Rattle.rules.specs.Table.{lessened}
use Rattle.rules.specs.Release as release
use Rattle.evictions.proofs.lessen.Given as goal

abbrev pub invariant-loop-row : goal.invariant-loop-row
invariant-loop-row l = record {
  table : l.table ≡ lessened l.initial.table l.row;
  oldest : l.oldest ≡ release.oldest l.table l.row;
}
