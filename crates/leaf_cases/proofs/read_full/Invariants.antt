-- The invariant: no more is read than there is room. The measure is what is left of it.
use Rattle.std.proofs.Common.{◌-◌, ◌≤◌, length}
use Rattle.leaf_cases.proofs.read_full.Given as goal

abbrev pub invariant-loop-count : goal.invariant-loop-count
invariant-loop-count g l = l.count ≤ length l.text

abbrev pub decreases-loop-count : goal.decreases-loop-count
decreases-loop-count g l = length l.initial.text - l.count
