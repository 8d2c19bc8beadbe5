-- `places::place` meets its contract. The invariant over the starts: what is sought is sought from the start on; over a
-- window: the start stands, and the window is fa throughout where the rest of it is. The measure of the starts is the
-- granules after them. Assumes nothing.
use Prim.Native.Nat.{◌+◌, ◌-◌, ◌≤◌}
use mathlib.Core.Path.{◌≡◌}
use lib.ListN.{length}
use Rattle.rules.specs.Limits.{redzone_byte}
use Rattle.rules.specs.Lowest.{all_equal}
use Rattle.rules.specs.Grant.{place}
use Rattle.places.proofs.Sought.{sought}
use Rattle.places.proofs.place.Given as goal

abbrev pub invariant-loop-passed : goal.invariant-loop-passed
invariant-loop-passed l = record {
  same : l.start ≡ l.initial.start;
  window : all_equal l.shadow redzone_byte l.start l.window
      ≡ all_equal l.shadow redzone_byte (l.start + l.passed) (l.window - l.passed);
}

abbrev pub invariant-starts : goal.invariant-starts
invariant-starts l = record {
  upto : l.start ≤ length l.shadow;
  place : place l.shadow l.redzone l.granules ≡ sought l.shadow l.redzone l.granules l.start;
}

abbrev pub decreases-starts : goal.decreases-starts
decreases-starts l = length l.shadow - l.start
