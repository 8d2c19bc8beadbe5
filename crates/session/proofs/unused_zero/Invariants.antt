-- `session::unused_zero` meets its contract. The invariant: what is asked of the places from the first unused one on is
-- asked of those from the one looked at on. Assumes nothing.
use mathlib.Core.Path.{◌≡◌}
use Rattle.rules.specs.Calls.{unused_zero}
use Rattle.session.proofs.unused_zero.Given as goal

abbrev pub invariant-loop-place : goal.invariant-loop-place
invariant-loop-place l = unused_zero l.line l.used ≡ unused_zero l.line l.place
