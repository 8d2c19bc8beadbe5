-- `shadow::range::judge` meets its contract. The loop's invariant: what is judged of the range is judged of its bytes
-- from the one looked at on. Assumes nothing.
use Prim.Native.Nat.{◌+◌, ◌-◌}
use mathlib.Core.Path.{◌≡◌}
use Rattle.rules.specs.Shadow.{judge}
use Rattle.shadow.proofs.range.judge.Given as goal

abbrev pub invariant-loop-byte : goal.invariant-loop-byte
invariant-loop-byte l = judge l.shadow l.address l.length ≡ judge l.shadow l.byte (l.address + l.length - l.byte)
