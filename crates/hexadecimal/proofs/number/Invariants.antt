-- `hexadecimal::number` meets its contract: `said` is what the digits up to the index say. Assumes nothing.
use mathlib.Core.Path.{◌≡◌}
use Rattle.std.specs.Prelude.{Some}
use Rattle.std.proofs.Common.{take}
use Rattle.rules.specs.Hex.{number}
use Rattle.hexadecimal.proofs.number.Given as goal

abbrev pub invariant-loop-byte : goal.invariant-loop-byte
invariant-loop-byte l = number (take l.byte-index l.digits) ≡ Some l.said
