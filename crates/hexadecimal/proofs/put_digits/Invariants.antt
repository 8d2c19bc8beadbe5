-- `hexadecimal::put_digits` meets its contract: the digits of what is left of the number, and behind them what is
-- written, are all that is to be written. Assumes nothing.
use mathlib.Core.Path.{◌≡◌}
use mathlib.Core.List.{◌++◌}
use lib.ListN.{length, drop}
use Rattle.rules.specs.Hex.{digits}
use Rattle.hexadecimal.proofs.put_digits.Given as goal

abbrev pub invariant-loop-i : goal.invariant-loop-i
invariant-loop-i l = digits l.i l.left ++ drop l.i l.part ≡ digits (length l.part) l.number
