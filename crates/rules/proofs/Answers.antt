-- The laws of the numbers: no line is answered another area's number, and 24 says the session alone. Assumes nothing.
use Prim.Native.Nat.{◌≤◌}
use native.Mathlib.Omega.{arith}
use mathlib.Core.Path.{◌≡◌, refl, ap}
use mathlib.Core.Logic.{◌≢◌}
use Rattle.std.specs.Prelude.{Ok, Err}
use Rattle.rules.specs.declared.Refusal.TheVariants.{BadLine, BadKind, NotZero, NoRow, NoPlace, NotHeld}
use Rattle.rules.specs.declared.Refusal.TheVariants.{Released, NotGood}
use Rattle.rules.specs.declared.CallRefusal.TheVariants.{BadSession}
use Rattle.rules.specs.Answers.{Answer}
use Rattle.rules.specs.Answers.{CallAnswer}
use Rattle.rules.specs.Answers.{in_numbers, status, call_in_numbers, call_status}

-- a line's numbers are 00 to 09
pub line_status : (answer : Answer) → status answer ≤ 9
unfolding status in_numbers
line_status (Ok value) = omega arith
line_status (Err BadLine) = omega arith
line_status (Err BadKind) = omega arith
line_status (Err NotZero) = omega arith
line_status (Err NoRow) = omega arith
line_status (Err NoPlace) = omega arith
line_status (Err NotHeld) = omega arith
line_status (Err Released) = omega arith
line_status (Err (NotGood kind first)) = omega arith

-- a call that answers as a line gives the line's number
pub answered_status : (answer : Answer) → call_status (Ok answer) ≡ status answer
unfolding call_status call_in_numbers status
answered_status answer = refl

-- which is not 24
pub answered_not_24 : {answer : CallAnswer} {line : Answer} → answer ≡ Ok line → call_status answer ≢ 24
answered_not_24 {answer} {line} e says =
    omega (arith, ap call_status e, answered_status line, line_status line)

-- the session's is
pub bad_session_24 : call_status (Err BadSession) ≡ 24
unfolding call_status call_in_numbers
bad_session_24 = refl
