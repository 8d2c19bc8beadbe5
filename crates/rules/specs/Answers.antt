-- When the watcher says no: the paper's number, kind and value for each answer, a type for each area.
use Rattle.std.specs.Prelude.{ℕ, Result, Ok, Err}
use Rattle.rules.specs.declared.Refusal.{Refusal}
use Rattle.rules.specs.declared.Refusal.TheVariants.{BadLine, BadKind, NotZero, NoRow, NoPlace, NotHeld}
use Rattle.rules.specs.declared.Refusal.TheVariants.{Released, NotGood}
use Rattle.rules.specs.declared.CallRefusal.{CallRefusal}
use Rattle.rules.specs.declared.CallRefusal.TheVariants.{BadSession}
use Rattle.rules.specs.declared.OpeningRefusal.{OpeningRefusal}
use Rattle.rules.specs.declared.OpeningRefusal.TheVariants.{BadShadowLength, BadRedzone, BadTableLength}
use Rattle.rules.specs.declared.MapRefusal.{MapRefusal}
use Rattle.rules.specs.declared.MapRefusal.TheVariants.{BeyondMap, InGap}
use Rattle.rules.specs.declared.Reply.{Reply}

-- a line's answer: a value, or a refusal
abbrev pub Answer : Type 0
Answer = Result ℕ Refusal

-- a later call's: as a line's, or that the session does not fit
abbrev pub CallAnswer : Type 0
CallAnswer = Result Answer CallRefusal

-- an opening's and a map's: nothing besides, or why it is refused
abbrev pub OpeningAnswer : Type 0
OpeningAnswer = Result Unit OpeningRefusal

abbrev pub MapAnswer : Type 0
MapAnswer = Result Unit MapRefusal

abbrev pub reply : ℕ → ℕ → ℕ → Reply
reply status kind value = record { status = status; kind = kind; value = value }

-- a line: the table's rows to 09, a row a case: number, kind, value
unfoldable pub in_numbers : Answer → Reply
in_numbers (Ok value) = reply 00 0 value
in_numbers (Err BadLine) = reply 01 0 0
in_numbers (Err BadKind) = reply 02 0 0
in_numbers (Err NotZero) = reply 03 0 0
in_numbers (Err NoRow) = reply 05 0 0
in_numbers (Err NoPlace) = reply 06 0 0
in_numbers (Err NotHeld) = reply 07 0 0
in_numbers (Err Released) = reply 08 0 0
in_numbers (Err (NotGood kind first)) = reply 09 kind first

-- its number alone
unfoldable pub status : Answer → ℕ
status answer = (in_numbers answer).status

-- an opening: 00, or why it is refused
unfoldable pub opening_status : OpeningAnswer → ℕ
opening_status (Ok _) = 00
opening_status (Err BadShadowLength) = 21
opening_status (Err BadRedzone) = 22
opening_status (Err BadTableLength) = 23

-- any later call: as a line, or 24, with every other number 0
unfoldable pub call_in_numbers : CallAnswer → Reply
call_in_numbers (Ok answer) = in_numbers answer
call_in_numbers (Err BadSession) = reply 24 0 0

unfoldable pub call_status : CallAnswer → ℕ
call_status answer = (call_in_numbers answer).status

-- a map: 00, or why there is no shadow address
unfoldable pub map_status : MapAnswer → ℕ
map_status (Ok _) = 00
map_status (Err BeyondMap) = 31
map_status (Err InGap) = 32
