-- The shadow byte, and the range rule. A shadow is any list of numbers, one a granule.
use Rattle.std.specs.Prelude.{ℕ, ◌+◌, ◌*◌, ◌/◌, ◌%◌, ◌≤◌, ◌<◌, ◌≡◌, Bool, true, false, not, ◌&&◌, List, length, get_or}
use Rattle.std.specs.Prelude.{eqb, ltb, ℤ, pos}
use Rattle.std.specs.Int.Signed.{lt_z}
use Rattle.std.specs.Int.{w8}
use Rattle.std.proofs.Common.{to_z}
use Rattle.std.specs.Prelude.{Option, Some, None, Result, Ok, Err}
use Rattle.rules.specs.declared.BadByte.{BadByte}
use Rattle.rules.specs.Limits.{granule, outside}
use Rattle.rules.specs.Lowest.{lowest}

-- 00: all 8 bytes addressable. 01 to 07: the first k only. Any other value: none.
unfoldable pub leading : ℕ → ℕ
leading v = elim (eqb v 0) [ true ↦ granule | false ↦ elim (ltb v granule) [ true ↦ v | false ↦ 0 ] ]

-- the byte is read as a signed byte, and negative means poisoned
unfoldable pub signed : ℕ → ℤ
signed v = to_z w8 v

unfoldable pub negative : ℕ → Bool
negative v = lt_z (signed v) (pos 0)

-- byte a is inside the arena of 8 x S bytes
unfoldable pub inside : List ℕ → ℕ → Bool
inside shadow a = ltb a (granule * length shadow)

-- the shadow byte of byte a's granule
unfoldable pub shadow_of : List ℕ → ℕ → ℕ
shadow_of shadow a = get_or shadow (a / granule) 0

-- byte a is inside the arena and among its granule's addressable bytes
unfoldable pub addressable : List ℕ → ℕ → Bool
addressable shadow a = inside shadow a && ltb (a % granule) (leading (shadow_of shadow a))

-- the kind of a bad byte: its granule's shadow byte, or ff where the byte is outside the arena
unfoldable pub kind : List ℕ → ℕ → ℕ
kind shadow a = elim (inside shadow a) [ true ↦ shadow_of shadow a | false ↦ outside ]

-- the first of the touched bytes a to a + n - 1 that is not addressable; n = 0 touches nothing
unfoldable pub first_bad : List ℕ → ℕ → ℕ → Option ℕ
first_bad shadow a n = lowest (λ b. not (addressable shadow b)) n a

-- what a range is found to be: good, or not by its first bad byte
abbrev pub Verdict : Type 0
Verdict = Result Unit BadByte

abbrev pub good : Verdict
good = Ok tt

abbrev pub bad : ℕ → ℕ → Verdict
bad kind first = Err (record { kind = kind; first = first })

-- the range rule, for reads and writes alike
unfoldable pub judge : List ℕ → ℕ → ℕ → Verdict
judge shadow a n = elim (first_bad shadow a n) [ None ↦ good | Some b ↦ bad (kind shadow b) b ]

-- ---- what the range rule says of bytes

-- every byte from a to b - 1 is addressable
abbrev pub AllGood : List ℕ → ℕ → ℕ → Type 0
AllGood shadow a b = (j : ℕ) → a ≤ j → j < b → addressable shadow j ≡ true

-- b is the first touched byte that is not addressable
pub record FirstBad (shadow : List ℕ) (a n b : ℕ) : Type 0 where
  pub from : a ≤ b
  pub below : b < a + n
  pub bad : addressable shadow b ≡ false
  pub first : AllGood shadow a b
