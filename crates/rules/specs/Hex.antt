-- Text: the hex digits, a number read from them and written in them, and a line of fields written and read back.
use Rattle.std.specs.Prelude.{ℕ, zero, suc, ◌+◌, ◌-◌, ◌*◌, ◌/◌, ◌%◌, ◌^◌, ◌≡◌, true, false, List, [], ◌∷◌, ◌++◌, take}
use Rattle.std.specs.Prelude.{drop, ltb}
use Rattle.std.proofs.Math.Path.{refl}
use Rattle.std.specs.Prelude.{Option, Some, None}
use Rattle.rules.specs.Field.{Field, width_of, start_of}
use Rattle.rules.specs.Limits.{between, no_digit}

-- ---- digits read

-- the value of a hex digit of either case: 0 to 9, a to f, A to F
unfoldable pub hex_digit : ℕ → Option ℕ
hex_digit b =
    elim (between 0x30 0x39 b) [
      | true ↦ Some (b - 0x30)
      | false ↦
          elim (between 0x61 0x66 b) [
            | true ↦ Some (b - 0x61 + 10)
            | false ↦ elim (between 0x41 0x46 b) [ true ↦ Some (b - 0x41 + 10) | false ↦ None ]
          ]
    ]

-- the same as one number, with a mark for none
unfoldable pub digit_value : ℕ → ℕ
digit_value b = elim (hex_digit b) [ Some d ↦ d | None ↦ no_digit ]

-- digits read on from a number that is already read, the highest digit first
unfoldable pub number_on : ℕ → List ℕ → Option ℕ
number_on n [] = Some n
number_on n (b ∷ bs) = elim (hex_digit b) [ Some d ↦ number_on (16 * n + d) bs | None ↦ None ]

pub number_nil : (n : ℕ) → number_on n [] ≡ Some n
unfolding number_on
number_nil n = refl

pub number_cons : (n b d : ℕ) (bs : List ℕ) → hex_digit b ≡ Some d → number_on n (b ∷ bs) ≡ number_on (16 * n + d) bs
unfolding number_on
number_cons n b d bs e = rw (e, number_on)

pub number_stop : (n b : ℕ) (bs : List ℕ) → hex_digit b ≡ None → number_on n (b ∷ bs) ≡ None
unfolding number_on
number_stop n b bs e = rw (e, number_on)

-- the number that a text of hex digits says
unfoldable pub number : List ℕ → Option ℕ
number = number_on 0

-- ---- digits written

-- a digit below 16, in lower case
unfoldable pub digit : ℕ → ℕ
digit d = elim (ltb d 10) [ true ↦ 0x30 + d | false ↦ 0x61 + (d - 10) ]

-- the lowest k digits of a number, the highest first
unfoldable pub digits : ℕ → ℕ → List ℕ
digits zero n = []
digits (suc k) n = digit (n / 16 ^ k % 16) ∷ digits k n

pub digits_zero : (n : ℕ) → digits zero n ≡ []
unfolding digits
digits_zero n = refl

pub digits_suc : (k n : ℕ) → digits (suc k) n ≡ digit (n / 16 ^ k % 16) ∷ digits k n
unfolding digits
digits_suc k n = refl

-- ---- lines of fields

module _ {A : Type 0} where
  -- the fields of a value, one behind the other
  unfoldable pub written : List (Field A) → A → List ℕ
  written [] a = []
  written (f ∷ fields) a = digits f.width (f.number a) ++ written fields a

  pub written_nil : (a : A) → written [] a ≡ []
  unfolding written
  written_nil a = refl

  pub written_cons : (f : Field A) (fields : List (Field A)) (a : A)
      → written (f ∷ fields) a ≡ digits f.width (f.number a) ++ written fields a
  unfolding written
  written_cons f fields a = refl

  -- the number that the k-th field of a line says
  unfoldable pub read_field : List (Field A) → ℕ → List ℕ → Option ℕ
  read_field fields k line = number (take (width_of fields k) (drop (start_of fields k) line))
