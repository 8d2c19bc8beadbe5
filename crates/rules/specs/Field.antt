-- A line is a list of fields, one behind the other, and a field is a number in so many hex digits.
use Rattle.std.specs.Prelude.{ℕ, zero, suc, ◌+◌, List, [], ◌∷◌, length}

-- how many digits a field has, and the number of a value A that they write
pub record Field (A : Type 0) : Type 0 where
  pub width : ℕ
  pub number : A → ℕ

module _ {A : Type 0} where
  abbrev pub field : ℕ → (A → ℕ) → Field A
  field width number = record { width = width; number = number }

  -- of the k-th field: its number, how many digits it has, and how many stand before it
  abbrev pub number_of : List (Field A) → ℕ → A → ℕ
  number_of [] k a = 0
  number_of (f ∷ fields) zero a = f.number a
  number_of (f ∷ fields) (suc k) a = number_of fields k a

  abbrev pub width_of : List (Field A) → ℕ → ℕ
  width_of [] k = 0
  width_of (f ∷ fields) zero = f.width
  width_of (f ∷ fields) (suc k) = width_of fields k

  abbrev pub start_of : List (Field A) → ℕ → ℕ
  start_of fields zero = 0
  start_of [] (suc k) = 0
  start_of (f ∷ fields) (suc k) = f.width + start_of fields k

  -- how many all of them have
  abbrev pub digits_of : List (Field A) → ℕ
  digits_of fields = start_of fields (length fields)
