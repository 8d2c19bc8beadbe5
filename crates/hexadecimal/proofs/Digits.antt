-- A number digit by digit: read from its highest, written from its lowest. Assumes nothing.
use Prim.Native.Nat.{ℕ, zero, suc, ◌+◌, ◌-◌, ◌*◌, ◌/◌, ◌%◌, ◌^◌, ◌<◌}
use native.Mathlib.Nat.{lt_of_lt_of_le, div-div-eq-div-mul, div-one, pow-succ', pow-le-pow_right}
use Rattle.std.specs.Prelude.{Some, None}
use Rattle.std.proofs.lemmas.Option.{same_Some, none-some}
use Rattle.std.proofs.Common.{◌≡◌, sym, ap, ap₂, ◌∙◌, add-one, sub-one, arith, List, [], ◌∷◌, ◌++◌, length, get_or}
use Rattle.std.proofs.Common.{take}
use Rattle.std.proofs.lemmas.Grind.{common_steps}
use Rattle.rules.specs.Hex.{hex_digit, number_on, number_nil, number_cons, number_stop, number}
use Rattle.rules.specs.Hex.{digit, digits, digits_zero, digits_suc}
use Rattle.rules.proofs.Tests.{by_found}
use Rattle.rules.proofs.Hex.{hex_digit_below, number_none, number_fits}

-- ---- read

-- the digit at i is read on
read_on : (n m d : ℕ) (bs : List ℕ) (i : ℕ) → i < length bs → number_on n (take i bs) ≡ Some m
    → hex_digit (get_or bs i 0) ≡ Some d → number_on n (take (suc i) bs) ≡ Some (16 * m + d)
read_on n m d [] i inside so_far is = absurd (omega arith)
read_on n m d (b ∷ bs) zero inside so_far is =
    number_cons n b d [] is ∙ number_nil (16 * n + d)
    ∙ ap (λ k. Some (16 * k + d)) (same_Some n m (sym (number_nil n) ∙ so_far))
read_on n m d (b ∷ bs) (suc i) inside so_far is =
    by_found (hex_digit b)
    (λ a e. number_cons n b a (take (suc i) bs) e
    ∙ read_on (16 * n + a) m d bs i (omega arith) (sym (number_cons n b a (take i bs) e) ∙ so_far) is)
    (λ e. absurd (none-some m (sym (number_stop n b (take i bs) e) ∙ so_far)))

pub step : (m d : ℕ) (bs : List ℕ) (i : ℕ) → i < length bs → number (take i bs) ≡ Some m
    → hex_digit (get_or bs i 0) ≡ Some d → number (take (i + 1) bs) ≡ Some (16 * m + d)
unfolding number
step m d bs i inside so_far is = rw add-one (read_on 0 m d bs i inside so_far is)

-- a byte at i that is none
pub stop : (bs : List ℕ) (i : ℕ) → i < length bs → hex_digit (get_or bs i 0) ≡ None → number bs ≡ None
unfolding number
stop = number_none 0

pub nothing : number [] ≡ Some 0
unfolding number
nothing = number_nil 0

-- room before the last of sixteen digits
pub room : (n : ℕ) (bs : List ℕ) (i : ℕ) → number (take i bs) ≡ Some n → i < 16 → n < 16 ^ 15
room n bs i so_far few =
    lt_of_lt_of_le (number_fits i bs n so_far) (pow-le-pow_right (omega arith) {j = 15} (omega arith))

pub ruleset reading = (nothing, step, stop, room, hex_digit_below)

-- ---- written

lowest_last : (k n : ℕ) (rest : List ℕ) → digits (suc k) n ++ rest ≡ digits k (n / 16) ++ (digit (n % 16) ∷ rest)
lowest_last zero n rest =
    rw (digits_suc zero n, digits_zero n, digits_zero (n / 16)) (ap (λ m. digit (m % 16) ∷ rest) (div-one n))
lowest_last (suc k) n rest =
    rw (digits_suc (suc k) n, digits_suc k (n / 16))
    (ap₂ (λ m l. digit (m % 16) ∷ l) (ap (λ p. n / p) (pow-succ' 16 k) ∙ sym (div-div-eq-div-mul n 16 (16 ^ k)))
    (lowest_last k n rest))

-- the digits of a number are those without the lowest, and the lowest
pub one_less : (k n : ℕ) (rest : List ℕ) → 0 < k
    → digits k n ++ rest ≡ digits (k - 1) (n / 16) ++ (digit (n % 16) ∷ rest)
one_less zero n rest above = absurd (omega arith)
one_less (suc k) n rest above = rw sub-one (lowest_last k n rest)

pub ruleset writing = (common_steps, digits_zero, one_less)
