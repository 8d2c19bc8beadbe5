-- The laws of text: a hex digit's value, that what is written in digits reads back, and that each field of a line does.
-- Assumes nothing.
use Prim.Native.Nat.{ℕ, zero, suc, ◌+◌, ◌-◌, ◌*◌, ◌/◌, ◌%◌, ◌^◌, ◌≤◌, ◌<◌}
use native.Mathlib.Nat.{add_assoc, add-mul, mul_comm, mul_assoc, pow-succ', one-le-pow, mod-one, mod-lt, mod-eq_of_lt}
use native.Mathlib.Nat.{lt_of_lt_of_le, mul-le-mul_right, min-le_left, pow-le-pow_right}
use native.Mathlib.Omega.{arith}
use mathlib.Core.Path.{◌≡◌, refl, sym, ap, ap₂, subst, ◌∙◌}
use mathlib.Core.Logic.{◌≢◌}
use mathlib.Core.List.{List, [], ◌∷◌, ◌++◌, append_assoc, append-nil}
use lib.ListN.{length, get_or, take, drop, set, drop_of_length-le, length-append, length-take, length-drop}
use lib.Seq.{take_at, take-length, drop_at, drop-cons, set_at, drop-drop, get_or-take, get_or-drop, length-take-le}
use lib.Arith.{mod-mul}
use borrow.Author.Tests.{lt-ltb, le-ltb}
use Rattle.std.specs.Prelude.{Some, None}
use Rattle.std.proofs.lemmas.Option.{same_Some, none-some}
use Rattle.rules.specs.Field.{Field, width_of, start_of, number_of, digits_of}
use Rattle.rules.specs.Limits.{between, line_feed, no_digit}
use Rattle.rules.specs.Hex.{hex_digit, digit_value, number_on, number_nil, number_cons, number_stop, number}
use Rattle.rules.specs.Hex.{digit, digits, digits_zero, digits_suc, written, written_nil, written_cons}
use Rattle.rules.specs.Hex.{read_field}
use Rattle.rules.proofs.Tests.{between_high, between_is, between_low, between_true, by_found, by_order, by_test}
use Rattle.rules.proofs.Tests.{if_false, if_true}

-- ---- a hex digit

pub hex_digit_figure : (b : ℕ) → 0x30 ≤ b → b ≤ 0x39 → hex_digit b ≡ Some (b - 0x30)
unfolding hex_digit
hex_digit_figure b from upto = if_true _ _ (between_true 0x30 0x39 b from upto)

pub hex_digit_small : (b : ℕ) → 0x61 ≤ b → b ≤ 0x66 → hex_digit b ≡ Some (b - 0x61 + 10)
unfolding hex_digit
hex_digit_small b from upto =
    if_false _ _ (between_high 0x30 0x39 b (omega arith)) ∙ if_true _ _ (between_true 0x61 0x66 b from upto)

pub hex_digit_capital : (b : ℕ) → 0x41 ≤ b → b ≤ 0x46 → hex_digit b ≡ Some (b - 0x41 + 10)
unfolding hex_digit
hex_digit_capital b from upto =
    if_false _ _ (between_high 0x30 0x39 b (omega arith))
    ∙ if_false _ _ (between_low 0x61 0x66 b (omega arith))
    ∙ if_true _ _ (between_true 0x41 0x46 b from upto)

-- either case
pub either_case : (b : ℕ) → 0x41 ≤ b → b ≤ 0x46 → hex_digit b ≡ hex_digit (b + 0x20)
either_case b from upto =
    hex_digit_capital b from upto ∙ ap Some (omega arith) ∙ sym (hex_digit_small (b + 0x20) (omega arith) (omega arith))

-- the digits that are written are read back
pub hex_digit_digit : (d : ℕ) → d < 16 → hex_digit (digit d) ≡ Some d
unfolding digit
hex_digit_digit d below =
    by_order d 10
    (λ less.
    ap hex_digit (if_true (0x30 + d) (0x61 + (d - 10)) (lt-ltb d 10 less))
    ∙ hex_digit_figure (0x30 + d) (omega arith) (omega arith)
    ∙ ap Some (omega arith))
    (λ more.
    ap hex_digit (if_false (0x30 + d) (0x61 + (d - 10)) (le-ltb d 10 more))
    ∙ hex_digit_small (0x61 + (d - 10)) (omega arith) (omega arith)
    ∙ ap Some (omega arith))

-- by what a byte is
by_hex {ℓ} : {P : Type ℓ} (b : ℕ) → (0x30 ≤ b → b ≤ 0x39 → P) → (0x61 ≤ b → b ≤ 0x66 → P)
    → (0x41 ≤ b → b ≤ 0x46 → P) → (hex_digit b ≡ None → P) → P
unfolding hex_digit
by_hex b figure small capital other =
    by_test (between 0x30 0x39 b)
    (λ is. figure (between_is 0x30 0x39 b is).0 (between_is 0x30 0x39 b is).1)
    (λ no_figure.
    by_test (between 0x61 0x66 b)
    (λ is. small (between_is 0x61 0x66 b is).0 (between_is 0x61 0x66 b is).1)
    (λ no_small.
    by_test (between 0x41 0x46 b)
    (λ is. capital (between_is 0x41 0x46 b is).0 (between_is 0x41 0x46 b is).1)
    (λ no_capital. other (if_false _ _ no_figure ∙ if_false _ _ no_small ∙ if_false _ _ no_capital))))

-- a digit's value is below 16
pub hex_digit_below : (b d : ℕ) → hex_digit b ≡ Some d → d < 16
hex_digit_below b d e =
    by_hex b
    (λ from upto. omega (arith, same_Some d (b - 0x30) (sym e ∙ hex_digit_figure b from upto)))
    (λ from upto. omega (arith, same_Some d (b - 0x61 + 10) (sym e ∙ hex_digit_small b from upto)))
    (λ from upto. omega (arith, same_Some d (b - 0x41 + 10) (sym e ∙ hex_digit_capital b from upto)))
    (λ other. absurd (none-some d (sym other ∙ e)))

-- the value with its mark: a value where it is below the mark, and none where it is not
pub digit_value_some : (b d : ℕ) → hex_digit b ≡ Some d → digit_value b ≡ d
unfolding digit_value
digit_value_some b d e = rw (e, digit_value)

pub digit_value_none : (b : ℕ) → hex_digit b ≡ None → digit_value b ≡ no_digit
unfolding digit_value
digit_value_none b e = rw (e, digit_value)

pub value_some : (b : ℕ) → digit_value b < no_digit → hex_digit b ≡ Some (digit_value b)
value_some b below =
    by_found (hex_digit b)
    (λ d e. e ∙ ap Some (sym (digit_value_some b d e)))
    (λ e. absurd (omega (arith, digit_value_none b e)))

pub value_none : (b : ℕ) → no_digit ≤ digit_value b → hex_digit b ≡ None
value_none b mark =
    by_found (hex_digit b)
    (λ d e. absurd (omega (arith, digit_value_some b d e, hex_digit_below b d e)))
    (λ e. e)

-- neither a line feed nor a carriage return is a digit
pub no_line_feed : hex_digit line_feed ≡ None
unfolding hex_digit
no_line_feed = refl

pub no_carriage_return : hex_digit 0x0d ≡ None
unfolding hex_digit
no_carriage_return = refl

-- ---- numbers

-- a text in which a byte is no digit says no number
pub number_none : (n : ℕ) (bs : List ℕ) (k : ℕ) → k < length bs → hex_digit (get_or bs k 0) ≡ None
    → number_on n bs ≡ None
number_none n [] k below e = absurd (omega arith)
number_none n (b ∷ bs) zero below e = number_stop n b bs e
number_none n (b ∷ bs) (suc k) below e =
    by_found (hex_digit b)
    (λ d f. number_cons n b d bs f ∙ number_none (16 * n + d) bs k (omega arith) e)
    (λ f. number_stop n b bs f)

-- and a text of digits says one
pub number_some : (n : ℕ) (bs : List ℕ) → ((k : ℕ) → k < length bs → hex_digit (get_or bs k 0) ≢ None)
    → (v : ℕ) × (number_on n bs ≡ Some v)
number_some n [] all = (n, number_nil n)
number_some n (b ∷ bs) all =
    by_found (hex_digit b)
    (λ d f.
    let rest : (v : ℕ) × (number_on (16 * n + d) bs ≡ Some v) =
    number_some (16 * n + d) bs (λ k below. all (suc k) (omega arith)) in
    (rest.0, number_cons n b d bs f ∙ rest.1))
    (λ f. absurd (all zero (omega arith) f))

-- a number of k digits, read on from n, is below (n + 1) x 16 ^ k
pub number_below : (n : ℕ) (bs : List ℕ) (v : ℕ) → number_on n bs ≡ Some v → v < (n + 1) * 16 ^ length bs
number_below n [] v e = omega (arith, same_Some n v (sym (number_nil n) ∙ e))
number_below n (b ∷ bs) v e =
    by_found (hex_digit b)
    (λ d f.
    let rest : v < (16 * n + d + 1) * 16 ^ length bs =
    number_below (16 * n + d) bs v (sym (number_cons n b d bs f) ∙ e) in
    let digit_below : d < 16 = hex_digit_below b d f in
    lt_of_lt_of_le rest
    (subst (λ m. (16 * n + d + 1) * 16 ^ length bs ≤ m)
    (mul_assoc (n + 1) 16 (16 ^ length bs) ∙ ap (λ p. (n + 1) * p) (sym (pow-succ' 16 (length bs))))
    (mul-le-mul_right (16 ^ length bs) (omega arith))))
    (λ f. absurd (none-some v (sym (number_stop n b bs f) ∙ e)))

-- at most n digits say a number below 16 ^ n
pub number_fits : (n : ℕ) (bs : List ℕ) (v : ℕ) → number (take n bs) ≡ Some v → v < 16 ^ n
unfolding number
number_fits n bs v e =
    let few : length (take n bs) ≤ n = subst (λ k. k ≤ n) (sym (length-take n bs)) (min-le_left n (length bs)) in
    let most : 16 ^ length (take n bs) ≤ 16 ^ n = pow-le-pow_right (omega arith) few in
    omega (arith, number_below 0 (take n bs) v e)

-- ---- digits

pub length_digits : (k n : ℕ) → length (digits k n) ≡ k
length_digits zero n = ap length (digits_zero n)
length_digits (suc k) n = ap length (digits_suc k n) ∙ ap suc (length_digits k n)

carry : (m d c r : ℕ) → (16 * m + d) * c + r ≡ m * (16 * c) + (d * c + r)
carry m d c r =
    ap (λ z. z + r)
    (add-mul (16 * m) d c ∙ ap (λ z. z * c + d * c) (mul_comm 16 m) ∙ ap (λ z. z + d * c) (mul_assoc m 16 c))
    ∙ add_assoc (m * (16 * c)) (d * c) r

-- what is written in k digits is read back, on top of what was read before
number_on_digits : (k m n : ℕ) → number_on m (digits k n) ≡ Some (m * 16 ^ k + n % 16 ^ k)
number_on_digits zero m n = ap (number_on m) (digits_zero n) ∙ number_nil m ∙ ap Some (omega (arith, mod-one n))
number_on_digits (suc k) m n =
    let d : ℕ = n / 16 ^ k % 16 in
    ap (number_on m) (digits_suc k n)
    ∙ number_cons m (digit d) d (digits k n) (hex_digit_digit d (mod-lt (n / 16 ^ k) (omega arith)))
    ∙ number_on_digits k (16 * m + d) n
    ∙ ap Some
    (carry m d (16 ^ k) (n % 16 ^ k)
    ∙ ap (λ r. m * (16 * 16 ^ k) + r) (sym (mod-mul n (omega arith) (one-le-pow k 16 (omega arith))))
    ∙ ap (λ p. m * p + n % p) (sym (pow-succ' 16 k)))

pub number_digits : (k n : ℕ) → n < 16 ^ k → number (digits k n) ≡ Some n
unfolding number
number_digits k n below = number_on_digits k 0 n ∙ ap Some (zero_mul_add (16 ^ k) (n % 16 ^ k) ∙ mod-eq_of_lt below)
  where
    zero_mul_add : (a b : ℕ) → 0 * a + b ≡ b
    zero_mul_add a b = omega arith

-- ---- a part of a line

-- the k-th byte of the n bytes from i on
get_or_part : (line : List ℕ) (i n k : ℕ) → i ≤ k → k < i + n
    → get_or (take n (drop i line)) (k - i) 0 ≡ get_or line k 0
get_or_part line i n k from below =
    let e : i + (k - i) ≡ k = omega arith in
    get_or-take n (drop i line) (k - i) 0 (omega arith) ∙ get_or-drop i line (k - i) 0 ∙ ap (λ m. get_or line m 0) e

length_part : (line : List ℕ) (i n : ℕ) → i + n ≤ length line → length (take n (drop i line)) ≡ n
length_part line i n room = length-take-le n (drop i line) (omega (arith, length-drop i line))

-- a part of a line in which a byte is no digit says no number
part_none : (line : List ℕ) (i n k : ℕ) → i + n ≤ length line → i ≤ k → k < i + n
    → hex_digit (get_or line k 0) ≡ None → number (take n (drop i line)) ≡ None
unfolding number
part_none line i n k room from below e =
    number_none 0 (take n (drop i line)) (k - i) (omega (arith, length_part line i n room))
    (ap hex_digit (get_or_part line i n k from below) ∙ e)

-- and one of digits says one
part_some : (line : List ℕ) (i n : ℕ) → i + n ≤ length line
    → ((k : ℕ) → i ≤ k → k < i + n → hex_digit (get_or line k 0) ≢ None)
    → (v : ℕ) × (number (take n (drop i line)) ≡ Some v)
unfolding number
part_some line i n room all =
    number_some 0 (take n (drop i line))
    (λ k below e.
    let less : k < n = omega (arith, length_part line i n room) in
    all (i + k) (omega arith) (omega arith)
    (ap hex_digit (sym (get_or-take n (drop i line) k 0 less ∙ get_or-drop i line k 0)) ∙ e))

-- ---- a line of fields

module _ {A : Type 0} where
  pub length_written : (fields : List (Field A)) (a : A) → length (written fields a) ≡ digits_of fields
  length_written [] a = ap length (written_nil a)
  length_written (f ∷ fields) a =
      let here : List ℕ = digits f.width (f.number a) in
      ap length (written_cons f fields a)
      ∙ length-append here (written fields a)
      ∙ ap₂ ◌+◌ (length_digits f.width (f.number a)) (length_written fields a)

  -- each field of what was written reads back as its number, where that fits its digits
  pub read_written : (fields : List (Field A)) (a : A) (k : ℕ) (rest : List ℕ)
      → number_of fields k a < 16 ^ width_of fields k
      → read_field fields k (written fields a ++ rest) ≡ Some (number_of fields k a)
  unfolding read_field number
  read_written [] a k rest fits = number_nil 0
  read_written (f ∷ fields) a zero rest fits =
      let here : List ℕ = digits f.width (f.number a) in
      ap (λ line. number (take f.width (line ++ rest))) (written_cons f fields a)
      ∙ ap (λ line. number (take f.width line)) (append_assoc here (written fields a) rest)
      ∙ ap number (take_at here (written fields a ++ rest) f.width (length_digits f.width (f.number a)))
      ∙ number_digits f.width (f.number a) fits
  read_written (f ∷ fields) a (suc k) rest fits =
      let here : List ℕ = digits f.width (f.number a) in
      let line : List ℕ = written (f ∷ fields) a ++ rest in
      let behind : drop f.width line ≡ written fields a ++ rest =
      ap (λ l. drop f.width (l ++ rest)) (written_cons f fields a)
      ∙ ap (drop f.width) (append_assoc here (written fields a) rest)
      ∙ drop_at here (written fields a ++ rest) f.width (length_digits f.width (f.number a)) in
      ap (λ l. number (take (width_of fields k) l))
      (sym (drop-drop (start_of fields k) f.width line) ∙ ap (drop (start_of fields k)) behind)
      ∙ read_written fields a k rest fits

  -- and nothing behind them
  pub read_back : (fields : List (Field A)) (a : A) (k : ℕ) → number_of fields k a < 16 ^ width_of fields k
      → read_field fields k (written fields a) ≡ Some (number_of fields k a)
  read_back fields a k fits =
      ap (read_field fields k) (sym (append-nil (written fields a))) ∙ read_written fields a k [] fits

  -- what a field says fits its digits
  pub read_fits : (fields : List (Field A)) (k : ℕ) (line : List ℕ) (v : ℕ) → read_field fields k line ≡ Some v
      → v < 16 ^ width_of fields k
  unfolding read_field
  read_fits fields k line v e = number_fits (width_of fields k) (drop (start_of fields k) line) v e

  -- a field in which a byte is no digit says no number, and one of digits says one
  pub field_none : (fields : List (Field A)) (k : ℕ) (line : List ℕ) (i : ℕ)
      → start_of fields k + width_of fields k ≤ length line → start_of fields k ≤ i
      → i < start_of fields k + width_of fields k → hex_digit (get_or line i 0) ≡ None → read_field fields k line ≡ None
  unfolding read_field
  field_none fields k line i room from below e =
      part_none line (start_of fields k) (width_of fields k) i room from below e

  pub field_some : (fields : List (Field A)) (k : ℕ) (line : List ℕ)
      → start_of fields k + width_of fields k ≤ length line
      → ((i : ℕ) → start_of fields k ≤ i → i < start_of fields k + width_of fields k
      → hex_digit (get_or line i 0) ≢ None)
      → (v : ℕ) × (read_field fields k line ≡ Some v)
  unfolding read_field
  field_some fields k line room all = part_some line (start_of fields k) (width_of fields k) room all

  -- ---- a line written field by field

  -- over the bytes of l: the first k fields stand, and behind them what was there
  abbrev pub begun : List (Field A) → A → List ℕ → ℕ → List ℕ
  begun fields a l k = written (take k fields) a ++ drop (start_of fields k) l

  pub begun_none : (fields : List (Field A)) (a : A) (l : List ℕ) → l ≡ begun fields a l 0
  begun_none fields a l = ap (λ w. w ++ l) (sym (written_nil a))

  length_front : (fields : List (Field A)) (a : A) (k : ℕ)
      → length (written (take k fields) a) ≡ start_of fields k
  length_front fields a zero = ap length (written_nil a)
  length_front [] a (suc k) = ap length (written_nil a)
  length_front (f ∷ fields) a (suc k) =
      let here : List ℕ = digits f.width (f.number a) in
      ap length (written_cons f (take k fields) a)
      ∙ length-append here (written (take k fields) a)
      ∙ ap₂ ◌+◌ (length_digits f.width (f.number a)) (length_front fields a k)

  front_next : (fields : List (Field A)) (a : A) (k : ℕ)
      → written (take (suc k) fields) a ≡ written (take k fields) a ++ digits (width_of fields k) (number_of fields k a)
  front_next [] a zero = written_nil a ∙ sym (ap₂ ◌++◌ (written_nil a) (digits_zero 0))
  front_next [] a (suc k) = written_nil a ∙ sym (ap₂ ◌++◌ (written_nil a) (digits_zero 0))
  front_next (f ∷ fields) a zero =
      written_cons f [] a
      ∙ ap (λ w. digits f.width (f.number a) ++ w) (written_nil a)
      ∙ append-nil (digits f.width (f.number a))
      ∙ ap (λ w. w ++ digits f.width (f.number a)) (sym (written_nil a))
  front_next (f ∷ fields) a (suc k) =
      let here : List ℕ = digits f.width (f.number a) in
      let next : List ℕ = digits (width_of fields k) (number_of fields k a) in
      written_cons f (take (suc k) fields) a
      ∙ ap (λ w. here ++ w) (front_next fields a k)
      ∙ sym (append_assoc here (written (take k fields) a) next)
      ∙ ap (λ w. w ++ next) (sym (written_cons f (take k fields) a))

  start_next : (fields : List (Field A)) (k : ℕ) → start_of fields k + width_of fields k ≡ start_of fields (suc k)
  start_next [] zero = refl
  start_next [] (suc k) = refl
  start_next (f ∷ fields) zero = omega arith
  start_next (f ∷ fields) (suc k) =
      add_assoc f.width (start_of fields k) (width_of fields k) ∙ ap (λ n. f.width + n) (start_next fields k)

  -- the next field, where a lent part comes back with its digits
  pub begun_next : (fields : List (Field A)) (a : A) (l line new : List ℕ) (k : ℕ) → line ≡ begun fields a l k
      → new ≡ digits (width_of fields k) (number_of fields k a)
      → take (start_of fields k) line ++ (new ++ drop (width_of fields k) (drop (start_of fields k) line))
      ≡ begun fields a l (suc k)
  begun_next fields a l line new k so_far is_next =
      let at : ℕ = start_of fields k in
      let front : List ℕ = written (take k fields) a in
      let next : List ℕ = digits (width_of fields k) (number_of fields k a) in
      ap₂ (λ line new. take at line ++ (new ++ drop (width_of fields k) (drop at line))) so_far is_next
      ∙ ap₂ (λ before behind. before ++ (next ++ drop (width_of fields k) behind))
      (take_at front (drop at l) at (length_front fields a k)) (drop_at front (drop at l) at (length_front fields a k))
      ∙ sym (append_assoc front next (drop (width_of fields k) (drop at l)))
      ∙ ap₂ ◌++◌ (sym (front_next fields a k))
      (drop-drop (width_of fields k) at l ∙ ap (λ n. drop n l) (start_next fields k))

  -- all of them, and one byte behind them
  pub begun_all : (fields : List (Field A)) (a : A) (l line : List ℕ) (x : ℕ) → length l ≡ digits_of fields + 1
      → line ≡ begun fields a l (length fields) → set line (digits_of fields) x ≡ written fields a ++ (x ∷ [])
  begun_all fields a l line x whole so_far =
      let last : drop (digits_of fields) l ≡ get_or l (digits_of fields) 0 ∷ [] =
      drop-cons l (digits_of fields) 0 (omega arith)
      ∙ ap (λ t. get_or l (digits_of fields) 0 ∷ t) (drop_of_length-le l {i = suc (digits_of fields)} (omega arith)) in
      ap (λ line. set line (digits_of fields) x)
      (so_far ∙ ap₂ (λ fields behind. written fields a ++ behind) (take-length fields) last)
      ∙ set_at (written fields a) (get_or l (digits_of fields) 0) [] x (digits_of fields) (length_written fields a)
