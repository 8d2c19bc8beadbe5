-- Choices, and tests as facts: a choice whose test is known, the cases of a test, of a search and of an order, two
-- tests joined, a test asked by its contrary, and a number between its limits. Assumes nothing.
use Prim.Native.Nat.{ℕ, ◌≤◌, ◌<◌}
use native.Mathlib.Decide.{dec_lt}
use native.Mathlib.Omega.{arith}
use mathlib.Core.Path.{◌≡◌, refl, sym, ap, ◌∙◌}
use mathlib.Core.Bool.{Bool, true, false, not, ◌&&◌, and-eq-true_iff, true≢false}
use lib.Dec.{leb}
use borrow.Author.Tests.{leb-true, le-leb, lt-leb}
use Rattle.std.specs.Prelude.{Option, Some, None}
use Rattle.rules.specs.Limits.{between}

-- a choice by a test whose value is known
pub if_true {ℓ} : {A : Type ℓ} {t : Bool} (a b : A) → t ≡ true → (elim t as (λ _. A) [ true ↦ a | false ↦ b ]) ≡ a
if_true {A} a b e = ap (λ (c : Bool). elim c as (λ _. A) [ true ↦ a | false ↦ b ]) e

pub if_false {ℓ} : {A : Type ℓ} {t : Bool} (a b : A) → t ≡ false → (elim t as (λ _. A) [ true ↦ a | false ↦ b ]) ≡ b
if_false {A} a b e = ap (λ (c : Bool). elim c as (λ _. A) [ true ↦ a | false ↦ b ]) e

-- by the two values of a test, each with its equation
pub by_test {ℓ} : {P : Type ℓ} (t : Bool) → (t ≡ true → P) → (t ≡ false → P) → P
by_test true passes fails = passes refl
by_test false passes fails = fails refl

-- by what was found, each with its equation
pub by_found {ℓ} : {P : Type ℓ} (o : Option ℕ) → ((k : ℕ) → o ≡ Some k → P) → (o ≡ None → P) → P
by_found (Some k) one nothing = one k refl
by_found None one nothing = nothing refl

-- by the order of two numbers
pub by_order {ℓ} : {P : Type ℓ} (j k : ℕ) → (j < k → P) → (k ≤ j → P) → P
by_order j k less more = elim (dec_lt j k) [ yes h ↦ less h | no h ↦ more (omega arith) ]

-- of two tests joined, both or neither
pub both : {a b : Bool} → (a && b) ≡ true → (a ≡ true) × (b ≡ true)
both {a} {b} e = (and-eq-true_iff a b).0 e

pub join : {a b : Bool} → a ≡ true → b ≡ true → (a && b) ≡ true
join {a} {b} e f = (and-eq-true_iff a b).1 (e, f)

-- a test that is denied, or passed, where the code asks for its contrary
pub denied : {t s : Bool} → t ≡ s → not t ≡ true → s ≡ false
denied {t} e contrary = by_test t (λ is. absurd (true≢false (sym contrary ∙ ap not is))) (λ is. sym e ∙ is)

pub passed : {t s : Bool} → t ≡ s → not t ≡ false → s ≡ true
passed {t} e contrary = by_test t (λ is. sym e ∙ is) (λ is. absurd (true≢false (sym (ap not is) ∙ contrary)))

-- ---- limits, as a test

pub between_true : (low high n : ℕ) → low ≤ n → n ≤ high → between low high n ≡ true
between_true low high n from upto = join (le-leb low n from) (le-leb n high upto)

pub between_low : (low high n : ℕ) → n < low → between low high n ≡ false
between_low low high n below = rw (lt-leb low n below)

pub between_high : (low high n : ℕ) → high < n → between low high n ≡ false
between_high low high n above =
    by_test (between low high n)
    (λ e. absurd (omega (arith, leb-true n high (both {a = leb low n} e).1)))
    (λ e. e)

pub between_is : (low high n : ℕ) → between low high n ≡ true → (low ≤ n) × (n ≤ high)
between_is low high n e =
    (leb-true low n (both {a = leb low n} e).0, leb-true n high (both {a = leb low n} e).1)
