-- The search for a place: what is sought from a start on, and what a byte of the window there makes of it. Assumes
-- nothing.
use Prim.Native.Nat.{ℕ, suc, ◌+◌, ◌-◌, ◌≤◌, ◌<◌}
use native.Mathlib.Omega.{arith}
use mathlib.Core.Path.{◌≡◌, sym, ap, ap₂, ◌∙◌}
use mathlib.Core.Logic.{◌≢◌}
use mathlib.Core.Bool.{Bool, true, not}
use mathlib.Core.List.{List}
use lib.Dec.{eqb}
use lib.ListN.{length, get_or}
use borrow.Author.Tests.{eq-eqb}
use Rattle.std.specs.Prelude.{Option, None, Some}
use Rattle.rules.specs.Limits.{redzone_byte}
use Rattle.rules.specs.Lowest.{lowest, found, all_equal, lowest_zero, lowest_here, lowest_later}
use Rattle.rules.specs.Grant.{fits, place, AllFree, Fits}
use Rattle.rules.proofs.Tests.{by_order, by_test}
use Rattle.rules.proofs.Lowest.{NonePasses, lowest_skip, lowest_no, all_equal_true}

-- n numbers that fail are passed over
skipped : (test : ℕ → Bool) (n left i : ℕ) → NonePasses test n i
    → lowest test left i ≡ lowest test (left - n) (i + n)
skipped test n left i fails =
    by_order left n
    (λ less.
    let over : 0 ≡ left - n = omega arith in
    lowest_no test left i (λ j from below. fails j from (omega arith))
    ∙ sym (lowest_zero test (i + n))
    ∙ ap (λ m. lowest test m (i + n)) over)
    (λ more.
    let whole : left ≡ n + (left - n) = omega arith in
    ap (λ m. lowest test m i) whole ∙ lowest_skip test n (left - n) i fails)

-- where a number of a window is v, the rest of the window is v throughout where what follows it is
pub window_next : (list : List ℕ) (v i n k : ℕ) → k < n → get_or list (i + k) 0 ≡ v
    → all_equal list v (i + k) (n - k) ≡ all_equal list v (i + (k + 1)) (n - (k + 1))
unfolding all_equal
window_next list v i n k below same =
    let other : ℕ → Bool = λ j. not (eqb (get_or list j 0) v) in
    let left : n - k ≡ suc (n - (k + 1)) = omega arith in
    let next : suc (i + k) ≡ i + (k + 1) = omega arith in
    ap (λ m. not (found (lowest other m (i + k)))) left
    ∙ ap (λ o. not (found o))
    (lowest_later other (n - (k + 1)) (i + k) (ap not (eq-eqb (get_or list (i + k) 0) v same)))
    ∙ ap (λ j. not (found (lowest other (n - (k + 1)) j))) next

-- no place fits whose window begins before start
pub record Sought (shadow : List ℕ) (R u start : ℕ) : Type 0 where
  pub upto : start ≤ length shadow
  pub before : (q : ℕ) → q < start + R → Fits shadow R u q → ⊥

-- and the first k bytes of the window that begins there are fa
pub record Windowed (shadow : List ℕ) (R u start k : ℕ) : Type 0 where
  pub sought : Sought shadow R u start
  pub room : R + u + R ≤ length shadow - start
  pub upto : k ≤ R + u + R
  pub free : AllFree shadow start (start + k)

module _ (shadow : List ℕ) (R u : ℕ) where
  -- the lowest place whose window begins at the start or after it
  pub sought : ℕ → Option ℕ
  sought start = lowest (fits shadow R u) (length shadow + 1 - (R + u + R) - start) (R + start)

  pub sought_none : place shadow R u ≡ sought 0
  unfolding place sought
  sought_none = ap₂ (lowest (fits shadow R u)) (omega arith) (omega arith)

  pub sought_all : (start : ℕ) → length shadow - start < R + u + R → sought start ≡ None
  unfolding sought
  sought_all start over =
      let left : length shadow + 1 - (R + u + R) - start ≡ 0 = omega arith in
      ap (λ n. lowest (fits shadow R u) n (R + start)) left ∙ lowest_zero (fits shadow R u) (R + start)

  pub sought_here : (start k : ℕ) → start ≤ length shadow → R + u + R ≤ length shadow - start
      → all_equal shadow redzone_byte start (R + u + R) ≡ all_equal shadow redzone_byte (start + k) (R + u + R - k)
      → R + u + R ≤ k → sought start ≡ Some (start + R)
  unfolding sought fits all_equal
  sought_here start k upto room same whole =
      let left : length shadow + 1 - (R + u + R) - start ≡ suc (length shadow - (R + u + R) - start) = omega arith in
      let window : R + start - R ≡ start = omega arith in
      let place_is : R + start ≡ start + R = omega arith in
      let end : R + u + R - k ≡ 0 = omega arith in
      let passes : fits shadow R u (R + start) ≡ true =
      ap (λ i. all_equal shadow redzone_byte i (R + u + R)) window
      ∙ same ∙ ap (all_equal shadow redzone_byte (start + k)) end
      ∙ ap (λ o. not (found o)) (lowest_zero (λ j. not (eqb (get_or shadow j 0) redzone_byte)) (start + k)) in
      ap (λ n. lowest (fits shadow R u) n (R + start)) left
      ∙ lowest_here (fits shadow R u) (length shadow - (R + u + R) - start) (R + start) passes
      ∙ ap Some place_is

  -- each window that begins at or before a byte that is not fa, and not before the start, holds that byte
  pub sought_past : (start k : ℕ) → get_or shadow (start + k) 0 ≢ redzone_byte → k < R + u + R
      → sought start ≡ sought (start + k + 1)
  unfolding sought fits
  sought_past start k other within =
      skipped (fits shadow R u) (k + 1) (length shadow + 1 - (R + u + R) - start) (R + start)
      (λ p from below.
      by_test (fits shadow R u p)
      (λ passes.
      absurd
      (other (all_equal_true shadow redzone_byte (p - R) (R + u + R) passes (start + k) (omega arith) (omega arith))))
      (λ fails. fails))
      ∙ ap₂ (lowest (fits shadow R u)) (omega arith) (omega arith)

  -- so no place lies between the two
  pub windowed_between : (start k : ℕ) → k < R + u + R → get_or shadow (start + k) 0 ≢ redzone_byte → (q : ℕ)
      → start + R ≤ q → q < start + k + 1 + R → Fits shadow R u q → ⊥
  windowed_between start k within other q from below f = other (f.free (start + k) (omega arith) (omega arith))

  -- and where none lay before the start, none lies before what follows that byte
  pub windowed_past : (start k : ℕ) → Windowed shadow R u start k → k < R + u + R
      → get_or shadow (start + k) 0 ≢ redzone_byte → Sought shadow R u (start + k + 1)
  windowed_past start k w within other = record {
    upto = omega (arith, w.sought.upto, w.room);
    before = λ q below f.
        by_order q (start + R)
        (λ less. w.sought.before q less f)
        (λ more. windowed_between start k within other q more below f);
  }

-- for the loops' goals
pub ruleset walked = (window_next, sought_none, sought_all, sought_here)
