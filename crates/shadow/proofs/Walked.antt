-- The walk over a range that ends before byte e: what its next byte b makes of what is judged. Assumes nothing.
use Prim.Native.Nat.{ℕ, ◌+◌, ◌-◌, ◌/◌, ◌%◌, ◌≤◌, ◌<◌}
use native.Mathlib.Omega.{arith}
use mathlib.Core.Path.{◌≡◌, ap, ◌∙◌}
use mathlib.Core.Bool.{false, not}
use mathlib.Core.List.{List}
use lib.ListN.{length, get_or}
use Rattle.std.specs.Prelude.{Some, None}
use Rattle.rules.specs.Limits.{granule, outside}
use Rattle.rules.specs.Shadow.{leading, shadow_of, addressable, kind, first_bad, good, bad, judge}
use Rattle.rules.proofs.Lowest.{walk_found, walk_on, walk_end}
use Rattle.rules.proofs.Shadow.{addressable_is, not_inside, not_leading, kind_inside, kind_outside}
use Rattle.rules.proofs.Shadow.{verdict_none, verdict_some}

module _ (shadow : List ℕ) (b e : ℕ) where
  bad_is : b < e → addressable shadow b ≡ false → judge shadow b (e - b) ≡ bad (kind shadow b) b
  unfolding first_bad
  bad_is below is_bad =
      verdict_some shadow b (e - b) b (walk_found (λ j. not (addressable shadow j)) e b below (ap not is_bad))

  pub walked_outside : b < e → length shadow ≤ b / granule → judge shadow b (e - b) ≡ bad outside b
  walked_outside below beyond =
      bad_is below (not_inside shadow b (omega arith))
      ∙ ap (λ k. bad k b) (kind_outside shadow b (omega arith))

  pub walked_poisoned : (l : ℕ) → b < e → b / granule < length shadow
      → l ≡ leading (get_or shadow (b / granule) 0) → l ≤ b % granule
      → judge shadow b (e - b) ≡ bad (get_or shadow (b / granule) 0) b
  unfolding shadow_of
  walked_poisoned l below in_arena is past =
      bad_is below (not_leading shadow b (omega arith))
      ∙ ap (λ k. bad k b) (kind_inside shadow b (omega arith))

  pub walked_good : (l : ℕ) → b < e → b / granule < length shadow
      → l ≡ leading (get_or shadow (b / granule) 0) → b % granule < l
      → judge shadow b (e - b) ≡ judge shadow (b + 1) (e - (b + 1))
  unfolding shadow_of first_bad judge
  walked_good l below in_arena is in_leading =
      ap (λ o. elim o [ None ↦ good | Some j ↦ bad (kind shadow j) j ])
      (walk_on (λ j. not (addressable shadow j)) e b below
      (ap not (addressable_is shadow b (omega arith) (omega arith))))

  pub walked_all : e ≤ b → judge shadow b (e - b) ≡ good
  unfolding first_bad
  walked_all whole = verdict_none shadow b (e - b) (walk_end (λ j. not (addressable shadow j)) e b whole)

pub walked_none : (shadow : List ℕ) (a n : ℕ) → judge shadow a n ≡ judge shadow a (a + n - a)
walked_none shadow a n = ap (judge shadow a) (omega arith)

-- all of them, for the loop's goals
pub ruleset walked = (walked_none, walked_outside, walked_poisoned, walked_good, walked_all)
