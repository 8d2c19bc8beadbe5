-- The laws of the shadow byte and of the range rule. Assumes nothing.
use Prim.Native.Nat.{ℕ, suc, ◌+◌, ◌-◌, ◌*◌, ◌%◌, ◌^◌, ◌≤◌, ◌<◌, zero-le}
use native.Mathlib.Omega.{arith}
use mathlib.Core.Path.{◌≡◌, refl, sym, ap, subst, ◌∙◌}
use mathlib.Core.Bool.{true, false, not, ◌||◌, true≢false, and-eq-true_iff}
use mathlib.Core.List.{List}
use lib.ListN.{length}
use lib.Dec.{eqb, ltb}
use lib.IntN.{pos, negsuc}
use lib.Signed.{lt_z}
use borrow.Author.Tests.{ltb-true, not-true, not-false, lt-ltb, le-ltb, ne_eqb}
use Rattle.std.specs.Prelude.{Some, None}
use Rattle.rules.specs.declared.BadByte.{BadByte}
use Rattle.rules.specs.Limits.{granule, most_granules, outside}
use Rattle.rules.specs.Shadow.{leading, signed, negative, inside, shadow_of, addressable, kind, first_bad, good, bad}
use Rattle.rules.specs.Shadow.{judge, Verdict, AllGood, FirstBad}
use Rattle.rules.proofs.Tests.{by_found, by_order, by_test, if_false, if_true}
use Rattle.rules.proofs.Lowest.{Lowest, lowest_some, lowest_none, lowest_is, lowest_no}

-- ---- the byte

pub leading_all : leading 0 ≡ granule
unfolding leading
leading_all = refl

pub leading_first : (v : ℕ) → 0 < v → v < granule → leading v ≡ v
unfolding leading
leading_first v above below =
    if_false _ _ (ne_eqb v 0 (λ e. absurd (omega arith))) ∙ if_true _ _ (lt-ltb v granule below)

pub leading_none : (v : ℕ) → granule ≤ v → leading v ≡ 0
unfolding leading
leading_none v from = if_false _ _ (ne_eqb v 0 (λ e. absurd (omega arith))) ∙ if_false _ _ (le-ltb v granule from)

pub leading_most : (v : ℕ) → leading v ≤ granule
leading_most v =
    by_order v granule
    (λ less. by_order 0 v (λ above. subst (λ m. m ≤ granule) (sym (leading_first v above less)) (omega arith))
    (λ None·. let e : v ≡ 0 = omega arith in subst (λ m. leading m ≤ granule) (sym e)
    (subst (λ m. m ≤ granule) (sym leading_all) (omega arith))))
    (λ more. subst (λ m. m ≤ granule) (sym (leading_none v more)) (omega arith))

signed_below : (v : ℕ) → v < 128 → signed v ≡ pos v
unfolding signed
signed_below v below = rw (lt-ltb v 128 below)

pub signed_from : (v : ℕ) → 128 ≤ v → signed v ≡ negsuc (256 - suc v)
unfolding signed
signed_from v from = rw (le-ltb v 128 from)

-- negative exactly from 80 on
pub negative_from : (v : ℕ) → 128 ≤ v → negative v ≡ true
unfolding negative signed
negative_from v from = rw (le-ltb v 128 from)

pub negative_below : (v : ℕ) → v < 128 → negative v ≡ false
unfolding negative signed
negative_below v below = rw (lt-ltb v 128 below) (le-ltb v 0 zero-le)

-- negative means poisoned
pub negative_poisoned : (v : ℕ) → negative v ≡ true → leading v ≡ 0
negative_poisoned v is_negative =
    leading_none v
    (by_order v 128 (λ less. absurd (true≢false (sym is_negative ∙ negative_below v less))) (λ more. omega arith))

-- and of every byte but 08 to 7f, exactly that
pub poisoned_negative : (v : ℕ) → (8 ≤ v → 128 ≤ v) → leading v ≡ 0 → negative v ≡ true
poisoned_negative v written None· =
    by_order v 8
    (λ small.
    by_order 0 v
    (λ above. absurd (omega (arith, leading_first v above small)))
    (λ zero·. let all : v ≡ 0 = omega arith in absurd (omega (arith, ap leading all, leading_all))))
    (λ large. negative_from v (written large))

-- 08 to 7f: no byte is addressable
pub unwritten_poisoned : (v : ℕ) → 8 ≤ v → v < 128 → leading v ≡ 0
unwritten_poisoned v from below = leading_none v from

-- the published test of one byte: addressable where the shadow byte is 0, or byte j of the granule is below it as a
-- signed number. It holds of every byte but 08 to 7f, which the published rule never writes
pub published_test : (v j : ℕ) → j < granule → (8 ≤ v → 128 ≤ v)
    → ltb j (leading v) ≡ eqb v 0 || lt_z (pos j) (signed v)
published_test v j in_granule written =
    by_order v 8
    (λ small.
    by_order 0 v
    (λ above.
    rw (leading_first v above small, ne_eqb v 0 (λ e. absurd (omega arith)), signed_below v (omega arith)))
    (λ None·.
    let all : v ≡ 0 = omega arith in
    rw (all, leading_all, lt-ltb j granule in_granule)))
    (λ large.
    rw (
      leading_none v large,
      ne_eqb v 0 (λ e. absurd (omega arith)),
      signed_from v (written large),
      le-ltb j 0 zero-le,
    ))

-- ---- addressable bytes

pub addressable_inside : (shadow : List ℕ) (a : ℕ) → addressable shadow a ≡ true → a < granule * length shadow
unfolding addressable inside
addressable_inside shadow a e =
    ltb-true a (granule * length shadow)
    ((and-eq-true_iff (inside shadow a) (ltb (a % granule) (leading (shadow_of shadow a)))).0 e).0

pub addressable_leading : (shadow : List ℕ) (a : ℕ) → addressable shadow a ≡ true → a % granule
    < leading (shadow_of shadow a)
unfolding addressable
addressable_leading shadow a e =
    ltb-true (a % granule) (leading (shadow_of shadow a))
    ((and-eq-true_iff (inside shadow a) (ltb (a % granule) (leading (shadow_of shadow a)))).0 e).1

pub addressable_is : (shadow : List ℕ) (a : ℕ) → a < granule * length shadow → a % granule
    < leading (shadow_of shadow a) → addressable shadow a ≡ true
unfolding addressable inside
addressable_is shadow a in_arena in_leading =
    (and-eq-true_iff (inside shadow a) (ltb (a % granule) (leading (shadow_of shadow a)))).1
    (lt-ltb a (granule * length shadow) in_arena, lt-ltb (a % granule) (leading (shadow_of shadow a)) in_leading)

-- no byte outside the arena is addressable, nor one past its granule's leading bytes
pub not_inside : (shadow : List ℕ) (a : ℕ) → granule * length shadow ≤ a → addressable shadow a ≡ false
not_inside shadow a beyond =
    by_test (addressable shadow a)
    (λ good. absurd (omega (arith, addressable_inside shadow a good)))
    (λ bad. bad)

pub not_leading : (shadow : List ℕ) (a : ℕ) → leading (shadow_of shadow a) ≤ a % granule → addressable shadow a ≡ false
not_leading shadow a past =
    by_test (addressable shadow a)
    (λ good. absurd (omega (arith, addressable_leading shadow a good)))
    (λ bad. bad)

-- ---- the kind of a bad byte

pub kind_inside : (shadow : List ℕ) (b : ℕ) → b < granule * length shadow → kind shadow b ≡ shadow_of shadow b
unfolding kind inside
kind_inside shadow b in_arena = if_true _ _ (lt-ltb b (granule * length shadow) in_arena)

pub kind_outside : (shadow : List ℕ) (b : ℕ) → granule * length shadow ≤ b → kind shadow b ≡ outside
unfolding kind inside
kind_outside shadow b beyond = if_false _ _ (le-ltb b (granule * length shadow) beyond)

-- ---- the range rule

pub first_bad_some : (shadow : List ℕ) (a n b : ℕ) → first_bad shadow a n ≡ Some b → FirstBad shadow a n b
unfolding first_bad
first_bad_some shadow a n b e =
    let l : Lowest (λ j. not (addressable shadow j)) n a b = lowest_some (λ j. not (addressable shadow j)) n a b e in
    record {
      from = l.from;
      below = l.below;
      bad = not-true (addressable shadow b) l.passes;
      first = λ j from below. not-false (addressable shadow j) (l.first j from below);
    }

pub first_bad_is : (shadow : List ℕ) (a n b : ℕ) → FirstBad shadow a n b → first_bad shadow a n ≡ Some b
unfolding first_bad
first_bad_is shadow a n b f =
    lowest_is (λ j. not (addressable shadow j)) n a b
    (record {
      from = f.from;
      below = f.below;
      passes = ap not f.bad;
      first = λ j from below. ap not (f.first j from below);
    })

pub first_bad_none : (shadow : List ℕ) (a n : ℕ) → first_bad shadow a n ≡ None → AllGood shadow a (a + n)
unfolding first_bad
first_bad_none shadow a n e j from below =
    not-false (addressable shadow j) (lowest_none (λ m. not (addressable shadow m)) n a e j from below)

pub first_bad_no : (shadow : List ℕ) (a n : ℕ) → AllGood shadow a (a + n) → first_bad shadow a n ≡ None
unfolding first_bad
first_bad_no shadow a n good =
    lowest_no (λ m. not (addressable shadow m)) n a (λ j from below. ap not (good j from below))

pub verdict_none : (shadow : List ℕ) (a n : ℕ) → first_bad shadow a n ≡ None → judge shadow a n ≡ good
unfolding judge
verdict_none shadow a n e = rw (e, judge)

pub verdict_some : (shadow : List ℕ) (a n b : ℕ) → first_bad shadow a n ≡ Some b → judge shadow a n
    ≡ bad (kind shadow b) b
unfolding judge
verdict_some shadow a n b e = rw (e, judge)

-- good when every touched byte is inside the arena and among its granule's addressable bytes
pub judge_good : (shadow : List ℕ) (a n : ℕ) → AllGood shadow a (a + n) → judge shadow a n ≡ good
judge_good shadow a n good = verdict_none shadow a n (first_bad_no shadow a n good)

-- otherwise the first byte that is not, and its kind
pub judge_bad : (shadow : List ℕ) (a n b : ℕ) → FirstBad shadow a n b → judge shadow a n ≡ bad (kind shadow b) b
judge_bad shadow a n b f = verdict_some shadow a n b (first_bad_is shadow a n b f)

good_not_bad : (k b : ℕ) → Path Verdict good (bad k b) → ⊥
good_not_bad k b e = let z : ◌≡◌ {A = ℕ} 0 1 = cc in omega arith

-- and only then
pub good_judge : (shadow : List ℕ) (a n : ℕ) → judge shadow a n ≡ good → AllGood shadow a (a + n)
good_judge shadow a n e =
    by_found (first_bad shadow a n)
    (λ b f. absurd (good_not_bad (kind shadow b) b (sym e ∙ verdict_some shadow a n b f)))
    (λ f. first_bad_none shadow a n f)

pub bad_judge : (shadow : List ℕ) (a n k b : ℕ) → judge shadow a n ≡ bad k b → FirstBad shadow a n b
    × (k ≡ kind shadow b)
bad_judge shadow a n k b e =
    by_found (first_bad shadow a n)
    (λ c f.
    let same : bad k b ≡ bad (kind shadow c) c = sym e ∙ verdict_some shadow a n c f in
    let bad_bytes : ◌≡◌ {A = BadByte} (record { kind = k; first = b }) (record { kind = kind shadow c; first = c }) =
    cc in
    let bytes : b ≡ c = ap (λ (byte : BadByte). byte.first) bad_bytes in
    let kinds : k ≡ kind shadow c = ap (λ (byte : BadByte). byte.kind) bad_bytes in
    (subst (FirstBad shadow a n) (sym bytes) (first_bad_some shadow a n c f), kinds ∙ ap (kind shadow) (sym bytes)))
    (λ f. absurd (good_not_bad k b (sym (verdict_none shadow a n f) ∙ e)))

-- n = 0 touches nothing and is good at any address
pub judge_nothing : (shadow : List ℕ) (a : ℕ) → judge shadow a 0 ≡ good
judge_nothing shadow a = judge_good shadow a 0 (λ j from below. absurd (omega arith))

-- the first bad byte is the address itself, or at most the arena's end: it has 32 bits where these have
pub first_bad_most : (shadow : List ℕ) (a n b : ℕ) → FirstBad shadow a n b → a < b → b ≤ granule * length shadow
first_bad_most shadow a n b f above =
    let last : b - 1 < granule * length shadow =
    addressable_inside shadow (b - 1) (f.first (b - 1) (omega arith) (omega arith)) in
    omega arith

pub first_bad_fits : (shadow : List ℕ) (a n b : ℕ) → FirstBad shadow a n b → a < 2 ^ 32 → length shadow ≤ most_granules
    → b < 2 ^ 32
first_bad_fits shadow a n b f fits most =
    by_order a b
    (λ above. omega (arith, first_bad_most shadow a n b f above))
    (λ here. omega (arith, f.from))
