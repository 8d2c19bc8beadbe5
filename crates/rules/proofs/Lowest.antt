-- The laws of `lowest` and `total`: what is found is the lowest that passes, none is found exactly where none passes,
-- and a sum changes by what one of its numbers changes by. Assumes nothing.
use Prim.Native.Nat.{ℕ, zero, suc, ◌+◌, ◌-◌, ◌*◌, ◌≤◌, ◌<◌, zero-le}
use native.Mathlib.Nat.{eq-or-lt_of_le, not-suc-le-zero, suc-mul}
use native.Mathlib.Numerals.{add-one}
use native.Mathlib.Omega.{arith}
use mathlib.Core.Path.{◌≡◌, sym, ap, ap₂, subst, ◌∙◌}
use mathlib.Core.Logic.{◌≢◌, ⊎_elim}
use mathlib.Core.Bool.{Bool, true, false, not, true≢false}
use mathlib.Core.List.{List}
use lib.ListN.{length, get_or}
use lib.Dec.{eqb}
use borrow.Author.Tests.{eqb-true, eq-eqb, not-false}
use Rattle.std.specs.Prelude.{Some, None}
use Rattle.std.proofs.lemmas.Option.{same_Some, none-some}
use Rattle.rules.specs.Lowest.{lowest, found, all_equal, every_entry, total, lowest_zero, lowest_here}
use Rattle.rules.specs.Lowest.{lowest_later, total_zero, total_suc, AllEqual}
use Rattle.rules.proofs.Tests.{by_found, by_order, by_test}

-- ---- lowest

-- k is the lowest of the n numbers from i on that passes the test
pub record Lowest (test : ℕ → Bool) (n i k : ℕ) : Type 0 where
  pub from : i ≤ k
  pub below : k < i + n
  pub passes : test k ≡ true
  pub first : (j : ℕ) → i ≤ j → j < k → test j ≡ false

-- of the n numbers from 0 on, one below n
pub below_all : {test : ℕ → Bool} {n k : ℕ} → Lowest test n 0 k → k < n
below_all {n = n} {k = k} l = let below : k < 0 + n = l.below in omega arith

-- none of them passes
abbrev pub NonePasses : (ℕ → Bool) → ℕ → ℕ → Type 0
NonePasses test n i = (j : ℕ) → i ≤ j → j < i + n → test j ≡ false

-- what holds of i and of every number after it holds from i on
from_here : (P : ℕ → Type 0) (i : ℕ) → P i → (k : ℕ) → ((j : ℕ) → suc i ≤ j → j < k → P j) → (j : ℕ) → i ≤ j → j < k
    → P j
from_here P i here k above j from below =
    ⊎_elim (λ same. subst P same here) (λ less. above j less below) (eq-or-lt_of_le from)

pub lowest_some : (test : ℕ → Bool) (n i k : ℕ) → lowest test n i ≡ Some k → Lowest test n i k
lowest_some test zero i k e = absurd (none-some k (sym (lowest_zero test i) ∙ e))
lowest_some test (suc n) i k e =
    by_test (test i)
    (λ passes.
    subst (λ m. Lowest test (suc n) i m) (same_Some i k (sym (lowest_here test n i passes) ∙ e))
    (record { from = omega arith; below = omega arith; passes = passes; first = λ j a b. absurd (omega arith) }))
    (λ fails.
    let above : Lowest test n (suc i) k = lowest_some test n (suc i) k (sym (lowest_later test n i fails) ∙ e) in
    record {
      from = omega arith;
      below = omega arith;
      passes = above.passes;
      first = from_here
          (λ m. test m ≡ false) i fails k above.first;
    })

pub lowest_none : (test : ℕ → Bool) (n i : ℕ) → lowest test n i ≡ None → NonePasses test n i
lowest_none test zero i e j from below = absurd (omega arith)
lowest_none test (suc n) i e j from below =
    by_test (test i)
    (λ passes. absurd (none-some i (sym e ∙ lowest_here test n i passes)))
    (λ fails.
    from_here (λ m. test m ≡ false) i fails (suc i + n)
    (lowest_none test n (suc i) (sym (lowest_later test n i fails) ∙ e)) j from (omega arith))

not_below : {test : ℕ → Bool} {n i j k : ℕ} → Lowest test n i j → Lowest test n i k → j < k → ⊥
not_below {j = j} a b less = true≢false (sym a.passes ∙ b.first j a.from less)

-- no second number fits
pub lowest_unique : {test : ℕ → Bool} {n i j k : ℕ} → Lowest test n i j → Lowest test n i k → j ≡ k
lowest_unique {j = j} {k = k} a b =
    let up : j < k → ⊥ = not_below a b in
    let down : k < j → ⊥ = not_below b a in
    omega arith

pub lowest_is : (test : ℕ → Bool) (n i k : ℕ) → Lowest test n i k → lowest test n i ≡ Some k
lowest_is test n i k l =
    by_found (lowest test n i)
    (λ j e. e ∙ ap Some (lowest_unique (lowest_some test n i j e) l))
    (λ e. absurd (true≢false (sym l.passes ∙ lowest_none test n i e k l.from l.below)))

pub lowest_no : (test : ℕ → Bool) (n i : ℕ) → NonePasses test n i → lowest test n i ≡ None
lowest_no test n i fails =
    by_found (lowest test n i)
    (λ j e.
    let l : Lowest test n i j = lowest_some test n i j e in
    absurd (true≢false (sym l.passes ∙ fails j l.from l.below)))
    (λ e. e)

-- two tests that agree on those numbers find the same
pub lowest_same : (test other : ℕ → Bool) (n i : ℕ) → ((j : ℕ) → i ≤ j → j < i + n → test j ≡ other j)
    → lowest test n i ≡ lowest other n i
lowest_same test other zero i same = lowest_zero test i ∙ sym (lowest_zero other i)
lowest_same test other (suc n) i same =
    let here : test i ≡ other i = same i (omega arith) (omega arith) in
    by_test (test i)
    (λ passes. lowest_here test n i passes ∙ sym (lowest_here other n i (sym here ∙ passes)))
    (λ fails.
    lowest_later test n i fails
    ∙ lowest_same test other n (suc i) (λ j a b. same j (omega arith) (omega arith))
    ∙ sym (lowest_later other n i (sym here ∙ fails)))

-- where the first n fail, what is found is found among those after them
pub lowest_skip : (test : ℕ → Bool) (n m i : ℕ) → NonePasses test n i → lowest test (n + m) i ≡ lowest test m (i + n)
lowest_skip test n m i fails =
    by_found (lowest test m (i + n))
    (λ k e.
    let l : Lowest test m (i + n) k = lowest_some test m (i + n) k e in
    lowest_is test (n + m) i k
    (record {
      from = omega arith;
      below = omega arith;
      passes = l.passes;
      first = λ j a b. by_order j (i + n) (λ less. fails j a less) (λ more. l.first j more b);
    })
    ∙ sym e)
    (λ e.
    lowest_no test (n + m) i
    (λ j a b. by_order j (i + n) (λ less. fails j a less) (λ more. lowest_none test m (i + n) e j more (omega arith)))
    ∙ sym e)

-- a loop that walks from i up to e: it begins at 0, has found one, goes on, or is at the end
pub walk_start : (test : ℕ → Bool) (e : ℕ) → lowest test e 0 ≡ lowest test (e - 0) 0
walk_start test e = let all : e ≡ e - 0 = omega arith in ap (λ n. lowest test n 0) all

pub walk_found : (test : ℕ → Bool) (e i : ℕ) → i < e → test i ≡ true → lowest test (e - i) i ≡ Some i
walk_found test e i below passes =
    let left : e - i ≡ suc (e - suc i) = omega arith in
    ap (λ n. lowest test n i) left ∙ lowest_here test (e - suc i) i passes

pub walk_on : (test : ℕ → Bool) (e i : ℕ) → i < e → test i ≡ false → lowest test (e - i) i
    ≡ lowest test (e - (i + 1)) (i + 1)
walk_on test e i below fails =
    let left : e - i ≡ suc (e - (i + 1)) = omega arith in
    ap (λ n. lowest test n i) left ∙ lowest_later test (e - (i + 1)) i fails
    ∙ ap (lowest test (e - (i + 1))) (sym (add-one i))

pub walk_end : (test : ℕ → Bool) (e i : ℕ) → e ≤ i → lowest test (e - i) i ≡ None
walk_end test e i end =
    let left : e - i ≡ zero = omega arith in
    ap (λ n. lowest test n i) left ∙ lowest_zero test i

-- one number more: what was found before it stays, and else it may be that one
pub one_more_found : (test : ℕ → Bool) (n k : ℕ) → lowest test n 0 ≡ Some k → lowest test (suc n) 0 ≡ Some k
one_more_found test n k e =
    let l : Lowest test n 0 k = lowest_some test n 0 k e in
    lowest_is test (suc n) 0 k (record {
      from = l.from;
      below = omega (arith, below_all l);
      passes = l.passes;
      first =
          l.first;
    })

pub one_more_here : (test : ℕ → Bool) (n : ℕ) → lowest test n 0 ≡ None → test n ≡ true → lowest test (suc n) 0 ≡ Some n
one_more_here test n e passes =
    lowest_is test (suc n) 0 n
    (record {
      from = zero-le;
      below = omega arith;
      passes = passes;
      first =
          λ j from below. lowest_none test n 0 e j from (omega arith);
    })

pub one_more_none : (test : ℕ → Bool) (n : ℕ) → lowest test n 0 ≡ None → test n ≡ false → lowest test (suc n) 0 ≡ None
one_more_none test n e fails =
    lowest_no test (suc n) 0
    (λ j from below.
    by_order j n
    (λ less. lowest_none test n 0 e j from (omega arith))
    (λ last. let same : n ≡ j = omega arith in subst (λ m. test m ≡ false) same fails))

-- ---- a window

pub all_equal_true : (list : List ℕ) (v i n : ℕ) → all_equal list v i n ≡ true → AllEqual list v i (i + n)
unfolding all_equal
all_equal_true list v i n e k from below =
    by_found (lowest (λ j. not (eqb (get_or list j 0) v)) n i)
    (λ b f. absurd (true≢false (sym e ∙ ap (λ o. not (found o)) f)))
    (λ f.
    eqb-true (get_or list k 0) v
    (not-false (eqb (get_or list k 0) v) (lowest_none (λ j. not (eqb (get_or list j 0) v)) n i f k from below)))

pub all_equal_is : (list : List ℕ) (v i n : ℕ) → AllEqual list v i (i + n) → all_equal list v i n ≡ true
unfolding all_equal
all_equal_is list v i n same =
    ap (λ o. not (found o))
    (lowest_no (λ j. not (eqb (get_or list j 0) v)) n i
    (λ k from below. ap not (eq-eqb (get_or list k 0) v (same k from below))))

-- ---- a table

-- the test over all entries, carried to each lookup
pub at_entry : (table : List ℕ) (rule : ℕ → ℕ) → every_entry table rule ≡ true → (k : ℕ) → k < length table
    → get_or table k 0 ≡ rule k
at_entry table rule e k below =
    by_found (lowest (λ j. not (eqb (get_or table j 0) (rule j))) (length table) 0)
    (λ b f. absurd (true≢false (sym e ∙ ap (λ o. not (found o)) f)))
    (λ f.
    eqb-true (get_or table k 0) (rule k)
    (not-false (eqb (get_or table k 0) (rule k))
    (lowest_none (λ j. not (eqb (get_or table j 0) (rule j))) (length table) 0 f k zero-le (omega arith))))

-- ---- total

-- two sums of the same numbers
pub total_same : (f g : ℕ → ℕ) (n : ℕ) → ((j : ℕ) → j < n → f j ≡ g j) → total f n ≡ total g n
total_same f g zero same = total_zero f ∙ sym (total_zero g)
total_same f g (suc n) same =
    total_suc f n
    ∙ ap₂ (λ a b. a + b) (total_same f g n (λ j l. same j (omega arith))) (same n (omega arith))
    ∙ sym (total_suc g n)

-- two sums that differ at one number k differ by as much
pub total_change : (f g : ℕ → ℕ) (n k : ℕ) → k < n → ((j : ℕ) → j ≢ k → f j ≡ g j) → total f n + g k ≡ total g n + f k
total_change f g zero k l same = absurd (not-suc-le-zero l)
total_change f g (suc n) k l same =
    let f_here : total f (suc n) ≡ total f n + f n = total_suc f n in
    let g_here : total g (suc n) ≡ total g n + g n = total_suc g n in
    by_order k n
    (λ less.
    let before : total f n + g k ≡ total g n + f k = total_change f g n k less same in
    let here : f n ≡ g n = same n (λ e. absurd (omega arith)) in
    omega arith)
    (λ more.
    let last : k ≡ n = omega arith in
    let before : total f n ≡ total g n = total_same f g n (λ j b. same j (λ e. absurd (omega arith))) in
    let f_last : f k ≡ f n = ap f last in
    let g_last : g k ≡ g n = ap g last in
    omega arith)

-- each number is at most the sum
pub le_total : (f : ℕ → ℕ) (n k : ℕ) → k < n → f k ≤ total f n
le_total f zero k l = absurd (not-suc-le-zero l)
le_total f (suc n) k l =
    let here : total f (suc n) ≡ total f n + f n = total_suc f n in
    by_order k n
    (λ less. let before : f k ≤ total f n = le_total f n k less in omega arith)
    (λ more. let last : f k ≡ f n = ap f (omega arith) in omega arith)

-- a sum above 0 has a number above 0
pub total_above : (f : ℕ → ℕ) (n : ℕ) → 0 < total f n → (k : ℕ) × (k < n) × (0 < f k)
total_above f zero l = absurd (not-suc-le-zero (subst (λ m. 0 < m) (total_zero f) l))
total_above f (suc n) l =
    by_order 0 (f n)
    (λ here. (n, omega arith, here))
    (λ none_here.
    let before : (k : ℕ) × (k < n) × (0 < f k) =
    total_above f n (let e : total f (suc n) ≡ total f n + f n = total_suc f n in omega arith) in
    (before.0, (let b : before.0 < n = before.1 in omega arith), before.2))

-- n numbers of at most m sum to at most n x m
pub total_most : (f : ℕ → ℕ) (m n : ℕ) → ((j : ℕ) → j < n → f j ≤ m) → total f n ≤ n * m
total_most f m zero most = omega (arith, total_zero f)
total_most f m (suc n) most =
    omega (arith, total_suc f n, total_most f m n (λ j below. most j (omega arith)), most n (omega arith), suc-mul n m)
