-- The laws of `weigh` and `latest`: the latest that weigh at most Q are the longest run of the first, what is too old
-- for them never counts again, and a block heavier than Q leaves none; and the laws of places in a list. Assumes
-- nothing.
use Prim.Native.Nat.{ℕ, zero, suc, ◌+◌, ◌-◌, ◌≤◌, ◌<◌}
use native.Mathlib.Omega.{arith}
use mathlib.Core.Path.{◌≡◌, refl, sym, ap, subst, ◌∙◌}
use mathlib.Core.Logic.{⊎_elim}
use mathlib.Core.Option.{some, none-ne-some, some-injective}
use mathlib.Core.List.Memᴰ
use mathlib.Core.List.{List, [], ◌∷◌, ◌++◌}
use lib.ListN.{length, take, get_elem?}
use borrow.Author.Tests.{le-leb, lt-leb}
use Rattle.rules.specs.Release.{weight}
use Rattle.rules.proofs.Tests.{if_true, if_false, by_order}
use Rattle.promises.specs.History.{Block, weigh, latest}
use Rattle.promises.specs.Rows.{◌∈◌}
use Rattle.promises.specs.Quarantine.{LongestRun}

-- ---- what blocks weigh

pub weigh_nil : (R : ℕ) → weigh R [] ≡ 0
unfolding weigh
weigh_nil R = refl

pub weigh_cons : (R : ℕ) (x : Block) (blocks : List Block) → weigh R (x ∷ blocks) ≡ weight R x.size + weigh R blocks
unfolding weigh
weigh_cons R x blocks = refl

-- two lists weigh together what each weighs
pub weigh_append : (R : ℕ) (xs ys : List Block) → weigh R (xs ++ ys) ≡ weigh R xs + weigh R ys
weigh_append R [] ys = omega (arith, weigh_nil R)
weigh_append R (x ∷ xs) ys = omega (arith, weigh_cons R x (xs ++ ys), weigh_cons R x xs, weigh_append R xs ys)

-- ---- the latest

latest_nil : (R Q : ℕ) → latest R Q [] ≡ []
unfolding latest
latest_nil R Q = refl

-- a block of at most Q stays, and leaves so much less for those after it
latest_light : (R Q : ℕ) (x : Block) (blocks : List Block) → weight R x.size ≤ Q
    → latest R Q (x ∷ blocks) ≡ x ∷ latest R (Q - weight R x.size) blocks
unfolding latest
latest_light R Q x blocks light = if_true _ _ (le-leb (weight R x.size) Q light)

-- a block heavier than Q leaves at once, and none is left
pub latest_heavy : (R Q : ℕ) (x : Block) (blocks : List Block) → Q < weight R x.size → latest R Q (x ∷ blocks) ≡ []
unfolding latest
latest_heavy R Q x blocks heavy = if_false _ _ (lt-leb (weight R x.size) Q heavy)

-- where all weigh at most Q, all stay
pub latest_all : (R Q : ℕ) (blocks : List Block) → weigh R blocks ≤ Q → latest R Q blocks ≡ blocks
latest_all R Q [] light = latest_nil R Q
latest_all R Q (x ∷ blocks) light =
    let both : weigh R (x ∷ blocks) ≡ weight R x.size + weigh R blocks = weigh_cons R x blocks in
    latest_light R Q x blocks (omega arith)
    ∙ ap (λ l. x ∷ l) (latest_all R (Q - weight R x.size) blocks (omega arith))

-- where they weigh more, the last does not
pub latest_last : (R Q : ℕ) (blocks : List Block) (y : Block) → Q < weigh R (blocks ++ (y ∷ []))
    → latest R Q (blocks ++ (y ∷ [])) ≡ latest R Q blocks
latest_last R Q [] y heavy =
    latest_heavy R Q y [] (omega (arith, weigh_cons R y [], weigh_nil R)) ∙ sym (latest_nil R Q)
latest_last R Q (x ∷ blocks) y heavy =
    by_order Q (weight R x.size)
    (λ none·. latest_heavy R Q x (blocks ++ (y ∷ [])) none· ∙ sym (latest_heavy R Q x blocks none·))
    (λ stays.
    latest_light R Q x (blocks ++ (y ∷ [])) stays
    ∙ ap (λ l. x ∷ l)
    (latest_last R (Q - weight R x.size) blocks y (omega (arith, weigh_cons R x (blocks ++ (y ∷ [])))))
    ∙ sym (latest_light R Q x blocks stays))

-- what is among the latest of at most Q is all that counts for those of at most P, where P is no more
latest_within : (R P Q : ℕ) (blocks : List Block) → P ≤ Q → latest R P (latest R Q blocks) ≡ latest R P blocks
latest_within R P Q [] less = ap (latest R P) (latest_nil R Q)
latest_within R P Q (x ∷ blocks) less =
    by_order Q (weight R x.size)
    (λ none·.
    ap (latest R P) (latest_heavy R Q x blocks none·) ∙ latest_nil R P ∙ sym (latest_heavy R P x blocks (omega arith)))
    (λ in_larger.
    ap (latest R P) (latest_light R Q x blocks in_larger)
    ∙ by_order P (weight R x.size)
    (λ heavy.
    latest_heavy R P x (latest R (Q - weight R x.size) blocks) heavy ∙ sym (latest_heavy R P x blocks heavy))
    (λ light.
    latest_light R P x (latest R (Q - weight R x.size) blocks) light
    ∙ ap (λ l. x ∷ l) (latest_within R (P - weight R x.size) (Q - weight R x.size) blocks (omega arith))
    ∙ sym (latest_light R P x blocks light)))

-- so the latest, with one before them, are as those of all
pub latest_again : (R Q : ℕ) (x : Block) (blocks : List Block)
    → latest R Q (x ∷ latest R Q blocks) ≡ latest R Q (x ∷ blocks)
latest_again R Q x blocks =
    by_order Q (weight R x.size)
    (λ heavy. latest_heavy R Q x (latest R Q blocks) heavy ∙ sym (latest_heavy R Q x blocks heavy))
    (λ light.
    latest_light R Q x (latest R Q blocks) light
    ∙ ap (λ l. x ∷ l) (latest_within R (Q - weight R x.size) Q blocks (omega arith))
    ∙ sym (latest_light R Q x blocks light))

-- ---- the longest run

-- none, where there is no block, or where the first is heavier than Q
none_longest : (R Q : ℕ) → LongestRun R Q [] []
none_longest R Q =
    record { first = refl; light = omega (arith, weigh_nil R); longest = λ n more upto. absurd (omega arith) }

heavy_longest : (R Q : ℕ) (x : Block) (blocks : List Block) → Q < weight R x.size → LongestRun R Q (x ∷ blocks) []
heavy_longest R Q x blocks heavy = record { first = refl; light = omega (arith, weigh_nil R); longest = longer }
  where
    longer : (n : ℕ) → 0 < n → n ≤ length (x ∷ blocks) → Q < weigh R (take n (x ∷ blocks))
    longer zero more upto = absurd (omega arith)
    longer (suc n) more upto = omega (arith, weigh_cons R x (take n blocks))

-- the first, and the longest run of those after it
next_longest : (R Q : ℕ) (x : Block) (blocks run : List Block) → weight R x.size ≤ Q
    → LongestRun R (Q - weight R x.size) blocks run
    → LongestRun R Q (x ∷ blocks) (x ∷ run)
next_longest R Q x blocks run light rest = record {
  first = ap (λ l. x ∷ l) rest.first;
  light = omega (arith, weigh_cons R x run, rest.light);
  longest = longer;
}
  where
    longer : (n : ℕ) → suc (length run) < n → n ≤ length (x ∷ blocks) → Q < weigh R (take n (x ∷ blocks))
    longer zero more upto = absurd (omega arith)
    longer (suc n) more upto =
        omega (arith, weigh_cons R x (take n blocks), rest.longest n (omega arith) (omega arith))

-- the latest are the longest run of the first that weigh at most Q
pub latest_longest : (R Q : ℕ) (blocks : List Block) → LongestRun R Q blocks (latest R Q blocks)
latest_longest R Q [] = subst (LongestRun R Q []) (sym (latest_nil R Q)) (none_longest R Q)
latest_longest R Q (x ∷ blocks) =
    by_order Q (weight R x.size)
    (λ heavy.
    subst (LongestRun R Q (x ∷ blocks)) (sym (latest_heavy R Q x blocks heavy)) (heavy_longest R Q x blocks heavy))
    (λ light.
    subst (LongestRun R Q (x ∷ blocks)) (sym (latest_light R Q x blocks light))
    (next_longest R Q x blocks (latest R (Q - weight R x.size) blocks) light
    (latest_longest R (Q - weight R x.size) blocks)))

-- ---- places in a list

module _ {ℓ} {A : Type ℓ} where
  -- before the seam a list stands as it did
  pub place_before : (xs ys : List A) (k : ℕ) → k < length xs → get_elem? (xs ++ ys) k ≡ get_elem? xs k
  place_before [] ys k below = absurd (omega arith)
  place_before (x ∷ xs) ys zero below = refl
  place_before (x ∷ xs) ys (suc k) below = place_before xs ys k (omega arith)

  -- a list whose last place has y ends with y
  pub place_last : (xs : List A) (y : A) → get_elem? xs (length xs - 1) ≡ some y
      → (rest : List A) × (xs ≡ rest ++ (y ∷ []))
  place_last [] y e = absurd (none-ne-some y e)
  place_last (x ∷ []) y e = ([], ap (λ z. z ∷ []) (some-injective x y e))
  place_last (x ∷ z ∷ xs) y e =
      let one_on : length (x ∷ z ∷ xs) - 1 ≡ suc (length (z ∷ xs) - 1) = omega arith in
      and_before (place_last (z ∷ xs) y (subst (λ k. get_elem? (x ∷ z ∷ xs) k ≡ some y) one_on e))
    where
      and_before : (rest : List A) × (z ∷ xs ≡ rest ++ (y ∷ [])) → (rest : List A) × (x ∷ z ∷ xs ≡ rest ++ (y ∷ []))
      and_before ends = (x ∷ ends.0, ap (λ l. x ∷ l) ends.1)

  -- what has a place is in the list, and what is in the list has a place
  pub place_in : (xs : List A) (k : ℕ) (y : A) → get_elem? xs k ≡ some y → y ∈ xs
  place_in [] k y e = absurd (none-ne-some y e)
  place_in (x ∷ xs) zero y e = Memᴰ.head (sym (some-injective x y e))
  place_in (x ∷ xs) (suc k) y e = Memᴰ.tail (place_in xs k y e)

  pub in_place : (xs : List A) (y : A) → y ∈ xs → (k : ℕ) × (k < length xs) × (get_elem? xs k ≡ some y)
  in_place [] y m = absurd (Memᴰ.not-nil m)
  in_place (x ∷ xs) y m =
      ⊎_elim
      (λ e. (0, omega arith, ap some (sym e)))
      (λ later.
      let rest : (k : ℕ) × (k < length xs) × (get_elem? xs k ≡ some y) = in_place xs y later in
      (suc rest.0, omega (arith, rest.1), rest.2))
      (Memᴰ.cases_cons m)
