-- The laws of lists of blocks: which bytes a block has and which lie in one of several, what stands at an address and
-- what is left of the others, and lists of which no two blocks start at one address. Assumes nothing.
use Prim.Native.Nat.{ℕ, suc, ◌+◌, ◌≤◌, ◌<◌}
use native.Mathlib.Decide.{ℕ_discrete}
use mathlib.Core.Path.{◌≡◌, refl, sym, ap, subst, ◌∙◌}
use mathlib.Core.Logic.{◌≢◌, ⊎_elim}
use mathlib.Core.Bool.{Bool, true, false, true≢false, false≢true, ◌||◌}
use mathlib.Core.List.Memᴰ
use mathlib.Core.List.{List, [], ◌∷◌}
use lib.ListN.{length}
use lib.Dec.{leb}
use borrow.Author.Tests.{leb-true, le-leb, ltb-true, lt-ltb, eq-eqb, ne_eqb}
use Rattle.rules.proofs.Tests.{both, join, by_test}
use Rattle.promises.specs.History.{Block, has_byte, lies_in, at, others}
use Rattle.promises.specs.Rows.{◌∈◌, Distinct}

-- ---- the bytes of a block

-- a block's bytes are those from its address on, as many as its size
pub has_byte_true : (x : Block) (b : ℕ) → has_byte x b ≡ true → (x.address ≤ b) × (b < x.address + x.size)
unfolding has_byte
has_byte_true x b e = (
  leb-true x.address b (both {a = leb x.address b} e).0,
  ltb-true b (x.address + x.size)
      (both {a = leb x.address b} e).1,
)

-- each of those is one
pub has_byte_is : (x : Block) (b : ℕ) → x.address ≤ b → b < x.address + x.size → has_byte x b ≡ true
unfolding has_byte
has_byte_is x b from below = join (le-leb x.address b from) (lt-ltb b (x.address + x.size) below)

-- and no other is
pub has_byte_not : (x : Block) (b : ℕ) → ((x.address ≤ b) → (b < x.address + x.size) → ⊥) → has_byte x b ≡ false
has_byte_not x b outside =
    by_test (has_byte x b) (λ e. absurd (outside (has_byte_true x b e).0 (has_byte_true x b e).1)) (λ e. e)

-- ---- the bytes of several

-- a byte of the first block, or of one of those after it
lies_in_here : (x : Block) (blocks : List Block) (b : ℕ) → has_byte x b ≡ true → lies_in (x ∷ blocks) b ≡ true
unfolding lies_in
lies_in_here x blocks b e = ap (λ (t : Bool). t || lies_in blocks b) e

lies_in_later : (x : Block) (blocks : List Block) (b : ℕ) → has_byte x b ≡ false
    → lies_in (x ∷ blocks) b ≡ lies_in blocks b
unfolding lies_in
lies_in_later x blocks b e = ap (λ (t : Bool). t || lies_in blocks b) e

-- a byte that lies in blocks is a byte of one of them
pub lies_in_true : (blocks : List Block) (b : ℕ) → lies_in blocks b ≡ true
    → (x : Block) × (x ∈ blocks) × (has_byte x b ≡ true)
unfolding lies_in
lies_in_true [] b e = absurd (false≢true e)
lies_in_true (x ∷ blocks) b e =
    by_test (has_byte x b)
    (λ here. (x, Memᴰ.head refl, here))
    (λ not.
    let later : (y : Block) × (y ∈ blocks) × (has_byte y b ≡ true) =
    lies_in_true blocks b (sym (lies_in_later x blocks b not) ∙ e) in
    (later.0, Memᴰ.tail later.1, later.2))

-- a byte of one of them lies in them
pub lies_in_is : (blocks : List Block) (b : ℕ) (x : Block) → x ∈ blocks → has_byte x b ≡ true → lies_in blocks b ≡ true
lies_in_is [] b x m e = absurd (Memᴰ.not-nil m)
lies_in_is (y ∷ blocks) b x m e =
    by_test (has_byte y b)
    (λ here. lies_in_here y blocks b here)
    (λ not.
    lies_in_later y blocks b not
    ∙ ⊎_elim
    (λ same. absurd (true≢false (sym e ∙ ap (λ z. has_byte z b) same ∙ not)))
    (λ later. lies_in_is blocks b x later e)
    (Memᴰ.cases_cons m))

-- a byte of none of them does not
pub lies_in_not : (blocks : List Block) (b : ℕ) → ((x : Block) → x ∈ blocks → has_byte x b ≡ true → ⊥)
    → lies_in blocks b ≡ false
lies_in_not blocks b nowhere =
    by_test (lies_in blocks b)
    (λ e.
    let one : (x : Block) × (x ∈ blocks) × (has_byte x b ≡ true) =
    lies_in_true blocks b e in absurd (nowhere one.0 one.1 one.2))
    (λ e. e)

-- ---- the blocks at an address, and the others

-- by the first block's address: it is at address a, or it is one of the others
at_here : (a : ℕ) (x : Block) (blocks : List Block) → x.address ≡ a → at a (x ∷ blocks) ≡ x ∷ at a blocks
unfolding at
at_here a x blocks e = rw (eq-eqb x.address a e, at)

at_later : (a : ℕ) (x : Block) (blocks : List Block) → x.address ≢ a → at a (x ∷ blocks) ≡ at a blocks
unfolding at
at_later a x blocks e = rw (ne_eqb x.address a e, at)

others_here : (a : ℕ) (x : Block) (blocks : List Block) → x.address ≡ a → others a (x ∷ blocks) ≡ others a blocks
unfolding others
others_here a x blocks e = rw (eq-eqb x.address a e, others)

others_later : (a : ℕ) (x : Block) (blocks : List Block) → x.address ≢ a → others a (x ∷ blocks) ≡ x ∷ others a blocks
unfolding others
others_later a x blocks e = rw (ne_eqb x.address a e, others)

-- the others are those of the blocks that start elsewhere
pub others_of : (a : ℕ) (blocks : List Block) (x : Block) → x ∈ others a blocks → (x ∈ blocks) × (x.address ≢ a)
unfolding others
others_of a [] x m = absurd (Memᴰ.not-nil m)
others_of a (y ∷ blocks) x m =
    elim (ℕ_discrete y.address a) [
      | yes e ↦
          (let rest : (x ∈ blocks) × (x.address ≢ a) = others_of a blocks x
          (subst (λ l. x ∈ l) (others_here a y blocks e) m) in
          (Memᴰ.tail rest.0, rest.1))
      | no e ↦
          ⊎_elim
          (λ same. (Memᴰ.head same, λ f. e (ap (λ z. z.address) (sym same) ∙ f)))
          (λ later.
          let rest : (x ∈ blocks) × (x.address ≢ a) = others_of a blocks x later in
          (Memᴰ.tail rest.0, rest.1))
          (Memᴰ.cases_cons (subst (λ l. x ∈ l) (others_later a y blocks e) m))
    ]

-- and all of those
pub others_in : (a : ℕ) (blocks : List Block) (x : Block) → x ∈ blocks → x.address ≢ a → x ∈ others a blocks
others_in a [] x m other = absurd (Memᴰ.not-nil m)
others_in a (y ∷ blocks) x m other =
    elim (ℕ_discrete y.address a) [
      | yes e ↦
          ⊎_elim
          (λ same. absurd (other (ap (λ z. z.address) same ∙ e)))
          (λ later. subst (λ l. x ∈ l) (sym (others_here a y blocks e)) (others_in a blocks x later other))
          (Memᴰ.cases_cons m)
      | no e ↦
          subst (λ l. x ∈ l) (sym (others_later a y blocks e))
          (⊎_elim (λ same. Memᴰ.head same) (λ later. Memᴰ.tail (others_in a blocks x later other))
          (Memᴰ.cases_cons m))
    ]

-- where no block is at the address, nothing is at it, and all are the others
pub at_none : (a : ℕ) (blocks : List Block) → ((x : Block) → x ∈ blocks → x.address ≢ a) → at a blocks ≡ []
unfolding at
at_none a [] nowhere = refl
at_none a (x ∷ blocks) nowhere =
    at_later a x blocks (nowhere x (Memᴰ.head refl)) ∙ at_none a blocks (λ y m. nowhere y (Memᴰ.tail m))

pub others_none : (a : ℕ) (blocks : List Block) → ((x : Block) → x ∈ blocks → x.address ≢ a) → others a blocks ≡ blocks
unfolding others
others_none a [] nowhere = refl
others_none a (x ∷ blocks) nowhere =
    others_later a x blocks (nowhere x (Memᴰ.head refl))
    ∙ ap (λ l. x ∷ l) (others_none a blocks (λ y m. nowhere y (Memᴰ.tail m)))

-- ---- no two of the blocks start at one address

-- none are so; and one more, where none of them starts at its address
pub distinct_nil : Distinct []
unfolding Distinct
distinct_nil = tt

pub distinct_cons : (x : Block) (blocks : List Block) → ((y : Block) → y ∈ blocks → y.address ≢ x.address)
    → Distinct blocks → Distinct (x ∷ blocks)
unfolding Distinct
distinct_cons x blocks new rest = (new, rest)

-- and back
distinct_head : (x : Block) (blocks : List Block) → Distinct (x ∷ blocks) → (y : Block) → y ∈ blocks
    → y.address ≢ x.address
unfolding Distinct
distinct_head x blocks d = d.0

distinct_tail : (x : Block) (blocks : List Block) → Distinct (x ∷ blocks) → Distinct blocks
unfolding Distinct
distinct_tail x blocks d = d.1

-- blocks that are left are so too
pub distinct_others : (a : ℕ) (blocks : List Block) → Distinct blocks → Distinct (others a blocks)
unfolding others
distinct_others a [] d = distinct_nil
distinct_others a (x ∷ blocks) d =
    let rest : Distinct (others a blocks) = distinct_others a blocks (distinct_tail x blocks d) in
    elim (ℕ_discrete x.address a) [
      | yes e ↦ subst Distinct (sym (others_here a x blocks e)) rest
      | no e ↦
          subst Distinct (sym (others_later a x blocks e))
          (distinct_cons x (others a blocks) (λ y m. distinct_head x blocks d y (others_of a blocks y m).0) rest)
    ]

-- of such blocks, one at most is at an address
alone : (a : ℕ) (x : Block) (blocks : List Block) → Distinct (x ∷ blocks) → x.address ≡ a → (y : Block) → y ∈ blocks
    → y.address ≢ a
alone a x blocks d e y m f = distinct_head x blocks d y m (f ∙ sym e)

-- what is at an address where a block starts is that block alone
pub at_one : (a : ℕ) (blocks : List Block) (x : Block) → Distinct blocks → x ∈ blocks → x.address ≡ a
    → at a blocks ≡ x ∷ []
at_one a [] x d m e = absurd (Memᴰ.not-nil m)
at_one a (y ∷ blocks) x d m e =
    ⊎_elim
    (λ same.
    let here : y.address ≡ a = ap (λ z. z.address) (sym same) ∙ e in
    at_here a y blocks here ∙ ap (λ l. y ∷ l) (at_none a blocks (alone a y blocks d here))
    ∙ ap (λ z. z ∷ []) (sym same))
    (λ later.
    at_later a y blocks (λ f. distinct_head y blocks d x later (e ∙ sym f))
    ∙ at_one a blocks x (distinct_tail y blocks d) later e)
    (Memᴰ.cases_cons m)

-- and without it there is one fewer
pub length_others : (a : ℕ) (blocks : List Block) (x : Block) → Distinct blocks → x ∈ blocks → x.address ≡ a
    → suc (length (others a blocks)) ≡ length blocks
length_others a [] x d m e = absurd (Memᴰ.not-nil m)
length_others a (y ∷ blocks) x d m e =
    ⊎_elim
    (λ same.
    let here : y.address ≡ a = ap (λ z. z.address) (sym same) ∙ e in
    ap (λ l. suc (length l)) (others_here a y blocks here ∙ others_none a blocks (alone a y blocks d here)))
    (λ later.
    ap (λ l. suc (length l)) (others_later a y blocks (λ f. distinct_head y blocks d x later (e ∙ sym f)))
    ∙ ap suc (length_others a blocks x (distinct_tail y blocks d) later e))
    (Memᴰ.cases_cons m)
