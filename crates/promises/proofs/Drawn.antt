-- The shadow is the one that the table draws, and of all bytes exactly those of live rows are addressable. Assumes
-- nothing.
use Prim.Native.Nat.{ℕ, zero, suc, ◌+◌, ◌-◌, ◌*◌, ◌/◌, ◌%◌, ◌≤◌, ◌<◌, zero-le, ◌^◌}
use native.Mathlib.Nat.{add-zero}
use native.Mathlib.Decide.{ℕ_discrete}
use native.Mathlib.Omega.{arith}
use mathlib.Core.Path.{◌≡◌, refl, sym, ap, subst, ◌∙◌}
use mathlib.Core.Logic.{◌≢◌, ◌⊎◌, inl, inr, ⊎_elim}
use mathlib.Core.Bool.{Bool, true, false, ◌&&◌, true≢false, ◌||◌}
use mathlib.Core.List.{List}
use lib.ListN.{length, get_or}
use lib.Seq.{ext_get_or}
use lib.Dec.{eqb, leb, ltb}
use borrow.Author.Tests.{eqb-true, eq-eqb, ne_eqb, leb-true, le-leb, ltb-true, lt-ltb}
use Rattle.std.specs.Prelude.{Some, None}
use Rattle.rules.specs.Limits.{granule, row_numbers, redzone_byte, released_byte, empty, live, quarantined}
use Rattle.rules.specs.Lowest.{lowest}
use Rattle.rules.specs.Table.{column, rows, start, size, state, turn}
use Rattle.rules.specs.Shadow.{leading, negative, shadow_of, addressable}
use Rattle.rules.specs.Grant.{granules, granted}
use Rattle.rules.proofs.Tests.{by_found, by_order, by_test, both, join, if_true, if_false}
use Rattle.rules.proofs.Lowest.{Lowest, lowest_some, lowest_none, below_all}
use Rattle.rules.proofs.Shadow.{leading_all, leading_first, leading_none, negative_from, addressable_is, not_inside}
use Rattle.rules.proofs.Shadow.{not_leading}
use Rattle.rules.proofs.Grant.{granules_enough, granules_least, granted_whole, granted_last}
use Rattle.promises.specs.History.{Block, lies_in, has_byte}
use Rattle.promises.specs.Rows.{◌∈◌, HeldRow, block_of, covers, painted, drawn_byte, drawn, RowOf}
use Rattle.promises.proofs.Blocks.{has_byte_true, has_byte_is, lies_in_true, lies_in_is}
use Rattle.promises.proofs.Laid.{ends, Off, Laid}
use Rattle.promises.proofs.Kept.{granted_small}
use Rattle.promises.proofs.Standing.{LiveRows}

-- ---- the row over a granule

-- granule g is one of held row i's
pub record Over (table : List ℕ) (g i : ℕ) : Type 0 where
  pub held : HeldRow table i
  pub from : start table i ≤ g
  pub below : g < ends table i

covers_over : (table : List ℕ) (g i : ℕ) → i < rows table → covers table g i ≡ true → Over table g i
unfolding covers
covers_over table g i in_rows e =
    let is_live : Bool = eqb (state table i) live in
    let is_quarantined : Bool = eqb (state table i) quarantined in
    let parts : ((is_live || is_quarantined) && leb (start table i) g ≡ true) × (ltb g (ends table i) ≡ true) =
    both e in
    let first : (is_live || is_quarantined ≡ true) × (leb (start table i) g ≡ true) = both parts.0 in
    record {
      held = record {
        below = in_rows;
        has = by_test is_live (λ yes·. inl (eqb-true (state table i) live yes·))
            (λ no·. inr (eqb-true (state table i) quarantined (ap (λ t. t || is_quarantined) (sym no·) ∙ first.0)));
      };
      from = leb-true (start table i) g first.1;
      below = ltb-true g (ends table i) parts.1;
    }

over_covers : (table : List ℕ) (g i : ℕ) → Over table g i → covers table g i ≡ true
unfolding covers
over_covers table g i o =
    join
    (join
    (⊎_elim
    (λ is. ap (λ t. t || eqb (state table i) quarantined) (eq-eqb (state table i) live is))
    (λ is. by_test (eqb (state table i) live) (λ yes·. ap (λ t. t || eqb (state table i) quarantined) yes·)
    (λ no·. ap (λ t. t || eqb (state table i) quarantined) no· ∙ eq-eqb (state table i) quarantined is))
    o.held.has)
    (le-leb (start table i) g o.from))
    (lt-ltb g (ends table i) o.below)

-- by what is over a granule: a held row, or none
by_granule {ℓ} : (table : List ℕ) (g : ℕ) (P : Type ℓ)
    → ((i : ℕ) → lowest (covers table g) (rows table) 0 ≡ Some i → Over table g i → P)
    → (lowest (covers table g) (rows table) 0 ≡ None → ((i : ℕ) → HeldRow table i → Off table i g) → P) → P
by_granule table g P one nothing =
    by_found (lowest (covers table g) (rows table) 0)
    (λ i e.
    let l : Lowest (covers table g) (rows table) 0 i = lowest_some (covers table g) (rows table) 0 i e in
    one i e (covers_over table g i (below_all l) l.passes))
    (λ e.
    nothing e (λ i h. off i h (lowest_none (covers table g) (rows table) 0 e i zero-le (omega (arith, h.below)))))
  where
    off : (i : ℕ) → HeldRow table i → covers table g i ≡ false → Off table i g
    off i h e =
        by_order g (start table i)
        (λ left. inl left)
        (λ from.
        by_order g (ends table i)
        (λ below.
        absurd (true≢false (sym (over_covers table g i (record { held = h; from = from; below = below })) ∙ e)))
        (λ right. inr right))

-- one held row at most is over a granule
over_one : (R : ℕ) {table : List ℕ}
    → ((i j : ℕ) → HeldRow table i → HeldRow table j → i ≢ j → (ends table i + R ≤ start table j)
    ⊎ (ends table j + R ≤ start table i))
    → (g i j : ℕ) → Over table g i → Over table g j → i ≡ j
over_one R apart g i j o o' =
    elim (ℕ_discrete i j) [
      | yes e ↦ e
      | no differ ↦
          absurd
          (⊎_elim {C = ⊥}
          (λ left. omega (arith, o.below, o'.from))
          (λ right. omega (arith, o'.below, o.from))
          (apart i j o.held o'.held differ))
    ]

-- ---- the shadow that a table draws

painted_quarantined : (table : List ℕ) (g i : ℕ) → state table i ≡ quarantined → painted table g i ≡ released_byte
unfolding painted
painted_quarantined table g i is = if_true _ _ (eq-eqb (state table i) quarantined is)

painted_live : (table : List ℕ) (g i : ℕ) → state table i ≡ live
    → painted table g i ≡ get_or (granted (size table i)) (g - start table i) 0
unfolding painted
painted_live table g i is = if_false _ _ (ne_eqb (state table i) quarantined (λ e. absurd (omega arith)))

drawn_row : (table : List ℕ) (g i : ℕ) → lowest (covers table g) (rows table) 0 ≡ Some i
    → drawn_byte table g ≡ painted table g i
unfolding drawn_byte
drawn_row table g i e = rw (e, drawn_byte)

drawn_none : (table : List ℕ) (g : ℕ) → lowest (covers table g) (rows table) 0 ≡ None
    → drawn_byte table g ≡ redzone_byte
unfolding drawn_byte
drawn_none table g e = rw (e, drawn_byte)

length_drawn : (table : List ℕ) (n g : ℕ) → length (drawn table n g) ≡ n
unfolding drawn
length_drawn table zero g = refl
length_drawn table (suc n) g = ap suc (length_drawn table n (suc g))

get_or_drawn : (table : List ℕ) (n g k : ℕ) → k < n → get_or (drawn table n g) k 0 ≡ drawn_byte table (g + k)
unfolding drawn
get_or_drawn table zero g k below = absurd (omega arith)
get_or_drawn table (suc n) g zero below = ap (drawn_byte table) (sym (add-zero g))
get_or_drawn table (suc n) g (suc k) below =
    get_or_drawn table n (suc g) k (omega arith)
    ∙ ap (drawn_byte table) (let e : suc g + k ≡ g + suc k = omega arith in e)

module _ {S R : ℕ} {shadow table : List ℕ} (laid : Laid S R shadow table) where
  -- the byte of a live row's granule
  pub live_byte : (i g : ℕ) → Over table g i → state table i ≡ live
      → get_or shadow g 0 ≡ get_or (granted (size table i)) (g - start table i) 0
  live_byte i g o is =
      let at : start table i + (g - start table i) ≡ g = omega (arith, o.from) in
      ap (λ m. get_or shadow m 0) (sym at)
      ∙ laid.of_live i o.held.below is (g - start table i) (omega (arith, o.from, o.below))

  drawn_at : (g : ℕ) → g < S → get_or shadow g 0 ≡ drawn_byte table g
  drawn_at g in_arena =
      by_granule table g (get_or shadow g 0 ≡ drawn_byte table g)
      (λ i e o.
      ⊎_elim
      (λ is. live_byte i g o is ∙ sym (painted_live table g i is))
      (λ is. laid.of_quarantined i o.held.below is g o.from o.below ∙ sym (painted_quarantined table g i is))
      o.held.has
      ∙ sym (drawn_row table g i e))
      (λ e off. laid.of_none g in_arena off ∙ sym (drawn_none table g e))

  -- the shadow is a function of the table
  pub shadow_drawn : shadow ≡ drawn table S 0
  shadow_drawn =
      ext_get_or 0 shadow (drawn table S 0) (laid.of_shadow ∙ sym (length_drawn table S 0))
      (λ k below.
      let in_arena : k < S = omega (arith, laid.of_shadow) in
      drawn_at k in_arena ∙ ap (drawn_byte table) (let e : k ≡ 0 + k = omega arith in e)
      ∙ sym (get_or_drawn table S 0 k in_arena))

  -- each of its bytes is below 8, fd or fa
  byte_is : (g : ℕ) → g < S
      → (get_or shadow g 0 < granule) ⊎ ((get_or shadow g 0 ≡ released_byte) ⊎ (get_or shadow g 0 ≡ redzone_byte))
  byte_is g in_arena =
      by_granule table g
      ((get_or shadow g 0 < granule) ⊎ ((get_or shadow g 0 ≡ released_byte) ⊎ (get_or shadow g 0 ≡ redzone_byte)))
      (λ i e o.
      ⊎_elim
      (λ is.
      inl (omega (
        arith,
        live_byte i g o is,
        granted_small (size table i) (g - start table i)
            (omega (arith, o.from, o.below)),
      )))
      (λ is. inr (inl (laid.of_quarantined i o.held.below is g o.from o.below)))
      o.held.has)
      (λ e off. inr (inr (laid.of_none g in_arena off)))

  -- so it is 0, a first k, or negative
  pub byte_small : (g : ℕ) → g < length shadow → (get_or shadow g 0 < granule) ⊎ (negative (get_or shadow g 0) ≡ true)
  byte_small g in_shadow =
      ⊎_elim (λ small. inl small)
      (λ other.
      inr
      (negative_from (get_or shadow g 0)
      (⊎_elim {C = 128 ≤ get_or shadow g 0} (λ is. omega arith) (λ is. omega arith) other)))
      (byte_is g (omega (arith, laid.of_shadow)))

  -- and fits two digits
  pub byte_fits : (g : ℕ) → g < S → get_or shadow g 0 < 16 ^ 2
  byte_fits g in_arena =
      ⊎_elim {C = get_or shadow g 0 < 16 ^ 2} (λ small. omega arith)
      (λ other. ⊎_elim {C = get_or shadow g 0 < 16 ^ 2} (λ is. omega arith) (λ is. omega arith) other)
      (byte_is g in_arena)

  -- ---- addressable bytes

  -- byte b of the k-th granule of a block of s bytes at granule p is addressable exactly when it is one of the s bytes
  leading_granted : (s p b : ℕ) → p ≤ b / granule → b < granule * p + s
      → b % granule < leading (get_or (granted s) (b / granule - p) 0)
  leading_granted s p b from below =
      let k : ℕ = b / granule - p in
      by_order k (s / granule)
      (λ whole. subst (λ v. b % granule < leading v) (sym (granted_whole s k whole)) (omega (arith, leading_all)))
      (λ last.
      let is_last : k ≡ s / granule = omega arith in
      let v : get_or (granted s) k 0 ≡ s % granule = ap (λ m. get_or (granted s) m 0) is_last ∙ granted_last s in
      subst (λ m. b % granule < leading m) (sym v)
      (omega (arith, leading_first (s % granule) (omega arith) (omega arith))))

  past_granted : (s p b : ℕ) → p ≤ b / granule → b / granule < p + granules s → granule * p + s ≤ b
      → leading (get_or (granted s) (b / granule - p) 0) ≤ b % granule
  past_granted s p b from below past =
      let k : ℕ = b / granule - p in
      let is_last : k ≡ s / granule = omega (arith, granules_least s) in
      let v : get_or (granted s) k 0 ≡ s % granule = ap (λ m. get_or (granted s) m 0) is_last ∙ granted_last s in
      subst (λ m. leading m ≤ b % granule) (sym v)
      (omega (arith, granules_least s, leading_first (s % granule) (omega (arith, granules_least s)) (omega arith)))

  -- a byte that lies in a live block is over that block's row
  lies_row : (blocks : List Block) → LiveRows table blocks → (b : ℕ) → lies_in blocks b ≡ true
      → (j : ℕ) × Over table (b / granule) j × (state table j ≡ live) × (b < granule * start table j + size table j)
  lies_row blocks lives b e =
      let one : (x : Block) × (x ∈ blocks) × (has_byte x b ≡ true) = lies_in_true blocks b e in
      let row : RowOf table live one.0 = lives.row one.0 one.1 in
      let has : has_byte (block_of table row.0) b ≡ true = ap (λ y. has_byte y b) row.3 ∙ one.2 in
      let range : (granule * start table row.0 ≤ b) × (b < granule * start table row.0 + size table row.0) =
      has_byte_true (block_of table row.0) b has in (
        row.0,
        record {
          held = record { below = row.1; has = inl row.2 };
          from = omega (arith, range.0);
          below = omega (arith, range.1, granules_enough (size table row.0));
        },
        row.2,
        range.1,
      )

  not_lies : (blocks : List Block) (b : ℕ) → (lies_in blocks b ≡ true → ⊥) → lies_in blocks b ≡ false
  not_lies blocks b nowhere = by_test (lies_in blocks b) (λ e. absurd (nowhere e)) (λ e. e)

  -- exactly the bytes of live rows are addressable
  pub addressable_lies : (blocks : List Block) → LiveRows table blocks → (b : ℕ)
      → addressable shadow b ≡ lies_in blocks b
  unfolding shadow_of
  addressable_lies blocks lives b =
      by_order b (granule * S)
      (λ in_arena.
      by_granule table (b / granule) (addressable shadow b ≡ lies_in blocks b)
      (λ i e o. ⊎_elim (λ is. of_live_row i o is) (λ is. of_quarantined_row i o is) o.held.has)
      (λ e off.
      not_leading shadow b
      (omega (
        arith,
        ap leading (laid.of_none (b / granule) (omega arith) off),
        leading_none redzone_byte
            (omega arith),
      ))
      ∙ sym
      (not_lies blocks b (λ lies. let l = lies_row blocks lives b lies in over_off l.0 l.1
      (off l.0 l.1.held)))))
      (λ beyond.
      not_inside shadow b (omega (arith, laid.of_shadow))
      ∙ sym
      (not_lies blocks b
      (λ lies. let l = lies_row blocks lives b lies in omega (arith, laid.high l.0 l.1.held, l.1.below))))
    where
      over_off : (j : ℕ) → Over table (b / granule) j → Off table j (b / granule) → ⊥
      over_off j o (inl left) = omega (arith, o.from)
      over_off j o (inr right) = omega (arith, o.below)

      of_live_row : (i : ℕ) → Over table (b / granule) i → state table i ≡ live
          → addressable shadow b ≡ lies_in blocks b
      of_live_row i o is =
          by_order b (granule * start table i + size table i)
          (λ below.
          addressable_is shadow b (omega (arith, laid.of_shadow, laid.high i o.held, o.below))
          (subst (λ v. b % granule < leading v) (sym (live_byte i (b / granule) o is))
          (leading_granted (size table i) (start table i) b o.from below))
          ∙ sym
          (lies_in_is blocks b (block_of table i) (lives.listed i o.held.below is)
          (has_byte_is (block_of table i) b (omega (arith, o.from)) below)))
          (λ past.
          not_leading shadow b
          (subst (λ v. leading v ≤ b % granule) (sym (live_byte i (b / granule) o is))
          (past_granted (size table i) (start table i) b o.from o.below past))
          ∙ sym
          (not_lies blocks b
          (λ lies.
          let l = lies_row blocks lives b lies in
          let same : l.0 ≡ i = over_one R laid.apart (b / granule) l.0 i l.1 o in
          omega (arith, l.3, ap (start table) same, ap (size table) same))))

      of_quarantined_row : (i : ℕ) → Over table (b / granule) i → state table i ≡ quarantined
          → addressable shadow b ≡ lies_in blocks b
      of_quarantined_row i o is =
          not_leading shadow b
          (omega (
            arith,
            ap leading (laid.of_quarantined i o.held.below is (b / granule) o.from o.below),
            leading_none released_byte (omega arith),
          ))
          ∙ sym
          (not_lies blocks b
          (λ lies.
          let l = lies_row blocks lives b lies in
          let same : l.0 ≡ i = over_one R laid.apart (b / granule) l.0 i l.1 o in
          omega (arith, l.2, ap (state table) same)))

-- ---- and back: what a table draws lies as its rows do, where they lie apart

-- a granule of a row is not off it
over_not_off : (table : List ℕ) (g i : ℕ) → Over table g i → Off table i g → ⊥
over_not_off table g i o =
    ⊎_elim {C = ⊥} (λ left. omega (arith, o.from)) (λ right. omega (arith, o.below))

module _ (S R : ℕ) {table : List ℕ} (high : (i : ℕ) → HeldRow table i → ends table i + R ≤ S)
    (apart : (i j : ℕ) → HeldRow table i → HeldRow table j → i ≢ j → (ends table i + R ≤ start table j)
    ⊎ (ends table j + R ≤ start table i)) where
  drawn_here : (g : ℕ) → g < S → get_or (drawn table S 0) g 0 ≡ drawn_byte table g
  drawn_here g in_arena =
      get_or_drawn table S 0 g in_arena ∙ ap (drawn_byte table) (let e : 0 + g ≡ g = omega arith in e)

  drawn_over : (g i : ℕ) → Over table g i → get_or (drawn table S 0) g 0 ≡ painted table g i
  drawn_over g i o =
      drawn_here g (omega (arith, high i o.held, o.below))
      ∙ by_granule table g (drawn_byte table g ≡ painted table g i)
      (λ j e o'. drawn_row table g j e ∙ ap (painted table g) (over_one R apart g j i o' o))
      (λ e off. absurd (over_not_off table g i o (off i o.held)))

  pub drawn_laid :
      ((i : ℕ) → i < rows table → (state table i ≡ empty) ⊎ ((state table i ≡ live) ⊎ (state table i ≡ quarantined)))
      → ((i : ℕ) → i < rows table → state table i ≡ empty → (k : ℕ) → k < row_numbers → column k table i ≡ 0)
      → ((i : ℕ) → i < rows table → state table i ≡ live → turn table i ≡ 0)
      → ((i : ℕ) → HeldRow table i → 0 < size table i) → ((i : ℕ) → HeldRow table i → R ≤ start table i)
      → Laid S R (drawn table S 0) table
  drawn_laid states zeros live_turn sized low = record {
    of_shadow = length_drawn table S 0;
    states = states;
    zeros = zeros;
    live_turn = live_turn;
    sized = sized;
    low = low;
    high = high;
    apart = apart;
    of_live = λ i below is k in_row.
        let over : Over table (start table i + k) i = record {
          held = record { below = below; has = inl is };
          from = omega arith;
          below = omega arith;
        } in
        drawn_over (start table i + k) i over
        ∙ painted_live table (start table i + k) i is
        ∙ ap (λ m. get_or (granted (size table i)) m 0)
        (let e : start table i + k - start table i ≡ k = omega arith in e);
    of_quarantined = λ i below is g from upto.
        drawn_over g i (record { held = record { below = below; has = inr is }; from = from; below = upto })
        ∙ painted_quarantined table g i is;
    of_none = λ g in_arena off.
        drawn_here g in_arena
        ∙ by_granule table g (drawn_byte table g ≡ redzone_byte)
        (λ j e o. absurd (over_not_off table g j o (off j o.held)))
        (λ e off'. drawn_none table g e);
  }
