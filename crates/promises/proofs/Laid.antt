-- How blocks lie: a record of the table's rows and the shadow over them, and that it is kept where one row is
-- repainted. Assumes nothing.
use Prim.Native.Nat.{ℕ, ◌+◌, ◌≤◌, ◌<◌, ◌*◌}
use native.Mathlib.Decide.{ℕ_discrete}
use native.Mathlib.Omega.{arith}
use mathlib.Core.Path.{◌≡◌, sym, ap, ap₂, subst, ◌∙◌}
use mathlib.Core.Logic.{◌≢◌, ◌⊎◌, inl, inr, ⊎_elim}
use mathlib.Core.List.{List}
use lib.ListN.{length, get_or}
use Rattle.rules.specs.Limits.{start_column, size_column, state_column, turn_column, row_numbers, redzone_byte}
use Rattle.rules.specs.Limits.{released_byte, empty, live, quarantined, granule}
use Rattle.rules.specs.Table.{rows, column, start, size, state, turn}
use Rattle.rules.specs.Grant.{granules, granted}
use Rattle.rules.proofs.Tests.{by_order}
use Rattle.promises.specs.History.{block}
use Rattle.promises.specs.Rows.{HeldRow, block_of}

-- the first granule past row i's
abbrev pub ends : List ℕ → ℕ → ℕ
ends table i = start table i + granules (size table i)

-- a block goes by its row's start and size alone
pub block_of_same : (table other : List ℕ) (j : ℕ) → start table j ≡ start other j → size table j ≡ size other j
    → block_of table j ≡ block_of other j
block_of_same table other j starts sizes = ap₂ (λ a s. block (granule * a) s) starts sizes

-- granule g is none of row i's
abbrev pub Off : List ℕ → ℕ → ℕ → Type 0
Off table i g = (g < start table i) ⊎ (ends table i ≤ g)

-- the rows by their states, held blocks R granules apart and from both ends, and the shadow that they draw
pub record Laid (S R : ℕ) (shadow table : List ℕ) : Type 0 where
  pub of_shadow : length shadow ≡ S
  pub states : (i : ℕ) → i < rows table
      → (state table i ≡ empty) ⊎ ((state table i ≡ live) ⊎ (state table i ≡ quarantined))
  pub zeros : (i : ℕ) → i < rows table → state table i ≡ empty → (k : ℕ) → k < row_numbers → column k table i ≡ 0
  pub live_turn : (i : ℕ) → i < rows table → state table i ≡ live → turn table i ≡ 0
  pub sized : (i : ℕ) → HeldRow table i → 0 < size table i
  pub low : (i : ℕ) → HeldRow table i → R ≤ start table i
  pub high : (i : ℕ) → HeldRow table i → ends table i + R ≤ S
  pub apart : (i j : ℕ) → HeldRow table i → HeldRow table j → i ≢ j
      → (ends table i + R ≤ start table j) ⊎ (ends table j + R ≤ start table i)
  pub of_live : (i : ℕ) → i < rows table → state table i ≡ live
      → (k : ℕ) → k < granules (size table i) → get_or shadow (start table i + k) 0
      ≡ get_or (granted (size table i)) k 0
  pub of_quarantined : (i : ℕ) → i < rows table → state table i ≡ quarantined
      → (g : ℕ) → start table i ≤ g → g < ends table i → get_or shadow g 0 ≡ released_byte
  pub of_none : (g : ℕ) → g < S → ((i : ℕ) → HeldRow table i → Off table i g) → get_or shadow g 0 ≡ redzone_byte

-- row i is another one, over the granules from lo to hi - 1 of the shadow; every other row keeps its numbers, the turn
-- apart, and every other granule its byte
pub record Repainted (S R : ℕ) (shadow table shadow' table' : List ℕ) (i lo hi : ℕ) : Type 0 where
  pub below : i < rows table
  pub same_rows : rows table' ≡ rows table
  pub same_length : length shadow' ≡ length shadow
  pub other : (k j : ℕ) → k < row_numbers → k ≢ turn_column → j ≢ i → column k table' j ≡ column k table j
  pub other_turn : (j : ℕ) → j < rows table → j ≢ i → turn table j ≡ 0 → turn table' j ≡ 0
  pub beside : (g : ℕ) → (g < lo) ⊎ (hi ≤ g) → get_or shadow' g 0 ≡ get_or shadow g 0
  pub clear : (j : ℕ) → j ≢ i → HeldRow table j → (ends table j + R ≤ lo) ⊎ (hi + R ≤ start table j)
  pub before : HeldRow table i → (start table i ≡ lo) × (ends table i ≡ hi)
  pub states : (state table' i ≡ empty) ⊎ ((state table' i ≡ live) ⊎ (state table' i ≡ quarantined))
  pub zeros : state table' i ≡ empty → (k : ℕ) → k < row_numbers → column k table' i ≡ 0
  pub live_turn : state table' i ≡ live → turn table' i ≡ 0
  pub after : HeldRow table' i
      → (start table' i ≡ lo) × (ends table' i ≡ hi) × (0 < size table' i) × (R ≤ lo) × (hi + R ≤ S)
  pub of_live : state table' i ≡ live
      → (k : ℕ) → k < granules (size table' i)
      → get_or shadow' (start table' i + k) 0 ≡ get_or (granted (size table' i)) k 0
  pub of_quarantined : state table' i ≡ quarantined → (g : ℕ) → lo ≤ g → g < hi → get_or shadow' g 0 ≡ released_byte
  pub of_none : state table' i ≡ empty → (g : ℕ) → lo ≤ g → g < hi → g < S → get_or shadow' g 0 ≡ redzone_byte

-- by the row: itself, or another
pub each_row : (i : ℕ) (P : ℕ → Type 0) → P i → ((j : ℕ) → j ≢ i → P j) → (j : ℕ) → P j
each_row i P own others j = elim (ℕ_discrete j i) [ yes e ↦ subst P (sym e) own | no other ↦ others j other ]

module _ {S R : ℕ} {shadow table shadow' table' : List ℕ} {i lo hi : ℕ} (laid : Laid S R shadow table)
    (new : Repainted S R shadow table shadow' table' i lo hi) where
  was_below : (j : ℕ) → j < rows table' → j < rows table
  was_below j b = omega (arith, new.same_rows)

  same_start : (j : ℕ) → j ≢ i → start table' j ≡ start table j
  same_start j other = new.other start_column j (omega arith) (omega arith) other

  same_size : (j : ℕ) → j ≢ i → size table' j ≡ size table j
  same_size j other = new.other size_column j (omega arith) (omega arith) other

  same_state : (j : ℕ) → j ≢ i → state table' j ≡ state table j
  same_state j other = new.other state_column j (omega arith) (omega arith) other

  same_ends : (j : ℕ) → j ≢ i → ends table' j ≡ ends table j
  same_ends j other = ap₂ (λ a s. a + granules s) (same_start j other) (same_size j other)

  -- another row is held as it was
  was_held : (j : ℕ) → j ≢ i → HeldRow table' j → HeldRow table j
  was_held j other h = record {
    below = was_below j h.below;
    has = subst (λ s. (s ≡ live) ⊎ (s ≡ quarantined)) (same_state j other) h.has;
  }

  is_held : (j : ℕ) → j ≢ i → HeldRow table j → HeldRow table' j
  is_held j other h = record {
    below = omega (arith, new.same_rows, h.below);
    has = subst (λ s. (s ≡ live) ⊎ (s ≡ quarantined)) (sym (same_state j other)) h.has;
  }

  -- and lies off the granules that are repainted
  off_changed : (j : ℕ) → j ≢ i → HeldRow table j → (g : ℕ) → start table j ≤ g → g < ends table j → (g < lo) ⊎ (hi ≤ g)
  off_changed j other h g from below =
      ⊎_elim {C = (g < lo) ⊎ (hi ≤ g)} (λ left. inl (omega arith)) (λ right. inr (omega arith)) (new.clear j other h)

  apart_own : (j : ℕ) → j ≢ i → HeldRow table' i → HeldRow table' j
      → (ends table' i + R ≤ start table' j) ⊎ (ends table' j + R ≤ start table' i)
  apart_own j other own h =
      let same : start table' j ≡ start table j = same_start j other in
      let same_end : ends table' j ≡ ends table j = same_ends j other in
      ⊎_elim {C = (ends table' i + R ≤ start table' j) ⊎ (ends table' j + R ≤ start table' i)}
      (λ left. inr (omega (arith, (new.after own).0)))
      (λ right. inl (omega (arith, (new.after own).1)))
      (new.clear j other (was_held j other h))

  swapped : {A B : Type 0} → A ⊎ B → B ⊎ A
  swapped (inl a) = inr a
  swapped (inr b) = inl b

  -- what was laid stays so
  pub laid_repainted : Laid S R shadow' table'
  laid_repainted = record {
    of_shadow = new.same_length ∙ laid.of_shadow;
    states =
        each_row i
        (λ j.
        j < rows table' → (state table' j ≡ empty) ⊎
        ((state table' j ≡ live) ⊎ (state table' j ≡ quarantined))) (λ b. new.states)
        (λ j other b.
        subst (λ s. (s ≡ empty) ⊎ ((s ≡ live) ⊎ (s ≡ quarantined))) (sym (same_state j other))
        (laid.states j (was_below j b)));
    zeros =
        each_row i (λ j. j < rows table' → state table' j ≡ empty → (k : ℕ) → k < row_numbers → column k table' j ≡ 0)
        (λ b is. new.zeros is)
        (λ j other b is.
        let was : (k : ℕ) → k < row_numbers → column k table j ≡ 0 =
        laid.zeros j (was_below j b) (sym (same_state j other) ∙ is) in
        let turn_zero : turn table' j ≡ 0 = new.other_turn j (was_below j b) other (was turn_column (omega arith)) in
        each_row turn_column (λ k. k < row_numbers → column k table' j ≡ 0)
        (λ in_row. turn_zero)
        (λ k no_turn in_row. new.other k j in_row no_turn other ∙ was k in_row));
    live_turn =
        each_row i (λ j. j < rows table' → state table' j ≡ live → turn table' j ≡ 0) (λ b is. new.live_turn is)
        (λ j other b is.
        new.other_turn j (was_below j b) other (laid.live_turn j (was_below j b) (sym (same_state j other) ∙ is)));
    sized =
        each_row i (λ j. HeldRow table' j → 0 < size table' j) (λ h. (new.after h).2)
        (λ j other h. omega (arith, same_size j other, laid.sized j (was_held j other h)));
    low =
        each_row i (λ j. HeldRow table' j → R ≤ start table' j) (λ h. omega (arith, (new.after h).0, (new.after h).3))
        (λ j other h. omega (arith, same_start j other, laid.low j (was_held j other h)));
    high =
        each_row i (λ j. HeldRow table' j → ends table' j + R ≤ S)
        (λ h. omega (arith, (new.after h).1, (new.after h).4))
        (λ j other h. omega (arith, same_ends j other, laid.high j (was_held j other h)));
    apart =
        each_row i
        (λ j.
        (k : ℕ) → HeldRow table' j → HeldRow table' k → j ≢ k
        → (ends table' j + R ≤ start table' k) ⊎ (ends table' k + R ≤ start table' j))
        (λ k h h' differ. apart_own k (λ e. differ (sym e)) h h')
        (λ j other.
        each_row i
        (λ k.
        HeldRow table' j → HeldRow table' k → j ≢ k → (ends table' j + R ≤ start table' k) ⊎
        (ends table' k + R ≤ start table' j))
        (λ h h' differ. swapped (apart_own j other h' h))
        (λ k other' h h' differ.
        subst (λ a. (a + R ≤ start table' k) ⊎ (ends table' k + R ≤ start table' j)) (sym (same_ends j other))
        (subst (λ a. (ends table j + R ≤ start table' k) ⊎ (a + R ≤ start table' j)) (sym (same_ends k other'))
        (subst (λ a. (ends table j + R ≤ a) ⊎ (ends table k + R ≤ start table' j)) (sym (same_start k other'))
        (subst (λ a. (ends table j + R ≤ start table k) ⊎ (ends table k + R ≤ a)) (sym (same_start j other))
        (laid.apart j k (was_held j other h) (was_held k other' h') differ))))));
    of_live =
        each_row i
        (λ j.
        j < rows table' → state table' j ≡ live → (k : ℕ) → k < granules (size table' j) → get_or shadow'
        (start table' j + k) 0 ≡ get_or (granted (size table' j)) k 0)
        (λ b is. new.of_live is)
        (λ j other b is k in_block.
        let sizes : size table' j ≡ size table j = same_size j other in
        let was : state table j ≡ live = sym (same_state j other) ∙ is in
        let in_block' : k < granules (size table j) = subst (λ s. k < granules s) sizes in_block in
        ap (λ a. get_or shadow' (a + k) 0) (same_start j other)
        ∙ new.beside (start table j + k)
        (off_changed j other (record { below = was_below j b; has = inl was }) (start table j + k) (omega arith)
        (omega arith))
        ∙ laid.of_live j (was_below j b) was k in_block'
        ∙ ap (λ s. get_or (granted s) k 0) (sym sizes));
    of_quarantined =
        each_row i
        (λ j.
        j < rows table' → state table' j ≡ quarantined →
        (g : ℕ) → start table' j ≤ g → g < ends table' j → get_or shadow' g 0 ≡ released_byte)
        (λ b is g from below.
        let a = new.after (record { below = b; has = inr is }) in
        new.of_quarantined is g (omega (arith, a.0)) (omega (arith, a.1)))
        (λ j other b is g from below.
        let was : state table j ≡ quarantined = sym (same_state j other) ∙ is in
        let from' : start table j ≤ g = omega (arith, same_start j other) in
        let below' : g < ends table j = omega (arith, same_ends j other) in
        new.beside g (off_changed j other (record { below = was_below j b; has = inr was }) g from' below')
        ∙ laid.of_quarantined j (was_below j b) was g from' below');
    of_none = λ g in_arena off. by_place g in_arena off;
  }
    where
      beside_none : (g : ℕ) → g < S → ((j : ℕ) → HeldRow table' j → Off table' j g) → (g < lo) ⊎ (hi ≤ g)
          → get_or shadow' g 0 ≡ redzone_byte
      beside_none g in_arena off beside =
          new.beside g beside
          ∙ laid.of_none g in_arena
          (each_row i (λ j. HeldRow table j → Off table j g)
          (λ h.
          ⊎_elim {C = Off table i g} (λ left. inl (omega (arith, (new.before h).0)))
          (λ right. inr (omega (arith, (new.before h).1))) beside)
          (λ j other h.
          ⊎_elim {C = Off table j g} (λ left. inl (omega (arith, same_start j other)))
          (λ right. inr (omega (arith, same_ends j other)))
          (off j (is_held j other h))))

      held_none : (g : ℕ) → lo ≤ g → g < hi → HeldRow table' i → Off table' i g → ⊥
      held_none g from below h (inl left) = omega (arith, (new.after h).0)
      held_none g from below h (inr right) = omega (arith, (new.after h).1)

      own_none : (g : ℕ) → g < S → ((j : ℕ) → HeldRow table' j → Off table' j g) → lo ≤ g → g < hi
          → get_or shadow' g 0 ≡ redzone_byte
      own_none g in_arena off from below =
          let own : i < rows table' = omega (arith, new.same_rows, new.below) in
          ⊎_elim (λ is_empty. new.of_none is_empty g from below in_arena)
          (λ has.
          let h : HeldRow table' i = record { below = own; has = has } in absurd (held_none g from below h (off i h)))
          new.states

      by_place : (g : ℕ) → g < S → ((j : ℕ) → HeldRow table' j → Off table' j g) → get_or shadow' g 0 ≡ redzone_byte
      by_place g in_arena off =
          by_order g lo
          (λ left. beside_none g in_arena off (inl left))
          (λ from.
          by_order g hi (λ below. own_none g in_arena off from below) (λ right. beside_none g in_arena off (inr right)))
