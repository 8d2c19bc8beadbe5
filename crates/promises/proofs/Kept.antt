-- That blocks stay laid: by a grant at a place that fits, by a row that becomes quarantined, and by an eviction; and
-- that a place fits exactly where it is a redzone away from every held row. Assumes nothing.
use Prim.Native.Nat.{ℕ, zero, suc, ◌+◌, ◌-◌, ◌*◌, ◌/◌, ◌≤◌, ◌<◌, max}
use native.Mathlib.Omega.{arith}
use mathlib.Core.Path.{◌≡◌, refl, sym, ap, ap₂, subst, ◌∙◌}
use mathlib.Core.Logic.{◌≢◌, ◌⊎◌, inl, inr, ⊎_elim}
use mathlib.Core.List.{List}
use lib.ListN.{length, get_or, replicate, length-replicate, get_or-replicate}
use Rattle.rules.specs.Limits.{granule, start_column, size_column, state_column, turn_column, row_numbers}
use Rattle.rules.specs.Limits.{redzone_byte, released_byte, empty, quarantined}
use Rattle.rules.specs.Put.{put}
use Rattle.rules.specs.Table.{rows, column, start, size, state, numbers, put_row}
use Rattle.rules.specs.Grant.{granules, granted, granted_row, Fits}
use Rattle.rules.specs.Release.{Pool, evict_row, quarantine_row}
use Rattle.rules.proofs.Tests.{by_order}
use Rattle.rules.proofs.Put.{length_put, put_in, put_before, put_after}
use Rattle.rules.proofs.Table.{rows_same, length_put_row, column_put_row, column_put_row_other}
use Rattle.rules.proofs.Grant.{granules_above, granules_least, length_granted, granted_whole, granted_last}
use Rattle.rules.proofs.Release.{evict_row_rows, evict_row_empty, evict_row_other, evict_row_turn, evict_row_shadow}
use Rattle.rules.proofs.Release.{paint_row_length, paint_row_in, paint_row_before, paint_row_after}
use Rattle.rules.proofs.Release.{quarantine_row_lengths, quarantine_row_state, quarantine_row_own, quarantine_row_other}
use Rattle.promises.specs.Rows.{HeldRow}
use Rattle.promises.proofs.Laid.{ends, Off, Laid, laid_repainted}

-- ---- an opening

zeros_at : (m k : ℕ) → get_or {A = ℕ} (replicate m 0) k 0 ≡ 0
zeros_at zero k = refl
zeros_at (suc m) zero = refl
zeros_at (suc m) (suc k) = zeros_at m k

-- every number of a table of zeros is 0
pub zero_column : (n k i : ℕ) → column k (replicate n 0) i ≡ 0
unfolding column
zero_column n k i = zeros_at n (row_numbers * i + k)

-- a table of zeros and a shadow of fa are laid
pub laid_opening : (S R n : ℕ) → Laid S R (replicate S redzone_byte) (replicate n 0)
laid_opening S R n =
    let is_empty : (i : ℕ) → state (replicate n 0) i ≡ empty = zero_column n state_column in
    let nothing : (i : ℕ) → HeldRow (replicate n 0) i → ⊥ =
    λ i h. ⊎_elim {C = ⊥} (λ is. omega (arith, is_empty i)) (λ is. omega (arith, is_empty i)) h.has in
    record {
      of_shadow = length-replicate S redzone_byte;
      states = λ i below. inl (is_empty i);
      zeros = λ i below is k in_row. zero_column n k i;
      live_turn = λ i below is. zero_column n turn_column i;
      sized = λ i h. absurd (nothing i h);
      low = λ i h. absurd (nothing i h);
      high = λ i h. absurd (nothing i h);
      apart = λ i j h. absurd (nothing i h);
      of_live = λ i below is. absurd (omega (arith, is_empty i));
      of_quarantined = λ i below is. absurd (omega (arith, is_empty i));
      of_none = λ g in_arena off. get_or-replicate S g redzone_byte 0 in_arena;
    }

-- ---- what stands in a block's granules

-- no byte of a granted block is 8 or more
pub granted_small : (s k : ℕ) → k < granules s → get_or (granted s) k 0 < granule
granted_small s k in_block =
    by_order k (s / granule)
    (λ whole. omega (arith, granted_whole s k whole))
    (λ last.
    let is_last : k ≡ s / granule = omega (arith, granules_least s) in
    omega (arith, ap (λ m. get_or (granted s) m 0) is_last, granted_last s))

module _ {S R : ℕ} {shadow table : List ℕ} (laid : Laid S R shadow table) where
  -- a held row's granules are not fa
  not_free : (j : ℕ) → HeldRow table j → (g : ℕ) → start table j ≤ g → g < ends table j
      → get_or shadow g 0 ≢ redzone_byte
  not_free j h g from below free =
      ⊎_elim {C = ⊥}
      (λ is.
      let at : start table j + (g - start table j) ≡ g = omega arith in
      let in_block : g - start table j < granules (size table j) = omega arith in
      omega (
        arith,
        ap (λ m. get_or shadow m 0) at,
        laid.of_live j h.below is (g - start table j) in_block,
        granted_small
            (size table j) (g - start table j) in_block,
      ))
      (λ is. omega (arith, laid.of_quarantined j h.below is g from below))
      h.has

  -- a place fits exactly where it is a redzone away from every held row
  pub fits_clear : (u p : ℕ) → 0 < u → Fits shadow R u p → (j : ℕ) → HeldRow table j
      → (ends table j + R ≤ p) ⊎ (p + u + R ≤ start table j)
  fits_clear u p above fits j h =
      let sized : 0 < granules (size table j) = granules_above (size table j) (laid.sized j h) in
      let low : R ≤ p = fits.low in
      by_order (p - R) (ends table j)
      (λ overlap.
      by_order (start table j) (p + u + R)
      (λ overlap'.
      let g : ℕ = max (start table j) (p - R) in
      absurd (not_free j h g (omega arith) (omega arith) (fits.free g (omega arith) (omega arith))))
      (λ right. inr right))
      (λ left. inl (omega arith))

  pub clear_fits : (u p : ℕ) → R ≤ p → p + u + R ≤ S
      → ((j : ℕ) → HeldRow table j → (ends table j + R ≤ p) ⊎ (p + u + R ≤ start table j)) → Fits shadow R u p
  clear_fits u p low high clear = record {
    low = low;
    high = omega (arith, laid.of_shadow);
    free = λ g from below.
        laid.of_none g (omega arith)
        (λ j h. ⊎_elim {C = Off table j g} (λ left. inr (omega arith)) (λ right. inl (omega arith)) (clear j h));
  }

  -- ---- a grant of s bytes at p, into row i

  module _ (i s p : ℕ) (below : i < rows table) (is_empty : state table i ≡ empty) (sized : 0 < s)
      (fits : Fits shadow R (granules s) p) where
    not_held : HeldRow table i → ⊥
    not_held h = ⊎_elim {C = ⊥} (λ is. omega arith) (λ is. omega arith) h.has

    own : (k : ℕ) → k < row_numbers
        → column k (put_row table i (granted_row p s)) i ≡ get_or (numbers (granted_row p s)) k 0
    own k in_row = column_put_row table i (granted_row p s) below k in_row

    inside : p + length (granted s) ≤ length shadow
    inside = omega (arith, fits.high, length_granted s)

    pub laid_grant : Laid S R (put shadow p (granted s)) (put_row table i (granted_row p s))
    laid_grant =
        laid_repainted {lo = p} {hi = p + granules s} laid
        (record {
          below = below;
          same_rows = rows_same (put_row table i (granted_row p s)) table
              (length_put_row table i (granted_row p s) below);
          same_length = length_put shadow p (granted s) inside;
          other = λ k j in_row no_turn other. column_put_row_other table i (granted_row p s) below k j in_row other;
          other_turn =
              λ j in_rows other was. column_put_row_other table i (granted_row p s) below turn_column j
              (omega arith) other ∙ was;
          beside =
              λ g beside.
              ⊎_elim
              (λ left. put_before shadow p (granted s) g 0 (omega (arith, inside)) left)
              (λ right. put_after shadow p (granted s) g 0 (omega (arith, inside)) (omega (arith, length_granted s)))
              beside;
          clear = λ j other h. fits_clear (granules s) p (granules_above s sized) fits j h;
          before = λ h. absurd (not_held h);
          states = inr (inl (own state_column (omega arith)));
          zeros = λ is. absurd (omega (arith, own state_column (omega arith)));
          live_turn = λ is. own turn_column (omega arith);
          after = λ h. (
            own start_column (omega arith),
            ap₂ (λ a b. a + granules b) (own start_column (omega arith)) (own size_column (omega arith)),
            omega (arith, own size_column (omega arith)),
            fits.low,
            omega (arith, fits.high, laid.of_shadow),
          );
          of_live =
              λ is k in_block.
              let in_block' : k < granules s = subst (λ b. k < granules b) (own size_column (omega arith)) in_block in
              ap (λ a. get_or (put shadow p (granted s)) (a + k) 0) (own start_column (omega arith))
              ∙ put_in shadow p (granted s) k 0 (omega (arith, inside)) (omega (arith, length_granted s))
              ∙ ap (λ b. get_or (granted b) k 0) (sym (own size_column (omega arith)));
          of_quarantined = λ is. absurd (omega (arith, own state_column (omega arith)));
          of_none = λ is. absurd (omega (arith, own state_column (omega arith)));
        })

-- ---- a row's granules repainted

module _ {S R : ℕ} (pool : Pool) (laid : Laid S R pool.shadow pool.table) (i : ℕ)
    (h : HeldRow pool.table i) where
  clear_of : (j : ℕ) → j ≢ i → HeldRow pool.table j
      → (ends pool.table j + R ≤ start pool.table i) ⊎ (ends pool.table i + R ≤ start pool.table j)
  clear_of j other held = laid.apart j i held h other

  in_arena : (g : ℕ) → g < ends pool.table i → g < length pool.shadow
  in_arena g below = omega (arith, laid.high i h, laid.of_shadow)

  -- row i becomes quarantined
  pub laid_quarantine : Laid S R (quarantine_row pool i).shadow (quarantine_row pool i).table
  unfolding quarantine_row
  laid_quarantine =
      let after : List ℕ = (quarantine_row pool i).table in
      let now_is : state after i ≡ quarantined = quarantine_row_state pool i h.below in
      let same_start : start after i ≡ start pool.table i =
      quarantine_row_own pool i h.below start_column (omega arith) (omega arith) (omega arith) in
      let same_size : size after i ≡ size pool.table i =
      quarantine_row_own pool i h.below size_column (omega arith) (omega arith) (omega arith) in
      laid_repainted {lo = start pool.table i} {hi = ends pool.table i} laid
      (record {
        below = h.below;
        same_rows = rows_same after pool.table (quarantine_row_lengths pool i h.below).1;
        same_length = (quarantine_row_lengths pool i h.below).0;
        other = λ k j in_row no_turn other. quarantine_row_other pool i h.below k j in_row other;
        other_turn = λ j in_rows other was. quarantine_row_other pool i h.below turn_column j (omega arith) other
            ∙ was;
        beside =
            λ g beside.
            ⊎_elim (λ left. paint_row_before pool i released_byte g left)
            (λ right. paint_row_after pool i released_byte g right) beside;
        clear = clear_of;
        before = λ held. (refl, refl);
        states = inr (inr now_is);
        zeros = λ is. absurd (omega (arith, now_is));
        live_turn = λ is. absurd (omega (arith, now_is));
        after = λ held. (
          same_start,
          ap₂ (λ a b. a + granules b) same_start same_size,
          omega (arith, same_size, laid.sized i h),
          laid.low i h,
          laid.high i h,
        );
        of_live = λ is. absurd (omega (arith, now_is));
        of_quarantined = λ is g from below. paint_row_in pool i released_byte g from below (in_arena g below);
        of_none = λ is. absurd (omega (arith, now_is));
      })

  -- row i is evicted
  pub laid_evict : Laid S R (evict_row pool i).shadow (evict_row pool i).table
  laid_evict =
      let emptied : (k : ℕ) → k < row_numbers → column k (evict_row pool i).table i ≡ 0 =
      evict_row_empty pool i h.below in
      let not_now : HeldRow (evict_row pool i).table i → ⊥ =
      λ held. ⊎_elim {C = ⊥} (λ is. omega (arith, emptied state_column (omega arith)))
      (λ is. omega (arith, emptied state_column (omega arith))) held.has in
      laid_repainted {lo = start pool.table i} {hi = ends pool.table i} laid
      (record {
        below = h.below;
        same_rows = evict_row_rows pool i h.below;
        same_length = ap length (evict_row_shadow pool i) ∙ paint_row_length pool i redzone_byte;
        other = λ k j in_row no_turn other. evict_row_other pool i h.below k j in_row no_turn other;
        other_turn = λ j in_rows other was. omega (arith, evict_row_turn pool i h.below j in_rows other);
        beside =
            λ g beside.
            ap (λ l. get_or l g 0) (evict_row_shadow pool i)
            ∙ ⊎_elim (λ left. paint_row_before pool i redzone_byte g left)
            (λ right. paint_row_after pool i redzone_byte g right) beside;
        clear = clear_of;
        before = λ held. (refl, refl);
        states = inl (emptied state_column (omega arith));
        zeros = λ is. emptied;
        live_turn = λ is. emptied turn_column (omega arith);
        after = λ held. absurd (not_now held);
        of_live = λ is. absurd (omega (arith, emptied state_column (omega arith)));
        of_quarantined = λ is. absurd (omega (arith, emptied state_column (omega arith)));
        of_none =
            λ is g from below in_arena·.
            ap (λ l. get_or l g 0) (evict_row_shadow pool i)
            ∙ paint_row_in pool i redzone_byte g from below (in_arena g below);
      })
