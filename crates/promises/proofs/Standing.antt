-- What stands: the live rows of a table are the live blocks of a history, and so many rows are in use; kept by a grant,
-- by a row that becomes quarantined and by every eviction. Assumes nothing.
use Prim.Native.Nat.{ℕ, zero, suc, ◌+◌, ◌*◌, ◌≤◌, ◌<◌}
use native.Mathlib.Decide.{ℕ_discrete}
use native.Mathlib.Omega.{arith}
use mathlib.Core.Path.{◌≡◌, refl, sym, ap, ap₂, ◌∙◌}
use mathlib.Core.Logic.{◌≢◌, inl, inr, ⊎_elim}
use mathlib.Core.Bool.{true, false}
use mathlib.Core.List.Memᴰ
use mathlib.Core.List.{List, [], ◌∷◌}
use lib.ListN.{length, get_or}
use lib.Dec.{eqb}
use borrow.Author.Tests.{eqb-true, eq-eqb, ne_eqb}
use Rattle.rules.specs.Limits.{granule, start_column, size_column, state_column, turn_column, row_numbers}
use Rattle.rules.specs.Limits.{empty, live, quarantined}
use Rattle.rules.specs.Lowest.{total, total_zero, total_suc}
use Rattle.rules.specs.Put.{put}
use Rattle.rules.specs.Table.{rows, column, start, size, state, is_empty, numbers, put_row}
use Rattle.rules.specs.Grant.{granules, granted, granted_row, Fits}
use Rattle.rules.specs.Release.{Pool, if_quarantined, in_quarantine, evict_row, quarantine_row, settle}
use Rattle.rules.proofs.Tests.{by_order, if_true, if_false}
use Rattle.rules.proofs.Lowest.{total_same, total_change, total_most}
use Rattle.rules.proofs.Table.{rows_same, length_put_row, column_put_row, column_put_row_other}
use Rattle.rules.proofs.Grant.{granules_above}
use Rattle.rules.proofs.Release.{Oldest, if_quarantined_no, if_quarantined_same, settled_has}
use Rattle.rules.proofs.Release.{evict_row_rows, evict_row_empty, evict_row_other, evict_row_count}
use Rattle.rules.proofs.Release.{quarantine_row_lengths, quarantine_row_state, quarantine_row_other, quarantine_row_sum}
use Rattle.promises.specs.History.{Block, block, others}
use Rattle.promises.specs.Rows.{◌∈◌, Distinct, HeldRow, block_of, RowOf, use_of, in_use}
use Rattle.promises.proofs.Blocks.{distinct_nil, distinct_cons, distinct_others, others_of, others_in}
use Rattle.promises.proofs.Blocks.{length_others}
use Rattle.promises.proofs.Laid.{Laid, each_row, block_of_same}
use Rattle.promises.proofs.Kept.{fits_clear, laid_grant, laid_quarantine, laid_evict}

-- ---- the rows in use

use_empty : (table : List ℕ) (i : ℕ) → state table i ≡ empty → use_of table i ≡ 0
unfolding use_of
use_empty table i is = if_true _ _ (eq-eqb (state table i) empty is)

use_other : (table : List ℕ) (i : ℕ) → state table i ≢ empty → use_of table i ≡ 1
unfolding use_of
use_other table i other = if_false _ _ (ne_eqb (state table i) empty other)

use_same : (table table' : List ℕ) (i : ℕ) → state table i ≡ state table' i → use_of table i ≡ use_of table' i
unfolding use_of
use_same table table' i same = ap {B = ℕ} (λ (s : ℕ). elim (eqb s empty) as (λ _. ℕ) [ true ↦ 0 | false ↦ 1 ]) same

-- two tables that differ at one row
use_change : (table table' : List ℕ) (i : ℕ) → i < rows table → rows table' ≡ rows table
    → ((j : ℕ) → j ≢ i → state table' j ≡ state table j)
    → in_use table + use_of table' i ≡ in_use table' + use_of table i
unfolding in_use
use_change table table' i below same_rows same =
    total_change (use_of table) (use_of table') (rows table) i below
    (λ j other. sym (use_same table' table j (same j other)))
    ∙ ap (λ n. total (use_of table') n + use_of table i) (sym same_rows)

-- all are in use where none is empty, and fewer where one is
ones : (f : ℕ → ℕ) (n : ℕ) → ((j : ℕ) → j < n → f j ≡ 1) → total f n ≡ n
ones f zero one = total_zero f
ones f (suc n) one = omega (arith, total_suc f n, ones f n (λ j below. one j (omega arith)), one n (omega arith))

one_short : (f : ℕ → ℕ) (n k : ℕ) → ((j : ℕ) → f j ≤ 1) → k < n → f k ≡ 0 → total f n < n
one_short f zero k most below is = absurd (omega arith)
one_short f (suc n) k most below is =
    by_order k n
    (λ less. omega (arith, total_suc f n, one_short f n k most less is, most n))
    (λ more.
    let last : k ≡ n = omega arith in
    omega (arith, total_suc f n, ap f last, total_most f 1 n (λ j b. most j)))

use_most : (table : List ℕ) (j : ℕ) → use_of table j ≤ 1
use_most table j =
    elim (ℕ_discrete (state table j) empty) [
      | yes is ↦ omega (arith, use_empty table j is)
      | no other ↦ omega (arith, use_other table j other)
    ]

pub in_use_none : (table : List ℕ) → ((i : ℕ) → i < rows table → state table i ≡ empty) → in_use table ≡ 0
unfolding in_use
in_use_none table empties =
    omega
    (arith, total_most (use_of table) 0 (rows table) (λ j below. omega (arith, use_empty table j (empties j below))))

pub in_use_all : (table : List ℕ) → ((i : ℕ) → i < rows table → state table i ≢ empty) → in_use table ≡ rows table
unfolding in_use
in_use_all table none· = ones (use_of table) (rows table) (λ j below. use_other table j (none· j below))

pub in_use_fewer : (table : List ℕ) (i : ℕ) → i < rows table → state table i ≡ empty → in_use table < rows table
unfolding in_use
in_use_fewer table i below is = one_short (use_of table) (rows table) i (use_most table) below (use_empty table i is)

-- the quarantined rows are as many where no row enters or leaves the quarantine
in_quarantine_same : (table table' : List ℕ) (i : ℕ) → rows table' ≡ rows table
    → ((j : ℕ) → j ≢ i → state table' j ≡ state table j)
    → state table i ≢ quarantined → state table' i ≢ quarantined → in_quarantine table' ≡ in_quarantine table
unfolding in_quarantine
in_quarantine_same table table' i same_rows same not_was not_now =
    total_same (if_quarantined table' (λ _. 1)) (if_quarantined table (λ _. 1)) (rows table')
    (λ j below.
    each_row i (λ k. if_quarantined table' (λ _. 1) k ≡ if_quarantined table (λ _. 1) k)
    (if_quarantined_no table' (λ _. 1) i (ne_eqb (state table' i) quarantined not_now)
    ∙ sym (if_quarantined_no table (λ _. 1) i (ne_eqb (state table i) quarantined not_was)))
    (λ k differ. if_quarantined_same table' table (λ _. 1) (λ _. 1) k (same k differ) refl) j)
    ∙ ap (total (if_quarantined table (λ _. 1))) same_rows

-- ---- live rows and live blocks

pub record LiveRows (table : List ℕ) (blocks : List Block) : Type 0 where
  pub row : (x : Block) → x ∈ blocks → RowOf table live x
  pub listed : (i : ℕ) → i < rows table → state table i ≡ live → block_of table i ∈ blocks
  pub distinct : Distinct blocks

pub live_none : (table : List ℕ) → ((i : ℕ) → i < rows table → state table i ≢ live) → LiveRows table []
live_none table none· = record {
  row = λ x m. absurd (Memᴰ.not-nil m);
  listed = λ i below is. absurd (none· i below is);
  distinct = distinct_nil;
}

-- a live row is put
live_put : (table : List ℕ) (blocks : List Block) (i p s : ℕ) → i < rows table → state table i ≢ live
    → ((x : Block) → x ∈ blocks → x.address ≢ granule * p)
    → LiveRows table blocks → LiveRows (put_row table i (granted_row p s)) (block (granule * p) s ∷ blocks)
live_put table blocks i p s below not_live new lives =
    let table' : List ℕ = put_row table i (granted_row p s) in
    let same_rows : rows table' ≡ rows table =
    rows_same table' table (length_put_row table i (granted_row p s) below) in
    let own : (k : ℕ) → k < row_numbers → column k table' i ≡ get_or (numbers (granted_row p s)) k 0 =
    column_put_row table i (granted_row p s) below in
    let other : (k j : ℕ) → k < row_numbers → j ≢ i → column k table' j ≡ column k table j =
    column_put_row_other table i (granted_row p s) below in
    let own_block : block_of table' i ≡ block (granule * p) s =
    ap₂ (λ a b. block (granule * a) b) (own start_column (omega arith)) (own size_column (omega arith)) in
    let same_block : (j : ℕ) → j ≢ i → block_of table' j ≡ block_of table j =
    λ j differ. block_of_same table' table j (other start_column j (omega arith) differ)
    (other size_column j (omega arith) differ) in
    record {
      row = λ x m.
          ⊎_elim
          (λ e. (i, omega (arith, same_rows), own state_column (omega arith), own_block ∙ sym e))
          (λ later.
          let was : RowOf table live x = lives.row x later in
          let differ : was.0 ≢ i = λ e. not_live (ap (state table) (sym e) ∙ was.2) in (
            was.0,
            omega (arith, same_rows, was.1),
            other state_column was.0 (omega arith) differ
                ∙ was.2,
            same_block was.0 differ ∙ was.3,
          ))
          (Memᴰ.cases_cons m);
      listed =
          each_row i (λ j. j < rows table' → state table' j ≡ live → block_of table' j
          ∈ (block (granule * p) s ∷ blocks))
          (λ b is. Memᴰ.head own_block)
          (λ j differ b is.
          Memᴰ.tail
          (Memᴰ.cast (same_block j differ)
          (lives.listed j (omega (arith, same_rows)) (sym (other state_column j (omega arith) differ) ∙ is))));
      distinct = distinct_cons (block (granule * p) s) blocks new lives.distinct;
    }

-- row i changes: every other row keeps its numbers, the turn apart
module _ (table table' : List ℕ) (i : ℕ) (same_rows : rows table' ≡ rows table)
    (other : (k j : ℕ) → k < row_numbers → k ≢ turn_column → j ≢ i → column k table' j ≡ column k table j)
    (not_now : state table' i ≢ live) (blocks : List Block) where
  same_block : (j : ℕ) → j ≢ i → block_of table' j ≡ block_of table j
  same_block j differ =
      block_of_same table' table j (other start_column j (omega arith) (omega arith) differ)
      (other size_column j (omega arith) (omega arith) differ)

  -- it was not live, nor is it now
  live_other : state table i ≢ live → LiveRows table blocks → LiveRows table' blocks
  live_other not_live lives = record {
    row = λ x m.
        let was : RowOf table live x = lives.row x m in
        let differ : was.0 ≢ i = λ e. not_live (ap (state table) (sym e) ∙ was.2) in (
          was.0,
          omega (arith, same_rows, was.1),
          other state_column was.0 (omega arith) (omega arith) differ
              ∙ was.2,
          same_block was.0 differ ∙ was.3,
        );
    listed =
        each_row i (λ j. j < rows table' → state table' j ≡ live → block_of table' j ∈ blocks)
        (λ b is. absurd (not_now is))
        (λ j differ b is.
        Memᴰ.cast (same_block j differ)
        (lives.listed j (omega (arith, same_rows))
        (sym (other state_column j (omega arith) (omega arith) differ) ∙ is)));
    distinct = lives.distinct;
  }

  -- it was the one at a that was live, and is so no more
  live_leaves : (a : ℕ) → granule * start table i ≡ a
      → ((j : ℕ) → j < rows table → j ≢ i → state table j ≡ live → granule * start table j ≢ a)
      → LiveRows table blocks → LiveRows table' (others a blocks)
  live_leaves a at_a only lives = record {
    row = λ x m.
        let was : RowOf table live x = lives.row x (others_of a blocks x m).0 in
        let differ : was.0 ≢ i =
        λ e. (others_of a blocks x m).1
        (ap (λ y. y.address) (sym was.3) ∙ ap (λ j. granule * start table j) e ∙ at_a) in (
          was.0,
          omega (arith, same_rows, was.1),
          other state_column was.0 (omega arith) (omega arith) differ
              ∙ was.2,
          same_block was.0 differ ∙ was.3,
        );
    listed =
        each_row i (λ j. j < rows table' → state table' j ≡ live → block_of table' j ∈ others a blocks)
        (λ b is. absurd (not_now is))
        (λ j differ b is.
        let in_rows : j < rows table = omega (arith, same_rows) in
        let was : state table j ≡ live = sym (other state_column j (omega arith) (omega arith) differ) ∙ is in
        Memᴰ.cast (same_block j differ)
        (others_in a blocks (block_of table j) (lives.listed j in_rows was) (only j in_rows differ was)));
    distinct = distinct_others a blocks lives.distinct;
  }

-- ---- what stands

pub record Standing (S R : ℕ) (shadow table : List ℕ) (blocks : List Block) : Type 0 where
  pub laid : Laid S R shadow table
  pub lives : LiveRows table blocks
  pub used : in_use table ≡ length blocks + in_quarantine table

-- two held rows do not start at one granule
starts_apart : {S R : ℕ} {shadow table : List ℕ} → Laid S R shadow table → (i j : ℕ) → HeldRow table i → HeldRow table j
    → i ≢ j → start table i ≢ start table j
starts_apart {R = R} {table = table} laid i j h h' differ same =
    let sized : 0 < size table i = laid.sized i h in
    let sized' : 0 < size table j = laid.sized j h' in
    ⊎_elim {C = ⊥}
    (λ left. omega (arith, granules_above (size table i) sized))
    (λ right. omega (arith, granules_above (size table j) sized'))
    (laid.apart i j h h' differ)

module _ {S R : ℕ} {shadow table : List ℕ} {blocks : List Block} (standing : Standing S R shadow table blocks) where
  -- a grant of s bytes at p, into row i
  pub standing_grant : (i s p : ℕ) → i < rows table → state table i ≡ empty → 0 < s → Fits shadow R (granules s) p
      → Standing S R (put shadow p (granted s)) (put_row table i (granted_row p s)) (block (granule * p) s ∷ blocks)
  standing_grant i s p below is_empty sized fits =
      let table' : List ℕ = put_row table i (granted_row p s) in
      let laid : Laid S R shadow table = standing.laid in
      let same_rows : rows table' ≡ rows table =
      rows_same table' table (length_put_row table i (granted_row p s) below) in
      let other : (k j : ℕ) → k < row_numbers → j ≢ i → column k table' j ≡ column k table j =
      column_put_row_other table i (granted_row p s) below in
      let is_live : state table' i ≡ live = column_put_row table i (granted_row p s) below state_column (omega arith) in
      let change : in_use table + use_of table' i ≡ in_use table' + use_of table i =
      use_change table table' i below same_rows (λ j differ. other state_column j (omega arith) differ) in
      let now : use_of table' i ≡ 1 = use_other table' i (λ e. absurd (omega arith)) in
      let was : use_of table i ≡ 0 = use_empty table i is_empty in
      record {
        laid = laid_grant laid i s p below is_empty sized fits;
        lives =
            live_put table blocks i p s below (λ e. absurd (omega arith))
            (λ x m e.
            let row : RowOf table live x = standing.lives.row x m in
            let h : HeldRow table row.0 = record { below = row.1; has = inl row.2 } in
            let at : granule * start table row.0 ≡ granule * p = ap (λ y. y.address) row.3 ∙ e in
            ⊎_elim {C = ⊥}
            (λ left. omega (arith, granules_above (size table row.0) (laid.sized row.0 h)))
            (λ right. omega (arith, granules_above s sized))
            (fits_clear laid (granules s) p (granules_above s sized) fits row.0 h))
            standing.lives;
        used =
            let same : in_quarantine table' ≡ in_quarantine table =
            in_quarantine_same table table' i same_rows (λ j differ. other state_column j (omega arith) differ)
            (λ e. absurd (omega arith)) (λ e. absurd (omega arith)) in
            omega (arith, standing.used);
      }

module _ {S R : ℕ} (pool : Pool) where
  -- live row i, at a, becomes quarantined
  pub standing_quarantine : {blocks : List Block} → Standing S R pool.shadow pool.table blocks
      → (i a : ℕ) → i < rows pool.table → state pool.table i ≡ live → granule * start pool.table i ≡ a
      → Standing S R (quarantine_row pool i).shadow (quarantine_row pool i).table (others a blocks)
  unfolding in_quarantine
  standing_quarantine {blocks} standing i a below is at_a =
      let table : List ℕ = pool.table in
      let table' : List ℕ = (quarantine_row pool i).table in
      let h : HeldRow table i = record { below = below; has = inl is } in
      let same_rows : rows table' ≡ rows table = rows_same table' table (quarantine_row_lengths pool i below).1 in
      let other : (k j : ℕ) → k < row_numbers → k ≢ turn_column → j ≢ i → column k table' j ≡ column k table j =
      λ k j in_row no_turn differ. quarantine_row_other pool i below k j in_row differ in
      let now_is : state table' i ≡ quarantined = quarantine_row_state pool i below in
      let listed : block_of table i ∈ blocks = standing.lives.listed i below is in
      let change : in_use table + use_of table' i ≡ in_use table' + use_of table i =
      use_change table table' i below same_rows (λ j differ. other state_column j (omega arith) (omega arith) differ) in
      let now : use_of table' i ≡ 1 = use_other table' i (λ e. absurd (omega arith)) in
      let was : use_of table i ≡ 1 = use_other table i (λ e. absurd (omega arith)) in
      record {
        laid = laid_quarantine pool standing.laid i h;
        lives =
            live_leaves table table' i same_rows other (λ e. absurd (omega arith)) blocks a at_a
            (λ j in_rows differ live·.
            λ e.
            starts_apart standing.laid j i (record { below = in_rows; has = inl live· }) h differ (omega arith))
            standing.lives;
        used =
            omega (
              arith,
              standing.used,
              length_others a blocks (block_of table i) standing.lives.distinct listed at_a,
              quarantine_row_sum pool i below (λ _. 1) (ne_eqb (state table i) quarantined (λ e. absurd (omega arith))),
            );
      }

  -- the oldest is evicted
  standing_evict : {blocks : List Block} (i : ℕ) → Oldest pool.table (rows pool.table) i
      → Standing S R pool.shadow pool.table blocks
      → Standing S R (evict_row pool i).shadow (evict_row pool i).table blocks
  standing_evict {blocks} i oldest standing =
      let table : List ℕ = pool.table in
      let table' : List ℕ = (evict_row pool i).table in
      let below : i < rows table = oldest.below in
      let is : state table i ≡ quarantined = eqb-true (state table i) quarantined oldest.held in
      let now_is : state table' i ≡ empty = evict_row_empty pool i below state_column (omega arith) in
      let change : in_use table + use_of table' i ≡ in_use table' + use_of table i =
      use_change table table' i below (evict_row_rows pool i below)
      (λ j differ. evict_row_other pool i below state_column j (omega arith) (omega arith) differ) in
      let now : use_of table' i ≡ 0 = use_empty table' i now_is in
      let was : use_of table i ≡ 1 = use_other table i (λ e. absurd (omega arith)) in
      record {
        laid = laid_evict pool standing.laid i (record { below = below; has = inr is });
        lives =
            live_other table table' i (evict_row_rows pool i below) (evict_row_other pool i below)
            (λ e. absurd (omega arith)) blocks
            (λ e. absurd (omega arith)) standing.lives;
        used = omega (arith, standing.used, evict_row_count pool i below oldest.held);
      }

-- and so all evictions
pub standing_settle : {S R : ℕ} (Q : ℕ) (pool : Pool) {blocks : List Block}
    → Standing S R pool.shadow pool.table blocks
    → Standing S R (settle R Q pool).pool.shadow (settle R Q pool).pool.table blocks
standing_settle {S} {R} Q pool {blocks} =
    settled_has R Q (λ p. Standing S R p.shadow p.table blocks)
    (λ p i oldest standing. standing_evict p i oldest standing) pool
