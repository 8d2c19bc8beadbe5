-- The laws of the quarantine as a queue: the quarantined rows of a table are a list of blocks, the latest first; a
-- release adds one in front, an eviction takes the last, and once all evictions are done they are the longest run of
-- the latest. Assumes nothing.
use Prim.Native.Nat.{ℕ, suc, ◌+◌, ◌-◌, ◌≤◌, ◌<◌}
use native.Mathlib.Numerals.{add-one}
use native.Mathlib.Decide.{ℕ_discrete}
use native.Mathlib.Omega.{arith}
use mathlib.Core.Path.{◌≡◌, sym, ap, subst, ◌∙◌}
use mathlib.Core.Logic.{◌≢◌}
use mathlib.Core.Bool.{false}
use mathlib.Core.Option.{some, some-injective}
use mathlib.Core.List.{List, [], ◌∷◌, ◌++◌}
use lib.ListN.{length, get_elem?, length-append}
use borrow.Author.Tests.{eqb-true, eq-eqb, ne_eqb}
use Rattle.std.specs.Prelude.{Some}
use Rattle.rules.specs.Limits.{start_column, size_column, state_column, turn_column, row_numbers, live, quarantined}
use Rattle.rules.specs.Lowest.{total}
use Rattle.rules.specs.Table.{rows, column, size, state, turn, is_quarantined, put_row}
use Rattle.rules.specs.Grant.{granted_row}
use Rattle.rules.specs.Release.{if_quarantined, in_quarantine, weight, weights, Pool, oldest, evict_row, evict_oldest}
use Rattle.rules.specs.Release.{settle, quarantine_row}
use Rattle.rules.proofs.Tests.{by_order}
use Rattle.rules.proofs.Lowest.{total_same, total_most}
use Rattle.rules.proofs.Table.{rows_same, length_put_row, column_put_row, column_put_row_other}
use Rattle.rules.proofs.Release.{Oldest, oldest_some, some_oldest, if_quarantined_no, if_quarantined_same}
use Rattle.rules.proofs.Release.{evict_row_rows, evict_row_empty, evict_row_other, evict_row_turn, evict_row_count}
use Rattle.rules.proofs.Release.{evict_row_weights, evict_oldest_is, settle_done, settle_more, by_evictions}
use Rattle.rules.proofs.Release.{quarantine_row_lengths, quarantine_row_state, quarantine_row_turn, quarantine_row_own}
use Rattle.rules.proofs.Release.{quarantine_row_other, quarantine_row_sum, quarantine_row_weights}
use Rattle.promises.specs.History.{Block, weigh, latest}
use Rattle.promises.specs.Rows.{◌∈◌, block_of, RowOf}
use Rattle.promises.proofs.Laid.{block_of_same}
use Rattle.promises.proofs.Latest.{weigh_nil, weigh_cons, weigh_append, latest_all, latest_last, place_before}
use Rattle.promises.proofs.Latest.{place_last, place_in, in_place}

-- the quarantined rows are these blocks: as many, of the same weight, each at the place that its turn says, and each
-- turn once
pub record Queue (R : ℕ) (table : List ℕ) (blocks : List Block) : Type 0 where
  pub count : in_quarantine table ≡ length blocks
  pub weighed : weights R table ≡ weigh R blocks
  pub order : (i : ℕ) → i < rows table → state table i ≡ quarantined
      → (0 < turn table i) × (turn table i ≤ length blocks) ×
      (get_elem? blocks (length blocks - turn table i) ≡ some (block_of table i))
  pub every_turn : (t : ℕ) → 0 < t → t ≤ length blocks
      → (i : ℕ) × (i < rows table) × (state table i ≡ quarantined) × (turn table i ≡ t)
  pub once : (i j : ℕ) → i < rows table → j < rows table → state table i ≡ quarantined → state table j ≡ quarantined
      → turn table i ≡ turn table j → i ≡ j

-- y stands at the place of turn t
abbrev Placed : List Block → ℕ → Block → Type 0
Placed blocks t y = (0 < t) × (t ≤ length blocks) × (get_elem? blocks (length blocks - t) ≡ some y)

-- a quarantined row has turn t
abbrev HasTurn : List ℕ → ℕ → Type 0
HasTurn table t = (i : ℕ) × (i < rows table) × (state table i ≡ quarantined) × (turn table i ≡ t)

-- ---- none

-- where no row is quarantined, what is summed over them is 0
none_summed : (table : List ℕ) (f : ℕ → ℕ) → ((i : ℕ) → i < rows table → state table i ≢ quarantined)
    → total (if_quarantined table f) (rows table) ≡ 0
none_summed table f no_row =
    omega (
      arith,
      total_most (if_quarantined table f) 0 (rows table)
          (λ j below. omega (arith, if_quarantined_no table f j (ne_eqb (state table j) quarantined (no_row j below)))),
    )

-- where no row is quarantined, there is no block
pub queue_none : (R : ℕ) (table : List ℕ) → ((i : ℕ) → i < rows table → state table i ≢ quarantined) → Queue R table []
unfolding in_quarantine weights
queue_none R table no_row = record {
  count = none_summed table (λ _. 1) no_row;
  weighed = none_summed table (λ j. weight R (size table j)) no_row ∙ sym (weigh_nil R);
  order = λ i below held. absurd (no_row i below held);
  every_turn = λ t above upto. absurd (omega arith);
  once = λ i j below below' held held' same. absurd (no_row i below held);
}

-- ---- a live row is put

module _ (R : ℕ) (table : List ℕ) (blocks : List Block) (i p s : ℕ) (below : i < rows table)
    (apart : state table i ≢ quarantined) where
  -- no quarantined row is the one that was put
  put_apart : (j : ℕ) → state (put_row table i (granted_row p s)) j ≡ quarantined → j ≢ i
  put_apart j held same =
      let own : state (put_row table i (granted_row p s)) i ≡ live =
      column_put_row table i (granted_row p s) below state_column (omega arith) in
      let held_own : state (put_row table i (granted_row p s)) i ≡ quarantined =
      ap (state (put_row table i (granted_row p s))) (sym same) ∙ held in
      omega arith

  put_rows : rows (put_row table i (granted_row p s)) ≡ rows table
  put_rows = rows_same (put_row table i (granted_row p s)) table (length_put_row table i (granted_row p s) below)

  -- what is summed over the quarantined rows stays
  put_summed : (f : ℕ → ℕ)
      → total (if_quarantined (put_row table i (granted_row p s)) (λ j. f (size (put_row table i (granted_row p s)) j)))
      (rows (put_row table i (granted_row p s)))
      ≡ total (if_quarantined table (λ j. f (size table j))) (rows table)
  put_summed f =
      let other : List ℕ = put_row table i (granted_row p s) in
      ap (total (if_quarantined other (λ j. f (size other j)))) put_rows
      ∙ total_same (if_quarantined other (λ j. f (size other j))) (if_quarantined table (λ j. f (size table j)))
      (rows table)
      (λ j in_rows.
      elim (ℕ_discrete j i) [
        | yes same ↦
            if_quarantined_no other (λ k. f (size other k)) j
            (ne_eqb (state other j) quarantined (λ held. put_apart j held same))
            ∙ sym
            (if_quarantined_no table (λ k. f (size table k)) j
            (ne_eqb (state table j) quarantined (λ held. apart (ap (state table) (sym same) ∙ held))))
        | no unlike ↦
            if_quarantined_same other table (λ k. f (size other k)) (λ k. f (size table k)) j
            (column_put_row_other table i (granted_row p s) below state_column j (omega arith) unlike)
            (ap f (column_put_row_other table i (granted_row p s) below size_column j (omega arith) unlike))
      ])

  -- a live row put where none was quarantined
  pub queue_put : Queue R table blocks → Queue R (put_row table i (granted_row p s)) blocks
  unfolding in_quarantine weights
  queue_put q =
      let other : List ℕ = put_row table i (granted_row p s) in
      let as_it_was : (k j : ℕ) → k < row_numbers → j ≢ i → column k other j ≡ column k table j =
      column_put_row_other table i (granted_row p s) below in
      let before : (j : ℕ) → state other j ≡ quarantined → state table j ≡ quarantined =
      λ j held. sym (as_it_was state_column j (omega arith) (put_apart j held)) ∙ held in
      let same_turn : (j : ℕ) → state other j ≡ quarantined → turn other j ≡ turn table j =
      λ j held. as_it_was turn_column j (omega arith) (put_apart j held) in
      record {
        count = put_summed (λ _. 1) ∙ q.count;
        weighed = put_summed (weight R) ∙ q.weighed;
        order =
            λ j in_rows held.
            let unlike : j ≢ i = put_apart j held in
            let same : block_of other j ≡ block_of table j =
            block_of_same other table j (as_it_was start_column j (omega arith) unlike)
            (as_it_was size_column j (omega arith) unlike) in
            subst (λ t. Placed blocks t (block_of other j)) (sym (same_turn j held))
            (subst (Placed blocks (turn table j)) (sym same) (q.order j (omega (arith, put_rows)) (before j held)));
        every_turn =
            λ t above upto.
            let old : HasTurn table t = q.every_turn t above upto in
            let unlike : old.0 ≢ i = λ same. apart (ap (state table) (sym same) ∙ old.2) in (
              old.0,
              omega (arith, put_rows, old.1),
              as_it_was state_column old.0 (omega arith) unlike ∙ old.2,
              as_it_was turn_column old.0 (omega arith) unlike ∙ old.3,
            );
        once =
            λ j k in_rows in_rows' held held' same.
            q.once j k (omega (arith, put_rows)) (omega (arith, put_rows)) (before j held) (before k held')
            (sym (same_turn j held) ∙ same ∙ same_turn k held');
      }

-- ---- a live row becomes quarantined

module _ (R : ℕ) (pool : Pool) (blocks : List Block) (i : ℕ) (below : i < rows pool.table)
    (has : state pool.table i ≡ live) where
  quarantine_rows : rows (quarantine_row pool i).table ≡ rows pool.table
  quarantine_rows = rows_same (quarantine_row pool i).table pool.table (quarantine_row_lengths pool i below).1

  not_yet : is_quarantined pool.table i ≡ false
  not_yet = ne_eqb (state pool.table i) quarantined (λ held. absurd (omega arith))

  -- one more is quarantined
  quarantine_count : in_quarantine (quarantine_row pool i).table ≡ in_quarantine pool.table + 1
  unfolding in_quarantine
  quarantine_count = quarantine_row_sum pool i below (λ _. 1) not_yet

  -- it is the latest
  pub queue_quarantine : Queue R pool.table blocks
      → Queue R (quarantine_row pool i).table (block_of pool.table i ∷ blocks)
  queue_quarantine q =
      let table : List ℕ = pool.table in
      let other : List ℕ = (quarantine_row pool i).table in
      let x : Block = block_of table i in
      let as_it_was : (k j : ℕ) → k < row_numbers → j ≢ i → column k other j ≡ column k table j =
      quarantine_row_other pool i below in
      let own_turn : turn other i ≡ in_quarantine table + 1 = quarantine_row_turn pool i below in
      let last_turn : turn other i ≡ suc (length blocks) = omega (arith, q.count) in
      let before : (j : ℕ) → j ≢ i → state other j ≡ quarantined → state table j ≡ quarantined =
      λ j unlike held. sym (as_it_was state_column j (omega arith) unlike) ∙ held in
      let old_turn : (j : ℕ) → j ≢ i → j < rows other → state other j ≡ quarantined → turn other j ≤ length blocks =
      λ j unlike in_rows held.
      omega (
        arith,
        as_it_was turn_column j (omega arith) unlike,
        (q.order j (omega (arith, quarantine_rows))
            (before j unlike held)).1,
      ) in
      record {
        count = quarantine_count ∙ ap (λ n. n + 1) q.count ∙ add-one (length blocks);
        weighed = omega (arith, quarantine_row_weights pool i below R not_yet, q.weighed, weigh_cons R x blocks);
        order =
            λ j in_rows held.
            elim (ℕ_discrete j i) [
              | yes same ↦
                  let in_front : suc (length blocks) - suc (length blocks) ≡ 0 = omega arith in
                  let own_block : block_of other i ≡ x =
                  block_of_same other table i
                  (quarantine_row_own pool i below start_column (omega arith) (omega arith) (omega arith))
                  (quarantine_row_own pool i below size_column (omega arith) (omega arith) (omega arith)) in
                  subst (λ k. Placed (x ∷ blocks) (turn other k) (block_of other k)) (sym same)
                  (subst (λ t. Placed (x ∷ blocks) t (block_of other i)) (sym last_turn)
                  (omega arith, omega arith, ap (get_elem? (x ∷ blocks)) in_front ∙ ap some (sym own_block)))
              | no unlike ↦
                  let old : Placed blocks (turn table j) (block_of table j) =
                  q.order j (omega (arith, quarantine_rows)) (before j unlike held) in
                  let later : suc (length blocks) - turn table j ≡ suc (length blocks - turn table j) =
                  omega (arith, old.1) in
                  subst (λ t. Placed (x ∷ blocks) t (block_of other j))
                  (sym (as_it_was turn_column j (omega arith) unlike)) (
                    old.0,
                    omega (arith, old.1),
                    ap (get_elem? (x ∷ blocks)) later ∙ old.2
                        ∙ ap some
                        (sym (block_of_same other table j (as_it_was start_column j (omega arith) unlike)
                        (as_it_was size_column j (omega arith) unlike))),
                  )
            ];
        every_turn =
            λ t above upto.
            by_order (length blocks) t
            (λ last. (i, omega (arith, quarantine_rows), quarantine_row_state pool i below, omega arith))
            (λ older.
            let old : HasTurn table t = q.every_turn t above older in
            let unlike : old.0 ≢ i = λ same. absurd (omega (arith, old.2, ap (state table) same)) in (
              old.0,
              omega (arith, quarantine_rows, old.1),
              as_it_was state_column old.0 (omega arith) unlike ∙ old.2,
              as_it_was turn_column old.0 (omega arith) unlike ∙ old.3,
            ));
        once =
            λ j k in_rows in_rows' held held' same.
            elim (ℕ_discrete j i) [
              | yes first ↦
                  elim (ℕ_discrete k i) [
                    | yes second ↦ first ∙ sym second
                    | no unlike ↦ absurd (omega (arith, old_turn k unlike in_rows' held', ap (turn other) first))
                  ]
              | no unlike ↦
                  elim (ℕ_discrete k i) [
                    | yes second ↦ absurd (omega (arith, old_turn j unlike in_rows held, ap (turn other) second))
                    | no unlike' ↦
                        q.once j k (omega (arith, quarantine_rows)) (omega (arith, quarantine_rows))
                        (before j unlike held) (before k unlike' held')
                        (sym (as_it_was turn_column j (omega arith) unlike) ∙ same
                        ∙ as_it_was turn_column k (omega arith) unlike')
                  ]
            ];
      }

-- ---- the oldest is evicted

-- its turn is 1
oldest_turn : (R : ℕ) (table : List ℕ) (blocks : List Block) (i : ℕ) → Oldest table (rows table) i
    → Queue R table blocks → turn table i ≡ 1
oldest_turn R table blocks i o q =
    let own : Placed blocks (turn table i) (block_of table i) =
    q.order i o.below (eqb-true (state table i) quarantined o.held) in
    let first : HasTurn table 1 = q.every_turn 1 (omega arith) (omega (arith, own.0, own.1)) in
    omega
    (arith, own.0, first.3, o.least first.0 first.1 (eq-eqb (state table first.0) quarantined first.2))

module _ (R : ℕ) (pool : Pool) (rest : List Block) (i : ℕ) (o : Oldest pool.table (rows pool.table) i) where
  evicted_rows : rows (evict_row pool i).table ≡ rows pool.table
  evicted_rows = evict_row_rows pool i o.below

  -- no quarantined row is the one that was evicted
  evicted_apart : (j : ℕ) → state (evict_row pool i).table j ≡ quarantined → j ≢ i
  evicted_apart j held same =
      omega (
        arith,
        evict_row_empty pool i o.below state_column (omega arith),
        ap (state (evict_row pool i).table)
            (sym same) ∙ held,
      )

  -- of blocks with the oldest at the end, those before it are left
  queue_before : Queue R pool.table (rest ++ (block_of pool.table i ∷ []))
      → Queue R (evict_row pool i).table rest
  queue_before q =
      let table : List ℕ = pool.table in
      let other : List ℕ = (evict_row pool i).table in
      let y : Block = block_of table i in
      let blocks : List Block = rest ++ (y ∷ []) in
      let longer : length blocks ≡ length rest + 1 = length-append rest (y ∷ []) in
      let alone : weigh R (y ∷ []) ≡ weight R y.size = omega (arith, weigh_cons R y [], weigh_nil R) in
      let as_it_was : (k j : ℕ) → k < row_numbers → k ≢ turn_column → j ≢ i → column k other j ≡ column k table j =
      evict_row_other pool i o.below in
      let first_turn : turn table i ≡ 1 = oldest_turn R table blocks i o q in
      let held_own : state table i ≡ quarantined = eqb-true (state table i) quarantined o.held in
      let before : (j : ℕ) → state other j ≡ quarantined → state table j ≡ quarantined =
      λ j held. sym (as_it_was state_column j (omega arith) (omega arith) (evicted_apart j held)) ∙ held in
      let old : (j : ℕ) → j < rows other → state other j ≡ quarantined
      → Placed blocks (turn table j) (block_of table j) =
      λ j in_rows held. q.order j (omega (arith, evicted_rows)) (before j held) in
      let lessened_turn : (j : ℕ) → j < rows other → state other j ≡ quarantined → turn other j ≡ turn table j - 1 =
      λ j in_rows held. evict_row_turn pool i o.below j (omega (arith, evicted_rows)) (evicted_apart j held) in
      record {
        count = omega (arith, evict_row_count pool i o.below o.held, q.count);
        weighed = omega
            (arith, evict_row_weights pool i o.below R o.held, q.weighed, alone, weigh_append R rest (y ∷ []));
        order =
            λ j in_rows held.
            let unlike : j ≢ i = evicted_apart j held in
            let placed : Placed blocks (turn table j) (block_of table j) = old j in_rows held in
            let not_first : turn table j ≢ 1 =
            λ first. unlike
            (q.once j i (omega (arith, evicted_rows)) o.below (before j held) held_own (first ∙ sym first_turn)) in
            let second : 1 < turn table j = omega (arith, placed.0) in
            let same_place : length rest - (turn table j - 1) ≡ length blocks - turn table j = omega arith in
            subst (λ t. Placed rest t (block_of other j)) (sym (lessened_turn j in_rows held)) (
              omega arith,
              omega (arith, placed.1),
              sym (place_before rest (y ∷ []) (length rest - (turn table j - 1)) (omega (arith, placed.1)))
                  ∙ ap (get_elem? blocks) same_place
                  ∙ placed.2
                  ∙ ap some
                  (sym (block_of_same other table j (as_it_was start_column j (omega arith) (omega arith) unlike)
                  (as_it_was size_column j (omega arith) (omega arith) unlike))),
            );
        every_turn =
            λ t above upto.
            let one_on : HasTurn table (suc t) = q.every_turn (suc t) (omega arith) (omega arith) in
            let unlike : one_on.0 ≢ i = λ same. absurd (omega (arith, one_on.3, ap (turn table) same)) in (
              one_on.0,
              omega (arith, evicted_rows, one_on.1),
              as_it_was state_column one_on.0 (omega arith) (omega arith) unlike ∙ one_on.2,
              omega (arith, evict_row_turn pool i o.below one_on.0 one_on.1 unlike, one_on.3),
            );
        once =
            λ j k in_rows in_rows' held held' same.
            q.once j k (omega (arith, evicted_rows)) (omega (arith, evicted_rows)) (before j held) (before k held')
            (omega (
              arith,
              same,
              lessened_turn j in_rows held,
              lessened_turn k in_rows' held',
              (old j in_rows held).0,
              (old k in_rows' held').0,
            ));
      }

-- it is the last
queue_evict : (R : ℕ) (pool : Pool) (blocks : List Block) (i : ℕ) → Oldest pool.table (rows pool.table) i
    → Queue R pool.table blocks
    → (rest : List Block) × (blocks ≡ rest ++ (block_of pool.table i ∷ [])) × Queue R (evict_row pool i).table rest
queue_evict R pool blocks i o q =
    let table : List ℕ = pool.table in
    let own : Placed blocks (turn table i) (block_of table i) =
    q.order i o.below (eqb-true (state table i) quarantined o.held) in
    let ends : (rest : List Block) × (blocks ≡ rest ++ (block_of table i ∷ [])) =
    place_last blocks (block_of table i)
    (ap (λ t. get_elem? blocks (length blocks - t)) (sym (oldest_turn R table blocks i o q)) ∙ own.2) in
    (ends.0, ends.1, queue_before R pool ends.0 i o (subst (Queue R table) ends.1 q))

-- ---- once all evictions are done

-- the longest run of the latest
pub queue_settle : (R Q : ℕ) (pool : Pool) (blocks : List Block) → Queue R pool.table blocks
    → Queue R (settle R Q pool).pool.table (latest R Q blocks)
queue_settle R Q =
    by_evictions R Q
    (λ pool.
    (blocks : List Block) → Queue R pool.table blocks → Queue R (settle R Q pool).pool.table (latest R Q blocks))
    (λ pool light blocks q.
    subst (λ s. Queue R s.pool.table (latest R Q blocks)) (sym (settle_done R Q pool light))
    (subst (Queue R pool.table) (sym (latest_all R Q blocks (omega (arith, q.weighed)))) q))
    (λ pool heavy ih blocks q.
    let i : ℕ = (some_oldest R Q pool.table heavy).0 in
    let e : oldest pool.table (rows pool.table) ≡ Some i = (some_oldest R Q pool.table heavy).1 in
    let o : Oldest pool.table (rows pool.table) i = oldest_some pool.table (rows pool.table) i e in
    let y : Block = block_of pool.table i in
    let left : (rest : List Block) × (blocks ≡ rest ++ (y ∷ [])) × Queue R (evict_row pool i).table rest =
    queue_evict R pool blocks i o q in
    let same : latest R Q left.0 ≡ latest R Q blocks =
    sym (latest_last R Q left.0 y (omega (arith, q.weighed, ap (weigh R) left.1)))
    ∙ ap (latest R Q) (sym left.1) in
    subst (λ s. Queue R s.pool.table (latest R Q blocks)) (sym (settle_more R Q pool heavy))
    (subst (Queue R (settle R Q (evict_oldest pool)).pool.table) same
    (ih left.0 (subst (λ p. Queue R p.table left.0) (sym (evict_oldest_is pool i e)) left.2))))

-- ---- rows and blocks

-- each of the blocks is that of a quarantined row
pub queue_row : (R : ℕ) (table : List ℕ) (blocks : List Block) → Queue R table blocks → (y : Block) → y ∈ blocks
    → RowOf table quarantined y
queue_row R table blocks q y m =
    let at : (k : ℕ) × (k < length blocks) × (get_elem? blocks k ≡ some y) = in_place blocks y m in
    let found : HasTurn table (length blocks - at.0) =
    q.every_turn (length blocks - at.0) (omega (arith, at.1)) (omega arith) in
    let same_place : length blocks - turn table found.0 ≡ at.0 = omega (arith, at.1, found.3) in (
      found.0,
      found.1,
      found.2,
      some-injective (block_of table found.0) y
          (sym (q.order found.0 found.1 found.2).2 ∙ ap (get_elem? blocks) same_place ∙ at.2),
    )

-- and the block of each quarantined row is one of them
pub queue_block : (R : ℕ) (table : List ℕ) (blocks : List Block) → Queue R table blocks
    → (i : ℕ) → i < rows table → state table i ≡ quarantined → block_of table i ∈ blocks
queue_block R table blocks q i below held =
    place_in blocks (length blocks - turn table i) (block_of table i) (q.order i below held).2
