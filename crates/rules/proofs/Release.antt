-- The laws of a release: what the oldest is, what an eviction leaves, that evictions go on exactly while the weights
-- are above Q, and that lengths stay. Assumes nothing.
use Prim.Native.Nat.{ℕ, zero, suc, ◌+◌, ◌-◌, ◌*◌, ◌^◌, ◌≤◌, ◌<◌, zero-le}
use native.Mathlib.Nat.{le_of_eq}
use native.Mathlib.Numerals.{add-one}
use native.Mathlib.Decide.{ℕ_discrete}
use native.Mathlib.Omega.{arith}
use mathlib.Core.Path.{◌≡◌, refl, sym, ap, ap₂, subst, ◌∙◌}
use mathlib.Core.Logic.{◌≢◌}
use mathlib.Core.Bool.{true, false, ◌&&◌, true≢false, and-eq-true_iff}
use mathlib.Core.List.{List}
use lib.ListN.{length, get_or}
use lib.Dec.{eqb}
use borrow.Author.Tests.{eqb-true, eq-eqb, ne_eqb, lt-ltb, le-ltb}
use Rattle.std.specs.Prelude.{Some, None, Ok, Err}
use Rattle.std.proofs.lemmas.Option.{same_Some, none-some}
use Rattle.rules.specs.declared.Refusal.TheVariants.{NotHeld, Released}
use Rattle.rules.specs.Limits.{granule, size_column, state_column, turn_column, row_numbers, most_redzone}
use Rattle.rules.specs.Limits.{redzone_byte, released_byte, live, quarantined}
use Rattle.rules.specs.Lowest.{total}
use Rattle.rules.specs.Table.{rows, column, start, size, state, turn, is_quarantined}
use Rattle.rules.specs.Table.{set_number, zero_row, put_row, lessened}
use Rattle.rules.specs.Grant.{Acted, unchanged, granules}
use Rattle.rules.specs.Release.{starts_at, row_at, if_quarantined, in_quarantine, weight, weights, older, oldest}
use Rattle.rules.specs.Release.{oldest_zero, oldest_here, oldest_other, Pool, paint_row, evict_row, evict_oldest}
use Rattle.rules.specs.Release.{and_one_more, settle_in, settle, quarantine_row, release_row, release}
use Rattle.rules.proofs.Tests.{by_found, by_order, by_test, if_false, if_true}
use Rattle.rules.proofs.Lowest.{Lowest, lowest_some, lowest_none, below_all, total_change, le_total, total_above}
use Rattle.rules.proofs.Lowest.{total_most}
use Rattle.rules.proofs.Put.{length_fill, fill_in, fill_before, fill_after}
use Rattle.rules.proofs.Table.{length_set_number, column_set_number, column_set_number_other}
use Rattle.rules.proofs.Table.{column_set_number_elsewhere, rows_same, length_put_row, column_put_row}
use Rattle.rules.proofs.Table.{column_put_row_other, zero_row_zero}
use Rattle.rules.proofs.Table.{length_lessened, column_lessened, turn_lessened}
use Rattle.rules.proofs.Grant.{SameLengths}

-- ---- the oldest

pub older_none : (table : List ℕ) (n : ℕ) → older table None n ≡ n
unfolding older
older_none table n = refl

pub older_lower : (table : List ℕ) (i n : ℕ) → turn table n < turn table i → older table (Some i) n ≡ n
unfolding older
older_lower table i n less = if_true _ _ (lt-ltb (turn table n) (turn table i) less)

pub older_kept : (table : List ℕ) (i n : ℕ) → turn table i ≤ turn table n → older table (Some i) n ≡ i
unfolding older
older_kept table i n more = if_false _ _ (le-ltb (turn table n) (turn table i) more)

-- of the first n rows, i is the quarantined one with the lowest turn, and on equal turns the lower row
pub record Oldest (table : List ℕ) (n i : ℕ) : Type 0 where
  pub below : i < n
  pub held : is_quarantined table i ≡ true
  pub least : (j : ℕ) → j < n → is_quarantined table j ≡ true → turn table i ≤ turn table j
  pub first : (j : ℕ) → j < i → is_quarantined table j ≡ true → turn table i < turn table j

pub oldest_none : (table : List ℕ) (n : ℕ) → oldest table n ≡ None → (j : ℕ) → j < n → is_quarantined table j ≡ false
oldest_none table zero e j below = absurd (omega arith)
oldest_none table (suc n) e j below =
    by_test (is_quarantined table n)
    (λ here. absurd (none-some (older table (oldest table n) n) (sym e ∙ oldest_here table n here)))
    (λ other.
    by_order j n
    (λ less. oldest_none table n (sym (oldest_other table n other) ∙ e) j less)
    (λ more. let last : n ≡ j = omega arith in subst (λ m. is_quarantined table m ≡ false) last other))

-- what is quarantined of the first n + 1 rows, by the row
upto : (P : ℕ → Type 0) (n : ℕ) → P n → ((j : ℕ) → j < n → P j) → (j : ℕ) → j < suc n → P j
upto P n here before j below = by_order j n (before j) (λ more. let last : n ≡ j = omega arith in subst P last here)

pub oldest_some : (table : List ℕ) (n i : ℕ) → oldest table n ≡ Some i → Oldest table n i
oldest_some table zero i e = absurd (none-some i (sym (oldest_zero table) ∙ e))
oldest_some table (suc n) i e =
    by_test (is_quarantined table n)
    (λ here.
    let chosen : older table (oldest table n) n ≡ i =
    same_Some (older table (oldest table n) n) i (sym (oldest_here table n here) ∙ e) in
    by_found (oldest table n)
    (λ k found·.
    let o : Oldest table n k = oldest_some table n k found· in
    let chosen_of : older table (Some k) n ≡ i = ap (λ f. older table f n) (sym found·) ∙ chosen in
    by_order (turn table n) (turn table k)
    (λ lower.
    subst (Oldest table (suc n)) (sym (older_lower table k n lower) ∙ chosen_of)
    (record {
      below = omega arith;
      held = here;
      least = upto (λ j. is_quarantined table j ≡ true → turn table n ≤ turn table j) n (λ q. omega arith)
          (λ j b q. omega (arith, o.least j b q));
      first = λ j b q. omega (arith, o.least j b q);
    }))
    (λ kept·.
    subst (Oldest table (suc n)) (sym (older_kept table k n kept·) ∙ chosen_of)
    (record {
      below = omega (arith, o.below);
      held = o.held;
      least = upto (λ j. is_quarantined table j ≡ true → turn table k ≤ turn table j) n (λ q. kept·)
          (λ j b q. o.least j b q);
      first = o.first;
    })))
    (λ nothing.
    subst (Oldest table (suc n)) (sym (ap (λ f. older table f n) nothing ∙ older_none table n) ∙ chosen)
    (record {
      below = omega arith;
      held = here;
      least =
          upto (λ j. is_quarantined table j ≡ true → turn table n ≤ turn table j) n (λ q. omega arith)
          (λ j b q. absurd (true≢false (sym q ∙ oldest_none table n nothing j b)));
      first = λ j b q. absurd (true≢false (sym q ∙ oldest_none table n nothing j b));
    })))
    (λ other.
    let o : Oldest table n i = oldest_some table n i (sym (oldest_other table n other) ∙ e) in
    record {
      below = omega (arith, o.below);
      held = o.held;
      least = upto (λ j. is_quarantined table j ≡ true → turn table i ≤ turn table j) n
          (λ q. absurd (true≢false (sym q ∙ other))) o.least;
      first = o.first;
    })

-- no second row fits
pub oldest_is : (table : List ℕ) (n i : ℕ) → Oldest table n i → oldest table n ≡ Some i
oldest_is table n i o =
    by_found (oldest table n)
    (λ k e.
    let p : Oldest table n k = oldest_some table n k e in
    let up : k < i → ⊥ = λ less. omega (arith, o.first k less p.held, p.least i o.below o.held) in
    let down : i < k → ⊥ = λ less. omega (arith, p.first i less o.held, o.least k p.below p.held) in
    e ∙ ap Some (omega arith))
    (λ e. absurd (true≢false (sym o.held ∙ oldest_none table n e i o.below)))

-- it goes by the states and turns of those rows alone
pub oldest_same : (table other : List ℕ) (n : ℕ)
    → ((j : ℕ) → j < n → (state table j ≡ state other j) × (turn table j ≡ turn other j))
    → oldest table n ≡ oldest other n
oldest_same table other n same =
    by_found (oldest table n)
    (λ i e.
    let o : Oldest table n i = oldest_some table n i e in
    let as_held : (j : ℕ) → j < n → is_quarantined other j ≡ true → is_quarantined table j ≡ true =
    λ j b q. ap (λ s. eqb s quarantined) (same j b).0 ∙ q in
    e
    ∙ sym
    (oldest_is other n i
    (record {
      below = o.below;
      held = ap (λ s. eqb s quarantined) (sym (same i o.below).0) ∙ o.held;
      least = λ j b q. omega (arith, o.least j b (as_held j b q), (same i o.below).1, (same j b).1);
      first = λ j b q. let c : j < n =
          omega (arith, o.below) in omega (arith, o.first j b (as_held j c q), (same i o.below).1, (same j c).1);
    })))
    (λ e.
    e
    ∙ sym
    (by_found (oldest other n)
    (λ i f.
    let o : Oldest other n i = oldest_some other n i f in
    absurd (true≢false (sym (ap (λ s. eqb s quarantined) (same i o.below).0 ∙ o.held)
    ∙ oldest_none table n e i o.below)))
    (λ f. f)))

-- lessening one row more does not change which of the rows before it is the oldest
pub oldest_lessened : (table : List ℕ) (n : ℕ) → n < rows table → oldest (lessened table n) n
    ≡ oldest (lessened table (suc n)) n
oldest_lessened table n below =
    oldest_same (lessened table n) (lessened table (suc n)) n
    (λ j b. (
      column_lessened table n state_column j (omega arith) (omega arith)
          ∙ sym (column_lessened table (suc n) state_column j (omega arith) (omega arith)),
      turn_lessened table n j (omega arith) b ∙ sym (turn_lessened table (suc n) j below (omega arith)),
    ))

-- ---- an eviction

-- a number for a quarantined row, and for another
pub if_quarantined_yes : (table : List ℕ) (f : ℕ → ℕ) (i : ℕ) → is_quarantined table i ≡ true → if_quarantined table f i
    ≡ f i
unfolding if_quarantined
if_quarantined_yes table f i e = if_true _ _ e

pub if_quarantined_no : (table : List ℕ) (f : ℕ → ℕ) (i : ℕ) → is_quarantined table i ≡ false → if_quarantined table f i
    ≡ 0
unfolding if_quarantined
if_quarantined_no table f i e = if_false _ _ e

-- it goes by the state and the number alone
pub if_quarantined_same : (table other : List ℕ) (f g : ℕ → ℕ) (i : ℕ) → state table i ≡ state other i → f i ≡ g i
    → if_quarantined table f i ≡ if_quarantined other g i
unfolding if_quarantined
if_quarantined_same table other f g i states numbers =
    ap₂ {C = ℕ} (λ (s n : ℕ). elim (eqb s quarantined) as (λ _. ℕ) [ true ↦ n | false ↦ 0 ]) states numbers

-- what is summed over the quarantined rows of a table, by their sizes: their number and their weights
abbrev part_quarantined : (ℕ → ℕ) → List ℕ → ℕ → ℕ
part_quarantined f table = if_quarantined table (λ j. f (size table j))

abbrev sum_quarantined : (ℕ → ℕ) → List ℕ → ℕ
sum_quarantined f table = total (part_quarantined f table) (rows table)

-- two tables that differ at one row
sum_change : (f : ℕ → ℕ) (table other : List ℕ) (i : ℕ) → i < rows table → rows table ≡ rows other
    → ((j : ℕ) → j ≢ i → (state table j ≡ state other j) × (size table j ≡ size other j))
    → sum_quarantined f table + part_quarantined f other i ≡ sum_quarantined f other + part_quarantined f table i
sum_change f table other i below same_rows same =
    total_change (part_quarantined f table) (part_quarantined f other) (rows table) i below
    (λ j other·. if_quarantined_same table other (λ k. f (size table k)) (λ k. f (size other k)) j (same j other·).0
    (ap f (same j other·).1))
    ∙ ap (λ n. total (part_quarantined f other) n + part_quarantined f table i) same_rows

module _ (pool : Pool) (i : ℕ) (below : i < rows pool.table) where
  emptied : List ℕ
  emptied = put_row pool.table i zero_row

  emptied_length : length emptied ≡ length pool.table
  unfolding emptied
  emptied_length = length_put_row pool.table i zero_row below

  emptied_rows : rows pool.table ≤ rows emptied
  emptied_rows = le_of_eq (sym (rows_same emptied pool.table emptied_length))

  pub evict_row_length : length (evict_row pool i).table ≡ length pool.table
  unfolding evict_row emptied
  evict_row_length = length_lessened emptied (rows pool.table) ∙ emptied_length

  pub evict_row_rows : rows (evict_row pool i).table ≡ rows pool.table
  evict_row_rows = rows_same (evict_row pool i).table pool.table evict_row_length

  -- the evicted row is emptied: each of its numbers is 0
  pub evict_row_empty : (k : ℕ) → k < row_numbers → column k (evict_row pool i).table i ≡ 0
  unfolding evict_row emptied
  evict_row_empty k in_row =
      let zero· : column k emptied i ≡ 0 = column_put_row pool.table i zero_row below k in_row ∙ zero_row_zero k in
      elim (ℕ_discrete k turn_column) [
        | yes is ↦
            ap (λ l. column l (lessened emptied (rows pool.table)) i) is
            ∙ turn_lessened emptied (rows pool.table) i emptied_rows below
            ∙ ap (λ t. t - 1) (ap (λ l. column l emptied i) (sym is) ∙ zero·)
        | no other ↦ column_lessened emptied (rows pool.table) k i in_row other ∙ zero·
      ]

  -- every other row keeps its numbers, the turn apart
  pub evict_row_other : (k j : ℕ) → k < row_numbers → k ≢ turn_column → j ≢ i
      → column k (evict_row pool i).table j ≡ column k pool.table j
  unfolding evict_row emptied
  evict_row_other k j in_row other other_row =
      column_lessened emptied (rows pool.table) k j in_row other
      ∙ column_put_row_other pool.table i zero_row below k j in_row other_row

  -- and its turn is lessened
  pub evict_row_turn : (j : ℕ) → j < rows pool.table → j ≢ i → turn (evict_row pool i).table j
      ≡ turn pool.table j - 1
  unfolding evict_row emptied
  evict_row_turn j in_rows other =
      turn_lessened emptied (rows pool.table) j emptied_rows in_rows
      ∙ ap (λ t. t - 1) (column_put_row_other pool.table i zero_row below turn_column j (omega arith) other)

  -- of what is summed over the quarantined rows, its own part is gone
  pub evict_row_sum : (f : ℕ → ℕ) → is_quarantined pool.table i ≡ true
      → sum_quarantined f pool.table ≡ sum_quarantined f (evict_row pool i).table + f (size pool.table i)
  evict_row_sum f held =
      let table : List ℕ = pool.table in
      let other : List ℕ = (evict_row pool i).table in
      let change : sum_quarantined f table + part_quarantined f other i
      ≡ sum_quarantined f other + part_quarantined f table i =
      sum_change f table other i below (sym evict_row_rows)
      (λ j other·. (
        sym (evict_row_other state_column j (omega arith) (omega arith) other·),
        sym (evict_row_other size_column j (omega arith) (omega arith) other·),
      )) in
      let own : part_quarantined f table i ≡ f (size table i) =
      if_quarantined_yes table (λ j. f (size table j)) i held in
      let None· : part_quarantined f other i ≡ 0 =
      if_quarantined_no other (λ j. f (size other j)) i
      (ne_eqb (state other i) quarantined (omega (arith, evict_row_empty state_column (omega arith)))) in
      omega arith

  -- one fewer is quarantined
  pub evict_row_count : is_quarantined pool.table i ≡ true → in_quarantine pool.table
      ≡ suc (in_quarantine (evict_row pool i).table)
  unfolding in_quarantine
  evict_row_count held = evict_row_sum (λ _. 1) held ∙ add-one (sum_quarantined (λ _. 1) (evict_row pool i).table)

  -- and the weights are less by its own
  pub evict_row_weights : (R : ℕ) → is_quarantined pool.table i ≡ true
      → weights R pool.table ≡ weights R (evict_row pool i).table + weight R (size pool.table i)
  unfolding weights
  evict_row_weights R held = evict_row_sum (weight R) held

pub paint_row_length : (pool : Pool) (i v : ℕ) → length (paint_row pool i v) ≡ length pool.shadow
unfolding paint_row
paint_row_length pool i v = length_fill pool.shadow (start pool.table i) (granules (size pool.table i)) v

-- the row's granules that exist become v
pub paint_row_in : (pool : Pool) (i v k : ℕ) → start pool.table i ≤ k → k
    < start pool.table i + granules (size pool.table i)
    → k < length pool.shadow → get_or (paint_row pool i v) k 0 ≡ v
unfolding paint_row
paint_row_in pool i v k from below exists =
    fill_in pool.shadow (start pool.table i) (granules (size pool.table i)) v k 0 from below exists

-- and no other granule changes
pub paint_row_before : (pool : Pool) (i v k : ℕ) → k < start pool.table i → get_or (paint_row pool i v) k 0
    ≡ get_or pool.shadow k 0
unfolding paint_row
paint_row_before pool i v k before =
    fill_before pool.shadow (start pool.table i) (granules (size pool.table i)) v k 0 before

pub paint_row_after : (pool : Pool) (i v k : ℕ) → start pool.table i + granules (size pool.table i) ≤ k
    → get_or (paint_row pool i v) k 0 ≡ get_or pool.shadow k 0
unfolding paint_row
paint_row_after pool i v k after =
    fill_after pool.shadow (start pool.table i) (granules (size pool.table i)) v k 0 after

-- the shadow after an eviction: fa in the row's granules
pub evict_row_shadow : (pool : Pool) (i : ℕ) → (evict_row pool i).shadow ≡ paint_row pool i redzone_byte
unfolding evict_row
evict_row_shadow pool i = refl

-- ---- evictions

pub evict_oldest_is : (pool : Pool) (i : ℕ) → oldest pool.table (rows pool.table) ≡ Some i → evict_oldest pool
    ≡ evict_row pool i
unfolding evict_oldest
evict_oldest_is pool i e = rw (e, evict_oldest)

-- a quarantined row weighs what its block weighs
pub weights_of : (R : ℕ) (table : List ℕ) (i : ℕ) → i < rows table → is_quarantined table i ≡ true
    → weight R (size table i) ≤ weights R table
unfolding weights
weights_of R table i below held =
    let f : ℕ → ℕ = if_quarantined table (λ j. weight R (size table j)) in
    omega (arith, le_total f (rows table) i below, if_quarantined_yes table (λ j. weight R (size table j)) i held)

-- where the weights are above a number, a row is quarantined, and so one is the oldest
pub some_oldest : (R Q : ℕ) (table : List ℕ) → Q < weights R table → (i : ℕ) × (oldest table (rows table) ≡ Some i)
unfolding weights
some_oldest R Q table heavy =
    by_found (oldest table (rows table))
    (λ i e. (i, e))
    (λ nothing.
    let f : ℕ → ℕ = if_quarantined table (λ j. weight R (size table j)) in
    let above : (k : ℕ) × (k < rows table) × (0 < f k) = total_above f (rows table) (omega arith) in
    let None· : f above.0 ≡ 0 =
    if_quarantined_no table (λ j. weight R (size table j)) above.0
    (oldest_none table (rows table) nothing above.0 above.1) in
    absurd (omega (arith, above.2)))

-- each eviction leaves one fewer quarantined
pub evict_oldest_count : (R Q : ℕ) (pool : Pool) → Q < weights R pool.table
    → in_quarantine pool.table ≡ suc (in_quarantine (evict_oldest pool).table)
evict_oldest_count R Q pool heavy =
    let i : ℕ = (some_oldest R Q pool.table heavy).0 in
    let e : oldest pool.table (rows pool.table) ≡ Some i = (some_oldest R Q pool.table heavy).1 in
    let o : Oldest pool.table (rows pool.table) i = oldest_some pool.table (rows pool.table) i e in
    evict_row_count pool i o.below o.held
    ∙ ap (λ p. suc (in_quarantine p.table)) (sym (evict_oldest_is pool i e))

-- the two equations of `settle`: nothing after them looks at the count
pub settle_done : (R Q : ℕ) (pool : Pool) → weights R pool.table ≤ Q → settle R Q pool
    ≡ record { pool = pool; evicted = 0 }
unfolding settle settle_in
settle_done R Q pool light = go (in_quarantine pool.table)
  where
    go : (n : ℕ) → settle_in n R Q pool ≡ record { pool = pool; evicted = 0 }
    go zero = refl
    go (suc n) = if_false _ _ (le-ltb Q (weights R pool.table) light)

pub settle_more : (R Q : ℕ) (pool : Pool) → Q < weights R pool.table → settle R Q pool
    ≡ and_one_more (settle R Q (evict_oldest pool))
unfolding settle settle_in
settle_more R Q pool heavy =
    ap (λ n. settle_in n R Q pool) (evict_oldest_count R Q pool heavy) ∙ go (in_quarantine (evict_oldest pool).table)
  where
    go : (n : ℕ) → settle_in (suc n) R Q pool ≡ and_one_more (settle_in n R Q (evict_oldest pool))
    go n = if_true _ _ (lt-ltb Q (weights R pool.table) heavy)

-- induction by evictions
pub by_evictions {ℓ} : (R Q : ℕ) (P : Pool → Type ℓ) → ((pool : Pool) → weights R pool.table ≤ Q → P pool)
    → ((pool : Pool) → Q < weights R pool.table → P (evict_oldest pool) → P pool) → (pool : Pool) → P pool
by_evictions R Q P done more pool = go (in_quarantine pool.table) pool refl
  where
    go : (n : ℕ) (p : Pool) → in_quarantine p.table ≡ n → P p
    go zero p e =
        by_order Q (weights R p.table) (λ heavy. absurd (omega (arith, evict_oldest_count R Q p heavy)))
        (λ light. done p light)
    go (suc n) p e =
        by_order Q (weights R p.table)
        (λ heavy. more p heavy (go n (evict_oldest p) (omega (arith, evict_oldest_count R Q p heavy))))
        (λ light. done p light)

-- what holds of a pool and of what an eviction leaves holds once all are done
pub settled_has {ℓ} : (R Q : ℕ) (P : Pool → Type ℓ)
    → ((pool : Pool) (i : ℕ) → Oldest pool.table (rows pool.table) i → P pool → P (evict_row pool i))
    → (pool : Pool) → P pool → P (settle R Q pool).pool
settled_has R Q P evicting =
    by_evictions R Q (λ pool. P pool → P (settle R Q pool).pool)
    (λ pool light p. subst (λ s. P s.pool) (sym (settle_done R Q pool light)) p)
    (λ pool heavy ih p.
    let i : ℕ = (some_oldest R Q pool.table heavy).0 in
    let e : oldest pool.table (rows pool.table) ≡ Some i = (some_oldest R Q pool.table heavy).1 in
    let o : Oldest pool.table (rows pool.table) i = oldest_some pool.table (rows pool.table) i e in
    subst (λ s. P s.pool) (sym (settle_more R Q pool heavy))
    (ih (subst P (sym (evict_oldest_is pool i e)) (evicting pool i o p))))

-- once all are done the weights sum to at most Q
pub settle_light : (R Q : ℕ) (pool : Pool) → weights R (settle R Q pool).pool.table ≤ Q
settle_light R Q =
    by_evictions R Q (λ pool. weights R (settle R Q pool).pool.table ≤ Q)
    (λ pool light. subst (λ s. weights R s.pool.table ≤ Q) (sym (settle_done R Q pool light)) light)
    (λ pool heavy ih. subst (λ s. weights R s.pool.table ≤ Q) (sym (settle_more R Q pool heavy)) ih)

-- the number evicted is the number of rows that left the quarantine
pub settle_count : (R Q : ℕ) (pool : Pool) → (settle R Q pool).evicted + in_quarantine (settle R Q pool).pool.table
    ≡ in_quarantine pool.table
settle_count R Q =
    by_evictions R Q (λ pool. (settle R Q pool).evicted + in_quarantine (settle R Q pool).pool.table
    ≡ in_quarantine pool.table)
    (λ pool light. subst (λ s. s.evicted + in_quarantine s.pool.table ≡ in_quarantine pool.table)
    (sym (settle_done R Q pool light)) (omega arith))
    (λ pool heavy ih.
    subst (λ s. s.evicted + in_quarantine s.pool.table ≡ in_quarantine pool.table)
    (sym (settle_more R Q pool heavy))
    (omega (arith, evict_oldest_count R Q pool heavy)))

-- a sum over the quarantined ones of n rows is at most so much for each row
pub quarantined_most : (f : ℕ → ℕ) (m : ℕ) (table : List ℕ) (n : ℕ) → ((j : ℕ) → j < n → f (size table j) ≤ m)
    → total (if_quarantined table (λ j. f (size table j))) n ≤ n * m
quarantined_most f m table n most =
    total_most (part_quarantined f table) m n
    (λ j below.
    by_test (is_quarantined table j)
    (λ held. omega (arith, if_quarantined_yes table (λ k. f (size table k)) j held, most j below))
    (λ other. omega (arith, if_quarantined_no table (λ k. f (size table k)) j other)))

-- so it is at most the number of rows
pub in_quarantine_most : (table : List ℕ) → in_quarantine table ≤ rows table
unfolding in_quarantine
in_quarantine_most table =
    omega (arith, quarantined_most (λ _. 1) 1 table (rows table) (λ j below. omega arith))

pub evicted_most : (R Q : ℕ) (pool : Pool) → (settle R Q pool).evicted ≤ rows pool.table
evicted_most R Q pool = omega (arith, settle_count R Q pool, in_quarantine_most pool.table)

-- a block weighs the size asked for
pub weight_size : (R s : ℕ) → weight R s ≡ s
unfolding weight
weight_size R s = refl

-- which leaves room in 64 bits for the weights of every row
pub weight_most : (R s : ℕ) → R ≤ most_redzone → s < 2 ^ 32 → weight R s ≤ 2 ^ 33
weight_most R s near fits = omega (arith, weight_size R s)

pub weights_most : (R : ℕ) (table : List ℕ) → R ≤ most_redzone → ((j : ℕ) → size table j < 2 ^ 32) → weights R table
    ≤ rows table * 2 ^ 33
unfolding weights
weights_most R table near fits =
    quarantined_most (weight R) (2 ^ 33) table (rows table) (λ j below. weight_most R (size table j) near (fits j))

-- so a block heavier than Q leaves at once
pub none_heavier : (R Q : ℕ) (pool : Pool) (i : ℕ) → i < rows (settle R Q pool).pool.table
    → is_quarantined (settle R Q pool).pool.table i ≡ true → weight R (size (settle R Q pool).pool.table i) ≤ Q
none_heavier R Q pool i below held =
    omega (arith, weights_of R (settle R Q pool).pool.table i below held, settle_light R Q pool)

-- ---- a row becomes quarantined

module _ (pool : Pool) (i : ℕ) (below : i < rows pool.table) where
  -- its state is set, then its turn
  held_table : List ℕ
  held_table = set_number state_column pool.table i quarantined

  held_length : length held_table ≡ length pool.table
  unfolding held_table
  held_length = length_set_number state_column pool.table i quarantined

  abbrev own_turn : ℕ
  own_turn = in_quarantine pool.table + 1

  pub quarantine_row_lengths : (length (quarantine_row pool i).shadow ≡ length pool.shadow)
      × (length (quarantine_row pool i).table ≡ length pool.table)
  unfolding quarantine_row held_table
  quarantine_row_lengths =
      (paint_row_length pool i released_byte, length_set_number turn_column held_table i own_turn ∙ held_length)

  pub quarantine_row_state : state (quarantine_row pool i).table i ≡ quarantined
  unfolding quarantine_row held_table
  quarantine_row_state =
      column_set_number_other turn_column held_table i own_turn state_column i (omega arith) (omega arith) (omega arith)
      ∙ column_set_number state_column pool.table i quarantined (omega arith) below

  pub quarantine_row_turn : turn (quarantine_row pool i).table i ≡ own_turn
  unfolding quarantine_row held_table
  quarantine_row_turn =
      let as_many : rows held_table ≡ rows pool.table = rows_same held_table pool.table held_length in
      column_set_number turn_column held_table i own_turn (omega arith) (omega arith)

  -- its other numbers stand as they did
  pub quarantine_row_own : (k : ℕ) → k < row_numbers → k ≢ state_column → k ≢ turn_column
      → column k (quarantine_row pool i).table i ≡ column k pool.table i
  unfolding quarantine_row held_table
  quarantine_row_own k in_row no_state no_turn =
      column_set_number_other turn_column held_table i own_turn k i (omega arith) in_row no_turn
      ∙ column_set_number_other state_column pool.table i quarantined k i (omega arith) in_row no_state

  -- and so does every other row
  pub quarantine_row_other : (k j : ℕ) → k < row_numbers → j ≢ i → column k (quarantine_row pool i).table j
      ≡ column k pool.table j
  unfolding quarantine_row held_table
  quarantine_row_other k j in_row other =
      column_set_number_elsewhere turn_column held_table i own_turn k j (omega arith) in_row other
      ∙ column_set_number_elsewhere state_column pool.table i quarantined k j (omega arith) in_row other

  -- of what is summed over the quarantined rows, its own part is added where it was not quarantined
  pub quarantine_row_sum : (f : ℕ → ℕ) → is_quarantined pool.table i ≡ false
      → sum_quarantined f (quarantine_row pool i).table ≡ sum_quarantined f pool.table + f (size pool.table i)
  quarantine_row_sum f other =
      let table : List ℕ = pool.table in
      let held : List ℕ = (quarantine_row pool i).table in
      let change : sum_quarantined f table + part_quarantined f held i
      ≡ sum_quarantined f held + part_quarantined f table i =
      sum_change f table held i below (rows_same table held (sym quarantine_row_lengths.1))
      (λ j other·. (
        sym (quarantine_row_other state_column j (omega arith) other·),
        sym (quarantine_row_other size_column j (omega arith) other·),
      )) in
      let own : part_quarantined f held i ≡ f (size held i) =
      if_quarantined_yes held (λ j. f (size held j)) i (eq-eqb (state held i) quarantined quarantine_row_state) in
      let size_kept : f (size held i) ≡ f (size table i) =
      ap f (quarantine_row_own size_column (omega arith) (omega arith) (omega arith)) in
      let None· : part_quarantined f table i ≡ 0 = if_quarantined_no table (λ j. f (size table j)) i other in
      omega arith

  pub quarantine_row_weights : (R : ℕ) → is_quarantined pool.table i ≡ false
      → weights R (quarantine_row pool i).table ≡ weights R pool.table + weight R (size pool.table i)
  unfolding weights
  quarantine_row_weights R other = quarantine_row_sum (weight R) other

  -- what is quarantined besides it was so before, and its turn is as it was
  quarantined_before : (j : ℕ) → j ≢ i → is_quarantined (quarantine_row pool i).table j ≡ true
      → (is_quarantined pool.table j ≡ true) × (turn (quarantine_row pool i).table j ≡ turn pool.table j)
  quarantined_before j other held = (
    ap (λ s. eqb s quarantined) (sym (quarantine_row_other state_column j (omega arith) other)) ∙ held,
    quarantine_row_other turn_column j (omega arith) other,
  )

  own_held : is_quarantined (quarantine_row pool i).table i ≡ true
  own_held = eq-eqb (state (quarantine_row pool i).table i) quarantined quarantine_row_state

  -- by the row: itself, or another
  each_row : (P : ℕ → Type 0) → P i → ((j : ℕ) → j ≢ i → P j) → (j : ℕ) → P j
  each_row P own others j = elim (ℕ_discrete j i) [ yes e ↦ subst P (sym e) own | no other ↦ others j other ]

  -- where nothing else is quarantined it is the oldest
  pub quarantine_row_alone : oldest pool.table (rows pool.table) ≡ None
      → oldest (quarantine_row pool i).table (rows pool.table) ≡ Some i
  quarantine_row_alone nothing =
      let held : List ℕ = (quarantine_row pool i).table in
      let no_other : (j : ℕ) → j < rows pool.table → j ≢ i → is_quarantined held j ≡ true → ⊥ =
      λ j b other q. true≢false (sym (quarantined_before j other q).0
      ∙ oldest_none pool.table (rows pool.table) nothing j b) in
      oldest_is held (rows pool.table) i
      (record {
        below = below;
        held = own_held;
        least = each_row (λ j. j < rows pool.table → is_quarantined held j ≡ true → turn held i ≤ turn held j)
            (λ b q. omega arith) (λ j other b q. absurd (no_other j b other q));
        first = λ j b q. absurd (no_other j (omega arith) (λ e. absurd (omega arith)) q);
      })

  module _ (k : ℕ) (e : oldest pool.table (rows pool.table) ≡ Some k) where
    o : Oldest pool.table (rows pool.table) k
    o = oldest_some pool.table (rows pool.table) k e

    -- where its turn is lower, or equal and it is the lower row, it is the oldest
    pub quarantine_row_oldest : k ≢ i → turn (quarantine_row pool i).table i ≤ turn pool.table k
        → (k < i → turn (quarantine_row pool i).table i < turn pool.table k)
        → oldest (quarantine_row pool i).table (rows pool.table) ≡ Some i
    quarantine_row_oldest apart lower strict =
        let held : List ℕ = (quarantine_row pool i).table in
        oldest_is held (rows pool.table) i
        (record {
          below = below;
          held = own_held;
          least =
              each_row (λ j. j < rows pool.table → is_quarantined held j ≡ true → turn held i ≤ turn held j)
              (λ b q. omega arith)
              (λ j other b q. omega (
                arith,
                (quarantined_before j other q).1,
                o.least j b
                    (quarantined_before j other q).0,
              ));
          first =
              λ j b q.
              let other : j ≢ i = λ same. absurd (omega arith) in
              let q' : is_quarantined pool.table j ≡ true = (quarantined_before j other q).0 in
              let same : turn held j ≡ turn pool.table j = (quarantined_before j other q).1 in
              by_order k i
              (λ less. omega (arith, strict less, o.least j (omega arith) q'))
              (λ more. let above : i < k = omega arith in omega (arith, o.first j (omega arith) q'));
        })

    -- and else the one that was stays so
    pub quarantine_row_younger : k ≢ i → turn pool.table k ≤ turn (quarantine_row pool i).table i
        → (i < k → turn pool.table k < turn (quarantine_row pool i).table i)
        → oldest (quarantine_row pool i).table (rows pool.table) ≡ Some k
    quarantine_row_younger apart lower strict =
        let held : List ℕ = (quarantine_row pool i).table in
        let kept· : turn held k ≡ turn pool.table k = quarantine_row_other turn_column k (omega arith) apart in
        oldest_is held (rows pool.table) k
        (record {
          below = o.below;
          held = ap (λ s. eqb s quarantined) (quarantine_row_other state_column k (omega arith) apart) ∙ o.held;
          least =
              each_row (λ j. j < rows pool.table → is_quarantined held j ≡ true → turn held k ≤ turn held j)
              (λ b q. omega arith)
              (λ j other b q. omega (
                arith,
                (quarantined_before j other q).1,
                o.least j b
                    (quarantined_before j other q).0,
              ));
          first =
              each_row (λ j. j < k → is_quarantined held j ≡ true → turn held k < turn held j)
              (λ b q. omega (arith, strict b))
              (λ j other b q. omega (
                arith,
                (quarantined_before j other q).1,
                o.first j b
                    (quarantined_before j other q).0,
              ));
        })

-- ---- the row that starts at an address

-- i is the lowest row of that state that starts at a
pub record StartsAt (wanted : ℕ) (table : List ℕ) (a i : ℕ) : Type 0 where
  pub below : i < rows table
  pub has : state table i ≡ wanted
  pub at : granule * start table i ≡ a
  pub first : (j : ℕ) → j < i → state table j ≡ wanted → granule * start table j ≢ a

pub at_true : (wanted : ℕ) (table : List ℕ) (a i : ℕ) → (eqb (state table i) wanted && starts_at table a i) ≡ true
    → (state table i ≡ wanted) × (granule * start table i ≡ a)
unfolding starts_at
at_true wanted table a i e =
    let both : (eqb (state table i) wanted ≡ true) × (starts_at table a i ≡ true) =
    (and-eq-true_iff (eqb (state table i) wanted) (starts_at table a i)).0 e in
    (eqb-true (state table i) wanted both.0, eqb-true (granule * start table i) a both.1)

pub at_is : (wanted : ℕ) (table : List ℕ) (a i : ℕ) → state table i ≡ wanted → granule * start table i ≡ a
    → (eqb (state table i) wanted && starts_at table a i) ≡ true
unfolding starts_at
at_is wanted table a i has at =
    (and-eq-true_iff (eqb (state table i) wanted) (starts_at table a i)).1
    (eq-eqb (state table i) wanted has, eq-eqb (granule * start table i) a at)

pub row_at_some : (wanted : ℕ) (table : List ℕ) (a i : ℕ) → row_at wanted table a ≡ Some i → StartsAt wanted table a i
unfolding row_at
row_at_some wanted table a i e =
    let l : Lowest (λ j. eqb (state table j) wanted && starts_at table a j) (rows table) 0 i =
    lowest_some (λ j. eqb (state table j) wanted && starts_at table a j) (rows table) 0 i e in
    record {
      below = below_all l;
      has = (at_true wanted table a i l.passes).0;
      at = (at_true wanted table a i l.passes).1;
      first = λ j less has at. true≢false (sym (at_is wanted table a j has at) ∙ l.first j zero-le less);
    }

pub row_at_none : (wanted : ℕ) (table : List ℕ) (a : ℕ) → row_at wanted table a ≡ None
    → (j : ℕ) → j < rows table → state table j ≡ wanted → granule * start table j ≢ a
unfolding row_at
row_at_none wanted table a e j below has at =
    true≢false
    (sym (at_is wanted table a j has at)
    ∙ lowest_none (λ m. eqb (state table m) wanted && starts_at table a m) (rows table) 0 e j zero-le (omega arith))

-- ---- a release

pub release_nothing : (R Q : ℕ) (shadow table : List ℕ) → release R Q shadow table 0 ≡ unchanged (Ok 0) shadow table
unfolding release
release_nothing R Q shadow table = refl

pub release_done : (R Q : ℕ) (shadow table : List ℕ) (a i : ℕ) → a ≢ 0 → row_at live table a ≡ Some i
    → release R Q shadow table a ≡ release_row R Q (record { shadow = shadow; table = table }) i
unfolding release
release_done R Q shadow table a i above e = if_false _ _ (ne_eqb a 0 above) ∙ rw e

pub release_twice : (R Q : ℕ) (shadow table : List ℕ) (a i : ℕ) → a ≢ 0 → row_at live table a ≡ None
    → row_at quarantined table a ≡ Some i
    → release R Q shadow table a ≡ unchanged (Err Released) shadow table
unfolding release
release_twice R Q shadow table a i above e f = if_false _ _ (ne_eqb a 0 above) ∙ rw e (rw f)

pub release_foreign : (R Q : ℕ) (shadow table : List ℕ) (a : ℕ) → a ≢ 0 → row_at live table a ≡ None
    → row_at quarantined table a ≡ None
    → release R Q shadow table a ≡ unchanged (Err NotHeld) shadow table
unfolding release
release_foreign R Q shadow table a above e f = if_false _ _ (ne_eqb a 0 above) ∙ rw e (rw f)

-- by what a release finds
pub by_release {ℓ} : (R Q : ℕ) (shadow table : List ℕ) (a : ℕ) (P : Acted → Type ℓ)
    → (a ≡ 0 → P (unchanged (Ok 0) shadow table))
    → (a ≢ 0 → row_at live table a ≡ None → row_at quarantined table a ≡ None
    → P (unchanged (Err NotHeld) shadow table))
    → (a ≢ 0 → row_at live table a ≡ None → (i : ℕ) → row_at quarantined table a ≡ Some i
    → P (unchanged (Err Released) shadow table))
    → (a ≢ 0 → (i : ℕ) → row_at live table a ≡ Some i
    → P (release_row R Q (record { shadow = shadow; table = table }) i))
    → P (release R Q shadow table a)
by_release R Q shadow table a P nothing foreign twice done =
    elim (ℕ_discrete a 0) [
      | yes e ↦ subst (λ b. P (release R Q shadow table b)) (sym e)
          (subst P (sym (release_nothing R Q shadow table)) (nothing e))
      | no above ↦
          by_found (row_at live table a)
          (λ i e. subst P (sym (release_done R Q shadow table a i above e)) (done above i e))
          (λ e.
          by_found (row_at quarantined table a)
          (λ i f. subst P (sym (release_twice R Q shadow table a i above e f)) (twice above e i f))
          (λ f. subst P (sym (release_foreign R Q shadow table a above e f)) (foreign above e f)))
    ]

SamePool : List ℕ → List ℕ → Pool → Type 0
SamePool shadow table pool = (length pool.shadow ≡ length shadow) × (length pool.table ≡ length table)

-- lengths are kept
pub release_lengths : (R Q : ℕ) (shadow table : List ℕ) (a : ℕ) → SameLengths shadow table (release R Q shadow table a)
unfolding SamePool release_row
release_lengths R Q shadow table a =
    by_release R Q shadow table a (SameLengths shadow table)
    (λ e. (refl, refl)) (λ above no_live no_quarantined. (refl, refl)) (λ above no_live i e. (refl, refl))
    (λ above i e.
    let pool : Pool = record { shadow = shadow; table = table } in
    settled_has R Q (SamePool shadow table)
    (λ p j o same. (
      ap length (evict_row_shadow p j) ∙ paint_row_length p j redzone_byte ∙ same.0,
      evict_row_length p j o.below
          ∙ same.1,
    ))
    (quarantine_row pool i) (quarantine_row_lengths pool i (row_at_some live table a i e).below))
