-- What one pass finds in one row more: a live row may be the first that starts at the address, a quarantined one
-- counts, weighs and may be the oldest, and a row in another state adds nothing. Assumes nothing.
use Prim.Native.Nat.{ℕ, ◌+◌, ◌*◌, ◌/◌, ◌^◌, ◌≤◌, ◌<◌}
use native.Mathlib.Omega.{arith}
use native.Mathlib.Numerals.{add-one}
use native.Mathlib.Nat.{add-zero}
use mathlib.Core.Path.{◌≡◌, refl, sym, ap, ap₂, ◌∙◌}
use mathlib.Core.Logic.{◌≢◌}
use mathlib.Core.Bool.{Bool, true, false, ◌&&◌, ◌||◌, or-false}
use mathlib.Core.List.{List}
use lib.ListN.{length, get_or}
use mir.Syntax.{w32}
use mir.Val.{Fits}
use lib.Dec.{eqb}
use borrow.Author.Tests.{eq-eqb, ne_eqb}
use Rattle.std.specs.Prelude.{Option, Some, None}
use Rattle.std.specs.Option.{option_or}
use Rattle.std.specs.Bool.{then_some}
use Rattle.rules.specs.Limits.{row_numbers, size_column, most_redzone, live, quarantined}
use Rattle.rules.specs.Lowest.{lowest, found, total, total_suc}
use Rattle.rules.specs.Table.{rows, column, size, state, turn}
use Rattle.rules.specs.Release.{starts_at, row_at, if_quarantined, in_quarantine, weight, weights, older, oldest}
use Rattle.rules.specs.Release.{oldest_here, oldest_other}
use Rattle.rules.proofs.Tests.{by_found, by_test}
use Rattle.rules.proofs.Lowest.{one_more_found, one_more_here, one_more_none}
use Rattle.rules.proofs.Release.{if_quarantined_yes, if_quarantined_no, quarantined_most, weight_most, weight_size}
use Rattle.rules.proofs.Release.{older_none, older_lower, older_kept, oldest_some}
use Rattle.blocks.specs.declared.rows.Seen.{Seen}
use Rattle.blocks.specs.Survey.{surveyed, survey}

-- a table's rows, by its length
pub rows_are : (table : List ℕ) → rows table ≡ length table / row_numbers
unfolding rows
rows_are table = refl

-- ---- one number more

one_more : (test : ℕ → Bool) (n : ℕ) → lowest test (n + 1) 0 ≡ option_or (lowest test n 0) (then_some (test n) n)
one_more test n =
    ap (λ m. lowest test m 0) (add-one n)
    ∙ by_found (lowest test n 0)
    (λ k e. one_more_found test n k e ∙ sym (ap (λ o. option_or o (then_some (test n) n)) e))
    (λ e.
    by_test (test n)
    (λ passes. one_more_here test n e passes ∙ sym (ap₂ (λ o t. option_or o (then_some t n)) e passes))
    (λ fails. one_more_none test n e fails ∙ sym (ap₂ (λ o t. option_or o (then_some t n)) e fails)))

found_or : (o : Option ℕ) (passes : Bool) (n : ℕ) → found (option_or o (then_some passes n)) ≡ found o || passes
found_or (Some k) passes n = refl
found_or None true n = refl
found_or None false n = refl

or_nothing : (o : Option ℕ) → option_or o None ≡ o
or_nothing (Some k) = refl
or_nothing None = refl

total_next : (f : ℕ → ℕ) (n : ℕ) → total f (n + 1) ≡ total f n + f n
total_next f n = ap (total f) (add-one n) ∙ total_suc f n

-- ---- the oldest

module _ (table : List ℕ) (i : ℕ) where
  pub oldest_passed : state table i ≢ quarantined → oldest table (i + 1) ≡ oldest table i
  oldest_passed other = ap (oldest table) (add-one i) ∙ oldest_other table i (ne_eqb (state table i) quarantined other)

  oldest_chosen : state table i ≡ quarantined → oldest table (i + 1) ≡ Some (older table (oldest table i) i)
  oldest_chosen held = ap (oldest table) (add-one i) ∙ oldest_here table i (eq-eqb (state table i) quarantined held)

  pub oldest_alone : state table i ≡ quarantined → oldest table i ≡ None → oldest table (i + 1) ≡ Some i
  oldest_alone held nothing =
      oldest_chosen held ∙ ap Some (ap (λ o. older table o i) nothing ∙ older_none table i)

  pub oldest_kept : (k : ℕ) → state table i ≡ quarantined → oldest table i ≡ Some k → turn table k ≤ turn table i
      → oldest table (i + 1) ≡ Some k
  oldest_kept k held before kept =
      oldest_chosen held ∙ ap Some (ap (λ o. older table o i) before ∙ older_kept table k i kept)

  pub oldest_lower : (k : ℕ) → state table i ≡ quarantined → oldest table i ≡ Some k → turn table i < turn table k
      → oldest table (i + 1) ≡ Some i
  oldest_lower k held before lower =
      oldest_chosen held ∙ ap Some (ap (λ o. older table o i) before ∙ older_lower table k i lower)

  pub oldest_below : (k : ℕ) → oldest table i ≡ Some k → k < i
  oldest_below k before = (oldest_some table i k before).below

pub ruleset oldest_next = (oldest_passed, oldest_alone, oldest_kept, oldest_lower, oldest_below)

-- ---- all of them

module _ (R : ℕ) (table : List ℕ) (a i : ℕ) where
  -- what one row more adds, by whether it is live and whether it is quarantined
  next : Bool → Bool → Seen
  next is_live is_quarantined =
      let so_far : Seen = surveyed R table a i in
      record {
        live = option_or so_far.live (then_some (is_live && starts_at table a i) i);
        again = so_far.again || (is_quarantined && starts_at table a i);
        count = so_far.count + elim is_quarantined [ true ↦ 1 | false ↦ 0 ];
        weight = so_far.weight + elim is_quarantined [ true ↦ weight R (size table i) | false ↦ 0 ];
        oldest = oldest table (i + 1);
      }

  next_is : surveyed R table a (i + 1) ≡ next (eqb (state table i) live) (eqb (state table i) quarantined)
  unfolding surveyed next if_quarantined
  next_is = simp (one_more, found_or, total_next)

  -- a live row may be the first
  pub surveyed_live : state table i ≡ live → surveyed R table a (i + 1)
      ≡ record (surveyed R table a i) {
        live = option_or (surveyed R table a i).live (then_some (starts_at table a i) i);
      }
  unfolding surveyed next
  surveyed_live is =
      let not_held : state table i ≢ quarantined = λ e. absurd (omega arith) in
      next_is ∙ ap₂ next (eq-eqb (state table i) live is) (ne_eqb (state table i) quarantined not_held)
      ∙ simp (or-false, add-zero, oldest_passed table i not_held)

  -- a quarantined one counts, weighs and may be the oldest
  pub surveyed_quarantined : state table i ≡ quarantined → surveyed R table a (i + 1)
      ≡ record (surveyed R table a i) {
        again = (surveyed R table a i).again || starts_at table a i;
        count = (surveyed R table a i).count + 1;
        weight = (surveyed R table a i).weight + weight R (size table i);
        oldest = oldest table (i + 1);
      }
  unfolding next
  surveyed_quarantined is =
      let not_live : state table i ≢ live = λ e. absurd (omega arith) in
      next_is ∙ ap₂ next (ne_eqb (state table i) live not_live) (eq-eqb (state table i) quarantined is)
      ∙ simp or_nothing

  -- a row in another state adds nothing
  pub surveyed_other : state table i ≢ live → state table i ≢ quarantined → surveyed R table a (i + 1)
      ≡ surveyed R table a i
  unfolding surveyed next
  surveyed_other not_live not_held =
      next_is ∙ ap₂ next (ne_eqb (state table i) live not_live) (ne_eqb (state table i) quarantined not_held)
      ∙ simp (or_nothing, or-false, add-zero, oldest_passed table i not_held)

  pub surveyed_oldest : (surveyed R table a i).oldest ≡ oldest table i
  unfolding surveyed
  surveyed_oldest = refl

  -- neither sum wraps: there are at most as many as rows, and none weighs more than 33 bits
  pub count_most : (surveyed R table a i).count ≤ i
  unfolding surveyed
  count_most = omega (arith, quarantined_most (λ _. 1) 1 table i (λ j below. omega arith))

  pub weight_upto : R ≤ most_redzone → ((j : ℕ) → Fits w32 (get_or table j 0))
      → (surveyed R table a i).weight ≤ i * 2 ^ 33
  unfolding surveyed column
  weight_upto near fits =
      omega (
        arith,
        quarantined_most (weight R) (2 ^ 33) table i
            (λ j below. weight_most R (size table j) near (omega (arith, fits (row_numbers * j + size_column)))),
      )

  -- none of the rows, and all of them
  pub survey_none : surveyed R table a 0 ≡ record { live = None; again = false; count = 0; weight = 0; oldest = None }
  unfolding surveyed lowest total oldest
  survey_none = refl

  pub survey_all : i ≡ rows table → surveyed R table a i ≡ survey R table a
  unfolding surveyed survey row_at in_quarantine weights
  survey_all all = ap (surveyed R table a) all

pub ruleset survey_walk = (survey_none, survey_all)

pub ruleset survey_next = (
  surveyed_live,
  surveyed_other,
  surveyed_oldest,
  count_most,
  weight_upto,
  rows_are,
  weight_size,
)
