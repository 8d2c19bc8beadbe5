-- A release by what its one pass over the rows finds. Assumes nothing.
use Prim.Native.Nat.{ℕ, ◌<◌}
use mathlib.Core.Path.{◌≡◌, sym, ap, ◌∙◌}
use mathlib.Core.Logic.{◌≢◌}
use mathlib.Core.Bool.{true, false, true≢false}
use mathlib.Core.List.{List}
use Rattle.std.specs.Prelude.{Some, None, Ok, Err}
use Rattle.rules.specs.declared.Refusal.TheVariants.{NotHeld, Released}
use Rattle.rules.specs.Limits.{live, quarantined}
use Rattle.rules.specs.Lowest.{found}
use Rattle.rules.specs.Table.{rows, state}
use Rattle.rules.specs.Grant.{acted}
use Rattle.rules.specs.Release.{Settled, row_at, settle, quarantine_row, release_row, release}
use Rattle.rules.proofs.Tests.{by_found}
use Rattle.rules.proofs.Release.{row_at_some, release_nothing, release_done, release_twice, release_foreign}
use Rattle.evictions.specs.Evictions.{pool}

pub row_below : (wanted : ℕ) (table : List ℕ) (a i : ℕ) → row_at wanted table a ≡ Some i → i < rows table
row_below wanted table a i is = (row_at_some wanted table a i is).below

pub row_state : (wanted : ℕ) (table : List ℕ) (a i : ℕ) → row_at wanted table a ≡ Some i → state table i ≡ wanted
row_state wanted table a i is = (row_at_some wanted table a i is).has

module _ (R Q : ℕ) (shadow table : List ℕ) where
  pub released_nothing : (a : ℕ) → a ≡ 0 → release R Q shadow table a ≡ acted (Ok 0) shadow table
  released_nothing a nothing = ap (release R Q shadow table) nothing ∙ release_nothing R Q shadow table

  module _ (a : ℕ) (above : a ≢ 0) where
    pub released_row : (i : ℕ) (after : Settled) → row_at live table a ≡ Some i
        → after ≡ settle R Q (quarantine_row (pool shadow table) i)
        → release R Q shadow table a ≡ acted (Ok after.evicted) after.pool.shadow after.pool.table
    unfolding release_row
    released_row i after is after_is =
        release_done R Q shadow table a i above is
        ∙ sym (ap (λ s. acted (Ok s.evicted) s.pool.shadow s.pool.table) after_is)

    pub released_again : row_at live table a ≡ None → found (row_at quarantined table a) ≡ true
        → release R Q shadow table a ≡ acted (Err Released) shadow table
    released_again no_live again =
        by_found (row_at quarantined table a)
        (λ i is. release_twice R Q shadow table a i above no_live is)
        (λ none. absurd (true≢false (sym again ∙ ap found none)))

    pub released_foreign : row_at live table a ≡ None → found (row_at quarantined table a) ≡ false
        → release R Q shadow table a ≡ acted (Err NotHeld) shadow table
    released_foreign no_live never =
        by_found (row_at quarantined table a)
        (λ i is. absurd (true≢false (sym (ap found is) ∙ never)))
        (λ none. release_foreign R Q shadow table a above no_live none)

pub ruleset releasing = (
  row_below,
  row_state,
  released_nothing,
  released_again,
  released_foreign,
)
