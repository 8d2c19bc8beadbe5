-- A row that enters the quarantine is the oldest, or the one that was stays so: by their turns, and on equal turns by
-- the rows. Assumes nothing.
use Prim.Native.Nat.{ℕ, ◌+◌, ◌*◌, ◌^◌, ◌≤◌, ◌<◌}
use native.Mathlib.Omega.{arith}
use mathlib.Core.Path.{◌≡◌, refl, sym, ap, ◌∙◌}
use mathlib.Core.Logic.{◌≢◌}
use mathlib.Core.Bool.{false, true≢false}
use mathlib.Core.List.{List, []}
use lib.ListN.{length, get_or}
use mir.Syntax.{w32}
use mir.Val.{Fits}
use borrow.Author.Tests.{lt-ltb, le-ltb, ne_eqb}
use Rattle.std.specs.Prelude.{Some, None}
use Rattle.rules.specs.Limits.{state_column, turn_column, most_redzone, live, quarantined}
use Rattle.rules.specs.Table.{rows, size, state, turn, is_quarantined, set_number}
use Rattle.rules.specs.Release.{in_quarantine, weight, weights, oldest, Pool, quarantine_row}
use Rattle.rules.proofs.Tests.{by_found, by_order, if_true, if_false}
use Rattle.rules.proofs.Table.{rows_same}
use Rattle.rules.proofs.Release.{Oldest, oldest_some, in_quarantine_most, weight_size, quarantine_row_lengths}
use Rattle.rules.proofs.Release.{quarantine_row_other, quarantine_row_weights, quarantine_row_alone}
use Rattle.rules.proofs.Release.{quarantine_row_oldest, quarantine_row_younger}
use Rattle.blocks.specs.Survey.{surveyed}
use Rattle.blocks.proofs.Survey.{rows_are, oldest_below, weight_upto}
use Rattle.evictions.specs.Evictions.{pool}
use Rattle.quarantine.specs.Quarantine.{first_to_leave}

module _ (table : List ℕ) (i k : ℕ) where
  pub leaves_lower : turn table i < turn table k → first_to_leave table i (Some k) ≡ Some i
  unfolding first_to_leave
  leaves_lower less = if_true _ _ (lt-ltb (turn table i) (turn table k) less)

  pub leaves_higher : turn table k < turn table i → first_to_leave table i (Some k) ≡ Some k
  unfolding first_to_leave
  leaves_higher more =
      if_false _ _ (le-ltb (turn table i) (turn table k) (omega arith))
      ∙ if_true _ _ (lt-ltb (turn table k) (turn table i) more)

  module _ (equal : turn table i ≡ turn table k) where
    pub leaves_first : i ≤ k → first_to_leave table i (Some k) ≡ Some i
    unfolding first_to_leave
    leaves_first first =
        if_false _ _ (le-ltb (turn table i) (turn table k) (omega arith))
        ∙ if_false _ _ (le-ltb (turn table k) (turn table i) (omega arith))
        ∙ by_order i k
        (λ less. if_true _ _ (lt-ltb i k less))
        (λ more. if_false _ _ (le-ltb i k more) ∙ ap Some (omega arith))

    pub leaves_second : k < i → first_to_leave table i (Some k) ≡ Some k
    unfolding first_to_leave
    leaves_second second =
        if_false _ _ (le-ltb (turn table i) (turn table k) (omega arith))
        ∙ if_false _ _ (le-ltb (turn table k) (turn table i) (omega arith))
        ∙ if_false _ _ (le-ltb i k (omega arith))

pub leaves_alone : (table : List ℕ) (i : ℕ) → first_to_leave table i None ≡ Some i
unfolding first_to_leave
leaves_alone table i = refl

pub ruleset leaves = (leaves_lower, leaves_higher, leaves_first, leaves_second, leaves_alone)

-- row i of a table, live so far, with its own state and turn
module _ (R : ℕ) (table : List ℕ) (i : ℕ) (below : i < rows table) (is_live : state table i ≡ live) where
  abbrev entered : List ℕ
  entered = set_number turn_column (set_number state_column table i quarantined) i (in_quarantine table + 1)

  not_held : is_quarantined table i ≡ false
  not_held = ne_eqb (state table i) quarantined (omega arith)

  pub entered_length : length entered ≡ length table
  unfolding quarantine_row
  entered_length = (quarantine_row_lengths (pool [] table) i below).1

  pub entered_weights : weights R entered ≡ weights R table + weight R (size table i)
  unfolding quarantine_row
  entered_weights = quarantine_row_weights (pool [] table) i below R not_held

  -- against the oldest before it
  against : (k : ℕ) → oldest table (rows table) ≡ Some k → first_to_leave entered i (Some k)
      ≡ oldest entered (rows table)
  unfolding quarantine_row
  against k e =
      let whole : Pool = pool [] table in
      let o : Oldest table (rows table) k = oldest_some table (rows table) k e in
      let apart : k ≢ i = λ same. true≢false (sym o.held ∙ ap (is_quarantined table) same ∙ not_held) in
      let kept : turn entered k ≡ turn table k =
      quarantine_row_other whole i below turn_column k (omega arith) apart in
      by_order (turn entered i) (turn entered k)
      (λ less.
      leaves_lower entered i k less
      ∙ sym (quarantine_row_oldest whole i below k e apart (omega arith) (λ b. omega arith)))
      (λ more.
      by_order (turn entered k) (turn entered i)
      (λ higher.
      leaves_higher entered i k higher
      ∙ sym (quarantine_row_younger whole i below k e apart (omega arith) (λ b. omega arith)))
      (λ equal.
      by_order i k
      (λ first.
      leaves_first entered i k (omega arith) (omega arith)
      ∙ sym (quarantine_row_oldest whole i below k e apart (omega arith) (λ b. absurd (omega arith))))
      (λ second.
      leaves_second entered i k (omega arith) (omega arith)
      ∙ sym (quarantine_row_younger whole i below k e apart (omega arith) (λ b. absurd (omega arith))))))

  pub entered_oldest : first_to_leave entered i (oldest table (rows table)) ≡ oldest entered (rows entered)
  unfolding quarantine_row
  entered_oldest =
      by_found (oldest table (rows table))
      (λ k e. ap (first_to_leave entered i) e ∙ against k e)
      (λ e. ap (first_to_leave entered i) e ∙ leaves_alone entered i
      ∙ sym (quarantine_row_alone (pool [] table) i below e))
      ∙ ap (oldest entered) (sym (rows_same entered table entered_length))

pub weights_upto : (R : ℕ) (table : List ℕ) → R ≤ most_redzone → ((j : ℕ) → Fits w32 (get_or table j 0))
    → weights R table ≤ rows table * 2 ^ 33
unfolding weights surveyed
weights_upto R table near fits = weight_upto R table 0 (rows table) near fits

pub ruleset entering = (in_quarantine_most, weights_upto, weight_size, oldest_below, rows_are)
