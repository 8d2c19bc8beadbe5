-- Evictions one at a time: what one leaves, and that none is left to do exactly once the weights are within the limit.
-- Assumes nothing.
use Prim.Native.Nat.{ℕ, ◌+◌, ◌≤◌, ◌<◌}
use native.Mathlib.Nat.{zero-add}
use native.Mathlib.Omega.{arith}
use mathlib.Core.Path.{◌≡◌, refl, sym, ap, ◌∙◌}
use mathlib.Core.List.{List}
use lib.ListN.{length}
use Rattle.std.specs.Prelude.{Some, None}
use Rattle.rules.specs.Limits.{redzone_byte}
use Rattle.rules.specs.Put.{fill}
use Rattle.rules.specs.Table.{rows, start, size, zero_row, put_row, lessened}
use Rattle.rules.specs.Grant.{granules}
use Rattle.rules.specs.Release.{weight, weights, oldest, Pool, Settled, paint_row, evict_row, evict_oldest}
use Rattle.rules.specs.Release.{settle}
use Rattle.rules.proofs.Release.{Oldest, oldest_some, evict_row_length, evict_row_weights, evict_oldest_is, weights_of}
use Rattle.rules.proofs.Release.{evicted_most, settle_done, settle_more}
use Rattle.blocks.proofs.Survey.{oldest_below}
use Rattle.evictions.specs.Evictions.{pool, settled}

-- ---- one eviction

pub evict_row_is : (shadow table : List ℕ) (i : ℕ) → evict_row (pool shadow table) i
    ≡ pool (fill shadow (start table i) (granules (size table i)) redzone_byte)
    (lessened (put_row table i zero_row) (rows table))
unfolding evict_row paint_row
evict_row_is shadow table i = refl

-- the row to evict is in the quarantine, and weighs no more than all
pub oldest_weight : (R : ℕ) (table : List ℕ) (i : ℕ) → oldest table (rows table) ≡ Some i
    → weight R (size table i) ≤ weights R table
oldest_weight R table i is =
    let o = oldest_some table (rows table) i is in
    weights_of R table i o.below o.held

module _ (R : ℕ) (before : Pool) where
  pub none_evicted : oldest before.table (rows before.table) ≡ None → evict_oldest before ≡ before
  unfolding evict_oldest
  none_evicted nothing = rw (nothing, evict_oldest)

  module _ (i : ℕ) (is : oldest before.table (rows before.table) ≡ Some i) where
    evicted_row : Oldest before.table (rows before.table) i
    evicted_row = oldest_some before.table (rows before.table) i is

    pub evicted_is : evict_row before i ≡ evict_oldest before
    evicted_is = sym (evict_oldest_is before i is)

    pub evicted_length : length (evict_row before i).table ≡ length before.table
    evicted_length = evict_row_length before i evicted_row.below

    pub evicted_weights : weights R before.table ≡ weights R (evict_row before i).table + weight R (size before.table i)
    evicted_weights = evict_row_weights before i evicted_row.below R evicted_row.held

-- ---- all of them

-- so many evictions, and then those
unfoldable pub later : ℕ → Settled → Settled
later n t = record { pool = t.pool; evicted = n + t.evicted }

module _ (R Q : ℕ) (start : Pool) where
  pub rest_start : settle R Q start ≡ later 0 (settle R Q start)
  unfolding later
  rest_start = ap (settled (settle R Q start).pool.shadow (settle R Q start).pool.table)
      (sym (zero-add (settle R Q start).evicted))

  module _ (here : Pool) (n : ℕ) (rest : settle R Q start ≡ later n (settle R Q here)) where
    -- once the weights are within the limit, all is done
    pub rest_done : weights R here.table ≤ Q → settled here.shadow here.table n ≡ settle R Q start
    unfolding later
    rest_done light =
        sym (rest ∙ ap (later n) (settle_done R Q here light) ∙ ap (settled here.shadow here.table) (omega arith))

    -- until then one more is evicted, and no more than there are rows
    pub rest_next : Q < weights R here.table → settle R Q start ≡ later (n + 1) (settle R Q (evict_oldest here))
    unfolding later
    rest_next heavy =
        let left : Settled = settle R Q (evict_oldest here) in
        rest ∙ ap (later n) (settle_more R Q here heavy) ∙ ap (settled left.pool.shadow left.pool.table) (omega arith)

    pub rest_most : Q < weights R here.table → n < rows start.table
    unfolding later
    rest_most heavy = omega (arith, ap (λ t. t.evicted) (rest_next heavy), evicted_most R Q start)

pub ruleset one_evicted = (oldest_below, oldest_weight, none_evicted, evicted_is, evicted_length, evicted_weights)

pub ruleset all_evicted = (rest_start, rest_done)
