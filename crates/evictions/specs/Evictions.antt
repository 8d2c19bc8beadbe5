-- What the evictions leave, and what they ask: each leaves what a rule says, and the row to evict next.
use Rattle.std.specs.Prelude.{ℕ, ◌≡◌, List, Option}
use Rattle.rules.specs.Table.{rows, lessened}
use Rattle.rules.specs.Release.{weights, oldest, Pool, evict_row, evict_oldest, Settled}
use Rattle.blocks.specs.Survey.{TableLent}
use Rattle.evictions.specs.declared.Held.{Held}

-- a shadow and a table, lent together
abbrev pub pool : List ℕ → List ℕ → Pool
pool shadow table = record { shadow = shadow; table = table }

abbrev pub settled : List ℕ → List ℕ → ℕ → Settled
settled shadow table evicted = record { pool = pool shadow table; evicted = evicted }

-- the row to evict next
abbrev pub Next : List ℕ → Option ℕ → Type 0
Next table next = next ≡ oldest table (rows table)

-- all turns are lessened
pub record Lessened (before after : List ℕ) (next : Option ℕ) : Type 0 where
  pub table : after ≡ lessened before (rows before)
  pub oldest_next : Next after next

-- row i is evicted
pub record EvictedRow (before : Pool) (i : ℕ) (after : Pool) (next : Option ℕ) : Type 0 where
  pub pool_after : after ≡ evict_row before i
  pub oldest_next : Next after.table next

-- what a table's quarantine weighs, and the row to evict next
pub record Weighed (R : ℕ) (table : List ℕ) (held : Held) : Type 0 where
  pub lent : TableLent R table
  pub weight_is : held.weight ≡ weights R table
  pub oldest_is : Next table held.oldest

-- the oldest is evicted, where one is quarantined
pub record EvictedOldest (R : ℕ) (before after : Pool) (held : Held) : Type 0 where
  pub pool_after : after ≡ evict_oldest before
  pub weighed : Weighed R after.table held
