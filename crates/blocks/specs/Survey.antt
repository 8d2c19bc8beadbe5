-- What one pass over the rows of a table finds: each field is a rule's own search or sum.
use Rattle.std.specs.Prelude.{ℕ, ◌<◌, ◌≤◌, ◌*◌, ◌≡◌, ◌&&◌, List, length, Option, eqb}
use Rattle.rules.specs.Limits.{row_numbers, most_rows, most_redzone, live, quarantined}
use Rattle.rules.specs.Lowest.{lowest, found, total}
use Rattle.rules.specs.Table.{rows, size, state}
use Rattle.rules.specs.Release.{starts_at, row_at, if_quarantined, in_quarantine, weight, weights, oldest}
use Rattle.blocks.specs.declared.rows.Seen.{Seen}

-- a row of the table, and one of its numbers
pub record InRow (table : List ℕ) (i k : ℕ) : Type 0 where
  pub below : i < rows table
  pub in_row : k < row_numbers

-- a lent table has at most so many rows, and the redzone is within its limit: then no weight wraps in 64 bits
pub record TableLent (R : ℕ) (table : List ℕ) : Type 0 where
  pub most : length table ≤ row_numbers * most_rows
  pub near : R ≤ most_redzone

-- the lowest live row that starts at a, whether a quarantined one does, how many are quarantined, what they weigh, the
-- one to evict
unfoldable pub survey : ℕ → List ℕ → ℕ → Seen
survey R table a = record {
  live = row_at live table a;
  again = found (row_at quarantined table a);
  count = in_quarantine table;
  weight = weights R table;
  oldest = oldest table (rows table);
}

-- the same of the first n rows
unfoldable pub surveyed : ℕ → List ℕ → ℕ → ℕ → Seen
surveyed R table a n = record {
  live = lowest (λ i. eqb (state table i) live && starts_at table a i) n 0;
  again = found (lowest (λ i. eqb (state table i) quarantined && starts_at table a i) n 0);
  count = total (if_quarantined table (λ _. 1)) n;
  weight = total (if_quarantined table (λ i. weight R (size table i))) n;
  oldest = oldest table n;
}

-- row i comes next, and `earlier` is the oldest of the rows before it
pub record OldestSoFar (table : List ℕ) (earlier : Option ℕ) (i : ℕ) : Type 0 where
  pub below : i < rows table
  pub before : earlier ≡ oldest table i

-- row i comes next, and `seen` is what was found before it
pub record SurveySoFar (R : ℕ) (table : List ℕ) (a i : ℕ) (seen : Seen) : Type 0 where
  pub lent : TableLent R table
  pub below : i < rows table
  pub before : seen ≡ surveyed R table a i
