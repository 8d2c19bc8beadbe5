-- Release of address a, the quarantine, and evictions from it.
use Rattle.std.specs.Prelude.{ℕ, zero, suc, ◌+◌, ◌*◌, ◌≡◌, refl, Bool, true, false, ◌&&◌, List, eqb, ltb}
use Rattle.std.specs.Prelude.{Option, Some, None, Ok, Err}
use Rattle.rules.specs.declared.Refusal.TheVariants.{NotHeld, Released}
use Rattle.rules.specs.Limits.{granule, state_column, turn_column, redzone_byte, released_byte, live, quarantined}
use Rattle.rules.specs.Lowest.{lowest, total}
use Rattle.rules.specs.Put.{fill}
use Rattle.rules.specs.Table.{rows, start, size, state, turn, is_quarantined}
use Rattle.rules.specs.Table.{set_number, zero_row, put_row, lessened}
use Rattle.rules.specs.Grant.{Acted, unchanged, granules}

-- row i starts at address a: 8 x start as a whole number, which does not wrap
unfoldable pub starts_at : List ℕ → ℕ → ℕ → Bool
starts_at table a i = eqb (granule * start table i) a

-- the lowest row of a state that starts at a
unfoldable pub row_at : ℕ → List ℕ → ℕ → Option ℕ
row_at wanted table a = lowest (λ i. eqb (state table i) wanted && starts_at table a i) (rows table) 0

-- a number for each quarantined row, and 0 for every other
unfoldable pub if_quarantined : List ℕ → (ℕ → ℕ) → ℕ → ℕ
if_quarantined table f i = elim (is_quarantined table i) [ true ↦ f i | false ↦ 0 ]

-- the number of quarantined rows
unfoldable pub in_quarantine : List ℕ → ℕ
in_quarantine table = total (if_quarantined table (λ _. 1)) (rows table)

-- what a block weighs in the quarantine: the size asked for, whatever the redzone
unfoldable pub weight : ℕ → ℕ → ℕ
weight R s = s

-- the weights of the quarantined rows, summed as whole numbers
unfoldable pub weights : ℕ → List ℕ → ℕ
weights R table = total (if_quarantined table (λ i. weight R (size table i))) (rows table)

-- of two quarantined rows, the later n leaves first only where its turn is lower
unfoldable pub older : List ℕ → Option ℕ → ℕ → ℕ
older table None n = n
older table (Some i) n = elim (ltb (turn table n) (turn table i)) [ true ↦ n | false ↦ i ]

-- of the first n rows, the quarantined one with the lowest turn, on equal turns the lower row
unfoldable pub oldest : List ℕ → ℕ → Option ℕ
oldest table zero = None
oldest table (suc n) =
    elim (is_quarantined table n) [ true ↦ Some (older table (oldest table n) n) | false ↦ oldest table n ]

pub oldest_zero : (table : List ℕ) → oldest table zero ≡ None
unfolding oldest
oldest_zero table = refl

pub oldest_here : (table : List ℕ) (n : ℕ) → is_quarantined table n ≡ true → oldest table (suc n)
    ≡ Some (older table (oldest table n) n)
unfolding oldest
oldest_here table n e = rw (e, oldest)

pub oldest_other : (table : List ℕ) (n : ℕ) → is_quarantined table n ≡ false → oldest table (suc n) ≡ oldest table n
unfolding oldest
oldest_other table n e = rw (e, oldest)

-- shadow and table, which releases and evictions change together
pub record Pool : Type 0 where
  pub shadow : List ℕ
  pub table : List ℕ

-- row i's granules in the shadow become v; of a row past the shadow's end, those that exist
unfoldable pub paint_row : Pool → ℕ → ℕ → List ℕ
paint_row pool i v = fill pool.shadow (start pool.table i) (granules (size pool.table i)) v

-- row i is evicted: granules fa, row emptied, every other row's turn above 0 lessened by one. Its own is 0 by then
unfoldable pub evict_row : Pool → ℕ → Pool
evict_row pool i = record {
  shadow = paint_row pool i redzone_byte;
  table = lessened (put_row pool.table i zero_row) (rows pool.table);
}

-- the one with the lowest turn is evicted, where one is quarantined
unfoldable pub evict_oldest : Pool → Pool
evict_oldest pool = elim (oldest pool.table (rows pool.table)) [ None ↦ pool | Some i ↦ evict_row pool i ]

-- the pool once all evictions are done, and their count
pub record Settled : Type 0 where
  pub pool : Pool
  pub evicted : ℕ

abbrev pub and_one_more : Settled → Settled
and_one_more settled = record { pool = settled.pool; evicted = settled.evicted + 1 }

-- while the weights sum to more than Q, the oldest is evicted; each eviction leaves one fewer quarantined, so as many
-- rounds as are quarantined are enough: `settle_done` and `settle_more`, in the laws, are the equations, and nothing
-- else looks at the count
unfoldable pub settle_in : ℕ → ℕ → ℕ → Pool → Settled
settle_in zero R Q pool = record { pool = pool; evicted = 0 }
settle_in (suc left) R Q pool =
    elim (ltb Q (weights R pool.table)) [
      | true ↦ and_one_more (settle_in left R Q (evict_oldest pool))
      | false ↦ record { pool = pool; evicted = 0 }
    ]

unfoldable pub settle : ℕ → ℕ → Pool → Settled
settle R Q pool = settle_in (in_quarantine pool.table) R Q pool

-- row i becomes quarantined, its granules fd, its turn the number of quarantined rows, itself counted; its other
-- numbers stay
unfoldable pub quarantine_row : Pool → ℕ → Pool
quarantine_row pool i = record {
  shadow = paint_row pool i released_byte;
  table =
      let held : List ℕ = set_number state_column pool.table i quarantined in
      set_number turn_column held i (in_quarantine pool.table + 1);
}

-- the value is the number evicted
unfoldable pub release_row : ℕ → ℕ → Pool → ℕ → Acted
release_row R Q pool i =
    let settled : Settled = settle R Q (quarantine_row pool i) in
    record { answer = Ok settled.evicted; shadow = settled.pool.shadow; table = settled.pool.table }

-- address 0 is done and changes nothing; 07 where no held row starts at a, 08 where no live row does but a quarantined
-- one
unfoldable pub release : ℕ → ℕ → List ℕ → List ℕ → ℕ → Acted
release R Q shadow table a =
    elim (eqb a 0) [
      | true ↦ unchanged (Ok 0) shadow table
      | false ↦
          elim (row_at live table a) [
            | Some i ↦ release_row R Q (record { shadow = shadow; table = table }) i
            | None ↦
                elim (row_at quarantined table a) [
                  | Some i ↦ unchanged (Err Released) shadow table
                  | None ↦ unchanged (Err NotHeld) shadow table
                ]
          ]
    ]
