-- Demand 2: shadow bytes, verdicts, places and both address maps, as published.
use Rattle.std.specs.Prelude.{ℕ, ◌+◌, ◌*◌, ◌/◌, ◌%◌, ◌≤◌, ◌<◌, ◌≡◌, ◌↔◌, true, List, length, get_or, replicate}
use Rattle.std.specs.Prelude.{Some, None}
use Rattle.rules.specs.declared.Map.{Map}
use Rattle.rules.specs.Table.{start, size}
use Rattle.rules.specs.Shadow.{leading, negative, addressable, kind, judge, good, bad, AllGood, FirstBad}
use Rattle.rules.specs.Grant.{granules, place, granted, Fits, Place}
use Rattle.rules.specs.Release.{Pool, evict_row, quarantine_row}
use Rattle.rules.specs.Calls.{open_with}
use Rattle.rules.specs.Maps.{map32, map64, map_call}

-- ---- the shadow byte

-- 00: all 8 bytes addressable. 01 to 07: the first k only. Any other value: none; read as a signed byte, negative means
-- poisoned
pub record ShadowBytes : Type 0 where
  pub all : leading 0 ≡ 8
  pub first : (k : ℕ) → 0 < k → k < 8 → leading k ≡ k
  pub poisoned : (v : ℕ) → 8 ≤ v → leading v ≡ 0
  pub signed : (v : ℕ) → negative v ≡ true → leading v ≡ 0
  -- fa throughout at an opening
  pub opened : (shadow table : List ℕ) (R Q : ℕ) → (open_with shadow table R Q).given.status ≡ 0
      → (open_with shadow table R Q).shadow ≡ replicate (length shadow) 0xfa
  -- a block of s bytes: a shadow byte for each of its granules, whole ones 00, and a remainder in the last
  pub granules_painted : (s : ℕ) → length (granted s) ≡ granules s
  pub whole : (s k : ℕ) → k < s / 8 → get_or (granted s) k 0 ≡ 0
  pub remainder : (s : ℕ) → 0 < s % 8 → get_or (granted s) (s / 8) 0 ≡ s % 8
  -- a released block's granules fd, an evicted one's fa
  pub released : (pool : Pool) (i g : ℕ) → start pool.table i ≤ g
      → g < start pool.table i + granules (size pool.table i)
      → g < length pool.shadow → get_or (quarantine_row pool i).shadow g 0 ≡ 0xfd
  pub evicted : (pool : Pool) (i g : ℕ) → start pool.table i ≤ g
      → g < start pool.table i + granules (size pool.table i)
      → g < length pool.shadow → get_or (evict_row pool i).shadow g 0 ≡ 0xfa

-- ---- the range rule

-- a byte is addressable exactly when it is inside the arena and among its granule's addressable bytes; an access is
-- good exactly when every touched byte is, and else bad with the first that is not, and its granule's shadow byte, or
-- ff outside the arena
pub record Verdicts : Type 0 where
  pub byte : (shadow : List ℕ) (b : ℕ) → (addressable shadow b ≡ true)
      ↔ ((b < 8 * length shadow) × (b % 8 < leading (get_or shadow (b / 8) 0)))
  pub good : (shadow : List ℕ) (a n : ℕ) → (judge shadow a n ≡ good) ↔ AllGood shadow a (a + n)
  pub bad : (shadow : List ℕ) (a n k b : ℕ) → (judge shadow a n ≡ bad k b)
      ↔ (FirstBad shadow a n b × (k ≡ kind shadow b))
  pub kind_inside : (shadow : List ℕ) (b : ℕ) → b < 8 * length shadow → kind shadow b ≡ get_or shadow (b / 8) 0
  pub kind_outside : (shadow : List ℕ) (b : ℕ) → 8 * length shadow ≤ b → kind shadow b ≡ 0xff

-- ---- places

-- the lowest start with R granules of fa on both sides, and none exactly when there is none
pub record Places : Type 0 where
  pub lowest : (shadow : List ℕ) (R u p : ℕ) → (place shadow R u ≡ Some p) ↔ Place shadow R u p
  pub nowhere : (shadow : List ℕ) (R u : ℕ) → (place shadow R u ≡ None) ↔ ((p : ℕ) → Fits shadow R u p → ⊥)

-- ---- the address maps

-- a printed table, by the offset and the last address of each region, in its order: each address has the number of its
-- region and its shadow address, / 8 rounded down plus the offset; 32 in the gap, and 31 beyond the last
pub record Printed (map : Map) (offset low_mem low_shadow gap high_shadow high_mem : ℕ) : Type 0 where
  pub in_low_mem : (a : ℕ) → a ≤ low_mem → map_call map a ≡ record { status = 0; region = 1; shadow = a / 8 + offset }
  pub in_low_shadow : (a : ℕ) → low_mem < a → a ≤ low_shadow
      → map_call map a ≡ record { status = 0; region = 2; shadow = a / 8 + offset }
  pub in_gap : (a : ℕ) → low_shadow < a → a ≤ gap → map_call map a ≡ record { status = 32; region = 3; shadow = 0 }
  pub in_high_shadow : (a : ℕ) → gap < a → a ≤ high_shadow
      → map_call map a ≡ record { status = 0; region = 4; shadow = a / 8 + offset }
  pub in_high_mem : (a : ℕ) → high_shadow < a → a ≤ high_mem
      → map_call map a ≡ record { status = 0; region = 5; shadow = a / 8 + offset }
  pub beyond : (a : ℕ) → high_mem < a → map_call map a ≡ record { status = 31; region = 0; shadow = 0 }

-- the two tables
abbrev pub Map32 : Type 0
Map32 = Printed map32 0x2000_0000 0x1fff_ffff 0x23ff_ffff 0x27ff_ffff 0x3fff_ffff 0xffff_ffff

abbrev pub Map64 : Type 0
Map64 = Printed map64 0x7fff_8000 0x7fff_7fff 0x8fff_6fff 0x0200_8fff_6fff 0x1000_7fff_7fff 0x7fff_ffff_ffff
