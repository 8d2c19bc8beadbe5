-- The laws of the two published address maps: each row of the printed tables, low memory into low shadow, high memory
-- into high shadow, any shadow address into the gap, and one shadow byte exactly for one granule. Assumes nothing.
use Prim.Native.Nat.{ℕ, ◌+◌, ◌/◌, ◌≤◌, ◌<◌}
use native.Mathlib.Omega.{arith}
use mathlib.Core.Path.{◌≡◌, refl, ap, ◌∙◌}
use borrow.Author.Tests.{le-leb, lt-leb}
use Rattle.rules.specs.declared.Region.{Region}
use Rattle.rules.specs.declared.Region.TheVariants.{Nowhere, LowMem, LowShadow, ShadowGap, HighShadow, HighMem}
use Rattle.rules.specs.Limits.{granule}
use Rattle.rules.specs.Answers.{map_status}
use Rattle.rules.specs.declared.Map.{Map}
use Rattle.rules.specs.Maps.{map32, map64, shadow_address, region, region_number, map_answer, map_shadow}
use Rattle.rules.specs.Maps.{mapped, map_call, Published}
use Rattle.rules.proofs.Tests.{if_false, if_true}

pub published32 : Published map32
published32 = omega arith

pub published64 : Published map64
published64 = omega arith

module _ (map : Map) (p : Published map) where
  -- the rows of the table: an address is in the region whose bounds it is between
  pub in_low_mem : (a : ℕ) → a ≤ map.low_mem → region map a ≡ LowMem
  unfolding region
  in_low_mem a last = if_true _ _ (le-leb a map.low_mem last)

  pub in_low_shadow : (a : ℕ) → map.low_mem < a → a ≤ map.low_shadow → region map a ≡ LowShadow
  unfolding region
  in_low_shadow a first last =
      if_false _ _ (lt-leb a map.low_mem first) ∙ if_true _ _ (le-leb a map.low_shadow last)

  pub in_gap : (a : ℕ) → map.low_shadow < a → a ≤ map.shadow_gap → region map a ≡ ShadowGap
  unfolding region
  in_gap a first last =
      if_false _ _ (lt-leb a map.low_mem (omega (arith, p.low)))
      ∙ if_false _ _ (lt-leb a map.low_shadow first)
      ∙ if_true _ _ (le-leb a map.shadow_gap last)

  pub in_high_shadow : (a : ℕ) → map.shadow_gap < a → a ≤ map.high_shadow → region map a ≡ HighShadow
  unfolding region
  in_high_shadow a first last =
      if_false _ _ (lt-leb a map.low_mem (omega (arith, p.low, p.gap)))
      ∙ if_false _ _ (lt-leb a map.low_shadow (omega (arith, p.gap)))
      ∙ if_false _ _ (lt-leb a map.shadow_gap first)
      ∙ if_true _ _ (le-leb a map.high_shadow last)

  pub in_high_mem : (a : ℕ) → map.high_shadow < a → a ≤ map.high_mem → region map a ≡ HighMem
  unfolding region
  in_high_mem a first last =
      if_false _ _ (lt-leb a map.low_mem (omega (arith, p.low, p.gap, p.shadow)))
      ∙ if_false _ _ (lt-leb a map.low_shadow (omega (arith, p.gap, p.shadow)))
      ∙ if_false _ _ (lt-leb a map.shadow_gap (omega (arith, p.shadow)))
      ∙ if_false _ _ (lt-leb a map.high_shadow first)
      ∙ if_true _ _ (le-leb a map.high_mem last)

  pub beyond : (a : ℕ) → map.high_mem < a → region map a ≡ Nowhere
  unfolding region
  beyond a past =
      if_false _ _ (lt-leb a map.low_mem (omega (arith, p.low, p.gap, p.shadow, p.high)))
      ∙ if_false _ _ (lt-leb a map.low_shadow (omega (arith, p.gap, p.shadow, p.high)))
      ∙ if_false _ _ (lt-leb a map.shadow_gap (omega (arith, p.shadow, p.high)))
      ∙ if_false _ _ (lt-leb a map.high_shadow (omega (arith, p.high)))
      ∙ if_false _ _ (lt-leb a map.high_mem past)

  -- low memory maps into low shadow, high into high
  pub low_into_low : (a : ℕ) → a ≤ map.low_mem → region map (shadow_address map a) ≡ LowShadow
  unfolding shadow_address
  low_into_low a last =
      in_low_shadow (a / granule + map.offset) (omega (arith, p.low_shadow_first)) (omega (arith, p.low_shadow_last))

  pub high_into_high : (a : ℕ) → map.high_shadow < a → a ≤ map.high_mem → region map (shadow_address map a)
      ≡ HighShadow
  unfolding shadow_address
  high_into_high a first last =
      in_high_shadow (a / granule + map.offset) (omega (arith, p.high_shadow_first))
      (omega (arith, p.high_shadow_last))

  -- and any shadow address into the gap
  pub low_shadow_into_gap : (a : ℕ) → map.low_mem < a → a ≤ map.low_shadow → region map (shadow_address map a)
      ≡ ShadowGap
  unfolding shadow_address
  low_shadow_into_gap a first last =
      in_gap (a / granule + map.offset) (omega (arith, p.gap_first)) (omega (arith, p.gap_last, p.gap, p.shadow))

  pub high_shadow_into_gap : (a : ℕ) → map.shadow_gap < a → a ≤ map.high_shadow
      → region map (shadow_address map a) ≡ ShadowGap
  unfolding shadow_address
  high_shadow_into_gap a first last =
      in_gap (a / granule + map.offset) (omega (arith, p.gap_first, p.low, p.gap)) (omega (arith, p.gap_last))

-- two addresses share a shadow byte exactly when they share a granule
pub share : (map : Map) (a b : ℕ) → a / granule ≡ b / granule → shadow_address map a ≡ shadow_address map b
unfolding shadow_address
share map a b e = ap (λ g. g + map.offset) e

pub shared : (map : Map) (a b : ℕ) → shadow_address map a ≡ shadow_address map b → a / granule ≡ b / granule
unfolding shadow_address
shared map a b e = omega arith

-- ---- what the call hands back

pub map_call_at : (map : Map) (a : ℕ) (r : Region) → region map a ≡ r
    → map_call map a ≡ mapped r (shadow_address map a)
unfolding map_call
map_call_at map a r e = ap (λ (s : Region). mapped s (shadow_address map a)) e

-- 31 beyond the last address: no region, shadow address 0
pub map_beyond : (map : Map) → Published map → (a : ℕ) → map.high_mem < a → map_call map a
    ≡ record { status = 31; region = 0; shadow = 0 }
unfolding map_status map_answer region_number map_shadow
map_beyond map p a past = map_call_at map a Nowhere (beyond map p a past)

-- 32 in the gap: the gap, shadow address 0
pub map_gap : (map : Map) → Published map → (a : ℕ) → map.low_shadow < a → a ≤ map.shadow_gap
    → map_call map a ≡ record { status = 32; region = 3; shadow = 0 }
unfolding map_status map_answer region_number map_shadow
map_gap map p a first last = map_call_at map a ShadowGap (in_gap map p a first last)

-- ---- the printed tables, a region's first and last address a line

-- both ends of a row lie in its region
abbrev Row : Map → Region → ℕ → ℕ → Type 0
Row map r first last = (region map first ≡ r) × (region map last ≡ r)

pub printed32 :
    Row map32 LowMem 0 0x1fff_ffff
    × Row map32 LowShadow 0x2000_0000 0x23ff_ffff
    × Row map32 ShadowGap 0x2400_0000 0x27ff_ffff
    × Row map32 HighShadow 0x2800_0000 0x3fff_ffff
    × Row map32 HighMem 0x4000_0000 0xffff_ffff
    × (region map32 0x1_0000_0000 ≡ Nowhere)
unfolding region
printed32 = ((refl, refl), (refl, refl), (refl, refl), (refl, refl), (refl, refl), refl)

pub printed64 :
    Row map64 LowMem 0 0x7fff_7fff
    × Row map64 LowShadow 0x7fff_8000 0x8fff_6fff
    × Row map64 ShadowGap 0x8fff_7000 0x0200_8fff_6fff
    × Row map64 HighShadow 0x0200_8fff_7000 0x1000_7fff_7fff
    × Row map64 HighMem 0x1000_7fff_8000 0x7fff_ffff_ffff
    × (region map64 0x8000_0000_0000 ≡ Nowhere)
unfolding region
printed64 = ((refl, refl), (refl, refl), (refl, refl), (refl, refl), (refl, refl), refl)
