-- The two published address maps.
use Rattle.std.specs.Prelude.{ℕ, ◌+◌, ◌/◌, ◌<◌, ◌≡◌, true, false, leb}
use Rattle.std.specs.Prelude.{Ok, Err}
use Rattle.rules.specs.declared.MapRefusal.TheVariants.{BeyondMap, InGap}
use Rattle.rules.specs.Answers.{MapAnswer}
use Rattle.rules.specs.declared.Region.{Region}
use Rattle.rules.specs.declared.Region.TheVariants.{Nowhere, LowMem, LowShadow, ShadowGap, HighShadow, HighMem}
use Rattle.rules.specs.declared.Map.{Map}
use Rattle.rules.specs.declared.Mapped.{Mapped}
use Rattle.rules.specs.Limits.{granule}
use Rattle.rules.specs.Answers.{map_status}

-- the printed table, a column a map
abbrev pub map32 : Map
map32 = record {
  offset = 0x2000_0000;
  low_mem = 0x1fff_ffff;
  low_shadow = 0x23ff_ffff;
  shadow_gap = 0x27ff_ffff;
  high_shadow = 0x3fff_ffff;
  high_mem = 0xffff_ffff;
}

abbrev pub map64 : Map
map64 = record {
  offset = 0x7fff_8000;
  low_mem = 0x7fff_7fff;
  low_shadow = 0x8fff_6fff;
  shadow_gap = 0x0200_8fff_6fff;
  high_shadow = 0x1000_7fff_7fff;
  high_mem = 0x7fff_ffff_ffff;
}

-- shadow address = address / 8 rounded down, plus the offset
unfoldable pub shadow_address : Map → ℕ → ℕ
shadow_address map a = a / granule + map.offset

-- how a published map's regions lie: one above the other, and each shadow where its memory maps
pub record Published (map : Map) : Type 0 where
  pub low : map.low_mem < map.low_shadow
  pub gap : map.low_shadow < map.shadow_gap
  pub shadow : map.shadow_gap < map.high_shadow
  pub high : map.high_shadow < map.high_mem
  pub low_shadow_first : map.offset ≡ map.low_mem + 1
  pub low_shadow_last : map.low_mem / granule + map.offset ≡ map.low_shadow
  pub high_shadow_first : (map.high_shadow + 1) / granule + map.offset ≡ map.shadow_gap + 1
  pub high_shadow_last : map.high_mem / granule + map.offset ≡ map.high_shadow
  pub gap_first : (map.low_mem + 1) / granule + map.offset ≡ map.low_shadow + 1
  pub gap_last : map.high_shadow / granule + map.offset ≡ map.shadow_gap

-- the region that an address is in; none beyond the last address
unfoldable pub region : Map → ℕ → Region
region map a =
    elim (leb a map.low_mem) [
      | true ↦ LowMem
      | false ↦
          elim (leb a map.low_shadow) [
            | true ↦ LowShadow
            | false ↦
                elim (leb a map.shadow_gap) [
                  | true ↦ ShadowGap
                  | false ↦
                      elim (leb a map.high_shadow) [
                        | true ↦ HighShadow
                        | false ↦ elim (leb a map.high_mem) [ true ↦ HighMem | false ↦ Nowhere ]
                      ]
                ]
          ]
    ]

-- a region's number, as the call hands it back: none is 0, then the table's order
unfoldable pub region_number : Region → ℕ
region_number Nowhere = 0
region_number LowMem = 1
region_number LowShadow = 2
region_number ShadowGap = 3
region_number HighShadow = 4
region_number HighMem = 5

-- done, 31 where the address is in no region, 32 where it is in the gap
unfoldable pub map_answer : Region → MapAnswer
map_answer Nowhere = Err BeyondMap
map_answer LowMem = Ok tt
map_answer LowShadow = Ok tt
map_answer ShadowGap = Err InGap
map_answer HighShadow = Ok tt
map_answer HighMem = Ok tt

-- 31 and 32 give shadow address 0
unfoldable pub map_shadow : Region → ℕ → ℕ
map_shadow Nowhere s = 0
map_shadow LowMem s = s
map_shadow LowShadow s = s
map_shadow ShadowGap s = 0
map_shadow HighShadow s = s
map_shadow HighMem s = s

-- the region and the shadow address, of an address in this region
abbrev pub mapped : Region → ℕ → Mapped
mapped r s = record { status = map_status (map_answer r); region = region_number r; shadow = map_shadow r s }

unfoldable pub map_call : Map → ℕ → Mapped
map_call map a = mapped (region map a) (shadow_address map a)
