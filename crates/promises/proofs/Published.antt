-- Demand 2: shadow bytes, verdicts, places and both address maps are as published; read off the laws of `rules`.
-- Assumes nothing.
use native.Mathlib.Omega.{arith}
use mathlib.Core.Path.{◌≡◌, sym, ap, ◌∙◌, refl}
use lib.ListN.{length, get_or, replicate}
use Rattle.rules.specs.declared.Region.TheVariants.{LowMem, LowShadow, HighShadow, HighMem}
use Rattle.rules.specs.declared.Map.{Map}
use Rattle.rules.specs.Limits.{redzone_byte, released_byte}
use Rattle.rules.specs.Shadow.{shadow_of, bad}
use Rattle.rules.specs.Answers.{opening_status, map_status}
use Rattle.rules.specs.Release.{quarantine_row}
use Rattle.rules.specs.Maps.{map32, map64, shadow_address, region_number, map_answer, map_shadow, Published}
use Rattle.rules.proofs.Shadow.{leading_all, leading_first, leading_none, negative_poisoned, judge_good, judge_bad}
use Rattle.rules.proofs.Shadow.{good_judge, bad_judge, addressable_inside, addressable_leading, addressable_is}
use Rattle.rules.proofs.Shadow.{kind_inside, kind_outside}
use Rattle.rules.proofs.Grant.{place_some, place_none, place_is, place_no, length_granted, granted_whole, granted_last}
use Rattle.rules.proofs.Release.{evict_row_shadow, paint_row_in}
use Rattle.rules.proofs.Calls.{by_open}
use Rattle.rules.proofs.Maps.{published32, published64, in_low_mem, in_low_shadow, in_high_shadow, in_high_mem}
use Rattle.rules.proofs.Maps.{map_call_at, map_gap, map_beyond}
use Rattle.promises.specs.Published.{ShadowBytes, Verdicts, Places, Printed, Map32, Map64}

-- what a shadow byte says, and the bytes that a grant paints
pub shadow_bytes : ShadowBytes
unfolding opening_status quarantine_row
shadow_bytes = record {
  all = leading_all;
  first = leading_first;
  poisoned = leading_none;
  signed = negative_poisoned;
  opened = λ shadow table R Q.
      by_open shadow table R Q (λ o. o.given.status ≡ 0 → o.shadow ≡ replicate (length shadow) redzone_byte)
      (λ a e. absurd (omega arith)) (λ a b e. absurd (omega arith)) (λ a b c e. absurd (omega arith)) (λ e. refl);
  granules_painted = length_granted;
  whole = granted_whole;
  remainder = λ s some·. granted_last s;
  released = λ pool i g from below exists. paint_row_in pool i released_byte g from below exists;
  evicted =
      λ pool i g from below exists. ap (λ l. get_or l g 0) (evict_row_shadow pool i)
      ∙ paint_row_in pool i redzone_byte g from below exists;
}

-- good exactly when every touched byte is, and else the first that is not with its kind
pub verdicts : Verdicts
unfolding shadow_of
verdicts = record {
  byte = λ shadow b. (
    λ e. (addressable_inside shadow b e, addressable_leading shadow b e),
    λ in_both. addressable_is shadow b in_both.0 in_both.1,
  );
  good = λ shadow a n. (good_judge shadow a n, judge_good shadow a n);
  bad = λ shadow a n k b. (
    bad_judge shadow a n k b,
    λ first. judge_bad shadow a n b first.0
        ∙ ap (λ m. bad m b) (sym first.1),
  );
  kind_inside = kind_inside;
  kind_outside = kind_outside;
}

-- the lowest place, and none exactly when there is none
pub places : Places
places = record {
  lowest = λ shadow R u p. (place_some shadow R u p, place_is shadow R u p);
  nowhere = λ shadow R u. (place_none shadow R u, place_no shadow R u);
}

-- ---- the address maps

-- every row of a published table
printed : (map : Map) → Published map
    → Printed map map.offset map.low_mem map.low_shadow map.shadow_gap map.high_shadow
    map.high_mem
unfolding map_status map_answer region_number map_shadow shadow_address
printed map p = record {
  in_low_mem = λ a last. map_call_at map a LowMem (in_low_mem map p a last);
  in_low_shadow = λ a first last. map_call_at map a LowShadow (in_low_shadow map p a first last);
  in_gap = map_gap map p;
  in_high_shadow = λ a first last. map_call_at map a HighShadow (in_high_shadow map p a first last);
  in_high_mem = λ a first last. map_call_at map a HighMem (in_high_mem map p a first last);
  beyond = map_beyond map p;
}

pub map_of_32_bits : Map32
map_of_32_bits = printed map32 published32

pub map_of_64_bits : Map64
map_of_64_bits = printed map64 published64
