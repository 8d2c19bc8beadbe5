-- The user's three demands, and what else he was promised: each proved. Assumes nothing.
use Rattle.rules.specs.Watcher.{watcher}
use Rattle.rules.proofs.Calls.{watcher_keeps}
use Rattle.promises.specs.Demands.{Demand1, Demand2, Demand3, Beyond}
use Rattle.promises.proofs.Replay.{every_line}
use Rattle.promises.proofs.Beginning.{openings, begins_again, same_report}
use Rattle.promises.proofs.Total.{total, refusals_keep}
use Rattle.promises.proofs.Published.{shadow_bytes, verdicts, places, map_of_32_bits, map_of_64_bits}
use Rattle.promises.proofs.Cutting.{cutting, stops_early, goes_on, finishes, so_far}
use Rattle.promises.proofs.Accesses.{reported, first_bad_byte, outside_nowhere, kinds, two_blocks, until_granted}
use Rattle.promises.proofs.Quarantine.{separation, quarantine, not_again, heavier, never_evicts, evicted}
use Rattle.promises.proofs.Sought.{releases, placement, all_sought, releases_nothing}
use Rattle.promises.proofs.Shape.{shape, rows_are_blocks, encoding}
use Rattle.promises.proofs.Direct.{direct_calls}

pub demand_1 : Demand1
demand_1 = record { any_input_an_answer = total; a_refusal_changes_nothing = refusals_keep }

pub demand_2 : Demand2
demand_2 = record {
  shadow_bytes = shadow_bytes;
  verdicts = verdicts;
  places = places;
  map_of_32_bits = map_of_32_bits;
  map_of_64_bits = map_of_64_bits;
}

pub demand_3 : Demand3
demand_3 = record {
  cut_anywhere = cutting watcher;
  stopped_early = stops_early watcher;
  goes_on = goes_on watcher watcher_keeps;
  finishes = finishes watcher watcher_keeps;
  from_an_opening = openings;
  every_line = every_line;
  reported = reported;
  first_bad_byte = first_bad_byte;
  outside_nowhere = outside_nowhere;
  a_redzone_apart = separation;
  quarantine = quarantine;
  not_granted_again = not_again;
}

pub beyond : Beyond
beyond = record {
  heavier_leaves = heavier;
  a_grant_never_evicts = never_evicts;
  evicted_count = evicted;
  releases = releases;
  placement = placement;
  all_sought = all_sought;
  address_0 = releases_nothing;
  shape = shape;
  rows_are_blocks = rows_are_blocks;
  encoding = encoding;
  kinds = kinds;
  direct_calls = direct_calls;
  two_blocks_reported = two_blocks;
  reported_until_granted = until_granted;
  answers_so_far = so_far watcher;
  begins_again = begins_again;
  same_report = same_report;
}
