-- `trace::feed` meets its contract. The invariant is `Feeding`: what is left to run is what was to run, less what is
-- done. Assumes nothing.
use mathlib.Core.Path.{◌≡◌}
use lib.ListN.{length}
use Rattle.rules.specs.Watcher.{state_of}
use Rattle.trace.proofs.Feeding.{Feeding}
use Rattle.trace.proofs.feed.Given as goal

abbrev pub invariant-loop-at : goal.invariant-loop-at
invariant-loop-at l = record {
  whole : l.taken ≡ length l.piece;
  feeding : Feeding (state_of l.initial.current l.initial.shadow l.initial.table) l.piece l.initial.room
      (state_of l.current l.shadow l.table) l.room l.at l.wrote;
}
