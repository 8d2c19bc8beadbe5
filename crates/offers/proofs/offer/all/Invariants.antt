-- The invariant: where the rules lead from here over what is left, they lead from the beginning over the piece; and
-- what is lent is still the caller's. The measure is what is left.
use Rattle.std.proofs.Common.{◌≡◌, ℕ, List, length}
use Rattle.offers.specs.declared.offer.Run.{Run}
use Rattle.offers.specs.Offer.{Leads, SameLengths}
use Rattle.offers.proofs.offer.all.Given as goal

abbrev pub invariant-loop-left : goal.invariant-loop-left
invariant-loop-left g l = record {
  leads : (r : Run) (shadow table : List ℕ) → Leads l.run l.lent.shadow.now l.lent.table.now l.left r shadow table
      → Leads l.fn.run l.fn.lent.shadow.now l.fn.lent.table.now l.fn.piece r shadow table;
  same_shadow : l.lent.shadow.ghost_name ≡ l.fn.lent.shadow.ghost_name;
  same_table : l.lent.table.ghost_name ≡ l.fn.lent.table.ghost_name;
  same_room : l.lent.room.ghost_name ≡ l.fn.lent.room.ghost_name;
  lengths : SameLengths l.fn.lent.shadow.now l.fn.lent.table.now l.fn.lent.room.now
      l.lent.shadow.now l.lent.table.now l.lent.room.now;
}

abbrev pub decreases-loop-left : goal.decreases-loop-left
decreases-loop-left g l = length l.left
