-- Nothing leads nowhere, and each part that is offered leads on.
use Rattle.std.proofs.Common.{rules}
use Rattle.offers.proofs.Pieces.{leads_nothing, leads_on, lengths_further}
use Rattle.offers.proofs.offer.all.Goals as goal

pub loop-left-preserved : goal.loop-left-preserved
loop-left-preserved g c = record {
  leads = λ r shadow table leads.
      c.loop-left.invariant.leads r shadow table
      (leads_on _ c.loop-left.left.now c.part_end-end.result _ c.in_ok-next.ensures.taken leads);
  same_shadow = search rules;
  same_table = search rules;
  same_room = search rules;
  lengths = lengths_further c.loop-left.invariant.lengths c.in_ok-next.ensures.lengths;
}

pub returns-clause-leads : goal.returns-clause-leads
returns-clause-leads g c = c.loop-left.invariant.leads _ _ _ (leads_nothing _ _ _ _ (search rules))
