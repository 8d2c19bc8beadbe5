-- What is kept of a feed, field by field, so that a field that is not kept is a fact that fails.
use Rattle.std.proofs.Common.{refl, rules}
use Rattle.offers.proofs.offer.after.Goals as goal

pub returns : goal.returns
returns g c = record {
  done = search rules;
  some = search rules;
  most = search rules;
  session = refl;
  tally = search rules;
  taken_is = refl;
}
