-- What the watcher says of the feed, with what is kept of it.
use Rattle.offers.proofs.Pieces.{kept_taken}
use Rattle.offers.proofs.offer.feed.Goals as goal

pub returns-clause-taken : goal.returns-clause-taken
returns-clause-taken g c = kept_taken _ c.feed-fed.ensures c.in_ok-next.ensures
