-- What is asked of an unused place, for the loop over them. Assumes nothing.
use Rattle.rules.proofs.Calls.{unused_end, unused_here, unused_next}

pub ruleset unused = (unused_end, unused_here, unused_next)
