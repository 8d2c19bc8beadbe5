-- The laws of a granted block's bytes, under one name: they are zeros where its size is whole granules, and else the
-- remainder stands in the last one, which is there.
use Rattle.rules.proofs.Grant.{granules_enough, granted_even, granted_rest}

pub ruleset granted_part = (granules_enough, granted_even, granted_rest)
