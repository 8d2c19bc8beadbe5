-- `pool::release` meets its contract. Assumes nothing.
use Rattle.rules.proofs.Calls.{lent_numbers, lent_redzone}
use Rattle.pool.proofs.release.Goals as goal

pub release-requires : goal.release-requires
release-requires c =
    record { most = lent_numbers c.requires; near = lent_redzone c.requires }
