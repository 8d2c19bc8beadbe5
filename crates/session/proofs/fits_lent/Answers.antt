-- `session::fits_lent` meets its contract: of a session within its limits four times the rows fit. Assumes nothing.
use Rattle.std.proofs.Common.{arith}
use Rattle.rules.specs.Watcher.{lent_lengths}
use Rattle.rules.specs.Calls.{within_limits, fits_session}
use Rattle.session.proofs.fits_lent.Goals as goal

pub returns-then-shadow-session : goal.returns-then-shadow-session
unfolding fits_session lent_lengths
returns-then-shadow-session c = grind arith

pub returns-else-shadow-session : goal.returns-else-shadow-session
unfolding fits_session lent_lengths
returns-else-shadow-session c = grind arith

pub overflow_mul-result : goal.overflow_mul-result
unfolding within_limits
overflow_mul-result c = grind arith
