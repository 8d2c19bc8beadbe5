-- `pool::access` meets its contract: the first bad byte of an arena has 32 bits. Assumes nothing.
use mathlib.Core.Path.{sym}
use Rattle.rules.proofs.Shadow.{bad_judge, first_bad_fits}
use Rattle.pool.proofs.access.Goals as goal

pub overflow_cast-result : goal.overflow_cast-result
overflow_cast-result c =
    let shadow = c.args.shadow.now in
    let bad = c.in-Err.bad in
    let found = bad_judge shadow c.args.address c.args.bytes bad.kind bad.first (sym c.in-Err.ensures) in
    record {
      fits = first_bad_fits shadow c.args.address c.args.bytes bad.first found.0 c.ranges.address.fits c.requires;
    }
