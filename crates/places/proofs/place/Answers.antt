use native.Mathlib.Omega.{arith}
use Rattle.places.proofs.Sought.{sought_past}
use Rattle.places.proofs.place.Goals as goal

pub starts-preserved : goal.starts-preserved
starts-preserved c =
    let past = sought_past c.args.shadow.now c.args.redzone c.args.granules c.loop-passed.start c.loop-passed.passed
    c.if-shadow-start.true (omega arith) in
    record { upto = omega arith; place = cc }
