-- `watcher::unfinished` meets its contract: a length within its limits has 32 bits. Assumes nothing.
use native.Mathlib.Omega.{arith}
use mathlib.Core.Path.{sym, ◌∙◌}
use Rattle.rules.proofs.Calls.{within_true, unfinished_24, unfinished_done}
use Rattle.watcher.proofs.unfinished.Goals as goal

pub returns-then-not-within_limits : goal.returns-then-not-within_limits
returns-then-not-within_limits c =
    let session = c.args.session in
    record { answer = sym (unfinished_24 session (sym c.within_limits.ensures ∙ c.if-not-within_limits.true)) }

pub overflow_cast-result : goal.overflow_cast-result
overflow_cast-result c =
    let session = c.args.session in
    record {
      fits = omega (
        arith,
        (within_true session
            (sym c.within_limits.ensures ∙ c.if-not-within_limits.false)).unfinished,
      );
    }

pub returns : goal.returns
returns c =
    let session = c.args.session in
    record { answer = sym (unfinished_done session (sym c.within_limits.ensures ∙ c.if-not-within_limits.false)) }
