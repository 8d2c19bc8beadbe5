-- `shadow::range::judge` meets its contract: the first bad byte, and one good byte more. Kept, since a wrong edit there
-- is refused by the values at which it fails. Assumes nothing.
use native.Mathlib.Omega.{arith}
use mathlib.Core.Path.{sym, ap, ◌∙◌}
use Rattle.rules.specs.Shadow.{bad}
use Rattle.shadow.proofs.Walked.{walked_poisoned, walked_good}
use Rattle.shadow.proofs.range.judge.Goals as goal

pub returns-then-at-leading : goal.returns-then-at-leading
returns-then-at-leading c =
    ap (bad _) (omega arith)
    ∙ sym (c.loop-byte.invariant ∙ walked_poisoned _ _ _ _ (omega arith) (omega arith) c.leading.ensures (omega arith))

pub loop-byte-preserved : goal.loop-byte-preserved
loop-byte-preserved c =
    c.loop-byte.invariant ∙ walked_good _ _ _ _ (omega arith) (omega arith) c.leading.ensures (omega arith)
