use mathlib.Core.Path.{sym, ap, ◌∙◌}
use Rattle.rules.specs.Release.{settle}
use Rattle.blocks.specs.Survey.{survey}
use Rattle.quarantine.proofs.Releasing.{released_row}
use Rattle.quarantine.proofs.release.Goals as goal

pub returns : goal.returns
unfolding survey
returns c =
    sym
    (released_row _ _ _ _ _ c.if-address-eq0.false c.in_ok-row.row _
    (ap (λ s. s.live) (sym c.survey-seen.ensures) ∙ c.in_ok-row.ensures.ok_part)
    (c.settle-evicted.ensures ∙ ap (settle c.args.redzone c.args.quarantine) c.quarantine_row-held.ensures.pool_after))
