use mathlib.Core.Path.{sym, ◌∙◌}
use Rattle.rules.specs.Release.{starts_at}
use Rattle.blocks.proofs.Survey.{surveyed_quarantined}
use Rattle.blocks.proofs.rows.with_row.Goals as goal

pub returns-in-2 : goal.returns-in-2
unfolding starts_at
returns-in-2 c =
    let next = surveyed_quarantined c.args.redzone c.args.table.now c.args.address c.args.row
    (sym c.number-2.ensures ∙ c.in-2.is) in
    cc
