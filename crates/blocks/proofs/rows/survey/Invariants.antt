-- `blocks::rows::survey` meets its contract. The invariant: `seen` is what was found in the rows before `row`. Assumes
-- nothing.
use mathlib.Core.Path.{◌≡◌}
use Rattle.blocks.specs.Survey.{surveyed}
use Rattle.blocks.proofs.rows.survey.Given as goal

abbrev pub invariant-loop-row : goal.invariant-loop-row
invariant-loop-row l = l.seen ≡ surveyed l.redzone l.table l.address l.row
