-- `frames::lines::fields_of_digits` meets its contract: a number of 2 digits fits 8 bits, one of 8 digits 32. Assumes
-- nothing.
use native.Mathlib.Omega.{arith}
use mathlib.Core.Path.{sym}
use Rattle.rules.specs.Limits.{frame_fields, frame_kind, frame_A, frame_B}
use Rattle.rules.specs.Hex.{read_field}
use Rattle.rules.proofs.Hex.{read_fits}
use Rattle.frames.proofs.lines.fields_of_digits.Goals as goal

pub overflow_cast-result : goal.overflow_cast-result
unfolding read_field
overflow_cast-result c = omega (arith, read_fits frame_fields frame_kind c.args.line _ (sym c.in_ok-kind.ensures))

pub overflow_cast-result-2 : goal.overflow_cast-result-2
unfolding read_field
overflow_cast-result-2 c = omega (arith, read_fits frame_fields frame_A c.args.line _ (sym c.in_ok-a.ensures))

pub overflow_cast-result-3 : goal.overflow_cast-result-3
unfolding read_field
overflow_cast-result-3 c = omega (arith, read_fits frame_fields frame_B c.args.line _ (sym c.in_ok-b.ensures))
