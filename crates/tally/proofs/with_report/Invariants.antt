-- The invariant: what is counted, with what is left of the report, is the tally with the whole report.
use Rattle.std.proofs.Common.{◌≡◌}
use Rattle.std.specs.Slice.Iter.{chunks_exact_rest, chunks_exact_size}
use Rattle.rules.specs.Limits.{answer_bytes}
use Rattle.tally.specs.Tally.{with_report}
use Rattle.tally.proofs.with_report.Given as goal

abbrev pub invariant-loop-answer : goal.invariant-loop-answer
invariant-loop-answer l =
    (chunks_exact_size l.answer-iterator ≡ answer_bytes)
    × (with_report l.counted (chunks_exact_rest l.answer-iterator) ≡ with_report l.fn.tally l.fn.report)
