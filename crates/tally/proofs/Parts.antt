-- A report counted in parts is the report counted whole. Assumes nothing.
use Rattle.std.proofs.Common.{◌≡◌, ℕ, zero, suc, ◌+◌, ◌*◌, ◌/◌, ◌<◌, ◌≤◌, List, ◌++◌, length, arith, length-append}
use Rattle.std.proofs.lemmas.Grind.{common_steps}
use lib.Seq.{drop-append-le, drop-append-add}
use Rattle.rules.specs.Field.{start_of}
use Rattle.rules.specs.Limits.{answer_fields, answer_status, answer_bytes}
use Rattle.rules.specs.Hex.{read_field}
use Rattle.tally.specs.declared.Tally.{Tally}
use Rattle.tally.specs.Tally.{status_in, status_at, with_answer, with_answers}
use Rattle.tally.specs.Tally.{with_answers_zero, with_answers_suc, with_report}

-- what stands behind a status is not looked at
status_front : (answer more : List ℕ) → start_of answer_fields (suc answer_status) ≤ length answer
    → status_in (answer ++ more) ≡ status_in answer
unfolding status_in read_field
status_front answer more whole = grind (arith, common_steps)

module _ (first second : List ℕ) where
  status_first : (at : ℕ) → at + 1 < length first → status_at (first ++ second) at ≡ status_at first at
  status_first at within = grind (arith, common_steps, status_front, drop-append-le {A = ℕ})

  status_second : (at : ℕ) → status_at (first ++ second) (length first + at) ≡ status_at second at
  status_second at = grind (arith, drop-append-add {A = ℕ})

  answers_first : (t : Tally) (n : ℕ) → answer_bytes * n ≤ length first
      → with_answers t (first ++ second) n ≡ with_answers t first n
  answers_first t zero within = grind (arith, with_answers_zero)
  answers_first t (suc n) within = grind (arith, with_answers_suc, status_first, answers_first t n)

  answers_second : (t : Tally) (k : ℕ) → length first ≡ answer_bytes * k → (j : ℕ)
      → with_answers t (first ++ second) (k + j) ≡ with_answers (with_answers t first k) second j
  answers_second t k whole zero = grind (arith, with_answers_zero, answers_first t k (omega arith))
  answers_second t k whole (suc j) =
      let next = with_answers_suc t (first ++ second) (k + j) in
      let place : answer_bytes * (k + j) ≡ length first + answer_bytes * j = omega arith in
      grind (arith, with_answers_suc, status_second, answers_second t k whole j)

-- a report counted in two parts, of which the first ends with an answer, is counted whole
pub with_report_append : (t : Tally) (first second : List ℕ) (k : ℕ) → length first ≡ answer_bytes * k
    → with_report (with_report t first) second ≡ with_report t (first ++ second)
unfolding with_report
with_report_append t first second k whole =
    grind (arith, length-append {A = ℕ}, answers_second first second t k whole (length second / answer_bytes))

-- less than an answer counts for nothing
pub with_report_none : (t : Tally) (report : List ℕ) → length report < answer_bytes → with_report t report ≡ t
unfolding with_report
with_report_none t report short =
    let none : length report / answer_bytes ≡ 0 = omega arith in grind (arith, none, with_answers_zero)

pub with_report_one : (t : Tally) (answer : List ℕ) → length answer ≡ answer_bytes
    → with_report t answer ≡ with_answer t (status_at answer 0)
unfolding with_report
with_report_one t answer whole = grind (arith, with_answers_suc, with_answers_zero)

pub with_report_next : (t : Tally) (answer rest : List ℕ) → length answer ≡ answer_bytes
    → with_report (with_answer t (status_at answer 0)) rest ≡ with_report t (answer ++ rest)
with_report_next t answer rest whole = grind (arith, with_report_one, with_report_append t answer rest 1)
