-- What a report says in sum: its answers counted by number, the first line that was not done, and the verdict.
use Rattle.std.specs.Prelude.{ℕ, zero, suc, ◌+◌, ◌-◌, ◌*◌, ◌/◌, ◌^◌, true, false, ◌≡◌, refl, List, length, get_or, drop}
use Rattle.std.specs.Prelude.{set, replicate, ltb, Option, Some, None}
use Rattle.rules.specs.Field.{start_of}
use Rattle.rules.specs.Limits.{answer_fields, answer_status, answer_bytes}
use Rattle.rules.specs.Hex.{read_field}
use Rattle.tally.specs.declared.NotDone.{NotDone}
use Rattle.tally.specs.declared.Tally.{Tally}
use Rattle.tally.specs.declared.Outcome.{Outcome}
use Rattle.tally.specs.declared.Outcome.TheVariants.{Pass, Fail}

-- a line that was not done, and its answer's number
abbrev pub not_done : ℕ → Option ℕ → NotDone
not_done line status = record { line = line; status = status }

abbrev pub tally : ℕ → List ℕ → Option NotDone → Tally
tally lines answers first = record { lines = lines; answers = answers; first = first }

abbrev pub none : Tally
none = tally 0 (replicate 10 0) None

-- one more, as far as 64 bits count
unfoldable pub more : ℕ → ℕ
more n = elim (ltb n (2 ^ 64 - 1)) [ true ↦ n + 1 | false ↦ n ]

-- a number from 0 to 9
abbrev pub counted_as : Option ℕ → Option ℕ
counted_as (Some s) = elim (ltb s 10) [ true ↦ Some s | false ↦ None ]
counted_as None = None

-- the number of an answer, 00 to 09; none where it is another, or where no answer stands
unfoldable pub status_in : List ℕ → Option ℕ
status_in answer =
    elim (ltb (length answer) (start_of answer_fields (suc answer_status))) [
      | true ↦ None
      | false ↦ counted_as (read_field answer_fields answer_status answer)
    ]

-- and of the one that begins at a place
abbrev pub status_at : List ℕ → ℕ → Option ℕ
status_at report at = status_in (drop at report)

-- the counts by number, with one more of this one
unfoldable pub counted : List ℕ → Option ℕ → List ℕ
counted counts None = counts
counted counts (Some s) = elim (ltb s 10) [ true ↦ set counts s (more (get_or counts s 0)) | false ↦ counts ]

-- the first line that was not done: one that was noted before, or this one, if its answer is not 00
unfoldable pub first_after : Option NotDone → ℕ → Option ℕ → Option NotDone
first_after (Some first) line status = Some first
first_after None line None = Some (not_done line None)
first_after None line (Some zero) = None
first_after None line (Some (suc s)) = Some (not_done line (Some (suc s)))

-- with an answer of this number
unfoldable pub with_answer : Tally → Option ℕ → Tally
with_answer t status =
    tally (more t.lines) (counted t.answers status) (first_after t.first (more t.lines) status)

-- with the first n answers of a report
unfoldable pub with_answers : Tally → List ℕ → ℕ → Tally
with_answers t report zero = t
with_answers t report (suc n) = with_answer (with_answers t report n) (status_at report (answer_bytes * n))

pub with_answers_zero : (t : Tally) (report : List ℕ) → with_answers t report zero ≡ t
unfolding with_answers
with_answers_zero t report = refl

pub with_answers_suc : (t : Tally) (report : List ℕ) (n : ℕ) → with_answers t report (suc n)
    ≡ with_answer (with_answers t report n) (status_at report (answer_bytes * n))
unfolding with_answers
with_answers_suc t report n = refl

-- with every answer of a report
unfoldable pub with_report : Tally → List ℕ → Tally
with_report t report = with_answers t report (length report / answer_bytes)

-- a pass where every line was done and none is left unfinished
unfoldable pub outcome : Option NotDone → ℕ → Outcome
outcome None zero = Pass
outcome None (suc unfinished) = Fail
outcome (Some first) unfinished = Fail

unfoldable pub verdict : Tally → ℕ → Outcome
verdict t unfinished = outcome t.first unfinished
