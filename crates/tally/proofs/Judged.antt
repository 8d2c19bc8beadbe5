-- A verdict is a pass exactly where every line was done and none is left unfinished. Assumes nothing.
use Rattle.std.proofs.Common.{◌≡◌, ℕ, zero, suc, ◌*◌, ◌/◌, ◌⊎◌, inl, inr, List, [], ◌∷◌, ◌++◌, length}
use Rattle.std.proofs.Common.{Option, Some, None, Ok, Err, rules, refl, sym, ap, ◌∙◌, arith}
use Rattle.rules.specs.declared.Refusal.TheVariants.{BadLine, BadKind, NotZero, NoRow, NoPlace, NotHeld}
use Rattle.rules.specs.declared.Refusal.TheVariants.{Released, NotGood}
use Rattle.rules.specs.Limits.{answer_bytes, line_feed}
use Rattle.rules.specs.Answers.{Answer, in_numbers, status}
use Rattle.rules.specs.Release.{Pool}
use Rattle.rules.specs.Hex.{hex_digit, number_on, number, digit, digits, written, read_field}
use Rattle.rules.specs.Frames.{answer_line}
use Rattle.rules.specs.Feed.{State, act_line, finish, hold, step, run, run_nil, run_cons}
use Rattle.rules.specs.Watcher.{watcher}
use Rattle.rules.proofs.Frames.{length_answer}
use Rattle.rules.proofs.Feed.{step_line_feed, step_byte, by_byte, by_first, finish_report, run_append, run_report}
use Rattle.rules.proofs.Feed.{line_feeds}
use Rattle.tally.specs.declared.NotDone.{NotDone}
use Rattle.tally.specs.declared.Tally.{Tally}
use Rattle.tally.specs.declared.Outcome.TheVariants.{Pass, Fail}
use Rattle.tally.specs.Tally.{none, status_in, status_at, first_after, with_answer, with_answers}
use Rattle.tally.specs.Tally.{with_answers_zero, with_answers_suc, with_report, outcome, verdict}
use Rattle.tally.specs.Verdict.{Passed, judged}
use Rattle.tally.proofs.Parts.{with_report_append, with_report_none, with_report_one}

-- ---- the first line that was not done

-- there is none only where there was none, and the answer is 00
first_none : (first : Option NotDone) (line : ℕ) (status : Option ℕ) → first_after first line status ≡ None
    → (first ≡ None) × (status ≡ Some 0)
unfolding first_after
first_none None line None e = search rules
first_none None line (Some zero) e = (refl, refl)
first_none None line (Some (suc s)) e = search rules
first_none (Some first) line status e = search rules

module _ (t : Tally) (status : Option ℕ) where
  answer_done : t.first ≡ None → status ≡ Some 0 → (with_answer t status).first ≡ None
  unfolding with_answer first_after
  answer_done clear done = rw (clear, done)

  answer_none : (with_answer t status).first ≡ None → (t.first ≡ None) × (status ≡ Some 0)
  unfolding with_answer
  answer_none e = first_none _ _ _ e

answers_none : (t : Tally) (report : List ℕ) (n : ℕ) → (with_answers t report n).first ≡ None → t.first ≡ None
answers_none t report zero e = grind (arith, with_answers_zero)
answers_none t report (suc n) e = grind (arith, with_answers_suc, answers_none t report n, answer_none)

report_none : (t : Tally) (report : List ℕ) → (with_report t report).first ≡ None → t.first ≡ None
unfolding with_report
report_none t report = answers_none t report (length report / answer_bytes)

-- ---- a text, byte by byte

-- an answer's number is read back from its line
number_read : (a : Answer) → status_at (answer_line a) 0 ≡ Some (status a)
unfolding status_in read_field number number_on hex_digit answer_line written digits digit status
    in_numbers
number_read (Ok value) = refl
number_read (Err BadLine) = refl
number_read (Err BadKind) = refl
number_read (Err NotZero) = refl
number_read (Err NoRow) = refl
number_read (Err NoPlace) = refl
number_read (Err NotHeld) = refl
number_read (Err Released) = refl
number_read (Err (NotGood kind first)) = refl

-- a line feed's report is one answer
tally_feed : (t : Tally) (st : State Pool) → with_report t (step watcher st line_feed).report
    ≡ with_answer t (Some (status (act_line watcher st).answer))
unfolding finish
tally_feed t st = rw step_line_feed (grind (arith, with_report_one, length_answer, number_read))

-- and any other byte's has none
tally_none : (t : Tally) → with_report t [] ≡ t
tally_none t = with_report_none t [] (omega arith)

step_whole : (st : State Pool) (b : ℕ) → (k : ℕ) × (length (step watcher st b).report ≡ answer_bytes * k)
unfolding hold
step_whole st b =
    by_byte watcher st b (λ r. (k : ℕ) × (length r.report ≡ answer_bytes * k))
    (λ feed. (1, finish_report watcher st)) (λ other. (0, refl))

module _ (t : Tally) (st : State Pool) where
  tally_cons : (b : ℕ) (text : List ℕ)
      → with_report t (run watcher st (b ∷ text)).report
      ≡ with_report (with_report t (step watcher st b).report) (run watcher (step watcher st b).state text).report
  tally_cons b text =
      let whole = step_whole st b in
      rw (run_cons, ← with_report_append t (step watcher st b).report _ whole.0 whole.1)

  tally_append : (text more : List ℕ)
      → with_report t (run watcher st (text ++ more)).report
      ≡ with_report (with_report t (run watcher st text).report)
      (run watcher (run watcher st text).state more).report
  tally_append text more =
      rw (
        run_append,
        ← with_report_append t (run watcher st text).report _ (line_feeds text) (run_report watcher st text),
      )

-- ---- a text whose every line was done

-- `Passed.each`, by itself
abbrev EachDone : State Pool → List ℕ → Type 0
EachDone st text =
    (before rest : List ℕ) → text ≡ before ++ (line_feed ∷ rest)
    → status (act_line watcher (run watcher st before).state).answer ≡ 0

each_done : (t : Tally) (st : State Pool) (text : List ℕ) → (with_report t (run watcher st text).report).first ≡ None
    → EachDone st text
each_done t st text e before rest cut =
    let there : State Pool = (run watcher st before).state in
    let whole : with_report t (run watcher st text).report
    ≡ with_report (with_report (with_report t (run watcher st before).report) (step watcher there line_feed).report)
    (run watcher (step watcher there line_feed).state rest).report =
    ap (λ l. with_report t (run watcher st l).report) cut ∙ tally_append t st before (line_feed ∷ rest)
    ∙ tally_cons _ there line_feed rest in
    let upto = report_none _ _ (ap (λ u. u.first) (sym whole) ∙ e) in
    let read : Some (status (act_line watcher there).answer) ≡ Some 0 =
    (answer_none _ _ (ap (λ u. u.first) (sym (tally_feed _ there)) ∙ upto)).1 in
    cc

first_byte : (t : Tally) (st : State Pool) (b : ℕ) (text : List ℕ) → t.first ≡ None → EachDone st (b ∷ text)
    → (with_report t (step watcher st b).report).first ≡ None
unfolding hold run
first_byte t st b text clear =
    by_first b (λ c. EachDone st (c ∷ text) → (with_report t (step watcher st c).report).first ≡ None)
    (λ each. ap (λ u. u.first) (tally_feed t st) ∙ answer_done t _ clear (ap (λ n. Some n) (each [] text refl)))
    (λ other each. ap (λ u. u.first)
    (ap (λ r. with_report t r.report) (step_byte watcher st b other) ∙ tally_none t) ∙ clear)

none_noted : (t : Tally) (st : State Pool) (text : List ℕ) → t.first ≡ None → EachDone st text
    → (with_report t (run watcher st text).report).first ≡ None
none_noted t st [] clear each =
    ap (λ u. u.first) (ap (λ r. with_report t r.report) (run_nil watcher st) ∙ tally_none t) ∙ clear
none_noted t st (b ∷ text) clear each =
    ap (λ u. u.first) (tally_cons t st b text)
    ∙ none_noted (with_report t (step watcher st b).report) (step watcher st b).state text
    (first_byte t st b text clear each)
    (λ before rest cut. ap (λ r. status (act_line watcher r.state).answer) (sym (run_cons watcher st b before))
    ∙ each (b ∷ before) rest (ap (λ l. b ∷ l) cut))

-- ---- the verdict

-- a pass exactly where no line was noted and none is left unfinished
outcome_pass : (first : Option NotDone) (unfinished : ℕ) → outcome first unfinished ≡ Pass
    → (first ≡ None) × (unfinished ≡ 0)
unfolding outcome
outcome_pass None zero e = (refl, refl)
outcome_pass None (suc unfinished) e = search rules
outcome_pass (Some first) unfinished e = search rules

-- a pass exactly where the text passed
pub passed : (st : State Pool) (text : List ℕ) → judged st text ≡ Pass → Passed st text
unfolding judged verdict
passed st text e =
    let clear = outcome_pass _ _ e in record { each = each_done none st text clear.0; finished = clear.1 }

pub passes : (st : State Pool) (text : List ℕ) → Passed st text → judged st text ≡ Pass
unfolding judged verdict outcome
passes st text all = rw (none_noted none st text refl all.each, all.finished)

-- a fail where it did not, and nothing else
pub not_passed : (st : State Pool) (text : List ℕ) → judged st text ≡ Fail → Passed st text → ⊥
not_passed st text e all = let passes : judged st text ≡ Pass = passes st text all in cc

pub judged_most : (st : State Pool) (text : List ℕ) → (judged st text ≡ Pass) ⊎ (judged st text ≡ Fail)
judged_most st text = elim (judged st text) as (λ o. (o ≡ Pass) ⊎ (o ≡ Fail)) [ Pass ↦ inl refl | Fail ↦ inr refl ]
