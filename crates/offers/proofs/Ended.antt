-- How a run ends: its verdict is that of the rules over all that was offered. Assumes nothing.
use Prim.Native.Nat.{ℕ}
use native.Mathlib.Omega.{arith}
use mathlib.Core.Bool.{true}
use mathlib.Core.Path.{◌≡◌, sym, ap, ◌∙◌}
use mathlib.Core.List.{List}
use Rattle.rules.specs.declared.Session.{Session}
use Rattle.rules.specs.Release.{Pool}
use Rattle.rules.specs.Watcher.{state_of, watcher}
use Rattle.rules.specs.Calls.{within_limits, fits_lent}
use Rattle.rules.specs.Feed.{State, run}
use Rattle.rules.proofs.Calls.{within_is, unfinished_done, lent_true, run_lent}
use Rattle.std.specs.Prelude.{Result, Ok, Err}
use Rattle.tally.specs.declared.Outcome.{Outcome}
use Rattle.tally.specs.declared.Outcome.TheVariants.{Pass, Fail}
use Rattle.tally.specs.Tally.{none, with_report, verdict}
use Rattle.tally.specs.Verdict.{Passed, judged}
use Rattle.tally.proofs.Judged.{passed, not_passed}
use Rattle.offers.specs.declared.offer.Run.{Run}
use Rattle.offers.specs.declared.offer.Stopped.{Stopped}
use Rattle.offers.specs.Offer.{Leads, said, left, Ends, told}

-- a session within its limits says how long its line is
left_within : (session : Session) → within_limits session ≡ true → left session ≡ session.unfinished
unfolding left
left_within session within = ap said (unfinished_done session within)

-- 0 is told of a pass alone, and 1 of a fail
told_pass : (run : Run) (r : Result Outcome Stopped) → Ends (Ok run) r → told r ≡ 0
    → verdict run.tally (left run.session) ≡ Pass
told_pass run (Ok Pass) ends e = sym ends
told_pass run (Ok Fail) ends e = absurd (omega arith)
told_pass run (Err stopped) ends e = absurd (omega arith)

told_fail : (run : Run) (r : Result Outcome Stopped) → Ends (Ok run) r → told r ≡ 1
    → verdict run.tally (left run.session) ≡ Fail
told_fail run (Ok Pass) ends e = absurd (omega arith)
told_fail run (Ok Fail) ends e = sym ends
told_fail run (Err stopped) ends e = absurd (omega arith)

-- an error is neither verdict
pub ends_stopped : (ran : Run) (stopped : Stopped) → Ends (Ok ran) (Err stopped)
ends_stopped ran stopped = tt

-- so neither is told of a replay that was stopped
pub stopped_told : (stopped : Stopped) (r : Result Outcome Stopped) → Ends (Err stopped) r → told r ≡ 2
stopped_told stopped r ends = ap told ends

pub ends_judged : (ran : Run) (r : Outcome) (length : ℕ) → length ≡ left ran.session → r ≡ verdict ran.tally length
    → Ends (Ok ran) (Ok r)
ends_judged ran r length is judged = judged ∙ ap (verdict ran.tally) is

-- ---- the verdict of all that was offered

module _ (begun : Run) {shadow table text shadow_after table_after : List ℕ} {ran : Run} where
  -- where the session fits what is lent, the verdict is the rules' over the text
  pub ended : begun.tally ≡ none → fits_lent begun.session shadow table ≡ true
      → Leads begun shadow table text ran shadow_after table_after
      → verdict ran.tally (left ran.session) ≡ judged (state_of begun.session shadow table) text
  unfolding judged
  ended fresh fits leads =
      let st : State Pool = state_of begun.session shadow table in
      let there : Session = (run watcher st text).state.session in
      let lent = run_lent st text (lent_true begun.session shadow table fits) in
      let session_is : ran.session ≡ there = ap (λ s. s.session) leads.state in
      let tally_is : ran.tally ≡ with_report none (run watcher st text).report =
      leads.tally ∙ ap (λ t. with_report t (run watcher st text).report) fresh in
      ap (λ t. verdict t (left ran.session)) tally_is
      ∙ ap (λ s. verdict (with_report none (run watcher st text).report) (left s)) session_is
      ∙ ap (verdict (with_report none (run watcher st text).report))
      (left_within there (within_is there lent.within))

  -- so 0 is told of a text whose every line was done, and whose last line is finished
  pub ended_passed : (r : Result Outcome Stopped) → begun.tally ≡ none → fits_lent begun.session shadow table ≡ true
      → Leads begun shadow table text ran shadow_after table_after
      → Ends (Ok ran) r → told r ≡ 0 → Passed (state_of begun.session shadow table) text
  ended_passed r fresh fits leads ends e = passed _ text (sym (ended fresh fits leads) ∙ told_pass ran r ends e)

  -- and 1 is told of one that is not
  pub ended_not_passed : (r : Result Outcome Stopped) → begun.tally ≡ none
      → fits_lent begun.session shadow table ≡ true
      → Leads begun shadow table text ran shadow_after table_after
      → Ends (Ok ran) r → told r ≡ 1 → Passed (state_of begun.session shadow table) text → ⊥
  ended_not_passed r fresh fits leads ends e =
      not_passed _ text (sym (ended fresh fits leads) ∙ told_fail ran r ends e)
