-- What a verdict is of: a text whose every line was done, and none left unfinished.
use Rattle.std.specs.Prelude.{ℕ, ◌≡◌, List, ◌∷◌, ◌++◌}
use Rattle.rules.specs.Limits.{line_feed}
use Rattle.rules.specs.Answers.{status}
use Rattle.rules.specs.Release.{Pool}
use Rattle.rules.specs.Feed.{State, act_line, run}
use Rattle.rules.specs.Watcher.{watcher}
use Rattle.tally.specs.declared.Outcome.{Outcome}
use Rattle.tally.specs.Tally.{none, with_report, verdict}

-- every line of the text was done, and none is left unfinished
pub record Passed (st : State Pool) (text : List ℕ) : Type 0 where
  pub each : (before rest : List ℕ) → text ≡ before ++ (line_feed ∷ rest)
      → status (act_line watcher (run watcher st before).state).answer ≡ 0
  pub finished : (run watcher st text).state.session.unfinished ≡ 0

-- the verdict of a text from a state
unfoldable pub judged : State Pool → List ℕ → Outcome
judged st text =
    verdict (with_report none (run watcher st text).report) (run watcher st text).state.session.unfinished
