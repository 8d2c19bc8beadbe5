-- Direct calls: each is the line of its frame. So what is promised of texts holds of direct calls too, made while no
-- line is unfinished.
use Rattle.std.specs.Prelude.{ℕ, ◌^◌, ◌<◌, ◌≡◌, List, []}
use Rattle.std.specs.Prelude.{Ok, Err}
use Rattle.rules.specs.declared.CallRefusal.TheVariants.{BadSession}
use Rattle.rules.specs.Answers.{CallAnswer}
use Rattle.rules.specs.Limits.{kind_grant, kind_release, kind_read, kind_write}
use Rattle.rules.specs.Release.{Pool}
use Rattle.rules.specs.Frames.{fields, answer_line, line_of}
use Rattle.rules.specs.Feed.{State, Ran, run}
use Rattle.rules.specs.Watcher.{watcher, state_of}
use Rattle.rules.specs.Calls.{Called, grant_call, release_call, access_call}
use Rattle.promises.specs.Replay.{Idle}

-- a call's answer as a line of a report; 24 writes no report
abbrev pub as_report : CallAnswer → List ℕ
as_report (Ok answer) = answer_line answer
as_report (Err BadSession) = []

-- the state that a call leaves, and its answer as a line of a report
abbrev pub told_as : State Pool → Called → Ran Pool
told_as st left = record {
  state = state_of st.session left.shadow left.table;
  report = as_report left.answer;
}

pub record DirectCalls : Type 0 where
  pub grant : (st : State Pool) → Idle st → (s : ℕ) → s < 2 ^ 32
      → run watcher st (line_of (fields kind_grant s 0))
      ≡ told_as st (grant_call st.session st.pool.shadow st.pool.table s)
  pub release : (st : State Pool) → Idle st → (a : ℕ) → a < 2 ^ 32
      → run watcher st (line_of (fields kind_release a 0))
      ≡ told_as st (release_call st.session st.pool.shadow st.pool.table a)
  pub read : (st : State Pool) → Idle st → (a n : ℕ) → a < 2 ^ 32 → n < 2 ^ 32
      → run watcher st (line_of (fields kind_read a n))
      ≡ record { state = st; report = as_report (access_call st.session st.pool.shadow st.pool.table a n) }
  pub write : (st : State Pool) → Idle st → (a n : ℕ) → a < 2 ^ 32 → n < 2 ^ 32
      → run watcher st (line_of (fields kind_write a n))
      ≡ record { state = st; report = as_report (access_call st.session st.pool.shadow st.pool.table a n) }
