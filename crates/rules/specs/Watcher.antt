-- The watcher's engine: what a frame does to a shadow and a table, by the session's R and Q.
use Rattle.std.specs.Prelude.{ℕ, ◌*◌, Bool, ◌&&◌, List, length, eqb}
use Rattle.std.specs.Prelude.{Ok, Err}
use Rattle.rules.specs.declared.Refusal.TheVariants.{NotGood}
use Rattle.rules.specs.declared.Session.{Session}
use Rattle.rules.specs.Answers.{Answer}
use Rattle.rules.specs.declared.Frame.TheVariants.{Grant, Release, Read, Write}
use Rattle.rules.specs.Limits.{row_numbers}
use Rattle.rules.specs.Shadow.{Verdict, judge}
use Rattle.rules.specs.Grant.{Acted, unchanged, grant}
use Rattle.rules.specs.Release.{Pool, release}
use Rattle.rules.specs.Frames.{Asked}
use Rattle.rules.specs.Feed.{Outcome, Engine, State}

-- what an access is answered: 00 with 0, or 09 with the kind and the first bad byte
unfoldable pub of_verdict : Verdict → Answer
of_verdict (Ok _) = Ok 0
of_verdict (Err byte) = Err (NotGood byte.kind byte.first)

unfoldable pub access : List ℕ → ℕ → ℕ → Answer
access shadow a n = of_verdict (judge shadow a n)

-- what a line does by what it asks, and by the session's R and Q
unfoldable pub act : Session → List ℕ → List ℕ → Asked → Acted
act session shadow table (Ok (Grant s)) = grant session.redzone shadow table s
act session shadow table (Ok (Release a)) = release session.redzone session.quarantine shadow table a
act session shadow table (Ok (Read a n)) = unchanged (access shadow a n) shadow table
act session shadow table (Ok (Write a n)) = unchanged (access shadow a n) shadow table
act session shadow table (Err refusal) = unchanged (Err refusal) shadow table

abbrev pub pool_of : List ℕ → List ℕ → Pool
pool_of shadow table = record { shadow = shadow; table = table }

abbrev pub outcome : Acted → Outcome Pool
outcome acted = record { answer = acted.answer; pool = pool_of acted.shadow acted.table }

-- the lent lengths are the session's
unfoldable pub lent_lengths : ℕ → ℕ → Pool → Bool
lent_lengths S n pool = eqb (length pool.shadow) S && eqb (length pool.table) (row_numbers * n)

abbrev pub watcher : Engine Pool
watcher = record {
  lent = lent_lengths;
  act = λ session pool asked. outcome (act session pool.shadow pool.table asked);
}

abbrev pub state_of : Session → List ℕ → List ℕ → State Pool
state_of session shadow table = record { session = session; pool = pool_of shadow table }
