-- What a finished line asks, and a feed as one value.
use Rattle.std.specs.Prelude.{ℕ, ◌≡◌, List, length, take}
use Rattle.rules.specs.declared.Session.{Session}
use Rattle.rules.specs.declared.Fed.{Fed}
use Rattle.rules.specs.Limits.{answer_bytes}
use Rattle.rules.specs.Release.{Pool}
use Rattle.rules.specs.Feed.{State, Ran, run, taken}
use Rattle.rules.specs.Watcher.{state_of, watcher, pool_of}
use Rattle.rules.specs.Calls.{FedWith, fed_with, Lent}

-- a finished line has a session that fits what is lent, and room for one answer
pub record Finishing (session : Session) (shadow table part : List ℕ) : Type 0 where
  pub lent : Lent session shadow table
  pub room : length part ≡ answer_bytes

abbrev pub ran : Session → List ℕ → List ℕ → List ℕ → Ran Pool
ran session shadow table report = record { state = state_of session shadow table; report = report }

abbrev pub fed : Fed → List ℕ → List ℕ → List ℕ → FedWith Pool
fed given shadow table room = record { given = given; pool = pool_of shadow table; room = room }

-- `run` over the bytes taken
abbrev pub fed_of : State Pool → List ℕ → List ℕ → FedWith Pool
fed_of st piece room =
    fed_with (run watcher st (take (taken piece (length room)) piece)) (taken piece (length room)) room
