-- What replay says of a piece of the trace: where all of it was answered and written, the session, the shadow, the
-- table and the tally are those of the rules over the piece, however it was cut and whatever room was lent.
use Rattle.std.specs.Prelude.{ℕ, ◌<◌, ◌≤◌, ◌≡◌, List, length, take, Result, Ok, Err, IfOk}
use Rattle.rules.specs.declared.Session.{Session}
use Rattle.rules.specs.declared.Fed.{Fed}
use Rattle.rules.specs.Feed.{run}
use Rattle.rules.specs.Limits.{too_long}
use Rattle.rules.specs.Answers.{CallAnswer}
use Rattle.rules.specs.Watcher.{watcher, state_of}
use Rattle.rules.specs.Calls.{unfinished_call}
use Rattle.tally.specs.declared.Outcome.{Outcome}
use Rattle.tally.specs.declared.Outcome.TheVariants.{Pass, Fail}
use Rattle.tally.specs.Tally.{with_report, verdict}
use Rattle.offers.specs.declared.offer.Run.{Run}
use Rattle.offers.specs.declared.offer.Stopped.{Stopped}

-- what is kept of a feed that was offered so many bytes, and left its report in a room: where the run stands, and how
-- many bytes were taken
pub record Kept (before : Run) (fed : Fed) (offered : ℕ) (room : List ℕ) (r : Run) (taken : ℕ) : Type 0 where
  pub done : fed.status ≡ 0
  pub some : 0 < fed.taken
  pub most : fed.taken ≤ offered
  pub session : r.session ≡ fed.session
  pub tally : r.tally ≡ with_report before.tally (take fed.wrote room)
  pub taken_is : taken ≡ fed.taken

-- the rules over a text lead from one run to another
pub record Leads (before : Run) (shadow table text : List ℕ) (r : Run)
    (shadow_after table_after : List ℕ) : Type 0 where
  pub state : state_of r.session shadow_after table_after
      ≡ (run watcher (state_of before.session shadow table) text).state
  pub tally : r.tally ≡ with_report before.tally
      (run watcher (state_of before.session shadow table) text).report

-- of a part that was offered once, some is taken
pub record Taken (before : Run) (shadow table part : List ℕ) (r : Run) (taken : ℕ)
    (shadow_after table_after : List ℕ) : Type 0 where
  pub some : 0 < taken
  pub most : taken ≤ length part
  pub leads : Leads before shadow table (take taken part) r shadow_after table_after

-- what is lent keeps its lengths
pub record SameLengths (shadow table room shadow_after table_after room_after : List ℕ) : Type 0 where
  pub shadow_length : length shadow_after ≡ length shadow
  pub table_length : length table_after ≡ length table
  pub room_length : length room_after ≡ length room

-- a length that a call says, or 19 where it says none
abbrev pub said : CallAnswer → ℕ
said (Ok (Ok length)) = length
said (Ok (Err refusal)) = too_long
said (Err refusal) = too_long

-- the unfinished line's length, or 19 where the session cannot say
unfoldable pub left : Session → ℕ
left session = said (unfinished_call session)

-- how a replay ends: a run that was written whole with its tally's verdict, or at an error, which is neither; one that
-- was stopped at the error that stopped it
abbrev pub Ends : Result Run Stopped → Result Outcome Stopped → Type 0
Ends (Ok run) r = IfOk r (λ outcome. outcome ≡ verdict run.tally (left run.session))
Ends (Err stopped) r = r ≡ Err stopped

-- the number that is told of an end
abbrev pub told : Result Outcome Stopped → ℕ
told (Ok Pass) = 0
told (Ok Fail) = 1
told (Err stopped) = 2
