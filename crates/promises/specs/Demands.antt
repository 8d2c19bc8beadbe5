-- The user's three demands, in his order and in his words, and what else he was promised. Each statement is a
-- definition of the files below; each proof has its name in `proofs/Demands.antt`. All is said of the definitions of
-- `rules`, and so of the code: every public call's contract is that its result and every buffer are what `rules` says.
use Rattle.rules.specs.Watcher.{watcher}
use Rattle.promises.specs.Replay.{Openings, BeginsAgain, EveryLine, SameReport}
use Rattle.promises.specs.Total.{Total, RefusalsKeep}
use Rattle.promises.specs.Published.{ShadowBytes, Verdicts, Places, Map32, Map64}
use Rattle.promises.specs.Cutting.{Cutting, StopsEarly, GoesOn, Finishes, SoFar}
use Rattle.promises.specs.Accesses.{Reported, FirstBadByte, OutsideNowhere, Kinds, TwoBlocks, UntilGranted}
use Rattle.promises.specs.Quarantine.{Separation, Quarantine, NotAgain, Heavier, NeverEvicts, Evicted}
use Rattle.promises.specs.Sought.{Releases, Placement, AllSought, ReleasesNothing}
use Rattle.promises.specs.Shape.{Shape, RowsAreBlocks, Encoding}
use Rattle.promises.specs.Direct.{DirectCalls}

-- 1. Total: any input, an answer; a refusal changes nothing.
pub record Demand1 : Type 0 where
  pub any_input_an_answer : Total
  pub a_refusal_changes_nothing : RefusalsKeep

-- 2. Shadow bytes, verdicts, places and both address maps exactly as published.
pub record Demand2 : Type 0 where
  pub shadow_bytes : ShadowBytes
  pub verdicts : Verdicts
  pub places : Places
  pub map_of_32_bits : Map32
  pub map_of_64_bits : Map64

-- 3. Cut the trace anywhere, lend any room: report, shadow, table and session are those of the rules over the whole
-- text; a read or write is reported exactly when it touches a byte in no block granted and not yet released; held
-- blocks stay a redzone apart; nothing in quarantine is granted again.
pub record Demand3 : Type 0 where
  -- cut anywhere, with any room; and one who stops early has the first part of the report
  pub cut_anywhere : Cutting watcher
  pub stopped_early : StopsEarly watcher
  -- nobody is stuck
  pub goes_on : GoesOn watcher
  pub finishes : Finishes watcher
  -- an opening is a beginning, and what follows is promised of every text from a beginning
  pub from_an_opening : Openings
  -- every line is answered; reported exactly when, with the first such byte; outside the arena there is no block
  pub every_line : EveryLine
  pub reported : Reported
  pub first_bad_byte : FirstBadByte
  pub outside_nowhere : OutsideNowhere
  -- a redzone between held blocks and from both ends
  pub a_redzone_apart : Separation
  -- the quarantine is the longest run of latest releases within Q, and no byte of it is granted again
  pub quarantine : Quarantine
  pub not_granted_again : NotAgain

-- What else he was promised.
pub record Beyond : Type 0 where
  -- a block heavier than Q leaves at once; a grant never evicts
  pub heavier_leaves : Heavier
  pub a_grant_never_evicts : NeverEvicts
  -- a release says how many left
  pub evicted_count : Evicted
  -- 07 and 08 exactly; 05 and 06 exactly, and the lowest place; done exactly when all that is sought is there
  pub releases : Releases
  pub placement : Placement
  pub all_sought : AllSought
  pub address_0 : ReleasesNothing
  -- table and shadow
  pub shape : Shape
  pub rows_are_blocks : RowsAreBlocks
  pub encoding : Encoding
  -- what the kind of a reported byte says
  pub kinds : Kinds
  -- a direct call is the line of its frame
  pub direct_calls : DirectCalls
  -- what a tester can quote
  pub two_blocks_reported : TwoBlocks
  pub reported_until_granted : UntilGranted
  pub answers_so_far : SoFar watcher
  -- a text's end is a beginning again; and what was in the buffers lent to an opening does not show
  pub begins_again : BeginsAgain
  pub same_report : SameReport
