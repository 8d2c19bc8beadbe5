-- What a frame does, or the answer that a line is given in its place.
use Rattle.std.specs.Prelude.{ℕ, List, Result, Ok, Err}
use Rattle.rules.specs.declared.Session.{Session}
use Rattle.rules.specs.declared.Frame.{Frame}
use Rattle.rules.specs.Answers.{Answer}
use Rattle.rules.specs.Frames.{Asked}
use Rattle.rules.specs.Grant.{Acted, unchanged}
use Rattle.rules.specs.Watcher.{act}

-- a frame does what the line does that asks it; an answer in its place, a refusal or not, is given and changes nothing
unfoldable pub act_or_answer : Session → List ℕ → List ℕ → Result Frame Answer → Acted
act_or_answer session shadow table (Ok frame) = act session shadow table (Ok frame)
act_or_answer session shadow table (Err answer) = unchanged answer shadow table

-- what a line asks, its refusal an answer
abbrev pub in_answers : Asked → Result Frame Answer
in_answers (Ok frame) = Ok frame
in_answers (Err refusal) = Err (Err refusal)
