-- A line's refusal is an answer in its frame's place; refused, whatever is asked changes neither shadow nor table, and
-- their lengths are kept. Assumes nothing.
use Prim.Native.Nat.{ℕ}
use mathlib.Core.Path.{◌≡◌, refl}
use mathlib.Core.List.{List}
use Rattle.std.specs.Prelude.{Result, Ok, Err}
use Rattle.rules.specs.declared.Session.{Session}
use Rattle.rules.specs.declared.Frame.{Frame}
use Rattle.rules.specs.Answers.{Answer}
use Rattle.rules.specs.Frames.{Asked}
use Rattle.rules.specs.Watcher.{act}
use Rattle.rules.proofs.Watcher.{RefusedKeeps, act_refused, act_lengths}
use Rattle.rules.proofs.Grant.{SameLengths}
use Rattle.pool.specs.Acting.{act_or_answer, in_answers}

module _ (session : Session) (shadow table : List ℕ) where
  pub act_asked : (asked : Asked)
      → act_or_answer session shadow table (in_answers asked) ≡ act session shadow table asked
  unfolding act_or_answer act
  act_asked (Ok frame) = refl
  act_asked (Err refusal) = refl

  pub act_or_answer_refused : (asked : Result Frame Answer)
      → RefusedKeeps shadow table (act_or_answer session shadow table asked)
  unfolding act_or_answer
  act_or_answer_refused (Ok frame) = act_refused session shadow table (Ok frame)
  act_or_answer_refused (Err answer) = λ refused. (refl, refl)

  pub act_or_answer_lengths : (asked : Result Frame Answer)
      → SameLengths shadow table (act_or_answer session shadow table asked)
  unfolding act_or_answer
  act_or_answer_lengths (Ok frame) = act_lengths session shadow table (Ok frame)
  act_or_answer_lengths (Err answer) = (refl, refl)
