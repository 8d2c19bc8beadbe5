-- `trace::finish` meets its contract: the frame, what it does, its answer and the emptied line are the rule's, one
-- after the other. Assumes nothing.
use mathlib.Core.Path.{ap, ◌∙◌}
use Rattle.rules.specs.declared.Session.{Session}
use Rattle.rules.specs.Grant.{Acted}
use Rattle.rules.specs.Release.{Pool}
use Rattle.rules.specs.Frames.{answer_line}
use Rattle.rules.specs.Feed.{Ran, emptied, act_line, finish}
use Rattle.rules.specs.Watcher.{act}
use Rattle.pool.specs.Acting.{act_or_answer}
use Rattle.pool.proofs.Acting.{act_asked}
use Rattle.trace.specs.Feed.{ran}
use Rattle.trace.proofs.finish.Goals as goal

-- a line that was acted on
abbrev finished : Session → Acted → Ran Pool
finished session acted = ran session acted.shadow acted.table (answer_line acted.answer)

pub returns : goal.returns
unfolding finish act_line
returns c =
    let session = c.args.session in
    let after = c.act-answer.new in
    ap (ran c.emptied.result after.shadow after.table) c.put_answer.ensures
    ∙ ap (λ s. ran s after.shadow after.table (answer_line c.act-answer.result)) c.emptied.ensures
    ∙ ap (finished (emptied session))
    (c.act-answer.ensures
    ∙ ap (act_or_answer session c.args.shadow.now c.args.table.now) c.in_answers.ensures
    ∙ act_asked session c.args.shadow.now c.args.table.now c.frame_of_line-asked.result
    ∙ ap (act session c.args.shadow.now c.args.table.now) c.frame_of_line-asked.ensures)
