-- `watcher::open` meets its contract: the session or the refusal, in what C is handed. Assumes nothing.
use Prim.Native.Nat.{ℕ}
use mathlib.Core.Path.{ap, ap₂, ◌∙◌}
use Rattle.rules.specs.declared.Session.{Session}
use Rattle.rules.specs.declared.Opened.{Opened}
use Rattle.watcher.specs.Calls.{opened_as}
use Rattle.watcher.proofs.Calls.{opened, open_call_is}
use Rattle.watcher.proofs.open.Goals as goal

abbrev handed : Session → ℕ → Opened
handed session status = record { session = session; status = status }

pub returns-in-Ok : goal.returns-in-Ok
unfolding opened_as
returns-in-Ok c =
    open_call_is
    (ap (λ status. opened (handed c.in-Ok.session status) c.opened.new.shadow c.opened.new.table)
    c.opening_status_of.ensures ∙ c.in-Ok.ensures)

pub returns-in-Err : goal.returns-in-Err
unfolding opened_as
returns-in-Err c =
    open_call_is
    (ap₂ (λ session status. opened (handed session status) c.opened.new.shadow c.opened.new.table) c.closed.ensures
    c.opening_status_of-in-Err.ensures
    ∙ c.in-Err.ensures)
