-- `watcher::opened` meets its contract: its three tests are the definition's, in that order. Assumes nothing.
use mathlib.Core.Path.{sym, ap, ap₂, ◌∙◌}
use Rattle.std.specs.Prelude.{Ok}
use Rattle.rules.proofs.Calls.{open_bad_shadow, open_bad_redzone, open_bad_table, open_done}
use Rattle.watcher.specs.Calls.{opened_as}
use Rattle.watcher.proofs.opened.Goals as goal

pub returns-then-not-granules_within : goal.returns-then-not-granules_within
unfolding opened_as
returns-then-not-granules_within c =
    sym (open_bad_shadow c.args.shadow.now c.args.table.now c.args.redzone c.args.quarantine
    (sym c.granules_within.ensures ∙ c.if-not-granules_within.true))

pub returns-then-not-redzone_within : goal.returns-then-not-redzone_within
unfolding opened_as
returns-then-not-redzone_within c =
    sym (open_bad_redzone c.args.shadow.now c.args.table.now c.args.redzone c.args.quarantine
    (sym c.granules_within.ensures ∙ c.if-not-granules_within.false)
    (sym c.redzone_within.ensures ∙ c.if-not-redzone_within.true))

pub returns-then-not-table_length : goal.returns-then-not-table_length
unfolding opened_as
returns-then-not-table_length c =
    sym (open_bad_table c.args.shadow.now c.args.table.now c.args.redzone c.args.quarantine
    (sym c.granules_within.ensures ∙ c.if-not-granules_within.false)
    (sym c.redzone_within.ensures ∙ c.if-not-redzone_within.false)
    (sym c.table_length.ensures ∙ c.if-not-table_length.true))

pub returns : goal.returns
unfolding opened_as
returns c =
    ap (λ session. opened_as (Ok session) c.cover.new.part c.clear.new.table) c.fresh.ensures
    ∙ ap₂ (opened_as (Ok _)) c.cover.ensures c.clear.ensures
    ∙ sym
    (open_done c.args.shadow.now c.args.table.now c.args.redzone c.args.quarantine
    (sym c.granules_within.ensures ∙ c.if-not-granules_within.false)
    (sym c.redzone_within.ensures ∙ c.if-not-redzone_within.false)
    (sym c.table_length.ensures ∙ c.if-not-table_length.false))
