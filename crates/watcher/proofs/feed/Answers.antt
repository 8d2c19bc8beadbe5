-- `watcher::feed` meets its contract: 24 where the session does not fit what is lent, else the bytes that are taken,
-- run. Assumes nothing.
use Prim.Native.Nat.{ℕ}
use mathlib.Core.Path.{sym, ap, ◌∙◌}
use Rattle.std.specs.Prelude.{Err}
use Rattle.rules.specs.declared.Session.{Session}
use Rattle.rules.specs.declared.Fed.{Fed}
use Rattle.rules.specs.Answers.{call_status, call_in_numbers}
use Rattle.rules.specs.Watcher.{watcher, pool_of}
use Rattle.rules.proofs.Calls.{feed_24, feed_done}
use Rattle.trace.specs.Feed.{fed}
use Rattle.watcher.proofs.Calls.{feed_call_is}
use Rattle.watcher.proofs.Fitting.{one_refusal, fits_true, fits_false, fits_lends}
use Rattle.watcher.proofs.feed.Goals as goal

-- a feed that takes and writes nothing
abbrev nothing : Session → ℕ → Fed
nothing session number = record { session = session; status = number; taken = 0; wrote = 0 }

pub returns-in-Err : goal.returns-in-Err
unfolding call_status call_in_numbers
returns-in-Err c =
    let shadow = c.args.shadow.now in
    let table = c.args.table.now in
    let room = c.args.room.now in
    let status = c.call_status_of.ensures ∙ ap (λ refusal. call_status (Err refusal)) (one_refusal c.in-Err.refusal) in
    feed_call_is
    (ap (λ number. fed (nothing c.args.session number) shadow table room) status
    ∙ sym (feed_24 watcher c.args.session (pool_of shadow table) c.args.piece.now room
    (fits_false _ _ _ c.in-Err.ensures)))

pub feed-requires : goal.feed-requires
feed-requires c = fits_lends _ _ _ c.in_default.ensures

pub returns : goal.returns
returns c =
    feed_call_is (c.feed.ensures ∙ sym (feed_done watcher _ _ _ _ (fits_true _ _ _ c.in_default.ensures)))
