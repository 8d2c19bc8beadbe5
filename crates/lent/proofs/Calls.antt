-- The call over a lent session beside the by_value one: the two statements say the same, at the session behind the
-- reference and the counts for one, and at both in one record for the other. Assumes nothing.
use Prim.Native.Nat.{ℕ}
use mathlib.Core.Path.{ap, ap₂}
use mathlib.Core.List.{List}
use Rattle.rules.specs.declared.Session.{Session}
use Rattle.rules.specs.declared.Counts.{Counts}
use Rattle.rules.specs.declared.Fed.{Fed}
use Rattle.watcher.specs.Calls.{FeedCall}
use Rattle.lent.specs.Calls.{counts_of, FeedInPlaceCall}

-- what the by_value call hands back, of the session and the counts that a lent one leaves
abbrev pub together : Session → Counts → Fed
together session counts =
    record { session = session; status = counts.status; taken = counts.taken; wrote = counts.wrote }

module _ {session : Session} {shadow table piece room shadow_after table_after room_after : List ℕ} where
  pub in_place : {fed : Fed} → FeedCall session shadow table piece room fed shadow_after table_after room_after
      → FeedInPlaceCall session shadow table piece room
      (counts_of fed) fed.session shadow_after table_after room_after
  in_place fed = record {
    counts = ap counts_of fed.given;
    session = ap (λ (k : Fed). k.session) fed.given;
    shadow = fed.shadow;
    table = fed.table;
    room = fed.room;
  }

  pub by_value : {counts : Counts} {session_after : Session}
      → FeedInPlaceCall session shadow table piece room counts session_after shadow_after table_after room_after
      → FeedCall session shadow table piece room (together session_after counts) shadow_after table_after room_after
  by_value lent = record {
    given = ap₂ together lent.session lent.counts;
    shadow = lent.shadow;
    table = lent.table;
    room = lent.room;
  }
