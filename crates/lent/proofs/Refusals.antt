-- What a refusal leaves behind the reference: 24 changes no field of the lent session, no lent buffer, takes no byte
-- and writes none; a line feed that ends a refused line changes neither shadow nor table. Read off the statement, so it
-- is about the code. Assumes nothing.
use Prim.Native.Nat.{ℕ}
use mathlib.Core.Path.{◌≡◌, ap}
use mathlib.Core.Logic.{◌≢◌}
use mathlib.Core.List.{List, [], ◌∷◌}
use Rattle.rules.specs.declared.Session.{Session}
use Rattle.rules.specs.declared.Counts.{Counts}
use Rattle.rules.specs.declared.Fed.{Fed}
use Rattle.rules.specs.Limits.{line_feed}
use Rattle.rules.specs.Answers.{status}
use Rattle.rules.specs.Feed.{act_line}
use Rattle.rules.specs.Watcher.{state_of, watcher}
use Rattle.watcher.proofs.Refusals as by_value_call
use Rattle.lent.specs.Calls.{counts_of, FeedInPlaceCall}
use Rattle.lent.proofs.Calls.{by_value}

module _ {session session_after : Session} {shadow table room shadow_after table_after room_after : List ℕ}
    {counts : Counts} where
  pub feed_in_place_refused_keeps : {piece : List ℕ}
      → FeedInPlaceCall session shadow table piece room counts session_after shadow_after table_after room_after
      → counts.status ≢ 0
      → (counts ≡ record { status = 24; taken = 0; wrote = 0 })
      × (session_after ≡ session)
      × (shadow_after ≡ shadow)
      × (table_after ≡ table)
      × (room_after ≡ room)
  feed_in_place_refused_keeps lent refused =
      let kept = by_value_call.feed_refused_keeps (by_value lent) refused in
      (ap counts_of kept.0, ap (λ (fed : Fed). fed.session) kept.0, kept.1, kept.2, kept.3)

  pub line_in_place_refused_keeps : FeedInPlaceCall session shadow table
      (line_feed ∷ []) room counts session_after shadow_after table_after room_after
      → status (act_line watcher (state_of session shadow table)).answer ≢ 0 → (shadow_after ≡ shadow)
      × (table_after ≡ table)
  line_in_place_refused_keeps lent refused = by_value_call.line_refused_keeps (by_value lent) refused
