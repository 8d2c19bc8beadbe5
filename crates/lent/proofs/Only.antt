-- No second outcome fits: whatever two satisfy the statement of the call over a lent session, for the same input, are
-- one. Assumes nothing.
use Prim.Native.Nat.{ℕ}
use mathlib.Core.Path.{◌≡◌, sym, ◌∙◌}
use mathlib.Core.List.{List}
use Rattle.rules.specs.declared.Session.{Session}
use Rattle.rules.specs.declared.Counts.{Counts}
use Rattle.lent.specs.Calls.{FeedInPlaceCall}

module _ {session : Session} {shadow table piece room : List ℕ} {one two : Counts}
    {session_one session_two : Session} {shadow_one table_one room_one shadow_two table_two room_two : List ℕ} where
  pub feed_in_place_call_only :
      FeedInPlaceCall session shadow table piece room one session_one shadow_one table_one room_one
      → FeedInPlaceCall session shadow table piece room two session_two shadow_two table_two room_two
      → (one ≡ two) × (session_one ≡ session_two) × (shadow_one ≡ shadow_two) × (table_one ≡ table_two)
      × (room_one ≡ room_two)
  feed_in_place_call_only a b = (
    a.counts ∙ sym b.counts,
    a.session ∙ sym b.session,
    a.shadow ∙ sym b.shadow,
    a.table ∙ sym b.table,
    a.room ∙ sym b.room,
  )
