-- No second outcome fits a call's statement: whatever two satisfy it, for the same input, are one. Assumes nothing.
use Prim.Native.Nat.{ℕ}
use mathlib.Core.Path.{◌≡◌, sym, ◌∙◌}
use mathlib.Core.List.{List}
use Rattle.rules.specs.declared.Session.{Session}
use Rattle.rules.specs.Answers.{CallAnswer}
use Rattle.rules.specs.declared.Opened.{Opened}
use Rattle.rules.specs.declared.Fed.{Fed}
use Rattle.watcher.specs.Calls.{OpenCall, GrantCall, ReleaseCall, AccessCall, UnfinishedCall, FeedCall}

module _ {shadow table : List ℕ} {R Q : ℕ} {one two : Opened} {shadow_one table_one shadow_two table_two : List ℕ} where
  pub open_call_only : OpenCall shadow table R Q one shadow_one table_one
      → OpenCall shadow table R Q two shadow_two table_two
      → (one ≡ two) × (shadow_one ≡ shadow_two) × (table_one ≡ table_two)
  open_call_only a b = (a.given ∙ sym b.given, a.shadow ∙ sym b.shadow, a.table ∙ sym b.table)

module _ {session : Session} {shadow table : List ℕ} {n : ℕ} {one two : CallAnswer}
    {shadow_one table_one shadow_two table_two : List ℕ} where
  pub grant_call_only : GrantCall session shadow table n one shadow_one table_one
      → GrantCall session shadow table n two shadow_two table_two
      → (one ≡ two) × (shadow_one ≡ shadow_two) × (table_one ≡ table_two)
  grant_call_only a b = (a.answer ∙ sym b.answer, a.shadow ∙ sym b.shadow, a.table ∙ sym b.table)

  pub release_call_only : ReleaseCall session shadow table n one shadow_one table_one
      → ReleaseCall session shadow table n two shadow_two table_two
      → (one ≡ two) × (shadow_one ≡ shadow_two) × (table_one ≡ table_two)
  release_call_only a b = (a.answer ∙ sym b.answer, a.shadow ∙ sym b.shadow, a.table ∙ sym b.table)

module _ {session : Session} {shadow table : List ℕ} {address bytes : ℕ} {one two : CallAnswer} where
  pub access_call_only : AccessCall session shadow table address bytes one
      → AccessCall session shadow table address bytes two → one ≡ two
  access_call_only a b = a.answer ∙ sym b.answer

module _ {session : Session} {one two : CallAnswer} where
  pub unfinished_call_only : UnfinishedCall session one → UnfinishedCall session two → one ≡ two
  unfinished_call_only a b = a.answer ∙ sym b.answer

module _ {session : Session} {shadow table piece room : List ℕ} {one two : Fed}
    {shadow_one table_one room_one shadow_two table_two room_two : List ℕ} where
  pub feed_call_only : FeedCall session shadow table piece room one shadow_one table_one room_one
      → FeedCall session shadow table piece room two shadow_two table_two room_two
      → (one ≡ two) × (shadow_one ≡ shadow_two) × (table_one ≡ table_two) × (room_one ≡ room_two)
  feed_call_only a b = (
    a.given ∙ sym b.given,
    a.shadow ∙ sym b.shadow,
    a.table ∙ sym b.table,
    a.room ∙ sym b.room,
  )
