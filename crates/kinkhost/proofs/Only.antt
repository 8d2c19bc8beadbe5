-- No second outcome fits the statement of a call that answers in numbers: whatever two satisfy it, for the same input,
-- are one. `OpenCall` and `FeedCall` have theirs beside the watcher, `FeedInPlaceCall` in `lent`, and a map is an
-- equation. Assumes nothing.
use Prim.Native.Nat.{ℕ}
use mathlib.Core.Path.{◌≡◌, sym, ◌∙◌}
use mathlib.Core.List.{List}
use Rattle.rules.specs.declared.Session.{Session}
use Rattle.rules.specs.declared.Reply.{Reply}
use Rattle.kinkhost.specs.Calls.{GrantInNumbers, ReleaseInNumbers, AccessInNumbers, UnfinishedInNumbers}

module _ {session : Session} {shadow table : List ℕ} {n : ℕ} {one two : Reply}
    {shadow_one table_one shadow_two table_two : List ℕ} where
  pub grant_in_numbers_only : GrantInNumbers session shadow table n one shadow_one table_one
      → GrantInNumbers session shadow table n two shadow_two table_two
      → (one ≡ two) × (shadow_one ≡ shadow_two) × (table_one ≡ table_two)
  grant_in_numbers_only a b = (a.reply ∙ sym b.reply, a.shadow ∙ sym b.shadow, a.table ∙ sym b.table)

  pub release_in_numbers_only : ReleaseInNumbers session shadow table n one shadow_one table_one
      → ReleaseInNumbers session shadow table n two shadow_two table_two
      → (one ≡ two) × (shadow_one ≡ shadow_two) × (table_one ≡ table_two)
  release_in_numbers_only a b = (a.reply ∙ sym b.reply, a.shadow ∙ sym b.shadow, a.table ∙ sym b.table)

module _ {session : Session} {shadow table : List ℕ} {address bytes : ℕ} {one two : Reply} where
  pub access_in_numbers_only : AccessInNumbers session shadow table address bytes one
      → AccessInNumbers session shadow table address bytes two → one ≡ two
  access_in_numbers_only a b = a.reply ∙ sym b.reply

module _ {session : Session} {one two : Reply} where
  pub unfinished_in_numbers_only : UnfinishedInNumbers session one → UnfinishedInNumbers session two → one ≡ two
  unfinished_in_numbers_only a b = a.reply ∙ sym b.reply
