-- A call's statement is one equation, read field by field. Assumes nothing.
use Prim.Native.Nat.{ℕ}
use mathlib.Core.Path.{◌≡◌, ap, ap₂, ◌∙◌}
use mathlib.Core.List.{List}
use Rattle.rules.specs.declared.Session.{Session}
use Rattle.rules.specs.Answers.{CallAnswer}
use Rattle.rules.specs.declared.Opened.{Opened}
use Rattle.rules.specs.declared.Fed.{Fed}
use Rattle.rules.specs.Release.{Pool}
use Rattle.rules.specs.Calls.{OpenedWith, open_with, called, grant_call, release_call, FedWith, feed}
use Rattle.watcher.specs.Calls.{OpenCall, GrantCall, ReleaseCall, FeedCall}
use Rattle.trace.specs.Feed.{fed}

abbrev pub opened : Opened → List ℕ → List ℕ → OpenedWith
opened given shadow table = record { given = given; shadow = shadow; table = table }

module _ {shadow table : List ℕ} {R Q : ℕ} {r : Opened} {shadow_after table_after : List ℕ} where
  pub open_call_is : opened r shadow_after table_after ≡ open_with shadow table R Q
      → OpenCall shadow table R Q r shadow_after table_after
  open_call_is e = record { given = ap (λ o. o.given) e; shadow = ap (λ o. o.shadow) e; table = ap (λ o. o.table) e }

module _ {session : Session} {shadow table : List ℕ} {n : ℕ} {r : CallAnswer} {shadow_after table_after : List ℕ} where
  pub grant_call_is : called r shadow_after table_after ≡ grant_call session shadow table n
      → GrantCall session shadow table n r shadow_after table_after
  grant_call_is e = record {
    answer = ap (λ a. a.answer) e;
    shadow = ap (λ a. a.shadow) e;
    table = ap (λ a. a.table) e;
  }

  pub release_call_is : called r shadow_after table_after ≡ release_call session shadow table n
      → ReleaseCall session shadow table n r shadow_after table_after
  release_call_is e = record {
    answer = ap (λ a. a.answer) e;
    shadow = ap (λ a. a.shadow) e;
    table = ap (λ a. a.table) e;
  }

module _ {session : Session} {shadow table piece room : List ℕ} {r : Fed}
    {shadow_after table_after room_after : List ℕ} where
  pub feed_call_is : fed r shadow_after table_after room_after ≡ feed session shadow table piece room
      → FeedCall session shadow table piece room r shadow_after table_after room_after
  feed_call_is e = record {
    given = ap (λ f. f.given) e;
    shadow = ap (λ f. f.pool.shadow) e;
    table = ap (λ f. f.pool.table) e;
    room = ap (λ f. f.room) e;
  }

  -- and the fields together are the rule's record
  pub feed_call_whole : FeedCall session shadow table piece room r shadow_after table_after room_after
      → fed r shadow_after table_after room_after ≡ feed session shadow table piece room
  feed_call_whole f =
      let rule : FedWith Pool = feed session shadow table piece room in
      ap (λ given. fed given shadow_after table_after room_after) f.given
      ∙ ap₂ (λ sh ta. fed rule.given sh ta room_after) f.shadow f.table
      ∙ ap (fed rule.given rule.pool.shadow rule.pool.table) f.room
