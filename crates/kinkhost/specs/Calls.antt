-- The statement of each call that answers in the paper's numbers: the reply and every lent buffer as it leaves it, for
-- every input. `OpenCall` and `FeedCall`, whose results are numbers already, are the watcher's own, and
-- `FeedInPlaceCall` is `lent`'s.
use Rattle.std.specs.Prelude.{ℕ, ◌≡◌, List}
use Rattle.rules.specs.declared.Session.{Session}
use Rattle.rules.specs.declared.Reply.{Reply}
use Rattle.rules.specs.Answers.{call_in_numbers}
use Rattle.rules.specs.Calls.{grant_call, release_call, access_call, unfinished_call}

pub record GrantInNumbers (session : Session) (shadow_before table_before : List ℕ) (size : ℕ) (r : Reply)
    (shadow_after table_after : List ℕ) : Type 0 where
  pub reply : r ≡ call_in_numbers (grant_call session shadow_before table_before size).answer
  pub shadow : shadow_after ≡ (grant_call session shadow_before table_before size).shadow
  pub table : table_after ≡ (grant_call session shadow_before table_before size).table

pub record ReleaseInNumbers (session : Session) (shadow_before table_before : List ℕ) (address : ℕ) (r : Reply)
    (shadow_after table_after : List ℕ) : Type 0 where
  pub reply : r ≡ call_in_numbers (release_call session shadow_before table_before address).answer
  pub shadow : shadow_after ≡ (release_call session shadow_before table_before address).shadow
  pub table : table_after ≡ (release_call session shadow_before table_before address).table

pub record AccessInNumbers (session : Session) (shadow table : List ℕ) (address length : ℕ) (r : Reply) : Type 0 where
  pub reply : r ≡ call_in_numbers (access_call session shadow table address length)

pub record UnfinishedInNumbers (session : Session) (r : Reply) : Type 0 where
  pub reply : r ≡ call_in_numbers (unfinished_call session)
