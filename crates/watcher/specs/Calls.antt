-- The statement of each public call: its result and every lent buffer as it leaves it are what the rule of `rules`
-- says, for every input.
use Rattle.std.specs.Prelude.{ℕ, ◌≡◌, true, false, List, Result, Ok, Err}
use Rattle.rules.specs.declared.Session.{Session}
use Rattle.rules.specs.Answers.{CallAnswer, opening_status}
use Rattle.rules.specs.declared.CallRefusal.{CallRefusal}
use Rattle.rules.specs.declared.CallRefusal.TheVariants.{BadSession}
use Rattle.rules.specs.declared.OpeningRefusal.{OpeningRefusal}
use Rattle.rules.specs.declared.Opened.{Opened}
use Rattle.rules.specs.declared.Fed.{Fed}
use Rattle.rules.specs.Calls.{OpenedWith, not_opened, open_with, fits_lent, grant_call, release_call, access_call}
use Rattle.rules.specs.Calls.{unfinished_call, feed}

-- whether a session fits what is lent, or the refusal 24
unfoldable pub fits_or_refused : Session → List ℕ → List ℕ → Result Unit CallRefusal
fits_or_refused session shadow table = elim (fits_lent session shadow table) [ true ↦ Ok tt | false ↦ Err BadSession ]

-- an opening's session or its refusal, in what is handed back
unfoldable pub opened_as : Result Session OpeningRefusal → List ℕ → List ℕ → OpenedWith
opened_as (Ok session) shadow table = record {
  given = record { session = session; status = opening_status (Ok tt) };
  shadow = shadow;
  table = table;
}
opened_as (Err refusal) shadow table = not_opened (Err refusal) shadow table

pub record OpenCall (shadow_before table_before : List ℕ) (R Q : ℕ) (r : Opened)
    (shadow_after table_after : List ℕ) : Type 0 where
  pub given : r ≡ (open_with shadow_before table_before R Q).given
  pub shadow : shadow_after ≡ (open_with shadow_before table_before R Q).shadow
  pub table : table_after ≡ (open_with shadow_before table_before R Q).table

pub record GrantCall (session : Session) (shadow_before table_before : List ℕ) (size : ℕ) (r : CallAnswer)
    (shadow_after table_after : List ℕ) : Type 0 where
  pub answer : r ≡ (grant_call session shadow_before table_before size).answer
  pub shadow : shadow_after ≡ (grant_call session shadow_before table_before size).shadow
  pub table : table_after ≡ (grant_call session shadow_before table_before size).table

pub record ReleaseCall (session : Session) (shadow_before table_before : List ℕ) (address : ℕ) (r : CallAnswer)
    (shadow_after table_after : List ℕ) : Type 0 where
  pub answer : r ≡ (release_call session shadow_before table_before address).answer
  pub shadow : shadow_after ≡ (release_call session shadow_before table_before address).shadow
  pub table : table_after ≡ (release_call session shadow_before table_before address).table

-- shadow and table are lent to be read, and no call can write what is so lent
pub record AccessCall (session : Session) (shadow table : List ℕ) (address length : ℕ) (r : CallAnswer) : Type 0 where
  pub answer : r ≡ access_call session shadow table address length

-- the length of the unfinished line; nothing is lent
pub record UnfinishedCall (session : Session) (r : CallAnswer) : Type 0 where
  pub answer : r ≡ unfinished_call session

pub record FeedCall (session : Session) (shadow_before table_before piece room_before : List ℕ) (r : Fed)
    (shadow_after table_after room_after : List ℕ) : Type 0 where
  pub given : r ≡ (feed session shadow_before table_before piece room_before).given
  pub shadow : shadow_after ≡ (feed session shadow_before table_before piece room_before).pool.shadow
  pub table : table_after ≡ (feed session shadow_before table_before piece room_before).pool.table
  pub room : room_after ≡ (feed session shadow_before table_before piece room_before).room
