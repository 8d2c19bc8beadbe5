-- The statement of the call over a lent session, for every input: its counts, the session that lies behind the
-- reference at exit, and every other lent buffer as it leaves it are those of the by-value feed on the session at
-- entry.
use Rattle.std.specs.Prelude.{ℕ, ◌≡◌, List}
use Rattle.rules.specs.declared.Session.{Session}
use Rattle.rules.specs.declared.Counts.{Counts}
use Rattle.rules.specs.declared.Fed.{Fed}
use Rattle.rules.specs.Calls.{feed}

-- what a feed hands back, without the session
abbrev pub counts_of : Fed → Counts
counts_of fed = record { status = fed.status; taken = fed.taken; wrote = fed.wrote }

pub record FeedInPlaceCall (session_before : Session) (shadow_before table_before piece room_before : List ℕ)
    (r : Counts) (session_after : Session) (shadow_after table_after room_after : List ℕ) : Type 0 where
  pub counts : r ≡ counts_of (feed session_before shadow_before table_before piece room_before).given
  pub session : session_after ≡ (feed session_before shadow_before table_before piece room_before).given.session
  pub shadow : shadow_after ≡ (feed session_before shadow_before table_before piece room_before).pool.shadow
  pub table : table_after ≡ (feed session_before shadow_before table_before piece room_before).pool.table
  pub room : room_after ≡ (feed session_before shadow_before table_before piece room_before).room
