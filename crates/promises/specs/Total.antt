-- Demand 1: every call answers a number of its own, and a refusal changes nothing.
use Rattle.std.specs.Prelude.{ℕ, ◌≡◌, ◌≢◌, List, [], ◌∷◌}
use Rattle.rules.specs.declared.Session.{Session}
use Rattle.rules.specs.declared.Map.{Map}
use Rattle.rules.specs.Answers.{status, call_status}
use Rattle.rules.specs.Release.{Pool}
use Rattle.rules.specs.Feed.{State, emptied, act_line, finish}
use Rattle.rules.specs.Watcher.{watcher, state_of, pool_of}
use Rattle.rules.specs.Calls.{closed, open_with, grant_call, release_call, access_call, unfinished_call, feed}
use Rattle.rules.specs.Maps.{map_call}
use Rattle.promises.specs.Rows.{◌∈◌}

-- every call, of any session, any buffers and any numbers, answers a number of the paper's table that is its own
pub record Total : Type 0 where
  pub opening : (shadow table : List ℕ) (R Q : ℕ) → (open_with shadow table R Q).given.status ∈ (0 ∷ 21 ∷ 22 ∷ 23 ∷ [])
  pub grant : (session : Session) (shadow table : List ℕ) (s : ℕ)
      → call_status (grant_call session shadow table s).answer ∈ (0 ∷ 5 ∷ 6 ∷ 24 ∷ [])
  pub release : (session : Session) (shadow table : List ℕ) (a : ℕ)
      → call_status (release_call session shadow table a).answer ∈ (0 ∷ 7 ∷ 8 ∷ 24 ∷ [])
  pub access : (session : Session) (shadow table : List ℕ) (a n : ℕ)
      → call_status (access_call session shadow table a n) ∈ (0 ∷ 9 ∷ 24 ∷ [])
  pub unfinished : (session : Session) → call_status (unfinished_call session) ∈ (0 ∷ 24 ∷ [])
  pub feed : (session : Session) (shadow table piece room : List ℕ)
      → (feed session shadow table piece room).given.status ∈ (0 ∷ 24 ∷ [])
  pub line : (st : State Pool) → status (act_line watcher st).answer ∈ (0 ∷ 1 ∷ 2 ∷ 3 ∷ 5 ∷ 6 ∷ 7 ∷ 8 ∷ 9 ∷ [])
  pub map : (map : Map) (a : ℕ) → (map_call map a).status ∈ (0 ∷ 31 ∷ 32 ∷ [])

-- refused, that is answered another number than 00, none changes anything; a line that is refused is emptied, and that
-- is all
pub record RefusalsKeep : Type 0 where
  pub opening : (shadow table : List ℕ) (R Q : ℕ) → (open_with shadow table R Q).given.status ≢ 0
      → ((open_with shadow table R Q).given.session ≡ closed) × ((open_with shadow table R Q).shadow ≡ shadow)
      × ((open_with shadow table R Q).table ≡ table)
  pub grant : (session : Session) (shadow table : List ℕ) (s : ℕ)
      → call_status (grant_call session shadow table s).answer ≢ 0
      → ((grant_call session shadow table s).shadow ≡ shadow) × ((grant_call session shadow table s).table ≡ table)
  pub release : (session : Session) (shadow table : List ℕ) (a : ℕ)
      → call_status (release_call session shadow table a).answer ≢ 0
      → ((release_call session shadow table a).shadow ≡ shadow) × ((release_call session shadow table a).table ≡ table)
  pub feed : (session : Session) (shadow table piece room : List ℕ)
      → (feed session shadow table piece room).given.status ≢ 0
      → feed session shadow table piece room
      ≡ record {
        given = record { session = session; status = 24; taken = 0; wrote = 0 };
        pool = pool_of shadow table;
        room = room;
      }
  pub line : (st : State Pool) → status (act_line watcher st).answer ≢ 0
      → (finish watcher st).state ≡ state_of (emptied st.session) st.pool.shadow st.pool.table
