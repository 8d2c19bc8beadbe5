-- A program that calls the watcher from C: an opening, and feeds in a row, each by value or in place. What it has is
-- said by the contract of each call, and by nothing else.
use Rattle.std.specs.Prelude.{ℕ, ◌≡◌, ◌⊎◌, List, [], ◌∷◌, take, drop}
use Rattle.rules.specs.declared.Fed.{Fed}
use Rattle.rules.specs.declared.Opened.{Opened}
use Rattle.rules.specs.Release.{Pool}
use Rattle.rules.specs.Feed.{State, after}
use Rattle.promises.specs.Cutting.{Call, Chained}
use Rattle.watcher.specs.Calls.{OpenCall, FeedCall}
use Rattle.lent.specs.Calls.{counts_of, FeedInPlaceCall}

-- one feed, `kinkhost_feed` or `kinkhost_feed_in_place`: from a session and its pool, with a piece and a room, to the
-- session and the counts (of a feed in place, the session that lies behind the reference and the counts handed back),
-- the pool and the room after it
abbrev pub FedOnce : State Pool → List ℕ → List ℕ → Fed → Pool → List ℕ → Type 0
FedOnce st piece room fed pool room_after =
    FeedCall st.session st.pool.shadow st.pool.table piece room
    fed pool.shadow pool.table room_after
    ⊎ FeedInPlaceCall st.session st.pool.shadow st.pool.table piece room
    (counts_of fed) fed.session pool.shadow pool.table room_after

-- feeds in a row: each is handed the session and the pool as the last one left them, and a piece that begins where the
-- last one stopped taking; what it wrote is the first part of its room. In the end: the last session and pool, the
-- reports joined, and what is left of the text
unfoldable pub FedAll : State Pool → List ℕ → List Call → Chained Pool → Type 0
FedAll st text [] end = end ≡ record { ran = record { state = st; report = [] }; left = text }
FedAll st text (call ∷ calls) end =
    (fed : Fed) × (pool : Pool) × (room : List ℕ) × (rest : Chained Pool)
    × FedOnce st (take call.offered text) call.room fed pool room
    × FedAll (record { session = fed.session; pool = pool }) (drop fed.taken text) calls rest
    × (end ≡ record { ran = after (take fed.wrote room) rest.ran; left = rest.left })

-- a program: any buffers, R and Q, what `kinkhost_open` handed back and left, accepted; a text; its feeds, and what it
-- has in the end
pub record Program : Type 0 where
  pub shadow : List ℕ
  pub table : List ℕ
  pub redzone : ℕ
  pub quarantine : ℕ
  pub opened : Opened
  pub pool : Pool
  pub opening : OpenCall shadow table redzone quarantine opened pool.shadow pool.table
  pub accepted : opened.status ≡ 0
  pub text : List ℕ
  pub calls : List Call
  pub end : Chained Pool
  pub fed : FedAll (record { session = opened.session; pool = pool }) text calls end
