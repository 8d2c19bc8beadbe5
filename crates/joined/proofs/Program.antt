-- Feeds in a row come to the chain of the rules, whichever call each of them was; and from any state that chain can be
-- had. Assumes nothing.
use Prim.Native.Nat.{ℕ}
use mathlib.Core.Path.{◌≡◌, refl, ap, ◌∙◌}
use mathlib.Core.Logic.{inl, inr}
use mathlib.Core.List.{List, [], ◌∷◌}
use lib.ListN.{take, drop}
use Rattle.rules.specs.declared.Fed.{Fed}
use Rattle.rules.specs.Release.{Pool}
use Rattle.rules.specs.Feed.{State, after}
use Rattle.rules.specs.Watcher.{watcher}
use Rattle.rules.specs.Calls.{FedWith}
use Rattle.promises.specs.Cutting.{Call, Chained, fed_on, ran_on, chain}
use Rattle.watcher.specs.Calls.{FeedCall}
use Rattle.watcher.proofs.Calls.{feed_call_is, feed_call_whole}
use Rattle.lent.proofs.Calls.{by_value}
use Rattle.joined.specs.Program.{FedOnce, FedAll}

-- one feed is the rule's, whichever call it was
once_is : {st : State Pool} {piece room : List ℕ} {fed : Fed} {pool : Pool} {room_after : List ℕ}
    → FedOnce st piece room fed pool room_after
    → FeedCall st.session st.pool.shadow st.pool.table piece room fed pool.shadow pool.table room_after
once_is (inl call) = call
once_is (inr call) = by_value call

-- a feed, and the others after it
goes_on : List ℕ → List Call → FedWith Pool → Chained Pool
goes_on text calls fed =
    let rest : Chained Pool = chain watcher (ran_on fed).state (drop fed.given.taken text) calls in
    record { ran = after (ran_on fed).report rest.ran; left = rest.left }

pub all_chain : (st : State Pool) (text : List ℕ) (calls : List Call) (end : Chained Pool) → FedAll st text calls end
    → end ≡ chain watcher st text calls
unfolding FedAll chain goes_on
all_chain st text [] end is = is
all_chain st text (call ∷ calls) end (fed, pool, room, rest, once, others, is) =
    let next : State Pool = record { session = fed.session; pool = pool } in
    let left : List ℕ = drop fed.taken text in
    is
    ∙ ap (λ (c : Chained Pool). record { ran = after (take fed.wrote room) c.ran; left = c.left })
    (all_chain next left calls rest others)
    ∙ ap (goes_on text calls) (feed_call_whole (once_is {st = st} once))

-- and there is always such an end
pub chain_all : (st : State Pool) (text : List ℕ) (calls : List Call)
    → FedAll st text calls (chain watcher st text calls)
unfolding FedAll chain
chain_all st text [] = refl
chain_all st text (call ∷ calls) =
    let fed : FedWith Pool = fed_on watcher st text call in
    let left : List ℕ = drop fed.given.taken text in (
      fed.given,
      fed.pool,
      fed.room,
      chain watcher (ran_on fed).state left calls,
      inl (feed_call_is refl),
      chain_all (ran_on fed).state left calls,
      refl,
    )
