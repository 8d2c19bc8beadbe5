-- What a refusal leaves: none of 01 to 24 changes shadow or table, 21 to 24 take no byte and write none, and a refused
-- call changes no session. Each is read off a call's statement, so it is about the code. Assumes nothing.
use Prim.Native.Nat.{ℕ, suc, ◌-◌, ◌≤◌}
use native.Mathlib.Omega.{arith}
use mathlib.Core.Path.{◌≡◌, refl, sym, ap, subst, ◌∙◌}
use mathlib.Core.Logic.{◌≢◌}
use mathlib.Core.List.{List, [], ◌∷◌}
use lib.ListN.{length, take}
use borrow.Author.Tests.{lt-ltb, le-ltb}
use Rattle.std.specs.Prelude.{Ok, Err}
use Rattle.rules.specs.declared.CallRefusal.TheVariants.{BadSession}
use Rattle.rules.specs.declared.Session.{Session}
use Rattle.rules.specs.Answers.{CallAnswer}
use Rattle.rules.specs.declared.Opened.{Opened}
use Rattle.rules.specs.declared.Fed.{Fed}
use Rattle.rules.specs.Limits.{too_long, line_feed, answer_bytes}
use Rattle.rules.specs.Answers.{status, in_numbers, call_status, call_in_numbers}
use Rattle.rules.specs.Release.{Pool}
use Rattle.rules.specs.Feed.{State, act_line, finish, run, run_nil, run_cons, taken, taken_nil, taken_answered}
use Rattle.rules.specs.Feed.{taken_stops}
use Rattle.rules.specs.Watcher.{state_of, watcher, pool_of}
use Rattle.rules.specs.Calls.{closed, open_with, fits_lent, within_limits, grant_call, release_call}
use Rattle.rules.proofs.Tests.{by_test, by_order}
use Rattle.rules.proofs.Feed.{step_line_feed}
use Rattle.rules.proofs.Watcher.{finish_refused}
use Rattle.rules.proofs.Calls.{open_refused, within_true, grant_call_refused, release_call_refused, unfinished_24}
use Rattle.rules.proofs.Calls.{unfinished_done, feed_24, feed_done}
use Rattle.watcher.specs.Calls.{OpenCall, GrantCall, ReleaseCall, UnfinishedCall, FeedCall}

done_is : {m n : ℕ} → Path CallAnswer (Ok (Ok m)) (Ok (Ok n)) → m ≡ n
done_is e = cc

done_not : {m : ℕ} → Path CallAnswer (Ok (Ok m)) (Err BadSession) → ⊥
done_not e = let z : ◌≡◌ {A = ℕ} 0 1 = cc in omega arith

-- 21, 22, 23
module _ {shadow table : List ℕ} {R Q : ℕ} {r : Opened} {shadow_after table_after : List ℕ} where
  pub open_refused_keeps : OpenCall shadow table R Q r shadow_after table_after → r.status ≢ 0
      → (r.session ≡ closed) × (shadow_after ≡ shadow) × (table_after ≡ table)
  open_refused_keeps o refused =
      let kept : ((open_with shadow table R Q).given.session ≡ closed) × ((open_with shadow table R Q).shadow ≡ shadow)
      × ((open_with shadow table R Q).table ≡ table) =
      open_refused shadow table R Q (λ e. refused (ap (λ q. q.status) o.given ∙ e)) in
      (ap (λ q. q.session) o.given ∙ kept.0, o.shadow ∙ kept.1, o.table ∙ kept.2)

-- 05, 06 and 24 of a grant; 07, 08 and 24 of a release
module _ {session : Session} {shadow table : List ℕ} {n : ℕ} {r : CallAnswer} {shadow_after table_after : List ℕ} where
  pub grant_refused_keeps : GrantCall session shadow table n r shadow_after table_after → call_status r ≢ 0
      → (shadow_after ≡ shadow) × (table_after ≡ table)
  grant_refused_keeps g refused =
      let kept : ((grant_call session shadow table n).shadow ≡ shadow)
      × ((grant_call session shadow table n).table ≡ table) =
      grant_call_refused session shadow table n (λ e. refused (ap call_status g.answer ∙ e)) in
      (g.shadow ∙ kept.0, g.table ∙ kept.1)

  pub release_refused_keeps : ReleaseCall session shadow table n r shadow_after table_after → call_status r ≢ 0
      → (shadow_after ≡ shadow) × (table_after ≡ table)
  release_refused_keeps g refused =
      let kept : ((release_call session shadow table n).shadow ≡ shadow)
      × ((release_call session shadow table n).table ≡ table) =
      release_call_refused session shadow table n (λ e. refused (ap call_status g.answer ∙ e)) in
      (g.shadow ∙ kept.0, g.table ∙ kept.1)

-- a length that is answered is 0 to 19
module _ {session : Session} {n : ℕ} where
  pub asked_length : UnfinishedCall session (Ok (Ok n)) → n ≤ too_long
  asked_length asks =
      by_test (within_limits session)
      (λ within.
      let same : n ≡ session.unfinished = done_is (asks.answer ∙ unfinished_done session within) in
      omega (arith, (within_true session within).unfinished))
      (λ not. absurd (done_not (asks.answer ∙ unfinished_24 session not)))

-- 24 gives the session back, takes no byte and writes none
module _ {session : Session} {shadow table piece room : List ℕ} {r : Fed}
    {shadow_after table_after room_after : List ℕ} where
  pub feed_refused_keeps : FeedCall session shadow table piece room r shadow_after table_after room_after
      → r.status ≢ 0
      → (r ≡ record { session = session; status = 24; taken = 0; wrote = 0 })
      × (shadow_after ≡ shadow)
      × (table_after ≡ table)
      × (room_after ≡ room)
  unfolding call_status call_in_numbers in_numbers
  feed_refused_keeps f refused =
      by_test (fits_lent session shadow table)
      (λ fits. absurd (refused (ap (λ q. q.status) f.given
      ∙ ap (λ q. q.given.status) (feed_done watcher session (pool_of shadow table) piece room fits))))
      (λ not.
      let e = feed_24 watcher session (pool_of shadow table) piece room not in (
        f.given ∙ ap (λ q. q.given) e,
        f.shadow ∙ ap (λ q. q.pool.shadow) e,
        f.table ∙ ap (λ q. q.pool.table) e,
        f.room ∙ ap (λ q. q.room) e,
      ))

-- a line feed alone, with room for its answer or without
line_ran : (st : State Pool) (room : ℕ) → (P : State Pool → Type 0) → P st → P (finish watcher st).state
    → P (run watcher st (take (taken (line_feed ∷ []) room) (line_feed ∷ []))).state
line_ran st room P stays acts =
    by_order room answer_bytes
    (λ full.
    subst (λ n. P (run watcher st (take n (line_feed ∷ []))).state)
    (sym (taken_stops [] room (lt-ltb room answer_bytes full)))
    (subst (λ r. P r.state) (sym (run_nil watcher st)) stays))
    (λ enough.
    let one : taken (line_feed ∷ []) room ≡ 1 =
    taken_answered [] room (le-ltb room answer_bytes enough) ∙ ap suc (taken_nil (room - answer_bytes)) in
    let ran : (run watcher st (line_feed ∷ [])).state ≡ (finish watcher st).state =
    ap (λ r. r.state) (run_cons watcher st line_feed [])
    ∙ ap (λ r. (run watcher r.state []).state) (step_line_feed watcher st)
    ∙ ap (λ r. r.state) (run_nil watcher (finish watcher st).state) in
    subst (λ n. P (run watcher st (take n (line_feed ∷ []))).state) (sym one) (subst P (sym ran) acts))

-- 01 to 09: a line feed that ends a refused line changes neither shadow nor table
module _ {session : Session} {shadow table room : List ℕ} {r : Fed} {shadow_after table_after room_after : List ℕ} where
  pub line_refused_keeps : FeedCall session shadow table (line_feed ∷ []) room r shadow_after table_after room_after
      → status (act_line watcher (state_of session shadow table)).answer ≢ 0 → (shadow_after ≡ shadow)
      × (table_after ≡ table)
  line_refused_keeps f refused =
      let st : State Pool = state_of session shadow table in
      let Keeps : State Pool → Type 0 = λ s. (s.pool.shadow ≡ shadow) × (s.pool.table ≡ table) in
      by_test (fits_lent session shadow table)
      (λ fits.
      let e = feed_done watcher session (pool_of shadow table) (line_feed ∷ []) room fits in
      let kept : Keeps (run watcher st (take (taken (line_feed ∷ []) (length room)) (line_feed ∷ []))).state =
      line_ran st (length room) Keeps (refl, refl) (finish_refused st refused) in
      (f.shadow ∙ ap (λ q. q.pool.shadow) e ∙ kept.0, f.table ∙ ap (λ q. q.pool.table) e ∙ kept.1))
      (λ not.
      let e = feed_24 watcher session (pool_of shadow table) (line_feed ∷ []) room not in
      (f.shadow ∙ ap (λ q. q.pool.shadow) e, f.table ∙ ap (λ q. q.pool.table) e))
