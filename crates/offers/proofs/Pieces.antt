-- What a feed's answer leads to, and a piece taken part by part. Assumes nothing.
use Prim.Native.Nat.{ℕ, ◌-◌}
use native.Mathlib.Omega.{arith}
use mathlib.Core.Path.{◌≡◌, refl, ap, subst, ◌∙◌}
use mathlib.Core.Bool.{true}
use mathlib.Core.List.{List, [], ◌++◌}
use lib.ListN.{length, take, drop}
use lib.Seq.{take-append_seam}
use Rattle.std.proofs.lemmas.Grind.{common_steps}
use Rattle.std.proofs.lemmas.List.{nil_from_length}
use Rattle.rules.specs.declared.Session.{Session}
use Rattle.rules.specs.declared.Fed.{Fed}
use Rattle.rules.specs.Release.{Pool}
use Rattle.rules.specs.Feed.{State, run, taken}
use Rattle.rules.specs.Put.{put}
use Rattle.rules.specs.Watcher.{state_of, watcher, pool_of}
use Rattle.rules.specs.Calls.{FedWith, fits_lent, feed}
use Rattle.rules.proofs.Tests.{by_test}
use Rattle.rules.proofs.Feed.{run_append, run_report, line_feeds}
use Rattle.rules.proofs.Calls.{feed_done, feed_24}
use Rattle.tally.proofs.Parts.{with_report_append, with_report_none}
use Rattle.watcher.specs.Calls.{FeedCall}
use Rattle.offers.specs.declared.offer.Run.{Run}
use Rattle.offers.specs.Offer.{Kept, Leads, Taken, SameLengths}

-- ---- what a feed's answer leads to

-- the session, the shadow and the table are those of the rules over the bytes taken, and the bytes written are the
-- report
abbrev Runs : State Pool → List ℕ → FedWith Pool → Type 0
Runs st part f =
    (state_of f.given.session f.pool.shadow f.pool.table
    ≡ (run watcher st (take f.given.taken part)).state)
    × (take f.given.wrote f.room ≡ (run watcher st (take f.given.taken part)).report)

module _ (session : Session) (shadow table part room : List ℕ) where
  done_lent : (feed session shadow table part room).given.status ≡ 0 → fits_lent session shadow table ≡ true
  done_lent done =
      by_test (fits_lent session shadow table) (λ fits. fits)
      (λ fails.
      let not = ap (λ f. f.given.status) (feed_24 watcher session (pool_of shadow table) part room fails) in
      absurd (omega arith))

  ran : (feed session shadow table part room).given.status ≡ 0
      → Runs (state_of session shadow table) part (feed session shadow table part room)
  unfolding put
  ran done =
      let st : State Pool = state_of session shadow table in
      rw (feed_done watcher session (pool_of shadow table) part room (done_lent done)) (
        refl,
        take-append_seam (run watcher st (take (taken part (length room)) part)).report _,
      )

pub kept_taken : (before : Run) {shadow table part room shadow_after table_after room_after : List ℕ} {fed : Fed}
    {r : Run} {took : ℕ}
    → FeedCall before.session shadow table part room fed shadow_after table_after room_after
    → Kept before fed (length part) room_after r took
    → Taken before shadow table part r took shadow_after table_after
kept_taken before {shadow} {table} {part} {room} f kept =
    let rules = ran before.session shadow table part room (cc) in
    record {
      some = omega (arith, kept.some, kept.taken_is);
      most = omega (arith, kept.most, kept.taken_is);
      leads = record { state = cc; tally = cc };
    }

-- ---- a piece taken part by part

pub leads_nothing : (before : Run) (shadow table text : List ℕ) → length text ≡ 0
    → Leads before shadow table text before shadow table
unfolding run
leads_nothing before shadow table text none =
    let empty = nil_from_length text none in
    let counted = with_report_none before.tally [] (omega arith) in
    record { state = cc; tally = cc }

module _ (before : Run) {shadow table shadow_mid table_mid shadow_after table_after : List ℕ} {mid r : Run}
    (first second : List ℕ) where
  pub leads_append : Leads before shadow table first mid shadow_mid table_mid
      → Leads mid shadow_mid table_mid second r shadow_after table_after
      → Leads before shadow table (first ++ second) r shadow_after table_after
  leads_append one two =
      let st : State Pool = state_of before.session shadow table in
      let whole = run_append watcher st first second in
      let counted = with_report_append before.tally (run watcher st first).report
      (run watcher (run watcher st first).state second).report (line_feeds first) (run_report watcher st first) in
      record { state = cc; tally = cc }

-- some of the first m bytes that are left, and then the rest, as `&left[n..]` says it
pub leads_on : (before : Run) {shadow table shadow_mid table_mid shadow_after table_after : List ℕ} {mid r : Run}
    (left : List ℕ) (m n : ℕ)
    → Taken before shadow table (take m left) mid n shadow_mid table_mid
    → Leads mid shadow_mid table_mid (take (length left - n) (drop n left)) r shadow_after table_after
    → Leads before shadow table left r shadow_after table_after
leads_on before {shadow} {table} {shadow_after = shadow_after} {table_after = table_after} {r = r} left m n taken two =
    let same : take n (take m left) ++ take (length left - n) (drop n left) ≡ left =
    grind (arith, common_steps, taken.most) in
    subst (λ text. Leads before shadow table text r shadow_after table_after) same
    (leads_append before (take n (take m left)) (take (length left - n) (drop n left)) taken.leads two)

-- ---- what is lent

-- lengths that two parts keep, one after the other, both keep
pub lengths_further : {s t r s1 t1 r1 s2 t2 r2 : List ℕ} → SameLengths s t r s1 t1 r1 → SameLengths s1 t1 r1 s2 t2 r2
    → SameLengths s t r s2 t2 r2
lengths_further before after = record {
  shadow_length = after.shadow_length ∙ before.shadow_length;
  table_length = after.table_length ∙ before.table_length;
  room_length = after.room_length ∙ before.room_length;
}
