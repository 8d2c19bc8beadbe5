-- Beginnings: a beginning has the invariant, and so it holds after every replay and at the moment at which a line is
-- answered; an opening is a beginning; what a text leaves is a beginning again; and what was in the buffers that were
-- lent to an opening does not show. Assumes nothing.
use Prim.Native.Nat.{ℕ, ◌/◌, ◌<◌}
use native.Mathlib.Omega.{arith}
use mathlib.Core.Path.{◌≡◌, refl, sym, ap, subst, ◌∙◌}
use mathlib.Core.Logic.{◌≢◌}
use mathlib.Core.Bool.{true}
use mathlib.Core.List.{List, []}
use lib.ListN.{length, replicate}
use Rattle.rules.specs.Limits.{row_numbers, least_granules, most_granules, least_redzone, most_redzone, between}
use Rattle.rules.specs.Limits.{state_column, empty, live, quarantined, redzone_byte}
use Rattle.rules.specs.Table.{rows, state}
use Rattle.rules.specs.Answers.{opening_status}
use Rattle.rules.specs.Release.{Pool}
use Rattle.rules.specs.Feed.{State, emptied, run}
use Rattle.rules.specs.Watcher.{watcher, state_of}
use Rattle.rules.specs.Calls.{fresh, table_length, OpenedWith, open_with, Lent, LentState}
use Rattle.rules.proofs.Tests.{by_test, between_is}
use Rattle.rules.proofs.Calls.{lent_is, run_lent, open_bad_shadow, open_bad_redzone, open_bad_table}
use Rattle.rules.proofs.Calls.{opened_with, open_done, open_lent}
use Rattle.promises.specs.History.{Exchange, History, nothing_yet, latest}
use Rattle.promises.specs.Agreement.{AgreesWith}
use Rattle.promises.specs.Replay.{Replay, session, ran, Line, history, happened}
use Rattle.promises.specs.Replay.{Opening, opened, Openings, BeginsAgain, SameReport}
use Rattle.promises.proofs.Replay.{Moment, idle_lent, replay_has, moment}
use Rattle.promises.proofs.Kept.{zero_column, laid_opening}
use Rattle.promises.proofs.Standing.{in_use_none, live_none}
use Rattle.promises.proofs.Queue.{Queue, queue_none}
use Rattle.promises.proofs.Invariant.{Stands, Holds, on_byte, on_line}
use Rattle.promises.proofs.Agreement.{stands_agree, agrees_stand}

-- ---- from a beginning

-- of a replay: S, the rows, R and Q
abbrev pub HoldsOf : Replay → State Pool → History → Type 0
HoldsOf r = Holds (session r).granules (session r).rows (session r).redzone (session r).quarantine

-- R is above 0
lent_above : {st : State Pool} → LentState st → 0 < st.session.redzone
lent_above {st} lent =
    omega (arith, (between_is least_redzone most_redzone st.session.redzone lent.within.redzone).0)

holds_beginning : (r : Replay) → HoldsOf r r.begun r.earlier
unfolding rows
holds_beginning r =
    let lent : LentState r.begun = idle_lent r.begins.idle in
    record {
      redzone = refl;
      quarantine = refl;
      of_rows = omega (arith, lent.of_table);
      stands = agrees_stand (lent_above lent) r.begins.agrees;
    }

-- after every replay the invariant holds of its last state and its whole history
pub replay_holds : (r : Replay) → HoldsOf r (ran r).state (happened r)
replay_holds r = replay_has (HoldsOf r) (on_byte _ _ _ _) (on_line _ _ _ _) r (holds_beginning r)

-- and at the moment at which a line is answered, of the state that it meets and the history of the lines before
pub line_moment : (r : Replay) (before : List Exchange) (x : Exchange) → Line r before x
    → Moment (HoldsOf r) (history r before) x
line_moment r = moment (HoldsOf r) (on_byte _ _ _ _) (on_line _ _ _ _) r (holds_beginning r)

-- so shadow and table agree with the history
abbrev pub Agree : Replay → ℕ → ℕ → ℕ → Type 0
Agree r S R Q = AgreesWith S R Q (happened r) (ran r).state.pool.shadow (ran r).state.pool.table

pub replay_agrees : (r : Replay) → Agree r (session r).granules (session r).redzone (session r).quarantine
replay_agrees r = stands_agree (replay_holds r).stands

-- where the last line is finished, the text's end is a beginning
pub begins_again : BeginsAgain
unfolding ran
begins_again r none_unfinished =
    let last : State Pool = (ran r).state in
    let holds : HoldsOf r last (happened r) = replay_holds r in
    let lent : LentState last = run_lent r.begun r.text (idle_lent r.begins.idle) in
    let same_granules : (session r).granules ≡ last.session.granules =
    sym holds.stands.standing.laid.of_shadow ∙ lent.of_shadow in
    record {
      idle = record {
        fits = lent_is last.session last.pool.shadow last.pool.table lent;
        none_unfinished = none_unfinished;
      };
      agrees =
          subst (λ S. Agree r S last.session.redzone last.session.quarantine) same_granules
          (subst (λ R. Agree r (session r).granules R last.session.quarantine) (sym holds.redzone)
          (subst (Agree r (session r).granules (session r).redzone) (sym holds.quarantine) (replay_agrees r)));
    }

-- ---- from an opening

-- what is accepted passed every test
opened_has : (o : Opening) (P : OpenedWith → Type 0)
    → (between least_granules most_granules (length o.shadow) ≡ true
    → between least_redzone most_redzone o.redzone ≡ true
    → table_length (length o.table) ≡ true → P (opened_with o.shadow o.table o.redzone o.quarantine))
    → P (open_with o.shadow o.table o.redzone o.quarantine)
unfolding opening_status
opened_has o P passed =
    by_test (between least_granules most_granules (length o.shadow))
    (λ a.
    by_test (between least_redzone most_redzone o.redzone)
    (λ b.
    by_test (table_length (length o.table))
    (λ c. subst P (sym (open_done o.shadow o.table o.redzone o.quarantine a b c)) (passed a b c))
    (λ c. refused (open_bad_table o.shadow o.table o.redzone o.quarantine a b c) (λ e. omega arith)))
    (λ b. refused (open_bad_redzone o.shadow o.table o.redzone o.quarantine a b) (λ e. omega arith)))
    (λ a. refused (open_bad_shadow o.shadow o.table o.redzone o.quarantine a) (λ e. omega arith))
  where
    refused : {w : OpenedWith} → open_with o.shadow o.table o.redzone o.quarantine ≡ w
        → w.given.status ≢ 0
        → P (open_with o.shadow o.table o.redzone o.quarantine)
    refused e other = absurd (other (ap (λ w. w.given.status) (sym e) ∙ o.accepted))

-- the state after an opening that is accepted, by the lengths of the buffers that it was lent and by nothing that was
-- in them
abbrev pub fresh_state : ℕ → ℕ → ℕ → ℕ → State Pool
fresh_state S n R Q = state_of (fresh S (n / row_numbers) R Q) (replicate S redzone_byte) (replicate n 0)

opened_is : (o : Opening) → opened o ≡ fresh_state (length o.shadow) (length o.table) o.redzone o.quarantine
unfolding opened
opened_is o =
    opened_has o
    (λ w.
    state_of w.given.session w.shadow w.table
    ≡ fresh_state (length o.shadow) (length o.table) o.redzone o.quarantine)
    (λ a b c. refl)

-- its session fits the buffers that it was opened with
opened_lent : (o : Opening) → LentState (opened o)
unfolding opened
opened_lent o =
    opened_has o (λ w. Lent w.given.session w.shadow w.table)
    (open_lent o.shadow o.table o.redzone o.quarantine)

-- no row of it is held
stands_opening : (S R Q n : ℕ) → 0 < R → Stands S R Q (replicate S redzone_byte) (replicate n 0) nothing_yet
unfolding latest
stands_opening S R Q n above =
    let state_zero : (i : ℕ) → state (replicate n 0) i ≡ empty = zero_column n state_column in
    let none_live : (i : ℕ) → i < rows (replicate n 0) → state (replicate n 0) i ≢ live =
    λ i below e. absurd (omega (arith, state_zero i)) in
    let none_quarantined : (i : ℕ) → i < rows (replicate n 0) → state (replicate n 0) i ≢ quarantined =
    λ i below e. absurd (omega (arith, state_zero i)) in
    let queue : Queue R (replicate n 0) [] = queue_none R (replicate n 0) none_quarantined in
    record {
      above = above;
      standing = record {
        laid = laid_opening S R n;
        lives = live_none (replicate n 0) none_live;
        used = omega (arith, in_use_none (replicate n 0) (λ i below. state_zero i), queue.count);
      };
      queue = queue;
    }

-- so it is a beginning
pub openings : Openings
unfolding emptied
openings o =
    let is : opened o ≡ fresh_state (length o.shadow) (length o.table) o.redzone o.quarantine =
    opened_is o in
    let lent : LentState (opened o) = opened_lent o in
    let above : 0 < o.redzone = omega (arith, lent_above lent, ap (λ st. st.session.redzone) is) in
    record {
      idle = record {
        fits = lent_is (opened o).session (opened o).pool.shadow (opened o).pool.table lent;
        none_unfinished = subst (λ st. st.session ≡ emptied st.session) (sym is) refl;
      };
      agrees =
          subst
          (λ st.
          AgreesWith st.session.granules st.session.redzone st.session.quarantine nothing_yet
          st.pool.shadow st.pool.table)
          (sym is)
          (stands_agree (stands_opening (length o.shadow) o.redzone o.quarantine (length o.table) above));
    }

-- the same text from the same opening gives the same report, whatever was in the buffers
pub same_report : SameReport
same_report o p same_shadow same_table same_redzone same_quarantine text =
    ap (λ st. run watcher st text)
    (opened_is o
    ∙ ap (λ S. fresh_state S (length o.table) o.redzone o.quarantine) same_shadow
    ∙ ap (λ n. fresh_state (length p.shadow) n o.redzone o.quarantine) same_table
    ∙ ap (λ R. fresh_state (length p.shadow) (length p.table) R o.quarantine) same_redzone
    ∙ ap (fresh_state (length p.shadow) (length p.table) p.redzone) same_quarantine
    ∙ sym (opened_is p))
