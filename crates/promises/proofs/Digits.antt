-- An answer's numbers fit its digits, so what a report says is what was answered. Assumes nothing.
use Prim.Native.Nat.{ℕ, ◌*◌, ◌^◌, ◌≤◌, ◌<◌}
use native.Mathlib.Omega.{arith}
use mathlib.Core.Path.{sym, subst}
use mathlib.Core.List.{List}
use lib.ListN.{length}
use Rattle.rules.specs.Answers.{Answer}
use Rattle.rules.specs.Limits.{live, row_numbers, most_rows, most_granules}
use Rattle.rules.specs.Table.{rows}
use Rattle.rules.specs.Shadow.{first_bad}
use Rattle.rules.specs.Answers.{in_numbers, status}
use Rattle.rules.specs.Grant.{counted, granules, grant_at, grant}
use Rattle.rules.specs.Release.{Pool, quarantine_row, release_row, release}
use Rattle.rules.specs.Feed.{State, act_line}
use Rattle.rules.specs.Watcher.{access, act, watcher}
use Rattle.rules.specs.Calls.{LentState}
use Rattle.rules.proofs.Tests.{by_found}
use Rattle.rules.proofs.Answers.{line_status}
use Rattle.rules.proofs.Shadow.{first_bad_some, first_bad_fits}
use Rattle.rules.proofs.Grant.{place_fits, by_grant}
use Rattle.rules.proofs.Release.{row_at_some, by_release, evicted_most, quarantine_row_lengths}
use Rattle.rules.proofs.Calls.{lent_granules, lent_numbers}
use Rattle.rules.proofs.Refusals.{access_good, access_bad}
use Rattle.promises.proofs.Lines.{by_line}

-- the value that a grant, a release and an access are answered
access_fits : (shadow : List ℕ) (a n : ℕ) → length shadow ≤ most_granules → a < 16 ^ 8
    → (in_numbers (access shadow a n)).value < 16 ^ 8
unfolding in_numbers
access_fits shadow a n most fits =
    by_found (first_bad shadow a n)
    (λ b e.
    subst (λ answer. (in_numbers answer).value < 16 ^ 8) (sym (access_bad shadow a n b e))
    (first_bad_fits shadow a n b (first_bad_some shadow a n b e) fits most))
    (λ e. subst (λ answer. (in_numbers answer).value < 16 ^ 8) (sym (access_good shadow a n e)) (omega arith))

grant_fits : (R : ℕ) (shadow table : List ℕ) (s : ℕ) → length shadow ≤ most_granules
    → (in_numbers (grant R shadow table s).answer).value < 16 ^ 8
unfolding grant_at in_numbers
grant_fits R shadow table s most =
    by_grant R shadow table s (λ acted. (in_numbers acted.answer).value < 16 ^ 8)
    (λ full. omega arith) (λ i row nowhere. omega arith)
    (λ i p row at. place_fits shadow R (granules (counted s)) p at most)

release_fits : (R Q : ℕ) (shadow table : List ℕ) (a : ℕ) → length table ≤ row_numbers * most_rows
    → (in_numbers (release R Q shadow table a).answer).value < 16 ^ 8
unfolding release_row in_numbers rows
release_fits R Q shadow table a most =
    by_release R Q shadow table a (λ acted. (in_numbers acted.answer).value < 16 ^ 8)
    (λ e. omega arith) (λ above no_live no_quarantined. omega arith) (λ above no_live i e. omega arith)
    (λ above i e.
    let pool : Pool = record { shadow = shadow; table = table } in
    omega (
      arith,
      evicted_most R Q (quarantine_row pool i),
      (quarantine_row_lengths pool i
          (row_at_some live table a i e).below).1,
    ))

-- the value that a line is answered fits its 8 digits
pub value_fits : (st : State Pool) → LentState st → (in_numbers (act_line watcher st).answer).value < 16 ^ 8
unfolding act_line act in_numbers
value_fits st lent =
    by_line (λ frame. (in_numbers (act st.session st.pool.shadow st.pool.table frame).answer).value < 16 ^ 8)
    (omega arith) (omega arith) (omega arith)
    (λ s fits. grant_fits st.session.redzone st.pool.shadow st.pool.table s (lent_granules lent))
    (λ a fits. release_fits st.session.redzone st.session.quarantine st.pool.shadow st.pool.table a
    (lent_numbers lent))
    (λ a n fits fits'. access_fits st.pool.shadow a n (lent_granules lent) fits)
    (λ a n fits fits'. access_fits st.pool.shadow a n (lent_granules lent) fits)
    st.session.unfinished st.session.line

-- and every status its 2
pub status_fits : (answer : Answer) → status answer < 16 ^ 2
status_fits answer = omega (arith, line_status answer)
