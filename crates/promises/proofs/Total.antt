-- Demand 1: every call answers a number that is its own, and a refusal changes nothing; read off the laws of `rules`.
-- Assumes nothing.
use Prim.Native.Nat.{ℕ}
use mathlib.Core.Path.{◌≡◌, refl, sym, ap, ap₂, subst, ◌∙◌}
use mathlib.Core.Bool.{Bool, true, false, false≢true, ◌||◌}
use mathlib.Core.List.Memᴰ
use mathlib.Core.List.{List, [], ◌∷◌}
use lib.Dec.{eqb}
use borrow.Author.Tests.{eqb-true}
use Rattle.rules.specs.Answers.{CallAnswer}
use Rattle.rules.specs.declared.Region.{Region}
use Rattle.rules.specs.declared.Region.TheVariants.{Nowhere, LowMem, LowShadow, ShadowGap, HighShadow, HighMem}
use Rattle.rules.specs.Shadow.{first_bad}
use Rattle.rules.specs.Answers.{status, in_numbers, opening_status, call_status, call_in_numbers, map_status}
use Rattle.rules.specs.Grant.{grant_at, grant}
use Rattle.rules.specs.Release.{release_row, release, Pool}
use Rattle.rules.specs.Feed.{State, emptied, act_line, finish}
use Rattle.rules.specs.Watcher.{access, act, watcher, state_of, pool_of}
use Rattle.rules.specs.Calls.{FedWith, Called, fits_lent, within_limits, grant_call, release_call}
use Rattle.rules.specs.Calls.{access_call, unfinished_call, feed_by}
use Rattle.rules.specs.Maps.{region, map_answer, map_call}
use Rattle.rules.proofs.Tests.{by_test, by_found}
use Rattle.rules.proofs.Grant.{by_grant}
use Rattle.rules.proofs.Release.{by_release}
use Rattle.rules.proofs.Watcher.{finish_refused}
use Rattle.rules.proofs.Calls.{by_open, open_refused, grant_call_refused, release_call_refused, feed_done, feed_24}
use Rattle.rules.proofs.Refusals.{access_good, access_bad}
use Rattle.promises.specs.Rows.{◌∈◌}
use Rattle.promises.specs.Total.{Total, RefusalsKeep}
use Rattle.promises.proofs.Lines.{by_line}

-- ---- total

-- what a rule answers, as a number
module _ (P : ℕ → Type 0) (done : P 0) where
  grant_number : P 5 → P 6 → (R : ℕ) (shadow table : List ℕ) (s : ℕ) → P (status (grant R shadow table s).answer)
  unfolding grant_at status in_numbers
  grant_number no_row no_place R shadow table s =
      by_grant R shadow table s (λ acted. P (status acted.answer)) (λ full. no_row) (λ i row nowhere. no_place)
      (λ i p row at. done)

  release_number : P 7 → P 8 → (R Q : ℕ) (shadow table : List ℕ) (a : ℕ)
      → P (status (release R Q shadow table a).answer)
  unfolding release_row status in_numbers
  release_number foreign twice R Q shadow table a =
      by_release R Q shadow table a (λ acted. P (status acted.answer))
      (λ e. done) (λ above no_live no_quarantined. foreign) (λ above no_live i e. twice) (λ above i e. done)

  pub access_number : P 9 → (shadow : List ℕ) (a n : ℕ) → P (status (access shadow a n))
  unfolding status in_numbers
  access_number bad shadow a n =
      by_found (first_bad shadow a n)
      (λ b e. subst (λ answer. P (status answer)) (sym (access_bad shadow a n b e)) bad)
      (λ e. subst (λ answer. P (status answer)) (sym (access_good shadow a n e)) done)

-- a choice has what both of its ways have
either {ℓ κ} : {A : Type ℓ} (P : A → Type κ) (t : Bool) {a b : A} → P a → P b
    → P (elim t as (λ _. A) [ true ↦ a | false ↦ b ])
either P true p q = p
either P false p q = q

-- a line's answer, as a number
line_number : (P : ℕ → Type 0) → P 0 → P 1 → P 2 → P 3 → P 5 → P 6 → P 7 → P 8 → P 9 → (st : State Pool)
    → P (status (act_line watcher st).answer)
unfolding act_line act status in_numbers
line_number P done no_line no_kind not_zero no_row no_place foreign twice bad st =
    by_line (λ k. P (status (act st.session st.pool.shadow
    st.pool.table k).answer)) no_line no_kind not_zero
    (λ s fits. grant_number P done no_row no_place st.session.redzone st.pool.shadow st.pool.table s)
    (λ a fits. release_number P done foreign twice st.session.redzone st.session.quarantine st.pool.shadow
    st.pool.table a)
    (λ a n fits fits'. access_number P done bad st.pool.shadow a n)
    (λ a n fits fits'. access_number P done bad st.pool.shadow a n)
    st.session.unfinished st.session.line

-- a map's answer, as a number, of any map
map_number : (P : ℕ → Type 0) → P 0 → P 31 → P 32 → (r : Region) → P (map_status (map_answer r))
unfolding map_answer map_status
map_number P done past gap Nowhere = past
map_number P done past gap LowMem = done
map_number P done past gap LowShadow = done
map_number P done past gap ShadowGap = gap
map_number P done past gap HighShadow = done
map_number P done past gap HighMem = done

-- whether a number is one of those in a list, as a test: of numbers that are known it computes
abbrev among : ℕ → List ℕ → Bool
among n [] = false
among n (m ∷ list) = eqb n m || among n list

among_in : (n : ℕ) (list : List ℕ) → among n list ≡ true → n ∈ list
among_in n [] e = absurd (false≢true e)
among_in n (m ∷ list) e =
    by_test (eqb n m)
    (λ here. Memᴰ.head (eqb-true n m here))
    (λ not. Memᴰ.tail (among_in n list (sym (ap (λ (t : Bool). t || among n list) not) ∙ e)))

one_of : {n : ℕ} {list : List ℕ} → among n list ≡ true → n ∈ list
one_of {n} {list} e = among_in n list e

-- every call answers a number that is its own
pub total : Total
unfolding grant_call release_call access_call unfinished_call feed_by map_call
    status in_numbers opening_status call_status call_in_numbers
total = record {
  opening = λ shadow table R Q.
      by_open shadow table R Q (λ o. o.given.status ∈ (0 ∷ 21 ∷ 22 ∷ 23 ∷ []))
      (λ a. one_of refl) (λ a b. one_of refl) (λ a b c. one_of refl) (one_of refl);
  grant = λ session shadow table s.
      either (λ (c : Called). call_status c.answer ∈ (0 ∷ 5 ∷ 6 ∷ 24 ∷ [])) (fits_lent session shadow table)
      (grant_number (λ n. n ∈ (0 ∷ 5 ∷ 6 ∷ 24 ∷ [])) (one_of refl) (one_of refl) (one_of refl)
      session.redzone shadow table s)
      (one_of refl);
  release = λ session shadow table a.
      either (λ (c : Called). call_status c.answer ∈ (0 ∷ 7 ∷ 8 ∷ 24 ∷ [])) (fits_lent session shadow table)
      (release_number (λ n. n ∈ (0 ∷ 7 ∷ 8 ∷ 24 ∷ [])) (one_of refl) (one_of refl) (one_of refl)
      session.redzone session.quarantine shadow table a)
      (one_of refl);
  access = λ session shadow table a n.
      either (λ (answer : CallAnswer). call_status answer ∈ (0 ∷ 9 ∷ 24 ∷ [])) (fits_lent session shadow table)
      (access_number (λ m. m ∈ (0 ∷ 9 ∷ 24 ∷ [])) (one_of refl) (one_of refl) shadow a n)
      (one_of refl);
  unfinished = λ session.
      either (λ (answer : CallAnswer). call_status answer ∈ (0 ∷ 24 ∷ [])) (within_limits session)
      (one_of refl) (one_of refl);
  feed = λ session shadow table piece room.
      either (λ (fed : FedWith Pool). fed.given.status ∈ (0 ∷ 24 ∷ [])) (fits_lent session shadow table) (one_of refl)
      (one_of refl);
  line = line_number (λ n. n ∈ (0 ∷ 1 ∷ 2 ∷ 3 ∷ 5 ∷ 6 ∷ 7 ∷ 8 ∷ 9 ∷ []))
      (one_of refl) (one_of refl) (one_of refl) (one_of refl) (one_of refl) (one_of refl) (one_of refl) (one_of refl)
      (one_of refl);
  map = λ map a. map_number (λ n. n ∈ (0 ∷ 31 ∷ 32 ∷ [])) (one_of refl) (one_of refl) (one_of refl) (region map a);
}

-- ---- a refusal changes nothing

-- refused, none changes anything
pub refusals_keep : RefusalsKeep
unfolding call_status call_in_numbers in_numbers finish
refusals_keep = record {
  opening = open_refused;
  grant = grant_call_refused;
  release = release_call_refused;
  feed = λ session shadow table piece room refused.
      by_test (fits_lent session shadow table)
      (λ fits. absurd (refused (ap (λ fed. fed.given.status)
      (feed_done watcher session (pool_of shadow table) piece room fits))))
      (λ not. feed_24 watcher session (pool_of shadow table) piece room not);
  line = λ st refused.
      let same : ((finish watcher st).state.pool.shadow ≡ st.pool.shadow)
      × ((finish watcher st).state.pool.table ≡ st.pool.table) = finish_refused st refused in
      ap₂ (λ shadow table. state_of (emptied st.session) shadow table) same.0 same.1;
}
