-- When the watcher says no, and only when: each number of the table the other way round. That a number is given where
-- its row says so is among the laws of its section; here, that it is given nowhere else. Assumes nothing.
use Prim.Native.Nat.{ℕ, ◌≤◌, ◌<◌}
use native.Mathlib.Omega.{arith}
use mathlib.Core.Path.{◌≡◌, refl, sym, ap, subst, ◌∙◌}
use mathlib.Core.Logic.{◌≢◌}
use mathlib.Core.Bool.{true, false}
use mathlib.Core.List.{List}
use lib.ListN.{length}
use Rattle.std.specs.Prelude.{Some, None, Ok, Err}
use Rattle.std.proofs.lemmas.Option.{none-some}
use Rattle.rules.specs.declared.Refusal.TheVariants.{BadKind, NotZero, NotGood}
use Rattle.rules.specs.declared.Session.{Session}
use Rattle.rules.specs.declared.Frame.TheVariants.{Grant, Release, Read, Write}
use Rattle.rules.specs.declared.Region.{Region}
use Rattle.rules.specs.Limits.{between, least_granules, most_granules, least_redzone, most_redzone, kind_grant}
use Rattle.rules.specs.Limits.{kind_release, kind_read, kind_write, live, quarantined}
use Rattle.rules.specs.Answers.{in_numbers, status, opening_status, call_in_numbers, call_status, map_status}
use Rattle.rules.specs.Shadow.{kind, first_bad, FirstBad}
use Rattle.rules.specs.Grant.{counted, granules, place, empty_row, grant_at, grant}
use Rattle.rules.specs.Release.{row_at, release_row, release}
use Rattle.rules.specs.Frames.{Asked, fields, frame}
use Rattle.rules.specs.Watcher.{of_verdict, access, watcher, pool_of}
use Rattle.rules.specs.Calls.{table_length, open_with, within_limits, fits_lent, grant_call, release_call}
use Rattle.rules.specs.Calls.{access_call, unfinished_call, feed}
use Rattle.rules.specs.declared.Map.{Map}
use Rattle.rules.specs.Maps.{region, map_answer, map_call, Published}
use Rattle.rules.proofs.Tests.{by_found, by_order, by_test}
use Rattle.rules.proofs.Shadow.{first_bad_some, verdict_none, verdict_some}
use Rattle.rules.proofs.Grant.{by_grant}
use Rattle.rules.proofs.Release.{by_release}
use Rattle.rules.proofs.Frames.{by_zero, by_kind}
use Rattle.rules.proofs.Answers.{answered_not_24}
use Rattle.rules.proofs.Calls.{by_open, grant_as_frame, release_as_frame, access_as_frame, unfinished_done}
use Rattle.rules.proofs.Calls.{feed_done}
use Rattle.rules.proofs.Maps.{in_low_mem, in_low_shadow, in_gap, in_high_shadow, in_high_mem, beyond}
use Rattle.rules.proofs.Maps.{map_call_at}

-- ---- grants: 05 and 06

pub only_05 : (R : ℕ) (shadow table : List ℕ) (s : ℕ) → status (grant R shadow table s).answer ≡ 5 → empty_row table
    ≡ None
unfolding grant_at status in_numbers
only_05 R shadow table s =
    by_grant R shadow table s (λ acted. status acted.answer ≡ 5 → empty_row table ≡ None)
    (λ full e. full) (λ i row nowhere e. absurd (omega arith)) (λ i p row at e. absurd (omega arith))

-- 06 is asked after 05: a row was empty
pub only_06 : (R : ℕ) (shadow table : List ℕ) (s : ℕ) → status (grant R shadow table s).answer ≡ 6
    → (empty_row table ≢ None) × (place shadow R (granules (counted s)) ≡ None)
unfolding grant_at status in_numbers
only_06 R shadow table s =
    by_grant R shadow table s (λ acted. status acted.answer ≡ 6 → (empty_row table ≢ None)
    × (place shadow R (granules (counted s)) ≡ None))
    (λ full e. absurd (omega arith))
    (λ i row nowhere e. (λ full. none-some i (sym full ∙ row), nowhere))
    (λ i p row at e. absurd (omega arith))

-- ---- releases: 07 and 08

pub only_07 : (R Q : ℕ) (shadow table : List ℕ) (a : ℕ) → status (release R Q shadow table a).answer ≡ 7
    → (a ≢ 0) × (row_at live table a ≡ None) × (row_at quarantined table a ≡ None)
unfolding release_row status in_numbers
only_07 R Q shadow table a =
    by_release R Q shadow table a
    (λ acted. status acted.answer ≡ 7 → (a ≢ 0) × (row_at live table a ≡ None) × (row_at quarantined table a ≡ None))
    (λ e f. absurd (omega arith))
    (λ above no_live no_quarantined f. (above, no_live, no_quarantined))
    (λ above no_live i e f. absurd (omega arith))
    (λ above i e f. absurd (omega arith))

pub only_08 : (R Q : ℕ) (shadow table : List ℕ) (a : ℕ) → status (release R Q shadow table a).answer ≡ 8
    → (a ≢ 0) × (row_at live table a ≡ None) × (row_at quarantined table a ≢ None)
unfolding release_row status in_numbers
only_08 R Q shadow table a =
    by_release R Q shadow table a
    (λ acted. status acted.answer ≡ 8 → (a ≢ 0) × (row_at live table a ≡ None) × (row_at quarantined table a ≢ None))
    (λ e f. absurd (omega arith))
    (λ above no_live no_quarantined f. absurd (omega arith))
    (λ above no_live i e f. (above, no_live, λ g. none-some i (sym g ∙ e)))
    (λ above i e f. absurd (omega arith))

-- ---- accesses: 09, with the first bad byte and its kind

pub access_good : (shadow : List ℕ) (a n : ℕ) → first_bad shadow a n ≡ None → access shadow a n ≡ Ok 0
unfolding access of_verdict
access_good shadow a n e = ap of_verdict (verdict_none shadow a n e)

pub access_bad : (shadow : List ℕ) (a n b : ℕ) → first_bad shadow a n ≡ Some b → access shadow a n
    ≡ Err (NotGood (kind shadow b) b)
unfolding access of_verdict
access_bad shadow a n b e = ap of_verdict (verdict_some shadow a n b e)

pub only_09 : (shadow : List ℕ) (a n : ℕ) → status (access shadow a n) ≢ 0
    → (b : ℕ) × FirstBad shadow a n b × (access shadow a n ≡ Err (NotGood (kind shadow b) b))
unfolding status in_numbers
only_09 shadow a n refused =
    by_found (first_bad shadow a n)
    (λ b e. (b, first_bad_some shadow a n b e, access_bad shadow a n b e))
    (λ e. absurd (refused (ap status (access_good shadow a n e))))

-- ---- lines: 01 to 03 (that 01 is given where a line is not 18 hex digits: `line_length`, `line_bad`)

-- a frame's number, 0 where it is not refused
unfoldable pub refusal : Asked → ℕ
refusal (Ok frame) = 0
refusal (Err why) = status (Err why)

-- what a frame is, by its kind and B
by_frame : (kind A B : ℕ) (P : Asked → Type 0)
    → ((k : Asked) → refusal k ≡ 0 → P k)
    → (kind ≢ kind_grant → kind ≢ kind_release → kind ≢ kind_read → kind ≢ kind_write → P (Err BadKind))
    → (B ≢ 0 → kind_grant ≤ kind → kind ≤ kind_release → P (Err NotZero)) → P (frame (fields kind A B))
unfolding refusal
by_frame kind A B P asked other not_zero =
    by_kind kind A B P
    (λ e. by_zero B (Grant A) P (asked (Ok (Grant A)) refl) (λ above. not_zero above (omega arith) (omega arith)))
    (λ e. by_zero B (Release A) P (asked (Ok (Release A)) refl) (λ above. not_zero above (omega arith) (omega arith)))
    (λ e. asked (Ok (Read A B)) refl)
    (λ e. asked (Ok (Write A B)) refl)
    other

-- 18 hex digits are never refused 01
pub only_01 : (kind A B : ℕ) → refusal (frame (fields kind A B)) ≢ 1
unfolding refusal status in_numbers
only_01 kind A B =
    by_frame kind A B (λ k. refusal k ≢ 1) (λ k fine e. absurd (omega arith)) (λ a b c d e. absurd (omega arith))
    (λ above from small e. absurd (omega arith))

pub only_02 : (kind A B : ℕ) → refusal (frame (fields kind A B)) ≡ 2 → kind_grant ≤ kind → kind ≤ kind_write → ⊥
unfolding refusal status in_numbers
only_02 kind A B =
    by_frame kind A B (λ k. refusal k ≡ 2 → kind_grant ≤ kind → kind ≤ kind_write → ⊥)
    (λ k fine e from upto. omega arith)
    (λ a b c d e from upto. omega arith)
    (λ above least small e from upto. omega arith)

pub only_03 : (kind A B : ℕ) → refusal (frame (fields kind A B)) ≡ 3 → (B ≢ 0) × (kind_grant ≤ kind)
    × (kind ≤ kind_release)
unfolding refusal status in_numbers
only_03 kind A B =
    by_frame kind A B (λ k. refusal k ≡ 3 → (B ≢ 0) × (kind_grant ≤ kind) × (kind ≤ kind_release))
    (λ k fine e. absurd (omega arith)) (λ a b c d e. absurd (omega arith)) (λ above from small e. (above, from, small))

-- ---- openings: 21 to 23

pub only_21 : (shadow table : List ℕ) (R Q : ℕ) → (open_with shadow table R Q).given.status ≡ 21
    → between least_granules most_granules (length shadow) ≡ false
unfolding opening_status
only_21 shadow table R Q =
    by_open shadow table R Q (λ o. o.given.status ≡ 21 → between least_granules most_granules (length shadow) ≡ false)
    (λ a e. a) (λ a b e. absurd (omega arith)) (λ a b c e. absurd (omega arith)) (λ e. absurd (omega arith))

-- each asked after the ones before it
pub only_22 : (shadow table : List ℕ) (R Q : ℕ) → (open_with shadow table R Q).given.status ≡ 22
    → (between least_granules most_granules (length shadow) ≡ true) × (between least_redzone most_redzone R ≡ false)
unfolding opening_status
only_22 shadow table R Q =
    by_open shadow table R Q (λ o. o.given.status ≡ 22 → (between least_granules most_granules (length shadow) ≡ true)
    × (between least_redzone most_redzone R ≡ false))
    (λ a e. absurd (omega arith)) (λ a b e. (a, b)) (λ a b c e. absurd (omega arith)) (λ e. absurd (omega arith))

pub only_23 : (shadow table : List ℕ) (R Q : ℕ) → (open_with shadow table R Q).given.status ≡ 23
    → (between least_granules most_granules (length shadow) ≡ true) × (between least_redzone most_redzone R ≡ true)
    × (table_length (length table) ≡ false)
unfolding opening_status
only_23 shadow table R Q =
    by_open shadow table R Q (λ o. o.given.status ≡ 23 → (between least_granules most_granules (length shadow) ≡ true)
    × (between least_redzone most_redzone R ≡ true) × (table_length (length table) ≡ false))
    (λ a e. absurd (omega arith)) (λ a b e. absurd (omega arith)) (λ a b c e. (a, b, c)) (λ e. absurd (omega arith))

-- ---- later calls: 24

pub only_24_grant : (session : Session) (shadow table : List ℕ) (s : ℕ)
    → call_status (grant_call session shadow table s).answer ≡ 24 → fits_lent session shadow table ≡ false
only_24_grant session shadow table s e =
    by_test (fits_lent session shadow table)
    (λ fits. absurd (answered_not_24 (ap (λ c. c.answer) (grant_as_frame session shadow table s fits)) e))
    (λ unfit. unfit)

pub only_24_release : (session : Session) (shadow table : List ℕ) (a : ℕ)
    → call_status (release_call session shadow table a).answer ≡ 24 → fits_lent session shadow table ≡ false
only_24_release session shadow table a e =
    by_test (fits_lent session shadow table)
    (λ fits. absurd (answered_not_24 (ap (λ c. c.answer) (release_as_frame session shadow table a fits)) e))
    (λ unfit. unfit)

pub only_24_access : (session : Session) (shadow table : List ℕ) (a n : ℕ)
    → call_status (access_call session shadow table a n) ≡ 24 → fits_lent session shadow table ≡ false
only_24_access session shadow table a n e =
    by_test (fits_lent session shadow table)
    (λ fits. absurd (answered_not_24 (ap (λ c. c.answer) (access_as_frame session shadow table a n fits)) e))
    (λ unfit. unfit)

pub only_24_unfinished : (session : Session) → call_status (unfinished_call session) ≡ 24
    → within_limits session ≡ false
only_24_unfinished session e =
    by_test (within_limits session) (λ fits. absurd (answered_not_24 (unfinished_done session fits) e)) (λ unfit. unfit)

pub only_24_feed : (session : Session) (shadow table piece room : List ℕ)
    → (feed session shadow table piece room).given.status ≡ 24 → fits_lent session shadow table ≡ false
unfolding call_status call_in_numbers in_numbers
only_24_feed session shadow table piece room e =
    by_test (fits_lent session shadow table)
    (λ fits. absurd (omega (
      arith,
      ap (λ f. f.given.status)
          (feed_done watcher session (pool_of shadow table) piece room fits),
    )))
    (λ unfit. unfit)

-- ---- maps: 31 and 32

module _ (map : Map) (p : Published map) (a : ℕ) where
  -- what a map answers, by the region
  answer_map : (P : ℕ → Type 0) → (map.high_mem < a → P 31) → (map.low_shadow < a → a ≤ map.shadow_gap → P 32)
      → P 0 → P (map_call map a).status
  unfolding map_status map_answer
  answer_map P past gap done =
      by_order map.low_mem a
      (λ above_low.
      by_order map.low_shadow a
      (λ above_shadow.
      by_order map.shadow_gap a
      (λ above_gap.
      by_order map.high_shadow a
      (λ above_high.
      by_order map.high_mem a
      (λ above_all. at (beyond map p a above_all) (past above_all))
      (λ in_high. at (in_high_mem map p a above_high in_high) done))
      (λ in_shadow. at (in_high_shadow map p a above_gap in_shadow) done))
      (λ in_the_gap. at (in_gap map p a above_shadow in_the_gap) (gap above_shadow in_the_gap)))
      (λ in_low. at (in_low_shadow map p a above_low in_low) done))
      (λ in_low. at (in_low_mem map p a in_low) done)
    where
      at : {r : Region} → region map a ≡ r → P (map_status (map_answer r)) → P (map_call map a).status
      at {r} e x = subst (λ m. P m.status) (sym (map_call_at map a r e)) x

  pub only_31 : (map_call map a).status ≡ 31 → map.high_mem < a
  only_31 =
      answer_map (λ n. n ≡ 31 → map.high_mem < a) (λ past e. past) (λ first last e. absurd (omega arith))
      (λ e. absurd (omega arith))

  pub only_32 : (map_call map a).status ≡ 32 → (map.low_shadow < a) × (a ≤ map.shadow_gap)
  only_32 =
      answer_map (λ n. n ≡ 32 → (map.low_shadow < a) × (a ≤ map.shadow_gap))
      (λ past e. absurd (omega arith)) (λ first last e. (first, last)) (λ e. absurd (omega arith))
