-- The laws of the watcher's engine: a refused line changes neither shadow nor table, and every line keeps their
-- lengths. Assumes nothing.
use Prim.Native.Nat.{ℕ}
use mathlib.Core.Path.{◌≡◌, refl, ◌∙◌}
use mathlib.Core.Logic.{◌≢◌}
use mathlib.Core.List.{List}
use lib.ListN.{length}
use Rattle.std.specs.Prelude.{Ok, Err}
use Rattle.rules.specs.declared.Session.{Session}
use Rattle.rules.specs.declared.Frame.TheVariants.{Grant, Release, Read, Write}
use Rattle.rules.specs.Answers.{in_numbers, status}
use Rattle.rules.specs.Grant.{Acted, grant_at, grant}
use Rattle.rules.specs.Release.{Pool, release_row, release}
use Rattle.rules.specs.Frames.{Asked}
use Rattle.rules.specs.Feed.{State, act_line, finish, hold, step, run}
use Rattle.rules.specs.Watcher.{act, watcher}
use Rattle.rules.proofs.Grant.{SameLengths, by_grant, grant_lengths}
use Rattle.rules.proofs.Release.{by_release, release_lengths}
use Rattle.rules.proofs.Feed.{by_byte, run_has}

-- ---- one line

-- an answer that is not done leaves shadow and table alone
abbrev pub RefusedKeeps : List ℕ → List ℕ → Acted → Type 0
RefusedKeeps shadow table acted = status acted.answer ≢ 0 → (acted.shadow ≡ shadow) × (acted.table ≡ table)

pub grant_refused : (R : ℕ) (shadow table : List ℕ) (s : ℕ) → RefusedKeeps shadow table (grant R shadow table s)
unfolding grant_at status in_numbers
grant_refused R shadow table s =
    by_grant R shadow table s (RefusedKeeps shadow table)
    (λ full refused. (refl, refl)) (λ i row nowhere refused. (refl, refl)) (λ i p row at refused. absurd (refused refl))

pub release_refused : (R Q : ℕ) (shadow table : List ℕ) (a : ℕ) → RefusedKeeps shadow table (release R Q shadow table a)
unfolding release_row status in_numbers
release_refused R Q shadow table a =
    by_release R Q shadow table a (RefusedKeeps shadow table)
    (λ e refused. (refl, refl))
    (λ above no_live no_quarantined refused. (refl, refl))
    (λ above no_live i e refused. (refl, refl))
    (λ above i e refused. absurd (refused refl))

-- whatever a line asks: refused, it changes neither
pub act_refused : (session : Session) (shadow table : List ℕ) (asked : Asked)
    → RefusedKeeps shadow table (act session shadow table asked)
unfolding act
act_refused session shadow table (Ok (Grant s)) = grant_refused session.redzone shadow table s
act_refused session shadow table (Ok (Release a)) = release_refused session.redzone session.quarantine shadow table a
act_refused session shadow table (Ok (Read a n)) = λ refused. (refl, refl)
act_refused session shadow table (Ok (Write a n)) = λ refused. (refl, refl)
act_refused session shadow table (Err refusal) = λ refused. (refl, refl)

-- reads and writes are judged alike, and change neither
pub read_as_write : (session : Session) (shadow table : List ℕ) (a n : ℕ)
    → act session shadow table (Ok (Read a n)) ≡ act session shadow table (Ok (Write a n))
unfolding act
read_as_write session shadow table a n = refl

pub act_lengths : (session : Session) (shadow table : List ℕ) (asked : Asked)
    → SameLengths shadow table (act session shadow table asked)
unfolding act
act_lengths session shadow table (Ok (Grant s)) = grant_lengths session.redzone shadow table s
act_lengths session shadow table (Ok (Release a)) = release_lengths session.redzone session.quarantine shadow table a
act_lengths session shadow table (Ok (Read a n)) = (refl, refl)
act_lengths session shadow table (Ok (Write a n)) = (refl, refl)
act_lengths session shadow table (Err refusal) = (refl, refl)

-- a refused line changes neither shadow nor table
pub finish_refused : (st : State Pool) → status (act_line watcher st).answer ≢ 0
    → ((finish watcher st).state.pool.shadow ≡ st.pool.shadow)
    × ((finish watcher st).state.pool.table ≡ st.pool.table)
unfolding finish act_line
finish_refused st refused = act_refused st.session st.pool.shadow st.pool.table _ refused

-- ---- lengths are kept

abbrev pub SameSizes : State Pool → State Pool → Type 0
SameSizes st other =
    (length other.pool.shadow ≡ length st.pool.shadow)
    × (length other.pool.table ≡ length st.pool.table)

pub step_lengths : (st : State Pool) (b : ℕ) → SameSizes st (step watcher st b).state
unfolding finish hold act_line
step_lengths st b =
    by_byte watcher st b (λ r. SameSizes st r.state)
    (λ e. act_lengths st.session st.pool.shadow st.pool.table _)
    (λ e. (refl, refl))

pub run_lengths : (st : State Pool) (text : List ℕ) → SameSizes st (run watcher st text).state
run_lengths st text =
    run_has watcher (SameSizes st)
    (λ other b same. ((step_lengths other b).0 ∙ same.0, (step_lengths other b).1 ∙ same.1))
    st text (refl, refl)
