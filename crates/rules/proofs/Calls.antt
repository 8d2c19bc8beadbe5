-- The laws of the calls: when an opening is refused and what it leaves, what the check behind 24 says, that a session
-- handed back is taken again, that direct calls answer as their frames do, and what a feed leaves of its room. Assumes
-- nothing.
use Prim.Native.Nat.{ℕ, ◌+◌, ◌-◌, ◌*◌, ◌/◌, ◌%◌, ◌≤◌, ◌<◌, zero-le}
use native.Mathlib.Omega.{arith}
use mathlib.Core.Path.{◌≡◌, refl, sym, ap, subst, ◌∙◌}
use mathlib.Core.Logic.{◌≢◌}
use mathlib.Core.Bool.{Bool, true, false, not}
use mathlib.Core.List.{List, []}
use lib.ListN.{length, get_or, set, take, replicate, length-replicate, get_or-replicate}
use lib.Seq.{get_or-set_other}
use lib.Dec.{eqb}
use borrow.Author.Tests.{eqb-true, eq-eqb, ne_eqb, leb-true, le-leb}
use Rattle.std.specs.Prelude.{Ok, Err}
use Rattle.rules.specs.declared.CallRefusal.TheVariants.{BadSession}
use Rattle.rules.specs.declared.OpeningRefusal.TheVariants.{BadShadowLength, BadRedzone, BadTableLength}
use Rattle.rules.specs.declared.Session.{Session}
use Rattle.rules.specs.declared.Frame.TheVariants.{Grant, Release, Read}
use Rattle.rules.specs.Limits.{between, least_granules, most_granules, least_rows, most_rows, row_numbers}
use Rattle.rules.specs.Limits.{least_redzone, most_redzone, frame_digits, too_long, redzone_byte}
use Rattle.rules.specs.Answers.{in_numbers, status, opening_status, call_in_numbers, call_status}
use Rattle.rules.specs.Lowest.{lowest, found, all_equal, AllEqual}
use Rattle.rules.specs.Release.{Pool}
use Rattle.rules.specs.Feed.{Engine, State, Ran, no_bytes, with_line, emptied, lengthened, act_line, finish, hold}
use Rattle.rules.specs.Feed.{step, run, taken}
use Rattle.rules.specs.Watcher.{act, lent_lengths, watcher}
use Rattle.rules.specs.Calls.{closed, fresh, table_length, OpenedWith, not_opened, open_with, unused_zero}
use Rattle.rules.specs.Calls.{within_limits, fits_lent, Within, Lent, LentState, fits_session, KeepsLengths}
use Rattle.rules.specs.Calls.{Called, called, as_line, grant_call, release_call, access_call, unfinished_call}
use Rattle.rules.specs.Calls.{FedWith, fed_with, feed_by}
use Rattle.rules.proofs.Tests.{between_is, between_true, both, by_order, by_test, if_false, if_true, join}
use Rattle.rules.proofs.Lowest.{walk_found, walk_on, walk_end, all_equal_true, all_equal_is}
use Rattle.rules.proofs.Put.{length_put, put_after, put_nothing}
use Rattle.rules.proofs.Feed.{SameNumbers, lengthened_short, lengthened_long, by_byte, step_numbers}
use Rattle.rules.proofs.Feed.{run_has, run_report, taken_fits}
use Rattle.rules.proofs.Watcher.{grant_refused, release_refused, act_lengths}

-- ---- the check behind 24

pub unused_true : (line : List ℕ) (n : ℕ) → unused_zero line n ≡ true → AllEqual line 0 n frame_digits
unfolding unused_zero
unused_true line n e k from below = all_equal_true line 0 n (frame_digits - n) e k from (omega arith)

pub unused_is : (line : List ℕ) (n : ℕ) → AllEqual line 0 n frame_digits → unused_zero line n ≡ true
unfolding unused_zero
unused_is line n zeros = all_equal_is line 0 n (frame_digits - n) (λ k from below. zeros k from (omega arith))

-- place by place
pub unused_end : (line : List ℕ) (n : ℕ) → frame_digits ≤ n → unused_zero line n ≡ true
unfolding unused_zero all_equal
unused_end line n past = ap (λ o. not (found o)) (walk_end (λ k. not (eqb (get_or line k 0) 0)) frame_digits n past)

pub unused_here : (line : List ℕ) (n : ℕ) → n < frame_digits → get_or line n 0 ≢ 0 → unused_zero line n ≡ false
unfolding unused_zero all_equal
unused_here line n below used =
    ap (λ o. not (found o)) (walk_found (λ k. not (eqb (get_or line k 0) 0)) frame_digits n below
    (ap not (ne_eqb (get_or line n 0) 0 used)))

pub unused_next : (line : List ℕ) (n : ℕ) → n < frame_digits → get_or line n 0 ≡ 0 → unused_zero line n
    ≡ unused_zero line (n + 1)
unfolding unused_zero all_equal
unused_next line n below is_zero =
    ap (λ o. not (found o)) (walk_on (λ k. not (eqb (get_or line k 0) 0)) frame_digits n below
    (ap not (eq-eqb (get_or line n 0) 0 is_zero)))

pub within_true : (session : Session) → within_limits session ≡ true → Within session
unfolding within_limits
within_true session e =
    let a = both e in
    let b = both a.0 in
    let c = both b.0 in
    let d = both c.0 in
    record {
      granules = d.0;
      rows = d.1;
      redzone = c.1;
      unfinished = leb-true session.unfinished too_long b.1;
      unused = unused_true session.line session.unfinished a.1;
    }

pub within_is : (session : Session) → Within session → within_limits session ≡ true
unfolding within_limits
within_is session w =
    join (join (join (join w.granules w.rows) w.redzone)
    (le-leb session.unfinished too_long w.unfinished))
    (unused_is session.line session.unfinished w.unused)

pub lent_true : (session : Session) (shadow table : List ℕ) → fits_lent session shadow table ≡ true
    → Lent session shadow table
unfolding fits_session lent_lengths
lent_true session shadow table e =
    let a = both e in
    let b = both a.1 in
    record {
      within = within_true session a.0;
      of_shadow = eqb-true (length shadow) session.granules b.0;
      of_table = eqb-true (length table) (row_numbers * session.rows) b.1;
    }

pub lent_is : (session : Session) (shadow table : List ℕ) → Lent session shadow table → fits_lent session shadow table
    ≡ true
unfolding fits_session lent_lengths
lent_is session shadow table l =
    join (within_is session l.within)
    (join (eq-eqb (length shadow) session.granules l.of_shadow)
    (eq-eqb (length table) (row_numbers * session.rows) l.of_table))

-- so what is lent is within the paper's limits
pub lent_granules : {session : Session} {shadow table : List ℕ} → Lent session shadow table → length shadow
    ≤ most_granules
lent_granules {session} l =
    omega (arith, l.of_shadow, (between_is least_granules most_granules session.granules l.within.granules).1)

pub lent_numbers : {session : Session} {shadow table : List ℕ} → Lent session shadow table → length table
    ≤ row_numbers * most_rows
lent_numbers {session} l =
    omega (arith, l.of_table, (between_is least_rows most_rows session.rows l.within.rows).1)

pub lent_redzone : {session : Session} {shadow table : List ℕ} → Lent session shadow table → session.redzone
    ≤ most_redzone
lent_redzone {session} l = (between_is least_redzone most_redzone session.redzone l.within.redzone).1

-- a closed session fits nothing
pub closed_refused : (shadow table : List ℕ) → fits_lent closed shadow table ≡ false
unfolding fits_session within_limits
closed_refused shadow table = refl

-- ---- a session that is handed back is taken again

no_bytes_zero : AllEqual no_bytes 0 0 frame_digits
no_bytes_zero k from below = get_or-replicate frame_digits k 0 0 below

-- by the numbers that a line keeps
within_line : (session : Session) (n : ℕ) (line : List ℕ) → Within session → n ≤ too_long
    → AllEqual line 0 n frame_digits → Within (with_line session n line)
within_line session n line w most zeros = record {
  granules = w.granules;
  rows = w.rows;
  redzone = w.redzone;
  unfinished = most;
  unused = zeros;
}

emptied_within : (session : Session) → Within session → Within (emptied session)
unfolding emptied
emptied_within session w = within_line session 0 no_bytes w zero-le no_bytes_zero

lengthened_within : (session : Session) (b : ℕ) → Within session → Within (lengthened session b)
lengthened_within session b w =
    by_order session.unfinished frame_digits
    (λ short.
    subst Within (sym (lengthened_short session b short))
    (within_line session (session.unfinished + 1) (set session.line session.unfinished b) w (omega arith)
    (λ k from below.
    get_or-set_other session.line session.unfinished k b 0 (λ e. absurd (omega arith))
    ∙ w.unused k (omega arith) below)))
    (λ long.
    subst Within (sym (lengthened_long session b long))
    (within_line session too_long session.line w (omega arith) (λ k from below. absurd (omega arith))))

-- a session that fits its pool fits what a byte, and what a text leaves, whatever engine acts on the lines
module _ {P : Type 0} (engine : Engine P) (keeps : KeepsLengths engine) where
  step_within : (st : State P) (b : ℕ) → Within st.session → Within (step engine st b).state.session
  unfolding finish hold
  step_within st b w =
      by_byte engine st b (λ r. Within r.state.session)
      (λ e. emptied_within st.session w)
      (λ e. lengthened_within st.session b w)

  step_keeps : (S n : ℕ) (st : State P) (b : ℕ) → engine.lent S n st.pool ≡ true
      → engine.lent S n (step engine st b).state.pool ≡ true
  unfolding finish hold act_line
  step_keeps S n st b lent =
      by_byte engine st b (λ r. engine.lent S n r.state.pool ≡ true)
      (λ e. keeps S n st.session st.pool _ lent)
      (λ e. lent)

  pub step_fits : (st : State P) (b : ℕ) → fits_session engine st.session st.pool ≡ true
      → fits_session engine (step engine st b).state.session (step engine st b).state.pool ≡ true
  unfolding fits_session
  step_fits st b fits =
      let next : State P = (step engine st b).state in
      let same : SameNumbers st.session next.session = step_numbers engine st b in
      let a = both fits in
      join (within_is next.session (step_within st b (within_true st.session a.0)))
      (subst (λ n. engine.lent next.session.granules n next.pool ≡ true) (sym same.rows)
      (subst (λ S. engine.lent S st.session.rows next.pool ≡ true) (sym same.granules)
      (step_keeps st.session.granules st.session.rows st b a.1)))

  pub run_fits : (st : State P) (text : List ℕ) → fits_session engine st.session st.pool ≡ true
      → fits_session engine (run engine st text).state.session (run engine st text).state.pool ≡ true
  run_fits st text fits = run_has engine (λ s. fits_session engine s.session s.pool ≡ true) step_fits st text fits

-- every line of the watcher's keeps the lengths of what it is lent
pub watcher_keeps : KeepsLengths watcher
unfolding lent_lengths
watcher_keeps S n session pool frame lent =
    let same = act_lengths session pool.shadow pool.table frame in
    let a = both lent in
    join (eq-eqb _ S (same.0 ∙ eqb-true (length pool.shadow) S a.0))
    (eq-eqb _ (row_numbers * n) (same.1 ∙ eqb-true (length pool.table) (row_numbers * n) a.1))

pub step_lent : (st : State Pool) (b : ℕ) → LentState st → LentState (step watcher st b).state
step_lent st b l = lent_true _ _ _ (step_fits watcher watcher_keeps st b (lent_is _ _ _ l))

pub run_lent : (st : State Pool) (text : List ℕ) → LentState st → LentState (run watcher st text).state
run_lent st text l = run_has watcher LentState step_lent st text l

-- ---- opening

pub open_bad_shadow : (shadow table : List ℕ) (R Q : ℕ) → between least_granules most_granules (length shadow) ≡ false
    → open_with shadow table R Q ≡ not_opened (Err BadShadowLength) shadow table
unfolding open_with
open_bad_shadow shadow table R Q a = if_false _ _ a

pub open_bad_redzone : (shadow table : List ℕ) (R Q : ℕ) → between least_granules most_granules (length shadow) ≡ true
    → between least_redzone most_redzone R ≡ false
    → open_with shadow table R Q ≡ not_opened (Err BadRedzone) shadow table
unfolding open_with
open_bad_redzone shadow table R Q a b = if_true _ _ a ∙ if_false _ _ b

pub open_bad_table : (shadow table : List ℕ) (R Q : ℕ) → between least_granules most_granules (length shadow) ≡ true
    → between least_redzone most_redzone R ≡ true → table_length (length table) ≡ false
    → open_with shadow table R Q ≡ not_opened (Err BadTableLength) shadow table
unfolding open_with
open_bad_table shadow table R Q a b c = if_true _ _ a ∙ if_true _ _ b ∙ if_false _ _ c

-- what an accepted opening gives
abbrev pub opened_with : List ℕ → List ℕ → ℕ → ℕ → OpenedWith
opened_with shadow table R Q = record {
  given = record { session = fresh (length shadow) (length table / row_numbers) R Q; status = opening_status (Ok tt) };
  shadow = replicate (length shadow) redzone_byte;
  table = replicate (length table) 0;
}

pub open_done : (shadow table : List ℕ) (R Q : ℕ) → between least_granules most_granules (length shadow) ≡ true
    → between least_redzone most_redzone R ≡ true → table_length (length table) ≡ true → open_with shadow table R Q
    ≡ opened_with shadow table R Q
unfolding open_with
open_done shadow table R Q a b c = if_true _ _ a ∙ if_true _ _ b ∙ if_true _ _ c

-- by what an opening finds, each case with the tests that were passed before it
pub by_open {ℓ} : (shadow table : List ℕ) (R Q : ℕ) (P : OpenedWith → Type ℓ)
    → (between least_granules most_granules (length shadow) ≡ false → P (not_opened (Err BadShadowLength) shadow table))
    → (between least_granules most_granules (length shadow) ≡ true → between least_redzone most_redzone R ≡ false
    → P (not_opened (Err BadRedzone) shadow table))
    → (between least_granules most_granules (length shadow) ≡ true → between least_redzone most_redzone R ≡ true
    → table_length (length table) ≡ false → P (not_opened (Err BadTableLength) shadow table))
    → P (opened_with shadow table R Q) → P (open_with shadow table R Q)
by_open shadow table R Q P bad_shadow bad_redzone bad_table done =
    by_test (between least_granules most_granules (length shadow))
    (λ a.
    by_test (between least_redzone most_redzone R)
    (λ b.
    by_test (table_length (length table))
    (λ c. subst P (sym (open_done shadow table R Q a b c)) done)
    (λ c. subst P (sym (open_bad_table shadow table R Q a b c)) (bad_table a b c)))
    (λ b. subst P (sym (open_bad_redzone shadow table R Q a b)) (bad_redzone a b)))
    (λ a. subst P (sym (open_bad_shadow shadow table R Q a)) (bad_shadow a))

-- a refused opening gives the closed session and writes nothing
abbrev pub NotOpened : List ℕ → List ℕ → OpenedWith → Type 0
NotOpened shadow table o =
    o.given.status ≢ 0 → (o.given.session ≡ closed) × (o.shadow ≡ shadow) × (o.table ≡ table)

pub open_refused : (shadow table : List ℕ) (R Q : ℕ) → NotOpened shadow table (open_with shadow table R Q)
unfolding opening_status
open_refused shadow table R Q =
    by_open shadow table R Q (NotOpened shadow table)
    (λ a refused. (refl, refl, refl)) (λ a b refused. (refl, refl, refl)) (λ a b c refused. (refl, refl, refl))
    (λ refused. absurd (refused refl))

-- an opened session fits the buffers that it was opened with
pub open_lent : (shadow table : List ℕ) (R Q : ℕ) → between least_granules most_granules (length shadow) ≡ true
    → between least_redzone most_redzone R ≡ true → table_length (length table) ≡ true
    → Lent (opened_with shadow table R Q).given.session (opened_with shadow table R Q).shadow
    (opened_with shadow table R Q).table
unfolding table_length
open_lent shadow table R Q a b c =
    let t : (between (row_numbers * least_rows) (row_numbers * most_rows) (length table) ≡ true)
    × (eqb (length table % row_numbers) 0 ≡ true) = both c in
    let bounds : (row_numbers * least_rows ≤ length table) × (length table ≤ row_numbers * most_rows) =
    between_is (row_numbers * least_rows) (row_numbers * most_rows) (length table) t.0 in
    let multiple : length table % row_numbers ≡ 0 = eqb-true (length table % row_numbers) 0 t.1 in
    record {
      within = record {
        granules = a;
        rows = between_true least_rows most_rows (length table / row_numbers) (omega (arith, bounds.0))
            (omega (arith, bounds.1));
        redzone = b;
        unfinished = zero-le;
        unused = no_bytes_zero;
      };
      of_shadow = length-replicate (length shadow) redzone_byte;
      of_table = length-replicate (length table) 0 ∙ omega arith;
    }

-- ---- the direct calls

-- they answer as their frames do
pub grant_as_frame : (session : Session) (shadow table : List ℕ) (s : ℕ) → fits_lent session shadow table ≡ true
    → grant_call session shadow table s ≡ as_line (act session shadow table (Ok (Grant s)))
unfolding grant_call act
grant_as_frame session shadow table s e = if_true _ _ e

pub release_as_frame : (session : Session) (shadow table : List ℕ) (a : ℕ) → fits_lent session shadow table ≡ true
    → release_call session shadow table a ≡ as_line (act session shadow table (Ok (Release a)))
unfolding release_call act
release_as_frame session shadow table a e = if_true _ _ e

pub access_as_frame : (session : Session) (shadow table : List ℕ) (a n : ℕ) → fits_lent session shadow table ≡ true
    → called (access_call session shadow table a n) shadow table ≡ as_line (act session shadow table (Ok (Read a n)))
unfolding access_call act
access_as_frame session shadow table a n e = ap (λ answer. called answer shadow table) (if_true _ _ e)

-- 24 first, and it changes nothing
pub grant_24 : (session : Session) (shadow table : List ℕ) (s : ℕ) → fits_lent session shadow table ≡ false
    → grant_call session shadow table s ≡ called (Err BadSession) shadow table
unfolding grant_call
grant_24 session shadow table s e = if_false _ _ e

pub release_24 : (session : Session) (shadow table : List ℕ) (a : ℕ) → fits_lent session shadow table ≡ false
    → release_call session shadow table a ≡ called (Err BadSession) shadow table
unfolding release_call
release_24 session shadow table a e = if_false _ _ e

pub access_24 : (session : Session) (shadow table : List ℕ) (a n : ℕ) → fits_lent session shadow table ≡ false
    → access_call session shadow table a n ≡ Err BadSession
unfolding access_call
access_24 session shadow table a n e = if_false _ _ e

-- a refused one changes neither shadow nor table
abbrev pub CallRefusedKeeps : List ℕ → List ℕ → Called → Type 0
CallRefusedKeeps shadow table c = call_status c.answer ≢ 0 → (c.shadow ≡ shadow) × (c.table ≡ table)

pub grant_call_refused : (session : Session) (shadow table : List ℕ) (s : ℕ)
    → CallRefusedKeeps shadow table (grant_call session shadow table s)
unfolding grant_call call_status call_in_numbers status
grant_call_refused session shadow table s =
    by_test (fits_lent session shadow table)
    (λ fits.
    subst (CallRefusedKeeps shadow table) (sym (if_true _ _ fits)) (grant_refused session.redzone shadow table s))
    (λ not. subst (CallRefusedKeeps shadow table) (sym (if_false _ _ not)) (λ refused. (refl, refl)))

pub release_call_refused : (session : Session) (shadow table : List ℕ) (a : ℕ)
    → CallRefusedKeeps shadow table (release_call session shadow table a)
unfolding release_call call_status call_in_numbers status
release_call_refused session shadow table a =
    by_test (fits_lent session shadow table)
    (λ fits.
    subst (CallRefusedKeeps shadow table) (sym (if_true _ _ fits))
    (release_refused session.redzone session.quarantine shadow table a))
    (λ not. subst (CallRefusedKeeps shadow table) (sym (if_false _ _ not)) (λ refused. (refl, refl)))

pub unfinished_24 : (session : Session) → within_limits session ≡ false → unfinished_call session ≡ Err BadSession
unfolding unfinished_call
unfinished_24 session e = if_false _ _ e

pub unfinished_done : (session : Session) → within_limits session ≡ true
    → unfinished_call session ≡ Ok (Ok session.unfinished)
unfolding unfinished_call
unfinished_done session e = if_true _ _ e

-- ---- feed

-- what a feed that is refused 24 hands back: the session, no byte taken and none written
abbrev pub not_fed : {P : Type 0} → Session → P → List ℕ → FedWith P
not_fed session pool room = record {
  given = record { session = session; status = 24; taken = 0; wrote = 0 };
  pool = pool;
  room = room;
}

module _ {P : Type 0} (engine : Engine P) (session : Session) (pool : P) (piece room : List ℕ) where
  -- the bytes taken of the piece, run
  abbrev pub ran_of : Ran P
  ran_of = run engine (record { session = session; pool = pool }) (take (taken piece (length room)) piece)

  -- `run` over the bytes taken
  pub feed_done : fits_session engine session pool ≡ true → feed_by engine session pool piece room
      ≡ fed_with ran_of (taken piece (length room)) room
  unfolding feed_by
  feed_done e = if_true _ _ e

  -- 24 gives the session back, takes no byte and writes none
  pub feed_24 : fits_session engine session pool ≡ false → feed_by engine session pool piece room
      ≡ not_fed session pool room
  unfolding feed_by call_status call_in_numbers
  feed_24 e = if_false _ _ e

  -- the report fits the room
  report_fits : 0 + length ran_of.report ≤ length room
  report_fits =
      omega (
        arith,
        run_report engine (record { session = session; pool = pool }) (take (taken piece (length room)) piece),
        taken_fits piece (length room),
      )

  -- the room keeps its length
  pub feed_room_length : length (feed_by engine session pool piece room).room ≡ length room
  feed_room_length =
      by_test (fits_session engine session pool)
      (λ e. ap (λ f. length f.room) (feed_done e) ∙ length_put room 0 ran_of.report report_fits)
      (λ e. ap (λ f. length f.room) (feed_24 e))

  -- room beyond the bytes written is unchanged
  pub feed_room_beyond : (k : ℕ) → (feed_by engine session pool piece room).given.wrote ≤ k
      → get_or (feed_by engine session pool piece room).room k 0 ≡ get_or room k 0
  feed_room_beyond k =
      by_test (fits_session engine session pool)
      (λ e.
      subst (λ f. f.given.wrote ≤ k → get_or f.room k 0 ≡ get_or room k 0) (sym (feed_done e))
      (λ beyond. put_after room 0 ran_of.report k 0 zero-le (omega arith)))
      (λ e. subst (λ f. f.given.wrote ≤ k → get_or f.room k 0 ≡ get_or room k 0) (sym (feed_24 e)) (λ beyond. refl))

  -- the session that a feed hands back fits what it was lent, after it
  pub feed_lent : KeepsLengths engine → fits_session engine session pool ≡ true
      → fits_session engine (feed_by engine session pool piece room).given.session
      (feed_by engine session pool piece room).pool ≡ true
  feed_lent keeps e =
      subst (λ f. fits_session engine f.given.session f.pool ≡ true) (sym (feed_done e))
      (run_fits engine keeps (record { session = session; pool = pool }) (take (taken piece (length room)) piece) e)

-- an empty piece takes 0
pub feed_empty : {P : Type 0} (engine : Engine P) (session : Session) (pool : P) (room : List ℕ)
    → fits_session engine session pool ≡ true
    → feed_by engine session pool [] room
    ≡ record { given = record { session = session; status = 0; taken = 0; wrote = 0 }; pool = pool; room = room }
unfolding taken run call_status call_in_numbers in_numbers
feed_empty engine session pool room e =
    feed_done engine session pool [] room e
    ∙ ap (λ r. record { given = record { session = session; status = 0; taken = 0; wrote = 0 }; pool = pool; room = r })
    (put_nothing room 0)

-- ---- both sides of every limit, computed

pub shadow_limits :
    (between least_granules most_granules 7 ≡ false)
    × (between least_granules most_granules 8 ≡ true)
    × (between least_granules most_granules 65_536 ≡ true)
    × (between least_granules most_granules 65_537 ≡ false)
shadow_limits = (refl, refl, refl, refl)

pub redzone_limits :
    (between least_redzone most_redzone 1 ≡ false)
    × (between least_redzone most_redzone 2 ≡ true)
    × (between least_redzone most_redzone 256 ≡ true)
    × (between least_redzone most_redzone 257 ≡ false)
redzone_limits = (refl, refl, refl, refl)

pub table_limits :
    (table_length 0 ≡ false)
    × (table_length 3 ≡ false)
    × (table_length 4 ≡ true)
    × (table_length 5 ≡ false)
    × (table_length 4_096 ≡ true)
    × (table_length 4_097 ≡ false)
    × (table_length 4_100 ≡ false)
unfolding table_length
table_limits = (refl, refl, refl, refl, refl, refl, refl)

-- a session of S granules, the rows, R and an unfinished line of n zeros is within its limits
pub session_within : ℕ → ℕ → ℕ → ℕ → Bool
session_within S rows R n = within_limits (with_line (fresh S rows R 0) n no_bytes)

pub session_limits :
    (session_within 8 1 2 0 ≡ true)
    × (session_within 65_536 1_024 256 19 ≡ true)
    × (session_within 7 1 2 0 ≡ false)
    × (session_within 65_537 1 2 0 ≡ false)
    × (session_within 8 0 2 0 ≡ false)
    × (session_within 8 1_025 2 0 ≡ false)
    × (session_within 8 1 1 0 ≡ false)
    × (session_within 8 1 257 0 ≡ false)
    × (session_within 8 1 2 20 ≡ false)
unfolding session_within within_limits unused_zero all_equal lowest
session_limits = (refl, refl, refl, refl, refl, refl, refl, refl, refl)

-- a place that is not used and not zero breaks 24, and one that is used does not
pub unused_limits :
    (unused_zero (set no_bytes 3 0x30) 3 ≡ false)
    × (unused_zero (set no_bytes 3 0x30) 4 ≡ true)
    × (unused_zero (set no_bytes 17 0x30) 17 ≡ false)
    × (unused_zero (set no_bytes 17 0x30) 18 ≡ true)
    × (unused_zero (set no_bytes 17 0x30) 19 ≡ true)
unfolding unused_zero all_equal lowest
unused_limits = (refl, refl, refl, refl, refl)

pub unused_refused :
    (within_limits (with_line (fresh 8 1 2 0) 3 (set no_bytes 3 0x30)) ≡ false)
    × (within_limits (with_line (fresh 8 1 2 0) 4 (set no_bytes 3 0x30)) ≡ true)
unfolding within_limits unused_zero all_equal lowest
unused_refused = (refl, refl)

-- lent lengths that are just the session's, and one off
abbrev lent_of : ℕ → ℕ → Bool
lent_of shadow table = fits_lent (fresh 8 1 2 0) (replicate shadow 0) (replicate table 0)

pub lent_limits :
    (lent_of 8 4 ≡ true)
    × (lent_of 7 4 ≡ false)
    × (lent_of 9 4 ≡ false)
    × (lent_of 8 3 ≡ false)
    × (lent_of 8 5 ≡ false)
    × (lent_of 8 8 ≡ false)
unfolding fits_session lent_lengths within_limits unused_zero all_equal lowest
lent_limits = (refl, refl, refl, refl, refl, refl)
