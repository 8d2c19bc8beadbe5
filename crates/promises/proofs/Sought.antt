-- What a line seeks, and when it is there: when it is refused and when it is done, and where its block goes, read off
-- the invariant. Assumes nothing.
use Prim.Native.Nat.{ℕ, ◌+◌, ◌*◌, ◌≤◌, ◌<◌, ◌-◌}
use native.Mathlib.Omega.{arith}
use native.Mathlib.Decide.{ℕ_discrete}
use mathlib.Core.Path.{◌≡◌, refl, sym, ap, subst, ◌∙◌, ap₂}
use mathlib.Core.Logic.{◌≢◌, ◌⊎◌, inl, inr, ⊎_elim}
use mathlib.Core.List.Memᴰ
use mathlib.Core.List.{List, ◌++◌, ◌∷◌}
use lib.ListN.{length}
use borrow.Author.Tests.{eqb-true}
use Rattle.std.specs.Prelude.{Option, Some, None, Ok, Err}
use Rattle.std.proofs.lemmas.Option.{none-some}
use Rattle.rules.specs.Frames.{Asked}
use Rattle.rules.specs.declared.Refusal.{Refusal}
use Rattle.rules.specs.declared.Refusal.TheVariants.{BadLine, BadKind, NotZero}
use Rattle.rules.specs.Answers.{Answer}
use Rattle.rules.specs.declared.Frame.TheVariants.{Grant, Release, Read, Write}
use Rattle.rules.specs.Limits.{granule, empty, live, quarantined}
use Rattle.rules.specs.Table.{rows, start, state, is_empty}
use Rattle.rules.specs.Answers.{in_numbers, status}
use Rattle.rules.specs.Grant.{Acted, counted, granules, empty_row, grant_at, grant, unchanged, Fits, Place}
use Rattle.rules.specs.Release.{row_at, release_row, release, Pool, quarantine_row}
use Rattle.rules.specs.Feed.{act_line}
use Rattle.rules.specs.Watcher.{access, act, watcher, outcome}
use Rattle.rules.proofs.Tests.{by_order}
use Rattle.rules.proofs.Lowest.{Lowest, below_all}
use Rattle.rules.proofs.Grant.{counted_least, granules_above, place_some, place_none, empty_row_some}
use Rattle.rules.proofs.Grant.{empty_row_none, by_grant}
use Rattle.rules.proofs.Release.{StartsAt, row_at_some, row_at_none, by_release, settle_count, release_nothing}
use Rattle.promises.specs.History.{Exchange, asks, status_of, value_of, Block, block, at, latest}
use Rattle.promises.specs.History.{held}
use Rattle.promises.specs.History.{nothing_sought, sought_by, seeks, Granted, grants_at, releases_at, did}
use Rattle.promises.specs.History.{History, happens, happen, heard}
use Rattle.promises.specs.Replay.{history}
use Rattle.promises.specs.Rows.{◌∈◌, past, Apart, Free, Starts, HeldRow, block_of, RowOf, in_use}
use Rattle.promises.specs.Sought.{Theirs, ReleasedBy, Releases, RoomAt, LowestOf, PlacedBy, Placement, DoneBy}
use Rattle.promises.specs.Sought.{AllSought, ReleasesNothing}
use Rattle.promises.proofs.History.{release_seeks, release_seeks_nothing, did_grant, did_release, events_done}
use Rattle.promises.proofs.History.{DidGrant, granted_by}
use Rattle.promises.proofs.Lines.{by_line}
use Rattle.promises.proofs.Replay.{Moment, acted_on, one_status}
use Rattle.promises.proofs.Total.{access_number}
use Rattle.promises.proofs.Laid.{ends}
use Rattle.promises.proofs.Kept.{fits_clear, clear_fits}
use Rattle.promises.proofs.Standing.{in_use_all, in_use_fewer}
use Rattle.promises.proofs.Queue.{queue_row, queue_block, Queue, queue_quarantine}
use Rattle.promises.proofs.Invariant.{released_queue, Stands, Holds, held_row, row_held, held_count}
use Rattle.promises.proofs.Beginning.{HoldsOf, line_moment}

-- ---- places

module _ {S R Q : ℕ} {shadow table : List ℕ} {h : History} (stands : Stands S R Q shadow table h) where
  -- a place fits exactly where it is free of all held blocks
  module _ (s p : ℕ) (sized : 0 < s) where
    fits_free : Fits shadow R (granules s) p → Free S R (held R Q h) (block (granule * p) s)
    unfolding past
    fits_free fits = record {
      inside = record {
        low = omega (arith, fits.low);
        high = omega (arith, fits.high, stands.standing.laid.of_shadow);
      };
      apart = λ y m.
          let row : (i : ℕ) × HeldRow table i × (block_of table i ≡ y) = held_row stands y m in
          subst (Apart R (block (granule * p) s)) row.2
          (⊎_elim {C = Apart R (block (granule * p) s) (block_of table row.0)}
          (λ left. inr (omega arith)) (λ right. inl (omega arith))
          (fits_clear stands.standing.laid (granules s) p (granules_above s sized) fits row.0 row.1));
    }

    free_fits : Free S R (held R Q h) (block (granule * p) s) → Fits shadow R (granules s) p
    unfolding past
    free_fits free =
        clear_fits stands.standing.laid (granules s) p (omega (arith, free.inside.low))
        (omega (arith, free.inside.high))
        (λ j own.
        ⊎_elim {C = (ends table j + R ≤ p) ⊎ (p + granules s + R ≤ start table j)}
        (λ left. inr (omega arith)) (λ right. inl (omega arith))
        (free.apart (block_of table j) (row_held stands j own)))

-- ---- what a line meets

-- a line that is done with room sought: the place, and what its answer says of it
pub record PlacedAt (S R n : ℕ) (blocks : List Block) (s : ℕ) (x : Exchange) : Type 0 where
  pub place : ℕ
  pub value_is : value_of x ≡ Some (granule * place)
  pub row : length blocks < n
  pub room : RoomAt S R blocks s place
  pub lowest : (q : ℕ) → RoomAt S R blocks s q → place ≤ q

-- how many left, of those in quarantine and the one released
abbrev pub Left : ℕ → ℕ → History → Exchange → ℕ
Left R Q h x = length (latest R Q h.released) + 1 - length (latest R Q (heard h x).released)

-- what a line that seeks something found, and what it said; and that no other line is answered 05 to 08
pub data Finding (S n R Q : ℕ) (h : History) (x : Exchange) : Type 0 where
  foreign : (a : ℕ) → (seeks x).block ≡ Some a → status_of x ≡ Some 7 → (Starts (held R Q h) a → ⊥)
      → Finding S n R Q h x
  twice : (a : ℕ) → (seeks x).block ≡ Some a → status_of x ≡ Some 8
      → Starts (latest R Q h.released) a → (Starts h.live a → ⊥) → Finding S n R Q h x
  full : (s : ℕ) → (seeks x).room ≡ Some s → status_of x ≡ Some 5 → Theirs h.live (seeks x)
      → length (held R Q h) ≡ n → Finding S n R Q h x
  nowhere : (s : ℕ) → (seeks x).room ≡ Some s → status_of x ≡ Some 6 → Theirs h.live (seeks x)
      → length (held R Q h) < n → ((p : ℕ) → RoomAt S R (held R Q h) s p → ⊥) → Finding S n R Q h x
  all_there : status_of x ≡ Some 0 → Theirs h.live (seeks x)
      → ((s : ℕ) → (seeks x).room ≡ Some s → PlacedAt S R n (held R Q h) s x)
      → ((a : ℕ) → seeks x ≡ record { room = None; block = Some a } → value_of x ≡ Some (Left R Q h x))
      → Finding S n R Q h x
  none_sought : (number : ℕ) → status_of x ≡ Some number → (number < 5) ⊎ (8 < number) → seeks x ≡ nothing_sought
      → Finding S n R Q h x

-- a block of one of two lists is a block of both together
starts_left : (xs ys : List Block) (a : ℕ) → Starts xs a → Starts (xs ++ ys) a
starts_left xs ys a s = (s.0, Memᴰ.append_left ys s.1, s.2)

starts_right : (xs ys : List Block) (a : ℕ) → Starts ys a → Starts (xs ++ ys) a
starts_right xs ys a s = (s.0, Memᴰ.append_right xs s.1, s.2)

starts_of : (xs ys : List Block) (a : ℕ) → Starts (xs ++ ys) a → Starts xs a ⊎ Starts ys a
starts_of xs ys a s = ⊎_elim (λ m. inl (s.0, m, s.2)) (λ m. inr (s.0, m, s.2)) (Memᴰ.append_cases xs s.1)

-- none is not some
not_both : {o : Option ℕ} {s : ℕ} → o ≡ None → o ≡ Some s → ⊥
not_both {s = s} e f = none-some s (sym e ∙ f)

module _ {S n R Q : ℕ} {h : History} {x : Exchange} (m : Moment (Holds S n R Q) h x) where
  -- a line that the moment's line answers so
  says_status : {acted : Acted} → act_line watcher m.st ≡ outcome acted → status_of x ≡ Some (status acted.answer)
  says_status e = m.status_is ∙ ap (λ acted. Some (status acted.answer)) e

  says_value : {acted : Acted} → act_line watcher m.st ≡ outcome acted
      → value_of x ≡ Some (in_numbers acted.answer).value
  says_value e = m.value_is ∙ ap (λ acted. Some (in_numbers acted.answer).value) e

  -- ---- a grant

  module _ (s : ℕ) (asks_grant : asks x ≡ Ok (Grant s)) where
    granted_is : act_line watcher m.st ≡ outcome (grant R m.st.pool.shadow m.st.pool.table s)
    unfolding act
    granted_is =
        acted_on m (Ok (Grant s)) asks_grant
        ∙ ap (λ R'. outcome (grant R' m.st.pool.shadow m.st.pool.table s)) m.holds.redzone

    seeks_room : (seeks x).room ≡ Some (counted s)
    unfolding seeks sought_by
    seeks_room = ap (λ frame. (sought_by frame).room) asks_grant

    seeks_no_block : (seeks x).block ≡ None
    unfolding seeks sought_by
    seeks_no_block = ap (λ frame. (sought_by frame).block) asks_grant

    of_grant : Finding S n R Q h x
    unfolding status in_numbers grant_at
    of_grant =
        let shadow : List ℕ = m.st.pool.shadow in
        let table : List ℕ = m.st.pool.table in
        let stands : Stands S R Q shadow table h = m.holds.stands in
        let u : ℕ = granules (counted s) in
        let theirs : Theirs h.live (seeks x) = λ a e. absurd (not_both seeks_no_block e) in
        let count : length (held R Q h) ≡ in_use table = held_count stands in
        let fewer : (i : ℕ) → empty_row table ≡ Some i → length (held R Q h) < n =
        λ i row.
        let l : Lowest (is_empty table) (rows table) 0 i = empty_row_some table i row in
        omega
        (arith, in_use_fewer table i (below_all l) (eqb-true (state table i) empty l.passes), m.holds.of_rows) in
        by_grant R shadow table s (λ acted. act_line watcher m.st ≡ outcome acted → Finding S n R Q h x)
        (λ no_row e.
        full (counted s) seeks_room (says_status e) theirs
        (count ∙ in_use_all table (empty_row_none table no_row) ∙ m.holds.of_rows))
        (λ i row no_place e.
        nowhere (counted s) seeks_room (says_status e) theirs (fewer i row)
        (λ p free. place_none shadow R u no_place p (free_fits stands (counted s) p (counted_least s) free)))
        (λ i p row at_place e.
        let found : Place shadow R u p = place_some shadow R u p at_place in
        let at_p : PlacedAt S R n (held R Q h) (counted s) x = record {
          place = p;
          value_is = says_value e;
          row = fewer i row;
          room = fits_free stands (counted s) p (counted_least s) found.fits;
          lowest = λ q free.
              by_order q p
              (λ less. absurd (found.lowest q less (free_fits stands (counted s) q (counted_least s) free)))
              (λ more. more);
        } in
        all_there (says_status e) theirs
        (λ t seeks_t. subst (λ size. PlacedAt S R n (held R Q h) size x) (one_status seeks_room seeks_t) at_p)
        (λ a alone. absurd (not_both (ap (λ sought. sought.room) alone) seeks_room)))
        granted_is

  -- ---- a release

  module _ (a : ℕ) (asks_release : asks x ≡ Ok (Release a)) (above : a ≢ 0) where
    released_is : act_line watcher m.st ≡ outcome (release R Q m.st.pool.shadow m.st.pool.table a)
    unfolding act
    released_is =
        acted_on m (Ok (Release a)) asks_release
        ∙ ap (λ R'. outcome (release R' m.st.session.quarantine m.st.pool.shadow m.st.pool.table a))
        m.holds.redzone
        ∙ ap (λ Q'. outcome (release R Q' m.st.pool.shadow m.st.pool.table a)) m.holds.quarantine

    seeks_alone : seeks x ≡ record { room = None; block = Some a }
    unfolding seeks
    seeks_alone = ap sought_by asks_release ∙ release_seeks a above

    seeks_block : (seeks x).block ≡ Some a
    seeks_block = ap (λ sought. sought.block) seeks_alone

    -- no block starts where no row does
    none_live : row_at live m.st.pool.table a ≡ None → Starts h.live a → ⊥
    none_live e s =
        let row : RowOf m.st.pool.table live s.0 =
        m.holds.stands.standing.lives.row s.0 s.1 in
        row_at_none live m.st.pool.table a e row.0 row.1 row.2 (ap (λ y. y.address) row.3 ∙ s.2)

    none_quarantined : row_at quarantined m.st.pool.table a ≡ None → Starts (latest R Q h.released) a → ⊥
    none_quarantined e s =
        let row : RowOf m.st.pool.table quarantined s.0 =
        queue_row R m.st.pool.table (latest R Q h.released) m.holds.stands.queue s.0 s.1 in
        row_at_none quarantined m.st.pool.table a e row.0 row.1 row.2
        (ap (λ y. y.address) row.3 ∙ s.2)

    -- what is heard of a release that is done
    heard_release : status_of x ≡ Some 0 → (heard h x).released ≡ at a h.live ++ h.released
    unfolding heard happen happens seeks
    heard_release is_done =
        let value : ℕ = (in_numbers (act_line watcher m.st).answer).value in
        ap (λ es. (happen h es).released)
        (events_done x value is_done m.value_is
        ∙ ap (λ frame. did (sought_by frame) value) asks_release
        ∙ did_release a value above)

    -- the number that left: each eviction leaves one fewer
    evicted_of : (i : ℕ) → StartsAt live m.st.pool.table a i
        → (release_row R Q (record { shadow = m.st.pool.shadow; table = m.st.pool.table }) i).answer
        ≡ Ok (length (latest R Q h.released) + 1 - length (latest R Q (at a h.live ++ h.released)))
    unfolding release_row
    evicted_of i found =
        let pool : Pool = record { shadow = m.st.pool.shadow; table = m.st.pool.table } in
        let entered : Queue R (quarantine_row pool i).table (block_of pool.table i ∷ latest R Q h.released) =
        queue_quarantine R pool (latest R Q h.released) i found.below found.has m.holds.stands.queue in
        ap Ok
        (omega (
          arith,
          settle_count R Q (quarantine_row pool i),
          entered.count,
          (released_queue m.holds.stands i a found).count,
        ))

    of_release : Finding S n R Q h x
    unfolding status in_numbers release_row held
    of_release =
        let table : List ℕ = m.st.pool.table in
        let blocks : List Block = latest R Q h.released in
        by_release R Q m.st.pool.shadow table a
        (λ acted. act_line watcher m.st ≡ outcome acted → Finding S n R Q h x)
        (λ e is. absurd (above e))
        (λ not_zero no_live no_quarantined is.
        foreign a seeks_block (says_status is)
        (λ s. ⊎_elim {C = ⊥} (none_live no_live) (none_quarantined no_quarantined) (starts_of h.live blocks a s)))
        (λ not_zero no_live i e is.
        let found : StartsAt quarantined table a i = row_at_some quarantined table a i e in
        twice a seeks_block (says_status is) (
          block_of table i,
          queue_block R table blocks m.holds.stands.queue i found.below found.has,
          found.at,
        )
        (none_live no_live))
        (λ not_zero i e is.
        let found : StartsAt live table a i = row_at_some live table a i e in
        let starts : Starts h.live a =
        (block_of table i, m.holds.stands.standing.lives.listed i found.below found.has, found.at) in
        all_there (says_status is)
        (λ c seeks_c. subst (Starts h.live) (one_status seeks_block seeks_c) starts)
        (λ s seeks_s. absurd (not_both (ap (λ sought. sought.room) seeks_alone) seeks_s))
        (λ c alone.
        says_value is
        ∙ ap (λ answer. Some (in_numbers answer).value) (evicted_of i found)
        ∙ ap (λ released. Some (length blocks + 1 - length (latest R Q released)))
        (sym (heard_release (says_status is)))))
        released_is

  -- ---- any line

  -- what seeks nothing is answered none of 05 to 08
  of_nothing : (frame : Asked) (answer : Answer) → asks x ≡ frame → sought_by frame ≡ nothing_sought
      → (act_line watcher m.st).answer ≡ answer → (status answer < 5) ⊎ (8 < status answer) → Finding S n R Q h x
  unfolding seeks
  of_nothing frame answer e nothing is outside =
      none_sought (status answer) (m.status_is ∙ ap (λ c. Some (status c)) is) outside (ap sought_by e ∙ nothing)

  of_access : (frame : Asked) (a k : ℕ) → asks x ≡ frame → sought_by frame ≡ nothing_sought
      → (act_line watcher m.st).answer ≡ access m.st.pool.shadow a k → Finding S n R Q h x
  of_access frame a k e nothing is =
      of_nothing frame (access m.st.pool.shadow a k) e nothing is
      (access_number (λ number. (number < 5) ⊎ (8 < number)) (inl (omega arith)) (inr (omega arith))
      m.st.pool.shadow a k)

  of_refused : (why : Refusal) → asks x ≡ Err why → (status (Err why) < 5) ⊎ (8 < status (Err why))
      → Finding S n R Q h x
  unfolding act sought_by
  of_refused why e =
      of_nothing (Err why) (Err why) e refl (ap (λ acted. acted.answer) (acted_on m (Err why) e))

  -- a release of address 0
  at_zero : asks x ≡ Ok (Release 0)
      → act_line watcher m.st ≡ outcome (unchanged (Ok 0) m.st.pool.shadow m.st.pool.table)
  unfolding act
  at_zero e =
      acted_on m (Ok (Release 0)) e
      ∙ ap outcome
      (release_nothing m.st.session.redzone m.st.session.quarantine m.st.pool.shadow
      m.st.pool.table)

  pub finding : Finding S n R Q h x
  unfolding asks act sought_by status in_numbers
  finding =
      by_line (λ frame. asks x ≡ frame → Finding S n R Q h x)
      (λ e. of_refused BadLine e (inl (omega arith)))
      (λ e. of_refused BadKind e (inl (omega arith)))
      (λ e. of_refused NotZero e (inl (omega arith)))
      (λ s fits e. of_grant s e)
      (λ a fits e.
      elim (ℕ_discrete a 0) [
        | yes zero ↦
            of_nothing (Ok (Release 0)) (Ok 0) (e ∙ ap (λ c. Ok (Release c)) zero) release_seeks_nothing
            (ap (λ acted. acted.answer) (at_zero (e ∙ ap (λ c. Ok (Release c)) zero)))
            (inl (omega arith))
        | no above ↦ of_release a e above
      ])
      (λ a k fits fits' e.
      of_access (Ok (Read a k)) a k e refl (ap (λ acted. acted.answer) (acted_on m (Ok (Read a k)) e)))
      (λ a k fits fits' e.
      of_access (Ok (Write a k)) a k e refl (ap (λ acted. acted.answer) (acted_on m (Ok (Write a k)) e)))
      (length x.line) x.line refl

-- ---- read off it

-- an answer has one number
never : {o : Option ℕ} {s t : ℕ} {A : Type 0} → o ≡ Some s → s ≢ t → o ≡ Some t → A
never is other e = absurd (other (one_status is e))

outside_not : {number k : ℕ} → (number < 5) ⊎ (8 < number) → 5 ≤ k → k ≤ 8 → number ≢ k
outside_not outside from upto e = ⊎_elim {C = ⊥} (λ low. omega arith) (λ high. omega arith) outside

-- the block that is granted is at the place found
placed_lowest : {S R n : ℕ} {blocks : List Block} {s : ℕ} {x : Exchange} → PlacedAt S R n blocks s x
    → status_of x ≡ Some 0
    → (seeks x).room ≡ Some s → LowestOf S R blocks s x
placed_lowest {s = s} {x = x} p is e = record {
  place = p.place;
  granted =
      subst (λ es. Granted (block (granule * p.place) s) ∈ es)
      (sym (events_done x (granule * p.place) is p.value_is))
      (did_grant (seeks x) (granule * p.place) s e);
  only = λ y m.
      let g : DidGrant x y = granted_by x y m in
      g.block_is ∙ ap₂ block (one_status g.value_is p.value_is) (one_status g.sought e);
  value = p.value_is;
  room = p.room;
  lowest = p.lowest;
}

module _ (S n R Q : ℕ) (h : History) (x : Exchange) where
  -- 07 and 08

  abbrev Quarantined : List Block
  Quarantined = latest R Q h.released

  -- neither, where the block that is sought is live
  released_theirs : {s : ℕ} → status_of x ≡ Some s → s ≢ 7 → s ≢ 8 → Theirs h.live (seeks x)
      → ReleasedBy h.live Quarantined (seeks x) x
  released_theirs is not_7 not_8 theirs = record {
    foreign = (never is not_7, λ t. absurd (t.2 (starts_left h.live Quarantined t.0 (theirs t.0 t.1))));
    twice = (never is not_8, λ t. absurd (t.3 (theirs t.0 t.1)));
  }

  released_as : Finding S n R Q h x → ReleasedBy h.live Quarantined (seeks x) x
  unfolding held
  released_as (foreign a e is not_held) = record {
    foreign = (λ _. (a, e, not_held), λ _. is);
    twice = (
      never is (λ f. omega arith),
      λ t. absurd
          (not_held (starts_right h.live Quarantined a (subst (Starts Quarantined) (one_status t.1 e) t.2))),
    );
  }
  released_as (twice a e is in_quarantine not_live) = record {
    foreign = (
      never is (λ f. omega arith),
      λ t.
          let in_both : Starts (h.live ++ Quarantined) a = starts_right h.live Quarantined a in_quarantine in
          absurd (t.2 (subst (Starts (h.live ++ Quarantined)) (one_status e t.1) in_both)),
    );
    twice = (λ _. (a, e, in_quarantine, not_live), λ _. is);
  }
  released_as (full s e is theirs no_row) = released_theirs is (λ f. omega arith) (λ f. omega arith) theirs
  released_as (nowhere s e is theirs row no_place) = released_theirs is (λ f. omega arith) (λ f. omega arith) theirs
  released_as (all_there is theirs placed left) = released_theirs is (λ f. omega arith) (λ f. omega arith) theirs
  released_as (none_sought number is outside nothing) =
      released_theirs is (outside_not outside (omega arith) (omega arith))
      (outside_not outside (omega arith) (omega arith))
      (λ a e. absurd (not_both (ap (λ sought. sought.block) nothing) e))

  -- a block that is not held is not live
  foreign_not : (a : ℕ) → (seeks x).block ≡ Some a → (Starts (held R Q h) a → ⊥) → Theirs h.live (seeks x) → ⊥
  unfolding held
  foreign_not a e not_held theirs = not_held (starts_left h.live Quarantined a (theirs a e))

  -- 05 and 06

  -- neither, where the block that is sought is not live
  placed_not : {k : ℕ} → status_of x ≡ Some k → 7 ≤ k → (Theirs h.live (seeks x) → ⊥)
      → PlacedBy S R n h.live (held R Q h) (seeks x) x
  placed_not is from not_theirs = record {
    no_row = (never is (λ f. omega arith), λ t. absurd (not_theirs t.0));
    no_place = (never is (λ f. omega arith), λ t. absurd (not_theirs t.0));
    lowest = never is (λ f. omega arith);
  }

  placed_as : Finding S n R Q h x → PlacedBy S R n h.live (held R Q h) (seeks x) x
  placed_as (foreign a e is not_held) = placed_not is (omega arith) (foreign_not a e not_held)
  placed_as (twice a e is in_quarantine not_live) = placed_not is (omega arith) (λ theirs. not_live (theirs a e))
  placed_as (full s e is theirs no_row) = record {
    no_row = (λ _. (theirs, (s, e, no_row)), λ _. is);
    no_place = (never is (λ f. omega arith), λ t. absurd (omega (arith, t.1.2, no_row)));
    lowest = never is (λ f. omega arith);
  }
  placed_as (nowhere s e is theirs row no_place) = record {
    no_row = (never is (λ f. omega arith), λ t. absurd (omega (arith, t.1.2, row)));
    no_place = (λ _. (theirs, (s, e, row, no_place)), λ _. is);
    lowest = never is (λ f. omega arith);
  }
  placed_as (all_there is theirs placed left) = record {
    no_row = (never is (λ f. omega arith), λ t. absurd (omega (arith, t.1.2, (placed t.1.0 t.1.1).row)));
    no_place = (
      never is (λ f. omega arith),
      λ t. let p = placed t.1.0 t.1.1 in absurd (t.1.3 p.place p.room),
    );
    lowest = λ _ s e. placed_lowest (placed s e) is e;
  }
  placed_as (none_sought number is outside nothing) =
      let no_room : (s : ℕ) → (seeks x).room ≡ Some s → ⊥ = λ s. not_both (ap (λ sought. sought.room) nothing) in
      record {
        no_row =
            (never is (outside_not outside (omega arith) (omega arith)), λ t. absurd (no_room t.1.0 t.1.1));
        no_place =
            (never is (outside_not outside (omega arith) (omega arith)), λ t. absurd (no_room t.1.0 t.1.1));
        lowest = λ _ s e. absurd (no_room s e);
      }

  -- 00
  done_as : Finding S n R Q h x → seeks x ≢ nothing_sought → DoneBy S R n h.live (held R Q h) (seeks x) x
  done_as (foreign a e is not_held) something =
      (never is (λ f. omega arith), λ t. absurd (foreign_not a e not_held t.0))
  done_as (twice a e is in_quarantine not_live) something =
      (never is (λ f. omega arith), λ t. absurd (not_live (t.0 a e)))
  done_as (full s e is theirs no_row) something =
      (never is (λ f. omega arith), λ t. absurd (omega (arith, (t.1 s e).0, no_row)))
  done_as (nowhere s e is theirs row no_place) something =
      (never is (λ f. omega arith), λ t. let p = (t.1 s e).1 in absurd (no_place p.0 p.1))
  done_as (all_there is theirs placed left) something =
      (λ _. (theirs, λ s e. ((placed s e).row, ((placed s e).place, (placed s e).room))), λ _. is)
  done_as (none_sought number is outside nothing) something = absurd (something nothing)

  -- how many left
  pub left_as : Finding S n R Q h x → (a : ℕ) → seeks x ≡ record { room = None; block = Some a } → status_of x ≡ Some 0
      → value_of x ≡ Some (Left R Q h x)
  left_as (foreign a e is not_held) c alone is_done = never is (λ f. omega arith) is_done
  left_as (twice a e is in_quarantine not_live) c alone is_done = never is (λ f. omega arith) is_done
  left_as (full s e is theirs no_row) c alone is_done = never is (λ f. omega arith) is_done
  left_as (nowhere s e is theirs row no_place) c alone is_done = never is (λ f. omega arith) is_done
  left_as (all_there is theirs placed left) c alone is_done = left c alone
  left_as (none_sought number is outside nothing) c alone is_done =
      absurd (not_both (ap (λ sought. sought.block) nothing) (ap (λ sought. sought.block) alone))

pub releases : Releases
releases r before x line = released_as _ _ _ _ _ x (finding (line_moment r before x line))

pub placement : Placement
placement r before x line = placed_as _ _ _ _ _ x (finding (line_moment r before x line))

pub all_sought : AllSought
all_sought r before x line = done_as _ _ _ _ _ x (finding (line_moment r before x line))

-- address 0
pub releases_nothing : ReleasesNothing
unfolding status in_numbers seeks did grants_at releases_at
releases_nothing r before x line asks_nothing =
    let m : Moment (HoldsOf r) (history r before) x = line_moment r before x line in
    let is_done : status_of x ≡ Some 0 = says_status m (at_zero m asks_nothing) in
    let says_nothing : value_of x ≡ Some 0 = says_value m (at_zero m asks_nothing) in
    record {
      done = is_done;
      value = says_nothing;
      none_happened =
          events_done x 0 is_done says_nothing
          ∙ ap (λ sought. did sought 0) (ap sought_by asks_nothing ∙ release_seeks_nothing);
    }
