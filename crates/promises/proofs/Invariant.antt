-- The invariant: what stands in shadow and table is what the history says, and every byte of a text keeps it. Assumes
-- nothing.
use Prim.Native.Nat.{ℕ, ◌<◌}
use native.Mathlib.Omega.{arith}
use mathlib.Core.Path.{◌≡◌, refl, sym, ap, subst, ◌∙◌}
use mathlib.Core.Logic.{inl, inr, ⊎_elim}
use mathlib.Core.List.Memᴰ
use mathlib.Core.List.{List, ◌∷◌, ◌++◌}
use lib.ListN.{length, length-append}
use borrow.Author.Tests.{eqb-true}
use Rattle.std.specs.Prelude.{Ok, Err}
use Rattle.rules.specs.Frames.{Asked}
use Rattle.rules.specs.declared.Session.{Session}
use Rattle.rules.specs.Answers.{Answer}
use Rattle.rules.specs.declared.Frame.TheVariants.{Grant, Release, Read, Write}
use Rattle.rules.specs.Limits.{empty, live, quarantined}
use Rattle.rules.specs.Table.{rows, state, is_empty}
use Rattle.rules.specs.Answers.{in_numbers, status}
use Rattle.rules.specs.Grant.{Acted, unchanged, counted, granules, grant_at, grant}
use Rattle.rules.specs.Release.{Pool, quarantine_row, settle, release_row, release}
use Rattle.rules.specs.Feed.{State, emptied, lengthened, act_line, finish, hold}
use Rattle.rules.specs.Watcher.{act, watcher}
use Rattle.rules.specs.Calls.{LentState}
use Rattle.rules.proofs.Lowest.{Lowest, below_all}
use Rattle.rules.proofs.Table.{rows_same}
use Rattle.rules.proofs.Grant.{counted_least, place_some, empty_row_some, by_grant}
use Rattle.rules.proofs.Release.{StartsAt, row_at_some, by_release}
use Rattle.rules.proofs.Feed.{SameNumbers, lengthened_numbers}
use Rattle.rules.proofs.Watcher.{act_lengths}
use Rattle.promises.specs.History.{Block, at, sought_by, nothing_sought, grants_at, releases_at, did}
use Rattle.promises.specs.History.{History, happens, happen, latest, held}
use Rattle.promises.specs.Rows.{◌∈◌, HeldRow, block_of, RowOf, in_use}
use Rattle.promises.proofs.History.{told, told_done, told_nothing, did_release, release_seeks_nothing}
use Rattle.promises.proofs.Replay.{asked}
use Rattle.promises.proofs.Blocks.{at_one}
use Rattle.promises.proofs.Standing.{Standing, standing_grant, standing_quarantine, standing_settle}
use Rattle.promises.proofs.Latest.{latest_again}
use Rattle.promises.proofs.Queue.{Queue, queue_put, queue_quarantine, queue_settle, queue_row, queue_block}

-- shadow and table as a history has them: the rows lie a redzone apart and draw the shadow, the live ones are the
-- blocks granted and not yet released, so many rows are in use (`Standing`); and the quarantined ones, by their turns,
-- are the longest run of latest releases (`Queue`)
pub record Stands (S R Q : ℕ) (shadow table : List ℕ) (h : History) : Type 0 where
  pub above : 0 < R
  pub standing : Standing S R shadow table h.live
  pub queue : Queue R table (latest R Q h.released)

-- what a line or a direct call leaves, with its answer heard
abbrev Leaves : ℕ → ℕ → ℕ → History → Asked → Acted → Type 0
Leaves S R Q h frame acted = Stands S R Q acted.shadow acted.table (happen h (told frame acted.answer))

module _ {S R Q : ℕ} {shadow table : List ℕ} {h : History} (stands : Stands S R Q shadow table h) where
  -- a grant
  stands_grant : (s : ℕ) → Leaves S R Q h (Ok (Grant s)) (grant R shadow table s)
  unfolding told sought_by grants_at releases_at did happens happen status in_numbers grant_at
  stands_grant s =
      by_grant R shadow table s (Leaves S R Q h (Ok (Grant s))) (λ full. stands) (λ i row nowhere. stands)
      (λ i p row at_place.
      let l : Lowest (is_empty table) (rows table) 0 i = empty_row_some table i row in
      let below : i < rows table = below_all l in
      let is : state table i ≡ empty = eqb-true (state table i) empty l.passes in
      record {
        above = stands.above;
        standing = standing_grant stands.standing i (counted s) p below is (counted_least s)
            (place_some shadow R (granules (counted s)) p at_place).fits;
        queue = queue_put R table (latest R Q h.released) i p (counted s) below (λ e. absurd (omega arith))
            stands.queue;
      })

  -- live row i, at a, is released: once all evictions are done, what is quarantined is the longest run of the releases
  -- with it
  pub released_queue : (i a : ℕ) → StartsAt live table a i
      → Queue R (settle R Q (quarantine_row (record { shadow = shadow; table = table }) i)).pool.table
      (latest R Q (at a h.live ++ h.released))
  released_queue i a s =
      let pool : Pool = record { shadow = shadow; table = table } in
      let own : Block = block_of table i in
      let listed : own ∈ h.live = stands.standing.lives.listed i s.below s.has in
      subst (Queue R (settle R Q (quarantine_row pool i)).pool.table)
      (latest_again R Q own h.released
      ∙ ap (λ l. latest R Q (l ++ h.released))
      (sym (at_one a h.live own stands.standing.lives.distinct listed s.at)))
      (queue_settle R Q (quarantine_row pool i) (own ∷ latest R Q h.released)
      (queue_quarantine R pool (latest R Q h.released) i s.below s.has stands.queue))

  -- a release
  stands_release : (a : ℕ) → Leaves S R Q h (Ok (Release a)) (release R Q shadow table a)
  unfolding told happens happen status in_numbers release_row
  stands_release a =
      by_release R Q shadow table a (Leaves S R Q h (Ok (Release a)))
      (λ e.
      subst (λ c. Leaves S R Q h (Ok (Release c)) (unchanged (Ok 0) shadow table)) (sym e)
      (subst (λ es. Stands S R Q shadow table (happen h es))
      (sym (told_nothing (Ok (Release 0)) (Ok 0) release_seeks_nothing)) stands))
      (λ above no_live no_quarantined. stands)
      (λ above no_live i e. stands)
      (λ above i e.
      let pool : Pool = record { shadow = shadow; table = table } in
      let s : StartsAt live table a i = row_at_some live table a i e in
      let acted : Acted = release_row R Q pool i in
      subst (λ es. Stands S R Q acted.shadow acted.table (happen h es))
      (sym (told_done (Ok (Release a)) acted.answer refl ∙ did_release a _ above))
      (record {
        above = stands.above;
        standing = standing_settle Q (quarantine_row pool i)
            (standing_quarantine pool stands.standing i a s.below s.has s.at);
        queue = released_queue i a s;
      }))

-- a line that seeks nothing and leaves shadow and table as they were
nothing_happens : {S : ℕ} (session : Session) (shadow table : List ℕ) (h : History) (frame : Asked) (answer : Answer)
    → sought_by frame ≡ nothing_sought → Stands S session.redzone session.quarantine shadow table h
    → Leaves S session.redzone session.quarantine h frame (unchanged answer shadow table)
unfolding happen
nothing_happens {S} session shadow table h frame answer nothing stands =
    subst (λ es. Stands S session.redzone session.quarantine shadow table (happen h es))
    (sym (told_nothing frame answer nothing)) stands

-- a line, whatever it asks
stands_act : {S : ℕ} (session : Session) (shadow table : List ℕ) (h : History) (frame : Asked)
    → Stands S session.redzone session.quarantine shadow table h
    → Leaves S session.redzone session.quarantine h frame (act session shadow table frame)
unfolding act sought_by
stands_act session shadow table h (Ok (Grant s)) stands = stands_grant stands s
stands_act session shadow table h (Ok (Release a)) stands = stands_release stands a
stands_act session shadow table h (Ok (Read a n)) stands =
    nothing_happens session shadow table h (Ok (Read a n)) _ refl stands
stands_act session shadow table h (Ok (Write a n)) stands =
    nothing_happens session shadow table h (Ok (Write a n)) _ refl stands
stands_act session shadow table h (Err refusal) stands =
    nothing_happens session shadow table h (Err refusal) (Err refusal) refl stands

-- ---- held blocks and held rows

module _ {S R Q : ℕ} {shadow table : List ℕ} {h : History} (stands : Stands S R Q shadow table h) where
  -- a held block is that of a live row or of a quarantined one
  pub held_row : (y : Block) → y ∈ held R Q h → (i : ℕ) × HeldRow table i × (block_of table i ≡ y)
  unfolding held
  held_row y m =
      ⊎_elim
      (λ in_live.
      let row : RowOf table live y = stands.standing.lives.row y in_live in
      (row.0, record { below = row.1; has = inl row.2 }, row.3))
      (λ in_quarantine.
      let row : RowOf table quarantined y =
      queue_row R table (latest R Q h.released) stands.queue y in_quarantine in
      (row.0, record { below = row.1; has = inr row.2 }, row.3))
      (Memᴰ.append_cases h.live m)

  -- the block of a held row is held
  pub row_held : (i : ℕ) → HeldRow table i → block_of table i ∈ held R Q h
  unfolding held
  row_held i own =
      ⊎_elim
      (λ is. Memᴰ.append_left (latest R Q h.released) (stands.standing.lives.listed i own.below is))
      (λ is.
      Memᴰ.append_right h.live (queue_block R table (latest R Q h.released) stands.queue i own.below is))
      own.has

  -- as many blocks are held as rows are in use
  pub held_count : length (held R Q h) ≡ in_use table
  unfolding held
  held_count =
      omega (arith, length-append h.live (latest R Q h.released), stands.standing.used, stands.queue.count)

-- ---- states

-- the same of a state, with the numbers of the session that it began with: S, the rows, R and Q
pub record Holds (S n R Q : ℕ) (st : State Pool) (h : History) : Type 0 where
  pub redzone : st.session.redzone ≡ R
  pub quarantine : st.session.quarantine ≡ Q
  pub of_rows : rows st.pool.table ≡ n
  pub stands : Stands S R Q st.pool.shadow st.pool.table h

module _ (S n R Q : ℕ) where
  -- a byte that is no line feed keeps it
  pub on_byte : (st : State Pool) (h : History) (b : ℕ) → Holds S n R Q st h → Holds S n R Q (hold st b).state h
  unfolding hold
  on_byte st h b holds =
      let same : SameNumbers st.session (lengthened st.session b) = lengthened_numbers st.session b in
      record {
        redzone = same.redzone ∙ holds.redzone;
        quarantine = same.quarantine ∙ holds.quarantine;
        of_rows = holds.of_rows;
        stands = holds.stands;
      }

  -- and so does a line feed, with the answer heard
  pub on_line : (st : State Pool) (h : History) → LentState st → Holds S n R Q st h
      → Holds S n R Q (finish watcher st).state (happen h (told (asked st) (act_line watcher st).answer))
  unfolding finish emptied act_line
  on_line st h lent holds =
      let acted : Acted = act st.session st.pool.shadow st.pool.table (asked st) in
      record {
        redzone = holds.redzone;
        quarantine = holds.quarantine;
        of_rows = rows_same acted.table st.pool.table
            (act_lengths st.session st.pool.shadow st.pool.table (asked st)).1 ∙ holds.of_rows;
        stands =
            subst (λ Q'. Stands S R Q' acted.shadow acted.table (happen h (told (asked st) acted.answer)))
            holds.quarantine
            (subst (λ R'. Stands S R' st.session.quarantine acted.shadow acted.table
            (happen h (told (asked st) acted.answer))) holds.redzone
            (stands_act st.session st.pool.shadow st.pool.table h (asked st)
            (subst (λ Q'. Stands S st.session.redzone Q' st.pool.shadow st.pool.table h)
            (sym holds.quarantine)
            (subst (λ R'. Stands S R' Q st.pool.shadow st.pool.table h) (sym holds.redzone)
            holds.stands))));
      }
