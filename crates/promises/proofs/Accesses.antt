-- Reads and writes: reported exactly when a byte lies in no live block of the history, with the least such byte and its
-- kind; and what follows of two blocks and of a released one. Assumes nothing.
use Prim.Native.Nat.{ℕ, ◌+◌, ◌-◌, ◌*◌, ◌≤◌, ◌<◌, ◌^◌, ◌/◌, ◌%◌}
use native.Mathlib.Decide.{ℕ_discrete}
use native.Mathlib.Omega.{arith}
use mathlib.Core.Path.{◌≡◌, refl, sym, ap, subst, ◌∙◌}
use mathlib.Core.Logic.{◌≢◌, ◌⊎◌, inl, inr, ⊎_elim}
use mathlib.Core.Bool.{true, false, true≢false}
use mathlib.Core.List.Memᴰ
use mathlib.Core.List.{List, [], ◌∷◌, ◌++◌, append_assoc}
use lib.ListN.{length, get_or}
use Rattle.std.specs.Prelude.{Some, Ok, Err}
use Rattle.rules.specs.declared.Refusal.TheVariants.{NotGood}
use Rattle.rules.specs.declared.Frame.TheVariants.{Read, Write}
use Rattle.rules.specs.Limits.{granule, live, quarantined}
use Rattle.rules.specs.Table.{rows, start, size, state}
use Rattle.rules.specs.Shadow.{addressable, kind, first_bad, shadow_of, FirstBad}
use Rattle.rules.specs.Answers.{in_numbers, status}
use Rattle.rules.specs.Grant.{granules, granted}
use Rattle.rules.specs.Release.{Pool}
use Rattle.rules.specs.Feed.{State, act_line}
use Rattle.rules.specs.Watcher.{access, act, watcher}
use Rattle.rules.proofs.Tests.{by_found, by_order, by_test}
use Rattle.rules.proofs.Shadow.{first_bad_some, first_bad_none, not_inside, kind_inside, kind_outside}
use Rattle.rules.proofs.Grant.{granules_enough, granules_least, granted_last}
use Rattle.rules.proofs.Refusals.{access_good, access_bad}
use Rattle.promises.specs.History.{Exchange, status_of, kind_of, value_of, Block, block, has_byte, lies_in}
use Rattle.promises.specs.History.{others, latest, held}
use Rattle.promises.specs.History.{seeks, Granted, Released, did, events}
use Rattle.promises.specs.History.{History, happens, happen, heard, heard_all}
use Rattle.promises.specs.Replay.{Replay, session, Line, history, live_at, quarantine_at, held_at, ran, happened}
use Rattle.promises.specs.Rows.{◌∈◌, HeldRow, block_of, past, RowOf}
use Rattle.promises.specs.Accesses.{Touches, Stray, Reported, First, FirstBadByte, TwoBlocks, UntilGranted}
use Rattle.promises.specs.Accesses.{OutsideNowhere, KindBy, Kinds}
use Rattle.promises.proofs.History.{did_alone, did_both, events_done, DidGrant, granted_by, released_by}
use Rattle.promises.proofs.History.{heard_append, heard_stray}
use Rattle.promises.proofs.Agreement.{apart_bytes}
use Rattle.promises.proofs.Sought.{placement}
use Rattle.promises.proofs.Replay.{Moment, acted_on, one_status}
use Rattle.promises.proofs.Blocks.{has_byte_true, has_byte_is, lies_in_is, lies_in_not, others_of, others_in}
use Rattle.promises.proofs.Laid.{ends, Laid, Off}
use Rattle.promises.proofs.Queue.{queue_row}
use Rattle.promises.proofs.Drawn.{addressable_lies, live_byte, byte_fits}
use Rattle.promises.proofs.Invariant.{Stands, held_row, row_held}
use Rattle.promises.proofs.Beginning.{HoldsOf, replay_holds, line_moment}

-- ---- the answer to an access

access_answer : {P : State Pool → History → Type 0} {h : History} {x : Exchange} (m : Moment P h x) (a n : ℕ)
    → Touches x a n
    → (act_line watcher m.st).answer ≡ access m.st.pool.shadow a n
unfolding act
access_answer m a n (inl e) = ap (λ acted. acted.answer) (acted_on m (Ok (Read a n)) e)
access_answer m a n (inr e) = ap (λ acted. acted.answer) (acted_on m (Ok (Write a n)) e)

-- ---- the kind of a bad byte

module _ {S R Q : ℕ} {shadow table : List ℕ} {h : History} (stands : Stands S R Q shadow table h) where
  kind_fits : (b : ℕ) → kind shadow b < 16 ^ 2
  unfolding shadow_of
  kind_fits b =
      let of_shadow : length shadow ≡ S = stands.standing.laid.of_shadow in
      by_order b (granule * length shadow)
      (λ in_arena.
      omega (arith, kind_inside shadow b in_arena, byte_fits stands.standing.laid (b / granule) (omega arith)))
      (λ beyond. omega (arith, kind_outside shadow b beyond))

  kind_by : (b : ℕ) → lies_in h.live b ≡ false → KindBy S h.live (latest R Q h.released) b (kind shadow b)
  unfolding shadow_of past held
  kind_by b nowhere =
      let laid : Laid S R shadow table = stands.standing.laid in
      let of_shadow : length shadow ≡ S = laid.of_shadow in
      record {
        outside = λ beyond. kind_outside shadow b (omega arith);
        released = λ y m from below.
            let row : RowOf table quarantined y =
            queue_row R table (latest R Q h.released) stands.queue y m in
            let first : granule * start table row.0 ≡ y.address = ap (λ w. w.address) row.3 in
            let size_is : size table row.0 ≡ y.size = ap (λ w. w.size) row.3 in
            let granules_are : granules (size table row.0) ≡ granules y.size = ap granules size_is in
            let high : ends table row.0 + R ≤ S =
            laid.high row.0 (record { below = row.1; has = inr row.2 }) in
            kind_inside shadow b (omega arith)
            ∙ laid.of_quarantined row.0 row.1 row.2 (b / granule) (omega arith) (omega arith);
        past_the_end = λ y m from below.
            let row : RowOf table live y = stands.standing.lives.row y m in
            let first : granule * start table row.0 ≡ y.address = ap (λ w. w.address) row.3 in
            let size_is : size table row.0 ≡ y.size = ap (λ w. w.size) row.3 in
            let granules_are : granules (size table row.0) ≡ granules y.size = ap granules size_is in
            let own : HeldRow table row.0 = record { below = row.1; has = inl row.2 } in
            let high : ends table row.0 + R ≤ S = laid.high row.0 own in
            let beyond : y.address + y.size ≤ b =
            by_order b (y.address + y.size)
            (λ inside. absurd (true≢false (sym (lies_in_is h.live b y m (has_byte_is y b from inside)) ∙ nowhere)))
            (λ past·. past·) in
            let last : b / granule - start table row.0 ≡ size table row.0 / granule =
            omega (arith, granules_least (size table row.0)) in
            kind_inside shadow b (omega arith)
            ∙ live_byte laid row.0 (b / granule) (record { held = own; from = omega arith; below = omega arith })
            row.2
            ∙ ap (λ g. get_or (granted (size table row.0)) g 0) last
            ∙ granted_last (size table row.0)
            ∙ ap (λ s. s % granule) size_is;
        elsewhere = λ in_arena off.
            kind_inside shadow b (omega arith)
            ∙ laid.of_none (b / granule) (omega arith)
            (λ i own.
            ⊎_elim {C = Off table i (b / granule)}
            (λ left. inl (omega arith)) (λ right. inr (omega arith)) (off (block_of table i) (row_held stands i own)));
      }

-- ---- every access

-- reported with its first stray byte, or passed with none
record Bad (S : ℕ) (blocks quarantine : List Block) (x : Exchange) (a n : ℕ) : Type 0 where
  pub status_is : status_of x ≡ Some 9
  pub first : First blocks a n x
  pub kind : (k : ℕ) × (kind_of x ≡ Some k) × KindBy S blocks quarantine first.byte k

record Passed (blocks : List Block) (x : Exchange) (a n : ℕ) : Type 0 where
  pub status_is : status_of x ≡ Some 0
  pub value_is : value_of x ≡ Some 0
  pub none_stray : (b : ℕ) → Stray blocks a n b → ⊥

-- of a replay's line
abbrev BadIn : Replay → List Exchange → Exchange → ℕ → ℕ → Type 0
BadIn r before = Bad (session r).granules (live_at r before) (quarantine_at r before)

judged : (r : Replay) (before : List Exchange) (x : Exchange) → Line r before x → (a n : ℕ) → Touches x a n
    → BadIn r before x a n ⊎ Passed (live_at r before) x a n
unfolding status in_numbers
judged r before x line a n touches =
    let m : Moment (HoldsOf r) (history r before) x = line_moment r before x line in
    let shadow : List ℕ = m.st.pool.shadow in
    let blocks : List Block = live_at r before in
    let stands = m.holds.stands in
    let same : (b : ℕ) → addressable shadow b ≡ lies_in blocks b =
    addressable_lies stands.standing.laid blocks stands.standing.lives in
    by_found (first_bad shadow a n)
    (λ b e.
    let f : FirstBad shadow a n b = first_bad_some shadow a n b e in
    let answer : (act_line watcher m.st).answer ≡ Err (NotGood (kind shadow b) b) =
    access_answer m a n touches ∙ access_bad shadow a n b e in
    let kind_is : (in_numbers (act_line watcher m.st).answer).kind ≡ kind shadow b =
    ap (λ c. (in_numbers c).kind) answer in
    let stray : lies_in blocks b ≡ false = sym (same b) ∙ f.bad in
    inl
    (record {
      status_is = m.status_is ∙ ap (λ c. Some (status c)) answer;
      first = record {
        byte = b;
        value = m.value_is ∙ ap (λ c. Some (in_numbers c).value) answer;
        stray = record { from = f.from; below = f.below; nowhere = stray };
        least =
            λ c s. by_order c b (λ less. absurd (true≢false (sym (f.first c s.from less) ∙ same c ∙ s.nowhere)))
            (λ more. more);
      };
      kind = (kind shadow b, m.kind_is (omega (arith, kind_fits stands b)) ∙ ap Some kind_is, kind_by stands b stray);
    }))
    (λ e.
    let answer : (act_line watcher m.st).answer ≡ Ok 0 = access_answer m a n touches ∙ access_good shadow a n e in
    inr
    (record {
      status_is = m.status_is ∙ ap (λ c. Some (status c)) answer;
      value_is = m.value_is ∙ ap (λ c. Some (in_numbers c).value) answer;
      none_stray = λ b s. true≢false (sym (first_bad_none shadow a n e b s.from s.below) ∙ same b ∙ s.nowhere);
    }))

-- ---- history, the first bad byte and its kind

pub reported : Reported
reported r before x line a n touches =
    ⊎_elim
    (λ (bad : BadIn r before x a n). record {
      reported = (λ e. (bad.first.byte, bad.first.stray), λ s. bad.status_is);
      passed = (
        λ e. absurd (omega (arith, one_status bad.status_is e)),
        λ None·. absurd (None· (bad.first.byte, bad.first.stray)),
      );
      passed_value = λ e. absurd (omega (arith, one_status bad.status_is e));
    })
    (λ (good : Passed (live_at r before) x a n). record {
      reported =
          (λ e. absurd (omega (arith, one_status good.status_is e)), λ s. absurd (good.none_stray s.0 s.1));
      passed = (λ e. λ s. good.none_stray s.0 s.1, λ None·. good.status_is);
      passed_value = λ e. good.value_is;
    })
    (judged r before x line a n touches)

pub first_bad_byte : FirstBadByte
first_bad_byte r before x line a n touches e =
    ⊎_elim
    (λ (bad : BadIn r before x a n). bad.first)
    (λ (good : Passed (live_at r before) x a n). absurd (omega (arith, one_status good.status_is e)))
    (judged r before x line a n touches)

pub kinds : Kinds
kinds r before x line a n touches is_bad b says_value =
    ⊎_elim
    (λ (bad : BadIn r before x a n). (
      bad.kind.0,
      bad.kind.1,
      subst (λ c. KindBy (session r).granules (live_at r before) (quarantine_at r before) c bad.kind.0)
          (one_status bad.first.value says_value) bad.kind.2,
    ))
    (λ (good : Passed (live_at r before) x a n). absurd (omega (arith, one_status good.status_is is_bad)))
    (judged r before x line a n touches)

-- bytes outside the arena lie in no block
pub outside_nowhere : OutsideNowhere
outside_nowhere r b beyond =
    let standing = (replay_holds r).stands.standing in
    sym (addressable_lies standing.laid (happened r).live standing.lives b)
    ∙ not_inside (ran r).state.pool.shadow b (omega (arith, standing.laid.of_shadow))

-- ---- two blocks

-- rows i and j are two, and the blocks of both have a byte among the n at a: the byte after the lower block's last lies
-- in no live block
module _ {S R Q : ℕ} {shadow table : List ℕ} {h : History} (stands : Stands S R Q shadow table h) where
  -- a byte of row i's granules is in no other held row's block
  one_row : (i j : ℕ) → HeldRow table i → HeldRow table j → i ≢ j → (b : ℕ) → granule * start table i ≤ b
      → b < granule * ends table i
      → has_byte (block_of table j) b ≡ true → ⊥
  one_row i j hi hj differ b from below has =
      let range : (granule * start table j ≤ b) × (b < granule * start table j + size table j) =
      has_byte_true (block_of table j) b has in
      ⊎_elim {C = ⊥}
      (λ left. omega (arith, range.0))
      (λ right. omega (arith, range.1, granules_enough (size table j)))
      (stands.standing.laid.apart i j hi hj differ)

  -- no byte of a quarantined row lies in a live block
  quarantined_stray : (i : ℕ) → i < rows table → state table i ≡ quarantined → (b : ℕ)
      → has_byte (block_of table i) b ≡ true → lies_in h.live b ≡ false
  quarantined_stray i below is b has =
      lies_in_not h.live b
      (λ x m has_x.
      let row : RowOf table live x = stands.standing.lives.row x m in
      let range : (granule * start table i ≤ b) × (b < granule * start table i + size table i) =
      has_byte_true (block_of table i) b has in
      one_row i row.0 (record { below = below; has = inr is }) (record { below = row.1; has = inl row.2 })
      (λ e. absurd (omega (arith, row.2, ap (state table) e))) b range.0
      (omega (arith, range.1, granules_enough (size table i)))
      (ap (λ y. has_byte y b) row.3 ∙ has_x))

  -- nor does the byte after a live row's last
  after_stray : (i : ℕ) → i < rows table → state table i ≡ live
      → lies_in h.live (granule * start table i + size table i) ≡ false
  after_stray i below is =
      let own : HeldRow table i = record { below = below; has = inl is } in
      let b : ℕ = granule * start table i + size table i in
      lies_in_not h.live b
      (λ x m has_x.
      let row : RowOf table live x = stands.standing.lives.row x m in
      let range : (granule * start table row.0 ≤ b) × (b < granule * start table row.0 + size table row.0) =
      has_byte_true (block_of table row.0) b (ap (λ y. has_byte y b) row.3 ∙ has_x) in
      elim (ℕ_discrete i row.0) [
        | yes e ↦ omega (arith, range.1, ap (start table) e, ap (size table) e)
        | no differ ↦
            ⊎_elim {C = ⊥}
            (λ left. omega (arith, range.0, granules_enough (size table i), stands.above))
            (λ right. omega (arith, range.1, granules_enough (size table row.0), stands.above))
            (stands.standing.laid.apart i row.0 own (record { below = row.1; has = inl row.2 }) differ)
      ])

  -- of two live rows, in their order
  between_stray : (i j a n b c : ℕ) → i < rows table → state table i ≡ live → ends table i + R ≤ start table j
      → a ≤ b → b < granule * start table i + size table i → granule * start table j ≤ c → c < a + n
      → Stray h.live a n (granule * start table i + size table i)
  between_stray i j a n b c below is left from in_first from_Second upto = record {
    from = omega arith;
    below = omega (arith, granules_enough (size table i), stands.above);
    nowhere = after_stray i below is;
  }

  two_rows : (i j a n b c : ℕ) → HeldRow table i → HeldRow table j → i ≢ j → a ≤ b → b < a + n
      → has_byte (block_of table i) b ≡ true
      → a ≤ c → c < a + n → has_byte (block_of table j) c ≡ true → (s : ℕ) × Stray h.live a n s
  two_rows i j a n b c hi hj differ from_b below_b has_b from_c below_c has_c =
      let range : (granule * start table i ≤ b) × (b < granule * start table i + size table i) =
      has_byte_true (block_of table i) b has_b in
      let range' : (granule * start table j ≤ c) × (c < granule * start table j + size table j) =
      has_byte_true (block_of table j) c has_c in
      ⊎_elim
      (λ live_i.
      ⊎_elim
      (λ live_j.
      ⊎_elim
      (λ left. (
        granule * start table i + size table i,
        between_stray i j a n b c hi.below live_i left from_b range.1 range'.0 below_c,
      ))
      (λ right. (
        granule * start table j + size table j,
        between_stray j i a n c b hj.below live_j right from_c range'.1 range.0 below_b,
      ))
      (stands.standing.laid.apart i j hi hj differ))
      (λ is. (c, record { from = from_c; below = below_c; nowhere = quarantined_stray j hj.below is c has_c }))
      hj.has)
      (λ is. (b, record { from = from_b; below = below_b; nowhere = quarantined_stray i hi.below is b has_b }))
      hi.has

pub two_blocks : TwoBlocks
two_blocks r before x line a n touches y z in_y in_z differ b c from_b below_b has_b from_c below_c has_c =
    let m : Moment (HoldsOf r) (history r before) x = line_moment r before x line in
    let table : List ℕ = m.st.pool.table in
    let first : (i : ℕ) × HeldRow table i × (block_of table i ≡ y) = held_row m.holds.stands y in_y in
    let second : (j : ℕ) × HeldRow table j × (block_of table j ≡ z) = held_row m.holds.stands z in_z in
    (reported r before x line a n touches).reported.1
    (two_rows m.holds.stands first.0 second.0 a n b c first.1 second.1
    (λ e. differ (sym first.2 ∙ ap (block_of table) e ∙ second.2)) from_b below_b
    (ap (λ w. has_byte w b) first.2 ∙ has_b) from_c below_c
    (ap (λ w. has_byte w c) second.2 ∙ has_c))

-- ---- a released block

-- once a block is released, no other live block has a byte of it
others_stray : {S R Q : ℕ} {shadow table : List ℕ} {h : History} → Stands S R Q shadow table h
    → (y : Block) → y ∈ h.live → (b : ℕ) → has_byte y b ≡ true → lies_in (others y.address h.live) b ≡ false
others_stray {table = table} {h = h} stands y in_y b has_b =
    let row : RowOf table live y = stands.standing.lives.row y in_y in
    let range : (granule * start table row.0 ≤ b) × (b < granule * start table row.0 + size table row.0) =
    has_byte_true (block_of table row.0) b (ap (λ w. has_byte w b) row.3 ∙ has_b) in
    lies_in_not (others y.address h.live) b
    (λ z in_z has_z.
    let other : (z ∈ h.live) × (z.address ≢ y.address) = others_of y.address h.live z in_z in
    let row' : RowOf table live z = stands.standing.lives.row z other.0 in
    one_row stands row.0 row'.0 (record { below = row.1; has = inl row.2 })
    (record { below = row'.1; has = inl row'.2 })
    (λ e.
    other.1
    (ap (λ w. w.address) (sym row'.3) ∙ ap (λ k. granule * start table k) (sym e)
    ∙ ap (λ w. w.address) row.3)) b
    range.0 (omega (arith, range.1, granules_enough (size table row.0)))
    (ap (λ w. has_byte w b) row'.3 ∙ has_z))

-- nor has what the line that releases it grants: it keeps clear of what is held then
module _ (r : Replay) (before : List Exchange) (gone : Exchange) (line : Line r before gone) (y : Block)
    (in_y : y ∈ live_at r before) (b : ℕ) (has_b : has_byte y b ≡ true) where
  others_left : lies_in (others y.address (live_at r before)) b ≡ false
  others_left = others_stray (line_moment r before gone line).holds.stands y in_y b has_b

  granted_apart : (w : Block) → Granted w ∈ events gone → has_byte w b ≡ false
  unfolding held
  granted_apart w in_w =
      let g : DidGrant gone w = granted_by gone w in_w in
      let p = (placement r before gone line).lowest g.status_is g.size g.sought in
      let in_held : y ∈ held_at r before = Memᴰ.append_left (quarantine_at r before) in_y in
      by_test (has_byte w b)
      (λ has_w.
      absurd
      (true≢false
      (sym has_b
      ∙ apart_bytes (session r).redzone (block (granule * p.place) g.size) y (p.room.apart y in_held) b
      (ap (λ z. has_byte z b) (sym (p.only w in_w)) ∙ has_w))))
      (λ not. not)

  released_stray : Released y.address ∈ events gone → lies_in (heard (history r before) gone).live b ≡ false
  unfolding heard happen happens
  released_stray is_released =
      let h : History = history r before in
      let m : Moment (HoldsOf r) h gone = line_moment r before gone line in
      let value : ℕ = (in_numbers (act_line watcher m.st).answer).value in
      let by : ((seeks gone).block ≡ Some y.address) × (status_of gone ≡ Some 0) =
      released_by gone y.address is_released in
      let done : events gone ≡ did (seeks gone) value = events_done gone value by.1 m.value_is in
      by_found (seeks gone).room
      (λ s room.
      let both : events gone ≡ Granted (block value s) ∷ Released y.address ∷ [] =
      done ∙ did_both (seeks gone) value s y.address room by.0 in
      let apart : has_byte (block value s) b ≡ false =
      granted_apart (block value s) (subst (λ es. Granted (block value s) ∈ es) (sym both) (Memᴰ.head refl)) in
      ap (λ es. lies_in (happen h es).live b) both
      ∙ lies_in_not (others y.address (block value s ∷ h.live)) b
      (λ z in_z has_z.
      let other : (z ∈ (block value s ∷ h.live)) × (z.address ≢ y.address) =
      others_of y.address (block value s ∷ h.live) z in_z in
      ⊎_elim {C = ⊥}
      (λ e. true≢false (sym has_z ∙ ap (λ w. has_byte w b) e ∙ apart))
      (λ later.
      true≢false
      (sym (lies_in_is (others y.address h.live) b z (others_in y.address h.live z later other.1) has_z)
      ∙ others_left))
      (Memᴰ.cases_cons other.0)))
      (λ no_room.
      ap (λ es. lies_in (happen h es).live b) (done ∙ did_alone (seeks gone) value y.address no_room by.0)
      ∙ others_left)

pub until_granted : UntilGranted
unfolding history heard_all
until_granted r before between gone x line y in_y is_released b has_b not_granted a n touches from below =
    let before_gone : Line r before gone = record {
      after = between ++ (x ∷ line.after);
      is = line.is ∙ append_assoc before (gone ∷ between) (x ∷ line.after);
    } in
    let left : lies_in (heard (history r before) gone).live b ≡ false =
    released_stray r before gone before_gone y in_y b has_b is_released in
    let stray : lies_in (live_at r (before ++ (gone ∷ between))) b ≡ false =
    ap (λ g. lies_in g.live b) (heard_append r.earlier before (gone ∷ between))
    ∙ heard_stray b between (heard (history r before) gone) left
    (λ z m w in_w has_w. not_granted z m (w, in_w, has_w)) in
    (reported r (before ++ (gone ∷ between)) x line a n touches).reported.1
    (b, record { from = from; below = below; nowhere = stray })
