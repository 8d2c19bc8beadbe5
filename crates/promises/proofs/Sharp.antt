-- That the promises are sharp: a redzone of R + 1, a quarantine of Q + 1, a block of just Q that leaves, released room
-- that is never granted again or is reported even then, every access reported, none reported, a longer report and 12
-- bytes of room are each more than holds. A replay of a few lines shows it, by computing. Assumes nothing.
use Prim.Native.Nat.{ℕ, ◌+◌, ◌≤◌, ◌<◌}
use Prim.Native.String.{String}
use native.Mathlib.Omega.{arith}
use mathlib.Core.Path.{◌≡◌, refl, ap, subst}
use mathlib.Core.Logic.{inl, ⊎_elim}
use mathlib.Core.Bool.{true, false, true≢false}
use mathlib.Core.List.Memᴰ
use mathlib.Core.List.{List, [], ◌∷◌, ◌++◌}
use lib.ListN.{length, replicate}
use Rattle.std.specs.Prelude.{Option, Some}
use Rattle.std.proofs.lemmas.Option.{same_Some}
use Rattle.rules.specs.declared.Session.{Session}
use Rattle.rules.specs.Limits.{line_feed}
use Rattle.rules.specs.Release.{in_quarantine, weight, Pool}
use Rattle.rules.specs.Feed.{State, run}
use Rattle.rules.specs.Watcher.{watcher}
use Rattle.rules.specs.Calls.{fresh, fits_lent, feed}
use Rattle.rules.specs.Night.{bytes, text, by_the_rules}
use Rattle.promises.specs.History.{Exchange, status_of, Block, block, has_byte, Granted, Released, events}
use Rattle.promises.specs.History.{History, nothing_yet, latest}
use Rattle.promises.specs.Night.{by_its_events}
use Rattle.promises.specs.Agreement.{SeparatedIn, QuarantinedIn}
use Rattle.promises.specs.Replay.{Replay, session, ran, log, Line, history, live_at, happened, Opening, opened}
use Rattle.promises.specs.Rows.{past, ◌∈◌}
use Rattle.promises.specs.Cutting.{Call, chain}
use Rattle.promises.specs.Accesses.{Touches}
use Rattle.promises.proofs.Beginning.{openings}

-- an opening with S = 16, R = 2, Q = 16 and 4 rows, and a text from it
abbrev opening : Opening
unfolding by_the_rules
opening = record { shadow = replicate 16 0; table = replicate 16 0; redzone = 2; quarantine = 16; accepted = refl }

abbrev replay : List ℕ → Replay
replay lines = record { begun = opened opening; earlier = nothing_yet; begins = openings opening; text = lines }

-- every definition that a replay goes through
by_replaying : Replay → History
unfolding by_the_rules by_its_events opened ran log history
by_replaying = happened

-- a line and its answer
abbrev exchange : String → String → Exchange
exchange line answer = record { line = bytes line; answer = bytes answer }

-- ---- R + 1

-- two blocks of one byte, at granules 2 and 5
abbrev neighbours : Replay
neighbours = replay (text ("010000000100000000" ∷ "010000000100000000" ∷ []))

abbrev neighbours_table : List ℕ
neighbours_table = 2 ∷ 1 ∷ 1 ∷ 0 ∷ 5 ∷ 1 ∷ 1 ∷ 0 ∷ replicate 8 0

neighbours_are : (ran neighbours).state.pool.table ≡ neighbours_table
unfolding by_replaying
neighbours_are = refl

pub redzone_sharp :
    ((r : Replay) → SeparatedIn (session r).granules ((session r).redzone + 1) (ran r).state.pool.table)
    → ⊥
unfolding by_replaying past
redzone_sharp wider =
    let separated : SeparatedIn 16 3 neighbours_table = subst (SeparatedIn 16 3) neighbours_are (wider neighbours) in
    ⊎_elim {C = ⊥} (λ left. omega arith) (λ right. omega arith)
    (separated.apart 0 1
    (record { below = omega arith; has = inl refl })
    (record { below = omega arith; has = inl refl })
    (λ e. omega arith))

-- ---- Q + 1

-- 9 bytes are released, then 8: 17 together
abbrev seventeen : Replay
seventeen =
    replay (text ("010000000900000000" ∷ "010000000800000000" ∷ "020000001000000000" ∷ "020000003000000000" ∷ []))

seventeen_left : in_quarantine (ran seventeen).state.pool.table ≡ 1
unfolding by_replaying
seventeen_left = refl

seventeen_run : latest 2 17 (happened seventeen).released ≡ block 0x30 8 ∷ block 0x10 9 ∷ []
unfolding by_replaying latest
seventeen_run = refl

pub quarantine_sharp :
    ((r : Replay)
    → QuarantinedIn (session r).redzone (ran r).state.pool.table
    (latest (session r).redzone ((session r).quarantine + 1) (happened r).released)) → ⊥
unfolding by_replaying
quarantine_sharp larger =
    let count : in_quarantine (ran seventeen).state.pool.table ≡ length
    (latest 2 17 (happened seventeen).released) =
    (larger seventeen).count in
    omega (arith, seventeen_left, ap length seventeen_run)

-- a block of just Q is released, and stays
abbrev sixteen : Replay
sixteen = replay (text ("010000001000000000" ∷ "020000001000000000" ∷ []))

sixteen_left : in_quarantine (ran sixteen).state.pool.table ≡ 1
unfolding by_replaying
sixteen_left = refl

sixteen_released : (happened sixteen).released ≡ block 0x10 16 ∷ []
unfolding by_replaying
sixteen_released = refl

pub heavier_sharp :
    ((r : Replay) (y : Block) (earlier : List Block) → (happened r).released ≡ y ∷ earlier
    → (session r).quarantine ≤ weight (session r).redzone y.size
    → in_quarantine (ran r).state.pool.table ≡ 0) → ⊥
unfolding by_replaying
heavier_sharp sooner = omega (arith, sooner sixteen (block 0x10 16) [] sixteen_released (omega arith), sixteen_left)

-- ---- granted again

-- a block of 17 bytes leaves the quarantine at once, and the next grant goes there; then it is read
abbrev again : Replay
again = replay (text ("010000001100000000" ∷ "020000001000000000" ∷ "010000001100000000" ∷ "030000001000000001" ∷ []))

abbrev grants_17 : Exchange
grants_17 = exchange "010000001100000000" "000000000010"

abbrev releases_17 : Exchange
releases_17 = exchange "020000001000000000" "000000000001"

abbrev read_17 : Exchange
read_17 = exchange "030000001000000001" "000000000000"

again_is : log again ≡ grants_17 ∷ releases_17 ∷ grants_17 ∷ read_17 ∷ []
unfolding by_replaying
again_is = refl

pub granted_again_sharp :
    ((r : Replay) (before : List Exchange) (x : Exchange) → Line r before x → (y : Block) → Granted y ∈ events x
    → (z : Block) → z ∈ (history r before).released → (b : ℕ) → has_byte y b ≡ true → has_byte z b ≡ false) → ⊥
unfolding by_replaying has_byte
granted_again_sharp never =
    let line : Line again (grants_17 ∷ releases_17 ∷ []) grants_17 = record { after = read_17 ∷ []; is = again_is } in
    true≢false
    (never again (grants_17 ∷ releases_17 ∷ []) grants_17 line (block 0x10 17) (Memᴰ.head refl)
    (block 0x10 17) (Memᴰ.head refl) 0x10 refl)

-- and a read of it is good then
pub until_granted_sharp :
    ((r : Replay) (before between : List Exchange) (gone x : Exchange) → Line r (before ++ (gone ∷ between)) x
    → (y : Block) → y ∈ live_at r before → Released y.address ∈ events gone → (b : ℕ) → has_byte y b ≡ true
    → (a n : ℕ) → Touches x a n → a ≤ b → b < a + n → status_of x ≡ Some 9) → ⊥
unfolding by_replaying has_byte
until_granted_sharp always =
    let line : Line again (grants_17 ∷ releases_17 ∷ grants_17 ∷ []) read_17 = record { after = []; is = again_is } in
    let says : ◌≡◌ {A = Option ℕ} (Some 0) (Some 9) =
    always again (grants_17 ∷ []) (grants_17 ∷ []) releases_17 read_17 line (block 0x10 17) (Memᴰ.head refl)
    (Memᴰ.head refl)
    0x10 refl 0x10 1 (inl refl) (omega arith) (omega arith) in
    omega (arith, same_Some 0 9 says)

-- ---- good and bad

-- a block of one byte at 10, a read of it, and a read of the byte after it
abbrev two_reads : Replay
two_reads = replay (text ("010000000100000000" ∷ "030000001000000001" ∷ "030000001100000001" ∷ []))

abbrev granted_one : Exchange
granted_one = exchange "010000000100000000" "000000000010"

abbrev read_it : Exchange
read_it = exchange "030000001000000001" "000000000000"

abbrev read_after : Exchange
read_after = exchange "030000001100000001" "090100000011"

two_reads_are : log two_reads ≡ granted_one ∷ read_it ∷ read_after ∷ []
unfolding by_replaying
two_reads_are = refl

-- neither is every access reported, nor is none
pub reported_sharp :
    ((r : Replay) (before : List Exchange) (x : Exchange) → Line r before x
    → (a n : ℕ) → Touches x a n → status_of x ≡ Some 9) → ⊥
unfolding by_replaying
reported_sharp always =
    let line : Line two_reads (granted_one ∷ []) read_it = record { after = read_after ∷ []; is = two_reads_are } in
    let says : ◌≡◌ {A = Option ℕ} (Some 0) (Some 9) =
    always two_reads (granted_one ∷ []) read_it line 0x10 1 (inl refl) in
    omega (arith, same_Some 0 9 says)

pub passed_sharp :
    ((r : Replay) (before : List Exchange) (x : Exchange) → Line r before x
    → (a n : ℕ) → Touches x a n → status_of x ≡ Some 0) → ⊥
unfolding by_replaying
passed_sharp always =
    let line : Line two_reads (granted_one ∷ read_it ∷ []) read_after = record { after = []; is = two_reads_are } in
    let says : ◌≡◌ {A = Option ℕ} (Some 9) (Some 0) =
    always two_reads (granted_one ∷ read_it ∷ []) read_after line 0x11 1 (inl refl) in
    omega (arith, same_Some 9 0 says)

-- ---- a longer report, and 12 bytes of room

pub cutting_sharp :
    ((st : State Pool) (left : List ℕ) (calls : List Call) → (chain watcher st left calls).left ≡ []
    → (chain watcher st left calls).ran ≡ run watcher st (left ++ (line_feed ∷ []))) → ⊥
unfolding by_the_rules chain
cutting_sharp longer =
    let same : ◌≡◌ {A = ℕ} 0 13 = ap (λ r. length r.report) (longer (opened opening) [] [] refl) in
    omega arith

pub room_sharp :
    ((session : Session) (shadow table piece room : List ℕ) → fits_lent session shadow table ≡ true
    → 0 < length piece → 12 ≤ length room → 0 < (feed session shadow table piece room).given.taken) → ⊥
unfolding by_the_rules
room_sharp less =
    let takes : 0 < 0 =
    less (fresh 16 4 2 16) (replicate 16 0xfa) (replicate 16 0) (line_feed ∷ []) (replicate 12 0) refl (omega arith)
    (omega arith) in
    omega arith
