-- What a line seeks, and when it is there: of every line, the exact conditions of 07 and 08, then of 05 and 06, in the
-- paper's order, and of 00; and the place of a grant.
use Rattle.std.specs.Prelude.{ℕ, ◌*◌, ◌≤◌, ◌<◌, ◌≡◌, ◌≢◌, ◌↔◌, List, [], ◌++◌, length}
use Rattle.std.specs.Prelude.{Some, Ok}
use Rattle.rules.specs.declared.Frame.TheVariants.{Release}
use Rattle.rules.specs.Limits.{granule}
use Rattle.promises.specs.History.{Exchange, asks, status_of, value_of, Block, block}
use Rattle.promises.specs.History.{Sought, nothing_sought, seeks, Granted, events}
use Rattle.promises.specs.Rows.{◌∈◌, Free, Starts}
use Rattle.promises.specs.Replay.{Replay, session, Line, live_at, quarantine_at, held_at}

-- the block that it seeks, if it seeks one, is live
abbrev pub Theirs : List Block → Sought → Type 0
Theirs live sought = (a : ℕ) → sought.block ≡ Some a → Starts live a

-- 07 exactly when it seeks a block and no held one starts there, 08 exactly when a quarantined one does and no live one
pub record ReleasedBy (live quarantine : List Block) (sought : Sought) (x : Exchange) : Type 0 where
  pub foreign : (status_of x ≡ Some 7) ↔ ((a : ℕ) × (sought.block ≡ Some a) × (Starts (live ++ quarantine) a → ⊥))
  pub twice : (status_of x ≡ Some 8) ↔ ((a : ℕ) × (sought.block ≡ Some a) × Starts quarantine a × (Starts live a → ⊥))

abbrev pub Releases : Type 0
Releases = (r : Replay) (before : List Exchange) (x : Exchange) → Line r before x
    → ReleasedBy (live_at r before) (quarantine_at r before) (seeks x) x

-- s bytes at granule p keep the redzone from all held blocks and both ends
abbrev pub RoomAt : ℕ → ℕ → List Block → ℕ → ℕ → Type 0
RoomAt S R blocks s p = Free S R blocks (block (granule * p) s)

-- the block granted is at the lowest place with such room, and it is the only one
pub record LowestOf (S R : ℕ) (blocks : List Block) (s : ℕ) (x : Exchange) : Type 0 where
  pub place : ℕ
  pub granted : Granted (block (granule * place) s) ∈ events x
  pub only : (y : Block) → Granted y ∈ events x → y ≡ block (granule * place) s
  pub value : value_of x ≡ Some (granule * place)
  pub room : RoomAt S R blocks s place
  pub lowest : (q : ℕ) → RoomAt S R blocks s q → place ≤ q

-- where the block that it seeks, if any, is live: 05 exactly when it seeks room and no row is empty, that is when as
-- many blocks are held as there are rows; 06 exactly when it seeks room, a row is empty and there is no place
pub record PlacedBy (S R rows : ℕ) (live blocks : List Block) (sought : Sought) (x : Exchange) : Type 0 where
  pub no_row : (status_of x ≡ Some 5)
      ↔ (Theirs live sought × ((s : ℕ) × (sought.room ≡ Some s) × (length blocks ≡ rows)))
  pub no_place : (status_of x ≡ Some 6)
      ↔ (Theirs live sought
      × ((s : ℕ) × (sought.room ≡ Some s) × (length blocks < rows) × ((p : ℕ) → RoomAt S R blocks s p → ⊥)))
  pub lowest : status_of x ≡ Some 0 → (s : ℕ) → sought.room ≡ Some s → LowestOf S R blocks s x

abbrev pub Placement : Type 0
Placement = (r : Replay) (before : List Exchange) (x : Exchange) → Line r before x
    → PlacedBy (session r).granules (session r).redzone (session r).rows (live_at r before) (held_at r before)
    (seeks x) x

-- and a line that seeks something is done exactly when all that it seeks is there
abbrev pub DoneBy : ℕ → ℕ → ℕ → List Block → List Block → Sought → Exchange → Type 0
DoneBy S R rows live blocks sought x =
    (status_of x ≡ Some 0)
    ↔ (Theirs live sought
    × ((s : ℕ) → sought.room ≡ Some s → (length blocks < rows) × ((p : ℕ) × RoomAt S R blocks s p)))

abbrev pub AllSought : Type 0
AllSought = (r : Replay) (before : List Exchange) (x : Exchange) → Line r before x → seeks x ≢ nothing_sought
    → DoneBy (session r).granules (session r).redzone (session r).rows (live_at r before) (held_at r before)
    (seeks x) x

-- a release of address 0 seeks nothing: it is done, with the value 0, and nothing happened
pub record NothingBy (x : Exchange) : Type 0 where
  pub done : status_of x ≡ Some 0
  pub value : value_of x ≡ Some 0
  pub none_happened : events x ≡ []

abbrev pub ReleasesNothing : Type 0
ReleasesNothing = (r : Replay) (before : List Exchange) (x : Exchange) → Line r before x
    → asks x ≡ Ok (Release 0) → NothingBy x
