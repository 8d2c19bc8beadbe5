-- Demand 3, history: a read or write is reported exactly when it touches a byte in no block granted and not yet
-- released.
use Rattle.std.specs.Prelude.{ℕ, ◌+◌, ◌*◌, ◌≤◌, ◌<◌, ◌%◌, ◌≡◌, ◌≢◌, ◌↔◌, ◌⊎◌, true, false, List, ◌∷◌, ◌++◌}
use Rattle.std.specs.Prelude.{Some, Ok}
use Rattle.rules.specs.declared.Frame.TheVariants.{Read, Write}
use Rattle.rules.specs.Limits.{granule}
use Rattle.promises.specs.History.{Exchange, asks, status_of, kind_of, value_of, Block, has_byte, lies_in}
use Rattle.promises.specs.History.{Granted, Released, events}
use Rattle.promises.specs.Replay.{Replay, session, Line, live_at, quarantine_at, held_at, happened}
use Rattle.promises.specs.Rows.{◌∈◌, past}

-- the line reads or writes n bytes at a
abbrev pub Touches : Exchange → ℕ → ℕ → Type 0
Touches x a n = (asks x ≡ Ok (Read a n)) ⊎ (asks x ≡ Ok (Write a n))

-- b is one of the n bytes at a, and lies in none of the blocks
pub record Stray (blocks : List Block) (a n b : ℕ) : Type 0 where
  pub from : a ≤ b
  pub below : b < a + n
  pub nowhere : lies_in blocks b ≡ false

-- answered 09 exactly when one of its bytes lies in none of the blocks, and else 00 with the value 0
pub record ReportedBy (blocks : List Block) (a n : ℕ) (x : Exchange) : Type 0 where
  pub reported : (status_of x ≡ Some 9) ↔ ((b : ℕ) × Stray blocks a n b)
  pub passed : (status_of x ≡ Some 0) ↔ (((b : ℕ) × Stray blocks a n b) → ⊥)
  pub passed_value : status_of x ≡ Some 0 → value_of x ≡ Some 0

-- of every line, by the blocks granted and not yet released by the lines before
abbrev pub Reported : Type 0
Reported = (r : Replay) (before : List Exchange) (x : Exchange) → Line r before x → (a n : ℕ) → Touches x a n
    → ReportedBy (live_at r before) a n x

-- the value is the least such byte
pub record First (blocks : List Block) (a n : ℕ) (x : Exchange) : Type 0 where
  pub byte : ℕ
  pub value : value_of x ≡ Some byte
  pub stray : Stray blocks a n byte
  pub least : (c : ℕ) → Stray blocks a n c → byte ≤ c

abbrev pub FirstBadByte : Type 0
FirstBadByte = (r : Replay) (before : List Exchange) (x : Exchange) → Line r before x → (a n : ℕ) → Touches x a n
    → status_of x ≡ Some 9 → First (live_at r before) a n x

-- the kind of a bad byte, by where it lies: ff outside the arena, fd in the granules of a quarantined block, the bytes
-- of a live block's last granule where it is past that block's last byte, and fa everywhere else
pub record KindBy (S : ℕ) (live quarantine : List Block) (b k : ℕ) : Type 0 where
  pub outside : granule * S ≤ b → k ≡ 0xff
  pub released : (y : Block) → y ∈ quarantine → y.address ≤ b → b < past y → k ≡ 0xfd
  pub past_the_end : (y : Block) → y ∈ live → y.address ≤ b → b < past y → k ≡ y.size % granule
  pub elsewhere : b < granule * S → ((y : Block) → y ∈ live ++ quarantine → (b < y.address) ⊎ (past y ≤ b)) → k ≡ 0xfa

abbrev pub Kinds : Type 0
Kinds = (r : Replay) (before : List Exchange) (x : Exchange) → Line r before x → (a n : ℕ) → Touches x a n
    → status_of x ≡ Some 9 → (b : ℕ) → value_of x ≡ Some b
    → (k : ℕ) × (kind_of x ≡ Some k) × KindBy (session r).granules (live_at r before) (quarantine_at r before) b k

-- bytes outside the arena lie in no block
abbrev pub OutsideNowhere : Type 0
OutsideNowhere = (r : Replay) (b : ℕ) → granule * (session r).granules ≤ b → lies_in (happened r).live b ≡ false

-- an access that touches bytes of two different held blocks is always reported
abbrev pub TwoBlocks : Type 0
TwoBlocks = (r : Replay) (before : List Exchange) (x : Exchange) → Line r before x → (a n : ℕ) → Touches x a n
    → (y z : Block) → y ∈ held_at r before → z ∈ held_at r before → y ≢ z
    → (b c : ℕ) → a ≤ b → b < a + n → has_byte y b ≡ true → a ≤ c → c < a + n → has_byte z c ≡ true
    → status_of x ≡ Some 9

-- the line grants byte b
abbrev pub Grants : Exchange → ℕ → Type 0
Grants x b = (y : Block) × (Granted y ∈ events x) × (has_byte y b ≡ true)

-- a released block's bytes are reported from its release until a later line grants them
abbrev pub UntilGranted : Type 0
UntilGranted = (r : Replay) (before between : List Exchange) (gone x : Exchange) → Line r (before ++ (gone ∷ between)) x
    → (y : Block) → y ∈ live_at r before → Released y.address ∈ events gone
    → (b : ℕ) → has_byte y b ≡ true → ((z : Exchange) → z ∈ between → Grants z b → ⊥)
    → (a n : ℕ) → Touches x a n → a ≤ b → b < a + n → status_of x ≡ Some 9
