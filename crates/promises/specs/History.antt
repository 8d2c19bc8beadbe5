-- What lines seek, and what they granted and released: read off the lines of a trace and the lines of its report, and
-- off nothing else.
use Rattle.std.specs.Prelude.{ℕ, ◌+◌, ◌-◌, Bool, true, false, ◌&&◌, ◌||◌, List, [], ◌∷◌, ◌++◌, length, eqb, leb, ltb}
use Rattle.std.specs.Prelude.{Option, Some, None, Err, Ok}
use Rattle.rules.specs.declared.Frame.TheVariants.{Grant, Release, Read, Write}
use Rattle.rules.specs.Limits.{line_feed, answer_fields, answer_status, answer_kind, answer_value}
use Rattle.rules.specs.Grant.{counted}
use Rattle.rules.specs.Release.{weight}
use Rattle.rules.specs.Hex.{read_field}
use Rattle.rules.specs.Frames.{Asked, frame_of_line}

-- ---- lines and their answers

-- the finished lines of a text: what stands before each line feed. `line` is what has been read of the one not yet
-- finished
unfoldable pub lines_on : List ℕ → List ℕ → List (List ℕ)
lines_on line [] = []
lines_on line (b ∷ text) =
    elim (eqb b line_feed) [ true ↦ line ∷ lines_on [] text | false ↦ lines_on (line ++ (b ∷ [])) text ]

unfoldable pub lines : List ℕ → List (List ℕ)
lines = lines_on []

-- a line, and the line of the report that answers it
pub record Exchange : Type 0 where
  pub line : List ℕ
  pub answer : List ℕ

-- the first line with the first answer, the second with the second
unfoldable pub paired : List (List ℕ) → List (List ℕ) → List Exchange
paired [] answers = []
paired (line ∷ lines) [] = []
paired (line ∷ lines) (answer ∷ answers) = record { line = line; answer = answer } ∷ paired lines answers

unfoldable pub exchanges : List ℕ → List ℕ → List Exchange
exchanges text report = paired (lines text) (lines report)

-- what the line asks
unfoldable pub asks : Exchange → Asked
asks x = frame_of_line (length x.line) x.line

-- what the answer says, field by field
unfoldable pub status_of : Exchange → Option ℕ
status_of x = read_field answer_fields answer_status x.answer

unfoldable pub kind_of : Exchange → Option ℕ
kind_of x = read_field answer_fields answer_kind x.answer

unfoldable pub value_of : Exchange → Option ℕ
value_of x = read_field answer_fields answer_value x.answer

-- ---- blocks

-- a block: its first byte, and how many bytes it has
pub record Block : Type 0 where
  pub address : ℕ
  pub size : ℕ

abbrev pub block : ℕ → ℕ → Block
block address size = record { address = address; size = size }

-- byte b is one of its bytes
unfoldable pub has_byte : Block → ℕ → Bool
has_byte x b = leb x.address b && ltb b (x.address + x.size)

-- byte b lies in one of the blocks
unfoldable pub lies_in : List Block → ℕ → Bool
lies_in [] b = false
lies_in (x ∷ blocks) b = has_byte x b || lies_in blocks b

-- the blocks at an address, and the others
unfoldable pub at : ℕ → List Block → List Block
at a [] = []
at a (x ∷ blocks) = elim (eqb x.address a) [ true ↦ x ∷ at a blocks | false ↦ at a blocks ]

unfoldable pub others : ℕ → List Block → List Block
others a [] = []
others a (x ∷ blocks) = elim (eqb x.address a) [ true ↦ others a blocks | false ↦ x ∷ others a blocks ]

-- ---- what a line seeks

-- room for a block of so many bytes, to be granted; and the block at an address, to be released
pub record Sought : Type 0 where
  pub room : Option ℕ
  pub block : Option ℕ

abbrev pub nothing_sought : Sought
nothing_sought = record { room = None; block = None }

-- at address 0 there is no block to release
unfoldable pub block_at : ℕ → Option ℕ
block_at a = elim (eqb a 0) [ true ↦ None | false ↦ Some a ]

-- a grant seeks room for as many bytes as it asks for, a release the block at its address; reads, writes and bad lines
-- seek nothing
unfoldable pub sought_by : Asked → Sought
sought_by (Ok (Grant s)) = record { room = Some (counted s); block = None }
sought_by (Ok (Release a)) = record { room = None; block = block_at a }
sought_by (Ok (Read a n)) = nothing_sought
sought_by (Ok (Write a n)) = nothing_sought
sought_by (Err refusal) = nothing_sought

unfoldable pub seeks : Exchange → Sought
seeks x = sought_by (asks x)

-- ---- what a line did

-- a block is granted; the block at an address is released
pub data Event : Type 0 where
  Granted : Block → Event
  Released : ℕ → Event

unfoldable pub grants_at : ℕ → Option ℕ → List Event
grants_at value None = []
grants_at value (Some s) = Granted (block value s) ∷ []

unfoldable pub releases_at : Option ℕ → List Event
releases_at None = []
releases_at (Some a) = Released a ∷ []

-- a line that is done did what it seeks, in this order: where it seeks room, it granted so many bytes at the value
-- answered; where it seeks a block, it released that block
unfoldable pub did : Sought → ℕ → List Event
did sought value = grants_at value sought.room ++ releases_at sought.block

-- only what is answered 00 is done
unfoldable pub events : Exchange → List Event
events x =
    elim (status_of x) [
      | None ↦ []
      | Some status ↦
          elim (eqb status 0) [ false ↦ [] | true ↦ elim (value_of x) [ None ↦ [] | Some value ↦ did (seeks x) value ] ]
    ]

-- ---- the history

-- the blocks granted and not yet released, and the blocks released, the latest first
pub record History : Type 0 where
  pub live : List Block
  pub released : List Block

abbrev pub nothing_yet : History
nothing_yet = record { live = []; released = [] }

unfoldable pub happens : History → Event → History
happens h (Granted x) = record { live = x ∷ h.live; released = h.released }
happens h (Released a) = record { live = others a h.live; released = at a h.live ++ h.released }

unfoldable pub happen : History → List Event → History
happen h [] = h
happen h (event ∷ events) = happen (happens h event) events

-- one line with its answer
unfoldable pub heard : History → Exchange → History
heard h x = happen h (events x)

-- and one line after the other
unfoldable pub heard_all : History → List Exchange → History
heard_all h [] = h
heard_all h (x ∷ log) = heard_all (heard h x) log

-- ---- the quarantine

-- what blocks weigh together
unfoldable pub weigh : ℕ → List Block → ℕ
weigh R [] = 0
weigh R (x ∷ blocks) = weight R x.size + weigh R blocks

-- the longest run of the first blocks whose weights sum to at most Q: of releases, the latest first, that is the
-- quarantine
unfoldable pub latest : ℕ → ℕ → List Block → List Block
latest R Q [] = []
latest R Q (x ∷ blocks) =
    elim (leb (weight R x.size) Q) [ true ↦ x ∷ latest R (Q - weight R x.size) blocks | false ↦ [] ]

-- what is held: live or quarantined
unfoldable pub held : ℕ → ℕ → History → List Block
held R Q h = h.live ++ latest R Q h.released
