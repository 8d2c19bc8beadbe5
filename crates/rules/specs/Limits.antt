-- What the watcher holds: the paper's limits and magic bytes, each under one name; and one mark of our own, for no
-- digit.
use Rattle.std.specs.Prelude.{ℕ, suc, ◌+◌, ◌≡◌, refl, Bool, ◌&&◌, List, [], ◌∷◌, leb}
use Rattle.rules.specs.declared.Reply.{Reply}
use Rattle.rules.specs.declared.Fields.{Fields}
use Rattle.rules.specs.declared.limits.Limits.{Limits}
use Rattle.rules.specs.Field.{Field, field, start_of, digits_of}

-- n is from low to high, both counted in
abbrev pub between : ℕ → ℕ → ℕ → Bool
between low high n = leb low n && leb n high

-- a granule is 8 bytes at a multiple of 8
abbrev pub granule : ℕ
granule = 8

-- S: the granules of the arena, and the bytes of its shadow
abbrev pub least_granules : ℕ
least_granules = 8

abbrev pub most_granules : ℕ
most_granules = 65_536

-- the rows of the table
abbrev pub least_rows : ℕ
least_rows = 1

abbrev pub most_rows : ℕ
most_rows = 1_024

-- the columns of the table, in the paper's order: start granule, size in bytes, state, turn; and the numbers in a row
abbrev pub start_column : ℕ
start_column = 0

abbrev pub size_column : ℕ
size_column = 1

abbrev pub state_column : ℕ
state_column = 2

abbrev pub turn_column : ℕ
turn_column = 3

abbrev pub row_numbers : ℕ
row_numbers = 4

-- R, in granules
abbrev pub least_redzone : ℕ
least_redzone = 2

abbrev pub most_redzone : ℕ
most_redzone = 256

-- a frame's fields: kind (2), A (8), B (8)
abbrev pub frame_fields : List (Field Fields)
frame_fields = field 2 (λ fields. fields.kind) ∷ field 8 (λ fields. fields.a) ∷ field 8 (λ fields. fields.b) ∷ []

-- where each stands among them
abbrev pub frame_kind : ℕ
frame_kind = 0

abbrev pub frame_A : ℕ
frame_A = 1

abbrev pub frame_B : ℕ
frame_B = 2

-- a frame is 18 hex digits and a line feed; 19 stands for an unfinished line of 19 bytes or more
abbrev pub frame_digits : ℕ
frame_digits = 18

-- which are its fields'; a numeral, since a computed fact counts it at each byte
pub frame_digits_are : frame_digits ≡ digits_of frame_fields
frame_digits_are = refl

abbrev pub too_long : ℕ
too_long = 19

abbrev pub line_feed : ℕ
line_feed = 0x0a

-- what stands for the value of a byte that is no hex digit
abbrev pub no_digit : ℕ
no_digit = 16

-- an answer's fields: status (2), kind (2), value (8)
abbrev pub answer_fields : List (Field Reply)
answer_fields = field 2 (λ reply. reply.status) ∷ field 2 (λ reply. reply.kind) ∷ field 8 (λ reply. reply.value) ∷ []

-- where each stands among them
abbrev pub answer_status : ℕ
answer_status = 0

abbrev pub answer_kind : ℕ
answer_kind = 1

abbrev pub answer_value : ℕ
answer_value = 2

-- an answer is 13 bytes, its line feed included
abbrev pub answer_bytes : ℕ
answer_bytes = digits_of answer_fields + 1

-- a row's state
abbrev pub empty : ℕ
empty = 0

abbrev pub live : ℕ
live = 1

abbrev pub quarantined : ℕ
quarantined = 2

-- the frame kinds
abbrev pub kind_grant : ℕ
kind_grant = 0x01

abbrev pub kind_release : ℕ
kind_release = 0x02

abbrev pub kind_read : ℕ
kind_read = 0x03

abbrev pub kind_write : ℕ
kind_write = 0x04

-- shadow bytes: redzone or room not held; released and quarantined
abbrev pub redzone_byte : ℕ
redzone_byte = 0xfa

abbrev pub released_byte : ℕ
released_byte = 0xfd

-- the kind of a byte that is outside the arena
abbrev pub outside : ℕ
outside = 0xff

-- the same, as the code has them
abbrev pub paper_limits : Limits
paper_limits = record {
  granule = granule;
  least_granules = least_granules;
  most_granules = most_granules;
  least_rows = least_rows;
  most_rows = most_rows;
  start_column = start_column;
  size_column = size_column;
  state_column = state_column;
  turn_column = turn_column;
  row_numbers = row_numbers;
  least_redzone = least_redzone;
  most_redzone = most_redzone;
  frame_kind_end = start_of frame_fields (suc frame_kind);
  frame_a_end = start_of frame_fields (suc frame_A);
  frame_digits = frame_digits;
  too_long = too_long;
  answer_status_end = start_of answer_fields (suc answer_status);
  answer_kind_end = start_of answer_fields (suc answer_kind);
  answer_value_end = start_of answer_fields (suc answer_value);
  answer_bytes = answer_bytes;
  empty = empty;
  live = live;
  quarantined = quarantined;
  grant = kind_grant;
  release = kind_release;
  read = kind_read;
  write = kind_write;
  redzone_byte = redzone_byte;
  released_byte = released_byte;
  outside = outside;
  line_feed = line_feed;
  no_digit = no_digit;
}
