-- Frames in, frames out: a line's fields, what they ask, and an answer's bytes.
use Rattle.std.specs.Prelude.{ℕ, true, false, List, [], ◌∷◌, ◌++◌, eqb}
use Rattle.std.specs.Prelude.{Option, Some, None, Result, Ok, Err}
use Rattle.rules.specs.declared.Refusal.{Refusal}
use Rattle.rules.specs.declared.Refusal.TheVariants.{BadLine, BadKind, NotZero}
use Rattle.rules.specs.declared.Fields.{Fields}
use Rattle.rules.specs.declared.Frame.{Frame}
use Rattle.rules.specs.declared.Frame.TheVariants.{Grant, Release, Read, Write}
use Rattle.rules.specs.Limits.{frame_fields, frame_kind, frame_A, frame_B, frame_digits, line_feed, answer_fields}
use Rattle.rules.specs.Limits.{kind_grant, kind_release, kind_read, kind_write}
use Rattle.rules.specs.Hex.{written, read_field}
use Rattle.rules.specs.Answers.{Answer, in_numbers}

-- ---- frames in: a line is read into fields, and the fields are given their meaning

-- what a line asks, or why it is refused
abbrev pub Asked : Type 0
Asked = Result Frame Refusal

abbrev pub fields : ℕ → ℕ → ℕ → Fields
fields kind A B = record { kind = kind; a = A; b = B }

-- the fields of 18 digits; none where one of them is no hex digit
unfoldable pub fields_of_digits : List ℕ → Option Fields
fields_of_digits line =
    elim (read_field frame_fields frame_kind line) [
      | None ↦ None
      | Some kind ↦
          elim (read_field frame_fields frame_A line) [
            | None ↦ None
            | Some A ↦
                elim (read_field frame_fields frame_B line) [ None ↦ None | Some B ↦ Some (fields kind A B) ]
          ]
    ]

-- the fields of a line of n bytes, whose first 18 are given; none where n is not 18
unfoldable pub fields_of_line : ℕ → List ℕ → Option Fields
fields_of_line n line = elim (eqb n frame_digits) [ true ↦ fields_of_digits line | false ↦ None ]

-- refused 03 where B is not zero
unfoldable pub with_zero : ℕ → Frame → Asked
with_zero B frame = elim (eqb B 0) [ true ↦ Ok frame | false ↦ Err NotZero ]

-- what fields ask, by the frame kinds; refused 02 where the kind is none of them
unfoldable pub frame : Fields → Asked
frame fields =
    elim (eqb fields.kind kind_grant) [
      | true ↦ with_zero fields.b (Grant fields.a)
      | false ↦
          elim (eqb fields.kind kind_release) [
            | true ↦ with_zero fields.b (Release fields.a)
            | false ↦
                elim (eqb fields.kind kind_read) [
                  | true ↦ Ok (Read fields.a fields.b)
                  | false ↦
                      elim (eqb fields.kind kind_write) [
                        | true ↦ Ok (Write fields.a fields.b)
                        | false ↦ Err BadKind
                      ]
                ]
          ]
    ]

-- what a line asks; refused 01 where it is not 18 hex digits
unfoldable pub asked : Option Fields → Asked
asked (Some fields) = frame fields
asked None = Err BadLine

unfoldable pub frame_of_line : ℕ → List ℕ → Asked
frame_of_line n line = asked (fields_of_line n line)

-- ---- frames out

-- the answer's fields, and a line feed
unfoldable pub answer_line : Answer → List ℕ
answer_line answer = written answer_fields (in_numbers answer) ++ (line_feed ∷ [])

-- the line of a frame: its fields, and a line feed
unfoldable pub line_of : Fields → List ℕ
line_of fields = written frame_fields fields ++ (line_feed ∷ [])
