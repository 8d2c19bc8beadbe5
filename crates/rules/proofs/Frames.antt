-- The laws of frames: when a line is refused 01, 02 or 03, that the fields of a line that is written are read back, and
-- the length of an answer. Assumes nothing.
use Prim.Native.Nat.{ℕ, ◌+◌, ◌^◌, ◌<◌, zero-le}
use native.Mathlib.Decide.{ℕ_discrete}
use native.Mathlib.Omega.{arith}
use mathlib.Core.Path.{◌≡◌, refl, sym, ap, subst, ◌∙◌}
use mathlib.Core.Logic.{◌≢◌}
use mathlib.Core.List.{List, [], ◌∷◌}
use lib.ListN.{length, get_or, length-append}
use borrow.Author.Tests.{ne_eqb}
use Rattle.std.specs.Prelude.{Option, Some, None, Ok, Err}
use Rattle.rules.specs.declared.Refusal.TheVariants.{BadLine, BadKind, NotZero}
use Rattle.rules.specs.Answers.{Answer}
use Rattle.rules.specs.declared.Fields.{Fields}
use Rattle.rules.specs.declared.Frame.{Frame}
use Rattle.rules.specs.declared.Frame.TheVariants.{Grant, Release, Read, Write}
use Rattle.rules.specs.Field.{start_of}
use Rattle.rules.specs.Limits.{frame_fields, frame_kind, frame_A, frame_B, frame_digits, line_feed, answer_fields}
use Rattle.rules.specs.Limits.{answer_bytes, kind_grant, kind_release, kind_read, kind_write}
use Rattle.rules.specs.Hex.{hex_digit, written, read_field}
use Rattle.rules.specs.Answers.{in_numbers}
use Rattle.rules.specs.Frames.{Asked, fields, fields_of_digits, fields_of_line, with_zero, frame, asked, frame_of_line}
use Rattle.rules.specs.Frames.{answer_line}
use Rattle.rules.proofs.Tests.{by_found, by_order, if_false}
use Rattle.rules.proofs.Hex.{length_written, read_back, read_fits, field_none, field_some}

-- ---- what fields ask

-- 02 exactly where the kind is none of 01 to 04
pub frame_grant : (A B : ℕ) → frame (fields kind_grant A B) ≡ with_zero B (Grant A)
unfolding frame
frame_grant A B = refl

pub frame_release : (A B : ℕ) → frame (fields kind_release A B) ≡ with_zero B (Release A)
unfolding frame
frame_release A B = refl

pub frame_read : (A B : ℕ) → frame (fields kind_read A B) ≡ Ok (Read A B)
unfolding frame
frame_read A B = refl

pub frame_write : (A B : ℕ) → frame (fields kind_write A B) ≡ Ok (Write A B)
unfolding frame
frame_write A B = refl

pub frame_other : (kind A B : ℕ) → kind ≢ kind_grant → kind ≢ kind_release → kind ≢ kind_read → kind ≢ kind_write
    → frame (fields kind A B) ≡ Err BadKind
unfolding frame
frame_other kind A B a b c d =
    if_false _ _ (ne_eqb kind kind_grant a)
    ∙ if_false _ _ (ne_eqb kind kind_release b)
    ∙ if_false _ _ (ne_eqb kind kind_read c)
    ∙ if_false _ _ (ne_eqb kind kind_write d)

-- 03 exactly where B is not zero
pub with_zero_is : (frame : Frame) → with_zero 0 frame ≡ Ok frame
unfolding with_zero
with_zero_is frame = refl

pub with_zero_not : (B : ℕ) (frame : Frame) → B ≢ 0 → with_zero B frame ≡ Err NotZero
unfolding with_zero
with_zero_not B frame above = if_false _ _ (ne_eqb B 0 above)

-- by B, and by the kind: what each of the kinds asks, and none of them
pub by_zero {ℓ} : (B : ℕ) (frame : Frame) (P : Asked → Type ℓ) → P (Ok frame) → (B ≢ 0 → P (Err NotZero))
    → P (with_zero B frame)
by_zero B frame P zeroed not_zero =
    elim (ℕ_discrete B 0) [
      | yes e ↦ subst (λ c. P (with_zero c frame)) (sym e) (subst P (sym (with_zero_is frame)) zeroed)
      | no above ↦ subst P (sym (with_zero_not B frame above)) (not_zero above)
    ]

pub by_kind {ℓ} : (kind A B : ℕ) (P : Asked → Type ℓ)
    → (kind ≡ kind_grant → P (with_zero B (Grant A)))
    → (kind ≡ kind_release → P (with_zero B (Release A)))
    → (kind ≡ kind_read → P (Ok (Read A B)))
    → (kind ≡ kind_write → P (Ok (Write A B)))
    → (kind ≢ kind_grant → kind ≢ kind_release → kind ≢ kind_read → kind ≢ kind_write → P (Err BadKind))
    → P (frame (fields kind A B))
by_kind kind A B P grants releases reads writes other =
    elim (ℕ_discrete kind kind_grant) [
      | yes e ↦ is e (frame_grant A B) (grants e)
      | no not_grant ↦
          elim (ℕ_discrete kind kind_release) [
            | yes e ↦ is e (frame_release A B) (releases e)
            | no not_release ↦
                elim (ℕ_discrete kind kind_read) [
                  | yes e ↦ is e (frame_read A B) (reads e)
                  | no not_read ↦
                      elim (ℕ_discrete kind kind_write) [
                        | yes e ↦ is e (frame_write A B) (writes e)
                        | no not_write ↦
                            subst P (sym (frame_other kind A B not_grant not_release not_read not_write))
                            (other not_grant not_release not_read not_write)
                      ]
                ]
          ]
    ]
  where
    is : {k : ℕ} {asked : Asked} → kind ≡ k → frame (fields k A B) ≡ asked → P asked → P (frame (fields kind A B))
    is e asks p = subst (λ k. P (frame (fields k A B))) (sym e) (subst P (sym asks) p)

-- ---- a line

-- a line of fields asks what they ask, and any other is refused 01
pub line_asks : (n : ℕ) (line : List ℕ) (fields : Fields) → fields_of_line n line ≡ Some fields → frame_of_line n line
    ≡ frame fields
unfolding frame_of_line asked
line_asks n line fields e = ap asked e

pub line_refused : (n : ℕ) (line : List ℕ) → fields_of_line n line ≡ None → frame_of_line n line ≡ Err BadLine
unfolding frame_of_line asked
line_refused n line e = ap asked e

-- it has no fields where it is not 18 bytes long
pub fields_length : (n : ℕ) (line : List ℕ) → n ≢ frame_digits → fields_of_line n line ≡ None
unfolding fields_of_line
fields_length n line other = if_false _ _ (ne_eqb n frame_digits other)

pub line_length : (n : ℕ) (line : List ℕ) → n ≢ frame_digits → frame_of_line n line ≡ Err BadLine
line_length n line other = line_refused n line (fields_length n line other)

pub line_whole : (line : List ℕ) → fields_of_line frame_digits line ≡ fields_of_digits line
unfolding fields_of_line
line_whole line = refl

-- the three numbers of a line
pub fields_of_numbers : (line : List ℕ) (kind A B : ℕ) → read_field frame_fields frame_kind line ≡ Some kind
    → read_field frame_fields frame_A line ≡ Some A → read_field frame_fields frame_B line ≡ Some B
    → fields_of_digits line ≡ Some (fields kind A B)
unfolding fields_of_digits
fields_of_numbers line kind A B k a b = rw (k, fields_of_digits) (rw a (rw b))

-- no fields where one of the three is no number
pub bad_kind : (line : List ℕ) → read_field frame_fields frame_kind line ≡ None → fields_of_digits line ≡ None
unfolding fields_of_digits
bad_kind line k = rw (k, fields_of_digits)

pub bad_first : (line : List ℕ) → read_field frame_fields frame_A line ≡ None → fields_of_digits line ≡ None
unfolding fields_of_digits
bad_first line a =
    by_found (read_field frame_fields frame_kind line)
    (λ kind k. rw (k, fields_of_digits) (rw a))
    (λ k. bad_kind line k)

pub bad_second : (line : List ℕ) → read_field frame_fields frame_B line ≡ None → fields_of_digits line ≡ None
unfolding fields_of_digits
bad_second line b =
    by_found (read_field frame_fields frame_kind line)
    (λ kind k.
    by_found (read_field frame_fields frame_A line)
    (λ A a. rw (k, fields_of_digits) (rw a (rw b)))
    (λ a. bad_first line a))
    (λ k. bad_kind line k)

-- by the fields of a line, whatever its bytes: each fits its digits
pub by_fields {ℓ} : (P : Option Fields → Type ℓ) → P None
    → ((kind A B : ℕ) → kind < 16 ^ 2 → A < 16 ^ 8 → B < 16 ^ 8 → P (Some (fields kind A B)))
    → (n : ℕ) (line : List ℕ) → P (fields_of_line n line)
by_fields P not_digits said n line =
    elim (ℕ_discrete n frame_digits) [
      | no other ↦ subst P (sym (fields_length n line other)) not_digits
      | yes whole ↦ subst (λ m. P (fields_of_line m line)) (sym whole) (subst P (sym (line_whole line)) numbers)
    ]
  where
    numbers : P (fields_of_digits line)
    numbers =
        by_found (read_field frame_fields frame_kind line)
        (λ kind k.
        by_found (read_field frame_fields frame_A line)
        (λ A a.
        by_found (read_field frame_fields frame_B line)
        (λ B b.
        subst P (sym (fields_of_numbers line kind A B k a b))
        (said kind A B
        (read_fits frame_fields frame_kind line kind k)
        (read_fits frame_fields frame_A line A a)
        (read_fits frame_fields frame_B line B b)))
        (λ b. subst P (sym (bad_second line b)) not_digits))
        (λ a. subst P (sym (bad_first line a)) not_digits))
        (λ k. subst P (sym (bad_kind line k)) not_digits)

-- no fields, so 01, where a byte of the 18 is no hex digit
pub line_bad : (line : List ℕ) (k : ℕ) → length line ≡ frame_digits → k < frame_digits → hex_digit (get_or line k 0)
    ≡ None
    → fields_of_digits line ≡ None
line_bad line k whole below e =
    by_order k (start_of frame_fields frame_A)
    (λ kind. bad_kind line (field_none frame_fields frame_kind line k (omega arith) zero-le (omega arith) e))
    (λ past.
    by_order k (start_of frame_fields frame_B)
    (λ first. bad_first line (field_none frame_fields frame_A line k (omega arith) past (omega arith) e))
    (λ second. bad_second line (field_none frame_fields frame_B line k (omega arith) second (omega arith) e)))

-- and only there: 18 hex digits are a kind, A and B
pub line_good : (line : List ℕ) → length line ≡ frame_digits
    → ((k : ℕ) → k < frame_digits → hex_digit (get_or line k 0) ≢ None)
    → (kind : ℕ) × (A : ℕ) × (B : ℕ) × (fields_of_digits line ≡ Some (fields kind A B))
line_good line whole all =
    let k : (v : ℕ) × (read_field frame_fields frame_kind line ≡ Some v) =
    field_some frame_fields frame_kind line (omega arith) (λ j from below. all j (omega arith)) in
    let a : (v : ℕ) × (read_field frame_fields frame_A line ≡ Some v) =
    field_some frame_fields frame_A line (omega arith) (λ j from below. all j (omega arith)) in
    let b : (v : ℕ) × (read_field frame_fields frame_B line ≡ Some v) =
    field_some frame_fields frame_B line (omega arith) (λ j from below. all j (omega arith)) in
    (k.0, a.0, b.0, fields_of_numbers line k.0 a.0 b.0 k.1 a.1 b.1)

-- fields that are written are read back, where they fit their digits
pub fields_written : (kind A B : ℕ) → kind < 16 ^ 2 → A < 16 ^ 8 → B < 16 ^ 8
    → fields_of_digits (written frame_fields (fields kind A B)) ≡ Some (fields kind A B)
fields_written kind A B in2 in8 in8' =
    let said : Fields = fields kind A B in
    let line : List ℕ = written frame_fields said in
    fields_of_numbers line kind A B
    (read_back frame_fields said frame_kind in2)
    (read_back frame_fields said frame_A in8)
    (read_back frame_fields said frame_B in8')

-- ---- an answer

pub length_answer : (answer : Answer) → length (answer_line answer) ≡ answer_bytes
unfolding answer_line
length_answer answer =
    length-append (written answer_fields (in_numbers answer)) (line_feed ∷ [])
    ∙ ap (λ n. n + 1) (length_written answer_fields (in_numbers answer))
