-- The laws of lines: where a text's lines end, what a line asks, the line of an answer and what it says, and the bytes
-- that an unfinished line stands for. Assumes nothing.
use Prim.Native.Nat.{ℕ, zero, suc, ◌+◌, ◌-◌, ◌/◌, ◌%◌, ◌^◌, ◌≤◌, ◌<◌}
use native.Mathlib.Decide.{ℕ_discrete}
use native.Mathlib.Nat.{le_of_eq, mod-lt}
use native.Mathlib.Omega.{arith}
use mathlib.Core.Path.{◌≡◌, refl, sym, ap, ap₂, subst, ◌∙◌}
use mathlib.Core.Logic.{◌≢◌}
use mathlib.Core.List.{List, [], ◌∷◌, ◌++◌, append_assoc, append-nil}
use lib.ListN.{length, set, replicate, length-append}
use lib.Seq.{append_snoc, set_at}
use borrow.Author.Tests.{ne_eqb}
use Rattle.std.specs.Prelude.{Some, Err, Ok}
use Rattle.std.proofs.lemmas.Option.{none-some}
use Rattle.rules.specs.declared.Refusal.TheVariants.{BadLine, BadKind, NotZero}
use Rattle.rules.specs.declared.Session.{Session}
use Rattle.rules.specs.Answers.{Answer}
use Rattle.rules.specs.declared.Frame.TheVariants.{Grant, Release, Read, Write}
use Rattle.rules.specs.Field.{Field}
use Rattle.rules.specs.Limits.{frame_digits, too_long, line_feed, answer_fields, answer_status, answer_kind}
use Rattle.rules.specs.Limits.{answer_value}
use Rattle.rules.specs.Answers.{in_numbers, status}
use Rattle.rules.specs.Hex.{hex_digit, digit, digits, digits_zero, digits_suc, written, written_nil, written_cons}
use Rattle.rules.specs.Frames.{Asked, fields, frame, asked, frame_of_line, answer_line}
use Rattle.rules.specs.Feed.{no_bytes, lengthened}
use Rattle.rules.proofs.Tests.{by_order, if_false}
use Rattle.rules.proofs.Hex.{hex_digit_digit, no_line_feed, read_back}
use Rattle.rules.proofs.Frames.{line_length, by_zero, by_kind, by_fields}
use Rattle.rules.proofs.Feed.{lengthened_short, lengthened_long}
use Rattle.promises.specs.History.{lines_on, lines, status_of, value_of, kind_of}

-- ---- lines

-- a line feed finishes a line
pub lines_feed : (line text : List ℕ) → lines_on line (line_feed ∷ text) ≡ line ∷ lines_on [] text
unfolding lines_on
lines_feed line text = refl

-- any other byte lengthens it
pub lines_byte : (line : List ℕ) (b : ℕ) (text : List ℕ) → b ≢ line_feed → lines_on line (b ∷ text)
    ≡ lines_on (line ++ (b ∷ [])) text
unfolding lines_on
lines_byte line b text other = if_false _ _ (ne_eqb b line_feed other)

-- a hex digit is no line feed
pub digit_no_feed : (d : ℕ) → d < 16 → digit d ≢ line_feed
digit_no_feed d below e = none-some d (sym (ap hex_digit e ∙ no_line_feed) ∙ hex_digit_digit d below)

-- so digits lengthen a line
lines_digits : (k n : ℕ) (line text : List ℕ) → lines_on line (digits k n ++ text) ≡ lines_on (line ++ digits k n) text
lines_digits zero n line text =
    ap (λ d. lines_on line (d ++ text)) (digits_zero n)
    ∙ ap (λ l. lines_on l text) (sym (append-nil line) ∙ ap (λ d. line ++ d) (sym (digits_zero n)))
lines_digits (suc k) n line text =
    let d : ℕ = digit (n / 16 ^ k % 16) in
    ap (λ ds. lines_on line (ds ++ text)) (digits_suc k n)
    ∙ lines_byte line d (digits k n ++ text) (digit_no_feed (n / 16 ^ k % 16) (mod-lt (n / 16 ^ k) (omega arith)))
    ∙ lines_digits k n (line ++ (d ∷ [])) text
    ∙ ap (λ l. lines_on l text) (append_snoc line d (digits k n) ∙ ap (λ ds. line ++ ds) (sym (digits_suc k n)))

-- and a line of fields does
lines_written : {A : Type 0} (fields : List (Field A)) (a : A) (line text : List ℕ)
    → lines_on line (written fields a ++ text) ≡ lines_on (line ++ written fields a) text
lines_written [] a line text =
    ap (λ w. lines_on line (w ++ text)) (written_nil a)
    ∙ ap (λ l. lines_on l text) (sym (append-nil line) ∙ ap (λ w. line ++ w) (sym (written_nil a)))
lines_written (f ∷ fields) a line text =
    let here : List ℕ = digits f.width (f.number a) in
    ap (λ w. lines_on line (w ++ text)) (written_cons f fields a)
    ∙ ap (lines_on line) (append_assoc here (written fields a) text)
    ∙ lines_digits f.width (f.number a) line (written fields a ++ text)
    ∙ lines_written fields a (line ++ here) text
    ∙ ap (λ l. lines_on l text)
    (append_assoc line here (written fields a) ∙ ap (λ w. line ++ w) (sym (written_cons f fields a)))

-- ---- the line of an answer

-- an answer's digits
abbrev pub answer_digits : Answer → List ℕ
answer_digits answer = written answer_fields (in_numbers answer)

-- an answer is one line of the report
pub lines_answer : (answer : Answer) (text : List ℕ)
    → lines (answer_line answer ++ text) ≡ answer_digits answer ∷ lines text
unfolding lines answer_line
lines_answer answer text =
    ap (lines_on []) (append_assoc (answer_digits answer) (line_feed ∷ []) text)
    ∙ lines_written answer_fields (in_numbers answer) [] (line_feed ∷ text)
    ∙ lines_feed (answer_digits answer) text

-- what it says is read back where it fits the digits
pub status_answered : (line : List ℕ) (answer : Answer) → status answer < 16 ^ 2
    → status_of (record { line = line; answer = answer_digits answer }) ≡ Some (status answer)
unfolding status_of status
status_answered line answer fits = read_back answer_fields (in_numbers answer) answer_status fits

pub kind_answered : (line : List ℕ) (answer : Answer) → (in_numbers answer).kind < 16 ^ 2
    → kind_of (record { line = line; answer = answer_digits answer }) ≡ Some (in_numbers answer).kind
unfolding kind_of
kind_answered line answer fits = read_back answer_fields (in_numbers answer) answer_kind fits

pub value_answered : (line : List ℕ) (answer : Answer) → (in_numbers answer).value < 16 ^ 8
    → value_of (record { line = line; answer = answer_digits answer }) ≡ Some (in_numbers answer).value
unfolding value_of
value_answered line answer fits = read_back answer_fields (in_numbers answer) answer_value fits

-- ---- an unfinished line

-- the session's unfinished line stands for these bytes: 18 at most are kept, with zeros in the places that are left,
-- and of more only that they are more
pub record Spells (session : Session) (bytes : List ℕ) : Type 0 where
  pub count : length bytes ≤ frame_digits → session.unfinished ≡ length bytes
  pub places : length bytes ≤ frame_digits → session.line ≡ bytes ++ replicate (frame_digits - length bytes) 0
  pub more : frame_digits < length bytes → session.unfinished ≡ too_long

-- an empty one for none
pub spells_none : (session : Session) → session.unfinished ≡ 0 → session.line ≡ no_bytes → Spells session []
spells_none session no_bytes_yet empty =
    record { count = λ few. no_bytes_yet; places = λ few. empty; more = λ many. absurd (omega arith) }

-- one byte longer, for one byte more
pub spells_more : {session : Session} {bytes : List ℕ} → Spells session bytes → (b : ℕ)
    → Spells (lengthened session b) (bytes ++ (b ∷ []))
spells_more {session} {bytes} spells b =
    let one_more : length (bytes ++ (b ∷ [])) ≡ length bytes + 1 = length-append bytes (b ∷ []) in
    by_order (length bytes) frame_digits
    (λ short.
    let n : session.unfinished ≡ length bytes = spells.count (omega arith) in
    let left : ℕ = frame_digits - length (bytes ++ (b ∷ [])) in
    let one_less : frame_digits - length bytes ≡ suc left = omega arith in
    let places : set session.line session.unfinished b ≡ bytes ++ (b ∷ []) ++ replicate left 0 =
    ap (λ l. set l session.unfinished b) (spells.places (omega arith) ∙ ap (λ m. bytes ++ replicate m 0) one_less)
    ∙ set_at bytes 0 (replicate left 0) b session.unfinished (sym n)
    ∙ sym (append_snoc bytes b (replicate left 0)) in
    subst (λ s. Spells s (bytes ++ (b ∷ []))) (sym (lengthened_short session b (omega arith)))
    (record { count = λ few. omega arith; places = λ few. places; more = λ many. absurd (omega arith) }))
    (λ long.
    let past : frame_digits ≤ session.unfinished =
    by_order frame_digits (length bytes) (λ many. omega (arith, spells.more many))
    (λ few. omega (arith, spells.count few)) in
    subst (λ s. Spells s (bytes ++ (b ∷ []))) (sym (lengthened_long session b past))
    (record { count = λ few. absurd (omega arith); places = λ few. absurd (omega arith); more = λ many. refl }))

-- it asks what the bytes ask
pub spells_asks : {session : Session} {bytes : List ℕ} → Spells session bytes
    → frame_of_line (length bytes) bytes ≡ frame_of_line session.unfinished session.line
spells_asks {session} {bytes} spells =
    elim (ℕ_discrete (length bytes) frame_digits) [
      | yes whole ↦
          ap₂ frame_of_line (sym (spells.count (le_of_eq whole)))
          (sym
          (spells.places (le_of_eq whole)
          ∙ ap (λ n. bytes ++ replicate (frame_digits - n) 0) whole
          ∙ append-nil bytes))
      | no other ↦
          line_length (length bytes) bytes other
          ∙ sym
          (line_length session.unfinished session.line
          (λ whole.
          by_order frame_digits (length bytes)
          (λ many. omega (arith, spells.more many))
          (λ few. other (sym (spells.count few) ∙ whole))))
    ]

-- ---- what a line asks

-- by what a line asks, whatever its bytes: its numbers have 32 bits
module _ (P : Asked → Type 0) (bad_line : P (Err BadLine)) (no_kind : P (Err BadKind))
    (not_zero : P (Err NotZero))
    (grants : (s : ℕ) → s < 16 ^ 8 → P (Ok (Grant s))) (releases : (a : ℕ) → a < 16 ^ 8 → P (Ok (Release a)))
    (reads : (a n : ℕ) → a < 16 ^ 8 → n < 16 ^ 8 → P (Ok (Read a n)))
    (writes : (a n : ℕ) → a < 16 ^ 8 → n < 16 ^ 8 → P (Ok (Write a n))) where
  by_numbers : (kind A B : ℕ) → A < 16 ^ 8 → B < 16 ^ 8 → P (frame (fields kind A B))
  by_numbers kind A B fits fits' =
      by_kind kind A B P
      (λ e. by_zero B (Grant A) P (grants A fits) (λ above. not_zero))
      (λ e. by_zero B (Release A) P (releases A fits) (λ above. not_zero))
      (λ e. reads A B fits fits')
      (λ e. writes A B fits fits')
      (λ a b c d. no_kind)

  pub by_line : (n : ℕ) (line : List ℕ) → P (frame_of_line n line)
  unfolding frame_of_line asked
  by_line n line =
      by_fields (λ l. P (asked l)) bad_line (λ kind A B in2 fits fits'. by_numbers kind A B fits fits') n line
