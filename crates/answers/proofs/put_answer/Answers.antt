-- `answers::put_answer` meets its contract: status, kind and value are written one behind the other, each over as many
-- bytes as its digits, and the line feed over the last byte. Assumes nothing.
use Prim.Native.Nat.{ℕ}
use Rattle.std.proofs.Common.{rules}
use mathlib.Core.Path.{◌≡◌, sym, ap, ap₂, ◌∙◌}
use mathlib.Core.List.{List}
use lib.ListN.{length, set}
use Rattle.rules.specs.Answers.{Answer, in_numbers}
use Rattle.rules.specs.declared.Reply.{Reply}
use Rattle.rules.specs.Field.{digits_of}
use Rattle.rules.specs.Limits.{answer_bytes, answer_fields, answer_status, answer_kind, answer_value, line_feed}
use Rattle.rules.specs.Hex.{digits}
use Rattle.rules.specs.Frames.{answer_line}
use Rattle.rules.proofs.Hex.{begun, begun_none, begun_next, begun_all}
use Rattle.rules.proofs.Frames.{length_answer}
use Rattle.answers.proofs.put_answer.Goals as goal

-- the answer's line over the lent bytes
line : (l part : List ℕ) (answer : Answer) → length l ≡ answer_bytes
    → part ≡ begun answer_fields (in_numbers answer) l (length answer_fields)
    → set part (digits_of answer_fields) line_feed ≡ answer_line answer
unfolding answer_line
line l part answer whole all = begun_all answer_fields (in_numbers answer) l part line_feed whole all

pub returns : goal.returns
returns c =
    let numbered : c.numbers_of-reply.result ≡ in_numbers c.args.answer = c.numbers_of-reply.ensures in
    let l : List ℕ = c.args.part.now in
    let reply : Reply = in_numbers c.args.answer in
    line l _ c.args.answer c.requires
    (begun_next answer_fields reply l _ _ answer_value
    (begun_next answer_fields reply l _ _ answer_kind
    (begun_next answer_fields reply l _ _ answer_status (begun_none answer_fields reply l)
    (c.put_digits.ensures
    ∙ ap₂ digits (search rules) (ap (λ r. r.status) numbered)))
    (c.put_digits-2.ensures
    ∙ ap₂ digits (search rules) (ap (λ r. r.kind) numbered)))
    (c.put_digits-3.ensures
    ∙ ap₂ digits (search rules) (ap (λ r. r.value) numbered)))

pub shape_of-part : goal.shape_of-part
shape_of-part c =
    ap length (returns c) ∙ length_answer _ ∙ sym c.requires
