-- `hexadecimal::digit_value` meets its contract: the rule of the table is one test over its 256 entries, which antt
-- computes, and `at_entry` carries it to the lookup. Assumes nothing.
use mathlib.Core.Path.{refl}
use borrow.Author.Rules.{rules}
use Rattle.rules.specs.Lowest.{lowest}
use Rattle.rules.specs.Hex.{hex_digit, digit_value}
use Rattle.rules.proofs.Lowest.{at_entry}
use Rattle.hexadecimal.specs.declared.TheConstants.{VALUES}
use Rattle.hexadecimal.proofs.digit_value.Goals as goal

pub returns : goal.returns
unfolding hex_digit digit_value lowest
returns c = at_entry VALUES digit_value refl c.args.byte (search rules)
