-- The table's rule as the paper says it, by the signed byte: again one test over its 256 entries, which antt computes.
-- Assumes nothing.
use Prim.Native.Nat.{ℕ, ◌<◌}
use mathlib.Core.Path.{◌≡◌, refl, sym, ◌∙◌}
use lib.ListN.{get_or}
use Rattle.rules.specs.Lowest.{lowest}
use Rattle.rules.specs.Shadow.{leading, signed}
use Rattle.rules.proofs.Lowest.{at_entry}
use Rattle.shadow.specs.Signed.{by_sign}
use Rattle.shadow.specs.declared.byte.TheConstants.{LEADING}
use Rattle.shadow.proofs.Table.{entry_leading}

pub entry_signed : (v : ℕ) → v < 256 → get_or LEADING v 0 ≡ by_sign (signed v)
unfolding lowest by_sign signed
entry_signed v below = at_entry LEADING (λ k. by_sign (signed k)) refl v below

-- so the definition's rule is the signed byte's
pub leading_signed : (v : ℕ) → v < 256 → leading v ≡ by_sign (signed v)
leading_signed v below = sym (entry_leading v below) ∙ entry_signed v below
