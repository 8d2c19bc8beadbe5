-- What the code's table of leading bytes says of each byte: one test over its 256 entries, which antt computes, carried
-- to each entry by `at_entry`. Assumes nothing.
use Prim.Native.Nat.{ℕ, ◌<◌}
use mathlib.Core.Path.{◌≡◌, refl}
use lib.ListN.{get_or}
use Rattle.rules.specs.Lowest.{lowest}
use Rattle.rules.specs.Shadow.{leading}
use Rattle.rules.proofs.Lowest.{at_entry}
use Rattle.shadow.specs.declared.byte.TheConstants.{LEADING}

pub entry_leading : (v : ℕ) → v < 256 → get_or LEADING v 0 ≡ leading v
unfolding leading lowest
entry_leading v below = at_entry LEADING leading refl v below
