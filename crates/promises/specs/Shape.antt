-- What the table and the shadow are after every text.
use Rattle.std.specs.Prelude.{ℕ, ◌<◌, ◌≡◌, ◌⊎◌, true, List, length, get_or}
use Rattle.rules.specs.Limits.{granule}
use Rattle.rules.specs.Shadow.{negative, addressable}
use Rattle.promises.specs.History.{Block, lies_in}
use Rattle.promises.specs.Agreement.{ShapedAs, RowsAre}
use Rattle.promises.specs.Replay.{Replay, session, ran, log, live_at, quarantine_at, happened}

abbrev pub Shape : Type 0
Shape = (r : Replay) → ShapedAs (session r).granules (ran r).state.pool.shadow (ran r).state.pool.table

abbrev pub RowsAreBlocks : Type 0
RowsAreBlocks = (r : Replay) → RowsAre (ran r).state.pool.table (live_at r (log r)) (quarantine_at r (log r))

-- each shadow byte is 0, a first k, or negative; and of all bytes, exactly those of live blocks are addressable
pub record EncodedIn (shadow : List ℕ) (blocks : List Block) : Type 0 where
  pub byte : (g : ℕ) → g < length shadow → (get_or shadow g 0 < granule) ⊎ (negative (get_or shadow g 0) ≡ true)
  pub addressable_is : (b : ℕ) → addressable shadow b ≡ lies_in blocks b

abbrev pub Encoding : Type 0
Encoding = (r : Replay) → EncodedIn (ran r).state.pool.shadow (happened r).live
