-- What a search for a place asks of its redzone and of the granules to be placed: a window that no sum wraps on.
use Rattle.std.specs.Prelude.{ℕ, ◌^◌, ◌≤◌}
use Rattle.rules.specs.Limits.{most_redzone}

pub record Window (R u : ℕ) : Type 0 where
  pub redzone : R ≤ most_redzone
  pub granules : u ≤ 2 ^ 29
