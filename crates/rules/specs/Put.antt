-- Writing into a buffer: what stands in the whole once a list is put at an index.
use Rattle.std.specs.Prelude.{ℕ, ◌+◌, ◌-◌, min, List, ◌++◌, length, take, drop, replicate}

-- `part` in the place of as many numbers of `whole`, from index `at` on
unfoldable pub put : List ℕ → ℕ → List ℕ → List ℕ
put whole at part = take at whole ++ (part ++ drop (at + length part) whole)

-- n times v from index `at` on, at those places that exist
unfoldable pub fill : List ℕ → ℕ → ℕ → ℕ → List ℕ
fill whole at n v = put whole at (replicate (min n (length whole - at)) v)
