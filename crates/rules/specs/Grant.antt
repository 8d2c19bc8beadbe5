-- Grant of s bytes: its place, what is painted, its row.
use Rattle.std.specs.Prelude.{ℕ, zero, suc, ◌+◌, ◌-◌, ◌*◌, ◌/◌, ◌%◌, ◌≤◌, ◌<◌, max, Bool, List, [], ◌∷◌, ◌++◌, length}
use Rattle.std.specs.Prelude.{replicate}
use Rattle.std.specs.Prelude.{Option, Some, None, Ok, Err}
use Rattle.rules.specs.declared.Refusal.TheVariants.{NoRow, NoPlace}
use Rattle.rules.specs.Answers.{Answer}
use Rattle.rules.specs.declared.Row.{Row}
use Rattle.rules.specs.Limits.{granule, redzone_byte, live}
use Rattle.rules.specs.Lowest.{lowest, all_equal, AllEqual}
use Rattle.rules.specs.Put.{put}
use Rattle.rules.specs.Table.{rows, is_empty, put_row}

-- what a line or a direct call does: its answer, and the shadow and the table after it
pub record Acted : Type 0 where
  pub answer : Answer
  pub shadow : List ℕ
  pub table : List ℕ

abbrev pub acted : Answer → List ℕ → List ℕ → Acted
acted answer shadow table = record { answer = answer; shadow = shadow; table = table }

-- shadow and table as they were
abbrev pub unchanged : Answer → List ℕ → List ℕ → Acted
unchanged = acted

-- s = 0 counts as 1
unfoldable pub counted : ℕ → ℕ
counted s = max s 1

-- u = s / 8 rounded up
unfoldable pub granules : ℕ → ℕ
granules s = (s + 7) / granule

-- every shadow byte from p - R to p + u + R - 1 is fa: given up at the first that is not
unfoldable pub fits : List ℕ → ℕ → ℕ → ℕ → Bool
fits shadow R u p = all_equal shadow redzone_byte (p - R) (R + u + R)

-- the lowest granule p with p at least R, p + u + R at most S, that fits
unfoldable pub place : List ℕ → ℕ → ℕ → Option ℕ
place shadow R u = lowest (fits shadow R u) (length shadow + 1 - (R + u + R)) R

-- every shadow byte from i to e - 1 is fa
abbrev pub AllFree : List ℕ → ℕ → ℕ → Type 0
AllFree shadow i e = AllEqual shadow redzone_byte i e

-- a block of u granules at p keeps R granules of redzone on both sides
pub record Fits (shadow : List ℕ) (R u p : ℕ) : Type 0 where
  pub low : R ≤ p
  pub high : p + u + R ≤ length shadow
  pub free : AllFree shadow (p - R) (p + u + R)

-- p is the lowest place
pub record Place (shadow : List ℕ) (R u p : ℕ) : Type 0 where
  pub fits : Fits shadow R u p
  pub lowest : (q : ℕ) → q < p → Fits shadow R u q → ⊥

-- a remainder goes into the last granule
unfoldable pub last_granule : ℕ → List ℕ
last_granule zero = []
last_granule (suc k) = suc k ∷ []

-- the shadow bytes of a granted block: whole granules 00, and the remainder
unfoldable pub granted : ℕ → List ℕ
granted s = replicate (s / granule) 0 ++ last_granule (s % granule)

-- the lowest empty row
unfoldable pub empty_row : List ℕ → Option ℕ
empty_row table = lowest (is_empty table) (rows table) 0

-- the row of a block of s bytes, granted at granule p
abbrev pub granted_row : ℕ → ℕ → Row
granted_row p s = record { start = p; size = s; state = live; turn = 0 }

-- a grant into row i at granule p
unfoldable pub grant_at : List ℕ → List ℕ → ℕ → ℕ → ℕ → Acted
grant_at shadow table s i p = record {
  answer = Ok (granule * p);
  shadow = put shadow p (granted s);
  table = put_row table i (granted_row p s);
}

-- refused 05 where no row is empty, then 06 where no start exists
unfoldable pub grant : ℕ → List ℕ → List ℕ → ℕ → Acted
grant R shadow table s =
    elim (empty_row table) [
      | None ↦ unchanged (Err NoRow) shadow table
      | Some i ↦
          elim (place shadow R (granules (counted s))) [
            | None ↦ unchanged (Err NoPlace) shadow table
            | Some p ↦ grant_at shadow table (counted s) i p
          ]
    ]
