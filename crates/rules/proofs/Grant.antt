-- The laws of a grant: its place is the lowest that keeps the redzone on both sides, 05 and 06 have exact conditions,
-- lengths stay, and no row but an empty one is touched. Assumes nothing.
use Prim.Native.Nat.{ℕ, zero, suc, ◌+◌, ◌-◌, ◌*◌, ◌/◌, ◌%◌, ◌^◌, ◌≤◌, ◌<◌, zero-le}
use native.Mathlib.Omega.{arith}
use mathlib.Core.Path.{◌≡◌, refl, sym, ap, subst, ◌∙◌}
use mathlib.Core.Logic.{◌≢◌}
use mathlib.Core.Bool.{true, true≢false}
use mathlib.Core.List.{List, ◌++◌}
use lib.ListN.{length, get_or, replicate, set, length-append, length-replicate, length-set, get_or-replicate}
use lib.ListN.{get_or-append}
use lib.Seq.{get_or-append-add, get_or-set_same, get_or-set_other, ext_get_or}
use borrow.Author.Tests.{eqb-true, eq-eqb}
use Rattle.std.specs.Prelude.{Some, None, Err}
use Rattle.rules.specs.declared.Refusal.TheVariants.{NoRow, NoPlace}
use Rattle.rules.specs.declared.Row.{Row}
use Rattle.rules.specs.Limits.{granule, most_granules, redzone_byte, empty}
use Rattle.rules.specs.Table.{rows, state, row_of, put_row, is_empty}
use Rattle.rules.specs.Grant.{Acted, unchanged, counted, granules, fits, place, last_granule, granted}
use Rattle.rules.specs.Grant.{empty_row, granted_row, grant_at, grant, AllFree, Fits, Place}
use Rattle.rules.proofs.Tests.{by_found, by_order}
use Rattle.rules.proofs.Lowest.{Lowest, lowest_some, lowest_none, below_all, all_equal_true, all_equal_is}
use Rattle.rules.proofs.Put.{length_put}
use Rattle.rules.proofs.Table.{length_put_row, column_put_row_other, same_row}

-- ---- sizes

pub counted_zero : counted 0 ≡ 1
unfolding counted
counted_zero = refl

pub counted_above : (s : ℕ) → 0 < s → counted s ≡ s
unfolding counted
counted_above s above = omega arith

pub counted_least : (s : ℕ) → 0 < counted s
unfolding counted
counted_least s = omega arith

-- u granules hold s bytes, and u - 1 do not
pub granules_enough : (s : ℕ) → s ≤ granule * granules s
unfolding granules
granules_enough s = omega arith

pub granules_least : (s : ℕ) → granule * granules s < s + granule
unfolding granules
granules_least s = omega arith

pub granules_above : (s : ℕ) → 0 < s → 0 < granules s
unfolding granules
granules_above s above = omega arith

-- ---- the place

fits_window : (R u p : ℕ) → R ≤ p → p - R + (R + u + R) ≡ p + u + R
fits_window R u p low = omega arith

pub fits_true : (shadow : List ℕ) (R u p : ℕ) → R ≤ p → p + u + R ≤ length shadow → fits shadow R u p ≡ true
    → Fits shadow R u p
unfolding fits
fits_true shadow R u p low high e = record {
  low = low;
  high = high;
  free = subst (λ w. AllFree shadow (p - R) w) (fits_window R u p low)
      (all_equal_true shadow redzone_byte (p - R) (R + u + R) e);
}

pub fits_is : (shadow : List ℕ) (R u p : ℕ) → Fits shadow R u p → fits shadow R u p ≡ true
unfolding fits
fits_is shadow R u p f =
    all_equal_is shadow redzone_byte (p - R) (R + u + R)
    (subst (λ w. AllFree shadow (p - R) w) (sym (fits_window R u p f.low)) f.free)

pub place_some : (shadow : List ℕ) (R u p : ℕ) → place shadow R u ≡ Some p → Place shadow R u p
unfolding place
place_some shadow R u p e =
    let n : ℕ = length shadow + 1 - (R + u + R) in
    let l : Lowest (fits shadow R u) n R p = lowest_some (fits shadow R u) n R p e in
    record {
      fits = fits_true shadow R u p l.from (let b : p < R + n = l.below in omega arith) l.passes;
      lowest = λ q less f. true≢false (sym (fits_is shadow R u q f) ∙ l.first q f.low less);
    }

pub place_none : (shadow : List ℕ) (R u : ℕ) → place shadow R u ≡ None → (p : ℕ) → Fits shadow R u p → ⊥
unfolding place
place_none shadow R u e p f =
    true≢false
    (sym (fits_is shadow R u p f)
    ∙ lowest_none (fits shadow R u) (length shadow + 1 - (R + u + R)) R e p f.low
    (let high : p + u + R ≤ length shadow = f.high in omega arith))

pub place_is : (shadow : List ℕ) (R u p : ℕ) → Place shadow R u p → place shadow R u ≡ Some p
place_is shadow R u p l =
    by_found (place shadow R u)
    (λ q e.
    let k : Place shadow R u q = place_some shadow R u q e in
    let not_above : p < q → ⊥ = λ less. k.lowest p less l.fits in
    let not_below : q < p → ⊥ = λ less. l.lowest q less k.fits in
    e ∙ ap Some (omega arith))
    (λ e. absurd (place_none shadow R u e p l.fits))

pub place_no : (shadow : List ℕ) (R u : ℕ) → ((p : ℕ) → Fits shadow R u p → ⊥) → place shadow R u ≡ None
place_no shadow R u nowhere =
    by_found (place shadow R u) (λ q e. absurd (nowhere q (place_some shadow R u q e).fits)) (λ e. e)

-- the address of a place has 32 bits
pub place_fits : (shadow : List ℕ) (R u p : ℕ) → place shadow R u ≡ Some p → length shadow ≤ most_granules → granule * p
    < 2 ^ 32
place_fits shadow R u p e most = omega (arith, (place_some shadow R u p e).fits.high)

-- ---- what is painted

length_last : (k : ℕ) → k < granule → length (last_granule k) ≡ (k + 7) / granule
unfolding last_granule
length_last zero below = refl
length_last (suc k) below = omega arith

length_zeros : (n : ℕ) → length (replicate {A = ℕ} n 0) ≡ n
length_zeros n = length-replicate n 0

-- a granted block has a shadow byte for each of its granules
pub length_granted : (s : ℕ) → length (granted s) ≡ granules s
unfolding granted granules
length_granted s =
    length-append (replicate (s / granule) 0) (last_granule (s % granule))
    ∙ (let rest : length (last_granule (s % granule))
    ≡ (s % granule + 7) / granule = length_last (s % granule) (omega arith) in
    omega (arith, length_zeros (s / granule)))

-- whole granules are 00
pub granted_whole : (s k : ℕ) → k < s / granule → get_or (granted s) k 0 ≡ 0
unfolding granted
granted_whole s k below =
    get_or-append (replicate (s / granule) 0) (last_granule (s % granule)) 0 k
    (omega (arith, length_zeros (s / granule)))
    ∙ get_or-replicate (s / granule) k 0 0 below

get_or_last : (k : ℕ) → get_or (last_granule k) 0 0 ≡ k
unfolding last_granule
get_or_last zero = refl
get_or_last (suc k) = refl

-- a remainder is in the last one
pub granted_last : (s : ℕ) → get_or (granted s) (s / granule) 0 ≡ s % granule
unfolding granted
granted_last s =
    let e : length (replicate {A = ℕ} (s / granule) 0) + 0 ≡ s / granule = omega (arith, length_zeros (s / granule)) in
    ap (λ m. get_or (replicate (s / granule) 0 ++ last_granule (s % granule)) m 0) (sym e)
    ∙ get_or-append-add (replicate (s / granule) 0) (last_granule (s % granule)) 0 0
    ∙ get_or_last (s % granule)

-- so it is zeros, with the remainder stored in the last where there is one
pub granted_even : (s : ℕ) → s % granule ≡ 0 → replicate (granules s) 0 ≡ granted s
granted_even s even =
    ext_get_or 0 (replicate (granules s) 0) (granted s) (length_zeros (granules s) ∙ sym (length_granted s))
    (λ k below.
    let in_block : k < granules s = omega (arith, length_zeros (granules s)) in
    get_or-replicate (granules s) k 0 0 in_block ∙ sym (granted_whole s k (omega (arith, granules_least s))))

pub granted_rest : (s : ℕ) → s % granule ≢ 0 → set (replicate (granules s) 0) (s / granule) (s % granule) ≡ granted s
granted_rest s rest =
    let zeros : List ℕ = replicate (granules s) 0 in
    let same : length (set zeros (s / granule) (s % granule)) ≡ granules s =
    length-set zeros (s / granule) (s % granule) ∙ length_zeros (granules s) in
    ext_get_or 0 (set zeros (s / granule) (s % granule)) (granted s) (same ∙ sym (length_granted s))
    (λ k below.
    let in_block : k < granules s = omega arith in
    by_order k (s / granule)
    (λ whole.
    get_or-set_other zeros (s / granule) k (s % granule) 0 (λ e. absurd (omega arith))
    ∙ get_or-replicate (granules s) k 0 0 in_block
    ∙ sym (granted_whole s k whole))
    (λ last.
    let is_last : k ≡ s / granule = omega (arith, granules_least s) in
    ap (λ m. get_or (set zeros (s / granule) (s % granule)) m 0) is_last
    ∙ get_or-set_same zeros (s / granule) (s % granule) 0 (omega (arith, length_zeros (granules s)))
    ∙ sym (granted_last s)
    ∙ ap (λ m. get_or (granted s) m 0) (sym is_last)))

-- ---- the row

pub empty_row_some : (table : List ℕ) (i : ℕ) → empty_row table ≡ Some i → Lowest (is_empty table) (rows table) 0 i
unfolding empty_row
empty_row_some table i e = lowest_some (is_empty table) (rows table) 0 i e

pub empty_row_none : (table : List ℕ) → empty_row table ≡ None → (i : ℕ) → i < rows table → state table i ≢ empty
unfolding empty_row
empty_row_none table e i below is_zero =
    true≢false (sym (eq-eqb (state table i) empty is_zero)
    ∙ lowest_none (is_empty table) (rows table) 0 e i zero-le (omega arith))

-- ---- a grant

pub grant_no_row : (R : ℕ) (shadow table : List ℕ) (s : ℕ) → empty_row table ≡ None
    → grant R shadow table s ≡ unchanged (Err NoRow) shadow table
unfolding grant
grant_no_row R shadow table s e = rw (e, grant)

pub grant_no_place : (R : ℕ) (shadow table : List ℕ) (s i : ℕ) → empty_row table ≡ Some i
    → place shadow R (granules (counted s)) ≡ None
    → grant R shadow table s ≡ unchanged (Err NoPlace) shadow table
unfolding grant
grant_no_place R shadow table s i row e = rw (row, grant) (rw (e))

pub grant_done : (R : ℕ) (shadow table : List ℕ) (s i p : ℕ) → empty_row table ≡ Some i
    → place shadow R (granules (counted s)) ≡ Some p
    → grant R shadow table s ≡ grant_at shadow table (counted s) i p
unfolding grant
grant_done R shadow table s i p row e = rw (row, grant) (rw (e))

-- by what a grant finds
pub by_grant {ℓ} : (R : ℕ) (shadow table : List ℕ) (s : ℕ) (P : Acted → Type ℓ)
    → (empty_row table ≡ None → P (unchanged (Err NoRow) shadow table))
    → ((i : ℕ) → empty_row table ≡ Some i → place shadow R (granules (counted s)) ≡ None
    → P (unchanged (Err NoPlace) shadow table))
    → ((i p : ℕ) → empty_row table ≡ Some i → place shadow R (granules (counted s)) ≡ Some p
    → P (grant_at shadow table (counted s) i p))
    → P (grant R shadow table s)
by_grant R shadow table s P no_row no_place done =
    by_found (empty_row table)
    (λ i row.
    by_found (place shadow R (granules (counted s)))
    (λ p at. subst P (sym (grant_done R shadow table s i p row at)) (done i p row at))
    (λ nowhere. subst P (sym (grant_no_place R shadow table s i row nowhere)) (no_place i row nowhere)))
    (λ full. subst P (sym (grant_no_row R shadow table s full)) (no_row full))

-- a place for a block leaves its granules inside the shadow
pub place_inside : (R : ℕ) (shadow : List ℕ) (s p : ℕ) → place shadow R (granules s) ≡ Some p → p + length (granted s)
    ≤ length shadow
place_inside R shadow s p e = omega (arith, (place_some shadow R (granules s) p e).fits.high, length_granted s)

-- lengths are kept
abbrev pub SameLengths : List ℕ → List ℕ → Acted → Type 0
SameLengths shadow table acted = (length acted.shadow ≡ length shadow) × (length acted.table ≡ length table)

pub grant_lengths : (R : ℕ) (shadow table : List ℕ) (s : ℕ) → SameLengths shadow table (grant R shadow table s)
unfolding grant_at
grant_lengths R shadow table s =
    by_grant R shadow table s (SameLengths shadow table) (λ full. (refl, refl)) (λ i row nowhere. (refl, refl))
    (λ i p row at. (
      length_put shadow p (granted (counted s)) (place_inside R shadow (counted s) p at),
      length_put_row table i (granted_row p (counted s)) (below_all (empty_row_some table i row)),
    ))

-- a grant never evicts: a row that is not empty stands as it did
pub grant_keeps : (R : ℕ) (shadow table : List ℕ) (s j : ℕ) → state table j ≢ empty
    → row_of (grant R shadow table s).table j ≡ row_of table j
unfolding grant_at
grant_keeps R shadow table s j held =
    by_grant R shadow table s (λ acted. row_of acted.table j ≡ row_of table j) (λ full. refl) (λ i row nowhere. refl)
    (λ i p row at.
    let l : Lowest (is_empty table) (rows table) 0 i = empty_row_some table i row in
    let new : Row = granted_row p (counted s) in
    let other : j ≢ i = λ same. held (ap (state table) same ∙ eqb-true (state table i) empty l.passes) in
    same_row (put_row table i new) table j
    (λ k in_row. column_put_row_other table i new (below_all l) k j in_row other))
