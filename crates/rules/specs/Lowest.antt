-- "The lowest that ..": the lowest number that passes a test, and the sum of numbers. Every search, every walk over a
-- window and every count of the rules is one of these, and each runs upward, as the loops do. Assumes nothing.
use Rattle.std.specs.Prelude.{ℕ, zero, suc, ◌+◌, ◌≤◌, ◌<◌, ◌≡◌, refl, Bool, true, false, not, List, length, get_or, eqb}
use Rattle.std.specs.Prelude.{Option, Some, None}

-- the lowest of the n numbers i, i + 1, .. that passes the test
unfoldable pub lowest : (ℕ → Bool) → ℕ → ℕ → Option ℕ
lowest test zero i = None
lowest test (suc n) i = elim (test i) [ true ↦ Some i | false ↦ lowest test n (suc i) ]

-- whether one was found
abbrev pub found : {A : Type 0} → Option A → Bool
found None = false
found (Some a) = true

-- the n numbers of a list from place i on all equal v: given up at the first that does not
unfoldable pub all_equal : List ℕ → ℕ → ℕ → ℕ → Bool
all_equal list v i n = not (found (lowest (λ k. not (eqb (get_or list k 0) v)) n i))

-- the same, said of each place from i up to e
abbrev pub AllEqual : List ℕ → ℕ → ℕ → ℕ → Type 0
AllEqual list v i e = (k : ℕ) → i ≤ k → k < e → get_or list k 0 ≡ v

-- a table's rule, as one test over all of its entries: each is what the rule says of its place
abbrev pub every_entry : List ℕ → (ℕ → ℕ) → Bool
every_entry table rule = not (found (lowest (λ k. not (eqb (get_or table k 0) (rule k))) (length table) 0))

-- f 0 + f 1 + .. + f (n - 1)
unfoldable pub total : (ℕ → ℕ) → ℕ → ℕ
total f zero = 0
total f (suc n) = total f n + f n

-- ---- the equations

pub lowest_zero : (test : ℕ → Bool) (i : ℕ) → lowest test zero i ≡ None
unfolding lowest
lowest_zero test i = refl

pub lowest_here : (test : ℕ → Bool) (n i : ℕ) → test i ≡ true → lowest test (suc n) i ≡ Some i
unfolding lowest
lowest_here test n i passes = rw (passes, lowest)

pub lowest_later : (test : ℕ → Bool) (n i : ℕ) → test i ≡ false → lowest test (suc n) i ≡ lowest test n (suc i)
unfolding lowest
lowest_later test n i fails = rw (fails, lowest)

pub total_zero : (f : ℕ → ℕ) → total f zero ≡ 0
unfolding total
total_zero f = refl

pub total_suc : (f : ℕ → ℕ) (n : ℕ) → total f (suc n) ≡ total f n + f n
unfolding total
total_suc f n = refl
