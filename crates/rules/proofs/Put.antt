-- The laws of `put` and `fill`: the length stays, what is put stands in its place, and all else stands as it did.
-- Assumes nothing.
use Prim.Native.Nat.{ℕ, suc, ◌+◌, ◌-◌, ◌≤◌, ◌<◌, min}
use native.Mathlib.Nat.{add-zero}
use native.Mathlib.Omega.{arith}
use mathlib.Core.Path.{◌≡◌, sym, ap, subst, ◌∙◌}
use mathlib.Core.List.{List, [], ◌∷◌, ◌++◌, append_assoc}
use lib.ListN.{length, get_or, take, drop, replicate, set, length-append, length-drop, length-replicate}
use lib.ListN.{take-append-drop, get_or-replicate, get_or-append}
use lib.Seq.{length-take-le, get_or-append-add, get_or-take, get_or-drop, take-append_seam}
use lib.Seq.{drop-append-add, drop-drop, sets, sets-eq}
use Rattle.rules.specs.Put.{put, fill}
use Rattle.rules.proofs.Tests.{by_order}

-- ---- put

pub put_nothing : (whole : List ℕ) (at : ℕ) → put whole at [] ≡ whole
unfolding put
put_nothing whole at = rw add-zero (take-append-drop at whole)

pub length_put : (whole : List ℕ) (at : ℕ) (part : List ℕ) → at + length part ≤ length whole
    → length (put whole at part) ≡ length whole
unfolding put
length_put whole at part room =
    let front : length (take at whole) ≡ at = length-take-le at whole (omega arith) in
    simp (length-append, length-drop) (omega arith)

-- in a buffer that has the room, as many stores
pub put_sets : (whole : List ℕ) (at : ℕ) (part : List ℕ) → at + length part ≤ length whole → put whole at part
    ≡ sets whole at part
unfolding put
put_sets whole at part room =
    sym (append_assoc (take at whole) part (drop (at + length part) whole)) ∙ sym (sets-eq part whole at room)

store_last : (part whole : List ℕ) (at v : ℕ)
    → sets whole at (part ++ (v ∷ [])) ≡ set (sets whole at part) (at + length part) v
store_last [] whole at v = ap (λ n. set whole n v) (sym (add-zero at))
store_last (w ∷ part) whole at v =
    let further : suc at + length part ≡ at + length (w ∷ part) = omega arith in
    store_last part (set whole at w) (suc at) v ∙ ap (λ n. set (sets (set whole at w) (suc at) part) n v) further

-- a part that was lent, once it is back
pub put_lent : (whole : List ℕ) (at n : ℕ) (part : List ℕ) → length part ≡ n → take at whole
    ++ (part ++ drop n (drop at whole)) ≡ put whole at part
unfolding put
put_lent whole at n part e =
    ap (λ l. take at whole ++ (part ++ l)) (drop-drop n at whole ∙ ap (λ m. drop (at + m) whole) (sym e))

-- one part behind another
pub put_behind : (whole first second : List ℕ) → put (put whole 0 first) (length first) second
    ≡ put whole 0 (first ++ second)
unfolding put
put_behind whole first second =
    let rest : List ℕ = drop (0 + length first) whole in
    let both_long : 0 + length first + length second ≡ 0 + length (first ++ second) =
    omega (arith, length-append first second) in
    rw (take-append_seam first rest, drop-append-add first rest (length second))
    (sym (append_assoc first second (drop (length second) rest))
    ∙ ap (λ l. (first ++ second) ++ l)
    (drop-drop (length second) (0 + length first) whole ∙ ap (λ n. drop n whole) both_long))

pub put_in : (whole : List ℕ) (at : ℕ) (part : List ℕ) (k d : ℕ) → at ≤ length whole → k < length part
    → get_or (put whole at part) (at + k) d ≡ get_or part k d
unfolding put
put_in whole at part k d room in_part =
    let front : length (take at whole) ≡ at = length-take-le at whole room in
    ap (λ m. get_or (take at whole ++ (part ++ drop (at + length part) whole)) (m + k) d) (sym front)
    ∙ get_or-append-add (take at whole) (part ++ drop (at + length part) whole) k d
    ∙ get_or-append part (drop (at + length part) whole) d k in_part

pub put_before : (whole : List ℕ) (at : ℕ) (part : List ℕ) (k d : ℕ) → at ≤ length whole → k < at
    → get_or (put whole at part) k d ≡ get_or whole k d
unfolding put
put_before whole at part k d room before =
    let front : length (take at whole) ≡ at = length-take-le at whole room in
    get_or-append (take at whole) (part ++ drop (at + length part) whole) d k (omega arith)
    ∙ get_or-take at whole k d before

put_past : (whole : List ℕ) (at : ℕ) (part : List ℕ) (k d : ℕ) → at ≤ length whole
    → get_or (put whole at part) (at + (length part + k)) d ≡ get_or whole (at + length part + k) d
unfolding put
put_past whole at part k d room =
    let front : length (take at whole) ≡ at = length-take-le at whole room in
    ap (λ m. get_or (take at whole ++ (part ++ drop (at + length part) whole)) (m + (length part + k)) d) (sym front)
    ∙ get_or-append-add (take at whole) (part ++ drop (at + length part) whole) (length part + k) d
    ∙ get_or-append-add part (drop (at + length part) whole) k d
    ∙ get_or-drop (at + length part) whole k d

pub put_after : (whole : List ℕ) (at : ℕ) (part : List ℕ) (k d : ℕ) → at ≤ length whole → at + length part ≤ k
    → get_or (put whole at part) k d ≡ get_or whole k d
put_after whole at part k d room after =
    let far : at + (length part + (k - (at + length part))) ≡ k = omega arith in
    let near : at + length part + (k - (at + length part)) ≡ k = omega arith in
    ap (λ m. get_or (put whole at part) m d) (sym far)
    ∙ put_past whole at part (k - (at + length part)) d room
    ∙ ap (λ m. get_or whole m d) near

-- ---- fill

-- past the end nothing exists
pub fill_past : (whole : List ℕ) (at n v : ℕ) → length whole ≤ at → fill whole at n v ≡ whole
unfolding fill
fill_past whole at n v past =
    let nothing : min n (length whole - at) ≡ 0 = omega arith in
    rw nothing (put_nothing whole at)

pub length_fill : (whole : List ℕ) (at n v : ℕ) → length (fill whole at n v) ≡ length whole
unfolding fill
length_fill whole at n v =
    by_order at (length whole)
    (λ inside.
    length_put whole at (replicate (min n (length whole - at)) v)
    (let e : length (replicate (min n (length whole - at)) v)
    ≡ min n (length whole - at) = length-replicate (min n (length whole - at)) v in omega arith))
    (λ past. ap length (fill_past whole at n v past))

pub fill_in : (whole : List ℕ) (at n v k d : ℕ) → at ≤ k → k < at + n → k < length whole
    → get_or (fill whole at n v) k d
    ≡ v
unfolding fill
fill_in whole at n v k d from below in_whole =
    let m : ℕ = min n (length whole - at) in
    let far : at + (k - at) ≡ k = omega arith in
    let e : length (replicate m v) ≡ m = length-replicate m v in
    ap (λ j. get_or (put whole at (replicate m v)) j d) (sym far)
    ∙ put_in whole at (replicate m v) (k - at) d (omega arith) (omega arith)
    ∙ get_or-replicate m (k - at) v d (omega arith)

pub fill_before : (whole : List ℕ) (at n v k d : ℕ) → k < at → get_or (fill whole at n v) k d ≡ get_or whole k d
unfolding fill
fill_before whole at n v k d before =
    by_order at (length whole)
    (λ inside. put_before whole at (replicate (min n (length whole - at)) v) k d (omega arith) before)
    (λ past. ap (λ l. get_or l k d) (fill_past whole at n v past))

pub fill_after : (whole : List ℕ) (at n v k d : ℕ) → at + n ≤ k → get_or (fill whole at n v) k d ≡ get_or whole k d
unfolding fill
fill_after whole at n v k d after =
    by_order at (length whole)
    (λ inside.
    put_after whole at (replicate (min n (length whole - at)) v) k d (omega arith)
    (let e : length (replicate (min n (length whole - at)) v)
    ≡ min n (length whole - at) = length-replicate (min n (length whole - at)) v in omega arith))
    (λ past. ap (λ l. get_or l k d) (fill_past whole at n v past))

-- ---- what stands at every place

-- each of a list's numbers
abbrev pub Each : (ℕ → Type 0) → List ℕ → Type 0
Each P list = (k : ℕ) → k < length list → P (get_or list k 0)

pub put_each : (P : ℕ → Type 0) (whole : List ℕ) (at : ℕ) (part : List ℕ) → at + length part ≤ length whole
    → Each P whole → Each P part → Each P (put whole at part)
put_each P whole at part room of_whole of_part k below =
    let in_whole : k < length whole = omega (arith, length_put whole at part room) in
    by_order k at
    (λ before. subst P (sym (put_before whole at part k 0 (omega arith) before)) (of_whole k in_whole))
    (λ from.
    by_order k (at + length part)
    (λ in_part.
    let far : at + (k - at) ≡ k = omega arith in
    subst P (sym (ap (λ m. get_or (put whole at part) m 0) (sym far)
    ∙ put_in whole at part (k - at) 0 (omega arith) (omega arith)))
    (of_part (k - at) (omega arith)))
    (λ after. subst P (sym (put_after whole at part k 0 (omega arith) after)) (of_whole k in_whole)))

pub fill_each : (P : ℕ → Type 0) (whole : List ℕ) (at n v : ℕ) → Each P whole → P v → Each P (fill whole at n v)
fill_each P whole at n v of_whole of_v k below =
    let in_whole : k < length whole = omega (arith, length_fill whole at n v) in
    by_order k at
    (λ before. subst P (sym (fill_before whole at n v k 0 before)) (of_whole k in_whole))
    (λ from.
    by_order k (at + n)
    (λ filled. subst P (sym (fill_in whole at n v k 0 from filled in_whole)) of_v)
    (λ after. subst P (sym (fill_after whole at n v k 0 after)) (of_whole k in_whole)))

-- ---- a fill, store by store
