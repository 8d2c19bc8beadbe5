-- Held blocks, read off the invariant and off what lines seek: a redzone apart, the quarantine, and that nothing in it
-- is granted again. Assumes nothing.
use Prim.Native.Nat.{ℕ, ◌+◌, ◌*◌, ◌≤◌, ◌<◌, ◌-◌}
use native.Mathlib.Omega.{arith}
use mathlib.Core.Path.{◌≡◌, sym, ap, ◌∙◌}
use mathlib.Core.List.Memᴰ
use mathlib.Core.List.{List, [], ◌∷◌}
use lib.ListN.{length, take, length-take}
use Rattle.std.specs.Prelude.{Some}
use Rattle.rules.specs.Limits.{granule}
use Rattle.rules.proofs.Grant.{grant_keeps}
use Rattle.promises.specs.History.{Block, block, has_byte, heard_all, weigh, latest, held}
use Rattle.promises.specs.Replay.{session, history, live_at, quarantine_at, held_at}
use Rattle.promises.specs.Rows.{◌∈◌}
use Rattle.promises.specs.Quarantine.{Separation, LongestRun, Quarantine, NotAgain, Heavier, NeverEvicts, Evicted}
use Rattle.promises.proofs.History.{DidGrant, granted_by, heard_append}
use Rattle.promises.proofs.Latest.{latest_longest, latest_heavy}
use Rattle.promises.proofs.Agreement.{apart_bytes}
use Rattle.promises.proofs.Beginning.{replay_holds, line_moment, replay_agrees}
use Rattle.promises.proofs.Sought.{finding, left_as, placement}

-- ---- held blocks stay a redzone apart

pub separation : Separation
separation r = (replay_agrees r).separated

-- ---- the quarantine

-- no second run is the longest
longest_one : (R Q : ℕ) (blocks first second : List Block) → LongestRun R Q blocks first → LongestRun R Q blocks second
    → first ≡ second
longest_one R Q blocks first second one other =
    let not_longer : length first < length second → ⊥ = shorter first second one other in
    let not_shorter : length second < length first → ⊥ = shorter second first other one in
    let same : length first ≡ length second = omega arith in
    one.first ∙ ap (λ n. take n blocks) same ∙ sym other.first
  where
    shorter : (run longer : List Block) → LongestRun R Q blocks run → LongestRun R Q blocks longer
        → length run < length longer → ⊥
    shorter run longer l l' less =
        let some_of : length longer ≤ length blocks =
        omega (arith, ap length l'.first, length-take (length longer) blocks) in
        let weighs : weigh R longer ≡ weigh R (take (length longer) blocks) = ap (weigh R) l'.first in
        omega (arith, l.longest (length longer) less some_of, l'.light)

pub quarantine : Quarantine
quarantine = record {
  longest = latest_longest;
  only = longest_one;
  quarantined = λ r. (replay_agrees r).quarantined;
}

pub heavier : Heavier
heavier r y earlier is heavy =
    let R : ℕ = (session r).redzone in
    let Q : ℕ = (session r).quarantine in
    (replay_holds r).stands.queue.count
    ∙ ap (λ l. length (latest R Q l)) is
    ∙ ap length (latest_heavy R Q y earlier heavy)

-- every row that is not empty stands as it did
pub never_evicts : NeverEvicts
never_evicts = grant_keeps

-- ---- what a line grants, and what leaves

pub evicted : Evicted
unfolding history heard_all
evicted r before x line a alone is_done =
    left_as _ _ _ _ _ x (finding (line_moment r before x line)) a alone is_done
    ∙ ap
    (λ g.
    Some
    (length (quarantine_at r before) + 1 - length (latest (session r).redzone (session r).quarantine g.released)))
    (sym (heard_append r.earlier before (x ∷ [])))

pub not_again : NotAgain
unfolding held
not_again r before x line y in_events z in_z b has =
    let g : DidGrant x y = granted_by x y in_events in
    let p = (placement r before x line).lowest g.status_is g.size g.sought in
    let in_held : z ∈ held_at r before = Memᴰ.append_right (live_at r before) in_z in
    apart_bytes (session r).redzone (block (granule * p.place) g.size) z (p.room.apart z in_held) b
    (ap (λ w. has_byte w b) (sym (p.only y in_events)) ∙ has)
