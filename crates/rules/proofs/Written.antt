-- Values 08 to 7f are never written: a shadow whose bytes are 00 to 07, fa and fd stays one, whatever the text. Assumes
-- nothing.
use Prim.Native.Nat.{ℕ, ◌/◌, ◌<◌}
use native.Mathlib.Omega.{arith}
use mathlib.Core.Path.{◌≡◌, refl, sym, ap, subst}
use mathlib.Core.Logic.{◌⊎◌, inl, inr}
use mathlib.Core.List.{List}
use lib.ListN.{get_or, replicate, length-replicate, get_or-replicate}
use Rattle.std.specs.Prelude.{Ok, Err}
use Rattle.rules.specs.declared.Session.{Session}
use Rattle.rules.specs.Frames.{Asked}
use Rattle.rules.specs.declared.Frame.TheVariants.{Grant, Release, Read, Write}
use Rattle.rules.specs.Limits.{granule, redzone_byte, released_byte}
use Rattle.rules.specs.Table.{start, size}
use Rattle.rules.specs.Grant.{counted, granules, granted, grant_at, grant}
use Rattle.rules.specs.Release.{Pool, paint_row, quarantine_row, release_row, release}
use Rattle.rules.specs.Feed.{State, act_line, finish, hold, step, run}
use Rattle.rules.specs.Watcher.{act, watcher}
use Rattle.rules.proofs.Tests.{by_order}
use Rattle.rules.proofs.Put.{Each, put_each, fill_each}
use Rattle.rules.proofs.Grant.{place_inside, length_granted, granted_whole, granted_last, by_grant}
use Rattle.rules.proofs.Release.{by_release, settled_has, evict_row_shadow}
use Rattle.rules.proofs.Feed.{by_byte, run_has}

-- a byte that the rules write: the first k, all, redzone, released
abbrev pub Written : ℕ → Type 0
Written v = (v < granule) ⊎ (v ≡ redzone_byte) ⊎ (v ≡ released_byte)

granted_written : (s : ℕ) → Each Written (granted s)
unfolding granules
granted_written s k below =
    by_order k (s / granule)
    (λ whole. inl (omega (arith, granted_whole s k whole)))
    (λ last.
    let remainder : k ≡ s / granule = omega (arith, length_granted s) in
    inl (omega (arith, ap (λ m. get_or (granted s) m 0) remainder, granted_last s)))

paint_written : (pool : Pool) (i v : ℕ) → Each Written pool.shadow → Written v → Each Written (paint_row pool i v)
unfolding paint_row
paint_written pool i v before of_v =
    fill_each Written pool.shadow (start pool.table i) (granules (size pool.table i)) v before of_v

grant_written : (R : ℕ) (shadow table : List ℕ) (s : ℕ) → Each Written shadow
    → Each Written (grant R shadow table s).shadow
unfolding grant_at
grant_written R shadow table s before =
    by_grant R shadow table s (λ acted. Each Written acted.shadow) (λ full. before) (λ i row nowhere. before)
    (λ i p row at.
    put_each Written shadow p (granted (counted s)) (place_inside R shadow (counted s) p at) before
    (granted_written (counted s)))

release_written : (R Q : ℕ) (shadow table : List ℕ) (a : ℕ) → Each Written shadow
    → Each Written (release R Q shadow table a).shadow
unfolding release_row quarantine_row
release_written R Q shadow table a before =
    by_release R Q shadow table a (λ acted. Each Written acted.shadow)
    (λ e. before) (λ above no_live no_quarantined. before) (λ above no_live i e. before)
    (λ above i e.
    settled_has R Q (λ pool. Each Written pool.shadow)
    (λ pool j o written. subst (Each Written) (sym (evict_row_shadow pool j))
    (paint_written pool j redzone_byte written (inr (inl refl))))
    (quarantine_row (record { shadow = shadow; table = table }) i)
    (paint_written (record { shadow = shadow; table = table }) i released_byte before (inr (inr refl))))

act_written : (session : Session) (shadow table : List ℕ) (asked : Asked) → Each Written shadow
    → Each Written (act session shadow table asked).shadow
unfolding act
act_written session shadow table (Ok (Grant s)) before = grant_written session.redzone shadow table s before
act_written session shadow table (Ok (Release a)) before =
    release_written session.redzone session.quarantine shadow table a before
act_written session shadow table (Ok (Read a n)) before = before
act_written session shadow table (Ok (Write a n)) before = before
act_written session shadow table (Err refusal) before = before

step_written : (st : State Pool) (b : ℕ) → Each Written st.pool.shadow
    → Each Written (step watcher st b).state.pool.shadow
unfolding finish hold act_line
step_written st b before =
    by_byte watcher st b (λ r. Each Written r.state.pool.shadow)
    (λ e. act_written st.session st.pool.shadow st.pool.table _ before) (λ e. before)

pub run_written : (st : State Pool) (text : List ℕ) → Each Written st.pool.shadow
    → Each Written (run watcher st text).state.pool.shadow
run_written = run_has watcher (λ st. Each Written st.pool.shadow) step_written

-- an opening's shadow is one
pub fresh_written : (n : ℕ) → Each Written (replicate n redzone_byte)
fresh_written n k below =
    inr (inl (get_or-replicate n k redzone_byte 0 (omega (arith, length-replicate n redzone_byte))))
