-- Rules for a walk by hand over a function's locals, each a few of the kit's in one. `n` is the place of a local's cell
-- in the context, `m` that of the struct that a reference leads to. Assumes what the kit's rules assume.
--     local_of, field_operand, behind   the operands `x`, `x.k` and `(*x).k`
--     address, with_length              the right sides of the two statements that lend a slice on: its address, and
--                                       that with its length
--     sets, stores                      the statements `x = ..` of a local that was not set before, and `(*x).k = ..`
--     gone                              a local at the function's end
--     cell                              where a local stands in the context, of `last` + 1 locals: the last first, two
--                                       items each, its cell and what frees it, behind `front` other items
--     pair_of                           a slice as the machine has it: an address and a length
use mathlib.Core.Path.{◌≡◌, refl, subst₂}
use mathlib.Core.Option.{some}
use mathlib.Core.List.{List, [], ◌∷◌}
use Prim.Native.Nat.{ℕ, zero, ◌+◌, ◌-◌, ◌*◌}
use seplogic.Ra.Ura.{Ura}
use base.Fraction.{full_share}
use lib.Dec.{T}
use lib.ListN.{length}
use mir.Syntax.{Sym, Ty, Tys, ty_struct, place, deref, field, copy, rv_opd, addr_of, aggregate, Opd as Operand}
use mir.Syntax.{Rv as RValue, Body, seq, assign}
use mir.Val.{Val, Vals, vptr, vstruct, vcons, vnil, has_ty, WT}
use mir.Fields.{get_v, set_v}
use base.Logic.{ent, via}
use base.Fml.{Share, fat, froom, fdies}
use prog.Memory.{field_of, field_at}
use prog.Wp.{Env, spot_of, Calls, Loops}
use types.Logic.{Logic}
use types.Kit.{Item, ‵, ⋆, nth, del, put, sel⊢, Goal, Post, runs, frees, Seq, Step, step, ◌$◌}
use types.Run.{Opd, Rv, look, init, forget, stop, hop, fld, from, load, addr, of_opd, and_then, no_more, assigns, free1}
use types.Part.{Part, agg, sub, look_in, store_in}
use denote.Ref.{Bor}
use denote.Slice.{slice_val}

abbrev pub cell : ℕ → ℕ → ℕ → ℕ
cell last front i = front + 2 * (last - i)

abbrev pub pair_of : Bor (List ℕ) → Val
pair_of x = slice_val x.ref_ptr (length x.now)

module _ {M : Type 1} {𝓤 : Ura M} {𝓛 : Logic 𝓤} {K : Type 0} {Γ : List
    (Item 𝓤)} {E : Env 𝓤 𝓛.H} where
  open 𝓛 use {H}

  pub local_of : K → (n : ℕ) {i : ℕ} {s : Share} {v : Val} → nth 𝓛 n Γ
      ≡ ‵ (fat s (spot_of 𝓤 H E i).0 (spot_of 𝓤 H E i).1 (spot_of 𝓤 H E i).2 v)
      → Opd K 𝓛 Γ E (copy (place i [])) v
  local_of t n e = load t (from t (stop t)) (look t n e)

  pub field_operand : K → (n k : ℕ) {i : ℕ} {s : Share} {ν : Sym} {τs : Tys} {vs : Vals} {back : Val
      → Item 𝓤} {τ : Ty} {d : ℕ}
      → field_of (spot_of 𝓤 H E i).0 k ≡ some (τ, d) → field_at zero τs k ≡ some (τ, d)
      → Part K 𝓛 (nth 𝓛 n Γ) s (ty_struct ν τs) (spot_of 𝓤 H E i).1 (spot_of 𝓤 H E i).2 (vstruct vs) back
      → Opd K 𝓛 Γ E (copy (place i (field k ∷ []))) (get_v vs k)
  field_operand t n k e e' p = load t (from t (fld t e (stop t))) (look_in t n (sub t k e' p))

  pub address : K → (n : ℕ) {i : ℕ} {s : Share} {ν : Sym} {τ τ₀ : Ty} {τs : Tys} {b o d : ℕ} {vs : Vals} {back : Val
      → Item 𝓤}
      → field_of (spot_of 𝓤 H E i).0 0 ≡ some (τ₀, d) → field_at zero τs 0 ≡ some (τ₀, d)
      → Part K 𝓛 (nth 𝓛 n Γ) s (ty_struct ν τs) (spot_of 𝓤 H E i).1 (spot_of 𝓤 H E i).2
      (vstruct (vcons (vptr b o) vs)) back
      → Rv K 𝓛 Γ E (addr_of (place i (field 0 ∷ deref τ ∷ []))) (vptr b o)
  address t n e e' p = addr t (from t (fld t e (hop t (look_in t n (sub t 0 e' p)) (stop t))))

  pub with_length : K
      → (a n : ℕ) {i j : ℕ} {s s' : Share} {v : Val} {ν : Sym} {τ : Ty} {τs : Tys} {d : ℕ} {vs : Vals} {back : Val
      → Item 𝓤}
      → nth 𝓛 a Γ ≡ ‵ (fat s' (spot_of 𝓤 H E j).0 (spot_of 𝓤 H E j).1 (spot_of 𝓤 H E j).2 v)
      → field_of (spot_of 𝓤 H E i).0 1 ≡ some (τ, d) → field_at zero τs 1 ≡ some (τ, d)
      → Part K 𝓛 (nth 𝓛 n Γ) s (ty_struct ν τs) (spot_of 𝓤 H E i).1 (spot_of 𝓤 H E i).2 (vstruct vs) back
      → Rv K 𝓛 Γ E (aggregate (copy (place j []) ∷ copy (place i (field 1 ∷ [])) ∷ []))
      (vstruct (vcons v (vcons (get_v vs 1) vnil)))
  with_length t a n at_a e e' p =
      agg t (and_then t (local_of t a at_a) (and_then t (field_operand t n 1 e e' p) (no_more t)))

  module _ {i : ℕ} {s : Share} {ν : Sym} {τ : Ty} {τs : Tys} {b o : ℕ} {vs : Vals} {back : Val → Item 𝓤} where
    pub behind : K → (n m k : ℕ) {s' : Share} {τ' : Ty} {d : ℕ} → nth 𝓛 n Γ
        ≡ ‵ (fat s (spot_of 𝓤 H E i).0 (spot_of 𝓤 H E i).1 (spot_of 𝓤 H E i).2 (vptr b o))
        → field_of τ k ≡ some (τ', d) → field_at zero τs k ≡ some (τ', d)
        → Part K 𝓛 (nth 𝓛 m Γ) s' (ty_struct ν τs) b o (vstruct vs) back
        → Opd K 𝓛 Γ E (copy (place i (deref τ ∷ field k ∷ []))) (get_v vs k)
    behind t n m k at_n e e' p = load t (from t (hop t (look t n at_n) (fld t e (stop t)))) (look_in t m (sub t k e' p))

    pub stores : K → {C : Calls 𝓤 H} {Λ : Loops 𝓤 H} {q : Post 𝓤 H} {rest : Body} {x : Operand} {v : Val}
        (n m k : ℕ) {τ' : Ty} {d : ℕ}
        → Opd K 𝓛 Γ E x v → nth 𝓛 n Γ ≡ ‵
        (fat s (spot_of 𝓤 H E i).0 (spot_of 𝓤 H E i).1 (spot_of 𝓤 H E i).2 (vptr b o))
        → field_of τ k ≡ some (τ', d) → field_at zero τs k ≡ some (τ', d)
        → Part K 𝓛 (nth 𝓛 m Γ) full_share (ty_struct ν τs) b o (vstruct vs) back → T (has_ty τ' v) × WT v
        → Step K 𝓛 (put 𝓛 m (back (vstruct (set_v vs k v))) Γ) (runs C Λ E rest q) Γ
        (runs C Λ E (seq (assign (place i (deref τ ∷ field k ∷ [])) (rv_opd x)) rest) q)
    stores t n m k x at_n e e' p wt =
        assigns t (of_opd t x) (from t (hop t (look t n at_n) (fld t e (stop t)))) (store_in t m (sub t k e' p) wt)

  pub sets : K → {C : Calls 𝓤 H} {Λ : Loops 𝓤 H} {q : Post 𝓤 H} {rest : Body} {rv : RValue} {v : Val} (n : ℕ) {i : ℕ}
      → Rv K 𝓛 Γ E rv v → nth 𝓛 n Γ ≡ ‵ (froom (spot_of 𝓤 H E i).0 (spot_of 𝓤 H E i).1 (spot_of 𝓤 H E i).2)
      → T (has_ty (spot_of 𝓤 H E i).0 v) × WT v
      → Step K 𝓛 (put 𝓛 n (‵ (fat full_share (spot_of 𝓤 H E i).0 (spot_of 𝓤 H E i).1 (spot_of 𝓤 H E i).2 v)) Γ)
      (runs C Λ E rest q) Γ (runs C Λ E (seq (assign (place i []) rv) rest) q)
  sets t n r e wt = assigns t r (from t (stop t)) (init t n e wt)

  pub gone : K → (n : ℕ) {τ : Ty} {b : ℕ} {v : Val} {g : Goal 𝓤 H} → nth 𝓛 n Γ ≡ ‵ (fat full_share τ b zero v)
      → nth 𝓛 n (del 𝓛 n Γ) ≡ ‵ (fdies τ b)
      → Step K 𝓛 (del 𝓛 n (del 𝓛 n Γ)) (frees E g) Γ (frees ((τ, b) ∷ E) g)
  gone t n {τ} {b} {v} {g} e e' = step (λ s.
      let both : List (Item 𝓤) = ‵ (fat full_share τ b zero v) ∷ ‵ (fdies τ b) ∷ del 𝓛 n (del 𝓛 n Γ) in
      let ends : Seq K 𝓛 both (frees ((τ, b) ∷ E) g) = forget t 0 refl $ free1 t $ s in
      record {
        prf = via 𝓤 (⋆ 𝓛 both)
            (subst₂ (λ (i j : Item 𝓤). ent 𝓤 (⋆ 𝓛 Γ) (⋆ 𝓛 (i ∷ j ∷ del 𝓛 n (del 𝓛 n Γ)))) e e'
            (sel⊢ 𝓛 (n ∷ n ∷ []) Γ))
            ends.prf;
      })
