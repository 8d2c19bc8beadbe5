-- The laws of a history: what a line with its answer did, by what it seeks and by the answer itself, and what that does
-- to a history. Assumes nothing.
use Prim.Native.Nat.{ℕ}
use native.Mathlib.Decide.{ℕ_discrete}
use mathlib.Core.Path.{◌≡◌, refl, sym, ap, ap₂, subst, ◌∙◌}
use mathlib.Core.Logic.{◌≢◌, ⊎_elim}
use mathlib.Core.Bool.{Bool, true, false, true≢false}
use mathlib.Core.List.{List, [], ◌∷◌, ◌++◌}
use mathlib.Core.List.Memᴰ
use lib.Dec.{eqb}
use borrow.Author.Tests.{eqb-true, eq-eqb, ne_eqb}
use Rattle.std.specs.Prelude.{Option, Some, None, Ok}
use Rattle.rules.specs.Frames.{Asked}
use Rattle.rules.specs.Answers.{Answer}
use Rattle.rules.specs.declared.Frame.TheVariants.{Release}
use Rattle.rules.specs.Answers.{in_numbers, status}
use Rattle.rules.proofs.Tests.{by_found, by_test, if_false, if_true}
use Rattle.promises.specs.History.{Exchange, asks, status_of, value_of, Block, block, has_byte, lies_in, others}
use Rattle.promises.specs.History.{Sought, nothing_sought, block_at, sought_by, seeks}
use Rattle.promises.specs.History.{Event, Granted, Released, grants_at, releases_at, did, events}
use Rattle.promises.specs.History.{History, happens, happen, heard, heard_all}
use Rattle.promises.specs.Rows.{◌∈◌}
use Rattle.promises.proofs.Blocks.{lies_in_is, lies_in_not, others_of}

-- ---- what a frame seeks

pub release_seeks : (a : ℕ) → a ≢ 0 → sought_by (Ok (Release a)) ≡ record { room = None; block = Some a }
unfolding sought_by block_at
release_seeks a above = ap {B = Sought} (λ o. record { room = None; block = o }) (if_false _ _ (ne_eqb a 0 above))

pub release_seeks_nothing : sought_by (Ok (Release 0)) ≡ nothing_sought
unfolding sought_by block_at
release_seeks_nothing = refl

-- ---- events

-- what an event says, each by its kind
is_grant : Event → Bool
is_grant (Granted x) = true
is_grant (Released a) = false

granted_or : Block → Event → Block
granted_or other (Granted x) = x
granted_or other (Released a) = other

released_or : ℕ → Event → ℕ
released_or other (Granted x) = other
released_or other (Released a) = a

one_block : {x y : Block} → Granted x ≡ Granted y → x ≡ y
unfolding granted_or
one_block {x} e = ap (granted_or x) e

one_address : {a b : ℕ} → Released a ≡ Released b → a ≡ b
unfolding released_or
one_address {a} e = ap (released_or a) e

two_kinds : {x : Block} {a : ℕ} → Granted x ≡ Released a → ⊥
unfolding is_grant
two_kinds e = true≢false (ap is_grant e)

-- ---- what a line that is done did: what it sought, and nothing else

module _ (value : ℕ) where
  grants_one : (o : Option ℕ) (s : ℕ) → o ≡ Some s → Granted (block value s) ∈ grants_at value o
  unfolding grants_at
  grants_one o s e = subst (λ p. Granted (block value s) ∈ grants_at value p) (sym e) (Memᴰ.head refl)

  grants_only : (o : Option ℕ) (event : Event) → event ∈ grants_at value o
      → (s : ℕ) × (o ≡ Some s) × (event ≡ Granted (block value s))
  unfolding grants_at
  grants_only None event m = absurd (Memᴰ.not-nil m)
  grants_only (Some s) event m =
      ⊎_elim (λ e. (s, refl, e)) (λ later. absurd (Memᴰ.not-nil later)) (Memᴰ.cases_cons m)

releases_only : (o : Option ℕ) (event : Event) → event ∈ releases_at o → (a : ℕ) × (o ≡ Some a) × (event ≡ Released a)
unfolding releases_at
releases_only None event m = absurd (Memᴰ.not-nil m)
releases_only (Some a) event m =
    ⊎_elim (λ e. (a, refl, e)) (λ later. absurd (Memᴰ.not-nil later)) (Memᴰ.cases_cons m)

module _ (sought : Sought) (value : ℕ) where
  pub did_grant : (s : ℕ) → sought.room ≡ Some s → Granted (block value s) ∈ did sought value
  unfolding did
  did_grant s e = Memᴰ.append_left (releases_at sought.block) (grants_one value sought.room s e)

  pub granted_only : (y : Block) → Granted y ∈ did sought value
      → (s : ℕ) × (sought.room ≡ Some s) × (y ≡ block value s)
  unfolding did
  granted_only y m =
      ⊎_elim
      (λ n. let g = grants_only value sought.room (Granted y) n in (g.0, g.1, one_block g.2))
      (λ n. let g = releases_only sought.block (Granted y) n in absurd (two_kinds g.2))
      (Memᴰ.append_cases (grants_at value sought.room) m)

  pub released_only : (a : ℕ) → Released a ∈ did sought value → sought.block ≡ Some a
  unfolding did
  released_only a m =
      ⊎_elim
      (λ n. let g = grants_only value sought.room (Released a) n in absurd (two_kinds (sym g.2)))
      (λ n. let g = releases_only sought.block (Released a) n in g.1 ∙ ap Some (sym (one_address g.2)))
      (Memᴰ.append_cases (grants_at value sought.room) m)

-- a block alone, and room and a block
pub did_alone : (sought : Sought) (value a : ℕ) → sought.room ≡ None → sought.block ≡ Some a
    → did sought value ≡ Released a ∷ []
unfolding did grants_at releases_at
did_alone sought value a no_room block = ap₂ (λ o p. grants_at value o ++ releases_at p) no_room block

pub did_both : (sought : Sought) (value s a : ℕ) → sought.room ≡ Some s → sought.block ≡ Some a
    → did sought value ≡ Granted (block value s) ∷ Released a ∷ []
unfolding did grants_at releases_at
did_both sought value s a room block = ap₂ (λ o p. grants_at value o ++ releases_at p) room block

pub did_release : (a value : ℕ) → a ≢ 0 → did (sought_by (Ok (Release a))) value ≡ Released a ∷ []
did_release a value above =
    let alone : sought_by (Ok (Release a)) ≡ record { room = None; block = Some a } = release_seeks a above in
    did_alone (sought_by (Ok (Release a))) value a (ap (λ s. s.room) alone) (ap (λ s. s.block) alone)

-- ---- one line

-- a line that is done
pub events_done : (x : Exchange) (value : ℕ) → status_of x ≡ Some 0 → value_of x ≡ Some value
    → events x ≡ did (seeks x) value
unfolding events
events_done x value says_status says_value = rw (says_status, events) (rw says_value)

-- a line that is refused
events_refused : (x : Exchange) (s : ℕ) → status_of x ≡ Some s → s ≢ 0 → events x ≡ []
unfolding events
events_refused x s says_status refused = rw (says_status, events) (rw (ne_eqb s 0 refused))

-- by what a line says
by_events {ℓ} : (x : Exchange) (P : List Event → Type ℓ) → P []
    → ((value : ℕ) → status_of x ≡ Some 0 → value_of x ≡ Some value → P (did (seeks x) value)) → P (events x)
unfolding events
by_events x P None· said =
    by_found (status_of x)
    (λ s e.
    by_test (eqb s 0)
    (λ is_done.
    let zeroed : status_of x ≡ Some 0 = e ∙ ap Some (eqb-true s 0 is_done) in
    by_found (value_of x)
    (λ v f. subst P (sym (events_done x v zeroed f)) (said v zeroed f))
    (λ f. subst P (sym (rw (zeroed, events) (rw f))) None·))
    (λ not_done. subst P (sym (rw (e, events) (rw not_done))) None·))
    (λ e. subst P (sym (rw (e, events))) None·)

-- a line that granted or released something is done, and it sought that
pub record DidGrant (x : Exchange) (y : Block) : Type 0 where
  pub size : ℕ
  pub address : ℕ
  pub sought : (seeks x).room ≡ Some size
  pub status_is : status_of x ≡ Some 0
  pub value_is : value_of x ≡ Some address
  pub block_is : y ≡ block address size

pub granted_by : (x : Exchange) (y : Block) → Granted y ∈ events x → DidGrant x y
granted_by x y =
    by_events x (λ es. Granted y ∈ es → DidGrant x y) (λ m. absurd (Memᴰ.not-nil m))
    (λ value says_status says_value m.
    let g = granted_only (seeks x) value y m in
    record {
      size = g.0;
      address = value;
      sought = g.1;
      status_is = says_status;
      value_is = says_value;
      block_is = g.2;
    })

pub released_by : (x : Exchange) (a : ℕ) → Released a ∈ events x → ((seeks x).block ≡ Some a) × (status_of x ≡ Some 0)
released_by x a =
    by_events x (λ es. Released a ∈ es → ((seeks x).block ≡ Some a) × (status_of x ≡ Some 0))
    (λ m. absurd (Memᴰ.not-nil m))
    (λ value says_status says_value m. (released_only (seeks x) value a m, says_status))

-- ---- a log

-- in two parts
pub heard_append : (h : History) (log more : List Exchange)
    → heard_all h (log ++ more) ≡ heard_all (heard_all h log) more
unfolding heard_all
heard_append h [] more = refl
heard_append h (x ∷ log) more = heard_append (heard h x) log more

-- a byte that lies in no live block lies in none until it is granted
module _ (b : ℕ) where
  happen_stray : (es : List Event) (h : History) → lies_in h.live b ≡ false
      → ((y : Block) → Granted y ∈ es → has_byte y b ≡ true → ⊥) → lies_in (happen h es).live b ≡ false
  unfolding happen happens
  happen_stray [] h nowhere not_granted = nowhere
  happen_stray (Granted x ∷ es) h nowhere not_granted =
      happen_stray es (happens h (Granted x))
      (lies_in_not (x ∷ h.live) b
      (λ y m has.
      ⊎_elim {C = ⊥}
      (λ e. not_granted x (Memᴰ.head refl) (ap (λ z. has_byte z b) (sym e) ∙ has))
      (λ later. true≢false (sym (lies_in_is h.live b y later has) ∙ nowhere))
      (Memᴰ.cases_cons m)))
      (λ y m. not_granted y (Memᴰ.tail m))
  happen_stray (Released a ∷ es) h nowhere not_granted =
      happen_stray es (happens h (Released a))
      (lies_in_not (others a h.live) b
      (λ y m has. true≢false (sym (lies_in_is h.live b y (others_of a h.live y m).0 has) ∙ nowhere)))
      (λ y m. not_granted y (Memᴰ.tail m))

  pub heard_stray : (log : List Exchange) (h : History) → lies_in h.live b ≡ false
      → ((z : Exchange) → z ∈ log → (y : Block) → Granted y ∈ events z → has_byte y b ≡ true → ⊥)
      → lies_in (heard_all h log).live b ≡ false
  unfolding heard_all heard
  heard_stray [] h nowhere not_granted = nowhere
  heard_stray (x ∷ log) h nowhere not_granted =
      heard_stray log (heard h x)
      (happen_stray (events x) h nowhere (not_granted x (Memᴰ.head refl)))
      (λ z m. not_granted z (Memᴰ.tail m))

-- ---- what an answer tells

-- what a line did, by its frame and the answer itself
unfoldable pub told : Asked → Answer → List Event
told frame answer =
    elim (eqb (status answer) 0) [ true ↦ did (sought_by frame) (in_numbers answer).value | false ↦ [] ]

pub told_done : (frame : Asked) (answer : Answer) → status answer ≡ 0
    → told frame answer ≡ did (sought_by frame) (in_numbers answer).value
unfolding told
told_done frame answer e = if_true _ _ (eq-eqb (status answer) 0 e)

told_refused : (frame : Asked) (answer : Answer) → status answer ≢ 0 → told frame answer ≡ []
unfolding told
told_refused frame answer e = if_false _ _ (ne_eqb (status answer) 0 e)

-- where nothing is sought, nothing happens
pub told_nothing : (frame : Asked) (answer : Answer) → sought_by frame ≡ nothing_sought → told frame answer ≡ []
unfolding did grants_at releases_at
told_nothing frame answer nothing =
    elim (ℕ_discrete (status answer) 0) [
      | yes e ↦ told_done frame answer e ∙ ap (λ sought. did sought (in_numbers answer).value) nothing
      | no e ↦ told_refused frame answer e
    ]

-- an exchange that says the answer is heard as the answer tells
pub events_told : (x : Exchange) (answer : Answer) → status_of x ≡ Some (status answer)
    → value_of x ≡ Some (in_numbers answer).value
    → events x ≡ told (asks x) answer
unfolding seeks
events_told x answer says_status says_value =
    elim (ℕ_discrete (status answer) 0) [
      | yes e ↦ events_done x (in_numbers answer).value (says_status ∙ ap Some e) says_value
          ∙ sym (told_done (asks x) answer e)
      | no e ↦ events_refused x (status answer) says_status e ∙ sym (told_refused (asks x) answer e)
    ]
