-- A grant by the row and the place that were found: a place leaves its granules inside the shadow, and 8 times a place
-- has 32 bits. Assumes nothing.
use Prim.Native.Nat.{ℕ, ◌+◌, ◌*◌, ◌^◌, ◌≤◌, ◌<◌}
use native.Mathlib.Omega.{arith}
use mathlib.Core.Path.{◌≡◌, sym, ap, ap₂, ◌∙◌}
use mathlib.Core.Bool.{false}
use mathlib.Core.List.{List}
use lib.ListN.{length}
use Rattle.std.specs.Prelude.{Option, Some, None, Err, Ok, is_some}
use Rattle.rules.specs.declared.Row.{Row}
use Rattle.rules.specs.declared.Session.{Session}
use Rattle.rules.specs.declared.Refusal.TheVariants.{NoRow, NoPlace}
use Rattle.rules.specs.Limits.{granule}
use Rattle.rules.specs.Put.{put}
use Rattle.rules.specs.Table.{rows, put_row}
use Rattle.rules.specs.Grant.{acted, counted, granules, granted, empty_row, place, granted_row, grant, grant_at}
use Rattle.rules.specs.Calls.{Lent}
use Rattle.rules.proofs.Lowest.{below_all}
use Rattle.rules.proofs.Grant.{length_granted, place_inside, place_fits, empty_row_some, grant_no_row, grant_no_place}
use Rattle.rules.proofs.Grant.{grant_done}
use Rattle.rules.proofs.Calls.{lent_granules}

-- nothing was found
none_is : {found o : Option ℕ} → found ≡ o → false ≡ is_some found → o ≡ None
none_is {found = None} e nothing = sym e
none_is {found = Some k} e nothing = cc

module _ (session : Session) (shadow table : List ℕ) (size : ℕ) where
  pub no_row : {found : Option ℕ} → found ≡ empty_row table → false ≡ is_some found
      → acted (Err NoRow) shadow table ≡ grant session.redzone shadow table size
  no_row e nothing = sym (grant_no_row session.redzone shadow table size (none_is e nothing))

  pub row_below : {found : Option ℕ} {i : ℕ} → found ≡ Some i → found ≡ empty_row table → i < rows table
  row_below {i = i} is e = below_all (empty_row_some table i (sym e ∙ is))

  -- a block has at most so many granules
  pub granules_most : {asked u : ℕ} → size < 2 ^ 32 → asked ≡ counted size → u ≡ granules asked → u ≤ 2 ^ 29
  unfolding granules counted
  granules_most fits asked_is u_is = omega arith

  -- what was sought is a place for the granules of the size, counted
  sought : {asked u : ℕ} {found : Option ℕ} → asked ≡ counted size → u ≡ granules asked
      → found ≡ place shadow session.redzone u
      → place shadow session.redzone (granules (counted size)) ≡ found
  sought asked_is u_is e = sym (e ∙ ap (place shadow session.redzone) (u_is ∙ ap granules asked_is))

  pub no_place : {asked u i : ℕ} {row found : Option ℕ} → row ≡ Some i → row ≡ empty_row table
      → asked ≡ counted size → u ≡ granules asked → found ≡ place shadow session.redzone u → false ≡ is_some found
      → acted (Err NoPlace) shadow table ≡ grant session.redzone shadow table size
  no_place {i = i} is row_is asked_is u_is e nothing =
      sym
      (grant_no_place session.redzone shadow table size i (sym row_is ∙ is)
      (none_is (sym (sought asked_is u_is e)) nothing))

  pub inside : {asked u p : ℕ} {found : Option ℕ} → asked ≡ counted size → u ≡ granules asked
      → found ≡ place shadow session.redzone u → found ≡ Some p → p + granules asked ≤ length shadow
  inside {asked} {u} {p} asked_is u_is e is =
      let at : place shadow session.redzone (granules (counted size)) ≡ Some p = sought asked_is u_is e ∙ is in
      omega (
        arith,
        place_inside session.redzone shadow (counted size) p at,
        length_granted (counted size),
        ap granules asked_is,
      )

  pub address_fits : {asked u p : ℕ} {found : Option ℕ} → Lent session shadow table → asked ≡ counted size
      → u ≡ granules asked → found ≡ place shadow session.redzone u → found ≡ Some p → granule * p < 2 ^ 32
  address_fits lent asked_is u_is e is = place_fits _ _ _ _ (sought asked_is u_is e ∙ is) (lent_granules lent)

  pub granted_at : {asked u i p : ℕ} {row found : Option ℕ} {shadow_after table_after : List ℕ} {new : Row}
      → row ≡ Some i → row ≡ empty_row table → asked ≡ counted size → u ≡ granules asked
      → found ≡ place shadow session.redzone u → found ≡ Some p
      → shadow_after ≡ put shadow p (granted asked) → table_after ≡ put_row table i new → new ≡ granted_row p asked
      → acted (Ok (granule * p)) shadow_after table_after ≡ grant session.redzone shadow table size
  unfolding grant_at
  granted_at {i = i} {p = p} is row_is asked_is u_is e at painted put_is new_is =
      ap₂ (acted (Ok (granule * p)))
      (painted ∙ ap (λ s. put shadow p (granted s)) asked_is)
      (put_is ∙ ap (put_row table i) (new_is ∙ ap (granted_row p) asked_is))
      ∙ sym
      (grant_done session.redzone shadow table size i p (sym row_is ∙ is) (sought asked_is u_is e ∙ at))
