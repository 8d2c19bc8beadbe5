-- Whether a session fits what is lent, as the refusal 24 says it. Assumes nothing.
use Prim.Native.Nat.{ℕ}
use mathlib.Core.Path.{◌≡◌, refl, ◌∙◌}
use mathlib.Core.Bool.{true, false}
use mathlib.Core.List.{List}
use Rattle.std.specs.Prelude.{Ok, Err}
use Rattle.rules.specs.declared.Session.{Session}
use Rattle.rules.specs.declared.CallRefusal.{CallRefusal}
use Rattle.rules.specs.declared.CallRefusal.TheVariants.{BadSession}
use Rattle.rules.specs.Calls.{fits_lent, Lent}
use Rattle.rules.proofs.Tests.{by_test, if_true, if_false}
use Rattle.rules.proofs.Calls.{lent_true}
use Rattle.watcher.specs.Calls.{fits_or_refused}

-- there is one refusal
pub one_refusal : (refusal : CallRefusal) → refusal ≡ BadSession
one_refusal BadSession = refl

module _ (session : Session) (shadow table : List ℕ) where
  pub fits_true : {u : Unit {0}} → Ok u ≡ fits_or_refused session shadow table → fits_lent session shadow table ≡ true
  unfolding fits_or_refused
  fits_true {u} e =
      by_test (fits_lent session shadow table) (λ passes. passes) (λ fails. let other = e ∙ if_false _ _ fails in cc)

  pub fits_false : {refusal : CallRefusal} → Err refusal ≡ fits_or_refused session shadow table
      → fits_lent session shadow table ≡ false
  unfolding fits_or_refused
  fits_false {refusal} e =
      by_test (fits_lent session shadow table) (λ passes. let other = e ∙ if_true _ _ passes in cc) (λ fails. fails)

  pub fits_lends : {u : Unit {0}} → Ok u ≡ fits_or_refused session shadow table → Lent session shadow table
  fits_lends e = lent_true session shadow table (fits_true e)
