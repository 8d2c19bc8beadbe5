-- `watcher::release` meets its contract: 24 where the session does not fit what is lent, else as its frame does.
-- Assumes nothing.
use mathlib.Core.Path.{◌≡◌, sym, ap, ◌∙◌}
use Rattle.std.proofs.Common.{rules}
use Rattle.std.specs.Prelude.{Err}
use Rattle.rules.specs.Calls.{as_line, release_call}
use Rattle.rules.proofs.Tests.{if_true}
use Rattle.rules.proofs.Calls.{release_24}
use Rattle.watcher.proofs.Calls.{release_call_is}
use Rattle.watcher.proofs.Fitting.{one_refusal, fits_true, fits_false, fits_lends}
use Rattle.watcher.proofs.release.Goals as goal

pub returns-in_err-fits : goal.returns-in_err-fits
returns-in_err-fits c =
    let refused : c.from_residual.result ≡ Err c.in_err-fits.field-0.0 = search rules in
    rw (refused, one_refusal c.in_err-fits.field-0.0)
    (release_call_is (sym (release_24 c.args.session _ _ c.args.address (fits_false _ _ _ c.in_err-fits.ensures))))

pub release-requires : goal.release-requires
release-requires c = fits_lends _ _ _ c.in_ok-fits.ensures

pub returns : goal.returns
unfolding release_call
returns c = release_call_is (ap as_line c.release.ensures ∙ sym (if_true _ _ (fits_true _ _ _ c.in_ok-fits.ensures)))
