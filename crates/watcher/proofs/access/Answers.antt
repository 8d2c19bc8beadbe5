-- `watcher::access` meets its contract: 24 where the session does not fit what is lent, else as its frames do. Assumes
-- nothing.
use mathlib.Core.Path.{◌≡◌, sym, ap, ◌∙◌}
use Rattle.std.proofs.Common.{rules}
use Rattle.std.specs.Prelude.{Ok, Err}
use Rattle.rules.specs.Calls.{access_call}
use Rattle.rules.proofs.Tests.{if_true}
use Rattle.rules.proofs.Calls.{lent_granules, access_24}
use Rattle.watcher.proofs.Fitting.{one_refusal, fits_true, fits_false, fits_lends}
use Rattle.watcher.proofs.access.Goals as goal

pub returns-in_err-fits : goal.returns-in_err-fits
returns-in_err-fits c =
    let refused : c.from_residual.result ≡ Err c.in_err-fits.field-0.0 = search rules in
    rw (refused, one_refusal c.in_err-fits.field-0.0)
    (record {
      answer = sym (access_24 c.args.session c.args.shadow.now c.args.table.now c.args.address c.args.length
          (fits_false _ _ _ c.in_err-fits.ensures));
    })

pub access-requires : goal.access-requires
access-requires c = lent_granules (fits_lends _ _ _ c.in_ok-fits.ensures)

pub returns : goal.returns
unfolding access_call
returns c = record { answer = ap Ok c.access.ensures ∙ sym (if_true _ _ (fits_true _ _ _ c.in_ok-fits.ensures)) }
