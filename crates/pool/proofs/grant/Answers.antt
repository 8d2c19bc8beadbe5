-- `pool::grant` meets its contract, by the row and the place that were found. Assumes nothing.
use native.Mathlib.Omega.{arith}
use mathlib.Core.Path.{◌≡◌}
use Rattle.std.proofs.Common.{rules}
use Rattle.std.specs.Prelude.{Err}
use Rattle.rules.specs.declared.Refusal.TheVariants.{NoRow, NoPlace}
use Rattle.rules.proofs.Calls.{lent_redzone}
use Rattle.pool.proofs.Granting.{no_row, row_below, granules_most, no_place, inside, address_fits, granted_at}
use Rattle.pool.proofs.grant.Goals as goal

pub returns-in_err-row : goal.returns-in_err-row
returns-in_err-row c =
    let refused : c.from_residual.result ≡ Err NoRow = search rules in
    rw refused (no_row c.args.session _ _ c.args.size c.empty_row.ensures c.in_err-row.ensures.variant)

pub place-requires : goal.place-requires
place-requires c = record {
  redzone = lent_redzone c.requires;
  granules = granules_most c.args.session c.args.shadow.now c.args.table.now c.args.size c.ranges.size.fits
      c.counted-asked.ensures c.granules_of-granules.ensures;
}

pub returns-in_err-place : goal.returns-in_err-place
returns-in_err-place c =
    let refused : c.from_residual-in_err-place.result ≡ Err NoPlace = search rules in
    rw refused (no_place c.args.session _ _ c.args.size c.in_ok-row.ensures.ok_part c.empty_row.ensures
    c.counted-asked.ensures c.granules_of-granules.ensures c.place.ensures c.in_err-place.ensures.variant)

pub grant-requires : goal.grant-requires
grant-requires c =
    inside c.args.session c.args.shadow.now c.args.table.now c.args.size c.counted-asked.ensures
    c.granules_of-granules.ensures c.place.ensures c.in_ok-place.ensures.ok_part

pub overflow_cast-place : goal.overflow_cast-place
overflow_cast-place c = record {
  fits = omega (
    arith,
    address_fits c.args.session _ _ c.args.size c.requires c.counted-asked.ensures
        c.granules_of-granules.ensures c.place.ensures c.in_ok-place.ensures.ok_part,
  );
}

pub put_row-requires : goal.put_row-requires
put_row-requires c =
    row_below c.args.session c.args.shadow.now c.args.table.now c.args.size c.in_ok-row.ensures.ok_part
    c.empty_row.ensures

pub overflow_cast-result : goal.overflow_cast-result
overflow_cast-result c = record {
  fits = address_fits c.args.session _ _ c.args.size c.requires c.counted-asked.ensures
      c.granules_of-granules.ensures c.place.ensures c.in_ok-place.ensures.ok_part;
}

pub returns : goal.returns
returns c =
    granted_at c.args.session _ _ c.args.size c.in_ok-row.ensures.ok_part c.empty_row.ensures c.counted-asked.ensures
    c.granules_of-granules.ensures c.place.ensures c.in_ok-place.ensures.ok_part c.grant.ensures c.put_row.ensures
    c.granted_row.ensures
