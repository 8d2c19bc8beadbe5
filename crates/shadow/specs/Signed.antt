-- The paper's rule of the shadow byte, read as a signed byte.
use Rattle.std.specs.Prelude.{ℕ, zero, suc, true, false, ltb, ℤ, pos, negsuc}
use Rattle.rules.specs.Limits.{granule}

-- negative: none. 0: all 8. 1 to 7: as many as the byte says. 08 to 7f: none
unfoldable pub by_sign : ℤ → ℕ
by_sign (negsuc m) = 0
by_sign (pos zero) = granule
by_sign (pos (suc n)) = elim (ltb (suc n) granule) [ true ↦ suc n | false ↦ 0 ]
