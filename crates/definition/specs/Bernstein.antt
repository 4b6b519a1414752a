-- Route 3, Bernstein (document 000, section 2).
--
--   part_count p j m   the count of places j, j + p, j + 2p and on below m
--   part p j f        the part of f that holds its coefficients j, j + p, j + 2p and on
--   pth_powers p g     h: the list of the p-th powers of g's coefficients modulo p
--   spread p s        the series s with x^p put for y: s(k / p) where p divides k, else 0
--   spread_list p n s  the same of a list, cut to n places
use Rattle.std.specs.Prelude.{ℕ, ◌+◌, ◌-◌, ◌*◌, ◌/◌, ◌%◌, ◌^◌, cond, List, eqb, length}
use Rattle.definition.specs.Lists.{tabulate, coefficient, ceil_div}

unfoldable pub part_count : ℕ → ℕ → ℕ → ℕ
part_count p j m = ceil_div (m - j) p

unfoldable pub part_at : ℕ → ℕ → List ℕ → ℕ → ℕ
part_at p j f i = coefficient f (j + p * i)

unfoldable pub part : ℕ → ℕ → List ℕ → List ℕ
part p j f = tabulate (part_count p j (length f)) (part_at p j f)

unfoldable pub pth_power_at : ℕ → List ℕ → ℕ → ℕ
pth_power_at p g i = coefficient g i ^ p % p

unfoldable pub pth_powers : ℕ → List ℕ → List ℕ
pth_powers p g = tabulate (length g) (pth_power_at p g)

unfoldable pub spread : ℕ → (ℕ → ℕ) → ℕ → ℕ
spread p s k = cond (eqb (k % p) 0) (s (k / p)) 0

unfoldable pub spread_list : ℕ → ℕ → List ℕ → List ℕ
spread_list p n s = tabulate n (spread p (coefficient s))
