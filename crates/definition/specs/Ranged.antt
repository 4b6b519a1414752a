-- Route 2, ranged Horner (document 004, Algorithm 2), over the block length b, which a caller chooses.
--
--   block_length          the block length where none is given: 4
--   block b j f          the part of f that begins at place b j, at most b long
--   cut_power p n g e     g^e modulo p, cut to n places
--   joined p n s t u     even + odd × G, cut to n places: two neighbours s and t become s + t × u
use Rattle.std.specs.Prelude.{ℕ, ◌*◌, ◌%◌, List, take, drop}
use Rattle.definition.specs.Lists.{tabulate, coefficient}
use Rattle.definition.specs.Substitution.{cut_product, cut_sum, power}

abbrev pub block_length : ℕ
block_length = 4

unfoldable pub block : ℕ → ℕ → List ℕ → List ℕ
block b j f = take b (drop (b * j) f)

unfoldable pub cut_power_at : ℕ → List ℕ → ℕ → ℕ → ℕ
cut_power_at p g e k = power (coefficient g) e k % p

unfoldable pub cut_power : ℕ → ℕ → List ℕ → ℕ → List ℕ
cut_power p n g e = tabulate n (cut_power_at p g e)

unfoldable pub joined : ℕ → ℕ → List ℕ → List ℕ → List ℕ → List ℕ
joined p n s t u = cut_sum p n s (cut_product p n t u)
