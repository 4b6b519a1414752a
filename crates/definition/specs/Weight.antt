-- The weight of a composition (01's term): the sum, over the products of its route, of the number of places that each is cut to. n is the
-- order, m the count of the outer list, p the modulus, b the block length of route 2.
--
--   horner_weight n m         route 1
--   ranged_weight b n m       route 2
--   bernstein_weight p n m    route 3
--   kinoshita_li_weight n m    route 4
--   weight route b p n m     the weight of the route of that number (01's term route); route 2 alone reads b
use Rattle.std.specs.Prelude.{ℕ, zero, suc, ◌+◌, ◌-◌, ◌*◌, ◌^◌, min, cond, leb, eqb}
use Rattle.std.specs.Int.Count.{ones, count_leading_zeros}
use Rattle.definition.specs.Lists.{sum, ceil_div}
use Rattle.definition.specs.Bernstein.{part_count}

-- one product of n places for each coefficient after the top one
unfoldable pub horner_weight : ℕ → ℕ → ℕ
horner_weight n m = (m - 1) * n

-- the products that form g^b: one squaring for each binary digit of b after the first, one product more for each of those that is 1
unfoldable pub power_products : ℕ → ℕ
power_products b = (32 - count_leading_zeros 32 b - 1) + (ones b - 1)

-- the products that join k blocks. Neighbours join, one product a pair, which leaves ⌈k/2⌉; if that is above 1, G is squared and they join
-- in the same way. The first argument bounds the number of rounds
unfoldable pub join_products : ℕ → ℕ → ℕ
join_products zero k = 0
join_products (suc rounds) k =
    cond (leb k 1) 0 (k - ceil_div k 2 + cond (leb (ceil_div k 2) 1) 0 (1 + join_products rounds (ceil_div k 2)))

-- Horner in each of k blocks is one product for each place but the top one; G and the joins only if there is more than one block
unfoldable pub ranged_products : ℕ → ℕ → ℕ → ℕ
ranged_products b m k = m - k + cond (leb k 1) 0 (power_products b + join_products k k)

unfoldable pub ranged_weight : ℕ → ℕ → ℕ → ℕ
ranged_weight b n m = ranged_products b m (ceil_div m b) * n

-- the q parts are joined by q - 1 products of n places; each part has its own weight, at order ⌈n/p⌉. The first argument bounds the depth
unfoldable pub bernstein_levels : ℕ → ℕ → ℕ → ℕ → ℕ
bernstein_levels zero p n m = 0
bernstein_levels (suc depth) p n m =
    cond (leb m 1) 0 ((min p m - 1) * n + sum (min p m) (λ j. bernstein_levels depth p (ceil_div n p) (part_count p j m)))

unfoldable pub bernstein_weight : ℕ → ℕ → ℕ → ℕ
bernstein_weight p n m = bernstein_levels m p n m

-- the bound on the degree of Q in y one level down: it doubles, up to m - 1
unfoldable pub degree_bound : ℕ → ℕ → ℕ
degree_bound m q = min (2 * q) (m - 1)

-- the least K from k on with 2^K at least n; the first argument bounds the search
unfoldable pub halvings_from : ℕ → ℕ → ℕ → ℕ
halvings_from zero k n = k
halvings_from (suc tries) k n = cond (leb n (2 ^ k)) k (halvings_from tries (suc k) n)

-- K: the number of halvings of the order n
unfoldable pub halvings : ℕ → ℕ
halvings n = halvings_from n 0 n

-- K levels from order r on, with the bound q on the degree of Q in y, with d and with w = m - d: Q(x, y) Q(-x, y) has r (q' + 1) places, and
-- the product that is kept has r w
unfoldable pub kinoshita_li_levels : ℕ → ℕ → ℕ → ℕ → ℕ → ℕ
kinoshita_li_levels zero m r q d = 0
kinoshita_li_levels (suc levels) m r q d =
    r * (degree_bound m q + 1 + (m - d)) + kinoshita_li_levels levels m (ceil_div r 2) (degree_bound m q) (d - q)

unfoldable pub kinoshita_li_weight : ℕ → ℕ → ℕ
kinoshita_li_weight n m = cond (eqb m 0) 0 (kinoshita_li_levels (halvings n) m n (min 1 (m - 1)) (m - 1))

unfoldable pub weight : ℕ → ℕ → ℕ → ℕ → ℕ → ℕ
weight route b p n m =
    cond (eqb route 1) (horner_weight n m)
    (cond (eqb route 2) (ranged_weight b n m) (cond (eqb route 3) (bernstein_weight p n m) (kinoshita_li_weight n m)))
