-- The twelve settled examples of 01 and the cases of requests N1 and N3, as rows of one table with one theorem.
--
--   Example     a row of the table: a job and its result
--   Holds e     what the row says of the definitions
--   examples    the table, in the order of 01, then N1's case, then N3's: what the cycles leave, and each cycle
--   settled     every row of the table holds
--
-- Assumes nothing.
use Rattle.std.specs.Prelude.{ℕ, suc, ◌≡◌, refl, false, List, [], ◌∷◌, length, replicate}
use Rattle.definition.specs.Lists.{sum, tabulate, coefficient, ceil_div}
use Rattle.definition.specs.Substitution.{product_term, product, constant, power, substituted_term, substituted, composed_at, composed}
use Rattle.definition.specs.Ranged.{block_length}
use Rattle.definition.specs.Bernstein.{part_count}
use Rattle.definition.specs.Weight.{
  horner_weight,
  power_products,
  join_products,
  ranged_products,
  ranged_weight,
  bernstein_levels,
  bernstein_weight,
  degree_bound,
  halvings_from,
  halvings,
  kinoshita_li_levels,
  kinoshita_li_weight,
  weight,
}
use Rattle.definition.specs.Prime.{indivisible, is_prime, largest_modulus}
use Rattle.definition.specs.Refusal.{test, first, compose_work, cycle_work, bad_route, bad_block, bad_modulus, bad_order, too_long, not_places, exceeds, irreversible, has_constant, compose_refusal, reverse_refusal, cycle_refusal}
use Rattle.definition.specs.Taylor.{binomial, shifted_term, shifted, least_power, valuation, leading_at, leading}
use Rattle.definition.specs.Reversion.{identity_at, identity, Reversion}
use Rattle.definition.specs.Running.{composition, running_at, running}

pub data Example : Type 0 where
  -- route, p, n, f, g; the output and the weight
  composing : ℕ → ℕ → ℕ → List ℕ → List ℕ → List ℕ → ℕ → Example
  -- route, p, n, the count of f; the weight
  weighing : ℕ → ℕ → ℕ → ℕ → ℕ → Example
  -- the same for every p
  weighing_any : ℕ → ℕ → ℕ → ℕ → Example
  -- n, the count of f; the weights of route 2 for every p, at the block lengths from 1 on
  weighing_lengths : ℕ → ℕ → List ℕ → Example
  -- p, n, g; the reverse series
  reversing : ℕ → ℕ → List ℕ → List ℕ → Example
  -- p, n, g; the refusal
  not_reversing : ℕ → ℕ → List ℕ → ℕ → Example
  -- p, n, g, two outer lists; the output of both
  equal : ℕ → ℕ → List ℕ → List ℕ → List ℕ → List ℕ → Example
  -- p, n, the cycles of a chain in their order; the running series
  chaining : ℕ → ℕ → List (List ℕ) → List ℕ → Example
  -- route, p, n, the cycles done, the running series, the cycle list; the running series afterwards and the weight
  cycling : ℕ → ℕ → ℕ → ℕ → List ℕ → List ℕ → List ℕ → ℕ → Example

abbrev pub Holds : Example → Type 0
Holds (composing route p n f g out w) =
    (compose_refusal route block_length p n f g n (compose_work n (length f)) ≡ 0)
    × (composed p n f g ≡ out)
    × (weight route block_length p n (length f) ≡ w)
Holds (weighing route p n m w) = weight route block_length p n m ≡ w
Holds (weighing_any route n m w) = (p : ℕ) → weight route block_length p n m ≡ w
Holds (weighing_lengths n m ws) = (p : ℕ) → tabulate (length ws) (λ i. weight 2 (suc i) p n m) ≡ ws
Holds (reversing p n g h) = (reverse_refusal p n g n (compose_work n (length g)) ≡ 0) × Reversion p n g h
Holds (not_reversing p n g number) = reverse_refusal p n g n (compose_work n (length g)) ≡ number
Holds (equal p n g f₁ f₂ out) = (composed p n f₁ g ≡ out) × (composed p n f₂ g ≡ out) × (leading p n f₁ g ≡ leading p n f₂ g)
Holds (chaining p n cs s) = running p n cs ≡ s
Holds (cycling route p n done s c s' w) =
    (cycle_refusal route block_length (record { modulus = p; order = n; done = done }) c s (cycle_work n (length c)) ≡ 0)
    × (composed p n s c ≡ s')
    × (weight route block_length p n n ≡ w)

-- every row of a table holds
abbrev pub Every : List Example → Type 0
Every [] = Unit
Every (e ∷ es) = Holds e × Every es

infixr 20 ◌and◌
◌and◌ : {A B : Type 0} → A → B → A × B
◌and◌ a b = (a, b)

-- the four parts of a reversion, each found by computing
reversion : {p n : ℕ} {g h : List ℕ} → length h ≡ n → exceeds p h ≡ false → coefficient h 0 ≡ 0 → composed p n g h ≡ identity n → Reversion p n g h
reversion l b c r = record { places = l; below = b; no_constant = c; reverses = r }

abbrev pub examples : List Example
examples =
    composing 1 7 4 (1 ∷ 2 ∷ 3 ∷ []) (0 ∷ 1 ∷ 1 ∷ []) (1 ∷ 2 ∷ 5 ∷ 6 ∷ []) 8
    ∷ composing 3 5 4 (1 ∷ 2 ∷ 3 ∷ []) (0 ∷ 1 ∷ 1 ∷ []) (1 ∷ 2 ∷ 0 ∷ 1 ∷ []) 8
    ∷ composing 4 7 4 (1 ∷ 2 ∷ 3 ∷ []) (0 ∷ 1 ∷ 1 ∷ []) (1 ∷ 2 ∷ 5 ∷ 6 ∷ []) 26
    ∷ composing 3 2 3 (1 ∷ 0 ∷ 1 ∷ []) (1 ∷ 1 ∷ []) (0 ∷ 0 ∷ 1 ∷ []) 5
    ∷ composing 4 7 1 (3 ∷ 4 ∷ []) (2 ∷ []) (4 ∷ []) 0
    ∷ weighing_any 2 4 9 44
    ∷ weighing 3 2 4 9 13
    ∷ reversing 7 4 (0 ∷ 1 ∷ 1 ∷ []) (0 ∷ 1 ∷ 6 ∷ 2 ∷ [])
    ∷ reversing 2 4 (0 ∷ 1 ∷ 1 ∷ []) (0 ∷ 1 ∷ 1 ∷ 0 ∷ [])
    ∷ not_reversing 7 2 (0 ∷ 0 ∷ 1 ∷ []) 9
    ∷ reversing 7 1 (0 ∷ 0 ∷ 1 ∷ []) (0 ∷ [])
    ∷ equal 7 3 (0 ∷ 0 ∷ 1 ∷ []) (1 ∷ 1 ∷ []) (1 ∷ 1 ∷ 5 ∷ []) (1 ∷ 0 ∷ 1 ∷ [])
    ∷ weighing_lengths 4 9 (44 ∷ 44 ∷ 44 ∷ 44 ∷ 44 ∷ 44 ∷ 48 ∷ 44 ∷ replicate 56 32)
    ∷ chaining 7 5 ((0 ∷ 1 ∷ 1 ∷ []) ∷ (0 ∷ 1 ∷ 2 ∷ []) ∷ []) (0 ∷ 1 ∷ 3 ∷ 4 ∷ 4 ∷ [])
    ∷ cycling 1 7 5 0 (identity 5) (0 ∷ 1 ∷ 1 ∷ []) (0 ∷ 1 ∷ 1 ∷ 0 ∷ 0 ∷ []) 20
    ∷ cycling 1 7 5 1 (0 ∷ 1 ∷ 1 ∷ 0 ∷ 0 ∷ []) (0 ∷ 1 ∷ 2 ∷ []) (0 ∷ 1 ∷ 3 ∷ 4 ∷ 4 ∷ []) 20
    ∷ cycling 2 7 5 1 (0 ∷ 1 ∷ 1 ∷ 0 ∷ 0 ∷ []) (0 ∷ 1 ∷ 2 ∷ []) (0 ∷ 1 ∷ 3 ∷ 4 ∷ 4 ∷ []) 30
    ∷ cycling 3 7 5 1 (0 ∷ 1 ∷ 1 ∷ 0 ∷ 0 ∷ []) (0 ∷ 1 ∷ 2 ∷ []) (0 ∷ 1 ∷ 3 ∷ 4 ∷ 4 ∷ []) 20
    ∷ cycling 4 7 5 1 (0 ∷ 1 ∷ 1 ∷ 0 ∷ 0 ∷ []) (0 ∷ 1 ∷ 2 ∷ []) (0 ∷ 1 ∷ 3 ∷ 4 ∷ 4 ∷ []) 59
    ∷ []

pub settled : Every examples
unfolding sum tabulate coefficient ceil_div product_term product constant power substituted_term substituted composed_at composed part_count horner_weight power_products join_products ranged_products ranged_weight bernstein_levels bernstein_weight degree_bound halvings_from halvings kinoshita_li_levels kinoshita_li_weight weight lib.Count.ones lib.Count.ones_in lib.Count.count_leading_zeros indivisible is_prime largest_modulus test first bad_route bad_block bad_modulus bad_order too_long not_places exceeds irreversible has_constant compose_refusal reverse_refusal cycle_refusal binomial shifted_term shifted least_power valuation leading_at leading identity_at identity composition running_at running
settled =
    (refl, refl, refl)
    and (refl, refl, refl)
    and (refl, refl, refl)
    and (refl, refl, refl)
    and (refl, refl, refl)
    and (λ p. refl)
    and refl
    and (refl, reversion refl refl refl refl)
    and (refl, reversion refl refl refl refl)
    and refl
    and (refl, reversion refl refl refl refl)
    and (refl, refl, refl)
    and (λ p. refl)
    and refl
    and (refl, refl, refl)
    and (refl, refl, refl)
    and (refl, refl, refl)
    and (refl, refl, refl)
    and (refl, refl, refl)
    and tt
