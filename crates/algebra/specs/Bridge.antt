-- The bridge between the lists of the definitions and the series over the residues modulo p. Assumes nothing.
--
-- The definitions compute over the natural numbers and take the remainder last, so each of their lists is `listed n s`: the first n
-- coefficients of a series s over the residues. What the algebra says of series so becomes equations of lists.
--
--   reduced l a            the series of the residues of a sequence of natural numbers
--   series_of l xs         the series of the residues of a list
--   listed n s             the first n coefficients of a series over the residues, as a list
--   listed_agree agree_listed   the lists of two series are equal exactly when the series agree below n
--   series-listed          the series of a list that was read off a series agrees with that series below n
--   listed-series          a list of n numbers below p is read off its own series
--   length-listed coefficient-listed   length and places of such a list
--   length-cut_product length-cut_sum   a cut product and a cut sum have n places
--   residue-series l       the semiring of series over the residues
--   scalars l              natural numbers as constant series
--   value l f s            the polynomial f, a list of natural numbers, at a series s
--   small-listed reduced-listed   tables of numbers below p, and of remainders
--   reduced-value          the series of a substitution is the value of f at the series of g
--   reduced-identity       the series of x is x
--   product-series constant-series identity-series power-series substituted-series
--                          the sequences of the definitions are those of the algebra, over the natural numbers
--   series_single          the series of a list of one place is a constant
--   composed-listed cut_product-listed cut_sum-listed cut_power-listed joined-listed spread_list-listed identity-listed
--                          each list of the definitions, read off a series
use Prim.Native.Nat.{ℕ, zero, suc, ◌+◌, ◌/◌, ◌%◌, ◌<◌}
use Rattle.std.specs.Prelude.{eqb, Bool, List, [], ◌∷◌, ◌≡◌, length}
use Rattle.std.proofs.Math.Bool.{true, false, cond}
use Rattle.std.proofs.Math.Path.{refl, ap, fun_ext}
use Rattle.std.proofs.Common.{sym, ◌∙◌, arith}
use native.Mathlib.Fin
use Rattle.std.proofs.Math.Nat.{mod-eq_of_lt}
use Rattle.algebra.specs.Agree.{Agree, agree_refl, agree_⊞}
use Rattle.algebra.specs.Evaluate.{evaluate, evaluate-sum, map-evaluate}
use Rattle.algebra.specs.Homomorphism.{
  Homomorphism,
  coefficients,
  coefficients-at,
  coefficients-constant,
  coefficients-indeterminate,
  coefficientwise,
  composite,
  constants,
  map-power,
}
use Rattle.algebra.specs.Lists.{tabulate_cong, coefficient-tabulate, length-tabulate, table_of, sum-naturals}
use Rattle.algebra.specs.Power.{power-0, power-suc}
use Rattle.algebra.specs.Power as Power
use Rattle.algebra.specs.Residue.{Residue, residue-value, residue-own, residue-+, residues, reduction}
use Rattle.algebra.specs.Semiring.{Semiring, naturals, ⊗_comm}
use Rattle.algebra.specs.Series.{
  Series,
  series,
  constant,
  indeterminate,
  indeterminate-0,
  indeterminate-shift,
  shift_suc,
  equal_by_tail,
  constant-0,
  constant-suc,
  constant-⊠-at,
  𝟙-constant,
  ⊞-at,
  ⊠-at,
  sum-at,
}
use Rattle.algebra.specs.Spread.{spread, spread-naturals, coefficients-spread}
use Rattle.algebra.specs.Sum as Sum
use Rattle.definition.specs.Bernstein as Bernstein
use Rattle.definition.specs.Bernstein.{spread_list}
use Rattle.definition.specs.Lists.{tabulate, coefficient}
use Rattle.definition.specs.Ranged.{cut_power_at, cut_power, joined}
use Rattle.definition.specs.Reversion.{identity, identity_at}
use Rattle.definition.specs.Substitution as Plain
use Rattle.definition.specs.Substitution.{
  product_term,
  product,
  power,
  substituted_term,
  substituted,
  composed_at,
  composed,
  cut_product_at,
  cut_product,
  cut_sum_at,
  cut_sum,
}

-- over the natural numbers

pub product-series : (a b : ℕ → ℕ) → product a b ≡ (series naturals).◌⊗◌ a b
unfolding product product_term
product-series a b = fun_ext λ k. sum-naturals (suc k) (product_term a b k) ∙ sym (⊠-at naturals a b k)

pub constant-series : (c : ℕ) → Plain.constant c ≡ constant naturals c
unfolding Plain.constant
constant-series c = fun_ext at
  where
    at : (k : ℕ) → Plain.constant c k ≡ constant naturals c k
    at zero = sym (constant-0 naturals c)
    at (suc k) = sym (constant-suc naturals c k)

pub identity-series : identity_at ≡ indeterminate naturals
unfolding identity_at
identity-series =
    equal_by_tail (sym (indeterminate-0 naturals))
    (λ k. rw (constant-series 1, indeterminate-shift naturals, shift_suc naturals, 𝟙-constant naturals))

pub power-series : (g : ℕ → ℕ) (i : ℕ) → power g i ≡ Power.power (series naturals) g i
unfolding power
power-series g zero = constant-series 1 ∙ sym (𝟙-constant naturals) ∙ sym (power-0 (series naturals) g)
power-series g (suc i) =
    product-series (power g i) g ∙ rw (power-series g i, ⊗_comm (series naturals), ← power-suc (series naturals))

pub substituted-series : (f : List ℕ) (g : ℕ → ℕ) → substituted f g ≡ evaluate (constants naturals) f g
unfolding substituted substituted_term coefficient
substituted-series f g = fun_ext λ k.
    rw (evaluate-sum (constants naturals) f g (length f) (omega arith), sum-at naturals)
    (sum-naturals (length f) (substituted_term f g k)
    ∙ Sum.sum_cong naturals (length f) _ _ (λ i b. rw (constant-⊠-at naturals, power-series)))

pub length-cut_product : (p n : ℕ) (a b : List ℕ) → length (cut_product p n a b) ≡ n
unfolding cut_product
length-cut_product p n a b = length-tabulate n (cut_product_at p a b)

pub length-cut_sum : (p n : ℕ) (a b : List ℕ) → length (cut_sum p n a b) ≡ n
unfolding cut_sum
length-cut_sum p n a b = length-tabulate n (cut_sum_at p a b)

module _ {p : ℕ} where
  pub listed : ℕ → Series (Residue p) → List ℕ
  listed n s = tabulate n (λ k. (s k).0)

  pub length-listed : (n : ℕ) (s : Series (Residue p)) → length (listed n s) ≡ n
  unfolding listed
  length-listed n s = length-tabulate n (λ k. (s k).0)

  pub coefficient-listed : (n : ℕ) (s : Series (Residue p)) (k : ℕ) → k < n → coefficient (listed n s) k ≡ (s k).0
  unfolding listed
  coefficient-listed n s k b = coefficient-tabulate n (λ k. (s k).0) k b

  pub listed_agree : {n : ℕ} {s t : Series (Residue p)} → Agree n s t → listed n s ≡ listed n t
  unfolding listed
  listed_agree {n} {s} {t} h = tabulate_cong n (λ k. (s k).0) (λ k. (t k).0) (λ k b. ap (λ r. r.0) (h k b))

  pub agree_listed : {n : ℕ} (s t : Series (Residue p)) → listed n s ≡ listed n t → Agree n s t
  agree_listed {n} s t e k b =
      Fin.val_path (sym (coefficient-listed n s k b) ∙ ap (λ xs. coefficient xs k) e ∙ coefficient-listed n t k b)

module _ {p : ℕ} (l : 0 < p) where
  abbrev pub reduced : (ℕ → ℕ) → Series (Residue p)
  reduced = coefficients (reduction l)

  abbrev pub series_of : List ℕ → Series (Residue p)
  series_of xs = reduced (coefficient xs)

  abbrev pub residue-series : Semiring (Series (Residue p))
  residue-series = series (residues l)

  abbrev pub scalars : Homomorphism naturals residue-series
  scalars = composite (constants (residues l)) (reduction l)

  abbrev pub value : List ℕ → Series (Residue p) → Series (Residue p)
  value f s = evaluate scalars f s

  open residue-series use {◌⊕◌ as ◌⊞◌, ◌⊗◌ as ◌⊠◌}

  pub series-listed : (n : ℕ) (s : Series (Residue p)) → Agree n (series_of (listed n s)) s
  series-listed n s k b = rw (coefficients-at (reduction l), coefficient-listed n s k b) (residue-own l (s k))

  pub small-listed : (n : ℕ) (a : ℕ → ℕ) → ((k : ℕ) → k < n → a k < p) → tabulate n a ≡ listed n (reduced a)
  unfolding listed
  small-listed n a h =
      tabulate_cong n a (λ k. (reduced a k).0) (λ k b. rw (coefficients-at (reduction l), residue-value l, mod-eq_of_lt (h k b)))

  pub listed-series : (n : ℕ) (xs : List ℕ) → length xs ≡ n → ((k : ℕ) → k < n → coefficient xs k < p) → listed n (series_of xs) ≡ xs
  listed-series n xs e h = sym (table_of n (coefficient xs) xs e (λ k b. refl) ∙ small-listed n (coefficient xs) h)

  pub reduced-listed : (n : ℕ) (a : ℕ → ℕ) → tabulate n (λ k. a k % p) ≡ listed n (reduced a)
  unfolding listed
  reduced-listed n a =
      tabulate_cong n (λ k. a k % p) (λ k. (reduced a k).0) (λ k b. rw (coefficients-at (reduction l), residue-value l))

  reduced-⊠ : (a b : ℕ → ℕ) → reduced (product a b) ≡ reduced a ⊠ reduced b
  reduced-⊠ a b = rw (product-series a b) ((coefficientwise (reduction l)).map-⊗ a b)

  reduced-⊞ : (a b : ℕ → ℕ) → reduced (λ k. a k + b k) ≡ reduced a ⊞ reduced b
  reduced-⊞ a b = fun_ext λ k. simp (coefficients-at (reduction l), ⊞-at (residues l), residue-+ l)

  pub reduced-value : (f : List ℕ) (g : ℕ → ℕ) → reduced (substituted f g) ≡ value f (reduced g)
  reduced-value f g =
      rw (substituted-series f g)
      (map-evaluate (coefficientwise (reduction l)) (constants naturals) scalars (coefficients-constant (reduction l)) f g)

  reduced-power : (g : List ℕ) (e : ℕ) → reduced (power (coefficient g) e) ≡ Power.power residue-series (series_of g) e
  reduced-power g e = rw (power-series (coefficient g) e) (map-power (coefficientwise (reduction l)) (coefficient g) e)

  pub series_single : (c : ℕ) → series_of (c ∷ []) ≡ scalars.map c
  unfolding coefficient Plain.constant
  series_single c = rw (fun_ext at, constant-series c) (coefficients-constant (reduction l) c)
    where
      at : (k : ℕ) → coefficient (c ∷ []) k ≡ Plain.constant c k
      at zero = refl
      at (suc k) = refl

  pub composed-listed : (n : ℕ) (f g : List ℕ) → composed p n f g ≡ listed n (value f (series_of g))
  unfolding composed composed_at
  composed-listed n f g =
      reduced-listed n (substituted f (coefficient g)) ∙ ap (listed n) (reduced-value f (coefficient g))

  pub cut_product-listed : (n : ℕ) (a b : List ℕ) → cut_product p n a b ≡ listed n (series_of a ⊠ series_of b)
  unfolding cut_product cut_product_at
  cut_product-listed n a b =
      reduced-listed n (product (coefficient a) (coefficient b)) ∙ ap (listed n) (reduced-⊠ (coefficient a) (coefficient b))

  pub cut_power-listed : (n : ℕ) (g : List ℕ) (e : ℕ) → cut_power p n g e ≡ listed n (Power.power residue-series (series_of g) e)
  unfolding cut_power cut_power_at
  cut_power-listed n g e = reduced-listed n (power (coefficient g) e) ∙ ap (listed n) (reduced-power g e)

  pub cut_sum-listed : (n : ℕ) (a b : List ℕ) → cut_sum p n a b ≡ listed n (series_of a ⊞ series_of b)
  unfolding cut_sum cut_sum_at
  cut_sum-listed n a b =
      reduced-listed n (λ k. coefficient a k + coefficient b k) ∙ ap (listed n) (reduced-⊞ (coefficient a) (coefficient b))

  pub joined-listed : (n : ℕ) (s t u : List ℕ) → joined p n s t u ≡ listed n (series_of s ⊞ series_of t ⊠ series_of u)
  unfolding joined
  joined-listed n s t u =
      rw (cut_sum-listed, cut_product-listed)
      (listed_agree (agree_⊞ (residues l) (agree_refl (series_of s)) (series-listed n (series_of t ⊠ series_of u))))

  -- a list that is spread holds numbers below p where the list does
  spread-below : (q : ℕ) (a : ℕ → ℕ) → ((k : ℕ) → a k < p) → (k : ℕ) → Bernstein.spread q a k < p
  unfolding Bernstein.spread
  spread-below q a h k = go (eqb (k % q) 0)
    where
      go : (b : Bool) → cond b (a (k / q)) 0 < p
      go true = h (k / q)
      go false = l

  pub spread_list-listed : (q n : ℕ) (s : List ℕ) → ((k : ℕ) → coefficient s k < p)
      → spread_list q n s ≡ listed n (spread (residues l) q (series_of s))
  unfolding spread_list
  spread_list-listed q n s h =
      small-listed n (Bernstein.spread q (coefficient s)) (λ k b. spread-below q (coefficient s) h k)
      ∙ ap (listed n) (rw (spread-naturals q (coefficient s)) (coefficients-spread (reduction l) q (coefficient s)))

  pub reduced-identity : reduced identity_at ≡ indeterminate (residues l)
  reduced-identity = rw identity-series (coefficients-indeterminate (reduction l))

  pub identity-listed : (n : ℕ) → 1 < p → identity n ≡ listed n (indeterminate (residues l))
  unfolding identity identity_at Plain.constant
  identity-listed n h =
      small-listed n identity_at (λ k b. small k) ∙ ap (listed n) reduced-identity
    where
      small : (k : ℕ) → identity_at k < p
      small zero = l
      small (suc zero) = h
      small (suc (suc k)) = l
