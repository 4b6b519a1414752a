-- The series a(-x), and the even and odd parts of a series. Assumes nothing.
--
--   even a odd a          the series of the coefficients at even and at odd places
--   equal_by_parity       series are equal if their even and their odd parts are
--   even-spread           the even part of s(x²) is s
--   even_fixed            s is its own even part if s(x²) is s
--   0<2                   the premise of the laws of `spread R 2`
--   split                 a is E(x²) + x O(x²), with E and O its even and its odd part
--   even-split odd-split  and E and O are the even and the odd part of that
--   spread-indeterminate  x² is x x
--   alternation R N       the homomorphism of series that puts -x for x
--   alternate R N a       a(-x)
--   alternate-at          coefficient i of a(-x) is a_i if i is even, else -a_i
--   alternate-split       a(-x) is E(x²) - x O(x²)
use Rattle.std.specs.Prelude.{ℕ, zero, suc, ◌*◌, ◌/◌, ◌%◌, ◌<◌, eqb, cond, ◌≡◌, refl}
use Rattle.std.proofs.Common.{sym, ap, ◌∙◌, arith}
use Rattle.std.proofs.Math.Path.{fun_ext}
use Rattle.std.proofs.Math.Nat.{mul-mod_right, mul-div_cancel_left}
use Rattle.algebra.specs.Homomorphism.{Homomorphism}
use Rattle.algebra.specs.Negation.{Negation, neg-⊗, neg-𝟘, neg-neg}
use Rattle.algebra.specs.Power.{power-suc, power-1}
use Rattle.algebra.specs.Semiring.{Semiring, 𝟘-⊕, 𝟘-⊗, ⊕-𝟘}
use Rattle.algebra.specs.Series.{
  Series,
  series,
  series_negation,
  tail,
  constant,
  constant-0,
  constant-suc,
  shift,
  shift-0,
  shift_suc,
  indeterminate,
  indeterminate-0,
  indeterminate-⊠,
  ⊞-at,
  ⊠-0,
  neg-at,
}
use Rattle.algebra.specs.Spread.{spread, spread_at, spread-substitute}
use Rattle.algebra.specs.Substitution.{substitution, substitute_horner, substitute-indeterminate}

abbrev pub even : {A : Type 0} → Series A → Series A
even a i = a (2 * i)

abbrev pub odd : {A : Type 0} → Series A → Series A
odd a i = a (suc (2 * i))

pub 0<2 : 0 < 2
0<2 = omega arith

odd-mod : (i : ℕ) → suc (2 * i) % 2 ≡ 1
odd-mod i = omega arith

pub equal_by_parity : {A : Type 0} {a b : Series A}
    → ((i : ℕ) → even a i ≡ even b i) → ((i : ℕ) → odd a i ≡ odd b i) → a ≡ b
equal_by_parity {a} {b} h g = fun_ext (λ i. at i (i % 2) refl)
  where
    at : (i j : ℕ) → i % 2 ≡ j → a i ≡ b i
    at i zero e = let f : i ≡ 2 * (i / 2) = omega arith in rw f (h (i / 2))
    at i (suc j) e = let f : i ≡ suc (2 * (i / 2)) = omega arith in rw f (g (i / 2))

module _ {A : Type 0} (R : Semiring A) where
  open R use {𝟘}
  open series R use {◌⊕◌ as ◌⊞◌, ◌⊗◌ as ◌⊠◌}

  infixl 50 ◌⊞◌
  infixl 60 ◌⊠◌
  spread-even : (s : Series A) (i : ℕ) → spread R 2 s (2 * i) ≡ s i
  spread-even s i = rw (spread_at R 2, mul-mod_right, mul-div_cancel_left i 0<2)

  pub even-spread : (s : Series A) → even (spread R 2 s) ≡ s
  even-spread s = fun_ext (spread-even s)

  pub even_fixed : {s : Series A} → spread R 2 s ≡ s → even s ≡ s
  even_fixed {s} e = ap even (sym e) ∙ even-spread s

  spread-odd : (s : Series A) (i : ℕ) → spread R 2 s (suc (2 * i)) ≡ 𝟘
  spread-odd s i = rw (spread_at R 2, odd-mod)

  shift-spread-even : (s : Series A) (i : ℕ) → shift R (spread R 2 s) (2 * i) ≡ 𝟘
  shift-spread-even s zero = shift-0 R (spread R 2 s)
  shift-spread-even s (suc i) =
      let e : 2 * suc i ≡ suc (suc (2 * i)) = omega arith in rw (e, shift_suc R, spread-odd)

  module _ (e o : Series A) where
    pub even-split : even (spread R 2 e ⊞ indeterminate R ⊠ spread R 2 o) ≡ e
    even-split = rw (indeterminate-⊠ R) (fun_ext λ i. rw (⊞-at R, spread-even, shift-spread-even, ⊕-𝟘 R))

    pub odd-split : odd (spread R 2 e ⊞ indeterminate R ⊠ spread R 2 o) ≡ o
    odd-split = rw (indeterminate-⊠ R) (fun_ext λ i. rw (⊞-at R, spread-odd, shift_suc R, spread-even, 𝟘-⊕ R))

  pub split : (a : Series A) → a ≡ spread R 2 (even a) ⊞ indeterminate R ⊠ spread R 2 (odd a)
  split a = equal_by_parity
      (λ i. ap (λ s. s i) (sym (even-split (even a) (odd a))))
      (λ i. ap (λ s. s i) (sym (odd-split (even a) (odd a))))

  pub spread-indeterminate : spread R 2 (indeterminate R) ≡ indeterminate R ⊠ indeterminate R
  spread-indeterminate =
      rw (spread-substitute R 2 0<2 (indeterminate R), power-suc (series R), power-1 (series R))
      (substitute-indeterminate R _ (rw (⊠-0 R, indeterminate-0 R, 𝟘-⊗ R)))

module _ {A : Type 0} (R : Semiring A) (N : Negation R) where
  open R use {𝟘}
  open N use {neg}
  open series R use {◌⊕◌ as ◌⊞◌, ◌⊗◌ as ◌⊠◌}
  open series_negation R N use {neg as negˢ}

  infixl 50 ◌⊞◌
  infixl 60 ◌⊠◌
  -x : Series A
  -x = negˢ (indeterminate R)

  -x-0 : -x 0 ≡ 𝟘
  unfolding -x
  -x-0 = rw (neg-at R N, indeterminate-0 R, neg-𝟘 R N)

  pub alternation : Homomorphism (series R) (series R)
  alternation = substitution R -x -x-0

  abbrev pub alternate : Series A → Series A
  alternate = alternation.map

  alternate_horner : (a : Series A) → alternate a ≡ constant R (a 0) ⊞ negˢ (shift R (alternate (tail a)))
  unfolding alternation -x
  alternate_horner a =
      rw (substitute_horner R -x -x-0 a, neg-⊗ (series R) (series_negation R N), indeterminate-⊠ R)

  alternate-0 : (a : Series A) → alternate a 0 ≡ a 0
  alternate-0 a = rw (alternate_horner a, ⊞-at R, constant-0 R, neg-at R N, shift-0 R, neg-𝟘 R N, ⊕-𝟘 R)

  alternate-suc : (a : Series A) (i : ℕ) → alternate a (suc i) ≡ neg (alternate (tail a) i)
  alternate-suc a i = rw (alternate_horner a, ⊞-at R, constant-suc R, neg-at R N, shift_suc R, 𝟘-⊕ R)

  pub alternate-at : (a : Series A) (i : ℕ) → alternate a i ≡ cond (eqb (i % 2) 0) (a i) (neg (a i))
  alternate-at a zero = alternate-0 a
  alternate-at a (suc zero) = rw (alternate-suc, alternate-0)
  alternate-at a (suc (suc i)) =
      let e : suc (suc i) % 2 ≡ i % 2 = omega arith in
      rw (alternate-suc, alternate-suc, neg-neg R N, e) (alternate-at (λ k. a (suc (suc k))) i)

  pub alternate-split : (a : Series A) → alternate a ≡ spread R 2 (even a) ⊞ negˢ (indeterminate R ⊠ spread R 2 (odd a))
  alternate-split a = rw (indeterminate-⊠ R) (equal_by_parity
      (λ i. rw (⊞-at R, spread-even R, neg-at R N, shift-spread-even R, neg-𝟘 R N, ⊕-𝟘 R, alternate-at, mul-mod_right))
      (λ i. rw (⊞-at R, spread-odd R, neg-at R N, shift_suc R, spread-even R, 𝟘-⊕ R, alternate-at, odd-mod)))
