-- Agreement of two series below a place. Assumes nothing.
--
--   Agree n a b       a and b have the same coefficients below n
--   Vanish R n a      a has coefficients 𝟘 below n
--   agree_refl agree_sym agree_trans   agreement is an equivalence
--   agree_equal equal_agree   equal series agree; series that agree below every place are equal
--   agree_weaken      agreement below n gives agreement below m ≤ n
--   agree_1 agree_suc   agreement below 1, and one place further
--   agree_⊞ agree_⊠ agree_power agree_sum agree_neg   the operations respect agreement
--   vanish_𝟘          a series vanishes below n if it agrees with 𝟘 there, and the other way round
--   vanish_agree_⊠    a factor that vanishes below i carries agreement i places further
--   vanish_⊠ vanish_multiple vanish_power vanish_neg   products, powers and negatives of series that vanish below a place
--   agree_⊞_vanish    a summand that vanishes below n may be left out there
--   agree_difference  the difference of series that agree below n vanishes there
use Rattle.std.specs.Prelude.{ℕ, zero, suc, ◌+◌, ◌*◌, ◌<◌, ◌≤◌, ◌↔◌, ◌≡◌, refl}
use Rattle.std.proofs.Common.{sym, ap, ◌∙◌, add_comm, lt-suc_self, suc-mul, zero-mul, arith}
use Rattle.std.proofs.Math.Path.{fun_ext}
use Rattle.std.proofs.Math.Decide.{dec_lt}
use Rattle.algebra.specs.Negation.{Negation, neg-𝟘, ⊕-neg}
use Rattle.algebra.specs.Power.{power, power-0, power-suc}
use Rattle.algebra.specs.Semiring.{Semiring, ⊕-𝟘, 𝟘-⊗, ⊗-𝟘}
use Rattle.algebra.specs.Series.{Series, series, series_negation, 𝟘-at, ⊞-at, ⊠-0, ⊠-suc, neg-at}
use Rattle.algebra.specs.Sum.{sum, sum-0, sum-suc}

abbrev pub Agree : {A : Type 0} → ℕ → Series A → Series A → Type 0
Agree n a b = (k : ℕ) → k < n → a k ≡ b k

module _ {A : Type 0} where
  pub agree_refl : {n : ℕ} (a : Series A) → Agree n a a
  agree_refl a k l = refl

  pub agree_sym : {n : ℕ} {a b : Series A} → Agree n a b → Agree n b a
  agree_sym h k l = sym (h k l)

  pub agree_trans : {n : ℕ} {a b c : Series A} → Agree n a b → Agree n b c → Agree n a c
  agree_trans h g k l = h k l ∙ g k l

  pub agree_equal : {n : ℕ} {a b : Series A} → a ≡ b → Agree n a b
  agree_equal e k l = ap (λ s. s k) e

  pub equal_agree : {a b : Series A} → ((n : ℕ) → Agree n a b) → a ≡ b
  equal_agree h = fun_ext λ k. h (suc k) k (lt-suc_self k)

  pub agree_weaken : {m n : ℕ} {a b : Series A} → m ≤ n → Agree n a b → Agree m a b
  agree_weaken l h k b = h k (omega arith)

  pub agree_suc : {n : ℕ} {a b : Series A} → Agree n a b → a n ≡ b n → Agree (suc n) a b
  agree_suc {n} h e k l =
      elim (dec_lt k n) [ yes b ↦ h k b | no b ↦ (let i : k ≡ n = omega arith in rw i e) ]

  pub agree_1 : (a b : Series A) → a 0 ≡ b 0 → Agree 1 a b
  agree_1 a b = agree_suc (λ k l. absurd (omega arith))

module _ {A : Type 0} (R : Semiring A) where
  infixl 50 ◌⊞◌
  infixl 60 ◌⊠◌
  open R use {𝟘}
  open series R use {𝟘 as 𝟘ˢ, ◌⊕◌ as ◌⊞◌, ◌⊗◌ as ◌⊠◌}

  abbrev pub Vanish : ℕ → Series A → Type 0
  Vanish n a = Agree n a (λ k. 𝟘)

  pub vanish_𝟘 : {n : ℕ} {a : Series A} → Vanish n a ↔ Agree n a 𝟘ˢ
  vanish_𝟘 = ((λ h k l. h k l ∙ sym (𝟘-at R k)), (λ h k l. h k l ∙ 𝟘-at R k))

  pub agree_⊞ : {n : ℕ} {a b c d : Series A} → Agree n a b → Agree n c d → Agree n (a ⊞ c) (b ⊞ d)
  agree_⊞ h g k l = rw (⊞-at, ⊞-at, h k l, g k l)

  pub agree_⊠ : {n : ℕ} {a b c d : Series A} → Agree n a b → Agree n c d → Agree n (a ⊠ c) (b ⊠ d)
  agree_⊠ h g zero l = rw (⊠-0, ⊠-0, h 0 l, g 0 l)
  agree_⊠ h g (suc k) l =
      rw (
        ⊠-suc,
        ⊠-suc,
        h 0 (omega arith),
        g (suc k) l,
        agree_⊠ {n = suc k} (λ i b. h (suc i) (omega arith)) (λ i b. g i (omega arith)) k (omega arith),
      )

  pub agree_power : {n : ℕ} {a b : Series A} (i : ℕ) → Agree n a b
      → Agree n (power (series R) a i) (power (series R) b i)
  agree_power zero h = rw (power-0, power-0) (agree_refl _)
  agree_power (suc i) h = rw (power-suc, power-suc) (agree_⊠ h (agree_power i h))

  pub agree_sum : {n : ℕ} (m : ℕ) {f g : ℕ → Series A} → ((i : ℕ) → i < m → Agree n (f i) (g i))
      → Agree n (sum (series R) m f) (sum (series R) m g)
  agree_sum zero h = rw (sum-0, sum-0) (agree_refl _)
  agree_sum (suc m) h =
      rw (sum-suc, sum-suc) (agree_⊞ (agree_sum m (λ i l. h i (omega arith))) (h m (omega arith)))

  pub agree_neg : (N : Negation R) {n : ℕ} {a b : Series A} → Agree n a b
      → Agree n ((series_negation R N).neg a) ((series_negation R N).neg b)
  agree_neg N h k l = rw (neg-at R N, neg-at R N, h k l)

  pub vanish_neg : (N : Negation R) {n : ℕ} {a : Series A} → Vanish n a
      → Vanish n ((series_negation R N).neg a)
  vanish_neg N v k l = rw (neg-at R N, v k l) (neg-𝟘 R N)

  pub agree_⊞_vanish : {n : ℕ} (a : Series A) {b : Series A} → Vanish n b → Agree n (a ⊞ b) a
  agree_⊞_vanish a v k l = rw (⊞-at, v k l, ⊕-𝟘)

  pub agree_difference : (N : Negation R) {n : ℕ} {a b : Series A} → Agree n a b
      → Vanish n (a ⊞ (series_negation R N).neg b)
  agree_difference N {b} h k l = rw (⊞-at, neg-at R N, h k l) (⊕-neg R N (b k))

  pub vanish_agree_⊠ : (i : ℕ) {n : ℕ} {u a b : Series A} → Vanish i u → Agree n a b
      → Agree (i + n) (u ⊠ a) (u ⊠ b)
  vanish_agree_⊠ zero {u} v h k l = agree_⊠ (agree_refl u) h k (omega arith)
  vanish_agree_⊠ (suc i) v h zero l = rw (⊠-0, ⊠-0, v 0 (omega arith), 𝟘-⊗, 𝟘-⊗)
  vanish_agree_⊠ (suc i) v h (suc k) l =
      rw (
        ⊠-suc,
        ⊠-suc,
        v 0 (omega arith),
        𝟘-⊗,
        𝟘-⊗,
        vanish_agree_⊠ i (λ m b. v (suc m) (omega arith)) h k (omega arith),
      )

  pub vanish_⊠ : (i j : ℕ) {a b : Series A} → Vanish i a → Vanish j b → Vanish (i + j) (a ⊠ b)
  vanish_⊠ i j {a} v w =
      vanish_𝟘.1 (rw (⊗-𝟘 (series R) a) at (vanish_agree_⊠ i v (vanish_𝟘.0 w)))

  pub vanish_multiple : {n : ℕ} {a : Series A} (b : Series A) → Vanish n a → Vanish n (a ⊠ b)
  vanish_multiple {n} b v k l = vanish_⊠ n 0 v (λ i m. absurd (omega arith)) k (omega arith)

  pub vanish_power : (i j : ℕ) {a : Series A} → Vanish i a → Vanish (j * i) (power (series R) a j)
  vanish_power i zero v = rw zero-mul (λ k l. absurd (omega arith))
  vanish_power i (suc j) v =
      rw (suc-mul, add_comm (j * i) i, power-suc) (vanish_⊠ i (j * i) v (vanish_power i j v))
