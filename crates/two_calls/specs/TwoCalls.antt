-- When two answers are equal (demand 3): one claim about any two calls, each of compose or of a cycle. Both routes and block lengths, what the output and
-- the work held before, and what else a call was given are left open. A cycle's outer list is the running series, its inner list is its own
-- (N3), and its output is the running buffer. A name with a prime (') is a value after the call. That it holds of any two calls stands in
-- proofs/TwoCalls.
--
--   Call number p n f g out'   a call that returned this number, with outer list f, inner list g, and out' in its output afterwards
--   Answers p n f₁ g₁ out₁ f₂ g₂ out₂   each output is f(g) modulo x^n for its own lists; the two are equal exactly when the first ⌈n/v⌉
--                              coefficients of f₁ and of f₂ in powers of (z - c) are
--   Equality ..                the claim: this holds where both calls returned 0, with one p, one n and inner lists that agree below n
use Rattle.std.specs.Prelude.{ℕ, ◌<◌, List, ◌↔◌, ◌≡◌}
use Rattle.definition.specs.Calls.{Compose, Cycle}
use Rattle.definition.specs.Chain.{Chain}
use Rattle.definition.specs.Lists.{coefficient}
use Rattle.definition.specs.Substitution.{composed}
use Rattle.definition.specs.Taylor.{leading}

pub data Call : ℕ → ℕ → ℕ → List ℕ → List ℕ → List ℕ → Type 0 where
  compose : {route b p n number weight : ℕ} {f g out out' work work' : List ℕ}
      → Compose route b p n f g out out' work work' number weight → Call number p n f g out'
  cycle : {route b number weight : ℕ} {chain chain' : Chain} {c s s' work work' : List ℕ}
      → Cycle route b chain c s s' work work' number weight chain' → Call number chain.modulus chain.order s c s'

pub record Answers (p n : ℕ) (f₁ g₁ out₁ f₂ g₂ out₂ : List ℕ) : Type 0 where
  pub first : out₁ ≡ composed p n f₁ g₁
  pub second : out₂ ≡ composed p n f₂ g₂
  pub equal : (out₁ ≡ out₂) ↔ (leading p n f₁ g₁ ≡ leading p n f₂ g₂)

unfoldable pub Equality : (number₁ p₁ n₁ : ℕ) (f₁ g₁ out₁ : List ℕ) (number₂ p₂ n₂ : ℕ) (f₂ g₂ out₂ : List ℕ) → Type 0
Equality number₁ p₁ n₁ f₁ g₁ out₁ number₂ p₂ n₂ f₂ g₂ out₂ =
    number₁ ≡ 0
    → number₂ ≡ 0
    → p₁ ≡ p₂
    → n₁ ≡ n₂
    → ((k : ℕ) → k < n₁ → coefficient g₁ k ≡ coefficient g₂ k)
    → Answers p₁ n₁ f₁ g₁ out₁ f₂ g₂ out₂
