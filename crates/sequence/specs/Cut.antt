-- A chain cut in two (N6): what its halves are, and the claim about a compose of two running series. The theorems over them stand in
-- proofs/Cut.
--
--   Halves          two chains of this p and n that were handed these calls and accepted them all, s the composition of their running series
--   Joined ..       the claim about a compose of two running series, for all cycles that led to them
use Rattle.std.specs.Prelude.{ℕ, List, ◌++◌, ◌≡◌}
use Rattle.definition.specs.Chain.{Chain}
use Rattle.definition.specs.Running.{running}
use Rattle.definition.specs.Substitution.{composed}
use Rattle.sequence.specs.Handed.{Handed, accepted, made}
use Rattle.sequence.specs.Sequence.{Sequence}

pub data Halves (p n : ℕ) (s : List ℕ) (gs hs : List Handed) : Type 0 where
  halves : {chain₁ chain₂ : Chain} {s₁ s₂ : List ℕ} {cs₁ cs₂ : List (List ℕ)} (first : Sequence p n chain₁ s₁ cs₁)
      (rest : Sequence p n chain₂ s₂ cs₂) → made first ≡ gs → accepted first ≡ gs → made rest ≡ hs → accepted rest ≡ hs
      → s ≡ composed p n s₁ s₂ → Halves p n s gs hs

unfoldable pub Joined : (p n : ℕ) (s₁ s₂ : List ℕ) (number : ℕ) (out' : List ℕ) → Type 0
Joined p n s₁ s₂ number out' =
    number ≡ 0
    → (chain₁ chain₂ : Chain) (cs ds : List (List ℕ))
    → Sequence p n chain₁ s₁ cs
    → Sequence p n chain₂ s₂ ds
    → out' ≡ running p n (cs ++ ds)
