-- Sequences of calls of a chain (demand 2): from an opened chain, each call given the record and the running series that the one before
-- left. p is the modulus and n the order that the chain was opened with; a name with a prime (') is a value after a call. The theorems over
-- them stand in proofs/Sequence.
--
--   accepted_after number c cs        the cycles accepted, cs before, after one with c that returned this number; calls likewise
--   Sequence p n chain s cs          calls that left this record and the running series s, and accepted the cycles cs
--   ChainOf p n chain s cs           this record and this running series are those of the cycles cs
use Rattle.std.specs.Prelude.{ℕ, zero, suc, ◌≤◌, ◌≡◌, length}
use mathlib.Core.List.{
  List,
  [],
  ◌∷◌,
  ◌++◌,
}
use Rattle.definition.specs.Calls.{Cycle, Open}
use Rattle.definition.specs.Chain.{Chain}
use Rattle.definition.specs.Refusal.{most_cycles}
use Rattle.definition.specs.Running.{running}

unfoldable pub accepted_after : {A : Type 0} → ℕ → A → List A → List A
accepted_after zero c cs = cs ++ (c ∷ [])
accepted_after (suc number) c cs = cs

pub data Sequence (p n : ℕ) : Chain → List ℕ → List (List ℕ) → Type 0 where
  opened : {s s' : List ℕ} {number weight : ℕ} {chain : Chain} → Open p n s s' number weight chain → number ≡ 0
      → Sequence p n chain s' []
  called : {chain : Chain} {s : List ℕ} {cs : List (List ℕ)} → Sequence p n chain s cs
      → {route b number weight : ℕ} {chain' : Chain} {c s' work work' : List ℕ}
      → Cycle route b chain c s s' work work' number weight chain' → Sequence p n chain' s' (accepted_after number c cs)

pub record ChainOf (p n : ℕ) (chain : Chain) (s : List ℕ) (cs : List (List ℕ)) : Type 0 where
  pub modulus : chain.modulus ≡ p
  pub order : chain.order ≡ n
  pub counts : chain.done ≡ length cs
  pub series : s ≡ running p n cs
  pub places : length s ≡ n
  pub most : chain.done ≤ most_cycles
