-- A cycle undone (N6): a cycle c, and then one with its reverse series h, any list without constant term for which c(h) is x modulo x^n.
-- What rests on it stands in proofs/Undone. Assumes nothing.
--
--   undone             two accepted cycles, one after the other, leave the running series that the first was given
use Rattle.std.specs.Prelude.{ℕ, List, ◌≡◌, length}
use Rattle.std.proofs.Common.{sym, ◌∙◌}
use Rattle.algebra.specs.Inverse.{composed-undone}
use Rattle.algebra.specs.Prime.{prime-positive}
use Rattle.definition.specs.Answer.{kept}
use Rattle.definition.specs.Calls.{Cycle}
use Rattle.definition.specs.Chain.{Chain, next_chain}
use Rattle.definition.specs.Reversion.{identity}
use Rattle.definition.specs.Substitution.{composed}
use Rattle.refusal.specs.Bounds.{cycle-bounds}

pub undone : {route₁ b₁ weight₁ route₂ b₂ weight₂ : ℕ} {chain chain₁ chain₂ : Chain} {c h s s₁ s₂ work₁ work₁' work₂ work₂' : List ℕ}
    → Cycle route₁ b₁ chain c s s₁ work₁ work₁' 0 weight₁ chain₁ → Cycle route₂ b₂ chain₁ h s₁ s₂ work₂ work₂' 0 weight₂ chain₂
    → composed chain.modulus chain.order c h ≡ identity chain.order → s₂ ≡ s
unfolding kept next_chain
undone {route₁} {b₁} {route₂ = route₂} {b₂ = b₂} {chain = chain} {chain₁ = chain₁} {c = c} {h = h} {s = s} {s₁ = s₁} {work₁ = work₁} {work₂ = work₂} first second reverses =
    let before = cycle-bounds route₁ b₁ chain c s (length work₁) (sym first.refusal) in
    let free = (cycle-bounds route₂ b₂ chain₁ h s₁ (length work₂) (sym second.refusal)).constant-free in
    let prime = before.field.prime in
    (rw (first.records, first.running) at second.running)
    ∙ composed-undone (prime-positive prime) prime.above-one s c h before.running before.below-outer free reverses
