-- A cycle undone (N6) in a sequence, and with what an accepted reverse wrote. Assumes nothing.
--
--   sequence_undone    the last two cycles accepted of a sequence leave the running series as it was, whatever calls were refused between and after
--   sequence_reversed  so it is in a sequence with what an accepted reverse wrote
--   reverse-undone     and with two cycles of any chain
use Rattle.std.specs.Prelude.{ℕ, List, [], ◌∷◌, ◌++◌, ◌≡◌, refl}
use mathlib.Core.List.Memᴰ
use Rattle.std.proofs.Common.{sym, ◌∙◌}
use Rattle.algebra.specs.Prime.{prime-positive}
use Rattle.definition.specs.Calls.{Cycle, Reverse}
use Rattle.definition.specs.Chain.{Chain}
use Rattle.definition.specs.Reversion.{identity}
use Rattle.definition.specs.Substitution.{composed}
use Rattle.sequence.specs.Running.{running-undone}
use Rattle.sequence.specs.Sequence.{Sequence}
use Rattle.sequence.specs.Undone.{undone}
use Rattle.sequence.proofs.Sequence.{sequence_constant-free, sequence_field, sequence_running}

pub sequence_undone : {p n : ℕ} {chain chain' : Chain} {s s' : List ℕ} {cs : List (List ℕ)} (c h : List ℕ) → Sequence p n chain s cs
    → Sequence p n chain' s' (cs ++ (c ∷ h ∷ [])) → composed p n c h ≡ identity n → s' ≡ s
sequence_undone {n = n} {cs = cs} c h before after reverses =
    let prime = (sequence_field before).prime in
    (sequence_running after).series
    ∙ running-undone (prime-positive prime) n prime.above-one cs c h (λ d m. sequence_constant-free after d (Memᴰ.append_right cs m)) reverses
    ∙ sym (sequence_running before).series

pub sequence_reversed : {p n weight : ℕ} {chain chain' : Chain} {c h s s' out work work' : List ℕ} {cs : List (List ℕ)}
    → Sequence p n chain s cs → Reverse p n c out h work work' 0 weight → Sequence p n chain' s' (cs ++ (c ∷ h ∷ [])) → s' ≡ s
sequence_reversed {c = c} {h = h} before q after = sequence_undone c h before after (q.reverses refl).reverses

pub reverse-undone : {number₀ weight₀ route₁ b₁ number₁ weight₁ route₂ b₂ number₂ weight₂ : ℕ} {chain chain₁ chain₂ : Chain}
    {c h out s s₁ s₂ work₀ work₀' work₁ work₁' work₂ work₂' : List ℕ}
    → Reverse chain.modulus chain.order c out h work₀ work₀' number₀ weight₀
    → Cycle route₁ b₁ chain c s s₁ work₁ work₁' number₁ weight₁ chain₁
    → Cycle route₂ b₂ chain₁ h s₁ s₂ work₂ work₂' number₂ weight₂ chain₂
    → number₀ ≡ 0 → number₁ ≡ 0 → number₂ ≡ 0 → s₂ ≡ s
reverse-undone reversed first second zero₀ zero₁ zero₂ =
    undone (rw zero₁ at first) (rw zero₂ at second) (reversed.reverses zero₀).reverses
