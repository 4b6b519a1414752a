-- A chain cut in two (N6): the running series of all cycles is that of the first part composed with that of a fresh chain of the same p and
-- n over the rest, wherever the cut falls. A call that the chain refused is in neither part: one refused with 11 a fresh chain would accept.
-- Assumes nothing.
--
--   cut             the theorem, for the cycles accepted
--   cut_calls       and for the calls: a fresh chain that is handed the last calls that the long one accepted accepts them all
--   cut_exists      there are such chains, wherever the calls that a chain accepted are cut
--   compose-joined  the claim `Joined` holds of every compose
--   cut-composed    an accepted compose of the two halves leaves the running series of the whole in its output
use Rattle.std.specs.Prelude.{ℕ, List, ◌++◌, ◌≡◌, refl, length}
use mathlib.Core.List.Memᴰ
use Rattle.std.proofs.lemmas.List.{map-append}
use Rattle.std.proofs.Common.{sym, ap, ◌∙◌, length-append, arith}
use Rattle.definition.specs.Answer.{kept}
use Rattle.definition.specs.Calls.{Compose}
use Rattle.definition.specs.Chain.{Chain}
use Rattle.definition.specs.Substitution.{composed}
use Rattle.sequence.specs.Cut.{Halves, Joined, halves}
use Rattle.sequence.specs.Handed.{Handed, Run, accepted, lists, made, run}
use Rattle.sequence.specs.Sequence.{Sequence}
use Rattle.sequence.proofs.Handed.{accepted-done, accepted-lists, accepts_again, runs}
use Rattle.sequence.proofs.Joined.{joined}
use Rattle.sequence.proofs.Sequence.{sequence_running}

pub cut : {p n : ℕ} {chain chain₁ chain₂ : Chain} {s s₁ s₂ : List ℕ} {cs ds : List (List ℕ)} → Sequence p n chain s (cs ++ ds)
    → Sequence p n chain₁ s₁ cs → Sequence p n chain₂ s₂ ds → s ≡ composed p n s₁ s₂
cut long first rest = (sequence_running long).series ∙ sym (joined first rest)

pub cut_calls : {p n : ℕ} {chain chain₁ chain₂ : Chain} {s s₁ s₂ : List ℕ} {cs cs₁ cs₂ : List (List ℕ)} (long : Sequence p n chain s cs)
    (first : Sequence p n chain₁ s₁ cs₁) (rest : Sequence p n chain₂ s₂ cs₂) → accepted long ≡ accepted first ++ made rest
    → (accepted rest ≡ made rest) × (s ≡ composed p n s₁ s₂)
cut_calls {cs = cs} {cs₁ = cs₁} {cs₂ = cs₂} long first rest parts = (all, cut (rw cycles at long) first rest)
  where
    all : accepted rest ≡ made rest
    all =
        accepts_again long rest (λ h m. rw (← parts) at (Memᴰ.append_right (accepted first) m))
        (omega (arith, (sequence_running long).most, accepted-done long, ap length parts, length-append (accepted first) (made rest)))

    cycles : cs ≡ cs₁ ++ cs₂
    cycles =
        sym (accepted-lists long)
        ∙ ap lists (parts ∙ ap (λ hs. accepted first ++ hs) (sym all))
        ∙ map-append (λ h. h.list) (accepted first) (accepted rest)
        ∙ rw (accepted-lists first, accepted-lists rest) refl

pub cut_exists : {p n : ℕ} {chain : Chain} {s : List ℕ} {cs : List (List ℕ)} (long : Sequence p n chain s cs) (gs hs : List Handed)
    → accepted long ≡ gs ++ hs → Halves p n s gs hs
cut_exists {p} {n} {s = s} long gs hs parts = go (runs long gs) (runs long hs)
  where
    go : Run p n gs → Run p n hs → Halves p n s gs hs
    go (run first is-first) (run rest is-rest) =
        let all =
        accepts_again long first (λ h m. rw (← parts) at (Memᴰ.append_left hs (rw is-first at m)))
        (omega (arith, (sequence_running long).most, accepted-done long, ap length parts, ap length is-first, length-append gs hs)) in
        let found = cut_calls long first rest (parts ∙ rw (all, is-first, is-rest) refl) in
        halves first rest is-first (all ∙ is-first) is-rest (found.0 ∙ is-rest) found.1

pub compose-joined : {route b p n number weight : ℕ} {s₁ s₂ out out' work work' : List ℕ}
    → Compose route b p n s₁ s₂ out out' work work' number weight → Joined p n s₁ s₂ number out'
unfolding Joined kept
compose-joined q e chain₁ chain₂ cs ds first rest = (rw e at q.output) ∙ joined first rest

pub cut-composed : {p n route b weight : ℕ} {chain chain₁ chain₂ : Chain} {s s₁ s₂ out out' work work' : List ℕ} {cs ds : List (List ℕ)}
    → Sequence p n chain s (cs ++ ds) → Sequence p n chain₁ s₁ cs → Sequence p n chain₂ s₂ ds
    → Compose route b p n s₁ s₂ out out' work work' 0 weight → out' ≡ s
unfolding kept
cut-composed long first rest q = q.output ∙ sym (cut long first rest)
