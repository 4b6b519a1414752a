-- What a call promises leaves nothing free: any two answers to one input that both keep the promise are the same answer. So 01's sentence holds,
-- that the end content of every buffer is determined for every input, and a promise that says less is refused here. Reversion's is no
-- equation with a definition: what it says of the series is written out too. Assumes nothing.
--
--   compose_determined, reverse_determined, open_determined, cycle_determined, table_determined, render_determined, job_determined
--   length_determined  of compose, reverse and a cycle, whose number and list are determined, the effective length is too
--   reverse-accepted   number 0: the output is a list h of n places below p without constant term, g(h) is x, and h(g) is x too
--   reverse-none       number 9: no list h of n places below p without constant term has g(h) = x
use Rattle.std.specs.Prelude.{ℕ, zero, suc, length, false, List, ◌≡◌, refl}
use Rattle.std.proofs.Common.{sym, ◌∙◌, arith}
use Rattle.definition.specs.Calls.{Compose, Cycle, Job, Length, Open, Render, Reverse, Table}
use Rattle.definition.specs.Chain.{Chain}
use Rattle.definition.specs.Lists.{coefficient}
use Rattle.definition.specs.Refusal.{exceeds}
use Rattle.definition.specs.Reversion.{identity}
use Rattle.definition.specs.Substitution.{composed}

pub compose_determined : {route b p n number₁ number₂ weight₁ weight₂ : ℕ} {f g out out₁ out₂ work work₁ work₂ : List ℕ}
    → Compose route b p n f g out out₁ work work₁ number₁ weight₁
    → Compose route b p n f g out out₂ work work₂ number₂ weight₂
    → (number₁ ≡ number₂) × ((weight₁ ≡ weight₂) × ((out₁ ≡ out₂) × (work₁ ≡ work₂)))
compose_determined a d =
    let e = a.refusal ∙ sym d.refusal in
    (e, (a.weighs ∙ rw e (sym d.weighs), (a.output ∙ rw e (sym d.output), a.clears ∙ rw e (sym d.clears))))

pub reverse_determined : {p n number₁ number₂ weight₁ weight₂ : ℕ} {g out out₁ out₂ work work₁ work₂ : List ℕ}
    → Reverse p n g out out₁ work work₁ number₁ weight₁
    → Reverse p n g out out₂ work work₂ number₂ weight₂
    → (number₁ ≡ number₂) × ((weight₁ ≡ weight₂) × ((out₁ ≡ out₂) × (work₁ ≡ work₂)))
reverse_determined {number₁ = number₁} {number₂ = number₂} {out₁ = out₁} {out₂ = out₂} a b =
    (e, (a.weighs ∙ sym b.weighs, (series number₁ refl, a.clears ∙ rw e (sym b.clears))))
  where
    e : number₁ ≡ number₂
    e = a.refusal ∙ sym b.refusal

    series : (r : ℕ) → number₁ ≡ r → out₁ ≡ out₂
    series zero accepted = b.only (sym e ∙ accepted) out₁ (a.reverses accepted)
    series (suc r) refused = a.refused (λ z. omega arith) ∙ sym (b.refused (λ z. omega (arith, e)))

pub reverse-accepted : {p n weight' : ℕ} {g out out' work work' : List ℕ} → Reverse p n g out out' work work' 0 weight'
    → (length out' ≡ n) × (exceeds p out' ≡ false) × (coefficient out' 0 ≡ 0)
    × (composed p n g out' ≡ identity n) × (composed p n out' g ≡ identity n)
reverse-accepted a =
    let h = a.reverses refl in
    (h.places, h.below, h.no_constant, h.reverses, a.symmetric refl)

pub reverse-none : {p n weight' : ℕ} {g out out' work work' : List ℕ} → Reverse p n g out out' work work' 9 weight'
    → (h : List ℕ) → length h ≡ n → exceeds p h ≡ false → coefficient h 0 ≡ 0 → composed p n g h ≡ identity n → ⊥
reverse-none a h places below no_constant reverses =
    a.none refl h (record { places = places; below = below; no_constant = no_constant; reverses = reverses })

pub open_determined : {p n number₁ number₂ weight₁ weight₂ : ℕ} {s s₁ s₂ : List ℕ} {chain₁ chain₂ : Chain}
    → Open p n s s₁ number₁ weight₁ chain₁
    → Open p n s s₂ number₂ weight₂ chain₂
    → (number₁ ≡ number₂) × ((weight₁ ≡ weight₂) × ((chain₁ ≡ chain₂) × (s₁ ≡ s₂)))
open_determined a b =
    let e = a.refusal ∙ sym b.refusal in
    (e, (a.weighs ∙ sym b.weighs, (a.records ∙ rw e (sym b.records), a.running ∙ rw e (sym b.running))))

pub cycle_determined : {route b number₁ number₂ weight₁ weight₂ : ℕ} {chain chain₁ chain₂ : Chain} {c s s₁ s₂ work work₁ work₂ : List ℕ}
    → Cycle route b chain c s s₁ work work₁ number₁ weight₁ chain₁
    → Cycle route b chain c s s₂ work work₂ number₂ weight₂ chain₂
    → (number₁ ≡ number₂) × ((weight₁ ≡ weight₂) × ((chain₁ ≡ chain₂) × ((s₁ ≡ s₂) × (work₁ ≡ work₂))))
cycle_determined a d =
    let e = a.refusal ∙ sym d.refusal in (
      e,
      (
        a.weighs ∙ rw e (sym d.weighs),
        (a.records ∙ rw e (sym d.records), (a.running ∙ rw e (sym d.running), a.clears ∙ rw e (sym d.clears))),
      ),
    )

pub length_determined : {number₁ number₂ length₁ length₂ : ℕ} {l₁ l₂ : List ℕ} → number₁ ≡ number₂ → l₁ ≡ l₂
    → Length number₁ l₁ length₁
    → Length number₂ l₂ length₂
    → length₁ ≡ length₂
length_determined e same a b = (rw (e, same) at a).measures ∙ sym b.measures

pub table_determined : {index number₁ number₂ prime₁ prime₂ : ℕ} → Table index number₁ prime₁ → Table index number₂ prime₂
    → (number₁ ≡ number₂) × (prime₁ ≡ prime₂)
table_determined a b =
    let e = a.refusal ∙ sym b.refusal in
    (e, a.entry ∙ rw e (sym b.entry))

pub render_determined : {number n weight number₁ number₂ count₁ count₂ : ℕ} {l text text₁ text₂ : List ℕ}
    → Render number n weight l text text₁ number₁ count₁
    → Render number n weight l text text₂ number₂ count₂
    → (number₁ ≡ number₂) × ((count₁ ≡ count₂) × (text₁ ≡ text₂))
render_determined a b =
    let e = a.refusal ∙ sym b.refusal in
    (e, (a.counts ∙ rw e (sym b.counts), a.writes ∙ rw e (sym b.writes)))

pub job_determined : {count₁ count₂ : ℕ} {file text text₁ text₂ : List ℕ} → Job file text text₁ count₁ → Job file text text₂ count₂
    → (count₁ ≡ count₂) × (text₁ ≡ text₂)
job_determined a b = (a.counts ∙ sym b.counts, a.writes ∙ sym b.writes)
