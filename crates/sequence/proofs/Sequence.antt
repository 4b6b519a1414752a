-- What holds of every sequence of calls of a chain (demand 2). It stands here, and not in specs/, so that another order of the cycles, or
-- another list of those accepted, is refused by a proof. Assumes nothing.
--
--   sequence_running                 after every sequence the record and the running series are those of the cycles accepted
--   sequence_field                   p is a modulus and n an order that a call takes
--   accepted_all                     what holds of all that were accepted before, and of the new one if it is, holds of all
--   sequence_constant-free           no cycle that was accepted has a constant term
use Rattle.std.specs.Prelude.{ℕ, zero, suc, ◌<◌, ◌⊎◌, ◌≡◌, refl, length}
use mathlib.Core.List.Memᴰ
use mathlib.Core.List.{
  List,
  Memᴰ,
  [],
  ◌∷◌,
  ◌++◌,
}
use Rattle.std.proofs.Common.{inl, inr, sym, ap, ◌∙◌, length-append, arith}
use Rattle.algebra.specs.Prime.{prime-positive}
use Rattle.definition.specs.Answer.{kept}
use Rattle.definition.specs.Calls.{Cycle, Open}
use Rattle.definition.specs.Chain.{Chain, next_chain, opened_chain}
use Rattle.definition.specs.Lists.{coefficient}
use Rattle.definition.specs.Substitution.{composed}
use Rattle.refusal.specs.Bounds.{FieldBounds, cycle-bounds, open_bounds}
use Rattle.sequence.specs.Running.{ConstantFree, length-running, running-[], running-next}
use Rattle.sequence.specs.Sequence.{ChainOf, Sequence, accepted_after, called, opened}

pub sequence_field : {p n : ℕ} {chain : Chain} {s : List ℕ} {cs : List (List ℕ)} → Sequence p n chain s cs → FieldBounds p n
sequence_field {p} {n} (opened {s} o e) = (open_bounds p n (length s) (sym o.refusal ∙ e)).field
sequence_field (called before q) = sequence_field before

opened-chain : {p n weight : ℕ} {s s' : List ℕ} {chain : Chain} → Open p n s s' 0 weight chain → ChainOf p n chain s' []
unfolding opened_chain kept
opened-chain {p} {n} {s = s} o =
    let prime = (open_bounds p n (length s) (sym o.refusal)).field.prime in
    let series = o.running ∙ sym (running-[] (prime-positive prime) n prime.above-one) in
    rw o.records
    (record { modulus = refl; order = refl; counts = refl; series = series; places = ap length series ∙ length-running p n []; most = omega arith })

-- an accepted cycle is one more; a refused one leaves all as it was
called-chain : {p n : ℕ} {chain : Chain} {s : List ℕ} {cs : List (List ℕ)} → ChainOf p n chain s cs
    → {route b : ℕ} (number : ℕ) {weight : ℕ} {chain' : Chain} {c s' work work' : List ℕ}
    → Cycle route b chain c s s' work work' number weight chain' → ChainOf p n chain' s' (accepted_after number c cs)
unfolding next_chain kept accepted_after
called-chain {p} {n} {chain} {s} {cs} r {route} {b} zero {c = c} {work = work} q =
    let bounds = cycle-bounds route b chain c s (length work) (sym q.refusal) in
    let positive : 0 < p = rw r.modulus at (prime-positive bounds.field.prime) in
    let next : ◌≡◌ {A = List ℕ} _ (composed p n _ c) = rw (r.modulus, r.order, r.series) at q.running in
    let series = next ∙ running-next positive n _ c bounds.constant-free in
    rw q.records
    (record {
      modulus = r.modulus;
      order = r.order;
      counts = omega (arith, r.counts, length-append cs (c ∷ []));
      series = series;
      places = ap length series ∙ length-running p n (cs ++ (c ∷ []));
      most = omega (arith, bounds.not_full);
    })
called-chain r (suc number) q = rw (q.records, q.running) r

pub sequence_running : {p n : ℕ} {chain : Chain} {s : List ℕ} {cs : List (List ℕ)} → Sequence p n chain s cs → ChainOf p n chain s cs
sequence_running (opened o e) = opened-chain (rw e at o)
sequence_running (called before {number = number} q) = called-chain (sequence_running before) number q

pub accepted_all : {A : Type 0} (P : A → Type 0) (number : ℕ) (c : A) (cs : List A) → ((d : A) → Memᴰ d cs → P d) → (number ≡ 0 → P c)
    → (d : A) → Memᴰ d (accepted_after number c cs) → P d
unfolding accepted_after
accepted_all P zero c cs h z d m = go (Memᴰ.append_cases cs m)
  where
    go : Memᴰ d cs ⊎ Memᴰ d (c ∷ []) → P d
    go (inl m) = h d m
    go (inr m) = rw (Memᴰ.eq_of_singleton m) (z refl)
accepted_all P (suc number) c cs h z d m = h d m

pub sequence_constant-free : {p n : ℕ} {chain : Chain} {s : List ℕ} {cs : List (List ℕ)} → Sequence p n chain s cs → ConstantFree cs
sequence_constant-free (opened o e) = λ c m. absurd (Memᴰ.not-nil m)
sequence_constant-free (called {chain} {s} {cs} before {route} {b} {number} {c = c} {work = work} q) =
    accepted_all (λ d. coefficient d 0 ≡ 0) number c cs (sequence_constant-free before)
    (λ e. (cycle-bounds route b chain c s (length work) (sym q.refusal ∙ e)).constant-free)
