-- What holds of the calls of a sequence: another chain of the same p and n accepts what one accepted. It stands here, and not in specs/,
-- since it rests on the theorems of proofs/Sequence. Assumes nothing.
--
--   accepted-lists   the cycles that a sequence accepted are the lists of the calls that it accepted
--   accepted-done    a chain has done as many cycles as it accepted calls
--   accepts_again    a chain that is handed at most 64 calls, each of which another one of this p and n accepted, accepts them all
--   runs             where one chain opened, every list of calls can be handed to another one of this p and n
use Rattle.std.specs.Prelude.{ℕ, zero, suc, ◌<◌, ◌≤◌, ◌≡◌, refl, length, replicate}
use mathlib.Core.List.Memᴰ
use mathlib.Core.List.{
  List,
  Memᴰ,
  [],
  ◌∷◌,
  ◌++◌,
  append_assoc,
  append-nil,
  map-append,
}
use Rattle.std.proofs.Common.{sym, ap, ◌∙◌, length-append, arith}
use Rattle.std.proofs.lemmas.List.{length-map, length-replicate}
use Rattle.algebra.specs.Prime.{prime-positive}
use Rattle.definition.specs.Chain.{Chain}
use Rattle.definition.specs.Refusal.{cycle_refusal, most_cycles}
use Rattle.refusal.specs.Bounds.{cycle_again}
use Rattle.sequence.specs.Handed.{Handed, Run, accepted, handed, lists, made, run}
use Rattle.sequence.specs.Running.{running-below, running-constant}
use Rattle.sequence.specs.Sequence.{Sequence, accepted_after, called, opened}
use Rattle.sequence.proofs.Sequence.{accepted_all, sequence_constant-free, sequence_field, sequence_running}

lists-after : (number : ℕ) (h : Handed) (hs : List Handed) → lists (accepted_after number h hs) ≡ accepted_after number h.list (lists hs)
unfolding accepted_after
lists-after zero h hs = map-append (λ g. g.list) hs (h ∷ [])
lists-after (suc number) h hs = refl

pub accepted-lists : {p n : ℕ} {chain : Chain} {s : List ℕ} {cs : List (List ℕ)} (q : Sequence p n chain s cs) → lists (accepted q) ≡ cs
unfolding accepted
accepted-lists (opened o e) = refl
accepted-lists (called before {number = number} q) = lists-after number _ (accepted before) ∙ ap (accepted_after number _) (accepted-lists before)

-- some chain of this p and n accepts the call
record Acceptable (p n : ℕ) (h : Handed) : Type 0 where
  chain : Chain
  series : List ℕ
  modulus : chain.modulus ≡ p
  order : chain.order ≡ n
  accepts : cycle_refusal h.route h.block chain h.list series h.work ≡ 0

accepted_acceptable : {p n : ℕ} {chain : Chain} {s : List ℕ} {cs : List (List ℕ)} (q : Sequence p n chain s cs) (h : Handed)
    → Memᴰ h (accepted q) → Acceptable p n h
unfolding accepted
accepted_acceptable (opened o e) = λ h m. absurd (Memᴰ.not-nil m)
accepted_acceptable {p} {n} (called {chain} {s} before {number = number} q) =
    let r = sequence_running before in
    accepted_all (Acceptable p n) number _ (accepted before) (accepted_acceptable before)
    (λ e. record { chain = chain; series = s; modulus = r.modulus; order = r.order; accepts = sym q.refusal ∙ e })

-- a chain that has room accepts it
acceptable_again : {p n : ℕ} {chain : Chain} {s : List ℕ} {cs : List (List ℕ)} → Sequence p n chain s cs → chain.done < most_cycles
    → (h : Handed) → Acceptable p n h → cycle_refusal h.route h.block chain h.list s h.work ≡ 0
acceptable_again {p} {n} {chain} {s} {cs} q room h a =
    let field = sequence_field q in
    let r = sequence_running q in
    let l = prime-positive field.prime in
    cycle_again h.route h.block a.chain chain h.list a.series s h.work a.accepts
    (r.modulus ∙ sym a.modulus) (r.order ∙ sym a.order) (r.places ∙ sym a.order)
    (rw (a.modulus, r.series) (running-below l n cs))
    (rw r.series (running-constant l field.positive cs (sequence_constant-free q))) room

pub accepted-done : {p n : ℕ} {chain : Chain} {s : List ℕ} {cs : List (List ℕ)} (q : Sequence p n chain s cs) → chain.done ≡ length (accepted q)
accepted-done q = (sequence_running q).counts ∙ ap length (sym (accepted-lists q)) ∙ length-map (accepted q) (λ h. h.list)

refused_none : {p n : ℕ} {chain : Chain} {s : List ℕ} {cs : List (List ℕ)} (q : Sequence p n chain s cs)
    → ((h : Handed) → Memᴰ h (made q) → Acceptable p n h) → length (made q) ≤ most_cycles → accepted q ≡ made q
unfolding made accepted accepted_after
refused_none (opened o e) fits most = refl
refused_none (called {chain} before {route} {b} {number} {c = c} {work = work} q) fits most =
    let h = handed route b c (length work) in
    let count = length-append (made before) (h ∷ []) in
    let earlier = refused_none before (λ g m. fits g (Memᴰ.append_left _ m)) (omega (arith, count)) in
    let room : chain.done < most_cycles = omega (arith, accepted-done before, ap length earlier, count) in
    let accepts = q.refusal ∙ acceptable_again before room h (fits h (Memᴰ.append_right (made before) (Memᴰ.head refl))) in
    rw (accepts, earlier) refl

pub accepts_again : {p n : ℕ} {chain chain₂ : Chain} {s s₂ : List ℕ} {cs cs₂ : List (List ℕ)} (long : Sequence p n chain s cs)
    (other : Sequence p n chain₂ s₂ cs₂) → ((h : Handed) → Memᴰ h (made other) → Memᴰ h (accepted long))
    → length (made other) ≤ most_cycles → accepted other ≡ made other
accepts_again long other within most = refused_none other (λ h m. accepted_acceptable long h (within h m)) most

run-next : {p n : ℕ} {hs : List Handed} → Run p n hs → (h : Handed) → Run p n (hs ++ (h ∷ []))
unfolding made
run-next (run q e) h =
    run
    (called q {route = h.route} {b = h.block} {c = h.list} {work = replicate h.work 0}
    (record { refusal = refl; weighs = refl; records = refl; running = refl; clears = refl }))
    (rw (e, length-replicate {A = ℕ} h.work 0) refl)

run-from : {p n : ℕ} (hs : List Handed) → Run p n hs → (gs : List Handed) → Run p n (hs ++ gs)
run-from hs r [] = rw (append-nil hs) r
run-from hs r (g ∷ gs) = rw (← append_assoc hs (g ∷ []) gs) (run-from (hs ++ (g ∷ [])) (run-next r g) gs)

opening : {p n : ℕ} {chain : Chain} {s : List ℕ} {cs : List (List ℕ)} → Sequence p n chain s cs → Run p n []
unfolding made
opening (opened o e) = run (opened o e) refl
opening (called before q) = opening before

pub runs : {p n : ℕ} {chain : Chain} {s : List ℕ} {cs : List (List ℕ)} → Sequence p n chain s cs → (hs : List Handed) → Run p n hs
runs q hs = run-from [] (opening q) hs
