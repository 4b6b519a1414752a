-- The calls of a sequence: what each is handed beside the record and the running series of the chain. The theorems over them stand in
-- proofs/Handed.
--
--   Handed           what a call of a cycle is handed
--   made accepted    the calls of a sequence, and those of them that returned 0, first call first
--   lists            the lists of calls
--   Run p n hs       an opened chain that was handed the calls hs
use Rattle.std.specs.Prelude.{ℕ, ◌≡◌, length}
use mathlib.Core.List.{
  List,
  [],
  ◌∷◌,
  ◌++◌,
  map,
}
use Rattle.definition.specs.Chain.{Chain}
use Rattle.sequence.specs.Sequence.{
  Sequence,
  accepted_after,
  called,
  opened,
}

pub record Handed : Type 0 where
  pub route : ℕ
  pub block : ℕ
  pub list : List ℕ
  -- the count of places; what they hold has no effect on the answer
  pub work : ℕ

abbrev pub handed : ℕ → ℕ → List ℕ → ℕ → Handed
handed route b c work = record { route = route; block = b; list = c; work = work }

unfoldable pub made : {p n : ℕ} {chain : Chain} {s : List ℕ} {cs : List (List ℕ)} → Sequence p n chain s cs → List Handed
made (opened o e) = []
made (called before {route} {b} {c = c} {work = work} q) = made before ++ (handed route b c (length work) ∷ [])

unfoldable pub accepted : {p n : ℕ} {chain : Chain} {s : List ℕ} {cs : List (List ℕ)} → Sequence p n chain s cs → List Handed
accepted (opened o e) = []
accepted (called before {route} {b} {number} {c = c} {work = work} q) = accepted_after number (handed route b c (length work)) (accepted before)

abbrev pub lists : List Handed → List (List ℕ)
lists hs = map (λ h. h.list) hs

pub data Run (p n : ℕ) (hs : List Handed) : Type 0 where
  run : {chain : Chain} {s : List ℕ} {cs : List (List ℕ)} (q : Sequence p n chain s cs) → made q ≡ hs → Run p n hs
