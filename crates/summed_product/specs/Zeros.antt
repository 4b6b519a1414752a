-- Lists of zeros, as local lists are made.
--
--   Zeros c zs        c zeros
--   zeros-replicate   a list that is made of so many
-- Assumes nothing.
use Rattle.std.specs.Prelude.{ℕ, ◌<◌, List, ◌≡◌, length, get_or, replicate}
use Rattle.std.proofs.Math.Decide.{dec_lt}
use Rattle.std.proofs.Common.{arith}
use Rattle.std.proofs.lemmas.List.{length-replicate, get_or-replicate}
use Rattle.std.proofs.Math.ListN.{get_or-eq_default}

pub record Zeros (c : ℕ) (zs : List ℕ) : Type 0 where
  pub size : length zs ≡ c
  pub blank : (j : ℕ) → get_or zs j 0 ≡ 0

pub zeros-replicate : (c : ℕ) → Zeros c (replicate c 0)
zeros-replicate c = record { size = length-replicate c 0; blank = λ j. at j (dec_lt j c) }
  where
    at : (j : ℕ) → Dec (j < c) → get_or {A = ℕ} (replicate c 0) j 0 ≡ 0
    at j (yes b) = get_or-replicate c j 0 0 b
    at j (no b) = get_or-eq_default (replicate c 0) 0 (rw length-replicate (omega arith))
