-- Every second place of a list, and the sums of neighbours modulo p.
--
--   second from x i     place 2 i + from of x
--   neighbour_sum p x i  places 2 i and 2 i + 1 of x, added modulo p
--   part_at p which x i  one of these: `second 0` for 0, `second 1` for 1, and the sum for 2
--   part p n which count x   the list of `count` of them, for the first n places of x
--   part-second part-sums   which it is
--   Residues p n x      the first n places of x are below p
--   residues-kept       and so they are in every list with the same first n places
--   part-residue        places of a part are below p too
-- Assumes nothing.
use Prim.Native.Nat.{ℕ, zero, suc, ◌+◌, ◌-◌, ◌*◌, ◌%◌, ◌<◌, ◌≤◌}
use Rattle.std.proofs.Math.Nat.{mod-lt}
use Rattle.std.proofs.Common.{arith, get_or-take}
use Rattle.std.specs.Prelude.{List, ◌≡◌, take}
use Rattle.std.proofs.Math.Path.{refl}
use Rattle.algebra.specs.Lists.{coefficient-tabulate}
use Rattle.definition.specs.Lists.{coefficient, tabulate}

unfoldable pub second : ℕ → List ℕ → ℕ → ℕ
second from x i = coefficient x (2 * i + from)

unfoldable pub neighbour_sum : ℕ → List ℕ → ℕ → ℕ
neighbour_sum p x i = (coefficient x (2 * i) + coefficient x (2 * i + 1)) % p

unfoldable pub part_at : ℕ → ℕ → List ℕ → ℕ → ℕ
part_at p zero x = second 0 x
part_at p (suc zero) x = second 1 x
part_at p (suc (suc which)) x = neighbour_sum p x

abbrev pub part : ℕ → ℕ → ℕ → ℕ → List ℕ → List ℕ
part p n which count x = tabulate count (part_at p which (take n x))

module _ (p n count : ℕ) (x : List ℕ) where
  pub part-second : (which : ℕ) → which < 2 → tabulate count (second which (take n x)) ≡ part p n which count x
  unfolding part_at
  part-second zero h = refl
  part-second (suc zero) h = refl
  part-second (suc (suc which)) h = absurd (omega arith)

  pub part-sums : (which : ℕ) → 2 ≤ which → tabulate count (neighbour_sum p (take n x)) ≡ part p n which count x
  unfolding part_at
  part-sums zero h = absurd (omega arith)
  part-sums (suc zero) h = absurd (omega arith)
  part-sums (suc (suc which)) h = refl

abbrev pub Residues : ℕ → ℕ → List ℕ → Type 0
Residues p n x = (k : ℕ) → k < n → coefficient x k < p

pub residues-kept : {p : ℕ} (n : ℕ) (x x' : List ℕ) → take n x' ≡ take n x → Residues p n x → Residues p n x'
unfolding coefficient
residues-kept n x x' same residues k h =
    rw (← get_or-take n x' k 0 h, same, get_or-take n x k 0 h) (residues k h)

module _ {p : ℕ} (n : ℕ) (x : List ℕ) (positive : 0 < p) (residues : Residues p n x) where
  place-residue : (which k : ℕ) → 2 * suc k ≤ n + (1 - which) → part_at p which (take n x) k < p
  unfolding part_at second neighbour_sum coefficient
  place-residue zero k h = rw (get_or-take n x (2 * k + 0) 0 (omega arith)) (residues (2 * k + 0) (omega arith))
  place-residue (suc zero) k h = rw (get_or-take n x (2 * k + 1) 0 (omega arith)) (residues (2 * k + 1) (omega arith))
  place-residue (suc (suc which)) k h = mod-lt _ positive

  pub part-residue : (which count : ℕ) → 2 * count ≤ n + (1 - which) → (k : ℕ) → k < count → coefficient (part p n which count x) k < p
  part-residue which count few k h =
      rw (coefficient-tabulate count (part_at p which (take n x)) k h) (place-residue which k (omega arith))
