-- The contract of `part`, and laws of the lists that the steps of route 3 write.
--
--   Parted               the contract of `part`
--   parted_length        the length of the part that it writes
--   length-powers        h is as long as g
--   pth_powers-reduced    for a prime p it holds the remainders of g's coefficients, by Fermat
--   coefficient-powers   each of them, beyond the end too
--   length-spread        the length of a list with x^p put for y, cut to n places
-- Assumes nothing.
use Rattle.std.specs.Prelude.{ℕ, ◌+◌, ◌%◌, ◌≤◌, List, ◌≡◌, length}
use Rattle.std.proofs.Math.Decide.{dec_lt}
use Rattle.std.proofs.Math.Nat.{zero-mod}
use Rattle.std.proofs.Common.{arith, sym, ap, ◌∙◌}
use Rattle.std.proofs.lemmas.List.Edits.{sets}
use Rattle.algebra.specs.Fermat.{fermat}
use Rattle.algebra.specs.Lists.{coefficient_beyond, coefficient-tabulate, length-tabulate, tabulate_beyond, tabulate_cong}
use Rattle.buffer.specs.Written.{length_part}
use Rattle.definition.specs.Bernstein.{part, part_at, part_count, pth_powers, pth_power_at, spread, spread_list}
use Rattle.definition.specs.Lists.{coefficient, tabulate}
use Rattle.definition.specs.Prime.{Prime}
use Rattle.buffer.specs.Segments.{segment}

pub record Parted (p j a m t : ℕ) (before after : List ℕ) (result : ℕ) : Type 0 where
  pub written : after ≡ sets before t (part p j (segment before a m))
  pub count : result ≡ part_count p j m

pub parted_length : {p j a m t : ℕ} {before after : List ℕ} {result : ℕ} → a + m ≤ length before
    → Parted p j a m t before after result → length (part p j (segment before a m)) ≡ result
unfolding part
parted_length {p} {j} {a} {m} {before = before} inside parted =
    let f = segment before a m in
    length-tabulate (part_count p j (length f)) (part_at p j f) ∙ ap (part_count p j) (length_part before a m inside) ∙ sym parted.count

pub length-powers : (p : ℕ) (g : List ℕ) → length (pth_powers p g) ≡ length g
unfolding pth_powers
length-powers p g = length-tabulate (length g) (pth_power_at p g)

pub pth_powers-reduced : {p : ℕ} → Prime p → (g : List ℕ) → pth_powers p g ≡ tabulate (length g) (λ i. coefficient g i % p)
unfolding pth_powers pth_power_at
pth_powers-reduced {p} P g = tabulate_cong (length g) (pth_power_at p g) (λ i. coefficient g i % p) (λ i b. fermat P (coefficient g i))

pub coefficient-powers : {p : ℕ} → Prime p → (g : List ℕ) (k : ℕ) → coefficient (pth_powers p g) k ≡ coefficient g k % p
coefficient-powers {p} P g k =
    rw (pth_powers-reduced P g)
    (elim (dec_lt k (length g)) [
      | yes b ↦ coefficient-tabulate (length g) (λ i. coefficient g i % p) k b
      | no b ↦ tabulate_beyond (length g) (λ i. coefficient g i % p) k (omega arith)
          ∙ rw (coefficient_beyond g k (omega arith), zero-mod)
    ])

pub length-spread : (p n : ℕ) (s : List ℕ) → length (spread_list p n s) ≡ n
unfolding spread_list
length-spread p n s = length-tabulate n (spread p (coefficient s))
