-- A product of two parts of a list, added to a third part.
--
--   Parts p n a b t w      what each function requires: three parts of n places inside w
--   Added                  what each ensures
--   residues-product       the first n places are residues where they are a product
--   added-joined           the sum with a product
--   loaded-residues        residues read into the front of a list
--   loaded-product         and the product of two such lists
-- Assumes nothing.
use Rattle.std.specs.Prelude.{ℕ, ◌+◌, ◌%◌, ◌<◌, ◌≤◌, List, ◌≡◌, length, take}
use Rattle.std.proofs.Common.{mod-lt, ◌∙◌}
use Rattle.std.proofs.Math.Path.{sym, ap}
use Rattle.std.proofs.Math.ListN.{get_or}
use Rattle.std.proofs.lemmas.List.Edits.{sets}
use Rattle.std.proofs.Math.Seq.{get_or-take}
use Rattle.algebra.specs.Lists.{coefficient-tabulate, tabulate_cong}
use Rattle.buffer.specs.Written.{front-sets}
use Rattle.coefficients.specs.Operands.{added_product}
use Rattle.definition.specs.Lists.{coefficient}
use Rattle.definition.specs.Ranged.{joined}
use Rattle.definition.specs.Substitution.{cut_product, cut_product_at, cut_sum, cut_sum_at, product}
use Rattle.parity.specs.Halves.{Residues}
use Rattle.karatsuba.specs.Rule.{cut_product_taken}
use Rattle.schoolbook.specs.ByRows.{length-residue_list, product-residues, residue-below, residue_list}

pub record Parts (p n a b t : ℕ) (w : List ℕ) : Type 0 where
  pub modulus : 0 < p
  pub order : n ≤ 4096
  pub left : a + n ≤ length w
  pub right : b + n ≤ length w
  pub target : t + n ≤ length w

pub record Added (p n a b t : ℕ) (before after : List ℕ) : Type 0 where
  pub written : after ≡ sets before t (added_product p n a b t before)

module _ {p : ℕ} (l : 0 < p) (n : ℕ) (z u v : List ℕ) (e : take n z ≡ cut_product p n u v) where
  place-product : (k : ℕ) → k < n → get_or z k 0 ≡ product (coefficient u) (coefficient v) k % p
  unfolding cut_product cut_product_at coefficient
  place-product k h =
      sym (get_or-take n z k 0 h) ∙ ap (λ s. get_or s k 0) e ∙ coefficient-tabulate n (cut_product_at p u v) k h

  pub residues-product : Residues p n z
  unfolding coefficient
  residues-product k h = rw (place-product k h) (mod-lt _ l)

  pub added-joined : (s : List ℕ) → cut_sum p n s z ≡ joined p n s u v
  unfolding joined cut_sum cut_sum_at coefficient
  added-joined s =
      tabulate_cong n (cut_sum_at p s z) (cut_sum_at p s (cut_product p n u v)) (λ k h. rw (← e, get_or-take n z k 0 h))

-- factors that were read into the front of other lists
loaded-front : (p n : ℕ) (x u : List ℕ) {x' : List ℕ} → x' ≡ sets x 0 (residue_list p n u) → n ≤ length x → take n x' ≡ residue_list p n u
loaded-front p n x u e room = front-sets n x (residue_list p n u) e (length-residue_list p n u) room

pub loaded-residues : {p : ℕ} → 0 < p → (n : ℕ) (x u : List ℕ) {x' : List ℕ} → x' ≡ sets x 0 (residue_list p n u) → n ≤ length x → Residues p n x'
unfolding coefficient
loaded-residues {p} l n x u {x'} e room k h = rw (← get_or-take n x' k 0 h, loaded-front p n x u e room) (residue-below l n u k h)

pub loaded-product : {p : ℕ} → 0 < p → (n : ℕ) (x y u v : List ℕ) {x' y' : List ℕ}
    → x' ≡ sets x 0 (residue_list p n u) → n ≤ length x → y' ≡ sets y 0 (residue_list p n v) → n ≤ length y
    → cut_product p n x' y' ≡ cut_product p n u v
loaded-product {p} l n x y u v {x'} {y'} e room f place =
    sym (cut_product_taken l n x' y')
    ∙ rw (loaded-front p n x u e room, loaded-front p n y v f place) (product-residues l n u v)
