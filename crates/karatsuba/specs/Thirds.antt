-- A product from its three products of half the length.
--
--   thirds_woven       the three products lie where `weave` reads them
--   thirds_product     and what it leaves is the product
-- Assumes nothing.
use Rattle.std.specs.Prelude.{ℕ, ◌+◌, ◌-◌, ◌/◌, ◌<◌, ◌≤◌, List, ◌≡◌, length, take, drop}
use Rattle.std.proofs.Common.{mod-lt, arith, ◌∙◌, get_or-drop, get_or-take, take-take}
use Rattle.std.proofs.lemmas.List.Edits.{sets}
use Rattle.algebra.specs.Lists.{coefficient-tabulate, length-tabulate}
use Rattle.buffer.specs.Written.{drop-take, front-sets}
use Rattle.definition.specs.Lists.{coefficient, tabulate}
use Rattle.definition.specs.Substitution.{cut_product, cut_product_at}
use Rattle.parity.specs.Halves.{part}
use Rattle.karatsuba.specs.Room.{Room, Third}
use Rattle.karatsuba.specs.Rule.{rule}
use Rattle.parity.specs.Weave.{Woven, woven}

segment-kept : (a c b : ℕ) (z z' : List ℕ) → take b z' ≡ take b z → a + c ≤ b → take c (drop a z') ≡ take c (drop a z)
segment-kept a c b z z' e h =
    rw (← drop-take a c z', ← drop-take a c z, ← take-take (a + c) b z' h, ← take-take (a + c) b z h, e)

product-residue : {p : ℕ} (a c : ℕ) (r u v : List ℕ) → 0 < p → take c (drop a r) ≡ cut_product p c u v → (k : ℕ) → a ≤ k → k < a + c → coefficient r k < p
unfolding coefficient cut_product cut_product_at
product-residue {p} a c r u v positive e k h g =
    let i : k ≡ a + (k - a) = omega arith in
    rw (i, ← get_or-drop, ← get_or-take c (drop a r) (k - a) 0 (omega arith), e, coefficient-tabulate c (cut_product_at p u v) (k - a) (omega arith))
    (mod-lt _ positive)

module _ {p n : ℕ} {x u y v z r x₁ y₁ r₁ x₂ y₂ r₂ x₃ y₃ r₃ : List ℕ} (room : Room p n x u y v z r) (size : length r₃ ≡ length r)
    (evens : Third p n 0 (n - n / 2) 0 x x₁ y y₁ r r₁)
    (odds : Third p n 1 (n / 2) (n - n / 2) x₁ x₂ y₁ y₂ r₁ r₂)
    (sums : Third p n 2 (n / 2) n x₂ x₃ y₂ y₃ r₂ r₃) where
  even-product : take (n - n / 2) r₃ ≡ cut_product p (n - n / 2) (part p n 0 (n - n / 2) x) (part p n 0 (n - n / 2) y)
  even-product =
      segment-kept 0 (n - n / 2) n r₂ r₃ sums.before (omega arith)
      ∙ segment-kept 0 (n - n / 2) (n - n / 2) r₁ r₂ odds.before (omega arith)
      ∙ evens.product

  odd-product : take (n / 2) (drop (n - n / 2) r₃) ≡ cut_product p (n / 2) (part p n 1 (n / 2) x) (part p n 1 (n / 2) y)
  odd-product =
      segment-kept (n - n / 2) (n / 2) n r₂ r₃ sums.before (omega arith)
      ∙ odds.product ∙ rw (evens.left, evens.right)

  sum-product : take (n / 2) (drop n r₃) ≡ cut_product p (n / 2) (part p n 2 (n / 2) x) (part p n 2 (n / 2) y)
  sum-product = sums.product ∙ rw (odds.left, evens.left, odds.right, evens.right)

  module _ (z₃ : List ℕ) (size-z : length z₃ ≡ length z) where
    pub thirds_woven : Woven p n r₃ 0 r₃ (n - n / 2) r₃ n z₃ 0
    thirds_woven = record {
      modulus = room.modulus;
      evens = omega (arith, room.lists.products);
      odds = omega (arith, room.lists.products);
      folds = omega (arith, room.lists.products);
      target = omega (arith, room.lists.target);
      even-small = λ k h. product-residue 0 (n - n / 2) r₃ _ _ room.modulus even-product (0 + k) (omega arith) (omega arith);
      odd-small = λ k h. product-residue (n - n / 2) (n / 2) r₃ _ _ room.modulus odd-product (n - n / 2 + k) (omega arith) (omega arith);
      fold_small = λ k h. product-residue n (n / 2) r₃ _ _ room.modulus sum-product (n + k) (omega arith) (omega arith);
    }

    pub thirds_product : {after : List ℕ} → after ≡ sets z₃ 0 (tabulate n (woven p r₃ 0 r₃ (n - n / 2) r₃ n)) → take n after ≡ cut_product p n x y
    thirds_product woven-after =
        front-sets n z₃ (tabulate n (woven p r₃ 0 r₃ (n - n / 2) r₃ n)) woven-after (length-tabulate n _) (omega (arith, room.lists.target))
        ∙ rule room.modulus n x y r₃ even-product odd-product sum-product
