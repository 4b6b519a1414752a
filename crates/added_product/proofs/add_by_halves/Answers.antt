-- `added_product::add_by_halves` meets its contract. Assumes nothing.
use native.Mathlib.Nat.{add-sub_cancel_left}
use native.Mathlib.Omega.{arith}
use mathlib.Core.Path.{◌≡◌, ap, ◌∙◌}
use lib.ListN.{take, drop}
use lib.Seq.{sets}
use Rattle.definition.specs.Substitution.{cut_product}
use Rattle.added_product.specs.Added.{added-joined, loaded-product, loaded-residues, residues-product}
use Rattle.added_product.proofs.add_by_halves.Goals as goal
use Rattle.added_product.proofs.add_by_halves.Goals.{After-cut_product}

product : (c : After-cut_product)
    → take c.args.n c.cut_product.new.z
    ≡ cut_product c.args.p c.args.n (take c.args.n (drop c.args.a c.args.w.now))
    (take c.args.n (drop c.args.b c.args.w.now))
product c =
    c.cut_product.ensures
    ∙ loaded-product c.requires.0.modulus _ _ _ _ _ (simp add-sub_cancel_left at c.load.ensures) (omega (arith, c.requires.1.left))
    (simp add-sub_cancel_left at c.load-2.ensures) (omega (arith, c.requires.1.right))

pub cut_product-requires : goal.cut_product-requires
cut_product-requires c =
    record {
      modulus = c.requires.0.modulus;
      lists = record {
        left = omega (arith, c.load.auto.z, c.requires.1.left);
        left-parts = c.requires.1.left-parts;
        right = omega (arith, c.load-2.auto.z, c.requires.1.right);
        right-parts = c.requires.1.right-parts;
        target = c.requires.1.target;
        products = c.requires.1.products;
      };
      left-residues = loaded-residues c.requires.0.modulus _ _ _ c.load.ensures (omega (arith, c.requires.1.left));
      right-residues = loaded-residues c.requires.0.modulus _ _ _ c.load-2.ensures (omega (arith, c.requires.1.right));
    }

pub add_places-requires : goal.add_places-requires
add_places-requires c =
    let given = c.requires in (
      given.0.modulus,
      omega (arith, c.cut_product.auto.z, given.1.target),
      residues-product given.0.modulus _ _ _ _ (product (goal.at.add_places-requires c).After-cut_product),
      given.0.target,
    )

pub returns : goal.returns
returns c =
    record { written = c.add_places.ensures ∙ ap (sets _ _) (added-joined c.requires.0.modulus _ _ _ _ (product (goal.at.returns c).After-cut_product) _) }
