-- `added_product::add_by_rows` meets its contract. Assumes nothing.
use native.Mathlib.Nat.{add-sub_cancel_left}
use native.Mathlib.Omega.{arith}
use Prim.Native.Nat.{◌≤◌}
use mathlib.Core.Path.{◌≡◌, ap, ◌∙◌}
use lib.ListN.{length, take, drop, replicate, length-replicate}
use lib.Seq.{sets}
use Rattle.algebra.specs.Bridge.{length-cut_product}
use Rattle.definition.specs.Substitution.{cut_product}
use Rattle.buffer.specs.Written.{front-sets}
use Rattle.added_product.specs.Added.{added-joined, residues-product}
use Rattle.added_product.proofs.add_by_rows.Goals as goal
use Rattle.added_product.proofs.add_by_rows.Goals.{After-cut_product}

room : (c : After-cut_product) → c.args.n ≤ length c.cut_product.new.z
room c = omega (arith, c.cut_product.auto.z, c.requires.1)

front : (c : After-cut_product)
    → take c.args.n c.cut_product.new.z
    ≡ cut_product c.args.p c.args.n (take c.args.n (drop c.args.a c.args.w.now))
    (take c.args.n (drop c.args.b c.args.w.now))
front c =
    front-sets _ (replicate 128 0) _ (simp add-sub_cancel_left at c.cut_product.ensures) (length-cut_product _ _ _ _) (rw length-replicate c.requires.1)

pub add_places-requires : goal.add_places-requires
add_places-requires c =
    (c.requires.0.modulus, room (goal.at.add_places-requires c).After-cut_product, residues-product c.requires.0.modulus _ _ _ _ (front (goal.at.add_places-requires c).After-cut_product), c.requires.0.target)

pub returns : goal.returns
returns c =
    record { written = c.add_places.ensures ∙ ap (sets _ _) (added-joined c.requires.0.modulus _ _ _ _ (front (goal.at.returns c).After-cut_product) _) }
