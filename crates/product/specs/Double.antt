-- Products in two variables, cut in both, on rows of one list.
--
--   product_of p r a b w   the product modulo p of the polynomials that stand in w at a and at b
--   MultipliedOpposite    the contract of `multiply_opposite`
--   MultipliedRows        the contract of `multiply_spread`
-- Assumes nothing.
use Rattle.std.specs.Prelude.{ℕ, ◌*◌, List, ◌≡◌}
use Rattle.std.proofs.lemmas.List.Edits.{sets}
use Rattle.definition.specs.KinoshitaLi.{cut_product2_at, opposite, plane, window}
use Rattle.product.specs.declared.Rows.{Rows}
use Rattle.product.specs.Planes.{held}

abbrev pub product_of : ℕ → ℕ → Rows → Rows → List ℕ → ℕ → ℕ → ℕ
product_of p r a b w = cut_product2_at p (held r w a) (held r w b)

pub record MultipliedOpposite (p r : ℕ) (a t : Rows) (before after : List ℕ) (result : ℕ) : Type 0 where
  pub written : after ≡ sets before t.at (plane r t.count (cut_product2_at p (held r before a) (opposite p (held r before a))))
  pub places : result ≡ r * t.count

pub record MultipliedRows (p r : ℕ) (a b : Rows) (low : ℕ) (t : Rows) (before after : List ℕ) (result : ℕ) : Type 0 where
  pub written : after ≡ sets before t.at (plane r t.count (window low (product_of p r a b before)))
  pub places : result ≡ r * t.count
