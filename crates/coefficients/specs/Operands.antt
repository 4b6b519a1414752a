-- A product of two parts of a list, added to a third part: what it requires, and what it leaves there.
--
--   Operands p n a b t w   a modulus, an order, and three parts of n places, of which the target lies apart from the factors
--   operands-length        it holds of every list of that length
--   added_product p n a b t w   the n places from t on, plus the product of those from a and from b on
--   length-joined length-added   it has n places
-- Assumes nothing.
use Rattle.std.specs.Prelude.{ℕ, ◌^◌, ◌<◌, ◌≤◌, ◌≡◌, List, length}
use Rattle.algebra.specs.Bridge.{length-cut_sum}
use Rattle.buffer.specs.Segments.{Apart, apart-length, segment}
use Rattle.definition.specs.Ranged.{joined}
use Rattle.definition.specs.Substitution.{cut_product}

pub record Operands (p n a b t : ℕ) (w : List ℕ) : Type 0 where
  pub modulus : 0 < p
  pub order : n ≤ 2 ^ 30
  pub left : Apart w a n t n
  pub right : Apart w b n t n

pub operands-length : {p n a b t : ℕ} {v w : List ℕ} → length v ≡ length w → Operands p n a b t w → Operands p n a b t v
operands-length e o = record {
  modulus = o.modulus;
  order = o.order;
  left = apart-length e o.left;
  right = apart-length e o.right;
}

abbrev pub added_product : ℕ → ℕ → ℕ → ℕ → ℕ → List ℕ → List ℕ
added_product p n a b t w = joined p n (segment w t n) (segment w a n) (segment w b n)

pub length-joined : (p n : ℕ) (s u v : List ℕ) → length (joined p n s u v) ≡ n
unfolding joined
length-joined p n s u v = length-cut_sum p n s (cut_product p n u v)

pub length-added : (p n a b t : ℕ) (w : List ℕ) → length (added_product p n a b t w) ≡ n
length-added p n a b t w = length-joined p n (segment w t n) (segment w a n) (segment w b n)
