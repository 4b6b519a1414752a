-- The lists that the products of the even and the odd part are written to.
--
--   Made p side room even odd   each has so much room, for parts with at most `side` in their shorter direction, and holds places below p
--   made                        lists of zeros do
-- Assumes nothing.
use Rattle.std.specs.Prelude.{ℕ, ◌<◌, ◌≤◌, List, length, get_or}
use Rattle.std.proofs.Common.{le_refl}
use Rattle.summed_product.specs.Zeros.{Zeros}

pub record Made (p side room : ℕ) (even odd : List ℕ) : Type 0 where
  pub few : side ≤ 64
  pub even-room : room ≤ length even
  pub odd-room : room ≤ length odd
  pub even-below : (k : ℕ) → get_or even k 0 < p
  pub odd-below : (k : ℕ) → get_or odd k 0 < p

pub made : {p side room : ℕ} {even odd : List ℕ} → 0 < p → side ≤ 64 → Zeros room even → Zeros room odd → Made p side room even odd
made positive few e o = record {
  few = few;
  even-room = rw e.size (le_refl _);
  odd-room = rw o.size (le_refl _);
  even-below = λ k. rw (e.blank k) positive;
  odd-below = λ k. rw (o.blank k) positive;
}
