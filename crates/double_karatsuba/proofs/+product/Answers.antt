-- `double_karatsuba::product` meets its contract. The measure is the number of places of a row, which falls by half. Assumes nothing.
use Prim.Native.Nat.{ℕ, ◌*◌, ◌/◌, ◌≤◌, ◌<◌}
use native.Mathlib.Omega.{arith}
use mathlib.Core.Path.{◌≡◌, refl}
use lib.ListN.{replicate}
use Rattle.summed_product.specs.Zeros.{zeros-replicate}
use Rattle.double_parity.specs.Halves.{even_half, folded_part, lower_half, odd_half, upper, upper_half}
use Rattle.double_karatsuba.specs.Product.{Long, Multiplied, even-multiplying, fold-first, fold-second, folded-multiplying, half-inner, half_start, odd-multiplying, places-few, same-multiplied, same-multiplying, shorter}
use Rattle.double_karatsuba.proofs.Woven.{thirds, woven-product}
use Rattle.double_karatsuba.proofs.+product.Goals as goal
use Rattle.double_karatsuba.proofs.+product.Goals.{After-product-3, Else-is_short}

-- the measure falls
upper_falls : {t n : ℕ} → n ≡ t → 16 ≤ n → upper n < t
upper_falls e h = omega arith

lower_falls : {t n : ℕ} → n ≡ t → 16 ≤ n → n / 2 < t
lower_falls e h = omega arith

-- a long part
long : {t : ℕ} → (c : Else-is_short t) → Long c.args.g c.args.t
long c = c.is_short.ensures c.if-is_short.false

-- the three products
even-third : {t : ℕ} → (c : After-product-3 t) → Multiplied c.args.p (even_half c.args.g) c.args.w.now (even_half c.args.h) c.args.v.now
    (upper_half c.args.t) (replicate 4352 0) c.product.new.z
even-third c = same-multiplied _ _ _ _ c.even_half.ensures c.even_half-2.ensures c.upper_half-up.ensures c.product.ensures

odd-third : {t : ℕ} → (c : After-product-3 t) → Multiplied c.args.p (odd_half c.args.g) c.args.w.now (odd_half c.args.h) c.args.v.now
    (lower_half c.args.t) (replicate 4352 0) c.product-2.new.z
odd-third c = same-multiplied _ _ _ _ c.odd_half.ensures c.odd_half-2.ensures c.lower_half-down.ensures c.product-2.ensures

fold-third : {t : ℕ} → (c : After-product-3 t) → Multiplied c.args.p (folded_part c.args.g) c.fold.new.s (folded_part c.args.h)
    c.fold-2.new.s (lower_half c.args.t) (replicate 4352 0) c.product-3.new.z
fold-third c = same-multiplied _ _ _ _ c.folded_part.ensures c.folded_part-2.ensures c.lower_half-down.ensures c.product-3.ensures

pub is_short-requires : goal.is_short-requires
is_short-requires t c =
    let few : c.args.g.count * c.args.g.length ≤ 4608 = omega (arith, c.requires.few, places-few c.args.t.turned c.args.g.length c.args.g.count) in
    omega arith

pub by_blocks-requires : goal.by_blocks-requires
by_blocks-requires t c = c.requires

pub returns-then-is_short : goal.returns-then-is_short
returns-then-is_short t c = c.by_blocks.ensures

pub even_half-requires : goal.even_half-requires
even_half-requires t c = (half-inner c.requires (long (goal.at.even_half-requires t c).Else-is_short)).0

pub even_half-requires-2 : goal.even_half-requires-2
even_half-requires-2 t c = (half-inner c.requires (long (goal.at.even_half-requires-2 t c).Else-is_short)).1

pub product-requires : goal.product-requires
product-requires t c =
    let even = c.even_half.ensures in (
      shorter even (upper_falls c.decreases (long (goal.at.product-requires t c).Else-is_short).length),
      same-multiplying even c.even_half-2.ensures c.upper_half-up.ensures
          (even-multiplying c.requires (long (goal.at.product-requires t c).Else-is_short) refl),
    )

pub odd_half-requires : goal.odd_half-requires
odd_half-requires t c =
    ((half-inner c.requires (long (goal.at.odd_half-requires t c).Else-is_short)).0, (half_start c.requires (long (goal.at.odd_half-requires t c).Else-is_short)).0)

pub odd_half-requires-2 : goal.odd_half-requires-2
odd_half-requires-2 t c =
    ((half-inner c.requires (long (goal.at.odd_half-requires-2 t c).Else-is_short)).1, (half_start c.requires (long (goal.at.odd_half-requires-2 t c).Else-is_short)).1)

pub product-requires-2 : goal.product-requires-2
product-requires-2 t c =
    let odd = c.odd_half.ensures in (
      shorter odd (lower_falls c.decreases (long (goal.at.product-requires-2 t c).Else-is_short).length),
      same-multiplying odd c.odd_half-2.ensures c.lower_half-down.ensures
          (odd-multiplying c.requires (long (goal.at.product-requires-2 t c).Else-is_short) refl),
    )

pub fold-requires : goal.fold-requires
fold-requires t c =
    fold-first c.requires (long (goal.at.fold-requires t c).Else-is_short) (zeros-replicate 4896)

pub fold-requires-2 : goal.fold-requires-2
fold-requires-2 t c =
    fold-second c.requires (long (goal.at.fold-requires-2 t c).Else-is_short) (zeros-replicate 4896)

pub product-requires-3 : goal.product-requires-3
product-requires-3 t c =
    let part = c.folded_part.ensures in (
      shorter part (upper_falls c.decreases (long (goal.at.product-requires-3 t c).Else-is_short).length),
      same-multiplying part c.folded_part-2.ensures c.lower_half-down.ensures
          (folded-multiplying c.requires (long (goal.at.product-requires-3 t c).Else-is_short) (zeros-replicate 4896) c.fold.ensures c.fold-2.ensures refl),
    )

pub weave-requires : goal.weave-requires
weave-requires t c = (
  thirds c.requires (long (goal.at.weave-requires t c).Else-is_short) (zeros-replicate 4896) c.fold.ensures c.fold-2.ensures
      (zeros-replicate 4352) (even-third (goal.at.weave-requires t c).After-product-3) (odd-third (goal.at.weave-requires t c).After-product-3) (fold-third (goal.at.weave-requires t c).After-product-3),
  c.requires.room.room,
)

pub returns : goal.returns
returns t c =
    woven-product c.requires (long (goal.at.returns t c).Else-is_short) (zeros-replicate 4896) c.fold.ensures c.fold-2.ensures
    (zeros-replicate 4352) (even-third (goal.at.returns t c).After-product-3) (odd-third (goal.at.returns t c).After-product-3) (fold-third (goal.at.returns t c).After-product-3) c.weave.ensures
