-- `summed_product::eight_zeros` meets its contract: the first k places are zero. Assumes nothing.
use native.Mathlib.Omega.{arith}
use Prim.Native.Nat.{ℕ, ◌+◌, ◌<◌}
use native.Mathlib.Decide.{dec_lt}
use mathlib.Core.List.{List}
use mathlib.Core.Bool.{false≢true}
use lib.ListN.{get_or}
use mathlib.Core.Path.{◌≡◌}
use Rattle.summed_product.proofs.eight_zeros.Goals as goal

zero-next : (x : List ℕ) (i k : ℕ) → ((j : ℕ) → j < k → get_or x (i + j) 0 ≡ 0) → get_or x (i + k) 0 ≡ 0 → (j : ℕ) → j < k + 1 → get_or x (i + j) 0 ≡ 0
zero-next x i k h e j b = at (dec_lt j k)
  where
    at : Dec (j < k) → get_or x (i + j) 0 ≡ 0
    at (yes c) = h j c
    at (no c) =
        let same : j ≡ k = omega arith in
        rw same e

pub loop-k-init : goal.loop-k-init
loop-k-init c = (omega arith, λ j b. absurd (omega arith))

pub returns-then-x-i-ne0 : goal.returns-then-x-i-ne0
returns-then-x-i-ne0 c = λ e. absurd (false≢true e)

pub loop-k-preserved : goal.loop-k-preserved
loop-k-preserved c = (
  omega (arith, c.loop-k-test.true),
  λ j b. zero-next c.args.x.now c.args.i c.loop-k.k c.loop-k.invariant.1 c.if-x-i-ne0.false j b,
)

pub returns : goal.returns
returns c = λ e k b. c.loop-k.invariant.1 k (omega (arith, c.loop-k-test.false))
