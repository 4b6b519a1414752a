-- `block_product::multiply` meets its contract: the first k results are there. Assumes nothing.
use borrow.Author.Rules.{rules}
use native.Mathlib.Omega.{arith}
use Prim.Native.Nat.{◌+◌, ◌*◌, ◌<◌, ◌≤◌}
use lib.ListN.{length}
use Rattle.block_product.specs.Results.{result_fits, result-rooms, results-first, results_next}
use mathlib.Core.Path.{◌≡◌, refl}
use Rattle.block_product.proofs.multiply.Goals as goal
use Rattle.block_product.proofs.multiply.Goals.{At-loop-k}

fits-z : (c : At-loop-k) → c.loop-k.k < c.args.t.count
    → c.loop-k.k * c.args.t.length + c.args.t.length ≤ length c.args.z.now
fits-z c below = result_fits c.requires.2 c.loop-k.k below

pub loop-k-init : goal.loop-k-init
loop-k-init c = (omega arith, refl, refl, refl, results-first _ _ _)

pub overflow_mul-from : goal.overflow_mul-from
overflow_mul-from c = record { fits = omega (arith, fits-z (goal.at.overflow_mul-from c).At-loop-k c.loop-k-test.true) }

pub overflow_add-to : goal.overflow_add-to
overflow_add-to c = record { fits = omega (arith, fits-z (goal.at.overflow_add-to c).At-loop-k c.loop-k-test.true) }

pub offset_bounds-z-from : goal.offset_bounds-z-from
offset_bounds-z-from c = record { fits = omega (arith, fits-z (goal.at.offset_bounds-z-from c).At-loop-k c.loop-k-test.true) }

pub slice_bounds-result-end-in-loop-k-2 : goal.slice_bounds-result-end-in-loop-k-2
slice_bounds-result-end-in-loop-k-2 c = omega (arith, fits-z (goal.at.slice_bounds-result-end-in-loop-k-2 c).At-loop-k c.loop-k-test.true, c.loop-k.invariant.1)

pub result-requires : goal.result-requires
result-requires c =
    let inv = c.loop-k.invariant in
    let pre = c.requires in
    (pre.0, pre.1, result-rooms pre.2 c.loop-k.k c.loop-k-test.true _ _ inv.4 (omega (arith, inv.2)) (omega (arith, inv.3)))

pub loop-k-preserved : goal.loop-k-preserved
loop-k-preserved c =
    let inv = c.loop-k.invariant in
    let pre = c.requires in (
      omega (arith, c.loop-k-test.true),
      search rules,
      search rules,
      search rules,
      results_next pre.2 c.loop-k.k c.loop-k-test.true _ _ inv.4 c.result.ensures,
    )

pub returns : goal.returns
returns c =
    let inv = c.loop-k.invariant in
    let all : c.loop-k.k ≡ c.args.t.count = omega (arith, inv.0, c.loop-k-test.false) in
    rw all at inv.4
