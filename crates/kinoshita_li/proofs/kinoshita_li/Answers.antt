-- `kinoshita_li::kinoshita_li` meets its contract. Assumes nothing.
use borrow.Author.Rules.{rules}
use Rattle.buffer.specs.Segments.{copy_down}
use native.Mathlib.Omega.{arith}
use Prim.Native.Nat.{◌+◌, ◌*◌, ◌<◌, ◌≤◌}
use lib.ListN.{length}
use lib.Seq.{length_front, length-take-le}
use mathlib.Core.Path.{sym, ◌∙◌}
use Rattle.kinoshita_li.specs.Whole.{fraction-lent, none_done, places-inside, rows_inside, some-done}
use Rattle.kinoshita_li.proofs.kinoshita_li.Goals as goal
use Rattle.kinoshita_li.proofs.kinoshita_li.Goals.{After-smaller-q}

-- an outer list that is not empty

some : (c : After-smaller-q) → 0 < length c.args.f.now
some c = omega arith

enough : (c : After-smaller-q) → c.work_places-places.result ≤ length c.args.w.now
enough c = places-inside c.args.f.now c.args.w.now c.requires c.work_places-places.ensures

inside : (c : After-smaller-q) → (c.smaller-q.result + 1) * c.args.n + c.args.n ≤ c.work_places-places.result
inside c =
    rows_inside c.args.f.now c.args.w.now c.requires c.work_places-places.ensures (some c)
    c.smaller-q.ensures

pub put_constant-requires : goal.put_constant-requires
put_constant-requires c =
    let lent = c.requires in
    (lent.positive, omega (arith, lent.enough))

pub returns-then-m-eq0 : goal.returns-then-m-eq0
returns-then-m-eq0 c =
    rw c.none.ensures
    (none_done c.args.f.now c.args.g.now c.args.w.now c.requires c.if-m-eq0.true c.put_constant.ensures)

pub slice_bounds-fraction-end : goal.slice_bounds-fraction-end
slice_bounds-fraction-end c = enough c

pub slice_bounds-fraction-end-2 : goal.slice_bounds-fraction-end-2
slice_bounds-fraction-end-2 c = sym (length-take-le _ _ (enough (goal.at.slice_bounds-fraction-end-2 c).After-smaller-q))

pub fraction-weight-requires : goal.fraction-weight-requires
fraction-weight-requires c =
    let args = c.args in
    fraction-lent args.f.now args.w.now c.requires c.work_places-places.ensures (some (goal.at.fraction-weight-requires c).After-smaller-q)
    c.smaller-q.ensures

pub overflow_add-q : goal.overflow_add-q
overflow_add-q c = omega (arith, c.smaller-q.ensures)

pub overflow_mul-q : goal.overflow_mul-q
overflow_mul-q c =
    omega (arith, inside (goal.at.overflow_mul-q c).After-smaller-q, enough (goal.at.overflow_mul-q c).After-smaller-q)

pub copy_part-requires : goal.copy_part-requires
copy_part-requires c =
    let came = c.fraction-weight in
    let size =
    length_front c.args.w.now came.new.w c.work_places-places.result
    came.auto.w in
    copy_down (omega arith) (omega (arith, size, inside (goal.at.copy_part-requires c).After-smaller-q, enough (goal.at.copy_part-requires c).After-smaller-q))

pub returns : goal.returns
returns c =
    let args = c.args in
    some-done args.f.now args.w.now c.requires c.work_places-places.ensures (some (goal.at.returns c).After-smaller-q)
    c.smaller-q.ensures (c.fraction-weight.auto.w ∙ length-take-le _ _ (enough (goal.at.returns c).After-smaller-q))
    c.fraction-weight.ensures c.copy_part.ensures
