-- `job::solve` meets its contract. Assumes nothing.
use borrow.Author.Rules.{rules}
use native.Mathlib.Omega.{arith}
use Prim.Native.Nat.{◌≤◌}
use lib.ListN.{length}
use lib.Seq.{length-take-le}
use mathlib.Core.Path.{◌≡◌, sym, ◌∙◌}
use Rattle.std.specs.Prelude.{Bool, false, ℕ, List}
use Rattle.definition.specs.Job.{cut_short, order, too_large}
use Rattle.job_file.specs.File.{Accepted, small-order, whole}
use Rattle.std.proofs.lemmas.Result.{err_from_is_err_and}
use Rattle.reason.specs.Numbers.{refused}
use Rattle.job.specs.Solved.{solution_composed, solution_large, solution_refused, solution_short}
use Rattle.job.proofs.solve.Goals as goal
use Rattle.job.proofs.solve.Goals.{After-field-order, Else-cut_short}

-- what the tests 12 and 13 let pass
passed : {file : List ℕ} {large short : Bool} → large ≡ too_large file → large ≡ false → short ≡ cut_short file → short ≡ false → Accepted file
passed e f g h = record { large = sym e ∙ f; short = sym g ∙ h }

accepted : (c : Else-cut_short) → Accepted c.args.file.now
accepted c = passed c.too_large.ensures c.if-too_large.false c.cut_short.ensures c.if-cut_short.false

stated : (c : After-field-order) → c.field-order.result ≡ order c.args.file.now
unfolding order
stated c = c.field-order.ensures

within : (c : After-field-order) → c.field-order.result ≤ length c.args.output.now
within c = omega (arith, (stated c), small-order (passed c.too_large.ensures c.if-too_large.false c.cut_short.ensures c.if-cut_short.false), c.requires)

pub returns-then-too_large : goal.returns-then-too_large
returns-then-too_large c = solution_large _ (sym c.too_large.ensures ∙ c.if-too_large.true)

pub returns-then-cut_short : goal.returns-then-cut_short
returns-then-cut_short c =
    solution_short _ (sym c.too_large.ensures ∙ c.if-too_large.false) (sym c.cut_short.ensures ∙ c.if-cut_short.true)

pub field-order-requires : goal.field-order-requires
field-order-requires c = (whole (accepted c), search rules)

pub slice_bounds-compose_file-end : goal.slice_bounds-compose_file-end
slice_bounds-compose_file-end c = within c

pub slice_bounds-compose_file-end-2 : goal.slice_bounds-compose_file-end-2
slice_bounds-compose_file-end-2 c = sym (length-take-le _ _ (within (goal.at.slice_bounds-compose_file-end-2 c).After-field-order))

pub compose_file-requires : goal.compose_file-requires
compose_file-requires c = (accepted (goal.at.compose_file-requires c).Else-cut_short, length-take-le _ _ (within (goal.at.compose_file-requires c).After-field-order) ∙ stated (goal.at.compose_file-requires c).After-field-order)

pub returns-in_err-weight : goal.returns-in_err-weight
returns-in_err-weight c =
    let error = err_from_is_err_and c.from_residual.result c.from_residual.ensures.1 in
    let told = accepted (goal.at.returns-in_err-weight c).Else-cut_short in
    rw (error.1, error.2) (solution_refused told _ c.in_err-weight.ensures.refusal (refused _))

pub returns : goal.returns
returns c =
    let size = length-take-le _ _ (within (goal.at.returns c).After-field-order) in
    solution_composed (accepted (goal.at.returns c).Else-cut_short) _ _ (stated (goal.at.returns c).After-field-order) size (c.compose_file.auto.output ∙ size) c.in_ok-weight.ensures
