-- `job::print` meets its contract: rendering accepts the answer. Assumes nothing.
use borrow.Author.Rules.{rules}
use Rattle.std.proofs.Common.{ℕ, arith, ◌≡◌, refl, Ok, Err, Result}
use Rattle.std.specs.Result.{result_unwrap_or}
use Rattle.reason.specs.declared.Refusal.{Refusal}
use Rattle.reason.specs.Numbers.{value}
use Rattle.job.specs.Solved.{printed}
use Rattle.job.proofs.print.Goals as goal

valued : (rendered : Result ℕ Refusal) → result_unwrap_or rendered 0 ≡ value rendered
valued (Ok count) = refl
valued (Err refusal) = refl

pub returns : goal.returns
returns c =
    rw (c.unwrap_or.ensures, valued c.render.result)
    (printed c.requires (search rules) (search rules) (λ i. omega (arith, c.type_inv.list i)) c.told-text c.render.ensures)
