-- `double_karatsuba::is_short` meets its contract. Assumes nothing.
use mathlib.Core.Bool.{true≢false}
use Rattle.double_karatsuba.proofs.is_short.Goals as goal

pub returns-then-g-lt16 : goal.returns-then-g-lt16
returns-then-g-lt16 c = λ e. absurd (true≢false e)

pub returns-then-t-lt16 : goal.returns-then-t-lt16
returns-then-t-lt16 c = λ e. absurd (true≢false e)
