-- `buffer::effective_part` meets its contract. Assumes nothing.
use native.Mathlib.Omega.{arith}
use Prim.Native.Nat.{◌+◌, ◌-◌}
use mathlib.Core.Path.{◌≡◌, ap, ◌∙◌}
use Rattle.buffer.specs.Segments.{segment}
use Rattle.definition.specs.Lists.{effective_length}
use Rattle.buffer.proofs.effective_part.Goals as goal

pub returns : goal.returns
returns c =
    let places : c.args.t + c.args.n - c.args.t ≡ c.args.n = omega arith in
    c.effective_length.ensures ∙ ap (λ k. effective_length (segment c.args.w.now c.args.t k)) places
