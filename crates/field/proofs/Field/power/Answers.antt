-- `Field::power` meets its contract: r b^k stays a^e modulo p. Assumes nothing.
use mathlib.Core.Path.{◌∙◌}
use native.Mathlib.Nat.{mod-lt}
use native.Mathlib.Omega.{arith}
use Rattle.field.specs.Square.{power-even, power-odd}
use Rattle.field.proofs.Field.power.Goals.{then-k-eq1, else-k-eq1}
use Rattle.field.proofs.Field.power.Goals as goal

pub loop-k-preserved : goal.loop-k-preserved
loop-k-preserved c =
    elim c.if-k-eq1.branch [
      | then-k-eq1 w ↦ (
        rw (w.r-is, w.product-r.ensures) (mod-lt _ c.args.self.positive),
        rw (w.r-is, w.product-r.ensures, c.product-b.ensures)
            (power-odd _ _ _ c.loop-k.k w.if-k-eq1.true ∙ c.loop-k.invariant.1),
      )
      | else-k-eq1 w ↦ (
        rw w.r-is c.loop-k.invariant.0,
        rw (w.r-is, c.product-b.ensures)
            (power-even _ _ _ c.loop-k.k (omega (arith, w.if-k-eq1.false)) ∙ c.loop-k.invariant.1),
      )
    ]
