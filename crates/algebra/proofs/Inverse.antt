-- The reverse series of a list modulo p, from the other side. Assumes nothing.
--
--   reversion-symmetric   h(g) is x modulo x^n too, where h is the reverse series of g
use Prim.Native.Nat.{ℕ, zero, suc, ◌<◌}
use Rattle.std.specs.Prelude.{List, ◌≡◌}
use Rattle.std.proofs.Common.{◌∙◌}
use Rattle.std.proofs.Math.Path.{refl, sym}
use Rattle.algebra.specs.Bridge.{series_of, composed-listed, identity-listed, listed_agree}
use Rattle.algebra.specs.Residue.{residues, residues_negation, reduction}
use Rattle.algebra.specs.Reversion.{reverse-constant, reverse-evaluate}
use Rattle.algebra.proofs.Newton.{reverse_sym}
use Rattle.definition.specs.Lists.{coefficient, tabulate}
use Rattle.definition.specs.Reversion.{Reversion, identity}
use Rattle.definition.specs.Substitution.{composed}
use Rattle.algebra.specs.Inverse.{reversion-reverse}

module _ {p : ℕ} (l : 0 < p) (above : 1 < p) where
  pub reversion-symmetric : (n : ℕ) (g h : List ℕ) → Reversion p n g h → composed p n h g ≡ identity n
  unfolding coefficient composed identity tabulate
  reversion-symmetric zero g h r = refl
  reversion-symmetric (suc n) g h r =
      let s = reversion-reverse l above g h r in
      let z = reverse-constant (residues l) s in
      composed-listed l (suc n) h g
      ∙ listed_agree
      ((reverse-evaluate (reduction l) h (series_of l g) z).1 (reverse_sym (residues l) (residues_negation l) (suc n) z s))
      ∙ sym (identity-listed l (suc n) above)
