-- The reverse series of a list modulo p. Assumes nothing.
--
--   reversion-reverse     the definition's `Reversion` says that the series of h is a reverse of the series of g
--   reverse-reversion     and a list of n places below p whose series is such a reverse satisfies it
--   reversion_unique      there is at most one reverse series
--   reversion-none        where `irreversible` is true there is none
--   composed-identity     f(x) is f, for a list of n places below p
--   composed-undone       f(g(h)) is f, where h has no constant term and g(h) is x modulo x^n
use Prim.Native.Nat.{ℕ, zero, suc, ◌<◌}
use Rattle.std.specs.Prelude.{List, ltb, eqb, true, false, ◌≢◌, ◌≡◌, length}
use Rattle.std.proofs.Common.{ltb-true, eqb-true, ap, ◌∙◌, mod-eq_of_lt, arith}
use Rattle.std.proofs.Math.Bool.{and-eq-true_iff}
use Rattle.std.proofs.Math.Path.{sym}
use Rattle.algebra.specs.Bounded.{below}
use Rattle.algebra.specs.Bridge.{
  series_of,
  composed-listed,
  identity-listed,
  agree_listed,
  value,
  listed,
  listed_agree,
  listed-series,
  scalars,
  series-listed,
}
use Rattle.algebra.specs.Composition.{composed_assoc, series-constant, value-indeterminate}
use Rattle.algebra.specs.Evaluate.{evaluate_agree}
use Rattle.algebra.specs.Homomorphism.{coefficients-at}
use Rattle.algebra.specs.Residue.{residues, residues_negation, residue-zero, residue-0, residue-1, reduction}
use Rattle.algebra.specs.Reversion.{Reverse, reverse-constant, reverse-linear-nonzero, reverse-evaluate, reverse_unique}
use Rattle.algebra.specs.Series.{indeterminate}
use Rattle.definition.specs.Lists.{coefficient}
use Rattle.definition.specs.Refusal.{irreversible, exceeds}
use Rattle.definition.specs.Reversion.{Reversion, identity}
use Rattle.definition.specs.Substitution.{composed}

-- without a constant term, only the linear coefficient can be the reason
irreversible-linear : (n : ℕ) (g : List ℕ) → irreversible n g ≡ true → coefficient g 0 ≡ 0 → (1 < n) × (coefficient g 1 ≡ 0)
unfolding irreversible
irreversible-linear n g i z =
    let both = (and-eq-true_iff (ltb 1 n) (eqb (coefficient g 1) 0)).0 (rw z at i) in
    (ltb-true 1 n both.0, eqb-true (coefficient g 1) 0 both.1)

module _ {p : ℕ} (l : 0 < p) (above : 1 < p) where
  pub reversion-reverse : {n : ℕ} (g h : List ℕ) → Reversion p n g h → Reverse (residues l) n (series_of l g) (series_of l h)
  unfolding coefficient
  reversion-reverse {n} g h r =
      (reverse-evaluate (reduction l) g (series_of l h) (series-constant l h r.no_constant)).0
      (agree_listed (value l g (series_of l h)) (indeterminate (residues l))
      (sym (composed-listed l n g h) ∙ r.reverses ∙ identity-listed l n above))

  pub reverse-reversion : {n : ℕ} (g h : List ℕ) → length h ≡ n → exceeds p h ≡ false → coefficient h 0 ≡ 0
      → Reverse (residues l) n (series_of l g) (series_of l h) → Reversion p n g h
  unfolding coefficient
  reverse-reversion {n} g h e b z r = record {
    places = e;
    below = b;
    no_constant = z;
    reverses =
        composed-listed l n g h
        ∙ listed_agree ((reverse-evaluate (reduction l) g (series_of l h) (series-constant l h z)).1 r)
        ∙ sym (identity-listed l n above);
  }

  -- a list of n places below p is read off its own series
  own : {n : ℕ} (h : List ℕ) → length h ≡ n → exceeds p h ≡ false → listed n (series_of l h) ≡ h
  own {n} h e b = listed-series l n h e (λ i _. below l h b i)

  pub reversion_unique : {n : ℕ} (g h k : List ℕ) → Reversion p n g h → Reversion p n g k → h ≡ k
  reversion_unique {n} g h k r s =
      sym (own h r.places r.below)
      ∙ listed_agree (reverse_unique (residues l) (residues_negation l) n (reversion-reverse g h r) (reversion-reverse g k s))
      ∙ own k s.places s.below

  -- a coefficient below p whose residue is 𝟘 is 0
  zero_of : (g : List ℕ) → exceeds p g ≡ false → (i : ℕ) → series_of l g i ≡ (residues l).𝟘 → coefficient g i ≡ 0
  zero_of g e i z =
      sym (mod-eq_of_lt (below l g e i)) ∙ (residue-zero l (coefficient g i)).0 (sym (coefficients-at (reduction l) (coefficient g) i) ∙ z)

  pub reversion-none : (n : ℕ) (g h : List ℕ) → 0 < n → exceeds p g ≡ false → irreversible n g ≡ true → Reversion p n g h → ⊥
  reversion-none zero g h b e i r = omega arith
  reversion-none (suc n) g h b e i r =
      linear n (irreversible-linear (suc n) g i (zero_of g e 0 (reverse-constant (residues l) reverse))) reverse
    where
      reverse : Reverse (residues l) (suc n) (series_of l g) (series_of l h)
      reverse = reversion-reverse g h r

      one : (residues l).𝟙 ≢ (residues l).𝟘
      one z = omega (arith, (residue-zero l 1).0 (residue-1 l ∙ z), mod-eq_of_lt above)

      linear : (n : ℕ) → (1 < suc n) × (coefficient g 1 ≡ 0) → Reverse (residues l) (suc n) (series_of l g) (series_of l h) → ⊥
      linear zero c s = omega (arith, c.0)
      linear (suc n) c s =
          reverse-linear-nonzero (residues l) one s (rw (coefficients-at (reduction l), c.1, residue-0 l))

  pub composed-identity : {n : ℕ} (f : List ℕ) → length f ≡ n → exceeds p f ≡ false → composed p n f (identity n) ≡ f
  composed-identity {n} f e b =
      rw (composed-listed l n f (identity n), identity-listed l n above)
      (listed_agree (evaluate_agree (residues l) (scalars l) f (series-listed l n (indeterminate (residues l))))
      ∙ ap (listed n) (value-indeterminate l f)
      ∙ own f e b)

  pub composed-undone : {n : ℕ} (f g h : List ℕ) → length f ≡ n → exceeds p f ≡ false → coefficient h 0 ≡ 0
      → composed p n g h ≡ identity n → composed p n (composed p n f g) h ≡ f
  composed-undone {n} f g h e b z r = composed_assoc l n f g h z ∙ rw r (composed-identity f e b)
