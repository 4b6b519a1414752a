-- Newton's step on lists modulo p: h - (g(h) - x) h', from the order half to half + rest. The error g(h) - x has no power below half. So the first
-- half places of h stay, and for the others the product takes rest places of the error, from half on, and rest places of h'.
--
--   difference p n a b    a - b, a list of n places
--   derivative p n h      the derivative of the polynomial h, a list of n places
--   correction            the product, in which g(h) stands for g(h) - x: they are equal from half > 1 on
--   newton_step p half rest g h   the step
--   newton_reversion      it takes a reverse series at order half to one at order half + rest, if rest is below half
-- Assumes nothing.
use Prim.Native.Nat.{ℕ, suc, ◌+◌, ◌*◌, ◌-◌, ◌%◌, ◌<◌, ◌≤◌}
use Rattle.std.proofs.Math.Decide.{dec_lt}
use Rattle.std.proofs.Common.{mod-lt, sym, ◌∙◌, length-append, get_or-append-add, get_or-drop, length-take-le}
use Rattle.std.proofs.Math.Nat.{mod-mod}
use Rattle.std.proofs.Math.Numerals.{add-one}
use native.Mathlib.Omega.{arith}
use Rattle.std.specs.Prelude.{false, List, ◌++◌, ◌≡◌, length, take, drop}
use Rattle.std.proofs.Math.ListN.{get_or-append}
use Rattle.std.proofs.Math.Seq.{get_or-take}
use Rattle.algebra.specs.Agree.{Agree, agree_neg, agree_refl, agree_trans, agree_weaken, agree_⊞, agree_⊠}
use Rattle.algebra.specs.Bounded.{below, bounded}
use Rattle.algebra.specs.Bridge.{cut_product-listed, residue-series, series-listed, series_of}
use Rattle.algebra.specs.Composition.{series-composed, series-constant}
use Rattle.algebra.specs.Derivative.{derivative-at}
use Rattle.algebra.specs.Derivative as Derivative
use Rattle.algebra.specs.Homomorphism.{coefficients-at}
use Rattle.algebra.specs.Inverse.{reversion-reverse, reverse-reversion}
use Rattle.algebra.specs.Lists.{coefficient-tabulate, length-tabulate}
use Rattle.algebra.specs.Residue.{
  Residue,
  natural-residue,
  reduction,
  residue,
  residue-+,
  residue-*,
  residue-equal,
  residue-negative,
  residues,
  residues_negation,
}
use Rattle.algebra.proofs.Newton.{newton_cut}
use Rattle.algebra.specs.Reversion.{Reverse, newton, newton_window, reverse_agree}
use Rattle.algebra.specs.Series.{Series, indeterminate, neg-at, series_negation, ⊞-at}
use Rattle.algebra.specs.Substitution.{substitute, substitute-coefficients}
use Rattle.buffer.specs.Segments.{segment, coefficient-segment}
use Rattle.definition.specs.KinoshitaLi.{negative}
use Rattle.definition.specs.Lists.{coefficient, tabulate}
use Rattle.definition.specs.Refusal.{exceeds}
use Rattle.definition.specs.Reversion.{Reversion}
use Rattle.definition.specs.Substitution.{composed, cut_product}

unfoldable pub difference_at : ℕ → List ℕ → List ℕ → ℕ → ℕ
difference_at p a b k = (coefficient a k + negative p (coefficient b k)) % p

unfoldable pub difference : ℕ → ℕ → List ℕ → List ℕ → List ℕ
difference p n a b = tabulate n (difference_at p a b)

unfoldable pub derivative_at : ℕ → List ℕ → ℕ → ℕ
derivative_at p h k = (k + 1) * coefficient h (k + 1) % p

unfoldable pub derivative : ℕ → ℕ → List ℕ → List ℕ
derivative p n h = tabulate n (derivative_at p h)

abbrev pub correction : ℕ → ℕ → ℕ → List ℕ → List ℕ → List ℕ
correction p half rest g h = cut_product p rest (segment (composed p (half + rest) g h) half rest) (derivative p rest h)

abbrev pub newton_step : ℕ → ℕ → ℕ → List ℕ → List ℕ → List ℕ
newton_step p half rest g h = take half h ++ difference p rest (drop half h) (correction p half rest g h)

-- these lists as series over the residues

module _ {p : ℕ} (l : 0 < p) where
  open residue-series l use {◌⊕◌ as ◌⊞◌}

  abbrev opposite : Series (Residue p) → Series (Residue p)
  opposite = (series_negation (residues l) (residues_negation l)).neg

  -- the remainder has the residue of the number
  residue_remainder : (a : ℕ) → residue l (a % p) ≡ residue l a
  residue_remainder a = (residue-equal l (a % p) a).1 (mod-mod a p)

  series-same : (a b : List ℕ) (i j : ℕ) → coefficient a i ≡ coefficient b j → series_of l a i ≡ series_of l b j
  series-same a b i j e = rw (coefficients-at (reduction l), coefficients-at (reduction l), e)

  series-difference : (n : ℕ) (a b : List ℕ)
      → Agree n (series_of l (difference p n a b)) (series_of l a ⊞ opposite (series_of l b))
  unfolding difference difference_at
  series-difference n a b k h =
      rw (
        coefficients-at (reduction l),
        coefficient-tabulate n (difference_at p a b) k h,
        residue_remainder,
        residue-+ l,
        residue-negative l,
        ⊞-at (residues l),
        neg-at (residues l) (residues_negation l),
        coefficients-at (reduction l),
        coefficients-at (reduction l),
      )

  series-derivative : (n : ℕ) (h : List ℕ)
      → Agree n (series_of l (derivative p n h)) (Derivative.derivative (residues l) (series_of l h))
  unfolding derivative derivative_at
  series-derivative n h k b =
      rw (
        coefficients-at (reduction l),
        coefficient-tabulate n (derivative_at p h) k b,
        residue_remainder,
        residue-* l,
        add-one,
        derivative-at (residues l),
        natural-residue l,
        coefficients-at (reduction l),
      )

  module _ {half : ℕ} (rest : ℕ) (g h : List ℕ) (fits : half ≤ length h) where
    abbrev value : List ℕ
    value = composed p (half + rest) g h

    abbrev late : List ℕ
    late = difference p rest (drop half h) (correction p half rest g h)

    abbrev step : List ℕ
    step = newton_step p half rest g h

    size : length (take half h) ≡ half
    size = length-take-le half h fits

    length-late : length late ≡ rest
    unfolding difference
    length-late = length-tabulate rest _

    step-early : (i : ℕ) → i < half → coefficient step i ≡ coefficient (take half h) i
    unfolding coefficient
    step-early i b = get_or-append (take half h) late 0 i (rw size b)

    step-late : (i : ℕ) → coefficient step (half + i) ≡ coefficient late i
    unfolding coefficient
    step-late i = rw size at (get_or-append-add (take half h) late i 0)

    step-below : exceeds p (take half h) ≡ false → exceeds p step ≡ false
    unfolding difference difference_at
    step-below small = bounded p step (λ i b. at i (rw (length-append, size, length-late) at b) (dec_lt i half))
      where
        at : (i : ℕ) → i < half + rest → Dec (i < half) → coefficient step i < p
        at i b (yes e) = rw (step-early i e) (below l (take half h) small i)
        at i b (no e) =
            let j : i ≡ half + (i - half) = omega arith in
            rw (j, step-late (i - half), coefficient-tabulate rest _ (i - half) (omega arith)) (mod-lt _ l)

    -- where g(h) is x below half
    series-step : 1 < half → Agree half (series_of l value) (indeterminate (residues l))
        → Agree (half + rest) (series_of l step) (newton (residues l) (residues_negation l) (series_of l h) (series_of l value))
    unfolding coefficient
    series-step several known =
        newton_window (residues l) (residues_negation l) several known
        (λ i b. series-same step h i i (step-early i b ∙ get_or-take half h i 0 b))
        (agree_trans (λ i b. series-same step late (half + i) i (step-late i))
        (agree_trans (series-difference rest (drop half h) _)
        (agree_⊞ (residues l) (λ i b. series-same (drop half h) h i (half + i) (get_or-drop half h i 0))
        (agree_neg (residues l) (residues_negation l)
        (agree_trans
        (rw (cut_product-listed l rest (segment value half rest) (derivative p rest h)) (series-listed l rest _))
        (agree_⊠ (residues l) (λ i b. series-same (segment value half rest) value i (half + i) (coefficient-segment value half rest i b))
        (series-derivative rest h)))))))

    pub newton_reversion : 1 < p → 1 < half → rest < half → Reversion p half g (take half h) → Reversion p (half + rest) g step
    unfolding coefficient
    newton_reversion above several near r =
        let order : half ≡ suc (half - 1) = omega arith in
        reverse-reversion l above g step (rw (length-append, size, length-late)) (step-below r.below) no_constant
        (newton_cut (residues l) (residues_negation l) (rw order at known) (omega arith) value-known (series-constant l step no_constant)
        (series-step several (agree_trans (agree_weaken (omega arith) value-known) known.reverses)))
      where
        no_constant : coefficient step 0 ≡ 0
        no_constant = step-early 0 (omega arith) ∙ r.no_constant

        cut : Agree half (series_of l h) (series_of l (take half h))
        cut i b = series-same h (take half h) i i (sym (get_or-take half h i 0 b))

        known-cut : Reverse (residues l) half (series_of l g) (series_of l (take half h))
        known-cut = reversion-reverse l above g (take half h) r

        known : Reverse (residues l) half (series_of l g) (series_of l h)
        known = reverse_agree (residues l) (cut 0 (omega arith) ∙ known-cut.no_constant) (agree_refl _) cut known-cut

        value-known : Agree (half + rest) (series_of l value) (substitute (residues l) (series_of l g) (series_of l h))
        value-known =
            rw (substitute-coefficients (reduction l) (series_of l h) known.no_constant g) (series-composed l (half + rest) g h)
