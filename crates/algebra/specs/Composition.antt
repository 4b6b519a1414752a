-- Laws of the composition f(g) modulo x^n and p, of lists. Assumes nothing.
--
--   length-composed    a composition has n places
--   series-composed    the series of a composition is the value of f at the series of g, below n
--   series-constant    the series of a list without constant term has none
--   value-indeterminate   the value of f at x is the series of f
--   composed-constant  a list of at most one place is a constant
--   composed-∷         Horner's rule: on which route 1 stands
--   composed-++        the composition of an appended list, on which route 2 stands
--   composed_agree     the composition depends on the inner list below n alone
--   composed-outer     and on the outer list below n alone, where the inner list has no constant term
--   composed_assoc     composition is associative, where the innermost list has no constant term
--   composed-equal     when two compositions with one inner list are equal (demand 3, for lists)
use Prim.Native.Nat.{ℕ, zero, suc, ◌*◌, ◌%◌, ◌<◌, ◌≤◌}
use Rattle.std.specs.Prelude.{List, [], ◌∷◌, ◌++◌, ◌↔◌, ◌≢◌, ◌≡◌, refl, length}
use Rattle.std.proofs.Math.Logic.Iff
use Rattle.std.proofs.Math.Path.{sym, ap}
use Rattle.std.proofs.Common.{◌∙◌, mod-eq_of_lt, mul-one, mul-zero, zero-add, arith}
use Rattle.std.proofs.Math.Nat.{zero-mod}
use Rattle.algebra.specs.Agree.{Agree, Vanish, agree_refl, agree_sym, agree_trans, agree_⊞, agree_⊠}
use Rattle.algebra.specs.Bridge.{
  series_of,
  residue-series,
  scalars,
  value,
  listed_agree,
  agree_listed,
  series-listed,
  composed-listed,
  cut_product-listed,
  cut_sum-listed,
  series_single,
  joined-listed,
  cut_power-listed,
}
use Rattle.algebra.specs.Evaluate.{evaluate-∷, evaluate-++, evaluate_agree}
use Rattle.algebra.specs.Homomorphism.{coefficients-at}
use Rattle.algebra.specs.Power.{power}
use Rattle.algebra.specs.Prime.{prime-positive}
use Rattle.algebra.specs.Residue.{Residue, residue, residues, residues_negation, reduction, residue-0, residue-equal, residue-zero}
use Rattle.algebra.specs.Semiring.{⊕_comm, ⊗_comm}
use Rattle.algebra.specs.Series.{Series, tail, shift, shift-0, shift_suc, decompose, indeterminate, indeterminate-0, indeterminate-⊠}
use Rattle.algebra.specs.Substitution.{evaluate_assoc, substitute_agree, substitute-coefficients, substitute_into_indeterminate}
use Rattle.algebra.specs.Vanishing.{taylor_agreement}
use Rattle.algebra.specs.Valuation.{valuation-positive, valuation-zero, valuation-nonzero}
use Rattle.algebra.specs.Lists.{tabulate_cong, coefficient-tabulate, length-tabulate, ceil_div-below}
use Rattle.algebra.specs.Fermat.{residues_domain}
use Rattle.definition.specs.Lists.{sum, tabulate, coefficient, ceil_div}
use Rattle.definition.specs.Prime.{Prime}
use Rattle.definition.specs.Ranged.{cut_power, joined}
use Rattle.definition.specs.Substitution.{constant, composed, composed_at, cut_product, cut_sum, substituted, substituted_term}
use Rattle.definition.specs.Substitution as Plain
use Rattle.definition.specs.Taylor.{shifted, valuation, leading_at, leading}

pub length-composed : (p n : ℕ) (f g : List ℕ) → length (composed p n f g) ≡ n
unfolding composed
length-composed p n f g = length-tabulate n (composed_at p f g)

constant-at : (p : ℕ) (f g : List ℕ) → length f ≤ 1 → (k : ℕ) → constant (coefficient f 0 % p) k ≡ composed_at p f g k
unfolding composed_at substituted substituted_term Plain.power constant coefficient sum
constant-at p [] g h zero = refl
constant-at p [] g h (suc k) = sym (zero-mod p)
constant-at p (c ∷ []) g h zero = rw (zero-add, mul-one)
constant-at p (c ∷ []) g h (suc k) = rw (mul-zero, zero-add) (sym (zero-mod p))
constant-at p (c ∷ d ∷ f) g h k = absurd (omega arith)

pub composed-constant : (p n : ℕ) (f g : List ℕ) → length f ≤ 1 → tabulate n (constant (coefficient f 0 % p)) ≡ composed p n f g
unfolding composed
composed-constant p n f g h = tabulate_cong n (constant (coefficient f 0 % p)) (composed_at p f g) (λ k b. constant-at p f g h k)

module _ {p : ℕ} (l : 0 < p) where
  pub series-composed : (n : ℕ) (f g : List ℕ) → Agree n (series_of l (composed p n f g)) (value l f (series_of l g))
  series-composed n f g = rw (composed-listed l n f g) (series-listed l n (value l f (series_of l g)))

  pub composed-∷ : (n c : ℕ) (f g : List ℕ) → cut_sum p n (cut_product p n (composed p n f g) g) (c ∷ []) ≡ composed p n (c ∷ f) g
  composed-∷ n c f g =
      rw (
        cut_sum-listed l,
        cut_product-listed l,
        series_single l,
        composed-listed l n (c ∷ f) g,
        evaluate-∷ (scalars l),
        ⊕_comm (residue-series l) ((scalars l).map c),
        ⊗_comm (residue-series l) (series_of l g),
      )
      (listed_agree
      (agree_⊞ (residues l)
      (agree_trans
      (series-listed l n _)
      (agree_⊠ (residues l) (series-composed n f g) (agree_refl (series_of l g))))
      (agree_refl ((scalars l).map c))))

  pub composed-++ : (n : ℕ) (f h g : List ℕ)
      → joined p n (composed p n f g) (composed p n h g) (cut_power p n g (length f)) ≡ composed p n (f ++ h) g
  composed-++ n f h g =
      rw (
        joined-listed l,
        composed-listed l n (f ++ h) g,
        evaluate-++ (scalars l),
        ⊗_comm (residue-series l) (power (residue-series l) (series_of l g) (length f)),
      )
      (listed_agree
      (agree_⊞ (residues l) (series-composed n f g)
      (agree_⊠ (residues l) (series-composed n h g)
      (rw (cut_power-listed l n g (length f)) (series-listed l n (power (residue-series l) (series_of l g) (length f)))))))

  series_agree : {n : ℕ} (g h : List ℕ) → Agree n (coefficient g) (coefficient h) → Agree n (series_of l g) (series_of l h)
  series_agree g h e k b = rw (coefficients-at (reduction l), coefficients-at (reduction l), e k b)

  pub composed_agree : (n : ℕ) (f g h : List ℕ) → Agree n (coefficient g) (coefficient h) → composed p n f g ≡ composed p n f h
  composed_agree n f g h e =
      rw (composed-listed l n f g, composed-listed l n f h)
      (listed_agree (evaluate_agree (residues l) (scalars l) f (series_agree g h e)))

  pub series-constant : (h : List ℕ) → coefficient h 0 ≡ 0 → series_of l h 0 ≡ (residues l).𝟘
  series-constant h e = rw (coefficients-at (reduction l), e, residue-0 l)

  pub value-indeterminate : (f : List ℕ) → value l f (indeterminate (residues l)) ≡ series_of l f
  unfolding coefficient
  value-indeterminate f =
      sym (substitute-coefficients (reduction l) (indeterminate (residues l)) (indeterminate-0 (residues l)) f)
      ∙ substitute_into_indeterminate (residues l) (series_of l f)

  pub composed-outer : (n : ℕ) (f g h : List ℕ) → coefficient h 0 ≡ 0 → Agree n (coefficient f) (coefficient g)
      → composed p n f h ≡ composed p n g h
  unfolding coefficient
  composed-outer n f g h z e =
      rw (
        composed-listed l n f h,
        composed-listed l n g h,
        ← substitute-coefficients (reduction l) (series_of l h) (series-constant h z) f,
        ← substitute-coefficients (reduction l) (series_of l h) (series-constant h z) g,
      )
      (listed_agree (substitute_agree (residues l) (series_agree f g e) (agree_refl (series_of l h))))

  pub composed_assoc : (n : ℕ) (f g h : List ℕ) → coefficient h 0 ≡ 0
      → composed p n (composed p n f g) h ≡ composed p n f (composed p n g h)
  unfolding coefficient
  composed_assoc n f g h e =
      rw (composed-listed l n (composed p n f g) h, composed-listed l n f (composed p n g h))
      (listed_agree
      (agree_trans
      (evaluate_assoc (reduction l) (series_of l h) (series-constant h e) f g (composed p n f g) (series-composed n f g))
      (evaluate_agree (residues l) (scalars l) f (agree_sym (series-composed n g h)))))

module _ {p : ℕ} (P : Prime p) (n : ℕ) (g : List ℕ) (below : (k : ℕ) → coefficient g k < p) where
  positive : 0 < p
  positive = prime-positive P

  -- g without its constant term
  rest : Series (Residue p)
  rest = shift (residues positive) (tail (series_of positive g))

  rest-suc : (k : ℕ) → rest (suc k) ≡ residue positive (coefficient g (suc k))
  unfolding rest
  rest-suc k = rw (shift_suc (residues positive), coefficients-at (reduction positive))

  rest-low : Vanish (residues positive) (valuation n g) rest
  unfolding rest
  rest-low zero b = shift-0 (residues positive) (tail (series_of positive g))
  rest-low (suc k) b = rest-suc k ∙ rw (valuation-zero n g (suc k) (omega arith) b, residue-0 positive)

  rest-first : valuation n g < n → rest (valuation n g) ≢ (residues positive).𝟘
  rest-first b e = valuation-nonzero n g b (at (valuation n g) (valuation-positive n g) e)
    where
      at : (v : ℕ) → 0 < v → rest v ≡ (residues positive).𝟘 → coefficient g v ≡ 0
      at zero h z = absurd (omega arith)
      at (suc v) h z = sym (mod-eq_of_lt (below (suc v))) ∙ (residue-zero positive (coefficient g (suc v))).0 (sym (rest-suc v) ∙ z)

  split : series_of positive g ≡ (residue-series positive).◌⊕◌ ((scalars positive).map (coefficient g 0)) rest
  unfolding rest
  split =
      decompose (residues positive) (series_of positive g)
      ∙ rw (indeterminate-⊠ (residues positive), coefficients-at (reduction positive))

  leading-residues : (f h : List ℕ)
      → (leading p n f g ≡ leading p n h g)
      ↔ ((i : ℕ) → i * valuation n g < n
      → residue positive (shifted f (coefficient g 0) i) ≡ residue positive (shifted h (coefficient g 0) i))
  unfolding leading leading_at
  leading-residues f h = (
    λ e i b.
        let k : i < ceil_div n (valuation n g) = (ceil_div-below (valuation-positive n g) n i).1 b in
        (residue-equal positive _ _).1
        (sym (coefficient-tabulate _ (leading_at p f g) i k) ∙ ap (λ t. coefficient t i) e ∙ coefficient-tabulate _ (leading_at p h g) i k),
    λ e. tabulate_cong (ceil_div n (valuation n g)) (leading_at p f g) (leading_at p h g)
        (λ i k. (residue-equal positive _ _).0 (e i ((ceil_div-below (valuation-positive n g) n i).0 k))),
  )

  composed-residues : (f h : List ℕ)
      → (composed p n f g ≡ composed p n h g)
      ↔ Agree n (value positive f (series_of positive g)) (value positive h (series_of positive g))
  composed-residues f h =
      rw (composed-listed positive n f g, composed-listed positive n h g)
      (agree_listed (value positive f (series_of positive g)) (value positive h (series_of positive g)), listed_agree)

  pub composed-equal : (f h : List ℕ) → (composed p n f g ≡ composed p n h g) ↔ (leading p n f g ≡ leading p n h g)
  composed-equal f h =
      let t =
      taylor_agreement (residues positive) (residues_negation positive) (residues_domain positive P) (reduction positive)
      (coefficient g 0) rest (valuation-positive n g) rest-low rest-first f h in
      Iff.trans (composed-residues f h) (Iff.trans (rw split t) (Iff.symm (leading-residues f h)))
