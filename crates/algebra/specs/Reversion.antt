-- Reverse series: h without constant term such that g(h) is x below n. Assumes nothing.
--
--   Reverse R n g h       h is a reverse of g below n
--   reverse-evaluate      the same for a list g, whose value at h is x below n
--   reverse_weaken        a reverse below n is one below m ≤ n
--   reverse_agree         so is a series that agrees with it below n
--   reverse-constant      only a g without constant term has a reverse below 1
--   reverse-linear        only a g whose linear coefficient has an inverse, h_1, has one below 2
--   reverse-linear-nonzero   so that coefficient is not 𝟘
--   reverse-below-1 reverse-below-2   these conditions suffice below 1 and below 2
--
-- where there is a negation:
--   substitute_injective  g(h) determines h, if the linear coefficient of g has an inverse
--   reverse_unique        two reverses below n agree below n
--   newton N h s          Newton's step h - (s - x) h', where s is g(h)
--   newton_step_lem           it takes a reverse below k + 1 to one below 2k + 1
--   newton_window         where s is x below i, the step leaves h as it is there, and only the powers of s from i on take part
use Rattle.std.specs.Prelude.{ℕ, zero, suc, ◌+◌, ◌-◌, ◌<◌, ◌≤◌, List, ◌↔◌, ◌≢◌, ◌≡◌}
use Rattle.std.proofs.Common.{sym, ap, ◌∙◌, zero-add, arith}
use Rattle.std.proofs.Math.Path.{fun_ext}
use Rattle.std.proofs.Math.Decide.{dec_lt}
use Rattle.algebra.specs.Agree.{Agree, Vanish, agree_1, agree_suc, agree_sym, agree_⊞_vanish, agree_difference, vanish_neg, vanish_multiple, agree_trans, agree_weaken, vanish_⊠}
use Rattle.algebra.specs.Cut.{window, ⊠-window}
use Rattle.algebra.specs.Derivative.{
  derivative,
  derivative-0,
  derivative-indeterminate,
  derivative-substitute,
  derivative_vanish,
  derivative-⊞,
  substitute_expand,
}
use Rattle.algebra.specs.Evaluate.{evaluate, polynomial}
use Rattle.algebra.specs.Homomorphism.{Homomorphism, coefficients, composite, constants}
use Rattle.algebra.specs.Negation.{Negation, add-difference, equal_by_difference, neg-𝟘, neg-⊕, ⊕_cancel, ⊕-neg_cancel, ⊗-neg}
use Rattle.algebra.specs.Semiring.{Semiring, 𝟘-⊕, ⊕-𝟘, 𝟘-⊗, ⊗-𝟘, 𝟙-⊗, ⊗-𝟙, ⊕_assoc, ⊗_assoc, ⊗-left_comm, ⊗-⊕}
use Rattle.algebra.specs.Series.{Series, constant-0, constant-suc, indeterminate, indeterminate-0, indeterminate-above, indeterminate-shift, neg-at, series, series_negation, shift_suc, 𝟙-constant, ⊞-at, ⊠-0, ⊠-suc}
use Rattle.algebra.specs.Substitution.{substitute, substitute-0, substitute_agree, substitute-coefficients, substitute_horner}
use Rattle.algebra.specs.Vanishing.{⊠_lowest}

pub record Reverse {A : Type 0} (R : Semiring A) (n : ℕ) (g h : Series A) : Type 0 where
  pub no_constant : h 0 ≡ R.𝟘
  pub reverses : Agree n (substitute R g h) (indeterminate R)

module _ {A B : Type 0} {R : Semiring A} {S : Semiring B} (φ : Homomorphism S R) where
  pub reverse-evaluate : {n : ℕ} (g : List B) (h : Series A) → h 0 ≡ R.𝟘
      → Agree n (evaluate (composite (constants R) φ) g h) (indeterminate R)
      ↔ Reverse R n (coefficients φ (polynomial S g)) h
  reverse-evaluate g h e = (
    (λ a. record { no_constant = e; reverses = rw (substitute-coefficients φ h e g) a }),
    (λ r. rw (substitute-coefficients φ h e g) at r.reverses),
  )

module _ {A : Type 0} (R : Semiring A) where
  open R use {𝟘, 𝟙, ◌⊕◌, ◌⊗◌}
  open series R use {◌⊕◌ as ◌⊞◌, ◌⊗◌ as ◌⊠◌}

  infixl 50 ◌⊞◌
  infixl 60 ◌⊠◌
  pub reverse_weaken : {m n : ℕ} {g h : Series A} → m ≤ n → Reverse R n g h → Reverse R m g h
  reverse_weaken l r = record {
    no_constant = r.no_constant;
    reverses = agree_weaken l r.reverses;
  }

  pub reverse_agree : {n : ℕ} {f g h k : Series A} → k 0 ≡ 𝟘 → Agree n f g → Agree n k h
      → Reverse R n g h → Reverse R n f k
  reverse_agree e a b r = record {
    no_constant = e;
    reverses = agree_trans (substitute_agree R a b) r.reverses;
  }

  indeterminate-1 : indeterminate R 1 ≡ 𝟙
  indeterminate-1 = rw (indeterminate-shift, shift_suc, 𝟙-constant, constant-0)

  substitute-1 : (g h : Series A) → h 0 ≡ 𝟘 → substitute R g h 1 ≡ h 1 ⊗ g 1
  substitute-1 g h e =
      rw (substitute_horner R h e g, ⊞-at, constant-suc, ⊠-suc, e, 𝟘-⊗, 𝟘-⊕, 𝟘-⊕, ⊠-0)
      (rw (substitute-0 R h e))

  pub reverse-constant : {n : ℕ} {g h : Series A} → Reverse R (suc n) g h → g 0 ≡ 𝟘
  reverse-constant {g} {h} r =
      sym (substitute-0 R h r.no_constant g) ∙ r.reverses 0 (omega arith) ∙ indeterminate-0 R

  pub reverse-linear : {n : ℕ} {g h : Series A} → Reverse R (suc (suc n)) g h → h 1 ⊗ g 1 ≡ 𝟙
  reverse-linear {g} {h} r =
      sym (substitute-1 g h r.no_constant) ∙ r.reverses 1 (omega arith) ∙ indeterminate-1

  pub reverse-linear-nonzero : {n : ℕ} {g h : Series A} → 𝟙 ≢ 𝟘 → Reverse R (suc (suc n)) g h
      → g 1 ≢ 𝟘
  reverse-linear-nonzero {h} z r e = z (sym (reverse-linear r) ∙ rw e (⊗-𝟘 R (h 1)))

  pub reverse-below-1 : {g h : Series A} → g 0 ≡ 𝟘 → h 0 ≡ 𝟘 → Reverse R 1 g h
  reverse-below-1 {g} {h} d e = record {
    no_constant = e;
    reverses = agree_1 _ _ (substitute-0 R h e g ∙ d ∙ sym (indeterminate-0 R));
  }

  pub reverse-below-2 : {g h : Series A} → g 0 ≡ 𝟘 → h 0 ≡ 𝟘 → h 1 ⊗ g 1 ≡ 𝟙 → Reverse R 2 g h
  reverse-below-2 {g} {h} d e c = record {
    no_constant = e;
    reverses =
        agree_suc (reverse-below-1 d e).reverses (substitute-1 g h e ∙ c ∙ sym indeterminate-1);
  }

  unit_cancel : (c b a : A) → c ⊗ b ≡ 𝟙 → b ⊗ a ≡ 𝟘 → a ≡ 𝟘
  unit_cancel c b a unit e = sym (𝟙-⊗ R a) ∙ rw (← unit, ⊗_assoc, e) (⊗-𝟘 R c)

  -- g(u + δ) and g(u) differ by g_1 δ_(n+1) at place n + 1, if δ vanishes below it
  substitute_lowest : (g u : Series A) → u 0 ≡ 𝟘 → {n : ℕ} {δ : Series A} → Vanish R (suc n) δ
      → substitute R g (u ⊞ δ) (suc n) ≡ substitute R g u (suc n) ⊕ g 1 ⊗ δ (suc n)
  substitute_lowest g u e {n} {δ} v =
      let v_0 : Vanish R 0 (substitute R (derivative R g) u) = λ k l. absurd (omega arith) in
      substitute_expand R u e v g (suc n) (omega arith)
      ∙ rw (⊞-at, rw zero-add at (⊠_lowest R 0 (suc n) v_0 v), substitute-0 R u e, derivative-0)

  module _ (N : Negation R) where
    open series_negation R N use {neg}

    module _ (g h k : Series A) (c : A) (unit : c ⊗ g 1 ≡ 𝟙) (h-0 : h 0 ≡ 𝟘) (k-0 : k 0 ≡ 𝟘) where
      injective_at : {n : ℕ} → Agree (suc n) h k
          → substitute R g h (suc n) ≡ substitute R g k (suc n) → h (suc n) ≡ k (suc n)
      injective_at {n} a e =
          equal_by_difference R N (h (suc n)) (k (suc n))
          (rw (⊞-at, neg-at) at (unit_cancel c (g 1) (δ (suc n)) unit multiple))
        where
          δ : Series A
          δ = h ⊞ neg k

          multiple : g 1 ⊗ δ (suc n) ≡ 𝟘
          multiple =
              ⊕_cancel R N (substitute R g k (suc n))
              (sym (substitute_lowest g k k-0 (agree_difference R N a))
              ∙ rw (add-difference (series R) (series_negation R N) h k, e, ⊕-𝟘))

      pub substitute_injective : (n : ℕ) → Agree n (substitute R g h) (substitute R g k)
          → Agree n h k
      substitute_injective zero s = λ i l. absurd (omega arith)
      substitute_injective (suc zero) s = agree_1 h k (h-0 ∙ sym k-0)
      substitute_injective (suc (suc n)) s =
          let a : Agree (suc n) h k = substitute_injective (suc n) (agree_weaken (omega arith) s) in
          agree_suc a (injective_at a (s (suc n) (omega arith)))

    pub reverse_unique : (n : ℕ) {g h k : Series A} → Reverse R n g h → Reverse R n g k
        → Agree n h k
    reverse_unique zero r s = λ i l. absurd (omega arith)
    reverse_unique (suc zero) {h} {k} r s = agree_1 h k (r.no_constant ∙ sym s.no_constant)
    reverse_unique (suc (suc n)) {g} {h} {k} r s =
        substitute_injective g h k (h 1) (reverse-linear r) r.no_constant s.no_constant
        (suc (suc n)) (agree_trans r.reverses (agree_sym s.reverses))

    abbrev pub newton : Series A → Series A → Series A
    newton h s = h ⊞ neg ((s ⊞ neg (indeterminate R)) ⊠ derivative R h)

    -- with g(h) = x + e, the step leaves the error - e e'
    newton_error : (e : Series A)
        → indeterminate R ⊞ e ⊞ neg (e ⊠ derivative R (indeterminate R ⊞ e))
        ≡ indeterminate R ⊞ neg (e ⊠ derivative R e)
    newton_error e =
        rw (derivative-⊞, derivative-indeterminate, ⊗-⊕, ⊗-𝟙, neg-⊕, ⊕_assoc, ⊕-neg_cancel)

    pub newton_step_lem : {k : ℕ} {g h : Series A} → Reverse R (suc k) g h
        → Reverse R (k + suc k) g (newton h (substitute R g h))
    newton_step_lem {k} {g} {h} r = record {
      no_constant = rw (⊞-at, r.no_constant, correction 0 (omega arith), ⊕-𝟘);
      reverses = λ i l.
          substitute_expand R h r.no_constant correction g i (omega arith)
          ∙ ap (λ a. a i) linear
          ∙ agree_⊞_vanish R (indeterminate R) (vanish_neg R N square) i (omega arith);
    }
      where
        e : Series A
        e = substitute R g h ⊞ neg (indeterminate R)

        error : Vanish R (suc k) e
        error = agree_difference R N r.reverses

        correction : Vanish R (suc k) (neg (e ⊠ derivative R h))
        correction = vanish_neg R N (vanish_multiple R (derivative R h) error)

        square : Vanish R (suc k + k) (e ⊠ derivative R e)
        square = vanish_⊠ R (suc k) k error (derivative_vanish R error)

        linear : substitute R g h ⊞ substitute R (derivative R g) h ⊠ neg (e ⊠ derivative R h)
            ≡ indeterminate R ⊞ neg (e ⊠ derivative R e)
        linear =
            rw (
              ⊗-neg,
              ⊗-left_comm (series R) (substitute R (derivative R g) h) e,
              ← derivative-substitute R h r.no_constant g,
            )
            (ap (λ t. t ⊞ neg (e ⊠ derivative R t)) (sym (add-difference (series R) (series_negation R N) _ (indeterminate R)))
            ∙ newton_error e)

    pub newton_window : {i m : ℕ} {h s t : Series A} → 1 < i → Agree i s (indeterminate R) → Agree i t h
        → Agree m (window i t) (window i h ⊞ neg (window i s ⊠ derivative R h)) → Agree (i + m) t (newton h s)
    newton_window {i} {m} {h} {s} {t} above known low high k l = at (dec_lt k i)
      where
        e : Series A
        e = s ⊞ neg (indeterminate R)

        error : Vanish R i e
        error = agree_difference R N known

        error_window : window i e ≡ window i s
        error_window = fun_ext λ j. rw (⊞-at, neg-at, indeterminate-above R (i + j) (omega arith), neg-𝟘 R N, ⊕-𝟘)

        late : (j : ℕ) → j < m → t (i + j) ≡ newton h s (i + j)
        late j b =
            high j b
            ∙ rw (⊞-at, ⊞-at, neg-at, neg-at, ⊠-window R i j e (derivative R h) (λ k c. rw (error k c, 𝟘-⊗)), error_window)

        at : Dec (k < i) → t k ≡ newton h s k
        at (yes b) = low k b ∙ sym (agree_⊞_vanish R h (vanish_neg R N (vanish_multiple R (derivative R h) error)) k b)
        at (no b) = let j : i + (k - i) ≡ k = omega arith in rw j at (late (k - i) (omega arith))
