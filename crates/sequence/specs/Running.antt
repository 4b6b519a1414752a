-- Laws of the running series of a chain. p is the modulus, n the order, cs and ds are lists of cycles. Assumes nothing.
--
--   ConstantFree cs        no cycle of cs has a constant term
--   length-running         the running series has n places
--   running-below          they are below p
--   running-constant       and there is no constant term, where no cycle has one
--   whole l cs             the composition of the cycles cs, nothing cut, as a series over the residues
--   running-listed         the running series is read off it
--   whole-++               the composition of cs and then ds is that of cs at that of ds
--   running-[]             after no cycle the running series is x
--   running-composed       the running series of cs, composed with a list that begins as the composition of ds does, is that of cs and then ds
--   running-next           so it is with one cycle more: cutting at every cycle loses nothing
--   running-append         and with the running series of ds, that of a chain of its own
--   running-undone         a cycle and then one with its reverse series leave the running series as it was
use Rattle.std.specs.Prelude.{ℕ, ◌<◌, false, ◌≡◌, refl, length}
use mathlib.Core.List.Memᴰ
use mathlib.Core.List.{List, Memᴰ, [], ◌∷◌, ◌++◌, append_assoc}
use Rattle.std.proofs.Math.Path.{sym}
use Rattle.std.proofs.Common.{◌∙◌, mod-lt}
use Rattle.std.proofs.Math.Nat.{zero-mod}
use Rattle.algebra.specs.Agree.{Agree, agree_equal, agree_refl, agree_trans}
use Rattle.algebra.specs.Bounded.{bounded}
use Rattle.algebra.specs.Bridge.{
  coefficient-listed,
  composed-listed,
  identity-listed,
  listed,
  listed_agree,
  reduced,
  reduced-identity,
  reduced-listed,
  reduced-value,
  scalars,
  series-listed,
  series_of,
  value,
}
use Rattle.algebra.specs.Composition.{series-constant, value-indeterminate}
use Rattle.algebra.specs.Evaluate.{evaluate_agree}
use Rattle.algebra.specs.Inverse.{composed-undone}
use Rattle.algebra.specs.Lists.{coefficient-tabulate, length-tabulate}
use Rattle.algebra.specs.Residue.{Residue, reduction, residue-0, residue-value, residues}
use Rattle.algebra.specs.Series.{Series, indeterminate, indeterminate-0}
use Rattle.algebra.specs.Substitution.{
  substitute,
  substitute-0,
  substitute_agree,
  substitute-coefficients,
  substitute-evaluate,
  substitute-indeterminate,
}
use Rattle.definition.specs.Lists.{coefficient}
use Rattle.definition.specs.Refusal.{exceeds}
use Rattle.definition.specs.Reversion.{identity}
use Rattle.definition.specs.Running.{composition, running, running_at}
use Rattle.definition.specs.Substitution.{composed}

abbrev pub ConstantFree : List (List ℕ) → Type 0
ConstantFree cs = (c : List ℕ) → Memᴰ c cs → coefficient c 0 ≡ 0

pub length-running : (p n : ℕ) (cs : List (List ℕ)) → length (running p n cs) ≡ n
unfolding running
length-running p n cs = length-tabulate n (running_at p cs)

module _ {p : ℕ} (l : 0 < p) where
  pub running-below : (n : ℕ) (cs : List (List ℕ)) → exceeds p (running p n cs) ≡ false
  unfolding running running_at
  running-below n cs =
      bounded p (running p n cs) (λ i b. rw (coefficient-tabulate n (running_at p cs) i (rw (length-running p n cs) at b)) (mod-lt _ l))

  pub whole : List (List ℕ) → Series (Residue p)
  whole cs = reduced l (composition cs)

  whole-[] : whole [] ≡ indeterminate (residues l)
  unfolding whole composition
  whole-[] = reduced-identity l

  whole-∷ : (c : List ℕ) (cs : List (List ℕ)) → whole (c ∷ cs) ≡ value l c (whole cs)
  unfolding whole composition
  whole-∷ c cs = reduced-value l c (composition cs)

  pub running-listed : (n : ℕ) (cs : List (List ℕ)) → running p n cs ≡ listed n (whole cs)
  unfolding running running_at whole
  running-listed n cs = reduced-listed l n (composition cs)

  whole-constant : (cs : List (List ℕ)) → ConstantFree cs → whole cs 0 ≡ (residues l).𝟘
  unfolding coefficient
  whole-constant [] h = rw whole-[] (indeterminate-0 (residues l))
  whole-constant (c ∷ cs) h =
      let z = whole-constant cs (λ d m. h d (Memᴰ.tail m)) in
      rw (whole-∷ c cs, ← substitute-coefficients (reduction l) (whole cs) z c, substitute-0 (residues l) (whole cs) z)
      (series-constant l c (h c (Memᴰ.head refl)))

  pub running-constant : {n : ℕ} → 0 < n → (cs : List (List ℕ)) → ConstantFree cs → coefficient (running p n cs) 0 ≡ 0
  running-constant {n} b cs h =
      rw (running-listed n cs, coefficient-listed n (whole cs) 0 b, whole-constant cs h, ← residue-0 l, residue-value l) (zero-mod p)

  -- the composition of a single cycle is the cycle
  whole_single : (c : List ℕ) → whole (c ∷ []) ≡ series_of l c
  whole_single c = rw (whole-∷ c [], whole-[]) (value-indeterminate l c)

  pub whole-++ : (cs ds : List (List ℕ)) → ConstantFree ds → whole (cs ++ ds) ≡ substitute (residues l) (whole cs) (whole ds)
  whole-++ [] ds h = rw whole-[] (sym (substitute-indeterminate (residues l) (whole ds) (whole-constant ds h)))
  whole-++ (c ∷ cs) ds h =
      rw (
        whole-∷ c (cs ++ ds),
        whole-++ cs ds h,
        whole-∷ c cs,
        substitute-evaluate (reduction l) (whole ds) (whole-constant ds h) c (whole cs),
      )

  pub running-[] : (n : ℕ) → 1 < p → running p n [] ≡ identity n
  running-[] n h = rw (running-listed n [], whole-[]) (sym (identity-listed l n h))

  pub running-composed : {n : ℕ} (cs ds : List (List ℕ)) (t : List ℕ) → ConstantFree ds → Agree n (series_of l t) (whole ds)
      → composed p n (running p n cs) t ≡ running p n (cs ++ ds)
  unfolding coefficient
  running-composed {n} cs ds t h e =
      composed-listed l n (running p n cs) t
      ∙ listed_agree
      (agree_trans (evaluate_agree (residues l) (scalars l) (running p n cs) e)
      (rw (← substitute-coefficients (reduction l) (whole ds) (whole-constant ds h) (running p n cs), whole-++ cs ds h)
      (substitute_agree (residues l) (rw (running-listed n cs) (series-listed l n (whole cs))) (agree_refl (whole ds)))))
      ∙ sym (running-listed n (cs ++ ds))

  pub running-next : (n : ℕ) (cs : List (List ℕ)) (c : List ℕ) → coefficient c 0 ≡ 0
      → composed p n (running p n cs) c ≡ running p n (cs ++ (c ∷ []))
  running-next n cs c z =
      running-composed cs (c ∷ []) c (λ d m. rw (Memᴰ.eq_of_singleton m) z) (agree_equal (sym (whole_single c)))

  pub running-append : (n : ℕ) (cs ds : List (List ℕ)) → ConstantFree ds
      → composed p n (running p n cs) (running p n ds) ≡ running p n (cs ++ ds)
  running-append n cs ds h =
      running-composed cs ds (running p n ds) h (rw (running-listed n ds) (series-listed l n (whole ds)))

  pub running-undone : (n : ℕ) → 1 < p → (cs : List (List ℕ)) (c h : List ℕ) → ConstantFree (c ∷ h ∷ []) → composed p n c h ≡ identity n
      → running p n (cs ++ (c ∷ h ∷ [])) ≡ running p n cs
  running-undone n above cs c h free reverses =
      let last = free h (Memᴰ.tail (Memᴰ.head refl)) in
      rw (← append_assoc cs (c ∷ []) (h ∷ []), ← running-next n (cs ++ (c ∷ [])) h last, ← running-next n cs c (free c (Memᴰ.head refl)))
      (composed-undone l above (running p n cs) c h (length-running p n cs) (running-below n cs) last reverses)
