-- The rule of the table leaves nothing free: there is only one list that keeps it, and a rule that says less is refused here. Assumes nothing.
--
--   table-first             the first entry is 2147483647
--   table_complete          no prime is absent: each prime from the last entry to below the bound is an entry
--   table-rule_determined   two lists that keep the rule are the same list
use Rattle.std.specs.Prelude.{ℕ, zero, suc, ◌<◌, ◌≤◌, get_or, List, ◌≡◌}
use Rattle.std.proofs.Common.{ext_get_or, sym, ◌∙◌, arith}
use Rattle.std.proofs.Math.Decide.{dec_lt}
use Rattle.definition.specs.Prime.{Prime}
use Rattle.definition.specs.PrimeTable.{TableRule, table_bound}

pub table-first : {t : List ℕ} → TableRule t → get_or t 0 0 ≡ 2147483647
unfolding table_bound
table-first a = a.first

-- a prime below the bound is at most the first entry, and one below an entry is at most the next entry
module _ {t : List ℕ} (a : TableRule t) (q : ℕ) (prime : Prime q) where
  at_first : q < table_bound → q ≤ get_or t 0 0
  at_first h =
      let none : get_or t 0 0 < q → ⊥ = λ l. a.none_above q l h prime in
      omega arith

  at_next : (i : ℕ) → suc i < 16 → q < get_or t i 0 → q ≤ get_or t (suc i) 0
  at_next i n h =
      let none : get_or t (suc i) 0 < q → ⊥ = λ l. a.none_between i n q l h prime in
      omega arith

  entry-from : q < table_bound → (i : ℕ) → i < 16 → get_or t i 0 ≤ q → (j : ℕ) × (j < 16) × (q ≡ get_or t j 0)
  entry-from h zero n l = (0, n, omega (arith, at_first h))
  entry-from h (suc i) n l = go (dec_lt q (get_or t i 0)) (entry-from h i (omega arith))
    where
      go : Dec (q < get_or t i 0) → (get_or t i 0 ≤ q → (j : ℕ) × (j < 16) × (q ≡ get_or t j 0)) → (j : ℕ) × (j < 16) × (q ≡ get_or t j 0)
      go (yes below) earlier = (suc i, n, omega (arith, at_next i n below))
      go (no above) earlier = earlier (omega arith)

pub table_complete : {t : List ℕ} → TableRule t → (q : ℕ) → Prime q → get_or t 15 0 ≤ q → q < table_bound
    → (i : ℕ) × (i < 16) × (q ≡ get_or t i 0)
table_complete a q prime l h = entry-from a q prime h 15 (omega arith) l

below_bound : {t : List ℕ} → TableRule t → get_or t 0 0 < table_bound
unfolding table_bound
below_bound a = omega arith

same-entry : {t u : List ℕ} → TableRule t → TableRule u → (i : ℕ) → i < 16 → get_or t i 0 ≡ get_or u i 0
same-entry {t} {u} a b zero n =
    omega (arith, at_first a (get_or u 0 0) (b.prime 0 n) (below_bound b), at_first b (get_or t 0 0) (a.prime 0 n) (below_bound a))
same-entry {t} {u} a b (suc i) n =
    let e = same-entry a b i (omega arith) in
    omega (
      arith,
      at_next a (get_or u (suc i) 0) (b.prime (suc i) n) i n (rw e (b.falling i n)),
      at_next b (get_or t (suc i) 0) (a.prime (suc i) n) i n (rw e at (a.falling i n)),
    )

pub table-rule_determined : {t u : List ℕ} → TableRule t → TableRule u → t ≡ u
table-rule_determined {t} {u} a b =
    ext_get_or 0 t u (a.sixteen ∙ sym b.sixteen) (λ i l. same-entry a b i (omega (arith, a.sixteen)))
