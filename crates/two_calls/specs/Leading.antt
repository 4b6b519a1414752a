-- The coefficients that decide whether two answers are equal, for inner lists that agree below n. Assumes nothing.
--
--   valuation_agree   such lists have one v
--   leading_agree     and give the same first ⌈n/v⌉ coefficients in powers of (z - c)
--   leading_decides   two compositions with such inner lists are equal exactly when these coefficients are
use Rattle.std.specs.Prelude.{ℕ, zero, suc, ◌+◌, ◌-◌, ◌<◌, ◌≤◌, false, List, ◌↔◌, ◌≡◌, refl}
use Rattle.std.proofs.Common.{arith}
use Rattle.algebra.specs.Agree.{Agree}
use Rattle.algebra.specs.Bounded.{below}
use Rattle.algebra.specs.Composition.{composed_agree, composed-equal}
use Rattle.algebra.specs.Lists.{tabulate_cong}
use Rattle.algebra.specs.Prime.{prime-positive}
use Rattle.definition.specs.Lists.{ceil_div, coefficient}
use Rattle.definition.specs.Prime.{Prime}
use Rattle.definition.specs.Refusal.{exceeds}
use Rattle.definition.specs.Substitution.{composed}
use Rattle.definition.specs.Taylor.{leading, leading_at, least_power, valuation}

least_power_agree : (k i : ℕ) (g h : List ℕ) → ((j : ℕ) → i ≤ j → j < i + k → coefficient g j ≡ coefficient h j)
    → least_power k i g ≡ least_power k i h
unfolding least_power
least_power_agree zero i g h e = refl
least_power_agree (suc k) i g h e =
    rw (e i (omega arith) (omega arith), least_power_agree k (suc i) g h (λ j a b. e j (omega arith) (omega arith)))

pub valuation_agree : (n : ℕ) (g h : List ℕ) → Agree n (coefficient g) (coefficient h) → valuation n g ≡ valuation n h
unfolding valuation
valuation_agree n g h e = least_power_agree (n - 1) 1 g h (λ j a b. e j (omega arith))

pub leading_agree : (p n : ℕ) (f g h : List ℕ) → 0 < n → Agree n (coefficient g) (coefficient h) → leading p n f g ≡ leading p n f h
unfolding leading leading_at
leading_agree p n f g h b e =
    rw (valuation_agree n g h e)
    (tabulate_cong (ceil_div n (valuation n h)) (leading_at p f g) (leading_at p f h) (λ i l. rw (e 0 b)))

pub leading_decides : {p n : ℕ} → Prime p → 0 < n → (f₁ g₁ f₂ g₂ : List ℕ) → exceeds p g₁ ≡ false
    → Agree n (coefficient g₁) (coefficient g₂)
    → (composed p n f₁ g₁ ≡ composed p n f₂ g₂) ↔ (leading p n f₁ g₁ ≡ leading p n f₂ g₂)
leading_decides {p} {n} P b f₁ g₁ f₂ g₂ small e =
    let l = prime-positive P in
    rw (← composed_agree l n f₂ g₁ g₂ e, ← leading_agree p n f₂ g₁ g₂ b e)
    (composed-equal P n g₁ (below l g₁ small) f₁ f₂)
