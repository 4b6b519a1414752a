-- The product by rows: what the rows add up to, and its remainders.
--
--   residue_list p n x     the first n places of x modulo p, residue_at at each place
--   length-residue_list residue-below   they are n residues
--   product-residues      a product of two lists modulo p is that of their residues
--   read_padded read_below read_values   a list read into zeros
--   cut-pair              two of them are factors of a product by rows
--   cut_small cut-remainders   and the remainders of its sums are the product
-- Assumes nothing.
use Rattle.std.specs.Prelude.{ℕ, ◌+◌, ◌-◌, ◌%◌, ◌<◌, ◌≤◌, ◌≡◌, List, length, get_or}
use Rattle.std.proofs.Math.Decide.{dec_lt}
use Rattle.std.proofs.Common.{mod-lt, zero-add, arith, sym, ap, ◌∙◌}
use Rattle.std.proofs.lemmas.List.Edits.{sets}
use Rattle.std.proofs.Math.Seq.{length-sets}
use Rattle.algebra.specs.Agree.{agree_⊠}
use Rattle.algebra.specs.Bridge.{listed_agree, reduced-listed, series-listed, series_of, cut_product-listed}
use Rattle.algebra.specs.Lists.{coefficient-tabulate, length-tabulate}
use Rattle.algebra.specs.Residue.{residues}
use Rattle.buffer.specs.Written.{get_or-sets-inside, get_or-sets_other, part-sets}
use Rattle.definition.specs.Lists.{tabulate, coefficient}
use Rattle.definition.specs.Substitution.{product, cut_product, cut_product_at}
use Rattle.rows.specs.Sums.{Small, remainder_list}
use Rattle.rows.specs.Rows.{Below}
use Rattle.summed_product.specs.Zeros.{Zeros}
use Rattle.summed_product.specs.Sums.{Sums, sums-added, sums_none, sums-remainders, sums-small}
use Rattle.summed_product.specs.Terms.{Added, Padded, Pair, product_of, values}
use Rattle.summed_product.specs.declared.Part.{Part}

unfoldable pub residue_at : ℕ → List ℕ → ℕ → ℕ
residue_at p x i = coefficient x i % p

unfoldable pub residue_list : ℕ → ℕ → List ℕ → List ℕ
residue_list p n x = tabulate n (residue_at p x)

pub product-residues : {p : ℕ} → 0 < p → (n : ℕ) (x y : List ℕ) → cut_product p n (residue_list p n x) (residue_list p n y) ≡ cut_product p n x y
unfolding residue_list residue_at
product-residues {p} l n x y =
    rw (reduced-listed l n (coefficient x), reduced-listed l n (coefficient y))
    (cut_product-listed l n _ _
    ∙ listed_agree (agree_⊠ (residues l) (series-listed l n (series_of l x)) (series-listed l n (series_of l y)))
    ∙ sym (cut_product-listed l n x y))

-- a list vs written into zeros
module _ {c : ℕ} {zs : List ℕ} (z : Zeros c zs) (at : ℕ) (vs : List ℕ) (fits : at + length vs ≤ c) where
  padded-inside : (j : ℕ) → j < length vs → get_or (sets zs at vs) (at + j) 0 ≡ get_or vs j 0
  padded-inside j b = get_or-sets-inside zs at vs j 0 (rw z.size fits) b

  padded-before : (j : ℕ) → j < at → get_or (sets zs at vs) j 0 ≡ 0
  padded-before j b = get_or-sets_other zs at vs j 0 (λ i h e. omega arith) ∙ z.blank j

  padded-below : (b : ℕ) → 0 < b → ((j : ℕ) → j < length vs → get_or vs j 0 < b) → (j : ℕ) → get_or (sets zs at vs) j 0 < b
  padded-below b l h j = go (dec_lt j at) (dec_lt j (at + length vs))
    where
      go : Dec (j < at) → Dec (j < at + length vs) → get_or (sets zs at vs) j 0 < b
      go (yes u) v = rw (padded-before j u) l
      go (no u) (yes v) =
          let e : j ≡ at + (j - at) = omega arith in
          rw (e, padded-inside (j - at) (omega arith)) (h (j - at) (omega arith))
      go (no u) (no v) = rw (get_or-sets_other zs at vs j 0 (λ i s e. omega arith), z.blank j) l

pub residue-below : {p : ℕ} → 0 < p → (n : ℕ) (x : List ℕ) (j : ℕ) → j < n → get_or (residue_list p n x) j 0 < p
unfolding residue_list residue_at coefficient
residue-below {p} l n x j b = rw (coefficient-tabulate n (residue_at p x) j b) (mod-lt _ l)

pub length-residue_list : (p n : ℕ) (x : List ℕ) → length (residue_list p n x) ≡ n
unfolding residue_list
length-residue_list p n x = length-tabulate n (residue_at p x)

-- a list, reduced modulo p and written into zeros, eight of them before it
module _ {p n : ℕ} (l : 0 < p) (few : n ≤ 128) {us : List ℕ} (zeros : Zeros 144 us) (x : List ℕ) where
  abbrev list : List ℕ
  list = sets us 8 (residue_list p n x)

  abbrev part : Part
  part = record { at = 8; count = n }

  fits : 8 + length (residue_list p n x) ≤ 144
  fits = rw length-residue_list (omega arith)

  pub read_padded : Padded list part
  read_padded = record {
    room = omega arith;
    fits = rw (length-sets, zeros.size) (omega arith);
    before = λ k h.
        let e : 8 - 8 + k ≡ k = omega arith in
        rw e (padded-before zeros 8 (residue_list p n x) fits k h);
    behind = λ k h.
        get_or-sets_other us 8 (residue_list p n x) (8 + n + k) 0 (λ i c e. omega (arith, rw length-residue_list at c)) ∙ zeros.blank (8 + n + k);
  }

  pub read_below : Below p list
  read_below = record {
    place = padded-below zeros 8 (residue_list p n x) fits p l (λ j h. residue-below l n x j (rw length-residue_list at h));
  }

  pub read_values : values list part ≡ coefficient (residue_list p n x)
  read_values = ap coefficient (rw length-residue_list at (part-sets us 8 (residue_list p n x) (rw zeros.size fits)))

pub cut-pair : {p n : ℕ} → 0 < p → n ≤ 128 → {us vs ss hs : List ℕ} → Zeros 144 us → Zeros 144 vs → Zeros 128 ss → Zeros 128 hs → (x y : List ℕ)
    → Pair p (sets us 8 (residue_list p n x)) record { at = 8; count = n } (sets vs 8 (residue_list p n y)) record { at = 8; count = n } 0 n ss hs
cut-pair l few u v s h x y = record {
  left = read_padded l few u x;
  right = read_padded l few v y;
  left_below = read_below l few u x;
  right-below = read_below l few v y;
  sums-room = rw s.size few;
  high-room = rw h.size few;
  few = omega arith;
}

-- the product is added to sums that are zero
module _ {p n : ℕ} (l : 0 < p) (few : n ≤ 128) {us vs ss hs : List ℕ} (u : Zeros 144 us) (v : Zeros 144 vs) (s : Zeros 128 ss) (h : Zeros 128 hs)
    (x y : List ℕ) {sums high : List ℕ}
    (added : Added n (n + 8) ss sums hs high (product_of (sets us 8 (residue_list p n x)) record { at = 8; count = n }
    (sets vs 8 (residue_list p n y)) record { at = 8; count = n } 0)) where
  all : Sums n (0 + (n + 8)) sums high (product (coefficient (residue_list p n x)) (coefficient (residue_list p n y)))
  all =
      sums-added (omega arith) (sums_none {n = n} (λ t b. s.blank t) (λ t b. h.blank t)) added
      (λ t b. rw (read_values l few u x, read_values l few v y, zero-add, zero-add))

  pub cut_small : n ≤ length sums → n ≤ length high → Small n sums high
  cut_small = sums-small all (omega arith)

  pub cut-remainders : remainder_list p n sums high ≡ cut_product p n x y
  unfolding cut_product cut_product_at
  cut-remainders = sums-remainders all (omega arith) p ∙ product-residues l n x y
