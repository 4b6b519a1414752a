-- The room that a product needs, and what one of its three products takes of it.
--
--   Lists n x u y v z r    six lists that are long enough for a product of n places
--   Room p n x u y v z r   what `cut_product` requires: such lists, and two of residues
--   ThirdRoom              what `third` requires
--   even-room odd-room sum_room   it holds for the three, and after an earlier one, which keeps lengths and the first n places
--   rest n x               what is lent of a list from place n on
--   returned n x a         the list once the lent part has come back as a
--   Third p n which count t x x' y y' r r'   the contract of `third`
--   left-inside right-inside target-inside products-inside   where the lent parts begin lies inside the lists
--   left-length right-length target-length products-length   and the lists keep their lengths
--   part_room              the parts of both factors have the room that their product needs
--   third-done             and their product comes back
-- Assumes nothing.
use Rattle.std.specs.Prelude.{ℕ, ◌+◌, ◌-◌, ◌*◌, ◌/◌, ◌<◌, ◌≤◌, List, ◌++◌, ◌≡◌, length, take, drop}
use Rattle.std.proofs.Common.{le_of_eq, arith, sym, ap, ap₂, ◌∙◌, length-append, length-drop, drop_at, length-take-le, take_all, take_at}
use Rattle.std.proofs.Math.Seq.{get_or-take, length-sets}
use Rattle.std.proofs.lemmas.List.Edits.{sets}
use Rattle.std.proofs.lemmas.List.{take-append-le}
use Rattle.algebra.specs.Lists.{length-tabulate}
use Rattle.buffer.specs.Written.{front-sets}
use Rattle.definition.specs.Lists.{coefficient}
use Rattle.definition.specs.Substitution.{cut_product}
use Rattle.parity.specs.Halves.{Residues, part, part-residue, residues-kept}
use Rattle.karatsuba.specs.Rule.{cut_product_taken}

pub record Lists (n : ℕ) (x u y v z r : List ℕ) : Type 0 where
  pub left : 3 * n ≤ 2 * length x
  pub left-parts : 7 * n ≤ 8 * length u
  pub right : 3 * n ≤ 2 * length y
  pub right-parts : 7 * n ≤ 8 * length v
  pub target : 17 * n ≤ 8 * length z
  pub products : 17 * n ≤ 8 * length r

pub record Room (p n : ℕ) (x u y v z r : List ℕ) : Type 0 where
  pub modulus : 0 < p
  pub lists : Lists n x u y v z r
  pub left-residues : Residues p n x
  pub right-residues : Residues p n y

pub record ThirdRoom (p n which count t : ℕ) (x u y v z r : List ℕ) : Type 0 where
  pub modulus : 0 < p
  pub few : 2 * count ≤ n + (1 - which)
  pub left : 8 * n + 7 * count ≤ 8 * length x
  pub left-parts : 3 * count ≤ 2 * length u
  pub right : 8 * n + 7 * count ≤ 8 * length y
  pub right-parts : 3 * count ≤ 2 * length v
  pub target : 8 * n + 17 * count ≤ 8 * length z
  pub products : 8 * t + 17 * count ≤ 8 * length r
  pub left-residues : Residues p n x
  pub right-residues : Residues p n y

module _ {p n : ℕ} {x u y v z r x' u' y' v' z' r' : List ℕ} (room : Room p n x u y v z r) (long : 128 < n)
    (size-x : length x' ≡ length x) (size-u : length u' ≡ length u) (size-y : length y' ≡ length y) (size_v : length v' ≡ length v)
    (size-z : length z' ≡ length z) (size-r : length r' ≡ length r) (same-x : take n x' ≡ take n x) (same-y : take n y' ≡ take n y) where
  third-room : (which count t : ℕ) → 2 * count ≤ n + (1 - which) → 17 * count ≤ 9 * n → 8 * t + 17 * count ≤ 17 * n
      → ThirdRoom p n which count t x' u' y' v' z' r'
  third-room which count t few half products = record {
    modulus = room.modulus;
    few = few;
    left = omega (arith, room.lists.left);
    left-parts = omega (arith, room.lists.left-parts);
    right = omega (arith, room.lists.right);
    right-parts = omega (arith, room.lists.right-parts);
    target = omega (arith, room.lists.target);
    products = omega (arith, room.lists.products);
    left-residues = residues-kept n x x' same-x room.left-residues;
    right-residues = residues-kept n y y' same-y room.right-residues;
  }

  pub even-room : ThirdRoom p n 0 (n - n / 2) 0 x' u' y' v' z' r'
  even-room = third-room 0 (n - n / 2) 0 (omega arith) (omega arith) (omega arith)

  pub odd-room : ThirdRoom p n 1 (n / 2) (n - n / 2) x' u' y' v' z' r'
  odd-room = third-room 1 (n / 2) (n - n / 2) (omega arith) (omega arith) (omega arith)

  pub sum_room : ThirdRoom p n 2 (n / 2) n x' u' y' v' z' r'
  sum_room = third-room 2 (n / 2) n (omega arith) (omega arith) (omega arith)

pub record Third (p n which count t : ℕ) (x x' y y' r r' : List ℕ) : Type 0 where
  pub left : take n x' ≡ take n x
  pub right : take n y' ≡ take n y
  pub before : take t r' ≡ take t r
  pub product : take count (drop t r') ≡ cut_product p count (part p n which count x) (part p n which count y)

abbrev pub rest : ℕ → List ℕ → List ℕ
rest n x = take (length x - n) (drop n x)

abbrev pub returned : ℕ → List ℕ → List ℕ → List ℕ
returned n x a = take n x ++ (a ++ drop (length x - n) (drop n x))

rest-drop : (n : ℕ) (x : List ℕ) → rest n x ≡ drop n x
rest-drop n x = take_all (length x - n) (drop n x) (le_of_eq (length-drop n x))

take-returned : (n : ℕ) (x a : List ℕ) → n ≤ length x → take n (returned n x a) ≡ take n x
take-returned n x a h = take_at (take n x) _ n (length-take-le n x h)

length_rest : (n : ℕ) (x : List ℕ) → length (rest n x) ≡ length x - n
length_rest n x = rw (rest-drop, length-drop)

length-returned : (n : ℕ) (x a : List ℕ) → n ≤ length x → length a ≡ length (rest n x) → length (returned n x a) ≡ length x
length-returned n x a h e =
    rw (length-append, length-append, length-take-le n x h, length-drop, length-drop)
    (omega (arith, e, length_rest n x))

module _ {p n which count t : ℕ} {x u y v z r : List ℕ} (room : ThirdRoom p n which count t x u y v z r) where
  pub left-inside : n ≤ length x
  left-inside = omega (arith, room.left)

  pub right-inside : n ≤ length y
  right-inside = omega (arith, room.right)

  pub target-inside : n ≤ length z
  target-inside = omega (arith, room.target)

  pub products-inside : t ≤ length r
  products-inside = omega (arith, room.products)

  module _ (a : List ℕ) where
    pub left-length : length a ≡ length (rest n x) → length (returned n x a) ≡ length x
    left-length = length-returned n x a left-inside

    pub right-length : length a ≡ length (rest n y) → length (returned n y a) ≡ length y
    right-length = length-returned n y a right-inside

    pub target-length : length a ≡ length (rest n z) → length (returned n z a) ≡ length z
    target-length = length-returned n z a target-inside

    pub products-length : length a ≡ length (rest t r) → length (returned t r a) ≡ length r
    products-length = length-returned t r a products-inside

-- a part of x, written to the front of u
module _ (p n which count : ℕ) (x u u₁ : List ℕ) (fits : count ≤ length u) (written : u₁ ≡ sets u 0 (part p n which count x)) where
  written-part : take count u₁ ≡ part p n which count x
  written-part = front-sets count u (part p n which count x) written (length-tabulate count _) fits

  length-written : length u₁ ≡ length u
  length-written = ap length written ∙ length-sets u 0 (part p n which count x)

  written-residues : 0 < p → Residues p n x → 2 * count ≤ n + (1 - which) → Residues p count u₁
  unfolding coefficient
  written-residues positive residues few k h =
      rw (← get_or-take count u₁ k 0 h, written-part)
      (part-residue n x positive residues which count few k h)

module _ {p n which count t : ℕ} {x u y v z r u₁ v₁ : List ℕ} (room : ThirdRoom p n which count t x u y v z r)
    (left : u₁ ≡ sets u 0 (part p n which count x)) (right : v₁ ≡ sets v 0 (part p n which count y)) where
  fits-u : count ≤ length u
  fits-u = omega (arith, room.left-parts)

  fits_v : count ≤ length v
  fits_v = omega (arith, room.right-parts)

  pub part_room : Room p count u₁ (rest n x) v₁ (rest n y) (rest t r) (rest n z)
  part_room = record {
    modulus = room.modulus;
    lists = record {
      left = omega (arith, room.left-parts, length-written p n which count x u u₁ fits-u left);
      left-parts = omega (arith, room.left, length_rest n x);
      right = omega (arith, room.right-parts, length-written p n which count y v v₁ fits_v right);
      right-parts = omega (arith, room.right, length_rest n y);
      target = omega (arith, room.products, length_rest t r);
      products = omega (arith, room.target, length_rest n z);
    };
    left-residues = written-residues p n which count x u u₁ fits-u left room.modulus room.left-residues room.few;
    right-residues = written-residues p n which count y v v₁ fits_v right room.modulus room.right-residues room.few;
  }

  pub third-done : (a b c : List ℕ) → length c ≡ length (rest t r) → take count c ≡ cut_product p count u₁ v₁
      → Third p n which count t x (returned n x a) y (returned n y b) r (returned t r c)
  third-done a b c size done = record {
    left = take-returned n x a (left-inside room);
    right = take-returned n y b (right-inside room);
    before = take-returned t r c (products-inside room);
    product =
        rw (drop_at (take t r) _ t (length-take-le t r (products-inside room)), take-append-le count c _ long)
        (done ∙ sym (cut_product_taken room.modulus count u₁ v₁)
        ∙ ap₂ (cut_product p count) (written-part p n which count x u u₁ fits-u left) (written-part p n which count y v v₁ fits_v right));
  }
    where
      long : count ≤ length c
      long = omega (arith, size, room.products, length_rest t r)
