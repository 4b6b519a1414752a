-- The join of one part more, on the lists that the work buffer holds.
--
--   room-length     the room of a list is that of every list of its length
--   moved_within moved_value   the next part's value moved to the value
--   join_operands   what the product requires
--   join_moved      the product, and then its result moved to the value
-- Assumes nothing.
use Rattle.std.specs.Prelude.{ℕ, ◌+◌, ◌≡◌, List, length}
use Rattle.std.proofs.Common.{arith, inl, ◌∙◌}
use Rattle.std.proofs.lemmas.List.Edits.{sets}
use Rattle.std.proofs.Math.Seq.{length-sets}
use Rattle.algebra.specs.Prime.{prime-positive}
use Rattle.bernstein.specs.Level.{Joined, Room, next_at}
use Rattle.buffer.specs.Written.{length_part}
use Rattle.buffer.specs.Segments.{segment}
use Rattle.product.specs.Single.{MultipliedAdd, Operands, added_product, length-added}
use Rattle.buffer.specs.Within.{Within, within_trans, within-sets, segment-sets}

pub room-length : {p n m : ℕ} {v w : List ℕ} → length v ≡ length w → Room p n m w → Room p n m v
room-length e r = record {
  prime = r.prime;
  positive = r.positive;
  order = r.order;
  outer = r.outer;
  room = rw e r.room;
}

module _ {p n m : ℕ} {w : List ℕ} (r : Room p n m w) where
  module _ {u : List ℕ} (moved : u ≡ sets w (n + m) (segment w (next_at n m) n)) where
    size : length (segment w (next_at n m) n) ≡ n
    size = length_part w (next_at n m) n (omega arith)

    pub moved_within : Within (n + m) (n + n) w u
    moved_within = rw moved (within-sets w (n + m) (segment w (next_at n m) n) (omega arith) (omega (arith, size)))

    pub moved_value : segment u (n + m) n ≡ segment w (next_at n m) n
    moved_value = rw moved (segment-sets w (n + m) (segment w (next_at n m) n) n size (omega arith))

  pub join_operands : Operands p n (n + m) 0 (next_at n m) w
  join_operands = record {
    modulus = prime-positive r.prime;
    order = omega arith;
    left = record { source = omega arith; target = omega arith; apart = inl (omega arith) };
    right = record { source = omega arith; target = omega arith; apart = inl (omega arith) };
  }

pub join_moved : {p n m : ℕ} {u v w : List ℕ} {result : ℕ} → Room p n m w → MultipliedAdd p n (n + m) 0 (next_at n m) w v result
    → u ≡ sets v (n + m) (segment v (next_at n m) n) → Joined p n m w u result
join_moved {p} {n} {m} {u} {v} {w} r multiplied moved =
    let sum = added_product p n (n + m) 0 (next_at n m) w in
    let size : length sum ≡ n = length-added p n (n + m) 0 (next_at n m) w in
    let e : length v ≡ length w = rw multiplied.written (length-sets w (next_at n m) sum) in
    record {
      within =
          within_trans
          (rw multiplied.written (within-sets w (next_at n m) sum (omega arith) (omega (arith, size))))
          (moved_within (room-length e r) moved);
      value =
          moved_value (room-length e r) moved
          ∙ rw multiplied.written (segment-sets w (next_at n m) sum n size (omega arith));
      places = multiplied.places;
    }
