-- What a call leaves in the buffers lent to it, by the number that it returns.
--
--   kept number new old   new where the number is 0; after a refusal the list is as it was
--   cleared k w           w with its first k places zero: the work buffer after an accepted call
--   overwritten l w       w with l written from place 0 on; later places stay
--   answered number v     v where the number is 0, else 0: a refusal returns weight 0, count 0 and prime 0
use Rattle.std.specs.Prelude.{ℕ, zero, suc, List, ◌++◌, drop, length, replicate}

unfoldable pub kept : ℕ → List ℕ → List ℕ → List ℕ
kept zero new old = new
kept (suc number) new old = old

unfoldable pub cleared : ℕ → List ℕ → List ℕ
cleared k w = replicate k 0 ++ drop k w

unfoldable pub overwritten : List ℕ → List ℕ → List ℕ
overwritten l w = l ++ drop (length l) w

unfoldable pub answered : ℕ → ℕ → ℕ
answered zero v = v
answered (suc number) v = 0
