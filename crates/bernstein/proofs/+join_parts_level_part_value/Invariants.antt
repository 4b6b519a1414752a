-- The measures: the count of the outer list falls from a level to the next; within a level, `level` calls `join_parts`, and `join_parts` calls
-- `part_value`.
use Rattle.std.specs.Prelude.{◌+◌, ◌*◌}
use Rattle.bernstein.specs.Loop.{PartsJoined}
use Rattle.bernstein.proofs.+join_parts_level_part_value.Given as goal

abbrev pub decreases-level : goal.decreases-level
decreases-level l = 3 * l.m + 2

abbrev pub decreases-join_parts : goal.decreases-join_parts
decreases-join_parts l = 3 * l.m + 1

abbrev pub decreases-part_value : goal.decreases-part_value
decreases-part_value l = 3 * l.m

abbrev pub invariant-join_parts-loop-j : goal.invariant-join_parts-loop-j
invariant-join_parts-loop-j l = PartsJoined l.p l.n l.m l.initial.w l.j l.w l.weight.places

abbrev pub decreases-join_parts-loop-j : goal.decreases-join_parts-loop-j
decreases-join_parts-loop-j l = l.j
