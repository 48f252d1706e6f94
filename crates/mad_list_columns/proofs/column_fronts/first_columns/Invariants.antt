use Rattle.std.specs.Str.Iter.{chars_rest}
use Rattle.mad_list_columns.proofs.FrontLemmas.{RoomSoFar}
use Rattle.mad_list_columns.proofs.column_fronts.first_columns.Given as goal

abbrev pub invariant-loop-c : goal.invariant-loop-c
invariant-loop-c l = RoomSoFar l.text (chars_rest l.c-iterator) l.most l.room l.bytes
