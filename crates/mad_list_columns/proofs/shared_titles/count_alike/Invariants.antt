use Rattle.std.proofs.Common.{take, string_bytes}
use Rattle.mad_list_columns.specs.Titles.{HaveTitle}
use Rattle.mad_list_columns.proofs.shared_titles.count_alike.Given as goal

abbrev pub invariant-loop-i : goal.invariant-loop-i
invariant-loop-i g l = HaveTitle (string_bytes l.first.title) (take l.i l.others)
