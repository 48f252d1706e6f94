use Rattle.std.proofs.Common.{◌≡◌, ◌++◌, map, length, string_bytes}
use Rattle.mad_style.specs.Repeats.{styled_char_bytes}
use Rattle.mad_list_columns.specs.Drawing.{rule_bytes, titles}
use Rattle.mad_list_columns.proofs.JoinLemmas.{each_after}
use Rattle.mad_list_columns.proofs.titles.push_rule.Given as goal

abbrev pub invariant-loop-rest : goal.invariant-loop-rest
invariant-loop-rest g l =
    string_bytes l.bytes ++ each_after (styled_char_bytes l.cross) (map (rule_bytes l.table) (titles l.rest))
    ≡ string_bytes l.initial.bytes ++ each_after (styled_char_bytes l.cross) (map (rule_bytes l.table) (titles l.initial.rest))

abbrev pub decreases-loop-rest : goal.decreases-loop-rest
decreases-loop-rest g l = length l.rest
