use Rattle.std.proofs.Common.{◌≡◌, ◌++◌, map, drop}
use Rattle.std.specs.List.{flat_map}
use Rattle.mad_md.specs.Flagged.{run_of}
use Rattle.mad_link_marks.specs.LinkMarks.{run_texts}
use Rattle.mad_link_marks.proofs.link_marks.push_row_texts.Given as goal

abbrev pub invariant-loop-compound : goal.invariant-loop-compound
invariant-loop-compound l = map (λ t. t.now) l.texts.items ++ flat_map run_texts (map run_of (drop l.compound-index l.row.compounds.items)) ≡ map (λ t. t.now) l.fn.texts.items ++ flat_map run_texts (map run_of l.row.compounds.items)
