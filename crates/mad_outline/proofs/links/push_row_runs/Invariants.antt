use Rattle.std.proofs.Common.{◌≡◌, ◌++◌, [], ◌∷◌, map, drop, if◌then◌else◌}
use Rattle.std.specs.List.{flat_map}
use Rattle.mad_md.specs.Flagged.{Run, run_of}
use Rattle.mad_outline.specs.LinkLists.{is_link_text}
use Rattle.mad_outline.proofs.links.push_row_runs.Given as goal

abbrev pub invariant-loop-compound : goal.invariant-loop-compound
invariant-loop-compound l =
    map run_of l.runs.items ++ flat_map (λ (run : Run). if is_link_text run then run ∷ [] else []) (map run_of (drop l.compound-index l.row.compounds.items))
    ≡ map run_of l.fn.runs.items ++ flat_map (λ (run : Run). if is_link_text run then run ∷ [] else []) (map run_of l.row.compounds.items)
