use Rattle.std.proofs.Common.{◌≡◌, ◌++◌, map, string_bytes}
use Rattle.std.specs.Vec.Iter.{into_iter_items}
use Rattle.markdown_headings.specs.HeadingsSaid.{heading_said, title_said}
use Rattle.markdown_headings.specs.Named.{named_by}
use Rattle.markdown_headings.proofs.naming.with_names.Given as goal

-- those so far, and those that are left with the names that are left, are all
abbrev pub invariant-loop-title : goal.invariant-loop-title
invariant-loop-title l =
    map heading_said l.headings.items ++ named_by (map title_said (into_iter_items l.title-iterator)) (map string_bytes (into_iter_items l.left)) ≡ named_by (map title_said l.fn.titles.items) (map string_bytes l.fn.names.items)
