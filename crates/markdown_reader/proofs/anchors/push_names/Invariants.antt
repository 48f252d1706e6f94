use Rattle.std.proofs.Common.{◌≡◌, ◌++◌, map}
use Rattle.std.specs.Prelude.{string_bytes}
use Rattle.std.specs.Vec.Iter.{into_iter_items}
use Rattle.markdown_reader.specs.Anchors.{anchor_at, anchor_said}
use Rattle.markdown_reader.proofs.anchors.push_names.Given as goal

abbrev pub invariant-loop-name : goal.invariant-loop-name
invariant-loop-name l = map anchor_said l.anchors.items ++ map (anchor_at l.section) (map string_bytes (into_iter_items l.name-iterator)) ≡ map anchor_said l.fn.anchors.items ++ map (anchor_at l.section) (map string_bytes l.fn.names.items)
