use Rattle.std.proofs.Common.{◌≡◌, ◌++◌, map}
use Rattle.std.specs.Prelude.{string_bytes}
use Rattle.std.specs.Vec.Iter.{into_iter_items}
use Rattle.markdown_reader.specs.Mapping.{link_at}
use Rattle.markdown_reader.specs.SectionsSaid.{link_said}
use Rattle.markdown_reader.proofs.sections.push_links.Given as goal

abbrev pub invariant-loop-address : goal.invariant-loop-address
invariant-loop-address l = map link_said l.links.items ++ map (link_at l.section) (map string_bytes (into_iter_items l.address-iterator)) ≡ map link_said l.fn.links.items ++ map (link_at l.section) (map string_bytes l.fn.addresses.items)
