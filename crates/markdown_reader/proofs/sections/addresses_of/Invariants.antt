use Rattle.std.proofs.Common.{◌≡◌, ◌++◌, map}
use Rattle.std.specs.Prelude.{string_bytes}
use Rattle.std.specs.Vec.Iter.{into_iter_items}
use Rattle.markdown_lines.specs.LinksOf.{link_of}
use Rattle.markdown_reader.specs.Mapping.{address_said}
use Rattle.markdown_reader.proofs.sections.addresses_of.Given as goal

abbrev pub invariant-loop-link : goal.invariant-loop-link
invariant-loop-link l = map string_bytes l.addresses.items ++ map address_said (map link_of (into_iter_items l.link-iterator)) ≡ map address_said (map link_of l.fn.links.items)
