use Rattle.std.proofs.Common.{◌≡◌, ◌++◌, map}
use Rattle.std.specs.Prelude.{string_bytes}
use Rattle.std.specs.Vec.Iter.{into_iter_items}
use Rattle.markdown_lines.specs.Links.{links_at}
use Rattle.markdown_lines.specs.LinksOf.{link_of}
use Rattle.markdown_lines.proofs.links.push_links.Given as goal

abbrev pub invariant-loop-address : goal.invariant-loop-address
invariant-loop-address l = map link_of l.links.items ++ links_at l.line (map string_bytes (into_iter_items l.address-iterator)) ≡ map link_of l.fn.links.items ++ links_at l.line (map string_bytes l.fn.addresses.items)
