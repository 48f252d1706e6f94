use Rattle.std.proofs.Common.{◌≡◌, ◌++◌, map, drop}
use Rattle.std.specs.Prelude.{string_bytes}
use Rattle.markdown_lines.specs.Links.{address_of}
use Rattle.markdown_lines.proofs.links.push_addresses.Given as goal

abbrev pub invariant-loop-link : goal.invariant-loop-link
invariant-loop-link l =
    map string_bytes l.addresses.items ++ map (address_of (map string_bytes l.defined) l.text) (drop l.link-index l.links)
    ≡ map string_bytes l.fn.addresses.items ++ map (address_of (map string_bytes l.defined) l.text) l.links
