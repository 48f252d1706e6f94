-- What definitions and links say, whatever the places of their texts.
use Rattle.std.specs.Prelude.{string_bytes, map}
use Rattle.markdown_lines.specs.Links.{Defined, LinkSaid}
use Rattle.markdown_lines.specs.declared.links.Definitions.{Definitions}
use Rattle.markdown_lines.specs.declared.links.Link.{Link}

-- the labels that the code keeps, and where each leads
abbrev pub defined_of : Definitions → Defined
defined_of definitions = record { labels = definitions.labels; addresses = map string_bytes definitions.addresses.items }

-- the line that a link is in, and its address
abbrev pub link_of : Link → LinkSaid
link_of link = record { line = link.line; address = string_bytes link.address }
