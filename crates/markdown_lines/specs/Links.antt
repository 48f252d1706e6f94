-- Where the links of leaves lead.
use Rattle.std.specs.Prelude.{ℕ, List, [], map, Option, Some, None, slice_get}
use Rattle.markdown_inlines.specs.Inlines.{leaf_links, links_from}
use Rattle.markdown_html_text.specs.HtmlPieces.{html_pieces}
use Rattle.markdown_inlines.specs.declared.inlines.LinkTarget.{LinkTarget}
use Rattle.markdown_inlines.specs.declared.inlines.LinkTarget.TheVariants.{Definition, Inline, Address, Attribute}
use Rattle.markdown_destinations.specs.Destinations.{Leads, link_leads}
use Rattle.markdown_link_parts.specs.Parts.{defined_destination}
use Rattle.markdown_link_parts.specs.Texts.{text_of}
use Rattle.markdown_lines.specs.Leaf.{shown_text}

-- the labels of definitions, as they are compared, and where each of these leads
pub record Defined : Type 0 where
  pub labels : List (List ℕ)
  pub addresses : List (List ℕ)

-- a link: the number of a line, and the address to which the link leads
pub record LinkSaid : Type 0 where
  pub line : ℕ
  pub address : List ℕ

-- where the definition leads with which a text begins, each character as it is shown
abbrev pub definition_address : List ℕ → List ℕ
definition_address text = shown_text (text_of (defined_destination text))

-- the address that is found, or an empty one
abbrev pub address_or_none : Option (List ℕ) → List ℕ
address_or_none None = []
address_or_none (Some address) = address

-- where a link leads that a definition makes
abbrev pub address_by : List (List ℕ) → LinkTarget → List ℕ
address_by addresses (Definition index) = address_or_none (slice_get addresses index)
address_by addresses (Inline at len) = []
address_by addresses (Address scheme at len) = []
address_by addresses (Attribute at value) = []

-- where a link leads: it says so itself, each character as it is shown, or a definition does
abbrev pub address_in : List ℕ → Option Leads → List ℕ
address_in defined None = defined
address_in defined (Some leads) = shown_text leads.destination

-- where a link of a leaf with this text leads
abbrev pub address_of : List (List ℕ) → List ℕ → LinkTarget → List ℕ
address_of addresses text link = address_in (address_by addresses link) (link_leads text link)

-- where the links of a leaf with this text lead, in their order
abbrev pub leaf_addresses : Defined → List ℕ → List (List ℕ)
leaf_addresses defined text = map (address_of defined.addresses text) (leaf_links defined.labels text)

-- where the links of a leaf of html with this text lead
abbrev pub html_addresses : List ℕ → List (List ℕ)
html_addresses text = map (address_of [] text) (links_from 0 (html_pieces text))

-- a link that is in this line and leads to this address
abbrev pub link_at : ℕ → List ℕ → LinkSaid
link_at line address = record { line = line; address = address }

-- links of one line
abbrev pub links_at : ℕ → List (List ℕ) → List LinkSaid
links_at line addresses = map (link_at line) addresses
