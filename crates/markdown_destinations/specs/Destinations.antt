-- The texts of destinations and titles.
use Rattle.std.specs.Prelude.{ℕ, List, [], ◌++◌, drop, Option, Some, None, codes}
use Rattle.std.specs.Str.Lossy.{utf8_lossy}
use Rattle.markdown_addresses.specs.declared.addresses.Scheme.{Scheme}
use Rattle.markdown_addresses.specs.declared.addresses.Scheme.TheVariants.{Itself, Mail, Web}
use Rattle.markdown_spans.specs.Attributes.{value_text}
use Rattle.markdown_spans.specs.declared.attributes.Value.{Value}
use Rattle.markdown_inlines.specs.Parts.{part}
use Rattle.markdown_inlines.specs.declared.inlines.LinkTarget.{LinkTarget}
use Rattle.markdown_inlines.specs.declared.inlines.LinkTarget.TheVariants.{Definition, Inline, Address, Attribute}
use Rattle.markdown_link_parts.specs.Parts.{inline_destination, inline_title, defined_destination, defined_title}
use Rattle.markdown_link_parts.specs.Texts.{text_of}

-- the bytes of a destination and of a title
pub record Leads : Type 0 where
  pub destination : List ℕ
  pub title : List ℕ

-- what stands before an address in its destination
abbrev pub scheme_text : Scheme → List ℕ
scheme_text Itself = []
scheme_text Mail = codes "mailto:"
scheme_text Web = codes "http://"

-- where a link leads that says so itself
abbrev pub inline_leads : List ℕ → Leads
inline_leads link = record { destination = text_of (inline_destination link); title = text_of (inline_title link) }

-- where a definition leads
abbrev pub defined_leads : List ℕ → Leads
defined_leads definition = record { destination = text_of (defined_destination definition); title = text_of (defined_title definition) }

-- an address has no escapes, no entities and no title
abbrev pub address_leads : Scheme → List ℕ → Leads
address_leads scheme address = record { destination = scheme_text scheme ++ utf8_lossy address; title = [] }

-- where a tag leads, by the value of its attribute; these are its bytes after its sign <
abbrev pub attribute_leads : List ℕ → Value → Leads
attribute_leads tag value = record { destination = utf8_lossy (value_text tag value); title = [] }

-- what a link of a text leads to, if it says so itself
abbrev pub link_leads : List ℕ → LinkTarget → Option Leads
link_leads text (Definition index) = None
link_leads text (Inline at len) = Some (inline_leads (part text at len))
link_leads text (Address scheme at len) = Some (address_leads scheme (part text at len))
link_leads text (Attribute at value) = Some (attribute_leads (drop at text) value)
