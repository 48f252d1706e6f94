-- Kinds of composites.
use Rattle.mad_md.specs.declared.composite.CompositeStyle.{CompositeStyle}
use Rattle.mad_md.specs.declared.composite.CompositeStyle.TheVariants as style
use Rattle.mad_style.specs.declared.kinds.CompositeKind.{CompositeKind}
use Rattle.mad_style.specs.declared.kinds.CompositeKind.TheVariants as kind

-- the kind of a composite as it was read, before it is wrapped
abbrev pub kind_of : CompositeStyle → CompositeKind
kind_of style.Paragraph = kind.Paragraph
kind_of (style.Header level) = kind.Header level
kind_of (style.ListItem level) = kind.ListItem level
kind_of (style.OrderedListItem level index) = kind.OrderedListItem level index
kind_of (style.ListItemFollowUp level) = kind.ListItemFollowUp level
kind_of style.Code = kind.Code
kind_of style.Quote = kind.Quote
