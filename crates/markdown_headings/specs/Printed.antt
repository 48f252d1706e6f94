-- Headings in which a terminal finds nothing to obey.
use Rattle.std.specs.Prelude.{List}
use Rattle.std.specs.List.{AllByRecursion}
use Rattle.std.specs.Str.{NoCharPasses}
use Rattle.markdown_headings.specs.Named.{HeadingSaid}
use Rattle.markdown_reader.specs.Printed.{is_obeyed}

-- no character of what the heading shows is obeyed
abbrev pub IsPrintedHeading : HeadingSaid → Type 0
IsPrintedHeading heading = NoCharPasses is_obeyed heading.text

-- so it is with each of these headings
abbrev pub ArePrintedHeadings : List HeadingSaid → Type 0
ArePrintedHeadings headings = AllByRecursion IsPrintedHeading headings
