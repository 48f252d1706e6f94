-- What is read for html is what the reader reads.
use Rattle.std.specs.Prelude.{◌≡◌, List}
use Rattle.markdown_leaves.specs.Parts.{PartContent}
use Rattle.markdown_definitions.specs.Definitions.{definitions_of as definitions_read}
use Rattle.markdown_as_html.specs.Defined.{definitions_of}

-- the same labels are defined
abbrev pub LabelsAreThose : Type 0
LabelsAreThose = (parts : List PartContent) → (definitions_of parts).labels ≡ (definitions_read parts).labels
