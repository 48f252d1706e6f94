-- What is said of a composite: its text, its columns, and that its cached length is right.
use Rattle.std.specs.Prelude.{◌≡◌, ℕ, ◌+◌, List}
use Rattle.mad_md.specs.Flagged.{FlaggedChar, flagged_text}
use Rattle.mad_measure.specs.TextColumns.{width_of}
use Rattle.mad_wrap.specs.WrapLines.{capped}
use Rattle.mad_format.specs.Indents.{indent}
use Rattle.mad_format.specs.LineRules.{LineRules}
use Rattle.mad_format.specs.declared.composite.FmtComposite.{FmtComposite}

-- the flagged text of a composite
abbrev pub text_of : FmtComposite → List FlaggedChar
text_of l = flagged_text l.compounds.items

-- the columns of a composite: its indent and its text
abbrev pub columns_of : LineRules → FmtComposite → ℕ
columns_of skin l = indent skin.list_items_indentation_mode l.kind + width_of (text_of l)

-- the cached length is right
abbrev pub IsMeasured : LineRules → FmtComposite → Type 0
IsMeasured skin l = l.visible_length ≡ capped (columns_of skin l)
