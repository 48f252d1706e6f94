-- Composites that are fitted to a width, or get a wider place.
use Rattle.std.specs.Prelude.{ℕ, ◌-◌, max, nat_lt, Option, Some, None, if◌then◌else◌}
use Rattle.mad_md.specs.declared.alignment.Alignment.{Alignment}
use Rattle.mad_measure.specs.declared.spacing.Spacing.{Spacing}
use Rattle.mad_fitting.specs.Fitted.{IsFitted}
use Rattle.mad_fitting.specs.Turns.{IsReplacedAs}
use Rattle.mad_format.specs.Indents.{indent}
use Rattle.mad_format.specs.LineRules.{LineRules}
use Rattle.mad_format.specs.Wraps.{columns_of}
use Rattle.mad_format.specs.declared.composite.FmtComposite.{FmtComposite}

-- what becomes of the compounds of a composite that doesn't fit: they are fitted behind its indent
abbrev pub IsCompositeFitted : LineRules → Alignment → ℕ → FmtComposite → FmtComposite → Type 0
IsCompositeFitted skin align width before after = IsFitted align (indent skin.list_items_indentation_mode before.kind) width before.compounds.items after.compounds.items

-- the same, exactly: what goes of the columns that are too many
abbrev pub IsCompositeReplaced : LineRules → Alignment → ℕ → FmtComposite → FmtComposite → Type 0
IsCompositeReplaced skin align width before after =
    IsReplacedAs align (columns_of skin before - width) before.compounds.items after.compounds.items

-- the place of a composite of this length, made at least so wide: one that has none gets one if it is narrower
abbrev pub extended : Option Spacing → ℕ → ℕ → Alignment → Option Spacing
extended (Some place) length width align = Some (record { width = max place.width width; align = align })
extended None length width align = if nat_lt length width then Some (record { width = width; align = align }) else None
