-- What a line is to the lines beside it.
use Rattle.std.specs.Prelude.{◌≢◌, ℕ, Bool, List, [], ◌∷◌, if◌then◌else◌}
use Rattle.mad_md.specs.Flagged.{unflagged}
use Rattle.mad_md.specs.Lines.{LineContent, normal, table_row, table_rule, horizontal_rule}
use Rattle.mad_md.specs.Scan.{line_of}
use Rattle.mad_md.specs.Starts.{is_fence}
use Rattle.mad_md.specs.declared.composite.CompositeStyle.{CompositeStyle}
use Rattle.mad_md.specs.declared.composite.CompositeStyle.TheVariants as style
use Rattle.mad_md.specs.declared.line_kinds.LineKind.{LineKind}
use Rattle.mad_md.specs.declared.line_kinds.LineKind.TheVariants.{Fence, Code, Table, Alone}

-- a line of this style
abbrev pub style_kind : CompositeStyle → LineKind
style_kind style.Code = Code
style_kind _ = Alone

-- a line that was read
abbrev pub told_kind : LineContent → LineKind
told_kind (normal line) = style_kind line.style
told_kind (table_row cells) = Table
told_kind (table_rule aligns) = Table
told_kind horizontal_rule = Alone

-- a line by its text: a fence, or what it is read as, where no flags are carried to it
abbrev pub kind_of_line : Bool → List ℕ → LineKind
kind_of_line fenced text = if is_fence text then Fence else told_kind (line_of fenced unflagged text)

-- the first byte, if there is one, is no backquote, bar, space or tab
abbrev pub MayNotGoOn : List ℕ → Type 0
MayNotGoOn [] = Unit {0}
MayNotGoOn (b ∷ bs) = (b ≢ 96) × (b ≢ 124) × (b ≢ 32) × (b ≢ 9)
