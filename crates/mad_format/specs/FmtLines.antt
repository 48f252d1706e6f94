-- Lines of a layout.
use Rattle.std.specs.Prelude.{◌≡◌, ℕ, ◌+◌, ◌-◌, Bool, true, false, List, [], ◌∷◌, ◌++◌, length, take, replicate, map, None}
use Rattle.mad_md.specs.Flagged.{run_of}
use Rattle.mad_md.specs.Lines.{StyledRuns, LineContent, normal, table_row, table_rule, horizontal_rule}
use Rattle.mad_md.specs.TypedLines.{IsTypedText}
use Rattle.mad_md.specs.declared.alignment.Alignment.{Alignment}
use Rattle.mad_md.specs.declared.compound.Compound.{Compound}
use Rattle.mad_style.specs.Kinds.{kind_of}
use Rattle.mad_style.specs.declared.kinds.CompositeKind.{CompositeKind}
use Rattle.mad_wrap.specs.WrapLines.{capped}
use Rattle.mad_format.specs.Wraps.{IsMeasured}
use Rattle.mad_format.specs.LineRules.{LineRules}
use Rattle.mad_format.specs.Lists.{most}
use Rattle.mad_format.specs.declared.composite.FmtComposite.{FmtComposite}
use Rattle.mad_format.specs.declared.line.FmtLine.{FmtLine}
use Rattle.mad_format.specs.declared.line.FmtLine.TheVariants.{Normal, TableRow, TableRule, HorizontalRule}
use Rattle.mad_format.specs.declared.table.FmtTableRule.{FmtTableRule}
use Rattle.mad_format.specs.declared.table.RelativePosition.TheVariants.{Other}

-- a line of a table
abbrev pub is_table_line : FmtLine → Bool
is_table_line (Normal l) = false
is_table_line (TableRow row) = true
is_table_line (TableRule rule) = true
is_table_line HorizontalRule = false

-- the cached lengths of cells, added up
abbrev pub cells_columns : List FmtComposite → ℕ
cells_columns [] = 0
cells_columns (cell ∷ cells) = cell.visible_length + cells_columns cells

-- the columns of columns with a border after each
abbrev pub bordered : List ℕ → ℕ
bordered [] = 0
bordered (w ∷ ws) = w + 1 + bordered ws

-- the columns of a rule across columns of these widths: its left end, and after each column a junction or its right end; its two ends
-- where there are no columns
abbrev pub rule_columns : List ℕ → ℕ
rule_columns [] = 2
rule_columns (w ∷ ws) = 1 + bordered (w ∷ ws)

-- the columns of a line, as they are cached
abbrev pub columns_of_line : FmtLine → ℕ
columns_of_line (Normal l) = l.visible_length
columns_of_line (TableRow row) = capped (cells_columns row.cells.items)
columns_of_line (TableRule rule) = capped (rule_columns rule.widths.items)
columns_of_line HorizontalRule = 0

-- the columns of the widest line
abbrev pub widest_line : List FmtLine → ℕ
widest_line = most columns_of_line

-- The composite is of this kind and says this, measured in this skin; it is not yet laid out, so it has no place of its own and no
-- margins. Of what was read this is known.
pub record IsReadAs (skin : LineRules) (read_kind : CompositeKind) (Says : List Compound → Type 0) (Known : Type 0) (l : FmtComposite) : Type 0 where
  pub kind : l.kind ≡ read_kind
  pub text : Says l.compounds.items
  pub measured : IsMeasured skin l
  pub spacing : l.spacing ≡ None
  pub margins : l.margins ≡ None
  pub known : Known

-- the composite is what was read, of which what types promise is so
abbrev pub IsCompositeRead : LineRules → StyledRuns → FmtComposite → Type 0
IsCompositeRead skin said l = IsReadAs skin (kind_of said.style) (λ ps. map run_of ps ≡ said.runs) (IsTypedText said) l

-- so are composites, in order
abbrev pub AreCompositesRead : LineRules → List StyledRuns → List FmtComposite → Type 0
AreCompositesRead skin [] [] = Unit {0}
AreCompositesRead skin (said ∷ more) (l ∷ ls) = IsCompositeRead skin said l × AreCompositesRead skin more ls
AreCompositesRead skin _ _ = ⊥

-- a rule across a table as it was read, which has no widths yet
pub record IsRuleRead (aligns : List Alignment) (rule : FmtTableRule) : Type 0 where
  pub position : rule.position ≡ Other
  pub widths : rule.widths.items ≡ []
  pub aligns_are : rule.aligns.items ≡ aligns

-- the line is what was read
abbrev pub IsLineRead : LineRules → LineContent → FmtLine → Type 0
IsLineRead skin (normal said) (Normal l) = IsCompositeRead skin said l
IsLineRead skin (table_row cells) (TableRow row) = AreCompositesRead skin cells row.cells.items
IsLineRead skin (table_rule aligns) (TableRule rule) = IsRuleRead aligns rule
IsLineRead skin horizontal_rule HorizontalRule = Unit {0}
IsLineRead skin _ _ = ⊥

-- elements cut to n, or filled up with one
abbrev pub resized : {A : Type 0} → ℕ → A → List A → List A
resized n x xs = take n xs ++ replicate (n - length xs) x
