-- A text's lines as parts, and its layout, part by part: tables, blocks of code, and any other line by itself.
use Rattle.std.specs.Prelude.{◌≡◌, ℕ, ◌-◌, ◌^◌, min, nat_lt, if◌then◌else◌, Bool, true, false, List, [], ◌∷◌, map, Option, Some, None}
use Rattle.mad_md.specs.declared.alignment.Alignment.TheVariants.{Left}
use Rattle.mad_style.specs.LineStyles.{width_inside}
use Rattle.mad_style.specs.declared.kinds.CompositeKind.{CompositeKind}
use Rattle.mad_style.specs.declared.kinds.CompositeKind.TheVariants.{Code}
use Rattle.mad_format.specs.CompositeWraps.{IsCompositeWrap}
use Rattle.mad_blocks.specs.Tables.{IsTableLaidOutBy, columns_count}
use Rattle.mad_format.specs.WrappedLines.{Wrap, IsLineLaidOutBy}
use Rattle.mad_format.specs.LineRules.{LineRules}
use Rattle.mad_format.specs.Lists.{most, EachBecomes}
use Rattle.mad_format.specs.declared.composite.FmtComposite.{FmtComposite}
use Rattle.mad_format.specs.declared.line.FmtLine.{FmtLine}
use Rattle.mad_format.specs.declared.line.FmtLine.TheVariants.{Normal, TableRow, TableRule, HorizontalRule}

-- ---- parts

-- the lines of a table or of a block of code, or a line by itself
pub data Part : Type 0 where
  table : List FmtLine → Part
  block : List FmtComposite → Part
  single : FmtLine → Part

-- a line of code
abbrev pub is_code_kind : CompositeKind → Bool
is_code_kind Code = true
is_code_kind _ = false

-- the line is one of code
abbrev pub is_code_line : FmtLine → Bool
is_code_line (Normal l) = is_code_kind l.kind
is_code_line _ = false

-- a line of a table in front of parts: it joins a table that begins them
abbrev pub with_table : FmtLine → List Part → List Part
with_table l (table ls ∷ ps) = table (l ∷ ls) ∷ ps
with_table l ps = table (l ∷ []) ∷ ps

-- a line of code in front of parts: it joins a block that begins them
abbrev pub with_code : FmtComposite → List Part → List Part
with_code l (block ls ∷ ps) = block (l ∷ ls) ∷ ps
with_code l ps = block (l ∷ []) ∷ ps

-- a composite in front of parts
abbrev pub with_composite : Bool → FmtComposite → List Part → List Part
with_composite true l ps = with_code l ps
with_composite false l ps = single (Normal l) ∷ ps

-- a line in front of parts
abbrev pub with_line : FmtLine → List Part → List Part
with_line (Normal l) ps = with_composite (is_code_kind l.kind) l ps
with_line (TableRow row) ps = with_table (TableRow row) ps
with_line (TableRule rule) ps = with_table (TableRule rule) ps
with_line HorizontalRule ps = single HorizontalRule ∷ ps

-- the parts of lines, in order: tables and blocks are as long as can be
abbrev pub parts_of : List FmtLine → List Part
parts_of [] = []
parts_of (l ∷ ls) = with_line l (parts_of ls)

-- ---- tables

-- a table is laid out, any other part stays
abbrev pub IsTableFixedBy : Wrap → LineRules → ℕ → Part → List FmtLine → Type 0
IsTableFixedBy wraps skin width (table ls) lines = IsTableLaidOutBy wraps skin (columns_count ls) width ls lines
IsTableFixedBy wraps skin width (block ls) lines = lines ≡ map Normal ls
IsTableFixedBy wraps skin width (single l) lines = lines ≡ l ∷ []

-- lines with each table laid out
abbrev pub AreTablesLaidOut : Wrap → LineRules → ℕ → List FmtLine → List FmtLine → Type 0
AreTablesLaidOut wraps skin width source = EachBecomes (IsTableFixedBy wraps skin width) (parts_of source)

-- ---- blocks of code

-- the columns of the widest line
abbrev pub widest : List FmtComposite → ℕ
widest = most (λ (l : FmtComposite). l.visible_length)

-- a width, at most the room, if there is a limit
abbrev pub width_within : Option ℕ → ℕ → ℕ
width_within None width = width
width_within (Some room) width = min width room

-- the columns of a block, at most the room, if there is a limit
abbrev pub block_width : Option ℕ → List FmtComposite → ℕ
block_width room ls = width_within room (widest ls)

-- a line of code in a place of `width` columns
abbrev pub placed_code : ℕ → FmtComposite → FmtComposite
placed_code width l = record l { spacing = Some (record { width = width; align = Left }) }

-- the lines of a block, each in the block's place
abbrev pub justified : Option ℕ → List FmtComposite → List FmtComposite
justified room ls = map (placed_code (block_width room ls)) ls

-- ---- a layout

-- what the margins of code leave of a width, if there is one
abbrev pub code_room : LineRules → Option ℕ → Option ℕ
code_room skin None = None
code_room skin (Some width) = Some (width_inside (skin.line_style Code) width)

-- the width that lines are wrapped at: nothing is wrapped without a width, nor at one under three
abbrev pub wrap_width : Option ℕ → Option ℕ
wrap_width None = None
wrap_width (Some width) = if nat_lt width 3 then None else Some width

-- the width of tables: they are laid out at any width, and without one as wide as can be
abbrev pub table_width : Option ℕ → ℕ
table_width None = 2 ^ 64 - 1
table_width (Some width) = width

-- what becomes of a line at a width; without one it stays
abbrev pub IsLineAt : Wrap → LineRules → Option ℕ → FmtLine → List FmtLine → Type 0
IsLineAt wraps skin None l lines = lines ≡ l ∷ []
IsLineAt wraps skin (Some width) l lines = IsLineLaidOutBy wraps skin width l lines

-- what becomes of each of the lines, in order
abbrev pub AreLinesAt : Wrap → LineRules → Option ℕ → List FmtLine → List FmtLine → Type 0
AreLinesAt wraps skin width = EachBecomes (IsLineAt wraps skin width)

-- what becomes of a block of code at a width, if there is one: its lines get the block's place first
abbrev pub IsBlockAt : LineRules → Option ℕ → List FmtComposite → List FmtLine → Type 0
IsBlockAt skin width ls lines = AreLinesAt IsCompositeWrap skin (wrap_width width) (map Normal (justified (code_room skin (wrap_width width)) ls)) lines

-- what becomes of a part where tables have this width: a table is laid out; the lines of a block get its place first
abbrev pub IsPartAt : Wrap → LineRules → ℕ → Option ℕ → Part → List FmtLine → Type 0
IsPartAt wraps skin tables width (table ls) lines = IsTableLaidOutBy wraps skin (columns_count ls) tables ls lines
IsPartAt wraps skin tables width (block ls) lines = AreLinesAt wraps skin width (map Normal (justified (code_room skin width) ls)) lines
IsPartAt wraps skin tables width (single l) lines = AreLinesAt wraps skin width (l ∷ []) lines

-- what becomes of each of the parts, in order: the layouts of a text's parts joined are its layout
abbrev pub ArePartsAt : Wrap → LineRules → ℕ → Option ℕ → List Part → List FmtLine → Type 0
ArePartsAt wraps skin tables width = EachBecomes (IsPartAt wraps skin tables width)
