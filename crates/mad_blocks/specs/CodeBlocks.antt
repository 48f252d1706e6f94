-- Blocks of code among lines.
use Rattle.std.specs.Prelude.{◌≡◌, ℕ, ◌+◌, ◌-◌, ◌<◌, ◌≤◌, true, false, List, [], ◌∷◌, ◌++◌, map, length, take, drop, Option, Some, None, if◌then◌else◌}
use Rattle.std.specs.List.{AllByRecursion, flat_map}
use Rattle.mad_blocks.specs.LayoutParts.{Part, table, block, single, is_code_kind, is_code_line, widest, placed_code, justified, parts_of}
pub use Rattle.mad_blocks.specs.LayoutParts.{width_within}
use Rattle.mad_blocks.specs.declared.code_blocks.CodeBlock.{CodeBlock}
use Rattle.mad_format.specs.declared.composite.FmtComposite.{FmtComposite}
use Rattle.mad_format.specs.declared.line.FmtLine.{FmtLine}
use Rattle.mad_format.specs.declared.line.FmtLine.TheVariants.{Normal}

-- the blocks among parts, the first of which begins at this line
abbrev pub blocks_among : ℕ → List Part → List CodeBlock
blocks_among at [] = []
blocks_among at (table ls ∷ ps) = blocks_among (at + length ls) ps
blocks_among at (block ls ∷ ps) = record { start = at; height = length ls; width = widest ls } ∷ blocks_among (at + length ls) ps
blocks_among at (single l ∷ ps) = blocks_among (at + 1) ps

-- the blocks among lines
abbrev pub code_blocks : List FmtLine → List CodeBlock
code_blocks ls = blocks_among 0 (parts_of ls)

-- a line in a place of this many columns; a rule and a line of a table have none
abbrev pub placed_line : ℕ → FmtLine → FmtLine
placed_line width (Normal l) = Normal (placed_code width l)
placed_line width line = line

-- lines, with those of a block in its place
abbrev pub with_block_placed : CodeBlock → List FmtLine → List FmtLine
with_block_placed b ls = take b.start ls ++ (map (placed_line b.width) (take b.height (drop b.start ls)) ++ drop (b.start + b.height) ls)

-- the lines of a part, those of a block in its place
abbrev pub part_placed : Option ℕ → Part → List FmtLine
part_placed room (table ls) = ls
part_placed room (block ls) = map Normal (justified room ls)
part_placed room (single l) = l ∷ []

-- lines, each block in its place
abbrev pub blocks_placed : Option ℕ → List FmtLine → List FmtLine
blocks_placed room ls = flat_map (part_placed room) (parts_of ls)

-- the columns of a line of code, by its cached length; none of any other line
abbrev pub code_columns : FmtLine → Option ℕ
code_columns (Normal l) = if is_code_kind l.kind then Some l.visible_length else None
code_columns _ = None

-- no line of code comes first
abbrev pub NoCodeFirst : List FmtLine → Type 0
NoCodeFirst [] = Unit {0}
NoCodeFirst (l ∷ ls) = is_code_line l ≡ false

-- The block begins at this line and ends before the first line that isn't code; it has no line where none of code begins there.
pub record IsClosedBlock (lines : List FmtLine) (at : ℕ) (b : CodeBlock) : Type 0 where
  pub own : List FmtComposite
  pub code : AllByRecursion (λ l. is_code_kind l.kind ≡ true) own
  pub start : b.start ≡ at
  pub height : b.height ≡ length own
  pub width : b.width ≡ widest own
  pub lines_are : drop at lines ≡ map Normal own ++ drop (at + b.height) lines
  pub ends : NoCodeFirst (drop (at + b.height) lines)

-- none of the lines is one of code
abbrev pub NoCode : List FmtLine → Type 0
NoCode lines = AllByRecursion (λ l. is_code_line l ≡ false) lines

-- The block is the first one from a line on.
pub record IsNextBlock (lines : List FmtLine) (from : ℕ) (b : CodeBlock) : Type 0 where
  pub after : from ≤ b.start
  pub skipped : NoCode (take (b.start - from) (drop from lines))
  pub some : 0 < b.height
  pub closed : IsClosedBlock lines b.start b
