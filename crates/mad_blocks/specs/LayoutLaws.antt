-- Laws of layouts: part by part is pass by pass.
use Rattle.std.specs.Prelude.{ℕ, List, Option}
use Rattle.mad_blocks.specs.CodeBlocks.{blocks_placed}
use Rattle.mad_blocks.specs.LayoutParts.{parts_of, AreTablesLaidOut, code_room, AreLinesAt, ArePartsAt}
use Rattle.mad_format.specs.WrappedLines.{Wrap}
use Rattle.mad_format.specs.LineRules.{LineRules}
use Rattle.mad_format.specs.declared.line.FmtLine.{FmtLine}

-- Tables, then blocks of code, then wrapping, each over all lines, make the layout part by part.
abbrev pub PassesAreParts : Wrap → Type 0
PassesAreParts wraps =
    (skin : LineRules) (tables : ℕ) (width : Option ℕ) (source tabled lines : List FmtLine)
    → AreTablesLaidOut wraps skin tables source tabled → AreLinesAt wraps skin width (blocks_placed (code_room skin width) tabled) lines
    → ArePartsAt wraps skin tables width (parts_of source) lines

-- And each layout part by part is one that these passes make.
abbrev pub PartsArePasses : Wrap → Type 0
PartsArePasses wraps =
    (skin : LineRules) (tables : ℕ) (width : Option ℕ) (source lines : List FmtLine) → ArePartsAt wraps skin tables width (parts_of source) lines
    → (tabled : List FmtLine) × AreTablesLaidOut wraps skin tables source tabled × AreLinesAt wraps skin width (blocks_placed (code_room skin width) tabled) lines
