-- Layouts of the first lines of a text.
use Rattle.std.specs.Prelude.{◌≡◌, ◌⊎◌, ℕ, ◌≤◌, List, [], ◌++◌, length, Option}
use Rattle.mad_md.specs.Lines.{LineContent}
use Rattle.mad_blocks.specs.Layouts.{IsLayoutAt}
use Rattle.mad_format.specs.LineRules.{LineRules}
use Rattle.mad_blocks.specs.TextParts.{text_parts}
use Rattle.mad_format.specs.declared.line.FmtLine.{FmtLine}

-- The lines are a layout of the first lines of a text, none of its parts cut: of all of them, or of enough to take at least this many rows.
pub record IsFrontLayout (skin : LineRules) (width : Option ℕ) (rows : ℕ) (text : List LineContent) (lines : List FmtLine) : Type 0 where
  pub front : List LineContent
  pub rest : List LineContent
  pub joins : text ≡ front ++ rest
  pub parts : text_parts text ≡ text_parts front ++ text_parts rest
  pub layout : IsLayoutAt skin width front lines
  pub enough : (rest ≡ []) ⊎ (rows ≤ length lines)
