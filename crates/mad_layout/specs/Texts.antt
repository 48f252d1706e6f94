-- Texts that are written.
use Rattle.std.specs.Prelude.{ℕ, Result, List, Option}
use Rattle.mad_term.specs.Draws.{DrawsSome}
use Rattle.mad_term.specs.Trace.{Trace}
use Rattle.mad_term.specs.declared.errors.Error.{Error}
use Rattle.mad_blocks.specs.Layouts.{IsMarkdownLayout}
use Rattle.mad_rows.specs.Rows.{text_bytes}
use Rattle.mad_rows.specs.declared.row_skin.RowSkin.{RowSkin}
use Rattle.mad_rows.specs.RowStyles.{line_rules}

-- What a call does that writes a Markdown text: it draws the lines of a layout of it; or memory for the layout was refused, and nothing
-- went out.
abbrev pub WritesMarkdown : {T : Type 0} → RowSkin → Option ℕ → List ℕ → Trace → Result T Error → Trace → Type 0
WritesMarkdown skin width markdown old r new = DrawsSome (IsMarkdownLayout (line_rules skin) width markdown) (text_bytes skin width) old r new
