-- Tables whose lines are laid out one after another, from those that were read.
use Rattle.std.specs.Prelude.{◌≡◌, ℕ, suc, Bool, true, false, List, [], ◌++◌, length, map, Option, None, Some}
use Rattle.std.specs.Vec.Iter.{into_iter_items}
use Rattle.mad_md.specs.Lines.{LineContent, content_of}
use Rattle.mad_measure.specs.declared.spacing.Spacing.{Spacing}
use Rattle.mad_format.specs.CompositeWraps.{IsCompositeWrap}
use Rattle.mad_format.specs.LineRules.{LineRules}
use Rattle.mad_format.specs.declared.line.FmtLine.{FmtLine}
use Rattle.mad_blocks.specs.Layouts.{AreRead}
use Rattle.mad_blocks.specs.PartCursors.{NoneNext, LaidPart}
use Rattle.mad_blocks.specs.Tables.{AreTableLinesBy}
use Rattle.mad_blocks.specs.TextParts.{is_table}
use Rattle.mad_blocks.specs.declared.table_cursor.TableCursor.{TableCursor}

-- what lines of a table become that were read: they stay, or they are laid out in columns
abbrev pub BecomesBy : LineRules → Bool → List ℕ → List Spacing → Bool → List FmtLine → List FmtLine → Type 0
BecomesBy skin true widths columns first read lines = lines ≡ read
BecomesBy skin false widths columns first read lines = AreTableLinesBy IsCompositeWrap skin widths columns first read lines

-- the lines of a table that are left, as they were read
abbrev pub table_left : TableCursor → List LineContent
table_left t = map content_of (into_iter_items t.lines)

-- these lines are what becomes of the lines of a table that are left
abbrev pub TableBecomes : LineRules → TableCursor → List FmtLine → Type 0
TableBecomes skin t lines = (read : List FmtLine) × AreRead skin (table_left t) read × BecomesBy skin t.stays t.widths.items t.columns.items t.first read lines

-- The first of the lines that were left was laid out, and what it becomes is after the lines that were there; or none was left.
abbrev pub LaysTableLine : LineRules → TableCursor → List FmtLine → Bool → TableCursor → List FmtLine → Type 0
LaysTableLine skin old lines true new after =
    (length (table_left old) ≡ suc (length (table_left new)))
    × ((own : List FmtLine) × (after ≡ lines ++ own) × ((more : List FmtLine) → TableBecomes skin new more → TableBecomes skin old (own ++ more)))
LaysTableLine skin old lines false new after = (after ≡ lines) × TableBecomes skin old []

-- a table is the first of the parts that were left: whatever its lines become is its layout
abbrev pub IsFirstTable : LineRules → Option ℕ → List LineContent → TableCursor → List LineContent → Type 0
IsFirstTable skin width before t after = (lines own : List FmtLine) → TableBecomes skin t own → LaidPart skin width before lines after (lines ++ own)

-- so it is; or no line of a table was next
abbrev pub IsNextTable : LineRules → Option ℕ → List LineContent → Option TableCursor → List LineContent → Type 0
IsNextTable skin width before None after = (after ≡ before) × NoneNext is_table before
IsNextTable skin width before (Some t) after = IsFirstTable skin width before t after
