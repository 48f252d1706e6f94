-- A text that was read or laid out is as its types promise, and its premises are all that is asked of it.
use Rattle.std.proofs.Common.{ℕ, zero, suc, false, List, [], ◌∷◌, map, take, Option, sym, subst}
use Rattle.std.specs.List.{AllByRecursion}
use Rattle.std.specs.Str.{IsUtf8}
use Rattle.mad_md.specs.Lines.{LineContent}
use Rattle.mad_md.specs.Reading.{IsRead, unread_text}
use Rattle.mad_md.specs.TypedLines.{IsTypedLine}
use Rattle.mad_md.proofs.TypedLemmas.{read_lines_are_typed}
use Rattle.mad_format.specs.WrappedLines.{Wrap}
use Rattle.mad_format.specs.declared.line.FmtLine.{FmtLine}
use Rattle.mad_blocks.specs.Layouts.{IsLayoutBy}
use Rattle.mad_blocks.specs.TextParts.{LineInPart, lines_in_parts}
use Rattle.mad_blocks.proofs.TypedLayouts.{layout_typed}
use Rattle.mad_rows.specs.RowStyles.{line_rules}
use Rattle.mad_rows.specs.declared.row_skin.RowSkin.{RowSkin}
use Rattle.mad_layout.specs.Premises.{KeepsPremises}
use Rattle.mad_layout.proofs.ReadParts.{lines_are}
use Rattle.mad_layout.proofs.SoundLines.{AreSoundLines, AreTyped, sound_lines}

typed_first : (n : ℕ) (xs : List LineInPart) → AllByRecursion IsTypedLine (map (λ (x : LineInPart). x.line) xs) → AreTyped (take n xs)
typed_first zero xs h = tt
typed_first (suc n) [] h = tt
typed_first (suc n) (x ∷ xs) h = (h.0, typed_first n xs h.1)

-- so are the first lines of a text whose lines are all so
pub typed_reach : (n : ℕ) (text : List LineContent) → AllByRecursion IsTypedLine text → AreTyped (take n (lines_in_parts text))
typed_reach n text h = typed_first n (lines_in_parts text) (subst (AllByRecursion IsTypedLine) (sym (lines_are text)) h)

-- the lines of a text that was read are as types promise
pub read_typed : (markdown : List ℕ) (text : List LineContent) → IsUtf8 markdown → IsRead (unread_text false markdown) text → AllByRecursion IsTypedLine text
read_typed markdown text utf8 read = read_lines_are_typed (unread_text false markdown) text utf8 read

-- the premises are all that is asked of such a text
pub read_sound : (skin : RowSkin) (width n : ℕ) (markdown : List ℕ) (text : List LineContent) → IsUtf8 markdown → IsRead (unread_text false markdown) text → KeepsPremises skin width (take n (lines_in_parts text))
    → AreSoundLines skin width (take n (lines_in_parts text))
read_sound skin width n markdown text utf8 read keeps = sound_lines skin width (take n (lines_in_parts text)) (typed_reach n text (read_typed markdown text utf8 read)) keeps

-- so they are of a text that was laid out, by any kind of wrap
pub laid_sound : {wraps : Wrap} (skin : RowSkin) (tables : ℕ) (columns : Option ℕ) (width n : ℕ) (text : List LineContent) (lines : List FmtLine) → IsLayoutBy wraps (line_rules skin) tables columns text lines
    → KeepsPremises skin width (take n (lines_in_parts text)) → AreSoundLines skin width (take n (lines_in_parts text))
laid_sound {wraps} skin tables columns width n text lines layout keeps =
    sound_lines skin width (take n (lines_in_parts text)) (typed_reach n text (layout_typed (line_rules skin) tables columns text lines layout)) keeps
