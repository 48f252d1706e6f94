-- The law of what is drawn again: it is what the row shows.
use Rattle.std.specs.Prelude.{◌≡◌, ℕ, Bool, List, map}
use Rattle.std.specs.List.{AllByRecursion}
use Rattle.std.specs.Str.{IsUtf8}
use Rattle.mad_md.specs.Flagged.{Flags}
use Rattle.mad_term.specs.declared.styles.ContentStyle.{ContentStyle}
use Rattle.mad_screen.specs.Painting.{look_of_style}
use Rattle.mad_style.specs.StyledChars.{char_alone, char_style}
use Rattle.mad_style.specs.declared.kinds.CompositeKind.{CompositeKind}
use Rattle.mad_draw.specs.Pieces.{PennedChar, penned_chars}
use Rattle.mad_format.specs.declared.composite.FmtComposite.{FmtComposite}
use Rattle.mad_rows.specs.RowStyles.{line_style}
use Rattle.mad_rows.specs.declared.row_skin.RowSkin.{RowSkin}
use Rattle.mad_mark_runs.specs.declared.mark_runs.MarkRun.{MarkRun}
use Rattle.mad_marked_rows.specs.MarkedRows.{marked_compounds}
use Rattle.mad_marked_rows.specs.Seen.{seen_text}
use Rattle.mad_marked_rows.specs.declared.seen.SeenChar.{SeenChar}

-- a character with the pen of its style
abbrev pub penned : SeenChar → PennedChar
penned s = record { char = char_alone s.char; pen = look_of_style (char_style s.char).object_style }

-- what is seen of a composite is what its row shows of its compounds with their marks, character by character
abbrev pub SeenAreShown : Type 0
SeenAreShown =
    (paint : ℕ → ContentStyle → ContentStyle) (has : CompositeKind → Flags → Bool) (runs : List MarkRun) (skin : RowSkin) (n : ℕ) (l : FmtComposite) → AllByRecursion (λ k. IsUtf8 k.src.now) l.compounds.items
    → map penned (seen_text paint has runs skin n l) ≡ penned_chars (marked_compounds paint (has l.kind) runs skin (line_style skin l.kind) n l.compounds.items)
