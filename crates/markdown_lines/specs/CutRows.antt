-- Rows straight from the runs of a text.
use Rattle.std.specs.Prelude.{◌≡◌, ℕ, ◌-◌, ◌+◌, ◌<◌, Bool, true, false, ◌||◌, ◌==◌, List, [], ◌∷◌, ◌++◌, map, length, chars, get_or, is_some, slice_range, if◌then◌else◌}
use Rattle.std.specs.List.{list_any}
use Rattle.std.specs.Str.{IsUtf8, IsCharBoundary}
use Rattle.mad_md.specs.Flagged.{Run}
use Rattle.mad_md.specs.Lines.{LineContent, normal}
use Rattle.mad_md.specs.declared.composite.CompositeStyle.TheVariants.{Paragraph}
use Rattle.markdown_inlines.specs.Looks.{is_same_look}
use Rattle.markdown_inlines.specs.Styled.{Shown, shown_with}
use Rattle.markdown_inlines.specs.declared.looks.Look.{Look}
use Rattle.markdown_inlines.specs.declared.styled.TextRun.{TextRun}
use Rattle.markdown_lines.specs.Glyphs.{is_same_run, runs_of, run_with}
use Rattle.markdown_lines.specs.LinkNumbers.{one_number, numbers_of}
use Rattle.markdown_lines.specs.declared.glyphs.Glyph.{Glyph}

-- a space or a break
abbrev pub is_blank : ℕ → Bool
is_blank byte = (byte == 32) || (byte == 10)

-- the bytes beside a place are no blanks
abbrev pub IsAlone : List ℕ → ℕ → Type 0
IsAlone text at = (is_blank (get_or text (at - 1) 0) ≡ false) × (is_blank (get_or text (at + 1) 0) ≡ false)

-- The first and the last byte are no blanks. Neither are those beside a break.
pub record IsNeat (text : List ℕ) : Type 0 where
  pub some : 0 < length text
  pub first : is_blank (get_or text 0 0) ≡ false
  pub last : is_blank (get_or text (length text - 1) 0) ≡ false
  pub beside : (k : ℕ) → (get_or text k 0 == 10) ≡ true → IsAlone text k

-- ---- characters in rows

-- a character that looks like this one
abbrev pub like : Glyph → ℕ → Glyph
like g c = record { c = c; flags = g.flags; link = g.link; picture = g.picture }

-- rows, the first of which has one more character in front
abbrev pub in_front : Glyph → List (List Glyph) → List (List Glyph)
in_front g [] = []
in_front g (row ∷ rows) = (g ∷ row) ∷ rows

-- the rows that breaks cut characters into
unfoldable pub cut_rows : List Glyph → List (List Glyph)
cut_rows [] = [] ∷ []
cut_rows (g ∷ gs) = if g.c == 10 then [] ∷ cut_rows gs else in_front g (cut_rows gs)

-- a paragraph's line of these runs
abbrev pub runs_row : List Run → LineContent
runs_row runs = normal (record { style = Paragraph; runs = runs })

-- a paragraph's line of these characters
abbrev pub whole_row : List Glyph → LineContent
whole_row row = runs_row (runs_of row)

-- the lines of rows, the first of which begins with some runs
abbrev pub begun_rows : List Run → List (List Glyph) → List LineContent
begun_rows begun [] = []
begun_rows begun (row ∷ rows) = runs_row (begun ++ runs_of row) ∷ map whole_row rows

-- the numbers of the links of rows
unfoldable pub cut_numbers : List (List Glyph) → List ℕ
cut_numbers [] = []
cut_numbers (row ∷ rows) = numbers_of row ++ cut_numbers rows

-- the first of some characters is of another run, or there is none
abbrev pub BeginsApart : Glyph → List Glyph → Type 0
BeginsApart g [] = Unit {0}
BeginsApart g (h ∷ hs) = is_same_run g h ≡ false

-- the run of a text that looks like a character; an empty text has none
abbrev pub piece_runs : Glyph → List ℕ → List Run
piece_runs g text = if length text == 0 then [] else run_with g.flags text ∷ []

-- the number of its link
abbrev pub piece_numbers : Glyph → List ℕ → List ℕ
piece_numbers g text = if length text == 0 then [] else one_number g.link

-- ---- runs in order

-- a picture says the characters of a run
abbrev pub is_pictured : TextRun → Bool
is_pictured run = is_some run.look.picture

-- no picture says characters of these runs
abbrev pub AreUnpictured : List TextRun → Type 0
AreUnpictured runs = list_any is_pictured runs ≡ false

-- where the text before some runs ends
abbrev pub end_before : List TextRun → List ℕ → ℕ
end_before [] text = length text
end_before (r ∷ rs) text = r.start

-- what runs of a text spell, the first run first
unfoldable pub ahead : List TextRun → List ℕ → List Shown
ahead [] text = []
ahead (r ∷ rs) text = map (shown_with r.look) (chars (slice_range text r.start (end_before rs text))) ++ ahead rs text

-- the first of some runs looks other, or there is none
abbrev pub LooksApart : Look → List TextRun → Type 0
LooksApart look [] = Unit {0}
LooksApart look (r ∷ rs) = is_same_look look r.look ≡ false

-- each of some runs, the first run first, is a text of its own, has at least a character, and looks other than the run behind it
abbrev pub AreAhead : List TextRun → List ℕ → Type 0
AreAhead [] text = Unit {0}
AreAhead (r ∷ rs) text = (r.start < end_before rs text) × IsCharBoundary text r.start × IsUtf8 (slice_range text r.start (end_before rs text)) × LooksApart r.look rs × AreAhead rs text
