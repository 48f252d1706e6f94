-- The headline follows from what an area shows of a layout.
use Rattle.std.proofs.Common.{◌≡◌, ℕ, zero, suc, ◌+◌, ◌-◌, ◌<◌, ◌≤◌, ◌⊎◌, inl, inr, List, [], ◌∷◌, ◌++◌, map, take, length, replicate, get_or, Option, Some, None, IfSome, Result, Ok, Err, OnOk, refl, ap, sym, ◌∙◌, subst, arith}
use Rattle.std.specs.Prelude.{slice_get, unwrap_or}
use Rattle.std.proofs.Math.ListN.{get_or-map}
use Rattle.std.proofs.lemmas.List.{append-nil, length-map, map-append}
use Rattle.std.specs.Str.{IsUtf8}
use Rattle.mad_characters.specs.Columns.{char_columns}
use Rattle.mad_screen.specs.Glyph.{Glyph, Look}
use Rattle.mad_screen.specs.Grid.{Grid, plain_pen, cell_at, blank, glyphs}
use Rattle.mad_screen.specs.Painting.{attach}
use Rattle.mad_term.specs.Trace.{Trace, flushed}
use Rattle.mad_term.proofs.Traces.{took_flushed}
use Rattle.mad_md.specs.Lines.{LineContent}
use Rattle.mad_measure.specs.Areas.{IsWithinLimits}
use Rattle.mad_measure.specs.declared.area.Area.{Area}
use Rattle.mad_draw.specs.Pieces.{RowPiece, FillsRow, PennedChar, penned_chars}
use Rattle.mad_draw.specs.PennedCells.{penned_attached, penned_cells}
use Rattle.mad_draw.specs.BesideBar.{IsBarShown, bar_char, columns_beside}
use Rattle.mad_draw.specs.declared.scroll_bars.ScrollBar.{ScrollBar}
use Rattle.mad_draw.proofs.BarLemmas.{bar_column, cell_beside, cell_of_bar}
use Rattle.mad_layout.specs.FlaggedTexts.{LineInPart, lines_in_parts, IsAcross, AreAcross}
use Rattle.mad_blocks.specs.Fronts.{IsFrontLayout}
use Rattle.mad_layout.specs.Headline.{cell_chars, ShowsInArea, AreShownAcross, ShowsFirstRows, ShowsHeadline}
use Rattle.mad_layout.specs.InArea.{ShowsText}
use Rattle.mad_format.proofs.ListLemmas.{both_become}
use Rattle.mad_blocks.proofs.WideLayouts.{IsLayout}
use Rattle.mad_rows.specs.Rows.{row_pieces}
use Rattle.mad_layout.specs.Shown.{area_row, AreShownIn}
use Rattle.mad_rows.specs.declared.row_skin.RowSkin.{RowSkin}
use Rattle.mad_format.specs.declared.line.FmtLine.{FmtLine}
use Rattle.mad_layout.proofs.ReadParts.{in_parts_both}
use Rattle.mad_layout.proofs.HeadlineLemmas.{front_keeps}
use Rattle.mad_layout.proofs.ReadSound.{read_sound}
use Rattle.mad_blocks.proofs.WrapKinds.{wrapped_at}
use Rattle.mad_layout.proofs.RowChars.{AreWidths, char_of, line_chars, spaces_chars}
use Rattle.mad_layout.proofs.RowsAcross.{across_exist}
use Rattle.mad_layout.proofs.TextParts.{text_across}
use Rattle.mad_rows.specs.RowStyles.{line_rules}

-- ---- the characters of cells don't depend on pens

abbrev chars_of : Glyph → List ℕ
chars_of g = g.chars

abbrev in_plain_pen : ℕ → PennedChar
in_plain_pen c = record { char = c; pen = plain_pen }

tails : (k : ℕ) (pen other : Look) → map chars_of (replicate k (record { chars = []; pen = pen })) ≡ map chars_of (replicate k (record { chars = []; pen = other }))
tails zero pen other = refl
tails (suc k) pen other = ap (λ l. [] ∷ l) (tails k pen other)

abbrev SameChars : List ℕ × List Glyph → List ℕ × List Glyph → Type 0
SameChars a b = (a.0 ≡ b.0) × (map chars_of a.1 ≡ map chars_of b.1)

attach_same : (n : ℕ) (pen other : Look) (c : ℕ) (a b : List ℕ × List Glyph) → SameChars a b → SameChars (attach (Some n) pen c a) (attach (Some n) other c b)
attach_same zero pen other c a b h = (ap (λ l. c ∷ l) h.0, h.1)
attach_same (suc k) pen other c a b h = (
  refl,
  map-append chars_of (glyphs (c ∷ a.0) k pen) a.1
      ∙ ap (λ l. ((c ∷ l) ∷ map chars_of (replicate k (record { chars = []; pen = pen }))) ++ map chars_of a.1) h.0
      ∙ ap (λ l. ((c ∷ b.0) ∷ l) ++ map chars_of a.1) (tails k pen other)
      ∙ ap (λ l. map chars_of (glyphs (c ∷ b.0) k other) ++ l) h.1
      ∙ sym (map-append chars_of (glyphs (c ∷ b.0) k other) b.1),
)

joined_same : (cs : List PennedChar) → SameChars (penned_attached cs) (penned_attached (map in_plain_pen (map char_of cs)))
joined_same [] = (refl, refl)
joined_same (c ∷ cs) = attach_same (char_columns c.char) c.pen plain_pen c.char (penned_attached cs) (penned_attached (map in_plain_pen (map char_of cs))) (joined_same cs)

cells_same : (cs : List PennedChar) (i : ℕ) → (get_or (penned_cells cs) i blank).chars ≡ cell_chars (map char_of cs) i
cells_same cs i =
    sym (get_or-map chars_of (penned_cells cs) i blank) ∙ ap (λ l. get_or l i (32 ∷ [])) (joined_same cs).1
    ∙ get_or-map chars_of (penned_cells (map in_plain_pen (map char_of cs))) i blank

-- ---- the rows of the area

row_at : (skin : RowSkin) (width : ℕ) (lines : List FmtLine) (j : ℕ) → map char_of (penned_chars (row_pieces skin width (slice_get lines j))) ≡ unwrap_or (slice_get (map (line_chars skin width) lines) j) (replicate width 32)
row_at skin width [] j = spaces_chars skin.paragraph.compound_style width
row_at skin width (l ∷ ls) zero = refl
row_at skin width (l ∷ ls) (suc j) = row_at skin width ls j

same_at : (n : ℕ) (xs ys : List (List ℕ)) → take n xs ≡ take n ys → (j : ℕ) → j < n → slice_get xs j ≡ slice_get ys j
same_at zero xs ys e j inside = absurd (omega (arith, inside))
same_at (suc n) [] [] e j inside = refl
same_at (suc n) [] (y ∷ ys) e j inside = absurd (cc)
same_at (suc n) (x ∷ xs) [] e j inside = absurd (cc)
same_at (suc n) (x ∷ xs) (y ∷ ys) e zero inside = let head : x ≡ y = cc in ap Some head
same_at (suc n) (x ∷ xs) (y ∷ ys) e (suc j) inside = let tail : take n xs ≡ take n ys = cc in same_at n xs ys tail j (omega (arith, inside))

-- the characters of a row's cells are those of its line
cell_of_row : (skin : RowSkin) (width n : ℕ) (lines : List FmtLine) (across : List (List ℕ)) → take n across ≡ take n (map (line_chars skin width) lines) → (i j : ℕ) → j < n
    → (get_or (penned_cells (penned_chars (row_pieces skin width (slice_get lines j)))) i blank).chars ≡ cell_chars (unwrap_or (slice_get across j) (replicate width 32)) i
cell_of_row skin width n lines across same i j in_height =
    cells_same (penned_chars (row_pieces skin width (slice_get lines j))) i
    ∙ ap (λ cs. cell_chars cs i) (row_at skin width lines j)
    ∙ ap (λ (o : Option (List ℕ)). cell_chars (unwrap_or o (replicate width 32)) i) (sym (same_at n across (map (line_chars skin width) lines) same j in_height))

-- the bar takes its column, and the rows beside it fill theirs
pub record IsBesideRows (skin : RowSkin) (lines : List FmtLine) (area : Area) (bar : ScrollBar) : Type 0 where
  pub shown : IsBarShown area.width bar
  pub fill : (j : ℕ) → j < area.height → FillsRow (area.width - 1) (row_pieces skin (area.width - 1) (slice_get lines j))

-- what an area shows of a layout's first lines, it shows of rows that have the same characters
pub shown_in_area : (skin : RowSkin) (bar : Option ScrollBar) (lines : List FmtLine) (area : Area) (across : List (List ℕ)) (g : Grid) → IfSome bar (IsBesideRows skin lines area)
    → take area.height across ≡ take area.height (map (line_chars skin (columns_beside bar area.width)) lines)
    → ((i j : ℕ) → i < area.width → j < area.height → cell_at g (area.left + i) (area.top + j) ≡ get_or (penned_cells (penned_chars (area_row skin bar lines area 0 j))) i blank)
    → ShowsInArea bar across area g
shown_in_area skin None lines area across g beside same cells = record {
  rows = λ i j in_width in_height. ap chars_of (cells i j in_width in_height) ∙ cell_of_row skin area.width area.height lines across same i j in_height;
  last_column = tt;
}
shown_in_area skin (Some bar) lines area across g beside same cells =
    let width : ℕ = area.width - 1 in
    let row : ℕ → List RowPiece = λ j. row_pieces skin width (slice_get lines j) in record {
      rows = λ i j in_width in_height.
          ap chars_of (cells i j (omega (arith, in_width)) in_height ∙ cell_beside (row j) (bar_char bar j) width i (beside.fill j in_height) (bar_column bar area.width j beside.shown) in_width)
          ∙ cell_of_row skin width area.height lines across same i j in_height;
      last_column = λ j in_height.
          cells width j (omega (arith, beside.shown.column)) in_height ∙ cell_of_bar (row j) (bar_char bar j) width (beside.fill j in_height) (bar_column bar area.width j beside.shown);
    }

-- bytes that show a layout's lines in an area show such rows
pub shown_across : (skin : RowSkin) (bar : Option ScrollBar) (lines : List FmtLine) (area : Area) (across : List (List ℕ)) → IfSome bar (IsBesideRows skin lines area)
    → take area.height across ≡ take area.height (map (line_chars skin (columns_beside bar area.width)) lines) → (bytes : List ℕ) → AreShownIn skin bar lines area 0 bytes → AreShownAcross bar across area bytes
shown_across skin bar lines area across beside same bytes h = λ g on_screen.
    let done = h g on_screen in (
      done.0,
      done.1,
      done.2,
      done.3,
      record { width = done.4.width; height = done.4.height; inside = shown_in_area skin bar lines area across done.0 beside same done.4.inside; outside = done.4.outside },
    )

-- what was taken has more
pub took_more_at : (o : Option (List ℕ)) (new : Trace) (P Q : List ℕ → Type 0) → ((text : List ℕ) → P text → Q text)
    → IfSome o (λ before. (text : List ℕ) × (new.bytes ≡ Some (before ++ text)) × P text) → IfSome o (λ before. (text : List ℕ) × (new.bytes ≡ Some (before ++ text)) × Q text)
took_more_at None new P Q more h = tt
took_more_at (Some before) new P Q more h = (h.0, h.1, more h.0 h.2)

-- ---- the headline

-- what follows rows that are enough isn't seen
enough_rows : (n : ℕ) (xs ys : List (List ℕ)) → n ≤ length xs → take n (xs ++ ys) ≡ take n xs
enough_rows zero xs ys h = refl
enough_rows (suc n) [] ys h = absurd (omega (arith, h))
enough_rows (suc n) (x ∷ xs) ys h = ap (λ (l : List (List ℕ)). x ∷ l) (enough_rows n xs ys (omega (arith, h)))

as_long : (n : ℕ) (xs ys : List (List ℕ)) → take n xs ≡ take n ys → n ≤ length ys → n ≤ length xs
as_long zero xs ys e h = omega arith
as_long (suc n) xs [] e h = absurd (omega (arith, h))
as_long (suc n) [] (y ∷ ys) e h = absurd (cc)
as_long (suc n) (x ∷ xs) (y ∷ ys) e h = let tail : take n xs ≡ take n ys = cc in let more : n ≤ length xs = as_long n xs ys tail (omega (arith, h)) in omega (arith, more)

-- The rows of a text's first lines are the first rows of the whole text, if they are enough: the rest has rows.
pub front_is_enough : (skin : RowSkin) (width drawn height : ℕ) (xs ys : List LineInPart) (own lines : List (List ℕ)) → AreAcross skin width drawn xs own → take height own ≡ take height lines → (ys ≡ []) ⊎ (height ≤ length lines)
    → (across : List (List ℕ)) × AreAcross skin width drawn (xs ++ ys) across × (take height across ≡ take height lines)
front_is_enough skin width drawn height xs ys own lines h same (inl none) =
    (own, subst (λ (l : List LineInPart). AreAcross skin width drawn l own) (sym (ap (λ (l : List LineInPart). xs ++ l) none ∙ append-nil xs)) h, same)
front_is_enough skin width drawn height xs ys own lines h same (inr some) =
    let more = across_exist skin width drawn ys in
    (own ++ more.0, both_become (λ (x : LineInPart). IsAcross skin width drawn x x.line) xs ys own more.0 h more.1, enough_rows height own more.0 (as_long height own lines same some) ∙ same)

rest_or_enough : (skin : RowSkin) (width : ℕ) (height : ℕ) (rest : List LineContent) (lines : List FmtLine) → (rest ≡ []) ⊎ (height ≤ length lines) → (lines_in_parts rest ≡ []) ⊎ (height ≤ length (map (line_chars skin width) lines))
rest_or_enough skin width height rest lines (inl none) = inl (ap lines_in_parts none)
rest_or_enough skin width height rest lines (inr some) = inr (omega (arith, some, length-map lines (line_chars skin width)))

headline : (skin : RowSkin) (markdown : List ℕ) (area : Area) (old new : Trace) → IsUtf8 markdown → IsWithinLimits area → 4 ≤ area.width → ShowsText skin markdown area old new → ShowsHeadline skin markdown area old new
headline skin markdown area old new utf8 limits wide h =
    let text : List LineContent = h.laid_out.text in
    let width : ℕ = area.width - 1 in
    let front : IsFrontLayout (line_rules skin) (Some width) area.height text h.lines = h.laid_out.layout in
    let layout : IsLayout (line_rules skin) width front.front h.lines = wrapped_at (line_rules skin) width front.front h.lines (omega (arith, wide)) front.layout in
    let bound : AreWidths width area.width = record { narrower = omega arith; small = omega (arith, limits.columns) } in record {
      lines = text;
      read = h.laid_out.read;
      rows = record {
        shown = λ premises.
            let first = front_keeps skin width area.height text front.front front.rest front.parts (read_sound skin width area.height markdown text utf8 h.laid_out.read premises) in
            let rows = text_across skin width area.width area.height front.front h.lines bound (omega (arith, wide)) first layout in
            let all = front_is_enough skin width area.width area.height (lines_in_parts front.front) (lines_in_parts front.rest) rows.0 (map (line_chars skin area.width) h.lines) rows.1 rows.2
            (rest_or_enough skin area.width area.height front.rest h.lines front.enough) in (
              all.0,
              subst (λ (ls : List LineInPart). AreAcross skin width area.width ls all.0) (sym (in_parts_both text front.front front.rest front.parts)) all.1,
              took_more_at old.bytes new (AreShownIn skin None h.lines area 0) (AreShownAcross None all.0 area) (shown_across skin None h.lines area all.0 tt all.2) (h.shown premises),
            );
      };
    }

-- what an area shows of a text's layout is the headline
pub headline_shown : {T E : Type 0} (r : Result T E) (skin : RowSkin) (markdown : List ℕ) (area : Area) (old new : Trace) → IsUtf8 markdown → IsWithinLimits area
    → OnOk r (4 ≤ area.width → ShowsText skin markdown area old new) → OnOk r (4 ≤ area.width → ShowsHeadline skin markdown area old new)
headline_shown {T} {E} (Ok x) skin markdown area old new utf8 limits h = λ wide. headline skin markdown area old new utf8 limits wide (h wide)
headline_shown {T} {E} (Err e) skin markdown area old new utf8 limits h = tt

first_rows_flushed : (skin : RowSkin) (lines : List LineContent) (area : Area) (old mid new : Trace) → ShowsFirstRows skin lines area old mid → new ≡ flushed mid → ShowsFirstRows skin lines area old new
first_rows_flushed skin lines area old mid new h e = record { shown = λ premises. let rows = h.shown premises in (rows.0, rows.1, took_flushed old mid new (AreShownAcross None rows.0 area) rows.2 e) }

-- a flush takes nothing from it
pub headline_flushed : (skin : RowSkin) (markdown : List ℕ) (area : Area) (old mid new : Trace) → ShowsHeadline skin markdown area old mid → new ≡ flushed mid → ShowsHeadline skin markdown area old new
headline_flushed skin markdown area old mid new h e = record { lines = h.lines; read = h.read; rows = first_rows_flushed skin h.lines area old mid new h.rows e }
