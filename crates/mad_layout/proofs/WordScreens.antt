-- The example's text in an area: what a screen shows that reads it.
use Rattle.std.proofs.Common.{◌≡◌, ℕ, zero, suc, replicate, ◌⊎◌, ◌≤◌, List, [], ◌∷◌, ◌++◌, map, inl, inr, chars, get_or, Option, Some, None, refl, ap, sym, ◌∙◌, subst, arith, lit<}
use Rattle.std.specs.Prelude.{IfSome, IsSome, length, true, false, unwrap_or}
use Rattle.std.proofs.lemmas.List.{append-nil, length-replicate}
use Rattle.mad_md.specs.Flagged.{Run, unflagged, flagged, run_at, run_of}
use Rattle.mad_md.specs.Lines.{LineContent, StyledRuns, normal}
use Rattle.mad_md.specs.Parts.{line_spans}
use Rattle.mad_md.specs.Reading.{IsRead, unread_text}
use Rattle.mad_md.specs.declared.composite.CompositeStyle.TheVariants.{Paragraph as ParagraphText}
use Rattle.mad_md.proofs.ParagraphLemmas.{AreInlineLines}
use Rattle.mad_md.proofs.RunBorders.{unmarked_runs}
use Rattle.mad_term.specs.Trace.{Trace}
use Rattle.mad_screen.specs.Glyph.{Glyph, Look}
use Rattle.mad_screen.specs.Grid.{Grid, blank, cell_at, empty_grid, painted, plain_pen}
use Rattle.mad_screen.specs.Painting.{attach, cells_of, look_of_style, IsShown, HasColumns}
use Rattle.mad_screen.specs.Terminal.{after_bytes}
use Rattle.mad_style.specs.declared.kinds.CompositeKind.{CompositeKind}
use Rattle.mad_style.specs.declared.kinds.CompositeKind.TheVariants.{Paragraph}
use Rattle.mad_style.specs.LineStyles.{margins_at}
use Rattle.mad_measure.specs.TextColumns.{width_of}
use Rattle.mad_measure.specs.declared.area.Area.{Area}
use Rattle.mad_draw.specs.DrawnRows.{IsOnScreen, rows_bytes, rows_from}
use Rattle.mad_draw.specs.Pieces.{RowPiece, PennedChar, AreKnown, penned_chars, spaces}
use Rattle.mad_draw.proofs.CellLemmas.{cells_of_pieces}
use Rattle.mad_draw.proofs.PieceLemmas.{ascii_spaces, shown_spaces, spaces_columns, spaces_known}
use Rattle.mad_draw.proofs.ShownLemmas.{area_shown}
use Rattle.mad_screen.proofs.PaintingLemmas.{painted_is_grid, text_leads}
use Rattle.mad_screen.proofs.Paints.{read_leads, spaces_cells}
use Rattle.mad_style.specs.CompoundStyles.{unstyled}
use Rattle.mad_layout.proofs.SourceLemmas.{source_keeps, source_read}
use Rattle.std.specs.List.{AllByRecursion}
use Rattle.std.specs.Str.{IsAscii}
use Rattle.std.proofs.lemmas.Str.{chars-IsAscii, IsUtf8-from_ascii}
use Rattle.std.proofs.lemmas.Str.Ascii.{IsAscii-cons, IsAscii-nil}
use Rattle.unicode_width.specs.Width.{char_width}
use Rattle.mad_characters.specs.Columns.{char_columns}
use Rattle.mad_draw.specs.PennedCells.{penned_cells, penned_attached}
use Rattle.mad_format.specs.Indents.{indent}
use Rattle.mad_format.specs.CompositeWraps.{IsCompositeWrap}
use Rattle.mad_blocks.specs.Fronts.{IsFrontLayout}
use Rattle.mad_blocks.specs.Layouts.{AreRead}
use Rattle.mad_blocks.proofs.WideLayouts.{IsLayout}
use Rattle.mad_blocks.specs.LayoutParts.{Part, single, is_code_kind, with_composite, parts_of, ArePartsAt}
use Rattle.mad_layout.specs.Premises.{runs_text}
use Rattle.mad_rows.specs.Rows.{run_piece, line_pieces}
use Rattle.mad_layout.specs.Shown.{text_row, AreShownIn}
use Rattle.mad_layout.specs.Skins.{no_style_skin}
use Rattle.mad_layout.specs.declared.skin.MadSkin.{MadSkin}
use Rattle.mad_layout.specs.RowSkins.{row_skin}
use Rattle.mad_layout.specs.Sources.{LinesTakeColumns, ShowsSource}
use Rattle.mad_rows.specs.RowStyles.{line_rules, line_style}
use Rattle.mad_layout.specs.Words.{corner, words, word_area, SpacesAreNoText, word_skin}
use Rattle.mad_format.specs.WrappedLines.{IsLaidOutBy, line_with}
use Rattle.mad_format.specs.Wraps.{text_of}
use Rattle.mad_format.specs.declared.composite.FmtComposite.{FmtComposite}
use Rattle.mad_format.specs.declared.line.FmtLine.{FmtLine}
use Rattle.mad_format.specs.declared.line.FmtLine.TheVariants.{Normal}
use Rattle.mad_layout.proofs.DrawnParts.{runs_are}
use Rattle.mad_blocks.proofs.WrapKinds.{wrapped_at}
use Rattle.mad_rows.proofs.PieceLemmas.{pieces_of_runs}
use Rattle.mad_layout.proofs.WordLemmas.{one_a, one_b, one_c, one_space, spelled, one_part, words_take_columns}

-- ---- how it is read

abbrev word_run : Run
word_run = record { flags = unflagged; text = words }

abbrev word_line : StyledRuns
word_line = record { style = ParagraphText; runs = word_run ∷ [] }

one_line : (xs : List LineContent) → AreInlineLines words (line_spans (words ∷ [])) xs → xs ≡ normal word_line ∷ []
one_line [] h = absurd h
one_line (l ∷ []) h =
    ap (λ (x : LineContent). x ∷ []) (h.0.says ∙ ap (λ rs. normal (record { style = ParagraphText; runs = map (run_at words) rs })) (unmarked_runs words h.0.reading refl h.0.reads))
one_line (l ∷ m ∷ ms) h = absurd h.1

words_read : (text : List LineContent) → IsRead (unread_text false words) text → text ≡ normal word_line ∷ []
words_read text read =
    let are : AreInlineLines words (line_spans read.reads.parts) text = source_read words text words_take_columns read in
    one_line text (subst (λ (ps : List (List ℕ)). AreInlineLines words (line_spans ps) text) (one_part read.reads.parts read.reads.cut) are)

-- ---- how it is laid out in eleven columns

word_columns : width_of (runs_text (word_run ∷ [])) ≡ 9
word_columns = ap (λ (cs : List ℕ). width_of (flagged unflagged cs ++ [])) spelled ∙ omega (arith, one_a, one_b, one_c, one_space)

-- it is one line as it was read, without margins
record OneLine (lines : List FmtLine) : Type 0 where
  l : FmtComposite
  is : lines ≡ line_with (0, 0) l ∷ []
  kind : l.kind ≡ Paragraph
  runs : map run_of l.compounds.items ≡ word_run ∷ []
  columns : l.visible_length ≡ 9
  spacing : l.spacing ≡ None

laid : (read lines : List FmtLine) → AreRead (line_rules word_skin) (normal word_line ∷ []) read → ArePartsAt IsCompositeWrap (line_rules word_skin) 11 (Some 11) (parts_of read) lines → OneLine lines
laid [] lines reads parts = absurd reads
laid (l ∷ m ∷ ms) lines reads parts = absurd reads.1
laid (Normal l ∷ []) lines reads parts =
    let kind : l.kind ≡ Paragraph = reads.0.kind in
    let part : ArePartsAt IsCompositeWrap (line_rules word_skin) 11 (Some 11) (single (Normal l) ∷ []) lines =
    subst (λ (ps : List Part). ArePartsAt IsCompositeWrap (line_rules word_skin) 11 (Some 11) ps lines) (ap (λ (k : CompositeKind). with_composite (is_code_kind k) l []) kind) parts in
    let line = part.3 in
    let own : List FmtLine = line.0 in
    let here : IsLaidOutBy IsCompositeWrap (line_rules word_skin) 11 l own = line.3 in
    let no_indent : indent word_skin.list_items_indentation_mode l.kind ≡ 0 = ap (indent word_skin.list_items_indentation_mode) kind in
    let wide : width_of (text_of l) ≡ 9 = ap width_of (sym (runs_are l.compounds.items) ∙ ap runs_text reads.0.text) ∙ word_columns in
    let columns : l.visible_length ≡ 9 = omega (arith, reads.0.measured, no_indent, wide) in
    let margins : margins_at (line_style word_skin l.kind) (Some 11) ≡ (0, 0) = ap (λ k. margins_at (line_style word_skin k) (Some 11)) kind in
    let left : (margins_at (line_style word_skin l.kind) (Some 11)).0 ≡ 0 = ap (λ (m : ℕ × ℕ). m.0) margins in
    let right : (margins_at (line_style word_skin l.kind) (Some 11)).1 ≡ 0 = ap (λ (m : ℕ × ℕ). m.1) margins in
    let own_is : own ≡ line_with (0, 0) l ∷ [] = elim here [
      | inl kept ↦ kept.1 ∙ ap (λ (m : ℕ × ℕ). line_with m l ∷ []) margins
      | inr broken ↦ absurd (omega (arith, broken.0, columns, left, right))
    ] in
    record {
      l = l;
      is = part.2 ∙ ap (λ (o : List FmtLine). part.0 ++ o) part.4 ∙ append-nil part.0 ∙ line.2 ∙ ap (λ (o : List FmtLine). own ++ o) line.4 ∙ ap (λ (o : List FmtLine). o ++ []) own_is;
      kind = kind;
      runs = reads.0.text;
      columns = columns;
      spacing = reads.0.spacing;
    }
laid _ lines reads parts = absurd reads.0

-- ---- the first cell of its row

first_cell : (tail : List RowPiece) → get_or (penned_cells (penned_chars (run_piece word_skin (line_style word_skin Paragraph) word_run ∷ tail))) 0 blank ≡ record { chars = 97 ∷ []; pen = plain_pen }
first_cell tail =
    let pen : Look = look_of_style (run_piece word_skin (line_style word_skin Paragraph) word_run).style in
    let rest : List PennedChar = map (λ c. record { char = c; pen = pen }) (97 ∷ 32 ∷ 98 ∷ 98 ∷ 32 ∷ 99 ∷ 99 ∷ []) ++ penned_chars tail in
    ap (λ (cs : List ℕ). get_or (penned_cells (map (λ c. record { char = c; pen = pen }) cs ++ penned_chars tail)) 0 blank) spelled
    ∙ ap (λ (n : ℕ). get_or (attach (Some n) pen 97 (attach (Some n) pen 97 (penned_attached rest))).1 0 blank) one_a

abbrev laid_line : FmtComposite → FmtComposite
laid_line l = record { kind = Paragraph; compounds = l.compounds; visible_length = 9; spacing = None; margins = Some (0, 0) }

same_line : (l : FmtComposite) → l.kind ≡ Paragraph → l.visible_length ≡ 9 → l.spacing ≡ None → line_with (0, 0) l ≡ Normal (laid_line l)
same_line l kind columns spacing =
    ap (λ k. Normal (record { kind = k; compounds = l.compounds; visible_length = l.visible_length; spacing = l.spacing; margins = Some (0, 0) })) kind
    ∙ ap (λ n. Normal (record { kind = Paragraph; compounds = l.compounds; visible_length = n; spacing = l.spacing; margins = Some (0, 0) })) columns
    ∙ ap (λ s. Normal (record { kind = Paragraph; compounds = l.compounds; visible_length = 9; spacing = s; margins = Some (0, 0) })) spacing

first_of_line : (l : FmtComposite) → map run_of l.compounds.items ≡ word_run ∷ [] → get_or (penned_cells (penned_chars (line_pieces word_skin (Some 12) true (Normal (laid_line l))))) 0 blank ≡ record { chars = 97 ∷ []; pen = plain_pen }
first_of_line l runs =
    let style = line_style word_skin Paragraph in
    let tail : List RowPiece = record { style = word_skin.paragraph.compound_style.object_style; text = 32 ∷ 32 ∷ 32 ∷ [] } ∷ [] in
    ap (λ (ps : List RowPiece). get_or (penned_cells (penned_chars (ps ++ tail))) 0 blank) (pieces_of_runs word_skin style l.compounds.items ∙ ap (map (run_piece word_skin style)) runs)
    ∙ first_cell tail

words_first : (lines : List FmtLine) → OneLine lines → get_or (penned_cells (penned_chars (text_row word_skin 12 lines 0 0))) 0 blank ≡ record { chars = 97 ∷ []; pen = plain_pen }
words_first lines one =
    ap (λ (ls : List FmtLine). get_or (penned_cells (penned_chars (text_row word_skin 12 ls 0 0))) 0 blank) (one.is ∙ ap (λ (line : FmtLine). line ∷ []) (same_line one.l one.kind one.columns one.spacing))
    ∙ first_of_line one.l one.runs

-- ---- the screen

on_screen : IsOnScreen word_area (empty_grid 16 4)
on_screen = record {
  grid = record { full = length-replicate 64 blank; column = omega arith; row = omega arith };
  pen = refl;
  some = omega arith;
  columns = omega arith;
  rows = omega arith;
}

-- what it shows in a cell of the area, and in one outside it
pub record ShowsWords (start g : Grid) : Type 0 where
  pub inside : cell_at g 2 1 ≡ record { chars = 97 ∷ []; pen = plain_pen }
  pub outside : cell_at g 0 0 ≡ cell_at start 0 0

nothing_laid : (read lines : List FmtLine) → AreRead (line_rules word_skin) [] read → ArePartsAt IsCompositeWrap (line_rules word_skin) 11 (Some 11) (parts_of read) lines → 2 ≤ length lines → ⊥
nothing_laid [] lines reads laid some = omega (arith, some, ap length laid)
nothing_laid (l ∷ ls) lines reads laid some = reads

-- a line is all of itself, or none: and none of it has two rows
whole_front : (front rest : List LineContent) (lines : List FmtLine) → front ++ rest ≡ normal word_line ∷ [] → IsLayout (line_rules word_skin) 11 front lines → (rest ≡ []) ⊎ (2 ≤ length lines) → front ≡ normal word_line ∷ []
whole_front [] rest lines joins layout (inl none) = let e : [] ≡ normal word_line ∷ [] = sym none ∙ joins in absurd (cc)
whole_front [] rest lines joins layout (inr some) = absurd (nothing_laid layout.read lines layout.reads layout.laid some)
whole_front (c ∷ []) rest lines joins layout enough = let e : c ≡ normal word_line = cc in ap (λ (x : LineContent). x ∷ []) e
whole_front (c ∷ d ∷ cs) rest lines joins layout enough = absurd (cc)

shown_as_one : (lines : List FmtLine) (old new : Trace) (h : ShowsSource word_skin words word_area old new) → OneLine h.lines
shown_as_one lines old new h =
    let front : IsFrontLayout (line_rules word_skin) (Some 11) 2 h.laid_out.text h.lines = h.laid_out.layout in
    let layout : IsLayout (line_rules word_skin) 11 front.front h.lines = wrapped_at (line_rules word_skin) 11 front.front h.lines (omega arith) front.layout in
    let all : front.front ≡ normal word_line ∷ [] = whole_front front.front front.rest h.lines (sym front.joins ∙ words_read h.laid_out.text h.laid_out.read) layout front.enough in
    let of_words : IsLayout (line_rules word_skin) 11 (normal word_line ∷ []) h.lines = subst (λ (xs : List LineContent). IsLayout (line_rules word_skin) 11 xs h.lines) all layout in
    laid of_words.read h.lines of_words.reads of_words.laid

one_value : {A : Type 0} (o : Option A) (a b : A) → o ≡ Some a → o ≡ Some b → a ≡ b
one_value {A} o a b e f = let both : Some a ≡ Some b = sym e ∙ f in cc

-- a terminal that reads what was written shows the text's first letter in the area, and nothing new outside
pub words_shown : (old new : Trace) (taken : List ℕ) (start g : Grid) → old.bytes ≡ Some [] → new.bytes ≡ Some taken → ShowsSource word_skin words word_area old new
    → IsOnScreen word_area start → after_bytes start taken ≡ Some g → ShowsWords start g
words_shown old new taken start g none all h begun read =
    let one : OneLine h.lines = shown_as_one h.lines old new h in
    let took : (text : List ℕ) × (new.bytes ≡ Some ([] ++ text)) × AreShownIn word_skin None h.lines word_area 0 text =
    subst (λ (o : Option (List ℕ)). IfSome o (λ before. (text : List ℕ) × (new.bytes ≡ Some (before ++ text)) × AreShownIn word_skin None h.lines word_area 0 text)) none h.shown in
    let same : took.0 ≡ taken = one_value new.bytes took.0 taken took.1 all in
    let shown = took.2 start begun in
    let is : shown.0 ≡ g = one_value (after_bytes start took.0) shown.0 g shown.1 (ap (after_bytes start) same ∙ read) in
    subst (ShowsWords start) is (record {
      inside = shown.4.inside 0 0 (omega arith) (omega arith) ∙ words_first h.lines one;
      outside = shown.4.outside 0 0 (omega (arith, begun.columns)) (inl (omega arith));
    })

-- the same in a skin and an area that are these
words_shown_by : (old new : Trace) (taken : List ℕ) (start g : Grid) (skin : MadSkin) (area : Area) → skin ≡ no_style_skin → area ≡ word_area → old.bytes ≡ Some [] → new.bytes ≡ Some taken
    → (4 ≤ area.width → LinesTakeColumns words → ShowsSource (row_skin skin) words area old new) → IsOnScreen word_area start → after_bytes start taken ≡ Some g → ShowsWords start g
words_shown_by old new taken start g skin area skin_is area_is none all h begun read =
    let by_skin : 4 ≤ area.width → LinesTakeColumns words → ShowsSource word_skin words area old new =
    subst (λ (s : MadSkin). 4 ≤ area.width → LinesTakeColumns words → ShowsSource (row_skin s) words area old new) skin_is h in
    let here : 4 ≤ 12 → LinesTakeColumns words → ShowsSource word_skin words word_area old new =
    subst (λ (a : Area). 4 ≤ a.width → LinesTakeColumns words → ShowsSource word_skin words a old new) area_is by_skin in
    words_shown old new taken start g none all (here (omega arith) words_take_columns) begun read

-- ---- the screen with a letter in its corner

abbrev corner_grid : Grid
corner_grid = painted (empty_grid 16 4) (corner ∷ [])

width_z : char_width false 122 ≡ Some 1
unfolding char_width
width_z = refl

columns_z : char_columns 122 ≡ 1
unfolding char_columns
columns_z = ap (λ (o : Option ℕ). unwrap_or o 0) width_z

letter : IsAscii (122 ∷ [])
letter = IsAscii-cons 122 [] (lit< tt) IsAscii-nil

corner_cells : cells_of plain_pen (chars (122 ∷ [])) ≡ corner ∷ []
corner_cells =
    ap (cells_of plain_pen) (chars-IsAscii (122 ∷ []) letter)
    ∙ ap (λ (w : Option ℕ). (attach w plain_pen 122 ([], [])).1) width_z

corner_shown : IsShown (chars (122 ∷ []))
corner_shown =
    subst IsShown (sym (chars-IsAscii (122 ∷ []) letter)) (record { printed = (subst IsSome (sym width_z) refl, tt); whole = omega (arith, columns_z) })

corner_read : after_bytes (empty_grid 16 4) (122 ∷ []) ≡ Some corner_grid
corner_read =
    let free : HasColumns (empty_grid 16 4) (length (cells_of plain_pen (chars (122 ∷ [])))) =
    record { grid = on_screen.grid; row = omega arith; columns = omega (arith, ap length corner_cells) } in
    read_leads (empty_grid 16 4) (painted (empty_grid 16 4) (cells_of plain_pen (chars (122 ∷ [])))) (122 ∷ []) (IsUtf8-from_ascii (122 ∷ []) letter)
    (text_leads (chars (122 ∷ [])) (empty_grid 16 4) corner_shown free)
    ∙ ap (λ cells. Some (painted (empty_grid 16 4) cells)) corner_cells

corner_on_screen : IsOnScreen word_area corner_grid
unfolding painted
corner_on_screen = record {
  grid = painted_is_grid (empty_grid 16 4) (corner ∷ []) on_screen.grid (omega arith);
  pen = refl;
  some = omega arith;
  columns = omega arith;
  rows = omega arith;
}

corner_is_there : cell_at corner_grid 0 0 ≡ corner
unfolding painted
corner_is_there = refl

-- the example: the corner is as it was
pub record ShowsWordsAndCorner (g : Grid) : Type 0 where
  pub inside : cell_at g 2 1 ≡ record { chars = 97 ∷ []; pen = plain_pen }
  pub outside : cell_at g 0 0 ≡ corner

-- the letter in the corner stays, and the text's first letter is shown in the area
pub corner_stays : (old new : Trace) (taken : List ℕ) (empty start g : Grid) (skin : MadSkin) (area : Area) → skin ≡ no_style_skin → area ≡ word_area → old.bytes ≡ Some [] → new.bytes ≡ Some taken
    → (4 ≤ area.width → LinesTakeColumns words → ShowsSource (row_skin skin) words area old new) → empty ≡ empty_grid 16 4 → after_bytes empty (122 ∷ []) ≡ Some start → after_bytes start taken ≡ Some g → ShowsWordsAndCorner g
corner_stays old new taken empty start g skin area skin_is area_is none all h begun cornered read =
    let is : corner_grid ≡ start = ap (λ (o : Option Grid). unwrap_or o start) (sym corner_read ∙ ap (λ e. after_bytes e (122 ∷ [])) (sym begun) ∙ cornered) in
    let shows = words_shown_by old new taken start g skin area skin_is area_is none all h (subst (IsOnScreen word_area) is corner_on_screen) read in
    record { inside = shows.inside; outside = shows.outside ∙ ap (λ e. cell_at e 0 0) (sym is) ∙ corner_is_there }

-- ---- spaces

blank_cell : get_or (penned_cells (penned_chars (spaces unstyled 12))) 0 blank ≡ blank
blank_cell =
    let ascii : chars (replicate 12 32) ≡ replicate 12 32 = chars-IsAscii (replicate 12 32) (ascii_spaces 12) in
    ap (λ (gs : List Glyph). get_or gs 0 blank)
    (cells_of_pieces (spaces unstyled 12) (shown_spaces unstyled 12) ∙ ap (λ (cs : List ℕ). cells_of (look_of_style unstyled.object_style) cs ++ []) ascii
    ∙ ap (λ (gs : List Glyph). gs ++ []) (spaces_cells (look_of_style unstyled.object_style) 12))

known_rows : (row : ℕ → List RowPiece) (y count : ℕ) → ((k : ℕ) → AreKnown (row k)) → AllByRecursion AreKnown (rows_from row y count)
known_rows row y zero h = tt
known_rows row y (suc count) h = (h y, known_rows row (suc y) count h)

no_letter : blank ≡ record { chars = 97 ∷ []; pen = plain_pen } → ⊥
no_letter e = let first : 32 ≡ 97 = ap (λ (g : Glyph). get_or g.chars 0 0) e in absurd (omega (arith, first))

-- who fills the area with spaces has not shown the text
pub spaces_are_no_text : SpacesAreNoText
spaces_are_no_text old new none all h =
    let row : ℕ → List RowPiece = λ y. spaces unstyled 12 in
    let known : AreKnown (spaces unstyled 12) = spaces_known unstyled 12 (record { foreground = tt; background = tt; underline = tt }) in
    let drawn = area_shown row word_area (omega arith) (omega arith) (known_rows row 0 2 (λ k. known)) (λ y inside. record { shown = shown_spaces unstyled 12; columns = spaces_columns unstyled 12 })
    (empty_grid 16 4) on_screen in
    let source : ShowsSource word_skin words word_area old new = record {
      lines = h.lines;
      laid_out = h.laid_out;
      shown = h.shown (source_keeps word_skin 11 2 words h.laid_out.text (omega arith) words_take_columns h.laid_out.read);
    } in
    let shows : ShowsWords (empty_grid 16 4) drawn.0 = words_shown old new (rows_bytes row word_area) (empty_grid 16 4) drawn.0 none all source on_screen drawn.1 in
    let letter : blank ≡ record { chars = 97 ∷ []; pen = plain_pen } = sym (drawn.4.inside 0 0 (omega arith) (omega arith) ∙ blank_cell) ∙ shows.inside in
    no_letter letter
