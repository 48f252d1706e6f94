-- Rows of a page that fill a width fit a terminal that is as wide, as they are written.
use Rattle.std.proofs.Common.{◌≡◌, ℕ, zero, suc, ◌+◌, ◌-◌, ◌≤◌, Bool, true, false, List, [], ◌∷◌, ◌++◌, Option, Some, None, refl, sym, ap, subst, ◌∙◌, arith, append_assoc, append-nil, if◌then◌else◌}
use Rattle.std.specs.List.{AllByRecursion}
use Rattle.mad_term.specs.Styles.{IsStyle}
use Rattle.mad_style.specs.declared.compound_styles.CompoundStyle.{CompoundStyle}
use Rattle.mad_style.specs.declared.line_styles.LineStyle.{LineStyle}
use Rattle.mad_style.specs.declared.styled_chars.StyledChar.{StyledChar}
use Rattle.mad_style.specs.CompoundStyles.{overwritten}
use Rattle.mad_style.specs.StyledChars.{char_style}
use Rattle.mad_draw.specs.Pieces.{AreKnown, AreShownPieces, FillsRow, IsShownPiece, RowPiece, pieces_bytes, pieces_columns, spaces}
use Rattle.mad_draw.proofs.PieceLemmas.{columns-both}
use Rattle.mad_format.specs.declared.line.FmtLine.{FmtLine}
use Rattle.mad_format.specs.declared.line.FmtLine.TheVariants.{HorizontalRule, Normal, TableRow, TableRule}
use Rattle.mad_live.specs.LiveRows.{AreRows, AreWhole, IsRow, rows_in}
use Rattle.mad_live.specs.PaintedRows.{IsOneRow}
use Rattle.mad_live.proofs.RowLemmas.{all_first, all_then, all_both, one_row}
use Rattle.mad_live.proofs.StepLemmas.{row_nothing}
use Rattle.mad_mark_runs.specs.declared.mark_runs.MarkRun.{MarkRun}
use Rattle.mad_marked_rows.specs.MarkedRows.{marked_compounds}
use Rattle.mad_marked_rows.specs.Paints.{paint_by}
use Rattle.mad_marks.specs.LineMarks.{has_mark}
use Rattle.mad_page_rows.specs.Faces.{alert_titled, backs, behind_pieces, below_char, bold_behind, columns_behind, emboldened, faces, has_ascii_boxes, in_box, level_above, line_skin, page_row_bytes, page_row_pieces, ruled, title_style, titled, toned_pieces}
use Rattle.mad_page_rows.specs.PageFits.{AllFill}
use Rattle.mad_page_rows.proofs.KnownFaces.{row_known}
use Rattle.mad_page_rows.proofs.TonedLemmas.{behind_known}
use Rattle.mad_pages.specs.Fronts.{FrontContent, front_of}
use Rattle.mad_pages.specs.PageRows.{RowContent}
use Rattle.mad_rows.specs.Rows.{inner_blanks, margins_of, outer_blanks, prefix_pieces}
use Rattle.mad_rows.specs.RowStyles.{AreKnownSigns, AreKnownStyles, AreKnownTitles, IsKnownLine, line_style, tone_styles}
use Rattle.mad_rows.specs.declared.page_styles.PageStyles.{PageStyles}
use Rattle.mad_rows.specs.declared.page_styles.TitleStyles.{TitleStyles}
use Rattle.mad_rows.specs.declared.row_skin.RowSkin.{RowSkin}
use Rattle.mad_rows.proofs.KnownLemmas as lines
use Rattle.mad_rows.proofs.KnownLemmas.{overwritten_known}
use Rattle.mad_sections.specs.Gutters.{columns_of}
use Rattle.mad_sections.specs.declared.gutters.Alert.{Alert}
use Rattle.mad_sections.specs.declared.gutters.Alert.TheVariants.{Caution, Important, Note, Tip, Warning}
use Rattle.mad_stream.proofs.FittingLemmas.{BeginsWith, begins_fifth, line_begins, pieces_row}
use Rattle.markdown_layout.specs.RowEnds.{without_end}
use Rattle.markdown_layout.specs.WrittenPages.{rows_bytes}
use Rattle.markdown_layout.proofs.EndLemmas.{end_off}
use Rattle.markdown_live_laws.proofs.PieceLemmas.{FitPieces, pieces_end}

-- ---- a row that isn't filled up

toned_begins : (runs : List MarkRun) (tones : List CompoundStyle) (n : ℕ) (skin : RowSkin) (outer : Option ℕ) (line : FmtLine) → BeginsWith (toned_pieces runs tones n skin outer true line) (toned_pieces runs tones n skin outer false line)
toned_begins [] tones n skin outer line = line_begins skin outer line
toned_begins (run ∷ runs) [] n skin outer line = line_begins skin outer line
toned_begins (run ∷ runs) (tone ∷ tones) n skin outer (Normal l) =
    let style : LineStyle = line_style skin l.kind in
    let blanks : ℕ × ℕ = outer_blanks style.align outer (margins_of skin outer l) l in
    begins_fifth (spaces skin.paragraph.compound_style blanks.0) (spaces style.compound_style (inner_blanks l).0) (prefix_pieces skin l.kind)
    (marked_compounds (paint_by (tone ∷ tones)) (has_mark l.kind) (run ∷ runs) skin style n l.compounds.items) (spaces style.compound_style (inner_blanks l).1) (spaces skin.paragraph.compound_style blanks.1)
toned_begins (run ∷ runs) (tone ∷ tones) n skin outer (TableRow row) = line_begins skin outer (TableRow row)
toned_begins (run ∷ runs) (tone ∷ tones) n skin outer (TableRule rule) = line_begins skin outer (TableRule rule)
toned_begins (run ∷ runs) (tone ∷ tones) n skin outer HorizontalRule = line_begins skin outer HorizontalRule

boxed_begins : (boxed : Bool) (runs : List MarkRun) (tones : List CompoundStyle) (n : ℕ) (skin : RowSkin) (outer : Option ℕ) (line : FmtLine) → BeginsWith (toned_pieces runs tones n skin outer true line) (toned_pieces runs tones n skin outer boxed line)
boxed_begins true runs tones n skin outer line = ([], sym (append-nil (toned_pieces runs tones n skin outer true line)))
boxed_begins false runs tones n skin outer line = toned_begins runs tones n skin outer line

behind_begins : (skin : RowSkin) (outer : Option ℕ) (row : RowContent) → BeginsWith (behind_pieces skin outer true row) (behind_pieces skin outer false row)
behind_begins skin outer row =
    boxed_begins (in_box skin row.gutters) row.marks (tone_styles skin) row.number (line_skin skin (front_of row)) (columns_behind (has_ascii_boxes skin) outer row.gutters) row.line

-- ---- the colors of a row

known_with : (skin : RowSkin) (paragraph : LineStyle) (rule : StyledChar) (bold : CompoundStyle) → AreKnownStyles skin → IsKnownLine paragraph → IsStyle (char_style rule).object_style → IsStyle bold.object_style
    → AreKnownStyles (record skin { paragraph = paragraph; horizontal_rule = rule; bold = bold })
known_with skin paragraph rule bold h p r b = record {
  parts = record {
    paragraph = p;
    bold = b;
    italic = h.parts.italic;
    strikeout = h.parts.strikeout;
    code = h.parts.code;
    link = h.parts.link;
    picture = h.parts.picture;
    picture_sign = h.parts.picture_sign;
    ellipsis = h.parts.ellipsis;
    code_block = h.parts.code_block;
    table = h.parts.table;
    bullet = h.parts.bullet;
    quote_mark = h.parts.quote_mark;
    rule = r;
    page = h.parts.page;
    head = h.parts.head;
    titles = h.parts.titles;
  };
  headers = h.headers;
  items = h.items;
  tones = h.tones;
}

below_known : (page : PageStyles) (level : ℕ) → AreKnownSigns page → IsStyle (char_style (below_char page level)).object_style
below_known page zero h = h.below_first
below_known page (suc level) h = h.below_others

ruled_known : (skin : RowSkin) (boxed : Bool) (level : Option ℕ) (bold : CompoundStyle) → AreKnownStyles skin → IsStyle bold.object_style
    → AreKnownStyles (emboldened (ruled (if boxed then record skin { paragraph = skin.code_block } else skin) level) bold)
ruled_known skin true None bold h b = known_with skin skin.code_block skin.horizontal_rule bold h h.parts.code_block h.parts.rule b
ruled_known skin false None bold h b = known_with skin skin.paragraph skin.horizontal_rule bold h h.parts.paragraph h.parts.rule b
ruled_known skin true (Some level) bold h b = known_with skin skin.code_block (below_char skin.page level) bold h h.parts.code_block (below_known skin.page level h.parts.page) b
ruled_known skin false (Some level) bold h b = known_with skin skin.paragraph (below_char skin.page level) bold h h.parts.paragraph (below_known skin.page level h.parts.page) b

title_known : (titles : TitleStyles) (alert : Alert) → AreKnownTitles titles → IsStyle (title_style titles alert).object_style
title_known titles Note h = h.note
title_known titles Tip h = h.tip
title_known titles Important h = h.important
title_known titles Warning h = h.warning
title_known titles Caution h = h.caution

titled_known : (skin : RowSkin) (alert : Option Alert) → AreKnownStyles skin → IsStyle (titled skin alert).object_style
titled_known skin None h = h.parts.bold
titled_known skin (Some alert) h = overwritten_known skin.bold (title_style skin.titles alert) h.parts.bold (title_known skin.titles alert h.parts.titles)

bold_known : (skin : RowSkin) (head : Bool) (alert : Option Alert) → AreKnownStyles skin → IsStyle (if head then overwritten skin.bold skin.head else titled skin alert).object_style
bold_known skin true alert h = overwritten_known skin.bold skin.head h.parts.bold h.parts.head
bold_known skin false alert h = titled_known skin alert h

skin_known : (skin : RowSkin) (front : FrontContent) → AreKnownStyles skin → AreKnownStyles (line_skin skin front)
skin_known skin front h = ruled_known skin (in_box skin front.gutters) (level_above front.gutters) (bold_behind skin front) h (bold_known skin front.head (alert_titled front) h)

pieces_known : (skin : RowSkin) (width : ℕ) (row : RowContent) → AreKnownStyles skin → AreKnown (page_row_pieces skin (Some width) true row)
pieces_known skin width row h =
    let inner : RowSkin = line_skin skin (front_of row) in
    row_known skin width row h
    (behind_known skin (front_of row) row.line width h (lines.row_known inner (width - columns_of (has_ascii_boxes skin) row.gutters) (Some row.line) (skin_known skin (front_of row) h)))

-- ---- a row as it is written

-- three groups of pieces, of which the second is the front of another
record FitGroups (width : ℕ) (ps : List RowPiece) : Type 0 where
  known : AreKnown ps
  shown : AreShownPieces ps
  fewer : pieces_columns ps ≤ width

groups : (width : ℕ) (before whole front after : List RowPiece) → BeginsWith whole front → AreKnown (before ++ (whole ++ after)) → FillsRow width (before ++ (whole ++ after)) → FitGroups width (before ++ (front ++ after))
groups width before whole front after begins known fills =
    let IsKnown : RowPiece → Type 0 = λ p. IsStyle p.style in
    let known_behind : AreKnown (whole ++ after) = all_then IsKnown before (whole ++ after) known in
    let shown_behind : AreShownPieces (whole ++ after) = all_then IsShownPiece before (whole ++ after) fills.shown in
    let known_whole : AreKnown (front ++ begins.0) = subst AreKnown begins.1 (all_first IsKnown whole after known_behind) in
    let shown_whole : AreShownPieces (front ++ begins.0) = subst AreShownPieces begins.1 (all_first IsShownPiece whole after shown_behind) in
    let all : pieces_columns (before ++ (whole ++ after)) ≡ pieces_columns before + (pieces_columns whole + pieces_columns after) =
    columns-both before (whole ++ after) ∙ ap (λ k. pieces_columns before + k) (columns-both whole after) in
    let some : pieces_columns (before ++ (front ++ after)) ≡ pieces_columns before + (pieces_columns front + pieces_columns after) =
    columns-both before (front ++ after) ∙ ap (λ k. pieces_columns before + k) (columns-both front after) in
    let parts : pieces_columns whole ≡ pieces_columns front + pieces_columns begins.0 = ap pieces_columns begins.1 ∙ columns-both front begins.0 in
    record {
      known = all_both IsKnown before (front ++ after) (all_first IsKnown before (whole ++ after) known) (all_both IsKnown front after (all_first IsKnown front begins.0 known_whole) (all_then IsKnown whole after known_behind));
      shown = all_both IsShownPiece before (front ++ after) (all_first IsShownPiece before (whole ++ after) fills.shown) (all_both IsShownPiece front after (all_first IsShownPiece front begins.0 shown_whole) (all_then IsShownPiece whole after shown_behind));
      fewer = omega (arith, all, some, parts, fills.columns);
    }

-- a row of a page that fills a width is a row of a terminal that is as wide, as it is written
row_fits : (columns width : ℕ) (skin : RowSkin) (row : RowContent) → AreKnownStyles skin → width ≤ columns → FillsRow width (page_row_pieces skin (Some width) true row)
    → IsRow columns (without_end (page_row_bytes skin (Some width) row)) × IsOneRow (without_end (page_row_bytes skin (Some width) row))
row_fits columns width skin row known narrower fills =
    let ps : List RowPiece = page_row_pieces skin (Some width) false row in
    let own : FitGroups width ps =
    groups width (faces skin row.gutters row.fresh) (behind_pieces skin (Some width) true row) (behind_pieces skin (Some width) false row) (backs skin row.gutters) (behind_begins skin (Some width) row) (pieces_known skin width row known) fills in
    let short : FitPieces (pieces_columns ps) (without_end (pieces_bytes ps)) = pieces_end ps own.known own.shown in
    let same : without_end (page_row_bytes skin (Some width) row) ≡ pieces_bytes short.pieces = end_off (pieces_bytes ps) 10 refl ∙ short.bytes_are in
    subst (λ (l : List ℕ). IsRow columns l × IsOneRow l) (sym same) (pieces_row columns short.pieces short.known short.shown (omega (arith, own.fewer, short.fewer, narrower)))

rows_each : (columns width : ℕ) (skin : RowSkin) (rows : List RowContent) → AreKnownStyles skin → width ≤ columns → AllFill skin width rows → AllByRecursion (IsRow columns) (rows_in (rows_bytes skin (Some width) rows))
rows_each columns width skin [] known narrower fills = tt
rows_each columns width skin (row ∷ rows) known narrower fills =
    let own = row_fits columns width skin row known narrower fills.0 in
    let text : List ℕ = without_end (page_row_bytes skin (Some width) row) in
    let rest : List ℕ = rows_bytes skin (Some width) rows in
    let cut : rows_in (rows_bytes skin (Some width) (row ∷ rows)) ≡ text ∷ rows_in rest = ap rows_in (append_assoc text (10 ∷ []) rest) ∙ one_row text rest own.1 in
    subst (λ (l : List (List ℕ)). AllByRecursion (IsRow columns) l) (sym cut) (own.0, rows_each columns width skin rows known narrower fills.1)

-- so are the rows of a page
pub rows_fit : (columns width : ℕ) (skin : RowSkin) (rows : List RowContent) → AreKnownStyles skin → width ≤ columns → AllFill skin width rows → AreWhole (rows_bytes skin (Some width) rows) → AreRows columns (rows_bytes skin (Some width) rows)
rows_fit columns width skin rows known narrower fills whole = record {
  whole = rows_each columns width skin rows known narrower fills;
  last = subst (λ (l : List ℕ). IsRow columns l) (sym whole.ended) (row_nothing columns);
}
