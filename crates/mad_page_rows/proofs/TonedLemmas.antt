-- Lines with their tones.
use Rattle.std.proofs.Common.{◌≡◌, ℕ, zero, suc, ◌-◌, ◌≤◌, Bool, true, List, [], ◌∷◌, ◌++◌, length, map, Option, Some, None, refl, ap, sym, ◌∙◌, subst, arith}
use Rattle.std.proofs.lemmas.Option.{same_Some}
use Rattle.std.specs.Prelude.{slice_get, ◌||◌, if◌then◌else◌}
use Rattle.std.specs.List.{AllByRecursion}
use Rattle.std.specs.Str.{IsUtf8}
use Rattle.mad_md.specs.declared.compound.Compound.{Compound}
use Rattle.mad_term.specs.Styles.{IsStyle}
use Rattle.mad_term.specs.declared.styles.ContentStyle.{ContentStyle}
use Rattle.mad_screen.specs.Glyph.{Look}
use Rattle.mad_style.specs.declared.compound_styles.CompoundStyle.{CompoundStyle}
use Rattle.mad_style.specs.declared.line_styles.LineStyle.{LineStyle}
use Rattle.mad_draw.specs.Pieces.{RowPiece, AreKnown, AreShownPieces, FillsRow, spaces}
use Rattle.mad_format.specs.declared.composite.FmtComposite.{FmtComposite}
use Rattle.mad_format.specs.declared.line.FmtLine.{FmtLine}
use Rattle.mad_format.specs.declared.line.FmtLine.TheVariants.{Normal, TableRow, TableRule, HorizontalRule}
use Rattle.mad_rows.specs.RowStyles.{AreKnownStyles, IsKnownTone, line_style, tone_styles}
use Rattle.mad_rows.specs.Rows.{composite_pieces, compound_piece, inner_blanks, line_pieces, margins_of, outer_blanks, prefix_pieces}
use Rattle.mad_rows.specs.declared.rows.RowPlace.{RowPlace}
use Rattle.mad_rows.specs.declared.row_skin.RowSkin.{RowSkin}
use Rattle.mad_rows.proofs.KnownLemmas.{overwritten_known}
use Rattle.mad_mark_runs.specs.declared.mark_runs.MarkRun.{MarkRun}
use Rattle.mad_marks.specs.LineMarks.{has_mark}
use Rattle.mad_marked_rows.specs.MarkedRows.{marked_composite}
use Rattle.mad_marked_rows.specs.Paints.{paint_by, painted}
use Rattle.mad_marked_rows.specs.RowLaws.{AreTexts}
use Rattle.mad_marked_rows.specs.Told.{told_chars, TellsNothing}
use Rattle.mad_marked_rows.proofs.LawLemmas.{chars_told, line_fills, shown_left, shown_right, told_after, told_before}
use Rattle.mad_marked_rows.proofs.ToldLemmas.{same_cells}
use Rattle.mad_marked_rows.proofs.LinkLawLemmas.{KeepsKnown, line_known}
use Rattle.mad_pages.specs.Fronts.{FrontContent, front_of, row_behind}
use Rattle.mad_page_rows.specs.Faces.{backs, behind_pieces, columns_behind, faces, has_ascii_boxes, in_box, line_skin, page_row_pieces, toned_pieces}
use Rattle.mad_page_rows.specs.ToneLaws.{TonesChangeNothing, without_marks}
use Rattle.mad_sections.specs.Gutters.{columns_of}

-- ---- texts

pieces_texts : (skin : RowSkin) (style : LineStyle) (ks : List Compound) → AreShownPieces (map (compound_piece skin style) ks) → AllByRecursion (λ k. IsUtf8 k.src.now) ks
pieces_texts skin style [] h = tt
pieces_texts skin style (k ∷ ks) h = (h.0.utf8, pieces_texts skin style ks h.1)

-- the texts of a composite that is shown are texts
composite_texts : (skin : RowSkin) (outer : Option ℕ) (margins : ℕ × ℕ) (filled : Bool) (l : FmtComposite) → AreShownPieces (composite_pieces skin outer margins filled l) → AllByRecursion (λ k. IsUtf8 k.src.now) l.compounds.items
composite_texts skin outer margins filled l h =
    let style = line_style skin l.kind in
    let blanks = outer_blanks style.align outer margins l in
    let text : List RowPiece = map (compound_piece skin style) l.compounds.items in
    let end : List RowPiece = spaces style.compound_style (inner_blanks l).1 ++ (if filled then spaces skin.paragraph.compound_style blanks.1 else []) in
    let one = shown_right (spaces skin.paragraph.compound_style blanks.0) (spaces style.compound_style (inner_blanks l).0 ++ (prefix_pieces skin l.kind ++ (text ++ end))) h in
    let two = shown_right (spaces style.compound_style (inner_blanks l).0) (prefix_pieces skin l.kind ++ (text ++ end)) one in
    pieces_texts skin style l.compounds.items (shown_left text end (shown_right (prefix_pieces skin l.kind) (text ++ end) two))

-- where a line fills a row, it does so with its tones
pub toned_fills : (width : ℕ) (runs : List MarkRun) (tones : List CompoundStyle) (n : ℕ) (skin : RowSkin) (outer : Option ℕ) (filled : Bool) (line : FmtLine) → FillsRow width (line_pieces skin outer filled line) → FillsRow width (toned_pieces runs tones n skin outer filled line)
toned_fills width [] tones n skin outer filled line h = h
toned_fills width (run ∷ runs) [] n skin outer filled line h = h
toned_fills width (run ∷ runs) (tone ∷ tones) n skin outer filled (Normal l) h =
    line_fills width (paint_by (tone ∷ tones)) has_mark (run ∷ runs) skin outer filled (n ∷ []) (Normal l) (composite_texts skin outer (margins_of skin outer l) filled l h.shown, tt) h
toned_fills width (run ∷ runs) (tone ∷ tones) n skin outer filled (TableRow row) h = h
toned_fills width (run ∷ runs) (tone ∷ tones) n skin outer filled (TableRule rule) h = h
toned_fills width (run ∷ runs) (tone ∷ tones) n skin outer filled HorizontalRule h = h

-- ---- what is written of a line

-- a line of text is its composite with marks, where there are marks and tones
pub toned_text : (runs : List MarkRun) (tones : List CompoundStyle) (n : ℕ) (skin : RowSkin) (outer : Option ℕ) (filled : Bool) (line : FmtLine) (l : FmtComposite) (place : RowPlace) → 1 ≤ length runs → 1 ≤ length tones → line ≡ Normal l
    → place ≡ record { outer = outer; margins = margins_of skin outer l; filled = filled } → marked_composite (paint_by tones) has_mark runs skin place.outer place.margins place.filled n l ≡ toned_pieces runs tones n skin outer filled line
toned_text [] tones n skin outer filled line l place marked toned is at = absurd (omega arith)
toned_text (run ∷ runs) [] n skin outer filled line l place marked toned is at = absurd (omega arith)
toned_text (run ∷ runs) (tone ∷ tones) n skin outer filled line l place marked toned is at =
    ap (λ (p : RowPlace). marked_composite (paint_by (tone ∷ tones)) has_mark (run ∷ runs) skin p.outer p.margins p.filled n l) at ∙ ap (toned_pieces (run ∷ runs) (tone ∷ tones) n skin outer filled) (sym is)

-- ---- what is told of a row

toned_told : (tell : Look → Look) (runs : List MarkRun) (tones : List CompoundStyle) (n : ℕ) (skin : RowSkin) (outer : Option ℕ) (filled : Bool) (line : FmtLine) → TellsNothing tell (paint_by tones)
    → AreShownPieces (line_pieces skin outer filled line) → told_chars tell (toned_pieces runs tones n skin outer filled line) ≡ told_chars tell (line_pieces skin outer filled line)
toned_told tell [] tones n skin outer filled line nothing h = refl
toned_told tell (run ∷ runs) [] n skin outer filled line nothing h = refl
toned_told tell (run ∷ runs) (tone ∷ tones) n skin outer filled (Normal l) nothing h =
    chars_told tell (paint_by (tone ∷ tones)) has_mark (run ∷ runs) skin outer filled (n ∷ []) (Normal l) nothing (composite_texts skin outer (margins_of skin outer l) filled l h, tt)
toned_told tell (run ∷ runs) (tone ∷ tones) n skin outer filled (TableRow row) nothing h = refl
toned_told tell (run ∷ runs) (tone ∷ tones) n skin outer filled (TableRule rule) nothing h = refl
toned_told tell (run ∷ runs) (tone ∷ tones) n skin outer filled HorizontalRule nothing h = refl

-- THE LAW
pub row_told : TonesChangeNothing
row_told tell skin outer filled row nothing h =
    let gutters = row.gutters in
    let front : List RowPiece = faces skin gutters row.fresh in
    let inner : RowSkin = line_skin skin (front_of row) in
    let columns : Option ℕ = columns_behind (has_ascii_boxes skin) outer gutters in
    let plain : List RowPiece = line_pieces inner columns (filled || in_box skin gutters) row.line in
    let toned : List RowPiece = behind_pieces skin outer filled row in
    same_cells tell (page_row_pieces skin outer filled row) (page_row_pieces skin outer filled (without_marks row))
    (told_after tell front (toned ++ backs skin gutters) (plain ++ backs skin gutters)
    (told_before tell toned plain (backs skin gutters) (toned_told tell row.marks (tone_styles skin) row.number inner columns (filled || in_box skin gutters) row.line nothing h)))

-- ---- colors

painted_known : (o : Option CompoundStyle) (style : ContentStyle) → ((s : CompoundStyle) → o ≡ Some s → IsStyle s.object_style) → IsStyle style → IsStyle (painted o style)
painted_known None style known h = h
painted_known (Some over) style known h = overwritten_known (record { object_style = style }) over h (known over refl)

tone_known : (tones : List CompoundStyle) (n : ℕ) (s : CompoundStyle) → AllByRecursion IsKnownTone tones → slice_get tones n ≡ Some s → IsStyle s.object_style
tone_known [] n s known is = absurd (cc)
tone_known (tone ∷ tones) zero s known is = subst IsKnownTone (same_Some _ _ is) known.0
tone_known (tone ∷ tones) (suc n) s known is = tone_known tones n s known.1 is

-- where the numbers of the tones' colors are bytes, they keep that
tones_keep : (tones : List CompoundStyle) → AllByRecursion IsKnownTone tones → KeepsKnown (paint_by tones)
tones_keep tones known zero style h = h
tones_keep tones known (suc n) style h = painted_known (slice_get tones n) style (λ s is. tone_known tones n s known is) h

toned_known : (runs : List MarkRun) (tones : List CompoundStyle) (n : ℕ) (skin : RowSkin) (outer : Option ℕ) (filled : Bool) (line : FmtLine) → AllByRecursion IsKnownTone tones → AreKnown (line_pieces skin outer filled line) → AreKnown (toned_pieces runs tones n skin outer filled line)
toned_known [] tones n skin outer filled line known h = h
toned_known (run ∷ runs) [] n skin outer filled line known h = h
toned_known (run ∷ runs) (tone ∷ tones) n skin outer filled (Normal l) known h =
    line_known (paint_by (tone ∷ tones)) has_mark (run ∷ runs) skin outer filled (n ∷ []) (Normal l) (tones_keep (tone ∷ tones) known) h
toned_known (run ∷ runs) (tone ∷ tones) n skin outer filled (TableRow row) known h = h
toned_known (run ∷ runs) (tone ∷ tones) n skin outer filled (TableRule rule) known h = h
toned_known (run ∷ runs) (tone ∷ tones) n skin outer filled HorizontalRule known h = h

-- so are those of a row's line
pub behind_known : (skin : RowSkin) (front : FrontContent) (line : FmtLine) (width : ℕ) → AreKnownStyles skin
    → AreKnown (line_pieces (line_skin skin front) (Some (width - columns_of (has_ascii_boxes skin) front.gutters)) true line) → AreKnown (behind_pieces skin (Some width) true (row_behind front line))
behind_known skin front line width styles h =
    toned_known front.marks (tone_styles skin) front.number (line_skin skin front) (Some (width - columns_of (has_ascii_boxes skin) front.gutters)) true line styles.tones h
