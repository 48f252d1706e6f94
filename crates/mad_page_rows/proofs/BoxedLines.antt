-- Lines in a box, below a heading, of an alert's title and of a table's head are drawn as they are elsewhere, but for their style and the character of a
-- rule.
use Rattle.std.proofs.Common.{◌≡◌, ℕ, zero, suc, ◌+◌, List, [], ◌∷◌, ◌++◌, Option, Some, None, map, chars, refl, ap, sym, ◌∙◌, subst, arith, if◌then◌else◌}
use Rattle.std.specs.List.{AllByRecursion}
use Rattle.std.specs.Str.{IsUtf8}
use Rattle.std.proofs.lemmas.List.{map-append}
use Rattle.mad_md.specs.declared.compound.Compound.{Compound}
use Rattle.mad_screen.specs.Painting.{IsShown}
use Rattle.mad_style.specs.declared.compound_styles.CompoundStyle.{CompoundStyle}
use Rattle.mad_style.specs.declared.kinds.CompositeKind.{CompositeKind}
use Rattle.mad_style.specs.declared.kinds.CompositeKind.TheVariants.{Paragraph, Header, ListItem, ListItemFollowUp, OrderedListItem, OrderedListItemFollowUp, Code, Quote}
use Rattle.mad_style.specs.declared.line_styles.LineStyle.{LineStyle}
use Rattle.mad_style.specs.OrderedItems.{ordered_indent}
use Rattle.mad_measure.specs.TextColumns.{columns}
use Rattle.mad_style.specs.StyledChars.{char_alone}
use Rattle.mad_style.specs.declared.styled_chars.StyledChar.{StyledChar}
use Rattle.mad_draw.specs.Pieces.{RowPiece, IsColumnChar, IsColumnPiece, AreShownPieces, char_piece, pieces_columns, single_spaces}
use Rattle.mad_draw.proofs.ColumnChars.{column_piece}
use Rattle.mad_format.specs.Indents.{later_indent}
use Rattle.mad_format.specs.declared.composite.FmtComposite.{FmtComposite}
use Rattle.mad_format.specs.declared.line.FmtLine.{FmtLine}
use Rattle.mad_format.specs.declared.line.FmtLine.TheVariants.{Normal, TableRow, TableRule, HorizontalRule}
use Rattle.mad_rows.specs.Rows.{prefix_pieces, compound_piece}
use Rattle.mad_rows.specs.RowStyles.{line_style}
use Rattle.mad_rows.specs.declared.page_styles.PageStyles.{PageStyles}
use Rattle.mad_rows.specs.declared.row_skin.RowSkin.{RowSkin}
use Rattle.mad_layout.specs.Drawable.{FillsItsPlace, IsDrawableLine}
use Rattle.mad_pages.specs.Fronts.{FrontContent}
use Rattle.mad_sections.proofs.Choices.{by_bool}
use Rattle.mad_page_rows.specs.FaceLaws.{AreFacesShown, AreSignsShown}
use Rattle.mad_page_rows.specs.Faces.{below_char, bold_behind, emboldened, in_box, level_above, line_skin, ruled}

-- the texts of pieces
abbrev texts : List RowPiece → List (List ℕ)
texts ps = map (λ (p : RowPiece). p.text) ps

same_shown : (ps qs : List RowPiece) → texts ps ≡ texts qs → AreShownPieces ps → AreShownPieces qs
same_shown [] [] e h = tt
same_shown [] (q ∷ qs) e h = absurd cc
same_shown (p ∷ ps) [] e h = absurd cc
same_shown (p ∷ ps) (q ∷ qs) e h =
    let one : p.text ≡ q.text = cc in
    let more : texts ps ≡ texts qs = cc in
    (record { utf8 = subst IsUtf8 one h.0.utf8; shown = subst (λ (t : List ℕ). IsShown (chars t)) one h.0.shown }, same_shown ps qs more h.1)

same_columns : (ps qs : List RowPiece) → texts ps ≡ texts qs → pieces_columns ps ≡ pieces_columns qs
same_columns [] [] e = refl
same_columns [] (q ∷ qs) e = absurd cc
same_columns (p ∷ ps) [] e = absurd cc
same_columns (p ∷ ps) (q ∷ qs) e =
    let one : p.text ≡ q.text = cc in
    let more : texts ps ≡ texts qs = cc in
    let own = ap (λ (t : List ℕ). columns (chars t)) one in
    let rest = same_columns ps qs more in
    omega (arith, own, rest)

same_spaces : (style other : CompoundStyle) (n : ℕ) → texts (single_spaces style n) ≡ texts (single_spaces other n)
same_spaces style other zero = refl
same_spaces style other (suc n) = ap (λ (ts : List (List ℕ)). (32 ∷ []) ∷ ts) (same_spaces style other n)

both_same : (ds bs ps qs : List RowPiece) → texts ds ≡ texts bs → texts ps ≡ texts qs → texts (ds ++ ps) ≡ texts (bs ++ qs)
both_same ds bs ps qs e f =
    map-append (λ (p : RowPiece). p.text) ds ps ∙ ap (λ (ts : List (List ℕ)). ts ++ texts ps) e ∙ ap (λ (ts : List (List ℕ)). texts bs ++ ts) f ∙ sym (map-append (λ (p : RowPiece). p.text) bs qs)

-- the skin of a box
abbrev boxed : RowSkin → RowSkin
boxed skin = record skin { paragraph = skin.code_block }

same_prefix : (skin : RowSkin) (kind : CompositeKind) → texts (prefix_pieces skin kind) ≡ texts (prefix_pieces (boxed skin) kind)
same_prefix skin Paragraph = refl
same_prefix skin (Header level) = refl
same_prefix skin (ListItem depth) = both_same (single_spaces skin.paragraph.compound_style depth) (single_spaces skin.code_block.compound_style depth) _ _ (same_spaces skin.paragraph.compound_style skin.code_block.compound_style depth) refl
same_prefix skin (ListItemFollowUp depth) = same_spaces skin.paragraph.compound_style skin.code_block.compound_style (later_indent skin.list_items_indentation_mode (2 + depth))
same_prefix skin (OrderedListItem level index) = both_same (single_spaces skin.paragraph.compound_style level) (single_spaces skin.code_block.compound_style level) _ _ (same_spaces skin.paragraph.compound_style skin.code_block.compound_style level) refl
same_prefix skin (OrderedListItemFollowUp level index) = same_spaces skin.paragraph.compound_style skin.code_block.compound_style (later_indent skin.list_items_indentation_mode (ordered_indent level index))
same_prefix skin Code = refl
same_prefix skin Quote = refl

same_compounds : (skin : RowSkin) (style other : LineStyle) (ps : List Compound) → texts (map (compound_piece skin style) ps) ≡ texts (map (compound_piece (boxed skin) other) ps)
same_compounds skin style other [] = refl
same_compounds skin style other (p ∷ ps) = ap (λ (ts : List (List ℕ)). p.src.now ∷ ts) (same_compounds skin style other ps)

fills_boxed : (skin : RowSkin) (l : FmtComposite) → FillsItsPlace skin l → FillsItsPlace (boxed skin) l
fills_boxed skin l h = record {
  measured = h.measured;
  place = h.place;
  prefix = same_shown (prefix_pieces skin l.kind) (prefix_pieces (boxed skin) l.kind) (same_prefix skin l.kind) h.prefix;
  indent_is = sym (same_columns (prefix_pieces skin l.kind) (prefix_pieces (boxed skin) l.kind) (same_prefix skin l.kind)) ∙ h.indent_is;
  text = same_shown (map (compound_piece skin (line_style skin l.kind)) l.compounds.items) (map (compound_piece (boxed skin) (line_style (boxed skin) l.kind)) l.compounds.items)
      (same_compounds skin (line_style skin l.kind) (line_style (boxed skin) l.kind) l.compounds.items) h.text;
}

cells_boxed : (skin : RowSkin) (ls : List FmtComposite) → AllByRecursion (FillsItsPlace skin) ls → AllByRecursion (FillsItsPlace (boxed skin)) ls
cells_boxed skin [] h = tt
cells_boxed skin (l ∷ ls) h = (fills_boxed skin l h.0, cells_boxed skin ls h.1)

line_boxed : (skin : RowSkin) (width : ℕ) (l : FmtLine) → IsDrawableLine skin width l → IsDrawableLine (boxed skin) width l
line_boxed skin width (Normal l) h = record { margins = h.margins; margins_are = h.margins_are; fits = h.fits; fills = fills_boxed skin l h.fills }
line_boxed skin width (TableRow row) h = record { fits = h.fits; each = cells_boxed skin row.cells.items h.each; border = h.border }
line_boxed skin width (TableRule rule) h = record { fits = h.fits; chars = record { left = h.chars.left; horizontal = h.chars.horizontal; between = h.chars.between; right = h.chars.right } }
line_boxed skin width HorizontalRule h = h

-- ---- rules below headings

-- a skin with another rule
abbrev with_rule : RowSkin → StyledChar → RowSkin
with_rule skin rule = record skin { horizontal_rule = rule }

prefix_ruled : (skin : RowSkin) (rule : StyledChar) (kind : CompositeKind) → prefix_pieces skin kind ≡ prefix_pieces (with_rule skin rule) kind
prefix_ruled skin rule Paragraph = refl
prefix_ruled skin rule (Header level) = refl
prefix_ruled skin rule (ListItem depth) = refl
prefix_ruled skin rule (ListItemFollowUp depth) = refl
prefix_ruled skin rule (OrderedListItem level index) = refl
prefix_ruled skin rule (OrderedListItemFollowUp level index) = refl
prefix_ruled skin rule Code = refl
prefix_ruled skin rule Quote = refl

fills_ruled : (skin : RowSkin) (rule : StyledChar) (l : FmtComposite) → FillsItsPlace skin l → FillsItsPlace (with_rule skin rule) l
fills_ruled skin rule l h = record {
  measured = h.measured;
  place = h.place;
  prefix = subst AreShownPieces (prefix_ruled skin rule l.kind) h.prefix;
  indent_is = sym (ap pieces_columns (prefix_ruled skin rule l.kind)) ∙ h.indent_is;
  text = h.text;
}

cells_ruled : (skin : RowSkin) (rule : StyledChar) (ls : List FmtComposite) → AllByRecursion (FillsItsPlace skin) ls → AllByRecursion (FillsItsPlace (with_rule skin rule)) ls
cells_ruled skin rule [] h = tt
cells_ruled skin rule (l ∷ ls) h = (fills_ruled skin rule l h.0, cells_ruled skin rule ls h.1)

line_ruled : (skin : RowSkin) (rule : StyledChar) (width : ℕ) (l : FmtLine) → IsColumnPiece (char_piece rule) → IsDrawableLine skin width l → IsDrawableLine (with_rule skin rule) width l
line_ruled skin rule width (Normal l) own h = record { margins = h.margins; margins_are = h.margins_are; fits = h.fits; fills = fills_ruled skin rule l h.fills }
line_ruled skin rule width (TableRow row) own h = record { fits = h.fits; each = cells_ruled skin rule row.cells.items h.each; border = h.border }
line_ruled skin rule width (TableRule r) own h = record { fits = h.fits; chars = record { left = h.chars.left; horizontal = h.chars.horizontal; between = h.chars.between; right = h.chars.right } }
line_ruled skin rule width HorizontalRule own h = own

below_column : (page : PageStyles) (level : ℕ) → AreSignsShown page → IsColumnChar (char_alone (below_char page level))
below_column page zero h = h.below_first
below_column page (suc level) h = h.below_others

drawable_ruled : (skin : RowSkin) (above : Option ℕ) (width : ℕ) (l : FmtLine) → AreSignsShown skin.page → IsDrawableLine skin width l → IsDrawableLine (ruled skin above) width l
drawable_ruled skin None width l signs h = h
drawable_ruled skin (Some level) width l signs h = line_ruled skin (below_char skin.page level) width l (column_piece (below_char skin.page level) (below_column skin.page level signs)) h

-- ---- bold text

prefix_bold : (skin : RowSkin) (bold : CompoundStyle) (kind : CompositeKind) → prefix_pieces skin kind ≡ prefix_pieces (emboldened skin bold) kind
prefix_bold skin bold Paragraph = refl
prefix_bold skin bold (Header level) = refl
prefix_bold skin bold (ListItem depth) = refl
prefix_bold skin bold (ListItemFollowUp depth) = refl
prefix_bold skin bold (OrderedListItem level index) = refl
prefix_bold skin bold (OrderedListItemFollowUp level index) = refl
prefix_bold skin bold Code = refl
prefix_bold skin bold Quote = refl

bold_compounds : (skin : RowSkin) (bold : CompoundStyle) (style : LineStyle) (ps : List Compound) → texts (map (compound_piece skin style) ps) ≡ texts (map (compound_piece (emboldened skin bold) style) ps)
bold_compounds skin bold style [] = refl
bold_compounds skin bold style (p ∷ ps) = ap (λ (ts : List (List ℕ)). p.src.now ∷ ts) (bold_compounds skin bold style ps)

fills_bold : (skin : RowSkin) (bold : CompoundStyle) (l : FmtComposite) → FillsItsPlace skin l → FillsItsPlace (emboldened skin bold) l
fills_bold skin bold l h = record {
  measured = h.measured;
  place = h.place;
  prefix = subst AreShownPieces (prefix_bold skin bold l.kind) h.prefix;
  indent_is = sym (ap pieces_columns (prefix_bold skin bold l.kind)) ∙ h.indent_is;
  text = same_shown (map (compound_piece skin (line_style skin l.kind)) l.compounds.items) (map (compound_piece (emboldened skin bold) (line_style skin l.kind)) l.compounds.items)
      (bold_compounds skin bold (line_style skin l.kind) l.compounds.items) h.text;
}

cells_bold : (skin : RowSkin) (bold : CompoundStyle) (ls : List FmtComposite) → AllByRecursion (FillsItsPlace skin) ls → AllByRecursion (FillsItsPlace (emboldened skin bold)) ls
cells_bold skin bold [] h = tt
cells_bold skin bold (l ∷ ls) h = (fills_bold skin bold l h.0, cells_bold skin bold ls h.1)

line_bold : (skin : RowSkin) (bold : CompoundStyle) (width : ℕ) (l : FmtLine) → IsDrawableLine skin width l → IsDrawableLine (emboldened skin bold) width l
line_bold skin bold width (Normal l) h = record { margins = h.margins; margins_are = h.margins_are; fits = h.fits; fills = fills_bold skin bold l h.fills }
line_bold skin bold width (TableRow row) h = record { fits = h.fits; each = cells_bold skin bold row.cells.items h.each; border = h.border }
line_bold skin bold width (TableRule r) h = record { fits = h.fits; chars = record { left = h.chars.left; horizontal = h.chars.horizontal; between = h.chars.between; right = h.chars.right } }
line_bold skin bold width HorizontalRule h = h

-- so it is in the skin of a row behind any front
pub drawable_behind : (skin : RowSkin) (front : FrontContent) (width : ℕ) (l : FmtLine) → AreFacesShown skin → IsDrawableLine skin width l → IsDrawableLine (line_skin skin front) width l
drawable_behind skin front width l faces h =
    let above : Option ℕ = level_above front.gutters in
    by_bool (λ t. IsDrawableLine (emboldened (ruled (if t then boxed skin else skin) above) (bold_behind skin front)) width l) (in_box skin front.gutters)
    (λ e. line_bold (ruled (boxed skin) above) (bold_behind skin front) width l (drawable_ruled (boxed skin) above width l faces.page (line_boxed skin width l h)))
    (λ e. line_bold (ruled skin above) (bold_behind skin front) width l (drawable_ruled skin above width l faces.page h))
