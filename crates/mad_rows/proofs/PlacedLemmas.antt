-- Composites and rows of tables, put after a string part by part.
use Rattle.std.proofs.Common.{◌≡◌, ℕ, zero, suc, ◌+◌, ◌<◌, Bool, false, None, true, Option, List, [], ◌∷◌, ◌++◌, map, length, take, get_or, replicate, refl, sym, ap, ◌∙◌, append_assoc}
use Rattle.std.specs.Prelude.{if◌then◌else◌}
use Rattle.std.specs.List.{flat_map}
use Rattle.std.proofs.lemmas.List.{replicate_more}
use Rattle.mad_md.specs.declared.compound.Compound.{Compound}
use Rattle.mad_term.specs.Styles.{IsUnstyled, piece_bytes}
use Rattle.mad_term.proofs.Pieces.{unstyled_piece}
use Rattle.mad_style.specs.declared.compound_styles.CompoundStyle.{CompoundStyle}
use Rattle.mad_style.specs.declared.line_styles.LineStyle.{LineStyle}
use Rattle.mad_draw.specs.declared.spaces.Spaces.{Spaces}
use Rattle.mad_draw.specs.Pieces.{RowPiece, pieces_bytes, spaces}
use Rattle.mad_draw.proofs.PieceLemmas.{bytes_taken_of, bytes_both, bytes_one}
use Rattle.mad_format.specs.declared.composite.FmtComposite.{FmtComposite}
use Rattle.mad_rows.specs.declared.row_skin.RowSkin.{RowSkin}
use Rattle.mad_rows.specs.RowStyles.{line_style}
use Rattle.mad_rows.specs.Rows.{compound_piece, prefix_pieces, inner_blanks, outer_blanks, vertical_piece, cell_margins, cell_pieces, composite_pieces, left_of_place, row_columns, table_row_pieces}
use Rattle.mad_rows.proofs.PieceLemmas.{put_after, composite_joined, row_bytes}

-- one more space is put
pub blank_put : (old now new : List ℕ) (n : ℕ) → now ≡ old ++ replicate n 32 → new ≡ now ++ 32 ∷ [] → new ≡ old ++ replicate (n + 1) 32
blank_put old now new n held put =
    put ∙ ap (λ (l : List ℕ). l ++ 32 ∷ []) held ∙ append_assoc old (replicate n 32) (32 ∷ []) ∙ ap (λ (l : List ℕ). old ++ l) (replicate_more n 32)

-- spaces without style are so many bytes
pub blanks_bytes : (style : CompoundStyle) (n : ℕ) → IsUnstyled style.object_style → replicate n 32 ≡ pieces_bytes (spaces style n)
blanks_bytes style zero h = refl
blanks_bytes style (suc n) h =
    let text : List ℕ = replicate (suc n) 32 in
    sym (bytes_one (record { style = style.object_style; text = text }) ∙ unstyled_piece style.object_style text h)

-- pieces that are put one after the other
pub two_put : (old one new : List ℕ) (a b : List RowPiece) → one ≡ old ++ pieces_bytes a → new ≡ one ++ pieces_bytes b → new ≡ old ++ pieces_bytes (a ++ b)
two_put old one new a b one_is new_is =
    new_is ∙ ap (λ (l : List ℕ). l ++ pieces_bytes b) one_is ∙ append_assoc old (pieces_bytes a) (pieces_bytes b) ∙ ap (λ (l : List ℕ). old ++ l) (sym (bytes_both a b))

pub three_put : (old one two new : List ℕ) (a b c : List RowPiece) → one ≡ old ++ pieces_bytes a → two ≡ one ++ pieces_bytes b → new ≡ two ++ pieces_bytes c → new ≡ old ++ pieces_bytes (a ++ (b ++ c))
three_put old one two new a b c one_is two_is new_is = two_put old one new a (b ++ c) one_is (two_put one two new b c two_is new_is)

-- what is in front of a composite's compounds, they, and what is after them
pub composite_put : (skin : RowSkin) (outer : Option ℕ) (margins : ℕ × ℕ) (filled : Bool) (l : FmtComposite) (style : LineStyle) (ps : List Compound) (old base one two new : List ℕ) → style ≡ line_style skin l.kind → ps ≡ l.compounds.items → base ≡ old
    → one ≡ base ++ pieces_bytes (spaces skin.paragraph.compound_style (outer_blanks style.align outer margins l).0 ++ (spaces style.compound_style (inner_blanks l).0 ++ prefix_pieces skin l.kind))
    → two ≡ one ++ pieces_bytes (map (compound_piece skin style) ps)
    → new ≡ two ++ pieces_bytes (spaces style.compound_style (inner_blanks l).1 ++ spaces skin.paragraph.compound_style (if filled then (outer_blanks style.align outer margins l).1 else 0))
    → new ≡ old ++ pieces_bytes (composite_pieces skin outer margins filled l)
composite_put skin outer margins filled l style ps old base one two new style_is ps_are base_is one_is two_is new_is =
    let front : List ℕ = pieces_bytes (spaces skin.paragraph.compound_style (outer_blanks style.align outer margins l).0 ++ (spaces style.compound_style (inner_blanks l).0 ++ prefix_pieces skin l.kind)) in
    let text : List ℕ = pieces_bytes (map (compound_piece skin style) ps) in
    let end : List ℕ = pieces_bytes (spaces style.compound_style (inner_blanks l).1 ++ spaces skin.paragraph.compound_style (if filled then (outer_blanks style.align outer margins l).1 else 0)) in
    let so_far : two ≡ old ++ (front ++ text) = two_is ∙ ap (λ (bs : List ℕ). bs ++ text) (one_is ∙ ap (λ (bs : List ℕ). bs ++ front) base_is) ∙ append_assoc old front text in
    put_after old (front ++ text) two end (pieces_bytes (composite_pieces skin outer margins filled l)) new new_is so_far (composite_joined skin outer margins filled l style ps style_is ps_are)

-- one more cell is put, behind a border
pub cell_put : (skin : RowSkin) (cells : List FmtComposite) (i : ℕ) (x : FmtComposite) (old now mid new : List ℕ) → i < length cells → x ≡ get_or cells i x → now ≡ old ++ pieces_bytes (flat_map (cell_pieces skin) (take i cells))
    → mid ≡ now ++ piece_bytes (vertical_piece skin).style (vertical_piece skin).text → new ≡ mid ++ pieces_bytes (composite_pieces skin None (cell_margins skin) true x)
    → new ≡ old ++ pieces_bytes (flat_map (cell_pieces skin) (take (i + 1) cells))
cell_put skin cells i x old now mid new within is held mid_is new_is =
    let border : List ℕ = piece_bytes (vertical_piece skin).style (vertical_piece skin).text in
    let own : List ℕ = pieces_bytes (composite_pieces skin None (cell_margins skin) true x) in
    let so_far : List RowPiece = flat_map (cell_pieces skin) (take i cells) in
    let put : new ≡ now ++ pieces_bytes (cell_pieces skin x) = new_is ∙ ap (λ (l : List ℕ). l ++ own) mid_is ∙ append_assoc now border own in
    let next : pieces_bytes so_far ++ pieces_bytes (cell_pieces skin x) ≡ pieces_bytes (flat_map (cell_pieces skin) (take (i + 1) cells)) =
    sym (bytes_both so_far (cell_pieces skin x)) ∙ ap pieces_bytes (bytes_taken_of (cell_pieces skin) cells i x within is) in
    put_after old (pieces_bytes so_far) now (pieces_bytes (cell_pieces skin x)) (pieces_bytes (flat_map (cell_pieces skin) (take (i + 1) cells))) new put held next

-- cells, and a last border between blanks
pub row_put : (skin : RowSkin) (width : Option ℕ) (cells : List FmtComposite) (before after : Spaces) (old one two three new : List ℕ)
    → before ≡ record { style = skin.paragraph.compound_style; count = left_of_place skin.table.align (row_columns skin cells) width } → after ≡ record { style = skin.paragraph.compound_style; count = 0 }
    → one ≡ old ++ pieces_bytes (spaces before.style before.count) → two ≡ one ++ pieces_bytes (flat_map (cell_pieces skin) cells) → three ≡ two ++ piece_bytes (vertical_piece skin).style (vertical_piece skin).text
    → new ≡ three ++ pieces_bytes (spaces after.style after.count) → new ≡ old ++ pieces_bytes (table_row_pieces skin width false cells)
row_put skin width cells before after old one two three new before_is after_is one_is two_is three_is new_is =
    let left : List ℕ = pieces_bytes (spaces before.style before.count) in
    let own : List ℕ = pieces_bytes (flat_map (cell_pieces skin) cells) in
    let border : List ℕ = piece_bytes (vertical_piece skin).style (vertical_piece skin).text in
    let right : List ℕ = pieces_bytes (spaces after.style after.count) in
    new_is ∙ ap (λ (l : List ℕ). l ++ right) (three_is ∙ ap (λ (l : List ℕ). l ++ border) (two_is ∙ ap (λ (l : List ℕ). l ++ own) one_is))
    ∙ append_assoc ((old ++ left) ++ own) border right ∙ append_assoc (old ++ left) own (border ++ right) ∙ append_assoc old left (own ++ (border ++ right))
    ∙ ap (λ (l : List ℕ). old ++ l) (row_bytes skin width false before after cells cells refl before_is after_is)
