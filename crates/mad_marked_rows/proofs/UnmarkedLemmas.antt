-- Without runs a line is as it is without marks.
use Rattle.std.proofs.Common.{◌≡◌, ℕ, zero, suc, ◌+◌, ◌<◌, Bool, true, false, cond, Option, None, List, [], ◌∷◌, ◌++◌, map, length, drop, chars, refl, sym, ap, ◌∙◌, arith, append_assoc, append-nil}
use Rattle.std.specs.Prelude.{encode_utf8_all, slice_index, if◌then◌else◌}
use Rattle.std.specs.List.{AllByRecursion, flat_map}
use Rattle.std.specs.Char.{is_whitespace}
use Rattle.std.proofs.lemmas.Str.{encodes-chars}
use Rattle.mad_md.specs.Flagged.{Flags, flagged_of, flags_of, run_of}
use Rattle.mad_md.specs.declared.compound.Compound.{Compound}
use Rattle.mad_term.specs.declared.styles.ContentStyle.{ContentStyle}
use Rattle.mad_style.specs.declared.kinds.CompositeKind.{CompositeKind}
use Rattle.mad_style.specs.declared.line_styles.LineStyle.{LineStyle}
use Rattle.mad_draw.specs.Pieces.{RowPiece, spaces}
use Rattle.mad_format.specs.declared.composite.FmtComposite.{FmtComposite}
use Rattle.mad_format.specs.declared.line.FmtLine.{FmtLine}
use Rattle.mad_format.specs.declared.line.FmtLine.TheVariants.{Normal, TableRow, TableRule, HorizontalRule}
use Rattle.mad_rows.specs.RowStyles.{compound_style, line_style}
use Rattle.mad_rows.specs.Rows.{cell_margins, cell_pieces, composite_pieces, compound_piece, inner_blanks, line_pieces, margins_of, outer_blanks, placed_pieces, prefix_pieces, row_columns, vertical_piece}
use Rattle.mad_rows.specs.declared.row_skin.RowSkin.{RowSkin}
use Rattle.mad_mark_runs.specs.Marks.{blank_value, value_at}
use Rattle.mad_marks.specs.RowMarks.{counted}
use Rattle.mad_marked_rows.specs.MarkedTexts.{goes_on, LetterPart, letters_of, mark_value, number_next, part_piece, parts_from, text_pieces}
use Rattle.mad_marked_rows.specs.RowLaws.{AreWholeTexts, IsWholeText}
use Rattle.mad_marked_rows.specs.MarkedRows.{marked_cells, marked_composite, marked_compounds, marked_line}

none_by : (n : ℕ) (w : Bool) → cond w (blank_value [] n) (value_at [] n) ≡ 0
none_by zero true = refl
none_by (suc n) true = refl
none_by n false = refl

no_mark : (n c : ℕ) → mark_value [] n c ≡ 0
no_mark n c = none_by n (is_whitespace c)

-- all of a text goes on with a part without a mark
one_part : (n : ℕ) (done cs : List ℕ) → parts_from (record { value = 0; chars = done }) (letters_of [] n cs) ≡ record { value = 0; chars = done ++ cs } ∷ []
one_part n done [] = ap (λ (l : List ℕ). let p : LetterPart = record { value = 0; chars = l } in p ∷ []) (sym (append-nil done))
one_part n done (c ∷ cs) =
    ap (λ (v : ℕ). cond (goes_on 0 v c) (parts_from (record { value = 0; chars = done ++ c ∷ [] }) (letters_of [] (number_next n c) cs))
    (record { value = 0; chars = done } ∷ parts_from (record { value = v; chars = c ∷ [] }) (letters_of [] (number_next n c) cs))) (no_mark n c)
    ∙ one_part (number_next n c) (done ++ c ∷ []) cs ∙ ap (λ (l : List ℕ). let p : LetterPart = record { value = 0; chars = l } in p ∷ []) (append_assoc done (c ∷ []) cs)

unmarked_text : (paint : ℕ → ContentStyle → ContentStyle) (style : ContentStyle) (n : ℕ) (cs : List ℕ) → paint 0 style ≡ style → 0 < length cs → text_pieces paint [] style n cs ≡ record { style = style; text = encode_utf8_all cs } ∷ []
unmarked_text paint style n [] plain some = absurd (omega arith)
unmarked_text paint style n (c ∷ cs) plain some =
    ap (λ (v : ℕ). map (part_piece paint style) (parts_from (record { value = v; chars = c ∷ [] }) (letters_of [] (number_next n c) cs))) (no_mark n c)
    ∙ ap (map (part_piece paint style)) (one_part (number_next n c) (c ∷ []) cs)
    ∙ ap (λ (s : ContentStyle). let p : RowPiece = record { style = s; text = encode_utf8_all (c ∷ cs) } in p ∷ []) plain

unmarked_compound : (paint : ℕ → ContentStyle → ContentStyle) (has : Flags → Bool) (skin : RowSkin) (style : LineStyle) (n : ℕ) (k : Compound) (t : Bool) → ((s : ContentStyle) → paint 0 s ≡ s) → IsWholeText k
    → cond t (text_pieces paint [] (compound_style skin style (run_of k)).object_style n (chars k.src.now)) (compound_piece skin style k ∷ []) ≡ compound_piece skin style k ∷ []
unmarked_compound paint has skin style n k true plain whole =
    let own = (compound_style skin style (run_of k)).object_style in
    unmarked_text paint own n (chars k.src.now) (plain own) whole.some ∙ ap (λ (t : List ℕ). let p : RowPiece = record { style = own; text = t } in p ∷ []) (encodes-chars k.src.now whole.utf8)
unmarked_compound paint has skin style n k false plain whole = refl

unmarked_compounds : (paint : ℕ → ContentStyle → ContentStyle) (has : Flags → Bool) (skin : RowSkin) (style : LineStyle) (n : ℕ) (ks : List Compound) → ((s : ContentStyle) → paint 0 s ≡ s) → AllByRecursion IsWholeText ks
    → marked_compounds paint has [] skin style n ks ≡ map (compound_piece skin style) ks
unmarked_compounds paint has skin style n [] plain whole = refl
unmarked_compounds paint has skin style n (k ∷ ks) plain whole =
    let m = n + counted has (flagged_of k) in
    ap (λ l. l ++ marked_compounds paint has [] skin style m ks) (unmarked_compound paint has skin style n k (has (flags_of k)) plain whole.0)
    ∙ ap (λ l. compound_piece skin style k ∷ l) (unmarked_compounds paint has skin style m ks plain whole.1)

unmarked_composite : (paint : ℕ → ContentStyle → ContentStyle) (has : CompositeKind → Flags → Bool) (skin : RowSkin) (outer : Option ℕ) (margins : ℕ × ℕ) (filled : Bool) (n : ℕ) (l : FmtComposite) → ((s : ContentStyle) → paint 0 s ≡ s) → AllByRecursion IsWholeText l.compounds.items
    → marked_composite paint has [] skin outer margins filled n l ≡ composite_pieces skin outer margins filled l
unmarked_composite paint has skin outer margins filled n l plain whole =
    let style = line_style skin l.kind in
    let blanks = outer_blanks style.align outer margins l in
    ap (λ (text : List RowPiece). spaces skin.paragraph.compound_style blanks.0
    ++ (spaces style.compound_style (inner_blanks l).0
    ++ (prefix_pieces skin l.kind
    ++ (text
    ++ (spaces style.compound_style (inner_blanks l).1
    ++ (if filled then spaces skin.paragraph.compound_style blanks.1 else [])))))) (unmarked_compounds paint (has l.kind) skin style n l.compounds.items plain whole)

unmarked_cells : (paint : ℕ → ContentStyle → ContentStyle) (has : CompositeKind → Flags → Bool) (skin : RowSkin) (ns : List ℕ) (cs : List FmtComposite) → ((s : ContentStyle) → paint 0 s ≡ s) → AllByRecursion (λ (l : FmtComposite). AllByRecursion IsWholeText l.compounds.items) cs
    → marked_cells paint has [] skin ns cs ≡ flat_map (cell_pieces skin) cs
unmarked_cells paint has skin ns [] plain whole = refl
unmarked_cells paint has skin ns (c ∷ cs) plain whole =
    ap (λ l. (vertical_piece skin ∷ l) ++ marked_cells paint has [] skin (drop 1 ns) cs) (unmarked_composite paint has skin None (cell_margins skin) true (slice_index ns 0) c plain whole.0)
    ∙ ap (λ l. cell_pieces skin c ++ l) (unmarked_cells paint has skin (drop 1 ns) cs plain whole.1)

-- THE LAW
pub line_unmarked : (paint : ℕ → ContentStyle → ContentStyle) (has : CompositeKind → Flags → Bool) (skin : RowSkin) (outer : Option ℕ) (filled : Bool) (numbers : List ℕ) (line : FmtLine) → ((s : ContentStyle) → paint 0 s ≡ s) → AreWholeTexts line
    → marked_line paint has [] skin outer filled numbers line ≡ line_pieces skin outer filled line
line_unmarked paint has skin outer filled numbers (Normal l) plain whole = unmarked_composite paint has skin outer (margins_of skin outer l) filled (slice_index numbers 0) l plain whole.0
line_unmarked paint has skin outer filled numbers (TableRow row) plain whole =
    ap (λ l. placed_pieces skin outer filled (row_columns skin row.cells.items) (l ++ vertical_piece skin ∷ [])) (unmarked_cells paint has skin numbers row.cells.items plain whole)
line_unmarked paint has skin outer filled numbers (TableRule rule) plain whole = refl
line_unmarked paint has skin outer filled numbers HorizontalRule plain whole = refl
