-- A composite by itself is displayed as it is written.
use Rattle.std.proofs.Common.{◌≡◌, ℕ, ◌+◌, List, [], ◌++◌, map, None, Result, ap, subst, ◌∙◌, inl, arith}
use Rattle.std.specs.Prelude.{false, unwrap_or}
use Rattle.std.proofs.lemmas.List.{append-nil}
use Rattle.mad_md.specs.Flagged.{run_of}
use Rattle.mad_md.specs.ReadInline.{IsReadInline}
use Rattle.mad_md.specs.declared.composite.Composite.{Composite}
use Rattle.mad_md.specs.declared.composite.CompositeStyle.TheVariants.{Paragraph as ParagraphText}
use Rattle.mad_term.specs.Draws.{Draws}
use Rattle.mad_term.specs.Trace.{Trace}
use Rattle.mad_term.specs.declared.errors.Error.{Error}
use Rattle.mad_style.specs.declared.compound_styles.CompoundStyle.{CompoundStyle}
use Rattle.mad_style.specs.declared.line_styles.LineStyle.{LineStyle}
use Rattle.mad_style.specs.declared.kinds.CompositeKind.TheVariants.{Paragraph}
use Rattle.mad_style.specs.Kinds.{kind_of}
use Rattle.mad_style.specs.LineStyles.{margins_at}
use Rattle.mad_layout.specs.Inlines.{IsInlineOf, IsDisplayedAsWritten, WritesInline}
use Rattle.mad_draw.specs.Pieces.{RowPiece, pieces_bytes, spaces}
use Rattle.mad_rows.specs.Rows.{align_in, place_of, left_of_place, right_of_place, inner_blanks, margins_of, prefix_pieces, compound_piece, composite_pieces, free_pieces, composite_bytes}
use Rattle.mad_rows.specs.RowStyles.{line_style}
use Rattle.mad_rows.specs.declared.row_skin.RowSkin.{RowSkin}
use Rattle.mad_format.specs.declared.composite.FmtComposite.{FmtComposite}
use Rattle.mad_rows.proofs.PieceLemmas.{pieces_of_runs}

free_is : (skin : RowSkin) (l : FmtComposite) → l.spacing ≡ None → l.margins ≡ None → composite_pieces skin None (margins_of skin None l) false l ≡ free_pieces skin l.kind (map run_of l.compounds.items)
free_is skin l spacing margins =
    let style : LineStyle = line_style skin l.kind in
    let blank : CompoundStyle = skin.paragraph.compound_style in
    let left : (margins_of skin None l).0 ≡ style.left_margin = ap (λ o. (unwrap_or o (margins_at style None)).0) margins in
    let outer : 0 + (margins_of skin None l).0 ≡ style.left_margin = omega (arith, left) in
    let inner_left : (inner_blanks l).0 ≡ 0 = ap (λ s. left_of_place (align_in s) l.visible_length (place_of s)) spacing in
    let inner_right : (inner_blanks l).1 ≡ 0 = ap (λ s. right_of_place (align_in s) l.visible_length (place_of s)) spacing in
    let text : List RowPiece = map (compound_piece skin style) l.compounds.items in
    ap (λ n. spaces blank n ++ (spaces style.compound_style (inner_blanks l).0 ++ (prefix_pieces skin l.kind ++ (text ++ (spaces style.compound_style (inner_blanks l).1 ++ []))))) outer
    ∙ ap (λ n. spaces blank style.left_margin ++ (spaces style.compound_style n ++ (prefix_pieces skin l.kind ++ (text ++ (spaces style.compound_style (inner_blanks l).1 ++ []))))) inner_left
    ∙ ap (λ n. spaces blank style.left_margin ++ (prefix_pieces skin l.kind ++ (text ++ (spaces style.compound_style n ++ [])))) inner_right
    ∙ ap (λ ps. spaces blank style.left_margin ++ (prefix_pieces skin l.kind ++ ps)) (append-nil text ∙ pieces_of_runs skin style l.compounds.items)

-- a composite of a line that was read is displayed by the bytes that are written of it
pub displayed : (skin : RowSkin) (src : List ℕ) (l : FmtComposite) → IsInlineOf skin src l → IsDisplayedAsWritten skin src l
displayed skin src l h items reading =
    ap pieces_bytes (free_is skin l h.spacing h.margins ∙ ap (λ kind. free_pieces skin kind (map run_of l.compounds.items)) h.kind
    ∙ ap (free_pieces skin Paragraph) (h.text.1.each items reading))

-- a paragraph that is a line's reading is drawn as the line
pub written : {T : Type 0} (skin : RowSkin) (src : List ℕ) (read : Composite) (old : Trace) (r : Result T Error) (new : Trace) → read.style ≡ ParagraphText → IsReadInline src read.compounds.items
    → Draws old (composite_bytes skin read) r new → WritesInline skin src old r new
written skin src read old r new style reads drawn =
    let bytes = ap (λ s. pieces_bytes (free_pieces skin (kind_of s) (map run_of read.compounds.items))) style ∙ ap (λ runs. pieces_bytes (free_pieces skin Paragraph runs)) (reads.1.each reads.1.reading reads.1.reads) in
    inl (reads.1.reading, reads.1.reads, subst (λ b. Draws old b r new) bytes drawn)
