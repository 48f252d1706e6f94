-- The lines of a text in their parts, and those of its layout.
use Rattle.std.proofs.Common.{◌≡◌, ℕ, ◌-◌, ◌^◌, ◌<◌, ◌≤◌, Bool, true, false, List, [], ◌∷◌, map, take, Option, Some, None, refl, ap, sym, ◌∙◌, subst, arith}
use Rattle.std.specs.Prelude.{min}
use Rattle.mad_md.specs.Lines.{StyledRuns, LineContent, normal, table_row, table_rule, horizontal_rule}
use Rattle.mad_md.specs.declared.alignment.Alignment.{Alignment}
use Rattle.mad_style.specs.Kinds.{kind_of}
use Rattle.mad_style.specs.LineStyles.{width_inside}
use Rattle.mad_style.specs.declared.kinds.CompositeKind.{CompositeKind}
use Rattle.mad_measure.specs.TextColumns.{width_of}
use Rattle.mad_format.specs.CompositeWraps.{IsCompositeWrap}
use Rattle.mad_layout.specs.FlaggedLines.{widest_in}
use Rattle.mad_blocks.specs.TextParts.{is_code, is_table, text_parts}
use Rattle.mad_layout.specs.FlaggedTexts.{lines_in, lines_in_parts}
use Rattle.mad_format.specs.Indents.{indent}
use Rattle.mad_blocks.proofs.WideLayouts.{IsLayout}
use Rattle.mad_format.specs.FmtLines.{IsLineRead, IsCompositeRead}
use Rattle.mad_blocks.specs.LayoutParts.{Part, table, block, single, is_code_kind, parts_of, widest, placed_code, ArePartsAt}
use Rattle.mad_layout.specs.Premises.{inner_width, runs_text}
use Rattle.mad_rows.specs.RowStyles.{line_rules, line_style}
use Rattle.mad_format.specs.Wraps.{text_of}
use Rattle.mad_rows.specs.declared.row_skin.RowSkin.{RowSkin}
use Rattle.mad_format.specs.declared.composite.FmtComposite.{FmtComposite}
use Rattle.mad_format.specs.declared.line.FmtLine.{FmtLine}
use Rattle.mad_format.specs.declared.line.FmtLine.TheVariants.{Normal, TableRow, TableRule, HorizontalRule}
use Rattle.mad_layout.proofs.DrawnParts.{runs_are}
use Rattle.mad_blocks.proofs.PartLemmas.{code_is}
use Rattle.mad_layout.proofs.RowChars.{AreWidths, place_for, line_chars}
use Rattle.mad_layout.proofs.RowsAcross.{IsReadIn, AreReadIn, HaveFirstRows, code_indent, front_across}
use Rattle.mad_layout.proofs.ReadParts.{AreCodeRead, ArePartsRead, parts_read, all_in}
use Rattle.mad_layout.proofs.TablesAcross.{table_rows_across}
use Rattle.mad_layout.proofs.SoundLines.{AreSoundLines}

-- ---- a block of code

-- the columns that the margins of code leave
abbrev code_left : RowSkin → ℕ → ℕ
code_left skin width = width_inside skin.code_block width

inner_code : (skin : RowSkin) (width : ℕ) (said : StyledRuns) → is_code_kind (kind_of said.style) ≡ true → inner_width skin width said ≡ code_left skin width
inner_code skin width said on =
    ap (λ (k : CompositeKind). width_inside (line_style skin k) width) (code_is (kind_of said.style) on)

widest_same : (skin : RowSkin) (room : ℕ) (cs : List LineContent) (ls : List FmtComposite) → room < 2 ^ 64 - 1 → AreCodeRead skin cs ls → min (widest ls) room ≡ min (widest_in cs) room
widest_same skin room [] [] bound h = refl
widest_same skin room (normal said ∷ cs) (l ∷ ls) bound h =
    let rest : min (widest ls) room ≡ min (widest_in cs) room = widest_same skin room cs ls bound h.1 in
    let read : IsCompositeRead (line_rules skin) said l = h.0.read in
    let text : width_of (runs_text said.runs) ≡ width_of (text_of l) = ap width_of (ap runs_text (sym read.text) ∙ runs_are l.compounds.items) in
    let none : indent skin.list_items_indentation_mode l.kind ≡ 0 = ap (indent skin.list_items_indentation_mode) read.kind ∙ code_indent skin (kind_of said.style) h.0.code in
    omega (arith, rest, text, none, read.measured, bound)
widest_same skin room (table_row cells ∷ cs) (l ∷ ls) bound h = absurd h.0.read
widest_same skin room (table_rule aligns ∷ cs) (l ∷ ls) bound h = absurd h.0.read
widest_same skin room (horizontal_rule ∷ cs) (l ∷ ls) bound h = absurd h.0.read
widest_same skin room _ _ bound h = absurd h

block_placed : (skin : RowSkin) (width columns : ℕ) (part : List LineContent) (above : Option (List Alignment)) (first : Bool) (cs : List LineContent) (ls : List FmtComposite) → columns ≡ min (widest_in part) (code_left skin width) → widest_in cs ≤ widest_in part
    → AreCodeRead skin cs ls → AreReadIn skin width (lines_in part above first cs) (map Normal (map (placed_code columns) ls))
block_placed skin width columns part above first [] [] is most h = tt
block_placed skin width columns part above first (normal said ∷ cs) (l ∷ ls) is most h =
    let read : IsCompositeRead (line_rules skin) said l = h.0.read in
    let width_is : columns ≡ min (widest_in part) (inner_width skin width said) = is ∙ ap (min (widest_in part)) (sym (inner_code skin width said h.0.code)) in (
      record {
        kind = read.kind;
        text = read.text;
        measured = read.measured;
        spacing = ap (place_for true) width_is ∙ ap (λ (b : Bool). place_for b (min (widest_in part) (inner_width skin width said))) (sym h.0.code);
        widest = λ on. omega (arith, most);
      },
      block_placed skin width columns part _ false cs ls is (omega (arith, most)) h.1,
    )
block_placed skin width columns part above first (table_row cells ∷ cs) (l ∷ ls) is most h = absurd h.0.read
block_placed skin width columns part above first (table_rule aligns ∷ cs) (l ∷ ls) is most h = absurd h.0.read
block_placed skin width columns part above first (horizontal_rule ∷ cs) (l ∷ ls) is most h = absurd h.0.read
block_placed skin width columns part above first _ _ is most h = absurd h

-- ---- a part

line_placed : (skin : RowSkin) (width : ℕ) (part : List LineContent) (c : LineContent) (l : FmtLine) → is_code c ≡ false → is_table c ≡ false → IsLineRead (line_rules skin) c l → IsReadIn skin width part c l
line_placed skin width part (normal said) (Normal l) other no_table read = record {
  kind = read.kind;
  text = read.text;
  measured = read.measured;
  spacing = read.spacing ∙ ap (λ (b : Bool). place_for b (min (widest_in part) (inner_width skin width said))) (sym other);
  widest = λ on. absurd (cc);
}
line_placed skin width part (normal said) (TableRow row) other no_table read = absurd read
line_placed skin width part (normal said) (TableRule rule) other no_table read = absurd read
line_placed skin width part (normal said) HorizontalRule other no_table read = absurd read
line_placed skin width part (table_row cells) l other no_table read = absurd (cc)
line_placed skin width part (table_rule aligns) l other no_table read = absurd (cc)
line_placed skin width part horizontal_rule (Normal l) other no_table read = absurd read
line_placed skin width part horizontal_rule (TableRow row) other no_table read = absurd read
line_placed skin width part horizontal_rule (TableRule rule) other no_table read = absurd read
line_placed skin width part horizontal_rule HorizontalRule other no_table read = tt

-- ---- a text

parts_across : (skin : RowSkin) (width drawn : ℕ) (n : ℕ) (css : List (List LineContent)) (ps : List Part) (lines : List FmtLine) → AreWidths width drawn → 3 ≤ width
    → AreSoundLines skin width (take n (all_in css)) → ArePartsRead skin css ps → ArePartsAt IsCompositeWrap (line_rules skin) width (Some width) ps lines
    → HaveFirstRows skin width drawn n (all_in css) lines
parts_across skin width drawn n [] [] lines bound wide keeps reads laid = ([], refl, ap (λ (ls : List FmtLine). take n (map (line_chars skin drawn) ls)) (sym laid))
parts_across skin width drawn n [] (p ∷ ps) lines bound wide keeps reads laid = absurd reads
parts_across skin width drawn n (cs ∷ css) [] lines bound wide keeps reads laid = absurd reads
parts_across skin width drawn n ((c ∷ cs) ∷ css) (table ls ∷ ps) lines bound wide keeps reads (own, others, joins, here, more) =
    subst (HaveFirstRows skin width drawn n (all_in ((c ∷ cs) ∷ css))) (sym joins)
    (table_rows_across skin width drawn n (c ∷ cs) (all_in css) ls own others bound wide (λ m k. parts_across skin width drawn m css ps others bound wide k reads.1 more) keeps reads.0 here)
parts_across skin width drawn n ((c ∷ cs) ∷ css) (block (l ∷ ls) ∷ ps) lines bound wide keeps reads (own, others, joins, here, more) =
    let columns : ℕ = min (widest (l ∷ ls)) (code_left skin width) in
    let placed = block_placed skin width columns (c ∷ cs) None true (c ∷ cs) (l ∷ ls) (widest_same skin (code_left skin width) (c ∷ cs) (l ∷ ls) (omega (arith, bound.narrower, bound.small)) reads.0) (omega arith) reads.0 in
    subst (HaveFirstRows skin width drawn n (all_in ((c ∷ cs) ∷ css))) (sym joins)
    (front_across skin width drawn n (lines_in (c ∷ cs) None true (c ∷ cs)) (all_in css) (map Normal (map (placed_code columns) (l ∷ ls))) own others bound
    (λ m k. parts_across skin width drawn m css ps others bound wide k reads.1 more) keeps placed here)
parts_across skin width drawn n ((c ∷ []) ∷ css) (single l ∷ ps) lines bound wide keeps reads (own, others, joins, here, more) =
    subst (HaveFirstRows skin width drawn n (all_in ((c ∷ []) ∷ css))) (sym joins)
    (front_across skin width drawn n (lines_in (c ∷ []) None true (c ∷ [])) (all_in css) (l ∷ []) own others bound
    (λ m k. parts_across skin width drawn m css ps others bound wide k reads.1 more) keeps (line_placed skin width (c ∷ []) c l reads.0.0 reads.0.1 reads.0.2, tt) here)
parts_across skin width drawn n _ _ lines bound wide keeps reads _ = absurd reads.0

-- The first rows of a layout are the first rows of the text's lines, where the first lines keep the premises.
pub text_across : (skin : RowSkin) (width drawn : ℕ) (n : ℕ) (text : List LineContent) (lines : List FmtLine) → AreWidths width drawn → 3 ≤ width → AreSoundLines skin width (take n (lines_in_parts text))
    → IsLayout (line_rules skin) width text lines → HaveFirstRows skin width drawn n (lines_in_parts text) lines
text_across skin width drawn n text lines bound wide keeps layout =
    parts_across skin width drawn n (text_parts text) (parts_of layout.read) lines bound wide keeps
    (parts_read skin text layout.read layout.reads) layout.laid
