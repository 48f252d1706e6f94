-- Tables by a kind of wrap, where each such wrap is one of another kind.
use Rattle.std.proofs.Common.{◌≡◌, ℕ, ◌-◌, ◌≤◌, inl, inr, Bool, false, List, [], ◌∷◌, map, Option, Some, None, if◌then◌else◌, arith, subst}
use Rattle.std.proofs.lemmas.Bool.Decides.{nat_tests}
use Rattle.std.specs.Prelude.{length, nat_lt, ◌==◌}
use Rattle.mad_md.specs.Lines.{LineContent}
use Rattle.mad_measure.specs.declared.spacing.Spacing.{Spacing}
use Rattle.mad_wrap.proofs.WrapModes.{by_keeps, by_fits, by_parts}
use Rattle.mad_format.specs.CompositeWraps.{IsCompositeWrap}
use Rattle.mad_blocks.specs.FittingLayouts.{IsFittingWrap, IsFittingLayout, IsFittingLayoutAt}
use Rattle.mad_blocks.specs.Layouts.{IsLayoutAt, IsLayoutBy}
use Rattle.mad_blocks.specs.LayoutParts.{Part, table, block, single, parts_of, justified, code_room, IsLineAt, AreLinesAt, IsPartAt, ArePartsAt}
use Rattle.mad_blocks.specs.Tables.{IsNextLaidOut, AreCellsLaidOut, below, IsRowLaidOutBy, columns_from, position_at, IsTableLineBy, AreTableLinesBy, IsTableLaidOutBy, centered}
use Rattle.mad_format.specs.WrappedLines.{Wrap, style_margins}
use Rattle.mad_format.specs.LineRules.{LineRules}
use Rattle.mad_format.specs.declared.composite.FmtComposite.{FmtComposite}
use Rattle.mad_format.specs.declared.line.FmtLine.{FmtLine}
use Rattle.mad_format.specs.declared.line.FmtLine.TheVariants.{Normal, TableRow}
use Rattle.mad_format.specs.declared.table.FmtTableRow.{FmtTableRow}
use Rattle.mad_format.specs.declared.table.RelativePosition.{RelativePosition}
use Rattle.mad_format.proofs.ListLemmas.{become_by}
use Rattle.mad_blocks.proofs.WideLayouts.{IsLayout}

-- each wrap of the first kind is one of the second
abbrev pub Implies : Wrap → Wrap → Type 0
Implies wraps others = (skin : LineRules) (width : ℕ) (source : FmtComposite) (lines : List FmtComposite) → wraps skin width source lines → others skin width source lines

next_by : (wraps others : Wrap) → Implies wraps others → (skin : LineRules) (width : ℕ) (cells lines : List FmtComposite) → IsNextLaidOut wraps skin width cells lines → IsNextLaidOut others skin width cells lines
next_by wraps others each skin width [] lines h = h
next_by wraps others each skin width (cell ∷ cells) lines (inl fits) = inl fits
next_by wraps others each skin width (cell ∷ cells) lines (inr wide) = inr (wide.0, each skin width cell lines wide.1)

cells_by : (wraps others : Wrap) → Implies wraps others → (skin : LineRules) (columns : List Spacing) (cells : List FmtComposite) (lines : List (List FmtComposite)) → AreCellsLaidOut wraps skin columns cells lines
    → AreCellsLaidOut others skin columns cells lines
cells_by wraps others each skin [] cells [] h = tt
cells_by wraps others each skin [] cells (ls ∷ lines) h = h
cells_by wraps others each skin (c ∷ columns) cells [] h = h
cells_by wraps others each skin (c ∷ columns) cells (ls ∷ lines) h = (next_by wraps others each skin c.width cells ls h.0, cells_by wraps others each skin columns (below cells) lines h.1)

row_by : (wraps others : Wrap) → Implies wraps others → (skin : LineRules) (columns : List Spacing) (cells : List FmtComposite) (rows : List FmtTableRow) → IsRowLaidOutBy wraps skin columns cells rows
    → IsRowLaidOutBy others skin columns cells rows
row_by wraps others each skin columns cells rows h = record {
  lines = h.lines;
  laid_out = cells_by wraps others each skin columns cells h.lines h.laid_out;
  count = h.count;
  rows_are = h.rows_are;
}

table_line_by : (wraps others : Wrap) → Implies wraps others → (skin : LineRules) (columns : List Spacing) (position : RelativePosition) (l : FmtLine) (lines : List FmtLine) → IsTableLineBy wraps skin columns position l lines
    → IsTableLineBy others skin columns position l lines
table_line_by wraps others each skin columns position (TableRow row) lines (rows, same, laid) = (rows, same, row_by wraps others each skin columns row.cells.items rows laid)
table_line_by wraps others each skin columns position _ lines h = h

table_lines_by : (wraps others : Wrap) → Implies wraps others → (skin : LineRules) (widths : List ℕ) (columns : List Spacing) (first : Bool) (ls lines : List FmtLine) → AreTableLinesBy wraps skin widths columns first ls lines
    → AreTableLinesBy others skin widths columns first ls lines
table_lines_by wraps others each skin widths columns first [] lines h = h
table_lines_by wraps others each skin widths columns first (l ∷ ls) lines (own, more, joins, here, rest) = (
  own,
  more,
  joins,
  table_line_by wraps others each skin (columns_from widths columns l) (position_at first (length ls == 0)) l own here,
  table_lines_by wraps others each skin widths (columns_from widths columns l) _ ls more rest,
)

-- a table that is laid out by the first kind is so by the second
pub table_by : (wraps others : Wrap) → Implies wraps others → (skin : LineRules) (n width : ℕ) (source lines : List FmtLine) → IsTableLaidOutBy wraps skin n width source lines → IsTableLaidOutBy others skin n width source lines
table_by wraps others each skin n width source lines (inl stays) = inl stays
table_by wraps others each skin n width source lines (inr (columns, place, (widths, kept, laid))) =
    inr (columns, place, (widths, kept, table_lines_by wraps others each skin widths (centered widths) _ source lines laid))

-- ---- a layout with the fewest lines

-- a wrap with the fewest lines is a fitting one
pub wrap_fits : (skin : LineRules) (width : ℕ) (source : FmtComposite) (lines : List FmtComposite) → IsCompositeWrap skin width source lines → IsFittingWrap skin width source lines
wrap_fits skin width source lines wrap = record {
  keeps = by_keeps skin.whole_words _ _ _ wrap.wrap;
  fits = by_fits skin.whole_words _ _ _ wrap.wrap;
  parts = λ ts tokens. by_parts skin.whole_words _ _ _ ts wrap.wrap tokens;
  made = wrap.made;
}

line_fits : (skin : LineRules) (width : ℕ) (l : FmtLine) (own : List FmtLine) → IsLineAt IsCompositeWrap skin (Some width) l own → IsLineAt IsFittingWrap skin (Some width) l own
line_fits skin width (Normal l) own (inl here) = inl here
line_fits skin width (Normal l) own (inr (wide, (wrap, wraps, same))) =
    let margins = style_margins skin width l in inr (wide, (wrap, wrap_fits skin (width - margins.0 - margins.1) l wrap wraps, same))
line_fits skin width _ own here = here

lines_fit : (skin : LineRules) (width : ℕ) (read lines : List FmtLine) → AreLinesAt IsCompositeWrap skin (Some width) read lines → AreLinesAt IsFittingWrap skin (Some width) read lines
lines_fit skin width = become_by (IsLineAt IsCompositeWrap skin (Some width)) (IsLineAt IsFittingWrap skin (Some width)) (line_fits skin width)

part_fits : (skin : LineRules) (width : ℕ) (p : Part) (own : List FmtLine) → IsPartAt IsCompositeWrap skin width (Some width) p own → IsPartAt IsFittingWrap skin width (Some width) p own
part_fits skin width (table ls) own here = table_by IsCompositeWrap IsFittingWrap wrap_fits skin _ width ls own here
part_fits skin width (block ls) own here = lines_fit skin width (map Normal (justified (code_room skin (Some width)) ls)) own here
part_fits skin width (single l) own here = lines_fit skin width (l ∷ []) own here

parts_fit : (skin : LineRules) (width : ℕ) (ps : List Part) (lines : List FmtLine) → ArePartsAt IsCompositeWrap skin width (Some width) ps lines → ArePartsAt IsFittingWrap skin width (Some width) ps lines
parts_fit skin width = become_by (IsPartAt IsCompositeWrap skin width (Some width)) (IsPartAt IsFittingWrap skin width (Some width)) (part_fits skin width)

-- a layout with the fewest lines is a fitting one
pub layout_fits : (skin : LineRules) (width : ℕ) (text : List LineContent) (lines : List FmtLine) → IsLayout skin width text lines → IsFittingLayout skin width text lines
layout_fits skin width text lines layout = record { read = layout.read; reads = layout.reads; laid = parts_fit skin width (parts_of layout.read) lines layout.laid }

-- at a width of three and more the text is wrapped
pub wrapped_at : (skin : LineRules) (width : ℕ) (text : List LineContent) (lines : List FmtLine) → 3 ≤ width → IsLayoutAt skin (Some width) text lines → IsLayout skin width text lines
wrapped_at skin width text lines wide h =
    let test : nat_lt width 3 ≡ false = grind (arith, nat_tests) in
    subst (λ (b : Bool). IsLayoutBy IsCompositeWrap skin width (if b then None else Some width) text lines) test h

-- so it is a fitting layout
pub layout_fitting : (skin : LineRules) (width : Option ℕ) (text : List LineContent) (lines : List FmtLine) → IsLayoutAt skin width text lines → IsFittingLayoutAt skin width text lines
layout_fitting skin None text lines h = tt
layout_fitting skin (Some width) text lines h = λ wide. layout_fits skin width text lines (wrapped_at skin width text lines wide h)
