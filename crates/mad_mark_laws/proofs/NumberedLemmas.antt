-- THE LAW of a layout: its rows have numbers, and with these numbers the marks that the text says, tables included.
use Rattle.std.proofs.Common.{◌≡◌, ℕ, Bool, true, false, List, [], ◌∷◌, ◌++◌, map, length, Option, refl, sym, ap, ◌∙◌, append_assoc, inl, inr, subst}
use Rattle.std.specs.Prelude.{◌==◌}
use Rattle.std.specs.List.{flat_map}
use Rattle.mad_md.specs.Flagged.{Flags}
use Rattle.mad_md.specs.Lines.{LineContent}
use Rattle.mad_style.specs.declared.kinds.CompositeKind.{CompositeKind}
use Rattle.mad_measure.specs.declared.spacing.Spacing.{Spacing}
use Rattle.mad_format.specs.CompositeWraps.{IsCompositeWrap}
use Rattle.mad_format.specs.LineRules.{LineRules}
use Rattle.mad_format.specs.declared.composite.FmtComposite.{FmtComposite}
use Rattle.mad_format.specs.declared.line.FmtLine.{FmtLine}
use Rattle.mad_format.specs.declared.line.FmtLine.TheVariants.{Normal, TableRow, TableRule, HorizontalRule}
use Rattle.mad_blocks.specs.LayoutParts.{AreLinesAt, IsPartAt, ArePartsAt, Part, table, block, single, justified, placed_code, code_room, block_width, parts_of, with_line, with_table, with_composite, is_code_kind, table_width, wrap_width}
use Rattle.mad_blocks.specs.Layouts.{IsLayoutAt}
use Rattle.mad_blocks.specs.Tables.{AreTableLinesBy, IsTableLaidOutBy, columns_from, position_at, columns_count, centered}
use Rattle.mad_mark_runs.specs.declared.mark_runs.MarkRun.{MarkRun}
use Rattle.mad_marks.specs.LineMarks.{Follows}
use Rattle.mad_mark_laws.specs.Laws.{HaveNumbers}
use Rattle.mad_marks.specs.RowNumbers.{cells_of, firsts_of, number_after, rows_numbers, AreNumbered}
use Rattle.mad_mark_laws.proofs.TableLemmas.{line_marked, stay_marked, table_line_marked}

-- the number after lines of the text
abbrev pub number_past : (CompositeKind → Flags → Bool) → ℕ → List FmtLine → ℕ
number_past has n [] = n
number_past has n (l ∷ ls) = number_past has (number_after has n (cells_of l)) ls

none_before : (has : CompositeKind → Flags → Bool) (runs : List MarkRun) (n : ℕ) (ys rows more : List FmtLine) (ns ms : List (List ℕ)) → rows ≡ [] → ns ≡ [] → AreNumbered has runs n ys more ms → AreNumbered has runs n ys (rows ++ more) (ns ++ ms)
none_before has runs n ys rows more ns ms r m h =
    subst (λ rs. AreNumbered has runs n ys (rs ++ more) (ns ++ ms)) (sym r) (subst (λ ks. AreNumbered has runs n ys more (ks ++ ms)) (sym m) h)

-- of lines, one after the other
numbers_joined : (has : CompositeKind → Flags → Bool) (runs : List MarkRun) (n : ℕ) (xs ys rows more : List FmtLine) (ns ms : List (List ℕ)) → AreNumbered has runs n xs rows ns → AreNumbered has runs (number_past has n xs) ys more ms
    → AreNumbered has runs n (xs ++ ys) (rows ++ more) (ns ++ ms)
numbers_joined has runs n [] ys rows more ns ms a b = none_before has runs n ys rows more ns ms a.0 a.1 b
numbers_joined has runs n (x ∷ xs) ys rows more ns ms (own, others, after, rows_are, ns_are, marked, rest) b = (
  own,
  others ++ more,
  after ++ ms,
  ap (λ l. l ++ more) rows_are ∙ append_assoc own others more,
  ap (λ l. l ++ ms) ns_are ∙ append_assoc (rows_numbers has (firsts_of has n (cells_of x)) (map cells_of own)) after ms,
  marked,
  numbers_joined has runs (number_after has n (cells_of x)) xs ys others more after ms rest b,
)

have_joined : (has : CompositeKind → Flags → Bool) (runs : List MarkRun) (n : ℕ) (xs ys rows own more : List FmtLine) → rows ≡ own ++ more → HaveNumbers has runs n xs own → HaveNumbers has runs (number_past has n xs) ys more → HaveNumbers has runs n (xs ++ ys) rows
have_joined has runs n xs ys rows own more same a b = (a.0 ++ b.0, subst (λ rs. AreNumbered has runs n (xs ++ ys) rs (a.0 ++ b.0)) (sym same) (numbers_joined has runs n xs ys own more a.0 b.0 a.1 b.1))

-- ---- lines

lines_numbered : (has : CompositeKind → Flags → Bool) (runs : List MarkRun) (n : ℕ) (skin : LineRules) (width : Option ℕ) (source rows : List FmtLine) → Follows has → AreLinesAt IsCompositeWrap skin width source rows → HaveNumbers has runs n source rows
lines_numbered has runs n skin width [] rows follows h = ([], (h, refl))
lines_numbered has runs n skin width (l ∷ ls) rows follows (own, others, same, becomes, more) =
    let rest = lines_numbered has runs (number_after has n (cells_of l)) skin width ls others follows more in
    (rows_numbers has (firsts_of has n (cells_of l)) (map cells_of own) ++ rest.0, (own, others, rest.0, same, refl, line_marked has runs n skin width l own follows becomes, rest.1))

-- a place changes no number
placed_numbered : (has : CompositeKind → Flags → Bool) (runs : List MarkRun) (n width : ℕ) (ls : List FmtComposite) (rows : List FmtLine) (ns : List (List ℕ)) → AreNumbered has runs n (map Normal (map (placed_code width) ls)) rows ns → AreNumbered has runs n (map Normal ls) rows ns
placed_numbered has runs n width [] rows ns h = h
placed_numbered has runs n width (l ∷ ls) rows ns (own, others, after, rows_are, ns_are, marked, rest) =
    (own, others, after, rows_are, ns_are, marked, placed_numbered has runs (number_after has n (l ∷ [])) width ls others after rest)

stay_numbered : (has : CompositeKind → Flags → Bool) (runs : List MarkRun) (n : ℕ) (ls : List FmtLine) → HaveNumbers has runs n ls ls
stay_numbered has runs n [] = ([], (refl, refl))
stay_numbered has runs n (l ∷ ls) =
    let rest = stay_numbered has runs (number_after has n (cells_of l)) ls in
    (rows_numbers has (firsts_of has n (cells_of l)) (cells_of l ∷ []) ++ rest.0, (l ∷ [], ls, rest.0, refl, refl, stay_marked has runs n (cells_of l), rest.1))

table_lines_numbered : (has : CompositeKind → Flags → Bool) (runs : List MarkRun) (n : ℕ) (skin : LineRules) (widths : List ℕ) (columns : List Spacing) (first : Bool) (ls rows : List FmtLine) → Follows has
    → AreTableLinesBy IsCompositeWrap skin widths columns first ls rows → HaveNumbers has runs n ls rows
table_lines_numbered has runs n skin widths columns first [] rows follows h = ([], (h, refl))
table_lines_numbered has runs n skin widths columns first (l ∷ ls) rows follows (own, others, same, becomes, more) =
    let rest = table_lines_numbered has runs (number_after has n (cells_of l)) skin widths (columns_from widths columns l) false ls others follows more in (
      rows_numbers has (firsts_of has n (cells_of l)) (map cells_of own) ++ rest.0,
      (own, others, rest.0, same, refl, table_line_marked has runs n skin (columns_from widths columns l) (position_at first (length ls == 0)) l own follows becomes, rest.1),
    )

table_numbered : (has : CompositeKind → Flags → Bool) (runs : List MarkRun) (n : ℕ) (skin : LineRules) (count width : ℕ) (ls rows : List FmtLine) → Follows has → IsTableLaidOutBy IsCompositeWrap skin count width ls rows → HaveNumbers has runs n ls rows
table_numbered has runs n skin count width ls rows follows (inl (none, same)) = subst (HaveNumbers has runs n ls) (sym same) (stay_numbered has runs n ls)
table_numbered has runs n skin count width ls rows follows (inr (some, wide, (widths, kept, lines))) = table_lines_numbered has runs n skin widths (centered widths) true ls rows follows lines

-- ---- parts

abbrev part_lines : Part → List FmtLine
part_lines (table ls) = ls
part_lines (block ls) = map Normal ls
part_lines (single l) = l ∷ []

part_numbered : (has : CompositeKind → Flags → Bool) (runs : List MarkRun) (n : ℕ) (skin : LineRules) (tables : ℕ) (width : Option ℕ) (p : Part) (rows : List FmtLine) → Follows has → IsPartAt IsCompositeWrap skin tables width p rows
    → HaveNumbers has runs n (part_lines p) rows
part_numbered has runs n skin tables width (table ls) rows follows h = table_numbered has runs n skin (columns_count ls) tables ls rows follows h
part_numbered has runs n skin tables width (block ls) rows follows h =
    let laid = lines_numbered has runs n skin width (map Normal (justified (code_room skin width) ls)) rows follows h in
    (laid.0, placed_numbered has runs n (block_width (code_room skin width) ls) ls rows laid.0 laid.1)
part_numbered has runs n skin tables width (single l) rows follows h = lines_numbered has runs n skin width (l ∷ []) rows follows h

parts_numbered : (has : CompositeKind → Flags → Bool) (runs : List MarkRun) (n : ℕ) (skin : LineRules) (tables : ℕ) (width : Option ℕ) (ps : List Part) (rows : List FmtLine) → Follows has → ArePartsAt IsCompositeWrap skin tables width ps rows
    → HaveNumbers has runs n (flat_map part_lines ps) rows
parts_numbered has runs n skin tables width [] rows follows h = ([], (h, refl))
parts_numbered has runs n skin tables width (p ∷ ps) rows follows (own, others, same, becomes, more) =
    have_joined has runs n (part_lines p) (flat_map part_lines ps) rows own others same (part_numbered has runs n skin tables width p own follows becomes)
    (parts_numbered has runs (number_past has n (part_lines p)) skin tables width ps others follows more)

in_front : (code : Bool) (l : FmtComposite) (ps : List Part) → flat_map part_lines (with_composite code l ps) ≡ Normal l ∷ flat_map part_lines ps
in_front true l [] = refl
in_front true l (table ls ∷ ps) = refl
in_front true l (block ls ∷ ps) = refl
in_front true l (single x ∷ ps) = refl
in_front false l ps = refl

table_front : (l : FmtLine) (ps : List Part) → flat_map part_lines (with_table l ps) ≡ l ∷ flat_map part_lines ps
table_front l [] = refl
table_front l (table ls ∷ ps) = refl
table_front l (block ls ∷ ps) = refl
table_front l (single x ∷ ps) = refl

line_front : (l : FmtLine) (ps : List Part) → flat_map part_lines (with_line l ps) ≡ l ∷ flat_map part_lines ps
line_front (Normal l) ps = in_front (is_code_kind l.kind) l ps
line_front (TableRow row) ps = table_front (TableRow row) ps
line_front (TableRule rule) ps = table_front (TableRule rule) ps
line_front HorizontalRule ps = refl

lines_in_parts : (ls : List FmtLine) → flat_map part_lines (parts_of ls) ≡ ls
lines_in_parts [] = refl
lines_in_parts (l ∷ ls) = line_front l (parts_of ls) ∙ ap (λ x. l ∷ x) (lines_in_parts ls)

-- THE LAW
pub layout_numbered : (has : CompositeKind → Flags → Bool) (runs : List MarkRun) (skin : LineRules) (width : Option ℕ) (text : List LineContent) (rows : List FmtLine) (h : IsLayoutAt skin width text rows) → Follows has → HaveNumbers has runs 0 h.read rows
layout_numbered has runs skin width text rows h follows =
    subst (λ ls. HaveNumbers has runs 0 ls rows) (lines_in_parts h.read) (parts_numbered has runs 0 skin (table_width width) (wrap_width width) (parts_of h.read) rows follows h.laid)
