-- A text's layout has its counted characters in order, tables apart; and each row's marks are the text's.
use Rattle.std.proofs.Common.{◌≡◌, ℕ, ◌+◌, Bool, true, false, List, [], ◌∷◌, ◌++◌, map, chars, Option, refl, sym, ap, ◌∙◌, append_assoc, filter}
use Rattle.std.specs.List.{AllByRecursion, flat_map}
use Rattle.std.proofs.lemmas.Grind.{flat_map-append}
use Rattle.mad_md.specs.Flagged.{Flags, FlaggedChar, flagged_text, flagged, flagged_of, Run, run_of}
use Rattle.mad_md.specs.declared.compound.Compound.{Compound}
use Rattle.mad_style.specs.Kinds.{kind_of}
use Rattle.mad_format.specs.FmtLines.{IsCompositeRead, AreCompositesRead, IsLineRead}
use Rattle.mad_md.specs.Lines.{LineContent, StyledRuns, normal, table_row, table_rule, horizontal_rule}
use Rattle.mad_style.specs.declared.kinds.CompositeKind.{CompositeKind}
use Rattle.mad_style.specs.declared.kinds.CompositeKind.TheVariants.{Paragraph, Header, ListItem, ListItemFollowUp, OrderedListItem, OrderedListItemFollowUp, Code, Quote}
use Rattle.mad_format.specs.CompositeWraps.{IsCompositeWrap}
use Rattle.mad_format.specs.LineRules.{LineRules}
use Rattle.mad_format.specs.declared.composite.FmtComposite.{FmtComposite}
use Rattle.mad_format.specs.declared.line.FmtLine.{FmtLine}
use Rattle.mad_format.specs.declared.line.FmtLine.TheVariants.{Normal, TableRow, TableRule, HorizontalRule}
use Rattle.mad_blocks.specs.LayoutParts.{ArePartsAt, IsPartAt, Part, table, block, single, parts_of, with_line, with_table, with_composite, is_code_kind, table_width, wrap_width}
use Rattle.mad_blocks.specs.Layouts.{IsLayoutAt, AreRead}
use Rattle.mad_marks.specs.LineMarks.{Follows, has_mark, KindText, text_counted, text_of, counted_in, line_counted, all_counted, line_texts, all_texts, texts_marked, said_counted, content_counted}
use Rattle.mad_marks.specs.RowMarks.{is_counted, counted, numbered}
use Rattle.mad_mark_runs.specs.declared.mark_runs.MarkRun.{MarkRun}
use Rattle.mad_marks.proofs.MarkLemmas.{are_numbered, numbered_joined}
use Rattle.mad_mark_laws.proofs.LayoutLemmas.{block_counted, single_counted, plus_none}

-- the counted characters of a part
abbrev pub part_counted : (CompositeKind → Flags → Bool) → Part → List FlaggedChar
part_counted has (table ls) = all_counted has ls
part_counted has (block ls) = all_counted has (map Normal ls)
part_counted has (single l) = line_counted has l

-- the part is no table: in a table's rows the characters of several cells take turns
abbrev pub IsNoTable : Part → Type 0
IsNoTable (table ls) = ⊥
IsNoTable (block ls) = Unit {0}
IsNoTable (single l) = Unit {0}

alone : {A : Type 0} (a b : List A) → (a ++ []) ++ b ≡ a ++ b
alone a b = ap (λ x. x ++ b) (plus_none a)

composite_in_front : (has : CompositeKind → Flags → Bool) (code : Bool) (l : FmtComposite) (ps : List Part) → flat_map (part_counted has) (with_composite code l ps) ≡ counted_in has l ++ flat_map (part_counted has) ps
composite_in_front has true l [] = alone (counted_in has l) []
composite_in_front has true l (table ls ∷ ps) = alone (counted_in has l) (flat_map (part_counted has) (table ls ∷ ps))
composite_in_front has true l (block ls ∷ ps) = append_assoc (counted_in has l) (all_counted has (map Normal ls)) (flat_map (part_counted has) ps)
composite_in_front has true l (single x ∷ ps) = alone (counted_in has l) (flat_map (part_counted has) (single x ∷ ps))
composite_in_front has false l ps = refl

table_in_front : (has : CompositeKind → Flags → Bool) (l : FmtLine) (ps : List Part) → flat_map (part_counted has) (with_table l ps) ≡ line_counted has l ++ flat_map (part_counted has) ps
table_in_front has l [] = alone (line_counted has l) []
table_in_front has l (table ls ∷ ps) = append_assoc (line_counted has l) (all_counted has ls) (flat_map (part_counted has) ps)
table_in_front has l (block ls ∷ ps) = alone (line_counted has l) (flat_map (part_counted has) (block ls ∷ ps))
table_in_front has l (single x ∷ ps) = alone (line_counted has l) (flat_map (part_counted has) (single x ∷ ps))

line_in_front : (has : CompositeKind → Flags → Bool) (l : FmtLine) (ps : List Part) → flat_map (part_counted has) (with_line l ps) ≡ line_counted has l ++ flat_map (part_counted has) ps
line_in_front has (Normal l) ps = composite_in_front has (is_code_kind l.kind) l ps
line_in_front has (TableRow row) ps = table_in_front has (TableRow row) ps
line_in_front has (TableRule rule) ps = table_in_front has (TableRule rule) ps
line_in_front has HorizontalRule ps = refl

-- parts count what their lines count
pub in_parts : (has : CompositeKind → Flags → Bool) (ls : List FmtLine) → flat_map (part_counted has) (parts_of ls) ≡ all_counted has ls
in_parts has [] = refl
in_parts has (l ∷ ls) = line_in_front has l (parts_of ls) ∙ ap (λ x. line_counted has l ++ x) (in_parts has ls)

part_becomes : (has : CompositeKind → Flags → Bool) (skin : LineRules) (tables : ℕ) (width : Option ℕ) (p : Part) (lines : List FmtLine) → Follows has → IsNoTable p → IsPartAt IsCompositeWrap skin tables width p lines
    → all_counted has lines ≡ part_counted has p
part_becomes has skin tables width (table ls) lines follows apart h = absurd apart
part_becomes has skin tables width (block ls) lines follows apart h = block_counted has skin tables width ls lines follows h
part_becomes has skin tables width (single l) lines follows apart h = single_counted has skin tables width l lines follows h ∙ plus_none (line_counted has l)

-- parts that are no tables become lines that count what they do
pub parts_become : (has : CompositeKind → Flags → Bool) (skin : LineRules) (tables : ℕ) (width : Option ℕ) (ps : List Part) (lines : List FmtLine) → Follows has → AllByRecursion IsNoTable ps → ArePartsAt IsCompositeWrap skin tables width ps lines
    → all_counted has lines ≡ flat_map (part_counted has) ps
parts_become has skin tables width [] lines follows apart h = ap (all_counted has) h
parts_become has skin tables width (p ∷ ps) lines follows apart (own, others, same, becomes, more) =
    ap (all_counted has) same ∙ flat_map-append (line_counted has) own others
    ∙ ap (λ x. x ++ all_counted has others) (part_becomes has skin tables width p own follows apart.0 becomes)
    ∙ ap (λ x. part_counted has p ++ x) (parts_become has skin tables width ps others follows apart.1 more)

-- law (b): a layout counts what was read
pub layout_counted : (has : CompositeKind → Flags → Bool) (skin : LineRules) (width : Option ℕ) (text : List LineContent) (lines : List FmtLine) (h : IsLayoutAt skin width text lines) → Follows has → AllByRecursion IsNoTable (parts_of h.read)
    → all_counted has lines ≡ all_counted has h.read
layout_counted has skin width text lines h follows apart =
    parts_become has skin (table_width width) (wrap_width width) (parts_of h.read) lines follows apart h.laid ∙ in_parts has h.read

-- what is asked for is the same of the rows that follow a line
pub has_mark_follows : Follows has_mark
has_mark_follows (ListItem depth) = refl
has_mark_follows (OrderedListItem level index) = refl
has_mark_follows Code = refl
has_mark_follows Paragraph = refl
has_mark_follows (Header level) = refl
has_mark_follows (ListItemFollowUp depth) = refl
has_mark_follows (OrderedListItemFollowUp level index) = refl
has_mark_follows Quote = refl

-- ---- with marks

-- the texts of composites count what the composites do
pub cells_texts : (has : CompositeKind → Flags → Bool) (ls : List FmtComposite) → flat_map (text_counted has) (map text_of ls) ≡ flat_map (counted_in has) ls
cells_texts has [] = refl
cells_texts has (l ∷ ls) = ap (λ x. counted_in has l ++ x) (cells_texts has ls)

texts_of_line : (has : CompositeKind → Flags → Bool) (l : FmtLine) → flat_map (text_counted has) (line_texts l) ≡ line_counted has l
texts_of_line has (Normal l) = plus_none (counted_in has l)
texts_of_line has (TableRow row) = cells_texts has row.cells.items
texts_of_line has (TableRule rule) = refl
texts_of_line has HorizontalRule = refl

texts_counted : (has : CompositeKind → Flags → Bool) (ls : List FmtLine) → flat_map (text_counted has) (all_texts ls) ≡ all_counted has ls
texts_counted has [] = refl
texts_counted has (l ∷ ls) = flat_map-append (text_counted has) (line_texts l) (all_texts ls)
    ∙ ap (λ x. x ++ flat_map (text_counted has) (all_texts ls)) (texts_of_line has l) ∙ ap (λ x. line_counted has l ++ x) (texts_counted has ls)

-- the counted characters of texts have the marks of their numbers
pub texts_numbered : (has : CompositeKind → Flags → Bool) (runs : List MarkRun) (n : ℕ) (ts : List KindText) → texts_marked has runs n ts ≡ numbered runs n (flat_map (text_counted has) ts)
texts_numbered has runs n [] = refl
texts_numbered has runs n (t ∷ ts) =
    ap (λ l. l ++ texts_marked has runs (n + counted (has t.kind) t.chars) ts) (are_numbered (has t.kind) runs n t.chars)
    ∙ ap (λ l. numbered runs n (text_counted has t) ++ l) (texts_numbered has runs (n + counted (has t.kind) t.chars) ts)
    ∙ sym (numbered_joined runs n (text_counted has t) (flat_map (text_counted has) ts))

-- law (b), with marks: over all rows of a layout the k-th counted character is that of the text, and has the k-th mark
pub layout_marks : (has : CompositeKind → Flags → Bool) (runs : List MarkRun) (skin : LineRules) (width : Option ℕ) (text : List LineContent) (lines : List FmtLine) (h : IsLayoutAt skin width text lines) → Follows has → AllByRecursion IsNoTable (parts_of h.read)
    → texts_marked has runs 0 (all_texts lines) ≡ numbered runs 0 (all_counted has h.read)
layout_marks has runs skin width text lines h follows apart =
    texts_numbered has runs 0 (all_texts lines) ∙ ap (numbered runs 0) (texts_counted has lines ∙ layout_counted has skin width text lines h follows apart)

-- ---- down to what the text says

flat_runs : (ps : List Compound) → flat_map (λ (r : Run). flagged r.flags (chars r.text)) (map run_of ps) ≡ flagged_text ps
flat_runs [] = refl
flat_runs (p ∷ ps) = ap (λ l. flagged_of p ++ l) (flat_runs ps)

composite_read : (has : CompositeKind → Flags → Bool) (skin : LineRules) (said : StyledRuns) (l : FmtComposite) → IsCompositeRead skin said l → counted_in has l ≡ said_counted has said
composite_read has skin said l h =
    ap (λ k. filter (is_counted (has k)) (flagged_text l.compounds.items)) h.kind
    ∙ ap (filter (is_counted (has (kind_of said.style)))) (sym (flat_runs l.compounds.items) ∙ ap (flat_map (λ (r : Run). flagged r.flags (chars r.text))) h.text)

composites_read : (has : CompositeKind → Flags → Bool) (skin : LineRules) (said : List StyledRuns) (ls : List FmtComposite) → AreCompositesRead skin said ls → flat_map (counted_in has) ls ≡ flat_map (said_counted has) said
composites_read has skin [] [] h = refl
composites_read has skin (s ∷ ss) (l ∷ ls) h = ap (λ x. x ++ flat_map (counted_in has) ls) (composite_read has skin s l h.0) ∙ ap (λ x. said_counted has s ++ x) (composites_read has skin ss ls h.1)
composites_read has skin _ _ h = absurd h

line_read : (has : CompositeKind → Flags → Bool) (skin : LineRules) (c : LineContent) (l : FmtLine) → IsLineRead skin c l → line_counted has l ≡ content_counted has c
line_read has skin (normal said) (Normal l) h = composite_read has skin said l h
line_read has skin (table_row cells) (TableRow row) h = composites_read has skin cells row.cells.items h
line_read has skin (table_rule aligns) (TableRule rule) h = refl
line_read has skin horizontal_rule HorizontalRule h = refl
line_read has skin _ _ h = absurd h

lines_read : (has : CompositeKind → Flags → Bool) (skin : LineRules) (cs : List LineContent) (ls : List FmtLine) → AreRead skin cs ls → all_counted has ls ≡ flat_map (content_counted has) cs
lines_read has skin [] [] h = refl
lines_read has skin (c ∷ cs) (l ∷ ls) h = ap (λ x. x ++ all_counted has ls) (line_read has skin c l h.0) ∙ ap (λ x. content_counted has c ++ x) (lines_read has skin cs ls h.1)
lines_read has skin _ _ h = absurd h

-- law (b), of the text: over all rows of its layout its k-th counted character has the k-th mark
pub text_marks : (has : CompositeKind → Flags → Bool) (runs : List MarkRun) (skin : LineRules) (width : Option ℕ) (text : List LineContent) (lines : List FmtLine) (h : IsLayoutAt skin width text lines) → Follows has → AllByRecursion IsNoTable (parts_of h.read)
    → texts_marked has runs 0 (all_texts lines) ≡ numbered runs 0 (flat_map (content_counted has) text)
text_marks has runs skin width text lines h follows apart =
    layout_marks has runs skin width text lines h follows apart ∙ ap (numbered runs 0) (lines_read has skin text h.read h.reads)
