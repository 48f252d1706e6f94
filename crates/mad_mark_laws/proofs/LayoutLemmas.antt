-- The lines of a layout have the counted characters of the text, in order.
use Rattle.std.proofs.Common.{◌≡◌, ℕ, Bool, List, [], ◌∷◌, ◌++◌, map, Option, Some, None, refl, sym, ap, ◌∙◌, filter, inl, inr}
use Rattle.std.specs.List.{flat_map}
use Rattle.std.proofs.lemmas.Grind.{flat_map-append}
use Rattle.mad_md.specs.Flagged.{Flags, flagged_text}
use Rattle.mad_style.specs.declared.kinds.CompositeKind.{CompositeKind}
use Rattle.mad_wrap.proofs.WrapModes.{by_keeps}
use Rattle.mad_format.specs.CompositeWraps.{IsCompositeWrap, line_compounds, HaveKinds}
use Rattle.mad_format.specs.Indents.{follow_up, room_of}
use Rattle.mad_format.specs.LineRules.{LineRules}
use Rattle.mad_format.specs.WrappedLines.{IsLaidOutBy, line_with}
use Rattle.mad_format.specs.declared.composite.FmtComposite.{FmtComposite}
use Rattle.mad_format.specs.declared.line.FmtLine.{FmtLine}
use Rattle.mad_format.specs.declared.line.FmtLine.TheVariants.{Normal, TableRow, TableRule, HorizontalRule}
use Rattle.mad_blocks.specs.LayoutParts.{AreLinesAt, IsLineAt, IsPartAt, block, single, justified, placed_code, code_room, block_width}
use Rattle.mad_blocks.specs.Tables.{IsCellLaidOut}
use Rattle.mad_marks.specs.LineMarks.{Follows, counted_in, line_counted, all_counted}
use Rattle.mad_marks.specs.RowMarks.{is_counted}
use Rattle.mad_marks.proofs.MarkLemmas.{kept_counted}

-- a wrap's lines
taken_lines : (has : CompositeKind → Flags → Bool) (first other : CompositeKind) (flags : Flags → Bool) (ls : List FmtComposite) (margins : ℕ × ℕ) → has first ≡ flags → has other ≡ flags → HaveKinds first other ls
    → all_counted has (map (line_with margins) ls) ≡ flat_map (filter (is_counted flags)) (map flagged_text (line_compounds ls))
taken_lines has first other flags [] margins f o kinds = refl
taken_lines has first other flags (l ∷ ls) margins f o kinds =
    ap (λ (g : Flags → Bool). filter (is_counted g) (flagged_text l.compounds.items) ++ all_counted has (map (line_with margins) ls)) (ap has kinds.0 ∙ f)
    ∙ ap (λ x. filter (is_counted flags) (flagged_text l.compounds.items) ++ x) (taken_lines has other other flags ls margins o o kinds.1)

-- a composite that is wrapped
wrap_counted : (has : CompositeKind → Flags → Bool) (skin : LineRules) (width : ℕ) (source : FmtComposite) (ls : List FmtComposite) (margins : ℕ × ℕ) → Follows has → IsCompositeWrap skin width source ls
    → all_counted has (map (line_with margins) ls) ≡ counted_in has source
wrap_counted has skin width source ls margins follows h =
    let room = room_of skin source.kind width in
    taken_lines has source.kind (follow_up source.kind) (has source.kind) ls margins refl (follows source.kind) h.made.kinds
    ∙ sym (kept_counted (has source.kind) (flagged_text source.compounds.items) (map flagged_text (line_compounds ls)) (by_keeps room.whole_words room source.compounds.items (line_compounds ls) h.wrap))

-- a list with nothing behind it is the list
pub plus_none : {A : Type 0} (xs : List A) → xs ++ [] ≡ xs
plus_none [] = refl
plus_none (x ∷ xs) = ap (λ l. x ∷ l) (plus_none xs)

-- a composite at a width, be it wrapped or not
pub laid_counted : (has : CompositeKind → Flags → Bool) (skin : LineRules) (width : ℕ) (source : FmtComposite) (lines : List FmtLine) → Follows has → IsLaidOutBy IsCompositeWrap skin width source lines
    → all_counted has lines ≡ counted_in has source
laid_counted has skin width source lines follows (inl (fits, same)) = ap (all_counted has) same ∙ plus_none (counted_in has source)
laid_counted has skin width source lines follows (inr (wide, (wrap, wraps, same))) = ap (all_counted has) same ∙ wrap_counted has skin _ source wrap _ follows wraps

-- a line at a width, if there is one
line_at_counted : (has : CompositeKind → Flags → Bool) (skin : LineRules) (width : Option ℕ) (l : FmtLine) (lines : List FmtLine) → Follows has → IsLineAt IsCompositeWrap skin width l lines
    → all_counted has lines ≡ line_counted has l
line_at_counted has skin None l lines follows h = ap (all_counted has) h ∙ plus_none (line_counted has l)
line_at_counted has skin (Some width) (Normal source) lines follows h = laid_counted has skin width source lines follows h
line_at_counted has skin (Some width) (TableRow row) lines follows h = ap (all_counted has) h ∙ plus_none (line_counted has (TableRow row))
line_at_counted has skin (Some width) (TableRule rule) lines follows h = ap (all_counted has) h
line_at_counted has skin (Some width) HorizontalRule lines follows h = ap (all_counted has) h

-- lines at a width, in order
pub lines_counted : (has : CompositeKind → Flags → Bool) (skin : LineRules) (width : Option ℕ) (source lines : List FmtLine) → Follows has → AreLinesAt IsCompositeWrap skin width source lines
    → all_counted has lines ≡ all_counted has source
lines_counted has skin width [] lines follows h = ap (all_counted has) h
lines_counted has skin width (l ∷ ls) lines follows (own, others, same, becomes, more) =
    ap (all_counted has) same ∙ flat_map-append (line_counted has) own others
    ∙ ap (λ x. x ++ all_counted has others) (line_at_counted has skin width l own follows becomes)
    ∙ ap (λ x. line_counted has l ++ x) (lines_counted has skin width ls others follows more)

placed_counted : (has : CompositeKind → Flags → Bool) (width : ℕ) (ls : List FmtComposite) → all_counted has (map Normal (map (placed_code width) ls)) ≡ all_counted has (map Normal ls)
placed_counted has width [] = refl
placed_counted has width (l ∷ ls) = ap (λ x. counted_in has l ++ x) (placed_counted has width ls)

-- a block of code
pub block_counted : (has : CompositeKind → Flags → Bool) (skin : LineRules) (tables : ℕ) (width : Option ℕ) (ls : List FmtComposite) (lines : List FmtLine) → Follows has → IsPartAt IsCompositeWrap skin tables width (block ls) lines
    → all_counted has lines ≡ all_counted has (map Normal ls)
block_counted has skin tables width ls lines follows h =
    lines_counted has skin width (map Normal (justified (code_room skin width) ls)) lines follows h ∙ placed_counted has (block_width (code_room skin width) ls) ls

-- any other line that is of no table
pub single_counted : (has : CompositeKind → Flags → Bool) (skin : LineRules) (tables : ℕ) (width : Option ℕ) (l : FmtLine) (lines : List FmtLine) → Follows has → IsPartAt IsCompositeWrap skin tables width (single l) lines
    → all_counted has lines ≡ all_counted has (l ∷ [])
single_counted has skin tables width l lines follows h = lines_counted has skin width (l ∷ []) lines follows h

-- a cell of a table, by itself: its lines, one below the other
pub cell_counted : (has : Flags → Bool) (skin : LineRules) (width : ℕ) (cell : FmtComposite) (ls : List FmtComposite) → IsCellLaidOut IsCompositeWrap skin width cell ls
    → flat_map (filter (is_counted has)) (map flagged_text (line_compounds ls)) ≡ filter (is_counted has) (flagged_text cell.compounds.items)
cell_counted has skin width cell ls (inl (fits, same)) = ap (λ (x : List FmtComposite). flat_map (filter (is_counted has)) (map flagged_text (line_compounds x))) same ∙ plus_none (filter (is_counted has) (flagged_text cell.compounds.items))
cell_counted has skin width cell ls (inr (wide, wraps)) =
    let room = room_of skin cell.kind width in
    sym (kept_counted has (flagged_text cell.compounds.items) (map flagged_text (line_compounds ls)) (by_keeps room.whole_words room cell.compounds.items (line_compounds ls) wraps.wrap))
