-- Worked tables, by computing their widths; and what is no table, each by the part of the definition that it breaks.
use Rattle.std.proofs.Common.{◌≡◌, ℕ, suc, ◌<◌, inl, inr, Bool, true, false, List, [], ◌∷◌, ◌++◌, length, map, Some, refl, sym, ap, ap₂, ◌∙◌, subst, arith}
use Rattle.std.specs.Prelude.{◌==◌}
use Rattle.mad_measure.specs.declared.spacing.Spacing.{Spacing}
use Rattle.mad_widths.specs.Turns.{grants}
use Rattle.mad_widths.specs.ColumnWidths.{needs_of, first_requests, second_requests, after_first, after_second, column_widths, natural_widths, AreShared}
use Rattle.mad_widths.specs.WordWidths.{least_of, word_widths}
use Rattle.mad_blocks.specs.TableLaws.{HaveLengths, HaveWords, AreWorkedTables, AreNoTables, AreNoRules}
use Rattle.mad_blocks.specs.Tables.{rows_among, lengths_in, AreWhole, IsLineAcross, position_at, columns_with, centered, AreKeptWidths, AreTableLinesBy, IsTableLaidOutBy}
use Rattle.mad_format.specs.WrappedLines.{Wrap}
use Rattle.mad_format.specs.LineRules.{LineRules}
use Rattle.mad_format.specs.declared.composite.FmtComposite.{FmtComposite}
use Rattle.mad_format.specs.declared.line.FmtLine.{FmtLine}
use Rattle.mad_format.specs.declared.line.FmtLine.TheVariants.{TableRule}
use Rattle.mad_format.specs.declared.table.FmtTableRule.{FmtTableRule}
use Rattle.mad_blocks.proofs.TableLemmas.{top_spacing}

-- the worked tables have the widths that are named
pub worked_tables : AreWorkedTables
unfolding word_widths column_widths after_second after_first second_requests first_requests grants
worked_tables = record {
  reduced = λ lines widths lengths kept. kept.are (omega arith) ∙ ap (λ cells. column_widths 10 (map needs_of cells)) lengths;
  shared = λ lines widths lengths kept. kept.are (omega arith) ∙ ap (λ cells. column_widths 10 (map needs_of cells)) lengths;
  natural = λ lines widths lengths kept. kept.are (omega arith) ∙ ap (λ cells. column_widths 23 (map needs_of cells)) lengths;
  narrow = λ lines widths kept. kept.narrow (omega arith);
  parted = λ lines widths lengths kept. kept.are (omega arith) ∙ ap (λ cells. column_widths 20 (map needs_of cells)) lengths;
  whole = λ lines widths lengths words kept. kept.are (omega arith) ∙ ap₂ (λ cells words. word_widths 20 (map needs_of cells) (least_of cells words)) lengths words;
  blanked = λ lines widths lengths set. (set.wide (omega arith)).are (omega arith) ∙ ap (λ cells. column_widths 10 (map needs_of cells)) lengths;
  blanked_narrow = λ lines widths set. set.narrow (omega arith);
  too_narrow = λ lines widths lengths words kept. kept.are (omega arith) ∙ ap₂ (λ cells words. word_widths 20 (map needs_of cells) (least_of cells words)) lengths words;
}

too_few : (lines : List FmtLine) → HaveLengths lines ((3 ∷ []) ∷ (20 ∷ []) ∷ []) → AreKeptWidths false 2 13 lines (3 ∷ 6 ∷ []) → ⊥
too_few lines lengths kept =
    let shared = kept.shared (omega arith) in
    let are : AreShared 10 (3 ∷ 20 ∷ []) shared.0 (3 ∷ 6 ∷ []) = subst (λ cells. AreShared 10 (natural_widths (map needs_of cells)) shared.0 (3 ∷ 6 ∷ [])) lengths shared.1 in
    omega (arith, (are.shared (omega arith) (λ e. absurd (omega (arith, e)))).0)

word_parted : (lines : List FmtLine) → HaveLengths lines ((9 ∷ []) ∷ (20 ∷ []) ∷ []) → HaveWords lines ((9 ∷ []) ∷ (5 ∷ []) ∷ []) → AreKeptWidths true 2 23 lines (7 ∷ 13 ∷ []) → ⊥
word_parted lines lengths words kept =
    let whole : AreWhole 20 ((9 ∷ []) ∷ (20 ∷ []) ∷ []) ((9 ∷ []) ∷ (5 ∷ []) ∷ []) (7 ∷ 13 ∷ []) = subst (λ cells. AreWhole 20 cells ((9 ∷ []) ∷ (5 ∷ []) ∷ []) (7 ∷ 13 ∷ [])) lengths
    (subst (λ ws. AreWhole 20 (lengths_in 2 (rows_among lines)) ws (7 ∷ 13 ∷ [])) words (kept.whole refl (omega arith))) in
    absurd (omega (arith, (whole (omega arith)).0))

across_count : (columns : List Spacing) (lines : List (List FmtComposite)) (cells : List FmtComposite) → IsLineAcross columns lines cells → length cells ≡ length columns
across_count [] [] [] h = refl
across_count (c ∷ cs) (l ∷ lines) (x ∷ xs) h = ap suc (across_count cs lines xs h.1)
across_count _ _ _ h = absurd h

across_place : (column : Spacing) (columns : List Spacing) (lines : List (List FmtComposite)) (x : FmtComposite) (xs : List FmtComposite) → IsLineAcross (column ∷ columns) lines (x ∷ xs) → x.spacing ≡ Some column
across_place column columns [] x xs h = absurd h
across_place column columns (l ∷ lines) x xs h = top_spacing column l x h.0

-- what is named as no layout of a table is none
pub no_tables : AreNoTables
no_tables = record {
  word_parted = word_parted;
  one_too_few = too_few;
  column_dropped = λ n width lines widths whole_words wide fewer kept. let all : length widths ≡ n = kept.kept wide in omega (arith, all, fewer);
  shifted = λ first second x y z beside row next some is h.
      let across : IsLineAcross (first ∷ second ∷ []) ([] ∷ (z ∷ []) ∷ []) (record z { spacing = Some first } ∷ beside ∷ []) = subst (IsLineAcross (first ∷ second ∷ []) ([] ∷ (z ∷ []) ∷ [])) is h.1.0 in
      some across.0.empty;
  other_count = λ columns lines row rows other h. other (across_count columns lines row.cells.items h.0);
  other_place = λ column columns lines cell others row rows is other h. other (across_place column columns lines cell others (subst (IsLineAcross (column ∷ columns) lines) is h.0));
}

-- ---- places of rules

-- the first rule of lines that begin with one, and the lines after it
rule_front : (wraps : Wrap) (skin : LineRules) (ws : List ℕ) (cs : List Spacing) (first : Bool) (source rule : FmtTableRule) (table lines : List FmtLine)
    → AreTableLinesBy wraps skin ws cs first (TableRule source ∷ table) (TableRule rule ∷ lines)
    → (rule.position ≡ position_at first (length table == 0)) × AreTableLinesBy wraps skin ws (columns_with ws source.aligns.items) false table lines
rule_front wraps skin ws cs first source rule table lines (own, others, joins, (drawn, is, laid), more) =
    let same : TableRule rule ∷ lines ≡ TableRule drawn ∷ others = joins ∙ ap (λ (l : List FmtLine). l ++ others) is in
    let here : rule ≡ drawn = cc in
    let rest : lines ≡ others = cc in
    (ap (λ (r : FmtTableRule). r.position) here ∙ laid.position_is, subst (AreTableLinesBy wraps skin ws (columns_with ws source.aligns.items) false table) (sym rest) more)

-- a table with columns and a width becomes what its lines become
lines_by : (wraps : Wrap) (skin : LineRules) (n width : ℕ) (table lines : List FmtLine) → 0 < n → 0 < width → IsTableLaidOutBy wraps skin n width table lines
    → (ws : List ℕ) × AreTableLinesBy wraps skin ws (centered ws) true table lines
lines_by wraps skin n width table lines some wide (inl (inl none, stays)) = absurd (omega (arith, none, some))
lines_by wraps skin n width table lines some wide (inl (inr none, stays)) = absurd (omega (arith, none, wide))
lines_by wraps skin n width table lines some wide (inr (_, _, (ws, kept, laid))) = (ws, laid)

-- nor is what has its rules in other positions
pub no_rules : (wraps : Wrap) → AreNoRules wraps
no_rules wraps = record {
  first = λ skin n width source rule table lines some wide other h.
      let laid = lines_by wraps skin n width (TableRule source ∷ table) (TableRule rule ∷ lines) some wide h in
      other (rule_front wraps skin laid.0 (centered laid.0) true source rule table lines laid.1).0;
  last = λ skin n width top source first rule some wide other h.
      let laid = lines_by wraps skin n width (TableRule top ∷ TableRule source ∷ []) (TableRule first ∷ TableRule rule ∷ []) some wide h in
      let below = (rule_front wraps skin laid.0 (centered laid.0) true top first (TableRule source ∷ []) (TableRule rule ∷ []) laid.1).1 in
      other (rule_front wraps skin laid.0 (columns_with laid.0 top.aligns.items) false source rule [] [] below).0;
  between = λ skin n width top source bottom first rule last some wide other h.
      let table : List FmtLine = TableRule source ∷ TableRule bottom ∷ [] in
      let lines : List FmtLine = TableRule rule ∷ TableRule last ∷ [] in
      let laid = lines_by wraps skin n width (TableRule top ∷ table) (TableRule first ∷ lines) some wide h in
      let below = (rule_front wraps skin laid.0 (centered laid.0) true top first table lines laid.1).1 in
      other (rule_front wraps skin laid.0 (columns_with laid.0 top.aligns.items) false source rule (TableRule bottom ∷ []) (TableRule last ∷ []) below).0;
}
