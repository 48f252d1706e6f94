-- Layout part by part is what tables, then blocks of code, then wrapping make of all lines.
use Rattle.std.proofs.Common.{◌≡◌, ℕ, ◌<◌, Bool, true, false, inl, inr, List, [], ◌∷◌, ◌++◌, map, length, Option, Some, refl, ap, sym, ◌∙◌, subst, arith}
use Rattle.std.specs.Prelude.{◌==◌}
use Rattle.std.specs.List.{flat_map}
use Rattle.mad_measure.specs.declared.spacing.Spacing.{Spacing}
use Rattle.mad_measure.proofs.AllLemmas.{all_joined}
use Rattle.mad_blocks.specs.CodeBlocks.{NoCodeFirst, part_placed, blocks_placed}
use Rattle.mad_blocks.specs.LayoutLaws.{PassesAreParts, PartsArePasses}
use Rattle.mad_blocks.specs.LayoutParts.{Part, table, block, single, is_code_kind, is_code_line, with_table, with_code, with_composite, parts_of, IsTableFixedBy, justified, code_room, IsLineAt, AreLinesAt, ArePartsAt}
use Rattle.mad_format.specs.FmtLines.{is_table_line}
use Rattle.mad_blocks.specs.Tables.{columns_count, columns_from, position_at, IsTableLineBy, AreTableLinesBy, IsTableLaidOutBy}
use Rattle.mad_format.specs.WrappedLines.{Wrap}
use Rattle.mad_format.specs.LineRules.{LineRules}
use Rattle.mad_format.specs.Lists.{EachBecomes}
use Rattle.mad_format.specs.declared.composite.FmtComposite.{FmtComposite}
use Rattle.mad_format.specs.declared.line.FmtLine.{FmtLine}
use Rattle.mad_format.specs.declared.line.FmtLine.TheVariants.{Normal, TableRow, TableRule, HorizontalRule}
use Rattle.mad_format.specs.declared.table.FmtTableRow.{FmtTableRow}
use Rattle.mad_format.specs.declared.table.RelativePosition.{RelativePosition}
use Rattle.mad_format.proofs.ListLemmas.{both_become, become_apart}
use Rattle.mad_blocks.proofs.PartRuns.{AllTableLines, AllCode, NoTableFirst, table_not_code, one_table, block_in_front, alone_first}

-- ---- parts that are apart

-- no table comes first of these parts
abbrev pub NoTableNext : List Part → Type 0
NoTableNext (table ls ∷ ps) = ⊥
NoTableNext _ = Unit {0}

-- no block comes first of these parts
abbrev pub NoBlockNext : List Part → Type 0
NoBlockNext (block ls ∷ ps) = ⊥
NoBlockNext _ = Unit {0}

-- no part is empty, each has lines of its kind, and no two tables are side by side, nor two blocks
abbrev pub StandApart : List Part → Type 0
StandApart [] = Unit {0}
StandApart (table ls ∷ ps) = (0 < length ls) × AllTableLines ls × NoTableNext ps × StandApart ps
StandApart (block ls ∷ ps) = (0 < length ls) × AllCode ls × NoBlockNext ps × StandApart ps
StandApart (single l ∷ ps) = (is_table_line l ≡ false) × (is_code_line l ≡ false) × StandApart ps

apart_table : (l : FmtLine) (ps : List Part) → is_table_line l ≡ true → StandApart ps → StandApart (with_table l ps)
apart_table l [] is h = (omega arith, (is, tt), tt, tt)
apart_table l (table ls ∷ ps) is h = (omega arith, (is, h.1), h.2, h.3)
apart_table l (block ls ∷ ps) is h = (omega arith, (is, tt), tt, h)
apart_table l (single m ∷ ps) is h = (omega arith, (is, tt), tt, h)

apart_code : (l : FmtComposite) (ps : List Part) → is_code_kind l.kind ≡ true → StandApart ps → StandApart (with_code l ps)
apart_code l [] is h = (omega arith, (is, tt), tt, tt)
apart_code l (table ls ∷ ps) is h = (omega arith, (is, tt), tt, h)
apart_code l (block ls ∷ ps) is h = (omega arith, (is, h.1), h.2, h.3)
apart_code l (single m ∷ ps) is h = (omega arith, (is, tt), tt, h)

apart_composite : (b : Bool) (l : FmtComposite) (ps : List Part) → is_code_kind l.kind ≡ b → StandApart ps → StandApart (with_composite b l ps)
apart_composite true l ps is h = apart_code l ps is h
apart_composite false l ps is h = (refl, is, h)

-- the parts of lines are so
pub parts_apart : (ls : List FmtLine) → StandApart (parts_of ls)
parts_apart [] = tt
parts_apart (Normal l ∷ ls) = apart_composite (is_code_kind l.kind) l (parts_of ls) refl (parts_apart ls)
parts_apart (TableRow row ∷ ls) = apart_table (TableRow row) (parts_of ls) refl (parts_apart ls)
parts_apart (TableRule rule ∷ ls) = apart_table (TableRule rule) (parts_of ls) refl (parts_apart ls)
parts_apart (HorizontalRule ∷ ls) = (refl, refl, parts_apart ls)

-- ---- what a table becomes is a table's lines, and at least one

rows_are_parts : (rows : List FmtTableRow) → AllTableLines (map TableRow rows)
rows_are_parts [] = tt
rows_are_parts (row ∷ rows) = (refl, rows_are_parts rows)

-- at least one line, all of a table
abbrev pub IsTableRun : List FmtLine → Type 0
IsTableRun ls = (0 < length ls) × AllTableLines ls

some_rows : (rows : List FmtTableRow) → 0 < length rows → IsTableRun (map TableRow rows)
some_rows [] some = absurd (omega (arith, some))
some_rows (row ∷ rows) some = (omega arith, rows_are_parts (row ∷ rows))

part_run : (wraps : Wrap) (skin : LineRules) (cs : List Spacing) (position : RelativePosition) (l : FmtLine) (own : List FmtLine) → is_table_line l ≡ true → IsTableLineBy wraps skin cs position l own → IsTableRun own
part_run wraps skin cs position (Normal l) own is h = absurd (cc)
part_run wraps skin cs position (TableRow row) own is (rows, same, laid) = subst IsTableRun (sym same) (some_rows rows (let count = laid.count in omega (arith, count)))
part_run wraps skin cs position (TableRule source) own is (rule, same, laid) = subst IsTableRun (sym same) (omega arith, (refl, tt))
part_run wraps skin cs position HorizontalRule own is h = absurd (cc)

runs_joined : (own others : List FmtLine) → IsTableRun own → AllTableLines others → IsTableRun (own ++ others)
runs_joined [] others run h = absurd (let some = run.0 in omega (arith, some))
runs_joined (l ∷ ls) others run h = (omega arith, (run.1.0, all_joined (λ l. is_table_line l ≡ true) ls others run.1.1 h))

laid_parts : (wraps : Wrap) (skin : LineRules) (ws : List ℕ) (cs : List Spacing) (first : Bool) (parts lines : List FmtLine) → AllTableLines parts → AreTableLinesBy wraps skin ws cs first parts lines → AllTableLines lines
laid_parts wraps skin ws cs first [] lines are h = subst AllTableLines (sym h) tt
laid_parts wraps skin ws cs first (l ∷ ls) lines are (own, others, joins, here, more) =
    subst AllTableLines (sym joins) (runs_joined own others (part_run wraps skin (columns_from ws cs l) (position_at first (length ls == 0)) l own are.0 here) (laid_parts wraps skin ws (columns_from ws cs l) false ls others are.1 more)).1

laid_run : (wraps : Wrap) (skin : LineRules) (ws : List ℕ) (cs : List Spacing) (first : Bool) (parts lines : List FmtLine) → 0 < length parts → AllTableLines parts → AreTableLinesBy wraps skin ws cs first parts lines → IsTableRun lines
laid_run wraps skin ws cs first [] lines some are h = absurd (omega (arith, some))
laid_run wraps skin ws cs first (l ∷ ls) lines some are (own, others, joins, here, more) =
    subst IsTableRun (sym joins) (runs_joined own others (part_run wraps skin (columns_from ws cs l) (position_at first (length ls == 0)) l own are.0 here) (laid_parts wraps skin ws (columns_from ws cs l) false ls others are.1 more))

-- a table becomes a table's lines, one at least
pub table_run : (wraps : Wrap) (skin : LineRules) (n width : ℕ) (parts lines : List FmtLine) → 0 < length parts → AllTableLines parts → IsTableLaidOutBy wraps skin n width parts lines → IsTableRun lines
table_run wraps skin n width parts lines some are (inl none) = subst IsTableRun (sym none.1) (some, are)
table_run wraps skin n width parts lines some are (inr (columns, place, (ws, widths, laid))) = laid_run wraps skin ws _ true parts lines some are laid

-- ---- the first line of what parts become

fixed_no_table : (wraps : Wrap) (skin : LineRules) (width : ℕ) (ps : List Part) (lines : List FmtLine) → StandApart ps → NoTableNext ps → EachBecomes (IsTableFixedBy wraps skin width) ps lines → NoTableFirst lines
fixed_no_table wraps skin width [] lines apart outside h = subst NoTableFirst (sym h) tt
fixed_no_table wraps skin width (table ls ∷ ps) lines apart outside h = absurd outside
fixed_no_table wraps skin width (block [] ∷ ps) lines apart outside h = absurd (let some = apart.0 in omega (arith, some))
fixed_no_table wraps skin width (block (l ∷ ls) ∷ ps) lines apart outside (own, others, joins, is, more) = subst NoTableFirst (sym (joins ∙ ap (λ xs. xs ++ others) is)) refl
fixed_no_table wraps skin width (single l ∷ ps) lines apart outside (own, others, joins, is, more) = subst NoTableFirst (sym (joins ∙ ap (λ xs. xs ++ others) is)) apart.0

first_not_code : (own others : List FmtLine) → IsTableRun own → NoCodeFirst (own ++ others)
first_not_code [] others run = absurd (let some = run.0 in omega (arith, some))
first_not_code (l ∷ ls) others run = table_not_code l run.1.0

fixed_no_code : (wraps : Wrap) (skin : LineRules) (width : ℕ) (ps : List Part) (lines : List FmtLine) → StandApart ps → NoBlockNext ps → EachBecomes (IsTableFixedBy wraps skin width) ps lines → NoCodeFirst lines
fixed_no_code wraps skin width [] lines apart outside h = subst NoCodeFirst (sym h) tt
fixed_no_code wraps skin width (table ls ∷ ps) lines apart outside (own, others, joins, laid, more) =
    subst NoCodeFirst (sym joins) (first_not_code own others (table_run wraps skin (columns_count ls) width ls own apart.0 apart.1 laid))
fixed_no_code wraps skin width (block ls ∷ ps) lines apart outside h = absurd outside
fixed_no_code wraps skin width (single l ∷ ps) lines apart outside (own, others, joins, is, more) = subst NoCodeFirst (sym (joins ∙ ap (λ xs. xs ++ others) is)) apart.1

-- ---- a run in front of others

table_run_in_front : (run rest : List FmtLine) → IsTableRun run → NoTableFirst rest → parts_of (run ++ rest) ≡ table run ∷ parts_of rest
table_run_in_front [] rest run first = absurd (let some = run.0 in omega (arith, some))
table_run_in_front (l ∷ ls) rest run first = one_table l ls rest run.1 first

block_run_in_front : (ls : List FmtComposite) (rest : List FmtLine) → 0 < length ls → AllCode ls → NoCodeFirst rest → parts_of (map Normal ls ++ rest) ≡ block ls ∷ parts_of rest
block_run_in_front [] rest some code first = absurd (omega (arith, some))
block_run_in_front (l ∷ ls) rest some code first = block_in_front (l ∷ ls) rest code first

-- ---- the lines of tables

-- a table's lines stay
table_line_stays : (wraps : Wrap) (skin : LineRules) (width : Option ℕ) (l : FmtLine) (lines : List FmtLine) → is_table_line l ≡ true → IsLineAt wraps skin width l lines → lines ≡ l ∷ []
table_line_stays wraps skin (Some width) (Normal l) lines is h = absurd (cc)
table_line_stays wraps skin (Some width) HorizontalRule lines is h = absurd (cc)
table_line_stays wraps skin _ _ lines is h = h

table_stays : (wraps : Wrap) (skin : LineRules) (width : Option ℕ) (run lines : List FmtLine) → AllTableLines run → AreLinesAt wraps skin width run lines → lines ≡ run
table_stays wraps skin width [] lines are h = h
table_stays wraps skin width (l ∷ ls) lines are (own, others, joins, here, more) =
    joins ∙ ap (λ xs. xs ++ others) (table_line_stays wraps skin width l own are.0 here) ∙ ap (λ xs. l ∷ xs) (table_stays wraps skin width ls others are.1 more)

table_line_at : (wraps : Wrap) (skin : LineRules) (width : Option ℕ) (l : FmtLine) → is_table_line l ≡ true → IsLineAt wraps skin width l (l ∷ [])
table_line_at wraps skin (Some width) (Normal l) is = absurd (cc)
table_line_at wraps skin (Some width) HorizontalRule is = absurd (cc)
table_line_at wraps skin _ _ is = refl

table_as_it_is : (wraps : Wrap) (skin : LineRules) (width : Option ℕ) (run : List FmtLine) → AllTableLines run → AreLinesAt wraps skin width run run
table_as_it_is wraps skin width [] are = refl
table_as_it_is wraps skin width (l ∷ ls) are = (l ∷ [], ls, refl, table_line_at wraps skin width l are.0, table_as_it_is wraps skin width ls are.1)

-- ---- the passes one after the other

-- the lines of parts, each block in its place
abbrev placed : Option ℕ → List Part → List FmtLine
placed room ps = flat_map (part_placed room) ps

passes : (wraps : Wrap) (skin : LineRules) (tables : ℕ) (width : Option ℕ) (ps : List Part) (tabled lines : List FmtLine) → StandApart ps
    → EachBecomes (IsTableFixedBy wraps skin tables) ps tabled → AreLinesAt wraps skin width (blocks_placed (code_room skin width) tabled) lines → ArePartsAt wraps skin tables width ps lines
passes wraps skin tables width [] tabled lines apart fixed wrapped = subst (λ (ls : List FmtLine). AreLinesAt wraps skin width (blocks_placed (code_room skin width) ls) lines) fixed wrapped
passes wraps skin tables width (table ls ∷ ps) tabled lines apart (own, others, joins, laid, more) wrapped =
    let run : IsTableRun own = table_run wraps skin (columns_count ls) tables ls own apart.0 apart.1 laid in
    let first : NoTableFirst others = fixed_no_table wraps skin tables ps others apart.3 apart.2 more in
    let parts : parts_of tabled ≡ table own ∷ parts_of others = ap parts_of joins ∙ table_run_in_front own others run first in
    let both = become_apart (IsLineAt wraps skin width) own (blocks_placed (code_room skin width) others) lines
    (subst (λ (qs : List Part). AreLinesAt wraps skin width (placed (code_room skin width) qs) lines) parts wrapped) in
    let stays : both.0 ≡ own = table_stays wraps skin width own both.0 run.1 both.3 in
    (own, both.1, both.2 ∙ ap (λ xs. xs ++ both.1) stays, laid, passes wraps skin tables width ps others both.1 apart.3 more both.4)
passes wraps skin tables width (block ls ∷ ps) tabled lines apart (own, others, joins, is, more) wrapped =
    let first : NoCodeFirst others = fixed_no_code wraps skin tables ps others apart.3 apart.2 more in
    let parts : parts_of tabled ≡ block ls ∷ parts_of others = ap parts_of (joins ∙ ap (λ xs. xs ++ others) is) ∙ block_run_in_front ls others apart.0 apart.1 first in
    let both = become_apart (IsLineAt wraps skin width) (map Normal (justified (code_room skin width) ls)) (blocks_placed (code_room skin width) others) lines
    (subst (λ (qs : List Part). AreLinesAt wraps skin width (placed (code_room skin width) qs) lines) parts wrapped) in
    (both.0, both.1, both.2, both.3, passes wraps skin tables width ps others both.1 apart.3 more both.4)
passes wraps skin tables width (single l ∷ ps) tabled lines apart (own, others, joins, is, more) wrapped =
    let parts : parts_of tabled ≡ single l ∷ parts_of others = ap parts_of (joins ∙ ap (λ xs. xs ++ others) is) ∙ alone_first l others apart.1 apart.0 in
    let both = become_apart (IsLineAt wraps skin width) (l ∷ []) (blocks_placed (code_room skin width) others) lines
    (subst (λ (qs : List Part). AreLinesAt wraps skin width (placed (code_room skin width) qs) lines) parts wrapped) in
    (both.0, both.1, both.2, both.3, passes wraps skin tables width ps others both.1 apart.2 more both.4)

-- ---- the passes of a layout part by part

-- what the passes make of parts, one after the other
record ArePasses (wraps : Wrap) (skin : LineRules) (tables : ℕ) (width : Option ℕ) (ps : List Part) (lines : List FmtLine) : Type 0 where
  tabled : List FmtLine
  fixed : EachBecomes (IsTableFixedBy wraps skin tables) ps tabled
  wrapped : AreLinesAt wraps skin width (blocks_placed (code_room skin width) tabled) lines

parts_passes : (wraps : Wrap) (skin : LineRules) (tables : ℕ) (width : Option ℕ) (ps : List Part) (lines : List FmtLine) → StandApart ps → ArePartsAt wraps skin tables width ps lines → ArePasses wraps skin tables width ps lines
parts_passes wraps skin tables width [] lines apart h = record { tabled = []; fixed = refl; wrapped = h }
parts_passes wraps skin tables width (table ls ∷ ps) lines apart (own, others, joins, laid, more) =
    let rest : ArePasses wraps skin tables width ps others = parts_passes wraps skin tables width ps others apart.3 more in
    let run : IsTableRun own = table_run wraps skin (columns_count ls) tables ls own apart.0 apart.1 laid in
    let first : NoTableFirst rest.tabled = fixed_no_table wraps skin tables ps rest.tabled apart.3 apart.2 rest.fixed in
    let after : List FmtLine = blocks_placed (code_room skin width) rest.tabled in
    record {
      tabled = own ++ rest.tabled;
      fixed = (own, rest.tabled, refl, laid, rest.fixed);
      wrapped = subst (λ (qs : List Part). AreLinesAt wraps skin width (placed (code_room skin width) qs) lines) (sym (table_run_in_front own rest.tabled run first))
          (subst (AreLinesAt wraps skin width (own ++ after)) (sym joins) (both_become (IsLineAt wraps skin width) own after own others (table_as_it_is wraps skin width own run.1) rest.wrapped));
    }
parts_passes wraps skin tables width (block ls ∷ ps) lines apart (own, others, joins, laid, more) =
    let rest : ArePasses wraps skin tables width ps others = parts_passes wraps skin tables width ps others apart.3 more in
    let first : NoCodeFirst rest.tabled = fixed_no_code wraps skin tables ps rest.tabled apart.3 apart.2 rest.fixed in
    let there : List FmtLine = map Normal (justified (code_room skin width) ls) in
    let after : List FmtLine = blocks_placed (code_room skin width) rest.tabled in
    record {
      tabled = map Normal ls ++ rest.tabled;
      fixed = (map Normal ls, rest.tabled, refl, refl, rest.fixed);
      wrapped = subst (λ (qs : List Part). AreLinesAt wraps skin width (placed (code_room skin width) qs) lines) (sym (block_run_in_front ls rest.tabled apart.0 apart.1 first))
          (subst (AreLinesAt wraps skin width (there ++ after)) (sym joins) (both_become (IsLineAt wraps skin width) there after own others laid rest.wrapped));
    }
parts_passes wraps skin tables width (single l ∷ ps) lines apart (own, others, joins, laid, more) =
    let rest : ArePasses wraps skin tables width ps others = parts_passes wraps skin tables width ps others apart.2 more in
    let after : List FmtLine = blocks_placed (code_room skin width) rest.tabled in
    record {
      tabled = l ∷ rest.tabled;
      fixed = (l ∷ [], rest.tabled, refl, refl, rest.fixed);
      wrapped = subst (λ (qs : List Part). AreLinesAt wraps skin width (placed (code_room skin width) qs) lines) (sym (alone_first l rest.tabled apart.1 apart.0))
          (subst (AreLinesAt wraps skin width (l ∷ after)) (sym joins) (both_become (IsLineAt wraps skin width) (l ∷ []) after own others laid rest.wrapped));
    }

-- ---- the laws

-- tables, then blocks of code, then wrapping, each over all lines, make the layout part by part
pub passes_are_parts : (wraps : Wrap) → PassesAreParts wraps
passes_are_parts wraps skin tables width source tabled lines = passes wraps skin tables width (parts_of source) tabled lines (parts_apart source)

-- each layout part by part is one that these passes make
pub parts_are_passes : (wraps : Wrap) → PartsArePasses wraps
parts_are_passes wraps skin tables width source lines h =
    let made : ArePasses wraps skin tables width (parts_of source) lines = parts_passes wraps skin tables width (parts_of source) lines (parts_apart source) h in
    (made.tabled, made.fixed, made.wrapped)
