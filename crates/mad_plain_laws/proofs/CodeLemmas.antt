-- Lines of code that fit: their layout says what they say.
use Rattle.std.proofs.Common.{◌≡◌, ℕ, ◌≤◌, Bool, true, false, List, [], ◌∷◌, ◌++◌, map, chars, Option, Some, None, inl, inr, refl, ap, sym, ◌∙◌, subst, arith, append-nil}
use Rattle.std.specs.Prelude.{encode_utf8_all, nat_lt, if◌then◌else◌}
use Rattle.std.specs.List.{AllByRecursion, flat_map}
use Rattle.std.proofs.Math.Utf8.{scalars}
use Rattle.std.proofs.lemmas.Bool.Decides.{nat_tests}
use Rattle.std.proofs.lemmas.List.{map-append}
use Rattle.std.proofs.lemmas.Str.{chars-encodes, chars-nil}
use Rattle.mad_characters.proofs.CharColumns.{char_columns-three}
use Rattle.mad_md.specs.Flagged.{FlaggedChar, Run, flagged, flagged_of, flagged_text, run_of, unflagged}
use Rattle.mad_md.specs.ReadRaw.{raw_runs}
use Rattle.mad_md.specs.declared.composite.CompositeStyle.TheVariants.{Code as CodeStyle}
use Rattle.mad_md.specs.declared.compound.Compound.{Compound}
use Rattle.mad_measure.specs.TextColumns.{columns, width_of}
use Rattle.mad_measure.proofs.FlaggedLemmas.{width_of-flagged}
use Rattle.mad_style.specs.LineStyles.{margins_at}
use Rattle.mad_style.specs.declared.kinds.CompositeKind.{CompositeKind}
use Rattle.mad_style.specs.declared.kinds.CompositeKind.TheVariants.{Code}
use Rattle.mad_format.specs.CompositeWraps.{IsCompositeWrap}
use Rattle.mad_format.specs.FmtLines.{IsCompositeRead}
use Rattle.mad_format.specs.Indents.{indent}
use Rattle.mad_format.specs.LineRules.{LineRules}
use Rattle.mad_format.specs.Wraps.{text_of}
use Rattle.mad_format.specs.declared.composite.FmtComposite.{FmtComposite}
use Rattle.mad_format.specs.declared.line.FmtLine.{FmtLine}
use Rattle.mad_format.specs.declared.line.FmtLine.TheVariants.{Normal, TableRow, TableRule, HorizontalRule}
use Rattle.mad_blocks.specs.LayoutParts.{AreLinesAt, ArePartsAt, IsLineAt, Part, block_width, code_room, is_code_kind, parts_of, placed_code, table_width, wrap_width}
use Rattle.mad_blocks.specs.Layouts.{AreRead, IsLayoutAt}
use Rattle.mad_blocks.proofs.PartRuns.{AllCode, block_in_front, block_parts}
use Rattle.mad_plain.specs.Laws.{FitsOrIsOne}
use Rattle.mad_plain.specs.Rows.{columns_of}
use Rattle.mad_plain.specs.Runs.{StyledChar, said}
use Rattle.mad_plain_page.specs.PlainTexts.{row_line}
use Rattle.mad_patterns.specs.Searches.{composite_text}
use Rattle.mad_plain_laws.specs.Laws.{line_text}

-- ---- what a composite says

-- the text of runs
abbrev runs_text : List Run → List ℕ
runs_text runs = flat_map (λ (run : Run). run.text) runs

-- their flagged text
abbrev runs_flagged : List Run → List FlaggedChar
runs_flagged runs = flat_map (λ (run : Run). flagged run.flags (chars run.text)) runs

text_by_runs : (ps : List Compound) → flat_map (λ (k : Compound). k.src.now) ps ≡ runs_text (map run_of ps)
text_by_runs [] = refl
text_by_runs (p ∷ ps) = ap (λ (t : List ℕ). p.src.now ++ t) (text_by_runs ps)

flagged_by_runs : (ps : List Compound) → flagged_text ps ≡ runs_flagged (map run_of ps)
flagged_by_runs [] = refl
flagged_by_runs (p ∷ ps) = ap (λ (t : List FlaggedChar). flagged_of p ++ t) (flagged_by_runs ps)

raw_text : (text : List ℕ) → runs_text (raw_runs text) ≡ text
raw_text [] = refl
raw_text (b ∷ bs) = append-nil (b ∷ bs)

raw_columns : (text : List ℕ) → width_of (runs_flagged (raw_runs text)) ≡ columns (chars text)
raw_columns [] = ap columns (sym chars-nil)
raw_columns (b ∷ bs) = ap width_of (append-nil (flagged unflagged (chars (b ∷ bs)))) ∙ width_of-flagged unflagged (chars (b ∷ bs))

-- the columns of characters are the same in both crates that count them
same_columns : (cs : List ℕ) → columns cs ≡ columns_of cs
same_columns [] = refl
same_columns (c ∷ cs) = let rest = same_columns cs in omega (arith, rest)

-- ---- rows

-- a row is no wider than three columns, or than the width
row_narrow : (width : ℕ) (row : List StyledChar) → 3 ≤ width → FitsOrIsOne width row → columns_of (said row) ≤ width
row_narrow width [] wide h = omega arith
row_narrow width (c ∷ cs) wide h = let three = char_columns-three c.char in omega (arith, wide, h, three)

-- what is said of a row: it fits, and has characters
pub record IsRow (width : ℕ) (row : List StyledChar) : Type 0 where
  pub fits : FitsOrIsOne width row
  pub scalar : scalars (said row) ≡ true

-- the text of a row
abbrev pub row_said : List StyledChar → List ℕ
row_said row = encode_utf8_all (said row)

-- lines of code that were read say these rows
abbrev AreCodes : LineRules → List (List StyledChar) → List FmtComposite → Type 0
AreCodes rules [] [] = Unit {0}
AreCodes rules (row ∷ rows) (l ∷ ls) = IsCompositeRead rules (record { style = CodeStyle; runs = raw_runs (row_said row) }) l × AreCodes rules rows ls
AreCodes rules _ _ = ⊥

read_codes : (rules : LineRules) (rows : List (List StyledChar)) (read : List FmtLine) → AreRead rules (map row_line rows) read → (ls : List FmtComposite) × (read ≡ map Normal ls) × AreCodes rules rows ls
read_codes rules [] [] h = ([], refl, tt)
read_codes rules [] (l ∷ ls) h = absurd h
read_codes rules (row ∷ rows) [] h = absurd h
read_codes rules (row ∷ rows) (Normal l ∷ ls) h = let rest = read_codes rules rows ls h.1 in (l ∷ rest.0, ap (λ (t : List FmtLine). Normal l ∷ t) rest.1, (h.0, rest.2))
read_codes rules (row ∷ rows) (TableRow r ∷ ls) h = absurd h.0
read_codes rules (row ∷ rows) (TableRule r ∷ ls) h = absurd h.0
read_codes rules (row ∷ rows) (HorizontalRule ∷ ls) h = absurd h.0

all_code : (rules : LineRules) (rows : List (List StyledChar)) (ls : List FmtComposite) → AreCodes rules rows ls → AllCode ls
all_code rules [] [] h = tt
all_code rules (row ∷ rows) (l ∷ ls) h = (ap is_code_kind h.0.kind, all_code rules rows ls h.1)
all_code rules [] (l ∷ ls) h = absurd h
all_code rules (row ∷ rows) [] h = absurd h

one_block : (rules : LineRules) (rows : List (List StyledChar)) (ls : List FmtComposite) → AreCodes rules rows ls → parts_of (map Normal ls) ≡ block_parts ls
one_block rules rows ls h =
    ap parts_of (sym (append-nil (map Normal ls))) ∙ block_in_front ls [] (all_code rules rows ls h) tt ∙ append-nil (block_parts ls)

-- ---- a layout

says_row : (rules : LineRules) (row : List StyledChar) (l : FmtComposite) → IsCompositeRead rules (record { style = CodeStyle; runs = raw_runs (row_said row) }) l → composite_text l ≡ row_said row
says_row rules row l h = text_by_runs l.compounds.items ∙ ap runs_text h.text ∙ raw_text (row_said row)

code_columns : (rules : LineRules) (width : ℕ) (row : List StyledChar) (l : FmtComposite) → 3 ≤ width → IsRow width row → IsCompositeRead rules (record { style = CodeStyle; runs = raw_runs (row_said row) }) l → l.visible_length ≤ width
code_columns rules width row l wide is h =
    let front : indent rules.list_items_indentation_mode l.kind ≡ 0 = ap (indent rules.list_items_indentation_mode) h.kind in
    let text : width_of (text_of l) ≡ columns (chars (row_said row)) = ap width_of (flagged_by_runs l.compounds.items ∙ ap runs_flagged h.text) ∙ raw_columns (row_said row) in
    let same : columns (chars (row_said row)) ≡ columns_of (said row) = ap columns (chars-encodes (said row) is.scalar) ∙ same_columns (said row) in
    let narrow = row_narrow width row wide is.fits in
    let measured = h.measured in
    omega (arith, front, text, same, narrow, measured)

-- a line of code that fits stays
code_laid : (rules : LineRules) (width place : ℕ) (row : List StyledChar) (l : FmtComposite) (own : List FmtLine) → 3 ≤ width → margins_at (rules.line_style Code) (Some width) ≡ (0, 0)
    → IsRow width row → IsCompositeRead rules (record { style = CodeStyle; runs = raw_runs (row_said row) }) l → IsLineAt IsCompositeWrap rules (Some width) (Normal (placed_code place l)) own → map line_text own ≡ row_said row ∷ []
code_laid rules width place row l own wide none is h (inl stays) = ap (map line_text) stays.1 ∙ ap (λ (t : List ℕ). t ∷ []) (says_row rules row l h)
code_laid rules width place row l own wide none is h (inr wraps) =
    let margins : margins_at (rules.line_style l.kind) (Some width) ≡ (0, 0) = ap (λ (k : CompositeKind). margins_at (rules.line_style k) (Some width)) h.kind ∙ none in
    let narrow : l.visible_length ≤ width = code_columns rules width row l wide is h in
    absurd (omega (arith, wraps.0, narrow, ap (λ (m : ℕ × ℕ). m.0) margins, ap (λ (m : ℕ × ℕ). m.1) margins))

-- so do all of a block
codes_laid : (rules : LineRules) (width place : ℕ) (rows : List (List StyledChar)) (ls : List FmtComposite) (lines : List FmtLine) → 3 ≤ width → margins_at (rules.line_style Code) (Some width) ≡ (0, 0)
    → AllByRecursion (IsRow width) rows → AreCodes rules rows ls → AreLinesAt IsCompositeWrap rules (Some width) (map Normal (map (placed_code place) ls)) lines → map line_text lines ≡ map row_said rows
codes_laid rules width place [] [] lines wide none are h laid = ap (map line_text) laid
codes_laid rules width place [] (l ∷ ls) lines wide none are h laid = absurd h
codes_laid rules width place (row ∷ rows) [] lines wide none are h laid = absurd h
codes_laid rules width place (row ∷ rows) (l ∷ ls) lines wide none are h laid =
    let own = laid.0 in
    let others = laid.1 in
    let here : map line_text own ≡ row_said row ∷ [] = code_laid rules width place row l own wide none are.0 h.0 laid.3 in
    let rest : map line_text others ≡ map row_said rows = codes_laid rules width place rows ls others wide none are.1 h.1 laid.4 in
    ap (map line_text) laid.2
    ∙ map-append line_text own others
    ∙ ap (λ (t : List (List ℕ)). t ++ map line_text others) here
    ∙ ap (λ (t : List (List ℕ)). row_said row ∷ t) rest

block_says : (rules : LineRules) (width tables : ℕ) (rows : List (List StyledChar)) (ls : List FmtComposite) (lines : List FmtLine) → 3 ≤ width → margins_at (rules.line_style Code) (Some width) ≡ (0, 0)
    → AllByRecursion (IsRow width) rows → AreCodes rules rows ls → ArePartsAt IsCompositeWrap rules tables (Some width) (block_parts ls) lines → map line_text lines ≡ map row_said rows
block_says rules width tables [] [] lines wide none are h laid = ap (map line_text) laid
block_says rules width tables [] (l ∷ ls) lines wide none are h laid = absurd h
block_says rules width tables (row ∷ rows) [] lines wide none are h laid = absurd h
block_says rules width tables (row ∷ rows) (l ∷ ls) lines wide none are h laid =
    let own = laid.0 in
    let whole : lines ≡ own = laid.2 ∙ ap (λ (o : List FmtLine). own ++ o) laid.4 ∙ append-nil own in
    ap (map line_text) whole ∙ codes_laid rules width (block_width (code_room rules (Some width)) (l ∷ ls)) (row ∷ rows) (l ∷ ls) own wide none are h laid.3

-- the layout of rows says them
pub rows_laid : (rules : LineRules) (width : ℕ) (rows : List (List StyledChar)) (lines : List FmtLine) → 3 ≤ width → margins_at (rules.line_style Code) (Some width) ≡ (0, 0)
    → AllByRecursion (IsRow width) rows → IsLayoutAt rules (Some width) (map row_line rows) lines → map line_text lines ≡ map row_said rows
rows_laid rules width rows lines wide none are laid =
    let read = read_codes rules rows laid.read laid.reads in
    let tables = table_width (Some width) in
    let narrow : nat_lt width 3 ≡ false = grind (arith, nat_tests, wide) in
    let at : wrap_width (Some width) ≡ Some width = ap (λ (b : Bool). if b then None else Some width) narrow in
    let parts : parts_of laid.read ≡ block_parts read.0 = ap parts_of read.1 ∙ one_block rules rows read.0 read.2 in
    block_says rules width tables rows read.0 lines wide none are read.2
    (subst (λ (w : Option ℕ). ArePartsAt IsCompositeWrap rules tables w (block_parts read.0) lines) at (subst (λ (ps : List Part). ArePartsAt IsCompositeWrap rules tables (wrap_width (Some width)) ps lines) parts laid.laid))
