-- The page of rows, line by line of the text.
use Rattle.std.proofs.Common.{◌≡◌, ℕ, ◌+◌, ◌-◌, ◌≤◌, Bool, true, List, [], ◌∷◌, ◌++◌, map, length, Some, refl, ap, sym, ◌∙◌, subst, arith, append-nil}
use Rattle.std.specs.List.{AllByRecursion, flat_map}
use Rattle.std.proofs.Math.Utf8.{scalar, scalars}
use Rattle.std.specs.Prelude.{encode_utf8_all}
use Rattle.std.proofs.lemmas.Bool.{and_from, and_parts}
use Rattle.std.proofs.lemmas.List.{length-map, map-append}
use Rattle.std.proofs.lemmas.Str.{scalars-chars}
use Rattle.mad_style.specs.LineStyles.{margins_at}
use Rattle.mad_style.specs.declared.kinds.CompositeKind.TheVariants.{Code}
use Rattle.mad_format.specs.LineRules.{LineRules}
use Rattle.mad_blocks.specs.Layouts.{IsLayoutAt}
use Rattle.mad_plain.specs.Laws.{FitsOrIsOne}
use Rattle.mad_plain.specs.Rows.{wrapped}
use Rattle.mad_plain.specs.Runs.{StyledChar, said}
use Rattle.mad_plain.proofs.RowLawLemmas.{rows_fit, rows_joined}
use Rattle.mad_plain_page.specs.PlainTexts.{painted_line, painted_row, painted_rows, row_lines}
use Rattle.mad_plain_page.proofs.RowLemmas.{drawn_chars}
use Rattle.mad_search.specs.PagedTexts.{grouped, plain_section, row_sections}
use Rattle.mad_pages.specs.Fronts.{line_of}
use Rattle.mad_pages.specs.PagedPages.{EndIn}
use Rattle.mad_pages.specs.PageLayouts.{IsPageAt}
use Rattle.mad_pages.specs.PageRows.{RowContent}
use Rattle.mad_pages.proofs.PageLemmas.{lines_behind}
use Rattle.mad_plain_laws.specs.Laws.{PagesAreTheRows, SaysText, line_starts, line_text, row_text}
use Rattle.mad_plain_laws.proofs.CodeLemmas.{IsRow, row_said, rows_laid}

-- ---- the rows of a line

front_scalar : (cs ds : List ℕ) → scalars (cs ++ ds) ≡ true → scalars cs ≡ true
front_scalar [] ds h = refl
front_scalar (c ∷ cs) ds h = let both = and_parts (scalar c) (scalars (cs ++ ds)) h in and_from (scalar c) (scalars cs) both.0 (front_scalar cs ds both.1)

back_scalar : (cs ds : List ℕ) → scalars (cs ++ ds) ≡ true → scalars ds ≡ true
back_scalar [] ds h = h
back_scalar (c ∷ cs) ds h = back_scalar cs ds (and_parts (scalar c) (scalars (cs ++ ds)) h).1

are_rows : (width : ℕ) (rows : List (List StyledChar)) → AllByRecursion (FitsOrIsOne width) rows → scalars (said (flat_map (λ (row : List StyledChar). row) rows)) ≡ true → AllByRecursion (IsRow width) rows
are_rows width [] fit h = tt
are_rows width (row ∷ rows) fit h =
    let rest : List StyledChar = flat_map (λ (r : List StyledChar). r) rows in
    let apart : scalars (said row ++ said rest) ≡ true = sym (ap scalars (map-append (λ (c : StyledChar). c.char) row rest)) ∙ h in
    (record { fits = fit.0; scalar = front_scalar (said row) (said rest) apart }, are_rows width rows fit.1 (back_scalar (said row) (said rest) apart))

line_rows : (width : ℕ) (line : List StyledChar) → SaysText line → AllByRecursion (IsRow width) (wrapped width line)
line_rows width line says =
    are_rows width (wrapped width line) (rows_fit width line)
    (ap (λ (cs : List StyledChar). scalars (said cs)) (rows_joined width line) ∙ ap scalars says.2 ∙ scalars-chars says.0 says.1)

-- ---- the page

-- the rows of a line's section say those of the line
section_says : (rules : LineRules) (ascii : Bool) (width : ℕ) (line : List StyledChar) (rows : List RowContent) → 3 ≤ width → margins_at (rules.line_style Code) (Some width) ≡ (0, 0) → SaysText line
    → IsPageAt rules ascii (Some width) (plain_section (row_lines width line) ∷ []) rows → map line_text (map line_of rows) ≡ map row_said (wrapped width line)
section_says rules ascii width line rows wide none says h =
    let own = h.0 in
    let shown = h.3 in
    let only = shown.0 in
    let section = shown.3 in
    let whole : rows ≡ own = h.2 ∙ ap (λ (o : List RowContent). own ++ o) h.4 ∙ append-nil own in
    let part : own ≡ only = shown.2 ∙ ap (λ (o : List RowContent). only ++ o) shown.4 ∙ append-nil only in
    let lines : map line_of only ≡ section.lines = ap (map line_of) section.rows_are ∙ lines_behind [] 0 [] 0 true section.lines in
    let room : width - 0 ≡ width = omega arith in
    let layout : IsLayoutAt rules (Some width) (row_lines width line) section.lines = subst (λ (n : ℕ). IsLayoutAt rules (Some n) (row_lines width line) section.lines) room section.layout in
    ap (λ (rs : List RowContent). map line_text (map line_of rs)) (whole ∙ part)
    ∙ ap (map line_text) lines
    ∙ rows_laid rules width (wrapped width line) section.lines wide none (line_rows width line says) layout

all_say : (rules : LineRules) (ascii : Bool) (width : ℕ) (lines : List (List StyledChar)) (row : ℕ) (rows : List RowContent) (ends : List ℕ) → 3 ≤ width → margins_at (rules.line_style Code) (Some width) ≡ (0, 0)
    → AllByRecursion SaysText lines → EndIn (IsPageAt rules ascii (Some width)) (grouped [] (row_sections width lines)) row rows ends
    → (map line_text (map line_of rows) ≡ map row_said (flat_map (wrapped width) lines)) × (row ∷ ends ≡ line_starts width row lines)
all_say rules ascii width [] row rows ends wide none says h = (ap (λ (rs : List RowContent). map line_text (map line_of rs)) h.0, ap (λ (es : List ℕ). row ∷ es) h.1)
all_say rules ascii width (line ∷ lines) row rows ends wide none says (own, others, more, are, here, ends_are, rest) =
    let first = section_says rules ascii width line own wide none says.0 here in
    let later = all_say rules ascii width lines (row + length own) others more wide none says.1 rest in
    let count : length own ≡ length (wrapped width line) = sym (length-map own line_of) ∙ sym (length-map (map line_of own) line_text) ∙ ap length first ∙ length-map (wrapped width line) row_said in (
      ap (λ (rs : List RowContent). map line_text (map line_of rs)) are
          ∙ ap (map line_text) (map-append line_of own others)
          ∙ map-append line_text (map line_of own) (map line_of others)
          ∙ ap (λ (t : List (List ℕ)). t ++ map line_text (map line_of others)) first
          ∙ ap (λ (t : List (List ℕ)). map row_said (wrapped width line) ++ t) later.0
          ∙ sym (map-append row_said (wrapped width line) (flat_map (wrapped width) lines)),
      ap (λ (es : List ℕ). row ∷ es) (ends_are ∙ later.1 ∙ ap (λ (n : ℕ). line_starts width (row + n) lines) count),
    )

-- ---- what is drawn

row_drawn : (is_styled : Bool) (rows : List (List StyledChar)) → map row_text (map (painted_row is_styled) rows) ≡ map row_said rows
row_drawn is_styled [] = refl
row_drawn is_styled (row ∷ rows) =
    ap (λ (t : List ℕ). t ∷ map row_text (map (painted_row is_styled) rows)) (ap encode_utf8_all (drawn_chars is_styled row)) ∙ ap (λ (t : List (List ℕ)). row_said row ∷ t) (row_drawn is_styled rows)

rows_drawn : (is_styled : Bool) (width : ℕ) (lines : List (List StyledChar)) → map row_text (painted_rows is_styled width lines) ≡ map row_said (flat_map (wrapped width) lines)
rows_drawn is_styled width [] = refl
rows_drawn is_styled width (line ∷ lines) =
    map-append row_text (painted_line is_styled width line) (painted_rows is_styled width lines)
    ∙ ap (λ (t : List (List ℕ)). t ++ map row_text (painted_rows is_styled width lines)) (row_drawn is_styled (wrapped width line))
    ∙ ap (λ (t : List (List ℕ)). map row_said (wrapped width line) ++ t) (rows_drawn is_styled width lines)
    ∙ sym (map-append row_said (wrapped width line) (flat_map (wrapped width) lines))

-- the page of the rows of a text says these rows
pub pages_are_the_rows : PagesAreTheRows
pages_are_the_rows = λ rules ascii is_styled width lines paged wide none says is.
    let it = all_say rules ascii width lines 0 is.rows is.groups_begin.0 wide none says is.groups_begin.2 in
    record { text = ap (map line_text) is.lines ∙ it.0 ∙ sym (rows_drawn is_styled width lines); begin = is.groups_begin.1 ∙ it.1 }
