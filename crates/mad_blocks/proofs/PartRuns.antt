-- Runs of lines that are one part: a table, a block of code.
use Rattle.std.proofs.Common.{◌≡◌, ℕ, Bool, true, false, List, [], ◌∷◌, ◌++◌, map, refl, ap, sym, ◌∙◌}
use Rattle.std.specs.List.{AllByRecursion}
use Rattle.mad_blocks.specs.CodeBlocks.{NoCodeFirst}
use Rattle.mad_blocks.specs.LayoutParts.{Part, table, block, single, is_code_kind, is_code_line, with_table, with_code, with_composite, with_line, parts_of, IsTableFixedBy, AreTablesLaidOut}
use Rattle.mad_format.specs.FmtLines.{is_table_line}
use Rattle.mad_format.specs.WrappedLines.{Wrap}
use Rattle.mad_format.specs.LineRules.{LineRules}
use Rattle.mad_format.specs.Lists.{EachBecomes}
use Rattle.mad_format.specs.declared.composite.FmtComposite.{FmtComposite}
use Rattle.mad_format.specs.declared.line.FmtLine.{FmtLine}
use Rattle.mad_format.specs.declared.line.FmtLine.TheVariants.{Normal, TableRow, TableRule, HorizontalRule}

-- ---- what lines are

-- each line is one of a table
abbrev pub AllTableLines : List FmtLine → Type 0
AllTableLines ls = AllByRecursion (λ l. is_table_line l ≡ true) ls

-- each line is one of code
abbrev pub AllCode : List FmtComposite → Type 0
AllCode ls = AllByRecursion (λ l. is_code_kind l.kind ≡ true) ls

-- no line of a table comes first
abbrev pub NoTableFirst : List FmtLine → Type 0
NoTableFirst [] = Unit {0}
NoTableFirst (l ∷ ls) = is_table_line l ≡ false

-- a line of a table is none of code
pub table_not_code : (l : FmtLine) → is_table_line l ≡ true → is_code_line l ≡ false
table_not_code (Normal l) h = absurd (cc)
table_not_code (TableRow row) h = refl
table_not_code (TableRule rule) h = refl
table_not_code HorizontalRule h = absurd (cc)

-- ---- tables

-- a line of a table joins the parts as such a one
table_line : (l : FmtLine) (ps : List Part) → is_table_line l ≡ true → with_line l ps ≡ with_table l ps
table_line (Normal l) ps h = absurd (cc)
table_line (TableRow row) ps h = refl
table_line (TableRule rule) ps h = refl
table_line HorizontalRule ps h = absurd (cc)

composite_ends : (b : Bool) (m : FmtComposite) (l : FmtLine) (ps : List Part) → with_table l (with_composite b m ps) ≡ table (l ∷ []) ∷ with_composite b m ps
composite_ends false m l ps = refl
composite_ends true m l [] = refl
composite_ends true m l (table ls ∷ ps) = refl
composite_ends true m l (block ls ∷ ps) = refl
composite_ends true m l (single n ∷ ps) = refl

-- any other line is not of the table
other_ends : (m : FmtLine) (l : FmtLine) (ps : List Part) → is_table_line m ≡ false → with_table l (with_line m ps) ≡ table (l ∷ []) ∷ with_line m ps
other_ends (Normal m) l ps h = composite_ends (is_code_kind m.kind) m l ps
other_ends (TableRow row) l ps h = absurd (cc)
other_ends (TableRule rule) l ps h = absurd (cc)
other_ends HorizontalRule l ps h = refl

last_of_table : (l : FmtLine) (rest : List FmtLine) → NoTableFirst rest → with_table l (parts_of rest) ≡ table (l ∷ []) ∷ parts_of rest
last_of_table l [] h = refl
last_of_table l (m ∷ ms) h = other_ends m l (parts_of ms) h

-- a run of lines of a table is one part
pub one_table : (l : FmtLine) (ls rest : List FmtLine) → AllTableLines (l ∷ ls) → NoTableFirst rest → parts_of (l ∷ (ls ++ rest)) ≡ table (l ∷ ls) ∷ parts_of rest
one_table l [] rest parts first = table_line l (parts_of rest) parts.0 ∙ last_of_table l rest first
one_table l (m ∷ ms) rest parts first = table_line l (parts_of (m ∷ (ms ++ rest))) parts.0 ∙ ap (with_table l) (one_table m ms rest parts.1 first)

-- the part that lines of a table are, if there are any
abbrev pub table_parts : List FmtLine → List Part
table_parts [] = []
table_parts (l ∷ ls) = table (l ∷ ls) ∷ []

-- lines of a table in front of others are a part of their own
pub table_in_front : (run rest : List FmtLine) → AllTableLines run → NoTableFirst rest → parts_of (run ++ rest) ≡ table_parts run ++ parts_of rest
table_in_front [] rest run first = refl
table_in_front (l ∷ ls) rest run first = one_table l ls rest run first

-- ---- blocks of code

-- a line that is no code ends a block
no_code_ends : (m : FmtLine) (l : FmtComposite) (ps : List Part) → is_code_line m ≡ false → with_code l (with_line m ps) ≡ block (l ∷ []) ∷ with_line m ps
no_code_ends (Normal m) l ps h =
    let is : with_composite (is_code_kind m.kind) m ps ≡ single (Normal m) ∷ ps = ap (λ b. with_composite b m ps) h in
    ap (with_code l) is ∙ ap (λ qs. block (l ∷ []) ∷ qs) (sym is)
no_code_ends (TableRow row) l [] h = refl
no_code_ends (TableRow row) l (table ls ∷ ps) h = refl
no_code_ends (TableRow row) l (block ls ∷ ps) h = refl
no_code_ends (TableRow row) l (single m ∷ ps) h = refl
no_code_ends (TableRule rule) l [] h = refl
no_code_ends (TableRule rule) l (table ls ∷ ps) h = refl
no_code_ends (TableRule rule) l (block ls ∷ ps) h = refl
no_code_ends (TableRule rule) l (single m ∷ ps) h = refl
no_code_ends HorizontalRule l ps h = refl

last_of_block : (l : FmtComposite) (rest : List FmtLine) → NoCodeFirst rest → with_code l (parts_of rest) ≡ block (l ∷ []) ∷ parts_of rest
last_of_block l [] h = refl
last_of_block l (m ∷ ms) h = no_code_ends m l (parts_of ms) h

-- the part that lines of code are, if there are any
abbrev pub block_parts : List FmtComposite → List Part
block_parts [] = []
block_parts (l ∷ ls) = block (l ∷ ls) ∷ []

-- lines of code in front of others are a part of their own
pub block_in_front : (ls : List FmtComposite) (rest : List FmtLine) → AllCode ls → NoCodeFirst rest → parts_of (map Normal ls ++ rest) ≡ block_parts ls ++ parts_of rest
block_in_front [] rest h n = refl
block_in_front (l ∷ []) rest h n = ap (λ b. with_composite b l (parts_of rest)) h.0 ∙ last_of_block l rest n
block_in_front (l ∷ m ∷ ls) rest h n = ap (λ b. with_composite b l (parts_of (map Normal (m ∷ ls) ++ rest))) h.0 ∙ ap (with_code l) (block_in_front (m ∷ ls) rest h.1 n)

-- ---- any other line

-- any other line in front of others is a part by itself
pub alone_first : (l : FmtLine) (ls : List FmtLine) → is_code_line l ≡ false → is_table_line l ≡ false → parts_of (l ∷ ls) ≡ single l ∷ parts_of ls
alone_first (Normal l) ls h k = ap (λ b. with_composite b l (parts_of ls)) h
alone_first (TableRow row) ls h k = absurd (cc)
alone_first (TableRule rule) ls h k = absurd (cc)
alone_first HorizontalRule ls h k = refl

-- a line that is not of a table stays where tables are laid out, whatever part it is of
stays_in_front : (wraps : Wrap) (skin : LineRules) (width : ℕ) (b : Bool) (l : FmtComposite) (ps : List Part) (lines : List FmtLine) → EachBecomes (IsTableFixedBy wraps skin width) ps lines
    → EachBecomes (IsTableFixedBy wraps skin width) (with_composite b l ps) (Normal l ∷ lines)
stays_in_front wraps skin width true l (block ls ∷ ps) lines (own, others, joins, is, more) =
    (Normal l ∷ own, others, ap (λ xs. Normal l ∷ xs) joins, ap (λ xs. Normal l ∷ xs) is, more)
stays_in_front wraps skin width _ l _ lines h = (Normal l ∷ [], lines, refl, refl, h)

-- a line that is not of a table stays where tables are laid out
pub line_stays : (wraps : Wrap) (skin : LineRules) (width : ℕ) (l : FmtLine) (rest lines : List FmtLine) → is_table_line l ≡ false
    → AreTablesLaidOut wraps skin width rest lines → AreTablesLaidOut wraps skin width (l ∷ rest) (l ∷ lines)
line_stays wraps skin width (Normal l) rest lines outside h = stays_in_front wraps skin width (is_code_kind l.kind) l (parts_of rest) lines h
line_stays wraps skin width (TableRow row) rest lines outside h = absurd (cc)
line_stays wraps skin width (TableRule rule) rest lines outside h = absurd (cc)
line_stays wraps skin width HorizontalRule rest lines outside h = (HorizontalRule ∷ [], lines, refl, refl, h)
