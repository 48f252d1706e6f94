-- The parts of a text, and those of the lines that are read from it.
use Rattle.std.proofs.Common.{◌≡◌, ◌⊎◌, inl, inr, Bool, true, false, ◌&&◌, List, [], ◌∷◌, ◌++◌, map, Option, None, if◌then◌else◌, refl, ap, sym, ◌∙◌, subst}
use Rattle.std.specs.Prelude.{◌||◌}
use Rattle.std.specs.List.{flat_map}
use Rattle.std.proofs.lemmas.List.{map-append}
use Rattle.std.proofs.lemmas.List.Concat.{flat_map-append}
use Rattle.mad_md.specs.Lines.{LineContent, normal, table_row, table_rule, horizontal_rule}
use Rattle.mad_md.specs.declared.alignment.Alignment.{Alignment}
use Rattle.mad_style.specs.Kinds.{kind_of}
use Rattle.mad_blocks.specs.TextParts.{is_code, is_table, stand_together, in_front, text_parts}
use Rattle.mad_layout.specs.FlaggedTexts.{LineInPart, aligns_at, lines_in, lines_in_parts}
use Rattle.mad_blocks.specs.Layouts.{AreRead}
use Rattle.mad_format.specs.FmtLines.{IsLineRead}
use Rattle.mad_blocks.specs.LayoutParts.{Part, table, block, single, is_code_kind, with_table, with_code, with_composite, parts_of}
use Rattle.mad_rows.specs.declared.row_skin.RowSkin.{RowSkin}
use Rattle.mad_format.specs.declared.composite.FmtComposite.{FmtComposite}
use Rattle.mad_format.specs.declared.line.FmtLine.{FmtLine}
use Rattle.mad_format.specs.declared.line.FmtLine.TheVariants.{Normal, TableRow, TableRule, HorizontalRule}
use Rattle.mad_blocks.proofs.LayoutJoins.{by_bool}
use Rattle.mad_layout.proofs.KeptWidths.{IsTableLineRead, AreTableRead}
use Rattle.mad_blocks.proofs.PartCursorLemmas.{code_no_table, table_no_code}
use Rattle.mad_blocks.proofs.PartLemmas.{raw_lines}
use Rattle.mad_rows.specs.RowStyles.{line_rules}

-- ---- the parts of what was read are those of the text

-- a line of code, and what was read of it
pub record IsCodeRead (skin : RowSkin) (c : LineContent) (l : FmtComposite) : Type 0 where
  pub code : is_code c ≡ true
  pub read : IsLineRead (line_rules skin) c (Normal l)

-- the lines of a block of code, and what was read of each
abbrev pub AreCodeRead : RowSkin → List LineContent → List FmtComposite → Type 0
AreCodeRead skin [] [] = Unit {0}
AreCodeRead skin (c ∷ cs) (l ∷ ls) = IsCodeRead skin c l × AreCodeRead skin cs ls
AreCodeRead skin _ _ = ⊥

-- a part of a text, and the part of what was read of its lines
abbrev pub IsPartRead : RowSkin → List LineContent → Part → Type 0
IsPartRead skin (c ∷ cs) (table ls) = AreTableRead skin (c ∷ cs) ls
IsPartRead skin (c ∷ cs) (block (l ∷ ls)) = IsCodeRead skin c l × AreCodeRead skin cs ls
IsPartRead skin (c ∷ []) (single l) = (is_code c ≡ false) × (is_table c ≡ false) × IsLineRead (line_rules skin) c l
IsPartRead skin _ _ = ⊥

-- the parts of a text, and those of what was read of it
abbrev pub ArePartsRead : RowSkin → List (List LineContent) → List Part → Type 0
ArePartsRead skin [] [] = Unit {0}
ArePartsRead skin (cs ∷ css) (p ∷ ps) = IsPartRead skin cs p × ArePartsRead skin css ps
ArePartsRead skin _ _ = ⊥

both_on : (a b c : Bool) → a ≡ true → b ≡ true → ((a && b) || c) ≡ true
both_on true true c e f = refl
both_on true false c e f = absurd (cc)
both_on false b c e f = absurd (cc)

later_on : (a b c : Bool) → b ≡ true → c ≡ true → (a || (b && c)) ≡ true
later_on true b c e f = refl
later_on false true true e f = refl
later_on false true false e f = absurd (cc)
later_on false false c e f = absurd (cc)

-- two tests of two lines, neither of which both pass
apart : (a b c d : Bool) → (a ≡ false) ⊎ (b ≡ false) → (c ≡ false) ⊎ (d ≡ false) → ((a && b) || (c && d)) ≡ false
apart false b false d e f = refl
apart false b true false e f = refl
apart false b true true e (inl f) = absurd (cc)
apart false b true true e (inr f) = absurd (cc)
apart true false false d e f = refl
apart true false true false e f = refl
apart true false true true e (inl f) = absurd (cc)
apart true false true true e (inr f) = absurd (cc)
apart true true c d (inl e) f = absurd (cc)
apart true true c d (inr e) f = absurd (cc)

-- what a line in front of parts makes of them, by whether it goes with the first line
abbrev ReadWith : RowSkin → Bool → LineContent → LineContent → List LineContent → List (List LineContent) → List Part → Type 0
ReadWith skin b c d ds css ps = ArePartsRead skin (if b then (c ∷ d ∷ ds) ∷ css else (c ∷ []) ∷ (d ∷ ds) ∷ css) ps

code_joins : (skin : RowSkin) (c : LineContent) (l : FmtComposite) (css : List (List LineContent)) (ps : List Part) → IsCodeRead skin c l → ArePartsRead skin css ps → ArePartsRead skin (in_front c css) (with_code l ps)
code_joins skin c l [] [] h parts = ((h, tt), tt)
code_joins skin c l [] (p ∷ ps) h parts = absurd parts
code_joins skin c l (cs ∷ css) [] h parts = absurd parts
code_joins skin c l ((d ∷ ds) ∷ css) (table (m ∷ ms) ∷ ps) h parts =
    subst (λ (b : Bool). ReadWith skin b c d ds css (block (l ∷ []) ∷ table (m ∷ ms) ∷ ps)) (sym (apart (is_code c) (is_code d) (is_table c) (is_table d) (inr (table_no_code d parts.0.0.table)) (inl (code_no_table c h.code)))) ((h, tt), parts)
code_joins skin c l ((d ∷ ds) ∷ css) (block (k ∷ ks) ∷ ps) h parts =
    subst (λ (b : Bool). ReadWith skin b c d ds css (block (l ∷ k ∷ ks) ∷ ps)) (sym (both_on (is_code c) (is_code d) (is_table c && is_table d) h.code parts.0.0.code)) ((h, parts.0), parts.1)
code_joins skin c l ((d ∷ []) ∷ css) (single m ∷ ps) h parts =
    subst (λ (b : Bool). ReadWith skin b c d [] css (block (l ∷ []) ∷ single m ∷ ps)) (sym (apart (is_code c) (is_code d) (is_table c) (is_table d) (inr parts.0.0) (inr parts.0.1))) ((h, tt), parts)
code_joins skin c l _ _ h parts = absurd parts.0

table_joins : (skin : RowSkin) (c : LineContent) (l : FmtLine) (css : List (List LineContent)) (ps : List Part) → IsTableLineRead skin c l → ArePartsRead skin css ps → ArePartsRead skin (in_front c css) (with_table l ps)
table_joins skin c l [] [] h parts = ((h, tt), tt)
table_joins skin c l [] (p ∷ ps) h parts = absurd parts
table_joins skin c l (cs ∷ css) [] h parts = absurd parts
table_joins skin c l ((d ∷ ds) ∷ css) (table (m ∷ ms) ∷ ps) h parts =
    subst (λ (b : Bool). ReadWith skin b c d ds css (table (l ∷ m ∷ ms) ∷ ps)) (sym (later_on (is_code c && is_code d) (is_table c) (is_table d) h.table parts.0.0.table)) ((h, parts.0), parts.1)
table_joins skin c l ((d ∷ ds) ∷ css) (block (k ∷ ks) ∷ ps) h parts =
    subst (λ (b : Bool). ReadWith skin b c d ds css (table (l ∷ []) ∷ block (k ∷ ks) ∷ ps)) (sym (apart (is_code c) (is_code d) (is_table c) (is_table d) (inl (table_no_code c h.table)) (inr (code_no_table d parts.0.0.code)))) ((h, tt), parts)
table_joins skin c l ((d ∷ []) ∷ css) (single m ∷ ps) h parts =
    subst (λ (b : Bool). ReadWith skin b c d [] css (table (l ∷ []) ∷ single m ∷ ps)) (sym (apart (is_code c) (is_code d) (is_table c) (is_table d) (inr parts.0.0) (inr parts.0.1))) ((h, tt), parts)
table_joins skin c l _ _ h parts = absurd parts.0

is_alone : (skin : RowSkin) (c : LineContent) (l : FmtLine) (css : List (List LineContent)) (ps : List Part) → is_code c ≡ false → is_table c ≡ false → IsLineRead (line_rules skin) c l → ArePartsRead skin css ps
    → ArePartsRead skin (in_front c css) (single l ∷ ps)
is_alone skin c l [] [] no_code no_table h parts = ((no_code, no_table, h), tt)
is_alone skin c l ([] ∷ css) (p ∷ ps) no_code no_table h parts = absurd parts.0
is_alone skin c l ((d ∷ ds) ∷ css) (p ∷ ps) no_code no_table h parts =
    subst (λ (b : Bool). ReadWith skin b c d ds css (single l ∷ p ∷ ps)) (sym (apart (is_code c) (is_code d) (is_table c) (is_table d) (inl no_code) (inl no_table))) ((no_code, no_table, h), parts)
is_alone skin c l _ _ no_code no_table h parts = absurd parts

-- the parts of what was read are those of the text
pub parts_read : (skin : RowSkin) (text : List LineContent) (read : List FmtLine) → AreRead (line_rules skin) text read → ArePartsRead skin (text_parts text) (parts_of read)
parts_read skin [] [] h = tt
parts_read skin [] (l ∷ ls) h = absurd h
parts_read skin (c ∷ cs) [] h = absurd h
parts_read skin (normal said ∷ cs) (Normal l ∷ ls) h =
    let parts = parts_read skin cs ls h.1 in
    let kind : is_code_kind l.kind ≡ is_code_kind (kind_of said.style) = ap is_code_kind h.0.kind in
    by_bool (λ b. is_code_kind l.kind ≡ b → ArePartsRead skin (in_front (normal said) (text_parts cs)) (with_composite b l (parts_of ls))) (is_code_kind l.kind)
    (λ on e. code_joins skin (normal said) l (text_parts cs) (parts_of ls) (record { code = sym kind ∙ on; read = h.0 }) parts)
    (λ off e. is_alone skin (normal said) (Normal l) (text_parts cs) (parts_of ls) (sym kind ∙ off) refl h.0 parts) refl
parts_read skin (table_row cells ∷ cs) (TableRow row ∷ ls) h = table_joins skin (table_row cells) (TableRow row) (text_parts cs) (parts_of ls) (record { table = refl; line = refl; read = h.0 }) (parts_read skin cs ls h.1)
parts_read skin (table_rule aligns ∷ cs) (TableRule rule ∷ ls) h = table_joins skin (table_rule aligns) (TableRule rule) (text_parts cs) (parts_of ls) (record { table = refl; line = refl; read = h.0 }) (parts_read skin cs ls h.1)
parts_read skin (horizontal_rule ∷ cs) (HorizontalRule ∷ ls) h = is_alone skin horizontal_rule HorizontalRule (text_parts cs) (parts_of ls) refl refl h.0 (parts_read skin cs ls h.1)
parts_read skin _ _ h = absurd h.0

-- the lines of a part are what is read from those of the text's part
code_raw : (skin : RowSkin) (cs : List LineContent) (ls : List FmtComposite) → AreCodeRead skin cs ls → AreRead (line_rules skin) cs (map Normal ls)
code_raw skin [] [] h = tt
code_raw skin (c ∷ cs) (l ∷ ls) h = (h.0.read, code_raw skin cs ls h.1)
code_raw skin _ _ h = absurd h

-- the lines of a table are what is read from those of the text's part
pub table_raw : (skin : RowSkin) (cs : List LineContent) (ls : List FmtLine) → AreTableRead skin cs ls → AreRead (line_rules skin) cs ls
table_raw skin [] [] h = tt
table_raw skin (c ∷ cs) (l ∷ ls) h = (h.0.read, table_raw skin cs ls h.1)
table_raw skin _ _ h = absurd h

-- so are those of any part
pub part_raw : (skin : RowSkin) (cs : List LineContent) (p : Part) → IsPartRead skin cs p → AreRead (line_rules skin) cs (raw_lines p)
part_raw skin (c ∷ cs) (table ls) h = table_raw skin (c ∷ cs) ls h
part_raw skin (c ∷ cs) (block (l ∷ ls)) h = (h.0.read, code_raw skin cs ls h.1)
part_raw skin (c ∷ []) (single l) h = (h.2, tt)
part_raw skin _ _ h = absurd h

-- ---- lines in their parts

-- the lines of parts, each in its part
abbrev pub all_in : List (List LineContent) → List LineInPart
all_in css = flat_map (λ part. lines_in part None true part) css

-- the lines of a text in their parts, where no part is cut
pub in_parts_both : (text front rest : List LineContent) → text_parts text ≡ text_parts front ++ text_parts rest → lines_in_parts text ≡ lines_in_parts front ++ lines_in_parts rest
in_parts_both text front rest parts =
    let each : List LineContent → List LineInPart = λ part. lines_in part None true part in
    ap (flat_map each) parts ∙ flat_map-append each (text_parts front) (text_parts rest)

-- ---- all lines are there

abbrev all_lines : List (List LineContent) → List LineContent
all_lines [] = []
all_lines (p ∷ ps) = p ++ all_lines ps

lines_of_part : (part : List LineContent) (above : Option (List Alignment)) (first : Bool) (cs : List LineContent) → map (λ (x : LineInPart). x.line) (lines_in part above first cs) ≡ cs
lines_of_part part above first [] = refl
lines_of_part part above first (c ∷ cs) = ap (λ (l : List LineContent). c ∷ l) (lines_of_part part (aligns_at above c) false cs)

lines_of_parts : (css : List (List LineContent)) → map (λ (x : LineInPart). x.line) (all_in css) ≡ all_lines css
lines_of_parts [] = refl
lines_of_parts (cs ∷ css) =
    map-append (λ (x : LineInPart). x.line) (lines_in cs None true cs) (all_in css)
    ∙ ap (λ (l : List LineContent). l ++ map (λ (x : LineInPart). x.line) (all_in css)) (lines_of_part cs None true cs) ∙ ap (λ (l : List LineContent). cs ++ l) (lines_of_parts css)

front_all : (c : LineContent) (css : List (List LineContent)) → all_lines (in_front c css) ≡ c ∷ all_lines css
front_all c [] = refl
front_all c ([] ∷ css) = refl
front_all c ((d ∷ ds) ∷ css) =
    by_bool (λ b. all_lines (if b then (c ∷ d ∷ ds) ∷ css else (c ∷ []) ∷ (d ∷ ds) ∷ css) ≡ c ∷ all_lines ((d ∷ ds) ∷ css)) (stand_together c d) (λ on. refl) (λ off. refl)

parts_all : (text : List LineContent) → all_lines (text_parts text) ≡ text
parts_all [] = refl
parts_all (c ∷ cs) = front_all c (text_parts cs) ∙ ap (λ (l : List LineContent). c ∷ l) (parts_all cs)

-- the lines of a text in their parts are its lines
pub lines_are : (text : List LineContent) → map (λ (x : LineInPart). x.line) (lines_in_parts text) ≡ text
lines_are text = lines_of_parts (text_parts text) ∙ parts_all text
