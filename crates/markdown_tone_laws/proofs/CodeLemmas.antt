-- What is shown of lines of code and isn't blank.
use Rattle.std.proofs.Common.{◌≡◌, ℕ, zero, suc, ◌+◌, ◌-◌, ◌<◌, ◌≤◌, ◌%◌, Bool, true, false, not, ◌&&◌, ◌||◌, cond, Option, Some, None, List, [], ◌∷◌, ◌++◌, map, length, drop, length-drop, filter, refl, sym, ap, ◌∙◌, arith, append_assoc, append-nil}
use Rattle.std.specs.Prelude.{chars, encode_utf8_all, replicate, ◌==◌}
use Rattle.std.specs.List.{flat_map}
use Rattle.std.specs.Char.{encode_utf8, is_whitespace}
use Rattle.std.specs.Str.Lossy.{utf8_lossy}
use Rattle.std.proofs.lemmas.Bool.{and_parts}
use Rattle.std.proofs.lemmas.Bool.Decides.{nat_tests}
use Rattle.std.proofs.lemmas.List.Elements.{filter-append}
use Rattle.std.proofs.lemmas.List.{map-append}
use Rattle.std.proofs.lemmas.Str.{chars-encodes, encode_ascii}
use lib.Utf8.{scalars, scalar}
use Rattle.bstr.specs.Utf8.{Decoded, decoded, or_replacement, lossy_chars}
use Rattle.bstr.proofs.lemmas.LossyLemmas.{lossy_chars-front, lossy_chars-utf8_lossy}
use Rattle.bstr.proofs.lemmas.PieceLemmas.{piece-bounds, lossy_chars-step, pieces-nil}
use Rattle.bstr.proofs.lemmas.SoundLemmas.{SpellsChar-decoded}
use Rattle.mad_md.specs.Flagged.{FlaggedChar, flagged, unflagged}
use Rattle.mad_md.specs.Lines.{normal}
use Rattle.mad_md.specs.declared.composite.CompositeStyle.TheVariants as styles
use Rattle.mad_characters.specs.Pictures.{picture}
use Rattle.mad_steady.specs.Kinds.{kind, other_kind}
use Rattle.mad_steady.specs.Steady.{held, written, next_place, steady_from, steady_text}
use Rattle.mad_steady.specs.declared.kinds.Kind.{Kind}
use Rattle.mad_steady.specs.declared.kinds.Kind.TheVariants.{Opening}
use Rattle.mad_steady.specs.declared.places.Place.{Place}
use Rattle.mad_steady.specs.declared.places.Place.TheVariants.{Opened, AfterNarrow, AfterWide, HoldsLead, HoldsSyllable, HoldsIndicator}
use Rattle.mad_steady.proofs.TextLemmas.{steady_is}
use Rattle.mad_style.specs.declared.kinds.CompositeKind.TheVariants.{Code}
use Rattle.code_tones.specs.Tones.{is_counted}
use Rattle.mad_marks.specs.LineMarks.{content_counted, has_mark}
use Rattle.mad_marks.specs.RowMarks as marks
use Rattle.markdown_inlines.specs.Printable.{shown_char}
use Rattle.markdown_lines.specs.Code.{spaces, expanded_char, next_column, expanded, code_text, code_line, code_lines}
use Rattle.markdown_lines.specs.Steady.{steady_line, steady_lines}
use Rattle.markdown_marks.specs.Remaining.{Remaining}
use Rattle.markdown_tones.specs.CodeSource.{pictured, shown_source, line_source, code_source}
use Rattle.markdown_tones.proofs.SourceLemmas.{pictured_scalars}

-- ---- characters are scalars

scalar_read : (o : Option ℕ) → ((c : ℕ) → o ≡ Some c → scalar c ≡ true) → scalar (or_replacement o) ≡ true
scalar_read None h = refl
scalar_read (Some c) h = h c refl

lossy_scalars : (fuel : ℕ) (bs : List ℕ) → length bs ≤ fuel → scalars (lossy_chars bs) ≡ true
lossy_scalars fuel [] few = ap (λ ps. scalars (map (λ (p : Decoded). or_replacement p.char) ps)) pieces-nil
lossy_scalars zero (b ∷ bs) few = absurd (omega arith)
lossy_scalars (suc fuel) (b ∷ bs) few =
    let all = b ∷ bs in
    let first : scalar (or_replacement (decoded all).char) ≡ true = scalar_read (decoded all).char (λ c e. (SpellsChar-decoded all c e).scalar) in
    let rest : scalars (lossy_chars (drop (decoded all).size all)) ≡ true = lossy_scalars fuel (drop (decoded all).size all) (shorter fuel all few (omega arith)) in
    ap scalars (lossy_chars-step all (omega arith)) ∙ ap (λ t. t && scalars (lossy_chars (drop (decoded all).size all))) first ∙ rest
  where
    shorter : (fuel : ℕ) (all : List ℕ) → length all ≤ suc fuel → 0 < length all → length (drop (decoded all).size all) ≤ fuel
    shorter fuel all few some = omega (arith, length-drop (decoded all).size all, piece-bounds all some)

-- the characters of bytes that were made a text are those that the bytes are read as
pub lossy_read : (bs : List ℕ) → chars (utf8_lossy bs) ≡ lossy_chars bs
lossy_read bs = ap chars (sym (lossy_chars-utf8_lossy bs)) ∙ chars-encodes (lossy_chars bs) (lossy_scalars (length bs) bs (omega arith))

read_scalars : (bs : List ℕ) → scalars (chars (utf8_lossy bs)) ≡ true
read_scalars bs = ap scalars (lossy_read bs) ∙ lossy_scalars (length bs) bs (omega arith)

scalars_both : (xs ys : List ℕ) → scalars xs ≡ true → scalars ys ≡ true → scalars (xs ++ ys) ≡ true
scalars_both [] ys a b = b
scalars_both (x ∷ xs) ys a b =
    let both = and_parts _ _ a in
    ap (λ t. t && scalars (xs ++ ys)) both.0 ∙ scalars_both xs ys both.1 b

spaces_scalars : (n : ℕ) → scalars (spaces n) ≡ true
unfolding spaces
spaces_scalars zero = refl
spaces_scalars (suc n) = spaces_scalars n

shown_scalar : (c : ℕ) → scalar c ≡ true → scalar (shown_char c) ≡ true
shown_scalar c h = grind (arith, nat_tests, h)

char_scalars : (t : Bool) (n c : ℕ) → scalar c ≡ true → scalars (cond t (spaces n) (shown_char c ∷ [])) ≡ true
char_scalars true n c h = spaces_scalars n
char_scalars false n c h = ap (λ t. t && true) (shown_scalar c h)

expanded_scalars : (column : ℕ) (cs : List ℕ) → scalars cs ≡ true → scalars (expanded column cs) ≡ true
unfolding expanded
expanded_scalars column [] h = refl
expanded_scalars column (c ∷ cs) h =
    let both = and_parts _ _ h in
    scalars_both (expanded_char column c) (expanded (next_column column c) cs) (char_scalars (c == 9) (4 - column % 4) c both.0) (expanded_scalars (next_column column c) cs both.1)

-- ---- what isn't blank of them

abbrev is_solid : ℕ → Bool
is_solid c = not (is_whitespace c)

-- the characters of a text that aren't blank
abbrev solid : List ℕ → List ℕ
solid cs = filter is_solid cs

opening_at : (place : Place) (c : ℕ) (cs : List ℕ) → written place Opening c ++ steady_from (next_place place Opening c) cs ≡ held place ++ (c ∷ steady_from Opened cs)
opening_at Opened c cs = refl
opening_at AfterNarrow c cs = refl
opening_at AfterWide c cs = refl
opening_at (HoldsLead x) c cs = refl
opening_at (HoldsSyllable x) c cs = refl
opening_at (HoldsIndicator x) c cs = refl

-- a blank ends what a place holds, and what is behind it begins anew
blank_solid : (place : Place) (c : ℕ) (cs : List ℕ) → kind c ≡ Opening → is_solid c ≡ false → solid (steady_from place (c ∷ cs)) ≡ solid (held place) ++ solid (steady_from Opened cs)
blank_solid place c cs opening blank =
    ap (λ (k : Kind). solid (written place k c ++ steady_from (next_place place k c) cs)) opening ∙ ap solid (opening_at place c cs)
    ∙ filter-append is_solid (held place) (c ∷ steady_from Opened cs)
    ∙ ap (λ (t : Bool). solid (held place) ++ cond t (c ∷ solid (steady_from Opened cs)) (solid (steady_from Opened cs))) blank

space_opening : kind 32 ≡ Opening
unfolding kind other_kind
space_opening = refl

tab_opening : kind 9 ≡ Opening
unfolding kind other_kind
tab_opening = refl

newline_opening : kind 10 ≡ Opening
unfolding kind other_kind
newline_opening = refl

spaces_anew : (n : ℕ) (cs : List ℕ) → solid (steady_from Opened (spaces n ++ cs)) ≡ solid (steady_from Opened cs)
unfolding spaces
spaces_anew zero cs = refl
spaces_anew (suc n) cs = blank_solid Opened 32 (spaces n ++ cs) space_opening refl ∙ spaces_anew n cs

spaces_end : (place : Place) (n : ℕ) (cs : List ℕ) → 0 < n → solid (steady_from place (spaces n ++ cs)) ≡ solid (held place) ++ solid (steady_from Opened cs)
unfolding spaces
spaces_end place zero cs some = absurd (omega arith)
spaces_end place (suc n) cs some = blank_solid place 32 (spaces n ++ cs) space_opening refl ∙ ap (λ (l : List ℕ). solid (held place) ++ l) (spaces_anew n cs)

-- as much of both texts isn't blank, wherever they begin
abbrev AreAlike : List ℕ → List ℕ → Type 0
AreAlike xs ys = (place : Place) → solid (steady_from place xs) ≡ solid (steady_from place ys)

alike_next : (c : ℕ) (xs ys : List ℕ) → AreAlike xs ys → AreAlike (c ∷ xs) (c ∷ ys)
alike_next c xs ys more place =
    let k = kind c in
    filter-append is_solid (written place k c) (steady_from (next_place place k c) xs) ∙ ap (λ (l : List ℕ). solid (written place k c) ++ l) (more (next_place place k c))
    ∙ sym (filter-append is_solid (written place k c) (steady_from (next_place place k c) ys))

blanks_alike : (c d : ℕ) (xs ys : List ℕ) → kind c ≡ Opening → is_solid c ≡ false → kind d ≡ Opening → is_solid d ≡ false → AreAlike xs ys → AreAlike (c ∷ xs) (d ∷ ys)
blanks_alike c d xs ys copens cblank dopens dblank more place =
    blank_solid place c xs copens cblank ∙ ap (λ (l : List ℕ). solid (held place) ++ l) (more Opened) ∙ sym (blank_solid place d ys dopens dblank)

spaces_alike : (n d : ℕ) (xs ys : List ℕ) → 0 < n → kind d ≡ Opening → is_solid d ≡ false → AreAlike xs ys → AreAlike (spaces n ++ xs) (d ∷ ys)
spaces_alike n d xs ys some dopens dblank more place =
    spaces_end place n xs some ∙ ap (λ (l : List ℕ). solid (held place) ++ l) (more Opened) ∙ sym (blank_solid place d ys dopens dblank)

tab_is : (c : ℕ) → (c == 9) ≡ true → c ≡ 9
tab_is c e = grind (arith, nat_tests, e)

newline_is : (c : ℕ) → (c == 10) ≡ true → c ≡ 10
newline_is c e = grind (arith, nat_tests, e)

char_alike : (t u : Bool) (c n : ℕ) (xs ys : List ℕ) → (c == 9) ≡ t → (c == 10) ≡ u → 0 < n → AreAlike xs ys → AreAlike (cond t (spaces n) (cond (t || u) 32 (picture c) ∷ []) ++ xs) (cond (t || u) c (picture c) ∷ ys)
char_alike true u c n xs ys e f some more = spaces_alike n c xs ys some (ap kind (tab_is c e) ∙ tab_opening) (ap is_solid (tab_is c e)) more
char_alike false true c n xs ys e f some more = blanks_alike 32 c xs ys space_opening refl (ap kind (newline_is c f) ∙ newline_opening) (ap is_solid (newline_is c f)) more
char_alike false false c n xs ys e f some more = alike_next (picture c) xs ys more

expanded_alike : (column : ℕ) (cs : List ℕ) → AreAlike (expanded column cs) (map pictured cs)
unfolding expanded
expanded_alike column [] = λ place. refl
expanded_alike column (c ∷ cs) =
    char_alike (c == 9) (c == 10) c (4 - column % 4) (expanded (next_column column c) cs) (map pictured cs) refl refl (omega arith) (expanded_alike (next_column column c) cs)

-- ---- the text of a line

text_scalars : (column : ℕ) (line : Remaining) → scalars (spaces column ++ spaces line.pending ++ expanded line.pending (chars (utf8_lossy line.bytes))) ≡ true
text_scalars column line =
    scalars_both (spaces column ++ spaces line.pending) (expanded line.pending (chars (utf8_lossy line.bytes))) (scalars_both (spaces column) (spaces line.pending) (spaces_scalars column) (spaces_scalars line.pending))
    (expanded_scalars line.pending (chars (utf8_lossy line.bytes)) (read_scalars line.bytes))

shown_scalars : (bytes : List ℕ) → scalars (shown_source bytes) ≡ true
shown_scalars bytes = steady_is Opened (map pictured (chars (utf8_lossy bytes))) refl (pictured_scalars (chars (utf8_lossy bytes)) (read_scalars bytes))

-- what isn't blank of the steady text of a line is what isn't blank of its source
solid_text : (column : ℕ) (line : Remaining) → solid (chars (encode_utf8_all (steady_text (chars (code_text column line))))) ≡ solid (shown_source line.bytes)
unfolding code_text
solid_text column line =
    let cs = expanded line.pending (chars (utf8_lossy line.bytes)) in
    let text : List ℕ = spaces column ++ spaces line.pending ++ cs in
    let fine : scalars text ≡ true = text_scalars column line in
    ap (λ (l : List ℕ). solid (chars (encode_utf8_all (steady_text l)))) (chars-encodes text fine)
    ∙ ap solid (chars-encodes (steady_text text) (steady_is Opened text refl fine))
    ∙ ap (λ (l : List ℕ). solid (steady_text l)) (append_assoc (spaces column) (spaces line.pending) cs)
    ∙ spaces_anew column (spaces line.pending ++ cs) ∙ spaces_anew line.pending cs
    ∙ expanded_alike line.pending (chars (utf8_lossy line.bytes)) Opened

-- ---- a line

flagged_solid : (cs : List ℕ) → filter (marks.is_counted (has_mark Code)) (flagged unflagged cs) ≡ flagged unflagged (filter is_solid cs)
flagged_solid [] = refl
flagged_solid (c ∷ cs) = by_solid (is_solid c) c cs (flagged_solid cs)
  where
    by_solid : (t : Bool) (c : ℕ) (cs : List ℕ) → filter (marks.is_counted (has_mark Code)) (flagged unflagged cs) ≡ flagged unflagged (filter is_solid cs)
        → cond t (record { char = c; flags = unflagged } ∷ filter (marks.is_counted (has_mark Code)) (flagged unflagged cs)) (filter (marks.is_counted (has_mark Code)) (flagged unflagged cs)) ≡ flagged unflagged (cond t (c ∷ filter is_solid cs) (filter is_solid cs))
    by_solid true c cs more = ap (λ l. record { char = c; flags = unflagged } ∷ l) more
    by_solid false c cs more = more

-- what is counted of characters of code
abbrev pub counted_of : List ℕ → List FlaggedChar
counted_of cs = flagged unflagged (filter is_counted cs)

nothing_read : chars (utf8_lossy []) ≡ []
nothing_read = lossy_read [] ∙ ap (λ ps. map (λ (p : Decoded). or_replacement p.char) ps) pieces-nil

no_bytes : (bs : List ℕ) (t : Bool) → (length bs == 0) ≡ t → t ≡ true → [] ≡ counted_of (shown_source bs)
no_bytes [] t e h = sym (ap (λ (cs : List ℕ). counted_of (steady_text (map pictured cs))) nothing_read)
no_bytes (b ∷ bs) true e h = absurd (grind (arith, nat_tests, e))
no_bytes (b ∷ bs) false e h = absurd (let k = h in cc)

line_full : (column : ℕ) (line : Remaining) → filter (marks.is_counted (has_mark Code)) (flagged unflagged (chars (encode_utf8_all (steady_text (chars (code_text column line))))) ++ []) ≡ counted_of (shown_source line.bytes)
line_full column line =
    let cs = chars (encode_utf8_all (steady_text (chars (code_text column line)))) in
    ap (filter (marks.is_counted (has_mark Code))) (append-nil (flagged unflagged cs)) ∙ flagged_solid cs ∙ ap (flagged unflagged) (solid_text column line)

line_by : (column : ℕ) (line : Remaining) (p b : Bool) → (length line.bytes == 0) ≡ b
    → content_counted has_mark (steady_line (cond (p && b) (normal (record { style = styles.Code; runs = [] })) (normal (record { style = styles.Code; runs = record { flags = unflagged; text = code_text column line } ∷ [] })))) ≡ counted_of (shown_source line.bytes)
line_by column line true true e = no_bytes line.bytes true e refl
line_by column line true false e = line_full column line
line_by column line false b e = line_full column line

line_solid : (column : ℕ) (line : Remaining) → content_counted has_mark (steady_line (code_line column line)) ≡ counted_of (shown_source line.bytes)
line_solid column line = line_by column line (line.pending == 0) (length line.bytes == 0) refl

-- ---- all lines

counted_joined : (xs ys : List ℕ) → counted_of (xs ++ ys) ≡ counted_of xs ++ counted_of ys
counted_joined xs ys =
    ap (flagged unflagged) (filter-append is_counted xs ys)
    ∙ map-append (λ (c : ℕ). let x : FlaggedChar = record { char = c; flags = unflagged } in x) (filter is_counted xs) (filter is_counted ys)

blank_encodes : (n : ℕ) → encode_utf8_all (replicate n 32) ≡ replicate n 32
blank_encodes zero = refl
blank_encodes (suc n) = ap (λ l. l ++ encode_utf8_all (replicate n 32)) (encode_ascii 32 (omega arith)) ∙ ap (λ l. 32 ∷ l) (blank_encodes n)

blank_scalars : (n : ℕ) → scalars (replicate n 32) ≡ true
blank_scalars zero = refl
blank_scalars (suc n) = blank_scalars n

blank_counted : (n : ℕ) → counted_of (replicate n 32) ≡ []
blank_counted zero = refl
blank_counted (suc n) = blank_counted n

newline_encodes : encode_utf8_all (10 ∷ []) ≡ 10 ∷ []
newline_encodes = append-nil (encode_utf8 10) ∙ encode_ascii 10 (omega arith)

newline_read : (rest : List ℕ) → lossy_chars (10 ∷ rest) ≡ 10 ∷ lossy_chars rest
newline_read rest = ap (λ l. lossy_chars (l ++ rest)) (sym newline_encodes) ∙ lossy_chars-front (10 ∷ []) rest refl

line_read : (cs rest : List ℕ) → scalars cs ≡ true → lossy_chars (encode_utf8_all cs ++ (10 ∷ rest)) ≡ cs ++ (10 ∷ lossy_chars rest)
line_read cs rest fine = lossy_chars-front cs (10 ∷ rest) fine ∙ ap (λ l. cs ++ l) (newline_read rest)

source_read : (line : Remaining) (rest : List ℕ) → lossy_chars (line_source line ++ rest) ≡ replicate line.pending 32 ++ (shown_source line.bytes ++ (10 ∷ lossy_chars rest))
source_read line rest =
    let bytes = encode_utf8_all (shown_source line.bytes) in
    ap lossy_chars (append_assoc (replicate line.pending 32) (bytes ++ 10 ∷ []) rest ∙ ap (λ l. replicate line.pending 32 ++ l) (append_assoc bytes (10 ∷ []) rest)
    ∙ ap (λ l. l ++ (bytes ++ (10 ∷ rest))) (sym (blank_encodes line.pending)))
    ∙ lossy_chars-front (replicate line.pending 32) (bytes ++ (10 ∷ rest)) (blank_scalars line.pending) ∙ ap (λ l. replicate line.pending 32 ++ l) (line_read (shown_source line.bytes) rest (shown_scalars line.bytes))

source_counted : (line : Remaining) (rest : List ℕ) → counted_of (lossy_chars (line_source line ++ rest)) ≡ counted_of (shown_source line.bytes) ++ counted_of (lossy_chars rest)
source_counted line rest =
    ap counted_of (source_read line rest) ∙ counted_joined (replicate line.pending 32) (shown_source line.bytes ++ (10 ∷ lossy_chars rest))
    ∙ ap (λ l. l ++ counted_of (shown_source line.bytes ++ (10 ∷ lossy_chars rest))) (blank_counted line.pending) ∙ counted_joined (shown_source line.bytes) (10 ∷ lossy_chars rest)

-- what is counted of steady lines of code is what is counted of their source
pub code_solid : (column : ℕ) (lines : List Remaining) → flat_map (content_counted has_mark) (steady_lines (code_lines column lines)) ≡ counted_of (lossy_chars (code_source lines))
unfolding code_lines steady_lines
code_solid column [] = sym (ap (λ ps. counted_of (map (λ (p : Decoded). or_replacement p.char) ps)) pieces-nil)
code_solid column (l ∷ ls) =
    ap (λ x. x ++ flat_map (content_counted has_mark) (map steady_line (map (code_line column) ls))) (line_solid column l) ∙ ap (λ x. counted_of (shown_source l.bytes) ++ x) (code_solid column ls) ∙ sym (source_counted l (code_source ls))
