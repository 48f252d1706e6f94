-- Characters of a leaf, one after the other.
use Rattle.std.proofs.Common.{◌≡◌, ℕ, ◌+◌, ◌-◌, ◌<◌, ◌≤◌, Bool, true, false, List, [], ◌∷◌, ◌++◌, map, length, take, drop, reverse, get_or, None, sym, ap, subst, ◌∙◌, arith, append_assoc, append-nil, chars, encode_utf8}
use Rattle.std.specs.List.{suffix_len}
use Rattle.std.specs.Str.{IsUtf8, IsCharBoundary}
use Rattle.std.proofs.lemmas.List.{length-append, map-append, reverse-append, take_more, take_all}
use Rattle.std.proofs.lemmas.List.Sums.{suffix_len-take_yes, suffix_len-take_no}
use Rattle.std.proofs.lemmas.Str.{chars-append, chars-nil, chars_past_char, IsUtf8-drop, IsCharBoundary-from_take, IsCharBoundary-from_drop}
use Rattle.std.proofs.Math.Seq.{drop-append_seam, take-append_seam}
use Rattle.std.proofs.StrCases.{chars_of_empty}
use Rattle.markdown_inlines.specs.Styled.{Shown, shown_with, spelled, AreRuns}
use Rattle.markdown_inlines.specs.declared.looks.Look.{Look}
use Rattle.markdown_inlines.specs.declared.styled.TextRun.{TextRun}
use Rattle.markdown_lines.specs.Glyphs.{glyph_of, is_edge}
use Rattle.markdown_lines.specs.declared.glyphs.Glyph.{Glyph}

-- ---- from the end

-- what an index reads where there is none
abbrev pub no_glyph : Glyph
no_glyph = record { c = 0; flags = record { bold = false; italic = false; code = false; strikeout = false; link = false; picture = false; picture_sign = false }; link = None; picture = None }

-- So many characters are left, after this number at the edge: as many as in all but those at the edge.
abbrev pub LeavesSame : List Glyph → ℕ → Type 0
LeavesSame gs len = len - suffix_len is_edge (take len gs) ≡ length gs - suffix_len is_edge gs

-- at first all characters are left
pub leaves_all : (gs : List Glyph) → LeavesSame gs (length gs)
leaves_all gs = ap (λ (l : List Glyph). length gs - suffix_len is_edge l) (take_all (length gs) gs (omega arith))

-- a last character at the edge goes
pub leaves_less : (gs : List Glyph) (len : ℕ) (d : Glyph) → 0 < len → len ≤ length gs → is_edge (get_or gs (len - 1) d) ≡ true → LeavesSame gs len → LeavesSame gs (len - 1)
leaves_less gs len d some within passes h =
    let more : suffix_len is_edge (take len gs) ≡ 1 + suffix_len is_edge (take (len - 1) gs) = suffix_len-take_yes is_edge gs len d some within passes in
    omega (arith, more, h)

-- where the last character isn't at the edge, so many are left in the end
pub leaves_stop : (gs : List Glyph) (len : ℕ) (d : Glyph) → 0 < len → len ≤ length gs → is_edge (get_or gs (len - 1) d) ≡ false → LeavesSame gs len → len ≡ length gs - suffix_len is_edge gs
leaves_stop gs len d some within fails h =
    let none : suffix_len is_edge (take len gs) ≡ 0 = suffix_len-take_no is_edge gs len d some within fails in
    omega (arith, none, h)

-- where no character is left, none is in the end
pub leaves_none : (gs : List Glyph) (len : ℕ) → len ≡ 0 → LeavesSame gs len → len ≡ length gs - suffix_len is_edge gs
leaves_none gs len none h = omega (arith, none, h)

-- ---- a run, the last character first

-- characters that look so, each with its flags
abbrev pub glyphs_with : Bool → Look → List ℕ → List Glyph
glyphs_with bold look cs = map (glyph_of bold) (map (shown_with look) cs)

one_char : (c : ℕ) → IsUtf8 (encode_utf8 c) → chars (encode_utf8 c) ≡ c ∷ []
one_char c u = chars_past_char (encode_utf8 c) [] c u (sym (append-nil (encode_utf8 c))) ∙ ap (λ (l : List ℕ). c ∷ l) chars-nil

-- ---- runs, the last one first

reversed : (runs : List TextRun) (k : ℕ) (d : TextRun) → k < length runs → reverse (take (k + 1) runs) ≡ get_or runs k d ∷ reverse (take k runs)
reversed runs k d h = ap reverse (take_more runs k d h) ∙ reverse-append (take k runs) (get_or runs k d ∷ [])

-- the last of some runs stands first when they are turned round
pub last_run : (runs : List TextRun) (k n : ℕ) (d : TextRun) → n ≡ k + 1 → k < length runs → reverse (take n runs) ≡ get_or runs k d ∷ reverse (take k runs)
last_run runs k n d e h = ap (λ (m : ℕ). reverse (take m runs)) e ∙ reversed runs k d h

-- where the characters of the last run are put, those of the runs before it are to come
pub back_step : (bold : Bool) (rs : List TextRun) (r : TextRun) (text : List ℕ) (gs now whole : List Glyph) → reverse now ≡ glyphs_with bold r.look (chars (drop r.start text)) ++ reverse gs
    → map (glyph_of bold) (spelled (r ∷ rs) text) ++ reverse gs ≡ whole → map (glyph_of bold) (spelled rs (take r.start text)) ++ reverse now ≡ whole
unfolding spelled
back_step bold rs r text gs now whole e h =
    let before : List Shown = spelled rs (take r.start text) in
    let here : List Shown = map (shown_with r.look) (chars (drop r.start text)) in
    ap (λ (l : List Glyph). map (glyph_of bold) before ++ l) e ∙ sym (append_assoc (map (glyph_of bold) before) (map (glyph_of bold) here) (reverse gs))
    ∙ ap (λ (l : List Glyph). l ++ reverse gs) (sym (map-append (glyph_of bold) before here)) ∙ h

-- where no run is to come, all characters are put
pub back_end : (bold : Bool) (runs : List TextRun) (count : ℕ) (text : List ℕ) (gs whole : List Glyph) → count ≡ 0 → map (glyph_of bold) (spelled (reverse (take count runs)) text) ++ reverse gs ≡ whole → reverse gs ≡ whole
unfolding spelled
back_end bold runs count text gs whole e h = ap (λ (n : ℕ). map (glyph_of bold) (spelled (reverse (take n runs)) text) ++ reverse gs) (sym e) ∙ h

last_chars : (rest more : List ℕ) (c : ℕ) → IsUtf8 rest → IsUtf8 more → rest ≡ more ++ encode_utf8 c → chars rest ≡ chars more ++ c ∷ []
last_chars rest more c u f e =
    let many : length rest ≡ length more + length (encode_utf8 c) = ap length e ∙ length-append more (encode_utf8 c) in
    let taken : take (length more) rest ≡ more = ap (take (length more)) e ∙ take-append_seam more (encode_utf8 c) in
    let dropped : drop (length more) rest ≡ encode_utf8 c = ap (drop (length more)) e ∙ drop-append_seam more (encode_utf8 c) in
    let cut : IsCharBoundary rest (length more) = IsCharBoundary-from_take rest (length more) u (omega (arith, many)) (subst IsUtf8 (sym taken) f) in
    let alone : IsUtf8 (encode_utf8 c) = subst IsUtf8 dropped (IsUtf8-drop rest (length more) u cut) in
    ap chars e ∙ chars-append more (encode_utf8 c) f ∙ ap (λ (l : List ℕ). chars more ++ l) (one_char c alone)

-- the last character of a run is put, and those before it are to come
pub one_back : (bold : Bool) (look : Look) (rest more : List ℕ) (c : ℕ) (g : Glyph) (old now whole : List Glyph) → IsUtf8 rest → IsUtf8 more → rest ≡ more ++ encode_utf8 c → g ≡ glyph_of bold (shown_with look c)
    → now ≡ old ++ g ∷ [] → glyphs_with bold look (chars rest) ++ reverse old ≡ whole → glyphs_with bold look (chars more) ++ reverse now ≡ whole
one_back bold look rest more c g old now whole u f e is n h =
    let front : List Glyph = glyphs_with bold look (chars more) in
    let last : Glyph = glyph_of bold (shown_with look c) in
    let pushed : reverse now ≡ last ∷ reverse old = ap reverse n ∙ reverse-append old (g ∷ []) ∙ ap (λ (x : Glyph). x ∷ reverse old) is in
    let whole_is : glyphs_with bold look (chars rest) ≡ front ++ last ∷ [] =
    ap (glyphs_with bold look) (last_chars rest more c u f e) ∙ ap (map (glyph_of bold)) (map-append (shown_with look) (chars more) (c ∷ [])) ∙ map-append (glyph_of bold) (map (shown_with look) (chars more)) (shown_with look c ∷ []) in
    ap (λ (l : List Glyph). front ++ l) pushed ∙ sym (append_assoc front (last ∷ []) (reverse old)) ∙ ap (λ (l : List Glyph). l ++ reverse old) (sym whole_is) ∙ h

-- where no character of the run is to come, all are put
pub none_back : (bold : Bool) (look : Look) (rest : List ℕ) (old whole : List Glyph) → length rest ≡ 0 → glyphs_with bold look (chars rest) ++ reverse old ≡ whole → reverse old ≡ whole
none_back bold look rest old whole e h = ap (λ (cs : List ℕ). glyphs_with bold look cs ++ reverse old) (sym (chars_of_empty rest e)) ∙ h

-- the run that was read is the last of so many, and the others are before it
pub is_last : (runs : List TextRun) (n : ℕ) (r : TextRun) → 0 < n → n ≤ length runs → r ≡ get_or runs (n - 1) r → reverse (take n runs) ≡ r ∷ reverse (take (n - 1) runs)
is_last runs n r some within e = last_run runs (n - 1) n r (omega arith) (omega arith) ∙ ap (λ (x : TextRun). x ∷ reverse (take (n - 1) runs)) (sym e)

-- so many runs that are a whole text are the last one and those before it
pub cut_last : (runs : List TextRun) (n : ℕ) (r : TextRun) (text : List ℕ) → 0 < n → n ≤ length runs → r ≡ get_or runs (n - 1) r → AreRuns (reverse (take n runs)) text → AreRuns (r ∷ reverse (take (n - 1) runs)) text
cut_last runs n r text some within e are = subst (λ (l : List TextRun). AreRuns l text) (is_last runs n r some within e) are

-- a character begins where a run does
pub border_of : (rs : List TextRun) (r : TextRun) (text : List ℕ) → AreRuns (r ∷ rs) text → IsCharBoundary text r.start
border_of rs r text are = let below = are.0 in IsCharBoundary-from_drop text r.start (omega arith) are.1
