-- Cells of whose text nothing is trimmed: their runs are those of the text.
use Rattle.std.proofs.Common.{◌≡◌, ℕ, ◌+◌, ◌-◌, ◌<◌, ◌≤◌, Option, Some, None, is_some, Bool, true, false, cond, List, [], ◌∷◌, ◌++◌, map, reverse, length, take, drop, get_or, refl, sym, ap, subst, ◌∙◌, arith, append_assoc, append-nil}
use Rattle.std.specs.Prelude.{chars, encode_utf8, encode_utf8_all, slice_range}
use Rattle.std.specs.Str.{IsUtf8}
use Rattle.std.proofs.lemmas.List.{length-take, length-drop, map-append, nil_from_length}
use Rattle.std.proofs.lemmas.Str.{encodes-chars}
use Rattle.memchr.specs.Find.{Nowhere, Passes, is_byte, IsFirstByte}
use Rattle.mad_md.specs.Flagged.{Run}
use Rattle.markdown_inlines.specs.Styled.{shown_with, spelled, AreRuns}
use Rattle.markdown_inlines.specs.declared.styled.TextRun.{TextRun}
use Rattle.markdown_lines.specs.Glyphs.{glyph_of, trimmed, space, spaced_from, runs_of, run_with}
use Rattle.markdown_lines.specs.LinkNumbers.{one_number, numbers_of, after_links}
use Rattle.markdown_lines.specs.CutRows.{like, BeginsApart, is_pictured, AreUnpictured, IsNeat, end_before, AreAhead}
use Rattle.markdown_lines.specs.declared.glyphs.Glyph.{Glyph}
use Rattle.markdown_lines.proofs.CutLemmas.{apart, AreUnbroken, HasNoBreak, unbroken, run_front, numbers_front, some_text}
use Rattle.markdown_lines.proofs.NeatLemmas.{char_of, neat_trimmed, neat_glyphs, spelled_chars, turned_unpictured}
use Rattle.markdown_lines.proofs.OrderLemmas.{end_within, look_glyphs, unpictured_at}

-- ---- a row that is whole

-- a search that finds nothing
pub none_found : (text : List ℕ) (found : Option ℕ) → IsFirstByte (is_byte 10) text found → is_some found ≡ false → Nowhere (Passes (is_byte 10) text) 0 (length text)
none_found text None h e = h
none_found text (Some at) h e = absurd (apart e)

row_spaced : (bold : Bool) (row gs : List Glyph) → AreUnbroken (map char_of gs) → spaced_from bold [] row gs ≡ trimmed (row ++ gs)
unfolding spaced_from
row_spaced bold row [] h = ap trimmed (sym (append-nil row))
row_spaced bold row (g ∷ gs) h =
    ap (λ t. cond t (spaced_from bold (([] ++ trimmed row) ++ space bold ∷ []) [] gs) (spaced_from bold [] (row ++ g ∷ []) gs)) h.0
    ∙ row_spaced bold (row ++ g ∷ []) gs h.1 ∙ ap trimmed (append_assoc row (g ∷ []) gs)

-- the characters of a neat text without breaks and pictures are one row
pub whole_spaced : (bold : Bool) (runs : List TextRun) (text : List ℕ) → IsUtf8 text → AreRuns (reverse runs) text → AreUnpictured runs → IsNeat text → HasNoBreak text
    → spaced_from bold [] [] (trimmed (map (glyph_of bold) (spelled (reverse runs) text))) ≡ map (glyph_of bold) (spelled (reverse runs) text)
whole_spaced bold runs text utf8 are plain neat free =
    let gs : List Glyph = map (glyph_of bold) (spelled (reverse runs) text) in
    let turned : AreUnpictured (reverse runs) = turned_unpictured runs plain in
    let same : trimmed gs ≡ gs = neat_trimmed gs (neat_glyphs bold (reverse runs) text utf8 are turned neat) in
    let solid : AreUnbroken (chars text) = unbroken (chars text) (subst HasNoBreak (sym (encodes-chars text utf8)) free) in
    let whole : AreUnbroken (map char_of gs) = subst AreUnbroken (sym (spelled_chars bold (reverse runs) text utf8 are turned)) solid in
    ap (spaced_from bold [] []) same ∙ row_spaced bold [] gs whole ∙ same

-- ---- run after run

runs_front : (g : Glyph) (text : List ℕ) (rest : List Glyph) → IsUtf8 text → 0 < length text → BeginsApart g rest → runs_of (map (like g) (chars text) ++ rest) ≡ run_with g.flags text ∷ runs_of rest
runs_front g text rest utf8 some first = by (chars text) (some_text text utf8 some) (encodes-chars text utf8)
  where
    by : (cs : List ℕ) → 0 < length cs → encode_utf8_all cs ≡ text → runs_of (map (like g) cs ++ rest) ≡ run_with g.flags text ∷ runs_of rest
    by [] many e = absurd (omega (arith, many))
    by (c ∷ cs) many e = run_front g c (encode_utf8 c) cs rest first ∙ ap (λ (t : List ℕ). run_with g.flags t ∷ runs_of rest) e

numbers_text : (g : Glyph) (text : List ℕ) (rest : List Glyph) → IsUtf8 text → 0 < length text → BeginsApart g rest → numbers_of (map (like g) (chars text) ++ rest) ≡ one_number g.link ++ numbers_of rest
numbers_text g text rest utf8 some first = by (chars text) (some_text text utf8 some)
  where
    by : (cs : List ℕ) → 0 < length cs → numbers_of (map (like g) cs ++ rest) ≡ one_number g.link ++ numbers_of rest
    by [] many = absurd (omega (arith, many))
    by (c ∷ cs) many = numbers_front g c cs rest first

-- one more run is put, and those behind it are to come
pub runs_more : (old new : List Run) (g : Glyph) (text : List ℕ) (rest : List Glyph) → IsUtf8 text → 0 < length text → BeginsApart g rest → new ≡ old ++ run_with g.flags text ∷ []
    → new ++ runs_of rest ≡ old ++ runs_of (map (like g) (chars text) ++ rest)
runs_more old new g text rest utf8 some first is =
    ap (λ (rs : List Run). rs ++ runs_of rest) is ∙ append_assoc old (run_with g.flags text ∷ []) (runs_of rest)
    ∙ ap (λ (rs : List Run). old ++ rs) (sym (runs_front g text rest utf8 some first))

-- so is the number of its link
pub numbers_more : (before : ℕ) (old new : List ℕ) (g : Glyph) (text : List ℕ) (rest : List Glyph) → IsUtf8 text → 0 < length text → BeginsApart g rest → new ≡ old ++ after_links before (one_number g.link)
    → new ++ after_links before (numbers_of rest) ≡ old ++ after_links before (numbers_of (map (like g) (chars text) ++ rest))
numbers_more before old new g text rest utf8 some first is =
    let behind : List ℕ = after_links before (numbers_of rest) in
    ap (λ (ns : List ℕ). ns ++ behind) is ∙ append_assoc old (after_links before (one_number g.link)) behind
    ∙ ap (λ (ns : List ℕ). old ++ ns) (sym (map-append (λ (n : ℕ). before + n) (one_number g.link) (numbers_of rest)))
    ∙ ap (λ (ns : List ℕ). old ++ after_links before ns) (sym (numbers_text g text rest utf8 some first))

-- the text of a run has a byte
pub piece_some : (r : TextRun) (behind : List TextRun) (text piece : List ℕ) → AreAhead (r ∷ behind) text → piece ≡ slice_range text r.start (end_before behind text) → 0 < length piece
piece_some r behind text piece are is =
    let within : end_before behind text ≤ length text = end_within behind text are.4 in
    omega (arith, ap length is, are.0, within, length-take (end_before behind text - r.start) (drop r.start text), length-drop r.start text)

-- and is a text of its own
pub piece_utf8 : (r : TextRun) (behind : List TextRun) (text piece : List ℕ) → AreAhead (r ∷ behind) text → piece ≡ slice_range text r.start (end_before behind text) → IsUtf8 piece
piece_utf8 r behind text piece are is = subst IsUtf8 (sym is) are.2

-- ---- a text of one run

only_run : (runs : List TextRun) (d : TextRun) → length runs ≡ 1 → runs ≡ get_or runs 0 d ∷ []
only_run [] d e = absurd (omega (arith, e))
only_run (r ∷ rs) d e = ap (λ (l : List TextRun). r ∷ l) (nil_from_length rs (omega (arith, e)))

spelled_only : (r : TextRun) (text : List ℕ) → AreRuns (r ∷ []) text → spelled (r ∷ []) text ≡ map (shown_with r.look) (chars text)
unfolding spelled
spelled_only r text h =
    let start : r.start ≡ 0 = omega (arith, h.0, h.3, length-take r.start text) in
    ap (λ (n : ℕ). map (shown_with r.look) (chars (drop n text))) start

turned_is : (runs : List TextRun) (r : TextRun) → length runs ≡ 1 → r ≡ get_or runs 0 r → reverse runs ≡ r ∷ []
turned_is runs r one is = ap (λ (l : List TextRun). reverse l) (only_run runs r one ∙ ap (λ (x : TextRun). x ∷ []) (sym is))

-- a character that looks as a run does
abbrev pub run_glyph : Bool → TextRun → Glyph
run_glyph bold r = glyph_of bold (shown_with r.look 32)

only_glyphs : (bold : Bool) (runs : List TextRun) (r : TextRun) (text : List ℕ) → length runs ≡ 1 → r ≡ get_or runs 0 r → AreRuns (reverse runs) text → AreUnpictured runs
    → map (glyph_of bold) (spelled (reverse runs) text) ≡ map (like (run_glyph bold r)) (chars text)
only_glyphs bold runs r text one is are plain =
    let turned : reverse runs ≡ r ∷ [] = turned_is runs r one is in
    ap (λ (l : List TextRun). map (glyph_of bold) (spelled l text)) turned
    ∙ ap (map (glyph_of bold)) (spelled_only r text (subst (λ (l : List TextRun). AreRuns l text) turned are))
    ∙ look_glyphs bold r.look 32 (chars text) (unpictured_at runs 0 r (omega (arith, one)) is plain)

only_some : (runs : List TextRun) (r : TextRun) (text : List ℕ) → length runs ≡ 1 → r ≡ get_or runs 0 r → AreRuns (reverse runs) text → 0 < length text
only_some runs r text one is are =
    let h : AreRuns (r ∷ []) text = subst (λ (l : List TextRun). AreRuns l text) (turned_is runs r one is) are in omega (arith, h.0)

-- the runs of a text of one run: the run
pub only_runs : (bold : Bool) (runs : List TextRun) (r : TextRun) (text : List ℕ) → IsUtf8 text → length runs ≡ 1 → r ≡ get_or runs 0 r → AreRuns (reverse runs) text → AreUnpictured runs
    → runs_of (map (glyph_of bold) (spelled (reverse runs) text)) ≡ run_with (run_glyph bold r).flags text ∷ []
only_runs bold runs r text utf8 one is are plain =
    let g : Glyph = run_glyph bold r in
    ap runs_of (only_glyphs bold runs r text one is are plain ∙ sym (append-nil (map (like g) (chars text)))) ∙ runs_front g text [] utf8 (only_some runs r text one is are) tt

-- and the number of its link
pub only_numbers : (bold : Bool) (runs : List TextRun) (r : TextRun) (text : List ℕ) → IsUtf8 text → length runs ≡ 1 → r ≡ get_or runs 0 r → AreRuns (reverse runs) text → AreUnpictured runs
    → numbers_of (map (glyph_of bold) (spelled (reverse runs) text)) ≡ one_number (run_glyph bold r).link
only_numbers bold runs r text utf8 one is are plain =
    let g : Glyph = run_glyph bold r in
    ap numbers_of (only_glyphs bold runs r text one is are plain ∙ sym (append-nil (map (like g) (chars text)))) ∙ numbers_text g text [] utf8 (only_some runs r text one is are) tt
    ∙ append-nil (one_number g.link)
