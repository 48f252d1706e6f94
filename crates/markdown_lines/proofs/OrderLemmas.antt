-- Runs of a text, the first run first.
use Rattle.std.proofs.Common.{◌≡◌, ℕ, zero, suc, ◌+◌, ◌-◌, ◌<◌, ◌≤◌, Bool, true, false, ◌&&◌, List, [], ◌∷◌, ◌++◌, map, reverse, length, take, drop, get_or, is_some, refl, sym, ap, subst, ◌∙◌, arith, append_assoc, append-nil}
use Rattle.std.specs.Prelude.{chars, slice_range}
use Rattle.std.specs.List.{AllByRecursion}
use Rattle.std.specs.Str.{IsUtf8, IsCharBoundary}
use Rattle.std.proofs.lemmas.List.{length-append, length-take, take_all, drop_all, drop_more, map-append, take-append-drop, reverse-append, reverse-reverse}
use Rattle.std.proofs.lemmas.Str.{IsUtf8-take, IsCharBoundary-at_seam, IsCharBoundary-end}
use Rattle.std.proofs.lemmas.List.Folds.{list_any_at}
use Rattle.std.proofs.Math.Seq.{drop-append_seam}
use Rattle.markdown_inlines.specs.Looks.{is_same, is_same_number, is_same_look}
use Rattle.markdown_inlines.specs.Styled.{Shown, shown_with, spelled, goes_on, AreRuns}
use Rattle.markdown_inlines.specs.declared.looks.Look.{Look}
use Rattle.markdown_inlines.specs.declared.styled.TextRun.{TextRun}
use Rattle.markdown_lines.specs.Glyphs.{shown_in, glyph_of, is_same_run}
use Rattle.mad_md.specs.Flagged.{Run}
use Rattle.mad_md.specs.Lines.{LineContent}
use Rattle.markdown_lines.specs.CutRows.{like, cut_rows, runs_row, whole_row, begun_rows, cut_numbers, BeginsApart, is_pictured, AreUnpictured, end_before, ahead, LooksApart, AreAhead}
use Rattle.markdown_lines.specs.declared.glyphs.Glyph.{Glyph}
use Rattle.markdown_lines.proofs.GlyphLemmas.{border_of}
use Rattle.markdown_lines.proofs.RunLemmas.{slice_same, boundary_grows}
use Rattle.markdown_lines.proofs.CutLemmas.{not_true, apart, some_text, begun_none}

-- each of these runs begins up to a place
abbrev pub AreUpTo : ℕ → List TextRun → Type 0
AreUpTo n runs = AllByRecursion (λ (r : TextRun). r.start ≤ n) runs

up_to_more : (n m : ℕ) (runs : List TextRun) → n ≤ m → AreUpTo n runs → AreUpTo m runs
up_to_more n m [] l h = tt
up_to_more n m (r ∷ rs) l h = (omega (arith, l, h.0), up_to_more n m rs l h.1)

up_to_last : (n : ℕ) (runs : List TextRun) (r : TextRun) → r.start ≤ n → AreUpTo n runs → AreUpTo n (runs ++ r ∷ [])
up_to_last n [] r l h = (l, tt)
up_to_last n (x ∷ xs) r l h = (h.0, up_to_last n xs r l h.1)

-- the last of some runs looks other
abbrev pub LastApart : Look → List TextRun → Type 0
LastApart look [] = Unit {0}
LastApart look (x ∷ []) = is_same_look x.look look ≡ false
LastApart look (x ∷ y ∷ ys) = LastApart look (y ∷ ys)

last_is : (look : Look) (xs : List TextRun) (r : TextRun) → is_same_look r.look look ≡ false → LastApart look (xs ++ r ∷ [])
last_is look [] r h = h
last_is look (x ∷ []) r h = h
last_is look (x ∷ y ∷ ys) r h = last_is look (y ∷ ys) r h

turned : (r : TextRun) (rs : List TextRun) → reverse (r ∷ rs) ≡ reverse rs ++ r ∷ []
turned r rs = reverse-append (r ∷ []) rs

last_apart : (look : Look) (rs : List TextRun) → goes_on look rs ≡ false → LastApart look (reverse rs)
last_apart look [] h = tt
last_apart look (r ∷ rs) h = subst (LastApart look) (sym (turned r rs)) (last_is look (reverse rs) r h)

-- ---- one more run behind others: front is the text before it

end_same : (xs : List TextRun) (r : TextRun) (front text : List ℕ) → r.start ≡ length front → end_before (xs ++ r ∷ []) text ≡ end_before xs front
end_same [] r front text e = e
end_same (x ∷ xs) r front text e = refl

end_up_to : (xs : List TextRun) (front : List ℕ) → AreUpTo (length front) xs → end_before xs front ≤ length front
end_up_to [] front h = omega arith
end_up_to (x ∷ xs) front h = h.0

stretch_same : (x r : TextRun) (xs : List TextRun) (front last : List ℕ) → r.start ≡ length front → AreUpTo (length front) xs → x.start < end_before xs front
    → slice_range (front ++ last) x.start (end_before (xs ++ r ∷ []) (front ++ last)) ≡ slice_range front x.start (end_before xs front)
stretch_same x r xs front last e up some =
    ap (slice_range (front ++ last) x.start) (end_same xs r front (front ++ last) e) ∙ slice_same front last x.start (end_before xs front) (omega (arith, some)) (end_up_to xs front up)

last_stretch : (r : TextRun) (front last : List ℕ) → r.start ≡ length front → slice_range (front ++ last) r.start (length (front ++ last)) ≡ last
last_stretch r front last e =
    let long : length (front ++ last) - r.start ≡ length last = omega (arith, e, length-append front last) in
    ap (λ (n : ℕ). take n (drop r.start (front ++ last))) long ∙ ap (λ (n : ℕ). take (length last) (drop n (front ++ last))) e
    ∙ ap (take (length last)) (drop-append_seam front last) ∙ take_all (length last) last (omega arith)

ahead_more : (xs : List TextRun) (r : TextRun) (front last : List ℕ) → r.start ≡ length front → AreUpTo (length front) xs → AreAhead xs front
    → ahead (xs ++ r ∷ []) (front ++ last) ≡ ahead xs front ++ map (shown_with r.look) (chars last)
unfolding ahead
ahead_more [] r front last e up are =
    append-nil _ ∙ ap (λ (t : List ℕ). map (shown_with r.look) (chars t)) (last_stretch r front last e)
ahead_more (x ∷ xs) r front last e up are =
    let here : List Shown = map (shown_with x.look) (chars (slice_range front x.start (end_before xs front))) in
    ap (λ (t : List ℕ). map (shown_with x.look) (chars t) ++ ahead (xs ++ r ∷ []) (front ++ last)) (stretch_same x r xs front last e up.1 are.0)
    ∙ ap (λ (ss : List Shown). here ++ ss) (ahead_more xs r front last e up.1 are.4)
    ∙ sym (append_assoc here (ahead xs front) (map (shown_with r.look) (chars last)))

next_apart : (look : Look) (xs : List TextRun) (r : TextRun) (x : TextRun) → LastApart r.look (x ∷ xs) → LooksApart x.look xs → LooksApart x.look (xs ++ r ∷ [])
next_apart look [] r x last h = last
next_apart look (y ∷ ys) r x last h = h

last_behind : (look : Look) (x : TextRun) (xs : List TextRun) → LastApart look (x ∷ xs) → LastApart look xs
last_behind look x [] h = tt
last_behind look x (y ∷ ys) h = h

are_more : (xs : List TextRun) (r : TextRun) (front last : List ℕ) → r.start ≡ length front → 0 < length last → IsUtf8 last → AreUpTo (length front) xs → LastApart r.look xs → AreAhead xs front
    → AreAhead (xs ++ r ∷ []) (front ++ last)
are_more [] r front last e some utf8 up apart_is are = (
  omega (arith, e, some, length-append front last),
  subst (IsCharBoundary (front ++ last)) (sym e) (IsCharBoundary-at_seam (front ++ last) front last refl utf8),
  subst IsUtf8 (sym (last_stretch r front last e)) utf8,
  tt,
  tt,
)
are_more (x ∷ xs) r front last e some utf8 up apart_is are = (
  subst (λ (n : ℕ). x.start < n) (sym (end_same xs r front (front ++ last) e)) are.0,
  boundary_grows front last x.start utf8 are.1,
  subst IsUtf8 (sym (stretch_same x r xs front last e up.1 are.0)) are.2,
  next_apart x.look xs r x apart_is are.3,
  are_more xs r front last e some utf8 up.1 (last_behind r.look x xs apart_is) are.4,
)

-- ---- the runs of a text

-- runs of a text, the last run first, as they are in order
pub record InOrder (rs : List TextRun) (text : List ℕ) : Type 0 where
  pub are : AreAhead (reverse rs) text
  pub up : AreUpTo (length text) (reverse rs)
  pub same : spelled rs text ≡ ahead (reverse rs) text

in_order : (rs : List TextRun) (text : List ℕ) → IsUtf8 text → AreRuns rs text → InOrder rs text
unfolding spelled ahead
in_order [] text utf8 h = record { are = tt; up = tt; same = refl }
in_order (r ∷ rs) text utf8 h =
    let front : List ℕ = take r.start text in
    let last : List ℕ = drop r.start text in
    let whole : front ++ last ≡ text = take-append-drop r.start text in
    let below : r.start < length text = h.0 in
    let long : r.start ≡ length front = omega (arith, below, length-take r.start text) in
    let more : 0 < length last = omega (arith, below, long, length-append front last, ap length whole) in
    let held : InOrder rs front = in_order rs front (IsUtf8-take text r.start utf8 (border_of rs r text h)) h.3 in
    let runs : reverse (r ∷ rs) ≡ reverse rs ++ r ∷ [] = turned r rs in
    let are : AreAhead (reverse rs ++ r ∷ []) (front ++ last) = are_more (reverse rs) r front last long more h.1 held.up (last_apart r.look rs h.2) held.are in
    let same : ahead (reverse rs ++ r ∷ []) (front ++ last) ≡ ahead (reverse rs) front ++ map (shown_with r.look) (chars last) = ahead_more (reverse rs) r front last long held.up held.are in
    record {
      are = subst (λ (l : List TextRun). AreAhead l text) (sym runs) (subst (AreAhead (reverse rs ++ r ∷ [])) whole are);
      up = subst (AreUpTo (length text)) (sym runs) (up_to_last (length text) (reverse rs) r (omega (arith, below)) (up_to_more (length front) (length text) (reverse rs) (omega (arith, below, long)) held.up));
      same = ap (λ (ss : List Shown). ss ++ map (shown_with r.look) (chars last)) held.same ∙ sym same ∙ ap (ahead (reverse rs ++ r ∷ [])) whole ∙ ap (λ (l : List TextRun). ahead l text) (sym runs);
    }

-- runs that are a whole text are so in order
pub are_ahead : (runs : List TextRun) (text : List ℕ) → IsUtf8 text → AreRuns (reverse runs) text → AreAhead runs text
are_ahead runs text utf8 h = subst (λ (l : List TextRun). AreAhead l text) (reverse-reverse runs) (in_order (reverse runs) text utf8 h).are

pub spelled_ahead : (runs : List TextRun) (text : List ℕ) → IsUtf8 text → AreRuns (reverse runs) text → spelled (reverse runs) text ≡ ahead runs text
spelled_ahead runs text utf8 h = (in_order (reverse runs) text utf8 h).same ∙ ap (λ (l : List TextRun). ahead l text) (reverse-reverse runs)

-- ---- a run, and those behind it

pub end_within : (runs : List TextRun) (text : List ℕ) → AreAhead runs text → end_before runs text ≤ length text
end_within [] text h = omega arith
end_within (r ∷ rs) text h = let behind : end_before rs text ≤ length text = end_within rs text h.4 in omega (arith, behind, h.0)

pub end_border : (runs : List TextRun) (text : List ℕ) → AreAhead runs text → IsCharBoundary text (end_before runs text)
end_border [] text h = IsCharBoundary-end text
end_border (r ∷ rs) text h = h.1

look_glyph : (bold : Bool) (look : Look) (d c : ℕ) → is_some look.picture ≡ false → glyph_of bold (shown_with look c) ≡ like (glyph_of bold (shown_with look d)) c
look_glyph bold look d c h = ap (λ (t : Bool). like (glyph_of bold (shown_with look d)) (shown_in t c)) h

-- characters of one look are like one of it, where no picture says them
pub look_glyphs : (bold : Bool) (look : Look) (d : ℕ) (cs : List ℕ) → is_some look.picture ≡ false → map (glyph_of bold) (map (shown_with look) cs) ≡ map (like (glyph_of bold (shown_with look d))) cs
look_glyphs bold look d [] h = refl
look_glyphs bold look d (c ∷ cs) h =
    let g : Glyph = glyph_of bold (shown_with look d) in
    ap (λ (x : Glyph). x ∷ map (glyph_of bold) (map (shown_with look) cs)) (look_glyph bold look d c h) ∙ ap (λ (gs : List Glyph). like g c ∷ gs) (look_glyphs bold look d cs h)

-- a run of them is of no picture
pub unpictured_at : (runs : List TextRun) (index : ℕ) (r : TextRun) → index < length runs → r ≡ get_or runs index r → AreUnpictured runs → is_pictured r ≡ false
unpictured_at runs index r within is h = not_true (is_pictured r) (λ e. apart (sym (list_any_at is_pictured runs index r within (ap is_pictured (sym is) ∙ e)) ∙ h))

pub ahead_cons : (r : TextRun) (rs : List TextRun) (text : List ℕ) (d : ℕ) → is_pictured r ≡ false
    → map (glyph_of false) (ahead (r ∷ rs) text) ≡ map (like (glyph_of false (shown_with r.look d))) (chars (slice_range text r.start (end_before rs text))) ++ map (glyph_of false) (ahead rs text)
unfolding ahead
ahead_cons r rs text d plain =
    let here : List ℕ = chars (slice_range text r.start (end_before rs text)) in
    map-append (glyph_of false) (map (shown_with r.look) here) (ahead rs text) ∙ ap (λ (gs : List Glyph). gs ++ map (glyph_of false) (ahead rs text)) (look_glyphs false r.look d here plain)

pub ahead_nil : (text : List ℕ) → ahead [] text ≡ []
unfolding ahead
ahead_nil text = refl

look_by : (b i c s l p k n : Bool) → ((b && i && c && s && l && p && true) && k && n) ≡ true → (b && i && s && c && k && n) ≡ true
look_by true true true true true true true true h = refl
look_by false i c s l p k n h = absurd (apart (sym h))
look_by true false c s l p k n h = absurd (apart (sym h))
look_by true true false s l p k n h = absurd (apart (sym h))
look_by true true true false l p k n h = absurd (apart (sym h))
look_by true true true true false p k n h = absurd (apart (sym h))
look_by true true true true true false k n h = absurd (apart (sym h))
look_by true true true true true true false n h = absurd (apart (sym h))
look_by true true true true true true true false h = absurd (apart (sym h))

other_run : (a b : Look) (c d : ℕ) → is_same_look a b ≡ false → is_same_run (glyph_of false (shown_with a c)) (glyph_of false (shown_with b d)) ≡ false
other_run a b c d h =
    not_true _ (λ e. apart (sym (look_by (is_same a.bold b.bold) (is_same a.italic b.italic) (is_same a.code b.code) (is_same a.strikeout b.strikeout) (is_same (is_some a.link) (is_some b.link)) (is_same (is_some a.picture) (is_some b.picture)) (is_same_number a.link b.link)
    (is_same_number a.picture b.picture) e) ∙ h))

first_other : (g : Glyph) (look : Look) (cs : List ℕ) (more : List Glyph) → (0 < length cs) → ((c : ℕ) → is_same_run g (glyph_of false (shown_with look c)) ≡ false)
    → BeginsApart g (map (glyph_of false) (map (shown_with look) cs) ++ more)
first_other g look [] more some h = absurd (omega (arith, some))
first_other g look (c ∷ cs) more some h = h c

-- the characters of the runs behind a run begin apart from it
pub behind_apart : (look : Look) (d : ℕ) (rs : List TextRun) (text : List ℕ) → LooksApart look rs → AreAhead rs text → BeginsApart (glyph_of false (shown_with look d)) (map (glyph_of false) (ahead rs text))
unfolding ahead
behind_apart look d [] text apart_is h = tt
behind_apart look d (r ∷ rs) text apart_is h =
    let here : List ℕ = slice_range text r.start (end_before rs text) in
    let within : end_before rs text ≤ length text = end_within rs text h.4 in
    let some : 0 < length here = omega (arith, h.0, within, length-take (end_before rs text - r.start) (drop r.start text), Rattle.std.proofs.lemmas.List.length-drop r.start text) in
    subst (BeginsApart (glyph_of false (shown_with look d))) (sym (map-append (glyph_of false) (map (shown_with r.look) (chars here)) (ahead rs text)))
    (first_other (glyph_of false (shown_with look d)) r.look (chars here) (map (glyph_of false) (ahead rs text)) (some_text here h.2 some) (λ c. other_run look r.look d c apart_is))

-- ---- run after run

ahead_drop : (index : ℕ) (runs : List TextRun) (text : List ℕ) → AreAhead runs text → AreAhead (drop index runs) text
ahead_drop zero runs text h = h
ahead_drop (suc index) [] text h = tt
ahead_drop (suc index) (r ∷ rs) text h = ahead_drop index rs text h.4

run_at : (runs : List TextRun) (index : ℕ) (r : TextRun) → index < length runs → r ≡ get_or runs index r → drop index runs ≡ r ∷ drop (index + 1) runs
run_at runs index r within is = drop_more runs index r within ∙ ap (λ (x : TextRun). x ∷ drop (index + 1) runs) (sym is)

-- the run at an index, and those behind it
pub at_ahead : (runs : List TextRun) (index : ℕ) (r : TextRun) (text : List ℕ) → index < length runs → r ≡ get_or runs index r → IsUtf8 text → AreRuns (reverse runs) text → AreAhead (r ∷ drop (index + 1) runs) text
at_ahead runs index r text within is utf8 h = subst (λ (l : List TextRun). AreAhead l text) (run_at runs index r within is) (ahead_drop index runs text (are_ahead runs text utf8 h))

-- the characters of a run are put, and those of the runs behind it are to come
pub run_step : {Z : Type 0} (A B : List Glyph → Z) (whole : Z) (runs : List TextRun) (index : ℕ) (r : TextRun) (g : Glyph) (text piece : List ℕ) → index < length runs → r ≡ get_or runs index r
    → is_pictured r ≡ false → AreAhead (r ∷ drop (index + 1) runs) text → g ≡ glyph_of false (shown_with r.look 32) → piece ≡ slice_range text r.start (end_before (drop (index + 1) runs) text)
    → ((rest : List Glyph) → BeginsApart g rest → A rest ≡ B (map (like g) (chars piece) ++ rest)) → B (map (glyph_of false) (ahead (drop index runs) text)) ≡ whole
    → A (map (glyph_of false) (ahead (drop (index + 1) runs) text)) ≡ whole
run_step A B whole runs index r g text piece within is plain are g_is piece_is step h =
    let behind : List TextRun = drop (index + 1) runs in
    let rest : List Glyph = map (glyph_of false) (ahead behind text) in
    let first : BeginsApart g rest = subst (λ (x : Glyph). BeginsApart x rest) (sym g_is) (behind_apart r.look 32 behind text are.3 are.4) in
    step rest first ∙ ap (λ (t : List ℕ). B (map (like g) (chars t) ++ rest)) piece_is
    ∙ ap (λ (x : Glyph). B (map (like x) (chars (slice_range text r.start (end_before behind text))) ++ rest)) g_is
    ∙ ap B (sym (ahead_cons r behind text 32 plain) ∙ ap (λ (l : List TextRun). map (glyph_of false) (ahead l text)) (sym (run_at runs index r within is))) ∙ h

-- past the last run no character is to come
pub none_ahead : (runs : List TextRun) (index : ℕ) (text : List ℕ) → length runs ≤ index → map (glyph_of false) (ahead (drop index runs) text) ≡ []
none_ahead runs index text past = ap (λ (l : List TextRun). map (glyph_of false) (ahead l text)) (drop_all index runs past) ∙ ap (map (glyph_of false)) (ahead_nil text)

cut_none : cut_rows [] ≡ [] ∷ []
unfolding cut_rows
cut_none = refl

-- where no run is to come, the last row is put
pub rows_end : (shown0 shown1 whole : List LineContent) (begun : List Run) (runs : List TextRun) (index : ℕ) (text : List ℕ) → length runs ≤ index → shown1 ≡ shown0 ++ runs_row begun ∷ []
    → shown0 ++ begun_rows begun (cut_rows (map (glyph_of false) (ahead (drop index runs) text))) ≡ whole → shown1 ≡ whole
rows_end shown0 shown1 whole begun runs index text past is h =
    is ∙ ap (λ (rs : List Run). shown0 ++ runs_row rs ∷ []) (sym (append-nil begun)) ∙ ap (λ (rows : List (List Glyph)). shown0 ++ begun_rows begun rows) (sym (ap cut_rows (none_ahead runs index text past) ∙ cut_none)) ∙ h

-- and all numbers are
pub numbers_end : (numbers whole : List ℕ) (runs : List TextRun) (index : ℕ) (text : List ℕ) → length runs ≤ index → numbers ++ cut_numbers (cut_rows (map (glyph_of false) (ahead (drop index runs) text))) ≡ whole → numbers ≡ whole
unfolding cut_numbers
numbers_end numbers whole runs index text past h =
    sym (append-nil numbers) ∙ ap (λ (rows : List (List Glyph)). numbers ++ cut_numbers rows) (sym (ap cut_rows (none_ahead runs index text past) ∙ cut_none)) ∙ h

-- at first all runs are to come
pub rows_begin : (shown0 : List LineContent) (all : List Run) (start : ℕ) (runs : List TextRun) (text : List ℕ) → length all ≤ start → IsUtf8 text → AreRuns (reverse runs) text
    → shown0 ++ begun_rows (drop start all) (cut_rows (map (glyph_of false) (ahead runs text))) ≡ shown0 ++ map whole_row (cut_rows (map (glyph_of false) (spelled (reverse runs) text)))
rows_begin shown0 all start runs text past utf8 h =
    ap (λ (rs : List Run). shown0 ++ begun_rows rs (cut_rows (map (glyph_of false) (ahead runs text)))) (drop_all start all past)
    ∙ ap (λ (ls : List LineContent). shown0 ++ ls) (begun_none (cut_rows (map (glyph_of false) (ahead runs text))))
    ∙ ap (λ (ss : List Shown). shown0 ++ map whole_row (cut_rows (map (glyph_of false) ss))) (sym (spelled_ahead runs text utf8 h))

pub numbers_begin : (numbers : List ℕ) (runs : List TextRun) (text : List ℕ) → IsUtf8 text → AreRuns (reverse runs) text
    → numbers ++ cut_numbers (cut_rows (map (glyph_of false) (ahead runs text))) ≡ numbers ++ cut_numbers (cut_rows (map (glyph_of false) (spelled (reverse runs) text)))
numbers_begin numbers runs text utf8 h = ap (λ (ss : List Shown). numbers ++ cut_numbers (cut_rows (map (glyph_of false) ss))) (sym (spelled_ahead runs text utf8 h))
