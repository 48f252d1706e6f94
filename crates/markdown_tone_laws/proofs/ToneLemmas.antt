-- Each character of code has its own tone.
use Rattle.std.proofs.Common.{◌≡◌, ℕ, zero, suc, ◌+◌, ◌<◌, Bool, true, false, cond, Option, List, [], ◌∷◌, ◌++◌, map, length, drop, get_or, filter, refl, sym, ap, ◌∙◌, arith}
use Rattle.std.specs.List.{flat_map}
use Rattle.bstr.specs.Utf8.{Decoded, or_replacement, pieces}
use Rattle.code_tables.specs.declared.rules.Language.{Language}
use Rattle.code_colors.specs.Tokens.{tokens_by}
use Rattle.code_tones.specs.Tones.{byte_tones, is_counted, toned, toned_text, tones_of, TonedChar}
use Rattle.mad_md.specs.Flagged.{flagged, unflagged}
use Rattle.mad_mark_runs.specs.Marks.{value_at}
use Rattle.mad_mark_runs.specs.Values.{AreRising, values_of}
use Rattle.mad_mark_runs.specs.declared.mark_runs.MarkRun.{MarkRun}
use Rattle.mad_mark_runs.proofs.ValueLemmas.{value_is}
use Rattle.mad_marks.specs.LineMarks.{content_counted, has_mark}
use Rattle.mad_marks.specs.RowMarks.{numbered}
use Rattle.markdown_lines.specs.Code.{code_lines}
use Rattle.markdown_lines.specs.Steady.{steady_lines}
use Rattle.markdown_marks.specs.Remaining.{Remaining}
use Rattle.markdown_tones.specs.CodeSource.{code_source}
use Rattle.markdown_tone_laws.specs.Laws.{shown_toned, toned_code}
use Rattle.markdown_tone_laws.proofs.CodeLemmas.{code_solid}

toned_chars : (tones : List ℕ) (ps : List Decoded) → map (λ (c : TonedChar). c.char) (toned tones ps) ≡ map (λ (p : Decoded). or_replacement p.char) ps
toned_chars tones [] = refl
toned_chars tones (p ∷ ps) = ap (λ l. or_replacement p.char ∷ l) (toned_chars (drop p.size tones) ps)

by_counted : (t : Bool) (c : TonedChar) (xs : List TonedChar) (ys : List ℕ) → map (λ (c : TonedChar). c.char) xs ≡ ys → map (λ (c : TonedChar). c.char) (cond t (c ∷ xs) xs) ≡ cond t (c.char ∷ ys) ys
by_counted true c xs ys e = ap (λ l. c.char ∷ l) e
by_counted false c xs ys e = e

counted_chars : (cs : List TonedChar) → map (λ (c : TonedChar). c.char) (filter (λ (c : TonedChar). is_counted c.char) cs) ≡ filter is_counted (map (λ (c : TonedChar). c.char) cs)
counted_chars [] = refl
counted_chars (c ∷ cs) = by_counted (is_counted c.char) c (filter (λ (c : TonedChar). is_counted c.char) cs) (filter is_counted (map (λ (c : TonedChar). c.char) cs)) (counted_chars cs)

-- characters whose values by number are their tones
numbered_by : (runs : List MarkRun) (n : ℕ) (ts : List TonedChar) → ((k : ℕ) → k < length ts → value_at runs (n + k) ≡ get_or (map (λ (c : TonedChar). c.tone) ts) k 0)
    → numbered runs n (flagged unflagged (map (λ (c : TonedChar). c.char) ts)) ≡ map shown_toned ts
numbered_by runs n [] h = refl
numbered_by runs n (t ∷ ts) h =
    let first : value_at runs n ≡ t.tone = ap (value_at runs) (omega arith) ∙ h 0 (omega arith) in
    let later = λ (k : ℕ) (le : k < length ts). one_on runs n k ∙ h (suc k) (omega arith) in
    ap (λ (v : ℕ). record { value = v; char = record { char = t.char; flags = unflagged } } ∷ numbered runs (n + 1) (flagged unflagged (map (λ (c : TonedChar). c.char) ts))) first
    ∙ ap (λ l. shown_toned t ∷ l) (numbered_by runs (n + 1) ts later)
  where
    one_on : (runs : List MarkRun) (n k : ℕ) → value_at runs ((n + 1) + k) ≡ value_at runs (n + suc k)
    one_on runs n k = ap (value_at runs) (omega arith)

past_front : (xs ys : List ℕ) (k : ℕ) → get_or (xs ++ ys) (length xs + k) 0 ≡ get_or ys k 0
past_front [] ys k = ap (λ (m : ℕ). get_or ys m 0) (omega arith)
past_front (x ∷ xs) ys k = at_next (length xs) k (xs ++ ys) x ∙ past_front xs ys k
  where
    at_next : (n k : ℕ) (zs : List ℕ) (x : ℕ) → get_or (x ∷ zs) (suc n + k) 0 ≡ get_or zs (n + k) 0
    at_next n k zs x = let up : suc n + k ≡ suc (n + k) = omega arith in ap (λ (m : ℕ). get_or (x ∷ zs) m 0) up

in_front : (xs ys : List ℕ) (k : ℕ) → k < length xs → get_or (xs ++ ys) k 0 ≡ get_or xs k 0
in_front [] ys k h = absurd (omega arith)
in_front (x ∷ xs) ys zero h = refl
in_front (x ∷ xs) ys (suc k) h = in_front xs ys k (omega arith)

as_many : (ts : List TonedChar) → length (map (λ (c : TonedChar). c.tone) ts) ≡ length ts
as_many [] = refl
as_many (t ∷ ts) = ap suc (as_many ts)

-- THE LAW
pub code_toned : (language : Option Language) (column : ℕ) (lines : List Remaining) (runs : List MarkRun) (before after : List ℕ) → AreRising 0 runs → values_of runs ≡ before ++ (tones_of language (code_source lines) ++ after)
    → numbered runs (length before) (flat_map (content_counted has_mark) (steady_lines (code_lines column lines))) ≡ toned_code language lines
code_toned language column lines runs before after rising values_are =
    let source = code_source lines in
    let ts = filter (λ (c : TonedChar). is_counted c.char) (toned_text language source) in
    let tones = map (λ (c : TonedChar). c.tone) ts in
    let own = λ (k : ℕ) (le : k < length ts).
    value_is runs (length before + k) rising ∙ ap (λ (l : List ℕ). get_or l (length before + k) 0) values_are ∙ past_front before (tones ++ after) k ∙ in_front tones after k (omega (arith, as_many ts, le)) in
    ap (numbered runs (length before)) (code_solid column lines
    ∙ ap (λ l. flagged unflagged (filter is_counted l)) (sym (toned_chars (byte_tones (tokens_by language source)) (pieces source)))
    ∙ ap (flagged unflagged) (sym (counted_chars (toned_text language source))))
    ∙ numbered_by runs (length before) ts own
