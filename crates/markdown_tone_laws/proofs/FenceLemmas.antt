-- The code of fences has its tones.
use Rattle.std.proofs.Common.{◌≡◌, ◌⊎◌, inl, inr, ℕ, zero, suc, ◌+◌, ◌-◌, Bool, true, false, cond, Option, Some, None, List, [], ◌∷◌, ◌++◌, drop, refl, sym, ap, subst, ◌∙◌, arith, append-nil}
use Rattle.std.specs.Prelude.{replicate, ◌==◌}
use Rattle.std.specs.List.{AllByRecursion, flat_map}
use Rattle.mad_md.specs.Lines.{LineContent}
use Rattle.std.proofs.lemmas.Bool.Decides.{nat_tests}
use Rattle.code_tables.specs.declared.rules.Language.{Language}
use Rattle.code_tones.specs.Tones.{tones_of}
use Rattle.mad_mark_runs.specs.Values.{AreRising, end_from, joined_from, run_behind, values_from, values_of}
use Rattle.mad_mark_runs.specs.declared.mark_runs.MarkRun.{MarkRun}
use Rattle.mad_mark_runs.proofs.ValueLemmas.{rising_joined, values_joined}
use Rattle.mad_marks.specs.LineMarks.{content_counted, has_mark}
use Rattle.mad_marks.specs.RowMarks.{numbered}
use Rattle.mad_sections.specs.Sections.{SectionContent}
use Rattle.markdown_leaves.specs.Parts.{PartContent}
use Rattle.markdown_leaves.specs.Told.{parts_of}
use Rattle.markdown_lines.specs.Code.{code_lines}
use Rattle.markdown_lines.specs.Steady.{steady_lines}
use Rattle.markdown_lines.specs.Texts.{behind_mark}
use Rattle.markdown_marks.specs.Remaining.{Remaining}
use Rattle.markdown_reader.specs.Markdown.{markdown_sections}
use Rattle.markdown_reader.specs.Marked.{ShowsFence}
use Rattle.markdown_reader.proofs.MarkedLemmas.{sections_are_marked}
use Rattle.markdown_tones.specs.CodeSource.{code_source}
use Rattle.markdown_tones.specs.Fences.{fence_language, fence_marks, marks_in}
use Rattle.markdown_tone_laws.specs.Laws.{FencesAreToned, ShowsTones, toned_code}
use Rattle.markdown_tone_laws.proofs.ToneLemmas.{code_toned}

-- ---- the runs of values stand for them

behind_end : (end value count : ℕ) → end_from end (run_behind end value count) ≡ end + count
behind_end end value zero = omega arith
behind_end end value (suc n) = refl

behind_values : (end value count : ℕ) → values_from end (run_behind end value count) ≡ replicate count value
behind_values end value zero = refl
behind_values end value (suc n) =
    let same : end + suc n - end ≡ suc n = omega arith in
    append-nil (replicate (end + suc n - end) value) ∙ ap (λ (k : ℕ). replicate k value) same

behind_rising : (end value count : ℕ) → AreRising end (run_behind end value count)
behind_rising end value zero = tt
behind_rising end value (suc n) = (omega arith, tt)

one_more : (count value : ℕ) (vs : List ℕ) → replicate (count + 1) value ++ vs ≡ replicate count value ++ (value ∷ vs)
one_more zero value vs = refl
one_more (suc n) value vs =
    let same : suc n + 1 ≡ suc (n + 1) = omega arith in
    ap (λ (k : ℕ). replicate k value ++ vs) same ∙ ap (λ (l : List ℕ). value ∷ l) (one_more n value vs)

is_same : (v value : ℕ) → (v == value) ≡ true → v ≡ value
is_same v value e = grind (arith, nat_tests, e)

values_by : (t : Bool) (vs : List ℕ) (end value count v : ℕ) → (v == value) ≡ t → values_from end (joined_from end value (count + 1) vs) ≡ replicate (count + 1) value ++ vs
    → values_from (end + count) (joined_from (end + count) v 1 vs) ≡ replicate 1 v ++ vs
    → values_from end (cond t (joined_from end value (count + 1) vs) (run_behind end value count ++ joined_from (end + count) v 1 vs)) ≡ replicate count value ++ (v ∷ vs)
values_by true vs end value count v e more other = more ∙ one_more count value vs ∙ ap (λ (x : ℕ). replicate count value ++ (x ∷ vs)) (sym (is_same v value e))
values_by false vs end value count v e more other =
    values_joined end (run_behind end value count) (joined_from (end + count) v 1 vs)
    ∙ ap (λ (l : List ℕ). l ++ values_from (end_from end (run_behind end value count)) (joined_from (end + count) v 1 vs)) (behind_values end value count)
    ∙ ap (λ (n : ℕ). replicate count value ++ values_from n (joined_from (end + count) v 1 vs)) (behind_end end value count)
    ∙ ap (λ (l : List ℕ). replicate count value ++ l) other

runs_values : (vs : List ℕ) (end value count : ℕ) → values_from end (joined_from end value count vs) ≡ replicate count value ++ vs
runs_values [] end value count = behind_values end value count ∙ sym (append-nil (replicate count value))
runs_values (v ∷ vs) end value count = values_by (v == value) vs end value count v refl (runs_values vs end value (count + 1)) (runs_values vs (end + count) v 1)

rising_by : (t : Bool) (vs : List ℕ) (end value count v : ℕ) → AreRising end (joined_from end value (count + 1) vs) → AreRising (end + count) (joined_from (end + count) v 1 vs)
    → AreRising end (cond t (joined_from end value (count + 1) vs) (run_behind end value count ++ joined_from (end + count) v 1 vs))
rising_by true vs end value count v more other = more
rising_by false vs end value count v more other =
    rising_joined end (run_behind end value count) (joined_from (end + count) v 1 vs) (behind_rising end value count)
    (subst (λ (n : ℕ). AreRising n (joined_from (end + count) v 1 vs)) (sym (behind_end end value count)) other)

runs_rising : (vs : List ℕ) (end value count : ℕ) → AreRising end (joined_from end value count vs)
runs_rising [] end value count = behind_rising end value count
runs_rising (v ∷ vs) end value count = rising_by (v == value) vs end value count v (runs_rising vs end value (count + 1)) (runs_rising vs (end + count) v 1)

-- ---- a fence

code_in : (language : Language) (code : List Remaining) (marks : List MarkRun) → marks ≡ marks_in (Some language) code → numbered marks 0 (flat_map (content_counted has_mark) (steady_lines (code_lines 0 code))) ≡ toned_code (Some language) code
code_in language code marks is =
    let tones = tones_of (Some language) (code_source code) in
    let rising : AreRising 0 marks = subst (AreRising 0) (sym is) (runs_rising tones 0 0 0) in
    let values : values_of marks ≡ [] ++ (tones ++ []) = ap values_of is ∙ runs_values tones 0 0 0 ∙ sym (append-nil tones) in
    code_toned (Some language) 0 code marks [] [] rising values

by_language : (parts : List PartContent) (s : SectionContent) (h : ShowsFence parts s) (info : Remaining) (code : List Remaining) (language : Option Language) → h.fence.lines ≡ info ∷ code → fence_language info code ≡ language
    → s.marks ≡ marks_in language code → s.lines ≡ steady_lines (code_lines 0 code) → (s.marks ≡ []) ⊎ ShowsTones parts s
by_language parts s h info code None lines named marks shown = inl marks
by_language parts s h info code (Some language) lines named marks shown =
    let it : ShowsTones parts s = record {
      before = h.before;
      fence = h.fence;
      after = h.after;
      told = h.told;
      fenced = h.fenced;
      info = info;
      code = code;
      lines = lines;
      language = language;
      named = named;
      toned = ap (λ (ls : List LineContent). numbered s.marks 0 (flat_map (content_counted has_mark) ls)) shown ∙ code_in language code s.marks marks;
    } in
    inr it

by_lines : (parts : List PartContent) (s : SectionContent) (h : ShowsFence parts s) (lines : List Remaining) → h.fence.lines ≡ lines → (s.marks ≡ []) ⊎ ShowsTones parts s
by_lines parts s h [] e = inl (h.marks ∙ ap fence_marks e)
by_lines parts s h (info ∷ code) e =
    by_language parts s h info code (fence_language info code) e refl (h.marks ∙ ap fence_marks e) (h.lines ∙ ap (λ (ls : List Remaining). steady_lines (code_lines 0 (drop 1 ls))) e)

section_toned : (parts : List PartContent) (s : SectionContent) → (s.marks ≡ []) ⊎ ShowsFence parts s → (s.marks ≡ []) ⊎ ShowsTones parts s
section_toned parts s (inl none) = inl none
section_toned parts s (inr h) = by_lines parts s h h.fence.lines refl

all_toned : (parts : List PartContent) (sections : List SectionContent) → AllByRecursion (λ (s : SectionContent). (s.marks ≡ []) ⊎ ShowsFence parts s) sections → AllByRecursion (λ (s : SectionContent). (s.marks ≡ []) ⊎ ShowsTones parts s) sections
all_toned parts [] h = tt
all_toned parts (s ∷ sections) h = (section_toned parts s h.0, all_toned parts sections h.1)

-- THE LAW
pub fences_toned : FencesAreToned
fences_toned source = all_toned (parts_of (behind_mark source)) (markdown_sections source) (sections_are_marked source).each
