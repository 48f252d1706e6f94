-- Printable texts have no control characters but newlines.
use Rattle.std.proofs.Common.{◌≡◌, ◌≢◌, ◌⊎◌, ℕ, ◌+◌, ◌-◌, ◌<◌, ◌≤◌, nat_lt, nat_le, Bool, true, false, cond, List, [], ◌∷◌, ◌++◌, map, length, take, drop, get_or, Option, Some, None, ⊎_elim, refl, ap, sym, ◌∙◌, subst, arith, length-append}
use Rattle.std.specs.Prelude.{chars, encode_utf8, encode_utf8_all, IsSome, slice_range}
use Rattle.std.specs.List.{AllByRecursion}
use Rattle.std.specs.Str.{IsUtf8, IsCharBoundary}
use Rattle.std.proofs.Math.Seq.{take-append_seam, get_or-append_seam}
use Rattle.std.proofs.lemmas.Bool.{and_parts}
use Rattle.std.proofs.lemmas.Bool.Decides.{nat_tests}
use Rattle.std.proofs.lemmas.List.Folds.{list_all-append}
use Rattle.std.proofs.lemmas.Str.{chars-nil, chars-encodes, encodes-chars, chars-append, encode_ascii, IsUtf8-take, IsUtf8-between, IsCharBoundary-start}
use Rattle.std.proofs.lemmas.List.{take-append-drop}
use Rattle.unicode_width.specs.Width.{char_width}
use Rattle.mad_md.specs.Flagged.{RunSpan, run_at}
use Rattle.mad_md.specs.Inline.{Item, IsInlineReading, runs}
use Rattle.mad_md.specs.Parts.{HasNoNewline}
use Rattle.mad_md.proofs.RunBorders.{IsBordered, runs_bordered}
use Rattle.mad_characters.specs.Pictures.{is_printable_char}
use Rattle.mad_measure.specs.Printable.{are_printable}
use Rattle.mad_measure.proofs.AllLemmas.{all_front, all_back}
use Rattle.mad_screen.specs.Painting.{IsPrinted}
use Rattle.mad_draw.specs.Untrusted.{PrintableLinesArePrinted, PrintableSlicesArePrinted, PrintableInlinesArePrinted}

-- ---- one character

is_no_control : (c : ℕ) → is_printable_char c ≡ true → c ≢ 10 → ((32 ≤ c) × (c < 127)) ⊎ (160 ≤ c)
is_no_control c h other = grind (arith, nat_tests)

width_by : (low wide high : Bool) (w : ℕ) → (low ≡ true → wide ≡ true) → (low ≡ false → high ≡ true) → IsSome (cond low (cond wide (Some 1) None) (cond high (Some w) None))
width_by true true high w f g = refl
width_by true false high w f g = absurd (no (f refl))
  where
    no : false ≡ true → ⊥
    no e = cc
width_by false wide true w f g = refl
width_by false wide false w f g = absurd (no (g refl))
  where
    no : false ≡ true → ⊥
    no e = cc

printed_char : (c : ℕ) → is_printable_char c ≡ true → c ≢ 10 → IsSome (char_width false c)
unfolding char_width
printed_char c h other =
    let range = is_no_control c h other in
    width_by (nat_lt c 0x7F) (nat_le 0x20 c) (nat_le 0xA0 c) _ (λ low. ⊎_elim (λ r. grind (arith, nat_tests, r.0)) (λ r. grind (arith, nat_tests, r, low)) range) (λ high. ⊎_elim (λ r. grind (arith, nat_tests, r.1, high)) (λ r. grind (arith, nat_tests, r)) range)

-- ---- a line

printed_chars : (cs : List ℕ) → are_printable cs ≡ true → AllByRecursion (λ c. c ≢ 10) cs → IsPrinted cs
printed_chars [] h other = tt
printed_chars (c ∷ cs) h other = let both = and_parts (is_printable_char c) (are_printable cs) h in (printed_char c both.0 other.0, printed_chars cs both.1 other.1)

no_newline : (cs : List ℕ) → HasNoNewline (encode_utf8_all cs) → AllByRecursion (λ c. c ≢ 10) cs
no_newline [] h = tt
no_newline (c ∷ cs) h = (
  (λ same. (subst HasNoNewline (encode_ascii c (omega arith)) (all_front (λ b. b ≢ 10) (encode_utf8 c) (encode_utf8_all cs) h)).0 same),
  no_newline cs (all_back (λ b. b ≢ 10) (encode_utf8 c) (encode_utf8_all cs) h),
)

-- a printable text without a newline has no control character
pub lines_printed : PrintableLinesArePrinted
lines_printed text utf8 h none = printed_chars (chars text) h (no_newline (chars text) (subst HasNoNewline (sym (encodes-chars text utf8)) none))

-- ---- a part of a text

-- a part that is a text is printable if the whole is
pub part_printable : (text front part back : List ℕ) → text ≡ front ++ (part ++ back) → IsUtf8 text → IsUtf8 part → are_printable (chars text) ≡ true → are_printable (chars part) ≡ true
part_printable text front [] back parts utf8 own h = ap are_printable chars-nil
part_printable text front (b ∷ part) back parts utf8 own h =
    let whole : List ℕ = b ∷ part in
    let at : get_or (front ++ (b ∷ (part ++ back))) (length front) 0 ≡ b = get_or-append_seam front b (part ++ back) 0 in
    let lead = (IsCharBoundary-start whole own).1 (omega arith) in
    let border : IsCharBoundary text (length front) = subst (λ bs. IsCharBoundary bs (length front)) (sym parts)
    (omega (arith, length-append front (b ∷ (part ++ back))), λ inside high. subst (λ x. 192 ≤ x) (sym at) (lead (subst (λ x. 128 ≤ x) at high))) in
    let first : take (length front) text ≡ front = ap (take (length front)) parts ∙ take-append_seam front (whole ++ back) in
    let front_utf8 : IsUtf8 front = subst IsUtf8 first (IsUtf8-take text (length front) utf8 border) in
    let cut : chars text ≡ chars front ++ (chars whole ++ chars back) = ap chars parts ∙ chars-append front (whole ++ back) front_utf8 ∙ ap (λ cs. chars front ++ cs) (chars-append whole back own) in
    let later : are_printable (chars whole ++ chars back) ≡ true = (and_parts _ _ (sym (list_all-append is_printable_char (chars front) (chars whole ++ chars back)) ∙ sym (ap are_printable cut) ∙ h)).1 in
    (and_parts _ _ (sym (list_all-append is_printable_char (chars whole) (chars back)) ∙ later)).0

-- a slice of a printable text has no control character where it holds no newline
pub slices_printed : PrintableSlicesArePrinted
slices_printed text front slice back parts utf8 own h none = lines_printed slice own (part_printable text front slice back parts utf8 own h) none

-- ---- what is read of a line

run_printed : (text : List ℕ) (span : RunSpan) → IsUtf8 text → are_printable (chars text) ≡ true → HasNoNewline text → IsBordered text span → IsPrinted (chars (slice_range text span.start span.end))
run_printed text span utf8 h none borders =
    let later : List ℕ = drop span.start text in
    let slice : List ℕ = slice_range text span.start span.end in
    let back : List ℕ = drop (span.end - span.start) later in
    let rest : later ≡ slice ++ back = sym (take-append-drop (span.end - span.start) later) in
    let parts : text ≡ take span.start text ++ (slice ++ back) = sym (take-append-drop span.start text) ∙ ap (λ (bs : List ℕ). take span.start text ++ bs) rest in
    let own : IsUtf8 slice = IsUtf8-between text span.start span.end utf8 borders.order borders.first borders.last in
    let kept : HasNoNewline slice = all_front (λ b. b ≢ 10) slice back (all_back (λ b. b ≢ 10) (take span.start text) (slice ++ back) (subst HasNoNewline parts none)) in
    slices_printed text (take span.start text) slice back parts utf8 own h kept

runs_printed : (text : List ℕ) (spans : List RunSpan) → IsUtf8 text → are_printable (chars text) ≡ true → HasNoNewline text → AllByRecursion (IsBordered text) spans → AllByRecursion (λ r. IsPrinted (chars r.text)) (map (run_at text) spans)
runs_printed text [] utf8 h none borders = tt
runs_printed text (span ∷ spans) utf8 h none borders = (run_printed text span utf8 h none borders.0, runs_printed text spans utf8 h none borders.1)

-- nothing that is read of a printable line by its marks has a control character
pub inlines_printed : PrintableInlinesArePrinted
inlines_printed text utf8 h none reading reads = runs_printed text (runs reading) utf8 h none (runs_bordered text reading utf8 reads)
