-- Lines that are said to be headings, breaks and code are read as these.
use Rattle.std.proofs.Common.{◌≡◌, ◌⊎◌, inl, inr, ℕ, ◌<◌, ◌≤◌, true, false, ◌==◌, List, [], ◌∷◌, drop, refl, ap, subst, ◌∙◌, arith}
use Rattle.std.proofs.lemmas.Bool.{and_from, false_from_ne_true, not_from_false}
use Rattle.std.specs.List.{list_all, list_any}
use Rattle.markdown_marks.specs.Headings.{heading_text}
use Rattle.markdown_marks.specs.Remaining.{whole}
use Rattle.markdown_blocks.specs.Leaves.{closes_fence}
use Rattle.markdown_blocks.specs.Lines.{text_lines}
use Rattle.markdown_laws.specs.Fences.{BeginsCode, IsCode, is_inside}
use Rattle.markdown_laws.specs.Marks.{BeginsWith}
use Rattle.markdown_laws.proofs.FenceLemmas.{at_its_end, with_text}
use Rattle.markdown_laws.proofs.MarkLemmas.{heading, thematic_break}
use Rattle.markdown_sign_laws.specs.Blocks.{BreakIsRead, CodeIsRead, HeadingIsRead, IsBehind, LeaveOpen, OpenCodeIsRead}
use Rattle.markdown_sign_laws.specs.Fences.{IsFence}
use Rattle.markdown_sign_laws.specs.TextLines.{BeginsWithLine}
use Rattle.markdown_sign_laws.specs.Words.{begins_with, is_space_or_tab}
use Rattle.markdown_sign_laws.proofs.BreakLemmas.{breaks_said}
use Rattle.markdown_sign_laws.proofs.FenceLemmas.{closing_said, fences_said}
use Rattle.markdown_sign_laws.proofs.HeadingLemmas.{headings_said}
use Rattle.markdown_sign_laws.proofs.RunLemmas.{left_behind}
use Rattle.markdown_sign_laws.proofs.TextLemmas.{line_cut}

-- ---- headings and breaks

begins_so : (text line bytes after : List ℕ) (indent : ℕ) → BeginsWithLine text line after → IsBehind line indent bytes → BeginsWith text indent bytes after
begins_so text line bytes after indent b i = record { few = i.few; lines = line_cut text line after b ∙ ap (λ (l : List ℕ). l ∷ text_lines after) i.whole }

-- a heading is read as one
pub heading_read : HeadingIsRead
heading_read text line bytes after indent level b i h =
    let found = heading text bytes after indent level (begins_so text line bytes after indent b i) ((headings_said level bytes).1 h) in
    (found.0, found.1, found.2 ∙ ap (λ (xs : List ℕ). heading_text xs ∷ []) (ap (λ (xs : List ℕ). drop level xs) h.whole ∙ left_behind 35 level h.behind), found.3)

-- so is a thematic break
pub break_read : BreakIsRead
break_read text line bytes after indent b i h = thematic_break text bytes after indent (begins_so text line bytes after indent b i) ((breaks_said bytes).1 h)

-- ---- code

sign_other : (sign length : ℕ) (info : List ℕ) → ((sign ≡ 96) × (list_any (λ b. b == 96) info ≡ false)) ⊎ ((sign ≡ 126) × (begins_with 126 info ≡ false)) → is_space_or_tab sign ≡ false
sign_other sign length info (inl h) = ap is_space_or_tab h.0
sign_other sign length info (inr h) = ap is_space_or_tab h.0

some_signs : (length : ℕ) → 3 ≤ length → 0 < length
some_signs length h = omega (arith, h)

begins_code : (first fence : List ℕ) (indent sign length : ℕ) → IsBehind first indent fence → IsFence sign length fence → BeginsCode first indent sign length fence
begins_code first fence indent sign length i f = record { few = i.few; whole = i.whole; start = (fences_said sign length fence).1 f }

all_inside : (sign length : ℕ) (lines : List (List ℕ)) → is_space_or_tab sign ≡ false → 0 < length → LeaveOpen sign length lines → list_all (is_inside sign length) lines ≡ true
all_inside sign length [] other some h = refl
all_inside sign length (line ∷ lines) other some h =
    let here : closes_fence sign length (whole line) ≡ false = false_from_ne_true (closes_fence sign length (whole line)) (λ e. h.0 ((closing_said sign length line other some).0 e)) in
    and_from (is_inside sign length line) (list_all (is_inside sign length) lines) (not_from_false (closes_fence sign length (whole line)) here) (all_inside sign length lines other some h.1)

info_left : (sign length : ℕ) (fence : List ℕ) (f : IsFence sign length fence) → drop length fence ≡ f.info
info_left sign length fence f = ap (λ (xs : List ℕ). drop length xs) f.whole ∙ left_behind sign length f.info

-- code is read up to the line that closes it
pub code_read : CodeIsRead
code_read text after first last fence lines indent sign length are i f inside closing =
    let other = sign_other sign length f.info f.of_sign in
    let some = some_signs length f.enough in
    let found = at_its_end text after first last fence lines indent sign length are (begins_code first fence indent sign length i f) (all_inside sign length lines other some inside) ((closing_said sign length last other some).1 closing) in
    (found.0, subst (λ (xs : List ℕ). IsCode found.0 xs indent lines) (info_left sign length fence f) found.1, found.2)

-- and to the end of the text, where none does
pub open_code_read : OpenCodeIsRead
open_code_read text first fence lines indent sign length are i f inside =
    let other = sign_other sign length f.info f.of_sign in
    let some = some_signs length f.enough in
    let found = with_text text first fence lines indent sign length are (begins_code first fence indent sign length i f) (all_inside sign length lines other some inside) in
    (found.0, subst (λ (xs : List ℕ). IsCode found.0 xs indent lines) (info_left sign length fence f) found.1, found.2)
