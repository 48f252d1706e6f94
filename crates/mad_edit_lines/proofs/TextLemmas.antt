-- Lines that are made of a text.
use Rattle.std.proofs.Common.{ℕ, ◌+◌, ◌≡◌, List, [], ◌∷◌, ◌++◌, length, take, drop, ap, sym, ◌∙◌, arith, append_assoc, length-append, append-nil}
use Rattle.std.proofs.lemmas.List.{map-append, take_at, length-map}
use Rattle.mad_edit_lines.specs.declared.line.Line.{Line}
use Rattle.mad_edit_lines.specs.TextLines.{led_lines, led_lines_with, lines_of, chars_of, text_of}
use Rattle.mad_edit_lines.proofs.PositionLemmas.{led_lines-append}

-- the line that was made is ended
pub led_ended : (done : List Line) (l : Line) → led_lines (lines_of (done ++ l ∷ [])) ≡ led_lines_with (lines_of done) (chars_of l)
led_ended done l = ap led_lines (map-append chars_of done (l ∷ [])) ∙ led_lines-append (lines_of done) _ ∙ ap (λ t. led_lines (lines_of done) ++ t) (append-nil (10 ∷ chars_of l))

-- and a new one begins
pub led_next : (done : List Line) (l : Line) → led_lines_with (lines_of (done ++ l ∷ [])) [] ≡ led_lines_with (lines_of done) (chars_of l) ++ (10 ∷ [])
led_next done l = ap (λ t. t ++ (10 ∷ [])) (led_ended done l)

-- the text so far, and the back of the line after it
pub typed_text : (done : List Line) (l : Line) (cur front mid back : List ℕ) → led_lines_with (lines_of done) cur ≡ (10 ∷ front) ++ mid → chars_of l ≡ cur ++ back → text_of (lines_of (done ++ l ∷ [])) ≡ front ++ (mid ++ back)
typed_text done l cur front mid back e h =
    ap (drop 1) (led_ended done l ∙ ap (led_lines_with (lines_of done)) h ∙ sym (append_assoc (led_lines (lines_of done)) (10 ∷ cur) back) ∙ ap (λ t. t ++ back) e)
    ∙ append_assoc front mid back

-- where the typed text ends
pub typed_end : (done : List Line) (l : Line) (cur front mid : List ℕ) → led_lines_with (lines_of done) cur ≡ (10 ∷ front) ++ mid → length (led_lines (take (length done) (lines_of (done ++ l ∷ [])))) + length cur ≡ length front + length mid
typed_end done l cur front mid e =
    let cut : take (length done) (lines_of (done ++ l ∷ [])) ≡ lines_of done =
    ap (take (length done)) (map-append chars_of done (l ∷ [])) ∙ take_at (lines_of done) _ (length done) (length-map done chars_of) in
    let whole = ap length e in
    let left = length-append (led_lines (lines_of done)) (10 ∷ cur) in
    let right = length-append (10 ∷ front) mid in
    let n = ap (λ t. length (led_lines t)) cut in
    omega (arith, whole, left, right, n)
