-- What comes after the first characters of a text.
use Rattle.std.proofs.Common.{◌≡◌, ℕ, List, ◌++◌, take, drop, chars, ap, sym, ◌∙◌}
use Rattle.std.specs.Str.{IsCharBoundary, IsUtf8}
use Rattle.std.proofs.lemmas.Str.{IsUtf8-drop}
use Rattle.std.proofs.lemmas.List.{append_cancel_left, take-append-drop}
use Rattle.mad_md.proofs.CharLemmas.{chars_cut}

-- where the text before a byte is its first so many characters, the text from there on is the others
pub behind_cut : (text : List ℕ) (i n : ℕ) → IsUtf8 text → IsCharBoundary text i → chars (take i text) ≡ take n (chars text) → chars (drop i text) ≡ drop n (chars text)
behind_cut text i n utf8 border front =
    let cut : chars text ≡ chars (take i text) ++ chars (drop i text) = chars_cut text i utf8 border.0 (IsUtf8-drop text i utf8 border) in
    append_cancel_left (chars (take i text)) (chars (drop i text)) (drop n (chars text))
    (sym cut ∙ sym (take-append-drop n (chars text)) ∙ ap (λ (cs : List ℕ). cs ++ drop n (chars text)) (sym front))
