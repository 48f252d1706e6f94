-- Characters that are shown, one after the other.
use Rattle.std.proofs.Common.{◌≡◌, ℕ, ◌+◌, ◌<◌, ◌≤◌, List, [], ◌∷◌, ◌++◌, map, length, drop, get_or, sym, ap, ◌∙◌, append_assoc, append-nil}
use Rattle.std.specs.Prelude.{chars, encode_utf8_all}
use Rattle.std.specs.Char.{encode_utf8}
use Rattle.std.specs.Str.{IsUtf8}
use Rattle.std.proofs.lemmas.Str.{chars_past_char, encodes-append, chars-nil}
use Rattle.std.proofs.lemmas.List.{nil_from_length, drop_more, drop_all}
use Rattle.markdown_inlines.specs.Printable.{shown_char}

-- a character more
pub shown_more : (done shown rest more all : List ℕ) (c : ℕ) → IsUtf8 rest → rest ≡ encode_utf8 c ++ more → shown ≡ done ++ encode_utf8 (shown_char c)
    → done ++ encode_utf8_all (map shown_char (chars rest)) ≡ all → shown ++ encode_utf8_all (map shown_char (chars more)) ≡ all
shown_more done shown rest more all c utf8 parts is h =
    let here : List ℕ = shown_char c ∷ [] in
    let others : List ℕ = map shown_char (chars more) in
    ap (λ (bs : List ℕ). bs ++ encode_utf8_all others) (is ∙ ap (λ (bs : List ℕ). done ++ bs) (sym (append-nil (encode_utf8 (shown_char c)))))
    ∙ append_assoc done (encode_utf8_all here) (encode_utf8_all others)
    ∙ ap (λ (bs : List ℕ). done ++ bs) (sym (encodes-append here others))
    ∙ ap (λ (cs : List ℕ). done ++ encode_utf8_all (map shown_char cs)) (sym (chars_past_char rest more c utf8 parts))
    ∙ h

none_left : (rest : List ℕ) → length rest ≡ 0 → chars rest ≡ []
none_left rest none = ap chars (nil_from_length rest none) ∙ chars-nil

-- where no byte is left, all characters are shown
pub shown_all : (shown rest all : List ℕ) → length rest ≡ 0 → shown ++ encode_utf8_all (map shown_char (chars rest)) ≡ all → shown ≡ all
shown_all shown rest all none h = sym (append-nil shown) ∙ sym (ap (λ (cs : List ℕ). shown ++ encode_utf8_all (map shown_char cs)) (none_left rest none)) ∙ h
