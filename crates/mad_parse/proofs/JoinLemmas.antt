-- Tokens with a space between two.
use Rattle.std.proofs.Common.{◌≡◌, ℕ, ◌<◌, false, List, [], ◌∷◌, ◌++◌, map, chars, length, refl, sym, ap, ◌∙◌, lit<, append-nil}
use Rattle.std.specs.Prelude.{Ok}
use Rattle.std.specs.Str.{IsUtf8, encode_utf8_all}
use Rattle.std.proofs.lemmas.Str.{chars-nil, chars_past_char, encode_ascii, IsUtf8-nil}
use Rattle.mad_parse.specs.Cuts.{cut_after, token_len}
use Rattle.mad_parse.specs.StyleTokens.{token_of}
use Rattle.mad_parse.specs.Reading.{tokens_of, read_all, and_after, in_order}
use Rattle.mad_parse.specs.declared.tokens.StyleToken.{StyleToken}
use Rattle.mad_parse.proofs.CutLemmas.{tokens_cut, begins_white}

-- a space at the front changes no token
pub spaced : (rest : List ℕ) → IsUtf8 (32 ∷ rest) → tokens_of (32 ∷ rest) ≡ tokens_of rest
spaced rest u = ap (λ cs. read_all (map encode_utf8_all (cut_after 0 cs))) (chars_past_char (32 ∷ rest) rest 32 u (ap (λ x. x ++ rest) (sym (encode_ascii 32 (lit< tt)))))

-- a token, a space and more
pub tokens_joined : (a rest : List ℕ) (t : StyleToken) → IsUtf8 a → IsUtf8 (32 ∷ rest) → 0 < length (chars (a ++ 32 ∷ rest)) → begins_white (chars (a ++ 32 ∷ rest)) ≡ false
    → length (chars a) ≡ token_len (chars (a ++ 32 ∷ rest)) → token_of a ≡ Ok t → tokens_of (a ++ 32 ∷ rest) ≡ and_after t (tokens_of rest)
tokens_joined a rest t u v some black len says =
    tokens_cut (a ++ 32 ∷ rest) a (32 ∷ rest) u v refl some black len ∙ ap (λ r. in_order r (tokens_of (32 ∷ rest))) says ∙ ap (and_after t) (spaced rest v)

-- the last token
pub tokens_last : (a : List ℕ) (t : StyleToken) → IsUtf8 a → 0 < length (chars a) → begins_white (chars a) ≡ false → length (chars a) ≡ token_len (chars a) → token_of a ≡ Ok t → tokens_of a ≡ Ok (t ∷ [])
tokens_last a t u some black len says =
    tokens_cut a a [] u IsUtf8-nil (append-nil a) some black len ∙ ap (λ r. in_order r (tokens_of [])) says ∙ ap (λ cs. and_after t (read_all (map encode_utf8_all (cut_after 0 cs)))) chars-nil

-- a text without tokens
pub nothing_read : tokens_of [] ≡ Ok []
nothing_read = ap (λ cs. read_all (map encode_utf8_all (cut_after 0 cs))) chars-nil
