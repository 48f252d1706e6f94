-- A few texts by computing.
use Rattle.std.proofs.Common.{◌≡◌, ◌≢◌, ℕ, Bool, true, false, true≢false, length, arith, List, [], ◌∷◌, refl, sym, ap, ◌∙◌}
use Rattle.std.specs.Prelude.{codes, Result, Ok, Err}
use Rattle.std.specs.Char.{encode_utf8}
use Rattle.std.specs.Str.{chars}
use Rattle.mad_term.specs.declared.color.Color.{Color}
use Rattle.mad_term.specs.declared.color.Color.TheVariants.{Blue, DarkBlue, Red}
use Rattle.mad_parse.specs.Reading.{tokens_of}
use Rattle.mad_parse.specs.StyleTokens.{Fault, unrecognized}
use Rattle.mad_parse.specs.declared.tokens.StyleToken.{StyleToken}
use Rattle.mad_parse.specs.declared.tokens.StyleToken.TheVariants as token

-- one word is one token, and not two
pub dark_blue : tokens_of (codes "darkblue") ≡ Ok (token.Color DarkBlue ∷ [])
unfolding chars encode_utf8
dark_blue = refl

-- a word that isn't known is refused
pub centered : tokens_of (codes "centered") ≡ Err (unrecognized (codes "centered"))
unfolding chars encode_utf8
centered = refl

-- two words are two tokens
pub red_blue : tokens_of (codes "red blue") ≡ Ok (token.Color Red ∷ token.Color Blue ∷ [])
unfolding chars encode_utf8
red_blue = refl

-- lists of tokens that aren't the same
token_count : Result (List StyleToken) Fault → ℕ
token_count (Ok ts) = length ts
token_count (Err f) = 0

is_blue : Color → Bool
is_blue Blue = true
is_blue _ = false

blue_first : Result (List StyleToken) Fault → Bool
blue_first (Ok (token.Color c ∷ ts)) = is_blue c
blue_first _ = false

-- not another color
pub other_color : tokens_of (codes "darkblue") ≢ Ok (token.Color Blue ∷ [])
unfolding blue_first is_blue
other_color e = true≢false (sym (ap blue_first e) ∙ ap blue_first dark_blue)

-- no token is lost
pub lost : tokens_of (codes "red blue") ≢ Ok (token.Color Red ∷ [])
unfolding token_count
lost e = absurd (omega (arith, sym (ap token_count red_blue) ∙ ap token_count e))

-- their order is kept
pub swapped : tokens_of (codes "red blue") ≢ Ok (token.Color Blue ∷ token.Color Red ∷ [])
unfolding blue_first is_blue
swapped e = true≢false (sym (ap blue_first e) ∙ ap blue_first red_blue)
