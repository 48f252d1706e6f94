-- What the definitions say of a few texts, and what they don't say.
use Rattle.std.specs.Prelude.{◌≡◌, ◌≢◌, List, [], ◌∷◌, Some, None, Ok, Err, codes}
use Rattle.mad_term.specs.AttributeSets.{no_attributes}
use Rattle.mad_term.specs.declared.color.Color.{Color}
use Rattle.mad_term.specs.declared.color.Color.TheVariants.{Blue, Red}
use Rattle.mad_style.specs.CompoundStyles.{text_style}
use Rattle.mad_parse.specs.Reading.{tokens_of}
use Rattle.mad_parse.specs.TokenStyles.{style_of}
use Rattle.mad_parse.specs.StyleTokens.{unrecognized}
use Rattle.mad_parse.specs.Written.{style_tokens, tokens_text}
use Rattle.mad_parse.specs.declared.tokens.StyleToken.{StyleToken}
use Rattle.mad_parse.specs.declared.tokens.StyleToken.TheVariants as token

-- a name counts as a whole: `darkblue` isn't blue, and `centered` is refused
pub record NamesAreWhole : Type 0 where
  pub other_color : tokens_of (codes "darkblue") ≢ Ok (token.Color Blue ∷ [])
  pub no_align : tokens_of (codes "centered") ≡ Err (unrecognized (codes "centered"))

-- a text has all its tokens, in its order
pub record TokensAreInOrder : Type 0 where
  pub lost : tokens_of (codes "red blue") ≢ Ok (token.Color Red ∷ [])
  pub swapped : tokens_of (codes "red blue") ≢ Ok (token.Color Blue ∷ token.Color Red ∷ [])

-- a background alone isn't written as a foreground is
abbrev pub BackgroundsAreToldApart : Type 0
BackgroundsAreToldApart = tokens_text (style_tokens (text_style None (Some Red) no_attributes)) ≢ codes "Red"

-- a `none` after the foreground changes nothing, whatever follows
abbrev pub LaterNoneChangesNothing : Type 0
LaterNoneChangesNothing = (c : Color) (ts : List StyleToken) → style_of (token.Color c ∷ token.None ∷ ts) ≡ style_of (token.Color c ∷ ts)
