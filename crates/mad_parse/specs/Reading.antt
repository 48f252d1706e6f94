-- What a text of style tokens says.
use Rattle.std.specs.Prelude.{◌≡◌, ℕ, List, [], ◌∷◌, Result, Ok, Err, string_bytes}
use Rattle.mad_parse.specs.Cuts.{token_texts}
use Rattle.mad_parse.specs.StyleTokens.{Fault, unrecognized, bad_color, token_of}
use Rattle.mad_parse.specs.declared.errors.ParseStyleTokenError.{ParseStyleTokenError}
use Rattle.mad_parse.specs.declared.errors.ParseStyleTokenError.TheVariants as error
use Rattle.mad_parse.specs.declared.tokens.StyleToken.{StyleToken}

-- a token that was read and those after it, unless one of these is at fault
abbrev pub and_after : StyleToken → Result (List StyleToken) Fault → Result (List StyleToken) Fault
and_after t (Ok ts) = Ok (t ∷ ts)
and_after t (Err fault) = Err fault

-- one token and those after it: the first fault counts
abbrev pub in_order : Result StyleToken Fault → Result (List StyleToken) Fault → Result (List StyleToken) Fault
in_order (Ok t) rest = and_after t rest
in_order (Err fault) rest = Err fault

-- what the texts of tokens say, one after another
abbrev pub read_all : List (List ℕ) → Result (List StyleToken) Fault
read_all [] = Ok []
read_all (text ∷ texts) = in_order (token_of text) (read_all texts)

-- what a text says: its tokens, or the fault of the first that is none
abbrev pub tokens_of : List ℕ → Result (List StyleToken) Fault
tokens_of text = read_all (token_texts text)

-- an error tells of a fault; out of memory may come before any
abbrev pub Tells : {A : Type 0} → ParseStyleTokenError → Result A Fault → Type 0
Tells (error.Unrecognized text) r = r ≡ Err (unrecognized (string_bytes text))
Tells (error.InvalidColor e) r = r ≡ Err (bad_color e)
Tells error.Memory r = Unit {0}

-- what tokens say, where they are tokens
abbrev pub said : {A : Type 0} → (List StyleToken → A) → Result (List StyleToken) Fault → Result A Fault
said f (Ok ts) = Ok (f ts)
said f (Err fault) = Err fault
