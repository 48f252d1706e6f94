-- Cutting a text into tokens, one after another.
use Rattle.std.proofs.Common.{◌≡◌, ℕ, zero, suc, ◌<◌, ◌+◌, ◌-◌, Bool, true, false, List, [], ◌∷◌, ◌++◌, map, chars, length, take, drop, refl, sym, ap, ◌∙◌, arith, cond, ◌==◌, lit<, inl, inr}
use Rattle.std.specs.Prelude.{Result, Ok, Err}
use Rattle.std.specs.List.{prefix_len}
use Rattle.std.specs.Char.{is_whitespace}
use Rattle.std.specs.Str.{IsUtf8, trim_start, skip_leading_whitespace, encode_utf8_all, all_scalars}
use Rattle.std.proofs.lemmas.Bool.{cases_Bool, and_parts, cond_both}
use Rattle.std.proofs.lemmas.Bool.Decides.{nat_tests}
use Rattle.std.proofs.lemmas.List.{length-append, length-drop}
use Rattle.std.proofs.lemmas.Str.{chars-append, chars-encodes, encodes-chars, scalars-chars}
use Rattle.std.proofs.Math.Seq.{take-append_seam, drop-append_seam}
use Rattle.mad_parse.specs.Cuts.{cut_after, token_len, word_len, is_word_char, bracket_len}
use Rattle.std.proofs.StrCases.{chars_of_empty}
use Rattle.std.specs.Prelude.{string_bytes}
use Rattle.mad_parse.specs.declared.errors.ParseStyleTokenError.{ParseStyleTokenError}
use Rattle.mad_parse.specs.declared.errors.ParseStyleTokenError.TheVariants as error
use Rattle.mad_parse.specs.StyleTokens.{Fault, unrecognized, bad_color, token_of}
use Rattle.mad_parse.specs.Reading.{tokens_of, read_all, in_order, and_after, Tells}
use Rattle.mad_parse.specs.declared.tokens.StyleToken.{StyleToken}

cut_drop : (n : ℕ) (cs : List ℕ) → cut_after n cs ≡ cut_after 0 (drop n cs)
cut_drop (suc n) (c ∷ cs) = cut_drop n cs
cut_drop _ _ = refl

if_true : {A : Type 0} (b : Bool) (x y : A) → b ≡ true → cond b x y ≡ x
if_true b x y e = rw e refl

if_false : {A : Type 0} (b : Bool) (x y : A) → b ≡ false → cond b x y ≡ y
if_false b x y e = rw e refl

-- whitespace in front counts for nothing
pub cut_trimmed : (cs : List ℕ) → cut_after 0 (skip_leading_whitespace cs) ≡ cut_after 0 cs
cut_trimmed [] = refl
cut_trimmed (c ∷ cs) =
    elim (cases_Bool (is_whitespace c)) as (λ _. cut_after 0 (skip_leading_whitespace (c ∷ cs)) ≡ cut_after 0 (c ∷ cs)) [
      | inl white ↦ ap (cut_after 0) (if_true (is_whitespace c) (skip_leading_whitespace cs) (c ∷ cs) white) ∙ cut_trimmed cs ∙ sym (if_true (is_whitespace c) _ _ white)
      | inr black ↦ ap (cut_after 0) (if_false (is_whitespace c) (skip_leading_whitespace cs) (c ∷ cs) black)
    ]

-- a text that doesn't begin with whitespace
abbrev pub begins_white : List ℕ → Bool
begins_white [] = false
begins_white (c ∷ cs) = is_whitespace c

-- what is left has no whitespace at its front
pub trimmed_black : (cs : List ℕ) → begins_white (skip_leading_whitespace cs) ≡ false
trimmed_black [] = refl
trimmed_black (c ∷ cs) =
    elim (cases_Bool (is_whitespace c)) as (λ _. begins_white (skip_leading_whitespace (c ∷ cs)) ≡ false) [
      | inl white ↦ ap begins_white (if_true (is_whitespace c) (skip_leading_whitespace cs) (c ∷ cs) white) ∙ trimmed_black cs
      | inr black ↦ ap begins_white (if_false (is_whitespace c) (skip_leading_whitespace cs) (c ∷ cs) black) ∙ black
    ]

-- a token has a character
word_len_pos : (n : ℕ) (cs : List ℕ) → 0 < word_len n cs
word_len_pos n cs = cond_both (n == 0) 1 (n + bracket_len (drop n cs)) (λ x. 0 < x) (λ e. lit< tt) (λ e. grind (arith, nat_tests))

drop_one : (n c : ℕ) (cs : List ℕ) → 0 < n → drop (n - 1) cs ≡ drop n (c ∷ cs)
drop_one zero c cs h = absurd (omega arith)
drop_one (suc n) c cs h = let less : suc n - 1 ≡ n = omega arith in ap (λ k. drop k cs) less

-- the first token, and those of the rest
pub cut_first : (cs : List ℕ) → 0 < length cs → begins_white cs ≡ false → cut_after 0 cs ≡ take (token_len cs) cs ∷ cut_after 0 (drop (token_len cs) cs)
cut_first [] some black = absurd (omega arith)
cut_first (c ∷ cs) some black =
    let n = token_len (c ∷ cs) in
    let pos : 0 < n = word_len_pos (prefix_len is_word_char (c ∷ cs)) (c ∷ cs) in
    let step : drop (n - 1) cs ≡ drop n (c ∷ cs) = drop_one n c cs pos in
    if_false (is_whitespace c) _ _ black ∙ ap (λ r. take n (c ∷ cs) ∷ r) (cut_drop (n - 1) cs ∙ ap (cut_after 0) step)

-- ---- the tokens of a text

-- tokens in front of those of a text
abbrev pub all_after : List StyleToken → Result (List StyleToken) Fault → Result (List StyleToken) Fault
all_after [] r = r
all_after (t ∷ ts) r = and_after t (all_after ts r)

-- a token more at the end of those that were read
pub all_push : (ts : List StyleToken) (t : StyleToken) (r : Result (List StyleToken) Fault) → all_after (ts ++ t ∷ []) r ≡ all_after ts (and_after t r)
all_push [] t r = refl
all_push (u ∷ ts) t r = ap (and_after u) (all_push ts t r)

-- a fault after tokens is that fault
pub all_fault : (ts : List StyleToken) (f : Fault) → all_after ts (Err f) ≡ Err f
all_fault [] f = refl
all_fault (t ∷ ts) f = ap (and_after t) (all_fault ts f)

-- after the last token these are all
pub all_done : (ts : List StyleToken) → all_after ts (Ok []) ≡ Ok ts
all_done [] = refl
all_done (t ∷ ts) = ap (and_after t) (all_done ts)

-- ---- texts as bytes

scalars_skip : (cs : List ℕ) → all_scalars cs ≡ true → all_scalars (skip_leading_whitespace cs) ≡ true
scalars_skip [] h = h
scalars_skip (c ∷ cs) h =
    elim (cases_Bool (is_whitespace c)) as (λ _. all_scalars (skip_leading_whitespace (c ∷ cs)) ≡ true) [
      | inl white ↦ ap all_scalars (if_true (is_whitespace c) (skip_leading_whitespace cs) (c ∷ cs) white) ∙ scalars_skip cs (and_parts _ _ h).1
      | inr black ↦ ap all_scalars (if_false (is_whitespace c) (skip_leading_whitespace cs) (c ∷ cs) black) ∙ h
    ]

chars_trimmed : (bs : List ℕ) → IsUtf8 bs → chars (trim_start bs) ≡ skip_leading_whitespace (chars bs)
unfolding trim_start
chars_trimmed bs u = chars-encodes (skip_leading_whitespace (chars bs)) (scalars_skip (chars bs) (scalars-chars bs u))

-- whitespace at the front changes no token
pub tokens_trimmed : (bs : List ℕ) → IsUtf8 bs → tokens_of (trim_start bs) ≡ tokens_of bs
tokens_trimmed bs u = ap (λ cs. read_all (map encode_utf8_all cs)) (ap (cut_after 0) (chars_trimmed bs u) ∙ cut_trimmed (chars bs))

-- a text that is trimmed begins without whitespace
pub trimmed_begins : (bs : List ℕ) → IsUtf8 bs → begins_white (chars (trim_start bs)) ≡ false
trimmed_begins bs u = ap begins_white (chars_trimmed bs u) ∙ trimmed_black (chars bs)

-- a text cut after its first token: what that says, and then the rest
pub tokens_cut : (bs first rest : List ℕ) → IsUtf8 first → IsUtf8 rest → first ++ rest ≡ bs → 0 < length (chars bs) → begins_white (chars bs) ≡ false → length (chars first) ≡ token_len (chars bs)
    → tokens_of bs ≡ in_order (token_of first) (tokens_of rest)
tokens_cut bs first rest u v e some black len =
    let whole : chars bs ≡ chars first ++ chars rest = ap chars (sym e) ∙ chars-append first rest u in
    let front : take (token_len (chars bs)) (chars bs) ≡ chars first = rw (sym len, whole) (take-append_seam (chars first) (chars rest)) in
    let back : drop (token_len (chars bs)) (chars bs) ≡ chars rest = rw (sym len, whole) (drop-append_seam (chars first) (chars rest)) in
    ap (λ cs. read_all (map encode_utf8_all cs)) (cut_first (chars bs) some black ∙ ap (λ t. t ∷ cut_after 0 (drop (token_len (chars bs)) (chars bs))) front ∙ ap (λ r. chars first ∷ cut_after 0 r) back)
    ∙ ap (λ t. in_order (token_of t) (tokens_of rest)) (encodes-chars first u)

-- ---- the loop over a text's tokens: text is the whole, rest what is left of it, ts the tokens so far

-- at first no token was read
pub read_start : (text rest : List ℕ) (ts : List StyleToken) → IsUtf8 text → rest ≡ trim_start text → ts ≡ [] → tokens_of text ≡ all_after ts (tokens_of rest)
read_start text rest ts u is none = sym (ap (λ l. all_after l (tokens_of rest)) none ∙ ap tokens_of is ∙ tokens_trimmed text u)

-- a text with bytes has characters
pub counted_chars : (cs bs : List ℕ) → encode_utf8_all cs ≡ bs → 0 < length bs → 0 < length cs
counted_chars [] bs e h = absurd (omega (arith, ap length e))
counted_chars (c ∷ cs) bs e h = omega arith

-- a text with bytes has a character
pub some_chars : (bs : List ℕ) → IsUtf8 bs → 0 < length bs → 0 < length (chars bs)
some_chars bs u h = counted_chars (chars bs) bs (encodes-chars bs u) h

-- the next token is read
pub read_more : (rest first after_it next : List ℕ) (t : StyleToken) (ts us : List StyleToken) (whole : Result (List StyleToken) Fault)
    → whole ≡ all_after ts (tokens_of rest) → begins_white (chars rest) ≡ false → 0 < length rest → IsUtf8 rest → IsUtf8 first → IsUtf8 after_it
    → first ++ after_it ≡ rest → length (chars first) ≡ token_len (chars rest) → token_of first ≡ Ok t → us ≡ ts ++ t ∷ [] → next ≡ trim_start after_it
    → whole ≡ all_after us (tokens_of next)
read_more rest first after_it next t ts us whole held black some u v w parts len says pushed is =
    let cut = tokens_cut rest first after_it v w parts (some_chars rest u some) black len in
    held ∙ ap (all_after ts) (cut ∙ ap (λ r. in_order r (tokens_of after_it)) says) ∙ sym (all_push ts t (tokens_of after_it))
    ∙ ap (all_after (ts ++ t ∷ [])) (sym (tokens_trimmed after_it w) ∙ ap tokens_of (sym is)) ∙ ap (λ l. all_after l (tokens_of next)) (sym pushed)

-- or it is none: that fault is the text's
pub read_fault : (rest first after_it : List ℕ) (f : Fault) (ts : List StyleToken) (whole : Result (List StyleToken) Fault)
    → whole ≡ all_after ts (tokens_of rest) → begins_white (chars rest) ≡ false → 0 < length rest → IsUtf8 rest → IsUtf8 first → IsUtf8 after_it
    → first ++ after_it ≡ rest → length (chars first) ≡ token_len (chars rest) → token_of first ≡ Err f → whole ≡ Err f
read_fault rest first after_it f ts whole held black some u v w parts len says =
    let cut = tokens_cut rest first after_it v w parts (some_chars rest u some) black len in
    held ∙ ap (all_after ts) (cut ∙ ap (λ r. in_order r (tokens_of after_it)) says) ∙ all_fault ts f

-- an error that tells of the token's fault tells of the text's
pub tells_on : (e : ParseStyleTokenError) (one : Result StyleToken Fault) (whole : Result (List StyleToken) Fault) → ((f : Fault) → one ≡ Err f → whole ≡ Err f) → Tells e one → Tells e whole
tells_on (error.Unrecognized text) one whole go h = go (unrecognized (string_bytes text)) h
tells_on (error.InvalidColor x) one whole go h = go (bad_color x) h
tells_on error.Memory one whole go h = tt

-- nothing is left
pub read_end : (rest : List ℕ) (ts : List StyleToken) (whole : Result (List StyleToken) Fault) → whole ≡ all_after ts (tokens_of rest) → length rest ≡ 0 → whole ≡ Ok ts
read_end rest ts whole held none =
    held ∙ ap (all_after ts) (ap (λ cs. read_all (map encode_utf8_all (cut_after 0 cs))) (chars_of_empty rest none)) ∙ all_done ts

-- a number that isn't zero is positive
pub nonzero : (n : ℕ) → (n == 0) ≡ false → 0 < n
nonzero n e = grind (arith, nat_tests)

not_none : (n : ℕ) → (n ≡ 0 → ⊥) → 0 < n
not_none zero h = absurd (h refl)
not_none (suc n) h = omega arith

-- a token takes at least one byte
pub read_smaller : (rest first after_it next : List ℕ) (n : ℕ) → first ++ after_it ≡ rest → length (chars first) ≡ token_len (chars rest) → next ≡ drop n after_it → length next < length rest
read_smaller rest first after_it next n parts len is =
    let pos : 0 < token_len (chars rest) = word_len_pos (prefix_len is_word_char (chars rest)) (chars rest) in
    let some : (length first ≡ 0 → ⊥) = λ none. absurd (omega (arith, pos, len, ap length (chars_of_empty first none))) in
    let bytes : 0 < length first = not_none (length first) some in
    omega (arith, bytes, ap length is, length-drop n after_it, ap length parts, length-append first after_it)
