-- The bytes of a token go by at once.
use Rattle.std.proofs.Common.{◌≡◌, ℕ, zero, suc, ◌-◌, ◌&&◌, ◌||◌, Bool, true, false, cond, List, [], ◌∷◌, ◌++◌, append_assoc, ◌<◌, length, take, drop, refl, sym, ap, ◌∙◌, arith}
use Rattle.std.specs.Prelude.{not, ◌==◌, slice_index}
use Rattle.std.proofs.Math.Seq.{take-length}
use Rattle.code_tables.specs.declared.rules.Language.{Language}
use Rattle.code_colors.specs.declared.places.Before.{Before}
use Rattle.code_colors.specs.declared.token_at.Taken.{Taken}
use Rattle.code_colors.specs.declared.tokens.Token.{Token}
use Rattle.code_tables.specs.Kinds.{is_blank_byte}
use Rattle.code_colors.specs.Places.{before, nothing_before, passed, passed_all, is_decisive, ends_decisively}
use Rattle.code_colors.specs.Tokens.{token_at, token_of, innermost, turned, tokens_from}

no_dash : (t : Bool) → (t && false) ≡ false
no_dash true = refl
no_dash false = refl

by_tests : (blank line return dash : Bool) (b : ℕ) (s : Before) → not ((blank || line || return) || dash) ≡ true
    → cond line nothing_before (cond (blank || return) (before b s.sign s.bare) (before b b (s.bare && dash))) ≡ before b b false
by_tests true line return dash b s h = ap (λ t. cond t (before b b false) (cond line nothing_before (before b s.sign s.bare))) h
by_tests false true return dash b s h = ap (λ t. cond t (before b b false) nothing_before) h
by_tests false false true dash b s h = ap (λ t. cond t (before b b false) (before b s.sign s.bare)) h
by_tests false false false true b s h = ap (λ t. cond t (before b b false) (before b b (s.bare && true))) h
by_tests false false false false b s h = ap (λ t. before b b t) (no_dash s.bare)

decisive : (b : ℕ) (s : Before) → is_decisive b ≡ true → passed b s ≡ before b b false
decisive b s h = by_tests (is_blank_byte b) (b == 10) (b == 13) (b == 45) b s h

decided_from : (b : ℕ) (bs : List ℕ) (s : Before) → is_decisive (slice_index (b ∷ bs) (length bs)) ≡ true
    → passed_all (b ∷ bs) s ≡ before (slice_index (b ∷ bs) (length bs)) (slice_index (b ∷ bs) (length bs)) false
unfolding passed_all
decided_from b [] s h = decisive b s h
decided_from b (c ∷ cs) s h = decided_from c cs (passed b s) h

second : (s t : Bool) → (not s && t) ≡ true → t ≡ true
second true t h = sym (ap (λ u. cond u t true) h)
second false t h = h

-- where the last byte is decisive, it alone says what is known
pub decided : (bs : List ℕ) (s : Before) → ends_decisively bs ≡ true
    → passed_all bs s ≡ before (slice_index bs (length bs - 1)) (slice_index bs (length bs - 1)) false
decided [] s h = ap (λ t. cond t (before (slice_index [] 0) (slice_index [] 0) false) (passed_all [] s)) h
decided (b ∷ bs) s h =
    let less : length (b ∷ bs) - 1 ≡ length bs = omega arith in
    let last : is_decisive (slice_index (b ∷ bs) (length (b ∷ bs) - 1)) ≡ true = second (length (b ∷ bs) == 0) (is_decisive (slice_index (b ∷ bs) (length (b ∷ bs) - 1))) h in
    decided_from b bs s (sym (ap (λ n. is_decisive (slice_index (b ∷ bs) n)) less) ∙ last) ∙ ap (λ n. before (slice_index (b ∷ bs) n) (slice_index (b ∷ bs) n) false) (sym less)

-- the tokens behind so many bytes, which have gone by, are those of what is left when they belong to the last one
pub passed_by : (language : Language) (modes : List ℕ) (s : Before) (skip : ℕ) (bs : List ℕ)
    → tokens_from language modes (passed_all (take skip bs) s) 0 (drop skip bs) ≡ tokens_from language modes s skip bs
unfolding tokens_from passed_all
passed_by language modes s zero [] = refl
passed_by language modes s zero (b ∷ bs) = refl
passed_by language modes s (suc skip) [] = refl
passed_by language modes s (suc skip) (b ∷ bs) = passed_by language modes (passed b s) skip bs

-- bytes are the first one and those behind it
pub split_first : (rest : List ℕ) → 0 < length rest → rest ≡ slice_index rest 0 ∷ take (length rest - 1) (drop 1 rest)
split_first [] some = absurd (omega (arith, some))
split_first (b ∷ bs) some =
    let less : length (b ∷ bs) - 1 ≡ length bs = omega arith in
    ap (λ l. b ∷ l) (sym (ap (λ n. take n bs) less ∙ take-length bs))

-- A token is put behind those that are there, and its bytes go by: the tokens are the same in all.
pub token_on : (language : Language) (modes then_modes : List ℕ) (s then_s : Before) (ts then_ts : List Token) (b : ℕ) (rest next then_rest : List ℕ) (t : Taken) (all : List Token)
    → rest ≡ b ∷ next → t ≡ token_at language (innermost modes) s rest → then_ts ≡ ts ++ token_of t ∷ [] → then_modes ≡ turned t.turn modes
    → then_s ≡ passed_all (take t.more next) (passed b s) → then_rest ≡ drop t.more next
    → ts ++ tokens_from language modes s 0 rest ≡ all → then_ts ++ tokens_from language then_modes then_s 0 then_rest ≡ all
unfolding tokens_from
token_on language modes then_modes s then_s ts then_ts b rest next then_rest t all split t_is ts_is modes_is s_is rest_is so =
    let from : List Token = tokens_from language (turned t.turn modes) (passed b s) t.more next in
    ap (λ m. then_ts ++ tokens_from language m then_s 0 then_rest) modes_is
    ∙ ap (λ k. then_ts ++ tokens_from language (turned t.turn modes) k 0 then_rest) s_is
    ∙ ap (λ l. then_ts ++ tokens_from language (turned t.turn modes) (passed_all (take t.more next) (passed b s)) 0 l) rest_is
    ∙ ap (λ f. then_ts ++ f) (passed_by language (turned t.turn modes) (passed b s) t.more next)
    ∙ ap (λ n. n ++ from) ts_is
    ∙ append_assoc ts (token_of t ∷ []) from
    ∙ ap (λ (u : Taken). ts ++ token_of u ∷ tokens_from language (turned u.turn modes) (passed b s) u.more next) (t_is ∙ ap (token_at language (innermost modes) s) split)
    ∙ ap (λ l. ts ++ tokens_from language modes s 0 l) (sym split)
    ∙ so
