-- Steps of the loops.
use Rattle.std.proofs.Common.{◌≡◌, ℕ, zero, suc, ◌-◌, ◌<◌, true, List, [], ◌∷◌, ◌++◌, map, length, refl, sym, ap, ◌∙◌, arith, append_assoc, append-nil}
use Rattle.std.specs.Prelude.{replicate, chars, encode_utf8_all}
use Rattle.std.specs.Char.{encode_utf8}
use Rattle.std.specs.Str.{IsUtf8}
use Rattle.std.specs.Str.Lossy.{utf8_lossy}
use Rattle.std.proofs.Math.Utf8.{scalars, scalar}
use Rattle.std.proofs.StrCases.{chars_of_empty}
use Rattle.std.proofs.lemmas.Bool.{and_parts, and_from}
use Rattle.std.proofs.lemmas.Bool.Decides.{nat_tests}
use Rattle.std.proofs.lemmas.Str.{chars_past_char, chars-encodes, scalars-chars}
use Rattle.mad_steady.specs.Steady.{steady_text}
use Rattle.markdown_tones.specs.CodeSource.{pictured, shown_source}

-- one more space is put, and one less is to come
pub space_more : (old now new all : List ℕ) (more : ℕ) → 0 < more → new ≡ now ++ 32 ∷ [] → now ++ replicate more 32 ≡ all → new ++ replicate (more - 1) 32 ≡ all
space_more old now new all zero some is h = absurd (omega arith)
space_more old now new all (suc more) some is h =
    let same : suc more - 1 ≡ more = omega arith in
    ap (λ (k : ℕ). new ++ replicate k 32) same ∙ ap (λ l. l ++ replicate more 32) is ∙ append_assoc now (32 ∷ []) (replicate more 32) ∙ h

-- with its spaces, its bytes and a newline a line is put
pub line_more : (now one two three rest all spaces bytes : List ℕ) → one ≡ now ++ spaces → two ≡ one ++ bytes → three ≡ two ++ 10 ∷ [] → now ++ ((spaces ++ (bytes ++ 10 ∷ [])) ++ rest) ≡ all → three ++ rest ≡ all
line_more now one two three rest all spaces bytes one_is two_is three_is h =
    ap (λ l. l ++ rest) (three_is ∙ ap (λ l. l ++ 10 ∷ []) (two_is ∙ ap (λ l. l ++ bytes) one_is) ∙ append_assoc (now ++ spaces) bytes (10 ∷ []) ∙ append_assoc now spaces (bytes ++ 10 ∷ []))
    ∙ append_assoc now (spaces ++ (bytes ++ 10 ∷ [])) rest ∙ h

-- ---- what is shown of a line

-- one more character is put, and those behind it are to come
pub pictured_more : (done shown rest more all : List ℕ) (c put : ℕ) → IsUtf8 rest → rest ≡ encode_utf8 c ++ more → put ≡ pictured c → shown ≡ done ++ encode_utf8 put
    → done ++ encode_utf8_all (map pictured (chars rest)) ≡ all → shown ++ encode_utf8_all (map pictured (chars more)) ≡ all
pictured_more done shown rest more all c put utf8 parts put_is is h =
    let later : List ℕ = encode_utf8_all (map pictured (chars more)) in
    ap (λ (bs : List ℕ). bs ++ later) (is ∙ ap (λ (p : ℕ). done ++ encode_utf8 p) put_is)
    ∙ append_assoc done (encode_utf8 (pictured c)) later
    ∙ ap (λ (cs : List ℕ). done ++ encode_utf8_all (map pictured cs)) (sym (chars_past_char rest more c utf8 parts))
    ∙ h

-- where no character is to come, all are put
pub pictured_all : (shown rest all : List ℕ) → length rest ≡ 0 → shown ++ encode_utf8_all (map pictured (chars rest)) ≡ all → shown ≡ all
pictured_all shown rest all none h = sym (append-nil shown) ∙ sym (ap (λ (cs : List ℕ). shown ++ encode_utf8_all (map pictured cs)) (chars_of_empty rest none)) ∙ h

pictured_scalar : (c : ℕ) → scalar c ≡ true → scalar (pictured c) ≡ true
pictured_scalar c h = grind (arith, nat_tests, h)

-- what is shown of characters are characters
pub pictured_scalars : (cs : List ℕ) → scalars cs ≡ true → scalars (map pictured cs) ≡ true
pictured_scalars [] h = refl
pictured_scalars (c ∷ cs) h =
    let both = and_parts (scalar c) (scalars cs) h in
    and_from (scalar (pictured c)) (scalars (map pictured cs)) (pictured_scalar c both.0) (pictured_scalars cs both.1)

-- the steady text of the characters that are shown of a line's text is put
pub source_is : (old new bytes text drawn shown : List ℕ) → IsUtf8 text → text ≡ utf8_lossy bytes → drawn ≡ encode_utf8_all (map pictured (chars text)) → shown ≡ encode_utf8_all (steady_text (chars drawn)) → new ≡ old ++ shown
    → new ≡ old ++ encode_utf8_all (shown_source bytes)
source_is old new bytes text drawn shown utf8 text_is drawn_is shown_is new_is =
    let read : chars drawn ≡ map pictured (chars text) = ap chars drawn_is ∙ chars-encodes (map pictured (chars text)) (pictured_scalars (chars text) (scalars-chars text utf8)) in
    new_is ∙ ap (λ (bs : List ℕ). old ++ bs) (shown_is ∙ ap (λ (cs : List ℕ). encode_utf8_all (steady_text cs)) (read ∙ ap (λ (bs : List ℕ). map pictured (chars bs)) text_is))
