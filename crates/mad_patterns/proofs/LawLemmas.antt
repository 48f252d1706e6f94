-- What is found of a text without signs.
use Rattle.std.proofs.Common.{◌≡◌, ℕ, zero, suc, ◌+◌, ◌<◌, ◌≤◌, ◌==◌, nat_eq, Bool, true, false, not, cond, List, [], ◌∷◌, map, drop, length, Option, Some, None, IsSome, IsCharBoundary, refl, ap, sym, ◌∙◌, subst, arith}
use Rattle.std.specs.Prelude.{encode_utf8_all, if◌then◌else◌}
use Rattle.std.specs.List.{filter, starts_with}
use Rattle.std.proofs.lemmas.Bool.Decides.{nat_tests}
use Rattle.std.proofs.lemmas.List.{drop_all}
use Rattle.std.proofs.lemmas.Str.{chars-nil, encodes-chars}
use Rattle.regex.specs.Patterns.{Re, Match, find_str, literal, span}
use Rattle.regex.proofs.ForCallers.{alike_as_written, escaped_is_read_as, find_str_complete, find_str_sound, spans_alike}
use Rattle.regex.proofs.OnLiterals as kit
use Rattle.regex_hir.specs.Find.{find_after, matches_from}
use Rattle.regex_hir.specs.Text.{has_bytes_at, is_some_and}
use Rattle.mad_patterns.specs.Capitals.{capital_in, has_capital}
use Rattle.mad_patterns.specs.Readings.{options}
use Rattle.mad_patterns.specs.SearchLaws.{ArePlacesOf, StandsAt, TextIsFoundAsItStands}
use Rattle.mad_patterns.specs.Searches.{has_bytes, hits}

-- ---- the matches of bytes

-- a match is where they stand, and they stand nowhere before
stands : (word text : List ℕ) (from : ℕ) (m : Match) → find_str (literal word) text from ≡ Some m
    → (from ≤ m.start) × StandsAt word text m.start × (m.trace.end ≡ m.start + length word) × ((at : ℕ) → from ≤ at → at < m.start → IsCharBoundary text at → ¬ StandsAt word text at)
unfolding has_bytes_at
stands word text from m e =
    let it = find_str_sound (literal word) text from m e in (it.0, it.1.0, it.1.1, λ at low high cut here. it.2 at (at + length word) low high cut (here, refl))

-- without a match they stand nowhere
none_stands : (word text : List ℕ) (from : ℕ) → find_str (literal word) text from ≡ None → (at : ℕ) → from ≤ at → IsCharBoundary text at → ¬ StandsAt word text at
unfolding has_bytes_at
none_stands word text from e at low cut here =
    let never : false ≡ true = subst (λ (o : Option Match). IsSome o) e (find_str_complete (literal word) text from at (at + length word) low cut (here, refl)) in
    absurd (cc)

past : (word : List ℕ) → 0 < length word → starts_with nat_eq [] word ≡ false
past [] some = absurd (omega (arith, some))
past (c ∷ cs) some = refl

-- none of them is empty, so the next one is from the end of the one before
after : (word text : List ℕ) (i : ℕ) → 0 < length word → find_after (find_str (literal word) text) i ≡ find_str (literal word) text i
after word text i some =
    ap (λ (b : Bool). if b then find_str (literal word) text (i + 1) else find_str (literal word) text i) (later (find_str (literal word) text i) refl)
  where
    later : (o : Option Match) → find_str (literal word) text i ≡ o → is_some_and o (λ (m : Match). m.trace.end == i) ≡ false
    later None e = refl
    later (Some m) e =
        let it = stands word text i m e in
        let low = it.0 in
        let long = it.2 in
        let more : i < m.trace.end = omega (arith, low, long, some) in
        grind (arith, nat_tests, more)

-- those from a place on are all places of the word
places_from : (word text : List ℕ) → 0 < length word → (n from : ℕ) (o : Option Match) → find_str (literal word) text from ≡ o → length text + 1 ≤ n + from
    → ArePlacesOf word text from (filter has_bytes (map span (matches_from (find_str (literal word) text) n o)))
unfolding matches_from
places_from word text some zero from None e enough = none_stands word text from e
places_from word text some (suc n) from None e enough = none_stands word text from e
places_from word text some zero from (Some m) e enough =
    let it = stands word text from m e in
    let low = it.0 in
    let none : drop m.start text ≡ [] = drop_all m.start text (omega (arith, enough, low)) in
    let never : true ≡ false = sym it.1 ∙ (ap (λ (l : List ℕ). starts_with nat_eq l word) none ∙ past word some) in
    absurd (cc)
places_from word text some (suc n) from (Some m) e enough =
    let it = stands word text from m e in
    let low = it.0 in
    let wide = it.2 in
    let f : ℕ → Option Match = find_str (literal word) text in
    let tail : List (ℕ × ℕ) = filter has_bytes (map span (matches_from f n (find_after f m.trace.end))) in
    let more : m.start < m.trace.end = omega (arith, wide, some) in
    let long : has_bytes (span m) ≡ true = grind (arith, nat_tests, more) in
    let rest : ArePlacesOf word text m.trace.end tail =
    subst (λ (o : Option Match). ArePlacesOf word text m.trace.end (filter has_bytes (map span (matches_from f n o)))) (sym (after word text m.trace.end some))
    (places_from word text some n m.trace.end (f m.trace.end) refl (omega (arith, low, wide, some, enough))) in
    subst (λ (l : List (ℕ × ℕ)). ArePlacesOf word text from l) (sym (ap (λ (b : Bool). cond b (span m ∷ tail) tail) long)) (it.0, it.1, it.2, it.3, rest)

-- a text with a capital isn't empty
some_bytes : (word : List ℕ) → has_capital word ≡ true → 0 < length word
some_bytes [] h =
    let never : false ≡ true = sym (ap (capital_in false) chars-nil) ∙ h in
    absurd (cc)
some_bytes (c ∷ cs) h = omega arith

pub text_is_found_as_it_stands : TextIsFoundAsItStands
text_is_found_as_it_stands word text sought utf8 plain capital bytes read =
    let exact : (options word).flags.case_insensitive ≡ false = ap not capital in
    let written : kit.IsReadAs (options word) word (literal word) =
    subst (λ (w : List ℕ). kit.IsReadAs (options word) w (literal word)) (ap encode_utf8_all plain ∙ encodes-chars word utf8) (escaped_is_read_as (options word) exact refl word utf8) in
    let alike = alike_as_written read.regex (options word) word read.source read.under read.read (literal word) written in
    let same : hits sought text ≡ hits (literal word) text = subst (λ (re : Re). hits re text ≡ hits (literal word) text) read.pattern (ap (filter has_bytes) (spans_alike alike text bytes true)) in
    let all : ArePlacesOf word text 0 (hits (literal word) text) = places_from word text (some_bytes word capital) (length text + 1) 0 (find_str (literal word) text 0) refl (omega arith) in
    subst (λ (l : List (ℕ × ℕ)). ArePlacesOf word text 0 l) (sym same) all
