-- A command is taken for one.
use Rattle.std.proofs.Common.{◌≡◌, ℕ, ◌+◌, Bool, true, false, cond, ◌&&◌, not, eqb, ◌⊎◌, inl, inr, List, [], ◌∷◌, ◌++◌, length, refl, ap, sym, ◌∙◌, arith, append_assoc, length-append}
use Rattle.std.specs.Prelude.{nat_lt, slice_index}
use Rattle.std.specs.Char.{is_control}
use Rattle.std.specs.List.{list_all}
use Rattle.std.proofs.lemmas.Bool.Decides.{nat_tests}
use Rattle.mad_plain.specs.Commands.{is_parameter, is_intermediate, is_final, opens_string, ends_escape, sequence_from, string_from, escape_from, command_len}
use Rattle.mad_plain.specs.Laws.{IsSequence, IsString, IsEscape, IsCommand}
use Rattle.mad_plain.proofs.PenLemmas.{both_true}

-- a parameter is no intermediate, and so on
between : (c : ℕ) → is_intermediate c ≡ true → is_parameter c ≡ false
between c h = grind (arith, nat_tests, h)

final_parameter : (c : ℕ) → is_final c ≡ true → is_parameter c ≡ false
final_parameter c h = grind (arith, nat_tests, h)

final_intermediate : (c : ℕ) → is_final c ≡ true → is_intermediate c ≡ false
final_intermediate c h = grind (arith, nat_tests, h)

sequence_step : (b : Bool) (at c : ℕ) (cs : List ℕ) (p i f : Bool) → is_parameter c ≡ p → is_intermediate c ≡ i → is_final c ≡ f
    → sequence_from b at (c ∷ cs) ≡ cond (p && not b) (sequence_from false (at + 1) cs) (cond i (sequence_from true (at + 1) cs) (cond f (at + 1) 0))
sequence_step b at c cs p i f e k h =
    ap (λ x. cond (x && not b) (sequence_from false (at + 1) cs) (cond (is_intermediate c) (sequence_from true (at + 1) cs) (cond (is_final c) (at + 1) 0))) e
    ∙ ap (λ x. cond (p && not b) (sequence_from false (at + 1) cs) (cond x (sequence_from true (at + 1) cs) (cond (is_final c) (at + 1) 0))) k
    ∙ ap (λ x. cond (p && not b) (sequence_from false (at + 1) cs) (cond i (sequence_from true (at + 1) cs) (cond x (at + 1) 0))) h

ended : (b : Bool) (at f : ℕ) (rest : List ℕ) → is_final f ≡ true → sequence_from b at (f ∷ rest) ≡ at + 1
ended b at f rest h = sequence_step b at f rest false false true (final_parameter f h) (final_intermediate f h) h

middles : (b : Bool) (at : ℕ) (is : List ℕ) (f : ℕ) (rest : List ℕ) → list_all is_intermediate is ≡ true → is_final f ≡ true → sequence_from b at (is ++ f ∷ rest) ≡ at + length is + 1
middles b at [] f rest h k = ended b at f rest k ∙ omega arith
middles b at (i ∷ is) f rest h k =
    let t = both_true (is_intermediate i) (list_all is_intermediate is) h in
    sequence_step b at i (is ++ f ∷ rest) false true (is_final i) (between i t.0) t.0 refl ∙ middles true (at + 1) is f rest t.1 k ∙ omega arith

parameters : (at : ℕ) (ps tail : List ℕ) → list_all is_parameter ps ≡ true → sequence_from false at (ps ++ tail) ≡ sequence_from false (at + length ps) tail
parameters at [] tail h = ap (λ n. sequence_from false n tail) (omega arith)
parameters at (p ∷ ps) tail h =
    let t = both_true (is_parameter p) (list_all is_parameter ps) h in
    let more : at + 1 + length ps ≡ at + length (p ∷ ps) = omega arith in
    sequence_step false at p (ps ++ tail) true (is_intermediate p) (is_final p) t.0 refl refl ∙ parameters (at + 1) ps tail t.1 ∙ ap (λ n. sequence_from false n tail) more

sequence_taken : (cs rest : List ℕ) → IsSequence cs → command_len (cs ++ rest) ≡ length cs
sequence_taken cs rest s =
    let inner : (s.parameters ++ (s.intermediates ++ s.final ∷ [])) ++ rest ≡ s.parameters ++ (s.intermediates ++ s.final ∷ rest) = append_assoc s.parameters (s.intermediates ++ s.final ∷ []) rest ∙ ap (λ (l : List ℕ). s.parameters ++ l) (append_assoc s.intermediates (s.final ∷ []) rest) in
    let len : 1 + length s.parameters + length s.intermediates + 1 ≡ length cs = omega (arith, ap length s.is, length-append s.parameters (s.intermediates ++ s.final ∷ []), length-append s.intermediates (s.final ∷ [])) in
    ap (λ (l : List ℕ). command_len (l ++ rest)) s.is
    ∙ ap (sequence_from false 1) inner
    ∙ parameters 1 s.parameters (s.intermediates ++ s.final ∷ rest) s.are_parameters
    ∙ middles false (1 + length s.parameters) s.intermediates s.final rest s.are_intermediates s.ends
    ∙ len

-- ---- strings

string_step : (at c : ℕ) (cs : List ℕ) → not (is_control c) ≡ true → string_from at (c ∷ cs) ≡ string_from (at + 1) cs
string_step at c cs h =
    let bel : eqb c 7 ≡ false = grind (arith, nat_tests, h) in
    let esc : eqb c 27 ≡ false = grind (arith, nat_tests, h) in
    let solid : is_control c ≡ false = grind (arith, nat_tests, h) in
    ap (λ x. cond x (at + 1) (cond (eqb c 27) (cond (eqb (slice_index cs 0) 92) (at + 2) 0) (cond (is_control c) 0 (string_from (at + 1) cs)))) bel
    ∙ ap (λ x. cond x (cond (eqb (slice_index cs 0) 92) (at + 2) 0) (cond (is_control c) 0 (string_from (at + 1) cs))) esc
    ∙ ap (λ x. cond x 0 (string_from (at + 1) cs)) solid

string_end : (at : ℕ) (end rest : List ℕ) → (end ≡ 7 ∷ []) ⊎ (end ≡ 27 ∷ 92 ∷ []) → string_from at (end ++ rest) ≡ at + length end
string_end at end rest (inl e) = ap (λ (l : List ℕ). string_from at (l ++ rest)) e ∙ omega (arith, ap length e)
string_end at end rest (inr e) = ap (λ (l : List ℕ). string_from at (l ++ rest)) e ∙ omega (arith, ap length e)

string_all : (at : ℕ) (text end rest : List ℕ) → list_all (λ c. not (is_control c)) text ≡ true → (end ≡ 7 ∷ []) ⊎ (end ≡ 27 ∷ 92 ∷ []) → string_from at ((text ++ end) ++ rest) ≡ at + length text + length end
string_all at [] end rest h e = string_end at end rest e ∙ omega arith
string_all at (c ∷ cs) end rest h e =
    let t = both_true (not (is_control c)) (list_all (λ d. not (is_control d)) cs) h in
    string_step at c ((cs ++ end) ++ rest) t.0 ∙ string_all (at + 1) cs end rest t.1 e ∙ omega arith

by_first : (c : ℕ) (cs : List ℕ) (bracket opens : Bool) → eqb c 91 ≡ bracket → opens_string c ≡ opens → command_len (c ∷ cs) ≡ cond bracket (sequence_from false 1 cs) (cond opens (string_from 1 cs) (escape_from false 0 (c ∷ cs)))
by_first c cs bracket opens e h =
    ap (λ x. cond x (sequence_from false 1 cs) (cond (opens_string c) (string_from 1 cs) (escape_from false 0 (c ∷ cs)))) e
    ∙ ap (λ x. cond bracket (sequence_from false 1 cs) (cond x (string_from 1 cs) (escape_from false 0 (c ∷ cs)))) h

string_taken : (cs rest : List ℕ) → IsString cs → command_len (cs ++ rest) ≡ length cs
string_taken cs rest s =
    let other : eqb s.opener 91 ≡ false = grind (arith, nat_tests, s.opens) in
    let len : 1 + length s.text + length s.end ≡ length cs = omega (arith, ap length s.is, length-append s.text s.end) in
    ap (λ (l : List ℕ). command_len (l ++ rest)) s.is
    ∙ by_first s.opener ((s.text ++ s.end) ++ rest) false true other s.opens
    ∙ string_all 1 s.text s.end rest s.solid s.ends
    ∙ len

-- ---- other escapes

escape_step : (b : Bool) (at c : ℕ) (cs : List ℕ) (i f : Bool) → is_intermediate c ≡ i → ends_escape b c ≡ f → escape_from b at (c ∷ cs) ≡ cond i (escape_from true (at + 1) cs) (cond f (at + 1) 0)
escape_step b at c cs i f e h =
    ap (λ x. cond x (escape_from true (at + 1) cs) (cond (ends_escape b c) (at + 1) 0)) e ∙ ap (λ x. cond i (escape_from true (at + 1) cs) (cond x (at + 1) 0)) h

ends_no_intermediate : (b : Bool) (c : ℕ) → ends_escape b c ≡ true → is_intermediate c ≡ false
ends_no_intermediate true c h = grind (arith, nat_tests, h)
ends_no_intermediate false c h = grind (arith, nat_tests, h)

escape_all : (at : ℕ) (is : List ℕ) (f : ℕ) (rest : List ℕ) → list_all is_intermediate is ≡ true → ends_escape true f ≡ true → escape_from true at ((is ++ f ∷ []) ++ rest) ≡ at + length is + 1
escape_all at [] f rest h k = escape_step true at f rest false true (ends_no_intermediate true f k) k ∙ omega arith
escape_all at (i ∷ is) f rest h k =
    let t = both_true (is_intermediate i) (list_all is_intermediate is) h in
    escape_step true at i ((is ++ f ∷ []) ++ rest) true (ends_escape true i) t.0 refl ∙ escape_all (at + 1) is f rest t.1 k ∙ omega arith

escape_parts : (is : List ℕ) (f : ℕ) (rest : List ℕ) → list_all is_intermediate is ≡ true → ends_escape (nat_lt 0 (length is)) f ≡ true → command_len ((is ++ f ∷ []) ++ rest) ≡ length is + 1
escape_parts [] f rest h k =
    let bracket : eqb f 91 ≡ false = grind (arith, nat_tests, k) in
    let opens : opens_string f ≡ false = grind (arith, nat_tests, k) in
    by_first f rest false false bracket opens ∙ escape_step false 0 f rest false true (ends_no_intermediate false f k) k ∙ omega arith
escape_parts (i ∷ is) f rest h k =
    let t = both_true (is_intermediate i) (list_all is_intermediate is) h in
    let bracket : eqb i 91 ≡ false = grind (arith, nat_tests, t.0) in
    let opens : opens_string i ≡ false = grind (arith, nat_tests, t.0) in
    let some : nat_lt 0 (length (i ∷ is)) ≡ true = grind (arith, nat_tests) in
    by_first i ((is ++ f ∷ []) ++ rest) false false bracket opens
    ∙ escape_step false 0 i ((is ++ f ∷ []) ++ rest) true (ends_escape false i) t.0 refl
    ∙ escape_all (0 + 1) is f rest t.1 (ap (λ b. ends_escape b f) (sym some) ∙ k)
    ∙ omega arith

escape_taken : (cs rest : List ℕ) → IsEscape cs → command_len (cs ++ rest) ≡ length cs
escape_taken cs rest s =
    ap (λ (l : List ℕ). command_len (l ++ rest)) s.is
    ∙ escape_parts s.intermediates s.final rest s.are_intermediates s.ends
    ∙ omega (arith, ap length s.is, length-append s.intermediates (s.final ∷ []))

-- a command is taken for one, whatever is behind it
pub all_taken : (cs rest : List ℕ) → IsCommand cs → command_len (cs ++ rest) ≡ length cs
all_taken cs rest (inl s) = sequence_taken cs rest s
all_taken cs rest (inr (inl s)) = string_taken cs rest s
all_taken cs rest (inr (inr s)) = escape_taken cs rest s
