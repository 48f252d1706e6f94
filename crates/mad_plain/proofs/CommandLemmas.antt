-- What is taken for a command is one.
use Rattle.std.proofs.Common.{◌≡◌, ℕ, suc, ◌+◌, ◌<◌, Bool, true, false, cond, ◌&&◌, ◌||◌, not, eqb, ◌⊎◌, inl, inr, List, [], ◌∷◌, ◌++◌, length, take, refl, ap, ◌∙◌, arith}
use Rattle.std.specs.Prelude.{nat_lt, slice_index}
use Rattle.std.specs.Char.{is_control}
use Rattle.std.specs.List.{list_all}
use Rattle.std.proofs.lemmas.Bool.Decides.{nat_tests}
use Rattle.std.proofs.lemmas.Bool.{and_from, eqb-true}
use Rattle.mad_plain.specs.Commands.{is_parameter, is_intermediate, is_final, opens_string, ends_escape, sequence_from, string_from, escape_from, command_len}
use Rattle.mad_plain.specs.Laws.{IsCommand}

-- ---- what is left of a control sequence, behind its parameters or among them: n characters

record MiddleRest (n : ℕ) (cs : List ℕ) : Type 0 where
  intermediates : List ℕ
  final : ℕ
  are : list_all is_intermediate intermediates ≡ true
  ends : is_final final ≡ true
  is : take n cs ≡ intermediates ++ final ∷ []

middle_by : (at c : ℕ) (cs : List ℕ) (p i f : Bool) → is_intermediate c ≡ i → is_final c ≡ f
    → (0 < sequence_from true (at + 1) cs → (n : ℕ) × (sequence_from true (at + 1) cs ≡ at + 1 + n) × MiddleRest n cs)
    → 0 < cond (p && false) (sequence_from false (at + 1) cs) (cond i (sequence_from true (at + 1) cs) (cond f (at + 1) 0))
    → (n : ℕ) × (cond (p && false) (sequence_from false (at + 1) cs) (cond i (sequence_from true (at + 1) cs) (cond f (at + 1) 0)) ≡ at + n) × MiddleRest n (c ∷ cs)
middle_by at c cs true true f e k later h =
    let r = later h in
    (suc r.0, r.1 ∙ omega arith, record { intermediates = c ∷ r.2.intermediates; final = r.2.final; are = and_from (is_intermediate c) (list_all is_intermediate r.2.intermediates) e r.2.are; ends = r.2.ends; is = ap (λ (l : List ℕ). c ∷ l) r.2.is })
middle_by at c cs false true f e k later h =
    let r = later h in
    (suc r.0, r.1 ∙ omega arith, record { intermediates = c ∷ r.2.intermediates; final = r.2.final; are = and_from (is_intermediate c) (list_all is_intermediate r.2.intermediates) e r.2.are; ends = r.2.ends; is = ap (λ (l : List ℕ). c ∷ l) r.2.is })
middle_by at c cs true false true e k later h = (1, refl, record { intermediates = []; final = c; are = refl; ends = k; is = refl })
middle_by at c cs false false true e k later h = (1, refl, record { intermediates = []; final = c; are = refl; ends = k; is = refl })
middle_by at c cs true false false e k later h = absurd (omega (arith, h))
middle_by at c cs false false false e k later h = absurd (omega (arith, h))

middle_rest : (at : ℕ) (cs : List ℕ) → 0 < sequence_from true at cs → (n : ℕ) × (sequence_from true at cs ≡ at + n) × MiddleRest n cs
middle_rest at [] h = absurd (omega (arith, h))
middle_rest at (c ∷ cs) h = middle_by at c cs (is_parameter c) (is_intermediate c) (is_final c) refl refl (λ k. middle_rest (at + 1) cs k) h

record SequenceRest (n : ℕ) (cs : List ℕ) : Type 0 where
  parameters : List ℕ
  intermediates : List ℕ
  final : ℕ
  are_parameters : list_all is_parameter parameters ≡ true
  are_intermediates : list_all is_intermediate intermediates ≡ true
  ends : is_final final ≡ true
  is : take n cs ≡ parameters ++ (intermediates ++ final ∷ [])

sequence_by : (at c : ℕ) (cs : List ℕ) (p i f : Bool) → is_parameter c ≡ p → is_intermediate c ≡ i → is_final c ≡ f
    → (0 < sequence_from false (at + 1) cs → (n : ℕ) × (sequence_from false (at + 1) cs ≡ at + 1 + n) × SequenceRest n cs)
    → 0 < cond (p && true) (sequence_from false (at + 1) cs) (cond i (sequence_from true (at + 1) cs) (cond f (at + 1) 0))
    → (n : ℕ) × (cond (p && true) (sequence_from false (at + 1) cs) (cond i (sequence_from true (at + 1) cs) (cond f (at + 1) 0)) ≡ at + n) × SequenceRest n (c ∷ cs)
sequence_by at c cs true i f q e k later h =
    let r = later h in (
      suc r.0,
      r.1 ∙ omega arith,
      record {
        parameters = c ∷ r.2.parameters;
        intermediates = r.2.intermediates;
        final = r.2.final;
        are_parameters = and_from (is_parameter c) (list_all is_parameter r.2.parameters) q r.2.are_parameters;
        are_intermediates = r.2.are_intermediates;
        ends = r.2.ends;
        is = ap (λ (l : List ℕ). c ∷ l) r.2.is;
      },
    )
sequence_by at c cs false true f q e k later h =
    let r = middle_rest (at + 1) cs h in (
      suc r.0,
      r.1 ∙ omega arith,
      record {
        parameters = [];
        intermediates = c ∷ r.2.intermediates;
        final = r.2.final;
        are_parameters = refl;
        are_intermediates = and_from (is_intermediate c) (list_all is_intermediate r.2.intermediates) e r.2.are;
        ends = r.2.ends;
        is = ap (λ (l : List ℕ). c ∷ l) r.2.is;
      },
    )
sequence_by at c cs false false true q e k later h = (1, refl, record { parameters = []; intermediates = []; final = c; are_parameters = refl; are_intermediates = refl; ends = k; is = refl })
sequence_by at c cs false false false q e k later h = absurd (omega (arith, h))

sequence_rest : (at : ℕ) (cs : List ℕ) → 0 < sequence_from false at cs → (n : ℕ) × (sequence_from false at cs ≡ at + n) × SequenceRest n cs
sequence_rest at [] h = absurd (omega (arith, h))
sequence_rest at (c ∷ cs) h = sequence_by at c cs (is_parameter c) (is_intermediate c) (is_final c) refl refl refl (λ k. sequence_rest (at + 1) cs k) h

-- ---- of a string

record StringRest (n : ℕ) (cs : List ℕ) : Type 0 where
  text : List ℕ
  end : List ℕ
  solid : list_all (λ c. not (is_control c)) text ≡ true
  ends : (end ≡ 7 ∷ []) ⊎ (end ≡ 27 ∷ 92 ∷ [])
  is : take n cs ≡ text ++ end

second_is : (cs : List ℕ) (d : ℕ) → slice_index cs 0 ≡ d → 0 < d → take 1 cs ≡ d ∷ []
second_is [] d e h = absurd (omega (arith, e, h))
second_is (b ∷ bs) d e h = ap (λ (x : ℕ). x ∷ []) e

string_by : (at c : ℕ) (cs : List ℕ) (bel esc st control : Bool) → eqb c 7 ≡ bel → eqb c 27 ≡ esc → eqb (slice_index cs 0) 92 ≡ st → is_control c ≡ control
    → (0 < string_from (at + 1) cs → (n : ℕ) × (string_from (at + 1) cs ≡ at + 1 + n) × StringRest n cs)
    → 0 < cond bel (at + 1) (cond esc (cond st (at + 2) 0) (cond control 0 (string_from (at + 1) cs)))
    → (n : ℕ) × (cond bel (at + 1) (cond esc (cond st (at + 2) 0) (cond control 0 (string_from (at + 1) cs))) ≡ at + n) × StringRest n (c ∷ cs)
string_by at c cs true esc st control b e s k later h =
    (1, refl, record { text = []; end = 7 ∷ []; solid = refl; ends = inl refl; is = ap (λ (x : ℕ). x ∷ []) (eqb-true c 7 b) })
string_by at c cs false true true control b e s k later h =
    (2, refl, record { text = []; end = 27 ∷ 92 ∷ []; solid = refl; ends = inr refl; is = ap (λ (x : ℕ). x ∷ take 1 cs) (eqb-true c 27 e) ∙ ap (λ (l : List ℕ). 27 ∷ l) (second_is cs 92 (eqb-true (slice_index cs 0) 92 s) (omega arith)) })
string_by at c cs false true false control b e s k later h = absurd (omega (arith, h))
string_by at c cs false false st true b e s k later h = absurd (omega (arith, h))
string_by at c cs false false st false b e s k later h =
    let r = later h in
    (suc r.0, r.1 ∙ omega arith, record { text = c ∷ r.2.text; end = r.2.end; solid = and_from (not (is_control c)) (list_all (λ d. not (is_control d)) r.2.text) (ap not k) r.2.solid; ends = r.2.ends; is = ap (λ (l : List ℕ). c ∷ l) r.2.is })

string_rest : (at : ℕ) (cs : List ℕ) → 0 < string_from at cs → (n : ℕ) × (string_from at cs ≡ at + n) × StringRest n cs
string_rest at [] h = absurd (omega (arith, h))
string_rest at (c ∷ cs) h = string_by at c cs (eqb c 7) (eqb c 27) (eqb (slice_index cs 0) 92) (is_control c) refl refl refl refl (λ k. string_rest (at + 1) cs k) h

-- ---- of another escape, with intermediates before it or none

record EscapeRest (middle : Bool) (n : ℕ) (cs : List ℕ) : Type 0 where
  intermediates : List ℕ
  final : ℕ
  are : list_all is_intermediate intermediates ≡ true
  ends : ends_escape (middle || nat_lt 0 (length intermediates)) final ≡ true
  is : take n cs ≡ intermediates ++ final ∷ []

more_ends : (middle : Bool) (c final : ℕ) (cs : List ℕ) → ends_escape true final ≡ true → ends_escape (middle || nat_lt 0 (length (c ∷ cs))) final ≡ true
more_ends true c final cs h = h
more_ends false c final cs h =
    let some : nat_lt 0 (length (c ∷ cs)) ≡ true = grind (arith, nat_tests) in
    ap (λ b. ends_escape b final) some ∙ h

or_false : (b : Bool) → (b || false) ≡ b
or_false true = refl
or_false false = refl

escape_by : (middle : Bool) (at c : ℕ) (cs : List ℕ) (i f : Bool) → is_intermediate c ≡ i → ends_escape middle c ≡ f
    → (0 < escape_from true (at + 1) cs → (n : ℕ) × (escape_from true (at + 1) cs ≡ at + 1 + n) × EscapeRest true n cs)
    → 0 < cond i (escape_from true (at + 1) cs) (cond f (at + 1) 0)
    → (n : ℕ) × (cond i (escape_from true (at + 1) cs) (cond f (at + 1) 0) ≡ at + n) × EscapeRest middle n (c ∷ cs)
escape_by middle at c cs true f e k later h =
    let r = later h in (
      suc r.0,
      r.1 ∙ omega arith,
      record {
        intermediates = c ∷ r.2.intermediates;
        final = r.2.final;
        are = and_from (is_intermediate c) (list_all is_intermediate r.2.intermediates) e r.2.are;
        ends = more_ends middle c r.2.final r.2.intermediates r.2.ends;
        is = ap (λ (l : List ℕ). c ∷ l) r.2.is;
      },
    )
escape_by middle at c cs false true e k later h = (1, refl, record { intermediates = []; final = c; are = refl; ends = ap (λ b. ends_escape b c) (or_false middle) ∙ k; is = refl })
escape_by middle at c cs false false e k later h = absurd (omega (arith, h))

escape_rest : (middle : Bool) (at : ℕ) (cs : List ℕ) → 0 < escape_from middle at cs → (n : ℕ) × (escape_from middle at cs ≡ at + n) × EscapeRest middle n cs
escape_rest middle at [] h = absurd (omega (arith, h))
escape_rest middle at (c ∷ cs) h = escape_by middle at c cs (is_intermediate c) (ends_escape middle c) refl refl (λ k. escape_rest true (at + 1) cs k) h

-- ---- a command

command_by : (c : ℕ) (cs : List ℕ) (bracket opens : Bool) → eqb c 91 ≡ bracket → opens_string c ≡ opens
    → 0 < cond bracket (sequence_from false 1 cs) (cond opens (string_from 1 cs) (escape_from false 0 (c ∷ cs)))
    → IsCommand (take (cond bracket (sequence_from false 1 cs) (cond opens (string_from 1 cs) (escape_from false 0 (c ∷ cs)))) (c ∷ cs))
command_by c cs true opens b o h =
    let r = sequence_rest 1 cs h in
    let len : sequence_from false 1 cs ≡ suc r.0 = r.1 ∙ omega arith in
    inl (record {
      parameters = r.2.parameters;
      intermediates = r.2.intermediates;
      final = r.2.final;
      are_parameters = r.2.are_parameters;
      are_intermediates = r.2.are_intermediates;
      ends = r.2.ends;
      is = ap (λ k. take k (c ∷ cs)) len ∙ ap (λ (x : ℕ). x ∷ take r.0 cs) (eqb-true c 91 b) ∙ ap (λ (l : List ℕ). 91 ∷ l) r.2.is;
    })
command_by c cs false true b o h =
    let r = string_rest 1 cs h in
    let len : string_from 1 cs ≡ suc r.0 = r.1 ∙ omega arith in
    inr (inl (record { opener = c; text = r.2.text; end = r.2.end; opens = o; solid = r.2.solid; ends = r.2.ends; is = ap (λ k. take k (c ∷ cs)) len ∙ ap (λ (l : List ℕ). c ∷ l) r.2.is }))
command_by c cs false false b o h =
    let r = escape_rest false 0 (c ∷ cs) h in
    let len : escape_from false 0 (c ∷ cs) ≡ r.0 = r.1 ∙ omega arith in
    inr (inr (record { intermediates = r.2.intermediates; final = r.2.final; are_intermediates = r.2.are; ends = r.2.ends; is = ap (λ k. take k (c ∷ cs)) len ∙ r.2.is }))

-- what is taken for a command is one
pub is_command : (cs : List ℕ) → 0 < command_len cs → IsCommand (take (command_len cs) cs)
is_command [] h = absurd (omega (arith, h))
is_command (c ∷ cs) h = command_by c cs (eqb c 91) (opens_string c) refl refl h
