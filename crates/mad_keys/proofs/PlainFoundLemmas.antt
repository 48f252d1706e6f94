-- An event that any bytes are has plainest bytes.
use Rattle.std.proofs.Common.{◌≡◌, ◌≢◌, ◌⊎◌, inl, inr, ℕ, ◌+◌, ◌-◌, ◌*◌, ◌/◌, ◌%◌, ◌^◌, ◌<◌, ◌≤◌, ltb, leb, eqb, List, [], ◌∷◌, Option, Some, None, refl, ap, ◌∙◌, sym, subst, arith}
use Rattle.std.specs.Prelude.{◌&&◌, ◌||◌, option_and_then}
use Rattle.std.specs.Char.{IsScalar, is_ascii_control}
use Rattle.std.proofs.Math.Utf8.{scalar}
use Rattle.std.proofs.lemmas.Bool.{cond-true, cond-false, cond_both, and_parts, or_parts, eqb-false, ne_eqb, leb-true, ltb-true, ltb-false, lt-ltb, or_from, and_from}
use Rattle.std.proofs.lemmas.Bool.Decides.{nat_tests}
use Rattle.std.proofs.lemmas.Option.{none-some, same_Some}
use Rattle.mad_term.specs.declared.keys.KeyCode.{KeyCode}
use Rattle.mad_term.specs.declared.keys.KeyCode.TheVariants.{Char, Enter, Backspace, Tab, Null, F}
use Rattle.mad_term.specs.declared.mouse.MouseEvent.{MouseEvent}
use Rattle.mad_term.specs.declared.events.Event.{Event}
use Rattle.mad_term.specs.declared.events.Event.TheVariants.{Key, Mouse}
use Rattle.mad_keys.specs.Keys.{held, key_with, char_key, letter_key, number_key, console_key}
use Rattle.mad_keys.specs.Sequences.{plain_key, held_key, size_event, letter_event, pair_event, sequence_event, mouse_kind, cell_event, mouse_event}
use Rattle.mad_keys.specs.EventBytes.{IsEventBytes}
use Rattle.mad_keys.specs.PlainBytes.{number_of, control_char, char_bytes, function_bytes, key_bytes, mouse_bytes, plain_bytes}
use Rattle.mad_keys.proofs.NumberLemmas.{cond_then}
use Rattle.mad_keys.proofs.EventLemmas.{split, mapped}
use Rattle.mad_keys.specs.Laws.{IsWritten}
use Rattle.mad_keys.proofs.HeldLemmas.{number_of-held}
use Rattle.mad_keys.proofs.PlainLemmas.{event_plain}
use Rattle.mad_keys.proofs.CharLemmas.{event_alone}

-- there is something
abbrev Has : {A : Type 0} → Option A → Type 0
Has {A} o = (x : A) × (o ≡ Some x)

abbrev HasPlain : Event → Type 0
HasPlain e = Has (plain_bytes e)

-- a key that has bytes with the modifiers of this number
key_found : (number : ℕ) (code : KeyCode) → number < 8 → Has (key_bytes number code) → HasPlain (Key (key_with number code))
key_found number code few h = (h.0, ap (option_and_then (λ n. key_bytes n code)) (number_of-held number few) ∙ h.1)

-- ---- keys of letters and numbers

function_found : (number n : ℕ) → 1 ≤ n → n ≤ 12 → Has (function_bytes number n)
function_found number n low high =
    cond_both (leb 1 n && leb n 4) _ _ (λ o. Has o) (λ t. (_, refl))
    (λ t. cond_both (eqb n 5) _ _ (λ o. Has o) (λ u. (_, refl))
    (λ u. cond_both (leb 6 n && leb n 10) _ _ (λ o. Has o) (λ v. (_, refl))
    (λ v. (_, cond-true (leb 11 n && leb n 12) _ None (grind (arith, nat_tests, t, u, v))))))

named : (number : ℕ) (code other : KeyCode) → Some other ≡ Some code → Has (key_bytes number other) → Has (key_bytes number code)
named number code other e h = subst (λ (k : KeyCode). Has (key_bytes number k)) (same_Some _ _ e) h

function_code : (number n : ℕ) (code : KeyCode) → 1 ≤ n → n ≤ 12 → Some (F n) ≡ Some code → Has (key_bytes number code)
function_code number n code low high e = named number code (F n) e (function_found number n low high)

letter_found : (number letter : ℕ) (code : KeyCode) → letter_key letter ≡ Some code → Has (key_bytes number code)
letter_found number letter code h =
    split (eqb letter 65) _ _ code (λ t x. named number code _ x (_, refl))
    (λ t h. split (eqb letter 66) _ _ code (λ t x. named number code _ x (_, refl))
    (λ t h. split (eqb letter 67) _ _ code (λ t x. named number code _ x (_, refl))
    (λ t h. split (eqb letter 68) _ _ code (λ t x. named number code _ x (_, refl))
    (λ t h. split (eqb letter 70) _ _ code (λ t x. named number code _ x (_, refl))
    (λ t h. split (eqb letter 72) _ _ code (λ t x. named number code _ x (_, refl))
    (λ t h. let k = cond_then (leb 80 letter && leb letter 83) _ code h in
    let b = and_parts (leb 80 letter) (leb letter 83) k.0 in
    let low : 80 ≤ letter = leb-true 80 letter b.0 in
    let high : letter ≤ 83 = leb-true letter 83 b.1 in
    function_code number (letter - 79) code (omega arith) (omega arith) k.1)
    h) h) h) h) h) h

number_found : (number n : ℕ) (code : KeyCode) → number_key n ≡ Some code → Has (key_bytes number code)
number_found number n code h =
    split (eqb n 1 || eqb n 7) _ _ code (λ t x. named number code _ x (_, refl))
    (λ t h. split (eqb n 2) _ _ code (λ t x. named number code _ x (_, refl))
    (λ t h. split (eqb n 3) _ _ code (λ t x. named number code _ x (_, refl))
    (λ t h. split (eqb n 4 || eqb n 8) _ _ code (λ t x. named number code _ x (_, refl))
    (λ t h. split (eqb n 5) _ _ code (λ t x. named number code _ x (_, refl))
    (λ t h. split (eqb n 6) _ _ code (λ t x. named number code _ x (_, refl))
    (λ t h. split (leb 11 n && leb n 15) _ _ code
    (λ t x. let b = and_parts (leb 11 n) (leb n 15) t in function_code number (n - 10) code (omega (arith, leb-true 11 n b.0)) (omega (arith, leb-true n 15 b.1)) x)
    (λ t h. split (leb 17 n && leb n 21) _ _ code
    (λ t x. let b = and_parts (leb 17 n) (leb n 21) t in function_code number (n - 11) code (omega (arith, leb-true 17 n b.0)) (omega (arith, leb-true n 21 b.1)) x)
    (λ t h. let k = cond_then (leb 23 n && leb n 24) _ code h in
    let b = and_parts (leb 23 n) (leb n 24) k.0 in
    function_code number (n - 12) code (omega (arith, leb-true 23 n b.0)) (omega (arith, leb-true n 24 b.1)) k.1)
    h) h) h) h) h) h) h) h

console_found : (number letter : ℕ) (code : KeyCode) → console_key letter ≡ Some code → Has (key_bytes number code)
console_found number letter code h =
    let k = cond_then (leb 65 letter && leb letter 69) _ code h in
    let b = and_parts (leb 65 letter) (leb letter 69) k.0 in
    function_code number (letter - 64) code (omega (arith, leb-true 65 letter b.0)) (omega (arith, leb-true letter 69 b.1)) k.1

-- a key without modifiers, and one with them
alone_found : (o : Option KeyCode) (e : Event) → ((code : KeyCode) → o ≡ Some code → Has (key_bytes 0 code)) → plain_key o ≡ Some e → HasPlain e
alone_found o e found h =
    let m = mapped _ o e h in
    subst HasPlain m.2 (key_found 0 m.0 (omega arith) (found m.0 m.1))

held_found : (n : ℕ) (o : Option KeyCode) (e : Event) → ((number : ℕ) (code : KeyCode) → o ≡ Some code → Has (key_bytes number code)) → held_key n o ≡ Some e → HasPlain e
held_found n o e found h =
    let k = cond_then (leb 2 n && leb n 8) _ e h in
    let m = mapped _ o e k.1 in
    let few : n ≤ 8 = leb-true n 8 (and_parts (leb 2 n) (leb n 8) k.0).1 in
    let some : 2 ≤ n = leb-true 2 n (and_parts (leb 2 n) (leb n 8) k.0).0 in
    subst HasPlain m.2 (key_found (n - 1) m.0 (omega arith) (found (n - 1) m.0 m.1))

-- ---- characters

-- no modifier, or Alt with a character after which no sequence begins
abbrev IsTyped : ℕ → ℕ → Type 0
IsTyped number c = (number ≡ 0) ⊎ ((number ≡ 2) × (c ≢ 91) × (c ≢ 79))

typed_few : (number c : ℕ) → IsTyped number c → number < 4
typed_few number c (inl h) = omega arith
typed_few number c (inr h) = omega (arith, h.0)

char_found : (number c : ℕ) → IsTyped number c → Has (char_bytes number c)
char_found number c (inl h) = (_, ap (λ n. char_bytes n c) h)
char_found number c (inr h) =
    (_, ap (λ n. char_bytes n c) h.0 ∙ cond-false (eqb c 91 || eqb c 79) None _ (or_from (eqb c 91) (eqb c 79) (ne_eqb c 91 h.1) (ne_eqb c 79 h.2)))

-- a character that isn't `[` or `O`, which no modifier but Alt is held with
low_found : (number c d : ℕ) → IsTyped number c → d ≢ 91 → d ≢ 79 → Has (char_bytes number d)
low_found number c d (inl h) no_bracket no_application = char_found number d (inl h)
low_found number c d (inr h) no_bracket no_application = char_found number d (inr (h.0, no_bracket, no_application))

-- a control character
control_letter_of : (d : ℕ) → 1 ≤ d → d < 27 → d ≢ 8 → d ≢ 9 → d ≢ 10 → d ≢ 13 → control_char (d + 96) ≡ Some d
control_letter_of d low high no_backspace no_tab no_feed no_return =
    let back : (d + 96) - 96 ≡ d = omega arith in
    cond-false (eqb (d + 96) 104 || eqb (d + 96) 105 || eqb (d + 96) 106 || eqb (d + 96) 109) _ _ (grind (arith, nat_tests))
    ∙ cond-true (leb 97 (d + 96) && leb (d + 96) 122) _ _ (grind (arith, nat_tests)) ∙ ap Some back

control_sign_of : (d : ℕ) → 28 ≤ d → d < 32 → control_char (d + 64) ≡ Some d
control_sign_of d low high =
    let back : (d + 64) - 64 ≡ d = omega arith in
    cond-false (eqb (d + 64) 104 || eqb (d + 64) 105 || eqb (d + 64) 106 || eqb (d + 64) 109) _ _ (grind (arith, nat_tests))
    ∙ cond-false (leb 97 (d + 64) && leb (d + 64) 122) _ _ (grind (arith, nat_tests)) ∙ cond-true (leb 92 (d + 64) && leb (d + 64) 95) _ _ (grind (arith, nat_tests)) ∙ ap Some back

control_found : (number c d : ℕ) → IsTyped number d → control_char c ≡ Some d → Has (key_bytes (number + 4) (Char c))
control_found number c d typed h =
    let k = char_found number d typed in
    let back : (number + 4) - 4 ≡ number = omega arith in
    (k.0, cond-true (leb 4 (number + 4)) _ _ (grind (arith, nat_tests)) ∙ ap (option_and_then (λ x. char_bytes ((number + 4) - 4) x)) h ∙ ap (λ n. char_bytes n d) back ∙ k.1)

printed_found : (number c : ℕ) → IsScalar c → 32 ≤ c → c ≢ 127 → IsTyped number c → Has (key_bytes number (Char c))
printed_found number c s low no_delete typed =
    let k = char_found number c typed in
    let few : number < 4 = typed_few number c typed in
    (k.0, cond-false (leb 4 number) _ _ (grind (arith, nat_tests)) ∙ cond-false (is_ascii_control c) _ _ (grind (arith, nat_tests)) ∙ cond-true (scalar c) _ None s ∙ k.1)

some : (c : ℕ) → c ≢ 0 → 1 ≤ c
some c h = omega arith

past : (c : ℕ) → 27 ≤ c → c ≢ 27 → 28 ≤ c
past c low h = omega arith

char_key_found : (number c : ℕ) → IsScalar c → c ≢ 27 → IsTyped number c → HasPlain (Key (char_key number c))
char_key_found number c s other typed =
    let few : number < 4 = typed_few number c typed in
    let fewer : number < 8 = omega arith in
    let more : number + 4 < 8 = omega arith in
    cond_both (eqb c 0) _ _ (λ k. HasPlain (Key k)) (λ t. key_found number Null fewer (low_found number c 0 typed (λ e. omega arith) (λ e. omega arith)))
    (λ t. cond_both (eqb c 8 || eqb c 127) _ _ (λ k. HasPlain (Key k)) (λ u. key_found number Backspace fewer (low_found number c 127 typed (λ e. omega arith) (λ e. omega arith)))
    (λ u. cond_both (eqb c 9) _ _ (λ k. HasPlain (Key k)) (λ v. key_found number Tab fewer (low_found number c 9 typed (λ e. omega arith) (λ e. omega arith)))
    (λ v. cond_both (eqb c 10 || eqb c 13) _ _ (λ k. HasPlain (Key k)) (λ w. key_found number Enter fewer (low_found number c 13 typed (λ e. omega arith) (λ e. omega arith)))
    (λ w. cond_both (ltb c 27) _ _ (λ k. HasPlain (Key k))
    (λ x. let small : c < 27 = ltb-true c 27 x in
    key_found (number + 4) (Char (c + 96)) more
    (control_found number (c + 96) c typed (control_letter_of c (some c (eqb-false c 0 t)) small (eqb-false c 8 (or_parts (eqb c 8) (eqb c 127) u).0) (eqb-false c 9 v) (eqb-false c 10 (or_parts (eqb c 10) (eqb c 13) w).0) (eqb-false c 13 (or_parts (eqb c 10) (eqb c 13) w).1))))
    (λ x. let large : 27 ≤ c = ltb-false c 27 x in
    cond_both (ltb c 32) _ _ (λ k. HasPlain (Key k))
    (λ y. key_found (number + 4) (Char (c + 64)) more (control_found number (c + 64) c typed (control_sign_of c (past c large other) (ltb-true c 32 y))))
    (λ y. key_found number (Char c) fewer (printed_found number c s (ltb-false c 32 y) (eqb-false c 127 (or_parts (eqb c 8) (eqb c 127) u).1) typed)))))))

-- ---- the mouse

done_found : (mouse : MouseEvent) (number : ℕ) → mouse.modifiers ≡ held number → number < 8 → mouse.column < 2 ^ 16 → mouse.row < 2 ^ 16 → HasPlain (Mouse mouse)
done_found mouse number are few column row = (
  _,
  ap (option_and_then (λ n. mouse_bytes n mouse)) (ap number_of are ∙ number_of-held number few)
      ∙ cond-true (ltb mouse.column (2 ^ 16) && ltb mouse.row (2 ^ 16)) _ None (and_from _ _ (lt-ltb mouse.column (2 ^ 16) column) (lt-ltb mouse.row (2 ^ 16) row)),
)

cell_found : (n x y letter : ℕ) (e : Event) → cell_event n x y letter ≡ Some e → HasPlain e
cell_found n x y letter e h =
    let k = cond_then (leb 1 x && leb x (2 ^ 16) && leb 1 y && leb y (2 ^ 16)) _ e h in
    let u = and_parts (leb 1 x && leb x (2 ^ 16) && leb 1 y) (leb y (2 ^ 16)) k.0 in
    let v = and_parts (leb 1 x && leb x (2 ^ 16)) (leb 1 y) u.0 in
    let w = and_parts (leb 1 x) (leb x (2 ^ 16)) v.0 in
    let least_column : 1 ≤ x = leb-true _ _ w.0 in
    let most_column : x ≤ 2 ^ 16 = leb-true _ _ w.1 in
    let least_row : 1 ≤ y = leb-true _ _ v.1 in
    let most_row : y ≤ 2 ^ 16 = leb-true _ _ u.1 in
    let m = mapped _ (mouse_kind (n % 4 + 32 * (n / 32)) letter) e k.1 in
    subst HasPlain m.2 (done_found (record { kind = m.0; column = x - 1; row = y - 1; modifiers = held (n / 4 % 8) }) (n / 4 % 8) refl (omega arith) (omega arith) (omega arith))

mouse_found : (ns : List ℕ) (letter : ℕ) (e : Event) → mouse_event ns letter ≡ Some e → HasPlain e
mouse_found [] letter e h = absurd (none-some e h)
mouse_found (n ∷ []) letter e h = absurd (none-some e h)
mouse_found (n ∷ m ∷ []) letter e h = absurd (none-some e h)
mouse_found (n ∷ x ∷ y ∷ []) letter e h = cell_found n x y letter e h
mouse_found (a ∷ b ∷ c ∷ d ∷ ns) letter e h = absurd (none-some e h)

-- ---- sequences

size_found : (columns rows : ℕ) (e : Event) → size_event columns rows ≡ Some e → HasPlain e
size_found columns rows e h =
    let k = cond_then (leb 1 columns && ltb columns (2 ^ 16) && leb 1 rows && ltb rows (2 ^ 16)) _ e h in
    subst HasPlain (same_Some _ _ k.1) (_, cond-true (leb 1 columns && ltb columns (2 ^ 16) && leb 1 rows && ltb rows (2 ^ 16)) _ None k.0)

letter_event_found : (letter : ℕ) (e : Event) → letter_event letter ≡ Some e → HasPlain e
letter_event_found letter e h =
    split (eqb letter 90) _ _ e (λ t x. subst HasPlain (same_Some _ _ x) (_, refl))
    (λ t y. split (eqb letter 73) _ _ e (λ u x. subst HasPlain (same_Some _ _ x) (_, refl))
    (λ u z. split (eqb letter 79) _ _ e (λ v x. subst HasPlain (same_Some _ _ x) (_, refl))
    (λ v w. alone_found (letter_key letter) e (letter_found 0 letter) w)
    z) y) h

pair_found : (n m letter : ℕ) (e : Event) → pair_event n m letter ≡ Some e → HasPlain e
pair_found n m letter e h =
    split (eqb letter 126) _ _ e (λ t x. held_found m (number_key n) e (λ number code i. number_found number n code i) x)
    (λ t y. split (eqb n 1) _ _ e (λ u x. held_found m (letter_key letter) e (λ number code i. letter_found number letter code i) x)
    (λ u z. size_found m n e (cond_then (eqb letter 82) _ e z).1)
    y) h

sequence_found : (ns : List ℕ) (letter : ℕ) (e : Event) → sequence_event ns letter ≡ Some e → HasPlain e
sequence_found [] letter e h = letter_event_found letter e h
sequence_found (n ∷ []) letter e h = alone_found (number_key n) e (number_found 0 n) (cond_then (eqb letter 126) _ e h).1
sequence_found (n ∷ m ∷ []) letter e h = pair_found n m letter e h
sequence_found (n ∷ r ∷ c ∷ []) letter e h = size_found c r e (cond_then (eqb n 8 && eqb letter 116) _ e h).1
sequence_found (a ∷ b ∷ c ∷ d ∷ ns) letter e h = absurd (none-some e h)

-- ---- events

event_found : (e : Event) (bytes : List ℕ) → IsEventBytes e bytes → HasPlain e
event_found e bytes (inl h) = subst HasPlain (sym h.1) (_, refl)
event_found e bytes (inr (inl h)) = subst HasPlain (sym h.pressed) (char_key_found 0 h.char h.scalar h.no_escape (inl refl))
event_found e bytes (inr (inr (inl h))) = subst HasPlain (sym h.pressed) (char_key_found 2 h.char h.scalar h.no_escape (inr (refl, h.no_bracket, h.no_application)))
event_found e bytes (inr (inr (inr (inl h)))) = sequence_found h.numbers h.letter e h.told
event_found e bytes (inr (inr (inr (inr (inl h))))) = mouse_found h.numbers h.letter e h.told
event_found e bytes (inr (inr (inr (inr (inr (inl h)))))) = alone_found (letter_key h.letter) e (letter_found 0 h.letter) h.told
event_found e bytes (inr (inr (inr (inr (inr (inr h)))))) = alone_found (console_key h.letter) e (console_found 0 h.letter) h.told

-- the plainest bytes are written of an event, and none only where no bytes are it
pub plain_written : (e : Event) (written : Option (List ℕ)) → written ≡ plain_bytes e → IsWritten e written
plain_written e None h = λ bytes is. let k = event_found e bytes is in none-some k.0 (h ∙ k.1)
plain_written e (Some bytes) h = let is = event_plain e bytes (sym h) in (is, event_alone bytes e is)
