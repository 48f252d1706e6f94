-- The plainest bytes of an event are that event.
use Rattle.std.proofs.Common.{◌≡◌, ◌≢◌, inl, inr, ℕ, ◌+◌, ◌-◌, ◌*◌, ◌/◌, ◌%◌, ◌^◌, ◌<◌, ◌≤◌, false, ltb, leb, eqb, List, [], ◌∷◌, Option, Some, None, refl, ap, ◌∙◌, sym, subst, arith}
use Rattle.std.specs.Prelude.{◌&&◌, ◌||◌, option_map}
use Rattle.std.specs.Char.{IsScalar, is_ascii_control}
use Rattle.std.proofs.Math.Utf8.{scalar, low_scalar}
use Rattle.std.proofs.lemmas.Bool.{cond-true, cond-false, cond_both, and_parts, or_parts, eqb-true, eqb-false, ne_eqb, leb-true, ltb-true}
use Rattle.std.proofs.lemmas.Bool.Decides.{nat_tests}
use Rattle.std.proofs.lemmas.Option.{none-some, same_Some, option_and_then_some}
use Rattle.mad_term.specs.declared.keys.KeyCode.{KeyCode}
use Rattle.mad_term.specs.declared.keys.KeyCode.TheVariants.{Char, Enter, Backspace, Delete, Insert, Tab, BackTab, Esc, Home, End, Up, Down, Left, Right, PageUp, PageDown, F, Null}
use Rattle.mad_term.specs.declared.keys.KeyEvent.{KeyEvent}
use Rattle.mad_term.specs.declared.mouse.MouseButton.TheVariants as button
use Rattle.mad_term.specs.declared.mouse.MouseButton.{MouseButton}
use Rattle.mad_term.specs.declared.mouse.MouseEventKind.{MouseEventKind}
use Rattle.mad_term.specs.declared.mouse.MouseEventKind.TheVariants as kind
use Rattle.mad_term.specs.declared.mouse.MouseEvent.{MouseEvent}
use Rattle.mad_term.specs.declared.events.Event.{Event}
use Rattle.mad_term.specs.declared.events.Event.TheVariants.{Key, Mouse, Resize, FocusGained, FocusLost}
use Rattle.mad_keys.specs.Keys.{held, key_with, char_key, letter_key, number_key}
use Rattle.mad_keys.specs.Sequences.{plain_key, held_key, letter_event, mouse_kind}
use Rattle.mad_keys.specs.EventBytes.{IsEventBytes}
use Rattle.mad_keys.specs.PlainBytes.{number_of, control_char, char_bytes, typed_bytes, letter_bytes, tilde_bytes, function_letter_bytes, function_bytes, alone_bytes, key_bytes, button_number, kind_number, kind_letter, mouse_bytes, size_bytes, plain_bytes}
use Rattle.mad_keys.proofs.NumberLemmas.{cond_then}
use Rattle.mad_keys.proofs.EventLemmas.{split}
use Rattle.mad_keys.proofs.HeldLemmas.{held-number_of}

-- these bytes are a key with the modifiers of this number
abbrev IsKey : ℕ → KeyCode → List ℕ → Type 0
IsKey number code bytes = IsEventBytes (Key (key_with number code)) bytes

-- ---- keys of letters and numbers

held_told : (number : ℕ) (o : Option KeyCode) (code : KeyCode) → number ≢ 0 → number < 8 → o ≡ Some code → held_key (number + 1) o ≡ Some (Key (key_with number code))
held_told number o code some few h =
    let less : (number + 1) - 1 ≡ number = omega arith in
    cond-true (leb 2 (number + 1) && leb (number + 1) 8) _ None (grind (arith, nat_tests))
    ∙ ap (option_map (λ c. Key (key_with ((number + 1) - 1) c))) h ∙ ap (λ n. Some (Key (key_with n code))) less

plain_told : (number : ℕ) (o : Option KeyCode) (code : KeyCode) → number ≡ 0 → o ≡ Some code → plain_key o ≡ Some (Key (key_with number code))
plain_told number o code none h = ap plain_key h ∙ ap (λ n. Some (Key (key_with n code))) (sym none)

letter_plain : (number letter : ℕ) (code : KeyCode) → number < 8 → letter_key letter ≡ Some code → letter_event letter ≡ plain_key (letter_key letter) → letter ≢ 126 → IsKey number code (letter_bytes number letter)
letter_plain number letter code few h alone other =
    cond_both (eqb number 0) _ _ (λ l. IsKey number code l)
    (λ t. inr (inr (inr (inl (record { numbers = []; letter = letter; small = tt; written = refl; told = alone ∙ plain_told number _ code (eqb-true number 0 t) h })))))
    (λ t. inr (inr (inr (inl (record {
      numbers = 1 ∷ (number + 1) ∷ [];
      letter = letter;
      small = (omega arith, (omega arith, tt));
      written = refl;
      told = cond-false (eqb letter 126) _ _ (ne_eqb letter 126 other) ∙ held_told number _ code (eqb-false number 0 t) few h;
    })))))

tilde_plain : (number n : ℕ) (code : KeyCode) → number < 8 → n < 25 → number_key n ≡ Some code → IsKey number code (tilde_bytes number n)
tilde_plain number n code few small h =
    cond_both (eqb number 0) _ _ (λ l. IsKey number code l)
    (λ t. inr (inr (inr (inl (record { numbers = n ∷ []; letter = 126; small = (omega arith, tt); written = refl; told = plain_told number _ code (eqb-true number 0 t) h })))))
    (λ t. inr (inr (inr (inl (record {
      numbers = n ∷ (number + 1) ∷ [];
      letter = 126;
      small = (omega arith, (omega arith, tt));
      written = refl;
      told = held_told number _ code (eqb-false number 0 t) few h;
    })))))

-- ---- function keys

function_letter : (n : ℕ) → 1 ≤ n → n ≤ 4 → letter_key (n + 79) ≡ Some (F n)
function_letter n low high = grind (arith, nat_tests)

function_alone : (n : ℕ) → 1 ≤ n → n ≤ 4 → letter_event (n + 79) ≡ plain_key (letter_key (n + 79))
function_alone n low high = cond-false (eqb (n + 79) 90) _ _ (grind (arith, nat_tests)) ∙ cond-false (eqb (n + 79) 73) _ _ (grind (arith, nat_tests)) ∙ cond-false (eqb (n + 79) 79) _ _ (grind (arith, nat_tests))

function_letter_plain : (number n : ℕ) → number < 8 → 1 ≤ n → n ≤ 4 → IsKey number (F n) (function_letter_bytes number (n + 79))
function_letter_plain number n few low high =
    cond_both (eqb number 0) _ _ (λ l. IsKey number (F n) l)
    (λ t. inr (inr (inr (inr (inr (inl (record { letter = n + 79; written = refl; told = plain_told number _ (F n) (eqb-true number 0 t) (function_letter n low high) })))))))
    (λ t. letter_plain number (n + 79) (F n) few (function_letter n low high) (function_alone n low high) (λ e. omega arith))

middle_key : (n : ℕ) → 6 ≤ n → n ≤ 10 → number_key (n + 11) ≡ Some (F n)
middle_key n low high = grind (arith, nat_tests)

last_key : (n : ℕ) → 11 ≤ n → n ≤ 12 → number_key (n + 12) ≡ Some (F n)
last_key n low high = grind (arith, nat_tests)

function_plain : (number n : ℕ) (bytes : List ℕ) → number < 8 → function_bytes number n ≡ Some bytes → IsKey number (F n) bytes
function_plain number n bytes few h =
    split (leb 1 n && leb n 4) _ _ bytes
    (λ t x. let b = and_parts (leb 1 n) (leb n 4) t in
    subst (IsKey number (F n)) (same_Some _ _ x) (function_letter_plain number n few (leb-true 1 n b.0) (leb-true n 4 b.1)))
    (λ t y. split (eqb n 5) _ _ bytes
    (λ u x. subst (λ (m : ℕ). IsKey number (F m) bytes) (sym (eqb-true n 5 u)) (subst (IsKey number (F 5)) (same_Some _ _ x) (tilde_plain number 15 (F 5) few (omega arith) refl)))
    (λ u z. split (leb 6 n && leb n 10) _ _ bytes
    (λ v x. let b = and_parts (leb 6 n) (leb n 10) v in
    let high : n ≤ 10 = leb-true n 10 b.1 in
    subst (IsKey number (F n)) (same_Some _ _ x) (tilde_plain number (n + 11) (F n) few (omega arith) (middle_key n (leb-true 6 n b.0) high)))
    (λ v w. let k = cond_then (leb 11 n && leb n 12) _ bytes w in
    let b = and_parts (leb 11 n) (leb n 12) k.0 in
    let high : n ≤ 12 = leb-true n 12 b.1 in
    subst (IsKey number (F n)) (same_Some _ _ k.1) (tilde_plain number (n + 12) (F n) few (omega arith) (last_key n (leb-true 11 n b.0) high)))
    z) y) h

-- ---- characters

-- where a character has bytes, no modifier is held but Alt
char_plain : (number c : ℕ) (bytes : List ℕ) → IsScalar c → c ≢ 27 → char_bytes number c ≡ Some bytes → IsEventBytes (Key (char_key number c)) bytes × (number ≤ 2)
char_plain number c bytes s other h =
    split (eqb number 0) _ _ bytes
    (λ t x. let none : number ≡ 0 = eqb-true number 0 t in
    (inr (inl (record { char = c; scalar = s; no_escape = other; written = sym (same_Some _ _ x); pressed = ap (λ n. Key (char_key n c)) none })), omega arith))
    (λ t y. split (eqb c 91 || eqb c 79) _ _ bytes (λ u x. absurd (none-some bytes x))
    (λ u z. let k = cond_then (eqb number 2) _ bytes z in
    let alt : number ≡ 2 = eqb-true number 2 k.0 in
    let o = or_parts (eqb c 91) (eqb c 79) u in (
      inr (inr (inl (record {
        char = c;
        scalar = s;
        no_escape = other;
        no_bracket = eqb-false c 91 o.0;
        no_application = eqb-false c 79 o.1;
        written = sym (same_Some _ _ k.1);
        pressed = ap (λ n. Key (char_key n c)) alt;
      }))),
      omega arith,
    ))
    y) h

low_plain : (number c : ℕ) (code : KeyCode) (bytes : List ℕ) → c < 128 → c ≢ 27 → char_key number c ≡ key_with number code → char_bytes number c ≡ Some bytes → IsKey number code bytes
low_plain number c code bytes low other is h =
    subst (λ (k : KeyEvent). IsEventBytes (Key k) bytes) is (char_plain number c bytes (low_scalar c (omega arith)) other h).0

-- a character that isn't a control character is the key of itself
printed : (c : ℕ) → is_ascii_control c ≡ false → (32 ≤ c) × (c ≢ 127)
printed c h = (grind (arith, nat_tests, h), λ e. grind (arith, nat_tests, h, e))

printed_key : (number c : ℕ) → 32 ≤ c → c ≢ 127 → char_key number c ≡ key_with number (Char c)
printed_key number c low no_delete =
    cond-false (eqb c 0) _ _ (grind (arith, nat_tests)) ∙ cond-false (eqb c 8 || eqb c 127) _ _ (grind (arith, nat_tests)) ∙ cond-false (eqb c 9) _ _ (grind (arith, nat_tests))
    ∙ cond-false (eqb c 10 || eqb c 13) _ _ (grind (arith, nat_tests)) ∙ cond-false (ltb c 27) _ _ (grind (arith, nat_tests)) ∙ cond-false (ltb c 32) _ _ (grind (arith, nat_tests))

-- a control character that a letter is with Control
record IsControlOf (c d : ℕ) : Type 0 where
  low : d < 128
  no_escape : d ≢ 27
  pressed : (number : ℕ) → char_key number d ≡ key_with (number + 4) (Char c)

control_letter : (c d number : ℕ) → 1 ≤ d → d < 27 → d ≢ 8 → d ≢ 9 → d ≢ 10 → d ≢ 13 → d + 96 ≡ c → char_key number d ≡ key_with (number + 4) (Char c)
control_letter c d number low high no_backspace no_tab no_feed no_return is =
    cond-false (eqb d 0) _ _ (grind (arith, nat_tests)) ∙ cond-false (eqb d 8 || eqb d 127) _ _ (grind (arith, nat_tests)) ∙ cond-false (eqb d 9) _ _ (grind (arith, nat_tests))
    ∙ cond-false (eqb d 10 || eqb d 13) _ _ (grind (arith, nat_tests)) ∙ cond-true (ltb d 27) _ _ (grind (arith, nat_tests)) ∙ ap (λ x. key_with (number + 4) (Char x)) is

control_sign : (c d number : ℕ) → 28 ≤ d → d < 32 → d + 64 ≡ c → char_key number d ≡ key_with (number + 4) (Char c)
control_sign c d number low high is =
    cond-false (eqb d 0) _ _ (grind (arith, nat_tests)) ∙ cond-false (eqb d 8 || eqb d 127) _ _ (grind (arith, nat_tests)) ∙ cond-false (eqb d 9) _ _ (grind (arith, nat_tests))
    ∙ cond-false (eqb d 10 || eqb d 13) _ _ (grind (arith, nat_tests)) ∙ cond-false (ltb d 27) _ _ (grind (arith, nat_tests)) ∙ cond-true (ltb d 32) _ _ (grind (arith, nat_tests))
    ∙ ap (λ x. key_with (number + 4) (Char x)) is

control_is : (c d : ℕ) → control_char c ≡ Some d → IsControlOf c d
control_is c d h =
    split (eqb c 104 || eqb c 105 || eqb c 106 || eqb c 109) _ _ d (λ t x. absurd (none-some d x))
    (λ t y. let a = or_parts (eqb c 104 || eqb c 105 || eqb c 106) (eqb c 109) t in
    let b = or_parts (eqb c 104 || eqb c 105) (eqb c 106) a.0 in
    let e = or_parts (eqb c 104) (eqb c 105) b.0 in
    split (leb 97 c && leb c 122) _ _ d
    (λ u x. let k = and_parts (leb 97 c) (leb c 122) u in
    let low : 97 ≤ c = leb-true 97 c k.0 in
    let high : c ≤ 122 = leb-true c 122 k.1 in
    let is : c - 96 ≡ d = same_Some _ _ x in
    let no_backspace : c ≢ 104 = eqb-false c 104 e.0 in
    let no_tab : c ≢ 105 = eqb-false c 105 e.1 in
    let no_feed : c ≢ 106 = eqb-false c 106 b.1 in
    let no_return : c ≢ 109 = eqb-false c 109 a.1 in
    record {
      low = omega arith;
      no_escape = λ i. omega arith;
      pressed = λ number. control_letter c d number (omega arith) (omega arith) (λ i. no_backspace (omega arith)) (λ i. no_tab (omega arith)) (λ i. no_feed (omega arith)) (λ i. no_return (omega arith)) (omega arith);
    })
    (λ u z. let k = cond_then (leb 92 c && leb c 95) _ d z in
    let f = and_parts (leb 92 c) (leb c 95) k.0 in
    let low : 92 ≤ c = leb-true 92 c f.0 in
    let high : c ≤ 95 = leb-true c 95 f.1 in
    let is : c - 64 ≡ d = same_Some _ _ k.1 in
    record { low = omega arith; no_escape = λ i. omega arith; pressed = λ number. control_sign c d number (omega arith) (omega arith) (omega arith) })
    y) h

typed_plain : (number c : ℕ) (bytes : List ℕ) → number < 8 → typed_bytes number c ≡ Some bytes → IsKey number (Char c) bytes
typed_plain number c bytes few h =
    split (leb 4 number) _ _ bytes
    (λ t x. let held : 4 ≤ number = leb-true 4 number t in
    let back : (number - 4) + 4 ≡ number = omega arith in
    option_and_then_some (λ d. char_bytes (number - 4) d) (control_char c) bytes x
    (λ d e f. let k = control_is c d e in
    subst (λ (n : ℕ). IsKey n (Char c) bytes) back
    (subst (λ (j : KeyEvent). IsEventBytes (Key j) bytes) (k.pressed (number - 4)) (char_plain (number - 4) d bytes (low_scalar d (omega (arith, k.low))) k.no_escape f).0)))
    (λ t y. split (is_ascii_control c) _ _ bytes (λ u x. absurd (none-some bytes x))
    (λ u z. let k = cond_then (scalar c) _ bytes z in
    let p = printed c u in
    subst (λ (j : KeyEvent). IsEventBytes (Key j) bytes) (printed_key number c p.0 p.1) (char_plain number c bytes k.0 (λ e. omega (arith, p.0)) k.1).0)
    y) h

alone_plain : (number : ℕ) (code : KeyCode) (written bytes : List ℕ) → IsKey 0 code written → alone_bytes number written ≡ Some bytes → IsKey number code bytes
alone_plain number code written bytes is h =
    let k = cond_then (eqb number 0) (Some written) bytes h in
    subst (λ (n : ℕ). IsKey n code bytes) (sym (eqb-true number 0 k.0)) (subst (IsKey 0 code) (same_Some _ _ k.1) is)

-- ---- keys

letter_code : (number letter : ℕ) (code : KeyCode) (bytes : List ℕ) → number < 8 → letter_key letter ≡ Some code → letter_event letter ≡ plain_key (letter_key letter) → letter ≢ 126
    → Some (letter_bytes number letter) ≡ Some bytes → IsKey number code bytes
letter_code number letter code bytes few h alone other e = subst (IsKey number code) (same_Some _ _ e) (letter_plain number letter code few h alone other)

tilde_code : (number n : ℕ) (code : KeyCode) (bytes : List ℕ) → number < 8 → n < 25 → number_key n ≡ Some code → Some (tilde_bytes number n) ≡ Some bytes → IsKey number code bytes
tilde_code number n code bytes few small h e = subst (IsKey number code) (same_Some _ _ e) (tilde_plain number n code few small h)

key_plain : (number : ℕ) (code : KeyCode) (bytes : List ℕ) → number < 8 → key_bytes number code ≡ Some bytes → IsKey number code bytes
key_plain number (Char c) bytes few h = typed_plain number c bytes few h
key_plain number Null bytes few h = low_plain number 0 Null bytes (omega arith) (λ e. omega arith) refl h
key_plain number Tab bytes few h = low_plain number 9 Tab bytes (omega arith) (λ e. omega arith) refl h
key_plain number Enter bytes few h = low_plain number 13 Enter bytes (omega arith) (λ e. omega arith) refl h
key_plain number Backspace bytes few h = low_plain number 127 Backspace bytes (omega arith) (λ e. omega arith) refl h
key_plain number Esc bytes few h = alone_plain number Esc (27 ∷ []) bytes (inl (refl, refl)) h
key_plain number BackTab bytes few h =
    alone_plain number BackTab _ bytes (inr (inr (inr (inl (record { numbers = []; letter = 90; small = tt; written = refl; told = refl }))))) h
key_plain number Up bytes few h = letter_code number 65 Up bytes few refl refl (λ e. omega arith) h
key_plain number Down bytes few h = letter_code number 66 Down bytes few refl refl (λ e. omega arith) h
key_plain number Right bytes few h = letter_code number 67 Right bytes few refl refl (λ e. omega arith) h
key_plain number Left bytes few h = letter_code number 68 Left bytes few refl refl (λ e. omega arith) h
key_plain number End bytes few h = letter_code number 70 End bytes few refl refl (λ e. omega arith) h
key_plain number Home bytes few h = letter_code number 72 Home bytes few refl refl (λ e. omega arith) h
key_plain number Insert bytes few h = tilde_code number 2 Insert bytes few (omega arith) refl h
key_plain number Delete bytes few h = tilde_code number 3 Delete bytes few (omega arith) refl h
key_plain number PageUp bytes few h = tilde_code number 5 PageUp bytes few (omega arith) refl h
key_plain number PageDown bytes few h = tilde_code number 6 PageDown bytes few (omega arith) refl h
key_plain number (F n) bytes few h = function_plain number n bytes few h

-- ---- the mouse

-- a number of the mouse, and what is left of it without the modifiers
abbrev without : ℕ → ℕ
without n = n % 4 + 32 * (n / 32)

kind_at : (k letter number : ℕ) (what : MouseEventKind) → without (k + 4 * number) ≡ k → mouse_kind k letter ≡ Some what → mouse_kind (without (k + 4 * number)) letter ≡ Some what
kind_at k letter number what e h = ap (λ n. mouse_kind n letter) e ∙ h

kind_told : (what : MouseEventKind) (number : ℕ) → number < 8 → mouse_kind (without (kind_number what + 4 * number)) (kind_letter what) ≡ Some what
kind_told (kind.Down button.Left) number few = kind_at 0 77 number (kind.Down button.Left) (omega arith) refl
kind_told (kind.Down button.Middle) number few = kind_at 1 77 number (kind.Down button.Middle) (omega arith) refl
kind_told (kind.Down button.Right) number few = kind_at 2 77 number (kind.Down button.Right) (omega arith) refl
kind_told (kind.Up button.Left) number few = kind_at 0 109 number (kind.Up button.Left) (omega arith) refl
kind_told (kind.Up button.Middle) number few = kind_at 1 109 number (kind.Up button.Middle) (omega arith) refl
kind_told (kind.Up button.Right) number few = kind_at 2 109 number (kind.Up button.Right) (omega arith) refl
kind_told (kind.Drag button.Left) number few = kind_at 32 77 number (kind.Drag button.Left) (omega arith) refl
kind_told (kind.Drag button.Middle) number few = kind_at 33 77 number (kind.Drag button.Middle) (omega arith) refl
kind_told (kind.Drag button.Right) number few = kind_at 34 77 number (kind.Drag button.Right) (omega arith) refl
kind_told kind.Moved number few = kind_at 35 77 number (kind.Moved) (omega arith) refl
kind_told kind.ScrollUp number few = kind_at 64 77 number (kind.ScrollUp) (omega arith) refl
kind_told kind.ScrollDown number few = kind_at 65 77 number (kind.ScrollDown) (omega arith) refl

button_small : (b : MouseButton) → button_number b < 3
button_small button.Left = omega arith
button_small button.Middle = omega arith
button_small button.Right = omega arith

kind_small : (what : MouseEventKind) (number : ℕ) → number < 8 → (kind_number what < 66) × ((kind_number what + 4 * number) / 4 % 8 ≡ number)
kind_small (kind.Down b) number few = let small : button_number b < 3 = button_small b in (omega arith, omega arith)
kind_small (kind.Up b) number few = let small : button_number b < 3 = button_small b in (omega arith, omega arith)
kind_small (kind.Drag b) number few = let small : button_number b < 3 = button_small b in (omega arith, omega arith)
kind_small kind.Moved number few = (omega arith, omega arith)
kind_small kind.ScrollUp number few = (omega arith, omega arith)
kind_small kind.ScrollDown number few = (omega arith, omega arith)

mouse_plain : (number : ℕ) (mouse : MouseEvent) (bytes : List ℕ) → number < 8 → mouse.modifiers ≡ held number → mouse_bytes number mouse ≡ Some bytes → IsEventBytes (Mouse mouse) bytes
mouse_plain number mouse bytes few are h =
    let k = cond_then (ltb mouse.column (2 ^ 16) && ltb mouse.row (2 ^ 16)) _ bytes h in
    let b = and_parts (ltb mouse.column (2 ^ 16)) (ltb mouse.row (2 ^ 16)) k.0 in
    let column : mouse.column < 2 ^ 16 = ltb-true _ _ b.0 in
    let row : mouse.row < 2 ^ 16 = ltb-true _ _ b.1 in
    let small = kind_small mouse.kind number few in
    let n : ℕ = kind_number mouse.kind + 4 * number in
    let modifiers : held (n / 4 % 8) ≡ mouse.modifiers = ap held small.1 ∙ sym are in
    let columns : (mouse.column + 1) - 1 ≡ mouse.column = omega arith in
    let rows : (mouse.row + 1) - 1 ≡ mouse.row = omega arith in
    inr (inr (inr (inr (inl (record {
      numbers = n ∷ (mouse.column + 1) ∷ (mouse.row + 1) ∷ [];
      letter = kind_letter mouse.kind;
      small = (omega (arith, small.0), (omega arith, (omega arith, tt)));
      written = sym (same_Some _ _ k.1);
      told = cond-true (leb 1 (mouse.column + 1) && leb (mouse.column + 1) (2 ^ 16) && leb 1 (mouse.row + 1) && leb (mouse.row + 1) (2 ^ 16)) _ None (grind (arith, nat_tests))
          ∙ ap (option_map _) (kind_told mouse.kind number few)
          ∙ (λ i. Some (Mouse (record { kind = mouse.kind; column = columns i; row = rows i; modifiers = modifiers i })));
    })))))

-- ---- events

size_plain : (columns rows : ℕ) (bytes : List ℕ) → size_bytes columns rows ≡ Some bytes → IsEventBytes (Resize columns rows) bytes
size_plain columns rows bytes h =
    let k = cond_then (leb 1 columns && ltb columns (2 ^ 16) && leb 1 rows && ltb rows (2 ^ 16)) _ bytes h in
    let u = and_parts (leb 1 columns && ltb columns (2 ^ 16) && leb 1 rows) (ltb rows (2 ^ 16)) k.0 in
    let v = and_parts (leb 1 columns && ltb columns (2 ^ 16)) (leb 1 rows) u.0 in
    let w = and_parts (leb 1 columns) (ltb columns (2 ^ 16)) v.0 in
    let few_columns : columns < 2 ^ 16 = ltb-true _ _ w.1 in
    let few_rows : rows < 2 ^ 16 = ltb-true _ _ u.1 in
    inr (inr (inr (inl (record {
      numbers = 8 ∷ rows ∷ columns ∷ [];
      letter = 116;
      small = (omega arith, (omega arith, (omega arith, tt)));
      written = sym (same_Some _ _ k.1);
      told = cond-true (leb 1 columns && ltb columns (2 ^ 16) && leb 1 rows && ltb rows (2 ^ 16)) _ None k.0;
    }))))

-- the plainest bytes of an event are it
pub event_plain : (e : Event) (bytes : List ℕ) → plain_bytes e ≡ Some bytes → IsEventBytes e bytes
event_plain (Key key) bytes h =
    option_and_then_some (λ number. key_bytes number key.code) (number_of key.modifiers) bytes h
    (λ number m k. let are = held-number_of key.modifiers number m in
    let is : key_with number key.code ≡ key = (λ i. record { code = key.code; modifiers = sym are.1 i }) in
    subst (λ (j : KeyEvent). IsEventBytes (Key j) bytes) is (key_plain number key.code bytes are.0 k))
event_plain (Mouse mouse) bytes h =
    option_and_then_some (λ number. mouse_bytes number mouse) (number_of mouse.modifiers) bytes h
    (λ number m k. let are = held-number_of mouse.modifiers number m in
    mouse_plain number mouse bytes are.0 are.1 k)
event_plain (Resize columns rows) bytes h = size_plain columns rows bytes h
event_plain FocusGained bytes h = inr (inr (inr (inl (record { numbers = []; letter = 73; small = tt; written = sym (same_Some _ _ h); told = refl }))))
event_plain FocusLost bytes h = inr (inr (inr (inl (record { numbers = []; letter = 79; small = tt; written = sym (same_Some _ _ h); told = refl }))))
