-- The event of bytes.
use Rattle.std.proofs.Common.{◌≡◌, ◌≢◌, ℕ, ◌+◌, ◌%◌, ◌^◌, ◌<◌, ◌≤◌, inl, inr, Bool, true, false, cond, eqb, List, [], ◌∷◌, ◌++◌, length, Option, Some, None, refl, ap, ◌∙◌, sym, subst, arith, append_assoc, append-nil}
use Rattle.std.specs.Prelude.{option_and_then, option_map, decimal, encode_utf8, encode_utf8_all}
use Rattle.std.specs.Str.{chars, is_utf8, IsUtf8, all_scalars}
use Rattle.std.specs.Char.{IsScalar}
use Rattle.std.specs.List.{flat_map}
use Rattle.std.proofs.lemmas.Str.{is_utf8-from_IsUtf8, IsUtf8-from_is_utf8, chars_past_char, chars-nil, char_from_byte, byte_from_char, IsUtf8-encode, encodes-chars, scalars-chars, length-encode, len_utf8_bounds, IsUtf8-past_char}
use Rattle.std.proofs.lemmas.Bool.{false_from_ne_true, cond-false, and_parts, eqb-true, eqb-false, ne_eqb}
use Rattle.std.proofs.lemmas.Option.{none-some, same_Some, option_and_then_some}
use Rattle.std.proofs.lemmas.Fmt.{decimal_by_steps}
use Rattle.mad_term.specs.declared.events.Event.{Event}
use Rattle.mad_term.specs.declared.events.Event.TheVariants.{Key}
use Rattle.mad_term.specs.Commands.{numbers_bytes}
use Rattle.mad_keys.specs.Digits.{numbers_at, AreSmall}
use Rattle.mad_keys.specs.Keys.{char_key}
use Rattle.mad_keys.specs.Sequences.{sequence_event, mouse_event}
use Rattle.mad_keys.specs.EventBytes.{IsApplicationBytes, IsConsoleBytes, IsEventBytes, IsEventOf}
use Rattle.mad_keys.specs.Meanings.{only, char_at, char_event_at, numbers_event_at, console_at, bracket_at, application_at, escape_at, event_at}
use Rattle.mad_keys.proofs.NumberLemmas.{cond_then, numbers_at-sound, numbers_at-complete}

-- ---- characters

-- bytes that aren't UTF-8 are no character
pub char_at-no_text : (bs : List ℕ) → ¬ (IsUtf8 bs) → char_at bs ≡ None
char_at-no_text bs h = ap (λ b. cond b (only (chars bs)) None) (false_from_ne_true (is_utf8 bs) (λ e. h (IsUtf8-from_is_utf8 bs e)))

char_at-text : (bs : List ℕ) → IsUtf8 bs → char_at bs ≡ only (chars bs)
char_at-text bs h = ap (λ b. cond b (only (chars bs)) None) (is_utf8-from_IsUtf8 bs h)

-- no bytes are no character
pub char_at-nothing : (bs : List ℕ) → IsUtf8 bs → length bs ≡ 0 → char_at bs ≡ None
char_at-nothing [] h e = char_at-text [] h ∙ ap only chars-nil
char_at-nothing (b ∷ bs) h e = absurd (omega arith)

-- the bytes of one character are it
pub char_at-one : (bs rest : List ℕ) (c : ℕ) → IsUtf8 bs → bs ≡ encode_utf8 c ++ rest → length rest ≡ 0 → char_at bs ≡ Some c
char_at-one bs [] c h e z = char_at-text bs h ∙ ap only (chars_past_char bs [] c h e ∙ ap (λ l. c ∷ l) chars-nil)
char_at-one bs (b ∷ rest) c h e z = absurd (omega arith)

only_more : (c : ℕ) (cs : List ℕ) → cs ≢ [] → only (c ∷ cs) ≡ None
only_more c [] h = absurd (h refl)
only_more c (d ∷ cs) h = refl

-- the bytes of several characters are no single one
pub char_at-more : (bs rest : List ℕ) (c : ℕ) → IsUtf8 bs → bs ≡ encode_utf8 c ++ rest → 0 < length rest → char_at bs ≡ None
char_at-more bs rest c h e some =
    char_at-text bs h ∙ ap only (chars_past_char bs rest c h e)
    ∙ only_more c (chars rest) (λ i. let empty : rest ≡ [] = sym (encodes-chars rest (IsUtf8-past_char bs rest c h e)) ∙ ap encode_utf8_all i in
    let none : length rest ≡ 0 = ap length empty in omega arith)

-- ---- the last byte

-- the numbers are those of the bytes before the last one, some of which were taken already
pub last_apart : (f : List ℕ → ℕ → Option Event) (bytes front : List ℕ) (letter : ℕ) → numbers_event_at f front (bytes ++ letter ∷ []) ≡ option_and_then (λ ns. f ns letter) (numbers_at (front ++ bytes))
last_apart f [] front letter = ap (λ l. option_and_then (λ ns. f ns letter) (numbers_at l)) (sym (append-nil front))
last_apart f (a ∷ []) front letter = refl
last_apart f (a ∷ b ∷ bytes) front letter =
    last_apart f (b ∷ bytes) (front ++ a ∷ []) letter ∙ ap (λ l. option_and_then (λ ns. f ns letter) (numbers_at l)) (append_assoc front (a ∷ []) (b ∷ bytes))

-- the same of bytes whose last one is known
pub last_of : (f : List ℕ → ℕ → Option Event) (bytes front : List ℕ) (letter : ℕ) → bytes ≡ front ++ letter ∷ [] → numbers_event_at f [] bytes ≡ option_and_then (λ ns. f ns letter) (numbers_at front)
last_of f bytes front letter e = ap (numbers_event_at f []) e ∙ last_apart f front [] letter

-- no event where the bytes before the last one are no numbers
pub numbers_none : (f : List ℕ → ℕ → Option Event) (bytes front : List ℕ) (letter : ℕ) → bytes ≡ front ++ letter ∷ [] → numbers_at front ≡ None → numbers_event_at f [] bytes ≡ None
numbers_none f bytes front letter e h = last_of f bytes front letter e ∙ ap (option_and_then (λ ns. f ns letter)) h

-- where they are numbers, the event is that of these and the last byte
pub numbers_some : (f : List ℕ → ℕ → Option Event) (bytes front : List ℕ) (letter : ℕ) (ns : List ℕ) → bytes ≡ front ++ letter ∷ [] → numbers_at front ≡ Some ns → numbers_event_at f [] bytes ≡ f ns letter
numbers_some f bytes front letter ns e h = last_of f bytes front letter e ∙ ap (option_and_then (λ ns. f ns letter)) h

-- ---- the event of bytes is one that they are

-- a test's two ways to an answer
pub split : {A P : Type 0} (t : Bool) (x y : Option A) (e : A) → (t ≡ true → x ≡ Some e → P) → (t ≡ false → y ≡ Some e → P) → cond t x y ≡ Some e → P
split true x y e p q h = p refl h
split false x y e p q h = q refl h

-- an event that was made of a value has one
pub mapped : {A : Type 0} (f : A → Event) (o : Option A) (e : Event) → option_map f o ≡ Some e → (x : A) × (o ≡ Some x) × (f x ≡ e)
mapped f None e h = absurd (none-some e h)
mapped f (Some x) e h = (x, refl, same_Some _ _ h)

only_one : (cs : List ℕ) (c : ℕ) → only cs ≡ Some c → cs ≡ c ∷ []
only_one [] c h = absurd (none-some c h)
only_one (d ∷ []) c h = ap (λ x. x ∷ []) (same_Some _ _ h)
only_one (d ∷ e ∷ cs) c h = absurd (none-some c h)

char_at-sound : (bs : List ℕ) (c : ℕ) → char_at bs ≡ Some c → IsScalar c × (bs ≡ encode_utf8 c)
char_at-sound bs c h =
    let k = cond_then (is_utf8 bs) (only (chars bs)) c h in
    let text : IsUtf8 bs = IsUtf8-from_is_utf8 bs k.0 in
    let one : chars bs ≡ c ∷ [] = only_one (chars bs) c k.1 in
    ((and_parts _ _ (sym (ap all_scalars one) ∙ scalars-chars bs text)).0, sym (encodes-chars bs text) ∙ ap encode_utf8_all one ∙ append-nil (encode_utf8 c))

char_at-complete : (bs : List ℕ) (c : ℕ) → IsScalar c → bs ≡ encode_utf8 c → char_at bs ≡ Some c
char_at-complete bs c s e = char_at-one bs [] c (subst IsUtf8 (sym e) (IsUtf8-encode c s)) (e ∙ sym (append-nil (encode_utf8 c))) refl

-- a character that begins with an ASCII byte is that byte
ascii_is : (a : ℕ) (w : List ℕ) (c : ℕ) → a ∷ w ≡ encode_utf8 c → a < 128 → c ≡ a
ascii_is a w c e small = char_from_byte (a ∷ w) [] c (e ∙ sym (append-nil (encode_utf8 c))) small (omega arith)

-- and an ASCII character begins with that byte
begins_ascii : (a : ℕ) (w : List ℕ) (c : ℕ) → a ∷ w ≡ encode_utf8 c → c < 128 → a ≡ c
begins_ascii a w c e small = byte_from_char (a ∷ w) [] c (e ∙ sym (append-nil (encode_utf8 c))) small

console_sound : (w : List ℕ) (e : Event) → console_at w ≡ Some e → IsConsoleBytes e (27 ∷ 91 ∷ 91 ∷ w)
console_sound [] e h = absurd (none-some e h)
console_sound (l ∷ []) e h = record { letter = l; written = refl; told = h }
console_sound (l ∷ m ∷ w) e h = absurd (none-some e h)

application_sound : (w : List ℕ) (e : Event) → application_at w ≡ Some e → IsApplicationBytes e (27 ∷ 79 ∷ w)
application_sound [] e h = absurd (none-some e h)
application_sound (l ∷ []) e h = record { letter = l; written = refl; told = h }
application_sound (l ∷ m ∷ w) e h = absurd (none-some e h)

-- numbers and a letter
record HasNumbers (f : List ℕ → ℕ → Option Event) (bytes : List ℕ) (e : Event) : Type 0 where
  numbers : List ℕ
  letter : ℕ
  small : AreSmall numbers
  written : bytes ≡ numbers_bytes numbers ++ letter ∷ []
  told : f numbers letter ≡ Some e

numbers_sound : (f : List ℕ → ℕ → Option Event) (w front : List ℕ) (e : Event) → numbers_event_at f front w ≡ Some e → HasNumbers f (front ++ w) e
numbers_sound f [] front e h = absurd (none-some e h)
numbers_sound f (l ∷ []) front e h =
    option_and_then_some (λ ns. f ns l) (numbers_at front) e h
    (λ ns r t. let are = numbers_at-sound front ns r in record { numbers = ns; letter = l; small = are.small; written = ap (λ x. x ++ l ∷ []) are.written; told = t })
numbers_sound f (a ∷ b ∷ w) front e h =
    subst (λ (x : List ℕ). HasNumbers f x e) (append_assoc front (a ∷ []) (b ∷ w)) (numbers_sound f (b ∷ w) (front ++ a ∷ []) e h)

bracket_sound : (w : List ℕ) (e : Event) → bracket_at w ≡ Some e → IsEventBytes e (27 ∷ 91 ∷ w)
bracket_sound [] e h = absurd (none-some e h)
bracket_sound (a ∷ w) e h =
    split (eqb a 91) (console_at w) (cond (eqb a 60) (numbers_event_at mouse_event [] w) (numbers_event_at sequence_event [] (a ∷ w))) e
    (λ t x. subst (λ (b : ℕ). IsEventBytes e (27 ∷ 91 ∷ b ∷ w)) (sym (eqb-true a 91 t)) (inr (inr (inr (inr (inr (inr (console_sound w e x))))))))
    (λ t y. split (eqb a 60) (numbers_event_at mouse_event [] w) (numbers_event_at sequence_event [] (a ∷ w)) e
    (λ u x. let m = numbers_sound mouse_event w [] e x in
    subst (λ (b : ℕ). IsEventBytes e (27 ∷ 91 ∷ b ∷ w)) (sym (eqb-true a 60 u))
    (inr (inr (inr (inr (inl (record { numbers = m.numbers; letter = m.letter; small = m.small; written = ap (λ l. 27 ∷ 91 ∷ 60 ∷ l) m.written; told = m.told })))))))
    (λ u x. let m = numbers_sound sequence_event (a ∷ w) [] e x in
    inr (inr (inr (inl (record { numbers = m.numbers; letter = m.letter; small = m.small; written = ap (λ l. 27 ∷ 91 ∷ l) m.written; told = m.told })))))
    y)
    h

escape_sound : (w : List ℕ) (e : Event) → escape_at w ≡ Some e → IsEventBytes e (27 ∷ w)
escape_sound [] e h = inl (refl, sym (same_Some _ _ h))
escape_sound (a ∷ w) e h =
    split (eqb a 91) (bracket_at w) (cond (eqb a 79) (application_at w) (cond (eqb a 27) None (char_event_at 2 (a ∷ w)))) e
    (λ t x. subst (λ (b : ℕ). IsEventBytes e (27 ∷ b ∷ w)) (sym (eqb-true a 91 t)) (bracket_sound w e x))
    (λ t y. split (eqb a 79) (application_at w) (cond (eqb a 27) None (char_event_at 2 (a ∷ w))) e
    (λ u x. subst (λ (b : ℕ). IsEventBytes e (27 ∷ b ∷ w)) (sym (eqb-true a 79 u)) (inr (inr (inr (inr (inr (inl (application_sound w e x))))))))
    (λ u z. split (eqb a 27) None (char_event_at 2 (a ∷ w)) e (λ v x. absurd (none-some e x))
    (λ v x. let m = mapped (λ c. Key (char_key 2 c)) (char_at (a ∷ w)) e x in
    let k = char_at-sound (a ∷ w) m.0 m.1 in
    inr (inr (inl (record {
      char = m.0;
      scalar = k.0;
      no_escape = λ i. eqb-false a 27 v (begins_ascii a w m.0 k.1 (omega arith) ∙ i);
      no_bracket = λ i. eqb-false a 91 t (begins_ascii a w m.0 k.1 (omega arith) ∙ i);
      no_application = λ i. eqb-false a 79 u (begins_ascii a w m.0 k.1 (omega arith) ∙ i);
      written = ap (λ l. 27 ∷ l) k.1;
      pressed = sym m.2;
    }))))
    z)
    y)
    h

-- the event of bytes is one that they are
pub event_at-sound : (bs : List ℕ) (e : Event) → event_at bs ≡ Some e → IsEventBytes e bs
event_at-sound [] e h = absurd (none-some e h)
event_at-sound (a ∷ w) e h =
    split (eqb a 27) (escape_at w) (char_event_at 0 (a ∷ w)) e
    (λ t x. subst (λ (b : ℕ). IsEventBytes e (b ∷ w)) (sym (eqb-true a 27 t)) (escape_sound w e x))
    (λ t x. let m = mapped (λ c. Key (char_key 0 c)) (char_at (a ∷ w)) e x in
    let k = char_at-sound (a ∷ w) m.0 m.1 in
    inr (inl (record { char = m.0; scalar = k.0; no_escape = λ i. eqb-false a 27 t (begins_ascii a w m.0 k.1 (omega arith) ∙ i); written = k.1; pressed = sym m.2 })))
    h

-- ---- what bytes are is their event

no_char : (c : ℕ) → [] ≡ encode_utf8 c → ⊥
no_char c e = let n : length (encode_utf8 c) ≡ 0 = sym (ap length e) in omega (arith, length-encode c, len_utf8_bounds c)

plain_char : (bs : List ℕ) (c : ℕ) → bs ≡ encode_utf8 c → c ≢ 27 → event_at bs ≡ char_event_at 0 bs
plain_char [] c e h = absurd (no_char c e)
plain_char (a ∷ w) c e h = cond-false (eqb a 27) (escape_at w) (char_event_at 0 (a ∷ w)) (ne_eqb a 27 (λ i. h (ascii_is a w c e (omega arith) ∙ i)))

alt_char : (w : List ℕ) (c : ℕ) → w ≡ encode_utf8 c → c ≢ 27 → c ≢ 91 → c ≢ 79 → escape_at w ≡ char_event_at 2 w
alt_char [] c e h i j = absurd (no_char c e)
alt_char (a ∷ w) c e h i j =
    cond-false (eqb a 91) (bracket_at w) _ (ne_eqb a 91 (λ k. i (ascii_is a w c e (omega arith) ∙ k)))
    ∙ cond-false (eqb a 79) (application_at w) _ (ne_eqb a 79 (λ k. j (ascii_is a w c e (omega arith) ∙ k)))
    ∙ cond-false (eqb a 27) None (char_event_at 2 (a ∷ w)) (ne_eqb a 27 (λ k. h (ascii_is a w c e (omega arith) ∙ k)))

-- a number begins with a digit
record BeginsWithDigit (bytes : List ℕ) : Type 0 where
  digit : ℕ
  others : List ℕ
  is : bytes ≡ digit ∷ others
  low : 48 ≤ digit
  high : digit ≤ 57

number_begins : (n : ℕ) → n < 2 ^ 64 → BeginsWithDigit (decimal n)
number_begins = decimal_by_steps (λ n ds. BeginsWithDigit ds)
    (λ n h. record { digit = 48 + n; others = []; is = refl; low = omega arith; high = omega arith })
    (λ n ds some ih. record { digit = ih.digit; others = ih.others ++ (48 + n % 10) ∷ []; is = ap (λ l. l ++ (48 + n % 10) ∷ []) ih.is; low = ih.low; high = ih.high })

bracket_at-numbers : (a : ℕ) (w : List ℕ) → a ≢ 91 → a ≢ 60 → bracket_at (a ∷ w) ≡ numbers_event_at sequence_event [] (a ∷ w)
bracket_at-numbers a w h i =
    cond-false (eqb a 91) (console_at w) _ (ne_eqb a 91 h) ∙ cond-false (eqb a 60) (numbers_event_at mouse_event [] w) (numbers_event_at sequence_event [] (a ∷ w)) (ne_eqb a 60 i)

few_numbers : (ns : List ℕ) (letter : ℕ) (e : Event) → sequence_event ns letter ≡ Some e → length ns ≤ 3
few_numbers [] letter e h = omega arith
few_numbers (a ∷ []) letter e h = omega arith
few_numbers (a ∷ b ∷ []) letter e h = omega arith
few_numbers (a ∷ b ∷ c ∷ []) letter e h = omega arith
few_numbers (a ∷ b ∷ c ∷ d ∷ ns) letter e h = absurd (none-some e h)

few_mouse : (ns : List ℕ) (letter : ℕ) (e : Event) → mouse_event ns letter ≡ Some e → length ns ≤ 3
few_mouse [] letter e h = omega arith
few_mouse (a ∷ []) letter e h = omega arith
few_mouse (a ∷ b ∷ []) letter e h = omega arith
few_mouse (a ∷ b ∷ c ∷ []) letter e h = omega arith
few_mouse (a ∷ b ∷ c ∷ d ∷ ns) letter e h = absurd (none-some e h)

numbers_complete : (f : List ℕ → ℕ → Option Event) (ns : List ℕ) (letter : ℕ) (e : Event) → AreSmall ns → length ns ≤ 3 → f ns letter ≡ Some e
    → numbers_event_at f [] (numbers_bytes ns ++ letter ∷ []) ≡ Some e
numbers_complete f ns letter e small few h =
    numbers_some f (numbers_bytes ns ++ letter ∷ []) (numbers_bytes ns) letter ns refl (numbers_at-complete (numbers_bytes ns) ns (record { written = refl; few = few; small = small })) ∙ h

sequence_complete : (ns : List ℕ) (letter : ℕ) (e : Event) → AreSmall ns → sequence_event ns letter ≡ Some e → bracket_at (numbers_bytes ns ++ letter ∷ []) ≡ Some e
sequence_complete [] letter e small h =
    bracket_at-numbers letter [] (λ i. none-some e (sym (ap (sequence_event []) i) ∙ h)) (λ i. none-some e (sym (ap (sequence_event []) i) ∙ h))
    ∙ numbers_complete sequence_event [] letter e small (omega arith) h
sequence_complete (n ∷ ns) letter e small h =
    let d = number_begins n (omega (arith, small.0)) in
    let whole : numbers_bytes (n ∷ ns) ++ letter ∷ [] ≡ d.digit ∷ ((d.others ++ flat_map (λ m. 59 ∷ decimal m) ns) ++ letter ∷ []) = ap (λ l. (l ++ flat_map (λ m. 59 ∷ decimal m) ns) ++ letter ∷ []) d.is in
    ap bracket_at whole ∙ bracket_at-numbers d.digit ((d.others ++ flat_map (λ m. 59 ∷ decimal m) ns) ++ letter ∷ []) (λ i. omega (arith, d.high, i)) (λ i. omega (arith, d.high, i))
    ∙ ap (numbers_event_at sequence_event []) (sym whole) ∙ numbers_complete sequence_event (n ∷ ns) letter e small (few_numbers (n ∷ ns) letter e h) h

-- bytes that are an event have it
pub event_at-complete : (bs : List ℕ) (e : Event) → IsEventBytes e bs → event_at bs ≡ Some e
event_at-complete bs e (inl h) = ap event_at h.0 ∙ ap Some (sym h.1)
event_at-complete bs e (inr (inl h)) =
    plain_char bs h.char h.written h.no_escape ∙ ap (option_map (λ c. Key (char_key 0 c))) (char_at-complete bs h.char h.scalar h.written) ∙ ap Some (sym h.pressed)
event_at-complete bs e (inr (inr (inl h))) =
    ap event_at h.written ∙ alt_char (encode_utf8 h.char) h.char refl h.no_escape h.no_bracket h.no_application
    ∙ ap (option_map (λ c. Key (char_key 2 c))) (char_at-complete (encode_utf8 h.char) h.char h.scalar refl) ∙ ap Some (sym h.pressed)
event_at-complete bs e (inr (inr (inr (inl h)))) = ap event_at h.written ∙ sequence_complete h.numbers h.letter e h.small h.told
event_at-complete bs e (inr (inr (inr (inr (inl h))))) = ap event_at h.written ∙ numbers_complete mouse_event h.numbers h.letter e h.small (few_mouse h.numbers h.letter e h.told) h.told
event_at-complete bs e (inr (inr (inr (inr (inr (inl h)))))) = ap event_at h.written ∙ h.told
event_at-complete bs e (inr (inr (inr (inr (inr (inr h)))))) = ap event_at h.written ∙ h.told

is_event_of : (bs : List ℕ) (o : Option Event) → event_at bs ≡ o → IsEventOf bs o
is_event_of bs None h = λ e p. none-some e (sym h ∙ event_at-complete bs e p)
is_event_of bs (Some e) h = event_at-sound bs e h

-- what a function finds
pub told : (bs : List ℕ) (o : Option Event) → o ≡ event_at bs → IsEventOf bs o
told bs o h = is_event_of bs o (sym h)
