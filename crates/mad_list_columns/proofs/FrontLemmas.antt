-- The front of a text that some columns have room for, character by character.
use Rattle.std.proofs.Common.{◌≡◌, ⊎_elim, ℕ, ◌+◌, ◌-◌, ◌<◌, ◌≤◌, true, false, cond, Bool, List, [], ◌∷◌, ◌++◌, length, take, drop, refl, ap, sym, ◌∙◌, subst, arith, length-append, append_assoc, append-nil, chars, encode_utf8_all, IsUtf8}
use Rattle.std.specs.Prelude.{encode_utf8, nat_le}
use Rattle.std.specs.Char.{len_utf8}
use Rattle.std.specs.Str.{IsCharBoundary}
use Rattle.std.proofs.Math.Seq.{take-add}
use Rattle.std.proofs.StrCases.{chars_of_empty}
use Rattle.std.proofs.lemmas.Bool.Decides.{nat_tests}
use Rattle.std.proofs.lemmas.List.{length-drop, take_at}
use Rattle.std.proofs.lemmas.Str.{IsCharBoundary-from_drop, IsUtf8-past_char, chars_past_char, drop_past_char, length-encode}
use Rattle.mad_characters.specs.Columns.{char_columns}
use Rattle.mad_measure.specs.TextColumns.{columns}
use Rattle.mad_list_columns.specs.Places.{front_within}

-- The first bytes of the text are characters that there was room for; there is `room` left for `rest`, which comes after them.
pub record RoomSoFar (text rest : List ℕ) (most room bytes : ℕ) : Type 0 where
  pub utf8 : IsUtf8 rest
  pub inside : bytes ≤ length text
  pub left : drop bytes text ≡ rest
  pub within : room ≤ most
  pub front : encode_utf8_all (front_within most (chars text)) ≡ take bytes text ++ encode_utf8_all (front_within room (chars rest))
  pub count : columns (front_within most (chars text)) + room ≡ most + columns (front_within room (chars rest))

-- before the first character all the room is left
pub room_none : (text rest : List ℕ) (most : ℕ) → IsUtf8 text → rest ≡ text → RoomSoFar text rest most most 0
room_none text rest most utf8 e = record {
  utf8 = subst IsUtf8 (sym e) utf8;
  inside = omega arith;
  left = sym e;
  within = omega arith;
  front = ap (λ (t : List ℕ). encode_utf8_all (front_within most (chars t))) (sym e);
  count = omega (arith, ap (λ (t : List ℕ). columns (front_within most (chars t))) e);
}

fits_next : (room c : ℕ) (cs : List ℕ) → char_columns c ≤ room → front_within room (c ∷ cs) ≡ c ∷ front_within (room - char_columns c) cs
fits_next room c cs fits = let test : nat_le (char_columns c) room ≡ true = grind (arith, nat_tests) in ap (λ (b : Bool). cond b (c ∷ front_within (room - char_columns c) cs) []) test

stops : (room c : ℕ) (cs : List ℕ) → room < char_columns c → front_within room (c ∷ cs) ≡ []
stops room c cs wide = let test : nat_le (char_columns c) room ≡ false = grind (arith, nat_tests) in ap (λ (b : Bool). cond b (c ∷ front_within (room - char_columns c) cs) []) test

-- one character more
pub room_more : (text rest more : List ℕ) (most room left bytes bytes' c : ℕ) → RoomSoFar text rest most room bytes → rest ≡ encode_utf8 c ++ more → left + char_columns c ≡ room → bytes' ≡ bytes + len_utf8 c → RoomSoFar text more most left bytes'
room_more text rest more most room left bytes bytes' c h parts took at =
    let next : drop bytes text ≡ encode_utf8 c ++ more = h.left ∙ parts in
    let size : length (drop bytes text) ≡ length (encode_utf8 c ++ more) = ap length next in
    let rest_front : List ℕ = front_within left (chars more) in
    let after : left ≡ room - char_columns c = omega (arith, took) in
    let grown : front_within room (chars rest) ≡ c ∷ rest_front =
    ap (front_within room) (chars_past_char rest more c h.utf8 parts) ∙ fits_next room c (chars more) (omega (arith, took)) ∙ ap (λ (n : ℕ). c ∷ front_within n (chars more)) (sym after) in
    let taken : take bytes' text ≡ take bytes text ++ encode_utf8 c =
    ap (λ (n : ℕ). take n text) at
    ∙ take-add bytes (len_utf8 c) text
    ∙ ap (λ (bs : List ℕ). take bytes text ++ take (len_utf8 c) bs) next
    ∙ ap (λ (bs : List ℕ). take bytes text ++ bs) (take_at (encode_utf8 c) more (len_utf8 c) (length-encode c)) in
    record {
      utf8 = IsUtf8-past_char rest more c h.utf8 parts;
      inside = omega (arith, h.inside, at, size, length-drop bytes text, length-append (encode_utf8 c) more, length-encode c);
      left = ap (λ (n : ℕ). drop n text) at ∙ drop_past_char text more bytes c next;
      within = omega (arith, h.within, took);
      front =
          h.front
          ∙ ap (λ (cs : List ℕ). take bytes text ++ encode_utf8_all cs) grown
          ∙ sym (append_assoc (take bytes text) (encode_utf8 c) (encode_utf8_all rest_front))
          ∙ ap (λ (bs : List ℕ). bs ++ encode_utf8_all rest_front) (sym taken);
      count = omega (arith, h.count, ap columns grown, took);
    }

-- the bytes so far end between two characters
pub room_border : (text rest : List ℕ) (most room bytes : ℕ) → RoomSoFar text rest most room bytes → IsCharBoundary text bytes
room_border text rest most room bytes h = IsCharBoundary-from_drop text bytes h.inside (subst IsUtf8 (sym h.left) h.utf8)

-- what there was room for, and its columns
pub record IsFrontWithin (text front : List ℕ) (most count : ℕ) : Type 0 where
  pub front_is : front ≡ encode_utf8_all (front_within most (chars text))
  pub count_is : count ≡ columns (front_within most (chars text))

front_done : (text rest : List ℕ) (most room bytes : ℕ) → RoomSoFar text rest most room bytes → front_within room (chars rest) ≡ [] → IsFrontWithin text (take bytes text) most (most - room)
front_done text rest most room bytes h none = record {
  front_is = sym (h.front ∙ ap (λ (cs : List ℕ). take bytes text ++ encode_utf8_all cs) none ∙ append-nil (take bytes text));
  count_is = omega (arith, h.count, ap columns none, h.within);
}

-- the next character has no room
pub front_before : (text rest more : List ℕ) (most room bytes c : ℕ) → RoomSoFar text rest most room bytes → rest ≡ encode_utf8 c ++ more → room < char_columns c → IsFrontWithin text (take bytes text) most (most - room)
front_before text rest more most room bytes c h parts wide =
    front_done text rest most room bytes h (ap (front_within room) (chars_past_char rest more c h.utf8 parts) ∙ stops room c (chars more) wide)

-- the text has ended
pub front_all : (text rest : List ℕ) (most room bytes : ℕ) → RoomSoFar text rest most room bytes → length rest ≡ 0 → IsFrontWithin text (take bytes text) most (most - room)
front_all text rest most room bytes h none = front_done text rest most room bytes h (ap (front_within room) (chars_of_empty rest none))
