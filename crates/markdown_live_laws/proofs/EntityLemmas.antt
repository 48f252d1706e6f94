-- What entities stand for are characters.
use Rattle.std.proofs.Common.{◌≡◌, ℕ, ◌+◌, ◌<◌, ◌≤◌, Bool, true, false, not, ◌&&◌, ◌||◌, ◌==◌, List, [], ◌∷◌, take, drop, Option, Some, None, refl, sym, ap, ◌∙◌, arith, if◌then◌else◌}
use Rattle.std.specs.Prelude.{nat_lt, nat_le, IfSome, option_map}
use Rattle.std.specs.Char.{IsScalar, is_ascii_alphanumeric, is_ascii_digit, is_ascii_hexdigit}
use Rattle.std.specs.List.{list_all, prefix_len}
use Rattle.std.specs.Str.Parse.{digits_value}
use Rattle.std.proofs.Math.Utf8.{scalar, low_scalar}
use Rattle.std.proofs.lemmas.Bool.{and_parts}
use Rattle.std.proofs.lemmas.Bool.Decides.{nat_tests}
use Rattle.markdown_entities.specs.Lookup.{characters_named, find_name, first_letter, second_of}
use Rattle.markdown_entities.specs.Names.{names_with, large_a, large_b, large_c, large_d, large_e, large_f, large_g, large_h, large_i, large_j, large_k, large_l, large_m, large_n, large_o, large_p, large_q, large_r, large_s, large_t, large_u, large_v, large_w, large_x, large_y, large_z, small_a, small_b, small_c, small_d, small_e, small_f, small_g, small_h, small_i, small_j, small_k, small_l, small_m, small_n, small_o, small_p, small_q, small_r, small_s, small_t, small_u, small_v, small_w, small_x, small_y, small_z}
use Rattle.markdown_entities.specs.Rows.{Row}
use Rattle.markdown_entities.specs.declared.lookup.Named.{Named}
use Rattle.markdown_marks.specs.Bytes.{first}
use Rattle.markdown_spans.specs.Entities.{char_of, decimal, entity_of, hexadecimal, named, numeric, value_after, with_char, with_named}
use Rattle.markdown_spans.specs.declared.entities.Entity.{Entity}

abbrev is_named_row : Row → Bool
is_named_row r = scalar r.first && ((r.second == 0) || scalar r.second)

if_named : (t : Bool) (a b : List Row) → list_all is_named_row a ≡ true → list_all is_named_row b ≡ true → list_all is_named_row (if t then a else b) ≡ true
if_named true a b h k = h
if_named false a b h k = k

names_are : (letter : ℕ) → list_all is_named_row (names_with letter) ≡ true
names_are letter =
    if_named (letter == 65) large_a _ refl
    (if_named (letter == 66) large_b _ refl
    (if_named (letter == 67) large_c _ refl
    (if_named (letter == 68) large_d _ refl
    (if_named (letter == 69) large_e _ refl
    (if_named (letter == 70) large_f _ refl
    (if_named (letter == 71) large_g _ refl
    (if_named (letter == 72) large_h _ refl
    (if_named (letter == 73) large_i _ refl
    (if_named (letter == 74) large_j _ refl
    (if_named (letter == 75) large_k _ refl
    (if_named (letter == 76) large_l _ refl
    (if_named (letter == 77) large_m _ refl
    (if_named (letter == 78) large_n _ refl
    (if_named (letter == 79) large_o _ refl
    (if_named (letter == 80) large_p _ refl
    (if_named (letter == 81) large_q _ refl
    (if_named (letter == 82) large_r _ refl
    (if_named (letter == 83) large_s _ refl
    (if_named (letter == 84) large_t _ refl
    (if_named (letter == 85) large_u _ refl
    (if_named (letter == 86) large_v _ refl
    (if_named (letter == 87) large_w _ refl
    (if_named (letter == 88) large_x _ refl
    (if_named (letter == 89) large_y _ refl
    (if_named (letter == 90) large_z _ refl
    (if_named (letter == 97) small_a _ refl
    (if_named (letter == 98) small_b _ refl
    (if_named (letter == 99) small_c _ refl
    (if_named (letter == 100) small_d _ refl
    (if_named (letter == 101) small_e _ refl
    (if_named (letter == 102) small_f _ refl
    (if_named (letter == 103) small_g _ refl
    (if_named (letter == 104) small_h _ refl
    (if_named (letter == 105) small_i _ refl
    (if_named (letter == 106) small_j _ refl
    (if_named (letter == 107) small_k _ refl
    (if_named (letter == 108) small_l _ refl
    (if_named (letter == 109) small_m _ refl
    (if_named (letter == 110) small_n _ refl
    (if_named (letter == 111) small_o _ refl
    (if_named (letter == 112) small_p _ refl
    (if_named (letter == 113) small_q _ refl
    (if_named (letter == 114) small_r _ refl
    (if_named (letter == 115) small_s _ refl
    (if_named (letter == 116) small_t _ refl
    (if_named (letter == 117) small_u _ refl
    (if_named (letter == 118) small_v _ refl
    (if_named (letter == 119) small_w _ refl
    (if_named (letter == 120) small_x _ refl
    (if_named (letter == 121) small_y _ refl
    (if_named (letter == 122) small_z _ refl
    refl)))))))))))))))))))))))))))))))))))))))))))))))))))

-- what a name stands for are characters
record IsCharNamed (n : Named) : Type 0 where
  first : IsScalar n.first
  second : IfSome n.second IsScalar

second_by : (t : Bool) (c : ℕ) → (c == 0) ≡ t → ((c == 0) || scalar c) ≡ true → IfSome (if t then None else Some c) IsScalar
second_by true c is h = tt
second_by false c is h = sym (ap (λ z. z || scalar c) is) ∙ h

found_by : (t : Bool) (r : Row) (rest : Option Named) → is_named_row r ≡ true → IfSome rest IsCharNamed → IfSome (if t then Some (record { first = r.first; second = second_of r.second }) else rest) IsCharNamed
found_by true r rest h k =
    let both = and_parts (scalar r.first) ((r.second == 0) || scalar r.second) h in
    record { first = both.0; second = second_by (r.second == 0) r.second refl both.1 }
found_by false r rest h k = k

found_chars : (name : List ℕ) (rows : List Row) → list_all is_named_row rows ≡ true → IfSome (find_name name rows) IsCharNamed
unfolding find_name
found_chars name [] h = tt
found_chars name (r ∷ rs) h = let both = and_parts (is_named_row r) (list_all is_named_row rs) h in found_by _ r (find_name name rs) both.0 (found_chars name rs both.1)

-- what an entity stands for are characters
pub record IsCharEntity (e : Entity) : Type 0 where
  pub shown : IsScalar e.shown
  pub second : IfSome e.second IsScalar

number_by : (a b c : Bool) (n : ℕ) → (n == 0) ≡ a → (nat_le 55296 n && nat_lt n 57344) ≡ b → nat_lt 1114111 n ≡ c → IsScalar (if a || b || c then 65533 else n)
number_by true b c n x y z = refl
number_by false true c n x y z = refl
number_by false false true n x y z = refl
number_by false false false n x y z = range (nat_lt n 55296) refl
  where
    range : (t : Bool) → nat_lt n 55296 ≡ t → IsScalar n
    range true low = low_scalar n (grind (arith, nat_tests, low))
    range false high = and_high (grind (arith, nat_tests, high, y)) (grind (arith, nat_tests, z))
      where
        and_high : 57344 ≤ n → n < 1114112 → IsScalar n
        and_high least most = grind (arith, nat_tests, least, most)

number_char : (n : ℕ) → IsScalar (char_of n)
number_char n = number_by (n == 0) (nat_le 55296 n && nat_lt n 57344) (nat_lt 1114111 n) n refl refl refl

if_entity : (t : Bool) (a b : Option Entity) → IfSome a IsCharEntity → IfSome b IsCharEntity → IfSome (if t then a else b) IsCharEntity
if_entity true a b h k = h
if_entity false a b h k = k

named_by : (len : ℕ) (found : Option Named) → IfSome found IsCharNamed → IfSome (option_map (with_named len) found) IsCharEntity
named_by len None h = tt
named_by len (Some n) h = record { shown = h.first; second = h.second }

char_entity : (t : Bool) (len n : ℕ) → IfSome (if t then None else Some (with_char len (char_of n))) IsCharEntity
char_entity true len n = tt
char_entity false len n = record { shown = number_char n; second = tt }

hexadecimal_chars : (bytes : List ℕ) → IfSome (hexadecimal bytes) IsCharEntity
hexadecimal_chars bytes = let len : ℕ = prefix_len is_ascii_hexdigit bytes in char_entity ((len == 0) || nat_lt 6 len || not (first (drop len bytes) == 59)) (len + 3) (value_after 0 (take len bytes))

decimal_chars : (bytes : List ℕ) → IfSome (decimal bytes) IsCharEntity
decimal_chars bytes = let len : ℕ = prefix_len is_ascii_digit bytes in char_entity ((len == 0) || nat_lt 7 len || not (first (drop len bytes) == 59)) (len + 2) (digits_value 10 (take len bytes))

characters_chars : (name : List ℕ) → IfSome (characters_named name) IsCharNamed
characters_chars name = found_chars name (names_with (first_letter name)) (names_are (first_letter name))

if_mapped : (t : Bool) (len : ℕ) (found : Option Named) → IfSome found IsCharNamed → IfSome (if t then option_map (with_named len) found else None) IsCharEntity
if_mapped true len found h = named_by len found h
if_mapped false len found h = tt

named_chars : (rest : List ℕ) → IfSome (named rest) IsCharEntity
named_chars rest =
    let len : ℕ = prefix_len is_ascii_alphanumeric rest in
    if_mapped (first (drop len rest) == 59) (len + 1) (characters_named (take len rest)) (characters_chars (take len rest))

-- so it is with each entity
pub entity_chars : (rest : List ℕ) → IfSome (entity_of rest) IsCharEntity
entity_chars rest =
    if_entity (first rest == 35) (numeric (drop 1 rest)) (named rest)
    (if_entity ((first (drop 1 rest) == 120) || (first (drop 1 rest) == 88)) (hexadecimal (drop 1 (drop 1 rest))) (decimal (drop 1 rest)) (hexadecimal_chars (drop 1 (drop 1 rest))) (decimal_chars (drop 1 rest)))
    (named_chars rest)
