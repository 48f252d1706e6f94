-- The steps of the loops over characters and names.
use Rattle.std.proofs.Common.{◌≡◌, ℕ, ◌+◌, ◌<◌, ◌≤◌, cond, List, [], ◌∷◌, ◌++◌, length, map, get_or, drop, Option, Some, None, refl, ap, sym, ◌∙◌, append_assoc}
use Rattle.std.specs.Prelude.{count_by}
use Rattle.std.specs.List.{flat_map}
use Rattle.std.specs.Option.{option_to_list}
use Rattle.std.specs.Str.{encode_utf8_all, bytes_eq}
use Rattle.std.specs.Char.Iter.{case_mapping_chars, case_mapping_first, case_mapping_second, case_mapping_third}
use Rattle.std.specs.Char.Unicode.ToLowercase.{to_lowercase}
use Rattle.std.proofs.lemmas.List.{append-nil, drop_more, drop_all, map-append}
use Rattle.std.proofs.lemmas.List.Sums.{sum_by-cons}
use Rattle.std.proofs.lemmas.Str.{encodes-append}
use Rattle.std.specs.Borrow.{Bor}
use Rattle.std.proofs.lemmas.Grind.{flat_map-append}
use Rattle.markdown_anchors.specs.Anchors.{name_char, heading_name, name_bytes, numbered, times, names_after}

-- what is left of characters, in bytes
abbrev pub left_bytes : List ℕ → List ℕ
left_bytes cs = encode_utf8_all (flat_map name_char cs)

-- what is left of two texts together is what is left of one, and then of the other
pub left_both : (a b : List ℕ) → left_bytes (a ++ b) ≡ left_bytes a ++ left_bytes b
left_both a b = ap encode_utf8_all (flat_map-append name_char a b) ∙ encodes-append (flat_map name_char a) (flat_map name_char b)

-- more characters
pub left_more : (before middle after cs ds : List ℕ) → after ≡ middle ++ left_bytes ds → middle ≡ before ++ left_bytes cs → after ≡ before ++ left_bytes (cs ++ ds)
left_more before middle after cs ds p q =
    p ∙ ap (λ l. l ++ left_bytes ds) q ∙ append_assoc before (left_bytes cs) (left_bytes ds) ∙ ap (λ l. before ++ l) (sym (left_both cs ds))

-- the characters that a change of case gives, as it gives them
three_are : (a b d : Option ℕ) → case_mapping_chars (record { first = a; second = b; third = d }) ≡ option_to_list a ++ (option_to_list b ++ option_to_list d)
three_are None None None = refl
three_are None None (Some z) = refl
three_are None (Some y) None = refl
three_are None (Some y) (Some z) = refl
three_are (Some x) None None = refl
three_are (Some x) None (Some z) = refl
three_are (Some x) (Some y) None = refl
three_are (Some x) (Some y) (Some z) = refl

-- a change of case gives a first, a second and a third character, as far as they are there
pub small_are : (s : _) → case_mapping_chars s ≡ option_to_list (case_mapping_first s) ++ (option_to_list (case_mapping_second s) ++ option_to_list (case_mapping_third s))
small_are s = three_are s.first s.second s.third

-- what is left of each of these three is put behind the others, and is all that is left of them
pub three_left : (t u v w : List ℕ) (a b d : Option ℕ) (s : _) (cs : List ℕ) → u ≡ t ++ left_bytes (option_to_list a) → v ≡ u ++ left_bytes (option_to_list b) → w ≡ v ++ left_bytes (option_to_list d)
    → a ≡ case_mapping_first s → b ≡ case_mapping_second s → d ≡ case_mapping_third s → case_mapping_chars s ≡ cs → w ≡ t ++ left_bytes cs
three_left t u v w a b d s cs p q r e f g same =
    let all : (option_to_list a ++ option_to_list b) ++ option_to_list d ≡ cs =
    append_assoc (option_to_list a) (option_to_list b) (option_to_list d)
    ∙ ap (λ o. option_to_list o ++ (option_to_list b ++ option_to_list d)) e
    ∙ ap (λ o. option_to_list (case_mapping_first s) ++ (option_to_list o ++ option_to_list d)) f
    ∙ ap (λ o. option_to_list (case_mapping_first s) ++ (option_to_list (case_mapping_second s) ++ option_to_list o)) g
    ∙ sym (small_are s) ∙ same in
    left_more t v w (option_to_list a ++ option_to_list b) (option_to_list d) r (left_more t u v (option_to_list a) (option_to_list b) q p) ∙ ap (λ l. t ++ left_bytes l) all

-- one character of a text
pub name_step : (cs : List ℕ) (n c : ℕ) (row new start : List ℕ) → (n < length cs) × (c ≡ get_or cs n c) → row ++ encode_utf8_all (heading_name (drop n cs)) ≡ start → new ≡ row ++ left_bytes (to_lowercase c)
    → new ++ encode_utf8_all (heading_name (drop (n + 1) cs)) ≡ start
name_step cs n c row new start h before more =
    let rest : List ℕ = flat_map to_lowercase (drop (n + 1) cs) in
    let next : drop n cs ≡ c ∷ drop (n + 1) cs = drop_more cs n c h.0 ∙ ap (λ d. d ∷ drop (n + 1) cs) (sym h.1) in
    ap (λ l. l ++ left_bytes rest) more ∙ append_assoc row (left_bytes (to_lowercase c)) (left_bytes rest) ∙ ap (λ l. row ++ l) (sym (left_both (to_lowercase c) rest))
    ∙ ap (λ (l : List ℕ). row ++ encode_utf8_all (heading_name l)) (sym next) ∙ before

-- past the last character the row is the whole name
pub name_end : (cs : List ℕ) (n : ℕ) (row start : List ℕ) → length cs ≤ n → row ++ encode_utf8_all (heading_name (drop n cs)) ≡ start → row ≡ start
name_end cs n row start all before = sym (append-nil row) ∙ sym (ap (λ (l : List ℕ). row ++ encode_utf8_all (heading_name l)) (drop_all n cs all)) ∙ before

-- how often a name is among names, by their bytes
pub times_of : {S : Type 0} (bytes : S → List ℕ) (name : List ℕ) (names : List S) → count_by (λ (other : S). bytes_eq (bytes other) name) names ≡ times name (map bytes names)
times_of bytes name [] = refl
times_of {S} bytes name (n ∷ names) =
    sum_by-cons (λ (other : S). cond (bytes_eq (bytes other) name) 1 0) n names
    ∙ ap (λ k. cond (bytes_eq (bytes n) name) 1 0 + k) (times_of bytes name names)
    ∙ sym (sum_by-cons (λ (other : List ℕ). cond (bytes_eq other name) 1 0) (bytes n) (map bytes names))

-- one text of several
pub names_step : {S : Type 0} (bytes : S → List ℕ) (texts : List (Bor (List ℕ))) (i : ℕ) (d : Bor (List ℕ)) (names before names' before' : List S) (all : List (List ℕ)) (own last : S) (empty other again : List ℕ) (others : List S) (count : ℕ) → i < length texts
    → map bytes names ++ names_after (map bytes before) (map (λ (u : Bor (List ℕ)). u.now) (drop i texts)) ≡ all
    → bytes own ≡ empty ++ name_bytes (get_or texts i d).now → empty ≡ [] → other ≡ bytes own → others ≡ before → count ≡ count_by (λ (s : S). bytes_eq (bytes s) other) others
    → again ≡ bytes own → bytes last ≡ numbered again count → names' ≡ names ++ last ∷ [] → before' ≡ before ++ own ∷ []
    → map bytes names' ++ names_after (map bytes before') (map (λ (u : Bor (List ℕ)). u.now) (drop (i + 1) texts)) ≡ all
names_step {S} bytes texts i d names before names' before' all own last empty other again others count below inv named none is_other are counted is_again made more kept =
    let t : Bor (List ℕ) = get_or texts i d in
    let name : List ℕ = name_bytes t.now in
    let B : List (List ℕ) = map bytes before in
    let rest : List (List ℕ) = map (λ (u : Bor (List ℕ)). u.now) (drop (i + 1) texts) in
    let own_is : bytes own ≡ name = named ∙ ap (λ l. l ++ name) none in
    let count_is : count ≡ times name B =
    counted ∙ ap (λ (n : List ℕ). count_by (λ (s : S). bytes_eq (bytes s) n) others) (is_other ∙ own_is) ∙ ap (count_by (λ (s : S). bytes_eq (bytes s) name)) are ∙ times_of bytes name before in
    let last_is : bytes last ≡ numbered name (times name B) = made ∙ ap (λ (n : List ℕ). numbered n count) (is_again ∙ own_is) ∙ ap (numbered name) count_is in
    let names_are : map bytes names' ≡ map bytes names ++ numbered name (times name B) ∷ [] = ap (map bytes) more ∙ map-append bytes names (last ∷ []) ∙ ap (λ (l : List ℕ). map bytes names ++ l ∷ []) last_is in
    let before_are : map bytes before' ≡ B ++ name ∷ [] = ap (map bytes) kept ∙ map-append bytes before (own ∷ []) ∙ ap (λ (l : List ℕ). B ++ l ∷ []) own_is in
    ap (λ (l : List (List ℕ)). l ++ names_after (map bytes before') rest) names_are
    ∙ append_assoc (map bytes names) (numbered name (times name B) ∷ []) (names_after (map bytes before') rest)
    ∙ ap (λ (b : List (List ℕ)). map bytes names ++ numbered name (times name B) ∷ names_after b rest) before_are
    ∙ sym (ap (λ (l : List (Bor (List ℕ))). map bytes names ++ names_after B (map (λ (u : Bor (List ℕ)). u.now) l)) (drop_more texts i d below))
    ∙ inv

-- past the last text all names are there
pub names_end : (texts : List (Bor (List ℕ))) (i : ℕ) (names before all : List (List ℕ)) → length texts ≤ i → names ++ names_after before (map (λ (u : Bor (List ℕ)). u.now) (drop i texts)) ≡ all → names ≡ all
names_end texts i names before all past inv =
    sym (append-nil names) ∙ sym (ap (λ (l : List (Bor (List ℕ))). names ++ names_after before (map (λ (u : Bor (List ℕ)). u.now) l)) (drop_all i texts past)) ∙ inv
