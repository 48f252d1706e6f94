-- Lists and modes read back from what they are written as.
use Rattle.std.proofs.Common.{◌≡◌, ℕ, ◌+◌, ◌<◌, ◌≤◌, get_or, subst, zero, suc, false, List, [], ◌∷◌, ◌++◌, length, map, take, drop, refl, sym, ap, ◌∙◌, arith, lt-ltb, append_assoc, append-nil, Option, None, Result, Ok}
use Rattle.std.specs.Prelude.{codes, decimal, nat_lt, ok_or, option_map, option_and_then}
use Rattle.std.specs.List.{All}
use Rattle.std.proofs.lemmas.Bool.{cond-true}
use Rattle.std.proofs.lemmas.Fmt.{length-decimal-le}
use Rattle.std.proofs.lemmas.List.{take_all, take_more, map-append}
use Rattle.std.proofs.lemmas.List.Elements.{All-nil, All-cons, All-append}
use Rattle.serde_json.specs.Data.{Data, string}
use Rattle.serde_json.specs.View.{items_of}
use Rattle.serde_json.specs.Written.{items_have_float}
use Rattle.mad_style.specs.declared.kinds.ListItemsIndentationMode.{ListItemsIndentationMode}
use Rattle.mad_style.specs.declared.kinds.ListItemsIndentationMode.TheVariants.{Hanging}
use Rattle.mad_parse.specs.Numbers.{number_below}
use Rattle.mad_parse.specs.StyleTokens.{unrecognized}
use Rattle.mad_parse.proofs.ColorLemmas.{without_put}
use Rattle.mad_parse.proofs.LawLemmas.{decimal_reads}
use Rattle.mad_parse.specs.declared.tokens.StyleToken.{StyleToken}
use Rattle.mad_json.specs.Faults.{ValueFault, bad_text}
use Rattle.mad_json.specs.Lists.{items_said, replaced}
use Rattle.mad_json.specs.Modes.{mode_said, front_mode}
use Rattle.mad_json.specs.Texts.{value_said, and_next}
use Rattle.mad_json.specs.Written.{mode_text}

-- ---- lists

-- a front that is one element longer
taken_more : {A : Type 0} (xs : List A) (i : ℕ) (d x : A) → i < length xs → get_or xs i d ≡ x → take (i + 1) xs ≡ take i xs ++ (x ∷ [])
taken_more xs i d x within is = take_more xs i d within ∙ ap (λ y. take i xs ++ (y ∷ [])) is

-- one value more is what an element is written as
pub map_more : {V A D : Type 0} (seen : V → D) (shown : A → D) (values next : List V) (xs : List A) (i : ℕ) (d x : A) (v : V) → i < length xs → get_or xs i d ≡ x
    → map seen values ≡ map shown (take i xs) → seen v ≡ shown x → next ≡ values ++ (v ∷ []) → map seen next ≡ map shown (take (i + 1) xs)
map_more seen shown values next xs i d x v within is same written more =
    ap (map seen) more
    ∙ map-append seen values (v ∷ [])
    ∙ ap (λ l. l ++ (seen v ∷ [])) same
    ∙ ap (λ y. map shown (take i xs) ++ (y ∷ [])) written
    ∙ sym (map-append shown (take i xs) (x ∷ []))
    ∙ ap (map shown) (sym (taken_more xs i d x within is))

-- one element more has P
pub all_more : {A : Type 0} (P : A → Type 0) (xs : List A) (i : ℕ) (d x : A) → i < length xs → get_or xs i d ≡ x → All P (take i xs) → P x → All P (take (i + 1) xs)
all_more P xs i d x within is all holds =
    subst (All P) (sym (taken_more xs i d x within is)) (All-append P (take i xs) (x ∷ []) all (All-cons P x [] holds (All-nil P)))

-- all elements have P
pub all_taken : {A : Type 0} (P : A → Type 0) (xs : List A) (i : ℕ) → length xs ≤ i → All P (take i xs) → All P xs
all_taken P xs i past all = subst (All P) (take_all i xs past) all

-- a list is read back where each of its elements is
pub items_back : {A : Type 0} (f : List StyleToken → A) (shown : A → Data) (xs said : List A) → All (λ x. value_said f (shown x) ≡ Ok x) xs → items_said f (items_of (map shown xs)) said ≡ Ok (said ++ xs)
items_back f shown [] said all = ap Ok (sym (append-nil said))
items_back {A} f shown (x ∷ xs) said all =
    let next : A → Result (List A) ValueFault = λ y. items_said f (items_of (map shown xs)) (said ++ y ∷ []) in
    ap (λ r. and_next r next) (all 0 x (omega arith))
    ∙ items_back f shown xs (said ++ x ∷ []) (λ k d within. all (suc k) d (omega (arith, within)))
    ∙ ap Ok (append_assoc said (x ∷ []) xs)

-- a list replaces one that is as long
drop_all : {A : Type 0} (n : ℕ) (l : List A) → length l ≡ n → drop n l ≡ []
drop_all zero [] is = refl
drop_all zero (x ∷ l) is = absurd (omega (arith, is))
drop_all (suc n) [] is = refl
drop_all (suc n) (x ∷ l) is = drop_all n l (omega (arith, is))

-- a list that is replaced by one as long is that one
pub replaced_all : {A : Type 0} (old new : List A) → length old ≡ length new → replaced old new ≡ new
replaced_all old new same =
    ap (λ l. l ++ drop (length new) old) (take_all (length old) new (omega (arith, same)))
    ∙ ap (λ l. new ++ l) (drop_all (length new) old same)
    ∙ append-nil new

-- no text holds a float
pub texts_flat : {A : Type 0} (text : A → List ℕ) (xs : List A) → items_have_float (items_of (map (λ x. string (text x)) xs)) ≡ false
texts_flat text [] = refl
texts_flat text (x ∷ xs) = texts_flat text xs

-- ---- modes

three_digits : (n : ℕ) → n < 256 → length (decimal n) ≤ 3
three_digits n small = length-decimal-le 3 n (omega arith) (omega (arith, small)) (omega (arith, small))

-- a mode with a hanging indent is read back from its text
pub mode_back : (extra : ℕ) → extra < 256 → mode_said (string (mode_text (Hanging extra))) ≡ Ok (Hanging extra)
mode_back extra small =
    let text_known : Option ListItemsIndentationMode → Result ListItemsIndentationMode ValueFault = λ o. ok_or o (bad_text (unrecognized (mode_text (Hanging extra)))) in
    ap (λ o. text_known (option_and_then front_mode o)) (without_put 41 (codes "hanging(" ++ decimal extra))
    ∙ ap text_known
    (cond-true (nat_lt (length (decimal extra)) 4) (option_map Hanging (number_below 256 (decimal extra))) None (lt-ltb (length (decimal extra)) 4 (omega (arith, three_digits extra small)))
    ∙ ap (option_map Hanging) (decimal_reads 256 extra small (omega (arith, small))))
