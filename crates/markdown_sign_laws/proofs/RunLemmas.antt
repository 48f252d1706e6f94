-- Bytes are cut behind those in front that pass a test, as behind a run of one sign.
use Rattle.std.proofs.Common.{◌≡◌, ℕ, zero, suc, ◌+◌, Bool, true, false, cond, ◌||◌, ◌==◌, List, [], ◌∷◌, ◌++◌, length, drop, replicate, Option, Some, None, refl, sym, ap, ◌∙◌, arith}
use Rattle.std.proofs.lemmas.Bool.{and_parts, and_from, both_ways, eqb-true, eq-eqb, false_from_ne_true}
use Rattle.std.proofs.lemmas.Bool.Decides.{nat_tests}
use Rattle.std.proofs.lemmas.List.{drop_at, length-replicate}
use Rattle.std.specs.List.{list_all, prefix_len}
use Rattle.markdown_marks.specs.Bytes.{count_in_front, ends_sign, is_blank_byte}
use Rattle.markdown_sign_laws.specs.Words.{is_space_or_tab, are_blanks, is_apart, begins_with}

-- ---- answers

-- an answer that isn't none is this one
pub not_none : {A : Type 0} (t : Bool) (o : Option A) (y : A) → cond t None o ≡ Some y → (t ≡ false) × (o ≡ Some y)
not_none true o y h = let no : None ≡ Some y = h in absurd (cc)
not_none false o y h = (refl, h)

-- an answer that is some is this one
pub some_found : {A : Type 0} (t : Bool) (x y : A) → cond t (Some x) None ≡ Some y → (t ≡ true) × (x ≡ y)
some_found true x y h = (refl, cc)
some_found false x y h = let no : None ≡ Some y = h in absurd (cc)

pub same_some : {A : Type 0} (x y : A) → Some x ≡ Some y → x ≡ y
same_some x y h = cc

pub not_zero : (n : ℕ) → (suc n == 0) ≡ false
not_zero n = grind (arith, nat_tests)

pub one_more : (n : ℕ) → 1 + n ≡ suc n
one_more n = omega arith

-- ---- bytes that pass a test

-- the first byte passes
abbrev pub begins : (ℕ → Bool) → List ℕ → Bool
begins p [] = false
begins p (b ∷ bs) = p b

-- bytes are some that pass, and others of which the first doesn't
pub record Cut (p : ℕ → Bool) (bytes : List ℕ) : Type 0 where
  pub front : List ℕ
  pub rest : List ℕ
  pub whole : bytes ≡ front ++ rest
  pub passes : list_all p front ≡ true
  pub stops : begins p rest ≡ false
  pub long : prefix_len p bytes ≡ length front

cut_by : (t : Bool) (p : ℕ → Bool) (b : ℕ) (bs : List ℕ) → p b ≡ t → Cut p bs → Cut p (b ∷ bs)
cut_by true p b bs e c = record {
  front = b ∷ c.front;
  rest = c.rest;
  whole = ap (λ (xs : List ℕ). b ∷ xs) c.whole;
  passes = and_from (p b) (list_all p c.front) e c.passes;
  stops = c.stops;
  long = ap (λ (t : Bool). cond t (1 + prefix_len p bs) 0) e ∙ ap (λ (n : ℕ). 1 + n) c.long ∙ one_more (length c.front);
}
cut_by false p b bs e c = record { front = []; rest = b ∷ bs; whole = refl; passes = refl; stops = e; long = ap (λ (t : Bool). cond t (1 + prefix_len p bs) 0) e }

pub cut : (p : ℕ → Bool) (bytes : List ℕ) → Cut p bytes
cut p [] = record { front = []; rest = []; whole = refl; passes = refl; stops = refl; long = refl }
cut p (b ∷ bs) = cut_by (p b) p b bs refl (cut p bs)

-- so many pass in front
pub cut_here : (p : ℕ → Bool) (front rest : List ℕ) → list_all p front ≡ true → begins p rest ≡ false → prefix_len p (front ++ rest) ≡ length front
cut_here p [] [] h e = refl
cut_here p [] (b ∷ bs) h e = ap (λ (t : Bool). cond t (1 + prefix_len p bs) 0) e
cut_here p (b ∷ bs) rest h e =
    let both = and_parts (p b) (list_all p bs) h in
    ap (λ (t : Bool). cond t (1 + prefix_len p (bs ++ rest)) 0) both.0 ∙ ap (λ (n : ℕ). 1 + n) (cut_here p bs rest both.1 e) ∙ one_more (length bs)

-- ---- runs of one sign

pub same_signs : (sign : ℕ) (bytes : List ℕ) → list_all (λ b. b == sign) bytes ≡ true → bytes ≡ replicate (length bytes) sign
same_signs sign [] h = refl
same_signs sign (b ∷ bs) h =
    let both = and_parts (b == sign) (list_all (λ b. b == sign) bs) h in
    ap (λ (c : ℕ). c ∷ bs) (eqb-true b sign both.0) ∙ ap (λ (xs : List ℕ). sign ∷ xs) (same_signs sign bs both.1)

all_signs : (sign n : ℕ) → list_all (λ b. b == sign) (replicate n sign) ≡ true
all_signs sign zero = refl
all_signs sign (suc n) = and_from (sign == sign) (list_all (λ b. b == sign) (replicate n sign)) (eq-eqb sign sign refl) (all_signs sign n)

same_begin : (sign : ℕ) (rest : List ℕ) → begins (λ b. b == sign) rest ≡ begins_with sign rest
same_begin sign [] = refl
same_begin sign (b ∷ bs) = refl

-- bytes are as many of one sign as are in front, and others
pub record Run (sign : ℕ) (bytes : List ℕ) : Type 0 where
  pub rest : List ℕ
  pub whole : bytes ≡ replicate (count_in_front sign bytes) sign ++ rest
  pub stops : begins_with sign rest ≡ false
  pub left : drop (count_in_front sign bytes) bytes ≡ rest

pub run : (sign : ℕ) (bytes : List ℕ) → Run sign bytes
unfolding count_in_front
run sign bytes =
    let c = cut (λ b. b == sign) bytes in
    record {
      rest = c.rest;
      whole = c.whole ∙ ap (λ (xs : List ℕ). xs ++ c.rest) (same_signs sign c.front c.passes) ∙ ap (λ (n : ℕ). replicate n sign ++ c.rest) (sym c.long);
      stops = sym (same_begin sign c.rest) ∙ c.stops;
      left = ap (λ (n : ℕ). drop n bytes) c.long ∙ ap (λ (xs : List ℕ). drop (length c.front) xs) c.whole ∙ drop_at c.front c.rest (length c.front) refl;
    }

-- so many are in front
pub counted : (sign n : ℕ) (rest : List ℕ) → begins_with sign rest ≡ false → count_in_front sign (replicate n sign ++ rest) ≡ n
unfolding count_in_front
counted sign n rest h = cut_here (λ b. b == sign) (replicate n sign) rest (all_signs sign n) (same_begin sign rest ∙ h) ∙ length-replicate n sign

pub left_behind : (sign n : ℕ) (rest : List ℕ) → drop n (replicate n sign ++ rest) ≡ rest
left_behind sign n rest = drop_at (replicate n sign) rest n (length-replicate n sign)

-- ---- blanks

-- a blank is no other sign
pub other_sign : (sign b : ℕ) → is_space_or_tab sign ≡ false → is_space_or_tab b ≡ true → (b == sign) ≡ false
other_sign sign b h k = false_from_ne_true (b == sign) (λ e. both_ways (is_space_or_tab sign) h (ap is_space_or_tab (sym (eqb-true b sign e)) ∙ k))

pub apart_stops : (sign : ℕ) (rest : List ℕ) → is_space_or_tab sign ≡ false → is_apart rest ≡ true → begins_with sign rest ≡ false
apart_stops sign [] h k = refl
apart_stops sign (b ∷ bs) h k = other_sign sign b h k

pub blanks_apart : (bytes : List ℕ) → are_blanks bytes ≡ true → is_apart bytes ≡ true
blanks_apart [] h = refl
blanks_apart (b ∷ bs) h = (and_parts (is_space_or_tab b) (are_blanks bs) h).0

pub ends_said : (rest : List ℕ) → ends_sign rest ≡ is_apart rest
ends_said [] = refl
ends_said (b ∷ bs) = ap (λ (t : Bool). t || is_blank_byte b) (not_zero (length bs))
