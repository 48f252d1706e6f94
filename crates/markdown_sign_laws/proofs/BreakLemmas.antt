-- A thematic break is three or more of one sign.
use Rattle.std.proofs.Common.{◌≡◌, ◌⊎◌, inl, inr, ℕ, suc, ◌+◌, ◌≤◌, Bool, true, false, cond, nat_le, ◌||◌, ◌==◌, List, [], ◌∷◌, ◌++◌, length, refl, sym, ap, subst, ◌∙◌, arith}
use Rattle.std.proofs.lemmas.Bool.{and_from, and_parts, eq-eqb, eqb-true, le-leb, leb-true, or_left, or_right}
use Rattle.std.proofs.lemmas.List.Sums.{sum_by-cons}
use Rattle.std.specs.List.{count_by, list_all}
use Rattle.markdown_marks.specs.Marks.{is_rule, is_rule_of}
use Rattle.markdown_sign_laws.specs.Breaks.{BreaksAreSaid, IsBreak, spread}
use Rattle.markdown_sign_laws.specs.Words.{are_blanks, is_space_or_tab}
use Rattle.markdown_sign_laws.proofs.RunLemmas.{one_more, other_sign}

-- the sign, or a blank
abbrev is_part : ℕ → ℕ → Bool
is_part sign b = (b == sign) || is_space_or_tab b

-- how often the sign is there
abbrev times : ℕ → List ℕ → ℕ
times sign bytes = count_by (λ b. b == sign) bytes

one_there : (sign b : ℕ) (bs : List ℕ) → (b == sign) ≡ true → times sign (b ∷ bs) ≡ suc (times sign bs)
one_there sign b bs e = sum_by-cons (λ (c : ℕ). cond (c == sign) 1 0) b bs ∙ ap (λ (t : Bool). cond t 1 0 + times sign bs) e ∙ one_more (times sign bs)

none_more : (n : ℕ) → 0 + n ≡ n
none_more n = omega arith

none_there : (sign b : ℕ) (bs : List ℕ) → (b == sign) ≡ false → times sign (b ∷ bs) ≡ times sign bs
none_there sign b bs e = sum_by-cons (λ (c : ℕ). cond (c == sign) 1 0) b bs ∙ ap (λ (t : Bool). cond t 1 0 + times sign bs) e ∙ none_more (times sign bs)

-- ---- what a break is

-- bytes are blanks, and then signs with blanks behind them
record Gapped (sign : ℕ) (bytes : List ℕ) : Type 0 where
  front : List ℕ
  gaps : List (List ℕ)
  clear : are_blanks front ≡ true
  blank : list_all are_blanks gaps ≡ true
  whole : bytes ≡ front ++ spread sign gaps
  counted : times sign bytes ≡ length gaps

gapped_by : (t : Bool) (sign b : ℕ) (bs : List ℕ) → (b == sign) ≡ t → is_part sign b ≡ true → Gapped sign bs → Gapped sign (b ∷ bs)
gapped_by true sign b bs e part g = record {
  front = [];
  gaps = g.front ∷ g.gaps;
  clear = refl;
  blank = and_from (are_blanks g.front) (list_all are_blanks g.gaps) g.clear g.blank;
  whole = ap (λ (c : ℕ). c ∷ bs) (eqb-true b sign e) ∙ ap (λ (xs : List ℕ). sign ∷ xs) g.whole;
  counted = one_there sign b bs e ∙ ap (λ (n : ℕ). suc n) g.counted;
}
gapped_by false sign b bs e part g = record {
  front = b ∷ g.front;
  gaps = g.gaps;
  clear = and_from (is_space_or_tab b) (are_blanks g.front) (ap (λ (t : Bool). t || is_space_or_tab b) (sym e) ∙ part) g.clear;
  blank = g.blank;
  whole = ap (λ (xs : List ℕ). b ∷ xs) g.whole;
  counted = none_there sign b bs e ∙ g.counted;
}

gapped : (sign : ℕ) (bytes : List ℕ) → list_all (is_part sign) bytes ≡ true → Gapped sign bytes
gapped sign [] h = record { front = []; gaps = []; clear = refl; blank = refl; whole = refl; counted = refl }
gapped sign (b ∷ bs) h =
    let both = and_parts (is_part sign b) (list_all (is_part sign) bs) h in gapped_by (b == sign) sign b bs refl both.0 (gapped sign bs both.1)

three_signs : (b : ℕ) → ((b == 42) || (b == 45) || (b == 95)) ≡ true → (b ≡ 42) ⊎ ((b ≡ 45) ⊎ (b ≡ 95))
three_signs b h = by_sign (b == 42) (b == 45) (b == 95) refl refl refl h
  where
    by_sign : (p q r : Bool) → (b == 42) ≡ p → (b == 45) ≡ q → (b == 95) ≡ r → (p || q || r) ≡ true → (b ≡ 42) ⊎ ((b ≡ 45) ⊎ (b ≡ 95))
    by_sign true q r e f g k = inl (eqb-true b 42 e)
    by_sign false true r e f g k = inr (inl (eqb-true b 45 f))
    by_sign false false true e f g k = inr (inr (eqb-true b 95 g))
    by_sign false false false e f g k = let no : false ≡ true = k in absurd (cc)

said : (bytes : List ℕ) → is_rule bytes ≡ true → IsBreak bytes
unfolding is_rule
said [] h = let no : false ≡ true = h in absurd (cc)
said (b ∷ bs) h =
    let both = and_parts ((b == 42) || (b == 45) || (b == 95)) (is_rule_of b (b ∷ bs)) h in
    let rule = and_parts (list_all (is_part b) (b ∷ bs)) (nat_le 3 (times b (b ∷ bs))) both.1 in
    let tail = and_parts (is_part b b) (list_all (is_part b) bs) rule.0 in
    let g = gapped b bs tail.1 in
    let count : times b (b ∷ bs) ≡ suc (length g.gaps) = one_there b b bs (eq-eqb b b refl) ∙ ap (λ (n : ℕ). suc n) g.counted in
    let least : 3 ≤ times b (b ∷ bs) = leb-true 3 (times b (b ∷ bs)) rule.1 in
    record {
      sign = b;
      of_sign = three_signs b both.0;
      gaps = g.front ∷ g.gaps;
      enough = omega (arith, count, least);
      blank = and_from (are_blanks g.front) (list_all are_blanks g.gaps) g.clear g.blank;
      whole = ap (λ (xs : List ℕ). b ∷ xs) g.whole;
    }

-- ---- these are breaks

blanks_then : (sign : ℕ) (front rest : List ℕ) → are_blanks front ≡ true → list_all (is_part sign) rest ≡ true → list_all (is_part sign) (front ++ rest) ≡ true
blanks_then sign [] rest h k = k
blanks_then sign (b ∷ bs) rest h k =
    let both = and_parts (is_space_or_tab b) (are_blanks bs) h in
    and_from (is_part sign b) (list_all (is_part sign) (bs ++ rest)) (or_right (b == sign) (is_space_or_tab b) both.0) (blanks_then sign bs rest both.1 k)

blanks_uncounted : (sign : ℕ) (front rest : List ℕ) → is_space_or_tab sign ≡ false → are_blanks front ≡ true → times sign (front ++ rest) ≡ times sign rest
blanks_uncounted sign [] rest other h = refl
blanks_uncounted sign (b ∷ bs) rest other h =
    let both = and_parts (is_space_or_tab b) (are_blanks bs) h in none_there sign b (bs ++ rest) (other_sign sign b other both.0) ∙ blanks_uncounted sign bs rest other both.1

all_parts : (sign : ℕ) (gaps : List (List ℕ)) → list_all are_blanks gaps ≡ true → list_all (is_part sign) (spread sign gaps) ≡ true
all_parts sign [] h = refl
all_parts sign (gap ∷ gaps) h =
    let both = and_parts (are_blanks gap) (list_all are_blanks gaps) h in
    and_from (is_part sign sign) (list_all (is_part sign) (gap ++ spread sign gaps)) (or_left (sign == sign) (is_space_or_tab sign) (eq-eqb sign sign refl))
    (blanks_then sign gap (spread sign gaps) both.0 (all_parts sign gaps both.1))

as_often : (sign : ℕ) (gaps : List (List ℕ)) → is_space_or_tab sign ≡ false → list_all are_blanks gaps ≡ true → times sign (spread sign gaps) ≡ length gaps
as_often sign [] other h = refl
as_often sign (gap ∷ gaps) other h =
    let both = and_parts (are_blanks gap) (list_all are_blanks gaps) h in
    one_there sign sign (gap ++ spread sign gaps) (eq-eqb sign sign refl)
    ∙ ap (λ (n : ℕ). suc n) (blanks_uncounted sign gap (spread sign gaps) other both.0 ∙ as_often sign gaps other both.1)

rule_of : (sign : ℕ) (gaps : List (List ℕ)) → is_space_or_tab sign ≡ false → 3 ≤ length gaps → list_all are_blanks gaps ≡ true → is_rule_of sign (spread sign gaps) ≡ true
rule_of sign gaps other enough blank =
    and_from (list_all (is_part sign) (spread sign gaps)) (nat_le 3 (times sign (spread sign gaps))) (all_parts sign gaps blank)
    (ap (nat_le 3) (as_often sign gaps other blank) ∙ le-leb 3 (length gaps) enough)

rule_at : (sign : ℕ) (gaps : List (List ℕ)) → ((sign == 42) || (sign == 45) || (sign == 95)) ≡ true → is_space_or_tab sign ≡ false → 3 ≤ length gaps → list_all are_blanks gaps ≡ true → is_rule (spread sign gaps) ≡ true
unfolding is_rule
rule_at sign [] known other enough blank = absurd (omega (arith, enough))
rule_at sign (gap ∷ gaps) known other enough blank =
    and_from ((sign == 42) || (sign == 45) || (sign == 95)) (is_rule_of sign (spread sign (gap ∷ gaps))) known (rule_of sign (gap ∷ gaps) other enough blank)

rule_by : (sign : ℕ) (gaps : List (List ℕ)) → (sign ≡ 42) ⊎ ((sign ≡ 45) ⊎ (sign ≡ 95)) → 3 ≤ length gaps → list_all are_blanks gaps ≡ true → is_rule (spread sign gaps) ≡ true
rule_by sign gaps (inl e) enough blank = subst (λ (s : ℕ). is_rule (spread s gaps) ≡ true) (sym e) (rule_at 42 gaps refl refl enough blank)
rule_by sign gaps (inr (inl e)) enough blank = subst (λ (s : ℕ). is_rule (spread s gaps) ≡ true) (sym e) (rule_at 45 gaps refl refl enough blank)
rule_by sign gaps (inr (inr e)) enough blank = subst (λ (s : ℕ). is_rule (spread s gaps) ≡ true) (sym e) (rule_at 95 gaps refl refl enough blank)

-- bytes are a thematic break exactly where they are said to be
pub breaks_said : BreaksAreSaid
breaks_said bytes = (said bytes, λ h. ap is_rule h.whole ∙ rule_by h.sign h.gaps h.of_sign h.enough h.blank)
