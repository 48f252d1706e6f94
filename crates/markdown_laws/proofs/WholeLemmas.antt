-- The parts of a text tell all its lines.
use Rattle.std.proofs.Common.{◌≡◌, ℕ, zero, suc, ◌+◌, ◌-◌, ◌≤◌, ◌==◌, ◌⊎◌, inl, inr, Bool, true, false, cond, not, nat_le, nat_lt, ◌||◌, ◌&&◌, List, [], ◌∷◌, ◌++◌, map, reverse, length, take, drop, Option, Some, None, refl, sym, ap, subst, ◌∙◌, append_assoc, append-nil, arith, length-drop, take_at, if◌then◌else◌}
use Rattle.std.proofs.lemmas.Bool.{and_parts, eqb-true}
use Rattle.std.proofs.lemmas.List.{length-reverse, reverse-append, reverse-reverse}
use Rattle.std.specs.List.{AllByRecursion, list_all, prefix_len, suffix_len}
use Rattle.markdown_marks.specs.Bytes.{count_in_front, is_blank, is_blank_byte, is_run_alone, without_blanks}
use Rattle.markdown_marks.specs.Headings.{heading_text, without_closing, without_end}
use Rattle.markdown_marks.specs.Marks.{underline_level}
use Rattle.markdown_marks.specs.Remaining.{Remaining, columns_in_front, take_columns}
use Rattle.markdown_blocks.specs.KeptLines.{IsEndOf, is_markup}
use Rattle.markdown_blocks.specs.Leaves.{closes_fence}
use Rattle.markdown_blocks.specs.declared.leaves.Leaf.{Leaf}
use Rattle.markdown_blocks.specs.declared.leaves.Leaf.TheVariants.{Nothing as NothingLeaf, Bare, Paragraph as ParagraphLeaf, Indented as IndentedLeaf, Fenced as FencedLeaf, Html as HtmlLeaf, Table as TableLeaf}
use Rattle.markdown_blocks.proofs.SignLemmas.{is_fence_sign}
use Rattle.markdown_blocks.proofs.FrontLemmas.{blank_markup, end_then, take_end}
use Rattle.markdown_leaves.specs.Gather.{first_text, heading_line}
use Rattle.markdown_laws.specs.Whole.{AreTold, IsToldAs, is_left_out}

-- ---- more lines

-- one more line is told
pub told_more : (lines told : List (List ℕ)) (line one : List ℕ) → AreTold lines told → IsToldAs line one → AreTold (lines ++ line ∷ []) (told ++ one ∷ [])
told_more [] [] line one a h = inr (h, tt)
told_more [] (t ∷ told) line one a h = absurd a
told_more (l ∷ lines) [] line one a h = inl (a.0, told_more lines [] line one a.1 h)
told_more (l ∷ lines) (t ∷ told) line one (inl a) h = inl (a.0, told_more lines (t ∷ told) line one a.1 h)
told_more (l ∷ lines) (t ∷ told) line one (inr a) h = inr (a.0, told_more lines told line one a.1 h)

-- one more line is left out
pub left_more : (lines told : List (List ℕ)) (line : List ℕ) → AreTold lines told → is_left_out line ≡ true → AreTold (lines ++ line ∷ []) told
left_more [] [] line a h = (h, tt)
left_more [] (t ∷ told) line a h = absurd a
left_more (l ∷ lines) [] line a h = (a.0, left_more lines [] line a.1 h)
left_more (l ∷ lines) (t ∷ told) line (inl a) h = inl (a.0, left_more lines (t ∷ told) line a.1 h)
left_more (l ∷ lines) (t ∷ told) line (inr a) h = inr (a.0, left_more lines told line a.1 h)

-- ---- bytes

both : (p q : Bool) → p ≡ true → q ≡ true → (p && q) ≡ true
both true q f g = g
both false q f g = f

or_first : (p q : Bool) → p ≡ true → (p || q) ≡ true
or_first p q h = ap (λ t. t || q) h

or_second : (p q : Bool) → q ≡ true → (p || q) ≡ true
or_second true q h = refl
or_second false q h = h

-- what holds of each of two lists holds of both together
joined_all : (p : ℕ → Bool) (xs ys : List ℕ) → list_all p xs ≡ true → list_all p ys ≡ true → list_all p (xs ++ ys) ≡ true
joined_all p [] ys h k = k
joined_all p (x ∷ xs) ys h k = let parts = and_parts (p x) (list_all p xs) h in both (p x) (list_all p (xs ++ ys)) parts.0 (joined_all p xs ys parts.1 k)

-- what has a property has a weaker one
weaker : (p q : ℕ → Bool) → ((b : ℕ) → p b ≡ true → q b ≡ true) → (bs : List ℕ) → list_all p bs ≡ true → list_all q bs ≡ true
weaker p q f [] h = refl
weaker p q f (b ∷ bs) h = let parts = and_parts (p b) (list_all p bs) h in both (q b) (list_all q bs) (f b parts.0) (weaker p q f bs parts.1)

markup_all : (bs : List ℕ) → AllByRecursion (λ b. is_markup b ≡ true) bs → list_all is_markup bs ≡ true
markup_all [] h = refl
markup_all (b ∷ bs) h = both (is_markup b) (list_all is_markup bs) h.0 (markup_all bs h.1)

-- a byte that may be left out
abbrev is_out : ℕ → Bool
is_out b = is_markup b || (b == 61)

blank_out : (b : ℕ) → is_blank_byte b ≡ true → is_out b ≡ true
blank_out b h = or_first (is_markup b) (b == 61) (blank_markup b h)

blanks_out : (bs : List ℕ) → is_blank bs ≡ true → list_all is_out bs ≡ true
unfolding is_blank
blanks_out bs h = weaker is_blank_byte is_out blank_out bs h

by_test : {X : Type 0} (P : X → Type 0) (t : Bool) (x y : X) → (t ≡ true → P x) → (t ≡ false → P y) → P (cond t x y)
by_test P true x y f g = f refl
by_test P false x y f g = g refl

-- the first part of some bytes, of which all pass a test, and the others
pub record Front (p : ℕ → Bool) (bytes rest : List ℕ) : Type 0 where
  pub front : List ℕ
  pub whole : bytes ≡ front ++ rest
  pub all : list_all p front ≡ true

one_more : (n : ℕ) → 1 + n ≡ suc n
one_more n = omega arith

front_of : (p : ℕ → Bool) (bytes : List ℕ) → Front p bytes (drop (prefix_len p bytes) bytes)
front_of p [] = record { front = []; whole = refl; all = refl }
front_of p (b ∷ bs) =
    let more = front_of p bs in
    by_test (λ (n : ℕ). Front p (b ∷ bs) (drop n (b ∷ bs))) (p b) (1 + prefix_len p bs) 0
    (λ e. subst (λ (n : ℕ). Front p (b ∷ bs) (drop n (b ∷ bs))) (sym (one_more (prefix_len p bs))) (record { front = b ∷ more.front; whole = ap (λ (cs : List ℕ). b ∷ cs) more.whole; all = both (p b) (list_all p more.front) e more.all }))
    (λ e. record { front = []; whole = refl; all = refl })

-- some bytes, and those behind them, of which all pass a test
pub record Back (p : ℕ → Bool) (bytes first : List ℕ) : Type 0 where
  pub back : List ℕ
  pub whole : bytes ≡ first ++ back
  pub all : list_all p back ≡ true

all_reversed : (p : ℕ → Bool) (bs : List ℕ) → list_all p bs ≡ true → list_all p (reverse bs) ≡ true
all_reversed p [] h = refl
all_reversed p (b ∷ bs) h =
    let parts = and_parts (p b) (list_all p bs) h in
    subst (λ (l : List ℕ). list_all p l ≡ true) (sym (reverse-append (b ∷ []) bs)) (joined_all p (reverse bs) (b ∷ []) (all_reversed p bs parts.1) (both (p b) true parts.0 refl))

-- without bytes at the end that pass a test
end_of : (p : ℕ → Bool) (bytes : List ℕ) → Back p bytes (take (length bytes - suffix_len p bytes) bytes)
end_of p bytes =
    let count = prefix_len p (reverse bytes) in
    let found = front_of p (reverse bytes) in
    let rest = drop count (reverse bytes) in
    let split : bytes ≡ reverse rest ++ reverse found.front = sym (reverse-reverse bytes) ∙ ap (λ (bs : List ℕ). reverse bs) found.whole ∙ reverse-append found.front rest in
    let many : length (reverse rest) ≡ length bytes - count = length-reverse rest ∙ length-drop count (reverse bytes) ∙ ap (λ (n : ℕ). n - count) (length-reverse bytes) in
    let taken : take (length bytes - count) bytes ≡ reverse rest = ap (λ (bs : List ℕ). take (length bytes - count) bs) split ∙ take_at (reverse rest) (reverse found.front) (length bytes - count) many in
    record { back = reverse found.front; whole = split ∙ ap (λ (bs : List ℕ). bs ++ reverse found.front) (sym taken); all = all_reversed p found.front found.all }

back_then : (p : ℕ → Bool) (a b c : List ℕ) → Back p a b → Back p b c → Back p a c
back_then p a b c h k = record {
  back = k.back ++ h.back;
  whole = h.whole ∙ ap (λ (bs : List ℕ). bs ++ h.back) k.whole ∙ append_assoc c k.back h.back;
  all = joined_all p k.back h.back k.all h.all;
}

back_weaker : (p q : ℕ → Bool) → ((b : ℕ) → p b ≡ true → q b ≡ true) → (a b : List ℕ) → Back p a b → Back q a b
back_weaker p q f a b h = record { back = h.back; whole = h.whole; all = weaker p q f h.back h.all }

-- a blank, or a sign #
abbrev pub is_closing : ℕ → Bool
is_closing b = is_blank_byte b || (b == 35)

either_same : (t : Bool) → (t || t) ≡ true → t ≡ true
either_same true h = refl
either_same false h = h

blank_end : (bytes : List ℕ) → Back is_closing bytes (without_end 32 9 bytes)
unfolding without_end
blank_end bytes = back_weaker is_blank_byte is_closing (λ b h. or_first (is_blank_byte b) (b == 35) h) bytes (without_end 32 9 bytes) (end_of is_blank_byte bytes)

sign_end : (bytes : List ℕ) → Back is_closing bytes (without_end 35 35 bytes)
unfolding without_end
sign_end bytes =
    back_weaker (λ b. (b == 35) || (b == 35)) is_closing (λ b h. or_second (is_blank_byte b) (b == 35) (either_same (b == 35) h)) bytes (without_end 35 35 bytes) (end_of (λ b. (b == 35) || (b == 35)) bytes)

none_behind : (p : ℕ → Bool) (bytes : List ℕ) → Back p bytes bytes
none_behind p bytes = record { back = []; whole = sym (append-nil bytes); all = refl }

-- a heading's text is in front of blanks and signs #
heading_end : (bytes : List ℕ) → Back is_closing (without_blanks bytes) (heading_text bytes)
unfolding heading_text
heading_end bytes =
    let text = without_end 32 9 (without_blanks bytes) in
    let signs = without_end 35 35 text in
    back_then is_closing (without_blanks bytes) text (without_closing text) (blank_end (without_blanks bytes))
    (by_test (Back is_closing text) _ (without_end 32 9 signs) text (λ e. back_then is_closing text signs (without_end 32 9 signs) (sign_end text) (blank_end signs)) (λ e. none_behind is_closing text))

-- ---- a line that is told

-- a line that ends with its text is told as that
pub told_whole : (bytes text : List ℕ) → IsEndOf bytes text → IsToldAs bytes text
told_whole bytes text h = record { front = h.front; back = []; whole = h.whole ∙ ap (λ (bs : List ℕ). h.front ++ bs) (sym (append-nil text)); markup = markup_all h.front h.markup; closing = refl }

-- without more blanks in front, and without closing signs behind
told_less : (bytes text one : List ℕ) → IsEndOf bytes text → Back is_closing (without_blanks text) one → IsToldAs bytes one
unfolding without_blanks
told_less bytes text one h k =
    let f = front_of is_blank_byte text in
    record {
      front = h.front ++ f.front;
      back = k.back;
      whole = h.whole ∙ ap (λ (bs : List ℕ). h.front ++ bs) (f.whole ∙ ap (λ (bs : List ℕ). f.front ++ bs) k.whole) ∙ sym (append_assoc h.front f.front (one ++ k.back));
      markup = joined_all is_markup h.front f.front (markup_all h.front h.markup) (weaker is_blank_byte is_markup blank_markup f.front f.all);
      closing = k.all;
    }

-- so is the first line of a leaf
pub told_first : (leaf : Leaf) (bytes : List ℕ) (text : Remaining) → IsEndOf bytes text.bytes → IsToldAs bytes (first_text leaf text).bytes
told_first NothingLeaf bytes text h = told_whole bytes text.bytes h
told_first Bare bytes text h = told_whole bytes text.bytes h
told_first ParagraphLeaf bytes text h = told_whole bytes text.bytes h
told_first IndentedLeaf bytes text h = told_whole bytes text.bytes h
told_first (FencedLeaf sign length indent) bytes text h = told_less bytes text.bytes (without_end 32 9 (without_blanks text.bytes)) h (blank_end (without_blanks text.bytes))
told_first (HtmlLeaf ending) bytes text h = told_whole bytes text.bytes h
told_first TableLeaf bytes text h = told_whole bytes text.bytes h

-- and a heading's
pub told_heading : (bytes : List ℕ) (text : Remaining) → IsEndOf bytes text.bytes → IsToldAs bytes (heading_line text).bytes
told_heading bytes text h = told_less bytes text.bytes (heading_text text.bytes) h (heading_end text.bytes)

-- ---- a line that is left out

out_by : (bytes text : List ℕ) → IsEndOf bytes text → list_all is_out text ≡ true → is_left_out bytes ≡ true
out_by bytes text h k =
    subst (λ (bs : List ℕ). is_left_out bs ≡ true) (sym h.whole)
    (joined_all is_out h.front text (weaker is_markup is_out (λ b m. or_first (is_markup b) (b == 61) m) h.front (markup_all h.front h.markup)) k)

run_all : (sign least : ℕ) (bytes : List ℕ) → is_out sign ≡ true → is_run_alone sign least bytes ≡ true → list_all is_out bytes ≡ true
unfolding is_run_alone count_in_front
run_all sign least bytes known h =
    let count = prefix_len (λ b. b == sign) bytes in
    let parts = and_parts (nat_le least count) (is_blank (drop count bytes)) h in
    let f = front_of (λ b. b == sign) bytes in
    subst (λ (bs : List ℕ). list_all is_out bs ≡ true) (sym f.whole)
    (joined_all is_out f.front (drop count bytes) (weaker (λ b. b == sign) is_out (λ b e. ap is_out (eqb-true b sign e) ∙ known) f.front f.all) (blanks_out (drop count bytes) parts.1))

-- a blank line
pub out_blank : (bytes : List ℕ) (text : Remaining) → IsEndOf bytes text.bytes → is_blank text.bytes ≡ true → is_left_out bytes ≡ true
out_blank bytes text h k = out_by bytes text.bytes h (blanks_out text.bytes k)

either_sign : (p q : Bool) (A : Type 0) → (p || q) ≡ true → (p ≡ true → A) → (q ≡ true → A) → A
either_sign true q A h f g = f refl
either_sign false q A h f g = g h

fence_out : (sign : ℕ) → is_fence_sign sign ≡ true → is_out sign ≡ true
fence_out sign h = either_sign (sign == 96) (sign == 126) (is_out sign ≡ true) h (λ e. ap is_out (eqb-true sign 96 e)) (λ e. ap is_out (eqb-true sign 126 e))

-- the end of a fence
pub out_fence : (bytes : List ℕ) (text : Remaining) (sign length : ℕ) → IsEndOf bytes text.bytes → is_fence_sign sign ≡ true → closes_fence sign length text ≡ true → is_left_out bytes ≡ true
out_fence bytes text sign length h known k =
    let parts = and_parts (nat_lt (columns_in_front 4 text) 4) (is_run_alone sign length (take_columns 4 text).bytes) k in
    out_by bytes (take_columns 4 text).bytes (end_then bytes text.bytes (take_columns 4 text).bytes h (take_end 4 text)) (run_all sign length (take_columns 4 text).bytes (fence_out sign known) parts.1)

level_by : (p q : Bool) (level : ℕ) → cond p (Some 1) (cond q (Some 2) None) ≡ Some level → (p ≡ true) ⊎ (q ≡ true)
level_by true q level h = inl refl
level_by false true level h = inr refl
level_by false false level h = let none : None ≡ Some level = h in absurd (cc)

out_run : (bytes text : List ℕ) → IsEndOf bytes text → (is_run_alone 61 1 text ≡ true) ⊎ (is_run_alone 45 1 text ≡ true) → is_left_out bytes ≡ true
out_run bytes text h (inl e) = out_by bytes text h (run_all 61 1 text refl e)
out_run bytes text h (inr e) = out_by bytes text h (run_all 45 1 text refl e)

-- the line under a heading
pub out_underline : (bytes : List ℕ) (text : Remaining) (level : ℕ) → IsEndOf bytes text.bytes → underline_level text.bytes ≡ Some level → is_left_out bytes ≡ true
unfolding underline_level
out_underline bytes text level h k = out_run bytes text.bytes h (level_by (is_run_alone 61 1 text.bytes) (is_run_alone 45 1 text.bytes) level k)

-- ---- blank lines that were told

closing_out : (b : ℕ) → is_closing b ≡ true → is_out b ≡ true
closing_out b h = either_sign (is_blank_byte b) (b == 35) (is_out b ≡ true) h (blank_out b) (λ e. ap is_out (eqb-true b 35 e))

-- a line that is told as a blank one may be left out
out_told : (line one : List ℕ) → IsToldAs line one → is_blank one ≡ true → is_left_out line ≡ true
out_told line one h k =
    subst (λ (bs : List ℕ). is_left_out bs ≡ true) (sym h.whole)
    (joined_all is_out h.front (one ++ h.back) (weaker is_markup is_out (λ b m. or_first (is_markup b) (b == 61) m) h.front h.markup)
    (joined_all is_out one h.back (blanks_out one k) (weaker is_closing is_out closing_out h.back h.closing)))

-- all of these lines are blank
abbrev pub AllBlank : List (List ℕ) → Type 0
AllBlank [] = Unit {0}
AllBlank (one ∷ told) = (is_blank one ≡ true) × AllBlank told

-- lines at the end that are told as blank ones may be left out
pub without_last : (lines told last : List (List ℕ)) → AreTold lines (told ++ last) → AllBlank last → AreTold lines told
without_last [] [] last a k = tt
without_last [] (t ∷ told) last a k = a
without_last (l ∷ lines) [] [] a k = a
without_last (l ∷ lines) [] (b ∷ last) (inl a) k = (a.0, without_last lines [] (b ∷ last) a.1 k)
without_last (l ∷ lines) [] (b ∷ last) (inr a) k = (out_told l b a.0 k.0, without_last lines [] last a.1 k.1)
without_last (l ∷ lines) (t ∷ told) last (inl a) k = inl (a.0, without_last lines (t ∷ told) last a.1 k)
without_last (l ∷ lines) (t ∷ told) last (inr a) k = inr (a.0, without_last lines told last a.1 k)
