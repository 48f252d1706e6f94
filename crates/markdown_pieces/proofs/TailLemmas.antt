-- What scanners leave is an end of their text; and by which byte they end.
use Rattle.std.proofs.Common.{◌≡◌, ℕ, zero, suc, ◌+◌, ◌-◌, ◌<◌, ◌≤◌, Bool, true, false, cond, eqb, leb, not, ◌||◌, ◌&&◌, List, [], ◌∷◌, length, drop, get_or, refl, sym, ap, subst, ◌∙◌, arith, Option, Some, None}
use Rattle.std.specs.List.{prefix_len}
use Rattle.std.proofs.lemmas.Bool.{eqb-true}
use Rattle.std.proofs.lemmas.List.{length-drop, get_or-drop, drop-drop}
use Rattle.std.proofs.lemmas.List.Sums.{prefix_len-le-length}
use Rattle.markdown_marks.specs.Bytes.{first, is_blank_byte, without_blanks}
use Rattle.markdown_marks.specs.Definitions.{after, or_else, is_space_byte, is_mark_byte, counted, after_label, after_angle, bare_end, after_bare, if_shorter, after_destination, after_title, title_after, after_newline, after_space}
use Rattle.markdown_brackets.specs.Targets.{closed_paren, target_end, after_target, after_inline}

-- what holds in both cases holds of what a condition chooses
pub by_cond : {X : Type 0} (P : X → Type 0) (t : Bool) (x y : X) → (t ≡ true → P x) → (t ≡ false → P y) → P (cond t x y)
by_cond P true x y f g = f refl
by_cond P false x y f g = g refl

-- an end of a text
pub record IsTail (text rest : List ℕ) : Type 0 where
  pub n : ℕ
  pub few : n ≤ length text
  pub is : drop n text ≡ rest

-- an end of a text, before which is this byte
pub record EndsBy (b : ℕ) (text rest : List ℕ) : Type 0 where
  pub n : ℕ
  pub few : n < length text
  pub byte : get_or text n 0 ≡ b
  pub is : drop (suc n) text ≡ rest

tail_self : (text : List ℕ) → IsTail text text
tail_self text = record { n = 0; few = omega arith; is = refl }

tail_cons : (b : ℕ) (text rest : List ℕ) → IsTail text rest → IsTail (b ∷ text) rest
tail_cons b text rest t = record { n = suc t.n; few = omega (arith, t.few); is = t.is }

tail_drop : (n : ℕ) (text : List ℕ) → n ≤ length text → IsTail text (drop n text)
tail_drop n text h = record { n = n; few = h; is = refl }

tail_first : (text : List ℕ) → IsTail text (drop 1 text)
tail_first [] = record { n = 0; few = omega arith; is = refl }
tail_first (b ∷ bs) = record { n = 1; few = omega arith; is = refl }

tail_then : (a b c : List ℕ) → IsTail a b → IsTail b c → IsTail a c
tail_then a b c t u = record {
  n = t.n + u.n;
  few = let same : length b ≡ length a - t.n = sym (ap length t.is) ∙ length-drop t.n a in omega (arith, same, t.few, u.few);
  is = sym (drop-drop u.n t.n a) ∙ ap (drop u.n) t.is ∙ u.is;
}

-- with one more byte in front it is such an end still
pub ends_cons : (b c : ℕ) (text rest : List ℕ) → EndsBy b text rest → EndsBy b (c ∷ text) rest
ends_cons b c text rest t = record { n = suc t.n; few = omega (arith, t.few); byte = t.byte; is = t.is }

-- what follows this byte is such an end
pub ends_here : (b c : ℕ) (text : List ℕ) → c ≡ b → EndsBy b (c ∷ text) text
ends_here b c text e = record { n = 0; few = omega arith; byte = e; is = refl }

-- after so many bytes, or none
pub tail_from : (k : ℕ) (text : List ℕ) → IsTail text (drop k text)
tail_from zero text = tail_self text
tail_from (suc k) [] = tail_self []
tail_from (suc k) (b ∷ bs) = tail_cons b bs (drop k bs) (tail_from k bs)

-- such an end of an end is one of the text
pub ends_then : (b : ℕ) (x y z : List ℕ) → IsTail x y → EndsBy b y z → EndsBy b x z
ends_then b x y z t u = record {
  n = t.n + u.n;
  few = let same : length y ≡ length x - t.n = sym (ap length t.is) ∙ length-drop t.n x in omega (arith, same, t.few, u.few);
  byte = sym (get_or-drop t.n x u.n 0) ∙ ap (λ (l : List ℕ). get_or l u.n 0) t.is ∙ u.byte;
  is = let same : suc (t.n + u.n) ≡ t.n + suc u.n = omega arith in ap (λ k. drop k x) same ∙ sym (drop-drop (suc u.n) t.n x) ∙ ap (drop (suc u.n)) t.is ∙ u.is;
}

-- ---- what an answer says

some_same : (a b : List ℕ) → Some a ≡ Some b → a ≡ b
some_same a b e = cc

tail_some : (text a b : List ℕ) → IsTail text a → Some a ≡ Some b → IsTail text b
tail_some text a b t e = subst (λ (l : List ℕ). IsTail text l) (some_same a b e) t

ends_some : (c : ℕ) (text a b : List ℕ) → EndsBy c text a → Some a ≡ Some b → EndsBy c text b
ends_some c text a b t e = subst (λ (l : List ℕ). EndsBy c text l) (some_same a b e) t

none_some : {P : Type 0} (a : List ℕ) → None ≡ Some a → P
none_some a e = absurd (no e)
  where
    no : None ≡ Some a → ⊥
    no e = cc

-- what is found has this property
abbrev pub Gives : (List ℕ → Type 0) → Option (List ℕ) → Type 0
Gives P o = (a : List ℕ) → o ≡ Some a → P a

-- where nothing is found, nothing is asked of it
pub gives_none : (P : List ℕ → Type 0) → Gives P None
gives_none P a e = none_some a e

-- where this is found, and has the property, what is found has it
pub gives_some : (P : List ℕ → Type 0) (a : List ℕ) → P a → Gives P (Some a)
gives_some P a p b e = subst P (some_same a b e) p

-- a length that is found has this property
abbrev pub GivesLen : (ℕ → Type 0) → Option ℕ → Type 0
GivesLen P o = (len : ℕ) → o ≡ Some len → P len

-- where no length is found, nothing is asked of it
pub len_none : (P : ℕ → Type 0) → GivesLen P None
len_none P len e = absurd (no e)
  where
    no : None ≡ Some len → ⊥
    no e = cc

-- where this length is found, and has the property, what is found has it
pub len_some : (P : ℕ → Type 0) (n : ℕ) → P n → GivesLen P (Some n)
len_some P n p len e = let same : n ≡ len = cc in subst P same p

-- ---- scanners

blanks_tail : (text : List ℕ) → IsTail text (without_blanks text)
unfolding without_blanks
blanks_tail text = tail_drop (prefix_len is_blank_byte text) text (prefix_len-le-length is_blank_byte text)

newline_tail : (text : List ℕ) → IsTail text (after_newline text)
newline_tail [] = tail_self []
newline_tail (b ∷ bs) =
    by_cond (λ (l : List ℕ). IsTail (b ∷ bs) l) (eqb b 10) (without_blanks bs) (b ∷ bs) (λ h. tail_cons b bs (without_blanks bs) (blanks_tail bs)) (λ h. tail_self (b ∷ bs))

space_tail : (text : List ℕ) → IsTail text (after_space text)
space_tail text = tail_then text (without_blanks text) (after_space text) (blanks_tail text) (newline_tail (without_blanks text))

-- a label ends with a closing bracket
pub label_ends : (count : ℕ) (some escaped : Bool) (text : List ℕ) → Gives (EndsBy 93 text) (after_label count some escaped text)
unfolding after_label
label_ends count some escaped [] = gives_none (EndsBy 93 [])
label_ends count some escaped (b ∷ bs) =
    let P : Option (List ℕ) → Type 0 = Gives (EndsBy 93 (b ∷ bs)) in
    let more : (count : ℕ) (some escaped : Bool) → P (after_label count some escaped bs) = λ c s e a h. ends_cons 93 b bs a (label_ends c s e bs a h) in
    by_cond P escaped (after_label count true false bs) _ (λ h. more count true false)
    (λ h. by_cond P (eqb b 93) (cond some (Some bs) None) _
    (λ here. by_cond P some (Some bs) None (λ s. gives_some (EndsBy 93 (b ∷ bs)) bs (ends_here 93 b bs (eqb-true b 93 here))) (λ s. gives_none (EndsBy 93 (b ∷ bs))))
    (λ other. by_cond P (eqb b 91 || leb 999 count) None _ (λ k. gives_none (EndsBy 93 (b ∷ bs)))
    (λ k. more (count + counted b) (some || not (is_space_byte b)) (eqb b 92))))

angle_tail : (escaped : Bool) (text : List ℕ) → Gives (IsTail text) (after_angle escaped text)
unfolding after_angle
angle_tail escaped [] = gives_none (IsTail [])
angle_tail escaped (b ∷ bs) =
    let P : Option (List ℕ) → Type 0 = Gives (IsTail (b ∷ bs)) in
    let more : (escaped : Bool) → P (after_angle escaped bs) = λ e a h. tail_cons b bs a (angle_tail e bs a h) in
    by_cond P (eqb b 10) None _ (λ h. gives_none (IsTail (b ∷ bs)))
    (λ h. by_cond P escaped (after_angle false bs) _ (λ k. more false)
    (λ k. by_cond P (eqb b 62) (Some bs) _ (λ e. gives_some (IsTail (b ∷ bs)) bs (tail_cons b bs bs (tail_self bs)))
    (λ e. by_cond P (eqb b 60) None _ (λ x. gives_none (IsTail (b ∷ bs))) (λ x. more (eqb b 92)))))

bare_stop : (depth : ℕ) (text : List ℕ) → Gives (IsTail text) (bare_end depth text)
bare_stop depth text = by_cond (Gives (IsTail text)) (eqb depth 0) (Some text) None (λ h. gives_some (IsTail text) text (tail_self text)) (λ h. gives_none (IsTail text))

bare_tail : (depth : ℕ) (escaped : Bool) (text : List ℕ) → Gives (IsTail text) (after_bare depth escaped text)
unfolding after_bare
bare_tail depth escaped [] = bare_stop depth []
bare_tail depth escaped (b ∷ bs) =
    let P : Option (List ℕ) → Type 0 = Gives (IsTail (b ∷ bs)) in
    let more : (depth : ℕ) (escaped : Bool) → P (after_bare depth escaped bs) = λ d e a h. tail_cons b bs a (bare_tail d e bs a h) in
    by_cond P (escaped && is_mark_byte b) (after_bare depth false bs) _ (λ h. more depth false)
    (λ h. by_cond P (leb b 32 || eqb b 127) (bare_end depth (b ∷ bs)) _ (λ k. bare_stop depth (b ∷ bs))
    (λ k. by_cond P (eqb b 40) (cond (leb 32 depth) None (after_bare (depth + 1) false bs)) _
    (λ e. by_cond P (leb 32 depth) None (after_bare (depth + 1) false bs) (λ x. gives_none (IsTail (b ∷ bs))) (λ x. more (depth + 1) false))
    (λ e. by_cond P (eqb b 41) (cond (eqb depth 0) (Some (b ∷ bs)) (after_bare (depth - 1) false bs)) _
    (λ x. by_cond P (eqb depth 0) (Some (b ∷ bs)) (after_bare (depth - 1) false bs) (λ y. gives_some (IsTail (b ∷ bs)) (b ∷ bs) (tail_self (b ∷ bs))) (λ y. more (depth - 1) false))
    (λ x. more depth (eqb b 92)))))

shorter_tail : (text : List ℕ) (o : Option (List ℕ)) → Gives (IsTail text) o → Gives (IsTail text) (if_shorter text o)
shorter_tail text None g = gives_none (IsTail text)
shorter_tail text (Some rest) g = by_cond (Gives (IsTail text)) (eqb (length rest) (length text)) None (Some rest) (λ h. gives_none (IsTail text)) (λ h. g)

tail_before : (text : List ℕ) (o : Option (List ℕ)) → Gives (IsTail (drop 1 text)) o → Gives (IsTail text) o
tail_before text o g a e = tail_then text (drop 1 text) a (tail_first text) (g a e)

destination_tail : (text : List ℕ) → Gives (IsTail text) (after_destination text)
destination_tail text =
    by_cond (Gives (IsTail text)) (eqb (first text) 60) (after_angle false (drop 1 text)) (if_shorter text (after_bare 0 false text))
    (λ h. tail_before text (after_angle false (drop 1 text)) (angle_tail false (drop 1 text))) (λ h. shorter_tail text (after_bare 0 false text) (bare_tail 0 false text))

closed_tail : (close : ℕ) (escaped : Bool) (text : List ℕ) → Gives (IsTail text) (after_title close escaped text)
unfolding after_title
closed_tail close escaped [] = gives_none (IsTail [])
closed_tail close escaped (b ∷ bs) =
    let P : Option (List ℕ) → Type 0 = Gives (IsTail (b ∷ bs)) in
    let more : (escaped : Bool) → P (after_title close escaped bs) = λ e a h. tail_cons b bs a (closed_tail close e bs a h) in
    by_cond P escaped (after_title close false bs) _ (λ h. more false)
    (λ h. by_cond P (eqb b close) (Some bs) _ (λ k. gives_some (IsTail (b ∷ bs)) bs (tail_cons b bs bs (tail_self bs)))
    (λ k. by_cond P (eqb b 40 && eqb close 41) None _ (λ e. gives_none (IsTail (b ∷ bs))) (λ e. more (eqb b 92))))

title_tail : (text : List ℕ) → Gives (IsTail text) (title_after text)
title_tail text =
    let P : Option (List ℕ) → Type 0 = Gives (IsTail text) in
    let by : (close : ℕ) → P (after_title close false (drop 1 text)) = λ close. tail_before text (after_title close false (drop 1 text)) (closed_tail close false (drop 1 text)) in
    by_cond P (eqb (first text) 34) (after_title 34 false (drop 1 text)) _ (λ h. by 34)
    (λ h. by_cond P (eqb (first text) 39) (after_title 39 false (drop 1 text)) _ (λ k. by 39)
    (λ k. by_cond P (eqb (first text) 40) (after_title 41 false (drop 1 text)) None (λ e. by 41) (λ e. gives_none (IsTail text))))

-- ---- targets

paren_ends : (text : List ℕ) → Gives (EndsBy 41 text) (closed_paren text)
paren_ends [] = gives_none (EndsBy 41 [])
paren_ends (b ∷ bs) =
    by_cond (Gives (EndsBy 41 (b ∷ bs))) (eqb b 41) (Some bs) None (λ h. gives_some (EndsBy 41 (b ∷ bs)) bs (ends_here 41 b bs (eqb-true b 41 h))) (λ h. gives_none (EndsBy 41 (b ∷ bs)))

target_ends : (text : List ℕ) → Gives (EndsBy 41 text) (target_end text)
target_ends text a e = ends_then 41 text (after_space text) a (space_tail text) (paren_ends (after_space text) a e)

-- the first, or else the second, has what both have
pub else_gives : (P : List ℕ → Type 0) (o q : Option (List ℕ)) → Gives P o → Gives P q → Gives P (or_else o q)
else_gives P None q f g = g
else_gives P (Some rest) q f g = f

after_gives : (b : ℕ) (text : List ℕ) (o : Option (List ℕ)) (next : List ℕ → Option (List ℕ)) → Gives (IsTail text) o → ((rest : List ℕ) → Gives (EndsBy b rest) (next rest)) → Gives (EndsBy b text) (after o next)
after_gives b text None next f g = gives_none (EndsBy b text)
after_gives b text (Some rest) next f g = λ a e. ends_then b text rest a (f rest refl) (g rest a e)

spaced_gives : (b : ℕ) (text : List ℕ) (o : Option (List ℕ)) → Gives (EndsBy b (after_space text)) o → Gives (EndsBy b text) o
spaced_gives b text o g a e = ends_then b text (after_space text) a (space_tail text) (g a e)

titled_ends : (text : List ℕ) → Gives (EndsBy 41 text) (after_target text)
titled_ends text =
    else_gives (EndsBy 41 text) (target_end text) _ (target_ends text)
    (by_cond (Gives (EndsBy 41 text)) (eqb (length (after_space text)) (length text)) None (after (title_after (after_space text)) target_end)
    (λ h. gives_none (EndsBy 41 text))
    (λ h. spaced_gives 41 text (after (title_after (after_space text)) target_end) (after_gives 41 (after_space text) (title_after (after_space text)) target_end (title_tail (after_space text)) target_ends)))

-- what is in parentheses behind a link ends with a closing parenthesis
pub inline_ends : (text : List ℕ) → Gives (EndsBy 41 text) (after_inline text)
inline_ends text =
    else_gives (EndsBy 41 text) (target_end text) (after (after_destination (after_space text)) after_target) (target_ends text)
    (spaced_gives 41 text (after (after_destination (after_space text)) after_target)
    (after_gives 41 (after_space text) (after_destination (after_space text)) after_target (destination_tail (after_space text)) titled_ends))
