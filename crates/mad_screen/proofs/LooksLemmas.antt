-- Letters of pens: the pens in memory and their looks, and cells one after another.
use Rattle.std.proofs.Common.{◌≡◌, ℕ, ◌+◌, ◌<◌, ◌≤◌, ◌||◌, ◌&&◌, Bool, true, false, List, [], ◌∷◌, ◌++◌, length, map, get_or, take, cond, nat_lt, not, Option, Some, None, refl, ap, sym, ◌∙◌}
use Rattle.std.proofs.lemmas.Bool.{lt-ltb, ltb-true, false≢true, cond-false, cond_below, cond_above}
use Rattle.std.proofs.lemmas.List.{take_more, length-map}
use Rattle.std.specs.List.{list_any, position, position_or_len}
use Rattle.mad_screen.specs.declared.pen.Pen as pens
use Rattle.mad_screen.specs.Glyph.{Glyph, Look, look_of}
use Rattle.mad_screen.specs.Pictures.{same_look, is_plain, gets_letter, with_letter, lettered, nth_letter, letter_of}

lettered_append : (known : List Look) (xs ys : List Glyph) → lettered known (xs ++ ys) ≡ lettered (lettered known xs) ys
lettered_append known [] ys = refl
lettered_append known (x ∷ xs) ys = lettered_append (with_letter known x.pen) xs ys

-- what one cell more adds
pub lettered_more : (cells : List Glyph) (i : ℕ) (cell : Glyph) → i < length cells → cell ≡ get_or cells i cell → lettered [] (take (i + 1) cells) ≡ with_letter (lettered [] (take i cells)) cell.pen
lettered_more cells i cell below item =
    ap (lettered []) (take_more cells i cell below ∙ ap (λ (z : Glyph). take i cells ++ z ∷ []) (sym item))
    ∙ lettered_append [] (take i cells) (cell ∷ [])

-- one of the pens is this one, and so one of their looks
pub any_look : (known : List pens.Pen) (pen : Look) → list_any (λ k. same_look (look_of k) pen) known ≡ list_any (λ k. same_look k pen) (map look_of known)
any_look [] pen = refl
any_look (k ∷ known) pen = ap (λ b. same_look (look_of k) pen || b) (any_look known pen)

positions_look : (known : List pens.Pen) (pen : Look) → position_or_len (λ k. same_look (look_of k) pen) known ≡ position_or_len (λ k. same_look k pen) (map look_of known)
positions_look [] pen = refl
positions_look (k ∷ known) pen = ap (λ n. cond (not (same_look (look_of k) pen)) (1 + n) 0) (positions_look known pen)

position_look : (known : List pens.Pen) (pen : Look) → position (λ k. same_look (look_of k) pen) known ≡ position (λ k. same_look k pen) (map look_of known)
position_look known pen =
    ap (λ n. cond (nat_lt n (length known)) (Some n) None) (positions_look known pen)
    ∙ ap (λ n. cond (nat_lt (position_or_len (λ k. same_look k pen) (map look_of known)) n) (Some (position_or_len (λ k. same_look k pen) (map look_of known))) None) (sym (length-map known look_of))

-- a further pen that gets a letter is one more
pub letter_given : (known : List Look) (pen : Look) → gets_letter known pen ≡ true → with_letter known pen ≡ known ++ pen ∷ []
letter_given known pen given = ap (λ b. cond b (known ++ pen ∷ []) known) given

-- one that gets none changes nothing
pub letter_refused : (known : List Look) (pen : Look) → gets_letter known pen ≡ false → with_letter known pen ≡ known
letter_refused known pen refused = ap (λ b. cond b (known ++ pen ∷ []) known) refused

-- a pen of its own look gets a letter where one is left and no pen has that look
pub gets_if_new : (known : List Look) (pen : Look) (inside : Bool) → length known < 26 → is_plain pen ≡ false → inside ≡ list_any (λ k. same_look k pen) known → not inside ≡ gets_letter known pen
gets_if_new known pen inside left own is =
    ap not is
    ∙ sym (ap (λ b. b && (not (is_plain pen) && not (list_any (λ k. same_look k pen) known))) (lt-ltb _ _ left)
    ∙ ap (λ b. not b && not (list_any (λ k. same_look k pen) known)) own)

-- where a pen gets a letter, one was left
pub gets_if_left : (known : List Look) (pen : Look) → gets_letter known pen ≡ true → length known < 26
gets_if_left known pen given = go (nat_lt (length known) 26) refl given where
  go : (b : Bool) → nat_lt (length known) 26 ≡ b → b && (not (is_plain pen) && not (list_any (λ k. same_look k pen) known)) ≡ true → length known < 26
  go true e _ = ltb-true _ _ e
  go false _ h = absurd (false≢true h)

-- the letter at an index below 26
pub letter_below : (index : ℕ) (place : Option ℕ) → place ≡ Some index → index < 26 → 97 + index ≡ nth_letter place
letter_below index place is below = cond_below index 26 (97 + index) 63 below ∙ ap nth_letter (sym is)

-- the question mark at any other index
pub letter_past : (index : ℕ) (place : Option ℕ) → place ≡ Some index → 26 ≤ index → 63 ≡ nth_letter place
letter_past index place is past = cond_above index 26 (97 + index) 63 63 past refl ∙ ap nth_letter (sym is)

-- the letter of a pen that isn't the default one, by the index at which it was found
pub letter_found : (seen known : List pens.Pen) (pen : Look) (place : Option ℕ) → seen ≡ known → false ≡ is_plain pen → place ≡ position (λ k. same_look (look_of k) pen) seen → nth_letter place ≡ letter_of (map look_of known) pen
letter_found seen known pen place same own found =
    ap nth_letter (found ∙ ap (position (λ k. same_look (look_of k) pen)) same ∙ position_look known pen)
    ∙ sym (cond-false (is_plain pen) 46 (nth_letter (position (λ k. same_look k pen) (map look_of known))) (sym own))
