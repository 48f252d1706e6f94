-- A text is its lines.
use Rattle.std.proofs.Common.{◌≡◌, inl, inr, ℕ, Bool, true, false, not, ◌||◌, ◌==◌, List, [], ◌∷◌, ◌++◌, length, refl, sym, ap, subst, ◌∙◌}
use Rattle.std.proofs.lemmas.Bool.{and_from, and_parts, eqb-true, not-true, not_from_false, or_from, or_parts}
use Rattle.std.specs.List.{onto_first}
use Rattle.markdown_blocks.specs.Lines.{text_lines}
use Rattle.markdown_sign_laws.specs.TextLines.{AreLines, IsEnd, LastLineIsCut, LineIsCut, LinesAreSaid, has_no_end}
use Rattle.markdown_sign_laws.specs.Words.{begins_with}
use Rattle.markdown_sign_laws.proofs.RunLemmas.{not_zero}

-- ---- a line and its end

no_end : (b : ℕ) (bs : List ℕ) → has_no_end (b ∷ bs) ≡ true → ((b == 10) ≡ false) × ((b == 13) ≡ false) × (has_no_end bs ≡ true)
no_end b bs h =
    let both = and_parts (not ((b == 10) || (b == 13))) (has_no_end bs) h in
    let neither = or_parts (b == 10) (b == 13) (not-true ((b == 10) || (b == 13)) both.0) in (neither.0, neither.1, both.1)

-- a byte that ends no line goes onto the first line
goes_on : (b : ℕ) (bs : List ℕ) → (b == 10) ≡ false → (b == 13) ≡ false → text_lines (b ∷ bs) ≡ onto_first b (text_lines bs)
unfolding text_lines
goes_on b bs newline return = rw return (rw newline refl)

return_ends : (rest : List ℕ) → begins_with 10 rest ≡ false → text_lines (13 ∷ rest) ≡ [] ∷ text_lines rest
unfolding text_lines
return_ends [] h = refl
return_ends (b ∷ bs) h = rw h refl

end_cut : (end rest : List ℕ) → IsEnd end rest → text_lines (end ++ rest) ≡ [] ∷ text_lines rest
unfolding text_lines
end_cut end rest (inl e) = ap (λ (xs : List ℕ). text_lines (xs ++ rest)) e
end_cut end rest (inr (inl e)) = ap (λ (xs : List ℕ). text_lines (xs ++ rest)) e
end_cut end rest (inr (inr h)) = ap (λ (xs : List ℕ). text_lines (xs ++ rest)) h.0 ∙ return_ends rest h.1

front_cut : (line end rest : List ℕ) → has_no_end line ≡ true → IsEnd end rest → text_lines (line ++ (end ++ rest)) ≡ line ∷ text_lines rest
front_cut [] end rest h ends = end_cut end rest ends
front_cut (b ∷ bs) end rest h ends =
    let no = no_end b bs h in goes_on b (bs ++ (end ++ rest)) no.0 no.1 ∙ ap (onto_first b) (front_cut bs end rest no.2 ends)

-- a line, its end and a text have this line and the lines of the text
pub line_cut : LineIsCut
line_cut text line rest h = ap text_lines h.whole ∙ front_cut line h.end rest h.plain h.ends

last_from : (b : ℕ) (bs : List ℕ) → has_no_end (b ∷ bs) ≡ true → text_lines (b ∷ bs) ≡ (b ∷ bs) ∷ []
unfolding text_lines
last_from b [] h = let no = no_end b [] h in goes_on b [] no.0 no.1
last_from b (c ∷ cs) h = let no = no_end b (c ∷ cs) h in goes_on b (c ∷ cs) no.0 no.1 ∙ ap (onto_first b) (last_from c cs no.2)

last_of : (line : List ℕ) → has_no_end line ≡ true → (length line == 0) ≡ false → text_lines line ≡ line ∷ []
last_of [] h some = let no : true ≡ false = some in absurd (cc)
last_of (b ∷ bs) h some = last_from b bs h

-- a line that nothing ends is the only one
pub last_cut : LastLineIsCut
last_cut text line h = ap text_lines h.whole ∙ last_of line h.plain h.some

-- ---- all lines

nothing_cut : text_lines [] ≡ []
unfolding text_lines
nothing_cut = refl

lines_cut : (lines : List (List ℕ)) (text : List ℕ) → AreLines text lines → text_lines text ≡ lines
lines_cut [] text h = ap text_lines h ∙ nothing_cut
lines_cut (line ∷ lines) text (inl h) = line_cut text line h.0 h.1 ∙ ap (λ (ls : List (List ℕ)). line ∷ ls) (lines_cut lines h.0 h.2)
lines_cut (line ∷ lines) text (inr h) = last_cut text line h.0 ∙ ap (λ (ls : List (List ℕ)). line ∷ ls) (sym h.1)

plain_more : (b : ℕ) (bs : List ℕ) → (b == 10) ≡ false → (b == 13) ≡ false → has_no_end bs ≡ true → has_no_end (b ∷ bs) ≡ true
plain_more b bs newline return h = and_from (not ((b == 10) || (b == 13))) (has_no_end bs) (not_from_false ((b == 10) || (b == 13)) (or_from (b == 10) (b == 13) newline return)) h

-- a byte that ends no line is put in front
put_first : (b : ℕ) (bs : List ℕ) (lines : List (List ℕ)) → (b == 10) ≡ false → (b == 13) ≡ false → AreLines bs lines → AreLines (b ∷ bs) (onto_first b lines)
put_first b bs [] newline return h =
    inr (record { plain = plain_more b [] newline return refl; some = not_zero 0; whole = ap (λ (xs : List ℕ). b ∷ xs) h }, refl)
put_first b bs (line ∷ lines) newline return (inl h) =
    inl (h.0, record { plain = plain_more b line newline return h.1.plain; end = h.1.end; ends = h.1.ends; whole = ap (λ (xs : List ℕ). b ∷ xs) h.1.whole }, h.2)
put_first b bs (line ∷ lines) newline return (inr h) =
    inr (record { plain = plain_more b line newline return h.0.plain; some = not_zero (length line); whole = ap (λ (xs : List ℕ). b ∷ xs) h.0.whole }, h.1)

-- an end is in front
end_first : (text end rest : List ℕ) (lines : List (List ℕ)) → text ≡ end ++ rest → IsEnd end rest → AreLines rest lines → AreLines text ([] ∷ lines)
end_first text end rest lines e ends h = inl (rest, record { plain = refl; end = end; ends = ends; whole = e }, h)

-- lines of a text without its first byte, and without its first two
abbrev Are : List ℕ → Type 0
Are text = AreLines text (text_lines text)

newline_first : (b : ℕ) (bs : List ℕ) → (b == 10) ≡ true → Are bs → Are (b ∷ bs)
unfolding text_lines
newline_first b bs e h =
    subst (λ (c : ℕ). Are (c ∷ bs)) (sym (eqb-true b 10 e)) (end_first (10 ∷ bs) (10 ∷ []) bs (text_lines bs) refl (inl refl) h)

return_first : (bs : List ℕ) → begins_with 10 bs ≡ false → Are bs → Are (13 ∷ bs)
return_first bs e h =
    subst (AreLines (13 ∷ bs)) (sym (return_ends bs e)) (end_first (13 ∷ bs) (13 ∷ []) bs (text_lines bs) refl (inr (inr (refl, e))) h)

pair_first : (bs : List ℕ) → Are bs → Are (13 ∷ 10 ∷ bs)
unfolding text_lines
pair_first bs h = end_first (13 ∷ 10 ∷ bs) (13 ∷ 10 ∷ []) bs (text_lines bs) refl (inr (inl refl)) h

other_first : (b : ℕ) (bs : List ℕ) → (b == 10) ≡ false → (b == 13) ≡ false → Are bs → Are (b ∷ bs)
other_first b bs newline return h = subst (AreLines (b ∷ bs)) (sym (goes_on b bs newline return)) (put_first b bs (text_lines bs) newline return h)

return_then : (t : Bool) (c : ℕ) (cs : List ℕ) → (c == 10) ≡ t → Are cs → Are (c ∷ cs) → Are (13 ∷ c ∷ cs)
return_then true c cs e behind h = subst (λ (d : ℕ). Are (13 ∷ d ∷ cs)) (sym (eqb-true c 10 e)) (pair_first cs behind)
return_then false c cs e behind h = return_first (c ∷ cs) e h

first_by : (p q : Bool) (b c : ℕ) (cs : List ℕ) → (b == 10) ≡ p → (b == 13) ≡ q → Are cs → Are (c ∷ cs) → Are (b ∷ c ∷ cs)
first_by true q b c cs e f behind h = newline_first b (c ∷ cs) e h
first_by false true b c cs e f behind h = subst (λ (d : ℕ). Are (d ∷ c ∷ cs)) (sym (eqb-true b 13 f)) (return_then (c == 10) c cs refl behind h)
first_by false false b c cs e f behind h = other_first b (c ∷ cs) e f h

alone_by : (p q : Bool) (b : ℕ) → (b == 10) ≡ p → (b == 13) ≡ q → Are [] → Are (b ∷ [])
alone_by true q b e f h = newline_first b [] e h
alone_by false true b e f h = subst (λ (d : ℕ). Are (d ∷ [])) (sym (eqb-true b 13 f)) (return_first [] refl h)
alone_by false false b e f h = other_first b [] e f h

are_lines : (text : List ℕ) → Are text
unfolding text_lines
are_lines [] = refl
are_lines (b ∷ []) = alone_by (b == 10) (b == 13) b refl refl refl
are_lines (b ∷ c ∷ cs) = first_by (b == 10) (b == 13) b c cs refl refl (are_lines cs) (are_lines (c ∷ cs))

-- a text has these lines exactly where it is said to
pub lines_said : LinesAreSaid
lines_said text lines = (λ e. subst (AreLines text) e (are_lines text), lines_cut lines text)
