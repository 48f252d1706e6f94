-- The first line of a text, and those after it.
use Rattle.std.proofs.Common.{◌≡◌, ℕ, suc, ◌<◌, ◌+◌, Bool, true, false, not, ◌||◌, ◌&&◌, ◌==◌, List, [], ◌∷◌, length, take, drop, slice_index, Option, Some, None, refl, sym, ap, subst, ◌∙◌, arith, cond, if◌then◌else◌}
use Rattle.std.specs.Prelude.{unwrap_or}
use Rattle.std.specs.List.{prefix_len, onto_first}
use Rattle.std.proofs.lemmas.List.Sums.{position_or_len_is}
use Rattle.memchr.specs.Find.{IsFirstByte, is_byte2}
use Rattle.std.proofs.lemmas.Bool.Decides.{nat_tests}
use Rattle.markdown_blocks.specs.Lines.{is_line_end, is_pair, text_lines, end_len}

-- The first line has so many bytes, and the others follow its end.
abbrev pub HasFront : List ℕ → ℕ → Type 0
HasFront t k = text_lines t ≡ take k t ∷ text_lines (drop (end_len (drop k t)) (drop k t))

lines_cons : (b : ℕ) (bs : List ℕ) → text_lines (b ∷ bs) ≡ (if is_pair b bs then text_lines bs else if is_line_end b then [] ∷ text_lines bs else onto_first b (text_lines bs))
unfolding text_lines
lines_cons b bs = refl

lines_nil : text_lines [] ≡ []
unfolding text_lines
lines_nil = refl

pair_ends : (b c : ℕ) → ((b == 13) && (c == 10)) ≡ true → c ≡ 10
pair_ends b c e = grind (arith, nat_tests)

pair_needs : (b c : ℕ) → ((b == 10) || (b == 13)) ≡ false → ((b == 13) && (c == 10)) ≡ false
pair_needs b c e = grind (arith, nat_tests)

no_pair : (b : ℕ) → ((b == 13) && (0 == 10)) ≡ true → ⊥
no_pair b e = grind (arith, nat_tests)

-- an end in front
ended : (b : ℕ) (bs : List ℕ) (c : Bool) → is_line_end b ≡ true → is_pair b bs ≡ c → text_lines (b ∷ bs) ≡ [] ∷ text_lines (drop (if c then 2 else 1) (b ∷ bs))
ended b bs false e p =
    lines_cons b bs ∙ ap (λ (c : Bool). if c then text_lines bs else if is_line_end b then [] ∷ text_lines bs else onto_first b (text_lines bs)) p
    ∙ ap (λ (t : Bool). if t then [] ∷ text_lines bs else onto_first b (text_lines bs)) e
ended b [] true e p = absurd (no_pair b p)
ended b (x ∷ xs) true e p =
    lines_cons b (x ∷ xs) ∙ ap (λ (c : Bool). if c then text_lines (x ∷ xs) else if is_line_end b then [] ∷ text_lines (x ∷ xs) else onto_first b (text_lines (x ∷ xs))) p
    ∙ ap (λ (y : ℕ). text_lines (y ∷ xs)) (pair_ends b x p) ∙ lines_cons 10 xs

-- another byte in front
going : (b : ℕ) (bs : List ℕ) → is_line_end b ≡ false → text_lines (b ∷ bs) ≡ onto_first b (text_lines bs)
going b bs e =
    lines_cons b bs ∙ ap (λ (c : Bool). if c then text_lines bs else if is_line_end b then [] ∷ text_lines bs else onto_first b (text_lines bs)) (pair_needs b _ e)
    ∙ ap (λ (t : Bool). if t then [] ∷ text_lines bs else onto_first b (text_lines bs)) e

front_ended : (b : ℕ) (bs : List ℕ) → is_line_end b ≡ true → HasFront (b ∷ bs) 0
front_ended b bs e = ended b bs (is_pair b bs) e refl

front_more : (b : ℕ) (bs : List ℕ) (n : ℕ) → is_line_end b ≡ false → HasFront bs n → HasFront (b ∷ bs) (suc n)
front_more b bs n e h = going b bs e ∙ ap (onto_first b) h

front_last : (b : ℕ) → is_line_end b ≡ false → HasFront (b ∷ []) 1
front_last b e = going b [] e ∙ ap (onto_first b) lines_nil ∙ ap (λ (ls : List (List ℕ)). (b ∷ []) ∷ ls) (sym lines_nil)

with_last : (b : ℕ) (t : Bool) → is_line_end b ≡ t → HasFront (b ∷ []) (cond (not t) 1 0)
with_last b true e = front_ended b [] e
with_last b false e = front_last b e

with_more : (b : ℕ) (bs : List ℕ) (t : Bool) (n k : ℕ) → is_line_end b ≡ t → k ≡ suc n → HasFront bs n → HasFront (b ∷ bs) (cond (not t) k 0)
with_more b bs true n k e s h = front_ended b bs e
with_more b bs false n k e s h = subst (λ (j : ℕ). HasFront (b ∷ bs) j) (sym s) (front_more b bs n e h)

-- the first line ends before the first end
pub line_front : (t : List ℕ) → 0 < length t → HasFront t (prefix_len (λ b. not (is_line_end b)) t)
line_front [] l = absurd (omega arith)
line_front (b ∷ []) l = with_last b (is_line_end b) refl
line_front (b ∷ x ∷ xs) l =
    with_more b (x ∷ xs) (is_line_end b) (prefix_len (λ b. not (is_line_end b)) (x ∷ xs)) (1 + prefix_len (λ b. not (is_line_end b)) (x ∷ xs)) refl (omega arith) (line_front (x ∷ xs) (omega arith))

-- ---- where the first end is

is_false : (b : Bool) → (b ≡ true → ⊥) → b ≡ false
is_false true h = absurd (h refl)
is_false false h = refl

-- where `memchr2` finds it, or the length where there is none
pub end_position : (bytes : List ℕ) (found : Option ℕ) → IsFirstByte (is_byte2 10 13) bytes found → prefix_len (λ b. not (is_line_end b)) bytes ≡ unwrap_or found (length bytes)
end_position bytes None h =
    position_or_len_is is_line_end bytes (length bytes) 0 (omega arith) (λ k below. is_false (is_line_end (slice_index bytes k)) (h k (omega arith) below)) (λ inside. absurd (omega (arith, inside)))
end_position bytes (Some i) h =
    position_or_len_is is_line_end bytes i 0 (omega (arith, h.0.high)) (λ k below. is_false (is_line_end (slice_index bytes k)) (h.0.before k (omega arith) below)) (λ _. h.1)
