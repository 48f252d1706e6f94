-- A text that goes on at its end keeps its positions.
use Rattle.std.proofs.Common.{ℕ, zero, suc, ◌<◌, ◌≡◌, List, [], ◌∷◌, ◌++◌, length, take, drop, refl, ap, sym, ◌∙◌, arith, subst, cond, true, false, Bool, length-append, Option, None, Some, append-nil}
use Rattle.std.specs.Option.{ForSome}
use Rattle.std.specs.List.{onto_first}
use Rattle.std.proofs.lemmas.List.Splits.{length-slice_split}
use Rattle.std.proofs.lemmas.List.{take_all, drop_all}
use Rattle.mad_edit_lines.specs.declared.position.Pos.{Pos}
use Rattle.mad_edit_lines.specs.TextLines.{lines, is_newline, led_lines, IsPosition, offset_of, accepted}
use Rattle.mad_edit.specs.Editor.{IsPositionIn, offset_at, clamp_tail, replaced}
use Rattle.mad_edit.proofs.UndoLemmas.{clamp_position}

-- the last line goes on with the first of others
glue : List (List ℕ) → List (List ℕ) → List (List ℕ)
glue [] ms = ms
glue (l ∷ []) [] = l ∷ []
glue (l ∷ []) (m ∷ ms) = (l ++ m) ∷ ms
glue (l ∷ k ∷ ls) ms = l ∷ glue (k ∷ ls) ms

glue_nil : (ms : List (List ℕ)) → 0 < length ms → ms ≡ glue ([] ∷ []) ms
unfolding glue
glue_nil [] h = absurd (omega arith)
glue_nil (m ∷ ms) h = refl

glue_cons : (l : List ℕ) (ls ms : List (List ℕ)) → 0 < length ls → l ∷ glue ls ms ≡ glue (l ∷ ls) ms
unfolding glue
glue_cons l [] ms h = absurd (omega arith)
glue_cons l (k ∷ ls) ms h = refl

glue_onto : (c : ℕ) (ls ms : List (List ℕ)) → 0 < length ls → 0 < length ms → onto_first c (glue ls ms) ≡ glue (onto_first c ls) ms
unfolding glue
glue_onto c (l ∷ []) (m ∷ ms) h k = refl
glue_onto c (l ∷ n ∷ ls) ms h k = refl
glue_onto c _ _ h k = absurd (omega arith)

some_lines : (t : List ℕ) → 0 < length (lines t)
some_lines t = omega (arith, length-slice_split is_newline t)

glue_char : (b : Bool) (c : ℕ) (ls ms : List (List ℕ)) → 0 < length ls → 0 < length ms → cond b ([] ∷ glue ls ms) (onto_first c (glue ls ms)) ≡ glue (cond b ([] ∷ ls) (onto_first c ls)) ms
glue_char true c ls ms h k = glue_cons [] ls ms h
glue_char false c ls ms h k = glue_onto c ls ms h k

lines-append : (t u : List ℕ) → lines (t ++ u) ≡ glue (lines t) (lines u)
lines-append [] u = glue_nil (lines u) (some_lines u)
lines-append (c ∷ t) u =
    ap (λ (ls : List (List ℕ)). cond (is_newline c) ([] ∷ ls) (onto_first c ls)) (lines-append t u)
    ∙ glue_char (is_newline c) c (lines t) (lines u) (some_lines t) (some_lines u)

kept_in_glue : (ls ms : List (List ℕ)) (y x : ℕ) → IsPosition ls (record { y = y; x = x }) → IsPosition (glue ls ms) (record { y = y; x = x }) × (offset_of (glue ls ms) (record { y = y; x = x }) ≡ offset_of ls (record { y = y; x = x }))
unfolding glue
kept_in_glue (l ∷ []) [] y x h = (h, refl)
kept_in_glue (l ∷ []) (m ∷ ms) zero x h = ((omega arith, omega (arith, length-append l m, h.1)), refl)
kept_in_glue (l ∷ k ∷ ls) ms zero x h = ((omega arith, h.1), refl)
kept_in_glue (l ∷ k ∷ ls) ms (suc y) x h =
    let rest = kept_in_glue (k ∷ ls) ms y x (omega arith, h.1) in
    let one = length-append (10 ∷ l) (led_lines (take y (glue (k ∷ ls) ms))) in
    let two = length-append (10 ∷ l) (led_lines (take y (k ∷ ls))) in
    ((omega arith, rest.0.1), omega (arith, one, two, rest.1))
kept_in_glue _ _ _ x h = absurd (omega arith)

-- a position of a text is one of the text that goes on, at the same offset
pub position_kept : (t u : List ℕ) (p : Pos) → IsPositionIn t p → IsPositionIn (t ++ u) p × (offset_at (t ++ u) p ≡ offset_at t p)
position_kept t u p h =
    subst (λ (ls : List (List ℕ)). IsPosition ls p × (offset_of ls p ≡ offset_at t p)) (sym (lines-append t u)) (kept_in_glue (lines t) (lines u) p.y p.x h)

-- a tail within a text is kept as it is where the text goes on
pub tail_kept : (t u : List ℕ) (tail : Option Pos) → ForSome tail (IsPositionIn t) → clamp_tail (t ++ u) tail ≡ tail
tail_kept t u None h = refl
tail_kept t u (Some p) h = ap (λ (x : Pos). Some x) (clamp_position (lines (t ++ u)) p (position_kept t u p (h p refl)).0)

-- what is put in at the end
pub replaced_at_end : (t cs : List ℕ) (n m : ℕ) → n ≡ length t → m ≡ length t → replaced t n m cs ≡ t ++ accepted cs
replaced_at_end t cs n m e k =
    ap (λ s. s ++ (accepted cs ++ drop m t)) (take_all n t (omega arith))
    ∙ ap (λ s. t ++ (accepted cs ++ s)) (drop_all m t (omega arith))
    ∙ ap (λ s. t ++ s) (append-nil (accepted cs))
