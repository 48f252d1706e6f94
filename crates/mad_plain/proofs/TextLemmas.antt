-- The lines of a text, one after the other.
use Rattle.std.proofs.Common.{◌≡◌, ℕ, ◌<◌, List, [], ◌∷◌, ◌++◌, length, map, refl, ap, sym, ◌∙◌, append_assoc}
use Rattle.std.specs.Borrow.{Bor}
use Rattle.std.specs.List.{before_first, after_first, slice_split}
use Rattle.std.specs.Str.Lines.{strip_carriage_return}
use Rattle.std.proofs.lemmas.List.{map-append}
use Rattle.mad_md.proofs.PartsLemmas.{first_line, split_is_parts}
use Rattle.mad_plain.specs.Laws.{AreLinesOf}
use Rattle.mad_plain.specs.Texts.{is_newline_byte, text_lines}

-- one more line is cut off, and those behind it are to come
pub cut_more : (rest part after : List ℕ) (all : List (List ℕ)) (lines new : List (Bor (List ℕ))) (line : Bor (List ℕ)) → 0 < length rest
    → part ≡ before_first is_newline_byte rest → after ≡ after_first is_newline_byte rest → new ≡ lines ++ line ∷ [] → line.now ≡ strip_carriage_return part
    → map (λ line. line.now) lines ++ text_lines rest ≡ all → map (λ line. line.now) new ++ text_lines after ≡ all
cut_more rest part after all lines new line some part_is after_is pushed said h =
    ap (λ (ls : List (Bor (List ℕ))). map (λ line. line.now) ls ++ text_lines after) pushed
    ∙ ap (λ (ls : List (List ℕ)). ls ++ text_lines after) (map-append (λ (line : Bor (List ℕ)). line.now) lines (line ∷ []))
    ∙ append_assoc (map (λ line. line.now) lines) (line.now ∷ []) (text_lines after)
    ∙ ap (λ (l : List ℕ). map (λ line. line.now) lines ++ l ∷ text_lines after) said
    ∙ ap (λ (p : List ℕ). map (λ line. line.now) lines ++ strip_carriage_return p ∷ text_lines after) part_is
    ∙ ap (λ (a : List ℕ). map (λ line. line.now) lines ++ strip_carriage_return (before_first is_newline_byte rest) ∷ text_lines a) after_is
    ∙ ap (λ (ps : List (List ℕ)). map (λ line. line.now) lines ++ map strip_carriage_return ps) (sym (first_line rest some))
    ∙ h

-- the lines of a text are what stands between its newlines
pub are_lines : (text : List ℕ) → AreLinesOf text (text_lines text)
are_lines text = record { parts = slice_split is_newline_byte text; cut = split_is_parts text; are = refl }
