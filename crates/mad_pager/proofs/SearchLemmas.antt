-- What Up brings into the field.
use Rattle.std.proofs.Common.{◌≡◌, ℕ, ◌+◌, ◌-◌, ◌==◌, ◌&&◌, not, nat_lt, min, Bool, true, false, List, [], ◌∷◌, ◌++◌, take, drop, length, None, refl, ap, sym, ◌∙◌, append_assoc, arith, if◌then◌else◌}
use Rattle.std.specs.Prelude.{max}
use Rattle.std.specs.List.{filter}
use Rattle.std.specs.Cmp.Lexicographic.{same_text}
use Rattle.std.specs.Str.{bytes_eq, chars}
use Rattle.std.proofs.lemmas.List.{append-nil, drop_all, get_or_push, length-append, take_all}
use Rattle.std.proofs.lemmas.List.Elements.{filter-append}
use Rattle.std.proofs.lemmas.Bool.Decides.{nat_tests}
use Rattle.mad_characters.specs.Columns.{char_columns}
use Rattle.mad_edit_lines.specs.TextLines.{accepted, is_accepted}
use Rattle.mad_edit.specs.Editor.{Editor}
use Rattle.mad_edit.specs.Undo.{put_in}
use Rattle.mad_field.specs.Fields.{Field}
use Rattle.mad_field.specs.Edits.{Outcome, is_wide}
use Rattle.mad_patterns.specs.Readings.{Reading}
use Rattle.mad_pager.specs.SearchLaws.{at_end, is_typable}
use Rattle.mad_pager.specs.Sessions.{State, begun_recall, char_key, char_typed, earlier, recalled, remembered, seeking, text_typed}

-- ---- the end of a text

narrow_end : (n : ℕ) → nat_lt (min n n) (max n n) ≡ false
narrow_end n = grind (arith, nat_tests)

put_at_end : (t a : List ℕ) → take (length t) t ++ (a ++ drop (length t) t) ≡ t ++ a
put_at_end t a =
    ap (λ (x : List ℕ). x ++ (a ++ drop (length t) t)) (take_all (length t) t (omega arith))
    ∙ ap (λ (x : List ℕ). t ++ x) (ap (λ (x : List ℕ). a ++ x) (drop_all (length t) t (omega arith)) ∙ append-nil a)

put_in_at_end : (t cs : List ℕ) → put_in (at_end t) (length t) cs ≡ at_end (t ++ accepted cs)
put_in_at_end t cs =
    ap (λ (x : List ℕ). let e : Editor = record { text = x; offset = length t + length (accepted cs); tail = None } in e) (put_at_end t (accepted cs))
    ∙ ap (λ (n : ℕ). let e : Editor = record { text = t ++ accepted cs; offset = n; tail = None } in e) (sym (length-append t (accepted cs)))

-- ---- characters that are typed there

nothing_more : (t : List ℕ) → at_end t ≡ at_end (t ++ [])
nothing_more t = ap at_end (sym (append-nil t))

chosen : (none wide accepts : Bool) (f other next : Field) (t : List ℕ) (c : ℕ) → wide ≡ false → f.content ≡ at_end t → (accepts ≡ true → next.content ≡ at_end (t ++ c ∷ []))
    → (if none then f else (let o : Outcome = if wide then record { answer = true; field = other } else if accepts then record { answer = true; field = next } else record { answer = false; field = f } in o).field).content
    ≡ at_end (t ++ (if not none && accepts then c ∷ [] else []))
chosen true wide accepts f other next t c narrow e put = e ∙ nothing_more t
chosen false true accepts f other next t c narrow e put = absurd (cc)
chosen false false true f other next t c narrow e put = put refl
chosen false false false f other next t c narrow e put = e ∙ nothing_more t

one_typed : (c : ℕ) (s : State) (t : List ℕ) → s.field.content ≡ at_end t → (char_typed c (char_key c) s).field.content ≡ at_end (t ++ filter is_typable (c ∷ []))
one_typed c s t e =
    chosen (char_columns c == 0) (is_wide s.field.content) (is_accepted c) s.field _ _ t c (ap is_wide e ∙ narrow_end (length t)) e
    (λ accepts. ap (λ (x : Editor). put_in x x.offset (c ∷ [])) e ∙ (put_in_at_end t (c ∷ []) ∙ ap (λ (b : Bool). at_end (t ++ (if b then c ∷ [] else []))) accepts))

all_typed : (cs t : List ℕ) (s : State) → s.field.content ≡ at_end t → (text_typed cs s).field.content ≡ at_end (t ++ filter is_typable cs)
all_typed [] t s e = e ∙ nothing_more t
all_typed (c ∷ cs) t s e =
    all_typed cs (t ++ filter is_typable (c ∷ [])) (char_typed c (char_key c) s) (one_typed c s t e)
    ∙ ap at_end (append_assoc t (filter is_typable (c ∷ [])) (filter is_typable cs) ∙ ap (λ (l : List ℕ). t ++ l) (sym (filter-append is_typable (c ∷ []) cs)))

-- ---- the last text

last_is : (past : List (List ℕ)) (text : List ℕ) (b : Bool) → bytes_eq (earlier past 1) text ≡ b → earlier (if b then past else past ++ text ∷ []) 1 ≡ text
last_is past text true e = same_text (earlier past 1) text (sym e)
last_is past text false e = get_or_push past text [] (length (past ++ text ∷ []) - 1) (omega (arith, length-append past (text ∷ [])))

pub up_brings_the_last : (text : List ℕ) (reading : Reading) (s : State) → (recalled 1 (seeking text reading s)).field.content ≡ at_end (filter is_typable (chars text))
up_brings_the_last text reading s =
    all_typed (chars (earlier (remembered text s.past) 1)) [] (begun_recall 1 (seeking text reading s)) refl
    ∙ ap (λ (l : List ℕ). at_end (filter is_typable (chars l))) (last_is s.past text (bytes_eq (earlier s.past 1) text) refl)
