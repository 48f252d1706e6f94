-- An editor and the lines that it keeps.
use Rattle.std.proofs.Common.{ℕ, ◌-◌, ◌≤◌, ◌≡◌, List, length, take, drop, arith, ap, ◌∙◌, sym, subst, Option, None, Some, max, refl}
use Rattle.std.proofs.lemmas.List.{length-take-le, length-drop}
use Rattle.mad_edit_lines.proofs.PositionLemmas.{length-text}
use Rattle.mad_edit_lines.specs.declared.position.Pos.{Pos}
use Rattle.mad_edit_lines.specs.TextLines.{lines, text_of, offset_of, line_at}
use Rattle.mad_edit.proofs.SplitLemmas.{lines-text_of, accepted_text}
use Rattle.mad_edit.proofs.LineLemmas.{newlines_before, length_front, front_before, rest_after}
use Rattle.mad_edit.specs.Editor.{Editor, IsValid, IsEditor, tail_offset, cursor_line, cursor_index, front_of_line, rest_of_line}

-- the lines of its text are those that it keeps
pub own_lines : (ls : List (List ℕ)) (at : Pos) (tail : Option Pos) → IsValid ls at tail → lines (text_of ls) ≡ ls
own_lines ls at tail h = lines-text_of ls (omega (arith, h.cursor.0)) h.texts

-- the same of an editor that is seen as its text
pub lines_seen : (e : Editor) (ls : List (List ℕ)) (at : Pos) (tail : Option Pos) → record { text = text_of ls; offset = offset_of ls at; tail = tail } ≡ e → IsValid ls at tail → lines e.text ≡ ls
lines_seen e ls at tail seen h = ap (λ (x : Editor). lines x.text) (sym seen) ∙ own_lines ls at tail h

-- these lines, this cursor and this tail are seen as the editor
abbrev pub Seen : Editor → List (List ℕ) → Pos → Option Pos → Type 0
Seen e ls at tail = record { text = text_of ls; offset = offset_of ls at; tail = tail } ≡ e

last_seen : (ls : List (List ℕ)) (at : Pos) (tail : Option Pos) → IsValid ls at tail → max (offset_of ls at) (tail_offset (text_of ls) (offset_of ls at) tail) ≤ length (text_of ls)
last_seen ls at None h = omega (arith, length-text ls at h.cursor)
last_seen ls at (Some p) h = rw (own_lines ls at (Some p) h) (omega (arith, length-text ls at h.cursor, length-text ls p (h.selected p refl)))

-- every editor is valid
pub editor_seen : (e : Editor) (ls : List (List ℕ)) (at : Pos) (tail : Option Pos) → Seen e ls at tail → IsValid ls at tail → IsEditor e
editor_seen e ls at tail seen h =
    subst (λ (x : Editor). IsEditor x) seen (record {
      cursor = omega (arith, length-text ls at h.cursor);
      tail = rw (own_lines ls at tail h) h.selected;
      last = last_seen ls at tail h;
      accepted = accepted_text ls h.texts;
    })

-- the line of the cursor
pub line_seen : (e : Editor) (ls : List (List ℕ)) (at : Pos) (tail : Option Pos) → Seen e ls at tail → IsValid ls at tail → at.y ≡ cursor_line e
line_seen e ls at tail seen h = subst (λ (x : Editor). at.y ≡ cursor_line x) seen (sym (newlines_before ls at h.cursor h.texts))

-- the index of the cursor in its line
pub index_seen : (e : Editor) (ls : List (List ℕ)) (at : Pos) (tail : Option Pos) → Seen e ls at tail → IsValid ls at tail → at.x ≡ cursor_index e
index_seen e ls at tail seen h = subst (λ (x : Editor). at.x ≡ cursor_index x) seen (sym (length_front ls at h.cursor h.texts))

-- what is before the cursor in its line
pub front_seen : (e : Editor) (ls : List (List ℕ)) (at : Pos) (tail : Option Pos) → Seen e ls at tail → IsValid ls at tail → take at.x (line_at ls at.y) ≡ front_of_line e
front_seen e ls at tail seen h = subst (λ (x : Editor). take at.x (line_at ls at.y) ≡ front_of_line x) seen (sym (front_before ls at h.cursor h.texts))

-- what is after the cursor in its line
pub rest_seen : (e : Editor) (ls : List (List ℕ)) (at : Pos) (tail : Option Pos) → Seen e ls at tail → IsValid ls at tail → drop at.x (line_at ls at.y) ≡ rest_of_line e
rest_seen e ls at tail seen h = subst (λ (x : Editor). drop at.x (line_at ls at.y) ≡ rest_of_line x) seen (sym (rest_after ls at h.cursor h.texts))

-- how long the front of the line is
pub front_length : (e : Editor) (ls : List (List ℕ)) (at : Pos) (tail : Option Pos) → Seen e ls at tail → IsValid ls at tail → length (front_of_line e) ≡ at.x
front_length e ls at tail seen h = sym (ap length (front_seen e ls at tail seen h)) ∙ length-take-le at.x (line_at ls at.y) h.cursor.1

-- how long the rest of the line is
pub rest_length : (e : Editor) (ls : List (List ℕ)) (at : Pos) (tail : Option Pos) → Seen e ls at tail → IsValid ls at tail → length (rest_of_line e) ≡ length (line_at ls at.y) - at.x
rest_length e ls at tail seen h = sym (ap length (rest_seen e ls at tail seen h)) ∙ length-drop at.x (line_at ls at.y)
