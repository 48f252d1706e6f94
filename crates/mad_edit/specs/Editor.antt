-- What an editor is: one text, an offset into it, and an optional tail.
use Rattle.std.specs.Prelude.{ℕ, ◌+◌, ◌-◌, ◌<◌, ◌≤◌, ◌≡◌, ◌↔◌, List, ◌++◌, All, Option, None, Some, IfSome, IsSome, IsTrue, Bool, not, ◌==◌, length, take, drop, min, max, option_map, slice_range, count_by, nat_lt, nat_eq, if◌then◌else◌}
use Rattle.std.specs.Bool.{OnTrue, OnFalse}
use Rattle.std.specs.Cmp.Lexicographic.{pointwise}
use Rattle.std.specs.Option.{ForSome, option_eq}
use Rattle.std.specs.Ordering.{on, eq_of_both}
use Rattle.std.specs.List.{prefix_len, suffix_len}
use Rattle.mad_edit_lines.specs.declared.position.Pos.{Pos}
use Rattle.mad_edit_lines.specs.declared.words.CharClass.{CharClass}
use Rattle.mad_edit_lines.specs.CharClasses.{is_alphanumeric, is_of}
use Rattle.mad_edit_lines.specs.LineColumns.{columns, IsIndexAtColumn}
use Rattle.mad_edit_lines.specs.TextLines.{lines, line_at, IsPosition, IsLineText, IsAcceptedChar, is_newline, offset_of, accepted, clamp}
use Rattle.mad_edit.specs.Words.{removed_after}

-- an editor
pub record Editor : Type 0 where
  pub text : List ℕ
  pub offset : ℕ
  pub tail : Option Pos

-- whether two positions are the same
abbrev pub same_position : Pos → Pos → Bool
same_position = eq_of_both (on (λ p. p.y) nat_eq) (on (λ p. p.x) nat_eq)

-- whether two editors have the same text, offset and tail
abbrev pub same_editor : Editor → Editor → Bool
same_editor =
    eq_of_both (on (λ e. e.text) (pointwise nat_eq)) (eq_of_both (on (λ e. e.offset) nat_eq) (on (λ e. e.tail) (option_eq same_position)))

-- a position is one of the text
abbrev pub IsPositionIn : List ℕ → Pos → Type 0
IsPositionIn t p = IsPosition (lines t) p

-- the offset that says the same as a position
abbrev pub offset_at : List ℕ → Pos → ℕ
offset_at t p = offset_of (lines t) p

-- a position of the text that says the same as an offset
abbrev pub IsAt : List ℕ → ℕ → Pos → Type 0
IsAt t n p = IsPositionIn t p × (offset_at t p ≡ n)

-- the position itself, or the nearest one on its line, or the end of the text
abbrev pub clamp_in : List ℕ → Pos → Pos
clamp_in t p = clamp (lines t) p

-- a tail keeps the numbers of its line and character as far as the text goes
abbrev pub clamp_tail : List ℕ → Option Pos → Option Pos
clamp_tail t tail = option_map (clamp_in t) tail

-- the offset of the tail, or of the cursor where there is none
abbrev pub tail_offset : List ℕ → ℕ → Option Pos → ℕ
tail_offset t n None = n
tail_offset t n (Some p) = offset_at t p

-- where the selection begins: at the lesser of cursor and tail
abbrev pub selection_start : Editor → ℕ
selection_start e = min e.offset (tail_offset e.text e.offset e.tail)

-- its last character: the one at the greater of cursor and tail
abbrev pub selection_last : Editor → ℕ
selection_last e = max e.offset (tail_offset e.text e.offset e.tail)

-- the offset past its last character, or the end of the text
abbrev pub selection_end : Editor → ℕ
selection_end e = min (selection_last e + 1) (length e.text)

-- the selected characters
abbrev pub selected : Editor → List ℕ
selected e = slice_range e.text (selection_start e) (selection_end e)

-- the tail is elsewhere than the cursor
abbrev pub IsWide : Editor → Type 0
IsWide e = selection_start e < selection_last e

-- a text in which what is between two offsets is replaced by characters, less those that are never put in
abbrev pub replaced : List ℕ → ℕ → ℕ → List ℕ → List ℕ
replaced t from to cs = take from t ++ (accepted cs ++ drop to t)

-- a text without what is between two offsets
abbrev pub without : List ℕ → ℕ → ℕ → List ℕ
without t from to = take from t ++ drop to t

-- a character that is no newline
abbrev pub is_in_line : ℕ → Bool
is_in_line c = not (c == 10)

-- the number of the cursor's line
abbrev pub cursor_line : Editor → ℕ
cursor_line e = count_by is_newline (take e.offset e.text)

-- how many characters of its line are before the cursor
abbrev pub cursor_index : Editor → ℕ
cursor_index e = suffix_len is_in_line (take e.offset e.text)

-- the characters of its line before the cursor
abbrev pub front_of_line : Editor → List ℕ
front_of_line e = drop (e.offset - cursor_index e) (take e.offset e.text)

-- the characters of its line after the cursor
abbrev pub rest_of_line : Editor → List ℕ
rest_of_line e = take (prefix_len is_in_line (drop e.offset e.text)) (drop e.offset e.text)

-- what is true of every editor
pub record IsEditor (e : Editor) : Type 0 where
  pub cursor : e.offset ≤ length e.text
  pub tail : ForSome e.tail (IsPositionIn e.text)
  pub last : selection_last e ≤ length e.text
  pub accepted : All IsAcceptedChar e.text

-- lines with a cursor and a tail: both are positions of the lines, and each line is the text of one
pub record IsValid (ls : List (List ℕ)) (at : Pos) (tail : Option Pos) : Type 0 where
  pub cursor : IsPosition ls at
  pub selected : ForSome tail (IsPosition ls)
  pub texts : All IsLineText ls

-- the editor after characters were put in place of what was between two offsets
pub record IsReplaced (old new : Editor) (from to : ℕ) (cs : List ℕ) : Type 0 where
  pub text : new.text ≡ replaced old.text from to cs
  pub cursor : new.offset ≡ from + length (accepted cs)
  pub tail : new.tail ≡ clamp_tail new.text old.tail

-- the text after characters are put in at the cursor
abbrev pub inserted : Editor → List ℕ → List ℕ
inserted e cs = replaced e.text e.offset e.offset cs

-- the cursor went to a line, to the first character that starts at its column or after it, or to the line's end
abbrev pub IsMovedToLine : Editor → ℕ → Editor → Type 0
IsMovedToLine old y new =
    (x : ℕ) × IsIndexAtColumn (line_at (lines old.text) y) (columns (front_of_line old)) x
    × (new ≡ record old { offset = offset_at old.text (record { y = y; x = x }) })

-- the editor after what was between two offsets was removed
pub record IsRemoved (old new : Editor) (from to : ℕ) : Type 0 where
  pub text : new.text ≡ without old.text from to
  pub cursor : new.offset ≡ from
  pub tail : new.tail ≡ clamp_tail new.text old.tail

-- the editor after its selection was removed
pub record IsCut (old new : Editor) : Type 0 where
  pub text : new.text ≡ without old.text (selection_start old) (selection_end old)
  pub cursor : new.offset ≡ selection_start old
  pub tail : new.tail ≡ None

-- the editor after characters were put in place of its selection
abbrev pub IsSelectionReplaced : Editor → Editor → List ℕ → Type 0
IsSelectionReplaced old new cs =
    (new.text ≡ replaced old.text (selection_start old) (selection_end old) cs)
    × (new.offset ≡ selection_start old + length (accepted cs))
    × (new.tail ≡ None)

-- the characters of a class around the cursor are selected, if it is at one: the tail is at the first, the cursor at the last
pub record SelectsAround (class : CharClass) (old new : Editor) (answer : Bool) : Type 0 where
  pub found : IsTrue answer ↔ (0 < prefix_len (is_of class) (rest_of_line old))
  pub cursor : OnTrue answer (new.offset + 1 ≡ old.offset + prefix_len (is_of class) (rest_of_line old))
  pub tail : OnTrue answer (IfSome new.tail (λ p. IsAt old.text (old.offset - suffix_len (is_of class) (front_of_line old)) p))
  pub some : OnTrue answer (IsSome new.tail)
  pub text : new.text ≡ old.text
  pub none : OnFalse answer (new ≡ old)

-- Where what a removal at the cursor takes begins: at the cursor. At the end of the text it is the newline before, if the last line
-- is empty.
abbrev pub below_start : Editor → ℕ
below_start e = if nat_lt e.offset (length e.text) then e.offset else (if length (front_of_line e) == 0 then e.offset - 1 else e.offset)

-- where it ends: after the character at the cursor, or at the end of the text
abbrev pub below_end : Editor → ℕ
below_end e = min (e.offset + 1) (length e.text)

-- the editor after what a removal at the cursor takes was removed
abbrev pub IsRemovedBelow : Editor → Editor → Type 0
IsRemovedBelow old new = IsRemoved old new (below_start old) (below_end old)

-- The editor's text and tail after letters and numbers after the cursor in its line, and the first other character, were removed.
abbrev pub IsWordRemoved : Editor → Editor → Type 0
IsWordRemoved old new =
    (new.text ≡ without old.text old.offset (old.offset + removed_after (rest_of_line old)))
    × (new.tail ≡ clamp_tail new.text old.tail)

-- where the cursor is after a removal to the right: one step back in its line where letters and numbers reached the line's end
abbrev pub after_word_removed : Editor → ℕ
after_word_removed e =
    if prefix_len is_alphanumeric (rest_of_line e) == length (rest_of_line e) then e.offset - min 1 (length (front_of_line e)) else e.offset
