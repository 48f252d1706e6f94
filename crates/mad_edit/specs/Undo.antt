-- Lists of cuts, and what undoing them leaves.
use Rattle.std.specs.Prelude.{ℕ, ◌≡◌, ◌+◌, List, [], ◌∷◌, ◌++◌, length, take, drop}
use Rattle.std.specs.Str.{chars}
use Rattle.std.specs.Borrow.{Bor}
use Rattle.mad_edit_lines.specs.declared.position.Pos.{Pos}
use Rattle.mad_edit_lines.specs.TextLines.{accepted}
use Rattle.mad_edit.specs.Editor.{Editor, IsAt, offset_at, clamp_in, clamp_tail, replaced}

-- a text that was cut out at a position
pub record Cut : Type 0 where
  pub position : Pos
  pub text : List ℕ

-- the text after the cut has the position, and with the cut's text there it is the text before
pub record Removes (before : List ℕ) (cut : Cut) (after : List ℕ) : Type 0 where
  pub offset : ℕ
  pub position : IsAt after offset cut.position
  pub text : before ≡ take offset after ++ (cut.text ++ drop offset after)

-- each cut in turn removes its text at its position
abbrev pub LeadsTo : List ℕ → List Cut → List ℕ → Type 0
LeadsTo first [] last = first ≡ last
LeadsTo first (cut ∷ cuts) last = (next : List ℕ) × Removes first cut next × LeadsTo next cuts last

-- a cut, as it is handed to `undo_cuts`: a position and the text that was cut out there
abbrev pub cut_of : (Pos × Bor (List ℕ)) → Cut
cut_of pair = record { position = pair.0; text = chars pair.1.now }

-- the editor after a text is put in at an offset, with the cursor after it
abbrev pub put_in : Editor → ℕ → List ℕ → Editor
put_in e n cs =
    record { text = replaced e.text n n cs; offset = n + length (accepted cs); tail = clamp_tail (replaced e.text n n cs) e.tail }

-- the editor after each text that was cut out is put in at its position again, or at the nearest one, the last cut's first
abbrev pub all_undone : List Cut → Editor → Editor
all_undone [] e = e
all_undone (cut ∷ cuts) e =
    let later = all_undone cuts e in put_in later (offset_at later.text (clamp_in later.text cut.position)) cut.text
