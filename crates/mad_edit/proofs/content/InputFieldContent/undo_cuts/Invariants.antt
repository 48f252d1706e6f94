use Rattle.std.proofs.Common.{◌≤◌, ◌≡◌, ℕ, List, length, take, map}
use Rattle.std.specs.Prelude.{All}
use Rattle.mad_edit_lines.specs.TextLines.{IsAcceptedChar}
use Rattle.mad_edit.specs.Undo.{LeadsTo, all_undone, cut_of}
use Rattle.mad_edit.proofs.content.InputFieldContent.undo_cuts.Given as goal

abbrev pub invariant-cuts : goal.invariant-cuts
invariant-cuts l = record {
  within : l.left ≤ length l.cuts;
  so_far : (first : List ℕ) → All IsAcceptedChar first → LeadsTo first (map cut_of l.cuts) l.fn.self.text → LeadsTo first (map cut_of (take l.left l.cuts)) l.undone.text;
  editor : all_undone (map cut_of l.cuts) l.fn.self ≡ all_undone (map cut_of (take l.left l.cuts)) l.undone;
}

abbrev pub decreases-cuts : goal.decreases-cuts
decreases-cuts l = l.left
