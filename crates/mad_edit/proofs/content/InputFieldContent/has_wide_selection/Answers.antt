use Rattle.std.proofs.Common.{◌≡◌, arith}
use Rattle.mad_edit_lines.specs.TextLines.{IsPosition, lines_of, offset_of}
use Rattle.mad_edit.specs.Editor.{selection_start, selection_last}
use Rattle.mad_edit.proofs.EditorLemmas.{lines_seen}
use Rattle.mad_edit.proofs.content.InputFieldContent.has_wide_selection.Goals as goal

pub returns : goal.returns
returns c =
    let ls = lines_of c.self.inside.lines.items in
    let from : IsPosition ls c.selection.result.min = rw (lines_seen _ _ _ _ c.self.view_is c.self.invariant) at c.selection.ensures.min.0 in
    let to : IsPosition ls c.selection.result.max = rw (lines_seen _ _ _ _ c.self.view_is c.self.invariant) at c.selection.ensures.max.0 in
    let low : offset_of ls c.selection.result.min ≡ selection_start c.args.self.now = rw (lines_seen _ _ _ _ c.self.view_is c.self.invariant) at c.selection.ensures.min.1 in
    let high : offset_of ls c.selection.result.max ≡ selection_last c.args.self.now = rw (lines_seen _ _ _ _ c.self.view_is c.self.invariant) at c.selection.ensures.max.1 in
    let before = c.is_before.ensures ls from to in
    (λ h. let less = before.0 h in omega (arith, low, high, less), λ h. before.1 (omega (arith, low, high, h)))
