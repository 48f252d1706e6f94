use Rattle.std.proofs.Common.{◌≡◌, subst}
use Rattle.mad_edit_lines.specs.declared.position.Pos.{Pos}
use Rattle.mad_edit_lines.specs.TextLines.{lines_of, IsPosition}
use Rattle.mad_edit.proofs.EditorLemmas.{lines_seen}
use Rattle.mad_edit.proofs.content.InputFieldContent.put_tail.Goals as goal

pub invariant_of-self : goal.invariant_of-self
invariant_of-self c = record {
  cursor = c.self.invariant.cursor;
  selected = λ x same.
      let e : c.args.position ≡ x = cc in
      subst (λ (v : Pos). IsPosition (lines_of c.self.inside.lines.items) v) e (rw (lines_seen _ _ _ _ c.self.view_is c.self.invariant) at c.requires);
  texts = c.self.invariant.texts;
}
