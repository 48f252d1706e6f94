use Rattle.std.proofs.Common.{◌≡◌, ◌∙◌, ap, sym, subst, arith, rules, List, ℕ}
use Rattle.mad_edit_lines.specs.TextLines.{lines, lines_of, line_at}
use Rattle.mad_edit_lines.specs.LineColumns.{columns, IsIndexAtColumn}
use Rattle.mad_edit.specs.Editor.{front_of_line}
use Rattle.mad_edit.proofs.EditorLemmas.{lines_seen, front_seen}
use Rattle.mad_edit.proofs.content.InputFieldContent.put_in_line.Goals as goal

pub rest_at-requires : goal.rest_at-requires
rest_at-requires c = rw c.deref-2.ensures.value (rw (lines_seen _ _ _ _ c.self.view_is c.self.invariant) at c.requires, omega arith)

pub invariant_of-self : goal.invariant_of-self
invariant_of-self c =
    let line : c.rest_at.result.now ≡ line_at (lines_of c.self.inside.lines.items) c.args.y = rw c.deref-2.ensures.value at c.rest_at.ensures in
    record {
      cursor = (rw (lines_seen _ _ _ _ c.self.view_is c.self.invariant) at c.requires, rw line at c.index_at_column-x.ensures.within);
      selected = c.self.invariant.selected;
      texts = c.self.invariant.texts;
    }

pub returns : goal.returns
returns c =
    let x = c.index_at_column-x.result in
    let line : c.rest_at.result.now ≡ line_at (lines c.args.self.now.text) c.args.y = (rw c.deref-2.ensures.value at c.rest_at.ensures) ∙ ap (λ (ls : List (List ℕ)). line_at ls c.args.y) (sym (lines_seen _ _ _ _ c.self.view_is c.self.invariant)) in
    let column : c.columns-column.result ≡ columns (front_of_line c.args.self.now) = c.columns-column.ensures ∙ ap columns ((rw c.deref.ensures.value at c.front_at.ensures) ∙ front_seen _ _ _ _ c.self.view_is c.self.invariant) in (
      x,
      subst (λ (l : List ℕ). IsIndexAtColumn l (columns (front_of_line c.args.self.now)) x) line
          (subst (λ (k : ℕ). IsIndexAtColumn c.rest_at.result.now k x) column c.index_at_column-x.ensures),
      rw (lines_seen _ _ _ _ c.self.view_is c.self.invariant, ← c.self.view_is) (search rules),
    )
