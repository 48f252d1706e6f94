use Rattle.std.proofs.Common.{ℕ, List, rules, arith, ap, sym, ◌∙◌}
use Rattle.std.specs.Prelude.{option_map}
use Rattle.mad_edit.proofs.EditorLemmas.{lines_seen, line_seen, index_seen}
use Rattle.mad_edit_lines.specs.TextLines.{lines_of, text_of, offset_of, clamp}
use Rattle.mad_edit.proofs.SwapLemmas.{swapped_lines, swapped_texts}
use Rattle.mad_edit.proofs.content.InputFieldContent.swap_lines.Goals as goal

pub returns-then-one-other-clause-done : goal.returns-then-one-other-clause-done
returns-then-one-other-clause-done c = rw (lines_seen _ _ _ _ c.self.view_is c.self.invariant) (search rules)

pub invariant_of-self : goal.invariant_of-self
invariant_of-self c =
    let count = rw c.deref.ensures.value at c.line_count-count.ensures in
    record {
      cursor = rw c.deref-2.ensures.value at c.valid_pos-self-inside.ensures.position;
      selected = rw c.deref-3.ensures.value at c.clamp_tail-self-inside.ensures.position;
      texts = swapped_texts (lines_of c.self.inside.lines.items) (lines_of c.swap_lines.new.lines.items) c.args.one c.args.other (omega arith) (omega arith) c.self.invariant.texts c.swap_lines.ensures;
    }

pub returns-clause-done : goal.returns-clause-done
returns-clause-done c = rw (lines_seen _ _ _ _ c.self.view_is c.self.invariant) (search rules)

pub returns-clause-text : goal.returns-clause-text
returns-clause-text c = rw (lines_seen _ _ _ _ c.self.view_is c.self.invariant) (ap text_of c.swap_lines.ensures)

pub returns-clause-cursor : goal.returns-clause-cursor
returns-clause-cursor c =
    let count = rw c.deref.ensures.value at c.line_count-count.ensures in
    rw ((swapped_lines (lines_of c.self.inside.lines.items) (lines_of c.swap_lines.new.lines.items) c.args.one c.args.other (omega arith) (omega arith) c.self.invariant.texts c.swap_lines.ensures), ← line_seen _ _ _ _ c.self.view_is c.self.invariant, ← index_seen _ _ _ _ c.self.view_is c.self.invariant)
    (ap (offset_of (lines_of c.swap_lines.new.lines.items)) (rw c.deref-2.ensures.value at c.valid_pos-self-inside.ensures.is))

pub returns-clause-tail : goal.returns-clause-tail
returns-clause-tail c =
    let count = rw c.deref.ensures.value at c.line_count-count.ensures in
    let kept = swapped_lines (lines_of c.self.inside.lines.items) (lines_of c.swap_lines.new.lines.items) c.args.one c.args.other (omega arith) (omega arith) c.self.invariant.texts c.swap_lines.ensures in
    rw (← c.self.view_is) ((rw c.deref-3.ensures.value at c.clamp_tail-self-inside.ensures.is) ∙ ap (λ (ls : List (List ℕ)). option_map (clamp ls) c.self.inside.selection_tail) (sym kept))
