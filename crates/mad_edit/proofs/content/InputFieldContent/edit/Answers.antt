use Rattle.mad_edit.proofs.SplitLemmas.{lines-text_of}
use Rattle.std.proofs.Common.{ℕ, List, ap, sym, ◌∙◌, arith, rules}
use Rattle.std.specs.Prelude.{option_map}
use Rattle.mad_edit_lines.specs.TextLines.{lines_of, clamp}
use Rattle.mad_edit.proofs.EditorLemmas.{lines_seen}
use Rattle.mad_edit.proofs.LineLemmas.{lines_in_order}
use Rattle.mad_edit.proofs.content.InputFieldContent.edit.Goals as goal

pub edit_lines-requires-clause-from : goal.edit_lines-requires-clause-from
edit_lines-requires-clause-from c = rw (lines_seen _ _ _ _ c.self.view_is c.self.invariant) at c.requires.from

pub edit_lines-requires-clause-to : goal.edit_lines-requires-clause-to
edit_lines-requires-clause-to c = rw (lines_seen _ _ _ _ c.self.view_is c.self.invariant) at c.requires.to

pub returns-clause-text : goal.returns-clause-text
returns-clause-text c = rw (lines_seen _ _ _ _ c.self.view_is c.self.invariant, ← c.self.view_is) (search rules)

pub returns-clause-cursor : goal.returns-clause-cursor
returns-clause-cursor c = rw (lines_seen _ _ _ _ c.self.view_is c.self.invariant) (search rules)

pub returns-clause-tail : goal.returns-clause-tail
returns-clause-tail c =
    let kept = lines-text_of (lines_of c.edit_lines.new.lines.items) (omega (arith, c.in_ok-pos.ensures.position)) c.in_ok-pos.ensures.texts in
    rw (← c.self.view_is) ((rw c.deref.ensures.value at c.clamp_tail-self-inside.ensures.is) ∙ ap (λ (ls : List (List ℕ)). option_map (clamp ls) c.self.inside.selection_tail) (sym kept))

pub edit_lines-requires-clause-order : goal.edit_lines-requires-clause-order
edit_lines-requires-clause-order c =
    lines_in_order (lines_of c.self.inside.lines.items) c.args.from c.args.to
    (rw (lines_seen _ _ _ _ c.self.view_is c.self.invariant) at c.requires.from) (rw (lines_seen _ _ _ _ c.self.view_is c.self.invariant) at c.requires.to) (rw (lines_seen _ _ _ _ c.self.view_is c.self.invariant) at c.requires.order)
