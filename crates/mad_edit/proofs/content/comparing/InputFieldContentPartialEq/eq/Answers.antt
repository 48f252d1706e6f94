use Rattle.std.proofs.Common.{◌≡◌, Bool, true, false, List, nat_eq, sym, ◌∙◌}
use Rattle.std.specs.Bool.{Decides}
use Rattle.std.specs.Cmp.Lexicographic.{bytes_decides, pointwise}
use Rattle.std.specs.Ordering.{on}
use Rattle.mad_edit_lines.specs.declared.line.Line.{Line}
use Rattle.mad_edit_lines.specs.TextLines.{lines_of, chars_of}
use Rattle.mad_edit.proofs.CompareLemmas.{same_kept, lines_decide, same_position_decides, same_tail_decides}
use Rattle.mad_edit.proofs.content.comparing.InputFieldContentPartialEq.eq.Goals as goal
use Rattle.mad_edit.proofs.content.comparing.InputFieldContentPartialEq.eq.Goals.{then-eq, else-eq}

-- an answer decides what the one that it equals decides
along : {P : Type 0} (r s : Bool) → r ≡ s → Decides s P → Decides r P
along r s e d = (λ h. d.0 (sym e ∙ h), λ p. e ∙ d.1 p)

-- the lines that are kept are compared
text_decides : (r : Bool) (ls ms : List Line) → r ≡ pointwise (on chars_of (pointwise nat_eq)) ls ms → Decides r (lines_of ls ≡ lines_of ms)
text_decides r ls ms e = along _ _ e (lines_decide _ (λ l m. bytes_decides (chars_of l) (chars_of m)) ls ms)

pub returns-then-eq-2 : goal.returns-then-eq-2
returns-then-eq-2 c =
    let a = c.self.inside in
    let b = c.other.inside in
    let text = text_decides c.eq.result a.lines.items b.lines.items c.eq.ensures in
    let tail : Decides c.eq-then-eq-2.result (a.selection_tail ≡ b.selection_tail) =
    along _ _ c.eq-then-eq-2.ensures (same_tail_decides a.selection_tail b.selection_tail) in
    let front : (lines_of a.lines.items ≡ lines_of b.lines.items) × (a.pos ≡ b.pos) = elim c.if-eq.branch [
      | then-eq w ↦ (text.0 w.if-eq.true, (same_position_decides a.pos b.pos).0 (sym w.eq-then-eq.ensures ∙ sym w.value-is ∙ c.if-eq-2.true))
      | else-eq w ↦ cc
    ] in
    let k = same_kept c.eq-then-eq-2.result c.args.self.now c.args.other.now (lines_of a.lines.items) (lines_of b.lines.items)
    a.pos b.pos a.selection_tail b.selection_tail c.self.view_is c.other.view_is c.self.invariant c.other.invariant
    (λ h. (front.0, front.1, tail.0 h), λ w. tail.1 w.2) in
    record { eq = k.0; same = k.1 }

pub returns-else-eq-2 : goal.returns-else-eq-2
returns-else-eq-2 c =
    let a = c.self.inside in
    let b = c.other.inside in
    let text = text_decides c.eq.result a.lines.items b.lines.items c.eq.ensures in
    let front : (lines_of a.lines.items ≡ lines_of b.lines.items) × (a.pos ≡ b.pos) → c.if-eq.value ≡ true = λ k. elim c.if-eq.branch [
      | then-eq w ↦ w.value-is ∙ w.eq-then-eq.ensures ∙ (same_position_decides a.pos b.pos).1 k.1
      | else-eq w ↦ let t : c.eq.result ≡ true = text.1 k.0 in let f : c.eq.result ≡ false = w.if-eq.false in cc
    ] in
    let k = same_kept c.if-eq.value c.args.self.now c.args.other.now (lines_of a.lines.items) (lines_of b.lines.items)
    a.pos b.pos a.selection_tail b.selection_tail c.self.view_is c.other.view_is c.self.invariant c.other.invariant
    (λ h. cc, λ w. front (w.0, w.1)) in
    record { eq = k.0; same = k.1 }
