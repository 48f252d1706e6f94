use Rattle.std.proofs.Common.{◌≤◌, inl, inr, List, length, ap, sym, ◌∙◌, subst, arith}
use Rattle.mad_blocks.specs.Fronts.{IsFrontLayout}
use Rattle.mad_blocks.specs.PartCursors.{lines_left}
use Rattle.mad_format.specs.declared.line.FmtLine.{FmtLine}
use Rattle.mad_blocks.proofs.PartCursorLemmas.{laid_on, laid_front}
use Rattle.mad_blocks.proofs.texts.lay_first_parts.Goals as goal
use Rattle.mad_blocks.proofs.texts.lay_first_parts.Goals.{then-loop-parts-test+in_ok-lay_next+else-branch, else-loop-parts-test}

pub loop-parts-preserved : goal.loop-parts-preserved
loop-parts-preserved g c =
    laid_on (g.S.LineSkin.rules c.args.skin.now) c.args.width (lines_left c.args.parts.now) (lines_left c.loop-parts.parts) (lines_left c.lay_next.new.self) c.loop-parts.lines.items c.lay_next.new.lines.items c.loop-parts.invariant
    (rw c.if-branch.true at c.in_ok-lay_next.ensures)

pub returns : goal.returns
returns g c =
    let all = lines_left c.args.parts.now in
    let Front = λ (ls : List FmtLine). IsFrontLayout (g.S.LineSkin.rules c.args.skin.now) c.args.width c.args.rows all ls in
    elim c.loop-parts-test.branch as (λ _. Front c.loop-parts-test.lines.items) [
      | then-loop-parts-test+in_ok-lay_next+else-branch w ↦
          let end = rw w.if-branch.false at w.in_ok-lay_next.ensures in
          subst Front (sym (ap (λ v. v.items) w.lines-is ∙ end.2)) (laid_front _ _ _ all (lines_left c.loop-parts.parts) c.loop-parts.lines.items c.loop-parts.invariant (inl end.0))
      | else-loop-parts-test w ↦
          let enough : c.args.rows ≤ length c.loop-parts.lines.items = omega (arith, w.loop-parts-test.false, c.len.ensures) in
          subst Front (sym (ap (λ v. v.items) w.lines-is)) (laid_front _ _ _ all (lines_left c.loop-parts.parts) c.loop-parts.lines.items c.loop-parts.invariant (inr enough))
    ]
