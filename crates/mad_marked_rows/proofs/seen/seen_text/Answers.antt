use Rattle.std.proofs.Common.{◌≤◌, ◌++◌, List, ap, arith}
use Rattle.mad_marks.specs.LineMarks.{has_mark}
use Rattle.mad_marked_rows.specs.Paints.{paint_by}
use Rattle.mad_marked_rows.proofs.CursorLemmas.{same_joined}
use Rattle.mad_marked_rows.proofs.RowLemmas.{begins_same}
use Rattle.mad_marked_rows.specs.Seen.{seen_compounds}
use Rattle.mad_marked_rows.specs.declared.seen.SeenChar.{SeenChar}
use Rattle.mad_marked_rows.proofs.SeenLemmas.{seen_compound_gone, seen_compounds_done}
use Rattle.mad_marked_rows.proofs.seen.seen_text.Goals as goal

pub loop-compound-init : goal.loop-compound-init
loop-compound-init c = record {
  so_far = ap (λ (t : List SeenChar). t ++ seen_compounds (paint_by c.args.skin.paint.styles.now) (has_mark c.args.composite.now.kind) c.args.skin.runs.now c.args.skin.skin.now c.line_style-style.result.now c.args.number c.args.composite.now.compounds.items) c.new-text.ensures.items;
  same = begins_same c.args.skin.runs.now c.runs_from.result.now c.args.number c.saturating_sub.result c.saturating_sub.ensures c.runs_from.ensures;
}

pub loop-compound-preserved : goal.loop-compound-preserved
loop-compound-preserved c =
    let before = c.loop-compound in
    let done = c.in_ok-push_compound.ensures in
    let up : before.cursor.number ≤ c.push_compound.new.cursor.number = omega (arith, done.number) in
    record {
      so_far = seen_compound_gone (paint_by c.args.skin.paint.styles.now) (has_mark c.args.composite.now.kind) c.args.skin.runs.now before.cursor.runs.now c.args.skin.skin.now c.line_style-style.result.now before.text.items c.push_compound.new.text.items _
          c.deref-compound-items.result.now c.args.composite.now.compounds.items before.compound-index _ before.cursor.number c.push_compound.new.cursor.number c.deref-compound-items.ensures.value c.loop-compound-test.true before.invariant.same done.text done.number before.invariant.so_far;
      same = same_joined c.args.skin.runs.now before.cursor.runs.now c.push_compound.new.cursor.runs.now before.cursor.number c.push_compound.new.cursor.number up before.invariant.same done.same;
    }

pub returns : goal.returns
returns c =
    seen_compounds_done (paint_by c.args.skin.paint.styles.now) (has_mark c.args.composite.now.kind) c.args.skin.runs.now c.args.skin.skin.now c.line_style-style.result.now _ c.loop-compound.text.items c.deref-compound-items.result.now c.args.composite.now.compounds.items
    c.loop-compound.compound-index c.loop-compound.cursor.number c.args.number c.deref-compound-items.ensures.value c.loop-compound-test.false c.line_style-style.ensures c.loop-compound.invariant.so_far
