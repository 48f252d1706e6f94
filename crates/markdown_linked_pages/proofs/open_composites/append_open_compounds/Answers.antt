use Rattle.std.proofs.Common.{◌≤◌, arith}
use Rattle.std.specs.Prelude.{string_bytes}
use Rattle.mad_marks.specs.LineMarks.{has_mark}
use Rattle.mad_marked_rows.specs.Paints.{paint_by}
use Rattle.mad_marked_rows.proofs.CursorLemmas.{same_joined}
use Rattle.mad_marked_rows.proofs.RowLemmas.{compound_gone}
use Rattle.markdown_linked_pages.proofs.OpenLemmas.{compounds_whole}
use Rattle.markdown_linked_pages.proofs.open_composites.append_open_compounds.Goals as goal

pub loop-compound-preserved : goal.loop-compound-preserved
loop-compound-preserved c =
    let before = c.loop-compound in
    let done = c.in_ok-link.ensures in
    let up : before.cursor.number ≤ c.append_compound.new.cursor.number = omega (arith, done.number) in
    record {
      so_far = compound_gone (paint_by c.args.skin.paint.styles.now) (has_mark c.args.kind) c.args.cursor.now.runs.now before.cursor.runs.now c.args.skin.skin.now c.args.style.now c.args.skin.addresses.now (string_bytes before.rows, before.link) (string_bytes c.append_compound.new.rows, c.in_ok-link.link) _
          c.args.compounds.now before.compound-index _ before.cursor.number c.append_compound.new.cursor.number c.loop-compound-test.true before.invariant.same done.writes done.number before.invariant.so_far;
      same = same_joined c.args.cursor.now.runs.now before.cursor.runs.now c.append_compound.new.cursor.runs.now before.cursor.number c.append_compound.new.cursor.number up before.invariant.same done.same;
    }

pub returns : goal.returns
returns c =
    let last = c.loop-compound in
    compounds_whole (paint_by c.args.skin.paint.styles.now) (has_mark c.args.kind) c.args.cursor.now.runs.now c.args.skin.skin.now c.args.style.now c.args.skin.addresses.now (string_bytes last.rows, last.link) _ c.args.compounds.now last.compound-index last.cursor.number c.loop-compound-test.false last.invariant.so_far
