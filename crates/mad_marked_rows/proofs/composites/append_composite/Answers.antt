use Rattle.std.proofs.Common.{◌++◌, ◌∙◌, ap}
use Rattle.std.specs.Prelude.{string_bytes}
use Rattle.mad_links.specs.LinkRows.{linked_bytes}
use Rattle.mad_marks.specs.LineMarks.{has_mark}
use Rattle.mad_marked_rows.specs.Paints.{paint_by}
use Rattle.mad_marked_rows.proofs.RowLemmas.{begins_same, composite_row, compounds_same}
use Rattle.mad_marked_rows.proofs.composites.append_composite.Goals as goal

pub returns : goal.returns
returns c =
    let place = c.args.place in
    let kind = c.args.composite.now.kind in
    let same = begins_same c.args.skin.runs.now c.runs_from.result.now c.args.number c.saturating_sub.result c.saturating_sub.ensures c.runs_from.ensures in
    let compounds = c.in_ok-append_compounds.ensures
    ∙ ap (λ ps. string_bytes c.write.new.self ++ linked_bytes c.args.skin.addresses.now ps) (compounds_same (paint_by c.args.skin.paint.styles.now) (has_mark kind) c.args.skin.runs.now c.runs_from.result.now c.args.skin.skin.now c.line_style-style.result.now c.args.number c.deref.result.now same) in
    composite_row (paint_by c.args.skin.paint.styles.now) has_mark c.args.skin.runs.now c.args.skin.skin.now place.outer place.margins place.filled c.args.number c.args.composite.now c.line_style-style.result.now c.deref.result.now c.args.skin.addresses.now
    (string_bytes c.args.rows.now) (string_bytes c.write.new.self) (string_bytes c.append_compounds.new.rows) (string_bytes c.write-2.new.self) c.line_style-style.ensures c.deref.ensures.value
    (rw c.ends.ensures.front at c.in_ok-write.ensures.bytes) compounds (rw c.ends.ensures.end at c.in_ok-write-2.ensures.bytes)
