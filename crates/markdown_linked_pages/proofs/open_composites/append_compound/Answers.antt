use Rattle.std.proofs.Common.{List, ℕ, ◌++◌, ◌∙◌, ap}
use Rattle.std.specs.Prelude.{string_bytes}
use Rattle.mad_term.specs.Styles.{piece_bytes}
use Rattle.mad_term.specs.declared.styles.ContentStyle.{ContentStyle}
use Rattle.mad_marks.specs.LineMarks.{has_mark}
use Rattle.mad_marked_rows.specs.Paints.{paint_by}
use Rattle.mad_marked_rows.proofs.RowLemmas.{bare_number, bare_on, counted_number, counted_on}
use Rattle.markdown_linked_pages.proofs.open_composites.append_compound.Goals as goal

pub returns-then-has_mark-clause-writes : goal.returns-then-has_mark-clause-writes
returns-then-has_mark-clause-writes c =
    counted_on (paint_by c.args.skin.paint.styles.now) (has_mark c.args.kind) c.args.cursor.now.runs.now c.args.skin.skin.now c.args.style.now c.args.cursor.now.number c.args.compound.now c.compound_style-own.result c.args.skin.addresses.now
    (string_bytes c.args.rows.now, c.args.was) _ c.has_mark.result c.has_mark.ensures c.if-has_mark.true c.compound_style-own.ensures c.in_ok-now.ensures.writes

pub returns-then-has_mark-clause-number : goal.returns-then-has_mark-clause-number
returns-then-has_mark-clause-number c =
    counted_number (has_mark c.args.kind) c.args.compound.now c.args.cursor.now.number c.append_marked_text.new.cursor.number c.has_mark.result c.has_mark.ensures c.if-has_mark.true c.in_ok-now.ensures.number

pub returns-clause-writes : goal.returns-clause-writes
returns-clause-writes c =
    bare_on (paint_by c.args.skin.paint.styles.now) (has_mark c.args.kind) c.args.cursor.now.runs.now c.args.skin.skin.now c.args.style.now c.args.cursor.now.number c.args.compound.now c.compound_style-own.result c.args.skin.addresses.now
    (string_bytes c.args.rows.now) (string_bytes c.push_end.new.row) (string_bytes c.write.new.self) c.args.was c.has_mark.result c.has_mark.ensures c.if-has_mark.false c.compound_style-own.ensures c.in_ok-push_end.ensures
    (c.in_ok-write.ensures.bytes ∙ ap (λ (s : ContentStyle). string_bytes c.push_end.new.row ++ piece_bytes s c.apply_to-piece.result.content.now) c.apply_to-piece.ensures.style
    ∙ ap (λ (t : List ℕ). string_bytes c.push_end.new.row ++ piece_bytes c.compound_style-own.result.object_style t) c.apply_to-piece.ensures.content)

pub returns-clause-number : goal.returns-clause-number
returns-clause-number c = bare_number (has_mark c.args.kind) c.args.compound.now c.args.cursor.now.number c.has_mark.result c.has_mark.ensures c.if-has_mark.false
