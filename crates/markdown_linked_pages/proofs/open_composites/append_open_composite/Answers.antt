use Rattle.std.proofs.Common.{◌≡◌, ◌+◌, ◌<◌, ℕ, ◌∙◌, ap, arith, sym}
use Rattle.std.specs.Prelude.{string_bytes}
use Rattle.mad_marks.specs.LineMarks.{has_mark}
use Rattle.mad_marked_rows.specs.Paints.{paint_by}
use Rattle.mad_rows.specs.Rows.{blanks_beside, inner_blanks}
use Rattle.mad_rows.specs.declared.composites.CompositeEnd.{CompositeEnd}
use Rattle.markdown_linked_pages.proofs.OpenLemmas.{closed_row, open_row}
use Rattle.markdown_linked_pages.proofs.open_composites.append_open_composite.Goals as goal
use Rattle.markdown_linked_pages.proofs.open_composites.append_open_composite.Goals.{else-end-eq0-via-then-end-eq0+else-end-eq0-2, else-end-eq0-via-else-end-eq0}

pub returns-then-end-eq0-2 : goal.returns-then-end-eq0-2
returns-then-end-eq0-2 c =
    let place = c.args.place in
    open_row (paint_by c.args.skin.paint.styles.now) has_mark c.args.skin.runs.now c.args.skin.skin.now place.outer place.margins place.filled c.args.number c.args.composite.now c.line_style-style.result.now c.deref.result.now c.args.skin.addresses.now
    (string_bytes c.args.rows.now) (string_bytes c.write.new.self) (string_bytes c.append_open_compounds.new.rows, c.in_ok-link.link) c.line_style-style.ensures c.deref.ensures.value (rw c.ends.ensures.front at c.in_ok-write.ensures.bytes) c.in_ok-link.ensures
    (sym (ap (λ (e : CompositeEnd). e.inner) c.ends.ensures.end) ∙ c.if-end-eq0.true) (sym (ap (λ (e : CompositeEnd). e.outer) c.ends.ensures.end) ∙ c.if-end-eq0-2.true)

pub returns : goal.returns
returns c =
    let place = c.args.place in
    let style = c.line_style-style.result.now in
    let inner : ℕ = (inner_blanks c.args.composite.now).1 in
    let outer : ℕ = (blanks_beside style.align place.outer place.margins place.filled c.args.composite.now).1 in
    let inner_is : c.ends.result.1.inner ≡ inner = ap (λ (e : CompositeEnd). e.inner) c.ends.ensures.end in
    let outer_is : c.ends.result.1.outer ≡ outer = ap (λ (e : CompositeEnd). e.outer) c.ends.ensures.end in
    let some : 0 < inner + outer =
    elim c.else-end-eq0.branch [ else-end-eq0-via-then-end-eq0+else-end-eq0-2 w ↦ omega (arith, inner_is, outer_is, w.if-end-eq0-2.false) | else-end-eq0-via-else-end-eq0 w ↦ omega (arith, inner_is, outer_is, w.if-end-eq0.false) ] in
    closed_row (paint_by c.args.skin.paint.styles.now) has_mark c.args.skin.runs.now c.args.skin.skin.now place.outer place.margins place.filled c.args.number c.args.composite.now style c.deref.result.now c.args.skin.addresses.now
    (string_bytes c.args.rows.now) (string_bytes c.write.new.self) (string_bytes c.push_end.new.row) (string_bytes c.write-2.new.self) (string_bytes c.append_open_compounds.new.rows, c.in_ok-link.link) c.line_style-style.ensures c.deref.ensures.value
    (rw c.ends.ensures.front at c.in_ok-write.ensures.bytes) c.in_ok-link.ensures some c.in_ok-push_end.ensures (rw c.ends.ensures.end at c.in_ok-write-2.ensures.bytes)
