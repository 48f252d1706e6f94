use Rattle.std.proofs.Common.{ℕ, ◌+◌, ◌-◌, List, ap, arith, ◌∙◌}
use Rattle.std.specs.Prelude.{max, slice_index}
use Rattle.markdown_reader.specs.MarkdownSays.{LinkSaid}
use Rattle.mad_outline.specs.LinkLists.{links_before}
use Rattle.mad_outline.specs.LinkNumbers.{rows_between}
use Rattle.mad_outline.proofs.NumberLemmas.{numbers_put}
use Rattle.mad_outline.proofs.numbering.push_numbers.Goals as goal

pub returns : goal.returns
returns c =
    let first : ℕ = slice_index c.args.starts.now c.args.section in
    numbers_put c.push_section_places.result c.args.places.now.items c.push_section_places.new.places.items c.as_slice.result.now _ c.links_before.result _ c.start_at-row.result _ c.saturating_sub.result (c.args.top - first) c.saturating_sub-2.result ((c.args.top + c.args.height) - max first c.args.top) c.rows_between.result.now _
    (c.as_slice.ensures.value ∙ c.in_ok-marks.ensures.marks) (c.links_before.ensures ∙ ap (λ (l : List LinkSaid). links_before c.args.from c.args.section l) c.links.ensures) c.start_at-row.ensures
    (omega (arith, c.saturating_sub.ensures, c.start_at-row.ensures)) (omega (arith, c.saturating_sub-2.ensures, c.max.ensures, c.start_at-row.ensures, c.in_ok-end.ensures))
    (c.rows_between.ensures ∙ ap (λ (n : ℕ). rows_between n c.start_at.result c.args.lines.now) c.start_at-row.ensures
    ∙ ap (λ (n : ℕ). rows_between first n c.args.lines.now) (c.start_at.ensures ∙ ap (slice_index c.args.starts.now) c.in_ok-behind.ensures)) c.push_section_places.ensures
