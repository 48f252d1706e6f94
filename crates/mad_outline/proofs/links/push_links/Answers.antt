use Rattle.std.proofs.Common.{List, ◌++◌, ap, arith, map, sym, ◌∙◌}
use Rattle.std.proofs.lemmas.List.{drop-map}
use denote.Ref.{Bor}
use Rattle.mad_mark_runs.specs.declared.mark_runs.MarkRun.{MarkRun}
use Rattle.mad_md.specs.Flagged.{run_of}
use Rattle.mad_md.specs.Lines.{content_of}
use Rattle.markdown_reader.specs.MarkdownSays.{link_said}
use Rattle.markdown_reader.specs.declared.sections.Link.{Link}
use Rattle.mad_outline.specs.LinkLists.{links_lines, runs_with}
use Rattle.mad_outline.proofs.LinkLemmas.{begins_with, links_more}
use Rattle.mad_outline.proofs.links.push_links.Goals as goal

pub left-preserved : goal.left-preserved
left-preserved c =
    let count = c.left.count in
    let mark = c.left.mark in
    let marks = c.left.marks.now in
    let runs = map run_of c.left.runs.now in
    let link = c.link-item.result in
    let done = map content_of c.left.lines.items in
    links_more count mark c.in_ok-count.count c.in_ok-mark.mark c.marks_up_to-passed.result marks c.later_marks-marks.result.now runs (map run_of c.later_runs-runs.result.now) (map run_of c.in_ok-text.text.items) (link_said link.now) _ done (map content_of c.push_link.new.lines.items) _
    (ap (λ (l : List (Bor Link)). done ++ links_lines count mark marks runs (map (λ (k : Bor Link). link_said k.now) l)) (sym (begins_with c.left.left.now link (omega arith) c.link-item.is)) ∙ c.left.invariant) c.marks_up_to-passed.ensures
    (c.in_ok-text.ensures ∙ ap (λ (m : List MarkRun). runs_with mark m runs) c.first_marks.ensures) c.in_ok-push_link.ensures c.later_marks-marks.ensures (ap (map run_of) c.later_runs-runs.ensures ∙ sym (drop-map run_of c.marks_up_to-passed.result c.left.runs.now))
    c.in_ok-count.ensures c.in_ok-mark.ensures
