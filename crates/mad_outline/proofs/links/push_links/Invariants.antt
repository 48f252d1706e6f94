use Rattle.std.proofs.Common.{◌≡◌, ◌++◌, length, map}
use Rattle.mad_link_marks.specs.LinkMarks.{first_link}
use Rattle.mad_md.specs.Flagged.{run_of}
use Rattle.mad_md.specs.Lines.{content_of}
use Rattle.markdown_reader.specs.MarkdownSays.{link_said}
use Rattle.mad_outline.specs.LinkLists.{links_lines}
use Rattle.mad_outline.proofs.links.push_links.Given as goal

-- what was put, and what is left, are the whole
abbrev pub invariant-left : goal.invariant-left
invariant-left l =
    map content_of l.lines.items ++ links_lines l.count l.mark l.marks (map run_of l.runs) (map (λ k. link_said k.now) l.left)
    ≡ map content_of l.fn.lines.items ++ links_lines l.fn.before first_link l.fn.marks (map run_of l.fn.runs) (map (λ k. link_said k.now) l.links)

abbrev pub decreases-left : goal.decreases-left
decreases-left l = length l.left
