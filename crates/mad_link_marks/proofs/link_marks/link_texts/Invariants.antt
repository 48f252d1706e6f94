use Rattle.std.proofs.Common.{◌≡◌, ◌++◌, map, drop}
use Rattle.mad_md.specs.Lines.{content_of}
use Rattle.mad_link_marks.specs.LinkMarks.{link_texts}
use Rattle.mad_link_marks.proofs.link_marks.link_texts.Given as goal

abbrev pub invariant-loop-line : goal.invariant-loop-line
invariant-loop-line l = map (λ t. t.now) l.texts.items ++ link_texts (map content_of (drop l.line-index l.lines)) ≡ link_texts (map content_of l.lines)
