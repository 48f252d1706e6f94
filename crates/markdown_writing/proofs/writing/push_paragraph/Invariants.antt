use Rattle.std.proofs.Common.{◌≡◌, ◌++◌, map, length}
use Rattle.markdown_writing.specs.Pages.{block_text, paragraph}
use Rattle.markdown_writing.specs.Phrases.{phrase_of}
use Rattle.markdown_writing.proofs.writing.push_paragraph.Given as goal

abbrev pub invariant-loop-rest : goal.invariant-loop-rest
invariant-loop-rest l =
    l.out.items ++ block_text (paragraph (map (λ line. map phrase_of line.now) l.rest)) ≡ l.fn.out.items ++ block_text (paragraph (map (λ line. map phrase_of line.now) l.lines))

abbrev pub decreases-loop-rest : goal.decreases-loop-rest
decreases-loop-rest l = length l.rest
