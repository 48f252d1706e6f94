use Rattle.std.proofs.Common.{◌≡◌, ◌++◌, drop}
use Rattle.markdown_writing.specs.Pages.{markdown_from, markdown_of, page_of}
use Rattle.markdown_writing.proofs.writing.+blocks.Given as goal

abbrev pub invariant-markdown_of-loop-block : goal.invariant-markdown_of-loop-block
invariant-markdown_of-loop-block l = l.text.items ++ markdown_from l.some (page_of (drop l.block-index l.page)) ≡ markdown_of (page_of l.page)
