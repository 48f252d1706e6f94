use Rattle.std.proofs.Common.{◌∙◌, sym, arith}
use Rattle.std.specs.Prelude.{string_bytes}
use Rattle.markdown_lines.proofs.CodeLemmas.{spaces_more, spaces_done}
use Rattle.markdown_lines.proofs.code.push_spaces.Goals as goal

pub loop-more-preserved : goal.loop-more-preserved
loop-more-preserved c = spaces_more (string_bytes c.loop-more.text) (string_bytes c.push.new.self) c.loop-more.more (omega arith) c.in_ok-push.ensures.bytes ∙ c.loop-more.invariant

pub returns : goal.returns
returns c = sym (spaces_done (string_bytes c.loop-more.text) c.loop-more.more (omega arith)) ∙ c.loop-more.invariant
