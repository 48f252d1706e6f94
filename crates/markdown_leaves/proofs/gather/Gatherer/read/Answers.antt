use Rattle.markdown_blocks.specs.Steps.{line_of}
use Rattle.markdown_leaves.specs.Gather.{gathering_of}
use Rattle.markdown_leaves.proofs.ToldLemmas.{told_between}
use Rattle.markdown_leaves.proofs.gather.Gatherer.read.Goals as goal

pub returns : goal.returns
returns c = told_between (gathering_of c.args.self.now) (gathering_of c.leave_all.new.self) (gathering_of c.enter_all.new.self) (gathering_of c.line.new.self)
    c.args.before c.args.containers.now c.those_after.result.now (line_of c.args.read)
    c.in_ok-leave_all.ensures c.those_after.ensures c.in_ok-enter_all.ensures c.in_ok-line.ensures
