use Rattle.std.proofs.Common.{is_ok, length}
use Rattle.markdown_lines.specs.Said.{said}
use Rattle.markdown_lines.proofs.LineLemmas.{line_pushed, within_by}
use Rattle.markdown_lines.proofs.lines.Lines.add_line.Goals as goal

pub invariant_of-self : goal.invariant_of-self
invariant_of-self c = record {
  within = within_by (is_ok c.push.result) (length (said c.args.self.now.runs)) c.args.self.now.lines.items c.push.new.self.items c.args.line c.push.ensures.items c.args.self.now.within c.requires;
}

pub returns : goal.returns
returns c = line_pushed (said c.args.self.now.runs) c.args.self.now.lines.items c.push.new.self.items c.args.line c.in_ok-push.ensures.items
