use Rattle.std.proofs.Common.{ℕ, ◌-◌, ap, length}
use Rattle.markdown_lines.specs.Said.{said, range_said}
use Rattle.markdown_lines.specs.Shown.{shown}
use Rattle.markdown_lines.proofs.LineLemmas.{within_more, row_pushed}
use Rattle.markdown_lines.proofs.lines.Lines.push_row.Goals as goal

pub invariant_of-self : goal.invariant_of-self
invariant_of-self c = record { within = within_more (length (said c.args.self.now.runs)) (length (said c.add.new.self)) c.args.self.now.lines.items c.add.ensures.grows c.args.self.now.within }

pub returns : goal.returns
returns c =
    row_pushed (said c.args.self.now.runs) (range_said (said c.args.from.now) c.args.range) (said c.add.new.self) c.args.self.now.lines.items c.args.style c.count-start.result (c.count.result - c.count-start.result) (shown c.add_line.new.self)
    c.args.self.now.within c.in_ok-add.ensures.value c.count-start.ensures (ap (λ (n : ℕ). n - c.count-start.result) c.count.ensures) c.in_ok-add_line.ensures
