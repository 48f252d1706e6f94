use Rattle.std.proofs.Common.{List, ◌∷◌, [], ap, arith, length, length-append}
use Rattle.mad_md.specs.Flagged.{Run, unflagged}
use Rattle.markdown_lines.specs.Said.{said}
use Rattle.markdown_lines.specs.Shown.{shown}
use Rattle.markdown_lines.proofs.LineLemmas.{within_more, row_pushed}
use Rattle.markdown_lines.proofs.lines.Lines.push_text.Goals as goal

pub invariant_of-self : goal.invariant_of-self
invariant_of-self c = record { within = within_more (length (said c.args.self.now.runs)) (length (said c.push.new.self)) c.args.self.now.lines.items c.push.ensures.grows c.args.self.now.within }

pub returns : goal.returns
returns c =
    let more : List Run = record { flags = unflagged; text = c.args.text.now } ∷ [] in
    row_pushed (said c.args.self.now.runs) more (said c.push.new.self) c.args.self.now.lines.items c.args.style c.count-start.result 1 (shown c.add_line.new.self)
    c.args.self.now.within c.in_ok-push.ensures.value c.count-start.ensures (omega (arith, c.count-start.ensures, ap length c.in_ok-push.ensures.value, length-append (said c.args.self.now.runs) more)) c.in_ok-add_line.ensures
