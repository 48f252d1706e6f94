use Rattle.std.proofs.Common.{ℕ, ◌-◌, ap, length}
use Rattle.mad_md.specs.declared.composite.CompositeStyle.TheVariants.{Paragraph}
use Rattle.markdown_lines.specs.Glyphs.{runs_of}
use Rattle.markdown_lines.specs.Said.{said}
use Rattle.markdown_lines.specs.Shown.{shown}
use Rattle.markdown_lines.proofs.LineLemmas.{within_more, row_pushed}
use Rattle.markdown_lines.proofs.lines.Lines.push_glyphs.Goals as goal

pub invariant_of-self : goal.invariant_of-self
invariant_of-self c = record { within = within_more (length (said c.args.self.now.runs)) (length (said c.push_glyphs.new.self)) c.args.self.now.lines.items c.push_glyphs.ensures.grows c.args.self.now.within }

pub returns : goal.returns
returns c =
    row_pushed (said c.args.self.now.runs) (runs_of c.args.glyphs.now) (said c.push_glyphs.new.self) c.args.self.now.lines.items Paragraph c.count-start.result (c.count.result - c.count-start.result) (shown c.add_line.new.self)
    c.args.self.now.within c.in_ok-push_glyphs.ensures.value c.count-start.ensures (ap (λ (n : ℕ). n - c.count-start.result) c.count.ensures) c.in_ok-add_line.ensures
