use Rattle.std.proofs.Common.{◌∙◌, ◌-◌, ◌++◌, ◌∷◌, [], List, is_ok, length, ap}
use Rattle.mad_md.specs.declared.composite.CompositeStyle.TheVariants.{Paragraph}
use Rattle.mad_md.specs.Flagged.{Run}
use Rattle.markdown_lines.specs.CutRows.{runs_row}
use Rattle.markdown_lines.specs.Lines.{lines_said}
use Rattle.markdown_lines.specs.Said.{said}
use Rattle.markdown_lines.specs.declared.lines.MarkdownLine.TheVariants.{Normal}
use Rattle.markdown_lines.proofs.LineLemmas.{line_pushed, within_by, within_new, range_end}
use Rattle.markdown_lines.proofs.lines.Lines.end_row.Goals as goal

pub invariant_of-self : goal.invariant_of-self
invariant_of-self c =
    let count = c.count-end.result - c.args.start in
    let all = said c.args.self.now.runs in
    record {
      within = within_by (is_ok c.push.result) (length all) c.args.self.now.lines.items c.push.new.self.items (Normal Paragraph (record { start = c.args.start; count = count })) c.push.ensures.items c.args.self.now.within
          (within_new c.args.start count (length all) (ap (λ n. n - c.args.start) c.count-end.ensures) c.requires);
    }

pub returns-clause-row : goal.returns-clause-row
returns-clause-row c =
    let count = c.count-end.result - c.args.start in
    let all = said c.args.self.now.runs in
    line_pushed all c.args.self.now.lines.items c.push.new.self.items (Normal Paragraph (record { start = c.args.start; count = count })) c.in_ok-push.ensures.items
    ∙ ap (λ (rs : List Run). lines_said all c.args.self.now.lines.items ++ runs_row rs ∷ []) (range_end all c.args.start count (ap (λ n. n - c.args.start) c.count-end.ensures))
