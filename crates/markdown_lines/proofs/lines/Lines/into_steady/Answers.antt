use Rattle.std.proofs.Common.{sym, subst}
use Rattle.std.specs.Prelude.{string_bytes}
use Rattle.std.proofs.lemmas.Str.{IsUtf8-string_bytes}
use Rattle.markdown_lines.specs.Printed.{ArePrinted}
use Rattle.markdown_lines.specs.Said.{said}
use Rattle.markdown_lines.specs.Steady.{AreSteadyLines}
use Rattle.markdown_lines.proofs.SteadyLemmas.{AreTexts, said_texts, lines_steady, lines_are, lines_printed}
use Rattle.markdown_lines.proofs.lines.Lines.into_steady.Goals as goal

pub returns-clause-lines : goal.returns-clause-lines
returns-clause-lines c = lines_steady (said c.args.self.runs) (said c.in_ok-runs.runs) c.args.self.lines.items c.in_ok-runs.ensures

pub returns-clause-steady : goal.returns-clause-steady
returns-clause-steady c =
    let texts : AreTexts (said c.args.self.runs) = said_texts (string_bytes c.args.self.runs.text) c.args.self.runs.places.items (IsUtf8-string_bytes c.args.self.runs.text) c.args.self.runs.bordered in
    let is = lines_steady (said c.args.self.runs) (said c.in_ok-runs.runs) c.args.self.lines.items c.in_ok-runs.ensures in
    subst AreSteadyLines (sym is) (lines_are (said c.args.self.runs) c.args.self.lines.items texts)

pub returns-clause-printed : goal.returns-clause-printed
returns-clause-printed c =
    let texts : AreTexts (said c.args.self.runs) = said_texts (string_bytes c.args.self.runs.text) c.args.self.runs.places.items (IsUtf8-string_bytes c.args.self.runs.text) c.args.self.runs.bordered in
    let is = lines_steady (said c.args.self.runs) (said c.in_ok-runs.runs) c.args.self.lines.items c.in_ok-runs.ensures in
    λ h. subst ArePrinted (sym is) (lines_printed (said c.args.self.runs) c.args.self.lines.items texts h)
