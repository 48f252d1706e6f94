use Rattle.std.proofs.Common.{ap, map, rules, string_bytes}
use Rattle.markdown_headings.specs.HeadingsSaid.{heading_said}
use Rattle.termimad_c.proofs.ToldLemmas.{headings_told}
use Rattle.termimad_c.proofs.outlines.headings_bytes.Goals as goal

pub returns : goal.returns
returns c =
    let read = c.in_ok-read.ensures in
    let found = c.in_ok-found.ensures in
    headings_told c.args.text.now c.in_ok-text.text.now c.into_bytes.result.items (string_bytes c.in_ok-lines.lines) _ (map heading_said c.in_ok-found.found.items) c.in_ok-text.ensures.0 c.in_ok-text.ensures.1
    read.sections found.headings (search rules) (ap (λ v. v.items) c.into_bytes.ensures.value) (found.printed read.printed)
