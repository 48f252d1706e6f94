use Rattle.std.proofs.Common.{ap}
use Rattle.termimad_c.proofs.ToldLemmas.{links_told}
use Rattle.termimad_c.proofs.outlines.links_bytes.Goals as goal

pub returns : goal.returns
returns c =
    let read = c.in_ok-read.ensures in
    links_told c.args.text.now c.in_ok-text.text.now c.into_bytes.result.items _ _ _ c.in_ok-text.ensures.0 c.in_ok-text.ensures.1 read.links c.links.ensures c.in_ok-lines.ensures
    (ap (λ v. v.items) c.into_bytes.ensures.value) read.printed_links
