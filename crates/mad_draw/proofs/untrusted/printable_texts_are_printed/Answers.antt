use Rattle.mad_draw.proofs.UntrustedLemmas.{lines_printed, slices_printed, inlines_printed}
use Rattle.mad_draw.proofs.untrusted.printable_texts_are_printed.Goals as goal

pub returns : goal.returns
returns c = record { line = lines_printed; slice = slices_printed; inline = inlines_printed }
