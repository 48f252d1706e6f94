use Rattle.std.proofs.Common.{◌++◌, ap, refl}
use Rattle.std.proofs.Output.{has_written_append, has_written_of_eq}
use Rattle.std.specs.Char.{encode_utf8}
use Rattle.mad_term.specs.Styles.{opening_bytes}
use Rattle.mad_marked_rows.proofs.displayed.FirstCharDisplay.fmt.Goals as goal

pub returns-clause-writes : goal.returns-clause-writes
returns-clause-writes g c = λ plain ok.
    let opened = c.in_ok-fmt.ensures.writes plain refl in
    has_written_of_eq _ _ _ _ _ (ap (λ s. opening_bytes s ++ encode_utf8 c.args.self.now.c) c.style_of_mark.ensures) (has_written_append _ _ _ _ _ _ opened (c.write_char.ensures.writes opened.plain ok))
