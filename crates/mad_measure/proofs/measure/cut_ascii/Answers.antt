use Rattle.std.proofs.Common.{◌+◌, ap, chars, ◌∙◌}
use Rattle.mad_measure.specs.TextColumns.{columns}
use Rattle.mad_measure.proofs.AsciiFrontLemmas.{ascii_front_is, ascii_border}
use Rattle.mad_measure.proofs.measure.cut_ascii.Goals as goal

pub range_from-requires : goal.range_from-requires
range_from-requires c = λ _. ascii_border c.args.text.now c.ascii_front-ascii.result c.utf8.text c.ascii_front-ascii.ensures.inside c.ascii_front-ascii.ensures.ascii

pub returns-clause-columns : goal.returns-clause-columns
returns-clause-columns c =
    ap (λ l. c.ascii_front-ascii.result + columns (chars l)) c.range_from.ensures.value
    ∙ (ascii_front_is c.args.text.now c.ascii_front-ascii.result c.utf8.text c.ascii_front-ascii.ensures.inside c.ascii_front-ascii.ensures.ascii).columns_are
