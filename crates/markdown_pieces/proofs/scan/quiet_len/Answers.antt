use Rattle.std.proofs.Common.{eqb, sym, ap, ◌∙◌, None}
use Rattle.std.proofs.lemmas.Bool.{ne_eqb}
use Rattle.markdown_marks.specs.Bytes.{first}
use Rattle.markdown_pieces.proofs.ScanLemmas.{is_to_blanks, is_to_mark}
use Rattle.markdown_pieces.proofs.scan.quiet_len.Goals as goal

pub returns-then-first-eq10-clause-value : goal.returns-then-first-eq10-clause-value
returns-then-first-eq10-clause-value c =
    sym (is_to_blanks None c.args.bytes.now c.standing_len-len.result c.without_blanks_before.result c.standing_len-len.ensures.standing c.standing_len-len.ensures.inside
    (ap first (sym c.tail.ensures) ∙ sym c.first.ensures ∙ c.if-first-eq10.true) c.without_blanks_before.ensures.within c.without_blanks_before.ensures.blanks c.without_blanks_before.ensures.solid)

pub returns-clause-value : goal.returns-clause-value
returns-clause-value c =
    sym (is_to_mark None c.args.bytes.now c.standing_len-len.result c.standing_len-len.ensures.standing c.standing_len-len.ensures.inside c.standing_len-len.ensures.ends
    (ap (λ b. eqb b 10) (ap first (sym c.tail.ensures) ∙ sym c.first.ensures) ∙ ne_eqb _ _ c.if-first-eq10.false))
