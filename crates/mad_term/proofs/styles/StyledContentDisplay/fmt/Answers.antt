use Rattle.std.proofs.Common.{rules, sym}
use Rattle.std.proofs.Output.{has_written_of_eq}
use Rattle.mad_term.proofs.Pieces.{unstyled_piece, written_piece}
use Rattle.mad_term.proofs.styles.StyledContentDisplay.fmt.Goals as goal

pub returns-then-is_unstyled-clause-writes : goal.returns-then-is_unstyled-clause-writes
returns-then-is_unstyled-clause-writes g c = λ plain. λ ok.
    let p = c.args.self.now in
    has_written_of_eq _ _ _ _ _ (sym (unstyled_piece p.style p.content.now (c.is_unstyled.ensures.unstyled.0 c.if-is_unstyled.true))) (search rules)

pub returns-clause-writes : goal.returns-clause-writes
returns-clause-writes g c = λ plain. λ ok.
    let p = c.args.self.now in
    has_written_of_eq _ _ _ _ _ (written_piece p.style p.content.now _ c.closing_text-closing.ensures) (c.write.ensures.writes plain ok)
