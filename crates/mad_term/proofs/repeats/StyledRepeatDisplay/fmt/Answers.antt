use Rattle.std.proofs.Common.{rules, sym, ◌∙◌}
use Rattle.std.specs.List.{repeat}
use Rattle.std.proofs.Output.{has_written_of_eq}
use Rattle.mad_term.proofs.Pieces.{unstyled_piece, written_piece, no_repeat, some_repeat}
use Rattle.mad_term.proofs.repeats.StyledRepeatDisplay.fmt.Goals as goal

pub returns-then-self-eq0-clause-writes : goal.returns-then-self-eq0-clause-writes
returns-then-self-eq0-clause-writes g c = λ plain. λ ok.
    let r = c.args.self.now in
    has_written_of_eq _ _ _ _ _ (sym (no_repeat r.style r.content.now r.count c.if-self-eq0.true)) (search rules)

pub returns-then-is_unstyled-clause-writes : goal.returns-then-is_unstyled-clause-writes
returns-then-is_unstyled-clause-writes g c = λ plain. λ ok.
    let r = c.args.self.now in
    let none = unstyled_piece r.style (repeat r.count r.content.now) (c.is_unstyled.ensures.unstyled.0 c.if-is_unstyled.true) in
    has_written_of_eq _ _ _ _ _ (sym none ∙ some_repeat r.style r.content.now r.count c.if-self-eq0.false) (c.fmt.ensures.writes plain ok)

pub returns-clause-writes : goal.returns-clause-writes
returns-clause-writes g c = λ plain. λ ok.
    let r = c.args.self.now in
    let whole = written_piece r.style (repeat r.count r.content.now) _ c.closing_text-closing.ensures in
    has_written_of_eq _ _ _ _ _ (whole ∙ some_repeat r.style r.content.now r.count c.if-self-eq0.false) (c.write.ensures.writes plain ok)
