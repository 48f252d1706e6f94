use Rattle.std.proofs.Common.{ap, sym, ◌∙◌}
use Rattle.mad_keys.specs.Sequences.{sequence_event}
use Rattle.mad_keys.proofs.EventLemmas.{numbers_none, numbers_some}
use Rattle.mad_keys.proofs.meaning.numbers_sequence.Goals as goal

pub returns-in_err-numbers : goal.returns-in_err-numbers
returns-in_err-numbers c =
    c.from_residual-in_err-numbers.ensures
    ∙ sym (numbers_none sequence_event c.args.after.now c.in_ok-letter.parameters.now c.in_ok-letter.letter.now c.in_ok-letter.ensures.cases.0 (sym c.in_err-numbers.ensures))

pub returns : goal.returns
returns c =
    c.sequence_event.ensures ∙ ap (λ ns. sequence_event ns c.in_ok-letter.letter.now) c.as_slice.ensures
    ∙ sym (numbers_some sequence_event c.args.after.now c.in_ok-letter.parameters.now c.in_ok-letter.letter.now c.in_ok-numbers.numbers c.in_ok-letter.ensures.cases.0 (sym c.in_ok-numbers.ensures))
