use Rattle.mad_ask.specs.Offers.{offered_by}
use Rattle.mad_ask.proofs.ReadingLemmas.{IsReading}
use Rattle.mad_ask.proofs.choices.Choices.read_answer.Given as goal

abbrev pub invariant-loop-read : goal.invariant-loop-read
invariant-loop-read g l =
    IsReading (offered_by l.self) l.line.items l._read
    (record { input = g.I.Source.seen l.initial.reader; output = g.O.Out.seen l.initial.writer })
    (record { input = g.I.Source.seen l.reader; output = g.O.Out.seen l.writer })
