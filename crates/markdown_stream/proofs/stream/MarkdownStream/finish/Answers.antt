use Rattle.markdown_stream.proofs.StreamLemmas.{finish_refused, finishes}
use Rattle.markdown_stream.proofs.stream.MarkdownStream.finish.Goals as goal

pub returns-in_err-end_text : goal.returns-in_err-end_text
returns-in_err-end_text g c = λ read sent h. finish_refused c.from_residual.result read sent c.args.self _ c.from_residual.ensures.1 h

pub returns : goal.returns
returns g c = λ read sent h. finishes c.send.result read sent c.args.self c.end_text.new.self c.send.new.self _ _ c.in_ok-end_text.ensures c.send.ensures.sends c.send.ensures.all h
