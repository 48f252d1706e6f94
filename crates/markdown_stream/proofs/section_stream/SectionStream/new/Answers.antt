use Rattle.markdown_stream.specs.declared.section_stream.SectionStream.{SectionStream}
use Rattle.markdown_stream.proofs.ComeLemmas.{new_streaming, starts}
use Rattle.markdown_stream.proofs.section_stream.SectionStream.new.Goals as goal

pub returns-clause-come : goal.returns-clause-come
returns-clause-come c =
    let stream : SectionStream = record { reader = c.new-2.result; leaf = c.none.result; showing = c.in_ok-showing.showing; line = c.new-3.result } in
    starts stream (new_streaming stream c.new-2.ensures c.none.ensures c.in_ok-showing.ensures) c.new-3.ensures.bytes
