use Rattle.std.proofs.Common.{length, sym, ◌∙◌}
use Rattle.mad_md.proofs.PartsLemmas.{true_test}
use Rattle.markdown_stream.specs.Held.{streaming_of}
use Rattle.markdown_stream.proofs.ComeLemmas.{no_more_come, one_more_comes}
use Rattle.markdown_stream.proofs.section_stream.SectionStream.read_lines.Goals as goal

pub loop-rest-preserved : goal.loop-rest-preserved
loop-rest-preserved c = record {
  come = one_more_comes c.loop-rest.rest.now c.cut_line.result.0.now c.cut_line.result.1.now (streaming_of c.loop-rest.self) (streaming_of c.read_line.new.self) _ c.cut_line.ensures.lines c.in_ok-read_line.ensures.come c.loop-rest.invariant.come;
  line = c.in_ok-read_line.ensures.line ∙ c.loop-rest.invariant.line;
}

pub returns-clause-come : goal.returns-clause-come
returns-clause-come c = no_more_come c.loop-rest.rest.now (streaming_of c.loop-rest.self) _ (true_test (length c.loop-rest.rest.now) 0 (sym c.is_empty.ensures ∙ c.loop-rest-test.false)) c.loop-rest.invariant.come
