use Rattle.std.proofs.Common.{length, sym, ◌∙◌}
use Rattle.mad_md.proofs.PartsLemmas.{true_test}
use Rattle.markdown_stream.specs.OpenSections.{reading_of}
use Rattle.markdown_stream.proofs.OpenLemmas.{none_left_ahead, one_more_ahead}
use Rattle.markdown_stream.proofs.ahead.read_all_ahead.Goals as goal

pub loop-rest-preserved : goal.loop-rest-preserved
loop-rest-preserved c =
    one_more_ahead c.loop-rest.rest.now c.cut_line.result.0.now c.cut_line.result.1.now (reading_of c.loop-rest.reader c.loop-rest.gatherer) (reading_of c.read_ahead.new.reader c.read_ahead.new.gatherer) _ c.cut_line.ensures.lines c.in_ok-read_ahead.ensures c.loop-rest.invariant

pub returns : goal.returns
returns c = none_left_ahead c.loop-rest.rest.now (reading_of c.loop-rest.reader c.loop-rest.gatherer) _ (true_test (length c.loop-rest.rest.now) 0 (sym c.is_empty.ensures ∙ c.loop-rest-test.false)) c.loop-rest.invariant
