use Rattle.std.proofs.Common.{[]}
use Rattle.mad_outline.specs.LinkNumbers.{section_numbers}
use Rattle.mad_outline.specs.Sources.{links_between}
use Rattle.mad_outline.proofs.RangeLemmas.{number_more, numbers_all}
use Rattle.mad_outline.proofs.numbering.link_numbers.Goals as goal

pub loop-section-preserved : goal.loop-section-preserved
loop-section-preserved c =
    number_more (section_numbers (links_between c.args.markdown.now [] c.args.from c.args.to) c.args.lines.now c.args.starts.now c.args.top c.args.height) c.loop-section.section c.args.to c.loop-section.places.items c.push_numbers.new.places.items _
    c.loop-section-test.true c.loop-section.invariant (c.in_ok-push_numbers.ensures c.args.to)

pub returns : goal.returns
returns c =
    numbers_all (section_numbers (links_between c.args.markdown.now [] c.args.from c.args.to) c.args.lines.now c.args.starts.now c.args.top c.args.height) c.loop-section.section c.args.to c.loop-section.places.items _ c.loop-section-test.false
    c.loop-section.invariant
