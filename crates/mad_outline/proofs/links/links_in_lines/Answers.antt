use Rattle.std.proofs.Common.{[], map}
use Rattle.mad_md.specs.Lines.{content_of}
use Rattle.mad_outline.specs.LinkLists.{section_listed}
use Rattle.mad_outline.specs.Sources.{links_between}
use Rattle.mad_outline.proofs.RangeLemmas.{number_more, numbers_all}
use Rattle.mad_outline.proofs.links.links_in_lines.Goals as goal

pub loop-section-preserved : goal.loop-section-preserved
loop-section-preserved c =
    number_more (section_listed (links_between c.args.markdown.now [] c.args.from c.args.to)) c.loop-section.section c.args.to (map content_of c.loop-section.lines.items) (map content_of c.push_section.new.lines.items) _ c.loop-section-test.true
    c.loop-section.invariant (c.in_ok-push_section.ensures c.args.to)

pub returns : goal.returns
returns c =
    numbers_all (section_listed (links_between c.args.markdown.now [] c.args.from c.args.to)) c.loop-section.section c.args.to (map content_of c.loop-section.lines.items) _ c.loop-section-test.false c.loop-section.invariant
