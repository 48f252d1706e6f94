use Rattle.std.proofs.Common.{refl, rules}
use Rattle.mad_md.specs.Parts.{HasNoNewline}
use Rattle.mad_stream.specs.Lines.{IsFirstLine}
use Rattle.markdown_stream.specs.declared.section_stream.SectionStream.{SectionStream}
use Rattle.markdown_stream.proofs.ComeLemmas.{taken_all, taken_more, taken_start}
use Rattle.markdown_stream.proofs.section_stream.SectionStream.feed.Goals as goal

pub loop-line-init : goal.loop-line-init
loop-line-init c = record { utf8 = search rules; so_far = taken_start _ _ }

pub loop-line-preserved : goal.loop-line-preserved
loop-line-preserved c =
    let cut : IsFirstLine c.loop-line.rest.now c.in-Some.line.now c.in-Some.after.now = search rules in
    record {
      utf8 = search rules;
      so_far = taken_more _ c.loop-line.rest.now c.in-Some.line.now c.in-Some.after.now _ c.loop-line.self c.end_line.new.self c.loop-line.invariant.so_far cut c.in_ok-end_line.ensures.line c.in_ok-end_line.ensures.come;
    }

pub returns : goal.returns
returns c =
    let begun : SectionStream = record c.loop-line.self { line = c.push_str.new.self } in
    let cut : HasNoNewline c.loop-line.rest.now = search rules in
    taken_all _ c.loop-line.rest.now _ c.loop-line.self begun c.loop-line.invariant.so_far cut c.in_ok-push_str.ensures.bytes refl
