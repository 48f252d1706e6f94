use Rattle.std.proofs.Common.{refl, rules}
use Rattle.mad_md.specs.Parts.{HasNoNewline}
use Rattle.mad_stream.specs.Lines.{IsFirstLine}
use Rattle.mad_stream.proofs.HeldLemmas.{line_reads}
use Rattle.mad_stream.proofs.FrontLemmas.{scanned_all, scanned_boundary, scanned_line, scanned_start, whole_line}
use Rattle.mad_stream.proofs.fronts.complete_front.Goals as goal

pub loop-line-init : goal.loop-line-init
loop-line-init c = record { utf8 = search rules; so_far = scanned_start c.args.text.now c.args.fenced c.new-scan.result c.utf8.text c.new-scan.ensures }

pub loop-line-preserved : goal.loop-line-preserved
loop-line-preserved c =
    let cut : IsFirstLine c.loop-line.rest.now c.in-Some.line.now c.in-Some.after.now = search rules in
    record {
      utf8 = search rules;
      so_far = scanned_line c.args.text.now c.args.fenced c.loop-line.scan c.after_line-scan.result c.loop-line.rest.now c.in-Some.line.now c.in-Some.after.now c.line_kind-kind.result _ c.loop-line.invariant.so_far c.loop-line.invariant.utf8 cut
          (line_reads c.loop-line.scan.is_open c.in-Some.line.now c.line_kind-kind.result (whole_line c.loop-line.rest.now c.in-Some.line.now c.in-Some.after.now cut) c.line_kind-kind.ensures) refl c.after_line-scan.ensures;
    }

pub returns-clause-complete : goal.returns-clause-complete
returns-clause-complete c =
    let cut : HasNoNewline c.loop-line.rest.now = search rules in
    scanned_all c.args.text.now c.args.fenced c.loop-line.scan c.loop-line.rest.now _ c.settled.result c.loop-line.invariant.so_far cut refl c.settled.ensures

pub returns-clause-boundary : goal.returns-clause-boundary
returns-clause-boundary c = scanned_boundary c.args.text.now c.args.fenced c.loop-line.scan c.loop-line.rest.now _ c.settled.result c.loop-line.invariant.so_far c.loop-line.invariant.utf8 refl c.settled.ensures
