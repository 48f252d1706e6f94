use Rattle.std.proofs.Common.{refl}
use Rattle.termimad_c.proofs.Steps.{page_all_written}
use Rattle.mad_frames.specs.Gathered.{gathered_trace}
use Rattle.termimad_c.proofs.making.page_written.Goals as goal

pub returns : goal.returns
returns c =
    let last = gathered_trace c.write_call.new.out in
    page_all_written c.args.text.now c.args.skin.now c.in_ok-text.text.now c.args.command.now c.in_ok-skin.skin (gathered_trace c.new-out.result) last c.write_call.new.out.bytes.items
    c.in_ok-text.ensures.0 c.in_ok-text.ensures.1 c.in_ok-skin.ensures c.new-out.ensures c.in_ok-write_call.ensures.writes refl
