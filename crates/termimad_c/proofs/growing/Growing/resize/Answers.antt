use Rattle.std.proofs.Common.{inl}
use Rattle.termimad_c.proofs.GrowthLemmas.{hands_below}
use Rattle.termimad_c.proofs.growing.Growing.resize.Goals as goal

pub returns-in-Ok : goal.returns-in-Ok
returns-in-Ok c =
    inl (hands_below c.args.width c.args.height c.args.self.now c.go_on_below.new.self c.hand_out.new.self c.args.buffer.now c.hand_out.new.buffer c.hand_out.result c.in-Ok.ensures
    c.hand_out.ensures.handed c.hand_out.ensures.rest c.hand_out.ensures.live c.hand_out.ensures.begun)
