use Rattle.std.proofs.Common.{inl}
use Rattle.termimad_c.proofs.GrowthLemmas.{hands_more}
use Rattle.termimad_c.proofs.growing.Growing.take.Goals as goal

pub returns-in-Ok : goal.returns-in-Ok
returns-in-Ok c =
    inl (hands_more c.args.is_last c.args.self.now c.come.new.self c.hand_out.new.self c.args.piece.now c.args.buffer.now c.hand_out.new.buffer c.hand_out.result c.in-Ok.ensures
    c.hand_out.ensures.handed c.hand_out.ensures.rest c.hand_out.ensures.live c.hand_out.ensures.begun)
