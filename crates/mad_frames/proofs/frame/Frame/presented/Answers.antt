use Rattle.std.proofs.Common.{sym, subst}
use Rattle.mad_frames.specs.Changes.{SameSize}
use Rattle.mad_frames.specs.Frames.{FrameState}
use Rattle.mad_frames.proofs.SizeLemmas.{read_size}
use Rattle.mad_frames.proofs.frame.Frame.presented.Goals as goal

pub bytes_to-requires : goal.bytes_to-requires
bytes_to-requires g c = record {
  size = subst (λ (f : FrameState). SameSize f.base c.in_ok-screen.screen) (sym c.drawn_screen.ensures.same) (read_size _ _ _ c.in_ok-screen.ensures.read);
}
