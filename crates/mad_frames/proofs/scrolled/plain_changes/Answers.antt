use Rattle.std.proofs.Common.{string_bytes}
use Rattle.mad_frames.specs.Mending.{mended}
use Rattle.mad_frames.proofs.ScrollLemmas.{plain_brings}
use Rattle.mad_frames.proofs.scrolled.plain_changes.Goals as goal

pub returns : goal.returns
returns c = plain_brings (mended c.args.old.now) (mended c.args.new.now) (string_bytes c.in_ok-plain.plain) c.in_ok-plain.ensures.leads
