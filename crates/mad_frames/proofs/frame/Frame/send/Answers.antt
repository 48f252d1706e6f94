use Rattle.std.proofs.Common.{take, rules, refl}
use Rattle.mad_frames.proofs.FrameLemmas.{front_sent, flush_sends, cut_sends}
use Rattle.mad_frames.proofs.frame.Frame.send.Goals as goal

pub returns-in_err-put : goal.returns-in_err-put
returns-in_err-put g c =
    let n = c.put_counted-taken.result.0 in
    cut_sends _ _ _ _ (take n c.args.bytes.items) _ c.from_residual.ensures.0
    (front_sent _ _ _ n c.requires.message c.requires.read (search rules) (search rules) refl) (search rules)

pub returns : goal.returns
returns g c =
    flush_sends _ _ _ _ _ _ c.put_counted-taken.result.0 _ (front_sent _ _ _ c.put_counted-taken.result.0 c.requires.message c.requires.read (search rules) (search rules) refl) (search rules) (search rules) (search rules) c.flush.ensures
