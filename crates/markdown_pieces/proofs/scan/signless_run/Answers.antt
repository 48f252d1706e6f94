use Rattle.std.proofs.Common.{refl, arith}
use Rattle.std.proofs.lemmas.Simd.{zip2_splat, length-chunk}
use lib.Lanes.{chunk}
use Rattle.markdown_pieces.specs.Scan.{is_signless}
use Rattle.markdown_pieces.proofs.LaneLemmas.{joined, passes_in}
use Rattle.markdown_pieces.proofs.scan.signless_run.Goals as goal

pub returns : goal.returns
returns c =
    let v = chunk c.args.at 16 c.args.bytes.now in
    let long = length-chunk c.args.at 16 c.args.bytes.now c.requires in
    let passes =
    passes_in c.args.bytes.now c.args.at 16 _ _ c.requires (omega arith) c.type_inv.bytes c.first_set.ensures _ (joined _ _ _ v (zip2_splat _ v 16 58 long) (zip2_splat _ v 16 46 long)) is_signless refl in
    record { signless = passes.0; within = passes.1 }
