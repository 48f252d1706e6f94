use Rattle.std.proofs.Common.{ℕ, List, get_or, length, ap, ◌∙◌, subst, arith}
use Rattle.std.proofs.lemmas.List.{get_or-take, length-take}
use Rattle.mad_measure.specs.Chunks.{IsPlain}
use Rattle.mad_measure.proofs.ascii.ascii_front.Goals as goal

pub returns : goal.returns
returns c =
    let bs = c.as_bytes-bytes.result.now in
    let n = c.min-room.result in
    let size = length-take n bs in
    let same = c.as_bytes-bytes.ensures.value in
    record {
      ascii = λ k l. subst IsPlain (get_or-take n bs k 0 (omega (arith, l, c.plain_end.ensures.inside, size)) ∙ ap (λ (b : List ℕ). get_or b k 0) same) (c.plain_end.ensures.plain k (omega arith) l);
      inside = omega (arith, c.plain_end.ensures.inside, size, c.min-room.ensures, ap length same);
      within = omega (arith, c.plain_end.ensures.inside, size, c.min-room.ensures);
    }
