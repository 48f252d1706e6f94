use Rattle.std.proofs.Common.{◌≡◌, ◌&&◌, ℕ, Bool, true, nat_lt, refl, arith}
use Rattle.std.proofs.lemmas.Bool.Decides.{nat_tests}
use Rattle.std.proofs.lemmas.Simd.{zip2_splat, length-chunk}
use lib.Lanes.{chunk}
use Rattle.std.proofs.Common.{cond, leb}
use Rattle.mad_measure.specs.Chunks.{IsPlain}
use Rattle.mad_measure.proofs.LaneLemmas.{joined, splat_is, itself, passes_in}
use Rattle.mad_measure.proofs.chunks.plain_run.Goals as goal

abbrev is_plain : ℕ → Bool
is_plain b = nat_lt 31 b && nat_lt b 127

plain_if : (b : ℕ) → is_plain b ≡ true → IsPlain b
plain_if b h = (grind (arith, nat_tests), grind (arith, nat_tests))

pub returns : goal.returns
returns c =
    let v = chunk c.args.at 16 c.args.bytes.now in
    let long = length-chunk c.args.at 16 c.args.bytes.now c.requires in
    let passes =
    passes_in c.args.bytes.now c.args.at 16 _ _ c.requires (omega arith) c.type_inv.bytes c.first_set.ensures _
    (joined _ _ _ v (zip2_splat _ v 16 32 long) (joined (λ a b. cond (leb a b) 255 0) _ _ v (splat_is v 16 127 long) (itself v))) is_plain refl in
    record { plain = λ k low high. plain_if _ (passes.0 k low high); within = passes.1 }
