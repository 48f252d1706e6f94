use Rattle.std.proofs.Common.{◌≡◌, ◌∙◌, ◌++◌, List, ℕ, ap, flat_map, refl, sym, rules, append_assoc}
use Rattle.mad_frames.proofs.SparingLemmas.{put_keeps}
use Rattle.mad_frames.proofs.sparing.SparingOut.put.Goals as goal

pub invariant_of-self-else-is_err : goal.invariant_of-self-else-is_err
invariant_of-self-else-is_err g c =
    let told : List ℕ = flat_map (λ v. v.items) c.self.inside.told.items in
    let drawn = c.self.inside.drawn.items in
    let text = c.args.bytes.now in
    let longer : c.extend_from_slice.new.self.items ≡ drawn ++ text = search rules in
    put_keeps _ _ text (ap (λ (l : List ℕ). told ++ l) longer ∙ sym (append_assoc told drawn text)) longer refl refl refl c.self.invariant
