use Rattle.std.proofs.Common.{◌≡◌, ℕ, List, [], ◌∷◌, ◌++◌, length, sym, arith}
use Rattle.std.proofs.lemmas.List.{take_at}
use Rattle.std.proofs.lemmas.Grind.{common_steps}
use Rattle.mad_keys.specs.Decoding.{kept}
use Rattle.mad_keys.proofs.decoder.Keys.keep.Goals as goal

full : (w : List ℕ) (b : ℕ) → length w ≡ 18 → w ≡ kept (w ++ b ∷ [])
full w b h = sym (take_at w (b ∷ []) 18 h)

pub returns-else-self-lt18 : goal.returns-else-self-lt18
returns-else-self-lt18 c =
    let many : length c.args.self.now ≡ 18 = grind (arith, common_steps) in
    full c.args.self.now c.args.b many
