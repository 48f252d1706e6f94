use Rattle.std.proofs.Common.{ℕ, [], ◌∷◌, ◌++◌, Vec, Global, ap, sym, ◌∙◌}
use Rattle.markdown_emphasis.specs.declared.runs.Run.{Run}
use Rattle.markdown_emphasis.proofs.PieceLemmas.{map_yes, map_no}
use Rattle.markdown_emphasis.proofs.pieces.runs_of.Goals as goal
use Rattle.markdown_emphasis.proofs.pieces.runs_of.Goals.{in-Some+in_ok-push, in_default}

pub loop-place-preserved : goal.loop-place-preserved
loop-place-preserved c =
    let n : ℕ = c.loop-place.place in
    elim c.match-pieces-place.branch [
      | in-Some+in_ok-push w ↦
          ap (λ (v : Vec Run Global). v.items) w.runs-is ∙ w.in_ok-push.ensures.items ∙ ap (λ l. l ++ w.in-Some.run' ∷ []) c.loop-place.invariant
          ∙ sym (map_yes c.args.pieces.now n w.in-Some.run' w.in-Some.is)
      | in_default w ↦
          ap (λ (v : Vec Run Global). v.items) w.runs-is ∙ c.loop-place.invariant ∙ sym (map_no c.args.pieces.now n w.in_default.is)
    ]
