use Rattle.std.proofs.Common.{ℕ, [], ◌∷◌, ◌++◌, Vec, Global, ap, sym, ◌∙◌}
use Rattle.markdown_emphasis.specs.Pieces.{is_run}
use Rattle.markdown_emphasis.proofs.PieceLemmas.{filter_yes, filter_no}
use Rattle.markdown_emphasis.proofs.pieces.places_of.Goals as goal
use Rattle.markdown_emphasis.proofs.pieces.places_of.Goals.{then-is_some+in_ok-push, else-is_some}

pub loop-place-preserved : goal.loop-place-preserved
loop-place-preserved c =
    let n : ℕ = c.loop-place.place in
    elim c.if-is_some.branch [
      | then-is_some+in_ok-push w ↦
          ap (λ (v : Vec ℕ Global). v.items) w.places-is ∙ w.in_ok-push.ensures.items ∙ ap (λ l. l ++ n ∷ []) c.loop-place.invariant
          ∙ sym (filter_yes (is_run c.args.pieces.now) n (sym c.is_some.ensures ∙ w.if-is_some.true))
      | else-is_some w ↦
          ap (λ (v : Vec ℕ Global). v.items) w.places-is ∙ c.loop-place.invariant
          ∙ sym (filter_no (is_run c.args.pieces.now) n (sym c.is_some.ensures ∙ w.if-is_some.false))
    ]
