use Rattle.std.proofs.Common.{rules, sym, ◌∷◌, []}
use Rattle.std.proofs.Output.{has_written_of_eq, has_written_append}
use Rattle.mad_term.specs.Styles.{piece_bytes}
use Rattle.mad_draw.proofs.PieceLemmas.{single-more}
use Rattle.mad_draw.proofs.spaces.SingleSpacesDisplay.fmt.Goals as goal

pub loop-done-preserved : goal.loop-done-preserved
loop-done-preserved g c = λ p.
    has_written_of_eq _ _ _ _ _ (sym (single-more c.args.self.now.style c.loop-done._done))
    (has_written_append _ _ _ _ (piece_bytes c.args.self.now.style.object_style (32 ∷ [])) _ (c.loop-done.invariant p) (search rules))
