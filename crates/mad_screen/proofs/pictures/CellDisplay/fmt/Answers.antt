use Rattle.std.proofs.Common.{◌≡◌, ℕ, List, ◌+◌, ◌++◌, take, refl, ap, sym, ◌∙◌}
use Rattle.std.specs.List.{flat_map}
use Rattle.std.proofs.Math.Utf8.{encode}
use Rattle.std.proofs.Output.{has_written_of_eq, has_written_append}
use Rattle.mad_screen.specs.Glyph.{Glyph}
use Rattle.mad_screen.proofs.Lines.{piece_more}
use Rattle.mad_screen.proofs.pictures.CellDisplay.fmt.Goals as goal

pub loop-c-preserved : goal.loop-c-preserved
loop-c-preserved g c = λ plain.
    let items = c.deref-c-items.result.now in
    let i = c.loop-c.c-index in
    let one = c.c-item.result in
    let same : items ≡ c.args.self.now.chars = c.deref-c-items.ensures.value ∙ ap (λ (cell : Glyph). cell.chars) c.self.view_is in
    let more = ap (λ (l : List ℕ). flat_map encode (take i l) ++ encode one) (sym same) ∙ ap (λ (x : ℕ). flat_map encode (take i items) ++ encode x) c.c-item.is ∙ piece_more encode items i one c.loop-c-test.true ∙ ap (λ (l : List ℕ). flat_map encode (take (i + 1) l)) same in
    let before = c.loop-c.invariant plain in
    has_written_of_eq _ _ _ _ _ more (has_written_append _ _ _ _ _ _ before (c.in_ok-write.ensures.writes before.plain refl))
