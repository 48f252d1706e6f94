use Rattle.std.proofs.Common.{arith, ap, sym, ◌<◌, ◌++◌, ◌∙◌, length}
use Rattle.termimad_page.proofs.KeysLemmas.{fills_behind, first_filled}
use Rattle.termimad_page.proofs.keys.KeysFirstSource.fill.Goals as goal

pub returns-then-is_empty-clause-fills : goal.returns-then-is_empty-clause-fills
returns-then-is_empty-clause-fills g c = fills_behind c.args.self.now.first.now _ _ _ _ (grind (arith, c.is_empty.ensures, c.if-is_empty.true)) c.fill.ensures

pub returns-clause-fills : goal.returns-clause-fills
returns-clause-fills g c =
    let some : 0 < length c.args.self.now.first.now = grind (arith, c.is_empty.ensures, c.if-is_empty.false) in
    first_filled _ _ _ c.args.buffer.now _ _ some c.min-count.ensures
    (c.split_at.ensures.by_index.0 ∙ ap (λ front. front ++ c.split_at.result.1.now) (sym c.copy_from_slice.ensures.after)) (ap length c.copy_from_slice.ensures.after ∙ c.split_at.ensures.front_len)
