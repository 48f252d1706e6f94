use Rattle.std.proofs.Common.{◌+◌, ◌++◌, ◌∷◌, [], refl, sym, ap, ◌∙◌, subst}
use Rattle.mad_measure.specs.TokensLeft.{AreTokensLeft}
use Rattle.mad_measure.proofs.CursorLemmas.{all_read}
use Rattle.mad_wrap.specs.WrapLines.{capped}
use Rattle.mad_wrap.specs.declared.wrapped_line.WrappedLine.{WrappedLine}
use Rattle.mad_wrap.proofs.FitLemmas.{LinesSoFar, line_takes, line_ends, line_begins}
use Rattle.mad_wrap.proofs.PlacingLemmas.{progress_start, placed_all}
use Rattle.mad_wrap.proofs.placing.place.Goals as goal
use Rattle.mad_wrap.proofs.placing.place.Goals.{in-OnLine, in-OnNext+in_ok-next-in-OnNext+in_ok-push-in-OnNext}

pub loop-token-init : goal.loop-token-init
loop-token-init c = record {
  so_far = rw (c.new-fit.ensures, c.new-lines.ensures.items) (record {
    room = refl;
    placed = progress_start c.args.room _ (record { empty = c.new-line.ensures.empty; columns_are = c.new-line.ensures.columns });
  });
}

pub loop-token-preserved-in-InGap : goal.loop-token-preserved-in-InGap
loop-token-preserved-in-InGap c = record { so_far = line_ends _ _ c.in-Some.token _ _ _ _ c.loop-token.invariant.so_far c.in-InGap.ensures }

pub loop-token-preserved : goal.loop-token-preserved
loop-token-preserved c =
    let held = c.loop-token.invariant.so_far in
    let added = c.in_ok-add.ensures in
    let part = c.to_compound.ensures in
    record {
      so_far = elim c.match-put.branch as (λ _. LinesSoFar c.args.room (c.loop-token.yielded ++ c.in-Some.token ∷ []) c.match-put.lines.items c.add.new.self c.put.new.self) [
        | in-OnLine w ↦
            subst (λ ls. LinesSoFar c.args.room (c.loop-token.yielded ++ c.in-Some.token ∷ []) ls.items c.add.new.self c.put.new.self) (sym w.lines-is)
            (line_takes _ _ c.in-Some.token _ _ _ _ _ held w.in-OnLine.ensures
            (record { compound = c.to_compound.result; bytes = part.text; flags = part.flags; text = added.text ∙ ap (λ (l : WrappedLine). l.compounds.items ++ c.to_compound.result ∷ []) w.line-is; columns = added.columns ∙ ap (λ (l : WrappedLine). capped (l.columns + c.in-Some.token.width)) w.line-is }))
        | in-OnNext+in_ok-next-in-OnNext+in_ok-push-in-OnNext w ↦
            let begun = w.line-is ∙ w.replace.ensures.after in
            line_begins _ _ c.in-Some.token _ _ _ c.match-put.line _ _ _ held w.in-OnNext.ensures
            (ap (λ ls. ls.items) w.lines-is ∙ w.in_ok-push-in-OnNext.ensures.items ∙ ap (λ l. c.loop-token.lines.items ++ l ∷ []) w.replace.ensures.value)
            (record { empty = ap (λ (l : WrappedLine). l.compounds.items) begun ∙ w.in_ok-next-in-OnNext.ensures.empty; columns_are = ap (λ (l : WrappedLine). l.columns) begun ∙ w.in_ok-next-in-OnNext.ensures.columns })
            (record { compound = c.to_compound.result; bytes = part.text; flags = part.flags; text = added.text; columns = added.columns })
      ];
    }

pub returns : goal.returns
returns c =
    let held = c.loop-token.invariant.so_far in
    let left = all_read c.loop-token.yielded _ _ c.loop-token.yielded_by c.in-None.ensures.steps.0 in (
      c.loop-token.yielded,
      subst (λ s. AreTokensLeft s c.loop-token.yielded) c.into_iter-token-iterator.ensures.into_iter_gives left,
      placed_all _ _ _ _ _ _ _ held.placed c.in_ok-push.ensures.items,
    )
