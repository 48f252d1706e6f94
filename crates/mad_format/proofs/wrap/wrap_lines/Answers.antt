use Rattle.std.proofs.Common.{◌≡◌, ◌++◌, [], ap, ◌∙◌, arith, refl, sym, subst, append_assoc, append-nil}
use Rattle.std.specs.Vec.Iter.{into_iter_items}
use Rattle.std.proofs.lemmas.Grind.{common_steps}
use Rattle.mad_format.specs.WrappedLines.{AreLinesWrapped, AllMeasured}
use Rattle.mad_format.proofs.wrap.wrap_lines.Goals as goal

pub loop-line-preserved : goal.loop-line-preserved
loop-line-preserved g c =
    let held = c.loop-line.invariant in
    let own = c.in_ok-push_line.ensures in
    let next = c.in-Some.ensures.steps.0 in
    let skin = (g.S.LineSkin.rules c.args.skin.now) in
    let width = c.args.width in
    record {
      measured = (subst (AllMeasured skin) next held.measured).1;
      so_far = λ more rest. subst (AreLinesWrapped skin width c.args.lines.items) (sym (append_assoc c.loop-line.wrapped.items own.0 more) ∙ ap (λ l. l ++ more) (sym own.1))
          (held.so_far (own.0 ++ more) (subst (λ ls. AreLinesWrapped skin width ls (own.0 ++ more)) (sym next) (own.0, more, refl, own.2, rest)));
    }

pub returns : goal.returns
returns g c =
    let none : into_iter_items c.loop-line.line-iterator ≡ [] = grind (arith, common_steps) in
    subst (AreLinesWrapped (g.S.LineSkin.rules c.args.skin.now) c.args.width c.args.lines.items) (append-nil c.loop-line.wrapped.items)
    (c.loop-line.invariant.so_far [] (subst (λ ls. AreLinesWrapped (g.S.LineSkin.rules c.args.skin.now) c.args.width ls []) (sym none) refl))
