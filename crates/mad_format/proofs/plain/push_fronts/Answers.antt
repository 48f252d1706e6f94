use Rattle.std.proofs.Common.{◌≡◌, ◌++◌, ◌∷◌, [], rules, ap, subst, ◌∙◌, append_assoc, map}
use Rattle.std.specs.Prelude.{chars}
use Rattle.std.specs.Str.{IsUtf8}
use Rattle.mad_wrap.specs.WrapLines.{compounds_of}
use Rattle.mad_format.specs.PlainWraps.{chars_of, AreFronts}
use Rattle.mad_format.proofs.PlainLemmas.{next_fronts, said_more, lines_push}
use Rattle.mad_format.proofs.plain.push_fronts.Goals as goal

pub loop-line-preserved : goal.loop-line-preserved
loop-line-preserved c =
    let held = c.loop-line.invariant in
    let next = c.in-Some.ensures.steps.0 in
    let front = c.cut_front.result.0.now in
    let front_is = c.cut_front.ensures.front ∙ ap chars_of c.deref.ensures.value in
    let utf8 : IsUtf8 c.cut_front.result.1.now = search rules in
    record {
      utf8 = c.trim_start-rest.utf8;
      fronts = next_fronts _ front _ _ _ _ (subst (λ ls. AreFronts (chars c.loop-line.rest.now) (compounds_of ls)) next held.fronts) front_is c.cut_front.ensures.after utf8 c.trim_start-rest.ensures.trim;
      own = held.own ++ front ∷ [];
      lines_are = lines_push _ _ _ c.in_ok-push.ensures.items ∙ ap (λ ls. ls ++ front ∷ []) held.lines_are ∙ append_assoc _ held.own (front ∷ []);
      said = said_more held.own front _ _ _ front_is (subst (λ ls. map chars held.own ++ map chars_of (compounds_of ls) ≡ map chars_of (compounds_of c.args.wrap.items)) next held.said);
    }
