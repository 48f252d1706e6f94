use Rattle.std.proofs.Common.{List, [], ◌∷◌, reverse, ap, sym, subst, ◌∙◌, arith}
use Rattle.std.proofs.lemmas.List.{reverse-append}
use Rattle.markdown_emphasis.specs.declared.runs.Mark.{Mark}
use Rattle.markdown_emphasis.specs.Keys.{AreBottoms}
use Rattle.markdown_emphasis.proofs.BottomLemmas.{bottoms_push}
use Rattle.markdown_emphasis.proofs.matcher.Matcher.add_run.Goals as goal

pub returns-in_ok-push-clause-bottoms : goal.returns-in_ok-push-clause-bottoms
returns-in_ok-push-clause-bottoms c =
    let mark : Mark = record { place = c.args.place; run = c.args.run; left = c.in_ok-left.left } in
    let before : List Mark = c.close_run.new.self.openers.items in
    subst (λ (os : List Mark). AreBottoms c.args.place c.close_run.new.self.bottoms os)
    (sym (ap reverse c.in_ok-push.ensures.items ∙ reverse-append before (mark ∷ [])))
    (bottoms_push c.args.place c.close_run.new.self.bottoms mark (reverse before) (omega arith) c.in_ok-left.ensures.bottoms)
