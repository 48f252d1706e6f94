use Rattle.std.proofs.Common.{◌++◌, ap, sym, ◌∙◌, take, drop}
use Rattle.std.proofs.lemmas.List.{map-id}
use Rattle.std.proofs.lemmas.Iterator.{items_from_drains}
use Rattle.std.proofs.lemmas.Iterator.Adapters.{YieldsList-from_vec}
use Rattle.mad_edit_lines.proofs.edits.replace_lines.Goals as goal

pub returns-clause-ok : goal.returns-clause-ok
returns-clause-ok c =
    let r = c.in_ok-splice.ensures.items in
    let d = r.3 in
    r.4 ∙ ap (λ t. take c.args.from c.args.lines.now.items ++ (t ++ drop c.args.to c.args.lines.now.items))
    (sym (map-id r.1) ∙ items_from_drains r.1 (d.1.0, d.1.1, λ _. (d.0, d.1.2)) (YieldsList-from_vec c.args.made.items r.2.0 (r.2.1 ∙ c.args.made.ok.0)))
