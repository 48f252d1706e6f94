use Rattle.std.proofs.Common.{◌≡◌, ℕ, List, length, drop, sym, ap, subst, ◌∙◌, arith}
use Rattle.std.specs.Result.{OnOk}
use Rattle.markdown_lines.specs.LinksOf.{defined_of}
use Rattle.markdown_stream.specs.Provisional.{Opening, named, named_by, with_labels}
use Rattle.markdown_stream.proofs.ProvisionalLemmas.{nearest, none_open}
use Rattle.markdown_stream.proofs.provisional.close.Goals as goal

pub returns-in-None-clause-labels : goal.returns-in-None-clause-labels
returns-in-None-clause-labels c =
    let opens = c.args.opens.now in
    let none : length opens.items ≡ 0 = omega (arith, c.in-None.ensures.cases.0, opens.ok) in
    none_open (defined_of c.args.definitions.now) opens.items c.args.next.now none

pub returns-in-Some-clause-labels : goal.returns-in-Some-clause-labels
returns-in-Some-clause-labels c =
    let here = nearest c.args.opens.now.items c.pop.new.self.items c.in-Some.bracket c.in-Some.ensures.items in
    subst (λ (ls : List (List ℕ)). OnOk c.push_named.result (defined_of c.push_named.new.definitions ≡ with_labels (defined_of c.args.definitions.now) ls))
    (ap (λ (b : List ℕ). named_by c.in-Some.bracket.free b c.args.next.now) c.inside-between.ensures ∙ sym (ap (λ (os : List Opening). named os c.args.next.now) here))
    c.push_named.ensures

pub returns-in-Some-clause-opens : goal.returns-in-Some-clause-opens
returns-in-Some-clause-opens c = sym (ap (drop 1) (nearest c.args.opens.now.items c.pop.new.self.items c.in-Some.bracket c.in-Some.ensures.items))
