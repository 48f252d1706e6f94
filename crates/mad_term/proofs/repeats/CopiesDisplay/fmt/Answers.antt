use Rattle.std.proofs.Common.{rules, arith, ◌%◌, ◌≡◌, [], ◌∷◌, ap, ◌∙◌, sym, length}
use Rattle.std.specs.List.{repeat}
use Rattle.std.proofs.lemmas.Bool.{eqb-true}
use Rattle.std.proofs.Output.{has_written_of_eq}
use Rattle.mad_term.proofs.Repeating.{repeat-nil, spaces_by_64, spaces_boundary}
use Rattle.mad_term.proofs.repeats.CopiesDisplay.fmt.Goals as goal

pub returns-then-eq-clause-writes : goal.returns-then-eq-clause-writes
returns-then-eq-clause-writes g c = λ plain. λ ok.
    let is : c.args.self.now.content.now ≡ 32 ∷ [] = search rules in
    has_written_of_eq _ _ _ _ _ (spaces_by_64 c.args.self.now.count ∙ ap (repeat c.args.self.now.count) (sym is)) (search rules)

pub range-few-requires-clause-end_boundary : goal.range-few-requires-clause-end_boundary
range-few-requires-clause-end_boundary g c = spaces_boundary 64 (c.args.self.now.count % 64) (omega arith)

pub returns-then-is_empty-clause-writes : goal.returns-then-is_empty-clause-writes
returns-then-is_empty-clause-writes g c = λ plain. λ ok.
    let text = c.args.self.now.content.now in
    let none : length text ≡ 0 = eqb-true (length text) 0 (sym c.is_empty.ensures ∙ c.if-is_empty.true) in
    has_written_of_eq _ _ _ _ _ (sym (repeat-nil c.args.self.now.count text none)) (search rules)
