use Rattle.std.proofs.Common.{List, ap, ◌≡◌, length, arith}
use Rattle.markdown_brackets.specs.declared.brackets.Open.{Open}
use Rattle.markdown_brackets.specs.Brackets.{Reading}
use Rattle.markdown_brackets.proofs.BracketLemmas.{marked_pop}
use Rattle.markdown_brackets.proofs.brackets.Brackets.pop.Goals as goal

pub returns-in-Some-clause-rest : goal.returns-in-Some-clause-rest
returns-in-Some-clause-rest c =
    let old = c.args.self.now in
    let new = c.pop.new.self in
    let many : c.len-depth.result ≡ length new.items = omega (arith, c.len-depth.ensures, new.ok) in
    let with : List Open → Reading = λ os. record { brackets = os; runs = old.runs.items; pairs = old.pairs.items } in
    ap with (marked_pop old.dead c.min-self.result c.len-depth.result c.in-Some.bracket new.items old.brackets.items c.in-Some.ensures.items many c.min-self.ensures)
