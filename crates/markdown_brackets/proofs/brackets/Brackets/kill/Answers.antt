use Rattle.std.proofs.Common.{false, Bool, cond, List, sym, ap, ◌∙◌, ◌≡◌, length, arith}
use Rattle.markdown_brackets.specs.declared.brackets.Open.{Open}
use Rattle.markdown_brackets.specs.Brackets.{Reading, killed}
use Rattle.markdown_brackets.specs.Readings.{reading_of}
use Rattle.markdown_brackets.proofs.BracketLemmas.{marked_all}
use Rattle.markdown_brackets.proofs.brackets.Brackets.kill.Goals as goal

pub returns-then-not-image-clause-killed : goal.returns-then-not-image-clause-killed
returns-then-not-image-clause-killed c =
    let old = c.args.self.now in
    let many : c.len-self.result ≡ length old.brackets.items = omega (arith, c.len-self.ensures, old.brackets.ok) in
    let with : List Open → Reading = λ os. record { brackets = os; runs = old.runs.items; pairs = old.pairs.items } in
    ap with (marked_all old.dead c.len-self.result old.brackets.items many)
    ∙ sym (ap (λ (t : Bool). cond t (reading_of old) (killed false (reading_of old))) c.if-not-image.true)
