use Rattle.std.proofs.Output.{has_written_of_eq}
use Rattle.mad_draw.proofs.RuleLemmas.{rule_bytes}
use Rattle.mad_draw.proofs.table_rules.RuleAcrossDisplay.fmt.Goals as goal

pub returns-clause-writes : goal.returns-clause-writes
returns-clause-writes g c = λ p ok.
    let written = rw (c.border-left.ensures, c.border-right.ensures, c.horizontals-horizontals.ensures) at (c.write-2.ensures.writes p ok) in
    has_written_of_eq _ _ _ _ _ (rule_bytes c.args.self.now.style c.args.self.now.chars c.in-Some.first.now c.in-Some.others.now c.args.self.now.widths.now c.in-Some.ensures.cases.0) written
