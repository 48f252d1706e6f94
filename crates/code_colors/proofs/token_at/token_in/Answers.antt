use Rattle.std.proofs.Common.{◌∙◌, arith}
use Rattle.code_tables.specs.Rules.{mode_of}
use Rattle.code_tables.specs.Heads.{heads_in}
use Rattle.code_colors.proofs.HeadLemmas.{token_is}
use Rattle.code_colors.proofs.token_at.token_in.Goals as goal

pub returns-clause-value : goal.returns-clause-value
returns-clause-value c =
    c.capped.ensures.value
    ∙ token_is c.args._language c.args._n (mode_of c.args.mode.now) (heads_in c.args.mode.now) c.args.before c.args.rest.now c.first.result _ c.saturating_sub.result c.first_rule.result c.requires.words c.requires.rules
    c.first.ensures (omega (arith, c.first.type_inv)) c.rules_with-rules.ensures c.first_rule.ensures (omega (arith, c.saturating_sub.ensures))
