use Rattle.std.proofs.Common.{sym, ap, ◌∙◌}
use Rattle.markdown_addresses.specs.Bare.{web_of, may_precede_web, may_begin_web}
use Rattle.markdown_addresses.proofs.NoneLemmas.{web_none, cond_none}
use Rattle.markdown_addresses.proofs.bare.web_at.Goals as goal

pub returns-then-not-may_begin_web : goal.returns-then-not-may_begin_web
returns-then-not-may_begin_web c =
    sym (cond_none (may_precede_web c.args.before c.args.bytes.now) (web_of c.args.bytes.now) (web_none c.args.bytes.now (ap may_begin_web (sym c.first.ensures) ∙ sym c.may_begin_web.ensures ∙ c.if-not-may_begin_web.true)))
