use Rattle.std.proofs.Common.{IfOk, subst, sym, ◌≡◌}
use Rattle.mad_outline.specs.Sources.{content_of}
use Rattle.mad_outline.specs.declared.sources.Source.{Source}
use Rattle.mad_pager.specs.Following.{numbers_shown}
use Rattle.mad_pager.specs.Sessions.{state_of}
use Rattle.mad_pager.proofs.session.Session.numbers_shown.Goals as goal

pub returns-in-Numbered : goal.returns-in-Numbered
returns-in-Numbered c = subst (λ (o : Source). IfOk c.numbers_of.result (λ p. p.items ≡ numbers_shown (content_of o) (state_of c.args.self.now))) (sym c.in-Numbered.is) c.numbers_of.ensures
