use Rattle.std.proofs.Common.{Bool, subst, sym}
use Rattle.mad_pager.specs.Sessions.{state_of, IsFound}
use Rattle.mad_pager.proofs.session.Session.find.Goals as goal

pub returns-then-backward-clause-found : goal.returns-then-backward-clause-found
returns-then-backward-clause-found c =
    subst (λ (b : Bool). IsFound b (state_of c.args.self.now) (state_of c.show_found.new.self)) (sym c.if-backward.true) (c.in_ok-row.row, c.in_ok-row.ensures, c.show_found.ensures.shown)

pub returns-clause-found : goal.returns-clause-found
returns-clause-found c =
    subst (λ (b : Bool). IsFound b (state_of c.args.self.now) (state_of c.show_found-2.new.self)) (sym c.if-backward.false) (c.in_ok-row-2.row, c.in_ok-row-2.ensures, c.show_found-2.ensures.shown)
