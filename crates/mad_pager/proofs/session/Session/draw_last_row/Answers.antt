use Rattle.std.proofs.Common.{◌≡◌, true, false, sym, ◌∙◌}
use Rattle.mad_pager.specs.Screens.{IsFieldRow, IsLastRow, IsStatus}
use Rattle.mad_pager.specs.Sessions.{state_of}
use Rattle.mad_hits.proofs.TookLemmas.{took_so}
use Rattle.mad_pager.proofs.session.Session.draw_last_row.Goals as goal

pub returns-then-is_typing : goal.returns-then-is_typing
returns-then-is_typing g c =
    let s = state_of c.args.self.now in
    took_so (g.O.Out.seen c.args.out.now) (g.O.Out.seen c.draw_typed.new.out) (IsFieldRow s) (IsLastRow c.args.self.now.skin.now c.args.self.now.name.now s) (λ text row. record { typing = λ is. row; status = λ is. let e : true ≡ false = sym c.if-is_typing.true ∙ is in absurd (cc) }) c.in_ok-draw_typed.ensures

pub returns : goal.returns
returns g c =
    let s = state_of c.args.self.now in
    took_so (g.O.Out.seen c.args.out.now) (g.O.Out.seen c.draw_status.new.out) (IsStatus c.args.self.now.skin.now c.args.self.now.name.now s) (IsLastRow c.args.self.now.skin.now c.args.self.now.name.now s) (λ text row. record { typing = λ is. let e : true ≡ false = sym is ∙ c.if-is_typing.false in absurd (cc); status = λ is. row }) c.in_ok-draw_status.ensures.shown
