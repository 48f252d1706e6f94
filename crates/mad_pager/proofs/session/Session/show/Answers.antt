use Rattle.std.proofs.Common.{subst, sym, ◌∙◌}
use Rattle.std.proofs.lemmas.Option.{same_Some}
use Rattle.mad_outline.specs.Sources.{content_of}
use Rattle.mad_pager.specs.Screens.{IsPicture}
use Rattle.mad_pager.specs.Sessions.{state_of}
use Rattle.mad_pager.proofs.DrawnLemmas.{shown_whole, unshown_exit, unshown_in_question, unshown_in_picture, unshown_at_flush}
use Rattle.mad_pager.proofs.session.Session.show.Goals as goal

pub returns-in_err-ask_size : goal.returns-in_err-ask_size
returns-in_err-ask_size g c =
    unshown_exit _ _ _ _ _ _ _ _ _ c.from_residual-in_err-ask_size.ensures.1 (unshown_in_question _ _ _ _ _ _ _ _ c.in_err-ask_size.field-0.0 c.in_ok-picture.ensures.2 c.in_err-ask_size.ensures)

pub returns-in_err-put_all : goal.returns-in_err-put_all
returns-in_err-put_all g c =
    let s = state_of c.args.self.now in
    let shows = IsPicture c.args.self.now.skin.now c.args.self.now.name.now (content_of c.args.self.now.source) s in
    let it = c.in_ok-picture.ensures in
    unshown_exit _ _ _ _ _ _ _ _ _ c.from_residual-in_err-put_all.ensures.1
    (unshown_in_picture _ _ _ _ _ _ _ _ _ c.in_err-put_all.field-0.0 (subst shows (same_Some _ _ (sym it.1 ∙ c.taken.ensures)) it.2) c.in_ok-ask_size.ensures c.in_err-put_all.ensures)

pub returns-in_err-flush : goal.returns-in_err-flush
returns-in_err-flush g c =
    let s = state_of c.args.self.now in
    let shows = IsPicture c.args.self.now.skin.now c.args.self.now.name.now (content_of c.args.self.now.source) s in
    let it = c.in_ok-picture.ensures in
    unshown_exit _ _ _ _ _ _ _ _ _ c.from_residual-in_err-flush.ensures.1
    (unshown_at_flush _ _ _ _ _ _ _ _ _ _ c.in_err-flush.field-0.0 (subst shows (same_Some _ _ (sym it.1 ∙ c.taken.ensures)) it.2) c.in_ok-ask_size.ensures c.in_ok-put_all.ensures c.in_err-flush.ensures)

pub returns : goal.returns
returns g c =
    let s = state_of c.args.self.now in
    let shows = IsPicture c.args.self.now.skin.now c.args.self.now.name.now (content_of c.args.self.now.source) s in
    let it = c.in_ok-picture.ensures in
    shown_whole _ _ _ _ _ _ _ _ _ _ (subst shows (same_Some _ _ (sym it.1 ∙ c.taken.ensures)) it.2) c.in_ok-ask_size.ensures c.in_ok-put_all.ensures c.in_ok-flush.ensures
