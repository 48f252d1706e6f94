use Rattle.std.proofs.Common.{◌≡◌, ℕ, List, Result, Err, refl, sym, ap, ◌∙◌, subst, inl, inr}
use Rattle.std.specs.Cow.{cow_str_bytes}
use Rattle.std.proofs.lemmas.Result.{err_from_is_err_and}
use Rattle.mad_page_skin.specs.declared.page_skin.PageSkin.{PageSkin}
use Rattle.mad_term.specs.Trace.{Trace}
use Rattle.markdown_lines.specs.Texts.{behind_mark}
use Rattle.termimad_page_run.specs.declared.leaving.Leaving.{Leaving}
use Rattle.termimad_page_run.specs.declared.program.Grammar.{Grammar}
use Rattle.termimad_page.specs.Calls.{Where, start_of, where_of}
use Rattle.termimad_page.specs.Runs.{Devices, IsNoText, IsTextOf, PagesText, Shows, WritesWhole, devices}
use Rattle.termimad_page.specs.declared.call.Place.{Place}
use Rattle.termimad_page.specs.declared.call.Place.TheVariants.{OnScreen, Whole}
use Rattle.termimad_page.specs.declared.call.Screen.{Screen}
use Rattle.termimad_page.specs.declared.failing.Refusal.{Refusal}
use Rattle.termimad_page.proofs.running.show.Goals as goal

-- what is paged of bytes that are a text
pages_shown : (grammar : Grammar) (skin : PageSkin) (place : Place) (screen : Screen) (bytes whole slice text : List ℕ) (old : Devices) (r : Result Leaving Refusal) (keys drawn : Trace) → place ≡ OnScreen screen → IsTextOf grammar bytes whole → slice ≡ whole → text ≡ behind_mark slice → PagesText grammar skin screen.name.now screen.columns screen.rows screen.files (start_of screen.begins) text old.keys old.screen r keys drawn → Shows grammar skin (where_of place) bytes old r (devices keys drawn old.out)
pages_shown grammar skin place screen bytes whole slice text old r keys drawn is of p q pages =
    subst (λ (w : Place). Shows grammar skin (where_of w) bytes old r (devices keys drawn old.out)) (sym is)
    (inl (whole, of, (subst (λ (t : List ℕ). PagesText grammar skin screen.name.now screen.columns screen.rows screen.files (start_of screen.begins) t old.keys old.screen r keys drawn) (q ∙ ap behind_mark p) pages, refl)))

-- what is written of them
whole_shown : (grammar : Grammar) (skin : PageSkin) (place : Place) (columns : ℕ) (bytes whole slice text : List ℕ) (old : Devices) (r : Result Leaving Refusal) (out : Trace) → place ≡ Whole columns → IsTextOf grammar bytes whole → slice ≡ whole → text ≡ behind_mark slice → WritesWhole grammar skin columns text old.out r out → Shows grammar skin (where_of place) bytes old r (devices old.keys old.screen out)
whole_shown grammar skin place columns bytes whole slice text old r out is of p q writes =
    subst (λ (w : Place). Shows grammar skin (where_of w) bytes old r (devices old.keys old.screen out)) (sym is)
    (inl (whole, of, (subst (λ (t : List ℕ). WritesWhole grammar skin columns t old.out r out) (q ∙ ap behind_mark p) writes, refl, refl)))

-- bytes that are no text
none_shown : (grammar : Grammar) (skin : PageSkin) (place : Where) (bytes : List ℕ) (old : Devices) (r : Result Leaving Refusal) (refusal : Refusal) → r ≡ Err refusal → IsNoText grammar bytes refusal → Shows grammar skin place bytes old r old
none_shown grammar skin place bytes old r refusal e none = inr (refusal, e, none, refl)

pub returns-in_err-whole : goal.returns-in_err-whole
returns-in_err-whole g c =
    let p = err_from_is_err_and _ c.from_residual.ensures.1 in
    none_shown c.args.call.now.grammar c.args.skin.now (where_of c.args.call.now.place) c.args.bytes.now _ _ _ (p.1 ∙ ap Err p.2) c.in_err-whole.ensures

pub returns-in-OnScreen : goal.returns-in-OnScreen
returns-in-OnScreen g c =
    pages_shown c.args.call.now.grammar c.args.skin.now c.args.call.now.place c.in-OnScreen.place c.args.bytes.now (cow_str_bytes c.in_ok-whole.whole) c.deref.result.now _
    (devices (g.I.Source.seen c.args.keys.now.input) (g.S.Out.seen c.args.screen.now) (g.O.Out.seen c.args.out.now)) _ _ _
    c.in-OnScreen.is c.in_ok-whole.ensures c.deref.ensures.value c.behind_mark-text.ensures c.page_text.ensures

pub returns : goal.returns
returns g c =
    whole_shown c.args.call.now.grammar c.args.skin.now c.args.call.now.place c.in-Whole.columns c.args.bytes.now (cow_str_bytes c.in_ok-whole.whole) c.deref.result.now _
    (devices (g.I.Source.seen c.args.keys.now.input) (g.S.Out.seen c.args.screen.now) (g.O.Out.seen c.args.out.now)) _ _
    c.in-Whole.is c.in_ok-whole.ensures c.deref.ensures.value c.behind_mark-text.ensures c.write_whole.ensures
