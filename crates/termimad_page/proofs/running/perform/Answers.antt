use Rattle.std.proofs.Common.{◌≡◌, ℕ, List, true, false, Option, Some, option_map, Result, Err, refl, sym, ap, ◌∙◌, subst, inl, inr}
use Rattle.std.proofs.lemmas.Result.{err_from_is_err_and}
use Rattle.mad_page_skin.specs.declared.page_skin.PageSkin.{PageSkin}
use Rattle.mad_term.specs.Trace.{Trace}
use Rattle.termimad_given.specs.Given.{Held}
use Rattle.termimad_page_run.specs.Comings.{Arrival, arrival}
use Rattle.termimad_page_run.specs.declared.leaving.Leaving.{Leaving}
use Rattle.termimad_page_run.specs.declared.program.Grammar.{Grammar}
use Rattle.termimad_page.specs.Calls.{Where, on_screen, start_of, where_of}
use Rattle.termimad_page.specs.Runs.{comes, Devices, IsBegun, IsFreshArrival, PagesComing, Performs, ReadsFile, Shows, ShowsComing, devices}
use Rattle.termimad_page.specs.declared.call.Place.{Place}
use Rattle.termimad_page.specs.declared.call.Place.TheVariants.{OnScreen}
use Rattle.termimad_page.specs.declared.call.Screen.{Screen}
use Rattle.termimad_page.specs.declared.failing.Refusal.{Refusal}
use Rattle.termimad_page.proofs.running.perform.Goals as goal

-- a run whose file isn't read
unread_run : (holds : Held) (words : List (List ℕ)) (old : Devices) (r : Result Leaving Refusal) (refusal : Refusal) (mark : Option (List ℕ)) (file : List ℕ) (grammar : Grammar) (place : Where) (skin : PageSkin) → r ≡ Err refusal → IsBegun words mark file grammar place skin → ReadsFile refusal → Performs holds words old r old
unread_run holds words old r refusal mark file grammar place skin e begun unread =
    inr (inr (refusal, e, inr (record { mark = mark; file = file; grammar = grammar; place = place; skin = skin; begun = begun; unread = unread }), refl))

-- a run that shows what its file holds
shown_run : (holds : Held) (words : List (List ℕ)) (old new : Devices) (r : Result Leaving Refusal) (mark : Option (List ℕ)) (file bytes slice : List ℕ) (grammar : Grammar) (place : Where) (skin : PageSkin) → IsBegun words mark file grammar place skin → comes mark place ≡ false → slice ≡ bytes → holds file bytes → Shows grammar skin place slice old r new → Performs holds words old r new
shown_run holds words old new r mark file bytes slice grammar place skin begun whole p held shown =
    inl (record { mark = mark; file = file; grammar = grammar; place = place; skin = skin; begun = begun; whole = whole; bytes = bytes; held = held; shown = subst (λ (b : List ℕ). Shows grammar skin place b old r new) p shown })

-- a run that pages a text which comes
coming_run : (holds : Held) (words : List (List ℕ)) (old : Devices) (r : Result Leaving Refusal) (keys drawn : Trace) (mark : Option (List ℕ)) (named file : List ℕ) (grammar : Grammar) (place : Place) (screen : Screen) (skin : PageSkin) (a : Arrival)
    → mark ≡ Some named → place ≡ OnScreen screen → IsBegun words mark file grammar (where_of place) skin → IsFreshArrival a
    → PagesComing grammar skin screen.name.now screen.columns screen.rows screen.files (start_of screen.begins) a old.keys old.screen r keys drawn → Performs holds words old r (devices keys drawn old.out)
coming_run holds words old r keys drawn mark named file grammar place screen skin a is shown begun fresh pages =
    inr (inl (record {
      mark = mark;
      file = file;
      grammar = grammar;
      place = where_of place;
      skin = skin;
      begun = begun;
      coming = subst (λ (m : Option (List ℕ)). comes m (where_of place) ≡ true) (sym is) (subst (λ (p : Place). comes (Some named) (where_of p) ≡ true) (sym shown) refl);
      shown = subst (λ (p : Place). ShowsComing grammar skin (where_of p) old r (devices keys drawn old.out)) (sym shown) (a, fresh, pages, refl);
    }))

pub returns-in_err-coming-in-Some : goal.returns-in_err-coming-in-Some
returns-in_err-coming-in-Some g c =
    let p = err_from_is_err_and _ c.from_residual-in_err-coming-in-Some.ensures.1 in
    unread_run _ _ _ _ _ (option_map (λ mark. mark.now) c.in_ok-call.call.mark) c.in_ok-call.call.file.now c.in_ok-call.call.grammar (where_of c.in_ok-call.call.place) c.in_ok-call.skin (p.1 ∙ ap Err p.2) c.in_ok-call.ensures
    c.in_err-coming-in-Some.ensures

pub returns-in_ok-coming-in-Some : goal.returns-in_ok-coming-in-Some
returns-in_ok-coming-in-Some g c =
    coming_run _ _ (devices (g.I.Source.seen c.args.keys.now.input) (g.S.Out.seen c.args.screen.now) (g.O.Out.seen c.args.out.now)) _ _ _ _ _ c.in_ok-call.call.file.now c.in_ok-call.call.grammar c.in_ok-call.call.place c.in-Some.place
    c.in_ok-call.skin _ c.in-Some.ensures.0 c.in-Some.ensures.1 c.in_ok-call.ensures (record { ended = c.in_ok-coming-in-Some.ensures.0; is_whole = c.in_ok-coming-in-Some.ensures.1 }) c.page_coming.ensures

pub returns-in_err-bytes-in-None : goal.returns-in_err-bytes-in-None
returns-in_err-bytes-in-None g c =
    let p = err_from_is_err_and _ c.from_residual-in_err-bytes-in-None.ensures.1 in
    unread_run _ _ _ _ _ (option_map (λ mark. mark.now) c.in_ok-call.call.mark) c.in_ok-call.call.file.now c.in_ok-call.call.grammar (where_of c.in_ok-call.call.place) c.in_ok-call.skin (p.1 ∙ ap Err p.2) c.in_ok-call.ensures
    c.in_err-bytes-in-None.ensures

pub returns-in_ok-bytes-in-None : goal.returns-in_ok-bytes-in-None
returns-in_ok-bytes-in-None g c =
    shown_run _ _ _ _ _ (option_map (λ mark. mark.now) c.in_ok-call.call.mark) c.in_ok-call.call.file.now c.in_ok-bytes-in-None.bytes.items _ c.in_ok-call.call.grammar (where_of c.in_ok-call.call.place) c.in_ok-call.skin c.in_ok-call.ensures
    c.in-None.ensures c.as_slice.ensures.value c.in_ok-bytes-in-None.ensures c.show.ensures
