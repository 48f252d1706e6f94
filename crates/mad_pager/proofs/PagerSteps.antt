-- What events do to a pager, along what is equal.
use Rattle.std.proofs.Common.{◌≡◌, ℕ, Bool, false, List, Option, Some, None, option_map, refl, sym, ap, subst, ◌∙◌, if◌then◌else◌}
use Rattle.mad_sections.specs.Sections.{SectionContent}
use Rattle.mad_page_skin.specs.declared.page_skin.PageSkin.{PageSkin}
use Rattle.mad_term.specs.declared.events.Event.{Event}
use Rattle.mad_term.specs.declared.keys.KeyEvent.{KeyEvent}
use Rattle.mad_page.specs.PageKeys as page
use Rattle.mad_page.specs.PageKeys.{after_command, command_of, file_ask}
use Rattle.mad_page.specs.declared.page.Page.{Page}
use Rattle.mad_search.specs.KeptRows.{part_of}
use Rattle.mad_outline.specs.LinkLists.{TextLinks}
use Rattle.mad_pager.specs.Following.{last_row_of, links_in, sections_shown}
use Rattle.mad_pager.specs.Sessions.{State, HasSameText, IsResized, IsStart, state_of, turn_of}
use Rattle.mad_outline.specs.Sources.{Content, TextSaid, addresses, content_page, content_of, next, source_page}
use Rattle.mad_pager.specs.Pagers.{Leaf, View, IsAnswered, IsChoice, IsOverStep, IsPageStart, IsStepIn, IsTextStep, content_chosen, leaf_of, over_answer, size_to_lay, turn_answered, turn_at, turn_over, uncounted_state}
use Rattle.mad_pager.specs.declared.over.Answer.{Answer}
use Rattle.mad_pager.specs.declared.session.Session.{Session}
use Rattle.mad_pager.specs.declared.session.Turn.{Turn}
use Rattle.mad_pager.specs.declared.sizes.ScreenSize.{ScreenSize}

-- ---- which is shown

-- an event is done on the page over the text, while one is open
pub step_over : (event : Event) (over : Option Session) (page : Session) (text : Leaf) (new : View) → over ≡ Some page → IsOverStep event (leaf_of page) text new → IsStepIn (option_map leaf_of over) event text new
step_over event over page text new is h = subst (λ (o : Option Session). IsStepIn (option_map leaf_of o) event text new) (sym is) h

-- it is done on the text, while none is open
pub step_below : (event : Event) (over : Option Session) (text : Leaf) (new : View) → over ≡ None → IsTextStep event text new → IsStepIn (option_map leaf_of over) event text new
step_below event over text new is h = subst (λ (o : Option Session). IsStepIn (option_map leaf_of o) event text new) (sym is) h

-- the pager goes on as the page over the text says, while one is open
pub turn_at_over : (event : Event) (over : Option Session) (page : Session) (text : Leaf) (turn : Turn) → over ≡ Some page → turn ≡ turn_over event (leaf_of page) text → turn ≡ turn_at (option_map leaf_of over) event text
turn_at_over event over page text turn is h = h ∙ ap (λ (o : Option Session). turn_at (option_map leaf_of o) event text) (sym is)

-- it goes on as the text says, while none is open
pub turn_at_text : (event : Event) (over : Option Session) (text : Leaf) (turn : Turn) → over ≡ None → turn ≡ turn_of event text.state → turn ≡ turn_at (option_map leaf_of over) event text
turn_at_text event over text turn is h = h ∙ ap (λ (o : Option Session). turn_at (option_map leaf_of o) event text) (sym is)

-- ---- what is answered

-- what an event does on a page is what its answer does
pub answered : (answer made : Answer) (event : Event) (over text : Leaf) (new : View) → made ≡ over_answer event over → made ≡ answer → IsAnswered answer event over text new → IsOverStep event over text new
answered answer made event over text new e is h = subst (λ (a : Answer). IsAnswered a event over text new) (sym is ∙ e) h

-- the pager goes on after it as the answer says
pub turn_so : (answer made : Answer) (event : Event) (over text : Leaf) (turn : Turn) → made ≡ over_answer event over → made ≡ answer → turn ≡ turn_answered answer event over text → turn ≡ turn_over event over text
turn_so answer made event over text turn e is h = h ∙ ap (λ (a : Answer). turn_answered a event over text) (sym is ∙ e)

-- a page after a key, by whether a colon was typed
abbrev pub turn_after : Bool → KeyEvent → Page → page.Turn
turn_after colon key p =
    if colon then record { page = record p { has_colon = false; tells = false }; ask = file_ask p.files key } else after_command (command_of key) (record p { tells = false })

-- ---- pages

-- nothing was told to a page yet
pub untold : (s : State) → s.told ≡ None → record s { told = None } ≡ s
untold s e = ap (λ (o : Option ScreenSize). let t : State = record s { told = o } in t) (sym e)

-- a page at its start, which hears what the text below had heard
pub page_started : (name : List ℕ) (content : Content) (below : Leaf) (over new : Session) → over.skin.now ≡ below.skin → over.name.now ≡ name → content_of over.source ≡ content
    → IsStart below.skin (content_page content) below.state.page.columns below.state.page.rows below.state.page.files (state_of over) → leaf_of new ≡ record (leaf_of over) { state = record (state_of over) { told = below.state.told } }
    → IsPageStart name content below (leaf_of new)
page_started name content below over new skin named made start e =
    subst (λ (l : Leaf). IsPageStart name content below l) (sym e) (record {
      skin = skin;
      named = named;
      made = made;
      start = subst (λ (s : State). IsStart below.skin (content_page content) below.state.page.columns below.state.page.rows below.state.page.files s) (sym (untold (state_of over) start.told)) start;
      told = refl;
    })

-- the same, along what is equal
pub start_along : (name : List ℕ) (made content : Content) (below over : Leaf) → made ≡ content → IsPageStart name made below over → IsPageStart name content below over
start_along name made content below over is h = subst (λ (k : Content). IsPageStart name k below over) is h

-- ---- choices

-- another header is chosen, and all is laid out anew
pub chosen : (key : KeyEvent) (old mid new : Session) (size : ScreenSize) → mid.skin.now ≡ old.skin.now → mid.name.now ≡ old.name.now → content_of mid.source ≡ content_chosen key (state_of old) (content_of old.source)
    → state_of mid ≡ uncounted_state (state_of old) → size ≡ size_to_lay (state_of old) → HasSameText mid new → IsResized mid.skin.now (source_page mid.source) size.columns size.rows (state_of mid) (state_of new) → IsChoice key (leaf_of old) (leaf_of new)
chosen key old mid new size skin name content state is same laid = record {
  skin = same.skin ∙ skin;
  name = same.name ∙ name;
  content = ap content_of same.source ∙ content;
  laid =
      subst (λ (d : PageSkin). IsResized d (content_page (content_chosen key (state_of old) (content_of old.source))) (size_to_lay (state_of old)).columns (size_to_lay (state_of old)).rows (uncounted_state (state_of old)) (state_of new)) skin
      (subst (λ (c : Content). IsResized mid.skin.now (content_page c) (size_to_lay (state_of old)).columns (size_to_lay (state_of old)).rows (uncounted_state (state_of old)) (state_of new)) content
      (subst (λ (z : ScreenSize). IsResized mid.skin.now (source_page mid.source) z.columns z.rows (uncounted_state (state_of old)) (state_of new)) is
      (subst (λ (s : State). IsResized mid.skin.now (source_page mid.source) size.columns size.rows s (state_of new)) state laid)));
}

-- ---- links

-- the sections that are on the screen
pub shown_sections : (s : State) (starts : List ℕ) (row first last after : ℕ) → starts ≡ s.laid.starts.items → first ≡ part_of starts s.page.top → row ≡ last_row_of s.page → last ≡ part_of starts row → after ≡ next last
    → (first, after) ≡ sections_shown s
shown_sections s starts row first last after begin f r l t =
    let end : last ≡ part_of s.laid.starts.items (last_row_of s.page) = l ∙ ap (λ (z : List ℕ). part_of z row) begin ∙ ap (λ (m : ℕ). part_of s.laid.starts.items m) r in
    ap (λ (m : ℕ). (m, after)) (f ∙ ap (λ (z : List ℕ). part_of z s.page.top) begin) ∙ ap (λ (m : ℕ). (part_of s.laid.starts.items s.page.top, m)) (t ∙ ap next end)

-- the links of Markdown from one section on up to another, along what is equal
pub links_along : (text : TextSaid) (of : TextLinks) (s : State) (page : List SectionContent) (shown : ℕ × ℕ) → page ≡ text.page → shown ≡ sections_shown s
    → addresses (record { page = page; of = of; from = shown.0; to = shown.1 }) ≡ addresses (links_in text of s)
links_along text of s page shown same is =
    ap (λ (p : List SectionContent). addresses (record { page = p; of = of; from = shown.0; to = shown.1 })) same
    ∙ ap (λ (n : ℕ × ℕ). addresses (record { page = text.page; of = of; from = n.0; to = n.1 })) is
