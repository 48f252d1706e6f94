-- The sessions of a pager stay orderly.
use Rattle.std.proofs.Common.{◌≡◌, ℕ, List, Option, Some, None, option_map, ap, refl, sym, ◌∙◌, subst}
use Rattle.std.specs.Prelude.{slice_index}
use Rattle.mad_page_skin.specs.declared.page_skin.PageSkin.{PageSkin}
use Rattle.mad_term.specs.declared.events.Event.{Event}
use Rattle.mad_term.specs.declared.events.Event.TheVariants.{Key, Mouse, Resize, FocusGained, FocusLost}
use Rattle.mad_term.specs.declared.keys.KeyEvent.{KeyEvent}
use Rattle.mad_page.specs.declared.page.Files.{Files}
use Rattle.mad_pager.specs.Screens.{IsOrderly}
use Rattle.mad_pager.specs.Sessions.{State, HasSameText, IsEventStep, IsSettled, at_row_or, hears_size, pasted, state_of}
use Rattle.mad_outline.specs.Sources.{Content, PageAt, TextSaid, a_text, addresses, headers, numbered, content_page, content_of, said_of, source_page}
use Rattle.mad_pager.specs.Pagers.{Leaf, View, IsAnswered, IsChoice, IsCovered, IsLeafSettled, IsLeafStep, IsOpened, IsOrderlyLeaf, IsOrderlyOver, IsOrderlyView, IsOverSettled, IsOverStart, IsPageStart, IsSameLeaf, IsStep, IsStepIn, IsViewSettled, contents_name, contents_page, header_row, help_name, help_page, hearing, leaf_page, leaf_of, links_name, links_opened, links_page, opened_name, over_answer, sighted, begun, begun_at_name, pasted_at, pasted_in, pasted_leaf, with_top}
use Rattle.mad_pager.specs.Following.{address_of, at_name, name_within, target_row}
use Rattle.mad_pager.specs.declared.over.Answer.{Answer}
use Rattle.mad_pager.specs.declared.over.Answer.TheVariants.{Closes, Takes, Chooses, Lists, Follows, Passes}
use Rattle.mad_pager.specs.declared.session.Overlay.{Overlay}
use Rattle.mad_pager.specs.declared.session.Overlay.TheVariants as overlay
use Rattle.mad_pager.specs.declared.session.Session.{Session}
use Rattle.mad_pager.proofs.OrderLemmas.{event_order, header_order, pasted_order, resized_order, row_order, settled_order, sight_order, start_order}

-- ---- leaves

-- what a session shows stays the same
pub same_leaf : (old new : Session) → HasSameText old new → IsSameLeaf (leaf_of old) (leaf_of new)
same_leaf old new h = record { skin = h.skin; name = h.name; content = ap content_of h.source }

-- a session of which only the state is another
pub leaf_with : (old new : Session) (s : State) → HasSameText old new → state_of new ≡ s → leaf_of new ≡ record (leaf_of old) { state = s }
leaf_with old new s h e = cc (h.skin, h.name, h.source, e)

-- the text of a pager with the place of a name on top
pub named_view : (old new : Session) (over : Option Leaf) (name : Option (List ℕ)) (found : List ℕ) → name ≡ Some found → state_of new ≡ at_name (Some found) (said_of (content_of old.source)) (state_of old) → HasSameText old new
    → (let v : View = record { text = leaf_of new; over = over } in v) ≡ begun_at_name name (record { text = leaf_of old; over = over })
named_view old new over name found is e same =
    ap (λ (l : Leaf). let v : View = record { text = l; over = over } in v) (leaf_with old new _ same e) ∙ ap (λ (n : Option (List ℕ)). begun_at_name n (record { text = leaf_of old; over = over })) (sym is)

-- a key of a pasted text is typed on the page over the text, while one is open
pub pasted_over : (event : Event) (over : Option Session) (page new : Session) (text : Leaf) → over ≡ Some page → HasSameText page new → state_of new ≡ pasted event (state_of page)
    → record { text = text; over = Some (leaf_of new) } ≡ pasted_at (option_map leaf_of over) event text
pasted_over event over page new text is same e =
    subst (λ (o : Option Session). record { text = text; over = Some (leaf_of new) } ≡ pasted_at (option_map leaf_of o) event text) (sym is)
    (ap (λ (l : Leaf). let v : View = record { text = text; over = Some l } in v) (leaf_with page new (pasted event (state_of page)) same e))

-- it is typed on the text, while none is open
pub pasted_below : (event : Event) (over : Option Session) (old new : Session) → over ≡ None → HasSameText old new → state_of new ≡ pasted event (state_of old)
    → record { text = leaf_of new; over = option_map leaf_of over } ≡ pasted_at (option_map leaf_of over) event (leaf_of old)
pasted_below event over old new is same e =
    subst (λ (o : Option Session). record { text = leaf_of new; over = option_map leaf_of o } ≡ pasted_at (option_map leaf_of o) event (leaf_of old)) (sym is)
    (ap (λ (l : Leaf). let v : View = record { text = l; over = None } in v) (leaf_with old new (pasted event (state_of old)) same e))

-- a session that was laid out anew
pub settled_leaf : (old new : Session) → HasSameText old new → IsSettled old.skin.now (source_page old.source) (state_of old) (state_of new) → IsLeafSettled (leaf_of old) (leaf_of new)
settled_leaf old new h settled = record { same = same_leaf old new h; settled = settled }

-- an event that was done on a session
pub stepped_leaf : (event : Event) (old new : Session) → HasSameText old new → IsEventStep old.skin.now (source_page old.source) event (state_of old) (state_of new) → IsLeafStep event (leaf_of old) (leaf_of new)
stepped_leaf event old new h step = record { same = same_leaf old new h; step = step }

-- a page is opened over the text
pub covered_so : (opened : Option Overlay) (overlay : Overlay) (below start : Leaf) (over : Option Leaf) → opened ≡ Some overlay → IsOverStart overlay below start → over ≡ Some start → IsCovered opened below over
covered_so opened overlay below start over is begun e = subst (λ (o : Option Overlay). IsCovered o below over) (sym is) (start, begun, e)

-- no page is opened over it
pub covered_not : (opened : Option Overlay) (below : Leaf) (over : Option Leaf) → opened ≡ None → over ≡ None → IsCovered opened below over
covered_not opened below over is none = subst (λ (o : Option Overlay). IsCovered o below over) (sym is) none

-- ---- order

order_at : (skin : PageSkin) (content : Content) (new : Leaf) → new.skin ≡ skin → new.content ≡ content → IsOrderly skin (content_page content) new.state → IsOrderlyLeaf new
order_at skin content new same is h =
    subst (λ (d : PageSkin). IsOrderly d (leaf_page new) new.state) (sym same) (subst (λ (c : Content). IsOrderly skin (content_page c) new.state) (sym is) h)

-- an event leaves a session orderly
leaf_order : (event : Event) (old new : Leaf) → IsLeafStep event old new → IsOrderlyLeaf old → IsOrderlyLeaf new
leaf_order event old new step h = order_at old.skin old.content new step.same.skin step.same.content (event_order old.skin (leaf_page old) event old.state new.state step.step h)

-- so does a size that it hears
hearing_order : (event : Event) (l : Leaf) → IsOrderlyLeaf l → IsOrderlyLeaf (hearing event l)
hearing_order (Key key) l h = h
hearing_order (Mouse m) l h = h
hearing_order (Resize columns rows) l h = event_order l.skin (leaf_page l) (Resize columns rows) l.state (hears_size columns rows l.state) refl h
hearing_order FocusGained l h = h
hearing_order FocusLost l h = h

-- a page over a text is orderly from its start on
page_start_order : (name : List ℕ) (content : Content) (below over : Leaf) → IsPageStart name content below over → IsOrderlyLeaf over
page_start_order name content below over start =
    let s : State = record over.state { told = None } in
    let begun = start_order below.skin (content_page content) below.state.page.columns below.state.page.rows below.state.page.files s start.start in
    order_at below.skin content over start.skin start.made (record { laid = begun.laid; field = record { area = begun.field.area; typed = begun.field.typed } })

-- with another row on top it is so too
top_order : (name : List ℕ) (content : Content) (below begun over : Leaf) (row : ℕ) → IsPageStart name content below begun → over ≡ with_top row begun → IsOrderlyLeaf over
top_order name content below begun over row start is =
    let h : IsOrderlyLeaf begun = page_start_order name content below begun start in
    subst IsOrderlyLeaf (sym is) (record { laid = h.laid; field = record { area = h.field.area; typed = h.field.typed } })

row_or_order : (row : Option ℕ) (l : Leaf) → IsOrderlyLeaf l → IsOrderlyLeaf (record l { state = at_row_or row l.state })
row_or_order None l h = h
row_or_order (Some row) l h = record { laid = h.laid; field = record { area = h.field.area; typed = h.field.typed } }

-- a link that leads to a name leaves the text orderly
named_order : (name : Option (List ℕ)) (text : TextSaid) (l : Leaf) → IsOrderlyLeaf l → IsOrderlyLeaf (record l { state = at_name name text l.state })
named_order None text l h = h
named_order (Some name) text l h = row_or_order (target_row text name l.state.laid.starts.items) l h

over_start_order : (overlay : Overlay) (below over : Leaf) → IsOverStart overlay below over → IsOrderlyLeaf over
over_start_order overlay.Help below over start = page_start_order help_name help_page below over start
over_start_order overlay.Links below over start =
    let opened : Content = links_opened (said_of below.content) below.state in
    top_order (opened_name opened) opened below start.start over _ start.is start.over_is
over_start_order overlay.Contents below over start = page_start_order contents_name (contents_page (said_of below.content).page below.state) below over start

covered_order : (opened : Option Overlay) (below : Leaf) (over : Option Leaf) → IsCovered opened below over → IsOrderlyOver over
covered_order None below over none = subst IsOrderlyOver (sym none) tt
covered_order (Some overlay) below over (start, is, e) = subst IsOrderlyOver (sym e) (over_start_order overlay below start is)

choice_order : (key : KeyEvent) (old new : Leaf) → IsChoice key old new → IsOrderlyLeaf old → IsOrderlyLeaf new
choice_order key old new choice h =
    order_at old.skin _ new choice.skin choice.content (resized_order old.skin _ _ _ _ new.state choice.laid (record { area = h.field.area; typed = h.field.typed }))

answered_order : (answer : Answer) (event : Event) (over text : Leaf) (new : View) → IsAnswered answer event over text new → IsOrderlyLeaf text → IsOrderlyLeaf over → IsOrderlyView new
answered_order Closes event over text new step h k = record { text = subst IsOrderlyLeaf (sym step.text) h; over = subst IsOrderlyOver (sym step.over) tt }
answered_order Takes event over text new step h k = record {
  text = subst IsOrderlyLeaf (sym step.text) (header_order text.skin (leaf_page text) (header_row over.content text.state.laid.starts.items) text.state _ refl h);
  over = subst IsOrderlyOver (sym step.over) tt;
}
answered_order (Chooses key) event over text new step h k = record {
  text = subst IsOrderlyLeaf (sym step.text) h;
  over = subst IsOrderlyOver (sym step.over) (choice_order key over step.after step.choice k);
}
answered_order Lists event over text new step h k = record {
  text = subst IsOrderlyLeaf (sym step.text) h;
  over = subst IsOrderlyOver (sym step.over) (page_start_order links_name (links_page (said_of over.content) over.state) text step.start step.is);
}
answered_order (Follows index) event over text new step h k = record {
  text = subst IsOrderlyLeaf (sym step.text) (named_order (name_within (address_of (said_of text.content).links index)) (said_of text.content) text h);
  over = subst IsOrderlyOver (sym step.over) tt;
}
answered_order Passes event over text new step h k = record {
  text = subst IsOrderlyLeaf (sym step.text) (hearing_order event text h);
  over = subst IsOrderlyOver (sym step.over) (leaf_order event over step.after step.step k);
}

step_in_order : (over : Option Leaf) (event : Event) (text : Leaf) (new : View) → IsStepIn over event text new → IsOrderlyLeaf text → IsOrderlyOver over → IsOrderlyView new
step_in_order None event text new step h k = record { text = leaf_order event text new.text step.text h; over = covered_order _ new.text new.over step.over }
step_in_order (Some over) event text new step h k = answered_order (over_answer event over) event over text new step h k

-- an event leaves both so
pub step_order : (event : Event) (old new : View) → IsStep event old new → IsOrderlyView old → IsOrderlyView new
step_order event old new step h = step_in_order old.over event old.text new step h.text h.over

pasted_leaf_order : (event : Event) (l : Leaf) → IsOrderlyLeaf l → IsOrderlyLeaf (pasted_leaf event l)
pasted_leaf_order event l h = pasted_order l.skin (leaf_page l) event l.state h

pasted_at_order : (over : Option Leaf) (event : Event) (text : Leaf) → IsOrderlyLeaf text → IsOrderlyOver over → IsOrderlyView (pasted_at over event text)
pasted_at_order None event text h k = record { text = pasted_leaf_order event text h; over = tt }
pasted_at_order (Some over) event text h k = record { text = h; over = pasted_leaf_order event over k }

-- so does an event of a pasted text
pub pasted_view_order : (event : Event) (v : View) → IsOrderlyView v → IsOrderlyView (pasted_in event v)
pasted_view_order event v h = pasted_at_order v.over event v.text h.text h.over

settled_leaf_order : (old new : Leaf) → IsLeafSettled old new → IsOrderlyLeaf old → IsOrderlyLeaf new
settled_leaf_order old new h k = order_at old.skin old.content new h.same.skin h.same.content (settled_order old.skin (leaf_page old) old.state new.state h.settled k)

sighted_order : (skin : PageSkin) (text : PageAt) (content : Content) (s : State) → IsOrderly skin text s → IsOrderly skin text (sighted content s)
sighted_order skin text (headers of chosen) s h = sight_order skin text (slice_index s.laid.starts.items chosen) s h
sighted_order skin text (a_text said) s h = h
sighted_order skin text (numbered said) s h = h
sighted_order skin text (addresses links) s h = h

settled_over_order : (old new : Option Leaf) → IsOverSettled old new → IsOrderlyOver old → IsOrderlyOver new
settled_over_order None new e k = subst IsOrderlyOver (sym e) tt
settled_over_order (Some over) new (mid, h, e) k =
    subst IsOrderlyOver (sym e) (sighted_order mid.skin (leaf_page mid) mid.content mid.state (settled_leaf_order over mid h k))

-- so does another size
pub view_settled_order : (old new : View) → IsViewSettled old new → IsOrderlyView old → IsOrderlyView new
view_settled_order old new h k = record { text = settled_leaf_order old.text new.text h.text k.text; over = settled_over_order old.over new.over h.over k.over }

-- they are so from the start on
pub opened_order : (skin : PageSkin) (name : List ℕ) (text : TextSaid) (columns rows : ℕ) (files : Files) (v : View) → IsOpened skin name text columns rows files v → IsOrderlyView v
opened_order skin name text columns rows files v h = record {
  text = order_at skin (a_text text) v.text h.dress h.content (start_order skin text.shown columns rows files v.text.state h.start);
  over = subst IsOrderlyOver (sym h.over) tt;
}

-- and where a row is put on top
pub begun_order : (number : ℕ) (v : View) → IsOrderlyView v → IsOrderlyView (begun number v)
begun_order number v h = record { text = row_order v.text.skin (leaf_page v.text) number v.text.state h.text; over = h.over }

-- and the place of a name
pub named_view_order : (name : Option (List ℕ)) (v : View) → IsOrderlyView v → IsOrderlyView (begun_at_name name v)
named_view_order name v h = record { text = named_order name (said_of v.text.content) v.text h.text; over = h.over }
