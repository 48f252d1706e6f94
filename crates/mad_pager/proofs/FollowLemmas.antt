-- Links that are followed, along what is equal.
use Rattle.std.proofs.Common.{◌≡◌, ℕ, Bool, true, false, cond, List, [], ◌∷◌, map, Option, Some, None, option_map, refl, ap, sym, ◌∙◌, subst, arith, lit<}
use Rattle.std.specs.Prelude.{◌==◌, MatchOption, is_some, if◌then◌else◌}
use Rattle.std.specs.Str.Pattern.{FindsCharPrefix, StripsPrefix}
use Rattle.std.proofs.lemmas.Bool.Decides.{nat_tests}
use Rattle.std.proofs.lemmas.Simd.{map-map}
use Rattle.std.proofs.lemmas.Str.Pattern.{strip_prefix_char}
use denote.Ref.{Bor}
use Rattle.markdown_headings.specs.HeadingsSaid.{heading_said, name_said, section_of}
use Rattle.markdown_headings.specs.Named.{HeadingSaid, headings_of}
use Rattle.markdown_headings.specs.declared.naming.Heading.{Heading}
use Rattle.markdown_reader.specs.Anchors.{AnchorSaid}
use Rattle.mad_sections.specs.Sections.{SectionContent}
use Rattle.mad_format.specs.declared.line.FmtLine.{FmtLine}
use Rattle.mad_hits.specs.declared.rooms.RowRoom.{RowRoom}
use Rattle.mad_link_places.specs.Numbers.{AreNumbersShown}
use Rattle.mad_link_places.specs.declared.places.LinkPlace.{LinkPlace}
use Rattle.mad_outline.specs.LinkLists.{LinksIn, TextLinks}
use Rattle.mad_outline.specs.LinkNumbers.{link_numbers}
use Rattle.mad_outline.specs.Sources.{Content, TextSaid, links_between, numbered}
use Rattle.markdown_reader.specs.declared.markdown.Markdown.{Markdown}
use Rattle.mad_page.specs.Pages.{body_rows, row_number}
use Rattle.mad_pages.specs.declared.fronts.Front.{Front}
use Rattle.mad_rows.specs.declared.row_skin.RowSkin.{RowSkin}
use Rattle.mad_style.specs.declared.compound_styles.CompoundStyle.{CompoundStyle}
use Rattle.mad_term.specs.Trace.{Trace, TookWith}
use Rattle.mad_pager.specs.Following.{address_of, at_name, followed, followed_turn, link_on_screen, name_within, section_led, section_named, sections_shown, top_of, turn_within}
use Rattle.mad_pager.specs.Pagers.{Leaf, IsLinksStart, IsPageStart, links_opened, links_page, opened_name, with_top}
use Rattle.mad_pager.specs.Sessions.{State}
use Rattle.mad_pager.specs.declared.session.End.TheVariants as end
use Rattle.mad_pager.specs.declared.session.Turn.{Turn}
use Rattle.mad_pager.specs.declared.session.Turn.TheVariants.{Goes, Ends}

-- a link that leads to a name in the text
pub followed_named : {X : Type 0} (said : X → List ℕ) (found : Option X) (name : X) (index : ℕ) (text : TextSaid) (s new : State) → option_map said found ≡ name_within (address_of text.links index) → found ≡ Some name
    → new ≡ at_name (Some (said name)) text s → new ≡ followed index text s
followed_named {X = X} said found name index text s new is some e =
    e ∙ ap (λ (o : Option X). at_name (option_map said o) text s) (sym some) ∙ ap (λ (o : Option (List ℕ)). at_name o text s) is

pub turn_named : {X : Type 0} (said : X → List ℕ) (found : Option X) (name : X) (index : ℕ) (text : TextSaid) (s : State) → option_map said found ≡ name_within (address_of text.links index) → found ≡ Some name → Goes ≡ followed_turn index text s
turn_named {X = X} said found name index text s is some = ap (λ (o : Option X). turn_within (option_map said o) index s) (sym some) ∙ ap (λ (o : Option (List ℕ)). turn_within o index s) is

-- one that leads elsewhere
pub followed_elsewhere : {X : Type 0} (said : X → List ℕ) (found : Option X) (index : ℕ) (text : TextSaid) (s : State) → option_map said found ≡ name_within (address_of text.links index) → found ≡ None → s ≡ followed index text s
followed_elsewhere {X = X} said found index text s is none = ap (λ (o : Option X). at_name (option_map said o) text s) (sym none) ∙ ap (λ (o : Option (List ℕ)). at_name o text s) is

pub turn_elsewhere : {X : Type 0} (said : X → List ℕ) (found : Option X) (index number : ℕ) (text : TextSaid) (s : State) → option_map said found ≡ name_within (address_of text.links index) → found ≡ None → number ≡ row_number s.page
    → Ends (end.Follow number index) ≡ followed_turn index text s
turn_elsewhere {X = X} said found index number text s is none row =
    ap (λ (n : ℕ). let t : Turn = Ends (end.Follow n index) in t) row ∙ ap (λ (o : Option X). turn_within (option_map said o) index s) (sym none) ∙ ap (λ (o : Option (List ℕ)). turn_within o index s) is

-- ---- numbers

-- numbers that were drawn, along what is equal
pub numbers_along : (skin given_skin : RowSkin) (style : CompoundStyle) (given_room room : RowRoom) (given_lines lines : List FmtLine) (given_fronts fronts : List Front) (top : ℕ) (given made places : List LinkPlace) (old new : Trace)
    → given_skin ≡ skin → given_room ≡ room → given_lines ≡ lines → given_fronts ≡ fronts → given ≡ made → made ≡ places → TookWith old new (AreNumbersShown given_skin style given_room given_lines given_fronts top given)
    → TookWith old new (AreNumbersShown skin style room lines fronts top places)
numbers_along skin given_skin style given_room room given_lines lines given_fronts fronts top given made places old new a b c d e f h =
    let of : RowSkin → RowRoom → List FmtLine → List Front → List LinkPlace → Type 0 = λ s r ls fs ps. TookWith old new (AreNumbersShown s style r ls fs top ps) in
    subst (λ (s : RowSkin). of s room lines fronts places) a
    (subst (λ (r : RowRoom). of given_skin r lines fronts places) b
    (subst (λ (ls : List FmtLine). of given_skin given_room ls fronts places) c
    (subst (λ (fs : List Front). of given_skin given_room given_lines fs places) d (subst (λ (ps : List LinkPlace). of given_skin given_room given_lines given_fronts ps) (e ∙ f) h))))

-- ---- where an address leads

-- the text behind a `#` (35)
pub name_stripped : (text : List ℕ) (r : Option (Bor (List ℕ))) → MatchOption r (FindsCharPrefix 35 text None) (λ x. StripsPrefix (FindsCharPrefix 35) text x.now) → option_map (λ x. x.now) r ≡ name_within text
name_stripped text r strips = by_cases text r (strip_prefix_char 35 text r strips (lit< tt))
  where
    by_test : (c : ℕ) (cs : List ℕ) (t : Bool) → (c == 35) ≡ t → ((rest : List ℕ) → c ∷ cs ≡ 35 ∷ rest → ⊥) → cond t (Some cs) None ≡ None
    by_test c cs false is other = refl
    by_test c cs true is other =
        let same : c ≡ 35 = grind (arith, nat_tests, is) in
        absurd (other cs (ap (λ (n : ℕ). n ∷ cs) same))

    by_cases : (text : List ℕ) (r : Option (Bor (List ℕ))) → MatchOption r ((rest : List ℕ) → text ≡ 35 ∷ rest → ⊥) (λ x. text ≡ 35 ∷ x.now) → option_map (λ x. x.now) r ≡ name_within text
    by_cases text (Some x) is = ap name_within (sym is)
    by_cases [] None other = refl
    by_cases (c ∷ cs) None other = sym (by_test c cs (c == 35) refl other)

-- the section that has a name, by what was read of names and headings
pub section_is : (of : TextLinks) (page : List SectionContent) (anchors : List AnchorSaid) (headings : List Heading) (name : List ℕ) (found : Option ℕ) → anchors ≡ of.names → map heading_said headings ≡ headings_of page
    → found ≡ section_led anchors (map name_said headings) (map section_of headings) name → found ≡ section_named (Some of) (headings_of page) name
section_is of page anchors headings name found names are is =
    let name_in : HeadingSaid → List ℕ = λ h. h.name in
    let section_in : HeadingSaid → ℕ = λ h. h.section in
    is
    ∙ ap (λ (l : List (List ℕ)). section_led anchors l (map section_of headings) name) (sym (map-map name_in heading_said headings) ∙ ap (map name_in) are)
    ∙ ap (λ (l : List ℕ). section_led anchors (map name_in (headings_of page)) l name) (sym (map-map section_in heading_said headings) ∙ ap (map section_in) are)
    ∙ ap (λ (a : List AnchorSaid). section_led a (map name_in (headings_of page)) (map section_in (headings_of page)) name) names

-- ---- the page of links at its start

pub links_started : (content made : Content) (name : List ℕ) (below begun new : Leaf) (top : ℕ) → made ≡ content → name ≡ opened_name made → IsPageStart name made below begun → top ≡ top_of made below.state.page.top → new ≡ with_top top begun
    → IsLinksStart content below new
links_started content made name below begun new top is named start at e =
    subst (λ (k : Content). IsLinksStart k below new) is
    (record { start = begun; is = subst (λ (n : List ℕ). IsPageStart n made below begun) named start; over_is = e ∙ ap (λ (n : ℕ). with_top n begun) at })

-- what is opened, by whether a link is on the screen
abbrev opened_as : Option ℕ → TextSaid → State → Content
opened_as found text s = if is_some found then numbered text else links_page text s

pub opened_some : (text said : TextSaid) (s : State) (found : Option ℕ) (n : ℕ) → text ≡ said → found ≡ link_on_screen text s 1 → found ≡ Some n → numbered text ≡ links_opened said s
opened_some text said s found n same is some =
    ap (λ (o : Option ℕ). opened_as o text s) (sym some) ∙ ap (λ (o : Option ℕ). opened_as o text s) is ∙ ap (λ (t : TextSaid). links_opened t s) same

pub opened_none : (text said : TextSaid) (s : State) (found : Option ℕ) (made : Content) → text ≡ said → found ≡ link_on_screen text s 1 → found ≡ None → made ≡ links_page said s → made ≡ links_opened said s
opened_none text said s found made same is none e =
    e ∙ ap (λ (o : Option ℕ). opened_as o said s) (sym none ∙ is ∙ ap (λ (t : TextSaid). link_on_screen t s 1) same)

-- ---- numbers of a text that was read

-- the numbers on the screen, along what is equal; names in the text don't matter
pub numbers_read : (m : Markdown) (source : List ℕ) (s : State) (shown : ℕ × ℕ) (lines : List FmtLine) (starts : List ℕ) (height : ℕ) → shown ≡ sections_shown s → lines ≡ s.laid.lines.items → starts ≡ s.laid.starts.items → height ≡ body_rows s.page
    → link_numbers (links_between m [] shown.0 shown.1) lines starts s.page.top height ≡ link_numbers (links_between m source (sections_shown s).0 (sections_shown s).1) s.laid.lines.items s.laid.starts.items s.page.top (body_rows s.page)
numbers_read m source s shown lines starts height a b c d =
    let between : ℕ × ℕ → LinksIn = λ n. links_between m source n.0 n.1 in
    ap (λ (n : ℕ × ℕ). link_numbers (between n) lines starts s.page.top height) a
    ∙ ap (λ (l : List FmtLine). link_numbers (between (sections_shown s)) l starts s.page.top height) b
    ∙ ap (λ (l : List ℕ). link_numbers (between (sections_shown s)) s.laid.lines.items l s.page.top height) c
    ∙ ap (λ (n : ℕ). link_numbers (between (sections_shown s)) s.laid.lines.items s.laid.starts.items s.page.top n) d
