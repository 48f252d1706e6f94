-- An item ends at a line that is indented by less.
use Rattle.std.proofs.Common.{◌≡◌, ◌⊎◌, inl, inr, ℕ, zero, suc, ◌<◌, Bool, true, false, cond, not, ◌&&◌, ◌==◌, List, [], ◌∷◌, ◌++◌, map, length, replicate, Some, None, refl, sym, ap, subst, ◌∙◌, append_assoc, append-nil, arith}
use Rattle.std.proofs.lemmas.Bool.{and_left, and_parts, ne_eqb, not-true, or_parts}
use Rattle.std.proofs.lemmas.List.{map-append}
use Rattle.std.specs.List.{list_all}
use Rattle.markdown_marks.specs.Bytes.{is_blank}
use Rattle.markdown_marks.specs.Remaining.{Remaining, columns_in_front, further, one_column, take_columns, whole}
use Rattle.markdown_marks.specs.declared.items.Marker.{Marker}
use Rattle.markdown_blocks.specs.Containers.{goes_on}
use Rattle.markdown_blocks.specs.Events.{Event, enter, leave, line, step_events, events_from}
use Rattle.markdown_blocks.specs.Leaves.{is_bare, is_paragraph}
use Rattle.markdown_blocks.specs.Lines.{text_lines}
use Rattle.markdown_blocks.specs.Steps.{State, Step, step}
use Rattle.markdown_blocks.specs.declared.containers.Container.{Container}
use Rattle.markdown_blocks.specs.declared.containers.Container.TheVariants.{Item}
use Rattle.markdown_blocks.specs.declared.leaves.Deed.TheVariants.{Blank}
use Rattle.markdown_blocks.proofs.AlikeLemmas.{at}
use Rattle.markdown_blocks.proofs.ApartLemmas.{step_apart}
use Rattle.markdown_blocks.proofs.BareLemmas.{is_loose_bare, step_bare}
use Rattle.markdown_blocks.proofs.FirstLemmas.{IsFull, are_signs, first_full, item_bare}
use Rattle.markdown_blocks.proofs.WithinLemmas.{at_first}
use Rattle.markdown_leaves.specs.Gather.{Gathering, closed, left_in, line_done, nothing_told}
use Rattle.markdown_leaves.specs.Parts.{PartContent, begins, ends}
use Rattle.markdown_leaves.specs.Told.{happened, parts_of, told}
use Rattle.markdown_leaves.specs.declared.parts.Kind.{Kind}
use Rattle.markdown_leaves.specs.declared.parts.Kind.TheVariants.{Nothing}
use Rattle.markdown_laws.specs.Items.{AreIndented, BeginsItem, begins_text}
use Rattle.markdown_laws.specs.Quotes.{has_no_tab, has_room, spelled}
use Rattle.markdown_laws.proofs.AroundLemmas.{closed_under, fits_from, told_under, under}
use Rattle.markdown_laws.proofs.BehindLemmas.{behind, closed_behind, told_behind}
use Rattle.markdown_laws.proofs.FenceLemmas.{ended, ended_behind, read_of}
use Rattle.markdown_laws.proofs.FlatLemmas.{flat_event, spelled_flat}
use Rattle.markdown_laws.proofs.FreshLemmas.{told_same}
use Rattle.markdown_laws.proofs.HeldLemmas.{AllGoOn, behind_lines, begun_in, ended_flat, fits_flat, no_tabs, told_then}
use Rattle.markdown_laws.proofs.ItemLemmas.{goes, item_begins}
use Rattle.markdown_laws.proofs.LineLemmas.{blank_outside}
use Rattle.markdown_laws.proofs.RoomLemmas.{rooms_of}
use Rattle.markdown_sign_laws.specs.ItemEnds.{ItemEndsBehindBlock, BeginsLess, IsLess, ItemEndsAtLess, item_then}
use Rattle.markdown_sign_laws.specs.Words.{is_space_or_tab}
use Rattle.markdown_sign_laws.proofs.ClosedLemmas.{none_open}
use Rattle.markdown_sign_laws.proofs.LastLeafLemmas.{none_open_behind}
use Rattle.markdown_sign_laws.specs.Ends.{EndsInBlock}
use Rattle.markdown_sign_laws.proofs.EndLemmas.{IsAfter, container_ends}
use Rattle.markdown_sign_laws.proofs.IdleLemmas.{closed_kind}
use Rattle.markdown_sign_laws.proofs.OpenLemmas.{idle, opens, opens_flat, opens_from, same_parts}
use Rattle.markdown_sign_laws.proofs.QuoteLemmas.{no_around, not_fresh, spelled_back, told_of}
use Rattle.markdown_sign_laws.proofs.TextLemmas.{line_cut}

-- ---- a line with less

-- fewer spaces are fewer columns
less_columns : (spaces most column b : ℕ) (bs : List ℕ) → spaces < most → is_space_or_tab b ≡ false → columns_in_front most (at column (replicate spaces 32 ++ b ∷ bs)) ≡ spaces
unfolding columns_in_front one_column
less_columns spaces zero column b bs fewer solid = absurd (omega (arith, fewer))
less_columns zero (suc most) column b bs fewer solid = let no = or_parts (b == 32) (b == 9) solid in rw no.0 (rw no.1 refl)
less_columns (suc spaces) (suc most) column b bs fewer solid = omega (arith, less_columns spaces most (further 1 column) b bs (omega (arith, fewer)) solid)

less_solid : (spaces b : ℕ) (bs : List ℕ) → is_space_or_tab b ≡ false → is_blank (replicate spaces 32 ++ b ∷ bs) ≡ false
unfolding is_blank
less_solid zero b bs solid = and_left (is_space_or_tab b) (list_all is_space_or_tab bs) solid
less_solid (suc spaces) b bs solid = less_solid spaces b bs solid

none_on : (blank full bare : Bool) (rest : Remaining) → blank ≡ false → full ≡ false → cond blank (cond bare None (Some rest)) (cond full (Some rest) None) ≡ None
none_on blank full bare rest e f = rw e (rw f refl)

off_less : (sign number content : ℕ) (bare : Bool) (text : List ℕ) → IsLess content text → goes_on (Item sign number content) bare (whole text) ≡ None
unfolding goes_on
off_less sign number content bare text l =
    none_on (is_blank text) (columns_in_front content (whole text) == content) bare (take_columns content (whole text))
    (ap is_blank l.whole ∙ less_solid l.spaces l.byte l.behind l.solid)
    (ap (λ (xs : List ℕ). columns_in_front content (whole xs) == content) l.whole ∙ ap (λ (n : ℕ). n == content) (less_columns l.spaces content 0 l.byte l.behind l.fewer l.solid) ∙ ne_eqb l.spaces content (λ e. omega (arith, e, l.fewer)))

is_after : (sign number content : ℕ) (state : State) (after : List (List ℕ)) → is_paragraph state.leaf ≡ false → BeginsLess content after → IsAfter (Item sign number content) state after
is_after sign number content state [] e h = tt
is_after sign number content state (text ∷ texts) e h =
    step_apart (Item sign number content) state text (off_less sign number content (is_bare state.leaf && (length state.containers == 0)) text h) e

-- ---- the lines of an item

all_go_on : (sign number content : ℕ) (lines held : List (List ℕ)) (state : State) → is_loose_bare state ≡ false → AreIndented content lines held → list_all has_no_tab held ≡ true
    → AllGoOn (Item sign number content) state lines held
all_go_on sign number content [] [] state bare i h = tt
all_go_on sign number content (text ∷ texts) (one ∷ held) state bare i h =
    let both = and_parts (has_no_tab one) (list_all has_no_tab held) h in
    let found = goes sign number content text one i.0 (no_tabs one both.0) in (
      (found.rest, ap (λ (t : Bool). goes_on (Item sign number content) t (whole text)) bare ∙ found.on, found.alike),
      all_go_on sign number content texts held (step state one).state (step_bare state one bare) i.1 both.1,
    )
all_go_on sign number content [] (one ∷ held) state bare i h = absurd i
all_go_on sign number content (text ∷ texts) [] state bare i h = absurd i

-- ---- what is told

and_true : (t : Bool) → (t && true) ≡ t
and_true true = refl
and_true false = refl

-- the parts of an item in front
abbrev holding : (sign number content : ℕ) → List PartContent → List PartContent
holding sign number content parts = begins (Item sign number content) false ∷ parts

-- an item ends
abbrev item_left : (sign number content : ℕ) → Gathering → Gathering
item_left sign number content g = left_in (behind (begins (Item sign number content) false ∷ []) (under (Item sign number content) g))

left_idle : (sign number content : ℕ) (g : Gathering) → g.kind ≡ Nothing → g.around ≡ [] → g.fresh ≡ false
    → item_left sign number content g ≡ idle (holding sign number content g.parts ++ ends ∷ []) g.apart g.lines g.passed false []
left_idle sign number content g kind around fresh =
    ap (λ (k : Kind). item_left sign number content (record g { kind = k })) kind
    ∙ ap (λ (a : List Container). item_left sign number content (record g { kind = Nothing; around = a })) around
    ∙ ap (λ (f : Bool). item_left sign number content (record g { kind = Nothing; around = []; fresh = f })) fresh
    ∙ ap (λ (p : Bool). idle (holding sign number content g.parts ++ ends ∷ []) g.apart g.lines p false []) (and_true g.passed)

-- behind an empty line nothing is open
abbrev passing : Gathering
passing = idle [] false [] true false []

passed_behind : (parts : List PartContent) (others : List Event) → ended (idle parts false [] true false []) others ≡ parts ++ ended passing others
passed_behind parts others =
    ap (λ (ps : List PartContent). ended (idle ps false [] true false []) others) (sym (append-nil parts))
    ∙ ap (λ (g : Gathering). (closed g).parts) (told_behind others parts passing)
    ∙ ap (λ (g : Gathering). g.parts) (closed_behind parts (told passing others))

-- what is told behind an item, by whether blank lines passed
abbrev told_after : Bool → List Event → List PartContent
told_after true others = ended passing others
told_after false others = ended nothing_told others

after_by : (t : Bool) (parts : List PartContent) (others : List Event) → ended (idle parts false [] t false []) others ≡ parts ++ told_after t others
after_by true parts others = passed_behind parts others
after_by false parts others = ended_behind parts others

rest_told : (sign number content : ℕ) (g : Gathering) (others : List Event) → g.kind ≡ Nothing → g.around ≡ [] → g.fresh ≡ false → opens others ≡ true
    → ended (item_left sign number content g) others ≡ holding sign number content (g.parts ++ ends ∷ told_after g.passed others)
rest_told sign number content g others kind around fresh h =
    let parts = holding sign number content g.parts in
    ap (λ (x : Gathering). ended x others) (left_idle sign number content g kind around fresh)
    ∙ same_parts others (parts ++ ends ∷ []) g.apart g.lines g.passed false [] h
    ∙ after_by g.passed (parts ++ ends ∷ []) others
    ∙ append_assoc parts (ends ∷ []) (told_after g.passed others)

entered_first : (sign number content : ℕ) → happened (enter (Item sign number content)) nothing_told ≡ behind (begins (Item sign number content) false ∷ []) (under (Item sign number content) (begun_in (Item sign number content)))
unfolding closed
entered_first sign number content = refl

-- an item is told as the lines that it holds, between its beginning and its end, and then the others
item_told : (sign number content : ℕ) (one : List ℕ) (held : List (List ℕ)) (others : List Event) → IsFull (step at_first one) → opens others ≡ true
    → ended nothing_told (enter (Item sign number content) ∷ (map flat_event (events_from at_first (one ∷ held)) ++ leave ∷ others))
    ≡ holding sign number content ((closed (told_of (one ∷ held))).parts ++ ends ∷ told_after (closed (told_of (one ∷ held))).passed others)
unfolding told
item_told sign number content one held others full h =
    let item = Item sign number content in
    let lines = one ∷ held in
    let events = map flat_event (events_from at_first lines) in
    let front = begins item false ∷ [] in
    ap (λ (g : Gathering). ended g (events ++ leave ∷ others)) (entered_first sign number content)
    ∙ ap (λ (g : Gathering). (closed g).parts) (told_then events (leave ∷ others) (behind front (under item (begun_in item))))
    ∙ ap (λ (g : Gathering). ended (left_in (closed g)) others) (told_behind events front (under item (begun_in item)))
    ∙ ap (λ (g : Gathering). ended (left_in (closed (behind front g))) others) (told_under item events 0 (begun_in item) refl (fits_flat 0 (events_from at_first lines) ∙ fits_from lines at_first))
    ∙ ap (λ (g : Gathering). ended (left_in (closed (behind front (under item g)))) others) (told_same item one held full)
    ∙ ap (λ (g : Gathering). ended (left_in g) others) (closed_behind front (under item (told_of lines)) ∙ ap (behind front) (closed_under item (told_of lines)))
    ∙ rest_told sign number content (closed (told_of lines)) others (closed_kind (told_of lines)) (no_around lines) (not_fresh lines) h

-- ---- the text after it

first_blank : (lines : List (List ℕ)) → events_from at_first ([] ∷ lines) ≡ line Blank (whole []) ∷ events_from at_first lines
unfolding events_from
first_blank lines = ap (λ (s : Step). step_events at_first s ++ events_from s.state lines) (blank_outside 0)

blank_told : (others : List Event) → ended passing others ≡ ended nothing_told (line Blank (whole []) ∷ others)
unfolding told closed line_done
blank_told others = refl

-- behind an empty line what comes after is a text with one in front
spelled_behind : (after : List (List ℕ)) → map spelled (ended passing (map flat_event (events_from at_first after))) ≡ map spelled (ended nothing_told (events_from at_first ([] ∷ after)))
spelled_behind after =
    ap (map spelled) (blank_told (map flat_event (events_from at_first after)) ∙ ap (λ (es : List Event). ended nothing_told (map flat_event es)) (sym (first_blank after)))
    ∙ spelled_back ([] ∷ after)

empty_first : (after : List ℕ) → text_lines (10 ∷ after) ≡ [] ∷ text_lines after
empty_first after = line_cut (10 ∷ after) [] after (record { plain = refl; end = 10 ∷ []; ends = inl refl; whole = refl })

read_empty : (after : List ℕ) → map spelled (parts_of (10 ∷ after)) ≡ map spelled (ended nothing_told (events_from at_first ([] ∷ text_lines after)))
read_empty after = ap (map spelled) (read_of (10 ∷ after) ∙ ap (λ (ls : List (List ℕ)). ended nothing_told (events_from at_first ls)) (empty_first after))

-- ---- the law

-- the parts of an item, and those after it
abbrev with_rest : (marker : Marker) (content : ℕ) (inner others : List PartContent) → List PartContent
with_rest marker content inner others = begins (Item marker.sign marker.number content) false ∷ (inner ++ ends ∷ others)

by_passed : (t : Bool) (all inner : List PartContent) (after : List ℕ) (marker : Marker) (content : ℕ)
    → all ≡ with_rest marker content inner (map spelled (told_after t (map flat_event (events_from at_first (text_lines after)))))
    → (all ≡ item_then marker content inner (10 ∷ after)) ⊎ (all ≡ item_then marker content inner after)
by_passed true all inner after marker content e = inl (e ∙ ap (with_rest marker content inner) (spelled_behind (text_lines after) ∙ sym (read_empty after)))
by_passed false all inner after marker content e = inr (e ∙ ap (with_rest marker content inner) (spelled_back (text_lines after) ∙ ap (map spelled) (sym (read_of after))))

item_lines : (first one : List ℕ) (lines held after : List (List ℕ)) (marker : Marker) (content : ℕ) → BeginsItem first one marker content → AreIndented content lines held → begins_text one ≡ true
    → list_all has_no_tab (one ∷ held) ≡ true → has_room 63 (ended nothing_told (events_from at_first (one ∷ held))) ≡ true
    → IsAfter (Item marker.sign marker.number content) (behind_lines at_first (one ∷ held)) after
    → map spelled (ended nothing_told (events_from at_first (first ∷ (lines ++ after))))
    ≡ with_rest marker content (map spelled (ended nothing_told (events_from at_first (one ∷ held)))) (map spelled (told_after (closed (told_of (one ∷ held))).passed (map flat_event (events_from at_first after))))
item_lines first [] lines held after marker content b i full h room behind = let no : false ≡ true = full in absurd (cc)
item_lines first (c ∷ cs) lines held after marker content b i full h room behind =
    let item = Item marker.sign marker.number content in
    let both = and_parts (has_no_tab (c ∷ cs)) (list_all has_no_tab held) h in
    let tabs = no_tabs (c ∷ cs) both.0 in
    let text = and_parts (not (c == 32)) (not (are_signs (c ∷ cs))) full in
    let filled = first_full (c ∷ cs) tabs (not-true (are_signs (c ∷ cs)) text.1) in
    let found = item_begins first c cs marker content b (not-true (c == 32) text.0) tabs in
    let done = step at_first (c ∷ cs) in
    let outer = events_from at_first (first ∷ (lines ++ after)) in
    let inner = events_from at_first ((c ∷ cs) ∷ held) in
    let others = map flat_event (events_from at_first after) in
    let rest = told_after (closed (told_of ((c ∷ cs) ∷ held))).passed others in
    let happens = container_ends item first (c ∷ cs) lines held after (record { rest = found.rest; starts = found.starts; alike = found.alike; bare = item_bare done marker.sign marker.number content filled })
    (all_go_on marker.sign marker.number content lines held done.state (step_bare at_first (c ∷ cs) refl) i both.1) (rooms_of inner 63 nothing_told refl room) behind in
    sym (spelled_flat (ended nothing_told outer))
    ∙ ap (map spelled) (ended_flat outer ∙ ap (ended nothing_told) happens ∙ item_told marker.sign marker.number content (c ∷ cs) held others filled (opens_flat (events_from at_first after) ∙ opens_from after at_first refl))
    ∙ ap (λ (ps : List PartContent). begins item false ∷ ps) (map-append spelled (ended nothing_told (map flat_event inner)) (ends ∷ rest))
    ∙ ap (λ (ps : List PartContent). with_rest marker content ps (map spelled rest)) (spelled_back ((c ∷ cs) ∷ held))

-- an item ends at a line with less, where no paragraph is open behind its lines
ends_by : (text held after first one : List ℕ) (lines others : List (List ℕ)) (marker : Marker) (content : ℕ) → text_lines text ≡ first ∷ (lines ++ text_lines after) → text_lines held ≡ one ∷ others
    → BeginsItem first one marker content → AreIndented content lines others → begins_text one ≡ true → list_all has_no_tab (text_lines held) ≡ true → has_room 63 (parts_of held) ≡ true
    → is_paragraph (behind_lines at_first (text_lines held)).leaf ≡ false → BeginsLess content (text_lines after)
    → (map spelled (parts_of text) ≡ item_then marker content (map spelled (parts_of held)) (10 ∷ after)) ⊎ (map spelled (parts_of text) ≡ item_then marker content (map spelled (parts_of held)) after)
ends_by text held after first one lines others marker content are holds b i full h room none less =
    let read : ended nothing_told (events_from at_first (one ∷ others)) ≡ parts_of held = ap (λ (ls : List (List ℕ)). ended nothing_told (events_from at_first ls)) (sym holds) ∙ sym (read_of held) in
    let closed_last : is_paragraph (behind_lines at_first (one ∷ others)).leaf ≡ false = ap (λ (ls : List (List ℕ)). is_paragraph (behind_lines at_first ls).leaf) (sym holds) ∙ none in
    let told_rest = told_after (closed (told_of (one ∷ others))).passed (map flat_event (events_from at_first (text_lines after))) in
    by_passed (closed (told_of (one ∷ others))).passed (map spelled (parts_of text)) (map spelled (parts_of held)) after marker content
    (ap (map spelled) (read_of text ∙ ap (λ (ls : List (List ℕ)). ended nothing_told (events_from at_first ls)) are)
    ∙ item_lines first one lines others (text_lines after) marker content b i full (ap (list_all has_no_tab) (sym holds) ∙ h) (ap (has_room 63) read ∙ room)
    (is_after marker.sign marker.number content (behind_lines at_first (one ∷ others)) (text_lines after) closed_last less)
    ∙ ap (λ (ps : List PartContent). with_rest marker content (map spelled ps) (map spelled told_rest)) read)

-- so it is where its last line is blank
pub ends_at_less : ItemEndsAtLess
ends_at_less text held after first one lines others marker content are holds b i full h room last less =
    ends_by text held after first one lines others marker content are holds b i full h room
    (ap (λ (ls : List (List ℕ)). is_paragraph (behind_lines at_first ls).leaf) last.whole ∙ none_open last.before last.last at_first last.blank) less

-- and where its last leaf is no paragraph
pub item_behind_block : ItemEndsBehindBlock
item_behind_block text held after first one lines others marker content are holds b i full h room last less =
    ends_by text held after first one lines others marker content are holds b i full h room (none_open_behind (text_lines held) (subst EndsInBlock (read_of held) last)) less
