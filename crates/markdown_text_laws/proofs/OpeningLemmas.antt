-- Which bracket a closing one closes: the nearest that is open.
use Rattle.std.proofs.Common.{◌≡◌, ◌⊎◌, inl, inr, ℕ, zero, suc, ◌+◌, ◌<◌, ◌==◌, ◌&&◌, ◌||◌, not, Bool, true, false, cond, List, [], ◌∷◌, map, take, drop, slice_index, Option, Some, None, refl, sym, ap, subst, ◌∙◌, arith}
use Rattle.std.proofs.lemmas.Bool.{eq-eqb, eqb-true, ne_eqb}
use Rattle.std.specs.List.{list_any, prefix_len}
use Rattle.markdown_brackets.specs.Brackets.{Closed, Reading, closed, closed_with, first_open, is_free, kill, killed, linked_by, nothing_read, target_at, unlinked, without_first}
use Rattle.markdown_brackets.specs.declared.brackets.Open.{Open}
use Rattle.markdown_brackets.specs.declared.targets.Target.{Target}
use Rattle.markdown_marks.specs.Bytes.{first, is_blank_byte}
use Rattle.markdown_spans.specs.declared.code.Code.{Code as CodeFound}
use Rattle.markdown_spans.specs.declared.entities.Escape.{Escape}
use Rattle.markdown_spans.specs.declared.entities.Escape.TheVariants.{Sign as SignEscape, Break as BreakEscape, Itself}
use Rattle.markdown_spans.specs.declared.entities.Entity.{Entity}
use Rattle.markdown_spans.specs.Code.{code_of}
use Rattle.markdown_spans.specs.Entities.{entity_of, escape_of}
use Rattle.markdown_spans.specs.Html.{html_len}
use Rattle.markdown_addresses.specs.declared.bare.Bare.{Bare as BareFound}
use Rattle.markdown_addresses.specs.Addresses.{address_len}
use Rattle.markdown_pieces.specs.declared.pieces.Kind.{Kind}
use Rattle.markdown_pieces.specs.declared.pieces.Kind.TheVariants.{Plain, Shown, Code, Address, Bare, Html, Soft, Hard, Run, Opening, Closing}
use Rattle.markdown_pieces.specs.declared.pieces.Piece.{Piece}
use Rattle.markdown_pieces.specs.Cut.{Step, closing_step, cut_from, opening_step, other_step, read_with, step, step_of}
use Rattle.markdown_pieces.specs.Pieces.{angle_by, bare_if, byte_before, code_by, ends_line, break_piece, entity_by, escape_by, html_by, html_piece, is_hard, piece, piece_at, plain_by, plain_piece}
use Rattle.markdown_inlines.specs.declared.links.Ahead.{Ahead}
use Rattle.markdown_inlines.specs.Links.{links_in, opens_at, overs_from, stepped_back}
use Rattle.markdown_text_laws.specs.Shown.{closes, is_closed}

by_cond : {X : Type 0} (P : X → Type 0) (t : Bool) (x y : X) → P x → P y → P (cond t x y)
by_cond P true x y f g = f
by_cond P false x y f g = g

-- ---- what a piece does to the brackets that are open

-- the brackets that are open, the nearest first, before and behind a piece
abbrev pub Leads : Kind → (index : ℕ) → (before behind : List ℕ) → Type 0
Leads (Opening image) index before behind = behind ≡ index ∷ before
Leads (Closing None) index before behind = behind ≡ drop 1 before
Leads (Closing (Some link)) index before behind = before ≡ link.opener ∷ behind
Leads _ index before behind = behind ≡ before

abbrev pub AreBracketed : (index : ℕ) → List ℕ → List Piece → Type 0
AreBracketed index before [] = Unit {0}
AreBracketed index before (p ∷ ps) = (behind : List ℕ) × Leads p.kind index before behind × AreBracketed (index + 1) behind ps

-- the pieces at which the brackets begin that are open
abbrev pub open_at : Open → ℕ
open_at o = o.bracket.piece

abbrev pub opens_of : Reading → List ℕ
opens_of r = map open_at r.brackets

-- ---- pieces that are no brackets

abbrev IsNoBracket : Kind → Type 0
IsNoBracket (Opening image) = ⊥
IsNoBracket (Closing link) = ⊥
IsNoBracket _ = Unit {0}

abbrev HasNone : Piece → Type 0
HasNone p = IsNoBracket p.kind

none_code : (rest : List ℕ) (o : Option CodeFound) → HasNone (code_by rest o)
none_code rest None = tt
none_code rest (Some code) = tt

none_escape : (e : Escape) → HasNone (escape_by e)
none_escape (SignEscape b) = tt
none_escape BreakEscape = tt
none_escape Itself = tt

none_entity : (o : Option Entity) → HasNone (entity_by o)
none_entity None = tt
none_entity (Some entity) = tt

none_html : (after : List ℕ) (o : Option ℕ) → HasNone (html_by after o)
none_html after None = tt
none_html after (Some len) = tt

none_html_piece : (after : List ℕ) → HasNone (html_piece after)
unfolding html_piece
none_html_piece after = none_html after (html_len after)

none_angle : (after : List ℕ) (o : Option ℕ) → HasNone (angle_by after o)
none_angle after None = none_html_piece after
none_angle after (Some len) = tt

none_plain : (o : Option BareFound) (free : Bool) (b : ℕ) (rest : List ℕ) → HasNone (plain_by o free b rest)
none_plain None free b rest = tt
none_plain (Some bare) free b rest = tt

none_plain_piece : (free : Bool) (before : Option ℕ) (b : ℕ) (rest : List ℕ) → HasNone (plain_piece free before b rest)
unfolding plain_piece
none_plain_piece free before b rest = none_plain (bare_if free before rest) free b rest

none_break : (rest : List ℕ) → HasNone (break_piece rest)
none_break rest =
    let blanks = prefix_len is_blank_byte rest in by_cond HasNone (is_hard rest blanks) (piece Hard blanks) (piece Soft blanks) tt tt

none_at : (free : Bool) (text : List ℕ) (at : ℕ) (rest : List ℕ) → HasNone (piece_at free text at rest)
unfolding piece_at
none_at free text at rest =
    let b = slice_index text at in
    by_cond HasNone (b == 96) _ _ (none_code rest (code_of rest))
    (by_cond HasNone (b == 42) _ _ tt
    (by_cond HasNone (b == 95) _ _ tt
    (by_cond HasNone (b == 126) _ _ tt
    (by_cond HasNone (b == 92) _ _ (none_escape (escape_of (drop 1 rest)))
    (by_cond HasNone (b == 38) _ _ (none_entity (entity_of (drop 1 rest)))
    (by_cond HasNone (b == 60) _ _ (none_angle (drop 1 rest) (address_len (drop 1 rest)))
    (by_cond HasNone (ends_line rest) _ _ (none_break rest) (none_plain_piece free (byte_before text at) b rest))))))))

-- ---- a step

abbrev LeadsOn : ℕ → Reading → Step → Type 0
LeadsOn index r s = Leads s.piece.kind index (opens_of r) (opens_of s.reading)

other_leads : (kind : Kind) (more index : ℕ) (r : Reading) → IsNoBracket kind → LeadsOn index r (step_of (piece kind more) index r)
other_leads Plain more index r h = refl
other_leads (Shown c second) more index r h = refl
other_leads (Code code) more index r h = refl
other_leads (Address len scheme) more index r h = refl
other_leads (Bare scheme) more index r h = refl
other_leads (Html html) more index r h = refl
other_leads Soft more index r h = refl
other_leads Hard more index r h = refl
other_leads (Run run) more index r h = refl
other_leads (Opening image) more index r h = absurd h
other_leads (Closing link) more index r h = absurd h

killed_opens : (os : List Open) → map open_at (map kill os) ≡ map open_at os
killed_opens [] = refl
killed_opens (o ∷ os) = ap (λ (xs : List ℕ). open_at o ∷ xs) (killed_opens os)

linked_opens : (image : Bool) (r : Reading) → opens_of (killed image r) ≡ opens_of r
linked_opens true r = refl
linked_opens false r = killed_opens r.brackets

linked_leads : (index : ℕ) (o : Open) (os : List Open) (target : Option Target) (r next : Reading) → r.brackets ≡ o ∷ os → next.brackets ≡ os → LeadsOn index r (closing_step (linked_by o.bracket target next))
linked_leads index o os None r next e f = ap (λ (bs : List Open). map open_at bs) f ∙ ap (λ (bs : List Open). drop 1 (map open_at bs)) (sym e)
linked_leads index o os (Some t) r next e f =
    ap (λ (bs : List Open). map open_at bs) e ∙ ap (λ (bs : List Open). open_at o ∷ map open_at bs) (sym f) ∙ ap (λ (xs : List ℕ). open_at o ∷ xs) (sym (linked_opens o.bracket.image (record { brackets = next.brackets; runs = take o.bracket.runs next.runs; pairs = _ })))

closed_leads : (labels : List (List ℕ)) (text : List ℕ) (after index : ℕ) (r : Reading) (bs : List Open) → r.brackets ≡ bs → LeadsOn index r (closing_step (closed_with labels text after (first_open bs) (without_first r)))
closed_leads labels text after index r [] e = ap (λ (os : List Open). map open_at (drop 1 os)) e ∙ ap (λ (os : List Open). drop 1 (map open_at os)) (sym e)
closed_leads labels text after index r (o ∷ os) e =
    let f : (without_first r).brackets ≡ os = ap (λ (bs : List Open). drop 1 bs) e in
    by_cond (λ (c : Closed). LeadsOn index r (closing_step c)) (o.dead && not o.bracket.image) (unlinked (without_first r)) (linked_by o.bracket (target_at labels text o.bracket.at after) (without_first r))
    (linked_leads index o os None r (without_first r) e f) (linked_leads index o os (target_at labels text o.bracket.at after) r (without_first r) e f)

read_leads : (b : ℕ) (labels : List (List ℕ)) (text : List ℕ) (at index : ℕ) (r : Reading) (rest : List ℕ) → LeadsOn index r (read_with b labels text at index r rest)
read_leads b labels text at index r rest =
    by_cond (LeadsOn index r) (b == 91) (opening_step false (at + 1) index 0 r) _ refl
    (by_cond (LeadsOn index r) ((b == 33) && (first (drop (at + 1) text) == 91)) (opening_step true (at + 2) index 1 r) _ refl
    (by_cond (LeadsOn index r) (b == 93) (closing_step (closed labels text (at + 1) r)) (other_step text at index r rest) (closed_leads labels text (at + 1) index r r.brackets refl)
    (other_leads (piece_at (is_free r.brackets) text at rest).kind (piece_at (is_free r.brackets) text at rest).more index r (none_at (is_free r.brackets) text at rest))))

step_leads : (labels : List (List ℕ)) (text : List ℕ) (at index : ℕ) (r : Reading) (rest : List ℕ) → LeadsOn index r (step labels text at index r rest)
unfolding step
step_leads labels text at index r rest = read_leads (slice_index text at) labels text at index r rest

-- the pieces of a text open and close brackets so
cut_bracketed : (labels : List (List ℕ)) (text : List ℕ) (skip at index : ℕ) (r : Reading) (rest : List ℕ) → AreBracketed index (opens_of r) (cut_from labels text skip at index r rest).pieces
unfolding cut_from
cut_bracketed labels text skip at index r [] = tt
cut_bracketed labels text zero at index r (b ∷ bs) =
    let s = step labels text at index r (b ∷ bs) in
    (opens_of s.reading, step_leads labels text at index r (b ∷ bs), cut_bracketed labels text s.piece.more (at + 1) (index + 1) s.reading bs)
cut_bracketed labels text (suc skip) at index r (b ∷ bs) = cut_bracketed labels text skip (at + 1) index r bs

-- ---- the links and images that are ahead

-- the pieces at which they begin
abbrev begins_of : List Ahead → List ℕ
begins_of ahead = map (λ (a : Ahead). a.opener) ahead

abbrev pub ahead_of : (index number : ℕ) → List Piece → List Ahead
ahead_of index number ps = (overs_from index number ps).ahead

abbrev has : ℕ → List ℕ → Bool
has k xs = list_any (λ x. x == k) xs

-- some of these numbers, in their order
abbrev AreOf : List ℕ → List ℕ → Type 0
AreOf [] ys = Unit {0}
AreOf (x ∷ xs) [] = ⊥
AreOf (x ∷ xs) (y ∷ ys) = ((x ≡ y) × AreOf xs ys) ⊎ AreOf (x ∷ xs) ys

of_more : (xs : List ℕ) (y : ℕ) (ys : List ℕ) → AreOf xs ys → AreOf xs (y ∷ ys)
of_more [] y ys h = tt
of_more (x ∷ xs) y ys h = inr h

of_tail : (x : ℕ) (xs ys : List ℕ) → AreOf (x ∷ xs) ys → AreOf xs ys
of_tail x xs [] h = absurd h
of_tail x xs (y ∷ ys) (inl h) = of_more xs y ys h.1
of_tail x xs (y ∷ ys) (inr h) = of_more xs y ys (of_tail x xs ys h)

of_dropped : (xs ys : List ℕ) → AreOf xs (drop 1 ys) → AreOf xs ys
of_dropped xs [] h = h
of_dropped xs (y ∷ ys) h = of_more xs y ys h

-- all of these numbers are below one
abbrev pub AllBelow : ℕ → List ℕ → Type 0
AllBelow n [] = Unit {0}
AllBelow n (x ∷ xs) = (x < n) × AllBelow n xs

below_more : (n : ℕ) (xs : List ℕ) → AllBelow n xs → AllBelow (n + 1) xs
below_more n [] h = tt
below_more n (x ∷ xs) h = (omega (arith, h.0), below_more n xs h.1)

below_dropped : (n : ℕ) (xs : List ℕ) → AllBelow n xs → AllBelow n (drop 1 xs)
below_dropped n [] h = tt
below_dropped n (x ∷ xs) h = h.1

-- none of these numbers is one that is above them all
of_below : (n : ℕ) (xs ys : List ℕ) → AreOf xs ys → AllBelow n ys → has n xs ≡ false
of_below n [] ys h k = refl
of_below n (x ∷ xs) [] h k = absurd h
of_below n (x ∷ xs) (y ∷ ys) (inl h) k =
    neither (x == n) (has n xs) (ne_eqb x n (λ e. let less : y < n = k.0 in let same : x ≡ y = h.0 in omega (arith, less, same, e))) (of_below n xs ys h.1 k.1)
  where
    neither : (p q : Bool) → p ≡ false → q ≡ false → (p || q) ≡ false
    neither true q e f = e
    neither false q e f = f
of_below n (x ∷ xs) (y ∷ ys) (inr h) k = of_below n (x ∷ xs) ys h k.1

-- ---- where a bracket begins a link or an image

opened_of : (index : ℕ) (before : List ℕ) (ahead : List Ahead) → AreOf (begins_of ahead) (index ∷ before) → AreOf (begins_of (cond (opens_at index ahead) (drop 1 ahead) ahead)) before
opened_of index before [] h = tt
opened_of index before (a ∷ others) (inl h) =
    let same : (a.opener == index) ≡ true = eq-eqb a.opener index h.0 in
    subst (λ (t : Bool). AreOf (begins_of (cond t others (a ∷ others))) before) (sym same) h.1
opened_of index before (a ∷ others) (inr h) = either (a.opener == index)
  where
    either : (t : Bool) → AreOf (begins_of (cond t others (a ∷ others))) before
    either true = of_tail a.opener (begins_of others) before h
    either false = h

-- the links that are ahead begin at brackets that are open
ahead_opens : (index number : ℕ) (before : List ℕ) (ps : List Piece) → AreBracketed index before ps → AreOf (begins_of (ahead_of index number ps)) before
unfolding overs_from
ahead_opens index number before [] h = tt
ahead_opens index number before (p ∷ ps) h = by_kind p.kind h.0 h.1 (ahead_opens (index + 1) (number + links_in p.kind) h.0 ps h.2)
  where
    ahead : List Ahead
    ahead = ahead_of (index + 1) (number + links_in p.kind) ps

    by_kind : (kind : Kind) (behind : List ℕ) → Leads kind index before behind → AreOf (begins_of ahead) behind → AreOf (begins_of (stepped_back index number kind ahead)) before
    by_kind (Opening image) behind e k = opened_of index before ahead (subst (λ (ys : List ℕ). AreOf (begins_of ahead) ys) e k)
    by_kind (Closing None) behind e k = of_dropped (begins_of ahead) before (subst (λ (ys : List ℕ). AreOf (begins_of ahead) ys) e k)
    by_kind (Closing (Some link)) behind e k = subst (λ (ys : List ℕ). AreOf (link.opener ∷ begins_of ahead) ys) (sym e) (inl (refl, k))
    by_kind Plain behind e k = subst (λ (ys : List ℕ). AreOf (begins_of ahead) ys) e k
    by_kind (Shown c second) behind e k = subst (λ (ys : List ℕ). AreOf (begins_of ahead) ys) e k
    by_kind (Code code) behind e k = subst (λ (ys : List ℕ). AreOf (begins_of ahead) ys) e k
    by_kind (Address len scheme) behind e k = subst (λ (ys : List ℕ). AreOf (begins_of ahead) ys) e k
    by_kind (Bare scheme) behind e k = subst (λ (ys : List ℕ). AreOf (begins_of ahead) ys) e k
    by_kind (Html html) behind e k = subst (λ (ys : List ℕ). AreOf (begins_of ahead) ys) e k
    by_kind Soft behind e k = subst (λ (ys : List ℕ). AreOf (begins_of ahead) ys) e k
    by_kind Hard behind e k = subst (λ (ys : List ℕ). AreOf (begins_of ahead) ys) e k
    by_kind (Run run) behind e k = subst (λ (ys : List ℕ). AreOf (begins_of ahead) ys) e k

-- a bracket in front of all these pieces is not the one that begins at one of them
opened_has : (k index : ℕ) (ahead : List Ahead) → k < index → has k (begins_of (cond (opens_at index ahead) (drop 1 ahead) ahead)) ≡ has k (begins_of ahead)
opened_has k index [] h = refl
opened_has k index (a ∷ others) h = either (a.opener == index) refl
  where
    either : (t : Bool) → (a.opener == index) ≡ t → has k (begins_of (cond t others (a ∷ others))) ≡ has k (begins_of (a ∷ others))
    either true e = let same = eqb-true a.opener index e in let other : (a.opener == k) ≡ false = ne_eqb a.opener k (λ f. omega (arith, same, f, h)) in sym (ap (λ (t : Bool). t || has k (begins_of others)) other)
    either false e = refl

-- a link or image that is ahead is one that a piece closes
ahead_closed : (k index number : ℕ) (ps : List Piece) → k < index → has k (begins_of (ahead_of index number ps)) ≡ is_closed k ps
unfolding overs_from
ahead_closed k index number [] h = refl
ahead_closed k index number (p ∷ ps) h = by_kind p.kind (ahead_closed k (index + 1) (number + links_in p.kind) ps (omega (arith, h)))
  where
    ahead : List Ahead
    ahead = ahead_of (index + 1) (number + links_in p.kind) ps

    by_kind : (kind : Kind) → has k (begins_of ahead) ≡ is_closed k ps → has k (begins_of (stepped_back index number kind ahead)) ≡ (closes k kind || is_closed k ps)
    by_kind (Opening image) e = opened_has k index ahead h ∙ e
    by_kind (Closing None) e = e
    by_kind (Closing (Some link)) e = ap (λ (t : Bool). (link.opener == k) || t) e
    by_kind Plain e = e
    by_kind (Shown c second) e = e
    by_kind (Code code) e = e
    by_kind (Address len scheme) e = e
    by_kind (Bare scheme) e = e
    by_kind (Html html) e = e
    by_kind Soft e = e
    by_kind Hard e = e
    by_kind (Run run) e = e

nearest_has : (index : ℕ) (before : List ℕ) (ahead : List Ahead) → AreOf (begins_of ahead) (index ∷ before) → AllBelow index before → opens_at index ahead ≡ has index (begins_of ahead)
nearest_has index before [] h k = refl
nearest_has index before (a ∷ others) (inl h) k = let same = eq-eqb a.opener index h.0 in same ∙ sym (ap (λ (t : Bool). t || has index (begins_of others)) same)
nearest_has index before (a ∷ others) (inr h) k =
    let none = of_below index (a.opener ∷ begins_of others) before h k in first_no (a.opener == index) (has index (begins_of others)) none ∙ sym none
  where
    first_no : (p q : Bool) → (p || q) ≡ false → p ≡ false
    first_no true q e = e
    first_no false q e = refl

-- a bracket begins a link or an image exactly where a piece behind it closes it
pub opens_where : (index number : ℕ) (before : List ℕ) (ps : List Piece) → AreBracketed (index + 1) (index ∷ before) ps → AllBelow index before → opens_at index (ahead_of (index + 1) number ps) ≡ is_closed index ps
opens_where index number before ps h k =
    nearest_has index before (ahead_of (index + 1) number ps) (ahead_opens (index + 1) number (index ∷ before) ps h) k ∙ ahead_closed index (index + 1) number ps (omega arith)

-- brackets that are open begin before this index
pub leads_below : (kind : Kind) (index : ℕ) (before behind : List ℕ) → Leads kind index before behind → AllBelow index before → AllBelow (index + 1) behind
leads_below (Opening image) index before behind e k = subst (λ (xs : List ℕ). AllBelow (index + 1) xs) (sym e) (omega arith, below_more index before k)
leads_below (Closing None) index before behind e k = subst (λ (xs : List ℕ). AllBelow (index + 1) xs) (sym e) (below_more index (drop 1 before) (below_dropped index before k))
leads_below (Closing (Some link)) index before behind e k = let both = subst (λ (xs : List ℕ). AllBelow index xs) e k in below_more index behind both.1
leads_below Plain index before behind e k = subst (λ (xs : List ℕ). AllBelow (index + 1) xs) (sym e) (below_more index before k)
leads_below (Shown c second) index before behind e k = subst (λ (xs : List ℕ). AllBelow (index + 1) xs) (sym e) (below_more index before k)
leads_below (Code code) index before behind e k = subst (λ (xs : List ℕ). AllBelow (index + 1) xs) (sym e) (below_more index before k)
leads_below (Address len scheme) index before behind e k = subst (λ (xs : List ℕ). AllBelow (index + 1) xs) (sym e) (below_more index before k)
leads_below (Bare scheme) index before behind e k = subst (λ (xs : List ℕ). AllBelow (index + 1) xs) (sym e) (below_more index before k)
leads_below (Html html) index before behind e k = subst (λ (xs : List ℕ). AllBelow (index + 1) xs) (sym e) (below_more index before k)
leads_below Soft index before behind e k = subst (λ (xs : List ℕ). AllBelow (index + 1) xs) (sym e) (below_more index before k)
leads_below Hard index before behind e k = subst (λ (xs : List ℕ). AllBelow (index + 1) xs) (sym e) (below_more index before k)
leads_below (Run run) index before behind e k = subst (λ (xs : List ℕ). AllBelow (index + 1) xs) (sym e) (below_more index before k)

-- the pieces of a text, before which no bracket is open
pub text_bracketed : (labels : List (List ℕ)) (text : List ℕ) → AreBracketed 0 [] (cut_from labels text 0 0 0 nothing_read text).pieces
text_bracketed labels text = cut_bracketed labels text 0 0 0 nothing_read text
