-- Each piece is shown.
use Rattle.std.proofs.Common.{◌≡◌, ℕ, zero, suc, ◌+◌, ◌-◌, Bool, true, false, cond, List, [], ◌∷◌, ◌++◌, map, length, take, drop, slice_index, Some, None, refl, sym, ap, subst, ◌∙◌, append_assoc, arith}
use Rattle.std.proofs.lemmas.List.{append-nil, map-append}
use Rattle.std.proofs.lemmas.List.FromFn.{length-map-range_with_len}
use Rattle.std.specs.List.{range_with_len}
use Rattle.markdown_emphasis.specs.declared.flags.Flags.{Flags}
use Rattle.markdown_emphasis.specs.declared.runs.Pair.{Pair}
use Rattle.markdown_emphasis.specs.Left.{taken_at}
use Rattle.markdown_emphasis.specs.Flags.{flags_at, flags_of}
use Rattle.markdown_brackets.specs.declared.brackets.Link.{Link}
use Rattle.markdown_spans.specs.Code.{unpadded}
use Rattle.markdown_spans.specs.declared.attributes.Html.{Html as HtmlShown}
use Rattle.markdown_spans.specs.declared.attributes.Html.TheVariants.{Nothing, Break, Alternative, Source, On, Off, Link as LinkTag, LinkEnd}
use Rattle.markdown_pieces.specs.declared.pieces.Kind.{Kind}
use Rattle.markdown_pieces.specs.declared.pieces.Kind.TheVariants.{Plain, Shown as ShownKind, Code, Address, Bare, Html, Soft, Hard, Run, Opening, Closing}
use Rattle.markdown_pieces.specs.declared.pieces.Piece.{Piece}
use Rattle.markdown_pieces.specs.Cut.{cut_text}
use Rattle.markdown_inlines.specs.declared.links.Over.{Over}
use Rattle.markdown_inlines.specs.declared.looks.Look.{Look}
use Rattle.markdown_inlines.specs.Inlines.{all_over, char_of, look_at, shown_from}
use Rattle.markdown_inlines.specs.Left.{left_at, marks_of, piece_marks}
use Rattle.markdown_inlines.specs.Links.{is_silent, links_in, over_of, overs_from, overs_of}
use Rattle.markdown_inlines.specs.Tags.{after_piece, no_tags, tagged_from}
use Rattle.markdown_inlines.specs.declared.tags.Tags.{Tags}
use Rattle.markdown_inlines.proofs.TagLemmas.{all_length}
use Rattle.markdown_inlines.specs.Parts.{alternative_text, source_name, html_shown, kind_characters, name_by, name_shown, opening_shown, piece_shown, shown_text, target_name}
use Rattle.markdown_inlines.specs.Styled.{shown_with}
use Rattle.markdown_text_laws.specs.Shown.{AreShown, EachPieceIsShown, bracket, is_closed, shown_of_piece}
use Rattle.markdown_emphasis.proofs.SettleLemmas.{matches_exhaust}
use Rattle.markdown_text_laws.proofs.EnoughLemmas.{enough_marks}
use Rattle.markdown_text_laws.proofs.OpeningLemmas.{AllBelow, AreBracketed, Leads, ahead_of, leads_below, opens_where, text_bracketed}

-- ---- places

zero_more : (m : ℕ) → 0 + m ≡ m
zero_more m = omega arith

suc_more : (n m : ℕ) → suc n + m ≡ suc (n + m)
suc_more n m = omega arith

nil_drop : (n : ℕ) → drop {A = ℕ} n [] ≡ []
nil_drop zero = refl
nil_drop (suc n) = refl

-- behind some bytes and then others
drop_more : (n m : ℕ) (xs : List ℕ) → drop (n + m) xs ≡ drop m (drop n xs)
drop_more zero m xs = ap (λ (k : ℕ). drop k xs) (zero_more m)
drop_more (suc n) m [] = nil_drop (suc n + m) ∙ sym (nil_drop m)
drop_more (suc n) m (x ∷ xs) = ap (λ (k : ℕ). drop k (x ∷ xs)) (suc_more n m) ∙ drop_more n m xs

next_is : (n : ℕ) → n + 1 ≡ suc n
next_is n = omega arith

-- ---- a piece

html_at : (html : HtmlShown) (text : List ℕ) (at : ℕ) → html_shown html text at ≡ html_shown html (drop at text) 0
html_at Nothing text at = refl
html_at Break text at = refl
html_at (Alternative value) text at = ap (λ (tag : List ℕ). shown_text (alternative_text tag value)) (drop_more at 1 text)
html_at (Source value) text at = ap (λ (tag : List ℕ). shown_text (source_name tag value)) (drop_more at 1 text)
html_at (On flag) text at = refl
html_at (Off flag) text at = refl
html_at (LinkTag value) text at = refl
html_at LinkEnd text at = refl

-- what is known of a piece that opens brackets, or is the end of an image with nothing between its brackets
abbrev Knows : (index : ℕ) (behind : List Piece) → Kind → (opens silent : Bool) → Type 0
Knows index behind (Opening image) opens silent = (opens ≡ is_closed index behind) × (silent ≡ false)
Knows index behind kind opens silent = silent ≡ is_silent index kind

image_is : (image opens closed : Bool) → opens ≡ closed → opening_shown image opens ≡ cond closed [] (bracket image)
image_is true opens closed e = ap (λ (t : Bool). cond t [] (bracket true)) e
image_is false opens closed e = ap (λ (t : Bool). cond t [] (bracket false)) e

named : (t : Bool) (link : Link) (text : List ℕ) (at : ℕ) → name_shown t (Closing (Some link)) text at ≡ cond t (shown_text (target_name link.target (drop at text) 1)) []
named true link text at = ap (λ (bs : List ℕ). shown_text (name_by link.target.definition (take link.target.len bs))) (drop_more at 1 text)
named false link text at = refl

-- with no name of a file
unnamed : (kind : Kind) (text : List ℕ) (at : ℕ) (silent : Bool) → silent ≡ false → name_shown silent kind text at ≡ []
unnamed kind text at silent e = ap (λ (t : Bool). name_shown t kind text at) e

alone : (kind : Kind) (text : List ℕ) (at : ℕ) (silent : Bool) (own shown : List ℕ) → silent ≡ false → own ≡ shown → own ++ name_shown silent kind text at ≡ shown
alone kind text at silent own shown e f = ap (λ (cs : List ℕ). own ++ cs) (unnamed kind text at silent e) ∙ append-nil own ∙ f

-- what is shown of a piece at a place
whole_is : (pairs : List Pair) (index : ℕ) (behind : List Piece) (kind : Kind) (text : List ℕ) (at more : ℕ) (opens silent : Bool) → Knows index behind kind opens silent
    → kind_characters kind text at more (marks_of kind - taken_at pairs index) opens ++ name_shown silent kind text at ≡ shown_of_piece pairs index behind kind more (drop at text)
whole_is pairs index behind Plain text at more opens silent h = alone Plain text at silent _ _ h (ap (λ (n : ℕ). shown_text (take n (drop at text))) (next_is more))
whole_is pairs index behind (Bare scheme) text at more opens silent h = alone (Bare scheme) text at silent _ _ h (ap (λ (n : ℕ). shown_text (take n (drop at text))) (next_is more))
whole_is pairs index behind (ShownKind c second) text at more opens silent h = alone (ShownKind c second) text at silent _ _ h refl
whole_is pairs index behind (Code code) text at more opens silent h = alone (Code code) text at silent _ _ h (ap (λ (bs : List ℕ). shown_text (unpadded (take code.len bs))) (drop_more at code.marks text))
whole_is pairs index behind (Address len scheme) text at more opens silent h = alone (Address len scheme) text at silent _ _ h (ap (λ (bs : List ℕ). shown_text (take len bs)) (drop_more at 1 text))
whole_is pairs index behind (Html html) text at more opens silent h = alone (Html html) text at silent _ _ h (html_at html text at)
whole_is pairs index behind Soft text at more opens silent h = alone Soft text at silent _ _ h refl
whole_is pairs index behind Hard text at more opens silent h = alone Hard text at silent _ _ h refl
whole_is pairs index behind (Run run) text at more opens silent h = alone (Run run) text at silent _ _ h refl
whole_is pairs index behind (Opening image) text at more opens silent h = alone (Opening image) text at silent _ _ h.1 (image_is image opens (is_closed index behind) h.0)
whole_is pairs index behind (Closing None) text at more opens silent h = alone (Closing None) text at silent _ _ h refl
whole_is pairs index behind (Closing (Some link)) text at more opens silent h = ap (λ (t : Bool). name_shown t (Closing (Some link)) text at) h ∙ named (is_silent index (Closing (Some link))) link text at

-- ---- brackets

-- so it is of each piece
abbrev AllKnow : (index : ℕ) → List Piece → List Over → Type 0
AllKnow index [] os = Unit {0}
AllKnow index (p ∷ ps) [] = Unit {0}
AllKnow index (p ∷ ps) (o ∷ os) = Knows index ps p.kind o.opens o.silent × AllKnow (index + 1) ps os

-- tags change nothing of that
tagged_know : (from index number : ℕ) (t : Tags) (ps : List Piece) (os : List Over) → AllKnow from ps os → AllKnow from ps (tagged_from index number t ps os)
unfolding tagged_from
tagged_know from index number t [] os h = tt
tagged_know from index number t (p ∷ ps) [] h = tt
tagged_know from index number t (p ∷ ps) (o ∷ os) h = (h.0, tagged_know (from + 1) (index + 1) (number + links_in p.kind) (after_piece number p.kind o t) ps os h.1)

over_knows : (index number : ℕ) (before behind : List ℕ) (ps : List Piece) (kind : Kind) → Leads kind index before behind → AreBracketed (index + 1) behind ps → AllBelow index before
    → Knows index ps kind (over_of index number kind (ahead_of (index + 1) (number + links_in kind) ps)).opens (over_of index number kind (ahead_of (index + 1) (number + links_in kind) ps)).silent
over_knows index number before behind ps (Opening image) e b k = (opens_where index (number + links_in (Opening image)) before ps (subst (λ (xs : List ℕ). AreBracketed (index + 1) xs ps) e b) k, refl)
over_knows index number before behind ps (Closing link) e b k = refl
over_knows index number before behind ps Plain e b k = refl
over_knows index number before behind ps (ShownKind c second) e b k = refl
over_knows index number before behind ps (Code code) e b k = refl
over_knows index number before behind ps (Address len scheme) e b k = refl
over_knows index number before behind ps (Bare scheme) e b k = refl
over_knows index number before behind ps (Html html) e b k = refl
over_knows index number before behind ps Soft e b k = refl
over_knows index number before behind ps Hard e b k = refl
over_knows index number before behind ps (Run run) e b k = refl

overs_know : (index number : ℕ) (before : List ℕ) (ps : List Piece) → AreBracketed index before ps → AllBelow index before → AllKnow index ps (overs_from index number ps).overs
unfolding overs_from
overs_know index number before [] h k = tt
overs_know index number before (p ∷ ps) h k =
    (over_knows index number before h.0 ps p.kind h.1 h.2 k, overs_know (index + 1) (number + links_in p.kind) h.0 ps h.2 (leads_below p.kind index before h.0 h.1 k))

chars_only : (look : Look) (cs : List ℕ) → map char_of (map (shown_with look) cs) ≡ cs
chars_only look [] = refl
chars_only look (c ∷ cs) = ap (λ (ds : List ℕ). c ∷ ds) (chars_only look cs)

-- ---- the marks that are left

index_behind : (before ps : List Piece) (p : Piece) → slice_index (map piece_marks (before ++ p ∷ ps)) (length before) ≡ piece_marks p
index_behind [] ps p = refl
index_behind (b ∷ before) ps p = index_behind before ps p

-- how many marks are left of a piece
left_is : (pairs : List Pair) (before ps : List Piece) (p : Piece) → left_at pairs (before ++ p ∷ ps) (length before) ≡ marks_of p.kind - taken_at pairs (length before)
left_is pairs before ps p = ap (λ (n : ℕ). n - taken_at pairs (length before)) (index_behind before ps p)

longer : (before : List Piece) (p : Piece) → length (before ++ p ∷ []) ≡ length before + 1
longer [] p = omega arith
longer (b ∷ before) p = omega (arith, longer before p)

-- how many marks are left of some pieces, which stand behind others
abbrev lefts : List Pair → (before ps : List Piece) → List ℕ
lefts pairs before ps = map (left_at pairs (before ++ ps)) (range_with_len (length before) (length ps))

lefts_next : (pairs : List Pair) (before ps : List Piece) (p : Piece) → lefts pairs before (p ∷ ps) ≡ left_at pairs (before ++ p ∷ ps) (length before) ∷ lefts pairs (before ++ p ∷ []) ps
lefts_next pairs before ps p =
    ap (λ (n : ℕ). left_at pairs (before ++ p ∷ ps) (length before) ∷ map (left_at pairs (before ++ p ∷ ps)) (range_with_len n (length ps))) (sym (longer before p))
    ∙ ap (λ (all : List Piece). left_at pairs (before ++ p ∷ ps) (length before) ∷ map (left_at pairs all) (range_with_len (length (before ++ p ∷ [])) (length ps))) (sym (append_assoc before (p ∷ []) ps))

-- ---- all pieces

no_more : (n : ℕ) → 0 ≡ suc n → ⊥
no_more n e = omega (arith, e)

same_rest : (n m : ℕ) → suc n ≡ suc m → n ≡ m
same_rest n m e = omega (arith, e)

shown_by : (text : List ℕ) (pairs : List Pair) (before ps : List Piece) (at : ℕ) (fs : List Flags) (os : List Over) → length fs ≡ length ps → length os ≡ length ps → AllKnow (length before) ps os
    → AreShown pairs (length before) (drop at text) ps (map char_of (shown_from text at ps fs (lefts pairs before ps) os))
unfolding shown_from
shown_by text pairs before [] at fs os f o s = refl
shown_by text pairs before (p ∷ ps) at [] os f o s = absurd (no_more (length ps) f)
shown_by text pairs before (p ∷ ps) at (x ∷ fs) [] f o s = absurd (no_more (length ps) o)
shown_by text pairs before (p ∷ ps) at (x ∷ fs) (v ∷ os) f o s =
    let index = length before in
    let n = left_at pairs (before ++ p ∷ ps) index in
    let look = look_at x p v in
    let own = piece_shown text at p n v in
    let here = shown_of_piece pairs index ps p.kind p.more (drop at text) in
    let next = lefts pairs (before ++ p ∷ []) ps in
    let later = map char_of (shown_from text (at + (p.more + 1)) ps fs next os) in
    let count : length (before ++ p ∷ []) ≡ index + 1 = longer before p in
    let others = shown_by text pairs (before ++ p ∷ []) ps (at + (p.more + 1)) fs os (same_rest (length fs) (length ps) f) (same_rest (length os) (length ps) o) (subst (λ (k : ℕ). AllKnow k ps os) (sym count) s.1) in
    let place : drop (at + (p.more + 1)) text ≡ drop (suc p.more) (drop at text) = drop_more at (p.more + 1) text ∙ ap (λ (k : ℕ). drop k (drop at text)) (next_is p.more) in
    let is : own ≡ here =
    ap (λ (k : ℕ). kind_characters p.kind text at p.more k v.opens ++ name_shown v.silent p.kind text at) (left_is pairs before ps p) ∙ whole_is pairs index ps p.kind text at p.more v.opens v.silent s.0 in
    let split : map char_of (map (shown_with look) own ++ shown_from text (at + (p.more + 1)) ps fs next os) ≡ here ++ later =
    map-append char_of (map (shown_with look) own) (shown_from text (at + (p.more + 1)) ps fs next os) ∙ ap (λ (cs : List ℕ). cs ++ later) (chars_only look own ∙ is) in
    subst (λ (ns : List ℕ). AreShown pairs index (drop at text) (p ∷ ps) (map char_of (shown_from text at (p ∷ ps) (x ∷ fs) ns (v ∷ os)))) (sym (lefts_next pairs before ps p))
    (later, split, subst (λ (k : ℕ). AreShown pairs k (drop (suc p.more) (drop at text)) ps later) count (subst (λ (rest : List ℕ). AreShown pairs (length (before ++ p ∷ [])) rest ps later) place others))

-- each piece is shown
pub each_shown : EachPieceIsShown
each_shown labels text =
    let cut = cut_text labels text in
    record {
      are = shown_by text cut.pairs [] cut.pieces 0 (flags_of (length cut.pieces) cut.pairs) (all_over cut.pieces) (length-map-range_with_len (flags_at cut.pairs) 0 (length cut.pieces)) (all_length cut.pieces)
          (tagged_know 0 0 0 no_tags cut.pieces (overs_of cut.pieces) (overs_know 0 0 [] cut.pieces (text_bracketed labels text) tt));
      enough = λ before behind p e. enough_marks matches_exhaust labels text before behind p e;
    }
