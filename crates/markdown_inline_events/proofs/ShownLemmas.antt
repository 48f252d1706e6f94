-- What is shown of events.
use Rattle.std.proofs.Common.{◌≡◌, ℕ, zero, suc, ◌+◌, ◌-◌, Bool, true, false, eqb, if◌then◌else◌, lit<, replicate, List, [], ◌∷◌, ◌++◌, length, map, min, Option, Some, None, refl, sym, ap, ◌∙◌, arith}
use Rattle.std.specs.List.{flat_map}
use Rattle.std.proofs.lemmas.Bool.{ne_eqb}
use Rattle.std.proofs.lemmas.List.{append-nil, map-append}
use Rattle.std.proofs.lemmas.Str.{chars-IsAscii}
use Rattle.std.proofs.lemmas.Str.Ascii.{IsAscii-cons, IsAscii-nil}
use Rattle.std.proofs.lemmas.List.Concat.{flat_map-append}
use Rattle.std.proofs.lemmas.List.FromFn.{length-map-range_with_len}
use Rattle.markdown_emphasis.specs.declared.flags.Flags.{Flags}
use Rattle.markdown_emphasis.specs.declared.runs.Run.{Run}
use Rattle.markdown_emphasis.specs.Flags.{flags_at, flags_of}
use Rattle.markdown_brackets.specs.declared.brackets.Link.{Link}
use Rattle.markdown_pieces.specs.declared.pieces.Kind.{Kind}
use Rattle.markdown_pieces.specs.declared.pieces.Kind.TheVariants.{Plain, Shown as ShownKind, Code, Address, Bare, Html, Soft, Hard, Run as RunKind, Opening, Closing}
use Rattle.markdown_pieces.specs.declared.pieces.Piece.{Piece}
use Rattle.markdown_pieces.specs.Cut.{CutText, cut_text}
use Rattle.markdown_inlines.specs.declared.links.Over.{Over}
use Rattle.markdown_inlines.specs.declared.looks.Look.{Look}
use Rattle.markdown_inlines.specs.Inlines.{char_of, left_of, look_at, shown_from}
use Rattle.markdown_inlines.specs.Left.{left_at}
use Rattle.markdown_inlines.specs.Links.{links_in, overs_from, overs_of}
use Rattle.markdown_inlines.specs.Parts.{characters, kind_characters, sign_char}
use Rattle.markdown_inlines.specs.Printable.{shown_char}
use Rattle.markdown_inlines.specs.Styled.{Shown, shown_with}
use Rattle.markdown_inline_events.specs.declared.spans.Span.{Span}
use Rattle.markdown_inline_events.specs.Contents.{InlineContent, start, end, text, character, marks, code, html, soft_break, hard_break}
use Rattle.markdown_inline_events.specs.Laws.{EventsAreShown, event_shown, inline_shown, nameless}
use Rattle.markdown_inline_events.specs.Reading.{events_from, piece_events}
use Rattle.markdown_inline_events.specs.Shares.{ShareContent, around_after, closing_shares, end_share, marks_shares, opening_shares, own_shares, piece_shares, placed, share, start_share}
use Rattle.markdown_inline_events.specs.Spans.{begun, ended, spans_of}

-- ---- shares without html are shown alike at each place

abbrev IsSpoken : InlineContent → Type 0
IsSpoken (html shown bytes) = ⊥
IsSpoken _ = Unit {0}

abbrev AreSpoken : List ShareContent → Type 0
AreSpoken [] = Unit {0}
AreSpoken (s ∷ ss) = IsSpoken s.inline × AreSpoken ss

abbrev share_shown : ShareContent → List ℕ
share_shown s = inline_shown [] 0 s.inline

inline_same : (c : InlineContent) (t : List ℕ) (place : ℕ) → IsSpoken c → inline_shown t place c ≡ inline_shown [] 0 c
inline_same (start tag) t place h = refl
inline_same (end tag) t place h = refl
inline_same (text bytes) t place h = refl
inline_same (character c second) t place h = refl
inline_same (marks c count) t place h = refl
inline_same (code bytes) t place h = refl
inline_same (html shown bytes) t place h = absurd h
inline_same soft_break t place h = refl
inline_same hard_break t place h = refl

placed_shown : (t : List ℕ) (at stop : ℕ) (ss : List ShareContent) → AreSpoken ss → flat_map (event_shown t) (placed at stop ss) ≡ flat_map share_shown ss
unfolding placed
placed_shown t at stop [] h = refl
placed_shown t at stop (s ∷ ss) h =
    let next : ℕ = at + min s.bytes (stop - at) in
    ap (λ (l : List ℕ). l ++ flat_map (event_shown t) (placed next stop ss)) (inline_same s.inline t at h.0) ∙ ap (λ (l : List ℕ). share_shown s ++ l) (placed_shown t next stop ss h.1)

-- ---- ends and beginnings show nothing

ends_silent : (spans : List Span) (more : List ShareContent) → flat_map share_shown (map end_share spans ++ more) ≡ flat_map share_shown more
ends_silent [] more = refl
ends_silent (s ∷ spans) more = ends_silent spans more

ends_nothing : (spans : List Span) → flat_map share_shown (map end_share spans) ≡ []
ends_nothing [] = refl
ends_nothing (s ∷ spans) = ends_nothing spans

all_spoken : (spans : List Span) → AreSpoken (map end_share spans)
all_spoken [] = tt
all_spoken (s ∷ spans) = (tt, all_spoken spans)

starts_silent : (spans : List Span) → flat_map share_shown (map start_share spans) ≡ []
starts_silent [] = refl
starts_silent (s ∷ spans) = starts_silent spans

ends_spoken : (spans : List Span) (more : List ShareContent) → AreSpoken more → AreSpoken (map end_share spans ++ more)
ends_spoken [] more h = h
ends_spoken (s ∷ spans) more h = (tt, ends_spoken spans more h)

starts_spoken : (spans : List Span) → AreSpoken (map start_share spans)
starts_spoken [] = tt
starts_spoken (s ∷ spans) = (tt, starts_spoken spans)

both_spoken : (xs ys : List ShareContent) → AreSpoken xs → AreSpoken ys → AreSpoken (xs ++ ys)
both_spoken [] ys h k = k
both_spoken (x ∷ xs) ys h k = (h.0, both_spoken xs ys h.1 k)

marked_shown : (t : List ℕ) (at stop : ℕ) (ended begun : List Span) (own : List ShareContent) → AreSpoken own
    → flat_map (event_shown t) (placed at stop (map end_share ended ++ (own ++ map start_share begun))) ≡ flat_map share_shown own
marked_shown t at stop ended begun own h =
    placed_shown t at stop (map end_share ended ++ (own ++ map start_share begun)) (ends_spoken ended (own ++ map start_share begun) (both_spoken own (map start_share begun) h (starts_spoken begun)))
    ∙ ends_silent ended (own ++ map start_share begun) ∙ flat_map-append share_shown own (map start_share begun)
    ∙ ap (λ (l : List ℕ). flat_map share_shown own ++ l) (starts_silent begun) ∙ append-nil (flat_map share_shown own)

-- ---- a piece

spoken_if : (b : Bool) (c n : ℕ) → AreSpoken (if b then [] else share (marks c n) n ∷ [])
spoken_if true c n = tt
spoken_if false c n = (tt, tt)

run_spoken : (run : Run) (n : ℕ) → AreSpoken (marks_shares run n)
run_spoken run n = spoken_if (eqb n 0) (sign_char run.sign) n

some_left : (n : ℕ) → eqb (suc n) 0 ≡ false
some_left n = ne_eqb (suc n) 0 (λ e. omega (arith, e))

run_own : (run : Run) (t : List ℕ) (at more n : ℕ) (opens : Bool) → flat_map share_shown (marks_shares run n) ≡ kind_characters (RunKind run) t at more n opens
run_own run t at more zero opens = refl
run_own run t at more (suc n) opens =
    let c : ℕ = sign_char run.sign in
    ap (λ (b : Bool). flat_map share_shown (if b then [] else share (marks c (suc n)) (suc n) ∷ [])) (some_left n) ∙ append-nil (replicate (suc n) c)

opening_spoken : (image opens : Bool) → AreSpoken (opening_shares image opens)
opening_spoken image true = tt
opening_spoken true false = (tt, tt)
opening_spoken false false = (tt, tt)

opening_own : (image : Bool) (t : List ℕ) (at more n : ℕ) (opens : Bool) → flat_map share_shown (opening_shares image opens) ≡ kind_characters (Opening image) t at more n opens
opening_own image t at more n true = refl
opening_own true t at more n false =
    ap (λ (cs : List ℕ). map shown_char cs ++ []) (chars-IsAscii (33 ∷ 91 ∷ []) (IsAscii-cons 33 (91 ∷ []) (lit< tt) (IsAscii-cons 91 [] (lit< tt) IsAscii-nil)))
opening_own false t at more n false = ap (λ (cs : List ℕ). map shown_char cs ++ []) (chars-IsAscii (91 ∷ []) (IsAscii-cons 91 [] (lit< tt) IsAscii-nil))

closing_spoken : (link : Option Link) → AreSpoken (closing_shares link)
closing_spoken None = (tt, tt)
closing_spoken (Some link) = tt

closing_own : (link : Option Link) (t : List ℕ) (at more n : ℕ) (opens : Bool) → flat_map share_shown (closing_shares link) ≡ kind_characters (Closing link) t at more n opens
closing_own None t at more n opens = ap (λ (cs : List ℕ). map shown_char cs ++ []) (chars-IsAscii (93 ∷ []) (IsAscii-cons 93 [] (lit< tt) IsAscii-nil))
closing_own (Some link) t at more n opens = refl

piece_shown : (kind : Kind) (t : List ℕ) (at stop more n : ℕ) (opens : Bool) (ended begun : List Span)
    → flat_map (event_shown t) (placed at stop (piece_shares kind ended (own_shares kind t at more n opens) begun)) ≡ kind_characters kind t at more n opens
unfolding placed
piece_shown Plain t at stop more n opens ended begun = append-nil _
piece_shown (ShownKind c second) t at stop more n opens ended begun = append-nil _
piece_shown (Code span) t at stop more n opens ended begun = append-nil _
piece_shown (Address len scheme) t at stop more n opens ended begun = append-nil _
piece_shown (Bare scheme) t at stop more n opens ended begun = append-nil _
piece_shown (Html shown) t at stop more n opens ended begun = append-nil _
piece_shown Soft t at stop more n opens ended begun = refl
piece_shown Hard t at stop more n opens ended begun = refl
piece_shown (RunKind run) t at stop more n opens ended begun = marked_shown t at stop ended begun (marks_shares run n) (run_spoken run n) ∙ run_own run t at more n opens
piece_shown (Opening image) t at stop more n opens ended begun = marked_shown t at stop ended begun (opening_shares image opens) (opening_spoken image opens) ∙ opening_own image t at more n opens
piece_shown (Closing link) t at stop more n opens ended begun = marked_shown t at stop ended begun (closing_shares link) (closing_spoken link) ∙ closing_own link t at more n opens

chars_only : (look : Look) (cs : List ℕ) → map char_of (map (shown_with look) cs) ≡ cs
chars_only look [] = refl
chars_only look (c ∷ cs) = ap (λ (ds : List ℕ). c ∷ ds) (chars_only look cs)

-- ---- all pieces

no_more : (n : ℕ) → 0 ≡ suc n → ⊥
no_more n e = omega (arith, e)

same_rest : (n m : ℕ) → suc n ≡ suc m → n ≡ m
same_rest n m e = omega (arith, e)

events_shown : (t : List ℕ) (spans around : List Span) (at index : ℕ) (ps : List Piece) (fs : List Flags) (ns : List ℕ) (os : List Over) → length fs ≡ length ps → length ns ≡ length ps → length os ≡ length ps
    → flat_map (event_shown t) (events_from t spans around at index ps ns os) ≡ map char_of (shown_from t at ps fs ns (map nameless os))
unfolding events_from shown_from
events_shown t spans around at index [] fs ns os f n o = placed_shown t at at (map end_share around) (all_spoken around) ∙ ends_nothing around
events_shown t spans around at index (p ∷ ps) [] ns os f n o = absurd (no_more (length ps) f)
events_shown t spans around at index (p ∷ ps) (x ∷ fs) [] os f n o = absurd (no_more (length ps) n)
events_shown t spans around at index (p ∷ ps) (x ∷ fs) (m ∷ ns) [] f n o = absurd (no_more (length ps) o)
events_shown t spans around at index (p ∷ ps) (x ∷ fs) (m ∷ ns) (v ∷ os) f n o =
    let next : List Span = around_after p.kind index (begun spans index) around in
    let behind : ℕ = at + (p.more + 1) in
    let look : Look = look_at x p (nameless v) in
    let rest : List Shown = shown_from t behind ps fs ns (map nameless os) in
    let own : List ℕ = characters t at p m v.opens in
    let later : List ℕ = map char_of rest in
    flat_map-append (event_shown t) (piece_events t spans around at index p m v) (events_from t spans next behind (index + 1) ps ns os)
    ∙ ap (λ (l : List ℕ). l ++ flat_map (event_shown t) (events_from t spans next behind (index + 1) ps ns os)) (piece_shown p.kind t at behind p.more m v.opens (ended index around) (begun spans index))
    ∙ ap (λ (l : List ℕ). own ++ l) (events_shown t spans next behind (index + 1) ps fs ns os (same_rest (length fs) (length ps) f) (same_rest (length ns) (length ps) n) (same_rest (length os) (length ps) o))
    ∙ ap (λ (l : List ℕ). l ++ later) (sym (append-nil own))
    ∙ sym (map-append char_of (map (shown_with look) (own ++ [])) rest ∙ ap (λ (l : List ℕ). l ++ later) (chars_only look (own ++ [])))

-- what links have to do with a piece is said once of each
pub overs_length : (index number : ℕ) (ps : List Piece) → length (overs_from index number ps).overs ≡ length ps
unfolding overs_from
overs_length index number [] = refl
overs_length index number (p ∷ ps) = ap suc (overs_length (index + 1) (number + links_in p.kind) ps)

-- the texts of the events are what is shown, without the names of files
pub all_shown : EventsAreShown
all_shown labels t =
    let cut : CutText = cut_text labels t in
    let count : ℕ = length cut.pieces in
    events_shown t (spans_of cut.pairs cut.pieces) [] 0 0 cut.pieces (flags_of count cut.pairs) (left_of cut.pairs cut.pieces) (overs_of cut.pieces)
    (length-map-range_with_len (flags_at cut.pairs) 0 count) (length-map-range_with_len (left_at cut.pairs cut.pieces) 0 count) (overs_length 0 0 cut.pieces)
