-- Words, code spans and emphasis that were written are printed as these.
use Rattle.std.proofs.Common.{◌≡◌, ℕ, suc, ◌+◌, ◌-◌, ◌<◌, ◌≤◌, Bool, true, false, cond, not, ◌&&◌, ◌==◌, List, [], ◌∷◌, ◌++◌, length, take, drop, map, filter, reverse, replicate, flat_map, encode_utf8, chars, codes, Option, Some, None, refl, sym, ap, subst, ◌∙◌, append_assoc, append-nil, length-append, arith, nat_lt, ◌||◌}
use Rattle.std.proofs.Math.Seq.{take-add, take-append_seam}
use Rattle.std.proofs.lemmas.Bool.{and_parts}
use Rattle.std.proofs.lemmas.Bool.Decides.{nat_tests}
use Rattle.std.proofs.lemmas.Grind.{flat_map-append}
use Rattle.std.proofs.lemmas.Str.{IsUtf8-append, IsUtf8-from_is_utf8, IsUtf8-nil, encode_ascii}
use Rattle.std.specs.List.{list_all, list_any}
use Rattle.std.specs.Str.{IsUtf8, is_utf8}
use Rattle.markdown_emphasis.specs.declared.runs.Pair.{Pair}
use Rattle.markdown_emphasis.specs.declared.runs.Run.{Run as RunRecord}
use Rattle.markdown_emphasis.specs.declared.runs.Sign.TheVariants.{Star}
use Rattle.markdown_emphasis.specs.Left.{taken_at}
use Rattle.markdown_marks.specs.Bytes.{first}
use Rattle.markdown_brackets.specs.declared.brackets.Placed.{Placed}
use Rattle.markdown_brackets.specs.Brackets.{finished}
use Rattle.markdown_runs.specs.declared.flanking.Neighbor.{Neighbor}
use Rattle.markdown_runs.specs.declared.flanking.Neighbor.TheVariants.{Blank, Punctuation}
use Rattle.markdown_runs.specs.Flanking.{beside, is_flanking, run_of}
use Rattle.markdown_spans.specs.Code.{spaced, unpadded}
use Rattle.markdown_spans.specs.Ticks.{IsTickless}
use Rattle.markdown_pieces.specs.declared.pieces.Kind.{Kind}
use Rattle.markdown_pieces.specs.declared.pieces.Kind.TheVariants.{Plain, Shown, Code, Address, Bare, Html, Soft, Hard, Run, Opening, Closing}
use Rattle.markdown_pieces.specs.declared.pieces.Piece.{Piece}
use Rattle.markdown_pieces.specs.Cut.{Pieces, cut_from, cut_text, onto}
use Rattle.markdown_pieces.specs.Pieces.{after_at, before_at, first_char, last_char}
use Rattle.markdown_inlines.specs.Parts.{sign_char}
use Rattle.markdown_destinations.specs.Destinations.{Leads, inline_leads}
use Rattle.markdown_as_html.specs.Escaped.{end_tag, escaped as html_text, escaped_byte as html_byte, tag, within, addressed, attribute}
use Rattle.markdown_as_html.specs.Inlines.{Span, Words, inline_html, pair_end, pair_tag, piece_html, pieces_html, run_html, spans_at, spans_from, bracket_text, is_around, marked, opened_at, said, span_begin, span_end}
use Rattle.markdown_writing.specs.Phrases.{Phrase, plain, code_span, emphasis, emphasis_text, line_text, most_ticks, phrase_text, roomy, span_text, star_marks, link, link_text}
use Rattle.markdown_writing.specs.Writable.{ArePhrases, begins_code, begins_emphasis, begins_words, is_line, is_phrase, is_some_line, is_tab_or_end, take_turns, begins_link, is_direct}
use Rattle.markdown_writing.specs.Words.{escaped, escaped_byte, is_mark}
use Rattle.markdown_writing.proofs.WordLemmas.{by_escape, no_other}
use Rattle.markdown_writing_laws.specs.Printed.{PhrasesArePrinted, StarsFit, emphasis_name, first_of, has_emphasis, is_text, last_of, next_of, phrase_html, stars_flank}
use Rattle.markdown_writing_laws.specs.Said.{Says}
use Rattle.markdown_writing_laws.proofs.CodeLemmas.{impossible, span_cut, span_piece}
use Rattle.markdown_writing_laws.proofs.PieceLemmas.{AreWordsTo, IsCut, IsTail, before_others, behind_more, bytes_in, code_follows, drop_more, first_cut, free, none_follows, others_cut, rest_of, same_places, star_follows, opening_follows, closing_follows}
use Rattle.markdown_inlines.specs.Left.{piece_marks}
use Rattle.markdown_writing_laws.proofs.LinkLemmas.{close_cut, close_piece, direct_text, leads_there, link_ends_with, open_cut, open_piece, opened}
use Rattle.markdown_writing_laws.proofs.RunLemmas.{AreBefore, AreBehind, Has, Starred, before_elsewhere, before_more, before_pair, behind_elsewhere, behind_less, closer_has, closer_run, closes_by, elsewhere_has, many, opener_has, opener_run, opens_by, pairs_of, placed, run_cut, runs_of, star_pair, star_piece, stars_matched}
use Rattle.markdown_writing_laws.proofs.TextLemmas.{EndsWith, emphasis_ends_with, ends_behind, first_ends_with, first_same, nothing_first, nothing_last, rest_ends_with, span_ends_with, star_beside, stars_end_with, tick_beside, tick_first, paren_beside, bracket_first}

-- ---- no links

none_at : (leads : List Leads) (text : List ℕ) (at index : ℕ) (kind : Kind) (more : ℕ) (rest own : List ℕ) → Says kind more rest own → spans_at leads text at index kind ≡ []
none_at leads text at index Plain more rest own h = refl
none_at leads text at index (Shown c None) more rest own h = refl
none_at leads text at index (Shown c (Some d)) more rest own h = absurd h
none_at leads text at index (Code code) more rest own h = absurd h
none_at leads text at index (Address len scheme) more rest own h = absurd h
none_at leads text at index (Bare scheme) more rest own h = absurd h
none_at leads text at index (Html html) more rest own h = absurd h
none_at leads text at index Soft more rest own h = absurd h
none_at leads text at index Hard more rest own h = absurd h
none_at leads text at index (Run run) more rest own h = absurd h
none_at leads text at index (Opening image) more rest own h = absurd h
none_at leads text at index (Closing target) more rest own h = absurd h

next_is : (n : ℕ) → n + 1 ≡ suc n
next_is n = omega arith

-- the same at places that are the same
same_spans : (leads : List Leads) (text : List ℕ) (at other index next : ℕ) (qs : List Piece) → at ≡ other → index ≡ next → spans_from leads text at index qs ≡ spans_from leads text other next qs
same_spans leads text at other index next qs e f = ap (λ (n : ℕ). spans_from leads text n index qs) e ∙ ap (λ (n : ℕ). spans_from leads text other n qs) f

no_spans : (leads : List Leads) (text tail rest : List ℕ) (at index : ℕ) (ps qs : List Piece) (words : List ℕ) → AreWordsTo tail rest ps words
    → spans_from leads text at index (ps ++ qs) ≡ spans_from leads text (at + bytes_in ps) (index + length ps) qs
unfolding spans_from
no_spans leads text tail rest at index [] qs words h = same_spans leads text at (at + 0) index (index + 0) qs (omega arith) (omega arith)
no_spans leads text tail rest at index (p ∷ ps) qs words h =
    ap (λ (ss : List Span). ss ++ spans_from leads text (at + (p.more + 1)) (index + 1) (ps ++ qs)) (none_at leads text at index p.kind p.more rest h.0 h.3)
    ∙ no_spans leads text tail (drop (suc p.more) rest) (at + (p.more + 1)) (index + 1) ps qs h.1 h.4
    ∙ same_spans leads text (at + (p.more + 1) + bytes_in ps) (at + bytes_in (p ∷ ps)) (index + 1 + length ps) (index + length (p ∷ ps)) qs (omega arith) (omega arith)

-- ---- a piece

-- a text, the pairs in it, and its links
abbrev words_with : List ℕ → List Pair → List Span → Words
words_with text pairs spans = record { text = text; pairs = pairs; spans = spans }

-- none is an image
abbrev AreLinks : List Span → Type 0
AreLinks [] = Unit {0}
AreLinks (s ∷ ss) = (s.image ≡ false) × AreLinks ss

both_links : (xs ys : List Span) → AreLinks xs → AreLinks ys → AreLinks (xs ++ ys)
both_links [] ys h k = k
both_links (x ∷ xs) ys h k = (h.0, both_links xs ys h.1 k)

not_in_image : (spans : List Span) → AreLinks spans → (index : ℕ) → list_any (is_around index) spans ≡ false
not_in_image [] h index = refl
not_in_image (s ∷ ss) h index = ap (λ (t : Bool). (t && nat_lt s.opener index && nat_lt index s.closer) || list_any (is_around index) ss) h.0 ∙ not_in_image ss h.1 index

-- what a piece says is marked as its kind is
abbrev shown_as : List ℕ → List Pair → List Span → (at index : ℕ) → Piece → List ℕ
shown_as text pairs spans at index p =
    let words = words_with text pairs spans in
    marked words at index p.more p.kind (said p.kind text at p.more (piece_marks p - taken_at pairs index) (opened_at words index))

piece_shown : (text : List ℕ) (pairs : List Pair) (spans : List Span) → AreLinks spans → (at index : ℕ) (p : Piece) → piece_html (words_with text pairs spans) at index p ≡ shown_as text pairs spans at index p
piece_shown text pairs spans links at index p =
    let words = words_with text pairs spans in
    let says = said p.kind text at p.more (piece_marks p - taken_at pairs index) (opened_at words index) in
    ap (λ (t : Bool). cond t (html_text says) (marked words at index p.more p.kind says)) (not_in_image spans links index)

ascii_said : (c : ℕ) (own : List ℕ) → c < 128 → own ≡ c ∷ [] → encode_utf8 c ++ [] ≡ own
ascii_said c own few e = ap (λ (bs : List ℕ). bs ++ []) (encode_ascii c few) ∙ sym e

kind_printed : (text : List ℕ) (pairs : List Pair) (spans : List Span) → AreLinks spans → (at index : ℕ) (kind : Kind) (more : ℕ) (own : List ℕ) → Says kind more (drop at text) own
    → piece_html (words_with text pairs spans) at index (record { kind = kind; more = more }) ≡ html_text own
kind_printed text pairs spans links at index Plain more own h = piece_shown text pairs spans links at index (record { kind = Plain; more = more }) ∙ ap html_text (ap (λ (n : ℕ). take n (drop at text)) (next_is more) ∙ sym h)
kind_printed text pairs spans links at index (Shown c None) more own h = piece_shown text pairs spans links at index (record { kind = Shown c None; more = more }) ∙ ap html_text (ascii_said c own h.1 h.0)
kind_printed text pairs spans links at index (Shown c (Some d)) more own h = absurd h
kind_printed text pairs spans links at index (Code code) more own h = absurd h
kind_printed text pairs spans links at index (Address len scheme) more own h = absurd h
kind_printed text pairs spans links at index (Bare scheme) more own h = absurd h
kind_printed text pairs spans links at index (Html html) more own h = absurd h
kind_printed text pairs spans links at index Soft more own h = absurd h
kind_printed text pairs spans links at index Hard more own h = absurd h
kind_printed text pairs spans links at index (Run run) more own h = absurd h
kind_printed text pairs spans links at index (Opening image) more own h = absurd h
kind_printed text pairs spans links at index (Closing target) more own h = absurd h

both_printed : (own later : List ℕ) → html_text (own ++ later) ≡ html_text own ++ html_text later
unfolding html_text
both_printed own later = flat_map-append html_byte own later

nothing_printed : html_text [] ≡ []
unfolding html_text
nothing_printed = refl

-- the html of pieces, where nothing is a link
abbrev printed : (text : List ℕ) (pairs : List Pair) (spans : List Span) (at index : ℕ) → List Piece → List ℕ
printed text pairs spans at index ps = pieces_html (words_with text pairs spans) at index ps

same_printed : (text : List ℕ) (pairs : List Pair) (spans : List Span) (at other index next : ℕ) (qs : List Piece) → at ≡ other → index ≡ next → printed text pairs spans at index qs ≡ printed text pairs spans other next qs
same_printed text pairs spans at other index next qs e f = ap (λ (n : ℕ). printed text pairs spans n index qs) e ∙ ap (λ (n : ℕ). printed text pairs spans other n qs) f

words_then : (text : List ℕ) (pairs : List Pair) (spans : List Span) → AreLinks spans → (tail rest : List ℕ) (at index : ℕ) (ps qs : List Piece) (words : List ℕ) → drop at text ≡ rest → AreWordsTo tail rest ps words
    → printed text pairs spans at index (ps ++ qs) ≡ html_text words ++ printed text pairs spans (at + bytes_in ps) (index + length ps) qs
unfolding pieces_html
words_then text pairs spans links tail rest at index [] qs words e h =
    same_printed text pairs spans at (at + 0) index (index + 0) qs (omega arith) (omega arith) ∙ ap (λ (bs : List ℕ). bs ++ printed text pairs spans (at + 0) (index + 0) qs) (sym (ap html_text h.1 ∙ nothing_printed))
words_then text pairs spans links tail rest at index (p ∷ ps) qs words e h =
    let own = h.0 in
    let later = h.1 in
    let here : piece_html (words_with text pairs spans) at index p ≡ html_text own = kind_printed text pairs spans links at index p.kind p.more own (subst (λ (bs : List ℕ). Says p.kind p.more bs own) (sym e) h.3) in
    let behind : drop (at + (p.more + 1)) text ≡ drop (suc p.more) rest = drop_more at (p.more + 1) text ∙ ap (λ (n : ℕ). drop n (drop at text)) (next_is p.more) ∙ ap (drop (suc p.more)) e in
    let others = printed text pairs spans (at + (p.more + 1) + bytes_in ps) (index + 1 + length ps) qs in
    ap (λ (bs : List ℕ). bs ++ printed text pairs spans (at + (p.more + 1)) (index + 1) (ps ++ qs)) here
    ∙ ap (λ (bs : List ℕ). html_text own ++ bs) (words_then text pairs spans links tail (drop (suc p.more) rest) (at + (p.more + 1)) (index + 1) ps qs later behind h.4)
    ∙ sym (append_assoc (html_text own) (html_text later) others)
    ∙ ap (λ (bs : List ℕ). bs ++ others) (sym (both_printed own later) ∙ ap html_text (sym h.2))
    ∙ ap (λ (bs : List ℕ). html_text words ++ bs)
    (same_printed text pairs spans (at + (p.more + 1) + bytes_in ps) (at + bytes_in (p ∷ ps)) (index + 1 + length ps) (index + length (p ∷ ps)) qs (omega arith) (omega arith))

-- ---- a line

-- all links are before a piece
abbrev SpansBefore : ℕ → List Span → Type 0
SpansBefore n [] = Unit {0}
SpansBefore n (s ∷ ss) = (s.opener < n) × (s.closer < n) × SpansBefore n ss

-- none is before it
abbrev SpansBehind : ℕ → List Span → Type 0
SpansBehind n [] = Unit {0}
SpansBehind n (s ∷ ss) = (n ≤ s.opener) × (n ≤ s.closer) × SpansBehind n ss

spans_more : (n m : ℕ) (ss : List Span) → n ≤ m → SpansBefore n ss → SpansBefore m ss
spans_more n m [] less h = tt
spans_more n m (s ∷ ss) less h = (omega (arith, less, h.0), omega (arith, less, h.1), spans_more n m ss less h.2)

spans_less : (n m : ℕ) (ss : List Span) → n ≤ m → SpansBehind m ss → SpansBehind n ss
spans_less n m [] less h = tt
spans_less n m (s ∷ ss) less h = (omega (arith, less, h.0), omega (arith, less, h.1), spans_less n m ss less h.2)

spans_push : (n : ℕ) (ss : List Span) (s : Span) → SpansBefore n ss → s.opener < n → s.closer < n → SpansBefore n (ss ++ s ∷ [])
spans_push n [] s h f g = (f, g, tt)
spans_push n (x ∷ xs) s h f g = (h.0, h.1, spans_push n xs s h.2 f g)

-- Some bytes of a text are cut into pieces that are printed as this html, whatever pairs and links are before them. None is an image.
record IsPrinted (labels : List (List ℕ)) (text : List ℕ) (at index : ℕ) (bytes html : List ℕ) : Type 0 where
  pieces : List Piece
  stars : List Starred
  links : List Span
  cut : (runs : List Placed) → cut_from labels text 0 at index (free runs) bytes ≡ record { pieces = pieces; reading = free (runs ++ runs_of stars) }
  behind : AreBehind index (pairs_of stars)
  linked : AreLinks links
  apart : SpansBehind index links
  says : (before : List Pair) (earlier : List Span) → AreBefore index before → AreLinks earlier → SpansBefore index earlier → printed text (before ++ pairs_of stars) (earlier ++ links) at index pieces ≡ html
  spans : (leads : List Leads) → spans_from leads text at index pieces ≡ links

nothing_is : (labels : List (List ℕ)) (text : List ℕ) (at index : ℕ) → IsPrinted labels text at index [] []
unfolding cut_from pieces_html spans_from
nothing_is labels text at index = record {
  pieces = [];
  stars = [];
  links = [];
  cut = λ runs. ap (λ (rs : List Placed). record { pieces = []; reading = free rs }) (sym (append-nil runs));
  behind = tt;
  linked = tt;
  apart = tt;
  says = λ before earlier h k l. refl;
  spans = λ leads. refl;
}

words_are : (labels : List (List ℕ)) (text : List ℕ) (at index : ℕ) (bytes words tail html : List ℕ) → drop at text ≡ bytes ++ tail → (c : IsCut labels text at index bytes words tail)
    → IsPrinted labels text (at + length bytes) (index + length c.pieces) tail html → IsPrinted labels text at index (bytes ++ tail) (html_text words ++ html)
words_are labels text at index bytes words tail html e c later =
    let place : at + bytes_in c.pieces ≡ at + length bytes = ap (λ (n : ℕ). at + n) c.many in
    let next = index + length c.pieces in
    record {
      pieces = c.pieces ++ later.pieces;
      stars = later.stars;
      links = later.links;
      cut = λ runs. c.cut (free runs) ∙ ap (before_others c.pieces) (later.cut runs);
      behind = behind_less index next (pairs_of later.stars) (omega arith) later.behind;
      linked = later.linked;
      apart = spans_less index next later.links (omega arith) later.apart;
      says = λ before earlier h k l.
          let pairs = before ++ pairs_of later.stars in
          let spans = earlier ++ later.links in
          let links = both_links earlier later.links k later.linked in
          words_then text pairs spans links tail (bytes ++ tail) at index c.pieces later.pieces words e c.are
          ∙ ap (λ (bs : List ℕ). html_text words ++ bs)
          (same_printed text pairs spans (at + bytes_in c.pieces) (at + length bytes) next next later.pieces place refl ∙ later.says before earlier (before_more index next before (omega arith) h) k (spans_more index next earlier (omega arith) l));
      spans = λ leads. no_spans leads text tail (bytes ++ tail) at index c.pieces later.pieces words c.are ∙ same_spans leads text (at + bytes_in c.pieces) (at + length bytes) next next later.pieces place refl ∙ later.spans leads;
    }

not_end : (b : ℕ) → not (is_tab_or_end b) ≡ true → spaced b ≡ b
not_end b h = ap (λ (t : Bool). cond t 32 b) (no_other is_tab_or_end b 10 refl (negated (is_tab_or_end b) h))
  where
    negated : (t : Bool) → not t ≡ true → t ≡ false
    negated true h = sym h
    negated false h = refl

all_spaced : (bs : List ℕ) → is_line bs ≡ true → map spaced bs ≡ bs
all_spaced [] h = refl
all_spaced (b ∷ bs) h =
    let parts = and_parts (not (is_tab_or_end b)) (is_line bs) h in
    ap (λ (c : ℕ). c ∷ map spaced bs) (not_end b parts.0) ∙ ap (λ (cs : List ℕ). b ∷ cs) (all_spaced bs parts.1)

-- the html of a code span's piece
span_printed : (text : List ℕ) (pairs : List Pair) (spans : List Span) → AreLinks spans → (at index : ℕ) (code : List ℕ) → is_line code ≡ true → unpadded (take (length (roomy code)) (drop (at + suc (most_ticks 0 0 code)) text)) ≡ code
    → piece_html (words_with text pairs spans) at index (span_piece code) ≡ within (codes "code") (html_text code)
span_printed text pairs spans links at index code line e = piece_shown text pairs spans links at index (span_piece code) ∙ ap (λ (bs : List ℕ). within (codes "code") (html_text (map spaced bs))) e ∙ ap (λ (bs : List ℕ). within (codes "code") (html_text bs)) (all_spaced code line)

span_then : (text : List ℕ) (pairs : List Pair) (spans : List Span) (at index : ℕ) (p : Piece) (ps : List Piece) → printed text pairs spans at index (p ∷ ps) ≡ piece_html (words_with text pairs spans) at index p ++ printed text pairs spans (at + (p.more + 1)) (index + 1) ps
unfolding pieces_html
span_then text pairs spans at index p ps = refl

no_link : (leads : List Leads) (text : List ℕ) (at index : ℕ) (code : List ℕ) (ps : List Piece) → spans_from leads text at index (span_piece code ∷ ps) ≡ spans_from leads text (at + ((span_piece code).more + 1)) (index + 1) ps
unfolding spans_from
no_link leads text at index code ps = refl

span_is : (labels : List (List ℕ)) (text : List ℕ) (at index b : ℕ) (bs tail html : List ℕ) → is_line (b ∷ bs) ≡ true → drop at text ≡ span_text (b ∷ bs) ++ tail → IsTickless tail
    → IsPrinted labels text (at + length (span_text (b ∷ bs))) (index + 1) tail html → IsPrinted labels text at index (span_text (b ∷ bs) ++ tail) (phrase_html (code_span (b ∷ bs)) ++ html)
span_is labels text at index b bs tail html line e t later =
    let code = b ∷ bs in
    let p = span_piece code in
    let s = span_cut labels text at index b bs tail e t in
    let place : at + (p.more + 1) ≡ at + length (span_text code) = ap (λ (n : ℕ). at + n) s.many in
    record {
      pieces = p ∷ later.pieces;
      stars = later.stars;
      links = later.links;
      cut = λ runs. s.cut runs ∙ ap (onto p) (later.cut runs);
      behind = behind_less index (index + 1) (pairs_of later.stars) (omega arith) later.behind;
      linked = later.linked;
      apart = spans_less index (index + 1) later.links (omega arith) later.apart;
      says = λ before earlier h k l.
          let pairs = before ++ pairs_of later.stars in
          let spans = earlier ++ later.links in
          let links = both_links earlier later.links k later.linked in
          span_then text pairs spans at index p later.pieces
          ∙ ap (λ (hs : List ℕ). hs ++ printed text pairs spans (at + (p.more + 1)) (index + 1) later.pieces) (span_printed text pairs spans links at index code line s.shows)
          ∙ ap (λ (hs : List ℕ). phrase_html (code_span code) ++ hs) (same_printed text pairs spans (at + (p.more + 1)) (at + length (span_text code)) (index + 1) (index + 1) later.pieces place refl ∙ later.says before earlier (before_more index (index + 1) before (omega arith) h) k (spans_more index (index + 1) earlier (omega arith) l));
      spans = λ leads. no_link leads text at index code later.pieces ∙ same_spans leads text (at + (p.more + 1)) (at + length (span_text code)) (index + 1) (index + 1) later.pieces place refl ∙ later.spans leads;
    }

-- ---- emphasis

zero_left : (strong : Bool) → many strong - many strong ≡ 0
zero_left strong = omega arith

run_then : (text : List ℕ) (pairs : List Pair) (spans : List Span) → AreLinks spans → (at index : ℕ) (run : RunRecord) (strong : Bool)
    → piece_html (words_with text pairs spans) at index (star_piece run strong) ≡ run_html pairs index (replicate (run.count - taken_at pairs index) (sign_char run.sign))
run_then text pairs spans links at index run strong = piece_shown text pairs spans links at index (star_piece run strong)

no_stars : (pairs : List Pair) (index : ℕ) (strong : Bool) → taken_at pairs index ≡ many strong → run_html pairs index (replicate (many strong - taken_at pairs index) 42) ≡ run_html pairs index []
no_stars pairs index strong e = ap (λ (n : ℕ). run_html pairs index (replicate (many strong - n) 42)) e ∙ ap (λ (n : ℕ). run_html pairs index (replicate n 42)) (zero_left strong)

tag_is : (opener closer : ℕ) (strong : Bool) → flat_map pair_tag (reverse (star_pair opener closer strong ∷ [])) ≡ tag (emphasis_name strong)
tag_is opener closer true = refl
tag_is opener closer false = refl

end_tag_is : (opener closer : ℕ) (strong : Bool) → flat_map pair_end (star_pair opener closer strong ∷ []) ++ ([] ++ flat_map pair_tag (reverse [])) ≡ end_tag (emphasis_name strong)
end_tag_is opener closer true = refl
end_tag_is opener closer false = refl

-- the stars that open are a tag
star_opens : (text : List ℕ) (pairs : List Pair) (spans : List Span) → AreLinks spans → (at opener closer : ℕ) (strong closes : Bool) → Has opener pairs (star_pair opener closer strong ∷ []) [] (many strong)
    → piece_html (words_with text pairs spans) at opener (star_piece (opener_run strong closes) strong) ≡ tag (emphasis_name strong)
star_opens text pairs spans links at opener closer strong closes has =
    run_then text pairs spans links at opener (opener_run strong closes) strong
    ∙ no_stars pairs opener strong has.takes
    ∙ ap (λ (ps : List Pair). flat_map pair_end ps ++ ([] ++ flat_map pair_tag (reverse (filter (λ p. p.opener == opener) pairs)))) has.ends
    ∙ ap (λ (ps : List Pair). flat_map pair_tag (reverse ps)) has.begins
    ∙ tag_is opener closer strong

-- the stars that close are its end
star_closes : (text : List ℕ) (pairs : List Pair) (spans : List Span) → AreLinks spans → (at opener closer : ℕ) (strong opens : Bool) → Has closer pairs [] (star_pair opener closer strong ∷ []) (many strong)
    → piece_html (words_with text pairs spans) at closer (star_piece (closer_run strong opens) strong) ≡ end_tag (emphasis_name strong)
star_closes text pairs spans links at opener closer strong opens has =
    run_then text pairs spans links at closer (closer_run strong opens) strong
    ∙ no_stars pairs closer strong has.takes
    ∙ ap (λ (ps : List Pair). flat_map pair_end ps ++ ([] ++ flat_map pair_tag (reverse (filter (λ p. p.opener == closer) pairs)))) has.ends
    ∙ ap (λ (ps : List Pair). flat_map pair_end (star_pair opener closer strong ∷ []) ++ ([] ++ flat_map pair_tag (reverse ps))) has.begins
    ∙ end_tag_is opener closer strong

star_no_link : (leads : List Leads) (text : List ℕ) (at index : ℕ) (run : RunRecord) (strong : Bool) (ps : List Piece)
    → spans_from leads text at index (star_piece run strong ∷ ps) ≡ spans_from leads text (at + ((star_piece run strong).more + 1)) (index + 1) ps
unfolding spans_from
star_no_link leads text at index run strong ps = refl

piece_bytes : (strong : Bool) → many strong - 1 + 1 ≡ many strong
piece_bytes true = refl
piece_bytes false = refl

stars_length : (strong : Bool) → many strong ≡ length (star_marks strong)
stars_length true = refl
stars_length false = refl

-- bytes before a later place
front_more : (text : List ℕ) (at n : ℕ) (bytes tail : List ℕ) → drop at text ≡ bytes ++ tail → n ≡ length bytes → take (at + n) text ≡ take at text ++ bytes
front_more text at n bytes tail e m =
    take-add at n text ∙ ap (λ (bs : List ℕ). take at text ++ take n bs) e ∙ ap (λ (k : ℕ). take at text ++ take k (bytes ++ tail)) m ∙ ap (λ (bs : List ℕ). take at text ++ bs) (take-append_seam bytes tail)

-- Emphasis at a place of a text, with what follows it: what is beside its stars.
record Stands (text : List ℕ) (at : ℕ) (strong : Bool) (words tail : List ℕ) : Type 0 where
  bytes : drop at text ≡ star_marks strong ++ (rest_of words ++ (star_marks strong ++ tail))
  inside : drop (at + many strong) text ≡ rest_of words ++ (star_marks strong ++ tail)
  end : drop (at + many strong + length (rest_of words)) text ≡ star_marks strong ++ tail
  both_first : Bool
  both_last : Bool
  opens : run_of Star (many strong) (before_at text at) (after_at text (at + many strong)) ≡ opener_run strong both_first
  closes :
      run_of Star (many strong) (before_at text (at + many strong + length (rest_of words))) (after_at text (at + many strong + length (rest_of words) + many strong)) ≡ closer_run strong both_last

emphasis_and : (strong : Bool) (words tail : List ℕ) → emphasis_text strong words ++ tail ≡ star_marks strong ++ (rest_of words ++ (star_marks strong ++ tail))
emphasis_and strong words tail =
    let stars = star_marks strong in
    append_assoc stars (rest_of words ++ stars) tail ∙ ap (λ (bs : List ℕ). stars ++ bs) (append_assoc (rest_of words) stars tail)

stands : (text : List ℕ) (at : ℕ) (strong : Bool) (b : ℕ) (bs tail : List ℕ) (before next : Neighbor) → drop at text ≡ emphasis_text strong (b ∷ bs) ++ tail → IsUtf8 (take at text)
    → beside (last_char (chars (take at text))) ≡ before → IsUtf8 (b ∷ bs) → is_flanking (first_of (b ∷ bs)) before ≡ true → is_flanking (last_of (b ∷ bs)) next ≡ true
    → beside (first_char (chars tail)) ≡ next → Stands text at strong (b ∷ bs) tail
stands text at strong b bs tail before next e front outer u left right follows =
    let words = b ∷ bs in
    let stars = star_marks strong in
    let inside_at = at + many strong in
    let end_at = inside_at + length (rest_of words) in
    let bytes : drop at text ≡ stars ++ (rest_of words ++ (stars ++ tail)) = e ∙ emphasis_and strong words tail in
    let inside : drop inside_at text ≡ rest_of words ++ (stars ++ tail) = behind_more text at (many strong) stars (rest_of words ++ (stars ++ tail)) bytes (stars_length strong) in
    let end : drop end_at text ≡ stars ++ tail = behind_more text inside_at (length (rest_of words)) (rest_of words) (stars ++ tail) inside refl in
    let behind : drop (end_at + many strong) text ≡ tail = behind_more text end_at (many strong) stars tail end (stars_length strong) in
    let front_text : IsUtf8 (take inside_at text) =
    subst IsUtf8 (sym (front_more text at (many strong) stars (rest_of words ++ (stars ++ tail)) bytes (stars_length strong))) (IsUtf8-append (take at text) stars front (stars_end_with strong).text) in
    let last : last_char (chars (take end_at text)) ≡ last_char (chars words) =
    ap (λ (cs : List ℕ). last_char (chars cs)) (front_more text inside_at (length (rest_of words)) (rest_of words) (stars ++ tail) inside refl)
    ∙ ends_behind (take inside_at text) (rest_of words) (last_char (chars words)) front_text (rest_ends_with b bs u) in
    record {
      bytes = bytes;
      inside = inside;
      end = end;
      both_first = is_flanking (before_at text at) (after_at text inside_at);
      both_last = is_flanking (after_at text (end_at + many strong)) (before_at text end_at);
      opens =
          opens_by (before_at text at) (after_at text inside_at) strong
          (ap (λ (n : Neighbor). is_flanking (after_at text inside_at) n) outer
          ∙ ap (λ (n : Neighbor). is_flanking n before) (ap (λ (cs : List ℕ). beside (first_char (chars cs))) inside ∙ first_same b bs (stars ++ tail) u)
          ∙ left);
      closes =
          closes_by (before_at text end_at) (after_at text (end_at + many strong)) strong
          (ap (λ (n : Neighbor). is_flanking (before_at text end_at) n) (ap (λ (cs : List ℕ). beside (first_char (chars cs))) behind ∙ follows)
          ∙ ap (λ (c : Option ℕ). is_flanking (beside c) next) last
          ∙ right);
    }

words_starless : (b : ℕ) (bs tail : List ℕ) → (first (rest_of (b ∷ bs) ++ tail) == 42) ≡ false
words_starless b bs tail = by_escape (λ (front : List ℕ). (first ((front ++ rest_of bs) ++ tail) == 42) ≡ false) (is_mark b) b (λ e. refl) (λ e. no_other is_mark b 42 refl e)

differs : (n m : ℕ) → n < m → (n == m) ≡ false
differs n m h = grind (arith, nat_tests, h)

differs_back : (n m : ℕ) → m < n → (n == m) ≡ false
differs_back n m h = grind (arith, nat_tests, h)

-- the pairs, of which one is this
pairs_join : (before : List Pair) (p : Pair) (after : List Pair) → before ++ p ∷ after ≡ (before ++ p ∷ []) ++ after
pairs_join before p after = sym (append_assoc before (p ∷ []) after)

-- emphasis, and what follows it
emphasis_is : (labels : List (List ℕ)) (text : List ℕ) (at index : ℕ) (strong : Bool) (b : ℕ) (bs tail html : List ℕ) → Stands text at strong (b ∷ bs) tail → (first tail == 42) ≡ false
    → (c : IsCut labels text (at + many strong) (index + 1) (rest_of (b ∷ bs)) (b ∷ bs) (star_marks strong ++ tail))
    → IsPrinted labels text (at + length (emphasis_text strong (b ∷ bs))) (index + 1 + length c.pieces + 1) tail html
    → IsPrinted labels text at index (emphasis_text strong (b ∷ bs) ++ tail) (phrase_html (emphasis strong (b ∷ bs)) ++ html)
emphasis_is labels text at index strong b bs tail html s starless c later =
    let words = b ∷ bs in
    let stars = star_marks strong in
    let inside_at = at + many strong in
    let end_at = inside_at + length (rest_of words) in
    let closer = index + 1 + length c.pieces in
    let open_run = opener_run strong s.both_first in
    let close_run = closer_run strong s.both_last in
    let p = star_piece open_run strong in
    let q = star_piece close_run strong in
    let pair = star_pair index closer strong in
    let after = pairs_of later.stars in
    let all : length (emphasis_text strong words) ≡ many strong + (length (rest_of words) + many strong) =
    length-append stars (rest_of words ++ stars) ∙ omega (arith, length-append (rest_of words) stars, stars_length strong) in
    let begun : at + (p.more + 1) ≡ inside_at = ap (λ (n : ℕ). at + n) (piece_bytes strong) in
    let ended : end_at + many strong ≡ at + length (emphasis_text strong words) = omega (arith, all) in
    let ended_piece : end_at + (q.more + 1) ≡ at + length (emphasis_text strong words) = ap (λ (n : ℕ). end_at + n) (piece_bytes strong) ∙ ended in
    let place : inside_at + bytes_in c.pieces ≡ end_at = ap (λ (n : ℕ). inside_at + n) c.many in
    record {
      pieces = p ∷ (c.pieces ++ q ∷ later.pieces);
      stars = record { opener = index; closer = closer; strong = strong; closes = s.both_first; opens = s.both_last } ∷ later.stars;
      cut = λ runs.
          let opened = runs ++ placed index open_run ∷ [] in
          let closed = opened ++ placed closer close_run ∷ [] in
          ap (λ (ws : List ℕ). cut_from labels text 0 at index (free runs) ws) (emphasis_and strong words tail)
          ∙ run_cut labels runs text at index strong (rest_of words ++ (stars ++ tail)) open_run s.bytes (words_starless b bs (stars ++ tail)) s.opens
          ∙ ap (onto p) (c.cut (free opened))
          ∙ ap (λ (x : Pieces). onto p (before_others c.pieces x)) (run_cut labels opened text end_at closer strong tail close_run s.end starless s.closes)
          ∙ ap (λ (x : Pieces). onto p (before_others c.pieces (onto q x)))
          (same_places labels (free closed) text (end_at + many strong) (at + length (emphasis_text strong words)) (closer + 1) (closer + 1) tail ended refl ∙ later.cut closed)
          ∙ ap (λ (rs : List Placed). record { pieces = p ∷ (c.pieces ++ q ∷ later.pieces); reading = free rs })
          (append_assoc opened (placed closer close_run ∷ []) (runs_of later.stars) ∙ append_assoc runs (placed index open_run ∷ []) (placed closer close_run ∷ runs_of later.stars));
      links = later.links;
      behind = (omega arith, omega arith, behind_less index (closer + 1) after (omega arith) later.behind);
      linked = later.linked;
      apart = spans_less index (closer + 1) later.links (omega arith) later.apart;
      says = λ before earlier h k l.
          let pairs = before ++ pair ∷ after in
          let spans = earlier ++ later.links in
          let links = both_links earlier later.links k later.linked in
          let has_open : Has index pairs (pair ∷ []) [] (many strong) =
          elsewhere_has index before (pair ∷ after) (pair ∷ []) [] (many strong) (before_elsewhere index before h) (opener_has pair after (differs_back closer index (omega arith)) (behind_elsewhere index (closer + 1) after (omega arith) later.behind)) in
          let has_close : Has closer pairs [] (pair ∷ []) (many strong) =
          elsewhere_has closer before (pair ∷ after) [] (pair ∷ []) (many strong) (before_elsewhere closer before (before_more index closer before (omega arith) h))
          (closer_has pair after (differs index closer (omega arith)) (behind_elsewhere closer (closer + 1) after (omega arith) later.behind)) in
          let later_says : printed text pairs spans (at + length (emphasis_text strong words)) (closer + 1) later.pieces ≡ html =
          ap (λ (ps : List Pair). printed text ps spans (at + length (emphasis_text strong words)) (closer + 1) later.pieces) (pairs_join before pair after)
          ∙ later.says (before ++ pair ∷ []) earlier (before_pair (closer + 1) before pair (before_more index (closer + 1) before (omega arith) h) (omega arith) (omega arith)) k (spans_more index (closer + 1) earlier (omega arith) l) in
          span_then text pairs spans at index p (c.pieces ++ q ∷ later.pieces)
          ∙ ap (λ (hs : List ℕ). hs ++ printed text pairs spans (at + (p.more + 1)) (index + 1) (c.pieces ++ q ∷ later.pieces)) (star_opens text pairs spans links at index closer strong s.both_first has_open)
          ∙ ap (λ (hs : List ℕ). tag (emphasis_name strong) ++ hs)
          (same_printed text pairs spans (at + (p.more + 1)) inside_at (index + 1) (index + 1) (c.pieces ++ q ∷ later.pieces) begun refl
          ∙ words_then text pairs spans links (stars ++ tail) (rest_of words ++ (stars ++ tail)) inside_at (index + 1) c.pieces (q ∷ later.pieces) words s.inside c.are
          ∙ ap (λ (hs : List ℕ). html_text words ++ hs)
          (same_printed text pairs spans (inside_at + bytes_in c.pieces) end_at closer closer (q ∷ later.pieces) place refl
          ∙ span_then text pairs spans end_at closer q later.pieces
          ∙ ap (λ (hs : List ℕ). hs ++ printed text pairs spans (end_at + (q.more + 1)) (closer + 1) later.pieces) (star_closes text pairs spans links end_at index closer strong s.both_last has_close)
          ∙ ap (λ (hs : List ℕ). end_tag (emphasis_name strong) ++ hs)
          (same_printed text pairs spans (end_at + (q.more + 1)) (at + length (emphasis_text strong words)) (closer + 1) (closer + 1) later.pieces ended_piece refl ∙ later_says)))
          ∙ ap (λ (hs : List ℕ). tag (emphasis_name strong) ++ hs) (sym (append_assoc (html_text words) (end_tag (emphasis_name strong)) html))
          ∙ sym (append_assoc (tag (emphasis_name strong)) (html_text words ++ end_tag (emphasis_name strong)) html);
      spans = λ leads.
          star_no_link leads text at index open_run strong (c.pieces ++ q ∷ later.pieces)
          ∙ same_spans leads text (at + (p.more + 1)) inside_at (index + 1) (index + 1) (c.pieces ++ q ∷ later.pieces) begun refl
          ∙ no_spans leads text (stars ++ tail) (rest_of words ++ (stars ++ tail)) inside_at (index + 1) c.pieces (q ∷ later.pieces) words c.are
          ∙ same_spans leads text (inside_at + bytes_in c.pieces) end_at closer closer (q ∷ later.pieces) place refl
          ∙ star_no_link leads text end_at closer close_run strong later.pieces
          ∙ same_spans leads text (end_at + (q.more + 1)) (at + length (emphasis_text strong words)) (closer + 1) (closer + 1) later.pieces ended_piece refl
          ∙ later.spans leads;
    }

-- ---- a link

-- none of these passes
abbrev Misses : (Span → Bool) → List Span → Type 0
Misses test [] = Unit {0}
Misses test (s ∷ ss) = (test s ≡ false) × Misses test ss

filter_none : (test : Span → Bool) (ss : List Span) → Misses test ss → filter test ss ≡ []
filter_none test [] h = refl
filter_none test (s ∷ ss) h = ap (λ (t : Bool). cond t (s ∷ filter test ss) (filter test ss)) h.0 ∙ filter_none test ss h.1

-- one passes, and none before it or behind
filter_one : (test : Span → Bool) (earlier : List Span) (s : Span) (later : List Span) → Misses test earlier → test s ≡ true → Misses test later → filter test (earlier ++ s ∷ later) ≡ s ∷ []
filter_one test [] s later h e k = ap (λ (t : Bool). cond t (s ∷ filter test later) (filter test later)) e ∙ ap (λ (ss : List Span). s ∷ ss) (filter_none test later k)
filter_one test (x ∷ xs) s later h e k = ap (λ (t : Bool). cond t (x ∷ filter test (xs ++ s ∷ later)) (filter test (xs ++ s ∷ later))) h.0 ∙ filter_one test xs s later h.1 e k

same_number : (n : ℕ) → (n == n) ≡ true
same_number n = grind (arith, nat_tests)

before_opener : (n m : ℕ) (ss : List Span) → n ≤ m → SpansBefore n ss → Misses (λ s. s.opener == m) ss
before_opener n m [] less h = tt
before_opener n m (s ∷ ss) less h = (differs s.opener m (omega (arith, less, h.0)), before_opener n m ss less h.2)

before_closer : (n m : ℕ) (ss : List Span) → n ≤ m → SpansBefore n ss → Misses (λ s. s.closer == m) ss
before_closer n m [] less h = tt
before_closer n m (s ∷ ss) less h = (differs s.closer m (omega (arith, less, h.1)), before_closer n m ss less h.2)

behind_opener : (n m : ℕ) (ss : List Span) → m < n → SpansBehind n ss → Misses (λ s. s.opener == m) ss
behind_opener n m [] less h = tt
behind_opener n m (s ∷ ss) less h = (differs_back s.opener m (omega (arith, less, h.0)), behind_opener n m ss less h.2)

behind_closer : (n m : ℕ) (ss : List Span) → m < n → SpansBehind n ss → Misses (λ s. s.closer == m) ss
behind_closer n m [] less h = tt
behind_closer n m (s ∷ ss) less h = (differs_back s.closer m (omega (arith, less, h.1)), behind_closer n m ss less h.2)

-- the span of a link
abbrev span_of : (opener closer : ℕ) → List ℕ → Span
span_of opener closer destination = record { opener = opener; closer = closer; image = false; leads = record { destination = destination; title = [] } }

link_opens : (text : List ℕ) (pairs : List Pair) (spans : List Span) → AreLinks spans → (at opener closer : ℕ) (destination : List ℕ) → filter (λ s. s.opener == opener) spans ≡ span_of opener closer destination ∷ []
    → piece_html (words_with text pairs spans) at opener open_piece ≡ span_begin (span_of opener closer destination)
link_opens text pairs spans links at opener closer destination e =
    piece_shown text pairs spans links at opener open_piece ∙ ap (λ (ss : List Span). bracket_text false ss ++ flat_map span_begin ss) e ∙ append-nil (span_begin (span_of opener closer destination))

link_closes : (text : List ℕ) (pairs : List Pair) (spans : List Span) → AreLinks spans → (at opener closer len : ℕ) (destination : List ℕ) → filter (λ s. s.closer == closer) spans ≡ span_of opener closer destination ∷ []
    → piece_html (words_with text pairs spans) at closer (close_piece opener len) ≡ codes "</a>"
link_closes text pairs spans links at opener closer len destination e = piece_shown text pairs spans links at closer (close_piece opener len) ∙ ap (λ (ss : List Span). flat_map span_end ss) e

bracket_no_link : (leads : List Leads) (text : List ℕ) (at index : ℕ) (ps : List Piece) → spans_from leads text at index (open_piece ∷ ps) ≡ spans_from leads text (at + 1) (index + 1) ps
unfolding spans_from
bracket_no_link leads text at index ps = refl

link_span : (leads : List Leads) (text : List ℕ) (at opener index len : ℕ) (destination : List ℕ) (ps : List Piece) → inline_leads (take len (drop (at + 1) text)) ≡ record { destination = destination; title = [] }
    → spans_from leads text at index (close_piece opener len ∷ ps) ≡ span_of opener index destination ∷ spans_from leads text (at + (len + 1)) (index + 1) ps
unfolding spans_from
link_span leads text at opener index len destination ps e =
    ap (λ (l : Leads). record { opener = opener; closer = index; image = false; leads = l } ∷ spans_from leads text (at + (len + 1)) (index + 1) ps) e

regroup : (a b c h e x : List ℕ) → (a ++ (b ++ c)) ++ (h ++ (e ++ x)) ≡ (a ++ (b ++ (c ++ (h ++ e)))) ++ x
regroup a b c h e x =
    append_assoc a (b ++ c) (h ++ (e ++ x))
    ∙ ap (λ (ws : List ℕ). a ++ ws)
    (append_assoc b c (h ++ (e ++ x))
    ∙ ap (λ (ws : List ℕ). b ++ ws) (ap (λ (ws : List ℕ). c ++ ws) (sym (append_assoc h e x)) ∙ sym (append_assoc c (h ++ e) x))
    ∙ sym (append_assoc b (c ++ (h ++ e)) x))
    ∙ sym (append_assoc a (b ++ (c ++ (h ++ e))) x)

link_and : (words destination tail : List ℕ) → link_text words destination ++ tail ≡ 91 ∷ (rest_of words ++ 93 ∷ 40 ∷ (destination ++ 41 ∷ tail))
link_and words destination tail =
    ap (λ (bs : List ℕ). 91 ∷ bs) (append_assoc (rest_of words) (93 ∷ 40 ∷ (destination ++ 41 ∷ [])) tail ∙ ap (λ (bs : List ℕ). rest_of words ++ 93 ∷ 40 ∷ bs) (append_assoc destination (41 ∷ []) tail))

-- a link, and what follows it
link_is : (labels : List (List ℕ)) (text : List ℕ) (at index b : ℕ) (bs : List ℕ) (d : ℕ) (ds tail html : List ℕ) → is_line (b ∷ bs) ≡ true → list_all is_direct (d ∷ ds) ≡ true → drop at text ≡ link_text (b ∷ bs) (d ∷ ds) ++ tail
    → (c : IsCut labels text (at + 1) (index + 1) (rest_of (b ∷ bs)) (b ∷ bs) (93 ∷ 40 ∷ ((d ∷ ds) ++ 41 ∷ tail)))
    → IsPrinted labels text (at + length (link_text (b ∷ bs) (d ∷ ds))) (index + 1 + length c.pieces + 1) tail html
    → IsPrinted labels text at index (link_text (b ∷ bs) (d ∷ ds) ++ tail) (phrase_html (link (b ∷ bs) (d ∷ ds)) ++ html)
link_is labels text at index b bs d ds tail html line direct e c later =
    let words = b ∷ bs in
    let destination = d ∷ ds in
    let closing = 93 ∷ 40 ∷ (destination ++ 41 ∷ tail) in
    let len = length destination + 2 in
    let inside_at = at + 1 in
    let end_at = inside_at + length (rest_of words) in
    let closer = index + 1 + length c.pieces in
    let q = close_piece index len in
    let span = span_of index closer destination in
    let here : drop at text ≡ 91 ∷ (rest_of words ++ closing) = e ∙ link_and words destination tail in
    let inside : drop inside_at text ≡ rest_of words ++ closing = behind_more text at 1 (91 ∷ []) (rest_of words ++ closing) here refl in
    let end : drop end_at text ≡ closing = behind_more text inside_at (length (rest_of words)) (rest_of words) closing inside refl in
    let target : drop (end_at + 1) text ≡ 40 ∷ (destination ++ 41 ∷ tail) = behind_more text end_at 1 (93 ∷ []) (40 ∷ (destination ++ 41 ∷ tail)) end refl in
    let target_len : len ≡ length (40 ∷ (destination ++ 41 ∷ [])) = omega (arith, length-append destination (41 ∷ [])) in
    let part : take len (drop (end_at + 1) text) ≡ 40 ∷ (destination ++ 41 ∷ []) =
    ap (take len) (target ∙ ap (λ (ws : List ℕ). 40 ∷ ws) (sym (append_assoc destination (41 ∷ []) tail)))
    ∙ ap (λ (n : ℕ). take n ((40 ∷ (destination ++ 41 ∷ [])) ++ tail)) target_len
    ∙ take-append_seam (40 ∷ (destination ++ 41 ∷ [])) tail in
    let all : length (link_text words destination) ≡ 1 + (length (rest_of words) + (length destination + 3)) =
    omega (arith, length-append (rest_of words) (93 ∷ 40 ∷ (destination ++ 41 ∷ [])), length-append destination (41 ∷ [])) in
    let ended : end_at + (length destination + 3) ≡ at + length (link_text words destination) = omega (arith, all) in
    let ended_piece : end_at + (len + 1) ≡ at + length (link_text words destination) = omega (arith, all) in
    let place : inside_at + bytes_in c.pieces ≡ end_at = ap (λ (n : ℕ). inside_at + n) c.many in
    record {
      pieces = open_piece ∷ (c.pieces ++ q ∷ later.pieces);
      stars = later.stars;
      links = span ∷ later.links;
      cut = λ runs.
          ap (λ (ws : List ℕ). cut_from labels text 0 at index (free runs) ws) (link_and words destination tail)
          ∙ open_cut labels runs text at index (rest_of words ++ closing) here
          ∙ ap (onto open_piece) (c.cut (opened index (at + 1) runs))
          ∙ ap (λ (x : Pieces). onto open_piece (before_others c.pieces x)) (close_cut labels runs text index (at + 1) end_at closer d ds tail (omega arith) end target direct)
          ∙ ap (λ (x : Pieces). onto open_piece (before_others c.pieces (onto q x)))
          (same_places labels (free runs) text (end_at + (length destination + 3)) (at + length (link_text words destination)) (closer + 1) (closer + 1) tail ended refl ∙ later.cut runs);
      behind = behind_less index (closer + 1) (pairs_of later.stars) (omega arith) later.behind;
      linked = (refl, later.linked);
      apart = (omega arith, omega arith, spans_less index (closer + 1) later.links (omega arith) later.apart);
      says = λ before earlier h k l.
          let pairs = before ++ pairs_of later.stars in
          let spans = earlier ++ span ∷ later.links in
          let links = both_links earlier (span ∷ later.links) k (refl, later.linked) in
          let opens : filter (λ s. s.opener == index) spans ≡ span ∷ [] =
          filter_one (λ s. s.opener == index) earlier span later.links (before_opener index index earlier (omega arith) l) (same_number index) (behind_opener (closer + 1) index later.links (omega arith) later.apart) in
          let closes : filter (λ s. s.closer == closer) spans ≡ span ∷ [] =
          filter_one (λ s. s.closer == closer) earlier span later.links (before_closer index closer earlier (omega arith) l) (same_number closer) (behind_closer (closer + 1) closer later.links (omega arith) later.apart) in
          let later_says : printed text pairs spans (at + length (link_text words destination)) (closer + 1) later.pieces ≡ html =
          ap (λ (ss : List Span). printed text pairs ss (at + length (link_text words destination)) (closer + 1) later.pieces) (sym (append_assoc earlier (span ∷ []) later.links))
          ∙ later.says before (earlier ++ span ∷ []) (before_more index (closer + 1) before (omega arith) h) (both_links earlier (span ∷ []) k (refl, tt)) (spans_push (closer + 1) earlier span (spans_more index (closer + 1) earlier (omega arith) l) (omega arith) (omega arith)) in
          span_then text pairs spans at index open_piece (c.pieces ++ q ∷ later.pieces)
          ∙ ap (λ (hs : List ℕ). hs ++ printed text pairs spans (at + (0 + 1)) (index + 1) (c.pieces ++ q ∷ later.pieces)) (link_opens text pairs spans links at index closer destination opens)
          ∙ ap (λ (hs : List ℕ). span_begin span ++ hs)
          (words_then text pairs spans links closing (rest_of words ++ closing) inside_at (index + 1) c.pieces (q ∷ later.pieces) words inside c.are
          ∙ ap (λ (hs : List ℕ). html_text words ++ hs)
          (same_printed text pairs spans (inside_at + bytes_in c.pieces) end_at closer closer (q ∷ later.pieces) place refl
          ∙ span_then text pairs spans end_at closer q later.pieces
          ∙ ap (λ (hs : List ℕ). hs ++ printed text pairs spans (end_at + (len + 1)) (closer + 1) later.pieces) (link_closes text pairs spans links end_at index closer len destination closes)
          ∙ ap (λ (hs : List ℕ). codes "</a>" ++ hs) (same_printed text pairs spans (end_at + (len + 1)) (at + length (link_text words destination)) (closer + 1) (closer + 1) later.pieces ended_piece refl ∙ later_says)))
          ∙ regroup (codes "<a") (attribute (codes "href") (addressed destination)) (codes ">") (html_text words) (codes "</a>") html;
      spans = λ leads.
          bracket_no_link leads text at index (c.pieces ++ q ∷ later.pieces)
          ∙ no_spans leads text closing (rest_of words ++ closing) inside_at (index + 1) c.pieces (q ∷ later.pieces) words c.are
          ∙ same_spans leads text (inside_at + bytes_in c.pieces) end_at closer closer (q ∷ later.pieces) place refl
          ∙ link_span leads text end_at index closer len destination later.pieces (ap inline_leads part ∙ leads_there d ds direct)
          ∙ ap (λ (ss : List Span). span ∷ ss) (same_spans leads text (end_at + (len + 1)) (at + length (link_text words destination)) (closer + 1) (closer + 1) later.pieces ended_piece refl ∙ later.spans leads);
    }

-- ---- phrases, one after the other

-- what follows words
tail_of : (ps : List Phrase) → begins_words ps ≡ false → IsTail (flat_map phrase_text ps)
tail_of [] h = none_follows
tail_of (plain words ∷ ps) h = impossible _ (sym h)
tail_of (code_span code ∷ ps) h = code_follows _
tail_of (emphasis strong words ∷ ps) h = star_follows _
tail_of (link words destination ∷ ps) h = opening_follows _

-- what follows code
tickless_of : (ps : List Phrase) → begins_code ps ≡ false → list_all is_phrase ps ≡ true → IsTickless (flat_map phrase_text ps)
tickless_of [] h each = tt
tickless_of (code_span code ∷ ps) h each = impossible _ (sym h)
tickless_of (emphasis strong words ∷ ps) h each = refl
tickless_of (link words destination ∷ ps) h each = refl
tickless_of (plain [] ∷ ps) h each = impossible _ each
tickless_of (plain (b ∷ bs) ∷ ps) h each =
    by_escape (λ (front : List ℕ). IsTickless ((front ++ flat_map escaped_byte bs) ++ flat_map phrase_text ps)) (is_mark b) b (λ e. refl) (λ e. no_other is_mark b 96 refl e)

-- what follows emphasis
starless_of : (ps : List Phrase) → begins_emphasis ps ≡ false → list_all is_phrase ps ≡ true → (first (flat_map phrase_text ps) == 42) ≡ false
starless_of [] h each = refl
starless_of (code_span code ∷ ps) h each = refl
starless_of (link words destination ∷ ps) h each = refl
starless_of (emphasis strong words ∷ ps) h each = impossible _ (sym h)
starless_of (plain [] ∷ ps) h each = impossible _ each
starless_of (plain (b ∷ bs) ∷ ps) h each = words_starless b bs (flat_map phrase_text ps)

-- what it begins with
next_beside : (ps : List Phrase) → begins_emphasis ps ≡ false → list_all is_phrase ps ≡ true → list_all is_text ps ≡ true → beside (first_char (chars (flat_map phrase_text ps))) ≡ next_of ps
next_beside [] h each texts = nothing_first
next_beside (code_span code ∷ ps) h each texts = tick_first _
next_beside (link words destination ∷ ps) h each texts = bracket_first _
next_beside (emphasis strong words ∷ ps) h each texts = impossible _ (sym h)
next_beside (plain [] ∷ ps) h each texts = impossible _ each
next_beside (plain (b ∷ bs) ∷ ps) h each texts =
    first_same b bs (flat_map phrase_text ps) (IsUtf8-from_is_utf8 (b ∷ bs) (and_parts (is_utf8 (b ∷ bs)) (list_all is_text ps) texts).0)

behind : (text : List ℕ) (at : ℕ) (bytes tail : List ℕ) → drop at text ≡ bytes ++ tail → drop (at + length bytes) text ≡ tail
behind text at bytes tail e = behind_more text at (length bytes) bytes tail e refl

some_line : (bytes : List ℕ) → is_some_line bytes ≡ true → is_line bytes ≡ true
some_line [] h = impossible _ h
some_line (b ∷ bs) h = h

negated : (t : Bool) → not t ≡ true → t ≡ false
negated true h = sym h
negated false h = refl

-- What is before phrases at a place, where emphasis is among them: it is UTF-8, as they are, and ends with this.
record IsFront (text : List ℕ) (at : ℕ) (before : Neighbor) (ps : List Phrase) : Type 0 where
  front : has_emphasis ps ≡ true → IsUtf8 (take at text)
  texts : has_emphasis ps ≡ true → list_all is_text ps ≡ true
  outer : has_emphasis ps ≡ true → beside (last_char (chars (take at text))) ≡ before

-- the same behind one more phrase
front_then : (text : List ℕ) (at : ℕ) (bytes tail : List ℕ) (last : Option ℕ) (before : Neighbor) (ps : List Phrase) → drop at text ≡ bytes ++ tail → beside last ≡ before
    → (has_emphasis ps ≡ true → IsUtf8 (take at text)) → (has_emphasis ps ≡ true → EndsWith bytes last) → (has_emphasis ps ≡ true → list_all is_text ps ≡ true)
    → IsFront text (at + length bytes) before ps
front_then text at bytes tail last before ps e is front ends texts =
    let more = front_more text at (length bytes) bytes tail e refl in
    record {
      front = λ h. subst IsUtf8 (sym more) (IsUtf8-append (take at text) bytes (front h) (ends h).text);
      texts = texts;
      outer = λ h. ap beside (ap (λ (cs : List ℕ). last_char (chars cs)) more ∙ ends_behind (take at text) bytes last (front h) (ends h)) ∙ is;
    }

-- the texts of phrases, and that of the first
first_text_of : (words : List ℕ) (p : Bool) → (is_utf8 words && p) ≡ true → IsUtf8 words
first_text_of words p h = IsUtf8-from_is_utf8 words (and_parts (is_utf8 words) p h).0

others_are : (labels : List (List ℕ)) (text : List ℕ) (at index : ℕ) (before : Neighbor) (ps : List Phrase) → take_turns ps ≡ true → list_all is_phrase ps ≡ true → stars_flank before ps ≡ true → IsFront text at before ps
    → drop at text ≡ flat_map phrase_text ps → IsPrinted labels text at index (flat_map phrase_text ps) (flat_map phrase_html ps)
others_are labels text at index before [] turns each apart f e = nothing_is labels text at index
others_are labels text at index before (plain [] ∷ ps) turns each apart f e = impossible _ each
others_are labels text at index before (code_span [] ∷ ps) turns each apart f e = impossible _ each
others_are labels text at index before (emphasis strong [] ∷ ps) turns each apart f e = impossible _ each
others_are labels text at index before (link [] destination ∷ ps) turns each apart f e = impossible _ each
others_are labels text at index before (link (b ∷ bs) [] ∷ ps) turns each apart f e = impossible _ (and_parts (is_line (b ∷ bs)) false (and_parts (is_line (b ∷ bs) && false) (list_all is_phrase ps) each).0).1
others_are labels text at index before (link (b ∷ bs) (d ∷ ds) ∷ ps) turns each apart f e =
    let ws = b ∷ bs in
    let destination = d ∷ ds in
    let tail = flat_map phrase_text ps in
    let line = and_parts (is_line ws && list_all is_direct destination) (list_all is_phrase ps) each in
    let both = and_parts (is_line ws) (list_all is_direct destination) line.0 in
    let turn = and_parts (not (begins_link ps)) (take_turns ps) turns in
    let inside = behind_more text at 1 (91 ∷ []) (rest_of ws ++ 93 ∷ 40 ∷ (destination ++ 41 ∷ tail)) (e ∙ link_and ws destination tail) refl in
    let c = others_cut labels text (at + 1) (index + 1) ws (93 ∷ 40 ∷ (destination ++ 41 ∷ tail)) both.0 (closing_follows _) inside in
    let next = front_then text at (link_text ws destination) tail (Some 41) Punctuation ps e paren_beside f.front (λ h. link_ends_with b bs destination (first_text_of ws (list_all is_text ps) (f.texts h)) (direct_text destination both.1))
    (λ h. (and_parts (is_utf8 ws) (list_all is_text ps) (f.texts h)).1) in
    link_is labels text at index b bs d ds tail (flat_map phrase_html ps) both.0 both.1 e c
    (others_are labels text (at + length (link_text ws destination)) (index + 1 + length c.pieces + 1) Punctuation ps turn.1 line.1 apart next (behind text at (link_text ws destination) tail e))
others_are labels text at index before (plain (b ∷ bs) ∷ ps) turns each apart f e =
    let ws = b ∷ bs in
    let tail = flat_map phrase_text ps in
    let line = and_parts (is_some_line ws) (list_all is_phrase ps) each in
    let turn = and_parts (not (begins_words ps)) (take_turns ps) turns in
    let c = others_cut labels text at index ws tail (some_line ws line.0) (tail_of ps (negated (begins_words ps) turn.0)) e in
    let next = front_then text at (rest_of ws) tail (last_char (chars ws)) (last_of ws) ps e refl f.front (λ h. rest_ends_with b bs (first_text_of ws (list_all is_text ps) (f.texts h)))
    (λ h. (and_parts (is_utf8 ws) (list_all is_text ps) (f.texts h)).1) in
    words_are labels text at index (rest_of ws) ws tail (flat_map phrase_html ps) e c
    (others_are labels text (at + length (rest_of ws)) (index + length c.pieces) (last_of ws) ps turn.1 line.1 apart next (behind text at (rest_of ws) tail e))
others_are labels text at index before (code_span (b ∷ bs) ∷ ps) turns each apart f e =
    let code = b ∷ bs in
    let tail = flat_map phrase_text ps in
    let line = and_parts (is_line code) (list_all is_phrase ps) each in
    let turn = and_parts (not (begins_code ps)) (take_turns ps) turns in
    let next = front_then text at (span_text code) tail (Some 96) Punctuation ps e tick_beside f.front (λ h. span_ends_with code (first_text_of code (list_all is_text ps) (f.texts h)))
    (λ h. (and_parts (is_utf8 code) (list_all is_text ps) (f.texts h)).1) in
    span_is labels text at index b bs tail (flat_map phrase_html ps) line.0 e (tickless_of ps (negated (begins_code ps) turn.0) line.1)
    (others_are labels text (at + length (span_text code)) (index + 1) Punctuation ps turn.1 line.1 apart next (behind text at (span_text code) tail e))
others_are labels text at index before (emphasis strong (b ∷ bs) ∷ ps) turns each apart f e =
    let ws = b ∷ bs in
    let tail = flat_map phrase_text ps in
    let line = and_parts (is_line ws) (list_all is_phrase ps) each in
    let turn = and_parts (not (begins_emphasis ps)) (take_turns ps) turns in
    let alone = negated (begins_emphasis ps) turn.0 in
    let stand = and_parts (is_flanking (first_of ws) before && is_flanking (last_of ws) (next_of ps)) (stars_flank Punctuation ps) apart in
    let sides = and_parts (is_flanking (first_of ws) before) (is_flanking (last_of ws) (next_of ps)) stand.0 in
    let texts = and_parts (is_utf8 ws) (list_all is_text ps) (f.texts refl) in
    let u = first_text_of ws (list_all is_text ps) (f.texts refl) in
    let s = stands text at strong b bs tail before (next_of ps) e (f.front refl) (f.outer refl) u sides.0 sides.1 (next_beside ps alone line.1 texts.1) in
    let c = others_cut labels text (at + many strong) (index + 1) ws (star_marks strong ++ tail) line.0 (star_follows _) s.inside in
    let next = front_then text at (emphasis_text strong ws) tail (Some 42) Punctuation ps e star_beside (λ h. f.front refl) (λ h. emphasis_ends_with strong b bs u) (λ h. texts.1) in
    emphasis_is labels text at index strong b bs tail (flat_map phrase_html ps) s (starless_of ps alone line.1) c
    (others_are labels text (at + length (emphasis_text strong ws)) (index + 1 + length c.pieces + 1) Punctuation ps turn.1 line.1 stand.1 next (behind text at (emphasis_text strong ws) tail e))

-- before a line is nothing
at_start : (text : List ℕ) (ps : List Phrase) → (has_emphasis ps ≡ true → list_all is_text ps ≡ true) → IsFront text 0 Blank ps
at_start text ps texts = record { front = λ h. IsUtf8-nil; texts = texts; outer = λ h. nothing_last }

line_is : (labels : List (List ℕ)) (ps : List Phrase) → ArePhrases ps → StarsFit ps → IsPrinted labels (line_text ps) 0 0 (line_text ps) (flat_map phrase_html ps)
line_is labels [] h s = nothing_is labels [] 0 0
line_is labels (plain [] ∷ ps) h s = impossible _ h.each
line_is labels (code_span code ∷ ps) h s =
    let all = code_span code ∷ ps in
    others_are labels (line_text all) 0 0 Blank all h.turns h.each s.flank (at_start (line_text all) all s.texts) refl
line_is labels (emphasis strong words ∷ ps) h s =
    let all = emphasis strong words ∷ ps in
    others_are labels (line_text all) 0 0 Blank all h.turns h.each s.flank (at_start (line_text all) all s.texts) refl
line_is labels (link words destination ∷ ps) h s =
    let all = link words destination ∷ ps in
    others_are labels (line_text all) 0 0 Blank all h.turns h.each s.flank (at_start (line_text all) all s.texts) refl
line_is labels (plain (b ∷ bs) ∷ ps) h s =
    let ws = b ∷ bs in
    let tail = flat_map phrase_text ps in
    let text = escaped ws ++ tail in
    let line = and_parts (is_some_line ws) (list_all is_phrase ps) h.each in
    let turn = and_parts (not (begins_words ps)) (take_turns ps) h.turns in
    let c = first_cut labels ws tail (some_line ws line.0) (tail_of ps (negated (begins_words ps) turn.0)) in
    let next = front_then text 0 (escaped ws) tail (last_char (chars ws)) (last_of ws) ps refl refl (λ k. IsUtf8-nil) (λ k. first_ends_with b bs (first_text_of ws (list_all is_text ps) (s.texts k)))
    (λ k. (and_parts (is_utf8 ws) (list_all is_text ps) (s.texts k)).1) in
    words_are labels text 0 0 (escaped ws) ws tail (flat_map phrase_html ps) refl c
    (others_are labels text (0 + length (escaped ws)) (0 + length c.pieces) (last_of ws) ps turn.1 line.1 s.flank next (behind text 0 (escaped ws) tail refl))

-- phrases are printed
pub phrases_printed : PhrasesArePrinted
unfolding inline_html
phrases_printed defined ps h s =
    let text = line_text ps in
    let found = line_is defined.labels ps h s in
    let pieces_are : (cut_text defined.labels text).pieces ≡ found.pieces = ap (λ (c : Pieces). c.pieces) (found.cut []) in
    let pairs_are : (cut_text defined.labels text).pairs ≡ pairs_of found.stars = ap (λ (c : Pieces). finished c.reading) (found.cut []) ∙ stars_matched found.stars in
    ap (λ (qs : List Piece). pieces_html (record { text = text; pairs = (cut_text defined.labels text).pairs; spans = spans_from defined.leads text 0 0 qs }) 0 0 qs) pieces_are
    ∙ ap (λ (pairs : List Pair). pieces_html (record { text = text; pairs = pairs; spans = spans_from defined.leads text 0 0 found.pieces }) 0 0 found.pieces) pairs_are
    ∙ ap (λ (ss : List Span). pieces_html (record { text = text; pairs = pairs_of found.stars; spans = ss }) 0 0 found.pieces) (found.spans defined.leads)
    ∙ found.says [] [] tt tt tt
