-- The numbers of links are those of the runs that belong to links: as many, and each of a link that is there.
use Rattle.std.proofs.Common.{◌≡◌, ℕ, ◌+◌, ◌<◌, ◌≤◌, Bool, true, false, not, ◌==◌, ◌||◌, List, [], ◌∷◌, ◌++◌, map, length, drop, Option, Some, None, is_some, refl, sym, ap, subst, ◌∙◌, arith, append-nil, encode_utf8, if◌then◌else◌}
use Rattle.std.specs.List.{AllByRecursion, flat_map}
use Rattle.std.proofs.lemmas.List.{length-append, length-map}
use Rattle.markdown_emphasis.specs.declared.flags.Flags.{Flags}
use Rattle.markdown_emphasis.specs.Flags.{flags_of}
use Rattle.markdown_pieces.specs.Cut.{CutText, cut_text}
use Rattle.markdown_pieces.specs.declared.pieces.Kind.{Kind}
use Rattle.markdown_pieces.specs.declared.pieces.Kind.TheVariants.{Plain, Shown as ShownKind, Code as CodeKind, Address, Bare, Html as HtmlKind, Soft, Hard, Run as RunKind, Opening, Closing}
use Rattle.markdown_pieces.specs.declared.pieces.Piece.{Piece}
use Rattle.markdown_inlines.specs.declared.links.Ahead.{Ahead}
use Rattle.markdown_inlines.specs.declared.links.Over.{Over}
use Rattle.markdown_inlines.specs.declared.looks.Look.{Look}
use Rattle.markdown_inlines.specs.declared.inlines.LinkTarget.{LinkTarget}
use Rattle.markdown_inlines.specs.Inlines.{look_at, shown_piece, shown_from, shown_cut, all_over, left_of, leaf_text, link_target, with_link, links_from, leaf_links, target_by}
use Rattle.markdown_inlines.specs.Links.{links_in, link_count, nearest, nearest_picture, opens_at, own_link, or_number, link_over, stepped_back, overs_from, overs_of}
use Rattle.markdown_spans.specs.declared.attributes.Flag.{Flag}
use Rattle.markdown_spans.specs.declared.attributes.Flag.TheVariants.{Bold, Italic, Strikeout, Code as CodeFlag}
use Rattle.markdown_spans.specs.declared.attributes.Html.{Html}
use Rattle.markdown_spans.specs.declared.attributes.Html.TheVariants.{Nothing, Break, Alternative, Source, On, Off, Link as LinkTag, LinkEnd}
use Rattle.markdown_html_text.specs.HtmlPieces.{html_cut, html_pieces}
use Rattle.markdown_inlines.specs.declared.tags.Tags.{Tags}
use Rattle.markdown_inlines.specs.Tags.{no_tags, with_flag, without_flag, after_html, after_kind, after_piece, tagged_from}
use Rattle.markdown_inlines.specs.Parts.{piece_shown}
use Rattle.markdown_inlines.specs.Styled.{Shown, shown_with}
use Rattle.mad_md.specs.Flagged.{Run}
use Rattle.mad_md.specs.Lines.{LineContent}
use Rattle.markdown_lines.specs.Glyphs.{glyph_of, leaf_glyphs, html_glyphs, trimmed, space, spaced_from, is_same_run, run_with, runs_from, runs_of}
use Rattle.markdown_lines.specs.Leaf.{row_of, rows_from, leaf_rows, cell_runs, html_lines}
use Rattle.markdown_lines.specs.LinkNumbers.{one_number, numbers_from, numbers_of, row_numbers, rows_numbers_from, leaf_numbers, html_numbers, cell_numbers, after_links}
use Rattle.markdown_lines.specs.declared.glyphs.Glyph.{Glyph}
use Rattle.markdown_lines.proofs.NumberLemmas.{trimmed_kept, append_kept}
use Rattle.mad_link_marks.specs.LinkMarks.{run_texts, line_texts, link_texts}

-- ---- links over pieces

-- no link, or one of so many
abbrev pub IsBelow : ℕ → Option ℕ → Type 0
IsBelow count None = Unit {0}
IsBelow count (Some n) = n < count

abbrev IsAhead : ℕ → Ahead → Type 0
IsAhead count a = IsBelow count a.number

abbrev IsOver : ℕ → Over → Type 0
IsOver count o = IsBelow count o.link

own_below : (count number : ℕ) (kind : Kind) → number + links_in kind ≤ count → IsBelow count (own_link number kind)
own_below count number Plain h = tt
own_below count number (ShownKind c second) h = tt
own_below count number (CodeKind code) h = tt
own_below count number (Address len scheme) h = omega (arith, h)
own_below count number (Bare scheme) h = omega (arith, h)
own_below count number (HtmlKind html) h = tt
own_below count number Soft h = tt
own_below count number Hard h = tt
own_below count number (RunKind run) h = tt
own_below count number (Opening image) h = tt
own_below count number (Closing link) h = tt

nearest_below : (count : ℕ) (ahead : List Ahead) → AllByRecursion (IsAhead count) ahead → IsBelow count (nearest ahead)
nearest_below count [] h = tt
nearest_below count (a ∷ ahead) h = h.0

or_below : (count : ℕ) (a b : Option ℕ) → IsBelow count a → IsBelow count b → IsBelow count (or_number a b)
or_below count None b h k = k
or_below count (Some n) b h k = h

either_below : (count : ℕ) (t : Bool) (a b : Option ℕ) → IsBelow count a → IsBelow count b → IsBelow count (if t then a else b)
either_below count true a b h k = h
either_below count false a b h k = k

over_below : (count number : ℕ) (kind : Kind) (ahead : List Ahead) → IsBelow count (nearest ahead) → IsBelow count (own_link number kind) → IsBelow count (link_over number kind ahead)
over_below count number kind ahead h k =
    either_below count (is_some (nearest_picture ahead)) (nearest ahead) (or_number (nearest ahead) (own_link number kind)) h (or_below count (nearest ahead) (own_link number kind) h k)

closed_below : (count number : ℕ) (image inside : Bool) (around : Option ℕ) → number + (if not image then 1 else 0) ≤ count → IsBelow count around → IsBelow count (if image || inside then around else Some number)
closed_below count number true inside around h k = k
closed_below count number false true around h k = k
closed_below count number false false around h k = omega (arith, h)

if_ahead : (count : ℕ) (t : Bool) (ahead : List Ahead) → AllByRecursion (IsAhead count) ahead → AllByRecursion (IsAhead count) (if t then drop 1 ahead else ahead)
if_ahead count true [] h = tt
if_ahead count true (a ∷ ahead) h = h.1
if_ahead count false ahead h = h

stepped_below : (count index number : ℕ) (kind : Kind) (ahead : List Ahead) → number + links_in kind ≤ count → AllByRecursion (IsAhead count) ahead → AllByRecursion (IsAhead count) (stepped_back index number kind ahead)
stepped_below count index number Plain ahead h k = k
stepped_below count index number (ShownKind c second) ahead h k = k
stepped_below count index number (CodeKind code) ahead h k = k
stepped_below count index number (Address len scheme) ahead h k = k
stepped_below count index number (Bare scheme) ahead h k = k
stepped_below count index number (HtmlKind html) ahead h k = k
stepped_below count index number Soft ahead h k = k
stepped_below count index number Hard ahead h k = k
stepped_below count index number (RunKind run) ahead h k = k
stepped_below count index number (Opening image) ahead h k = if_ahead count (opens_at index ahead) ahead k
stepped_below count index number (Closing None) ahead h k = k
stepped_below count index number (Closing (Some link)) ahead h k = (closed_below count number link.image (is_some (nearest_picture ahead)) (nearest ahead) h (nearest_below count ahead k), k)

overs_below : (count index number : ℕ) (ps : List Piece) → number + link_count ps ≤ count → AllByRecursion (IsOver count) (overs_from index number ps).overs × AllByRecursion (IsAhead count) (overs_from index number ps).ahead
unfolding overs_from link_count
overs_below count index number [] h = (tt, tt)
overs_below count index number (p ∷ ps) h =
    let rest = overs_below count (index + 1) (number + links_in p.kind) ps (omega (arith, h)) in
    let here : number + links_in p.kind ≤ count = omega (arith, h) in
    let ahead : List Ahead = (overs_from (index + 1) (number + links_in p.kind) ps).ahead in (
      (over_below count number p.kind ahead (nearest_below count ahead rest.1) (own_below count number p.kind here), rest.0),
      stepped_below count index number p.kind ahead here rest.1,
    )

-- ---- links of tags

flag_keeps : (flag : Flag) (t : Tags) → (with_flag flag t).link ≡ t.link
flag_keeps Bold t = refl
flag_keeps Italic t = refl
flag_keeps Strikeout t = refl
flag_keeps CodeFlag t = refl

flag_leaves : (flag : Flag) (t : Tags) → (without_flag flag t).link ≡ t.link
flag_leaves Bold t = refl
flag_leaves Italic t = refl
flag_leaves Strikeout t = refl
flag_leaves CodeFlag t = refl

html_below : (count number : ℕ) (html : Html) (t : Tags) → number + links_in (HtmlKind html) ≤ count → IsBelow count t.link → IsBelow count (after_html number html t).link
html_below count number Nothing t h k = k
html_below count number Break t h k = k
html_below count number (Alternative value) t h k = k
html_below count number (Source value) t h k = k
html_below count number (On flag) t h k = subst (IsBelow count) (sym (flag_keeps flag t)) k
html_below count number (Off flag) t h k = subst (IsBelow count) (sym (flag_leaves flag t)) k
html_below count number (LinkTag value) t h k = omega (arith, h)
html_below count number LinkEnd t h k = tt

kind_below : (count number : ℕ) (kind : Kind) (t : Tags) → number + links_in kind ≤ count → IsBelow count t.link → IsBelow count (after_kind number kind t).link
kind_below count number Plain t h k = k
kind_below count number (ShownKind c second) t h k = k
kind_below count number (CodeKind code) t h k = k
kind_below count number (Address len scheme) t h k = k
kind_below count number (Bare scheme) t h k = k
kind_below count number (HtmlKind html) t h k = html_below count number html t h k
kind_below count number Soft t h k = k
kind_below count number Hard t h k = k
kind_below count number (RunKind run) t h k = k
kind_below count number (Opening image) t h k = k
kind_below count number (Closing link) t h k = k

piece_below : (count : ℕ) (said : Bool) (t after : Tags) → IsBelow count t.link → IsBelow count after.link → IsBelow count (if said then t else after).link
piece_below count true t after h k = h
piece_below count false t after h k = k

tagged_below : (count index number : ℕ) (t : Tags) (ps : List Piece) (os : List Over) → number + link_count ps ≤ count → IsBelow count t.link → AllByRecursion (IsOver count) os
    → AllByRecursion (IsOver count) (tagged_from index number t ps os)
unfolding tagged_from link_count
tagged_below count index number t [] os h k all = tt
tagged_below count index number t (p ∷ ps) [] h k all = tt
tagged_below count index number t (p ∷ ps) (o ∷ os) h k all =
    let here : number + links_in p.kind ≤ count = omega (arith, h) in (
      or_below count o.link t.link all.0 k,
      tagged_below count (index + 1) (number + links_in p.kind) (after_piece number p.kind o t) ps os (omega (arith, h)) (piece_below count (is_some o.picture) t (after_kind number p.kind t) k (kind_below count number p.kind t here k)) all.1,
    )

-- ---- characters of a leaf

abbrev IsLooked : ℕ → Shown → Type 0
IsLooked count s = IsBelow count s.look.link

with_below : (count : ℕ) (look : Look) (cs : List ℕ) → IsBelow count look.link → AllByRecursion (IsLooked count) (map (shown_with look) cs)
with_below count look [] h = tt
with_below count look (c ∷ cs) h = (h, with_below count look cs h)

looked_append : (count : ℕ) (xs ys : List Shown) → AllByRecursion (IsLooked count) xs → AllByRecursion (IsLooked count) ys → AllByRecursion (IsLooked count) (xs ++ ys)
looked_append count [] ys h k = k
looked_append count (x ∷ xs) ys h k = (h.0, looked_append count xs ys h.1 k)

shown_below : (count : ℕ) (text : List ℕ) (at : ℕ) (ps : List Piece) (fs : List Flags) (ns : List ℕ) (os : List Over) → AllByRecursion (IsOver count) os → AllByRecursion (IsLooked count) (shown_from text at ps fs ns os)
unfolding shown_from
shown_below count text at [] fs ns os h = tt
shown_below count text at (p ∷ ps) [] ns os h = tt
shown_below count text at (p ∷ ps) (f ∷ fs) [] os h = tt
shown_below count text at (p ∷ ps) (f ∷ fs) (n ∷ ns) [] h = tt
shown_below count text at (p ∷ ps) (f ∷ fs) (n ∷ ns) (o ∷ os) h =
    looked_append count (shown_piece text at p f n o) (shown_from text (at + (p.more + 1)) ps fs ns os) (with_below count (look_at f p o) (piece_shown text at p n o) h.0)
    (shown_below count text (at + (p.more + 1)) ps fs ns os h.1)

one_target : (image : Bool) (target : LinkTarget) (rest : List LinkTarget) → length (with_link (if image then None else Some target) rest) ≡ (if not image then 1 else 0) + length rest
one_target true target rest = omega arith
one_target false target rest = omega arith

html_link : (html : Html) (at more : ℕ) (rest : List LinkTarget) → length (with_link (link_target (HtmlKind html) at more) rest) ≡ links_in (HtmlKind html) + length rest
html_link Nothing at more rest = omega arith
html_link Break at more rest = omega arith
html_link (Alternative value) at more rest = omega arith
html_link (Source value) at more rest = omega arith
html_link (On flag) at more rest = omega arith
html_link (Off flag) at more rest = omega arith
html_link (LinkTag value) at more rest = omega arith
html_link LinkEnd at more rest = omega arith

one_link : (kind : Kind) (at more : ℕ) (rest : List LinkTarget) → length (with_link (link_target kind at more) rest) ≡ links_in kind + length rest
one_link Plain at more rest = omega arith
one_link (ShownKind c second) at more rest = omega arith
one_link (CodeKind code) at more rest = omega arith
one_link (Address len scheme) at more rest = omega arith
one_link (Bare scheme) at more rest = omega arith
one_link (HtmlKind html) at more rest = html_link html at more rest
one_link Soft at more rest = omega arith
one_link Hard at more rest = omega arith
one_link (RunKind run) at more rest = omega arith
one_link (Opening image) at more rest = omega arith
one_link (Closing None) at more rest = omega arith
one_link (Closing (Some link)) at more rest = one_target link.image (target_by link.target (at + 1)) rest

links_many : (at : ℕ) (ps : List Piece) → length (links_from at ps) ≡ link_count ps
unfolding links_from link_count
links_many at [] = refl
links_many at (p ∷ ps) = one_link p.kind at p.more (links_from (at + (p.more + 1)) ps) ∙ ap (λ n. links_in p.kind + n) (links_many (at + (p.more + 1)) ps)

cut_below : (cut : CutText) (text : List ℕ) → AllByRecursion (IsLooked (length (links_from 0 cut.pieces))) (shown_cut cut text)
cut_below cut text =
    let count : ℕ = length (links_from 0 cut.pieces) in
    let many : 0 + link_count cut.pieces ≤ count = (let e = links_many 0 cut.pieces in omega (arith, e)) in
    shown_below count text 0 cut.pieces (flags_of (length cut.pieces) cut.pairs) (left_of cut.pairs cut.pieces) (all_over cut.pieces)
    (tagged_below count 0 0 no_tags cut.pieces (overs_of cut.pieces) many tt (overs_below count 0 0 cut.pieces many).0)

leaf_below : (labels : List (List ℕ)) (text : List ℕ) → AllByRecursion (IsLooked (length (leaf_links labels text))) (leaf_text labels text)
leaf_below labels text = cut_below (cut_text labels text) text

html_is_below : (text : List ℕ) → AllByRecursion (IsLooked (length (links_from 0 (html_pieces text)))) (shown_cut (html_cut text) text)
html_is_below text = cut_below (html_cut text) text

-- ---- glyphs

-- a character has the flag of a link where it belongs to one, which is one of so many
abbrev pub IsFit : ℕ → Glyph → Type 0
IsFit count g = (g.flags.link ≡ is_some g.link) × IsBelow count g.link

glyphs_fit : (count : ℕ) (bold : Bool) (shown : List Shown) → AllByRecursion (IsLooked count) shown → AllByRecursion (IsFit count) (map (glyph_of bold) shown)
glyphs_fit count bold [] h = tt
glyphs_fit count bold (s ∷ shown) h = ((refl, h.0), glyphs_fit count bold shown h.1)

-- so have the characters of a leaf
pub leaf_fit : (labels : List (List ℕ)) (bold : Bool) (text : List ℕ) → AllByRecursion (IsFit (length (leaf_links labels text))) (trimmed (leaf_glyphs labels bold text))
leaf_fit labels bold text =
    let count : ℕ = length (leaf_links labels text) in
    trimmed_kept (IsFit count) (leaf_glyphs labels bold text) (glyphs_fit count bold (leaf_text labels text) (leaf_below labels text))

-- and those of a leaf of html
pub html_fit : (text : List ℕ) → AllByRecursion (IsFit (length (links_from 0 (html_pieces text)))) (trimmed (html_glyphs text))
html_fit text =
    let count : ℕ = length (links_from 0 (html_pieces text)) in
    trimmed_kept (IsFit count) (html_glyphs text) (glyphs_fit count false (shown_cut (html_cut text) text) (html_is_below text))

-- ---- numbers and texts

-- There are as many numbers as texts, each below this one.
abbrev pub Fits : ℕ → List ℕ → List (List ℕ) → Type 0
Fits count numbers texts = (length numbers ≡ length texts) × AllByRecursion (λ n. n < count) numbers

all_append : (P : ℕ → Type 0) (xs ys : List ℕ) → AllByRecursion P xs → AllByRecursion P ys → AllByRecursion P (xs ++ ys)
all_append P [] ys h k = k
all_append P (x ∷ xs) ys h k = (h.0, all_append P xs ys h.1 k)

-- so it is with some and others
pub fits_append : (count : ℕ) (ns ms : List ℕ) (ts us : List (List ℕ)) → Fits count ns ts → Fits count ms us → Fits count (ns ++ ms) (ts ++ us)
fits_append count ns ms ts us h k =
    (length-append ns ms ∙ ap (λ n. n + length ms) h.0 ∙ ap (λ n. length ts + n) k.0 ∙ sym (length-append ts us), all_append (λ n. n < count) ns ms h.1 k.1)

-- where there are more links
pub fits_less : (count more : ℕ) (ns : List ℕ) (ts : List (List ℕ)) → count ≤ more → Fits count ns ts → Fits more ns ts
fits_less count more ns ts le h = (h.0, less count more ns le h.1)
  where
    less : (count more : ℕ) (ns : List ℕ) → count ≤ more → AllByRecursion (λ n. n < count) ns → AllByRecursion (λ n. n < more) ns
    less count more [] le h = tt
    less count more (n ∷ ns) le h = (omega (arith, le, h.0), less count more ns le h.1)

-- behind so many links
pub after_fits : (before count : ℕ) (ns : List ℕ) (ts : List (List ℕ)) → Fits count ns ts → Fits (before + count) (after_links before ns) ts
after_fits before count ns ts h = (length-map ns (λ n. before + n) ∙ h.0, each before count ns h.1)
  where
    each : (before count : ℕ) (ns : List ℕ) → AllByRecursion (λ n. n < count) ns → AllByRecursion (λ n. n < before + count) (after_links before ns)
    each before count [] h = tt
    each before count (n ∷ ns) h = (omega (arith, h.0), each before count ns h.1)

one_by : (count : ℕ) (link : Option ℕ) (flag : Bool) (text : List ℕ) → flag ≡ is_some link → IsBelow count link → Fits count (one_number link) (if flag then text ∷ [] else [])
one_by count None false text e h = (refl, tt)
one_by count None true text e h = absurd (no e)
  where
    no : true ≡ false → ⊥
    no e = cc
one_by count (Some n) true text e h = (refl, (h, tt))
one_by count (Some n) false text e h = absurd (no e)
  where
    no : false ≡ true → ⊥
    no e = cc

one_fits : (count : ℕ) (g : Glyph) (text : List ℕ) → IsFit count g → Fits count (one_number g.link) (run_texts (run_with g.flags text))
one_fits count g text h = one_by count g.link g.flags.link text h.0 h.1

if_fits : (count : ℕ) (t : Bool) (ns ms : List ℕ) (rs qs : List Run) → Fits count ns (flat_map run_texts rs) → Fits count ms (flat_map run_texts qs) → Fits count (if t then ns else ms) (flat_map run_texts (if t then rs else qs))
if_fits count true ns ms rs qs h k = h
if_fits count false ns ms rs qs h k = k

from_fits : (count : ℕ) (first : Glyph) (text : List ℕ) (gs : List Glyph) → IsFit count first → AllByRecursion (IsFit count) gs → Fits count (numbers_from first gs) (flat_map run_texts (runs_from first text gs))
unfolding numbers_from runs_from
from_fits count first text [] h k = subst (Fits count (one_number first.link)) (sym (append-nil (run_texts (run_with first.flags text)))) (one_fits count first text h)
from_fits count first text (g ∷ gs) h k =
    if_fits count (is_same_run first g) (numbers_from first gs) (one_number first.link ++ numbers_from g gs) (runs_from first (text ++ encode_utf8 g.c) gs) (run_with first.flags text ∷ runs_from g (encode_utf8 g.c) gs)
    (from_fits count first (text ++ encode_utf8 g.c) gs h k.1)
    (fits_append count (one_number first.link) (numbers_from g gs) (run_texts (run_with first.flags text)) (flat_map run_texts (runs_from g (encode_utf8 g.c) gs)) (one_fits count first text h) (from_fits count g (encode_utf8 g.c) gs k.0 k.1))

runs_fit : (count : ℕ) (gs : List Glyph) → AllByRecursion (IsFit count) gs → Fits count (numbers_of gs) (flat_map run_texts (runs_of gs))
runs_fit count [] h = (refl, tt)
runs_fit count (g ∷ gs) h = from_fits count g (encode_utf8 g.c) gs h.0 h.1

-- ---- rows and cells

if_rows : (count : ℕ) (t : Bool) (ns ms : List ℕ) (rs qs : List LineContent) → Fits count ns (link_texts rs) → Fits count ms (link_texts qs) → Fits count (if t then ns else ms) (link_texts (if t then rs else qs))
if_rows count true ns ms rs qs h k = h
if_rows count false ns ms rs qs h k = k

-- the numbers of a row are those of its runs
pub row_fits : (count : ℕ) (row : List Glyph) → AllByRecursion (IsFit count) row → Fits count (row_numbers row) (line_texts (row_of row))
row_fits count row h = runs_fit count (trimmed row) (trimmed_kept (IsFit count) row h)

rows_fit : (count : ℕ) (row gs : List Glyph) → AllByRecursion (IsFit count) row → AllByRecursion (IsFit count) gs → Fits count (rows_numbers_from row gs) (link_texts (rows_from row gs))
unfolding rows_numbers_from rows_from
rows_fit count row [] h k = subst (Fits count (row_numbers row)) (sym (append-nil (line_texts (row_of row)))) (row_fits count row h)
rows_fit count row (g ∷ gs) h k =
    if_rows count (g.c == 10) (row_numbers row ++ rows_numbers_from [] gs) (rows_numbers_from (row ++ g ∷ []) gs) (row_of row ∷ rows_from [] gs) (rows_from (row ++ g ∷ []) gs)
    (fits_append count (row_numbers row) (rows_numbers_from [] gs) (line_texts (row_of row)) (link_texts (rows_from [] gs)) (row_fits count row h) (rows_fit count [] gs tt k.1))
    (rows_fit count (row ++ g ∷ []) gs (append_kept (IsFit count) row (g ∷ []) h (k.0, tt)) k.1)

-- the numbers of a leaf are those of the runs of its links
pub leaf_fits : (labels : List (List ℕ)) (text : List ℕ) → Fits (length (leaf_links labels text)) (leaf_numbers labels text) (link_texts (leaf_rows labels text))
unfolding leaf_numbers leaf_rows
leaf_fits labels text =
    let gs : List Glyph = trimmed (leaf_glyphs labels false text) in
    if_rows (length (leaf_links labels text)) (length gs == 0) [] (rows_numbers_from [] gs) [] (rows_from [] gs) (refl, tt) (rows_fit (length (leaf_links labels text)) [] gs tt (leaf_fit labels false text))

-- so are those of a leaf of html
pub html_fits : (text : List ℕ) → Fits (length (links_from 0 (html_pieces text))) (html_numbers text) (link_texts (html_lines text))
unfolding html_numbers html_lines
html_fits text =
    let count : ℕ = length (links_from 0 (html_pieces text)) in
    let gs : List Glyph = trimmed (html_glyphs text) in
    if_rows count (length gs == 0) [] (rows_numbers_from [] gs) [] (rows_from [] gs) (refl, tt) (rows_fit count [] gs tt (html_fit text))

if_glyphs : (count : ℕ) (t : Bool) (a b : List Glyph) → AllByRecursion (IsFit count) a → AllByRecursion (IsFit count) b → AllByRecursion (IsFit count) (if t then a else b)
if_glyphs count true a b h k = h
if_glyphs count false a b h k = k

-- and the characters of rows as one row
pub spaced_fit : (count : ℕ) (bold : Bool) (shown row gs : List Glyph) → AllByRecursion (IsFit count) shown → AllByRecursion (IsFit count) row → AllByRecursion (IsFit count) gs → AllByRecursion (IsFit count) (spaced_from bold shown row gs)
unfolding spaced_from
spaced_fit count bold shown row [] s h k = append_kept (IsFit count) shown (trimmed row) s (trimmed_kept (IsFit count) row h)
spaced_fit count bold shown row (g ∷ gs) s h k =
    if_glyphs count (g.c == 10) (spaced_from bold ((shown ++ trimmed row) ++ space bold ∷ []) [] gs) (spaced_from bold shown (row ++ g ∷ []) gs)
    (spaced_fit count bold ((shown ++ trimmed row) ++ space bold ∷ []) [] gs
    (append_kept (IsFit count) (shown ++ trimmed row) (space bold ∷ []) (append_kept (IsFit count) shown (trimmed row) s (trimmed_kept (IsFit count) row h)) ((refl, tt), tt)) tt k.1)
    (spaced_fit count bold shown (row ++ g ∷ []) gs s (append_kept (IsFit count) row (g ∷ []) h (k.0, tt)) k.1)

-- those of a cell are too
pub cell_fits : (labels : List (List ℕ)) (bold : Bool) (text : List ℕ) → Fits (length (leaf_links labels text)) (cell_numbers labels bold text) (flat_map run_texts (cell_runs labels bold text))
unfolding cell_numbers cell_runs
cell_fits labels bold text =
    let count : ℕ = length (leaf_links labels text) in
    runs_fit count (spaced_from bold [] [] (trimmed (leaf_glyphs labels bold text))) (spaced_fit count bold [] [] (trimmed (leaf_glyphs labels bold text)) tt tt (leaf_fit labels bold text))
