-- Links that were written: their brackets, and the destination behind them.
use Rattle.std.proofs.Common.{◌≡◌, ℕ, ◌+◌, ◌-◌, ◌<◌, ◌≤◌, min, Bool, true, false, cond, not, ◌||◌, ◌&&◌, ◌==◌, nat_le, nat_lt, List, [], ◌∷◌, ◌++◌, length, take, drop, option_map, Option, Some, None, refl, sym, ap, ◌∙◌, append_assoc, length-append, length-drop, arith}
use Rattle.std.proofs.Math.Seq.{take-append_seam}
use Rattle.std.proofs.Math.Utf8.{scalars}
use Rattle.std.proofs.lemmas.Bool.{and_parts, lt-ltb}
use Rattle.std.proofs.lemmas.Bool.Decides.{nat_tests}
use Rattle.std.proofs.lemmas.Str.{IsUtf8-append, IsUtf8-nil, chars-nil, utf8_lossy-IsUtf8}
use Rattle.std.specs.List.{list_all}
use Rattle.std.specs.Str.{IsUtf8}
use Rattle.std.specs.Str.Lossy.{utf8_lossy}
use Rattle.markdown_marks.specs.Bytes.{without_blanks}
use Rattle.markdown_marks.specs.Definitions.{after, after_angle, after_bare, after_destination, after_space, if_shorter, or_else}
use Rattle.markdown_brackets.specs.declared.brackets.Bracket.{Bracket}
use Rattle.markdown_brackets.specs.declared.brackets.Link.{Link}
use Rattle.markdown_brackets.specs.declared.brackets.Placed.{Placed}
use Rattle.markdown_brackets.specs.declared.targets.Target.{Target}
use Rattle.markdown_brackets.specs.Brackets.{Closed, Reading, closed, inside_pairs, linked_by, with_bracket}
use Rattle.markdown_brackets.specs.Targets.{after_inline, after_target, by_len, closed_paren, inline_len, reference, target_end, target_of}
use Rattle.markdown_spans.specs.Decoded.{decoded, decoded_from}
use Rattle.markdown_link_parts.specs.Parts.{before, behind, destination_in, inline_destination, inline_text, inline_title, title_in}
use Rattle.markdown_link_parts.specs.Texts.{text_of}
use Rattle.markdown_destinations.specs.Destinations.{inline_leads}
use Rattle.markdown_pieces.specs.declared.pieces.Kind.TheVariants.{Closing, Opening}
use Rattle.markdown_pieces.specs.declared.pieces.Piece.{Piece}
use Rattle.markdown_pieces.specs.Cut.{capped_step, closing_step, cut_from, onto, read_with, step}
use Rattle.markdown_pieces.specs.Pieces.{piece}
use Rattle.markdown_writing.specs.Phrases.{link_text}
use Rattle.markdown_writing.specs.Writable.{is_direct}
use Rattle.markdown_writing.proofs.WordLemmas.{no_other}
use Rattle.markdown_writing_laws.proofs.PieceLemmas.{cut_by, free, index_is, rest_of, skipped}
use Rattle.markdown_writing_laws.proofs.TextLemmas.{EndsWith, ends_more, low_text, low_then, rest_ends_with}

-- ---- bytes of a destination

abbrev is_other : ℕ → Bool
is_other b = not (is_direct b)

direct_not : (b k : ℕ) → is_other k ≡ true → is_direct b ≡ true → (b == k) ≡ false
direct_not b k other h = no_other is_other b k other (ap not h)

-- the bounds of such a byte
record IsBounded (b : ℕ) : Type 0 where
  above : nat_le b 32 ≡ false
  below : b < 128

bounded : (b : ℕ) → is_direct b ≡ true → IsBounded b
bounded b h =
    let parts = and_parts (nat_le 33 b && nat_le b 126) (not ((b == 38) || (b == 40) || (b == 41) || (b == 60) || (b == 92))) h in
    let both = and_parts (nat_le 33 b) (nat_le b 126) parts.0 in
    record { above = more_than b both.0; below = less_than b both.1 }
  where
    more_than : (b : ℕ) → nat_le 33 b ≡ true → nat_le b 32 ≡ false
    more_than b e = grind (arith, nat_tests, e)

    less_than : (b : ℕ) → nat_le b 126 ≡ true → b < 128
    less_than b e = grind (arith, nat_tests, e)

-- ---- the destination is found

bare_found : (bs tail : List ℕ) → list_all is_direct bs ≡ true → after_bare 0 false (bs ++ 41 ∷ tail) ≡ Some (41 ∷ tail)
unfolding after_bare
bare_found [] tail h = refl
bare_found (b ∷ bs) tail h =
    let parts = and_parts (is_direct b) (list_all is_direct bs) h in
    let d = parts.0 in
    rw ((bounded b d).above) (rw (direct_not b 127 refl d) (rw (direct_not b 40 refl d) (rw (direct_not b 41 refl d) (rw (direct_not b 92 refl d) (bare_found bs tail parts.1)))))

space_kept : (b : ℕ) (bs : List ℕ) → is_direct b ≡ true → after_space (b ∷ bs) ≡ b ∷ bs
unfolding without_blanks
space_kept b bs d = rw (direct_not b 32 refl d) (rw (direct_not b 9 refl d) (rw (direct_not b 10 refl d) refl))

fewer : (n m : ℕ) → n < m → (n == m) ≡ false
fewer n m h = grind (arith, nat_tests, h)

destination_found : (b : ℕ) (bs tail : List ℕ) → list_all is_direct (b ∷ bs) ≡ true → after_destination ((b ∷ bs) ++ 41 ∷ tail) ≡ Some (41 ∷ tail)
destination_found b bs tail h =
    let text = (b ∷ bs) ++ 41 ∷ tail in
    let d = (and_parts (is_direct b) (list_all is_direct bs) h).0 in
    ap (λ (t : Bool). cond t (after_angle false (drop 1 text)) (if_shorter text (after_bare 0 false text))) (direct_not b 60 refl d)
    ∙ ap (if_shorter text) (bare_found (b ∷ bs) tail h)
    ∙ ap (λ (t : Bool). cond t None (Some (41 ∷ tail))) (fewer (length (41 ∷ tail)) (length text) (omega (arith, length-append (b ∷ bs) (41 ∷ tail))))

target_closed : (tail : List ℕ) → after_target (41 ∷ tail) ≡ Some tail
unfolding without_blanks
target_closed tail = refl

inline_found : (b : ℕ) (bs tail : List ℕ) → list_all is_direct (b ∷ bs) ≡ true → after_inline ((b ∷ bs) ++ 41 ∷ tail) ≡ Some tail
inline_found b bs tail h =
    let text = (b ∷ bs) ++ 41 ∷ tail in
    let d = (and_parts (is_direct b) (list_all is_direct bs) h).0 in
    let kept = space_kept b (bs ++ 41 ∷ tail) d in
    let none : target_end text ≡ None = ap closed_paren kept ∙ ap (λ (t : Bool). cond t (Some (bs ++ 41 ∷ tail)) None) (direct_not b 41 refl d) in
    ap (λ (o : Option (List ℕ)). or_else o (after (after_destination (after_space text)) after_target)) none
    ∙ ap (λ (o : Option (List ℕ)). after o after_target) (ap after_destination kept ∙ destination_found b bs tail h)
    ∙ target_closed tail

len_found : (b : ℕ) (bs tail : List ℕ) → list_all is_direct (b ∷ bs) ≡ true → inline_len (40 ∷ ((b ∷ bs) ++ 41 ∷ tail)) ≡ Some (length (b ∷ bs) + 2)
len_found b bs tail h =
    let rest = 40 ∷ ((b ∷ bs) ++ 41 ∷ tail) in
    ap (option_map (λ (left : List ℕ). length rest - length left)) (inline_found b bs tail h) ∙ ap (λ (n : ℕ). Some n) (omega (arith, length-append (b ∷ bs) (41 ∷ tail)))

-- ---- the brackets

-- a link whose target has so many bytes
abbrev pub target_with : ℕ → Target
target_with len = record { definition = None; len = len }

abbrev pub link_with : (opener len : ℕ) → Link
link_with opener len = record { image = false; opener = opener; target = target_with len }

-- behind an opening bracket
abbrev pub opened : (index at : ℕ) → List Placed → Reading
opened index at runs = with_bracket false index at (free runs)

all_taken : (runs : List Placed) → take (length runs) runs ≡ runs
all_taken [] = refl
all_taken (r ∷ rs) = ap (λ (qs : List Placed). r ∷ qs) (all_taken rs)

all_dropped : (runs : List Placed) → drop (length runs) runs ≡ []
all_dropped [] = refl
all_dropped (r ∷ rs) = all_dropped rs

runs_kept : (runs : List Placed) → record { brackets = []; runs = take (length runs) runs; pairs = inside_pairs (drop (length runs) runs) } ≡ free runs
runs_kept runs =
    ap (λ (rs : List Placed). record { brackets = []; runs = rs; pairs = inside_pairs (drop (length runs) runs) }) (all_taken runs) ∙ ap (λ (rs : List Placed). record { brackets = []; runs = runs; pairs = inside_pairs rs }) (all_dropped runs)

not_before : (n m : ℕ) → m ≤ n → nat_lt n m ≡ false
not_before n m h = grind (arith, nat_tests, h)

closed_is : (labels : List (List ℕ)) (text : List ℕ) (runs : List Placed) (index at behind b : ℕ) (bs tail : List ℕ) → at ≤ behind → drop behind text ≡ 40 ∷ ((b ∷ bs) ++ 41 ∷ tail) → list_all is_direct (b ∷ bs) ≡ true
    → closed labels text behind (opened index at runs) ≡ record { link = Some (link_with index (length (b ∷ bs) + 2)); reading = free runs }
closed_is labels text runs index at behind b bs tail less e h =
    let bracket : Bracket = record { image = false; piece = index; at = at; runs = length runs } in
    let rest = 40 ∷ ((b ∷ bs) ++ 41 ∷ tail) in
    let inside = drop at text in
    ap (λ (t : Bool). linked_by bracket (cond t None (target_of labels inside (drop behind text))) (free runs)) (not_before behind at less)
    ∙ ap (λ (ws : List ℕ). linked_by bracket (target_of labels inside ws) (free runs)) e
    ∙ ap (λ (o : Option ℕ). linked_by bracket (by_len o (λ len. Some (target_with len)) (reference labels inside rest)) (free runs)) (len_found b bs tail h)
    ∙ ap (λ (r : Reading). record { link = Some (link_with index (length (b ∷ bs) + 2)); reading = r }) (runs_kept runs)

-- the pieces of the brackets
abbrev pub open_piece : Piece
open_piece = piece (Opening false) 0

abbrev pub close_piece : (opener len : ℕ) → Piece
close_piece opener len = piece (Closing (Some (link_with opener len))) len

step_open : (labels : List (List ℕ)) (runs : List Placed) (text : List ℕ) (at index : ℕ) (bs : List ℕ) → drop at text ≡ 91 ∷ bs
    → step labels text at index (free runs) (91 ∷ bs) ≡ record { piece = open_piece; reading = opened index (at + 1) runs }
unfolding step
step_open labels runs text at index bs e =
    ap (λ (c : ℕ). capped_step (read_with c labels text at index (free runs) (91 ∷ bs)) (length text - at - 1)) (index_is text at 91 bs e)
    ∙ ap (λ (n : ℕ). record { piece = piece (Opening false) n; reading = opened index (at + 1) runs }) (none_more (length text - at - 1))
  where
    none_more : (n : ℕ) → min 0 n ≡ 0
    none_more n = omega arith

pub open_cut : (labels : List (List ℕ)) (runs : List Placed) (text : List ℕ) (at index : ℕ) (bs : List ℕ) → drop at text ≡ 91 ∷ bs
    → cut_from labels text 0 at index (free runs) (91 ∷ bs) ≡ onto open_piece (cut_from labels text 0 (at + 1) (index + 1) (opened index (at + 1) runs) bs)
open_cut labels runs text at index bs e = cut_by labels (free runs) (opened index (at + 1) runs) text at index 91 bs open_piece (step_open labels runs text at index bs e)

step_close : (labels : List (List ℕ)) (runs : List Placed) (text : List ℕ) (opener start at index b : ℕ) (bs tail : List ℕ) → start ≤ at + 1 → drop at text ≡ 93 ∷ 40 ∷ ((b ∷ bs) ++ 41 ∷ tail)
    → drop (at + 1) text ≡ 40 ∷ ((b ∷ bs) ++ 41 ∷ tail) → list_all is_direct (b ∷ bs) ≡ true
    → step labels text at index (opened opener start runs) (93 ∷ 40 ∷ ((b ∷ bs) ++ 41 ∷ tail)) ≡ record { piece = close_piece opener (length (b ∷ bs) + 2); reading = free runs }
unfolding step
step_close labels runs text opener start at index b bs tail less e behind h =
    let rest = 40 ∷ ((b ∷ bs) ++ 41 ∷ tail) in
    let len = length (b ∷ bs) + 2 in
    let left : length text - at ≡ length (93 ∷ rest) = sym (length-drop at text) ∙ ap length e in
    let few : min len (length text - at - 1) ≡ len = omega (arith, left, length-append (b ∷ bs) (41 ∷ tail)) in
    ap (λ (c : ℕ). capped_step (read_with c labels text at index (opened opener start runs) (93 ∷ rest)) (length text - at - 1)) (index_is text at 93 rest e)
    ∙ ap (λ (c : Closed). capped_step (closing_step c) (length text - at - 1)) (closed_is labels text runs opener start (at + 1) b bs tail less behind h)
    ∙ ap (λ (n : ℕ). record { piece = piece (Closing (Some (link_with opener len))) n; reading = free runs }) few

pub close_cut : (labels : List (List ℕ)) (runs : List Placed) (text : List ℕ) (opener start at index b : ℕ) (bs tail : List ℕ) → start ≤ at + 1 → drop at text ≡ 93 ∷ 40 ∷ ((b ∷ bs) ++ 41 ∷ tail)
    → drop (at + 1) text ≡ 40 ∷ ((b ∷ bs) ++ 41 ∷ tail) → list_all is_direct (b ∷ bs) ≡ true
    → cut_from labels text 0 at index (opened opener start runs) (93 ∷ 40 ∷ ((b ∷ bs) ++ 41 ∷ tail))
    ≡ onto (close_piece opener (length (b ∷ bs) + 2)) (cut_from labels text 0 (at + (length (b ∷ bs) + 3)) (index + 1) (free runs) tail)
close_cut labels runs text opener start at index b bs tail less e behind h =
    let target = 40 ∷ ((b ∷ bs) ++ 41 ∷ []) in
    let p = close_piece opener (length (b ∷ bs) + 2) in
    let many : length (b ∷ bs) + 2 ≡ length target = omega (arith, length-append (b ∷ bs) (41 ∷ [])) in
    cut_by labels (opened opener start runs) (free runs) text at index 93 (40 ∷ ((b ∷ bs) ++ 41 ∷ tail)) p (step_close labels runs text opener start at index b bs tail less e behind h)
    ∙ ap (λ (ws : List ℕ). onto p (cut_from labels text (length (b ∷ bs) + 2) (at + 1) (index + 1) (free runs) (40 ∷ ws))) (sym (append_assoc (b ∷ bs) (41 ∷ []) tail))
    ∙ ap (λ (n : ℕ). onto p (cut_from labels text n (at + 1) (index + 1) (free runs) (target ++ tail))) many
    ∙ ap (onto p) (skipped labels (free runs) text (at + 1) (index + 1) target tail ∙ ap (λ (n : ℕ). cut_from labels text 0 n (index + 1) (free runs) tail) (omega (arith, many)))

-- ---- where it leads

not_decoded : (bs : List ℕ) → list_all is_direct bs ≡ true → decoded true bs ≡ bs
unfolding decoded_from
not_decoded [] h = refl
not_decoded (b ∷ bs) h =
    let parts = and_parts (is_direct b) (list_all is_direct bs) h in
    rw (direct_not b 38 refl parts.0) (rw (direct_not b 92 refl parts.0) (ap (λ (cs : List ℕ). b ∷ cs) (not_decoded bs parts.1)))

pub direct_text : (bs : List ℕ) → list_all is_direct bs ≡ true → IsUtf8 bs
direct_text [] h = IsUtf8-nil
direct_text (b ∷ bs) h =
    let parts = and_parts (is_direct b) (list_all is_direct bs) h in
    let few = (bounded b parts.0).below in
    IsUtf8-append (b ∷ []) bs (low_text b few (low_scalars b few)) (direct_text bs parts.1)
  where
    low_scalars : (b : ℕ) → b < 128 → scalars (b ∷ []) ≡ true
    low_scalars b few = rw (lt-ltb b 55296 (omega (arith, few))) refl

same_text : (bs : List ℕ) → list_all is_direct bs ≡ true → text_of bs ≡ bs
same_text bs h = ap utf8_lossy (not_decoded bs h) ∙ utf8_lossy-IsUtf8 bs (direct_text bs h)

no_text : text_of [] ≡ []
no_text = same_text [] refl

-- the title behind a destination
abbrev title_of : Option (List ℕ) → List ℕ
title_of o = title_in (behind o)

nothing_titled : title_of (Some (41 ∷ [])) ≡ []
unfolding without_blanks
nothing_titled = refl

-- (destination) leads there, and has no title
pub leads_there : (b : ℕ) (bs : List ℕ) → list_all is_direct (b ∷ bs) ≡ true → inline_leads (40 ∷ ((b ∷ bs) ++ 41 ∷ [])) ≡ record { destination = b ∷ bs; title = [] }
leads_there b bs h =
    let link = 40 ∷ ((b ∷ bs) ++ 41 ∷ []) in
    let text = (b ∷ bs) ++ 41 ∷ [] in
    let d = (and_parts (is_direct b) (list_all is_direct bs) h).0 in
    let kept : inline_text link ≡ text = space_kept b (bs ++ 41 ∷ []) d in
    let found = destination_found b bs [] h in
    let number : length text - length {A = ℕ} (41 ∷ []) ≡ length (b ∷ bs) = omega (arith, length-append (b ∷ bs) (41 ∷ [])) in
    let destination : inline_destination link ≡ b ∷ bs =
    ap destination_in kept
    ∙ ap (λ (t : Bool). cond t (drop 1 (take (length (before text (after_destination text)) - 1) (before text (after_destination text)))) (before text (after_destination text))) (direct_not b 60 refl d)
    ∙ ap (before text) found ∙ ap (λ (n : ℕ). take n text) number ∙ take-append_seam (b ∷ bs) (41 ∷ []) in
    let title : inline_title link ≡ [] = ap (λ (ws : List ℕ). title_of (after_destination ws)) kept ∙ ap title_of found ∙ nothing_titled in
    ap (λ (ws : List ℕ). record { destination = text_of ws; title = text_of (inline_title link) }) destination
    ∙ ap (λ (ws : List ℕ). record { destination = ws; title = text_of (inline_title link) }) (same_text (b ∷ bs) h)
    ∙ ap (λ (ws : List ℕ). record { destination = b ∷ bs; title = text_of ws }) title
    ∙ ap (λ (ws : List ℕ). record { destination = b ∷ bs; title = ws }) no_text

-- ---- its characters

paren_text : EndsWith (41 ∷ []) (Some 41)
paren_text = record { text = low_text 41 (omega arith) refl; b = 41; bs = []; some = low_then 41 [] (omega arith) refl ∙ ap (λ (cs : List ℕ). 41 ∷ cs) chars-nil; is = refl }

-- a link ends with a parenthesis
pub link_ends_with : (b : ℕ) (bs destination : List ℕ) → IsUtf8 (b ∷ bs) → IsUtf8 destination → EndsWith (link_text (b ∷ bs) destination) (Some 41)
link_ends_with b bs destination u v =
    let words = rest_of (b ∷ bs) in
    let end = destination ++ 41 ∷ [] in
    let signs : IsUtf8 (93 ∷ 40 ∷ []) = IsUtf8-append (93 ∷ []) (40 ∷ []) (low_text 93 (omega arith) refl) (low_text 40 (omega arith) refl) in
    ends_more (91 ∷ []) (words ++ 93 ∷ 40 ∷ end) (Some 41) (low_text 91 (omega arith) refl)
    (ends_more words (93 ∷ 40 ∷ end) (Some 41) (rest_ends_with b bs u).text (ends_more (93 ∷ 40 ∷ []) end (Some 41) signs (ends_more destination (41 ∷ []) (Some 41) v paren_text)))
