-- Escaped words are cut into pieces that say them.
use Rattle.std.proofs.Common.{◌≡◌, ℕ, zero, suc, ◌+◌, ◌-◌, ◌<◌, ◌≤◌, Bool, true, false, cond, not, ◌||◌, ◌&&◌, ◌==◌, nat_lt, min, List, [], ◌∷◌, ◌++◌, length, take, drop, slice_index, Option, Some, None, is_some, refl, sym, ap, subst, ◌∙◌, append_assoc, append-nil, length-append, length-drop, arith}
use Rattle.std.proofs.Math.Seq.{drop-append_seam, take-append_seam}
use Rattle.std.proofs.lemmas.Bool.{and_parts, eqb-true}
use Rattle.std.proofs.lemmas.Bool.Decides.{nat_tests}
use Rattle.std.proofs.lemmas.List.{get_or-drop}
use Rattle.std.specs.Char.{is_ascii_punctuation, to_ascii_lowercase}
use Rattle.std.specs.List.{flat_map, list_all, prefix_len}
use Rattle.markdown_marks.specs.Bytes.{first, is_blank_byte}
use Rattle.markdown_html.specs.Names.{same_letters}
use Rattle.markdown_addresses.specs.declared.bare.Bare.{Bare}
use Rattle.markdown_addresses.specs.Bare.{is_mail_byte, mail_by, mail_domain, mail_of, may_precede_mail, may_precede_web, or_bare, web_of}
use Rattle.markdown_brackets.specs.declared.brackets.Placed.{Placed}
use Rattle.markdown_brackets.specs.Brackets.{Reading, is_free, nothing_read}
use Rattle.markdown_spans.specs.declared.entities.Escape.TheVariants.{Break, Itself, Sign as SignEscape}
use Rattle.markdown_pieces.specs.declared.pieces.Kind.TheVariants.{Plain, Shown}
use Rattle.markdown_pieces.specs.declared.pieces.Piece.{Piece}
use Rattle.markdown_pieces.specs.Cut.{Pieces, Step, capped_step, cut_from, cut_text, onto, read_with, step, step_of}
use Rattle.markdown_pieces.specs.Pieces.{bare_if, break_piece, byte_before, ends_line, escape_by, is_plain, no_mark_piece, piece, piece_at, piece_by, plain_by, plain_from, plain_piece, stays}
use Rattle.markdown_writing.specs.Words.{escaped, escaped_byte, escaped_if, is_mark}
use Rattle.markdown_writing.specs.Writable.{is_line, is_tab_or_end}
use Rattle.markdown_writing.proofs.WordLemmas.{by_escape, by_test, is_false, no_other}
use Rattle.markdown_writing_laws.specs.Said.{AreWords, Says, WordsAreSaid}

-- words without the first, as they are written
abbrev pub rest_of : List ℕ → List ℕ
rest_of words = flat_map escaped_byte words

-- Nothing follows words, or code does, a star or a bracket.
pub data IsTail : List ℕ → Type 0 where
  none_follows : IsTail []
  code_follows : (bs : List ℕ) → IsTail (96 ∷ bs)
  star_follows : (bs : List ℕ) → IsTail (42 ∷ bs)
  opening_follows : (bs : List ℕ) → IsTail (91 ∷ bs)
  closing_follows : (bs : List ℕ) → IsTail (93 ∷ bs)

-- these runs are read, and no bracket is open
abbrev pub free : List Placed → Reading
free runs = record { brackets = []; runs = runs; pairs = [] }

plain_rest : (b : ℕ) (bs : List ℕ) → is_mark b ≡ false → rest_of (b ∷ bs) ≡ b ∷ rest_of bs
plain_rest b bs e = ap (λ (t : Bool). escaped_if t b ++ rest_of bs) e

sign_rest : (b : ℕ) (bs : List ℕ) → is_mark b ≡ true → rest_of (b ∷ bs) ≡ 92 ∷ b ∷ rest_of bs
sign_rest b bs e = ap (λ (t : Bool). escaped_if t b ++ rest_of bs) e

one_more : (n : ℕ) → 1 + n ≡ suc n
one_more n = omega arith

or_true : (t : Bool) → (t || true) ≡ true
or_true true = refl
or_true false = refl

and_false : (p q : Bool) → q ≡ false → (p && q) ≡ false
and_false true q h = h
and_false false q h = refl

negated : (t : Bool) → not t ≡ true → t ≡ false
negated true h = sym h
negated false h = refl

no_end : (b : ℕ) → not (is_tab_or_end b) ≡ true → (b == 10) ≡ false
no_end b h = no_other is_tab_or_end b 10 refl (negated (is_tab_or_end b) h)

-- ---- the byte behind those that pass a test

abbrev after : (ℕ → Bool) → List ℕ → ℕ
after p bytes = first (drop (prefix_len p bytes) bytes)

after_more : (p : ℕ → Bool) (b : ℕ) (bs : List ℕ) → p b ≡ true → after p (b ∷ bs) ≡ after p bs
after_more p b bs e = ap (λ (t : Bool). first (drop (cond t (1 + prefix_len p bs) 0) (b ∷ bs))) e ∙ ap (λ (n : ℕ). first (drop n (b ∷ bs))) (one_more (prefix_len p bs))

after_none : (p : ℕ → Bool) (b : ℕ) (bs : List ℕ) → p b ≡ false → after p (b ∷ bs) ≡ b
after_none p b bs e = ap (λ (t : Bool). first (drop (cond t (1 + prefix_len p bs) 0) (b ∷ bs))) e

-- where a backslash neither passes nor is this byte, nor is what follows words, and no other that doesn't pass is
rest_after : (p : ℕ → Bool) (k : ℕ) → p 92 ≡ false → (92 == k) ≡ false → ((b : ℕ) → is_mark b ≡ false → not (is_tab_or_end b) ≡ true → (b == k) ≡ false)
    → (words tail : List ℕ) → is_line words ≡ true → (after p tail == k) ≡ false → (after p (rest_of words ++ tail) == k) ≡ false
rest_after p k slash other plain [] tail h end = end
rest_after p k slash other plain (b ∷ bs) tail h end =
    let parts = and_parts (not (is_tab_or_end b)) (is_line bs) h in
    by_escape (λ (front : List ℕ). (after p ((front ++ rest_of bs) ++ tail) == k) ≡ false) (is_mark b) b
    (λ e. ap (λ (c : ℕ). c == k) (after_none p 92 (b ∷ (rest_of bs ++ tail)) slash) ∙ other)
    (λ e. by_test (p b) ((after p (b ∷ (rest_of bs ++ tail)) == k) ≡ false)
    (λ f. ap (λ (c : ℕ). c == k) (after_more p b (rest_of bs ++ tail) f) ∙ rest_after p k slash other plain bs tail parts.1 end)
    (λ f. ap (λ (c : ℕ). c == k) (after_none p b (rest_of bs ++ tail) f) ∙ plain b e parts.0))

-- no line ends
no_line_end : (words tail : List ℕ) → is_line words ≡ true → IsTail tail → ends_line (rest_of words ++ tail) ≡ false
no_line_end words tail h t = rest_after is_blank_byte 10 refl refl (λ b e f. no_end b f) words tail h (end_of tail t)
  where
    end_of : (bs : List ℕ) → IsTail bs → (after is_blank_byte bs == 10) ≡ false
    end_of bs none_follows = refl
    end_of bs (code_follows others) = refl
    end_of bs (star_follows others) = refl
    end_of bs (opening_follows others) = refl
    end_of bs (closing_follows others) = refl

-- ---- no bare address

no_mail : (words tail : List ℕ) → is_line words ≡ true → IsTail tail → mail_of (rest_of words ++ tail) ≡ None
no_mail words tail h t =
    let bytes = rest_of words ++ tail in
    let local = prefix_len is_mail_byte bytes in
    let found = mail_by local (mail_domain (drop (local + 1) bytes)) in
    ap (λ (t : Bool). cond ((local == 0) || not t) None found) (rest_after is_mail_byte 64 refl refl (λ b e f. no_other is_mark b 64 refl e) words tail h (end_of tail t))
    ∙ ap (λ (t : Bool). cond t None found) (or_true (local == 0))
  where
    end_of : (bs : List ℕ) → IsTail bs → (after is_mail_byte bs == 64) ≡ false
    end_of bs none_follows = refl
    end_of bs (code_follows others) = refl
    end_of bs (star_follows others) = refl
    end_of bs (opening_follows others) = refl
    end_of bs (closing_follows others) = refl

lower_same : (x b : ℕ) → x < 65 → (b == x) ≡ false → (x == to_ascii_lowercase b) ≡ false
lower_same x b few h =
    by_test (nat_lt b 65) ((x == to_ascii_lowercase b) ≡ false)
    (λ e. ap (λ (t : Bool). x == cond t b (cond (nat_lt b 91) (b + 32) b)) e ∙ turned x b h)
    (λ e. ap (λ (t : Bool). x == cond t b (cond (nat_lt b 91) (b + 32) b)) e
    ∙ by_test (nat_lt b 91) ((x == cond (nat_lt b 91) (b + 32) b) ≡ false) (λ f. ap (λ (t : Bool). x == cond t (b + 32) b) f ∙ above x (b + 32) few (higher b e)) (λ f. ap (λ (t : Bool). x == cond t (b + 32) b) f ∙ above x b few (high b e)))
  where
    turned : (x b : ℕ) → (b == x) ≡ false → (x == b) ≡ false
    turned x b h = grind (arith, nat_tests, h)

    above : (x b : ℕ) → x < 65 → 65 ≤ b → (x == b) ≡ false
    above x b f g = grind (arith, nat_tests, f, g)

    high : (b : ℕ) → nat_lt b 65 ≡ false → 65 ≤ b
    high b e = grind (arith, nat_tests, e)

    higher : (b : ℕ) → nat_lt b 65 ≡ false → 65 ≤ b + 32
    higher b e = grind (arith, nat_tests, e)

-- none of these bytes is in an address's beginning
abbrev stops : ℕ → Bool
stops c = (c == 92) || (c == 96) || (c == 42) || (c == 91) || (c == 93)

not_slash : (c : ℕ) → not (stops c) ≡ true → (c == 92) ≡ false
not_slash c h = no_other stops c 92 refl (negated (stops c) h)

not_tick : (c : ℕ) → not (stops c) ≡ true → (c == 96) ≡ false
not_tick c h = no_other stops c 96 refl (negated (stops c) h)

not_star : (c : ℕ) → not (stops c) ≡ true → (c == 42) ≡ false
not_star c h = no_other stops c 42 refl (negated (stops c) h)

-- the byte that follows words is no letter
tail_not_in_front : (c : ℕ) (others : List ℕ) → not (stops c) ≡ true → (n : ℕ) (tail : List ℕ) → IsTail tail → same_letters (c ∷ others) (take n tail) ≡ false
unfolding same_letters
tail_not_in_front c others h zero tail none_follows = refl
tail_not_in_front c others h (suc n) tail none_follows = refl
tail_not_in_front c others h zero tail (code_follows bs) = refl
tail_not_in_front c others h (suc n) tail (code_follows bs) = ap (λ (t : Bool). t && same_letters others (take n bs)) (not_tick c h)
tail_not_in_front c others h zero tail (star_follows bs) = refl
tail_not_in_front c others h (suc n) tail (star_follows bs) = ap (λ (t : Bool). t && same_letters others (take n bs)) (not_star c h)
tail_not_in_front c others h zero tail (opening_follows bs) = refl
tail_not_in_front c others h (suc n) tail (opening_follows bs) = ap (λ (t : Bool). t && same_letters others (take n bs)) (no_other stops c 91 refl (negated (stops c) h))
tail_not_in_front c others h zero tail (closing_follows bs) = refl
tail_not_in_front c others h (suc n) tail (closing_follows bs) = ap (λ (t : Bool). t && same_letters others (take n bs)) (no_other stops c 93 refl (negated (stops c) h))

-- letters, and a mark behind them, aren't in front
not_in_front : (letters : List ℕ) (x : ℕ) (others : List ℕ) → list_all (λ c. not (stops c)) letters ≡ true → not (stops x) ≡ true → x < 65 → is_mark x ≡ true → (n : ℕ) (words tail : List ℕ) → IsTail tail
    → same_letters (letters ++ x ∷ others) (take n (rest_of words ++ tail)) ≡ false
unfolding same_letters
not_in_front [] x others h slash few mark n [] tail t = tail_not_in_front x others slash n tail t
not_in_front (c ∷ cs) x others h slash few mark n [] tail t = let parts = and_parts (not (stops c)) (list_all (λ d. not (stops d)) cs) h in tail_not_in_front c (cs ++ x ∷ others) parts.0 n tail t
not_in_front [] x others h slash few mark zero (b ∷ bs) tail t = refl
not_in_front (c ∷ cs) x others h slash few mark zero (b ∷ bs) tail t = refl
not_in_front [] x others h slash few mark (suc n) (b ∷ bs) tail t =
    by_escape (λ (front : List ℕ). same_letters (x ∷ others) (take (suc n) ((front ++ rest_of bs) ++ tail)) ≡ false) (is_mark b) b
    (λ e. ap (λ (t : Bool). t && same_letters others (take n (b ∷ (rest_of bs ++ tail)))) (not_slash x slash))
    (λ e. ap (λ (t : Bool). t && same_letters others (take n (rest_of bs ++ tail))) (lower_same x b few (no_other is_mark b x mark e)))
not_in_front (c ∷ cs) x others h slash few mark (suc n) (b ∷ bs) tail t =
    let parts = and_parts (not (stops c)) (list_all (λ d. not (stops d)) cs) h in
    by_escape (λ (front : List ℕ). same_letters (c ∷ (cs ++ x ∷ others)) (take (suc n) ((front ++ rest_of bs) ++ tail)) ≡ false) (is_mark b) b
    (λ e. ap (λ (t : Bool). t && same_letters (cs ++ x ∷ others) (take n (b ∷ (rest_of bs ++ tail)))) (not_slash c parts.0))
    (λ e. and_false (c == to_ascii_lowercase b) (same_letters (cs ++ x ∷ others) (take n (rest_of bs ++ tail))) (not_in_front cs x others parts.1 slash few mark n bs tail t))

four : (t u v w : Bool) (a b c d : Option Bare) → t ≡ false → u ≡ false → v ≡ false → w ≡ false → cond t a (cond u b (cond v c (cond w d None))) ≡ None
four t u v w a b c d e f g h = ap (λ x. cond x a (cond u b (cond v c (cond w d None)))) e ∙ ap (λ x. cond x b (cond v c (cond w d None))) f ∙ ap (λ x. cond x c (cond w d None)) g ∙ ap (λ x. cond x d None) h

no_web : (words tail : List ℕ) → IsTail tail → web_of (rest_of words ++ tail) ≡ None
no_web words tail t =
    four _ _ _ _ _ _ _ _ (not_in_front (119 ∷ 119 ∷ 119 ∷ []) 46 [] refl refl (omega arith) refl 4 words tail t)
    (not_in_front (104 ∷ 116 ∷ 116 ∷ 112 ∷ 115 ∷ []) 58 (47 ∷ 47 ∷ []) refl refl (omega arith) refl 8 words tail t)
    (not_in_front (104 ∷ 116 ∷ 116 ∷ 112 ∷ []) 58 (47 ∷ 47 ∷ []) refl refl (omega arith) refl 7 words tail t)
    (not_in_front (102 ∷ 116 ∷ 112 ∷ []) 58 (47 ∷ 47 ∷ []) refl refl (omega arith) refl 6 words tail t)

none_or_none : (p q : Bool) → or_bare (cond p None None) (cond q None None) ≡ None
none_or_none true true = refl
none_or_none true false = refl
none_or_none false true = refl
none_or_none false false = refl

no_bare : (is_out : Bool) (before : Option ℕ) (words tail : List ℕ) → is_line words ≡ true → IsTail tail → bare_if is_out before (rest_of words ++ tail) ≡ None
no_bare false before words tail h t = refl
no_bare true before words tail h t =
    let p = may_precede_web before (rest_of words ++ tail) in
    let q = may_precede_mail before in
    ap (λ (o : Option Bare). or_bare (cond p o None) (cond q (mail_of (rest_of words ++ tail)) None)) (no_web words tail t)
    ∙ ap (λ (o : Option Bare). or_bare (cond p None None) (cond q o None)) (no_mail words tail h t) ∙ none_or_none p q

-- ---- bytes that stand for themselves

none : (b k : ℕ) → is_mark k ≡ true → is_mark b ≡ false → (b == k) ≡ false
none b k mark h = no_other is_mark b k mark h

stays_plain : (b : ℕ) → is_mark b ≡ false → not (is_tab_or_end b) ≡ true → is_blank_byte b ≡ false → is_plain b ≡ true
stays_plain b h f blank =
    rw (none b 96 refl h) (rw (none b 42 refl h) (rw (none b 95 refl h) (rw (none b 126 refl h) (rw (none b 92 refl h) (rw (none b 38 refl h) (rw (none b 60 refl h) (rw (none b 91 refl h) (rw (none b 93 refl h)
    (rw (none b 33 refl h) (rw (no_end b f) (rw (no_other is_blank_byte b 32 refl blank) (rw (no_other is_blank_byte b 9 refl blank) refl))))))))))))

stays_here : (b : ℕ) (rest : List ℕ) → is_mark b ≡ false → not (is_tab_or_end b) ≡ true → ends_line rest ≡ false → stays b rest ≡ true
stays_here b rest h f e =
    by_test (is_blank_byte b) (stays b rest ≡ true)
    (λ k. ap (λ (t : Bool). is_plain b || (t && not (ends_line rest))) k ∙ ap (λ (t : Bool). is_plain b || not t) e ∙ or_true (is_plain b))
    (λ k. ap (λ (t : Bool). t || (is_blank_byte b && not (ends_line rest))) (stays_plain b h f k))

-- Words that are split: the first are plain, and the others are written behind them.
record Split (before : Option ℕ) (words tail : List ℕ) : Type 0 where
  plain : List ℕ
  others : List ℕ
  words_are : words ≡ plain ++ others
  bytes_are : rest_of words ≡ plain ++ rest_of others
  many : (is_out : Bool) → plain_from is_out before (rest_of words ++ tail) ≡ length plain
  line : is_line others ≡ true

from_slash : (is_out : Bool) (before : Option ℕ) (bytes : List ℕ) → plain_from is_out before (92 ∷ bytes) ≡ 0
unfolding plain_from
from_slash is_out before bytes = refl

from_plain : (is_out : Bool) (before : Option ℕ) (b : ℕ) (bs : List ℕ) → stays b (b ∷ bs) ≡ true → bare_if is_out before (b ∷ bs) ≡ None → plain_from is_out before (b ∷ bs) ≡ suc (plain_from is_out (Some b) bs)
unfolding plain_from
from_plain is_out before b bs h e =
    let next = suc (plain_from is_out (Some b) bs) in
    ap (λ (t : Bool). cond (t && not (is_some (bare_if is_out before (b ∷ bs)))) next 0) h ∙ ap (λ (o : Option Bare). cond (not (is_some o)) next 0) e

none_plain : (is_out : Bool) (before : Option ℕ) (tail : List ℕ) → IsTail tail → plain_from is_out before tail ≡ 0
unfolding plain_from
none_plain is_out before tail none_follows = refl
none_plain is_out before tail (code_follows bs) = refl
none_plain is_out before tail (star_follows bs) = refl
none_plain is_out before tail (opening_follows bs) = refl
none_plain is_out before tail (closing_follows bs) = refl

split : (before : Option ℕ) (words tail : List ℕ) → is_line words ≡ true → IsTail tail → Split before words tail
split before [] tail h t = record { plain = []; others = []; words_are = refl; bytes_are = refl; many = λ is_out. none_plain is_out before tail t; line = refl }
split before (b ∷ bs) tail h t =
    let parts = and_parts (not (is_tab_or_end b)) (is_line bs) h in
    by_test (is_mark b) (Split before (b ∷ bs) tail)
    (λ e. record {
      plain = [];
      others = b ∷ bs;
      words_are = refl;
      bytes_are = refl;
      many = λ is_out. ap (λ (ws : List ℕ). plain_from is_out before (ws ++ tail)) (sign_rest b bs e) ∙ from_slash is_out before (b ∷ (rest_of bs ++ tail));
      line = h;
    })
    (λ e.
    let more = split (Some b) bs tail parts.1 t in
    let are = plain_rest b bs e in
    let ends : ends_line (b ∷ (rest_of bs ++ tail)) ≡ false = ap (λ (ws : List ℕ). ends_line (ws ++ tail)) (sym are) ∙ no_line_end (b ∷ bs) tail h t in
    let bare : (is_out : Bool) → bare_if is_out before (b ∷ (rest_of bs ++ tail)) ≡ None = λ is_out. ap (λ (ws : List ℕ). bare_if is_out before (ws ++ tail)) (sym are) ∙ no_bare is_out before (b ∷ bs) tail h t in
    record {
      plain = b ∷ more.plain;
      others = more.others;
      words_are = ap (λ (ws : List ℕ). b ∷ ws) more.words_are;
      bytes_are = are ∙ ap (λ (ws : List ℕ). b ∷ ws) more.bytes_are;
      many = λ is_out. ap (λ (ws : List ℕ). plain_from is_out before (ws ++ tail)) are ∙ from_plain is_out before b (rest_of bs ++ tail) (stays_here b (b ∷ (rest_of bs ++ tail)) e parts.0 ends) (bare is_out) ∙ ap suc (more.many is_out);
      line = more.line;
    })

-- ---- a step

pub index_is : (text : List ℕ) (at b : ℕ) (rest : List ℕ) → drop at text ≡ b ∷ rest → slice_index text at ≡ b
index_is text at b rest e = ap (λ (n : ℕ). slice_index text n) (omega arith) ∙ sym (get_or-drop at text 0 0) ∙ ap (λ (bs : List ℕ). slice_index bs 0) e

pub other_of : (labels : List (List ℕ)) (r : Reading) (text : List ℕ) (at index c : ℕ) (rest : List ℕ) → (c == 91) ≡ false → (c == 33) ≡ false → (c == 93) ≡ false
    → read_with c labels text at index r rest ≡ step_of (piece_at (is_free r.brackets) text at rest) index r
other_of labels r text at index c rest e f g = rw e (rw f (rw g refl))

pub capped_is : (r : Reading) (text : List ℕ) (at index : ℕ) (p : Piece) (rest : List ℕ) → drop at text ≡ rest → p.more < length rest → capped_step (step_of p index r) (length text - at - 1) ≡ record { piece = p; reading = (step_of p index r).reading }
capped_is r text at index p rest e few =
    let left : length text - at ≡ length rest = sym (length-drop at text) ∙ ap length e in
    let same : min p.more (length text - at - 1) ≡ p.more = omega (arith, left, few) in
    ap (λ (n : ℕ). record { piece = record p { more = n }; reading = (step_of p index r).reading }) same

by_slash : (is_out : Bool) (text : List ℕ) (at b : ℕ) (bs : List ℕ) → (b == 10) ≡ false → is_ascii_punctuation b ≡ true → piece_by is_out 92 text at (92 ∷ b ∷ bs) ≡ piece (Shown b None) 1
by_slash is_out text at b bs e h = ap escape_by (ap (λ (t : Bool). cond t Break (cond (is_ascii_punctuation b) (SignEscape b) Itself)) e ∙ ap (λ (t : Bool). cond t (SignEscape b) Itself) h)

-- a backslash and a sign
step_sign : (labels : List (List ℕ)) (r : Reading) (text : List ℕ) (at index b : ℕ) (bs : List ℕ) → drop at text ≡ 92 ∷ b ∷ bs → (b == 10) ≡ false → is_ascii_punctuation b ≡ true
    → step labels text at index r (92 ∷ b ∷ bs) ≡ record { piece = piece (Shown b None) 1; reading = r }
unfolding step piece_at
step_sign labels r text at index b bs e f h =
    let rest = 92 ∷ b ∷ bs in
    let here = index_is text at 92 (b ∷ bs) e in
    let few : 1 < length rest = omega arith in
    ap (λ (c : ℕ). capped_step (read_with c labels text at index r rest) (length text - at - 1)) here
    ∙ ap (λ (s : Step). capped_step s (length text - at - 1)) (other_of labels r text at index 92 rest refl refl refl)
    ∙ ap (λ (c : ℕ). capped_step (step_of (piece_by (is_free r.brackets) c text at rest) index r) (length text - at - 1)) here
    ∙ ap (λ (p : Piece). capped_step (step_of p index r) (length text - at - 1)) (by_slash (is_free r.brackets) text at b bs f h)
    ∙ capped_is r text at index (piece (Shown b None) 1) rest e few

by_plain : (is_out : Bool) (text : List ℕ) (at b : ℕ) (bs : List ℕ) → is_mark b ≡ false → ends_line (b ∷ bs) ≡ false → bare_if is_out (byte_before text at) (b ∷ bs) ≡ None
    → piece_by is_out b text at (b ∷ bs) ≡ piece Plain (plain_from is_out (Some b) bs)
unfolding plain_piece
by_plain is_out text at b bs h e f =
    let rest = b ∷ bs in
    let before = byte_before text at in
    let others : piece_by is_out b text at rest ≡ no_mark_piece is_out before b rest =
    rw (none b 96 refl h) (rw (none b 42 refl h) (rw (none b 95 refl h) (rw (none b 126 refl h) (rw (none b 92 refl h) (rw (none b 38 refl h) (rw (none b 60 refl h) refl)))))) in
    others ∙ ap (λ (t : Bool). cond t (break_piece rest) (plain_piece is_out before b rest)) e ∙ ap (λ (o : Option Bare). plain_by o is_out b rest) f

-- plain bytes
step_plain : (labels : List (List ℕ)) (r : Reading) (text : List ℕ) (at index b : ℕ) (bs : List ℕ) → drop at text ≡ b ∷ bs → is_mark b ≡ false → ends_line (b ∷ bs) ≡ false → bare_if (is_free r.brackets) (byte_before text at) (b ∷ bs) ≡ None
    → plain_from (is_free r.brackets) (Some b) bs ≤ length bs → step labels text at index r (b ∷ bs) ≡ record { piece = piece Plain (plain_from (is_free r.brackets) (Some b) bs); reading = r }
unfolding step piece_at
step_plain labels r text at index b bs e h ends bare many =
    let rest = b ∷ bs in
    let here = index_is text at b bs e in
    let few : plain_from (is_free r.brackets) (Some b) bs < length rest = omega (arith, many) in
    ap (λ (c : ℕ). capped_step (read_with c labels text at index r rest) (length text - at - 1)) here
    ∙ ap (λ (s : Step). capped_step s (length text - at - 1)) (other_of labels r text at index b rest (none b 91 refl h) (none b 33 refl h) (none b 93 refl h))
    ∙ ap (λ (c : ℕ). capped_step (step_of (piece_by (is_free r.brackets) c text at rest) index r) (length text - at - 1)) here
    ∙ ap (λ (p : Piece). capped_step (step_of p index r) (length text - at - 1)) (by_plain (is_free r.brackets) text at b bs h ends bare)
    ∙ capped_is r text at index (piece Plain (plain_from (is_free r.brackets) (Some b) bs)) rest e few

-- ---- pieces, one after the other

pub skipped : (labels : List (List ℕ)) (r : Reading) (text : List ℕ) (at index : ℕ) (xs ys : List ℕ) → cut_from labels text (length xs) at index r (xs ++ ys) ≡ cut_from labels text 0 (at + length xs) index r ys
unfolding cut_from
skipped labels r text at index [] ys = ap (λ (n : ℕ). cut_from labels text 0 n index r ys) (omega arith)
skipped labels r text at index (x ∷ xs) ys = skipped labels r text (at + 1) index xs ys ∙ ap (λ (n : ℕ). cut_from labels text 0 n index r ys) (omega arith)

pub cut_by : (labels : List (List ℕ)) (r after : Reading) (text : List ℕ) (at index b : ℕ) (bs : List ℕ) (p : Piece) → step labels text at index r (b ∷ bs) ≡ record { piece = p; reading = after }
    → cut_from labels text 0 at index r (b ∷ bs) ≡ onto p (cut_from labels text p.more (at + 1) (index + 1) after bs)
unfolding cut_from
cut_by labels r after text at index b bs p e = ap (λ (s : Step). onto s.piece (cut_from labels text s.piece.more (at + 1) (index + 1) s.reading bs)) e

zero_more : (m : ℕ) → 0 + m ≡ m
zero_more m = omega arith

suc_more : (n m : ℕ) → suc n + m ≡ suc (n + m)
suc_more n m = omega arith

nil_drop : (n : ℕ) → drop {A = ℕ} n [] ≡ []
nil_drop zero = refl
nil_drop (suc n) = refl

pub drop_more : (n m : ℕ) (zs : List ℕ) → drop (n + m) zs ≡ drop m (drop n zs)
drop_more zero m zs = ap (λ (k : ℕ). drop k zs) (zero_more m)
drop_more (suc n) m [] = nil_drop (suc n + m) ∙ sym (nil_drop m)
drop_more (suc n) m (z ∷ zs) = ap (λ (k : ℕ). drop k (z ∷ zs)) (suc_more n m) ∙ drop_more n m zs

pub behind_more : (text : List ℕ) (at n : ℕ) (xs ys : List ℕ) → drop at text ≡ xs ++ ys → n ≡ length xs → drop (at + n) text ≡ ys
behind_more text at n xs ys e m = ap (λ (k : ℕ). drop (at + k) text) m ∙ drop_more at (length xs) text ∙ ap (drop (length xs)) e ∙ drop-append_seam xs ys

few_signs : (b : ℕ) → is_ascii_punctuation b ≡ true → b < 128
few_signs b h = grind (arith, nat_tests, h)

no_newline : (b : ℕ) → is_ascii_punctuation b ≡ true → (b == 10) ≡ false
no_newline b h = is_false (b == 10) (λ e. ap is_ascii_punctuation (sym (eqb-true b 10 e)) ∙ h)

taken_plain : (b n : ℕ) (xs ys : List ℕ) → n ≡ length xs → (b ∷ xs ≡ take (suc n) (b ∷ (xs ++ ys))) × (ys ≡ drop (suc n) (b ∷ (xs ++ ys)))
taken_plain b n xs ys e =
    (ap (λ (ws : List ℕ). b ∷ ws) (sym (take-append_seam xs ys)) ∙ ap (λ (k : ℕ). take (suc k) (b ∷ (xs ++ ys))) (sym e), sym (drop-append_seam xs ys) ∙ ap (λ (k : ℕ). drop (suc k) (b ∷ (xs ++ ys))) (sym e))

pub no_mark : (b : ℕ) → is_ascii_punctuation b ≡ false → is_mark b ≡ false
no_mark b f =
    rw (no_other is_ascii_punctuation b 33 refl f) (rw (no_other is_ascii_punctuation b 35 refl f) (rw (no_other is_ascii_punctuation b 38 refl f) (rw (no_other is_ascii_punctuation b 41 refl f)
    (rw (no_other is_ascii_punctuation b 42 refl f) (rw (no_other is_ascii_punctuation b 46 refl f) (rw (no_other is_ascii_punctuation b 58 refl f) (rw (no_other is_ascii_punctuation b 60 refl f)
    (rw (no_other is_ascii_punctuation b 64 refl f) (rw (no_other is_ascii_punctuation b 91 refl f) (rw (no_other is_ascii_punctuation b 92 refl f) (rw (no_other is_ascii_punctuation b 93 refl f)
    (rw (no_other is_ascii_punctuation b 95 refl f) (rw (no_other is_ascii_punctuation b 96 refl f) (rw (no_other is_ascii_punctuation b 126 refl f) refl))))))))))))))

punctuation : (b : ℕ) → is_mark b ≡ true → is_ascii_punctuation b ≡ true
punctuation b h = by_test (is_ascii_punctuation b) (is_ascii_punctuation b ≡ true) (λ e. e) (λ e. let no : false ≡ true = sym (no_mark b e) ∙ h in absurd (cc))

fewer : (fuel b : ℕ) (bs plain others : List ℕ) → length (b ∷ bs) ≤ suc fuel → bs ≡ plain ++ others → length others ≤ fuel
fewer fuel b bs plain others few e = omega (arith, few, ap length e, length-append plain others)

two_more : (at : ℕ) → at + 1 + 1 ≡ at + 2
two_more at = omega arith

one_and : (at n : ℕ) → at + 1 + n ≡ at + suc n
one_and at n = omega arith

-- ---- words, and what follows them

-- pieces that say these words, where so much is left behind them
abbrev pub AreWordsTo : (tail rest : List ℕ) → List Piece → (words : List ℕ) → Type 0
AreWordsTo tail rest [] words = (rest ≡ tail) × (words ≡ [])
AreWordsTo tail rest (p ∷ ps) words = (own : List ℕ) × (later : List ℕ) × (words ≡ own ++ later) × Says p.kind p.more rest own × AreWordsTo tail (drop (suc p.more) rest) ps later

-- how many bytes pieces have
abbrev pub bytes_in : List Piece → ℕ
bytes_in [] = 0
bytes_in (p ∷ ps) = p.more + 1 + bytes_in ps

-- pieces before others
abbrev pub before_others : List Piece → Pieces → Pieces
before_others ps c = record { pieces = ps ++ c.pieces; reading = c.reading }

-- Some bytes are cut into pieces that say words, and what follows them is cut as it would be anyhow.
pub record IsCut (labels : List (List ℕ)) (text : List ℕ) (at index : ℕ) (bytes words tail : List ℕ) : Type 0 where
  pub pieces : List Piece
  pub cut : (r : Reading) → cut_from labels text 0 at index r (bytes ++ tail) ≡ before_others pieces (cut_from labels text 0 (at + length bytes) (index + length pieces) r tail)
  pub many : bytes_in pieces ≡ length bytes
  pub are : AreWordsTo tail (bytes ++ tail) pieces words

-- the same at places that are the same
pub same_places : (labels : List (List ℕ)) (r : Reading) (text : List ℕ) (at other index next : ℕ) (tail : List ℕ) → at ≡ other → index ≡ next
    → cut_from labels text 0 at index r tail ≡ cut_from labels text 0 other next r tail
same_places labels r text at other index next tail e f = ap (λ (n : ℕ). cut_from labels text 0 n index r tail) e ∙ ap (λ (n : ℕ). cut_from labels text 0 other n r tail) f

none_cut : (labels : List (List ℕ)) (text : List ℕ) (at index : ℕ) (tail : List ℕ) → IsCut labels text at index [] [] tail
none_cut labels text at index tail = record { pieces = []; cut = λ r. same_places labels r text at (at + 0) index (index + 0) tail (omega arith) (omega arith); many = refl; are = (refl, refl) }

sign_cut : (labels : List (List ℕ)) (text : List ℕ) (at index b : ℕ) (bytes words tail : List ℕ) → drop at text ≡ 92 ∷ b ∷ (bytes ++ tail) → is_ascii_punctuation b ≡ true
    → IsCut labels text (at + 1 + 1) (index + 1) bytes words tail → IsCut labels text at index (92 ∷ b ∷ bytes) (b ∷ words) tail
sign_cut labels text at index b bytes words tail e h later =
    let p = piece (Shown b None) 1 in
    let count = length later.pieces in
    record {
      pieces = p ∷ later.pieces;
      cut = λ r.
          cut_by labels r r text at index 92 (b ∷ (bytes ++ tail)) p (step_sign labels r text at index b (bytes ++ tail) e (no_newline b h) h)
          ∙ ap (onto p) (skipped labels r text (at + 1) (index + 1) (b ∷ []) (bytes ++ tail) ∙ later.cut r)
          ∙ ap (λ (c : Pieces). before_others (p ∷ later.pieces) c)
          (same_places labels r text (at + 1 + 1 + length bytes) (at + length (92 ∷ b ∷ bytes)) (index + 1 + count) (index + length (p ∷ later.pieces)) tail (omega arith) (omega arith));
      many = omega (arith, later.many);
      are = (b ∷ [], words, refl, (refl, few_signs b h), later.are);
    }

plain_cut : (labels : List (List ℕ)) (text : List ℕ) (at index b : ℕ) (bs tail : List ℕ) → drop at text ≡ b ∷ (rest_of bs ++ tail) → is_mark b ≡ false → is_line (b ∷ bs) ≡ true → IsTail tail
    → (s : Split (Some b) bs tail) → IsCut labels text (at + 1 + length s.plain) (index + 1) (rest_of s.others) s.others tail → IsCut labels text at index (b ∷ rest_of bs) (b ∷ bs) tail
plain_cut labels text at index b bs tail e h line t s later =
    let are = plain_rest b bs h in
    let rest = rest_of bs ++ tail in
    let ends : ends_line (b ∷ rest) ≡ false = ap (λ (ws : List ℕ). ends_line (ws ++ tail)) (sym are) ∙ no_line_end (b ∷ bs) tail line t in
    let bare : (is_out : Bool) → bare_if is_out (byte_before text at) (b ∷ rest) ≡ None = λ is_out. ap (λ (ws : List ℕ). bare_if is_out (byte_before text at) (ws ++ tail)) (sym are) ∙ no_bare is_out (byte_before text at) (b ∷ bs) tail line t in
    let n = length s.plain in
    let behind = rest_of s.others ++ tail in
    let bytes_are : rest ≡ s.plain ++ behind = ap (λ (ws : List ℕ). ws ++ tail) s.bytes_are ∙ append_assoc s.plain (rest_of s.others) tail in
    let many : (is_out : Bool) → plain_from is_out (Some b) rest ≤ length rest = λ is_out. omega (arith, s.many is_out, ap length bytes_are, length-append s.plain behind) in
    let p = piece Plain n in
    let taken = taken_plain b n s.plain behind refl in
    let all : length (rest_of bs) ≡ length s.plain + length (rest_of s.others) = ap length s.bytes_are ∙ length-append s.plain (rest_of s.others) in
    let count = length later.pieces in
    record {
      pieces = p ∷ later.pieces;
      cut = λ r.
          cut_by labels r r text at index b rest p (step_plain labels r text at index b rest e h ends (bare (is_free r.brackets)) (many (is_free r.brackets)) ∙ ap (λ (k : ℕ). record { piece = piece Plain k; reading = r }) (s.many (is_free r.brackets)))
          ∙ ap (λ (ws : List ℕ). onto p (cut_from labels text (length s.plain) (at + 1) (index + 1) r ws)) bytes_are
          ∙ ap (onto p) (skipped labels r text (at + 1) (index + 1) s.plain behind ∙ later.cut r)
          ∙ ap (λ (c : Pieces). before_others (p ∷ later.pieces) c)
          (same_places labels r text (at + 1 + length s.plain + length (rest_of s.others)) (at + length (b ∷ rest_of bs)) (index + 1 + count) (index + length (p ∷ later.pieces)) tail (omega (arith, all)) (omega arith));
      many = omega (arith, later.many, all);
      are = (
        b ∷ s.plain,
        s.others,
        ap (λ (ws : List ℕ). b ∷ ws) s.words_are,
        taken.0 ∙ ap (λ (ws : List ℕ). take (suc n) (b ∷ ws)) (sym bytes_are),
        subst (λ (ws : List ℕ). AreWordsTo tail ws later.pieces s.others) (taken.1 ∙ ap (λ (ws : List ℕ). drop (suc n) (b ∷ ws)) (sym bytes_are)) later.are,
      );
    }

rest_cut : (labels : List (List ℕ)) (text : List ℕ) (fuel at index : ℕ) (words tail : List ℕ) → length words ≤ fuel → is_line words ≡ true → IsTail tail → drop at text ≡ rest_of words ++ tail
    → IsCut labels text at index (rest_of words) words tail
rest_cut labels text fuel at index [] tail few line t e = none_cut labels text at index tail
rest_cut labels text zero at index (b ∷ bs) tail few line t e = absurd (omega (arith, few))
rest_cut labels text (suc fuel) at index (b ∷ bs) tail few line t e =
    let parts = and_parts (not (is_tab_or_end b)) (is_line bs) line in
    by_test (is_mark b) (IsCut labels text at index (rest_of (b ∷ bs)) (b ∷ bs) tail)
    (λ h.
    let are = sign_rest b bs h in
    let here : drop at text ≡ 92 ∷ b ∷ (rest_of bs ++ tail) = e ∙ ap (λ (ws : List ℕ). ws ++ tail) are in
    subst (λ (ws : List ℕ). IsCut labels text at index ws (b ∷ bs) tail) (sym are)
    (sign_cut labels text at index b (rest_of bs) bs tail here (punctuation b h) (rest_cut labels text fuel (at + 1 + 1) (index + 1) bs tail (omega (arith, few)) parts.1 t
    (ap (λ (n : ℕ). drop n text) (two_more at) ∙ behind_more text at 2 (92 ∷ b ∷ []) (rest_of bs ++ tail) here refl))))
    (λ h.
    let are = plain_rest b bs h in
    let here : drop at text ≡ b ∷ (rest_of bs ++ tail) = e ∙ ap (λ (ws : List ℕ). ws ++ tail) are in
    let s = split (Some b) bs tail parts.1 t in
    let behind = rest_of s.others ++ tail in
    let bytes_are : rest_of bs ++ tail ≡ s.plain ++ behind = ap (λ (ws : List ℕ). ws ++ tail) s.bytes_are ∙ append_assoc s.plain (rest_of s.others) tail in
    subst (λ (ws : List ℕ). IsCut labels text at index ws (b ∷ bs) tail) (sym are)
    (plain_cut labels text at index b bs tail here h line t s (rest_cut labels text fuel (at + 1 + length s.plain) (index + 1) s.others tail (fewer fuel b bs s.plain s.others few s.words_are) s.line t
    (ap (λ (n : ℕ). drop n text) (one_and at (length s.plain)) ∙ behind_more text at (suc (length s.plain)) (b ∷ s.plain) behind (here ∙ ap (λ (ws : List ℕ). b ∷ ws) bytes_are) refl))))

-- words in a line are cut into pieces that say them
pub others_cut : (labels : List (List ℕ)) (text : List ℕ) (at index : ℕ) (words tail : List ℕ) → is_line words ≡ true → IsTail tail → drop at text ≡ rest_of words ++ tail
    → IsCut labels text at index (rest_of words) words tail
others_cut labels text at index words tail line t e = rest_cut labels text (length words) at index words tail (omega arith) line t e

-- and so are those at its beginning
pub first_cut : (labels : List (List ℕ)) (words tail : List ℕ) → is_line words ≡ true → IsTail tail → IsCut labels (escaped words ++ tail) 0 0 (escaped words) words tail
first_cut labels [] tail line t = none_cut labels tail 0 0 tail
first_cut labels (b ∷ bs) tail line t =
    let parts = and_parts (not (is_tab_or_end b)) (is_line bs) line in
    by_test (is_ascii_punctuation b) (IsCut labels (escaped (b ∷ bs) ++ tail) 0 0 (escaped (b ∷ bs)) (b ∷ bs) tail)
    (λ h.
    let text = 92 ∷ b ∷ (rest_of bs ++ tail) in
    subst (λ (ws : List ℕ). IsCut labels (ws ++ tail) 0 0 ws (b ∷ bs) tail) (sym (ap (λ (t : Bool). escaped_if t b ++ rest_of bs) h))
    (sign_cut labels text 0 0 b (rest_of bs) bs tail refl h (others_cut labels text (0 + 1 + 1) (0 + 1) bs tail parts.1 t refl)))
    (λ h.
    let same : rest_of (b ∷ bs) ≡ escaped (b ∷ bs) = plain_rest b bs (no_mark b h) ∙ sym (ap (λ (t : Bool). escaped_if t b ++ rest_of bs) h) in
    subst (λ (ws : List ℕ). IsCut labels (ws ++ tail) 0 0 ws (b ∷ bs) tail) same (others_cut labels (rest_of (b ∷ bs) ++ tail) 0 0 (b ∷ bs) tail line t refl))

-- ---- words alone

nothing_left : (rest : List ℕ) (ps : List Piece) (words : List ℕ) → AreWordsTo [] rest ps words → AreWords rest ps words
nothing_left rest [] words h = h
nothing_left rest (p ∷ ps) words h = (h.0, h.1, h.2, h.3, nothing_left (drop (suc p.more) rest) ps h.1 h.4)

-- what is cut where nothing follows
ended_cut : (labels : List (List ℕ)) (text : List ℕ) (at index : ℕ) (bytes words : List ℕ) (c : IsCut labels text at index bytes words []) → cut_from labels text 0 at index nothing_read (bytes ++ []) ≡ record { pieces = c.pieces; reading = nothing_read }
unfolding cut_from
ended_cut labels text at index bytes words c = c.cut nothing_read ∙ ap (λ (ps : List Piece). record { pieces = ps; reading = nothing_read }) (append-nil c.pieces)

-- escaped words are read as these words
pub words_said : WordsAreSaid
words_said labels words line =
    let found = first_cut labels words [] line none_follows in
    let same = append-nil (escaped words) in
    subst (λ (bs : List ℕ). AreWords bs (cut_text labels bs).pieces words) same
    (subst (λ (c : Pieces). AreWords (escaped words ++ []) c.pieces words) (sym (ended_cut labels (escaped words ++ []) 0 0 (escaped words) words found)) (nothing_left (escaped words ++ []) found.pieces words found.are))
