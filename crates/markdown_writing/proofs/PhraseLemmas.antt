-- A line of phrases begins a paragraph, and ends with no sign that closes a heading.
use Rattle.std.proofs.Common.{◌≡◌, ℕ, zero, suc, Bool, true, false, cond, not, ◌||◌, ◌==◌, nat_lt, ◌+◌, List, [], ◌∷◌, ◌++◌, replicate, flat_map, Some, None, refl, sym, ap, subst, ◌∙◌, append_assoc, append-nil}
use Rattle.std.proofs.lemmas.Bool.{and_parts, or_parts}
use Rattle.std.specs.List.{list_any, prefix_len}
use Rattle.markdown_marks.specs.Bytes.{count_in_front, ends_sign, is_blank_byte}
use Rattle.markdown_marks.specs.Items.{marker_start}
use Rattle.markdown_marks.specs.Marks.{fence_of, fence_start, is_rule}
use Rattle.markdown_spans.specs.Code.{is_padded}
use Rattle.markdown_writing.specs.Phrases.{Phrase, plain, code_span, emphasis, emphasis_text, ends_ticked, fence, first_text, line_text, link, link_text, most_ticks, needs_room, phrase_text, room, roomy, span_text, star_marks}
use Rattle.markdown_writing.specs.Writable.{IsLine, begins_words, line_ends_full, take_turns}
use Rattle.markdown_writing.specs.Words.{escaped, escaped_byte, is_mark}
use Rattle.markdown_writing.proofs.CodeLemmas.{ticks_counted, ticks_dropped}
use Rattle.markdown_writing.proofs.WordLemmas.{BeginsWords, EndsFull, behind_digits, by_escape, by_test, ends_number, more_ends, no_fence, no_number, no_other, no_rule, not_none, rest_ends, words_begin, words_end}

-- ---- its beginning

negated : (t : Bool) → not t ≡ true → t ≡ false
negated true h = sym h
negated false h = refl

-- what follows words is no number
others_unnumbered : (ps : List Phrase) → begins_words ps ≡ false → ends_number (behind_digits (flat_map phrase_text ps)) ≡ false
others_unnumbered [] h = refl
others_unnumbered (plain words ∷ ps) h = let no : true ≡ false = h in absurd (cc)
others_unnumbered (code_span code ∷ ps) h = refl
others_unnumbered (emphasis strong words ∷ ps) h = refl
others_unnumbered (link words destination ∷ ps) h = refl

-- ---- code at its beginning

abbrev tick : ℕ → Bool
tick b = b == 96

-- a text that begins with another byte than a backquote
record BeginsOther (text : List ℕ) : Type 0 where
  c : ℕ
  cs : List ℕ
  is : text ≡ c ∷ cs
  other : (c == 96) ≡ false

-- code with the spaces that it needs begins so
roomy_begins : (b : ℕ) (bs : List ℕ) → BeginsOther (roomy (b ∷ bs))
roomy_begins b bs =
    let code = b ∷ bs in
    by_test (needs_room code) (BeginsOther (roomy code))
    (λ h. subst (λ (t : Bool). BeginsOther (room t ++ (code ++ room t))) (sym h) (record { c = 32; cs = code ++ 32 ∷ []; is = refl; other = refl }))
    (λ h.
    let none = or_parts (b == 96) (ends_ticked code) (or_parts ((b == 96) || ends_ticked code) (is_padded code) h).0 in
    subst (λ (t : Bool). BeginsOther (room t ++ (code ++ room t))) (sym h) (record { c = b; cs = bs ++ []; is = refl; other = none.0 }))

some_tick : (text tail : List ℕ) → list_any tick (text ++ 96 ∷ tail) ≡ true
some_tick [] tail = refl
some_tick (b ∷ bs) tail = or_right (tick b) (list_any tick (bs ++ 96 ∷ tail)) (some_tick bs tail)
  where
    or_right : (p q : Bool) → q ≡ true → (p || q) ≡ true
    or_right true q h = refl
    or_right false q h = h

or_true : (t : Bool) → (t || true) ≡ true
or_true true = refl
or_true false = refl

-- backquotes are no fence where others follow in the line
no_start : (k : ℕ) (text tail : List ℕ) → BeginsOther text → fence_start (replicate (suc k) 96 ++ (text ++ 96 ∷ tail)) ≡ None
unfolding fence_start count_in_front
no_start k text tail f =
    let rest = text ++ 96 ∷ tail in
    let line = replicate (suc k) 96 ++ rest in
    let none : prefix_len tick rest ≡ 0 = ap (λ (bs : List ℕ). prefix_len tick (bs ++ 96 ∷ tail)) f.is ∙ ap (λ (t : Bool). cond t (1 + prefix_len tick (f.cs ++ 96 ∷ tail)) 0) f.other in
    let count : prefix_len tick line ≡ suc k = ticks_counted (suc k) rest none in
    ap (λ (n : ℕ). fence_of 96 n line) count
    ∙ ap (λ (bs : List ℕ). cond (nat_lt (suc k) 3 || list_any tick bs) None (Some (record { sign = 96; length = suc k }))) (ticks_dropped (suc k) rest)
    ∙ ap (λ (t : Bool). cond (nat_lt (suc k) 3 || t) None (Some (record { sign = 96; length = suc k }))) (some_tick text tail)
    ∙ ap (λ (t : Bool). cond t None (Some (record { sign = 96; length = suc k }))) (or_true (nat_lt (suc k) 3))

-- a code span begins a paragraph, whatever follows
span_begins : (b : ℕ) (bs tail : List ℕ) → BeginsWords (span_text (b ∷ bs) ++ tail)
span_begins b bs tail =
    let code = b ∷ bs in
    let most = most_ticks 0 0 code in
    let more = (replicate most 96 ++ (roomy code ++ fence most)) ++ tail in
    let parts : 96 ∷ more ≡ replicate (suc most) 96 ++ (roomy code ++ 96 ∷ (replicate most 96 ++ tail)) =
    append_assoc (fence most) (roomy code ++ fence most) tail ∙ ap (λ (xs : List ℕ). fence most ++ xs) (append_assoc (roomy code) (fence most) tail) in
    record {
      b = 96;
      bs = more;
      whole = refl;
      sign = refl;
      rule = no_rule 96 more refl refl refl;
      fence = ap fence_start parts ∙ no_start most (roomy code) (replicate most 96 ++ tail) (roomy_begins b bs);
      marker = no_number (96 ∷ more) refl refl;
    }

-- ---- stars at its beginning

no_item : (c : ℕ) (cs : List ℕ) → is_blank_byte c ≡ false → ends_sign (c ∷ cs) ≡ false
no_item c cs h = ap (λ (t : Bool). t || is_blank_byte c) (not_none c cs) ∙ h

star_item : (c : ℕ) (cs : List ℕ) → is_blank_byte c ≡ false → marker_start (42 ∷ c ∷ cs) ≡ None
star_item c cs h = rw (no_item c cs h) refl

stars_rule : (strong : Bool) (c : ℕ) (cs : List ℕ) → (c == 42) ≡ false → (c == 32) ≡ false → (c == 9) ≡ false → is_rule (star_marks strong ++ c ∷ cs) ≡ false
unfolding is_rule
stars_rule true c cs e f g = rw e (rw f (rw g refl))
stars_rule false c cs e f g = rw e (rw f (rw g refl))

-- stars begin a paragraph where neither a blank nor a star follows
stars_begin : (strong : Bool) (c : ℕ) (cs : List ℕ) → (c == 42) ≡ false → is_blank_byte c ≡ false → BeginsWords (star_marks strong ++ c ∷ cs)
stars_begin true c cs e h = record {
  b = 42;
  bs = 42 ∷ c ∷ cs;
  whole = refl;
  sign = refl;
  rule = stars_rule true c cs e (no_other is_blank_byte c 32 refl h) (no_other is_blank_byte c 9 refl h);
  fence = no_fence 42 (42 ∷ c ∷ cs) refl refl;
  marker = star_item 42 (c ∷ cs) refl;
}
stars_begin false c cs e h = record {
  b = 42;
  bs = c ∷ cs;
  whole = refl;
  sign = refl;
  rule = stars_rule false c cs e (no_other is_blank_byte c 32 refl h) (no_other is_blank_byte c 9 refl h);
  fence = no_fence 42 (c ∷ cs) refl refl;
  marker = star_item c cs h;
}

-- emphasis begins a paragraph, whatever follows
emphasis_begins : (strong : Bool) (b : ℕ) (bs tail : List ℕ) → is_blank_byte b ≡ false → BeginsWords (emphasis_text strong (b ∷ bs) ++ tail)
emphasis_begins strong b bs tail h =
    let stars = star_marks strong in
    let rest = flat_map escaped_byte bs in
    subst BeginsWords (sym (append_assoc stars (flat_map escaped_byte (b ∷ bs) ++ stars) tail))
    (by_escape (λ (front : List ℕ). BeginsWords (stars ++ (((front ++ rest) ++ stars) ++ tail))) (is_mark b) b (λ e. stars_begin strong 92 (b ∷ ((rest ++ stars) ++ tail)) refl refl)
    (λ e. stars_begin strong b ((rest ++ stars) ++ tail) (no_other is_mark b 42 refl e) h))

pub line_begins : (ps : List Phrase) → IsLine ps → BeginsWords (line_text ps)
line_begins [] h = let no : false ≡ true = h.begins in absurd (cc)
line_begins (code_span [] ∷ ps) h = let no : false ≡ true = h.are.each in absurd (cc)
line_begins (code_span (b ∷ bs) ∷ ps) h = span_begins b bs (flat_map phrase_text ps)
line_begins (plain [] ∷ ps) h = let no : false ≡ true = h.are.each in absurd (cc)
line_begins (plain (b ∷ bs) ∷ ps) h = words_begin b bs (flat_map phrase_text ps) (others_unnumbered ps (negated (begins_words ps) (and_parts (not (begins_words ps)) (take_turns ps) h.are.turns).0)) (negated (is_blank_byte b) h.begins)
line_begins (emphasis strong [] ∷ ps) h = let no : false ≡ true = h.are.each in absurd (cc)
line_begins (emphasis strong (b ∷ bs) ∷ ps) h = emphasis_begins strong b bs (flat_map phrase_text ps) (negated (is_blank_byte b) h.begins)
line_begins (link words destination ∷ ps) h = let no : false ≡ true = h.begins in absurd (cc)

-- ---- its end

fence_end : (most : ℕ) → fence most ≡ replicate most 96 ++ 96 ∷ []
fence_end zero = refl
fence_end (suc n) = ap (λ (bs : List ℕ). 96 ∷ bs) (fence_end n)

fence_ends : (most : ℕ) → EndsFull (fence most)
fence_ends most = record { front = replicate most 96; last = 96; whole = fence_end most; full = refl; sign = λ e. let no : false ≡ true = e in absurd (cc) }

span_ends : (code : List ℕ) → EndsFull (phrase_text (code_span code))
span_ends code = let most = most_ticks 0 0 code in more_ends (fence most) (roomy code ++ fence most) (more_ends (roomy code) (fence most) (fence_ends most))

stars_end : (strong : Bool) → EndsFull (star_marks strong)
stars_end true = record { front = 42 ∷ []; last = 42; whole = refl; full = refl; sign = λ e. let no : false ≡ true = e in absurd (cc) }
stars_end false = record { front = []; last = 42; whole = refl; full = refl; sign = λ e. let no : false ≡ true = e in absurd (cc) }

emphasis_ends : (strong : Bool) (words : List ℕ) → EndsFull (emphasis_text strong words)
emphasis_ends strong words =
    let stars = star_marks strong in
    let bytes = flat_map escaped_byte words in
    more_ends stars (bytes ++ stars) (more_ends bytes stars (stars_end strong))

paren_ends : EndsFull (41 ∷ [])
paren_ends = record { front = []; last = 41; whole = refl; full = refl; sign = λ e. let no : false ≡ true = e in absurd (cc) }

link_ends : (words destination : List ℕ) → EndsFull (link_text words destination)
link_ends words destination =
    let bytes = flat_map escaped_byte words in
    more_ends (91 ∷ []) (bytes ++ 93 ∷ 40 ∷ (destination ++ 41 ∷ []))
    (more_ends bytes (93 ∷ 40 ∷ (destination ++ 41 ∷ [])) (more_ends (93 ∷ 40 ∷ []) (destination ++ 41 ∷ []) (more_ends destination (41 ∷ []) paren_ends)))

later_full : (p q : Phrase) (qs : List Phrase) → line_ends_full (p ∷ (q ∷ qs)) ≡ true → line_ends_full (q ∷ qs) ≡ true
later_full (plain words) q qs h = h
later_full (code_span code) q qs h = h
later_full (emphasis strong words) q qs h = h
later_full (link words destination) q qs h = h

others_end : (p : Phrase) (ps : List Phrase) → line_ends_full (p ∷ ps) ≡ true → EndsFull (flat_map phrase_text (p ∷ ps))
others_end (plain []) [] h = let no : false ≡ true = h in absurd (cc)
others_end (plain (b ∷ bs)) [] h = subst EndsFull (sym (append-nil (phrase_text (plain (b ∷ bs))))) (rest_ends b bs h)
others_end (code_span code) [] h = subst EndsFull (sym (append-nil (phrase_text (code_span code)))) (span_ends code)
others_end (emphasis strong words) [] h = subst EndsFull (sym (append-nil (emphasis_text strong words))) (emphasis_ends strong words)
others_end (link words destination) [] h = subst EndsFull (sym (append-nil (link_text words destination))) (link_ends words destination)
others_end p (q ∷ qs) h = more_ends (phrase_text p) (flat_map phrase_text (q ∷ qs)) (others_end q qs (later_full p q qs h))

pub line_end : (p : Phrase) (ps : List Phrase) → line_ends_full (p ∷ ps) ≡ true → EndsFull (line_text (p ∷ ps))
line_end (plain []) [] h = let no : false ≡ true = h in absurd (cc)
line_end (plain (b ∷ bs)) [] h = subst EndsFull (sym (append-nil (escaped (b ∷ bs)))) (words_end b bs h)
line_end (code_span code) [] h = subst EndsFull (sym (append-nil (phrase_text (code_span code)))) (span_ends code)
line_end (emphasis strong words) [] h = subst EndsFull (sym (append-nil (emphasis_text strong words))) (emphasis_ends strong words)
line_end (link words destination) [] h = subst EndsFull (sym (append-nil (link_text words destination))) (link_ends words destination)
line_end p (q ∷ qs) h = more_ends (first_text p) (flat_map phrase_text (q ∷ qs)) (others_end q qs (later_full p q qs h))

pub line_ends : (ps : List Phrase) → IsLine ps → EndsFull (line_text ps)
line_ends [] h = let no : false ≡ true = h.ends in absurd (cc)
line_ends (p ∷ ps) h = line_end p ps h.ends
