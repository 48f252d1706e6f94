-- Escaped words begin with no sign and end with none that closes a heading.
use Rattle.std.proofs.Common.{◌≡◌, ℕ, suc, ◌+◌, ◌-◌, Bool, true, false, cond, not, ◌||◌, ◌&&◌, ◌==◌, nat_lt, List, [], ◌∷◌, ◌++◌, length, take, drop, reverse, slice_index, Option, None, refl, sym, ap, subst, ◌∙◌, append_assoc, append-nil, length-append, arith}
use Rattle.std.proofs.lemmas.Bool.{eqb-true}
use Rattle.std.proofs.lemmas.Bool.Decides.{nat_tests}
use Rattle.std.proofs.lemmas.List.{reverse-append, take_all, take_at}
use Rattle.std.specs.Char.{is_ascii_digit, is_ascii_punctuation}
use Rattle.std.specs.List.{flat_map, prefix_len, suffix_len}
use Rattle.std.specs.Str.Parse.{digits_value}
use Rattle.markdown_marks.specs.Bytes.{first, is_blank_byte, without_blanks}
use Rattle.markdown_marks.specs.Headings.{heading_text, is_either, unclosed, without_closing, without_end}
use Rattle.markdown_marks.specs.Items.{is_bullet, marker_of, marker_start, ordered_of}
use Rattle.markdown_marks.specs.Marks.{fence_start, is_rule}
use Rattle.markdown_laws.specs.Plain.{is_sign}
use Rattle.markdown_writing.specs.Words.{escaped, escaped_byte, escaped_if, is_mark}
use Rattle.markdown_writing.specs.Writable.{ends_full}

-- ---- tests

pub is_false : (b : Bool) → (b ≡ true → false ≡ true) → b ≡ false
is_false true h = let e : false ≡ true = h refl in absurd (cc)
is_false false h = refl

-- a byte that fails a test is none that passes it
pub no_other : (test : ℕ → Bool) (b k : ℕ) → test k ≡ true → test b ≡ false → (b == k) ≡ false
no_other test b k passes h = is_false (b == k) (λ e. sym h ∙ ap test (eqb-true b k e) ∙ passes)

pub by_test : (t : Bool) (A : Type 0) → (t ≡ true → A) → (t ≡ false → A) → A
by_test true A f g = f refl
by_test false A f g = g refl

-- what holds with a backslash and without one
pub by_escape : (P : List ℕ → Type 0) (t : Bool) (b : ℕ) → (t ≡ true → P (92 ∷ b ∷ [])) → (t ≡ false → P (b ∷ [])) → P (escaped_if t b)
by_escape P true b f g = f refl
by_escape P false b f g = g refl

pub not_none : {A : Type 0} (x : A) (xs : List A) → (length (x ∷ xs) == 0) ≡ false
not_none x xs = grind (arith, nat_tests)

not_true : (t : Bool) → not t ≡ true → t ≡ false
not_true true h = sym h
not_true false h = refl

-- ---- their first byte

-- a byte that is neither a blank nor punctuation is no sign
no_sign : (b : ℕ) → is_blank_byte b ≡ false → is_ascii_punctuation b ≡ false → is_sign b ≡ false
no_sign b blank h =
    rw (no_other is_blank_byte b 32 refl blank) (rw (no_other is_blank_byte b 9 refl blank) (rw (no_other is_ascii_punctuation b 35 refl h) (rw (no_other is_ascii_punctuation b 42 refl h)
    (rw (no_other is_ascii_punctuation b 43 refl h) (rw (no_other is_ascii_punctuation b 45 refl h) (rw (no_other is_ascii_punctuation b 58 refl h) (rw (no_other is_ascii_punctuation b 60 refl h)
    (rw (no_other is_ascii_punctuation b 61 refl h) (rw (no_other is_ascii_punctuation b 62 refl h) (rw (no_other is_ascii_punctuation b 91 refl h) (rw (no_other is_ascii_punctuation b 95 refl h)
    (rw (no_other is_ascii_punctuation b 96 refl h) (rw (no_other is_ascii_punctuation b 124 refl h) (rw (no_other is_ascii_punctuation b 126 refl h) refl))))))))))))))

-- a full stop or a parenthesis, which ends the number of an item
abbrev pub ends_number : ℕ → Bool
ends_number b = (b == 46) || (b == 41)

-- the byte behind the digits in front
abbrev pub behind_digits : List ℕ → ℕ
behind_digits bytes = slice_index bytes (prefix_len is_ascii_digit bytes)

one_more : (n : ℕ) → 1 + n ≡ suc n
one_more n = omega arith

digit_then : (b : ℕ) (bs : List ℕ) → is_ascii_digit b ≡ true → behind_digits (b ∷ bs) ≡ behind_digits bs
digit_then b bs e = ap (λ (t : Bool). slice_index (b ∷ bs) (cond t (1 + prefix_len is_ascii_digit bs) 0)) e ∙ ap (λ (n : ℕ). slice_index (b ∷ bs) n) (one_more (prefix_len is_ascii_digit bs))

digit_none : (b : ℕ) (bs : List ℕ) → is_ascii_digit b ≡ false → behind_digits (b ∷ bs) ≡ b
digit_none b bs e = ap (λ (t : Bool). slice_index (b ∷ bs) (cond t (1 + prefix_len is_ascii_digit bs) 0)) e

no_end : (b : ℕ) → is_mark b ≡ false → ends_number b ≡ false
no_end b h = rw (no_other is_mark b 46 refl h) (no_other is_mark b 41 refl h)

-- a byte without a backslash, and others of which this is known
then_none : (b : ℕ) (rest : List ℕ) → ends_number b ≡ false → ends_number (behind_digits rest) ≡ false → ends_number (behind_digits (b ∷ rest)) ≡ false
then_none b rest h later =
    by_test (is_ascii_digit b) (ends_number (behind_digits (b ∷ rest)) ≡ false) (λ e. ap ends_number (digit_then b rest e) ∙ later) (λ e. ap ends_number (digit_none b rest e) ∙ h)

-- escaped words have no number with its sign in front, nor have they together with what follows
rest_unnumbered : (words tail : List ℕ) → ends_number (behind_digits tail) ≡ false → ends_number (behind_digits (flat_map escaped_byte words ++ tail)) ≡ false
rest_unnumbered [] tail h = h
rest_unnumbered (b ∷ bs) tail h =
    by_escape (λ (front : List ℕ). ends_number (behind_digits ((front ++ flat_map escaped_byte bs) ++ tail)) ≡ false) (is_mark b) b (λ e. refl)
    (λ e. then_none b (flat_map escaped_byte bs ++ tail) (no_end b e) (rest_unnumbered bs tail h))

none_by : {A : Type 0} (t : Bool) (o : Option A) → o ≡ None → cond t None o ≡ None
none_by true o e = refl
none_by false o e = e

pub no_number : (bytes : List ℕ) → is_bullet (first bytes) ≡ false → ends_number (behind_digits bytes) ≡ false → marker_start bytes ≡ None
no_number bytes bullet h =
    let digits = prefix_len is_ascii_digit bytes in
    let sign = behind_digits bytes in
    let number = ordered_of digits sign bytes in
    ap (λ (t : Bool). cond t (marker_of t (first bytes) 0 1 bytes) number) bullet
    ∙ none_by ((digits == 0) || nat_lt 9 digits) (marker_of (ends_number sign) sign (digits_value 10 (take digits bytes)) (digits + 1) bytes) (ap (λ (t : Bool). marker_of t sign (digits_value 10 (take digits bytes)) (digits + 1) bytes) h)

-- a sign, but no backquote and no star
abbrev pub is_other_sign : ℕ → Bool
is_other_sign b = is_sign b && not ((b == 96) || (b == 42))

-- some bytes begin a paragraph: the first is no other sign, they are no thematic break, and neither a fence nor an item's sign is in front
pub record BeginsWords (bytes : List ℕ) : Type 0 where
  pub b : ℕ
  pub bs : List ℕ
  pub whole : bytes ≡ b ∷ bs
  pub sign : is_other_sign b ≡ false
  pub rule : is_rule (b ∷ bs) ≡ false
  pub fence : fence_start (b ∷ bs) ≡ None
  pub marker : marker_start (b ∷ bs) ≡ None

pub no_fence : (b : ℕ) (bs : List ℕ) → (b == 96) ≡ false → (b == 126) ≡ false → fence_start (b ∷ bs) ≡ None
unfolding fence_start
no_fence b bs e f = rw e (rw f refl)

pub no_rule : (b : ℕ) (bs : List ℕ) → (b == 42) ≡ false → (b == 45) ≡ false → (b == 95) ≡ false → is_rule (b ∷ bs) ≡ false
unfolding is_rule
no_rule b bs e f g = rw e (rw f (rw g refl))

backslash_begins : (bs : List ℕ) → BeginsWords (92 ∷ bs)
backslash_begins bs = record { b = 92; bs = bs; whole = refl; sign = refl; rule = no_rule 92 bs refl refl refl; fence = no_fence 92 bs refl refl; marker = no_number (92 ∷ bs) refl refl }

no_bullet : (b : ℕ) → is_ascii_punctuation b ≡ false → is_bullet b ≡ false
no_bullet b h = rw (no_other is_ascii_punctuation b 42 refl h) (rw (no_other is_ascii_punctuation b 43 refl h) (no_other is_ascii_punctuation b 45 refl h))

no_end_first : (b : ℕ) → is_ascii_punctuation b ≡ false → ends_number b ≡ false
no_end_first b h = rw (no_other is_ascii_punctuation b 46 refl h) (no_other is_ascii_punctuation b 41 refl h)

byte_begins : (b : ℕ) (bs tail : List ℕ) → ends_number (behind_digits tail) ≡ false → is_blank_byte b ≡ false → is_ascii_punctuation b ≡ false → BeginsWords (b ∷ (flat_map escaped_byte bs ++ tail))
byte_begins b bs tail e blank h =
    let rest = flat_map escaped_byte bs ++ tail in
    record {
      b = b;
      bs = rest;
      whole = refl;
      sign = ap (λ (t : Bool). t && not ((b == 96) || (b == 42))) (no_sign b blank h);
      rule = no_rule b rest (no_other is_ascii_punctuation b 42 refl h) (no_other is_ascii_punctuation b 45 refl h) (no_other is_ascii_punctuation b 95 refl h);
      fence = no_fence b rest (no_other is_ascii_punctuation b 96 refl h) (no_other is_ascii_punctuation b 126 refl h);
      marker = no_number (b ∷ rest) (no_bullet b h) (then_none b rest (no_end_first b h) (rest_unnumbered bs tail e));
    }

-- escaped words begin a paragraph, whatever follows but a digit or the sign of a number
pub words_begin : (b : ℕ) (bs tail : List ℕ) → ends_number (behind_digits tail) ≡ false → is_blank_byte b ≡ false → BeginsWords (escaped (b ∷ bs) ++ tail)
words_begin b bs tail e blank =
    by_escape (λ (front : List ℕ). BeginsWords ((front ++ flat_map escaped_byte bs) ++ tail)) (is_ascii_punctuation b) b (λ h. backslash_begins (b ∷ (flat_map escaped_byte bs ++ tail)))
    (λ h. byte_begins b bs tail e blank h)

-- ---- their last byte

-- some bytes end with one that is no blank, and before a sign # is a backslash
pub record EndsFull (bytes : List ℕ) : Type 0 where
  pub front : List ℕ
  pub last : ℕ
  pub whole : bytes ≡ front ++ last ∷ []
  pub full : is_blank_byte last ≡ false
  pub sign : (last == 35) ≡ true → (before : List ℕ) × (front ≡ before ++ 92 ∷ [])

escaped_ends : (b : ℕ) → is_blank_byte b ≡ false → EndsFull (92 ∷ b ∷ [])
escaped_ends b h = record { front = 92 ∷ []; last = b; whole = refl; full = h; sign = λ e. ([], refl) }

plain_ends : (test : ℕ → Bool) (b : ℕ) → test 35 ≡ true → test b ≡ false → is_blank_byte b ≡ false → EndsFull (b ∷ [])
plain_ends test b passes h full = record { front = []; last = b; whole = refl; full = full; sign = λ e. let no : true ≡ false = sym e ∙ no_other test b 35 passes h in absurd (cc) }

one_ends : (test : ℕ → Bool) (b : ℕ) → test 35 ≡ true → is_blank_byte b ≡ false → EndsFull (escaped_if (test b) b)
one_ends test b passes full = by_escape EndsFull (test b) b (λ e. escaped_ends b full) (λ e. plain_ends test b passes e full)

-- bytes before change nothing of that
pub more_ends : (before bytes : List ℕ) → EndsFull bytes → EndsFull (before ++ bytes)
more_ends before bytes h = record {
  front = before ++ h.front;
  last = h.last;
  whole = ap (λ (bs : List ℕ). before ++ bs) h.whole ∙ sym (append_assoc before h.front (h.last ∷ []));
  full = h.full;
  sign = λ e. let s = h.sign e in (before ++ s.0, ap (λ (bs : List ℕ). before ++ bs) s.1 ∙ sym (append_assoc before s.0 (92 ∷ [])));
}

pub rest_ends : (b : ℕ) (bs : List ℕ) → ends_full (b ∷ bs) ≡ true → EndsFull (flat_map escaped_byte (b ∷ bs))
rest_ends b [] h = subst EndsFull (sym (append-nil (escaped_byte b))) (one_ends is_mark b refl (not_true (is_blank_byte b) h))
rest_ends b (c ∷ cs) h = more_ends (escaped_byte b) (flat_map escaped_byte (c ∷ cs)) (rest_ends c cs h)

-- so escaped words end
pub words_end : (b : ℕ) (bs : List ℕ) → ends_full (b ∷ bs) ≡ true → EndsFull (escaped (b ∷ bs))
words_end b [] h = subst EndsFull (sym (append-nil (escaped_if (is_ascii_punctuation b) b))) (one_ends is_ascii_punctuation b refl (not_true (is_blank_byte b) h))
words_end b (c ∷ cs) h = more_ends (escaped_if (is_ascii_punctuation b) b) (flat_map escaped_byte (c ∷ cs)) (rest_ends c cs h)

-- ---- the text of a heading

none_behind : (p : ℕ → Bool) (front : List ℕ) (last : ℕ) → p last ≡ false → suffix_len p (front ++ last ∷ []) ≡ 0
none_behind p front last h = ap (prefix_len p) (reverse-append front (last ∷ [])) ∙ ap (λ (t : Bool). cond t (1 + prefix_len p (reverse front)) 0) h

all_taken : (bytes : List ℕ) (n : ℕ) → n ≡ 0 → take (length bytes - n) bytes ≡ bytes
all_taken bytes n e = take_all (length bytes - n) bytes (omega (arith, e))

kept_end : (a c : ℕ) (front : List ℕ) (last : ℕ) → is_either a c last ≡ false → without_end a c (front ++ last ∷ []) ≡ front ++ last ∷ []
unfolding without_end
kept_end a c front last h = all_taken (front ++ last ∷ []) (suffix_len (is_either a c) (front ++ last ∷ [])) (none_behind (is_either a c) front last h)

one_behind : (front : List ℕ) → suffix_len (is_either 35 35) ((front ++ 92 ∷ []) ++ 35 ∷ []) ≡ 1
one_behind front = ap (prefix_len (is_either 35 35)) (reverse-append (front ++ 92 ∷ []) (35 ∷ []) ∙ ap (λ (bs : List ℕ). 35 ∷ bs) (reverse-append front (92 ∷ [])))

pub less_one : (bytes : List ℕ) (b n : ℕ) → n ≡ 1 → take (length (bytes ++ b ∷ []) - n) (bytes ++ b ∷ []) ≡ bytes
less_one bytes b n e = take_at bytes (b ∷ []) (length (bytes ++ b ∷ []) - n) (omega (arith, e, length-append bytes (b ∷ [])))

sign_taken : (front : List ℕ) → without_end 35 35 ((front ++ 92 ∷ []) ++ 35 ∷ []) ≡ front ++ 92 ∷ []
unfolding without_end
sign_taken front = less_one (front ++ 92 ∷ []) 35 (suffix_len (is_either 35 35) ((front ++ 92 ∷ []) ++ 35 ∷ [])) (one_behind front)

last_at : (front : List ℕ) (b : ℕ) → slice_index (front ++ b ∷ []) (length front) ≡ b
last_at [] b = refl
last_at (c ∷ cs) b = last_at cs b

pub last_of : (front : List ℕ) (b : ℕ) → slice_index (front ++ b ∷ []) (length (front ++ b ∷ []) - 1) ≡ b
last_of front b = let n : length (front ++ b ∷ []) - 1 ≡ length front = omega (arith, length-append front (b ∷ [])) in ap (λ (k : ℕ). slice_index (front ++ b ∷ []) k) n ∙ last_at front b

some_length : (front : List ℕ) (b : ℕ) → (length (front ++ b ∷ []) == 0) ≡ false
some_length [] b = not_none b []
some_length (c ∷ cs) b = not_none c (cs ++ b ∷ [])

-- signs # close nothing behind a byte that is no blank
not_closed : (text front : List ℕ) (b : ℕ) → is_blank_byte b ≡ false → unclosed text (front ++ b ∷ []) ≡ text
not_closed text front b h =
    let bytes = front ++ b ∷ [] in
    ap (λ (t : Bool). cond (t || is_blank_byte (slice_index bytes (length bytes - 1))) (without_end 32 9 bytes) text) (some_length front b)
    ∙ ap (λ (c : ℕ). cond (is_blank_byte c) (without_end 32 9 bytes) text) (last_of front b)
    ∙ ap (λ (t : Bool). cond t (without_end 32 9 bytes) text) h

no_closing : (front : List ℕ) (last : ℕ) → is_blank_byte last ≡ false → ((last == 35) ≡ true → (before : List ℕ) × (front ≡ before ++ 92 ∷ [])) → without_closing (front ++ last ∷ []) ≡ front ++ last ∷ []
no_closing front last full sign =
    let text = front ++ last ∷ [] in
    by_test (last == 35) (without_closing text ≡ text)
    (λ e. let s = sign e in
    let are : text ≡ (s.0 ++ 92 ∷ []) ++ 35 ∷ [] = ap (λ (bs : List ℕ). bs ++ last ∷ []) s.1 ∙ ap (λ (c : ℕ). (s.0 ++ 92 ∷ []) ++ c ∷ []) (eqb-true last 35 e) in
    ap (unclosed text) (ap (without_end 35 35) are ∙ sign_taken s.0) ∙ not_closed text s.0 92 refl)
    (λ e. ap (unclosed text) (kept_end 35 35 front last (rw e refl)) ∙ not_closed text front last full)

text_kept : (bytes : List ℕ) → EndsFull bytes → without_closing (without_end 32 9 bytes) ≡ bytes
text_kept bytes h =
    ap (λ (bs : List ℕ). without_closing (without_end 32 9 bs)) h.whole ∙ ap without_closing (kept_end 32 9 h.front h.last h.full) ∙ no_closing h.front h.last h.full h.sign ∙ sym h.whole

no_blanks : (b : ℕ) (bs : List ℕ) → is_blank_byte b ≡ false → without_blanks (32 ∷ b ∷ bs) ≡ b ∷ bs
unfolding without_blanks
no_blanks b bs h = ap (λ (t : Bool). drop (1 + cond t (1 + prefix_len is_blank_byte bs) 0) (32 ∷ b ∷ bs)) h

first_full : (b : ℕ) → is_other_sign b ≡ false → is_blank_byte b ≡ false
first_full b h = rw (no_other is_other_sign b 32 refl h) (no_other is_other_sign b 9 refl h)

-- the text of a heading is its words
pub heading_words : (bytes : List ℕ) → BeginsWords bytes → EndsFull bytes → heading_text (32 ∷ bytes) ≡ bytes
unfolding heading_text
heading_words bytes f h =
    ap (λ (bs : List ℕ). without_closing (without_end 32 9 (without_blanks (32 ∷ bs)))) f.whole
    ∙ ap (λ (bs : List ℕ). without_closing (without_end 32 9 bs)) (no_blanks f.b f.bs (first_full f.b f.sign) ∙ sym f.whole)
    ∙ text_kept bytes h
