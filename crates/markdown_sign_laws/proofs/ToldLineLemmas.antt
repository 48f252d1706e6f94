-- Lines that are told, and lines without text.
use Rattle.std.proofs.Common.{◌≡◌, ◌⊎◌, inl, inr, ℕ, ◌+◌, ◌-◌, ◌<◌, ◌==◌, Bool, true, false, not, nat_lt, ◌||◌, List, [], ◌∷◌, ◌++◌, length, take, drop, slice_index, reverse, Option, Some, None, is_some, refl, sym, ap, subst, ◌∙◌, append_assoc, append-nil, arith}
use Rattle.std.proofs.lemmas.Bool.{and_parts, and_from, eq-eqb, eqb-false, eqb-true, ne_eqb}
use Rattle.std.proofs.lemmas.List.{length-append, length-reverse, length-take, reverse-append, reverse-reverse, take_at}
use Rattle.std.proofs.lemmas.List.Sums.{suffix_len-take_yes}
use Rattle.std.proofs.Math.Seq.{take-length}
use Rattle.std.specs.List.{list_all, prefix_len, suffix_len}
use Rattle.markdown_marks.specs.Bytes.{is_blank, is_blank_byte, is_run_alone, without_blanks}
use Rattle.markdown_marks.specs.Headings.{heading_text, is_either, without_end}
use Rattle.markdown_marks.specs.Marks.{underline_level}
use Rattle.markdown_marks.specs.Remaining.{Remaining, columns_in_front, take_columns}
use Rattle.markdown_blocks.specs.Leaves.{closes_fence}
use Rattle.markdown_blocks.specs.declared.leaves.Leaf.{Leaf}
use Rattle.markdown_blocks.specs.declared.leaves.Leaf.TheVariants.{Nothing as NothingLeaf, Bare, Paragraph as ParagraphLeaf, Indented as IndentedLeaf, Fenced as FencedLeaf, Html as HtmlLeaf, Table as TableLeaf}
use Rattle.markdown_blocks.specs.declared.leaves.Deed.TheVariants.{Begins}
use Rattle.markdown_leaves.specs.Gather.{first_text, heading_line, kind_of}
use Rattle.markdown_leaves.specs.declared.parts.Kind.{Kind}
use Rattle.markdown_leaves.specs.declared.parts.Kind.TheVariants.{Nothing, Paragraph, Heading, Indented, Fenced, Html, Table, Rule, Definitions}
use Rattle.markdown_sign_laws.specs.AllLines.{AreToldSo, HasHeadingText, HasNoText, HasSignOf, IsBehindSigns, IsBetweenBlanks, IsToldSo, ToldLine}
use Rattle.markdown_sign_laws.specs.Underlines.{IsUnderline}
use Rattle.markdown_sign_laws.proofs.FenceLemmas.{alone_said}
use Rattle.markdown_sign_laws.proofs.LineSignLemmas.{by_cond, signs_any, signs_then, take_signs}
use Rattle.markdown_sign_laws.proofs.LineStartLemmas.{IsDone, IsFenceOf, StandsAsHeading}
use Rattle.markdown_sign_laws.proofs.RunLemmas.{cut, left_behind, same_signs}
use Rattle.markdown_sign_laws.proofs.UnderlineLemmas.{underlines_said}

-- ---- more lines

-- one more line is told
pub told_more : (lines : List (List ℕ)) (told : List ToldLine) (line : List ℕ) (one : ToldLine) → AreToldSo lines told → IsToldSo line one → AreToldSo (lines ++ line ∷ []) (told ++ one ∷ [])
told_more [] [] line one a h = inr (h, tt)
told_more [] (t ∷ told) line one a h = absurd a
told_more (l ∷ lines) [] line one a h = inl (a.0, told_more lines [] line one a.1 h)
told_more (l ∷ lines) (t ∷ told) line one (inl a) h = inl (a.0, told_more lines (t ∷ told) line one a.1 h)
told_more (l ∷ lines) (t ∷ told) line one (inr a) h = inr (a.0, told_more lines told line one a.1 h)

-- one more line has no text
pub none_more : (lines : List (List ℕ)) (told : List ToldLine) (line : List ℕ) → AreToldSo lines told → HasNoText line → AreToldSo (lines ++ line ∷ []) told
none_more [] [] line a h = (h, tt)
none_more [] (t ∷ told) line a h = absurd a
none_more (l ∷ lines) [] line a h = (a.0, none_more lines [] line a.1 h)
none_more (l ∷ lines) (t ∷ told) line (inl a) h = inl (a.0, none_more lines (t ∷ told) line a.1 h)
none_more (l ∷ lines) (t ∷ told) line (inr a) h = inr (a.0, none_more lines told line a.1 h)

-- what is told so may be told as another
abbrev pub MayBe : ToldLine → ToldLine → Type 0
MayBe one other = (line : List ℕ) → IsToldSo line one → IsToldSo line other

abbrev pub AllMayBe : List ToldLine → List ToldLine → Type 0
AllMayBe [] [] = Unit {0}
AllMayBe (one ∷ told) (other ∷ others) = MayBe one other × AllMayBe told others
AllMayBe _ _ = ⊥

pub all_may : (lines : List (List ℕ)) (told others : List ToldLine) → AllMayBe told others → AreToldSo lines told → AreToldSo lines others
all_may [] [] [] m a = tt
all_may [] [] (o ∷ others) m a = absurd m
all_may [] (t ∷ told) others m a = absurd a
all_may (l ∷ lines) [] [] m a = (a.0, all_may lines [] [] m a.1)
all_may (l ∷ lines) [] (o ∷ others) m a = absurd m
all_may (l ∷ lines) (t ∷ told) [] m a = absurd m
all_may (l ∷ lines) (t ∷ told) (o ∷ others) m (inl a) = inl (a.0, all_may lines (t ∷ told) (o ∷ others) m a.1)
all_may (l ∷ lines) (t ∷ told) (o ∷ others) m (inr a) = inr (m.0 l a.0, all_may lines told others m.1 a.1)

pub may_same : (told : List ToldLine) → AllMayBe told told
may_same [] = tt
may_same (t ∷ told) = ((λ line h. h), may_same told)

pub may_both : (a b c d : List ToldLine) → AllMayBe a b → AllMayBe c d → AllMayBe (a ++ c) (b ++ d)
may_both [] [] c d h k = k
may_both [] (y ∷ b) c d h k = absurd h
may_both (x ∷ a) [] c d h k = absurd h
may_both (x ∷ a) (y ∷ b) c d h k = (h.0, may_both a b c d h.1 k)

-- a further line may be the first of a leaf
pub further_may : (kind : Kind) (text : List ℕ) → MayBe (record { first = None; text = text }) (record { first = Some kind; text = text })
further_may kind text line h = record { behind = h.behind; front = signs_any true line h.behind h.front; own = own h.own }
  where
    own : {A : Type 0} → (h.behind ≡ text) ⊎ ⊥ → (h.behind ≡ text) ⊎ A
    own (inl e) = inl e
    own (inr e) = absurd e

-- the first line of a paragraph may be that of another leaf
pub first_may : (kind : Kind) (text : List ℕ) → MayBe (record { first = Some Paragraph; text = text }) (record { first = Some kind; text = text })
first_may kind text line h = record { behind = h.behind; front = h.front; own = own h.own }
  where
    own : {A : Type 0} → (h.behind ≡ text) ⊎ ⊥ → (h.behind ≡ text) ⊎ A
    own (inl e) = inl e
    own (inr e) = absurd e

-- ---- texts

-- some bytes, and those behind them, of which all pass a test
record Back (p : ℕ → Bool) (bytes first : List ℕ) : Type 0 where
  back : List ℕ
  whole : bytes ≡ first ++ back
  all : list_all p back ≡ true

all_both : (p : ℕ → Bool) (xs ys : List ℕ) → list_all p xs ≡ true → list_all p ys ≡ true → list_all p (xs ++ ys) ≡ true
all_both p [] ys h k = k
all_both p (x ∷ xs) ys h k = let parts = and_parts (p x) (list_all p xs) h in and_from (p x) (list_all p (xs ++ ys)) parts.0 (all_both p xs ys parts.1 k)

all_reversed : (p : ℕ → Bool) (bs : List ℕ) → list_all p bs ≡ true → list_all p (reverse bs) ≡ true
all_reversed p [] h = refl
all_reversed p (b ∷ bs) h =
    let parts = and_parts (p b) (list_all p bs) h in
    subst (λ (l : List ℕ). list_all p l ≡ true) (sym (reverse-append (b ∷ []) bs)) (all_both p (reverse bs) (b ∷ []) (all_reversed p bs parts.1) (and_from (p b) true parts.0 refl))

-- without bytes at the end that pass a test
end_of : (p : ℕ → Bool) (bytes : List ℕ) → Back p bytes (take (length bytes - suffix_len p bytes) bytes)
end_of p bytes =
    let c = cut p (reverse bytes) in
    let count = prefix_len p (reverse bytes) in
    let split : bytes ≡ reverse c.rest ++ reverse c.front = sym (reverse-reverse bytes) ∙ ap (λ (bs : List ℕ). reverse bs) c.whole ∙ reverse-append c.front c.rest in
    let many : length (reverse c.rest) ≡ length bytes - count = omega (arith, length-reverse c.rest, length-reverse bytes, ap length c.whole, length-append c.front c.rest, c.long) in
    let taken : take (length bytes - count) bytes ≡ reverse c.rest = ap (λ (bs : List ℕ). take (length bytes - count) bs) split ∙ take_at (reverse c.rest) (reverse c.front) (length bytes - count) many in
    record { back = reverse c.front; whole = split ∙ ap (λ (bs : List ℕ). bs ++ reverse c.front) (sym taken); all = all_reversed p c.front c.passes }

-- bytes without the blanks at both ends are between blanks
pub between_blanks : (bytes : List ℕ) → IsBetweenBlanks bytes (without_end 32 9 (without_blanks bytes))
unfolding without_end without_blanks
between_blanks bytes =
    let c = cut is_blank_byte bytes in
    let rest = drop (prefix_len is_blank_byte bytes) bytes in
    let left : rest ≡ c.rest = ap (λ (n : ℕ). drop n bytes) c.long ∙ ap (λ (xs : List ℕ). drop (length c.front) xs) c.whole ∙ behind c.front c.rest in
    let e = end_of is_blank_byte rest in
    record { front = c.front; back = e.back; blank_front = c.passes; blank_back = e.all; whole = c.whole ∙ ap (λ (xs : List ℕ). c.front ++ xs) (sym left ∙ e.whole) }
  where
    behind : (xs ys : List ℕ) → drop (length xs) (xs ++ ys) ≡ ys
    behind [] ys = refl
    behind (x ∷ xs) ys = behind xs ys

-- ---- headings

either_same : (t : Bool) → (t || t) ≡ true → t ≡ true
either_same true h = refl
either_same false h = h

all_hashes : (bytes : List ℕ) → list_all (is_either 35 35) bytes ≡ true → list_all (λ b. b == 35) bytes ≡ true
all_hashes [] h = refl
all_hashes (b ∷ bs) h =
    let both = and_parts (is_either 35 35 b) (list_all (is_either 35 35) bs) h in and_from (b == 35) (list_all (λ c. c == 35) bs) (either_same (b == 35) both.0) (all_hashes bs both.1)

-- a blank at the end is one of those that are taken
some_taken : (front : List ℕ) → (length front == 0) ≡ false → is_blank_byte (slice_index front (length front - 1)) ≡ true → 0 < suffix_len is_blank_byte front
some_taken front some last =
    let n = length front in
    let no : n ≡ 0 → ⊥ = eqb-false n 0 some in
    let more = suffix_len-take_yes is_blank_byte front n 0 (omega arith) (omega arith) last in
    let same = ap (λ (xs : List ℕ). suffix_len is_blank_byte xs) (take-length front) in
    omega (arith, more, same)

-- the blanks behind the text of a heading are some, or there is no text
gap_of : (front : List ℕ) (e : Back is_blank_byte front (take (length front - suffix_len is_blank_byte front) front)) → ((length front == 0) || is_blank_byte (slice_index front (length front - 1))) ≡ true
    → ((length (take (length front - suffix_len is_blank_byte front) front) == 0) || not (length e.back == 0)) ≡ true
gap_of front e h = by_length (length front == 0) refl
  where
    text : List ℕ
    text = take (length front - suffix_len is_blank_byte front) front

    both : length front ≡ length text + length e.back
    both = ap length e.whole ∙ length-append text e.back

    or_not : (p q : Bool) → q ≡ false → (p || not q) ≡ true
    or_not true q k = refl
    or_not false true k = let no : true ≡ false = k in absurd (cc)
    or_not false false k = refl

    or_yes : (p q : Bool) → p ≡ true → (p || q) ≡ true
    or_yes p q k = ap (λ (t : Bool). t || q) k

    right : (p q : Bool) → p ≡ false → (p || q) ≡ true → q ≡ true
    right true q k l = let no : true ≡ false = k in absurd (cc)
    right false q k l = l

    by_length : (t : Bool) → (length front == 0) ≡ t → ((length text == 0) || not (length e.back == 0)) ≡ true
    by_length true k = let none = eqb-true (length front) 0 k in or_yes (length text == 0) (not (length e.back == 0)) (eq-eqb (length text) 0 (omega (arith, none, both)))
    by_length false k =
        let some = some_taken front k (right (length front == 0) (is_blank_byte (slice_index front (length front - 1))) k h) in
        let less = length-take (length front - suffix_len is_blank_byte front) front in
        let no : length front ≡ 0 → ⊥ = eqb-false (length front) 0 k in
        or_not (length text == 0) (length e.back == 0) (ne_eqb (length e.back) 0 (λ z. omega (arith, some, less, both, z)))

-- what is behind the signs of a heading has its text
pub heading_between : (bytes : List ℕ) → HasHeadingText bytes (heading_text bytes)
unfolding heading_text without_end
heading_between bytes =
    let all = without_end 32 9 (without_blanks bytes) in
    let b = between_blanks bytes in
    let front = without_end 35 35 all in
    let s = end_of (is_either 35 35) all in
    let e = end_of is_blank_byte front in
    by_cond (HasHeadingText bytes) ((length front == 0) || is_blank_byte (slice_index front (length front - 1))) (without_end 32 9 front) all
    (λ h.
    let text = without_end 32 9 front in
    let closing = s.back ++ b.back in
    let inner = b.front ++ (text ++ e.back) in
    record {
      inner = inner;
      between = record { front = b.front; back = e.back; blank_front = b.blank_front; blank_back = e.all; whole = refl };
      closing = closing;
      closed = inr (length s.back, b.back, b.blank_back, ap (λ (xs : List ℕ). xs ++ b.back) (same_signs 35 s.back (all_hashes s.back s.all)), gap_of front e h);
      whole = b.whole ∙ ap (λ (xs : List ℕ). b.front ++ (xs ++ b.back)) (s.whole ∙ ap (λ (xs : List ℕ). xs ++ s.back) e.whole) ∙ ap (λ (xs : List ℕ). b.front ++ xs) (append_assoc (text ++ e.back) s.back b.back)
          ∙ sym (append_assoc b.front (text ++ e.back) closing);
    })
    (λ h. record { inner = bytes; between = b; closing = []; closed = inl refl; whole = sym (append-nil bytes) })

-- ---- a line that is told

told_plain : (kind : Kind) (line : List ℕ) (text : Remaining) → IsBehindSigns true line text.bytes → IsToldSo line (record { first = Some kind; text = text.bytes })
told_plain kind line text h = record { behind = text.bytes; front = h; own = inl refl }

-- a further line of a leaf
pub told_further : (line : List ℕ) (text : Remaining) → IsBehindSigns false line text.bytes → IsToldSo line (record { first = None; text = text.bytes })
told_further line text h = record { behind = text.bytes; front = h; own = inl refl }

-- the first line of a leaf
pub told_first : (leaf : Leaf) (line : List ℕ) (text : Remaining) → IsDone (Begins leaf) line text → IsToldSo line (record { first = Some (kind_of leaf); text = (first_text leaf text).bytes })
told_first NothingLeaf line text h = told_plain Nothing line text h
told_first Bare line text h = told_plain Nothing line text h
told_first ParagraphLeaf line text h = told_plain Paragraph line text h
told_first IndentedLeaf line text h = told_plain Indented line text h
told_first (FencedLeaf sign length indent) line text h =
    let info : text.bytes ≡ h.fence.info = h.left ∙ ap (λ (xs : List ℕ). drop length xs) h.fence.whole ∙ left_behind sign length h.fence.info in
    record { behind = h.rest; front = h.front; own = inr (sign, length, h.fence, subst (λ (bs : List ℕ). IsBetweenBlanks h.fence.info (without_end 32 9 (without_blanks bs))) (sym info) (between_blanks h.fence.info)) }
told_first (HtmlLeaf ending) line text h = told_plain Html line text h
told_first TableLeaf line text h = told_plain Nothing line text h

-- a heading
pub told_heading : (level : ℕ) (line : List ℕ) (text : Remaining) → StandsAsHeading true line level text → IsToldSo line (record { first = Some (Heading level); text = (heading_line text).bytes })
told_heading level line text h =
    let behind : text.bytes ≡ h.heading.behind = h.left ∙ ap (λ (xs : List ℕ). drop level xs) h.heading.whole ∙ left_behind 35 level h.heading.behind in
    record { behind = h.rest; front = h.front; own = inr (h.heading, subst (λ (bs : List ℕ). HasHeadingText h.heading.behind (heading_text bs)) (sym behind) (heading_between h.heading.behind)) }

-- a leaf of one line
pub told_single : (kind : Kind) (line : List ℕ) (text : Remaining) → IsBehindSigns true line text.bytes → IsToldSo line (record { first = Some kind; text = text.bytes })
told_single kind line text h = told_plain kind line text h

-- ---- a line without text

-- a blank line
pub none_blank : (line bytes : List ℕ) → IsBehindSigns true line bytes → is_blank bytes ≡ true → HasNoText line
unfolding is_blank
none_blank line bytes h k = record { begun = true; behind = bytes; front = h; none = inl k }

-- the end of a fence
pub none_fence : (line : List ℕ) (text : Remaining) (sign length : ℕ) → IsBehindSigns false line text.bytes → IsFenceOf sign length → closes_fence sign length text ≡ true → HasNoText line
none_fence line text sign length h known k =
    let left = take_columns 4 text in
    let parts = and_parts (nat_lt (columns_in_front 4 text) 4) (is_run_alone sign length left.bytes) k in
    let a = alone_said sign length left.bytes parts.1 in
    record {
      behind = left.bytes;
      begun = false;
      front = signs_then false line text.bytes left.bytes h (take_signs 4 text);
      none = inr (refl, inl (record { sign = sign; of_sign = known.of_sign; count = a.count; enough = omega (arith, known.enough, a.enough); blanks = a.behind; blank = a.blank; whole = a.whole }));
    }

under_by : (level : ℕ) (bytes : List ℕ) → ((level ≡ 1) × IsUnderline 61 bytes) ⊎ ((level ≡ 2) × IsUnderline 45 bytes) → IsUnderline 61 bytes ⊎ IsUnderline 45 bytes
under_by level bytes (inl h) = inl h.1
under_by level bytes (inr h) = inr h.1

-- what underlines a heading
pub none_underline : (line bytes : List ℕ) (level : ℕ) → IsBehindSigns false line bytes → underline_level bytes ≡ Some level → HasNoText line
none_underline line bytes level h k = record { begun = false; behind = bytes; front = h; none = inr (refl, inr (under_by level bytes ((underlines_said level bytes).0 k))) }

-- ---- blank lines that were told

-- a line of indented code, or a further one of any leaf
abbrev OfCode : Option Kind → Type 0
OfCode None = Unit {0}
OfCode (Some Indented) = Unit {0}
OfCode _ = ⊥

text_behind : (first : Option Kind) (behind text : List ℕ) → OfCode first → (behind ≡ text) ⊎ HasSignOf first behind text → behind ≡ text
text_behind first behind text k (inl e) = e
text_behind None behind text k (inr h) = absurd h
text_behind (Some Indented) behind text k (inr h) = absurd h
text_behind (Some Nothing) behind text k (inr h) = absurd k
text_behind (Some Paragraph) behind text k (inr h) = absurd k
text_behind (Some (Heading level)) behind text k (inr h) = absurd k
text_behind (Some Fenced) behind text k (inr h) = absurd k
text_behind (Some Html) behind text k (inr h) = absurd k
text_behind (Some (Table columns)) behind text k (inr h) = absurd k
text_behind (Some Rule) behind text k (inr h) = absurd k
text_behind (Some Definitions) behind text k (inr h) = absurd k

any_front : (first : Option Kind) (a b : List ℕ) → IsBehindSigns (is_some first) a b → IsBehindSigns true a b
any_front None a b h = signs_any true a b h
any_front (Some kind) a b h = h

none_told : (line : List ℕ) (t : ToldLine) → IsToldSo line t → OfCode t.first → is_blank t.text ≡ true → HasNoText line
none_told line t h k blank = none_blank line h.behind (any_front t.first line h.behind h.front) (ap is_blank (text_behind t.first h.behind t.text k h.own) ∙ blank)

-- all of these lines are blank ones of code
abbrev pub AllBlank : List ToldLine → Type 0
AllBlank [] = Unit {0}
AllBlank (t ∷ told) = OfCode t.first × (is_blank t.text ≡ true) × AllBlank told

-- lines at the end that are told as blank ones have no text
pub without_last : (lines : List (List ℕ)) (told last : List ToldLine) → AreToldSo lines (told ++ last) → AllBlank last → AreToldSo lines told
without_last [] [] last a k = tt
without_last [] (t ∷ told) last a k = a
without_last (l ∷ lines) [] [] a k = a
without_last (l ∷ lines) [] (b ∷ last) (inl a) k = (a.0, without_last lines [] (b ∷ last) a.1 k)
without_last (l ∷ lines) [] (b ∷ last) (inr a) k = (none_told l b a.0 k.0 k.1, without_last lines [] last a.1 k.2)
without_last (l ∷ lines) (t ∷ told) last (inl a) k = inl (a.0, without_last lines (t ∷ told) last a.1 k)
without_last (l ∷ lines) (t ∷ told) last (inr a) k = inr (a.0, without_last lines told last a.1 k)
