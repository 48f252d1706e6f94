-- What a style is written as is read as that style.
use Rattle.std.proofs.Common.{◌≡◌, ℕ, ◌<◌, ◌+◌, ◌==◌, Bool, true, false, List, [], ◌∷◌, ◌++◌, map, filter, length, take, drop, refl, sym, ap, ◌∙◌, arith, subst, true≢false, eqb-true, min, append-nil, Option, Some, None, inl, inr}
use Rattle.std.specs.Prelude.{Ok, filter_map}
use Rattle.std.specs.Char.{IsScalar}
use Rattle.std.specs.List.{list_all, cons_option}
use Rattle.std.proofs.Math.Seq.{take-append_seam, drop-append_seam}
use Rattle.std.proofs.lemmas.Bool.{cases_Bool, cond-false, cond-true, and_from}
use Rattle.std.proofs.lemmas.List.Folds.{list_all-append}
use Rattle.mad_md.specs.declared.alignment.Alignment.{Alignment}
use Rattle.mad_md.specs.declared.alignment.Alignment.TheVariants as align
use Rattle.mad_term.specs.Attributes.{has_attribute}
use Rattle.mad_term.specs.Styles.{IsStyle}
use Rattle.mad_term.specs.declared.attribute.Attribute.{Attribute}
use Rattle.mad_term.specs.declared.color.Color.{Color}
use Rattle.mad_style.specs.declared.compound_styles.CompoundStyle.{CompoundStyle}
use Rattle.mad_style.specs.declared.line_styles.LineStyle.{LineStyle}
use Rattle.mad_style.specs.declared.ordered_items.OrderedItemStyle.{OrderedItemStyle}
use Rattle.mad_style.specs.declared.styled_chars.StyledChar.{StyledChar}
use Rattle.mad_style.specs.StyledChars.{char_alone, char_style, styled_char}
use Rattle.mad_parse.specs.Reading.{tokens_of, said}
use Rattle.mad_parse.specs.ReadsBack.{IsReadBackStyle, IsReadBackLine, IsReadBackChar, IsReadBackItem, StyleReadsBack, LineReadsBack, CharReadsBack, ItemReadsBack}
use Rattle.mad_parse.specs.TokenStyles.{first_or, last_or, color_said, attribute_said, align_said, number_said, aligns_of, numbers_of, style_of, line_style_of, styled_char_of, item_style_of, char_index}
use Rattle.mad_parse.specs.Written.{written_attributes, style_tokens, align_tokens, margin_tokens, line_style_tokens, styled_char_tokens, item_tokens, tokens_text}
use Rattle.mad_parse.specs.declared.tokens.StyleToken.{StyleToken}
use Rattle.mad_parse.specs.declared.tokens.StyleToken.TheVariants as token
use Rattle.mad_parse.proofs.ReadTokens.{AllRead, all_append, tokens_read, read_char, read_align, read_number}
use Rattle.mad_parse.proofs.StyleLaw.{two_colors, tokens_are, style_back, style_read}

-- tokens that read back, and what they say
back : {A : Type 0} (f : List StyleToken → A) (x : A) (ts : List StyleToken) (text : List ℕ) → text ≡ tokens_text ts → AllRead ts → f ts ≡ x → said f (tokens_of text) ≡ Ok x
back f x ts text is read says = ap (λ t. said f (tokens_of t)) is ∙ ap (said f) (tokens_read ts read) ∙ ap Ok says

-- ---- a style

style_alone : (s : CompoundStyle) → IsReadBackStyle s → style_of (style_tokens s) ≡ s
style_alone s h = ap style_of (sym (append-nil (style_tokens s))) ∙ style_back s [] [] h refl refl refl refl

-- the text of a style is read as the style
pub style_reads_back : (s : CompoundStyle) (text : List ℕ) → IsStyle s.object_style → text ≡ tokens_text (style_tokens s) → StyleReadsBack s text
style_reads_back s text bytes is = λ h. back style_of s (style_tokens s) text is (style_read s h bytes.foreground bytes.background) (style_alone s h)

-- ---- tokens that say nothing but a style

abbrev is_styling : StyleToken → Bool
is_styling (token.Color c) = true
is_styling (token.Attribute a) = true
is_styling token.None = true
is_styling _ = false

two_styling : (f b : Option Color) → list_all is_styling (two_colors f b) ≡ true
two_styling None None = refl
two_styling None (Some b) = refl
two_styling (Some f) None = refl
two_styling (Some f) (Some b) = refl

map_styling : (list : List Attribute) → list_all is_styling (map token.Attribute list) ≡ true
map_styling [] = refl
map_styling (a ∷ list) = map_styling list

style_styling : (s : CompoundStyle) → IsReadBackStyle s → list_all is_styling (style_tokens s) ≡ true
style_styling s h =
    let list = filter (has_attribute s.object_style.attributes) written_attributes in
    ap (list_all is_styling) (tokens_are s h) ∙ list_all-append is_styling (two_colors s.object_style.foreground_color s.object_style.background_color) (map token.Attribute list)
    ∙ and_from _ _ (two_styling s.object_style.foreground_color s.object_style.background_color) (map_styling list)

-- tokens of a style say nothing that no color, attribute or `none` says
styling_past : {A : Type 0} (f : StyleToken → Option A) → ((c : Color) → f (token.Color c) ≡ None) → ((a : Attribute) → f (token.Attribute a) ≡ None) → f token.None ≡ None
    → (ts us : List StyleToken) → list_all is_styling ts ≡ true → filter_map f (ts ++ us) ≡ filter_map f us
styling_past f colors attributes none [] us h = refl
styling_past f colors attributes none (token.Color c ∷ ts) us h = ap (λ o. cons_option o (filter_map f (ts ++ us))) (colors c) ∙ styling_past f colors attributes none ts us h
styling_past f colors attributes none (token.Attribute a ∷ ts) us h = ap (λ o. cons_option o (filter_map f (ts ++ us))) (attributes a) ∙ styling_past f colors attributes none ts us h
styling_past f colors attributes none (token.None ∷ ts) us h = ap (λ o. cons_option o (filter_map f (ts ++ us))) none ∙ styling_past f colors attributes none ts us h
styling_past f colors attributes none _ us h = absurd (true≢false (sym h))

char_past : (ts us : List StyleToken) (c : ℕ) → list_all is_styling ts ≡ true → char_index (ts ++ token.Char c ∷ us) ≡ length ts
char_past [] us c h = refl
char_past (token.Color d ∷ ts) us c h = ap (λ n. 1 + n) (char_past ts us c h) ∙ omega arith
char_past (token.Attribute a ∷ ts) us c h = ap (λ n. 1 + n) (char_past ts us c h) ∙ omega arith
char_past (token.None ∷ ts) us c h = ap (λ n. 1 + n) (char_past ts us c h) ∙ omega arith
char_past _ us c h = absurd (true≢false (sym h))

-- ---- a style of a line

-- the two margins as tokens: none, or both
data Margins (l r : ℕ) : Type 0 where
  no_margins : l ≡ 0 → r ≡ 0 → margin_tokens l r ≡ [] → Margins l r
  two_margins : margin_tokens l r ≡ token.Dimension (min l 65535) ∷ token.Dimension (min r 65535) ∷ [] → Margins l r

margins : (l r : ℕ) → Margins l r
margins l r = elim (cases_Bool (l + r == 0)) as (λ _. Margins l r) [
  | inl none ↦ let sum = eqb-true (l + r) 0 none in no_margins (omega (arith, sum)) (omega (arith, sum)) (cond-true (l + r == 0) _ _ none)
  | inr some ↦ two_margins (cond-false (l + r == 0) _ _ some)
]

-- margins say nothing but numbers
margins_silent : {A : Type 0} (f : StyleToken → Option A) → ((n : ℕ) → f (token.Dimension n) ≡ None) → (l r : ℕ) → Margins l r → filter_map f (margin_tokens l r) ≡ []
margins_silent f numbers l r (no_margins p q e) = ap (filter_map f) e
margins_silent f numbers l r (two_margins e) = ap (filter_map f) e ∙ ap (λ o. cons_option o (cons_option (f (token.Dimension (min r 65535))) [])) (numbers (min l 65535)) ∙ ap (λ o. cons_option o []) (numbers (min r 65535))

margin_left : (l r : ℕ) → l < 65536 → Margins l r → first_or 0 (numbers_of (margin_tokens l r)) ≡ l
margin_left l r small (no_margins p q e) = ap (λ ts. first_or 0 (numbers_of ts)) e ∙ sym p
margin_left l r small (two_margins e) = ap (λ ts. first_or 0 (numbers_of ts)) e ∙ omega (arith, small)

margin_right : (l r : ℕ) → r < 65536 → Margins l r → last_or 0 (drop 1 (numbers_of (margin_tokens l r))) ≡ r
margin_right l r small (no_margins p q e) = ap (λ ts. last_or 0 (drop 1 (numbers_of ts))) e ∙ sym q
margin_right l r small (two_margins e) = ap (λ ts. last_or 0 (drop 1 (numbers_of ts))) e ∙ omega (arith, small)

margins_read : (l r : ℕ) → Margins l r → AllRead (margin_tokens l r)
margins_read l r (no_margins p q e) = subst AllRead (sym e) tt
margins_read l r (two_margins e) = subst AllRead (sym e) (read_number (min l 65535) (omega arith), (read_number (min r 65535) (omega arith), tt))

-- an align in front of other tokens says nothing but itself
align_past : {A : Type 0} (f : StyleToken → Option A) → ((a : Alignment) → f (token.Align a) ≡ None) → (a : Alignment) (ts : List StyleToken) → filter_map f (align_tokens a ++ ts) ≡ filter_map f ts
align_past f aligns align.Unspecified ts = refl
align_past f aligns a ts = ap (λ o. cons_option o (filter_map f ts)) (aligns a)

align_last : (a : Alignment) (ts : List StyleToken) → aligns_of ts ≡ [] → last_or align.Unspecified (aligns_of (align_tokens a ++ ts)) ≡ a
align_last align.Unspecified ts none = ap (last_or align.Unspecified) none
align_last a ts none = ap (last_or a) none

aligns_read : (a : Alignment) → AllRead (align_tokens a)
aligns_read align.Unspecified = tt
aligns_read a = (read_align a refl, tt)

abbrev line_of : CompoundStyle → Alignment → ℕ → ℕ → LineStyle
line_of style a l r = record { compound_style = style; align = a; left_margin = l; right_margin = r }

same_line : (s t : CompoundStyle) (a b : Alignment) (l m r q : ℕ) → s ≡ t → a ≡ b → l ≡ m → r ≡ q → line_of s a l r ≡ line_of t b m q
same_line s t a b l m r q e f g h = ap (λ x. line_of x a l r) e ∙ ap (λ x. line_of t x l r) f ∙ ap (λ x. line_of t b x r) g ∙ ap (λ x. line_of t b m x) h

line_alone : (s : LineStyle) → IsReadBackLine s → line_style_of (line_style_tokens s) ≡ s
line_alone s h =
    let m = margin_tokens s.left_margin s.right_margin in
    let k = margins s.left_margin s.right_margin in
    let after = align_tokens s.align ++ m in
    let styling = style_styling s.compound_style h.style in
    let ts = line_style_tokens s in
    let style : style_of ts ≡ s.compound_style =
    style_back s.compound_style [] after h.style refl refl (align_past color_said (λ a. refl) s.align m ∙ margins_silent color_said (λ n. refl) s.left_margin s.right_margin k) (align_past attribute_said (λ a. refl) s.align m ∙ margins_silent attribute_said (λ n. refl) s.left_margin s.right_margin k) in
    let side : last_or align.Unspecified (aligns_of ts) ≡ s.align =
    ap (last_or align.Unspecified) (styling_past align_said (λ c. refl) (λ a. refl) refl (style_tokens s.compound_style) after styling) ∙ align_last s.align m (margins_silent align_said (λ n. refl) s.left_margin s.right_margin k) in
    let numbers : numbers_of ts ≡ numbers_of m = styling_past number_said (λ c. refl) (λ a. refl) refl (style_tokens s.compound_style) after styling ∙ align_past number_said (λ a. refl) s.align m in
    let left : first_or 0 (numbers_of ts) ≡ s.left_margin = ap (first_or 0) numbers ∙ margin_left s.left_margin s.right_margin h.left k in
    let right : last_or 0 (drop 1 (numbers_of ts)) ≡ s.right_margin = ap (λ l. last_or 0 (drop 1 l)) numbers ∙ margin_right s.left_margin s.right_margin h.right k in
    same_line (style_of ts) s.compound_style (last_or align.Unspecified (aligns_of ts)) s.align (first_or 0 (numbers_of ts)) s.left_margin (last_or 0 (drop 1 (numbers_of ts))) s.right_margin style side left right

-- the same of a line's style
pub line_reads_back : (s : LineStyle) (text : List ℕ) → IsStyle s.compound_style.object_style → text ≡ tokens_text (line_style_tokens s) → LineReadsBack s text
line_reads_back s text bytes is = λ h.
    let m = margin_tokens s.left_margin s.right_margin in
    back line_style_of s (line_style_tokens s) text is
    (all_append (style_tokens s.compound_style) (align_tokens s.align ++ m) (style_read s.compound_style h.style bytes.foreground bytes.background)
    (all_append (align_tokens s.align) m (aligns_read s.align) (margins_read s.left_margin s.right_margin (margins s.left_margin s.right_margin))))
    (line_alone s h)

-- ---- a character

styled_char_alone : (c : StyledChar) (default : ℕ) → IsReadBackStyle (char_style c) → styled_char_of default (styled_char_tokens c) ≡ c
styled_char_alone c default h =
    ap (λ s. styled_char s (char_alone c)) (ap (λ ts. style_of (token.Char (char_alone c) ∷ ts)) (sym (append-nil (style_tokens (char_style c)))) ∙ style_back (char_style c) (token.Char (char_alone c) ∷ []) [] h refl refl refl refl)

styled_char_read : (c : StyledChar) → IsScalar (char_alone c) → IsStyle (char_style c).object_style → IsReadBackChar c → AllRead (styled_char_tokens c)
styled_char_read c scalar bytes h = (read_char (char_alone c) scalar h.no_whitespace h.no_digit, style_read (char_style c) h.style bytes.foreground bytes.background)

-- of a character in a style
pub char_reads_back : (c : StyledChar) (text : List ℕ) → IsScalar (char_alone c) → IsStyle (char_style c).object_style → text ≡ tokens_text (styled_char_tokens c) → CharReadsBack c text
char_reads_back c text scalar bytes is = λ h default. back (styled_char_of default) c (styled_char_tokens c) text is (styled_char_read c scalar bytes h) (styled_char_alone c default h.style)

-- ---- an ordered item

abbrev item_of : CompoundStyle → StyledChar → OrderedItemStyle
item_of style suffix = record { index_style = style; index_suffix = suffix }

same_item : (s t : CompoundStyle) (c d : StyledChar) → s ≡ t → c ≡ d → item_of s c ≡ item_of t d
same_item s t c d e f = ap (λ x. item_of x c) e ∙ ap (item_of t) f

item_alone : (s : OrderedItemStyle) (default : ℕ) → IsReadBackItem s → item_style_of default (item_tokens s) ≡ s
item_alone s default h =
    let front = style_tokens s.index_style in
    let suffix = styled_char_tokens s.index_suffix in
    let n : char_index (item_tokens s) ≡ length front = char_past front (style_tokens (char_style s.index_suffix)) (char_alone s.index_suffix) (style_styling s.index_style h.index) in
    let index : style_of (take (char_index (item_tokens s)) (item_tokens s)) ≡ s.index_style =
    ap (λ k. style_of (take k (item_tokens s))) n ∙ ap style_of (take-append_seam front suffix) ∙ style_alone s.index_style h.index in
    let suffix_back : styled_char_of default (drop (char_index (item_tokens s)) (item_tokens s)) ≡ s.index_suffix =
    ap (λ k. styled_char_of default (drop k (item_tokens s))) n ∙ ap (styled_char_of default) (drop-append_seam front suffix) ∙ styled_char_alone s.index_suffix default h.suffix.style in
    same_item (style_of (take (char_index (item_tokens s)) (item_tokens s))) s.index_style (styled_char_of default (drop (char_index (item_tokens s)) (item_tokens s))) s.index_suffix index suffix_back

-- and of an ordered item's
pub item_reads_back : (s : OrderedItemStyle) (text : List ℕ) → IsStyle s.index_style.object_style → IsScalar (char_alone s.index_suffix) → IsStyle (char_style s.index_suffix).object_style
    → text ≡ tokens_text (item_tokens s) → ItemReadsBack s text
item_reads_back s text bytes scalar suffix_bytes is = λ h default.
    back (item_style_of default) s (item_tokens s) text is
    (all_append (style_tokens s.index_style) (styled_char_tokens s.index_suffix) (style_read s.index_style h.index bytes.foreground bytes.background) (styled_char_read s.index_suffix scalar suffix_bytes h.suffix))
    (item_alone s default h)

-- ---- the writing calls

-- tokens that were pushed to none
pub pushed : (new items own : List StyleToken) → new ≡ items ++ own → items ≡ [] → new ≡ own
pushed new items own e none = e ∙ ap (λ l. l ++ own) none
