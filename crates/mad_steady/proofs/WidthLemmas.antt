-- The columns of steady texts.
use Rattle.std.proofs.Common.{◌≡◌, ℕ, ◌-◌, ◌%◌, ◌<◌, ◌≤◌, ◌==◌, ◌&&◌, ◌||◌, nat_lt, nat_le, not, Bool, true, false, cond, Some, None, unwrap_or, ⊎_elim, List, [], ◌∷◌, refl, ap, sym, subst, ◌∙◌, arith, if◌then◌else◌}
use Rattle.std.specs.Char.{is_control}
use Rattle.std.specs.Int.{is_in_range}
use Rattle.std.proofs.lemmas.Bool.{and_parts, and_from, cases_lt}
use Rattle.std.proofs.lemmas.Bool.Decides.{nat_tests}
use Rattle.ucd_table.specs.Rows.{Range, in_ranges}
use Rattle.ucd_table.proofs.Computing.{tables}
use Rattle.ucd_table.proofs.StepsLemmas.{rises_from}
use Rattle.ucd_table.proofs.Stepped.{Stepped, of_ranges, zip_stepped}
use Rattle.ucd_table.proofs.Facts.{Stepped-everywhere}
use Rattle.unicode_width.specs.Kind as table
use Rattle.unicode_width.specs.declared.kind.Kind as width_kinds
use Rattle.unicode_width.specs.declared.kind.Kind.TheVariants as widths
use Rattle.unicode_width.specs.Width.{of_kind, alone, single, char_width}
use Rattle.unicode_width.proofs.KindLemmas.{kind_stepped}
use Rattle.mad_steady.specs.declared.kinds.Kind.{Kind}
use Rattle.mad_steady.specs.declared.kinds.Kind.TheVariants.{Dropped, Selector, Sign, Indicator, Lead, OpenSyllable, Vowel, Tail, Jamo, Opening, Widthless, Narrow, Wide}
use Rattle.mad_steady.specs.declared.places.Place.{Place}
use Rattle.mad_steady.specs.declared.places.Place.TheVariants.{Opened, AfterNarrow, AfterWide, HoldsLead, HoldsSyllable, HoldsIndicator}
use Rattle.mad_characters.specs.Columns.{char_columns}
use Rattle.mad_steady.specs.Kinds.{kind, other_kind, columns_kind, syllable_kind, jamo_kind, is_dropped, is_selector, is_syllable, is_jamo, is_opening}
use Rattle.mad_steady.specs.Steady.{next_place, stays, are_steady_from, are_steady}
use Rattle.mad_steady.specs.Widths.{is_widthless, bears, are_borne}

-- ---- characters that have columns, by the table

has_columns : width_kinds.Kind → Bool
has_columns widths.Zero = false
has_columns widths.Single = false
has_columns _ = true

unfoldable shown_ranges : List Range
shown_ranges = (0xA0, 0xA0) ∷ (0x1100, 0x1112) ∷ (0x1680, 0x1680) ∷ (0x2000, 0x200A) ∷ (0x2028, 0x2029) ∷ (0x202F, 0x202F) ∷ (0x205F, 0x205F) ∷ (0x3000, 0x3000) ∷ (0xAC00, 0xD7A3) ∷ (0x1F1E6, 0x1F1FF) ∷ []

passes : Bool → width_kinds.Kind → Bool
passes listed k = not listed || has_columns k

passes_stepped : Stepped (λ c. passes (in_ranges shown_ranges c) (table.kind c))
unfolding tables shown_ranges rises_from kind_stepped passes has_columns
passes_stepped = zip_stepped passes (in_ranges shown_ranges) table.kind (of_ranges shown_ranges refl) kind_stepped

each_passes : (c : ℕ) → passes (in_ranges shown_ranges c) (table.kind c) ≡ true
unfolding tables shown_ranges rises_from kind_stepped passes has_columns passes_stepped
each_passes c = Stepped-everywhere (λ c. passes (in_ranges shown_ranges c) (table.kind c)) passes_stepped refl c

listed_has : (c : ℕ) → in_ranges shown_ranges c ≡ true → has_columns (table.kind c) ≡ true
unfolding passes
listed_has c h = sym (ap (λ t. not t || has_columns (table.kind c)) h) ∙ each_passes c

positive : (c : ℕ) (k : width_kinds.Kind) → has_columns k ≡ true → 0 < (of_kind false c k).0
unfolding has_columns
positive c widths.Zero h = cc
positive c widths.Single h = cc
positive c widths.Narrow h = omega arith
positive c widths.Wide h = omega arith
positive c widths.Ambiguous h = omega arith
positive c widths.Alef h = omega arith
positive c widths.KhmerLetter h = omega arith
positive c widths.TifinaghConsonant h = omega arith
positive c widths.LisuTone h = omega arith
positive c widths.RegionalIndicator h = omega arith
positive c widths.EmojiModifier h = omega arith
positive c widths.Emoji h = omega arith

at_high : (c : ℕ) → 0xA0 ≤ c → char_columns c ≡ (of_kind false c (table.kind c)).0
unfolding char_columns char_width alone
at_high c h = grind (arith, nat_tests)

listed_columns : (c : ℕ) → 0xA0 ≤ c → in_ranges shown_ranges c ≡ true → 0 < char_columns c
listed_columns c high h = subst (λ n. 0 < n) (sym (at_high c high)) (positive c (table.kind c) (listed_has c h))

ascii_columns : (c : ℕ) → 32 ≤ c → c < 127 → char_columns c ≡ 1
unfolding char_columns char_width
ascii_columns c low high = grind (arith, nat_tests)

-- ---- at most two

single_two : (c : ℕ) → (c == 0x17D8) ≡ false → (single false c).0 ≤ 2
single_two c h = grind (arith, nat_tests)

of_kind_two : (c : ℕ) (k : width_kinds.Kind) → (c == 0x17D8) ≡ false → (of_kind false c k).0 ≤ 2
of_kind_two c widths.Single h = single_two c h
of_kind_two c _ h = omega arith

test_two : (b : Bool) (n : ℕ) → n ≤ 2 → unwrap_or (if b then Some n else None) 0 ≤ 2
test_two true n h = h
test_two false n h = omega arith

columns_two : (c : ℕ) → (c == 0x17D8) ≡ false → char_columns c ≤ 2
unfolding char_columns char_width alone
columns_two c h =
    elim (nat_lt c 0x7F) as (λ b. unwrap_or (if b then (if nat_le 0x20 c then Some 1 else None) else if nat_le 0xA0 c then Some (of_kind false c (table.kind c)).0 else None) 0 ≤ 2)
    [ true ↦ test_two (nat_le 0x20 c) 1 (omega arith) | false ↦ test_two (nat_le 0xA0 c) (of_kind false c (table.kind c)).0 (of_kind_two c (table.kind c) h) ]

-- ---- what the kind of a character says of its columns

abbrev Bears : ℕ → Type 0
Bears c = (is_opening c ≡ false) × (char_columns c ≤ 2) × (0 < char_columns c)

abbrev Seen : ℕ → Kind → Type 0
Seen c Selector = (is_opening c ≡ false) × (char_columns c ≤ 2)
Seen c Widthless = (is_opening c ≡ false) × (char_columns c ≤ 2)
Seen c Opening = (is_widthless c ≡ false) × (char_columns c ≤ 2)
Seen c Indicator = Bears c
Seen c Lead = Bears c
Seen c OpenSyllable = Bears c
Seen c Narrow = Bears c
Seen c Wide = Bears c
Seen c _ = Unit {0}

by_test : (c : ℕ) (b : Bool) (k l : Kind) → (b ≡ true → Seen c k) → (b ≡ false → Seen c l) → Seen c (cond b k l)
by_test c true k l f g = f refl
by_test c false k l f g = g refl

seen_selector : (c : ℕ) → is_selector c ≡ true → (is_opening c ≡ false) × (char_columns c ≤ 2)
seen_selector c h = (grind (arith, nat_tests), columns_two c (grind (arith, nat_tests)))

listed_by : (c low high : ℕ) → 0xA0 ≤ low → is_in_range low high c ≡ true → in_ranges shown_ranges c ≡ true → is_opening c ≡ false → (c == 0x17D8) ≡ false → Bears c
listed_by c low high above h listed o other = (o, columns_two c other, listed_columns c (grind (arith, nat_tests)) listed)

seen_indicator : (c : ℕ) → is_in_range 0x1F1E6 0x1F1FF c ≡ true → Bears c
unfolding in_ranges shown_ranges
seen_indicator c h = listed_by c 0x1F1E6 0x1F1FF (omega arith) h (grind (arith, nat_tests)) (grind (arith, nat_tests)) (grind (arith, nat_tests))

seen_lead : (c : ℕ) → is_in_range 0x1100 0x1112 c ≡ true → Bears c
unfolding in_ranges shown_ranges
seen_lead c h = listed_by c 0x1100 0x1112 (omega arith) h (grind (arith, nat_tests)) (grind (arith, nat_tests)) (grind (arith, nat_tests))

seen_syllable : (c : ℕ) → is_syllable c ≡ true → Seen c (syllable_kind c)
unfolding in_ranges shown_ranges
seen_syllable c h =
    let is = listed_by c 0xAC00 0xD7A3 (omega arith) h (grind (arith, nat_tests)) (grind (arith, nat_tests)) (grind (arith, nat_tests)) in
    by_test c ((c - 0xAC00) % 28 == 0) OpenSyllable Wide (λ _. is) (λ _. is)

seen_jamo : (c : ℕ) → Seen c (jamo_kind c)
seen_jamo c =
    by_test c (is_in_range 0x1161 0x1175 c) Vowel (cond (is_in_range 0x11A8 0x11C2 c) Tail Jamo) (λ _. tt) (λ _. by_test c (is_in_range 0x11A8 0x11C2 c) Tail Jamo (λ _. tt) (λ _. tt))

seen_columns : (c n : ℕ) → n ≡ char_columns c → (c == 0x17D8) ≡ false → is_opening c ≡ false → Seen c (columns_kind n)
seen_columns c n e other o =
    let two = columns_two c other in
    by_test c (n == 0) Widthless (cond (n == 2) Wide Narrow) (λ _. (o, two))
    (λ some.
    let more : 0 < char_columns c = grind (arith, nat_tests) in
    by_test c (n == 2) Wide Narrow (λ _. (o, two, more)) (λ _. (o, two, more)))

not_widthless : (c : ℕ) → 0 < char_columns c → is_widthless c ≡ false
not_widthless c h =
    let other : (char_columns c == 0) ≡ false = grind (arith, nat_tests) in
    ap (λ t. not (is_control c) && t) other ∙ none (not (is_control c))
  where
    none : (b : Bool) → (b && false) ≡ false
    none true = refl
    none false = refl

opening_low : (c : ℕ) → is_control c ≡ false → c < 127 → 0 < char_columns c
opening_low c h low =
    let above : 32 ≤ c = grind (arith, nat_tests) in
    let one = ascii_columns c above low in
    omega (arith, one)

opening_high : (c : ℕ) → is_opening c ≡ true → is_control c ≡ false → 127 ≤ c → 0 < char_columns c
unfolding in_ranges shown_ranges
opening_high c o h high =
    let above : 0xA0 ≤ c = grind (arith, nat_tests) in
    listed_columns c above (grind (arith, nat_tests))

-- an opening character is not widthless
pub opening_by : (c : ℕ) (b : Bool) → is_control c ≡ b → is_opening c ≡ true → is_widthless c ≡ false
opening_by c true e o = ap (λ t. not t && (char_columns c == 0)) e
opening_by c false e o = not_widthless c (⊎_elim (λ low. opening_low c e low) (λ high. opening_high c o e high) (cases_lt c 127))

seen_other : (c : ℕ) → (c == 0x17D8) ≡ false → Seen c (other_kind c)
unfolding other_kind
seen_other c other =
    by_test c (is_opening c) Opening (columns_kind (char_columns c)) (λ o. (opening_by c (is_control c) refl o, columns_two c other)) (λ o. seen_columns c (char_columns c) refl other o)

seen : (c : ℕ) → Seen c (kind c)
unfolding kind
seen c =
    by_test c (is_dropped c) Dropped _ (λ _. tt)
    (λ _. by_test c (is_selector c) Selector _ (seen_selector c)
    (λ _. by_test c (c == 0x17D8) Sign _ (λ _. tt)
    (λ other. by_test c (is_in_range 0x1F1E6 0x1F1FF c) Indicator _ (seen_indicator c)
    (λ _. by_test c (is_in_range 0x1100 0x1112 c) Lead _ (seen_lead c)
    (λ _. by_test c (is_syllable c) (syllable_kind c) _ (seen_syllable c)
    (λ _. by_test c (is_jamo c) (jamo_kind c) (other_kind c) (λ _. seen_jamo c) (λ _. seen_other c other)))))))

-- ---- steady texts

-- a widthless character may stand at the place
abbrev carries : Place → Bool
carries Opened = false
carries _ = true

record Stands (after : Bool) (c : ℕ) (next : Place) : Type 0 where
  here : (nat_le (char_columns c) 2 && (not (is_widthless c) || after)) ≡ true
  behind : carries next ≡ true → bears after c ≡ true

or_true : (b : Bool) → (b || true) ≡ true
or_true true = refl
or_true false = refl

two : (n : ℕ) → n ≤ 2 → nat_le n 2 ≡ true
two n h = grind (arith, nat_tests)

by_after : (after : Bool) (c : ℕ) (next : Place) → after ≡ true → (is_opening c ≡ false) × (char_columns c ≤ 2) → Stands after c next
by_after after c next a s = record {
  here = and_from _ _ (two (char_columns c) s.1) (ap (λ t. not (is_widthless c) || t) a ∙ or_true (not (is_widthless c)));
  behind = λ _. ap (λ t. not t && (nat_lt 0 (char_columns c) || after)) s.0 ∙ ap (λ t. nat_lt 0 (char_columns c) || t) a ∙ or_true (nat_lt 0 (char_columns c));
}

by_columns : (after : Bool) (c : ℕ) (next : Place) → Bears c → Stands after c next
by_columns after c next s =
    let some : nat_lt 0 (char_columns c) ≡ true = grind (arith, nat_tests, s.2) in
    record {
      here = and_from _ _ (two (char_columns c) s.1) (ap (λ t. not t || after) (not_widthless c s.2));
      behind = λ _. ap (λ t. not t && (nat_lt 0 (char_columns c) || after)) s.0 ∙ ap (λ t. t || after) some;
    }

by_opening : (after : Bool) (c : ℕ) → (is_widthless c ≡ false) × (char_columns c ≤ 2) → Stands after c Opened
by_opening after c s = record {
  here = and_from _ _ (two (char_columns c) s.1) (ap (λ t. not t || after) s.0);
  behind = λ e. cc;
}

stands : (place : Place) (k : Kind) (c : ℕ) (after : Bool) → Seen c k → stays place k ≡ true → (carries place ≡ true → after ≡ true) → Stands after c (next_place place k c)
stands Opened Dropped c after s h a = cc
stands Opened Selector c after s h a = cc
stands Opened Sign c after s h a = cc
stands Opened Indicator c after s h a = by_columns after c _ s
stands Opened Lead c after s h a = by_columns after c _ s
stands Opened OpenSyllable c after s h a = by_columns after c _ s
stands Opened Vowel c after s h a = cc
stands Opened Tail c after s h a = cc
stands Opened Jamo c after s h a = cc
stands Opened Opening c after s h a = by_opening after c s
stands Opened Widthless c after s h a = cc
stands Opened Narrow c after s h a = by_columns after c _ s
stands Opened Wide c after s h a = by_columns after c _ s
stands AfterNarrow Dropped c after s h a = cc
stands AfterNarrow Selector c after s h a = cc
stands AfterNarrow Sign c after s h a = cc
stands AfterNarrow Indicator c after s h a = by_columns after c _ s
stands AfterNarrow Lead c after s h a = by_columns after c _ s
stands AfterNarrow OpenSyllable c after s h a = by_columns after c _ s
stands AfterNarrow Vowel c after s h a = cc
stands AfterNarrow Tail c after s h a = cc
stands AfterNarrow Jamo c after s h a = cc
stands AfterNarrow Opening c after s h a = by_opening after c s
stands AfterNarrow Widthless c after s h a = by_after after c _ (a refl) s
stands AfterNarrow Narrow c after s h a = by_columns after c _ s
stands AfterNarrow Wide c after s h a = by_columns after c _ s
stands AfterWide Dropped c after s h a = cc
stands AfterWide Selector c after s h a = by_after after c _ (a refl) s
stands AfterWide Sign c after s h a = cc
stands AfterWide Indicator c after s h a = by_columns after c _ s
stands AfterWide Lead c after s h a = by_columns after c _ s
stands AfterWide OpenSyllable c after s h a = by_columns after c _ s
stands AfterWide Vowel c after s h a = cc
stands AfterWide Tail c after s h a = cc
stands AfterWide Jamo c after s h a = cc
stands AfterWide Opening c after s h a = by_opening after c s
stands AfterWide Widthless c after s h a = by_after after c _ (a refl) s
stands AfterWide Narrow c after s h a = by_columns after c _ s
stands AfterWide Wide c after s h a = by_columns after c _ s
stands (HoldsLead x) Dropped c after s h a = cc
stands (HoldsLead x) Selector c after s h a = by_after after c _ (a refl) s
stands (HoldsLead x) Sign c after s h a = cc
stands (HoldsLead x) Indicator c after s h a = by_columns after c _ s
stands (HoldsLead x) Lead c after s h a = by_columns after c _ s
stands (HoldsLead x) OpenSyllable c after s h a = by_columns after c _ s
stands (HoldsLead x) Vowel c after s h a = cc
stands (HoldsLead x) Tail c after s h a = cc
stands (HoldsLead x) Jamo c after s h a = cc
stands (HoldsLead x) Opening c after s h a = by_opening after c s
stands (HoldsLead x) Widthless c after s h a = by_after after c _ (a refl) s
stands (HoldsLead x) Narrow c after s h a = by_columns after c _ s
stands (HoldsLead x) Wide c after s h a = by_columns after c _ s
stands (HoldsSyllable x) Dropped c after s h a = cc
stands (HoldsSyllable x) Selector c after s h a = by_after after c _ (a refl) s
stands (HoldsSyllable x) Sign c after s h a = cc
stands (HoldsSyllable x) Indicator c after s h a = by_columns after c _ s
stands (HoldsSyllable x) Lead c after s h a = by_columns after c _ s
stands (HoldsSyllable x) OpenSyllable c after s h a = by_columns after c _ s
stands (HoldsSyllable x) Vowel c after s h a = cc
stands (HoldsSyllable x) Tail c after s h a = cc
stands (HoldsSyllable x) Jamo c after s h a = cc
stands (HoldsSyllable x) Opening c after s h a = by_opening after c s
stands (HoldsSyllable x) Widthless c after s h a = by_after after c _ (a refl) s
stands (HoldsSyllable x) Narrow c after s h a = by_columns after c _ s
stands (HoldsSyllable x) Wide c after s h a = by_columns after c _ s
stands (HoldsIndicator x) Dropped c after s h a = cc
stands (HoldsIndicator x) Selector c after s h a = cc
stands (HoldsIndicator x) Sign c after s h a = cc
stands (HoldsIndicator x) Indicator c after s h a = by_columns after c _ s
stands (HoldsIndicator x) Lead c after s h a = cc
stands (HoldsIndicator x) OpenSyllable c after s h a = cc
stands (HoldsIndicator x) Vowel c after s h a = cc
stands (HoldsIndicator x) Tail c after s h a = cc
stands (HoldsIndicator x) Jamo c after s h a = cc
stands (HoldsIndicator x) Opening c after s h a = cc
stands (HoldsIndicator x) Widthless c after s h a = cc
stands (HoldsIndicator x) Narrow c after s h a = cc
stands (HoldsIndicator x) Wide c after s h a = cc

borne_from : (place : Place) (after : Bool) (cs : List ℕ) → (carries place ≡ true → after ≡ true) → are_steady_from place cs ≡ true → are_borne after cs ≡ true
borne_from place after [] a h = refl
borne_from place after (c ∷ cs) a h =
    let both = and_parts (stays place (kind c)) (are_steady_from (next_place place (kind c) c) cs) h in
    let here = stands place (kind c) c after (seen c) both.0 a in
    and_from _ _ here.here (borne_from (next_place place (kind c) c) (bears after c) cs here.behind both.1)

-- in a steady text each widthless character stands where it may
pub borne : (cs : List ℕ) → are_steady cs ≡ true → are_borne false cs ≡ true
borne cs h = borne_from Opened false cs (λ e. cc) h
