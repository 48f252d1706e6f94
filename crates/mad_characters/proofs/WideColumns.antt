-- The known wide characters take two columns each, and none is whitespace.
use Rattle.std.proofs.Common.{◌≡◌, ℕ, ◌<◌, ◌||◌, not, Bool, true, false, nat_lt, nat_le, List, [], ◌∷◌, Some, None, unwrap_or, refl, arith, if◌then◌else◌}
use Rattle.std.proofs.lemmas.Bool.Decides.{nat_tests}
use Rattle.std.specs.Char.{is_whitespace}
use Rattle.ucd_table.specs.Rows.{Range, in_ranges}
use Rattle.ucd_table.proofs.Computing.{tables}
use Rattle.ucd_table.proofs.Facts.{Stepped-everywhere}
use Rattle.ucd_table.proofs.Stepped.{Stepped, of_ranges, zip_stepped}
use Rattle.unicode_width.specs.declared.kind.Kind.{Kind}
use Rattle.unicode_width.specs.declared.kind.Kind.TheVariants as kinds
use Rattle.unicode_width.specs.Kind.{kind}
use Rattle.unicode_width.specs.Width.{of_kind, alone, char_width}
use Rattle.unicode_width.proofs.KindLemmas.{kind_stepped}
use Rattle.mad_characters.specs.Columns.{char_columns}
use Rattle.mad_characters.specs.Wide.{is_known_wide}

abbrev ranges : List Range
ranges = (0x3001, 0x3029) ∷ (0x3041, 0x3096) ∷ (0x30A0, 0x30FF) ∷ (0x4E00, 0x9FFF) ∷ (0xAC00, 0xD7A3) ∷ (0xFF01, 0xFF60) ∷ []

abbrev is_wide_kind : Kind → Bool
is_wide_kind kinds.Wide = true
is_wide_kind _ = false

abbrev passes : Bool → Kind → Bool
passes known k = not known || is_wide_kind k

unfoldable passes_stepped : Stepped (λ c. passes (in_ranges ranges c) (kind c))
unfolding tables kind_stepped
passes_stepped = zip_stepped passes (in_ranges ranges) kind (of_ranges ranges refl) kind_stepped

-- by a computation over all steps of the kinds
all_pass : (c : ℕ) → passes (in_ranges ranges c) (kind c) ≡ true
unfolding tables kind_stepped passes_stepped
all_pass = Stepped-everywhere (λ c. passes (in_ranges ranges c) (kind c)) passes_stepped refl

in_them : (c : ℕ) → is_known_wide c ≡ true → in_ranges ranges c ≡ true
unfolding in_ranges
in_them c h = grind (arith, nat_tests)

wide_if : (known : Bool) (k : Kind) → passes known k ≡ true → known ≡ true → is_wide_kind k ≡ true
wide_if true k h e = h
wide_if false k h e = absurd (cc)

two_if : (c : ℕ) (k : Kind) → is_wide_kind k ≡ true → (of_kind false c k).0 ≡ 2
two_if c kinds.Wide h = refl
two_if c _ h = absurd (cc)

high : (c : ℕ) → is_known_wide c ≡ true → 0x3000 < c
high c h = grind (arith, nat_tests)

at_two : (c n : ℕ) (a b : Bool) → a ≡ false → b ≡ true → n ≡ 2 → unwrap_or (if a then (if nat_le 0x20 c then Some 1 else None) else if b then Some n else None) 0 ≡ 2
at_two c n false true p q e = e
at_two c n true b p q e = absurd (cc)
at_two c n false false p q e = absurd (cc)

pub wide_columns : (c : ℕ) → is_known_wide c ≡ true → char_columns c ≡ 2
unfolding char_columns char_width alone
wide_columns c h =
    let l = high c h in
    at_two c (of_kind false c (kind c)).0 (nat_lt c 0x7F) (nat_le 0xA0 c) (grind (arith, nat_tests, l)) (grind (arith, nat_tests, l)) (two_if c (kind c) (wide_if (in_ranges ranges c) (kind c) (all_pass c) (in_them c h)))

pub wide_solid : (c : ℕ) → is_known_wide c ≡ true → is_whitespace c ≡ false
wide_solid c h = let l = high c h in grind (arith, nat_tests)
