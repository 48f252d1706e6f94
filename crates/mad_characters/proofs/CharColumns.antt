-- A character takes no more columns than it has bytes in UTF-8, and at most three; printed ASCII takes one.
use Rattle.std.proofs.Common.{◌≡◌, ℕ, ◌≤◌, ◌<◌, Bool, true, false, nat_lt, nat_le, arith, Some, None, unwrap_or, refl, if◌then◌else◌}
use Rattle.std.proofs.lemmas.Bool.Decides.{nat_tests}
use Rattle.std.specs.Char.{len_utf8}
use Rattle.unicode_width.specs.declared.kind.Kind.{Kind}
use Rattle.unicode_width.specs.declared.kind.Kind.TheVariants as kinds
use Rattle.unicode_width.specs.Kind.{kind}
use Rattle.unicode_width.specs.Width.{of_kind, alone, single, char_width}
use Rattle.mad_characters.specs.Columns.{char_columns}

by_test : (b : Bool) (c n : ℕ) → (b ≡ true → n ≤ len_utf8 c) → unwrap_or (if b then Some n else None) 0 ≤ len_utf8 c
by_test true c n h = h refl
by_test false c n h = omega arith

at_width : (c n : ℕ) → (127 < c → n ≤ len_utf8 c) → unwrap_or (if nat_le 0xA0 c then Some n else None) 0 ≤ len_utf8 c
at_width c n h = by_test (nat_le 0xA0 c) c n (λ e. h (grind (arith, nat_tests)))

single-le : (c : ℕ) → 127 ≤ c → (single false c).0 ≤ len_utf8 c
single-le c h = grind (arith, nat_tests)

of_kind-le : (c : ℕ) (k : Kind) → 127 < c → (of_kind false c k).0 ≤ len_utf8 c
of_kind-le c kinds.Single h = single-le c (omega arith)
of_kind-le c _ h = grind (arith, nat_tests)

-- by whether the character is printable ASCII
low : (c : ℕ) → unwrap_or (if nat_le 0x20 c then Some 1 else None) 0 ≤ len_utf8 c
low c = grind (arith, nat_tests)

high : (c : ℕ) (k : Kind) → (127 < c → (of_kind false c k).0 ≤ len_utf8 c) → unwrap_or (if nat_le 0xA0 c then Some (of_kind false c k).0 else None) 0 ≤ len_utf8 c
high c k h = at_width c (of_kind false c k).0 h

pub char_columns-le : (c : ℕ) → char_columns c ≤ len_utf8 c
unfolding char_columns char_width alone
char_columns-le c =
    elim (nat_lt c 0x7F) as (λ b. unwrap_or (if b then (if nat_le 0x20 c then Some 1 else None) else if nat_le 0xA0 c then Some (of_kind false c (kind c)).0 else None) 0 ≤ len_utf8 c)
    [ true ↦ low c | false ↦ high c (kind c) (of_kind-le c (kind c)) ]

test-le : (b : Bool) (m n : ℕ) → n ≤ m → unwrap_or (if b then Some n else None) 0 ≤ m
test-le true m n h = h
test-le false m n h = omega arith

single-three : (c : ℕ) → (single false c).0 ≤ 3
single-three c = grind (arith, nat_tests)

of_kind-three : (c : ℕ) (k : Kind) → (of_kind false c k).0 ≤ 3
of_kind-three c kinds.Single = single-three c
of_kind-three c _ = omega arith

pub char_columns-three : (c : ℕ) → char_columns c ≤ 3
unfolding char_columns char_width alone
char_columns-three c =
    elim (nat_lt c 0x7F) as (λ b. unwrap_or (if b then (if nat_le 0x20 c then Some 1 else None) else if nat_le 0xA0 c then Some (of_kind false c (kind c)).0 else None) 0 ≤ 3)
    [ true ↦ test-le (nat_le 0x20 c) 3 1 (omega arith) | false ↦ test-le (nat_le 0xA0 c) 3 (of_kind false c (kind c)).0 (of_kind-three c (kind c)) ]

-- a printed ASCII character takes one column
pub char_columns-ascii : (c : ℕ) → 32 ≤ c → c < 127 → char_columns c ≡ 1
unfolding char_columns char_width
char_columns-ascii c low high = grind (arith, nat_tests)
