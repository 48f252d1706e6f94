-- Pieces of steady texts are joined.
use Rattle.std.proofs.Common.{◌≡◌, ℕ, ◌==◌, ◌&&◌, ◌||◌, nat_lt, nat_le, not, Bool, true, false, List, [], ◌∷◌, ◌++◌, refl, ap, sym, ◌∙◌, arith}
use Rattle.std.specs.Char.{is_control, is_whitespace}
use Rattle.std.specs.List.{list_all}
use Rattle.std.proofs.lemmas.Bool.{and_parts, and_from}
use Rattle.std.proofs.lemmas.Bool.Decides.{nat_tests}
use Rattle.mad_characters.specs.Columns.{char_columns}
use Rattle.mad_steady.specs.Kinds.{is_mark, is_opening}
use Rattle.mad_steady.specs.Steady.{are_steady}
use Rattle.mad_steady.specs.Widths.{is_widthless, bears, are_borne, AreJoinedChars, ends_opened, PiecesAreJoined}
use Rattle.mad_steady.proofs.WidthLemmas.{opening_by, borne}

-- whether a widthless character may stand behind these
abbrev run : Bool → List ℕ → Bool
run b [] = b
run b (c ∷ cs) = run (bears b c) cs

abbrev fits : Bool → ℕ → Bool
fits b c = nat_le (char_columns c) 2 && (not (is_widthless c) || b)

behind_front : (b : Bool) (front rest : List ℕ) → are_borne b (front ++ rest) ≡ true → are_borne (run b front) rest ≡ true
behind_front b [] rest h = h
behind_front b (c ∷ cs) rest h = behind_front (bears b c) cs rest (and_parts (fits b c) (are_borne (bears b c) (cs ++ rest)) h).1

in_front : (b : Bool) (piece more : List ℕ) → are_borne b (piece ++ more) ≡ true → are_borne b piece ≡ true
in_front b [] more h = refl
in_front b (c ∷ cs) more h =
    let both = and_parts (fits b c) (are_borne (bears b c) (cs ++ more)) h in and_from (fits b c) (are_borne (bears b c) cs) both.0 (in_front (bears b c) cs more both.1)

bears_not : (b : Bool) (c : ℕ) → is_opening c ≡ true → bears b c ≡ false
bears_not b c h = ap (λ t. not t && (nat_lt 0 (char_columns c) || b)) h

opened_not : (b o : Bool) (front : List ℕ) → (o ≡ true → b ≡ false) → ends_opened o front ≡ true → run b front ≡ false
opened_not b o [] f h = f h
opened_not b o (c ∷ cs) f h = opened_not (bears b c) (is_opening c) cs (bears_not b c) h

white_opens : (c : ℕ) → is_whitespace c ≡ true → is_opening c ≡ true
white_opens c h = ap (λ t. is_mark c || (is_control c || t)) h ∙ last (is_mark c) (is_control c)
  where
    last : (a b : Bool) → (a || (b || true)) ≡ true
    last true b = refl
    last false true = refl
    last false false = refl

zero_widthless : (c : ℕ) → char_columns c ≡ 0 → is_control c ≡ false → is_widthless c ≡ true
zero_widthless c z h =
    let none : (char_columns c == 0) ≡ true = grind (arith, nat_tests, z) in and_from (not (is_control c)) (char_columns c == 0) (ap not h) none

not_white : (c : ℕ) (w : Bool) → is_whitespace c ≡ w → is_widthless c ≡ true → w ≡ false
not_white c true e h = sym h ∙ opening_by c (is_control c) refl (white_opens c e)
not_white c false e h = refl

may_stand : (c : ℕ) (b : Bool) → fits b c ≡ true → is_widthless c ≡ true → b ≡ true
may_stand c b h w = sym (ap (λ t. not t || b) w) ∙ (and_parts (nat_le (char_columns c) 2) (not (is_widthless c) || b) h).1

bears_black : (b : Bool) (c : ℕ) (w : Bool) → is_whitespace c ≡ w → bears b c ≡ true → not w ≡ true
bears_black b c true e h = sym (bears_not b c (white_opens c e)) ∙ h
bears_black b c false e h = refl

not_from : (b : Bool) → not b ≡ true → b ≡ false
not_from true h = sym h
not_from false h = refl

joined_from : (b after : Bool) (piece : List ℕ) → (b ≡ true → after ≡ true) → are_borne b piece ≡ true → list_all (λ c. not (is_control c)) piece ≡ true → AreJoinedChars after piece
joined_from b after [] f h p = tt
joined_from b after (c ∷ cs) f h p =
    let both = and_parts (fits b c) (are_borne (bears b c) cs) h in
    let plain = and_parts (not (is_control c)) (list_all (λ c. not (is_control c)) cs) p in
    let widthless = λ (z : char_columns c ≡ 0). zero_widthless c z (not_from (is_control c) plain.0) in (
      λ z. (not_white c (is_whitespace c) refl (widthless z), f (may_stand c b both.0 (widthless z))),
      joined_from (bears b c) (not (is_whitespace c)) cs (bears_black b c (is_whitespace c) refl) both.1 plain.1,
    )

-- every piece of steady characters without control characters is joined, where it begins them or stands behind an opening one
pub pieces : (cs : List ℕ) → are_steady cs ≡ true → PiecesAreJoined cs
pieces cs h front piece more parts opened plain =
    let all : are_borne false (front ++ (piece ++ more)) ≡ true = sym (ap (are_borne false) parts) ∙ borne cs h in
    let closed : run false front ≡ false = opened_not false true front (λ _. refl) opened in
    let here : are_borne false (piece ++ more) ≡ true = sym (ap (λ b. are_borne b (piece ++ more)) closed) ∙ behind_front false front (piece ++ more) all in
    joined_from false false piece (λ e. e) (in_front false piece more here) plain
