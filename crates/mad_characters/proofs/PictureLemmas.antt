-- What is shown is printable.
use Rattle.std.proofs.Common.{◌≡◌, ℕ, ◌+◌, ◌<◌, Bool, true, false, cond, nat_lt, eqb, refl, arith}
use Rattle.std.proofs.lemmas.Bool.Decides.{nat_tests}
use Rattle.mad_characters.specs.Pictures.{is_printable_char, picture}

control_picture : (c : ℕ) → c < 32 → is_printable_char (0x2400 + c) ≡ true
control_picture c h = grind (arith, nat_tests)

picture_by : (c : ℕ) (stays low del : Bool) → is_printable_char c ≡ stays → nat_lt c 32 ≡ low → is_printable_char (cond stays c (cond low (0x2400 + c) (cond del 0x2421 0xFFFD))) ≡ true
picture_by c true low del h l = h
picture_by c false true del h l = control_picture c (grind (arith, nat_tests))
picture_by c false false true h l = refl
picture_by c false false false h l = refl

pub picture_is : (c : ℕ) → is_printable_char (picture c) ≡ true
picture_is c = picture_by c (is_printable_char c) (nat_lt c 32) (eqb c 127) refl refl
