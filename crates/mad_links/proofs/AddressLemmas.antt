-- Addresses as they are written.
use Rattle.std.proofs.Common.{◌≡◌, ◌≢◌, ◌⊎◌, inl, inr, ⊎_elim, ℕ, ◌/◌, ◌%◌, ◌^◌, ◌<◌, ◌≤◌, Bool, true, false, cond, eqb, leb, List, [], ◌∷◌, ◌++◌, length, map, Option, Some, None, refl, ap, sym, ◌∙◌, subst, arith, append_assoc, length-append, lit≤, lit<}
use Rattle.std.specs.Prelude.{option_map, ◌&&◌, ◌||◌, decimal, codes}
use Rattle.std.specs.List.{AllByRecursion}
use Rattle.std.specs.Char.{to_ascii_lowercase}
use Rattle.std.specs.Fmt.{digit_glyph}
use Rattle.std.specs.Str.{str_eq_ignore_ascii_case, bytes_eq}
use Rattle.std.proofs.lemmas.Bool.{and_parts, false≢true}
use Rattle.std.proofs.lemmas.Bool.Decides.{nat_tests}
use Rattle.std.proofs.lemmas.Fmt.{length-decimal-le, decimal_injective, decimal_nonempty}
use Rattle.std.proofs.lemmas.Slice.Eq.{bytes_eq-Decides}
use Rattle.percent_encoding.specs.Percent.{percent_encode_byte}
use Rattle.mad_links.specs.Addresses.{is_kept_byte, written_byte, written_address, is_link_scheme, has_scheme_in, has_link_scheme, longest_address, link_address, IsWritten}
use Rattle.mad_links.specs.SkippingTerminal.{cut_at}
use Rattle.mad_links.specs.LinkTerminal.{Link, IsOneLink}
use Rattle.mad_links.specs.LinkRows.{address_of, open_bytes, id_parameter, command_text}
use Rattle.mad_links.specs.LinkLaws.{IsSafeCommand, CommandsAreSafe, AddressesAreWritten, NumbersAreLinks}
use Rattle.mad_links.proofs.CalmLemmas.{cut_there}
use Rattle.mad_links.proofs.LinkRowLemmas.{AreDigits, decimal_digits, is_decimal_digit}

-- ---- bytes that are kept

-- each is a byte that is kept
abbrev pub AreKept : List ℕ → Type 0
AreKept bs = AllByRecursion (λ b. is_kept_byte b ≡ true) bs

kept_both : (a b : List ℕ) → AreKept a → AreKept b → AreKept (a ++ b)
kept_both [] b p q = q
kept_both (x ∷ a) b p q = (p.0, kept_both a b p.1 q)

hex_kept : (d : ℕ) → d < 16 → is_kept_byte (digit_glyph true d) ≡ true
hex_kept d small = grind (arith, nat_tests)

escape_kept : (b : ℕ) → AreKept (percent_encode_byte b)
unfolding percent_encode_byte
escape_kept b = (refl, (hex_kept (b / 16 % 16) (omega arith), (hex_kept (b % 16) (omega arith), tt)))

byte_kept : (b : ℕ) (k : Bool) → is_kept_byte b ≡ k → AreKept (cond k (b ∷ []) (percent_encode_byte b))
byte_kept b true e = (e, tt)
byte_kept b false e = escape_kept b

-- an address as it is written has such bytes alone
pub address_kept : (a : List ℕ) → AreKept (written_address a)
address_kept [] = tt
address_kept (b ∷ a) = kept_both (written_byte b) (written_address a) (byte_kept b (is_kept_byte b) refl) (address_kept a)

-- and they are written as they are
pub kept_address : (a : List ℕ) → AreKept a → written_address a ≡ a
kept_address [] h = refl
kept_address (b ∷ a) h = ap (λ k. cond k (b ∷ []) (percent_encode_byte b) ++ written_address a) h.0 ∙ ap (λ l. b ∷ l) (kept_address a h.1)

written_both : (a b : List ℕ) → written_address (a ++ b) ≡ written_address a ++ written_address b
written_both [] b = refl
written_both (x ∷ a) b = ap (λ l. written_byte x ++ l) (written_both a b) ∙ sym (append_assoc (written_byte x) (written_address a) (written_address b))

-- ---- schemes

-- a small letter of ASCII, and one of either case
abbrev is_small : ℕ → Bool
is_small b = leb 97 b && leb b 122

abbrev AreLetters : List ℕ → Type 0
AreLetters bs = AllByRecursion (λ b. is_small (to_ascii_lowercase b) ≡ true) bs

letters_of : (s : List ℕ) → AllByRecursion (λ b. is_small b ≡ true) (map to_ascii_lowercase s) → AreLetters s
letters_of [] h = tt
letters_of (b ∷ s) h = (h.0, letters_of s h.1)

equal_from : (xs ys : List ℕ) → bytes_eq xs ys ≡ true → xs ≡ ys
equal_from xs ys e = (bytes_eq-Decides xs ys).0 e

named_letters : (s name : List ℕ) → AllByRecursion (λ b. is_small b ≡ true) (map to_ascii_lowercase name) → str_eq_ignore_ascii_case s name ≡ true → AreLetters s
named_letters s name small e =
    letters_of s (subst (AllByRecursion (λ b. is_small b ≡ true)) (sym (equal_from (map to_ascii_lowercase s) (map to_ascii_lowercase name) e)) small)

either_of : (a b : Bool) → (a || b) ≡ true → (a ≡ true) ⊎ (b ≡ true)
either_of true b e = inl refl
either_of false b e = inr e

scheme_letters : (s : List ℕ) → is_link_scheme s ≡ true → AreLetters s
scheme_letters s e =
    ⊎_elim
    (λ first. ⊎_elim
    (λ front. ⊎_elim
    (λ http. named_letters s (codes "http") (refl, (refl, (refl, (refl, tt)))) http)
    (λ https. named_letters s (codes "https") (refl, (refl, (refl, (refl, (refl, tt))))) https)
    (either_of (str_eq_ignore_ascii_case s (codes "http")) (str_eq_ignore_ascii_case s (codes "https")) front))
    (λ mailto. named_letters s (codes "mailto") (refl, (refl, (refl, (refl, (refl, (refl, tt)))))) mailto)
    (either_of (str_eq_ignore_ascii_case s (codes "http") || str_eq_ignore_ascii_case s (codes "https")) (str_eq_ignore_ascii_case s (codes "mailto")) first))
    (λ file. named_letters s (codes "file") (refl, (refl, (refl, (refl, tt)))) file)
    (either_of (str_eq_ignore_ascii_case s (codes "http") || str_eq_ignore_ascii_case s (codes "https") || str_eq_ignore_ascii_case s (codes "mailto")) (str_eq_ignore_ascii_case s (codes "file")) e)

letter_kept : (b : ℕ) → is_small (to_ascii_lowercase b) ≡ true → (is_kept_byte b ≡ true) × (b ≢ 58)
letter_kept b h = (grind (arith, nat_tests, h), grind (arith, nat_tests, h))

letters_kept : (s : List ℕ) → AreLetters s → AreKept s
letters_kept [] h = tt
letters_kept (b ∷ s) h = ((letter_kept b h.0).0, letters_kept s h.1)

letters_no_colon : (s : List ℕ) → AreLetters s → AllByRecursion (λ b. b ≢ 58) s
letters_no_colon [] h = tt
letters_no_colon (b ∷ s) h = ((letter_kept b h.0).1, letters_no_colon s h.1)

-- where a text is cut, it is the two parts with the character between them
cut_step : (code c : ℕ) (cs : List ℕ) (b : Bool) (p : List ℕ × List ℕ) → eqb c code ≡ b → ((q : List ℕ × List ℕ) → cut_at code cs ≡ Some q → cs ≡ q.0 ++ code ∷ q.1)
    → cond b (Some ([], cs)) (option_map (λ (q : List ℕ × List ℕ). (c ∷ q.0, q.1)) (cut_at code cs)) ≡ Some p → c ∷ cs ≡ p.0 ++ code ∷ p.1
cut_step code c cs true p e ih h =
    let same : c ≡ code = grind (arith, nat_tests, e) in
    subst (λ (q : List ℕ × List ℕ). c ∷ cs ≡ q.0 ++ code ∷ q.1) (some_is ([], cs) p h) (ap (λ d. d ∷ cs) same)
  where
    some_is : (a b : List ℕ × List ℕ) → Some a ≡ Some b → a ≡ b
    some_is a b k = cc
cut_step code c cs false p e ih h = by_rest (cut_at code cs) refl h
  where
    some_is : (a b : List ℕ × List ℕ) → Some a ≡ Some b → a ≡ b
    some_is a b k = cc

    none_is : (b : List ℕ × List ℕ) → None ≡ Some b → ⊥
    none_is b k = cc

    by_rest : (o : Option (List ℕ × List ℕ)) → cut_at code cs ≡ o → option_map (λ (q : List ℕ × List ℕ). (c ∷ q.0, q.1)) o ≡ Some p → c ∷ cs ≡ p.0 ++ code ∷ p.1
    by_rest None f k = absurd (none_is p k)
    by_rest (Some q) f k = subst (λ (r : List ℕ × List ℕ). c ∷ cs ≡ r.0 ++ code ∷ r.1) (some_is (c ∷ q.0, q.1) p k) (ap (λ l. c ∷ l) (ih q f))

-- a text that is cut is the two parts, with the character between them
pub cut_is : (code : ℕ) (cs : List ℕ) (p : List ℕ × List ℕ) → cut_at code cs ≡ Some p → cs ≡ p.0 ++ code ∷ p.1
cut_is code [] p h = absurd (none_is p h)
  where
    none_is : (b : List ℕ × List ℕ) → None ≡ Some b → ⊥
    none_is b k = cc
cut_is code (c ∷ cs) p h = cut_step code c cs (eqb c code) p refl (λ q k. cut_is code cs q k) h

scheme_in : (raw : List ℕ) (o : Option (List ℕ × List ℕ)) → cut_at 58 raw ≡ o → has_scheme_in o ≡ true → has_link_scheme (written_address raw) ≡ true
scheme_in raw None e h = absurd (false≢true h)
scheme_in raw (Some p) e h =
    let letters : AreLetters p.0 = scheme_letters p.0 h in
    let parts : raw ≡ p.0 ++ 58 ∷ p.1 = cut_is 58 raw p e in
    let written : written_address raw ≡ p.0 ++ 58 ∷ written_address p.1 =
    ap written_address parts ∙ written_both p.0 (58 ∷ p.1) ∙ ap (λ l. l ++ 58 ∷ written_address p.1) (kept_address p.0 (letters_kept p.0 letters)) in
    ap has_link_scheme written ∙ ap has_scheme_in (cut_there 58 p.0 (written_address p.1) (letters_no_colon p.0 letters)) ∙ h

-- what is written has the scheme of what was given
pub scheme_stays : (raw : List ℕ) → has_link_scheme raw ≡ true → has_link_scheme (written_address raw) ≡ true
scheme_stays raw h = scheme_in raw (cut_at 58 raw) refl h

written_by : (raw a : List ℕ) (t : Bool) → (has_link_scheme raw && leb (length (written_address raw)) longest_address) ≡ t → cond t (Some (written_address raw)) None ≡ Some a → IsWritten a
written_by raw a false e h = absurd (none_is h)
  where
    none_is : None ≡ Some a → ⊥
    none_is k = cc
written_by raw a true e h =
    let parts = and_parts (has_link_scheme raw) (leb (length (written_address raw)) longest_address) e in
    let second : leb (length (written_address raw)) 700 ≡ true = parts.1 in
    subst IsWritten (some_is (written_address raw) a h)
    (record { kept = address_kept raw; short = grind (arith, nat_tests, second); scheme = scheme_stays raw parts.0 })
  where
    some_is : (x y : List ℕ) → Some x ≡ Some y → x ≡ y
    some_is x y k = cc

kept_by : (a : List ℕ) → IsWritten a → link_address a ≡ Some a
kept_by a is =
    let same : written_address a ≡ a = kept_address a is.kept in
    let fits : leb (length a) 700 ≡ true = grind (arith, nat_tests, is.short) in
    ap (λ (w : List ℕ). cond (has_link_scheme a && leb (length w) 700) (Some w) None) same
    ∙ ap (λ t. cond (t && leb (length a) 700) (Some a) None) is.scheme
    ∙ ap (λ t. cond t (Some a) None) fits

-- THE LAW: an address that isn't refused can be written, and such a one is written as it is
pub addresses_are_written : AddressesAreWritten
addresses_are_written = record {
  written = λ raw a h. written_by raw a (has_link_scheme raw && leb (length (written_address raw)) longest_address) refl h;
  kept = kept_by;
}

-- ---- commands

digit_kept : (c : ℕ) → is_decimal_digit c ≡ true → is_kept_byte c ≡ true
digit_kept c h = grind (arith, nat_tests, h)

digits_kept : (cs : List ℕ) → AreDigits cs → AreKept cs
digits_kept [] h = tt
digits_kept (c ∷ cs) h = (digit_kept c h.0, digits_kept cs h.1)

open_safe : (n : ℕ) (a : List ℕ) → n < 2 ^ 64 → IsWritten a → IsSafeCommand 726 (open_bytes n a)
open_safe n a small is =
    let digits : length (decimal n) ≤ 20 = length-decimal-le 20 n (lit< tt) (omega arith) small in
    record {
      text = command_text (id_parameter n) a;
      is = refl;
      visible = (refl, (refl, kept_both (id_parameter n) (59 ∷ a) (refl, (refl, (refl, digits_kept (decimal n) (decimal_digits n small)))) (refl, is.kept)));
      short = omega (arith, length-append (id_parameter n) (59 ∷ a), digits, is.short);
    }

-- THE LAW: no byte of an address ends a command, or is a control byte
pub commands_are_safe : CommandsAreSafe
commands_are_safe = record {
  opens = open_safe;
  closes = record { text = command_text [] []; is = refl; visible = (refl, (refl, (refl, tt))); short = lit≤ tt };
}

-- ---- one link

abbrev link_of : ℕ → List ℕ → Link
link_of k b = record { id = decimal k; address = b }

same_by : (n : ℕ) (o : Option (List ℕ)) (a : List ℕ) → o ≡ Some a → n < 2 ^ 64 → IsOneLink (option_map (λ (b : List ℕ). record { id = decimal n; address = b }) o) (option_map (λ (b : List ℕ). record { id = decimal n; address = b }) o)
same_by n o a e small =
    let there : option_map (λ (b : List ℕ). link_of n b) o ≡ Some (link_of n a) = ap (option_map (λ (b : List ℕ). link_of n b)) e in
    record { link = link_of n a; first = there; second = there; named = λ none. absurd (omega (arith, decimal_nonempty n small, ap length none)) }

numbered : (n : ℕ) (o : Option (List ℕ)) (link : Link) → ((a : List ℕ) → o ≡ Some a → n < 2 ^ 64) → option_map (λ (b : List ℕ). record { id = decimal n; address = b }) o ≡ Some link → (link.id ≡ decimal n) × (n < 2 ^ 64)
numbered n None link small e = absurd (none_is e)
  where
    none_is : None ≡ Some link → ⊥
    none_is k = cc
numbered n (Some a) link small e = (sym (ap (λ (l : Link). l.id) (some_is (record { id = decimal n; address = a }) link e)), small a refl)
  where
    some_is : (x y : Link) → Some x ≡ Some y → x ≡ y
    some_is x y k = cc

-- THE LAW: links of two numbers are one link exactly where the numbers are the same
pub numbers_are_links : NumbersAreLinks
numbers_are_links = record {
  same = λ addresses n a known e. same_by n (address_of addresses n) a e (known.written n a e).1;
  other = λ addresses m n known one.
      let first = numbered m (address_of addresses m) one.link (λ a e. (known.written m a e).1) one.first in
      let second = numbered n (address_of addresses n) one.link (λ a e. (known.written n a e).1) one.second in
      decimal_injective m n first.1 second.1 (sym first.0 ∙ second.0);
}
