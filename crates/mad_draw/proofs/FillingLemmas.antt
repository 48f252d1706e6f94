-- A text many times, and a character in pieces.
use Rattle.std.proofs.Common.{◌≡◌, ℕ, zero, suc, ◌+◌, ◌-◌, ◌*◌, ◌/◌, ◌%◌, ◌<◌, ◌≤◌, ⊎_elim, List, [], ◌++◌, take, length, replicate, refl, ap, sym, ◌∙◌, subst, arith, append_assoc, append-nil, length-append}
use Rattle.std.specs.Prelude.{encode_utf8, encode_utf8_all}
use Rattle.std.specs.Char.{IsScalar, len_utf8}
use Rattle.std.specs.List.{repeat}
use Rattle.std.specs.Str.{IsUtf8, IsCharBoundary}
use Rattle.std.proofs.Math.Nat.{mul-le-mul_right}
use Rattle.std.proofs.lemmas.List.{take_at}
use Rattle.std.proofs.lemmas.Bool.{cases_lt}
use Rattle.std.proofs.lemmas.Str.{IsUtf8-encode, IsUtf8-append, IsUtf8-nil, IsCharBoundary-at_seam, length-encode, encode_ascii}
use Rattle.mad_term.specs.Draws.{Refused}
use Rattle.mad_term.specs.Styles.{piece_bytes}
use Rattle.mad_term.specs.Trace.{Trace, after}
use Rattle.mad_term.specs.declared.errors.Error.{Error}
use Rattle.mad_term.proofs.Exits.{refused_between}
use Rattle.mad_term.proofs.Pieces.{unstyled_piece}
use Rattle.mad_term.proofs.Repeating.{repeat-more}
use Rattle.mad_term.proofs.Traces.{after-nil, took_both}
use Rattle.mad_style.specs.CompoundStyles.{unstyled}
use Rattle.mad_style.specs.StyledChars.{styled_char}
use Rattle.mad_style.specs.declared.compound_styles.CompoundStyle.{CompoundStyle}
use Rattle.mad_style.specs.declared.styled_chars.StyledChar.{StyledChar}
use Rattle.mad_draw.specs.Fillings.{piece_chars, filling_pieces}
use Rattle.mad_draw.specs.Pieces.{RowPiece, pieces_bytes, char_repeat, spaces}
use Rattle.mad_draw.proofs.PieceLemmas.{bytes_both, repeat-one}

-- ---- a text many times

-- a list m + n times is it m times, and then n times
pub repeat-add : {A : Type 0} (m n : ℕ) (xs : List A) → repeat (m + n) xs ≡ repeat m xs ++ repeat n xs
repeat-add {A} zero n xs = let e : zero + n ≡ n = omega arith in ap (λ k. repeat k xs) e
repeat-add {A} (suc m) n xs =
    let e : suc m + n ≡ suc (m + n) = omega arith in
    ap (λ k. repeat k xs) e ∙ ap (λ ys. xs ++ ys) (repeat-add m n xs) ∙ sym (append_assoc xs (repeat m xs) (repeat n xs))

repeat-times : {A : Type 0} (n k : ℕ) (xs : List A) → repeat n (repeat k xs) ≡ repeat (n * k) xs
repeat-times {A} zero k xs = let e : 0 ≡ 0 * k = omega arith in ap (λ m. repeat m xs) e
repeat-times {A} (suc n) k xs =
    let e : k + n * k ≡ suc n * k = omega arith in
    ap (λ ys. repeat k xs ++ ys) (repeat-times n k xs) ∙ sym (repeat-add k (n * k) xs) ∙ ap (λ m. repeat m xs) e

-- it went out so often
pub no_time : (text : List ℕ) (t : Trace) → t ≡ after t (repeat 0 text)
no_time text t = sym (after-nil t)

-- a text that goes out once more has gone out one time more
pub time_more : (text : List ℕ) (n : ℕ) (old mid new : Trace) → mid ≡ after old (repeat n text) → new ≡ after mid text → new ≡ after old (repeat (n + 1) text)
time_more text n old mid new went more = took_both old mid new (repeat n text) text went more ∙ ap (after old) (repeat-more n text)

-- where a text is refused at one of its times, all its times are
pub refused_time : (text : List ℕ) (n count : ℕ) (e : Error) (old mid new : Trace) → n < count → mid ≡ after old (repeat n text) → Refused mid text e new → Refused old (repeat count text) e new
refused_time text n count e old mid new inside went refused =
    let rest : ℕ = count - (n + 1) in
    let all : n + suc rest ≡ count = omega (arith, inside) in
    subst (λ (t : List ℕ). Refused old t e new) (sym (repeat-add n (suc rest) text) ∙ ap (λ k. repeat k text) all)
    (refused_between e old mid new (repeat n text) text (repeat rest text) went refused)

-- ---- a character many times

-- a piece has 1000 characters at most
pub piece_chars_is : piece_chars ≡ 1000
unfolding piece_chars
piece_chars_is = refl

-- what is at most 1000 is no more than a piece has
pub most_is : (n : ℕ) → n ≤ 1000 → n ≤ piece_chars
most_is n h = omega (arith, h, piece_chars_is)

-- in pieces, and all at once
pub repeat_in_pieces : (n : ℕ) (text : List ℕ) → repeat (n / 1000) (repeat piece_chars text) ++ repeat (n % 1000) text ≡ repeat n text
repeat_in_pieces n text =
    let e : n / 1000 * 1000 + n % 1000 ≡ n = omega arith in
    ap (λ k. repeat (n / 1000) (repeat k text) ++ repeat (n % 1000) text) piece_chars_is
    ∙ ap (λ bytes. bytes ++ repeat (n % 1000) text) (repeat-times (n / 1000) 1000 text)
    ∙ sym (repeat-add (n / 1000 * 1000) (n % 1000) text)
    ∙ ap (λ k. repeat k text) e

-- a front of it
length-repeat : (n c : ℕ) → length (repeat n (encode_utf8 c)) ≡ n * len_utf8 c
length-repeat zero c = omega arith
length-repeat (suc n) c = let rest : length (repeat n (encode_utf8 c)) ≡ n * len_utf8 c = length-repeat n c in let e : len_utf8 c + n * len_utf8 c ≡ suc n * len_utf8 c = omega arith in length-append (encode_utf8 c) (repeat n (encode_utf8 c)) ∙ omega (arith, length-encode c, rest, e)

-- a character so many times is a text
pub repeat_utf8 : (n c : ℕ) → IsScalar c → IsUtf8 (repeat n (encode_utf8 c))
repeat_utf8 zero c h = IsUtf8-nil
repeat_utf8 (suc n) c h = IsUtf8-append (encode_utf8 c) (repeat n (encode_utf8 c)) (IsUtf8-encode c h) (repeat_utf8 n c h)

in_two : (content : List ℕ) (count c : ℕ) → content ≡ repeat piece_chars (encode_utf8 c) → count ≤ piece_chars → content ≡ repeat count (encode_utf8 c) ++ repeat (piece_chars - count) (encode_utf8 c)
in_two content count c is within =
    let e : piece_chars ≡ count + (piece_chars - count) = omega (arith, within) in
    is ∙ ap (λ k. repeat k (encode_utf8 c)) e ∙ repeat-add count (piece_chars - count) (encode_utf8 c)

-- the first characters of a full piece are the character so many times
pub front_is : (content : List ℕ) (count bytes c : ℕ) → content ≡ repeat piece_chars (encode_utf8 c) → count ≤ piece_chars → bytes ≡ count * len_utf8 c → take bytes content ≡ repeat count (encode_utf8 c)
front_is content count bytes c is within at =
    ap (take bytes) (in_two content count c is within)
    ∙ take_at (repeat count (encode_utf8 c)) (repeat (piece_chars - count) (encode_utf8 c)) bytes (length-repeat count c ∙ sym at)

-- a full piece may be cut after any of its characters
pub front_border : (content : List ℕ) (count bytes c : ℕ) → IsScalar c → content ≡ repeat piece_chars (encode_utf8 c) → count ≤ piece_chars → bytes ≡ count * len_utf8 c → IsCharBoundary content bytes
front_border content count bytes c scalar is within at =
    subst (IsCharBoundary content) (length-repeat count c ∙ sym at)
    (IsCharBoundary-at_seam content (repeat count (encode_utf8 c)) (repeat (piece_chars - count) (encode_utf8 c)) (in_two content count c is within) (repeat_utf8 (piece_chars - count) c scalar))

-- ---- pieces

pieces_times : (n : ℕ) (ps : List RowPiece) → pieces_bytes (repeat n ps) ≡ repeat n (pieces_bytes ps)
pieces_times zero ps = refl
pieces_times (suc n) ps = bytes_both ps (repeat n ps) ∙ ap (λ bytes. pieces_bytes ps ++ bytes) (pieces_times n ps)

no_times : {A : Type 0} (n : ℕ) (xs ys : List A) → n ≡ 0 → repeat n xs ≡ repeat n ys
no_times {A} n xs ys none = ap (λ k. repeat k xs) none ∙ sym (ap (λ k. repeat k ys) none)

-- as they are written: the whole pieces, if there are any, and then the last one
filling_bytes : (c : StyledChar) (n most : ℕ) → most ≤ piece_chars → (piece_chars ≤ n → most ≡ piece_chars) → repeat (n / 1000) (pieces_bytes (char_repeat c most)) ++ pieces_bytes (char_repeat c (n % 1000)) ≡ pieces_bytes (filling_pieces c n)
filling_bytes c n most within whole =
    let all : List RowPiece = char_repeat c piece_chars in
    let last : List ℕ = pieces_bytes (char_repeat c (n % 1000)) in
    ap (λ bytes. bytes ++ last) whole_pieces
    ∙ ap (λ k. repeat (n / k) (pieces_bytes all) ++ pieces_bytes (char_repeat c (n % k))) (sym piece_chars_is)
    ∙ ap (λ bytes. bytes ++ pieces_bytes (char_repeat c (n % piece_chars))) (sym (pieces_times (n / piece_chars) all))
    ∙ sym (bytes_both (repeat (n / piece_chars) all) (char_repeat c (n % piece_chars)))
  where
    whole_pieces : repeat (n / 1000) (pieces_bytes (char_repeat c most)) ≡ repeat (n / 1000) (pieces_bytes (char_repeat c piece_chars))
    whole_pieces =
        ⊎_elim
        (λ (few : n < piece_chars). let none : n / 1000 ≡ 0 = omega (arith, few, piece_chars_is) in no_times (n / 1000) (pieces_bytes (char_repeat c most)) (pieces_bytes (char_repeat c piece_chars)) none)
        (λ (many : piece_chars ≤ n). ap (λ k. repeat (n / 1000) (pieces_bytes (char_repeat c k))) (whole many))
        (cases_lt n piece_chars)

-- full pieces and then the last one are the bytes of a filling
pub filling_written : (c : StyledChar) (n most : ℕ) (whole last : List ℕ) → whole ≡ pieces_bytes (char_repeat c most) → last ≡ pieces_bytes (char_repeat c (n % 1000)) → most ≤ piece_chars → (piece_chars ≤ n → most ≡ piece_chars) → repeat (n / 1000) whole ++ last ≡ pieces_bytes (filling_pieces c n)
filling_written c n most whole last whole_is last_is within all =
    ap (λ (t : List ℕ). repeat (n / 1000) t ++ last) whole_is ∙ ap (λ (t : List ℕ). repeat (n / 1000) (pieces_bytes (char_repeat c most)) ++ t) last_is ∙ filling_bytes c n most within all

-- ---- spaces

-- a piece of spaces is a piece of the character
pub spaces_repeat : (style : CompoundStyle) (n : ℕ) → pieces_bytes (spaces style n) ≡ pieces_bytes (char_repeat (styled_char style 32) n)
spaces_repeat style zero = refl
spaces_repeat style (suc n) = ap (λ text. piece_bytes style.object_style text ++ []) (sym (repeat-one (suc n) 32) ∙ ap (repeat (suc n)) (sym (encode_ascii 32 (omega arith))))

-- without style
pub unstyled_spaces : (n : ℕ) → pieces_bytes (spaces unstyled n) ≡ replicate n 32
unstyled_spaces zero = refl
unstyled_spaces (suc n) =
    append-nil (piece_bytes unstyled.object_style (replicate (suc n) 32))
    ∙ unstyled_piece unstyled.object_style (replicate (suc n) 32) (record { foreground = refl; background = refl; underline = refl; attributes = refl })

-- ---- one after another, as characters

-- the bytes of a character n times are those of n characters
pub encoded_repeat : (n c : ℕ) → repeat n (encode_utf8 c) ≡ encode_utf8_all (replicate n c)
encoded_repeat zero c = refl
encoded_repeat (suc n) c = ap (λ bytes. encode_utf8 c ++ bytes) (encoded_repeat n c)

-- a character's bytes a thousand times are few
pub few_bytes : (count bytes : ℕ) → count ≤ piece_chars → bytes ≤ 4 → count * bytes ≤ 4000
few_bytes count bytes few small = let times : count * bytes ≤ 1000 * bytes = mul-le-mul_right bytes (omega (arith, few, piece_chars_is)) in omega (arith, times, small)
