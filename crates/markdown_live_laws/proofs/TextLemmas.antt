-- The characters that a leaf's text shows are ones, and its bytes are UTF-8.
use Rattle.std.proofs.Common.{◌≡◌, ⊎_elim, ℕ, zero, suc, ◌+◌, ◌-◌, ◌<◌, ◌≤◌, Bool, true, false, not, ◌&&◌, ◌||◌, ◌==◌, List, [], ◌∷◌, ◌++◌, map, length, take, drop, get_or, Option, Some, None, refl, sym, ap, subst, ◌∙◌, arith, replicate, if◌then◌else◌}
use Rattle.std.specs.Prelude.{nat_lt, chars, IfSome, slice_index, unwrap_or}
use Rattle.std.specs.Char.{IsScalar, is_ascii_punctuation}
use Rattle.std.specs.List.{AllByRecursion, list_all, prefix_len}
use Rattle.std.specs.Str.{IsUtf8, IsCharBoundary, is_utf8}
use Rattle.std.specs.Int.{is_in_range}
use Rattle.std.specs.Str.Lossy.{after_first_chunk, error_len_after_one, error_len_after_two, error_len_of_some, replacement_bytes, second_byte_max, second_byte_min, utf8_error_len, utf8_invalid_len, utf8_lossy, utf8_valid_len, valid_len_up_to}
use Rattle.std.proofs.Math.Seq.{take-length}
use Rattle.std.proofs.Math.Utf8.{scalar, scalars, low_scalar}
use Rattle.std.proofs.lemmas.Bool.{and_parts, and_from, cases_eq}
use Rattle.std.proofs.lemmas.Bool.Decides.{nat_tests}
use Rattle.std.proofs.lemmas.List.{length-drop}
use Rattle.std.proofs.lemmas.Str.{IsUtf8-append, IsUtf8-between, IsUtf8-from_is_utf8, IsUtf8-nil, IsCharBoundary-after_ascii, IsCharBoundary-before_ascii, IsCharBoundary-start, scalars-chars, utf8_lossy-IsUtf8, utf8_lossy_step, utf8_valid_len_le}
use Rattle.mad_characters.specs.Pictures.{is_printable_char, picture}
use Rattle.mad_measure.proofs.AllLemmas.{all_joined}
use Rattle.markdown_emphasis.specs.Flags.{flags_of}
use Rattle.markdown_emphasis.specs.declared.flags.Flags.{Flags}
use Rattle.markdown_emphasis.specs.declared.runs.Sign.{Sign}
use Rattle.markdown_emphasis.specs.declared.runs.Sign.TheVariants.{Star, Underscore, Tilde}
use Rattle.markdown_live_laws.proofs.EntityLemmas.{IsCharEntity, entity_chars}
use Rattle.markdown_brackets.specs.Brackets.{Reading, closed, is_free, nothing_read}
use Rattle.markdown_brackets.specs.declared.brackets.Link.{Link}
use Rattle.markdown_spans.specs.Code.{unpadded, is_padded, inner, is_space}
use Rattle.markdown_spans.specs.Html.{html_len}
use Rattle.markdown_spans.specs.Entities.{entity_of}
use Rattle.markdown_spans.specs.declared.attributes.Html.{Html}
use Rattle.markdown_spans.specs.declared.attributes.Html.TheVariants.{Nothing, Break, Alternative, Source, On, Off, Link as LinkTag, LinkEnd}
use Rattle.markdown_spans.specs.declared.entities.Entity.{Entity}
use Rattle.markdown_spans.specs.declared.entities.Escape.TheVariants.{Sign as SignEscape, Break as BreakEscape, Itself}
use Rattle.markdown_addresses.specs.Addresses.{address_len}
use Rattle.markdown_marks.specs.Bytes.{first, is_blank_byte}
use Rattle.markdown_spans.specs.Code.{code_of}
use Rattle.markdown_pieces.specs.Cut.{CutText, Step, closing_step, cut_from, cut_text, opening_step, other_step, step}
use Rattle.markdown_pieces.specs.Pieces.{angle_by, angle_piece, break_piece, byte_before, code_by, code_piece, ends_line, entity_by, entity_piece, escape_by, escape_piece, html_by, html_piece, bare_if, is_hard, no_mark_piece, piece, piece_at, plain_by, plain_piece, run_piece}
use Rattle.markdown_pieces.specs.Places.{IsInside, AreCut}
use Rattle.markdown_pieces.proofs.PlaceLemmas.{text_placed}
use Rattle.markdown_pieces.specs.declared.pieces.Kind.{Kind}
use Rattle.markdown_pieces.specs.declared.pieces.Kind.TheVariants.{Plain, Shown as ShownKind, Code as CodeKind, Address, Bare, Html as HtmlKind, Soft, Hard, Run as RunKind, Opening, Closing}
use Rattle.markdown_pieces.specs.declared.pieces.Piece.{Piece}
use Rattle.markdown_inlines.specs.Inlines.{all_over, leaf_text, left_of, look_at, shown_cut, shown_from, shown_piece}
use Rattle.markdown_inlines.specs.Parts.{alternative_text, characters, closing_shown, html_shown, kind_characters, name_by, name_shown, opening_shown, part, piece_shown, shown_text, sign_char, source_name, target_name}
use Rattle.markdown_inlines.specs.Printable.{shown_char}
use Rattle.markdown_inlines.specs.Styled.{Shown, shown_with}
use Rattle.markdown_inlines.specs.declared.links.Over.{Over}
use Rattle.markdown_inlines.specs.declared.looks.Look.{Look}

-- ---- characters

-- each of these is a character
abbrev pub AreChars : List ℕ → Type 0
AreChars cs = AllByRecursion IsScalar cs

-- the characters of a text, as it is
pub from_scalars : (cs : List ℕ) → scalars cs ≡ true → AreChars cs
from_scalars [] h = tt
from_scalars (c ∷ cs) h = let both = and_parts (scalar c) (scalars cs) h in (both.0, from_scalars cs both.1)

-- and the other way round
pub to_scalars : (cs : List ℕ) → AreChars cs → scalars cs ≡ true
to_scalars [] h = refl
to_scalars (c ∷ cs) h = and_from (scalar c) (scalars cs) h.0 (to_scalars cs h.1)

if_char : (t : Bool) (a b : ℕ) → (t ≡ true → IsScalar a) → (t ≡ false → IsScalar b) → IsScalar (if t then a else b)
if_char true a b h k = h refl
if_char false a b h k = k refl

picture_low : (c : ℕ) → nat_lt c 32 ≡ true → IsScalar (0x2400 + c)
picture_low c h = low_scalar (0x2400 + c) (grind (arith, nat_tests, h))

-- a character is shown as one
pub shown_is_char : (c : ℕ) → IsScalar c → IsScalar (shown_char c)
shown_is_char c h =
    if_char ((c == 9) || (c == 10)) 32 (picture c) (λ e. refl)
    (λ e. if_char (is_printable_char c) c (if nat_lt c 32 then 0x2400 + c else if c == 127 then 0x2421 else 0xFFFD) (λ e. h)
    (λ e. if_char (nat_lt c 32) (0x2400 + c) (if c == 127 then 0x2421 else 0xFFFD) (λ e. picture_low c e) (λ e. if_char (c == 127) 0x2421 0xFFFD (λ e. refl) (λ e. refl))))

-- so are characters
pub shown_are_chars : (cs : List ℕ) → AreChars cs → AreChars (map shown_char cs)
shown_are_chars [] h = tt
shown_are_chars (c ∷ cs) h = (shown_is_char c h.0, shown_are_chars cs h.1)

-- so is a text
pub text_chars : (text : List ℕ) → IsUtf8 text → AreChars (shown_text text)
text_chars text utf8 = shown_are_chars (chars text) (from_scalars (chars text) (scalars-chars text utf8))

-- ---- bytes that are made a text

front_by : (t : Bool) (bs : List ℕ) (m : ℕ) → is_utf8 (take (suc m) bs) ≡ t → IsUtf8 (take (valid_len_up_to bs m) bs) → IsUtf8 (take (if t then suc m else valid_len_up_to bs m) bs)
front_by true bs m is h = IsUtf8-from_is_utf8 (take (suc m) bs) is
front_by false bs m is h = h

front_valid : (bs : List ℕ) (m : ℕ) → IsUtf8 (take (valid_len_up_to bs m) bs)
front_valid bs zero = IsUtf8-nil
front_valid bs (suc m) = front_by (is_utf8 (take (suc m) bs)) bs m refl (front_valid bs m)

valid_utf8 : (bs : List ℕ) → IsUtf8 (take (utf8_valid_len bs) bs)
unfolding utf8_valid_len
valid_utf8 bs = front_valid bs (length bs)

replacement_utf8 : IsUtf8 replacement_bytes
unfolding lib.Utf8.encode
replacement_utf8 = (0xFFFD ∷ [], (refl, refl))

choice : {A : Type 0} (P : A → Type 0) (t : Bool) (a b : A) → P a → P b → P (if t then a else b)
choice P true a b h k = h
choice P false a b h k = k

-- an invalid sequence has a byte, where there is one
invalid_some : (bs : List ℕ) → 0 < length bs → 0 < utf8_invalid_len bs
unfolding utf8_error_len
invalid_some bs some =
    let P : Option ℕ → Type 0 = λ o. 0 < unwrap_or o (length bs) in
    let one : P (Some 1) = omega arith in
    let two : P (Some 2) = omega arith in
    let three : P (Some 3) = omega arith in
    let x : ℕ = slice_index bs 0 in
    let third : Bool = is_in_range 0x80 0xBF (slice_index bs 2) in
    let after_three = choice P (nat_lt (length bs) 4) None (Some 3) some three in
    let after_two : P (error_len_after_two bs) =
    choice P (nat_lt (length bs) 3) None (if third then (if nat_lt (length bs) 4 then None else Some 3) else Some 2) some
    (choice P third (if nat_lt (length bs) 4 then None else Some 3) (Some 2) after_three two) in
    let second : Bool = is_in_range (second_byte_min x) (second_byte_max x) (slice_index bs 1) in
    let after_one : P (error_len_after_one bs) =
    choice P (nat_lt (length bs) 2) None (if second then error_len_after_two bs else Some 1) some (choice P second (error_len_after_two bs) (Some 1) after_two one) in
    choice P (length bs == 0) None (error_len_of_some bs) some (choice P (is_in_range 0xC2 0xF4 x) (error_len_after_one bs) (Some 1) after_one one)

shorter : (bs : List ℕ) → (utf8_valid_len bs ≡ length bs → ⊥) → length (after_first_chunk bs) < length bs
shorter bs faulty =
    let n : ℕ = utf8_valid_len bs in
    let within = utf8_valid_len_le bs in
    let invalid = invalid_some (drop n bs) (omega (arith, length-drop n bs)) in
    omega (arith, length-drop (n + utf8_invalid_len (drop n bs)) bs)

lossy_within : (n : ℕ) (bs : List ℕ) → length bs ≤ n → IsUtf8 (utf8_lossy bs)
lossy_within zero [] few = subst IsUtf8 (sym (utf8_lossy-IsUtf8 [] IsUtf8-nil)) IsUtf8-nil
lossy_within zero (b ∷ bs) few = absurd (omega (arith, few))
lossy_within (suc n) bs few =
    ⊎_elim
    (λ (whole : utf8_valid_len bs ≡ length bs).
    let own : IsUtf8 bs = subst IsUtf8 (ap (λ k. take k bs) whole ∙ take-length bs) (valid_utf8 bs) in
    subst IsUtf8 (sym (utf8_lossy-IsUtf8 bs own)) own)
    (λ (faulty : utf8_valid_len bs ≡ length bs → ⊥).
    let less = shorter bs faulty in
    subst IsUtf8 (sym (utf8_lossy_step bs faulty))
    (IsUtf8-append (take (utf8_valid_len bs) bs) (replacement_bytes ++ utf8_lossy (after_first_chunk bs)) (valid_utf8 bs)
    (IsUtf8-append replacement_bytes (utf8_lossy (after_first_chunk bs)) replacement_utf8 (lossy_within n (after_first_chunk bs) (omega (arith, less, few))))))
    (cases_eq (utf8_valid_len bs) (length bs))

-- bytes are made a text, whatever they are
pub lossy_utf8 : (bs : List ℕ) → IsUtf8 (utf8_lossy bs)
lossy_utf8 bs = lossy_within (length bs) bs (omega arith)

-- ---- parts of a text

part_utf8 : (text : List ℕ) (at len : ℕ) → IsUtf8 text → IsCharBoundary text at → IsCharBoundary text (at + len) → IsUtf8 (part text at len)
part_utf8 text at len utf8 begin end =
    let own : IsUtf8 (take (at + len - at) (drop at text)) = IsUtf8-between text at (at + len) utf8 (omega arith) begin end in
    let same : at + len - at ≡ len = omega arith in
    subst (λ k. IsUtf8 (take k (drop at text))) same own

space_small : (b : ℕ) → is_space b ≡ true → b < 128
space_small b h = grind (arith, nat_tests)

padded_ends : (bytes : List ℕ) → is_padded bytes ≡ true → (get_or bytes 0 0 < 128) × (get_or bytes (length bytes - 1) 0 < 128)
padded_ends bytes h =
    let some : _ = not (length bytes == 0) in
    let begin : _ = is_space (get_or bytes 0 0) in
    let end : _ = is_space (get_or bytes (length bytes - 1) 0) in
    let p = and_parts (some && begin && end) (not (list_all is_space bytes)) h in
    let q = and_parts (some && begin) end p.0 in
    let r = and_parts some begin q.0 in
    (space_small (get_or bytes 0 0) r.1, space_small (get_or bytes (length bytes - 1) 0) q.1)

inside_utf8 : (bytes : List ℕ) → IsUtf8 bytes → 2 ≤ length bytes → get_or bytes 0 0 < 128 → get_or bytes (length bytes - 1) 0 < 128 → IsUtf8 (drop 1 (take (length bytes - 1) bytes))
inside_utf8 [] utf8 two first last = absurd (omega (arith, two))
inside_utf8 (b ∷ bs) utf8 two first last =
    let n : ℕ = length (b ∷ bs) - 2 in
    let most : length (b ∷ bs) - 1 ≡ suc n = omega (arith, two) in
    let left : length (b ∷ bs) - 1 - 1 ≡ n = omega (arith, two) in
    let own : IsUtf8 (take (length (b ∷ bs) - 1 - 1) (drop 1 (b ∷ bs))) =
    IsUtf8-between (b ∷ bs) 1 (length (b ∷ bs) - 1) utf8 (omega (arith, two)) (IsCharBoundary-after_ascii (b ∷ bs) 0 utf8 (omega (arith, two)) first)
    (IsCharBoundary-before_ascii (b ∷ bs) (length (b ∷ bs) - 1) (omega (arith, two)) last) in
    subst (λ k. IsUtf8 (drop 1 (take k (b ∷ bs)))) (sym most) (subst (λ k. IsUtf8 (take k bs)) left own)

inner_by : (t : Bool) (bytes : List ℕ) → nat_lt (length bytes) 2 ≡ t → IsUtf8 bytes → is_padded bytes ≡ true → IsUtf8 (if t then bytes else drop 1 (take (length bytes - 1) bytes))
inner_by true bytes few utf8 padded = utf8
inner_by false bytes few utf8 padded = let ends = padded_ends bytes padded in inside_utf8 bytes utf8 (grind (arith, nat_tests, few)) ends.0 ends.1

padded_by : (t : Bool) (bytes : List ℕ) → is_padded bytes ≡ t → IsUtf8 bytes → IsUtf8 (if t then inner bytes else bytes)
padded_by true bytes padded utf8 = inner_by (nat_lt (length bytes) 2) bytes refl utf8 padded
padded_by false bytes padded utf8 = utf8

unpadded_utf8 : (bytes : List ℕ) → IsUtf8 bytes → IsUtf8 (unpadded bytes)
unpadded_utf8 bytes utf8 = padded_by (is_padded bytes) bytes refl utf8

-- ---- what pieces are

-- the characters that a piece stands for are ones
abbrev pub IsShownKind : Kind → Type 0
IsShownKind (ShownKind c second) = IsScalar c × IfSome second IsScalar
IsShownKind _ = Unit {0}

abbrev pub IsShownPiece : Piece → Type 0
IsShownPiece p = IsShownKind p.kind

if_piece : (t : Bool) (a b : Piece) → IsShownPiece a → IsShownPiece b → IsShownPiece (if t then a else b)
if_piece true a b h k = h
if_piece false a b h k = k

code_is : (rest : List ℕ) (found : _) → IsShownPiece (code_by rest found)
code_is rest None = tt
code_is rest (Some code) = tt

punctuation_char : (b : ℕ) → is_ascii_punctuation b ≡ true → IsScalar b
punctuation_char b h = low_scalar b (grind (arith, nat_tests, h))

sign_by : (t : Bool) (b : ℕ) → is_ascii_punctuation b ≡ t → IsShownPiece (escape_by (if t then SignEscape b else Itself))
sign_by true b h = (punctuation_char b h, tt)
sign_by false b h = tt

break_or : (t : Bool) (b : ℕ) → IsShownPiece (escape_by (if t then BreakEscape else if is_ascii_punctuation b then SignEscape b else Itself))
break_or true b = tt
break_or false b = sign_by (is_ascii_punctuation b) b refl

escape_is : (after : List ℕ) → IsShownPiece (escape_piece after)
escape_is [] = tt
escape_is (b ∷ bs) = break_or (b == 10) b

entity_found : (found : Option Entity) → IfSome found IsCharEntity → IsShownPiece (entity_by found)
entity_found None h = tt
entity_found (Some e) h = (h.shown, h.second)

entity_is : (after : List ℕ) → IsShownPiece (entity_piece after)
entity_is after = entity_found (entity_of after) (entity_chars after)

html_is : (after : List ℕ) → IsShownPiece (html_piece after)
unfolding html_piece
html_is after = found (html_len after)
  where
    found : (len : Option ℕ) → IsShownPiece (html_by after len)
    found None = tt
    found (Some len) = tt

angle_found : (after : List ℕ) (len : Option ℕ) → IsShownPiece (angle_by after len)
angle_found after None = html_is after
angle_found after (Some len) = tt

break_is : (rest : List ℕ) → IsShownPiece (break_piece rest)
break_is rest =
    let blanks : ℕ = prefix_len is_blank_byte rest in
    if_piece (is_hard rest blanks) (piece Hard blanks) (piece Soft blanks) tt tt

plain_is : (free : Bool) (before : Option ℕ) (b : ℕ) (rest : List ℕ) → IsShownPiece (plain_piece free before b rest)
unfolding plain_piece
plain_is free before b rest = found (bare_if free before rest)
  where
    found : (bare : _) → IsShownPiece (plain_by bare free b rest)
    found None = tt
    found (Some bare) = tt

no_mark_is : (free : Bool) (before : Option ℕ) (b : ℕ) (rest : List ℕ) → IsShownPiece (no_mark_piece free before b rest)
no_mark_is free before b rest = if_piece (ends_line rest) (break_piece rest) (plain_piece free before b rest) (break_is rest) (plain_is free before b rest)

-- an angle bracket, or a byte that is no mark
low_is : (t : Bool) (free : Bool) (before : Option ℕ) (b : ℕ) (rest : List ℕ) → IsShownPiece (if t then angle_piece (drop 1 rest) else no_mark_piece free before b rest)
low_is true free before b rest = angle_found (drop 1 rest) (address_len (drop 1 rest))
low_is false free before b rest = no_mark_is free before b rest

-- an entity, or one of these
entity_or_low : (t low : Bool) (free : Bool) (before : Option ℕ) (b : ℕ) (rest : List ℕ) → IsShownPiece (if t then entity_piece (drop 1 rest) else if low then angle_piece (drop 1 rest) else no_mark_piece free before b rest)
entity_or_low true low free before b rest = entity_is (drop 1 rest)
entity_or_low false low free before b rest = low_is low free before b rest

-- an escape, or one of these
escape_or_low : (t entity low : Bool) (free : Bool) (before : Option ℕ) (b : ℕ) (rest : List ℕ)
    → IsShownPiece (if t then escape_piece (drop 1 rest) else if entity then entity_piece (drop 1 rest) else if low then angle_piece (drop 1 rest) else no_mark_piece free before b rest)
escape_or_low true entity low free before b rest = escape_is (drop 1 rest)
escape_or_low false entity low free before b rest = entity_or_low entity low free before b rest

piece_is : (free : Bool) (text : List ℕ) (at : ℕ) (rest : List ℕ) → IsShownPiece (piece_at free text at rest)
unfolding piece_at
piece_is free text at rest =
    let b : ℕ = slice_index text at in
    by_sign (b == 96) (b == 42) (b == 95) (b == 126) (b == 92) (b == 38) (b == 60) b
  where
    by_sign : (code star underscore tilde escape entity angle : Bool) (b : ℕ)
        → IsShownPiece (if code then code_piece rest else if star then run_piece Star text at rest else if underscore then run_piece Underscore text at rest else if tilde then run_piece Tilde text at rest else if escape then escape_piece (drop 1 rest) else if entity then entity_piece (drop 1 rest) else if angle then angle_piece (drop 1 rest) else no_mark_piece free (byte_before text at) b rest)
    by_sign true star underscore tilde escape entity angle b = code_is rest (code_of rest)
    by_sign false true underscore tilde escape entity angle b = tt
    by_sign false false true tilde escape entity angle b = tt
    by_sign false false false true escape entity angle b = tt
    by_sign false false false false escape entity angle b = escape_or_low escape entity angle free (byte_before text at) b rest

if_step : (t : Bool) (a b : Step) → IsShownPiece a.piece → IsShownPiece b.piece → IsShownPiece (if t then a else b).piece
if_step true a b h k = h
if_step false a b h k = k

step_is : (labels : List (List ℕ)) (text : List ℕ) (at index : ℕ) (r : Reading) (rest : List ℕ) → IsShownPiece (step labels text at index r rest).piece
unfolding step
step_is labels text at index r rest =
    let b : ℕ = slice_index text at in
    if_step (b == 91) (opening_step false (at + 1) index 0 r) _ tt
    (if_step ((b == 33) && (first (drop (at + 1) text) == 91)) (opening_step true (at + 2) index 1 r) _ tt
    (if_step (b == 93) (closing_step (closed labels text (at + 1) r)) (other_step text at index r rest) tt (piece_is (is_free r.brackets) text at rest)))

cut_is : (labels : List (List ℕ)) (text : List ℕ) (skip at index : ℕ) (r : Reading) (bs : List ℕ) → AllByRecursion IsShownPiece (cut_from labels text skip at index r bs).pieces
unfolding cut_from
cut_is labels text skip at index r [] = tt
cut_is labels text zero at index r (b ∷ bs) =
    let s : Step = step labels text at index r (b ∷ bs) in
    (step_is labels text at index r (b ∷ bs), cut_is labels text s.piece.more (at + 1) (index + 1) s.reading bs)
cut_is labels text (suc skip) at index r (b ∷ bs) = cut_is labels text skip (at + 1) index r bs

-- ---- what is shown of pieces

html_chars : (html : Html) (text : List ℕ) (at : ℕ) → AreChars (html_shown html text at)
html_chars Nothing text at = tt
html_chars Break text at = (refl, tt)
html_chars (Alternative value) text at = text_chars (alternative_text (drop (at + 1) text) value) (lossy_utf8 _)
html_chars (Source value) text at = text_chars (source_name (drop (at + 1) text) value) (lossy_utf8 _)
html_chars (On flag) text at = tt
html_chars (Off flag) text at = tt
html_chars (LinkTag value) text at = tt
html_chars LinkEnd text at = tt

opening_chars : (image opens : Bool) → AreChars (opening_shown image opens)
opening_chars true true = tt
opening_chars false true = tt
opening_chars true false = (refl, (refl, tt))
opening_chars false false = (refl, tt)

closing_chars : (link : Option Link) → AreChars (closing_shown link)
closing_chars None = (refl, tt)
closing_chars (Some link) = tt

times_chars : (n c : ℕ) → IsScalar c → AreChars (replicate n c)
times_chars zero c h = tt
times_chars (suc n) c h = (h, times_chars n c h)

sign_is : (s : Sign) → IsScalar (sign_char s)
sign_is Star = refl
sign_is Underscore = refl
sign_is Tilde = refl

kind_chars : (kind : Kind) (text : List ℕ) (at more left : ℕ) (opens : Bool) → IsUtf8 text → IsCharBoundary text at → IsInside text at kind → IsCharBoundary text (at + (more + 1)) → IsShownKind kind → AreChars (kind_characters kind text at more left opens)
kind_chars Plain text at more left opens utf8 begin inside end own = text_chars _ (part_utf8 text at (more + 1) utf8 begin end)
kind_chars (ShownKind c None) text at more left opens utf8 begin inside end own = (shown_is_char c own.0, tt)
kind_chars (ShownKind c (Some d)) text at more left opens utf8 begin inside end own = (shown_is_char c own.0, (shown_is_char d own.1, tt))
kind_chars (CodeKind code) text at more left opens utf8 begin inside end own = text_chars _ (unpadded_utf8 _ (part_utf8 text (at + code.marks) code.len utf8 inside.0 inside.1))
kind_chars (Address len scheme) text at more left opens utf8 begin inside end own = text_chars _ (part_utf8 text (at + 1) len utf8 inside.0 inside.1)
kind_chars (Bare scheme) text at more left opens utf8 begin inside end own = text_chars _ (part_utf8 text at (more + 1) utf8 begin end)
kind_chars (HtmlKind html) text at more left opens utf8 begin inside end own = html_chars html text at
kind_chars Soft text at more left opens utf8 begin inside end own = (refl, tt)
kind_chars Hard text at more left opens utf8 begin inside end own = (refl, tt)
kind_chars (RunKind run) text at more left opens utf8 begin inside end own = times_chars left (sign_char run.sign) (sign_is run.sign)
kind_chars (Opening image) text at more left opens utf8 begin inside end own = opening_chars image opens
kind_chars (Closing link) text at more left opens utf8 begin inside end own = closing_chars link

target_utf8 : (link : Link) (text : List ℕ) (at : ℕ) → IsUtf8 (target_name link.target text at)
target_utf8 link text at = by_definition link.target.definition
  where
    by_definition : (definition : Option ℕ) → IsUtf8 (name_by definition (part text at link.target.len))
    by_definition None = lossy_utf8 _
    by_definition (Some index) = IsUtf8-nil

name_chars : (silent : Bool) (kind : Kind) (text : List ℕ) (at : ℕ) → AreChars (name_shown silent kind text at)
name_chars false kind text at = tt
name_chars true Plain text at = tt
name_chars true (ShownKind c second) text at = tt
name_chars true (CodeKind code) text at = tt
name_chars true (Address len scheme) text at = tt
name_chars true (Bare scheme) text at = tt
name_chars true (HtmlKind html) text at = tt
name_chars true Soft text at = tt
name_chars true Hard text at = tt
name_chars true (RunKind run) text at = tt
name_chars true (Opening image) text at = tt
name_chars true (Closing None) text at = tt
name_chars true (Closing (Some link)) text at = text_chars (target_name link.target text (at + 1)) (target_utf8 link text (at + 1))

-- a character that is shown is one
abbrev pub IsShownChar : Shown → Type 0
IsShownChar s = IsScalar s.char

looking : (look : Look) (cs : List ℕ) → AreChars cs → AllByRecursion IsShownChar (map (shown_with look) cs)
looking look [] h = tt
looking look (c ∷ cs) h = (h.0, looking look cs h.1)

pieces_chars : (text : List ℕ) (at : ℕ) (ps : List Piece) (fs : List Flags) (ns : List ℕ) (os : List Over) → IsUtf8 text → IsCharBoundary text at → AreCut text at ps → AllByRecursion IsShownPiece ps → AllByRecursion IsShownChar (shown_from text at ps fs ns os)
unfolding shown_from
pieces_chars text at [] fs ns os utf8 begin cut own = tt
pieces_chars text at (p ∷ ps) [] ns os utf8 begin cut own = tt
pieces_chars text at (p ∷ ps) (f ∷ fs) [] os utf8 begin cut own = tt
pieces_chars text at (p ∷ ps) (f ∷ fs) (n ∷ ns) [] utf8 begin cut own = tt
pieces_chars text at (p ∷ ps) (f ∷ fs) (n ∷ ns) (o ∷ os) utf8 begin cut own =
    all_joined IsShownChar (shown_piece text at p f n o) (shown_from text (at + (p.more + 1)) ps fs ns os)
    (looking (look_at f p o) (piece_shown text at p n o)
    (all_joined IsScalar (characters text at p n o.opens) (name_shown o.silent p.kind text at) (kind_chars p.kind text at p.more n o.opens utf8 begin cut.0 cut.2 own.0) (name_chars o.silent p.kind text at)))
    (pieces_chars text (at + (p.more + 1)) ps fs ns os utf8 cut.2 cut.3 own.1)

-- each character that is shown of a text that was cut is one, where its pieces are texts of their own
pub cut_chars : (cut : CutText) (text : List ℕ) → IsUtf8 text → AreCut text 0 cut.pieces → AllByRecursion IsShownPiece cut.pieces → AllByRecursion IsShownChar (shown_cut cut text)
cut_chars cut text utf8 placed own =
    pieces_chars text 0 cut.pieces (flags_of (length cut.pieces) cut.pairs) (left_of cut.pairs cut.pieces) (all_over cut.pieces) utf8 (IsCharBoundary-start text utf8) placed own

-- so it is of a leaf's text
pub leaf_chars : (labels : List (List ℕ)) (text : List ℕ) → IsUtf8 text → AllByRecursion IsShownChar (leaf_text labels text)
leaf_chars labels text utf8 = cut_chars (cut_text labels text) text utf8 (text_placed labels text utf8) (cut_is labels text 0 0 0 nothing_read text)
