-- Tokens of plain bytes: each ends at the next border at the latest, and takes as many columns as bytes.
use Rattle.std.proofs.Common.{◌≡◌, ◌≢◌, ◌⊎◌, inl, inr, ℕ, zero, suc, ◌≤◌, ◌<◌, ◌+◌, ◌-◌, ◌==◌, ◌&&◌, not, Bool, true, false, List, [], ◌∷◌, ◌++◌, chars, length, drop, get_or, slice_range, refl, sym, ap, ◌∙◌, arith, subst}
use Rattle.std.proofs.lemmas.Bool.{cases_lt}
use Rattle.std.proofs.lemmas.Bool.Decides.{nat_tests}
use Rattle.std.proofs.lemmas.List.{drop_all, get_or-drop, get_or-take, at_drop_more, length-map}
use Rattle.std.proofs.lemmas.Str.{chars-nil, encode_ascii, chars_past_char, IsUtf8-past_char, IsUtf8-drop}
use Rattle.std.specs.Char.{encode_utf8, is_whitespace}
use Rattle.std.specs.List.{AllByRecursion}
use Rattle.std.specs.Str.{IsUtf8, IsCharBoundary}
use Rattle.mad_md.specs.Flagged.{Flags, FlaggedChar, flagged, flags_of, is_blank}
use Rattle.mad_md.specs.declared.compound.Compound.{Compound}
use Rattle.mad_measure.specs.Ascii.{AreSpacesOrGraphic}
use Rattle.mad_measure.specs.Chunks.{IsPlain, ArePlain, AreSteady, is_space_at, Changes, IsChunk}
use Rattle.mad_measure.specs.TextColumns.{columns}
use Rattle.mad_measure.specs.Tokens.{IsTokenAt, StopsBefore, token_text, flagged_token}
use Rattle.mad_measure.specs.declared.tokens.Token.{Token}
use Rattle.mad_characters.proofs.CharColumns.{char_columns-ascii}
use Rattle.mad_measure.proofs.AsciiFrontLemmas.{ascii_front_is}
use Rattle.mad_measure.proofs.FlaggedLemmas.{width_of-flagged}
use Rattle.mad_measure.proofs.TokenLemmas.{ends_at_border}
use Rattle.mad_measure.proofs.TokenTexts.{length-token_text}

-- a plain character is blank if it is a space that isn't code
white_if_space : (c : ℕ) → 31 < c → c < 127 → is_whitespace c ≡ (c == 32)
white_if_space c low high = grind (arith, nat_tests)

-- each of the plain bytes at the front is as blank as all are
alike_at : (m : ℕ) (bs : List ℕ) (f : Flags) (blank : Bool) → IsUtf8 bs → m ≤ length bs → AreSpacesOrGraphic bs m → AllByRecursion (λ x. is_blank x ≡ blank) (flagged f (chars bs))
    → (k : ℕ) → k < m → ((get_or bs k 0 == 32) && not f.code) ≡ blank
alike_at zero bs f blank utf8 inside plain all k l = absurd (omega (arith, l))
alike_at (suc m) [] f blank utf8 inside plain all k l = absurd (omega (arith, inside))
alike_at (suc m) (c ∷ rest) f blank utf8 inside plain all zero l =
    let is = plain 0 (omega arith) in
    let parts : c ∷ rest ≡ encode_utf8 c ++ rest = ap (λ l. l ++ rest) (sym (encode_ascii c (omega (arith, is.1)))) in
    let step : chars (c ∷ rest) ≡ c ∷ chars rest = chars_past_char (c ∷ rest) rest c utf8 parts in
    let each = subst (λ (cs : List ℕ). AllByRecursion (λ x. is_blank x ≡ blank) (flagged f cs)) step all in
    ap (λ w. w && not f.code) (sym (white_if_space c is.0 is.1)) ∙ each.0
alike_at (suc m) (c ∷ rest) f blank utf8 inside plain all (suc k) l =
    let is = plain 0 (omega arith) in
    let parts : c ∷ rest ≡ encode_utf8 c ++ rest = ap (λ l. l ++ rest) (sym (encode_ascii c (omega (arith, is.1)))) in
    let step : chars (c ∷ rest) ≡ c ∷ chars rest = chars_past_char (c ∷ rest) rest c utf8 parts in
    let each = subst (λ (cs : List ℕ). AllByRecursion (λ x. is_blank x ≡ blank) (flagged f cs)) step all in
    alike_at m rest f blank (IsUtf8-past_char (c ∷ rest) rest c utf8 parts) (omega (arith, inside)) (λ j s. plain (suc j) (omega (arith, s))) each.1 k (omega (arith, l))

-- the bytes of a token are those of its compound
byte_of : (max at : ℕ) (p : Compound) (t : Token) → IsTokenAt max p at t → (k : ℕ) → k < t.end_in_compound - at → get_or (token_text t) k 0 ≡ get_or p.src.now (at + k) 0
byte_of max at p t is k l =
    ap (λ (q : Compound). get_or (slice_range q.src.now t.start_in_compound t.end_in_compound) k 0) is.part_of
    ∙ ap (λ n. get_or (slice_range p.src.now n t.end_in_compound) k 0) is.begins
    ∙ get_or-take (t.end_in_compound - at) (drop at p.src.now) k 0 l
    ∙ get_or-drop at p.src.now k 0

size_of : (max at : ℕ) (p : Compound) (t : Token) → IsTokenAt max p at t → length (token_text t) ≡ t.end_in_compound - at
size_of max at p t is = omega (arith, length-token_text t is.within, is.begins)

-- plain bytes in a token are as blank as the token
blank_at : (max at m : ℕ) (p : Compound) (t : Token) → IsTokenAt max p at t → ArePlain p.src.now at (at + m) → at + m ≤ t.end_in_compound → (k : ℕ) → k < m → (is_space_at p.src.now (at + k) && not p.code) ≡ t.blank
blank_at max at m p t is plain inside k l =
    let here : AreSpacesOrGraphic (token_text t) m = λ j s. subst IsPlain (sym (byte_of max at p t is j (omega (arith, s, inside)))) (plain (at + j) (omega arith) (omega (arith, s))) in
    let same = alike_at m (token_text t) (flags_of t.compound) t.blank is.within.utf8 (omega (arith, size_of max at p t is, inside)) here is.alike.alike k l in
    ap (λ b. (b == 32) && not p.code) (sym (byte_of max at p t is k (omega (arith, l, inside)))) ∙ ap (λ (q : Compound). (get_or (token_text t) k 0 == 32) && not q.code) (sym is.part_of) ∙ same

and_not : (b code : Bool) → code ≡ false → (b && not code) ≡ b
and_not true code e = ap not e
and_not false code e = refl

-- blankness doesn't change inside a token
changes_in : (max at end : ℕ) (p : Compound) (t : Token) → IsTokenAt max p at t → at < end → ArePlain p.src.now at end
    → (p.code ≡ false) × (end < length p.src.now) × IsPlain (get_or p.src.now end 0) × Changes p.src.now end → end < t.end_in_compound → ⊥
changes_in max at end p t is some plain border past =
    let bs = p.src.now in
    let n = end - at in
    let last : at + n ≡ end = omega (arith, some) in
    let before : at + (n - 1) ≡ end - 1 = omega (arith, some) in
    let more : ArePlain bs at (at + (n + 1)) = λ k low high. elim (cases_lt k end) as (λ _. IsPlain (get_or bs k 0)) [
      | inl less ↦ plain k low less
      | inr later ↦ let same : end ≡ k = omega (arith, later, high, last) in subst (λ j. IsPlain (get_or bs j 0)) same border.2
    ] in
    let uncoded : (b : Bool) → (b && not p.code) ≡ b = λ b. and_not b p.code border.0 in
    let here = blank_at max at (n + 1) p t is more (omega (arith, past, last)) n (omega arith) in
    let there = blank_at max at (n + 1) p t is more (omega (arith, past, last)) (n - 1) (omega (arith, some)) in
    border.3 (ap (is_space_at bs) (sym before) ∙ sym (uncoded (is_space_at bs (at + (n - 1)))) ∙ there ∙ sym here ∙ uncoded (is_space_at bs (at + n)) ∙ ap (is_space_at bs) last)

-- it doesn't go past a border
pub ends_by : (max at end : ℕ) (p : Compound) (t : Token) → IsTokenAt max p at t → at < end → IsChunk p.src.now p.code at end → t.end_in_compound ≤ end
ends_by max at end p t is some chunk = elim (cases_lt end t.end_in_compound) as (λ _. t.end_in_compound ≤ end) [
  | inr within ↦ within
  | inl past ↦ elim chunk.ends as (λ _. t.end_in_compound ≤ end) [
    | inl all ↦ absurd (omega (arith, all, past, is.within.end.0, ap (λ (q : Compound). length q.src.now) is.part_of))
    | inr border ↦ absurd (changes_in max at end p t is some chunk.plain border past)
  ]
]

-- it takes a column for each byte
pub width_by : (max at : ℕ) (p : Compound) (t : Token) → IsTokenAt max p at t → ArePlain p.src.now at t.end_in_compound → t.width ≡ t.end_in_compound - at
width_by max at p t is plain =
    let n = length (token_text t) in
    let size = size_of max at p t is in
    let here : AreSpacesOrGraphic (token_text t) n = λ k l. subst IsPlain (sym (byte_of max at p t is k (omega (arith, l, size)))) (plain (at + k) (omega arith) (omega (arith, l, size))) in
    let front = ascii_front_is (token_text t) n is.within.utf8 (omega arith) here in
    let none : columns (chars (drop n (token_text t))) ≡ 0 = ap (λ (bs : List ℕ). columns (chars bs)) (drop_all n (token_text t) (omega arith)) ∙ ap columns chars-nil in
    omega (arith, is.alike.counts, width_of-flagged (flags_of t.compound) (chars (token_text t)), front.columns_are, none, size)

-- plain bytes of it take a column each
width_from : (max at n : ℕ) (p : Compound) (t : Token) → IsTokenAt max p at t → ArePlain p.src.now at (at + n) → at + n ≤ t.end_in_compound → n ≤ t.width
width_from max at n p t is plain inside =
    let size = size_of max at p t is in
    let here : AreSpacesOrGraphic (token_text t) n = λ k l. subst IsPlain (sym (byte_of max at p t is k (omega (arith, l, inside)))) (plain (at + k) (omega arith) (omega (arith, l))) in
    let front = ascii_front_is (token_text t) n is.within.utf8 (omega (arith, size, inside)) here in
    omega (arith, is.alike.counts, width_of-flagged (flags_of t.compound) (chars (token_text t)), front.columns_are)

-- its first byte says whether it is blank
pub blank_by : (max at : ℕ) (p : Compound) (t : Token) → IsTokenAt max p at t → IsPlain (get_or p.src.now at 0) → (is_space_at p.src.now at && not p.code) ≡ t.blank
blank_by max at p t is plain =
    let spot : at + 0 ≡ at = omega arith in
    let one : ArePlain p.src.now at (at + 1) = λ k low high. let same : at ≡ k = omega (arith, low, high) in subst (λ j. IsPlain (get_or p.src.now j 0)) same plain in
    ap (λ n. is_space_at p.src.now n && not p.code) (sym spot) ∙ blank_at max at 1 p t is one (omega (arith, is.begins, is.within.some)) 0 (omega arith)

-- what comes after it, a plain byte, is of another blankness or passes the limit
stops_by : (max at : ℕ) (p : Compound) (t : Token) → IsTokenAt max p at t → t.end_in_compound < length p.src.now → IsUtf8 (drop t.end_in_compound p.src.now) → IsPlain (get_or p.src.now t.end_in_compound 0)
    → ((is_space_at p.src.now t.end_in_compound && not p.code) ≢ t.blank) ⊎ (max < t.width + 1)
stops_by max at p t is inside utf8 plain =
    let bs = p.src.now in
    let end = t.end_in_compound in
    let c = get_or bs end 0 in
    let back = drop (end + 1) bs in
    let parts : drop end bs ≡ encode_utf8 c ++ back = at_drop_more (λ l. l) bs end 0 inside ∙ ap (λ l. l ++ back) (sym (encode_ascii c (omega (arith, plain.1)))) in
    let step : chars (drop end bs) ≡ c ∷ chars back = chars_past_char (drop end bs) back c utf8 parts in
    let why = subst (λ (cs : List ℕ). StopsBefore max t.blank t.width (flagged (flags_of p) cs)) step is.stops in
    elim why as (λ _. ((is_space_at bs end && not p.code) ≢ t.blank) ⊎ (max < t.width + 1)) [
      | inl differs ↦ inl (λ e. differs (ap (λ w. w && not p.code) (white_if_space c plain.0 plain.1) ∙ e))
      | inr passes ↦ inr (omega (arith, passes, char_columns-ascii c plain.0 plain.1))
    ]

-- where blankness stays, a token ends only at the limit
ends_at_limit : (max at last : ℕ) (p : Compound) (t : Token) → IsTokenAt max p at t → IsUtf8 p.src.now → last < length p.src.now → ArePlain p.src.now at (last + 1) → AreSteady p.src.now at last (last + 1)
    → t.end_in_compound ≤ last → max ≤ t.width
ends_at_limit max at last p t is utf8 inside plain steady early =
    let bs = p.src.now in
    let end = t.end_in_compound in
    let some : at < end = omega (arith, is.begins, is.within.some) in
    let border : IsCharBoundary bs end = ends_at_border max at p t is in
    let here = plain end (omega (arith, some)) (omega (arith, early)) in
    elim (stops_by max at p t is (omega (arith, early, inside)) (IsUtf8-drop bs end utf8 border) here) as (λ _. max ≤ t.width) [
      | inr passes ↦ omega (arith, passes)
      | inl differs ↦
          let n = end - at in
          let spot : at + (n - 1) ≡ end - 1 = omega (arith, some) in
          let own = blank_at max at n p t is (λ k low high. plain k low (omega (arith, high, early, some))) (omega (arith, some)) (n - 1) (omega (arith, some)) in
          absurd (differs (ap (λ b. b && not p.code) (sym (steady end some early (omega (arith, early)))) ∙ ap (λ m. is_space_at bs m && not p.code) (sym spot) ∙ own))
    ]

-- it is wider than a room in which blankness stays, and that is narrower than the limit
pub wider : (max at room : ℕ) (p : Compound) (t : Token) → IsTokenAt max p at t → IsUtf8 p.src.now → at + room < length p.src.now → ArePlain p.src.now at (at + room + 1) → AreSteady p.src.now at (at + room) (at + room + 1)
    → room < max → room < t.width
wider max at room p t is utf8 inside plain steady narrow = elim (cases_lt (at + room) t.end_in_compound) as (λ _. room < t.width) [
  | inl past ↦ omega (arith, width_from max at (room + 1) p t is (λ k low high. plain k low (omega (arith, high))) (omega (arith, past)))
  | inr early ↦ omega (arith, narrow, ends_at_limit max at (at + room) p t is utf8 inside plain steady early)
]

chars_from : (m : ℕ) (bs : List ℕ) → IsUtf8 bs → m ≤ length bs → AreSpacesOrGraphic bs m → m ≤ length (chars bs)
chars_from zero bs utf8 inside plain = omega arith
chars_from (suc m) [] utf8 inside plain = absurd (omega (arith, inside))
chars_from (suc m) (c ∷ rest) utf8 inside plain =
    let is = plain 0 (omega arith) in
    let parts : c ∷ rest ≡ encode_utf8 c ++ rest = ap (λ l. l ++ rest) (sym (encode_ascii c (omega (arith, is.1)))) in
    let step : chars (c ∷ rest) ≡ c ∷ chars rest = chars_past_char (c ∷ rest) rest c utf8 parts in
    omega (arith, ap length step, chars_from m rest (IsUtf8-past_char (c ∷ rest) rest c utf8 parts) (omega (arith, inside)) (λ j s. plain (suc j) (omega (arith, s))))

-- two plain bytes are two characters
several_chars : (max at : ℕ) (p : Compound) (t : Token) → IsTokenAt max p at t → 0 < max → ArePlain p.src.now at (at + max + 1) → at + max < t.end_in_compound → 1 < length (flagged_token t)
several_chars max at p t is some plain past =
    let size = size_of max at p t is in
    let here : AreSpacesOrGraphic (token_text t) 2 = λ k l. subst IsPlain (sym (byte_of max at p t is k (omega (arith, l, past, some)))) (plain (at + k) (omega arith) (omega (arith, l, some))) in
    omega (arith, chars_from 2 (token_text t) is.within.utf8 (omega (arith, size, past, some)) here, length-map {B = FlaggedChar} (chars (token_text t)) (λ c. record { char = c; flags = flags_of t.compound }))

-- several characters take the limit at most
too_wide : (max at : ℕ) (p : Compound) (t : Token) → IsTokenAt max p at t → 0 < max → ArePlain p.src.now at (at + max + 1) → at + max < t.end_in_compound → ⊥
too_wide max at p t is some plain past =
    let width : max + 1 ≤ t.width = width_from max at (max + 1) p t is (λ k low high. plain k low (omega (arith, high))) (omega (arith, past)) in
    let several : 1 < length (flagged_token t) = several_chars max at p t is some plain past in
    omega (arith, width, is.alike.within several)

-- it takes the limit where blankness stays so far
pub cut_at : (max at : ℕ) (p : Compound) (t : Token) → IsTokenAt max p at t → IsUtf8 p.src.now → 0 < max → at + max < length p.src.now → ArePlain p.src.now at (at + max + 1) → AreSteady p.src.now at (at + max) (at + max + 1)
    → (t.end_in_compound ≡ at + max) × (t.width ≡ max)
cut_at max at p t is utf8 some inside plain steady =
    let all : t.end_in_compound ≤ at + max = elim (cases_lt (at + max) t.end_in_compound) as (λ _. t.end_in_compound ≤ at + max) [
      | inr within ↦ within
      | inl past ↦ absurd (too_wide max at p t is some (λ k low high. plain k low (omega (arith, high))) past)
    ] in
    let width : t.width ≡ t.end_in_compound - at = width_by max at p t is (λ k low high. plain k low (omega (arith, high, all))) in
    let least : max ≤ t.width = ends_at_limit max at (at + max) p t is utf8 inside plain steady all in
    (omega (arith, all, width, least, some), omega (arith, all, width, least))
