-- Each text has tokens.
use Rattle.std.proofs.Common.{◌≡◌, ◌≢◌, ◌⊎◌, inl, inr, ℕ, zero, suc, ◌≤◌, ◌<◌, ◌+◌, ◌-◌, Bool, true, false, List, [], ◌∷◌, ◌++◌, chars, length, drop, refl, sym, ap, ◌∙◌, arith, subst, encode_utf8_all}
use Rattle.std.proofs.lemmas.Bool.{cases_lt}
use Rattle.std.proofs.lemmas.List.{length-drop}
use Rattle.std.proofs.lemmas.Str.{chars_past_char, drop_past_char, encodes-chars, len_utf8_bounds, IsUtf8-drop, IsCharBoundary-start}
use Rattle.std.specs.Char.{encode_utf8, len_utf8}
use Rattle.std.specs.List.{AllByRecursion}
use Rattle.std.specs.Str.{IsUtf8, IsCharBoundary}
use Rattle.mad_characters.specs.Columns.{char_columns}
use Rattle.mad_characters.proofs.CharColumns.{char_columns-le}
use Rattle.mad_md.specs.Flagged.{Flags, flagged, flags_of, is_blank}
use Rattle.mad_md.specs.declared.compound.Compound.{Compound}
use Rattle.mad_measure.specs.Tokens.{StopsBefore, IsTokenAt, AreTokensFrom, AreTokensOf}
use Rattle.mad_measure.specs.declared.tokens.Token.{Token}
use Rattle.mad_measure.proofs.TokenLemmas.{IsFront, front_start, front_more, stops_at, token_is, ends_at_border}

-- a front of the text that can't take in what comes next
record Grown (max : ℕ) (f : Flags) (bs : List ℕ) : Type 0 where
  pub end : ℕ
  pub blank : Bool
  pub width : ℕ
  pub some : 0 < end
  pub front : IsFront max f bs end blank width
  pub stops : StopsBefore max blank width (flagged f (chars (drop end bs)))

bool_cases : (a b : Bool) → (a ≡ b) ⊎ (a ≢ b)
bool_cases true true = inl refl
bool_cases true false = inr (λ e. cc)
bool_cases false true = inr (λ e. cc)
bool_cases false false = inl refl

-- the next character is taken in or not
takes : (max width c : ℕ) (b blank : Bool) → ((b ≡ blank) × (width + char_columns c ≤ max)) ⊎ ((b ≢ blank) ⊎ (max < width + char_columns c))
takes max width c b blank = elim (bool_cases b blank) as (λ _. ((b ≡ blank) × (width + char_columns c ≤ max)) ⊎ ((b ≢ blank) ⊎ (max < width + char_columns c))) [
  | inr differs ↦ inr (inl differs)
  | inl same ↦ elim (cases_lt max (width + char_columns c)) as (λ _. ((b ≡ blank) × (width + char_columns c ≤ max)) ⊎ ((b ≢ blank) ⊎ (max < width + char_columns c))) [
    | inl passes ↦ inr (inr passes)
    | inr fits ↦ inl (same, fits)
  ]
]

-- what the text goes on with, and what is left after its first character
first_part : (bs : List ℕ) (c : ℕ) (cs : List ℕ) → IsUtf8 bs → chars bs ≡ c ∷ cs → bs ≡ encode_utf8 c ++ encode_utf8_all cs
first_part bs c cs utf8 e = sym (encodes-chars bs utf8) ∙ ap encode_utf8_all e

left_after : (bs : List ℕ) (end c : ℕ) (cs : List ℕ) → IsUtf8 (drop end bs) → chars (drop end bs) ≡ c ∷ cs → chars (drop (end + len_utf8 c) bs) ≡ cs
left_after bs end c cs utf8 e =
    let parts = first_part (drop end bs) c cs utf8 e in
    let step = chars_past_char (drop end bs) (encode_utf8_all cs) c utf8 parts in
    let same : c ∷ chars (encode_utf8_all cs) ≡ c ∷ cs = sym step ∙ e in
    let rest : chars (encode_utf8_all cs) ≡ cs = cc in
    ap chars (drop_past_char bs (encode_utf8_all cs) end c parts) ∙ rest

grow : (cs : List ℕ) (max : ℕ) (f : Flags) (bs : List ℕ) (end width : ℕ) (blank : Bool) → chars (drop end bs) ≡ cs → IsFront max f bs end blank width → 0 < end → Grown max f bs
grow [] max f bs end width blank e front some =
    record { end = end; blank = blank; width = width; some = some; front = front; stops = subst (λ (cs : List ℕ). StopsBefore max blank width (flagged f cs)) (sym e) tt }
grow (c ∷ cs) max f bs end width blank e front some =
    let parts = first_part (drop end bs) c cs front.rest e in
    let b = is_blank (record { char = c; flags = f }) in
    elim (takes max width c b blank) as (λ _. Grown max f bs) [
      | inl fits ↦
          grow cs max f bs (end + len_utf8 c) (width + char_columns c) b (left_after bs end c cs front.rest e)
          (front_more max f bs (encode_utf8_all cs) end c width blank b front parts (char_columns-le c) refl (inr fits)) (omega (arith, some))
      | inr why ↦ record { end = end; blank = blank; width = width; some = some; front = front; stops = stops_at max f (drop end bs) (encode_utf8_all cs) c width blank front.rest parts why }
    ]

grow_all : (cs : List ℕ) (max : ℕ) (f : Flags) (bs : List ℕ) → chars bs ≡ cs → IsUtf8 bs → 0 < length bs → Grown max f bs
grow_all [] max f bs e utf8 some = absurd (omega (arith, some, ap length (sym (encodes-chars bs utf8) ∙ ap encode_utf8_all e)))
grow_all (c ∷ cs) max f bs e utf8 some =
    let b = is_blank (record { char = c; flags = f }) in
    let parts = first_part bs c cs utf8 e in
    let front = front_more max f bs (encode_utf8_all cs) 0 c 0 b b (front_start max f bs b utf8) parts (char_columns-le c) refl (inl refl) in
    grow cs max f bs (0 + len_utf8 c) (0 + char_columns c) b (left_after bs 0 c cs utf8 e) front (omega (arith, (len_utf8_bounds c).0))

-- a text that isn't at its end has a token there
pub token_there : (max start : ℕ) (p : Compound) → start < length p.src.now → IsUtf8 p.src.now → IsCharBoundary p.src.now start → (t : Token) × IsTokenAt max p start t
token_there max start p inside utf8 border =
    let bs = p.src.now in
    let f = flags_of p in
    let g = grow_all (chars (drop start bs)) max f (drop start bs) refl (IsUtf8-drop bs start utf8 border) (omega (arith, length-drop start bs)) in
    let t : Token = record { compound = p; blank = g.blank; width = g.width; start_in_compound = start; end_in_compound = start + g.end } in
    let size : g.end ≡ start + g.end - start = omega arith in (
      t,
      token_is max start (start + g.end) g.width g.blank p t (omega arith) border (omega (arith, g.some)) (subst (λ n. IsFront max f (drop start bs) n g.blank g.width) size g.front)
          (subst (λ n. StopsBefore max g.blank g.width (flagged f (chars (drop n (drop start bs))))) size g.stops) refl,
    )

-- from each of its borders on a compound has tokens, to its end
pub tokens_there : (fuel max start : ℕ) (p : Compound) → length p.src.now ≤ start + fuel → start ≤ length p.src.now → IsUtf8 p.src.now → IsCharBoundary p.src.now start → (ts : List Token) × AreTokensFrom max p start ts
tokens_there zero max start p l inside utf8 border = ([], omega arith)
tokens_there (suc fuel) max start p l inside utf8 border = elim (cases_lt start (length p.src.now)) as (λ _. (ts : List Token) × AreTokensFrom max p start ts) [
  | inr past ↦ ([], omega arith)
  | inl more ↦
      let first = token_there max start p more utf8 border in
      let t = first.0 in
      let is = first.1 in
      let end = ends_at_border max start p t is in
      let rest = tokens_there fuel max t.end_in_compound p (omega (arith, is.begins, is.within.some)) end.0 utf8 end in
      (t ∷ rest.0, (is, rest.1))
]

-- texts have tokens
pub tokens_of_all : (max : ℕ) (ps : List Compound) → AllByRecursion (λ p. IsUtf8 p.src.now) ps → (ts : List Token) × AreTokensOf max ps ts
tokens_of_all max [] utf8 = ([], refl)
tokens_of_all max (p ∷ ps) utf8 =
    let own = tokens_there (length p.src.now) max 0 p (omega arith) (omega arith) utf8.0 (IsCharBoundary-start p.src.now utf8.0) in
    let others = tokens_of_all max ps utf8.1 in
    (own.0 ++ others.0, (own.0, others.0, refl, own.1, others.1))
