-- The front of a text that is to be a token.
use Rattle.std.proofs.Common.{◌≡◌, ℕ, ◌≤◌, ◌<◌, ◌+◌, ◌-◌, ◌≢◌, ◌⊎◌, inl, inr, Bool, List, [], ◌∷◌, ◌++◌, chars, length, take, drop, get_or, refl, sym, ap, ◌∙◌, arith, subst}
use Rattle.std.specs.Str.{IsUtf8, IsCharBoundary}
use Rattle.std.specs.Char.{encode_utf8, len_utf8}
use Rattle.std.proofs.lemmas.Str.{chars-nil, chars_past_char, drop_past_char, length-encode, IsUtf8-take, IsUtf8-past_char, IsCharBoundary-from_drop, IsCharBoundary-from_rest}
use Rattle.std.proofs.lemmas.List.{length-append, length-drop, drop-drop, append-nil, append_assoc, at_drop_more, at_drop_all}
use Rattle.mad_characters.specs.Columns.{char_columns}
use Rattle.mad_md.specs.Flagged.{Flags, FlaggedChar, flagged, flags_of, is_blank}
use Rattle.mad_md.specs.declared.compound.Compound.{Compound}
use Rattle.mad_measure.specs.TextColumns.{width_of}
use Rattle.mad_measure.specs.Tokens.{IsAlike, StopsBefore, IsTokenAt, AreTokensFrom, AreTokensOf}
use Rattle.mad_measure.specs.declared.tokens.Token.{Token}
use Rattle.mad_measure.proofs.AllLemmas.{all_push}
use Rattle.mad_measure.proofs.FlaggedLemmas.{width_of-append}
use Rattle.mad_md.proofs.CharLemmas.{chars_take_more}
use Rattle.mad_md.proofs.FlaggedLemmas.{flagged-append}

-- the first end bytes of the text are a front that may be a token
pub record IsFront (max : ℕ) (f : Flags) (bs : List ℕ) (end : ℕ) (blank : Bool) (width : ℕ) : Type 0 where
  pub utf8 : IsUtf8 bs
  pub within : end ≤ length bs
  pub rest : IsUtf8 (drop end bs)
  pub alike : IsAlike max blank width (flagged f (chars (take end bs)))
  pub bound : width ≤ end

alike_push : (max width : ℕ) (blank : Bool) (xs : List FlaggedChar) (y : FlaggedChar) → IsAlike max blank width xs → is_blank y ≡ blank → width + char_columns y.char ≤ max
    → IsAlike max blank (width + char_columns y.char) (xs ++ y ∷ [])
alike_push max width blank xs y h same fits = record {
  alike = all_push (λ x. is_blank x ≡ blank) xs y h.alike same;
  counts = omega (arith, h.counts, width_of-append xs (y ∷ []));
  within = λ _. fits;
}

-- one character more
pub front_more : (max : ℕ) (f : Flags) (bs rest : List ℕ) (end c width : ℕ) (blank b : Bool) → IsFront max f bs end blank width → drop end bs ≡ encode_utf8 c ++ rest
    → char_columns c ≤ len_utf8 c → is_blank (record { char = c; flags = f }) ≡ b → (end ≡ 0) ⊎ ((b ≡ blank) × (width + char_columns c ≤ max))
    → IsFront max f bs (end + len_utf8 c) b (width + char_columns c)
front_more max f bs rest end c width blank b h e narrow same fits =
    let after : drop (end + len_utf8 c) bs ≡ rest = drop_past_char bs rest end c e in
    let more : flagged f (chars (take (end + len_utf8 c) bs)) ≡ flagged f (chars (take end bs)) ++ record { char = c; flags = f } ∷ [] =
    ap (flagged f) (chars_take_more bs rest end c h.utf8 h.within h.rest e) ∙ flagged-append f (chars (take end bs)) (c ∷ []) in
    let alike : IsAlike max b (width + char_columns c) (flagged f (chars (take end bs)) ++ record { char = c; flags = f } ∷ []) =
    elim fits as (λ _. IsAlike max b (width + char_columns c) (flagged f (chars (take end bs)) ++ record { char = c; flags = f } ∷ [])) [
      | inl zero ↦
          let none : flagged f (chars (take end bs)) ≡ [] = ap (λ n. flagged f (chars (take n bs))) zero ∙ ap (flagged f) chars-nil in
          let w : width ≡ 0 = h.alike.counts ∙ ap width_of none in
          rw none (record { alike = (same, tt); counts = omega arith; within = λ l. absurd (omega arith) })
      | inr more ↦ alike_push max width b (flagged f (chars (take end bs))) (record { char = c; flags = f }) (subst (λ v. IsAlike max v width (flagged f (chars (take end bs)))) (sym more.0) h.alike) same more.1
    ] in
    record {
      utf8 = h.utf8;
      within = omega (arith, h.within, length-encode c, length-drop end bs, (simp length-append at (ap length e)));
      rest = subst IsUtf8 (sym after) (IsUtf8-past_char (drop end bs) rest c h.rest e);
      alike = subst (IsAlike max b (width + char_columns c)) (sym more) alike;
      bound = omega (arith, h.bound, narrow);
    }

-- before the first character any blankness will do
pub front_start : (max : ℕ) (f : Flags) (bs : List ℕ) (blank : Bool) → IsUtf8 bs → IsFront max f bs 0 blank 0
front_start max f bs blank u = record {
  utf8 = u;
  within = omega arith;
  rest = u;
  alike = rw chars-nil (record { alike = tt; counts = refl; within = λ l. absurd (omega arith) });
  bound = omega arith;
}

-- a front of what begins at a position is a token where it can't take in what comes next
pub token_is : (max start end width : ℕ) (blank : Bool) (p : Compound) (t : Token) → start ≤ length p.src.now → IsCharBoundary p.src.now start → start < end
    → IsFront max (flags_of p) (drop start p.src.now) (end - start) blank width → StopsBefore max blank width (flagged (flags_of p) (chars (drop (end - start) (drop start p.src.now))))
    → t ≡ record { compound = p; blank = blank; width = width; start_in_compound = start; end_in_compound = end } → IsTokenAt max p start t
token_is max start end width blank p t inside border some h stops same =
    let bs = p.src.now in
    let position : start + (end - start) ≡ end = omega arith in
    let back : drop (end - start) (drop start bs) ≡ drop end bs = drop-drop (end - start) start bs ∙ ap (λ n. drop n bs) position in
    let cut : IsCharBoundary (drop start bs) (end - start) = IsCharBoundary-from_drop (drop start bs) (end - start) h.within h.rest in
    subst (IsTokenAt max p start) (sym same) (record {
      part_of = refl;
      begins = refl;
      within = record {
        some = some;
        start = border;
        end = subst (IsCharBoundary bs) position (IsCharBoundary-from_rest bs start (end - start) inside cut);
        utf8 = IsUtf8-take (drop start bs) (end - start) h.utf8 cut;
      };
      alike = h.alike;
      stops = subst (λ r. StopsBefore max blank width (flagged (flags_of p) (chars r))) back stops;
    })

-- where a token ends, the next may begin
pub ends_at_border : (max start : ℕ) (p : Compound) (t : Token) → IsTokenAt max p start t → IsCharBoundary p.src.now t.end_in_compound
ends_at_border max start p t h = subst (λ (q : Compound). IsCharBoundary q.src.now t.end_in_compound) h.part_of h.within.end

-- a token stops before a character of other blankness, and before one that would pass the limit
pub stops_at : (max : ℕ) (f : Flags) (text rest : List ℕ) (c width : ℕ) (blank : Bool) → IsUtf8 text → text ≡ encode_utf8 c ++ rest
    → (is_blank (record { char = c; flags = f }) ≢ blank) ⊎ (max < width + char_columns c) → StopsBefore max blank width (flagged f (chars text))
stops_at max f text rest c width blank u e h = subst (λ cs. StopsBefore max blank width (flagged f cs)) (sym (chars_past_char text rest c u e)) h

-- one compound more
pub tokens_more : (max : ℕ) (ps : List Compound) (i : ℕ) (d : Compound) (old own new : List Token) → i < length ps
    → ((more : List Token) → AreTokensOf max (drop i ps) more → AreTokensOf max ps (old ++ more))
    → AreTokensFrom max (get_or ps i d) 0 own → new ≡ old ++ own
    → (more : List Token) → AreTokensOf max (drop (i + 1) ps) more → AreTokensOf max ps (new ++ more)
tokens_more max ps i d old own new l held tokens e more rest =
    let at : drop i ps ≡ get_or ps i d ∷ drop (i + 1) ps = at_drop_more (λ l. l) ps i d l in
    subst (λ ts. AreTokensOf max ps ts) (sym (append_assoc old own more) ∙ ap (λ l. l ++ more) (sym e))
    (held (own ++ more) (subst (λ l. AreTokensOf max l (own ++ more)) (sym at) (own, more, refl, tokens, rest)))

-- after the last compound the tokens so far are all
pub tokens_all : (max : ℕ) (ps : List Compound) (i : ℕ) (old : List Token) → length ps ≤ i
    → ((more : List Token) → AreTokensOf max (drop i ps) more → AreTokensOf max ps (old ++ more)) → AreTokensOf max ps old
tokens_all max ps i old l held =
    subst (AreTokensOf max ps) (append-nil old) (held [] (subst (λ l. AreTokensOf max l []) (sym (at_drop_all (λ l. l) ps i l)) refl))
