-- The tokens of a printable text begin with a character that takes columns.
use Rattle.std.proofs.Common.{◌≡◌, ℕ, zero, suc, ◌<◌, ◌≤◌, inl, inr, Bool, true, false, not, ◌&&◌, List, [], ◌∷◌, ◌++◌, map, chars, length, drop, refl, sym, ap, ◌∙◌, subst, arith}
use Rattle.std.specs.List.{AllByRecursion}
use Rattle.std.specs.Char.{is_whitespace}
use Rattle.std.specs.Str.{IsUtf8}
use Rattle.std.proofs.lemmas.Bool.{false≢true}
use Rattle.std.proofs.lemmas.List.{map-append}
use Rattle.mad_characters.specs.Columns.{char_columns}
use Rattle.mad_screen.specs.Painting.{IsPrinted, IsWhole, IsShown}
use Rattle.mad_md.specs.Flagged.{Flags, FlaggedChar, Run, flagged, flags_of, run_of, flagged_of, flagged_text, is_blank}
use Rattle.mad_md.specs.declared.compound.Compound.{Compound}
use Rattle.mad_measure.specs.Tokens.{StopsBefore, IsAlike, AreTokensFrom, AreTokensOf, flagged_token, token_text, token_run}
use Rattle.mad_measure.specs.declared.tokens.Token.{Token}
use Rattle.mad_measure.proofs.AllLemmas.{all_joined, all_front, all_back}
use Rattle.mad_measure.proofs.TokenTexts.{text_at, some_flagged}
use Rattle.mad_layout.specs.Premises.{AreJoined}
use Rattle.mad_layout.proofs.SoundLines.{IsSoundRun}

-- ---- characters without their flags

-- the characters without their flags
abbrev pub chars_of : List FlaggedChar → List ℕ
chars_of xs = map (λ (x : FlaggedChar). x.char) xs

chars_of-flagged : (f : Flags) (cs : List ℕ) → chars_of (flagged f cs) ≡ cs
chars_of-flagged f [] = refl
chars_of-flagged f (c ∷ cs) = ap (λ l. c ∷ l) (chars_of-flagged f cs)

printed_front : (cs ds : List ℕ) → IsPrinted (cs ++ ds) → IsPrinted cs
printed_front [] ds h = tt
printed_front (c ∷ cs) ds h = (h.0, printed_front cs ds h.1)

printed_back : (cs ds : List ℕ) → IsPrinted (cs ++ ds) → IsPrinted ds
printed_back [] ds h = h
printed_back (c ∷ cs) ds h = printed_back cs ds h.1

whole_front : (cs ds : List ℕ) → IsWhole (cs ++ ds) → IsWhole cs
whole_front [] ds h = tt
whole_front (c ∷ cs) ds h = h

positive : (n : ℕ) → (n ≡ 0 → ⊥) → 0 < n
positive zero h = absurd (h refl)
positive (suc n) h = omega arith

-- ---- a text that is cut into tokens

-- whether a character that isn't blank is in front of what follows these
abbrev ahead_after : Bool → List FlaggedChar → Bool
ahead_after b [] = b
ahead_after b (x ∷ xs) = ahead_after (not (is_blank x)) xs

joined_back : (b : Bool) (xs ys : List FlaggedChar) → AreJoined b (xs ++ ys) → AreJoined (ahead_after b xs) ys
joined_back b [] ys h = h
joined_back b (x ∷ xs) ys h = joined_back (not (is_blank x)) xs ys h.1

ahead_alike : (b blank : Bool) (xs : List FlaggedChar) → 0 < length xs → AllByRecursion (λ x. is_blank x ≡ blank) xs → ahead_after b xs ≡ not blank
ahead_alike b blank [] some h = absurd (omega arith)
ahead_alike b blank (x ∷ []) some h = ap not h.0
ahead_alike b blank (x ∷ y ∷ xs) some h = ahead_alike (not (is_blank x)) blank (y ∷ xs) (omega arith) h.1

-- what is left of a printable text where a token begins
record IsRest (max : ℕ) (xs : List FlaggedChar) : Type 0 where
  printed : IsPrinted (chars_of xs)
  whole : IsWhole (chars_of xs)
  ahead : Bool
  joined : AreJoined ahead xs
  narrow : AllByRecursion (λ x. char_columns x.char ≤ max) xs

not_blank : (blank : Bool) → not blank ≡ true → blank ≡ false
not_blank false h = refl
not_blank true h = absurd (false≢true h)

-- a widthless character after a token would be part of it
none_widthless : (max w : ℕ) (blank : Bool) (xs ys : List FlaggedChar) (y : FlaggedChar) → 0 < length xs → IsAlike max blank w xs → AllByRecursion (λ x. char_columns x.char ≤ max) xs
    → StopsBefore max blank w (y ∷ ys) → char_columns y.char ≡ 0 → is_whitespace y.char ≡ false → not blank ≡ true → ⊥
none_widthless max w blank [] ys y some alike narrow stops none black after = absurd (omega arith)
none_widthless max w blank xs ys y some alike narrow (inl differs) none black after =
    differs (ap (λ (v : Bool). v && not y.flags.code) black ∙ sym (not_blank blank after))
none_widthless max w blank (x ∷ []) ys y some alike narrow (inr passes) none black after = omega (arith, alike.counts, narrow.0, passes, none)
none_widthless max w blank (x ∷ z ∷ xs) ys y some alike narrow (inr passes) none black after = omega (arith, alike.within (omega arith), passes, none)

whole_after : (max w : ℕ) (blank b : Bool) (xs ys : List FlaggedChar) → 0 < length xs → IsAlike max blank w xs → AllByRecursion (λ x. char_columns x.char ≤ max) xs
    → StopsBefore max blank w ys → AreJoined (ahead_after b xs) ys → IsWhole (chars_of ys)
whole_after max w blank b xs [] some alike narrow stops joined = tt
whole_after max w blank b xs (y ∷ ys) some alike narrow stops joined =
    positive (char_columns y.char) (λ none.
    none_widthless max w blank xs ys y some alike narrow stops none (joined.0 none).0 (sym (ahead_alike b blank xs some alike.alike) ∙ (joined.0 none).1))

-- the text in front is shown, and where the next begins the rest is as this was
cut_rest : (max w : ℕ) (blank : Bool) (xs ys : List FlaggedChar) → 0 < length xs → IsAlike max blank w xs → StopsBefore max blank w ys → IsRest max (xs ++ ys)
    → IsShown (chars_of xs) × IsRest max ys
cut_rest max w blank xs ys some alike stops h =
    let cut : chars_of (xs ++ ys) ≡ chars_of xs ++ chars_of ys = map-append (λ (x : FlaggedChar). x.char) xs ys in
    let printed : IsPrinted (chars_of xs ++ chars_of ys) = subst IsPrinted cut h.printed in
    let whole : IsWhole (chars_of xs ++ chars_of ys) = subst IsWhole cut h.whole in
    let joined : AreJoined (ahead_after h.ahead xs) ys = joined_back h.ahead xs ys h.joined in (
      record { printed = printed_front (chars_of xs) (chars_of ys) printed; whole = whole_front (chars_of xs) (chars_of ys) whole },
      record {
        printed = printed_back (chars_of xs) (chars_of ys) printed;
        whole = whole_after max w blank h.ahead xs ys some alike (all_front (λ x. char_columns x.char ≤ max) xs ys h.narrow) stops joined;
        ahead = ahead_after h.ahead xs;
        joined = joined;
        narrow = all_back (λ x. char_columns x.char ≤ max) xs ys h.narrow;
      },
    )

-- ---- runs that are shown

-- the run's text shows cells of its own
pub record IsShownRun (r : Run) : Type 0 where
  pub utf8 : IsUtf8 r.text
  pub shown : IsShown (chars r.text)

joined_whole : (f : Flags) (cs : List ℕ) → AreJoined false (flagged f cs) → IsWhole cs
joined_whole f [] h = tt
joined_whole f (c ∷ cs) h = positive (char_columns c) (λ none. false≢true (h.0 none).1)

-- the text of a sound run shows cells of its own
pub printable_is_shown : (r : Run) → IsSoundRun r → IsShownRun r
printable_is_shown r h = record { utf8 = h.utf8; shown = record { printed = h.printed; whole = joined_whole r.flags (chars r.text) h.joined } }

shown_from : (max start : ℕ) (p : Compound) (ts : List Token) → AreTokensFrom max p start ts → IsRest max (flagged (flags_of p) (chars (drop start p.src.now)))
    → AllByRecursion IsShownRun (map token_run ts)
shown_from max start p [] h rest = tt
shown_from max start p (t ∷ ts) (first, more) rest =
    let cut = cut_rest max t.width t.blank (flagged_token t) (flagged (flags_of p) (chars (drop t.end_in_compound p.src.now))) (some_flagged t first.within) first.alike first.stops
    (subst (IsRest max) (text_at max start p t first) rest) in (
      record { utf8 = first.within.utf8; shown = subst IsShown (chars_of-flagged (flags_of t.compound) (chars (token_text t))) cut.0 },
      shown_from max t.end_in_compound p ts more cut.1,
    )

rest_at_start : (max : ℕ) (p : Compound) → IsSoundRun (run_of p) → AllByRecursion (λ x. char_columns x.char ≤ max) (flagged_of p) → IsRest max (flagged_of p)
rest_at_start max p h narrow =
    let same : chars_of (flagged_of p) ≡ chars p.src.now = chars_of-flagged (flags_of p) (chars p.src.now) in
    record {
      printed = subst IsPrinted (sym same) h.printed;
      whole = subst IsWhole (sym same) (joined_whole (flags_of p) (chars p.src.now) h.joined);
      ahead = false;
      joined = h.joined;
      narrow = narrow;
    }

-- the tokens of printable compounds are shown
pub tokens_shown : (max : ℕ) (ps : List Compound) (ts : List Token) → AllByRecursion IsSoundRun (map run_of ps) → AllByRecursion (λ x. char_columns x.char ≤ max) (flagged_text ps)
    → AreTokensOf max ps ts → AllByRecursion IsShownRun (map token_run ts)
tokens_shown max [] ts printable narrow h = subst (λ (l : List Token). AllByRecursion IsShownRun (map token_run l)) (sym h) tt
tokens_shown max (p ∷ ps) ts printable narrow (own, others, joins, first, more) =
    let is = λ (x : FlaggedChar). char_columns x.char ≤ max in
    let here = shown_from max 0 p own first (rest_at_start max p printable.0 (all_front is (flagged_of p) (flagged_text ps) narrow)) in
    let later_shown = tokens_shown max ps others printable.1 (all_back is (flagged_of p) (flagged_text ps) narrow) more in
    subst (AllByRecursion IsShownRun) (sym (ap (map token_run) joins ∙ map-append token_run own others)) (all_joined IsShownRun (map token_run own) (map token_run others) here later_shown)
