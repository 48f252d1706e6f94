-- A fitting break of flagged tokens is one of the tokens.
use Rattle.std.proofs.Common.{◌≡◌, ℕ, ◌+◌, true, false, if◌then◌else◌, List, [], ◌∷◌, ◌++◌, map, length, refl, sym, ap, ◌∙◌, subst, arith}
use Rattle.std.specs.List.{AllByRecursion}
use Rattle.std.proofs.lemmas.List.{length-map, map-append}
use Rattle.mad_wrap.proofs.PromisedStarts.{blank_token}
use Rattle.mad_md.specs.Flagged.{FlaggedChar, flagged_of, is_blank}
use Rattle.mad_md.specs.declared.compound.Compound.{Compound}
use Rattle.mad_measure.specs.TextColumns.{width_of}
use Rattle.mad_measure.specs.Tokens.{AreTokensOf, flagged_token}
use Rattle.mad_measure.specs.declared.tokens.Token.{Token}
use Rattle.mad_measure.proofs.AllLemmas.{all_front, all_back}
use Rattle.mad_measure.proofs.FlaggedLemmas.{width_of-append}
use Rattle.mad_measure.proofs.TokenTexts.{IsHonest, all_honest, some_flagged}
use Rattle.mad_wrap.specs.Breaks.{LineAndGap, lines_and_gaps, total_width, AllBlank, FitsFrom, FittingBreak, EndsWithLine}
use Rattle.mad_wrap.specs.Rooms.{token_limit}
use Rattle.mad_layout.specs.FlaggedRows.{whole, tokens_of, pieces_from, pieces_of_line, IsFittingBreak}
use Rattle.mad_wrap.specs.WrapLines.{LinesFit}
use Rattle.mad_wrap.specs.declared.room.Room.{Room}
use Rattle.mad_layout.proofs.FlaggedTokens.{tokens_agree}

-- a list that was mapped and then cut can be cut first
cut_first : {A B : Type 0} (f : A → B) (xs ys : List B) (ts : List A) → map f ts ≡ xs ++ ys → (us : List A) × (vs : List A) × (ts ≡ us ++ vs) × (map f us ≡ xs) × (map f vs ≡ ys)
cut_first f [] ys ts e = ([], ts, refl, refl, e)
cut_first f (x ∷ xs) ys [] e = absurd (cc)
cut_first f (x ∷ xs) ys (t ∷ ts) e =
    let head : f t ≡ x = cc in
    let tail : map f ts ≡ xs ++ ys = cc in
    let more = cut_first f xs ys ts tail in
    (t ∷ more.0, more.1, ap (λ l. t ∷ l) more.2, ap (λ y. y ∷ map f more.0) head ∙ ap (λ l. x ∷ l) more.3, more.4)

-- a line and its gap, each token by a function
abbrev pub piece_by : {A B : Type 0} → (A → B) → LineAndGap A → LineAndGap B
piece_by f q = record { line = map f q.line; gap = map f q.gap }

-- lines and gaps by a function are all their tokens by it
pub joined_by : {A B : Type 0} (f : A → B) (qs : List (LineAndGap A)) → lines_and_gaps (map (piece_by f) qs) ≡ map f (lines_and_gaps qs)
joined_by f [] = refl
joined_by f (q ∷ qs) =
    sym (map-append f q.line (q.gap ++ lines_and_gaps qs) ∙ ap (λ l. map f q.line ++ l) (map-append f q.gap (lines_and_gaps qs)) ∙ ap (λ l. map f q.line ++ (map f q.gap ++ l)) (sym (joined_by f qs)))

-- a line and its gap, each token as its flagged text
abbrev pub flagged_piece : LineAndGap Token → LineAndGap (List FlaggedChar)
flagged_piece q = piece_by flagged_token q

same_piece : {A : Type 0} (p q : LineAndGap A) → p.line ≡ q.line → p.gap ≡ q.gap → p ≡ q
same_piece p q line gap = ap (λ l. record { line = l; gap = p.gap }) line ∙ ap (λ g. record { line = q.line; gap = g }) gap

-- a break of a list that was mapped is one of the list
pub lift : {A B : Type 0} (f : A → B) (ps : List (LineAndGap B)) (ts : List A) → map f ts ≡ lines_and_gaps ps → (qs : List (LineAndGap A)) × (lines_and_gaps qs ≡ ts) × (map (piece_by f) qs ≡ ps)
lift f [] [] e = ([], refl, refl)
lift f [] (t ∷ ts) e = absurd (cc)
lift {A = A} f (p ∷ ps) ts e =
    let line = cut_first f p.line (p.gap ++ lines_and_gaps ps) ts e in
    let gap = cut_first f p.gap (lines_and_gaps ps) line.1 line.4 in
    let more = lift f ps gap.1 gap.4 in
    let q : LineAndGap A = record { line = line.0; gap = gap.0 } in (
      q ∷ more.0,
      ap (λ l. line.0 ++ (gap.0 ++ l)) more.1 ∙ ap (λ l. line.0 ++ l) (sym gap.2) ∙ sym line.2,
      ap (λ x. x ∷ map (piece_by f) more.0) (same_piece (piece_by f q) p line.3 gap.3) ∙ ap (λ l. p ∷ l) more.2,
    )

-- the flagged texts of tokens take the columns that these have
pub width_of-tokens : (max : ℕ) (ts : List Token) → AllByRecursion (IsHonest max) ts → width_of (whole (map flagged_token ts)) ≡ total_width ts
width_of-tokens max [] h = refl
width_of-tokens max (t ∷ ts) h =
    width_of-append (flagged_token t) (whole (map flagged_token ts)) ∙ ap (λ n. n + width_of (whole (map flagged_token ts))) (sym h.0.alike.counts)
    ∙ ap (λ n. t.width + n) (width_of-tokens max ts h.1)

blank_tokens : (max : ℕ) (ts : List Token) → AllByRecursion (IsHonest max) ts → AllByRecursion (λ x. is_blank x ≡ true) (whole (map flagged_token ts)) → AllBlank ts
blank_tokens max [] h on = tt
blank_tokens max (t ∷ ts) h on =
    let is : FlaggedChar → Type 0 = λ x. is_blank x ≡ true in
    let rest : List FlaggedChar = whole (map flagged_token ts) in
    (blank_token t.blank (flagged_token t) (some_flagged t h.0.within) h.0.alike.alike (all_front is (flagged_token t) rest on), blank_tokens max ts h.1 (all_back is (flagged_token t) rest on))

-- a break of tokens fits where that of their flagged texts does
pub fits_back : (max indent : ℕ) (r : Room) (qs : List (LineAndGap Token)) → AllByRecursion (IsHonest max) (lines_and_gaps qs) → LinesFit indent r (map (λ p. whole p.line) (map flagged_piece qs))
    → AllByRecursion (λ p. AllByRecursion (λ x. is_blank x ≡ true) (whole p.gap)) (map flagged_piece qs) → FitsFrom indent r qs
fits_back max indent r [] honest fits dropped = tt
fits_back max indent r (q ∷ qs) honest fits dropped =
    let is = IsHonest max in
    let line = all_front is q.line (q.gap ++ lines_and_gaps qs) honest in
    let later = all_back is q.line (q.gap ++ lines_and_gaps qs) honest in
    (omega (arith, fits.0, width_of-tokens max q.line line), blank_tokens max q.gap (all_front is q.gap (lines_and_gaps qs) later) dropped.0, fits_back max r.other r qs (all_back is q.gap (lines_and_gaps qs) later) fits.1 dropped.1)

no_tokens : (ts : List Token) → map flagged_token ts ≡ [] → ts ≡ []
no_tokens [] e = refl
no_tokens (t ∷ ts) e = absurd (cc)

ends_back : (qs : List (LineAndGap Token)) → EndsWithLine (map flagged_piece qs) → EndsWithLine qs
ends_back [] h = tt
ends_back (q ∷ []) h = no_tokens q.gap h
ends_back (q ∷ q' ∷ qs) h = ends_back (q' ∷ qs) h

-- where words may be parted, the pieces are the tokens
pub token_pieces : (r : Room) (parts : List (List FlaggedChar)) → r.whole_words ≡ false → pieces_of_line r parts ≡ tokens_of r parts
token_pieces r parts off = ap (λ b. if b then pieces_from (token_limit r) [] (tokens_of r parts) else tokens_of r parts) off

-- there a fitting break has as many lines as some fitting break of the tokens
pub break_lifts : (r : Room) (ps : List Compound) (ts : List Token) (breaks : List (LineAndGap (List FlaggedChar))) → r.whole_words ≡ false → AreTokensOf (token_limit r) ps ts
    → IsFittingBreak r (map flagged_of ps) breaks → (qs : List (LineAndGap Token)) × FittingBreak r ts qs × (length qs ≡ length breaks)
break_lifts r ps ts breaks off cut b =
    let max : ℕ = token_limit r in
    let lifted = lift flagged_token breaks ts (tokens_agree r ps ts cut ∙ sym (token_pieces r (map flagged_of ps) off) ∙ sym b.covers) in
    let qs = lifted.0 in
    let same : breaks ≡ map flagged_piece qs = sym lifted.2 in
    let count : length qs ≡ length breaks = sym (length-map qs flagged_piece) ∙ ap length lifted.2 in (
      qs,
      record {
        trimming = record {
          some_line = omega (arith, count, b.some);
          covers = lifted.1;
          fits = fits_back max r.first r qs (subst (AllByRecursion (IsHonest max)) (sym lifted.1) (all_honest max ps ts cut))
              (subst (λ l. LinesFit r.first r (map (λ p. whole p.line) l)) same b.fits)
              (subst (AllByRecursion (λ p. AllByRecursion (λ x. is_blank x ≡ true) (whole p.gap))) same b.dropped);
        };
        ends = ends_back qs (subst EndsWithLine same b.ends);
      },
      count,
    )
