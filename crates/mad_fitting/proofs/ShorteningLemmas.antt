-- Compounds without a front or an end, compound by compound.
use Rattle.std.proofs.Common.{◌≡◌, ℕ, zero, suc, ◌+◌, ◌-◌, ◌<◌, ◌≤◌, ◌⊎◌, inl, inr, List, [], ◌∷◌, ◌++◌, length, chars, take, drop, get_or, slice_range, refl, sym, ap, ◌∙◌, arith, subst, encode_utf8_all}
use Rattle.std.specs.Prelude.{Result, Ok, Err, IfOk}
use Rattle.std.specs.Str.{IsUtf8, IsCharBoundary}
use Rattle.std.proofs.lemmas.List.{append_assoc, append-nil, length-append, length-drop, length-take, take_rest, take_all, at_drop_more}
use Rattle.std.proofs.lemmas.Str.{chars-nil, encodes-chars, IsUtf8-drop}
use Rattle.mad_characters.specs.Columns.{char_columns}
use Rattle.mad_md.specs.Flagged.{Flags, FlaggedChar, Run, flagged, flags_of, flagged_of, flagged_text}
use Rattle.mad_md.specs.declared.compound.Compound.{Compound}
use Rattle.mad_md.proofs.FlaggedLemmas.{flagged-append, flagged_cut}
use Rattle.mad_measure.specs.TextColumns.{columns, width_of}
use Rattle.mad_measure.proofs.FlaggedLemmas.{width_of-append, width_of-flagged}
use Rattle.mad_measure.proofs.AllLemmas.{all_push}
use Rattle.mad_measure.proofs.UniqueLemmas.{fronts}
use Rattle.mad_fitting.specs.Ellipses.{IsEllipsis, IsShortened}
use Rattle.mad_fitting.specs.Filled.{NoneEmpty}
use Rattle.mad_fitting.specs.Pieces.{AddsPart, IsFrontOf, StopsWithin, IsNoLonger}
use Rattle.mad_fitting.specs.Shortening.{IsFrontWithin, LosesEnd, LosesFront}
use Rattle.mad_fitting.specs.declared.fronts.Front.{Front}
use Rattle.mad_fitting.proofs.EllipsisLemmas.{text-append, after_gap}

-- ---- a part of a compound in a list

-- a part that isn't empty is added as a compound
pub adds_some : (p : Compound) (start end : ℕ) (before after : List Compound) (q : Compound) → start < end → after ≡ before ++ q ∷ [] → q.src.now ≡ slice_range p.src.now start end → flags_of q ≡ flags_of p
    → AddsPart p start end before after
adds_some p start end before after q some added text flags = record { part = q ∷ []; added = added; is = inr (some, (q, refl, text, flags)) }

-- an empty part adds nothing
pub adds_none : (p : Compound) (start end : ℕ) (before after : List Compound) → start ≤ end → end ≤ start → after ≡ before → AddsPart p start end before after
adds_none p start end before after l g same = record { part = []; added = same ∙ sym (append-nil before); is = inl (omega arith, refl) }

flagged_part : (p q : Compound) (start end : ℕ) → q.src.now ≡ slice_range p.src.now start end → flags_of q ≡ flags_of p → flagged_of q ≡ flagged (flags_of p) (chars (slice_range p.src.now start end))
flagged_part p q start end text flags = ap (λ f. flagged f (chars q.src.now)) flags ∙ ap (λ bs. flagged (flags_of p) (chars bs)) text

no_bytes : (bs : List ℕ) (start end : ℕ) → start ≡ end → slice_range bs start end ≡ []
no_bytes bs start end same = let none : end - start ≡ 0 = omega arith in ap (λ n. take n (drop start bs)) none

-- the text that a part adds
pub text_added : (p : Compound) (start end : ℕ) (before after : List Compound) → AddsPart p start end before after
    → flagged_text after ≡ flagged_text before ++ flagged (flags_of p) (chars (slice_range p.src.now start end))
text_added p start end before after h = elim h.is as (λ _. flagged_text after ≡ flagged_text before ++ flagged (flags_of p) (chars (slice_range p.src.now start end))) [
  | inl (same, none) ↦
      let nothing : flagged (flags_of p) (chars (slice_range p.src.now start end)) ≡ [] = ap (λ bs. flagged (flags_of p) (chars bs)) (no_bytes p.src.now start end same) ∙ ap (flagged (flags_of p)) chars-nil in
      ap flagged_text h.added ∙ text-append before h.part ∙ ap (λ l. flagged_text before ++ flagged_text l) none ∙ ap (λ l. flagged_text before ++ l) (sym nothing)
  | inr (some, (q, one, text, flags)) ↦
      ap flagged_text h.added ∙ text-append before h.part ∙ ap (λ l. flagged_text before ++ flagged_text l) one ∙ ap (λ l. flagged_text before ++ l) (append-nil (flagged_of q) ∙ flagged_part p q start end text flags)
]

-- a part that is added makes no compound empty
pub none_empty_added : (p : Compound) (start end : ℕ) (before after : List Compound) → end ≤ length p.src.now → AddsPart p start end before after → NoneEmpty before → NoneEmpty after
none_empty_added p start end before after inside h held = elim h.is as (λ _. NoneEmpty after) [
  | inl (same, none) ↦ let all : after ≡ before = h.added ∙ ap (λ l. before ++ l) none ∙ append-nil before in subst NoneEmpty (sym all) held
  | inr (some, (q, one, text, flags)) ↦
      let all : after ≡ before ++ q ∷ [] = h.added ∙ ap (λ l. before ++ l) one in
      let bytes : 0 < length q.src.now = omega (arith, ap length text, length-take (end - start) (drop start p.src.now), length-drop start p.src.now) in
      subst NoneEmpty (sym all) (all_push (λ x. 0 < length x.src.now) before q held bytes)
]

-- ---- parts of a text, and what is left of it after them

-- as the compounds that a text is shortened to, and this rest is left after them
abbrev pub ShortenedTo : ℕ → List FlaggedChar → List FlaggedChar → List Compound → Type 0
ShortenedTo n text rest [] = (n ≡ 0) × ((gap : List FlaggedChar) × (text ≡ gap ++ rest))
ShortenedTo n text rest (p ∷ ps) =
    ((k : ℕ) × (n ≡ k + 1) × IsEllipsis p × ShortenedTo k text rest ps)
    ⊎ ((gap : List FlaggedChar) × (others : List FlaggedChar) × (text ≡ gap ++ (flagged_of p ++ others)) × ShortenedTo n others rest ps)

-- a text that is shortened to compounds with a rest left is shortened to them
pub forget_rest : (n : ℕ) (text rest : List FlaggedChar) (ps : List Compound) → ShortenedTo n text rest ps → IsShortened n text ps
forget_rest n text rest [] h = h.0
forget_rest n text rest (p ∷ ps) (inl (k, more, own, h)) = inl (k, more, own, forget_rest k text rest ps h)
forget_rest n text rest (p ∷ ps) (inr (gap, others, cut, h)) = inr (gap, others, cut, forget_rest n others rest ps h)

-- one compound more: an ellipsis, or a part of the rest
pub to_ellipsis : (n : ℕ) (text rest : List FlaggedChar) (ps : List Compound) (q : Compound) → ShortenedTo n text rest ps → IsEllipsis q → ShortenedTo (n + 1) text rest (ps ++ q ∷ [])
to_ellipsis n text rest [] q h is = inl (n, refl, is, h)
to_ellipsis n text rest (p ∷ ps) q (inl (k, more, own, h)) is = inl (k + 1, omega (arith, more), own, to_ellipsis k text rest ps q h is)
to_ellipsis n text rest (p ∷ ps) q (inr (gap, others, cut, h)) is = inr (gap, others, cut, to_ellipsis n others rest ps q h is)

-- a part of the rest follows, after a gap
pub to_part : (n : ℕ) (text rest gap more : List FlaggedChar) (ps : List Compound) (q : Compound) → ShortenedTo n text rest ps → rest ≡ gap ++ (flagged_of q ++ more) → ShortenedTo n text more (ps ++ q ∷ [])
to_part n text rest gap more [] q (none, (g, is)) cut =
    inr (g ++ gap, more, is ∙ ap (λ l. g ++ l) cut ∙ sym (append_assoc g gap (flagged_of q ++ more)), (none, ([], refl)))
to_part n text rest gap more (p ∷ ps) q (inl (k, one, own, h)) cut = inl (k, one, own, to_part k text rest gap more ps q h cut)
to_part n text rest gap more (p ∷ ps) q (inr (g, others, is, h)) cut = inr (g, others, is, to_part n others rest gap more ps q h cut)

-- less of the text is left
pub to_less : (n : ℕ) (text rest gap more : List FlaggedChar) (ps : List Compound) → ShortenedTo n text rest ps → rest ≡ gap ++ more → ShortenedTo n text more ps
to_less n text rest gap more [] (none, (g, is)) cut = (none, (g ++ gap, is ∙ ap (λ l. g ++ l) cut ∙ sym (append_assoc g gap more)))
to_less n text rest gap more (p ∷ ps) (inl (k, one, own, h)) cut = inl (k, one, own, to_less k text rest gap more ps h cut)
to_less n text rest gap more (p ∷ ps) (inr (g, others, is, h)) cut = inr (g, others, is, to_less n others rest gap more ps h cut)

past_gap : (gap : List FlaggedChar) (n : ℕ) (text : List FlaggedChar) (ps : List Compound) → IsShortened n text ps → IsShortened n (gap ++ text) ps
past_gap = after_gap

-- and then the others come
pub to_others : (n m : ℕ) (text rest : List FlaggedChar) (ps qs : List Compound) → ShortenedTo n text rest ps → IsShortened m rest qs → IsShortened (n + m) text (ps ++ qs)
to_others n m text rest [] qs (none, (gap, is)) h =
    let same : m ≡ n + m = omega (arith, none) in
    subst (λ k. IsShortened k text qs) same (subst (λ t. IsShortened m t qs) (sym is) (past_gap gap m rest qs h))
to_others n m text rest (p ∷ ps) qs (inl (k, one, own, h)) more = inl (k + m, omega (arith, one), own, to_others k m text rest ps qs h more)
to_others n m text rest (p ∷ ps) qs (inr (g, others, is, h)) more = inr (g, others, is, to_others n m others rest ps qs h more)

-- what the first of compounds are of a text, and the others of its rest
pub parted : (n : ℕ) (text : List FlaggedChar) (ps qs : List Compound) → IsShortened n text (ps ++ qs)
    → (k : ℕ) × (m : ℕ) × (rest : List FlaggedChar) × (n ≡ k + m) × ShortenedTo k text rest ps × IsShortened m rest qs
parted n text [] qs h = (0, n, text, omega arith, (refl, ([], refl)), h)
parted n text (p ∷ ps) qs (inl (k, one, own, h)) =
    let (a, b, rest, sum, front, back) = parted k text ps qs h in
    (a + 1, b, rest, omega (arith, one, sum), inl (a, refl, own, front), back)
parted n text (p ∷ ps) qs (inr (gap, others, cut, h)) =
    let (a, b, rest, sum, front, back) = parted n others ps qs h in
    (a, b, rest, sum, inr (gap, others, cut, front), back)

-- ---- the longest front

-- no front that fits is longer than one after which the next character doesn't fit
pub longest_front_is : (most : ℕ) (front rest other more : List FlaggedChar) → ((y : FlaggedChar) (ys : List FlaggedChar) → rest ≡ y ∷ ys → most < width_of front + char_columns y.char) → other ++ more ≡ front ++ rest
    → width_of other ≤ most → length other ≤ length front
longest_front_is most front rest other more stops same fits = elim (fronts front rest other more (sym same)) as (λ _. length other ≤ length front) [
  | inl both ↦ omega (arith, ap length both.0)
  | inr (inl (y, zs, longer, after)) ↦ absurd (omega (arith, fits, stops y (zs ++ more) after, ap width_of longer, width_of-append front (y ∷ zs)))
  | inr (inr (y, zs, longer, after)) ↦ omega (arith, ap length longer, length-append other (y ∷ zs))
]

-- without what comes after the longest front, the shortest end is gone
pub without_end_is : (least most : ℕ) (ps kept : List Compound) → most + least ≡ width_of (flagged_text ps) → IsFrontWithin most ps kept → LosesEnd least ps kept
without_end_is least most ps kept sum h =
    let text = flagged_text ps in
    let front = flagged_text kept in
    let all : width_of text ≡ width_of front + width_of h.rest = ap width_of (sym h.cut) ∙ width_of-append front h.rest in
    record {
      without = record {
        gone = h.rest;
        cut = h.cut;
        enough = inl (omega (arith, sum, all, h.fits));
        shortest = λ more other cut enough.
            let own : width_of text ≡ width_of more + width_of other = ap width_of (sym cut) ∙ width_of-append more other in
            let fewer = longest_front_is most front h.rest more other h.stops (cut ∙ sym h.cut) (omega (arith, own, sum, enough)) in
            omega (arith, fewer, length-append front h.rest, length-append more other, ap length (cut ∙ sym h.cut));
      };
      shortened = h.shortened;
      none_empty = h.none_empty;
    }

-- where there are fewer columns than are to go, all compounds go
pub without_all : (least : ℕ) (ps kept : List Compound) → width_of (flagged_text ps) < least → kept ≡ [] → LosesEnd least ps kept
without_all least ps kept less none = subst (LosesEnd least ps) (sym none) (record {
  without = record {
    gone = flagged_text ps;
    cut = refl;
    enough = inr refl;
    shortest = λ more other cut enough. absurd (omega (arith, less, enough, ap width_of (sym cut), width_of-append more other));
  };
  shortened = λ n text h. (0, refl);
  none_empty = tt;
})

-- ---- a front, compound by compound

-- the front that is kept so far
pub record KeepsFront (most left : ℕ) (ps others kept : List Compound) : Type 0 where
  pub text : flagged_text kept ++ flagged_text others ≡ flagged_text ps
  pub counts : width_of (flagged_text kept) + left ≡ most
  pub shortened : (n : ℕ) (text : List FlaggedChar) → IsShortened n text ps → (k : ℕ) × (m : ℕ) × (rest : List FlaggedChar) × ShortenedTo k text rest kept × IsShortened m rest others
  pub none_empty : NoneEmpty kept

-- at first nothing is kept, and all columns are left
pub front_start : (most : ℕ) (ps : List Compound) → KeepsFront most most ps ps []
front_start most ps = record { text = refl; counts = omega arith; shortened = λ n text h. (0, n, text, (refl, ([], refl)), h); none_empty = tt }

take_whole : (bs : List ℕ) (n : ℕ) → n ≡ length bs → slice_range bs 0 n ≡ bs
take_whole bs n all = take_all (n - 0) bs (omega (arith, all))

slice_front : (bs : List ℕ) (n : ℕ) → slice_range bs 0 n ≡ take n bs
slice_front bs n = let same : n - 0 ≡ n = omega arith in ap (λ m. take m bs) same

-- the whole of a compound is an ellipsis where the compound is
whole_ellipsis : (p q : Compound) → q.src.now ≡ p.src.now → flags_of q ≡ flags_of p → IsEllipsis p → IsEllipsis q
whole_ellipsis p q text flags is = ap (λ f. record { flags = f; text = q.src.now }) flags ∙ ap (λ bs. record { flags = flags_of p; text = bs }) text ∙ is

-- a whole compound more
whole_more : (k m : ℕ) (text rest : List FlaggedChar) (p : Compound) (others kept after : List Compound) → ShortenedTo k text rest kept → IsShortened m rest (p ∷ others) → AddsPart p 0 (length p.src.now) kept after
    → (k : ℕ) × (m : ℕ) × (rest : List FlaggedChar) × ShortenedTo k text rest after × IsShortened m rest others
whole_more k m text rest p others kept after h (inl (j, one, own, more)) adds = elim adds.is as (λ _. (k : ℕ) × (m : ℕ) × (rest : List FlaggedChar) × ShortenedTo k text rest after × IsShortened m rest others) [
  | inl (same, none) ↦ absurd (omega (arith, same, ap (λ (r : Run). length r.text) own))
  | inr (some, (q, one_part, bytes, flags)) ↦
      let all : after ≡ kept ++ q ∷ [] = adds.added ∙ ap (λ l. kept ++ l) one_part in
      (k + 1, j, rest, subst (ShortenedTo (k + 1) text rest) (sym all) (to_ellipsis k text rest kept q h (whole_ellipsis p q (bytes ∙ take_whole p.src.now (length p.src.now) refl) flags own)), more)
]
whole_more k m text rest p others kept after h (inr (gap, left, cut, more)) adds = elim adds.is as (λ _. (k : ℕ) × (m : ℕ) × (rest : List FlaggedChar) × ShortenedTo k text rest after × IsShortened m rest others) [
  | inl (same, none) ↦
      let all : after ≡ kept = adds.added ∙ ap (λ l. kept ++ l) none ∙ append-nil kept in
      (k, m, left, subst (ShortenedTo k text left) (sym all) (to_less k text rest (gap ++ flagged_of p) left kept h (cut ∙ sym (append_assoc gap (flagged_of p) left))), more)
  | inr (some, (q, one_part, bytes, flags)) ↦
      let all : after ≡ kept ++ q ∷ [] = adds.added ∙ ap (λ l. kept ++ l) one_part in
      let says : flagged_of q ≡ flagged_of p = ap (λ f. flagged f (chars q.src.now)) flags ∙ ap (λ bs. flagged (flags_of p) (chars bs)) (bytes ∙ take_whole p.src.now (length p.src.now) refl) in
      (k, m, left, subst (ShortenedTo k text left) (sym all) (to_part k text rest gap left kept q h (cut ∙ ap (λ l. gap ++ (l ++ left)) (sym says))), more)
]

-- one compound more is kept whole, where it fits
pub front_more : (most left new : ℕ) (ps others kept after : List Compound) (p : Compound) (front : Front) → KeepsFront most left ps (p ∷ others) kept → IsFrontOf p.src.now front → front.columns ≤ left
    → length p.src.now ≤ front.bytes → new + front.columns ≡ left → AddsPart p 0 front.bytes kept after → KeepsFront most new ps others after
front_more most left new ps others kept after p front h is fits whole less adds =
    let all : front.bytes ≡ length p.src.now = omega (arith, whole, is.border.0) in
    let adds_all = subst (λ n. AddsPart p 0 n kept after) all adds in
    let says : flagged_text after ≡ flagged_text kept ++ flagged_of p = text_added p 0 (length p.src.now) kept after adds_all ∙ ap (λ bs. flagged_text kept ++ flagged (flags_of p) (chars bs)) (take_whole p.src.now (length p.src.now) refl) in
    let wide : front.columns ≡ columns (chars p.src.now) = is.counts ∙ ap (λ bs. columns (chars bs)) (take_all front.bytes p.src.now whole) in
    record {
      text = ap (λ l. l ++ flagged_text others) says ∙ append_assoc (flagged_text kept) (flagged_of p) (flagged_text others) ∙ h.text;
      counts = omega (arith, ap width_of says, width_of-append (flagged_text kept) (flagged_of p), width_of-flagged (flags_of p) (chars p.src.now), wide, less, h.counts);
      shortened = λ n text s. let (k, m, rest, to, more) = h.shortened n text s in whole_more k m text rest p others kept after to more adds_all;
      none_empty = none_empty_added p 0 front.bytes kept after is.border.0 adds h.none_empty;
    }

-- ---- where it stops

-- no character begins inside an ellipsis
byte_one : (bs : List ℕ) (n : ℕ) → bs ≡ 226 ∷ 128 ∷ 166 ∷ [] → IsCharBoundary bs n → n < 3 → n ≡ 0
byte_one bs zero e border l = refl
byte_one bs (suc zero) e border l =
    let own : IsCharBoundary (226 ∷ 128 ∷ 166 ∷ []) 1 = subst (λ b. IsCharBoundary b 1) e border in
    absurd (omega (arith, own.1 (omega arith) (omega arith)))
byte_one bs (suc (suc zero)) e border l =
    let own : IsCharBoundary (226 ∷ 128 ∷ 166 ∷ []) 2 = subst (λ b. IsCharBoundary b 2) e border in
    absurd (omega (arith, own.1 (omega arith) (omega arith)))
byte_one bs (suc (suc (suc n))) e border l = absurd (omega (arith, l))

-- no character begins inside an ellipsis
pub no_border_inside : (p : Compound) (n : ℕ) → IsEllipsis p → IsCharBoundary p.src.now n → n < length p.src.now → n ≡ 0
no_border_inside p n is border l =
    let bytes : p.src.now ≡ 226 ∷ 128 ∷ 166 ∷ [] = ap (λ (r : Run). r.text) is in
    byte_one p.src.now n bytes border (omega (arith, l, ap length bytes))

part_last : (k m n : ℕ) (text rest : List FlaggedChar) (p : Compound) (others kept after : List Compound) → IsUtf8 p.src.now → IsCharBoundary p.src.now n → n < length p.src.now → ShortenedTo k text rest kept
    → IsShortened m rest (p ∷ others) → AddsPart p 0 n kept after → (k : ℕ) × IsShortened k text after
part_last k m n text rest p others kept after utf8 border short h (inl (j, one, own, more)) adds = elim adds.is as (λ _. (k : ℕ) × IsShortened k text after) [
  | inl (same, none) ↦
      let all : after ≡ kept = adds.added ∙ ap (λ l. kept ++ l) none ∙ append-nil kept in
      (k, subst (IsShortened k text) (sym all) (forget_rest k text rest kept h))
  | inr (some, q) ↦ absurd (omega (arith, some, no_border_inside p n own border short))
]
part_last k m n text rest p others kept after utf8 border short h (inr (gap, left, cut, more)) adds = elim adds.is as (λ _. (k : ℕ) × IsShortened k text after) [
  | inl (same, none) ↦
      let all : after ≡ kept = adds.added ∙ ap (λ l. kept ++ l) none ∙ append-nil kept in
      (k, subst (IsShortened k text) (sym all) (forget_rest k text rest kept h))
  | inr (some, (q, one_part, bytes, flags)) ↦
      let all : after ≡ kept ++ q ∷ [] = adds.added ∙ ap (λ l. kept ++ l) one_part in
      let back = flagged (flags_of p) (chars (drop n p.src.now)) in
      let says : flagged_of q ≡ flagged (flags_of p) (chars (take n p.src.now)) = flagged_part p q 0 n bytes flags ∙ ap (λ bs. flagged (flags_of p) (chars bs)) (slice_front p.src.now n) in
      let own : flagged_of p ≡ flagged_of q ++ back = flagged_cut (flags_of p) p.src.now n utf8 border ∙ ap (λ l. l ++ back) (sym says) in
      let parts : rest ≡ gap ++ (flagged_of q ++ (back ++ left)) = cut ∙ ap (λ l. gap ++ (l ++ left)) own ∙ ap (λ l. gap ++ l) (append_assoc (flagged_of q) back left) in
      let to = to_part k text rest gap (back ++ left) kept q h parts in
      (k, subst (IsShortened k text) (sym all) (forget_rest k text (back ++ left) (kept ++ q ∷ []) to))
]

some_of : (cs bs : List ℕ) → encode_utf8_all cs ≡ bs → 0 < length bs → 0 < length cs
some_of [] bs e l = absurd (omega (arith, l, ap length e))
some_of (c ∷ cs) bs e l = omega arith

-- a text that isn't empty has a character
pub some_chars : (bs : List ℕ) → IsUtf8 bs → 0 < length bs → 0 < length (chars bs)
some_chars bs utf8 l = some_of (chars bs) bs (encodes-chars bs utf8) l

first_flagged : (f : Flags) (cs : List ℕ) (others ys : List FlaggedChar) (y : FlaggedChar) → 0 < length cs → flagged f cs ++ others ≡ y ∷ ys → (ds : List ℕ) × (cs ≡ y.char ∷ ds)
first_flagged f [] others ys y some e = absurd (omega (arith, some))
first_flagged f (c ∷ cs) others ys y some e =
    let head : record { char = c; flags = f } ≡ y = cc in
    (cs, ap (λ d. d ∷ cs) (ap (λ (x : FlaggedChar). x.char) head))

-- the front ends in a compound that doesn't fit whole
pub front_stops : (most left : ℕ) (ps others kept after : List Compound) (p : Compound) (front : Front) → KeepsFront most left ps (p ∷ others) kept → IsFrontOf p.src.now front → front.columns ≤ left
    → StopsWithin left p.src.now front → front.bytes < length p.src.now → AddsPart p 0 front.bytes kept after → IsFrontWithin most ps after
front_stops most left ps others kept after p front h is fits stops short adds =
    let f = flags_of p in
    let some = some_chars (drop front.bytes p.src.now) (IsUtf8-drop p.src.now front.bytes is.utf8 is.border) (omega (arith, short, length-drop front.bytes p.src.now)) in
    let n = front.bytes in
    let back = flagged f (chars (drop n p.src.now)) in
    let says : flagged_text after ≡ flagged_text kept ++ flagged f (chars (take n p.src.now)) =
    text_added p 0 n kept after adds ∙ ap (λ bs. flagged_text kept ++ flagged f (chars bs)) (slice_front p.src.now n) in
    let wide : width_of (flagged_text after) ≡ width_of (flagged_text kept) + front.columns =
    omega (arith, ap width_of says, width_of-append (flagged_text kept) (flagged f (chars (take n p.src.now))), width_of-flagged f (chars (take n p.src.now)), is.counts) in
    let own : flagged_of p ≡ flagged f (chars (take n p.src.now)) ++ back = flagged_cut f p.src.now n is.utf8 is.border in
    record {
      rest = back ++ flagged_text others;
      cut = ap (λ l. l ++ (back ++ flagged_text others)) says ∙ append_assoc (flagged_text kept) (flagged f (chars (take n p.src.now))) (back ++ flagged_text others)
          ∙ ap (λ l. flagged_text kept ++ l) (sym (append_assoc (flagged f (chars (take n p.src.now))) back (flagged_text others)) ∙ ap (λ l. l ++ flagged_text others) (sym own)) ∙ h.text;
      fits = omega (arith, wide, h.counts, fits);
      stops = λ y ys e.
          let (ds, first) = first_flagged f (chars (drop n p.src.now)) (flagged_text others) ys y some e in
          omega (arith, wide, h.counts, stops y.char ds first);
      shortened = λ m text s. let (k, j, rest, to, more) = h.shortened m text s in part_last k j n text rest p others kept after is.utf8 is.border short to more adds;
      none_empty = none_empty_added p 0 n kept after is.border.0 adds h.none_empty;
    }

-- after the last compound all of them are the front
pub front_ends : (most left : ℕ) (ps kept : List Compound) → KeepsFront most left ps [] kept → IsFrontWithin most ps kept
front_ends most left ps kept h = record {
  rest = [];
  cut = h.text;
  fits = omega (arith, h.counts);
  stops = λ y ys e. absurd (cc);
  shortened = λ n text s. let (k, m, rest, to, more) = h.shortened n text s in (k, forget_rest k text rest kept to);
  none_empty = h.none_empty;
}

-- ---- without a front, compound by compound

-- the front that has gone so far, and how many columns are to go
pub record DropsFront (least left : ℕ) (ps others kept : List Compound) : Type 0 where
  pub gone : List FlaggedChar
  pub text : gone ++ (flagged_text kept ++ flagged_text others) ≡ flagged_text ps
  pub counts : left ≡ least - width_of gone
  pub waits : 0 < left → kept ≡ []
  pub shortest : (gone ≡ []) ⊎ ((g : List FlaggedChar) × (y : FlaggedChar) × (gone ≡ g ++ y ∷ []) × (width_of g < least))
  pub none_empty : NoneEmpty kept

-- at first nothing has gone
pub drop_start : (least : ℕ) (ps : List Compound) → DropsFront least least ps ps []
drop_start least ps = record { gone = []; text = refl; counts = omega arith; waits = λ l. refl; shortest = inl refl; none_empty = tt }

slice_back : (bs : List ℕ) (n : ℕ) → slice_range bs n (length bs) ≡ drop n bs
slice_back bs n = take_rest bs n

back_added : (p : Compound) (n : ℕ) (kept after : List Compound) → AddsPart p n (length p.src.now) kept after → flagged_text after ≡ flagged_text kept ++ flagged (flags_of p) (chars (drop n p.src.now))
back_added p n kept after adds = text_added p n (length p.src.now) kept after adds ∙ ap (λ bs. flagged_text kept ++ flagged (flags_of p) (chars bs)) (slice_back p.src.now n)

-- enough has gone
kept_more : (least new : ℕ) (ps others kept after : List Compound) (p : Compound) (front : Front) → DropsFront least 0 ps (p ∷ others) kept → IsFrontOf p.src.now front → front.bytes ≡ 0
    → new ≡ 0 → AddsPart p front.bytes (length p.src.now) kept after → DropsFront least new ps others after
kept_more least new ps others kept after p front h is none done adds =
    let says : flagged_text after ≡ flagged_text kept ++ flagged_of p =
    back_added p front.bytes kept after adds ∙ ap (λ n. flagged_text kept ++ flagged (flags_of p) (chars (drop n p.src.now))) none in
    record {
      gone = h.gone;
      text = ap (λ l. h.gone ++ (l ++ flagged_text others)) says ∙ ap (λ l. h.gone ++ l) (append_assoc (flagged_text kept) (flagged_of p) (flagged_text others)) ∙ h.text;
      counts = omega (arith, done, h.counts);
      waits = λ l. absurd (omega (arith, l, done));
      shortest = h.shortest;
      none_empty = none_empty_added p front.bytes (length p.src.now) kept after (omega arith) adds h.none_empty;
    }

last_gone : (least left : ℕ) (gone : List FlaggedChar) (f : Flags) (bs : List ℕ) (front : Front) → left ≡ least - width_of gone → IsNoLonger left bs front
    → ((gone ≡ []) ⊎ ((g : List FlaggedChar) × (y : FlaggedChar) × (gone ≡ g ++ y ∷ []) × (width_of g < least)))
    → let now = gone ++ flagged f (chars (take front.bytes bs)) in (now ≡ []) ⊎ ((g : List FlaggedChar) × (y : FlaggedChar) × (now ≡ g ++ y ∷ []) × (width_of g < least))
last_gone least left gone f bs front counts (inl none) short =
    let nothing : flagged f (chars (take front.bytes bs)) ≡ [] = ap (λ n. flagged f (chars (take n bs))) none ∙ ap (flagged f) chars-nil in
    let same : gone ++ flagged f (chars (take front.bytes bs)) ≡ gone = ap (λ l. gone ++ l) nothing ∙ append-nil gone in
    subst (λ (now : List FlaggedChar). (now ≡ []) ⊎ ((g : List FlaggedChar) × (y : FlaggedChar) × (now ≡ g ++ y ∷ []) × (width_of g < least))) (sym same) short
last_gone least left gone f bs front counts (inr (cs, c, parts, less)) short =
    let x : FlaggedChar = record { char = c; flags = f } in
    let own : flagged f (chars (take front.bytes bs)) ≡ flagged f cs ++ x ∷ [] = ap (flagged f) parts ∙ flagged-append f cs (c ∷ []) in
    inr (gone ++ flagged f cs, x, ap (λ l. gone ++ l) own ∙ sym (append_assoc gone (flagged f cs) (x ∷ [])), omega (arith, width_of-append gone (flagged f cs), width_of-flagged f cs, less, counts))

-- a front of the compound goes, or all of it
drops_more : (least left new : ℕ) (ps others kept after : List Compound) (p : Compound) (front : Front) → 0 < left → DropsFront least left ps (p ∷ others) kept → IsFrontOf p.src.now front
    → (left ≤ front.columns) ⊎ (front.bytes ≡ length p.src.now) → IsNoLonger left p.src.now front → new ≡ left - front.columns → AddsPart p front.bytes (length p.src.now) kept after → DropsFront least new ps others after
drops_more least left new ps others kept after p front some h is enough short less adds =
    let f = flags_of p in
    let n = front.bytes in
    let off = flagged f (chars (take n p.src.now)) in
    let back = flagged f (chars (drop n p.src.now)) in
    let none : kept ≡ [] = h.waits some in
    let says : flagged_text after ≡ back = back_added p n kept after adds ∙ ap (λ l. flagged_text l ++ back) none in
    let own : flagged_of p ≡ off ++ back = flagged_cut f p.src.now n is.utf8 is.border in
    let before : flagged_text kept ++ (flagged_of p ++ flagged_text others) ≡ off ++ (back ++ flagged_text others) =
    ap (λ l. flagged_text l ++ (flagged_of p ++ flagged_text others)) none ∙ ap (λ l. l ++ flagged_text others) own ∙ append_assoc off back (flagged_text others) in
    record {
      gone = h.gone ++ off;
      text = append_assoc h.gone off (flagged_text after ++ flagged_text others) ∙ ap (λ l. h.gone ++ (off ++ (l ++ flagged_text others))) says ∙ ap (λ l. h.gone ++ l) (sym before) ∙ h.text;
      counts = omega (arith, less, h.counts, width_of-append h.gone off, width_of-flagged f (chars (take n p.src.now)), is.counts);
      waits = λ l. elim enough as (λ _. after ≡ []) [
        | inl all ↦ absurd (omega (arith, l, less, all))
        | inr all ↦ elim adds.is as (λ _. after ≡ []) [
          | inl (same, nothing) ↦ adds.added ∙ ap (λ l. l ++ adds.part) none ∙ nothing
          | inr (more, q) ↦ absurd (omega (arith, more, all))
        ]
      ];
      shortest = last_gone least left h.gone f p.src.now front h.counts short h.shortest;
      none_empty = none_empty_added p n (length p.src.now) kept after (omega arith) adds h.none_empty;
    }

zero_or_some : (n : ℕ) → (n ≡ 0) ⊎ (0 < n)
zero_or_some zero = inl refl
zero_or_some (suc n) = inr (omega arith)

not_longer : (left : ℕ) (bs : List ℕ) (front : Front) → left ≡ 0 → IsNoLonger left bs front → front.bytes ≡ 0
not_longer left bs front none (inl is) = is
not_longer left bs front none (inr (cs, c, parts, less)) = absurd (omega (arith, none, less))

-- of one compound more the front goes, as far as columns are to go
pub drop_more : (least left new : ℕ) (ps others kept after : List Compound) (p : Compound) (front : Front) → DropsFront least left ps (p ∷ others) kept → IsFrontOf p.src.now front
    → (left ≤ front.columns) ⊎ (front.bytes ≡ length p.src.now) → IsNoLonger left p.src.now front → new ≡ left - front.columns → AddsPart p front.bytes (length p.src.now) kept after → DropsFront least new ps others after
drop_more least left new ps others kept after p front h is enough short less adds = elim (zero_or_some left) as (λ _. DropsFront least new ps others after) [
  | inl none ↦ kept_more least new ps others kept after p front (subst (λ n. DropsFront least n ps (p ∷ others) kept) none h) is (not_longer left p.src.now front none short) (omega (arith, less, none)) adds
  | inr some ↦ drops_more least left new ps others kept after p front some h is enough short less adds
]

-- a front that goes on no further than the last but one takes no more columns
shorter_front : (g other zs : List FlaggedChar) (y z : FlaggedChar) → g ++ y ∷ [] ≡ other ++ z ∷ zs → width_of other ≤ width_of g
shorter_front g [] zs y z e = omega arith
shorter_front [] (o ∷ os) zs y z e = let rest : [] ≡ os ++ z ∷ zs = cc in absurd (omega (arith, ap length rest, length-append os (z ∷ zs)))
shorter_front (x ∷ g) (o ∷ os) zs y z e =
    let head : x ≡ o = cc in
    let rest : g ++ y ∷ [] ≡ os ++ z ∷ zs = cc in
    omega (arith, shorter_front g os zs y z rest, ap (λ (x : FlaggedChar). char_columns x.char) head)

shortest_front_is : (least : ℕ) (gone back other more : List FlaggedChar) → ((gone ≡ []) ⊎ ((g : List FlaggedChar) × (y : FlaggedChar) × (gone ≡ g ++ y ∷ []) × (width_of g < least)))
    → other ++ more ≡ gone ++ back → least ≤ width_of other → length gone ≤ length other
shortest_front_is least gone back other more (inl none) same enough = omega (arith, ap length none)
shortest_front_is least gone back other more (inr (g, y, parts, less)) same enough = elim (fronts gone back other more (sym same)) as (λ _. length gone ≤ length other) [
  | inl both ↦ omega (arith, ap length both.0)
  | inr (inl (z, zs, longer, after)) ↦ omega (arith, ap length longer, length-append gone (z ∷ zs))
  | inr (inr (z, zs, longer, after)) ↦ absurd (omega (arith, less, enough, shorter_front g other zs y z (sym parts ∙ longer)))
]

-- after the last compound the shortest front has gone
pub drop_ends : (least left : ℕ) (ps kept : List Compound) → DropsFront least left ps [] kept → LosesFront least ps kept
drop_ends least left ps kept h =
    let all : h.gone ++ flagged_text kept ≡ flagged_text ps = ap (λ l. h.gone ++ l) (sym (append-nil (flagged_text kept))) ∙ h.text in
    record {
      without = record {
        gone = h.gone;
        cut = all;
        enough = elim (zero_or_some left) as (λ _. (least ≤ width_of h.gone) ⊎ (flagged_text kept ≡ [])) [
          | inl none ↦ inl (omega (arith, h.counts, none))
          | inr some ↦ inr (ap flagged_text (h.waits some))
        ];
        shortest = λ other more cut enough. shortest_front_is least h.gone (flagged_text kept) other more h.shortest (cut ∙ sym all) enough;
      };
      none_empty = h.none_empty;
    }

-- the columns of one compound more
pub total_more : (ps : List Compound) (i n w total : ℕ) (d : Compound) → i < length ps → w ≡ columns (chars (get_or ps i d).src.now) → n + width_of (flagged_text (drop i ps)) ≡ total
    → n + w + width_of (flagged_text (drop (i + 1) ps)) ≡ total
total_more ps i n w total d l own held =
    let p = get_or ps i d in
    let rest = drop (i + 1) ps in
    let at : drop i ps ≡ p ∷ rest = at_drop_more (λ l. l) ps i d l in
    omega (arith, own, held, ap (λ l. width_of (flagged_text l)) at, width_of-append (flagged_of p) (flagged_text rest), width_of-flagged (flags_of p) (chars p.src.now))

-- the next compound is the first of those that are left
pub next_kept : (most left i : ℕ) (ps kept : List Compound) (d : Compound) → i < length ps → KeepsFront most left ps (drop i ps) kept → KeepsFront most left ps (get_or ps i d ∷ drop (i + 1) ps) kept
next_kept most left i ps kept d l held = subst (λ qs. KeepsFront most left ps qs kept) (at_drop_more (λ l. l) ps i d l) held

-- the next compound is the first of those that are left, where a front goes
pub next_dropped : (least left i : ℕ) (ps kept : List Compound) (d : Compound) → i < length ps → DropsFront least left ps (drop i ps) kept → DropsFront least left ps (get_or ps i d ∷ drop (i + 1) ps) kept
next_dropped least left i ps kept d l held = subst (λ qs. DropsFront least left ps qs kept) (at_drop_more (λ l. l) ps i d l) held

-- what follows of the value of an `Ok`
pub if_ok : {T E : Type 0} (P Q : T → Type 0) (r : Result T E) → ((x : T) → P x → Q x) → IfOk r P → IfOk r Q
if_ok P Q (Ok x) f h = f x h
if_ok P Q (Err e) f h = tt
