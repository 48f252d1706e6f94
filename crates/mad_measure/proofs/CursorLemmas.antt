-- The tokens that are left from a position on, step by step.
use Rattle.std.proofs.Common.{◌≡◌, ℕ, ◌≤◌, ◌<◌, ◌+◌, ◌-◌, List, [], ◌∷◌, ◌++◌, length, drop, get_or, ◌⊎◌, refl, sym, ap, ◌∙◌, arith, subst, append-nil, inl, inr}
use Rattle.std.proofs.lemmas.Bool.{cases_lt}
use Rattle.std.proofs.lemmas.List.{at_drop_more, at_drop_all}
use Rattle.std.proofs.lemmas.Str.{IsCharBoundary-start}
use Rattle.std.specs.Iterator.{Yields}
use Rattle.std.specs.Str.{IsCharBoundary, IsUtf8}
use Rattle.mad_md.specs.declared.compound.Compound.{Compound}
use Rattle.mad_measure.specs.Tokens.{IsTokenAt, AreTokensFrom, AreTokensOf}
use Rattle.mad_measure.specs.TokenPositions.{AreTokensRest, first_text, bytes_of, IsSamePosition}
use Rattle.mad_measure.specs.TokensLeft.{AreTokensLeft, Gives}
use Rattle.mad_measure.specs.declared.tokens.Token.{Token}
use Rattle.mad_measure.specs.declared.token_cursor.Tokens.{Tokens}
use Rattle.mad_measure.proofs.UniqueLemmas.{first_unique}

-- from the beginning on they are all tokens
pub from_start : (max : ℕ) (ps : List Compound) (ts : List Token) → AreTokensRest max 0 ps ts → AreTokensOf max ps ts
from_start max [] ts h = h
from_start max (p ∷ ps) ts h = h

-- all tokens are left at the beginning
pub to_start : (max : ℕ) (ps : List Compound) (ts : List Token) → AreTokensOf max ps ts → AreTokensRest max 0 ps ts
to_start max [] ts h = h
to_start max (p ∷ ps) ts h = h

-- at the end of a compound none of its tokens is left
past_end : (max start : ℕ) (p : Compound) (own : List Token) → start ≡ length p.src.now → AreTokensFrom max p start own → own ≡ []
past_end max start p [] e h = refl
past_end max start p (t ∷ ts) e h = absurd (omega (arith, e, h.0.within.some, h.0.begins, h.0.within.end.0, ap (λ (q : Compound). length q.src.now) h.0.part_of))

-- those of the next compound are
to_next : (max start : ℕ) (p : Compound) (ps : List Compound) (ts : List Token) → start ≡ length p.src.now → AreTokensRest max 0 ps ts → AreTokensRest max start (p ∷ ps) ts
to_next max start p ps ts e h = ([], ts, refl, e, from_start max ps ts h)

from_next : (max start : ℕ) (p : Compound) (ps : List Compound) (ts : List Token) → start ≡ length p.src.now → AreTokensRest max start (p ∷ ps) ts → AreTokensRest max 0 ps ts
from_next max start p ps ts e (own, others, joins, from, more) =
    let same : ts ≡ others = joins ∙ ap (λ l. l ++ others) (past_end max start p own e from) in
    subst (λ (l : List Token). AreTokensRest max 0 ps l) (sym same) (to_start max ps others more)

-- each position is the same as itself
pub same_position : (start : ℕ) (ps : List Compound) → (0 < start → IsCharBoundary (first_text ps) start) → IsSamePosition start ps start ps
same_position start ps border = record { border = border; bytes = refl; tokens = λ max ts h. h; all = λ max ts h. h }

past_is_end : (bs : List ℕ) (at : ℕ) → (0 < at → IsCharBoundary bs at) → length bs ≤ at → (0 < at) ⊎ (at ≤ 0) → at ≡ length bs
past_is_end bs at border past (inl some) = omega (arith, (border some).0)
past_is_end bs at border past (inr none) = omega arith

-- the end of a compound is the beginning of the next
position_next : (start : ℕ) (ps : List Compound) (at : ℕ) (q : Compound) (qs : List Compound) → IsSamePosition start ps at (q ∷ qs) → length q.src.now ≤ at → IsSamePosition start ps 0 qs
position_next start ps at q qs h past =
    let done : at ≡ length q.src.now = past_is_end q.src.now at h.border past (cases_lt 0 at) in
    record {
      border = λ l. absurd (omega (arith, l));
      bytes = omega (arith, h.bytes, done);
      tokens = λ max ts k. h.tokens max ts (to_next max at q qs ts done k);
      all = λ max ts k. from_next max at q qs ts done (h.all max ts k);
    }

-- the same by the number of the compound
pub position_more : (start : ℕ) (ps all : List Compound) (i at : ℕ) (d : Compound) → i < length all → IsSamePosition start ps at (drop i all) → length (get_or all i d).src.now ≤ at → IsSamePosition start ps 0 (drop (i + 1) all)
position_more start ps all i at d l h past = position_next start ps at (get_or all i d) (drop (i + 1) all) (subst (IsSamePosition start ps at) (at_drop_more (λ l. l) all i d l) h) past

-- the end of the last compound is the end
pub position_end : (start : ℕ) (ps all : List Compound) (i at : ℕ) → length all ≤ i → IsSamePosition start ps at (drop i all) → (max : ℕ) → AreTokensRest max start ps []
position_end start ps all i at l h max = h.tokens max [] (subst (λ (qs : List Compound). AreTokensRest max at qs []) (sym (at_drop_all (λ l. l) all i l)) refl)

-- ---- a token that comes

came_at : (max start : ℕ) (ps : List Compound) (at : ℕ) (q : Compound) (qs : List Compound) (t : Token) → IsSamePosition start ps at (q ∷ qs) → IsTokenAt max q at t
    → (ts : List Token) → AreTokensRest max t.end_in_compound (q ∷ qs) ts → AreTokensRest max start ps (t ∷ ts)
came_at max start ps at q qs t h is ts (own, others, joins, from, more) = h.tokens max (t ∷ ts) (t ∷ own, others, ap (λ l. t ∷ l) joins, (is, from), more)

-- it is the first of those that were left, and the others are still left
only_first : (max : ℕ) (q : Compound) (at : ℕ) (qs : List Compound) (t : Token) (own others ts : List Token) → at < length q.src.now → IsTokenAt max q at t → ts ≡ own ++ others → AreTokensFrom max q at own → AreTokensOf max qs others
    → (rest : List Token) × (ts ≡ t ∷ rest) × AreTokensRest max t.end_in_compound (q ∷ qs) rest
only_first max q at qs t [] others ts inside is joins from more = absurd (omega (arith, from, inside))
only_first max q at qs t (u ∷ us) others ts inside is joins from more =
    let same : u ≡ t = first_unique max at q u t from.0 is in (
      us ++ others,
      joins ∙ ap (λ x. x ∷ (us ++ others)) same,
      (us, others, refl, subst (λ (x : Token). AreTokensFrom max q x.end_in_compound us) same from.1, more),
    )

came_first : (max start : ℕ) (ps : List Compound) (at : ℕ) (q : Compound) (qs : List Compound) (t : Token) → IsSamePosition start ps at (q ∷ qs) → at < length q.src.now → IsTokenAt max q at t
    → (ts : List Token) → AreTokensRest max start ps ts → (rest : List Token) × (ts ≡ t ∷ rest) × AreTokensRest max t.end_in_compound (q ∷ qs) rest
came_first max start ps at q qs t h inside is ts left =
    let parts = h.all max ts left in
    only_first max q at qs t parts.0 parts.1 ts inside is parts.2 parts.3 parts.4

-- the same by the number of the compound
pub came : (max start : ℕ) (ps all : List Compound) (i at : ℕ) (d : Compound) (t : Token) → i < length all → IsSamePosition start ps at (drop i all) → IsTokenAt max (get_or all i d) at t
    → (ts : List Token) → AreTokensRest max t.end_in_compound (drop i all) ts → AreTokensRest max start ps (t ∷ ts)
came max start ps all i at d t l h is ts left =
    let there = at_drop_more (λ l. l) all i d l in
    came_at max start ps at (get_or all i d) (drop (i + 1) all) t (subst (IsSamePosition start ps at) there h) is ts (subst (λ (qs : List Compound). AreTokensRest max t.end_in_compound qs ts) there left)

-- whatever tokens were left, the one that came is their first, and the others are still left
pub came_alone : (max start : ℕ) (ps all : List Compound) (i at : ℕ) (d : Compound) (t : Token) → i < length all → IsSamePosition start ps at (drop i all) → at < length (first_text (drop i all)) → IsTokenAt max (get_or all i d) at t
    → (ts : List Token) → AreTokensRest max start ps ts → (rest : List Token) × (ts ≡ t ∷ rest) × AreTokensRest max t.end_in_compound (drop i all) rest
came_alone max start ps all i at d t l h inside is ts left =
    let there = at_drop_more (λ l. l) all i d l in
    let first = came_first max start ps at (get_or all i d) (drop (i + 1) all) t (subst (IsSamePosition start ps at) there h) (subst (λ (qs : List Compound). at < length (first_text qs)) there inside) is ts left in
    (first.0, first.1, subst (λ (qs : List Compound). AreTokensRest max t.end_in_compound qs first.0) (sym there) first.2)

-- a position that is a border where it isn't the text's beginning is one in any case
pub border_by : (bs cs : List ℕ) (at : ℕ) → (0 < at → IsCharBoundary bs at) → bs ≡ cs → IsUtf8 cs → (0 < at) ⊎ (at ≤ 0) → IsCharBoundary cs at
border_by bs cs at border same utf8 (inl some) = subst (λ (l : List ℕ). IsCharBoundary l at) same (border some)
border_by bs cs at border same utf8 (inr none) = let zero : 0 ≡ at = omega arith in subst (IsCharBoundary cs) zero (IsCharBoundary-start cs utf8)

-- where a token may begin
pub border_there : (all : List Compound) (i at : ℕ) (d : Compound) → i < length all → (0 < at → IsCharBoundary (first_text (drop i all)) at) → 0 < at → IsCharBoundary (get_or all i d).src.now at
border_there all i at d l border some = subst (λ (bs : List ℕ). IsCharBoundary bs at) (ap first_text (at_drop_more (λ l. l) all i d l)) (border some)

-- the text of the compound
pub text_there : (all : List Compound) (i : ℕ) (d : Compound) → i < length all → first_text (drop i all) ≡ (get_or all i d).src.now
text_there all i d l = ap first_text (at_drop_more (λ l. l) all i d l)

-- at least one byte for the token
pub fewer_bytes : (max start : ℕ) (ps all : List Compound) (i at : ℕ) (d : Compound) (t : Token) → i < length all → IsSamePosition start ps at (drop i all) → IsTokenAt max (get_or all i d) at t → bytes_of (drop i all) - t.end_in_compound < bytes_of ps - start
fewer_bytes max start ps all i at d t l h is =
    omega (arith, h.bytes, ap bytes_of (at_drop_more (λ l. l) all i d l), is.begins, is.within.some, is.within.end.0, ap (λ (q : Compound). length q.src.now) is.part_of)

-- ---- tokens that came one after the other

-- those that came and those that are left were left before
pub read_so_far : (xs : List Token) (s t : Tokens) → Yields Gives s xs t → (ts : List Token) → AreTokensLeft t ts → AreTokensLeft s (xs ++ ts)
read_so_far [] s t same ts h = subst (λ (x : Tokens). AreTokensLeft x ts) (sym same) h
read_so_far (x ∷ xs) s t (j, step, more) ts h = step.tokens (xs ++ ts) (read_so_far xs j t more ts h)

-- and only these
pub left_front : (xs : List Token) (s t : Tokens) → Yields Gives s xs t → (ts : List Token) → AreTokensLeft s ts → (rest : List Token) × (ts ≡ xs ++ rest) × AreTokensLeft t rest
left_front [] s t same ts h = (ts, refl, subst (λ (x : Tokens). AreTokensLeft x ts) same h)
left_front (x ∷ xs) s t (j, step, more) ts h =
    let next = step.all ts h in
    let rest = left_front xs j t more next.0 next.2 in
    (rest.0, next.1 ∙ ap (λ l. x ∷ l) rest.1, rest.2)

-- where none is left, those that came are all
pub all_read : (xs : List Token) (s t : Tokens) → Yields Gives s xs t → AreTokensLeft t [] → AreTokensLeft s xs
all_read xs s t came none = subst (AreTokensLeft s) (append-nil xs) (read_so_far xs s t came [] none)
