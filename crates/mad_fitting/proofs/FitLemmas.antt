-- What is kept of compounds that don't fit.
use Rattle.std.proofs.Common.{◌≡◌, ℕ, ◌+◌, ◌-◌, ◌/◌, ◌<◌, ◌≤◌, ◌⊎◌, inl, inr, List, [], ◌∷◌, ◌++◌, length, map, refl, sym, ap, ◌∙◌, arith, subst}
use Rattle.std.proofs.lemmas.Bool.{cases_lt}
use Rattle.std.proofs.lemmas.List.{append_assoc, length-append}
use Rattle.mad_characters.proofs.CharColumns.{char_columns-three}
use Rattle.mad_md.specs.Flagged.{FlaggedChar, flagged_text, run_of}
use Rattle.mad_md.specs.declared.alignment.Alignment.{Alignment}
use Rattle.mad_md.specs.declared.alignment.Alignment.TheVariants.{Unspecified, Left, Center, Right}
use Rattle.mad_md.specs.declared.compound.Compound.{Compound}
use Rattle.mad_measure.specs.TextColumns.{width_of}
use Rattle.mad_measure.proofs.FlaggedLemmas.{width_of-append}
use Rattle.mad_measure.proofs.AllLemmas.{all_push}
use Rattle.mad_fitting.specs.Ellipses.{IsEllipsis, IsShortened, EndsInEllipsis, HasEllipsesRound}
use Rattle.mad_fitting.specs.Fitted.{IsFitted, IsFittedCenter}
use Rattle.mad_fitting.specs.Filled.{NoneEmpty}
use Rattle.mad_fitting.specs.Fronts.{IsLongestFront, IsLongestEnd, IsWithoutFront, IsWithoutEnd}
use Rattle.mad_fitting.specs.Shortening.{IsEndReplaced, IsFrontReplaced, AreBothReplaced}
use Rattle.mad_fitting.specs.Thinning.{IsCutInside}
use Rattle.mad_fitting.proofs.EllipsisLemmas.{ellipsis_width, ellipsis_bytes, width-append, width-cons, own_parts, after_gap, pushed, put_in_front}

-- ---- the shortest end goes: the longest front stays

-- what is left without an end of enough columns fits
pub fits_left : (least most : ℕ) (text left : List FlaggedChar) → width_of text ≤ most + least → IsWithoutEnd least text left → width_of left ≤ most
fits_left least most text left sum h = elim h.enough as (λ _. width_of left ≤ most) [
  | inl enough ↦ omega (arith, sum, enough, ap width_of h.cut, width_of-append left h.gone)
  | inr none ↦ omega (arith, ap width_of none)
]

longest_left : (least most : ℕ) (text left : List FlaggedChar) → width_of text ≡ most + least → IsWithoutEnd least text left → IsLongestFront most text left
longest_left least most text left sum h = record {
  rest = h.gone;
  cut = h.cut;
  fits = fits_left least most text left (omega (arith, sum)) h;
  longest = λ other more cut fits.
      let fewer = h.shortest other more cut (omega (arith, sum, fits, ap width_of cut, width_of-append other more)) in
      omega (arith, fewer, length-append left h.gone, length-append other more, ap length (h.cut ∙ sym cut));
}

-- what is left without a front of enough columns fits
pub fits_right : (least most : ℕ) (text left : List FlaggedChar) → width_of text ≤ most + least → IsWithoutFront least text left → width_of left ≤ most
fits_right least most text left sum h = elim h.enough as (λ _. width_of left ≤ most) [
  | inl enough ↦ omega (arith, sum, enough, ap width_of h.cut, width_of-append h.gone left)
  | inr none ↦ omega (arith, ap width_of none)
]

longest_right : (least most : ℕ) (text left : List FlaggedChar) → width_of text ≡ most + least → IsWithoutFront least text left → IsLongestEnd most text left
longest_right least most text left sum h = record {
  front = h.gone;
  cut = h.cut;
  fits = fits_right least most text left (omega (arith, sum)) h;
  longest = λ more other cut fits.
      let fewer = h.shortest more other cut (omega (arith, sum, fits, ap width_of cut, width_of-append more other)) in
      omega (arith, fewer, length-append h.gone left, length-append more other, ap length (h.cut ∙ sym cut));
}

-- no more than two columns too many go
gone_end : (least : ℕ) (text left gone : List FlaggedChar) → 0 < least → left ++ gone ≡ text → ((more other : List FlaggedChar) → more ++ other ≡ text → least ≤ width_of other → length gone ≤ length other) → width_of gone ≤ least + 2
gone_end least text left [] some cut shortest = omega arith
gone_end least text left (y ∷ gone) some cut shortest = elim (cases_lt (width_of gone) least) as (λ _. width_of (y ∷ gone) ≤ least + 2) [
  | inl less ↦ omega (arith, less, char_columns-three y.char)
  | inr enough ↦ absurd (omega (arith, shortest (left ++ y ∷ []) gone (append_assoc left (y ∷ []) gone ∙ cut) enough))
]

-- ---- with an ellipsis in place of the end

-- with an ellipsis in place of their end compounds are parts of the text, and at least one ellipsis
pub end_shortened : (least : ℕ) (ps result : List Compound) (h : IsEndReplaced least ps result) (n : ℕ) (text : List FlaggedChar) → IsShortened n text ps → (k : ℕ) × IsShortened (k + 1) text result
end_shortened least ps result h n text s = let (k, own) = h.loses.shortened n text s in (k, subst (IsShortened (k + 1) text) (sym h.parts) (pushed k text h.kept h.last own h.ellipsis))

-- with an ellipsis in place of their end compounds take one column beside what is kept
pub end_width : (least : ℕ) (ps result : List Compound) (h : IsEndReplaced least ps result) → width_of (flagged_text result) ≡ width_of (flagged_text h.kept) + 1
end_width least ps result h =
    omega (arith, ap (λ l. width_of (flagged_text l)) h.parts, width-append h.kept (h.last ∷ []), width-cons h.last [], ellipsis_width h.last h.ellipsis)

-- with an ellipsis in place of their end none of the compounds is empty
pub end_none_empty : (least : ℕ) (ps result : List Compound) (h : IsEndReplaced least ps result) → NoneEmpty result
end_none_empty least ps result h =
    subst NoneEmpty (sym h.parts) (all_push (λ p. 0 < length p.src.now) h.kept h.last h.loses.none_empty (omega (arith, ellipsis_bytes h.last h.ellipsis)))

end_says : (least : ℕ) (ps result : List Compound) (h : IsEndReplaced least ps result) → EndsInEllipsis (flagged_text h.kept) result
end_says least ps result h = record { others = h.kept; last = h.last; parts = h.parts; ellipsis = h.ellipsis; says = refl }

-- aligned left, compounds are fitted with an ellipsis in place of the end
pub left_fitted : (indent width excess : ℕ) (ps result : List Compound) → width < indent + width_of (flagged_text ps) → excess ≡ indent + width_of (flagged_text ps) - width → 2 ≤ width → IsEndReplaced (excess + 1) ps result
    → IsFitted Left indent width ps result
left_fitted indent width excess ps result wide is two h = record {
  shortened = let (k, own) = end_shortened (excess + 1) ps result h 0 (flagged_text ps) (own_parts ps) in (k + 1, λ _. omega arith, own);
  none = λ z. absurd (omega (arith, z, two));
  alone = λ z. absurd (omega (arith, z, two));
  fits = λ room.
      let kept = fits_left (excess + 1) (width - indent - 1) (flagged_text ps) (flagged_text h.kept) (omega (arith, is, wide, room)) h.loses.without in
      omega (arith, kept, room, end_width (excess + 1) ps result h);
  aligned = λ room. (
    flagged_text h.kept,
    longest_left (excess + 1) (width - indent - 1) (flagged_text ps) (flagged_text h.kept) (omega (arith, is, wide, room)) h.loses.without,
    end_says (excess + 1) ps result h,
  );
  none_empty = λ _. end_none_empty (excess + 1) ps result h;
}

-- ---- with an ellipsis in place of the front

front_parts : (least n : ℕ) (text : List FlaggedChar) (kept : List Compound) (h : IsWithoutFront least text (flagged_text kept)) → IsShortened 0 text kept
front_parts least n text kept h = subst (λ t. IsShortened 0 t kept) h.cut (after_gap h.gone 0 (flagged_text kept) kept (own_parts kept))

-- aligned right, compounds are fitted with an ellipsis in place of the front
pub right_fitted : (indent width excess : ℕ) (ps result : List Compound) → width < indent + width_of (flagged_text ps) → excess ≡ indent + width_of (flagged_text ps) - width → 2 ≤ width → IsFrontReplaced (excess + 1) ps result
    → IsFitted Right indent width ps result
right_fitted indent width excess ps result wide is two h =
    let own = front_parts (excess + 1) 0 (flagged_text ps) h.kept h.loses.without in
    let says : width_of (flagged_text result) ≡ width_of (flagged_text h.kept) + 1 = omega (arith, ap (λ l. width_of (flagged_text l)) h.parts, width-cons h.first h.kept, ellipsis_width h.first h.ellipsis) in
    record {
      shortened = (1, λ _. omega arith, subst (IsShortened 1 (flagged_text ps)) (sym h.parts) (put_in_front 0 (flagged_text ps) h.kept h.first own h.ellipsis));
      none = λ z. absurd (omega (arith, z, two));
      alone = λ z. absurd (omega (arith, z, two));
      fits = λ room.
          let kept = fits_right (excess + 1) (width - indent - 1) (flagged_text ps) (flagged_text h.kept) (omega (arith, is, wide, room)) h.loses.without in
          omega (arith, kept, room, says);
      aligned = λ room. (
        flagged_text h.kept,
        longest_right (excess + 1) (width - indent - 1) (flagged_text ps) (flagged_text h.kept) (omega (arith, is, wide, room)) h.loses.without,
        record { first = h.first; others = h.kept; parts = h.parts; ellipsis = h.ellipsis; says = refl },
      );
      none_empty = λ _. subst NoneEmpty (sym h.parts) (omega (arith, ellipsis_bytes h.first h.ellipsis), h.loses.none_empty);
    }

-- ---- centered

-- centered, with one column too many, compounds are fitted with an ellipsis in place of the end
pub center_one : (indent width excess : ℕ) (ps result : List Compound) → width < indent + width_of (flagged_text ps) → excess ≡ indent + width_of (flagged_text ps) - width → 2 ≤ width → excess / 2 ≡ 0
    → IsEndReplaced (excess + 1) ps result → IsFitted Center indent width ps result
center_one indent width excess ps result wide is two half h = record {
  shortened = let (k, own) = end_shortened (excess + 1) ps result h 0 (flagged_text ps) (own_parts ps) in (k + 1, λ _. omega arith, own);
  none = λ z. absurd (omega (arith, z, two));
  alone = λ z. absurd (omega (arith, z, two));
  fits = λ room.
      let kept = fits_left (excess + 1) (width - indent - 1) (flagged_text ps) (flagged_text h.kept) (omega (arith, is, wide, room)) h.loses.without in
      omega (arith, kept, room, end_width (excess + 1) ps result h);
  aligned = λ room.
      let same : excess ≡ width_of (flagged_text ps) - (width - indent) = omega (arith, is, wide, room) in
      subst (λ e. IsFittedCenter e (flagged_text ps) result) same (record {
        one = λ z. (flagged_text h.kept, h.loses.without, end_says (excess + 1) ps result h);
        more = λ some. absurd (omega (arith, some, half));
      });
  none_empty = λ _. end_none_empty (excess + 1) ps result h;
}

-- centered, with more too many, compounds are fitted with an ellipsis in place of the front and one in place of the end
pub center_more : (indent width excess half : ℕ) (ps result : List Compound) → width < indent + width_of (flagged_text ps) → excess ≡ indent + width_of (flagged_text ps) - width → 2 ≤ width → half ≡ excess / 2 → 0 < half → half ≤ excess
    → AreBothReplaced (half + 1) (excess - half + 1) ps result → IsFitted Center indent width ps result
center_more indent width excess half ps result wide is two halved some part h =
    let text = flagged_text ps in
    let back = front_parts (half + 1) 0 text h.back h.loses.without in
    let (k, own) = end_shortened (excess - half + 1) h.back h.others h.end 0 text back in
    let says : width_of (flagged_text result) ≡ width_of (flagged_text h.end.kept) + 2 =
    omega (arith, ap (λ l. width_of (flagged_text l)) h.parts, width-cons h.first h.others, ellipsis_width h.first h.ellipsis, end_width (excess - half + 1) h.back h.others h.end) in
    record {
      shortened = (k + 1 + 1, λ _. omega arith, subst (IsShortened (k + 1 + 1) text) (sym h.parts) (put_in_front (k + 1) text h.others h.first own h.ellipsis));
      none = λ z. absurd (omega (arith, z, two));
      alone = λ z. absurd (omega (arith, z, two));
      fits = λ room.
          let kept_back = fits_right (half + 1) (width - indent + excess - half - 1) text (flagged_text h.back) (omega (arith, is, wide, room, part)) h.loses.without in
          let kept = fits_left (excess - half + 1) (width - indent - 2) (flagged_text h.back) (flagged_text h.end.kept) (omega (arith, kept_back, part, room, some)) h.end.loses.without in
          omega (arith, kept, room, says);
      aligned = λ room.
          let same : excess ≡ width_of text - (width - indent) = omega (arith, is, wide, room) in
          subst (λ e. IsFittedCenter e text result) same (record {
            one = λ z. absurd (omega (arith, z, some, halved));
            more = λ m. subst (λ n. (b : List FlaggedChar) × (l : List FlaggedChar) × IsWithoutFront (n + 1) text b × IsWithoutEnd (excess - n + 1) b l × HasEllipsesRound l result) halved (
              flagged_text h.back,
              flagged_text h.end.kept,
              h.loses.without,
              h.end.loses.without,
              record { first = h.first; others = h.others; parts = h.parts; ellipsis = h.ellipsis; rest = end_says (excess - half + 1) h.back h.others h.end },
            );
          });
      none_empty = λ _. subst NoneEmpty (sym h.parts) (omega (arith, ellipsis_bytes h.first h.ellipsis), end_none_empty (excess - half + 1) h.back h.others h.end);
    }

-- ---- without alignment

inside_done : (indent width excess : ℕ) (ps result : List Compound) → width < indent + width_of (flagged_text ps) → excess ≡ indent + width_of (flagged_text ps) - width → 2 ≤ width → (h : IsCutInside excess ps result) → h.left ≡ 0
    → IsFitted Unspecified indent width ps result
inside_done indent width excess ps result wide is two h none =
    let text = flagged_text ps in
    let same : result ≡ h.cut = h.done none in
    let own = subst (IsShortened (0 + h.thinned.more) text) (sym same) (h.thinned.shortened 0 text (own_parts ps)) in
    let wide_now : width_of (flagged_text result) ≡ width_of (flagged_text h.cut) = ap (λ l. width_of (flagged_text l)) same in
    record {
      shortened = (0 + h.thinned.more, λ _. omega (arith, h.thinned.some (omega (arith, none, is, wide))), own);
      none = λ z. absurd (omega (arith, z, two));
      alone = λ z. absurd (omega (arith, z, two));
      fits = λ room. omega (arith, room, is, wide, none, wide_now, h.thinned.gone);
      aligned = λ room. (
        0 + h.thinned.more,
        omega (arith, h.thinned.some (omega (arith, none, is, wide))),
        own,
        omega (arith, room, is, wide, none, wide_now, h.thinned.within),
      );
      none_empty = λ filled. subst NoneEmpty (sym same) (h.thinned.none_empty filled);
    }

inside_more : (indent width excess : ℕ) (ps result : List Compound) → width < indent + width_of (flagged_text ps) → excess ≡ indent + width_of (flagged_text ps) - width → 2 ≤ width → (h : IsCutInside excess ps result) → 0 < h.left
    → IsFitted Unspecified indent width ps result
inside_more indent width excess ps result wide is two h some =
    let text = flagged_text ps in
    let end = h.more some in
    let (k, own) = end_shortened (h.left + 1) h.cut result end (0 + h.thinned.more) text (h.thinned.shortened 0 text (own_parts ps)) in
    let exact = h.thinned.exact some in
    let says = end_width (h.left + 1) h.cut result end in
    let off = end.loses.without in
    record {
      shortened = (k + 1, λ _. omega arith, own);
      none = λ z. absurd (omega (arith, z, two));
      alone = λ z. absurd (omega (arith, z, two));
      fits = λ room.
          let kept = fits_left (h.left + 1) (width - indent - 1) (flagged_text h.cut) (flagged_text end.kept) (omega (arith, is, wide, room, exact)) off in
          omega (arith, kept, room, says);
      aligned = λ room. (
        k + 1,
        omega arith,
        own,
        let gone = gone_end (h.left + 1) (flagged_text h.cut) (flagged_text end.kept) off.gone (omega arith) off.cut off.shortest in
            omega (arith, gone, says, exact, is, wide, room, ap width_of off.cut, width_of-append (flagged_text end.kept) off.gone),
      );
      none_empty = λ _. end_none_empty (h.left + 1) h.cut result end;
    }

-- a number is 0 or above it
pub some_left : (n : ℕ) → (n ≡ 0) ⊎ (0 < n)
some_left n = elim (cases_lt 0 n) as (λ _. (n ≡ 0) ⊎ (0 < n)) [ inl some ↦ inr some | inr none ↦ inl (omega (arith, none)) ]

-- without alignment, compounds are fitted where they are cut in the middle
pub inside_fitted : (indent width excess : ℕ) (ps result : List Compound) → width < indent + width_of (flagged_text ps) → excess ≡ indent + width_of (flagged_text ps) - width → 2 ≤ width → IsCutInside excess ps result
    → IsFitted Unspecified indent width ps result
inside_fitted indent width excess ps result wide is two h = elim (some_left h.left) as (λ _. IsFitted Unspecified indent width ps result) [
  | inl none ↦ inside_done indent width excess ps result wide is two h none
  | inr some ↦ inside_more indent width excess ps result wide is two h some
]

-- ---- narrow places

-- nothing at all is fitted to a width of 0
pub none_fitted : (align : Alignment) (indent width : ℕ) (ps result : List Compound) → width ≡ 0 → result ≡ [] → IsFitted align indent width ps result
none_fitted align indent width ps result zero none = record {
  shortened = (0, λ some. absurd (omega (arith, some, zero)), subst (IsShortened 0 (flagged_text ps)) (sym none) refl);
  none = λ z. none;
  alone = λ z. absurd (omega (arith, z, zero));
  fits = λ room. absurd (omega (arith, room, zero));
  aligned = λ room. absurd (omega (arith, room, zero));
  none_empty = λ _. subst NoneEmpty (sym none) tt;
}

-- an ellipsis alone is fitted to a width of 1
pub alone_fitted : (align : Alignment) (indent width : ℕ) (ps result : List Compound) (e : Compound) → width ≡ 1 → result ≡ e ∷ [] → IsEllipsis e → IsFitted align indent width ps result
alone_fitted align indent width ps result e one parts is = record {
  shortened = (1, λ _. omega arith, subst (IsShortened 1 (flagged_text ps)) (sym parts) (put_in_front 0 (flagged_text ps) [] e refl is));
  none = λ z. absurd (omega (arith, z, one));
  alone = λ z. ap (map run_of) parts ∙ ap (λ r. r ∷ []) is;
  fits = λ room. absurd (omega (arith, room, one));
  aligned = λ room. absurd (omega (arith, room, one));
  none_empty = λ _. subst NoneEmpty (sym parts) (omega (arith, ellipsis_bytes e is), tt);
}
