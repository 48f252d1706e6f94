-- Compounds that are cut as they are passed over.
use Rattle.std.proofs.Common.{◌≡◌, ℕ, ◌+◌, ◌-◌, ◌<◌, ◌≤◌, ◌⊎◌, inl, inr, List, [], ◌∷◌, ◌++◌, length, take, drop, get_or, slice_range, refl, sym, ap, ◌∙◌, arith, subst}
use Rattle.std.specs.Str.{IsUtf8, IsCharBoundary}
use Rattle.std.proofs.lemmas.Bool.{cases_lt}
use Rattle.std.proofs.lemmas.List.{append_assoc, append-nil, length-drop, length-take, get_or-drop, drop-drop}
use Rattle.std.proofs.lemmas.Str.{IsUtf8-between}
use Rattle.mad_md.specs.Flagged.{flags_of}
use Rattle.mad_md.specs.declared.compound.Compound.{Compound}
use Rattle.mad_fitting.specs.CenteredCuts.{IsCenteredCut}
use Rattle.mad_fitting.specs.Cuts.{IsPartOf, IsPart, IsInside}
use Rattle.mad_fitting.specs.Ellipses.{IsEllipsis, IsShortened}
use Rattle.mad_fitting.specs.Order.{Serves}
use Rattle.mad_fitting.specs.Parts.{gain_of}
use Rattle.mad_fitting.specs.Sweeps.{AreInOrder, Cuts, IsMoved, IsThinnedBy, Sweeps}
use Rattle.mad_fitting.specs.Turns.{IsCutFor}
use Rattle.mad_fitting.specs.declared.centered.Cut.{Cut}
use Rattle.mad_fitting.specs.declared.parts.Run.{Run}
use Rattle.mad_fitting.specs.declared.sweeping.Sweep.{Sweep}
use Rattle.mad_fitting.proofs.CutLemmas.{is_inside, cut_from, cut_columns, cut_shortened, cut_none_empty, gone_columns}
use Rattle.mad_fitting.proofs.InsideLemmas.{cut_narrow, cut_serves}

-- ---- one cut

-- the same part, of a compound among others
at_number : (p : Compound) (part : Run) (front back : List Compound) → IsPartOf 0 p part → IsPart (front ++ p ∷ back) (record part { compound = length front })
at_number p part front back h = record { front = front; own = p; back = back; parts = refl; of = record { number_is = refl; order = h.order; first = h.first; last = h.last } }

-- a cut of two columns at least in a part is inside the part's compound, among others
pub inside_part : (p : Compound) (part : Run) (cut : Cut) (excess : ℕ) (front back : List Compound) → IsPartOf 0 p part → IsCenteredCut excess (slice_range p.src.now part.start part.end) cut → 2 ≤ cut.columns
    → IsInside (length front) (part.start + cut.start) (part.start + cut.end) (front ++ p ∷ back)
unfolding at_number
inside_part p part cut excess front back h g two = is_inside (front ++ p ∷ back) (record part { compound = length front }) cut excess (at_number p part front back h) g two

-- compounds that stay lose no column
pub thinned_none : (ps : List Compound) → IsThinnedBy 0 ps ps
thinned_none ps = record {
  more = 0;
  shortened = λ n text h. let same : n ≡ n + 0 = omega arith in subst (λ k. IsShortened k text ps) same h;
  some = λ l. absurd (omega (arith, l));
  columns = omega arith;
  none_empty = λ h. h;
}

-- compounds that are thinned twice lose the columns of both times
pub thinned_both : (n m k : ℕ) (ps qs rs : List Compound) → k ≡ n + m → IsThinnedBy n ps qs → IsThinnedBy m qs rs → IsThinnedBy k ps rs
thinned_both n m k ps qs rs is h g = record {
  more = h.more + g.more;
  shortened = λ n text s. let sum : n + h.more + g.more ≡ n + (h.more + g.more) = omega arith in subst (λ k. IsShortened k text rs) sum (g.shortened (n + h.more) text (h.shortened n text s));
  some = λ l. elim (cases_lt 0 n) as (λ _. 0 < h.more + g.more) [ inl one ↦ omega (arith, h.some one) | inr none ↦ omega (arith, g.some (omega (arith, is, l, none))) ];
  columns = omega (arith, h.columns, g.columns, is);
  none_empty = λ filled. g.none_empty (h.none_empty filled);
}

-- a cut in a part ends within it
pub ends_within : (p : Compound) (part : Run) (cut : Cut) (excess : ℕ) → IsPartOf 0 p part → IsCenteredCut excess (slice_range p.src.now part.start part.end) cut → part.start + cut.end ≤ part.end
ends_within p part cut excess h g = omega (arith, g.last.0, length-take (part.end - part.start) (drop part.start p.src.now), h.order)

-- a part is cut
pub part_thins : (p head mark tail : Compound) (part : Run) (cut : Cut) (amount : ℕ) (done others : List Compound) → IsPartOf 0 p part → IsUtf8 p.src.now → IsCenteredCut amount (slice_range p.src.now part.start part.end) cut → 2 ≤ cut.columns
    → IsEllipsis mark → head.src.now ≡ take (part.start + cut.start) p.src.now → flags_of head ≡ flags_of p → tail.src.now ≡ drop (part.start + cut.end) p.src.now → flags_of tail ≡ flags_of p
    → IsThinnedBy (cut.columns - 1) (done ++ p ∷ others) ((done ++ head ∷ mark ∷ []) ++ tail ∷ others)
unfolding at_number inside_part is_inside cut_from
part_thins p head mark tail part cut amount done others h utf8 g two ellipsis head_text head_flags tail_text tail_flags =
    let before : List Compound = done ++ p ∷ others in
    let after : List Compound = (done ++ head ∷ mark ∷ []) ++ tail ∷ others in
    let start : ℕ = part.start + cut.start in
    let end : ℕ = part.start + cut.end in
    let inside = inside_part p part cut amount done others h g two in
    let all : after ≡ done ++ head ∷ mark ∷ tail ∷ others = append_assoc done (head ∷ mark ∷ []) (tail ∷ others) in
    let cuts = cut_from (length done) start end before after inside head mark tail utf8 all ellipsis head_text head_flags tail_text tail_flags in
    let sum = cut_columns (length done) start end cut.columns before after cuts (gone_columns p.src.now part cut amount (ends_within p part cut amount h g) g) in
    record {
      more = 1;
      shortened = cut_shortened (length done) start end before after cuts;
      some = λ l. omega arith;
      columns = omega (arith, sum, two);
      none_empty = cut_none_empty (length done) start end before after cuts;
    }

not_few : (amount : ℕ) (cut : Cut) → (amount ≡ 0) ⊎ (cut.columns < 2) → 0 < amount → 2 ≤ cut.columns → ⊥
not_few amount cut (inl none) some two = omega (arith, none, some)
not_few amount cut (inr narrow) some two = omega (arith, narrow, two)

-- nothing is cut
pub sweep_stays : (amount : ℕ) (p : Compound) (part : Run) (sweep : Sweep) (cut : Cut) → (0 < amount → IsCenteredCut amount (slice_range p.src.now part.start part.end) cut) → (amount ≡ 0) ⊎ (cut.columns < 2) → Sweeps amount p part sweep p sweep
sweep_stays amount p part sweep cut g few = record {
  here = [];
  gone = 0;
  cuts = record {
    cut = cut;
    centered = g;
    stays = λ _. (refl, refl, refl);
    goes = λ some two. absurd (not_few amount cut few some two);
  };
  added = sym (append-nil sweep.compounds.items);
  left = omega arith;
  most = omega arith;
  thinned = λ done others. subst (λ l. IsThinnedBy 0 (done ++ p ∷ others) (l ++ p ∷ others)) (sym (append-nil done)) (thinned_none (done ++ p ∷ others));
}

-- a part that is to be cut by no column stays
pub sweep_none : (amount : ℕ) (p : Compound) (part : Run) (sweep : Sweep) → amount ≡ 0 → Sweeps amount p part sweep p sweep
sweep_none amount p part sweep none = sweep_stays amount p part sweep (record { start = 0; end = 0; columns = 0 }) (λ some. absurd (omega (arith, some, none))) (inl none)

-- a part of it is cut
pub sweep_cuts : (amount : ℕ) (p head mark tail : Compound) (part : Run) (cut : Cut) (before after : Sweep) → IsPartOf 0 p part → IsUtf8 p.src.now → IsCenteredCut amount (slice_range p.src.now part.start part.end) cut → cut.columns ≤ amount + 3
    → 0 < amount → 2 ≤ cut.columns → after.left ≡ before.left - (cut.columns - 1) → after.compounds.items ≡ (before.compounds.items ++ head ∷ []) ++ mark ∷ [] → IsEllipsis mark
    → head.src.now ≡ take (part.start + cut.start) p.src.now → flags_of head ≡ flags_of p → tail.src.now ≡ drop (part.start + cut.end) p.src.now → flags_of tail ≡ flags_of p → Sweeps amount p part before tail after
sweep_cuts amount p head mark tail part cut before after h utf8 g most some two left added ellipsis head_text head_flags tail_text tail_flags = record {
  here = head ∷ mark ∷ [];
  gone = cut.columns - 1;
  cuts = record {
    cut = cut;
    centered = λ _. g;
    stays = λ few. absurd (not_few amount cut few some two);
    goes = λ _ _. (head, mark, refl, head_text, head_flags, ellipsis, tail_text, tail_flags, refl);
  };
  added = added ∙ append_assoc before.compounds.items (head ∷ []) (mark ∷ []);
  left = left;
  most = omega (arith, most);
  thinned = λ done others. part_thins p head mark tail part cut amount done others h utf8 g two ellipsis head_text head_flags tail_text tail_flags;
}

-- ---- what is left of a compound

-- a border stays one where a front goes
border_left : (bs : List ℕ) (from at : ℕ) → from ≤ at → IsCharBoundary bs at → IsCharBoundary (drop from bs) (at - from)
border_left bs from at order border =
    let spot : from + (at - from) ≡ at = omega (arith, order) in
    let same : get_or (drop from bs) (at - from) 0 ≡ get_or bs at 0 = get_or-drop from bs (at - from) 0 ∙ ap (λ n. get_or bs n 0) spot in (
      omega (arith, border.0, length-drop from bs),
      λ l b. omega (arith, same, border.1 (omega (arith, l, length-drop from bs)) (omega (arith, b, same))),
    )

-- a part of a compound is a part of what is left of it
pub moved_part : (p rest : Compound) (part moved : Run) (from : ℕ) → IsPartOf 0 p part → from ≤ part.start → rest.src.now ≡ drop from p.src.now → IsMoved part from moved → IsPartOf 0 rest moved
moved_part p rest part moved from h order text is = record {
  number_is = is.compound ∙ h.number_is;
  order = omega (arith, is.start, is.end, h.order);
  first = subst (λ n. IsCharBoundary rest.src.now n) (sym is.start) (subst (λ l. IsCharBoundary l (part.start - from)) (sym text) (border_left p.src.now from part.start order h.first));
  last = subst (λ n. IsCharBoundary rest.src.now n) (sym is.end) (subst (λ l. IsCharBoundary l (part.end - from)) (sym text) (border_left p.src.now from part.end (omega (arith, order, h.order)) h.last));
}

moved_text : (p rest : Compound) (part moved : Run) (from : ℕ) → part.start ≤ part.end → from ≤ part.start → rest.src.now ≡ drop from p.src.now → IsMoved part from moved
    → slice_range rest.src.now moved.start moved.end ≡ slice_range p.src.now part.start part.end
moved_text p rest part moved from within order text is =
    let spot : from + moved.start ≡ part.start = omega (arith, is.start, order) in
    let size : moved.end - moved.start ≡ part.end - part.start = omega (arith, is.start, is.end, order, within) in
    ap (λ l. take (moved.end - moved.start) (drop moved.start l)) text
    ∙ ap (take (moved.end - moved.start)) (drop-drop moved.start from p.src.now ∙ ap (λ n. drop n p.src.now) spot)
    ∙ ap (λ n. take n (drop part.start p.src.now)) size

-- parts that are in order from a byte on are so from an earlier one
pub in_order_less : (text : List ℕ) (from less : ℕ) (parts : List Run) → less ≤ from → AreInOrder text from parts → AreInOrder text less parts
in_order_less text from less [] l h = tt
in_order_less text from less (part ∷ parts) l h = (h.0, omega (arith, l, h.1), h.2)

-- what is left of a compound behind a part of it that is cut
pub record IsCutTo (left : ℕ) (p : Compound) (from : ℕ) (part : Run) (here : List Compound) (rest : Compound) : Type 0 where
  pub next : ℕ
  pub is : IsCutFor left p from part here next
  pub within : next ≤ part.end
  pub text : rest.src.now ≡ drop next p.src.now
  pub flags : flags_of rest ≡ flags_of p

few_or_two : (amount : ℕ) (cut : Cut) → ((amount ≡ 0) ⊎ (cut.columns < 2)) ⊎ ((0 < amount) × (2 ≤ cut.columns))
few_or_two amount cut = elim (cases_lt 0 amount) as (λ _. ((amount ≡ 0) ⊎ (cut.columns < 2)) ⊎ ((0 < amount) × (2 ≤ cut.columns))) [
  | inl some ↦ elim (cases_lt cut.columns 2) as (λ _. ((amount ≡ 0) ⊎ (cut.columns < 2)) ⊎ ((0 < amount) × (2 ≤ cut.columns))) [ inl few ↦ inl (inr few) | inr two ↦ inr (some, omega (arith, two)) ]
  | inr none ↦ inl (inl (omega (arith, none)))
]

-- a cut by what serves leaves the compound as the cut for what is due does
pub cut_to : (left amount gained : ℕ) (p rest more : Compound) (part moved : Run) (from gone : ℕ) (here : List Compound) → IsUtf8 p.src.now → IsPartOf 0 p part → from ≤ part.start → rest.src.now ≡ drop from p.src.now → flags_of rest ≡ flags_of p
    → IsMoved part from moved → gained ≡ (gain_of p.src.now part).gained → Serves left gained amount → Cuts amount rest moved here more gone → IsCutTo left p from part here more
cut_to left amount gained p rest more part moved from gone here utf8 own order text flags is gain s h =
    let bs : List ℕ = slice_range p.src.now part.start part.end in
    let part_utf8 : IsUtf8 bs = IsUtf8-between p.src.now part.start part.end utf8 own.order own.first own.last in
    let same : slice_range rest.src.now moved.start moved.end ≡ bs = moved_text p rest part moved from own.order order text is in
    let centered : 0 < amount → IsCenteredCut amount bs h.cut = λ some. subst (λ t. IsCenteredCut amount t h.cut) same (h.centered some) in
    let due_cut : 0 < left → IsCenteredCut left bs h.cut = λ some. cut_serves left amount gained bs h.cut part_utf8 gain s some (centered ((s.same some).0)) in
    elim (few_or_two amount h.cut) as (λ _. IsCutTo left p from part here more) [
      | inl few ↦
          let stays = h.stays few in
          record {
            next = from;
            is = record {
              cut = h.cut;
              centered = due_cut;
              stays = λ _. (stays.0, refl);
              goes = λ some two. absurd (not_few amount h.cut few ((s.same some).0) two);
            };
            within = omega (arith, order, own.order);
            text = ap (λ (q : Compound). q.src.now) stays.1 ∙ text;
            flags = ap flags_of stays.1 ∙ flags;
          }
      | inr both ↦
          let goes = h.goes both.0 both.1 in
          let cut = h.cut in
          let front : moved.start + cut.start ≡ part.start + cut.start - from = omega (arith, is.start, order) in
          let back : from + (moved.start + cut.end) ≡ part.start + cut.end = omega (arith, is.start, order) in
          record {
            next = part.start + cut.end;
            is = record {
              cut = cut;
              centered = due_cut;
              stays = λ few. absurd (elim few as (λ _. ⊥) [ inl none ↦ omega (arith, s.none none, both.0) | inr narrow ↦ omega (arith, narrow, both.1) ]);
              goes = λ _ _. (
                goes.0,
                goes.1,
                goes.2,
                record {
                  text = goes.3 ∙ ap (take (moved.start + cut.start)) text ∙ ap (λ n. take n (drop from p.src.now)) front;
                  flags = goes.4 ∙ flags;
                },
                goes.5,
                refl,
              );
            };
            within = ends_within p part cut amount own (centered both.0);
            text = goes.6 ∙ ap (drop (moved.start + cut.end)) text ∙ drop-drop (moved.start + cut.end) from p.src.now ∙ ap (λ n. drop n p.src.now) back;
            flags = goes.7 ∙ flags;
          }
    ]

-- what a cut gains is at most what its part gains as a whole
pub gone_most : (amount : ℕ) (p rest more : Compound) (part moved : Run) (from gone : ℕ) (here : List Compound) → IsUtf8 p.src.now → IsPartOf 0 p part → from ≤ part.start → rest.src.now ≡ drop from p.src.now → IsMoved part from moved
    → Cuts amount rest moved here more gone → gone ≤ (gain_of p.src.now part).gained
gone_most amount p rest more part moved from gone here utf8 own order text is h =
    let bs : List ℕ = slice_range p.src.now part.start part.end in
    let part_utf8 : IsUtf8 bs = IsUtf8-between p.src.now part.start part.end utf8 own.order own.first own.last in
    let same : slice_range rest.src.now moved.start moved.end ≡ bs = moved_text p rest part moved from own.order order text is in
    elim (few_or_two amount h.cut) as (λ _. gone ≤ (gain_of p.src.now part).gained) [
      | inl few ↦ omega (arith, (h.stays few).2)
      | inr both ↦ omega (arith, (h.goes both.0 both.1).8, cut_narrow amount bs h.cut part_utf8 (subst (λ t. IsCenteredCut amount t h.cut) same (h.centered both.0)))
    ]
