-- An ellipsis in place of the middle of a part.
use Rattle.std.proofs.Common.{◌≡◌, ℕ, ◌+◌, ◌-◌, ◌<◌, ◌≤◌, ◌⊎◌, inl, inr, List, [], ◌∷◌, ◌++◌, length, chars, take, drop, get_or, slice_range, set, refl, sym, ap, ◌∙◌, arith, subst}
use Rattle.std.specs.List.{insert}
use Rattle.std.proofs.Math.Seq.{drop-append_seam, take-append_seam, set-append_seam, take-add}
use Rattle.std.specs.Str.{IsUtf8, IsCharBoundary}
use Rattle.std.proofs.lemmas.Bool.{cases_lt}
use Rattle.std.proofs.lemmas.List.{append_assoc, length-append, length-drop, length-take, take-append-drop, get_or-take, get_or-append-add, at_drop_more, drop-drop, drop-take, take-append-le, take_all}
use Rattle.std.proofs.lemmas.List.Folds.{drop_split}
use Rattle.std.proofs.lemmas.Str.{chars-append, IsCharBoundary-from_rest, IsUtf8-between}
use Rattle.mad_md.specs.Flagged.{Flags, FlaggedChar, flagged, flags_of, flagged_of, flagged_text}
use Rattle.mad_md.specs.declared.compound.Compound.{Compound}
use Rattle.mad_md.proofs.FlaggedLemmas.{flagged-append, flagged_cut}
use Rattle.mad_measure.specs.TextColumns.{columns, width_of}
use Rattle.mad_measure.proofs.FlaggedLemmas.{width_of-append, width_of-flagged}
use Rattle.mad_measure.proofs.AllLemmas.{all_front, all_back, all_joined}
use Rattle.mad_fitting.specs.CenteredCuts.{IsCenteredCut, middle}
use Rattle.mad_fitting.specs.Cuts.{IsPart, IsInside, CutsOut}
use Rattle.mad_fitting.specs.Ellipses.{IsEllipsis, IsShortened}
use Rattle.mad_fitting.specs.Filled.{NoneEmpty}
use Rattle.mad_fitting.specs.Thinning.{IsThinned}
use Rattle.mad_fitting.specs.declared.centered.Cut.{Cut}
use Rattle.mad_fitting.specs.declared.parts.Run as parts
use Rattle.mad_fitting.proofs.EllipsisLemmas.{ellipsis_width, ellipsis_bytes, width-append, width-cons}
use Rattle.mad_fitting.proofs.ShorteningLemmas.{parted, to_others, no_border_inside}

-- ---- where a part is

-- compounds before, at and after a number
pub split_at : (ps : List Compound) (i : ℕ) (d : Compound) → i < length ps → (ps ≡ take i ps ++ get_or ps i d ∷ drop (i + 1) ps) × (length (take i ps) ≡ i)
split_at ps i d l = (sym (take-append-drop i ps) ∙ ap (λ r. take i ps ++ r) (at_drop_more (λ r. r) ps i d l), omega (arith, length-take i ps, l))

-- the compound at the number of a part
pub own_at : (ps front back : List Compound) (own d : Compound) (i : ℕ) → ps ≡ front ++ own ∷ back → length front ≡ i → get_or ps i d ≡ own
own_at ps front back own d i parts number =
    let at : i ≡ length front + 0 = omega (arith, number) in
    ap (λ n. get_or ps n d) at ∙ ap (λ l. get_or l (length front + 0) d) parts ∙ get_or-append-add front (own ∷ back) 0 d

-- the compound that is read at a part's number is the part's
pub part_own : (ps : List Compound) (part : parts.Run) (p : Compound) (h : IsPart ps part) → p ≡ get_or ps part.compound p → p ≡ h.own
part_own ps part p h is = is ∙ own_at ps h.front h.back h.own p part.compound h.parts (sym h.of.number_is)

-- a cut in the middle of what is read there is one of the part
pub centered_in : (ps : List Compound) (part : parts.Run) (p : Compound) (h : IsPart ps part) (text : List ℕ) (excess : ℕ) (cut : Cut) → p ≡ get_or ps part.compound p → text ≡ slice_range p.src.now part.start part.end → IsCenteredCut excess text cut
    → IsCenteredCut excess (slice_range h.own.src.now part.start part.end) cut
centered_in ps part p h text excess cut is says centered = subst (λ t. IsCenteredCut excess t cut) (says ∙ ap (λ (q : Compound). slice_range q.src.now part.start part.end) (part_own ps part p h is)) centered

-- a compound's number is less than how many there are
pub number_within : (ps front back : List Compound) (own : Compound) (i : ℕ) → ps ≡ front ++ own ∷ back → length front ≡ i → i < length ps
number_within ps front back own i parts number = omega (arith, number, ap length parts, length-append front (own ∷ back))

-- a border in a slice is one in the text
pub border_in : (bs : List ℕ) (start end i : ℕ) → start ≤ end → end ≤ length bs → start + i < end → IsCharBoundary (slice_range bs start end) i → IsCharBoundary bs (start + i)
border_in bs start end i order inside short border =
    let back = drop start bs in
    let same : get_or (take (end - start) back) i 0 ≡ get_or back i 0 = get_or-take (end - start) back i 0 (omega (arith, short)) in
    let size = length-take (end - start) back in
    let own : IsCharBoundary back i = (
      omega (arith, short, inside, length-drop start bs),
      λ l b. omega (arith, same, border.1 (omega (arith, size, short, inside, length-drop start bs)) (omega (arith, b, same))),
    ) in
    IsCharBoundary-from_rest bs start i (omega (arith, order, inside)) own

-- ---- a compound in three parts

-- a flagged text is its parts before two borders, between them and after them
pub three_parts : (f : Flags) (bs : List ℕ) (start end : ℕ) → IsUtf8 bs → start ≤ end → IsCharBoundary bs start → IsCharBoundary bs end
    → flagged f (chars bs) ≡ flagged f (chars (take start bs)) ++ (flagged f (chars (slice_range bs start end)) ++ flagged f (chars (drop end bs)))
three_parts f bs start end utf8 order first last =
    let between = IsUtf8-between bs start end utf8 order first last in
    let back : chars (drop start bs) ≡ chars (slice_range bs start end) ++ chars (drop end bs) = ap chars (drop_split bs start end order) ∙ chars-append (slice_range bs start end) (drop end bs) between in
    flagged_cut f bs start utf8 first
    ∙ ap (λ l. flagged f (chars (take start bs)) ++ l) (ap (flagged f) back ∙ flagged-append f (chars (slice_range bs start end)) (chars (drop end bs)))

says_part : (p q : Compound) (bs : List ℕ) → q.src.now ≡ bs → flags_of q ≡ flags_of p → flagged_of q ≡ flagged (flags_of p) (chars bs)
says_part p q bs text flags = ap (λ f. flagged f (chars q.src.now)) flags ∙ ap (λ b. flagged (flags_of p) (chars b)) text

own_text : (number start end : ℕ) (before after : List Compound) (h : CutsOut number start end before after) → flagged_of h.inside.own ≡ flagged_of h.head ++ (flagged (flags_of h.inside.own) (chars (slice_range h.inside.own.src.now start end)) ++ flagged_of h.tail)
own_text number start end before after h =
    let p = h.inside.own in
    let bs = p.src.now in
    let gone = flagged (flags_of p) (chars (slice_range bs start end)) in
    three_parts (flags_of p) bs start end h.utf8 h.inside.order h.inside.first h.inside.last
    ∙ ap (λ l. l ++ (gone ++ flagged (flags_of p) (chars (drop end bs)))) (sym (says_part p h.head (take start bs) h.head_text h.head_flags))
    ∙ ap (λ l. flagged_of h.head ++ (gone ++ l)) (sym (says_part p h.tail (drop end bs) h.tail_text h.tail_flags))

-- ---- what a cut changes

-- a cut takes off the columns of what goes, and puts one in for its ellipsis
pub cut_columns : (number start end w : ℕ) (before after : List Compound) (h : CutsOut number start end before after) → w ≡ columns (chars (slice_range h.inside.own.src.now start end))
    → width_of (flagged_text before) + 1 ≡ width_of (flagged_text after) + w
cut_columns number start end w before after h is =
    let p = h.inside.own in
    let gone = flagged (flags_of p) (chars (slice_range p.src.now start end)) in
    omega (
      arith,
      ap (λ l. width_of (flagged_text l)) h.inside.parts,
      width-append h.inside.front (p ∷ h.inside.back),
      width-cons p h.inside.back,
      ap width_of (own_text number start end before after h),
      width_of-append (flagged_of h.head) (gone ++ flagged_of h.tail),
      width_of-append gone (flagged_of h.tail),
      width_of-flagged (flags_of p) (chars (slice_range p.src.now start end)),
      is,
      ap (λ l. width_of (flagged_text l)) h.parts,
      width-append h.inside.front (h.head ∷ h.mark ∷ h.tail ∷ h.inside.back),
      width-cons h.head (h.mark ∷ h.tail ∷ h.inside.back),
      width-cons h.mark (h.tail ∷ h.inside.back),
      width-cons h.tail h.inside.back,
      ellipsis_width h.mark h.ellipsis,
    )

own_shortened : (number start end m : ℕ) (before after : List Compound) (rest : List FlaggedChar) (h : CutsOut number start end before after) → IsShortened m rest (h.inside.own ∷ h.inside.back)
    → IsShortened (m + 1) rest (h.head ∷ h.mark ∷ h.tail ∷ h.inside.back)
own_shortened number start end m before after rest h (inl (k, one, is, more)) =
    let in_it = no_border_inside h.inside.own start is h.inside.first (omega (arith, h.inside.order, h.inside.short)) in
    absurd (omega (arith, in_it, h.inside.some))
own_shortened number start end m before after rest h (inr (gap, others, cut, more)) =
    let p = h.inside.own in
    let gone = flagged (flags_of p) (chars (slice_range p.src.now start end)) in
    let after_head = gone ++ (flagged_of h.tail ++ others) in
    let parts : rest ≡ gap ++ (flagged_of h.head ++ after_head) = cut ∙ ap (λ l. gap ++ (l ++ others)) (own_text number start end before after h)
    ∙ ap (λ l. gap ++ l) (append_assoc (flagged_of h.head) (gone ++ flagged_of h.tail) others ∙ ap (λ l. flagged_of h.head ++ l) (append_assoc gone (flagged_of h.tail) others)) in
    inr (gap, after_head, parts, inl (m, refl, h.ellipsis, inr (gone, others, refl, more)))

-- after a cut the compounds have one ellipsis more, and are still parts of the text
pub cut_shortened : (number start end : ℕ) (before after : List Compound) → CutsOut number start end before after → (n : ℕ) (text : List FlaggedChar) → IsShortened n text before → IsShortened (n + 1) text after
cut_shortened number start end before after h n text s =
    let (k, m, rest, sum, front, back) = parted n text h.inside.front (h.inside.own ∷ h.inside.back) (subst (IsShortened n text) h.inside.parts s) in
    let more : k + (m + 1) ≡ n + 1 = omega (arith, sum) in
    let own = to_others k (m + 1) text rest h.inside.front (h.head ∷ h.mark ∷ h.tail ∷ h.inside.back) front (own_shortened number start end m before after rest h back) in
    subst (λ j. IsShortened j text after) more (subst (IsShortened (k + (m + 1)) text) (sym h.parts) own)

-- a cut makes no compound empty
pub cut_none_empty : (number start end : ℕ) (before after : List Compound) → CutsOut number start end before after → NoneEmpty before → NoneEmpty after
cut_none_empty number start end before after h filled =
    let P : Compound → Type 0 = λ p. 0 < length p.src.now in
    let all = subst NoneEmpty h.inside.parts filled in
    let front = all_front P h.inside.front (h.inside.own ∷ h.inside.back) all in
    let back = all_back P h.inside.front (h.inside.own ∷ h.inside.back) all in
    let bs = h.inside.own.src.now in
    subst NoneEmpty (sym h.parts) (all_joined P h.inside.front (h.head ∷ h.mark ∷ h.tail ∷ h.inside.back) front (
      omega (arith, ap length h.head_text, length-take start bs, h.inside.some, h.inside.order, h.inside.short),
      (omega (arith, ellipsis_bytes h.mark h.ellipsis), (omega (arith, ap length h.tail_text, length-drop end bs, h.inside.short), back.1)),
    ))

-- ---- one cut after the other

-- compounds that stay have as many columns too many as before
pub thin_none : (excess : ℕ) (ps qs : List Compound) → qs ≡ ps → IsThinned excess ps qs excess
thin_none excess ps qs same = subst (λ l. IsThinned excess ps l excess) (sym same) (record {
  more = 0;
  shortened = λ n text h. let same : n ≡ n + 0 = omega arith in subst (λ k. IsShortened k text ps) same h;
  less = omega arith;
  some = λ l. absurd (omega (arith, l));
  gone = omega arith;
  within = omega arith;
  exact = λ l. refl;
  still = λ z. (z, refl);
  none_empty = λ h. h;
})

left_or_less : (left excess : ℕ) → left ≤ excess → (left ≡ excess) ⊎ (left < excess)
left_or_less left excess l = elim (cases_lt left excess) as (λ _. (left ≡ excess) ⊎ (left < excess)) [ inl less ↦ inr less | inr more ↦ inl (omega (arith, l, more)) ]

none_or_some : (n : ℕ) → (n ≡ 0) ⊎ (0 < n)
none_or_some n = elim (cases_lt 0 n) as (λ _. (n ≡ 0) ⊎ (0 < n)) [ inl some ↦ inr some | inr none ↦ inl (omega (arith, none)) ]

-- compounds that are thinned twice, the second time for what was left, are thinned
pub thin_more : (excess left new : ℕ) (ps qs rs : List Compound) → IsThinned excess ps qs left → IsThinned left qs rs new → IsThinned excess ps rs new
thin_more excess left new ps qs rs h g = record {
  more = h.more + g.more;
  shortened = λ n text s. let sum : n + h.more + g.more ≡ n + (h.more + g.more) = omega arith in subst (λ k. IsShortened k text rs) sum (g.shortened (n + h.more) text (h.shortened n text s));
  less = omega (arith, h.less, g.less);
  some = λ l. elim (left_or_less left excess h.less) as (λ _. 0 < h.more + g.more) [ inl same ↦ omega (arith, g.some (omega (arith, l, same))) | inr fewer ↦ omega (arith, h.some fewer) ];
  gone = omega (arith, h.gone, g.gone);
  within = elim (none_or_some left) as (λ _. width_of (flagged_text ps) + new ≤ width_of (flagged_text rs) + excess + 2) [
    | inl none ↦ let still = g.still none in omega (arith, still.0, still.1, h.within, none)
    | inr some ↦ omega (arith, h.exact some, g.within)
  ];
  exact = λ l. omega (arith, g.exact l, h.exact (omega (arith, l, g.less)));
  still = λ z. let own = h.still z in let then = g.still own.0 in (then.0, then.1 ∙ own.1);
  none_empty = λ filled. g.none_empty (h.none_empty filled);
}

-- ---- three compounds in place of one

insert_seam : (xs ys zs : List Compound) (n : ℕ) (x : Compound) → zs ≡ xs ++ ys → length xs ≡ n → insert zs n x ≡ xs ++ x ∷ ys
insert_seam xs ys zs n x parts number =
    let front : take n zs ≡ xs = ap (λ k. take k zs) (sym number) ∙ ap (take (length xs)) parts ∙ take-append_seam xs ys in
    let back : drop n zs ≡ ys = ap (λ k. drop k zs) (sym number) ∙ ap (drop (length xs)) parts ∙ drop-append_seam xs ys in
    ap (λ l. l ++ x ∷ drop n zs) front ∙ ap (λ l. xs ++ x ∷ l) back

-- a compound that is replaced, with two inserted behind it, has three in its place
pub put_items : (ps qs rs front back : List Compound) (own head mark tail : Compound) (n : ℕ) → ps ≡ front ++ own ∷ back → length front ≡ n → qs ≡ insert ps (n + 1) tail → rs ≡ insert qs (n + 1) mark
    → set rs n head ≡ front ++ head ∷ mark ∷ tail ∷ back
put_items ps qs rs front back own head mark tail n parts number first second =
    let xs = front ++ own ∷ [] in
    let size : length xs ≡ n + 1 = omega (arith, number, length-append front (own ∷ [])) in
    let cut : ps ≡ xs ++ back = parts ∙ sym (append_assoc front (own ∷ []) back) in
    let once : qs ≡ xs ++ tail ∷ back = first ∙ insert_seam xs back ps (n + 1) tail cut size in
    let twice : rs ≡ front ++ own ∷ (mark ∷ tail ∷ back) = second ∙ insert_seam xs (tail ∷ back) qs (n + 1) mark once size ∙ append_assoc front (own ∷ []) (mark ∷ tail ∷ back) in
    ap (λ l. set l n head) twice ∙ ap (λ k. set (front ++ own ∷ (mark ∷ tail ∷ back)) k head) (sym number) ∙ set-append_seam front own (mark ∷ tail ∷ back) head

-- ---- from a part to what is inside its compound

take_less : (xs : List ℕ) (n m : ℕ) → n ≤ m → take n (take m xs) ≡ take n xs
take_less xs n m l =
    let more : take m xs ≡ take n xs ++ take (m - n) (drop n xs) = let sum : m ≡ n + (m - n) = omega (arith, l) in ap (λ k. take k xs) sum ∙ take-add n (m - n) xs in
    elim (cases_lt (length xs) n) as (λ _. take n (take m xs) ≡ take n xs) [
      | inl short ↦ ap (take n) (take_all m xs (omega (arith, short, l)))
      | inr long ↦ ap (take n) more ∙ take-append-le n (take n xs) (take (m - n) (drop n xs)) (omega (arith, length-take n xs, long)) ∙ take_all n (take n xs) (omega (arith, length-take n xs))
    ]

-- a slice of a slice is a slice of the whole
pub slice_in_slice : (bs : List ℕ) (start end a b : ℕ) → a ≤ b → start + b ≤ end → slice_range (slice_range bs start end) a b ≡ slice_range bs (start + a) (start + b)
slice_in_slice bs start end a b order inside =
    let back = drop start bs in
    let size : end - start ≡ a + (end - start - a) = omega (arith, order, inside) in
    let from : drop a (take (end - start) back) ≡ take (end - start - a) (drop a back) = ap (λ n. drop a (take n back)) size ∙ drop-take a (end - start - a) back in
    let count : start + b - (start + a) ≡ b - a = omega (arith, order) in
    ap (take (b - a)) from ∙ take_less (drop a back) (b - a) (end - start - a) (omega (arith, order, inside)) ∙ ap (take (b - a)) (drop-drop a start bs) ∙ ap (λ n. take n (drop (start + a) bs)) (sym count)

-- a cut of two columns at least in a part is inside the part's compound
unfoldable pub is_inside : (ps : List Compound) (part : parts.Run) (cut : Cut) (excess : ℕ) (h : IsPart ps part) → IsCenteredCut excess (slice_range h.own.src.now part.start part.end) cut → 2 ≤ cut.columns → IsInside part.compound (part.start + cut.start) (part.start + cut.end) ps
is_inside ps part cut excess h g two =
    let bs = h.own.src.now in
    let size = length-take (part.end - part.start) (drop part.start bs) in
    let rest = length-drop part.start bs in
    let both : (0 < cut.start) × (cut.end < length (slice_range bs part.start part.end)) = elim g.inside as (λ _. (0 < cut.start) × (cut.end < length (slice_range bs part.start part.end))) [
      | inl none ↦ let nothing = ap (λ n. columns (middle n (chars (slice_range bs part.start part.end)))) none in absurd (omega (arith, two, g.columns_are, nothing))
      | inr some ↦ some
    ] in
    record {
      front = h.front;
      own = h.own;
      back = h.back;
      parts = h.parts;
      number_is = sym h.of.number_is;
      some = omega (arith, both.0);
      order = omega (arith, g.order);
      short = omega (arith, both.1, size, rest, h.of.last.0);
      first = border_in bs part.start part.end cut.start h.of.order h.of.last.0 (omega (arith, g.order, both.1, size)) g.first;
      last = border_in bs part.start part.end cut.end h.of.order h.of.last.0 (omega (arith, both.1, size)) g.last;
    }

-- a head, an ellipsis and a tail in a compound's place are a cut of it
unfoldable pub cut_from : (number start end : ℕ) (before after : List Compound) (h : IsInside number start end before) (head mark tail : Compound) → IsUtf8 h.own.src.now → after ≡ h.front ++ head ∷ mark ∷ tail ∷ h.back → IsEllipsis mark
    → head.src.now ≡ take start h.own.src.now → flags_of head ≡ flags_of h.own → tail.src.now ≡ drop end h.own.src.now → flags_of tail ≡ flags_of h.own → CutsOut number start end before after
cut_from number start end before after h head mark tail utf8 parts is head_text head_flags tail_text tail_flags = record {
  inside = h;
  utf8 = utf8;
  head = head;
  mark = mark;
  tail = tail;
  parts = parts;
  ellipsis = is;
  head_text = head_text;
  head_flags = head_flags;
  tail_text = tail_text;
  tail_flags = tail_flags;
}

-- the columns of what goes are those of the cut
pub gone_columns : (bs : List ℕ) (part : parts.Run) (cut : Cut) (excess : ℕ) → part.start + cut.end ≤ part.end → IsCenteredCut excess (slice_range bs part.start part.end) cut
    → cut.columns ≡ columns (chars (slice_range bs (part.start + cut.start) (part.start + cut.end)))
gone_columns bs part cut excess fits g =
    g.columns_are ∙ ap columns (sym g.gone) ∙ ap (λ l. columns (chars l)) (slice_in_slice bs part.start part.end cut.start cut.end g.order fits)
