-- Columns that are no narrower than their longest words.
use Rattle.std.proofs.Common.{◌≡◌, ℕ, zero, suc, ◌+◌, ◌-◌, ◌*◌, ◌≤◌, ◌<◌, min, max, leb, Bool, List, [], ◌∷◌, length, map, get_or, sum, inl, inr, refl, sym, ap, ◌∙◌, arith, subst, ext_get_or}
use Rattle.std.specs.declared.cmp.Reverse.{Reverse}
use Rattle.std.specs.List.{AllZip}
use Rattle.std.proofs.lemmas.Bool.{cases_eq, cases_lt, cond-true, cond-false, le-leb, lt-leb}
use Rattle.std.proofs.lemmas.List.Elements.{All-get_or}
use Rattle.std.proofs.lemmas.List.Sums.{sum_by-cons}
use Rattle.mad_widths.specs.Turns.{Turn, turn_of, grants, AreTurns, CanGiveUp}
use Rattle.mad_widths.specs.ColumnWidths.{Needs, natural_widths, narrowed, above_three, second_requests, column_widths, AreShared}
use Rattle.mad_widths.specs.WordWidths.{least_widths, raised, counted_from, word_widths, AreRaised, AreGivenUp, IsWordFit}
use Rattle.mad_widths.specs.TableFits.{IsFit}
use Rattle.mad_widths.specs.SeenCells.{needs_in}
use Rattle.mad_widths.specs.declared.sharing.SeenColumn.{SeenColumn}
use Rattle.mad_widths.specs.declared.tbl_fit.TblFitResult.{TblFitResult}
use Rattle.mad_widths.proofs.CellLemmas.{zip_at, zip_length, naturals_wide}
use Rattle.mad_widths.proofs.EachLemmas.{length-each_with, get_or-each_with, each_past}
use Rattle.mad_widths.proofs.GrantLemmas.{grants-le}
use Rattle.mad_widths.proofs.ReduceLemmas.{InTurn, gives}
use Rattle.mad_widths.proofs.ShareLemmas.{AreWide, get_or-naturals, LeaveThree, IsStep, step, all_zip_from, get_or-narrowed, length-second_requests, second_leave, second_enough, none_given, above_is, length-naturals}

-- ---- widths counted from the least ones

sum_counted : (ws least : List ℕ) → AllZip (λ w l. (3 ≤ l) × (l ≤ w)) ws least → sum (counted_from ws least) + sum least ≡ sum ws + 3 * length ws
sum_counted [] [] h = refl
sum_counted (w ∷ ws) (l ∷ ls) h =
    omega (arith, h.0.0, h.0.1, sum_counted ws ls h.1, sum_by-cons (λ (x : ℕ). x) ((w - l) + 3) (counted_from ws ls), sum_by-cons (λ (x : ℕ). x) l ls, sum_by-cons (λ (x : ℕ). x) w ws)
sum_counted _ _ h = absurd h

-- what is said of raised widths, counted so
pub record AreCounted (ws least : List ℕ) : Type 0 where
  pub length_is : length (counted_from ws least) ≡ length ws
  pub wide : AreWide (counted_from ws least)
  pub each : (k : ℕ) → k < length ws → get_or (counted_from ws least) k 0 ≡ (get_or ws k 0 - get_or least k 0) + 3
  pub above : above_three (counted_from ws least) + sum least ≡ sum ws

-- raised widths can be counted so
pub counted : (ws least : List ℕ) → AreRaised ws least → AreCounted ws least
counted ws least h =
    let f : ℕ → ℕ → ℕ = λ w l. (w - l) + 3 in
    let len : length (counted_from ws least) ≡ length ws = length-each_with f ws least in
    let each : (k : ℕ) → k < length ws → get_or (counted_from ws least) k 0 ≡ (get_or ws k 0 - get_or least k 0) + 3 = λ k b. get_or-each_with f ws least k b (omega (arith, b, h.count)) in
    let wide : AreWide (counted_from ws least) = λ k b. let e = each k (omega (arith, b, len)) in omega (arith, e) in
    let sums : sum (counted_from ws least) + sum least ≡ sum ws + 3 * length ws =
    sum_counted ws least (all_zip_from (λ w l. (3 ≤ l) × (l ≤ w)) ws least (sym h.count) (λ k b. (h.three k b, h.over_least k b))) in
    record {
      length_is = len;
      wide = wide;
      each = each;
      above = omega (arith, above_is (counted_from ws least) wide, len, sums);
    }

-- ---- the step

-- the requests for the excess of widths over what is available, counted from the least widths
abbrev pub word_requests : ℕ → List ℕ → List ℕ → List ℕ
word_requests available ws least = second_requests (sum ws - available) (counted_from ws least)

-- each request leaves a column its least width
pub word_leave : (ws least : List ℕ) (available k : ℕ) → AreRaised ws least → k < length ws → get_or (word_requests available ws least) k 0 + get_or least k 0 ≤ get_or ws k 0
word_leave ws least available k h b =
    let c = counted ws least h in
    omega (arith, second_leave (sum ws - available) (counted_from ws least) c.wide k (omega (arith, b, c.length_is)), c.each k b, h.over_least k b)

word_three : (ws least : List ℕ) (available : ℕ) → AreRaised ws least → LeaveThree (word_requests available ws least) ws
word_three ws least available h k b = omega (arith, word_leave ws least available k h b, h.three k b)

word_count : (ws least : List ℕ) (available : ℕ) → AreRaised ws least → length (word_requests available ws least) ≡ length ws
word_count ws least available h = length-second_requests (sum ws - available) (counted_from ws least) ∙ (counted ws least h).length_is

-- what is given up leaves at least the least widths
pub word_stepped : (naturals ws least after : List ℕ) (available : ℕ) (ts : List Turn) → AreTurns naturals ts → length naturals ≡ length ws → AreRaised ws least → sum least ≤ available
    → after ≡ narrowed ws (grants naturals (word_requests available ws least) (sum ws - available)) → AreGivenUp available naturals ws least after
word_stepped naturals ws least after available ts turns len h fits is =
    let requests = word_requests available ws least in
    let excess = sum ws - available in
    let c = counted ws least h in
    let s : IsStep naturals ws requests excess after = subst (IsStep naturals ws requests excess) (sym is) (step naturals ws requests excess ts turns len (word_count ws least available h) (word_three ws least available h)) in
    let rest : excess + (above_three (counted_from ws least) - excess) ≡ above_three (counted_from ws least) = omega (arith, c.above, fits) in
    let enough : excess ≤ sum requests = second_enough excess (above_three (counted_from ws least) - excess) (counted_from ws least) rest in
    record {
      is = is;
      count = s.length_is;
      sum_is = omega (arith, s.sum_is, enough);
      over_least = λ k b. omega (arith, ap (λ l. get_or l k 0) is, get_or-narrowed ws (grants naturals requests excess) k, grants-le naturals requests excess k (omega (arith, b, len)), word_leave ws least available k h b);
      narrower = s.narrower;
    }

-- with nothing to give up they stay
pub word_none : (naturals ws least : List ℕ) (available : ℕ) → length naturals ≡ length ws → AreRaised ws least → sum ws ≤ available → AreGivenUp available naturals ws least ws
word_none naturals ws least available len h fits =
    let none : sum ws - available ≡ 0 = omega (arith, fits) in
    record {
      is = sym (ap (λ n. narrowed ws (grants naturals (word_requests available ws least) n)) none ∙ none_given naturals ws (word_requests available ws least) len);
      count = refl;
      sum_is = omega (arith, fits);
      over_least = h.over_least;
      narrower = λ k b. omega arith;
    }

-- ---- raised widths

-- least widths of columns with these natural widths
pub record AreLeast (naturals least : List ℕ) : Type 0 where
  pub count : length least ≡ length naturals
  pub three : (k : ℕ) → k < length naturals → 3 ≤ get_or least k 0
  pub most : (k : ℕ) → k < length naturals → get_or least k 0 ≤ get_or naturals k 0

-- least widths are three at least, and natural at most
pub least_are : (naturals words : List ℕ) → AreWide naturals → AreWide words → AreLeast naturals (least_widths naturals words)
least_are naturals words wide word_wide = record {
  count = length-each_with min naturals words;
  three = λ k b. elim (cases_lt k (length words)) [
    | inl on ↦ omega (arith, get_or-each_with min naturals words k b on, wide k b, word_wide k on)
    | inr past ↦ omega (arith, each_past min naturals words k past, wide k b)
  ];
  most = λ k b. elim (cases_lt k (length words)) [
    | inl on ↦ omega (arith, get_or-each_with min naturals words k b on)
    | inr past ↦ omega (arith, each_past min naturals words k past)
  ];
}

-- raised widths are least widths at least
pub raised_are : (naturals ws least : List ℕ) → length ws ≡ length naturals → AreLeast naturals least → AreRaised (raised ws least) least
raised_are naturals ws least e h =
    let len : length (raised ws least) ≡ length ws = length-each_with max ws least in
    record {
      count = h.count ∙ sym (len ∙ e);
      three = λ k b. h.three k (omega (arith, b, len, e));
      over_least = λ k b. omega (arith, get_or-each_with max ws least k (omega (arith, b, len)) (omega (arith, b, len, e, h.count)));
    }

-- where no column is under its least width they stay
raised_same : (ws least : List ℕ) → length least ≡ length ws → ((k : ℕ) → k < length ws → get_or least k 0 ≤ get_or ws k 0) → raised ws least ≡ ws
raised_same ws least e h = ext_get_or 0 (raised ws least) ws (length-each_with max ws least) (λ k b.
    let within : k < length ws = omega (arith, b, length-each_with max ws least) in
    omega (arith, get_or-each_with max ws least k within (omega (arith, within, e)), h k within))

-- and if they fit together, nothing is given up
same_after : (available : ℕ) (naturals ws least after : List ℕ) → length naturals ≡ length ws → length least ≡ length ws → ((k : ℕ) → k < length ws → get_or least k 0 ≤ get_or ws k 0) → sum ws ≤ available
    → AreGivenUp available naturals (raised ws least) least after → after ≡ ws
same_after available naturals ws least after e f under fits h =
    let same : raised ws least ≡ ws = raised_same ws least f under in
    let none : sum ws - available ≡ 0 = omega (arith, fits) in
    h.is ∙ ap (λ v. narrowed v (grants naturals (word_requests available v least) (sum v - available))) same ∙ ap (λ n. narrowed ws (grants naturals (word_requests available ws least) n)) none
    ∙ none_given naturals ws (word_requests available ws least) e

-- ---- the widths

-- what all column widths are
pub shared_count : (available : ℕ) (naturals ws : List ℕ) (reduced : Bool) → AreShared available naturals reduced ws → length ws ≡ length naturals
shared_count available naturals ws reduced h =
    elim (cases_lt available (sum naturals)) [
      | inr fits ↦ ap length (h.fitting fits).0
      | inl more ↦
          elim (cases_eq (length naturals) 1) [
            | inl one ↦ ap length (h.single more one).0 ∙ sym one
            | inr several ↦ zip_length (λ w n. (3 ≤ w) × (w ≤ n)) ws naturals (h.shared more several).1
          ]
    ]

zip_sum : (ws ns : List ℕ) → AllZip (λ w n. w ≤ n) ws ns → sum ws ≤ sum ns
zip_sum [] [] h = omega arith
zip_sum (w ∷ ws) (n ∷ ns) h = omega (arith, h.0, zip_sum ws ns h.1, sum_by-cons (λ (x : ℕ). x) w ws, sum_by-cons (λ (x : ℕ). x) n ns)
zip_sum _ _ h = absurd h

one_least : (available : ℕ) (naturals least : List ℕ) → length naturals ≡ 1 → AreLeast naturals least → sum least ≤ available → (k : ℕ) → k < 1 → get_or least k 0 ≤ get_or (available ∷ []) k 0
one_least available naturals [] one h fits k b = absurd (omega (arith, h.count, one))
one_least available naturals (l ∷ []) one h fits zero b = omega (arith, fits, sum_by-cons (λ (x : ℕ). x) l [])
one_least available naturals (l ∷ []) one h fits (suc k) b = absurd (omega (arith, b))
one_least available naturals (l ∷ m ∷ ls) one h fits k b = absurd (omega (arith, h.count, one))

-- they are shared as all column widths are
given_shared : (available : ℕ) (naturals ws least after : List ℕ) (reduced : Bool) → AreLeast naturals least → sum least ≤ available → AreShared available naturals reduced ws → AreGivenUp available naturals (raised ws least) least after
    → AreShared available naturals reduced after
given_shared available naturals ws least after reduced h fits s g =
    let len : length ws ≡ length naturals = shared_count available naturals ws reduced s in
    let long : length (raised ws least) ≡ length ws = length-each_with max ws least in
    record {
      fitting = λ f.
          let is : ws ≡ naturals = (s.fitting f).0 in
          let under : (k : ℕ) → k < length ws → get_or least k 0 ≤ get_or ws k 0 = λ k b. subst (λ v. get_or least k 0 ≤ get_or v k 0) (sym is) (h.most k (omega (arith, b, len))) in
          (same_after available naturals ws least after (sym len) (h.count ∙ sym len) under (omega (arith, f, ap sum is)) g ∙ is, (s.fitting f).1);
      single = λ m one.
          let is : ws ≡ available ∷ [] = (s.single m one).0 in
          let under : (k : ℕ) → k < length ws → get_or least k 0 ≤ get_or ws k 0 = λ k b. subst (λ v. get_or least k 0 ≤ get_or v k 0) (sym is) (one_least available naturals least one h fits k (omega (arith, b, len, one))) in
          (same_after available naturals ws least after (sym len) (h.count ∙ sym len) under (omega (arith, ap sum is)) g ∙ is, (s.single m one).1);
      shared = λ m several.
          let was = s.shared m several in
          let bounds : (k : ℕ) → k < length ws → (3 ≤ get_or ws k 0) × (get_or ws k 0 ≤ get_or naturals k 0) = λ k b. zip_at (λ w n. (3 ≤ w) × (w ≤ n)) ws naturals k 0 0 was.1 b in
          let more : sum ws ≤ sum (raised ws least) = zip_sum ws (raised ws least) (all_zip_from (λ w n. w ≤ n) ws (raised ws least) (sym long) (λ k b. omega (arith, get_or-each_with max ws least k b (omega (arith, b, len, h.count))))) in (
            omega (arith, g.sum_is, more, was.0),
            all_zip_from (λ w n. (3 ≤ w) × (w ≤ n)) after naturals (g.count ∙ long ∙ len) (λ k b.
                let within : k < length ws = omega (arith, b, g.count, long) in
                let on : k < length (raised ws least) = omega (arith, within, long) in (
                  omega (arith, g.over_least k on, h.three k (omega (arith, within, len))),
                  omega (arith, g.narrower k on, get_or-each_with max ws least k within (omega (arith, within, len, h.count)), (bounds k within).1, h.most k (omega (arith, within, len))),
                )),
            was.2,
          );
    }

-- where the least widths don't fit together
pub word_unfit : (available : ℕ) (ns : List Needs) (least : List ℕ) (fitted : TblFitResult) → available < sum least → IsFit available ns fitted → IsWordFit available ns least fitted
unfolding word_widths
word_unfit available ns least fitted m h = record {
  widths = h.widths ∙ sym (cond-false (leb (sum least) available) _ (column_widths available ns) (lt-leb (sum least) available m));
  reduced_is = h.reduced_is;
  shared = h.shared;
  whole = λ l. absurd (omega (arith, l, m));
}

-- and where they do
pub word_fits : (available : ℕ) (ns : List Needs) (least after : List ℕ) (fitted made : TblFitResult) → AreLeast (natural_widths ns) least → sum least ≤ available → IsFit available ns fitted
    → AreGivenUp available (natural_widths ns) (raised fitted.col_widths.items least) least after → made.reduced ≡ fitted.reduced → made.col_widths.items ≡ after → IsWordFit available ns least made
unfolding word_widths
word_fits available ns least after fitted made h fits fit g r e =
    let naturals = natural_widths ns in
    let ws = fitted.col_widths.items in
    let len : length ws ≡ length naturals = shared_count available naturals ws fitted.reduced fit.shared in
    let long : length (raised ws least) ≡ length ws = length-each_with max ws least in
    let count : length after ≡ length least = g.count ∙ long ∙ len ∙ sym h.count in
    record {
      widths = e ∙ g.is ∙ ap (λ v. narrowed (raised v least) (grants naturals (word_requests available (raised v least) least) (sum (raised v least) - available))) fit.widths
          ∙ sym (cond-true (leb (sum least) available) _ (column_widths available ns) (le-leb (sum least) available fits));
      reduced_is = r ∙ fit.reduced_is;
      shared = subst (λ v. AreShared available naturals made.reduced v) (sym e) (subst (λ b. AreShared available naturals b after) (sym r) (given_shared available naturals ws least after fitted.reduced h fits fit.shared g));
      whole = λ _. subst (λ v. AllZip (λ w l. l ≤ w) v least) (sym e) (all_zip_from (λ w l. l ≤ w) after least count (λ k b. g.over_least k (omega (arith, b, g.count))));
    }

-- ---- as the program makes them

-- the natural widths of columns that have seen cells are three at least
pub naturals_three : (cs : List SeenColumn) → AreWide (natural_widths (map needs_in cs))
naturals_three cs i l =
    let d : Needs = record { natural = 0; average = 0 } in
    let within : i < length (map needs_in cs) = omega (arith, l, length-naturals (map needs_in cs)) in
    omega (arith, get_or-naturals (map needs_in cs) i d within, All-get_or (λ n. 3 ≤ n.natural) (map needs_in cs) i d within (naturals_wide cs))

-- the least widths of columns that have seen cells and words
pub seen_least : (cs words : List SeenColumn) → AreLeast (natural_widths (map needs_in cs)) (least_widths (natural_widths (map needs_in cs)) (natural_widths (map needs_in words)))
seen_least cs words = least_are (natural_widths (map needs_in cs)) (natural_widths (map needs_in words)) (naturals_three cs) (naturals_three words)

-- the widths that are raised to them
pub seen_raised : (cs words : List SeenColumn) (available : ℕ) (fitted : TblFitResult) → IsFit available (map needs_in cs) fitted
    → AreRaised (raised fitted.col_widths.items (least_widths (natural_widths (map needs_in cs)) (natural_widths (map needs_in words)))) (least_widths (natural_widths (map needs_in cs)) (natural_widths (map needs_in words)))
seen_raised cs words available fitted fit =
    let naturals = natural_widths (map needs_in cs) in
    raised_are naturals fitted.col_widths.items (least_widths naturals (natural_widths (map needs_in words))) (shared_count available naturals fitted.col_widths.items fitted.reduced fit.shared) (seen_least cs words)

-- what the excess asks for
pub word_asks : (ws least now : List ℕ) (available needed : ℕ) → AreRaised ws least → sum least ≤ available → available < sum ws → needed ≡ sum least → now ≡ counted_from ws least
    → (available - needed < above_three now) × (above_three now - (available - needed) ≡ sum ws - available)
word_asks ws least now available needed h fits more n e =
    let c = counted ws least h in
    let above : above_three now + sum least ≡ sum ws = ap (λ l. above_three l + sum least) e ∙ c.above in
    (omega (arith, above, fits, more, n), omega (arith, above, fits, more, n))

-- it can be given up, and what that leaves
pub word_taken : (naturals ws least requests : List ℕ) (us : List (Reverse ℕ × ℕ)) (available total : ℕ) → length naturals ≡ length ws → AreRaised ws least → sum least ≤ available → total ≡ sum ws → AreTurns naturals (map turn_of us)
    → requests ≡ word_requests available ws least
    → CanGiveUp ws requests us × ((after : List ℕ) → InTurn us requests (λ order. after ≡ narrowed ws (grants order requests (total - available))) → AreGivenUp available naturals ws least after)
word_taken naturals ws least requests us available total len h fits t turns g =
    let count : length requests ≡ length ws = ap length g ∙ word_count ws least available h in (
      subst (λ r. CanGiveUp ws r us) (sym g) (gives naturals ws (word_requests available ws least) us turns len (word_count ws least available h) (word_three ws least available h)),
      λ after w. word_stepped naturals ws least after available (map turn_of us) turns len h fits (w naturals turns (count ∙ sym len) ∙ ap (λ r. narrowed ws (grants naturals r (total - available))) g ∙ ap (λ x. narrowed ws (grants naturals (word_requests available ws least) (x - available))) t),
    )
