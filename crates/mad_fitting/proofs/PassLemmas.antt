-- Compounds that are passed over one after the other, with their parts.
use Rattle.std.proofs.Common.{◌≡◌, ℕ, zero, suc, ◌+◌, ◌-◌, ◌<◌, ◌≤◌, inl, List, [], ◌∷◌, ◌++◌, length, map, drop, get_or, slice_range, refl, sym, ap, ◌∙◌, arith, subst}
use Rattle.std.specs.List.{AllByRecursion}
use Rattle.std.specs.Str.{IsUtf8}
use Rattle.std.proofs.Math.Seq.{drop-append_seam}
use Rattle.std.proofs.lemmas.List.{append_assoc, append-nil, at_drop_more, drop-drop, drop_all, length-append, length-drop, length-map, take_all}
use Rattle.mad_md.specs.Flagged.{flags_of}
use Rattle.mad_md.specs.declared.compound.Compound.{Compound}
use Rattle.mad_fitting.specs.Cuts.{IsPartOf}
use Rattle.mad_fitting.specs.Order.{AreTurns, IsSmall, Serves, amount_of, room_of}
use Rattle.mad_fitting.specs.Parts.{ArePartsOf, AreGains, due, gain_of}
use Rattle.mad_fitting.specs.Sweeps.{AreInOrder, FollowTurns, IsMoved, IsThinnedBy, PassesOver, Sweeps, SweepsAll}
use Rattle.mad_fitting.specs.Turns.{AreCut, CutsEach}
use Rattle.mad_fitting.specs.declared.gains.Gain.{Gain}
use Rattle.mad_fitting.specs.declared.gains.Parts.{Parts}
use Rattle.mad_fitting.specs.declared.parts.Run.{Run}
use Rattle.mad_fitting.specs.declared.sweeping.Sweep.{Sweep}
use Rattle.mad_fitting.specs.declared.turns.Turns.{Turns}
use Rattle.mad_fitting.proofs.AmountLemmas.{room_all, room_more, serves}
use Rattle.mad_fitting.proofs.SweepLemmas.{IsCutTo, cut_to, gone_most, in_order_less, moved_part, thinned_both, thinned_none}

-- ---- the parts of one compound

-- what is known between two parts of a compound: `i` of them are done, and the others are to come
pub record Passing (p : Compound) (parts : List Run) (turns : Turns) (number i : ℕ) (before : Sweep) (rest : Compound) (now : Sweep) (others : List Run) : Type 0 where
  pub from : ℕ
  pub text : rest.src.now ≡ drop from p.src.now
  pub flags : flags_of rest ≡ flags_of p
  pub within : from ≤ length p.src.now
  pub few : i ≤ length parts
  pub order : AreInOrder p.src.now from others
  pub here : List Compound
  pub gone : ℕ
  pub added : now.compounds.items ≡ before.compounds.items ++ here
  pub left : now.left ≡ before.left - gone
  pub cut : (later : List Compound) → AreCut turns.excess turns.gains.items (number + i) p from others later → AreCut turns.excess turns.gains.items number p 0 parts (here ++ later)
  pub thinned : (done more : List Compound) → IsThinnedBy gone (done ++ p ∷ more) ((done ++ here) ++ rest ∷ more)
  pub more : List Gain
  pub gains : drop (number + i) turns.gains.items ≡ map (gain_of p.src.now) others ++ more
  pub room : (gs : List Gain) → gone + room_of turns (number + i) (map (gain_of p.src.now) others ++ gs) ≤ room_of turns number (map (gain_of p.src.now) parts ++ gs)

-- before its first part nothing of a compound has gone
pub passing_start : (p : Compound) (parts : List Run) (turns : Turns) (number : ℕ) (sweep : Sweep) → AreInOrder p.src.now 0 parts → FollowTurns p.src.now parts number turns → Passing p parts turns number 0 sweep p sweep parts
passing_start p parts turns number sweep order follow =
    let none : number ≡ number + 0 = omega arith in
    record {
      from = 0;
      text = refl;
      flags = refl;
      within = omega arith;
      few = omega arith;
      order = order;
      here = [];
      gone = 0;
      added = sym (append-nil sweep.compounds.items);
      left = omega arith;
      cut = λ later h. subst (λ n. AreCut turns.excess turns.gains.items n p 0 parts later) (sym none) h;
      thinned = λ done more. subst (λ l. IsThinnedBy 0 (done ++ p ∷ more) (l ++ p ∷ more)) (sym (append-nil done)) (thinned_none (done ++ p ∷ more));
      more = follow.more;
      gains = ap (λ n. drop n turns.gains.items) (sym none) ∙ follow.gains;
      room = λ gs. omega (arith, ap (λ n. room_of turns n (map (gain_of p.src.now) parts ++ gs)) none);
    }

-- the next part is the first of those to come
pub passing_next : (p : Compound) (parts : List Run) (turns : Turns) (number i : ℕ) (before : Sweep) (rest : Compound) (now : Sweep) (d : Run) → i < length parts → Passing p parts turns number i before rest now (drop i parts)
    → Passing p parts turns number i before rest now (get_or parts i d ∷ drop (i + 1) parts)
passing_next p parts turns number i before rest now d l h = subst (Passing p parts turns number i before rest now) (at_drop_more (λ r. r) parts i d l) h

small_at : (n : ℕ) (gs back : List Gain) (g : Gain) → AllByRecursion IsSmall gs → drop n gs ≡ g ∷ back → g.gained < 18446744073709551615
small_at zero [] back g all is = absurd (cc)
small_at (suc n) [] back g all is = absurd (cc)
small_at zero (x ∷ gs) back g all is = let same : x ≡ g = cc in omega (arith, all.0, ap (λ (y : Gain). y.gained) same)
small_at (suc n) (x ∷ gs) back g all is = small_at n gs back g all.1 is

next_drop : (n : ℕ) (gs back : List Gain) (g : Gain) → drop n gs ≡ g ∷ back → drop (n + 1) gs ≡ back
next_drop n gs back g is = sym (drop-drop 1 n gs) ∙ ap (drop 1) is

-- what is left of a compound isn't longer than it
pub rest_within : (p : Compound) (parts : List Run) (turns : Turns) (number i : ℕ) (before : Sweep) (rest : Compound) (now : Sweep) (others : List Run) → Passing p parts turns number i before rest now others → length rest.src.now ≤ length p.src.now
rest_within p parts turns number i before rest now others h = omega (arith, ap length h.text, length-drop h.from p.src.now)

-- the next part's number is one of the gains
pub number_fits : (p : Compound) (parts : List Run) (turns : Turns) (number i : ℕ) (before : Sweep) (rest : Compound) (now : Sweep) (part : Run) (others : List Run) → Passing p parts turns number i before rest now (part ∷ others) → number + i < length turns.gains.items
number_fits p parts turns number i before rest now part others h = omega (arith, ap length h.gains, length-drop (number + i) turns.gains.items)

-- the next part doesn't begin or end before what is left of the compound
pub moved_fits : (p : Compound) (parts : List Run) (turns : Turns) (number i from : ℕ) (before : Sweep) (rest : Compound) (now : Sweep) (part : Run) (others : List Run) → Passing p parts turns number i before rest now (part ∷ others) → from ≡ length p.src.now - length rest.src.now → (from ≤ part.start) × (from ≤ part.end)
moved_fits p parts turns number i from before rest now part others h is =
    let same : from ≡ h.from = omega (arith, is, ap length h.text, length-drop h.from p.src.now, h.within) in
    (omega (arith, same, h.order.1), omega (arith, same, h.order.1, h.order.0.order))

-- the next part is where it is said to be
pub next_part_of : (p : Compound) (parts : List Run) (turns : Turns) (number i from : ℕ) (before : Sweep) (rest : Compound) (now : Sweep) (part moved : Run) (others : List Run)
    → (h : Passing p parts turns number i before rest now (part ∷ others)) → from ≡ length p.src.now - length rest.src.now → IsMoved part from moved → IsPartOf 0 rest moved
next_part_of p parts turns number i from before rest now part moved others h is move =
    let same : from ≡ h.from = omega (arith, is, ap length h.text, length-drop h.from p.src.now, h.within) in
    moved_part p rest part moved h.from h.order.0 h.order.1 h.text (subst (λ n. IsMoved part n moved) same move)

-- one part more has been cut in its turn
pub passing_cut : (p : Compound) (parts : List Run) (turns : Turns) (number i from amount : ℕ) (before : Sweep) (rest more : Compound) (now after : Sweep) (part moved : Run) (others : List Run)
    → i < length parts → IsUtf8 p.src.now → AreTurns turns → (h : Passing p parts turns number i before rest now (part ∷ others)) → from ≡ length p.src.now - length rest.src.now → IsMoved part from moved → amount ≡ amount_of turns.last (number + i) part.columns
    → Sweeps amount rest moved now more after → Passing p parts turns number (i + 1) before more after others
passing_cut p parts turns number i from amount before rest more now after part moved others short utf8 last h is move amount_is s =
    let same : from ≡ h.from = omega (arith, is, ap length h.text, length-drop h.from p.src.now, h.within) in
    let moves : IsMoved part h.from moved = subst (λ n. IsMoved part n moved) same move in
    let own : IsPartOf 0 p part = h.order.0 in
    let excess : ℕ = turns.excess in
    let gains : List Gain = turns.gains.items in
    let g : Gain = gain_of p.src.now part in
    let back : List Gain = map (gain_of p.src.now) others ++ h.more in
    let small : g.gained < 18446744073709551615 = small_at (number + i) gains back g last.small h.gains in
    let serve : Serves (due excess gains (number + i) part.columns) g.gained amount = subst (Serves (due excess gains (number + i) part.columns) g.gained) (sym amount_is) (serves excess (number + i) gains back g turns.last last.last h.gains small) in
    let to : IsCutTo (due excess gains (number + i) part.columns) p h.from part s.here more = cut_to (due excess gains (number + i) part.columns) amount g.gained p rest more part moved h.from s.gone s.here utf8 own h.order.1 h.text h.flags moves refl serve s.cuts in
    let next : number + i + 1 ≡ number + (i + 1) = omega arith in
    let whole : s.gone ≤ g.gained = gone_most amount p rest more part moved h.from s.gone s.here utf8 own h.order.1 h.text moves s.cuts in
    let none : amount_of turns.last (number + i) part.columns ≡ 0 → s.gone ≡ 0 = λ z. (s.cuts.stays (inl (amount_is ∙ z))).2 in
    record {
      from = to.next;
      text = to.text;
      flags = to.flags;
      within = omega (arith, to.within, own.last.0);
      few = omega (arith, short);
      order = in_order_less p.src.now part.end to.next others to.within h.order.2;
      here = h.here ++ s.here;
      gone = h.gone + s.gone;
      added = s.added ∙ ap (λ l. l ++ s.here) h.added ∙ append_assoc before.compounds.items h.here s.here;
      left = omega (arith, s.left, h.left);
      cut = λ later cuts. subst (AreCut excess gains number p 0 parts) (sym (append_assoc h.here s.here later)) (h.cut (s.here ++ later) (s.here, later, to.next, refl, to.is, subst (λ n. AreCut excess gains n p to.next others later) (sym next) cuts));
      thinned = λ done rests.
          thinned_both h.gone s.gone (h.gone + s.gone) (done ++ p ∷ rests) ((done ++ h.here) ++ rest ∷ rests) ((done ++ (h.here ++ s.here)) ++ more ∷ rests) refl (h.thinned done rests)
          (subst (λ l. IsThinnedBy s.gone ((done ++ h.here) ++ rest ∷ rests) (l ++ more ∷ rests)) (append_assoc done h.here s.here) (s.thinned (done ++ h.here) rests));
      more = h.more;
      gains = ap (λ n. drop n gains) (sym next) ∙ next_drop (number + i) gains back g h.gains;
      room = λ gs. omega (
        arith,
        h.room gs,
        room_more excess (number + i) s.gone g (map (gain_of p.src.now) others ++ gs) turns.last whole (omega (arith, s.most, amount_is)) none,
        ap (λ n. room_of turns n (map (gain_of p.src.now) others ++ gs)) next,
      );
    }

-- after the last part what is left is added, and the compound is passed over
pub passing_end : (p : Compound) (parts : List Run) (turns : Turns) (number i : ℕ) (before : Sweep) (rest : Compound) (now after : Sweep) → length parts ≤ i → Passing p parts turns number i before rest now (drop i parts)
    → after.compounds.items ≡ now.compounds.items ++ rest ∷ [] → after.left ≡ now.left → PassesOver p parts turns number before after
passing_end p parts turns number i before rest now after all h added left =
    let none : drop i parts ≡ [] = drop_all i parts all in
    let count : i ≡ length parts = omega (arith, all, h.few) in
    let bs : List ℕ = p.src.now in
    let last : rest.src.now ≡ slice_range bs h.from (length bs) = h.text ∙ sym (take_all (length bs - h.from) (drop h.from bs) (omega (arith, length-drop h.from bs))) in
    record {
      here = h.here ++ rest ∷ [];
      gone = h.gone;
      added = added ∙ ap (λ l. l ++ rest ∷ []) h.added ∙ append_assoc before.compounds.items h.here (rest ∷ []);
      left = left ∙ h.left;
      cut = h.cut (rest ∷ []) (subst (λ l. AreCut turns.excess turns.gains.items (number + i) p h.from l (rest ∷ [])) (sym none) (rest, refl, record { text = last; flags = h.flags }));
      thinned = λ done others.
          let same : (done ++ h.here) ++ rest ∷ others ≡ (done ++ (h.here ++ rest ∷ [])) ++ others =
          append_assoc done h.here (rest ∷ others) ∙ ap (λ l. done ++ l) (sym (append_assoc h.here (rest ∷ []) others)) ∙ sym (append_assoc done (h.here ++ rest ∷ []) others) in
          subst (IsThinnedBy h.gone (done ++ p ∷ others)) same (h.thinned done others);
      room = λ gs. omega (
        arith,
        h.room gs,
        ap (λ l. room_of turns (number + i) (map (gain_of p.src.now) l ++ gs)) none,
        ap (λ n. room_of turns (number + n) gs) count,
      );
    }

-- ---- one compound after the other

-- what is known between two compounds
pub record Sweeping (kind : Parts) (ps : List Compound) (turns : Turns) (number : ℕ) (now : Sweep) (others : List Compound) : Type 0 where
  pub gone : ℕ
  pub left : now.left ≡ turns.excess - gone
  pub cut : (later : List Compound) → CutsEach turns.excess turns.gains.items kind number others later → CutsEach turns.excess turns.gains.items kind 0 ps (now.compounds.items ++ later)
  pub thinned : IsThinnedBy gone ps (now.compounds.items ++ others)
  pub gains : AreGains kind others (drop number turns.gains.items)
  pub room : gone + room_of turns number (drop number turns.gains.items) ≤ room_of turns 0 turns.gains.items

-- before the first compound nothing has gone
pub sweeping_start : (kind : Parts) (ps : List Compound) (turns : Turns) (now : Sweep) → now.compounds.items ≡ [] → now.left ≡ turns.excess → AreGains kind ps turns.gains.items → Sweeping kind ps turns 0 now ps
sweeping_start kind ps turns now none left gains = record {
  gone = 0;
  left = omega (arith, left);
  cut = λ later h. subst (λ l. CutsEach turns.excess turns.gains.items kind 0 ps (l ++ later)) (sym none) h;
  thinned = subst (λ l. IsThinnedBy 0 ps (l ++ ps)) (sym none) (thinned_none ps);
  gains = gains;
  room = omega arith;
}

-- the next compound is the first of those to come
pub sweeping_next : (kind : Parts) (ps : List Compound) (turns : Turns) (number i : ℕ) (now : Sweep) (d : Compound) → i < length ps → Sweeping kind ps turns number now (drop i ps) → Sweeping kind ps turns number now (get_or ps i d ∷ drop (i + 1) ps)
sweeping_next kind ps turns number i now d l h = subst (Sweeping kind ps turns number now) (at_drop_more (λ r. r) ps i d l) h

-- the parts of the next compound are the next that the turns are of
pub next_follow : (kind : Parts) (ps : List Compound) (turns : Turns) (number : ℕ) (now : Sweep) (p : Compound) (others : List Compound) (parts : List Run)
    → (one : (own : List Run) → ArePartsOf kind p own → own ≡ parts) → Sweeping kind ps turns number now (p ∷ others) → FollowTurns p.src.now parts number turns
next_follow kind ps turns number now p others parts one h = record {
  more = h.gains.1;
  gains = h.gains.3 ∙ ap (λ l. map (gain_of p.src.now) l ++ h.gains.1) (one h.gains.0 h.gains.2);
}

-- there are gains for all parts of the next compound
pub next_fits : (kind : Parts) (ps : List Compound) (turns : Turns) (number : ℕ) (now : Sweep) (p : Compound) (others : List Compound) (parts : List Run)
    → (one : (own : List Run) → ArePartsOf kind p own → own ≡ parts) → Sweeping kind ps turns number now (p ∷ others) → length parts ≤ length turns.gains.items - number
next_fits kind ps turns number now p others parts one h =
    let split : drop number turns.gains.items ≡ map (gain_of p.src.now) parts ++ h.gains.1 = h.gains.3 ∙ ap (λ l. map (gain_of p.src.now) l ++ h.gains.1) (one h.gains.0 h.gains.2) in
    omega (arith, ap length split, length-drop number turns.gains.items, length-append (map (gain_of p.src.now) parts) h.gains.1, length-map parts (gain_of p.src.now))

-- one compound more has been passed over
pub sweeping_pass : (kind : Parts) (ps : List Compound) (turns : Turns) (number next : ℕ) (now after : Sweep) (p : Compound) (others : List Compound) (parts : List Run)
    → (one : (own : List Run) → ArePartsOf kind p own → own ≡ parts) → ArePartsOf kind p parts → next ≡ number + length parts → Sweeping kind ps turns number now (p ∷ others) → PassesOver p parts turns number now after
    → Sweeping kind ps turns next after others
sweeping_pass kind ps turns number next now after p others parts one are next_is h g =
    let excess : ℕ = turns.excess in
    let gains : List Gain = turns.gains.items in
    let own : List Gain = map (gain_of p.src.now) parts in
    let more : List Gain = h.gains.1 in
    let split : drop number gains ≡ own ++ more = h.gains.3 ∙ ap (λ l. map (gain_of p.src.now) l ++ more) (one h.gains.0 h.gains.2) in
    let behind : drop next gains ≡ more = ap (λ n. drop n gains) next_is ∙ sym (drop-drop (length parts) number gains) ∙ ap (drop (length parts)) split ∙ ap (λ n. drop n (own ++ more)) (sym (length-map parts (gain_of p.src.now))) ∙ drop-append_seam own more in
    record {
      gone = h.gone + g.gone;
      left = omega (arith, g.left, h.left);
      cut = λ later cuts.
          let all : now.compounds.items ++ (g.here ++ later) ≡ after.compounds.items ++ later = sym (ap (λ l. l ++ later) g.added ∙ append_assoc now.compounds.items g.here later) in
          subst (CutsEach excess gains kind 0 ps) all (h.cut (g.here ++ later) (parts, g.here, later, are, refl, g.cut, subst (λ n. CutsEach excess gains kind n others later) next_is cuts));
      thinned = thinned_both h.gone g.gone (h.gone + g.gone) ps (now.compounds.items ++ p ∷ others) (after.compounds.items ++ others) refl h.thinned
          (subst (λ l. IsThinnedBy g.gone (now.compounds.items ++ p ∷ others) (l ++ others)) (sym g.added) (g.thinned now.compounds.items others));
      gains = subst (AreGains kind others) (sym behind) h.gains.4;
      room = omega (
        arith,
        h.room,
        g.room more,
        ap (room_of turns number) split,
        ap (λ n. room_of turns n more) next_is,
        ap (room_of turns next) behind,
      );
    }

-- after the last compound all parts are cut in their turns
pub sweeping_end : (kind : Parts) (ps : List Compound) (turns : Turns) (number : ℕ) (now : Sweep) → 0 < turns.excess → AreTurns turns → Sweeping kind ps turns number now [] → SweepsAll kind ps turns now
sweeping_end kind ps turns number now some last h = record {
  gone = h.gone;
  left = h.left;
  most = omega (arith, h.room, room_all turns.excess turns.gains.items turns.last some last.last);
  cut = subst (CutsEach turns.excess turns.gains.items kind 0 ps) (append-nil now.compounds.items) (h.cut [] refl);
  thinned = subst (IsThinnedBy h.gone ps) (append-nil now.compounds.items) h.thinned;
}
