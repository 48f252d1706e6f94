-- A clean cut is a wrap of its compounds.
use Rattle.std.proofs.Common.{◌≡◌, ℕ, ◌≤◌, ◌<◌, ◌+◌, Bool, true, false, ◌&&◌, List, [], ◌∷◌, ◌++◌, map, chars, length, Option, Some, None, is_some, unwrap_or, if◌then◌else◌, Contains, refl, sym, ap, ◌∙◌, arith, subst, append-nil}
use Rattle.std.proofs.lemmas.Bool.{and_parts, leb-true}
use Rattle.std.proofs.lemmas.List.Elements.{Contains-append_left}
use Rattle.std.specs.List.{AllByRecursion, list_all}
use Rattle.std.specs.Char.{is_whitespace}
use Rattle.mad_md.specs.Flagged.{Flags, FlaggedChar, Run, flagged, flags_of, flagged_of, flagged_text, run_of}
use Rattle.mad_md.specs.declared.compound.Compound.{Compound}
use Rattle.mad_measure.specs.TextColumns.{width_of}
use Rattle.mad_measure.specs.Tokens.{tokens_text, token_run}
use Rattle.mad_measure.specs.declared.tokens.Token.{Token}
use Rattle.mad_measure.proofs.ExistLemmas.{tokens_of_all}
use Rattle.mad_measure.proofs.TokenTexts.{text_from, some_compound}
use Rattle.mad_wrap.specs.CleanCut.{fits_after, both_fit, is_white, clean_cut, is_cut_clean, drops_middle, AreTexts}
use Rattle.mad_wrap.specs.Keeps.{AllWhite, Keeps}
use Rattle.mad_wrap.specs.LeastWrap.{AreTokensIn, AreTokenized, IsWrap}
use Rattle.mad_wrap.specs.TokenLines.{AreTwoLines}
use Rattle.mad_wrap.specs.Placings.{ArePlaced}
use Rattle.mad_wrap.specs.WrapLines.{runs_of, LinesFit, NoneEmpty, IsMadeOf}
use Rattle.mad_wrap.specs.declared.room.Room.{Room}
use Rattle.mad_wrap.specs.declared.wrapped_line.WrappedLine.{WrappedLine}
use Rattle.mad_wrap.specs.WrapLines.{compounds_of, AreCounted}
use Rattle.mad_wrap.specs.Rooms.{token_limit}
use Rattle.mad_wrap.proofs.BoundLemmas.{two_lines}
use Rattle.mad_wrap.proofs.WrapLemmas.{total_is, one_list}

-- what a clean cut says of its compounds
pub record IsCut (r : Room) (ps : List Compound) (front back : Compound) : Type 0 where
  pub middle : List FlaggedChar
  pub text : flagged_text ps ≡ flagged_of front ++ (middle ++ flagged_of back)
  pub white : AllWhite middle
  pub fits_first : r.first + width_of (flagged_of front) ≤ r.width
  pub fits_second : r.other + width_of (flagged_of back) ≤ r.width
  pub has_front : Contains (map run_of ps) (run_of front)
  pub has_back : Contains (map run_of ps) (run_of back)
  pub none_empty : NoneEmpty ps → (0 < length front.src.now) × (0 < length back.src.now)
  pub two : drops_middle r ps ≡ false → ps ≡ front ∷ back ∷ []

-- what was made by a test is what it makes, and passed it
pub made_by : {A : Type 0} (b : Bool) (x y : A) → (if b then Some x else None) ≡ Some y → (b ≡ true) × (x ≡ y)
made_by true x y e = (refl, cc)
made_by false x y e = absurd (cc)

-- whitespace is white with any flags
pub white_flagged : (f : Flags) (cs : List ℕ) → list_all is_whitespace cs ≡ true → AllWhite (flagged f cs)
white_flagged f [] h = tt
white_flagged f (c ∷ cs) h = let parts = and_parts (is_whitespace c) (list_all is_whitespace cs) h in (parts.0, white_flagged f cs parts.1)

cut_of_two : (r : Room) (a b : Compound) → both_fit r a b ≡ true → IsCut r (a ∷ b ∷ []) a b
cut_of_two r a b fit =
    let parts = and_parts (fits_after r.first r.width a) (fits_after r.other r.width b) fit in
    record {
      middle = [];
      text = ap (λ l. flagged_of a ++ l) (append-nil (flagged_of b));
      white = tt;
      fits_first = leb-true _ _ parts.0;
      fits_second = leb-true _ _ parts.1;
      has_front = (0, omega arith, refl);
      has_back = (1, omega arith, refl);
      none_empty = λ h. (h.0, h.1.0);
      two = λ _. refl;
    }

cut_of_three : (r : Room) (a m b : Compound) → is_white m && both_fit r a b ≡ true → IsCut r (a ∷ m ∷ b ∷ []) a b
cut_of_three r a m b test =
    let both = and_parts (is_white m) (both_fit r a b) test in
    let parts = and_parts (fits_after r.first r.width a) (fits_after r.other r.width b) both.1 in
    record {
      middle = flagged_of m;
      text = ap (λ l. flagged_of a ++ (flagged_of m ++ l)) (append-nil (flagged_of b));
      white = white_flagged (flags_of m) (chars m.src.now) both.0;
      fits_first = leb-true _ _ parts.0;
      fits_second = leb-true _ _ parts.1;
      has_front = (0, omega arith, refl);
      has_back = (2, omega arith, refl);
      none_empty = λ h. (h.0, h.1.1.0);
      two = λ e. absurd (let on : drops_middle r (a ∷ m ∷ b ∷ []) ≡ true = ap (λ (t : Bool). is_some {T = Compound × Compound} (if t then Some (a, b) else None)) test in cc);
    }

-- a clean cut makes two compounds that fit on a line each, with whitespace or nothing between them
pub cut_is : (r : Room) (ps : List Compound) (front back : Compound) → clean_cut r ps ≡ Some (front, back) → IsCut r ps front back
cut_is r (a ∷ b ∷ []) front back e =
    let made = made_by (both_fit r a b) (a, b) (front, back) e in
    subst (λ (q : Compound × Compound). IsCut r (a ∷ b ∷ []) q.0 q.1) made.1 (cut_of_two r a b made.0)
cut_is r (a ∷ m ∷ b ∷ []) front back e =
    let made = made_by (is_white m && both_fit r a b) (a, b) (front, back) e in
    subst (λ (q : Compound × Compound). IsCut r (a ∷ m ∷ b ∷ []) q.0 q.1) made.1 (cut_of_three r a m b made.0)
cut_is r _ front back e = absurd (cc)

-- what was made by a test passed it
pub some_made : {A : Type 0} (b : Bool) (x : A) → is_some (if b then Some x else None) ≡ true → b ≡ true
some_made true x e = refl
some_made false x e = absurd (cc)

-- a clean cut has room for the first line's indent
pub cut_has_room : (r : Room) (ps : List Compound) → is_cut_clean r ps ≡ true → r.first ≤ r.width
cut_has_room r (a ∷ b ∷ []) e = let cut = cut_of_two r a b (some_made (both_fit r a b) (a, b) e) in omega (arith, cut.fits_first)
cut_has_room r (a ∷ m ∷ b ∷ []) e = let cut = cut_of_three r a m b (some_made (is_white m && both_fit r a b) (a, b) e) in omega (arith, cut.fits_first)
cut_has_room r _ e = absurd (cc)

-- the text of a line that holds one compound
text_of_one : (cs : List Compound) (p : Compound) → map run_of cs ≡ run_of p ∷ [] → flagged_text cs ≡ flagged_of p
text_of_one [] p e = absurd (cc)
text_of_one (c ∷ []) p e = let same : run_of c ≡ run_of p = cc in ap (λ (x : Run). flagged x.flags (chars x.text) ++ []) same ∙ append-nil (flagged_of p)
text_of_one (c ∷ d ∷ cs) p e = absurd (cc)

filled_one : (cs : List Compound) (p : Compound) → map run_of cs ≡ run_of p ∷ [] → 0 < length p.src.now → NoneEmpty cs
filled_one [] p e some = tt
filled_one (c ∷ []) p e some = let same : run_of c ≡ run_of p = cc in (omega (arith, some, ap (λ (x : Run). length x.text) same), tt)
filled_one (c ∷ d ∷ cs) p e some = absurd (cc)

made_of_one : (ps : List Compound) (ts : List Token) (p : Compound) (cs : List Compound) → map run_of cs ≡ run_of p ∷ [] → Contains (map run_of ps) (run_of p) → IsMadeOf ps ts cs
made_of_one ps ts p cs e has =
    subst (AllByRecursion (Contains (map run_of ps ++ map token_run ts))) (sym e) (Contains-append_left (map run_of ps) (map token_run ts) (run_of p) has, tt)

-- the tokens of two compounds are on a line each
two_placed : (r : Room) (front back : Compound) (ts : List Token) → AreTokensIn r (front ∷ back ∷ []) ts → ArePlaced r ts (flagged_of front ∷ flagged_of back ∷ [])
two_placed r front back ts (own, others, joins, first, (own', others', joins', second, none)) =
    let max = token_limit r in
    record {
      breaks = record { line = own; gap = [] } ∷ record { line = own'; gap = [] } ∷ [];
      placing = record {
        some_line = omega arith;
        covers = ap (λ l. own ++ l) (ap (λ l. own' ++ l) (sym none) ∙ sym joins') ∙ sym joins;
        gaps = (tt, λ t more e. absurd (cc), (tt, λ t more e. absurd (cc), tt));
      };
      texts_are = ap (λ x. x ∷ tokens_text own' ∷ []) (text_from max 0 front own first) ∙ ap (λ x. flagged_of front ∷ x ∷ []) (text_from max 0 back own' second);
    }

-- the lines that hold these two compounds say what these say
cut_runs : (front back : Compound) (first second : List Compound) → map run_of first ≡ run_of front ∷ [] → map run_of second ≡ run_of back ∷ []
    → (front' back' : Compound) → (cut : Option (Compound × Compound)) → cut ≡ Some (front, back) → cut ≡ Some (front', back') → map runs_of (first ∷ second ∷ []) ≡ (run_of front' ∷ []) ∷ (run_of back' ∷ []) ∷ []
cut_runs front back first second h g front' back' cut is is' =
    let e = sym is ∙ is' in
    let fronts : front ≡ front' = ap (λ (q : Option (Compound × Compound)). (unwrap_or q (front, back)).0) e in
    let backs : back ≡ back' = ap (λ (q : Option (Compound × Compound)). (unwrap_or q (front, back)).1) e in
    ap (λ rs. rs ∷ runs_of second ∷ []) (h ∙ ap (λ p. run_of p ∷ []) fronts) ∙ ap (λ rs. (run_of front' ∷ []) ∷ rs ∷ []) (g ∙ ap (λ p. run_of p ∷ []) backs)

-- two lines that hold a compound each have their columns counted right
pub cut_counted : (front back : Compound) (lines : List WrappedLine) → AreTwoLines front back lines → AreCounted lines
cut_counted front back lines two =
    subst AreCounted (sym two.lines_are) (
      omega (arith, two.holds_first.columns_are, ap width_of (text_of_one two.first.compounds.items front two.holds_first.runs_are)),
      (omega (arith, two.holds_second.columns_are, ap width_of (text_of_one two.second.compounds.items back two.holds_second.runs_are)), tt),
    )

-- a clean cut's compounds have tokens
pub cut_tokenized : (r : Room) (ps : List Compound) → AreTexts ps → AreTokenized r ps
cut_tokenized r ps texts = let all = tokens_of_all (token_limit r) ps texts in one_list r ps all.0 all.1

-- the two lines of a clean cut are a wrap of compounds that are too wide for one line
pub cut_wrap : (r : Room) (ps : List Compound) (front back : Compound) (lines : List WrappedLine) → r.width < r.first + width_of (flagged_text ps) → clean_cut r ps ≡ Some (front, back) → AreTexts ps
    → AreTwoLines front back lines → IsWrap r ps (compounds_of lines)
cut_wrap r ps front back lines wide is texts_are two =
    let cut = cut_is r ps front back is in
    let first = two.first.compounds.items in
    let second = two.second.compounds.items in
    let runs1 = two.holds_first.runs_are in
    let runs2 = two.holds_second.runs_are in
    let text1 = text_of_one first front runs1 in
    let text2 = text_of_one second back runs2 in
    let texts : flagged_of front ∷ flagged_of back ∷ [] ≡ map flagged_text (first ∷ second ∷ []) = ap (λ x. x ∷ flagged_of back ∷ []) (sym text1) ∙ ap (λ x. flagged_text first ∷ x ∷ []) (sym text2) in
    let back_text : flagged_of back ≡ flagged_of back ++ ([] ++ []) = sym (append-nil (flagged_of back)) in
    let on : is_cut_clean r ps ≡ true = ap is_some is in
    subst (λ (ls : List WrappedLine). IsWrap r ps (compounds_of ls)) (sym two.lines_are) (record {
      keeps = subst (Keeps (flagged_text ps)) texts (cut.middle, flagged_of back, cut.text, cut.white, ([], [], back_text, tt, refl));
      fits = λ _. subst (LinesFit r.first r) texts (cut.fits_first, (cut.fits_second, tt));
      some = λ _ full.
          let there = cut.none_empty full in (
            omega (arith, some_compound front two.first_utf8 there.0, ap length text1),
            (omega (arith, some_compound back two.second_utf8 there.1, ap length text2), tt),
          );
      none_empty = λ full. let there = cut.none_empty full in (filled_one first front runs1 there.0, (filled_one second back runs2 there.1, tt));
      cut = λ front' back' is'. cut_runs front back first second runs1 runs2 front' back' (clean_cut r ps) is is';
      tokenized = cut_tokenized r ps texts_are;
      least = λ ts tokens. record {
        parts = (made_of_one ps ts front first runs1 cut.has_front, (made_of_one ps ts back second runs2 cut.has_back, tt));
        placed = λ all. subst (ArePlaced r ts) texts (two_placed r front back ts (subst (λ (qs : List Compound). AreTokensIn r qs ts) (cut.two all) tokens));
        first_fit = λ off. absurd (cc);
        least = λ breaks fitting. two_lines r ts breaks fitting (omega (arith, wide, total_is r ps ts tokens));
        least_trimming = λ off. absurd (cc);
      };
    })
