-- What holds of the lines while tokens are placed: at the start, after each token, and at the end.
use Rattle.std.proofs.Common.{◌≡◌, ℕ, ◌≤◌, ◌<◌, ◌+◌, ◌-◌, Bool, true, false, Option, Some, None, List, [], ◌∷◌, ◌++◌, map, length, refl, sym, ap, ◌∙◌, arith, subst, append-nil, append_assoc, nat_le, ◌⊎◌, inl, inr, if◌then◌else◌}
use Rattle.std.proofs.lemmas.Bool.{leb-true}
use Rattle.std.proofs.lemmas.Bool.Decides.{nat_tests}
use Rattle.std.proofs.lemmas.List.{map-append, length-append}
use Rattle.mad_md.specs.Flagged.{Flags, run_of, flags_of}
use Rattle.mad_md.specs.declared.compound.Compound.{Compound}
use Rattle.mad_measure.specs.declared.tokens.Token.{Token}
use Rattle.mad_measure.specs.Tokens.{token_run, token_text}
use Rattle.mad_measure.proofs.AllLemmas.{all_push}
use Rattle.mad_wrap.specs.Breaks.{LineAndGap, lines_and_gaps, total_width, AllBlank}
use Rattle.mad_wrap.specs.LineRoom.{left_of, fits_in, taken}
use Rattle.mad_wrap.specs.TokenLines.{HoldsTokens, HoldBreak, ArePlacedLines}
use Rattle.mad_wrap.specs.Placings.{GapsForced, BeginsAfter, LinesForced, LinesWithin, IsFirstFit}
use Rattle.mad_wrap.specs.WrapLines.{capped}
use Rattle.mad_wrap.specs.declared.room.Room.{Room}
use Rattle.mad_wrap.specs.declared.wrapped_line.WrappedLine.{WrappedLine}

-- the indent of the line after these
abbrev pub next_indent : Room → List (LineAndGap Token) → ℕ
next_indent r [] = r.first
next_indent r (p ∷ ps) = r.other

-- the tokens that are on that line at any width
abbrev pub next_placed : List (LineAndGap Token) → ℕ
next_placed [] = 0
next_placed (p ∷ ps) = 1

-- The tokens are broken into lines and gaps, and a line that is being made. After it a gap may have begun.
pub record Shape (r : Room) (ts : List Token) (left : Option ℕ) (ended : Bool) : Type 0 where
  pub breaks : List (LineAndGap Token)
  pub tokens : List Token
  pub gap : List Token
  pub covers : lines_and_gaps breaks ++ (tokens ++ gap) ≡ ts
  pub gaps : GapsForced r.first r breaks
  pub gap_blank : AllBlank gap
  pub no_gap : ended ≡ false → gap ≡ []
  pub some_gap : ended ≡ true → 0 < length gap
  pub forced_here : (t : Token) (others : List Token) → gap ≡ t ∷ others → r.width < next_indent r breaks + total_width tokens + t.width
  pub forced : LinesForced r.first r (breaks ++ record { line = tokens; gap = gap } ∷ [])
  pub left_is : left ≡ left_of r.width (next_indent r breaks + total_width tokens)
  pub within : LinesWithin 0 r.first r breaks
  pub within_here : next_placed breaks < length tokens → next_indent r breaks + total_width tokens ≤ r.width

-- The tokens are on lines: those of the break on whole lines, and the others on the line that is being made.
pub record Progress (r : Room) (ts : List Token) (lines : List WrappedLine) (line : WrappedLine) (left : Option ℕ) (ended : Bool) : Type 0 where
  pub shape : Shape r ts left ended
  pub holds : HoldBreak shape.breaks lines
  pub holds_line : HoldsTokens shape.tokens line

-- ---- lists that grow at their end

-- one token more at the end adds its columns
pub total_width-push : (ts : List Token) (t : Token) → total_width (ts ++ t ∷ []) ≡ total_width ts + t.width
total_width-push [] t = omega arith
total_width-push (x ∷ ts) t = omega (arith, total_width-push ts t)

-- one line more at the end adds its tokens, and those of its gap
pub lines_and_gaps-push : {A : Type 0} (ps : List (LineAndGap A)) (p : LineAndGap A) → lines_and_gaps (ps ++ p ∷ []) ≡ lines_and_gaps ps ++ (p.line ++ p.gap)
lines_and_gaps-push [] p = ap (λ g. p.line ++ g) (append-nil p.gap)
lines_and_gaps-push (q ∷ ps) p = ap (λ g. q.line ++ (q.gap ++ g)) (lines_and_gaps-push ps p) ∙ ap (λ g. q.line ++ g) (sym (append_assoc q.gap (lines_and_gaps ps) (p.line ++ p.gap))) ∙ sym (append_assoc q.line (q.gap ++ lines_and_gaps ps) (p.line ++ p.gap))

within_from_other : (r : Room) (ps : List (LineAndGap Token)) (p : LineAndGap Token) → LinesWithin 1 r.other r ps → (1 < length p.line → r.other + total_width p.line ≤ r.width) → LinesWithin 1 r.other r (ps ++ p ∷ [])
within_from_other r [] p h l = (l, tt)
within_from_other r (q ∷ ps) p h l = (h.0, within_from_other r ps p h.1 l)

-- lines keep within the width with one more, where that one does
pub within_push : (r : Room) (ps : List (LineAndGap Token)) (p : LineAndGap Token) → LinesWithin 0 r.first r ps → (next_placed ps < length p.line → next_indent r ps + total_width p.line ≤ r.width) → LinesWithin 0 r.first r (ps ++ p ∷ [])
within_push r [] p h l = (l, tt)
within_push r (q ∷ ps) p h l = (h.0, within_from_other r ps p h.1 l)

forced_from_other : (r : Room) (ps : List (LineAndGap Token)) (p : LineAndGap Token) → GapsForced r.other r ps → AllBlank p.gap
    → ((t : Token) (others : List Token) → p.gap ≡ t ∷ others → r.width < r.other + total_width p.line + t.width) → GapsForced r.other r (ps ++ p ∷ [])
forced_from_other r [] p h b l = (b, l, tt)
forced_from_other r (q ∷ ps) p h b l = (h.0, h.1, forced_from_other r ps p h.2 b l)

-- the gaps of lines are forced with one more, where that one's is
pub forced_push : (r : Room) (ps : List (LineAndGap Token)) (p : LineAndGap Token) → GapsForced r.first r ps → AllBlank p.gap
    → ((t : Token) (others : List Token) → p.gap ≡ t ∷ others → r.width < next_indent r ps + total_width p.line + t.width) → GapsForced r.first r (ps ++ p ∷ [])
forced_push r [] p h b l = (b, l, tt)
forced_push r (q ∷ ps) p h b l = (h.0, h.1, forced_from_other r ps p h.2 b l)

-- lines hold a break with one more, where that one holds its tokens
pub holds_push : (ps : List (LineAndGap Token)) (ls : List WrappedLine) (p : LineAndGap Token) (l : WrappedLine) → HoldBreak ps ls → HoldsTokens p.line l → HoldBreak (ps ++ p ∷ []) (ls ++ l ∷ [])
holds_push [] [] p l h g = (g, tt)
holds_push (q ∷ ps) (m ∷ ls) p l h g = (h.0, holds_push ps ls p l h.1 g)
holds_push _ _ p l h g = absurd h

-- a line after another has the indent of later lines
pub next_indent-push : (r : Room) (ps : List (LineAndGap Token)) (p : LineAndGap Token) → next_indent r (ps ++ p ∷ []) ≡ r.other
next_indent-push r [] p = refl
next_indent-push r (q ∷ ps) p = refl

-- a line after another has one token at any width
pub next_placed-push : (ps : List (LineAndGap Token)) (p : LineAndGap Token) → next_placed (ps ++ p ∷ []) ≡ 1
next_placed-push [] p = refl
next_placed-push (q ∷ ps) p = refl

-- a line that grows keeps its beginning
pub lines_grow : (i : ℕ) (r : Room) (ps : List (LineAndGap Token)) (line gap more gap' : List Token) → LinesForced i r (ps ++ record { line = line; gap = gap } ∷ []) → LinesForced i r (ps ++ record { line = line ++ more; gap = gap' } ∷ [])
lines_grow i r [] line gap more gap' h = tt
lines_grow i r (q ∷ []) line gap more gap' h = (
  record { first = h.0.first; others = h.0.others ++ more; begins = ap (λ l. l ++ more) h.0.begins; solid = h.0.solid; passes = h.0.passes },
  tt,
)
lines_grow i r (q ∷ q' ∷ ps) line gap more gap' h = (h.0, lines_grow r.other r (q' ∷ ps) line gap more gap' h.1)

-- one line more
lines_from_other : (r : Room) (ps : List (LineAndGap Token)) (p q : LineAndGap Token) → LinesForced r.other r (ps ++ p ∷ []) → BeginsAfter r.other r p q → LinesForced r.other r ((ps ++ p ∷ []) ++ q ∷ [])
lines_from_other r [] p q h b = (b, tt)
lines_from_other r (x ∷ []) p q h b = (h.0, (b, tt))
lines_from_other r (x ∷ y ∷ ps) p q h b = (h.0, lines_from_other r (y ∷ ps) p q h.1 b)

-- each line begins as it must with one more, where that one does
pub lines_push : (r : Room) (ps : List (LineAndGap Token)) (p q : LineAndGap Token) → LinesForced r.first r (ps ++ p ∷ []) → BeginsAfter (next_indent r ps) r p q → LinesForced r.first r ((ps ++ p ∷ []) ++ q ∷ [])
lines_push r [] p q h b = (b, tt)
lines_push r (x ∷ []) p q h b = (h.0, (b, tt))
lines_push r (x ∷ y ∷ ps) p q h b = (h.0, lines_from_other r (y ∷ ps) p q h.1 b)

-- ---- a line that takes a token

-- the line with one token more
pub record AddsToken (old : WrappedLine) (t : Token) (new : WrappedLine) : Type 0 where
  pub compound : Compound
  pub bytes : compound.src.now ≡ token_text t
  pub flags : flags_of compound ≡ flags_of t.compound
  pub text : new.compounds.items ≡ old.compounds.items ++ compound ∷ []
  pub columns : new.columns ≡ capped (old.columns + t.width)

-- a token as a compound
pub run_is_of : (t : Token) (q : Compound) → q.src.now ≡ token_text t → flags_of q ≡ flags_of t.compound → run_of q ≡ token_run t
run_is_of t q text flags = ap (λ (f : Flags). record { flags = f; text = q.src.now }) flags ∙ ap (λ b. record { flags = flags_of t.compound; text = b }) text

-- a line without text
pub record IsBegun (l : WrappedLine) : Type 0 where
  pub empty : l.compounds.items ≡ []
  pub columns_are : l.columns ≡ 0

holds_none : (l : WrappedLine) → IsBegun l → HoldsTokens [] l
holds_none l h = record { runs_are = ap (map run_of) h.empty; columns_are = omega (arith, h.columns_are) }

holds_more : (ts : List Token) (t : Token) (old new : WrappedLine) → HoldsTokens ts old → AddsToken old t new → HoldsTokens (ts ++ t ∷ []) new
holds_more ts t old new h a = record {
  runs_are = ap (map run_of) a.text ∙ map-append run_of old.compounds.items (a.compound ∷ []) ∙ ap (λ l. l ++ run_of a.compound ∷ []) h.runs_are ∙ ap (λ x. map token_run ts ++ x ∷ []) (run_is_of t a.compound a.bytes a.flags) ∙ sym (map-append token_run ts (t ∷ []));
  columns_are = omega (arith, a.columns, h.columns_are, total_width-push ts t);
}

-- ---- tests

-- the first token of a gap stays first
first_stays : (gap others : List Token) (t u : Token) → 0 < length gap → gap ++ t ∷ [] ≡ u ∷ others → (more : List Token) × (gap ≡ u ∷ more)
first_stays [] others t u l e = absurd (omega arith)
first_stays (x ∷ gap) others t u l e = (gap, let same : x ≡ u = cc in ap (λ y. y ∷ gap) same)

passes_by : (width used n : ℕ) (b : Bool) → nat_le used width ≡ b → fits_in (if b then Some (width - used) else None) n ≡ false → width < used + n
passes_by width used n true e h = grind (arith, nat_tests)
passes_by width used n false e h = grind (arith, nat_tests)

-- a token that doesn't fit passes the width
pub passes_width : (width used n : ℕ) → fits_in (left_of width used) n ≡ false → width < used + n
passes_width width used n h = passes_by width used n (nat_le used width) refl h

-- a gap with one token more at its end begins with one that doesn't fit
pub forced_more : (r : Room) (ended : Bool) (left : Option ℕ) (used : ℕ) (gap : List Token) (t : Token) → left ≡ left_of r.width used → (ended ≡ false → gap ≡ []) → (ended ≡ true → 0 < length gap)
    → ((u : Token) (others : List Token) → gap ≡ u ∷ others → r.width < used + u.width) → (ended ≡ true) ⊎ (fits_in left t.width ≡ false)
    → (u : Token) (others : List Token) → gap ++ t ∷ [] ≡ u ∷ others → r.width < used + u.width
forced_more r true left used gap t is none some here why u others e = let first = first_stays gap others t u (some refl) e in here u first.0 first.1
forced_more r false left used gap t is none some here (inl h) u others e = absurd (cc)
forced_more r false left used gap t is none some here (inr h) u others e =
    let alone : t ∷ [] ≡ u ∷ others = ap (λ g. g ++ t ∷ []) (sym (none refl)) ∙ e in
    let same : t ≡ u = cc in
    subst (λ (v : Token). r.width < used + v.width) same (passes_width r.width used t.width (ap (λ l. fits_in l t.width) (sym is) ∙ h))

-- what isn't used of a width is left, where what is used fits
pub left_of-some : (width used : ℕ) → used ≤ width → left_of width used ≡ Some (width - used)
left_of-some width used h = let e : nat_le used width ≡ true = grind (arith, nat_tests) in ap (λ b. if b then Some (width - used) else None) e

fits_room : (width used n : ℕ) (b : Bool) → nat_le used width ≡ b → fits_in (if b then Some (width - used) else None) n ≡ true → used ≤ width
fits_room width used n true e h = leb-true used width e
fits_room width used n false e h = absurd (cc)

-- a token that fits
pub fits_within : (width used n : ℕ) → fits_in (left_of width used) n ≡ true → (used + n ≤ width) × (taken (left_of width used) n ≡ left_of width (used + n))
fits_within width used n h =
    let inside : used ≤ width = fits_room width used n (nat_le used width) refl h in
    let some : left_of width used ≡ Some (width - used) = left_of-some width used inside in
    let room : n ≤ width - used = leb-true n (width - used) (ap (λ l. fits_in l n) (sym some) ∙ h) in
    (omega arith, ap (λ l. taken l n) some ∙ ap Some (omega arith) ∙ sym (left_of-some width (used + n) (omega arith)))

-- ---- the state of placing, and a step

-- a token that doesn't fit, or comes after one that doesn't, passes the width after the line and the gap
pub passes_gap : (r : Room) (ended : Bool) (left : Option ℕ) (used : ℕ) (gap : List Token) (t : Token) → left ≡ left_of r.width used → (ended ≡ true → 0 < length gap)
    → ((u : Token) (others : List Token) → gap ≡ u ∷ others → r.width < used + u.width) → (ended ≡ true) ⊎ (fits_in left t.width ≡ false) → r.width < used + total_width gap + t.width
passes_gap r ended left used (u ∷ gap) t is some here why = omega (arith, here u gap refl)
passes_gap r ended left used [] t is some here (inl e) = absurd (omega (arith, some e))
passes_gap r ended left used [] t is some here (inr f) = omega (arith, passes_width r.width used t.width (ap (λ l. fits_in l t.width) (sym is) ∙ f))

-- before the first token there is only the line that is being made, without a token
unfoldable pub shape_start : (r : Room) → Shape r [] (left_of r.width r.first) false
shape_start r = record {
  breaks = [];
  tokens = [];
  gap = [];
  covers = refl;
  gaps = tt;
  gap_blank = tt;
  no_gap = λ _. refl;
  some_gap = λ e. absurd (cc);
  forced_here = λ t others e. absurd (cc);
  forced = tt;
  left_is = ap (left_of r.width) (omega arith);
  within = tt;
  within_here = λ l. absurd (omega arith);
}

-- a token that fits is on the line
unfoldable pub shape_fits : (r : Room) (ts : List Token) (t : Token) (left : Option ℕ) → Shape r ts left false → fits_in left t.width ≡ true → Shape r (ts ++ t ∷ []) (taken left t.width) false
shape_fits r ts t left h fits =
    let used = next_indent r h.breaks + total_width h.tokens in
    let within = fits_within r.width used t.width (rw (sym h.left_is) fits) in
    let more : used + t.width ≡ next_indent r h.breaks + total_width (h.tokens ++ t ∷ []) = omega (arith, total_width-push h.tokens t) in
    record {
      breaks = h.breaks;
      tokens = h.tokens ++ t ∷ [];
      gap = [];
      covers =
          let all : lines_and_gaps h.breaks ++ h.tokens ≡ ts = ap (λ g. lines_and_gaps h.breaks ++ g) (sym (append-nil h.tokens)) ∙ ap (λ g. lines_and_gaps h.breaks ++ (h.tokens ++ g)) (sym (h.no_gap refl)) ∙ h.covers in
          ap (λ g. lines_and_gaps h.breaks ++ g) (append-nil (h.tokens ++ t ∷ [])) ∙ sym (append_assoc (lines_and_gaps h.breaks) h.tokens (t ∷ [])) ∙ ap (λ g. g ++ t ∷ []) all;
      gaps = h.gaps;
      gap_blank = tt;
      no_gap = λ _. refl;
      some_gap = λ e. absurd (cc);
      forced_here = λ t others e. absurd (cc);
      forced = lines_grow r.first r h.breaks h.tokens h.gap (t ∷ []) [] h.forced;
      left_is = ap (λ l. taken l t.width) h.left_is ∙ within.1 ∙ ap (left_of r.width) more;
      within = h.within;
      within_here = λ _. omega (arith, within.0, more);
    }

-- a blank token that doesn't fit, or comes after a gap has begun, is in the gap
unfoldable pub shape_ends : (r : Room) (ts : List Token) (t : Token) (left : Option ℕ) (ended : Bool) → Shape r ts left ended → t.blank ≡ true → (ended ≡ true) ⊎ (fits_in left t.width ≡ false) → Shape r (ts ++ t ∷ []) left true
shape_ends r ts t left ended h blank why = record {
  breaks = h.breaks;
  tokens = h.tokens;
  gap = h.gap ++ t ∷ [];
  covers = ap (λ g. lines_and_gaps h.breaks ++ g) (sym (append_assoc h.tokens h.gap (t ∷ []))) ∙ sym (append_assoc (lines_and_gaps h.breaks) (h.tokens ++ h.gap) (t ∷ [])) ∙ ap (λ g. g ++ t ∷ []) h.covers;
  gaps = h.gaps;
  gap_blank = all_push (λ t. t.blank ≡ true) h.gap t h.gap_blank blank;
  no_gap = λ e. absurd (cc);
  some_gap = λ _. omega (arith, length-append h.gap (t ∷ []));
  forced_here = forced_more r ended left (next_indent r h.breaks + total_width h.tokens) h.gap t h.left_is h.no_gap h.some_gap h.forced_here why;
  forced = subst (λ l. LinesForced r.first r (h.breaks ++ record { line = l; gap = h.gap ++ t ∷ [] } ∷ [])) (append-nil h.tokens) (lines_grow r.first r h.breaks h.tokens h.gap [] (h.gap ++ t ∷ []) h.forced);
  left_is = h.left_is;
  within = h.within;
  within_here = h.within_here;
}

-- a token that isn't blank, and doesn't fit or comes after a gap, begins a line
unfoldable pub shape_begins : (r : Room) (ts : List Token) (t : Token) (left : Option ℕ) (ended : Bool) → Shape r ts left ended → t.blank ≡ false → (ended ≡ true) ⊎ (fits_in left t.width ≡ false)
    → Shape r (ts ++ t ∷ []) (left_of r.width (r.other + t.width)) false
shape_begins r ts t left ended h solid why =
    let p : LineAndGap Token = record { line = h.tokens; gap = h.gap } in
    let q : LineAndGap Token = record { line = t ∷ []; gap = [] } in
    let indent : next_indent r (h.breaks ++ p ∷ []) ≡ r.other = next_indent-push r h.breaks p in
    record {
      breaks = h.breaks ++ p ∷ [];
      tokens = t ∷ [];
      gap = [];
      covers = ap (λ g. g ++ t ∷ []) (lines_and_gaps-push h.breaks p ∙ h.covers);
      gaps = forced_push r h.breaks p h.gaps h.gap_blank h.forced_here;
      gap_blank = tt;
      no_gap = λ _. refl;
      some_gap = λ e. absurd (cc);
      forced_here = λ t others e. absurd (cc);
      forced = lines_push r h.breaks p q h.forced
          (record { first = t; others = []; begins = refl; solid = solid; passes = passes_gap r ended left (next_indent r h.breaks + total_width h.tokens) h.gap t h.left_is h.some_gap h.forced_here why });
      left_is = ap (left_of r.width) (omega (arith, indent));
      within = within_push r h.breaks p h.within h.within_here;
      within_here = λ l. absurd (omega (arith, l, next_placed-push h.breaks p));
    }

-- before the first token there is only a line without text
pub progress_start : (r : Room) (l : WrappedLine) → IsBegun l → Progress r [] [] l (left_of r.width r.first) false
unfolding shape_start
progress_start r l begun = record { shape = shape_start r; holds = tt; holds_line = holds_none l begun }

-- the line takes a token that fits
pub progress_fits : (r : Room) (ts : List Token) (t : Token) (lines : List WrappedLine) (line new : WrappedLine) (left : Option ℕ) → Progress r ts lines line left false
    → fits_in left t.width ≡ true → AddsToken line t new → Progress r (ts ++ t ∷ []) lines new (taken left t.width) false
unfolding shape_fits
progress_fits r ts t lines line new left h fits adds = record {
  shape = shape_fits r ts t left h.shape fits;
  holds = h.holds;
  holds_line = holds_more h.shape.tokens t line new h.holds_line adds;
}

-- a blank token that doesn't fit, or comes after a gap has begun, leaves the lines as they are
pub progress_ends : (r : Room) (ts : List Token) (t : Token) (lines : List WrappedLine) (line : WrappedLine) (left : Option ℕ) (ended : Bool) → Progress r ts lines line left ended
    → t.blank ≡ true → (ended ≡ true) ⊎ (fits_in left t.width ≡ false) → Progress r (ts ++ t ∷ []) lines line left true
unfolding shape_ends
progress_ends r ts t lines line left ended h blank why = record { shape = shape_ends r ts t left ended h.shape blank why; holds = h.holds; holds_line = h.holds_line }

-- the line is whole, and a token that isn't blank begins another
pub progress_begins : (r : Room) (ts : List Token) (t : Token) (lines new_lines : List WrappedLine) (line begun new : WrappedLine) (left : Option ℕ) (ended : Bool)
    → Progress r ts lines line left ended → t.blank ≡ false → (ended ≡ true) ⊎ (fits_in left t.width ≡ false) → new_lines ≡ lines ++ line ∷ [] → IsBegun begun → AddsToken begun t new
    → Progress r (ts ++ t ∷ []) new_lines new (left_of r.width (r.other + t.width)) false
unfolding shape_begins
progress_begins r ts t lines new_lines line begun new left ended h solid why pushed begins adds =
    let s = h.shape in
    let p : LineAndGap Token = record { line = s.tokens; gap = s.gap } in
    record {
      shape = shape_begins r ts t left ended s solid why;
      holds = subst (HoldBreak (s.breaks ++ p ∷ [])) (sym pushed) (holds_push s.breaks lines p line h.holds h.holds_line);
      holds_line = holds_more [] t begun new (holds_none begun begins) adds;
    }

-- the end: the last line is whole, and the lines are those of the first fit
pub whole_fit : (r : Room) (ts : List Token) (left : Option ℕ) (ended : Bool) (s : Shape r ts left ended) → IsFirstFit r ts (s.breaks ++ record { line = s.tokens; gap = s.gap } ∷ [])
whole_fit r ts left ended s =
    let p : LineAndGap Token = record { line = s.tokens; gap = s.gap } in
    record {
      placing = record {
        some_line = omega (arith, length-append s.breaks (p ∷ []));
        covers = lines_and_gaps-push s.breaks p ∙ s.covers;
        gaps = forced_push r s.breaks p s.gaps s.gap_blank s.forced_here;
      };
      forced = s.forced;
      within = within_push r s.breaks p s.within s.within_here;
    }

-- after the last token all are on lines, by first fit
pub placed_all : (r : Room) (ts : List Token) (lines new : List WrappedLine) (line : WrappedLine) (left : Option ℕ) (ended : Bool) → Progress r ts lines line left ended → new ≡ lines ++ line ∷ [] → ArePlacedLines r ts new
placed_all r ts lines new line left ended h pushed =
    let s = h.shape in
    let p : LineAndGap Token = record { line = s.tokens; gap = s.gap } in
    record {
      breaks = s.breaks ++ p ∷ [];
      first_fit = whole_fit r ts left ended s;
      holds = subst (HoldBreak (s.breaks ++ p ∷ [])) (sym pushed) (holds_push s.breaks lines p line h.holds h.holds_line);
    }
