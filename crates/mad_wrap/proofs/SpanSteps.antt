-- First fit, span by span: what holds of the lines so far.
use Rattle.std.proofs.lemmas.Bool.{false≢true}
use Rattle.std.proofs.Common.{◌≡◌, ◌+◌, true, false, List, [], ◌∷◌, ◌++◌, refl, sym, ap, ◌∙◌, subst, append-nil, append_assoc}
use Rattle.mad_measure.specs.declared.tokens.Token.{Token}
use Rattle.mad_wrap.specs.Breaks.{LineAndGap}
use Rattle.mad_wrap.specs.FirstFit.{Puts, at_first}
use Rattle.mad_wrap.specs.LineRoom.{left_of, taken}
use Rattle.mad_wrap.specs.Placings.{IsFirstFit}
use Rattle.mad_wrap.specs.Spans.{PutsOnLine, PutsAlike}
use Rattle.mad_wrap.specs.declared.first_fit.FirstFit.{FirstFit}
use Rattle.mad_wrap.specs.declared.first_fit.Put.TheVariants.{OnLine, OnNext, InGap}
use Rattle.mad_wrap.specs.declared.room.Room.{Room}
use Rattle.mad_wrap.proofs.PlacingLemmas.{Shape, shape_start, shape_fits, shape_ends, shape_begins, whole_fit}

-- These are the lines so far, the last of which is open: its tokens, and what is dropped after them.
pub record Lines (breaks : List (LineAndGap Token)) (tokens gap : List Token) (r : Room) (ts : List Token) (s : FirstFit) : Type 0 where
  pub room : s.room ≡ r
  pub shape : Shape r ts s.room_left s.ended
  pub breaks_are : shape.breaks ≡ breaks
  pub tokens_are : shape.tokens ≡ tokens
  pub gap_is : shape.gap ≡ gap

-- before the first token the first line is open, and has none
pub lines_start : (r : Room) → Lines [] [] [] r [] (at_first r)
unfolding shape_start
lines_start r = record { room = refl; shape = shape_start r; breaks_are = refl; tokens_are = refl; gap_is = refl }

-- a token more on the open line
pub line_takes : (b : List (LineAndGap Token)) (l g : List Token) (r : Room) (ts : List Token) (t : Token) (s n : FirstFit) → Lines b l g r ts s → Puts s t OnLine n → Lines b (l ++ t ∷ []) [] r (ts ++ t ∷ []) n
unfolding shape_fits
line_takes b l g r ts t s n h (open_line, fits, after) =
    let opened : Lines b l g r ts (record s { ended = false }) = subst (λ e. Lines b l g r ts (record s { ended = e })) open_line h in
    let next : Lines b (l ++ t ∷ []) [] r (ts ++ t ∷ []) (record s { room_left = taken s.room_left t.width; ended = false }) = record {
      room = h.room;
      shape = shape_fits r ts t s.room_left opened.shape fits;
      breaks_are = opened.breaks_are;
      tokens_are = ap (λ x. x ++ t ∷ []) opened.tokens_are;
      gap_is = refl;
    } in
    subst (Lines b (l ++ t ∷ []) [] r (ts ++ t ∷ [])) (ap (λ e. record s { room_left = taken s.room_left t.width; ended = e }) (sym open_line) ∙ sym after) next

-- a token more comes in the gap
pub line_ends : (b : List (LineAndGap Token)) (l g : List Token) (r : Room) (ts : List Token) (t : Token) (s n : FirstFit) → Lines b l g r ts s → Puts s t InGap n → Lines b l (g ++ t ∷ []) r (ts ++ t ∷ []) n
unfolding shape_ends
line_ends b l g r ts t s n h (blank, full, after) =
    let next : Lines b l (g ++ t ∷ []) r (ts ++ t ∷ []) (record s { ended = true }) = record {
      room = h.room;
      shape = shape_ends r ts t s.room_left s.ended h.shape blank full;
      breaks_are = h.breaks_are;
      tokens_are = h.tokens_are;
      gap_is = ap (λ x. x ++ t ∷ []) h.gap_is;
    } in
    subst (Lines b l (g ++ t ∷ []) r (ts ++ t ∷ [])) (sym after) next

-- a token more begins the next line
pub line_begins : (b : List (LineAndGap Token)) (l g : List Token) (r : Room) (ts : List Token) (t : Token) (s n : FirstFit) → Lines b l g r ts s → Puts s t OnNext n
    → Lines (b ++ record { line = l; gap = g } ∷ []) (t ∷ []) [] r (ts ++ t ∷ []) n
unfolding shape_begins
line_begins b l g r ts t s n h (solid, full, after) =
    let left = left_of r.width (r.other + t.width) in
    let m : FirstFit = record { room = s.room; room_left = left; ended = false } in
    let same : m ≡ n = ap (λ (q : Room). record { room = s.room; room_left = left_of q.width (q.other + t.width); ended = false }) (sym h.room) ∙ sym after in
    let next : Lines (b ++ record { line = l; gap = g } ∷ []) (t ∷ []) [] r (ts ++ t ∷ []) m = record {
      room = h.room;
      shape = shape_begins r ts t s.room_left s.ended h.shape solid full;
      breaks_are = ap (λ x. x ++ record { line = h.shape.tokens; gap = h.shape.gap } ∷ []) h.breaks_are ∙ ap (λ x. b ++ record { line = x; gap = h.shape.gap } ∷ []) h.tokens_are ∙ ap (λ x. b ++ record { line = l; gap = x } ∷ []) h.gap_is;
      tokens_are = refl;
      gap_is = refl;
    } in
    subst (Lines (b ++ record { line = l; gap = g } ∷ []) (t ∷ []) [] r (ts ++ t ∷ [])) same next

-- tokens on the open line
lines_more : (own : List Token) (b : List (LineAndGap Token)) (l : List Token) (r : Room) (ts : List Token) (s n : FirstFit) → Lines b l [] r ts s → PutsOnLine s own n → Lines b (l ++ own) [] r (ts ++ own) n
lines_more [] b l r ts s n h same = subst (λ x. Lines b x [] r (ts ++ []) n) (sym (append-nil l)) (subst (λ x. Lines b l [] r x n) (sym (append-nil ts)) (subst (Lines b l [] r ts) (sym same) h))
lines_more (t ∷ own) b l r ts s n h (m, put, more) =
    let next = lines_more own b (l ++ t ∷ []) r (ts ++ t ∷ []) m n (line_takes b l [] r ts t s m h put) more in
    subst (λ x. Lines b x [] r (ts ++ t ∷ own) n) (append_assoc l (t ∷ []) own) (subst (λ x. Lines b ((l ++ t ∷ []) ++ own) [] r x n) (append_assoc ts (t ∷ []) own) next)

-- a span on the line, where there is a gap after the line it is empty
pub span_takes : (own : List Token) (b : List (LineAndGap Token)) (l g : List Token) (r : Room) (ts : List Token) (s n : FirstFit) → Lines b l g r ts s → PutsAlike s own OnLine n → Lines b (l ++ own) [] r (ts ++ own) n
span_takes [] b l g r ts s n h puts = absurd puts
span_takes (t ∷ own) b l g r ts s n h (m, put, more) =
    let next = lines_more own b (l ++ t ∷ []) r (ts ++ t ∷ []) m n (line_takes b l g r ts t s m h put) more in
    subst (λ x. Lines b x [] r (ts ++ t ∷ own) n) (append_assoc l (t ∷ []) own) (subst (λ x. Lines b ((l ++ t ∷ []) ++ own) [] r x n) (append_assoc ts (t ∷ []) own) next)

-- a span on the next line
pub span_begins : (own : List Token) (b : List (LineAndGap Token)) (l g : List Token) (r : Room) (ts : List Token) (s n : FirstFit) → Lines b l g r ts s → PutsAlike s own OnNext n
    → Lines (b ++ record { line = l; gap = g } ∷ []) own [] r (ts ++ own) n
span_begins [] b l g r ts s n h puts = absurd puts
span_begins (t ∷ own) b l g r ts s n h (m, put, more) =
    let next = lines_more own (b ++ record { line = l; gap = g } ∷ []) (t ∷ []) r (ts ++ t ∷ []) m n (line_begins b l g r ts t s m h put) more in
    subst (λ x. Lines (b ++ record { line = l; gap = g } ∷ []) (t ∷ own) [] r x n) (append_assoc ts (t ∷ []) own) next

-- a span in the gap: one token
pub in_gap_alone : (own : List Token) (m n : FirstFit) → m.ended ≡ true → PutsOnLine m own n → (own ≡ []) × (n ≡ m)
in_gap_alone [] m n ended same = (refl, same)
in_gap_alone (t ∷ own) m n ended (k, put, more) = absurd (false≢true (sym put.0 ∙ ended))

-- a span in the gap is dropped after the open line
pub span_ends : (own : List Token) (b : List (LineAndGap Token)) (l g : List Token) (r : Room) (ts : List Token) (s n : FirstFit) → Lines b l g r ts s → PutsAlike s own InGap n → Lines b l (g ++ own) r (ts ++ own) n
span_ends [] b l g r ts s n h puts = absurd puts
span_ends (t ∷ own) b l g r ts s n h (m, put, more) =
    let alone = in_gap_alone own m n (ap (λ (x : FirstFit). x.ended) put.2) more in
    subst (λ x. Lines b l (g ++ t ∷ x) r (ts ++ t ∷ x) n) (sym alone.0) (subst (Lines b l (g ++ t ∷ []) r (ts ++ t ∷ [])) (sym alone.1) (line_ends b l g r ts t s m h put))

-- at the end these are the lines of the first fit
pub lines_end : (b : List (LineAndGap Token)) (l g : List Token) (r : Room) (ts : List Token) (s : FirstFit) → Lines b l g r ts s → IsFirstFit r ts (b ++ record { line = l; gap = g } ∷ [])
lines_end b l g r ts s h =
    let all = whole_fit r ts s.room_left s.ended h.shape in
    subst (λ x. IsFirstFit r ts (b ++ record { line = l; gap = x } ∷ [])) h.gap_is (subst (λ x. IsFirstFit r ts (b ++ record { line = x; gap = h.shape.gap } ∷ [])) h.tokens_are
    (subst (λ x. IsFirstFit r ts (x ++ record { line = h.shape.tokens; gap = h.shape.gap } ∷ [])) h.breaks_are all))
