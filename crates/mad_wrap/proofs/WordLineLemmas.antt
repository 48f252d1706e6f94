-- What holds of lines as pieces are put on them.
use Rattle.std.proofs.Common.{◌≡◌, ℕ, zero, suc, ◌<◌, ◌+◌, ◌^◌, ◌⊎◌, Bool, true, false, Option, Some, List, [], ◌∷◌, ◌++◌, map, length, take, get_or, slice_get, refl, sym, ap, ◌∙◌, arith, subst, append-nil, append_assoc}
use Rattle.std.proofs.lemmas.Grind.{flat_map-append}
use Rattle.std.proofs.lemmas.List.{map-append, take_more}
use Rattle.mad_md.specs.Flagged.{run_of}
use Rattle.mad_measure.specs.Tokens.{IsInCompound, token_run}
use Rattle.mad_measure.specs.declared.tokens.Token.{Token}
use Rattle.mad_wrap.specs.Breaks.{LineAndGap, lines_and_gaps, total_width}
use Rattle.mad_wrap.specs.FirstFit.{Puts}
use Rattle.mad_wrap.specs.LineRoom.{left_of, fits_in, taken}
use Rattle.mad_wrap.specs.Placings.{IsFirstFit}
use Rattle.mad_wrap.specs.Rooms.{token_limit}
use Rattle.mad_wrap.specs.TokenLines.{HoldsTokens, HoldBreak}
use Rattle.mad_wrap.specs.WordLines.{AreInCompounds, IsNewLine, BeginsLine, TakesTokens, IsAtFirst, PutsPiece, PutsPieces, AreWordLines}
use Rattle.mad_wrap.specs.Words.{Piece, piece_tokens, pieces_tokens, as_token, alone, together, pieces_of, token_break, piece_break}
use Rattle.mad_wrap.specs.WrapLines.{runs_of}
use Rattle.mad_wrap.specs.declared.first_fit.FirstFit.{FirstFit}
use Rattle.mad_wrap.specs.declared.first_fit.Put.TheVariants.{OnLine, OnNext, InGap}
use Rattle.mad_wrap.specs.declared.placing_words.WordLines.{WordLines}
use Rattle.mad_wrap.specs.declared.room.Room.{Room}
use Rattle.mad_wrap.specs.declared.wrapped_line.WrappedLine.{WrappedLine}
use Rattle.mad_wrap.proofs.BoundLemmas.{total_width-append}
use Rattle.mad_wrap.proofs.PlacingLemmas.{Shape, AddsToken, run_is_of, shape_start, shape_fits, shape_ends, shape_begins, whole_fit, lines_and_gaps-push, holds_push, total_width-push}

-- ---- a line that takes tokens

-- a line that stays takes no tokens
pub takes_none : (l : WrappedLine) → l.columns < 2 ^ 64 → TakesTokens l [] l
takes_none l fits = record { runs_are = sym (append-nil (runs_of l.compounds.items)); columns_are = omega (arith, fits) }

-- a line that has taken tokens takes one more
pub takes_more : (old line new : WrappedLine) (ts : List Token) (t : Token) → TakesTokens old ts line → AddsToken line t new → TakesTokens old (ts ++ t ∷ []) new
takes_more old line new ts t h a = record {
  runs_are = ap (map run_of) a.text ∙ map-append run_of line.compounds.items (a.compound ∷ []) ∙ ap (λ l. l ++ run_of a.compound ∷ []) h.runs_are
      ∙ ap (λ x. (runs_of old.compounds.items ++ map token_run ts) ++ x ∷ []) (run_is_of t a.compound a.bytes a.flags)
      ∙ append_assoc (runs_of old.compounds.items) (map token_run ts) (token_run t ∷ []) ∙ ap (λ l. runs_of old.compounds.items ++ l) (sym (map-append token_run ts (t ∷ [])));
  columns_are = omega (arith, a.columns, h.columns_are, total_width-push ts t);
}

-- a line with one token more takes this alone
pub takes_one : (old new : WrappedLine) (t : Token) → AddsToken old t new → TakesTokens old (t ∷ []) new
takes_one old new t a = record {
  runs_are = ap (map run_of) a.text ∙ map-append run_of old.compounds.items (a.compound ∷ []) ∙ ap (λ x. runs_of old.compounds.items ++ x ∷ []) (run_is_of t a.compound a.bytes a.flags);
  columns_are = omega (arith, a.columns);
}

-- the token at an index
pub takes_next : (old line new : WrappedLine) (ts : List Token) (i : ℕ) (d : Token) → i < length ts → TakesTokens old (take i ts) line → AddsToken line (get_or ts i d) new → TakesTokens old (take (i + 1) ts) new
takes_next old line new ts i d inside h a = subst (λ us. TakesTokens old us new) (sym (take_more ts i d inside)) (takes_more old line new (take i ts) (get_or ts i d) h a)

-- each of the tokens is whole characters of its compound
pub in_compound_at : (ts : List Token) (i : ℕ) (d : Token) → i < length ts → AreInCompounds ts → IsInCompound (get_or ts i d)
in_compound_at [] i d inside h = absurd (omega arith)
in_compound_at (t ∷ ts) zero d inside h = h.0
in_compound_at (t ∷ ts) (suc i) d inside h = in_compound_at ts i d (omega arith) h.1

-- ---- pieces that are put one after the other

-- pieces are put, and then others after them
pub puts_more : (s m n : WordLines) (ps qs : List Piece) → PutsPieces s ps m → PutsPieces m qs n → PutsPieces s (ps ++ qs) n
puts_more s m n [] qs h g = subst (λ (x : WordLines). PutsPieces x qs n) h g
puts_more s m n (p ∷ ps) qs h g = (h.0, h.1, puts_more h.0 m n ps qs h.2 g)

-- a piece that is put is put as a list of one
pub puts_one : (s n : WordLines) (p : Piece) → PutsPiece s p n → PutsPieces s (p ∷ []) n
puts_one s n p h = (n, h, refl)

-- the token at an index
pub puts_next : (s m n : WordLines) (ts : List Token) (i : ℕ) (d : Token) → i < length ts → PutsPieces s (map alone (take i ts)) m → PutsPieces m (together (get_or ts i d ∷ [])) n → PutsPieces s (map alone (take (i + 1) ts)) n
puts_next s m n ts i d inside h put =
    let all : map alone (take (i + 1) ts) ≡ map alone (take i ts) ++ alone (get_or ts i d) ∷ [] = ap (map alone) (take_more ts i d inside) ∙ map-append alone (take i ts) (get_or ts i d ∷ []) in
    subst (λ ps. PutsPieces s ps n) (sym all) (puts_more s m n (map alone (take i ts)) (alone (get_or ts i d) ∷ []) h put)

-- the tokens of a word, as a piece
together_is : (x : Token) (ts : List Token) (width : ℕ) (t : Token) → width ≡ total_width (x ∷ ts) → t ≡ record x { width = width } → as_token (record { first = x; others = ts }) ≡ t
together_is x ts width t is made = ap (λ n. record x { width = n }) (sym is) ∙ sym made

-- the line for a piece with this token
abbrev pub HasLine : WordLines → Token → WordLines → Type 0
HasLine s t m = (p : Piece) (n : WordLines) → as_token p ≡ t → n.lines.items ≡ m.lines.items → n.fit ≡ m.fit → TakesTokens m.line (piece_tokens p) n.line → PutsPiece s p n

-- a piece that is put on the line has it as it is
pub line_stays : (s m : WordLines) (t : Token) (fit : FirstFit) → Puts s.fit t OnLine fit → m ≡ record s { fit = fit } → HasLine s t m
line_stays s m t fit put is p n token lines same takes = (
  OnLine,
  (
    subst (λ u. Puts s.fit u OnLine n.fit) (sym token) (subst (Puts s.fit t OnLine) (sym (same ∙ ap (λ (x : WordLines). x.fit) is)) put),
    lines ∙ ap (λ (x : WordLines). x.lines.items) is,
    subst (λ l. TakesTokens l (piece_tokens p) n.line) (ap (λ (x : WordLines). x.line) is) takes,
  ),
)

-- a piece that is put on the next line has the one that has begun
pub line_begins : (s b m : WordLines) (t : Token) (fit : FirstFit) → Puts s.fit t OnNext fit → BeginsLine (record s { fit = fit }) b → m ≡ b → HasLine s t m
line_begins s b m t fit put begun is p n token lines same takes = (
  OnNext,
  (
    subst (λ u. Puts s.fit u OnNext n.fit) (sym token) (subst (Puts s.fit t OnNext) (sym (same ∙ ap (λ (x : WordLines). x.fit) is ∙ begun.fit_is)) put),
    lines ∙ ap (λ (x : WordLines). x.lines.items) is ∙ begun.lines_are,
    m.line,
    subst IsNewLine (ap (λ (x : WordLines). x.line) (sym is)) begun.line_is,
    takes,
  ),
)

-- what is put together is one piece
pub puts_together : (s n : WordLines) (word : List Token) (width : ℕ) (first t : Token) → slice_get word 0 ≡ Some first → width ≡ total_width word → t ≡ record first { width = width }
    → ((p : Piece) → as_token p ≡ t → piece_tokens p ≡ word → PutsPiece s p n) → PutsPieces s (together word) n
puts_together s n [] width first t some is made put = absurd (cc)
puts_together s n (x ∷ ts) width first t some is made put =
    let same : x ≡ first = cc in
    let token : t ≡ record x { width = width } = made ∙ ap (λ (u : Token). record u { width = width }) (sym same) in
    puts_one s n (record { first = x; others = ts }) (put (record { first = x; others = ts }) (together_is x ts width t is token) refl)

-- a token alone is as wide as it is
pub alone_is : (t : Token) → as_token (alone t) ≡ t
alone_is t = let same : t.width + 0 ≡ t.width = omega arith in ap (λ n. record t { width = n }) same

-- ---- the state of placing, and a step

-- The pieces are on lines: those of the break on whole lines, and the others on the line that is being made.
pub record PieceProgress (r : Room) (qs : List Piece) (lines : List WrappedLine) (line : WrappedLine) (left : Option ℕ) (ended : Bool) : Type 0 where
  pub tokens : List Token
  pub tokens_are : tokens ≡ map as_token qs
  pub shape : Shape r tokens left ended
  pub breaks : List (LineAndGap Piece)
  pub on_line : List Piece
  pub gap : List Piece
  pub breaks_are : piece_break breaks ≡ shape.breaks
  pub line_is : map as_token on_line ≡ shape.tokens
  pub gap_is : map as_token gap ≡ shape.gap
  pub covers : lines_and_gaps breaks ++ (on_line ++ gap) ≡ qs
  pub holds : HoldBreak (token_break breaks) lines
  pub holds_line : HoldsTokens (pieces_tokens on_line) line

as_tokens-push : (qs : List Piece) (p : Piece) (ts : List Token) → ts ≡ map as_token qs → ts ++ as_token p ∷ [] ≡ map as_token (qs ++ p ∷ [])
as_tokens-push qs p ts is = ap (λ l. l ++ as_token p ∷ []) is ∙ sym (map-append as_token qs (p ∷ []))

holds_none : (l : WrappedLine) → IsNewLine l → HoldsTokens [] l
holds_none l h = record { runs_are = ap (map run_of) h.empty; columns_are = omega (arith, h.columns_are) }

holds_takes : (ts us : List Token) (old new : WrappedLine) → HoldsTokens ts old → TakesTokens old us new → HoldsTokens (ts ++ us) new
holds_takes ts us old new h t = record {
  runs_are = t.runs_are ∙ ap (λ l. l ++ map token_run us) h.runs_are ∙ sym (map-append token_run ts us);
  columns_are = omega (arith, t.columns_are, h.columns_are, total_width-append ts us);
}

-- the break with the line that is being made, as one of tokens
break_is : (bs : List (LineAndGap Piece)) (line gap : List Piece) (ps : List (LineAndGap Token)) (ts us : List Token) → piece_break bs ≡ ps → map as_token line ≡ ts → map as_token gap ≡ us
    → piece_break (bs ++ record { line = line; gap = gap } ∷ []) ≡ ps ++ record { line = ts; gap = us } ∷ []
break_is bs line gap ps ts us breaks_are line_is gap_is =
    map-append _ bs (record { line = line; gap = gap } ∷ []) ∙ ap (λ l. l ++ record { line = map as_token line; gap = map as_token gap } ∷ []) breaks_are
    ∙ ap (λ l. ps ++ record { line = l; gap = map as_token gap } ∷ []) line_is ∙ ap (λ l. ps ++ record { line = ts; gap = l } ∷ []) gap_is

pieces_start : (r : Room) (l : WrappedLine) → IsNewLine l → PieceProgress r [] [] l (left_of r.width r.first) false
unfolding shape_start
pieces_start r l new = record {
  tokens = [];
  tokens_are = refl;
  shape = shape_start r;
  breaks = [];
  on_line = [];
  gap = [];
  breaks_are = refl;
  line_is = refl;
  gap_is = refl;
  covers = refl;
  holds = tt;
  holds_line = holds_none l new;
}

-- without a gap, the pieces are those of the lines
none_in_gap : (gap : List Piece) (ts : List Token) → map as_token gap ≡ ts → ts ≡ [] → gap ≡ []
none_in_gap [] ts is none = refl
none_in_gap (p ∷ gap) ts is none = absurd (let both : map as_token (p ∷ gap) ≡ [] = is ∙ none in cc)

pieces_fit : (r : Room) (qs : List Piece) (p : Piece) (lines : List WrappedLine) (line new : WrappedLine) (left : Option ℕ) → PieceProgress r qs lines line left false
    → fits_in left (as_token p).width ≡ true → TakesTokens line (piece_tokens p) new → PieceProgress r (qs ++ p ∷ []) lines new (taken left (as_token p).width) false
unfolding shape_fits
pieces_fit r qs p lines line new left h fits takes =
    let no_gap : h.gap ≡ [] = none_in_gap h.gap h.shape.gap h.gap_is (h.shape.no_gap refl) in
    let all : lines_and_gaps h.breaks ++ h.on_line ≡ qs = ap (λ l. lines_and_gaps h.breaks ++ l) (sym (append-nil h.on_line)) ∙ ap (λ l. lines_and_gaps h.breaks ++ (h.on_line ++ l)) (sym no_gap) ∙ h.covers in
    let tokens : pieces_tokens h.on_line ++ piece_tokens p ≡ pieces_tokens (h.on_line ++ p ∷ []) = ap (λ l. pieces_tokens h.on_line ++ l) (sym (append-nil (piece_tokens p))) ∙ sym (flat_map-append piece_tokens h.on_line (p ∷ [])) in
    record {
      tokens = h.tokens ++ as_token p ∷ [];
      tokens_are = as_tokens-push qs p h.tokens h.tokens_are;
      shape = shape_fits r h.tokens (as_token p) left h.shape fits;
      breaks = h.breaks;
      on_line = h.on_line ++ p ∷ [];
      gap = [];
      breaks_are = h.breaks_are;
      line_is = map-append as_token h.on_line (p ∷ []) ∙ ap (λ l. l ++ as_token p ∷ []) h.line_is;
      gap_is = refl;
      covers = ap (λ l. lines_and_gaps h.breaks ++ l) (append-nil (h.on_line ++ p ∷ [])) ∙ sym (append_assoc (lines_and_gaps h.breaks) h.on_line (p ∷ [])) ∙ ap (λ l. l ++ p ∷ []) all;
      holds = h.holds;
      holds_line = subst (λ ts. HoldsTokens ts new) tokens (holds_takes (pieces_tokens h.on_line) (piece_tokens p) line new h.holds_line takes);
    }

pieces_end : (r : Room) (qs : List Piece) (p : Piece) (lines : List WrappedLine) (line : WrappedLine) (left : Option ℕ) (ended : Bool) → PieceProgress r qs lines line left ended
    → p.first.blank ≡ true → (ended ≡ true) ⊎ (fits_in left (as_token p).width ≡ false) → PieceProgress r (qs ++ p ∷ []) lines line left true
unfolding shape_ends
pieces_end r qs p lines line left ended h blank why = record {
  tokens = h.tokens ++ as_token p ∷ [];
  tokens_are = as_tokens-push qs p h.tokens h.tokens_are;
  shape = shape_ends r h.tokens (as_token p) left ended h.shape blank why;
  breaks = h.breaks;
  on_line = h.on_line;
  gap = h.gap ++ p ∷ [];
  breaks_are = h.breaks_are;
  line_is = h.line_is;
  gap_is = map-append as_token h.gap (p ∷ []) ∙ ap (λ l. l ++ as_token p ∷ []) h.gap_is;
  covers = ap (λ l. lines_and_gaps h.breaks ++ l) (sym (append_assoc h.on_line h.gap (p ∷ []))) ∙ sym (append_assoc (lines_and_gaps h.breaks) (h.on_line ++ h.gap) (p ∷ [])) ∙ ap (λ l. l ++ p ∷ []) h.covers;
  holds = h.holds;
  holds_line = h.holds_line;
}

pieces_begin : (r : Room) (qs : List Piece) (p : Piece) (lines new_lines : List WrappedLine) (line begun new : WrappedLine) (left : Option ℕ) (ended : Bool) → PieceProgress r qs lines line left ended
    → p.first.blank ≡ false → (ended ≡ true) ⊎ (fits_in left (as_token p).width ≡ false) → new_lines ≡ lines ++ line ∷ [] → IsNewLine begun → TakesTokens begun (piece_tokens p) new
    → PieceProgress r (qs ++ p ∷ []) new_lines new (left_of r.width (r.other + (as_token p).width)) false
unfolding shape_begins
pieces_begin r qs p lines new_lines line begun new left ended h solid why pushed begins takes =
    let b : LineAndGap Piece = record { line = h.on_line; gap = h.gap } in
    let q : LineAndGap Token = record { line = pieces_tokens h.on_line; gap = pieces_tokens h.gap } in
    let tokens : token_break (h.breaks ++ b ∷ []) ≡ token_break h.breaks ++ q ∷ [] = map-append _ h.breaks (b ∷ []) in
    record {
      tokens = h.tokens ++ as_token p ∷ [];
      tokens_are = as_tokens-push qs p h.tokens h.tokens_are;
      shape = shape_begins r h.tokens (as_token p) left ended h.shape solid why;
      breaks = h.breaks ++ b ∷ [];
      on_line = p ∷ [];
      gap = [];
      breaks_are = break_is h.breaks h.on_line h.gap h.shape.breaks h.shape.tokens h.shape.gap h.breaks_are h.line_is h.gap_is;
      line_is = refl;
      gap_is = refl;
      covers = ap (λ l. l ++ p ∷ []) (lines_and_gaps-push h.breaks b ∙ h.covers);
      holds = subst (HoldBreak (token_break (h.breaks ++ b ∷ []))) (sym pushed) (subst (λ ps. HoldBreak ps (lines ++ line ∷ [])) (sym tokens) (holds_push (token_break h.breaks) lines q line h.holds h.holds_line));
      holds_line = subst (λ ts. HoldsTokens ts new) (sym (append-nil (piece_tokens p))) (holds_takes [] (piece_tokens p) begun new (holds_none begun begins) takes);
    }

-- ---- the lines of all pieces

-- these pieces are on lines, and first fit has come so far
pub record PiecesSoFar (r : Room) (qs : List Piece) (lines : List WrappedLine) (line : WrappedLine) (s : FirstFit) : Type 0 where
  pub room : s.room ≡ r
  pub placed : PieceProgress r qs lines line s.room_left s.ended

one_more : (r : Room) (qs : List Piece) (p : Piece) (s n : WordLines) → PiecesSoFar r qs s.lines.items s.line s.fit → PutsPiece s p n → PiecesSoFar r (qs ++ p ∷ []) n.lines.items n.line n.fit
one_more r qs p s n h (OnLine, all) =
    let put = all.0 in
    let lines = all.1 in
    let takes = all.2 in
    let open_line : PieceProgress r qs s.lines.items s.line s.fit.room_left false = subst (PieceProgress r qs s.lines.items s.line s.fit.room_left) put.0 h.placed in
    let placed = pieces_fit r qs p s.lines.items s.line n.line s.fit.room_left open_line put.1 takes in
    subst (λ ls. PiecesSoFar r (qs ++ p ∷ []) ls n.line n.fit) (sym lines) (
    subst (PiecesSoFar r (qs ++ p ∷ []) s.lines.items n.line) (sym put.2)
    (record { room = h.room; placed = subst (PieceProgress r (qs ++ p ∷ []) s.lines.items n.line (taken s.fit.room_left (as_token p).width)) (sym put.0) placed })
    )
one_more r qs p s n h (OnNext, all) =
    let put = all.0 in
    let lines = all.1 in
    let room : left_of r.width (r.other + (as_token p).width) ≡ left_of s.fit.room.width (s.fit.room.other + (as_token p).width) = ap (λ (q : Room). left_of q.width (q.other + (as_token p).width)) (sym h.room) in
    let placed = pieces_begin r qs p s.lines.items n.lines.items s.line all.2 n.line s.fit.room_left s.fit.ended h.placed put.0 put.1 lines all.3 all.4 in
    subst (PiecesSoFar r (qs ++ p ∷ []) n.lines.items n.line) (sym put.2) (record { room = h.room; placed = subst (λ l. PieceProgress r (qs ++ p ∷ []) n.lines.items n.line l false) room placed })
one_more r qs p s n h (InGap, all) =
    let put = all.0 in
    let lines = all.1 in
    let line = all.2 in
    subst (λ ls. PiecesSoFar r (qs ++ p ∷ []) ls n.line n.fit) (sym lines) (
    subst (λ l. PiecesSoFar r (qs ++ p ∷ []) s.lines.items l n.fit) (sym line) (
    subst (PiecesSoFar r (qs ++ p ∷ []) s.lines.items s.line) (sym put.2)
    (record { room = h.room; placed = pieces_end r qs p s.lines.items s.line s.fit.room_left s.fit.ended h.placed put.0 put.1 })
    )
    )

all_more : (r : Room) (qs ps : List Piece) (s n : WordLines) → PiecesSoFar r qs s.lines.items s.line s.fit → PutsPieces s ps n → PiecesSoFar r (qs ++ ps) n.lines.items n.line n.fit
all_more r qs [] s n h put =
    subst (λ l. PiecesSoFar r l n.lines.items n.line n.fit) (sym (append-nil qs)) (subst (λ (x : WordLines). PiecesSoFar r qs x.lines.items x.line x.fit) (sym put) h)
all_more r qs (p ∷ ps) s n h (m, one, others) =
    subst (λ l. PiecesSoFar r l n.lines.items n.line n.fit) (append_assoc qs (p ∷ []) ps) (all_more r (qs ++ p ∷ []) ps m n (one_more r qs p s m h one) others)

none_yet : (r : Room) (s : WordLines) → IsAtFirst r s → PiecesSoFar r [] s.lines.items s.line s.fit
none_yet r s h =
    subst (λ ls. PiecesSoFar r [] ls s.line s.fit) (sym h.lines_are)
    (subst (PiecesSoFar r [] [] s.line) (sym h.fit_is) (record { room = refl; placed = pieces_start r s.line h.line_is }))

-- the end: the last line is whole, and the lines are those of the first fit
whole : (r : Room) (ts : List Token) (qs : List Piece) (lines new : List WrappedLine) (line : WrappedLine) (left : Option ℕ) (ended : Bool) → PieceProgress r qs lines line left ended → qs ≡ pieces_of (token_limit r) ts
    → new ≡ lines ++ line ∷ [] → AreWordLines r ts new
whole r ts qs lines new line left ended h is pushed =
    let b : LineAndGap Piece = record { line = h.on_line; gap = h.gap } in
    let q : LineAndGap Token = record { line = pieces_tokens h.on_line; gap = pieces_tokens h.gap } in
    let s = h.shape in
    let fit : IsFirstFit r (map as_token qs) (s.breaks ++ record { line = s.tokens; gap = s.gap } ∷ []) = subst (λ us. IsFirstFit r us (s.breaks ++ record { line = s.tokens; gap = s.gap } ∷ [])) h.tokens_are (whole_fit r h.tokens left ended s) in
    let fit_pieces : IsFirstFit r (map as_token qs) (piece_break (h.breaks ++ b ∷ [])) =
    subst (IsFirstFit r (map as_token qs)) (sym (break_is h.breaks h.on_line h.gap s.breaks s.tokens s.gap h.breaks_are h.line_is h.gap_is)) fit in
    let tokens : token_break (h.breaks ++ b ∷ []) ≡ token_break h.breaks ++ q ∷ [] = map-append _ h.breaks (b ∷ []) in
    record {
      breaks = h.breaks ++ b ∷ [];
      covers = lines_and_gaps-push h.breaks b ∙ h.covers ∙ is;
      first_fit = subst (λ ps. IsFirstFit r (map as_token ps) (piece_break (h.breaks ++ b ∷ []))) is fit_pieces;
      holds = subst (HoldBreak (token_break (h.breaks ++ b ∷ []))) (sym pushed) (subst (λ ps. HoldBreak ps (lines ++ line ∷ [])) (sym tokens) (holds_push (token_break h.breaks) lines q line h.holds h.holds_line));
    }

-- after the last piece all are on lines, by first fit
pub all_put : (r : Room) (ts : List Token) (start s : WordLines) (qs : List Piece) (new : List WrappedLine) → IsAtFirst r start → PutsPieces start qs s → qs ≡ pieces_of (token_limit r) ts → new ≡ s.lines.items ++ s.line ∷ []
    → AreWordLines r ts new
all_put r ts start s qs new first puts is pushed = whole r ts qs s.lines.items new s.line s.fit.room_left s.fit.ended (all_more r [] qs start s (none_yet r start first) puts).placed is pushed
