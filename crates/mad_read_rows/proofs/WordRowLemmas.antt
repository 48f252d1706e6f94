-- Rows of whole words: what is written of pieces that are put one after the other, and of the words of compounds as they come.
use Rattle.std.proofs.Common.{◌≡◌, ◌≢◌, ◌⊎◌, inl, inr, ℕ, ◌≤◌, ◌<◌, ◌+◌, ◌-◌, ◌&&◌, Bool, true, false, not, if◌then◌else◌, nat_le, Some, None, List, [], ◌∷◌, ◌++◌, map, length, chars, take, drop, get_or, slice_get, slice_range, refl, sym, ap, ◌∙◌, subst, arith, append-nil, append_assoc}
use Rattle.std.specs.Char.{encode_utf8, is_whitespace}
use Rattle.std.specs.List.{flat_map, AllByRecursion}
use Rattle.std.specs.Str.{IsUtf8, IsCharBoundary}
use Rattle.std.proofs.lemmas.Bool.{cases_lt}
use Rattle.std.proofs.lemmas.Bool.Decides.{nat_tests}
use Rattle.std.proofs.lemmas.List.{map-append, length-append, length-drop, take-append-drop, take-append-le, take_all, take_more, drop-drop, at_drop_more, get_or-take, get_or-drop, drop_all}
use Rattle.std.proofs.lemmas.List.Concat.{flat_map-append}
use Rattle.std.proofs.lemmas.Str.{chars-append, chars_past_char, encode_ascii, IsCharBoundary-before_ascii, IsUtf8-take, IsUtf8-drop}
use Rattle.mad_md.specs.Flagged.{flagged, flags_of, is_blank, run_of}
use Rattle.mad_md.specs.declared.compound.Compound.{Compound}
use Rattle.mad_measure.specs.Chunks.{is_space_at}
use Rattle.mad_measure.specs.Tokens.{IsTokenAt, IsInCompound, AreTokensFrom, AreTokensOf, token_text}
use Rattle.mad_measure.specs.declared.tokens.Token.{Token}
use Rattle.mad_measure.proofs.AllLemmas.{all_push, all_back, all_joined}
use Rattle.mad_measure.proofs.ExistLemmas.{tokens_there}
use Rattle.mad_measure.proofs.TokenTexts.{length-token_text}
use Rattle.mad_wrap.specs.Breaks.{LineAndGap, lines_and_gaps, total_width}
use Rattle.mad_wrap.specs.FirstFit.{Puts, at_first}
use Rattle.mad_wrap.specs.Placings.{IsFirstFit}
use Rattle.mad_wrap.specs.Rooms.{token_limit}
use Rattle.mad_wrap.specs.WordLines.{AreInCompounds}
use Rattle.mad_wrap.specs.Words.{Piece, as_token, alone, together, piece_tokens, pieces_tokens, word_pieces, pieces_after, pieces_of, token_break, piece_break}
use Rattle.mad_wrap.specs.Spans.{IsSpan}
use Rattle.mad_wrap.specs.Writings.{IsWrittenBare, Writes, WritesBefore, put_bytes, open_rows}
use Rattle.mad_wrap.specs.declared.spans.Span.{Span}
use Rattle.mad_wrap.specs.declared.first_fit.FirstFit.{FirstFit}
use Rattle.mad_wrap.specs.declared.first_fit.Put.{Put}
use Rattle.mad_wrap.specs.declared.first_fit.Put.TheVariants.{OnLine, OnNext, InGap}
use Rattle.mad_wrap.specs.declared.room.Room.{Room}
use Rattle.mad_wrap.proofs.EndLemmas.{lone_pieces}
use Rattle.mad_wrap.proofs.PlacingLemmas.{total_width-push, lines_and_gaps-push, run_is_of}
use Rattle.mad_wrap.proofs.SpanSteps.{Lines, lines_start, lines_end, line_takes, line_begins, line_ends}
use Rattle.mad_wrap.proofs.WordLemmas.{wide_pieces, word_fits, after_blank, after_solid, wide_blank, wide_solid, after_wide, alone_push}
use Rattle.mad_wrap.proofs.WordLineLemmas.{alone_is}
use Rattle.mad_wrap.proofs.WritingLemmas.{writes_both, alike_writes}
use Rattle.mad_wrap.proofs.WordSteps.{left_pieces}
use Rattle.mad_draw.specs.Pieces.{pieces_bytes}
use Rattle.mad_style.specs.declared.line_styles.LineStyle.{LineStyle}
use Rattle.mad_rows.specs.Rows.{compound_piece}
use Rattle.mad_read_rows.specs.ReadRows.{run_bytes, token_bytes, front_bytes, later_front}
use Rattle.mad_read_rows.specs.WordRows.{PiecesOut, WritesPieces, WritesWords, WritesWordWrap, HasLastWord, BeginsBlank, BlankNext, IsQuickTo, WritesSome}
use Rattle.mad_rows.specs.declared.composites.CompositeFront.{CompositeFront}
use Rattle.mad_rows.specs.declared.row_skin.RowSkin.{RowSkin}

-- ---- pieces that are put one after the other

pieces_both : (write : Token → List ℕ) (later : List ℕ) (ps qs : List Piece) (s m n : FirstFit) (a b : List ℕ) → PiecesOut write later s ps m a → PiecesOut write later m qs n b → PiecesOut write later s (ps ++ qs) n (a ++ b)
pieces_both write later [] qs s m n a b (same, none) h = subst (λ (x : List ℕ). PiecesOut write later s qs n (x ++ b)) (sym none) (subst (λ (x : FirstFit). PiecesOut write later x qs n b) same h)
pieces_both write later (p ∷ ps) qs s m n a b (put, k, rest, first, more, is) h =
    (put, k, rest ++ b, first, pieces_both write later ps qs k m n rest b more h, ap (λ (x : List ℕ). x ++ b) is ∙ append_assoc (put_bytes later put (flat_map write (piece_tokens p))) rest b)

-- pieces and then others are written as all of them
pub both_written : (write : Token → List ℕ) (later : List ℕ) (ps qs : List Piece) (s m n : FirstFit) (old mid new : List ℕ) → WritesPieces write later s ps old m mid → WritesPieces write later m qs mid n new → WritesPieces write later s (ps ++ qs) old n new
both_written write later ps qs s m n old mid new h g = (h.0 ++ g.0, pieces_both write later ps qs s m n h.0 g.0 h.1 g.1, g.2 ∙ ap (λ (x : List ℕ). x ++ g.0) h.2 ∙ append_assoc old h.0 g.0)

-- for no piece nothing is written
pub none_written : (write : Token → List ℕ) (later : List ℕ) (s : FirstFit) (old : List ℕ) → WritesPieces write later s [] old s old
none_written write later s old = ([], (refl, refl), sym (append-nil old))

piece_written : (write : Token → List ℕ) (later : List ℕ) (s n : FirstFit) (p : Piece) (put : Put) (old new : List ℕ) → Puts s (as_token p) put n → new ≡ old ++ put_bytes later put (flat_map write (piece_tokens p)) → WritesPieces write later s (p ∷ []) old n new
piece_written write later s n p put old new h is =
    let own : List ℕ = put_bytes later put (flat_map write (piece_tokens p)) in
    (own, (put, n, [], h, (refl, refl), sym (append-nil own)), is)

-- the tokens of a word, as a piece
pub word_written : (write : Token → List ℕ) (later : List ℕ) (s n : FirstFit) (word : List Token) (width : ℕ) (first : Token) (put : Put) (old new : List ℕ) → slice_get word 0 ≡ Some first → width ≡ total_width word
    → Puts s (record first { width = width }) put n → new ≡ old ++ put_bytes later put (flat_map write word) → WritesPieces write later s (together word) old n new
word_written write later s n [] width first put old new some is h bytes = absurd (cc)
word_written write later s n (x ∷ ts) width first put old new some is h bytes =
    let p : Piece = record { first = x; others = ts } in
    let same : x ≡ first = cc in
    let token : as_token p ≡ record first { width = width } = ap (λ k. record x { width = k }) (sym is) ∙ ap (λ (u : Token). record u { width = width }) same in
    piece_written write later s n p put old new (subst (λ u. Puts s u put n) (sym token) h) bytes

-- for a word without tokens nothing is written
pub no_word : (write : Token → List ℕ) (later : List ℕ) (s : FirstFit) (word : List Token) (old : List ℕ) → slice_get word 0 ≡ None → WritesPieces write later s (together word) old s old
no_word write later s [] old none = none_written write later s old
no_word write later s (x ∷ ts) old none = absurd (cc)

-- tokens that are put one by one
pub alone_out : (write : Token → List ℕ) (later : List ℕ) (ts : List Token) (s n : FirstFit) (out : List ℕ) → Writes write later s ts n out → PiecesOut write later s (map alone ts) n out
alone_out write later [] s n out h = h
alone_out write later (t ∷ ts) s n out (put, m, rest, first, more, is) =
    (put, m, rest, subst (λ u. Puts s u put m) (sym (alone_is t)) first, alone_out write later ts m n rest more, is ∙ ap (λ (x : List ℕ). put_bytes later put x ++ rest) (sym (append-nil (write t))))

-- ---- their rows

rows_grow : (write : Token → List ℕ) (later : List ℕ) (b : List (LineAndGap Token)) (l ts : List Token) → open_rows write later b (l ++ ts) ≡ open_rows write later b l ++ flat_map write ts
rows_grow write later [] l ts = flat_map-append write l ts
rows_grow write later (p ∷ b) l ts =
    let front = flat_map write p.line in
    let rest = open_rows write later b l in
    let own = flat_map write ts in
    ap (λ (x : List ℕ). front ++ (10 ∷ (later ++ x))) (rows_grow write later b l ts) ∙ ap (λ (x : List ℕ). front ++ (10 ∷ x)) (sym (append_assoc later rest own)) ∙ sym (append_assoc front (10 ∷ (later ++ rest)) own)

rows_begin : (write : Token → List ℕ) (later : List ℕ) (b : List (LineAndGap Token)) (l g ts : List Token)
    → open_rows write later (b ++ record { line = l; gap = g } ∷ []) ts ≡ open_rows write later b l ++ (10 ∷ (later ++ flat_map write ts))
rows_begin write later [] l g ts = refl
rows_begin write later (p ∷ b) l g ts =
    let front = flat_map write p.line in
    let rest = open_rows write later b l in
    let own = 10 ∷ (later ++ flat_map write ts) in
    ap (λ (x : List ℕ). front ++ (10 ∷ (later ++ x))) (rows_begin write later b l g ts) ∙ ap (λ (x : List ℕ). front ++ (10 ∷ x)) (sym (append_assoc later rest own)) ∙ sym (append_assoc front (10 ∷ (later ++ rest)) own)

-- The bytes are the rows of the pieces' lines by first fit, without what is in front of the first, and without a newline after the last.
pub record ArePieceRows (write : Token → List ℕ) (later : List ℕ) (r : Room) (ps : List Piece) (out : List ℕ) : Type 0 where
  pub breaks : List (LineAndGap Piece)
  pub line : List Piece
  pub gap : List Piece
  pub covers : lines_and_gaps (breaks ++ record { line = line; gap = gap } ∷ []) ≡ ps
  pub first_fit : IsFirstFit r (map as_token ps) (piece_break (breaks ++ record { line = line; gap = gap } ∷ []))
  pub rows : out ≡ open_rows write later (token_break breaks) (pieces_tokens line)

-- the same lines
lines_are : (b c : List (LineAndGap Token)) (l k g h : List Token) (r : Room) (ts us : List Token) (s : FirstFit) → b ≡ c → l ≡ k → g ≡ h → ts ≡ us → Lines b l g r ts s → Lines c k h r us s
lines_are b c l k g h r ts us s eb el eg et lines = subst (λ x. Lines x k h r us s) eb (subst (λ x. Lines b x h r us s) el (subst (λ x. Lines b l x r us s) eg (subst (λ x. Lines b l g r x s) et lines)))

none_there : (g : List Piece) → map as_token g ≡ [] → g ≡ []
none_there [] e = refl
none_there (p ∷ g) e = absurd (omega (arith, ap length e))

tokens_pushed : (l : List Piece) (p : Piece) → pieces_tokens (l ++ p ∷ []) ≡ pieces_tokens l ++ piece_tokens p
tokens_pushed l p = flat_map-append piece_tokens l (p ∷ []) ∙ ap (λ (x : List Token). pieces_tokens l ++ x) (append-nil (piece_tokens p))

step_rows : (write : Token → List ℕ) (later : List ℕ) (r : Room) (qs us : List Piece) (p : Piece) (before after own rest out : List ℕ) → after ≡ before ++ own → out ≡ own ++ rest
    → ArePieceRows write later r ((qs ++ p ∷ []) ++ us) (after ++ rest) → ArePieceRows write later r (qs ++ p ∷ us) (before ++ out)
step_rows write later r qs us p before after own rest out grown is h =
    let bytes : after ++ rest ≡ before ++ out = ap (λ (x : List ℕ). x ++ rest) grown ∙ append_assoc before own rest ∙ ap (λ (x : List ℕ). before ++ x) (sym is) in
    subst (ArePieceRows write later r (qs ++ p ∷ us)) bytes (subst (λ (x : List Piece). ArePieceRows write later r x (after ++ rest)) (append_assoc qs (p ∷ []) us) h)

rows_from : (write : Token → List ℕ) (later : List ℕ) (us : List Piece) (b : List (LineAndGap Piece)) (l g : List Piece) (r : Room) (qs : List Piece) (s n : FirstFit) (out : List ℕ) → Lines (piece_break b) (map as_token l) (map as_token g) r (map as_token qs) s
    → lines_and_gaps b ++ (l ++ g) ≡ qs → PiecesOut write later s us n out → ArePieceRows write later r (qs ++ us) (open_rows write later (token_break b) (pieces_tokens l) ++ out)
rows_from write later [] b l g r qs s n out h covers (same, none) =
    let x : LineAndGap Piece = record { line = l; gap = g } in
    let all : ArePieceRows write later r qs (open_rows write later (token_break b) (pieces_tokens l) ++ out) = record {
      breaks = b;
      line = l;
      gap = g;
      covers = lines_and_gaps-push b x ∙ covers;
      first_fit = subst (IsFirstFit r (map as_token qs)) (sym (map-append _ b (x ∷ []))) (lines_end (piece_break b) (map as_token l) (map as_token g) r (map as_token qs) s h);
      rows = ap (λ (y : List ℕ). open_rows write later (token_break b) (pieces_tokens l) ++ y) none ∙ append-nil (open_rows write later (token_break b) (pieces_tokens l));
    } in
    subst (λ (y : List Piece). ArePieceRows write later r y (open_rows write later (token_break b) (pieces_tokens l) ++ out)) (sym (append-nil qs)) all
rows_from write later (p ∷ us) b l g r qs s n out h covers (OnLine, m, rest, put, more, is) =
    let none : g ≡ [] = none_there g (sym h.gap_is ∙ h.shape.no_gap put.0) in
    let next = line_takes (piece_break b) (map as_token l) (map as_token g) r (map as_token qs) (as_token p) s m h put in
    let lines : Lines (piece_break b) (map as_token (l ++ p ∷ [])) [] r (map as_token (qs ++ p ∷ [])) m =
    lines_are _ _ _ _ _ _ r _ _ m refl (sym (map-append as_token l (p ∷ []))) refl (sym (map-append as_token qs (p ∷ []))) next in
    let cover : lines_and_gaps b ++ ((l ++ p ∷ []) ++ []) ≡ qs ++ p ∷ [] =
    ap (λ (x : List Piece). lines_and_gaps b ++ x) (append-nil (l ++ p ∷ [])) ∙ sym (append_assoc (lines_and_gaps b) l (p ∷ []))
    ∙ ap (λ (x : List Piece). x ++ p ∷ []) (ap (λ (x : List Piece). lines_and_gaps b ++ x) (sym (append-nil l)) ∙ ap (λ (x : List Piece). lines_and_gaps b ++ (l ++ x)) (sym none) ∙ covers) in
    let grown : open_rows write later (token_break b) (pieces_tokens (l ++ p ∷ [])) ≡ open_rows write later (token_break b) (pieces_tokens l) ++ flat_map write (piece_tokens p) =
    ap (open_rows write later (token_break b)) (tokens_pushed l p) ∙ rows_grow write later (token_break b) (pieces_tokens l) (piece_tokens p) in
    step_rows write later r qs us p _ _ (flat_map write (piece_tokens p)) rest out grown is (rows_from write later us b (l ++ p ∷ []) [] r (qs ++ p ∷ []) m n rest lines cover more)
rows_from write later (p ∷ us) b l g r qs s n out h covers (OnNext, m, rest, put, more, is) =
    let x : LineAndGap Piece = record { line = l; gap = g } in
    let next = line_begins (piece_break b) (map as_token l) (map as_token g) r (map as_token qs) (as_token p) s m h put in
    let lines : Lines (piece_break (b ++ x ∷ [])) (map as_token (p ∷ [])) [] r (map as_token (qs ++ p ∷ [])) m = lines_are _ _ _ _ _ _ r _ _ m (sym (map-append _ b (x ∷ []))) refl refl (sym (map-append as_token qs (p ∷ []))) next in
    let cover : lines_and_gaps (b ++ x ∷ []) ++ ((p ∷ []) ++ []) ≡ qs ++ p ∷ [] = ap (λ (y : List Piece). y ++ p ∷ []) (lines_and_gaps-push b x ∙ covers) in
    let grown : open_rows write later (token_break (b ++ x ∷ [])) (pieces_tokens (p ∷ [])) ≡ open_rows write later (token_break b) (pieces_tokens l) ++ (10 ∷ (later ++ flat_map write (piece_tokens p))) =
    ap (λ (y : List Token). open_rows write later (token_break (b ++ x ∷ [])) y) (append-nil (piece_tokens p)) ∙ ap (λ (y : List (LineAndGap Token)). open_rows write later y (piece_tokens p)) (map-append _ b (x ∷ []))
    ∙ rows_begin write later (token_break b) (pieces_tokens l) (pieces_tokens g) (piece_tokens p) in
    step_rows write later r qs us p _ _ (10 ∷ (later ++ flat_map write (piece_tokens p))) rest out grown is (rows_from write later us (b ++ x ∷ []) (p ∷ []) [] r (qs ++ p ∷ []) m n rest lines cover more)
rows_from write later (p ∷ us) b l g r qs s n out h covers (InGap, m, rest, put, more, is) =
    let next = line_ends (piece_break b) (map as_token l) (map as_token g) r (map as_token qs) (as_token p) s m h put in
    let lines : Lines (piece_break b) (map as_token l) (map as_token (g ++ p ∷ [])) r (map as_token (qs ++ p ∷ [])) m =
    lines_are _ _ _ _ _ _ r _ _ m refl refl (sym (map-append as_token g (p ∷ []))) (sym (map-append as_token qs (p ∷ []))) next in
    let cover : lines_and_gaps b ++ (l ++ (g ++ p ∷ [])) ≡ qs ++ p ∷ [] =
    ap (λ (x : List Piece). lines_and_gaps b ++ x) (sym (append_assoc l g (p ∷ []))) ∙ sym (append_assoc (lines_and_gaps b) (l ++ g) (p ∷ [])) ∙ ap (λ (x : List Piece). x ++ p ∷ []) covers in
    step_rows write later r qs us p _ _ [] rest out (sym (append-nil (open_rows write later (token_break b) (pieces_tokens l)))) is (rows_from write later us b l (g ++ p ∷ []) r (qs ++ p ∷ []) m n rest lines cover more)

-- what is written of pieces from the first line on is their rows
pub piece_rows : (write : Token → List ℕ) (later : List ℕ) (ps : List Piece) (r : Room) (n : FirstFit) (out : List ℕ) → PiecesOut write later (at_first r) ps n out → ArePieceRows write later r ps out
piece_rows write later ps r n out h = rows_from write later ps [] [] [] r [] (at_first r) n out (lines_start r) refl h

-- ---- a token that a space is in

white_space : is_whitespace 32 ≡ true
white_space = grind (arith, nat_tests)

space_byte : (bs : List ℕ) (k : ℕ) → is_space_at bs k ≡ true → get_or bs k 0 ≡ 32
space_byte bs k h = grind (arith, nat_tests)

byte_in : (max at : ℕ) (p : Compound) (t : Token) → IsTokenAt max p at t → (k : ℕ) → at ≤ k → k < t.end_in_compound → get_or (token_text t) (k - at) 0 ≡ get_or p.src.now k 0
byte_in max at p t is k low high =
    let n : ℕ = k - at in
    ap (λ (q : Compound). get_or (slice_range q.src.now t.start_in_compound t.end_in_compound) n 0) is.part_of
    ∙ ap (λ m. get_or (slice_range p.src.now m t.end_in_compound) n 0) is.begins
    ∙ get_or-take (t.end_in_compound - at) (drop at p.src.now) n 0 (omega (arith, low, high))
    ∙ get_or-drop at p.src.now n 0
    ∙ ap (λ m. get_or p.src.now m 0) (omega (arith, low))

-- it is blank, if it isn't code
pub blank_with : (max at : ℕ) (p : Compound) (t : Token) (k : ℕ) → IsTokenAt max p at t → p.code ≡ false → at ≤ k → k < t.end_in_compound → is_space_at p.src.now k ≡ true → t.blank ≡ true
blank_with max at p t k is uncoded low high space =
    let text : List ℕ = token_text t in
    let n : ℕ = k - at in
    let size : length text ≡ t.end_in_compound - at = omega (arith, length-token_text t is.within, is.begins) in
    let inside : n < length text = omega (arith, low, high, size) in
    let byte : get_or text n 0 ≡ 32 = byte_in max at p t is k low high ∙ space_byte p.src.now k space in
    let border : IsCharBoundary text n = IsCharBoundary-before_ascii text n inside (omega (arith, byte)) in
    let front : IsUtf8 (take n text) = IsUtf8-take text n is.within.utf8 border in
    let back : IsUtf8 (drop n text) = IsUtf8-drop text n is.within.utf8 border in
    let parts : drop n text ≡ encode_utf8 32 ++ drop (n + 1) text =
    at_drop_more (λ (l : List ℕ). l) text n 0 inside ∙ ap (λ c. c ∷ drop (n + 1) text) byte ∙ ap (λ (l : List ℕ). l ++ drop (n + 1) text) (sym (encode_ascii 32 (omega arith))) in
    let all : chars text ≡ chars (take n text) ++ (32 ∷ chars (drop (n + 1) text)) =
    ap chars (sym (take-append-drop n text)) ∙ chars-append (take n text) (drop n text) front ∙ ap (λ (cs : List ℕ). chars (take n text) ++ cs) (chars_past_char (drop n text) (drop (n + 1) text) 32 back parts) in
    let each : AllByRecursion (λ x. is_blank x ≡ t.blank) (flagged (flags_of t.compound) (chars (take n text) ++ (32 ∷ chars (drop (n + 1) text)))) =
    subst (λ (cs : List ℕ). AllByRecursion (λ x. is_blank x ≡ t.blank) (flagged (flags_of t.compound) cs)) all is.alike.alike in
    let split = subst (AllByRecursion (λ x. is_blank x ≡ t.blank)) (map-append _ (chars (take n text)) (32 ∷ chars (drop (n + 1) text))) each in
    let own = all_back (λ x. is_blank x ≡ t.blank) (flagged (flags_of t.compound) (chars (take n text))) (flagged (flags_of t.compound) (32 ∷ chars (drop (n + 1) text))) split in
    let code : t.compound.code ≡ false = ap (λ (q : Compound). q.code) is.part_of ∙ uncoded in
    sym own.0 ∙ ap (λ b. is_whitespace 32 && not b) code ∙ ap (λ b. b && true) white_space

-- ---- tokens at an index

-- one token more is written, as a part of its compound
pub parts_more : (skin : RowSkin) (style : LineStyle) (ts : List Token) (i : ℕ) (d : Token) (old mid new : List ℕ) (part : Compound) → i < length ts → mid ≡ old ++ flat_map (token_bytes skin style) (take i ts) → part.src.now ≡ token_text (get_or ts i d)
    → flags_of part ≡ flags_of (get_or ts i d).compound → new ≡ mid ++ pieces_bytes (map (compound_piece skin style) (part ∷ [])) → new ≡ old ++ flat_map (token_bytes skin style) (take (i + 1) ts)
parts_more skin style ts i d old mid new part inside h text flags put =
    let write : Token → List ℕ = token_bytes skin style in
    let own : List ℕ = write (get_or ts i d) in
    let is : pieces_bytes (map (compound_piece skin style) (part ∷ [])) ≡ own = append-nil (run_bytes skin style (run_of part)) ∙ ap (run_bytes skin style) (run_is_of (get_or ts i d) part text flags) in
    let more : flat_map write (take (i + 1) ts) ≡ flat_map write (take i ts) ++ own =
    ap (flat_map write) (take_more ts i d inside) ∙ flat_map-append write (take i ts) (get_or ts i d ∷ []) ∙ ap (λ (x : List ℕ). flat_map write (take i ts) ++ x) (append-nil own) in
    put ∙ ap (λ (x : List ℕ). mid ++ x) is ∙ ap (λ (x : List ℕ). x ++ own) h ∙ append_assoc old (flat_map write (take i ts)) own ∙ ap (λ (x : List ℕ). old ++ x) (sym more)

-- one token more is put alone, and written
pub each_more : (write : Token → List ℕ) (later : List ℕ) (ts : List Token) (i : ℕ) (d : Token) (s m n : FirstFit) (old mid new : List ℕ) → i < length ts → WritesPieces write later s (map alone (take i ts)) old m mid
    → WritesPieces write later m (together (get_or ts i d ∷ [])) mid n new → WritesPieces write later s (map alone (take (i + 1) ts)) old n new
each_more write later ts i d s m n old mid new inside h put =
    let all : map alone (take (i + 1) ts) ≡ map alone (take i ts) ++ alone (get_or ts i d) ∷ [] = ap (map alone) (take_more ts i d inside) ∙ map-append alone (take i ts) (get_or ts i d ∷ []) in
    subst (λ ps. WritesPieces write later s ps old n new) (sym all) (both_written write later (map alone (take i ts)) (alone (get_or ts i d) ∷ []) s m n old mid new h put)

-- ---- tokens of a compound in a row, each of which begins before a byte

-- before the first token nothing is written
pub some_start : (write : Token → List ℕ) (later : List ℕ) (max : ℕ) (p : Compound) (at end : ℕ) (s : FirstFit) (old : List ℕ) → WritesSome write later max p at end at s old s old
some_start write later max p at end s old = record { own = []; out = []; tokens = λ rest h. h; before = tt; writes = (refl, refl); bytes = sym (append-nil old) }

some_more : (write : Token → List ℕ) (later : List ℕ) (max : ℕ) (p : Compound) (at end to next : ℕ) (s : FirstFit) (old : List ℕ) (m n : FirstFit) (mid new : List ℕ) (own : List Token) (out : List ℕ) → WritesSome write later max p at end to s old m mid
    → ((rest : List Token) → AreTokensFrom max p next rest → AreTokensFrom max p to (own ++ rest)) → AllByRecursion (λ (t : Token). t.start_in_compound < end) own → Writes write later m own n out → new ≡ mid ++ out → WritesSome write later max p at end next s old n new
some_more write later max p at end to next s old m n mid new own out h tokens before writes bytes = record {
  own = h.own ++ own;
  out = h.out ++ out;
  tokens = λ rest more. subst (AreTokensFrom max p at) (sym (append_assoc h.own own rest)) (h.tokens (own ++ rest) (tokens rest more));
  before = all_joined (λ (t : Token). t.start_in_compound < end) h.own own h.before before;
  writes = writes_both write later h.own own s m n h.out out h.writes writes;
  bytes = bytes ∙ ap (λ (x : List ℕ). x ++ out) h.bytes ∙ append_assoc old h.out out;
}

begin_together : (max : ℕ) (p : Compound) (at to : ℕ) (rest : List Token) → AreTokensFrom max p at rest → AreTokensFrom max p to rest → at ≡ to
begin_together max p at to [] a b = omega (arith, a, b)
begin_together max p at to (t ∷ rest) a b = sym a.0.begins ∙ b.0.begins

goes_up : (max : ℕ) (p : Compound) (at to : ℕ) (own rest : List Token) → AreTokensFrom max p at (own ++ rest) → AreTokensFrom max p to rest → at ≤ to
goes_up max p at to [] rest h after = omega (arith, begin_together max p at to rest h after)
goes_up max p at to (t ∷ own) rest (first, more) after = omega (arith, first.begins, first.within.some, goes_up max p t.end_in_compound to own rest more after)

-- tokens up to a byte begin before it
begin_before : (max : ℕ) (p : Compound) (at to end : ℕ) (own rest : List Token) → AreTokensFrom max p at (own ++ rest) → AreTokensFrom max p to rest → to ≤ end → AllByRecursion (λ (t : Token). t.start_in_compound < end) own
begin_before max p at to end [] rest h after within = tt
begin_before max p at to end (t ∷ own) rest (first, more) after within =
    (omega (arith, first.within.some, within, goes_up max p t.end_in_compound to own rest more after), begin_before max p t.end_in_compound to end own rest more after within)

-- ---- the bytes of tokens in a row

token_and_rest : (max at : ℕ) (p : Compound) (t : Token) → IsTokenAt max p at t → token_text t ++ drop t.end_in_compound p.src.now ≡ drop at p.src.now
token_and_rest max at p t h =
    let bs = p.src.now in
    let n = t.end_in_compound - at in
    let ends : at + n ≡ t.end_in_compound = omega (arith, h.begins, h.within.some) in
    let own : token_text t ≡ take n (drop at bs) = ap (λ (q : Compound). slice_range q.src.now t.start_in_compound t.end_in_compound) h.part_of ∙ ap (λ k. slice_range bs k t.end_in_compound) h.begins in
    let back : drop t.end_in_compound bs ≡ drop n (drop at bs) = sym (drop-drop n at bs ∙ ap (λ m. drop m bs) ends) in
    ap (λ (x : List ℕ). x ++ drop t.end_in_compound bs) own ∙ ap (λ (x : List ℕ). take n (drop at bs) ++ x) back ∙ take-append-drop n (drop at bs)

text_and_rest : (write : Token → List ℕ) (max at end : ℕ) (p : Compound) (own rest : List Token) → IsWrittenBare write p → AreTokensFrom max p at (own ++ rest) → AreTokensFrom max p end rest
    → flat_map write own ++ drop end p.src.now ≡ drop at p.src.now
text_and_rest write max at end p [] rest bare all later = ap (λ n. drop n p.src.now) (sym (begin_together max p at end rest all later))
text_and_rest write max at end p (t ∷ own) rest bare (first, more) later =
    ap (λ (x : List ℕ). (x ++ flat_map write own) ++ drop end p.src.now) (bare t first.part_of) ∙ append_assoc (token_text t) (flat_map write own) (drop end p.src.now)
    ∙ ap (λ (x : List ℕ). token_text t ++ x) (text_and_rest write max t.end_in_compound end p own rest bare more later) ∙ token_and_rest max at p t first

front_is : (n : ℕ) (xs ys zs : List ℕ) → xs ++ ys ≡ zs → length xs ≡ n → xs ≡ take n zs
front_is n xs ys zs e size = sym (take_all n xs (omega (arith, size))) ∙ sym (take-append-le n xs ys (omega (arith, size))) ∙ ap (take n) e

span_text : (write : Token → List ℕ) (max at : ℕ) (p : Compound) (s : FirstFit) (span : Span) → IsUtf8 p.src.now → IsWrittenBare write p → (h : IsSpan max p at s span) → flat_map write h.own ≡ slice_range p.src.now at span.end
span_text write max at p s span utf8 bare h =
    let bs = p.src.now in
    let inside : span.end ≤ length bs = h.border.0 in
    let rest = tokens_there (length bs) max span.end p (omega arith) inside utf8 h.border in
    let both = text_and_rest write max at span.end p h.own rest.0 bare (h.tokens rest.0 rest.1) rest.1 in
    front_is (span.end - at) (flat_map write h.own) (drop span.end bs) (drop at bs) both
    (omega (arith, ap length both, length-append (flat_map write h.own) (drop span.end bs), length-drop span.end bs, length-drop at bs, inside, h.more))

-- a span more
pub some_span : (write : Token → List ℕ) (later : List ℕ) (max : ℕ) (p : Compound) (at end to : ℕ) (s : FirstFit) (old : List ℕ) (m : FirstFit) (mid new : List ℕ) (span : Span) → IsUtf8 p.src.now → IsWrittenBare write p
    → WritesSome write later max p at end to s old m mid → IsSpan max p to m span → span.end ≤ end → new ≡ mid ++ put_bytes later span.put (slice_range p.src.now to span.end) → WritesSome write later max p at end span.end s old span.after new
some_span write later max p at end to s old m mid new span utf8 bare h is within put =
    let there = tokens_there (length p.src.now) max span.end p (omega arith) is.border.0 utf8 is.border in
    some_more write later max p at end to span.end s old m span.after mid new is.own (put_bytes later span.put (flat_map write is.own)) h is.tokens (begin_before max p to span.end end is.own there.0 (is.tokens there.0 there.1) there.1 within)
    (alike_writes write later is.own m span.put span.after is.puts)
    (put ∙ ap (λ (x : List ℕ). mid ++ put_bytes later span.put x) (sym (span_text write max to p m span utf8 bare is)))

-- a token more
pub some_token : (write : Token → List ℕ) (later : List ℕ) (max : ℕ) (p : Compound) (at end to : ℕ) (s : FirstFit) (old : List ℕ) (m n : FirstFit) (mid new : List ℕ) (t : Token) (put : Put) → IsWrittenBare write p
    → WritesSome write later max p at end to s old m mid → IsTokenAt max p to t → to < end → Puts m t put n → new ≡ mid ++ put_bytes later put (slice_range p.src.now to t.end_in_compound) → WritesSome write later max p at end t.end_in_compound s old n new
some_token write later max p at end to s old m n mid new t put bare h is early puts bytes =
    let text : slice_range p.src.now to t.end_in_compound ≡ write t =
    ap (λ k. slice_range p.src.now k t.end_in_compound) (sym is.begins) ∙ ap (λ (q : Compound). slice_range q.src.now t.start_in_compound t.end_in_compound) (sym is.part_of) ∙ sym (bare t is.part_of) in
    some_more write later max p at end to t.end_in_compound s old m n mid new (t ∷ []) (put_bytes later put (write t)) h (λ rest left. (is, left)) (omega (arith, is.begins, early), tt) (put, n, [], puts, (refl, refl), sym (append-nil (put_bytes later put (write t))))
    (bytes ∙ ap (λ (x : List ℕ). mid ++ put_bytes later put x) text)

-- ---- the words of compounds as they come

-- the tokens of a compound from a byte on, and those of the compounds after it
abbrev pub AreLeft : ℕ → Compound → ℕ → List Compound → List Token → Type 0
AreLeft limit p at others more = (own : List Token) × (tail : List Token) × (more ≡ own ++ tail) × AreTokensFrom limit p at own × AreTokensOf limit others tail

-- Tokens of the compounds are in pieces that are put and written, but for those of a word that has begun; `next` are those that may come.
pub record WordsTo (write : Token → List ℕ) (later : List ℕ) (limit : ℕ) (ps : List Compound) (next : List Token → Type 0) (s : FirstFit) (old : List ℕ) (word : List Token) (width : ℕ) (wide : Bool) (n : FirstFit) (new : List ℕ) : Type 0 where
  pub tokens : List Token
  pub pieces : List Piece
  pub cut : (more : List Token) → next more → AreTokensOf limit ps (tokens ++ more)
  pub written : WritesPieces write later s pieces old n new
  pub within : AreInCompounds word
  pub width_is : width ≡ total_width word
  pub fits : width ≤ limit
  pub none_wide : wide ≡ true → word ≡ []
  pub rest : (more : List Token) → next more → pieces_of limit (tokens ++ more) ≡ pieces ++ left_pieces limit wide word more

-- before the first compound no word has begun
pub words_begin : (write : Token → List ℕ) (later : List ℕ) (limit : ℕ) (ps : List Compound) (s : FirstFit) (old : List ℕ) (word : List Token) → word ≡ [] → WordsTo write later limit ps (AreTokensOf limit ps) s old word 0 false s old
words_begin write later limit ps s old word none = subst (λ w. WordsTo write later limit ps (AreTokensOf limit ps) s old w 0 false s old) (sym none) (record {
  tokens = [];
  pieces = [];
  cut = λ more h. h;
  written = none_written write later s old;
  within = tt;
  width_is = refl;
  fits = omega arith;
  none_wide = λ e. refl;
  rest = λ more o. refl;
})

-- the tokens that may come, said in another way
words_next : (write : Token → List ℕ) (later : List ℕ) (limit : ℕ) (ps : List Compound) (next other : List Token → Type 0) (s : FirstFit) (old : List ℕ) (word : List Token) (width : ℕ) (wide : Bool) (n : FirstFit) (new : List ℕ)
    → ((more : List Token) → other more → next more) → WordsTo write later limit ps next s old word width wide n new → WordsTo write later limit ps other s old word width wide n new
words_next write later limit ps next other s old word width wide n new f h = record {
  tokens = h.tokens;
  pieces = h.pieces;
  cut = λ more o. h.cut more (f more o);
  written = h.written;
  within = h.within;
  width_is = h.width_is;
  fits = h.fits;
  none_wide = h.none_wide;
  rest = λ more o. h.rest more (f more o);
}

-- before a compound all its tokens may come, and then those of the others
pub compound_begins : (write : Token → List ℕ) (later : List ℕ) (limit : ℕ) (ps : List Compound) (i : ℕ) (d : Compound) (s : FirstFit) (old : List ℕ) (word : List Token) (width : ℕ) (wide : Bool) (n : FirstFit) (new : List ℕ) → i < length ps
    → WordsTo write later limit ps (AreTokensOf limit (drop i ps)) s old word width wide n new → WordsTo write later limit ps (AreLeft limit (get_or ps i d) 0 (drop (i + 1) ps)) s old word width wide n new
compound_begins write later limit ps i d s old word width wide n new inside h =
    let is : drop i ps ≡ get_or ps i d ∷ drop (i + 1) ps = at_drop_more (λ (qs : List Compound). qs) ps i d inside in
    words_next write later limit ps _ _ s old word width wide n new (λ more o. subst (λ (qs : List Compound). AreTokensOf limit qs more) (sym is) o) h

-- behind its last byte those of the others may come
pub compound_ends : (write : Token → List ℕ) (later : List ℕ) (limit : ℕ) (ps : List Compound) (p : Compound) (at : ℕ) (others : List Compound) (s : FirstFit) (old : List ℕ) (word : List Token) (width : ℕ) (wide : Bool) (n : FirstFit) (new : List ℕ)
    → at ≡ length p.src.now → WordsTo write later limit ps (AreLeft limit p at others) s old word width wide n new → WordsTo write later limit ps (AreTokensOf limit others) s old word width wide n new
compound_ends write later limit ps p at others s old word width wide n new end h = words_next write later limit ps _ _ s old word width wide n new (λ more o. ([], more, refl, end, o)) h

left_more : (limit : ℕ) (p : Compound) (at : ℕ) (others : List Compound) (t : Token) (more : List Token) → IsTokenAt limit p at t → AreLeft limit p t.end_in_compound others more → AreLeft limit p at others (t ∷ more)
left_more limit p at others t more is (own, tail, joins, from, of) = (t ∷ own, tail, ap (λ (l : List Token). t ∷ l) joins, (is, from), of)

some_left : (limit : ℕ) (p : Compound) (at to : ℕ) (others : List Compound) (own more : List Token) → ((rest : List Token) → AreTokensFrom limit p to rest → AreTokensFrom limit p at (own ++ rest)) → AreLeft limit p to others more → AreLeft limit p at others (own ++ more)
some_left limit p at to others own more f (rest, tail, joins, from, of) = (own ++ rest, tail, ap (λ (l : List Token). own ++ l) joins ∙ sym (append_assoc own rest tail), f rest from, of)

-- a token that the word takes in
pub word_takes : (write : Token → List ℕ) (later : List ℕ) (limit : ℕ) (ps : List Compound) (p : Compound) (at : ℕ) (others : List Compound) (t : Token) (s : FirstFit) (old : List ℕ) (word new_word : List Token) (width new_width : ℕ) (wide : Bool) (n : FirstFit) (new : List ℕ)
    → WordsTo write later limit ps (AreLeft limit p at others) s old word width wide n new → IsTokenAt limit p at t → t.blank ≡ false → wide ≡ false → t.width ≤ limit - width → new_word ≡ word ++ t ∷ [] → new_width ≡ width + t.width
    → WordsTo write later limit ps (AreLeft limit p t.end_in_compound others) s old new_word new_width wide n new
word_takes write later limit ps p at others t s old word new_word width new_width wide n new h is solid narrow fits pushed grows =
    let more_width : new_width ≡ total_width (word ++ t ∷ []) = omega (arith, grows, h.width_is, total_width-push word t) in
    subst (λ w. WordsTo write later limit ps (AreLeft limit p t.end_in_compound others) s old w new_width wide n new) (sym pushed)
    (subst (λ b. WordsTo write later limit ps (AreLeft limit p t.end_in_compound others) s old (word ++ t ∷ []) new_width b n new) (sym narrow) (record {
      tokens = h.tokens ++ t ∷ [];
      pieces = h.pieces;
      cut = λ more o. subst (AreTokensOf limit ps) (sym (append_assoc h.tokens (t ∷ []) more)) (h.cut (t ∷ more) (left_more limit p at others t more is o));
      written = h.written;
      within = all_push IsInCompound word t h.within is.within;
      width_is = more_width;
      fits = omega (arith, grows, fits, h.fits);
      none_wide = λ e. absurd (cc);
      rest = λ more o.
          ap (pieces_of limit) (append_assoc h.tokens (t ∷ []) more) ∙ h.rest (t ∷ more) (left_more limit p at others t more is o) ∙ ap (λ b. h.pieces ++ left_pieces limit b word (t ∷ more)) narrow
          ∙ ap (λ qs. h.pieces ++ qs) (after_solid limit word more t solid);
    }))

-- a blank token
left_blank : (limit : ℕ) (wide : Bool) (word more : List Token) (t : Token) → total_width word ≤ limit → (wide ≡ true → word ≡ []) → t.blank ≡ true → left_pieces limit wide word (t ∷ more) ≡ together word ++ (alone t ∷ pieces_after limit [] more)
left_blank limit false word more t fits none e = after_blank limit word more t e ∙ ap (λ l. l ++ (alone t ∷ pieces_after limit [] more)) (word_fits limit word fits)
left_blank limit true word more t fits none e = wide_blank limit more t e ∙ ap (λ w. together w ++ (alone t ∷ pieces_after limit [] more)) (sym (none refl))

-- The word is wider than the limit with this token; or it begins with it, and the token ends before its compound does.
abbrev pub StopsWord : ℕ → List Token → ℕ → Token → Type 0
StopsWord limit word width t = (limit - width < t.width) ⊎ ((word ≡ []) × (t.end_in_compound ≢ length t.compound.src.now))

stopped_by : (limit : ℕ) (ps : List Compound) (ts word more : List Token) (width : ℕ) (t : Token) → width ≡ total_width word → AreTokensOf limit ps (ts ++ (t ∷ more)) → t.blank ≡ false → StopsWord limit word width t
    → pieces_after limit (word ++ t ∷ []) more ≡ map alone word ++ (alone t ∷ wide_pieces limit more)
stopped_by limit ps ts word more width t is tokens solid (inl over) = after_wide limit (word ++ t ∷ []) more (omega (arith, is, over, total_width-push word t)) ∙ alone_push word t (wide_pieces limit more)
stopped_by limit ps ts word more width t is tokens solid (inr (none, inside)) =
    ap (λ w. pieces_after limit (w ++ t ∷ []) more) none ∙ lone_pieces limit ps ts more t tokens solid inside ∙ ap (λ w. map alone w ++ (alone t ∷ wide_pieces limit more)) (sym none)

-- a token with which the word can't go on
left_solid : (limit : ℕ) (ps : List Compound) (ts : List Token) (width : ℕ) (wide : Bool) (word more : List Token) (t : Token) → width ≡ total_width word → (wide ≡ true → word ≡ []) → (wide ≡ false → StopsWord limit word width t)
    → AreTokensOf limit ps (ts ++ (t ∷ more)) → t.blank ≡ false → left_pieces limit wide word (t ∷ more) ≡ map alone word ++ (alone t ∷ wide_pieces limit more)
left_solid limit ps ts width false word more t is none over tokens e = after_solid limit word more t e ∙ stopped_by limit ps ts word more width t is tokens e (over refl)
left_solid limit ps ts width true word more t is none over tokens e = wide_solid limit more t e ∙ ap (λ w. map alone w ++ (alone t ∷ wide_pieces limit more)) (sym (none refl))

-- a token that is put alone, after those of the word
left_put : (limit : ℕ) (ps : List Compound) (ts : List Token) (width : ℕ) (wide : Bool) (word more : List Token) (t : Token) (b : Bool) → t.blank ≡ b → width ≡ total_width word → width ≤ limit → (wide ≡ true → word ≡ [])
    → (t.blank ≡ false → wide ≡ false → StopsWord limit word width t) → AreTokensOf limit ps (ts ++ (t ∷ more))
    → left_pieces limit wide word (t ∷ more) ≡ (if b then together word else map alone word) ++ (alone t ∷ left_pieces limit (not b) [] more)
left_put limit ps ts width wide word more t true e is fits none over tokens = left_blank limit wide word more t (omega (arith, is, fits)) none e
left_put limit ps ts width wide word more t false e is fits none over tokens = left_solid limit ps ts width wide word more t is none (over e) tokens e

-- a token that the word can't take in is put after it; before a blank one the word is put whole, and else token by token
pub word_puts : (write : Token → List ℕ) (later : List ℕ) (limit : ℕ) (ps : List Compound) (p : Compound) (at : ℕ) (others : List Compound) (t : Token) (s : FirstFit) (old : List ℕ) (word new_word : List Token) (width new_width : ℕ) (wide new_wide : Bool)
    (m k n : FirstFit) (mid mid' new : List ℕ) → WordsTo write later limit ps (AreLeft limit p at others) s old word width wide m mid → IsTokenAt limit p at t → (t.blank ≡ false → wide ≡ false → StopsWord limit word width t)
    → WritesPieces write later m (if t.blank then together word else map alone word) mid k mid' → WritesPieces write later k (together (t ∷ [])) mid' n new → new_word ≡ [] → new_width ≡ 0 → new_wide ≡ not t.blank
    → WordsTo write later limit ps (AreLeft limit p t.end_in_compound others) s old new_word new_width new_wide n new
word_puts write later limit ps p at others t s old word new_word width new_width wide new_wide m k n mid mid' new h is over begun put none zero loose =
    let front : List Piece = if t.blank then together word else map alone word in
    let next = AreLeft limit p t.end_in_compound others in
    subst (λ w. WordsTo write later limit ps next s old w new_width new_wide n new) (sym none) (
    subst (λ x. WordsTo write later limit ps next s old [] x new_wide n new) (sym zero) (
    subst (λ b. WordsTo write later limit ps next s old [] 0 b n new) (sym loose) (record {
      tokens = h.tokens ++ t ∷ [];
      pieces = h.pieces ++ (front ++ alone t ∷ []);
      cut = λ more o. subst (AreTokensOf limit ps) (sym (append_assoc h.tokens (t ∷ []) more)) (h.cut (t ∷ more) (left_more limit p at others t more is o));
      written = both_written write later h.pieces (front ++ alone t ∷ []) s m n old mid new h.written (both_written write later front (alone t ∷ []) m k n mid mid' new begun put);
      within = tt;
      width_is = refl;
      fits = omega arith;
      none_wide = λ e. refl;
      rest = λ more o.
          let before = left_more limit p at others t more is o in
          ap (pieces_of limit) (append_assoc h.tokens (t ∷ []) more) ∙ h.rest (t ∷ more) before
          ∙ ap (λ qs. h.pieces ++ qs) (left_put limit ps h.tokens width wide word more t t.blank refl h.width_is h.fits h.none_wide over (h.cut (t ∷ more) before))
          ∙ ap (λ l. h.pieces ++ l) (sym (append_assoc front (alone t ∷ []) (left_pieces limit (not t.blank) [] more))) ∙ sym (append_assoc h.pieces (front ++ alone t ∷ []) (left_pieces limit (not t.blank) [] more));
    })))

-- whether a word goes on after these tokens
loose_after : Bool → List Token → Bool
loose_after wide [] = wide
loose_after wide (t ∷ own) = loose_after (not t.blank) own

-- a token that isn't blank ends before its compound does
abbrev EndsInside : Token → Type 0
EndsInside t = t.blank ≡ false → t.end_in_compound ≢ length t.compound.src.now

left_alone : (limit : ℕ) (ps : List Compound) (ts more : List Token) (wide : Bool) (t : Token) (b : Bool) → t.blank ≡ b → EndsInside t → AreTokensOf limit ps (ts ++ (t ∷ more)) → left_pieces limit wide [] (t ∷ more) ≡ alone t ∷ left_pieces limit (not b) [] more
left_alone limit ps ts more wide t true e inside tokens = left_put limit ps ts 0 wide [] more t true e refl (omega arith) (λ n. refl) (λ solid narrow. inr (refl, inside solid)) tokens
left_alone limit ps ts more wide t false e inside tokens = left_put limit ps ts 0 wide [] more t false e refl (omega arith) (λ n. refl) (λ solid narrow. inr (refl, inside solid)) tokens

alone_left : (limit : ℕ) (ps : List Compound) (own ts more : List Token) (wide : Bool) → AllByRecursion EndsInside own → AreTokensOf limit ps (ts ++ (own ++ more)) → left_pieces limit wide [] (own ++ more) ≡ map alone own ++ left_pieces limit (loose_after wide own) [] more
unfolding loose_after
alone_left limit ps [] ts more wide all tokens = refl
alone_left limit ps (t ∷ own) ts more wide all tokens =
    left_alone limit ps ts (own ++ more) wide t t.blank refl all.0 tokens ∙ ap (λ l. alone t ∷ l) (alone_left limit ps own (ts ++ t ∷ []) more (not t.blank) all.1 (subst (AreTokensOf limit ps) (sym (append_assoc ts (t ∷ []) (own ++ more))) tokens))

-- tokens that begin before the last word of their compound, up to there
front_inside : (write : Token → List ℕ) (max : ℕ) (p : Compound) (at end : ℕ) (own rest : List Token) → HasLastWord write p end → 0 < end → AreTokensFrom max p at (own ++ rest) → AllByRecursion (λ (t : Token). t.start_in_compound < end) own → AllByRecursion EndsInside own
front_inside write max p at end [] rest last some h before = tt
front_inside write max p at end (t ∷ own) rest last some (first, more) (early, others) = (
  λ solid ends. absurd (let both : true ≡ false = sym (blank_with max at p t (end - 1) first last.uncoded (omega (arith, first.begins, early)) (omega (arith, ends, some, last.inside, ap (λ (q : Compound). length q.src.now) first.part_of)) last.space) ∙ solid in cc),
  front_inside write max p t.end_in_compound end own rest last some more others,
)

none_after : (max : ℕ) (p : Compound) (at end : ℕ) (own rest : List Token) → end ≤ at → AreTokensFrom max p at (own ++ rest) → AllByRecursion (λ (t : Token). t.start_in_compound < end) own → own ≡ []
none_after max p at end [] rest past h before = refl
none_after max p at end (t ∷ own) rest past (first, more) (early, others) = absurd (omega (arith, past, first.begins, early))

front_blank : (write : Token → List ℕ) (max : ℕ) (p : Compound) (at end to : ℕ) (own rest : List Token) (wide : Bool) → HasLastWord write p end → at < end → end ≤ to → AreTokensFrom max p at (own ++ rest) → AreTokensFrom max p to rest
    → AllByRecursion (λ (t : Token). t.start_in_compound < end) own → loose_after wide own ≡ false
unfolding loose_after
front_blank write max p at end to [] rest wide last early past h after before = absurd (omega (arith, early, past, begin_together max p at to rest h after))
front_blank write max p at end to (t ∷ own) rest wide last early past (first, more) after (here, others) =
    elim (cases_lt t.end_in_compound end) as (λ _. loose_after (not t.blank) own ≡ false) [
      | inl on ↦ front_blank write max p t.end_in_compound end to own rest (not t.blank) last on past more after others
      | inr there ↦
          let blank : t.blank ≡ true = blank_with max at p t (end - 1) first last.uncoded (omega (arith, early)) (omega (arith, early, there)) last.space in
          let none : own ≡ [] = none_after max p t.end_in_compound end own rest there more others in
          ap (λ (l : List Token). loose_after (not t.blank) l) none ∙ ap not blank
    ]

-- those tokens are put, each alone
words_front : (write : Token → List ℕ) (later : List ℕ) (limit : ℕ) (ps : List Compound) (p : Compound) (at end to : ℕ) (others : List Compound) (s : FirstFit) (old : List ℕ) (word : List Token) (width : ℕ) (wide : Bool) (m n : FirstFit) (mid new : List ℕ) → IsUtf8 p.src.now → IsCharBoundary p.src.now to → HasLastWord write p end
    → at < end → end ≤ to → word ≡ [] → wide ≡ false → WordsTo write later limit ps (AreLeft limit p at others) s old word width wide m mid → WritesSome write later limit p at end to m mid n new
    → WordsTo write later limit ps (AreLeft limit p to others) s old word width wide n new
words_front write later limit ps p at end to others s old word width wide m n mid new utf8 border last early past empty narrow h own =
    let there = tokens_there (length p.src.now) limit to p (omega arith) border.0 utf8 border in
    let all = own.tokens there.0 there.1 in
    let inside = front_inside write limit p at end own.own there.0 last (omega (arith, early)) all own.before in
    let blank : loose_after false own.own ≡ false = front_blank write limit p at end to own.own there.0 false last early past all there.1 own.before in
    let some : List Token = own.own in
    record {
      tokens = h.tokens ++ some;
      pieces = h.pieces ++ map alone some;
      cut = λ more o. subst (AreTokensOf limit ps) (sym (append_assoc h.tokens some more)) (h.cut (some ++ more) (some_left limit p at to others some more own.tokens o));
      written = both_written write later h.pieces (map alone some) s m n old mid new h.written (own.out, alone_out write later some m n own.out own.writes, own.bytes);
      within = h.within;
      width_is = h.width_is;
      fits = h.fits;
      none_wide = h.none_wide;
      rest = λ more o.
          let before = some_left limit p at to others some more own.tokens o in
          let whole = h.cut (some ++ more) before in
          ap (pieces_of limit) (append_assoc h.tokens some more) ∙ h.rest (some ++ more) before
          ∙ ap (λ w. h.pieces ++ left_pieces limit wide w (some ++ more)) empty ∙ ap (λ b. h.pieces ++ left_pieces limit b [] (some ++ more)) narrow
          ∙ ap (λ l. h.pieces ++ l) (alone_left limit ps some h.tokens more false inside whole)
          ∙ ap (λ b. h.pieces ++ (map alone some ++ left_pieces limit b [] more)) (blank ∙ sym narrow) ∙ ap (λ w. h.pieces ++ (map alone some ++ left_pieces limit wide w more)) (sym empty)
          ∙ sym (append_assoc h.pieces (map alone some) (left_pieces limit wide word more));
    }

-- ---- a compound up to its end, where no word goes on after it

lone_word : (limit : ℕ) (t : Token) (b : Bool) → nat_le (total_width (t ∷ [])) limit ≡ b → word_pieces limit (t ∷ []) ≡ alone t ∷ []
lone_word limit t true e = ap (λ x. if x then together (t ∷ []) else map alone (t ∷ [])) e
lone_word limit t false e = ap (λ x. if x then together (t ∷ []) else map alone (t ∷ [])) e

-- a blank token comes first, or none
abbrev pub BlankFirst : List Token → Type 0
BlankFirst [] = Unit {0}
BlankFirst (t ∷ ts) = t.blank ≡ true

blank_next : (limit : ℕ) (u : Token) (more : List Token) → u.blank ≡ true → left_pieces limit false [] (u ∷ more) ≡ alone u ∷ pieces_after limit [] more
blank_next limit u more e = left_blank limit false [] more u (omega arith) (λ n. refl) e

blank_either : (limit : ℕ) (more : List Token) → BlankFirst more → left_pieces limit true [] more ≡ left_pieces limit false [] more
blank_either limit [] first = sym (word_fits limit [] (omega arith))
blank_either limit (u ∷ more) first = wide_blank limit more u first ∙ sym (blank_next limit u more first)

after_lone : (limit : ℕ) (t : Token) (more : List Token) → BlankFirst more → pieces_after limit (t ∷ []) more ≡ alone t ∷ left_pieces limit false [] more
after_lone limit t [] first = lone_word limit t _ refl ∙ ap (λ l. alone t ∷ l) (sym (word_fits limit [] (omega arith)))
after_lone limit t (u ∷ more) first = after_blank limit (t ∷ []) more u first ∙ ap (λ l. l ++ (alone u ∷ pieces_after limit [] more)) (lone_word limit t _ refl) ∙ ap (λ l. alone t ∷ l) (sym (blank_next limit u more first))

last_before : (limit : ℕ) (t : Token) (more : List Token) (wide b : Bool) → t.blank ≡ b → BlankFirst more → left_pieces limit wide [] (t ∷ more) ≡ alone t ∷ left_pieces limit false [] more
last_before limit t more wide true e first = left_blank limit wide [] more t (omega arith) (λ n. refl) e
last_before limit t more true false e first = wide_solid limit more t e ∙ ap (λ l. alone t ∷ l) (blank_either limit more first)
last_before limit t more false false e first = after_solid limit [] more t e ∙ after_lone limit t more first

none_before : (limit : ℕ) (more : List Token) (wide : Bool) → BlankFirst more → left_pieces limit wide [] more ≡ left_pieces limit false [] more
none_before limit more true first = blank_either limit more first
none_before limit more false first = refl

whole_left : (limit : ℕ) (ps : List Compound) (p : Compound) (at : ℕ) (own ts more : List Token) (wide : Bool) → AreTokensFrom limit p at own → AreTokensOf limit ps (ts ++ (own ++ more)) → BlankFirst more
    → left_pieces limit wide [] (own ++ more) ≡ map alone own ++ left_pieces limit false [] more
whole_left limit ps p at [] ts more wide from tokens first = none_before limit more wide first
whole_left limit ps p at (t ∷ []) ts more wide from tokens first = last_before limit t more wide t.blank refl first
whole_left limit ps p at (t ∷ u ∷ own) ts more wide from tokens first =
    let next : IsTokenAt limit p t.end_in_compound u = from.1.0 in
    let inside : EndsInside t = λ solid ends. absurd (omega (arith, ends, next.begins, next.within.some, next.within.end.0, ap (λ (q : Compound). length q.src.now) from.0.part_of, ap (λ (q : Compound). length q.src.now) next.part_of)) in
    left_alone limit ps ts ((u ∷ own) ++ more) wide t t.blank refl inside tokens
    ∙ ap (λ l. alone t ∷ l) (whole_left limit ps p t.end_in_compound (u ∷ own) (ts ++ t ∷ []) more (not t.blank) from.1 (subst (AreTokensOf limit ps) (sym (append_assoc ts (t ∷ []) ((u ∷ own) ++ more))) tokens) first)

first_blank : (limit : ℕ) (q : Compound) (own tail : List Token) → BeginsBlank q → AreTokensFrom limit q 0 own → BlankFirst (own ++ tail)
first_blank limit q [] tail begins from = absurd (omega (arith, from, begins.some))
first_blank limit q (t ∷ own) tail begins from = blank_with limit 0 q t 0 from.0 begins.uncoded (omega arith) (omega (arith, from.0.begins, from.0.within.some)) begins.space

blank_comes : (limit : ℕ) (others : List Compound) (more : List Token) → BlankNext others → AreTokensOf limit others more → BlankFirst more
blank_comes limit [] more next none = subst BlankFirst (sym none) tt
blank_comes limit (q ∷ others) more next (own, tail, joins, from, of) = subst BlankFirst (sym joins) (first_blank limit q own tail next from)

at_end : (limit : ℕ) (p : Compound) (to : ℕ) (own : List Token) → to ≡ length p.src.now → AreTokensFrom limit p to own → own ≡ []
at_end limit p to [] end from = refl
at_end limit p to (t ∷ own) end (first, more) = absurd (omega (arith, end, first.begins, first.within.some, first.within.end.0, ap (λ (q : Compound). length q.src.now) first.part_of))

blank_left : (limit : ℕ) (p : Compound) (to : ℕ) (others : List Compound) (more : List Token) → to ≡ length p.src.now → BlankNext others → AreLeft limit p to others more → BlankFirst more
blank_left limit p to others more end next (own, tail, joins, from, of) = subst BlankFirst (sym (joins ∙ ap (λ (l : List Token). l ++ tail) (at_end limit p to own end from))) (blank_comes limit others tail next of)

words_whole : (write : Token → List ℕ) (later : List ℕ) (limit : ℕ) (ps : List Compound) (p : Compound) (at end to : ℕ) (others : List Compound) (s : FirstFit) (old : List ℕ) (word : List Token) (width : ℕ) (wide : Bool) (m n : FirstFit) (mid new : List ℕ)
    → to ≡ length p.src.now → BlankNext others → word ≡ [] → wide ≡ false → WordsTo write later limit ps (AreLeft limit p at others) s old word width wide m mid → WritesSome write later limit p at end to m mid n new
    → WordsTo write later limit ps (AreLeft limit p to others) s old word width wide n new
words_whole write later limit ps p at end to others s old word width wide m n mid new ends next empty narrow h own =
    let some : List Token = own.own in
    let from = subst (AreTokensFrom limit p at) (append-nil some) (own.tokens [] ends) in
    record {
      tokens = h.tokens ++ some;
      pieces = h.pieces ++ map alone some;
      cut = λ more o. subst (AreTokensOf limit ps) (sym (append_assoc h.tokens some more)) (h.cut (some ++ more) (some_left limit p at to others some more own.tokens o));
      written = both_written write later h.pieces (map alone some) s m n old mid new h.written (own.out, alone_out write later some m n own.out own.writes, own.bytes);
      within = h.within;
      width_is = h.width_is;
      fits = h.fits;
      none_wide = h.none_wide;
      rest = λ more o.
          let before = some_left limit p at to others some more own.tokens o in
          let whole = h.cut (some ++ more) before in
          ap (pieces_of limit) (append_assoc h.tokens some more) ∙ h.rest (some ++ more) before
          ∙ ap (λ w. h.pieces ++ left_pieces limit wide w (some ++ more)) empty ∙ ap (λ b. h.pieces ++ left_pieces limit b [] (some ++ more)) narrow
          ∙ ap (λ l. h.pieces ++ l) (whole_left limit ps p at some h.tokens more false from whole (blank_left limit p to others more ends next o))
          ∙ ap (λ b. h.pieces ++ (map alone some ++ left_pieces limit b [] more)) (sym narrow) ∙ ap (λ w. h.pieces ++ (map alone some ++ left_pieces limit wide w more)) (sym empty)
          ∙ sym (append_assoc h.pieces (map alone some) (left_pieces limit wide word more));
    }

-- the one or the other
pub words_quick : (write : Token → List ℕ) (later : List ℕ) (limit : ℕ) (ps : List Compound) (p : Compound) (at end to : ℕ) (others : List Compound) (s : FirstFit) (old : List ℕ) (word : List Token) (width : ℕ) (wide : Bool) (m n : FirstFit) (mid new : List ℕ) → IsUtf8 p.src.now → IsCharBoundary p.src.now to
    → IsQuickTo write p others end → at < end → end ≤ to → word ≡ [] → wide ≡ false → WordsTo write later limit ps (AreLeft limit p at others) s old word width wide m mid → WritesSome write later limit p at end to m mid n new
    → WordsTo write later limit ps (AreLeft limit p to others) s old word width wide n new
words_quick write later limit ps p at end to others s old word width wide m n mid new utf8 border (inl last) early past empty narrow h own = words_front write later limit ps p at end to others s old word width wide m n mid new utf8 border last early past empty narrow h own
words_quick write later limit ps p at end to others s old word width wide m n mid new utf8 border (inr (ends, bare, next)) early past empty narrow h own =
    words_whole write later limit ps p at end to others s old word width wide m n mid new (omega (arith, ends, past, border.0)) next empty narrow h own

-- each token of such a compound is written as it is
pub quick_bare : (write : Token → List ℕ) (p : Compound) (others : List Compound) (end : ℕ) → IsQuickTo write p others end → IsWrittenBare write p
quick_bare write p others end (inl last) = last.bare
quick_bare write p others end (inr (ends, bare, next)) = bare

-- the byte up to which its tokens are put alone is within it
pub quick_inside : (write : Token → List ℕ) (p : Compound) (others : List Compound) (end : ℕ) → IsQuickTo write p others end → end ≤ length p.src.now
quick_inside write p others end (inl last) = last.inside
quick_inside write p others end (inr (ends, bare, next)) = omega (arith, ends)

-- the last word
left_end : (limit : ℕ) (wide : Bool) (word : List Token) → total_width word ≤ limit → (wide ≡ true → word ≡ []) → left_pieces limit wide word [] ≡ together word
left_end limit false word fits none = word_fits limit word fits
left_end limit true word fits none = ap together (sym (none refl))

-- after the last compound the word that is left is put, and all words are written
pub words_end : (write : Token → List ℕ) (later : List ℕ) (limit : ℕ) (ps : List Compound) (i : ℕ) (s : FirstFit) (old : List ℕ) (word : List Token) (width : ℕ) (wide : Bool) (m n : FirstFit) (mid new : List ℕ) → length ps ≤ i
    → WordsTo write later limit ps (AreTokensOf limit (drop i ps)) s old word width wide m mid → WritesPieces write later m (together word) mid n new → WritesWords write later limit ps s old new
words_end write later limit ps i s old word width wide m n mid new past h put =
    let none = subst (λ (qs : List Compound). AreTokensOf limit qs []) (sym (drop_all i ps past)) refl in
    let cut = h.cut [] none in
    let all : h.pieces ++ together word ≡ pieces_of limit h.tokens =
    sym (ap (λ l. h.pieces ++ l) (left_end limit wide word (omega (arith, h.width_is, h.fits)) h.none_wide)) ∙ sym (h.rest [] none) ∙ ap (pieces_of limit) (append-nil h.tokens) in
    record {
      tokens = h.tokens;
      cut = subst (AreTokensOf limit ps) (append-nil h.tokens) cut;
      after = n;
      written = subst (λ (qs : List Piece). WritesPieces write later s qs old n new) all (both_written write later h.pieces (together word) s m n old mid new h.written put);
    }

-- ---- a single compound

single_from : (limit : ℕ) (p : Compound) (ts : List Token) → AreTokensOf limit (p ∷ []) ts → pieces_of limit ts ≡ map alone ts
single_from limit p ts (own, tail, joins, from, none) =
    let same : ts ≡ own = joins ∙ ap (λ (l : List Token). own ++ l) none ∙ append-nil own in
    let tokens : AreTokensOf limit (p ∷ []) own = (own, [], sym (append-nil own), from, refl) in
    ap (pieces_of limit) same ∙ (sym (ap (pieces_of limit) (append-nil own)) ∙ whole_left limit (p ∷ []) p 0 own [] [] false from (subst (AreTokensOf limit (p ∷ [])) (sym (append-nil own)) tokens) tt
    ∙ ap (λ l. map alone own ++ l) (word_fits limit [] (omega arith)) ∙ append-nil (map alone own)) ∙ ap (map alone) (sym same)

single_pieces : (limit : ℕ) (ps : List Compound) (ts : List Token) → length ps ≡ 1 → AreTokensOf limit ps ts → pieces_of limit ts ≡ map alone ts
single_pieces limit [] ts one h = absurd (omega (arith, one))
single_pieces limit (p ∷ []) ts one h = single_from limit p ts h
single_pieces limit (p ∷ q ∷ ps) ts one h = absurd (omega (arith, one))

-- its pieces are its tokens
pub single_words : (write : Token → List ℕ) (later : List ℕ) (limit : ℕ) (ps : List Compound) (s n : FirstFit) (old new : List ℕ) → length ps ≡ 1 → WritesBefore write later limit ps [] s old n new → WritesWords write later limit ps s old new
single_words write later limit ps s n old new one h =
    let cut = subst (AreTokensOf limit ps) (append-nil h.own) (h.tokens [] refl) in
    record {
      tokens = h.own;
      cut = cut;
      after = n;
      written = subst (λ (qs : List Piece). WritesPieces write later s qs old n new) (sym (single_pieces limit ps h.own one cut)) (h.out, alone_out write later h.own s n h.out h.writes, h.bytes);
    }

-- ---- the whole wrap

-- what is in front, the words and a newline are the written wrap of a composite, with whole words
pub word_wrap_written : (front : CompositeFront) (r : Room) (ps : List Compound) (limit : ℕ) (later : List ℕ) (s : FirstFit) (old mid end new : List ℕ) → limit ≡ token_limit r → s ≡ at_first r → later ≡ front_bytes (later_front front)
    → mid ≡ old ++ front_bytes front → WritesWords (token_bytes front.skin.now front.style.now) later limit ps s mid end → new ≡ end ++ 10 ∷ [] → WritesWordWrap front r ps old new
word_wrap_written front r ps limit later s old mid end new limit_is first later_is begun h put =
    let write : Token → List ℕ = token_bytes front.skin.now front.style.now in
    let before : List ℕ = front_bytes front in
    let out : List ℕ = h.written.0 in
    record {
      tokens = h.tokens;
      cut = subst (λ k. AreTokensOf k ps h.tokens) limit_is h.cut;
      after = h.after;
      out = out;
      writes = subst (λ (b : List ℕ). PiecesOut write b (at_first r) (pieces_of (token_limit r) h.tokens) h.after out) later_is
          (subst (λ (x : FirstFit). PiecesOut write later x (pieces_of (token_limit r) h.tokens) h.after out) first (subst (λ k. PiecesOut write later s (pieces_of k h.tokens) h.after out) limit_is h.written.1));
      bytes = put ∙ ap (λ (x : List ℕ). x ++ 10 ∷ []) (h.written.2 ∙ ap (λ (x : List ℕ). x ++ out) begun ∙ append_assoc old before out) ∙ append_assoc old (before ++ out) (10 ∷ []) ∙ ap (λ (x : List ℕ). old ++ x) (append_assoc before out (10 ∷ []));
    }

-- ---- where the loop is

-- the tokens of the word are put and written, if there are any, and it is empty
pub record IsBegun (write : Token → List ℕ) (later : List ℕ) (s : FirstFit) (word : List Token) (ended : Bool) (old : List ℕ) (n : FirstFit) (new : List ℕ) (new_word : List Token) (new_width : ℕ) : Type 0 where
  pub written : WritesPieces write later s (if ended then together word else map alone word) old n new
  pub none : new_word ≡ []
  pub zero : new_width ≡ 0

none_at_all : (write : Token → List ℕ) (later : List ℕ) (s n : FirstFit) (b : Bool) (old new : List ℕ) → n ≡ s → new ≡ old → WritesPieces write later s (if b then together [] else map alone []) old n new
none_at_all write later s n true old new same bytes = ([], (same, refl), bytes ∙ sym (append-nil old))
none_at_all write later s n false old new same bytes = ([], (same, refl), bytes ∙ sym (append-nil old))

-- without a word nothing is put
pub none_begun : (write : Token → List ℕ) (later : List ℕ) (s n : FirstFit) (b : Bool) (old new : List ℕ) (word new_word : List Token) (width new_width : ℕ) → word ≡ [] → width ≡ total_width word → n ≡ s → new ≡ old → new_word ≡ word → new_width ≡ width
    → IsBegun write later s word b old n new new_word new_width
none_begun write later s n b old new [] new_word width new_width none is same bytes same_word same_width = record { written = none_at_all write later s n b old new same bytes; none = same_word; zero = same_width ∙ is }
none_begun write later s n b old new (x ∷ word) new_word width new_width none is same bytes same_word same_width = absurd (cc)
