-- Tokens that are written where first fit puts them are the rows of their lines.
use Rattle.std.proofs.Common.{◌≡◌, ℕ, ◌≤◌, ◌+◌, ◌-◌, List, [], ◌∷◌, ◌++◌, length, take, drop, slice_range, refl, sym, ap, ◌∙◌, subst, arith, append-nil, append_assoc}
use Rattle.std.specs.List.{flat_map}
use Rattle.std.specs.Str.{IsUtf8}
use Rattle.std.proofs.lemmas.List.Concat.{flat_map-append}
use Rattle.std.proofs.lemmas.List.{take-append-drop, drop-drop, length-append, length-drop, take-append-le, take_all}
use Rattle.mad_md.specs.declared.compound.Compound.{Compound}
use Rattle.mad_measure.specs.Tokens.{IsTokenAt, AreTokensFrom, AreTokensOf, token_text}
use Rattle.mad_measure.specs.declared.tokens.Token.{Token}
use Rattle.mad_measure.proofs.ExistLemmas.{tokens_there}
use Rattle.mad_wrap.specs.Breaks.{LineAndGap}
use Rattle.mad_wrap.specs.FirstFit.{Puts, at_first}
use Rattle.mad_wrap.specs.Placings.{IsFirstFit}
use Rattle.mad_wrap.specs.Spans.{PutsOnLine, PutsAlike, IsSpan}
use Rattle.mad_wrap.specs.Writings.{put_bytes, IsWrittenBare, Writes, WritesUpTo, WritesBefore, open_rows, AreRows}
use Rattle.mad_wrap.specs.declared.first_fit.FirstFit.{FirstFit}
use Rattle.mad_wrap.specs.declared.first_fit.Put.{Put}
use Rattle.mad_wrap.specs.declared.first_fit.Put.TheVariants.{OnLine, OnNext, InGap}
use Rattle.mad_wrap.specs.declared.room.Room.{Room}
use Rattle.mad_wrap.specs.declared.spans.Span.{Span}
use Rattle.mad_wrap.proofs.SpanSteps.{Lines, lines_start, lines_end, line_takes, line_ends, line_begins, in_gap_alone}

-- ---- tokens one after the other

-- those of a list, and then those of another
pub writes_both : (write : Token → List ℕ) (later : List ℕ) (ts us : List Token) (s m n : FirstFit) (a b : List ℕ) → Writes write later s ts m a → Writes write later m us n b → Writes write later s (ts ++ us) n (a ++ b)
writes_both write later [] us s m n a b (same, none) h = subst (λ (x : List ℕ). Writes write later s us n (x ++ b)) (sym none) (subst (λ (x : FirstFit). Writes write later x us n b) same h)
writes_both write later (t ∷ ts) us s m n a b (put, k, rest, first, more, is) h =
    (put, k, rest ++ b, first, writes_both write later ts us k m n rest b more h, ap (λ (x : List ℕ). x ++ b) is ∙ append_assoc (put_bytes later put (write t)) rest b)

on_line_writes : (write : Token → List ℕ) (later : List ℕ) (own : List Token) (s n : FirstFit) → PutsOnLine s own n → Writes write later s own n (flat_map write own)
on_line_writes write later [] s n same = (same, refl)
on_line_writes write later (t ∷ own) s n (m, put, more) = (OnLine, m, flat_map write own, put, on_line_writes write later own m n more, refl)

-- tokens that are put alike are written as one text
pub alike_writes : (write : Token → List ℕ) (later : List ℕ) (own : List Token) (s : FirstFit) (put : Put) (n : FirstFit) → PutsAlike s own put n → Writes write later s own n (put_bytes later put (flat_map write own))
alike_writes write later [] s put n h = absurd h
alike_writes write later (t ∷ own) s OnLine n (m, first, more) = (OnLine, m, flat_map write own, first, on_line_writes write later own m n more, refl)
alike_writes write later (t ∷ own) s OnNext n (m, first, more) =
    (OnNext, m, flat_map write own, first, on_line_writes write later own m n more, ap (λ (x : List ℕ). 10 ∷ x) (sym (append_assoc later (write t) (flat_map write own))))
alike_writes write later (t ∷ own) s InGap n (m, first, more) =
    let alone = in_gap_alone own m n (ap (λ (x : FirstFit). x.ended) first.2) more in
    (InGap, m, [], first, subst (λ (x : List Token). Writes write later m x n []) (sym alone.0) (alone.1, refl), refl)

-- ---- rows

row_grows : (write : Token → List ℕ) (later : List ℕ) (b : List (LineAndGap Token)) (l : List Token) (t : Token) → open_rows write later b (l ++ t ∷ []) ≡ open_rows write later b l ++ write t
row_grows write later [] l t = flat_map-append write l (t ∷ []) ∙ ap (λ (x : List ℕ). flat_map write l ++ x) (append-nil (write t))
row_grows write later (p ∷ b) l t =
    let front = flat_map write p.line in
    let rest = open_rows write later b l in
    ap (λ (x : List ℕ). front ++ (10 ∷ (later ++ x))) (row_grows write later b l t) ∙ ap (λ (x : List ℕ). front ++ (10 ∷ x)) (sym (append_assoc later rest (write t))) ∙ sym (append_assoc front (10 ∷ (later ++ rest)) (write t))

row_begins : (write : Token → List ℕ) (later : List ℕ) (b : List (LineAndGap Token)) (l g : List Token) (t : Token)
    → open_rows write later (b ++ record { line = l; gap = g } ∷ []) (t ∷ []) ≡ open_rows write later b l ++ (10 ∷ (later ++ write t))
row_begins write later [] l g t = ap (λ (x : List ℕ). flat_map write l ++ (10 ∷ (later ++ x))) (append-nil (write t))
row_begins write later (p ∷ b) l g t =
    let front = flat_map write p.line in
    let rest = open_rows write later b l in
    let own = 10 ∷ (later ++ write t) in
    ap (λ (x : List ℕ). front ++ (10 ∷ (later ++ x))) (row_begins write later b l g t) ∙ ap (λ (x : List ℕ). front ++ (10 ∷ x)) (sym (append_assoc later rest own)) ∙ sym (append_assoc front (10 ∷ (later ++ rest)) own)

-- a token more was written, and the tokens after it
row_step : (write : Token → List ℕ) (later : List ℕ) (r : Room) (ts us : List Token) (t : Token) (before after own rest out : List ℕ) → after ≡ before ++ own → out ≡ own ++ rest
    → AreRows write later r ((ts ++ t ∷ []) ++ us) (after ++ rest) → AreRows write later r (ts ++ t ∷ us) (before ++ out)
row_step write later r ts us t before after own rest out grown is h =
    let bytes : after ++ rest ≡ before ++ out = ap (λ (x : List ℕ). x ++ rest) grown ∙ append_assoc before own rest ∙ ap (λ (x : List ℕ). before ++ x) (sym is) in
    subst (AreRows write later r (ts ++ t ∷ us)) bytes (subst (λ (x : List Token). AreRows write later r x (after ++ rest)) (append_assoc ts (t ∷ []) us) h)

rows_from : (write : Token → List ℕ) (later : List ℕ) (us : List Token) (b : List (LineAndGap Token)) (l g : List Token) (r : Room) (ts : List Token) (s n : FirstFit) (out : List ℕ) → Lines b l g r ts s → Writes write later s us n out
    → AreRows write later r (ts ++ us) (open_rows write later b l ++ out)
rows_from write later [] b l g r ts s n out h (same, none) = record {
  breaks = b;
  line = l;
  gap = g;
  first_fit = subst (λ (x : List Token). IsFirstFit r x (b ++ record { line = l; gap = g } ∷ [])) (sym (append-nil ts)) (lines_end b l g r ts s h);
  rows = ap (λ (x : List ℕ). open_rows write later b l ++ x) none ∙ append-nil (open_rows write later b l);
}
rows_from write later (t ∷ us) b l g r ts s n out h (OnLine, m, rest, put, more, is) =
    row_step write later r ts us t (open_rows write later b l) (open_rows write later b (l ++ t ∷ [])) (write t) rest out (row_grows write later b l t) is
    (rows_from write later us b (l ++ t ∷ []) [] r (ts ++ t ∷ []) m n rest (line_takes b l g r ts t s m h put) more)
rows_from write later (t ∷ us) b l g r ts s n out h (OnNext, m, rest, put, more, is) =
    row_step write later r ts us t (open_rows write later b l) (open_rows write later (b ++ record { line = l; gap = g } ∷ []) (t ∷ [])) (10 ∷ (later ++ write t)) rest out (row_begins write later b l g t) is
    (rows_from write later us (b ++ record { line = l; gap = g } ∷ []) (t ∷ []) [] r (ts ++ t ∷ []) m n rest (line_begins b l g r ts t s m h put) more)
rows_from write later (t ∷ us) b l g r ts s n out h (InGap, m, rest, put, more, is) =
    row_step write later r ts us t (open_rows write later b l) (open_rows write later b l) [] rest out (sym (append-nil (open_rows write later b l))) is
    (rows_from write later us b l (g ++ t ∷ []) r (ts ++ t ∷ []) m n rest (line_ends b l g r ts t s m h put) more)

-- what is written of tokens from the first line on is their rows
pub rows_written : (write : Token → List ℕ) (later : List ℕ) (ts : List Token) (r : Room) (n : FirstFit) (out : List ℕ) → Writes write later (at_first r) ts n out → AreRows write later r ts out
rows_written write later ts r n out h = rows_from write later ts [] [] [] r [] (at_first r) n out (lines_start r) h

-- ---- the bytes of tokens in a row

begin_together : (max at end : ℕ) (p : Compound) (rest : List Token) → AreTokensFrom max p at rest → AreTokensFrom max p end rest → at ≡ end
begin_together max at end p [] a b = omega (arith, a, b)
begin_together max at end p (t ∷ rest) a b = sym a.0.begins ∙ b.0.begins

token_and_rest : (max at : ℕ) (p : Compound) (t : Token) → IsTokenAt max p at t → token_text t ++ drop t.end_in_compound p.src.now ≡ drop at p.src.now
token_and_rest max at p t h =
    let bs = p.src.now in
    let n = t.end_in_compound - at in
    let ends : at + n ≡ t.end_in_compound = omega (arith, h.begins, h.within.some) in
    let own : token_text t ≡ take n (drop at bs) = ap (λ (q : Compound). slice_range q.src.now t.start_in_compound t.end_in_compound) h.part_of ∙ ap (λ k. slice_range bs k t.end_in_compound) h.begins in
    let back : drop t.end_in_compound bs ≡ drop n (drop at bs) = sym (drop-drop n at bs ∙ ap (λ m. drop m bs) ends) in
    ap (λ (x : List ℕ). x ++ drop t.end_in_compound bs) own ∙ ap (λ (x : List ℕ). take n (drop at bs) ++ x) back ∙ take-append-drop n (drop at bs)

text_and_rest : (write : Token → List ℕ) (max at end : ℕ) (p : Compound) (own rest : List Token) → IsWrittenBare write p → AreTokensFrom max p at (own ++ rest) → AreTokensFrom max p end rest
    → flat_map write own ++ drop end p.src.now ≡ drop at p.src.now
text_and_rest write max at end p [] rest bare all later = ap (λ n. drop n p.src.now) (sym (begin_together max at end p rest all later))
text_and_rest write max at end p (t ∷ own) rest bare (first, more) later =
    ap (λ (x : List ℕ). (x ++ flat_map write own) ++ drop end p.src.now) (bare t first.part_of) ∙ append_assoc (token_text t) (flat_map write own) (drop end p.src.now)
    ∙ ap (λ (x : List ℕ). token_text t ++ x) (text_and_rest write max t.end_in_compound end p own rest bare more later) ∙ token_and_rest max at p t first

front_is : (n : ℕ) (xs ys zs : List ℕ) → xs ++ ys ≡ zs → length xs ≡ n → xs ≡ take n zs
front_is n xs ys zs e size = sym (take_all n xs (omega (arith, size))) ∙ sym (take-append-le n xs ys (omega (arith, size))) ∙ ap (take n) e

span_text : (write : Token → List ℕ) (max at : ℕ) (p : Compound) (s : FirstFit) (span : Span) → IsUtf8 p.src.now → IsWrittenBare write p → (h : IsSpan max p at s span) → flat_map write h.own ≡ slice_range p.src.now at span.end
span_text write max at p s span utf8 bare h =
    let bs = p.src.now in
    let inside : span.end ≤ length bs = h.border.0 in
    let rest = tokens_there (length bs) max span.end p (omega arith) inside utf8 h.border in
    let both = text_and_rest write max at span.end p h.own rest.0 bare (h.tokens rest.0 rest.1) rest.1 in
    front_is (span.end - at) (flat_map write h.own) (drop span.end bs) (drop at bs) both
    (omega (arith, ap length both, length-append (flat_map write h.own) (drop span.end bs), length-drop span.end bs, length-drop at bs, inside, h.more))

-- ---- steps of the loops

-- before the first byte of a compound nothing is written
pub up_to_start : (write : Token → List ℕ) (later : List ℕ) (max : ℕ) (p : Compound) (s : FirstFit) (old : List ℕ) → WritesUpTo write later max p 0 s old s old
up_to_start write later max p s old = record { own = []; out = []; tokens = λ rest h. h; writes = (refl, refl); bytes = sym (append-nil old) }

more_tokens : (write : Token → List ℕ) (later : List ℕ) (max : ℕ) (p : Compound) (at end : ℕ) (s : FirstFit) (old : List ℕ) (m n : FirstFit) (mid new : List ℕ) (own : List Token) (out : List ℕ) → WritesUpTo write later max p at s old m mid
    → ((rest : List Token) → AreTokensFrom max p end rest → AreTokensFrom max p at (own ++ rest)) → Writes write later m own n out → new ≡ mid ++ out → WritesUpTo write later max p end s old n new
more_tokens write later max p at end s old m n mid new own out h tokens writes put = record {
  own = h.own ++ own;
  out = h.out ++ out;
  tokens = λ rest left. subst (AreTokensFrom max p 0) (sym (append_assoc h.own own rest)) (h.tokens (own ++ rest) (tokens rest left));
  writes = writes_both write later h.own own s m n h.out out h.writes writes;
  bytes = put ∙ ap (λ (x : List ℕ). x ++ out) h.bytes ∙ append_assoc old h.out out;
}

-- a span more
pub span_more : (write : Token → List ℕ) (later : List ℕ) (max : ℕ) (p : Compound) (at : ℕ) (s : FirstFit) (old : List ℕ) (m : FirstFit) (mid new : List ℕ) (span : Span) → IsUtf8 p.src.now → IsWrittenBare write p
    → WritesUpTo write later max p at s old m mid → IsSpan max p at m span → new ≡ mid ++ put_bytes later span.put (slice_range p.src.now at span.end) → WritesUpTo write later max p span.end s old span.after new
span_more write later max p at s old m mid new span utf8 bare h is put =
    more_tokens write later max p at span.end s old m span.after mid new is.own (put_bytes later span.put (flat_map write is.own)) h is.tokens (alike_writes write later is.own m span.put span.after is.puts)
    (put ∙ ap (λ (x : List ℕ). mid ++ put_bytes later span.put x) (sym (span_text write max at p m span utf8 bare is)))

-- a token more
pub token_more : (write : Token → List ℕ) (later : List ℕ) (max : ℕ) (p : Compound) (at : ℕ) (s : FirstFit) (old : List ℕ) (m n : FirstFit) (mid new : List ℕ) (t : Token) (put : Put)
    → WritesUpTo write later max p at s old m mid → IsTokenAt max p at t → Puts m t put n → new ≡ mid ++ put_bytes later put (write t) → WritesUpTo write later max p t.end_in_compound s old n new
token_more write later max p at s old m n mid new t put h is puts bytes =
    more_tokens write later max p at t.end_in_compound s old m n mid new (t ∷ []) (put_bytes later put (write t)) h (λ rest left. (is, left)) (put, n, [], puts, (refl, refl), sym (append-nil (put_bytes later put (write t)))) bytes

-- before the first compound nothing is written
pub before_start : (write : Token → List ℕ) (later : List ℕ) (max : ℕ) (ps : List Compound) (s : FirstFit) (old : List ℕ) → WritesBefore write later max ps ps s old s old
before_start write later max ps s old = record { own = []; out = []; tokens = λ rest h. h; writes = (refl, refl); bytes = sym (append-nil old) }

-- a compound more
pub compound_more : (write : Token → List ℕ) (later : List ℕ) (max : ℕ) (ps left others : List Compound) (p : Compound) (at : ℕ) (s : FirstFit) (old : List ℕ) (m n : FirstFit) (mid new : List ℕ) → left ≡ p ∷ others → at ≡ length p.src.now
    → WritesBefore write later max ps left s old m mid → WritesUpTo write later max p at m mid n new → WritesBefore write later max ps others s old n new
compound_more write later max ps left others p at s old m n mid new is end h own = record {
  own = h.own ++ own.own;
  out = h.out ++ own.out;
  tokens = λ rest more. subst (AreTokensOf max ps) (sym (append_assoc h.own own.own rest)) (h.tokens (own.own ++ rest) (subst (λ (qs : List Compound). AreTokensOf max qs (own.own ++ rest)) (sym is)
      (own.own, rest, refl, subst (AreTokensFrom max p 0) (append-nil own.own) (own.tokens [] end), more)));
  writes = writes_both write later h.own own.own s m n h.out own.out h.writes own.writes;
  bytes = own.bytes ∙ ap (λ (x : List ℕ). x ++ own.out) h.bytes ∙ append_assoc old h.out own.out;
}
