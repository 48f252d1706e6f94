-- One more character of a text of runs.
use Rattle.std.proofs.Common.{◌≡◌, ℕ, suc, ◌+◌, ◌<◌, ◌≤◌, Bool, true, false, ◌&&◌, List, [], ◌∷◌, ◌++◌, length, take, drop, map, reverse, replicate, refl, sym, ap, subst, ◌∙◌, arith, append_assoc, Option, Some, None, chars, encode_utf8}
use Rattle.std.specs.Str.{IsUtf8, IsCharBoundary}
use Rattle.std.proofs.Math.Seq.{drop-append_seam, take-append_seam}
use Rattle.std.proofs.lemmas.Bool.{eqb-true, and_parts}
use Rattle.std.proofs.lemmas.List.{length-append, append-nil, map-append, take-append-le, drop-append-le}
use Rattle.std.proofs.lemmas.Str.{chars-nil, chars-append, chars_past_char, IsUtf8-drop, IsUtf8-append, IsCharBoundary-from_take, length-encode, len_utf8_bounds}
use Rattle.markdown_inlines.specs.declared.looks.Look.{Look}
use Rattle.markdown_inlines.specs.declared.styled.TextRun.{TextRun}
use Rattle.markdown_inlines.specs.Looks.{is_same, is_same_number, is_same_look}
use Rattle.markdown_inlines.specs.Styled.{Shown, shown_with, spelled, goes_on, AreRuns}

-- ---- looks

same_bool : (a b : Bool) → is_same a b ≡ true → a ≡ b
same_bool true b e = sym e
same_bool false true e = e
same_bool false false e = refl

same_number : (a b : Option ℕ) → is_same_number a b ≡ true → a ≡ b
same_number None None e = refl
same_number (Some a) (Some b) e = ap Some (eqb-true a b e)
same_number None (Some b) e = absurd (no e)
  where
    no : false ≡ true → ⊥
    no e = cc
same_number (Some a) None e = absurd (no e)
  where
    no : false ≡ true → ⊥
    no e = cc

same_look : (a b : Look) → is_same_look a b ≡ true → a ≡ b
same_look a b e =
    let bolds : Bool = is_same a.bold b.bold in
    let italics : Bool = is_same a.italic b.italic in
    let strikeouts : Bool = is_same a.strikeout b.strikeout in
    let codes : Bool = is_same a.code b.code in
    let links : Bool = is_same_number a.link b.link in
    let o = and_parts (bolds && italics && strikeouts && codes && links) (is_same_number a.picture b.picture) e in
    let p = and_parts (bolds && italics && strikeouts && codes) links o.0 in
    let q = and_parts (bolds && italics && strikeouts) codes p.0 in
    let r = and_parts (bolds && italics) strikeouts q.0 in
    let s = and_parts bolds italics r.0 in
    let bold : a.bold ≡ b.bold = same_bool a.bold b.bold s.0 in
    let italic : a.italic ≡ b.italic = same_bool a.italic b.italic s.1 in
    let strikeout : a.strikeout ≡ b.strikeout = same_bool a.strikeout b.strikeout r.1 in
    let code : a.code ≡ b.code = same_bool a.code b.code q.1 in
    let link : a.link ≡ b.link = same_number a.link b.link p.1 in
    let picture : a.picture ≡ b.picture = same_number a.picture b.picture o.1 in
    ap (λ (x : Bool). record { bold = x; italic = a.italic; strikeout = a.strikeout; code = a.code; link = a.link; picture = a.picture }) bold
    ∙ ap (λ (x : Bool). record { bold = b.bold; italic = x; strikeout = a.strikeout; code = a.code; link = a.link; picture = a.picture }) italic
    ∙ ap (λ (x : Bool). record { bold = b.bold; italic = b.italic; strikeout = x; code = a.code; link = a.link; picture = a.picture }) strikeout
    ∙ ap (λ (x : Bool). record { bold = b.bold; italic = b.italic; strikeout = b.strikeout; code = x; link = a.link; picture = a.picture }) code
    ∙ ap (λ (x : Option ℕ). record { bold = b.bold; italic = b.italic; strikeout = b.strikeout; code = b.code; link = x; picture = a.picture }) link
    ∙ ap (λ (x : Option ℕ). record { bold = b.bold; italic = b.italic; strikeout = b.strikeout; code = b.code; link = b.link; picture = x }) picture

-- ---- a character alone

-- what makes one text out of another is a text itself
pub alone : (text new e : List ℕ) → IsUtf8 text → IsUtf8 new → new ≡ text ++ e → IsUtf8 e
alone text new e f u is =
    let many : length new ≡ length text + length e = ap length is ∙ length-append text e in
    let taken : take (length text) new ≡ text = ap (take (length text)) is ∙ take-append_seam text e in
    let dropped : drop (length text) new ≡ e = ap (drop (length text)) is ∙ drop-append_seam text e in
    let cut : IsCharBoundary new (length text) = IsCharBoundary-from_take new (length text) u (omega (arith, many)) (subst IsUtf8 (sym taken) f) in
    subst IsUtf8 dropped (IsUtf8-drop new (length text) u cut)

one_char : (c : ℕ) → IsUtf8 (encode_utf8 c) → chars (encode_utf8 c) ≡ c ∷ []
one_char c u = chars_past_char (encode_utf8 c) [] c u (sym (append-nil (encode_utf8 c))) ∙ ap (λ (l : List ℕ). c ∷ l) chars-nil

some_bytes : (c : ℕ) → 0 < length (encode_utf8 c)
some_bytes c = let len = len_utf8_bounds c in omega (arith, length-encode c, len.0)

-- ---- one more

-- these runs spell one character more, and are runs of the longer text
pub record IsPushed (rs more : List TextRun) (old new : List ℕ) (shown : Shown) : Type 0 where
  pub spells : spelled more new ≡ spelled rs old ++ shown ∷ []
  pub are : AreRuns more new

-- a character that looks as the last run does goes on in it
pub push_same : (rs : List TextRun) (old new : List ℕ) (c : ℕ) (look : Look) → IsUtf8 old → IsUtf8 new → new ≡ old ++ encode_utf8 c → goes_on look rs ≡ true → AreRuns rs old → IsPushed rs rs old new (shown_with look c)
unfolding spelled
push_same [] old new c look u v is on are = absurd (no on)
  where
    no : false ≡ true → ⊥
    no e = cc
push_same (r ∷ rs) old new c look u v is on are =
    let e : List ℕ = encode_utf8 c in
    let w : IsUtf8 e = alone old new e u v is in
    let same : r.look ≡ look = same_look r.look look on in
    let few : r.start ≤ length old = omega (arith, are.0) in
    let taken : take r.start new ≡ take r.start old = ap (take r.start) is ∙ take-append-le r.start old e few in
    let dropped : drop r.start new ≡ drop r.start old ++ e = ap (drop r.start) is ∙ drop-append-le r.start old e few in
    let many : length new ≡ length old + length e = ap length is ∙ length-append old e in
    let cs : chars (drop r.start new) ≡ chars (drop r.start old) ++ c ∷ [] = ap chars dropped ∙ chars-append (drop r.start old) e are.1 ∙ ap (λ (l : List ℕ). chars (drop r.start old) ++ l) (one_char c w) in
    let last : map (shown_with r.look) (chars (drop r.start new)) ≡ map (shown_with r.look) (chars (drop r.start old)) ++ shown_with look c ∷ [] =
    ap (map (shown_with r.look)) cs ∙ map-append (shown_with r.look) (chars (drop r.start old)) (c ∷ []) ∙ ap (λ (l : Look). map (shown_with r.look) (chars (drop r.start old)) ++ shown_with l c ∷ []) same in
    record {
      spells = ap (λ (l : List ℕ). spelled rs l ++ map (shown_with r.look) (chars (drop r.start new))) taken ∙ ap (λ (l : List Shown). spelled rs (take r.start old) ++ l) last
          ∙ sym (append_assoc (spelled rs (take r.start old)) (map (shown_with r.look) (chars (drop r.start old))) (shown_with look c ∷ []));
      are = (omega (arith, are.0, many), subst IsUtf8 (sym dropped) (IsUtf8-append (drop r.start old) e are.1 w), are.2, subst (λ (l : List ℕ). AreRuns rs l) (sym taken) are.3);
    }

-- a character that looks otherwise begins a run
pub push_other : (rs more : List TextRun) (old new : List ℕ) (c start : ℕ) (look : Look) → IsUtf8 old → IsUtf8 new → new ≡ old ++ encode_utf8 c → start ≡ length old → more ≡ record { start = start; look = look } ∷ rs
    → goes_on look rs ≡ false → AreRuns rs old → IsPushed rs more old new (shown_with look c)
unfolding spelled
push_other rs more old new c start look u v is s m on are =
    let e : List ℕ = encode_utf8 c in
    let w : IsUtf8 e = alone old new e u v is in
    let taken : take start new ≡ old = ap (λ k. take k new) s ∙ ap (take (length old)) is ∙ take-append_seam old e in
    let dropped : drop start new ≡ e = ap (λ k. drop k new) s ∙ ap (drop (length old)) is ∙ drop-append_seam old e in
    let many : length new ≡ length old + length e = ap length is ∙ length-append old e in
    let r : TextRun = record { start = start; look = look } in
    let spells : spelled (r ∷ rs) new ≡ spelled rs old ++ shown_with look c ∷ [] =
    ap (λ (l : List ℕ). spelled rs l ++ map (shown_with look) (chars (drop start new))) taken
    ∙ ap (λ (l : List ℕ). spelled rs old ++ map (shown_with look) l) (ap chars dropped ∙ one_char c w) in
    let runs : AreRuns (r ∷ rs) new = (omega (arith, s, many, some_bytes c), subst IsUtf8 (sym dropped) w, on, subst (λ (l : List ℕ). AreRuns rs l) (sym taken) are) in
    record { spells = ap (λ (l : List TextRun). spelled l new) m ∙ spells; are = subst (λ (l : List TextRun). AreRuns l new) (sym m) runs }

-- ---- a text more

-- these runs spell some characters more, and are runs of the longer text
pub record IsAdded (rs more : List TextRun) (old new : List ℕ) (shown : List Shown) : Type 0 where
  pub spells : spelled more new ≡ spelled rs old ++ shown
  pub are : AreRuns more new

-- a text that looks as the last run does goes on in it
pub text_same : (rs : List TextRun) (old new e : List ℕ) (look : Look) → IsUtf8 e → new ≡ old ++ e → goes_on look rs ≡ true → AreRuns rs old → IsAdded rs rs old new (map (shown_with look) (chars e))
unfolding spelled
text_same [] old new e look w is on are = absurd (no on)
  where
    no : false ≡ true → ⊥
    no e = cc
text_same (r ∷ rs) old new e look w is on are =
    let same : r.look ≡ look = same_look r.look look on in
    let few : r.start ≤ length old = omega (arith, are.0) in
    let taken : take r.start new ≡ take r.start old = ap (take r.start) is ∙ take-append-le r.start old e few in
    let dropped : drop r.start new ≡ drop r.start old ++ e = ap (drop r.start) is ∙ drop-append-le r.start old e few in
    let many : length new ≡ length old + length e = ap length is ∙ length-append old e in
    let cs : chars (drop r.start new) ≡ chars (drop r.start old) ++ chars e = ap chars dropped ∙ chars-append (drop r.start old) e are.1 in
    let last : map (shown_with r.look) (chars (drop r.start new)) ≡ map (shown_with r.look) (chars (drop r.start old)) ++ map (shown_with look) (chars e) =
    ap (map (shown_with r.look)) cs ∙ map-append (shown_with r.look) (chars (drop r.start old)) (chars e)
    ∙ ap (λ (l : Look). map (shown_with r.look) (chars (drop r.start old)) ++ map (shown_with l) (chars e)) same in
    record {
      spells = ap (λ (l : List ℕ). spelled rs l ++ map (shown_with r.look) (chars (drop r.start new))) taken ∙ ap (λ (l : List Shown). spelled rs (take r.start old) ++ l) last
          ∙ sym (append_assoc (spelled rs (take r.start old)) (map (shown_with r.look) (chars (drop r.start old))) (map (shown_with look) (chars e)));
      are = (omega (arith, are.0, many), subst IsUtf8 (sym dropped) (IsUtf8-append (drop r.start old) e are.1 w), are.2, subst (λ (l : List ℕ). AreRuns rs l) (sym taken) are.3);
    }

-- a text that looks otherwise begins a run
pub text_other : (rs more : List TextRun) (old new e : List ℕ) (start : ℕ) (look : Look) → IsUtf8 e → 0 < length e → new ≡ old ++ e → start ≡ length old → more ≡ record { start = start; look = look } ∷ rs
    → goes_on look rs ≡ false → AreRuns rs old → IsAdded rs more old new (map (shown_with look) (chars e))
unfolding spelled
text_other rs more old new e start look w some is s m on are =
    let taken : take start new ≡ old = ap (λ k. take k new) s ∙ ap (take (length old)) is ∙ take-append_seam old e in
    let dropped : drop start new ≡ e = ap (λ k. drop k new) s ∙ ap (drop (length old)) is ∙ drop-append_seam old e in
    let many : length new ≡ length old + length e = ap length is ∙ length-append old e in
    let r : TextRun = record { start = start; look = look } in
    let spells : spelled (r ∷ rs) new ≡ spelled rs old ++ map (shown_with look) (chars e) =
    ap (λ (l : List ℕ). spelled rs l ++ map (shown_with look) (chars (drop start new))) taken
    ∙ ap (λ (l : List ℕ). spelled rs old ++ map (shown_with look) (chars l)) dropped in
    let runs : AreRuns (r ∷ rs) new = (omega (arith, s, many, some), subst IsUtf8 (sym dropped) w, on, subst (λ (l : List ℕ). AreRuns rs l) (sym taken) are) in
    record { spells = ap (λ (l : List TextRun). spelled l new) m ∙ spells; are = subst (λ (l : List TextRun). AreRuns l new) (sym m) runs }

-- without runs nothing is spelled
pub nothing : (runs : List TextRun) (text : List ℕ) → runs ≡ [] → spelled (reverse runs) text ≡ []
unfolding spelled
nothing [] text e = refl
nothing (r ∷ rs) text e = absurd (no e)
  where
    no : r ∷ rs ≡ [] → ⊥
    no e = cc

-- ---- many

-- one more character is shown, and all stays the same
pub more_chars : (look : Look) (f : ℕ → ℕ) (now next whole : List Shown) (cs rest : List ℕ) (c : ℕ) → cs ≡ c ∷ rest → next ≡ now ++ shown_with look (f c) ∷ [] → now ++ map (shown_with look) (map f cs) ≡ whole → next ++ map (shown_with look) (map f rest) ≡ whole
more_chars look f now next whole cs rest c e n h =
    ap (λ (l : List Shown). l ++ map (shown_with look) (map f rest)) n ∙ append_assoc now (shown_with look (f c) ∷ []) (map (shown_with look) (map f rest))
    ∙ ap (λ (l : List ℕ). now ++ map (shown_with look) (map f l)) (sym e) ∙ h

-- the same of one character that comes several times
pub more_times : (look : Look) (now next whole : List Shown) (c left less : ℕ) → left ≡ suc less → next ≡ now ++ shown_with look c ∷ [] → now ++ map (shown_with look) (replicate left c) ≡ whole → next ++ map (shown_with look) (replicate less c) ≡ whole
more_times look now next whole c left less e n h =
    ap (λ (l : List Shown). l ++ map (shown_with look) (replicate less c)) n ∙ append_assoc now (shown_with look c ∷ []) (map (shown_with look) (replicate less c))
    ∙ ap (λ k. now ++ map (shown_with look) (replicate k c)) (sym e) ∙ h

-- where no character is left, all are shown
pub all_chars : (look : Look) (f : ℕ → ℕ) (now whole : List Shown) (rest : List ℕ) → length rest ≡ 0 → now ++ map (shown_with look) (map f (chars rest)) ≡ whole → now ≡ whole
all_chars look f now whole [] e h = sym (append-nil now) ∙ ap (λ (l : List ℕ). now ++ map (shown_with look) (map f l)) (sym chars-nil) ∙ h
all_chars look f now whole (b ∷ bs) e h = absurd (omega (arith, e))
