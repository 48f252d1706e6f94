-- Compounds have one wrap, and its lines are counted by the starts.
use Rattle.std.proofs.Common.{◌≡◌, inl, inr, ℕ, ◌+◌, ◌<◌, ◌==◌, Bool, true, false, Option, Some, None, is_some, if◌then◌else◌, List, [], ◌∷◌, map, length, refl, sym, ap, ◌∙◌, arith}
use Rattle.std.proofs.lemmas.Bool.Decides.{nat_tests}
use Rattle.std.proofs.lemmas.List.{length-map}
use Rattle.mad_md.specs.Flagged.{Run, flagged_text}
use Rattle.mad_md.specs.declared.compound.Compound.{Compound}
use Rattle.mad_measure.specs.TextColumns.{width_of}
use Rattle.mad_measure.specs.Tokens.{token_run}
use Rattle.mad_measure.specs.declared.tokens.Token.{Token}
use Rattle.mad_wrap.specs.Breaks.{LineAndGap, EndsWithLine}
use Rattle.mad_wrap.specs.CleanCut.{clean_cut, is_cut_clean}
use Rattle.mad_wrap.specs.Laws.{CountLines}
use Rattle.mad_wrap.specs.LeastBound.{AreStartsOf, AreCutStarts}
use Rattle.mad_wrap.specs.LeastWrap.{AreTokensIn, IsWrap}
use Rattle.mad_wrap.specs.Placings.{IsFirstFit, AreFirstFit}
use Rattle.mad_wrap.specs.WrapLines.{runs_of, HasRoom}
use Rattle.mad_wrap.specs.declared.room.Room.{Room}
use Rattle.mad_wrap.proofs.PromisedStarts.{some_past}
use Rattle.mad_wrap.proofs.ClosedBreaks.{dropped_at_end, length-starts}
use Rattle.mad_wrap.proofs.PassLemmas.{starts_each}
use Rattle.mad_wrap.proofs.UniqueLemmas.{one_first_fit}
use Rattle.mad_wrap.proofs.WrapLemmas.{room_for_tokens, total_is}

-- ---- one wrap

same_runs : (r : Room) (ts : List Token) (xs ys : List (List Run)) → AreFirstFit r ts xs → AreFirstFit r ts ys → xs ≡ ys
same_runs r ts xs ys h g = sym h.runs_are ∙ ap (map (λ (p : LineAndGap Token). map token_run p.line)) (one_first_fit r ts h.breaks g.breaks h.first_fit g.first_fit) ∙ g.runs_are

-- compounds have one wrap
pub one_wrap : (r : Room) (ps : List Compound) (lines others : List (List Compound)) → IsWrap r ps lines → IsWrap r ps others → map runs_of lines ≡ map runs_of others
one_wrap r ps lines others h g =
    let by : (cut : Option (Compound × Compound)) → clean_cut r ps ≡ cut → map runs_of lines ≡ map runs_of others =
    λ cut. elim cut as (λ cut. clean_cut r ps ≡ cut → map runs_of lines ≡ map runs_of others) [
      | Some (front, back) ↦ λ e. h.cut front back e ∙ sym (g.cut front back e)
      | None ↦ λ e.
          let off : is_cut_clean r ps ≡ false = ap is_some e in
          let ts = h.tokenized.tokens in
          same_runs r ts (map runs_of lines) (map runs_of others) ((h.least ts h.tokenized.cut).first_fit off) ((g.least ts h.tokenized.cut).first_fit off)
    ] in
    by (clean_cut r ps) refl

-- ---- starts and lines

ended_end : (ps : List (LineAndGap Token)) → EndsWithLine ps → dropped_at_end ps ≡ 0
ended_end [] h = refl
ended_end (p ∷ []) h = ap (λ (g : List Token). if length g == 0 then 0 else 1) h
ended_end (p ∷ q ∷ ps) h = ended_end (q ∷ ps) h

some_gap : (line gap : List Token) → ¬ (gap ≡ []) → dropped_at_end (record { line = line; gap = gap } ∷ []) ≡ 1
some_gap line [] h = absurd (h refl)
some_gap line (g ∷ gs) h = let some : (length (g ∷ gs) == 0) ≡ false = grind (arith, nat_tests) in ap (λ (b : Bool). if b then 0 else 1) some

dropping_end : (ps : List (LineAndGap Token)) → ¬ (EndsWithLine ps) → dropped_at_end ps ≡ 1
dropping_end [] h = absurd (h tt)
dropping_end (p ∷ []) h = some_gap p.line p.gap h
dropping_end (p ∷ q ∷ ps) h = dropping_end (q ∷ ps) h

lines_of_fit : (r : Room) (ts : List Token) (breaks : List (LineAndGap Token)) (lines : List (List Compound)) → IsFirstFit r ts breaks → AreFirstFit r ts (map runs_of lines) → length breaks ≡ length lines
lines_of_fit r ts breaks lines h g =
    omega (arith, ap length (one_first_fit r ts breaks g.breaks h g.first_fit), ap length g.runs_are, length-map g.breaks (λ (p : LineAndGap Token). map token_run p.line), length-map lines runs_of)

starts_of_fit : (r : Room) (ps : List Compound) (ts : List Token) (breaks : List (LineAndGap Token)) (starts : List ℕ) → is_cut_clean r ps ≡ false → AreTokensIn r ps ts → HasRoom r (flagged_text ps) → AreStartsOf r ps starts → IsFirstFit r ts breaks
    → length starts ≡ length breaks + dropped_at_end breaks
starts_of_fit r ps ts breaks starts off tokens room h fit =
    omega (arith, ap length (h.lines off ts tokens breaks fit ∙ starts_each r ts breaks fit (room_for_tokens r ps ts tokens room)), length-starts breaks)

was_some : (cut : Option (Compound × Compound)) → is_some cut ≡ true → (front : Compound) × (back : Compound) × (cut ≡ Some (front, back))
was_some None e = absurd (cc)
was_some (Some (front, back)) e = (front, back, refl)

two_starts : (r : Room) (ps : List Compound) (ts : List Token) (starts : List ℕ) → AreTokensIn r ps ts → r.width < r.first + width_of (flagged_text ps) → HasRoom r (flagged_text ps) → AreCutStarts r ts starts → length starts ≡ 2
two_starts r ps ts starts tokens wide room (inl (fits, are)) = absurd (omega (arith, fits, wide, total_is r ps ts tokens))
two_starts r ps ts starts tokens wide room (inr (i, past, is, none)) = ap length (is (some_past r ts i past (room_for_tokens r ps ts tokens room)))

-- the starts of compounds that are too wide count the lines of their wrap, where each character has room
pub starts_count : (r : Room) (ps : List Compound) (lines : List (List Compound)) (starts : List ℕ) → r.width < r.first + width_of (flagged_text ps) → HasRoom r (flagged_text ps) → IsWrap r ps lines → AreStartsOf r ps starts
    → CountLines r ps lines starts
starts_count r ps lines starts wide room wrap h = record {
  cut = λ on.
      let cut = was_some (clean_cut r ps) on in
      let tokens = wrap.tokenized.cut in
      omega (arith, two_starts r ps wrap.tokenized.tokens starts tokens wide room (h.cut on wrap.tokenized.tokens tokens), ap length (wrap.cut cut.0 cut.1 cut.2), length-map lines runs_of);
  ended = λ off ts tokens breaks fit ends.
      omega (arith, starts_of_fit r ps ts breaks starts off tokens room h fit, ended_end breaks ends, lines_of_fit r ts breaks lines fit ((wrap.least ts tokens).first_fit off));
  dropping = λ off ts tokens breaks fit drops.
      omega (arith, starts_of_fit r ps ts breaks starts off tokens room h fit, dropping_end breaks drops, lines_of_fit r ts breaks lines fit ((wrap.least ts tokens).first_fit off));
}
