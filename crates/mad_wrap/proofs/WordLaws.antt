-- Compounds have one wrap with whole words.
use Rattle.std.proofs.Common.{◌≡◌, List, [], ◌∷◌, ◌++◌, map, length, refl, sym, ap, ◌∙◌, arith}
use Rattle.std.proofs.lemmas.List.{length-map}
use Rattle.mad_md.specs.Flagged.{Run}
use Rattle.mad_md.specs.declared.compound.Compound.{Compound}
use Rattle.mad_measure.specs.Tokens.{token_run}
use Rattle.mad_measure.specs.declared.tokens.Token.{Token}
use Rattle.mad_wrap.specs.Breaks.{LineAndGap, lines_and_gaps}
use Rattle.mad_wrap.specs.LeastWords.{ArePieceFit, IsWordWrap}
use Rattle.mad_wrap.specs.Words.{Piece, as_token, token_break, piece_break}
use Rattle.mad_wrap.specs.WrapLines.{runs_of}
use Rattle.mad_wrap.specs.declared.room.Room.{Room}
use Rattle.mad_wrap.proofs.UniqueLemmas.{one_first_fit}

-- equal lists with fronts of one length have equal fronts
same_fronts : {A : Type 0} (xs ys r s : List A) → length xs ≡ length ys → xs ++ r ≡ ys ++ s → (xs ≡ ys) × (r ≡ s)
same_fronts [] [] r s l e = (refl, e)
same_fronts [] (y ∷ ys) r s l e = absurd (omega (arith, l))
same_fronts (x ∷ xs) [] r s l e = absurd (omega (arith, l))
same_fronts (x ∷ xs) (y ∷ ys) r s l e =
    let head : x ≡ y = cc in
    let tail : xs ++ r ≡ ys ++ s = cc in
    let more = same_fronts xs ys r s (omega (arith, l)) tail in
    (ap (λ z. z ∷ xs) head ∙ ap (λ zs. y ∷ zs) more.0, more.1)

-- two lists of pieces are as long as their tokens
same_length : (ps qs : List Piece) → map as_token ps ≡ map as_token qs → length ps ≡ length qs
same_length ps qs e = omega (arith, ap length e, length-map ps as_token, length-map qs as_token)

-- breaks of the same pieces into as many on each line and in each gap are the same
same_breaks : (bs cs : List (LineAndGap Piece)) → piece_break bs ≡ piece_break cs → lines_and_gaps bs ≡ lines_and_gaps cs → bs ≡ cs
same_breaks [] [] e all = refl
same_breaks [] (c ∷ cs) e all = absurd (cc)
same_breaks (b ∷ bs) [] e all = absurd (cc)
same_breaks (b ∷ bs) (c ∷ cs) e all =
    let p : LineAndGap Token = record { line = map as_token b.line; gap = map as_token b.gap } in
    let q : LineAndGap Token = record { line = map as_token c.line; gap = map as_token c.gap } in
    let head : p ≡ q = cc in
    let tail : piece_break bs ≡ piece_break cs = cc in
    let lines = same_fronts b.line c.line (b.gap ++ lines_and_gaps bs) (c.gap ++ lines_and_gaps cs) (same_length b.line c.line (ap (λ (p : LineAndGap Token). p.line) head)) all in
    let gaps = same_fronts b.gap c.gap (lines_and_gaps bs) (lines_and_gaps cs) (same_length b.gap c.gap (ap (λ (p : LineAndGap Token). p.gap) head)) lines.1 in
    let line : b ≡ record { line = c.line; gap = b.gap } = ap (λ l. record { line = l; gap = b.gap }) lines.0 in
    let first : b ≡ c = line ∙ ap (λ g. record { line = c.line; gap = g }) gaps.0 in
    ap (λ x. x ∷ bs) first ∙ ap (λ l. c ∷ l) (same_breaks bs cs tail gaps.1)

same_runs : (r : Room) (pieces : List Piece) (xs ys : List (List Run)) → ArePieceFit r pieces xs → ArePieceFit r pieces ys → xs ≡ ys
same_runs r pieces xs ys h g =
    let same : h.breaks ≡ g.breaks = same_breaks h.breaks g.breaks (one_first_fit r (map as_token pieces) (piece_break h.breaks) (piece_break g.breaks) h.first_fit g.first_fit) (h.covers ∙ sym g.covers) in
    sym h.runs_are ∙ ap (λ bs. map (λ (p : LineAndGap Token). map token_run p.line) (token_break bs)) same ∙ g.runs_are

-- compounds have one wrap with whole words
pub one_word_wrap : (r : Room) (ps : List Compound) (lines others : List (List Compound)) → IsWordWrap r ps lines → IsWordWrap r ps others → map runs_of lines ≡ map runs_of others
one_word_wrap r ps lines others h g =
    let ts = h.tokenized.tokens in
    let cut = h.tokenized.cut in
    same_runs r _ (map runs_of lines) (map runs_of others) (h.least ts cut).first_fit (g.least ts cut).first_fit
