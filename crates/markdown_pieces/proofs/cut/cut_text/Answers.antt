use Rattle.std.proofs.Common.{◌≡◌, ℕ, ◌+◌, ◌≤◌, subst, List, [], ◌∷◌, ◌++◌, drop, length, refl, sym, ap, ◌∙◌, arith}
use Rattle.std.proofs.lemmas.List.{length-append}
use Rattle.markdown_emphasis.specs.declared.runs.Pair.{Pair}
use Rattle.markdown_brackets.specs.Brackets.{Reading, nothing_read}
use Rattle.markdown_brackets.specs.Readings.{reading_of}
use Rattle.markdown_pieces.specs.declared.pieces.Piece.{Piece}
use Rattle.markdown_pieces.specs.Cut.{Step, step, Pieces, CutText, ended, cut_from}
use Rattle.std.specs.List.{All}
use Rattle.markdown_emphasis.specs.Pairs.{IsWithin}
use Rattle.markdown_brackets.specs.Brackets.{finished}
use Rattle.markdown_pieces.specs.Places.{AreCut}
use Rattle.markdown_pieces.proofs.CutLemmas.{cut_step, cut_end, with_front}
use Rattle.markdown_pieces.proofs.PlaceLemmas.{text_placed}
use Rattle.markdown_pieces.proofs.PairPlaces.{pairs_within}
use Rattle.markdown_pieces.proofs.cut.cut_text.Goals as goal

read_all : (labels : List (List ℕ)) (text : List ℕ) (at : ℕ) (ps : List Piece) (r : Reading) → length text ≤ at
    → with_front ps (cut_from labels text 0 at (length ps) r (drop at text)) ≡ cut_from labels text 0 0 0 nothing_read text → record { pieces = ps; reading = r } ≡ cut_from labels text 0 0 0 nothing_read text
read_all labels text at ps r over same = sym (cut_end labels text at (length ps) r ps over) ∙ same

pub loop-at-preserved : goal.loop-at-preserved
loop-at-preserved c =
    let labels : List (List ℕ) = c.args.labels.now in
    let text : List ℕ = c.args.text.now in
    let at : ℕ = c.loop-at.at in
    let ps : List Piece = c.loop-at.pieces.items in
    let r : Reading = reading_of c.loop-at.brackets in
    let s : Step = record { piece = c.in_ok-piece.piece; reading = reading_of c.step.new.brackets } in
    let count : c.len.result ≡ length ps = omega (arith, c.len.ensures, c.loop-at.pieces.ok) in
    let is : s ≡ step labels text at (length ps) r (drop at text) = c.in_ok-piece.ensures.step ∙ ap (λ i. step labels text at i r (drop at text)) count in
    let pushed : c.push.new.self.items ≡ ps ++ s.piece ∷ [] = c.in_ok-push.ensures.items in
    let next : length c.push.new.self.items ≡ length ps + 1 = ap length pushed ∙ length-append ps (s.piece ∷ []) in
    record {
      same = cut_step labels text at (at + (s.piece.more + 1)) (length ps) (length c.push.new.self.items) 0 r ps c.push.new.self.items s c.loop-at-test.true is refl next pushed ∙ c.loop-at.invariant.same;
      within = omega (arith, c.in_ok-piece.ensures.within);
      tidy = c.in_ok-piece.ensures.tidy;
    }

pub returns-clause-cut : goal.returns-clause-cut
returns-clause-cut c =
    let labels : List (List ℕ) = c.args.labels.now in
    let text : List ℕ = c.args.text.now in
    let ps : List Piece = c.loop-at.pieces.items in
    let r : Reading = reading_of c.loop-at.brackets in
    let whole : Pieces = cut_from labels text 0 0 0 nothing_read text in
    let done : record { pieces = ps; reading = r } ≡ whole = read_all labels text c.loop-at.at ps r (omega (arith, c.loop-at-test.false)) c.loop-at.invariant.same in
    let with : List Pair → CutText = λ l. record { pieces = ps; pairs = l } in
    ap with c.in_ok-pairs.ensures ∙ ap ended done

pub returns-clause-placed : goal.returns-clause-placed
returns-clause-placed c =
    let labels : List (List ℕ) = c.args.labels.now in
    let text : List ℕ = c.args.text.now in
    let ps : List Piece = c.loop-at.pieces.items in
    let done : record { pieces = ps; reading = reading_of c.loop-at.brackets } ≡ cut_from labels text 0 0 0 nothing_read text =
    read_all labels text c.loop-at.at ps (reading_of c.loop-at.brackets) (omega (arith, c.loop-at-test.false)) c.loop-at.invariant.same in
    subst (λ (l : List Piece). AreCut text 0 l) (sym (ap (λ (p : Pieces). p.pieces) done)) (text_placed labels text c.utf8.text)

pub returns-clause-pairs : goal.returns-clause-pairs
returns-clause-pairs c =
    let labels : List (List ℕ) = c.args.labels.now in
    let text : List ℕ = c.args.text.now in
    let ps : List Piece = c.loop-at.pieces.items in
    let done : record { pieces = ps; reading = reading_of c.loop-at.brackets } ≡ cut_from labels text 0 0 0 nothing_read text =
    read_all labels text c.loop-at.at ps (reading_of c.loop-at.brackets) (omega (arith, c.loop-at-test.false)) c.loop-at.invariant.same in
    let found : c.in_ok-pairs.pairs.items ≡ finished (cut_from labels text 0 0 0 nothing_read text).reading = c.in_ok-pairs.ensures ∙ ap (λ (p : Pieces). finished p.reading) done in
    subst (λ (l : List Pair). All (IsWithin (length ps)) l) (sym found)
    (subst (λ (l : List Piece). All (IsWithin (length l)) (finished (cut_from labels text 0 0 0 nothing_read text).reading)) (sym (ap (λ (p : Pieces). p.pieces) done)) (pairs_within labels text))
