-- The columns of compounds, summed up to the greatest usize.
use Rattle.std.proofs.Common.{◌≡◌, ℕ, ◌+◌, ◌<◌, List, ◌∷◌, chars, length, drop, get_or, ap, arith}
use Rattle.std.proofs.lemmas.List.{at_drop_more}
use Rattle.mad_md.specs.Flagged.{flags_of, flagged_of, flagged_text}
use Rattle.mad_md.specs.declared.compound.Compound.{Compound}
use Rattle.mad_measure.specs.TextColumns.{columns, width_of}
use Rattle.mad_measure.proofs.FlaggedLemmas.{width_of-append, width_of-flagged}
use Rattle.mad_wrap.specs.WrapLines.{capped}

-- a sum is capped alike where one part of it was capped before
pub capped-add : (a b : ℕ) → capped (capped a + b) ≡ capped (a + b)
capped-add a b = omega arith

-- one compound more
pub length_more : (ps : List Compound) (i n new w total : ℕ) (d : Compound) → i < length ps → w ≡ columns (chars (get_or ps i d).src.now) → new ≡ capped (n + w)
    → capped (n + width_of (flagged_text (drop i ps))) ≡ total → capped (new + width_of (flagged_text (drop (i + 1) ps))) ≡ total
length_more ps i n new w total d l own pushed held =
    let p = get_or ps i d in
    let rest = drop (i + 1) ps in
    let at : drop i ps ≡ p ∷ rest = at_drop_more (λ l. l) ps i d l in
    omega (arith, own, pushed, held, ap (λ l. width_of (flagged_text l)) at, width_of-append (flagged_of p) (flagged_text rest), width_of-flagged (flags_of p) (chars p.src.now))
