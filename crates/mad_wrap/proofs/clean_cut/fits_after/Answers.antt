use Rattle.std.proofs.Common.{◌≡◌, ℕ, ◌≤◌, ◌<◌, nat_le, Option, Some, None, is_some, chars, arith}
use Rattle.std.specs.Prelude.{MatchOption}
use Rattle.std.proofs.lemmas.Bool.Decides.{nat_tests}
use Rattle.mad_md.specs.Flagged.{flags_of}
use Rattle.mad_measure.proofs.FlaggedLemmas.{width_of-flagged}
use Rattle.mad_wrap.proofs.clean_cut.fits_after.Goals as goal

-- a text that is measured up to a limit fits where it has an answer
fits_by : (r : Option ℕ) (used left : ℕ) → MatchOption r (left < used) (λ n. (n ≡ used) × (n ≤ left)) → is_some r ≡ nat_le used left
fits_by None used left h = grind (arith, nat_tests)
fits_by (Some n) used left (is, within) = grind (arith, nat_tests)

pub returns-in-Some : goal.returns-in-Some
returns-in-Some c =
    let measured = width_of-flagged (flags_of c.args.compound.now) (chars c.args.compound.now.src.now) in
    let own = fits_by _ _ _ c.columns_within.ensures in
    let left = c.in-Some.ensures in
    grind (arith, nat_tests, measured, own)
