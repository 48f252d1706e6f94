use Rattle.std.proofs.Common.{ℕ, take, sym, subst}
use Rattle.std.specs.Str.Parse.{AllDigits}
use Rattle.markdown_marks.proofs.DigitLemmas.{digits_front}
use Rattle.markdown_marks.proofs.items.ordered_of.Goals as goal

pub number-number-requires-clause-digits : goal.number-number-requires-clause-digits
number-number-requires-clause-digits c =
    subst (λ (n : ℕ). AllDigits 10 (take n c.args.bytes.now)) (sym c.digits_in_front-digits.ensures.value) (digits_front c.args.bytes.now)
