use Rattle.std.proofs.Common.{ℕ, take, sym, subst}
use Rattle.std.specs.Str.Parse.{AllDigits}
use Rattle.markdown_spans.proofs.DigitLemmas.{digits_front}
use Rattle.markdown_spans.proofs.entities.decimal.Goals as goal

pub number-requires-clause-digits : goal.number-requires-clause-digits
number-requires-clause-digits c =
    subst (λ (n : ℕ). AllDigits 10 (take n c.args.bytes.now)) (sym c.digits_in_front-len.ensures.value) (digits_front c.args.bytes.now)
