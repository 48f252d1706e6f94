use Rattle.std.proofs.Common.{◌≡◌, ◌/◌, ap, chars, length, rules}
use Rattle.std.proofs.lemmas.Str.{chars_from_encodes}
use Rattle.mad_fitting.proofs.CenteredLemmas.{middle_start_is}
use Rattle.mad_fitting.proofs.centered.Middle.of.Goals as goal

pub returns-clause-middle : goal.returns-clause-middle
returns-clause-middle c =
    let text = c.args.text.now in
    let at = c.char_start.result in
    let count : c.count-half.result ≡ length (chars text) = search (rules, chars_from_encodes) in
    middle_start_is c.args.text c.split_at.result.0 c.split_at.result.1 at _ c.utf8.text c.char_start.ensures.border c.char_start.ensures.before c.split_at.ensures.front c.split_at.ensures.back (ap (λ n. n / 2) count)
