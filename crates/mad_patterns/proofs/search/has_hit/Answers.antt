use Rattle.std.proofs.Common.{refl}
use Rattle.std.proofs.lemmas.Option.{slice_get_read}
use Rattle.std.proofs.lemmas.Result.{IfOk-weaker}
use Rattle.regex.specs.Strings.{regex_pattern}
use Rattle.mad_patterns.proofs.SearchLemmas.{has_at}
use Rattle.mad_patterns.proofs.search.has_hit.Goals as goal

pub returns-in-Some-clause-has : goal.returns-in-Some-clause-has
returns-in-Some-clause-has c =
    let s = regex_pattern c.args.sought.now in
    let is = slice_get_read c.args.lines.now _ c.args.row c.in-Some.line.now refl c.in-Some.ensures.lookup.3.0 c.in-Some.ensures.lookup.1 in
    IfOk-weaker c.line_has_hit.result _ _ (λ b h. has_at s c.args.lines.now c.args.starts.rows.now c.args.row c.in-Some.line.now b is h) c.line_has_hit.ensures.has
