use Rattle.std.proofs.Common.{refl, inr, Some, None, arith}
use Rattle.std.proofs.lemmas.Str.Pattern.{strip_suffix_char}
use Rattle.termimad_run.proofs.Writings.{line_found}
use Rattle.termimad_run.proofs.writing.without_line_end.Goals as goal

pub returns-in_default : goal.returns-in_default
returns-in_default c =
    inr (inr (refl, λ ends. strip_suffix_char 10 c.args.text.now None c.in_default.ensures.cases (omega arith) ends.0 ends.1))

pub returns : goal.returns
returns c =
    line_found c.args.text.now c.in-Some.line c.strip_suffix-2.result c.unwrap_or.result
    (strip_suffix_char 10 c.args.text.now (Some c.in-Some.line) c.in-Some.ensures.cases (omega arith))
    (strip_suffix_char 13 c.in-Some.line.now c.strip_suffix-2.result c.strip_suffix-2.ensures.cases (omega arith))
    c.unwrap_or.ensures
