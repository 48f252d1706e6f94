use Rattle.std.proofs.Common.{◌≡◌, false, ap, sym, ◌∙◌, subst, rules, lit<, List, ℕ}
use Rattle.std.specs.Str.Lines.{strip_carriage_return}
use Rattle.std.proofs.lemmas.Str.Pattern.{strip_suffix_char}
use Rattle.mad_md.specs.LineKinds.{kind_of_line, MayNotGoOn}
use Rattle.mad_md.proofs.LineKindLemmas.{alone_part, newline_stripped}
use Rattle.mad_md.proofs.line_kinds.line_kind.Goals as goal

pub returns-then-not-may_go_on : goal.returns-then-not-may_go_on
returns-then-not-may_go_on c = λ part is.
    let open_not : c.args.fenced ≡ false = search rules in
    let off : c.may_go_on.result ≡ false = search rules in
    let first : MayNotGoOn c.args.line.now = subst MayNotGoOn c.as_bytes.ensures.value (c.may_go_on.ensures off) in
    sym (ap (λ f. kind_of_line f (strip_carriage_return part)) open_not ∙ alone_part c.args.line.now part first is)

pub returns : goal.returns
returns c = λ part is.
    let cut = ap (λ x. x.now) c.unwrap_or.ensures ∙ newline_stripped c.args.line c.strip_suffix.result (strip_suffix_char 10 _ _ c.strip_suffix.ensures.cases (lit< tt)) part is in
    c.part_kind.ensures ∙ ap (λ (t : List ℕ). kind_of_line c.args.fenced (strip_carriage_return t)) cut
