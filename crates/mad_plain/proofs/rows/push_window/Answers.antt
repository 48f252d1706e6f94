use Rattle.std.proofs.Common.{◌++◌, ◌∙◌, ap, sym, arith}
use Rattle.std.proofs.lemmas.List.{append-nil}
use Rattle.mad_characters.proofs.CharColumns.{char_columns-three}
use Rattle.mad_plain.specs.Shown.{shown_so_far, rest_of}
use Rattle.mad_plain.proofs.RowLemmas.{window_past}
use Rattle.mad_plain.proofs.rows.push_window.Goals as goal

pub push_part-requires : goal.push_part-requires
push_part-requires c = omega (arith, char_columns-three c.in-Some.c, c.loop-at-test.true, c.requires)

pub returns : goal.returns
returns c =
    sym (append-nil (shown_so_far c.loop-at.shown))
    ∙ ap (λ l. shown_so_far c.loop-at.shown ++ l) (sym (window_past c.args.a c.args.b c.loop-at.at (rest_of c.loop-at.rest) c.loop-at-test.false))
    ∙ c.loop-at.invariant
