use Rattle.std.proofs.Common.{[], ◌∷◌, ◌++◌, chars, ap, ◌∙◌, arith, rules}
use Rattle.mad_md.specs.Flagged.{flags_of}
use Rattle.mad_measure.proofs.FlaggedLemmas.{width_of-flagged}
use Rattle.mad_wrap.specs.WrapLines.{runs_of}
use Rattle.mad_wrap.proofs.wrapping.cut_lines.Goals as goal

pub returns : goal.returns
returns c =
    let first = c.in_ok-add.ensures in
    let second = c.in_ok-add-2.ensures in
    let begun1 = c.new-first.ensures in
    let begun2 = c.new-second.ensures in
    record {
      first = c.add.new.self;
      second = c.add-2.new.self;
      lines_are = c.in_ok-push-2.ensures.items ∙ ap (λ l. l ++ c.add-2.new.self ∷ []) (c.in_ok-push.ensures.items ∙ ap (λ l. l ++ c.add.new.self ∷ []) c.new-lines.ensures.items);
      holds_first = record {
        runs_are = ap runs_of (first.text ∙ ap (λ l. l ++ c.args.front ∷ []) begun1.empty);
        columns_are = omega (arith, first.columns, begun1.columns, c.columns.ensures.value, width_of-flagged (flags_of c.args.front) (chars c.args.front.src.now));
      };
      holds_second = record {
        runs_are = ap runs_of (second.text ∙ ap (λ l. l ++ c.args.back ∷ []) begun2.empty);
        columns_are = omega (arith, second.columns, begun2.columns, c.columns-2.ensures.value, width_of-flagged (flags_of c.args.back) (chars c.args.back.src.now));
      };
      first_utf8 = search rules;
      second_utf8 = search rules;
    }
