use Rattle.std.proofs.Common.{length, arith}
use Rattle.std.specs.Prelude.{codes}
use Rattle.markdown_spans.proofs.NeedleLemmas.{last_end}
use Rattle.markdown_spans.proofs.html.no_ends.Goals as goal

pub returns : goal.returns
returns c =
    let text = c.args.text.now in
    let here = length text in
    record {
      comment = last_end (codes "-->") text here (omega arith) (omega arith);
      instruction = last_end (codes "?>") text here (omega arith) (omega arith);
      cdata = last_end (codes "]]>") text here (omega arith) (omega arith);
      declaration = last_end (codes ">") text here (omega arith) (omega arith);
    }
