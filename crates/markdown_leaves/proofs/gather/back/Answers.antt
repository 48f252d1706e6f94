use Rattle.std.proofs.Common.{◌∙◌, sym, ap, map}
use Rattle.std.proofs.lemmas.List.{drop-map}
use Rattle.markdown_marks.specs.Remaining.{remaining}
use Rattle.markdown_leaves.proofs.gather.back.Goals as goal

pub returns : goal.returns
returns c = ap (map remaining) c.split_at.ensures.back ∙ sym (drop-map remaining c.args.count c.args.lines.now)
