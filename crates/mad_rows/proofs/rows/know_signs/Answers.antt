use Rattle.std.proofs.Common.{rules}
use Rattle.mad_rows.proofs.rows.know_signs.Goals as goal

pub returns : goal.returns
returns c = record {
  task = search rules;
  done = search rules;
  note = search rules;
  tip = search rules;
  important = search rules;
  warning = search rules;
  caution = search rules;
  below_first = search rules;
  below_others = search rules;
}
