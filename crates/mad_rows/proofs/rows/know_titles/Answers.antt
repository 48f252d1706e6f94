use Rattle.std.proofs.Common.{rules}
use Rattle.mad_rows.proofs.rows.know_titles.Goals as goal

pub returns : goal.returns
returns c = record {
  note = search rules;
  tip = search rules;
  important = search rules;
  warning = search rules;
  caution = search rules;
}
