use Rattle.std.proofs.Common.{rules}
use Rattle.mad_rows.proofs.rows.know_parts.Goals as goal

pub returns : goal.returns
returns c = record {
  paragraph = search rules;
  bold = search rules;
  italic = search rules;
  strikeout = search rules;
  code = search rules;
  link = search rules;
  picture = search rules;
  picture_sign = search rules;
  ellipsis = search rules;
  code_block = search rules;
  table = search rules;
  bullet = search rules;
  quote_mark = search rules;
  rule = search rules;
  page = c.know_signs.ensures;
  head = search rules;
  titles = c.know_titles.ensures;
}
