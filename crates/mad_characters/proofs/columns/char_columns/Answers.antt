use Rattle.std.proofs.Common.{◌≡◌, rules, arith}
use Rattle.mad_characters.specs.Columns.{char_columns}
use Rattle.mad_characters.proofs.CharColumns.{char_columns-le, char_columns-three}
use Rattle.mad_characters.proofs.columns.char_columns.Goals as goal

pub returns-clause-value : goal.returns-clause-value
unfolding char_columns
returns-clause-value c = search rules

pub returns-clause-bytes : goal.returns-clause-bytes
unfolding char_columns
returns-clause-bytes c = omega (arith, char_columns-le c.args.c, (let e : c.unwrap_or.result ≡ char_columns c.args.c = search rules in e))

pub returns-clause-most : goal.returns-clause-most
unfolding char_columns
returns-clause-most c = omega (arith, char_columns-three c.args.c, (let e : c.unwrap_or.result ≡ char_columns c.args.c = search rules in e))
