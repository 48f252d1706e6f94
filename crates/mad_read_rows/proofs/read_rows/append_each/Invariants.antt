use Rattle.std.proofs.Common.{map, take, string_bytes}
use Rattle.mad_wrap.specs.Words.{alone}
use Rattle.mad_read_rows.specs.ReadRows.{token_bytes}
use Rattle.mad_read_rows.specs.WordRows.{WritesPieces}
use Rattle.mad_read_rows.proofs.read_rows.append_each.Given as goal

abbrev pub invariant-loop-token : goal.invariant-loop-token
invariant-loop-token l = WritesPieces (token_bytes l.skin l.style) l.later l.fn.fit (map alone (take l.token-index l.tokens)) (string_bytes l.fn.rows) l.fit (string_bytes l.rows)
