use Rattle.std.proofs.Common.{drop, string_bytes}
use Rattle.mad_wrap.specs.Writings.{WritesBefore}
use Rattle.mad_read_rows.specs.ReadRows.{token_bytes}
use Rattle.mad_read_rows.proofs.read_rows.append_tokens.Given as goal

abbrev pub invariant-loop-compound : goal.invariant-loop-compound
invariant-loop-compound l = WritesBefore (token_bytes l.skin l.style) l.later l.max l.compounds (drop l.compound-index l.compounds) l.fn.fit (string_bytes l.fn.rows) l.fit (string_bytes l.rows)
