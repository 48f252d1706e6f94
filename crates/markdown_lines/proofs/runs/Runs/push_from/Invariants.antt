use Rattle.std.proofs.Common.{◌≡◌, ◌≤◌, ◌++◌, length}
use Rattle.std.specs.Prelude.{string_bytes, encode_utf8}
use Rattle.markdown_lines.specs.Glyphs.{runs_from}
use Rattle.markdown_lines.specs.Said.{said}
use Rattle.markdown_lines.proofs.runs.Runs.push_from.Given as goal

abbrev pub invariant-loop-rest : goal.invariant-loop-rest
invariant-loop-rest l = record {
  same : said l.self ++ runs_from l.begun (string_bytes l.text) l.rest ≡ said l.fn.self ++ runs_from l.fn.first (encode_utf8 l.fn.first.c) l.others;
  grows : length (said l.fn.self) ≤ length (said l.self);
}

abbrev pub decreases-loop-rest : goal.decreases-loop-rest
decreases-loop-rest l = length l.rest
