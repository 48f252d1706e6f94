use Rattle.std.proofs.Common.{◌+◌, ◌-◌, drop, length, string_bytes}
use Rattle.std.specs.Str.{IsCharBoundary}
use Rattle.mad_measure.specs.Tokens.{AreTokensOf}
use Rattle.mad_read_rows.specs.ReadRows.{token_bytes}
use Rattle.mad_read_rows.proofs.WordRowLemmas.{WordsTo, AreLeft}
use Rattle.mad_read_rows.proofs.read_rows.append_words.Given as goal

abbrev pub invariant-loop-index : goal.invariant-loop-index
invariant-loop-index l = record { words : WordsTo (token_bytes l.skin l.style) l.later l.limit l.compounds (AreTokensOf l.limit (drop l.index l.compounds)) l.fn.fit (string_bytes l.fn.rows) l.word.items l.width l.is_loose l.fit (string_bytes l.rows) }

abbrev pub invariant-loop-at : goal.invariant-loop-at
invariant-loop-at l = record {
  border : IsCharBoundary l.compound.src.now l.at;
  words : WordsTo (token_bytes l.skin l.style) l.later l.limit l.compounds (AreLeft l.limit l.compound l.at (drop (l.index + 1) l.compounds)) l.fn.fit (string_bytes l.fn.rows) l.word.items l.width l.is_loose l.fit (string_bytes l.rows);
}

abbrev pub decreases-loop-at : goal.decreases-loop-at
decreases-loop-at l = length l.compound.src.now - l.at
