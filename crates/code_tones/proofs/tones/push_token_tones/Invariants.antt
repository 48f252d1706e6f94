use Rattle.std.proofs.Common.{◌≡◌, ◌+◌, ◌≤◌, ◌++◌, length}
use Rattle.std.specs.Prelude.{replicate}
use Rattle.mad_mark_runs.specs.Values.{AreRising, end_from, joined_from, values_of}
use Rattle.code_tones.specs.Cursor.{tones_left}
use Rattle.code_tones.specs.Tones.{byte_tones}
use Rattle.code_tones.proofs.WalkLemmas.{left_tones}
use Rattle.code_tones.proofs.tones.push_token_tones.Given as goal

abbrev pub invariant-loop-tones : goal.invariant-loop-tones
invariant-loop-tones l = record {
  rising : AreRising 0 l.runs.items;
  few : l.count + length l.rest ≤ length l.text;
  runs : l.runs.items ++ joined_from (end_from 0 l.runs.items) l.value l.count (left_tones (tones_left l.tones) l.rest) ≡ l.fn.runs.items ++ joined_from (end_from 0 l.fn.runs.items) 0 0 (left_tones (byte_tones l.tokens) l.text);
  so_far : values_of l.runs.items ++ (replicate l.count l.value ++ left_tones (tones_left l.tones) l.rest) ≡ values_of l.fn.runs.items ++ left_tones (byte_tones l.tokens) l.text;
}

abbrev pub decreases-loop-tones : goal.decreases-loop-tones
decreases-loop-tones l = length l.rest
