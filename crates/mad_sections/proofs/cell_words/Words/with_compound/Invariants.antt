use Rattle.std.proofs.Common.{◌≡◌, ◌++◌, List, chars}
use Rattle.std.specs.Str.{IsUtf8}
use Rattle.std.specs.Str.Iter.{chars_rest}
use Rattle.mad_md.specs.Flagged.{FlaggedChar, flagged, flags_of, flagged_of}
use Rattle.mad_sections.specs.CellWords.{longest_after}
use Rattle.mad_sections.proofs.cell_words.Words.with_compound.Given as goal

abbrev pub invariant-loop-c : goal.invariant-loop-c
invariant-loop-c l = record {
  utf8 : IsUtf8 (chars_rest l.c-iterator);
  so_far : (rest : List FlaggedChar) → longest_after l.words (flagged (flags_of l.compound) (chars (chars_rest l.c-iterator)) ++ rest) ≡ longest_after l.fn.self (flagged_of l.compound ++ rest);
}
