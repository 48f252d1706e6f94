use Rattle.std.proofs.Common.{◌≡◌, ◌++◌, length}
use Rattle.std.specs.Prelude.{chars, encode_utf8_all, string_bytes}
use Rattle.std.specs.Str.{IsUtf8}
use Rattle.mad_steady.specs.Steady.{steady_growing, place_behind}
use Rattle.mad_steady.proofs.steady_text.push_steady_piece.Given as goal

abbrev pub invariant-loop-c : goal.invariant-loop-c
invariant-loop-c l = record {
  utf8 : IsUtf8 l.rest;
  so_far : string_bytes l.shown ++ encode_utf8_all (steady_growing l.place (chars l.rest)) ≡ string_bytes l.fn.shown ++ encode_utf8_all (steady_growing l.fn.place (chars l.piece));
  behind : place_behind l.place (chars l.rest) ≡ place_behind l.fn.place (chars l.piece);
}

abbrev pub decreases-loop-c : goal.decreases-loop-c
decreases-loop-c l = length l.rest
