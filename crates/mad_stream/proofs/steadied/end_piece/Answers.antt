use Rattle.std.proofs.Common.{◌++◌, List, ℕ, ap, sym, ◌∙◌, chars, encode_utf8_all}
use Rattle.mad_steady.specs.Steady.{steady_growing}
use Rattle.mad_stream.proofs.PrintedLemmas.{encode_end}
use Rattle.mad_stream.proofs.SteadyPieceLemmas.{end_made}
use Rattle.mad_stream.proofs.steadied.end_piece.Goals as goal

pub returns : goal.returns
returns c =
    end_made c.args.spot c.printed_end.result.now _ _ c.in_ok-place.place c.printed_end.utf8 (c.printed_end.ensures ∙ sym (encode_end c.args.spot.printed))
    (c.in_ok-place.ensures.text ∙ ap (λ (b : List ℕ). b ++ encode_utf8_all (steady_growing c.args.spot.steady (chars c.printed_end.result.now))) c.new-shown.ensures.bytes) c.in_ok-place.ensures.place c.in_ok-push_held.ensures
