use Rattle.std.proofs.Common.{◌++◌, List, ℕ, ap, ◌∙◌, chars, encode_utf8_all}
use Rattle.mad_steady.specs.Steady.{steady_growing}
use Rattle.mad_stream.proofs.SteadyPieceLemmas.{piece_made, spot_made}
use Rattle.mad_stream.proofs.steadied.steady_piece.Goals as goal

pub returns-clause-text : goal.returns-clause-text
returns-clause-text c =
    piece_made c.args.spot (chars c.args.piece.now) c.as_str.result.now _ c.as_str.utf8 (c.as_str.ensures.value ∙ c.in_ok-text.ensures)
    (c.in_ok-steady.ensures.text ∙ ap (λ (b : List ℕ). b ++ encode_utf8_all (steady_growing c.args.spot.steady (chars c.as_str.result.now))) c.new-shown.ensures.bytes)

pub returns-clause-spot : goal.returns-clause-spot
returns-clause-spot c =
    spot_made c.args.spot (chars c.args.piece.now) c.as_str.result.now c.in_ok-steady.steady c.place_after-printed.result c.as_str.utf8 (c.as_str.ensures.value ∙ c.in_ok-text.ensures) c.in_ok-steady.ensures.place c.place_after-printed.ensures
