use Rattle.std.proofs.Common.{◌≡◌, length, map, ap, ◌∙◌}
use Rattle.std.proofs.lemmas.List.Elements.{All-same}
use Rattle.markdown_emphasis.specs.Matching.{matches}
use Rattle.markdown_emphasis.specs.Pairs.{IsWithin}
use Rattle.markdown_emphasis.specs.Pieces.{places_of, runs_of, moved, pairs_of}
use Rattle.markdown_emphasis.proofs.PieceLemmas.{pairs_of-within}
use Rattle.markdown_emphasis.proofs.pieces.flag_runs.Goals as goal

pub flag_pieces-requires : goal.flag_pieces-requires
flag_pieces-requires c =
    let pieces = c.args.pieces.now in
    let pairs : c.deref-2.result.now ≡ matches (runs_of pieces) = c.deref-2.ensures.value ∙ c.in_ok-pairs.ensures.matched ∙ ap matches (c.deref.ensures.value ∙ c.in_ok-runs.ensures) in
    let places : c.deref-3.result.now ≡ places_of pieces = c.deref-3.ensures.value ∙ c.in_ok-places.ensures in
    let same : c.deref-4.result.now ≡ pairs_of pieces =
    c.deref-4.ensures.value ∙ c.in_ok-pairs-2.ensures ∙ ap (λ l. map (moved l) c.deref-2.result.now) places ∙ ap (map (moved (places_of pieces))) pairs in
    All-same (IsWithin (length pieces)) c.deref-4.result.now (pairs_of pieces) same (pairs_of-within pieces)
