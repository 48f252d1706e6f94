use Rattle.std.proofs.Common.{◌<◌, ℕ, ◌++◌, List, length, map, get_or, ap, ◌∙◌, arith}
use Rattle.std.specs.Prelude.{string_bytes}
use Rattle.markdown_pieces.specs.declared.pieces.Piece.{Piece}
use Rattle.markdown_lines.specs.Names.{piece_names}
use Rattle.markdown_lines.proofs.NameLemmas.{no_piece, piece_cut, names_more, names_end}
use Rattle.markdown_lines.proofs.names.names_of.Goals as goal

pub push_piece-requires : goal.push_piece-requires
push_piece-requires c =
    let next = piece_cut c.args.text.now c.loop-index.at c.loop-index.index c.args.pieces.now (omega (arith, c.loop-index-test.true)) c.loop-index.invariant.cut in
    omega (arith, next.0, ap length c.as_bytes.ensures.value)

pub loop-index-preserved : goal.loop-index-preserved
loop-index-preserved c =
    let text : List ℕ = c.args.text.now in
    let at : ℕ = c.loop-index.at in
    let i : ℕ = c.loop-index.index in
    let ps : List Piece = c.args.pieces.now in
    let within : i < length ps = omega (arith, c.loop-index-test.true) in
    let names : List (List ℕ) = map string_bytes c.loop-index.names.items in
    record {
      cut = (piece_cut text at i ps within c.loop-index.invariant.cut).1;
      names = names_more text at i ps names (map string_bytes c.push_piece.new.names.items) _ within
          (c.in_ok-push_piece.ensures ∙ ap (λ (t : List ℕ). names ++ piece_names t at (get_or ps i no_piece)) c.as_bytes.ensures.value) c.loop-index.invariant.names;
    }

pub returns : goal.returns
returns c = names_end c.args.text.now c.loop-index.at c.loop-index.index c.args.pieces.now (map string_bytes c.loop-index.names.items) _ (omega (arith, c.loop-index-test.false)) c.loop-index.invariant.names
