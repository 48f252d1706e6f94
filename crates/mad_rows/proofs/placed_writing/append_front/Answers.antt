use Rattle.std.proofs.Common.{List, ℕ, ◌++◌, ◌∙◌, ap, string_bytes}
use Rattle.mad_draw.specs.declared.spaces.Spaces.{Spaces}
use Rattle.mad_draw.specs.Pieces.{pieces_bytes, spaces}
use Rattle.mad_rows.specs.Rows.{prefix_pieces}
use Rattle.mad_rows.proofs.PlacedLemmas.{three_put}
use Rattle.mad_rows.proofs.placed_writing.append_front.Goals as goal

pub returns : goal.returns
returns c =
    let front = c.args.front in
    let old : List ℕ = string_bytes c.args.rows.now in
    three_put old (string_bytes c.append_blanks.new.rows) (string_bytes c.append_blanks-2.new.rows) (string_bytes c.append_prefix.new.rows) (spaces front.skin.now.paragraph.compound_style front.outer)
    (spaces front.style.now.compound_style front.inner) (prefix_pieces front.skin.now front.kind)
    (c.in_ok-append_blanks.ensures ∙ ap (λ (s : Spaces). old ++ pieces_bytes (spaces s.style s.count)) c.blanks.ensures) c.in_ok-append_blanks-2.ensures c.in_ok-append_prefix.ensures
