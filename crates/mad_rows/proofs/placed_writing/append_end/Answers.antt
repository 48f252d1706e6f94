use Rattle.std.proofs.Common.{List, ℕ, ◌++◌, ◌∙◌, ap, string_bytes}
use Rattle.mad_draw.specs.declared.spaces.Spaces.{Spaces}
use Rattle.mad_draw.specs.Pieces.{pieces_bytes, spaces}
use Rattle.mad_rows.proofs.PlacedLemmas.{two_put}
use Rattle.mad_rows.proofs.placed_writing.append_end.Goals as goal

pub returns : goal.returns
returns c =
    let end = c.args.end in
    let mid : List ℕ = string_bytes c.append_blanks.new.rows in
    two_put (string_bytes c.args.rows.now) mid (string_bytes c.append_blanks-2.new.rows) (spaces end.style.now.compound_style end.inner) (spaces end.skin.now.paragraph.compound_style end.outer) c.in_ok-append_blanks.ensures
    (c.in_ok-append_blanks-2.ensures ∙ ap (λ (s : Spaces). mid ++ pieces_bytes (spaces s.style s.count)) c.blanks.ensures)
