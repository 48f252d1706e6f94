use Rattle.std.proofs.Common.{ℕ, List, ◌++◌, ap, ◌∙◌}
use Rattle.mad_blocks.specs.PartCursors.{lines_left}
use Rattle.mad_rows.specs.Rows.{text_bytes}
use Rattle.mad_layout.proofs.text_writing.text_rows.Goals as goal

pub returns : goal.returns
returns c =
    let put = c.in_ok-append_parts.ensures in
    (put.0, (lines_left c.new.result, c.new.ensures.reading, put.1), put.2 ∙ ap (λ (b : List ℕ). b ++ text_bytes c.args.skin.now c.args.width put.0) c.new-rows.ensures.bytes)
