-- A text is its lines.
use Rattle.std.specs.Prelude.{◌≡◌, ℕ, List}
use Rattle.markdown_blocks.specs.Lines.{text_lines}
use Rattle.markdown_leaves.specs.Told.{parts_of}

-- Texts with the same lines have the same parts: it doesn't matter how lines end, nor whether the last one does.
abbrev pub LinesAreAll : Type 0
LinesAreAll = (text other : List ℕ) → text_lines text ≡ text_lines other → parts_of text ≡ parts_of other
