-- Wrapped lines that are yet to become composites.
use Rattle.std.specs.Prelude.{List}
use Rattle.std.specs.Vec.Iter.{into_iter_items}
use Rattle.mad_format.specs.CompositeWraps.{AreComposites}
use Rattle.mad_format.specs.Indents.{follow_up}
use Rattle.mad_format.specs.declared.composite.FmtComposite.{FmtComposite}
use Rattle.mad_format.specs.declared.wrap.LinesLeft.{LinesLeft}

-- the composites are the lines that are left, in order
abbrev pub AreCompositesLeft : LinesLeft → List FmtComposite → Type 0
AreCompositesLeft left cs = AreComposites left.kind (follow_up left.kind) left.indent left.later_indent left.spacing (into_iter_items left.lines) cs
