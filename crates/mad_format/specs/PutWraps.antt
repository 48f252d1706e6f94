-- What wrapping compounds puts after the lines that are there.
use Rattle.std.specs.Prelude.{◌≡◌, ℕ, List, ◌++◌, map, Option}
use Rattle.mad_md.specs.declared.compound.Compound.{Compound}
use Rattle.mad_style.specs.declared.kinds.CompositeKind.{CompositeKind}
use Rattle.mad_measure.specs.declared.spacing.Spacing.{Spacing}
use Rattle.mad_wrap.specs.LeastWords.{IsWrapOf}
use Rattle.mad_wrap.specs.WrapLines.{compounds_of, AreCounted}
use Rattle.mad_wrap.specs.declared.room.Room.{Room}
use Rattle.mad_wrap.specs.declared.wrapped_line.WrappedLine.{WrappedLine}
use Rattle.mad_format.specs.CompositeWraps.{AreComposites}
use Rattle.mad_format.specs.Indents.{follow_up}
use Rattle.mad_format.specs.WrappedLines.{line_with}
use Rattle.mad_format.specs.declared.composite.FmtComposite.{FmtComposite}
use Rattle.mad_format.specs.declared.line.FmtLine.{FmtLine}

-- after the lines that were there come wrapped lines as composites with these margins: the first of this kind, the others of the kind that
-- follows it
abbrev pub PutsLines : Room → CompositeKind → Option Spacing → ℕ × ℕ → List WrappedLine → List FmtLine → List FmtLine → Type 0
PutsLines room kind spacing margins wrapped old new =
    (composites : List FmtComposite) × (new ≡ old ++ map (line_with margins) composites) × AreComposites kind (follow_up kind) room.first room.other spacing wrapped composites

-- so do the lines that these compounds are wrapped into in their room
abbrev pub PutsWrap : Room → List Compound → CompositeKind → Option Spacing → ℕ × ℕ → List FmtLine → List FmtLine → Type 0
PutsWrap room compounds kind spacing margins old new =
    (wrapped : List WrappedLine) × IsWrapOf room compounds (compounds_of wrapped) × AreCounted wrapped × PutsLines room kind spacing margins wrapped old new
