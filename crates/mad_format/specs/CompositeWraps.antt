-- What a composite that doesn't fit is wrapped into.
use Rattle.std.specs.Prelude.{◌≡◌, ℕ, ◌+◌, List, [], ◌∷◌, map, Option, None}
use Rattle.std.specs.List.{AllByRecursion}
use Rattle.mad_md.specs.declared.compound.Compound.{Compound}
use Rattle.mad_style.specs.declared.kinds.CompositeKind.{CompositeKind}
use Rattle.mad_measure.specs.declared.spacing.Spacing.{Spacing}
use Rattle.mad_wrap.specs.LeastWords.{IsWrapOf}
use Rattle.mad_wrap.specs.WrapLines.{capped}
use Rattle.mad_wrap.specs.declared.wrapped_line.WrappedLine.{WrappedLine}
use Rattle.mad_format.specs.Indents.{follow_up, room_of}
use Rattle.mad_format.specs.Wraps.{IsMeasured}
use Rattle.mad_format.specs.LineRules.{LineRules}
use Rattle.mad_format.specs.declared.composite.FmtComposite.{FmtComposite}

-- the compounds of each line
abbrev pub line_compounds : List FmtComposite → List (List Compound)
line_compounds lines = map (λ l. l.compounds.items) lines

-- the first line is of the source's kind, and the others of the kind that follows it
abbrev pub HaveKinds : CompositeKind → CompositeKind → List FmtComposite → Type 0
HaveKinds first other [] = Unit {0}
HaveKinds first other (l ∷ ls) = (l.kind ≡ first) × HaveKinds other other ls

-- What the lines of a wrapped composite have beside their compounds: their kinds, their cached lengths, the source's spacing, and no
-- margins.
pub record AreLinesOf (skin : LineRules) (source : FmtComposite) (lines : List FmtComposite) : Type 0 where
  pub kinds : HaveKinds source.kind (follow_up source.kind) lines
  pub measured : AllByRecursion (IsMeasured skin) lines
  pub spacing : AllByRecursion (λ l. l.spacing ≡ source.spacing) lines
  pub margins : AllByRecursion (λ l. l.margins ≡ None) lines

-- The lines are the composite wrapped at a width: its compounds are wrapped in the room of its kind.
pub record IsCompositeWrap (skin : LineRules) (width : ℕ) (source : FmtComposite) (lines : List FmtComposite) : Type 0 where
  pub wrap : IsWrapOf (room_of skin source.kind width) source.compounds.items (line_compounds lines)
  pub made : AreLinesOf skin source lines

-- a wrapped line as a composite of this kind, with the columns in front of it
abbrev pub composite_of : CompositeKind → ℕ → Option Spacing → WrappedLine → FmtComposite
composite_of kind indent spacing l = record { kind = kind; compounds = l.compounds; visible_length = capped (l.columns + indent); spacing = spacing; margins = None }

-- the composites are these lines, the first of this kind and with this indent
abbrev pub AreComposites : CompositeKind → CompositeKind → ℕ → ℕ → Option Spacing → List WrappedLine → List FmtComposite → Type 0
AreComposites kind other indent next spacing [] cs = cs ≡ []
AreComposites kind other indent next spacing (l ∷ ls) [] = ⊥
AreComposites kind other indent next spacing (l ∷ ls) (c ∷ cs) =
    (c ≡ composite_of kind indent spacing l) × AreComposites other other next next spacing ls cs
