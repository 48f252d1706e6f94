-- A composite that was read and laid out at once, measured no further than to where it passes the width.
use Rattle.std.proofs.Common.{◌≡◌, ℕ, ◌+◌, ◌-◌, ◌<◌, ◌≤◌, ◌^◌, inl, inr, List, [], ◌∷◌, ◌++◌, map, None, Some, Vec, Global, refl, ap, ◌∙◌, arith, subst}
use Rattle.std.proofs.lemmas.Bool.Decides.{nat_tests}
use Rattle.mad_md.specs.declared.compound.Compound.{Compound}
use Rattle.mad_md.specs.declared.composite.CompositeStyle.{CompositeStyle}
use Rattle.mad_md.specs.Flagged.{run_of, flagged_text}
use Rattle.mad_md.specs.Lines.{StyledRuns}
use Rattle.mad_md.specs.TypedLines.{IsTypedText}
use Rattle.mad_style.specs.Kinds.{kind_of}
use Rattle.mad_style.specs.LineStyles.{margins_at}
use Rattle.mad_style.specs.declared.line_styles.LineStyle.{LineStyle}
use Rattle.mad_style.specs.declared.kinds.CompositeKind.{CompositeKind}
use Rattle.mad_measure.specs.TextColumns.{width_of}
use Rattle.mad_wrap.specs.LeastWords.{IsWrapOf}
use Rattle.mad_wrap.specs.WrapLines.{capped, compounds_of, AreCounted}
use Rattle.mad_wrap.specs.declared.room.Room.{Room}
use Rattle.mad_wrap.specs.declared.wrapped_line.WrappedLine.{WrappedLine}
use Rattle.mad_format.specs.CompositeWraps.{AreComposites}
use Rattle.mad_format.specs.Indents.{follow_up, room_of}
use Rattle.mad_format.specs.FmtLines.{IsCompositeRead}
use Rattle.mad_format.specs.WrappedLines.{IsWrapped, line_with, style_margins}
use Rattle.mad_format.specs.LineRules.{LineRules}
use Rattle.mad_format.specs.PutWraps.{PutsLines}
use Rattle.mad_format.specs.declared.composite.FmtComposite.{FmtComposite}
use Rattle.mad_format.specs.declared.line.FmtLine.{FmtLine}
use Rattle.mad_format.specs.declared.line.FmtLine.TheVariants.{Normal}
use Rattle.mad_format.proofs.WrapLemmas.{composite_wrap}

-- margins leave something of the width, or nothing
pub margins-le : (style : LineStyle) (width : ℕ) → (margins_at style (Some width)).0 + (margins_at style (Some width)).1 ≤ width
margins-le style width = grind (arith, nat_tests)

-- a composite that is too wide, by its cached length
pub pushed_wrap : (skin : LineRules) (width : ℕ) (source : FmtComposite) (margins : ℕ × ℕ) (r : Room) (wrapped : List WrappedLine) (old new : List FmtLine)
    → margins ≡ style_margins skin width source → r ≡ room_of skin source.kind (width - margins.0 - margins.1) → width - margins.0 - margins.1 < source.visible_length
    → IsWrapOf r source.compounds.items (compounds_of wrapped) → AreCounted wrapped → PutsLines r source.kind source.spacing margins wrapped old new
    → (own : List FmtLine) × (new ≡ old ++ own) × IsWrapped skin width source own
pushed_wrap skin width source margins r wrapped old new margins_are room_is wide wrap counted (composites, pushed, are) =
    let own : ℕ × ℕ = style_margins skin width source in
    let same : room_of skin source.kind (width - margins.0 - margins.1) ≡ room_of skin source.kind (width - own.0 - own.1) = ap (λ (m : ℕ × ℕ). room_of skin source.kind (width - m.0 - m.1)) margins_are in
    let room : r ≡ room_of skin source.kind (width - own.0 - own.1) = room_is ∙ same in
    let wider : width < source.visible_length + own.0 + own.1 = subst (λ (m : ℕ × ℕ). width < source.visible_length + m.0 + m.1) margins_are (omega (arith, wide)) in (
      map (line_with margins) composites,
      pushed,
      inr (
        wider,
        (
          composites,
          composite_wrap skin (width - own.0 - own.1) source wrapped composites (subst (λ (q : Room). IsWrapOf q source.compounds.items (compounds_of wrapped)) room wrap) counted
              (subst (λ (q : Room). AreComposites source.kind (follow_up source.kind) q.first q.other source.spacing wrapped composites) room are),
          ap (λ (m : ℕ × ℕ). map (line_with m) composites) margins_are,
        ),
      ),
    )

-- what becomes of a composite that was read
abbrev pub IsReadAndPushed : LineRules → ℕ → StyledRuns → List FmtLine → List FmtLine → Type 0
IsReadAndPushed skin width said old new = (source : FmtComposite) × IsCompositeRead skin said source × (own : List FmtLine) × (new ≡ old ++ own) × IsWrapped skin width source own

abbrev said_by : CompositeStyle → Vec Compound Global → StyledRuns
said_by style compounds = record { style = style; runs = map run_of compounds.items }

-- one that fits
pub read_fits : (skin : LineRules) (width columns : ℕ) (style : CompositeStyle) (kind : CompositeKind) (compounds : Vec Compound Global) (margins : ℕ × ℕ) (r : Room) (old new : List FmtLine)
    → kind ≡ kind_of style → margins ≡ margins_at (skin.line_style kind) (Some width) → r ≡ room_of skin kind (width - margins.0 - margins.1) → columns ≡ width_of (flagged_text compounds.items)
    → r.first + columns ≤ r.width → width < 2 ^ 64
    → new ≡ old ++ Normal (record { kind = kind; compounds = compounds; visible_length = r.first + columns; spacing = None; margins = Some margins }) ∷ [] → IsTypedText (said_by style compounds)
    → IsReadAndPushed skin width (said_by style compounds) old new
read_fits skin width columns style kind compounds margins r old new kind_is margins_are room_is measured fits range pushed typed =
    let source : FmtComposite = record { kind = kind; compounds = compounds; visible_length = r.first + columns; spacing = None; margins = None } in
    let own : ℕ × ℕ = style_margins skin width source in
    let first : r.first ≡ (room_of skin kind (width - margins.0 - margins.1)).first = ap (λ (q : Room). q.first) room_is in
    let across : r.width ≡ width - margins.0 - margins.1 = ap (λ (q : Room). q.width) room_is in
    let within : own.0 + own.1 ≤ width = margins-le (skin.line_style kind) width in
    let left : margins.0 ≡ own.0 = ap (λ (m : ℕ × ℕ). m.0) margins_are in
    let right : margins.1 ≡ own.1 = ap (λ (m : ℕ × ℕ). m.1) margins_are in (
      source,
      record { kind = kind_is; text = refl; measured = omega (arith, first, measured, fits, across, range); spacing = refl; margins = refl; known = typed },
      line_with margins source ∷ [],
      pushed,
      inl (omega (arith, fits, across, within, left, right), ap (λ (m : ℕ × ℕ). line_with m source ∷ []) margins_are),
    )

-- one that is wider than the width
pub read_wraps : (skin : LineRules) (width : ℕ) (style : CompositeStyle) (kind : CompositeKind) (compounds : Vec Compound Global) (margins : ℕ × ℕ) (r : Room) (wrapped : List WrappedLine) (old new : List FmtLine)
    → kind ≡ kind_of style → margins ≡ margins_at (skin.line_style kind) (Some width) → r ≡ room_of skin kind (width - margins.0 - margins.1)
    → r.width < r.first + width_of (flagged_text compounds.items) → width < 2 ^ 64 - 1
    → IsWrapOf r compounds.items (compounds_of wrapped) → AreCounted wrapped → PutsLines r kind None margins wrapped old new → IsTypedText (said_by style compounds)
    → IsReadAndPushed skin width (said_by style compounds) old new
read_wraps skin width style kind compounds margins r wrapped old new kind_is margins_are room_is wide range wrap counted are typed =
    let length = (room_of skin kind width).first + width_of (flagged_text compounds.items) in
    let source : FmtComposite = record { kind = kind; compounds = compounds; visible_length = capped length; spacing = None; margins = None } in
    let first : r.first ≡ (room_of skin kind (width - margins.0 - margins.1)).first = ap (λ (q : Room). q.first) room_is in
    let across : r.width ≡ width - margins.0 - margins.1 = ap (λ (q : Room). q.width) room_is in
    let pushed = pushed_wrap skin width source margins r wrapped old new margins_are room_is (omega (arith, wide, first, across, range)) wrap counted are in (
      source,
      record { kind = kind_is; text = refl; measured = refl; spacing = refl; margins = refl; known = typed },
      pushed.0,
      pushed.1,
      pushed.2,
    )
