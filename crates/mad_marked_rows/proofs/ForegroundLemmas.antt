-- A style put over another that sets a foreground alone.
use Rattle.std.proofs.Common.{◌≡◌, ℕ, zero, suc, Bool, true, false, cond, List, [], ◌∷◌, Option, Some, None, refl, ap, ◌∙◌, subst}
use Rattle.std.specs.Prelude.{◌^◌, ◌-◌, slice_get, option_and_then}
use Rattle.std.specs.Option.{option_or}
use Rattle.std.specs.List.{AllByRecursion}
use Rattle.std.specs.Int.Bits.{bit_or, or_zero_r}
use Rattle.mad_md.specs.Flagged.{Flags}
use Rattle.mad_term.specs.Attributes.{attribute_bits, has_attribute}
use Rattle.mad_term.specs.declared.attribute.Attribute.TheVariants as attributes
use Rattle.std.specs.Int.RustNames.{bit_and}
use Rattle.mad_term.specs.AttributeSets.{united}
use Rattle.mad_term.proofs.SameAttributes.{same_bits}
use Rattle.mad_term.specs.declared.color.Color.{Color}
use Rattle.mad_term.specs.declared.attributes.Attributes.{Attributes}
use Rattle.mad_term.specs.declared.styles.ContentStyle.{ContentStyle}
use Rattle.mad_screen.specs.Glyph.{Look}
use Rattle.mad_screen.specs.Grid.{plain_pen}
use Rattle.mad_screen.specs.Painting.{look_of_style, shown_color}
use Rattle.mad_style.specs.declared.compound_styles.CompoundStyle.{CompoundStyle}
use Rattle.mad_style.specs.declared.kinds.CompositeKind.{CompositeKind}
use Rattle.mad_format.specs.declared.line.FmtLine.{FmtLine}
use Rattle.mad_rows.specs.Rows.{line_pieces}
use Rattle.mad_rows.specs.declared.row_skin.RowSkin.{RowSkin}
use Rattle.mad_mark_runs.specs.declared.mark_runs.MarkRun.{MarkRun}
use Rattle.mad_marked_rows.specs.RowLaws.{AreTexts}
use Rattle.mad_marked_rows.specs.MarkedRows.{marked_line}
use Rattle.mad_marked_rows.proofs.LawLemmas.{line_told}
use Rattle.mad_marked_rows.specs.Told.{told_cells}
use Rattle.mad_marked_rows.specs.Paints.{paint_by, painted}
use Rattle.mad_marked_rows.specs.ToneLaws.{but_foreground, SetsForegroundAlone}

-- another foreground, by whether a reset is written
by_reset : (t : Bool) (plain : Look) (f g b u : Option Color) (codes : ℕ)
    → but_foreground (cond t plain (record { fg = f; bg = b; underline = u; codes = codes })) ≡ but_foreground (cond t plain (record { fg = g; bg = b; underline = u; codes = codes }))
by_reset true plain f g b u codes = refl
by_reset false plain f g b u codes = refl

other_foreground : (s : ContentStyle) (f : Option Color) → but_foreground (look_of_style (record s { foreground_color = f })) ≡ but_foreground (look_of_style s)
other_foreground s f =
    let codes = bit_and (attribute_bits s.attributes) (2 ^ 24 - 2 ^ 1) in
    by_reset (has_attribute s.attributes attributes.Reset) (record plain_pen { codes = codes }) (option_and_then shown_color f) (option_and_then shown_color s.foreground_color) (option_and_then shown_color s.background_color)
    (option_and_then shown_color s.underline_color) codes

painted_told : (o : Option CompoundStyle) (style : ContentStyle) → ((over : CompoundStyle) → o ≡ Some over → SetsForegroundAlone over) → but_foreground (look_of_style (painted o style)) ≡ but_foreground (look_of_style style)
painted_told None style h = refl
painted_told (Some over) style h =
    let own = h over refl in
    let fg : Option Color = option_or over.object_style.foreground_color style.foreground_color in
    let bits : attribute_bits (united style.attributes over.object_style.attributes) ≡ attribute_bits style.attributes =
    ap (λ (n : ℕ). bit_or (attribute_bits style.attributes) n) own.attributes ∙ or_zero_r (attribute_bits style.attributes) in
    ap (λ (a : Attributes). but_foreground (look_of_style (record style { foreground_color = fg; background_color = option_or over.object_style.background_color style.background_color; attributes = a })))
    (same_bits (united style.attributes over.object_style.attributes) style.attributes bits)
    ∙ ap (λ (b : Option Color). but_foreground (look_of_style (record style { foreground_color = fg; background_color = option_or b style.background_color }))) own.background
    ∙ other_foreground style fg

at : (styles : List CompoundStyle) (n : ℕ) (over : CompoundStyle) → AllByRecursion SetsForegroundAlone styles → slice_get styles n ≡ Some over → SetsForegroundAlone over
at [] n over h e = absurd (let k = e in cc)
at (s ∷ ss) zero over h e = let same : s ≡ over = cc in subst SetsForegroundAlone same h.0
at (s ∷ ss) (suc n) over h e = at ss n over h.1 e

tells_nothing : (styles : List CompoundStyle) → AllByRecursion SetsForegroundAlone styles → (v : ℕ) (style : ContentStyle) → but_foreground (look_of_style (paint_by styles v style)) ≡ but_foreground (look_of_style style)
tells_nothing styles h zero style = refl
tells_nothing styles h (suc n) style = painted_told (slice_get styles n) style (λ over e. at styles n over h e)

-- THE LAW: where styles set a foreground alone, nothing else changes in the cells of a line
pub foregrounds_alone : (styles : List CompoundStyle) (has : CompositeKind → Flags → Bool) (runs : List MarkRun) (skin : RowSkin) (outer : Option ℕ) (filled : Bool) (numbers : List ℕ) (line : FmtLine) → AllByRecursion SetsForegroundAlone styles → AreTexts line
    → told_cells but_foreground (marked_line (paint_by styles) has runs skin outer filled numbers line) ≡ told_cells but_foreground (line_pieces skin outer filled line)
foregrounds_alone styles has runs skin outer filled numbers line h texts = line_told but_foreground (paint_by styles) has runs skin outer filled numbers line (tells_nothing styles h) texts
