-- A piece that is written over a background, and a piece after it that has one of its own.
use Rattle.std.proofs.Common.{◌≡◌, ℕ, ◌+◌, Bool, true, false, cond, eqb, List, [], ◌∷◌, ◌++◌, length, Option, Some, None, refl, ap, sym, ◌∙◌, subst, arith, length-append, IsUtf8}
use Rattle.std.specs.Prelude.{IsAscii, ◌||◌, not, is_some}
use Rattle.std.specs.Option.{option_or}
use Rattle.std.specs.Int.{bit_at}
use Rattle.std.specs.Str.{chars}
use Rattle.std.proofs.lemmas.Bool.Decides.{nat_tests}
use Rattle.std.proofs.lemmas.Str.{chars-IsAscii, IsUtf8-append, IsUtf8-from_ascii}
use Rattle.mad_term.specs.declared.attribute.Attribute.TheVariants.{Reset}
use Rattle.mad_term.specs.declared.color.Color.{Color}
use Rattle.mad_term.specs.declared.styles.ContentStyle.{ContentStyle}
use Rattle.mad_term.specs.Attributes.{attribute_bits, has_attribute}
use Rattle.mad_term.specs.Color.{IsColor, IsColorOrNone}
use Rattle.mad_term.specs.Commands.{sgr_bytes}
use Rattle.mad_term.specs.Styles.{color_numbers, foreground_bytes, background_bytes, underline_bytes, attributes_bytes, present_bytes, opening_bytes, closing_bytes, piece_bytes, IsStyle}
use Rattle.mad_screen.specs.Glyph.{Glyph, Look}
use Rattle.mad_screen.specs.Grid.{Grid, plain_pen, painted}
use Rattle.mad_screen.specs.Terminal.{Leads, resting, after_bytes}
use Rattle.mad_screen.specs.Painting.{cells_of, piece_cells, IsShown, HasColumns, Paints, shown_color, look_of_style}
use Rattle.mad_screen.proofs.AsciiCommands.{ascii_color, ascii_opening, ascii_closing}
use Rattle.mad_screen.proofs.CodeLemmas.{bits_to}
use Rattle.mad_screen.proofs.CommandsRead.{sgr_read}
use Rattle.mad_screen.proofs.PaintingLemmas.{text_leads, painted-append, painted_columns, fewer_columns}
use Rattle.mad_screen.proofs.Paints.{read_leads, paints_piece}
use Rattle.mad_screen.proofs.Reading.{then_leads, nothing_leads}
use Rattle.mad_screen.proofs.ReadingBack.{read_was, read_in_turn}
use Rattle.mad_style.specs.declared.compound_styles.CompoundStyle.{CompoundStyle}
use Rattle.mad_list_columns.specs.Drawing.{selected_background}
use Rattle.mad_list_columns.specs.Shown.{between_style}
use Rattle.mad_screen.proofs.StyleLemmas.{with_pen, shown, sgr_leads, color_small, background_restyles, foreground_leads, underline_leads, attributes_leads, closing_leads}

-- ---- pens that are plain but for a background

abbrev backed : Option Color → Look
backed b = record plain_pen { bg = b }

-- the background after a style's, where there was one before
abbrev over : Option Color → Option Color → Option Color
over before None = before
over before (Some c) = shown_color c

-- and after the default of a style's background
abbrev left_over : Option Color → Option Color → Option Color
left_over before None = before
left_over before (Some c) = None

-- the pen of a style by its parts, and the colors that it keeps before its attributes
abbrev look_at : Bool → Option Color → Option Color → Option Color → ℕ → Look
look_at b f g u n = cond b (record plain_pen { codes = n }) (record { fg = f; bg = g; underline = u; codes = n })

abbrev colors_of : Bool → Look → Look
colors_of true p = plain_pen
colors_of false p = p

-- the pen that a style writes with over a background
abbrev pub look_over : Option Color → ContentStyle → Look
look_over before s = look_at (has_attribute s.attributes Reset) (shown s.foreground_color) (over before s.background_color) (shown s.underline_color) (bits_to (attribute_bits s.attributes) 24)

-- the line between two cells of the selected row
over_same : (o : Option Color) → over (shown_color selected_background) o ≡ shown (option_or o (Some selected_background))
over_same None = refl
over_same (Some c) = refl

-- the border of a selected row has its background
pub look_between : (table : CompoundStyle) → look_over (shown_color selected_background) table.object_style ≡ look_of_style (between_style table true).object_style
look_between table =
    let s : ContentStyle = table.object_style in
    ap (λ (b : Option Color). look_at (has_attribute s.attributes Reset) (shown s.foreground_color) b (shown s.underline_color) (bits_to (attribute_bits s.attributes) 24)) (over_same s.background_color)

background_over : (g : Grid) (before o : Option Color) → IsColorOrNone o → Leads (resting (with_pen g (backed before))) (present_bytes background_bytes o) (resting (with_pen g (backed (over before o))))
background_over g before None h = nothing_leads _
background_over g before (Some c) h = sgr_leads (with_pen g (backed before)) (color_numbers 48 c) _ (color_small 48 c (omega arith) h) (background_restyles c (backed before) h)

kept_colors : (b : Bool) (f g u : Option Color) (n : ℕ) → record (colors_of b (record { fg = f; bg = g; underline = u; codes = 0 })) { codes = n } ≡ look_at b f g u n
kept_colors true f g u n = refl
kept_colors false f g u n = refl

opening_over : (g : Grid) (before : Option Color) (s : ContentStyle) → IsStyle s → Leads (resting (with_pen g (backed before))) (opening_bytes s) (resting (with_pen g (look_over before s)))
opening_over g before s known =
    let b : Option Color = over before s.background_color in
    let f : Option Color = shown s.foreground_color in
    let u : Option Color = shown s.underline_color in
    let colored : Look = record { fg = f; bg = b; underline = u; codes = 0 } in
    let reset : Bool = has_attribute s.attributes Reset in
    then_leads _ _ _ (present_bytes background_bytes s.background_color) (present_bytes foreground_bytes s.foreground_color ++ (present_bytes underline_bytes s.underline_color ++ attributes_bytes s.attributes)) (background_over g before s.background_color known.background)
    (then_leads _ _ _ (present_bytes foreground_bytes s.foreground_color) (present_bytes underline_bytes s.underline_color ++ attributes_bytes s.attributes) (foreground_leads g b s.foreground_color known.foreground)
    (then_leads _ _ _ (present_bytes underline_bytes s.underline_color) (attributes_bytes s.attributes) (underline_leads g b f s.underline_color known.underline)
    (subst (λ (q : Look). Leads (resting (with_pen g colored)) (attributes_bytes s.attributes) (resting (with_pen g q))) (kept_colors reset f b u (bits_to (attribute_bits s.attributes) 24))
    (attributes_leads g colored s.attributes refl))))

-- ---- after a piece

no_underline : (o : Option Color) (t : Bool) → (is_some o || t) ≡ false → o ≡ None
no_underline None t h = refl
no_underline (Some c) t h = absurd (cc)

no_attribute : (o : Option Color) (n : ℕ) → (is_some o || not (eqb n 0)) ≡ false → n ≡ 0
no_attribute None n h = grind (arith, nat_tests)
no_attribute (Some c) n h = absurd (cc)

colored_over : (before : Option Color) (s : ContentStyle) → (is_some s.underline_color || not (eqb (attribute_bits s.attributes) 0)) ≡ false → look_over before s ≡ record plain_pen { fg = shown s.foreground_color; bg = over before s.background_color }
colored_over before s h =
    let f : Option Color = shown s.foreground_color in
    let b : Option Color = over before s.background_color in
    let none : attribute_bits s.attributes ≡ 0 = no_attribute s.underline_color (attribute_bits s.attributes) h in
    ap (λ (n : ℕ). look_at (eqb (bit_at n 0) 1) f b (shown s.underline_color) (bits_to n 24)) none
    ∙ ap (λ (u : Option Color). look_at false f b (shown u) 0) (no_underline s.underline_color _ h)

default_background : (g : Grid) (f before o : Option Color) → Leads (resting (with_pen g (record plain_pen { fg = f; bg = over before o }))) (present_bytes (λ _. sgr_bytes (49 ∷ [])) o) (resting (with_pen g (record plain_pen { fg = f; bg = left_over before o })))
default_background g f before None = nothing_leads _
default_background g f before (Some c) = sgr_leads (with_pen g (record plain_pen { fg = f; bg = shown_color c })) (49 ∷ []) _ (omega arith, tt) refl

default_foreground : (g : Grid) (b o : Option Color) → Leads (resting (with_pen g (record plain_pen { fg = shown o; bg = b }))) (present_bytes (λ _. sgr_bytes (39 ∷ [])) o) (resting (with_pen g (backed b)))
default_foreground g b None = nothing_leads _
default_foreground g b (Some c) = sgr_leads (with_pen g (record plain_pen { fg = shown (Some c); bg = b })) (39 ∷ []) _ (omega arith, tt) refl

-- the pen is plain but for a background
closing_by : (g : Grid) (before : Option Color) (s : ContentStyle) (t : Bool) → (is_some s.underline_color || not (eqb (attribute_bits s.attributes) 0)) ≡ t
    → (after : Option Color) × Leads (resting (with_pen g (look_over before s))) (cond t (sgr_bytes (0 ∷ [])) (present_bytes (λ _. sgr_bytes (49 ∷ [])) s.background_color ++ present_bytes (λ _. sgr_bytes (39 ∷ [])) s.foreground_color)) (resting (with_pen g (backed after)))
closing_by g before s true e = (None, sgr_leads (with_pen g (look_over before s)) (0 ∷ []) plain_pen (omega arith, tt) refl)
closing_by g before s false e =
    let defaults : List ℕ = present_bytes (λ _. sgr_bytes (49 ∷ [])) s.background_color in
    let after : Option Color = left_over before s.background_color in (
      after,
      subst (λ (q : Look). Leads (resting (with_pen g q)) (defaults ++ present_bytes (λ _. sgr_bytes (39 ∷ [])) s.foreground_color) (resting (with_pen g (backed after)))) (sym (colored_over before s e))
          (then_leads _ _ _ defaults (present_bytes (λ _. sgr_bytes (39 ∷ [])) s.foreground_color) (default_background g (shown s.foreground_color) before s.background_color) (default_foreground g after s.foreground_color)),
    )

closing_over : (g : Grid) (before : Option Color) (s : ContentStyle) → (after : Option Color) × Leads (resting (with_pen g (look_over before s))) (closing_bytes s) (resting (with_pen g (backed after)))
closing_over g before s = closing_by g before s (is_some s.underline_color || not (eqb (attribute_bits s.attributes) 0)) refl

-- ---- read

ascii_read : (g new : Grid) (bytes : List ℕ) → IsAscii bytes → Leads (resting g) bytes (resting new) → after_bytes g bytes ≡ Some new
ascii_read g new bytes ascii h =
    read_leads g new bytes (IsUtf8-from_ascii bytes ascii) (subst (λ (cs : List ℕ). Leads (resting g) cs (resting new)) (sym (chars-IsAscii bytes ascii)) h)

columns_in : (g : Grid) (p : Look) (n : ℕ) → HasColumns g n → HasColumns (with_pen g p) n
columns_in g p n h = record { grid = record { full = h.grid.full; column = h.grid.column; row = h.grid.row }; row = h.row; columns = h.columns }

-- a piece over a background
piece_over : (g : Grid) (before : Option Color) (s : ContentStyle) (text : List ℕ) → IsStyle s → IsUtf8 text → IsShown (chars text) → HasColumns g (length (cells_of (look_over before s) (chars text)))
    → (after : Option Color) × (after_bytes (with_pen g (backed before)) (piece_bytes s text) ≡ Some (with_pen (painted g (cells_of (look_over before s) (chars text))) (backed after)))
unfolding painted
piece_over g before s text known utf8 is_shown columns =
    let pen : Look = look_over before s in
    let cells : List Glyph = cells_of pen (chars text) in
    let closed = closing_over (painted g cells) before s in
    let new : Grid = with_pen (painted g cells) (backed closed.0) in (
      closed.0,
      read_in_turn (with_pen g (backed before)) (with_pen g pen) new (opening_bytes s) (text ++ closing_bytes s)
          (ascii_read (with_pen g (backed before)) (with_pen g pen) (opening_bytes s) (ascii_opening s known) (opening_over g before s known))
          (read_in_turn (with_pen g pen) (with_pen (painted g cells) pen) new text (closing_bytes s)
          (read_leads (with_pen g pen) (with_pen (painted g cells) pen) text utf8 (text_leads (chars text) (with_pen g pen) is_shown (columns_in g pen (length cells) columns)))
          (ascii_read (with_pen (painted g cells) pen) new (closing_bytes s) (ascii_closing s) closed.1)),
    )

-- a piece with a background over another, which leaves the plain pen
piece_on : (g : Grid) (before : Option Color) (s : ContentStyle) (c : Color) (text : List ℕ) → s.background_color ≡ Some c → IsStyle s → IsUtf8 text → IsShown (chars text) → HasColumns g (length (piece_cells s text))
    → after_bytes (with_pen g (backed before)) (piece_bytes s text) ≡ Some (with_pen (painted g (piece_cells s text)) plain_pen)
unfolding painted
piece_on g before s c text is known utf8 is_shown columns =
    let pen : Look = look_of_style s in
    let cells : List Glyph = piece_cells s text in
    let new : Grid = with_pen (painted g cells) plain_pen in
    let same : look_over before s ≡ pen =
    ap (λ (o : Option Color). look_at (has_attribute s.attributes Reset) (shown s.foreground_color) (over before o) (shown s.underline_color) (bits_to (attribute_bits s.attributes) 24)) is
    ∙ sym (ap (λ (o : Option Color). look_at (has_attribute s.attributes Reset) (shown s.foreground_color) (shown o) (shown s.underline_color) (bits_to (attribute_bits s.attributes) 24)) is) in
    read_in_turn (with_pen g (backed before)) (with_pen g pen) new (opening_bytes s) (text ++ closing_bytes s)
    (ascii_read (with_pen g (backed before)) (with_pen g pen) (opening_bytes s) (ascii_opening s known) (subst (λ (q : Look). Leads (resting (with_pen g (backed before))) (opening_bytes s) (resting (with_pen g q))) same (opening_over g before s known)))
    (read_in_turn (with_pen g pen) (with_pen (painted g cells) pen) new text (closing_bytes s)
    (read_leads (with_pen g pen) (with_pen (painted g cells) pen) text utf8 (text_leads (chars text) (with_pen g pen) is_shown (columns_in g pen (length cells) columns)))
    (ascii_read (with_pen (painted g cells) pen) new (closing_bytes s) (ascii_closing s) (closing_leads (painted g cells) s)))

-- ---- a background, a piece, and a piece with a background

record AreMarked (c : Color) (s t : ContentStyle) (a b : List ℕ) : Type 0 where
  pub color : IsColor c
  pub first_known : IsStyle s
  pub next_known : IsStyle t
  pub next_back : t.background_color ≡ Some c
  pub first_text : IsUtf8 a
  pub next_text : IsUtf8 b
  pub first_shown : IsShown (chars a)
  pub next_shown : IsShown (chars b)

abbrev marked_bytes : Color → ContentStyle → ContentStyle → List ℕ → List ℕ → List ℕ
marked_bytes c s t a b = (background_bytes c ++ piece_bytes s a) ++ piece_bytes t b

-- the cells of the first piece
abbrev pub marked_cells : Color → ContentStyle → List ℕ → List Glyph
marked_cells c s a = cells_of (look_over (shown_color c) s) (chars a)

marked_read : (c : Color) (s t : ContentStyle) (a b : List ℕ) (g : Grid) → AreMarked c s t a b → g.pen ≡ plain_pen → HasColumns g (length (marked_cells c s a ++ piece_cells t b)) → after_bytes g (marked_bytes c s t a b) ≡ Some (painted g (marked_cells c s a ++ piece_cells t b))
unfolding painted
marked_read c s t a b g h pen columns =
    let first : List Glyph = marked_cells c s a in
    let next : List Glyph = piece_cells t b in
    let both : length (first ++ next) ≡ length first + length next = length-append first next in
    let start : after_bytes g (background_bytes c) ≡ Some (with_pen g (backed (shown_color c))) =
    sgr_read g (color_numbers 48 c) _ (color_small 48 c (omega arith) h.color) (background_restyles c g.pen h.color)
    ∙ ap (λ (p : Look). Some (with_pen g (record p { bg = shown_color c }))) pen in
    let one = piece_over g (shown_color c) s a h.first_known h.first_text h.first_shown (fewer_columns g (length (first ++ next)) (length first) columns (omega arith)) in
    let two = piece_on (painted g first) one.0 t c b h.next_back h.next_known h.next_text h.next_shown (painted_columns g first (length (first ++ next)) (length next) columns (omega arith)) in
    read_in_turn g (with_pen (painted g first) (backed one.0)) (painted g (first ++ next)) (background_bytes c ++ piece_bytes s a) (piece_bytes t b)
    (read_in_turn g (with_pen g (backed (shown_color c))) (with_pen (painted g first) (backed one.0)) (background_bytes c) (piece_bytes s a) start one.1)
    (two
    ∙ ap (λ (q : Grid). Some (with_pen q plain_pen)) (painted-append g first next)
    ∙ ap (λ (p : Look). Some (with_pen (painted g (first ++ next)) p)) (sym pen))

-- such bytes paint their cells
pub marked_paints : (c : Color) (s t : ContentStyle) (a b : List ℕ) → IsColor c → IsStyle s → IsStyle t → t.background_color ≡ Some c → IsUtf8 a → IsUtf8 b → IsShown (chars a) → IsShown (chars b)
    → Paints ((background_bytes c ++ piece_bytes s a) ++ piece_bytes t b) (marked_cells c s a ++ piece_cells t b)
marked_paints c s t a b color first_known next_known next_back first_text next_text first_shown next_shown =
    let h : AreMarked c s t a b = record { color = color; first_known = first_known; next_known = next_known; next_back = next_back; first_text = first_text; next_text = next_text; first_shown = first_shown; next_shown = next_shown } in
    record {
      text = IsUtf8-append (background_bytes c ++ piece_bytes s a) (piece_bytes t b)
          (IsUtf8-append (background_bytes c) (piece_bytes s a) (IsUtf8-from_ascii (background_bytes c) (ascii_color 48 c (omega arith) color)) (paints_piece s a first_known first_text first_shown).text)
          (paints_piece t b next_known next_text next_shown).text;
      paints = λ g columns pen. (read_was g (painted g (marked_cells c s a ++ piece_cells t b)) (marked_bytes c s t a b) (marked_read c s t a b g h pen columns)).1;
    }
