-- The cells that bytes paint: of a text, of a piece, of texts one after another. Drawing is proved by these lemmas.
use Rattle.std.proofs.Common.{◌≡◌, ℕ, suc, zero, ◌+◌, ◌<◌, false, cond, List, [], ◌∷◌, ◌++◌, length, replicate, Option, Some, None, refl, ap, sym, ◌∙◌, subst, arith, length-append, append_assoc, IsUtf8}
use Rattle.std.specs.Prelude.{IsAscii, IsSome, option_and_then, unwrap_or}
use Rattle.std.specs.List.{AllByRecursion, flat_map}
use Rattle.std.specs.Str.{chars}
use Rattle.std.proofs.lemmas.Str.{chars-append, chars-nil, chars-IsAscii, IsUtf8-append, IsUtf8-nil, IsUtf8-from_ascii, is_utf8-from_IsUtf8}
use Rattle.unicode_width.specs.Width.{char_width}
use Rattle.mad_term.specs.declared.styles.ContentStyle.{ContentStyle}
use Rattle.mad_characters.specs.Columns.{char_columns}
use Rattle.mad_term.specs.Styles.{opening_bytes, closing_bytes, piece_bytes, IsStyle}
use Rattle.mad_screen.specs.Glyph.{Glyph, Look}
use Rattle.mad_screen.specs.Grid.{Grid, plain_pen, painted, glyphs}
use Rattle.mad_screen.specs.Terminal.{Leads, resting, feed_all, settled, after_bytes}
use Rattle.mad_screen.specs.Painting.{attach, attached, cells_of, IsPrinted, IsWhole, IsShown, HasColumns, CharsPaint, Paints, piece_cells}
use Rattle.mad_screen.proofs.AsciiCommands.{ascii_opening, ascii_closing}
use Rattle.mad_screen.proofs.Reading.{then_leads, nothing_leads}
use Rattle.mad_screen.proofs.PaintingLemmas.{text_leads, painted-append, painted-nil, painted_columns, fewer_columns}
use Rattle.mad_screen.proofs.StyleLemmas.{piece_paints}

-- ---- from bytes to characters

-- bytes are read as their characters are
pub read_leads : (g new : Grid) (bytes : List ℕ) → IsUtf8 bytes → Leads (resting g) (chars bytes) (resting new) → after_bytes g bytes ≡ Some new
unfolding after_bytes Leads
read_leads g new bytes text h =
    ap (λ b. cond b (option_and_then settled (feed_all (chars bytes) (resting g))) None) (is_utf8-from_IsUtf8 bytes text) ∙ ap (option_and_then settled) h

-- ASCII round a text
ascii_first : (a bs : List ℕ) → IsAscii a → IsUtf8 bs → IsUtf8 (a ++ bs) × (chars (a ++ bs) ≡ a ++ chars bs)
ascii_first a bs ascii text =
    let in_a : IsUtf8 a = IsUtf8-from_ascii a ascii in
    (IsUtf8-append a bs in_a text, chars-append a bs in_a ∙ ap (λ l. l ++ chars bs) (chars-IsAscii a ascii))

ascii_last : (bs b : List ℕ) → IsUtf8 bs → IsAscii b → IsUtf8 (bs ++ b) × (chars (bs ++ b) ≡ chars bs ++ b)
ascii_last bs b text ascii = (IsUtf8-append bs b text (IsUtf8-from_ascii b ascii), chars-append bs b text ∙ ap (λ l. chars bs ++ l) (chars-IsAscii b ascii))

-- ---- what paints

-- nothing
pub paints_nothing : Paints [] []
paints_nothing = record {
  text = IsUtf8-nil;
  paints = λ g h pen. subst (λ (cs : List ℕ). Leads (resting g) cs (resting (painted g []))) (sym chars-nil) (subst (λ (r : Grid). Leads (resting g) [] (resting r)) (sym (painted-nil g)) (nothing_leads _));
}

chars_both : (s t : List ℕ) (a b : List Glyph) → CharsPaint s a → CharsPaint t b → CharsPaint (s ++ t) (a ++ b)
unfolding painted
chars_both s t a b p q g h pen =
    let both : length (a ++ b) ≡ length a + length b = length-append a b in
    subst (λ (r : Grid). Leads (resting g) (s ++ t) (resting r)) (painted-append g a b)
    (then_leads _ _ _ s t (p g (fewer_columns g (length (a ++ b)) (length a) h (omega arith)) pen) (q (painted g a) (painted_columns g a (length (a ++ b)) (length b) h (omega arith)) pen))

-- one text and then another
pub paints_both : (s t : List ℕ) (a b : List Glyph) → Paints s a → Paints t b → Paints (s ++ t) (a ++ b)
paints_both s t a b p q = record {
  text = IsUtf8-append s t p.text q.text;
  paints = subst (λ (cs : List ℕ). CharsPaint cs (a ++ b)) (sym (chars-append s t p.text)) (chars_both (chars s) (chars t) a b p.paints q.paints);
}

-- a text without style
pub paints_plain : (bytes : List ℕ) → IsUtf8 bytes → IsShown (chars bytes) → Paints bytes (cells_of plain_pen (chars bytes))
paints_plain bytes text shown = record {
  text = text;
  paints = λ g h pen. subst (λ (p : Look). HasColumns g (length (cells_of p (chars bytes))) → Leads (resting g) (chars bytes) (resting (painted g (cells_of p (chars bytes))))) pen (text_leads (chars bytes) g shown) h;
}

-- a piece: a text in a style
pub paints_piece : (s : ContentStyle) (bytes : List ℕ) → IsStyle s → IsUtf8 bytes → IsShown (chars bytes) → Paints (piece_bytes s bytes) (piece_cells s bytes)
paints_piece s bytes known text shown =
    let closed : IsUtf8 (bytes ++ closing_bytes s) × (chars (bytes ++ closing_bytes s) ≡ chars bytes ++ closing_bytes s) = ascii_last bytes (closing_bytes s) text (ascii_closing s) in
    let opened : IsUtf8 (opening_bytes s ++ (bytes ++ closing_bytes s)) × (chars (opening_bytes s ++ (bytes ++ closing_bytes s)) ≡ opening_bytes s ++ chars (bytes ++ closing_bytes s)) = ascii_first (opening_bytes s) (bytes ++ closing_bytes s) (ascii_opening s known) closed.0 in
    record {
      text = opened.0;
      paints = subst (λ (cs : List ℕ). CharsPaint cs (piece_cells s bytes)) (sym (opened.1 ∙ ap (λ l. opening_bytes s ++ l) closed.1)) (piece_paints s (chars bytes) known shown);
    }

-- whatever list of texts paints its cells, the joined texts paint the joined cells
pub paints_row : {X : Type 0} (text : X → List ℕ) (cells : X → List Glyph) (xs : List X) → AllByRecursion (λ x. Paints (text x) (cells x)) xs → Paints (flat_map text xs) (flat_map cells xs)
paints_row text cells [] h = paints_nothing
paints_row text cells (x ∷ xs) h = paints_both (text x) (flat_map text xs) (cells x) (flat_map cells xs) h.0 (paints_row text cells xs h.1)

-- ---- texts in one pen

no_widthless_by : (o : Option ℕ) (pen : Look) (c : ℕ) (r : List ℕ × List Glyph) → 0 < unwrap_or o 0 → (attach o pen c r).0 ≡ []
no_widthless_by None pen c r h = absurd (omega arith)
no_widthless_by (Some zero) pen c r h = absurd (omega arith)
no_widthless_by (Some (suc k)) pen c r h = refl

-- a text that begins with a character of columns has no widthless ones in front
no_widthless : (pen : Look) (cs : List ℕ) → IsWhole cs → (attached pen cs).0 ≡ []
unfolding char_columns
no_widthless pen [] h = refl
no_widthless pen (c ∷ cs) h = no_widthless_by (char_width false c) pen c (attached pen cs) h

-- what follows the cells of a text stays after them
pub attach_more : (o : Option ℕ) (pen : Look) (c : ℕ) (r : List ℕ × List Glyph) (gs : List Glyph) → attach o pen c (r.0, r.1 ++ gs) ≡ ((attach o pen c r).0, (attach o pen c r).1 ++ gs)
attach_more None pen c r gs = refl
attach_more (Some zero) pen c r gs = refl
attach_more (Some (suc k)) pen c r gs = ap (λ (l : List Glyph). let p : List ℕ × List Glyph = ([], l) in p) (sym (append_assoc (glyphs (c ∷ r.0) k pen) r.1 gs))

joined_both : (pen : Look) (a b : List ℕ) → (attached pen b).0 ≡ [] → attached pen (a ++ b) ≡ ((attached pen a).0, (attached pen a).1 ++ (attached pen b).1)
joined_both pen [] b h = ap (λ (l : List ℕ). let p : List ℕ × List Glyph = (l, (attached pen b).1) in p) h
joined_both pen (c ∷ a) b h = ap (attach (char_width false c) pen c) (joined_both pen a b h) ∙ attach_more (char_width false c) pen c (attached pen a) (attached pen b).1

-- the cells of one text and then another, which begins with a character that takes columns
pub cells_both : (pen : Look) (a b : List ℕ) → IsWhole b → cells_of pen (a ++ b) ≡ cells_of pen a ++ cells_of pen b
cells_both pen a b whole = ap (λ (p : List ℕ × List Glyph). p.1) (joined_both pen a b (no_widthless pen b whole))

-- no control characters in one text nor in another
pub printed_both : (a b : List ℕ) → IsPrinted a → IsPrinted b → IsPrinted (a ++ b)
printed_both [] b p q = q
printed_both (c ∷ a) b p q = (p.0, printed_both a b p.1 q)

whole_both : (a b : List ℕ) → IsWhole a → IsWhole b → IsWhole (a ++ b)
whole_both [] b p q = q
whole_both (c ∷ a) b p q = p

-- an empty text shows cells of its own
pub shown_nothing : IsShown []
shown_nothing = record { printed = tt; whole = tt }

-- two texts that do are one that does
pub shown_both : (a b : List ℕ) → IsShown a → IsShown b → IsShown (a ++ b)
shown_both a b p q = record { printed = printed_both a b p.printed q.printed; whole = whole_both a b p.whole q.whole }

-- ---- spaces

space_width : char_width false 32 ≡ Some 1
unfolding char_width
space_width = refl

space_columns : char_columns 32 ≡ 1
unfolding char_columns
space_columns = ap (λ o. unwrap_or o 0) space_width

spaces_printed : (n : ℕ) → IsPrinted (replicate n 32)
spaces_printed zero = tt
spaces_printed (suc n) = (subst (λ (o : Option ℕ). IsSome o) (sym space_width) refl, spaces_printed n)

spaces_whole : (n : ℕ) → IsWhole (replicate n 32)
spaces_whole zero = tt
spaces_whole (suc n) = omega (arith, space_columns)

-- spaces show cells of their own
pub spaces_shown : (n : ℕ) → IsShown (replicate n 32)
spaces_shown n = record { printed = spaces_printed n; whole = spaces_whole n }

-- and each is one cell
pub spaces_cells : (pen : Look) (n : ℕ) → cells_of pen (replicate n 32) ≡ replicate n (record { chars = 32 ∷ []; pen = pen })
spaces_cells pen zero = refl
spaces_cells pen (suc n) =
    let rest : List ℕ × List Glyph = attached pen (replicate n 32) in
    ap (λ (o : Option ℕ). (attach o pen 32 rest).1) space_width
    ∙ ap (λ (l : List ℕ). glyphs (32 ∷ l) 0 pen ++ rest.1) (no_widthless pen (replicate n 32) (spaces_whole n))
    ∙ ap (λ (l : List Glyph). record { chars = 32 ∷ []; pen = pen } ∷ l) (spaces_cells pen n)
