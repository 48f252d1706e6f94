-- The rows of pieces with links: what is shown is the same, and links are in their cells.
use Rattle.std.proofs.Common.{◌≡◌, ◌≢◌, ℕ, suc, ◌+◌, ◌*◌, ◌%◌, ◌^◌, ◌<◌, Bool, true, false, cond, eqb, leb, List, [], ◌∷◌, ◌++◌, length, map, Option, Some, None, refl, ap, sym, ◌∙◌, subst, arith, length-append, lit<, lit≤, replicate, IsUtf8, append_assoc}
use Rattle.std.specs.Prelude.{option_map, is_some, not, ◌&&◌, ◌||◌, ◌==◌, decimal, IsAscii, if◌then◌else◌}
use Rattle.std.specs.List.{AllByRecursion, flat_map, sum_by}
use Rattle.std.specs.Str.{chars}
use Rattle.std.proofs.lemmas.Bool.{false≢true}
use Rattle.std.proofs.lemmas.Bool.Decides.{nat_tests}
use Rattle.std.proofs.lemmas.Fmt.{decimal_by_steps}
use Rattle.std.proofs.lemmas.List.{length-replicate}
use Rattle.std.proofs.lemmas.Str.{chars-append, chars-nil, chars-IsAscii, IsUtf8-nil, IsUtf8-from_ascii}
use Rattle.mad_characters.specs.Columns.{char_columns}
use Rattle.mad_term.specs.declared.attribute.Attribute.{Attribute}
use Rattle.mad_term.specs.declared.attributes.Attributes.{Attributes}
use Rattle.mad_term.specs.declared.color.Color.{Color}
use Rattle.mad_term.specs.declared.color.Color.TheVariants.{Reset, Rgb, AnsiValue}
use Rattle.mad_term.specs.declared.styles.ContentStyle.{ContentStyle}
use Rattle.mad_term.specs.Attribute.{all_attributes, attribute_code}
use Rattle.mad_term.specs.Attributes.{attribute_bits, has_attribute}
use Rattle.mad_term.specs.Color.{IsColor, IsColorOrNone}
use Rattle.mad_term.specs.Commands.{command_bytes, sgr_bytes}
use Rattle.mad_term.specs.Styles.{color_bytes, color_numbers, attribute_bytes, attributes_bytes, present_bytes, foreground_bytes, background_bytes, underline_bytes, opening_bytes, closing_bytes, piece_bytes, IsStyle}
use Rattle.mad_screen.specs.Glyph.{Glyph, Look}
use Rattle.mad_screen.specs.Grid.{Grid, plain_pen, painted}
use Rattle.mad_screen.specs.Terminal.{Leads, resting, row_start}
use Rattle.mad_screen.specs.Painting.{IsPrinted, IsShown, HasColumns, look_of_style, piece_cells}
use Rattle.mad_screen.proofs.AsciiCommands.{attribute_code-lt, ascii_opening, ascii_closing}
use Rattle.mad_screen.proofs.PaintingLemmas.{text_leads, painted-append, painted-nil, painted_columns, fewer_columns, length-cells_of}
use Rattle.mad_screen.proofs.StyleLemmas.{opening_leads, closing_leads, with_pen}
use Rattle.mad_links.specs.LinkTerminal.{Link, LinkScreen, LinkReading, LinkLeads, LinkedCell, LinkPaints, link_resting, link_painted, linked_cells, put_each, opened_at, id_of, id_in, split_at_code, with_first}
use Rattle.mad_links.specs.Addresses.{IsWritten, has_link_scheme, is_kept_byte}
use Rattle.mad_links.specs.SkippingTerminal.{is_command_char}
use Rattle.mad_links.specs.LinkRows.{LinkedPiece, IsLinkedPiece, AreLinkedPieces, AreAddresses, address_of, written_link, target, same_number, number_bytes, link_bytes, change_bytes, begun_bytes, linked_bytes_from, linked_bytes, unlinked_bytes, piece_linked_cells, row_cells, open_bytes, close_bytes, id_parameter, command_text, link_command_bytes}
use Rattle.mad_links.specs.LinkLaws.{IsCalm, calm_text, calm_command, calm_both, IsWoven, woven_calm, woven_command, woven_both}
use Rattle.mad_links.proofs.CalmLemmas.{AreMachine, AreCommandChars, NoEscape, NoSemicolon, woven_texts, ascii_link_command}
use Rattle.mad_links.proofs.PlainLemmas.{printed_no_escape}
use Rattle.mad_links.proofs.LinkTextLemmas.{Quiet, quiet_both, quiet_nothing, quiet_sgr, beside, link_command_opens, link_leads_both, link_leads_nothing, quiet_leads, text_links}
use Rattle.mad_links.proofs.PutEach.{put_each-append}

-- ---- the commands of a style

-- commands that change the pen, one after another, have what each of them has
pub record IsOfCommands (P : List ℕ → Type 0) : Type 0 where
  pub nothing : P []
  pub one : (ns : List ℕ) → AreMachine ns → P (command_bytes ns 109)
  pub both : (a b : List ℕ) → P a → P b → P (a ++ b)

color_small : (kind : ℕ) (color : Color) → kind < 2 ^ 32 → IsColor color → AreMachine (color_numbers kind color)
color_small kind Reset low h = (omega arith, tt)
color_small kind (Rgb r g b) low h = (omega arith, (lit< tt, (omega (arith, h.0), (omega (arith, h.1), (omega (arith, h.2), tt)))))
color_small kind (AnsiValue n) low h = (omega arith, (lit< tt, (omega (arith, h), tt)))
color_small kind _ low h = (omega arith, (lit< tt, (lit< tt, tt)))

of_present : (P : List ℕ → Type 0) → IsOfCommands P → (kind : ℕ) (color : Option Color) → kind < 2 ^ 32 → IsColorOrNone color → P (present_bytes (color_bytes kind) color)
of_present P is kind None low h = is.nothing
of_present P is kind (Some color) low h = is.one (color_numbers kind color) (color_small kind color low h)

of_chosen : (P : List ℕ → Type 0) (b : Bool) (xs : List ℕ) → P [] → P xs → P (if b then xs else [])
of_chosen P true xs n h = h
of_chosen P false xs n h = n

of_attributes : (P : List ℕ → Type 0) → IsOfCommands P → (s : Attributes) (all : List Attribute) → P (flat_map (λ a. if has_attribute s a then attribute_bytes a else []) all)
of_attributes P is s [] = is.nothing
of_attributes P is s (a ∷ rest) =
    is.both (if has_attribute s a then attribute_bytes a else []) (flat_map (λ b. if has_attribute s b then attribute_bytes b else []) rest)
    (of_chosen P (has_attribute s a) (attribute_bytes a) is.nothing (is.one (attribute_code a ∷ []) (attribute_code-lt a, tt))) (of_attributes P is s rest)

of_opening : (P : List ℕ → Type 0) → IsOfCommands P → (s : ContentStyle) → IsStyle s → P (opening_bytes s)
of_opening P is s h =
    let underline : List ℕ = present_bytes underline_bytes s.underline_color in
    let foreground : List ℕ = present_bytes foreground_bytes s.foreground_color in
    is.both (present_bytes background_bytes s.background_color) (foreground ++ (underline ++ attributes_bytes s.attributes)) (of_present P is 48 s.background_color (lit< tt) h.background)
    (is.both foreground (underline ++ attributes_bytes s.attributes) (of_present P is 38 s.foreground_color (lit< tt) h.foreground)
    (is.both underline (attributes_bytes s.attributes) (of_present P is 58 s.underline_color (lit< tt) h.underline) (of_attributes P is s.attributes all_attributes)))

of_default : (P : List ℕ → Type 0) → IsOfCommands P → (n : ℕ) (color : Option Color) → n < 2 ^ 64 → P (present_bytes (λ _. sgr_bytes (n ∷ [])) color)
of_default P is n None low = is.nothing
of_default P is n (Some color) low = is.one (n ∷ []) (low, tt)

of_either : (P : List ℕ → Type 0) (b : Bool) (xs ys : List ℕ) → P xs → P ys → P (if b then xs else ys)
of_either P true xs ys p q = p
of_either P false xs ys p q = q

of_closing : (P : List ℕ → Type 0) → IsOfCommands P → (s : ContentStyle) → P (closing_bytes s)
of_closing P is s =
    let defaults : List ℕ = present_bytes (λ _. sgr_bytes (49 ∷ [])) s.background_color ++ present_bytes (λ _. sgr_bytes (39 ∷ [])) s.foreground_color in
    of_either P (is_some s.underline_color || not (attribute_bits s.attributes == 0)) (sgr_bytes (0 ∷ [])) defaults (is.one (0 ∷ []) (lit< tt, tt))
    (is.both (present_bytes (λ _. sgr_bytes (49 ∷ [])) s.background_color) (present_bytes (λ _. sgr_bytes (39 ∷ [])) s.foreground_color)
    (of_default P is 49 s.background_color (lit< tt)) (of_default P is 39 s.foreground_color (lit< tt)))

-- ---- what is shown is the same

calm_nothing : IsCalm []
calm_nothing = calm_text [] IsUtf8-nil (subst NoEscape (sym chars-nil) tt)

calm_commands : IsOfCommands IsCalm
calm_commands = record {
  nothing = calm_nothing;
  one = λ ns small. calm_command (command_bytes ns 109) ns 109 small (lit≤ tt) (lit< tt) refl;
  both = λ a b p q. calm_both (a ++ b) a b p q refl;
}

-- a piece is calm
pub calm_piece : (s : ContentStyle) (text : List ℕ) → IsStyle s → IsUtf8 text → IsPrinted (chars text) → IsCalm (piece_bytes s text)
calm_piece s text known utf8 printed =
    calm_both (piece_bytes s text) (opening_bytes s) (text ++ closing_bytes s) (of_opening IsCalm calm_commands s known)
    (calm_both (text ++ closing_bytes s) text (closing_bytes s) (calm_text text utf8 (printed_no_escape (chars text) printed)) (of_closing IsCalm calm_commands s) refl) refl

-- no bytes are woven of none
pub woven_nothing : IsWoven [] []
woven_nothing = woven_calm [] calm_nothing

-- ---- addresses and numbers in commands

command_char : (b : ℕ) → is_kept_byte b ≡ true → is_command_char b ≡ true
command_char b h = grind (arith, nat_tests, h)

command_chars : (a : List ℕ) → AllByRecursion (λ b. is_kept_byte b ≡ true) a → AreCommandChars a
command_chars [] h = tt
command_chars (b ∷ a) h = (command_char b h.0, command_chars a h.1)

chars_both : (a b : List ℕ) → AreCommandChars a → AreCommandChars b → AreCommandChars (a ++ b)
chars_both [] b p q = q
chars_both (c ∷ a) b p q = (p.0, chars_both a b p.1 q)

-- a digit
abbrev pub is_decimal_digit : ℕ → Bool
is_decimal_digit c = leb 48 c && leb c 57

-- each is a digit
abbrev pub AreDigits : List ℕ → Type 0
AreDigits cs = AllByRecursion (λ c. is_decimal_digit c ≡ true) cs

digits_both : (a b : List ℕ) → AreDigits a → AreDigits b → AreDigits (a ++ b)
digits_both [] b p q = q
digits_both (c ∷ a) b p q = (p.0, digits_both a b p.1 q)

-- a number of the machine has digits alone
pub decimal_digits : (n : ℕ) → n < 2 ^ 64 → AreDigits (decimal n)
decimal_digits n small =
    decimal_by_steps (λ n ds. AreDigits ds)
    (λ n h. (grind (arith, nat_tests), tt))
    (λ n ds some ih. digits_both ds ((48 + n % 10) ∷ []) ih (grind (arith, nat_tests), tt))
    n small

digit_char : (c : ℕ) → is_decimal_digit c ≡ true → is_command_char c ≡ true
digit_char c h = grind (arith, nat_tests, h)

digits_chars : (cs : List ℕ) → AreDigits cs → AreCommandChars cs
digits_chars [] h = tt
digits_chars (c ∷ cs) h = (digit_char c h.0, digits_chars cs h.1)

digit_no_semicolon : (c : ℕ) → is_decimal_digit c ≡ true → c ≢ 59
digit_no_semicolon c h = grind (arith, nat_tests, h)

digits_no_semicolon : (cs : List ℕ) → AreDigits cs → NoSemicolon cs
digits_no_semicolon [] h = tt
digits_no_semicolon (c ∷ cs) h = (digit_no_semicolon c h.0, digits_no_semicolon cs h.1)

digit_no_colon : (c : ℕ) → is_decimal_digit c ≡ true → eqb c 58 ≡ false
digit_no_colon c h = grind (arith, nat_tests, h)

digits_whole : (cs : List ℕ) → AreDigits cs → split_at_code 58 cs ≡ cs ∷ []
digits_whole [] h = refl
digits_whole (c ∷ cs) h =
    ap (λ b. cond b ([] ∷ split_at_code 58 cs) (with_first c (split_at_code 58 cs))) (digit_no_colon c h.0) ∙ ap (with_first c) (digits_whole cs h.1)

-- the id of a link is its number
pub id_is : (n : ℕ) → n < 2 ^ 64 → id_of (id_parameter n) ≡ decimal n
id_is n small = ap (λ (parts : List (List ℕ)). id_in (with_first 105 (with_first 100 (with_first 61 parts)))) (digits_whole (decimal n) (decimal_digits n small))

-- the text of a command that opens a link has characters of commands alone
pub open_chars : (n : ℕ) (a : List ℕ) → n < 2 ^ 64 → IsWritten a → AreCommandChars (command_text (id_parameter n) a)
open_chars n a small written =
    (refl, (refl, chars_both (id_parameter n) (59 ∷ a) (refl, (refl, (refl, digits_chars (decimal n) (decimal_digits n small)))) (refl, command_chars a written.kept)))

-- its parameters have no semicolon
pub open_no_semicolon : (n : ℕ) → n < 2 ^ 64 → NoSemicolon (id_parameter n)
open_no_semicolon n small = (omega arith, (omega arith, (omega arith, digits_no_semicolon (decimal n) (decimal_digits n small))))

-- the text of the command that closes it has characters of commands alone
pub close_chars : AreCommandChars (command_text [] [])
close_chars = (refl, (refl, (refl, tt)))

woven_number : (n : ℕ) (o : Option (List ℕ)) → ((a : List ℕ) → o ≡ Some a → IsWritten a × (n < 2 ^ 64)) → IsWoven (number_bytes n o) []
woven_number n None known = woven_command close_bytes [] [] close_chars tt refl
woven_number n (Some a) known =
    let is : IsWritten a × (n < 2 ^ 64) = known a refl in
    woven_command (open_bytes n a) (id_parameter n) a (open_chars n a is.1 is.0) (open_no_semicolon n is.1) refl

woven_link : (addresses : List (Option (List ℕ))) (link : Option ℕ) → AreAddresses addresses → IsWoven (link_bytes addresses link) []
woven_link addresses None known = woven_command close_bytes [] [] close_chars tt refl
woven_link addresses (Some n) known = woven_number n (address_of addresses n) (λ a e. known.written n a e)

woven_change : (addresses : List (Option (List ℕ))) (was now : Option ℕ) (b : Bool) → AreAddresses addresses → IsWoven (cond b [] (link_bytes addresses now)) []
woven_change addresses was now true known = woven_nothing
woven_change addresses was now false known = woven_link addresses now known

woven_from : (addresses : List (Option (List ℕ))) (was : Option ℕ) (ps : List LinkedPiece) → AreLinkedPieces ps → AreAddresses addresses → IsWoven (linked_bytes_from addresses was ps) (unlinked_bytes ps)
woven_from addresses was [] are known = woven_change addresses was None (same_number was None) known
woven_from addresses was (p ∷ ps) are known =
    let now = written_link addresses p.link in
    woven_both (linked_bytes_from addresses was (p ∷ ps)) (unlinked_bytes (p ∷ ps)) (change_bytes addresses was now) (piece_bytes p.style p.text ++ linked_bytes_from addresses now ps) [] (unlinked_bytes (p ∷ ps))
    (woven_change addresses was now (same_number was now) known)
    (woven_both (piece_bytes p.style p.text ++ linked_bytes_from addresses now ps) (unlinked_bytes (p ∷ ps)) (piece_bytes p.style p.text) (linked_bytes_from addresses now ps) (piece_bytes p.style p.text) (unlinked_bytes ps)
    (woven_calm (piece_bytes p.style p.text) (calm_piece p.style p.text are.0.style are.0.utf8 are.0.shown.printed))
    (woven_from addresses now ps are.1 known) refl refl) refl refl

-- THE LAW: a row's pieces with links are those without, with commands between them
pub rows_are_woven : (addresses : List (Option (List ℕ))) (ps : List LinkedPiece) → AreLinkedPieces ps → AreAddresses addresses → IsWoven (linked_bytes addresses ps) (unlinked_bytes ps)
rows_are_woven addresses ps are known = woven_from addresses None ps are known

nothing_between : (addresses : List (Option (List ℕ))) (now : Option ℕ) → now ≡ None → change_bytes addresses None now ≡ []
nothing_between addresses now e = ap (change_bytes addresses None) e

-- THE LAW: where no link has an address nothing is written of links
pub writes_nothing : (addresses : List (Option (List ℕ))) (ps : List LinkedPiece) → AllByRecursion (λ p. written_link addresses p.link ≡ None) ps → linked_bytes addresses ps ≡ unlinked_bytes ps
writes_nothing addresses [] none = refl
writes_nothing addresses (p ∷ ps) none =
    ap (λ l. l ++ (piece_bytes p.style p.text ++ linked_bytes_from addresses (written_link addresses p.link) ps)) (nothing_between addresses (written_link addresses p.link) none.0)
    ∙ ap (λ (n : Option ℕ). piece_bytes p.style p.text ++ linked_bytes_from addresses n ps) none.0
    ∙ ap (λ l. piece_bytes p.style p.text ++ l) (writes_nothing addresses ps none.1)

-- THE LAW: a row can be written in steps
pub rows_in_steps : (addresses : List (Option (List ℕ))) (was : Option ℕ) (ps qs : List LinkedPiece)
    → linked_bytes_from addresses was (ps ++ qs) ≡ (begun_bytes addresses was ps).0 ++ linked_bytes_from addresses (begun_bytes addresses was ps).1 qs
rows_in_steps addresses was [] qs = refl
rows_in_steps addresses was (p ∷ ps) qs =
    let now : Option ℕ = written_link addresses p.link in
    let change : List ℕ = change_bytes addresses was now in
    let own : List ℕ = piece_bytes p.style p.text in
    let more : List ℕ = (begun_bytes addresses now ps).0 in
    let last : List ℕ = linked_bytes_from addresses (begun_bytes addresses now ps).1 qs in
    ap (λ l. change ++ (own ++ l)) (rows_in_steps addresses now ps qs)
    ∙ ap (λ l. change ++ l) (sym (append_assoc own more last))
    ∙ sym (append_assoc change (own ++ more) last)

-- ---- links are in their cells

quiet_commands : IsOfCommands (λ cs. (g : Grid) → Quiet cs g)
quiet_commands = record { nothing = quiet_nothing; one = quiet_sgr; both = quiet_both }

-- the characters of a piece
pub piece_chars : (s : ContentStyle) (text : List ℕ) → IsStyle s → IsUtf8 text → chars (piece_bytes s text) ≡ opening_bytes s ++ (chars text ++ closing_bytes s)
piece_chars s text known utf8 =
    let opening : IsAscii (opening_bytes s) = ascii_opening s known in
    chars-append (opening_bytes s) (text ++ closing_bytes s) (IsUtf8-from_ascii (opening_bytes s) opening)
    ∙ ap (λ l. l ++ chars (text ++ closing_bytes s)) (chars-IsAscii (opening_bytes s) opening)
    ∙ ap (λ l. opening_bytes s ++ l) (chars-append text (closing_bytes s) utf8 ∙ ap (λ l. chars text ++ l) (chars-IsAscii (closing_bytes s) (ascii_closing s)))

-- a piece gives its cells the open link
pub piece_links : (s : ContentStyle) (text : List ℕ) (g : Grid) (links : List (Option Link)) (link : Option Link) → IsStyle s → IsUtf8 text → IsPrinted (chars text)
    → Leads (resting (with_pen g (look_of_style s))) (chars text) (resting (with_pen (painted g (piece_cells s text)) (look_of_style s))) → g.pen ≡ plain_pen
    → LinkLeads (beside links link (resting g)) (chars (piece_bytes s text)) (beside (linked_cells links (row_start g + g.x) (length (piece_cells s text)) link) link (resting (painted g (piece_cells s text))))
unfolding painted
piece_links s text g links link known utf8 printed leads pen =
    let look : Look = look_of_style s in
    let gs : List Glyph = piece_cells s text in
    let n = sum_by char_columns (chars text) in
    let some : List (Option Link) = linked_cells links (row_start g + g.x) n link in
    let columns : n ≡ length gs = sym (length-cells_of look (chars text)) in
    subst (λ (cs : List ℕ). LinkLeads (beside links link (resting g)) cs (beside (linked_cells links (row_start g + g.x) (length gs) link) link (resting (painted g gs)))) (sym (piece_chars s text known utf8))
    (subst (λ m. LinkLeads (beside links link (resting g)) (opening_bytes s ++ (chars text ++ closing_bytes s)) (beside (linked_cells links (row_start g + g.x) m link) link (resting (painted g gs)))) columns
    (subst (λ (q : Look). LinkLeads (beside links link (resting (with_pen g q))) (opening_bytes s ++ (chars text ++ closing_bytes s)) (beside some link (resting (with_pen (painted g gs) q)))) (sym pen)
    (link_leads_both (beside links link (resting (with_pen g plain_pen))) (beside links link (resting (with_pen g look))) (beside some link (resting (with_pen (painted g gs) plain_pen))) (opening_bytes s) (chars text ++ closing_bytes s)
    (quiet_leads (opening_bytes s) (with_pen g plain_pen) (with_pen g look) links link (of_opening (λ cs. (h : Grid) → Quiet cs h) quiet_commands s known (with_pen g plain_pen)) (opening_leads g s known))
    (link_leads_both (beside links link (resting (with_pen g look))) (beside some link (resting (with_pen (painted g gs) look))) (beside some link (resting (with_pen (painted g gs) plain_pen))) (chars text) (closing_bytes s)
    (text_links (chars text) (with_pen g look) (with_pen (painted g gs) look) links link printed leads)
    (quiet_leads (closing_bytes s) (with_pen (painted g gs) look) (with_pen (painted g gs) plain_pen) some link (of_closing (λ cs. (h : Grid) → Quiet cs h) quiet_commands s (with_pen (painted g gs) look)) (closing_leads (painted g gs) s))))))

-- where a piece has its columns
shown_leads : (s : ContentStyle) (text : List ℕ) (g : Grid) (p : LinkedPiece) → p.style ≡ s → p.text ≡ text → IsLinkedPiece p → HasColumns g (length (piece_cells s text))
    → Leads (resting (with_pen g (look_of_style s))) (chars text) (resting (with_pen (painted g (piece_cells s text)) (look_of_style s)))
unfolding painted
shown_leads s text g p e f is h =
    let columns : HasColumns (with_pen g (look_of_style s)) (length (piece_cells s text)) = record { grid = record { full = h.grid.full; column = h.grid.column; row = h.grid.row }; row = h.row; columns = h.columns } in
    text_leads (chars text) (with_pen g (look_of_style s)) (subst (λ (x : List ℕ). IsShown (chars x)) f is.shown) columns

-- ---- changes of the link

no_scheme : has_link_scheme [] ≡ true → ⊥
no_scheme e = false≢true e

opened_is : (n : ℕ) (a : List ℕ) → n < 2 ^ 64 → has_link_scheme a ≡ true → opened_at (id_parameter n) a ≡ Some (record { id = decimal n; address = a })
opened_is n [] small scheme = absurd (no_scheme scheme)
opened_is n (c ∷ cs) small scheme = ap (λ (i : List ℕ). Some (record { id = i; address = c ∷ cs })) (id_is n small)

ascii_command_leads : (parameters address : List ℕ) → AreCommandChars (command_text parameters address) → NoSemicolon parameters → (g : Grid) (links : List (Option Link)) (link : Option Link)
    → LinkLeads (beside links link (resting g)) (chars (link_command_bytes parameters address)) (beside links (opened_at parameters address) (resting g))
ascii_command_leads parameters address are none g links link =
    subst (λ (cs : List ℕ). LinkLeads (beside links link (resting g)) cs (beside links (opened_at parameters address) (resting g))) (sym (chars-IsAscii (link_command_bytes parameters address) (ascii_link_command parameters address are)))
    (link_command_opens parameters address are none g links link)

number_leads : (n : ℕ) (o : Option (List ℕ)) → ((a : List ℕ) → o ≡ Some a → IsWritten a × (n < 2 ^ 64)) → (g : Grid) (links : List (Option Link)) (link : Option Link)
    → LinkLeads (beside links link (resting g)) (chars (number_bytes n o)) (beside links (option_map (λ a. record { id = decimal n; address = a }) o) (resting g))
number_leads n None known g links link = ascii_command_leads [] [] close_chars tt g links link
number_leads n (Some a) known g links link =
    let is : IsWritten a × (n < 2 ^ 64) = known a refl in
    subst (λ (o : Option Link). LinkLeads (beside links link (resting g)) (chars (open_bytes n a)) (beside links o (resting g))) (opened_is n a is.1 is.0.scheme)
    (ascii_command_leads (id_parameter n) a (open_chars n a is.1 is.0) (open_no_semicolon n is.1) g links link)

link_leads : (addresses : List (Option (List ℕ))) (now : Option ℕ) → AreAddresses addresses → (g : Grid) (links : List (Option Link)) (link : Option Link)
    → LinkLeads (beside links link (resting g)) (chars (link_bytes addresses now)) (beside links (target addresses now) (resting g))
link_leads addresses None known g links link = ascii_command_leads [] [] close_chars tt g links link
link_leads addresses (Some n) known g links link = number_leads n (address_of addresses n) (λ a e. known.written n a e) g links link

same_is : (was now : Option ℕ) → same_number was now ≡ true → was ≡ now
same_is None None e = refl
same_is None (Some n) e = absurd (false≢true e)
same_is (Some m) None e = absurd (false≢true e)
same_is (Some m) (Some n) e =
    let same : m ≡ n = grind (arith, nat_tests, e) in
    ap Some same

change_leads : (addresses : List (Option (List ℕ))) (was now : Option ℕ) (b : Bool) → same_number was now ≡ b → AreAddresses addresses → (g : Grid) (links : List (Option Link)) (link : Option Link) → link ≡ target addresses was
    → LinkLeads (beside links link (resting g)) (chars (cond b [] (link_bytes addresses now))) (beside links (target addresses now) (resting g))
change_leads addresses was now true e known g links link is =
    subst (λ (o : Option Link). LinkLeads (beside links link (resting g)) (chars []) (beside links o (resting g))) (is ∙ ap (target addresses) (same_is was now e))
    (subst (λ (cs : List ℕ). LinkLeads (beside links link (resting g)) cs (beside links link (resting g))) (sym chars-nil) (link_leads_nothing (beside links link (resting g))))
change_leads addresses was now false e known g links link is = link_leads addresses now known g links link

target_by : (addresses : List (Option (List ℕ))) (n : ℕ) (o : Option (List ℕ)) → address_of addresses n ≡ o → target addresses (option_map (λ _. n) o) ≡ option_map (λ a. record { id = decimal n; address = a }) o
target_by addresses n None e = refl
target_by addresses n (Some a) e = ap (option_map (λ b. record { id = decimal n; address = b })) e

-- a link that isn't written leads nowhere
pub target_written : (addresses : List (Option (List ℕ))) (link : Option ℕ) → target addresses (written_link addresses link) ≡ target addresses link
target_written addresses None = refl
target_written addresses (Some n) = target_by addresses n (address_of addresses n) refl

-- ---- rows

glyphs_of : (t : Option Link) (gs : List Glyph) → map (λ (c : LinkedCell). c.glyph) (map (λ g. record { glyph = g; link = t }) gs) ≡ gs
glyphs_of t [] = refl
glyphs_of t (g ∷ gs) = ap (λ l. g ∷ l) (glyphs_of t gs)

links_of : (t : Option Link) (gs : List Glyph) → map (λ (c : LinkedCell). c.link) (map (λ g. record { glyph = g; link = t }) gs) ≡ replicate (length gs) t
links_of t [] = refl
links_of t (g ∷ gs) = ap (λ l. t ∷ l) (links_of t gs)

map_both : {A B : Type 0} (f : A → B) (xs ys : List A) → map f (xs ++ ys) ≡ map f xs ++ map f ys
map_both f [] ys = refl
map_both f (x ∷ xs) ys = ap (λ l. f x ∷ l) (map_both f xs ys)

-- as many are made as were there
pub map_length : {A B : Type 0} (f : A → B) (xs : List A) → length (map f xs) ≡ length xs
map_length f [] = refl
map_length f (x ∷ xs) = ap suc (map_length f xs)

after_place : (g : Grid) (hs : List Glyph) (t : Option Link) → (painted g hs).y * (painted g hs).width + (painted g hs).x ≡ g.y * g.width + g.x + length (replicate (length hs) t)
unfolding painted
after_place g hs t = omega (arith, length-replicate (length hs) t)

painted_pen : (g : Grid) (hs : List Glyph) → (painted g hs).pen ≡ g.pen
unfolding painted
painted_pen g hs = refl

-- the screen after a piece and after what follows it
pub painted_on : (s : LinkScreen) (t : Option Link) (gs : List Glyph) (rest : List LinkedCell)
    → beside (put_each (linked_cells s.links (row_start s.grid + s.grid.x) (length gs) t) ((painted s.grid gs).y * (painted s.grid gs).width + (painted s.grid gs).x) (map (λ (c : LinkedCell). c.link) rest)) None (resting (painted (painted s.grid gs) (map (λ (c : LinkedCell). c.glyph) rest)))
    ≡ beside (put_each s.links (s.grid.y * s.grid.width + s.grid.x) (map (λ (c : LinkedCell). c.link) (map (λ g. record { glyph = g; link = t }) gs ++ rest))) None (resting (painted s.grid (map (λ (c : LinkedCell). c.glyph) (map (λ g. record { glyph = g; link = t }) gs ++ rest))))
painted_on s t gs rest =
    let G : List LinkedCell = map (λ g. record { glyph = g; link = t }) gs in
    let start = s.grid.y * s.grid.width + s.grid.x in
    let cells : painted (painted s.grid gs) (map (λ (c : LinkedCell). c.glyph) rest) ≡ painted s.grid (map (λ (c : LinkedCell). c.glyph) (G ++ rest)) =
    painted-append s.grid gs (map (λ (c : LinkedCell). c.glyph) rest)
    ∙ ap (λ (l : List Glyph). painted s.grid (l ++ map (λ (c : LinkedCell). c.glyph) rest)) (sym (glyphs_of t gs))
    ∙ ap (painted s.grid) (sym (map_both (λ (c : LinkedCell). c.glyph) G rest)) in
    let links : put_each (linked_cells s.links start (length gs) t) ((painted s.grid gs).y * (painted s.grid gs).width + (painted s.grid gs).x) (map (λ (c : LinkedCell). c.link) rest) ≡ put_each s.links start (map (λ (c : LinkedCell). c.link) (G ++ rest)) =
    ap (λ i. put_each (put_each s.links start (replicate (length gs) t)) i (map (λ (c : LinkedCell). c.link) rest)) (after_place s.grid gs t)
    ∙ sym (put_each-append s.links start (replicate (length gs) t) (map (λ (c : LinkedCell). c.link) rest))
    ∙ ap (λ (l : List (Option Link)). put_each s.links start (l ++ map (λ (c : LinkedCell). c.link) rest)) (sym (links_of t gs))
    ∙ ap (put_each s.links start) (sym (map_both (λ (c : LinkedCell). c.link) G rest)) in
    ap (λ (l : List (Option Link)). beside l None (resting (painted (painted s.grid gs) (map (λ (c : LinkedCell). c.glyph) rest)))) links
    ∙ ap (λ (g : Grid). beside (put_each s.links start (map (λ (c : LinkedCell). c.link) (G ++ rest))) None (resting g)) cells

utf8_from : (addresses : List (Option (List ℕ))) (was : Option ℕ) (ps : List LinkedPiece) → AreLinkedPieces ps → AreAddresses addresses → IsUtf8 (linked_bytes_from addresses was ps)
utf8_from addresses was ps are known = (woven_texts (linked_bytes_from addresses was ps) (unlinked_bytes ps) (woven_from addresses was ps are known)).first

utf8_change : (addresses : List (Option (List ℕ))) (was now : Option ℕ) → AreAddresses addresses → IsUtf8 (change_bytes addresses was now)
utf8_change addresses was now known = (woven_texts (change_bytes addresses was now) [] (woven_change addresses was now (same_number was now) known)).first

utf8_piece : (p : LinkedPiece) → IsLinkedPiece p → IsUtf8 (piece_bytes p.style p.text)
utf8_piece p is = (woven_texts (piece_bytes p.style p.text) (piece_bytes p.style p.text) (woven_calm (piece_bytes p.style p.text) (calm_piece p.style p.text is.style is.utf8 is.shown.printed))).first

row_leads : (addresses : List (Option (List ℕ))) (was : Option ℕ) (ps : List LinkedPiece) (s : LinkScreen) → AreLinkedPieces ps → AreAddresses addresses → s.current ≡ target addresses was
    → HasColumns s.grid (length (row_cells addresses ps)) → s.grid.pen ≡ plain_pen
    → LinkLeads (link_resting s) (chars (linked_bytes_from addresses was ps))
    (beside (put_each s.links (s.grid.y * s.grid.width + s.grid.x) (map (λ (c : LinkedCell). c.link) (row_cells addresses ps))) None (resting (painted s.grid (map (λ (c : LinkedCell). c.glyph) (row_cells addresses ps)))))
row_leads addresses was [] s are known is h pen =
    subst (λ (g : Grid). LinkLeads (link_resting s) (chars (change_bytes addresses was None)) (beside s.links None (resting g))) (sym (painted-nil s.grid))
    (change_leads addresses was None (same_number was None) refl known s.grid s.links s.current is)
row_leads addresses was (p ∷ ps) s are known is h pen =
    let now : Option ℕ = written_link addresses p.link in
    let t : Option Link = target addresses p.link in
    let gs : List Glyph = piece_cells p.style p.text in
    let rest : List LinkedCell = row_cells addresses ps in
    let change : List ℕ = change_bytes addresses was now in
    let piece : List ℕ = piece_bytes p.style p.text in
    let others : List ℕ = linked_bytes_from addresses now ps in
    let links : List (Option Link) = linked_cells s.links (row_start s.grid + s.grid.x) (length gs) t in
    let after : LinkScreen = record { grid = painted s.grid gs; links = links; current = t } in
    let count : length (row_cells addresses (p ∷ ps)) ≡ length gs + length rest = length-append (piece_linked_cells addresses p) rest ∙ ap (λ n. n + length rest) (map_length (λ g. record { glyph = g; link = t }) gs) in
    let cs : chars (change ++ (piece ++ others)) ≡ chars change ++ (chars piece ++ chars others) = chars-append change (piece ++ others) (utf8_change addresses was now known) ∙ ap (λ l. chars change ++ l) (chars-append piece others (utf8_piece p are.0)) in
    let opens : LinkLeads (link_resting s) (chars change) (beside s.links t (resting s.grid)) =
    subst (λ (o : Option Link). LinkLeads (link_resting s) (chars change) (beside s.links o (resting s.grid))) (target_written addresses p.link)
    (change_leads addresses was now (same_number was now) refl known s.grid s.links s.current is) in
    let shows : LinkLeads (beside s.links t (resting s.grid)) (chars piece) (link_resting after) =
    piece_links p.style p.text s.grid s.links t are.0.style are.0.utf8 are.0.shown.printed
    (shown_leads p.style p.text s.grid p refl refl are.0 (fewer_columns s.grid (length (row_cells addresses (p ∷ ps))) (length gs) h (omega arith))) pen in
    let goes_on = row_leads addresses now ps after are.1 known (sym (target_written addresses p.link)) (painted_columns s.grid gs (length (row_cells addresses (p ∷ ps))) (length rest) h (omega arith)) (painted_pen s.grid gs ∙ pen) in
    let end : LinkReading = beside (put_each s.links (s.grid.y * s.grid.width + s.grid.x) (map (λ (c : LinkedCell). c.link) (row_cells addresses (p ∷ ps)))) None (resting (painted s.grid (map (λ (c : LinkedCell). c.glyph) (row_cells addresses (p ∷ ps))))) in
    subst (λ (x : List ℕ). LinkLeads (link_resting s) x end) (sym cs)
    (subst (λ (r : LinkReading). LinkLeads (link_resting s) (chars change ++ (chars piece ++ chars others)) r) (painted_on s t gs rest)
    (link_leads_both (link_resting s) (beside s.links t (resting s.grid)) _ (chars change) (chars piece ++ chars others) opens
    (link_leads_both (beside s.links t (resting s.grid)) (link_resting after) _ (chars piece) (chars others) shows goes_on)))

-- THE LAW: a row writes its cells, each with the link of its piece
pub links_are_in_their_cells : (addresses : List (Option (List ℕ))) (ps : List LinkedPiece) → AreLinkedPieces ps → AreAddresses addresses → LinkPaints (linked_bytes addresses ps) (row_cells addresses ps)
unfolding link_painted
links_are_in_their_cells addresses ps are known = record {
  text = utf8_from addresses None ps are known;
  paints = λ s h. subst (λ (o : Option Link). LinkLeads (link_resting s) (chars (linked_bytes addresses ps)) (beside (link_painted s (row_cells addresses ps)).links o (resting (link_painted s (row_cells addresses ps)).grid))) (sym h.closed)
      (row_leads addresses None ps s are known h.closed h.columns h.pen);
}
