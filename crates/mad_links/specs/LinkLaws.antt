-- The laws of links.
use Rattle.std.specs.Prelude.{◌≡◌, ◌≢◌, ◌⊎◌, true, false, ℕ, suc, ◌+◌, ◌^◌, ◌<◌, ◌≤◌, List, [], ◌∷◌, ◌++◌, length, map, Option, Some, None, option_map}
use Rattle.std.specs.List.{AllByRecursion}
use Rattle.std.specs.Str.{chars, IsUtf8}
use Rattle.unicode_width.specs.Width.{char_width}
use Rattle.mad_characters.specs.Columns.{char_columns}
use Rattle.mad_term.specs.Commands.{command_bytes}
use Rattle.mad_screen.specs.Grid.{Grid, painted, glyphs}
use Rattle.mad_screen.specs.Terminal.{after_bytes, perform, erased, put}
use Rattle.mad_screen.specs.Drawing.{drawing}
use Rattle.mad_links.specs.Addresses.{IsWritten, is_kept_byte, link_address}
use Rattle.mad_links.specs.SkippingTerminal.{Reader, after_skipping, is_command_char, passing, read_all, skip_all}
use Rattle.mad_links.specs.LinkTerminal.{LinkScreen, LinkedCell, LinkPaints, LinkPaintRows, LinkedDrawnAs, IsOneLink, after_linked, erased_cells}
use Rattle.mad_links.specs.LinkRows.{LinkedPiece, AreLinkedPieces, AreAddresses, written_link, address_of, open_bytes, close_bytes, begun_bytes, linked_bytes, linked_bytes_from, unlinked_bytes, linked_text_bytes, unlinked_text_bytes, row_cells, link_command_bytes, command_text, target}

-- ---- what is shown is the same

-- Bytes that leave a terminal outside every sequence, if it can read them: texts without ESC, and commands that end in a letter.
pub data IsCalm : List ℕ → Type 0 where
  calm_text : (t : List ℕ) → IsUtf8 t → AllByRecursion (λ c. c ≢ 27) (chars t) → IsCalm t
  calm_command : (t ns : List ℕ) (letter : ℕ) → AllByRecursion (λ n. n < 2 ^ 64) ns → 64 ≤ letter → letter < 128 → t ≡ command_bytes ns letter → IsCalm t
  calm_both : (t a b : List ℕ) → IsCalm a → IsCalm b → t ≡ a ++ b → IsCalm t

-- The first bytes are the second with commands of links between calm texts.
pub data IsWoven : List ℕ → List ℕ → Type 0 where
  woven_calm : (t : List ℕ) → IsCalm t → IsWoven t t
  woven_command : (t parameters address : List ℕ) → AllByRecursion (λ c. is_command_char c ≡ true) (command_text parameters address) → AllByRecursion (λ c. c ≢ 59) parameters → t ≡ link_command_bytes parameters address → IsWoven t []
  woven_both : (s t a b c d : List ℕ) → IsWoven a c → IsWoven b d → s ≡ a ++ b → t ≡ c ++ d → IsWoven s t

-- What a terminal is that reads characters and commands one after the other: what it is at rest, that a character without ESC or a letter that ends a
-- sequence leaves it at rest, that only an ESC begins a sequence, and that a bracket (91) goes on with it.
pub record IsReader {R : Type 0} (t : Reader R) (rests : R → Type 0) : Type 0 where
  pub at_rest : (r : R) → rests r → t.at_escape r ≡ false
  pub character : (r s : R) (c : ℕ) → rests r → c ≢ 27 → t.feed r c ≡ Some s → rests s
  pub letter : (r s : R) (c : ℕ) → t.at_escape r ≡ false → 64 ≤ c → t.feed r c ≡ Some s → rests s
  pub going_on : (r s : R) (c : ℕ) → t.at_escape r ≡ false → c ≢ 27 → t.feed r c ≡ Some s → t.at_escape s ≡ false
  pub escape : (r : R) → rests r → (e : R) × (t.feed r 27 ≡ Some e) × (t.at_escape e ≡ true) × (t.before_escape e ≡ r)
  pub bracket : (r e : R) → rests r → t.feed r 27 ≡ Some e → (s : R) × (t.feed e 91 ≡ Some s) × (t.at_escape s ≡ false)

-- any such terminal, passing over links, ends as it does without them
abbrev pub PassesOverLinks : {R : Type 0} → Reader R → (R → Type 0) → Type 0
PassesOverLinks t rests =
    (linked plain : List ℕ) → IsWoven linked plain → (r : _) → rests r → skip_all t (chars linked) (passing r) ≡ option_map passing (read_all t (chars plain) r)

-- a terminal that passes over links ends as the plain one does without them, whatever was there
abbrev pub ShowsTheSame : Type 0
ShowsTheSame = (linked plain : List ℕ) → IsWoven linked plain → (g : Grid) → after_skipping g linked ≡ after_bytes g plain

-- a row's pieces with links are those without, with commands between them
abbrev pub RowsAreWoven : Type 0
RowsAreWoven = (addresses : List (Option (List ℕ))) (ps : List LinkedPiece) → AreLinkedPieces ps → AreAddresses addresses → IsWoven (linked_bytes addresses ps) (unlinked_bytes ps)

-- so are texts of rows, each with a newline
abbrev pub TextsAreWoven : Type 0
TextsAreWoven =
    (addresses : List (Option (List ℕ))) (rows : List (List LinkedPiece)) → AllByRecursion AreLinkedPieces rows → AreAddresses addresses
    → IsWoven (linked_text_bytes addresses rows) (unlinked_text_bytes rows)

-- a terminal with links shows what one does that passes over them
abbrev pub LinksAreBeside : Type 0
LinksAreBeside = (s : LinkScreen) (bytes : List ℕ) → option_map (λ (t : LinkScreen). t.grid) (after_linked s bytes) ≡ after_skipping s.grid bytes

-- a row can be written in steps: some of its pieces, and then the others from the link that is open
abbrev pub RowsInSteps : Type 0
RowsInSteps =
    (addresses : List (Option (List ℕ))) (was : Option ℕ) (ps qs : List LinkedPiece)
    → linked_bytes_from addresses was (ps ++ qs) ≡ (begun_bytes addresses was ps).0 ++ linked_bytes_from addresses (begun_bytes addresses was ps).1 qs

-- where no piece has a link that is written, nothing is written of links: the bytes are those without
abbrev pub WritesNothing : Type 0
WritesNothing =
    (addresses : List (Option (List ℕ))) (ps : List LinkedPiece) → AllByRecursion (λ p. written_link addresses p.link ≡ None) ps
    → linked_bytes addresses ps ≡ unlinked_bytes ps

-- ---- links are where they belong

-- A row writes its cells, each with the link of its piece, and leaves none open.
abbrev pub LinksAreInTheirCells : Type 0
LinksAreInTheirCells = (addresses : List (Option (List ℕ))) (ps : List LinkedPiece) → AreLinkedPieces ps → AreAddresses addresses → LinkPaints (linked_bytes addresses ps) (row_cells addresses ps)

-- Rows of bytes that paint rows of cells with links show these in every area that they fit.
abbrev pub DrawsLinkedRows : Type 0
DrawsLinkedRows =
    (left top : ℕ) (texts : List (List ℕ)) (rows : List (List LinkedCell)) → left < 2 ^ 16 → top + length rows < 2 ^ 32 → LinkPaintRows texts rows
    → LinkedDrawnAs left top rows (drawing left top texts)

-- So rows of pieces do: in each cell is its character's piece's link, and no row ends with one open.
abbrev pub DrawsLinks : Type 0
DrawsLinks =
    (left top : ℕ) (addresses : List (Option (List ℕ))) (rows : List (List LinkedPiece)) → left < 2 ^ 16 → top + length rows < 2 ^ 32
    → AllByRecursion AreLinkedPieces rows → AreAddresses addresses
    → LinkedDrawnAs left top (map (row_cells addresses) rows) (drawing left top (map (linked_bytes addresses) rows))

-- and what is shown of them is what is shown of the same rows without links
abbrev pub DrawingsAreWoven : Type 0
DrawingsAreWoven =
    (left top : ℕ) (addresses : List (Option (List ℕ))) (rows : List (List LinkedPiece)) → left < 2 ^ 16 → top + length rows < 2 ^ 32
    → AllByRecursion AreLinkedPieces rows → AreAddresses addresses
    → IsWoven (drawing left top (map (linked_bytes addresses) rows)) (drawing left top (map unlinked_bytes rows))

-- ---- one link

-- cells of links of two numbers are of one link exactly where the numbers are the same
pub record NumbersAreLinks : Type 0 where
  pub same : (addresses : List (Option (List ℕ))) (n : ℕ) (a : List ℕ) → AreAddresses addresses → address_of addresses n ≡ Some a → IsOneLink (target addresses (Some n)) (target addresses (Some n))
  pub other : (addresses : List (Option (List ℕ))) (m n : ℕ) → AreAddresses addresses → IsOneLink (target addresses (Some m)) (target addresses (Some n)) → m ≡ n

-- ---- the terminal itself

-- an erasure takes the links off the cells that the plain terminal erases
abbrev pub ErasesLinks : Type 0
ErasesLinks =
    (c : ℕ) (ps : List ℕ) (g new : Grid) → (c ≡ 74) ⊎ (c ≡ 75) → perform c ps g ≡ Some new
    → new ≡ erased (erased_cells c ps g).0 (erased_cells c ps g).1 g

-- a character gives its link to the cells that it takes
abbrev pub WritesLinks : Type 0
WritesLinks =
    (g new : Grid) (c k : ℕ) → char_width false c ≡ Some (suc k) → put g c ≡ Some new
    → (new ≡ painted g (glyphs (c ∷ []) k g.pen)) × (char_columns c ≡ suc k)

-- ---- what is written

-- An address that isn't refused can be written, and one that can be written is written as it is.
pub record AddressesAreWritten : Type 0 where
  pub written : (raw a : List ℕ) → link_address raw ≡ Some a → IsWritten a
  pub kept : (a : List ℕ) → IsWritten a → link_address a ≡ Some a

-- Between ESC and `]` and ESC and a backslash are bytes from 33 to 126 alone, so that none is a control byte or can end the command, and no more than
-- the number says.
pub record IsSafeCommand (longest : ℕ) (bytes : List ℕ) : Type 0 where
  pub text : List ℕ
  pub is : bytes ≡ 27 ∷ 93 ∷ (text ++ 27 ∷ 92 ∷ [])
  pub visible : AllByRecursion (λ b. is_kept_byte b ≡ true) text
  pub short : length text ≤ longest

-- the command that opens a link is safe, and so is the one that closes it
pub record CommandsAreSafe : Type 0 where
  pub opens : (n : ℕ) (a : List ℕ) → n < 2 ^ 64 → IsWritten a → IsSafeCommand 726 (open_bytes n a)
  pub closes : IsSafeCommand 3 close_bytes
