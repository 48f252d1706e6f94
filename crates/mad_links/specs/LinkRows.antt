-- What is written of a row's pieces with their links.
use Rattle.std.specs.Prelude.{◌≡◌, ℕ, ◌^◌, ◌<◌, ◌==◌, Bool, true, false, List, [], ◌∷◌, ◌++◌, map, Option, Some, None, decimal, slice_get, option_map, option_and_then, if◌then◌else◌}
use Rattle.std.specs.List.{AllByRecursion, flat_map}
use Rattle.std.specs.Str.{chars, IsUtf8}
use Rattle.mad_term.specs.declared.styles.ContentStyle.{ContentStyle}
use Rattle.mad_term.specs.Styles.{piece_bytes, IsStyle}
use Rattle.mad_screen.specs.Painting.{IsShown, piece_cells}
use Rattle.mad_links.specs.Addresses.{IsWritten}
use Rattle.mad_links.specs.LinkTerminal.{Link, LinkedCell}

-- ---- commands

-- The command of a link is ESC and `]`, its text, and ESC and a backslash. The text is `8;`, parameters, a semicolon and an address.
abbrev pub command_text : List ℕ → List ℕ → List ℕ
command_text parameters address = 56 ∷ 59 ∷ (parameters ++ 59 ∷ address)

-- the whole command: that text between its ends
abbrev pub link_command_bytes : List ℕ → List ℕ → List ℕ
link_command_bytes parameters address = 27 ∷ 93 ∷ (command_text parameters address ++ 27 ∷ 92 ∷ [])

-- the parameters of a link: `id=` (105, 100, 61), and its number
abbrev pub id_parameter : ℕ → List ℕ
id_parameter n = 105 ∷ 100 ∷ 61 ∷ decimal n

-- the command that opens the link of this number
abbrev pub open_bytes : ℕ → List ℕ → List ℕ
open_bytes n address = link_command_bytes (id_parameter n) address

-- the command that closes the link that is open
abbrev pub close_bytes : List ℕ
close_bytes = link_command_bytes [] []

-- ---- pieces

-- a text in a style, and the number of its link, if it is in one
pub record LinkedPiece : Type 0 where
  pub style : ContentStyle
  pub text : List ℕ
  pub link : Option ℕ

-- the address of this number, if there is one and it isn't refused
abbrev pub address_of : List (Option (List ℕ)) → ℕ → Option (List ℕ)
address_of addresses n = option_and_then (λ a. a) (slice_get addresses n)

-- the number of a link that is written, if it has an address
abbrev pub written_link : List (Option (List ℕ)) → Option ℕ → Option ℕ
written_link addresses link = option_and_then (λ n. option_map (λ _. n) (address_of addresses n)) link

-- what the cells of a link of this number lead to
abbrev pub target : List (Option (List ℕ)) → Option ℕ → Option Link
target addresses link = option_and_then (λ n. option_map (λ a. record { id = decimal n; address = a }) (address_of addresses n)) link

-- whether two links have the same number, or both are none
abbrev pub same_number : Option ℕ → Option ℕ → Bool
same_number None None = true
same_number None (Some n) = false
same_number (Some m) None = false
same_number (Some m) (Some n) = m == n

-- the command that opens a link, or closes the one before
abbrev pub number_bytes : ℕ → Option (List ℕ) → List ℕ
number_bytes n None = close_bytes
number_bytes n (Some address) = open_bytes n address

-- the command to the next link, or to none
abbrev pub link_bytes : List (Option (List ℕ)) → Option ℕ → List ℕ
link_bytes addresses None = close_bytes
link_bytes addresses (Some n) = number_bytes n (address_of addresses n)

-- a command where the link changes
abbrev pub change_bytes : List (Option (List ℕ)) → Option ℕ → Option ℕ → List ℕ
change_bytes addresses was now = if same_number was now then [] else link_bytes addresses now

-- Pieces, where a link may be open: a command goes before each piece whose link is another, and the last link is closed.
abbrev pub linked_bytes_from : List (Option (List ℕ)) → Option ℕ → List LinkedPiece → List ℕ
linked_bytes_from addresses was [] = change_bytes addresses was None
linked_bytes_from addresses was (p ∷ ps) =
    let now = written_link addresses p.link in
    change_bytes addresses was now ++ (piece_bytes p.style p.text ++ linked_bytes_from addresses now ps)

-- The same without the end of the last link: the bytes, and the number of the link that is open then.
abbrev pub begun_bytes : List (Option (List ℕ)) → Option ℕ → List LinkedPiece → List ℕ × Option ℕ
begun_bytes addresses was [] = ([], was)
begun_bytes addresses was (p ∷ ps) =
    let now = written_link addresses p.link in
    (change_bytes addresses was now ++ (piece_bytes p.style p.text ++ (begun_bytes addresses now ps).0), (begun_bytes addresses now ps).1)

-- a row's pieces
abbrev pub linked_bytes : List (Option (List ℕ)) → List LinkedPiece → List ℕ
linked_bytes addresses ps = linked_bytes_from addresses None ps

-- the same without links
abbrev pub unlinked_bytes : List LinkedPiece → List ℕ
unlinked_bytes ps = flat_map (λ p. piece_bytes p.style p.text) ps

-- rows one below the other, each with a newline (10)
abbrev pub linked_text_bytes : List (Option (List ℕ)) → List (List LinkedPiece) → List ℕ
linked_text_bytes addresses rows = flat_map (λ ps. linked_bytes addresses ps ++ 10 ∷ []) rows

-- such rows without links
abbrev pub unlinked_text_bytes : List (List LinkedPiece) → List ℕ
unlinked_text_bytes rows = flat_map (λ ps. unlinked_bytes ps ++ 10 ∷ []) rows

-- ---- cells

-- the cells of a piece: each leads where its link does
abbrev pub piece_linked_cells : List (Option (List ℕ)) → LinkedPiece → List LinkedCell
piece_linked_cells addresses p = map (λ g. record { glyph = g; link = target addresses p.link }) (piece_cells p.style p.text)

-- the cells of a row
abbrev pub row_cells : List (Option (List ℕ)) → List LinkedPiece → List LinkedCell
row_cells addresses ps = flat_map (piece_linked_cells addresses) ps

-- ---- what is known of pieces

-- it shows cells of its own: no control character, and no widthless one in front; its colors are known; its link has a number of the machine
pub record IsLinkedPiece (p : LinkedPiece) : Type 0 where
  pub utf8 : IsUtf8 p.text
  pub shown : IsShown (chars p.text)
  pub style : IsStyle p.style

-- so is each of several pieces
abbrev pub AreLinkedPieces : List LinkedPiece → Type 0
AreLinkedPieces ps = AllByRecursion IsLinkedPiece ps

-- each address can be written, and their numbers are those of a machine
pub record AreAddresses (addresses : List (Option (List ℕ))) : Type 0 where
  pub written : (n : ℕ) (a : List ℕ) → address_of addresses n ≡ Some a → IsWritten a × (n < 2 ^ 64)
