-- The bytes of a rectangle, as they are written.
use Rattle.std.proofs.Common.{◌≡◌, ℕ, zero, suc, ◌+◌, ◌-◌, true, false, cond, List, [], ◌∷◌, ◌++◌, refl, ap, sym, ◌∙◌, append_assoc, append-nil}
use Rattle.std.proofs.lemmas.List.Concat.{flat_map-append}
use Rattle.mad_term.specs.Commands.{move_to_bytes}
use Rattle.mad_style.specs.Repeats.{styled_char_bytes}
use Rattle.mad_style.specs.StyledChars.{styled_char}
use Rattle.mad_style.specs.declared.styled_chars.StyledChar.{StyledChar}
use Rattle.mad_draw.specs.Parts.{parts_bytes}
use Rattle.mad_draw.specs.Pieces.{RowPiece, pieces_bytes, single_chars, spaces}
use Rattle.mad_draw.specs.PlacedPieces.{Placed, placed_bytes, one_placed_bytes}
use Rattle.mad_draw.specs.Rects.{border, edge, filled_sides, open_sides, sides, sides_below, top_edge, bottom_edge, rect_pieces}
use Rattle.mad_draw.specs.declared.rects.Rect.{Rect}
use Rattle.mad_draw.proofs.PieceLemmas.{bytes_both, bytes_one}

placed_both : (ps qs : List Placed) → placed_bytes (ps ++ qs) ≡ placed_bytes ps ++ placed_bytes qs
placed_both ps qs = flat_map-append one_placed_bytes ps qs

-- the sides of each row between the edges
abbrev pub sides_part : Rect → ℕ → List ℕ
sides_part r number = placed_bytes (sides r (r.area.top + suc number))

sides_bytes : (r : Rect) (n : ℕ) → parts_bytes (sides_part r) n ≡ placed_bytes (sides_below r n)
sides_bytes r zero = refl
sides_bytes r (suc n) = ap (λ bytes. bytes ++ sides_part r n) (sides_bytes r n) ∙ sym (placed_both (sides_below r n) (sides r (r.area.top + suc n)))

-- a rectangle as it is written: its top edge, its sides, its bottom edge
pub rect_bytes : (r : Rect) → one_placed_bytes (top_edge r) ++ (parts_bytes (sides_part r) (r.area.height - 2) ++ one_placed_bytes (bottom_edge r)) ≡ placed_bytes (rect_pieces r)
rect_bytes r =
    let n : ℕ = r.area.height - 2 in
    let bottom : List ℕ = one_placed_bytes (bottom_edge r) in
    ap (λ bytes. one_placed_bytes (top_edge r) ++ bytes)
    (ap (λ bytes. bytes ++ bottom) (sides_bytes r n) ∙ ap (λ bytes. placed_bytes (sides_below r n) ++ bytes) (sym (append-nil bottom)) ∙ sym (placed_both (sides_below r n) (bottom_edge r ∷ [])))

-- three pieces in a row: one, several, one
row_bytes : (first last : RowPiece) (middle : List RowPiece) (a b c : List ℕ) → a ≡ pieces_bytes (first ∷ []) → b ≡ pieces_bytes middle → c ≡ pieces_bytes (last ∷ []) → a ++ (b ++ c) ≡ pieces_bytes (first ∷ (middle ++ last ∷ []))
row_bytes first last middle a b c p q s =
    ap (λ bytes. bytes ++ (b ++ c)) p ∙ ap (λ bytes. pieces_bytes (first ∷ []) ++ bytes) (ap (λ bytes. bytes ++ c) q ∙ ap (λ bytes. pieces_bytes middle ++ bytes) s ∙ sym (bytes_both middle (last ∷ [])))
    ∙ sym (bytes_both (first ∷ []) (middle ++ last ∷ []))

-- an edge as it is written
pub edge_bytes : (r : Rect) (y first middle last : ℕ)
    → move_to_bytes r.area.left y ++ (styled_char_bytes (styled_char r.colors first) ++ (pieces_bytes (single_chars (styled_char r.colors middle) (r.area.width - 2)) ++ styled_char_bytes (styled_char r.colors last)))
    ≡ one_placed_bytes (edge r y first middle last)
edge_bytes r y first middle last =
    ap (λ bytes. move_to_bytes r.area.left y ++ bytes)
    (row_bytes (border r first) (border r last) (single_chars (styled_char r.colors middle) (r.area.width - 2)) _ _ _ (sym (bytes_one (border r first))) refl (sym (bytes_one (border r last))))

-- sides as they are written
pub filled_bytes : (r : Rect) (y : ℕ)
    → move_to_bytes r.area.left y ++ (styled_char_bytes (styled_char r.colors r.border_style.left) ++ (pieces_bytes (spaces r.colors (r.area.width - 2)) ++ styled_char_bytes (styled_char r.colors r.border_style.right)))
    ≡ placed_bytes (filled_sides r y)
filled_bytes r y =
    let left : RowPiece = border r r.border_style.left in
    let right : RowPiece = border r r.border_style.right in
    ap (λ bytes. move_to_bytes r.area.left y ++ bytes) (row_bytes left right (spaces r.colors (r.area.width - 2)) _ _ _ (sym (bytes_one left)) refl (sym (bytes_one right)))
    ∙ sym (append-nil (move_to_bytes r.area.left y ++ pieces_bytes (left ∷ (spaces r.colors (r.area.width - 2) ++ right ∷ []))))

-- each open side is written after a move of its own
pub open_bytes : (r : Rect) (y : ℕ)
    → move_to_bytes r.area.left y ++ (styled_char_bytes (styled_char r.colors r.border_style.left) ++ (move_to_bytes (r.area.left + (r.area.width - 1)) y ++ styled_char_bytes (styled_char r.colors r.border_style.right)))
    ≡ placed_bytes (open_sides r y)
open_bytes r y =
    let left : RowPiece = border r r.border_style.left in
    let right : RowPiece = border r r.border_style.right in
    let start : List ℕ = move_to_bytes r.area.left y in
    let end : List ℕ = move_to_bytes (r.area.left + (r.area.width - 1)) y in
    ap (λ bytes. start ++ (styled_char_bytes (styled_char r.colors r.border_style.left) ++ (end ++ bytes))) (sym (bytes_one right))
    ∙ ap (λ bytes. start ++ (bytes ++ (end ++ pieces_bytes (right ∷ [])))) (sym (bytes_one left))
    ∙ sym (append_assoc start (pieces_bytes (left ∷ [])) (end ++ pieces_bytes (right ∷ [])))
    ∙ ap (λ bytes. (start ++ pieces_bytes (left ∷ [])) ++ bytes) (sym (append-nil (end ++ pieces_bytes (right ∷ []))))

-- sides of either kind, as they are written
pub sides_filled : (r : Rect) (y y' n : ℕ) (left right : StyledChar) → r.fill ≡ true → y ≡ y' → left ≡ styled_char r.colors r.border_style.left → right ≡ styled_char r.colors r.border_style.right → n ≡ r.area.width - 2
    → move_to_bytes r.area.left y ++ (styled_char_bytes left ++ (pieces_bytes (spaces r.colors n) ++ styled_char_bytes right)) ≡ placed_bytes (sides r y')
sides_filled r y y' n left right is row left_is right_is columns =
    ap (λ k. move_to_bytes r.area.left k ++ (styled_char_bytes left ++ (pieces_bytes (spaces r.colors n) ++ styled_char_bytes right))) row
    ∙ ap (λ c. move_to_bytes r.area.left y' ++ (styled_char_bytes c ++ (pieces_bytes (spaces r.colors n) ++ styled_char_bytes right))) left_is
    ∙ ap (λ c. move_to_bytes r.area.left y' ++ (styled_char_bytes (styled_char r.colors r.border_style.left) ++ (pieces_bytes (spaces r.colors n) ++ styled_char_bytes c))) right_is
    ∙ ap (λ k. move_to_bytes r.area.left y' ++ (styled_char_bytes (styled_char r.colors r.border_style.left) ++ (pieces_bytes (spaces r.colors k) ++ styled_char_bytes (styled_char r.colors r.border_style.right)))) columns
    ∙ filled_bytes r y'
    ∙ sym (ap (λ f. placed_bytes (cond f (filled_sides r y') (open_sides r y'))) is)

-- the sides are written so where the rectangle isn't filled
pub sides_open : (r : Rect) (y y' x : ℕ) (left right : StyledChar) → r.fill ≡ false → y ≡ y' → left ≡ styled_char r.colors r.border_style.left → right ≡ styled_char r.colors r.border_style.right → x ≡ r.area.left + (r.area.width - 1)
    → move_to_bytes r.area.left y ++ (styled_char_bytes left ++ (move_to_bytes x y ++ styled_char_bytes right)) ≡ placed_bytes (sides r y')
sides_open r y y' x left right is row left_is right_is column =
    ap (λ k. move_to_bytes r.area.left k ++ (styled_char_bytes left ++ (move_to_bytes x k ++ styled_char_bytes right))) row
    ∙ ap (λ c. move_to_bytes r.area.left y' ++ (styled_char_bytes c ++ (move_to_bytes x y' ++ styled_char_bytes right))) left_is
    ∙ ap (λ c. move_to_bytes r.area.left y' ++ (styled_char_bytes (styled_char r.colors r.border_style.left) ++ (move_to_bytes x y' ++ styled_char_bytes c))) right_is
    ∙ ap (λ k. move_to_bytes r.area.left y' ++ (styled_char_bytes (styled_char r.colors r.border_style.left) ++ (move_to_bytes k y' ++ styled_char_bytes (styled_char r.colors r.border_style.right)))) column
    ∙ open_bytes r y'
    ∙ sym (ap (λ f. placed_bytes (cond f (filled_sides r y') (open_sides r y'))) is)
