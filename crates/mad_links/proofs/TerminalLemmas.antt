-- What a terminal with links does is what the plain terminal does to its cells.
use Rattle.std.proofs.Common.{◌≡◌, ◌⊎◌, ⊎_elim, ℕ, suc, ◌+◌, ◌^◌, ◌<◌, Bool, true, false, cond, eqb, leb, ltb, List, [], ◌∷◌, ◌++◌, length, map, Option, Some, None, refl, ap, sym, ◌∙◌, subst, arith, min, lit<}
use Rattle.std.specs.Prelude.{unwrap_or}
use Rattle.std.specs.List.{AllByRecursion}
use Rattle.unicode_width.specs.Width.{char_width}
use Rattle.mad_characters.specs.Columns.{char_columns}
use Rattle.mad_term.specs.Commands.{move_to_bytes}
use Rattle.mad_screen.specs.Grid.{Grid, painted, glyphs}
use Rattle.mad_screen.specs.Terminal.{put, put_wide, perform, erased, erase_screen, erase_row, row_start, row_end, screen_end}
use Rattle.mad_screen.specs.Drawing.{drawing}
use Rattle.mad_links.specs.LinkTerminal.{erased_cells, erased_of_screen, erased_of_row}
use Rattle.mad_links.specs.LinkRows.{LinkedPiece, AreLinkedPieces, AreAddresses, linked_bytes, unlinked_bytes, linked_text_bytes, unlinked_text_bytes}
use Rattle.mad_links.specs.LinkLaws.{IsCalm, calm_command, calm_text, IsWoven, woven_calm, woven_both}
use Rattle.std.specs.Str.{IsAscii}
use Rattle.std.proofs.lemmas.Str.{IsUtf8-from_ascii, chars-IsAscii}
use Rattle.std.proofs.lemmas.Str.Ascii.{IsAscii-cons, IsAscii-nil}
use Rattle.mad_links.proofs.CalmLemmas.{NoEscape}
use Rattle.mad_links.proofs.LinkRowLemmas.{rows_are_woven, woven_nothing}

some_is : {A : Type 0} (x y : A) → Some x ≡ Some y → y ≡ x
some_is x y k = cc

none_is : {A B : Type 0} {a : A} → None ≡ Some a → B
none_is h = absurd (clash h)
  where
    clash : {A : Type 0} {a : A} → None ≡ Some a → ⊥
    clash e = cc

screen_erased : (ps : List ℕ) (g new : Grid) → erase_screen ps g ≡ Some new → new ≡ erased (erased_of_screen ps g).0 (erased_of_screen ps g).1 g
screen_erased [] g new h = some_is _ _ h
screen_erased (n ∷ []) g new h = by_number (eqb n 1) (eqb n 2) h
  where
    by_number : (a b : Bool) → cond a (Some (erased 0 (row_start g + min (g.x + 1) g.width) g)) (cond b (Some (erased 0 (screen_end g) g)) None) ≡ Some new → new ≡ erased 0 (cond a (row_start g + min (g.x + 1) g.width) (screen_end g)) g
    by_number true b k = some_is _ _ k
    by_number false true k = some_is _ _ k
    by_number false false k = none_is k
screen_erased (n ∷ m ∷ ps) g new h = none_is h

row_erased : (ps : List ℕ) (g new : Grid) → erase_row ps g ≡ Some new → new ≡ erased (erased_of_row ps g).0 (erased_of_row ps g).1 g
row_erased [] g new h = some_is _ _ h
row_erased (n ∷ []) g new h = by_number (eqb n 2) h
  where
    by_number : (a : Bool) → cond a (Some (erased (row_start g) (row_end g) g)) None ≡ Some new → new ≡ erased (row_start g) (row_end g) g
    by_number true k = some_is _ _ k
    by_number false k = none_is k
row_erased (n ∷ m ∷ ps) g new h = none_is h

-- THE LAW: an erasure takes the links off the cells that the plain terminal erases
pub erases_links : (c : ℕ) (ps : List ℕ) (g new : Grid) → (c ≡ 74) ⊎ (c ≡ 75) → perform c ps g ≡ Some new → new ≡ erased (erased_cells c ps g).0 (erased_cells c ps g).1 g
erases_links c ps g new which h =
    ⊎_elim
    (λ e. subst (λ d. new ≡ erased (erased_cells d ps g).0 (erased_cells d ps g).1 g) (sym e) (screen_erased ps g new (ap (λ d. perform d ps g) (sym e) ∙ h)))
    (λ e. subst (λ d. new ≡ erased (erased_cells d ps g).0 (erased_cells d ps g).1 g) (sym e) (row_erased ps g new (ap (λ d. perform d ps g) (sym e) ∙ h)))
    which

-- THE LAW: a character gives its link to the cells that it takes
pub writes_links : (g new : Grid) (c k : ℕ) → char_width false c ≡ Some (suc k) → put g c ≡ Some new → (new ≡ painted g (glyphs (c ∷ []) k g.pen)) × (char_columns c ≡ suc k)
unfolding char_columns
writes_links g new c k wide h =
    (by_row (ltb g.y g.height) (ap (λ o. cond (ltb g.y g.height) (put_wide o g c) None) (sym wide) ∙ h), ap (λ o. unwrap_or o 0) wide)
  where
    by_column : (b : Bool) → cond b (Some (painted g (glyphs (c ∷ []) k g.pen))) None ≡ Some new → new ≡ painted g (glyphs (c ∷ []) k g.pen)
    by_column true e = some_is _ _ e
    by_column false e = none_is e

    by_row : (b : Bool) → cond b (put_wide (Some (suc k)) g c) None ≡ Some new → new ≡ painted g (glyphs (c ∷ []) k g.pen)
    by_row true e = by_column (leb (g.x + suc k) g.width) e
    by_row false e = none_is e

-- ---- drawings

calm_move : (x y : ℕ) → x + 1 < 2 ^ 64 → y + 1 < 2 ^ 64 → IsCalm (move_to_bytes x y)
calm_move x y small_x small_y = calm_command (move_to_bytes x y) ((y + 1) ∷ (x + 1) ∷ []) 72 (small_y, (small_x, tt)) (omega arith) (omega arith) refl

-- THE LAW: what is shown of rows with links in an area is what is shown of them without
pub drawings_are_woven : (left top : ℕ) (addresses : List (Option (List ℕ))) (rows : List (List LinkedPiece)) → left < 2 ^ 16 → top + length rows < 2 ^ 32 → AllByRecursion AreLinkedPieces rows → AreAddresses addresses
    → IsWoven (drawing left top (map (linked_bytes addresses) rows)) (drawing left top (map unlinked_bytes rows))
drawings_are_woven left top addresses [] small_x small_y are known = woven_nothing
drawings_are_woven left top addresses (r ∷ rows) small_x small_y are known =
    let move = move_to_bytes left top in
    let some = drawing left (suc top) (map (linked_bytes addresses) rows) in
    let plain = drawing left (suc top) (map unlinked_bytes rows) in
    woven_both (move ++ (linked_bytes addresses r ++ some)) (move ++ (unlinked_bytes r ++ plain)) move (linked_bytes addresses r ++ some) move (unlinked_bytes r ++ plain)
    (woven_calm move (calm_move left top (omega arith) (omega arith)))
    (woven_both (linked_bytes addresses r ++ some) (unlinked_bytes r ++ plain) (linked_bytes addresses r) some (unlinked_bytes r) plain
    (rows_are_woven addresses r are.0 known)
    (drawings_are_woven left (suc top) addresses rows small_x (omega arith) are.1 known) refl refl) refl refl

-- ---- texts

calm_newline : IsCalm (10 ∷ [])
calm_newline =
    let ascii : IsAscii (10 ∷ []) = IsAscii-cons 10 [] (lit< tt) IsAscii-nil in
    calm_text (10 ∷ []) (IsUtf8-from_ascii (10 ∷ []) ascii) (subst NoEscape (sym (chars-IsAscii (10 ∷ []) ascii)) (omega arith, tt))

-- THE LAW: the same of rows one below the other
pub texts_are_woven : (addresses : List (Option (List ℕ))) (rows : List (List LinkedPiece)) → AllByRecursion AreLinkedPieces rows → AreAddresses addresses
    → IsWoven (linked_text_bytes addresses rows) (unlinked_text_bytes rows)
texts_are_woven addresses [] are known = woven_nothing
texts_are_woven addresses (r ∷ rows) are known =
    woven_both (linked_text_bytes addresses (r ∷ rows)) (unlinked_text_bytes (r ∷ rows)) (linked_bytes addresses r ++ 10 ∷ []) (linked_text_bytes addresses rows) (unlinked_bytes r ++ 10 ∷ []) (unlinked_text_bytes rows)
    (woven_both (linked_bytes addresses r ++ 10 ∷ []) (unlinked_bytes r ++ 10 ∷ []) (linked_bytes addresses r) (10 ∷ []) (unlinked_bytes r) (10 ∷ []) (rows_are_woven addresses r are.0 known) (woven_calm (10 ∷ []) calm_newline) refl refl)
    (texts_are_woven addresses rows are.1 known) refl refl
