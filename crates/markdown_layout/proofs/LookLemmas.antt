-- Rows behind gutters that change no look.
use Rattle.std.proofs.Common.{◌≡◌, ℕ, ◌+◌, Bool, true, false, not, ◌||◌, ◌&&◌, List, [], ◌∷◌, ◌++◌, length, Option, Some, None, refl, ap, sym, ◌∙◌, append_assoc, append-nil, arith, if◌then◌else◌}
use Rattle.std.specs.Prelude.{◌==◌, is_some}
use Rattle.std.specs.List.{last_or}
use Rattle.std.specs.Option.{option_and_then}
use Rattle.std.proofs.lemmas.Bool.Decides.{nat_tests}
use Rattle.mad_style.specs.CompoundStyles.{overwritten}
use Rattle.mad_draw.specs.Pieces.{RowPiece, pieces_bytes, spaces}
use Rattle.mad_draw.proofs.PieceLemmas.{bytes_both}
use Rattle.mad_mark_runs.specs.declared.mark_runs.MarkRun.{MarkRun}
use Rattle.mad_rows.specs.RowStyles.{tone_styles}
use Rattle.mad_rows.specs.Rows.{line_pieces, line_bytes}
use Rattle.mad_rows.specs.declared.row_skin.RowSkin.{RowSkin}
use Rattle.mad_sections.specs.declared.gutters.Alert.{Alert}
use Rattle.mad_sections.specs.declared.gutters.Gutter.{Gutter}
use Rattle.mad_sections.specs.declared.gutters.Gutter.TheVariants.{Bar, AlertBar, Bullet, Number, Task, Code, Signs, Below}
use Rattle.mad_pages.specs.Fronts.{FrontContent, front_of}
use Rattle.mad_pages.specs.PageRows.{RowContent}
use Rattle.mad_page_rows.specs.Faces.{alert_titled, bold_behind, emboldened, titled, faces, has_ascii_boxes, has_boxes, columns_behind, is_code, codes, back_columns, backs, ends_in_code, in_box, level_of, level_above, ruled, line_skin, behind_pieces, page_row_bytes, toned_pieces}
use Rattle.markdown_layout.specs.Looks.{changes_look, change_look, looks_otherwise}

neither : (a b : Bool) → (a || b) ≡ false → (a ≡ false) × (b ≡ false)
neither true b h = absurd (no h)
  where
    no : true ≡ false → ⊥
    no e = cc
neither false b h = (refl, h)

record IsPlain (g : Gutter) : Type 0 where
  code : is_code g ≡ false
  level : level_of g ≡ None

is_plain : (g : Gutter) → changes_look g ≡ false → IsPlain g
is_plain Bar h = record { code = refl; level = refl }
is_plain (AlertBar alert) h = record { code = refl; level = refl }
is_plain Bullet h = record { code = refl; level = refl }
is_plain (Number number) h = record { code = refl; level = refl }
is_plain (Task done) h = record { code = refl; level = refl }
is_plain Code h = absurd (no h)
  where
    no : true ≡ false → ⊥
    no e = cc
is_plain (Signs level) h = record { code = refl; level = refl }
is_plain (Below level) h = absurd (no h)
  where
    no : true ≡ false → ⊥
    no e = cc

none_code : (gs : List Gutter) → change_look gs ≡ false → codes gs ≡ 0
none_code [] h = refl
none_code (g ∷ gs) h =
    let both = neither (changes_look g) (change_look gs) h in
    ap (λ (t : Bool). (if t then 1 else 0) + codes gs) (is_plain g both.0).code ∙ ap (λ (n : ℕ). 0 + n) (none_code gs both.1)

not_last : (gs : List Gutter) → change_look gs ≡ false → ends_in_code gs ≡ false
not_last [] h = refl
not_last (g ∷ []) h = (is_plain g (neither (changes_look g) false h).0).code
not_last (g ∷ k ∷ gs) h = not_last (k ∷ gs) (neither (changes_look g) (change_look (k ∷ gs)) h).1

no_level : (last : Option Gutter) (gs : List Gutter) → option_and_then level_of last ≡ None → change_look gs ≡ false → option_and_then level_of (last_or last gs) ≡ None
no_level last [] k h = k
no_level last (g ∷ gs) k h =
    let both = neither (changes_look g) (change_look gs) h in
    no_level (Some g) gs (is_plain g both.0).level both.1

and_none : (a b : Bool) → b ≡ false → (a && b) ≡ false
and_none true b h = h
and_none false b h = refl

if_none : (t : Bool) (n : ℕ) → n ≡ 0 → (if t then n else 0) ≡ 0
if_none true n h = h
if_none false n h = refl

untitled : (alert : Option Alert) → is_some alert ≡ false → alert ≡ None
untitled None h = refl
untitled (Some alert) h = absurd (no h)
  where
    no : true ≡ false → ⊥
    no e = cc

same_skin : (skin : RowSkin) (front : FrontContent) → in_box skin front.gutters ≡ false → change_look front.gutters ≡ false → front.head ≡ false → alert_titled front ≡ None → line_skin skin front ≡ skin
same_skin skin front out h body none =
    ap (λ (t : Bool). emboldened (ruled (if t then record skin { paragraph = skin.code_block } else skin) (level_above front.gutters)) (bold_behind skin front)) out
    ∙ ap (λ (level : Option ℕ). emboldened (ruled skin level) (bold_behind skin front)) (no_level None front.gutters refl h)
    ∙ ap (λ (t : Bool). emboldened skin (if t then overwritten skin.bold skin.head else titled skin (alert_titled front))) body ∙ ap (λ (alert : Option Alert). emboldened skin (titled skin alert)) none

no_marks : (marks : List MarkRun) → not (length marks == 0) ≡ false → marks ≡ []
no_marks [] h = refl
no_marks (run ∷ runs) h =
    let some : (length (run ∷ runs) == 0) ≡ false = grind (arith, nat_tests) in
    absurd (no (sym (ap not some) ∙ h))
  where
    no : true ≡ false → ⊥
    no e = cc

-- what is behind the faces is the line alone
behind_open : (skin : RowSkin) (width : Option ℕ) (row : RowContent) → change_look row.gutters ≡ false → row.marks ≡ [] → row.head ≡ false → alert_titled (front_of row) ≡ None
    → behind_pieces skin width false row ++ backs skin row.gutters ≡ line_pieces skin (columns_behind (has_ascii_boxes skin) width row.gutters) false row.line
behind_open skin width row h unmarked body untitled_row =
    let columns = columns_behind (has_ascii_boxes skin) width row.gutters in
    let out : in_box skin row.gutters ≡ false = and_none (has_boxes skin) (ends_in_code row.gutters) (not_last row.gutters h) in
    let none : back_columns skin row.gutters ≡ 0 = if_none (has_boxes skin) (codes row.gutters) (none_code row.gutters h) in
    let looks : behind_pieces skin width false row ≡ line_pieces skin columns (false || in_box skin row.gutters) row.line =
    ap (λ (marks : List MarkRun). toned_pieces marks (tone_styles skin) row.number (line_skin skin (front_of row)) columns (false || in_box skin row.gutters) row.line) unmarked ∙ ap (λ (s : RowSkin). line_pieces s columns (false || in_box skin row.gutters) row.line) (same_skin skin (front_of row) out h body untitled_row) in
    let line : behind_pieces skin width false row ≡ line_pieces skin columns false row.line = looks ∙ ap (λ (t : Bool). line_pieces skin columns (false || t) row.line) out in
    let side : backs skin row.gutters ≡ [] = ap (λ (n : ℕ). spaces skin.code_block.compound_style n) none in
    ap (λ (l : List RowPiece). l ++ backs skin row.gutters) line ∙ ap (λ (s : List RowPiece). line_pieces skin columns false row.line ++ s) side ∙ append-nil (line_pieces skin columns false row.line)

-- a row behind such gutters: their faces, and its line
pub open_row : (skin : RowSkin) (width : Option ℕ) (row : RowContent) → looks_otherwise row ≡ false
    → page_row_bytes skin width row ≡ pieces_bytes (faces skin row.gutters row.fresh) ++ line_bytes skin (columns_behind (has_ascii_boxes skin) width row.gutters) row.line
open_row skin width row h =
    let two = neither (change_look row.gutters) (not (length row.marks == 0) || (row.head || is_some (alert_titled (front_of row)))) h in
    let three = neither (not (length row.marks == 0)) (row.head || is_some (alert_titled (front_of row))) two.1 in
    let four = neither row.head (is_some (alert_titled (front_of row))) three.1 in
    let front = faces skin row.gutters row.fresh in
    let line = line_pieces skin (columns_behind (has_ascii_boxes skin) width row.gutters) false row.line in
    ap (λ (l : List RowPiece). pieces_bytes (front ++ l) ++ 10 ∷ []) (behind_open skin width row two.0 (no_marks row.marks three.0) four.0 (untitled (alert_titled (front_of row)) four.1)) ∙ ap (λ (b : List ℕ). b ++ 10 ∷ []) (bytes_both front line) ∙ append_assoc (pieces_bytes front) (pieces_bytes line) (10 ∷ [])
