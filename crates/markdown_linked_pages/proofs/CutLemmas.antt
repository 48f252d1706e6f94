-- What is written of rows with links: their pieces less blanks at the end.
use Rattle.std.proofs.Common.{◌≡◌, ◌⊎◌, inl, inr, ℕ, zero, suc, ◌<◌, ◌==◌, ◌||◌, ◌&&◌, not, Bool, true, false, cond, List, [], ◌∷◌, ◌++◌, length, map, take, Option, Some, None, refl, sym, ap, ◌∙◌, subst, arith, append_assoc, append-nil}
use Rattle.std.specs.Prelude.{is_some, slice_index, if◌then◌else◌}
use Rattle.std.specs.List.{AllByRecursion, flat_map, list_all}
use Rattle.std.specs.Str.{chars, IsAscii, IsUtf8}
use Rattle.std.proofs.Math.Seq.{take-append_seam}
use Rattle.std.proofs.lemmas.Bool.Decides.{nat_tests}
use Rattle.std.proofs.lemmas.List.Folds.{list_all-append}
use Rattle.std.proofs.lemmas.Str.{IsCharBoundary-at_seam, IsUtf8-from_ascii, IsUtf8-take, chars-append}
use Rattle.mad_term.specs.Attribute.{all_attributes, attribute_code}
use Rattle.mad_term.specs.Attributes.{attribute_bits, has_attribute}
use Rattle.mad_term.specs.Styles.{attribute_bytes, attributes_bytes, background_bytes, closing_bytes, color_bytes, color_numbers, foreground_bytes, opening_bytes, piece_bytes, present_bytes, underline_bytes}
use Rattle.mad_term.specs.Commands.{command_bytes, numbers_bytes, sgr_bytes}
use Rattle.mad_term.specs.declared.attribute.Attribute.{Attribute}
use Rattle.mad_term.specs.declared.color.Color.{Color}
use Rattle.mad_term.specs.declared.styles.ContentStyle.{ContentStyle}
use Rattle.mad_screen.specs.Painting.{IsPrinted, IsShown, IsWhole}
use Rattle.mad_links.specs.LinkRows.{LinkedPiece, AreAddresses, AreLinkedPieces, IsLinkedPiece, address_of, begun_bytes, change_bytes, close_bytes, command_text, id_parameter, link_bytes, link_command_bytes, linked_bytes, linked_bytes_from, linked_text_bytes, number_bytes, same_number, unlinked_bytes, written_link}
use Rattle.mad_links.proofs.LinkRowLemmas.{rows_in_steps}
use Rattle.markdown_layout.specs.RowEnds.{in_front, is_end, without_end}
use Rattle.markdown_layout.proofs.EndLemmas.{rows_end, whole_off}
use Rattle.markdown_linked_pages.specs.LinkedPages.{ended_pieces}
use Rattle.markdown_linked_pages.specs.LinkedPageLaws.{IsWritten, RowsAreWritten}

-- ---- ends

-- it loses nothing
abbrev IsWholeRow : List ℕ → Type 0
IsWholeRow xs = without_end xs ≡ xs

-- behind what is left of some bytes the others stay
some_behind : (xs ys : List ℕ) (c : ℕ) (cs : List ℕ) → without_end ys ≡ c ∷ cs → without_end (xs ++ ys) ≡ xs ++ c ∷ cs
some_behind [] ys c cs h = h
some_behind (x ∷ []) ys c cs h = ap (in_front x) h
some_behind (x ∷ y ∷ xs) ys c cs h = ap (in_front x) (some_behind (y ∷ xs) ys c cs h)

-- blanks behind bytes go
both_true : (a b : Bool) → (a && b) ≡ true → (a ≡ true) × (b ≡ true)
both_true true b h = (refl, h)
both_true false b h = absurd (no h)
  where
    no : false ≡ true → ⊥
    no e = cc

all_off : (ys : List ℕ) → list_all is_end ys ≡ true → without_end ys ≡ []
all_off [] h = refl
all_off (y ∷ ys) h =
    let two = both_true (is_end y) (list_all is_end ys) h in
    ap (in_front y) (all_off ys two.1) ∙ ap (λ (t : Bool). if t then [] else y ∷ []) two.0

blanks_off : (xs ys : List ℕ) → list_all is_end ys ≡ true → without_end (xs ++ ys) ≡ without_end xs
blanks_off [] ys h = all_off ys h
blanks_off (x ∷ xs) ys h = ap (in_front x) (blanks_off xs ys h)

-- behind bytes that lose nothing the others lose what they lose
whole_by : (xs ys ws : List ℕ) → without_end ys ≡ ws → IsWholeRow xs → without_end (xs ++ ys) ≡ xs ++ ws
whole_by xs ys [] is whole =
    let lost = rows_end ys in
    let ends : list_all is_end ys ≡ true = ap (list_all is_end) (lost.row_is ∙ ap (λ (w : List ℕ). w ++ lost.lost) is) ∙ lost.are_ends in
    blanks_off xs ys ends ∙ whole ∙ sym (append-nil xs)
whole_by xs ys (w ∷ ws) is whole = some_behind xs ys w ws is

whole_behind : (xs ys : List ℕ) → IsWholeRow xs → without_end (xs ++ ys) ≡ xs ++ without_end ys
whole_behind xs ys whole = whole_by xs ys (without_end ys) refl whole

whole_both : (xs ys : List ℕ) → IsWholeRow xs → IsWholeRow ys → IsWholeRow (xs ++ ys)
whole_both xs ys a b = whole_behind xs ys a ∙ ap (λ (l : List ℕ). xs ++ l) b

-- ---- commands

whole_sgr : (ns : List ℕ) → IsWholeRow (sgr_bytes ns)
whole_sgr ns = whole_off (27 ∷ 91 ∷ numbers_bytes ns) 109 refl

whole_present : (bytes : Color → List ℕ) (c : Option Color) → ((x : Color) → IsWholeRow (bytes x)) → IsWholeRow (present_bytes bytes c)
whole_present bytes None h = refl
whole_present bytes (Some x) h = h x

whole_each : (f : Attribute → List ℕ) (as_listed : List Attribute) → ((x : Attribute) → IsWholeRow (f x)) → IsWholeRow (flat_map f as_listed)
whole_each f [] h = refl
whole_each f (x ∷ xs) h = whole_both (f x) (flat_map f xs) (h x) (whole_each f xs h)

whole_chosen : (t : Bool) (a : Attribute) → IsWholeRow (if t then attribute_bytes a else [])
whole_chosen true a = whole_sgr (attribute_code a ∷ [])
whole_chosen false a = refl

whole_color : (kind : ℕ) (c : Color) → IsWholeRow (color_bytes kind c)
whole_color kind c = whole_sgr (color_numbers kind c)

whole_opening : (s : ContentStyle) → IsWholeRow (opening_bytes s)
whole_opening s =
    let each : IsWholeRow (attributes_bytes s.attributes) = whole_each (λ a. if has_attribute s.attributes a then attribute_bytes a else []) all_attributes (λ a. whole_chosen (has_attribute s.attributes a) a) in
    whole_both (present_bytes background_bytes s.background_color) (present_bytes foreground_bytes s.foreground_color ++ (present_bytes underline_bytes s.underline_color ++ attributes_bytes s.attributes))
    (whole_present background_bytes s.background_color (whole_color 48))
    (whole_both (present_bytes foreground_bytes s.foreground_color) (present_bytes underline_bytes s.underline_color ++ attributes_bytes s.attributes) (whole_present foreground_bytes s.foreground_color (whole_color 38))
    (whole_both (present_bytes underline_bytes s.underline_color) (attributes_bytes s.attributes) (whole_present underline_bytes s.underline_color (whole_color 58)) each))

closing_by : (t : Bool) (back fore : Option Color) → IsWholeRow (if t then sgr_bytes (0 ∷ []) else present_bytes (λ _. sgr_bytes (49 ∷ [])) back ++ present_bytes (λ _. sgr_bytes (39 ∷ [])) fore)
closing_by true back fore = whole_sgr (0 ∷ [])
closing_by false back fore =
    whole_both (present_bytes (λ _. sgr_bytes (49 ∷ [])) back) (present_bytes (λ _. sgr_bytes (39 ∷ [])) fore) (whole_present (λ _. sgr_bytes (49 ∷ [])) back (λ c. whole_sgr (49 ∷ []))) (whole_present (λ _. sgr_bytes (39 ∷ [])) fore (λ c. whole_sgr (39 ∷ [])))

whole_closing : (s : ContentStyle) → IsWholeRow (closing_bytes s)
whole_closing s = closing_by (is_some s.underline_color || not (attribute_bits s.attributes == 0)) s.background_color s.foreground_color

whole_command : (parameters address : List ℕ) → IsWholeRow (link_command_bytes parameters address)
whole_command parameters address =
    let text = command_text parameters address in
    let last : (27 ∷ 93 ∷ (text ++ 27 ∷ [])) ++ 92 ∷ [] ≡ link_command_bytes parameters address = ap (λ (l : List ℕ). 27 ∷ 93 ∷ l) (append_assoc text (27 ∷ []) (92 ∷ [])) in
    subst IsWholeRow last (whole_off (27 ∷ 93 ∷ (text ++ 27 ∷ [])) 92 refl)

whole_number : (n : ℕ) (address : Option (List ℕ)) → IsWholeRow (number_bytes n address)
whole_number n None = whole_command [] []
whole_number n (Some a) = whole_command (id_parameter n) a

whole_link : (a : List (Option (List ℕ))) (now : Option ℕ) → IsWholeRow (link_bytes a now)
whole_link a None = whole_command [] []
whole_link a (Some n) = whole_number n (address_of a n)

change_by : (t : Bool) (a : List (Option (List ℕ))) (now : Option ℕ) → IsWholeRow (if t then [] else link_bytes a now)
change_by true a now = refl
change_by false a now = whole_link a now

whole_change : (a : List (Option (List ℕ))) (was now : Option ℕ) → IsWholeRow (change_bytes a was now)
whole_change a was now = change_by (same_number was now) a now

-- ---- a piece

-- its text, without the blanks at its end where nothing closes its style
trim_text : List ℕ → List ℕ → List ℕ
trim_text [] text = without_end text
trim_text (c ∷ cs) text = text

trimmed_bytes : (front text close : List ℕ) → IsWholeRow front → IsWholeRow close → without_end (front ++ (text ++ close)) ≡ front ++ (trim_text close text ++ close)
unfolding trim_text
trimmed_bytes front text [] a b =
    whole_behind front (text ++ []) a ∙ ap (λ (l : List ℕ). front ++ l) (ap without_end (append-nil text) ∙ sym (append-nil (without_end text)))
trimmed_bytes front text (c ∷ cs) a b = whole_behind front (text ++ c ∷ cs) a ∙ ap (λ (l : List ℕ). front ++ l) (some_behind text (c ∷ cs) c cs b)

record IsTrimmed (text kept : List ℕ) : Type 0 where
  lost : List ℕ
  is : text ≡ kept ++ lost
  blank : list_all is_end lost ≡ true

text_trimmed : (close text : List ℕ) → IsTrimmed text (trim_text close text)
unfolding trim_text
text_trimmed [] text = let h = rows_end text in record { lost = h.lost; is = h.row_is; blank = h.are_ends }
text_trimmed (c ∷ cs) text = record { lost = []; is = sym (append-nil text); blank = refl }

trim : LinkedPiece → LinkedPiece
trim p = record { style = p.style; text = trim_text (closing_bytes p.style) p.text; link = p.link }

trim_bytes : (p : LinkedPiece) → without_end (piece_bytes p.style p.text) ≡ piece_bytes (trim p).style (trim p).text
unfolding trim
trim_bytes p = trimmed_bytes (opening_bytes p.style) p.text (closing_bytes p.style) (whole_opening p.style) (whole_closing p.style)

trim_link : (p : LinkedPiece) → (trim p).link ≡ p.link
unfolding trim
trim_link p = refl

-- ---- texts

all_ascii : (xs : List ℕ) → list_all is_end xs ≡ true → IsAscii xs
all_ascii [] h i = omega arith
all_ascii (x ∷ xs) h zero = let two = both_true (is_end x) (list_all is_end xs) h in small x two.0
  where
    small : (b : ℕ) → is_end b ≡ true → b < 128
    small b e = grind (arith, nat_tests)
all_ascii (x ∷ xs) h (suc i) = let two = both_true (is_end x) (list_all is_end xs) h in all_ascii xs two.1 i

kept_utf8 : (text kept lost : List ℕ) → text ≡ kept ++ lost → list_all is_end lost ≡ true → IsUtf8 text → IsUtf8 kept
kept_utf8 text kept lost is blank utf8 =
    let seam = IsCharBoundary-at_seam text kept lost is (IsUtf8-from_ascii lost (all_ascii lost blank)) in
    subst IsUtf8 (ap (take (length kept)) is ∙ take-append_seam kept lost) (IsUtf8-take text (length kept) utf8 seam)

printed_front : (cs ds : List ℕ) → IsPrinted (cs ++ ds) → IsPrinted cs
printed_front [] ds h = tt
printed_front (c ∷ cs) ds h = (h.0, printed_front cs ds h.1)

whole_front : (cs ds : List ℕ) → IsWhole (cs ++ ds) → IsWhole cs
whole_front [] ds h = tt
whole_front (c ∷ cs) ds h = h

kept_shown : (text kept lost : List ℕ) → text ≡ kept ++ lost → IsUtf8 kept → IsShown (chars text) → IsShown (chars kept)
kept_shown text kept lost is utf8 shown =
    let e : chars text ≡ chars kept ++ chars lost = ap chars is ∙ chars-append kept lost utf8 in
    record { printed = printed_front (chars kept) (chars lost) (subst IsPrinted e shown.printed); whole = whole_front (chars kept) (chars lost) (subst IsWhole e shown.whole) }

trim_is : (p : LinkedPiece) → IsLinkedPiece p → IsLinkedPiece (trim p)
unfolding trim
trim_is p h =
    let t = text_trimmed (closing_bytes p.style) p.text in
    let utf8 = kept_utf8 p.text (trim_text (closing_bytes p.style) p.text) t.lost t.is t.blank h.utf8 in
    record { utf8 = utf8; shown = kept_shown p.text (trim_text (closing_bytes p.style) p.text) t.lost t.is utf8 h.shown; style = h.style }

-- what a piece loses is at its end
record IsPieceCut (p : LinkedPiece) : Type 0 where
  lost : List ℕ
  is : piece_bytes p.style p.text ≡ piece_bytes (trim p).style (trim p).text ++ lost
  blank : list_all is_end lost ≡ true

piece_cut : (p : LinkedPiece) → IsPieceCut p
piece_cut p =
    let h = rows_end (piece_bytes p.style p.text) in
    record { lost = h.lost; is = h.row_is ∙ ap (λ (l : List ℕ). l ++ h.lost) (trim_bytes p); blank = h.are_ends }

-- ---- a row

record IsCutOff (a : List (Option (List ℕ))) (was : Option ℕ) (ps : List LinkedPiece) : Type 0 where
  kept : List LinkedPiece
  lost : List ℕ
  text : unlinked_bytes ps ≡ unlinked_bytes kept ++ lost
  blank : list_all is_end lost ≡ true
  begun : without_end (begun_bytes a was ps).0 ≡ (begun_bytes a was kept).0
  stays : (begun_bytes a was ps).1 ≡ (begun_bytes a was kept).1
  pieces : AreLinkedPieces ps → AreLinkedPieces kept

none_right : (xs ys : List ℕ) → xs ++ ys ≡ [] → ys ≡ []
none_right [] ys e = e
none_right (x ∷ xs) ys e = absurd (no (xs ++ ys) e)
  where
    no : (zs : List ℕ) → x ∷ zs ≡ [] → ⊥
    no zs e = cc

none_left : (xs ys : List ℕ) → xs ++ ys ≡ [] → xs ≡ []
none_left [] ys e = refl
none_left (x ∷ xs) ys e = absurd (no (xs ++ ys) e)
  where
    no : (zs : List ℕ) → x ∷ zs ≡ [] → ⊥
    no zs e = cc

none_begun : (a : List (Option (List ℕ))) (was : Option ℕ) (ps : List LinkedPiece) → (begun_bytes a was ps).0 ≡ [] → unlinked_bytes ps ≡ []
none_begun a was [] e = refl
none_begun a was (p ∷ ps) e =
    let now = written_link a p.link in
    let own = piece_bytes p.style p.text in
    let rest = none_right (change_bytes a was now) (own ++ (begun_bytes a now ps).0) e in
    ap (λ (l : List ℕ). l ++ unlinked_bytes ps) (none_left own (begun_bytes a now ps).0 rest) ∙ none_begun a now ps (none_right own (begun_bytes a now ps).0 rest)

all_both : (xs ys : List ℕ) → list_all is_end xs ≡ true → list_all is_end ys ≡ true → list_all is_end (xs ++ ys) ≡ true
all_both xs ys a b = list_all-append is_end xs ys ∙ ap (λ (t : Bool). t && list_all is_end ys) a ∙ b

-- where what is behind a piece loses all its bytes
cut_here : (a : List (Option (List ℕ))) (was : Option ℕ) (p : LinkedPiece) (ps : List LinkedPiece) → (h : IsCutOff a (written_link a p.link) ps) → (begun_bytes a (written_link a p.link) h.kept).0 ≡ [] → IsCutOff a was (p ∷ ps)
unfolding trim
cut_here a was p ps h none =
    let now = written_link a p.link in
    let change = change_bytes a was now in
    let own = piece_bytes p.style p.text in
    let cut = piece_cut p in
    let left = piece_bytes (trim p).style (trim p).text in
    let rest = (begun_bytes a now ps).0 in
    let ends = rows_end rest in
    let blank : list_all is_end rest ≡ true = ap (list_all is_end) (ends.row_is ∙ ap (λ (l : List ℕ). l ++ ends.lost) (h.begun ∙ none)) ∙ ends.are_ends in
    let nothing : unlinked_bytes h.kept ≡ [] = none_begun a now h.kept none in
    record {
      kept = trim p ∷ h.kept;
      lost = cut.lost ++ h.lost;
      text = ap (λ (l : List ℕ). l ++ unlinked_bytes ps) cut.is ∙ ap (λ (l : List ℕ). (left ++ cut.lost) ++ l) (h.text ∙ ap (λ (l : List ℕ). l ++ h.lost) nothing) ∙ append_assoc left cut.lost h.lost
          ∙ ap (λ (l : List ℕ). l ++ (cut.lost ++ h.lost)) (sym (append-nil left) ∙ ap (λ (l : List ℕ). left ++ l) (sym nothing));
      blank = all_both cut.lost h.lost cut.blank h.blank;
      begun = whole_behind change (own ++ rest) (whole_change a was now) ∙ ap (λ (l : List ℕ). change ++ l) (blanks_off own rest blank ∙ trim_bytes p ∙ sym (append-nil left) ∙ ap (λ (l : List ℕ). left ++ l) (sym none));
      stays = h.stays;
      pieces = λ are. (trim_is p are.0, h.pieces are.1);
    }

-- where some are left
cut_on : (a : List (Option (List ℕ))) (was : Option ℕ) (p : LinkedPiece) (ps : List LinkedPiece) (c : ℕ) (cs : List ℕ) → (h : IsCutOff a (written_link a p.link) ps) → (begun_bytes a (written_link a p.link) h.kept).0 ≡ c ∷ cs → IsCutOff a was (p ∷ ps)
cut_on a was p ps c cs h some =
    let now = written_link a p.link in
    let change = change_bytes a was now in
    let own = piece_bytes p.style p.text in
    let rest = (begun_bytes a now ps).0 in
    record {
      kept = p ∷ h.kept;
      lost = h.lost;
      text = ap (λ (l : List ℕ). own ++ l) h.text ∙ sym (append_assoc own (unlinked_bytes h.kept) h.lost);
      blank = h.blank;
      begun = whole_behind change (own ++ rest) (whole_change a was now) ∙ ap (λ (l : List ℕ). change ++ l) (some_behind own rest c cs (h.begun ∙ some) ∙ ap (λ (l : List ℕ). own ++ l) (sym some));
      stays = h.stays;
      pieces = λ are. (are.0, h.pieces are.1);
    }

cut_by : (a : List (Option (List ℕ))) (was : Option ℕ) (p : LinkedPiece) (ps : List LinkedPiece) (left : List ℕ) → (h : IsCutOff a (written_link a p.link) ps) → (begun_bytes a (written_link a p.link) h.kept).0 ≡ left → IsCutOff a was (p ∷ ps)
cut_by a was p ps [] h is = cut_here a was p ps h is
cut_by a was p ps (c ∷ cs) h is = cut_on a was p ps c cs h is

row_cut : (a : List (Option (List ℕ))) (was : Option ℕ) (ps : List LinkedPiece) → IsCutOff a was ps
row_cut a was [] = record { kept = []; lost = []; text = refl; blank = refl; begun = refl; stays = refl; pieces = λ are. tt }
row_cut a was (p ∷ ps) = let h = row_cut a (written_link a p.link) ps in cut_by a was p ps (begun_bytes a (written_link a p.link) h.kept).0 h refl

-- THE LAW: what is written of a row is its pieces less blanks at the end
pub row_written : RowsAreWritten
row_written a ps are =
    let h = row_cut a None ps in
    let kept = begun_bytes a None h.kept in
    let bytes : linked_bytes a h.kept ≡ kept.0 ++ change_bytes a kept.1 None = ap (linked_bytes_from a None) (sym (append-nil h.kept)) ∙ rows_in_steps a None h.kept [] in (
      h.kept,
      record {
        lost = h.lost;
        text = h.text;
        blank = h.blank;
        bytes = ap (λ (l : List ℕ). l ++ (change_bytes a (begun_bytes a None ps).1 None ++ 10 ∷ [])) h.begun ∙ ap (λ (o : Option ℕ). kept.0 ++ (change_bytes a o None ++ 10 ∷ [])) h.stays
            ∙ sym (append_assoc kept.0 (change_bytes a kept.1 None) (10 ∷ [])) ∙ ap (λ (l : List ℕ). l ++ 10 ∷ []) (sym bytes);
      },
      h.pieces are,
    )
