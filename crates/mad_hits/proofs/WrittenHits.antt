-- What is written of hits, and what went out where that was refused.
use Rattle.std.proofs.Common.{◌≡◌, ℕ, ◌+◌, ◌-◌, ◌^◌, ◌<◌, ◌≤◌, nat_le, min, Bool, true, false, inl, inr, List, [], ◌∷◌, ◌++◌, map, drop, length, get_or, Result, Ok, Err, OnOk, add-one, drop-cons, suc, refl, ap, sym, ◌∙◌, subst, arith}
use Rattle.std.specs.Prelude.{if◌then◌else◌}
use Rattle.std.specs.List.{range_with_len}
use Rattle.std.specs.Result.{IsErrAnd}
use Rattle.std.proofs.lemmas.Bool.Decides.{nat_tests}
use Rattle.std.proofs.lemmas.List.{drop_all}
use Rattle.std.proofs.lemmas.Result.{err_from_is_err_and}
use Rattle.regex.specs.Patterns.{Re}
use Rattle.mad_term.specs.Draws.{Draws}
use Rattle.mad_term.specs.Trace.{Trace, TookWith, after}
use Rattle.mad_term.specs.declared.errors.Error.{Error}
use Rattle.mad_term.specs.declared.errors.Error.TheVariants.{Memory}
use Rattle.mad_term.proofs.Exits.{refused_exit, refused_in_first, refused_in_second}
use Rattle.mad_term.proofs.Traces.{took_both, took_none}
use Rattle.mad_measure.specs.declared.area.Area.{Area}
use Rattle.mad_draw.specs.DrawnRows.{AreRowsShown, FillArea, rows_bytes}
use Rattle.mad_draw.specs.Pieces.{char_piece}
use Rattle.mad_style.specs.declared.compound_styles.CompoundStyle.{CompoundStyle}
use Rattle.mad_style.specs.declared.styled_chars.StyledChar.{StyledChar}
use Rattle.mad_wrap.specs.WrapLines.{capped}
use Rattle.mad_format.specs.declared.line.FmtLine.{FmtLine}
use Rattle.mad_rows.specs.declared.row_skin.RowSkin.{RowSkin}
use Rattle.mad_sections.specs.Gutters.{columns_of}
use Rattle.mad_page_rows.specs.FaceLaws.{fronts}
use Rattle.mad_page_rows.specs.Faces.{has_ascii_boxes, line_skin}
use Rattle.mad_pages.specs.Fronts.{FrontContent, front_at}
use Rattle.mad_pages.specs.declared.fronts.Front.{Front}
use Rattle.mad_hits.specs.Drawn.{AreHitsShown, IsHitShown, hit_area, hit_bytes, hit_row, hits_bytes, marked_columns}
use Rattle.mad_hits.specs.FrontHits.{AreHitsBehind, AreLineHits, IsRowMarked, WritesRowHits, WritesRowsHits, hit_behind, hits_behind}
use Rattle.mad_hits.specs.Hits.{Marked, marked_of}
use Rattle.mad_hits.specs.Parts.{AreRowHits}
use Rattle.mad_hits.specs.Rooms.{room_columns}
use Rattle.mad_hits.specs.Styled.{overlaid}
use Rattle.mad_hits.specs.declared.hits.Hit.{Hit}
use Rattle.mad_hits.specs.declared.rooms.RowRoom.{RowRoom}
use Rattle.mad_hits.proofs.DrawnHits.{hit_drawn}
use Rattle.mad_hits.proofs.TookLemmas.{took_exact, took_so}

-- ---- a hit

-- the characters of a hit in a row, from its column on
abbrev chars_area : Marked → ℕ → ℕ → Area
chars_area hit y wide = record { left = hit.column; top = y; width = wide; height = 1 }

-- one that is within the columns
pub hit_written : {T : Type 0} (r : Result T Error) (width y wide end : ℕ) (hit : Marked) (old new : Trace) → wide ≡ capped (marked_columns hit) → end ≡ min (hit.column + wide) (2 ^ 64 - 1) → end ≤ width → width < 2 ^ 16
    → Draws old (rows_bytes (λ row. map char_piece hit.chars) (chars_area hit y wide)) r new → Draws old (hit_bytes width y hit) r new
hit_written {T} r width y wide end hit old new all at within narrow h =
    let here : wide ≡ marked_columns hit = omega (arith, all, at, within, narrow) in
    let inside : hit.column + marked_columns hit ≤ width = omega (arith, here, at, within, narrow) in
    let fits : nat_le (hit.column + marked_columns hit) width ≡ true = grind (arith, nat_tests, inside) in
    let text : rows_bytes (λ row. map char_piece hit.chars) (chars_area hit y wide) ≡ hit_bytes width y hit =
    ap (λ (n : ℕ). rows_bytes (hit_row hit) (chars_area hit y n)) here ∙ sym (ap (λ (b : Bool). if b then rows_bytes (hit_row hit) (hit_area y hit) else []) fits) in
    subst (λ (t : List ℕ). Draws old t r new) text h

-- one that isn't
pub hit_left_out : (width y wide end : ℕ) (hit : Marked) (old : Trace) → wide ≡ capped (marked_columns hit) → end ≡ min (hit.column + wide) (2 ^ 64 - 1) → width < end → width < 2 ^ 16 → old ≡ after old (hit_bytes width y hit)
hit_left_out width y wide end hit old all at past narrow =
    let beyond : width < hit.column + marked_columns hit = omega (arith, all, at, past, narrow) in
    let none : nat_le (hit.column + marked_columns hit) width ≡ false = grind (arith, nat_tests, beyond) in
    took_none old ∙ ap (after old) (sym (ap (λ (b : Bool). if b then rows_bytes (hit_row hit) (hit_area y hit) else []) none))

-- what is shown of it, where it was drawn
pub hit_shown : {T : Type 0} (r : Result T Error) (width y wide end : ℕ) (hit : Marked) (old new : Trace) → wide ≡ capped (marked_columns hit) → end ≡ min (hit.column + wide) (2 ^ 64 - 1) → end ≤ width → width < 2 ^ 16
    → Draws old (rows_bytes (λ row. map char_piece hit.chars) (chars_area hit y wide)) r new
    → OnOk r (FillArea (λ row. map char_piece hit.chars) (chars_area hit y wide) → TookWith old new (AreRowsShown (λ row. map char_piece hit.chars) (chars_area hit y wide))) → OnOk r (TookWith old new (IsHitShown width y hit))
hit_shown {T} (Ok x) width y wide end hit old new all at within narrow taken shown = hit_drawn width y wide end hit hit.chars hit.chars old new _ refl refl all at within narrow taken shown
hit_shown {T} (Err e) width y wide end hit old new all at within narrow taken shown = tt

-- characters in a column
abbrev pub chars_at : ℕ → List StyledChar → Marked
chars_at column chars = record { column = column; chars = chars }

-- those of a hit in the style of hits, so many columns further right, are the hit behind its front
pub hit_is : (style : CompoundStyle) (front column : ℕ) (hit : Hit) (chars items text : List StyledChar) → column ≡ capped (front + hit.column) → chars ≡ items → items ≡ map (overlaid style) text → text ≡ hit.chars.items
    → chars_at column chars ≡ hit_behind style front (marked_of hit)
hit_is style front column hit chars items text at drawn are is = ap (λ (n : ℕ). chars_at n chars) at ∙ ap (chars_at (capped (front + hit.column))) (drawn ∙ are ∙ ap (map (overlaid style)) is)

-- ---- hits, one after the other

-- where hits are drawn: behind so many columns, in a style
abbrev pub placed : CompoundStyle → ℕ → List Hit → List Marked
placed style front hits = map (hit_behind style front) (map marked_of hits)

-- what comes after a text that went out
pub draws_after : {T : Type 0} (r : Result T Error) (old mid new : Trace) (a b : List ℕ) → mid ≡ after old a → Draws mid b r new → Draws old (a ++ b) r new
draws_after {T} (Ok x) old mid new a b taken h = took_both old mid new a b taken h
draws_after {T} (Err e) old mid new a b taken h = refused_in_second e old mid new a b taken h

-- the hits from number i on are this one and those after it
from_here : (hits : List Hit) (i : ℕ) (hit : Hit) → i < length hits → hit ≡ get_or hits i hit → drop i hits ≡ hit ∷ drop (i + 1) hits
from_here hits i hit inside is = rw (add-one, drop-cons hits i hit inside) (ap (λ (h : Hit). h ∷ drop (suc i) hits) (sym is))

-- one was drawn, before the others
pub one_written : {T : Type 0} (r : Result T Error) (style : CompoundStyle) (front width y : ℕ) (hits : List Hit) (i : ℕ) (hit : Hit) (old mid new : Trace) → i < length hits → hit ≡ get_or hits i hit
    → mid ≡ after old (hit_bytes width y (hit_behind style front (marked_of hit))) → Draws mid (hits_bytes width y (placed style front (drop (i + 1) hits))) r new → Draws old (hits_bytes width y (placed style front (drop i hits))) r new
one_written {T} r style front width y hits i hit old mid new inside is taken rest =
    subst (λ (hs : List Hit). Draws old (hits_bytes width y (placed style front hs)) r new) (sym (from_here hits i hit inside is))
    (draws_after r old mid new (hit_bytes width y (hit_behind style front (marked_of hit))) (hits_bytes width y (placed style front (drop (i + 1) hits))) taken rest)

-- one was refused, which ends the drawing
pub one_refused : {T : Type 0} (r : Result T Error) (e : Error) (style : CompoundStyle) (front width y : ℕ) (hits : List Hit) (i : ℕ) (hit : Hit) (old new : Trace) → i < length hits → hit ≡ get_or hits i hit → IsErrAnd r (λ d. d ≡ e)
    → Draws {T = T} old (hit_bytes width y (hit_behind style front (marked_of hit))) (Err e) new → Draws old (hits_bytes width y (placed style front (drop i hits))) r new
one_refused {T} r e style front width y hits i hit old new inside is refused h =
    refused_exit r e old new (hits_bytes width y (placed style front (drop i hits))) refused
    (subst (λ (hs : List Hit). Draws {T = T} old (hits_bytes width y (placed style front hs)) (Err e) new) (sym (from_here hits i hit inside is))
    (refused_in_first e old new (hit_bytes width y (hit_behind style front (marked_of hit))) (hits_bytes width y (placed style front (drop (i + 1) hits))) h))

-- none is left
pub none_written : {T : Type 0} (done : T) (style : CompoundStyle) (front width y : ℕ) (hits : List Hit) (i : ℕ) (old : Trace) → length hits ≤ i → Draws old (hits_bytes width y (placed style front (drop i hits))) (Ok done) old
none_written {T} done style front width y hits i old past = took_none old ∙ ap (λ (hs : List Hit). after old (hits_bytes width y (placed style front hs))) (sym (drop_all i hits past))

-- ---- rows

-- the hits of a row that were found are those of its line behind its front
line_hits : (skin : RowSkin) (room : RowRoom) (sought : Re) (lines : List FmtLine) (starts : List ℕ) (row : ℕ) (own : FrontContent) (rest : ℕ) (inner : RowSkin) (hits : List Marked)
    → inner ≡ line_skin skin own → rest ≡ room_columns room - columns_of (has_ascii_boxes skin) own.gutters → AreRowHits inner rest sought lines starts row hits → AreLineHits skin room sought lines own starts row hits
line_hits skin room sought lines starts row own rest inner hits inner_is rest_is are =
    subst (λ (s : RowSkin). AreRowHits s (room_columns room - columns_of (has_ascii_boxes skin) own.gutters) sought lines starts row hits) inner_is (subst (λ (n : ℕ). AreRowHits inner n sought lines starts row hits) rest_is are)

-- and they are drawn behind it
hits_at : (skin : RowSkin) (style : CompoundStyle) (room : RowRoom) (own : FrontContent) (front : ℕ) (hits given : List Hit) → front ≡ capped (room.left + fronts skin own.gutters) → given ≡ hits → placed style front given ≡ hits_behind skin style room own (map marked_of hits)
hits_at skin style room own front hits given front_is same =
    ap (λ (hs : List Hit). placed style front hs) same ∙ ap (λ (n : ℕ). placed style n hits) front_is

-- the hits of a row were drawn, or that was refused
pub row_written : {T : Type 0} (r : Result T Error) (skin : RowSkin) (style : CompoundStyle) (room : RowRoom) (sought : Re) (lines : List FmtLine) (fs : List Front) (starts : List ℕ) (y row : ℕ) (own : FrontContent) (hits given : List Hit) (front rest : ℕ) (inner : RowSkin) (old new : Trace)
    → own ≡ front_at fs row → inner ≡ line_skin skin own → rest ≡ room_columns room - columns_of (has_ascii_boxes skin) own.gutters → front ≡ capped (room.left + fronts skin own.gutters) → given ≡ hits
    → AreRowHits inner rest sought lines starts row (map marked_of hits) → Draws old (hits_bytes room.end y (placed style front given)) r new → WritesRowHits skin style room sought lines fs starts y row old r new
row_written {T} r skin style room sought lines fs starts y row own hits given front rest inner old new own_is inner_is rest_is front_is same are h =
    let found : AreLineHits skin room sought lines own starts row (map marked_of hits) = line_hits skin room sought lines starts row own rest inner (map marked_of hits) inner_is rest_is are in
    let drawn : Draws old (hits_bytes room.end y (hits_behind skin style room own (map marked_of hits))) r new =
    subst (λ (ms : List Marked). Draws old (hits_bytes room.end y ms) r new) (hits_at skin style room own front hits given front_is same) h in
    inl (
      map marked_of hits,
      subst (λ (f : FrontContent). AreLineHits skin room sought lines f starts row (map marked_of hits)) own_is found,
      subst (λ (f : FrontContent). Draws old (hits_bytes room.end y (hits_behind skin style room f (map marked_of hits))) r new) own_is drawn,
    )

-- the hits of a row that were drawn in its place mark the row
row_marked : (skin : RowSkin) (style : CompoundStyle) (room : RowRoom) (sought : Re) (lines : List FmtLine) (fs : List Front) (starts : List ℕ) (y row : ℕ) (own : FrontContent) (hits given : List Hit) (front rest : ℕ) (inner : RowSkin) (old new : Trace)
    → own ≡ front_at fs row → inner ≡ line_skin skin own → rest ≡ room_columns room - columns_of (has_ascii_boxes skin) own.gutters → front ≡ capped (room.left + fronts skin own.gutters) → given ≡ hits
    → AreRowHits inner rest sought lines starts row (map marked_of hits) → new ≡ after old (hits_bytes room.end y (placed style front given)) → TookWith old new (AreHitsShown room.end y (placed style front given))
    → TookWith old new (IsRowMarked skin style room sought lines fs starts y row)
row_marked skin style room sought lines fs starts y row own hits given front rest inner old new own_is inner_is rest_is front_is same are taken shown =
    let at : placed style front given ≡ hits_behind skin style room own (map marked_of hits) = hits_at skin style room own front hits given front_is same in
    let found : AreLineHits skin room sought lines own starts row (map marked_of hits) = line_hits skin room sought lines starts row own rest inner (map marked_of hits) inner_is rest_is are in
    let bytes : List ℕ = hits_bytes room.end y (placed style front given) in
    took_so old new (λ text. (text ≡ bytes) × AreHitsShown room.end y (placed style front given) text) (IsRowMarked skin style room sought lines fs starts y row)
    (λ text h.
    subst (λ (f : FrontContent). AreHitsBehind skin style room sought lines f starts y row text) own_is (record {
      hits = map marked_of hits;
      are = found;
      written = h.0 ∙ ap (hits_bytes room.end y) at;
      shown = subst (λ (ms : List Marked). AreHitsShown room.end y ms text) at h.1;
    }))
    (took_exact old new bytes (AreHitsShown room.end y (placed style front given)) taken shown)

-- the same of a call that drew them, or was refused
pub row_shown : {T : Type 0} (r : Result T Error) (skin : RowSkin) (style : CompoundStyle) (room : RowRoom) (sought : Re) (lines : List FmtLine) (fs : List Front) (starts : List ℕ) (y row : ℕ) (own : FrontContent) (hits given : List Hit) (front rest : ℕ) (inner : RowSkin) (old new : Trace)
    → own ≡ front_at fs row → inner ≡ line_skin skin own → rest ≡ room_columns room - columns_of (has_ascii_boxes skin) own.gutters → front ≡ capped (room.left + fronts skin own.gutters) → given ≡ hits
    → AreRowHits inner rest sought lines starts row (map marked_of hits) → Draws old (hits_bytes room.end y (placed style front given)) r new → OnOk r (TookWith old new (AreHitsShown room.end y (placed style front given)))
    → OnOk r (TookWith old new (IsRowMarked skin style room sought lines fs starts y row))
row_shown {T} (Ok x) skin style room sought lines fs starts y row own hits given front rest inner old new own_is inner_is rest_is front_is same are taken shown =
    row_marked skin style room sought lines fs starts y row own hits given front rest inner old new own_is inner_is rest_is front_is same are taken shown
row_shown {T} (Err e) skin style room sought lines fs starts y row own hits given front rest inner old new own_is inner_is rest_is front_is same are taken shown = tt

-- memory for them was refused
pub row_unfound : {T : Type 0} (r : Result T Error) (skin : RowSkin) (style : CompoundStyle) (room : RowRoom) (sought : Re) (lines : List FmtLine) (fs : List Front) (starts : List ℕ) (y row : ℕ) (old : Trace) → IsErrAnd r (λ e. e ≡ Memory)
    → WritesRowHits skin style room sought lines fs starts y row old r old
row_unfound {T} r skin style room sought lines fs starts y row old refused =
    let p = err_from_is_err_and r refused in
    inr (p.1 ∙ ap Err p.2, refl)

-- a row whose hits were drawn, before the others
pub row_before : {T U : Type 0} (r : Result T Error) (done : U) (skin : RowSkin) (style : CompoundStyle) (room : RowRoom) (sought : Re) (lines : List FmtLine) (fs : List Front) (starts : List ℕ) (y row after_it n : ℕ) (old mid new : Trace) → after_it ≡ row + 1
    → WritesRowHits {T = U} skin style room sought lines fs starts y row old (Ok done) mid → WritesRowsHits skin style room sought lines fs starts (y + 1) (range_with_len after_it n) mid r new
    → WritesRowsHits skin style room sought lines fs starts y (range_with_len row (n + 1)) old r new
row_before {T} {U} r done skin style room sought lines fs starts y row after_it n old mid new at (inl h) rest =
    let next : WritesRowsHits skin style room sought lines fs starts (y + 1) (range_with_len (row + 1) n) mid r new =
    subst (λ (m : ℕ). WritesRowsHits skin style room sought lines fs starts (y + 1) (range_with_len m n) mid r new) at rest in
    subst (λ (m : ℕ). WritesRowsHits skin style room sought lines fs starts y (range_with_len row m) old r new) (let it : suc n ≡ n + 1 = omega arith in it)
    (inl (h.0, h.1, subst (λ (t : Trace). WritesRowsHits skin style room sought lines fs starts (y + 1) (range_with_len (row + 1) n) t r new) h.2 next))
row_before {T} {U} r done skin style room sought lines fs starts y row after_it n old mid new at (inr h) rest = absurd (cc)

-- a row that was refused ends the drawing
pub row_refused : {T : Type 0} (r : Result T Error) (e : Error) (skin : RowSkin) (style : CompoundStyle) (room : RowRoom) (sought : Re) (lines : List FmtLine) (fs : List Front) (starts : List ℕ) (y row n : ℕ) (old new : Trace) → IsErrAnd r (λ d. d ≡ e)
    → WritesRowHits {T = T} skin style room sought lines fs starts y row old (Err e) new → WritesRowsHits skin style room sought lines fs starts y (range_with_len row (n + 1)) old r new
row_refused {T} r e skin style room sought lines fs starts y row n old new refused h =
    let p = err_from_is_err_and r refused in
    let d : r ≡ Err e = p.1 ∙ ap Err p.2 in
    subst (λ (s : Result T Error). WritesRowsHits skin style room sought lines fs starts y (range_with_len row (n + 1)) old s new) (sym d)
    (subst (λ (m : ℕ). WritesRowsHits {T = T} skin style room sought lines fs starts y (range_with_len row m) old (Err e) new) (let it : suc n ≡ n + 1 = omega arith in it) (inr (refl, h)))

-- all rows are to come
pub rows_to_come : {T : Type 0} (r : Result T Error) (skin : RowSkin) (style : CompoundStyle) (room : RowRoom) (sought : Re) (lines : List FmtLine) (fs : List Front) (starts : List ℕ) (y top row n count : ℕ) (old new : Trace) → y ≡ 0 → row ≡ top + y → n + y ≡ count
    → WritesRowsHits skin style room sought lines fs starts y (range_with_len row n) old r new → WritesRowsHits skin style room sought lines fs starts 0 (range_with_len top count) old r new
rows_to_come {T} r skin style room sought lines fs starts y top row n count old new none at left h =
    let first : row ≡ top = omega (arith, at, none) in
    let all : n ≡ count = omega (arith, left, none) in
    subst (λ (m : ℕ). WritesRowsHits skin style room sought lines fs starts m (range_with_len top count) old r new) none
    (subst (λ (m : ℕ). WritesRowsHits skin style room sought lines fs starts y (range_with_len m count) old r new) first
    (subst (λ (m : ℕ). WritesRowsHits skin style room sought lines fs starts y (range_with_len row m) old r new) all h))

-- as many rows as are counted
pub counted : {T : Type 0} (r : Result T Error) (skin : RowSkin) (style : CompoundStyle) (room : RowRoom) (sought : Re) (lines : List FmtLine) (fs : List Front) (starts : List ℕ) (y top count n : ℕ) (old new : Trace) → count ≡ n
    → WritesRowsHits skin style room sought lines fs starts y (range_with_len top count) old r new → WritesRowsHits skin style room sought lines fs starts y (range_with_len top n) old r new
counted {T} r skin style room sought lines fs starts y top count n old new is h = subst (λ (m : ℕ). WritesRowsHits skin style room sought lines fs starts y (range_with_len top m) old r new) is h
