-- Faces where tables are lists.
use Rattle.std.proofs.Common.{◌≡◌, ◌⊎◌, ℕ, zero, suc, ◌+◌, ◌-◌, ◌≤◌, min, Bool, true, false, not, ◌&&◌, ◌==◌, inl, inr, List, [], ◌∷◌, ◌++◌, length, drop, map, Option, Some, None, refl, sym, ap, subst, ◌∙◌, arith, length-append, if◌then◌else◌}
use Rattle.std.specs.List.{AllByRecursion}
use Rattle.std.proofs.lemmas.Bool.{and_parts}
use Rattle.mad_md.specs.Lines.{StyledRuns, LineContent}
use Rattle.mad_sections.specs.Gutters.{room as room_of}
use Rattle.mad_sections.specs.Sections.{SectionContent}
use Rattle.mad_sections.specs.declared.gutters.Gutter.{Gutter}
use Rattle.mad_sections.specs.declared.gutters.Gutter.TheVariants.{Bullet}
use Rattle.mad_sections.specs.Items.{item_lines, are_short, items_of}
use Rattle.mad_sections.specs.TableTexts.{are_table, rows_in, has_room}
use Rattle.mad_sections.specs.declared.table_rooms.TableRules.{TableRules}
use Rattle.mad_sections.specs.Unfolded.{lacks_room, list_sections, as_list, unfolded_in, unfolded}
use Rattle.mad_sections.proofs.Choices.{by_bool}
use Rattle.markdown_reader.specs.Faces.{items_in, faces_in, faces_of}
use Rattle.markdown_reader.specs.ListedSections.{MayBeListed}
use Rattle.markdown_reader.proofs.FaceLemmas.{items_with_last}
use Rattle.markdown_reader.proofs.NestedLemmas.{may_be_listed}
use Rattle.markdown_layout.specs.ShownFaces.{ShowsFaces, ListsShowFaces}

-- behind gutters, so many of which begin, one more bullet begins
bullet_more : (gs : List Gutter) (f : ℕ) → f ≤ length gs → items_in (drop (length (gs ++ Bullet ∷ []) - (f + 1)) (gs ++ Bullet ∷ [])) ≡ 1 + items_in (drop (length gs - f) gs)
bullet_more gs f fits =
    let all : List Gutter = gs ++ Bullet ∷ [] in
    let long = length-append gs (Bullet ∷ []) in
    let n : length all - (f + 1) ≡ length gs - f = omega (arith, long, fits) in
    ap (λ (k : ℕ). items_in (drop k all)) n ∙ items_with_last (length gs - f) gs Bullet (omega (arith, fits))

none_begin : (gs : List Gutter) → items_in (drop (length gs - 0) gs) ≡ 0
none_begin gs = same gs (length gs - 0) (omega arith)
  where
    same : (gs : List Gutter) (n : ℕ) → length gs ≤ n → items_in (drop n gs) ≡ 0
    same [] zero h = refl
    same [] (suc n) h = refl
    same (g ∷ gs) zero h = absurd (omega (arith, h))
    same (g ∷ gs) (suc n) h = same gs n (omega (arith, h))

faces_of_list : (gs : List Gutter) (f : ℕ) (lines : List LineContent) (items : List (List LineContent)) → f ≤ length gs
    → faces_of (list_sections (gs ++ Bullet ∷ []) f (lines ∷ items)) ≡ items_in (drop (length gs - f) gs) + length (list_sections (gs ++ Bullet ∷ []) f (lines ∷ items))
faces_of_list gs f lines [] fits = let one = bullet_more gs f fits in omega (arith, one)
faces_of_list gs f lines (more ∷ items) fits =
    let one = bullet_more gs f fits in
    let rest = faces_of_list gs 0 more items (omega arith) in
    let none = none_begin gs in
    omega (arith, one, rest, none)

all_behind : (gutters : List Gutter) (f : ℕ) (items : List (List LineContent)) → AllByRecursion (λ (item : SectionContent). item.gutters ≡ gutters) (list_sections gutters f items)
all_behind gutters f [] = tt
all_behind gutters f (lines ∷ items) = (refl, all_behind gutters 0 items)

some_items : (room : ℕ) (all : List (List StyledRuns)) → (length all == 0) ≡ false → (first : List LineContent) × (others : List (List LineContent)) × (items_of room all ≡ first ∷ others)
some_items room [] h = absurd (no h)
  where
    no : true ≡ false → ⊥
    no e = cc
some_items room (heads ∷ []) h = (item_lines [] heads, [], refl)
some_items room (heads ∷ row ∷ rows) h =
    by_bool (λ t. (first : List LineContent) × (others : List (List LineContent)) × ((if t then map (item_lines heads) (row ∷ rows) else map (item_lines []) (heads ∷ row ∷ rows)) ≡ first ∷ others)) (are_short room heads)
    (λ on. (item_lines heads row, map (item_lines heads) rows, refl)) (λ off. (item_lines [] heads, map (item_lines []) (row ∷ rows), refl))

not_none : (b : Bool) → not b ≡ true → b ≡ false
not_none false h = refl
not_none true h = absurd (no h)
  where
    no : false ≡ true → ⊥
    no e = cc

some_rows : (whole : TableRules) (room : ℕ) (lines : List LineContent) → lacks_room whole room lines ≡ true → (length (rows_in lines) == 0) ≡ false
some_rows whole room lines h =
    let both = and_parts (are_table lines && not (length (rows_in lines) == 0)) (not (has_room whole room lines)) h in
    let rows = and_parts (are_table lines) (not (length (rows_in lines) == 0)) both.0 in
    not_none (length (rows_in lines) == 0) rows.1

as_list_shows : (room : ℕ) (s : SectionContent) → s.fresh ≤ length s.gutters → (length (rows_in s.lines) == 0) ≡ false → ShowsFaces s (as_list room (s.gutters ++ Bullet ∷ []) s)
as_list_shows room s fits some =
    let fresh : ℕ = min s.fresh (length s.gutters) in
    let same : fresh ≡ s.fresh = omega (arith, fits) in
    let items = some_items room (rows_in s.lines) some in
    let faces : faces_of (list_sections (s.gutters ++ Bullet ∷ []) s.fresh (items_of room (rows_in s.lines))) ≡ faces_in s + length (list_sections (s.gutters ++ Bullet ∷ []) s.fresh (items_of room (rows_in s.lines)))
    = subst (λ (all : List (List LineContent)). faces_of (list_sections (s.gutters ++ Bullet ∷ []) s.fresh all) ≡ faces_in s + length (list_sections (s.gutters ++ Bullet ∷ []) s.fresh all)) (sym items.2) (faces_of_list s.gutters s.fresh items.0 items.1 fits) in
    record {
      gutters = all_behind (s.gutters ++ Bullet ∷ []) fresh (items_of room (rows_in s.lines));
      faces = subst (λ (f : ℕ). faces_of (list_sections (s.gutters ++ Bullet ∷ []) f (items_of room (rows_in s.lines))) ≡ faces_in s + length (list_sections (s.gutters ++ Bullet ∷ []) f (items_of room (rows_in s.lines)))) (sym same) faces;
    }

shown_in : (whole : TableRules) (room : Option ℕ) (list : Option (List Gutter)) (s : SectionContent) → (list ≡ None) ⊎ (list ≡ Some (s.gutters ++ Bullet ∷ [])) → s.fresh ≤ length s.gutters
    → (unfolded_in whole room list s ≡ s ∷ []) ⊎ ShowsFaces s (unfolded_in whole room list s)
shown_in whole None list s h fits = inl refl
shown_in whole (Some room) list s (inl none) fits = inl (ap (λ (l : Option (List Gutter)). unfolded_in whole (Some room) l s) none)
shown_in whole (Some room) list s (inr some) fits =
    subst (λ (l : Option (List Gutter)). (unfolded_in whole (Some room) l s ≡ s ∷ []) ⊎ ShowsFaces s (unfolded_in whole (Some room) l s)) (sym some)
    (by_bool (λ t. ((if t then as_list room (s.gutters ++ Bullet ∷ []) s else s ∷ []) ≡ s ∷ []) ⊎ ShowsFaces s (if t then as_list room (s.gutters ++ Bullet ∷ []) s else s ∷ [])) (lacks_room whole room s.lines)
    (λ lacks. inr (as_list_shows room s fits (some_rows whole room s.lines lacks))) (λ has. inl refl))

all_shown : (whole : TableRules) (ascii : Bool) (width : Option ℕ) (sections : List SectionContent) → AllByRecursion MayBeListed sections
    → AllByRecursion (λ (s : SectionContent). (unfolded whole ascii width s ≡ s ∷ []) ⊎ ShowsFaces s (unfolded whole ascii width s)) sections
all_shown whole ascii width [] h = tt
all_shown whole ascii width (s ∷ sections) h = (shown_in whole (room_of ascii width s.gutters) s.list s h.0.list h.0.fresh, all_shown whole ascii width sections h.1)

-- a section is shown as it is, or as a list that shows its faces
pub lists_show_faces : ListsShowFaces
lists_show_faces whole ascii width defined parts = all_shown whole ascii width _ (may_be_listed defined parts)
