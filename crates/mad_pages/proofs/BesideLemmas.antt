-- Pages that are laid out as lines and fronts, section by section.
use Rattle.std.proofs.Common.{◌≡◌, ℕ, suc, ◌+◌, ◌<◌, ◌≤◌, Bool, true, List, [], ◌∷◌, ◌++◌, drop, drop_at, get_or, map, length, Option, Some, None, refl, ap, sym, ◌∙◌, subst, arith, append_assoc, append-nil, length-append}
use Rattle.std.specs.Prelude.{slice_get, option_map}
use Rattle.std.specs.List.{flat_map}
use Rattle.std.proofs.lemmas.Option.{same_Some, slice_get-map}
use Rattle.std.proofs.lemmas.List.{at_drop_more, drop_all, map-append, length-map}
use Rattle.mad_md.specs.Lines.{LineContent}
use Rattle.mad_format.specs.LineRules.{LineRules}
use Rattle.mad_format.specs.Lists.{EachBecomes}
use Rattle.mad_format.specs.declared.line.FmtLine.{FmtLine}
use Rattle.mad_format.proofs.ListLemmas.{both_become}
use Rattle.mad_blocks.specs.PartCursors.{LaidPart}
use Rattle.mad_blocks.specs.TextParts.{text_parts}
use Rattle.mad_blocks.proofs.PartCursorLemmas as parts_laid
use Rattle.mad_mark_runs.specs.declared.mark_runs.MarkRun.{MarkRun}
use Rattle.mad_sections.specs.Gutters.{room, shown}
use Rattle.mad_sections.specs.Sections.{SectionContent}
use Rattle.mad_blocks.specs.Tables.{table_rules}
use Rattle.mad_sections.specs.declared.table_rooms.TableRules.{TableRules}
use Rattle.mad_sections.specs.Unfolded.{unfolded}
use Rattle.mad_sections.specs.declared.gutters.Gutter.{Gutter}
use Rattle.mad_pages.specs.PageLayouts.{IsSectionAt, BecomesAt, IsPageAt}
use Rattle.mad_pages.specs.PageRows.{RowContent, behind, heads_behind, is_head, marks_from, number_behind}
use Rattle.mad_pages.specs.Fronts.{FrontContent, front_at, front_content, front_of, front_or_none, line_of, row_behind}
use Rattle.mad_pages.specs.BesideLaws.{IsTextAt, LinesAreTheTexts, RowsAreThePage}
use Rattle.mad_pages.specs.PagedPages.{AreAdded, ArePartsAdded, BeginIn, EndIn, IsPagedAt, IsPartAt, PlacedPart, page_parts, parts_in, parts_shown, sections_in}
use Rattle.mad_pages.specs.declared.fronts.Front.{Front}
use Rattle.mad_pages.specs.declared.paged.PagedPage.{PagedPage}
use Rattle.mad_pages.proofs.PageLemmas.{lines_behind}

-- ---- where each begins

-- those of more come behind
pub ends_join : {A R : Type 0} (P : A → List R → Type 0) (xs ys : List A) (row : ℕ) (rows more : List R) (ends others : List ℕ)
    → EndIn P xs row rows ends → EndIn P ys (row + length rows) more others → EndIn P (xs ++ ys) row (rows ++ more) (ends ++ others)
ends_join {R = R} P [] ys row rows more ends others h k =
    let at : row + length rows ≡ row = omega (arith, ap length h.0) in
    subst (λ (r : List R). EndIn P ys row (r ++ more) (ends ++ others)) (sym h.0)
    (subst (λ (e : List ℕ). EndIn P ys row more (e ++ others)) (sym h.1) (subst (λ (n : ℕ). EndIn P ys n more others) at k))
ends_join {R = R} P (x ∷ xs) ys row rows more ends others (own, rest, later, are, is, ends_are, h) k =
    let at : row + length rows ≡ (row + length own) + length rest = omega (arith, ap length are, length-append own rest) in (
      own,
      rest ++ more,
      later ++ others,
      ap (λ (r : List R). r ++ more) are ∙ append_assoc own rest more,
      is,
      ap (λ (e : List ℕ). e ++ others) ends_are,
      ends_join P xs ys (row + length own) rest more later others h (subst (λ (n : ℕ). EndIn P ys n more others) at k),
    )

-- those of one more
pub begin_more : {A R : Type 0} (P : A → List R → Type 0) (xs ys : List A) (rows more new : List R) (starts ends later : List ℕ)
    → BeginIn P xs rows starts → EndIn P ys (length rows) more ends → new ≡ rows ++ more → later ≡ starts ++ ends → BeginIn P (xs ++ ys) new later
begin_more {R = R} P xs ys rows more new starts ends later (own, are, h) k new_is later_is =
    (own ++ ends, later_is ∙ ap (λ (l : List ℕ). l ++ ends) are, subst (λ (r : List R). EndIn P (xs ++ ys) 0 r (own ++ ends)) (sym new_is) (ends_join P xs ys 0 rows more own ends h (subst (λ (n : ℕ). EndIn P ys n more ends) (let it : length rows ≡ 0 + length rows = omega arith in it) k)))

one_end : {A R : Type 0} (P : A → List R → Type 0) (x : A) (row : ℕ) (rows : List R) → P x rows → EndIn P (x ∷ []) row rows ((row + length rows) ∷ [])
one_end P x row rows h = (rows, [], [], sym (append-nil rows), h, refl, (refl, refl))

-- rows that begin somewhere are those of each
pub each_begins : {A R : Type 0} (P : A → List R → Type 0) (xs : List A) (row : ℕ) (rows : List R) (ends : List ℕ) → EndIn P xs row rows ends → EachBecomes P xs rows
each_begins P [] row rows ends h = h.0
each_begins P (x ∷ xs) row rows ends (own, others, more, are, is, ends_are, h) = (own, others, are, is, each_begins P xs (row + length own) others more h)

-- what becomes of groups becomes of all that are in them
pub groups_become : {R : Type 0} (P : SectionContent → List R → Type 0) (groups : List (List SectionContent)) (rows : List R) → EachBecomes (EachBecomes P) groups rows → EachBecomes P (sections_in groups) rows
groups_become P [] rows h = h
groups_become {R = R} P (group ∷ groups) rows (own, others, are, here, h) =
    subst (λ (r : List R). EachBecomes P (group ++ sections_in groups) r) (sym are) (both_become P group (sections_in groups) own others here (groups_become P groups others h))

-- the rows of a page that is laid out are those of its sections
pub paged_rows : (rules : LineRules) (ascii : Bool) (width : Option ℕ) (groups : List (List SectionContent)) (paged : PagedPage) (is : IsPagedAt rules ascii width groups paged) → IsPageAt rules ascii width (sections_in groups) is.rows
paged_rows rules ascii width groups paged is =
    groups_become (BecomesAt rules ascii width) groups is.rows (each_begins (IsPageAt rules ascii width) groups 0 is.rows is.groups_begin.0 is.groups_begin.2)

-- ---- the parts of a text

-- The lines are a layout of the text up to what is left, and the starts of the parts that come next are behind those that were there.
pub record PartsSoFar (rules : LineRules) (width : Option ℕ) (all left : List LineContent) (old : List FmtLine) (old_starts : List ℕ) (lines : List FmtLine) (starts : List ℕ) : Type 0 where
  pub own : List FmtLine
  pub ends : List ℕ
  pub front : List (List LineContent)
  pub lines_are : lines ≡ old ++ own
  pub starts_are : starts ≡ old_starts ++ ends
  pub laid : parts_laid.LaidSoFar rules width all left own
  pub parts_are : text_parts all ≡ front ++ text_parts left
  pub end : EndIn (IsPartAt rules) (map (λ (part : List LineContent). record { room = width; lines = part }) front) (length old) own ends

-- no part is laid out yet
pub no_part : (rules : LineRules) (width : Option ℕ) (all : List LineContent) (old : List FmtLine) (starts : List ℕ) → PartsSoFar rules width all all old starts old starts
no_part rules width all old starts = record {
  own = [];
  ends = [];
  front = [];
  lines_are = sym (append-nil old);
  starts_are = sym (append-nil starts);
  laid = parts_laid.laid_none rules width all;
  parts_are = refl;
  end = (refl, refl);
}

-- a part more
pub part_more : (rules : LineRules) (width : Option ℕ) (all left after : List LineContent) (old : List FmtLine) (old_starts : List ℕ) (lines new : List FmtLine) (starts more : List ℕ)
    → PartsSoFar rules width all left old old_starts lines starts → LaidPart rules width left lines after new → more ≡ starts ++ length new ∷ [] → PartsSoFar rules width all after old old_starts new more
part_more rules width all left after old old_starts lines new starts more h p starts_more =
    let placed : List LineContent → PlacedPart = λ (part : List LineContent). record { room = width; lines = part } in
    let part : List LineContent = p.first ∷ p.others in
    let count : length new ≡ (length old + length h.own) + length p.own = omega (arith, ap length p.added, ap length h.lines_are, length-append lines p.own, length-append old h.own) in
    record {
      own = h.own ++ p.own;
      ends = h.ends ++ length new ∷ [];
      front = h.front ++ part ∷ [];
      lines_are = p.added ∙ ap (λ (l : List FmtLine). l ++ p.own) h.lines_are ∙ append_assoc old h.own p.own;
      starts_are = starts_more ∙ ap (λ (l : List ℕ). l ++ length new ∷ []) h.starts_are ∙ append_assoc old_starts h.ends (length new ∷ []);
      laid = parts_laid.laid_more rules width all left after h.own lines new h.laid p;
      parts_are = h.parts_are ∙ ap (λ (ps : List (List LineContent)). h.front ++ ps) p.is_part ∙ sym (append_assoc h.front (part ∷ []) (text_parts after));
      end =
          subst (λ (ps : List PlacedPart). EndIn (IsPartAt rules) ps (length old) (h.own ++ p.own) (h.ends ++ length new ∷ [])) (sym (map-append placed h.front (part ∷ [])))
          (ends_join (IsPartAt rules) (map placed h.front) (placed part ∷ []) (length old) h.own p.own h.ends (length new ∷ []) h.end
          (subst (λ (n : ℕ). EndIn (IsPartAt rules) (placed part ∷ []) (length old + length h.own) p.own (n ∷ [])) (sym count) (one_end (IsPartAt rules) (placed part) (length old + length h.own) p.own p.layout)));
    }

-- where none are left, all parts are there
pub parts_whole : (rules : LineRules) (width : Option ℕ) (all left : List LineContent) (old : List FmtLine) (old_starts : List ℕ) (lines : List FmtLine) (starts : List ℕ)
    → PartsSoFar rules width all left old old_starts lines starts → left ≡ [] → ArePartsAdded rules width all old old_starts lines starts
parts_whole rules width all left old old_starts lines starts h none =
    let parts : text_parts all ≡ h.front = h.parts_are ∙ ap (λ (l : List LineContent). h.front ++ text_parts l) none ∙ append-nil h.front in
    record {
      own = h.own;
      ends = h.ends;
      lines = h.lines_are;
      starts = h.starts_are;
      layout = parts_laid.laid_whole rules width all left h.own h.own h.laid none refl;
      end = subst (λ (ps : List (List LineContent)). EndIn (IsPartAt rules) (map (λ (part : List LineContent). record { room = width; lines = part }) ps) (length old) h.own h.ends) (sym parts) h.end;
    }

-- ---- sections that are shown

-- a front more; those of the lines that are left come behind it
pub front_more : (fronts new : List Front) (front : Front) (whole : List FrontContent) (marks : List MarkRun) (next : ℕ) (heads below : Bool) (lines : List FmtLine) (i : ℕ) (line : FmtLine) → i < length lines → new ≡ fronts ++ front ∷ []
    → next ≡ number_behind front.marks.now front.number (get_or lines i line) → marks ≡ marks_from front.marks.now next
    → front.head ≡ is_head heads (get_or lines i line) → below ≡ heads_behind heads (get_or lines i line)
    → map front_content fronts ++ map front_of (behind front.gutters.now front.fresh front.marks.now front.number heads (drop i lines)) ≡ whole
    → map front_content new ++ map front_of (behind front.gutters.now 0 marks next below (drop (i + 1) lines)) ≡ whole
front_more fronts new front whole marks next heads below lines i line inside pushed next_is marks_are head_is below_is h =
    let after : List MarkRun → ℕ → List FrontContent = λ m n. map front_of (behind front.gutters.now 0 m n below (drop (i + 1) lines)) in
    let here : FmtLine = get_or lines i line in
    let number : ℕ = number_behind front.marks.now front.number here in
    ap (λ (fs : List Front). map front_content fs ++ after marks next) pushed
    ∙ ap (λ (fs : List FrontContent). fs ++ after marks next) (map-append front_content fronts (front ∷ []))
    ∙ append_assoc (map front_content fronts) (front_content front ∷ []) (after marks next)
    ∙ ap (λ (m : List MarkRun). map front_content fronts ++ front_content front ∷ after m next) marks_are
    ∙ ap (λ (n : ℕ). map front_content fronts ++ front_content front ∷ after (marks_from front.marks.now n) n) next_is
    ∙ ap (λ (b : Bool). map front_content fronts ++ record (front_content front) { head = b } ∷ after (marks_from front.marks.now number) number) head_is
    ∙ ap (λ (b : Bool). map front_content fronts ++ record (front_content front) { head = is_head heads here } ∷ map front_of (behind front.gutters.now 0 (marks_from front.marks.now number) number b (drop (i + 1) lines))) below_is
    ∙ sym (at_drop_more (λ (ls : List FmtLine). map front_content fronts ++ map front_of (behind front.gutters.now front.fresh front.marks.now front.number heads ls)) lines i line inside)
    ∙ h

-- where no line is left, all fronts are there
pub fronts_whole : (fronts whole : List FrontContent) (gutters : List Gutter) (fresh : ℕ) (marks : List MarkRun) (n : ℕ) (heads : Bool) (lines : List FmtLine) (i : ℕ) → length lines ≤ i → fronts ++ map front_of (behind gutters fresh marks n heads (drop i lines)) ≡ whole → fronts ≡ whole
fronts_whole fronts whole gutters fresh marks n heads lines i past h =
    sym (append-nil fronts) ∙ ap (λ (ls : List FmtLine). fronts ++ map front_of (behind gutters fresh marks n heads ls)) (sym (drop_all i lines past)) ∙ h

-- one is there, where its parts and its fronts are
pub section_added : (rules : LineRules) (ascii : Bool) (width : Option ℕ) (section : SectionContent) (old new : PagedPage) (above : ℕ) (below : List FmtLine)
    → ArePartsAdded rules (room ascii width section.gutters) section.lines old.lines.items old.parts.items new.lines.items new.parts.items → above ≡ length old.lines.items → below ≡ drop above new.lines.items
    → map front_content new.fronts.items ≡ map front_content old.fronts.items ++ map front_of (behind (shown ascii width section.gutters) section.fresh section.marks 0 true below) → AreAdded rules ascii width (section ∷ []) old new
section_added rules ascii width section old new above below h above_is below_is fronts =
    let own = behind (shown ascii width section.gutters) section.fresh section.marks 0 true h.own in
    let lines : map line_of own ≡ h.own = lines_behind (shown ascii width section.gutters) section.fresh section.marks 0 true h.own in
    let here : below ≡ h.own = below_is ∙ ap (λ (n : ℕ). drop n new.lines.items) above_is ∙ ap (λ (l : List FmtLine). drop (length old.lines.items) l) h.lines ∙ drop_at old.lines.items h.own (length old.lines.items) refl in
    record {
      own = own;
      ends = h.ends;
      are = (own, [], sym (append-nil own), record { lines = h.own; layout = h.layout; rows_are = refl }, refl);
      lines = h.lines ∙ ap (λ (l : List FmtLine). old.lines.items ++ l) (sym lines);
      fronts = fronts ∙ ap (λ (ls : List FmtLine). map front_content old.fronts.items ++ map front_of (behind (shown ascii width section.gutters) section.fresh section.marks 0 true ls)) here;
      parts = h.starts;
      end =
          subst (λ (ps : List PlacedPart). EndIn (IsPartAt rules) ps (length old.lines.items) (map line_of own) h.ends) (sym (append-nil (parts_in (room ascii width section.gutters) section.lines)))
          (subst (λ (l : List FmtLine). EndIn (IsPartAt rules) (parts_in (room ascii width section.gutters) section.lines) (length old.lines.items) l h.ends) (sym lines) h.end);
    }

flat_map_append : {A B : Type 0} (f : A → List B) (xs ys : List A) → flat_map f (xs ++ ys) ≡ flat_map f xs ++ flat_map f ys
flat_map_append f [] ys = refl
flat_map_append {B = B} f (x ∷ xs) ys = ap (λ (l : List B). f x ++ l) (flat_map_append f xs ys) ∙ sym (append_assoc (f x) (flat_map f xs) (flat_map f ys))

-- nothing is there of no section
pub none_added : (rules : LineRules) (ascii : Bool) (width : Option ℕ) (old : PagedPage) → AreAdded rules ascii width [] old old
none_added rules ascii width old = record {
  own = [];
  ends = [];
  are = refl;
  lines = sym (append-nil old.lines.items);
  fronts = sym (append-nil (map front_content old.fronts.items));
  parts = sym (append-nil old.parts.items);
  end = (refl, refl);
}

-- sections behind sections
pub added_join : (rules : LineRules) (ascii : Bool) (width : Option ℕ) (xs ys : List SectionContent) (old mid new : PagedPage) → AreAdded rules ascii width xs old mid → AreAdded rules ascii width ys mid new → AreAdded rules ascii width (xs ++ ys) old new
added_join rules ascii width xs ys old mid new h k =
    let lines : map line_of (h.own ++ k.own) ≡ map line_of h.own ++ map line_of k.own = map-append line_of h.own k.own in
    let count : length mid.lines.items ≡ length old.lines.items + length (map line_of h.own) = ap length h.lines ∙ length-append old.lines.items (map line_of h.own) in
    record {
      own = h.own ++ k.own;
      ends = h.ends ++ k.ends;
      are = both_become (IsSectionAt rules ascii width) xs ys h.own k.own h.are k.are;
      lines = k.lines ∙ ap (λ (l : List FmtLine). l ++ map line_of k.own) h.lines ∙ append_assoc old.lines.items (map line_of h.own) (map line_of k.own) ∙ ap (λ (l : List FmtLine). old.lines.items ++ l) (sym lines);
      fronts = k.fronts ∙ ap (λ (l : List FrontContent). l ++ map front_of k.own) h.fronts ∙ append_assoc (map front_content old.fronts.items) (map front_of h.own) (map front_of k.own)
          ∙ ap (λ (l : List FrontContent). map front_content old.fronts.items ++ l) (sym (map-append front_of h.own k.own));
      parts = k.parts ∙ ap (λ (l : List ℕ). l ++ k.ends) h.parts ∙ append_assoc old.parts.items h.ends k.ends;
      end =
          subst (λ (ps : List PlacedPart). EndIn (IsPartAt rules) ps (length old.lines.items) (map line_of (h.own ++ k.own)) (h.ends ++ k.ends))
          (sym (flat_map_append (λ (section : SectionContent). parts_in (room ascii width section.gutters) section.lines) xs ys))
          (subst (λ (l : List FmtLine). EndIn (IsPartAt rules) (parts_shown ascii width xs ++ parts_shown ascii width ys) (length old.lines.items) l (h.ends ++ k.ends)) (sym lines)
          (ends_join (IsPartAt rules) (parts_shown ascii width xs) (parts_shown ascii width ys) (length old.lines.items) (map line_of h.own) (map line_of k.own) h.ends k.ends h.end
          (subst (λ (n : ℕ). EndIn (IsPartAt rules) (parts_shown ascii width ys) n (map line_of k.own) k.ends) count k.end)));
    }

-- the items of a list up to what is left
pub record ItemsAdded (rules : LineRules) (ascii : Bool) (width : Option ℕ) (all left : List SectionContent) (old new : PagedPage) : Type 0 where
  pub front : List SectionContent
  pub joins : all ≡ front ++ left
  pub added : AreAdded rules ascii width front old new
  pub starts : new.starts ≡ old.starts

-- before the first item
pub no_item_added : (rules : LineRules) (ascii : Bool) (width : Option ℕ) (all : List SectionContent) (old : PagedPage) → ItemsAdded rules ascii width all all old old
no_item_added rules ascii width all old = record { front = []; joins = refl; added = none_added rules ascii width old; starts = refl }

-- an item more
pub item_added : (rules : LineRules) (ascii : Bool) (width : Option ℕ) (all left : List SectionContent) (item : SectionContent) (old mid new : PagedPage)
    → ItemsAdded rules ascii width all (item ∷ left) old mid → AreAdded rules ascii width (item ∷ []) mid new → new.starts ≡ mid.starts → ItemsAdded rules ascii width all left old new
item_added rules ascii width all left item old mid new h k same = record {
  front = h.front ++ item ∷ [];
  joins = h.joins ∙ sym (append_assoc h.front (item ∷ []) left);
  added = added_join rules ascii width h.front (item ∷ []) old mid new h.added k;
  starts = same ∙ h.starts;
}

-- where none is left, all items are there
pub items_added : (rules : LineRules) (ascii : Bool) (width : Option ℕ) (all left : List SectionContent) (old new : PagedPage) → ItemsAdded rules ascii width all left old new → left ≡ [] → AreAdded rules ascii width all old new
items_added rules ascii width all left old new h none =
    subst (λ (s : List SectionContent). AreAdded rules ascii width s old new) (sym (h.joins ∙ ap (λ (s : List SectionContent). h.front ++ s) none ∙ append-nil h.front)) h.added

-- ---- groups

-- what becomes of two parts, part by part
pub parts_become : {A B : Type 0} (P : A → List B → Type 0) (xs ys : List A) (rows : List B) → EachBecomes P (xs ++ ys) rows → (own : List B) × (others : List B) × (rows ≡ own ++ others) × EachBecomes P xs own × EachBecomes P ys others
parts_become P [] ys rows h = ([], rows, refl, refl, h)
parts_become {B = B} P (x ∷ xs) ys rows (first, rest, are, here, h) =
    let more = parts_become P xs ys rest h in
    (first ++ more.0, more.1, are ∙ ap (λ (r : List B). first ++ r) more.2 ∙ sym (append_assoc first more.0 more.1), (first, more.0, refl, here, more.3), more.4)

-- the rows of what is shown of a group are those of the group
pub group_becomes : (rules : LineRules) (ascii : Bool) (width : Option ℕ) (group : List SectionContent) (rows : List RowContent)
    → EachBecomes (IsSectionAt rules ascii width) (flat_map (unfolded (table_rules rules) ascii width) group) rows → IsPageAt rules ascii width group rows
group_becomes rules ascii width [] rows h = h
group_becomes rules ascii width (section ∷ group) rows h =
    let two = parts_become (IsSectionAt rules ascii width) (unfolded (table_rules rules) ascii width section) (flat_map (unfolded (table_rules rules) ascii width) group) rows h in
    (two.0, two.1, two.2, two.3, group_becomes rules ascii width group two.1 two.4)

-- a section, and one below it
pub two_added : (rules : LineRules) (ascii : Bool) (width : Option ℕ) (section below : SectionContent) (group : List SectionContent) (old mid new : PagedPage) → group ≡ section ∷ below ∷ [] → AreAdded rules ascii width (unfolded (table_rules rules) ascii width section) old mid
    → AreAdded rules ascii width (unfolded (table_rules rules) ascii width below) mid new → AreAdded rules ascii width (flat_map (unfolded (table_rules rules) ascii width) group) old new
two_added rules ascii width section below group old mid new is h k =
    let one : List SectionContent = unfolded (table_rules rules) ascii width section in
    let other : List SectionContent = unfolded (table_rules rules) ascii width below in
    subst (λ (s : List SectionContent). AreAdded rules ascii width s old new) (ap (λ (s : List SectionContent). one ++ s) (sym (append-nil other)) ∙ ap (flat_map (unfolded (table_rules rules) ascii width)) (sym is))
    (added_join rules ascii width one other old mid new h k)

-- the parts of what is shown of a group are those of the group
pub group_parts : (rules : TableRules) (ascii : Bool) (width : Option ℕ) (group : List SectionContent) → parts_shown ascii width (flat_map (unfolded rules ascii width) group) ≡ page_parts rules ascii width group
group_parts rules ascii width [] = refl
group_parts rules ascii width (section ∷ group) =
    let one : List SectionContent = unfolded rules ascii width section in
    flat_map_append (λ (s : SectionContent). parts_in (room ascii width s.gutters) s.lines) one (flat_map (unfolded rules ascii width) group)
    ∙ ap (λ (ps : List PlacedPart). parts_shown ascii width one ++ ps) (group_parts rules ascii width group)

-- the parts of the pages of two lists of groups
pub groups_parts : (rules : TableRules) (ascii : Bool) (width : Option ℕ) (groups : List (List SectionContent)) (group : List SectionContent)
    → page_parts rules ascii width (sections_in (groups ++ group ∷ [])) ≡ page_parts rules ascii width (sections_in groups) ++ page_parts rules ascii width group
groups_parts rules ascii width groups group =
    ap (page_parts rules ascii width) (flat_map_append (λ (g : List SectionContent). g) groups (group ∷ []) ∙ ap (λ (s : List SectionContent). sections_in groups ++ s) (append-nil group))
    ∙ flat_map_append (λ (s : SectionContent). parts_shown ascii width (unfolded rules ascii width s)) (sections_in groups) group

-- ---- pages

-- the page up to what is left
pub record PagedSoFar (rules : LineRules) (ascii : Bool) (width : Option ℕ) (all left : List (List SectionContent)) (paged : PagedPage) : Type 0 where
  pub front : List (List SectionContent)
  pub joins : all ≡ front ++ left
  pub is : IsPagedAt rules ascii width front paged

-- before the first group there are no lines and no fronts
pub nothing_paged : (rules : LineRules) (ascii : Bool) (width : Option ℕ) (all : List (List SectionContent)) (paged : PagedPage) → paged.lines.items ≡ [] → paged.fronts.items ≡ [] → paged.starts.items ≡ 0 ∷ [] → paged.parts.items ≡ 0 ∷ []
    → PagedSoFar rules ascii width all all paged
nothing_paged rules ascii width all paged no_line no_front one one_part = record {
  front = [];
  joins = refl;
  is = record { rows = []; groups_begin = ([], one, (refl, refl)); parts = ([], one_part, (no_line, refl)); lines = no_line; fronts = ap (map front_content) no_front };
}

-- a group more
pub group_paged : (rules : LineRules) (ascii : Bool) (width : Option ℕ) (all left : List (List SectionContent)) (group : List SectionContent) (old mid new : PagedPage)
    → PagedSoFar rules ascii width all (group ∷ left) old → AreAdded rules ascii width (flat_map (unfolded (table_rules rules) ascii width) group) old mid → mid.starts ≡ old.starts
    → new.lines ≡ mid.lines → new.fronts ≡ mid.fronts → new.parts ≡ mid.parts → new.starts.items ≡ mid.starts.items ++ length mid.lines.items ∷ [] → PagedSoFar rules ascii width all left new
group_paged rules ascii width all left group old mid new h added same same_lines same_fronts same_parts pushed =
    let so_far = h.is in
    let lines : new.lines.items ≡ old.lines.items ++ map line_of added.own = ap (λ v. v.items) same_lines ∙ added.lines in
    let rows_count : length so_far.rows ≡ length old.lines.items = sym (ap length so_far.lines ∙ length-map so_far.rows line_of) in
    let count : length mid.lines.items ≡ length so_far.rows + length added.own =
    omega (arith, ap length added.lines, length-append old.lines.items (map line_of added.own), length-map added.own line_of, rows_count) in
    let starts : new.starts.items ≡ old.starts.items ++ (length so_far.rows + length added.own) ∷ [] = pushed ∙ ap (λ v. v.items ++ length mid.lines.items ∷ []) same ∙ ap (λ (n : ℕ). old.starts.items ++ n ∷ []) count in
    let shown_here = page_parts (table_rules rules) ascii width group in
    record {
      front = h.front ++ group ∷ [];
      joins = h.joins ∙ sym (append_assoc h.front (group ∷ []) left);
      is = record {
        rows = so_far.rows ++ added.own;
        groups_begin =
            begin_more (IsPageAt rules ascii width) h.front (group ∷ []) so_far.rows added.own (so_far.rows ++ added.own) old.starts.items ((length so_far.rows + length added.own) ∷ []) new.starts.items so_far.groups_begin
            (one_end (IsPageAt rules ascii width) group (length so_far.rows) added.own (group_becomes rules ascii width group added.own added.are)) refl starts;
        parts =
            subst (λ (ps : List PlacedPart). BeginIn (IsPartAt rules) ps new.lines.items new.parts.items)
            (sym (groups_parts (table_rules rules) ascii width h.front group))
            (begin_more (IsPartAt rules) (page_parts (table_rules rules) ascii width (sections_in h.front)) shown_here old.lines.items (map line_of added.own) new.lines.items old.parts.items added.ends new.parts.items so_far.parts
            (subst (λ (ps : List PlacedPart). EndIn (IsPartAt rules) ps (length old.lines.items) (map line_of added.own) added.ends) (group_parts (table_rules rules) ascii width group) added.end) lines
            (ap (λ v. v.items) same_parts ∙ added.parts));
        lines = lines ∙ ap (λ (l : List FmtLine). l ++ map line_of added.own) so_far.lines ∙ sym (map-append line_of so_far.rows added.own);
        fronts = ap (λ v. map front_content v.items) same_fronts ∙ added.fronts ∙ ap (λ (l : List FrontContent). l ++ map front_of added.own) so_far.fronts ∙ sym (map-append front_of so_far.rows added.own);
      };
    }

-- where no group is left, the page is laid out
pub paged_whole : (rules : LineRules) (ascii : Bool) (width : Option ℕ) (all left : List (List SectionContent)) (paged : PagedPage) → PagedSoFar rules ascii width all left paged → left ≡ [] → IsPagedAt rules ascii width all paged
paged_whole rules ascii width all left paged h none =
    subst (λ (s : List (List SectionContent)). IsPagedAt rules ascii width s paged) (sym (h.joins ∙ ap (λ (s : List (List SectionContent)). h.front ++ s) none ∙ append-nil h.front)) h.is

-- ---- laws

row_found : (o : Option RowContent) (p : Option Front) (line : FmtLine) → option_map front_content p ≡ option_map front_of o → option_map line_of o ≡ Some line → o ≡ Some (row_behind (front_or_none p) line)
row_found None p line same is = absurd (cc)
row_found (Some r) None line same is = absurd (cc)
row_found (Some r) (Some f) line same is =
    ap (λ (front : FrontContent). Some (row_behind front r.line)) (sym (same_Some _ _ same)) ∙ ap (λ (l : FmtLine). Some (row_behind (front_content f) l)) (same_Some _ _ is)

line_found : (rows : List RowContent) (fronts : List Front) (row : ℕ) (line : FmtLine) → map front_content fronts ≡ map front_of rows → slice_get (map line_of rows) row ≡ Some line → slice_get rows row ≡ Some (row_behind (front_at fronts row) line)
line_found rows fronts row line same is =
    row_found (slice_get rows row) (slice_get fronts row) line (sym (slice_get-map front_content fronts row) ∙ ap (λ (l : List FrontContent). slice_get l row) same ∙ slice_get-map front_of rows row) (sym (slice_get-map line_of rows row) ∙ is)

-- the line of a number is behind the front of that number a row of the page
pub rows_are : RowsAreThePage
rows_are rules ascii width groups paged is row line found =
    line_found is.rows paged.fronts.items row line is.fronts (ap (λ (l : List FmtLine). slice_get l row) (sym is.lines) ∙ found)

section_text : (rules : LineRules) (ascii : Bool) (width : Option ℕ) (section : SectionContent) (rows : List RowContent) → IsSectionAt rules ascii width section rows → IsTextAt rules ascii width section (map line_of rows)
section_text rules ascii width section rows h =
    subst (λ (lines : List FmtLine). IsTextAt rules ascii width section lines) (sym (ap (map line_of) h.rows_are ∙ lines_behind (shown ascii width section.gutters) section.fresh section.marks 0 true h.lines)) h.layout

sections_text : (rules : LineRules) (ascii : Bool) (width : Option ℕ) (sections : List SectionContent) (rows : List RowContent) → EachBecomes (IsSectionAt rules ascii width) sections rows → EachBecomes (IsTextAt rules ascii width) sections (map line_of rows)
sections_text rules ascii width [] rows h = ap (map line_of) h
sections_text rules ascii width (section ∷ sections) rows (own, others, are, is, rest) =
    (map line_of own, map line_of others, ap (map line_of) are ∙ map-append line_of own others, section_text rules ascii width section own is, sections_text rules ascii width sections others rest)

page_text : (rules : LineRules) (ascii : Bool) (width : Option ℕ) (page : List SectionContent) (rows : List RowContent) → IsPageAt rules ascii width page rows
    → EachBecomes (EachBecomes (IsTextAt rules ascii width)) (map (unfolded (table_rules rules) ascii width) page) (map line_of rows)
page_text rules ascii width [] rows h = ap (map line_of) h
page_text rules ascii width (section ∷ page) rows (own, others, are, becomes, rest) =
    (map line_of own, map line_of others, ap (map line_of) are ∙ map-append line_of own others, sections_text rules ascii width (unfolded (table_rules rules) ascii width section) own becomes, page_text rules ascii width page others rest)

-- the lines of a page are layouts of its texts, each in the room behind its gutters
pub lines_are_the_texts : LinesAreTheTexts
lines_are_the_texts rules ascii width groups paged is =
    subst (λ (lines : List FmtLine). EachBecomes (EachBecomes (IsTextAt rules ascii width)) (map (unfolded (table_rules rules) ascii width) (sections_in groups)) lines) (sym is.lines) (page_text rules ascii width (sections_in groups) is.rows (paged_rows rules ascii width groups paged is))
