-- The events of a text nest.
use Rattle.std.proofs.Common.{◌≡◌, ℕ, Bool, true, false, not, ◌&&◌, List, [], ◌∷◌, ◌++◌, map, drop, Option, Some, None, refl, sym, ap, subst, ◌∙◌, if◌then◌else◌}
use Rattle.std.proofs.lemmas.Bool.{false≢true}
use Rattle.markdown_marks.specs.Remaining.{Remaining}
use Rattle.markdown_blocks.specs.declared.containers.Container.{Container}
use Rattle.markdown_blocks.specs.declared.containers.Container.TheVariants.{Quote as QuoteContainer, Item as ItemContainer}
use Rattle.markdown_leaves.specs.Parts.{BlockContent, PartContent, begins, ends, block}
use Rattle.markdown_leaves.specs.Told.{parts_of}
use Rattle.markdown_leaves.specs.declared.parts.Kind.{Kind}
use Rattle.markdown_events.specs.Contents.{EventContent, start, end, line}
use Rattle.markdown_events.specs.Laws.{EventsNest, LeadsTo, is_item, is_leaf, may_hold}
use Rattle.markdown_events.specs.Walks.{Walking, begun, container_begun, events_of, first_ended, has_sign, in_list, innermost, innermost_ended, is_list, list_ended, nothing_walked, part_told, parts_told, said}
use Rattle.markdown_events.specs.declared.events.Tag.{Tag}
use Rattle.markdown_events.specs.declared.events.Tag.TheVariants.{Quote, List as ListTag, Item, Leaf}

-- events, and then others
both : (a : List Tag) (es fs : List EventContent) (b c : List Tag) → LeadsTo a es b → LeadsTo b fs c → LeadsTo a (es ++ fs) c
both a [] fs b c h k = subst (λ (x : List Tag). LeadsTo x fs c) (sym h) k
both a (start tag apart ∷ es) fs b c h k = (h.0, both (tag ∷ a) es fs b c h.1 k)
both a (end tag ∷ es) fs b c h k = (h.0, both (drop 1 a) es fs b c h.1 k)
both a (line text ∷ es) fs b c h k = (h.0, both a es fs b c h.1 k)

-- what is open is no leaf, and each may be where it is
Fits : List Tag → Type 0
Fits [] = Unit {0}
Fits (tag ∷ around) = (may_hold (innermost around) tag ≡ true) × (is_leaf (Some tag) ≡ false) × Fits around

-- the events so far lead to what is open
record Stands (w : Walking) : Type 0 where
  led : LeadsTo [] w.events w.around
  fits : Fits w.around

no_leaf : (around : List Tag) → Fits around → is_leaf (innermost around) ≡ false
unfolding Fits
no_leaf [] f = refl
no_leaf (tag ∷ around) f = f.1

-- ---- what may be where

takes_block : (o : Option Tag) (tag : Tag) → is_item tag ≡ false → is_list o ≡ false → is_leaf o ≡ false → may_hold o tag ≡ true
takes_block o tag item lists leaf =
    ap (λ (b : Bool). not b && (if is_list o then is_item tag else not (is_item tag))) leaf
    ∙ ap (λ (b : Bool). if b then is_item tag else not (is_item tag)) lists
    ∙ ap (λ (b : Bool). not b) item

takes_item : (o : Option Tag) → is_list o ≡ true → is_leaf o ≡ false → may_hold o Item ≡ true
takes_item o lists leaf = ap (λ (b : Bool). not b && (if is_list o then true else false)) leaf ∙ ap (λ (b : Bool). if b then true else false) lists

no_list_in : (o : Option Tag) (sign number : ℕ) → may_hold o (ListTag sign number) ≡ true → is_list o ≡ false
no_list_in None sign number h = refl
no_list_in (Some Quote) sign number h = refl
no_list_in (Some Item) sign number h = refl
no_list_in (Some (Leaf kind)) sign number h = refl
no_list_in (Some (ListTag own first)) sign number h = absurd (false≢true h)

list_by_sign : (sign : ℕ) (o : Option Tag) → has_sign sign o ≡ true → is_list o ≡ true
list_by_sign sign None h = absurd (false≢true h)
list_by_sign sign (Some Quote) h = absurd (false≢true h)
list_by_sign sign (Some Item) h = absurd (false≢true h)
list_by_sign sign (Some (Leaf kind)) h = absurd (false≢true h)
list_by_sign sign (Some (ListTag own number)) h = refl

-- ---- one thing begins or ends

begins_one : (w : Walking) (tag : Tag) (apart : Bool) → Stands w → may_hold (innermost w.around) tag ≡ true → is_leaf (Some tag) ≡ false → Stands (begun tag apart w)
unfolding Fits
begins_one w tag apart s may leaf = record {
  led = both [] w.events (start tag apart ∷ []) w.around (tag ∷ w.around) s.led (may, refl);
  fits = (may, leaf, s.fits);
}

first_ends : (w : Walking) (around : List Tag) → w.around ≡ around → Stands w → Stands (first_ended around w)
unfolding Fits
first_ends w [] is s = s
first_ends w (tag ∷ around) is s =
    let fits : Fits (tag ∷ around) = subst Fits is s.fits in
    record {
      led = both [] w.events (end tag ∷ []) w.around around s.led (ap innermost is, ap (drop 1) is);
      fits = fits.2;
    }

-- below a list is none
below_list : (w : Walking) (around : List Tag) → is_list (innermost around) ≡ true → Fits around → is_list (innermost (first_ended around w).around) ≡ false
unfolding Fits
below_list w [] h f = absurd (false≢true h)
below_list w (Quote ∷ around) h f = absurd (false≢true h)
below_list w (Item ∷ around) h f = absurd (false≢true h)
below_list w (Leaf kind ∷ around) h f = absurd (false≢true h)
below_list w (ListTag sign number ∷ around) h f = no_list_in (innermost around) sign number f.0

-- no list is open now
record StandsInNone (w : Walking) : Type 0 where
  stands : Stands w
  none : is_list (innermost w.around) ≡ false

list_ends_if : (w : Walking) (b : Bool) → is_list (innermost w.around) ≡ b → Stands w → StandsInNone (if b then innermost_ended w else w)
list_ends_if w false is s = record { stands = s; none = is }
list_ends_if w true is s = record { stands = first_ends w w.around refl s; none = below_list w w.around is s.fits }

list_ends : (w : Walking) → Stands w → StandsInNone (list_ended w)
list_ends w s = list_ends_if w (is_list (innermost w.around)) refl s

-- a block begins where no list is open
block_begins : (w : Walking) (tag : Tag) (apart : Bool) → StandsInNone w → is_item tag ≡ false → is_leaf (Some tag) ≡ false → Stands (begun tag apart w)
block_begins w tag apart s item leaf = begins_one w tag apart s.stands (takes_block (innermost w.around) tag item s.none (no_leaf w.around s.stands.fits)) leaf

-- a list is open now
record StandsInList (w : Walking) : Type 0 where
  stands : Stands w
  lists : is_list (innermost w.around) ≡ true

list_goes_on : (w : Walking) (sign number : ℕ) (apart b : Bool) → has_sign sign (innermost w.around) ≡ b → Stands w → StandsInList (if b then w else begun (ListTag sign number) apart (list_ended w))
list_goes_on w sign number apart true is s = record { stands = s; lists = list_by_sign sign (innermost w.around) is }
list_goes_on w sign number apart false is s = record { stands = block_begins (list_ended w) (ListTag sign number) apart (list_ends w s) refl refl; lists = refl }

-- ---- a part

lines_in_leaf : (kind : Kind) (around : List Tag) (lines : List Remaining) → LeadsTo (Leaf kind ∷ around) (map line lines) (Leaf kind ∷ around)
lines_in_leaf kind around [] = refl
lines_in_leaf kind around (text ∷ lines) = (refl, lines_in_leaf kind around lines)

leaf_stands : (w : Walking) (leaf : BlockContent) → StandsInNone w → Stands (innermost_ended (said leaf.lines (begun (Leaf leaf.kind) leaf.apart w)))
leaf_stands w leaf s =
    let tag : Tag = Leaf leaf.kind in
    let inside : List Tag = tag ∷ w.around in
    let first : List EventContent = w.events ++ start tag leaf.apart ∷ [] in
    let may : may_hold (innermost w.around) tag ≡ true = takes_block (innermost w.around) tag refl s.none (no_leaf w.around s.stands.fits) in
    record {
      led = both [] (first ++ map line leaf.lines) (end tag ∷ []) inside w.around
          (both [] first (map line leaf.lines) inside inside (both [] w.events (start tag leaf.apart ∷ []) w.around inside s.stands.led (may, refl)) (lines_in_leaf leaf.kind w.around leaf.lines)) (refl, refl);
      fits = s.stands.fits;
    }

container_stands : (container : Container) (apart : Bool) (w : Walking) → Stands w → Stands (container_begun container apart w)
container_stands QuoteContainer apart w s = block_begins (list_ended w) Quote apart (list_ends w s) refl refl
container_stands (ItemContainer sign number content) apart w s =
    let v : Walking = in_list sign number apart w in
    let t : StandsInList v = list_goes_on w sign number apart (has_sign sign (innermost w.around)) refl s in
    begins_one v Item apart t.stands (takes_item (innermost v.around) t.lists (no_leaf v.around t.stands.fits)) refl

part_stands : (part : PartContent) (w : Walking) → Stands w → Stands (part_told part w)
part_stands (begins container apart) w s = container_stands container apart w s
part_stands ends w s = first_ends (list_ended w) (list_ended w).around refl (list_ends w s).stands
part_stands (block leaf) w s = leaf_stands (list_ended w) leaf (list_ends w s)

-- ---- a text

parts_stand : (parts : List PartContent) (w : Walking) → Stands w → Stands (parts_told parts w)
unfolding parts_told
parts_stand [] w s = s
parts_stand (part ∷ parts) w s = parts_stand parts (part_told part w) (part_stands part w s)

all_end : (around : List Tag) → LeadsTo around (map end around) []
all_end [] = refl
all_end (tag ∷ around) = (refl, all_end around)

pub events_nest : EventsNest
unfolding events_of Fits
events_nest = λ text.
    let w : Walking = parts_told (parts_of text) nothing_walked in
    let s : Stands w = parts_stand (parts_of text) nothing_walked (record { led = refl; fits = tt }) in
    both [] w.events (map end w.around) w.around [] s.led (all_end w.around)
