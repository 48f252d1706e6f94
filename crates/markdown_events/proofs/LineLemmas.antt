-- The lines of the events are those of the leaves.
use Rattle.std.proofs.Common.{◌≡◌, ℕ, Bool, true, false, List, [], ◌∷◌, ◌++◌, map, refl, sym, ap, ◌∙◌, append-nil, append_assoc, if◌then◌else◌}
use Rattle.std.specs.List.{flat_map}
use Rattle.std.proofs.lemmas.Grind.{flat_map-append}
use Rattle.markdown_marks.specs.Remaining.{Remaining}
use Rattle.markdown_blocks.specs.declared.containers.Container.{Container}
use Rattle.markdown_blocks.specs.declared.containers.Container.TheVariants.{Quote as QuoteContainer, Item as ItemContainer}
use Rattle.markdown_leaves.specs.Parts.{BlockContent, PartContent, begins, ends, block}
use Rattle.markdown_leaves.specs.Told.{parts_of}
use Rattle.markdown_events.specs.Contents.{EventContent, start, end, line}
use Rattle.markdown_events.specs.Laws.{LinesInOrder, event_lines, part_lines}
use Rattle.markdown_events.specs.Walks.{Walking, begun, container_begun, events_of, first_ended, has_sign, in_list, innermost, innermost_ended, is_list, leaf_told, list_ended, nothing_walked, part_told, parts_told, said}
use Rattle.markdown_events.specs.declared.events.Tag.{Tag}
use Rattle.markdown_events.specs.declared.events.Tag.TheVariants.{Quote, List as ListTag, Item, Leaf}

-- the lines so far
abbrev lines_so_far : Walking → List Remaining
lines_so_far w = flat_map event_lines w.events

-- an event without a line adds none
no_more : (es : List EventContent) (e : EventContent) → event_lines e ≡ [] → flat_map event_lines (es ++ e ∷ []) ≡ flat_map event_lines es
no_more es e none =
    flat_map-append event_lines es (e ∷ [])
    ∙ ap (λ (ls : List Remaining). flat_map event_lines es ++ (ls ++ [])) none
    ∙ append-nil (flat_map event_lines es)

begun_lines : (tag : Tag) (apart : Bool) (w : Walking) → lines_so_far (begun tag apart w) ≡ lines_so_far w
begun_lines tag apart w = no_more w.events (start tag apart) refl

ended_lines : (around : List Tag) (w : Walking) → lines_so_far (first_ended around w) ≡ lines_so_far w
ended_lines [] w = refl
ended_lines (tag ∷ around) w = no_more w.events (end tag) refl

list_lines_if : (b : Bool) (w : Walking) → lines_so_far (if b then innermost_ended w else w) ≡ lines_so_far w
list_lines_if false w = refl
list_lines_if true w = ended_lines w.around w

list_lines : (w : Walking) → lines_so_far (list_ended w) ≡ lines_so_far w
list_lines w = list_lines_if (is_list (innermost w.around)) w

in_list_lines_if : (b : Bool) (sign number : ℕ) (apart : Bool) (w : Walking) → lines_so_far (if b then w else begun (ListTag sign number) apart (list_ended w)) ≡ lines_so_far w
in_list_lines_if true sign number apart w = refl
in_list_lines_if false sign number apart w = begun_lines (ListTag sign number) apart (list_ended w) ∙ list_lines w

container_lines : (container : Container) (apart : Bool) (w : Walking) → lines_so_far (container_begun container apart w) ≡ lines_so_far w
container_lines QuoteContainer apart w = begun_lines Quote apart (list_ended w) ∙ list_lines w
container_lines (ItemContainer sign number content) apart w =
    begun_lines Item apart (in_list sign number apart w) ∙ in_list_lines_if (has_sign sign (innermost w.around)) sign number apart w

told_lines : (lines : List Remaining) → flat_map event_lines (map line lines) ≡ lines
told_lines [] = refl
told_lines (text ∷ lines) = ap (λ (ls : List Remaining). text ∷ ls) (told_lines lines)

said_lines : (lines : List Remaining) (w : Walking) → lines_so_far (said lines w) ≡ lines_so_far w ++ lines
said_lines lines w = flat_map-append event_lines w.events (map line lines) ∙ ap (λ (ls : List Remaining). lines_so_far w ++ ls) (told_lines lines)

leaf_lines : (leaf : BlockContent) (w : Walking) → lines_so_far (leaf_told leaf w) ≡ lines_so_far w ++ leaf.lines
leaf_lines leaf w =
    let v : Walking = begun (Leaf leaf.kind) leaf.apart (list_ended w) in
    ended_lines (said leaf.lines v).around (said leaf.lines v) ∙ said_lines leaf.lines v
    ∙ ap (λ (ls : List Remaining). ls ++ leaf.lines) (begun_lines (Leaf leaf.kind) leaf.apart (list_ended w) ∙ list_lines w)

one_part : (part : PartContent) (w : Walking) → lines_so_far (part_told part w) ≡ lines_so_far w ++ part_lines part
one_part (begins container apart) w = container_lines container apart w ∙ sym (append-nil (lines_so_far w))
one_part ends w = ended_lines (list_ended w).around (list_ended w) ∙ list_lines w ∙ sym (append-nil (lines_so_far w))
one_part (block leaf) w = leaf_lines leaf w

all_parts : (parts : List PartContent) (w : Walking) → lines_so_far (parts_told parts w) ≡ lines_so_far w ++ flat_map part_lines parts
unfolding parts_told
all_parts [] w = sym (append-nil (lines_so_far w))
all_parts (part ∷ parts) w =
    all_parts parts (part_told part w)
    ∙ ap (λ (ls : List Remaining). ls ++ flat_map part_lines parts) (one_part part w)
    ∙ append_assoc (lines_so_far w) (part_lines part) (flat_map part_lines parts)

ends_say_nothing : (around : List Tag) → flat_map event_lines (map end around) ≡ []
ends_say_nothing [] = refl
ends_say_nothing (tag ∷ around) = ends_say_nothing around

pub lines_in_order : LinesInOrder
unfolding events_of
lines_in_order = λ text.
    let w : Walking = parts_told (parts_of text) nothing_walked in
    flat_map-append event_lines w.events (map end w.around)
    ∙ ap (λ (ls : List Remaining). lines_so_far w ++ ls) (ends_say_nothing w.around)
    ∙ append-nil (lines_so_far w)
    ∙ all_parts (parts_of text) nothing_walked
