-- Events one after the other.
use Rattle.std.proofs.Common.{◌≡◌, ℕ, false, ◌-◌, List, [], ◌∷◌, ◌++◌, map, length, drop, refl, sym, ap, ◌∙◌}
use Rattle.markdown_marks.specs.Remaining.{Remaining}
use Rattle.markdown_blocks.specs.Events.{Event, enter, line, leaves, events_of}
use Rattle.markdown_blocks.specs.Steps.{Line}
use Rattle.markdown_blocks.specs.declared.containers.Container.{Container}
use Rattle.markdown_blocks.specs.declared.leaves.Deed.{Deed}
use Rattle.markdown_leaves.specs.Gather.{Gathering, nothing_told, closed, line_done}
use Rattle.markdown_leaves.specs.Parts.{PartContent}
use Rattle.markdown_leaves.specs.Told.{told, happened, events_between, unread_text, parts_of}

told_append : (g : Gathering) (es fs : List Event) → told g (es ++ fs) ≡ told (told g es) fs
unfolding told
told_append g [] fs = refl
told_append g (e ∷ es) fs = told_append (happened e g) es fs

told_one : (g : Gathering) (deed : Deed) (text : Remaining) → told g (line deed text ∷ []) ≡ record (line_done deed text g) { fresh = false }
unfolding told
told_one g deed text = refl

-- a line: containers end, others begin, and it does this to the leaves
pub told_between : (g left entered done : Gathering) (before : ℕ) (containers others : List Container) (read : Line)
    → left ≡ told g (leaves (before - read.kept)) → others ≡ drop read.kept containers → entered ≡ told left (map enter others)
    → done ≡ record (line_done read.deed read.text entered) { fresh = false } → done ≡ told g (events_between before read containers)
told_between g left entered done before containers others read left_is others_are entered_is done_is =
    let here = line read.deed read.text ∷ [] in
    let begun = map enter (drop read.kept containers) in
    done_is ∙ sym (told_one entered read.deed read.text)
    ∙ ap (λ (e : Gathering). told e here) (entered_is ∙ ap (λ (cs : List Container). told left (map enter cs)) others_are)
    ∙ ap (λ (l : Gathering). told (told l begun) here) left_is
    ∙ sym (told_append (told g (leaves (before - read.kept))) begun here) ∙ sym (told_append g (leaves (before - read.kept)) (begun ++ here))

-- a line, and then others
pub told_read : (g done : Gathering) (count : ℕ) (before after : List Container) (read : Line) (others all : List Event)
    → count ≡ length before → done ≡ told g (events_between count read after)
    → all ≡ events_between (length before) read after ++ others → told done others ≡ told g all
told_read g done count before after read others all count_is done_is all_is =
    ap (λ (d : Gathering). told d others) (done_is ∙ ap (λ (n : ℕ). told g (events_between n read after)) count_is)
    ∙ sym (told_append g (events_between (length before) read after) others) ∙ sym (ap (told g) all_is)

-- the end: all containers end, and the leaf that is open
pub told_end : (text : List ℕ) (g left done : Gathering) (count : ℕ) (events : List Event) (parts : List PartContent)
    → told g events ≡ told nothing_told (events_of (unread_text text)) → events ≡ leaves count → left ≡ told g (leaves count) → done ≡ closed left → parts ≡ done.parts → parts ≡ parts_of text
unfolding parts_of
told_end text g left done count events parts same events_are left_is done_is parts_are =
    parts_are ∙ ap (λ (d : Gathering). d.parts) (done_is ∙ ap closed (left_is ∙ ap (told g) (sym events_are) ∙ same))
