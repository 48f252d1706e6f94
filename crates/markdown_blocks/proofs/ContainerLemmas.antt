-- One container more: matching those that are open, and opening others.
use Rattle.std.proofs.Common.{◌≡◌, ℕ, suc, ◌<◌, ◌≤◌, ◌+◌, Bool, false, ◌&&◌, ◌==◌, List, [], ◌∷◌, ◌++◌, length, take, drop, get_or, Option, Some, None, refl, sym, ap, ◌∙◌, append_assoc}
use Rattle.std.proofs.lemmas.List.{drop_more, take-append-le}
use Rattle.markdown_marks.specs.Remaining.{Remaining}
use Rattle.markdown_blocks.specs.Containers.{match_more, goes_on, matched, Opened, open_more, container_start, opened, is_item, ends_in_item}
use Rattle.markdown_blocks.specs.Laws.{HasFront}
use Rattle.markdown_blocks.specs.declared.containers.Container.{Container}

-- ---- matching

-- with a container in front
pub matched_cons : (bare : Bool) (container : Container) (inner : List Container) (rest : Remaining) → matched bare (container ∷ inner) rest ≡ match_more (goes_on container (bare && (length inner == 0)) rest) rest (matched bare inner)
unfolding matched
matched_cons bare container inner rest = refl

-- without containers none goes on, and the whole rest is left
pub matched_nil : (bare : Bool) (rest : Remaining) → matched bare [] rest ≡ record { count = 0; rest = rest }
unfolding matched
matched_nil bare rest = refl

-- the container at a place, and those after it
pub matched_at : (bare : Bool) (containers : List Container) (at : ℕ) (d : Container) (rest : Remaining) → at < length containers
    → matched bare (drop at containers) rest ≡ match_more (goes_on (get_or containers at d) (bare && (length (drop (at + 1) containers) == 0)) rest) rest (matched bare (drop (at + 1) containers))
matched_at bare containers at d rest within = ap (λ cs. matched bare cs rest) (drop_more containers at d within) ∙ matched_cons bare (get_or containers at d) (drop (at + 1) containers) rest

-- what the container at a place makes of the line decides what those from it on do
pub goes_on_more : (bare bare_here : Bool) (containers : List Container) (at : ℕ) (d : Container) (rest : Remaining) (next : Option Remaining) → at < length containers
    → bare_here ≡ (bare && (length (drop (at + 1) containers) == 0)) → next ≡ goes_on (get_or containers at d) bare_here rest
    → matched bare (drop at containers) rest ≡ match_more next rest (matched bare (drop (at + 1) containers))
goes_on_more bare bare_here containers at d rest next within here is =
    let others = matched bare (drop (at + 1) containers) in
    matched_at bare containers at d rest within
    ∙ ap (λ b. match_more (goes_on (get_or containers at d) b rest) rest others) (sym here)
    ∙ ap (λ o. match_more o rest others) (sym is)

-- ---- opening

-- a container that is put behind some is in front of those that follow
pub pushed : (xs : List Container) (x : Container) (ys : List Container) → (xs ++ x ∷ []) ++ ys ≡ xs ++ x ∷ ys
pushed xs x ys = append_assoc xs (x ∷ []) ys

-- what was in front is there still
pub front_pushed : (front xs new : List Container) (x : Container) → new ≡ xs ++ x ∷ [] → length front ≤ length xs → HasFront front xs → HasFront front new
front_pushed front xs new x new_is more h = ap (take (length front)) new_is ∙ take-append-le (length front) xs (x ∷ []) more ∙ h

-- a container that begins is the first, and then come those that begin behind it
pub opened_next : (room more : ℕ) (in_paragraph : Bool) (rest : Remaining) (found : Opened) → more ≡ suc room → container_start in_paragraph rest ≡ Some found
    → opened more in_paragraph rest ≡ record { containers = found.container ∷ (opened room false found.rest).containers; rest = (opened room false found.rest).rest }
unfolding opened
opened_next room more in_paragraph rest found e is = ap (λ n. opened n in_paragraph rest) e ∙ ap (λ o. open_more o rest (opened room false)) is

-- where no container begins, the whole rest is left
pub opened_none : (room more : ℕ) (in_paragraph : Bool) (rest : Remaining) → more ≡ suc room → container_start in_paragraph rest ≡ None → opened more in_paragraph rest ≡ record { containers = []; rest = rest }
unfolding opened
opened_none room more in_paragraph rest e is = ap (λ n. opened n in_paragraph rest) e ∙ ap (λ o. open_more o rest (opened room false)) is

-- where there is no room for one, the whole rest is left
pub opened_full : (more : ℕ) (in_paragraph : Bool) (rest : Remaining) → more ≡ 0 → opened more in_paragraph rest ≡ record { containers = []; rest = rest }
unfolding opened
opened_full more in_paragraph rest e = ap (λ n. opened n in_paragraph rest) e

-- with a container in front it decides, unless others are in it
pub ends_cons : (bare : Bool) (container : Container) (inner : List Container) → ends_in_item bare (container ∷ inner) ≡ ends_in_item (is_item container) inner
unfolding ends_in_item
ends_cons bare container inner = refl

-- without containers it is as was known before
pub ends_nil : (bare : Bool) → ends_in_item bare [] ≡ bare
unfolding ends_in_item
ends_nil bare = refl
