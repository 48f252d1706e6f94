-- The lines of a text one after the other, and what is told of them.
use Rattle.std.proofs.Common.{◌≡◌, ℕ, ◌+◌, List, [], ◌∷◌, ◌++◌, map, length, drop, min, refl, sym, ap, ◌∙◌, arith}
use Rattle.std.proofs.lemmas.List.{drop-map, drop_min}
use Rattle.markdown_blocks.specs.Events.{Event, events_from, events_of, step_events}
use Rattle.markdown_blocks.specs.Lines.{text_lines}
use Rattle.markdown_blocks.specs.Steps.{State, Step, step}
use Rattle.markdown_leaves.specs.Gather.{Gathering, closed}
use Rattle.markdown_leaves.specs.Parts.{part_of}
use Rattle.markdown_leaves.specs.declared.parts.Part.{Part}
use Rattle.markdown_leaves.specs.Told.{happened, parts_of, told, unread_text}
use Rattle.markdown_events.specs.Places.{Placing, end_placed, line_placed, lines_of, nothing_placed, placed_from}

told_both : (g : Gathering) (es fs : List Event) → told g (es ++ fs) ≡ told (told g es) fs
unfolding told
told_both g [] fs = refl
told_both g (e ∷ es) fs = told_both (happened e g) es fs

-- what is told is what the events tell
all_told : (number : ℕ) (state : State) (p : Placing) (texts : List (List ℕ)) → (placed_from number state p texts).told ≡ closed (told p.told (events_from state texts))
unfolding placed_from events_from
all_told number state p [] = refl
all_told number state p (text ∷ texts) =
    all_told (number + 1) (step state text).state (line_placed number (length state.containers) (step state text).line (step state text).state.containers p) texts
    ∙ ap closed (sym (told_both p.told (step_events state (step state text)) (events_from (step state text).state texts)))

-- a line more
pub line_more : (number before : ℕ) (state : State) (p q : Placing) (done : Step) (line : List ℕ) (all texts : List (List ℕ))
    → all ≡ line ∷ texts → done ≡ step state line → before ≡ length state.containers → q ≡ line_placed number before done.line done.state.containers p
    → placed_from (number + 1) done.state q texts ≡ placed_from number state p all
unfolding placed_from
line_more number before state p q done line all texts cut is count placed =
    ap (λ (x : Placing). placed_from (number + 1) done.state x texts) placed
    ∙ ap (λ (n : ℕ). placed_from (number + 1) done.state (line_placed number n done.line done.state.containers p) texts) count
    ∙ ap (λ (d : Step). placed_from (number + 1) d.state (line_placed number (length state.containers) d.line d.state.containers p) texts) is
    ∙ sym (ap (placed_from number state p) cut)

-- all of them
pub text_placed : (text : List ℕ) (number count : ℕ) (state : State) (p q : Placing)
    → placed_from number state p [] ≡ placed_from 0 (unread_text text).state nothing_placed (text_lines text) → count ≡ length state.containers → q ≡ end_placed number count p
    → (q.told.parts ≡ parts_of text) × (q.lines ≡ lines_of text)
unfolding placed_from parts_of lines_of events_of
text_placed text number count state p q same counted ended =
    let all : q ≡ placed_from 0 (unread_text text).state nothing_placed (text_lines text) = ended ∙ ap (λ (n : ℕ). end_placed number n p) counted ∙ same in
    (ap (λ (x : Placing). x.told.parts) all ∙ ap (λ (g : Gathering). g.parts) (all_told 0 (unread_text text).state nothing_placed (text_lines text)), ap (λ (x : Placing). x.lines) all)

-- the parts after so many
pub after_count : (ps new : List Part) (count k : ℕ) → k ≡ min count (length ps) → new ≡ drop k ps → map part_of new ≡ drop count (map part_of ps)
after_count ps new count k is cut = ap (map part_of) (cut ∙ ap (λ (n : ℕ). drop n ps) is ∙ drop_min count ps) ∙ sym (drop-map part_of count ps)

pub none_left : (bs : List ℕ) → length bs ≡ 0 → bs ≡ []
none_left [] h = refl
none_left (b ∷ bs) h = absurd (omega (arith, h))
