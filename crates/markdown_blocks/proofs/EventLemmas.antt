-- What happens in the first line of what is left, and in those after it.
use Rattle.std.proofs.Common.{◌≡◌, ℕ, List, [], ◌∷◌, ◌++◌, length, sym, ap, ◌∙◌, refl, true, ◌==◌, arith}
use Rattle.std.proofs.lemmas.Bool.Decides.{nat_tests}
use Rattle.markdown_blocks.specs.Events.{leaves, step_events, events_from, Unread, events_of}
use Rattle.markdown_blocks.specs.Lines.{text_lines}
use Rattle.markdown_blocks.specs.Steps.{State, Step, step}

-- with a line in front
events_cons : (state : State) (text : List ℕ) (texts : List (List ℕ)) → events_from state (text ∷ texts) ≡ step_events state (step state text) ++ events_from (step state text).state texts
unfolding events_from
events_cons state text texts = refl

-- the first line is read
pub events_line : (before : Unread) (text after : List ℕ) (done : Step) → text_lines before.text ≡ text ∷ text_lines after → done ≡ step before.state text
    → events_of before ≡ step_events before.state done ++ events_of (record { text = after; state = done.state })
unfolding events_of
events_line before text after done lines_are done_is =
    ap (events_from before.state) lines_are ∙ events_cons before.state text (text_lines after)
    ∙ ap (λ (s : Step). step_events before.state s ++ events_from s.state (text_lines after)) (sym done_is)

lines_none : (state : State) (text : List ℕ) → text ≡ [] → events_from state (text_lines text) ≡ leaves (length state.containers)
unfolding events_from text_lines
lines_none state text e = ap (λ (t : List ℕ). events_from state (text_lines t)) e

-- no line is left
pub events_none : (before : Unread) → before.text ≡ [] → events_of before ≡ leaves (length before.state.containers)
unfolding events_of
events_none before e = lines_none before.state before.text e

-- a text without bytes is the empty one
pub is_none : (text : List ℕ) → (length text == 0) ≡ true → text ≡ []
is_none [] e = refl
is_none (b ∷ bs) e = absurd (grind (arith, nat_tests))
