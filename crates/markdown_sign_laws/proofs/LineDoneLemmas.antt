-- One line: what is in front of its text, by what it does.
use Rattle.std.proofs.Common.{◌≡◌, ◌⊎◌, inl, inr, ℕ, ◌-◌, ◌==◌, Bool, true, false, cond, not, ◌||◌, ◌&&◌, List, length, refl, sym, subst}
use Rattle.markdown_html.specs.Ends.{ends_html}
use Rattle.markdown_marks.specs.Bytes.{is_blank}
use Rattle.markdown_marks.specs.Remaining.{Remaining, columns_in_front, take_columns, whole}
use Rattle.markdown_blocks.specs.Containers.{Matched, Opens, matched, opened}
use Rattle.markdown_blocks.specs.Leaves.{closes_fence, ends_by_blank, going_on, is_bare, is_paragraph, is_table, margin, only_defines}
use Rattle.markdown_blocks.specs.Steps.{State, Step, begun_line, line_done, line_step, matched_line, step}
use Rattle.markdown_blocks.specs.declared.leaves.Deed.{Deed}
use Rattle.markdown_blocks.specs.declared.leaves.Deed.TheVariants.{Blank as BlankLine, Begins, Html as HtmlLine, GoesOn, Closes, Underlines, Tabulates, Heading as HeadingLine, Rule as RuleLine}
use Rattle.markdown_blocks.specs.declared.leaves.Leaf.{Leaf}
use Rattle.markdown_blocks.specs.declared.leaves.Leaf.TheVariants.{Nothing, Bare, Paragraph, Indented, Fenced, Html, Table}
use Rattle.markdown_sign_laws.specs.AllLines.{IsBehindSigns}
use Rattle.markdown_sign_laws.proofs.LineSignLemmas.{by_cond, matched_signs, opened_none, opened_signs, signs_any, signs_then, take_signs}
use Rattle.markdown_sign_laws.proofs.LineStartLemmas.{InFront, IsDone, OpenFence, Says, leaf_says}

-- ---- fences

fence_of_sign : (sign : ℕ) (A B : Type 0) → ((sign ≡ 96) × A) ⊎ ((sign ≡ 126) × B) → (sign ≡ 96) ⊎ (sign ≡ 126)
fence_of_sign sign A B (inl h) = inl h.0
fence_of_sign sign A B (inr h) = inr h.0

begun_fence : (leaf : Leaf) (line : List ℕ) (text : Remaining) → IsDone (Begins leaf) line text → OpenFence leaf
begun_fence (Fenced sign length indent) line text h = record { of_sign = fence_of_sign sign _ _ h.fence.of_sign; enough = h.fence.enough }
begun_fence Nothing line text h = tt
begun_fence Bare line text h = tt
begun_fence Paragraph line text h = tt
begun_fence Indented line text h = tt
begun_fence (Html ending) line text h = tt
begun_fence Table line text h = tt

bare_fence : (t : Bool) → OpenFence (cond t Bare Nothing)
bare_fence true = tt
bare_fence false = tt

-- ---- a step

-- what a line says, and code between fences that is open behind it has a fence
pub record SaysLine (leaf : Leaf) (line : List ℕ) (done : Step) : Type 0 where
  pub says : Says leaf line done.line.deed done.line.text
  pub fenced : OpenFence done.state.leaf

done_open : (state : State) (line : List ℕ) (n : ℕ) (opens : Opens) (deed : Deed) (text : Remaining) → OpenFence state.leaf → IsDone deed line text → OpenFence (line_done state n opens deed text).state.leaf
done_open state line n opens BlankLine text h k = bare_fence _
done_open state line n opens (Begins leaf) text h k = begun_fence leaf line text k
done_open state line n opens HtmlLine text h k = tt
done_open state line n opens GoesOn text h k = h
done_open state line n opens Closes text h k = tt
done_open state line n opens (Underlines level) text h k = tt
done_open state line n opens (Tabulates columns) text h k = tt
done_open state line n opens (HeadingLine level) text h k = tt
done_open state line n opens RuleLine text h k = tt

-- where no container begins no sign of an item is in front; where one does, the line is apart
in_front_by : (none table paragraph joins all : Bool) (line bytes : List ℕ) → (none ≡ true → IsBehindSigns false line bytes) → IsBehindSigns true line bytes → InFront (table && none && all) (paragraph && none && joins) line bytes
in_front_by true table paragraph joins all line bytes f g = signs_any _ line bytes (f refl)
in_front_by false true true joins all line bytes f g = g
in_front_by false true false joins all line bytes f g = g
in_front_by false false true joins all line bytes f g = g
in_front_by false false false joins all line bytes f g = g

first_of : (p q : Bool) → (p && q) ≡ true → p ≡ true
first_of true q h = refl
first_of false q h = h

behind_paragraph : (paragraph none joins : Bool) → (paragraph && none && joins) ≡ true → paragraph ≡ true
behind_paragraph paragraph none joins h = first_of paragraph none (first_of (paragraph && none) joins h)

begun_says : (state : State) (line : List ℕ) (found : Matched) → OpenFence state.leaf → IsBehindSigns false line found.rest.bytes → SaysLine state.leaf line (begun_line state found)
unfolding begun_line
begun_says state line found fenced h =
    let all = found.count == length state.containers in
    let room = 64 - found.count in
    let in_paragraph = is_paragraph state.leaf && all in
    let opens = opened room in_paragraph found.rest in
    let none = length opens.containers == 0 in
    let joins = not (only_defines state.defining all opens.rest) in
    let row = is_table state.leaf && none && all in
    let may = is_paragraph state.leaf && none && joins in
    let front : InFront row may line opens.rest.bytes =
    in_front_by none (is_table state.leaf) (is_paragraph state.leaf) joins all line opens.rest.bytes
    (λ e. subst (λ (r : Remaining). IsBehindSigns false line r.bytes) (sym (opened_none room in_paragraph found.rest e)) h)
    (signs_then true line found.rest.bytes opens.rest.bytes (signs_any true line found.rest.bytes h) (opened_signs room in_paragraph found.rest)) in
    let says = leaf_says row may all state.leaf state.cells line opens.rest (behind_paragraph (is_paragraph state.leaf) none joins) front in
    record { says = says; fenced = done_open state line found.count opens _ _ fenced says.front }

-- a line that the open leaf takes unseen
taken_on : (state : State) (line : List ℕ) (found : Matched) → IsBehindSigns false line found.rest.bytes → Says state.leaf line GoesOn (take_columns (margin state.leaf) found.rest)
taken_on state line found h = record { front = signs_then false line found.rest.bytes (take_columns (margin state.leaf) found.rest).bytes h (take_signs (margin state.leaf) found.rest); ends = tt; under = tt }

going_says : (leaf : Leaf) (state : State) (line : List ℕ) (found : Matched) → OpenFence leaf → OpenFence state.leaf → IsBehindSigns false line found.rest.bytes → SaysLine state.leaf line (matched_line (going_on leaf found.rest) state found)
unfolding going_on
going_says (Fenced sign length indent) state line found fence fenced h =
    by_cond (λ g. SaysLine state.leaf line (matched_line g state found)) (closes_fence sign length found.rest) _ _ (λ k. record { says = record { front = h; ends = (sign, length, fence, k); under = tt }; fenced = tt })
    (λ k. record { says = taken_on state line found h; fenced = fenced })
going_says Indented state line found fence fenced h =
    by_cond (λ g. SaysLine state.leaf line (matched_line g state found)) (is_blank found.rest.bytes || (columns_in_front 4 found.rest == 4)) _ _ (λ k. record { says = taken_on state line found h; fenced = fenced })
    (λ k. begun_says state line found fenced h)
going_says (Html ending) state line found fence fenced h =
    by_cond (λ g. SaysLine state.leaf line (matched_line g state found)) (ends_by_blank ending) _ _
    (λ b. by_cond (λ g. SaysLine state.leaf line (matched_line g state found)) (is_blank found.rest.bytes) _ _ (λ k. begun_says state line found fenced h) (λ k. record { says = taken_on state line found h; fenced = fenced }))
    (λ b. by_cond (λ g. SaysLine state.leaf line (matched_line g state found)) (ends_html ending found.rest.bytes) _ _ (λ k. record { says = taken_on state line found h; fenced = tt }) (λ k. record { says = taken_on state line found h; fenced = fenced }))
going_says Nothing state line found fence fenced h = begun_says state line found fenced h
going_says Bare state line found fence fenced h = begun_says state line found fenced h
going_says Paragraph state line found fence fenced h = begun_says state line found fenced h
going_says Table state line found fence fenced h = begun_says state line found fenced h

-- so it is of each line
pub step_says : (state : State) (line : List ℕ) → OpenFence state.leaf → SaysLine state.leaf line (step state line)
unfolding step line_step
step_says state line fenced =
    let found = matched (is_bare state.leaf) state.containers (whole line) in
    let h = matched_signs (is_bare state.leaf) state.containers (whole line) in
    by_cond (SaysLine state.leaf line) (found.count == length state.containers) (matched_line (going_on state.leaf found.rest) state found) (begun_line state found)
    (λ k. going_says state.leaf state line found fenced fenced h) (λ k. begun_says state line found fenced h)
