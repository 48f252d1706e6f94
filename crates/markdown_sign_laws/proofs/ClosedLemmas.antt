-- Behind a blank line no paragraph is open.
use Rattle.std.proofs.Common.{◌≡◌, ℕ, Bool, true, false, cond, ◌==◌, List, [], ◌∷◌, ◌++◌, length, refl, sym, ap, ◌∙◌}
use Rattle.markdown_marks.specs.Bytes.{is_blank}
use Rattle.markdown_marks.specs.Remaining.{Remaining, whole}
use Rattle.markdown_html.specs.Ends.{ends_html}
use Rattle.markdown_blocks.specs.Containers.{Matched, ends_in_item, matched}
use Rattle.markdown_blocks.specs.Leaves.{closes_fence, ends_by_blank, going_on, is_bare, is_paragraph}
use Rattle.markdown_blocks.specs.Steps.{State, Step, begun_line, line_done, line_step, matched_line, step}
use Rattle.markdown_blocks.specs.declared.leaves.Deed.TheVariants.{Blank}
use Rattle.markdown_blocks.specs.declared.leaves.Leaf.{Leaf}
use Rattle.markdown_blocks.specs.declared.leaves.Leaf.TheVariants.{Bare, Fenced as FencedLeaf, Html as HtmlLeaf, Indented as IndentedLeaf, Nothing as NothingLeaf, Paragraph as ParagraphLeaf, Table as TableLeaf}
use Rattle.markdown_laws.proofs.HeldLemmas.{behind_lines}
use Rattle.markdown_part_laws.proofs.BlankLemmas.{blank_begun, blank_matched, no_opens}
use Rattle.markdown_sign_laws.specs.Words.{are_blanks}

blank_done : (state : State) (n : ℕ) (rest : Remaining) → is_paragraph (line_done state n (no_opens rest) Blank rest).state.leaf ≡ false
unfolding ends_in_item
blank_done state n rest = refl

blank_begun_none : (state : State) (found : Matched) → is_blank found.rest.bytes ≡ true → is_paragraph (begun_line state found).state.leaf ≡ false
blank_begun_none state found h = ap (λ (s : Step). is_paragraph s.state.leaf) (blank_begun state found h) ∙ blank_done state found.count found.rest

by_test : (t : Bool) (A : Type 0) → (t ≡ true → A) → (t ≡ false → A) → A
by_test true A f g = f refl
by_test false A f g = g refl

-- what this leaf makes of a line in which all containers go on
abbrev taken_line : Leaf → State → Matched → Step
taken_line leaf state found = matched_line (going_on leaf found.rest) state found

abbrev IsNoneOpen : Step → Type 0
IsNoneOpen done = is_paragraph done.state.leaf ≡ false

taken_none : (leaf : Leaf) (state : State) (found : Matched) → leaf ≡ state.leaf → is_blank found.rest.bytes ≡ true → IsNoneOpen (taken_line leaf state found)
unfolding going_on
taken_none ParagraphLeaf state found e h = blank_begun_none state found h
taken_none NothingLeaf state found e h = blank_begun_none state found h
taken_none Bare state found e h = blank_begun_none state found h
taken_none TableLeaf state found e h = blank_begun_none state found h
taken_none IndentedLeaf state found e h = rw h (ap is_paragraph (sym e))
taken_none (FencedLeaf sign length indent) state found e h =
    by_test (closes_fence sign length found.rest) (IsNoneOpen (taken_line (FencedLeaf sign length indent) state found)) (λ c. rw c refl) (λ c. rw c (ap is_paragraph (sym e)))
taken_none (HtmlLeaf ending) state found e h =
    by_test (ends_by_blank ending) (IsNoneOpen (taken_line (HtmlLeaf ending) state found))
    (λ b. rw b (rw h (blank_begun_none state found h)))
    (λ b. by_test (ends_html ending found.rest.bytes) (IsNoneOpen (taken_line (HtmlLeaf ending) state found)) (λ c. rw b (rw c refl)) (λ c. rw b (rw c (ap is_paragraph (sym e)))))

either_none : (t : Bool) (x y : Step) → is_paragraph x.state.leaf ≡ false → is_paragraph y.state.leaf ≡ false → is_paragraph (cond t x y).state.leaf ≡ false
either_none true x y f g = f
either_none false x y f g = g

all_blank : (line : List ℕ) → are_blanks line ≡ true → is_blank (whole line).bytes ≡ true
unfolding is_blank
all_blank line h = h

blank_none : (state : State) (line : List ℕ) → are_blanks line ≡ true → is_paragraph (step state line).state.leaf ≡ false
unfolding step line_step
blank_none state line h =
    let found = matched (is_bare state.leaf) state.containers (whole line) in
    let blank : is_blank found.rest.bytes ≡ true = blank_matched (is_bare state.leaf) state.containers (whole line) (all_blank line h) in
    either_none (found.count == length state.containers) (matched_line (going_on state.leaf found.rest) state found) (begun_line state found) (taken_none state.leaf state found refl blank) (blank_begun_none state found blank)

behind_more : (lines : List (List ℕ)) (text : List ℕ) (state : State) → behind_lines state (lines ++ text ∷ []) ≡ (step (behind_lines state lines) text).state
behind_more [] text state = refl
behind_more (one ∷ lines) text state = behind_more lines text (step state one).state

-- no paragraph is open behind lines of which the last is blank
pub none_open : (lines : List (List ℕ)) (line : List ℕ) (state : State) → are_blanks line ≡ true → is_paragraph (behind_lines state (lines ++ line ∷ [])).leaf ≡ false
none_open lines line state h = ap (λ (s : State). is_paragraph s.leaf) (behind_more lines line state) ∙ blank_none (behind_lines state lines) line h
