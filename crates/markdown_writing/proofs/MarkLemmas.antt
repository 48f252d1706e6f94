-- Headings and thematic breaks that were written.
use Rattle.std.proofs.Common.{◌≡◌, ℕ, zero, suc, ◌<◌, ◌≤◌, Bool, true, false, ◌||◌, ◌==◌, List, [], ◌∷◌, ◌++◌, length, drop, replicate, Some, refl, ap, ◌∙◌, arith}
use Rattle.std.proofs.lemmas.Bool.Decides.{nat_tests}
use Rattle.markdown_marks.specs.Bytes.{count_in_front, ends_sign, is_blank}
use Rattle.markdown_marks.specs.Headings.{heading_text}
use Rattle.markdown_marks.specs.Marks.{fence_start, heading_level, is_rule}
use Rattle.markdown_marks.specs.Remaining.{Remaining, columns_in_front, one_column, skip, take_columns, whole}
use Rattle.markdown_html.specs.Starts.{html_start}
use Rattle.markdown_blocks.specs.Containers.{container_start, ends_in_item, matched, opened}
use Rattle.markdown_blocks.specs.Leaves.{going_on, leaf_start, mark_start}
use Rattle.markdown_blocks.specs.Steps.{begun_line, line_step, step}
use Rattle.markdown_blocks.specs.declared.leaves.Deed.TheVariants.{Heading as HeadingDeed, Rule as RuleDeed}
use Rattle.markdown_blocks.specs.declared.leaves.Leaf.TheVariants.{Nothing as NothingLeaf}
use Rattle.markdown_leaves.specs.Gather.{Gathering, closed, heading_line, line_done}
use Rattle.markdown_leaves.specs.Parts.{PartContent, block}
use Rattle.markdown_leaves.specs.declared.parts.Kind.{Kind}
use Rattle.markdown_leaves.specs.declared.parts.Kind.TheVariants.{Heading, Rule}
use Rattle.markdown_laws.proofs.LineLemmas.{state_with}
use Rattle.markdown_part_laws.proofs.ParagraphLemmas.{after_line, outside_of}
use Rattle.markdown_part_laws.proofs.TextLemmas.{done_at}
use Rattle.markdown_writing.specs.Pages.{stars}
use Rattle.markdown_writing.proofs.ParagraphLemmas.{line_went, told_of}
use Rattle.markdown_writing.proofs.WordLemmas.{BeginsWords, EndsFull, heading_words}

-- a leaf of one line
abbrev pub one_line : Kind → Bool → Remaining → PartContent
one_line kind apart line = block (record { kind = kind; apart = apart; lines = line ∷ [] })

-- ---- a heading

not_none : (n : ℕ) → (suc n == 0) ≡ false
not_none n = grind (arith, nat_tests)

blank_ends : (bs : List ℕ) → ends_sign (32 ∷ bs) ≡ true
blank_ends bs = ap (λ (t : Bool). t || true) (not_none (length bs))

-- the line that so many signs # and these words make
abbrev headed : ℕ → List ℕ → List ℕ
headed level bytes = replicate level 35 ++ 32 ∷ bytes

-- a heading has this level, and what is behind its signs is the blank and the words
record HasLevel (level : ℕ) (bytes : List ℕ) : Type 0 where
  start : heading_level (headed level bytes) ≡ Some level
  behind : drop level (headed level bytes) ≡ 32 ∷ bytes

has_level : (level : ℕ) (bytes : List ℕ) → 0 < level → level ≤ 6 → HasLevel level bytes
unfolding heading_level count_in_front
has_level zero bytes some few = absurd (omega (arith, some))
has_level (suc zero) bytes some few = record { start = rw (blank_ends bytes) refl; behind = refl }
has_level (suc (suc zero)) bytes some few = record { start = rw (blank_ends bytes) refl; behind = refl }
has_level (suc (suc (suc zero))) bytes some few = record { start = rw (blank_ends bytes) refl; behind = refl }
has_level (suc (suc (suc (suc zero)))) bytes some few = record { start = rw (blank_ends bytes) refl; behind = refl }
has_level (suc (suc (suc (suc (suc zero))))) bytes some few = record { start = rw (blank_ends bytes) refl; behind = refl }
has_level (suc (suc (suc (suc (suc (suc zero)))))) bytes some few = record { start = rw (blank_ends bytes) refl; behind = refl }
has_level (suc (suc (suc (suc (suc (suc (suc n))))))) bytes some few = absurd (omega (arith, few))

signs_step : (level : ℕ) (bs : List ℕ) → heading_level (35 ∷ bs) ≡ Some level → step (state_with NothingLeaf 0) (35 ∷ bs) ≡ done_at NothingLeaf 0 (HeadingDeed level) (skip level (whole (35 ∷ bs)))
unfolding step line_step begun_line matched opened going_on ends_in_item container_start leaf_start mark_start columns_in_front take_columns one_column is_blank is_rule
signs_step level bs e = rw e refl

heading_step : (level : ℕ) (bytes : List ℕ) → 0 < level → heading_level (headed level bytes) ≡ Some level
    → step (state_with NothingLeaf 0) (headed level bytes) ≡ done_at NothingLeaf 0 (HeadingDeed level) (skip level (whole (headed level bytes)))
heading_step zero bytes some e = absurd (omega (arith, some))
heading_step (suc n) bytes some e = signs_step (suc n) (replicate n 35 ++ 32 ∷ bytes) e

heading_line_is : (level : ℕ) (line bytes : List ℕ) → drop level line ≡ 32 ∷ bytes → heading_text (32 ∷ bytes) ≡ bytes → heading_line (skip level (whole line)) ≡ record (heading_line (skip level (whole line))) { bytes = bytes }
unfolding skip
heading_line_is level line bytes e h = ap (λ (bs : List ℕ). record (heading_line (skip level (whole line))) { bytes = bs }) (ap heading_text e ∙ h)

-- the text of a heading, at the column behind its signs
abbrev pub heading_at : ℕ → List ℕ → Remaining
heading_at column bytes = record { column = column; pending = 0; bytes = bytes }

heading_after : (level : ℕ) (text line : Remaining) (parts : List PartContent) (apart passed : Bool) → heading_line text ≡ line
    → after_line (HeadingDeed level) text (outside_of parts apart passed) ≡ outside_of (parts ++ one_line (Heading level) passed line ∷ []) passed false
unfolding line_done closed
heading_after level text line parts apart passed e = ap (λ (r : Remaining). outside_of (parts ++ one_line (Heading level) passed r ∷ []) passed false) e

-- a heading is its line
pub heading_told : (level : ℕ) (bytes : List ℕ) → 0 < level → level ≤ 6 → BeginsWords bytes → EndsFull bytes
    → (column : ℕ) × ((parts : List PartContent) (apart passed : Bool) (lines : List (List ℕ))
    → told_of (outside_of parts apart passed) (headed level bytes ∷ lines) ≡ told_of (outside_of (parts ++ one_line (Heading level) passed (heading_at column bytes) ∷ []) passed false) lines)
unfolding skip
heading_told level bytes some few begins ends =
    let line = headed level bytes in
    let text = skip level (whole line) in
    let has = has_level level bytes some few in (
      text.column,
      λ parts apart passed lines.
          line_went (outside_of parts apart passed) NothingLeaf NothingLeaf 0 0 (HeadingDeed level) text line lines (heading_step level bytes some has.start)
          ∙ ap (λ (g : Gathering). told_of g lines) (heading_after level text (heading_at text.column bytes) parts apart passed (heading_line_is level line bytes has.behind (heading_words bytes begins ends))),
    )

-- ---- a thematic break

stars_step : step (state_with NothingLeaf 0) stars ≡ done_at NothingLeaf 0 RuleDeed (whole stars)
unfolding step line_step begun_line matched opened going_on ends_in_item container_start leaf_start mark_start columns_in_front take_columns one_column is_blank is_rule heading_level count_in_front fence_start html_start
stars_step = refl

break_after : (parts : List PartContent) (apart passed : Bool) → after_line RuleDeed (whole stars) (outside_of parts apart passed) ≡ outside_of (parts ++ one_line Rule passed (whole stars) ∷ []) passed false
unfolding line_done closed
break_after parts apart passed = refl

-- a thematic break is its line
pub break_told : (parts : List PartContent) (apart passed : Bool) (lines : List (List ℕ))
    → told_of (outside_of parts apart passed) (stars ∷ lines) ≡ told_of (outside_of (parts ++ one_line Rule passed (whole stars) ∷ []) passed false) lines
break_told parts apart passed lines =
    line_went (outside_of parts apart passed) NothingLeaf NothingLeaf 0 0 RuleDeed (whole stars) stars lines stars_step ∙ ap (λ (g : Gathering). told_of g lines) (break_after parts apart passed)
