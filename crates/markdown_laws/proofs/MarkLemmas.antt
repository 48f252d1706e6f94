-- A heading or a thematic break is read, and then the text after it.
use Rattle.std.proofs.Common.{◌≡◌, ℕ, zero, suc, ◌<◌, Bool, true, false, ◌==◌, List, [], ◌∷◌, ◌++◌, drop, replicate, Some, None, refl, sym, ap, subst, ◌∙◌, arith}
use Rattle.std.proofs.lemmas.Bool.{eqb-true}
use Rattle.markdown_marks.specs.Bytes.{is_blank, count_in_front}
use Rattle.markdown_marks.specs.Headings.{heading_text}
use Rattle.markdown_marks.specs.Marks.{is_rule, heading_level, fence_start}
use Rattle.markdown_marks.specs.Remaining.{Remaining, whole, one_column, take_columns, columns_in_front, skip}
use Rattle.markdown_html.specs.Starts.{html_start}
use Rattle.markdown_blocks.specs.Containers.{container_start, matched, opened, ends_in_item}
use Rattle.markdown_blocks.specs.Events.{events_from}
use Rattle.markdown_blocks.specs.Leaves.{joining_of, rule_start, leaf_start, mark_start, going_on}
use Rattle.markdown_blocks.specs.Lines.{text_lines}
use Rattle.markdown_blocks.specs.Steps.{step, line_step, begun_line}
use Rattle.markdown_blocks.specs.declared.leaves.Deed.{Deed}
use Rattle.markdown_blocks.specs.declared.leaves.Deed.TheVariants.{Heading as HeadingDeed, Rule as RuleDeed}
use Rattle.markdown_blocks.specs.declared.leaves.Leaf.TheVariants.{Nothing as NothingLeaf}
use Rattle.markdown_leaves.specs.Gather.{nothing_told, closed, line_done, heading_line}
use Rattle.markdown_leaves.specs.Parts.{BlockContent, PartContent, block}
use Rattle.markdown_leaves.specs.Told.{told, parts_of}
use Rattle.markdown_leaves.specs.declared.parts.Kind.{Kind}
use Rattle.markdown_leaves.specs.declared.parts.Kind.TheVariants.{Heading, Rule}
use Rattle.markdown_laws.specs.Lines.{LinesAreAll}
use Rattle.markdown_laws.specs.Marks.{HeadingIsItsLine, BreakIsItsLine}
use Rattle.markdown_laws.proofs.LineLemmas.{state_with}
use Rattle.markdown_laws.proofs.FenceLemmas.{made, ended, nothing_open, line_read, read_of, ended_behind}

-- ---- the step of a heading

abbrev Headed : (indent b : ℕ) → List ℕ → Type 0
Headed indent b bs =
    (level : ℕ) → heading_level (b ∷ bs) ≡ Some level
    → (text : Remaining) × (text.bytes ≡ drop level (b ∷ bs)) × (step (state_with NothingLeaf 0) (replicate indent 32 ++ b ∷ bs) ≡ made NothingLeaf (HeadingDeed level) text)

signs : (indent : ℕ) (bs : List ℕ) → indent < 4 → Headed indent 35 bs
unfolding step line_step begun_line matched opened going_on ends_in_item container_start leaf_start mark_start columns_in_front take_columns one_column is_blank is_rule skip
signs zero bs few level e = (skip level (take_columns 4 (whole (35 ∷ bs))), refl, rw e refl)
signs (suc zero) bs few level e = (skip level (take_columns 4 (whole (32 ∷ 35 ∷ bs))), refl, rw e refl)
signs (suc (suc zero)) bs few level e = (skip level (take_columns 4 (whole (32 ∷ 32 ∷ 35 ∷ bs))), refl, rw e refl)
signs (suc (suc (suc zero))) bs few level e = (skip level (take_columns 4 (whole (32 ∷ 32 ∷ 32 ∷ 35 ∷ bs))), refl, rw e refl)
signs (suc (suc (suc (suc n)))) bs few level e = absurd (omega (arith, few))

no_level : (level : ℕ) → heading_level [] ≡ Some level → ⊥
unfolding heading_level count_in_front
no_level level e = let no : None ≡ Some level = e in absurd (cc)

-- a heading has a sign in front
no_signs : (b : ℕ) (bs : List ℕ) → (b == 35) ≡ false → heading_level (b ∷ bs) ≡ None
unfolding heading_level count_in_front
no_signs b bs e = rw e refl

by_sign : (t : Bool) (b indent : ℕ) (bs : List ℕ) → (b == 35) ≡ t → indent < 4 → Headed indent b bs
by_sign true b indent bs e few = subst (λ (c : ℕ). Headed indent c bs) (sym (eqb-true b 35 e)) (signs indent bs few)
by_sign false b indent bs e few = λ level some. let no : None ≡ Some level = sym (no_signs b bs e) ∙ some in absurd (cc)

-- ---- the step of a thematic break

abbrev Broken : (indent b : ℕ) → List ℕ → Type 0
Broken indent b bs = is_rule (b ∷ bs) ≡ true → (text : Remaining) × (step (state_with NothingLeaf 0) (replicate indent 32 ++ b ∷ bs) ≡ made NothingLeaf RuleDeed text)

star_no_item : (indent : ℕ) (bs : List ℕ) → indent < 4 → is_rule (42 ∷ bs) ≡ true → container_start false (whole (replicate indent 32 ++ 42 ∷ bs)) ≡ None
unfolding container_start columns_in_front take_columns one_column
star_no_item zero bs few e = rw e refl
star_no_item (suc zero) bs few e = rw e refl
star_no_item (suc (suc zero)) bs few e = rw e refl
star_no_item (suc (suc (suc zero))) bs few e = rw e refl
star_no_item (suc (suc (suc (suc n)))) bs few e = absurd (omega (arith, few))

star_begins : (indent : ℕ) (bs : List ℕ) → indent < 4
    → leaf_start (joining_of false true) (whole (replicate indent 32 ++ 42 ∷ bs)) ≡ rule_start (record (take_columns 4 (whole (replicate indent 32 ++ 42 ∷ bs))) { bytes = 42 ∷ bs })
unfolding leaf_start mark_start columns_in_front take_columns one_column is_blank heading_level count_in_front fence_start html_start
star_begins zero bs few = refl
star_begins (suc zero) bs few = refl
star_begins (suc (suc zero)) bs few = refl
star_begins (suc (suc (suc zero))) bs few = refl
star_begins (suc (suc (suc (suc n)))) bs few = absurd (omega (arith, few))

stars : (indent : ℕ) (bs : List ℕ) → indent < 4 → Broken indent 42 bs
unfolding step line_step begun_line matched opened going_on ends_in_item
stars indent bs few e =
    (record (take_columns 4 (whole (replicate indent 32 ++ 42 ∷ bs))) { bytes = 42 ∷ bs }, rw (star_no_item indent bs few e) (rw (star_begins indent bs few) (rw e refl)))

hyphen_no_item : (indent : ℕ) (bs : List ℕ) → indent < 4 → is_rule (45 ∷ bs) ≡ true → container_start false (whole (replicate indent 32 ++ 45 ∷ bs)) ≡ None
unfolding container_start columns_in_front take_columns one_column
hyphen_no_item zero bs few e = rw e refl
hyphen_no_item (suc zero) bs few e = rw e refl
hyphen_no_item (suc (suc zero)) bs few e = rw e refl
hyphen_no_item (suc (suc (suc zero))) bs few e = rw e refl
hyphen_no_item (suc (suc (suc (suc n)))) bs few e = absurd (omega (arith, few))

hyphen_begins : (indent : ℕ) (bs : List ℕ) → indent < 4
    → leaf_start (joining_of false true) (whole (replicate indent 32 ++ 45 ∷ bs)) ≡ rule_start (record (take_columns 4 (whole (replicate indent 32 ++ 45 ∷ bs))) { bytes = 45 ∷ bs })
unfolding leaf_start mark_start columns_in_front take_columns one_column is_blank heading_level count_in_front fence_start html_start
hyphen_begins zero bs few = refl
hyphen_begins (suc zero) bs few = refl
hyphen_begins (suc (suc zero)) bs few = refl
hyphen_begins (suc (suc (suc zero))) bs few = refl
hyphen_begins (suc (suc (suc (suc n)))) bs few = absurd (omega (arith, few))

hyphens : (indent : ℕ) (bs : List ℕ) → indent < 4 → Broken indent 45 bs
unfolding step line_step begun_line matched opened going_on ends_in_item
hyphens indent bs few e =
    (record (take_columns 4 (whole (replicate indent 32 ++ 45 ∷ bs))) { bytes = 45 ∷ bs }, rw (hyphen_no_item indent bs few e) (rw (hyphen_begins indent bs few) (rw e refl)))

low_no_item : (indent : ℕ) (bs : List ℕ) → indent < 4 → is_rule (95 ∷ bs) ≡ true → container_start false (whole (replicate indent 32 ++ 95 ∷ bs)) ≡ None
unfolding container_start columns_in_front take_columns one_column
low_no_item zero bs few e = rw e refl
low_no_item (suc zero) bs few e = rw e refl
low_no_item (suc (suc zero)) bs few e = rw e refl
low_no_item (suc (suc (suc zero))) bs few e = rw e refl
low_no_item (suc (suc (suc (suc n)))) bs few e = absurd (omega (arith, few))

low_begins : (indent : ℕ) (bs : List ℕ) → indent < 4
    → leaf_start (joining_of false true) (whole (replicate indent 32 ++ 95 ∷ bs)) ≡ rule_start (record (take_columns 4 (whole (replicate indent 32 ++ 95 ∷ bs))) { bytes = 95 ∷ bs })
unfolding leaf_start mark_start columns_in_front take_columns one_column is_blank heading_level count_in_front fence_start html_start
low_begins zero bs few = refl
low_begins (suc zero) bs few = refl
low_begins (suc (suc zero)) bs few = refl
low_begins (suc (suc (suc zero))) bs few = refl
low_begins (suc (suc (suc (suc n)))) bs few = absurd (omega (arith, few))

lows : (indent : ℕ) (bs : List ℕ) → indent < 4 → Broken indent 95 bs
unfolding step line_step begun_line matched opened going_on ends_in_item
lows indent bs few e =
    (record (take_columns 4 (whole (replicate indent 32 ++ 95 ∷ bs))) { bytes = 95 ∷ bs }, rw (low_no_item indent bs few e) (rw (low_begins indent bs few) (rw e refl)))

no_rule : is_rule [] ≡ true → ⊥
unfolding is_rule
no_rule e = let no : false ≡ true = e in absurd (cc)

other_sign : (b : ℕ) (bs : List ℕ) → (b == 42) ≡ false → (b == 45) ≡ false → (b == 95) ≡ false → is_rule (b ∷ bs) ≡ false
unfolding is_rule
other_sign b bs star hyphen low = rw star (rw hyphen (rw low refl))

by_mark : (s h l : Bool) (b indent : ℕ) (bs : List ℕ) → (b == 42) ≡ s → (b == 45) ≡ h → (b == 95) ≡ l → indent < 4 → Broken indent b bs
by_mark true h l b indent bs star hyphen low few = subst (λ (c : ℕ). Broken indent c bs) (sym (eqb-true b 42 star)) (stars indent bs few)
by_mark false true l b indent bs star hyphen low few = subst (λ (c : ℕ). Broken indent c bs) (sym (eqb-true b 45 hyphen)) (hyphens indent bs few)
by_mark false false true b indent bs star hyphen low few = subst (λ (c : ℕ). Broken indent c bs) (sym (eqb-true b 95 low)) (lows indent bs few)
by_mark false false false b indent bs star hyphen low few = λ rule. let no : false ≡ true = sym (other_sign b bs star hyphen low) ∙ rule in absurd (cc)

-- ---- the laws

abbrev leaf_of : Kind → Remaining → BlockContent
leaf_of kind line = record { kind = kind; apart = false; lines = line ∷ [] }

heading_told : (level : ℕ) (text : Remaining) → record (line_done (HeadingDeed level) text nothing_told) { fresh = false } ≡ nothing_open (block (leaf_of (Heading level) (heading_line text)) ∷ [])
unfolding line_done closed
heading_told level text = refl

break_told : (text : Remaining) → record (line_done RuleDeed text nothing_told) { fresh = false } ≡ nothing_open (block (leaf_of Rule text) ∷ [])
unfolding line_done closed
break_told text = refl

-- a line that is a leaf, and then another text
line_and_text : (text line after : List ℕ) (deed : Deed) (said : Remaining) (leaf : BlockContent) → text_lines text ≡ line ∷ text_lines after
    → step (state_with NothingLeaf 0) line ≡ made NothingLeaf deed said → record (line_done deed said nothing_told) { fresh = false } ≡ nothing_open (block leaf ∷ [])
    → parts_of text ≡ block leaf ∷ parts_of after
line_and_text text line after deed said leaf are stepped told =
    read_of text ∙ ap (λ (ls : List (List ℕ)). ended nothing_told (events_from (state_with NothingLeaf 0) ls)) are
    ∙ line_read nothing_told (nothing_open (block leaf ∷ [])) NothingLeaf NothingLeaf deed said line (text_lines after) stepped told
    ∙ ended_behind (block leaf ∷ []) (events_from (state_with NothingLeaf 0) (text_lines after))
    ∙ ap (λ (ps : List PartContent). block leaf ∷ ps) (sym (read_of after))

-- a heading is its line, and what comes after is a text of its own
pub heading : HeadingIsItsLine
heading text [] after indent level h some = absurd (no_level level some)
heading text (b ∷ bs) after indent level h some =
    let found = by_sign (b == 35) b indent bs refl h.few level some in
    let leaf = leaf_of (Heading level) (heading_line found.0) in (
      leaf,
      refl,
      ap (λ (bytes : List ℕ). heading_text bytes ∷ []) found.1,
      line_and_text text (replicate indent 32 ++ b ∷ bs) after (HeadingDeed level) found.0 leaf h.lines found.2 (heading_told level found.0),
    )

-- a thematic break is its line, and what comes after is a text of its own
pub thematic_break : BreakIsItsLine
thematic_break text [] after indent h rule = absurd (no_rule rule)
thematic_break text (b ∷ bs) after indent h rule =
    let found = by_mark (b == 42) (b == 45) (b == 95) b indent bs refl refl refl h.few rule in
    (leaf_of Rule found.0, refl, line_and_text text (replicate indent 32 ++ b ∷ bs) after RuleDeed found.0 (leaf_of Rule found.0) h.lines found.1 (break_told found.0))

-- texts that have the same lines have the same parts
pub same_lines : LinesAreAll
same_lines text other e = read_of text ∙ ap (λ (ls : List (List ℕ)). ended nothing_told (events_from (state_with NothingLeaf 0) ls)) e ∙ sym (read_of other)
