-- Code between fences is open only behind a fence of backquotes or tildes, and only such a fence ends it.
use Rattle.std.proofs.Common.{◌≡◌, ℕ, ◌==◌, ◌-◌, Bool, true, false, cond, not, nat_lt, ◌||◌, ◌&&◌, List, drop, length, Option, Some, None, refl, ap, sym, ◌∙◌}
use Rattle.std.specs.List.{list_any}
use Rattle.markdown_html.specs.Ends.{ends_html}
use Rattle.markdown_html.specs.Starts.{html_start}
use Rattle.markdown_html.specs.declared.starts.Ending.{Ending}
use Rattle.markdown_marks.specs.Bytes.{count_in_front, first, is_blank}
use Rattle.markdown_marks.specs.Marks.{fence_start, heading_level, is_rule, underline_level}
use Rattle.markdown_marks.specs.Remaining.{Remaining, columns_in_front, take_columns, whole}
use Rattle.markdown_marks.specs.declared.marks.Fence.{Fence}
use Rattle.markdown_blocks.specs.Containers.{Matched, Opens, ends_in_item, matched, opened}
use Rattle.markdown_blocks.specs.Leaves.{Beginning, begins, closes_fence, code_start, deed_at, ends_by_blank, going_on, html_going, is_bare, is_paragraph, joins, leaf_after, leaf_start, mark_start, or_fence, or_html, or_rule, or_underline, rule_start, underline_start}
use Rattle.markdown_blocks.specs.Steps.{State, Step, begun_line, joining_after, line_done, line_step, matched_line, step}
use Rattle.markdown_blocks.specs.declared.leaves.Deed.{Deed}
use Rattle.markdown_blocks.specs.declared.leaves.Deed.TheVariants.{Blank as BlankLine, Begins, Html as HtmlLine, GoesOn, Closes, Underlines, Tabulates, Heading as HeadingLine, Rule as RuleLine}
use Rattle.markdown_blocks.specs.declared.leaves.Going.{Going}
use Rattle.markdown_blocks.specs.declared.leaves.Going.TheVariants.{No, On, Last, Ends}
use Rattle.markdown_blocks.specs.declared.leaves.Joining.{Joining}
use Rattle.markdown_blocks.specs.declared.leaves.Joining.TheVariants.{Apart, Lazily, Fully, InTable}
use Rattle.markdown_blocks.specs.declared.leaves.Leaf.{Leaf}
use Rattle.markdown_blocks.specs.declared.leaves.Leaf.TheVariants.{Nothing, Bare, Paragraph, Indented, Fenced, Html, Table}
use Rattle.markdown_blocks.specs.declared.leaves.Start.{Start}
use Rattle.markdown_blocks.specs.declared.leaves.Start.TheVariants.{Blank, Code, Heading, Fence as FenceStart, Html as HtmlStart, Underline, Rule, Words}

-- a backquote or a tilde
abbrev pub is_fence_sign : ℕ → Bool
is_fence_sign sign = (sign == 96) || (sign == 126)

-- an open fence has such a sign
abbrev pub SignOf : Leaf → Type 0
SignOf (Fenced sign length indent) = is_fence_sign sign ≡ true
SignOf _ = Unit {0}

-- a line that ends code is a fence of such a sign
abbrev pub IsClosed : Deed → Remaining → Type 0
IsClosed Closes text = (sign : ℕ) × (length : ℕ) × (is_fence_sign sign ≡ true) × (closes_fence sign length text ≡ true)
IsClosed _ text = Unit {0}

by_test : {X : Type 0} (P : X → Type 0) (t : Bool) (x y : X) → (t ≡ true → P x) → (t ≡ false → P y) → P (cond t x y)
by_test P true x y f g = f refl
by_test P false x y f g = g refl

-- ---- what begins

abbrev SignAt : Start → Type 0
SignAt (FenceStart sign length indent) = is_fence_sign sign ≡ true
SignAt _ = Unit {0}

abbrev SignFound : Option Fence → Type 0
SignFound None = Unit {0}
SignFound (Some fence) = is_fence_sign fence.sign ≡ true

kept_sign : (p q r : Bool) → (not p || q || r) ≡ false → p ≡ true
kept_sign true q r h = refl
kept_sign false q r h = let other : true ≡ false = h in absurd (cc)

fence_found : (bytes : List ℕ) → SignFound (fence_start bytes)
unfolding fence_start count_in_front
fence_found bytes =
    let sign = first bytes in
    let len = count_in_front sign bytes in
    by_test SignFound (not (is_fence_sign sign) || nat_lt len 3 || ((sign == 96) && list_any (λ b. b == 96) (drop len bytes))) None (Some (record { sign = sign; length = len })) (λ h. tt)
    (λ h. kept_sign (is_fence_sign sign) (nat_lt len 3) ((sign == 96) && list_any (λ b. b == 96) (drop len bytes)) h)

rule_sign : (rest : Remaining) → SignAt (rule_start rest).start
rule_sign rest = by_test (λ (b : Beginning). SignAt b.start) (is_rule rest.bytes) (begins Rule rest) (begins Words rest) (λ h. tt) (λ h. tt)

or_rule_sign : (o : Option ℕ) (rest : Remaining) → SignAt (or_rule o rest).start
or_rule_sign None rest = rule_sign rest
or_rule_sign (Some level) rest = tt

underline_sign : (joining : Joining) (rest : Remaining) → SignAt (underline_start joining rest).start
underline_sign Fully rest = or_rule_sign (underline_level rest.bytes) rest
underline_sign Apart rest = rule_sign rest
underline_sign Lazily rest = rule_sign rest
underline_sign InTable rest = rule_sign rest

or_underline_sign : (o : Option Ending) (joining : Joining) (uncut rest : Remaining) → SignAt (or_underline o joining uncut rest).start
or_underline_sign None joining uncut rest = underline_sign joining rest
or_underline_sign (Some ending) joining uncut rest = tt

or_html_sign : (o : Option Fence) (joining : Joining) (indent : ℕ) (uncut rest : Remaining) → SignFound o → SignAt (or_html o joining indent uncut rest).start
or_html_sign None joining indent uncut rest h = or_underline_sign (html_start (joins joining) rest.bytes) joining uncut rest
or_html_sign (Some fence) joining indent uncut rest h = h

or_fence_sign : (o : Option ℕ) (joining : Joining) (indent : ℕ) (uncut rest : Remaining) → SignAt (or_fence o joining indent uncut rest).start
or_fence_sign None joining indent uncut rest = or_html_sign (fence_start rest.bytes) joining indent uncut rest (fence_found rest.bytes)
or_fence_sign (Some level) joining indent uncut rest = tt

start_sign : (joining : Joining) (rest : Remaining) → SignAt (leaf_start joining rest).start
unfolding leaf_start mark_start
start_sign joining rest =
    by_test (λ (b : Beginning). SignAt b.start) (is_blank rest.bytes) (begins Blank rest) _ (λ h. tt)
    (λ h. by_test (λ (b : Beginning). SignAt b.start) (columns_in_front 4 rest == 4) (code_start joining rest) (mark_start joining (columns_in_front 4 rest) rest (take_columns 4 rest)) (λ k. tt)
    (λ k. or_fence_sign (heading_level (take_columns 4 rest).bytes) joining (columns_in_front 4 rest) rest (take_columns 4 rest)))

-- ---- what is done

-- a leaf that begins has such a sign, and no line that begins something ends code
abbrev SignDone : Deed → Type 0
SignDone (Begins leaf) = SignOf leaf
SignDone Closes = ⊥
SignDone _ = Unit {0}

choice_sign : (t : Bool) (x y : Deed) → SignDone x → SignDone y → SignDone (cond t x y)
choice_sign true x y f g = f
choice_sign false x y f g = g

deed_sign : (joining : Joining) (cells : ℕ) (text : Remaining) (start : Start) → SignAt start → SignDone (deed_at joining cells text start)
deed_sign joining cells text Blank h = tt
deed_sign joining cells text Code h = choice_sign (joins joining) GoesOn (Begins Indented) tt tt
deed_sign joining cells text (Heading level) h = tt
deed_sign joining cells text (FenceStart sign length indent) h = h
deed_sign joining cells text (HtmlStart ending ends) h = choice_sign ends HtmlLine (Begins (Html ending)) tt tt
deed_sign joining cells text (Underline level) h = tt
deed_sign joining cells text Rule h = tt
deed_sign Apart cells text Words h = tt
deed_sign Lazily cells text Words h = tt
deed_sign Fully cells text Words h = choice_sign _ (Tabulates cells) GoesOn tt tt
deed_sign InTable cells text Words h = tt

bare_sign : (t : Bool) → SignOf (cond t Bare Nothing)
bare_sign true = tt
bare_sign false = tt

-- behind a line an open fence has such a sign, and a line that ended code is a fence of such a sign
pub record KeepsSign (done : Step) : Type 0 where
  pub leaf : SignOf done.state.leaf
  pub closed : IsClosed done.line.deed done.line.text

done_sign : (state : State) (n : ℕ) (opens : Opens) (deed : Deed) (text : Remaining) → SignOf state.leaf → SignDone deed → KeepsSign (line_done state n opens deed text)
done_sign state n opens BlankLine text h k = record { leaf = bare_sign _; closed = tt }
done_sign state n opens (Begins leaf) text h k = record { leaf = k; closed = tt }
done_sign state n opens HtmlLine text h k = record { leaf = tt; closed = tt }
done_sign state n opens GoesOn text h k = record { leaf = h; closed = tt }
done_sign state n opens Closes text h k = absurd k
done_sign state n opens (Underlines level) text h k = record { leaf = tt; closed = tt }
done_sign state n opens (Tabulates columns) text h k = record { leaf = tt; closed = tt }
done_sign state n opens (HeadingLine level) text h k = record { leaf = tt; closed = tt }
done_sign state n opens RuleLine text h k = record { leaf = tt; closed = tt }

begun_sign : (state : State) (found : Matched) → SignOf state.leaf → KeepsSign (begun_line state found)
unfolding begun_line
begun_sign state found h =
    let opens = opened (64 - found.count) (is_paragraph state.leaf && (found.count == length state.containers)) found.rest in
    let joining = joining_after state found.count opens in
    let begun = leaf_start joining opens.rest in
    done_sign state found.count opens (deed_at joining state.cells begun.text begun.start) begun.text h (deed_sign joining state.cells begun.text begun.start (start_sign joining opens.rest))

-- what the open leaf makes of a line that ends it
abbrev EndsBy : Remaining → Going → Type 0
EndsBy rest Ends = IsClosed Closes rest
EndsBy rest _ = Unit {0}

html_ends : (ending : Ending) (rest : Remaining) → EndsBy rest (html_going ending rest)
html_ends ending rest =
    by_test (EndsBy rest) (ends_by_blank ending) (cond (is_blank rest.bytes) No On) _ (λ h. by_test (EndsBy rest) (is_blank rest.bytes) No On (λ k. tt) (λ k. tt))
    (λ h. by_test (EndsBy rest) (ends_html ending rest.bytes) Last On (λ k. tt) (λ k. tt))

ends_by : (leaf : Leaf) (rest : Remaining) → SignOf leaf → EndsBy rest (going_on leaf rest)
unfolding going_on
ends_by (Fenced sign length indent) rest h = by_test (EndsBy rest) (closes_fence sign length rest) Ends On (λ k. (sign, length, h, k)) (λ k. tt)
ends_by Indented rest h = by_test (EndsBy rest) (is_blank rest.bytes || (columns_in_front 4 rest == 4)) On No (λ k. tt) (λ k. tt)
ends_by (Html ending) rest h = html_ends ending rest
ends_by Nothing rest h = tt
ends_by Bare rest h = tt
ends_by Paragraph rest h = tt
ends_by Table rest h = tt

going_sign : (going : Going) (state : State) (found : Matched) → SignOf state.leaf → EndsBy found.rest going → KeepsSign (matched_line going state found)
going_sign No state found h k = begun_sign state found h
going_sign On state found h k = record { leaf = h; closed = tt }
going_sign Last state found h k = record { leaf = tt; closed = tt }
going_sign Ends state found h k = record { leaf = tt; closed = k }

-- so it is behind each line
pub step_sign : (state : State) (text : List ℕ) → SignOf state.leaf → KeepsSign (step state text)
unfolding step line_step
step_sign state text h =
    let found = matched (is_bare state.leaf) state.containers (whole text) in
    by_test KeepsSign (found.count == length state.containers) (matched_line (going_on state.leaf found.rest) state found) (begun_line state found)
    (λ k. going_sign (going_on state.leaf found.rest) state found h (ends_by state.leaf found.rest h)) (λ k. begun_sign state found h)
