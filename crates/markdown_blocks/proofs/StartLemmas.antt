-- What a leaf takes from the front of a line is blanks and signs; and which lines are markup alone.
use Rattle.std.proofs.Common.{◌≡◌, ℕ, ◌==◌, Bool, true, false, cond, eqb, not, nat_lt, ◌||◌, ◌&&◌, List, drop, length, Option, Some, None, refl, ap, sym, ◌∙◌}
use Rattle.std.specs.List.{list_any}
use Rattle.std.proofs.lemmas.Bool.{and_parts, eqb-true}
use Rattle.markdown_html.specs.Starts.{html_start}
use Rattle.markdown_html.specs.Ends.{ends_html}
use Rattle.markdown_html.specs.declared.starts.Ending.{Ending}
use Rattle.markdown_marks.specs.Bytes.{count_in_front, ends_sign, first, is_blank, without_blanks}
use Rattle.markdown_marks.specs.Marks.{fence_of, fence_start, heading_level, is_rule, level_of, underline_level}
use Rattle.markdown_marks.specs.Remaining.{Remaining, columns_in_front, skip, take_columns}
use Rattle.markdown_marks.specs.Tables.{delimited_columns}
use Rattle.markdown_marks.specs.declared.marks.Fence.{Fence}
use Rattle.markdown_blocks.specs.Leaves.{Beginning, begins, closes_fence, code_start, deed_at, ends_by_blank, going_on, html_going, joins, joins_or, leaf_start, mark_start, or_fence, or_html, or_rule, or_underline, rule_start, underline_start, unindented, words_deed}
use Rattle.markdown_blocks.specs.declared.leaves.Leaf.{Leaf}
use Rattle.markdown_blocks.specs.declared.leaves.Leaf.TheVariants.{Nothing, Bare, Paragraph, Indented, Fenced, Html, Table}
use Rattle.markdown_blocks.specs.declared.leaves.Joining.{Joining}
use Rattle.markdown_blocks.specs.declared.leaves.Joining.TheVariants.{Apart, Lazily, Fully, InTable}
use Rattle.markdown_blocks.specs.declared.leaves.Start.{Start}
use Rattle.markdown_blocks.specs.declared.leaves.Start.TheVariants.{Blank, Code, Heading, Fence as FenceStart, Html as HtmlStart, Underline, Rule, Words}
use Rattle.markdown_blocks.specs.declared.leaves.Going.{Going}
use Rattle.markdown_blocks.specs.declared.leaves.Going.TheVariants.{No, On, Last, Ends}
use Rattle.markdown_blocks.specs.declared.leaves.Deed.{Deed}
use Rattle.markdown_blocks.specs.declared.leaves.Deed.TheVariants.{Begins, Html as HtmlLine, GoesOn, Tabulates}
use Rattle.markdown_blocks.specs.KeptLines.{IsEndOf, IsMarkupAlone, is_markup}
use Rattle.markdown_blocks.proofs.FrontLemmas.{blanks_end, by_cond, end_same, end_then, run_end, take_end}

-- ---- what begins

abbrev GivesLevel : List ℕ → Option ℕ → Type 0
GivesLevel bytes None = Unit {0}
GivesLevel bytes (Some level) = IsEndOf bytes (drop level bytes)

level_end : (bytes : List ℕ) → GivesLevel bytes (heading_level bytes)
unfolding heading_level count_in_front
level_end bytes = by_cond (GivesLevel bytes) _ None (Some (count_in_front 35 bytes)) (λ h. tt) (λ h. run_end 35 bytes refl)

abbrev GivesFence : List ℕ → Option Fence → Type 0
GivesFence bytes None = Unit {0}
GivesFence bytes (Some fence) = IsEndOf bytes (drop fence.length bytes)

by_sign : {A : Type 0} (p s q r : Bool) → (not (p || s) || q || r) ≡ false → (p ≡ true → A) → (s ≡ true → A) → A
by_sign true s q r h f g = f refl
by_sign false true q r h f g = g refl
by_sign false false q r h f g = let e : true ≡ false = h in absurd (cc)

fence_sign : (sign : ℕ) (q r : Bool) → (not (eqb sign 96 || eqb sign 126) || q || r) ≡ false → is_markup sign ≡ true
fence_sign sign q r h = by_sign (eqb sign 96) (eqb sign 126) q r h (λ k. ap is_markup (eqb-true sign 96 k)) (λ k. ap is_markup (eqb-true sign 126 k))

fence_end : (bytes : List ℕ) → GivesFence bytes (fence_start bytes)
unfolding fence_start count_in_front
fence_end bytes =
    let sign = first bytes in
    let len = count_in_front sign bytes in
    by_cond (GivesFence bytes) (not (eqb sign 96 || eqb sign 126) || nat_lt len 3 || (eqb sign 96 && list_any (λ b. eqb b 96) (drop len bytes))) None (Some (record { sign = sign; length = len })) (λ h. tt)
    (λ h. run_end sign bytes (fence_sign sign (nat_lt len 3) (eqb sign 96 && list_any (λ b. eqb b 96) (drop len bytes)) h))

-- what a start says of its text
abbrev StartIs : Start → Remaining → Type 0
StartIs Blank text = is_blank text.bytes ≡ true
StartIs (Underline level) text = underline_level text.bytes ≡ Some level
StartIs Rule text = is_rule text.bytes ≡ true
StartIs _ text = Unit {0}

-- a beginning of what is left: its text is an end of it, and the start says what it is
pub record IsBegun (bytes : List ℕ) (b : Beginning) : Type 0 where
  pub text : IsEndOf bytes b.text.bytes
  pub start : StartIs b.start b.text

rule_begun : (bytes : List ℕ) (rest : Remaining) → IsEndOf bytes rest.bytes → IsBegun bytes (rule_start rest)
rule_begun bytes rest h =
    by_cond (IsBegun bytes) (is_rule rest.bytes) (begins Rule rest) (begins Words rest) (λ k. record { text = h; start = k }) (λ k. record { text = h; start = tt })

or_rule_begun : (bytes : List ℕ) (rest : Remaining) (o : Option ℕ) → IsEndOf bytes rest.bytes → underline_level rest.bytes ≡ o → IsBegun bytes (or_rule o rest)
or_rule_begun bytes rest None h is = rule_begun bytes rest h
or_rule_begun bytes rest (Some level) h is = record { text = h; start = is }

underline_begun : (joining : Joining) (bytes : List ℕ) (rest : Remaining) → IsEndOf bytes rest.bytes → IsBegun bytes (underline_start joining rest)
underline_begun Fully bytes rest h = or_rule_begun bytes rest (underline_level rest.bytes) h refl
underline_begun Apart bytes rest h = rule_begun bytes rest h
underline_begun Lazily bytes rest h = rule_begun bytes rest h
underline_begun InTable bytes rest h = rule_begun bytes rest h

or_underline_begun : (o : Option Ending) (joining : Joining) (uncut rest : Remaining) → IsEndOf uncut.bytes rest.bytes → IsBegun uncut.bytes (or_underline o joining uncut rest)
or_underline_begun None joining uncut rest h = underline_begun joining uncut.bytes rest h
or_underline_begun (Some ending) joining uncut rest h = record { text = end_same uncut.bytes; start = tt }

or_html_begun : (o : Option Fence) (joining : Joining) (indent : ℕ) (uncut rest : Remaining) → IsEndOf uncut.bytes rest.bytes → GivesFence rest.bytes o → IsBegun uncut.bytes (or_html o joining indent uncut rest)
unfolding skip
or_html_begun None joining indent uncut rest h k = or_underline_begun (html_start (joins joining) rest.bytes) joining uncut rest h
or_html_begun (Some fence) joining indent uncut rest h k = record { text = end_then uncut.bytes rest.bytes (drop fence.length rest.bytes) h k; start = tt }

or_fence_begun : (o : Option ℕ) (joining : Joining) (indent : ℕ) (uncut rest : Remaining) → IsEndOf uncut.bytes rest.bytes → GivesLevel rest.bytes o → IsBegun uncut.bytes (or_fence o joining indent uncut rest)
unfolding skip
or_fence_begun None joining indent uncut rest h k = or_html_begun (fence_start rest.bytes) joining indent uncut rest h (fence_end rest.bytes)
or_fence_begun (Some level) joining indent uncut rest h k = record { text = end_then uncut.bytes rest.bytes (drop level rest.bytes) h k; start = tt }

mark_begun : (joining : Joining) (indent : ℕ) (uncut rest : Remaining) → IsEndOf uncut.bytes rest.bytes → IsBegun uncut.bytes (mark_start joining indent uncut rest)
unfolding mark_start
mark_begun joining indent uncut rest h = or_fence_begun (heading_level rest.bytes) joining indent uncut rest h (level_end rest.bytes)

code_end : (joining : Joining) (rest : Remaining) → IsEndOf rest.bytes (code_start joining rest).text.bytes
unfolding without_blanks
code_end joining rest = by_cond (λ (r : Remaining). IsEndOf rest.bytes r.bytes) (joins joining) (unindented rest) (take_columns 4 rest) (λ h. blanks_end rest.bytes) (λ h. take_end 4 rest)

-- what the rest of a line begins as is such a beginning
pub leaf_begun : (joining : Joining) (rest : Remaining) → IsBegun rest.bytes (leaf_start joining rest)
unfolding leaf_start
leaf_begun joining rest =
    let indent = columns_in_front 4 rest in
    by_cond (IsBegun rest.bytes) (is_blank rest.bytes) (begins Blank rest) _ (λ h. record { text = end_same rest.bytes; start = h })
    (λ h. by_cond (IsBegun rest.bytes) (eqb indent 4) (code_start joining rest) (mark_start joining indent rest (take_columns 4 rest)) (λ k. record { text = code_end joining rest; start = tt })
    (λ k. mark_begun joining indent rest (take_columns 4 rest) (take_end 4 rest)))

-- ---- what is done

words_alone : (joining : Joining) (cells : ℕ) (text : Remaining) → IsMarkupAlone (words_deed joining cells text) text
words_alone Apart cells text = tt
words_alone Lazily cells text = tt
words_alone Fully cells text =
    by_cond (λ (d : Deed). IsMarkupAlone d text) (not (eqb cells 0) && eqb (delimited_columns text.bytes) cells) (Tabulates cells) GoesOn
    (λ h. eqb-true (delimited_columns text.bytes) cells (and_parts (not (eqb cells 0)) (eqb (delimited_columns text.bytes) cells) h).1) (λ h. tt)
words_alone InTable cells text = tt

-- a line that no leaf keeps is markup alone
pub deed_alone : (joining : Joining) (cells : ℕ) (text : Remaining) (start : Start) → StartIs start text → IsMarkupAlone (deed_at joining cells text start) text
deed_alone joining cells text Blank h = h
deed_alone joining cells text Code h = by_cond (λ (d : Deed). IsMarkupAlone d text) (joins joining) GoesOn (Begins Indented) (λ k. tt) (λ k. tt)
deed_alone joining cells text (Heading level) h = tt
deed_alone joining cells text (FenceStart sign length indent) h = tt
deed_alone joining cells text (HtmlStart ending ends) h = by_cond (λ (d : Deed). IsMarkupAlone d text) ends HtmlLine (Begins (Html ending)) (λ k. tt) (λ k. tt)
deed_alone joining cells text (Underline level) h = h
deed_alone joining cells text Rule h = h
deed_alone joining cells text Words h = words_alone joining cells text

-- ---- the open leaf

-- a line that ends the open leaf is the end of a fence
abbrev pub MayEnd : Remaining → Going → Type 0
MayEnd rest Ends = (sign : ℕ) × (length : ℕ) × (closes_fence sign length rest ≡ true)
MayEnd rest _ = Unit {0}

html_may : (ending : Ending) (rest : Remaining) → MayEnd rest (html_going ending rest)
html_may ending rest =
    by_cond (MayEnd rest) (ends_by_blank ending) (cond (is_blank rest.bytes) No On) _ (λ h. by_cond (MayEnd rest) (is_blank rest.bytes) No On (λ k. tt) (λ k. tt))
    (λ h. by_cond (MayEnd rest) (ends_html ending rest.bytes) Last On (λ k. tt) (λ k. tt))

-- the open leaf takes a line as its end only so
pub going_may : (leaf : Leaf) (rest : Remaining) → MayEnd rest (going_on leaf rest)
unfolding going_on
going_may (Fenced sign length indent) rest = by_cond (MayEnd rest) (closes_fence sign length rest) Ends On (λ h. (sign, length, h)) (λ h. tt)
going_may Indented rest = by_cond (MayEnd rest) _ On No (λ h. tt) (λ h. tt)
going_may (Html ending) rest = html_may ending rest
going_may Nothing rest = tt
going_may Bare rest = tt
going_may Paragraph rest = tt
going_may Table rest = tt
