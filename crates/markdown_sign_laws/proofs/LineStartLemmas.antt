-- What leaves take from the front of a line: blanks, the signs # of a heading and fences.
use Rattle.std.proofs.Common.{◌≡◌, ◌⊎◌, ℕ, ◌≤◌, ◌==◌, Bool, true, false, not, ◌||◌, ◌&&◌, List, drop, length, Option, Some, None, refl}
use Rattle.markdown_html.specs.Starts.{html_start}
use Rattle.markdown_html.specs.Ends.{ends_html}
use Rattle.markdown_html.specs.declared.starts.Ending.{Ending}
use Rattle.markdown_marks.specs.Bytes.{is_blank, without_blanks}
use Rattle.markdown_marks.specs.Marks.{fence_start, heading_level, is_rule, underline_level}
use Rattle.markdown_marks.specs.Remaining.{Remaining, columns_in_front, skip, take_columns}
use Rattle.markdown_marks.specs.Tables.{delimited_columns}
use Rattle.markdown_marks.specs.declared.marks.Fence.{Fence}
use Rattle.markdown_blocks.specs.Leaves.{Beginning, closes_fence, code_start, deed_of, is_paragraph, joining_or_row, joins, leaf_start, mark_start, or_fence, or_html, or_rule, or_underline, rule_start, underline_start}
use Rattle.markdown_blocks.specs.declared.leaves.Leaf.{Leaf}
use Rattle.markdown_blocks.specs.declared.leaves.Leaf.TheVariants.{Fenced, Html}
use Rattle.markdown_blocks.specs.declared.leaves.Deed.{Deed}
use Rattle.markdown_blocks.specs.declared.leaves.Deed.TheVariants.{Blank as BlankLine, Begins, Html as HtmlLine, GoesOn, Closes, Underlines, Tabulates, Heading as HeadingLine, Rule as RuleLine}
use Rattle.markdown_sign_laws.specs.AllLines.{IsBehindSigns}
use Rattle.markdown_sign_laws.specs.Fences.{IsFence}
use Rattle.markdown_sign_laws.specs.Headings.{IsHeading}
use Rattle.markdown_sign_laws.proofs.FenceLemmas.{fences_said}
use Rattle.markdown_sign_laws.proofs.HeadingLemmas.{headings_said}
use Rattle.markdown_sign_laws.proofs.LineSignLemmas.{by_cond, signs_any, signs_blanks, signs_then, take_signs}

-- ---- what a line says

-- signs, and then a heading of this level, or a fence, behind which is this text
pub record StandsAsHeading (begun : Bool) (bytes : List ℕ) (level : ℕ) (text : Remaining) : Type 0 where
  pub rest : List ℕ
  pub front : IsBehindSigns begun bytes rest
  pub heading : IsHeading level rest
  pub left : text.bytes ≡ drop level rest

pub record StandsAsFence (begun : Bool) (bytes : List ℕ) (sign length : ℕ) (text : Remaining) : Type 0 where
  pub rest : List ℕ
  pub front : IsBehindSigns begun bytes rest
  pub fence : IsFence sign length rest
  pub left : text.bytes ≡ drop length rest

-- What a line does says what is in front of its text. Items begin only where a leaf does, or nothing is told.
abbrev pub IsDone : Deed → (line : List ℕ) → Remaining → Type 0
IsDone BlankLine line text = IsBehindSigns true line text.bytes × (is_blank text.bytes ≡ true)
IsDone (Begins (Fenced sign length indent)) line text = StandsAsFence true line sign length text
IsDone (Begins leaf) line text = IsBehindSigns true line text.bytes
IsDone HtmlLine line text = IsBehindSigns true line text.bytes
IsDone GoesOn line text = IsBehindSigns false line text.bytes
IsDone Closes line text = IsBehindSigns false line text.bytes
IsDone (Underlines level) line text = IsBehindSigns false line text.bytes × (underline_level text.bytes ≡ Some level)
IsDone (Tabulates columns) line text = IsBehindSigns false line text.bytes
IsDone (HeadingLine level) line text = StandsAsHeading true line level text
IsDone RuleLine line text = IsBehindSigns true line text.bytes

-- an open fence has three signs at least, backquotes or tildes
pub record IsFenceOf (sign length : ℕ) : Type 0 where
  pub of_sign : (sign ≡ 96) ⊎ (sign ≡ 126)
  pub enough : 3 ≤ length

abbrev pub OpenFence : Leaf → Type 0
OpenFence (Fenced sign length indent) = IsFenceOf sign length
OpenFence _ = Unit {0}

-- a line that ends code is such a fence
abbrev pub EndsFence : Deed → Remaining → Type 0
EndsFence Closes text = (sign : ℕ) × (length : ℕ) × IsFenceOf sign length × (closes_fence sign length text ≡ true)
EndsFence _ text = Unit {0}

-- only under a paragraph a line is an underline or a row of delimiters
abbrev pub OfParagraph : Leaf → Deed → Type 0
OfParagraph leaf (Underlines level) = is_paragraph leaf ≡ true
OfParagraph leaf (Tabulates columns) = is_paragraph leaf ≡ true
OfParagraph leaf _ = Unit {0}

-- what a line says that does this behind such a leaf
pub record Says (leaf : Leaf) (line : List ℕ) (deed : Deed) (text : Remaining) : Type 0 where
  pub front : IsDone deed line text
  pub ends : EndsFence deed text
  pub under : OfParagraph leaf deed

-- ---- what begins

-- so it is of what a line begins with, which may be a row of a table, or the next line of a paragraph
abbrev pub SaysSo : (row may all : Bool) (leaf : Leaf) (cells : ℕ) (line : List ℕ) → Beginning → Type 0
SaysSo row may all leaf cells line b = Says leaf line (deed_of (joining_or_row row may all) cells b) b.text

-- items may begin in a line that is neither
abbrev pub InFront : (row may : Bool) → (line bytes : List ℕ) → Type 0
InFront row may line bytes = IsBehindSigns (not (row || may)) line bytes

-- with signs of items, or without them
pub wider : (row may : Bool) (line bytes : List ℕ) → InFront row may line bytes → IsBehindSigns true line bytes
wider true may line bytes h = signs_any true line bytes h
wider false true line bytes h = signs_any true line bytes h
wider false false line bytes h = h

more : (begun : Bool) (line bytes rest : List ℕ) → IsBehindSigns begun line bytes → IsBehindSigns false bytes rest → IsBehindSigns begun line rest
more begun line bytes rest h k = signs_then begun line bytes rest h (signs_any begun bytes rest k)

-- may may be so only behind a paragraph
abbrev Behind : Bool → Leaf → Type 0
Behind may leaf = may ≡ true → is_paragraph leaf ≡ true

rule_says : (row may all : Bool) (leaf : Leaf) (cells : ℕ) (line : List ℕ) (rest : Remaining) → Behind may leaf → InFront row may line rest.bytes → SaysSo row may all leaf cells line (rule_start rest)
rule_says true may all leaf cells line rest p h =
    by_cond (SaysSo true may all leaf cells line) (is_rule rest.bytes) _ _ (λ k. record { front = wider true may line rest.bytes h; ends = tt; under = tt }) (λ k. record { front = h; ends = tt; under = tt })
rule_says false false all leaf cells line rest p h =
    by_cond (SaysSo false false all leaf cells line) (is_rule rest.bytes) _ _ (λ k. record { front = h; ends = tt; under = tt }) (λ k. record { front = h; ends = tt; under = tt })
rule_says false true false leaf cells line rest p h =
    by_cond (SaysSo false true false leaf cells line) (is_rule rest.bytes) _ _ (λ k. record { front = wider false true line rest.bytes h; ends = tt; under = tt }) (λ k. record { front = h; ends = tt; under = tt })
rule_says false true true leaf cells line rest p h =
    by_cond (SaysSo false true true leaf cells line) (is_rule rest.bytes) _ _ (λ k. record { front = wider false true line rest.bytes h; ends = tt; under = tt })
    (λ k. by_cond (λ (d : Deed). Says leaf line d rest) (not (cells == 0) && (delimited_columns rest.bytes == cells)) (Tabulates cells) GoesOn (λ t. record { front = h; ends = tt; under = p refl }) (λ t. record { front = h; ends = tt; under = tt }))

or_rule_says : (leaf : Leaf) (cells : ℕ) (line : List ℕ) (rest : Remaining) (o : Option ℕ) → Behind true leaf → InFront false true line rest.bytes → underline_level rest.bytes ≡ o → SaysSo false true true leaf cells line (or_rule o rest)
or_rule_says leaf cells line rest None p h e = rule_says false true true leaf cells line rest p h
or_rule_says leaf cells line rest (Some level) p h e = record { front = (h, e); ends = tt; under = p refl }

underline_says : (row may all : Bool) (leaf : Leaf) (cells : ℕ) (line : List ℕ) (rest : Remaining) → Behind may leaf → InFront row may line rest.bytes → SaysSo row may all leaf cells line (underline_start (joining_or_row row may all) rest)
underline_says true may all leaf cells line rest p h = rule_says true may all leaf cells line rest p h
underline_says false false all leaf cells line rest p h = rule_says false false all leaf cells line rest p h
underline_says false true false leaf cells line rest p h = rule_says false true false leaf cells line rest p h
underline_says false true true leaf cells line rest p h = or_rule_says leaf cells line rest (underline_level rest.bytes) p h refl

or_underline_says : (row may all : Bool) (leaf : Leaf) (cells : ℕ) (line : List ℕ) (uncut rest : Remaining) (o : Option Ending) → Behind may leaf → InFront row may line uncut.bytes → InFront row may line rest.bytes
    → SaysSo row may all leaf cells line (or_underline o (joining_or_row row may all) uncut rest)
or_underline_says row may all leaf cells line uncut rest None p h k = underline_says row may all leaf cells line rest p k
or_underline_says row may all leaf cells line uncut rest (Some ending) p h k =
    by_cond (λ (d : Deed). Says leaf line d uncut) (ends_html ending rest.bytes) HtmlLine (Begins (Html ending)) (λ t. record { front = wider row may line uncut.bytes h; ends = tt; under = tt }) (λ t. record { front = wider row may line uncut.bytes h; ends = tt; under = tt })

or_html_says : (row may all : Bool) (leaf : Leaf) (cells : ℕ) (line : List ℕ) (indent : ℕ) (uncut rest : Remaining) (o : Option Fence) → Behind may leaf → InFront row may line uncut.bytes → InFront row may line rest.bytes → fence_start rest.bytes ≡ o
    → SaysSo row may all leaf cells line (or_html o (joining_or_row row may all) indent uncut rest)
unfolding skip
or_html_says row may all leaf cells line indent uncut rest None p h k e = or_underline_says row may all leaf cells line uncut rest (html_start (joins (joining_or_row row may all)) rest.bytes) p h k
or_html_says row may all leaf cells line indent uncut rest (Some fence) p h k e =
    record { front = record { rest = rest.bytes; front = wider row may line rest.bytes k; fence = (fences_said fence.sign fence.length rest.bytes).0 e; left = refl }; ends = tt; under = tt }

or_fence_says : (row may all : Bool) (leaf : Leaf) (cells : ℕ) (line : List ℕ) (indent : ℕ) (uncut rest : Remaining) (o : Option ℕ) → Behind may leaf → InFront row may line uncut.bytes → InFront row may line rest.bytes → heading_level rest.bytes ≡ o
    → SaysSo row may all leaf cells line (or_fence o (joining_or_row row may all) indent uncut rest)
unfolding skip
or_fence_says row may all leaf cells line indent uncut rest None p h k e = or_html_says row may all leaf cells line indent uncut rest (fence_start rest.bytes) p h k refl
or_fence_says row may all leaf cells line indent uncut rest (Some level) p h k e =
    record { front = record { rest = rest.bytes; front = wider row may line rest.bytes k; heading = (headings_said level rest.bytes).0 e; left = refl }; ends = tt; under = tt }

mark_says : (row may all : Bool) (leaf : Leaf) (cells : ℕ) (line : List ℕ) (indent : ℕ) (uncut rest : Remaining) → Behind may leaf → InFront row may line uncut.bytes → InFront row may line rest.bytes
    → SaysSo row may all leaf cells line (mark_start (joining_or_row row may all) indent uncut rest)
unfolding mark_start
mark_says row may all leaf cells line indent uncut rest p h k = or_fence_says row may all leaf cells line indent uncut rest (heading_level rest.bytes) p h k refl

code_says : (row may all : Bool) (leaf : Leaf) (cells : ℕ) (line : List ℕ) (rest : Remaining) → InFront row may line rest.bytes → SaysSo row may all leaf cells line (code_start (joining_or_row row may all) rest)
unfolding without_blanks
code_says true may all leaf cells line rest h = record { front = wider true may line (take_columns 4 rest).bytes (more false line rest.bytes (take_columns 4 rest).bytes h (take_signs 4 rest)); ends = tt; under = tt }
code_says false false all leaf cells line rest h = record { front = more true line rest.bytes (take_columns 4 rest).bytes h (take_signs 4 rest); ends = tt; under = tt }
code_says false true false leaf cells line rest h = record { front = more false line rest.bytes (without_blanks rest.bytes) h (signs_blanks rest.bytes); ends = tt; under = tt }
code_says false true true leaf cells line rest h = record { front = more false line rest.bytes (without_blanks rest.bytes) h (signs_blanks rest.bytes); ends = tt; under = tt }

-- what a line begins with says so
pub leaf_says : (row may all : Bool) (leaf : Leaf) (cells : ℕ) (line : List ℕ) (rest : Remaining) → Behind may leaf → InFront row may line rest.bytes → SaysSo row may all leaf cells line (leaf_start (joining_or_row row may all) rest)
unfolding leaf_start
leaf_says row may all leaf cells line rest p h =
    let indent = columns_in_front 4 rest in
    let taken = take_columns 4 rest in
    by_cond (SaysSo row may all leaf cells line) (is_blank rest.bytes) _ _ (λ e. record { front = (wider row may line rest.bytes h, e); ends = tt; under = tt })
    (λ e. by_cond (SaysSo row may all leaf cells line) (indent == 4) _ _ (λ k. code_says row may all leaf cells line rest h)
    (λ k. mark_says row may all leaf cells line indent rest taken p h (more (not (row || may)) line rest.bytes taken.bytes h (take_signs 4 rest))))
