-- A plain text is read line by line: outside of a paragraph, or inside of one.
use Rattle.std.proofs.Common.{◌≡◌, ℕ, suc, Bool, true, false, not, ◌||◌, ◌&&◌, ◌==◌, List, [], ◌∷◌, ◌++◌, map, length, refl, sym, ap, ◌∙◌, append_assoc, append-nil, arith}
use Rattle.std.proofs.lemmas.List.{map-append}
use Rattle.std.proofs.lemmas.Bool.{and_parts}
use Rattle.std.proofs.lemmas.Bool.Decides.{nat_tests}
use Rattle.std.specs.List.{list_all, slice_split, onto_first}
use Rattle.markdown_marks.specs.Remaining.{Remaining, whole}
use Rattle.markdown_marks.specs.Tables.{cell_count}
use Rattle.markdown_blocks.specs.Events.{Event, events_from, events_of}
use Rattle.markdown_blocks.specs.Lines.{text_lines}
use Rattle.markdown_blocks.specs.Steps.{step}
use Rattle.markdown_blocks.specs.declared.leaves.Deed.{Deed}
use Rattle.markdown_blocks.specs.declared.leaves.Deed.TheVariants.{Blank, Begins, GoesOn}
use Rattle.markdown_blocks.specs.declared.leaves.Leaf.{Leaf}
use Rattle.markdown_blocks.specs.declared.leaves.Leaf.TheVariants.{Nothing as NothingLeaf, Paragraph as ParagraphLeaf}
use Rattle.markdown_leaves.specs.Defining.{kept_lines, cut_lines}
use Rattle.markdown_leaves.specs.Gather.{Gathering, closed, line_done, add_block, words_from, blank_in}
use Rattle.markdown_leaves.specs.Parts.{PartContent}
use Rattle.markdown_leaves.specs.Told.{told, parts_of}
use Rattle.markdown_leaves.specs.declared.parts.Kind.{Kind}
use Rattle.markdown_leaves.specs.declared.parts.Kind.TheVariants.{Nothing, Paragraph}
use Rattle.markdown_laws.specs.Plain.{is_special, is_plain, is_empty, paragraph, paragraphs, PlainTextIsParagraphs}
use Rattle.markdown_laws.proofs.LineLemmas.{no_sign, state_with, done, begun, gone_on, blank_outside, blank_inside}

-- what is told in the end
abbrev ended : Gathering → List Event → List PartContent
ended g events = (closed (told g events)).parts

abbrev outside_of : List PartContent → (apart passed : Bool) → Gathering
outside_of parts apart passed = record { parts = parts; kind = Nothing; apart = apart; lines = []; passed = passed; fresh = false; around = [] }

abbrev inside_of : List PartContent → (apart : Bool) → List (List ℕ) → Gathering
inside_of parts apart lines = record { parts = parts; kind = Paragraph; apart = apart; lines = map whole lines; passed = false; fresh = false; around = [] }

abbrev Groups : Type 0
Groups = List (List (List ℕ))

abbrev groups : List (List ℕ) → Groups
groups lines = slice_split is_empty lines

-- a paragraph that has begun takes the first group
abbrev going_on : (apart : Bool) → List (List ℕ) → Groups → List PartContent
going_on apart lines [] = paragraph apart lines ∷ []
going_on apart lines (group ∷ others) = paragraph apart (lines ++ group) ∷ paragraphs true others

first_line : (apart : Bool) (line : List ℕ) (gs : Groups) → paragraphs apart (onto_first line gs) ≡ going_on apart (line ∷ []) gs
first_line apart line [] = refl
first_line apart line (g ∷ gs) = refl

next_line : (apart : Bool) (lines : List (List ℕ)) (line : List ℕ) (gs : Groups) → going_on apart lines (onto_first line gs) ≡ going_on apart (lines ++ line ∷ []) gs
next_line apart lines line [] = refl
next_line apart lines line (g ∷ gs) = ap (λ (ls : List (List ℕ)). paragraph apart ls ∷ paragraphs true gs) (sym (append_assoc lines (line ∷ []) g))

or_true : (b : Bool) → (b || true) ≡ true
or_true true = refl
or_true false = refl

and_true : (b : Bool) → (b && true) ≡ b
and_true true = refl
and_true false = refl

plain_first : (b : ℕ) (bs : List ℕ) → is_plain (b ∷ bs) ≡ true → is_special b ≡ false
plain_first b bs h = not_true (is_special b) h
  where
    not_true : (t : Bool) → not t ≡ true → t ≡ false
    not_true true k = sym k
    not_true false k = refl

-- a paragraph that begins with no bracket has no definitions
no_definitions : (b : ℕ) (bs : List ℕ) (lines : List (List ℕ)) → (b == 91) ≡ false → cut_lines (map whole ((b ∷ bs) ∷ lines)) ≡ 0
unfolding kept_lines
no_definitions b bs lines e = rw e (omega arith)

not_none : (n : ℕ) → (suc n == 0) ≡ false
not_none n = grind (arith, nat_tests)

all_words : (kind : Kind) (apart : Bool) (line : Remaining) (lines : List Remaining) (parts : List PartContent) → words_from 0 kind apart (line ∷ lines) parts ≡ add_block kind apart (line ∷ lines) parts
all_words kind apart line lines parts = rw (not_none (length lines)) (rw (and_true apart) refl)

closed_inside : (parts : List PartContent) (apart : Bool) (b : ℕ) (bs : List ℕ) (lines : List (List ℕ)) → (b == 91) ≡ false
    → closed (inside_of parts apart ((b ∷ bs) ∷ lines)) ≡ outside_of (parts ++ paragraph apart ((b ∷ bs) ∷ lines) ∷ []) apart false
unfolding closed
closed_inside parts apart b bs lines e = rw (no_definitions b bs lines e) (rw (all_words Paragraph apart (whole (b ∷ bs)) (map whole lines) parts) refl)

closed_outside : (parts : List PartContent) (apart passed : Bool) → closed (outside_of parts apart passed) ≡ outside_of parts apart passed
unfolding closed
closed_outside parts apart passed = refl

-- the line that is read, and then those after it
abbrev after_line : Deed → List ℕ → Gathering → Gathering
after_line deed line g = record (line_done deed (whole line) g) { fresh = false }

line_read : (g : Gathering) (leaf next : Leaf) (cells counted : ℕ) (deed : Deed) (line : List ℕ) (lines : List (List ℕ))
    → step (state_with leaf cells) line ≡ done next counted deed line
    → ended g (events_from (state_with leaf cells) (line ∷ lines)) ≡ ended (after_line deed line g) (events_from (state_with next counted) lines)
unfolding events_from told
line_read g leaf next cells counted deed line lines e = rw e refl

blank_after_outside : (parts : List PartContent) (apart passed : Bool) → after_line Blank [] (outside_of parts apart passed) ≡ outside_of parts apart true
unfolding line_done closed
blank_after_outside parts apart true = refl
blank_after_outside parts apart false = refl

blank_after_inside : (parts : List PartContent) (apart : Bool) (b : ℕ) (bs : List ℕ) (lines : List (List ℕ)) → (b == 91) ≡ false
    → after_line Blank [] (inside_of parts apart ((b ∷ bs) ∷ lines)) ≡ outside_of (parts ++ paragraph apart ((b ∷ bs) ∷ lines) ∷ []) apart true
unfolding line_done
blank_after_inside parts apart b bs lines e = ap (λ (g : Gathering). record (blank_in g) { fresh = false }) (closed_inside parts apart b bs lines e)

words_after_outside : (parts : List PartContent) (apart passed : Bool) (line : List ℕ) → after_line (Begins ParagraphLeaf) line (outside_of parts apart passed) ≡ inside_of parts passed (line ∷ [])
unfolding line_done closed
words_after_outside parts apart passed line = refl

words_after_inside : (parts : List PartContent) (apart : Bool) (lines : List (List ℕ)) (line : List ℕ) → after_line GoesOn line (inside_of parts apart lines) ≡ inside_of parts apart (lines ++ line ∷ [])
unfolding line_done
words_after_inside parts apart lines line =
    ap (λ (ls : List Remaining). record { parts = parts; kind = Paragraph; apart = apart; lines = ls; passed = false; fresh = false; around = [] }) (sym (map-append whole lines (line ∷ [])))

-- what is read from a place between two lines on
abbrev Reads : List (List ℕ) → Type 0
Reads lines =
    ((parts : List PartContent) (apart passed : Bool) (cells : ℕ) → ended (outside_of parts apart passed) (events_from (state_with NothingLeaf cells) lines) ≡ parts ++ paragraphs passed (groups lines))
    × ((parts : List PartContent) (apart : Bool) (b : ℕ) (bs : List ℕ) (before : List (List ℕ)) (cells : ℕ) → (b == 91) ≡ false
    → ended (inside_of parts apart ((b ∷ bs) ∷ before)) (events_from (state_with ParagraphLeaf cells) lines) ≡ parts ++ going_on apart ((b ∷ bs) ∷ before) (groups lines))

reads : (lines : List (List ℕ)) → list_all is_plain lines ≡ true → Reads lines
unfolding events_from told
reads [] h = (
  λ parts apart passed cells. ap (λ (g : Gathering). g.parts) (closed_outside parts apart passed) ∙ sym (append-nil parts),
  λ parts apart b bs before cells e.
      ap (λ (g : Gathering). g.parts) (closed_inside parts apart b bs before e) ∙ ap (λ (ls : List (List ℕ)). parts ++ paragraph apart ls ∷ []) (sym (append-nil ((b ∷ bs) ∷ before))),
)
reads ([] ∷ lines) h =
    let later = reads lines h in
    let on : Gathering → List PartContent = λ (g : Gathering). ended g (events_from (state_with NothingLeaf 0) lines) in (
      λ parts apart passed cells.
          line_read (outside_of parts apart passed) NothingLeaf NothingLeaf cells 0 Blank [] lines (blank_outside cells) ∙ ap on (blank_after_outside parts apart passed) ∙ later.0 parts apart true 0,
      λ parts apart b bs before cells e.
          line_read (inside_of parts apart ((b ∷ bs) ∷ before)) ParagraphLeaf NothingLeaf cells 0 Blank [] lines (blank_inside cells)
          ∙ ap on (blank_after_inside parts apart b bs before e)
          ∙ later.0 (parts ++ paragraph apart ((b ∷ bs) ∷ before) ∷ []) apart true 0
          ∙ append_assoc parts (paragraph apart ((b ∷ bs) ∷ before) ∷ []) (paragraphs true (groups lines))
          ∙ ap (λ (ls : List (List ℕ)). parts ++ paragraph apart ls ∷ paragraphs true (groups lines)) (sym (append-nil ((b ∷ bs) ∷ before))),
    )
reads ((c ∷ cs) ∷ lines) h =
    let both = and_parts (is_plain (c ∷ cs)) (list_all is_plain lines) h in
    let words = plain_first c cs both.0 in
    let later = reads lines both.1 in
    let counted = cell_count (c ∷ cs) in
    let on : Gathering → List PartContent = λ (g : Gathering). ended g (events_from (state_with ParagraphLeaf counted) lines) in
    let behind : List PartContent → List PartContent → List PartContent = λ (parts ps : List PartContent). parts ++ ps in (
      λ parts apart passed cells.
          line_read (outside_of parts apart passed) NothingLeaf ParagraphLeaf cells counted (Begins ParagraphLeaf) (c ∷ cs) lines (begun c cs cells words)
          ∙ ap on (words_after_outside parts apart passed (c ∷ cs))
          ∙ later.1 parts passed c cs [] counted (no_sign c 91 refl words)
          ∙ ap (behind parts) (sym (first_line passed (c ∷ cs) (groups lines))),
      λ parts apart b bs before cells e.
          line_read (inside_of parts apart ((b ∷ bs) ∷ before)) ParagraphLeaf ParagraphLeaf cells counted GoesOn (c ∷ cs) lines (gone_on c cs cells words)
          ∙ ap on (words_after_inside parts apart ((b ∷ bs) ∷ before) (c ∷ cs))
          ∙ later.1 parts apart b bs (before ++ (c ∷ cs) ∷ []) counted e
          ∙ ap (behind parts) (sym (next_line apart ((b ∷ bs) ∷ before) (c ∷ cs) (groups lines))),
    )

-- a plain text is paragraphs
pub plain : PlainTextIsParagraphs
unfolding parts_of events_of
plain text h = (reads (text_lines text) h).0 [] false false 0
