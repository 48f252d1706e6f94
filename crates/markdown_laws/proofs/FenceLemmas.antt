-- Code between fences is read line by line.
use Rattle.std.proofs.Common.{◌≡◌, ℕ, zero, suc, ◌<◌, Bool, true, false, not, ◌||◌, ◌==◌, List, [], ◌∷◌, ◌++◌, map, drop, replicate, Some, None, refl, sym, ap, subst, ◌∙◌, append_assoc, append-nil, arith, if◌then◌else◌}
use Rattle.std.proofs.lemmas.Bool.{eqb-true, and_parts}
use Rattle.std.specs.List.{list_all}
use Rattle.markdown_marks.specs.Bytes.{first, is_blank, count_in_front}
use Rattle.markdown_marks.specs.Marks.{is_rule, heading_level, fence_start}
use Rattle.markdown_marks.specs.Remaining.{Remaining, whole, one_column, take_columns, columns_in_front, skip}
use Rattle.markdown_marks.specs.declared.marks.Fence.{Fence}
use Rattle.markdown_blocks.specs.Containers.{container_start, matched, opened, ends_in_item}
use Rattle.markdown_blocks.specs.Events.{Event, events_from, events_of}
use Rattle.markdown_blocks.specs.Leaves.{closes_fence, leaf_start, mark_start, going_on}
use Rattle.markdown_blocks.specs.Lines.{text_lines}
use Rattle.markdown_blocks.specs.Steps.{State, Step, step, line_step, begun_line}
use Rattle.markdown_blocks.specs.declared.leaves.Deed.{Deed}
use Rattle.markdown_blocks.specs.declared.leaves.Deed.TheVariants.{Begins, GoesOn, Closes}
use Rattle.markdown_blocks.specs.declared.leaves.Leaf.{Leaf}
use Rattle.markdown_blocks.specs.declared.leaves.Leaf.TheVariants.{Nothing as NothingLeaf, Fenced as FencedLeaf}
use Rattle.markdown_leaves.specs.Gather.{Gathering, nothing_told, closed, line_done, trimmed}
use Rattle.markdown_leaves.specs.Parts.{BlockContent, PartContent, block}
use Rattle.markdown_leaves.specs.Told.{told, parts_of}
use Rattle.markdown_leaves.specs.declared.parts.Kind.TheVariants.{Nothing, Fenced}
use Rattle.markdown_laws.specs.Fences.{BeginsCode, IsCode, FenceEndsAtItsEnd, FenceEndsWithItsText, text_of, trimmed as trimmed_bytes, unindented, is_inside}
use Rattle.markdown_laws.proofs.LineLemmas.{state_with}
use Rattle.markdown_laws.proofs.BehindLemmas.{closed_behind, told_behind}

-- ---- the line that begins code

tick_or_tilde : (t p q : Bool) (found fence : Fence) → (if not t || p || q then None else Some found) ≡ Some fence → t ≡ true
tick_or_tilde true p q found fence e = refl
tick_or_tilde false p q found fence e = let no : None ≡ Some fence = e in absurd (cc)

-- a step in no container, which does this and leaves this leaf open
abbrev pub made : Leaf → Deed → Remaining → Step
made leaf deed text = record { state = state_with leaf 0; line = record { kept = 0; opened = 0; deed = deed; text = text } }

-- the step of such a line
abbrev Begun : (indent b : ℕ) → List ℕ → Type 0
Begun indent b bs =
    (sign length : ℕ) → fence_start (b ∷ bs) ≡ Some (record { sign = sign; length = length })
    → (text : Remaining) × (text.bytes ≡ drop length (b ∷ bs))
    × (step (state_with NothingLeaf 0) (replicate indent 32 ++ b ∷ bs) ≡ made (FencedLeaf sign length indent) (Begins (FencedLeaf sign length indent)) text)

ticks : (indent : ℕ) (bs : List ℕ) → indent < 4 → Begun indent 96 bs
unfolding step line_step begun_line matched opened going_on ends_in_item container_start leaf_start mark_start columns_in_front take_columns one_column is_blank is_rule heading_level count_in_front skip
ticks zero bs few sign length e = (skip length (take_columns 4 (whole (96 ∷ bs))), refl, rw e refl)
ticks (suc zero) bs few sign length e = (skip length (take_columns 4 (whole (32 ∷ 96 ∷ bs))), refl, rw e refl)
ticks (suc (suc zero)) bs few sign length e = (skip length (take_columns 4 (whole (32 ∷ 32 ∷ 96 ∷ bs))), refl, rw e refl)
ticks (suc (suc (suc zero))) bs few sign length e = (skip length (take_columns 4 (whole (32 ∷ 32 ∷ 32 ∷ 96 ∷ bs))), refl, rw e refl)
ticks (suc (suc (suc (suc n)))) bs few sign length e = absurd (omega (arith, few))

tildes : (indent : ℕ) (bs : List ℕ) → indent < 4 → Begun indent 126 bs
unfolding step line_step begun_line matched opened going_on ends_in_item container_start leaf_start mark_start columns_in_front take_columns one_column is_blank is_rule heading_level count_in_front skip
tildes zero bs few sign length e = (skip length (take_columns 4 (whole (126 ∷ bs))), refl, rw e refl)
tildes (suc zero) bs few sign length e = (skip length (take_columns 4 (whole (32 ∷ 126 ∷ bs))), refl, rw e refl)
tildes (suc (suc zero)) bs few sign length e = (skip length (take_columns 4 (whole (32 ∷ 32 ∷ 126 ∷ bs))), refl, rw e refl)
tildes (suc (suc (suc zero))) bs few sign length e = (skip length (take_columns 4 (whole (32 ∷ 32 ∷ 32 ∷ 126 ∷ bs))), refl, rw e refl)
tildes (suc (suc (suc (suc n)))) bs few sign length e = absurd (omega (arith, few))

by_sign : (p q : Bool) (b indent : ℕ) (bs : List ℕ) → (b == 96) ≡ p → (b == 126) ≡ q → (p || q) ≡ true → indent < 4 → Begun indent b bs
by_sign true q b indent bs tick tilde h few = subst (λ (c : ℕ). Begun indent c bs) (sym (eqb-true b 96 tick)) (ticks indent bs few)
by_sign false true b indent bs tick tilde h few = subst (λ (c : ℕ). Begun indent c bs) (sym (eqb-true b 126 tilde)) (tildes indent bs few)
by_sign false false b indent bs tick tilde h few = let no : false ≡ true = h in absurd (cc)

no_fence : (fence : Fence) → fence_start [] ≡ Some fence → ⊥
unfolding fence_start
no_fence fence e = let no : None ≡ Some fence = e in absurd (cc)

some_sign : (b : ℕ) (bs : List ℕ) (fence : Fence) → fence_start (b ∷ bs) ≡ Some fence → ((b == 96) || (b == 126)) ≡ true
unfolding fence_start
some_sign b bs fence e = tick_or_tilde ((b == 96) || (b == 126)) _ _ _ fence e

-- a line that begins code opens a fence
pub begun_code : (indent sign length : ℕ) (line fence : List ℕ) → BeginsCode line indent sign length fence
    → (text : Remaining) × (text.bytes ≡ drop length fence) × (step (state_with NothingLeaf 0) line ≡ made (FencedLeaf sign length indent) (Begins (FencedLeaf sign length indent)) text)
begun_code indent sign length line [] h = absurd (no_fence (record { sign = sign; length = length }) h.start)
begun_code indent sign length line (b ∷ bs) h =
    let found = by_sign (b == 96) (b == 126) b indent bs refl refl (some_sign b bs (record { sign = sign; length = length }) h.start) h.few sign length h.start in
    (found.0, found.1, subst (λ (l : List ℕ). step (state_with NothingLeaf 0) l ≡ made (FencedLeaf sign length indent) (Begins (FencedLeaf sign length indent)) found.0) (sym h.whole) found.2)

-- ---- lines of code, and the one that closes it

-- a line that doesn't close the fence is one of its code
pub stays : (indent sign length : ℕ) (line : List ℕ) → closes_fence sign length (whole line) ≡ false
    → step (state_with (FencedLeaf sign length indent) 0) line ≡ made (FencedLeaf sign length indent) GoesOn (take_columns indent (whole line))
unfolding step line_step matched going_on
stays indent sign length line e = rw e refl

-- a line that closes the fence ends its code
pub closes : (indent sign length : ℕ) (line : List ℕ) → closes_fence sign length (whole line) ≡ true
    → step (state_with (FencedLeaf sign length indent) 0) line ≡ made NothingLeaf Closes (whole line)
unfolding step line_step matched going_on
closes indent sign length line e = rw e refl

-- ---- what is told

-- all parts that are told where the text ends behind these events
abbrev pub ended : Gathering → List Event → List PartContent
ended g events = (closed (told g events)).parts

-- these parts are told, and no leaf is open
abbrev pub nothing_open : List PartContent → Gathering
nothing_open parts = record { parts = parts; kind = Nothing; apart = false; lines = []; passed = false; fresh = false; around = [] }

-- code between fences is open, which has these lines
abbrev pub code_with : List Remaining → Gathering
code_with lines = record { parts = []; kind = Fenced; apart = false; lines = lines; passed = false; fresh = false; around = [] }

-- code between fences that has these lines
abbrev pub code_of : List Remaining → BlockContent
code_of lines = record { kind = Fenced; apart = false; lines = lines }

-- what lines do is what the first does, and then what the others do
pub line_went : (g after : Gathering) (leaf next : Leaf) (deed : Deed) (text : Remaining) (line : List ℕ) (lines : List (List ℕ))
    → step (state_with leaf 0) line ≡ made next deed text → record (line_done deed text g) { fresh = false } ≡ after
    → told g (events_from (state_with leaf 0) (line ∷ lines)) ≡ told after (events_from (state_with next 0) lines)
unfolding events_from told
line_went g after leaf next deed text line lines e d = rw e (ap (λ (a : Gathering). told a (events_from (state_with next 0) lines)) d)

-- what lines tell is what the first does, and then what the others do
pub line_read : (g after : Gathering) (leaf next : Leaf) (deed : Deed) (text : Remaining) (line : List ℕ) (lines : List (List ℕ))
    → step (state_with leaf 0) line ≡ made next deed text → record (line_done deed text g) { fresh = false } ≡ after
    → ended g (events_from (state_with leaf 0) (line ∷ lines)) ≡ ended after (events_from (state_with next 0) lines)
line_read g after leaf next deed text line lines e d = ap (λ (a : Gathering). (closed a).parts) (line_went g after leaf next deed text line lines e d)

-- code has as its first line what stands behind its fence
pub begin_told : (sign length indent : ℕ) (text : Remaining) → record (line_done (Begins (FencedLeaf sign length indent)) text nothing_told) { fresh = false } ≡ code_with (trimmed text ∷ [])
unfolding line_done closed
begin_told sign length indent text = refl

-- a line of code is put behind the others
pub line_told : (text : Remaining) (lines : List Remaining) → record (line_done GoesOn text (code_with lines)) { fresh = false } ≡ code_with (lines ++ text ∷ [])
unfolding line_done
line_told text lines = refl

-- the line that closes the fence tells the code
pub end_told : (text : Remaining) (lines : List Remaining) → record (line_done Closes text (code_with lines)) { fresh = false } ≡ nothing_open (block (code_of lines) ∷ [])
unfolding line_done closed
end_told text lines = refl

-- a line without the indent of the fence
abbrev pub taken : ℕ → List ℕ → Remaining
taken indent line = take_columns indent (whole line)

-- this fence is open in no container
abbrev pub open_fence : (sign length indent : ℕ) → State
open_fence sign length indent = state_with (FencedLeaf sign length indent) 0

-- what doesn't hold is false
pub not_closing : (t : Bool) → not t ≡ true → t ≡ false
not_closing true h = sym h
not_closing false h = refl

-- lines that don't close the fence are its code
lines_went : (sign length indent : ℕ) (before : List Remaining) (lines others : List (List ℕ)) → list_all (is_inside sign length) lines ≡ true
    → told (code_with before) (events_from (open_fence sign length indent) (lines ++ others)) ≡ told (code_with (before ++ map (taken indent) lines)) (events_from (open_fence sign length indent) others)
lines_went sign length indent before [] others h =
    ap (λ (ls : List Remaining). told (code_with ls) (events_from (open_fence sign length indent) others)) (sym (append-nil before))
lines_went sign length indent before (line ∷ lines) others h =
    let both = and_parts (is_inside sign length line) (list_all (is_inside sign length) lines) h in
    let text = taken indent line in
    line_went (code_with before) (code_with (before ++ text ∷ [])) (FencedLeaf sign length indent) (FencedLeaf sign length indent) GoesOn text line (lines ++ others)
    (stays indent sign length line (not_closing _ both.0)) (line_told text before)
    ∙ lines_went sign length indent (before ++ text ∷ []) lines others both.1
    ∙ ap (λ (ls : List Remaining). told (code_with ls) (events_from (open_fence sign length indent) others)) (append_assoc before (text ∷ []) (map (taken indent) lines))

lines_read : (sign length indent : ℕ) (before : List Remaining) (lines others : List (List ℕ)) → list_all (is_inside sign length) lines ≡ true
    → ended (code_with before) (events_from (open_fence sign length indent) (lines ++ others)) ≡ ended (code_with (before ++ map (taken indent) lines)) (events_from (open_fence sign length indent) others)
lines_read sign length indent before lines others h = ap (λ (a : Gathering). (closed a).parts) (lines_went sign length indent before lines others h)

-- ---- the laws

-- the lines of code behind its fence
abbrev pub lines_of : Remaining → ℕ → List (List ℕ) → List Remaining
lines_of text indent lines = trimmed text ∷ map (taken indent) lines

said_lines : (indent : ℕ) (lines : List (List ℕ)) → map text_of (map (taken indent) lines) ≡ map (unindented indent) lines
said_lines indent [] = refl
said_lines indent (line ∷ lines) = ap (λ (ls : List (List ℕ)). unindented indent line ∷ ls) (said_lines indent lines)

-- such lines are code
pub is_code : (text : Remaining) (info : List ℕ) (indent : ℕ) (lines : List (List ℕ)) → text.bytes ≡ info → IsCode (code_of (lines_of text indent lines)) info indent lines
is_code text info indent lines e = record {
  kind = refl;
  apart = refl;
  said = ap (λ (bs : List ℕ). trimmed_bytes bs ∷ map text_of (map (taken indent) lines)) e ∙ ap (λ (ls : List (List ℕ)). trimmed_bytes info ∷ ls) (said_lines indent lines);
}

begin_went : (sign length indent : ℕ) (first : List ℕ) (text : Remaining) (lines : List (List ℕ))
    → step (state_with NothingLeaf 0) first ≡ made (FencedLeaf sign length indent) (Begins (FencedLeaf sign length indent)) text
    → told nothing_told (events_from (state_with NothingLeaf 0) (first ∷ lines)) ≡ told (code_with (trimmed text ∷ [])) (events_from (open_fence sign length indent) lines)
begin_went sign length indent first text lines e =
    line_went nothing_told (code_with (trimmed text ∷ [])) NothingLeaf (FencedLeaf sign length indent) (Begins (FencedLeaf sign length indent)) text first lines e (begin_told sign length indent text)

begin_read : (sign length indent : ℕ) (first : List ℕ) (text : Remaining) (lines : List (List ℕ))
    → step (state_with NothingLeaf 0) first ≡ made (FencedLeaf sign length indent) (Begins (FencedLeaf sign length indent)) text
    → ended nothing_told (events_from (state_with NothingLeaf 0) (first ∷ lines)) ≡ ended (code_with (trimmed text ∷ [])) (events_from (open_fence sign length indent) lines)
begin_read sign length indent first text lines e = ap (λ (a : Gathering). (closed a).parts) (begin_went sign length indent first text lines e)

open_went : (lines : List Remaining) (sign length indent : ℕ) → told (code_with lines) (events_from (open_fence sign length indent) []) ≡ code_with lines
unfolding events_from told
open_went lines sign length indent = refl

-- the lines of a fence that none closes leave its code open
pub fence_went : (sign length indent : ℕ) (first : List ℕ) (text : Remaining) (lines : List (List ℕ))
    → step (state_with NothingLeaf 0) first ≡ made (FencedLeaf sign length indent) (Begins (FencedLeaf sign length indent)) text → list_all (is_inside sign length) lines ≡ true
    → told nothing_told (events_from (state_with NothingLeaf 0) (first ∷ lines)) ≡ code_with (lines_of text indent lines)
fence_went sign length indent first text lines e inside =
    ap (λ (ls : List (List ℕ)). told nothing_told (events_from (state_with NothingLeaf 0) (first ∷ ls))) (sym (append-nil lines))
    ∙ begin_went sign length indent first text (lines ++ []) e
    ∙ lines_went sign length indent (trimmed text ∷ []) lines [] inside
    ∙ open_went (lines_of text indent lines) sign length indent

-- the parts of a text are all that its lines tell
pub read_of : (text : List ℕ) → parts_of text ≡ ended nothing_told (events_from (state_with NothingLeaf 0) (text_lines text))
unfolding parts_of events_of
read_of text = refl

ends_open : (lines : List Remaining) (sign length indent : ℕ) → ended (code_with lines) (events_from (open_fence sign length indent) []) ≡ block (code_of lines) ∷ []
unfolding events_from told closed
ends_open lines sign length indent = refl

-- what is told behind parts stands after them
pub ended_behind : (before : List PartContent) (events : List Event) → ended (nothing_open before) events ≡ before ++ ended nothing_told events
ended_behind before events =
    ap (λ (g : Gathering). (closed (told g events)).parts) (ap (λ (ps : List PartContent). nothing_open ps) (sym (append-nil before)))
    ∙ ap (λ (g : Gathering). (closed g).parts) (told_behind events before nothing_told)
    ∙ ap (λ (g : Gathering). g.parts) (closed_behind before (told nothing_told events))

-- a fence that no line closes ends with the text
pub with_text : FenceEndsWithItsText
with_text text first fence lines indent sign length are h inside =
    let found = begun_code indent sign length first fence h in (
      code_of (lines_of found.0 indent lines),
      is_code found.0 (drop length fence) indent lines found.1,
      read_of text ∙ ap (λ (ls : List (List ℕ)). ended nothing_told (events_from (state_with NothingLeaf 0) ls)) (are ∙ ap (λ (ls : List (List ℕ)). first ∷ ls) (sym (append-nil lines)))
          ∙ begin_read sign length indent first found.0 (lines ++ []) found.2
          ∙ lines_read sign length indent (trimmed found.0 ∷ []) lines [] inside
          ∙ ends_open (lines_of found.0 indent lines) sign length indent,
    )

-- the code of a text that begins with a fence, which is closed, and then another text
pub code_read : (text after first last : List ℕ) (lines : List (List ℕ)) (indent sign length : ℕ) (behind : Remaining)
    → text_lines text ≡ first ∷ (lines ++ last ∷ text_lines after)
    → step (state_with NothingLeaf 0) first ≡ made (FencedLeaf sign length indent) (Begins (FencedLeaf sign length indent)) behind
    → list_all (is_inside sign length) lines ≡ true → closes_fence sign length (whole last) ≡ true → parts_of text ≡ block (code_of (lines_of behind indent lines)) ∷ parts_of after
code_read text after first last lines indent sign length behind are begins inside closing =
    let code = lines_of behind indent lines in
    let others = text_lines after in
    read_of text ∙ ap (λ (ls : List (List ℕ)). ended nothing_told (events_from (state_with NothingLeaf 0) ls)) are
    ∙ begin_read sign length indent first behind (lines ++ last ∷ others) begins
    ∙ lines_read sign length indent (trimmed behind ∷ []) lines (last ∷ others) inside
    ∙ line_read (code_with code) (nothing_open (block (code_of code) ∷ [])) (FencedLeaf sign length indent) NothingLeaf Closes (whole last) last others (closes indent sign length last closing) (end_told _ code)
    ∙ ended_behind (block (code_of code) ∷ []) (events_from (state_with NothingLeaf 0) others)
    ∙ ap (λ (ps : List PartContent). block (code_of code) ∷ ps) (sym (read_of after))

-- a fence ends at the first line that closes it
pub at_its_end : FenceEndsAtItsEnd
at_its_end text after first last fence lines indent sign length are h inside closing =
    let found = begun_code indent sign length first fence h in
    (code_of (lines_of found.0 indent lines), is_code found.0 (drop length fence) indent lines found.1, code_read text after first last lines indent sign length found.0 are found.2 inside closing)
