-- Code that was written is read as its lines.
use Rattle.std.proofs.Common.{◌≡◌, ℕ, zero, suc, ◌+◌, ◌<◌, ◌≤◌, Bool, true, false, cond, not, ◌||◌, ◌&&◌, ◌==◌, nat_le, nat_lt, max, List, [], ◌∷◌, ◌++◌, map, drop, replicate, Some, None, refl, sym, ap, subst, ◌∙◌, append_assoc, append-nil, arith}
use Rattle.std.proofs.Math.Nat.{le-max_left, le-max_right}
use Rattle.std.proofs.lemmas.Bool.{and_parts, eqb-true}
use Rattle.std.proofs.lemmas.Bool.Decides.{nat_tests}
use Rattle.std.specs.List.{list_all, list_any, prefix_len}
use Rattle.markdown_marks.specs.Bytes.{count_in_front, is_blank, is_blank_byte, is_run_alone, without_blanks}
use Rattle.markdown_marks.specs.Marks.{fence_of, fence_start}
use Rattle.markdown_marks.specs.Remaining.{Remaining, columns_in_front, further, one_column, take_columns, whole}
use Rattle.markdown_blocks.specs.Events.{events_from}
use Rattle.markdown_blocks.specs.Leaves.{closes_fence}
use Rattle.markdown_blocks.specs.declared.leaves.Deed.TheVariants.{Begins, Closes, GoesOn}
use Rattle.markdown_blocks.specs.declared.leaves.Leaf.TheVariants.{Fenced as FencedLeaf, Nothing as NothingLeaf}
use Rattle.markdown_leaves.specs.Gather.{Gathering, closed, line_done, trimmed}
use Rattle.markdown_leaves.specs.Parts.{PartContent, block}
use Rattle.markdown_leaves.specs.declared.parts.Kind.TheVariants.{Fenced}
use Rattle.markdown_laws.specs.Fences.{BeginsCode, is_inside}
use Rattle.markdown_laws.proofs.FenceLemmas.{begun_code, closes, not_closing, open_fence, stays, taken}
use Rattle.markdown_part_laws.proofs.ParagraphLemmas.{after_line, outside_of}
use Rattle.markdown_writing.specs.Pages.{longest, longest_from, ticks_in}
use Rattle.markdown_writing.specs.Phrases.{fence}
use Rattle.markdown_writing.specs.Writable.{is_line}
use Rattle.markdown_writing.proofs.ParagraphLemmas.{finished, line_went, told_of}
use Rattle.markdown_writing.proofs.WordLemmas.{by_test, is_false}

-- ---- the fence

-- as many as were counted before
grows : (most : ℕ) (lines : List (List ℕ)) → most ≤ longest_from most lines
grows most [] = omega arith
grows most (line ∷ lines) = omega (arith, grows (max most (ticks_in line)) lines, le-max_left most (ticks_in line))

pub two_at_least : (lines : List (List ℕ)) → 2 ≤ longest lines
two_at_least lines = grows 2 lines

no_ticks : (bytes : List ℕ) → list_any (λ b. b == 96) bytes ≡ false → prefix_len (λ b. b == 96) bytes ≡ 0
no_ticks [] h = refl
no_ticks (b ∷ bs) h = first_not (b == 96) _ _ h
  where
    first_not : (t u : Bool) (n : ℕ) → (t || u) ≡ false → cond t n 0 ≡ 0
    first_not true u n k = let no : true ≡ false = k in absurd (cc)
    first_not false u n k = refl

one_more : (n : ℕ) → 1 + n ≡ suc n
one_more n = omega arith

pub ticks_counted : (n : ℕ) (bytes : List ℕ) → prefix_len (λ b. b == 96) bytes ≡ 0 → prefix_len (λ b. b == 96) (replicate n 96 ++ bytes) ≡ n
ticks_counted zero bytes h = h
ticks_counted (suc n) bytes h = one_more (prefix_len (λ b. b == 96) (replicate n 96 ++ bytes)) ∙ ap suc (ticks_counted n bytes h)

pub ticks_dropped : (n : ℕ) (bytes : List ℕ) → drop n (replicate n 96 ++ bytes) ≡ bytes
ticks_dropped zero bytes = refl
ticks_dropped (suc n) bytes = ticks_dropped n bytes

not_less : (most : ℕ) → 2 ≤ most → nat_lt (suc most) 3 ≡ false
not_less most h = grind (arith, nat_tests, h)

-- a fence, and the language behind it
abbrev pub opening : ℕ → List ℕ → List ℕ
opening most language = fence most ++ language

fence_is : (most : ℕ) (language : List ℕ) → 2 ≤ most → list_any (λ b. b == 96) language ≡ false → fence_start (opening most language) ≡ Some (record { sign = 96; length = suc most })
unfolding fence_start count_in_front
fence_is most language two h =
    let line = opening most language in
    let count : prefix_len (λ b. b == 96) line ≡ suc most = ticks_counted (suc most) language (no_ticks language h) in
    ap (λ (n : ℕ). fence_of 96 n line) count
    ∙ ap (λ (t : Bool). cond (t || list_any (λ b. b == 96) (drop (suc most) line)) None (Some (record { sign = 96; length = suc most }))) (not_less most two)
    ∙ ap (λ (bs : List ℕ). cond (list_any (λ b. b == 96) bs) None (Some (record { sign = 96; length = suc most }))) (ticks_dropped most language)
    ∙ ap (λ (t : Bool). cond t None (Some (record { sign = 96; length = suc most }))) h

pub begins_code : (most : ℕ) (language : List ℕ) → 2 ≤ most → list_any (λ b. b == 96) language ≡ false → BeginsCode (opening most language) 0 96 (suc most) (opening most language)
begins_code most language two h = record { few = omega arith; whole = refl; start = fence_is most language two h }

-- ---- the line that closes it

and_true : (p q : Bool) → p ≡ true → q ≡ true → (p && q) ≡ true
and_true true q f g = g
and_true false q f g = f

at_least : (n m : ℕ) → n ≡ m → nat_le m n ≡ true
at_least n m e = grind (arith, nat_tests, e)

fence_dropped : (n m : ℕ) → n ≡ m → is_blank (drop n (replicate m 96)) ≡ true
unfolding is_blank
fence_dropped n m e = ap (λ (k : ℕ). list_all is_blank_byte (drop k (replicate m 96))) e ∙ ap (λ (bs : List ℕ). list_all is_blank_byte (drop m bs)) (sym (append-nil (replicate m 96))) ∙ ap (list_all is_blank_byte) (ticks_dropped m [])

run_alone : (most : ℕ) → is_run_alone 96 (suc most) (fence most) ≡ true
unfolding is_run_alone count_in_front
run_alone most =
    let count : prefix_len (λ b. b == 96) (fence most) ≡ suc most = ap (λ (bs : List ℕ). prefix_len (λ b. b == 96) bs) (sym (append-nil (fence most))) ∙ ticks_counted (suc most) [] refl in
    and_true _ _ (at_least _ _ count) (fence_dropped _ (suc most) count)

pub closing_is : (most : ℕ) → closes_fence 96 (suc most) (whole (fence most)) ≡ true
unfolding columns_in_front take_columns one_column
closing_is most = run_alone most

-- ---- the lines between

-- a backquote
abbrev tick : ℕ → Bool
tick b = b == 96

-- the backquotes of a line, and those behind its blanks
abbrev own : List ℕ → ℕ
own line = prefix_len tick line

abbrev behind : List ℕ → ℕ
behind line = prefix_len tick (drop (prefix_len is_blank_byte line) line)

blank_no_tick : (b : ℕ) → is_blank_byte b ≡ true → (b == 96) ≡ false
blank_no_tick b h = is_false (b == 96) (λ e. ap is_blank_byte (sym (eqb-true b 96 e)) ∙ h)

own_few : (line : List ℕ) → own line ≤ behind line
own_few [] = omega arith
own_few (b ∷ bs) =
    by_test (is_blank_byte b) (own (b ∷ bs) ≤ behind (b ∷ bs))
    (λ e. subst (λ (n : ℕ). n ≤ behind (b ∷ bs)) (sym (ap (λ (t : Bool). cond t (1 + own bs) 0) (blank_no_tick b e))) (omega arith))
    (λ e. subst (λ (n : ℕ). own (b ∷ bs) ≤ prefix_len tick (drop n (b ∷ bs))) (sym (ap (λ (t : Bool). cond t (1 + prefix_len is_blank_byte bs) 0) e)) (omega arith))

blank_then : (bs : List ℕ) → behind (32 ∷ bs) ≡ behind bs
blank_then bs = ap (λ (n : ℕ). prefix_len tick (drop n (32 ∷ bs))) (one_more (prefix_len is_blank_byte bs))

-- a rest of a line without tabs
abbrev rest_at : ℕ → List ℕ → Remaining
rest_at column bytes = record { column = column; pending = 0; bytes = bytes }

space_taken : (n column : ℕ) (bs : List ℕ) → take_columns (suc n) (rest_at column (32 ∷ bs)) ≡ take_columns n (rest_at (further 1 column) bs)
unfolding take_columns one_column
space_taken n column bs = refl

none_taken : (n column b : ℕ) (bs : List ℕ) → (b == 32) ≡ false → (b == 9) ≡ false → take_columns n (rest_at column (b ∷ bs)) ≡ rest_at column (b ∷ bs)
unfolding take_columns one_column
none_taken zero column b bs e f = refl
none_taken (suc n) column b bs e f = rw e (rw f refl)

nothing_taken : (n column : ℕ) → take_columns n (rest_at column []) ≡ rest_at column []
unfolding take_columns one_column
nothing_taken zero column = refl
nothing_taken (suc n) column = refl

no_tab : (b : ℕ) → not ((b == 9) || (b == 10) || (b == 13)) ≡ true → (b == 9) ≡ false
no_tab b h = first_of (b == 9) (b == 10) (b == 13) h
  where
    first_of : (p q r : Bool) → not (p || q || r) ≡ true → p ≡ false
    first_of true q r k = let no : false ≡ true = k in absurd (cc)
    first_of false q r k = refl

zero_taken : (r : Remaining) → take_columns 0 r ≡ r
unfolding take_columns
zero_taken r = refl

-- what is left of a line has no more backquotes in front than stand behind its blanks
taken_few : (n column : ℕ) (line : List ℕ) → is_line line ≡ true → own (take_columns n (rest_at column line)).bytes ≤ behind line
taken_few n column [] h = subst (λ (r : Remaining). own r.bytes ≤ behind []) (sym (nothing_taken n column)) (omega arith)
taken_few zero column (b ∷ bs) h = subst (λ (r : Remaining). own r.bytes ≤ behind (b ∷ bs)) (sym (zero_taken (rest_at column (b ∷ bs)))) (own_few (b ∷ bs))
taken_few (suc n) column (b ∷ bs) h =
    let both = and_parts (not ((b == 9) || (b == 10) || (b == 13))) (is_line bs) h in
    by_test (b == 32) (own (take_columns (suc n) (rest_at column (b ∷ bs))).bytes ≤ behind (b ∷ bs))
    (λ e. subst (λ (c : ℕ). own (take_columns (suc n) (rest_at column (c ∷ bs))).bytes ≤ behind (c ∷ bs)) (sym (eqb-true b 32 e))
    (subst (λ (r : Remaining). own r.bytes ≤ behind (32 ∷ bs)) (sym (space_taken n column bs)) (subst (λ (m : ℕ). own (take_columns n (rest_at (further 1 column) bs)).bytes ≤ m) (sym (blank_then bs)) (taken_few n (further 1 column) bs both.1))))
    (λ e. subst (λ (r : Remaining). own r.bytes ≤ behind (b ∷ bs)) (sym (none_taken (suc n) column b bs e (no_tab b both.0))) (own_few (b ∷ bs)))

more_asked : (least count : ℕ) → count < least → nat_le least count ≡ false
more_asked least count h = grind (arith, nat_tests, h)

none_of_both : (p r : Bool) → (p && (false && r)) ≡ false
none_of_both true r = refl
none_of_both false r = refl

-- such a line doesn't close the fence
not_closed : (most : ℕ) (line : List ℕ) → is_line line ≡ true → behind line ≤ most → closes_fence 96 (suc most) (whole line) ≡ false
unfolding is_run_alone count_in_front
not_closed most line h few =
    let rest = take_columns 4 (whole line) in
    let less : own rest.bytes < suc most = omega (arith, taken_few 4 0 line h, few) in
    ap (λ (t : Bool). nat_lt (columns_in_front 4 (whole line)) 4 && (t && is_blank (drop (own rest.bytes) rest.bytes))) (more_asked (suc most) (own rest.bytes) less)
    ∙ none_of_both (nat_lt (columns_in_front 4 (whole line)) 4) (is_blank (drop (own rest.bytes) rest.bytes))

inside_from : (start most : ℕ) (lines : List (List ℕ)) → list_all is_line lines ≡ true → longest_from start lines ≤ most → list_all (is_inside 96 (suc most)) lines ≡ true
unfolding count_in_front without_blanks
inside_from start most [] h few = refl
inside_from start most (line ∷ lines) h few =
    let both = and_parts (is_line line) (list_all is_line lines) h in
    let next = max start (behind line) in
    let second : behind line ≤ most = omega (arith, few, grows next lines, le-max_right start (behind line)) in
    and_true (is_inside 96 (suc most) line) (list_all (is_inside 96 (suc most)) lines) (ap not (not_closed most line both.0 second)) (inside_from next most lines both.1 few)

-- no line of code closes its fence
pub all_inside : (lines : List (List ℕ)) → list_all is_line lines ≡ true → list_all (is_inside 96 (suc (longest lines))) lines ≡ true
all_inside lines h = inside_from 2 (longest lines) lines h (omega arith)

-- ---- what is told

-- code that is open, behind parts
abbrev code_in : List PartContent → Bool → List Remaining → Gathering
code_in parts apart lines = record { parts = parts; kind = Fenced; apart = apart; lines = lines; passed = false; fresh = false; around = [] }

-- code between fences that has these lines
abbrev pub code_block : Bool → List Remaining → PartContent
code_block apart lines = block (record { kind = Fenced; apart = apart; lines = lines })

begin_after : (length : ℕ) (text : Remaining) (parts : List PartContent) (apart passed : Bool) → after_line (Begins (FencedLeaf 96 length 0)) text (outside_of parts apart passed) ≡ code_in parts passed (trimmed text ∷ [])
unfolding line_done closed
begin_after length text parts apart passed = refl

line_after : (text : Remaining) (parts : List PartContent) (apart : Bool) (lines : List Remaining) → after_line GoesOn text (code_in parts apart lines) ≡ code_in parts apart (lines ++ text ∷ [])
unfolding line_done
line_after text parts apart lines = refl

end_after : (text : Remaining) (parts : List PartContent) (apart : Bool) (lines : List Remaining) → after_line Closes text (code_in parts apart lines) ≡ outside_of (parts ++ code_block apart lines ∷ []) apart false
unfolding line_done closed
end_after text parts apart lines = refl

lines_told : (length : ℕ) (parts : List PartContent) (apart : Bool) (before : List Remaining) (lines others : List (List ℕ)) → list_all (is_inside 96 length) lines ≡ true
    → finished (code_in parts apart before) (events_from (open_fence 96 length 0) (lines ++ others)) ≡ finished (code_in parts apart (before ++ map (taken 0) lines)) (events_from (open_fence 96 length 0) others)
lines_told length parts apart before [] others h = ap (λ (ls : List Remaining). finished (code_in parts apart ls) (events_from (open_fence 96 length 0) others)) (sym (append-nil before))
lines_told length parts apart before (line ∷ lines) others h =
    let both = and_parts (is_inside 96 length line) (list_all (is_inside 96 length) lines) h in
    let text = taken 0 line in
    line_went (code_in parts apart before) (FencedLeaf 96 length 0) (FencedLeaf 96 length 0) 0 0 GoesOn text line (lines ++ others) (stays 0 96 length line (not_closing _ both.0))
    ∙ ap (λ (g : Gathering). finished g (events_from (open_fence 96 length 0) (lines ++ others))) (line_after text parts apart before)
    ∙ lines_told length parts apart (before ++ text ∷ []) lines others both.1
    ∙ ap (λ (ls : List Remaining). finished (code_in parts apart ls) (events_from (open_fence 96 length 0) others)) (append_assoc before (text ∷ []) (map (taken 0) lines))

all_whole : (lines : List (List ℕ)) → map (taken 0) lines ≡ map whole lines
unfolding take_columns
all_whole [] = refl
all_whole (line ∷ lines) = ap (λ (ls : List Remaining). whole line ∷ ls) (all_whole lines)

-- code is its lines, and what stands behind its fence
pub code_told : (most : ℕ) (language : List ℕ) (lines : List (List ℕ)) → 2 ≤ most → list_any (λ b. b == 96) language ≡ false → list_all (is_inside 96 (suc most)) lines ≡ true
    → (info : Remaining) × (info.bytes ≡ language) × ((parts : List PartContent) (apart passed : Bool) (others : List (List ℕ))
    → told_of (outside_of parts apart passed) (opening most language ∷ (lines ++ fence most ∷ others)) ≡ told_of (outside_of (parts ++ code_block passed (trimmed info ∷ map whole lines) ∷ []) passed false) others)
code_told most language lines two h inside =
    let length = suc most in
    let line = opening most language in
    let found = begun_code 0 96 length line line (begins_code most language two h) in
    let info = found.0 in (
      info,
      found.1 ∙ ticks_dropped length language,
      λ parts apart passed others.
          line_went (outside_of parts apart passed) NothingLeaf (FencedLeaf 96 length 0) 0 0 (Begins (FencedLeaf 96 length 0)) info line (lines ++ fence most ∷ others) found.2
          ∙ ap (λ (g : Gathering). finished g (events_from (open_fence 96 length 0) (lines ++ fence most ∷ others))) (begin_after length info parts apart passed)
          ∙ lines_told length parts passed (trimmed info ∷ []) lines (fence most ∷ others) inside
          ∙ ap (λ (ls : List Remaining). finished (code_in parts passed (trimmed info ∷ ls)) (events_from (open_fence 96 length 0) (fence most ∷ others))) (all_whole lines)
          ∙ line_went (code_in parts passed (trimmed info ∷ map whole lines)) (FencedLeaf 96 length 0) NothingLeaf 0 0 Closes (whole (fence most)) (fence most) others (closes 0 96 length (fence most) (closing_is most))
          ∙ ap (λ (g : Gathering). told_of g others) (end_after (whole (fence most)) parts passed (trimmed info ∷ map whole lines)),
    )
