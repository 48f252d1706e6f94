-- Blocks of code among lines, found and placed one after the other.
use Rattle.std.proofs.Common.{◌≡◌, ℕ, zero, suc, ◌+◌, ◌-◌, ◌<◌, ◌≤◌, true, false, Bool, List, [], ◌∷◌, ◌++◌, map, length, take, drop, get_or, set, max, Option, Some, None, if◌then◌else◌, refl, ap, sym, ◌∙◌, arith, subst, append_assoc}
use Rattle.std.specs.List.{AllByRecursion, flat_map}
use Rattle.std.proofs.lemmas.List.{get_or-drop, at_drop_more, at_drop_all, map-append, drop-drop, length-append, length-drop, length-take, get_or-append_right, set-append_right, take-append-drop}
use Rattle.std.proofs.Math.Seq.{take-add, take-length, take-suc, take-append_seam, drop-append_seam}
use Rattle.mad_measure.proofs.AllLemmas.{all_push}
use Rattle.mad_blocks.specs.CodeBlocks.{blocks_among, placed_line, with_block_placed, part_placed, blocks_placed, width_within, code_columns, NoCode, NoCodeFirst, IsClosedBlock, IsNextBlock}
use Rattle.mad_blocks.specs.LayoutParts.{Part, table, block, single, with_table, is_code_kind, is_code_line, widest, block_width, placed_code, justified, with_code, with_composite, parts_of}
use Rattle.mad_blocks.specs.declared.code_blocks.CodeBlock.{CodeBlock}
use Rattle.mad_format.specs.declared.composite.FmtComposite.{FmtComposite}
use Rattle.mad_format.specs.declared.line.FmtLine.{FmtLine}
use Rattle.mad_format.specs.declared.line.FmtLine.TheVariants.{Normal, TableRow, TableRule, HorizontalRule}
use Rattle.mad_format.proofs.ListLemmas.{most_push}
use Rattle.mad_format.proofs.WrapLemmas.{next_of}

-- ---- parts

-- no block comes first
abbrev NoBlockFirst : List Part → Type 0
NoBlockFirst (block ls ∷ ps) = ⊥
NoBlockFirst _ = Unit {0}

code_before : (l : FmtComposite) (ps : List Part) → NoBlockFirst ps → with_code l ps ≡ block (l ∷ []) ∷ ps
code_before l (block ls ∷ ps) h = absurd h
code_before l _ h = refl

no_block_table : (l : FmtLine) (ps : List Part) → NoBlockFirst (with_table l ps)
no_block_table l [] = tt
no_block_table l (table ls ∷ ps) = tt
no_block_table l (block ls ∷ ps) = tt
no_block_table l (single m ∷ ps) = tt

no_block : (ls : List FmtLine) → NoCodeFirst ls → NoBlockFirst (parts_of ls)
no_block [] h = tt
no_block (Normal l ∷ ls) h = subst (λ (b : Bool). NoBlockFirst (with_composite b l (parts_of ls))) (sym h) tt
no_block (TableRow row ∷ ls) h = no_block_table (TableRow row) (parts_of ls)
no_block (TableRule rule ∷ ls) h = no_block_table (TableRule rule) (parts_of ls)
no_block (HorizontalRule ∷ ls) h = tt

abbrev IsCode : FmtComposite → Type 0
IsCode l = is_code_kind l.kind ≡ true

block_first : (l : FmtComposite) (ls : List FmtComposite) (rest : List FmtLine) → AllByRecursion IsCode (l ∷ ls) → NoCodeFirst rest → parts_of (map Normal (l ∷ ls) ++ rest) ≡ block (l ∷ ls) ∷ parts_of rest
block_first l [] rest h n = ap (λ b. with_composite b l (parts_of rest)) h.0 ∙ code_before l (parts_of rest) (no_block rest n)
block_first l (m ∷ ls) rest h n = ap (λ b. with_composite b l (parts_of (map Normal (m ∷ ls) ++ rest))) h.0 ∙ ap (with_code l) (block_first m ls rest h.1 n)

-- ---- a line that isn't code

among_with : (at : ℕ) (b : Bool) (l : FmtComposite) (ps : List Part) → b ≡ false → blocks_among at (with_composite b l ps) ≡ blocks_among (at + 1) ps
among_with at true l ps h = absurd (cc)
among_with at false l ps h = refl

among_table : (at : ℕ) (l : FmtLine) (ps : List Part) → blocks_among at (with_table l ps) ≡ blocks_among (at + 1) ps
among_table at l (table ls ∷ ps) = let more : at + suc (length ls) ≡ at + 1 + length ls = omega arith in ap (λ (n : ℕ). blocks_among n ps) more
among_table at l _ = refl

skip_among : (at : ℕ) (l : FmtLine) (ls : List FmtLine) → is_code_line l ≡ false → blocks_among at (parts_of (l ∷ ls)) ≡ blocks_among (at + 1) (parts_of ls)
skip_among at (Normal l) ls h = among_with at (is_code_kind l.kind) l (parts_of ls) h
skip_among at (TableRow row) ls h = among_table at (TableRow row) (parts_of ls)
skip_among at (TableRule rule) ls h = among_table at (TableRule rule) (parts_of ls)
skip_among at HorizontalRule ls h = refl

placed_with : (room : Option ℕ) (b : Bool) (l : FmtComposite) (ps : List Part) → b ≡ false → flat_map (part_placed room) (with_composite b l ps) ≡ Normal l ∷ flat_map (part_placed room) ps
placed_with room true l ps h = absurd (cc)
placed_with room false l ps h = refl

placed_table : (room : Option ℕ) (l : FmtLine) (ps : List Part) → flat_map (part_placed room) (with_table l ps) ≡ l ∷ flat_map (part_placed room) ps
placed_table room l [] = refl
placed_table room l (table ls ∷ ps) = refl
placed_table room l (block ls ∷ ps) = refl
placed_table room l (single m ∷ ps) = refl

skip_placed : (room : Option ℕ) (l : FmtLine) (ls : List FmtLine) → is_code_line l ≡ false → blocks_placed room (l ∷ ls) ≡ l ∷ blocks_placed room ls
skip_placed room (Normal l) ls h = placed_with room (is_code_kind l.kind) l (parts_of ls) h
skip_placed room (TableRow row) ls h = placed_table room (TableRow row) (parts_of ls)
skip_placed room (TableRule rule) ls h = placed_table room (TableRule rule) (parts_of ls)
skip_placed room HorizontalRule ls h = refl

-- ---- of any lines

length-normal : (ls : List FmtComposite) → length (map Normal ls) ≡ length ls
length-normal [] = refl
length-normal (l ∷ ls) = ap suc (length-normal ls)

take-more : (ls : List FmtLine) (n : ℕ) (d : FmtLine) → n < length ls → take (n + 1) ls ≡ take n ls ++ get_or ls n d ∷ []
take-more ls n d inside = let one : n + 1 ≡ suc n = omega arith in ap (λ (k : ℕ). take k ls) one ∙ take-suc ls n d inside

-- ---- what was found at a line

-- none of code begins there
pub none_here : (lines : List FmtLine) (at : ℕ) (b : CodeBlock) → IsClosedBlock lines at b → at < length lines → b.height ≡ 0 → is_code_line (get_or lines at HorizontalRule) ≡ false
none_here lines at b h inside none =
    let same : at + b.height ≡ at = omega (arith, none) in
    subst NoCodeFirst (ap (λ (n : ℕ). drop n lines) same ∙ at_drop_more (λ l. l) lines at HorizontalRule inside) h.ends

-- lines that aren't code have no block
none_among : (at : ℕ) (ls : List FmtLine) → NoCode ls → blocks_among at (parts_of ls) ≡ []
none_among at [] h = refl
none_among at (l ∷ ls) h = skip_among at l ls h.0 ∙ none_among (at + 1) ls h.1

-- where no line is left that is code, no block is
pub found_none : (lines : List FmtLine) (at : ℕ) → NoCode (drop at lines) → blocks_among at (parts_of (drop at lines)) ≡ []
found_none lines at h = none_among at (drop at lines) h

-- nor have the first lines, where these aren't
skip_all_among : (at n : ℕ) (ls : List FmtLine) → n ≤ length ls → NoCode (take n ls) → blocks_among at (parts_of ls) ≡ blocks_among (at + n) (parts_of (drop n ls))
skip_all_among at zero ls inside h = let same : at ≡ at + 0 = omega arith in ap (λ (k : ℕ). blocks_among k (parts_of ls)) same
skip_all_among at (suc n) [] inside h = absurd (omega (arith, inside))
skip_all_among at (suc n) (l ∷ ls) inside h =
    let next : at + 1 + n ≡ at + suc n = omega arith in
    skip_among at l ls h.0 ∙ skip_all_among (at + 1) n ls (omega (arith, inside)) h.1 ∙ ap (λ (k : ℕ). blocks_among k (parts_of (drop n ls))) next

skip_all_placed : (room : Option ℕ) (n : ℕ) (ls : List FmtLine) → n ≤ length ls → NoCode (take n ls) → blocks_placed room ls ≡ take n ls ++ blocks_placed room (drop n ls)
skip_all_placed room zero ls inside h = refl
skip_all_placed room (suc n) [] inside h = absurd (omega (arith, inside))
skip_all_placed room (suc n) (l ∷ ls) inside h = skip_placed room l ls h.0 ∙ ap (λ ms. l ∷ ms) (skip_all_placed room n ls (omega (arith, inside)) h.1)

none_placed : (room : Option ℕ) (ls : List FmtLine) → NoCode ls → blocks_placed room ls ≡ ls
none_placed room [] h = refl
none_placed room (l ∷ ls) h = skip_placed room l ls h.0 ∙ ap (λ ms. l ∷ ms) (none_placed room ls h.1)

same_block : (b : CodeBlock) (at height width : ℕ) → b.start ≡ at → b.height ≡ height → b.width ≡ width → record { start = at; height = height; width = width } ≡ b
same_block b at height width e f g =
    ap (λ s. record { start = s; height = height; width = width }) (sym e) ∙ ap (λ n. record { start = b.start; height = n; width = width }) (sym f) ∙ ap (λ n. record { start = b.start; height = b.height; width = n }) (sym g)

some_among : (at : ℕ) (own : List FmtComposite) (rest : List FmtLine) → 0 < length own → AllByRecursion IsCode own → NoCodeFirst rest
    → blocks_among at (parts_of (map Normal own ++ rest)) ≡ record { start = at; height = length own; width = widest own } ∷ blocks_among (at + length own) (parts_of rest)
some_among at [] rest some code ends = absurd (omega (arith, some))
some_among at (l ∷ ls) rest some code ends = ap (blocks_among at) (block_first l ls rest code ends)

-- a closed block that has lines is the first of those that are left
pub found_some : (lines : List FmtLine) (at : ℕ) (b : CodeBlock) → IsClosedBlock lines at b → 0 < b.height → blocks_among at (parts_of (drop at lines)) ≡ b ∷ blocks_among (at + b.height) (parts_of (drop (at + b.height) lines))
found_some lines at b h some =
    let rest = drop (at + b.height) lines in
    ap (λ (ls : List FmtLine). blocks_among at (parts_of ls)) h.lines_are ∙ some_among at h.own rest (omega (arith, some, h.height)) h.code h.ends
    ∙ ap (λ (x : CodeBlock). x ∷ blocks_among (at + length h.own) (parts_of rest)) (same_block b at (length h.own) (widest h.own) h.start h.height h.width)
    ∙ ap (λ (n : ℕ). b ∷ blocks_among (at + n) (parts_of rest)) (sym h.height)

-- a block with lines begins among the lines
pub begins_inside : (lines : List FmtLine) (at : ℕ) (b : CodeBlock) → IsClosedBlock lines at b → 0 < b.height → at < length lines
begins_inside lines at b h some =
    omega (arith, some, h.height, ap length h.lines_are, length-append (map Normal h.own) (drop (at + b.height) lines), length-normal h.own, length-drop at lines)

-- how many lines are skipped
skipped_inside : (lines : List FmtLine) (from : ℕ) (b : CodeBlock) → IsNextBlock lines from b → b.start - from ≤ length (drop from lines)
skipped_inside lines from b h = omega (arith, begins_inside lines b.start b h.closed h.some, h.after, length-drop from lines)

past_skipped : (lines : List FmtLine) (from : ℕ) (b : CodeBlock) → IsNextBlock lines from b → drop (b.start - from) (drop from lines) ≡ drop b.start lines
past_skipped lines from b h =
    let is : from + (b.start - from) ≡ b.start = omega (arith, h.after) in
    drop-drop (b.start - from) from lines ∙ ap (λ (n : ℕ). drop n lines) is

-- the next block is the first of those that are left
pub found_next : (lines : List FmtLine) (from : ℕ) (b : CodeBlock) → IsNextBlock lines from b
    → blocks_among from (parts_of (drop from lines)) ≡ b ∷ blocks_among (b.start + b.height) (parts_of (drop (b.start + b.height) lines))
found_next lines from b h =
    let is : from + (b.start - from) ≡ b.start = omega (arith, h.after) in
    skip_all_among from (b.start - from) (drop from lines) (skipped_inside lines from b h) h.skipped
    ∙ ap (λ (n : ℕ). blocks_among n (parts_of (drop (b.start - from) (drop from lines)))) is
    ∙ ap (λ (ls : List FmtLine). blocks_among b.start (parts_of ls)) (past_skipped lines from b h)
    ∙ found_some lines b.start b h.closed h.some

-- the lines from the one to the other are no code
pub record NoCodeSoFar (lines : List FmtLine) (from at : ℕ) : Type 0 where
  pub after : from ≤ at
  pub inside : at ≤ length lines
  pub none : NoCode (take (at - from) (drop from lines))

-- no line was passed yet
pub no_code_start : (lines : List FmtLine) (from : ℕ) → from ≤ length lines → NoCodeSoFar lines from from
no_code_start lines from inside =
    let none : 0 ≡ from - from = omega arith in
    record { after = omega arith; inside = inside; none = subst (λ (n : ℕ). NoCode (take n (drop from lines))) none tt }

-- a line at which the block has no line is passed
pub no_code_more : (lines : List FmtLine) (from at : ℕ) (b : CodeBlock) → NoCodeSoFar lines from at → IsClosedBlock lines at b → at < length lines → b.height ≡ 0 → NoCodeSoFar lines from (at + 1)
no_code_more lines from at b h closed inside none =
    let n = at - from in
    let here : get_or (drop from lines) n HorizontalRule ≡ get_or lines at HorizontalRule =
    let is : from + n ≡ at = omega (arith, h.after) in
    get_or-drop from lines n HorizontalRule ∙ ap (λ (k : ℕ). get_or lines k HorizontalRule) is in
    let next : n + 1 ≡ at + 1 - from = omega (arith, h.after) in
    record {
      after = omega (arith, h.after);
      inside = omega (arith, inside);
      none = subst (λ (k : ℕ). NoCode (take k (drop from lines))) next
          (subst NoCode (sym (take-more (drop from lines) n HorizontalRule (omega (arith, inside, h.after, length-drop from lines))))
          (all_push (λ (l : FmtLine). is_code_line l ≡ false) (take n (drop from lines)) (get_or (drop from lines) n HorizontalRule) h.none (ap is_code_line here ∙ none_here lines at b closed inside none)));
    }

-- past the last line none of those that were left is code
pub no_code_left : (lines : List FmtLine) (from at : ℕ) → NoCodeSoFar lines from at → length lines ≤ at → NoCode (drop from lines)
no_code_left lines from at h past =
    let all : at - from ≡ length (drop from lines) = omega (arith, past, h.after, h.inside, length-drop from lines) in
    subst NoCode (ap (λ (n : ℕ). take n (drop from lines)) all ∙ take-length (drop from lines)) h.none

-- a block with lines that begins behind the lines that were passed is the next one
pub next_found : (lines : List FmtLine) (from at : ℕ) (b : CodeBlock) → NoCodeSoFar lines from at → IsClosedBlock lines at b → 0 < b.height → IsNextBlock lines from b
next_found lines from at b h closed some = record {
  after = omega (arith, h.after, closed.start);
  skipped = subst (λ (n : ℕ). NoCode (take (n - from) (drop from lines))) (sym closed.start) h.none;
  some = some;
  closed = subst (λ (n : ℕ). IsClosedBlock lines n b) (sym closed.start) closed;
}

-- ---- the lines of a block, one after the other

columns_if : (b : Bool) (l : FmtComposite) (n : ℕ) → (if b then Some l.visible_length else None) ≡ Some n → (b ≡ true) × (n ≡ l.visible_length)
columns_if true l n h = (refl, let e : l.visible_length ≡ n = cc in sym e)
columns_if false l n h = absurd (cc)

columns_none : (b : Bool) (l : FmtComposite) → (if b then Some l.visible_length else None) ≡ None → b ≡ false
columns_none true l h = absurd (cc)
columns_none false l h = refl

-- a line without columns of code is no line of code
pub code_none : (l : FmtLine) → code_columns l ≡ None → is_code_line l ≡ false
code_none (Normal l) h = columns_none (is_code_kind l.kind) l h
code_none _ h = refl

-- the line is one of code, of this many columns
pub record IsCodeLine (l : FmtLine) (columns : ℕ) : Type 0 where
  pub own : FmtComposite
  pub is : l ≡ Normal own
  pub code : is_code_kind own.kind ≡ true
  pub columns_are : columns ≡ own.visible_length

-- a line with columns of code is a line of code
pub code_some : (l : FmtLine) (n : ℕ) → code_columns l ≡ Some n → IsCodeLine l n
code_some (Normal l) n h = let is = columns_if (is_code_kind l.kind) l n h in record { own = l; is = refl; code = is.0; columns_are = is.1 }
code_some _ n h = absurd (cc)

-- this many lines from a line on are code
pub record CodeSoFar (lines : List FmtLine) (at height width : ℕ) : Type 0 where
  pub own : List FmtComposite
  pub code : AllByRecursion (λ l. is_code_kind l.kind ≡ true) own
  pub height_is : height ≡ length own
  pub width_is : width ≡ widest own
  pub lines_are : drop at lines ≡ map Normal own ++ drop (at + height) lines
  pub inside : at + height ≤ length lines

-- no line of the block was counted yet
pub code_start : (lines : List FmtLine) (at : ℕ) → at ≤ length lines → CodeSoFar lines at 0 0
code_start lines at inside = let same : at ≡ at + 0 = omega arith in record {
  own = [];
  code = tt;
  height_is = refl;
  width_is = refl;
  lines_are = ap (λ (n : ℕ). drop n lines) same;
  inside = omega (arith, inside);
}

-- one more line of code is counted
pub code_more : (lines : List FmtLine) (at height width columns new : ℕ) (l : FmtLine) → CodeSoFar lines at height width → at + height < length lines → l ≡ get_or lines (at + height) l → IsCodeLine l columns → new ≡ max columns width
    → CodeSoFar lines at (height + 1) new
code_more lines at height width columns new l h inside here line new_is =
    let next : at + height + 1 ≡ at + (height + 1) = omega arith in
    let pushed : widest (h.own ++ line.own ∷ []) ≡ max line.own.visible_length (widest h.own) = most_push (λ (l : FmtComposite). l.visible_length) h.own line.own in record {
      own = h.own ++ line.own ∷ [];
      code = all_push (λ (l : FmtComposite). is_code_kind l.kind ≡ true) h.own line.own h.code line.code;
      height_is = omega (arith, h.height_is, length-append h.own (line.own ∷ []));
      width_is = omega (arith, new_is, h.width_is, line.columns_are, pushed);
      lines_are = h.lines_are ∙ ap (λ ls. map Normal h.own ++ ls) (next_of lines (at + height) l inside here ∙ ap (λ l. l ∷ drop (at + height + 1) lines) line.is ∙ ap (λ (n : ℕ). Normal line.own ∷ drop n lines) next)
          ∙ sym (append_assoc (map Normal h.own) (Normal line.own ∷ []) (drop (at + (height + 1)) lines)) ∙ ap (λ ls. ls ++ drop (at + (height + 1)) lines) (sym (map-append Normal h.own (line.own ∷ [])));
      inside = omega (arith, inside);
    }

-- where no line of code follows, the block is closed
pub code_ends : (lines : List FmtLine) (at height width : ℕ) (b : CodeBlock) → CodeSoFar lines at height width → NoCodeFirst (drop (at + height) lines) → b ≡ record { start = at; height = height; width = width } → IsClosedBlock lines at b
code_ends lines at height width b h ends is = subst (IsClosedBlock lines at) (sym is) (record { own = h.own; code = h.code; start = refl; height = h.height_is; width = h.width_is; lines_are = h.lines_are; ends = ends })

-- none follows where the line there isn't code
pub ends_at : (lines : List FmtLine) (at : ℕ) (l : FmtLine) → at < length lines → l ≡ get_or lines at l → is_code_line l ≡ false → NoCodeFirst (drop at lines)
ends_at lines at l inside here h = subst NoCodeFirst (sym (next_of lines at l inside here)) h

-- none follows past the last line
pub ends_past : (lines : List FmtLine) (at : ℕ) → length lines ≤ at → NoCodeFirst (drop at lines)
ends_past lines at past = subst NoCodeFirst (sym (at_drop_all (λ l. l) lines at past)) tt

-- a block ends with the lines at the latest
pub within_lines : (lines : List FmtLine) (at : ℕ) (b : CodeBlock) → IsClosedBlock lines at b → at ≤ length lines → at + b.height ≤ length lines
within_lines lines at b h inside =
    omega (arith, inside, h.height, ap length h.lines_are, length-append (map Normal h.own) (drop (at + b.height) lines), length-normal h.own, length-drop at lines, length-drop (at + b.height) lines)

-- so does the next block
pub within_next : (lines : List FmtLine) (from : ℕ) (b : CodeBlock) → IsNextBlock lines from b → b.start + b.height ≤ length lines
within_next lines from b h =
    let begins : b.start < length lines = begins_inside lines b.start b h.closed h.some in
    within_lines lines b.start b h.closed (omega (arith, begins))

-- fewer lines are left after it
pub fewer_left : (lines : List FmtLine) (from : ℕ) (b : CodeBlock) → IsNextBlock lines from b → length lines - (b.start + b.height) < length lines - from
fewer_left lines from b h = omega (arith, begins_inside lines b.start b h.closed h.some, h.after, h.some)

-- ---- placing

-- the first of these lines in their place
abbrev pub first_placed : ℕ → ℕ → List FmtLine → List FmtLine
first_placed width n ls = map (placed_line width) (take n ls) ++ drop n ls

-- one more
pub placed_more : (width n : ℕ) (ls : List FmtLine) (l : FmtLine) → n < length ls → l ≡ get_or ls n l → set (first_placed width n ls) n (placed_line width l) ≡ first_placed width (suc n) ls
placed_more width n [] l inside here = absurd (omega (arith, inside))
placed_more width zero (x ∷ ls) l inside here = ap (λ y. placed_line width y ∷ ls) here
placed_more width (suc n) (x ∷ ls) l inside here = ap (λ ms. placed_line width x ∷ ms) (placed_more width n ls l (omega (arith, inside)) here)

-- the next one is as it was
placed_next : (width n : ℕ) (ls : List FmtLine) (d : FmtLine) → n < length ls → get_or (first_placed width n ls) n d ≡ get_or ls n d
placed_next width n [] d inside = absurd (omega (arith, inside))
placed_next width zero (x ∷ ls) d inside = refl
placed_next width (suc n) (x ∷ ls) d inside = placed_next width n ls d (omega (arith, inside))

-- the same after lines that stay
pub placed_step : (width start index : ℕ) (old lines : List FmtLine) (l m : FmtLine) → start ≤ index → index < length old → lines ≡ take start old ++ first_placed width (index - start) (drop start old)
    → l ≡ get_or lines index l → m ≡ placed_line width l → set lines index m ≡ take start old ++ first_placed width (index + 1 - start) (drop start old)
placed_step width start index old lines l m from inside held here is =
    let front = take start old in
    let back = drop start old in
    let n = index - start in
    let size : length front ≡ start = omega (arith, length-take start old, from, inside) in
    let room : n < length back = omega (arith, length-drop start old, from, inside) in
    let next : suc n ≡ index + 1 - start = omega (arith, from) in
    let read : l ≡ get_or back n l = here ∙ ap (λ ls. get_or ls index l) held ∙ get_or-append_right front (first_placed width n back) start index l size from ∙ placed_next width n back l room in
    ap (λ ls. set ls index m) held ∙ set-append_right front (first_placed width n back) start index m size from ∙ ap (λ (x : FmtLine). front ++ set (first_placed width n back) n x) is
    ∙ ap (λ ls. front ++ ls) (placed_more width n back l room read) ∙ ap (λ (k : ℕ). front ++ first_placed width k back) next

-- no line was placed yet
pub placed_start : (width start : ℕ) (old : List FmtLine) → old ≡ take start old ++ first_placed width (start - start) (drop start old)
placed_start width start old =
    let none : 0 ≡ start - start = omega arith in
    sym (take-append-drop start old) ∙ ap (λ (n : ℕ). take start old ++ first_placed width n (drop start old)) none

-- after as many lines as the block has, all of these are in their place
pub placed_whole : (start height index width : ℕ) (old : List FmtLine) → start ≤ index → index ≡ start + height
    → take start old ++ first_placed width (index - start) (drop start old) ≡ take start old ++ (map (placed_line width) (take height (drop start old)) ++ drop (start + height) old)
placed_whole start height index width old from all =
    let n : index - start ≡ height = omega (arith, from, all) in
    ap (λ (k : ℕ). take start old ++ first_placed width k (drop start old)) n ∙ ap (λ ls. take start old ++ (map (placed_line width) (take height (drop start old)) ++ ls)) (drop-drop height start old)

-- ---- each block in its place

some_placed : (room : Option ℕ) (own : List FmtComposite) (rest : List FmtLine) → AllByRecursion IsCode own → NoCodeFirst rest → blocks_placed room (map Normal own ++ rest) ≡ map Normal (justified room own) ++ blocks_placed room rest
some_placed room [] rest code ends = refl
some_placed room (l ∷ ls) rest code ends = ap (flat_map (part_placed room)) (block_first l ls rest code ends)

lines_placed : (width : ℕ) (ls : List FmtComposite) → map (placed_line width) (map Normal ls) ≡ map Normal (map (placed_code width) ls)
lines_placed width [] = refl
lines_placed width (l ∷ ls) = ap (λ ms. Normal (placed_code width l) ∷ ms) (lines_placed width ls)

width_is : (room : Option ℕ) (ls : List FmtComposite) → width_within room (widest ls) ≡ block_width room ls
width_is None ls = refl
width_is (Some room) ls = refl

front_of : (n : ℕ) (xs ys : List FmtLine) → n ≡ length xs → take n (xs ++ ys) ≡ xs
front_of n xs ys size = ap (λ (k : ℕ). take k (xs ++ ys)) size ∙ take-append_seam xs ys

back_of : (n : ℕ) (xs ys : List FmtLine) → n ≡ length xs → drop n (xs ++ ys) ≡ ys
back_of n xs ys size = ap (λ (k : ℕ). drop k (xs ++ ys)) size ∙ drop-append_seam xs ys

-- the lines so far are in their places, and with the others in theirs they are all
pub record PlacedSoFar (room : Option ℕ) (all lines : List FmtLine) (at : ℕ) : Type 0 where
  pub inside : at ≤ length lines
  pub so_far : take at lines ++ blocks_placed room (drop at lines) ≡ blocks_placed room all

-- no block was placed yet
pub so_far_start : (room : Option ℕ) (all : List FmtLine) → PlacedSoFar room all all 0
so_far_start room all = record { inside = omega arith; so_far = refl }

-- the lines before the next block stay
pub so_far_next : (room : Option ℕ) (all lines : List FmtLine) (from : ℕ) (b : CodeBlock) → PlacedSoFar room all lines from → IsNextBlock lines from b → PlacedSoFar room all lines b.start
so_far_next room all lines from b h next =
    let n = b.start - from in
    let is : from + n ≡ b.start = omega (arith, next.after) in
    record {
      inside = omega (arith, begins_inside lines b.start b next.closed next.some);
      so_far = ap (λ (k : ℕ). take k lines ++ blocks_placed room (drop b.start lines)) (sym is)
          ∙ ap (λ ls. ls ++ blocks_placed room (drop b.start lines)) (take-add from n lines)
          ∙ append_assoc (take from lines) (take n (drop from lines)) (blocks_placed room (drop b.start lines))
          ∙ ap (λ ls. take from lines ++ (take n (drop from lines) ++ blocks_placed room ls)) (sym (past_skipped lines from b next))
          ∙ ap (λ ls. take from lines ++ ls) (sym (skip_all_placed room n (drop from lines) (skipped_inside lines from b next) next.skipped))
          ∙ h.so_far;
    }

placed_lines : (room : Option ℕ) (lines : List FmtLine) (at width : ℕ) (b : CodeBlock) (h : IsClosedBlock lines at b) → width ≡ width_within room b.width → map (placed_line width) (take b.height (drop at lines)) ≡ map Normal (justified room h.own)
placed_lines room lines at width b h lowered =
    let size : b.height ≡ length (map Normal h.own) = h.height ∙ sym (length-normal h.own) in
    let front : take b.height (drop at lines) ≡ map Normal h.own = ap (take b.height) h.lines_are ∙ front_of b.height (map Normal h.own) (drop (at + b.height) lines) size in
    let same : width ≡ block_width room h.own = lowered ∙ ap (width_within room) h.width ∙ width_is room h.own in
    ap (map (placed_line width)) front ∙ lines_placed width h.own ∙ ap (λ (n : ℕ). map Normal (map (placed_code n) h.own)) same

normal_length : (room : Option ℕ) (ls : List FmtComposite) (n : ℕ) → length (map Normal (map (placed_code n) ls)) ≡ length ls
normal_length room [] n = refl
normal_length room (l ∷ ls) n = ap suc (normal_length room ls n)

-- that block is placed
pub so_far_block : (room : Option ℕ) (all lines new : List FmtLine) (at width : ℕ) (b : CodeBlock) → PlacedSoFar room all lines at → IsClosedBlock lines at b → width ≡ width_within room b.width
    → new ≡ with_block_placed (record { start = b.start; height = b.height; width = width }) lines → PlacedSoFar room all new (at + b.height)
so_far_block room all lines new at width b h is lowered placed =
    let front = take at lines in
    let own : List FmtLine = map Normal (justified room is.own) in
    let rest = drop (at + b.height) lines in
    let whole : new ≡ (front ++ own) ++ rest =
    placed ∙ ap (λ (n : ℕ). take n lines ++ (map (placed_line width) (take b.height (drop n lines)) ++ drop (n + b.height) lines)) is.start ∙ ap (λ ls. front ++ (ls ++ rest)) (placed_lines room lines at width b is lowered) ∙ sym (append_assoc front own rest) in
    let size : at + b.height ≡ length (front ++ own) = omega (arith, length-append front own, length-take at lines, h.inside, is.height, normal_length room is.own (block_width room is.own)) in
    record {
      inside = omega (arith, size, ap length whole, length-append (front ++ own) rest);
      so_far =
          ap (λ ls. take (at + b.height) ls ++ blocks_placed room (drop (at + b.height) ls)) whole
          ∙ ap (λ ls. ls ++ blocks_placed room (drop (at + b.height) ((front ++ own) ++ rest))) (front_of (at + b.height) (front ++ own) rest size)
          ∙ ap (λ ls. (front ++ own) ++ blocks_placed room ls) (back_of (at + b.height) (front ++ own) rest size)
          ∙ append_assoc front own (blocks_placed room rest)
          ∙ ap (λ ls. front ++ ls) (sym (some_placed room is.own rest is.code is.ends) ∙ ap (blocks_placed room) (sym is.lines_are))
          ∙ h.so_far;
    }

-- where no code is left, all blocks are placed
pub so_far_end : (room : Option ℕ) (all lines : List FmtLine) (at : ℕ) → PlacedSoFar room all lines at → NoCode (drop at lines) → lines ≡ blocks_placed room all
so_far_end room all lines at h none = sym (take-append-drop at lines) ∙ ap (λ ls. take at lines ++ ls) (sym (none_placed room (drop at lines) none)) ∙ h.so_far
