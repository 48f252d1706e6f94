-- What a line is to the lines beside it, and what it is read as.
use Rattle.std.proofs.Common.{◌≡◌, ◌≢◌, ℕ, zero, suc, ◌<◌, ◌≤◌, ◌+◌, ◌-◌, Bool, true, false, not, ◌==◌, ◌&&◌, ◌||◌, List, [], ◌∷◌, ◌++◌, length, take, drop, get_or, refl, sym, ap, ◌∙◌, arith, subst, ◌⊎◌, inl, inr, None, Some, Option, Bor, if◌then◌else◌}
use Rattle.std.specs.Prelude.{nat_eq, unwrap_or, MatchOption}
use Rattle.std.specs.List.{AllByRecursion, before_first, after_first, position_or_len, prefix_len}
use Rattle.std.specs.Str.Lines.{strip_carriage_return}
use Rattle.std.specs.Str.Parse.{digits_value}
use Rattle.std.specs.Char.{is_ascii_digit}
use Rattle.std.proofs.Math.Seq.{take-append_seam}
use Rattle.std.proofs.lemmas.Bool.Decides.{nat_tests}
use Rattle.std.proofs.lemmas.List.{append_cancel_right}
use Rattle.mad_md.specs.Cells.{alignments, rule_or_row}
use Rattle.mad_md.specs.Flagged.{Flags, unflagged}
use Rattle.mad_md.specs.LineKinds.{told_kind, kind_of_line, MayNotGoOn}
use Rattle.mad_md.specs.Lines.{StyledRuns, LineContent, table_row, table_rule}
use Rattle.mad_md.specs.Parts.{HasNoNewline}
use Rattle.mad_md.specs.Reading.{Unread, carried_on, resumed_text}
use Rattle.mad_md.specs.Scan.{cut_cells, cell_of, kept_cells, part_of, line_of, line_of_form, flags_of_line, lines_of}
use Rattle.mad_md.specs.Starts.{begins, is_fence, count_in_front, starts, ordered_after, item_after, item_start, header_of, header_start, indent, is_rule, unprefixed_start, line_start}
use Rattle.mad_md.specs.declared.alignment.Alignment.{Alignment}
use Rattle.mad_md.specs.declared.composite.CompositeStyle.TheVariants.{Paragraph, Header, ListItem, OrderedListItem, Quote}
use Rattle.mad_md.specs.declared.line_kinds.LineKind.{LineKind}
use Rattle.mad_md.specs.declared.line_kinds.LineKind.TheVariants as kinds
use Rattle.mad_md.specs.declared.starts.Form.TheVariants.{TablePart, Code, Rule, Continuing, Separate}
use Rattle.mad_md.specs.declared.starts.LineStart.{LineStart}
use Rattle.mad_md.proofs.PartsLemmas.{is_newline, test_true, test_false}
use Rattle.mad_md.proofs.ReadingLemmas.{lines_fence, lines_line, lines_none}
use Rattle.mad_md.proofs.UnmarkedLemmas.{if_not, and_not}

-- ---- by its form

table_told : (found : Option (List Alignment)) (cells : List StyledRuns) → told_kind (rule_or_row table_rule table_row found cells) ≡ kinds.Table
table_told (Some (a ∷ others)) cells = refl
table_told (Some []) cells = refl
table_told None cells = refl

-- what a table part is read as is of a table, a rule or a row
pub part_told : (text : List ℕ) → told_kind (part_of text) ≡ kinds.Table
part_told text = table_told _ _

-- ---- by its first byte

-- a line that begins so is alone, whatever comes after its beginning
abbrev Tells : LineStart → Type 0
Tells s = (carried : Flags) (text : List ℕ) → told_kind (line_of_form s.form carried text) ≡ kinds.Alone

abbrev TellsSome : Option LineStart → Type 0
TellsSome None = Unit {0}
TellsSome (Some s) = Tells s

if_tells : (b : Bool) (x y : LineStart) → Tells x → Tells y → Tells (if b then x else y)
if_tells true x y h k = h
if_tells false x y h k = k

if_some : (b : Bool) (x y : Option LineStart) → TellsSome x → TellsSome y → TellsSome (if b then x else y)
if_some true x y h k = h
if_some false x y h k = k

unwrap_tells : (o : Option LineStart) (d : LineStart) → TellsSome o → Tells d → Tells (unwrap_or o d)
unwrap_tells None d h k = k
unwrap_tells (Some s) d h k = h

ordered_tells : (spaces digits : ℕ) (rest : List ℕ) → TellsSome (ordered_after spaces digits rest)
ordered_tells spaces digits rest = if_some _ None (Some (starts (Continuing (OrderedListItem spaces (digits_value 10 (take digits rest)))) (spaces + digits + 2))) tt (λ carried text. refl)

item_tells : (spaces : ℕ) (rest : List ℕ) → TellsSome (item_after spaces rest)
item_tells spaces rest = if_some _ (Some (starts (Continuing (ListItem spaces)) (spaces + 2))) (ordered_after spaces (prefix_len is_ascii_digit rest) rest) (λ carried text. refl) (ordered_tells spaces (prefix_len is_ascii_digit rest) rest)

header_tells : (level : ℕ) (line : List ℕ) → TellsSome (header_of level line)
header_tells level line = if_some _ None (Some (starts (Separate (Header level)) (level + 1))) tt (λ carried text. refl)

unprefixed_tells : (line : List ℕ) → Tells (unprefixed_start line)
unprefixed_tells line = if_tells (is_rule line) (starts Rule 0) (starts (Continuing Paragraph) 0) (λ carried text. refl) (λ carried text. refl)

other_byte : (x b : ℕ) → b ≢ x → nat_eq x b ≡ false
other_byte x b h = test_false x b (λ e. h (sym e))

begins_not : (b x : ℕ) (bs xs : List ℕ) → b ≢ x → begins (b ∷ bs) (x ∷ xs) ≡ false
begins_not b x bs xs h = and_not _ _ (other_byte x b h)

start_tells : (b : ℕ) (bs : List ℕ) → b ≢ 124 → b ≢ 32 → b ≢ 9 → Tells (line_start (b ∷ bs))
start_tells b bs bar space tab =
    let line = b ∷ bs in
    let quote : LineStart = if begins line (62 ∷ 32 ∷ []) then starts (Continuing Quote) 2 else unwrap_or (header_start line) (unprefixed_start line) in
    let last : Tells quote = if_tells (begins line (62 ∷ 32 ∷ [])) (starts (Continuing Quote) 2) (unwrap_or (header_start line) (unprefixed_start line)) (λ carried text. refl)
    (unwrap_tells (header_start line) (unprefixed_start line) (header_tells (count_in_front 35 line) line) (unprefixed_tells line)) in
    let items : Tells (unwrap_or (item_start line) quote) = unwrap_tells (item_start line) quote (item_tells (indent line) (drop (indent line) line)) last in
    let tabs : (if begins line (9 ∷ []) then starts Code 1 else unwrap_or (item_start line) quote) ≡ unwrap_or (item_start line) quote = if_not _ _ _ (begins_not b 9 bs [] tab) in
    let spaces : (if begins line (32 ∷ 32 ∷ 32 ∷ 32 ∷ []) then starts Code 4 else if begins line (9 ∷ []) then starts Code 1 else unwrap_or (item_start line) quote) ≡ unwrap_or (item_start line) quote = if_not _ _ _ (begins_not b 32 bs (32 ∷ 32 ∷ 32 ∷ []) space) ∙ tabs in
    let some : (length line == 0) ≡ false = grind (arith, nat_tests) in
    let bars : line_start line ≡ unwrap_or (item_start line) quote = if_not _ _ _ some ∙ if_not _ _ _ (begins_not b 124 bs [] bar) ∙ spaces in
    subst Tells (sym bars) items

-- an empty line, or one that begins with another byte
alone_line : (text : List ℕ) → MayNotGoOn text → kind_of_line false text ≡ kinds.Alone
unfolding line_of
alone_line [] h = refl
alone_line (b ∷ bs) h =
    let told : told_kind (line_of false unflagged (b ∷ bs)) ≡ kinds.Alone = start_tells b bs h.1 h.2 h.3 unflagged (drop (line_start (b ∷ bs)).len (b ∷ bs)) in
    if_not _ _ _ (begins_not b 96 bs (96 ∷ 96 ∷ []) h.0) ∙ told

-- the first byte stays where a carriage return goes, unless it is one
stripped_by : (t : Bool) (part : List ℕ) → MayNotGoOn (part ++ 10 ∷ []) → MayNotGoOn (if t then take (length part - 1) part else part)
stripped_by true [] h = tt
stripped_by true (b ∷ []) h = tt
stripped_by true (b ∷ c ∷ cs) h = let size : length (b ∷ c ∷ cs) - 1 ≡ suc (length cs) = omega arith in subst (λ n. MayNotGoOn (take n (b ∷ c ∷ cs))) (sym size) h
stripped_by false [] h = tt
stripped_by false (b ∷ bs) h = h

-- a line that begins with no backquote, bar, space or tab is alone
pub alone_part : (line part : List ℕ) → MayNotGoOn line → line ≡ part ++ 10 ∷ [] → kind_of_line false (strip_carriage_return part) ≡ kinds.Alone
alone_part line part h is = alone_line (strip_carriage_return part) (stripped_by (get_or part (length part - 1) 0 == 13) part (subst MayNotGoOn is h))

-- a line without the newline at its end
pub newline_stripped : (line : Bor (List ℕ)) (r : Option (Bor (List ℕ))) → MatchOption r ((front : List ℕ) → line.now ≢ front ++ 10 ∷ []) (λ x. line.now ≡ x.now ++ 10 ∷ []) → (part : List ℕ) → line.now ≡ part ++ 10 ∷ [] → (unwrap_or r line).now ≡ part
newline_stripped line None h part is = absurd (h part is)
newline_stripped line (Some x) h part is = append_cancel_right x.now part (10 ∷ []) (sym h ∙ is)

-- ---- by its text

-- a fence line is told as a fence, whether one is open or not
pub kind_fence : (fenced : Bool) (text : List ℕ) → is_fence text ≡ true → kind_of_line fenced text ≡ kinds.Fence
kind_fence fenced text h = ap (λ t. if t then kinds.Fence else told_kind (line_of fenced unflagged text)) h

-- another line is told by what it is read as
pub kind_other : (fenced : Bool) (text : List ℕ) → is_fence text ≡ false → kind_of_line fenced text ≡ told_kind (line_of fenced unflagged text)
kind_other fenced text h = ap (λ t. if t then kinds.Fence else told_kind (line_of fenced unflagged text)) h

-- ---- a line at the front of what is left

first_newline : (part later : List ℕ) → HasNoNewline part → position_or_len is_newline (part ++ 10 ∷ later) ≡ length part
first_newline [] later h = refl
first_newline (b ∷ bs) later h =
    let rest = first_newline bs later h.1 in
    let more : 1 + position_or_len is_newline (bs ++ 10 ∷ later) ≡ length (b ∷ bs) = omega (arith, rest) in
    ap (λ t. if not t then 1 + position_or_len is_newline (bs ++ 10 ∷ later) else 0) (test_false b 10 h.0) ∙ more

before_newline : (part later : List ℕ) → HasNoNewline part → before_first is_newline (part ++ 10 ∷ later) ≡ part
before_newline part later h = ap (λ n. take n (part ++ 10 ∷ later)) (first_newline part later h) ∙ take-append_seam part (10 ∷ later)

drop_line : (part later : List ℕ) → drop (length part + 1) (part ++ 10 ∷ later) ≡ later
drop_line [] later = refl
drop_line (b ∷ bs) later = let size : length (b ∷ bs) + 1 ≡ suc (length bs + 1) = omega arith in ap (λ n. drop n (b ∷ (bs ++ 10 ∷ later))) size ∙ drop_line bs later

after_newline : (part later : List ℕ) → HasNoNewline part → after_first is_newline (part ++ 10 ∷ later) ≡ later
after_newline part later h = ap (λ n. drop (n + 1) (part ++ 10 ∷ later)) (first_newline part later h) ∙ drop_line part later

some_text : (part later : List ℕ) → 0 < length (part ++ 10 ∷ later)
some_text [] later = omega arith
some_text (b ∷ bs) later = omega arith

-- what is left after such a line
left_is : (fenced : Bool) (part later : List ℕ) → HasNoNewline part → lines_of (resumed_text fenced (after_first is_newline (part ++ 10 ∷ later))) ≡ lines_of (resumed_text fenced later)
left_is fenced part later h = ap (λ (t : List ℕ). lines_of (resumed_text fenced t)) (after_newline part later h)

-- a fence line in front opens or closes a fence before the lines after it
pub resumed_fence : (fenced : Bool) (part later : List ℕ) → HasNoNewline part → is_fence (strip_carriage_return part) ≡ true → lines_of (resumed_text fenced (part ++ 10 ∷ later)) ≡ lines_of (resumed_text (not fenced) later)
resumed_fence fenced part later h fence =
    lines_fence (resumed_text fenced (part ++ 10 ∷ later)) (some_text part later) (ap (λ p. is_fence (strip_carriage_return p)) (before_newline part later h) ∙ fence) ∙ left_is (not fenced) part later h

-- another line in front is the first, and those after it follow
pub resumed_line : (fenced : Bool) (part later : List ℕ) → HasNoNewline part → is_fence (strip_carriage_return part) ≡ false
    → lines_of (resumed_text fenced (part ++ 10 ∷ later)) ≡ line_of fenced unflagged (strip_carriage_return part) ∷ lines_of (resumed_text fenced later)
resumed_line fenced part later h other =
    lines_line (resumed_text fenced (part ++ 10 ∷ later)) (some_text part later) (ap (λ p. is_fence (strip_carriage_return p)) (before_newline part later h) ∙ other)
    ∙ ap (λ p. line_of fenced unflagged (strip_carriage_return p) ∷ lines_of (resumed_text fenced (after_first is_newline (part ++ 10 ∷ later)))) (before_newline part later h)
    ∙ ap (λ ls. line_of fenced unflagged (strip_carriage_return part) ∷ ls) (left_is fenced part later h)

-- an empty text has no line
pub resumed_none : (fenced : Bool) → lines_of (resumed_text fenced []) ≡ []
resumed_none fenced = lines_none (resumed_text fenced []) refl
