-- Html is read line by line up to the sign that ends it.
use Rattle.std.proofs.Common.{◌≡◌, ℕ, zero, suc, ◌-◌, ◌<◌, Bool, true, false, cond, not, ◌||◌, ◌==◌, nat_eq, List, [], ◌∷◌, ◌++◌, map, length, take, drop, replicate, Some, None, refl, sym, ap, subst, ◌∙◌, append_assoc, append-nil, arith}
use Rattle.std.proofs.lemmas.Bool.{and_from, and_parts, eq-eqb, eqb-true, false_from_ne_true}
use Rattle.std.proofs.lemmas.List.{map-append}
use Rattle.std.specs.Cmp.Lexicographic.{pointwise}
use Rattle.std.specs.Prelude.{codes}
use Rattle.markdown_html.specs.Ends.{contains, ends_html}
use Rattle.markdown_html.specs.Starts.{begins, ending_after, html_start}
use Rattle.markdown_html.specs.declared.starts.Ending.{Ending}
use Rattle.markdown_html.specs.declared.starts.Ending.TheVariants.{BlankLine, Comment, Instruction, Declaration, Cdata, RawTag}
use Rattle.markdown_marks.specs.Bytes.{count_in_front, is_blank}
use Rattle.markdown_marks.specs.Marks.{fence_start, heading_level, is_rule}
use Rattle.markdown_marks.specs.Remaining.{Remaining, columns_in_front, one_column, take_columns, whole}
use Rattle.markdown_blocks.specs.Containers.{container_start, ends_in_item, matched, opened}
use Rattle.markdown_blocks.specs.Events.{Event, enter, events_from, leaves, step_events}
use Rattle.markdown_blocks.specs.Events as events
use Rattle.markdown_blocks.specs.Leaves.{ends_by_blank, going_on, leaf_start, mark_start}
use Rattle.markdown_blocks.specs.Lines.{text_lines}
use Rattle.markdown_blocks.specs.Steps.{Step, begun_line, line_step, step}
use Rattle.markdown_blocks.specs.declared.containers.Container.{Container}
use Rattle.markdown_blocks.specs.declared.leaves.Deed.{Deed}
use Rattle.markdown_blocks.specs.declared.leaves.Deed.TheVariants.{Blank, Begins, Html as HtmlDeed, GoesOn, Closes, Underlines, Tabulates, Heading as HeadingDeed, Rule as RuleDeed}
use Rattle.markdown_blocks.specs.declared.leaves.Leaf.TheVariants.{Nothing as NothingLeaf, Html as HtmlLeaf}
use Rattle.markdown_blocks.proofs.DeedLemmas.{LeafBehind, leaf_behind}
use Rattle.markdown_leaves.specs.Gather.{Gathering, closed, closed_as_it_is, begun_in, blank_in, entered_in, first_text, heading_line, kind_of, line_done, nothing_told}
use Rattle.markdown_leaves.specs.Parts.{BlockContent, PartContent, block}
use Rattle.markdown_leaves.specs.Told.{told, parts_of}
use Rattle.markdown_leaves.specs.declared.parts.Kind.TheVariants.{Nothing, Heading, Html, Rule}
use Rattle.markdown_laws.specs.Fences.{text_of}
use Rattle.markdown_laws.proofs.BehindLemmas.{behind as put_behind, closed_behind, told_behind}
use Rattle.markdown_laws.proofs.FenceLemmas.{ended, ended_behind, line_read, made, nothing_open, read_of}
use Rattle.markdown_laws.proofs.HeldLemmas.{told_then}
use Rattle.markdown_laws.proofs.LineLemmas.{state_with}
use Rattle.markdown_part_laws.proofs.BlankLemmas.{blank_begun}
use Rattle.markdown_part_laws.proofs.TextLemmas.{blank_outside}
use Rattle.markdown_sign_laws.specs.Blocks.{IsBehind}
use Rattle.markdown_sign_laws.specs.HtmlBlocks.{BeginsHtml, Has, HtmlEndsAtBlank, HtmlIsRead, HtmlLineIsRead, IsHtml, IsSignOf, NoneHas, OpenHtmlIsRead, none_blank}
use Rattle.markdown_sign_laws.specs.Words.{are_blanks}
use Rattle.markdown_sign_laws.proofs.LineDoneLemmas.{step_says}
use Rattle.markdown_sign_laws.proofs.LineStartLemmas.{OfParagraph}

-- ---- bytes that others have

same_bytes : (xs ys : List ℕ) → pointwise nat_eq xs (take (length xs) ys) ≡ true → ys ≡ xs ++ drop (length xs) ys
same_bytes [] ys h = refl
same_bytes (x ∷ xs) [] h = let no : false ≡ true = h in absurd (cc)
same_bytes (x ∷ xs) (y ∷ ys) h = let both = and_parts (x == y) (pointwise nat_eq xs (take (length xs) ys)) h in ap (λ (z : ℕ). z ∷ ys) (sym (eqb-true x y both.0)) ∙ ap (λ (zs : List ℕ). x ∷ zs) (same_bytes xs ys both.1)

front_bytes : (xs ys : List ℕ) → pointwise nat_eq xs (take (length xs) (xs ++ ys)) ≡ true
front_bytes [] ys = none ys
  where
    none : (zs : List ℕ) → pointwise nat_eq [] (take 0 zs) ≡ true
    none zs = refl
front_bytes (x ∷ xs) ys = and_from (x == x) (pointwise nat_eq xs (take (length xs) (xs ++ ys))) (eq-eqb x x refl) (front_bytes xs ys)

contained_by : (t : Bool) (needle : List ℕ) (b : ℕ) (bs : List ℕ) → begins (b ∷ bs) needle ≡ t → (t || contains needle bs) ≡ true → (contains needle bs ≡ true → Has needle bs) → Has needle (b ∷ bs)
contained_by true needle b bs e h more = record { before = []; behind = drop (length needle) (b ∷ bs); whole = same_bytes needle (b ∷ bs) e }
contained_by false needle b bs e h more = let found = more h in record { before = b ∷ found.before; behind = found.behind; whole = ap (λ (cs : List ℕ). b ∷ cs) found.whole }

contained : (needle bs : List ℕ) → contains needle bs ≡ true → Has needle bs
unfolding contains
contained needle [] h = let no : false ≡ true = h in absurd (cc)
contained needle (b ∷ bs) h = contained_by (begins (b ∷ bs) needle) needle b bs refl h (contained needle bs)

or_second : (p q : Bool) → q ≡ true → (p || q) ≡ true
or_second true q h = refl
or_second false q h = h

or_first : (p q : Bool) → p ≡ true → (p || q) ≡ true
or_first p q h = ap (λ (t : Bool). t || q) h

-- some bytes, of which one is the first
contains_at : (b : ℕ) (bs before behind : List ℕ) → contains (b ∷ bs) (before ++ ((b ∷ bs) ++ behind)) ≡ true
unfolding contains
contains_at b bs [] behind = or_first (begins (b ∷ (bs ++ behind)) (b ∷ bs)) (contains (b ∷ bs) (bs ++ behind)) (front_bytes (b ∷ bs) behind)
contains_at b bs (c ∷ cs) behind = or_second (begins (c ∷ (cs ++ ((b ∷ bs) ++ behind))) (b ∷ bs)) (contains (b ∷ bs) (cs ++ ((b ∷ bs) ++ behind))) (contains_at b bs cs behind)

-- ---- what a line begins and ends

-- html of this kind is what the sign ends
record IsEnding (ending : Ending) (end : List ℕ) : Type 0 where
  no_blank : ends_by_blank ending ≡ false
  ends : (line : List ℕ) → Has end line → ends_html ending line ≡ true
  stays : (line : List ℕ) → (Has end line → ⊥) → ends_html ending line ≡ false

none_contained : (b : ℕ) (bs line : List ℕ) → (Has (b ∷ bs) line → ⊥) → contains (b ∷ bs) line ≡ false
none_contained b bs line h = false_from_ne_true (contains (b ∷ bs) line) (λ e. h (contained (b ∷ bs) line e))

has_contains : (b : ℕ) (bs line : List ℕ) → Has (b ∷ bs) line → contains (b ∷ bs) line ≡ true
has_contains b bs line h = ap (contains (b ∷ bs)) h.whole ∙ contains_at b bs h.before h.behind

comment_ends : IsEnding Comment (codes "-->")
unfolding ends_html
comment_ends = record { no_blank = refl; ends = λ line h. has_contains 45 (45 ∷ 62 ∷ []) line h; stays = λ line h. none_contained 45 (45 ∷ 62 ∷ []) line h }

instruction_ends : IsEnding Instruction (codes "?>")
unfolding ends_html
instruction_ends = record { no_blank = refl; ends = λ line h. has_contains 63 (62 ∷ []) line h; stays = λ line h. none_contained 63 (62 ∷ []) line h }

cdata_ends : IsEnding Cdata (codes "]]>")
unfolding ends_html
cdata_ends = record { no_blank = refl; ends = λ line h. has_contains 93 (93 ∷ 62 ∷ []) line h; stays = λ line h. none_contained 93 (93 ∷ 62 ∷ []) line h }

declaration_ends : IsEnding Declaration (codes ">")
unfolding ends_html
declaration_ends = record { no_blank = refl; ends = λ line h. has_contains 62 [] line h; stays = λ line h. none_contained 62 [] line h }

-- bytes begin such html
record Starts (end bytes : List ℕ) : Type 0 where
  ending : Ending
  is : IsEnding ending end
  others : List ℕ
  sign : bytes ≡ 60 ∷ others
  start : html_start false bytes ≡ Some ending

tag_sign : (bytes : List ℕ) (ending : Ending) → html_start false bytes ≡ Some ending → (others : List ℕ) × (bytes ≡ 60 ∷ others)
unfolding html_start
tag_sign [] ending h = let no : None ≡ Some ending = h in absurd (cc)
tag_sign (b ∷ bs) ending h = by_sign (b == 60) refl h
  where
    by_sign : (t : Bool) → (b == 60) ≡ t → cond t (ending_after false bs) None ≡ Some ending → (others : List ℕ) × (b ∷ bs ≡ 60 ∷ others)
    by_sign true e k = (bs, ap (λ (c : ℕ). c ∷ bs) (eqb-true b 60 e))
    by_sign false e k = let no : None ≡ Some ending = k in absurd (cc)

sign_ends : (ending : Ending) (end : List ℕ) → IsSignOf ending end → IsEnding ending end
sign_ends Comment end h = subst (IsEnding Comment) (sym h) comment_ends
sign_ends Instruction end h = subst (IsEnding Instruction) (sym h) instruction_ends
sign_ends Declaration end h = subst (IsEnding Declaration) (sym h) declaration_ends
sign_ends Cdata end h = subst (IsEnding Cdata) (sym h) cdata_ends
sign_ends RawTag end h = absurd h
sign_ends BlankLine end h = absurd h

starts : (end bytes : List ℕ) → BeginsHtml end bytes → Starts end bytes
starts end bytes h = let sign = tag_sign bytes h.0 h.1 in record { ending = h.0; is = sign_ends h.0 end h.2; others = sign.0; sign = sign.1; start = h.1 }

-- ---- steps

open_begun : (indent : ℕ) (bs : List ℕ) (ending : Ending) → indent < 4 → html_start false (60 ∷ bs) ≡ Some ending → ends_html ending (60 ∷ bs) ≡ false
    → step (state_with NothingLeaf 0) (replicate indent 32 ++ 60 ∷ bs) ≡ made (HtmlLeaf ending) (Begins (HtmlLeaf ending)) (whole (replicate indent 32 ++ 60 ∷ bs))
unfolding step line_step begun_line matched opened going_on ends_in_item container_start leaf_start mark_start columns_in_front take_columns one_column is_blank is_rule heading_level fence_start count_in_front
open_begun zero bs ending few e k = rw e (rw k refl)
open_begun (suc zero) bs ending few e k = rw e (rw k refl)
open_begun (suc (suc zero)) bs ending few e k = rw e (rw k refl)
open_begun (suc (suc (suc zero))) bs ending few e k = rw e (rw k refl)
open_begun (suc (suc (suc (suc n)))) bs ending few e k = absurd (omega (arith, few))

line_begun : (indent : ℕ) (bs : List ℕ) (ending : Ending) → indent < 4 → html_start false (60 ∷ bs) ≡ Some ending → ends_html ending (60 ∷ bs) ≡ true
    → step (state_with NothingLeaf 0) (replicate indent 32 ++ 60 ∷ bs) ≡ made NothingLeaf HtmlDeed (whole (replicate indent 32 ++ 60 ∷ bs))
unfolding step line_step begun_line matched opened going_on ends_in_item container_start leaf_start mark_start columns_in_front take_columns one_column is_blank is_rule heading_level fence_start count_in_front
line_begun zero bs ending few e k = rw e (rw k refl)
line_begun (suc zero) bs ending few e k = rw e (rw k refl)
line_begun (suc (suc zero)) bs ending few e k = rw e (rw k refl)
line_begun (suc (suc (suc zero))) bs ending few e k = rw e (rw k refl)
line_begun (suc (suc (suc (suc n)))) bs ending few e k = absurd (omega (arith, few))

goes_on : (ending : Ending) (line : List ℕ) → ends_by_blank ending ≡ false → ends_html ending line ≡ false → step (state_with (HtmlLeaf ending) 0) line ≡ made (HtmlLeaf ending) GoesOn (whole line)
unfolding step line_step matched going_on take_columns
goes_on ending line b e = rw b (rw e refl)

ends_at : (ending : Ending) (line : List ℕ) → ends_by_blank ending ≡ false → ends_html ending line ≡ true → step (state_with (HtmlLeaf ending) 0) line ≡ made NothingLeaf GoesOn (whole line)
unfolding step line_step matched going_on take_columns
ends_at ending line b e = rw b (rw e refl)

-- ---- what is told

-- html is open, which has these lines
abbrev html_with : List Remaining → Gathering
html_with lines = record { parts = []; kind = Html; apart = false; lines = lines; passed = false; fresh = false; around = [] }

abbrev html_of : List Remaining → BlockContent
html_of lines = record { kind = Html; apart = false; lines = lines }

begin_told : (ending : Ending) (text : Remaining) → record (line_done (Begins (HtmlLeaf ending)) text nothing_told) { fresh = false } ≡ html_with (text ∷ [])
unfolding line_done closed
begin_told ending text = refl

single_told : (text : Remaining) → record (line_done HtmlDeed text nothing_told) { fresh = false } ≡ nothing_open (block (html_of (text ∷ [])) ∷ [])
unfolding line_done closed
single_told text = refl

more_told : (text : Remaining) (lines : List Remaining) → record (line_done GoesOn text (html_with lines)) { fresh = false } ≡ html_with (lines ++ text ∷ [])
unfolding line_done
more_told text lines = refl

html_closed : (lines : List Remaining) → closed (html_with lines) ≡ nothing_open (block (html_of lines) ∷ [])
unfolding closed
html_closed lines = refl

none_closed : (parts : List PartContent) → closed (nothing_open parts) ≡ nothing_open parts
unfolding closed
none_closed parts = refl

-- ---- where nothing is open, the first that happens ends a leaf

-- a deed of a line where no leaf is open
abbrev IsApart : Deed → Type 0
IsApart GoesOn = ⊥
IsApart (Underlines level) = ⊥
IsApart (Tabulates columns) = ⊥
IsApart _ = Unit {0}

same_done : (deed : Deed) (text : Remaining) (g h : Gathering) → IsApart deed → closed g ≡ closed h → line_done deed text g ≡ line_done deed text h
unfolding line_done
same_done Blank text g h a e = ap (λ (x : Gathering). blank_in x) e
same_done (Begins leaf) text g h a e = ap (λ (x : Gathering). begun_in (kind_of leaf) (first_text leaf text) x) e
same_done HtmlDeed text g h a e = ap (λ (x : Gathering). closed_as_it_is (begun_in Html text x)) e
same_done Closes text g h a e = e
same_done (HeadingDeed level) text g h a e = ap (λ (x : Gathering). closed_as_it_is (begun_in (Heading level) (heading_line text) x)) e
same_done RuleDeed text g h a e = ap (λ (x : Gathering). closed_as_it_is (begun_in Rule text x)) e
same_done GoesOn text g h a e = absurd a
same_done (Underlines level) text g h a e = absurd a
same_done (Tabulates columns) text g h a e = absurd a

same_opens : (opens : List Container) (deed : Deed) (text : Remaining) (g h : Gathering) → IsApart deed → closed g ≡ closed h
    → told g (map enter opens ++ events.line deed text ∷ []) ≡ told h (map enter opens ++ events.line deed text ∷ [])
unfolding told
same_opens [] deed text g h a e = ap (λ (x : Gathering). record x { fresh = false }) (same_done deed text g h a e)
same_opens (c ∷ cs) deed text g h a e = ap (λ (x : Gathering). told (entered_in c x) (map enter cs ++ events.line deed text ∷ [])) e

none_less : (n : ℕ) → 0 - n ≡ 0
none_less n = omega arith

apart_by : (done : Step) (deed : Deed) → LeafBehind (state_with NothingLeaf 0) done deed → OfParagraph NothingLeaf deed → IsApart deed
apart_by done GoesOn b p = let no : true ≡ false = b.2 in absurd (cc)
apart_by done (Underlines level) b p = let no : false ≡ true = p in absurd (cc)
apart_by done (Tabulates columns) b p = let no : false ≡ true = p in absurd (cc)
apart_by done Blank b p = tt
apart_by done (Begins leaf) b p = tt
apart_by done HtmlDeed b p = tt
apart_by done Closes b p = tt
apart_by done (HeadingDeed level) b p = tt
apart_by done RuleDeed b p = tt

-- what ends as the same leaf tells the same
same_ended : (g h : Gathering) (lines : List (List ℕ)) → closed g ≡ closed h → ended g (events_from (state_with NothingLeaf 0) lines) ≡ ended h (events_from (state_with NothingLeaf 0) lines)
unfolding events_from told
same_ended g h [] e = ap (λ (x : Gathering). x.parts) e
same_ended g h (text ∷ texts) e =
    let state = state_with NothingLeaf 0 in
    let done = step state text in
    let apart = apart_by done done.line.deed (leaf_behind state text) (step_says state text tt).says.under in
    let opens = drop done.line.kept done.state.containers in
    let first = map enter opens ++ events.line done.line.deed done.line.text ∷ [] in
    let others = events_from done.state texts in
    let here : step_events state done ≡ first = ap (λ (n : ℕ). leaves n ++ first) (none_less done.line.kept) in
    let same : told g (step_events state done) ≡ told h (step_events state done) = ap (told g) here ∙ same_opens opens done.line.deed done.line.text g h apart e ∙ ap (told h) (sym here) in
    ap (λ (x : Gathering). (closed x).parts) (told_then (step_events state done) others g ∙ ap (λ (x : Gathering). told x others) same ∙ sym (told_then (step_events state done) others h))

-- ---- lines

lines_read : (end : List ℕ) (ending : Ending) (is : IsEnding ending end) (before : List Remaining) (lines others : List (List ℕ)) → NoneHas end lines
    → ended (html_with before) (events_from (state_with (HtmlLeaf ending) 0) (lines ++ others)) ≡ ended (html_with (before ++ map whole lines)) (events_from (state_with (HtmlLeaf ending) 0) others)
lines_read end ending is before [] others h = ap (λ (ls : List Remaining). ended (html_with ls) (events_from (state_with (HtmlLeaf ending) 0) others)) (sym (append-nil before))
lines_read end ending is before (line ∷ lines) others h =
    line_read (html_with before) (html_with (before ++ whole line ∷ [])) (HtmlLeaf ending) (HtmlLeaf ending) GoesOn (whole line) line (lines ++ others) (goes_on ending line is.no_blank (is.stays line h.0)) (more_told (whole line) before)
    ∙ lines_read end ending is (before ++ whole line ∷ []) lines others h.1
    ∙ ap (λ (ls : List Remaining). ended (html_with ls) (events_from (state_with (HtmlLeaf ending) 0) others)) (append_assoc before (whole line ∷ []) (map whole lines))

last_read : (end : List ℕ) (ending : Ending) (is : IsEnding ending end) (before : List Remaining) (last after : List ℕ) → Has end last
    → ended (html_with before) (events_from (state_with (HtmlLeaf ending) 0) (last ∷ text_lines after)) ≡ block (html_of (before ++ whole last ∷ [])) ∷ parts_of after
last_read end ending is before last after h =
    let all = before ++ whole last ∷ [] in
    line_read (html_with before) (html_with all) (HtmlLeaf ending) NothingLeaf GoesOn (whole last) last (text_lines after) (ends_at ending last is.no_blank (is.ends last h)) (more_told (whole last) before)
    ∙ same_ended (html_with all) (nothing_open (block (html_of all) ∷ [])) (text_lines after) (html_closed all ∙ sym (none_closed (block (html_of all) ∷ [])))
    ∙ ended_behind (block (html_of all) ∷ []) (events_from (state_with NothingLeaf 0) (text_lines after))
    ∙ ap (λ (ps : List PartContent). block (html_of all) ∷ ps) (sym (read_of after))

first_whole : (indent : ℕ) (first bytes others : List ℕ) → IsBehind first indent bytes → bytes ≡ 60 ∷ others → first ≡ replicate indent 32 ++ 60 ∷ others
first_whole indent first bytes others h e = h.whole ∙ ap (λ (bs : List ℕ). replicate indent 32 ++ bs) e

first_read : (indent : ℕ) (first bytes end : List ℕ) (lines : List (List ℕ)) → IsBehind first indent bytes → (s : Starts end bytes) → (Has end bytes → ⊥)
    → ended nothing_told (events_from (state_with NothingLeaf 0) (first ∷ lines)) ≡ ended (html_with (whole first ∷ [])) (events_from (state_with (HtmlLeaf s.ending) 0) lines)
first_read indent first bytes end lines h s none =
    let same = first_whole indent first bytes s.others h s.sign in
    let begun = open_begun indent s.others s.ending h.few (ap (html_start false) (sym s.sign) ∙ s.start) (ap (ends_html s.ending) (sym s.sign) ∙ s.is.stays bytes none) in
    let here : step (state_with NothingLeaf 0) first ≡ made (HtmlLeaf s.ending) (Begins (HtmlLeaf s.ending)) (whole first) =
    subst (λ (l : List ℕ). step (state_with NothingLeaf 0) l ≡ made (HtmlLeaf s.ending) (Begins (HtmlLeaf s.ending)) (whole l)) (sym same) begun in
    line_read nothing_told (html_with (whole first ∷ [])) NothingLeaf (HtmlLeaf s.ending) (Begins (HtmlLeaf s.ending)) (whole first) first lines here (begin_told s.ending (whole first))

said_lines : (lines : List (List ℕ)) → map text_of (map whole lines) ≡ lines
said_lines [] = refl
said_lines (line ∷ lines) = ap (λ (ls : List (List ℕ)). line ∷ ls) (said_lines lines)

is_html : (lines : List (List ℕ)) → IsHtml (html_of (map whole lines)) lines
is_html lines = record { kind = refl; apart = refl; said = said_lines lines }

pub html_read : HtmlIsRead
html_read text after first last bytes end lines indent are behind begins none has =
    let s = starts end bytes begins in
    let all = first ∷ (lines ++ last ∷ []) in
    let same : (whole first ∷ []) ++ map whole lines ++ whole last ∷ [] ≡ map whole all = ap (λ (ls : List Remaining). whole first ∷ ls) (sym (map-append whole lines (last ∷ []))) in (
      html_of (map whole all),
      is_html all,
      read_of text ∙ ap (λ (ls : List (List ℕ)). ended nothing_told (events_from (state_with NothingLeaf 0) ls)) are ∙ first_read indent first bytes end (lines ++ last ∷ text_lines after) behind s none.0
          ∙ lines_read end s.ending s.is (whole first ∷ []) lines (last ∷ text_lines after) none.1
          ∙ last_read end s.ending s.is ((whole first ∷ []) ++ map whole lines) last after has ∙ ap (λ (ls : List Remaining). block (html_of ls) ∷ parts_of after) same,
    )

open_parts : (ending : Ending) (lines : List Remaining) → ended (html_with lines) (events_from (state_with (HtmlLeaf ending) 0) []) ≡ block (html_of lines) ∷ []
unfolding events_from told closed
open_parts ending lines = refl

pub open_html_read : OpenHtmlIsRead
open_html_read text first bytes end lines indent are behind begins none =
    let s = starts end bytes begins in (
      html_of (map whole (first ∷ lines)),
      is_html (first ∷ lines),
      read_of text ∙ ap (λ (ls : List (List ℕ)). ended nothing_told (events_from (state_with NothingLeaf 0) ls)) (are ∙ ap (λ (ls : List (List ℕ)). first ∷ ls) (sym (append-nil lines)))
          ∙ first_read indent first bytes end (lines ++ []) behind s none.0
          ∙ lines_read end s.ending s.is (whole first ∷ []) lines [] none.1 ∙ open_parts s.ending ((whole first ∷ []) ++ map whole lines),
    )

pub html_line_read : HtmlLineIsRead
html_line_read text after first bytes end indent are behind begins has =
    let s = starts end bytes begins in
    let same = first_whole indent first bytes s.others behind s.sign in
    let begun = line_begun indent s.others s.ending behind.few (ap (html_start false) (sym s.sign) ∙ s.start) (ap (ends_html s.ending) (sym s.sign) ∙ s.is.ends bytes has) in
    let here : step (state_with NothingLeaf 0) first ≡ made NothingLeaf HtmlDeed (whole first) = subst (λ (l : List ℕ). step (state_with NothingLeaf 0) l ≡ made NothingLeaf HtmlDeed (whole l)) (sym same) begun in
    let html = html_of (whole first ∷ []) in (
      html,
      is_html (first ∷ []),
      read_of text ∙ ap (λ (ls : List (List ℕ)). ended nothing_told (events_from (state_with NothingLeaf 0) ls)) are
          ∙ line_read nothing_told (nothing_open (block html ∷ [])) NothingLeaf NothingLeaf HtmlDeed (whole first) first (text_lines after) here (single_told (whole first))
          ∙ ended_behind (block html ∷ []) (events_from (state_with NothingLeaf 0) (text_lines after)) ∙ ap (λ (ps : List PartContent). block html ∷ ps) (sym (read_of after)),
    )

-- ---- html that a blank line ends

blank_is : (line : List ℕ) (t : Bool) → are_blanks line ≡ t → is_blank line ≡ t
unfolding is_blank
blank_is line t h = h

goes_blank : (line : List ℕ) → is_blank line ≡ false → step (state_with (HtmlLeaf BlankLine) 0) line ≡ made (HtmlLeaf BlankLine) GoesOn (whole line)
unfolding step line_step matched going_on take_columns
goes_blank line e = rw e refl

ends_blank : (line : List ℕ) → is_blank line ≡ true → step (state_with (HtmlLeaf BlankLine) 0) line ≡ made NothingLeaf Blank (whole line)
unfolding step line_step matched going_on ends_in_item
ends_blank line h = rw h (blank_begun (state_with (HtmlLeaf BlankLine) 0) (record { count = 0; rest = whole line }) h)

never_ends : (bytes : List ℕ) → ends_html BlankLine bytes ≡ false
unfolding ends_html
never_ends bytes = refl

not_true : (t : Bool) → not t ≡ true → t ≡ false
not_true true h = sym h
not_true false h = refl

blocks_read : (before : List Remaining) (lines others : List (List ℕ)) → none_blank lines ≡ true
    → ended (html_with before) (events_from (state_with (HtmlLeaf BlankLine) 0) (lines ++ others)) ≡ ended (html_with (before ++ map whole lines)) (events_from (state_with (HtmlLeaf BlankLine) 0) others)
blocks_read before [] others h = ap (λ (ls : List Remaining). ended (html_with ls) (events_from (state_with (HtmlLeaf BlankLine) 0) others)) (sym (append-nil before))
blocks_read before (line ∷ lines) others h =
    let both = and_parts (not (are_blanks line)) (none_blank lines) h in
    line_read (html_with before) (html_with (before ++ whole line ∷ [])) (HtmlLeaf BlankLine) (HtmlLeaf BlankLine) GoesOn (whole line) line (lines ++ others) (goes_blank line (blank_is line false (not_true (are_blanks line) both.0))) (more_told (whole line) before)
    ∙ blocks_read (before ++ whole line ∷ []) lines others both.1
    ∙ ap (λ (ls : List Remaining). ended (html_with ls) (events_from (state_with (HtmlLeaf BlankLine) 0) others)) (append_assoc before (whole line ∷ []) (map whole lines))

-- a blank line that ends html, and one where nothing is open
abbrev passed : Gathering
passed = record { parts = []; kind = Nothing; apart = false; lines = []; passed = true; fresh = false; around = [] }

ended_told : (text : Remaining) (lines : List Remaining) → record (line_done Blank text (html_with lines)) { fresh = false } ≡ put_behind (block (html_of lines) ∷ []) passed
unfolding line_done closed
ended_told text lines = refl

passed_told : (text : Remaining) → record (line_done Blank text nothing_told) { fresh = false } ≡ passed
unfolding line_done closed
passed_told text = refl

passed_behind : (before : List PartContent) (events : List Event) → ended (put_behind before passed) events ≡ before ++ ended passed events
passed_behind before events = ap (λ (g : Gathering). (closed g).parts) (told_behind events before passed) ∙ ap (λ (g : Gathering). g.parts) (closed_behind before (told passed events))

empty_line : (after : List ℕ) → text_lines (10 ∷ after) ≡ [] ∷ text_lines after
unfolding text_lines
empty_line after = refl

none_is_blank : is_blank [] ≡ true
unfolding is_blank
none_is_blank = refl

blank_read : (after : List ℕ) → parts_of (10 ∷ after) ≡ ended passed (events_from (state_with NothingLeaf 0) (text_lines after))
blank_read after =
    read_of (10 ∷ after) ∙ ap (λ (ls : List (List ℕ)). ended nothing_told (events_from (state_with NothingLeaf 0) ls)) (empty_line after)
    ∙ line_read nothing_told passed NothingLeaf NothingLeaf Blank (whole []) [] (text_lines after) (blank_outside 0 [] none_is_blank) (passed_told (whole []))

pub html_ends_at_blank : HtmlEndsAtBlank
html_ends_at_blank text after first last bytes lines indent are here start none blank =
    let sign = tag_sign bytes BlankLine start in
    let same = first_whole indent first bytes sign.0 here sign.1 in
    let begun = open_begun indent sign.0 BlankLine here.few (ap (html_start false) (sym sign.1) ∙ start) (never_ends (60 ∷ sign.0)) in
    let opens : step (state_with NothingLeaf 0) first ≡ made (HtmlLeaf BlankLine) (Begins (HtmlLeaf BlankLine)) (whole first) =
    subst (λ (l : List ℕ). step (state_with NothingLeaf 0) l ≡ made (HtmlLeaf BlankLine) (Begins (HtmlLeaf BlankLine)) (whole l)) (sym same) begun in
    let html = html_of (map whole (first ∷ lines)) in
    let others = text_lines after in (
      html,
      is_html (first ∷ lines),
      read_of text ∙ ap (λ (ls : List (List ℕ)). ended nothing_told (events_from (state_with NothingLeaf 0) ls)) are
          ∙ line_read nothing_told (html_with (whole first ∷ [])) NothingLeaf (HtmlLeaf BlankLine) (Begins (HtmlLeaf BlankLine)) (whole first) first (lines ++ last ∷ others) opens (begin_told BlankLine (whole first))
          ∙ blocks_read (whole first ∷ []) lines (last ∷ others) none
          ∙ line_read (html_with (map whole (first ∷ lines))) (put_behind (block html ∷ []) passed) (HtmlLeaf BlankLine) NothingLeaf Blank (whole last) last others (ends_blank last (blank_is last true blank)) (ended_told (whole last) (map whole (first ∷ lines)))
          ∙ passed_behind (block html ∷ []) (events_from (state_with NothingLeaf 0) others) ∙ ap (λ (ps : List PartContent). block html ∷ ps) (sym (blank_read after)),
    )
