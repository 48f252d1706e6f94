-- A line with blanks in front of a text is a paragraph's: its first one, or the next one.
use Rattle.std.proofs.Common.{◌≡◌, ℕ, zero, suc, ◌+◌, ◌-◌, ◌<◌, ◌%◌, Bool, true, false, cond, not, ◌||◌, ◌&&◌, ◌==◌, nat_lt, List, [], ◌∷◌, ◌++◌, drop, replicate, Option, Some, None, refl, sym, ap, subst, ◌∙◌, arith}
use Rattle.std.proofs.lemmas.Bool.{and_parts, eqb-true}
use Rattle.std.proofs.lemmas.Bool.Decides.{nat_tests}
use Rattle.std.specs.Char.{is_ascii_digit}
use Rattle.std.specs.List.{list_all, prefix_len}
use Rattle.markdown_marks.specs.Bytes.{count_in_front, is_blank, is_blank_byte, is_run_alone, without_blanks}
use Rattle.markdown_marks.specs.Items.{marker_start}
use Rattle.markdown_marks.specs.Marks.{is_rule, heading_level, fence_start, underline_level}
use Rattle.markdown_marks.specs.Remaining.{Remaining, columns_in_front, further, one_column, take_columns, whole}
use Rattle.markdown_marks.specs.Tables.{cell_count, back_spot, columns_from, delimited_columns}
use Rattle.markdown_html.specs.Starts.{html_start}
use Rattle.markdown_blocks.specs.Containers.{container_after, container_start, matched, opened, ends_in_item}
use Rattle.markdown_blocks.specs.Leaves.{joining_of, rule_start, leaf_start, mark_start, going_on}
use Rattle.markdown_blocks.specs.Steps.{Step, step, line_step, begun_line}
use Rattle.markdown_blocks.specs.declared.leaves.Deed.{Deed}
use Rattle.markdown_blocks.specs.declared.leaves.Deed.TheVariants.{Blank, Begins, GoesOn}
use Rattle.markdown_blocks.specs.declared.leaves.Leaf.{Leaf}
use Rattle.markdown_blocks.specs.declared.leaves.Leaf.TheVariants.{Nothing, Paragraph}
use Rattle.markdown_laws.specs.Plain.{is_sign, is_special}
use Rattle.markdown_laws.proofs.LineLemmas.{no_sign, state_with}
use Rattle.markdown_part_laws.proofs.BlankLemmas.{blank_begun}

-- ---- a byte that isn't special begins nothing

abbrev pub at : ℕ → List ℕ → Remaining
at column bytes = record { column = column; pending = 0; bytes = bytes }

is_false : (b : Bool) → (b ≡ true → false ≡ true) → b ≡ false
is_false true h = let e : false ≡ true = h refl in absurd (cc)
is_false false h = refl

no_digit : (b : ℕ) → is_special b ≡ false → is_ascii_digit b ≡ false
no_digit b h = not_first (is_ascii_digit b) (is_sign b) h
  where
    not_first : (p q : Bool) → (p || q) ≡ false → p ≡ false
    not_first true q k = k
    not_first false q k = refl

no_run : (b k : ℕ) (bs : List ℕ) → (b == k) ≡ false → count_in_front k (b ∷ bs) ≡ 0
unfolding count_in_front
no_run b k bs e = rw e refl

no_rule : (b : ℕ) (bs : List ℕ) → is_special b ≡ false → is_rule (b ∷ bs) ≡ false
unfolding is_rule
no_rule b bs h = rw (no_sign b 42 refl h) (rw (no_sign b 45 refl h) (rw (no_sign b 95 refl h) refl))

no_underline : (b : ℕ) (bs : List ℕ) → is_special b ≡ false → underline_level (b ∷ bs) ≡ None
unfolding underline_level is_run_alone
no_underline b bs h = rw (no_run b 61 bs (no_sign b 61 refl h)) (rw (no_run b 45 bs (no_sign b 45 refl h)) refl)

no_heading : (b : ℕ) (bs : List ℕ) → is_special b ≡ false → heading_level (b ∷ bs) ≡ None
unfolding heading_level
no_heading b bs h = rw (no_run b 35 bs (no_sign b 35 refl h)) refl

no_fence : (b : ℕ) (bs : List ℕ) → is_special b ≡ false → fence_start (b ∷ bs) ≡ None
unfolding fence_start
no_fence b bs h = rw (no_sign b 96 refl h) (rw (no_sign b 126 refl h) refl)

no_html : (in_paragraph : Bool) (b : ℕ) (bs : List ℕ) → is_special b ≡ false → html_start in_paragraph (b ∷ bs) ≡ None
unfolding html_start
no_html in_paragraph b bs h = rw (no_sign b 60 refl h) refl

no_marker : (b : ℕ) (bs : List ℕ) → is_special b ≡ false → marker_start (b ∷ bs) ≡ None
no_marker b bs h = rw (no_sign b 42 refl h) (rw (no_sign b 43 refl h) (rw (no_sign b 45 refl h) (rw (no_digit b h) refl)))

-- after a letter, as here A, no row of delimiters is left
stays_nowhere : (count : ℕ) (bs : List ℕ) → columns_from (back_spot 65) count bs ≡ 0
unfolding columns_from
stays_nowhere count [] = refl
stays_nowhere count (b ∷ bs) = stays_nowhere count bs

no_delimiters : (b : ℕ) (bs : List ℕ) → is_special b ≡ false → delimited_columns (b ∷ bs) ≡ 0
unfolding delimited_columns without_blanks columns_from
no_delimiters b bs h =
    rw (no_sign b 32 refl h) (rw (no_sign b 9 refl h) (rw (no_sign b 124 refl h) (rw (no_sign b 32 refl h) (rw (no_sign b 9 refl h) (rw (no_sign b 58 refl h) (rw (no_sign b 45 refl h) (stays_nowhere 0 bs)))))))

none_after : (in_paragraph : Bool) (indent column b : ℕ) (bs : List ℕ) → is_special b ≡ false → container_after in_paragraph indent (at column (b ∷ bs)) ≡ None
none_after true indent column b bs h = rw (no_sign b 62 refl h) (rw (no_rule b bs h) (rw (no_underline b bs h) (rw (no_marker b bs h) refl)))
none_after false indent column b bs h = rw (no_sign b 62 refl h) (rw (no_rule b bs h) (rw (no_marker b bs h) refl))

-- ---- blanks in front of it

no_blank : (b : ℕ) → is_special b ≡ false → is_blank_byte b ≡ false
no_blank b h = rw (no_sign b 32 refl h) (no_sign b 9 refl h)

one_more : (n : ℕ) → 1 + n ≡ suc n
one_more n = omega arith

prefix_one : (p : ℕ → Bool) (b : ℕ) (bs : List ℕ) → p b ≡ true → prefix_len p (b ∷ bs) ≡ suc (prefix_len p bs)
prefix_one p b bs e = ap (λ t. cond t (1 + prefix_len p bs) 0) e ∙ one_more (prefix_len p bs)

prefix_none : (p : ℕ → Bool) (b : ℕ) (bs : List ℕ) → p b ≡ false → prefix_len p (b ∷ bs) ≡ 0
prefix_none p b bs e = ap (λ t. cond t (1 + prefix_len p bs) 0) e

-- the text of a line is what stands behind the blanks
behind_blanks : (front : List ℕ) (b : ℕ) (bs : List ℕ) → is_blank front ≡ true → is_special b ≡ false → without_blanks (front ++ b ∷ bs) ≡ b ∷ bs
unfolding is_blank without_blanks
behind_blanks [] b bs h e = ap (λ (n : ℕ). drop n (b ∷ bs)) (prefix_none is_blank_byte b bs (no_blank b e))
behind_blanks (c ∷ cs) b bs h e =
    let parts = and_parts (is_blank_byte c) (list_all is_blank_byte cs) h in
    ap (λ (n : ℕ). drop n (c ∷ (cs ++ b ∷ bs))) (prefix_one is_blank_byte c (cs ++ b ∷ bs) parts.0) ∙ behind_blanks cs b bs parts.1 e

not_blank : (front : List ℕ) (b : ℕ) (bs : List ℕ) → is_special b ≡ false → is_blank (front ++ b ∷ bs) ≡ false
unfolding is_blank
not_blank [] b bs e = ap (λ t. t && list_all is_blank_byte bs) (no_blank b e)
not_blank (c ∷ cs) b bs e = and_no (is_blank_byte c) _ (not_blank cs b bs e)
  where
    and_no : (p q : Bool) → q ≡ false → (p && q) ≡ false
    and_no true q k = k
    and_no false q k = refl

-- One blank column is taken in front of a text, or none is there.
data Next (column pending : ℕ) (front : List ℕ) (b : ℕ) (bs : List ℕ) : Type 0 where
  none : one_column (record { column = column; pending = pending; bytes = front ++ b ∷ bs }) ≡ None → record { column = column; pending = pending; bytes = front ++ b ∷ bs } ≡ at column (b ∷ bs) → Next column pending front b bs
  one : (after left : ℕ) (others : List ℕ) → one_column (record { column = column; pending = pending; bytes = front ++ b ∷ bs }) ≡ Some (record { column = after; pending = left; bytes = others ++ b ∷ bs })
      → is_blank others ≡ true → Next column pending front b bs

no_pending : (pending : ℕ) → nat_lt 0 pending ≡ false → pending ≡ 0
no_pending zero h = refl
no_pending (suc n) h = absurd (grind (arith, nat_tests))

pending_one : (column pending : ℕ) (bytes : List ℕ) → nat_lt 0 pending ≡ true → one_column (record { column = column; pending = pending; bytes = bytes }) ≡ Some (record { column = further 1 column; pending = pending - 1; bytes = bytes })
unfolding one_column
pending_one column pending bytes e = rw e refl

none_taken : (column b : ℕ) (bs : List ℕ) → is_special b ≡ false → one_column (at column (b ∷ bs)) ≡ None
unfolding one_column
none_taken column b bs h = rw (no_sign b 32 refl h) (rw (no_sign b 9 refl h) refl)

space_taken : (column : ℕ) (bs : List ℕ) → one_column (at column (32 ∷ bs)) ≡ Some (record { column = further 1 column; pending = 0; bytes = bs })
unfolding one_column
space_taken column bs = refl

tab_taken : (column : ℕ) (bs : List ℕ) → one_column (at column (9 ∷ bs)) ≡ Some (record { column = further 1 column; pending = 3 - column % 4; bytes = bs })
unfolding one_column
tab_taken column bs = refl

next_byte : (p q : Bool) (column c : ℕ) (cs : List ℕ) (b : ℕ) (bs : List ℕ) → (c == 32) ≡ p → (c == 9) ≡ q → (p || q) ≡ true → is_blank cs ≡ true → Next column 0 (c ∷ cs) b bs
next_byte true q column c cs b bs e f h k =
    one (further 1 column) 0 cs (ap (λ (d : ℕ). one_column (at column (d ∷ (cs ++ b ∷ bs)))) (eqb-true c 32 e) ∙ space_taken column (cs ++ b ∷ bs)) k
next_byte false true column c cs b bs e f h k =
    one (further 1 column) (3 - column % 4) cs (ap (λ (d : ℕ). one_column (at column (d ∷ (cs ++ b ∷ bs)))) (eqb-true c 9 f) ∙ tab_taken column (cs ++ b ∷ bs)) k
next_byte false false column c cs b bs e f h k = let no : false ≡ true = h in absurd (cc)

next_here : (column : ℕ) (front : List ℕ) (b : ℕ) (bs : List ℕ) → is_blank front ≡ true → is_special b ≡ false → Next column 0 front b bs
unfolding is_blank
next_here column [] b bs h e = none (none_taken column b bs e) refl
next_here column (c ∷ cs) b bs h e =
    let parts = and_parts (is_blank_byte c) (list_all is_blank_byte cs) h in next_byte (c == 32) (c == 9) column c cs b bs refl refl parts.0 parts.1

next_by : (t : Bool) (column pending : ℕ) (front : List ℕ) (b : ℕ) (bs : List ℕ) → nat_lt 0 pending ≡ t → is_blank front ≡ true → is_special b ≡ false → Next column pending front b bs
next_by true column pending front b bs e h k = one (further 1 column) (pending - 1) front (pending_one column pending (front ++ b ∷ bs) e) h
next_by false column pending front b bs e h k = subst (λ (n : ℕ). Next column n front b bs) (sym (no_pending pending e)) (next_here column front b bs h k)

take_none : (n : ℕ) (r : Remaining) → one_column r ≡ None → take_columns (suc n) r ≡ r
unfolding take_columns
take_none n r e = rw e refl

take_one : (n : ℕ) (r next : Remaining) → one_column r ≡ Some next → take_columns (suc n) r ≡ take_columns n next
unfolding take_columns
take_one n r next e = rw e refl

count_one : (n : ℕ) (r next : Remaining) → one_column r ≡ Some next → columns_in_front (suc n) r ≡ 1 + columns_in_front n next
unfolding columns_in_front
count_one n r next e = rw e refl

same_numbers : (a c : ℕ) → a ≡ c → (a == c) ≡ true
same_numbers a c e = grind (arith, nat_tests, e)

one_less : (k n : ℕ) → (1 + k == suc n) ≡ false → (k == n) ≡ false
one_less k n h = is_false (k == n) (λ e. sym h ∙ ap (λ (m : ℕ). 1 + m == suc n) (eqb-true k n e) ∙ same_numbers (1 + n) (suc n) (one_more n))

-- a rest of a line that is blanks and then a text
abbrev pub before : (column pending : ℕ) → (front : List ℕ) (b : ℕ) → List ℕ → Remaining
before column pending front b bs = record { column = column; pending = pending; bytes = front ++ b ∷ bs }

-- the text is what is left behind so many columns
abbrev pub IsLeft : ℕ → Remaining → (b : ℕ) → List ℕ → Type 0
IsLeft n rest b bs = (after : ℕ) × (take_columns n rest ≡ at after (b ∷ bs))

none_fewer : (rest : Remaining) → (columns_in_front 0 rest == 0) ≡ false → ⊥
unfolding columns_in_front
none_fewer rest h = let no : true ≡ false = h in absurd (cc)

left_by : (n column pending : ℕ) (front : List ℕ) (b : ℕ) (bs : List ℕ) → (columns_in_front (suc n) (before column pending front b bs) == suc n) ≡ false
    → ((after left : ℕ) (others : List ℕ) → is_blank others ≡ true → (columns_in_front n (before after left others b bs) == n) ≡ false → IsLeft n (before after left others b bs) b bs)
    → Next column pending front b bs → IsLeft (suc n) (before column pending front b bs) b bs
left_by n column pending front b bs fewer later (none k same) = (column, take_none n (before column pending front b bs) k ∙ same)
left_by n column pending front b bs fewer later (one after left others k blank) =
    let here = before column pending front b bs in
    let next = before after left others b bs in
    let found = later after left others blank (one_less (columns_in_front n next) n (ap (λ (m : ℕ). m == suc n) (sym (count_one n here next k)) ∙ fewer)) in
    (found.0, take_one n here next k ∙ found.1)

-- the text of a line is left behind the columns in front of it, where these are fewer than are asked for
pub text_taken : (n column pending : ℕ) (front : List ℕ) (b : ℕ) (bs : List ℕ) → is_blank front ≡ true → is_special b ≡ false → (columns_in_front n (before column pending front b bs) == n) ≡ false
    → IsLeft n (before column pending front b bs) b bs
text_taken zero column pending front b bs h e fewer = absurd (none_fewer (before column pending front b bs) fewer)
text_taken (suc n) column pending front b bs h e fewer =
    left_by n column pending front b bs fewer (λ after left others blank few. text_taken n after left others b bs blank e few) (next_by (nat_lt 0 pending) column pending front b bs refl h e)

-- ---- the first line of a paragraph

-- a step in no container, which does this
abbrev pub done_at : Leaf → ℕ → Deed → Remaining → Step
done_at leaf cells deed text = record { state = state_with leaf cells; line = record { kept = 0; opened = 0; deed = deed; text = text } }

starts_none : (indent b : ℕ) (bs : List ℕ) → indent < 4 → is_special b ≡ false → container_start false (whole (replicate indent 32 ++ b ∷ bs)) ≡ container_after false indent (at indent (b ∷ bs))
unfolding container_start columns_in_front take_columns one_column
starts_none zero b bs few h = rw (no_sign b 32 refl h) (rw (no_sign b 9 refl h) refl)
starts_none (suc zero) b bs few h = rw (no_sign b 32 refl h) (rw (no_sign b 9 refl h) refl)
starts_none (suc (suc zero)) b bs few h = rw (no_sign b 32 refl h) (rw (no_sign b 9 refl h) refl)
starts_none (suc (suc (suc zero))) b bs few h = rw (no_sign b 32 refl h) (rw (no_sign b 9 refl h) refl)
starts_none (suc (suc (suc (suc n)))) b bs few h = absurd (omega (arith, few))

starts_mark : (indent b : ℕ) (bs : List ℕ) → indent < 4 → is_special b ≡ false
    → leaf_start (joining_of false true) (whole (replicate indent 32 ++ b ∷ bs)) ≡ mark_start (joining_of false true) indent (whole (replicate indent 32 ++ b ∷ bs)) (at indent (b ∷ bs))
unfolding leaf_start columns_in_front take_columns one_column is_blank
starts_mark zero b bs few h = rw (no_sign b 32 refl h) (rw (no_sign b 9 refl h) refl)
starts_mark (suc zero) b bs few h = rw (no_sign b 32 refl h) (rw (no_sign b 9 refl h) refl)
starts_mark (suc (suc zero)) b bs few h = rw (no_sign b 32 refl h) (rw (no_sign b 9 refl h) refl)
starts_mark (suc (suc (suc zero))) b bs few h = rw (no_sign b 32 refl h) (rw (no_sign b 9 refl h) refl)
starts_mark (suc (suc (suc (suc n)))) b bs few h = absurd (omega (arith, few))

mark_apart : (indent b column : ℕ) (bs : List ℕ) (uncut : Remaining) → is_special b ≡ false → mark_start (joining_of false true) indent uncut (at column (b ∷ bs)) ≡ rule_start (at column (b ∷ bs))
unfolding mark_start
mark_apart indent b column bs uncut h = rw (no_heading b bs h) (rw (no_fence b bs h) (rw (no_html false b bs h) refl))

begun_where : (line : List ℕ) (b column cells : ℕ) (bs : List ℕ) → is_special b ≡ false → container_start false (whole line) ≡ None → leaf_start (joining_of false true) (whole line) ≡ rule_start (at column (b ∷ bs))
    → step (state_with Nothing cells) line ≡ done_at Paragraph (cell_count (b ∷ bs)) (Begins Paragraph) (at column (b ∷ bs))
unfolding step line_step begun_line matched opened going_on ends_in_item
begun_where line b column cells bs h e f = rw e (rw f (rw (no_rule b bs h) (rw (no_sign b 91 refl h) refl)))

-- behind three spaces at most a line begins a paragraph where none is open
pub begun : (indent b cells : ℕ) (bs : List ℕ) → indent < 4 → is_special b ≡ false
    → step (state_with Nothing cells) (replicate indent 32 ++ b ∷ bs) ≡ done_at Paragraph (cell_count (b ∷ bs)) (Begins Paragraph) (at indent (b ∷ bs))
begun indent b cells bs few h =
    begun_where (replicate indent 32 ++ b ∷ bs) b indent cells bs h (starts_none indent b bs few h ∙ none_after false indent indent b bs h)
    (starts_mark indent b bs few h ∙ mark_apart indent b indent bs (whole (replicate indent 32 ++ b ∷ bs)) h)

-- ---- the next line

either_none : {A : Type 0} (t : Bool) (o : Option A) → (t ≡ false → o ≡ None) → cond t None o ≡ None
either_none true o e = refl
either_none false o e = e refl

next_none : (front : List ℕ) (b : ℕ) (bs : List ℕ) → is_blank front ≡ true → is_special b ≡ false → container_start true (whole (front ++ b ∷ bs)) ≡ None
unfolding container_start
next_none front b bs h e =
    let rest = whole (front ++ b ∷ bs) in
    either_none (columns_in_front 4 rest == 4) (container_after true (columns_in_front 4 rest) (take_columns 4 rest))
    (λ fewer. let taken = text_taken 4 0 0 front b bs h e fewer in ap (λ (r : Remaining). container_after true (columns_in_front 4 rest) r) taken.1 ∙ none_after true (columns_in_front 4 rest) taken.0 b bs e)

gone_code : (line : List ℕ) (cells : ℕ) → container_start true (whole line) ≡ None → is_blank line ≡ false → (columns_in_front 4 (whole line) == 4) ≡ true
    → step (state_with Paragraph cells) line ≡ done_at Paragraph (cell_count (without_blanks line)) GoesOn (at 0 (without_blanks line))
unfolding step line_step begun_line matched opened going_on ends_in_item leaf_start
gone_code line cells e f four = rw e (rw f (rw four refl))

mark_next : (line : List ℕ) (b column : ℕ) (bs : List ℕ) → is_special b ≡ false → is_blank line ≡ false → (columns_in_front 4 (whole line) == 4) ≡ false → take_columns 4 (whole line) ≡ at column (b ∷ bs)
    → leaf_start (joining_of true true) (whole line) ≡ rule_start (at column (b ∷ bs))
unfolding leaf_start mark_start
mark_next line b column bs h f fewer taken =
    rw f (rw fewer (rw taken (rw (no_heading b bs h) (rw (no_fence b bs h) (rw (no_html true b bs h) (rw (no_underline b bs h) refl))))))

not_as_many : (cells : ℕ) → (not (cells == 0) && (0 == cells)) ≡ false
not_as_many cells = grind (arith, nat_tests)

gone_words : (line : List ℕ) (b column cells : ℕ) (bs : List ℕ) → is_special b ≡ false → container_start true (whole line) ≡ None → leaf_start (joining_of true true) (whole line) ≡ rule_start (at column (b ∷ bs))
    → step (state_with Paragraph cells) line ≡ done_at Paragraph (cell_count (b ∷ bs)) GoesOn (at column (b ∷ bs))
unfolding step line_step begun_line matched opened going_on ends_in_item
gone_words line b column cells bs h e f = rw e (rw f (rw (no_rule b bs h) (rw (no_delimiters b bs h) (rw (not_as_many cells) refl))))

by_test : (t : Bool) (A : Type 0) → (t ≡ true → A) → (t ≡ false → A) → A
by_test true A f g = f refl
by_test false A f g = g refl

-- a line goes on with a paragraph that is open, whatever blanks are in front of it
pub gone_on : (front : List ℕ) (b cells : ℕ) (bs : List ℕ) → is_blank front ≡ true → is_special b ≡ false
    → (column : ℕ) × (step (state_with Paragraph cells) (front ++ b ∷ bs) ≡ done_at Paragraph (cell_count (b ∷ bs)) GoesOn (at column (b ∷ bs)))
gone_on front b cells bs h e =
    let line = front ++ b ∷ bs in
    by_test (columns_in_front 4 (whole line) == 4) ((column : ℕ) × (step (state_with Paragraph cells) line ≡ done_at Paragraph (cell_count (b ∷ bs)) GoesOn (at column (b ∷ bs))))
    (λ four. (0, gone_code line cells (next_none front b bs h e) (not_blank front b bs e) four ∙ ap (λ (t : List ℕ). done_at Paragraph (cell_count t) GoesOn (at 0 t)) (behind_blanks front b bs h e)))
    (λ fewer. let taken = text_taken 4 0 0 front b bs h e fewer in
    (taken.0, gone_words line b taken.0 cells bs e (next_none front b bs h e) (mark_next line b taken.0 bs e (not_blank front b bs e) fewer taken.1)))

-- ---- a blank line

-- a blank line leaves nothing open where nothing was
pub blank_outside : (cells : ℕ) (line : List ℕ) → is_blank line ≡ true → step (state_with Nothing cells) line ≡ done_at Nothing 0 Blank (whole line)
unfolding step line_step matched going_on ends_in_item
blank_outside cells line h = blank_begun (state_with Nothing cells) (record { count = 0; rest = whole line }) h

-- a blank line ends a paragraph
pub blank_inside : (cells : ℕ) (line : List ℕ) → is_blank line ≡ true → step (state_with Paragraph cells) line ≡ done_at Nothing 0 Blank (whole line)
unfolding step line_step matched going_on ends_in_item
blank_inside cells line h = blank_begun (state_with Paragraph cells) (record { count = 0; rest = whole line }) h
