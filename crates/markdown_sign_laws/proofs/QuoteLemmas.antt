-- A quote ends at a blank line.
use Rattle.std.proofs.Common.{◌≡◌, ℕ, zero, suc, ◌<◌, Bool, true, false, cond, not, ◌||◌, ◌&&◌, ◌==◌, List, [], ◌∷◌, ◌++◌, map, length, take, drop, replicate, Option, Some, None, is_some, refl, sym, ap, subst, ◌∙◌, append_assoc, arith}
use Rattle.std.proofs.lemmas.Bool.{and_parts, false_from_ne_true, not_from_false, or_right}
use Rattle.std.proofs.lemmas.Bool.Decides.{nat_tests}
use Rattle.std.proofs.lemmas.List.{map-append, nil_from_length}
use Rattle.std.specs.List.{list_all, prefix_len}
use Rattle.markdown_marks.specs.Bytes.{first, is_blank}
use Rattle.markdown_marks.specs.Remaining.{Remaining, whole, one_column, take_columns, columns_in_front, skip}
use Rattle.markdown_blocks.specs.Containers.{Matched, after_quote, container_start, ends_in_item, goes_on, match_more, matched}
use Rattle.markdown_blocks.specs.Events.{Event, enter, leave, events_from}
use Rattle.markdown_blocks.specs.Leaves.{going_on, is_bare, is_paragraph}
use Rattle.markdown_blocks.specs.Lines.{end_len, is_line_end, text_lines}
use Rattle.markdown_blocks.specs.Steps.{State, Step, begun_line, line_done, line_step, matched_line, step}
use Rattle.markdown_blocks.specs.declared.containers.Container.{Container}
use Rattle.markdown_blocks.specs.declared.containers.Container.TheVariants.{Quote}
use Rattle.markdown_blocks.specs.declared.leaves.Deed.TheVariants.{Blank}
use Rattle.markdown_blocks.proofs.AlikeLemmas.{Alike, NoTab}
use Rattle.markdown_blocks.proofs.ApartLemmas.{DoesApart, step_apart}
use Rattle.markdown_blocks.proofs.TextLemmas.{line_front}
use Rattle.markdown_blocks.proofs.WithinLemmas.{SameBare, at_first, within}
use Rattle.markdown_leaves.specs.Gather.{Gathering, closed, left_in, nothing_told}
use Rattle.markdown_leaves.specs.Parts.{PartContent, begins, ends}
use Rattle.markdown_leaves.specs.Told.{happened, parts_of, told}
use Rattle.markdown_leaves.specs.declared.parts.Kind.{Kind}
use Rattle.markdown_leaves.specs.declared.parts.Kind.TheVariants.{Nothing}
use Rattle.markdown_laws.specs.Quotes.{AreQuoted, IsQuoted, has_no_tab, has_room, quote_sign, spelled}
use Rattle.markdown_laws.proofs.AroundLemmas.{closed_under, fits_from, told_under, under}
use Rattle.markdown_laws.proofs.BehindLemmas.{behind, closed_behind, told_behind}
use Rattle.markdown_laws.proofs.FenceLemmas.{ended, ended_behind, not_closing, read_of}
use Rattle.markdown_laws.proofs.FlatLemmas.{flat_event, flat_told, spelled_flat, told_flat}
use Rattle.markdown_laws.proofs.HeldLemmas.{AllGoOn, behind_lines, ended_flat, fits_flat, no_tabs, told_then}
use Rattle.markdown_laws.proofs.RoomLemmas.{rooms_of}
use Rattle.markdown_part_laws.proofs.BlankLemmas.{blank_begun, blank_taken, no_opens}
use Rattle.markdown_sign_laws.specs.Ends.{EndsInBlock, QuoteEndsBehindBlock, BeginsUnsigned, QuoteEndsAtBlank, QuoteEndsBehindBlank, begins_blank}
use Rattle.markdown_sign_laws.specs.QuoteSigns.{HasQuoteSign}
use Rattle.markdown_sign_laws.specs.Words.{are_blanks, is_space_or_tab}
use Rattle.markdown_sign_laws.proofs.ClosedLemmas.{none_open}
use Rattle.markdown_sign_laws.proofs.LastLeafLemmas.{none_open_behind}
use Rattle.markdown_sign_laws.proofs.EndLemmas.{IsAfter, container_ends}
use Rattle.markdown_sign_laws.proofs.IdleLemmas.{closed_around, closed_fresh, closed_kind, lines_idle}
use Rattle.markdown_sign_laws.proofs.OpenLemmas.{idle, opens, opens_flat, opens_from, same_parts}
use Rattle.markdown_sign_laws.proofs.RunLemmas.{other_sign}
use Rattle.markdown_sign_laws.proofs.SignLemmas.{quote_signs_said}

-- ---- a line of a quote

-- a quote begins in this line, or goes on in it, and leaves that one
record Quotes (line held : List ℕ) : Type 0 where
  rest : Remaining
  alike : Alike rest (whole held)
  starts : container_start false (whole line) ≡ Some (record { container = Quote; rest = rest })
  on : (bare : Bool) → goes_on Quote bare (whole line) ≡ Some rest

-- what is behind the sign
abbrev behind_sign : List ℕ → Remaining
behind_sign line = after_quote (take_columns 4 (whole line))

spaced_quotes : (indent : ℕ) (held : List ℕ) → indent < 4 → NoTab held → Quotes (replicate indent 32 ++ 62 ∷ 32 ∷ held) held
unfolding container_start goes_on columns_in_front take_columns one_column skip
spaced_quotes zero held few h = record { rest = behind_sign (62 ∷ 32 ∷ held); alike = record { bytes = refl; first = refl; second = refl; tabs = h }; starts = refl; on = λ bare. refl }
spaced_quotes (suc zero) held few h = record { rest = behind_sign (32 ∷ 62 ∷ 32 ∷ held); alike = record { bytes = refl; first = refl; second = refl; tabs = h }; starts = refl; on = λ bare. refl }
spaced_quotes (suc (suc zero)) held few h = record { rest = behind_sign (32 ∷ 32 ∷ 62 ∷ 32 ∷ held); alike = record { bytes = refl; first = refl; second = refl; tabs = h }; starts = refl; on = λ bare. refl }
spaced_quotes (suc (suc (suc zero))) held few h = record { rest = behind_sign (32 ∷ 32 ∷ 32 ∷ 62 ∷ 32 ∷ held); alike = record { bytes = refl; first = refl; second = refl; tabs = h }; starts = refl; on = λ bare. refl }
spaced_quotes (suc (suc (suc (suc n)))) held few h = absurd (omega (arith, few))

-- behind a sign that no blank follows nothing is taken
none_taken : (column : ℕ) (held : List ℕ) → not (first held == 32) ≡ true → NoTab held → take_columns 1 (record { column = column; pending = 0; bytes = held }) ≡ record { column = column; pending = 0; bytes = held }
unfolding take_columns one_column
none_taken column [] other h = refl
none_taken column (b ∷ bs) other h = rw (not_closing (b == 32) other) (rw h.0 refl)

close_quotes : (indent : ℕ) (held : List ℕ) → indent < 4 → not (first held == 32) ≡ true → NoTab held → Quotes (replicate indent 32 ++ 62 ∷ held) held
unfolding container_start goes_on columns_in_front one_column skip take_columns
close_quotes zero held few other h = record { rest = record { column = 1; pending = 0; bytes = held }; alike = record { bytes = refl; first = refl; second = refl; tabs = h }; starts = ap (λ (r : Remaining). Some (record { container = Quote; rest = r })) (none_taken 1 held other h); on = λ bare. ap (λ (r : Remaining). Some r) (none_taken 1 held other h) }
close_quotes (suc zero) held few other h = record { rest = record { column = 2; pending = 0; bytes = held }; alike = record { bytes = refl; first = refl; second = refl; tabs = h }; starts = ap (λ (r : Remaining). Some (record { container = Quote; rest = r })) (none_taken 2 held other h); on = λ bare. ap (λ (r : Remaining). Some r) (none_taken 2 held other h) }
close_quotes (suc (suc zero)) held few other h = record { rest = record { column = 3; pending = 0; bytes = held }; alike = record { bytes = refl; first = refl; second = refl; tabs = h }; starts = ap (λ (r : Remaining). Some (record { container = Quote; rest = r })) (none_taken 3 held other h); on = λ bare. ap (λ (r : Remaining). Some r) (none_taken 3 held other h) }
close_quotes (suc (suc (suc zero))) held few other h = record { rest = record { column = 4; pending = 0; bytes = held }; alike = record { bytes = refl; first = refl; second = refl; tabs = h }; starts = ap (λ (r : Remaining). Some (record { container = Quote; rest = r })) (none_taken 4 held other h); on = λ bare. ap (λ (r : Remaining). Some r) (none_taken 4 held other h) }
close_quotes (suc (suc (suc (suc n)))) held few other h = absurd (omega (arith, few))

by_sign : (spaced : Bool) (indent : ℕ) (held : List ℕ) → indent < 4 → (spaced || not (first held == 32)) ≡ true → NoTab held → Quotes (replicate indent 32 ++ (quote_sign spaced ++ held)) held
by_sign true indent held few other h = spaced_quotes indent held few h
by_sign false indent held few other h = close_quotes indent held few other h

quotes : (line held : List ℕ) → IsQuoted line held → NoTab held → Quotes line held
quotes line held q h = subst (λ (l : List ℕ). Quotes l held) (sym q.whole) (by_sign q.spaced q.indent held q.few q.taken h)

all_go_on : (lines held : List (List ℕ)) (state : State) → AreQuoted lines held → list_all has_no_tab held ≡ true → AllGoOn Quote state lines held
all_go_on [] [] state q h = tt
all_go_on (text ∷ texts) (one ∷ held) state q h =
    let both = and_parts (has_no_tab one) (list_all has_no_tab held) h in
    let found = quotes text one q.0 (no_tabs one both.0) in
    ((found.rest, found.on _, found.alike), all_go_on texts held (step state one).state q.1 both.1)
all_go_on [] (one ∷ held) state q h = absurd q
all_go_on (text ∷ texts) [] state q h = absurd q

same_bare : (done : Step) → SameBare Quote done
unfolding ends_in_item
same_bare done = refl

-- ---- a blank line is outside

blank_first : (bytes : List ℕ) → are_blanks bytes ≡ true → (first bytes == 62) ≡ false
blank_first [] h = refl
blank_first (b ∷ bs) h = other_sign 62 b refl (and_parts (is_space_or_tab b) (are_blanks bs) h).0

blank_left : (n : ℕ) (line : List ℕ) → are_blanks line ≡ true → are_blanks (take_columns n (whole line)).bytes ≡ true
unfolding is_blank
blank_left n line h = blank_taken n (whole line) h

either_none : (t : Bool) (rest : Remaining) → t ≡ true → cond t None (Some rest) ≡ None
either_none t rest e = rw e refl

blank_off : (bare : Bool) (line : List ℕ) → are_blanks line ≡ true → goes_on Quote bare (whole line) ≡ None
unfolding goes_on
blank_off bare line h =
    either_none ((columns_in_front 4 (whole line) == 4) || not (first (take_columns 4 (whole line)).bytes == 62)) (after_quote (take_columns 4 (whole line)))
    (or_right (columns_in_front 4 (whole line) == 4) (not (first (take_columns 4 (whole line)).bytes == 62)) (not_from_false _ (blank_first (take_columns 4 (whole line)).bytes (blank_left 4 line h))))

-- a line of which no container has anything
abbrev none_found : List ℕ → Matched
none_found line = record { count = 0; rest = whole line }

blank_here : (state : State) (line : List ℕ) → are_blanks line ≡ true → begun_line state (none_found line) ≡ line_done state 0 (no_opens (whole line)) Blank (whole line)
unfolding is_blank
blank_here state line h = blank_begun state (none_found line) h

none_of : (n : ℕ) → (0 == suc n) ≡ false
none_of n = grind (arith, nat_tests)

blank_within : (state : State) (line : List ℕ) → are_blanks line ≡ true → step (within Quote state) line ≡ line_done (within Quote state) 0 (no_opens (whole line)) Blank (whole line)
unfolding step line_step matched
blank_within state line h =
    let outer = within Quote state in
    ap (λ (o : Option Remaining). line_step outer (match_more o (whole line) (matched (is_bare state.leaf) state.containers))) (blank_off (is_bare state.leaf && (length state.containers == 0)) line h)
    ∙ ap (λ (t : Bool). cond t (matched_line (going_on state.leaf (whole line)) outer (none_found line)) (begun_line outer (none_found line))) (none_of (length state.containers))
    ∙ blank_here outer line h

blank_at_first : (line : List ℕ) → are_blanks line ≡ true → step at_first line ≡ line_done at_first 0 (no_opens (whole line)) Blank (whole line)
unfolding step line_step matched going_on
blank_at_first line h = blank_here at_first line h

blank_done : (state : State) (line : List ℕ) → DoesApart (line_done (within Quote state) 0 (no_opens (whole line)) Blank (whole line)) (line_done at_first 0 (no_opens (whole line)) Blank (whole line))
unfolding ends_in_item
blank_done state line = record { state = refl; kept = refl; none = refl; deed = refl; text = refl }

is_after : (state : State) (after : List (List ℕ)) → begins_blank after ≡ true → IsAfter Quote state after
is_after state [] h = tt
is_after state (line ∷ lines) h =
    subst (λ (s : Step). DoesApart s (step at_first line)) (sym (blank_within state line h))
    (subst (λ (s : Step). DoesApart (line_done (within Quote state) 0 (no_opens (whole line)) Blank (whole line)) s) (sym (blank_at_first line h)) (blank_done state line))

-- ---- what is told

and_false : (t : Bool) → (t && false) ≡ false
and_false true = refl
and_false false = refl

-- the parts of a quote in front
abbrev quoting : List PartContent → List PartContent
quoting parts = begins Quote false ∷ parts

-- a quote ends
abbrev quote_left : Gathering → Gathering
quote_left g = left_in (behind (begins Quote false ∷ []) (under Quote g))

left_idle : (g : Gathering) → g.kind ≡ Nothing → g.around ≡ [] → g.fresh ≡ false → quote_left g ≡ idle (quoting g.parts ++ ends ∷ []) g.apart g.lines false false []
left_idle g kind around fresh =
    ap (λ (k : Kind). quote_left (record g { kind = k })) kind
    ∙ ap (λ (a : List Container). quote_left (record g { kind = Nothing; around = a })) around
    ∙ ap (λ (f : Bool). quote_left (record g { kind = Nothing; around = []; fresh = f })) fresh
    ∙ ap (λ (p : Bool). idle (quoting g.parts ++ ends ∷ []) g.apart g.lines p false []) (and_false g.passed)

rest_told : (g : Gathering) (others : List Event) → g.kind ≡ Nothing → g.around ≡ [] → g.fresh ≡ false → opens others ≡ true
    → ended (quote_left g) others ≡ begins Quote false ∷ (g.parts ++ ends ∷ ended nothing_told others)
rest_told g others kind around fresh h =
    ap (λ (x : Gathering). ended x others) (left_idle g kind around fresh)
    ∙ same_parts others (quoting g.parts ++ ends ∷ []) g.apart g.lines false false [] h
    ∙ ended_behind (quoting g.parts ++ ends ∷ []) others
    ∙ append_assoc (quoting g.parts) (ends ∷ []) (ended nothing_told others)

entered_first : happened (enter Quote) nothing_told ≡ behind (begins Quote false ∷ []) (under Quote nothing_told)
unfolding closed
entered_first = refl

-- what is told of lines, at whatever column they stand
abbrev pub told_of : List (List ℕ) → Gathering
told_of lines = told nothing_told (map flat_event (events_from at_first lines))

told_is : (lines : List (List ℕ)) → told_of lines ≡ flat_told (told nothing_told (events_from at_first lines))
told_is lines = told_flat (events_from at_first lines) nothing_told

pub no_around : (lines : List (List ℕ)) → (closed (told_of lines)).around ≡ []
no_around lines =
    let i = lines_idle lines at_first nothing_told (record { counted = refl; fresh = refl }) in
    closed_around (told_of lines) ∙ ap (λ (g : Gathering). g.around) (told_is lines) ∙ nil_from_length (told nothing_told (events_from at_first lines)).around i.counted

pub not_fresh : (lines : List (List ℕ)) → (closed (told_of lines)).fresh ≡ false
not_fresh lines =
    let i = lines_idle lines at_first nothing_told (record { counted = refl; fresh = refl }) in
    closed_fresh (told_of lines) ∙ ap (λ (g : Gathering). g.fresh) (told_is lines) ∙ i.fresh

-- a quote is told as the lines that it holds, between its beginning and its end, and then the others
quote_told : (held : List (List ℕ)) (others : List Event) → opens others ≡ true
    → ended nothing_told (enter Quote ∷ (map flat_event (events_from at_first held) ++ leave ∷ others)) ≡ begins Quote false ∷ ((closed (told_of held)).parts ++ ends ∷ ended nothing_told others)
unfolding told
quote_told held others h =
    let events = map flat_event (events_from at_first held) in
    let front = begins Quote false ∷ [] in
    ap (λ (g : Gathering). ended g (events ++ leave ∷ others)) entered_first
    ∙ ap (λ (g : Gathering). (closed g).parts) (told_then events (leave ∷ others) (behind front (under Quote nothing_told)))
    ∙ ap (λ (g : Gathering). ended (left_in (closed g)) others) (told_behind events front (under Quote nothing_told))
    ∙ ap (λ (g : Gathering). ended (left_in (closed (behind front g))) others) (told_under Quote events 0 nothing_told refl (fits_flat 0 (events_from at_first held) ∙ fits_from held at_first))
    ∙ ap (λ (g : Gathering). ended (left_in g) others) (closed_behind front (under Quote (told_of held)) ∙ ap (behind front) (closed_under Quote (told_of held)))
    ∙ rest_told (closed (told_of held)) others (closed_kind (told_of held)) (no_around held) (not_fresh held) h

-- ---- the law

-- what is spelled of lines, at whatever column they stand
pub spelled_back : (lines : List (List ℕ)) → map spelled (ended nothing_told (map flat_event (events_from at_first lines))) ≡ map spelled (ended nothing_told (events_from at_first lines))
spelled_back lines = ap (map spelled) (sym (ended_flat (events_from at_first lines))) ∙ spelled_flat (ended nothing_told (events_from at_first lines))

-- the parts of a quote, and those after it
abbrev with_rest : (inner others : List PartContent) → List PartContent
with_rest inner others = begins Quote false ∷ (inner ++ ends ∷ others)

quote_lines : (lines held after : List (List ℕ)) → AreQuoted lines held → (length held == 0) ≡ false → list_all has_no_tab held ≡ true → has_room 63 (ended nothing_told (events_from at_first held)) ≡ true → IsAfter Quote (behind_lines at_first held) after
    → map spelled (ended nothing_told (events_from at_first (lines ++ after))) ≡ with_rest (map spelled (ended nothing_told (events_from at_first held))) (map spelled (ended nothing_told (events_from at_first after)))
quote_lines [] [] after q none h room behind = let no : true ≡ false = none in absurd (cc)
quote_lines (text ∷ texts) (one ∷ held) after q none h room behind =
    let both = and_parts (has_no_tab one) (list_all has_no_tab held) h in
    let found = quotes text one q.0 (no_tabs one both.0) in
    let outer = events_from at_first (text ∷ (texts ++ after)) in
    let inner = events_from at_first (one ∷ held) in
    let others = events_from at_first after in
    let happens = container_ends Quote text one texts held after (record { rest = found.rest; starts = found.starts; alike = found.alike; bare = same_bare (step at_first one) })
    (all_go_on texts held (step at_first one).state q.1 both.1) (rooms_of inner 63 nothing_told refl room) behind in
    sym (spelled_flat (ended nothing_told outer))
    ∙ ap (map spelled) (ended_flat outer ∙ ap (ended nothing_told) happens ∙ quote_told (one ∷ held) (map flat_event others) (opens_flat others ∙ opens_from after at_first refl))
    ∙ ap (λ (ps : List PartContent). begins Quote false ∷ ps) (map-append spelled (ended nothing_told (map flat_event inner)) (ends ∷ ended nothing_told (map flat_event others)))
    ∙ ap (λ (ps : List PartContent). with_rest ps (map spelled (ended nothing_told (map flat_event others)))) (spelled_back (one ∷ held))
    ∙ ap (λ (ps : List PartContent). with_rest (map spelled (ended nothing_told inner)) ps) (spelled_back after)
quote_lines [] (one ∷ held) after q none h room behind = absurd q
quote_lines (text ∷ texts) [] after q none h room behind = absurd q

positive : (text : List ℕ) → (length text == 0) ≡ false → 0 < length text
positive [] h = let no : true ≡ false = h in absurd (cc)
positive (b ∷ bs) h = omega arith

not_none : (line : List ℕ) (lines : List (List ℕ)) → (length (line ∷ lines) == 0) ≡ false
not_none line lines = grind (arith, nat_tests)

-- a text that isn't empty has a line
some_lines : (text : List ℕ) → (length text == 0) ≡ false → (length (text_lines text) == 0) ≡ false
some_lines text h = ap (λ (ls : List (List ℕ)). length ls == 0) (line_front text (positive text h)) ∙ not_none (take (prefix_len (λ b. not (is_line_end b)) text) text) (text_lines (drop (end_len (drop (prefix_len (λ b. not (is_line_end b)) text) text)) (drop (prefix_len (λ b. not (is_line_end b)) text) text)))

-- a quote ends before what does what the first line of a text does
ends_before : (text held after : List ℕ) (quoted : List (List ℕ)) → text_lines text ≡ quoted ++ text_lines after → AreQuoted quoted (text_lines held) → (length held == 0) ≡ false
    → list_all has_no_tab (text_lines held) ≡ true → has_room 63 (parts_of held) ≡ true → IsAfter Quote (behind_lines at_first (text_lines held)) (text_lines after)
    → map spelled (parts_of text) ≡ with_rest (map spelled (parts_of held)) (map spelled (parts_of after))
ends_before text held after quoted are q some h room behind =
    ap (map spelled) (read_of text ∙ ap (λ (ls : List (List ℕ)). ended nothing_told (events_from at_first ls)) are)
    ∙ quote_lines quoted (text_lines held) (text_lines after) q (some_lines held some) h (ap (has_room 63) (sym (read_of held)) ∙ room) behind
    ∙ ap (λ (ps : List PartContent). with_rest (map spelled ps) (map spelled (ended nothing_told (events_from at_first (text_lines after))))) (sym (read_of held))
    ∙ ap (λ (ps : List PartContent). with_rest (map spelled (parts_of held)) (map spelled ps)) (sym (read_of after))

-- a quote ends at a blank line
pub ends_at_blank : QuoteEndsAtBlank
ends_at_blank text held after quoted are q some h room blank = ends_before text held after quoted are q some h room (is_after (behind_lines at_first (text_lines held)) (text_lines after) blank)

none_of_some : (o : Option Remaining) → is_some o ≡ false → o ≡ None
none_of_some None h = refl
none_of_some (Some rest) h = let no : true ≡ false = h in absurd (cc)

off_unsigned : (bare : Bool) (line : List ℕ) → (HasQuoteSign line → ⊥) → goes_on Quote bare (whole line) ≡ None
off_unsigned bare line h = none_of_some (goes_on Quote bare (whole line)) (false_from_ne_true (is_some (goes_on Quote bare (whole line))) (λ e. h ((quote_signs_said bare line).0 e)))

unsigned_after : (state : State) (after : List (List ℕ)) → is_paragraph state.leaf ≡ false → BeginsUnsigned after → IsAfter Quote state after
unsigned_after state [] e h = tt
unsigned_after state (line ∷ lines) e h = step_apart Quote state line (off_unsigned (is_bare state.leaf && (length state.containers == 0)) line h) e

-- and at a line without its sign, where the last line that it holds is blank
pub ends_behind_blank : QuoteEndsBehindBlank
ends_behind_blank text held after quoted are q some h room last unsigned =
    ends_before text held after quoted are q some h room (unsigned_after (behind_lines at_first (text_lines held)) (text_lines after)
    (ap (λ (ls : List (List ℕ)). is_paragraph (behind_lines at_first ls).leaf) last.whole ∙ none_open last.before last.last at_first last.blank) unsigned)

-- and where the last leaf that it holds is no paragraph
pub ends_behind_block : QuoteEndsBehindBlock
ends_behind_block text held after quoted are q some h room last unsigned =
    ends_before text held after quoted are q some h room (unsigned_after (behind_lines at_first (text_lines held)) (text_lines after) (none_open_behind (text_lines held) (subst EndsInBlock (read_of held) last)) unsigned)
