-- A quote is read as the lines that it holds.
use Rattle.std.proofs.Common.{◌≡◌, ℕ, zero, suc, ◌<◌, ◌≤◌, Bool, true, false, not, ◌||◌, ◌&&◌, ◌==◌, List, [], ◌∷◌, ◌++◌, map, length, take, drop, replicate, Option, Some, None, is_none, refl, sym, ap, subst, ◌∙◌, arith, if◌then◌else◌}
use Rattle.std.proofs.lemmas.Bool.{and_parts}
use Rattle.std.proofs.lemmas.Bool.Decides.{nat_tests}
use Rattle.std.specs.List.{list_all, prefix_len}
use Rattle.markdown_marks.specs.Bytes.{first}
use Rattle.markdown_marks.specs.Remaining.{Remaining, whole, one_column, take_columns, columns_in_front, skip}
use Rattle.markdown_blocks.specs.Containers.{after_quote, container_start, ends_in_item, goes_on}
use Rattle.markdown_blocks.specs.Events.{events_from}
use Rattle.markdown_blocks.specs.Lines.{end_len, is_line_end, text_lines}
use Rattle.markdown_blocks.specs.Steps.{State, Step, step}
use Rattle.markdown_blocks.specs.declared.containers.Container.TheVariants.{Quote}
use Rattle.markdown_blocks.proofs.AlikeLemmas.{Alike, NoTab}
use Rattle.markdown_blocks.proofs.TextLemmas.{line_front}
use Rattle.markdown_blocks.proofs.WithinLemmas.{SameBare, at_first}
use Rattle.markdown_leaves.specs.Gather.{nothing_told}
use Rattle.markdown_leaves.specs.Parts.{PartContent, begins, ends}
use Rattle.markdown_leaves.specs.Told.{parts_of}
use Rattle.markdown_laws.specs.Quotes.{AreQuoted, FenceEndsWithItsQuote, IsQuoted, QuoteHoldsItsLines, begins_outside, has_no_tab, has_room, quote_sign, spelled}
use Rattle.markdown_laws.proofs.AroundLemmas.{fits_from}
use Rattle.markdown_laws.proofs.FenceLemmas.{ended, not_closing, open_fence, read_of}
use Rattle.markdown_laws.proofs.HeldFenceLemmas.{fence_held}
use Rattle.markdown_laws.proofs.HeldLemmas.{AllGoOn, BeginsIn, IsOutside, all_container, container_read, no_tabs}
use Rattle.markdown_laws.proofs.RoomLemmas.{rooms, rooms_of}

-- ---- a line of a quote

-- a quote begins in this line, or goes on in it, and leaves that one
record Quotes (line held : List ℕ) : Type 0 where
  rest : Remaining
  alike : Alike rest (whole held)
  starts : container_start false (whole line) ≡ Some (record { container = Quote; rest = rest })
  on : (bare : Bool) → goes_on Quote bare (whole line) ≡ Some rest

-- what is behind the sign
abbrev behind_sign : List ℕ → Remaining
behind_sign line = after_quote (take_columns 4 (whole line))

spaced_quotes : (indent : ℕ) (held : List ℕ) → indent < 4 → NoTab held → Quotes (replicate indent 32 ++ 62 ∷ 32 ∷ held) held
unfolding container_start goes_on columns_in_front take_columns one_column skip
spaced_quotes zero held few h = record { rest = behind_sign (62 ∷ 32 ∷ held); alike = record { bytes = refl; first = refl; second = refl; tabs = h }; starts = refl; on = λ bare. refl }
spaced_quotes (suc zero) held few h = record { rest = behind_sign (32 ∷ 62 ∷ 32 ∷ held); alike = record { bytes = refl; first = refl; second = refl; tabs = h }; starts = refl; on = λ bare. refl }
spaced_quotes (suc (suc zero)) held few h = record { rest = behind_sign (32 ∷ 32 ∷ 62 ∷ 32 ∷ held); alike = record { bytes = refl; first = refl; second = refl; tabs = h }; starts = refl; on = λ bare. refl }
spaced_quotes (suc (suc (suc zero))) held few h = record { rest = behind_sign (32 ∷ 32 ∷ 32 ∷ 62 ∷ 32 ∷ held); alike = record { bytes = refl; first = refl; second = refl; tabs = h }; starts = refl; on = λ bare. refl }
spaced_quotes (suc (suc (suc (suc n)))) held few h = absurd (omega (arith, few))

-- behind a sign that no blank follows nothing is taken
none_taken : (column : ℕ) (held : List ℕ) → not (first held == 32) ≡ true → NoTab held → take_columns 1 (record { column = column; pending = 0; bytes = held }) ≡ record { column = column; pending = 0; bytes = held }
unfolding take_columns one_column
none_taken column [] other h = refl
none_taken column (b ∷ bs) other h = rw (not_closing (b == 32) other) (rw h.0 refl)

close_quotes : (indent : ℕ) (held : List ℕ) → indent < 4 → not (first held == 32) ≡ true → NoTab held → Quotes (replicate indent 32 ++ 62 ∷ held) held
unfolding container_start goes_on columns_in_front one_column skip take_columns
close_quotes zero held few other h = record { rest = record { column = 1; pending = 0; bytes = held }; alike = record { bytes = refl; first = refl; second = refl; tabs = h }; starts = ap (λ (r : Remaining). Some (record { container = Quote; rest = r })) (none_taken 1 held other h); on = λ bare. ap (λ (r : Remaining). Some r) (none_taken 1 held other h) }
close_quotes (suc zero) held few other h = record { rest = record { column = 2; pending = 0; bytes = held }; alike = record { bytes = refl; first = refl; second = refl; tabs = h }; starts = ap (λ (r : Remaining). Some (record { container = Quote; rest = r })) (none_taken 2 held other h); on = λ bare. ap (λ (r : Remaining). Some r) (none_taken 2 held other h) }
close_quotes (suc (suc zero)) held few other h = record { rest = record { column = 3; pending = 0; bytes = held }; alike = record { bytes = refl; first = refl; second = refl; tabs = h }; starts = ap (λ (r : Remaining). Some (record { container = Quote; rest = r })) (none_taken 3 held other h); on = λ bare. ap (λ (r : Remaining). Some r) (none_taken 3 held other h) }
close_quotes (suc (suc (suc zero))) held few other h = record { rest = record { column = 4; pending = 0; bytes = held }; alike = record { bytes = refl; first = refl; second = refl; tabs = h }; starts = ap (λ (r : Remaining). Some (record { container = Quote; rest = r })) (none_taken 4 held other h); on = λ bare. ap (λ (r : Remaining). Some r) (none_taken 4 held other h) }
close_quotes (suc (suc (suc (suc n)))) held few other h = absurd (omega (arith, few))

by_sign : (spaced : Bool) (indent : ℕ) (held : List ℕ) → indent < 4 → (spaced || not (first held == 32)) ≡ true → NoTab held → Quotes (replicate indent 32 ++ (quote_sign spaced ++ held)) held
by_sign true indent held few other h = spaced_quotes indent held few h
by_sign false indent held few other h = close_quotes indent held few other h

quotes : (line held : List ℕ) → IsQuoted line held → NoTab held → Quotes line held
quotes line held q h = subst (λ (l : List ℕ). Quotes l held) (sym q.whole) (by_sign q.spaced q.indent held q.few q.taken h)

-- ---- the lines

all_go_on : (lines held : List (List ℕ)) (state : State) → AreQuoted lines held → list_all has_no_tab held ≡ true → AllGoOn Quote state lines held
all_go_on [] [] state q h = tt
all_go_on (text ∷ texts) (one ∷ held) state q h =
    let both = and_parts (has_no_tab one) (list_all has_no_tab held) h in
    let found = quotes text one q.0 (no_tabs one both.0) in
    ((found.rest, found.on _, found.alike), all_go_on texts held (step state one).state q.1 both.1)
all_go_on [] (one ∷ held) state q h = absurd q
all_go_on (text ∷ texts) [] state q h = absurd q

same_bare : (done : Step) → SameBare Quote done
unfolding ends_in_item
same_bare done = refl

quote_lines : (lines held : List (List ℕ)) → AreQuoted lines held → (length held == 0) ≡ false → list_all has_no_tab held ≡ true → has_room 63 (ended nothing_told (events_from at_first held)) ≡ true
    → map spelled (ended nothing_told (events_from at_first lines)) ≡ begins Quote false ∷ (map spelled (ended nothing_told (events_from at_first held)) ++ ends ∷ [])
quote_lines [] [] q none h room = let no : true ≡ false = none in absurd (cc)
quote_lines (text ∷ texts) (one ∷ held) q none h room =
    let both = and_parts (has_no_tab one) (list_all has_no_tab held) h in
    let found = quotes text one q.0 (no_tabs one both.0) in
    let events = events_from at_first (one ∷ held) in
    container_read Quote (events_from at_first (text ∷ texts)) events
    (all_container Quote text one texts held (record { rest = found.rest; starts = found.starts; alike = found.alike; bare = same_bare (step at_first one) }) (all_go_on texts held (step at_first one).state q.1 both.1)
    (rooms_of events 63 nothing_told refl room)) (fits_from (one ∷ held) at_first) refl
quote_lines [] (one ∷ held) q none h room = absurd q
quote_lines (text ∷ texts) [] q none h room = absurd q

-- ---- the law

positive : (text : List ℕ) → (length text == 0) ≡ false → 0 < length text
positive [] h = let no : true ≡ false = h in absurd (cc)
positive (b ∷ bs) h = omega arith

not_none : (line : List ℕ) (lines : List (List ℕ)) → (length (line ∷ lines) == 0) ≡ false
not_none line lines = grind (arith, nat_tests)

-- a text that isn't empty has a line
some_lines : (text : List ℕ) → (length text == 0) ≡ false → (length (text_lines text) == 0) ≡ false
some_lines text h = ap (λ (ls : List (List ℕ)). length ls == 0) (line_front text (positive text h)) ∙ not_none (take (prefix_len (λ b. not (is_line_end b)) text) text) (text_lines (drop (end_len (drop (prefix_len (λ b. not (is_line_end b)) text) text)) (drop (prefix_len (λ b. not (is_line_end b)) text) text)))

-- a quote holds its lines
pub quote : QuoteHoldsItsLines
quote text held q some h room =
    ap (map spelled) (read_of text)
    ∙ quote_lines (text_lines text) (text_lines held) q (some_lines held some) h (ap (has_room 63) (sym (read_of held)) ∙ room)
    ∙ ap (λ (ps : List PartContent). begins Quote false ∷ (map spelled ps ++ ends ∷ [])) (sym (read_of held))

-- ---- code in a quote

is_none_of : (o : Option Remaining) → is_none o ≡ true → o ≡ None
is_none_of None h = refl
is_none_of (Some rest) h = let no : false ≡ true = h in absurd (cc)

ends_outside : (sign length indent : ℕ) (after : List (List ℕ)) → begins_outside after ≡ true → IsOutside Quote (open_fence sign length indent) after
ends_outside sign length indent [] h = tt
ends_outside sign length indent (line ∷ lines) h = (is_none_of (goes_on Quote false (whole line)) h, refl)

-- code in a quote ends with it
pub fence_in_quote : FenceEndsWithItsQuote
fence_in_quote text after first fence [] lines indent sign length are q tabs h inside out = absurd q
fence_in_quote text after first fence (line ∷ quoted) lines indent sign length are q tabs h inside out =
    let both = and_parts (has_no_tab first) (list_all has_no_tab lines) tabs in
    let begun = quotes line first q.0 (no_tabs first both.0) in
    fence_held Quote text after line first fence quoted lines indent sign length are (record { rest = begun.rest; starts = begun.starts; alike = begun.alike; bare = same_bare (step at_first first) })
    (all_go_on quoted lines (step at_first first).state q.1 both.1) h inside (ends_outside sign length indent (text_lines after) out) refl
