-- The line in which a place is.
use Rattle.std.proofs.Common.{◌≡◌, ℕ, ◌+◌, ◌-◌, ◌<◌, ◌≤◌, Bool, if◌then◌else◌, List, [], ◌∷◌, length, drop, map, get_or, refl, ap, ◌∙◌, arith}
use Rattle.std.proofs.lemmas.Bool.{le-leb, lt-leb}
use Rattle.std.proofs.lemmas.List.{drop_more, drop_all, get_or-map}
use Rattle.markdown_marks.specs.declared.rest.Rest.{Rest}
use Rattle.markdown_marks.specs.Remaining.{Remaining, remaining}
use Rattle.markdown_inline_events.specs.Leaf.{IsReached, line_place}

-- what an index reads where there is no line
abbrev pub no_rest : Rest
no_rest = record { column = 0; pending = 0; bytes = record { ref_ptr = (0, 0); now = [] } }

-- no bytes are before the first line
pub first_reached : (lines : List Remaining) → IsReached lines 0 0
first_reached lines place h = ap (λ (n : ℕ). line_place 0 n lines) (omega arith)

place_on : (number place : ℕ) (line : Remaining) (lines : List Remaining) → length line.bytes < place → line_place number place (line ∷ lines) ≡ line_place (number + 1) (place - (length line.bytes + 1)) lines
unfolding line_place
place_on number place line lines h = ap (λ (b : Bool). if b then record { line = number; byte = place } else line_place (number + 1) (place - (length line.bytes + 1)) lines) (lt-leb place (length line.bytes) h)

place_here : (number place : ℕ) (line : Remaining) (lines : List Remaining) → place ≤ length line.bytes → line_place number place (line ∷ lines) ≡ record { line = number; byte = place }
unfolding line_place
place_here number place line lines h = ap (λ (b : Bool). if b then record { line = number; byte = place } else line_place (number + 1) (place - (length line.bytes + 1)) lines) (le-leb place (length line.bytes) h)

place_past : (number place : ℕ) → line_place number place [] ≡ record { line = number; byte = place }
unfolding line_place
place_past number place = refl

-- behind a line and its newline is the next one
pub next_reached : (lines : List Remaining) (line before len : ℕ) (d : Remaining) → line < length lines → len ≡ length (get_or lines line d).bytes → IsReached lines line before → IsReached lines (line + 1) (before + len + 1)
next_reached lines line before len d within e reached place h =
    let own : Remaining = get_or lines line d in
    let behind : length own.bytes < place - before = omega (arith, h, e) in
    let left : place - before - (length own.bytes + 1) ≡ place - (before + len + 1) = omega (arith, h, e) in
    reached place (omega (arith, h)) ∙ ap (λ (l : List Remaining). line_place line (place - before) l) (drop_more lines line d within)
    ∙ place_on line (place - before) own (drop (line + 1) lines) behind ∙ ap (λ (n : ℕ). line_place (line + 1) n (drop (line + 1) lines)) left

-- a place that is no further than the end of a line is in it
pub reached_here : (lines : List Remaining) (line before place : ℕ) (d : Remaining) → line < length lines → IsReached lines line before → before ≤ place → place - before ≤ length (get_or lines line d).bytes
    → line_place 0 place lines ≡ record { line = line; byte = place - before }
reached_here lines line before place d within reached h few =
    reached place h ∙ ap (λ (l : List Remaining). line_place line (place - before) l) (drop_more lines line d within) ∙ place_here line (place - before) (get_or lines line d) (drop (line + 1) lines) few

-- behind the last line nothing is left
pub reached_past : (lines : List Remaining) (line before place : ℕ) → length lines ≤ line → IsReached lines line before → before ≤ place → line_place 0 place lines ≡ record { line = line; byte = place - before }
reached_past lines line before place past reached h =
    reached place h ∙ ap (λ (l : List Remaining). line_place line (place - before) l) (drop_all line lines past) ∙ place_past line (place - before)

-- the bytes of a line are those of the code's line
pub line_bytes : (lines : List Rest) (line : ℕ) (d : Rest) → line < length lines → (get_or (map remaining lines) line (remaining d)).bytes ≡ (get_or lines line d).bytes.now
line_bytes lines line d within = ap (λ (r : Remaining). r.bytes) (get_or-map remaining lines line d (remaining d) within)
