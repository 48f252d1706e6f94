-- Runs in a text that grows.
use Rattle.std.proofs.Common.{◌≡◌, ℕ, ◌+◌, ◌-◌, ◌<◌, ◌≤◌, Bool, true, false, not, ◌&&◌, List, [], ◌∷◌, ◌++◌, map, length, take, drop, get_or, refl, sym, ap, ◌∙◌, arith, Option, Some, None, if◌then◌else◌}
use Rattle.std.specs.Prelude.{nat_le, nat_lt, slice_range, slice_get, option_map}
use Rattle.std.specs.List.{list_all}
use Rattle.std.specs.Str.{IsUtf8, IsCharBoundary}
use Rattle.std.proofs.lemmas.Bool.{and_parts}
use Rattle.std.proofs.lemmas.Bool.Decides.{nat_tests}
use Rattle.std.proofs.lemmas.List.{take-append-le, drop-append-le, length-append, length-drop, length-map, map-append, get_or_append_left, get_or_past, take_all}
use Rattle.std.proofs.lemmas.List.Folds.{list_all_at, list_all-append}
use Rattle.std.proofs.lemmas.Option.{slice_get-map, slice_get-get_or, slice_get_past}
use Rattle.std.proofs.lemmas.Str.{IsCharBoundary-at_seam, IsCharBoundary-end}
use Rattle.std.proofs.Math.Seq.{drop-append_seam}
use Rattle.mad_md.specs.Flagged.{Run}
use Rattle.markdown_lines.specs.Runs.{flags_said, run_said, runs_said, is_border, is_bordered, are_bordered}
use Rattle.markdown_lines.specs.declared.places.RunFlags.{RunFlags}
use Rattle.markdown_lines.specs.declared.places.RunPlace.{RunPlace}

-- ---- borders as tests and as facts

border_within : (n len b : ℕ) → (nat_le n len && not (nat_le 128 b && nat_lt b 192)) ≡ true → n ≤ len
border_within n len b e = grind (arith, nat_tests)

border_begins : (n len b : ℕ) → (nat_le n len && not (nat_le 128 b && nat_lt b 192)) ≡ true → 128 ≤ b → 192 ≤ b
border_begins n len b e h = grind (arith, nat_tests)

-- where the test says so, a character begins or the text ends
pub border_means : (text : List ℕ) (at : ℕ) → is_border text at ≡ true → IsCharBoundary text at
border_means text at e = (border_within at (length text) (get_or text at 0) e, λ within high. border_begins at (length text) (get_or text at 0) e high)

test_border : (n len b : ℕ) → n ≤ len → (128 ≤ b → 192 ≤ b) → (nat_le n len && not (nat_le 128 b && nat_lt b 192)) ≡ true
test_border n len b w h = grind (arith, nat_tests)

past_by : (text : List ℕ) (at : ℕ) (t : Bool) → nat_lt at (length text) ≡ t → IsCharBoundary text at → 128 ≤ get_or text at 0 → 192 ≤ get_or text at 0
past_by text at true e h high = h.1 (grind (arith, nat_tests)) high
past_by text at false e h high = let l : length text ≤ at = grind (arith, nat_tests) in absurd (omega (arith, get_or_past text at 0 l, high))

-- where a character begins or the text ends, the test says so
pub border_from : (text : List ℕ) (at : ℕ) → IsCharBoundary text at → is_border text at ≡ true
border_from text at h = test_border at (length text) (get_or text at 0) h.0 (past_by text at (nat_lt at (length text)) refl h)

-- ---- a text that grows

boundary_by : (text more : List ℕ) (at : ℕ) (t : Bool) → nat_lt at (length text) ≡ t → IsUtf8 more → IsCharBoundary text at → IsCharBoundary (text ++ more) at
boundary_by text more at true e utf8 h =
    let within : at < length text = grind (arith, nat_tests) in
    let same = get_or_append_left text more 0 at within in
    (omega (arith, h.0, length-append text more), λ inside high. omega (arith, same, h.1 within (omega (arith, same, high))))
boundary_by text more at false e utf8 h =
    let end : length text ≡ at = (let l : length text ≤ at = grind (arith, nat_tests) in omega (arith, l, h.0)) in
    let P : ℕ → Type 0 = λ n. IsCharBoundary (text ++ more) n in Rattle.std.proofs.Common.subst P end (IsCharBoundary-at_seam (text ++ more) text more refl utf8)

pub boundary_grows : (text more : List ℕ) (at : ℕ) → IsUtf8 more → IsCharBoundary text at → IsCharBoundary (text ++ more) at
boundary_grows text more at = boundary_by text more at (nat_lt at (length text)) refl

border_grows : (text more : List ℕ) (at : ℕ) → IsUtf8 more → is_border text at ≡ true → is_border (text ++ more) at ≡ true
border_grows text more at utf8 e = border_from (text ++ more) at (boundary_grows text more at utf8 (border_means text at e))

three : (a b c : Bool) → a ≡ true → b ≡ true → c ≡ true → (a && b && c) ≡ true
three a b c p q r = grind arith

bordered_grows : (text more : List ℕ) (place : RunPlace) → IsUtf8 more → is_bordered text place ≡ true → is_bordered (text ++ more) place ≡ true
bordered_grows text more place utf8 e =
    let outer = and_parts (nat_le place.start place.end && is_border text place.start) (is_border text place.end) e in
    let inner = and_parts (nat_le place.start place.end) (is_border text place.start) outer.0 in
    three _ _ _ inner.0 (border_grows text more place.start utf8 inner.1) (border_grows text more place.end utf8 outer.1)

-- runs that begin and end between characters do so in a text that grows
pub all_grow : (text more : List ℕ) (places : List RunPlace) → IsUtf8 more → are_bordered text places ≡ true → are_bordered (text ++ more) places ≡ true
unfolding are_bordered
all_grow text more [] utf8 e = refl
all_grow text more (place ∷ places) utf8 e =
    let parts = and_parts (is_bordered text place) (list_all (is_bordered text) places) e in
    let here = bordered_grows text more place utf8 parts.0 in
    let others = all_grow text more places utf8 parts.1 in
    ap (λ (b : Bool). b && list_all (is_bordered (text ++ more)) places) here ∙ others

-- a slice of a text that grows
pub slice_same : (text more : List ℕ) (start end : ℕ) → start ≤ end → end ≤ length text → slice_range (text ++ more) start end ≡ slice_range text start end
slice_same text more start end order within =
    ap (take (end - start)) (drop-append-le start text more (omega arith))
    ∙ take-append-le (end - start) (drop start text) more (omega (arith, length-drop start text))

run_same : (text more : List ℕ) (place : RunPlace) → is_bordered text place ≡ true → run_said (text ++ more) place ≡ run_said text place
run_same text more place e =
    let outer = and_parts (nat_le place.start place.end && is_border text place.start) (is_border text place.end) e in
    let inner = and_parts (nat_le place.start place.end) (is_border text place.start) outer.0 in
    let order : place.start ≤ place.end = (let o = inner.0 in grind (arith, nat_tests)) in
    ap (λ (t : List ℕ). record { flags = flags_said place.flags; text = t }) (slice_same text more place.start place.end order (border_means text place.end outer.1).0)

-- runs say the same in a text that grows
pub runs_same : (text more : List ℕ) (places : List RunPlace) → are_bordered text places ≡ true → runs_said (text ++ more) places ≡ runs_said text places
unfolding are_bordered runs_said
runs_same text more [] e = refl
runs_same text more (place ∷ places) e =
    let parts = and_parts (is_bordered text place) (list_all (is_bordered text) places) e in
    ap (λ (r : Run). r ∷ map (run_said (text ++ more)) places) (run_same text more place parts.0) ∙ ap (λ (rs : List Run). run_said text place ∷ rs) (runs_same text more places parts.1)

runs_kept : (text more : List ℕ) (places : List RunPlace) → are_bordered text places ≡ true → map (run_said (text ++ more)) places ≡ map (run_said text) places
unfolding runs_said
runs_kept text more places e = runs_same text more places e

all_grown : (text more : List ℕ) (places : List RunPlace) → IsUtf8 more → are_bordered text places ≡ true → list_all (is_bordered (text ++ more)) places ≡ true
unfolding are_bordered
all_grown text more places utf8 e = all_grow text more places utf8 e

-- ---- a run more

seam_slice : (text more : List ℕ) (start end : ℕ) → start ≡ length text → end ≡ length (text ++ more) → slice_range (text ++ more) start end ≡ more
seam_slice text more start end s e =
    let len : end - start ≡ length more = omega (arith, s, e, length-append text more) in
    ap (λ (n : ℕ). take n (drop start (text ++ more))) len ∙ ap (λ (n : ℕ). take (length more) (drop n (text ++ more))) s
    ∙ ap (take (length more)) (drop-append_seam text more) ∙ take_all (length more) more (omega arith)

-- one more run says the text that was put behind
pub runs_pushed : (text more whole : List ℕ) (places all : List RunPlace) (flags : RunFlags) (start end : ℕ) → are_bordered text places ≡ true
    → whole ≡ text ++ more → all ≡ places ++ record { flags = flags; start = start; end = end } ∷ [] → start ≡ length text → end ≡ length whole
    → runs_said whole all ≡ runs_said text places ++ record { flags = flags_said flags; text = more } ∷ []
unfolding runs_said
runs_pushed text more whole places all flags start end bordered whole_is all_is start_is end_is =
    let place : RunPlace = record { flags = flags; start = start; end = end } in
    ap (λ (t : List ℕ). map (run_said t) all) whole_is ∙ ap (map (run_said (text ++ more))) all_is
    ∙ map-append (run_said (text ++ more)) places (place ∷ [])
    ∙ ap (λ (rs : List Run). rs ++ run_said (text ++ more) place ∷ []) (runs_kept text more places bordered)
    ∙ ap (λ (t : List ℕ). map (run_said text) places ++ record { flags = flags_said flags; text = t } ∷ []) (seam_slice text more start end start_is (end_is ∙ ap length whole_is))

-- with it each run begins and ends between characters
pub bordered_pushed : (text more whole : List ℕ) (places all : List RunPlace) (flags : RunFlags) (start end : ℕ) → IsUtf8 more → are_bordered text places ≡ true
    → whole ≡ text ++ more → all ≡ places ++ record { flags = flags; start = start; end = end } ∷ [] → start ≡ length text → end ≡ length whole → are_bordered whole all ≡ true
unfolding are_bordered
bordered_pushed text more whole places all flags start end utf8 bordered whole_is all_is start_is end_is =
    let place : RunPlace = record { flags = flags; start = start; end = end } in
    let grown = text ++ more in
    let before : list_all (is_bordered grown) places ≡ true = all_grown text more places utf8 bordered in
    let first : is_border grown start ≡ true = ap (is_border grown) start_is ∙ border_from grown (length text) (IsCharBoundary-at_seam grown text more refl utf8) in
    let last : is_border grown end ≡ true = ap (is_border grown) (end_is ∙ ap length whole_is) ∙ border_from grown (length grown) (IsCharBoundary-end grown) in
    let order : nat_le start end ≡ true = (let l : start ≤ end = omega (arith, start_is, end_is, ap length whole_is, length-append text more) in grind (arith, nat_tests)) in
    let here : is_bordered grown place ≡ true = three _ _ _ order first last in
    ap (λ (t : List ℕ). list_all (is_bordered t) all) whole_is ∙ ap (list_all (is_bordered grown)) all_is
    ∙ list_all-append (is_bordered grown) places (place ∷ []) ∙ ap (λ (b : Bool). b && (is_bordered grown place && true)) before ∙ ap (λ (b : Bool). true && (b && true)) here

-- ---- the run of a number

-- there are as many runs as places
pub count_said : (text : List ℕ) (places : List RunPlace) → length (runs_said text places) ≡ length places
unfolding runs_said
count_said text places = length-map places (run_said text)

-- the run of a number is the one that is at its place
pub get_said : (text : List ℕ) (places : List RunPlace) (index : ℕ) (d : RunPlace) → index < length places → Some (run_said text (get_or places index d)) ≡ slice_get (runs_said text places) index
unfolding runs_said
get_said text places index d within = sym (slice_get-map (run_said text) places index ∙ ap (option_map (run_said text)) (slice_get-get_or places index d within))

-- past the last place there is no run
pub get_none : (text : List ℕ) (places : List RunPlace) (index : ℕ) → length places ≤ index → None ≡ slice_get (runs_said text places) index
unfolding runs_said
get_none text places index past = sym (slice_get_past (map (run_said text) places) index (omega (arith, length-map places (run_said text), past)))

by_test : (b all : Bool) → (b ≡ false → all ≡ false) → all ≡ true → b ≡ true
by_test true all f e = refl
by_test false all f e = sym (f refl) ∙ e

-- of runs that begin and end between characters each does
pub bordered_at : (text : List ℕ) (places : List RunPlace) (index : ℕ) (d : RunPlace) → index < length places → are_bordered text places ≡ true → is_bordered text (get_or places index d) ≡ true
unfolding are_bordered
bordered_at text places index d within e = by_test (is_bordered text (get_or places index d)) (list_all (is_bordered text) places) (λ f. list_all_at (is_bordered text) places index d within f) e

-- such a run doesn't end before it begins
pub order_of : (text : List ℕ) (place : RunPlace) → is_bordered text place ≡ true → place.start ≤ place.end
order_of text place e =
    let outer = and_parts (nat_le place.start place.end && is_border text place.start) (is_border text place.end) e in
    let o = (and_parts (nat_le place.start place.end) (is_border text place.start) outer.0).0 in grind (arith, nat_tests)

-- a character begins where it begins
pub first_of : (text : List ℕ) (place : RunPlace) → is_bordered text place ≡ true → IsCharBoundary text place.start
first_of text place e =
    let outer = and_parts (nat_le place.start place.end && is_border text place.start) (is_border text place.end) e in
    border_means text place.start (and_parts (nat_le place.start place.end) (is_border text place.start) outer.0).1

-- a character ends where it ends
pub last_of : (text : List ℕ) (place : RunPlace) → is_bordered text place ≡ true → IsCharBoundary text place.end
last_of text place e = border_means text place.end (and_parts (nat_le place.start place.end && is_border text place.start) (is_border text place.end) e).1

-- ---- as the code reads and writes them

-- a place that was read is such a run's
pub bordered_read : (text whole : List ℕ) (places : List RunPlace) (index : ℕ) (place : RunPlace) → index < length places → place ≡ get_or places index place → are_bordered text places ≡ true → whole ≡ text → is_bordered whole place ≡ true
bordered_read text whole places index place within is e same =
    ap (λ (t : List ℕ). is_bordered t place) same ∙ ap (is_bordered text) is ∙ bordered_at text places index place within e

-- whether one more run is put or not, each begins and ends between characters
pub bordered_by : (b : Bool) (text more whole : List ℕ) (places all : List RunPlace) (flags : RunFlags) (start end : ℕ) → IsUtf8 more → are_bordered text places ≡ true
    → whole ≡ text ++ more → all ≡ (if b then places ++ record { flags = flags; start = start; end = end } ∷ [] else places) → start ≡ length text → end ≡ length whole → are_bordered whole all ≡ true
bordered_by true text more whole places all flags start end utf8 e whole_is all_is start_is end_is = bordered_pushed text more whole places all flags start end utf8 e whole_is all_is start_is end_is
bordered_by false text more whole places all flags start end utf8 e whole_is all_is start_is end_is = ap (are_bordered whole) all_is ∙ ap (λ (t : List ℕ). are_bordered t places) whole_is ∙ all_grow text more places utf8 e
