-- What a line shows, one character further on.
use Rattle.std.proofs.Common.{◌≡◌, ℕ, zero, suc, ◌+◌, ◌-◌, ◌<◌, Bool, true, false, cond, ◌&&◌, ◌||◌, not, eqb, List, [], ◌∷◌, ◌++◌, map, refl, ap, sym, ◌∙◌, arith, append_assoc}
use Rattle.std.specs.Prelude.{slice_index, ◌==◌, nat_lt}
use Rattle.std.specs.List.{repeat}
use Rattle.std.specs.Char.{is_control}
use Rattle.std.proofs.lemmas.Bool.Decides.{nat_tests}
use Rattle.std.proofs.lemmas.List.{append-nil}
use Rattle.mad_characters.specs.Pictures.{is_printable_char, picture}
use Rattle.mad_plain.specs.declared.pens.Pen.{Pen}
use Rattle.mad_plain.specs.declared.places.Place.{Place}
use Rattle.mad_plain.specs.declared.places.Strikes.{Strikes}
use Rattle.mad_plain.specs.Commands.{command_len}
use Rattle.mad_plain.specs.Pens.{plain_pen, pen_after}
use Rattle.mad_plain.specs.Runs.{StyledChar, styled}
use Rattle.mad_plain.specs.Lines.{no_strikes, is_struck, strikes_after, style_at, tab_len, passed, shown_char, column_after, command_at, line_from, line_chars, is_plain_char, are_plain}
use Rattle.mad_plain.proofs.PenLemmas.{both_true}

-- ---- a step

-- a character that goes with those before shows nothing
pub skip_here : (p : Place) (n c : ℕ) (cs : List ℕ) → 0 < n → line_from p n (c ∷ cs) ≡ line_from p (n - 1) cs
unfolding line_from
skip_here p zero c cs h = absurd (omega (arith, h))
skip_here p (suc n) c cs h = ap (λ k. line_from p k cs) (omega arith)

-- a character shows nothing or itself, and the line goes on at the place behind it
pub here_by : (p : Place) (c k : ℕ) (cs : List ℕ) (none struck : Bool) → command_at c cs ≡ k → eqb k 0 ≡ none → is_struck c cs ≡ struck
    → line_from p 0 (c ∷ cs)
    ≡ cond (not none) [] (cond struck [] (shown_char p c))
    ++ line_from (cond (not none) (record p { pen = pen_after p.pen cs }) (cond struck (record p { now = strikes_after p.now p.before c (slice_index cs 1) }) (passed p c))) (cond (not none) k (cond struck 1 0)) cs
unfolding line_from
here_by p c k cs none struck e n s =
    ap (λ j. cond (not (eqb j 0)) [] (cond (is_struck c cs) [] (shown_char p c))
    ++ line_from (cond (not (eqb j 0)) (record p { pen = pen_after p.pen cs }) (cond (is_struck c cs) (record p { now = strikes_after p.now p.before c (slice_index cs 1) }) (passed p c))) (cond (not (eqb j 0)) j (cond (is_struck c cs) 1 0)) cs) e
    ∙ ap (λ b. cond (not b) [] (cond (is_struck c cs) [] (shown_char p c))
    ++ line_from (cond (not b) (record p { pen = pen_after p.pen cs }) (cond (is_struck c cs) (record p { now = strikes_after p.now p.before c (slice_index cs 1) }) (passed p c))) (cond (not b) k (cond (is_struck c cs) 1 0)) cs) n
    ∙ ap (λ b. cond (not none) [] (cond b [] (shown_char p c))
    ++ line_from (cond (not none) (record p { pen = pen_after p.pen cs }) (cond b (record p { now = strikes_after p.now p.before c (slice_index cs 1) }) (passed p c))) (cond (not none) k (cond b 1 0)) cs) s

-- ---- the same behind what is shown already

-- past a character that goes with those before, all stays the same
pub on_skip : (shown all : List StyledChar) (p : Place) (n c : ℕ) (old cs : List ℕ) → 0 < n → old ≡ c ∷ cs → shown ++ line_from p n old ≡ all → shown ++ line_from p (n - 1) cs ≡ all
on_skip shown all p n c old cs h e k = ap (λ l. shown ++ l) (sym (skip_here p n c cs h) ∙ ap (line_from p n) (sym e)) ∙ k

at_zero : (shown all : List StyledChar) (p : Place) (n c : ℕ) (old cs : List ℕ) → n ≡ 0 → old ≡ c ∷ cs → shown ++ line_from p n old ≡ all → shown ++ line_from p 0 (c ∷ cs) ≡ all
at_zero shown all p n c old cs z e k = ap (λ l. shown ++ line_from p 0 l) (sym e) ∙ ap (λ j. shown ++ line_from p j old) (sym z) ∙ k

-- past the ESC of a command the pen is what the command makes of it
pub on_command : (shown all : List StyledChar) (p : Place) (n c k : ℕ) (pen : Pen) (old cs : List ℕ) → n ≡ 0 → old ≡ c ∷ cs → k ≡ command_at c cs → eqb k 0 ≡ false → pen ≡ pen_after p.pen cs
    → shown ++ line_from p n old ≡ all → shown ++ line_from (record p { pen = pen }) k cs ≡ all
on_command shown all p n c k pen old cs z e is some pen_is h =
    ap (λ (q : Pen). shown ++ line_from (record p { pen = q }) k cs) pen_is
    ∙ ap (λ l. shown ++ l) (sym (here_by p c k cs false (is_struck c cs) (sym is) some refl))
    ∙ at_zero shown all p n c old cs z e h

-- past the lower character of an overstrike it is known what that says
pub on_struck : (shown all : List StyledChar) (p : Place) (n c k : ℕ) (now : Strikes) (old cs : List ℕ) → n ≡ 0 → old ≡ c ∷ cs → k ≡ command_at c cs → k ≡ 0 → is_struck c cs ≡ true → now ≡ strikes_after p.now p.before c (slice_index cs 1)
    → shown ++ line_from p n old ≡ all → shown ++ line_from (record p { now = now }) 1 cs ≡ all
on_struck shown all p n c k now old cs z e is none struck now_is h =
    ap (λ (q : Strikes). shown ++ line_from (record p { now = q }) 1 cs) now_is
    ∙ ap (λ l. shown ++ l) (sym (here_by p c 0 cs true true (sym is ∙ none) refl struck))
    ∙ at_zero shown all p n c old cs z e h

-- past a character that is shown, what is shown has it
pub on_char : (shown more all : List StyledChar) (p q : Place) (n c k : ℕ) (old cs : List ℕ) → n ≡ 0 → old ≡ c ∷ cs → k ≡ command_at c cs → k ≡ 0 → is_struck c cs ≡ false → more ≡ shown ++ shown_char p c → q ≡ passed p c
    → shown ++ line_from p n old ≡ all → more ++ line_from q n cs ≡ all
on_char shown more all p q n c k old cs z e is none struck more_is q_is h =
    ap (λ j. more ++ line_from q j cs) z
    ∙ ap (λ (r : Place). more ++ line_from r 0 cs) q_is
    ∙ ap (λ l. l ++ line_from (passed p c) 0 cs) more_is
    ∙ append_assoc shown (shown_char p c) (line_from (passed p c) 0 cs)
    ∙ ap (λ l. shown ++ l) (sym (here_by p c 0 cs true false (sym is ∙ none) refl struck))
    ∙ at_zero shown all p n c old cs z e h

-- at the end of a line nothing is shown
pub line_end : (p : Place) (n : ℕ) → line_from p n [] ≡ []
unfolding line_from
line_end p n = refl

-- where no character is left, all is shown
pub line_whole : (shown all : List StyledChar) (p : Place) (n : ℕ) (cs : List ℕ) → cs ≡ [] → shown ++ line_from p n cs ≡ all → shown ≡ all
line_whole shown all p n cs e h = sym (append-nil shown) ∙ ap (λ l. shown ++ l) (sym (ap (line_from p n) e ∙ line_end p n)) ∙ h

-- ---- a plain line

abbrev plain_place : Strikes → ℕ → Place
plain_place before column = record { pen = plain_pen; now = no_strikes; before = before; column = column }

not_control : (c : ℕ) → is_plain_char c ≡ true → is_control c ≡ false
not_control c h = grind (arith, nat_tests, h)

no_escape : (c : ℕ) (cs : List ℕ) → is_plain_char c ≡ true → command_at c cs ≡ 0
no_escape c cs h = let e : eqb c 27 ≡ false = grind (arith, nat_tests, h) in ap (λ b. cond b (command_len cs) 0) e

no_strike : (c : ℕ) (cs : List ℕ) → are_plain cs ≡ true → is_struck c cs ≡ false
no_strike c [] h = refl
no_strike c (d ∷ ds) h =
    let b = both_true (is_plain_char d) (are_plain ds) h in
    let e : eqb d 8 ≡ false = grind (arith, nat_tests, b.0) in
    ap (λ t. t && (not (is_control c) && (not (is_control (slice_index (d ∷ ds) 1)) && ((c == 95) || (c == slice_index (d ∷ ds) 1))))) e

as_it_is : (p : Place) (c : ℕ) → is_plain_char c ≡ true → shown_char p c ≡ styled (style_at p) c ∷ []
as_it_is p c h =
    let tab : eqb c 9 ≡ false = grind (arith, nat_tests, h) in
    let same : is_printable_char c ≡ true = (both_true (is_printable_char c) (not (c == 10)) h).0 in
    ap (λ b. cond b (repeat (tab_len p.column) (styled (style_at p) 32 ∷ [])) (styled (style_at p) (picture c) ∷ [])) tab
    ∙ ap (λ b. styled (style_at p) (cond b c (cond (nat_lt c 32) (0x2400 + c) (cond (eqb c 127) 0x2421 0xFFFD))) ∷ []) same

plain_from : (before : Strikes) (column : ℕ) (cs : List ℕ) → are_plain cs ≡ true → line_from (plain_place before column) 0 cs ≡ map (styled plain_pen) cs
plain_from before column [] h = line_end (plain_place before column) 0
plain_from before column (c ∷ cs) h =
    let b = both_true (is_plain_char c) (are_plain cs) h in
    here_by (plain_place before column) c 0 cs true false (no_escape c cs b.0) refl (no_strike c cs b.1)
    ∙ ap (λ l. l ++ line_from (plain_place before (column_after column c)) 0 cs) (as_it_is (plain_place before column) c b.0)
    ∙ ap (λ (l : List StyledChar). styled plain_pen c ∷ l) (plain_from before (column_after column c) cs b.1)

-- a line without tabs and control characters is shown as it is
pub plain_all : (cs : List ℕ) → are_plain cs ≡ true → line_chars cs ≡ map (styled plain_pen) cs
plain_all cs h = plain_from no_strikes 0 cs h
