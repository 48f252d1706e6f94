-- What a line shows, by the laws.
use Rattle.std.proofs.Common.{◌≡◌, map, ℕ, zero, suc, ◌+◌, ◌-◌, ◌%◌, ◌<◌, ◌≤◌, Bool, true, false, cond, ◌&&◌, ◌||◌, not, eqb, ◌⊎◌, inl, inr, List, [], ◌∷◌, ◌++◌, length, take, drop, refl, ap, sym, ◌∙◌, subst, arith, length-drop}
use Rattle.std.specs.Prelude.{slice_index, ◌==◌}
use Rattle.std.specs.List.{list_all, repeat}
use Rattle.std.specs.Char.{is_control}
use Rattle.std.proofs.lemmas.Bool.Decides.{nat_tests}
use Rattle.std.proofs.lemmas.Bool.{and_from, eqb-true, false≢true}
use Rattle.std.proofs.lemmas.List.{map-append, take-append-drop}
use Rattle.mad_characters.specs.Columns.{char_columns}
use Rattle.mad_characters.specs.Pictures.{is_printable_char, picture}
use Rattle.mad_characters.proofs.PictureLemmas.{picture_is}
use Rattle.mad_plain.specs.declared.pens.Pen.{Pen}
use Rattle.mad_plain.specs.declared.places.Place.{Place}
use Rattle.mad_plain.specs.declared.places.Strikes.{Strikes}
use Rattle.mad_plain.specs.Commands.{command_len}
use Rattle.mad_plain.specs.Pens.{plain_pen, pen_after}
use Rattle.mad_plain.specs.Runs.{StyledChar, styled, said}
use Rattle.mad_plain.specs.Lines.{no_strikes, is_struck, strikes_after, style_at, tab_len, column_after, passed, shown_char, command_at, line_start, line_from, line_chars, is_plain_char, are_plain}
use Rattle.mad_plain.specs.Laws.{IsCommand, IsShown, nothing, command, overstrike, tab, character}
use Rattle.mad_plain.proofs.PenLemmas.{both_true}
use Rattle.mad_plain.proofs.CommandLemmas.{is_command}
use Rattle.mad_plain.proofs.LineLemmas.{here_by, skip_here, line_end}

-- ---- nothing is obeyed

said_append : (a b : List StyledChar) → said (a ++ b) ≡ said a ++ said b
said_append a b = map-append (λ (c : StyledChar). c.char) a b

plain_append : (a b : List ℕ) → are_plain a ≡ true → are_plain b ≡ true → are_plain (a ++ b) ≡ true
plain_append [] b h k = k
plain_append (c ∷ cs) b h k = let p = both_true (is_plain_char c) (are_plain cs) h in and_from (is_plain_char c) (are_plain (cs ++ b)) p.0 (plain_append cs b p.1 k)

blanks_said : (n : ℕ) (style : Pen) → said (repeat n (styled style 32 ∷ [])) ≡ repeat n (32 ∷ [])
blanks_said zero style = refl
blanks_said (suc n) style = ap (λ (l : List ℕ). 32 ∷ l) (blanks_said n style)

blanks_plain : (n : ℕ) → are_plain (repeat n (32 ∷ [])) ≡ true
blanks_plain zero = refl
blanks_plain (suc n) = blanks_plain n

picture_plain : (c : ℕ) → not (c == 10) ≡ true → is_plain_char (picture c) ≡ true
picture_plain c h =
    let other : not (picture c == 10) ≡ true = grind (arith, nat_tests, h) in
    and_from (is_printable_char (picture c)) (not (picture c == 10)) (picture_is c) other

char_by : (p : Place) (c : ℕ) (t : Bool) → eqb c 9 ≡ t → not (c == 10) ≡ true → are_plain (said (cond t (repeat (tab_len p.column) (styled (style_at p) 32 ∷ [])) (styled (style_at p) (picture c) ∷ []))) ≡ true
char_by p c true e h = ap are_plain (blanks_said (tab_len p.column) (style_at p)) ∙ blanks_plain (tab_len p.column)
char_by p c false e h = and_from (is_plain_char (picture c)) true (picture_plain c h) refl

obeyed_here : (p : Place) (c k : ℕ) (cs : List ℕ) (none struck : Bool) → command_at c cs ≡ k → eqb k 0 ≡ none → is_struck c cs ≡ struck → not (c == 10) ≡ true
    → ((q : Place) (n : ℕ) → are_plain (said (line_from q n cs)) ≡ true) → are_plain (said (line_from p 0 (c ∷ cs))) ≡ true
obeyed_here p c k cs false struck e n s h later = ap (λ l. are_plain (said l)) (here_by p c k cs false struck e n s) ∙ later (record p { pen = pen_after p.pen cs }) k
obeyed_here p c k cs true true e n s h later = ap (λ l. are_plain (said l)) (here_by p c k cs true true e n s) ∙ later (record p { now = strikes_after p.now p.before c (slice_index cs 1) }) 1
obeyed_here p c k cs true false e n s h later =
    ap (λ l. are_plain (said l)) (here_by p c k cs true false e n s)
    ∙ ap are_plain (said_append (shown_char p c) (line_from (passed p c) 0 cs))
    ∙ plain_append (said (shown_char p c)) (said (line_from (passed p c) 0 cs)) (char_by p c (eqb c 9) refl h) (later (passed p c) 0)

obeyed_from : (p : Place) (n : ℕ) (cs : List ℕ) → list_all (λ c. not (c == 10)) cs ≡ true → are_plain (said (line_from p n cs)) ≡ true
obeyed_from p n [] h = ap (λ l. are_plain (said l)) (line_end p n)
obeyed_from p zero (c ∷ cs) h =
    let b = both_true (not (c == 10)) (list_all (λ d. not (d == 10)) cs) h in
    obeyed_here p c (command_at c cs) cs (eqb (command_at c cs) 0) (is_struck c cs) refl refl refl b.0 (λ q m. obeyed_from q m cs b.1)
obeyed_from p (suc n) (c ∷ cs) h =
    let b = both_true (not (c == 10)) (list_all (λ d. not (d == 10)) cs) h in
    ap (λ l. are_plain (said l)) (skip_here p (suc n) c cs (omega arith)) ∙ obeyed_from p (suc n - 1) cs b.1

-- nothing that is shown of a line without newlines is obeyed
pub nothing_obeyed : (line : List ℕ) → list_all (λ c. not (c == 10)) line ≡ true → are_plain (said (line_chars line)) ≡ true
nothing_obeyed line h = obeyed_from line_start 0 line h

-- ---- nothing is hidden

skip_all : (p : Place) (n : ℕ) (cs : List ℕ) → line_from p n cs ≡ line_from p 0 (drop n cs)
skip_all p zero cs = refl
skip_all p (suc n) [] = line_end p (suc n) ∙ sym (line_end p 0)
skip_all p (suc n) (c ∷ cs) =
    let less : suc n - 1 ≡ n = omega arith in
    skip_here p (suc n) c cs (omega arith) ∙ ap (λ k. line_from p k cs) less ∙ skip_all p n cs

abbrev Later : List ℕ → Type 0
Later cs = (q : Place) (k : ℕ) (ds : List ℕ) → length ds ≤ length cs → k % 8 ≡ q.column % 8 → IsShown k ds (said (line_from q 0 ds))

escape_is : (c k : ℕ) (cs : List ℕ) (t : Bool) → eqb c 27 ≡ t → cond t (command_len cs) 0 ≡ k → eqb k 0 ≡ false → (c ≡ 27) × (command_len cs ≡ k) × (0 < k)
escape_is c k cs true e h n = (eqb-true c 27 e, h, grind (arith, nat_tests, n))
escape_is c k cs false e h n = absurd (false≢true (sym n ∙ ap (λ j. eqb j 0) (sym h)))

struck_by : (c d : ℕ) (ds : List ℕ) (back control second low same : Bool) → back ≡ true → is_control c ≡ control → is_control d ≡ second → eqb c 95 ≡ low → eqb c d ≡ same
    → (back && (not control && (not second && (low || same)))) ≡ true → (is_control c ≡ false) × ((c ≡ d) ⊎ (c ≡ 95))
struck_by c d ds true false false true same b k e l s h = (k, inr (eqb-true c 95 l))
struck_by c d ds true false false false true b k e l s h = (k, inl (eqb-true c d s))
struck_by c d ds true false false false false b k e l s h = absurd (false≢true h)
struck_by c d ds true false true low same b k e l s h = absurd (false≢true h)
struck_by c d ds true true second low same b k e l s h = absurd (false≢true h)
struck_by c d ds false control second low same b k e l s h = absurd (false≢true b)

control_by : (c : ℕ) (back control low same : Bool) → (back && (not control && (not true && (low || same)))) ≡ false
control_by c true true low same = refl
control_by c true false low same = refl
control_by c false control low same = refl

struck_shape : (c : ℕ) (cs : List ℕ) → is_struck c cs ≡ true → (d : ℕ) × (ds : List ℕ) × (cs ≡ 8 ∷ d ∷ ds) × (is_control c ≡ false) × ((c ≡ d) ⊎ (c ≡ 95))
struck_shape c [] h = absurd (false≢true h)
struck_shape c (b ∷ []) h = absurd (false≢true (sym (control_by c (eqb b 8) (is_control c) (eqb c 95) (eqb c 0)) ∙ h))
struck_shape c (b ∷ d ∷ ds) h =
    let back : eqb b 8 ≡ true = (both_true (eqb b 8) (not (is_control c) && (not (is_control d) && ((c == 95) || (c == d)))) h).0 in
    let r = struck_by c d ds (eqb b 8) (is_control c) (is_control d) (eqb c 95) (eqb c d) back refl refl refl refl h in
    (d, ds, ap (λ (x : ℕ). x ∷ d ∷ ds) (eqb-true b 8 back), r.0, r.1)

abbrev Is : ℕ → List ℕ → List StyledChar → Type 0
Is column cs l = IsShown column cs (said l)

tab_shown : (p : Place) (column c : ℕ) (cs : List ℕ) (t : Bool) → eqb c 9 ≡ t → column % 8 ≡ p.column % 8 → Later cs
    → IsShown column (c ∷ cs) (said (cond t (repeat (tab_len p.column) (styled (style_at p) 32 ∷ [])) (styled (style_at p) (picture c) ∷ [])) ++ said (line_from (passed p c) 0 cs))
tab_shown p column c cs true e same later =
    let q : column_after p.column c ≡ 0 = ap (λ b. cond b 0 ((p.column % 8 + char_columns (picture c)) % 8)) e in
    let next : (column + tab_len p.column) % 8 ≡ 0 = omega arith in
    let after : (column + tab_len p.column) % 8 ≡ (passed p c).column % 8 = next ∙ ap (λ n. n % 8) (sym q) in
    subst (λ (x : ℕ). IsShown column (x ∷ cs) (said (repeat (tab_len p.column) (styled (style_at p) 32 ∷ [])) ++ said (line_from (passed p c) 0 cs))) (sym (eqb-true c 9 e))
    (subst (λ (l : List ℕ). IsShown column (9 ∷ cs) (l ++ said (line_from (passed p c) 0 cs))) (sym (blanks_said (tab_len p.column) (style_at p)))
    (tab column (tab_len p.column) cs (said (line_from (passed p c) 0 cs)) (omega arith) (omega arith) next (later (passed p c) (column + tab_len p.column) cs (omega arith) after)))
tab_shown p column c cs false e same later =
    let q : column_after p.column c ≡ (p.column % 8 + char_columns (picture c)) % 8 = ap (λ b. cond b 0 ((p.column % 8 + char_columns (picture c)) % 8)) e in
    let next : (column + char_columns (picture c)) % 8 ≡ ((p.column % 8 + char_columns (picture c)) % 8) % 8 = omega arith in
    character column c cs (said (line_from (passed p c) 0 cs)) (later (passed p c) (column + char_columns (picture c)) cs (omega arith) (next ∙ ap (λ n. n % 8) (sym q)))

hidden_here : (p : Place) (column c k : ℕ) (cs : List ℕ) (none struck : Bool) → command_at c cs ≡ k → eqb k 0 ≡ none → is_struck c cs ≡ struck → column % 8 ≡ p.column % 8 → Later cs → Is column (c ∷ cs) (line_from p 0 (c ∷ cs))
hidden_here p column c k cs false struck e n s same later =
    let r = escape_is c k cs (eqb c 27) refl e n in
    let q : Place = record p { pen = pen_after p.pen cs } in
    let some : 0 < command_len cs = omega (arith, r.1, r.2) in
    let cmd : IsCommand (take k cs) = subst (λ j. IsCommand (take j cs)) r.1 (is_command cs some) in
    subst (Is column (c ∷ cs)) (sym (here_by p c k cs false struck e n s ∙ skip_all q k cs))
    (subst (λ (x : ℕ). Is column (x ∷ cs) (line_from q 0 (drop k cs))) (sym r.0)
    (subst (λ (l : List ℕ). Is column (27 ∷ l) (line_from q 0 (drop k cs))) (take-append-drop k cs)
    (command column (take k cs) (drop k cs) (said (line_from q 0 (drop k cs))) cmd (later q column (drop k cs) (omega (arith, length-drop k cs)) same))))
hidden_here p column c k cs true true e n s same later =
    let r = struck_shape c cs s in
    let q : Place = record p { now = strikes_after p.now p.before c (slice_index cs 1) } in
    subst (Is column (c ∷ cs)) (sym (here_by p c k cs true true e n s ∙ ap (line_from q 1) r.2 ∙ skip_all q 1 (8 ∷ r.0 ∷ r.1)))
    (subst (λ (l : List ℕ). Is column (c ∷ l) (line_from q 0 (r.0 ∷ r.1))) (sym r.2)
    (overstrike column c r.0 r.1 (said (line_from q 0 (r.0 ∷ r.1))) r.3 r.4 (later q column (r.0 ∷ r.1) (omega (arith, ap length r.2)) same)))
hidden_here p column c k cs true false e n s same later =
    subst (Is column (c ∷ cs)) (sym (here_by p c k cs true false e n s))
    (subst (IsShown column (c ∷ cs)) (sym (said_append (shown_char p c) (line_from (passed p c) 0 cs))) (tab_shown p column c cs (eqb c 9) refl same later))

hidden_from : (fuel : ℕ) (p : Place) (column : ℕ) (cs : List ℕ) → length cs ≤ fuel → column % 8 ≡ p.column % 8 → Is column cs (line_from p 0 cs)
hidden_from fuel p column [] h same = subst (Is column []) (sym (line_end p 0)) (nothing column)
hidden_from zero p column (c ∷ cs) h same = absurd (omega (arith, h))
hidden_from (suc fuel) p column (c ∷ cs) h same =
    hidden_here p column c (command_at c cs) cs (eqb (command_at c cs) 0) (is_struck c cs) refl refl refl same (λ q k ds small e. hidden_from fuel q k ds (omega (arith, small, h)) e)

-- nothing of a line is hidden but commands and what overstrikes say
pub nothing_hidden : (line : List ℕ) → IsShown 0 line (said (line_chars line))
nothing_hidden line = hidden_from (length line) line_start 0 line (omega arith) refl

-- ---- styles come of commands and overstrikes alone

abbrev Plainly : List StyledChar → Type 0
Plainly l = l ≡ map (styled plain_pen) (said l)

plainly_append : (a b : List StyledChar) → Plainly a → Plainly b → Plainly (a ++ b)
plainly_append a b h k =
    ap (λ (l : List StyledChar). l ++ b) h
    ∙ ap (λ (l : List StyledChar). map (styled plain_pen) (said a) ++ l) k
    ∙ sym (map-append (styled plain_pen) (said a) (said b))
    ∙ ap (map (styled plain_pen)) (sym (said_append a b))

blanks_plainly : (n : ℕ) → Plainly (repeat n (styled plain_pen 32 ∷ []))
blanks_plainly zero = refl
blanks_plainly (suc n) = ap (λ (l : List StyledChar). styled plain_pen 32 ∷ l) (blanks_plainly n)

abbrev plain_place : Strikes → ℕ → Place
plain_place before column = record { pen = plain_pen; now = no_strikes; before = before; column = column }

shown_plainly : (before : Strikes) (column c : ℕ) (t : Bool) → Plainly (cond t (repeat (tab_len column) (styled plain_pen 32 ∷ [])) (styled plain_pen (picture c) ∷ []))
shown_plainly before column c true = blanks_plainly (tab_len column)
shown_plainly before column c false = refl

no_back : (c : ℕ) (cs : List ℕ) → list_all (λ d. not ((d == 27) || (d == 8))) cs ≡ true → is_struck c cs ≡ false
no_back c [] h = refl
no_back c (d ∷ ds) h =
    let b = both_true (not ((d == 27) || (d == 8))) (list_all (λ x. not ((x == 27) || (x == 8))) ds) h in
    let e : eqb d 8 ≡ false = grind (arith, nat_tests, b.0) in
    ap (λ t. t && (not (is_control c) && (not (is_control (slice_index (d ∷ ds) 1)) && ((c == 95) || (c == slice_index (d ∷ ds) 1))))) e

written_from : (before : Strikes) (column : ℕ) (cs : List ℕ) → list_all (λ c. not ((c == 27) || (c == 8))) cs ≡ true → Plainly (line_from (plain_place before column) 0 cs)
written_from before column [] h = line_end (plain_place before column) 0 ∙ ap (λ l. map (styled plain_pen) (said l)) (sym (line_end (plain_place before column) 0))
written_from before column (c ∷ cs) h =
    let b = both_true (not ((c == 27) || (c == 8))) (list_all (λ x. not ((x == 27) || (x == 8))) cs) h in
    let e : eqb c 27 ≡ false = grind (arith, nat_tests, b.0) in
    let none : command_at c cs ≡ 0 = ap (λ t. cond t (command_len cs) 0) e in
    let step = here_by (plain_place before column) c 0 cs true false none refl (no_back c cs b.1) in
    let rest = line_from (plain_place before (column_after column c)) 0 cs in
    step
    ∙ plainly_append (shown_char (plain_place before column) c) rest (shown_plainly before column c (eqb c 9)) (written_from before (column_after column c) cs b.1)
    ∙ ap (λ l. map (styled plain_pen) (said l)) (sym step)

-- a line without ESC and backspaces has no style
pub styles_written : (line : List ℕ) → list_all (λ c. not ((c == 27) || (c == 8))) line ≡ true → line_chars line ≡ map (styled plain_pen) (said (line_chars line))
styles_written line h = written_from no_strikes 0 line h
