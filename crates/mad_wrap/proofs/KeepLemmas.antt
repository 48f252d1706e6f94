-- Lines that hold a break of tokens keep their text, and fit.
use Rattle.std.proofs.Common.{◌≡◌, ℕ, ◌≤◌, ◌<◌, ◌+◌, ◌-◌, Bool, true, not, List, [], ◌∷◌, ◌++◌, map, chars, length, refl, sym, ap, ◌∙◌, arith, subst, append_assoc, Contains}
use Rattle.std.proofs.lemmas.Bool.{and_parts}
use Rattle.std.proofs.lemmas.List.{map-append, length-append}
use Rattle.std.proofs.lemmas.List.Elements.{Contains-append_right}
use Rattle.std.specs.List.{AllByRecursion}
use Rattle.std.specs.Char.{is_whitespace}
use Rattle.mad_characters.specs.Columns.{char_columns}
use Rattle.mad_md.specs.Flagged.{FlaggedChar, Run, flagged, flagged_text, run_of, is_blank}
use Rattle.mad_md.specs.declared.compound.Compound.{Compound}
use Rattle.mad_measure.specs.TextColumns.{width_of}
use Rattle.mad_measure.specs.Tokens.{IsAlike, flagged_token, tokens_text, token_run}
use Rattle.mad_measure.specs.declared.tokens.Token.{Token}
use Rattle.mad_measure.proofs.AllLemmas.{all_joined, all_front, all_back, all_each}
use Rattle.mad_measure.proofs.FlaggedLemmas.{width_of-append}
use Rattle.mad_measure.proofs.TokenTexts.{IsHonest, tokens_text-append, some_flagged, length-token_text}
use Rattle.mad_wrap.specs.Breaks.{LineAndGap, lines_and_gaps, total_width, AllBlank, FitsFrom}
use Rattle.mad_wrap.specs.Keeps.{AllWhite, Keeps}
use Rattle.mad_wrap.specs.TokenLines.{HoldBreak}
use Rattle.mad_wrap.specs.Placings.{GapsForced}
use Rattle.mad_wrap.specs.WrapLines.{runs_of, LinesFit, NoneEmpty, IsMadeOf}
use Rattle.mad_wrap.specs.declared.room.Room.{Room}
use Rattle.mad_wrap.specs.declared.wrapped_line.WrappedLine.{WrappedLine}
use Rattle.mad_wrap.specs.WrapLines.{compounds_of, AreCounted}

-- ---- the texts of the lines

-- compounds that say what tokens do have their text
pub text_of_runs : (cs : List Compound) (ts : List Token) → map run_of cs ≡ map token_run ts → flagged_text cs ≡ tokens_text ts
text_of_runs [] [] h = refl
text_of_runs [] (t ∷ ts) h = absurd (cc)
text_of_runs (c ∷ cs) [] h = absurd (cc)
text_of_runs (c ∷ cs) (t ∷ ts) h =
    let head : run_of c ≡ token_run t = cc in
    let tail : map run_of cs ≡ map token_run ts = cc in
    ap (λ (x : Run). flagged x.flags (chars x.text) ++ flagged_text cs) head ∙ ap (λ l. flagged_token t ++ l) (text_of_runs cs ts tail)

-- the texts of lines that hold a break are those of its lines
pub texts_are : (ps : List (LineAndGap Token)) (ls : List WrappedLine) → HoldBreak ps ls → map (λ p. tokens_text p.line) ps ≡ map flagged_text (compounds_of ls)
texts_are [] [] h = refl
texts_are (p ∷ ps) (l ∷ ls) h =
    ap (λ x. x ∷ map (λ p. tokens_text p.line) ps) (sym (text_of_runs l.compounds.items p.line h.0.runs_are)) ∙ ap (λ xs. flagged_text l.compounds.items ∷ xs) (texts_are ps ls h.1)
texts_are _ _ h = absurd h

-- as many lines hold a break as it has
pub lengths_are : (ps : List (LineAndGap Token)) (ls : List WrappedLine) → HoldBreak ps ls → length ps ≡ length ls
lengths_are [] [] h = refl
lengths_are (p ∷ ps) (l ∷ ls) h = omega (arith, lengths_are ps ls h.1)
lengths_are _ _ h = absurd h

-- ---- keeps

blank_is_white : (x : FlaggedChar) → is_blank x ≡ true → is_whitespace x.char ≡ true
blank_is_white x h = (and_parts (is_whitespace x.char) (not x.flags.code) h).0

-- the text of blank tokens is whitespace
pub gap_is_white : (max : ℕ) (ts : List Token) → AllBlank ts → AllByRecursion (IsHonest max) ts → AllWhite (tokens_text ts)
gap_is_white max [] h g = tt
gap_is_white max (t ∷ ts) h g =
    all_joined (λ x. is_whitespace x.char ≡ true) (flagged_token t) (tokens_text ts)
    (all_each (λ x. is_blank x ≡ t.blank) (λ x. is_whitespace x.char ≡ true) (λ x e. blank_is_white x (e ∙ h.0)) (flagged_token t) g.0.alike.alike)
    (gap_is_white max ts h.1 g.1)

-- the lines of a break keep its text, where its gaps are blank
pub keeps_break : (max indent : ℕ) (r : Room) (ps : List (LineAndGap Token)) → GapsForced indent r ps → AllByRecursion (IsHonest max) (lines_and_gaps ps) → Keeps (tokens_text (lines_and_gaps ps)) (map (λ p. tokens_text p.line) ps)
keeps_break max indent r [] h g = refl
keeps_break max indent r (p ∷ ps) h g =
    let after = all_back (IsHonest max) p.line (p.gap ++ lines_and_gaps ps) g in (
      tokens_text p.gap,
      tokens_text (lines_and_gaps ps),
      tokens_text-append p.line (p.gap ++ lines_and_gaps ps) ∙ ap (λ l. tokens_text p.line ++ l) (tokens_text-append p.gap (lines_and_gaps ps)),
      gap_is_white max p.gap h.0 (all_front (IsHonest max) p.gap (lines_and_gaps ps) after),
      keeps_break max r.other r ps h.2 (all_back (IsHonest max) p.gap (lines_and_gaps ps) after),
    )

-- ---- fits

-- a token is no wider than the limit, or one character
token_room : (i width : ℕ) (b : Bool) (w : ℕ) (xs : List FlaggedChar) → i ≤ width → IsAlike (width - i) b w xs → AllByRecursion (λ x. i + char_columns x.char ≤ width) xs → i + w ≤ width
token_room i width b w [] l h room = omega (arith, h.counts)
token_room i width b w (x ∷ []) l h room = omega (arith, h.counts, room.0)
token_room i width b w (x ∷ y ∷ zs) l h room = let within : w ≤ width - i = h.within (omega arith) in omega arith

-- where each character has room after an indent, each token has
pub tokens_room : (i width : ℕ) (ts : List Token) → i ≤ width → AllByRecursion (IsHonest (width - i)) ts → AllByRecursion (λ x. i + char_columns x.char ≤ width) (tokens_text ts)
    → AllByRecursion (λ t. i + t.width ≤ width) ts
tokens_room i width [] l h room = tt
tokens_room i width (t ∷ ts) l h room = (
  token_room i width t.blank t.width (flagged_token t) l h.0.alike (all_front (λ x. i + char_columns x.char ≤ width) (flagged_token t) (tokens_text ts) room),
  tokens_room i width ts l h.1 (all_back (λ x. i + char_columns x.char ≤ width) (flagged_token t) (tokens_text ts) room),
)

-- tokens take as many columns as their text
pub width_is : (max : ℕ) (ts : List Token) → AllByRecursion (IsHonest max) ts → total_width ts ≡ width_of (tokens_text ts)
width_is max [] h = refl
width_is max (t ∷ ts) h = omega (arith, h.0.alike.counts, width_is max ts h.1, width_of-append (flagged_token t) (tokens_text ts))

-- what holds of the tokens of a line, and of those after it and its gap
pub line_of : (P : Token → Type 0) (p : LineAndGap Token) (ps : List (LineAndGap Token)) → AllByRecursion P (lines_and_gaps (p ∷ ps)) → AllByRecursion P p.line
line_of P p ps h = all_front P p.line (p.gap ++ lines_and_gaps ps) h

-- what holds of each token of a break holds of those after its first line and gap
pub rest_of : (P : Token → Type 0) (p : LineAndGap Token) (ps : List (LineAndGap Token)) → AllByRecursion P (lines_and_gaps (p ∷ ps)) → AllByRecursion P (lines_and_gaps ps)
rest_of P p ps h = all_back P p.gap (lines_and_gaps ps) (all_back P p.line (p.gap ++ lines_and_gaps ps) h)

-- the texts of a break's lines fit where the lines do
pub fit_break : (max indent : ℕ) (r : Room) (ps : List (LineAndGap Token)) → AllByRecursion (IsHonest max) (lines_and_gaps ps) → FitsFrom indent r ps → LinesFit indent r (map (λ p. tokens_text p.line) ps)
fit_break max indent r [] h fit = tt
fit_break max indent r (p ∷ ps) h fit = (
  omega (arith, fit.0, width_is max p.line (line_of (IsHonest max) p ps h)),
  fit_break max r.other r ps (rest_of (IsHonest max) p ps h) fit.2,
)

-- ---- some text on each line

-- no line is without a token
abbrev pub SomeOnEach : List (LineAndGap Token) → Type 0
SomeOnEach ps = AllByRecursion (λ p. 0 < length p.line) ps

some_text : (max : ℕ) (ts : List Token) → 0 < length ts → AllByRecursion (IsHonest max) ts → 0 < length (tokens_text ts)
some_text max [] some h = absurd (omega arith)
some_text max (t ∷ ts) some h = omega (arith, some_flagged t h.0.within, length-append (flagged_token t) (tokens_text ts))

-- lines that hold a break have some text each, where each line of the break has a token
pub some_lines : (max : ℕ) (ps : List (LineAndGap Token)) (ls : List WrappedLine) → HoldBreak ps ls → AllByRecursion (IsHonest max) (lines_and_gaps ps) → SomeOnEach ps
    → AllByRecursion (λ l. 0 < length (flagged_text l)) (compounds_of ls)
some_lines max [] [] h g some = tt
some_lines max (p ∷ ps) (l ∷ ls) h g some = (
  omega (arith, some_text max p.line some.0 (line_of (IsHonest max) p ps g), ap length (text_of_runs l.compounds.items p.line h.0.runs_are)),
  some_lines max ps ls h.1 (rest_of (IsHonest max) p ps g) some.1,
)
some_lines max _ _ h g some = absurd h

-- ---- what each line says of itself

-- lines that hold a break say what the tokens of its lines do
pub runs_are : (ps : List (LineAndGap Token)) (ls : List WrappedLine) → HoldBreak ps ls → map runs_of (compounds_of ls) ≡ map (λ p. map token_run p.line) ps
runs_are [] [] h = refl
runs_are (p ∷ ps) (l ∷ ls) h = ap (λ x. x ∷ map runs_of (compounds_of ls)) h.0.runs_are ∙ ap (λ x. map token_run p.line ∷ x) (runs_are ps ls h.1)
runs_are _ _ h = absurd h

-- the columns of lines that hold a break are counted right
pub counted_are : (max : ℕ) (ps : List (LineAndGap Token)) (ls : List WrappedLine) → HoldBreak ps ls → AllByRecursion (IsHonest max) (lines_and_gaps ps) → AreCounted ls
counted_are max [] [] h g = tt
counted_are max (p ∷ ps) (l ∷ ls) h g = (
  omega (arith, h.0.columns_are, width_is max p.line (line_of (IsHonest max) p ps g), ap width_of (text_of_runs l.compounds.items p.line h.0.runs_are)),
  counted_are max ps ls h.1 (rest_of (IsHonest max) p ps g),
)
counted_are max _ _ h g = absurd h

-- ---- the compounds are tokens

contains_at : {X : Type 0} (pre xs : List X) (x : X) → Contains (pre ++ x ∷ xs) x
contains_at pre xs x = Contains-append_right pre (x ∷ xs) x (0, omega arith, refl)

contained : {X : Type 0} (pre xs post : List X) → AllByRecursion (Contains (pre ++ (xs ++ post))) xs
contained pre [] post = tt
contained pre (x ∷ xs) post = (
  contains_at pre (xs ++ post) x,
  subst (λ (l : List _). AllByRecursion (Contains l) xs) (append_assoc pre (x ∷ []) (xs ++ post)) (contained (pre ++ x ∷ []) xs post),
)

-- the line's compounds are among the tokens
made_of : (cs : List Compound) (all pre post ts : List Token) (l : List Compound) → map run_of l ≡ map token_run ts → pre ++ (ts ++ post) ≡ all → IsMadeOf cs all l
made_of cs all pre post ts l same joins =
    let runs : map token_run all ≡ map token_run pre ++ (map token_run ts ++ map token_run post) =
    ap (map token_run) (sym joins) ∙ map-append token_run pre (ts ++ post) ∙ ap (λ x. map token_run pre ++ x) (map-append token_run ts post) in
    let held = all_each (Contains (map token_run pre ++ (map token_run ts ++ map token_run post))) (Contains (map run_of cs ++ (map token_run pre ++ (map token_run ts ++ map token_run post))))
    (λ x h. Contains-append_right (map run_of cs) (map token_run pre ++ (map token_run ts ++ map token_run post)) x h) (map token_run ts) (contained (map token_run pre) (map token_run ts) (map token_run post)) in
    subst (AllByRecursion (Contains (map run_of cs ++ map token_run all))) (sym same) (subst (λ x. AllByRecursion (Contains (map run_of cs ++ x)) (map token_run ts)) (sym runs) held)

-- the compounds of lines that hold a break are among its tokens
pub parts_are : (cs : List Compound) (all pre : List Token) (ps : List (LineAndGap Token)) (ls : List WrappedLine) → HoldBreak ps ls → pre ++ lines_and_gaps ps ≡ all
    → AllByRecursion (IsMadeOf cs all) (compounds_of ls)
parts_are cs all pre [] [] h e = tt
parts_are cs all pre (p ∷ ps) (l ∷ ls) h e = (
  made_of cs all pre (p.gap ++ lines_and_gaps ps) p.line l.compounds.items h.0.runs_are e,
  parts_are cs all (pre ++ (p.line ++ p.gap)) ps ls h.1 (append_assoc pre (p.line ++ p.gap) (lines_and_gaps ps) ∙ ap (λ x. pre ++ x) (append_assoc p.line p.gap (lines_and_gaps ps)) ∙ e),
)
parts_are cs all pre _ _ h e = absurd h

-- ---- no compound is empty

filled : (max : ℕ) (cs : List Compound) (ts : List Token) → map run_of cs ≡ map token_run ts → AllByRecursion (IsHonest max) ts → NoneEmpty cs
filled max [] ts h g = tt
filled max (c ∷ cs) [] h g = absurd (cc)
filled max (c ∷ cs) (t ∷ ts) h g =
    let head : run_of c ≡ token_run t = cc in
    let tail : map run_of cs ≡ map token_run ts = cc in
    (omega (arith, ap (λ (x : Run). length x.text) head, length-token_text t g.0.within, g.0.within.some), filled max cs ts tail g.1)

-- no compound of lines that hold a break is empty
pub filled_lines : (max : ℕ) (ps : List (LineAndGap Token)) (ls : List WrappedLine) → HoldBreak ps ls → AllByRecursion (IsHonest max) (lines_and_gaps ps)
    → AllByRecursion NoneEmpty (compounds_of ls)
filled_lines max [] [] h g = tt
filled_lines max (p ∷ ps) (l ∷ ls) h g = (
  filled max l.compounds.items p.line h.0.runs_are (line_of (IsHonest max) p ps g),
  filled_lines max ps ls h.1 (rest_of (IsHonest max) p ps g),
)
filled_lines max _ _ h g = absurd h
