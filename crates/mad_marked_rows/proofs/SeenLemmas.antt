-- Characters that are put after others, with their marks.
use Rattle.std.proofs.Common.{◌≡◌, ℕ, ◌+◌, ◌<◌, ◌≤◌, Bool, true, false, cond, List, [], ◌∷◌, ◌++◌, length, drop, get_or, sym, ap, ◌∙◌, arith, append_assoc, append-nil}
use Rattle.std.specs.Prelude.{chars}
use Rattle.std.proofs.StrCases.{chars_of_empty}
use Rattle.std.proofs.lemmas.List.{at_drop_more, drop_all}
use Rattle.mad_md.specs.Flagged.{Flags, flagged_of, flags_of, run_of}
use Rattle.mad_md.specs.declared.compound.Compound.{Compound}
use Rattle.mad_term.specs.declared.styles.ContentStyle.{ContentStyle}
use Rattle.mad_style.specs.declared.compound_styles.CompoundStyle.{CompoundStyle}
use Rattle.mad_style.specs.declared.line_styles.LineStyle.{LineStyle}
use Rattle.mad_rows.specs.RowStyles.{compound_style}
use Rattle.mad_rows.specs.declared.row_skin.RowSkin.{RowSkin}
use Rattle.mad_mark_runs.specs.declared.mark_runs.MarkRun.{MarkRun}
use Rattle.mad_marks.specs.RowMarks.{counted}
use Rattle.mad_marked_rows.specs.MarkedTexts.{letters_of, mark_value, next_value, number_next, SameFrom}
use Rattle.mad_marked_rows.proofs.CursorLemmas.{letters_same}
use Rattle.mad_marked_rows.specs.Seen.{bare_text, counted_text, seen_char, seen_compound, seen_compounds, seen_from, seen_letters}
use Rattle.mad_marked_rows.specs.declared.seen.SeenChar.{SeenChar}

-- the first character
pub letter_begun : (paint : ℕ → ContentStyle → ContentStyle) (runs : List MarkRun) (style : CompoundStyle) (old new : List SeenChar) (text rest : List ℕ) (n c v m : ℕ) → chars text ≡ c ∷ chars rest → v ≡ mark_value runs n c → m ≡ number_next n c
    → new ≡ old ++ seen_char paint style v c ∷ [] → new ++ seen_from paint style v (letters_of runs m (chars rest)) ≡ old ++ counted_text paint runs style n (chars text)
letter_begun paint runs style old new text rest n c v m chars_are v_is m_is is =
    ap (λ (l : List SeenChar). l ++ seen_from paint style v (letters_of runs m (chars rest))) is
    ∙ append_assoc old (seen_char paint style v c ∷ []) (seen_from paint style v (letters_of runs m (chars rest)))
    ∙ ap (λ (k : ℕ). old ++ (seen_char paint style v c ∷ seen_from paint style v (letters_of runs k (chars rest)))) m_is
    ∙ ap (λ (k : ℕ). old ++ (seen_char paint style k c ∷ seen_from paint style k (letters_of runs (number_next n c) (chars rest)))) v_is
    ∙ ap (λ (cs : List ℕ). old ++ counted_text paint runs style n cs) (sym chars_are)

-- one more
pub letter_gone : (paint : ℕ → ContentStyle → ContentStyle) (runs : List MarkRun) (style : CompoundStyle) (old new all : List SeenChar) (rest next : List ℕ) (n c v u w m : ℕ) → chars rest ≡ c ∷ chars next → u ≡ mark_value runs n c → m ≡ number_next n c
    → w ≡ next_value v u c → new ≡ old ++ seen_char paint style w c ∷ [] → old ++ seen_from paint style v (letters_of runs n (chars rest)) ≡ all → new ++ seen_from paint style w (letters_of runs m (chars next)) ≡ all
letter_gone paint runs style old new all rest next n c v u w m chars_are u_is m_is w_is is h =
    ap (λ (l : List SeenChar). l ++ seen_from paint style w (letters_of runs m (chars next))) is
    ∙ append_assoc old (seen_char paint style w c ∷ []) (seen_from paint style w (letters_of runs m (chars next)))
    ∙ ap (λ (k : ℕ). old ++ (seen_char paint style w c ∷ seen_from paint style w (letters_of runs k (chars next)))) m_is
    ∙ ap (λ (k : ℕ). old ++ (seen_char paint style k c ∷ seen_from paint style k (letters_of runs (number_next n c) (chars next)))) w_is
    ∙ ap (λ (k : ℕ). old ++ (seen_char paint style (next_value v k c) c ∷ seen_from paint style (next_value v k c) (letters_of runs (number_next n c) (chars next)))) u_is
    ∙ ap (λ (cs : List ℕ). old ++ seen_from paint style v (letters_of runs n cs)) (sym chars_are) ∙ h

-- the end
pub letter_ended : (paint : ℕ → ContentStyle → ContentStyle) (runs : List MarkRun) (style : CompoundStyle) (old all : List SeenChar) (rest : List ℕ) (n v : ℕ) → length rest ≡ 0 → old ++ seen_from paint style v (letters_of runs n (chars rest)) ≡ all → old ≡ all
letter_ended paint runs style old all rest n v none h = sym (append-nil old) ∙ ap (λ (cs : List ℕ). old ++ seen_from paint style v (letters_of runs n cs)) (sym (chars_of_empty rest none)) ∙ h

-- a text without characters
pub nothing_seen : (paint : ℕ → ContentStyle → ContentStyle) (runs : List MarkRun) (style : CompoundStyle) (old : List SeenChar) (text : List ℕ) (n : ℕ) → length text ≡ 0 → old ≡ old ++ counted_text paint runs style n (chars text)
nothing_seen paint runs style old text n none = sym (append-nil old) ∙ ap (λ (cs : List ℕ). old ++ counted_text paint runs style n cs) (sym (chars_of_empty text none))

-- characters without marks
pub bare_gone : (style : CompoundStyle) (old new all : List SeenChar) (rest next : List ℕ) (c : ℕ) → chars rest ≡ c ∷ chars next → new ≡ old ++ record { value = 0; char = record { compound_style = style; nude_char = c } } ∷ []
    → old ++ bare_text style (chars rest) ≡ all → new ++ bare_text style (chars next) ≡ all
bare_gone style old new all rest next c chars_are is h =
    ap (λ (l : List SeenChar). l ++ bare_text style (chars next)) is ∙ append_assoc old (record { value = 0; char = record { compound_style = style; nude_char = c } } ∷ []) (bare_text style (chars next))
    ∙ ap (λ (cs : List ℕ). old ++ bare_text style cs) (sym chars_are) ∙ h

-- no more of them
pub bare_ended : (style : CompoundStyle) (old all : List SeenChar) (rest : List ℕ) → length rest ≡ 0 → old ++ bare_text style (chars rest) ≡ all → old ≡ all
bare_ended style old all rest none h = sym (append-nil old) ∙ ap (λ (cs : List ℕ). old ++ bare_text style cs) (sym (chars_of_empty rest none)) ∙ h

-- ---- compounds

-- the characters of a compound that is counted, by what the code found
pub counted_put : (paint : ℕ → ContentStyle → ContentStyle) (has : Flags → Bool) (runs : List MarkRun) (skin : RowSkin) (style : LineStyle) (n : ℕ) (k : Compound) (own : CompoundStyle) (old new : List SeenChar) (t : Bool)
    → t ≡ has (flags_of k) → t ≡ true → own ≡ compound_style skin style (run_of k) → new ≡ old ++ counted_text paint runs own n (chars k.src.now) → new ≡ old ++ seen_compound paint has runs skin style n k
counted_put paint has runs skin style n k own old new t test holds own_is is =
    is ∙ ap (λ (s : CompoundStyle). old ++ counted_text paint runs s n (chars k.src.now)) own_is
    ∙ ap (λ (u : Bool). old ++ cond u (counted_text paint runs (compound_style skin style (run_of k)) n (chars k.src.now)) (bare_text (compound_style skin style (run_of k)) (chars k.src.now))) (sym holds ∙ test)

-- those of one that isn't
pub bare_put : (paint : ℕ → ContentStyle → ContentStyle) (has : Flags → Bool) (runs : List MarkRun) (skin : RowSkin) (style : LineStyle) (n : ℕ) (k : Compound) (own : CompoundStyle) (old new : List SeenChar) (t : Bool)
    → t ≡ has (flags_of k) → t ≡ false → own ≡ compound_style skin style (run_of k) → new ≡ old ++ bare_text own (chars k.src.now) → new ≡ old ++ seen_compound paint has runs skin style n k
bare_put paint has runs skin style n k own old new t test fails own_is is =
    is ∙ ap (λ (s : CompoundStyle). old ++ bare_text s (chars k.src.now)) own_is
    ∙ ap (λ (u : Bool). old ++ cond u (counted_text paint runs (compound_style skin style (run_of k)) n (chars k.src.now)) (bare_text (compound_style skin style (run_of k)) (chars k.src.now))) (sym fails ∙ test)

seen_compound_same : (paint : ℕ → ContentStyle → ContentStyle) (has : Flags → Bool) (a b : List MarkRun) (skin : RowSkin) (style : LineStyle) (n : ℕ) (k : Compound) → SameFrom a b n → seen_compound paint has b skin style n k ≡ seen_compound paint has a skin style n k
seen_compound_same paint has a b skin style n k same =
    ap (λ ls. cond (has (flags_of k)) (seen_letters paint (compound_style skin style (run_of k)) ls) (bare_text (compound_style skin style (run_of k)) (chars k.src.now))) (letters_same a b n (chars k.src.now) same)

-- a compound more, by runs that say the same
pub seen_compound_gone : (paint : ℕ → ContentStyle → ContentStyle) (has : Flags → Bool) (a b : List MarkRun) (skin : RowSkin) (style : LineStyle) (old new all : List SeenChar) (every ks : List Compound) (i : ℕ) (d : Compound) (n m : ℕ) → every ≡ ks → i < length every → SameFrom a b n
    → new ≡ old ++ seen_compound paint has b skin style n (get_or every i d) → m ≡ n + counted has (flagged_of (get_or every i d))
    → old ++ seen_compounds paint has a skin style n (drop i ks) ≡ all → new ++ seen_compounds paint has a skin style m (drop (i + 1) ks) ≡ all
seen_compound_gone paint has a b skin style old new all every ks i d n m every_is h same is m_is before =
    let k = get_or ks i d in
    let within : i < length ks = omega (arith, h, ap length every_is) in
    let own = seen_compound paint has a skin style n k in
    let rest = seen_compounds paint has a skin style (n + counted has (flagged_of k)) (drop (i + 1) ks) in
    ap (λ (x : ℕ). new ++ seen_compounds paint has a skin style x (drop (i + 1) ks)) (m_is ∙ ap (λ (l : List Compound). n + counted has (flagged_of (get_or l i d))) every_is)
    ∙ ap (λ (l : List SeenChar). l ++ rest) (is ∙ ap (λ (l : List Compound). old ++ seen_compound paint has b skin style n (get_or l i d)) every_is ∙ ap (λ (l : List SeenChar). old ++ l) (seen_compound_same paint has a b skin style n k same))
    ∙ append_assoc old own rest
    ∙ sym (at_drop_more (λ l. old ++ seen_compounds paint has a skin style n l) ks i d within) ∙ before

-- no compound is left
pub seen_compounds_done : (paint : ℕ → ContentStyle → ContentStyle) (has : Flags → Bool) (a : List MarkRun) (skin : RowSkin) (style line : LineStyle) (now : List SeenChar) (every ks : List Compound) (i n number : ℕ) → every ≡ ks → length every ≤ i → style ≡ line
    → now ++ seen_compounds paint has a skin style n (drop i ks) ≡ seen_compounds paint has a skin style number ks → now ≡ seen_compounds paint has a skin line number ks
seen_compounds_done paint has a skin style line now every ks i n number every_is h style_is before =
    sym (append-nil now) ∙ sym (ap (λ l. now ++ seen_compounds paint has a skin style n l) (drop_all i ks (omega (arith, h, ap length every_is)))) ∙ before ∙ ap (λ (s : LineStyle). seen_compounds paint has a skin s number ks) style_is
