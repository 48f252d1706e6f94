-- Rows, one character or one row further on.
use Rattle.std.proofs.Common.{◌≡◌, ℕ, ◌-◌, Bool, List, [], ◌∷◌, ◌++◌, refl, ap, sym, ◌∙◌, append_assoc, take, drop, map, chars}
use Rattle.std.proofs.lemmas.List.{take-append-drop}
use Rattle.std.specs.Cow.{cow_str_bytes}
use Rattle.std.specs.Prelude.{encode_utf8}
use Rattle.std.specs.List.{flat_map}
use Rattle.mad_plain.specs.Pens.{plain_pen}
use Rattle.mad_plain.specs.Rows.{row_ends, rows_by}
use Rattle.mad_plain.specs.Runs.{StyledChar, said, spread, styled}
use Rattle.mad_plain.specs.Shown.{shown_of}
use Rattle.mad_plain.specs.declared.pens.Pen.{Pen}
use Rattle.mad_plain.specs.declared.runs.StyleRun.{StyleRun}
use Rattle.mad_plain.specs.declared.shown.PlainLine.{PlainLine}
use Rattle.mad_plain_rows.specs.PlainRows.{pen_written, rest_bytes, row_bytes, shown_bytes, turn_bytes}

-- two more parts, and what is behind them
both_behind : (text turn char rest : List ℕ) → ((text ++ turn) ++ char) ++ rest ≡ text ++ (turn ++ (char ++ rest))
both_behind text turn char rest = append_assoc (text ++ turn) char rest ∙ append_assoc text turn (char ++ rest)

-- one more character is written, and those behind it are to come
pub one_more : (is_styled : Bool) (pen next : Pen) (c : StyledChar) (old cs : List StyledChar) (text turned new all : List ℕ)
    → next ≡ pen_written is_styled c.style → old ≡ c ∷ cs → turned ≡ text ++ turn_bytes pen next → new ≡ turned ++ encode_utf8 c.char
    → text ++ rest_bytes is_styled pen old ≡ all → new ++ rest_bytes is_styled next cs ≡ all
one_more is_styled pen next c old cs text turned new all p e t n so =
    let w = pen_written is_styled c.style in
    ap (λ (q : Pen). new ++ rest_bytes is_styled q cs) p
    ∙ ap (λ (l : List ℕ). l ++ rest_bytes is_styled w cs) (n ∙ ap (λ (l : List ℕ). l ++ encode_utf8 c.char) (t ∙ ap (λ (q : Pen). text ++ turn_bytes pen q) p))
    ∙ both_behind text (turn_bytes pen w) (encode_utf8 c.char) (rest_bytes is_styled w cs)
    ∙ sym (ap (λ (l : List StyledChar). text ++ rest_bytes is_styled pen l) e)
    ∙ so

-- ---- rows

joined_said : (a b : List StyledChar) → said (a ++ b) ≡ said a ++ said b
joined_said [] b = refl
joined_said (c ∷ a) b = ap (λ (l : List ℕ). c.char ∷ l) (joined_said a b)

styled_said : (style : Pen) (cs : List ℕ) → said (map (styled style) cs) ≡ cs
styled_said style [] = refl
styled_said style (c ∷ cs) = ap (λ (l : List ℕ). c ∷ l) (styled_said style cs)

-- characters in the styles of runs are those characters
pub spread_said : (last : Pen) (at : ℕ) (runs : List StyleRun) (cs : List ℕ) → said (spread last at runs cs) ≡ cs
spread_said last at [] cs = styled_said last cs
spread_said last at (r ∷ rs) cs =
    let k = r.end - at in
    joined_said (map (styled r.style) (take k cs)) (spread last r.end rs (drop k cs))
    ∙ ap (λ (l : List ℕ). l ++ said (spread last r.end rs (drop k cs))) (styled_said r.style (take k cs))
    ∙ ap (λ (l : List ℕ). take k cs ++ l) (spread_said last r.end rs (drop k cs))
    ∙ take-append-drop k cs

-- before the first row, all are to come
pub shown_start : (width : ℕ) (is_styled : Bool) (line : PlainLine) (cs ends items : List ℕ) (rest : List StyledChar) (text : List ℕ)
    → items ≡ ends → ends ≡ row_ends width cs → cs ≡ chars (cow_str_bytes line.text) → rest ≡ shown_of line
    → text ++ flat_map (row_bytes is_styled) (rows_by 0 items rest) ≡ text ++ shown_bytes width is_styled (shown_of line)
shown_start width is_styled line cs ends items rest text i e s r =
    ap (λ (l : List StyledChar). text ++ flat_map (row_bytes is_styled) (rows_by 0 items l)) r
    ∙ ap (λ (es : List ℕ). text ++ flat_map (row_bytes is_styled) (rows_by 0 es (shown_of line)))
    (i ∙ e ∙ ap (row_ends width) (s ∙ sym (spread_said plain_pen 0 line.runs.items (chars (cow_str_bytes line.text)))))
