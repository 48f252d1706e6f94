-- A text with marks as it is displayed, character by character.
use Rattle.std.proofs.Common.{◌≡◌, ℕ, ◌+◌, ◌<◌, ◌≤◌, Bool, true, false, cond, List, [], ◌∷◌, ◌++◌, Option, map, length, drop, get_or, refl, sym, ap, ◌∙◌, append_assoc, append-nil}
use Rattle.std.specs.Fmt.{HasWritten, IsPlainFormatter}
use Rattle.std.specs.declared.fmt.Formatter.{Formatter}
use Rattle.std.specs.Prelude.{encode_utf8_all, chars}
use Rattle.std.specs.Char.{encode_utf8}
use Rattle.std.proofs.Output.{has_written_append, has_written_of_eq}
use Rattle.std.proofs.StrCases.{chars_of_empty}
use Rattle.std.proofs.lemmas.List.{at_drop_more, drop_all}
use Rattle.mad_md.specs.Flagged.{Flags, flagged_of, flags_of, run_of}
use Rattle.mad_md.specs.declared.compound.Compound.{Compound}
use Rattle.mad_term.specs.declared.styles.ContentStyle.{ContentStyle}
use Rattle.mad_term.specs.Styles.{closing_bytes, opening_bytes, piece_bytes}
use Rattle.mad_draw.specs.Pieces.{pieces_bytes, spaces}
use Rattle.mad_draw.proofs.PieceLemmas.{bytes_both}
use Rattle.mad_style.specs.declared.compound_styles.CompoundStyle.{CompoundStyle}
use Rattle.mad_style.specs.declared.kinds.CompositeKind.{CompositeKind}
use Rattle.mad_style.specs.declared.line_styles.LineStyle.{LineStyle}
use Rattle.mad_format.specs.declared.composite.FmtComposite.{FmtComposite}
use Rattle.mad_rows.specs.RowStyles.{compound_style, line_style}
use Rattle.mad_rows.specs.Rows.{blanks_beside, compound_piece, inner_blanks, outer_blanks, prefix_pieces}
use Rattle.mad_rows.specs.declared.row_skin.RowSkin.{RowSkin}
use Rattle.mad_rows.proofs.PieceLemmas.{placed_joined}
use Rattle.mad_mark_runs.specs.declared.mark_runs.MarkRun.{MarkRun}
use Rattle.mad_marks.specs.RowMarks.{counted}
use Rattle.mad_marked_rows.specs.MarkedRows.{marked_composite, marked_compound, marked_compounds}
use Rattle.mad_marked_rows.specs.MarkedTexts.{first_char, mark_value, number_next, Letter, letters_of, goes_on, LetterPart, parts_from, part_char, part_piece, next_value, text_pieces}

-- ---- what is written so far

-- some of a text was written, and this is left
pub record PartlyWritten {W : Type 0} (took : W → List ℕ → W → Type 0) (f : Formatter W) (left whole : List ℕ) (g : Formatter W) : Type 0 where
  pub wrote : List ℕ
  pub has : HasWritten took f wrote g
  pub joins : wrote ++ left ≡ whole

-- the front of what is left was written
pub wrote_more : {W : Type 0} (took : W → List ℕ → W → Type 0) (f g h : Formatter W) (left own rest whole : List ℕ) → PartlyWritten took f left whole g → HasWritten took g own h → left ≡ own ++ rest → PartlyWritten took f rest whole h
wrote_more took f g h left own rest whole so_far one is = record {
  wrote = so_far.wrote ++ own;
  has = has_written_append took f so_far.wrote g own h so_far.has one;
  joins = append_assoc so_far.wrote own rest ∙ ap (λ (l : List ℕ). so_far.wrote ++ l) (sym is) ∙ so_far.joins;
}

-- nothing was written
pub written_nothing : {W : Type 0} (took : W → List ℕ → W → Type 0) (f : Formatter W) → IsPlainFormatter f → HasWritten took f [] f
written_nothing took f plain = record { wrote = record { parts = []; calls = refl; whole = refl }; plain = plain }

-- all of a text is left
pub wrote_nothing : {W : Type 0} (took : W → List ℕ → W → Type 0) (f : Formatter W) (whole : List ℕ) → IsPlainFormatter f → PartlyWritten took f whole whole f
wrote_nothing took f whole plain = record { wrote = []; has = written_nothing took f plain; joins = refl }

-- its front was written
pub wrote_first : {W : Type 0} (took : W → List ℕ → W → Type 0) (f g : Formatter W) (own rest whole : List ℕ) → HasWritten took f own g → whole ≡ own ++ rest → PartlyWritten took f rest whole g
wrote_first took f g own rest whole one is = record { wrote = own; has = one; joins = sym is }

-- what was left was written
pub wrote_all : {W : Type 0} (took : W → List ℕ → W → Type 0) (f g h : Formatter W) (left own whole : List ℕ) → PartlyWritten took f left whole g → HasWritten took g own h → left ≡ own → HasWritten took f whole h
wrote_all took f g h left own whole so_far one is =
    has_written_of_eq took f (so_far.wrote ++ own) whole h (ap (λ (l : List ℕ). so_far.wrote ++ l) (sym is) ∙ so_far.joins) (has_written_append took f so_far.wrote g own h so_far.has one)

-- ---- a text

-- what is left of a text, where a part of this value is open
abbrev pub left_of : (ℕ → ContentStyle → ContentStyle) → ContentStyle → ℕ → List Letter → List ℕ
left_of paint style v [] = closing_bytes (paint v style)
left_of paint style v (c ∷ cs) = part_char paint style v c.value c.char ++ left_of paint style (next_value v c.value c.char) cs

more_text : (cs : List ℕ) (c : ℕ) (rest : List ℕ) → encode_utf8_all (cs ++ c ∷ []) ++ rest ≡ encode_utf8_all cs ++ (encode_utf8 c ++ rest)
more_text [] c rest = ap (λ l. l ++ rest) (append-nil (encode_utf8 c))
more_text (d ∷ cs) c rest =
    append_assoc (encode_utf8 d) (encode_utf8_all (cs ++ c ∷ [])) rest ∙ ap (λ l. encode_utf8 d ++ l) (more_text cs c rest) ∙ sym (append_assoc (encode_utf8 d) (encode_utf8_all cs) (encode_utf8 c ++ rest))

by_part : (paint : ℕ → ContentStyle → ContentStyle) (style : ContentStyle) (p : LetterPart) (c : Letter) (cs : List Letter) (t : Bool)
    → ((q : LetterPart) → pieces_bytes (map (part_piece paint style) (parts_from q cs)) ≡ opening_bytes (paint q.value style) ++ (encode_utf8_all q.chars ++ left_of paint style q.value cs))
    → pieces_bytes (map (part_piece paint style) (cond t (parts_from (record { value = p.value; chars = p.chars ++ c.char ∷ [] }) cs) (p ∷ parts_from (record { value = c.value; chars = c.char ∷ [] }) cs)))
    ≡ opening_bytes (paint p.value style) ++ (encode_utf8_all p.chars ++ (cond t (encode_utf8 c.char) (closing_bytes (paint p.value style) ++ first_char paint style c.value c.char) ++ left_of paint style (cond t p.value c.value) cs))
by_part paint style p c cs true more =
    more (record { value = p.value; chars = p.chars ++ c.char ∷ [] }) ∙ ap (λ (l : List ℕ). opening_bytes (paint p.value style) ++ l) (more_text p.chars c.char (left_of paint style p.value cs))
by_part paint style p c cs false more =
    let begin = opening_bytes (paint p.value style) in
    let text = encode_utf8_all p.chars in
    let close = closing_bytes (paint p.value style) in
    let first = opening_bytes (paint c.value style) in
    let left = left_of paint style c.value cs in
    let other : LetterPart = record { value = c.value; chars = c.char ∷ [] } in
    let rest : pieces_bytes (map (part_piece paint style) (parts_from other cs)) ≡ (first ++ encode_utf8 c.char) ++ left =
    more other ∙ ap (λ (l : List ℕ). first ++ (l ++ left)) (append-nil (encode_utf8 c.char)) ∙ sym (append_assoc first (encode_utf8 c.char) left) in
    ap (λ (l : List ℕ). (begin ++ (text ++ close)) ++ l) rest
    ∙ append_assoc begin (text ++ close) ((first ++ encode_utf8 c.char) ++ left)
    ∙ ap (λ (l : List ℕ). begin ++ l) (append_assoc text close ((first ++ encode_utf8 c.char) ++ left))
    ∙ ap (λ (l : List ℕ). begin ++ (text ++ l)) (sym (append_assoc close (first ++ encode_utf8 c.char) left))

from_part : (paint : ℕ → ContentStyle → ContentStyle) (style : ContentStyle) (p : LetterPart) (cs : List Letter)
    → pieces_bytes (map (part_piece paint style) (parts_from p cs)) ≡ opening_bytes (paint p.value style) ++ (encode_utf8_all p.chars ++ left_of paint style p.value cs)
from_part paint style p [] = append-nil (opening_bytes (paint p.value style) ++ (encode_utf8_all p.chars ++ closing_bytes (paint p.value style)))
from_part paint style p (c ∷ cs) = by_part paint style p c cs (goes_on p.value c.value c.char) (λ q. from_part paint style q cs)

-- a text that begins with a character
pub text_begins : (paint : ℕ → ContentStyle → ContentStyle) (runs : List MarkRun) (style : ContentStyle) (text rest : List ℕ) (n c v m : ℕ) → chars text ≡ c ∷ chars rest → v ≡ mark_value runs n c → m ≡ number_next n c
    → pieces_bytes (text_pieces paint runs style n (chars text)) ≡ first_char paint style v c ++ left_of paint style v (letters_of runs m (chars rest))
text_begins paint runs style text rest n c v m chars_are v_is m_is =
    let w = mark_value runs n c in
    let later = letters_of runs (number_next n c) (chars rest) in
    ap (λ (cs : List ℕ). pieces_bytes (text_pieces paint runs style n cs)) chars_are
    ∙ from_part paint style (record { value = w; chars = c ∷ [] }) later
    ∙ ap (λ l. opening_bytes (paint w style) ++ (l ++ left_of paint style w later)) (append-nil (encode_utf8 c))
    ∙ sym (append_assoc (opening_bytes (paint w style)) (encode_utf8 c) (left_of paint style w later))
    ∙ ap (λ (k : ℕ). first_char paint style k c ++ left_of paint style k later) (sym v_is)
    ∙ ap (λ (k : ℕ). first_char paint style v c ++ left_of paint style v (letters_of runs k (chars rest))) (sym m_is)

-- a character more
pub text_goes : (paint : ℕ → ContentStyle → ContentStyle) (runs : List MarkRun) (style : ContentStyle) (rest next : List ℕ) (n c v u w m : ℕ) → chars rest ≡ c ∷ chars next → u ≡ mark_value runs n c → m ≡ number_next n c → w ≡ next_value v u c
    → left_of paint style v (letters_of runs n (chars rest)) ≡ part_char paint style v u c ++ left_of paint style w (letters_of runs m (chars next))
text_goes paint runs style rest next n c v u w m chars_are u_is m_is w_is =
    ap (λ (cs : List ℕ). left_of paint style v (letters_of runs n cs)) chars_are
    ∙ ap (λ (k : ℕ). part_char paint style v k c ++ left_of paint style (next_value v k c) (letters_of runs (number_next n c) (chars next))) (sym u_is)
    ∙ ap (λ (k : ℕ). part_char paint style v u c ++ left_of paint style k (letters_of runs (number_next n c) (chars next))) (sym w_is)
    ∙ ap (λ (k : ℕ). part_char paint style v u c ++ left_of paint style w (letters_of runs k (chars next))) (sym m_is)

-- the end
pub text_ends : (paint : ℕ → ContentStyle → ContentStyle) (runs : List MarkRun) (style : ContentStyle) (rest : List ℕ) (n v : ℕ) → length rest ≡ 0 → left_of paint style v (letters_of runs n (chars rest)) ≡ closing_bytes (paint v style)
text_ends paint runs style rest n v none = ap (λ (cs : List ℕ). left_of paint style v (letters_of runs n cs)) (chars_of_empty rest none)

-- a text without characters
pub no_text : (paint : ℕ → ContentStyle → ContentStyle) (runs : List MarkRun) (style : ContentStyle) (text : List ℕ) (n : ℕ) → length text ≡ 0 → [] ≡ pieces_bytes (text_pieces paint runs style n (chars text))
no_text paint runs style text n none = sym (ap (λ (cs : List ℕ). pieces_bytes (text_pieces paint runs style n cs)) (chars_of_empty text none))

-- ---- compounds

-- a compound more
pub compound_goes : (paint : ℕ → ContentStyle → ContentStyle) (has : Flags → Bool) (runs : List MarkRun) (skin : RowSkin) (style : LineStyle) (ks : List Compound) (i : ℕ) (d : Compound) (n m : ℕ) → i < length ks → m ≡ n + counted has (flagged_of (get_or ks i d))
    → pieces_bytes (marked_compounds paint has runs skin style n (drop i ks)) ≡ pieces_bytes (marked_compound paint has runs skin style n (get_or ks i d)) ++ pieces_bytes (marked_compounds paint has runs skin style m (drop (i + 1) ks))
compound_goes paint has runs skin style ks i d n m inside m_is =
    let k = get_or ks i d in
    at_drop_more (λ l. pieces_bytes (marked_compounds paint has runs skin style n l)) ks i d inside
    ∙ bytes_both (marked_compound paint has runs skin style n k) (marked_compounds paint has runs skin style (n + counted has (flagged_of k)) (drop (i + 1) ks))
    ∙ ap (λ (x : ℕ). pieces_bytes (marked_compound paint has runs skin style n k) ++ pieces_bytes (marked_compounds paint has runs skin style x (drop (i + 1) ks))) (sym m_is)

-- where none is left
pub compounds_end : {W : Type 0} (took : W → List ℕ → W → Type 0) (f g : Formatter W) (paint : ℕ → ContentStyle → ContentStyle) (has : Flags → Bool) (runs : List MarkRun) (skin : RowSkin) (style : LineStyle) (ks : List Compound) (i n : ℕ) (whole : List ℕ) → length ks ≤ i
    → (so_far : PartlyWritten took f (pieces_bytes (marked_compounds paint has runs skin style n (drop i ks))) whole g) → so_far.wrote ≡ whole
compounds_end took f g paint has runs skin style ks i n whole past so_far =
    sym (append-nil so_far.wrote) ∙ ap (λ l. so_far.wrote ++ pieces_bytes (marked_compounds paint has runs skin style n l)) (sym (drop_all i ks past)) ∙ so_far.joins

-- a compound that is counted, by what the code found
pub counted_bytes : (paint : ℕ → ContentStyle → ContentStyle) (has : Flags → Bool) (runs : List MarkRun) (skin : RowSkin) (style : LineStyle) (n : ℕ) (k : Compound) (own : CompoundStyle) (t : Bool) → t ≡ has (flags_of k) → t ≡ true → own ≡ compound_style skin style (run_of k)
    → pieces_bytes (text_pieces paint runs own.object_style n (chars k.src.now)) ≡ pieces_bytes (marked_compound paint has runs skin style n k)
counted_bytes paint has runs skin style n k own t test holds own_is =
    ap (λ (s : CompoundStyle). pieces_bytes (text_pieces paint runs s.object_style n (chars k.src.now))) own_is
    ∙ ap (λ (u : Bool). pieces_bytes (cond u (text_pieces paint runs (compound_style skin style (run_of k)).object_style n (chars k.src.now)) (compound_piece skin style k ∷ []))) (sym holds ∙ test)

-- one that isn't
pub bare_bytes : (paint : ℕ → ContentStyle → ContentStyle) (has : Flags → Bool) (runs : List MarkRun) (skin : RowSkin) (style : LineStyle) (n : ℕ) (k : Compound) (own : CompoundStyle) (s : ContentStyle) (text : List ℕ) (t : Bool) → t ≡ has (flags_of k) → t ≡ false
    → own ≡ compound_style skin style (run_of k) → s ≡ own.object_style → text ≡ k.src.now → piece_bytes s text ≡ pieces_bytes (marked_compound paint has runs skin style n k)
bare_bytes paint has runs skin style n k own s text t test fails own_is style_is text_is =
    ap (λ (x : ContentStyle). piece_bytes x text) (style_is ∙ ap (λ (o : CompoundStyle). o.object_style) own_is) ∙ ap (piece_bytes (compound_style skin style (run_of k)).object_style) text_is
    ∙ sym (append-nil (piece_bytes (compound_style skin style (run_of k)).object_style k.src.now))
    ∙ ap (λ (u : Bool). pieces_bytes (cond u (text_pieces paint runs (compound_style skin style (run_of k)).object_style n (chars k.src.now)) (compound_piece skin style k ∷ []))) (sym fails ∙ test)

-- ---- characters

-- a character that goes on with a part is written alone
pub part_goes : (paint : ℕ → ContentStyle → ContentStyle) (style : ContentStyle) (v other c : ℕ) (t : Bool) → t ≡ goes_on v other c → t ≡ true → encode_utf8 c ≡ part_char paint style v other c
part_goes paint style v other c t test holds = ap (λ (u : Bool). cond u (encode_utf8 c) (closing_bytes (paint v style) ++ first_char paint style other c)) (sym holds ∙ test)

-- one that doesn't: the part is closed, and its own begins
pub part_changes : (paint : ℕ → ContentStyle → ContentStyle) (style : ContentStyle) (v other c : ℕ) (close : List ℕ) (t : Bool) → t ≡ goes_on v other c → t ≡ false → close ≡ closing_bytes (paint v style) → close ++ first_char paint style other c ≡ part_char paint style v other c
part_changes paint style v other c close t test fails close_is =
    ap (λ (l : List ℕ). l ++ first_char paint style other c) close_is ∙ ap (λ (u : Bool). cond u (encode_utf8 c) (closing_bytes (paint v style) ++ first_char paint style other c)) (sym fails ∙ test)

-- ---- a composite

placed_bytes : (paint : ℕ → ContentStyle → ContentStyle) (has : CompositeKind → Flags → Bool) (runs : List MarkRun) (skin : RowSkin) (outer : Option ℕ) (margins : ℕ × ℕ) (filled : Bool) (n : ℕ) (l : FmtComposite)
    → (pieces_bytes (spaces skin.paragraph.compound_style (blanks_beside (line_style skin l.kind).align outer margins filled l).0 ++ (spaces (line_style skin l.kind).compound_style (inner_blanks l).0 ++ prefix_pieces skin l.kind))
    ++ pieces_bytes (marked_compounds paint (has l.kind) runs skin (line_style skin l.kind) n l.compounds.items))
    ++ pieces_bytes (spaces (line_style skin l.kind).compound_style (inner_blanks l).1 ++ spaces skin.paragraph.compound_style (blanks_beside (line_style skin l.kind).align outer margins filled l).1)
    ≡ pieces_bytes (marked_composite paint has runs skin outer margins filled n l)
placed_bytes paint has runs skin outer margins filled n l =
    let style = line_style skin l.kind in
    let blanks = outer_blanks style.align outer margins l in
    placed_joined (spaces skin.paragraph.compound_style blanks.0) (spaces style.compound_style (inner_blanks l).0) (prefix_pieces skin l.kind) (marked_compounds paint (has l.kind) runs skin style n l.compounds.items) (spaces style.compound_style (inner_blanks l).1) filled skin.paragraph.compound_style blanks.1

-- what is in front of its compounds, they, and what is after them, by what the code found
pub composite_bytes : (paint : ℕ → ContentStyle → ContentStyle) (has : CompositeKind → Flags → Bool) (runs : List MarkRun) (skin : RowSkin) (outer : Option ℕ) (margins : ℕ × ℕ) (filled : Bool) (n : ℕ) (l : FmtComposite) (style : LineStyle) (ks : List Compound)
    → style ≡ line_style skin l.kind → ks ≡ l.compounds.items
    → (pieces_bytes (spaces skin.paragraph.compound_style (blanks_beside style.align outer margins filled l).0 ++ (spaces style.compound_style (inner_blanks l).0 ++ prefix_pieces skin l.kind)) ++ pieces_bytes (marked_compounds paint (has l.kind) runs skin style n ks))
    ++ pieces_bytes (spaces style.compound_style (inner_blanks l).1 ++ spaces skin.paragraph.compound_style (blanks_beside style.align outer margins filled l).1) ≡ pieces_bytes (marked_composite paint has runs skin outer margins filled n l)
composite_bytes paint has runs skin outer margins filled n l style ks style_is ks_are = rw style_is (rw ks_are (placed_bytes paint has runs skin outer margins filled n l))
