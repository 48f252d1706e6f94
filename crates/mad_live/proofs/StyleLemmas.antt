-- What sets a style sets it anywhere: commands, text between them, and the command that ends a style.
use Rattle.std.proofs.Common.{◌≡◌, ◌≢◌, ◌⊎◌, inl, inr, ⊎_elim, ℕ, zero, suc, ◌+◌, ◌-◌, ◌*◌, ◌<◌, ◌≤◌, Bool, true, false, cond, eqb, List, [], ◌∷◌, ◌++◌, length, Option, Some, None, refl, ap, sym, ◌∙◌, subst, arith, lit<, append_assoc, length-append, IsUtf8}
use Rattle.std.specs.Prelude.{option_and_then, option_map, IsAscii, ◌||◌, nat_lt, nat_le}
use Rattle.std.specs.List.{AllByRecursion}
use Rattle.std.specs.Str.{chars, IsCharBoundary}
use Rattle.std.proofs.Math.Utf8.{encode, encodes}
use Rattle.std.proofs.Math.Seq.{get_or-append_seam}
use Rattle.std.proofs.lemmas.List.{append-nil}
use Rattle.std.proofs.lemmas.Option.{option_and_then_some}
use Rattle.std.proofs.lemmas.Bool.Decides.{nat_tests}
use Rattle.std.proofs.lemmas.Str.{encodes-chars, chars-append, chars-IsAscii, IsUtf8-from_ascii, IsUtf8-take, IsUtf8-drop, IsCharBoundary-before_ascii}
use Rattle.unicode_width.specs.Width.{char_width}
use Rattle.mad_screen.specs.Glyph.{Glyph, Look}
use Rattle.mad_screen.specs.Grid.{Grid, painted, plain_pen, glyphs}
use Rattle.mad_screen.specs.Terminal.{Mode, Outside, Escape, Numbers, go_to, erase_screen, erase_row, head_before, is_digit, join_at, perform, put, put_wide, restyled as pen_after, with_digit}
use Rattle.mad_live.specs.Papers.{Paper, PaperMode, PaperReading, Plain, Switching, blank_line, with_line, at_rest, move_up, next_row, put_on, perform_on, end_number_on, feed_on, read_on, Reads}
use Rattle.mad_live.specs.LiveRows.{rows_from, last_from, rows_in, last_in, IsRow, drawn}
use Rattle.mad_live.specs.PaintedRows.{IsOneRow}
use Rattle.mad_live.specs.StyledRows.{reset, AreText, EndsPlain, set_style, set_styles, AreNumbers}
use Rattle.mad_live.proofs.PaperLemmas.{AreLow, Begun, ascii_reads, drop_front, low_ascii, read_on-append, take_front, text_after}
use Rattle.mad_live.proofs.RowLemmas.{all_both, all_first, all_then, last-append, rows-append}

-- ---- bytes in one row

is_no : (c n : ℕ) → c ≢ n → eqb c n ≡ false
is_no c n ne = grind (arith, nat_tests)

-- a row that has begun goes on
pub last_one : (begun more : List ℕ) → IsOneRow more → last_from begun more ≡ begun ++ more
last_one begun [] h = sym (append-nil begun)
last_one begun (c ∷ more) h = ap (λ t. cond t (last_from [] more) (last_from (begun ++ c ∷ []) more)) (is_no c 10 h.0) ∙ last_one (begun ++ c ∷ []) more h.1 ∙ append_assoc begun (c ∷ []) more

rows_one : (begun more : List ℕ) → IsOneRow more → rows_from begun more ≡ []
rows_one begun [] h = refl
rows_one begun (c ∷ more) h = ap (λ t. cond t (begun ∷ rows_from [] more) (rows_from (begun ++ c ∷ []) more)) (is_no c 10 h.0) ∙ rows_one (begun ++ c ∷ []) more h.1

-- bytes in one row are more of the row that has begun
pub last_more : (a b : List ℕ) → IsOneRow b → last_in (a ++ b) ≡ last_in a ++ b
last_more a b h = last-append [] a b ∙ last_one (last_in a) b h

-- they end no row
pub rows_more : (a b : List ℕ) → IsOneRow b → rows_in (a ++ b) ≡ rows_in a
rows_more a b h = rows-append [] a b ∙ ap (λ (l : List (List ℕ)). rows_in a ++ l) (rows_one (last_in a) b h) ∙ append-nil (rows_in a)

-- text is in one row
pub text_in_row : (bytes : List ℕ) → AreText bytes → IsOneRow bytes
text_in_row [] h = tt
text_in_row (c ∷ bytes) h = (h.0.1, text_in_row bytes h.1)

numbers_in_row : (bytes : List ℕ) → AreNumbers bytes → IsOneRow bytes
numbers_in_row [] h = tt
numbers_in_row (c ∷ bytes) h = (h.0.1, numbers_in_row bytes h.1)

no_newline : (c : ℕ) → 10 < c → c ≢ 10
no_newline c h e = absurd (omega (arith, e))

-- so are commands that set a style
pub styles_in_row : (commands : List (List ℕ)) → AllByRecursion AreNumbers commands → IsOneRow (set_styles commands)
styles_in_row [] h = tt
styles_in_row (numbers ∷ commands) h =
    all_both (λ b. b ≢ 10) (set_style numbers) (set_styles commands) (no_newline 27 (lit< tt), (no_newline 91 (lit< tt), all_both (λ b. b ≢ 10) numbers (109 ∷ []) (numbers_in_row numbers h.0) (no_newline 109 (lit< tt), tt))) (styles_in_row commands h.1)

-- so is the command that ends it
pub reset_in_row : IsOneRow reset
reset_in_row = (no_newline 27 (lit< tt), (no_newline 91 (lit< tt), (no_newline 48 (lit< tt), (no_newline 109 (lit< tt), tt))))

-- ---- ASCII

low_both : (a b : List ℕ) → AreLow a → AreLow b → AreLow (a ++ b)
low_both [] b h k = k
low_both (c ∷ a) b h k = (h.0, low_both a b h.1 k)

numbers_low : (bytes : List ℕ) → AreNumbers bytes → AreLow bytes
numbers_low [] h = tt
numbers_low (c ∷ bytes) h = (omega (arith, h.0.0), numbers_low bytes h.1)

styles_low : (commands : List (List ℕ)) → AllByRecursion AreNumbers commands → AreLow (set_styles commands)
styles_low [] h = tt
styles_low (numbers ∷ commands) h = low_both (set_style numbers) (set_styles commands) (lit< tt, (lit< tt, low_both numbers (109 ∷ []) (numbers_low numbers h.0) (lit< tt, tt))) (styles_low commands h.1)

ascii_styles : (commands : List (List ℕ)) → AllByRecursion AreNumbers commands → IsAscii (set_styles commands)
ascii_styles commands h = low_ascii (set_styles commands) (styles_low commands h)

ascii_reset : IsAscii reset
ascii_reset = low_ascii reset (lit< tt, (lit< tt, (lit< tt, (lit< tt, tt))))

-- a text before an ASCII byte, and from there on
utf8_parts : (a b : List ℕ) (c : ℕ) → c < 128 → IsUtf8 (a ++ c ∷ b) → IsUtf8 a × IsUtf8 (c ∷ b)
utf8_parts a b c small h =
    let at : IsCharBoundary (a ++ c ∷ b) (length a) = IsCharBoundary-before_ascii (a ++ c ∷ b) (length a) (omega (arith, length-append a (c ∷ b))) (omega (arith, get_or-append_seam a c b 0)) in
    (subst (λ (l : List ℕ). IsUtf8 l) (take_front a (c ∷ b)) (IsUtf8-take (a ++ c ∷ b) (length a) h at), subst (λ (l : List ℕ). IsUtf8 l) (drop_front a (c ∷ b)) (IsUtf8-drop (a ++ c ∷ b) (length a) h at))

chars_text : (cs : List ℕ) → AreText (encodes cs) → AreText cs
unfolding encode
chars_text [] h = tt
chars_text (c ∷ cs) h =
    let first : AreText (encode c) = all_first (λ b. (b ≢ 27) × (b ≢ 10)) (encode c) (encodes cs) h in
    ((λ (e : c ≡ 27). (subst (λ (d : ℕ). AreText (encode d)) e first).0.0 refl, λ (e : c ≡ 10). (subst (λ (d : ℕ). AreText (encode d)) e first).0.1 refl), chars_text cs (all_then (λ b. (b ≢ 27) × (b ≢ 10)) (encode c) (encodes cs) h))

text_chars : (bytes : List ℕ) → IsUtf8 bytes → AreText bytes → AreText (chars bytes)
text_chars bytes text h = chars_text (chars bytes) (subst (λ (l : List ℕ). AreText l) (sym (encodes-chars bytes text)) h)

-- ---- one after another

clash : {A B : Type 0} (x : A) → None ≡ Some x → B
clash x e = absurd (cc)

same_some : {A : Type 0} (x y : A) → Some x ≡ Some y → y ≡ x
same_some x y e = cc

-- a terminal in the middle of characters, which are read in two parts
pub record Between (a b : List ℕ) (s r : PaperReading) : Type 0 where
  pub mid : PaperReading
  pub first : read_on a s ≡ Some mid
  pub second : read_on b mid ≡ Some r

between : (a b : List ℕ) (s r : PaperReading) → read_on (a ++ b) s ≡ Some r → Between a b s r
between a b s r h = option_and_then_some (read_on b) (read_on a s) r (sym (read_on-append a b s) ∙ h) (λ x e f. record { mid = x; first = e; second = f })

-- ---- numbers

abbrev with_pen : Paper → Look → Paper
with_pen p pen = with_line p (record p.line { pen = pen })

abbrev among : Paper → List ℕ → Option ℕ → PaperReading
among p ps now = record { paper = p; mode = Plain (Numbers ps now) }

far : (c n : ℕ) → c < 60 → 60 ≤ n → eqb c n ≡ false
far c n small big = is_no c n (λ (e : c ≡ n). absurd (omega (arith, e)))

none_by : {A : Type 0} (a b d e : Bool) (u v w x : Option A) → a ≡ false → b ≡ false → d ≡ false → e ≡ false → cond a u (cond b v (cond d w (cond e x None))) ≡ None
none_by a b d e u v w x f g h k = ap (λ t. cond t u (cond b v (cond d w (cond e x None)))) f ∙ ap (λ t. cond t v (cond d w (cond e x None))) g ∙ ap (λ t. cond t w (cond e x None)) h ∙ ap (λ t. cond t x None) k

perform_none : (c : ℕ) (ps : List ℕ) (g : Grid) → c < 60 → perform c ps g ≡ None
perform_none c ps g small =
    none_by (eqb c 72) (eqb c 109) (eqb c 74) (eqb c 75) (go_to ps g) (option_map (λ p. record g { pen = p }) (pen_after ps g.pen)) (erase_screen ps g) (erase_row ps g) (far c 72 small (omega arith)) (far c 109 small (omega arith)) (far c 74 small (omega arith)) (far c 75 small (omega arith))

-- no command ends with such a byte
low_none : (c : ℕ) (ps : List ℕ) (p : Paper) → c < 60 → perform_on c ps p ≡ None
low_none c ps p small =
    ap (λ t. cond t (move_up ps p) (cond (eqb c 72 || eqb c 74) None (option_map (with_line p) (perform c ps p.line)))) (far c 65 small (omega arith))
    ∙ ap (λ t. cond (t || eqb c 74) None (option_map (with_line p) (perform c ps p.line))) (far c 72 small (omega arith))
    ∙ ap (λ t. cond t None (option_map (with_line p) (perform c ps p.line))) (far c 74 small (omega arith))
    ∙ ap (option_map (with_line p)) (perform_none c ps p.line small)

-- a byte of a command's numbers, wherever it is read
record NumberRead (ps : List ℕ) (now : Option ℕ) (c : ℕ) (p : Paper) (s : PaperReading) : Type 0 where
  pub numbers : List ℕ
  pub last : Option ℕ
  pub is : s ≡ among p numbers last
  pub again : (q : Paper) → feed_on (Plain (Numbers ps now)) q c ≡ Some (among q numbers last)

digit_read : (o : Option ℕ) (ps : List ℕ) (now : Option ℕ) (c : ℕ) (p : Paper) (s : PaperReading) → is_digit c ≡ true → with_digit now (c - 48) ≡ o → feed_on (Plain (Numbers ps now)) p c ≡ Some s → NumberRead ps now c p s
digit_read o ps now c p s digit is h = by_number o is
  where
    step : (q : Paper) (n : Option ℕ) → with_digit now (c - 48) ≡ n → feed_on (Plain (Numbers ps now)) q c ≡ option_map (λ m. among q ps (Some m)) n
    step q n e = ap (λ t. cond t (option_map (λ m. among q ps (Some m)) (with_digit now (c - 48))) (end_number_on q ps now c)) digit ∙ ap (option_map (λ m. among q ps (Some m))) e

    by_number : (n : Option ℕ) → with_digit now (c - 48) ≡ n → NumberRead ps now c p s
    by_number None e = clash s (sym (step p None e) ∙ h)
    by_number (Some m) e = record { numbers = ps; last = Some m; is = same_some (among p ps (Some m)) s (sym (step p (Some m) e) ∙ h); again = λ q. step q (Some m) e }

semicolon_read : (ps : List ℕ) (n c : ℕ) (p : Paper) (s : PaperReading) → c < 60 → ((q : Paper) → feed_on (Plain (Numbers ps (Some n))) q c ≡ cond (eqb c 59) (Some (among q (ps ++ n ∷ []) None)) (option_map at_rest (perform_on c (ps ++ n ∷ []) q))) → feed_on (Plain (Numbers ps (Some n))) p c ≡ Some s → NumberRead ps (Some n) c p s
semicolon_read ps n c p s small step h = by_test (eqb c 59) refl
  where
    turn : (q : Paper) (t : Bool) → eqb c 59 ≡ t → feed_on (Plain (Numbers ps (Some n))) q c ≡ cond t (Some (among q (ps ++ n ∷ []) None)) (option_map at_rest (perform_on c (ps ++ n ∷ []) q))
    turn q t e = step q ∙ ap (λ b. cond b (Some (among q (ps ++ n ∷ []) None)) (option_map at_rest (perform_on c (ps ++ n ∷ []) q))) e

    by_test : (t : Bool) → eqb c 59 ≡ t → NumberRead ps (Some n) c p s
    by_test true e = record { numbers = ps ++ n ∷ []; last = None; is = same_some (among p (ps ++ n ∷ []) None) s (sym (turn p true e) ∙ h); again = λ q. turn q true e }
    by_test false e = clash s (sym (turn p false e ∙ ap (option_map at_rest) (low_none c (ps ++ n ∷ []) p small)) ∙ h)

other_read : (ps : List ℕ) (now : Option ℕ) (c : ℕ) (p : Paper) (s : PaperReading) → is_digit c ≡ false → c < 60 → feed_on (Plain (Numbers ps now)) p c ≡ Some s → NumberRead ps now c p s
other_read [] None c p s off small h = clash s (sym (ap (λ t. cond t (option_map (λ m. among p [] (Some m)) (with_digit None (c - 48))) (end_number_on p [] None c)) off
    ∙ ap (λ t. cond t (Some (record { paper = p; mode = Switching None })) (option_map at_rest (perform_on c [] p))) (far c 63 small (omega arith)) ∙ ap (option_map at_rest) (low_none c [] p small)) ∙ h)
other_read (n ∷ ns) None c p s off small h = clash s (sym (ap (λ t. cond t (option_map (λ m. among p (n ∷ ns) (Some m)) (with_digit None (c - 48))) (end_number_on p (n ∷ ns) None c)) off) ∙ h)
other_read [] (Some n) c p s off small h = semicolon_read [] n c p s small (λ q. ap (λ t. cond t (option_map (λ m. among q [] (Some m)) (with_digit (Some n) (c - 48))) (end_number_on q [] (Some n) c)) off) h
other_read (m ∷ ms) (Some n) c p s off small h = semicolon_read (m ∷ ms) n c p s small (λ q. ap (λ t. cond t (option_map (λ k. among q (m ∷ ms) (Some k)) (with_digit (Some n) (c - 48))) (end_number_on q (m ∷ ms) (Some n) c)) off) h

number_read : (ps : List ℕ) (now : Option ℕ) (c : ℕ) (p : Paper) (s : PaperReading) → c < 60 → feed_on (Plain (Numbers ps now)) p c ≡ Some s → NumberRead ps now c p s
number_read ps now c p s small h = by_test (is_digit c) refl
  where
    by_test : (t : Bool) → is_digit c ≡ t → NumberRead ps now c p s
    by_test true e = digit_read (with_digit now (c - 48)) ps now c p s e refl h
    by_test false e = other_read ps now c p s e small h

-- ---- commands

-- These bytes change the pen alone, and so they do on every terminal that has that pen.
record SetsPen (bytes : List ℕ) (mode : Mode) (p : Paper) (r : PaperReading) : Type 0 where
  pub pen : Look
  pub is : r ≡ at_rest (with_pen p pen)
  pub again : (q : Paper) → q.line.pen ≡ p.line.pen → read_on bytes (record { paper = q; mode = Plain mode }) ≡ Some (at_rest (with_pen q pen))

abbrev lettered : Paper → Option Look → Option PaperReading
lettered p o = option_and_then (read_on []) (option_map at_rest (option_map (with_line p) (option_map (λ pen. record p.line { pen = pen }) o)))

letter_sets : (mode : Mode) (args : List ℕ) (p : Paper) (r : PaperReading) → ((q : Paper) → read_on (109 ∷ []) (record { paper = q; mode = Plain mode }) ≡ lettered q (pen_after args q.line.pen)) → read_on (109 ∷ []) (record { paper = p; mode = Plain mode }) ≡ Some r → SetsPen (109 ∷ []) mode p r
letter_sets mode args p r step h = by_pen (pen_after args p.line.pen) refl
  where
    by_pen : (o : Option Look) → pen_after args p.line.pen ≡ o → SetsPen (109 ∷ []) mode p r
    by_pen None e = clash r (sym (step p ∙ ap (lettered p) e) ∙ h)
    by_pen (Some pen) e = record {
      pen = pen;
      is = same_some (at_rest (with_pen p pen)) r (sym (step p ∙ ap (lettered p) e) ∙ h);
      again = λ q same. step q ∙ ap (λ (l : Look). lettered q (pen_after args l)) same ∙ ap (lettered q) e;
    }

letter_read : (ps : List ℕ) (now : Option ℕ) (p : Paper) (r : PaperReading) → read_on (109 ∷ []) (among p ps now) ≡ Some r → SetsPen (109 ∷ []) (Numbers ps now) p r
letter_read [] None p r h = letter_sets (Numbers [] None) [] p r (λ q. refl) h
letter_read (n ∷ ns) None p r h = clash r h
letter_read [] (Some n) p r h = letter_sets (Numbers [] (Some n)) (n ∷ []) p r (λ q. refl) h
letter_read (m ∷ ms) (Some n) p r h = letter_sets (Numbers (m ∷ ms) (Some n)) ((m ∷ ms) ++ n ∷ []) p r (λ q. refl) h

numbers_set : (bytes ps : List ℕ) (now : Option ℕ) (p : Paper) (r : PaperReading) → AreNumbers bytes → read_on (bytes ++ 109 ∷ []) (among p ps now) ≡ Some r → SetsPen (bytes ++ 109 ∷ []) (Numbers ps now) p r
numbers_set [] ps now p r are h = letter_read ps now p r h
numbers_set (c ∷ bytes) ps now p r are h =
    option_and_then_some (read_on (bytes ++ 109 ∷ [])) (feed_on (Plain (Numbers ps now)) p c) r h (λ x e f.
    let one : NumberRead ps now c p x = number_read ps now c p x are.0.0 e in
    let rest : SetsPen (bytes ++ 109 ∷ []) (Numbers one.numbers one.last) p r = numbers_set bytes one.numbers one.last p r are.1 (subst (λ (y : PaperReading). read_on (bytes ++ 109 ∷ []) y ≡ Some r) one.is f) in
    record { pen = rest.pen; is = rest.is; again = λ q same. ap (option_and_then (read_on (bytes ++ 109 ∷ []))) (one.again q) ∙ rest.again q same })

styles_set : (commands : List (List ℕ)) (p : Paper) (r : PaperReading) → AllByRecursion AreNumbers commands → read_on (set_styles commands) (at_rest p) ≡ Some r → SetsPen (set_styles commands) Outside p r
styles_set [] p r are h = record { pen = p.line.pen; is = same_some (at_rest p) r h; again = λ q same. ap (λ (l : Look). Some (at_rest (with_pen q l))) same }
styles_set (numbers ∷ commands) p r are h =
    let parts : Between (set_style numbers) (set_styles commands) (at_rest p) r = between (set_style numbers) (set_styles commands) (at_rest p) r h in
    let one : SetsPen (numbers ++ 109 ∷ []) (Numbers [] None) p parts.mid = numbers_set numbers [] None p parts.mid are.0 parts.first in
    let two : SetsPen (set_styles commands) Outside (with_pen p one.pen) r = styles_set commands (with_pen p one.pen) r are.1 (subst (λ (y : PaperReading). read_on (set_styles commands) y ≡ Some r) one.is parts.second) in
    record {
      pen = two.pen;
      is = two.is;
      again = λ q same. read_on-append (set_style numbers) (set_styles commands) (at_rest q) ∙ ap (option_and_then (read_on (set_styles commands))) (one.again q same) ∙ two.again (with_pen q one.pen) refl;
    }

-- ---- text

abbrev pen_of : Look → Option Grid → Look
pen_of pen None = pen
pen_of pen (Some g) = g.pen

join_pen : (i : Option ℕ) (g h : Grid) (c : ℕ) → join_at g c i ≡ Some h → h.pen ≡ g.pen
join_pen None g h c e = clash h e
join_pen (Some i) g h c e = sym (ap (pen_of g.pen) e)

wide_pen : (t : Bool) (g h : Grid) (gs : List Glyph) → cond t (Some (painted g gs)) None ≡ Some h → h.pen ≡ g.pen
unfolding painted
wide_pen true g h gs e = sym (ap (pen_of g.pen) e)
wide_pen false g h gs e = clash h e

put_wide_pen : (o : Option ℕ) (g h : Grid) (c : ℕ) → put_wide o g c ≡ Some h → h.pen ≡ g.pen
put_wide_pen None g h c e = clash h e
put_wide_pen (Some zero) g h c e = join_pen (head_before g.cells (g.y * g.width) g.x) g h c e
put_wide_pen (Some (suc k)) g h c e = wide_pen (nat_le (g.x + suc k) g.width) g h (glyphs (c ∷ []) k g.pen) e

-- a character leaves the pen
put_pen : (g h : Grid) (c : ℕ) → put g c ≡ Some h → h.pen ≡ g.pen
put_pen g h c e = by_test (nat_lt g.y g.height) e
  where
    by_test : (t : Bool) → cond t (put_wide (char_width false c) g c) None ≡ Some h → h.pen ≡ g.pen
    by_test true e = put_wide_pen (char_width false c) g h c e
    by_test false e = clash h e

record KeepsPen (p : Paper) (r : PaperReading) : Type 0 where
  pub line : Grid
  pub is : r ≡ at_rest (with_line p line)
  pub pen : line.pen ≡ p.line.pen

char_keeps : (c : ℕ) (p : Paper) (r : PaperReading) → (c ≢ 27) × (c ≢ 10) → feed_on (Plain Outside) p c ≡ Some r → KeepsPen p r
char_keeps c p r text h = by_return (eqb c 13) refl
  where
    put_text : feed_on (Plain Outside) p c ≡ option_map at_rest (cond (eqb c 13) (Some (with_line p (record p.line { x = 0 }))) (option_map (with_line p) (put p.line c)))
    put_text =
        ap (λ t. cond t (Some (record { paper = p; mode = Plain Escape })) (option_map at_rest (put_on c p))) (is_no c 27 text.0)
        ∙ ap (λ t. option_map at_rest (cond t (Some (next_row p.below p)) (cond (eqb c 13) (Some (with_line p (record p.line { x = 0 }))) (option_map (with_line p) (put p.line c))))) (is_no c 10 text.1)

    by_put : (o : Option Grid) → put p.line c ≡ o → option_map at_rest (option_map (with_line p) (put p.line c)) ≡ Some r → KeepsPen p r
    by_put None e k = clash r (sym (ap (λ o. option_map at_rest (option_map (with_line p) o)) e) ∙ k)
    by_put (Some g) e k = record { line = g; is = same_some (at_rest (with_line p g)) r (sym (ap (λ o. option_map at_rest (option_map (with_line p) o)) e) ∙ k); pen = put_pen p.line g c e }

    by_return : (t : Bool) → eqb c 13 ≡ t → KeepsPen p r
    by_return true e =
        record { line = record p.line { x = 0 }; is = same_some (at_rest (with_line p (record p.line { x = 0 }))) r (sym (put_text ∙ ap (λ t. option_map at_rest (cond t (Some (with_line p (record p.line { x = 0 }))) (option_map (with_line p) (put p.line c)))) e) ∙ h); pen = refl }
    by_return false e = by_put (put p.line c) refl (sym (put_text ∙ ap (λ t. option_map at_rest (cond t (Some (with_line p (record p.line { x = 0 }))) (option_map (with_line p) (put p.line c)))) e) ∙ h)

text_keeps : (cs : List ℕ) (p : Paper) (r : PaperReading) → AreText cs → read_on cs (at_rest p) ≡ Some r → KeepsPen p r
text_keeps [] p r text h = record { line = p.line; is = same_some (at_rest p) r h; pen = refl }
text_keeps (c ∷ cs) p r text h =
    option_and_then_some (read_on cs) (feed_on (Plain Outside) p c) r h (λ x e f.
    let one : KeepsPen p x = char_keeps c p x text.0 e in
    let rest : KeepsPen (with_line p one.line) r = text_keeps cs (with_line p one.line) r text.1 (subst (λ (y : PaperReading). read_on cs y ≡ Some r) one.is f) in
    record { line = rest.line; is = rest.is; pen = rest.pen ∙ one.pen })

-- ---- the end of a style

reset_by : (mode : PaperMode) (p : Paper) (r : PaperReading) → read_on reset (record { paper = p; mode = mode }) ≡ Some r → (mode ≡ Plain Outside) × (r ≡ at_rest (with_pen p plain_pen))
reset_by (Plain Outside) p r h = (refl, same_some (at_rest (with_pen p plain_pen)) r h)
reset_by (Plain Escape) p r h = clash r h
reset_by (Plain (Numbers [] None)) p r h = clash r h
reset_by (Plain (Numbers (n ∷ ns) None)) p r h = clash r h
reset_by (Plain (Numbers [] (Some n))) p r h = clash r h
reset_by (Plain (Numbers (m ∷ ms) (Some n))) p r h = clash r h
reset_by (Switching None) p r h = clash r h
reset_by (Switching (Some n)) p r h = clash r h

reset_plain : (s r : PaperReading) → read_on reset s ≡ Some r → (s.mode ≡ Plain Outside) × (r ≡ at_rest (with_pen s.paper plain_pen))
reset_plain s r h = reset_by s.mode s.paper r h

-- ---- rows that leave the plain pen

-- No style is set after this row: it is text, or ends with text after a style's end.
abbrev pub RowEndsPlain : List ℕ → Type 0
RowEndsPlain row = AreText row ⊎ ((before : List ℕ) × (since : List ℕ) × (row ≡ before ++ (reset ++ since)) × AreText since)

-- where no style is set after bytes, none is set after their last row
pub last_is_plain : (bytes : List ℕ) → EndsPlain bytes → RowEndsPlain (last_in bytes)
last_is_plain bytes h =
    let last : last_in bytes ≡ last_in h.before ++ h.since = ap last_in h.is ∙ last_more h.before h.since (text_in_row h.since h.text) in
    ⊎_elim (λ (none : h.before ≡ []). inl (subst (λ (l : List ℕ). AreText l) (sym (last ∙ ap (λ (l : List ℕ). last_in l ++ h.since) none)) h.text))
    (λ (some : ((front : List ℕ) × (h.before ≡ front ++ 10 ∷ [])) ⊎ ((front : List ℕ) × (h.before ≡ front ++ reset))).
    ⊎_elim (λ (ended : (front : List ℕ) × (h.before ≡ front ++ 10 ∷ [])). inl (subst (λ (l : List ℕ). AreText l) (sym (last ∙ ap (λ (l : List ℕ). l ++ h.since) (ap last_in ended.1 ∙ last-append [] ended.0 (10 ∷ [])))) h.text))
    (λ (plain : (front : List ℕ) × (h.before ≡ front ++ reset)). inr (last_in plain.0, h.since, last ∙ ap (λ (l : List ℕ). l ++ h.since) (ap last_in plain.1 ∙ last_more plain.0 reset reset_in_row) ∙ append_assoc (last_in plain.0) reset h.since, h.text)) some)
    h.begins

record AtPlain (p : Paper) (r : PaperReading) : Type 0 where
  pub mode : r.mode ≡ Plain Outside
  pub pen : r.paper.line.pen ≡ plain_pen

kept_plain : (p : Paper) (r : PaperReading) → p.line.pen ≡ plain_pen → KeepsPen p r → AtPlain p r
kept_plain p r plain h = record { mode = ap (λ (s : PaperReading). s.mode) h.is; pen = ap (λ (s : PaperReading). s.paper.line.pen) h.is ∙ h.pen ∙ plain }

plain_row : (row : List ℕ) (p : Paper) (r : PaperReading) → IsUtf8 row → RowEndsPlain row → p.line.pen ≡ plain_pen → read_on (chars row) (at_rest p) ≡ Some r → AtPlain p r
plain_row row p r utf8 (inl text) plain h = kept_plain p r plain (text_keeps (chars row) p r (text_chars row utf8 text) h)
plain_row row p r utf8 (inr (before, since, is, text)) plain h =
    let parts : IsUtf8 before × IsUtf8 (reset ++ since) = utf8_parts before (91 ∷ 48 ∷ 109 ∷ since) 27 (lit< tt) (subst (λ (l : List ℕ). IsUtf8 l) is utf8) in
    let since_utf8 : IsUtf8 since = text_after reset since (IsUtf8-from_ascii reset ascii_reset) parts.1 in
    let spelled : chars row ≡ chars before ++ (reset ++ chars since) =
    ap chars is ∙ chars-append before (reset ++ since) parts.0 ∙ ap (λ (l : List ℕ). chars before ++ l) (chars-append reset since (IsUtf8-from_ascii reset ascii_reset) ∙ ap (λ (l : List ℕ). l ++ chars since) (chars-IsAscii reset ascii_reset)) in
    let first : Between (chars before) (reset ++ chars since) (at_rest p) r = between (chars before) (reset ++ chars since) (at_rest p) r (sym (ap (λ (l : List ℕ). read_on l (at_rest p)) spelled) ∙ h) in
    let second : Between reset (chars since) first.mid r = between reset (chars since) first.mid r first.second in
    let at : second.mid ≡ at_rest (with_pen first.mid.paper plain_pen) = (reset_plain first.mid second.mid second.first).1 in
    let kept : KeepsPen (with_pen first.mid.paper plain_pen) r = text_keeps (chars since) (with_pen first.mid.paper plain_pen) r (text_chars since since_utf8 text) (subst (λ (y : PaperReading). read_on (chars since) y ≡ Some r) at second.second) in
    record { mode = ap (λ (s : PaperReading). s.mode) kept.is; pen = ap (λ (s : PaperReading). s.paper.line.pen) kept.is ∙ kept.pen }

-- ---- the style is set again

-- A style is set again after a row: it goes on as before the style's end, and only the pen has changed.
pub record Restyled (w : ℕ) (row style : List ℕ) (p : Paper) : Type 0 where
  pub paper : Paper
  pub reads : Reads p style paper
  pub begun : Begun w row paper
  pub pen : with_pen paper plain_pen ≡ p

-- of a terminal that has a row in a style, which has ended
pub restyled : (w : ℕ) (front text first : List ℕ) (commands : List (List ℕ)) (p : Paper) → AllByRecursion AreNumbers (first ∷ commands) → RowEndsPlain front → AreText text → IsRow w ((front ++ (set_styles (first ∷ commands) ++ text)) ++ reset) → p.line ≡ drawn w ((front ++ (set_styles (first ∷ commands) ++ text)) ++ reset)
    → Restyled w (front ++ (set_styles (first ∷ commands) ++ text)) (set_styles (first ∷ commands)) p
restyled w front text first commands p numbers plain in_row is here =
    let style : List ℕ = set_styles (first ∷ commands) in
    let row : List ℕ = front ++ (style ++ text) in
    let start : Paper = with_line p (blank_line w) in
    let ascii : IsAscii style = ascii_styles (first ∷ commands) numbers in
    let row_utf8 : IsUtf8 row = (utf8_parts row (91 ∷ 48 ∷ 109 ∷ []) 27 (lit< tt) is.text).0 in
    let parts : IsUtf8 front × IsUtf8 (style ++ text) = utf8_parts front (91 ∷ ((first ++ 109 ∷ []) ++ set_styles commands) ++ text) 27 (lit< tt) row_utf8 in
    let text_utf8 : IsUtf8 text = text_after style text (IsUtf8-from_ascii style ascii) parts.1 in
    let spelled : chars row ≡ chars front ++ (style ++ chars text) =
    chars-append front (style ++ text) parts.0 ∙ ap (λ (l : List ℕ). chars front ++ l) (chars-append style text (IsUtf8-from_ascii style ascii) ∙ ap (λ (l : List ℕ). l ++ chars text) (chars-IsAscii style ascii)) in
    let whole : read_on (chars row ++ reset) (at_rest start) ≡ Some (at_rest (with_line p (drawn w (row ++ reset)))) =
    sym (ap (λ (l : List ℕ). read_on l (at_rest start)) (chars-append row reset row_utf8 ∙ ap (λ (l : List ℕ). chars row ++ l) (chars-IsAscii reset ascii_reset))) ∙ is.reads start refl in
    let one : Between (chars row) reset (at_rest start) (at_rest (with_line p (drawn w (row ++ reset)))) = between (chars row) reset (at_rest start) (at_rest (with_line p (drawn w (row ++ reset)))) whole in
    let ended : at_rest (with_line p (drawn w (row ++ reset))) ≡ at_rest (with_pen one.mid.paper plain_pen) = (reset_plain one.mid (at_rest (with_line p (drawn w (row ++ reset)))) one.second).1 in
    let two : Between (chars front) (style ++ chars text) (at_rest start) one.mid = between (chars front) (style ++ chars text) (at_rest start) one.mid (sym (ap (λ (l : List ℕ). read_on l (at_rest start)) spelled) ∙ one.first) in
    let at : AtPlain start two.mid = plain_row front start two.mid parts.0 plain refl two.first in
    let rest : read_on (style ++ chars text) (at_rest two.mid.paper) ≡ Some one.mid = ap (λ (m : PaperMode). read_on (style ++ chars text) (record { paper = two.mid.paper; mode = m })) (sym at.mode) ∙ two.second in
    let three : Between style (chars text) (at_rest two.mid.paper) one.mid = between style (chars text) (at_rest two.mid.paper) one.mid rest in
    let sets : SetsPen style Outside two.mid.paper three.mid = styles_set (first ∷ commands) two.mid.paper three.mid numbers three.first in
    let keeps : KeepsPen (with_pen two.mid.paper sets.pen) one.mid =
    text_keeps (chars text) (with_pen two.mid.paper sets.pen) one.mid (text_chars text text_utf8 in_row) (subst (λ (y : PaperReading). read_on (chars text) y ≡ Some one.mid) sets.is three.second) in
    let q : Paper = with_line two.mid.paper keeps.line in
    let e : with_pen q plain_pen ≡ p = ap (λ (s : PaperReading). with_pen s.paper plain_pen) (sym keeps.is) ∙ ap (λ (s : PaperReading). s.paper) (sym ended) ∙ ap (with_line p) (sym here) in
    let same : p.line.pen ≡ two.mid.paper.line.pen = ap (λ (s : Paper). s.line.pen) (sym e) ∙ sym at.pen in
    let then : with_pen p sets.pen ≡ q = ap (λ (s : Paper). with_pen s sets.pen) (sym e) ∙ ap (with_pen q) (sym keeps.pen) in
    record {
      paper = q;
      reads = ascii_reads p q style ascii (sets.again p same ∙ ap (λ (s : Paper). Some (at_rest s)) then);
      begun = record { text = row_utf8; reads = ap (λ (s : Paper). read_on (chars row) (at_rest (with_line s (blank_line w)))) e ∙ one.first ∙ ap (λ (s : PaperReading). Some s) keeps.is };
      pen = e;
    }
