-- What the end of a row is, byte after byte.
use Rattle.std.proofs.Common.{◌≡◌, ◌≢◌, inl, inr, ℕ, ◌+◌, ◌-◌, ◌<◌, ◌≤◌, List, [], ◌∷◌, ◌++◌, length, take, drop, refl, ap, sym, ◌∙◌, subst, arith, append_assoc, length-append}
use Rattle.std.proofs.lemmas.List.{append-nil}
use Rattle.std.proofs.lemmas.Grind.{flat_map-append}
use Rattle.mad_live.specs.StyledRows.{reset, EndsPlain, set_style, set_styles, AreNumbers, HasStyle, IsStyling, GrowsInStyle}
use Rattle.mad_live.specs.declared.styling.Styling.TheVariants.{Begun, Numbers, Styled}
use Rattle.mad_live.proofs.PaperLemmas.{take_front, drop_front}
use Rattle.mad_live.proofs.RowLemmas.{all_both}

abbrev IsText : ℕ → Type 0
IsText c = (c ≢ 27) × (c ≢ 10)

abbrev IsNumber : ℕ → Type 0
IsNumber c = (c < 60) × (c ≢ 10)

-- ---- no style

-- before the first byte no style is set
pub nothing_plain : EndsPlain []
nothing_plain = record { before = []; since = []; is = refl; text = tt; begins = inl refl }

-- after a newline none is set
pub newline_plain : (front : List ℕ) (c : ℕ) → c ≡ 10 → EndsPlain (front ++ c ∷ [])
newline_plain front c is = record { before = front ++ c ∷ []; since = []; is = sym (append-nil (front ++ c ∷ [])); text = tt; begins = inr (inl (front, ap (λ d. front ++ d ∷ []) is)) }

-- after the end of a style none is set
pub reset_plain : (front before : List ℕ) (c : ℕ) → c ≡ 109 → front ≡ before ++ 27 ∷ 91 ∷ 48 ∷ [] → EndsPlain (front ++ c ∷ [])
reset_plain front before c is ends = record {
  before = front ++ c ∷ [];
  since = [];
  is = sym (append-nil (front ++ c ∷ []));
  text = tt;
  begins = inr (inr (before, ap (λ d. front ++ d ∷ []) is ∙ ap (λ l. l ++ 109 ∷ []) ends ∙ append_assoc before (27 ∷ 91 ∷ 48 ∷ []) (109 ∷ [])));
}

-- a byte of text leaves it so
pub plain_more : (front : List ℕ) (c : ℕ) → c ≢ 27 → c ≢ 10 → EndsPlain front → EndsPlain (front ++ c ∷ [])
plain_more front c no_escape no_newline h = record {
  before = h.before;
  since = h.since ++ c ∷ [];
  is = ap (λ l. l ++ c ∷ []) h.is ∙ append_assoc h.before h.since (c ∷ []);
  text = all_both IsText h.since (c ∷ []) h.text ((no_escape, no_newline), tt);
  begins = h.begins;
}

-- ---- a style

-- an ESC begins a command
pub style_begins : (front : List ℕ) (c begin : ℕ) → c ≡ 27 → begin ≡ length front → EndsPlain front → IsStyling (front ++ c ∷ []) (Begun begin)
style_begins front c begin is at plain = ([], record { front = front; is = ap (λ d. front ++ d ∷ []) is; plain = plain; numbers = tt; at = sym at })

style_more : (bytes : List ℕ) (begin c : ℕ) (commands : List (List ℕ)) (rest : List ℕ) → HasStyle bytes begin commands rest → HasStyle (bytes ++ c ∷ []) begin commands (rest ++ c ∷ [])
style_more bytes begin c commands rest h = record {
  front = h.front;
  is = ap (λ l. l ++ c ∷ []) h.is ∙ append_assoc h.front (set_styles commands ++ rest) (c ∷ []) ∙ ap (λ l. h.front ++ l) (append_assoc (set_styles commands) rest (c ∷ []));
  plain = h.plain;
  numbers = h.numbers;
  at = h.at;
}

-- after it `[` begins its numbers
pub numbers_begin : (bytes : List ℕ) (begin c : ℕ) → c ≡ 91 → IsStyling bytes (Begun begin) → IsStyling (bytes ++ c ∷ []) (Numbers begin)
numbers_begin bytes begin c is (commands, h) = (commands, [], subst (λ d. HasStyle (bytes ++ c ∷ []) begin commands (27 ∷ d ∷ [])) is (style_more bytes begin c commands (27 ∷ []) h), tt)

-- a digit or a semicolon goes on with them
pub numbers_more : (bytes : List ℕ) (begin c : ℕ) → c < 60 → c ≢ 10 → IsStyling bytes (Numbers begin) → IsStyling (bytes ++ c ∷ []) (Numbers begin)
numbers_more bytes begin c small no_newline (commands, numbers, h, are) =
    (commands, numbers ++ c ∷ [], style_more bytes begin c commands (27 ∷ 91 ∷ numbers) h, all_both IsNumber numbers (c ∷ []) are ((small, no_newline), tt))

-- a command is complete
command_ends : (bytes : List ℕ) (begin : ℕ) (commands : List (List ℕ)) (numbers : List ℕ) → HasStyle bytes begin commands (27 ∷ 91 ∷ numbers) → AreNumbers numbers → HasStyle (bytes ++ 109 ∷ []) begin (commands ++ numbers ∷ []) []
unfolding style_more
command_ends bytes begin commands numbers h are = record {
  front = h.front;
  is = (style_more bytes begin 109 commands (27 ∷ 91 ∷ numbers) h).is
      ∙ ap (λ l. h.front ++ l) (ap (λ l. set_styles commands ++ l) (sym (append-nil (set_style numbers))) ∙ sym (flat_map-append set_style commands (numbers ∷ [])) ∙ sym (append-nil (set_styles (commands ++ numbers ∷ []))));
  plain = h.plain;
  numbers = all_both AreNumbers commands (numbers ∷ []) h.numbers (are, tt);
  at = h.at;
}

styled_by : (bytes : List ℕ) (begin end : ℕ) (commands : List (List ℕ)) (last : List ℕ) → HasStyle bytes begin (commands ++ last ∷ []) [] → end ≡ length bytes → IsStyling bytes (Styled begin end)
styled_by bytes begin end [] last h is = (last, [], [], h, tt, omega (arith, is, ap length h.is, h.at, length-append h.front (set_styles (last ∷ []) ++ []), ap length (append-nil (set_styles (last ∷ [])))))
styled_by bytes begin end (first ∷ commands) last h is =
    let all : List (List ℕ) = commands ++ last ∷ [] in
    (first, all, [], h, tt, omega (arith, is, ap length h.is, h.at, length-append h.front (set_styles (first ∷ all) ++ []), ap length (append-nil (set_styles (first ∷ all)))))

-- an `m` ends them, and a style is set
pub style_ends : (bytes : List ℕ) (begin end c : ℕ) → c ≡ 109 → end ≡ length bytes + 1 → IsStyling bytes (Numbers begin) → IsStyling (bytes ++ c ∷ []) (Styled begin end)
style_ends bytes begin end c is at (commands, numbers, h, are) =
    subst (λ d. IsStyling (bytes ++ d ∷ []) (Styled begin end)) (sym is) (styled_by (bytes ++ 109 ∷ []) begin end commands numbers (command_ends bytes begin commands numbers h are) (omega (arith, at, length-append bytes (109 ∷ []))))

-- a byte of text leaves it set
pub text_more : (bytes : List ℕ) (begin end c : ℕ) → c ≢ 27 → c ≢ 10 → IsStyling bytes (Styled begin end) → IsStyling (bytes ++ c ∷ []) (Styled begin end)
text_more bytes begin end c no_escape no_newline (first, commands, text, h, are, at) =
    (first, commands, text ++ c ∷ [], style_more bytes begin c (first ∷ commands) text h, all_both IsText text (c ∷ []) are ((no_escape, no_newline), tt), at)

none_of : (l : List ℕ) → length l ≡ 0 → l ≡ []
none_of [] h = refl
none_of (x ∷ xs) h = absurd (omega arith)

-- one more command begins, where no text is between
pub more_begins : (bytes : List ℕ) (begin end c : ℕ) → c ≡ 27 → end ≡ length bytes → IsStyling bytes (Styled begin end) → IsStyling (bytes ++ c ∷ []) (Begun begin)
more_begins bytes begin end c is at (first, commands, text, h, are, last) =
    let style : List ℕ = set_styles (first ∷ commands) in
    let none : text ≡ [] = none_of text (omega (arith, at, last, ap length h.is, h.at, length-append h.front (style ++ text), length-append style text)) in
    (first ∷ commands, subst (λ (d : ℕ). HasStyle (bytes ++ c ∷ []) begin (first ∷ commands) (d ∷ [])) is (subst (λ (l : List ℕ). HasStyle (bytes ++ c ∷ []) begin (first ∷ commands) (l ++ c ∷ [])) none (style_more bytes begin c (first ∷ commands) text h)))

-- ---- growth

-- the commands of a style begin and end within the bytes
pub styled_inside : (bytes : List ℕ) (begin end : ℕ) → IsStyling bytes (Styled begin end) → (begin ≤ end) × (end ≤ length bytes)
styled_inside bytes begin end (first, commands, text, h, are, last) =
    let style : List ℕ = set_styles (first ∷ commands) in
    (omega (arith, last), omega (arith, last, ap length h.is, h.at, length-append h.front (style ++ text), length-append style text))

-- where what is shown ends in a style, and what is wanted goes on before its end, it grows in that style
pub grows_by : (shown wanted front more style : List ℕ) (begin end : ℕ) → shown ≡ front ++ reset → wanted ≡ front ++ more → IsStyling front (Styled begin end) → style ≡ take (end - begin) (drop begin front) → GrowsInStyle shown wanted style more
grows_by shown wanted front more style begin end was is (first, commands, text, h, are, last) cut =
    let set : List ℕ = set_styles (first ∷ commands) in
    let rest : drop begin front ≡ set ++ text = ap (λ n. drop n front) (sym h.at) ∙ ap (drop (length h.front)) h.is ∙ drop_front h.front (set ++ text) in
    let size : end - begin ≡ length set = omega (arith, last) in
    let made : style ≡ set = cut ∙ ap (take (end - begin)) rest ∙ ap (λ n. take n (set ++ text)) size ∙ take_front set text in
    record {
      front = h.front;
      first = first;
      commands = commands;
      text = text;
      sets = made;
      was = was ∙ ap (λ l. l ++ reset) (h.is ∙ ap (λ l. h.front ++ (l ++ text)) (sym made));
      is = is ∙ ap (λ l. l ++ more) (h.is ∙ ap (λ l. h.front ++ (l ++ text)) (sym made));
      plain = h.plain;
      numbers = h.numbers;
      in_row = are;
    }
