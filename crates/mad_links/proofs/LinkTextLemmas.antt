-- What a terminal with links makes of texts, of commands that change the pen, and of the commands of links.
use Rattle.std.proofs.Common.{◌≡◌, ℕ, suc, zero, ◌+◌, ◌-◌, ◌*◌, ◌%◌, ◌^◌, ◌<◌, ◌≤◌, Bool, true, false, cond, eqb, leb, ltb, List, [], ◌∷◌, ◌++◌, Option, Some, None, refl, ap, sym, ◌∙◌, subst, arith, append_assoc, lit≤}
use Rattle.std.specs.Prelude.{option_and_then, option_map, unwrap_or, ◌&&◌, decimal}
use Rattle.std.specs.List.{AllByRecursion, flat_map, sum_by}
use Rattle.std.proofs.lemmas.Bool.Decides.{nat_tests}
use Rattle.std.proofs.lemmas.Fmt.{decimal_by_steps}
use Rattle.std.proofs.lemmas.List.Sums.{sum_by-cons}
use Rattle.unicode_width.specs.Width.{char_width}
use Rattle.mad_characters.specs.Columns.{char_columns}
use Rattle.mad_term.specs.Commands.{command_bytes, numbers_bytes, move_to_bytes}
use Rattle.mad_screen.specs.Grid.{Grid, painted, glyphs}
use Rattle.mad_screen.specs.Terminal.{Outside, Escape, Reading, feed, feed_all, Leads, resting, numbers, put, put_wide, join_at, head_before, perform, with_digit, end_number, is_digit, row_start}
use Rattle.mad_screen.specs.Painting.{IsPrinted}
use Rattle.mad_screen.proofs.Reading.{feed_all-append}
use Rattle.mad_screen.proofs.PaintingLemmas.{length-glyphs}
use Rattle.mad_links.specs.SkippingTerminal.{NoCommand, InCommand, AtItsEnd, Skipping, passing, plain_reader, after_escape, is_command_char}
use Rattle.mad_links.specs.LinkTerminal.{Link, LinkReading, LinkLeads, link_feed, link_feed_all, next_links, linked_cells, opened_at, opened}
use Rattle.mad_links.specs.LinkRows.{command_text, link_command_bytes}
use Rattle.mad_links.proofs.BesideLemmas.{link_feed_all-append}
use Rattle.mad_links.proofs.CalmLemmas.{AreCommandChars, AreMachine, NoSemicolon, char_no_escape, command_is, passes}
use Rattle.mad_links.proofs.PlainLemmas.{Rests, command_rests, printed_not_escape}
use Rattle.mad_links.proofs.PutEach.{put_same_more}

-- a reading of the plain terminal, with these links beside it
abbrev pub beside : List (Option Link) → Option Link → Reading → LinkReading
beside links link r = record { skipping = passing r; links = links; current = link }

-- what is made of a character that no command of a link is in: the plain terminal's reading, and the links of its cells
one_feed : (r : Reading) (links : List (Option Link)) (link : Option Link) (c : ℕ) → after_escape r.mode ≡ false
    → link_feed (beside links link r) c ≡ option_map (beside (next_links NoCommand r c link links) link) (feed r c)
one_feed r links link c h =
    ap (option_map (λ s. record { skipping = s; links = next_links NoCommand r c link links; current = link })) (passes plain_reader r c h) ∙ twice (feed r c)
  where
    twice : (o : Option Reading) → option_map (λ s. record { skipping = s; links = next_links NoCommand r c link links; current = link }) (option_map passing o) ≡ option_map (beside (next_links NoCommand r c link links) link) o
    twice None = refl
    twice (Some s) = refl

-- ---- texts

-- a reading outside sequences, n columns further, if there is one
pub record IsFurther (g : Grid) (n : ℕ) (r : Reading) : Type 0 where
  pub mode : r.mode ≡ Outside
  pub column : r.grid.x ≡ g.x + n
  pub row : r.grid.y ≡ g.y
  pub width : r.grid.width ≡ g.width

-- so a reading, if there is one, n columns further
abbrev pub Moves : Grid → ℕ → Option Reading → Type 0
Moves g n None = Unit {0}
Moves g n (Some r) = IsFurther g n r

joined_moves : (g : Grid) (c : ℕ) (o : Option ℕ) → Moves g 0 (option_map resting (join_at g c o))
joined_moves g c None = tt
joined_moves g c (Some i) = record { mode = refl; column = omega arith; row = refl; width = refl }

wide_moves : (g : Grid) (c k : ℕ) (b : Bool) → Moves g (suc k) (option_map resting (cond b (Some (painted g (glyphs (c ∷ []) k g.pen))) None))
unfolding painted
wide_moves g c k false = tt
wide_moves g c k true = record { mode = refl; column = ap (λ n. g.x + n) (length-glyphs (c ∷ []) k g.pen); row = refl; width = refl }

put_moves : (g : Grid) (c : ℕ) (o : Option ℕ) → Moves g (unwrap_or o 0) (option_map resting (put_wide o g c))
put_moves g c None = tt
put_moves g c (Some zero) = joined_moves g c (head_before g.cells (g.y * g.width) g.x)
put_moves g c (Some (suc k)) = wide_moves g c k (leb (g.x + suc k) g.width)

row_moves : (g : Grid) (c n : ℕ) (b : Bool) → Moves g n (option_map resting (put_wide (char_width false c) g c)) → Moves g n (option_map resting (cond b (put_wide (char_width false c) g c) None))
row_moves g c n false h = tt
row_moves g c n true h = h

char_moves : (g : Grid) (c : ℕ) → eqb c 27 ≡ false → Moves g (char_columns c) (feed (resting g) c)
unfolding char_columns
char_moves g c e =
    subst (λ b. Moves g (char_columns c) (cond b (Some (record { grid = g; mode = Escape })) (option_map resting (put g c)))) (sym e)
    (row_moves g c (char_columns c) (ltb g.y g.height) (put_moves g c (char_width false c)))

-- what characters do: the plain terminal's reading n columns further, with n more cells of the open link
pub record Follows (cs : List ℕ) (n : ℕ) (g : Grid) (links : List (Option Link)) (link : Option Link) : Type 0 where
  pub same : link_feed_all cs (beside links link (resting g)) ≡ option_map (beside (linked_cells links (row_start g + g.x) n link) link) (feed_all cs (resting g))
  pub moves : Moves g n (feed_all cs (resting g))

follow_step : (cs : List ℕ) (m n : ℕ) (g : Grid) (links : List (Option Link)) (link : Option Link) (o : Option Reading) → Moves g m o
    → ((h : Grid) (more : List (Option Link)) → Follows cs n h more link)
    → (option_and_then (link_feed_all cs) (option_map (beside (linked_cells links (row_start g + g.x) m link) link) o) ≡ option_map (beside (linked_cells links (row_start g + g.x) (m + n) link) link) (option_and_then (feed_all cs) o)) × Moves g (m + n) (option_and_then (feed_all cs) o)
follow_step cs m n g links link None h ih = (refl, tt)
follow_step cs m n g links link (Some r) h ih =
    let out : record { grid = r.grid; mode = r.mode } ≡ resting r.grid = ap (λ k. record { grid = r.grid; mode = k }) h.mode in
    let some : List (Option Link) = linked_cells links (row_start g + g.x) m link in
    let line : r.grid.y * r.grid.width ≡ g.y * g.width = ap (λ k. k * r.grid.width) h.row ∙ ap (λ k. g.y * k) h.width in
    let place : row_start r.grid + r.grid.x ≡ row_start g + g.x + m = omega (arith, line, h.column) in
    let rest : Follows cs n r.grid some link = ih r.grid some in (
      ap (λ (s : Reading). link_feed_all cs (beside some link s)) out
          ∙ rest.same
          ∙ ap (λ (ls : List (Option Link)). option_map (beside ls link) (feed_all cs (resting r.grid))) (ap (λ k. linked_cells some k n link) place ∙ put_same_more links (row_start g + g.x) m n link)
          ∙ ap (λ (s : Reading). option_map (beside (linked_cells links (row_start g + g.x) (m + n) link) link) (feed_all cs s)) (sym out),
      subst (λ (s : Reading). Moves g (m + n) (feed_all cs s)) (sym out) (further (feed_all cs (resting r.grid)) rest.moves),
    )
  where
    further : (p : Option Reading) → Moves r.grid n p → Moves g (m + n) p
    further None k = tt
    further (Some s) k = record { mode = k.mode; column = omega (arith, k.column, h.column); row = k.row ∙ h.row; width = k.width ∙ h.width }

-- a text that is shown
pub printed_follows : (cs : List ℕ) → IsPrinted cs → (g : Grid) (links : List (Option Link)) (link : Option Link) → Follows cs (sum_by char_columns cs) g links link
printed_follows [] printed g links link = record { same = refl; moves = record { mode = refl; column = omega arith; row = refl; width = refl } }
printed_follows (c ∷ cs) printed g links link =
    let n = sum_by char_columns cs in
    let e : eqb c 27 ≡ false = printed_not_escape c printed.0 in
    let step = follow_step cs (char_columns c) n g links link (feed (resting g) c) (char_moves g c e) (λ h more. printed_follows cs printed.1 h more link) in
    let all : char_columns c + n ≡ sum_by char_columns (c ∷ cs) = sym (sum_by-cons char_columns c cs) in
    subst (λ k. Follows (c ∷ cs) k g links link) all
    (record {
      same = ap (option_and_then (link_feed_all cs)) (one_feed (resting g) links link c refl) ∙ step.0;
      moves = step.1;
    })

-- ---- commands that change the pen

-- what leaves the links as they are
pub record Quiet (cs : List ℕ) (g : Grid) : Type 0 where
  pub same : (links : List (Option Link)) (link : Option Link) → link_feed_all cs (beside links link (resting g)) ≡ option_map (beside links link) (feed_all cs (resting g))
  pub rests : Rests (feed_all cs (resting g))

quiet_step : (b : List ℕ) (links : List (Option Link)) (link : Option Link) (o : Option Reading) → Rests o → ((g : Grid) → Quiet b g)
    → (option_and_then (link_feed_all b) (option_map (beside links link) o) ≡ option_map (beside links link) (option_and_then (feed_all b) o)) × Rests (option_and_then (feed_all b) o)
quiet_step b links link None h ih = (refl, tt)
quiet_step b links link (Some r) h ih =
    let out : record { grid = r.grid; mode = r.mode } ≡ resting r.grid = ap (λ m. record { grid = r.grid; mode = m }) h in (
      ap (λ (s : Reading). link_feed_all b (beside links link s)) out ∙ (ih r.grid).same links link ∙ ap (λ (s : Reading). option_map (beside links link) (feed_all b s)) (sym out),
      subst (λ (s : Reading). Rests (feed_all b s)) (sym out) (ih r.grid).rests,
    )

-- what leaves the links, and more that does
pub quiet_both : (a b : List ℕ) → ((g : Grid) → Quiet a g) → ((g : Grid) → Quiet b g) → (g : Grid) → Quiet (a ++ b) g
quiet_both a b p q g = record {
  same = λ links link.
      link_feed_all-append a b (beside links link (resting g)) ∙ ap (option_and_then (link_feed_all b)) ((p g).same links link)
      ∙ (quiet_step b links link (feed_all a (resting g)) (p g).rests q).0
      ∙ ap (option_map (beside links link)) (sym (feed_all-append a b (resting g)));
  rests = subst Rests (sym (feed_all-append a b (resting g))) (quiet_step b [] None (feed_all a (resting g)) (p g).rests q).1;
}

-- no characters leave them
pub quiet_nothing : (g : Grid) → Quiet [] g
quiet_nothing g = record { same = λ links link. refl; rests = refl }

-- a digit, or a semicolon
abbrev pub is_number_char : ℕ → Bool
is_number_char c = leb 48 c && leb c 59

-- each is one of these
abbrev pub NumberChars : List ℕ → Type 0
NumberChars cs = AllByRecursion (λ c. is_number_char c ≡ true) cs

abbrev AmongNumbers : Option Reading → Type 0
AmongNumbers None = Unit {0}
AmongNumbers (Some r) = (g : Grid) × (ps : List ℕ) × (now : Option ℕ) × (r ≡ numbers g ps now)

mapped_among : {A : Type 0} (g : Grid) (ps : List ℕ) (f : A → Option ℕ) (o : Option A) → AmongNumbers (option_map (λ a. numbers g ps (f a)) o)
mapped_among g ps f None = tt
mapped_among g ps f (Some a) = (g, ps, f a, refl)

cond_among : (b : Bool) (x y : Option Reading) → (b ≡ true → AmongNumbers x) → (b ≡ false → AmongNumbers y) → AmongNumbers (cond b x y)
cond_among true x y p q = p refl
cond_among false x y p q = q refl

none_among : (g : Grid) (c : ℕ) (ps : List ℕ) → is_number_char c ≡ true → AmongNumbers (option_map resting (perform c ps g))
none_among g c ps h =
    let a : eqb c 72 ≡ false = grind (arith, nat_tests, h) in
    let b : eqb c 109 ≡ false = grind (arith, nat_tests, h) in
    let d : eqb c 74 ≡ false = grind (arith, nat_tests, h) in
    let e : eqb c 75 ≡ false = grind (arith, nat_tests, h) in
    let none : perform c ps g ≡ None = rw (a, b, d, e) refl in
    subst AmongNumbers (sym (ap (option_map resting) none)) tt

end_among : (g : Grid) (ps : List ℕ) (now : Option ℕ) (c : ℕ) → is_number_char c ≡ true → AmongNumbers (end_number g ps now c)
end_among g [] None c h = none_among g c [] h
end_among g (p ∷ ps) None c h = tt
end_among g [] (Some n) c h = cond_among (eqb c 59) _ _ (λ e. (g, n ∷ [], None, refl)) (λ e. none_among g c (n ∷ []) h)
end_among g (p ∷ ps) (Some n) c h = cond_among (eqb c 59) _ _ (λ e. (g, (p ∷ ps) ++ n ∷ [], None, refl)) (λ e. none_among g c ((p ∷ ps) ++ n ∷ []) h)

feed_among : (g : Grid) (ps : List ℕ) (now : Option ℕ) (c : ℕ) → is_number_char c ≡ true → AmongNumbers (feed (numbers g ps now) c)
feed_among g ps now c h = cond_among (is_digit c) _ _ (λ e. mapped_among g ps (λ n. Some n) (with_digit now (c - 48))) (λ e. end_among g ps now c h)

-- no number erases
number_keeps : (g : Grid) (ps : List ℕ) (now : Option ℕ) (links : List (Option Link)) (link : Option Link) (c : ℕ) → is_number_char c ≡ true
    → next_links NoCommand (numbers g ps now) c link links ≡ links
number_keeps g ps now links link c h =
    let a : eqb c 74 ≡ false = grind (arith, nat_tests, h) in
    let b : eqb c 75 ≡ false = grind (arith, nat_tests, h) in
    rw (a, b) refl

onward : (rest : List ℕ) (links : List (Option Link)) (link : Option Link) (o : Option Reading) → AmongNumbers o
    → ((g : Grid) (ps : List ℕ) (now : Option ℕ) → link_feed_all rest (beside links link (numbers g ps now)) ≡ option_map (beside links link) (feed_all rest (numbers g ps now)))
    → option_and_then (link_feed_all rest) (option_map (beside links link) o) ≡ option_map (beside links link) (option_and_then (feed_all rest) o)
onward rest links link None h ih = refl
onward rest links link (Some r) (g, ps, now, e) ih =
    ap (λ (s : Reading). link_feed_all rest (beside links link s)) e
    ∙ ih g ps now
    ∙ ap (λ (s : Reading). option_map (beside links link) (feed_all rest s)) (sym e)

last_one : (links : List (Option Link)) (link : Option Link) (o : Option Reading) → option_and_then (link_feed_all []) (option_map (beside links link) o) ≡ option_map (beside links link) (option_and_then (feed_all []) o)
last_one links link None = refl
last_one links link (Some r) = refl

-- a letter that ends no erasure
pub record IsNoErasure (c : ℕ) : Type 0 where
  pub of_screen : eqb c 74 ≡ false
  pub of_row : eqb c 75 ≡ false

letter_keeps : (g : Grid) (ps : List ℕ) (now : Option ℕ) (links : List (Option Link)) (link : Option Link) (c : ℕ) → IsNoErasure c
    → next_links NoCommand (numbers g ps now) c link links ≡ links
letter_keeps g ps now links link c h =
    let a : eqb c 74 ≡ false = h.of_screen in
    let b : eqb c 75 ≡ false = h.of_row in
    rw (a, b) refl

quiet_numbers : (cs : List ℕ) (letter : ℕ) → IsNoErasure letter → NumberChars cs → (g : Grid) (ps : List ℕ) (now : Option ℕ) (links : List (Option Link)) (link : Option Link)
    → link_feed_all (cs ++ letter ∷ []) (beside links link (numbers g ps now)) ≡ option_map (beside links link) (feed_all (cs ++ letter ∷ []) (numbers g ps now))
quiet_numbers [] letter keeps are g ps now links link =
    ap (option_and_then (link_feed_all []))
    (one_feed (numbers g ps now) links link letter refl ∙ ap (λ (ls : List (Option Link)). option_map (beside ls link) (feed (numbers g ps now) letter)) (letter_keeps g ps now links link letter keeps))
    ∙ last_one links link (feed (numbers g ps now) letter)
quiet_numbers (c ∷ cs) letter keeps are g ps now links link =
    ap (option_and_then (link_feed_all (cs ++ letter ∷ [])))
    (one_feed (numbers g ps now) links link c refl ∙ ap (λ (ls : List (Option Link)). option_map (beside ls link) (feed (numbers g ps now) c)) (number_keeps g ps now links link c are.0))
    ∙ onward (cs ++ letter ∷ []) links link (feed (numbers g ps now) c) (feed_among g ps now c are.0) (λ h qs then. quiet_numbers cs letter keeps are.1 h qs then links link)

number_chars_both : (a b : List ℕ) → NumberChars a → NumberChars b → NumberChars (a ++ b)
number_chars_both [] b p q = q
number_chars_both (c ∷ a) b p q = (p.0, number_chars_both a b p.1 q)

decimal_chars : (n : ℕ) → n < 2 ^ 64 → NumberChars (decimal n)
decimal_chars n small =
    decimal_by_steps (λ n ds. NumberChars ds)
    (λ n h. (grind (arith, nat_tests), tt))
    (λ n ds some ih. number_chars_both ds ((48 + n % 10) ∷ []) ih (grind (arith, nat_tests), tt))
    n small

more_chars : (ns : List ℕ) → AreMachine ns → NumberChars (flat_map (λ m. 59 ∷ decimal m) ns)
more_chars [] small = tt
more_chars (n ∷ ns) small = number_chars_both (59 ∷ decimal n) (flat_map (λ m. 59 ∷ decimal m) ns) (refl, decimal_chars n small.0) (more_chars ns small.1)

numbers_chars : (ns : List ℕ) → AreMachine ns → NumberChars (numbers_bytes ns)
numbers_chars [] small = tt
numbers_chars (n ∷ ns) small = number_chars_both (decimal n) (flat_map (λ m. 59 ∷ decimal m) ns) (decimal_chars n small.0) (more_chars ns small.1)

-- an ESC takes no column
escape_columns : char_columns 27 ≡ 0
unfolding char_columns char_width
escape_columns = refl

-- an ESC begins a sequence, and leaves the links
pub escape_feeds : (g : Grid) (links : List (Option Link)) (link : Option Link) → link_feed (beside links link (resting g)) 27 ≡ Some (beside links link (record { grid = g; mode = Escape }))
escape_feeds g links link =
    ap (λ n. Some (beside (linked_cells links (row_start g + g.x) n link) link (record { grid = g; mode = Escape }))) escape_columns

-- a command that is no erasure leaves them
pub quiet_command : (ns : List ℕ) (letter : ℕ) → AreMachine ns → 64 ≤ letter → IsNoErasure letter → (g : Grid) → Quiet (command_bytes ns letter) g
quiet_command ns letter small low keeps g = record {
  same = λ links link.
      ap (option_and_then (link_feed_all (91 ∷ (numbers_bytes ns ++ letter ∷ [])))) (escape_feeds g links link)
      ∙ quiet_numbers (numbers_bytes ns) letter keeps (numbers_chars ns small) g [] None links link;
  rests = command_rests ns letter small low g;
}

-- a command that changes the pen, and a move
pub quiet_sgr : (ns : List ℕ) → AreMachine ns → (g : Grid) → Quiet (command_bytes ns 109) g
quiet_sgr ns small g = quiet_command ns 109 small (lit≤ tt) (record { of_screen = refl; of_row = refl }) g

-- so does a move
pub quiet_move : (x y : ℕ) → x + 1 < 2 ^ 64 → y + 1 < 2 ^ 64 → (g : Grid) → Quiet (move_to_bytes x y) g
quiet_move x y small_x small_y g = quiet_command ((y + 1) ∷ (x + 1) ∷ []) 72 (small_y, (small_x, tt)) (lit≤ tt) (record { of_screen = refl; of_row = refl }) g

-- ---- the commands of links

-- a screen's parts as they are read
abbrev commanded : Reading → List ℕ → List (Option Link) → Option Link → LinkReading
commanded r text links link = record { skipping = record { plain = r; mode = InCommand text }; links = links; current = link }

link_in_command : (cs text : List ℕ) (r : Reading) (links : List (Option Link)) (link : Option Link) → AreCommandChars cs
    → link_feed_all cs (commanded r text links link) ≡ Some (commanded r (text ++ cs) links link)
link_in_command [] text r links link are = ap (λ (t : List ℕ). Some (commanded r t links link)) (sym (append_none text))
  where
    append_none : (xs : List ℕ) → xs ++ [] ≡ xs
    append_none [] = refl
    append_none (x ∷ xs) = ap (λ l. x ∷ l) (append_none xs)
link_in_command (c ∷ cs) text r links link are =
    let some : Skipping Reading = record { plain = r; mode = InCommand (text ++ c ∷ []) } in
    ap (λ b. option_and_then (link_feed_all cs) (option_map (λ s. record { skipping = s; links = links; current = link }) (cond b (Some (record { plain = r; mode = AtItsEnd text })) (cond (is_command_char c) (Some some) None)))) (char_no_escape c are.0)
    ∙ ap (λ b. option_and_then (link_feed_all cs) (option_map (λ s. record { skipping = s; links = links; current = link }) (cond b (Some some) None))) are.0
    ∙ link_in_command cs (text ++ c ∷ []) r links link are.1
    ∙ ap (λ (t : List ℕ). Some (commanded r t links link)) (append_assoc text (c ∷ []) cs)

abbrev with_skipping : List (Option Link) → Option Link → Skipping Reading → LinkReading
with_skipping links link s = record { skipping = s; links = links; current = link }

-- a command opens its link, and changes nothing else
pub link_command_opens : (parameters address : List ℕ) → AreCommandChars (command_text parameters address) → NoSemicolon parameters → (g : Grid) (links : List (Option Link)) (link : Option Link)
    → LinkLeads (beside links link (resting g)) (link_command_bytes parameters address) (beside links (opened_at parameters address) (resting g))
unfolding LinkLeads
link_command_opens parameters address are none g links link =
    let text : List ℕ = command_text parameters address in
    ap (option_and_then (link_feed_all (93 ∷ (text ++ 27 ∷ 92 ∷ [])))) (escape_feeds g links link)
    ∙ link_feed_all-append text (27 ∷ 92 ∷ []) (commanded (resting g) [] links link)
    ∙ ap (option_and_then (link_feed_all (27 ∷ 92 ∷ []))) (link_in_command text [] (resting g) links link are)
    ∙ ap (λ (o : Option (List ℕ × List ℕ)). option_and_then (link_feed_all []) (option_map (with_skipping links (opened link o)) (option_map (λ _. passing (resting g)) o))) (command_is parameters address none)

-- ---- one after another

-- characters that lead on from where others lead
pub link_leads_both : (r s t : LinkReading) (a b : List ℕ) → LinkLeads r a s → LinkLeads s b t → LinkLeads r (a ++ b) t
unfolding LinkLeads
link_leads_both r s t a b p q = link_feed_all-append a b r ∙ ap (option_and_then (link_feed_all b)) p ∙ q

-- no characters lead nowhere else
pub link_leads_nothing : (r : LinkReading) → LinkLeads r [] r
unfolding LinkLeads
link_leads_nothing r = refl

-- what changes only the pen
pub quiet_leads : (cs : List ℕ) (g new : Grid) (links : List (Option Link)) (link : Option Link) → Quiet cs g → Leads (resting g) cs (resting new)
    → LinkLeads (beside links link (resting g)) cs (beside links link (resting new))
unfolding LinkLeads Leads
quiet_leads cs g new links link quiet leads = quiet.same links link ∙ ap (option_map (beside links link)) leads

-- a text gives its cells the open link
pub text_links : (cs : List ℕ) (g new : Grid) (links : List (Option Link)) (link : Option Link) → IsPrinted cs → Leads (resting g) cs (resting new)
    → LinkLeads (beside links link (resting g)) cs (beside (linked_cells links (row_start g + g.x) (sum_by char_columns cs) link) link (resting new))
unfolding LinkLeads Leads
text_links cs g new links link printed leads =
    let follows : Follows cs (sum_by char_columns cs) g links link = printed_follows cs printed g links link in
    follows.same ∙ ap (option_map (beside (linked_cells links (row_start g + g.x) (sum_by char_columns cs) link) link)) leads
