-- The plain terminal is a reader.
use Rattle.std.proofs.Common.{◌≡◌, ◌≢◌, ℕ, ◌-◌, ◌≤◌, Bool, true, false, cond, eqb, List, [], ◌∷◌, ◌++◌, Option, Some, None, refl, ap, sym, ◌∙◌, subst, arith}
use Rattle.std.specs.Prelude.{option_and_then, option_map, IsSome}
use Rattle.std.specs.Str.{chars}
use Rattle.std.proofs.lemmas.Bool.{false≢true}
use Rattle.std.proofs.lemmas.Bool.Decides.{nat_tests}
use Rattle.std.proofs.lemmas.Str.{is_utf8-from_IsUtf8}
use Rattle.unicode_width.specs.Width.{char_width}
use Rattle.mad_term.specs.Commands.{command_bytes}
use Rattle.mad_screen.specs.Grid.{Grid}
use Rattle.mad_screen.specs.Terminal.{Mode, Outside, Escape, Numbers, Reading, feed, feed_all, resting, numbers, settled, after_bytes, put, perform, with_digit, end_number, is_digit}
use Rattle.mad_screen.specs.Painting.{IsPrinted}
use Rattle.mad_links.specs.SkippingTerminal.{after_escape, after_skipping, passing, plain_reader, read_all, skip_all, skipped}
use Rattle.mad_links.specs.LinkLaws.{IsReader, IsWoven}
use Rattle.mad_links.proofs.CalmLemmas.{AreMachine, AreTexts, Goes, NoEscape, OfReading, command_agrees, passes_over_links, woven_texts}

-- outside every sequence
abbrev pub PlainRests : Reading → Type 0
PlainRests r = r.mode ≡ Outside

abbrev IsPlainOpen : Reading → Type 0
IsPlainOpen r = after_escape r.mode ≡ false

-- what holds of a reading that there is
pub of_some : {R : Type 0} (P : R → Type 0) (o : Option R) (s : R) → OfReading P o → o ≡ Some s → P s
of_some P o s h e = subst (OfReading P) e h

-- what holds of each that can be made holds of the one that is made
pub mapped : {A R : Type 0} (P : R → Type 0) (f : A → R) → ((a : A) → P (f a)) → (o : Option A) → OfReading P (option_map f o)
mapped P f h None = tt
mapped P f h (Some a) = h a

-- what holds of both holds of the one that is chosen
pub either : {R : Type 0} (P : R → Type 0) (b : Bool) (x y : Option R) → OfReading P x → OfReading P y → OfReading P (cond b x y)
either P true x y p q = p
either P false x y p q = q

-- a test tells another character from this one
pub other : (c d : ℕ) → c ≢ d → eqb c d ≡ false
other c d h = grind (arith, nat_tests, h)

-- a character that is no ESC, outside a sequence
shown_rests : (g : Grid) (c : ℕ) → eqb c 27 ≡ false → OfReading PlainRests (feed (resting g) c)
shown_rests g c e =
    subst (λ b. OfReading PlainRests (cond b (Some (record { grid = g; mode = Escape })) (option_map resting (put g c)))) (sym e) (mapped PlainRests resting (λ h. refl) (put g c))

end_open : (g : Grid) (ps : List ℕ) (now : Option ℕ) (c : ℕ) → OfReading IsPlainOpen (end_number g ps now c)
end_open g [] None c = mapped IsPlainOpen resting (λ h. refl) (perform c [] g)
end_open g (p ∷ ps) None c = tt
end_open g [] (Some n) c = either IsPlainOpen (eqb c 59) _ _ refl (mapped IsPlainOpen resting (λ h. refl) (perform c (n ∷ []) g))
end_open g (p ∷ ps) (Some n) c = either IsPlainOpen (eqb c 59) _ _ refl (mapped IsPlainOpen resting (λ h. refl) (perform c ((p ∷ ps) ++ n ∷ []) g))

rests_open : (o : Option Reading) → OfReading PlainRests o → OfReading IsPlainOpen o
rests_open None h = tt
rests_open (Some r) h = ap after_escape h

feed_open : (m : Mode) (g : Grid) (c : ℕ) → after_escape m ≡ false → eqb c 27 ≡ false → OfReading IsPlainOpen (feed (record { grid = g; mode = m }) c)
feed_open Outside g c h e = rests_open (feed (resting g) c) (shown_rests g c e)
feed_open Escape g c h e = absurd (false≢true (sym h))
feed_open (Numbers ps now) g c h e =
    either IsPlainOpen (is_digit c) _ _ (mapped IsPlainOpen (λ n. numbers g ps (Some n)) (λ n. refl) (with_digit now (c - 48))) (end_open g ps now c)

end_rests : (g : Grid) (ps : List ℕ) (now : Option ℕ) (c : ℕ) → eqb c 59 ≡ false → OfReading PlainRests (end_number g ps now c)
end_rests g [] None c e = mapped PlainRests resting (λ k. refl) (perform c [] g)
end_rests g (p ∷ ps) None c e = tt
end_rests g [] (Some n) c e = subst (λ b. OfReading PlainRests (cond b (Some (numbers g (n ∷ []) None)) (option_map resting (perform c (n ∷ []) g)))) (sym e) (mapped PlainRests resting (λ k. refl) (perform c (n ∷ []) g))
end_rests g (p ∷ ps) (Some n) c e = subst (λ b. OfReading PlainRests (cond b (Some (numbers g ((p ∷ ps) ++ n ∷ []) None)) (option_map resting (perform c ((p ∷ ps) ++ n ∷ []) g)))) (sym e) (mapped PlainRests resting (λ k. refl) (perform c ((p ∷ ps) ++ n ∷ []) g))

-- a letter ends a sequence
letter_rests : (m : Mode) (g : Grid) (c : ℕ) → 64 ≤ c → after_escape m ≡ false → OfReading PlainRests (feed (record { grid = g; mode = m }) c)
letter_rests Outside g c low h = shown_rests g c (grind (arith, nat_tests))
letter_rests Escape g c low h = absurd (false≢true (sym h))
letter_rests (Numbers ps now) g c low h =
    let no_digit : is_digit c ≡ false = grind (arith, nat_tests) in
    let no_separator : eqb c 59 ≡ false = grind (arith, nat_tests) in
    subst (λ b. OfReading PlainRests (cond b (option_map (λ n. numbers g ps (Some n)) (with_digit now (c - 48))) (end_number g ps now c))) (sym no_digit) (end_rests g ps now c no_separator)

-- it is its screen, outside every sequence
pub rest_is : (r : Reading) → PlainRests r → r ≡ resting r.grid
rest_is r h = ap (λ (m : Mode). record { grid = r.grid; mode = m }) h

escape_begins : (r : Reading) → PlainRests r → (e : Reading) × (feed r 27 ≡ Some e) × (after_escape e.mode ≡ true) × (resting e.grid ≡ r)
escape_begins r h = (record { grid = r.grid; mode = Escape }, ap (λ (s : Reading). feed s 27) (rest_is r h), refl, sym (rest_is r h))

-- where there are two that are the same, they have the same
pub some_same : {A : Type 0} (x y : A) → Some x ≡ Some y → x ≡ y
some_same x y k = cc

bracket_goes_on : (r e : Reading) → PlainRests r → feed r 27 ≡ Some e → (s : Reading) × (feed e 91 ≡ Some s) × (after_escape s.mode ≡ false)
bracket_goes_on r e h f =
    let is : record { grid = r.grid; mode = Escape } ≡ e = some_same (record { grid = r.grid; mode = Escape }) e (sym (ap (λ (s : Reading). feed s 27) (rest_is r h)) ∙ f) in
    (numbers r.grid [] None, ap (λ (s : Reading). feed s 91) (sym is), refl)

-- the plain terminal is a reader
pub plain_is_reader : IsReader plain_reader PlainRests
plain_is_reader = record {
  at_rest = λ r h. ap after_escape h;
  character = λ r s c h none e. of_some PlainRests (feed (resting r.grid) c) s (shown_rests r.grid c (other c 27 none)) (ap (λ (x : Reading). feed x c) (sym (rest_is r h)) ∙ e);
  letter = λ r s c h low e. of_some PlainRests (feed r c) s (letter_rests r.mode r.grid c low h) e;
  going_on = λ r s c h none e. of_some IsPlainOpen (feed r c) s (feed_open r.mode r.grid c h (other c 27 none)) e;
  escape = escape_begins;
  bracket = bracket_goes_on;
}

-- ---- printed texts

no_escape : char_width false 27 ≡ None
unfolding char_width
no_escape = refl

not_escape : (c : ℕ) (b : Bool) → eqb c 27 ≡ b → IsSome (char_width false c) → eqb c 27 ≡ false
not_escape c false e some = e
not_escape c true e some =
    let same : c ≡ 27 = grind (arith, nat_tests) in
    absurd (false≢true (subst (λ (o : Option ℕ). IsSome o) (ap (char_width false) same ∙ no_escape) some))

-- a character that is shown is no ESC
pub printed_not_escape : (c : ℕ) → IsSome (char_width false c) → eqb c 27 ≡ false
printed_not_escape c some = not_escape c (eqb c 27) refl some

printed_other : (c : ℕ) → IsSome (char_width false c) → c ≢ 27
printed_other c some = let e : eqb c 27 ≡ false = printed_not_escape c some in grind (arith, nat_tests, e)

-- a text that is shown has none
pub printed_no_escape : (cs : List ℕ) → IsPrinted cs → NoEscape cs
printed_no_escape [] printed = tt
printed_no_escape (c ∷ cs) printed = (printed_other c printed.0, printed_no_escape cs printed.1)

-- ---- screens

read_each : (cs : List ℕ) (o : Option Reading) → ((s : Reading) → read_all plain_reader cs s ≡ feed_all cs s) → option_and_then (read_all plain_reader cs) o ≡ option_and_then (feed_all cs) o
read_each cs None h = refl
read_each cs (Some s) h = h s

-- as a reader it reads what it reads by itself
pub read_is_fed : (cs : List ℕ) (r : Reading) → read_all plain_reader cs r ≡ feed_all cs r
read_is_fed [] r = refl
read_is_fed (c ∷ cs) r = read_each cs (feed r c) (λ s. read_is_fed cs s)

settled_same : (o : Option Reading) → option_and_then skipped (option_map passing o) ≡ option_and_then settled o
settled_same None = refl
settled_same (Some r) = refl

-- THE LAW: passing over links it shows what it does without them
pub shows_the_same : (linked plain : List ℕ) → IsWoven linked plain → (g : Grid) → after_skipping g linked ≡ after_bytes g plain
unfolding after_skipping after_bytes
shows_the_same linked plain woven g =
    let texts : AreTexts linked plain = woven_texts linked plain woven in
    ap (λ b. cond b (option_and_then skipped (skip_all plain_reader (chars linked) (passing (resting g)))) None) (is_utf8-from_IsUtf8 linked texts.first)
    ∙ ap (option_and_then skipped) (passes_over_links plain_reader PlainRests plain_is_reader linked plain woven (resting g) refl ∙ ap (option_map passing) (read_is_fed (chars plain) (resting g)))
    ∙ settled_same (feed_all (chars plain) (resting g))
    ∙ sym (ap (λ b. cond b (option_and_then settled (feed_all (chars plain) (resting g))) None) (is_utf8-from_IsUtf8 plain texts.second))

-- a command leaves it at rest, if it can read it
abbrev pub Rests : Option Reading → Type 0
Rests = OfReading PlainRests

-- a command that ends in a letter leaves it at rest
pub command_rests : (ns : List ℕ) (letter : ℕ) → AreMachine ns → 64 ≤ letter → (g : Grid) → Rests (feed_all (command_bytes ns letter) (resting g))
command_rests ns letter small low g =
    let goes : Goes plain_reader PlainRests (command_bytes ns letter) (resting g) = command_agrees plain_reader PlainRests plain_is_reader ns letter small low (resting g) refl in
    subst Rests (read_is_fed (command_bytes ns letter) (resting g)) goes.after
