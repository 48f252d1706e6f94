-- What a terminal that passes over links makes of calm texts, and of the commands of links.
use Rattle.std.proofs.Common.{◌≡◌, ◌≢◌, ℕ, ◌+◌, ◌%◌, ◌^◌, ◌<◌, ◌≤◌, Bool, true, false, cond, eqb, List, [], ◌∷◌, ◌++◌, Option, Some, None, refl, ap, sym, ◌∙◌, subst, arith, append_assoc, IsUtf8, lit<}
use Rattle.std.specs.Prelude.{option_and_then, option_map, ◌&&◌, decimal}
use Rattle.std.specs.List.{AllByRecursion, flat_map}
use Rattle.std.specs.Str.{chars, IsAscii}
use Rattle.std.proofs.lemmas.Bool.Decides.{nat_tests}
use Rattle.std.proofs.lemmas.Fmt.{decimal_by_steps}
use Rattle.std.proofs.lemmas.Str.{chars-append, chars-nil, chars-IsAscii, IsUtf8-append, IsUtf8-nil, IsUtf8-from_ascii}
use Rattle.std.proofs.lemmas.Str.Ascii.{IsAscii-cons, IsAscii-nil}
use Rattle.mad_term.specs.Commands.{command_bytes, numbers_bytes}
use Rattle.mad_screen.proofs.AsciiCommands.{ascii_command, ascii_both}
use Rattle.mad_links.specs.SkippingTerminal.{InCommand, AtItsEnd, Reader, passing, is_command_char, cut_at, link_command, skip, skip_all, read_all}
use Rattle.mad_links.specs.LinkRows.{command_text, link_command_bytes}
use Rattle.mad_links.specs.LinkLaws.{IsCalm, calm_text, calm_command, calm_both, IsReader, IsWoven, woven_calm, woven_command, woven_both, PassesOverLinks}
use Rattle.mad_links.proofs.BesideLemmas.{skip_all-append, read_all-append}

-- ---- characters that are no ESC

-- what holds of a reading, if there is one
abbrev pub OfReading : {R : Type 0} → (R → Type 0) → Option R → Type 0
OfReading P None = Unit {0}
OfReading P (Some r) = P r

-- it isn't right behind an ESC
abbrev pub IsOpen : {R : Type 0} → Reader R → R → Type 0
IsOpen t r = t.at_escape r ≡ false

-- what characters do, to a terminal that passes over links as to itself, and what it is then
pub record Goes {R : Type 0} (t : Reader R) (P : R → Type 0) (cs : List ℕ) (r : R) : Type 0 where
  pub same : skip_all t cs (passing r) ≡ option_map passing (read_all t cs r)
  pub after : OfReading P (read_all t cs r)

-- from rest to rest
abbrev pub Agrees : {R : Type 0} → Reader R → (R → Type 0) → List ℕ → Type 0
Agrees t rests cs = (r : _) → rests r → Goes t rests cs r

of_feed : {R : Type 0} (P : R → Type 0) (o : Option R) → ((s : R) → o ≡ Some s → P s) → OfReading P o
of_feed P None h = tt
of_feed P (Some s) h = h s refl

-- a character is read as the terminal reads it
pub passes : {R : Type 0} (t : Reader R) (r : R) (c : ℕ) → t.at_escape r ≡ false → skip t (passing r) c ≡ option_map passing (t.feed r c)
passes t r c h = ap (λ e. cond (e && eqb c 93) (Some (record { plain = t.before_escape r; mode = InCommand [] })) (option_map passing (t.feed r c))) h

-- none is an ESC
abbrev pub NoEscape : List ℕ → Type 0
NoEscape cs = AllByRecursion (λ c. c ≢ 27) cs

goes_step : {R : Type 0} (t : Reader R) (P Q : R → Type 0) (cs : List ℕ) (o : Option R) → OfReading P o → ((s : R) → P s → Goes t Q cs s)
    → (option_and_then (skip_all t cs) (option_map passing o) ≡ option_map passing (option_and_then (read_all t cs) o)) × OfReading Q (option_and_then (read_all t cs) o)
goes_step t P Q cs None h ih = (refl, tt)
goes_step t P Q cs (Some s) h ih = ((ih s h).same, (ih s h).after)

-- characters of which none is an ESC
pub no_escape_goes : {R : Type 0} (t : Reader R) (rests : R → Type 0) (is : IsReader t rests) (cs : List ℕ) (r : R) → NoEscape cs → t.at_escape r ≡ false → Goes t (IsOpen t) cs r
no_escape_goes t rests is [] r none h = record { same = refl; after = h }
no_escape_goes t rests is (c ∷ cs) r none h =
    let step = goes_step t (IsOpen t) (IsOpen t) cs (t.feed r c) (of_feed (IsOpen t) (t.feed r c) (λ s e. is.going_on r s c h none.0 e)) (λ s k. no_escape_goes t rests is cs s none.1 k) in
    record { same = ap (option_and_then (skip_all t cs)) (passes t r c h) ∙ step.0; after = step.1 }

-- ---- one after another

-- characters, and others behind them
pub goes_both : {R : Type 0} (t : Reader R) (P Q : R → Type 0) (a b : List ℕ) (r : R) → Goes t P a r → ((s : R) → P s → Goes t Q b s) → Goes t Q (a ++ b) r
goes_both t P Q a b r p q =
    let step = goes_step t P Q b (read_all t a r) p.after q in
    record {
      same = skip_all-append t a b (passing r) ∙ ap (option_and_then (skip_all t b)) p.same ∙ step.0 ∙ ap (option_map passing) (sym (read_all-append t a b r));
      after = subst (OfReading Q) (sym (read_all-append t a b r)) step.1;
    }

-- so from rest to rest
pub agrees_both : {R : Type 0} (t : Reader R) (rests : R → Type 0) (a b : List ℕ) → Agrees t rests a → Agrees t rests b → Agrees t rests (a ++ b)
agrees_both t rests a b p q r h = goes_both t rests rests a b r (p r h) q

-- ---- texts

one_after : {R : Type 0} (t : Reader R) (P : R → Type 0) (o : Option R) → OfReading P o → OfReading P (option_and_then (read_all t []) o)
one_after t P None h = tt
one_after t P (Some s) h = h

one_same : {R : Type 0} (t : Reader R) (o : Option R) → option_and_then (skip_all t []) (option_map passing o) ≡ option_map passing (option_and_then (read_all t []) o)
one_same t None = refl
one_same t (Some s) = refl

-- one character from a reading that isn't right behind an ESC
one_goes : {R : Type 0} (t : Reader R) (P : R → Type 0) (r : R) (c : ℕ) → t.at_escape r ≡ false → ((s : R) → t.feed r c ≡ Some s → P s) → Goes t P (c ∷ []) r
one_goes t P r c h then = record {
  same = ap (option_and_then (skip_all t [])) (passes t r c h) ∙ one_same t (t.feed r c);
  after = one_after t P (t.feed r c) (of_feed P (t.feed r c) then);
}

-- a text without an ESC
pub text_agrees : {R : Type 0} (t : Reader R) (rests : R → Type 0) → IsReader t rests → (cs : List ℕ) → NoEscape cs → Agrees t rests cs
text_agrees t rests is [] none r h = record { same = refl; after = h }
text_agrees t rests is (c ∷ cs) none r h =
    goes_both t rests rests (c ∷ []) cs r (one_goes t rests r c (is.at_rest r h) (λ s e. is.character r s c h none.0 e)) (text_agrees t rests is cs none.1)

-- ---- commands

no_escape_both : (a b : List ℕ) → NoEscape a → NoEscape b → NoEscape (a ++ b)
no_escape_both [] b p q = q
no_escape_both (c ∷ a) b p q = (p.0, no_escape_both a b p.1 q)

-- a number of the machine has no ESC
pub decimal_no_escape : (n : ℕ) → n < 2 ^ 64 → NoEscape (decimal n)
decimal_no_escape n small =
    decimal_by_steps (λ n ds. NoEscape ds)
    (λ n h. (omega arith, tt))
    (λ n ds some ih. no_escape_both ds ((48 + n % 10) ∷ []) ih (omega arith, tt))
    n small

-- numbers of the machine
abbrev pub AreMachine : List ℕ → Type 0
AreMachine ns = AllByRecursion (λ n. n < 2 ^ 64) ns

after_no_escape : (ns : List ℕ) → AreMachine ns → NoEscape (flat_map (λ m. 59 ∷ decimal m) ns)
after_no_escape [] small = tt
after_no_escape (n ∷ ns) small = no_escape_both (59 ∷ decimal n) (flat_map (λ m. 59 ∷ decimal m) ns) (omega arith, decimal_no_escape n small.0) (after_no_escape ns small.1)

numbers_no_escape : (ns : List ℕ) → AreMachine ns → NoEscape (numbers_bytes ns)
numbers_no_escape [] small = tt
numbers_no_escape (n ∷ ns) small = no_escape_both (decimal n) (flat_map (λ m. 59 ∷ decimal m) ns) (decimal_no_escape n small.0) (after_no_escape ns small.1)

-- the bracket after an ESC
bracket_skips : {R : Type 0} (t : Reader R) (e s : R) → t.at_escape e ≡ true → t.feed e 91 ≡ Some s → skip t (passing e) 91 ≡ Some (passing s)
bracket_skips t e s h f = ap (λ k. cond (k && eqb 91 93) (Some (record { plain = t.before_escape e; mode = InCommand [] })) (option_map passing (t.feed e 91))) h ∙ ap (option_map passing) f

-- a command that ends in a letter
pub command_agrees : {R : Type 0} (t : Reader R) (rests : R → Type 0) → IsReader t rests → (ns : List ℕ) (letter : ℕ) → AreMachine ns → 64 ≤ letter → Agrees t rests (command_bytes ns letter)
command_agrees t rests is ns letter small low r h =
    let begun = is.escape r h in
    let goes_on = is.bracket r begun.0 h begun.1 in
    let text : List ℕ = numbers_bytes ns in
    let rest : List ℕ = text ++ letter ∷ [] in
    let numbers : Goes t (IsOpen t) text goes_on.0 = no_escape_goes t rests is text goes_on.0 (numbers_no_escape ns small) goes_on.2 in
    let all : Goes t rests rest goes_on.0 = goes_both t (IsOpen t) rests text (letter ∷ []) goes_on.0 numbers (λ s k. one_goes t rests s letter k (λ u e. is.letter s u letter k low e)) in
    let first : skip t (passing r) 27 ≡ Some (passing begun.0) = passes t r 27 (is.at_rest r h) ∙ ap (option_map passing) begun.1 in
    let read : read_all t (command_bytes ns letter) r ≡ read_all t rest goes_on.0 = ap (option_and_then (read_all t (91 ∷ rest))) begun.1 ∙ ap (option_and_then (read_all t rest)) goes_on.1 in
    record {
      same = ap (option_and_then (skip_all t (91 ∷ rest))) first ∙ ap (option_and_then (skip_all t rest)) (bracket_skips t begun.0 goes_on.0 begun.2 goes_on.1) ∙ all.same ∙ ap (option_map passing) (sym read);
      after = subst (OfReading rests) (sym read) all.after;
    }

-- ---- commands of links

-- each may be in a command
abbrev pub AreCommandChars : List ℕ → Type 0
AreCommandChars cs = AllByRecursion (λ c. is_command_char c ≡ true) cs

-- what may be in the command of a link is no ESC
pub char_no_escape : (c : ℕ) → is_command_char c ≡ true → eqb c 27 ≡ false
char_no_escape c h = grind (arith, nat_tests, h)

append_none : {A : Type 0} (xs : List A) → xs ++ [] ≡ xs
append_none [] = refl
append_none (x ∷ xs) = ap (λ l. x ∷ l) (append_none xs)

in_command : {R : Type 0} (t : Reader R) (cs text : List ℕ) (r : R) → AreCommandChars cs → skip_all t cs (record { plain = r; mode = InCommand text }) ≡ Some (record { plain = r; mode = InCommand (text ++ cs) })
in_command t [] text r are = ap (λ (x : List ℕ). Some (record { plain = r; mode = InCommand x })) (sym (append_none text))
in_command t (c ∷ cs) text r are =
    ap (λ b. option_and_then (skip_all t cs) (cond b (Some (record { plain = r; mode = AtItsEnd text })) (cond (is_command_char c) (Some (record { plain = r; mode = InCommand (text ++ c ∷ []) })) None))) (char_no_escape c are.0)
    ∙ ap (λ b. option_and_then (skip_all t cs) (cond b (Some (record { plain = r; mode = InCommand (text ++ c ∷ []) })) None)) are.0
    ∙ in_command t cs (text ++ c ∷ []) r are.1
    ∙ ap (λ (x : List ℕ). Some (record { plain = r; mode = InCommand x })) (append_assoc text (c ∷ []) cs)

-- none is a semicolon
abbrev pub NoSemicolon : List ℕ → Type 0
NoSemicolon cs = AllByRecursion (λ c. c ≢ 59) cs

-- a text is cut at the first of such characters
pub cut_there : (code : ℕ) (front rest : List ℕ) → AllByRecursion (λ c. c ≢ code) front → cut_at code (front ++ code ∷ rest) ≡ Some (front, rest)
cut_there code [] rest none =
    let here : eqb code code ≡ true = grind (arith, nat_tests) in
    ap (λ (b : Bool). cond b (Some ([], rest)) (option_map (λ (p : List ℕ × List ℕ). (code ∷ p.0, p.1)) (cut_at code rest))) here
cut_there code (c ∷ cs) rest none =
    let other : c ≢ code = none.0 in
    let not_here : eqb c code ≡ false = grind (arith, nat_tests) in
    ap (λ (b : Bool). cond b (Some ([], cs ++ code ∷ rest)) (option_map (λ (p : List ℕ × List ℕ). (c ∷ p.0, p.1)) (cut_at code (cs ++ code ∷ rest)))) not_here
    ∙ ap (option_map (λ (p : List ℕ × List ℕ). (c ∷ p.0, p.1))) (cut_there code cs rest none.1)

-- the parameters and the address of a command are read as they were written
pub command_is : (parameters address : List ℕ) → NoSemicolon parameters → link_command (command_text parameters address) ≡ Some (parameters, address)
command_is parameters address none = cut_there 59 parameters address none

-- the bracket that begins it
begins : {R : Type 0} (t : Reader R) (e r : R) → t.at_escape e ≡ true → t.before_escape e ≡ r → skip t (passing e) 93 ≡ Some (record { plain = r; mode = InCommand [] })
begins t e r h f =
    ap (λ k. cond (k && eqb 93 93) (Some (record { plain = t.before_escape e; mode = InCommand [] })) (option_map passing (t.feed e 93))) h
    ∙ ap (λ (s : _). Some (record { plain = s; mode = InCommand [] })) f

-- the command of a link is passed over
pub link_command_skipped : {R : Type 0} (t : Reader R) (rests : R → Type 0) → IsReader t rests → (parameters address : List ℕ) → AreCommandChars (command_text parameters address) → NoSemicolon parameters → (r : R) → rests r
    → skip_all t (link_command_bytes parameters address) (passing r) ≡ Some (passing r)
link_command_skipped t rests is parameters address are none r h =
    let begun = is.escape r h in
    let text : List ℕ = command_text parameters address in
    let first : skip t (passing r) 27 ≡ Some (passing begun.0) = passes t r 27 (is.at_rest r h) ∙ ap (option_map passing) begun.1 in
    ap (option_and_then (skip_all t (93 ∷ (text ++ 27 ∷ 92 ∷ [])))) first
    ∙ ap (option_and_then (skip_all t (text ++ 27 ∷ 92 ∷ []))) (begins t begun.0 r begun.2 begun.3)
    ∙ skip_all-append t text (27 ∷ 92 ∷ []) (record { plain = r; mode = InCommand [] })
    ∙ ap (option_and_then (skip_all t (27 ∷ 92 ∷ []))) (in_command t text [] r are)
    ∙ ap (λ o. option_and_then (skip_all t []) (option_map (λ _. passing r) o)) (command_is parameters address none)

small_char : (c : ℕ) → is_command_char c ≡ true → c < 128
small_char c h = grind (arith, nat_tests, h)

ascii_chars : (cs : List ℕ) → AreCommandChars cs → IsAscii cs
ascii_chars [] are = IsAscii-nil
ascii_chars (c ∷ cs) are = IsAscii-cons c cs (small_char c are.0) (ascii_chars cs are.1)

-- it is of ASCII
pub ascii_link_command : (parameters address : List ℕ) → AreCommandChars (command_text parameters address) → IsAscii (link_command_bytes parameters address)
ascii_link_command parameters address are =
    let text : List ℕ = command_text parameters address in
    IsAscii-cons 27 (93 ∷ (text ++ 27 ∷ 92 ∷ [])) (lit< tt) (IsAscii-cons 93 (text ++ 27 ∷ 92 ∷ []) (lit< tt)
    (ascii_both text (27 ∷ 92 ∷ []) (ascii_chars text are) (IsAscii-cons 27 (92 ∷ []) (lit< tt) (IsAscii-cons 92 [] (lit< tt) IsAscii-nil))))

-- ---- the two texts

-- both are texts
pub record AreTexts (linked plain : List ℕ) : Type 0 where
  pub first : IsUtf8 linked
  pub second : IsUtf8 plain

calm_utf8 : (t : List ℕ) → IsCalm t → IsUtf8 t
calm_utf8 t (calm_text t' text none) = text
calm_utf8 t (calm_command t' ns letter small low high e) = subst IsUtf8 (sym e) (IsUtf8-from_ascii (command_bytes ns letter) (ascii_command ns letter small high))
calm_utf8 t (calm_both t' a b p q e) = subst IsUtf8 (sym e) (IsUtf8-append a b (calm_utf8 a p) (calm_utf8 b q))

-- woven bytes are texts, where those between them are
pub woven_texts : (linked plain : List ℕ) → IsWoven linked plain → AreTexts linked plain
woven_texts linked plain (woven_calm t calm) = record { first = calm_utf8 t calm; second = calm_utf8 t calm }
woven_texts linked plain (woven_command t parameters address are none e) = record {
  first = subst IsUtf8 (sym e) (IsUtf8-from_ascii (link_command_bytes parameters address) (ascii_link_command parameters address are));
  second = IsUtf8-nil;
}
woven_texts linked plain (woven_both s t a b c d p q e f) =
    let first = woven_texts a c p in
    let second = woven_texts b d q in
    record {
      first = subst IsUtf8 (sym e) (IsUtf8-append a b first.first second.first);
      second = subst IsUtf8 (sym f) (IsUtf8-append c d first.second second.second);
    }

calm_agrees : {R : Type 0} (t : Reader R) (rests : R → Type 0) → IsReader t rests → (x : List ℕ) → IsCalm x → Agrees t rests (chars x)
calm_agrees t rests is x (calm_text x' text none) = text_agrees t rests is (chars x) none
calm_agrees t rests is x (calm_command x' ns letter small low high e) =
    let bytes : List ℕ = command_bytes ns letter in
    subst (λ (y : List ℕ). Agrees t rests (chars y)) (sym e)
    (subst (λ (y : List ℕ). Agrees t rests y) (sym (chars-IsAscii bytes (ascii_command ns letter small high))) (command_agrees t rests is ns letter small low))
calm_agrees t rests is x (calm_both x' a b p q e) =
    subst (λ (y : List ℕ). Agrees t rests (chars y)) (sym e)
    (subst (λ (y : List ℕ). Agrees t rests y) (sym (chars-append a b (calm_utf8 a p))) (agrees_both t rests (chars a) (chars b) (calm_agrees t rests is a p) (calm_agrees t rests is b q)))

-- what the two do
pub record Weaves {R : Type 0} (t : Reader R) (rests : R → Type 0) (linked plain : List ℕ) (r : R) : Type 0 where
  pub same : skip_all t linked (passing r) ≡ option_map passing (read_all t plain r)
  pub after : OfReading rests (read_all t plain r)

weave_step : {R : Type 0} (t : Reader R) (rests : R → Type 0) (b d : List ℕ) (o : Option R) → OfReading rests o → ((s : R) → rests s → Weaves t rests b d s)
    → (option_and_then (skip_all t b) (option_map passing o) ≡ option_map passing (option_and_then (read_all t d) o)) × OfReading rests (option_and_then (read_all t d) o)
weave_step t rests b d None h w = (refl, tt)
weave_step t rests b d (Some s) h w = ((w s h).same, (w s h).after)

weaves_both : {R : Type 0} (t : Reader R) (rests : R → Type 0) (a b c d : List ℕ) (r : R) → Weaves t rests a c r → ((s : R) → rests s → Weaves t rests b d s) → Weaves t rests (a ++ b) (c ++ d) r
weaves_both t rests a b c d r v w =
    let step = weave_step t rests b d (read_all t c r) v.after w in
    record {
      same = skip_all-append t a b (passing r) ∙ ap (option_and_then (skip_all t b)) v.same ∙ step.0 ∙ ap (option_map passing) (sym (read_all-append t c d r));
      after = subst (OfReading rests) (sym (read_all-append t c d r)) step.1;
    }

-- a reader ends as it does without the commands of links, at rest again
pub weaves : {R : Type 0} (t : Reader R) (rests : R → Type 0) → IsReader t rests → (linked plain : List ℕ) → IsWoven linked plain → (r : R) → rests r → Weaves t rests (chars linked) (chars plain) r
weaves t rests is linked plain (woven_calm x calm) r h =
    let goes = calm_agrees t rests is x calm r h in
    record { same = goes.same; after = goes.after }
weaves t rests is linked plain (woven_command x parameters address are none e) r h =
    let bytes : List ℕ = link_command_bytes parameters address in
    subst (λ (y : List ℕ). Weaves t rests y (chars []) r) (sym (ap chars e ∙ chars-IsAscii bytes (ascii_link_command parameters address are)))
    (subst (λ (y : List ℕ). Weaves t rests bytes y r) (sym chars-nil) (record { same = link_command_skipped t rests is parameters address are none r h; after = h }))
weaves t rests is linked plain (woven_both s x a b c d p q e f) r h =
    let first = woven_texts a c p in
    subst (λ (y : List ℕ). Weaves t rests y (chars x) r) (sym (ap chars e ∙ chars-append a b first.first))
    (subst (λ (y : List ℕ). Weaves t rests (chars a ++ chars b) y r) (sym (ap chars f ∙ chars-append c d first.second))
    (weaves_both t rests (chars a) (chars b) (chars c) (chars d) r (weaves t rests is a c p r h) (λ s k. weaves t rests is b d q s k)))

-- any terminal that is a reader passes over links
pub passes_over_links : {R : Type 0} (t : Reader R) (rests : R → Type 0) → IsReader t rests → PassesOverLinks t rests
passes_over_links t rests is linked plain woven r h = (weaves t rests is linked plain woven r h).same
