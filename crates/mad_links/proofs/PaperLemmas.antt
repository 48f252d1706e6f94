-- The terminal that scrolls is a reader.
use Rattle.std.proofs.Common.{◌≡◌, ◌≢◌, ℕ, ◌-◌, ◌≤◌, ◌↔◌, Bool, true, false, cond, eqb, List, [], ◌∷◌, ◌++◌, Option, Some, None, refl, ap, sym, ◌∙◌, subst, arith}
use Rattle.std.specs.Prelude.{option_and_then, option_map, ◌||◌, ◌&&◌}
use Rattle.std.specs.Str.{chars}
use Rattle.std.proofs.lemmas.Bool.{false≢true}
use Rattle.std.proofs.lemmas.Bool.Decides.{nat_tests}
use Rattle.mad_screen.specs.Terminal.{Outside, Escape, Numbers, is_digit, with_digit}
use Rattle.mad_live.specs.Papers.{Paper, PaperMode, PaperReading, Plain, Switching, Reads, at_rest, end_number_on, feed_on, perform_on, put_on, read_on, switch_on}
use Rattle.mad_links.specs.LinkLaws.{IsReader, IsWoven}
use Rattle.mad_links.specs.SkippingTerminal.{Skipping, passing, read_all, skip_all}
use Rattle.mad_links.proofs.CalmLemmas.{AreTexts, OfReading, passes_over_links, woven_texts}
use Rattle.mad_links.proofs.PlainLemmas.{either, mapped, of_some, other}
use Rattle.mad_links.specs.LinkPapers.{ReadsSkipping, begins_command, paper_reader}

-- outside every sequence
abbrev PaperRests : PaperReading → Type 0
PaperRests r = r.mode ≡ Plain Outside

abbrev IsPaperOpen : PaperReading → Type 0
IsPaperOpen r = begins_command r.mode ≡ false

abbrev among : Paper → List ℕ → Option ℕ → PaperReading
among p ps now = record { paper = p; mode = Plain (Numbers ps now) }

abbrev switching : Paper → Option ℕ → PaperReading
switching p now = record { paper = p; mode = Switching now }

shown_rests : (p : Paper) (c : ℕ) → eqb c 27 ≡ false → OfReading PaperRests (feed_on (Plain Outside) p c)
shown_rests p c e =
    subst (λ b. OfReading PaperRests (cond b (Some (record { paper = p; mode = Plain Escape })) (option_map at_rest (put_on c p)))) (sym e) (mapped PaperRests at_rest (λ h. refl) (put_on c p))

end_open : (p : Paper) (ps : List ℕ) (now : Option ℕ) (c : ℕ) → OfReading IsPaperOpen (end_number_on p ps now c)
end_open p [] None c = either IsPaperOpen (eqb c 63) _ _ refl (mapped IsPaperOpen at_rest (λ h. refl) (perform_on c [] p))
end_open p (n ∷ ns) None c = tt
end_open p [] (Some n) c = either IsPaperOpen (eqb c 59) _ _ refl (mapped IsPaperOpen at_rest (λ h. refl) (perform_on c (n ∷ []) p))
end_open p (m ∷ ms) (Some n) c = either IsPaperOpen (eqb c 59) _ _ refl (mapped IsPaperOpen at_rest (λ h. refl) (perform_on c ((m ∷ ms) ++ n ∷ []) p))

rests_open : (o : Option PaperReading) → OfReading PaperRests o → OfReading IsPaperOpen o
rests_open None h = tt
rests_open (Some r) h = ap begins_command h

switch_open : (p : Paper) (now : Option ℕ) (c : ℕ) → OfReading PaperRests (switch_on p now c)
switch_open p None c = tt
switch_open p (Some n) c = either PaperRests ((eqb c 104 || eqb c 108) && eqb n 7) _ _ refl tt

feed_open : (m : PaperMode) (p : Paper) (c : ℕ) → begins_command m ≡ false → eqb c 27 ≡ false → OfReading IsPaperOpen (feed_on m p c)
feed_open (Plain Outside) p c h e = rests_open (feed_on (Plain Outside) p c) (shown_rests p c e)
feed_open (Plain Escape) p c h e = absurd (false≢true (sym h))
feed_open (Plain (Numbers ps now)) p c h e =
    either IsPaperOpen (is_digit c) _ _ (mapped IsPaperOpen (λ n. among p ps (Some n)) (λ n. refl) (with_digit now (c - 48))) (end_open p ps now c)
feed_open (Switching now) p c h e =
    either IsPaperOpen (is_digit c) _ _ (mapped IsPaperOpen (λ n. switching p (Some n)) (λ n. refl) (with_digit now (c - 48))) (rests_open (switch_on p now c) (switch_open p now c))

end_rests : (p : Paper) (ps : List ℕ) (now : Option ℕ) (c : ℕ) → eqb c 59 ≡ false → eqb c 63 ≡ false → OfReading PaperRests (end_number_on p ps now c)
end_rests p [] None c e q = subst (λ b. OfReading PaperRests (cond b (Some (switching p None)) (option_map at_rest (perform_on c [] p)))) (sym q) (mapped PaperRests at_rest (λ k. refl) (perform_on c [] p))
end_rests p (n ∷ ns) None c e q = tt
end_rests p [] (Some n) c e q = subst (λ b. OfReading PaperRests (cond b (Some (among p (n ∷ []) None)) (option_map at_rest (perform_on c (n ∷ []) p)))) (sym e) (mapped PaperRests at_rest (λ k. refl) (perform_on c (n ∷ []) p))
end_rests p (m ∷ ms) (Some n) c e q = subst (λ b. OfReading PaperRests (cond b (Some (among p ((m ∷ ms) ++ n ∷ []) None)) (option_map at_rest (perform_on c ((m ∷ ms) ++ n ∷ []) p)))) (sym e) (mapped PaperRests at_rest (λ k. refl) (perform_on c ((m ∷ ms) ++ n ∷ []) p))

letter_rests : (m : PaperMode) (p : Paper) (c : ℕ) → 64 ≤ c → begins_command m ≡ false → OfReading PaperRests (feed_on m p c)
letter_rests (Plain Outside) p c low h = shown_rests p c (grind (arith, nat_tests))
letter_rests (Plain Escape) p c low h = absurd (false≢true (sym h))
letter_rests (Plain (Numbers ps now)) p c low h =
    let no_digit : is_digit c ≡ false = grind (arith, nat_tests) in
    let no_separator : eqb c 59 ≡ false = grind (arith, nat_tests) in
    let no_question : eqb c 63 ≡ false = grind (arith, nat_tests) in
    subst (λ b. OfReading PaperRests (cond b (option_map (λ n. among p ps (Some n)) (with_digit now (c - 48))) (end_number_on p ps now c))) (sym no_digit) (end_rests p ps now c no_separator no_question)
letter_rests (Switching now) p c low h =
    let no_digit : is_digit c ≡ false = grind (arith, nat_tests) in
    subst (λ b. OfReading PaperRests (cond b (option_map (λ n. switching p (Some n)) (with_digit now (c - 48))) (switch_on p now c))) (sym no_digit) (switch_open p now c)

rest_is : (r : PaperReading) → PaperRests r → r ≡ at_rest r.paper
rest_is r h = ap (λ (m : PaperMode). record { paper = r.paper; mode = m }) h

abbrev fed : PaperReading → ℕ → Option PaperReading
fed r c = feed_on r.mode r.paper c

escape_begins : (r : PaperReading) → PaperRests r → (e : PaperReading) × (fed r 27 ≡ Some e) × (begins_command e.mode ≡ true) × (at_rest e.paper ≡ r)
escape_begins r h = (record { paper = r.paper; mode = Plain Escape }, ap (λ (s : PaperReading). fed s 27) (rest_is r h), refl, sym (rest_is r h))

some_same : {A : Type 0} (x y : A) → Some x ≡ Some y → x ≡ y
some_same x y k = cc

bracket_goes_on : (r e : PaperReading) → PaperRests r → fed r 27 ≡ Some e → (s : PaperReading) × (fed e 91 ≡ Some s) × (begins_command s.mode ≡ false)
bracket_goes_on r e h f =
    let is : record { paper = r.paper; mode = Plain Escape } ≡ e = some_same (record { paper = r.paper; mode = Plain Escape }) e (sym (ap (λ (s : PaperReading). fed s 27) (rest_is r h)) ∙ f) in
    (among r.paper [] None, ap (λ (s : PaperReading). fed s 91) (sym is), refl)

paper_is_reader : IsReader paper_reader PaperRests
paper_is_reader = record {
  at_rest = λ r h. ap begins_command h;
  character = λ r s c h none e. of_some PaperRests (feed_on (Plain Outside) r.paper c) s (shown_rests r.paper c (other c 27 none)) (ap (λ (x : PaperReading). fed x c) (sym (rest_is r h)) ∙ e);
  letter = λ r s c h low e. of_some PaperRests (fed r c) s (letter_rests r.mode r.paper c low h) e;
  going_on = λ r s c h none e. of_some IsPaperOpen (fed r c) s (feed_open r.mode r.paper c h (other c 27 none)) e;
  escape = escape_begins;
  bracket = bracket_goes_on;
}

-- ---- texts

read_each : (cs : List ℕ) (o : Option PaperReading) → ((s : PaperReading) → read_all paper_reader cs s ≡ read_on cs s) → option_and_then (read_all paper_reader cs) o ≡ option_and_then (read_on cs) o
read_each cs None h = refl
read_each cs (Some s) h = h s

read_is_on : (cs : List ℕ) (r : PaperReading) → read_all paper_reader cs r ≡ read_on cs r
read_is_on [] r = refl
read_is_on (c ∷ cs) r = read_each cs (fed r c) (λ s. read_is_on cs s)

passed_is : (o : Option PaperReading) (r : PaperReading) → option_map passing o ≡ Some (passing r) → o ≡ Some r
passed_is None r h = absurd (clash h)
  where
    clash : {A : Type 0} {a : A} → None ≡ Some a → ⊥
    clash e = cc
passed_is (Some s) r h = ap Some (ap (λ (x : Skipping PaperReading). x.plain) (some_same (passing s) (passing r) h))

-- THE LAW: a terminal that scrolls reads texts with links as those without, where it skips links
pub papers_are_the_same : (linked plain : List ℕ) → IsWoven linked plain → (p q : Paper) → ReadsSkipping p linked q ↔ Reads p plain q
papers_are_the_same linked plain woven p q =
    let texts : AreTexts linked plain = woven_texts linked plain woven in
    let same : skip_all paper_reader (chars linked) (passing (at_rest p)) ≡ option_map passing (read_on (chars plain) (at_rest p)) =
    passes_over_links paper_reader PaperRests paper_is_reader linked plain woven (at_rest p) refl ∙ ap (option_map passing) (read_is_on (chars plain) (at_rest p)) in (
      λ h. record { text = texts.second; leads = passed_is (read_on (chars plain) (at_rest p)) (at_rest q) (sym same ∙ h.leads) },
      λ h. record { text = texts.first; leads = same ∙ ap (option_map passing) h.leads },
    )
