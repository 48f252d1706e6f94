-- Bytes have one reading, and cuts don't change it.
use Rattle.std.proofs.Common.{◌≡◌, ◌≢◌, ◌⊎◌, inl, inr, ℕ, Bool, true, false, cond, eqb, List, [], ◌∷◌, ◌++◌, length, drop, get_or, refl, ap, ◌∙◌, sym, subst, arith, append_assoc, append-nil, length-append}
use Rattle.std.proofs.lemmas.Bool.{eqb-true}
use Rattle.mad_term.specs.declared.events.Event.{Event}
use Rattle.mad_keys.specs.declared.steps.Step.{Step}
use Rattle.mad_keys.specs.declared.steps.Step.TheVariants.{Waits, Ends, Breaks}
use Rattle.mad_keys.specs.Steps.{step_of}
use Rattle.mad_keys.specs.Readings.{Item, Whole, Broken, Grows, Reaches, IsReading, Told, paused, after_pause, IsBlock}
use Rattle.mad_keys.specs.Laws.{EndsIn}
use Rattle.mad_keys.proofs.ReadingLemmas.{extend, whole, broken, never_breaks, told_both}

-- ---- a reading is found

record Found (w bytes : List ℕ) : Type 0 where
  items : List Item
  rest : List ℕ
  read : IsReading w bytes items rest

found_afresh : (s : Step) (b : ℕ) (bytes : List ℕ) → step_of [] b ≡ s → ((v : List ℕ) → Found v bytes) → Found [] (b ∷ bytes)
found_afresh Waits b bytes e next = let r = next (b ∷ []) in record { items = r.items; rest = r.rest; read = extend r.items [] b bytes r.rest e r.read }
found_afresh Ends b bytes e next = let r = next [] in record { items = Whole (b ∷ []) ∷ r.items; rest = r.rest; read = whole r.items [] b bytes r.rest e r.read }
found_afresh Breaks b bytes e next = absurd (never_breaks b e)

found_step : (s : Step) (w : List ℕ) (b : ℕ) (bytes : List ℕ) → step_of w b ≡ s → ((v : List ℕ) → Found v bytes) → Found w (b ∷ bytes)
found_step Waits w b bytes e next = let r = next (w ++ b ∷ []) in record { items = r.items; rest = r.rest; read = extend r.items w b bytes r.rest e r.read }
found_step Ends w b bytes e next = let r = next [] in record { items = Whole (w ++ b ∷ []) ∷ r.items; rest = r.rest; read = whole r.items w b bytes r.rest e r.read }
found_step Breaks w b bytes e next =
    let r = found_afresh (step_of [] b) b bytes refl next in record { items = Broken w ∷ r.items; rest = r.rest; read = broken r.items w b bytes r.rest e r.read }

found_from : (bytes w : List ℕ) → Found w bytes
found_from [] w = record { items = []; rest = w; read = refl }
found_from (b ∷ bytes) w = found_step (step_of w b) w b bytes refl (λ v. found_from bytes v)

-- bytes have a reading after any front
pub found : (w bytes : List ℕ) → (items : List Item) × (rest : List ℕ) × IsReading w bytes items rest
found w bytes = let r = found_from bytes w in (r.items, r.rest, r.read)

-- ---- a reading by its first byte

step_number : Step → ℕ
step_number Waits = 0
step_number Ends = 1
step_number Breaks = 2

waits_not_ends : Waits ≡ Ends → ⊥
unfolding step_number
waits_not_ends e = let n : ◌≡◌ {A = ℕ} 0 1 = ap step_number e in omega arith

waits_not_breaks : Waits ≡ Breaks → ⊥
unfolding step_number
waits_not_breaks e = let n : ◌≡◌ {A = ℕ} 0 2 = ap step_number e in omega arith

ends_not_breaks : Ends ≡ Breaks → ⊥
unfolding step_number
ends_not_breaks e = let n : ◌≡◌ {A = ℕ} 1 2 = ap step_number e in omega arith

first_same : (a b : ℕ) (xs ys : List ℕ) → a ∷ xs ≡ b ∷ ys → a ≡ b
first_same a b xs ys e = ap (λ l. get_or l 0 0) e

others_same : (a b : ℕ) (xs ys : List ℕ) → a ∷ xs ≡ b ∷ ys → xs ≡ ys
others_same a b xs ys e = ap (λ l. drop 1 l) e

reach_on : (part w : List ℕ) (b : ℕ) (bytes : List ℕ) (s : Step) (front : List ℕ) (byte : ℕ) (more : List ℕ) → step_of w b ≡ Waits → (Waits ≡ s → ⊥)
    → b ∷ bytes ≡ part ++ byte ∷ more → Grows w part front → step_of front byte ≡ s → Reaches (w ++ b ∷ []) bytes s front byte more
reach_on [] w b bytes s front byte more e other split grown met =
    absurd (other (sym e ∙ (λ i. step_of (grown i) (first_same b byte bytes more split i)) ∙ met))
reach_on (c ∷ part) w b bytes s front byte more e other split grown met =
    record {
      part = part;
      split = others_same b c bytes (part ++ byte ∷ more) split;
      grown = subst (λ (x : ℕ). Grows (w ++ x ∷ []) part front) (sym (first_same b c bytes (part ++ byte ∷ more) split)) grown.1;
      met = met;
    }

record Stops (w : List ℕ) (b : ℕ) (bytes : List ℕ) (s : Step) (front : List ℕ) (byte : ℕ) (more : List ℕ) : Type 0 where
  front_is : front ≡ w
  byte_is : byte ≡ b
  more_is : more ≡ bytes
  step_is : step_of w b ≡ s

reach_stop : (part w : List ℕ) (b : ℕ) (bytes : List ℕ) (s : Step) (front : List ℕ) (byte : ℕ) (more : List ℕ) → (step_of w b ≡ Waits → ⊥)
    → b ∷ bytes ≡ part ++ byte ∷ more → Grows w part front → step_of front byte ≡ s → Stops w b bytes s front byte more
reach_stop [] w b bytes s front byte more other split grown met =
    record {
      front_is = sym grown;
      byte_is = sym (first_same b byte bytes more split);
      more_is = sym (others_same b byte bytes more split);
      step_is = (λ i. step_of (grown i) (first_same b byte bytes more split i)) ∙ met;
    }
reach_stop (c ∷ part) w b bytes s front byte more other split grown met = absurd (other (ap (step_of w) (first_same b c bytes (part ++ byte ∷ more) split) ∙ grown.0))

on : (items : List Item) (w : List ℕ) (b : ℕ) (bytes rest : List ℕ) → step_of w b ≡ Waits → IsReading w (b ∷ bytes) items rest → IsReading (w ++ b ∷ []) bytes items rest
on [] w b bytes rest e h = h.1
on (Whole item ∷ items) w b bytes rest e h =
    let r = h.3 in (h.0, h.1, h.2, reach_on r.part w b bytes Ends h.0 h.1 h.2 e waits_not_ends r.split r.grown r.met, h.4, h.5)
on (Broken item ∷ items) w b bytes rest e h =
    let r = h.2 in (h.0, h.1, reach_on r.part w b bytes Breaks item h.0 h.1 e waits_not_breaks r.split r.grown r.met, h.3)

-- after its first item
record After (item : Item) (bytes : List ℕ) (items : List Item) (rest : List ℕ) : Type 0 where
  others : List Item
  is : items ≡ item ∷ others
  read : IsReading [] bytes others rest

after_whole : (items : List Item) (w : List ℕ) (b : ℕ) (bytes rest : List ℕ) → step_of w b ≡ Ends → IsReading w (b ∷ bytes) items rest → After (Whole (w ++ b ∷ [])) bytes items rest
after_whole [] w b bytes rest e h = absurd (waits_not_ends (sym h.0 ∙ e))
after_whole (Whole item ∷ items) w b bytes rest e h =
    let r = h.3 in
    let s = reach_stop r.part w b bytes Ends h.0 h.1 h.2 (λ i. waits_not_ends (sym i ∙ e)) r.split r.grown r.met in
    record { others = items; is = ap (λ x. Whole x ∷ items) (h.4 ∙ (λ i. s.front_is i ++ s.byte_is i ∷ [])); read = subst (λ (l : List ℕ). IsReading [] l items rest) s.more_is h.5 }
after_whole (Broken item ∷ items) w b bytes rest e h =
    let r = h.2 in
    let s = reach_stop r.part w b bytes Breaks item h.0 h.1 (λ i. waits_not_ends (sym i ∙ e)) r.split r.grown r.met in
    absurd (ends_not_breaks (sym e ∙ s.step_is))

after_broken : (items : List Item) (w : List ℕ) (b : ℕ) (bytes rest : List ℕ) → step_of w b ≡ Breaks → IsReading w (b ∷ bytes) items rest → After (Broken w) (b ∷ bytes) items rest
after_broken [] w b bytes rest e h = absurd (waits_not_breaks (sym h.0 ∙ e))
after_broken (Whole item ∷ items) w b bytes rest e h =
    let r = h.3 in
    let s = reach_stop r.part w b bytes Ends h.0 h.1 h.2 (λ i. waits_not_breaks (sym i ∙ e)) r.split r.grown r.met in
    absurd (ends_not_breaks (sym s.step_is ∙ e))
after_broken (Broken item ∷ items) w b bytes rest e h =
    let r = h.2 in
    let s = reach_stop r.part w b bytes Breaks item h.0 h.1 (λ i. waits_not_breaks (sym i ∙ e)) r.split r.grown r.met in
    record { others = items; is = ap (λ x. Broken x ∷ items) s.front_is; read = subst (λ (l : List ℕ). IsReading [] l items rest) (λ i. s.byte_is i ∷ s.more_is i) h.3 }

-- ---- there is one alone

record Same (items others : List Item) (rest left : List ℕ) : Type 0 where
  items_are : items ≡ others
  rest_is : rest ≡ left

no_bytes : (part : List ℕ) (byte : ℕ) (more : List ℕ) → [] ≡ part ++ byte ∷ more → ⊥
no_bytes part byte more e = let n : 0 ≡ length (part ++ byte ∷ more) = ap length e in omega (arith, length-append part (byte ∷ more))

at_end : (items : List Item) (w rest : List ℕ) → IsReading w [] items rest → (items ≡ []) × (w ≡ rest)
at_end [] w rest h = (refl, h)
at_end (Whole item ∷ items) w rest h = let r = h.3 in absurd (no_bytes r.part h.1 h.2 r.split)
at_end (Broken item ∷ items) w rest h = let r = h.2 in absurd (no_bytes r.part h.0 h.1 r.split)

-- what is to be shown of the other bytes
abbrev AreSame : List ℕ → Type 0
AreSame bytes = (w : List ℕ) (items others : List Item) (rest left : List ℕ) → IsReading w bytes items rest → IsReading w bytes others left → Same items others rest left

same_after : (item : Item) (bytes : List ℕ) (items others : List Item) (rest left : List ℕ) → AreSame bytes → After item bytes items rest → After item bytes others left → Same items others rest left
same_after item bytes items others rest left next a b =
    let s = next [] a.others b.others rest left a.read b.read in record { items_are = a.is ∙ ap (λ l. item ∷ l) s.items_are ∙ sym b.is; rest_is = s.rest_is }

same_afresh : (s : Step) (b : ℕ) (bytes : List ℕ) (items others : List Item) (rest left : List ℕ) → step_of [] b ≡ s → AreSame bytes
    → IsReading [] (b ∷ bytes) items rest → IsReading [] (b ∷ bytes) others left → Same items others rest left
same_afresh Waits b bytes items others rest left e next h g = next (b ∷ []) items others rest left (on items [] b bytes rest e h) (on others [] b bytes left e g)
same_afresh Ends b bytes items others rest left e next h g =
    same_after (Whole (b ∷ [])) bytes items others rest left next (after_whole items [] b bytes rest e h) (after_whole others [] b bytes left e g)
same_afresh Breaks b bytes items others rest left e next h g = absurd (never_breaks b e)

same_step : (s : Step) (w : List ℕ) (b : ℕ) (bytes : List ℕ) (items others : List Item) (rest left : List ℕ) → step_of w b ≡ s → AreSame bytes
    → IsReading w (b ∷ bytes) items rest → IsReading w (b ∷ bytes) others left → Same items others rest left
same_step Waits w b bytes items others rest left e next h g = next (w ++ b ∷ []) items others rest left (on items w b bytes rest e h) (on others w b bytes left e g)
same_step Ends w b bytes items others rest left e next h g =
    same_after (Whole (w ++ b ∷ [])) bytes items others rest left next (after_whole items w b bytes rest e h) (after_whole others w b bytes left e g)
same_step Breaks w b bytes items others rest left e next h g =
    let x = after_broken items w b bytes rest e h in
    let y = after_broken others w b bytes left e g in
    let s = same_afresh (step_of [] b) b bytes x.others y.others rest left refl next x.read y.read in
    record { items_are = x.is ∙ ap (λ l. Broken w ∷ l) s.items_are ∙ sym y.is; rest_is = s.rest_is }

same_from : (bytes : List ℕ) → AreSame bytes
same_from [] w items others rest left h g =
    let x = at_end items w rest h in
    let y = at_end others w left g in
    record { items_are = x.0 ∙ sym y.0; rest_is = sym x.1 ∙ y.1 }
same_from (b ∷ bytes) w items others rest left h g = same_step (step_of w b) w b bytes items others rest left refl (same_from bytes) h g

-- bytes have one reading alone after a front
pub alone : (w bytes : List ℕ) (items others : List Item) (rest left : List ℕ) → IsReading w bytes items rest → IsReading w bytes others left → (items ≡ others) × (rest ≡ left)
alone w bytes items others rest left h g = let s = same_from bytes w items others rest left h g in (s.items_are, s.rest_is)

-- ---- cuts

join_front : (a w x b : List ℕ) (items : List Item) (rest : List ℕ) → Grows w a x → IsReading x b items rest → IsReading w (a ++ b) items rest
join_front [] w x b items rest g h = subst (λ (l : List ℕ). IsReading l b items rest) (sym g) h
join_front (c ∷ a) w x b items rest g h = extend items w c (a ++ b) rest g.0 (join_front a (w ++ c ∷ []) x b items rest g.1 h)

join : (items others : List Item) (w a x b rest : List ℕ) → IsReading w a items x → IsReading x b others rest → IsReading w (a ++ b) (items ++ others) rest
join [] others w a x b rest h g = join_front a w x b others rest h g
join (Whole item ∷ items) others w a x b rest h g =
    let r = h.3 in (
      h.0,
      h.1,
      h.2 ++ b,
      record { part = r.part; split = ap (λ l. l ++ b) r.split ∙ append_assoc r.part (h.1 ∷ h.2) b; grown = r.grown; met = r.met },
      h.4,
      join items others [] h.2 x b rest h.5 g,
    )
join (Broken item ∷ items) others w a x b rest h g =
    let r = h.2 in (
      h.0,
      h.1 ++ b,
      record { part = r.part; split = ap (λ l. l ++ b) r.split ∙ append_assoc r.part (h.0 ∷ h.1) b; grown = r.grown; met = r.met },
      join items others [] (h.0 ∷ h.1) x b rest h.3 g,
    )

grows_is : (a w x : List ℕ) → Grows w a x → x ≡ w ++ a
grows_is [] w x g = sym g ∙ sym (append-nil w)
grows_is (c ∷ a) w x g = grows_is a (w ++ c ∷ []) x g.1 ∙ append_assoc w (c ∷ []) a

none_left : (w : List ℕ) → length w ≡ 0 → w ≡ []
none_left [] h = refl
none_left (a ∷ w) h = absurd (omega arith)

-- a lone byte that waits is the last one, or it waited before
lone_front : (w a : List ℕ) (c : ℕ) → w ++ a ≡ c ∷ [] → (w ≡ c ∷ []) ⊎ EndsIn c a
lone_front [] a c e = inr ([], e)
lone_front (d ∷ w) a c e =
    let n : length ((d ∷ w) ++ a) ≡ 1 = ap length e in
    inl (ap (λ x. x ∷ w) (first_same d c (w ++ a) [] e) ∙ ap (λ l. c ∷ l) (none_left w (omega (arith, length-append (d ∷ w) a))))

lone_last : (items : List Item) (w a x : List ℕ) (c : ℕ) → IsReading w a items x → x ≡ c ∷ [] → (w ≡ c ∷ []) ⊎ EndsIn c a
lone_last [] w a x c h e = lone_front w a c (sym (grows_is a w x h) ∙ e)
lone_last (Whole item ∷ items) w a x c h e =
    let r = h.3 in
    elim (lone_last items [] h.2 x c h.5 e) [
      | inl none ↦ absurd (no_bytes [] c [] none)
      | inr last ↦ inr (r.part ++ h.1 ∷ last.0, r.split ∙ ap (λ l. r.part ++ h.1 ∷ l) last.1 ∙ sym (append_assoc r.part (h.1 ∷ last.0) (c ∷ [])))
    ]
lone_last (Broken item ∷ items) w a x c h e =
    let r = h.2 in
    elim (lone_last items [] (h.0 ∷ h.1) x c h.3 e) [
      | inl none ↦ absurd (no_bytes [] c [] none)
      | inr last ↦ inr (r.part ++ last.0, r.split ∙ ap (λ l. r.part ++ l) last.1 ∙ sym (append_assoc r.part last.0 (c ∷ [])))
    ]

record Goes (x : List ℕ) : Type 0 where
  same : after_pause x ≡ x
  no_item : paused x ≡ []

goes_one : (t : Bool) (a : ℕ) → eqb a 27 ≡ t → (a ≡ 27 → ⊥) → (cond t [] (a ∷ []) ≡ a ∷ []) × (cond t (Broken (a ∷ []) ∷ []) [] ≡ [])
goes_one true a is other = absurd (other (eqb-true a 27 is))
goes_one false a is other = (refl, refl)

goes : (x : List ℕ) → (x ≡ 27 ∷ [] → ⊥) → Goes x
goes [] h = record { same = refl; no_item = refl }
goes (a ∷ []) h = let g = goes_one (eqb a 27) a refl (λ e. h (ap (λ n. n ∷ []) e)) in record { same = g.0; no_item = g.1 }
goes (a ∷ b ∷ x) h = record { same = refl; no_item = refl }

-- two blocks are one where no ESC is before the cut
pub cut : (w first second : List ℕ) (events others : List Event) (between left : List ℕ) → w ≢ 27 ∷ [] → (EndsIn 27 first → ⊥)
    → IsBlock w first events between → IsBlock between second others left → IsBlock w (first ++ second) (events ++ others) left
cut w first second events others between left no_escape not_last a b =
    let g = goes a.before (λ e. elim (lone_last a.items w first a.before 27 a.read e) [
      | inl waited ↦ no_escape waited
      | inr last ↦ not_last last
    ]) in
    let told : Told a.items events = subst (λ (l : List Item). Told l events) (ap (λ p. a.items ++ p) g.no_item ∙ append-nil a.items) a.told in
    record {
      items = a.items ++ b.items;
      before = b.before;
      read = join a.items b.items w first a.before second b.before a.read (subst (λ (v : List ℕ). IsReading v second b.items b.before) (a.left ∙ g.same) b.read);
      told = subst (λ (l : List Item). Told l (events ++ others)) (sym (append_assoc a.items b.items (paused b.before))) (told_both a.items (b.items ++ paused b.before) events others told b.told);
      left = b.left;
    }
