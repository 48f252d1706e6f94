-- The decoder reads as the definitions say.
use Rattle.std.proofs.Common.{◌≡◌, ℕ, Bool, true, false, cond, leb, eqb, List, [], ◌∷◌, ◌++◌, Option, Some, None, refl, ap, ◌∙◌, sym, subst, append_assoc}
use Rattle.std.specs.Prelude.{◌&&◌, ◌||◌}
use Rattle.std.proofs.lemmas.Bool.{true≢false, eqb-true}
use Rattle.std.proofs.lemmas.Option.{none-some}
use Rattle.mad_term.specs.declared.events.Event.{Event}
use Rattle.mad_term.specs.declared.events.Event.TheVariants.{Key}
use Rattle.mad_keys.specs.Keys.{escape_key}
use Rattle.mad_keys.specs.declared.steps.Step.{Step}
use Rattle.mad_keys.specs.declared.steps.Step.TheVariants.{Waits, Ends, Breaks}
use Rattle.mad_keys.specs.Steps.{char_step, step_of}
use Rattle.mad_keys.specs.Readings.{Item, Whole, Broken, IsReading, Told, listed, lone_escape, paused, after_pause}
use Rattle.mad_keys.specs.Decoding.{kept, AfreshGives, BrokenGives, StepGives, ByteGives, BytesGive, PauseGives}
use Rattle.mad_keys.specs.Laws.{IsReadAs, IsBlockAs}
use Rattle.mad_keys.proofs.KeptLemmas.{kept_step, kept_lone, kept_pause, kept_more, kept_event}

-- ---- steps

abbrev is_breaks : Step → Bool
is_breaks Waits = false
is_breaks Ends = false
is_breaks Breaks = true

afresh_never : (t u : Bool) → is_breaks (cond t Waits (cond u Waits Ends)) ≡ false
afresh_never true u = refl
afresh_never false true = refl
afresh_never false false = refl

-- no byte breaks off a front that is empty
pub never_breaks : (b : ℕ) → step_of [] b ≡ Breaks → ⊥
never_breaks b h = true≢false (sym (ap is_breaks h) ∙ afresh_never (eqb b 27) (leb 194 b && leb b 244))

-- ---- readings

-- a byte by which the front grows comes before the rest of a reading
pub extend : (items : List Item) (w : List ℕ) (b : ℕ) (bytes rest : List ℕ) → step_of w b ≡ Waits → IsReading (w ++ b ∷ []) bytes items rest → IsReading w (b ∷ bytes) items rest
extend [] w b bytes rest e h = (e, h)
extend (Whole item ∷ items) w b bytes rest e h =
    let r = h.3 in
    (h.0, h.1, h.2, record { part = b ∷ r.part; split = ap (λ l. b ∷ l) r.split; grown = (e, r.grown); met = r.met }, h.4, h.5)
extend (Broken item ∷ items) w b bytes rest e h =
    let r = h.2 in
    (h.0, h.1, record { part = b ∷ r.part; split = ap (λ l. b ∷ l) r.split; grown = (e, r.grown); met = r.met }, h.3)

-- a byte that ends the front makes an item of it, before the items of the rest
pub whole : (items : List Item) (w : List ℕ) (b : ℕ) (bytes rest : List ℕ) → step_of w b ≡ Ends → IsReading [] bytes items rest → IsReading w (b ∷ bytes) (Whole (w ++ b ∷ []) ∷ items) rest
whole items w b bytes rest e h = (w, b, bytes, record { part = []; split = refl; grown = refl; met = e }, refl, h)

-- a byte that breaks off the front makes an item of the front, and is the first byte of the rest
pub broken : (items : List Item) (w : List ℕ) (b : ℕ) (bytes rest : List ℕ) → step_of w b ≡ Breaks → IsReading [] (b ∷ bytes) items rest → IsReading w (b ∷ bytes) (Broken w ∷ items) rest
broken items w b bytes rest e h = (b, bytes, record { part = []; split = refl; grown = refl; met = e }, h)

-- ---- one byte, and those after it

-- what waits before the other bytes, which are read
abbrev Rest : List ℕ → List Event → List ℕ → Type 0
Rest bytes others left = (v : List ℕ) (u : List ℕ) → u ≡ kept v → BytesGive u bytes others left → IsReadAs v bytes others left

read_afresh : (s : Step) (w : List ℕ) (b : ℕ) (bytes : List ℕ) (event : Option Event) (next : List ℕ) (others : List Event) (left : List ℕ)
    → step_of [] b ≡ s → AfreshGives s b event next → Rest bytes others left → BytesGive next bytes others left → IsReadAs [] (b ∷ bytes) (listed event ++ others) left
read_afresh Waits w b bytes event next others left e h rest more =
    let r = rest (b ∷ []) next h.1 more in
    subst (λ (o : Option Event). IsReadAs [] (b ∷ bytes) (listed o ++ others) left) (sym h.0)
    (record { items = r.items; rest = r.rest; read = extend r.items [] b bytes r.rest e r.read; told = r.told; waits = r.waits })
read_afresh Ends w b bytes event next others left e h rest more =
    let r = rest [] next h.1 more in
    record { items = Whole (b ∷ []) ∷ r.items; rest = r.rest; read = whole r.items [] b bytes r.rest e r.read; told = (event, others, h.0, refl, r.told); waits = r.waits }
read_afresh Breaks w b bytes event next others left e h rest more = absurd (never_breaks b e)

-- a byte that breaks a lone ESC off is ESC
breaks_one : (t u v : Bool) → (t ≡ true → ⊥) → is_breaks (cond t Breaks (cond u Waits (cond v Waits Ends))) ≡ false
breaks_one true u v h = absurd (h refl)
breaks_one false true v h = refl
breaks_one false false true h = refl
breaks_one false false false h = refl

escape_waits : (t : Bool) (b : ℕ) → ((t ≡ true → ⊥) → ⊥) → eqb b 27 ≡ t → step_of [] b ≡ Waits
escape_waits true b h e = ap (λ t. cond t Waits (char_step [] b)) e
escape_waits false b h e = absurd (h (λ t. true≢false (sym t)))

escape_then : (t : Bool) (a b : ℕ) (x : Event) → eqb a 27 ≡ t → cond t (Some (Key escape_key)) None ≡ Some x → step_of (a ∷ []) b ≡ Breaks → step_of [] b ≡ Waits
escape_then true a b x is h e =
    escape_waits (eqb b 27) b (λ t. true≢false (sym (ap is_breaks (sym (ap (λ n. step_of (n ∷ []) b) (eqb-true a 27 is)) ∙ e)) ∙ breaks_one (eqb b 27) (eqb b 79 || eqb b 91) (leb 194 b && leb b 244) t)) refl
escape_then false a b x is h e = absurd (none-some x h)

then_waits : (w : List ℕ) (b : ℕ) (x : Event) → step_of w b ≡ Breaks → lone_escape w ≡ Some x → step_of [] b ≡ Waits
then_waits [] b x e h = absurd (none-some x h)
then_waits (a ∷ []) b x e h = escape_then (eqb a 27) a b x refl h e
then_waits (a ∷ c ∷ w) b x e h = absurd (none-some x h)

read_broken : (o : Option Event) (w : List ℕ) (b : ℕ) (bytes : List ℕ) (event : Option Event) (next : List ℕ) (others : List Event) (left : List ℕ)
    → step_of w b ≡ Breaks → lone_escape w ≡ o → BrokenGives o b event next → Rest bytes others left → BytesGive next bytes others left → IsReadAs w (b ∷ bytes) (listed event ++ others) left
read_broken None w b bytes event next others left e none h rest more =
    let r = read_afresh (step_of [] b) w b bytes event next others left refl h rest more in
    record { items = Broken w ∷ r.items; rest = r.rest; read = broken r.items w b bytes r.rest e r.read; told = (None, listed event ++ others, sym none, refl, r.told); waits = r.waits }
read_broken (Some x) w b bytes event next others left e lone h rest more =
    let r = rest (b ∷ []) next h.1 more in
    record {
      items = Broken w ∷ r.items;
      rest = r.rest;
      read = broken r.items w b bytes r.rest e (extend r.items [] b bytes r.rest (then_waits w b x e lone) r.read);
      told = (event, others, h.0 ∙ sym lone, refl, r.told);
      waits = r.waits;
    }

read_step : (s : Step) (w : List ℕ) (b : ℕ) (bytes : List ℕ) (event : Option Event) (next : List ℕ) (others : List Event) (left : List ℕ)
    → step_of w b ≡ s → StepGives s (kept w) b event next → Rest bytes others left → BytesGive next bytes others left → IsReadAs w (b ∷ bytes) (listed event ++ others) left
read_step Waits w b bytes event next others left e h rest more =
    let r = rest (w ++ b ∷ []) next (h.1 ∙ kept_more w b) more in
    subst (λ (o : Option Event). IsReadAs w (b ∷ bytes) (listed o ++ others) left) (sym h.0)
    (record { items = r.items; rest = r.rest; read = extend r.items w b bytes r.rest e r.read; told = r.told; waits = r.waits })
read_step Ends w b bytes event next others left e h rest more =
    let r = rest [] next h.1 more in
    record { items = Whole (w ++ b ∷ []) ∷ r.items; rest = r.rest; read = whole r.items w b bytes r.rest e r.read; told = (event, others, kept_event w b event h.0, refl, r.told); waits = r.waits }
read_step Breaks w b bytes event next others left e h rest more = read_broken (lone_escape (kept w)) w b bytes event next others left e (sym (kept_lone w)) h rest more

read_from : (bytes w u : List ℕ) (events : List Event) (left : List ℕ) → u ≡ kept w → BytesGive u bytes events left → IsReadAs w bytes events left
read_from [] w u events left e h = record { items = []; rest = w; read = refl; told = h.0; waits = h.1 ∙ e }
read_from (b ∷ bytes) w u events left e h =
    subst (λ (l : List Event). IsReadAs w (b ∷ bytes) l left) (sym h.5)
    (read_step (step_of (kept w) b) w b bytes h.0 h.1 h.2 left (sym (kept_step w b)) (subst (λ (v : List ℕ). ByteGives v b h.0 h.1) e h.3)
    (λ v x i g. read_from bytes v x h.2 left i g) h.4)

-- what the decoder gives is a reading, and its events are told
pub bytes_read : (w bytes : List ℕ) (events : List Event) (left : List ℕ) → BytesGive (kept w) bytes events left → IsReadAs w bytes events left
bytes_read w bytes events left h = read_from bytes w (kept w) events left refl h

-- ---- a pause

told_paused_one : (t : Bool) (a : ℕ) → eqb a 27 ≡ t → Told (cond t (Broken (a ∷ []) ∷ []) []) (listed (cond t (Some (Key escape_key)) None))
told_paused_one true a is = (Some (Key escape_key), [], ap (λ t. cond t (Some (Key escape_key)) None) (sym is), refl, refl)
told_paused_one false a is = refl

told_paused : (w : List ℕ) → Told (paused w) (listed (lone_escape w))
told_paused [] = refl
told_paused (a ∷ []) = told_paused_one (eqb a 27) a refl
told_paused (a ∷ b ∷ w) = refl

-- items one after the other tell the events of both
pub told_both : (items others : List Item) (events more : List Event) → Told items events → Told others more → Told (items ++ others) (events ++ more)
told_both [] others events more h g = subst (λ (l : List Event). Told others (l ++ more)) (sym h) g
told_both (item ∷ items) others events more h g =
    (h.0, h.1 ++ more, h.2, ap (λ l. l ++ more) h.3 ∙ append_assoc (listed h.0) h.1 more, told_both items others h.1 more h.4 g)

-- the same of a block and the pause after it
pub block_read : (w block : List ℕ) (events : List Event) (before : List ℕ) (event : Option Event) (left : List ℕ) → BytesGive (kept w) block events before → PauseGives before event left
    → IsBlockAs w block (events ++ listed event) left
block_read w block events before event left h p =
    let r = bytes_read w block events before h in
    let lone : event ≡ lone_escape r.rest = p.0 ∙ ap lone_escape r.waits ∙ kept_lone r.rest in
    record {
      rest = after_pause r.rest;
      read = record {
        items = r.items;
        before = r.rest;
        read = r.read;
        told = subst (λ (o : Option Event). Told (r.items ++ paused r.rest) (events ++ listed o)) (sym lone) (told_both r.items (paused r.rest) events (listed (lone_escape r.rest)) r.told (told_paused r.rest));
        left = refl;
      };
      waits = p.1 ∙ ap after_pause r.waits ∙ kept_pause r.rest;
    }
