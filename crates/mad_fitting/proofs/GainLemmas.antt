-- The parts of compounds, and what each gains.
use Rattle.std.proofs.Common.{◌≡◌, ℕ, ◌+◌, ◌<◌, ◌≤◌, Bool, true, false, List, [], ◌∷◌, ◌++◌, length, map, chars, drop, get_or, refl, sym, ap, ◌∙◌, arith, subst}
use Rattle.std.specs.Prelude.{◌&&◌, nat_le, if◌then◌else◌}
use Rattle.std.specs.List.{AllByRecursion}
use Rattle.std.specs.Str.{IsUtf8, IsCharBoundary, trim_start}
use Rattle.std.proofs.lemmas.List.{append_assoc, append-nil, at_drop_more, drop_all, length-append, length-drop}
use Rattle.std.proofs.lemmas.Str.{IsCharBoundary-start, IsCharBoundary-end, IsUtf8-drop}
use Rattle.mad_md.specs.declared.compound.Compound.{Compound}
use Rattle.mad_measure.specs.TextColumns.{columns}
use Rattle.mad_measure.proofs.AllLemmas.{all_push}
use Rattle.mad_fitting.specs.CenteredCuts.{inside_chars}
use Rattle.mad_fitting.specs.Cuts.{IsTextPart}
use Rattle.mad_fitting.specs.Order.{IsSmall}
use Rattle.mad_fitting.specs.Parts.{ArePartsOf, AreGains, gain_of, whole_of}
use Rattle.mad_fitting.specs.Sweeps.{AreInOrder}
use Rattle.mad_fitting.specs.Zones.{AreRunsFrom, cuttable, may_be_cut}
use Rattle.mad_fitting.specs.declared.gains.Gain.{Gain}
use Rattle.mad_fitting.specs.declared.gains.Parts.{Parts}
use Rattle.mad_fitting.specs.declared.gains.Parts.TheVariants.{Runs, Wholes}
use Rattle.mad_fitting.specs.declared.parts.Run.{Run}
use Rattle.mad_fitting.proofs.OneZones.{one_own}
use Rattle.mad_fitting.proofs.PartLemmas.{start_cuts}

-- ---- parts in order

order_if : (b : Bool) (text : List ℕ) (least : ℕ) (run : Run) (parts : List Run) → IsTextPart 0 text run → least ≤ run.start → AreInOrder text run.end parts → AreInOrder text least parts → AreInOrder text least (if b then run ∷ parts else parts)
order_if true text least run parts own l behind others = (own, l, behind)
order_if false text least run parts own l behind others = others

whole_order_if : (b : Bool) (text : List ℕ) (w : ℕ) → IsUtf8 text → AreInOrder text 0 (if b then record { compound = 0; start = 0; end = length text; columns = w } ∷ [] else [])
whole_order_if true text w utf8 = (record { number_is = refl; order = omega arith; first = IsCharBoundary-start text utf8; last = IsCharBoundary-end text }, omega arith, tt)
whole_order_if false text w utf8 = tt

whole_order : (text : List ℕ) → IsUtf8 text → AreInOrder text 0 (whole_of text)
whole_order text utf8 = whole_order_if (nat_le 2 (columns (inside_chars (chars text))) && nat_le 2 (length (inside_chars (chars text)))) text (columns (inside_chars (chars text))) utf8

trimmed_less : (text : List ℕ) → IsUtf8 text → length (trim_start text) ≤ length text
trimmed_less text utf8 = let (front, cut, own) = start_cuts text utf8 in omega (arith, ap length cut, length-append front (trim_start text))

may_order : (text : List ℕ) (at least : ℕ) (runs : List Run) → IsUtf8 text → least ≤ at → IsCharBoundary text at → AreRunsFrom 0 text at runs → AreInOrder text least (cuttable runs)
may_order text at least [] utf8 l border h = tt
may_order text at least (run ∷ runs) utf8 l border h =
    let start : at ≤ run.start = omega (arith, h.0.start, length-drop at text, trimmed_less (drop at text) (IsUtf8-drop text at utf8 border), border.0) in
    order_if (may_be_cut run) text least run (cuttable runs) h.0.part (omega (arith, l, start)) (may_order text run.end run.end runs utf8 (omega arith) h.0.part.last h.1) (may_order text run.end least runs utf8 (omega (arith, l, start, h.0.some)) h.0.part.last h.1)

-- the parts of a compound are in order
pub parts_in_order : (kind : Parts) (p : Compound) (parts : List Run) → IsUtf8 p.src.now → ArePartsOf kind p parts → AreInOrder p.src.now 0 parts
parts_in_order Runs p parts utf8 h = subst (AreInOrder p.src.now 0) (sym h.2) (may_order p.src.now 0 0 h.0 utf8 (omega arith) (IsCharBoundary-start p.src.now utf8) h.1)
parts_in_order Wholes p parts utf8 h = subst (AreInOrder p.src.now 0) (sym h) (whole_order p.src.now utf8)

-- a list that equals a compound's parts is a list of them
pub parts_are : (kind : Parts) (p : Compound) (parts own : List Run) → own ≡ parts → ArePartsOf kind p parts → ArePartsOf kind p own
parts_are kind p parts own same h = subst (ArePartsOf kind p) (sym same) h

-- a list that equals a compound's parts is in order
pub order_of : (kind : Parts) (p : Compound) (parts own : List Run) → own ≡ parts → ArePartsOf kind p parts → IsUtf8 p.src.now → AreInOrder p.src.now 0 own
order_of kind p parts own same h utf8 = parts_in_order kind p own utf8 (parts_are kind p parts own same h)

-- there is one list of them
pub one_parts : (kind : Parts) (p : Compound) (parts own : List Run) → ArePartsOf kind p parts → ArePartsOf kind p own → own ≡ parts
one_parts Runs p parts own h g = one_own 0 p.src.now own parts g h
one_parts Wholes p parts own h g = g ∙ sym h

-- a list that equals a compound's parts equals each list of them
pub one_parts_of : (kind : Parts) (p : Compound) (parts own : List Run) → own ≡ parts → ArePartsOf kind p parts → (others : List Run) → ArePartsOf kind p others → others ≡ own
one_parts_of kind p parts own same h others g = one_parts kind p parts others h g ∙ sym same

-- ---- what they gain

-- what is known between two parts of a compound
pub record Gaining (text : List ℕ) (parts : List Run) (before now : List Gain) (others : List Run) : Type 0 where
  pub from : ℕ
  pub order : AreInOrder text from others
  pub gains : now ++ map (gain_of text) others ≡ before ++ map (gain_of text) parts
  pub small : AllByRecursion IsSmall before → AllByRecursion IsSmall now

-- the next part is the first of those to come
pub gaining_next : (text : List ℕ) (parts : List Run) (before now : List Gain) (i : ℕ) (d : Run) → i < length parts → Gaining text parts before now (drop i parts) → Gaining text parts before now (get_or parts i d ∷ drop (i + 1) parts)
gaining_next text parts before now i d l h = subst (Gaining text parts before now) (at_drop_more (λ r. r) parts i d l) h

-- one part more has its gain in the list
pub gaining_more : (text : List ℕ) (parts : List Run) (before now after : List Gain) (part : Run) (others : List Run) (g : Gain) → g ≡ gain_of text part → IsSmall g → after ≡ now ++ g ∷ [] → Gaining text parts before now (part ∷ others) → Gaining text parts before after others
gaining_more text parts before now after part others g is small added h = record {
  from = part.end;
  order = h.order.2;
  gains = ap (λ l. l ++ map (gain_of text) others) added ∙ append_assoc now (g ∷ []) (map (gain_of text) others) ∙ ap (λ (x : Gain). now ++ x ∷ map (gain_of text) others) is ∙ h.gains;
  small = λ all. subst (AllByRecursion IsSmall) (sym added) (all_push IsSmall now g (h.small all) small);
}

-- what is known between two compounds
abbrev pub Gathers : Parts → List Compound → List Gain → List Compound → Type 0
Gathers kind ps now others = (later : List Gain) → AreGains kind others later → AreGains kind ps (now ++ later)

-- before the first compound no gain is in the list
pub gathers_start : (kind : Parts) (ps : List Compound) (now : List Gain) → now ≡ [] → Gathers kind ps now ps
gathers_start kind ps now none = λ later h. subst (λ l. AreGains kind ps (l ++ later)) (sym none) h

-- where there is no gain yet, all are small
pub small_start : (now : List Gain) → now ≡ [] → AllByRecursion IsSmall now
small_start now none = subst (AllByRecursion IsSmall) (sym none) tt

-- one compound more has the gains of its parts in the list
pub gathers_next : (kind : Parts) (ps : List Compound) (now after : List Gain) (i : ℕ) (d : Compound) (parts own : List Run) → i < length ps → own ≡ parts → ArePartsOf kind (get_or ps i d) parts → after ≡ now ++ map (gain_of (get_or ps i d).src.now) own → Gathers kind ps now (drop i ps)
    → Gathers kind ps after (drop (i + 1) ps)
gathers_next kind ps now after i d parts own l same_parts found added h = λ later more.
    let are : ArePartsOf kind (get_or ps i d) own = parts_are kind (get_or ps i d) parts own same_parts found in
    let mine : List Gain = map (gain_of (get_or ps i d).src.now) own in
    let both : AreGains kind (drop i ps) (mine ++ later) = subst (λ l. AreGains kind l (mine ++ later)) (sym (at_drop_more (λ r. r) ps i d l)) (own, later, are, refl, more) in
    let same : now ++ (mine ++ later) ≡ after ++ later = sym (ap (λ l. l ++ later) added ∙ append_assoc now mine later) in
    subst (AreGains kind ps) same (h (mine ++ later) both)

-- after the last compound the gains are those of all
pub gathers_end : (kind : Parts) (ps : List Compound) (now : List Gain) (i : ℕ) → length ps ≤ i → Gathers kind ps now (drop i ps) → AreGains kind ps now
gathers_end kind ps now i all h = subst (AreGains kind ps) (append-nil now) (h [] (subst (λ l. AreGains kind l []) (sym (drop_all i ps all)) refl))
