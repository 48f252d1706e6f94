-- The runs of compounds, one after the other.
use Rattle.std.proofs.Common.{◌≡◌, ℕ, zero, suc, nat_lt, map, ◌+◌, ◌-◌, ◌<◌, ◌≤◌, ◌^◌, Bool, true, false, List, [], ◌∷◌, ◌++◌, length, take, drop, get_or, refl, sym, ap, ◌∙◌, arith, subst, if◌then◌else◌}
use Rattle.std.specs.Str.{trim_start}
use Rattle.std.proofs.lemmas.Bool.Decides.{nat_tests}
use Rattle.std.proofs.lemmas.List.{append_assoc, append-nil, at_drop_more, length-append, map-append}
use Rattle.mad_md.specs.Flagged.{Run as FlaggedRun}
use Rattle.mad_md.specs.declared.compound.Compound.{Compound}
use Rattle.std.specs.List.{AllByRecursion}
use Rattle.mad_measure.proofs.AllLemmas.{all_joined, all_each}
use Rattle.mad_fitting.specs.Cuts.{IsTextPart, IsPartOf, IsPart, CutsOut}
use Rattle.mad_fitting.specs.Pieces.{IsFrontOf, IsSolidFront}
use Rattle.mad_fitting.specs.Zones.{IsNextRun, AreRunsFrom, AreZonesOf, AreZones, cuttable, may_be_cut, shifted, before_of, behind_of, AreReplaced}
use Rattle.mad_fitting.specs.declared.fronts.Front.{Front}
use Rattle.mad_fitting.specs.declared.parts.Run.{Run}

-- what follows whitespace, up to more of it, is the next run
pub next_is : (src rest : List ℕ) (number at : ℕ) (front : Front) → rest ≡ trim_start (drop at src) → length rest ≤ length src → IsFrontOf rest front → IsSolidFront rest front → 0 < front.bytes → IsTextPart number src (record { compound = number; start = length src - length rest; end = length src - length rest + front.bytes; columns = front.columns })
    → IsNextRun number src at (record { compound = number; start = length src - length rest; end = length src - length rest + front.bytes; columns = front.columns })
next_is src rest number at front is inside own solid some part =
    let start = length src - length rest in
    let size : front.bytes ≡ start + front.bytes - start = omega arith in
    record {
      part = part;
      some = omega (arith, some);
      start = omega (arith, ap length is, inside);
      front = subst (λ r. IsFrontOf r (record { bytes = start + front.bytes - start; columns = front.columns })) is (subst (λ n. IsFrontOf rest (record { bytes = n; columns = front.columns })) size own);
      solid = subst (λ r. IsSolidFront r (record { bytes = start + front.bytes - start; columns = front.columns })) is (subst (λ n. IsSolidFront rest (record { bytes = n; columns = front.columns })) size solid);
    }

-- the runs from one byte up to another
abbrev pub AreRunsTo : ℕ → List ℕ → ℕ → ℕ → List Run → Type 0
AreRunsTo number text from at [] = from ≡ at
AreRunsTo number text from at (run ∷ runs) = IsNextRun number text from run × AreRunsTo number text run.end at runs

runs_more : (number : ℕ) (text : List ℕ) (from at : ℕ) (runs : List Run) (run : Run) → AreRunsTo number text from at runs → IsNextRun number text at run → AreRunsTo number text from run.end (runs ++ run ∷ [])
runs_more number text from at [] run h g = (subst (λ n. IsNextRun number text n run) (sym h) g, refl)
runs_more number text from at (x ∷ runs) run h g = (h.0, runs_more number text x.end at runs run h.1 g)

runs_end : (number : ℕ) (text : List ℕ) (from at : ℕ) (runs : List Run) → AreRunsTo number text from at runs → length (trim_start (drop at text)) ≡ 0 → AreRunsFrom number text from runs
runs_end number text from at [] h none = subst (λ n. length (trim_start (drop n text)) ≡ 0) (sym h) none
runs_end number text from at (x ∷ runs) h none = (h.0, runs_end number text x.end at runs h.1 none)

cuttable_by : (t : Bool) (x : Run) (xs ys : List Run) → (if t then x ∷ (xs ++ ys) else (xs ++ ys)) ≡ (if t then x ∷ xs else xs) ++ ys
cuttable_by true x xs ys = refl
cuttable_by false x xs ys = refl

cuttable-append : (xs ys : List Run) → cuttable (xs ++ ys) ≡ cuttable xs ++ cuttable ys
cuttable-append [] ys = refl
cuttable-append (x ∷ xs) ys = ap (λ l. if may_be_cut x then x ∷ l else l) (cuttable-append xs ys) ∙ cuttable_by (may_be_cut x) x (cuttable xs) (cuttable ys)

-- the runs that were found so far, and those of them that were kept
pub record FoundTo (number : ℕ) (text : List ℕ) (at : ℕ) (before now : List Run) : Type 0 where
  pub runs : List Run
  pub found : AreRunsTo number text 0 at runs
  pub kept : now ≡ before ++ cuttable runs

-- at a text's start no run is found
pub found_start : (number : ℕ) (text : List ℕ) (before : List Run) → FoundTo number text 0 before before
found_start number text before = record { runs = []; found = refl; kept = sym (append-nil before) }

-- one run more is found, and kept if it may be cut
pub found_more : (number : ℕ) (text : List ℕ) (at : ℕ) (before now after : List Run) (run : Run) → FoundTo number text at before now → IsNextRun number text at run → after ≡ now ++ cuttable (run ∷ []) → FoundTo number text run.end before after
found_more number text at before now after run h g added = record {
  runs = h.runs ++ run ∷ [];
  found = runs_more number text 0 at h.runs run h.found g;
  kept = added ∙ ap (λ l. l ++ cuttable (run ∷ [])) h.kept ∙ append_assoc before (cuttable h.runs) (cuttable (run ∷ [])) ∙ ap (λ l. before ++ l) (sym (cuttable-append h.runs (run ∷ [])));
}

-- where only whitespace is left, the kept runs are those of the text
pub found_end : (number : ℕ) (text : List ℕ) (at : ℕ) (before now : List Run) → FoundTo number text at before now → length (trim_start (drop at text)) ≡ 0 → (own : List Run) × AreZonesOf number text own × (now ≡ before ++ own)
found_end number text at before now h none = (cuttable h.runs, (h.runs, runs_end number text 0 at h.runs h.found none, refl), h.kept)

-- the zones of the compounds that were passed, before those of the others
pub ZonesBefore : ℕ → List Compound → List Compound → List Run → Type 0
ZonesBefore i ps rest now = (others : List Run) → AreZones i rest others → AreZones 0 ps (now ++ others)

-- before the first compound there are no zones
pub zones_start : (ps : List Compound) → ZonesBefore 0 ps ps []
unfolding ZonesBefore
zones_start ps others h = h

-- the zones of one compound more follow those of the others
pub zones_more : (i : ℕ) (ps : List Compound) (now after own : List Run) (d : Compound) → i < length ps → ZonesBefore i ps (drop i ps) now → AreZonesOf i (get_or ps i d).src.now own → after ≡ now ++ own → ZonesBefore (i + 1) ps (drop (i + 1) ps) after
unfolding ZonesBefore
zones_more i ps now after own d l h g added others rest =
    let next : AreZones i (get_or ps i d ∷ drop (i + 1) ps) (own ++ others) = (own, others, refl, g, rest) in
    let here : AreZones i (drop i ps) (own ++ others) = subst (λ qs. AreZones i qs (own ++ others)) (sym (at_drop_more (λ r. r) ps i d l)) next in
    let all : now ++ (own ++ others) ≡ after ++ others = sym (append_assoc now own others) ∙ ap (λ l. l ++ others) (sym added) in
    subst (AreZones 0 ps) all (h (own ++ others) here)

-- after the last compound the zones are those of all
pub zones_end : (i : ℕ) (ps : List Compound) (now : List Run) → ZonesBefore i ps [] now → AreZones 0 ps now
unfolding ZonesBefore
zones_end i ps now h = subst (AreZones 0 ps) (append-nil now) (h [] refl)

-- ---- each zone is a part of the compounds

all_runs : (number : ℕ) (text : List ℕ) (at : ℕ) (runs : List Run) → AreRunsFrom number text at runs → AllByRecursion (IsTextPart number text) runs
all_runs number text at [] h = tt
all_runs number text at (run ∷ runs) h = (h.0.part, all_runs number text run.end runs h.1)

all_kept_by : (P : Run → Type 0) (t : Bool) (x : Run) (xs : List Run) → P x → AllByRecursion P xs → AllByRecursion P (if t then x ∷ xs else xs)
all_kept_by P true x xs h g = (h, g)
all_kept_by P false x xs h g = g

all_cuttable : (P : Run → Type 0) (runs : List Run) → AllByRecursion P runs → AllByRecursion P (cuttable runs)
all_cuttable P [] h = tt
all_cuttable P (x ∷ xs) h = all_kept_by P (may_be_cut x) x (cuttable xs) h.0 (all_cuttable P xs h.1)

all_own : (number : ℕ) (text : List ℕ) (zones : List Run) → AreZonesOf number text zones → AllByRecursion (IsTextPart number text) zones
all_own number text zones (runs, from, is) = subst (AllByRecursion (IsTextPart number text)) (sym is) (all_cuttable (IsTextPart number text) runs (all_runs number text 0 runs from))

all_zones : (before ps : List Compound) (zones : List Run) → AreZones (length before) ps zones → AllByRecursion (IsPart (before ++ ps)) zones
all_zones before [] zones h = subst (AllByRecursion (IsPart (before ++ []))) (sym h) tt
all_zones before (p ∷ ps) zones (own, others, joined, of, rest) =
    let here : AllByRecursion (IsPart (before ++ p ∷ ps)) own = all_each (IsPartOf (length before) p) (IsPart (before ++ p ∷ ps)) (λ r g. record { front = before; own = p; back = ps; parts = refl; of = g }) own (all_own (length before) p.src.now own of) in
    let size : length before + 1 ≡ length (before ++ p ∷ []) = sym (length-append before (p ∷ [])) in
    let there = all_zones (before ++ p ∷ []) ps others (subst (λ n. AreZones n ps others) size rest) in
    let same : AllByRecursion (IsPart (before ++ p ∷ ps)) others = subst (λ qs. AllByRecursion (IsPart qs) others) (append_assoc before (p ∷ []) ps) there in
    subst (AllByRecursion (IsPart (before ++ p ∷ ps))) (sym joined) (all_joined (IsPart (before ++ p ∷ ps)) own others here same)

all_at : (P : Run → Type 0) (xs : List Run) (i : ℕ) (d : Run) → AllByRecursion P xs → i < length xs → P (get_or xs i d)
all_at P [] i d h l = absurd (omega (arith, l))
all_at P (x ∷ xs) zero d h l = h.0
all_at P (x ∷ xs) (suc i) d h l = all_at P xs i d h.1 (omega (arith, l))

-- the zone of a number is a part of the compounds
pub zone_at : (ps : List Compound) (zones : List Run) (i : ℕ) (run : Run) → AreZones 0 ps zones → i < length zones → run ≡ get_or zones i run → IsPart ps run
zone_at ps zones i run h l is = subst (IsPart ps) (sym is) (all_at (IsPart ps) zones i run (all_zones [] ps zones h) l)

-- ---- the zones before, of and behind a compound

-- the zones of compounds are those before one of them, its own and those behind it
pub zones_parted : (n : ℕ) (front back : List Compound) (own : Compound) (zones : List Run) → AreZones n (front ++ own ∷ back) zones
    → (a : List Run) × (o : List Run) × (b : List Run) × (zones ≡ a ++ (o ++ b)) × AreZones n front a × AreZonesOf (n + length front) own.src.now o × AreZones (n + length front + 1) back b
zones_parted n [] back own zones (o, b, joined, of, rest) =
    let same : n ≡ n + 0 = omega arith in
    ([], o, b, joined, refl, subst (λ k. AreZonesOf k own.src.now o) same of, subst (λ k. AreZones (k + 1) back b) same rest)
zones_parted n (p ∷ ps) back own zones (po, others, joined, of, rest) =
    let (a, o, b, parts, front, own_zones, behind) = zones_parted (n + 1) ps back own others rest in
    let same : n + 1 + length ps ≡ n + length (p ∷ ps) = omega arith in
    (po ++ a, o, b, joined ∙ ap (λ l. po ++ l) parts ∙ sym (append_assoc po a (o ++ b)), (po, a, refl, of, front), subst (λ k. AreZonesOf k own.src.now o) same own_zones, subst (λ k. AreZones (k + 1) back b) same behind)

-- the zones of the compounds of two lists come one after the other
pub zones_joined : (n : ℕ) (front rest : List Compound) (a r : List Run) → AreZones n front a → AreZones (n + length front) rest r → AreZones n (front ++ rest) (a ++ r)
zones_joined n [] rest a r h g =
    let same : n + 0 ≡ n = omega arith in
    subst (λ l. AreZones n rest (l ++ r)) (sym h) (subst (λ k. AreZones k rest r) same g)
zones_joined n (p ∷ ps) rest a r (po, others, joined, of, more) g =
    let same : n + length (p ∷ ps) ≡ n + 1 + length ps = omega arith in
    (po, others ++ r, ap (λ l. l ++ r) joined ∙ append_assoc po others r, of, zones_joined (n + 1) ps rest others r more (subst (λ k. AreZones k rest r) same g))

-- ---- renumbered by two

runs_shifted : (number : ℕ) (text : List ℕ) (at : ℕ) (runs : List Run) → AreRunsFrom number text at runs → AreRunsFrom (number + 2) text at (map shifted runs)
runs_shifted number text at [] h = h
runs_shifted number text at (run ∷ runs) h = (
  record {
    part = record { number_is = ap (λ n. n + 2) h.0.part.number_is; order = h.0.part.order; first = h.0.part.first; last = h.0.part.last };
    some = h.0.some;
    start = h.0.start;
    front = h.0.front;
    solid = h.0.solid;
  },
  runs_shifted number text run.end runs h.1,
)

shifted_by : (t : Bool) (x : Run) (xs : List Run) → map shifted (if t then x ∷ xs else xs) ≡ (if t then shifted x ∷ map shifted xs else map shifted xs)
shifted_by true x xs = refl
shifted_by false x xs = refl

cuttable-shifted : (runs : List Run) → map shifted (cuttable runs) ≡ cuttable (map shifted runs)
cuttable-shifted [] = refl
cuttable-shifted (x ∷ xs) = shifted_by (may_be_cut x) x (cuttable xs) ∙ ap (λ l. if may_be_cut x then shifted x ∷ l else l) (cuttable-shifted xs)

-- compounds with numbers two higher have their zones two numbers on
pub zones_shifted : (n : ℕ) (ps : List Compound) (zones : List Run) → AreZones n ps zones → AreZones (n + 2) ps (map shifted zones)
zones_shifted n [] zones h = ap (map shifted) h
zones_shifted n (p ∷ ps) zones (own, others, joined, (runs, from, is), rest) =
    let next : n + 1 + 2 ≡ n + 2 + 1 = omega arith in (
      map shifted own,
      map shifted others,
      ap (map shifted) joined ∙ map-append shifted own others,
      (map shifted runs, runs_shifted n p.src.now 0 runs from, ap (map shifted) is ∙ cuttable-shifted runs),
      subst (λ k. AreZones k ps (map shifted others)) next (zones_shifted (n + 1) ps others rest),
    )

-- ---- those before a compound, and those behind it

numbers : (n : ℕ) (ps : List Compound) (zones : List Run) → AreZones n ps zones → AllByRecursion (λ r. (n ≤ r.compound) × (r.compound < n + length ps)) zones
numbers n [] zones h = subst (AllByRecursion (λ r. (n ≤ r.compound) × (r.compound < n + 0))) (sym h) tt
numbers n (p ∷ ps) zones (own, others, joined, of, rest) =
    let P : Run → Type 0 = λ r. (n ≤ r.compound) × (r.compound < n + length (p ∷ ps)) in
    let here = all_each (IsTextPart n p.src.now) P (λ r g. (omega (arith, g.number_is), omega (arith, g.number_is))) own (all_own n p.src.now own of) in
    let there = all_each (λ r. (n + 1 ≤ r.compound) × (r.compound < n + 1 + length ps)) P (λ r g. (omega (arith, g.0), omega (arith, g.1))) others (numbers (n + 1) ps others rest) in
    subst (AllByRecursion P) (sym joined) (all_joined P own others here there)

by_test : (t : Bool) (x : Run) (xs ys : List Run) → (if t then x ∷ (xs ++ ys) else (xs ++ ys)) ≡ (if t then x ∷ xs else xs) ++ ys
by_test true x xs ys = refl
by_test false x xs ys = refl

before-append : (c : ℕ) (xs ys : List Run) → before_of c (xs ++ ys) ≡ before_of c xs ++ before_of c ys
before-append c [] ys = refl
before-append c (x ∷ xs) ys = ap (λ l. if nat_lt x.compound c then x ∷ l else l) (before-append c xs ys) ∙ by_test (nat_lt x.compound c) x (before_of c xs) (before_of c ys)

behind-append : (c : ℕ) (xs ys : List Run) → behind_of c (xs ++ ys) ≡ behind_of c xs ++ behind_of c ys
behind-append c [] ys = refl
behind-append c (x ∷ xs) ys = ap (λ l. if nat_lt c x.compound then shifted x ∷ l else l) (behind-append c xs ys) ∙ by_test (nat_lt c x.compound) (shifted x) (behind_of c xs) (behind_of c ys)

is_less : (m n : ℕ) → m < n → nat_lt m n ≡ true
is_less m n l = grind (arith, nat_tests)

not_less : (m n : ℕ) → n ≤ m → nat_lt m n ≡ false
not_less m n l = grind (arith, nat_tests)

before_all : (c : ℕ) (xs : List Run) → AllByRecursion (λ r. r.compound < c) xs → before_of c xs ≡ xs
before_all c [] h = refl
before_all c (x ∷ xs) h = ap (λ t. if t then x ∷ before_of c xs else before_of c xs) (is_less x.compound c h.0) ∙ ap (λ l. x ∷ l) (before_all c xs h.1)

before_none : (c : ℕ) (xs : List Run) → AllByRecursion (λ r. c ≤ r.compound) xs → before_of c xs ≡ []
before_none c [] h = refl
before_none c (x ∷ xs) h = ap (λ t. if t then x ∷ before_of c xs else before_of c xs) (not_less x.compound c h.0) ∙ before_none c xs h.1

behind_all : (c : ℕ) (xs : List Run) → AllByRecursion (λ r. c < r.compound) xs → behind_of c xs ≡ map shifted xs
behind_all c [] h = refl
behind_all c (x ∷ xs) h = ap (λ t. if t then shifted x ∷ behind_of c xs else behind_of c xs) (is_less c x.compound h.0) ∙ ap (λ l. shifted x ∷ l) (behind_all c xs h.1)

behind_none : (c : ℕ) (xs : List Run) → AllByRecursion (λ r. r.compound ≤ c) xs → behind_of c xs ≡ []
behind_none c [] h = refl
behind_none c (x ∷ xs) h = ap (λ t. if t then shifted x ∷ behind_of c xs else behind_of c xs) (not_less c x.compound h.0) ∙ behind_none c xs h.1

-- the zones after a cut
pub zones_cut : (c : ℕ) (front back : List Compound) (own head mark tail : Compound) (zones oh om ot now : List Run) → length front ≡ c → AreZones 0 (front ++ own ∷ back) zones → AreZonesOf c head.src.now oh → AreZonesOf (c + 1) mark.src.now om
    → AreZonesOf (c + 2) tail.src.now ot → now ≡ before_of c zones ++ (oh ++ (om ++ (ot ++ behind_of c zones))) → AreZones 0 (front ++ head ∷ mark ∷ tail ∷ back) now
zones_cut c front back own head mark tail zones oh om ot now number h zh zm zt is =
    let (a, o, b, parts, za, zo, zb) = zones_parted 0 front back own zones h in
    let na = all_each (λ r. (0 ≤ r.compound) × (r.compound < 0 + length front)) (λ r. r.compound < c) (λ r g. omega (arith, g.1, number)) a (numbers 0 front a za) in
    let na' = all_each (λ r. r.compound < c) (λ r. r.compound ≤ c) (λ r g. omega (arith, g)) a na in
    let no = all_own (0 + length front) own.src.now o zo in
    let no_low = all_each (IsTextPart (0 + length front) own.src.now) (λ r. c ≤ r.compound) (λ r g. omega (arith, g.number_is, number)) o no in
    let no_high = all_each (IsTextPart (0 + length front) own.src.now) (λ r. r.compound ≤ c) (λ r g. omega (arith, g.number_is, number)) o no in
    let nb = all_each (λ r. (0 + length front + 1 ≤ r.compound) × (r.compound < 0 + length front + 1 + length back)) (λ r. c < r.compound) (λ r g. omega (arith, g.0, number)) b (numbers (0 + length front + 1) back b zb) in
    let nb' = all_each (λ r. c < r.compound) (λ r. c ≤ r.compound) (λ r g. omega (arith, g)) b nb in
    let before : before_of c zones ≡ a =
    ap (before_of c) parts ∙ before-append c a (o ++ b) ∙ ap (λ l. l ++ before_of c (o ++ b)) (before_all c a na) ∙ ap (λ l. a ++ l) (before-append c o b ∙ ap (λ l. l ++ before_of c b) (before_none c o no_low) ∙ before_none c b nb') ∙ append-nil a in
    let behind : behind_of c zones ≡ map shifted b =
    ap (behind_of c) parts ∙ behind-append c a (o ++ b) ∙ ap (λ l. l ++ behind_of c (o ++ b)) (behind_none c a na') ∙ behind-append c o b ∙ ap (λ l. l ++ behind_of c b) (behind_none c o no_high) ∙ behind_all c b nb in
    let here : c ≡ 0 + length front = omega (arith, number) in
    let last : 0 + length front + 1 + 2 ≡ c + 1 + 1 + 1 = omega (arith, number) in
    let two : c + 2 ≡ c + 1 + 1 = omega arith in
    let zs = zones_shifted (0 + length front + 1) back b zb in
    let rest : AreZones c (head ∷ mark ∷ tail ∷ back) (oh ++ (om ++ (ot ++ map shifted b))) =
    (oh, om ++ (ot ++ map shifted b), refl, zh, (om, ot ++ map shifted b, refl, zm, (ot, map shifted b, refl, subst (λ k. AreZonesOf k tail.src.now ot) two zt, subst (λ k. AreZones k back (map shifted b)) last zs))) in
    let all = zones_joined 0 front (head ∷ mark ∷ tail ∷ back) a (oh ++ (om ++ (ot ++ map shifted b))) za (subst (λ k. AreZones k (head ∷ mark ∷ tail ∷ back) (oh ++ (om ++ (ot ++ map shifted b)))) here rest) in
    let same : a ++ (oh ++ (om ++ (ot ++ map shifted b))) ≡ now = ap (λ l. l ++ (oh ++ (om ++ (ot ++ map shifted b)))) (sym before) ∙ ap (λ l. before_of c zones ++ (oh ++ (om ++ (ot ++ l)))) (sym behind) ∙ sym is in
    subst (AreZones 0 (front ++ head ∷ mark ∷ tail ∷ back)) same all

-- one run more of those before, or behind
one_by : (t : Bool) (x : Run) (xs : List Run) → (if t then x ∷ xs else xs) ≡ (if t then x ∷ [] else []) ++ xs
one_by true x xs = refl
one_by false x xs = refl

-- one run more is passed, and kept if its compound is before this one
pub before_more : (c i : ℕ) (all old now after : List Run) (d : Run) → i < length all → now ++ before_of c (drop i all) ≡ old → after ≡ now ++ (if nat_lt (get_or all i d).compound c then get_or all i d ∷ [] else []) → after ++ before_of c (drop (i + 1) all) ≡ old
before_more c i all old now after d l h added =
    let x = get_or all i d in
    let step : before_of c (drop i all) ≡ (if nat_lt x.compound c then x ∷ [] else []) ++ before_of c (drop (i + 1) all) = at_drop_more (before_of c) all i d l ∙ one_by (nat_lt x.compound c) x (before_of c (drop (i + 1) all)) in
    ap (λ r. r ++ before_of c (drop (i + 1) all)) added ∙ append_assoc now (if nat_lt x.compound c then x ∷ [] else []) (before_of c (drop (i + 1) all)) ∙ ap (λ r. now ++ r) (sym step) ∙ h

-- one run more is passed, and kept two numbers on if its compound is behind this one
pub behind_more : (c i : ℕ) (all old now after : List Run) (d : Run) → i < length all → now ++ behind_of c (drop i all) ≡ old → after ≡ now ++ (if nat_lt c (get_or all i d).compound then shifted (get_or all i d) ∷ [] else []) → after ++ behind_of c (drop (i + 1) all) ≡ old
behind_more c i all old now after d l h added =
    let x = get_or all i d in
    let step : behind_of c (drop i all) ≡ (if nat_lt c x.compound then shifted x ∷ [] else []) ++ behind_of c (drop (i + 1) all) = at_drop_more (behind_of c) all i d l ∙ one_by (nat_lt c x.compound) (shifted x) (behind_of c (drop (i + 1) all)) in
    ap (λ r. r ++ behind_of c (drop (i + 1) all)) added ∙ append_assoc now (if nat_lt c x.compound then shifted x ∷ [] else []) (behind_of c (drop (i + 1) all)) ∙ ap (λ r. now ++ r) (sym step) ∙ h

-- the zones after a cut, made so
pub replaced_zones : (c : ℕ) (front back : List Compound) (own head mark tail : Compound) (zones now : List Run) → length front ≡ c → AreZones 0 (front ++ own ∷ back) zones → mark.src.now ≡ 226 ∷ 128 ∷ 166 ∷ [] → AreReplaced c head.src.now tail.src.now zones now
    → AreZones 0 (front ++ head ∷ mark ∷ tail ∷ back) now
replaced_zones c front back own head mark tail zones now number h text r =
    zones_cut c front back own head mark tail zones r.of_head r.of_mark r.of_tail now number h r.head_zones (subst (λ t. AreZonesOf (c + 1) t r.of_mark) (sym text) r.mark_zones) r.tail_zones r.parts

-- the zones after a cut, where two texts are what it leaves of its compound
pub cut_zones : (number start end : ℕ) (before after : List Compound) (p : Compound) (head tail : List ℕ) (zones now : List Run) (h : CutsOut number start end before after) → p ≡ h.inside.own → head ≡ take start p.src.now
    → tail ≡ drop end p.src.now → AreZones 0 before zones → AreReplaced number head tail zones now → AreZones 0 after now
cut_zones number start end before after p head tail zones now h same head_is tail_is old r =
    let left : head ≡ h.head.src.now = head_is ∙ ap (λ (q : Compound). take start q.src.now) same ∙ sym h.head_text in
    let right : tail ≡ h.tail.src.now = tail_is ∙ ap (λ (q : Compound). drop end q.src.now) same ∙ sym h.tail_text in
    let parted = subst (λ ps. AreZones 0 ps zones) h.inside.parts old in
    let replaced = subst (λ t. AreReplaced number t h.tail.src.now zones now) left (subst (λ t. AreReplaced number head t zones now) right r) in
    subst (λ ps. AreZones 0 ps now) (sym h.parts) (replaced_zones number h.inside.front h.inside.back h.inside.own h.head h.mark h.tail zones now h.inside.number_is parted (ap (λ (r : FlaggedRun). r.text) h.ellipsis) replaced)

-- the zones' compounds are numbered low enough
pub numbers_fit : (ps : List Compound) (zones : List Run) → AreZones 0 ps zones → length ps + 2 < 2 ^ 64 → AllByRecursion (λ run. run.compound + 2 < 2 ^ 64) zones
numbers_fit ps zones h small = all_each (λ r. (0 ≤ r.compound) × (r.compound < 0 + length ps)) (λ run. run.compound + 2 < 2 ^ 64) (λ r g. omega (arith, g.1, small)) zones (numbers 0 ps zones h)

-- five lists put one after the other
pub five_parts : (first last oh om ot r0 r1 r2 r3 r4 r5 : List Run) → r0 ≡ [] → r1 ≡ r0 ++ first → r2 ≡ r1 ++ oh → r3 ≡ r2 ++ om → r4 ≡ r3 ++ ot → r5 ≡ r4 ++ last → r5 ≡ first ++ (oh ++ (om ++ (ot ++ last)))
five_parts first last oh om ot r0 r1 r2 r3 r4 r5 e0 e1 e2 e3 e4 e5 =
    let one : r1 ≡ first = e1 ∙ ap (λ l. l ++ first) e0 in
    e5 ∙ ap (λ l. l ++ last) (e4 ∙ ap (λ l. l ++ ot) (e3 ∙ ap (λ l. l ++ om) (e2 ∙ ap (λ l. l ++ oh) one)))
    ∙ append_assoc ((first ++ oh) ++ om) ot last ∙ append_assoc (first ++ oh) om (ot ++ last) ∙ append_assoc first oh (om ++ (ot ++ last))
