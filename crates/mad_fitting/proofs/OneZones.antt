-- The runs of compounds that may be cut are told by the compounds.
use Rattle.std.proofs.Common.{◌≡◌, ℕ, ◌+◌, ◌-◌, ◌<◌, ◌≤◌, inl, inr, false, List, [], ◌∷◌, ◌++◌, length, chars, take, drop, slice_range, refl, sym, ap, ◌∙◌, arith, subst}
use Rattle.std.specs.Char.{is_whitespace}
use Rattle.std.specs.List.{AllByRecursion}
use Rattle.std.specs.Str.{trim_start}
use Rattle.std.proofs.Math.Seq.{take-add}
use Rattle.std.proofs.lemmas.Bool.{cases_lt, false≢true}
use Rattle.std.proofs.lemmas.List.{length-drop, length-take}
use Rattle.std.proofs.lemmas.List.Folds.{drop_split}
use Rattle.std.proofs.lemmas.Str.{chars-append, IsUtf8-between, IsUtf8-take}
use Rattle.mad_md.specs.declared.compound.Compound.{Compound}
use Rattle.mad_measure.specs.TextColumns.{columns}
use Rattle.mad_measure.proofs.AllLemmas.{all_back}
use Rattle.mad_fitting.specs.Pieces.{IsFrontOf, IsSolidFront}
use Rattle.mad_fitting.specs.Zones.{IsNextRun, AreRunsFrom, AreZonesOf, AreZones, cuttable}
use Rattle.mad_fitting.specs.declared.fronts.Front.{Front}
use Rattle.mad_fitting.specs.declared.parts.Run.{Run}
use Rattle.mad_fitting.proofs.PartLemmas.{first_of}
use Rattle.mad_fitting.proofs.ShorteningLemmas.{some_chars}

-- a front without whitespace isn't longer than one that ends at some
no_longer : (text : List ℕ) (a b : Front) → IsFrontOf text a → IsFrontOf text b → IsSolidFront text a → IsSolidFront text b → b.bytes ≤ a.bytes
no_longer text a b own other ends solid = elim (cases_lt a.bytes b.bytes) as (λ _. b.bytes ≤ a.bytes) [
  | inr within ↦ omega (arith, within)
  | inl less ↦
      let i = a.bytes in
      let j = b.bytes in
      let order : i ≤ j = omega (arith, less) in
      let between = slice_range text i j in
      let back = drop j text in
      let utf8 = IsUtf8-between text i j own.utf8 order own.border other.border in
      let (c, cs, e) = first_of (chars between) (some_chars between utf8 (omega (arith, less, other.border.0, length-take (j - i) (drop i text), length-drop i text))) in
      let after : chars (drop i text) ≡ c ∷ (cs ++ chars back) = ap chars (drop_split text i j order) ∙ chars-append between back utf8 ∙ ap (λ l. l ++ chars back) e in
      let white = ends.ended c (cs ++ chars back) after in
      let sum : j ≡ i + (j - i) = omega (arith, order) in
      let front : take j text ≡ take i text ++ between = ap (λ n. take n text) sum ∙ take-add i (j - i) text in
      let says : chars (take j text) ≡ chars (take i text) ++ c ∷ cs = ap chars front ∙ chars-append (take i text) between (IsUtf8-take text i own.utf8 own.border) ∙ ap (λ l. chars (take i text) ++ l) e in
      let none = all_back (λ x. is_whitespace x ≡ false) (chars (take i text)) (c ∷ cs) (subst (AllByRecursion (λ x. is_whitespace x ≡ false)) says solid.solid) in
      absurd (false≢true (sym none.0 ∙ white))
]

same_run : (r s : Run) → r.compound ≡ s.compound → r.start ≡ s.start → r.end ≡ s.end → r.columns ≡ s.columns → r ≡ s
same_run r s number start end wide =
    let a : ℕ → Run = λ n. record { compound = n; start = r.start; end = r.end; columns = r.columns } in
    let b : ℕ → Run = λ n. record { compound = s.compound; start = n; end = r.end; columns = r.columns } in
    let c : ℕ → Run = λ n. record { compound = s.compound; start = s.start; end = n; columns = r.columns } in
    let d : ℕ → Run = λ n. record { compound = s.compound; start = s.start; end = s.end; columns = n } in
    ap a number ∙ ap b start ∙ ap c end ∙ ap d wide

-- there is one next run
one_run : (number : ℕ) (text : List ℕ) (at : ℕ) (r s : Run) → IsNextRun number text at r → IsNextRun number text at s → r ≡ s
one_run number text at r s h g =
    let rest = trim_start (drop at text) in
    let m = r.end - r.start in
    let n = s.end - s.start in
    let a : Front = record { bytes = m; columns = r.columns } in
    let b : Front = record { bytes = n; columns = s.columns } in
    let less : n ≤ m = no_longer rest a b h.front g.front h.solid g.solid in
    let more : m ≤ n = no_longer rest b a g.front h.front g.solid h.solid in
    let bytes : m ≡ n = omega (arith, less, more) in
    let start : r.start ≡ s.start = omega (arith, h.start, g.start) in
    let end : r.end ≡ s.end = omega (arith, start, bytes, h.some, g.some) in
    same_run r s (h.part.number_is ∙ sym g.part.number_is) start end (h.front.counts ∙ ap (λ k. columns (chars (take k rest))) bytes ∙ sym g.front.counts)

-- a run isn't empty
no_run : (number : ℕ) (text : List ℕ) (at : ℕ) (run : Run) → IsNextRun number text at run → 0 < length (trim_start (drop at text))
no_run number text at run h = omega (arith, h.some, h.front.border.0)

one_runs : (number : ℕ) (text : List ℕ) (at : ℕ) (rs ss : List Run) → AreRunsFrom number text at rs → AreRunsFrom number text at ss → rs ≡ ss
one_runs number text at [] [] h g = refl
one_runs number text at [] (s ∷ ss) h g = absurd (omega (arith, h, no_run number text at s g.0))
one_runs number text at (r ∷ rs) [] h g = absurd (omega (arith, g, no_run number text at r h.0))
one_runs number text at (r ∷ rs) (s ∷ ss) h g =
    let same = one_run number text at r s h.0 g.0 in
    let others = one_runs number text r.end rs ss h.1 (subst (λ n. AreRunsFrom number text n ss) (ap (λ (x : Run). x.end) (sym same)) g.1) in
    ap (λ x. x ∷ rs) same ∙ ap (λ l. s ∷ l) others

-- a compound has one list of runs that may be cut
pub one_own : (number : ℕ) (text : List ℕ) (zs ws : List Run) → AreZonesOf number text zs → AreZonesOf number text ws → zs ≡ ws
one_own number text zs ws (rs, from, is) (ss, other, so) = is ∙ ap cuttable (one_runs number text 0 rs ss from other) ∙ sym so

-- compounds have one list of runs that may be cut
pub one_zones : (number : ℕ) (ps : List Compound) (zs ws : List Run) → AreZones number ps zs → AreZones number ps ws → zs ≡ ws
one_zones number [] zs ws h g = h ∙ sym g
one_zones number (p ∷ ps) zs ws (own, others, joined, of, rest) (mine, more, made, from, left) =
    joined ∙ ap (λ l. l ++ others) (one_own number p.src.now own mine of from) ∙ ap (λ l. mine ++ l) (one_zones (number + 1) ps others more rest left) ∙ sym made
