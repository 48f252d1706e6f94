-- Compounds whose parts are cut, and what is still too many then.
use Rattle.std.proofs.Common.{◌≡◌, ℕ, ◌+◌, ◌<◌, List, refl, ◌∙◌, arith, subst}
use Rattle.std.specs.Prelude.{IfOk, Result, Ok, Err}
use Rattle.mad_md.specs.declared.compound.Compound.{Compound}
use Rattle.mad_fitting.specs.Parts.{AreGains}
use Rattle.mad_fitting.specs.Shortening.{IsEndReplaced}
use Rattle.mad_fitting.specs.Sweeps.{SweepsAll}
use Rattle.mad_fitting.specs.Thinning.{IsThinned}
use Rattle.mad_fitting.specs.Turns.{IsCutDown, IsCutInTurn, still_too_many}
use Rattle.mad_fitting.specs.declared.gains.Parts.{Parts}
use Rattle.mad_fitting.specs.declared.gains.Parts.TheVariants.{Runs, Wholes}
use Rattle.mad_fitting.specs.declared.sweeping.Sweep.{Sweep}
use Rattle.mad_fitting.specs.declared.turns.Turns.{Turns}
use Rattle.mad_fitting.proofs.CutLemmas.{thin_none}

-- compounds whose parts were cut in their turns are thinned
pub swept_thins : (kind : Parts) (excess : ℕ) (ps : List Compound) (turns : Turns) (now : Sweep) → 0 < excess → turns.excess ≡ excess → SweepsAll kind ps turns now → IsThinned excess ps now.compounds.items now.left
swept_thins kind excess ps turns now some is h = record {
  more = h.thinned.more;
  shortened = h.thinned.shortened;
  less = omega (arith, h.left, is);
  some = λ l. h.thinned.some (omega (arith, l, h.left, is));
  gone = omega (arith, h.left, is, h.thinned.columns);
  within = omega (arith, h.left, is, h.most, h.thinned.columns);
  exact = λ l. omega (arith, l, h.left, is, h.thinned.columns);
  still = λ z. absurd (omega (arith, z, some));
  none_empty = h.thinned.none_empty;
}

-- compounds whose parts were cut in their turns are cut in turn, the widest first
pub swept_turns : (kind : Parts) (excess : ℕ) (ps : List Compound) (turns : Turns) (now : Sweep) → 0 < excess → turns.excess ≡ excess → AreGains kind ps turns.gains.items → SweepsAll kind ps turns now → IsCutInTurn kind excess ps now.compounds.items
swept_turns kind excess ps turns now some is gains h = subst (λ e. IsCutInTurn kind e ps now.compounds.items) is (record {
  none = λ z. absurd (omega (arith, z, some, is));
  some = λ _. (turns.gains.items, gains, h.cut);
})

-- as many columns are left after all turns as are still too many
pub swept_left : (kind : Parts) (excess : ℕ) (ps : List Compound) (turns : Turns) (now : Sweep) → turns.excess ≡ excess → SweepsAll kind ps turns now → now.left ≡ still_too_many excess ps now.compounds.items
swept_left kind excess ps turns now is h = omega (arith, h.left, is, h.thinned.columns)

-- with nothing too many the compounds that stay are thinned
pub none_thins : (excess : ℕ) (ps : List Compound) → excess ≡ 0 → IsThinned excess ps ps 0
none_thins excess ps none = subst (λ l. IsThinned excess ps ps l) none (thin_none excess ps ps refl)

-- with nothing too many the compounds that stay are cut in turn
pub none_turns : (kind : Parts) (excess : ℕ) (ps : List Compound) → excess ≡ 0 → IsCutInTurn kind excess ps ps
none_turns kind excess ps none = record { none = λ _. refl; some = λ some. absurd (omega (arith, some, none)) }

-- first the runs, then the compounds, and then the end
pub cut_down : (excess middle left : ℕ) (ps words compounds result : List Compound) → IsThinned excess ps words middle → IsThinned middle words compounds left → IsCutInTurn Runs excess ps words → IsCutInTurn Wholes middle words compounds
    → middle ≡ still_too_many excess ps words → left ≡ still_too_many middle words compounds → (left ≡ 0 → result ≡ compounds) → (0 < left → IsEndReplaced (left + 1) compounds result) → IsCutDown excess ps result
cut_down excess middle left ps words compounds result first second runs wholes middle_is left_is done end =
    let whole : left ≡ still_too_many excess ps compounds = omega (arith, middle_is, left_is, first.gone, first.within, first.less, second.gone, second.within, second.less) in
    record {
      words = words;
      compounds = compounds;
      runs = runs;
      wholes = subst (λ e. IsCutInTurn Wholes e words compounds) middle_is wholes;
      done = λ z. done (whole ∙ z);
      end = λ some. subst (λ e. IsEndReplaced (e + 1) compounds result) whole (end (omega (arith, some, whole)));
    }

-- what follows from two clauses that have premises
pub both_ways : {T E : Type 0} (r : Result T E) (A B : Type 0) (P Q R : T → Type 0) → ((x : T) → (A → P x) → (B → Q x) → R x) → (A → IfOk r P) → (B → IfOk r Q) → IfOk r R
both_ways (Ok x) A B P Q R f p q = f x p q
both_ways (Err e) A B P Q R f p q = tt
