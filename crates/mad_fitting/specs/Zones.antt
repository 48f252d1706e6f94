-- The runs of compounds that may be cut in the middle.
use Rattle.std.specs.Prelude.{◌≡◌, ℕ, ◌+◌, ◌-◌, ◌<◌, ◌&&◌, Bool, nat_le, nat_lt, List, [], ◌∷◌, ◌++◌, length, drop, slice_index_or, if◌then◌else◌}
use Rattle.std.specs.Str.{trim_start}
use Rattle.mad_md.specs.declared.compound.Compound.{Compound}
use Rattle.mad_fitting.specs.Cuts.{IsTextPart, CutsPart}
use Rattle.mad_fitting.specs.Pieces.{IsFrontOf, IsSolidFront}
use Rattle.mad_fitting.specs.declared.parts.Run.{Run}
use Rattle.mad_fitting.specs.declared.zones.Zones.{Zones}

-- The run is the next one of a text, from a byte on: what comes after whitespace, as far as there is no more of it.
pub record IsNextRun (number : ℕ) (text : List ℕ) (at : ℕ) (run : Run) : Type 0 where
  pub part : IsTextPart number text run
  pub some : run.start < run.end
  pub start : run.start + length (trim_start (drop at text)) ≡ length text
  pub front : IsFrontOf (trim_start (drop at text)) (record { bytes = run.end - run.start; columns = run.columns })
  pub solid : IsSolidFront (trim_start (drop at text)) (record { bytes = run.end - run.start; columns = run.columns })

-- the runs of a text from a byte on, in order, to its end; after the last one there is only whitespace
abbrev pub AreRunsFrom : ℕ → List ℕ → ℕ → List Run → Type 0
AreRunsFrom number text at [] = length (trim_start (drop at text)) ≡ 0
AreRunsFrom number text at (run ∷ runs) = IsNextRun number text at run × AreRunsFrom number text run.end runs

-- a run of at least three columns and five bytes may be cut
abbrev pub may_be_cut : Run → Bool
may_be_cut run = nat_le 3 run.columns && nat_le 5 (run.end - run.start)

-- those of runs that may be cut
abbrev pub cuttable : List Run → List Run
cuttable [] = []
cuttable (run ∷ runs) = if may_be_cut run then run ∷ cuttable runs else cuttable runs

-- the runs of a compound that may be cut, in order
abbrev pub AreZonesOf : ℕ → List ℕ → List Run → Type 0
AreZonesOf number text zones = (runs : List Run) × AreRunsFrom number text 0 runs × (zones ≡ cuttable runs)

-- the runs of compounds that may be cut, in order; the first compound has this number
abbrev pub AreZones : ℕ → List Compound → List Run → Type 0
AreZones number [] zones = zones ≡ []
AreZones number (p ∷ ps) zones = (own : List Run) × (others : List Run) × (zones ≡ own ++ others) × AreZonesOf number p.src.now own × AreZones (number + 1) ps others

-- the runs that are kept
abbrev pub runs_of : Zones → List Run
runs_of zones = zones.runs.items

-- Of the kept runs that of a number is cut in the compounds, with so many columns too many, and this is gained.
pub record CutsRun (zones : Zones) (number excess gain : ℕ) (before after : List Compound) : Type 0 where
  pub run : Run
  pub is : run ≡ slice_index_or (runs_of zones) number run
  pub cuts : CutsPart run excess gain before after

-- a run of the compound two numbers on
abbrev pub shifted : Run → Run
shifted run = record run { compound = run.compound + 2 }

-- the runs of the compounds before this one; those of the compounds behind it, two numbers on
abbrev pub before_of : ℕ → List Run → List Run
before_of c [] = []
before_of c (x ∷ xs) = if nat_lt x.compound c then x ∷ before_of c xs else before_of c xs

-- the runs of the compounds behind this one, two numbers on
abbrev pub behind_of : ℕ → List Run → List Run
behind_of c [] = []
behind_of c (x ∷ xs) = if nat_lt c x.compound then shifted x ∷ behind_of c xs else behind_of c xs

-- the runs, with those of a head, an ellipsis and a tail in place of those of a compound
pub record AreReplaced (number : ℕ) (head tail : List ℕ) (all now : List Run) : Type 0 where
  pub of_head : List Run
  pub of_mark : List Run
  pub of_tail : List Run
  pub head_zones : AreZonesOf number head of_head
  pub mark_zones : AreZonesOf (number + 1) (226 ∷ 128 ∷ 166 ∷ []) of_mark
  pub tail_zones : AreZonesOf (number + 2) tail of_tail
  pub parts : now ≡ before_of number all ++ (of_head ++ (of_mark ++ (of_tail ++ behind_of number all)))
