-- Brackets: which make links and images. A closing bracket belongs to the nearest that is open. In a link there is no other link: of the
-- brackets around one each remembers it.
use Rattle.std.specs.Prelude.{ℕ, nat_lt, ◌&&◌, not, Bool, true, false, if◌then◌else◌, List, [], ◌∷◌, ◌++◌, length, drop, take, map, Option, Some, None}
use Rattle.markdown_emphasis.specs.declared.runs.Run.{Run}
use Rattle.markdown_emphasis.specs.declared.runs.Pair.{Pair}
use Rattle.markdown_emphasis.specs.Matching.{matches}
use Rattle.markdown_emphasis.specs.Pieces.{moved}
use Rattle.markdown_brackets.specs.Targets.{target_of}
use Rattle.markdown_brackets.specs.declared.targets.Target.{Target}
use Rattle.markdown_brackets.specs.declared.brackets.Bracket.{Bracket}
use Rattle.markdown_brackets.specs.declared.brackets.Open.{Open}
use Rattle.markdown_brackets.specs.declared.brackets.Placed.{Placed}
use Rattle.markdown_brackets.specs.declared.brackets.Link.{Link}

-- What there is before some place of a text: the brackets that are open, the nearest first; the runs that no link holds, in their order; the
-- pairs of those that links hold.
pub record Reading : Type 0 where
  pub brackets : List Open
  pub runs : List Placed
  pub pairs : List Pair

-- before a text no bracket is open, and there is no run and no pair
abbrev pub nothing_read : Reading
nothing_read = record { brackets = []; runs = []; pairs = [] }

-- whether no bracket is open
abbrev pub is_free : List Open → Bool
is_free [] = true
is_free (o ∷ os) = false

-- one more bracket that is open
abbrev pub with_bracket : (image : Bool) (piece at : ℕ) → Reading → Reading
with_bracket image piece at r =
    record r { brackets = record { bracket = record { image = image; piece = piece; at = at; runs = length r.runs }; dead = false } ∷ r.brackets }

-- one more run that no link holds
abbrev pub with_run : ℕ → Run → Reading → Reading
with_run place run r = record r { runs = r.runs ++ record { place = place; run = run } ∷ [] }

-- ---- a closing bracket

-- the nearest bracket that is open, if there is one
abbrev pub first_open : List Open → Option Open
first_open [] = None
first_open (o ∷ os) = Some o

-- the nearest bracket is open no more
abbrev pub without_first : Reading → Reading
without_first r = record r { brackets = drop 1 r.brackets }

-- the piece that a run is
abbrev pub place_of : Placed → ℕ
place_of p = p.place

-- the run itself, wherever it is
abbrev pub run_of : Placed → Run
run_of p = p.run

-- the pairs of some runs that match among themselves, as pairs of pieces
abbrev pub inside_pairs : List Placed → List Pair
inside_pairs placed = map (moved (map place_of placed)) (matches (map run_of placed))

-- a bracket with a link inside
abbrev pub kill : Open → Open
kill o = record o { dead = true }

-- all brackets around a link have one inside
abbrev pub killed : Bool → Reading → Reading
killed image r = if image then r else record r { brackets = map kill r.brackets }

-- a link, or an image, from a bracket on: its runs match among themselves, and are gone
abbrev pub linked : Bracket → Reading → Reading
linked b r = killed b.image (record { brackets = r.brackets; runs = take b.runs r.runs; pairs = r.pairs ++ inside_pairs (drop b.runs r.runs) })

-- What a closing bracket makes: a link, an image or neither, and what there is behind it.
pub record Closed : Type 0 where
  pub link : Option Link
  pub reading : Reading

-- the closing bracket makes neither a link nor an image
abbrev pub unlinked : Reading → Closed
unlinked r = record { link = None; reading = r }

-- a target makes a link or an image of the brackets; without one they are text
abbrev pub linked_by : Bracket → Option Target → Reading → Closed
linked_by b None r = unlinked r
linked_by b (Some t) r = record { link = Some (record { image = b.image; opener = b.piece; target = t }); reading = linked b r }

-- the target of brackets that end at these places
abbrev pub target_at : List (List ℕ) → List ℕ → ℕ → ℕ → Option Target
target_at labels text at after = if nat_lt after at then None else target_of labels (drop at text) (drop after text)

-- the closing bracket makes one with this open bracket, but no link around a link
abbrev pub closed_with : List (List ℕ) → List ℕ → ℕ → Option Open → Reading → Closed
closed_with labels text after None r = unlinked r
closed_with labels text after (Some o) r =
    if o.dead && not o.bracket.image then unlinked r else linked_by o.bracket (target_at labels text o.bracket.at after) r

-- a closing bracket, which ends at a place of the text: it closes the nearest open one, which is open no more
abbrev pub closed : List (List ℕ) → List ℕ → ℕ → Reading → Closed
closed labels text after r = closed_with labels text after (first_open r.brackets) (without_first r)

-- the pairs at the end of the text: the runs that no link holds match among themselves
abbrev pub finished : Reading → List Pair
finished r = r.pairs ++ inside_pairs r.runs
