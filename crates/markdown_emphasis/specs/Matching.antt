-- Which marks of emphasis match, as CommonMark has it: each run closes what it can, the nearest opener first, and then may
-- open. Nothing is remembered between two searches.
use Rattle.std.specs.Prelude.{ℕ, zero, suc, ◌+◌, ◌-◌, ◌%◌, ◌==◌, nat_lt, nat_le, ◌&&◌, ◌||◌, not, Bool, true, false, if◌then◌else◌, List, [], ◌∷◌, ◌++◌}
use Rattle.markdown_emphasis.specs.declared.runs.Sign.{Sign}
use Rattle.markdown_emphasis.specs.declared.runs.Sign.TheVariants.{Star, Underscore, Tilde}
use Rattle.markdown_emphasis.specs.declared.runs.Run.{Run}
use Rattle.markdown_emphasis.specs.declared.runs.Mark.{Mark}
use Rattle.markdown_emphasis.specs.declared.runs.Pair.{Pair}

-- ---- two runs

-- both signs are the same
abbrev pub is_same_sign : Sign → Sign → Bool
is_same_sign Star Star = true
is_same_sign Underscore Underscore = true
is_same_sign Tilde Tilde = true
is_same_sign _ _ = false

-- whether the lengths of two runs add up to a multiple of three, and aren't multiples of three themselves
abbrev pub add_up_to_threes : ℕ → ℕ → Bool
add_up_to_threes a b = (a + b) % 3 == 0 && not (a % 3 == 0 && b % 3 == 0)

-- Whether their lengths allow it. Of stars and underscores: not where one of the two can both open and close and they add up to
-- threes (rules 9 and 10). Of tildes: one or two, as many in both.
abbrev pub lengths_fit : Sign → Run → Run → Bool
lengths_fit Tilde opener closer = opener.count == closer.count && nat_le closer.count 2
lengths_fit _ opener closer = not ((opener.closes || closer.opens) && add_up_to_threes opener.count closer.count)

-- whether a run can be closed by a later one
abbrev pub fits : Run → Run → Bool
fits opener closer = is_same_sign opener.sign closer.sign && opener.opens && closer.closes && lengths_fit closer.sign opener closer

-- ---- one pair

-- how many marks a pair takes of each of its runs: two where both have two (strong), else one; and all tildes
abbrev pub taken_by : Sign → ℕ → ℕ → ℕ
taken_by Tilde opener closer = closer
taken_by _ opener closer = if nat_le 2 opener && nat_le 2 closer then 2 else 1

-- how many marks a pair takes of each of these two, by what is left of them
abbrev pub taken : Mark → Mark → ℕ
taken opener closer = taken_by closer.run.sign opener.left closer.left

-- a run with fewer marks left
abbrev pub less : ℕ → Mark → Mark
less n mark = record mark { left = mark.left - n }

-- the openers after one that a pair took so many marks of: it stays if it has more
abbrev pub with_rest : ℕ → Mark → List Mark → List Mark
with_rest n opener openers = if nat_lt n opener.left then less n opener ∷ openers else openers

-- A run that closes: the openers before it, nearest first, what is left of it, and the pairs so far.
pub record Closing : Type 0 where
  pub openers : List Mark
  pub closer : Mark
  pub pairs : List Pair

-- the openers from the nearest that fits on
abbrev pub nearest : Run → List Mark → List Mark
nearest closer [] = []
nearest closer (opener ∷ openers) = if fits opener.run closer then opener ∷ openers else nearest closer openers

-- a pair with the first of these openers; what was before it is dropped
abbrev pub pair_with : List Mark → Closing → Closing
pair_with [] c = c
pair_with (opener ∷ openers) c =
    let n = taken opener c.closer in
    record {
      openers = with_rest n opener openers;
      closer = less n c.closer;
      pairs = c.pairs ++ record { opener = opener.place; closer = c.closer.place; sign = c.closer.run.sign; count = n } ∷ [];
    }

-- one pair, if marks are left and an opener fits
abbrev pub close_once : Closing → Closing
close_once c = if nat_lt 0 c.closer.left then pair_with (nearest c.closer.run c.openers) c else c

-- ---- all pairs

-- at most so many pairs
abbrev pub close_times : ℕ → Closing → Closing
close_times zero c = c
close_times (suc n) c = close_times n (close_once c)

-- all pairs that a run closes: no more than it has marks
abbrev pub close_run : Closing → Closing
close_run c = close_times c.closer.left c

-- what there is between two runs: the openers, nearest first, and the pairs so far
pub record Matching : Type 0 where
  pub openers : List Mark
  pub pairs : List Pair

-- a run after it has closed what it could: it may open now
abbrev pub opened : Closing → Matching
opened c =
    record { openers = if c.closer.run.opens && nat_lt 0 c.closer.left then c.closer ∷ c.openers else c.openers; pairs = c.pairs }

-- a run closes what it can, and then may open
abbrev pub after_run : Matching → ℕ → Run → Matching
after_run m place run =
    opened (close_run (record { openers = m.openers; closer = record { place = place; run = run; left = run.count }; pairs = m.pairs }))

-- the pairs of the runs from a place on
abbrev pub matches_from : Matching → ℕ → List Run → List Pair
matches_from m place [] = m.pairs
matches_from m place (run ∷ runs) = matches_from (after_run m place run) (place + 1) runs

-- before the first run
abbrev pub no_runs : Matching
no_runs = record { openers = []; pairs = [] }

-- the pairs of runs in a row, in the order in which they close
abbrev pub matches : List Run → List Pair
matches = matches_from no_runs 0
