-- Which rules may begin with a byte. (Tables have them by it, for speed alone.)
use Rattle.std.specs.Prelude.{ℕ, zero, suc, ◌+◌, ◌-◌, ◌==◌, Bool, true, if◌then◌else◌, List, [], ◌∷◌, length, map, filter, slice_index, slice_index_or}
use Rattle.std.specs.List.{list_any, range_with_len}
use Rattle.std.specs.Borrow.{Bor}
use Rattle.code_tables.specs.declared.rules.RuleRow.{RuleRow}
use Rattle.code_tables.specs.declared.rules.ModeRow.{ModeRow}
use Rattle.code_tables.specs.Rules.{Rule, rule_of}

-- without a mark a rule may begin with any byte
abbrev pub may_begin_with : ℕ → List ℕ → Bool
may_begin_with b [] = true
may_begin_with b (m ∷ ms) = m == b

-- a rule may begin with the byte
abbrev pub may_begin : ℕ → Rule → Bool
may_begin b r = may_begin_with b r.mark

-- a rule has no mark
abbrev pub is_markless : Rule → Bool
is_markless r = length r.mark == 0

-- the byte is one of these
abbrev pub is_head : List ℕ → ℕ → Bool
is_head hs b = list_any (λ h. h == b) hs

-- the byte is put in front of those that are there, if it isn't among them
abbrev pub one_more : List ℕ → ℕ → List ℕ
one_more hs m = if is_head hs m then hs else m ∷ hs

-- the byte that a mark begins with is put in front, if there is a mark
abbrev pub with_head : List ℕ → List ℕ → List ℕ
with_head [] hs = hs
with_head (m ∷ ms) hs = one_more hs m

-- the bytes that the marks of rules begin with, each once
abbrev pub heads_of : List Rule → List ℕ
heads_of [] = []
heads_of (r ∷ rs) = with_head r.mark (heads_of rs)

-- One place further, but for the first.
abbrev pub further : ℕ → ℕ
further zero = zero
further (suc n) = suc (suc n)

-- the place of a byte among these, from 1 on; 0 if it isn't there
abbrev pub place : List ℕ → ℕ → ℕ
place [] b = 0
place (h ∷ hs) b = if h == b then 1 else further (place hs b)

-- for each byte its place, as a character from 0 on
abbrev pub places : List ℕ → List ℕ
places hs = map (λ b. 48 + place hs b) (range_with_len 0 256)

-- Rules by the bytes that their marks begin with.
pub record Heads : Type 0 where
  pub places : List ℕ  -- where the rules of a byte are
  pub rules : List (List Rule)

-- of these rules those that may begin with the byte
abbrev pub beginning : List Rule → ℕ → List Rule
beginning rules b = filter (may_begin b) rules

-- the rules of a list by the bytes that their marks begin with: first those without a mark
unfoldable pub by_head : List Rule → Heads
by_head rules = record { places = places (heads_of rules); rules = filter is_markless rules ∷ map (beginning rules) (heads_of rules) }

-- the rules that stand for a byte
abbrev pub rules_with : Heads → ℕ → List Rule
rules_with heads b = slice_index_or heads.rules (slice_index heads.places b - 48) []

-- ---- the code's tables

-- the rules that rows of the code's tables say
abbrev pub rules_of : Bor (List RuleRow) → List Rule
rules_of rows = map rule_of rows.now

-- the rules of a mode that its row says
abbrev pub heads_in : ModeRow → Heads
heads_in m = record { places = m.places.now; rules = map rules_of m.rules.now }
