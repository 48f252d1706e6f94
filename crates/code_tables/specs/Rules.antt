-- What tables of languages are made of.
use Rattle.std.specs.Prelude.{ℕ, Bool, List, map}
use Rattle.std.specs.Borrow.{Bor}
use Rattle.code_tables.specs.declared.rules.Class.{Class}
use Rattle.code_tables.specs.declared.rules.Place.{Place}
use Rattle.code_tables.specs.declared.rules.Extent.{Extent}
use Rattle.code_tables.specs.declared.rules.Turn.{Turn}
use Rattle.code_tables.specs.declared.rules.Words.{Words}
use Rattle.code_tables.specs.declared.rules.RuleRow.{RuleRow}
use Rattle.code_tables.specs.declared.rules.ModeRow.{ModeRow}

-- A token begins at a place with a mark, goes as far as its extent says, and is followed, behind blanks, by one of some marks. Without a
-- mark it begins at no blank. What closes it, or stops it, is a part of its extent.
pub record Rule : Type 0 where
  pub place : Place
  pub mark : List ℕ
  pub extent : Extent
  pub close : List ℕ
  pub followed : List (List ℕ)
  pub class : Class
  pub turn : Turn

-- a rule that is made of these parts
abbrev pub rule : Place → List ℕ → Extent → List ℕ → List (List ℕ) → Class → Turn → Rule
rule place mark extent close followed class turn =
    record { place = place; mark = mark; extent = extent; close = close; followed = followed; class = class; turn = turn }

-- a word, and its class
pub record WordClass : Type 0 where
  pub word : List ℕ
  pub class : Class

-- a word that has this class
abbrev pub word : List ℕ → Class → WordClass
word w class = record { word = w; class = class }

-- What a mode of a language knows of words and numbers.
pub record Mode : Type 0 where
  pub words : Words  -- a word has the class that its list says
  pub starts : List ℕ  -- what else begins a word
  pub more : List ℕ  -- what else is in one
  pub otherwise : Class
  pub members : Bool  -- words behind a period are no such words
  pub capitals : Bool  -- words in capitals are names
  pub numbers : Bool  -- digits begin numbers
  pub folds : Bool  -- words have letters of any case

-- a mode that is made of these parts
abbrev pub mode : Words → (starts more : List ℕ) → Class → (members capitals numbers folds : Bool) → Mode
mode words starts more otherwise members capitals numbers folds =
    record { words = words; starts = starts; more = more; otherwise = otherwise; members = members; capitals = capitals; numbers = numbers; folds = folds }

-- ---- the code's tables

-- the bytes that are borrowed
abbrev pub bytes_of : Bor (List ℕ) → List ℕ
bytes_of s = s.now

-- the rule that a row of the code's tables says
abbrev pub rule_of : RuleRow → Rule
rule_of r = rule r.place r.mark.now r.extent r.close.now (map bytes_of r.followed.now) r.class r.turn

-- the word that an entry of the code's lists says
abbrev pub word_of : Bor (List ℕ) × Class → WordClass
word_of w = word w.0.now w.1

-- the mode that a row of the code's tables says
abbrev pub mode_of : ModeRow → Mode
mode_of m = mode m.words m.starts.now m.more.now m.otherwise m.members m.capitals m.numbers m.folds
