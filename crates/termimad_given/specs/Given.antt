-- What the system gives a program: its arguments, and files with their texts.
use Rattle.std.specs.Prelude.{◌≡◌, ℕ, List, drop, map, string_bytes, Result, Ok, Err, ⊤}
use Rattle.std.specs.Vec.Iter.{into_iter_items}
use Rattle.std.specs.declared.alloc.Global.{Global}
use Rattle.std.specs.declared.string.String.{String}
use Rattle.std.specs.declared.vec.IntoIter.{IntoIter}
use Rattle.termimad_given.specs.declared.arguments.NoWords.{NoWords}
use Rattle.termimad_given.specs.declared.arguments.NoWords.TheVariants.{Undecoded, Memory}

-- ---- arguments

-- arguments, the program's name first
abbrev pub Args : Type 0
Args = IntoIter (String Global) Global

-- the words behind the program's name, of the arguments that are given
abbrev pub GivesWords : {E : Type 0} → Result Args E → List (List ℕ) → Type 0
GivesWords (Ok args) words = words ≡ map string_bytes (drop 1 (into_iter_items args))
GivesWords (Err e) words = ⊥

-- why there are no words: the arguments are refused, or there is no memory
abbrev pub LacksWords : {E : Type 0} → Result Args E → NoWords → Type 0
LacksWords given Memory = ⊤
LacksWords (Ok args) Undecoded = ⊥
LacksWords (Err e) Undecoded = ⊤

-- ---- files

-- which bytes the text of a name may have
abbrev pub Held : Type 1
Held = List ℕ → List ℕ → Type 0

-- files, of which nothing is known
abbrev pub files : Held
files name bytes = ⊤
