-- What members of an object say.
use Rattle.std.specs.Prelude.{◌≡◌, ℕ, nat_lt, Bool, List, [], ◌∷◌, ◌++◌, Option, Some, None, option_and_then, Result, Ok, Err, codes, string_bytes, if◌then◌else◌}
use Rattle.std.specs.Result.{result_map_both}
use Rattle.serde_json.specs.Data.{Data}
use Rattle.serde_json.specs.Find.{as_bool, as_number, as_u64, get}
use Rattle.mad_parse.specs.declared.tokens.StyleToken.{StyleToken}
use Rattle.mad_dressing.specs.declared.heading_marks.HeadingMarks.{HeadingMarks}
use Rattle.mad_page_skin.specs.declared.text_room.TextRoom.{TextRoom}
use Rattle.mad_json.specs.Faults.{SkinFault, ValueFault, at_key, wrong_kind}
use Rattle.mad_json.specs.declared.errors.SkinError.{SkinError}
use Rattle.mad_json.specs.declared.errors.SkinError.TheVariants.{WrongType, Memory}
use Rattle.mad_json.specs.Texts.{and_next, value_said}

-- an error that a member of this key is of another kind than its part, or out of memory
abbrev pub IsWrongType : List ℕ → SkinError → Type 0
IsWrongType key (WrongType k) = string_bytes k ≡ key
IsWrongType key Memory = Unit {0}
IsWrongType key _ = ⊥

-- what is read, or the fault of the member of this key
abbrev pub at_fault : {A : Type 0} → List ℕ → Result A ValueFault → Result A SkinFault
at_fault key said = result_map_both (λ x. x) (at_key key) said

-- a part as a member says it, if there is one, or as it was
abbrev pub part_found : {A : Type 0} → (List StyleToken → A) → List ℕ → A → Option Data → Result A SkinFault
part_found f key old None = Ok old
part_found f key old (Some d) = at_fault key (value_said f d)

-- a part as the member of its key says it, or as it was
abbrev pub part_under : {A : Type 0} → (List StyleToken → A) → Data → List ℕ × A → Result A SkinFault
part_under f d named = part_found f named.0 named.1 (get named.0 d)

-- so are all parts, after those that were said before, up to the first fault
abbrev pub parts_under : {A : Type 0} → (List StyleToken → A) → Data → List (List ℕ × A) → List A → Result (List A) SkinFault
parts_under f d [] said = Ok said
parts_under f d (named ∷ parts) said = and_next (part_under f d named) (λ part. parts_under f d parts (said ++ part ∷ []))

-- a count of levels, if a number says it that is below 256
abbrev pub rule_count : Option ℕ → Result ℕ SkinFault
rule_count None = Err (at_key (codes "rules") wrong_kind)
rule_count (Some n) = if nat_lt n 256 then Ok n else Err (at_key (codes "rules") wrong_kind)

-- how many levels of headings have rules, as a member says it, or as it was
abbrev pub rules_found : Option Data → ℕ → Result ℕ SkinFault
rules_found None old = Ok old
rules_found (Some d) old = rule_count (option_and_then as_u64 (as_number d))

-- true or false, if the value of this key says it
abbrev pub choice : List ℕ → Option Bool → Result Bool SkinFault
choice key None = Err (at_key key wrong_kind)
choice key (Some b) = Ok b

-- the same, as a member of this key says it, or as it was
abbrev pub choice_found : List ℕ → Option Data → Bool → Result Bool SkinFault
choice_found key None old = Ok old
choice_found key (Some d) old = choice key (as_bool d)

-- the same, as an object says it
abbrev pub choice_under : List ℕ → Data → Bool → Result Bool SkinFault
choice_under key d old = choice_found key (get key d) old

-- which headings have rules and signs, and whether marks stand at words, as an object says it
abbrev pub headings_under : Data → HeadingMarks → Result HeadingMarks SkinFault
headings_under d old =
    and_next (rules_found (get (codes "rules") d) old.rules) (λ rules.
    and_next (choice_found (codes "signs") (get (codes "signs") d) old.signs) (λ signs.
    and_next (choice_found (codes "marks") (get (codes "marks") d) old.words) (λ words. Ok (record { rules = rules; signs = signs; words = words }))))

-- a count of columns under this key, if a number says it that is below 65,536
abbrev pub column_count : List ℕ → Option ℕ → Result ℕ SkinFault
column_count key None = Err (at_key key wrong_kind)
column_count key (Some n) = if nat_lt n 65536 then Ok n else Err (at_key key wrong_kind)

-- the columns that a member of this key says, or as they were
abbrev pub columns_found : List ℕ → Option Data → ℕ → Result ℕ SkinFault
columns_found key None old = Ok old
columns_found key (Some d) old = column_count key (option_and_then as_u64 (as_number d))

-- the columns that a pager gives the text, as an object says it
abbrev pub room_under : Data → TextRoom → Result TextRoom SkinFault
room_under d old =
    and_next (columns_found (codes "columns") (get (codes "columns") d) old.columns) (λ columns. and_next (columns_found (codes "margin") (get (codes "margin") d) old.margin) (λ margin. Ok (record { margin = margin; columns = columns })))
