-- What a text among the values says.
use Rattle.std.specs.Prelude.{ℕ, List, Option, Some, None, Result, Ok, Err}
use Rattle.std.specs.Result.{result_map_both}
use Rattle.mad_parse.specs.StyleTokens.{Fault}
use Rattle.mad_parse.specs.Reading.{tokens_of, said}
use Rattle.mad_parse.specs.declared.tokens.StyleToken.{StyleToken}
use Rattle.serde_json.specs.Data.{Data}
use Rattle.serde_json.specs.Find.{as_str}
use Rattle.mad_json.specs.Faults.{ValueFault, wrong_kind, bad_text}

-- what is read, or the fault of its text
abbrev pub of_text : {A : Type 0} → Result A Fault → Result A ValueFault
of_text r = result_map_both (λ x. x) bad_text r

-- what the tokens of a text say, where there is one
abbrev pub text_said : {A : Type 0} → (List StyleToken → A) → Option (List ℕ) → Result A ValueFault
text_said f None = Err wrong_kind
text_said f (Some text) = of_text (said f (tokens_of text))

-- what the tokens of a value say that is a text
abbrev pub value_said : {A : Type 0} → (List StyleToken → A) → Data → Result A ValueFault
value_said f d = text_said f (as_str d)

-- what is made of what was read
abbrev pub made : {A B : Type 0} → (A → B) → Result A ValueFault → Result B ValueFault
made f r = result_map_both f (λ fault. fault) r

-- what is read next, unless there is a fault
abbrev pub and_next : {A B E : Type 0} → Result A E → (A → Result B E) → Result B E
and_next (Ok x) next = next x
and_next (Err fault) next = Err fault
