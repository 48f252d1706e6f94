-- What is wrong with a text that says no skin of a page.
use Rattle.std.specs.Prelude.{◌≡◌, ◌++◌, ℕ, List, [], codes, Option, Some, None, Result, Ok, Err}
use Rattle.serde_json.specs.Data.{Data}
use Rattle.mad_parse.specs.Errors.{color_error_text}
use Rattle.mad_parse.specs.StyleTokens.{Fault, unrecognized, bad_color}
use Rattle.mad_json.specs.Faults.{SkinFault, ValueFault, not_object, at_key, two_names, wrong_kind, bad_text}
use Rattle.mad_page_json.specs.PageReading.{page_skin_read}

-- what is said of a text that is no list of style tokens
abbrev pub said_of_token : Fault → List ℕ
said_of_token (unrecognized text) = text ++ codes " not recognized as a style token"
said_of_token (bad_color error) = codes "Invalid color: " ++ color_error_text error

-- what is said of a key's value
abbrev pub said_of_key : List ℕ → ValueFault → List ℕ
said_of_key key wrong_kind = codes "wrong type: " ++ key
said_of_key key (bad_text fault) = key ++ (codes ": " ++ said_of_token fault)

-- what is said of a value that is no skin
abbrev pub said_of_skin : SkinFault → List ℕ
said_of_skin not_object = codes "not an object"
said_of_skin (at_key key fault) = said_of_key key fault
said_of_skin (two_names key) = codes "two names: " ++ key

-- what is said of the first fault of a value; nothing, where it says a skin
abbrev pub fault_said : {A : Type 0} → Result A SkinFault → List ℕ
fault_said (Ok skin) = []
fault_said (Err fault) = said_of_skin fault

-- what is said of a text: that it is no JSON, or the first fault of its value
abbrev pub text_fault_said : Option Data → List ℕ
text_fault_said None = codes "no JSON"
text_fault_said (Some d) = fault_said (page_skin_read d)
