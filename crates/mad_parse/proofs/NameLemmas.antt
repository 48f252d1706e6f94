-- Names of another length are other names.
use Rattle.std.proofs.Common.{◌≡◌, ℕ, ◌+◌, ◌<◌, ◌==◌, Bool, false, Decides, List, ◌∷◌, Option, Some, Bor, map, drop, get_or, length, sym, ap, ◌∙◌, arith, cond, eq-eqb, true≢false, inl, inr}
use Rattle.std.specs.Char.{to_ascii_lowercase}
use Rattle.std.proofs.lemmas.List.{length-map, at_drop_more}
use Rattle.std.proofs.lemmas.Slice.Eq.{bytes_eq-Decides}
use Rattle.std.proofs.lemmas.Bool.{cases_Bool}
use Rattle.std.proofs.lemmas.Bool.Decides.{same_from_decides}
use Rattle.mad_parse.specs.Names.{is_named, named}

-- a text is no name that has another length
pub other_length : (text name : List ℕ) → (length name == length text) ≡ false → is_named text name ≡ false
other_length text name e =
    elim (cases_Bool (is_named text name)) as (λ _. is_named text name ≡ false) [
      | inl same ↦
          let lowered : map to_ascii_lowercase text ≡ map to_ascii_lowercase name = (bytes_eq-Decides (map to_ascii_lowercase text) (map to_ascii_lowercase name)).0 same in
          let n : length name ≡ length text = omega (arith, ap length lowered, length-map text to_ascii_lowercase, length-map name to_ascii_lowercase) in
          absurd (true≢false (sym (eq-eqb (length name) (length text) n) ∙ e))
      | inr other ↦ other
    ]

-- what the entries of a table have for a text
abbrev pub looked_up : {A : Type 0} → List ℕ → List (Bor (List ℕ) × A) → Option A
looked_up text entries = named (map (λ entry. (entry.0.now, entry.1)) entries) text

-- a test in any ASCII case
pub named_by : (text name : List ℕ) (test : Bool) → Decides test (map to_ascii_lowercase text ≡ map to_ascii_lowercase name) → is_named text name ≡ test
named_by text name test decides = sym (same_from_decides test (is_named text name) decides (bytes_eq-Decides (map to_ascii_lowercase text) (map to_ascii_lowercase name)))

-- the entries from an index on: the value of the first, if its name is the text, or else what the others have
pub looked_up_next : {A : Type 0} (entries : List (Bor (List ℕ) × A)) (text : List ℕ) (i : ℕ) (entry : Bor (List ℕ) × A) (same : Bool) → i < length entries → entry ≡ get_or entries i entry → is_named text entry.0.now ≡ same → cond same (Some entry.1) (looked_up text (drop (i + 1) entries)) ≡ looked_up text (drop i entries)
looked_up_next entries text i entry same within at decided =
    let others = drop (i + 1) entries in
    sym (ap (λ b. cond b (Some entry.1) (looked_up text others)) decided)
    ∙ ap (λ e. looked_up text (e ∷ others)) at
    ∙ sym (at_drop_more (looked_up text) entries i entry within)
