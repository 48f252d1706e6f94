-- Each size that counts is the answer to a question.
use Rattle.std.proofs.Common.{◌≡◌, ℕ, ◌+◌, ◌-◌, ◌<◌, ◌==◌, Bool, true, false, List, [], ◌∷◌, count_by, Option, Some, None, option_map, refl, ap, ◌∙◌, if◌then◌else◌, arith}
use Rattle.std.proofs.lemmas.Bool.Decides.{nat_tests}
use Rattle.std.proofs.lemmas.List.Sums.{sum_by-append}
use Rattle.mad_term.specs.declared.events.Event.{Event}
use Rattle.mad_term.specs.declared.events.Event.TheVariants.{Key, Mouse, Resize, FocusGained, FocusLost}
use Rattle.mad_input.specs.Hearing.{ByteHears, IsTypedRead, TypedHears, afresh, all_heard, awaited_after, heard_typed, within_string}
use Rattle.mad_input.specs.Laws.{SizesAreAnswers, is_size}
use Rattle.mad_input.specs.Marks.{begins_string, says_ready}
use Rattle.mad_input.specs.declared.input.Heard.{Heard}
use Rattle.mad_input.specs.declared.input.Heard.TheVariants.{Typed, Pasted}
use Rattle.mad_input.specs.declared.input.Mode.{Mode}
use Rattle.mad_input.specs.declared.input.Mode.TheVariants.{Types, Pastes, Drops, Escapes}
use Rattle.mad_input.specs.declared.input.TerminalInput.{TerminalInput}

-- the sizes that are heard, and the answers that count then, are as many as counted before
abbrev Counts : ℕ → Option Heard → ℕ → Type 0
Counts before heard after = count_by is_size (all_heard heard) + after ≡ before

zero_plus : (n : ℕ) → 0 + n ≡ n
zero_plus n = omega arith

size_counts : (n c r : ℕ) → Counts n (if n == 0 then None else Some (Typed (Resize c r))) (n - 1)
size_counts n c r =
    elim (n == 0) as (λ (b : Bool). (n == 0) ≡ b → Counts n (if b then None else Some (Typed (Resize c r))) (n - 1)) [
      | true ↦ λ is. let none : n ≡ 0 = grind (arith, nat_tests) in omega (arith, none)
      | false ↦ λ is. let some : 0 < n = grind (arith, nat_tests) in omega (arith, some)
    ] refl

-- what is typed
event_counts : (n : ℕ) (ready : Bool) (event : Option Event) → Counts n (heard_typed n ready event) (awaited_after n event)
event_counts n true None = zero_plus n
event_counts n false None = zero_plus n
event_counts n ready (Some (Key key)) = zero_plus n
event_counts n ready (Some (Mouse mouse)) = zero_plus n
event_counts n ready (Some (Resize c r)) = size_counts n c r
event_counts n ready (Some FocusGained) = zero_plus n
event_counts n ready (Some FocusLost) = zero_plus n

-- nothing is heard
none_counts : (n : ℕ) (heard : Option Heard) (after : ℕ) → heard ≡ None → after ≡ n → Counts n heard after
none_counts n heard after none same = ap (λ (o : Option Heard). count_by is_size (all_heard o) + after) none ∙ (zero_plus after ∙ same)

read_counts : (s : TerminalInput) (b : ℕ) (heard : Option Heard) (new : TerminalInput) → IsTypedRead s b heard new → Counts s.awaited heard new.awaited
read_counts s b heard new (event, left, gives, is, after) =
    ap (λ (o : Option Heard). count_by is_size (all_heard o) + new.awaited) is
    ∙ (ap (λ (t : TerminalInput). count_by is_size (all_heard (heard_typed s.awaited (says_ready s.since b) event)) + t.awaited) after ∙ event_counts s.awaited (says_ready s.since b) event)

typed_counts : (s : TerminalInput) (b : ℕ) (heard : Option Heard) (new : TerminalInput) → TypedHears s b heard new → Counts s.awaited heard new.awaited
typed_counts s b heard new h =
    elim (begins_string s.since b) as (λ (t : Bool). begins_string s.since b ≡ t → Counts s.awaited heard new.awaited) [
      | true ↦ λ is. let both = h.string is in none_counts s.awaited heard new.awaited both.0 (ap (λ (t : TerminalInput). t.awaited) both.1)
      | false ↦ λ is. read_counts s b heard new (h.other is)
    ] refl

-- what is pasted
pasted_counts : (event : Option Event) → count_by is_size (all_heard (option_map Pasted event)) ≡ 0
pasted_counts None = refl
pasted_counts (Some event) = refl

within_counts : (b : ℕ) (s : TerminalInput) → (within_string b s).awaited ≡ s.awaited
within_counts b s =
    elim (b == 7) as (λ (t : Bool). (if t then afresh s else if b == 27 then record s { mode = Escapes } else s).awaited ≡ s.awaited) [
      | true ↦ refl
      | false ↦ elim (b == 27) as (λ (t : Bool). (if t then record s { mode = Escapes } else s).awaited ≡ s.awaited) [ true ↦ refl | false ↦ refl ]
    ]

-- one byte
byte_counts : (mode : Mode) (s : TerminalInput) (b : ℕ) (heard : Option Heard) (new : TerminalInput) → ByteHears mode s b heard new → Counts s.awaited heard new.awaited
byte_counts Types s b heard new h = typed_counts s b heard new h
byte_counts Pastes s b heard new (event, left, gives, is, after) =
    let none : count_by is_size (all_heard heard) ≡ 0 = ap (λ (o : Option Heard). count_by is_size (all_heard o)) is ∙ pasted_counts event in
    let same : new.awaited ≡ s.awaited = ap (λ (t : TerminalInput). t.awaited) after in
    omega (arith, none, same)
byte_counts Drops s b heard new (none, after) = none_counts s.awaited heard new.awaited none (ap (λ (t : TerminalInput). t.awaited) after ∙ within_counts b s)
byte_counts Escapes s b heard new h =
    elim (b == 92) as (λ (t : Bool). (b == 92) ≡ t → Counts s.awaited heard new.awaited) [
      | true ↦ λ is. let both = h.ends is in none_counts s.awaited heard new.awaited both.0 (ap (λ (t : TerminalInput). t.awaited) both.1)
      | false ↦ λ is. typed_counts _ b heard new (h.other is)
    ] refl

-- all of them
pub sizes_counted : SizesAreAnswers
sizes_counted s [] heard new (none, same) = ap (λ (l : List Heard). count_by is_size l + new.awaited) none ∙ (zero_plus new.awaited ∙ ap (λ (t : TerminalInput). t.awaited) same)
sizes_counted s (b ∷ bytes) heard new (one, mid, others, first, rest, are) =
    let here : count_by is_size (all_heard one) + mid.awaited ≡ s.awaited = byte_counts s.mode s b one mid first in
    let later : count_by is_size others + new.awaited ≡ mid.awaited = sizes_counted mid bytes others new rest in
    let both : count_by is_size heard ≡ count_by is_size (all_heard one) + count_by is_size others = ap (count_by is_size) are ∙ sum_by-append _ (all_heard one) others in
    omega (arith, here, later, both)
