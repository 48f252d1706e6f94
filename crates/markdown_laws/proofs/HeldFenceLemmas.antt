-- Code in a container that no line closes ends with the container.
use Rattle.std.proofs.Common.{◌≡◌, ℕ, false, true, List, [], ◌∷◌, ◌++◌, map, drop, refl, sym, ap, subst, ◌∙◌}
use Rattle.std.proofs.lemmas.Bool.{and_parts}
use Rattle.std.specs.List.{list_all}
use Rattle.markdown_marks.specs.Remaining.{Remaining}
use Rattle.markdown_blocks.specs.Events.{events_from}
use Rattle.markdown_blocks.specs.Lines.{text_lines}
use Rattle.markdown_blocks.specs.Steps.{State, Step, step}
use Rattle.markdown_blocks.specs.declared.containers.Container.{Container}
use Rattle.markdown_blocks.proofs.WithinLemmas.{at_first}
use Rattle.markdown_leaves.specs.Gather.{Gathering, nothing_told, closed}
use Rattle.markdown_leaves.specs.Parts.{BlockContent, PartContent, begins, ends, block}
use Rattle.markdown_leaves.specs.Told.{told, parts_of}
use Rattle.markdown_laws.specs.Fences.{BeginsCode, IsCode, is_inside}
use Rattle.markdown_laws.specs.Quotes.{has_room, spelled}
use Rattle.markdown_laws.proofs.AroundLemmas.{fits_from}
use Rattle.markdown_laws.proofs.FenceLemmas.{begun_code, code_of, code_with, ended, fence_went, is_code, lines_of, not_closing, nothing_open, open_fence, read_of, stays}
use Rattle.markdown_laws.proofs.FlatLemmas.{flat, flat_event, flat_part, flat_told, spelled_flat, told_flat}
use Rattle.markdown_laws.proofs.HeldLemmas.{AllGoOn, BeginsIn, IsOutside, behind_lines, begun_in, container_events, container_then, ended_flat, fits_flat}
use Rattle.markdown_laws.proofs.RoomLemmas.{rooms_of}

-- a fence stays open behind lines that don't close it
stays_open : (sign length indent : ℕ) (lines : List (List ℕ)) → list_all (is_inside sign length) lines ≡ true → behind_lines (open_fence sign length indent) lines ≡ open_fence sign length indent
stays_open sign length indent [] h = refl
stays_open sign length indent (line ∷ lines) h =
    let both = and_parts (is_inside sign length line) (list_all (is_inside sign length) lines) h in
    ap (λ (s : Step). behind_lines s.state lines) (stays indent sign length line (not_closing _ both.0)) ∙ stays_open sign length indent lines both.1

code_closed : (lines : List Remaining) → closed (code_with lines) ≡ nothing_open (block (code_of lines) ∷ [])
unfolding closed
code_closed lines = refl

-- code is its lines, whatever column they stand at
spelled_code : (lines : List Remaining) → spelled (block (code_of (map flat lines))) ≡ spelled (block (code_of lines))
spelled_code lines = ap (λ (ps : List PartContent). first_of ps) (spelled_flat (block (code_of lines) ∷ []))
  where
    first_of : List PartContent → PartContent
    first_of [] = ends
    first_of (p ∷ ps) = p

-- The first lines of a text are in a container: code that no line closes. What comes after, where the container doesn't go on, is a text of its own.
pub fence_held : (container : Container) (text after line first fence : List ℕ) (texts lines : List (List ℕ)) (indent sign length : ℕ) → text_lines text ≡ line ∷ (texts ++ text_lines after)
    → BeginsIn container line first → AllGoOn container (step at_first first).state texts lines → BeginsCode first indent sign length fence → list_all (is_inside sign length) lines ≡ true
    → IsOutside container (open_fence sign length indent) (text_lines after)
    → told (begun_in container) (map flat_event (events_from at_first (first ∷ lines))) ≡ told nothing_told (map flat_event (events_from at_first (first ∷ lines)))
    → (code : BlockContent) × IsCode code (drop length fence) indent lines × (map spelled (parts_of text) ≡ begins container false ∷ spelled (block code) ∷ ends ∷ map spelled (parts_of after))
fence_held container text after line first fence texts lines indent sign length are begun on h inside out same =
    let found = begun_code indent sign length first fence h in
    let code = lines_of found.0 indent lines in
    let held = events_from at_first (first ∷ lines) in
    let others = events_from at_first (text_lines after) in
    let went = fence_went sign length indent first found.0 lines found.2 inside in
    let told_parts : ended nothing_told held ≡ block (code_of code) ∷ [] = ap (λ (g : Gathering). (closed g).parts) went ∙ ap (λ (g : Gathering). g.parts) (code_closed code) in
    let last : behind_lines at_first (first ∷ lines) ≡ open_fence sign length indent = ap (λ (s : Step). behind_lines s.state lines) found.2 ∙ stays_open sign length indent lines inside in
    let happens = container_events container line first texts lines (text_lines after) begun on (rooms_of held 63 nothing_told refl (ap (λ (ps : List PartContent). has_room 63 ps) told_parts))
    (subst (λ (s : State). IsOutside container s (text_lines after)) (sym last) out) in
    let flat_code : closed (told (begun_in container) (map flat_event held)) ≡ nothing_open (block (code_of (map flat code)) ∷ []) =
    ap closed (same ∙ told_flat held nothing_told ∙ ap flat_told went) ∙ code_closed (map flat code) in (
      code_of code,
      is_code found.0 (drop length fence) indent lines found.1,
      sym (spelled_flat (parts_of text))
          ∙ ap (λ (ps : List PartContent). map spelled (map flat_part ps)) (read_of text ∙ ap (λ (ls : List (List ℕ)). ended nothing_told (events_from at_first ls)) are)
          ∙ ap (map spelled) (ended_flat (events_from at_first (line ∷ (texts ++ text_lines after))) ∙ ap (ended nothing_told) happens
          ∙ container_then container (map flat_event held) (map flat_event others) (block (code_of (map flat code)) ∷ []) (fits_flat 0 held ∙ fits_from (first ∷ lines) at_first) flat_code)
          ∙ ap (λ (p : PartContent). begins container false ∷ p ∷ ends ∷ map spelled (ended nothing_told (map flat_event others))) (spelled_code code)
          ∙ ap (λ (ps : List PartContent). begins container false ∷ spelled (block (code_of code)) ∷ ends ∷ ps) (ap (map spelled) (sym (ended_flat others)) ∙ spelled_flat (ended nothing_told others) ∙ ap (map spelled) (sym (read_of after))),
    )
