-- Lines that change places.
use Rattle.std.proofs.Common.{ℕ, ◌<◌, ◌≡◌, List, [], length, set, get_or, sym, ◌∙◌, arith, subst}
use Rattle.std.specs.Prelude.{All}
use Rattle.std.specs.List.{swap}
use Rattle.std.proofs.lemmas.List.Edits.{swap_is, length-swap}
use Rattle.std.proofs.lemmas.List.Elements.{All-set, All-get_or, All-same}
use Rattle.mad_edit_lines.specs.TextLines.{lines, text_of, IsLineText}
use Rattle.mad_edit.proofs.SplitLemmas.{lines-text_of}

-- lines of which two were exchanged are lines still
pub swapped_texts : (ls new : List (List ℕ)) (a b : ℕ) → a < length ls → b < length ls → All IsLineText ls → new ≡ swap ls a b → All IsLineText new
swapped_texts ls new a b ha hb texts e =
    All-same IsLineText new (set (set ls a (get_or ls b [])) b (get_or ls a [])) (e ∙ sym (swap_is ls a b [] ha hb))
    (All-set IsLineText (set ls a (get_or ls b [])) b (get_or ls a []) (All-get_or IsLineText ls a [] ha texts)
    (All-set IsLineText ls a (get_or ls b []) (All-get_or IsLineText ls b [] hb texts) texts))

-- and they are the lines of their text
pub swapped_lines : (ls new : List (List ℕ)) (a b : ℕ) → a < length ls → b < length ls → All IsLineText ls → new ≡ swap ls a b → lines (text_of new) ≡ new
swapped_lines ls new a b ha hb texts e =
    let size = length-swap ls a b in
    let some : 0 < length new = subst (λ (l : List (List ℕ)). 0 < length l) (sym e) (omega arith) in
    lines-text_of new some (swapped_texts ls new a b ha hb texts e)
