use Rattle.std.proofs.Common.{rules, tests, sym, ap, ◌∙◌}
use Rattle.std.proofs.lemmas.Iterator.{YieldsList-from_slice}
use Rattle.std.proofs.lemmas.Iterator.Search.{position_from_yields_List}
use Rattle.mad_screen.specs.Glyph.{look_of}
use Rattle.mad_screen.specs.Pictures.{nth_letter, same_look}
use Rattle.mad_screen.proofs.LooksLemmas.{letter_below, letter_past, letter_found}
use Rattle.mad_screen.proofs.pictures.Looks.letter.Goals.{In_default, in_default-via-in-Some+else-index-lt-LETTERS, in_default-via-in_default}
use Rattle.mad_screen.proofs.pictures.Looks.letter.Goals as goal

pub returns-in-Some : goal.returns-in-Some
returns-in-Some c =
    let pen = look_of c.args.pen in
    let found = position_from_yields_List (λ k. same_look (look_of k) pen) _ _ c.position.result c.position.ensures.ran (YieldsList-from_slice _ c.iter.ensures.rest) (λ x b q k. search (rules, tests)) in
    let named = letter_found c.deref.result.now c.args.self.now.pens.items pen c.position.result c.deref.ensures.value c.if-is_plain.ensures found in
    c.from.ensures ∙ letter_below c.in-Some.index c.position.result c.in-Some.is c.if-index-lt-LETTERS.true ∙ named

pub returns-in_default : goal.returns-in_default
returns-in_default c =
    let pen = look_of c.args.pen in
    let found = position_from_yields_List (λ k. same_look (look_of k) pen) _ _ c.position.result c.position.ensures.ran (YieldsList-from_slice _ c.iter.ensures.rest) (λ x b q k. search (rules, tests)) in
    let named = letter_found c.deref.result.now c.args.self.now.pens.items pen c.position.result c.deref.ensures.value c.if-is_plain.ensures found in
    elim c.in_default.branch [
      | in_default-via-in-Some+else-index-lt-LETTERS w ↦ letter_past w.in-Some.index c.position.result w.in-Some.is w.if-index-lt-LETTERS.false ∙ named
      | in_default-via-in_default w ↦ ap nth_letter (sym w.in_default.is) ∙ named
    ]
