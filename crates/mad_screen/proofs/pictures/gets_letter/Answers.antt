use Rattle.std.proofs.Common.{◌≡◌, Bool, map, not, true, false, refl, sym, ◌∙◌, arith}
use Rattle.std.proofs.lemmas.Bool.{le-ltb, false≢true}
use Rattle.std.proofs.lemmas.List.{length-map}
use Rattle.mad_screen.specs.Glyph.{look_of}
use Rattle.mad_screen.proofs.LooksLemmas.{any_look, gets_if_new}
use Rattle.mad_screen.proofs.pictures.gets_letter.Goals.{then-pens-lt-LETTERS, else-pens-lt-LETTERS}
use Rattle.mad_screen.proofs.pictures.gets_letter.Goals as goal

not_is : (b : Bool) → not b ≡ true → b ≡ false
not_is false _ = refl
not_is true h = absurd (false≢true h)

pub returns-then-not-is_plain : goal.returns-then-not-is_plain
returns-then-not-is_plain c =
    let known = map look_of c.args.pens.now in
    let inside = c.contains.ensures.value ∙ any_look c.args.pens.now (look_of c.args.pen) in
    elim c.if-pens-lt-LETTERS.branch [
      | then-pens-lt-LETTERS w ↦
          gets_if_new known (look_of c.args.pen) _ (omega (arith, length-map c.args.pens.now look_of, w.if-pens-lt-LETTERS.true)) (sym w.is_plain.ensures ∙ not_is _ (sym w.value-is ∙ c.if-not-is_plain.true)) inside
      | else-pens-lt-LETTERS w ↦
          absurd (false≢true (sym (le-ltb _ _ w.if-pens-lt-LETTERS.false) ∙ sym w.value-is ∙ c.if-not-is_plain.true))
    ]
